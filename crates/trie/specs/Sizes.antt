-- More words, more nodes.
use Rattle.std.specs.Prelude.{◌≤◌, ◌≡◌, refl, List, [], ◌∷◌, ◌++◌}
use Rattle.std.proofs.Common.{arith}
use Rattle.rules.specs.Words.{Word}
use Rattle.trie.specs.Model.{Trie, root, size, add_word, add_all, holding}
use Rattle.trie.specs.Grow.{add_grows}

pub all_grows : (t : Trie) (ws : List Word) → size t ≤ size (add_all t ws)
unfolding add_all
all_grows t [] = omega arith
all_grows t (w ∷ ws) = omega (arith, add_grows t 0 w, all_grows (add_word t 0 w) ws)

all_append : (t : Trie) (ws vs : List Word) → add_all t (ws ++ vs) ≡ add_all (add_all t ws) vs
unfolding add_all
all_append t [] vs = refl
all_append t (w ∷ ws) vs = all_append (add_word t 0 w) ws vs

pub holding_grows : (ws vs : List Word) → size (holding ws) ≤ size (holding (ws ++ vs))
holding_grows ws vs = rw (all_append root ws vs) (all_grows (holding ws) vs)
