-- Laws of the walks that the search for a missing word makes in the trie of the tests.
use Prim.Native.Nat.{ℕ, zero, suc, ◌+◌, ◌-◌, ◌/◌, ◌%◌, ◌≤◌, ◌<◌}
use native.Mathlib.Omega.{arith}
use native.Mathlib.Decide.{ℕ_discrete}
use mathlib.Core.Path.{◌≡◌, refl, sym, ◌∙◌, ap}
use mathlib.Core.List.{List, [], ◌∷◌, ◌++◌}
use mathlib.Core.Bool.{Bool, true}
use lib.ListN.{length, get_or, set, length-set}
use lib.Seq.{get_or-set_same, get_or-set_other}
use Rattle.std.specs.Prelude.{Option, Some, None, is_some}
use Rattle.rules.specs.Lists.{any}
use Rattle.rules.specs.Words.{Word, begins, is_in, words_of, shortlex}
use Rattle.middles.specs.Parents.{parent_place, parent_before, grows_from, parents_most}
use Rattle.trie.specs.Model.{Trie, size, word_of, walk_from, holding, Proper}
use Rattle.trie.specs.Holds.{ChildOf}
use Rattle.trie.specs.Values.{marks_of, Noted}
use Rattle.trie.specs.Words.{root_walk, walk_some, walk_none, walk_word, walk_on, walk_at, begins_at, begins_off, holding_proper}
use Rattle.checker_ways.specs.Kept.{KeptAt}

-- what the question whether a node is marked answers
abbrev pub Tells : List ℕ → ℕ → Bool → Type 0
Tells marks node b = (t : Trie) (ws : List Word) → Noted t (marks_of ws) marks → node < size t → b ≡ is_in (word_of t node) ws

-- a walk from the root along w ended at a node
module _ {t : Trie} (v : Proper t) (r : Option ℕ) (w : Word) (node : ℕ) (walked : r ≡ walk_from t 0 w) (at : r ≡ Some node) where
  pub root_known : (marks : List ℕ) (b : Bool) → Tells marks node b → b ≡ true → (ws : List Word) → Noted t (marks_of ws) marks → is_in w ws ≡ true
  root_known marks b tells yes_marked ws noted =
      let (less, word) = root_walk v w r node walked at in
      ap (λ (u : Word). is_in u ws) (sym word) ∙ sym (tells t ws noted less) ∙ yes_marked

-- a walk from the node p along w
module _ {t : Trie} (v : Proper t) (r : Option ℕ) (w : Word) (p : ℕ) (below : p < size t) (walked : r ≡ walk_from t p w) where
  pub node_walk : walk_from t 0 (word_of t p ++ w) ≡ r
  node_walk = walk_on t 0 p (word_of t p) w (walk_at v p below) ∙ sym walked

  pub node_off : r ≡ None → walk_from t 0 (word_of t p ++ w) ≡ None
  node_off off = node_walk ∙ off

  module _ (node : ℕ) (at : r ≡ Some node) where
    pub node_to : (node < size t) × (word_of t node ≡ word_of t p ++ w)
    node_to = walk_word v p node w below (sym walked ∙ at)

    pub node_known : (marks : List ℕ) (b : Bool) → Tells marks node b → b ≡ true → (ws : List Word) → Noted t (marks_of ws) marks → is_in (word_of t p ++ w) ws ≡ true
    node_known marks b tells yes_marked ws noted =
        let (less, word) = node_to in
        ap (λ (u : Word). is_in u ws) (sym word) ∙ sym (tells t ws noted less) ∙ yes_marked

-- what the walk says of the tests
pub tests_told : (tests : List Word) → 0 < length tests → (r : Option ℕ) (w : Word) (p : ℕ) → p < size (holding tests) → r ≡ walk_from (holding tests) p w
    → is_some r ≡ any (begins (word_of (holding tests) p ++ w)) tests
tests_told [] some r w p below walked = absurd (omega arith)
tests_told (u ∷ us) some (Some node) w p below walked =
    begins_at u us (word_of (holding (u ∷ us)) p ++ w) (Some node) node (sym (node_walk (holding_proper (u ∷ us)) (Some node) w p below walked)) refl
tests_told (u ∷ us) some None w p below walked =
    begins_off u us (word_of (holding (u ∷ us)) p ++ w) None (sym (node_walk (holding_proper (u ∷ us)) None w p below walked)) refl

-- Nodes of middles.

-- the empty word is the first middle
pub shortlex_starts : (k b : ℕ) → (l : List Word) × (shortlex k b ≡ [] ∷ l)
unfolding shortlex words_of
shortlex_starts k zero = ([], refl)
shortlex_starts k (suc b) = let (l, e) = shortlex_starts k b in (l ++ words_of k (suc b), rw e)

module _ (t : Trie) (from k longest y : ℕ) (nodes : List ℕ) where
  abbrev M : List Word
  M = shortlex k longest

  pub walk_first : y ≡ 0 → Some from ≡ walk_from t from (get_or M y [])
  unfolding walk_from
  walk_first none = let (l, e) = shortlex_starts k longest in rw (none, e)

  module _ (more : y ≡ 0 → ⊥) (less : y < length M) where
    -- the middle that it grows from has a place
    pub parent_kept : k ≤ 16 → longest ≤ 5 → length nodes ≡ 69905 → (y - 1) / k < length nodes
    parent_kept few short places =
        let (some, up) = parent_place k y more longest less in
        omega (arith, up, parents_most k (longest - 1) few (omega (arith, some)))

    module _ (kept : KeptAt t from M nodes y) (inside : (y - 1) / k < length nodes) where
      parent_walk : walk_from t from (get_or M ((y - 1) / k) []) ≡ Some (get_or nodes ((y - 1) / k) 0)
      parent_walk = kept ((y - 1) / k) (parent_before k y more) inside

      pub parent_below : Proper t → from < size t → get_or nodes ((y - 1) / k) 0 < size t
      parent_below proper below = (walk_word proper from _ _ below parent_walk).0

      step_is : walk_from t from (get_or M y []) ≡ walk_from t (get_or nodes ((y - 1) / k) 0) ((y - 1) % k ∷ [])
      step_is = ap (walk_from t from) (grows_from k y more longest less) ∙ walk_on t from _ (get_or M ((y - 1) / k) []) ((y - 1) % k ∷ []) parent_walk

      pub step_walk : (up : ℕ) → up ≡ get_or nodes ((y - 1) / k) 0 → (r : Option ℕ) → ChildOf t up ((y - 1) % k) r → r ≡ walk_from t from (get_or M y [])
      unfolding walk_from
      step_walk up is (Some to) (child, pos) =
          sym (step_is ∙ walk_some t _ _ [] (rw (← is) (λ e. omega (arith, child, e, pos))) ∙ ap Some (rw (← is) (sym child)))
      step_walk up is None none = sym (step_is ∙ walk_none t _ _ [] (rw (← is) none))

  -- a node more is kept
  pub kept_more : (node : ℕ) → KeptAt t from M nodes y → Some node ≡ walk_from t from (get_or M y []) → KeptAt t from M (set nodes y node) (y + 1)
  kept_more node kept here z less inside =
      let inside' : z < length nodes = omega (arith, length-set nodes y node) in
      elim (ℕ_discrete z y) [
        | yes e ↦ rw (e, get_or-set_same nodes y node 0 (rw e at inside')) (sym here)
        | no ne ↦ kept z (omega arith) inside' ∙ ap Some (sym (get_or-set_other nodes y z node 0 ne))
      ]
