-- Laws of tests that mark a trie of other words.
use Prim.Native.Nat.{ℕ, ◌<◌}
use native.Mathlib.Omega.{arith}
use mathlib.Core.Path.{◌≡◌, refl, sym, ◌∙◌, ap}
use mathlib.Core.Logic.{inl, inr}
use mathlib.Core.List.{List, [], ◌∷◌}
use mathlib.Core.Bool.{Bool, true, false, ◌||◌}
use lib.ListN.{length}
use Rattle.std.specs.Prelude.{Option, Some, None}
use Rattle.rules.specs.Words.{Word, same, is_in}
use Rattle.theory.specs.Lists.{outcome}
use Rattle.theory.specs.Words.{same_true}
use Rattle.trie.specs.Model.{Trie, Proper, size, word_of, walk_from}
use Rattle.trie.specs.Holds.{Holds}
use Rattle.trie.specs.Words.{has_reaches, off_at, root_walk}
use Rattle.trie.specs.Values.{marks_of, Noted}
use Rattle.judge_pairing.specs.Marked.{Marking, Knowing}

pub marking_begin : (t : Trie) (all : List Word) (marks : List ℕ) → Noted t (marks_of []) marks → Marking t all all marks
marking_begin t all marks blank = record { seen = []; noted = blank; split = λ w has. refl }

or_false : (b : Bool) → (b || false) ≡ b
or_false true = refl
or_false false = refl

-- one word goes from the rest to those that are seen
turn : (a b c : Bool) → (b || (a || c)) ≡ ((a || b) || c)
turn true true c = refl
turn true false c = refl
turn false b c = refl

module _ (t : Trie) (w : Word) (r : Option ℕ) (proper : Proper t) (walked : r ≡ walk_from t 0 w) where
  pub node_inside : (label first next marks : List ℕ) (node : ℕ) → Holds t label first next → length marks ≡ length label → r ≡ Some node → node < length marks
  node_inside label first next marks node holds long is = omega (arith, (root_walk proper w r node walked is).0, holds.room)

  -- the trie has the word, which is marked now
  pub marking_at : (node : ℕ) → r ≡ Some node → (all rest : List Word) (marks marks' : List ℕ) → Marking t all (w ∷ rest) marks
      → ((ws : List Word) → Noted t (marks_of ws) marks → node < size t → Noted t (marks_of (word_of t node ∷ ws)) marks') → Marking t all rest marks'
  marking_at node is all rest marks marks' x marked =
      let (less, word) = root_walk proper w r node walked is in
      record {
        seen = w ∷ x.seen;
        noted = rw word at (marked x.seen x.noted less);
        split = λ v has. x.split v has ∙ turn (same v w) (is_in v x.seen) (is_in v rest);
      }

  -- the trie does not have it
  pub marking_off : r ≡ None → (all rest : List Word) (marks : List ℕ) → Marking t all (w ∷ rest) marks → Marking t all rest marks
  marking_off off all rest marks x =
      record {
        seen = x.seen;
        noted = x.noted;
        split = λ v has.
            let other : same v w ≡ false =
            elim (outcome (same v w)) [
              | inl e ↦ let (j, f) = has_reaches proper w (rw (← (same_true v w e)) has) in off_at r j off (walked ∙ f)
              | inr e ↦ e
            ] in
            x.split v has ∙ rw other;
      }

-- A word of the trie is a test exactly where it is marked.
module _ (tests words : List Word) (label first next marks : List ℕ) (x : Knowing tests words label first next marks) (w : Word) (there : is_in w words ≡ true) (r : Option ℕ)
    (walked : r ≡ walk_from x.trie 0 w) where
  pub known_at : (node : ℕ) → r ≡ Some node → (told : Bool) → ((ws : List Word) → Noted x.trie (marks_of ws) marks → node < size x.trie → told ≡ is_in (word_of x.trie node) ws) → told ≡ is_in w tests
  known_at node is told asked =
      let (less, word) = root_walk x.holds.proper w r node walked is in
      asked x.marked.seen x.marked.noted less
      ∙ ap (λ v. is_in v x.marked.seen) word
      ∙ sym (x.marked.split w (x.has w there) ∙ or_false (is_in w x.marked.seen))

  pub known_off : {A : Type 0} → r ≡ None → A
  known_off off = let (j, f) = has_reaches x.holds.proper w (x.has w there) in off_at r j off (walked ∙ f)
