-- Laws of measuring the words below a node, before any is written.
use Prim.Native.Nat.{ℕ, ◌+◌, ◌-◌, ◌≤◌, ◌<◌}
use mathlib.Core.Path.{◌≡◌, refl, ap, ◌∙◌}
use mathlib.Core.List.{List, [], ◌∷◌, ◌++◌}
use native.Mathlib.Omega.{arith}
use lib.ListN.{length, length-append}
use borrow.Author.Tests.{eq-eqb, ne_eqb}
use Rattle.std.specs.Prelude.{Some, None}
use Rattle.rules.specs.Words.{Word}
use Rattle.trie.specs.Model.{Trie, size, first_of, child_in}
use Rattle.trie.specs.Holds.{ChildOf}
use Rattle.trie_lister.specs.Visits.{gather, leaves, bytes_of, MeasureOf, bytes_append, bytes_one, bytes_none}
use Rattle.trie_lister.proofs.Writes.{turn, leaves_leaf, leaves_inner, gather_next, gather_end}

pub deeper : (u : Word) (a depth : ℕ) → length u ≡ depth → length (u ++ (a ∷ [])) ≡ depth + 1
deeper u a depth e = rw (length-append, e)

module _ (t : Trie) (k d i : ℕ) (u : Word) (words at room : ℕ) where
  module _ (deep : size t ≤ i + d) (there : i < size t) (leaf : first_of t i ≡ 0) (depth : ℕ) (long : length u ≡ depth) where
    pub measure_leaf : words ≤ at → at ≤ room → depth < room - at → MeasureOf (leaves t k d i u) words at room (Some (words + 1, at + 1 + depth))
    measure_leaf few in' fits =
        rw (leaves_leaf t k d i u deep there leaf, bytes_one u) (omega arith, omega arith, omega arith, omega arith)

    pub measure_over : at ≤ room → room - at ≤ depth → MeasureOf (leaves t k d i u) words at room None
    measure_over in' over = rw (leaves_leaf t k d i u deep there leaf, bytes_one u) (omega arith)

  -- where the loop over the inputs stands: n words end at pos, and those that the inputs from a on will give make up all
  abbrev pub Measuring : ℕ → ℕ → ℕ → Type 0
  Measuring a n pos =
      (n + length (gather (turn t k d i u) a (k - a)) ≡ words + length (leaves t k d i u)) × (pos + length (bytes_of (gather (turn t k d i u) a (k - a))) ≡ at + length (bytes_of (leaves t k d i u)))

  pub measuring_start : size t ≤ i + d → i < size t → (first_of t i ≡ 0 → ⊥) → Measuring 0 words at
  measuring_start deep there n = rw (leaves_inner t k d i u deep there n) (refl, refl)

  module _ (a n pos : ℕ) (so_far : Measuring a n pos) where
    pub measuring_skip : a < k → ChildOf t i a None → Measuring (a + 1) n pos
    measuring_skip less z =
        let g : turn t k d i u a ≡ [] = rw (eq-eqb (child_in t i a) 0 z) in
        rw (gather_next (turn t k d i u) a k less, g) at so_far

    module _ (j : ℕ) (less : a < k) (at_child : ChildOf t i a (Some j)) where
      abbrev here : List Word
      here = leaves t k (d - 1) j (u ++ (a ∷ []))

      abbrev later : List Word
      later = gather (turn t k d i u) (a + 1) (k - (a + 1))

      both : (n + (length here + length later) ≡ words + length (leaves t k d i u)) × (pos + (length (bytes_of here) + length (bytes_of later)) ≡ at + length (bytes_of (leaves t k d i u)))
      both =
          let g : turn t k d i u a ≡ here = rw (← at_child.0, ne_eqb j 0 (λ z. omega (arith, at_child.1))) in
          let all : gather (turn t k d i u) a (k - a) ≡ here ++ later = rw (gather_next (turn t k d i u) a k less, g) in
          let words_long : length (here ++ later) ≡ length here + length later = length-append here later in
          let bytes_long : length (bytes_of (here ++ later)) ≡ length (bytes_of here) + length (bytes_of later) =
          ap length (bytes_append here later) ∙ length-append (bytes_of here) (bytes_of later) in
          (omega (arith, words_long, rw all at so_far.0), omega (arith, bytes_long, rw all at so_far.1))

      pub measuring_more : (m p : ℕ) → MeasureOf here n pos room (Some (m, p)) → Measuring (a + 1) m p
      measuring_more m p f = (omega (arith, both.0, f.0), omega (arith, both.1, f.1))

      pub measuring_over : MeasureOf here n pos room None → MeasureOf (leaves t k d i u) words at room None
      measuring_over over = omega (arith, both.1)

    pub measuring_end : k ≤ a → n ≤ pos → pos ≤ room → MeasureOf (leaves t k d i u) words at room (Some (n, pos))
    measuring_end more few in' =
        let s = rw (gather_end (turn t k d i u) a k more, bytes_none) at so_far in
        (omega (arith, s.0), omega (arith, s.1), in', few)
