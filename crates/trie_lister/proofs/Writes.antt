-- Laws of writing words, and of the loop that visits the children of a node.
use Prim.Native.Nat.{ℕ, suc, ◌+◌, ◌-◌, ◌≤◌, ◌<◌}
use mathlib.Core.Bool.{cond}
use mathlib.Core.Path.{◌≡◌, refl, sym, ap, ◌∙◌}
use mathlib.Core.List.{List, [], ◌∷◌, ◌++◌, append_assoc, append-nil}
use native.Mathlib.Omega.{arith}
use native.Mathlib.Nat.{sub-zero}
use native.Mathlib.Numerals.{add-one}
use Rattle.std.specs.Prelude.{Option, Some, None}
use Rattle.rules.specs.Words.{Word}
use lib.Dec.{eqb}
use lib.ListN.{length, set, take, drop, length-set, length-append}
use lib.Seq.{take-take, take-set-le, paste, take-paste, drop-paste, drop-set-lt, drop-drop, take-suc-set, append_snoc, length-take-le}
use borrow.Author.Tests.{eq-eqb, ne_eqb}
use Rattle.trie.specs.Model.{Trie, size, first_of, child_in, word_of}
use Rattle.trie.specs.Grow.{child_lt}
use Rattle.trie.specs.Holds.{ChildOf}
use Rattle.trie.specs.Words.{child_gt, child_word}
use Rattle.trie_lister.specs.Visits.{bytes_append, bytes_one, bytes_none, gather, leaves, bytes_of, WroteOf, Visiting}

module _ (path out : List ℕ) (n at : ℕ) (fits : n ≤ length path) where
  pub emit_full : length out - at ≤ n → at ≤ length out → WroteOf (n ∷ take n path) out at out None
  emit_full h less = omega (arith, length-take-le n path fits)

  pub emit_done : (out' : List ℕ) → n < length out - at → length out' ≡ length out → out' ≡ paste (set out at n) (at + 1) path n → WroteOf (n ∷ take n path) out at out' (Some (at + 1 + n))
  emit_done out' h long e =
      let less : at < length out = omega arith in (
        omega (arith, length-take-le n path fits),
        omega arith,
        rw (e, take-paste (set out at n) (at + 1) path n (simp length-set (omega arith)) fits, add-one, take-suc-set out at n less)
            (append_snoc (take at out) n (take n path)),
        rw e
            (drop-paste (set out at n) (at + 1) path n (simp length-set (omega arith)) fits
            ∙ drop-set-lt (at + 1 + n) out at n (omega arith)),
      )

-- Maximal words below a node.

-- what the child with the input a gives
abbrev pub turn : Trie → ℕ → ℕ → ℕ → List ℕ → ℕ → List Word
turn t k d i u a = cond (eqb (child_in t i a) 0) [] (leaves t k (d - 1) (child_in t i a) (u ++ (a ∷ [])))

module _ (t : Trie) (k d i : ℕ) (u : Word) (deep : size t ≤ i + d) (there : i < size t) where
  pub leaves_leaf : first_of t i ≡ 0 → leaves t k d i u ≡ u ∷ []
  unfolding leaves
  leaves_leaf z =
      let e : d ≡ suc (d - 1) = omega arith in
      ap (λ (n : ℕ). leaves t k n i u) e ∙ rw (eq-eqb (first_of t i) 0 z)

  pub leaves_inner : (first_of t i ≡ 0 → ⊥) → leaves t k d i u ≡ gather (turn t k d i u) 0 (k - 0)
  unfolding leaves
  leaves_inner n =
      let e : d ≡ suc (d - 1) = omega arith in
      ap (λ (m : ℕ). leaves t k m i u) e ∙ rw (ne_eqb (first_of t i) 0 n, sub-zero)

module _ (g : ℕ → List Word) (a k : ℕ) where
  pub gather_next : a < k → gather g a (k - a) ≡ g a ++ gather g (a + 1) (k - (a + 1))
  unfolding gather
  gather_next less = let e : k - a ≡ suc (k - (a + 1)) = omega arith in rw (e, add-one)

  pub gather_end : k ≤ a → gather g a (k - a) ≡ []
  unfolding gather
  gather_end more = let e : k - a ≡ 0 = omega arith in rw e

pub visit_leaf : (t : Trie) (k d i depth : ℕ) (path out out' : List ℕ) (at : ℕ) (r : Option ℕ) → size t ≤ i + d → i < size t → first_of t i ≡ 0 → depth ≤ length path
    → WroteOf (depth ∷ take depth path) out at out' r → WroteOf (bytes_of (leaves t k d i (take depth path))) out at out' r
visit_leaf t k d i depth path out out' at r deep there z fits h =
    rw (leaves_leaf t k d i (take depth path) deep there z, bytes_one (take depth path), length-take-le depth path fits) h

-- where the loop over the inputs stands: what is written, and what the inputs from a on will give, is what was there and what all give
abbrev pub Written : Trie → ℕ → ℕ → ℕ → Word → List ℕ → ℕ → ℕ → ℕ → List ℕ → Type 0
Written t k d i u out₀ at a pos out =
    (take pos out ++ bytes_of (gather (turn t k d i u) a (k - a)) ≡ take at out₀ ++ bytes_of (leaves t k d i u)) × (drop pos out ≡ drop pos out₀)

drop_later : (x y : List ℕ) (p q : ℕ) → p ≤ q → drop p x ≡ drop p y → drop q x ≡ drop q y
drop_later x y p q le e =
    let s : q ≡ p + (q - p) = omega arith in
    rw (s, ← (drop-drop (q - p) p x), e, drop-drop)

module _ (t : Trie) (k d i : ℕ) (u out₀ : List ℕ) (at : ℕ) where
  pub written_start : size t ≤ i + d → i < size t → (first_of t i ≡ 0 → ⊥) → Written t k d i u out₀ at 0 at out₀
  written_start deep there n = (rw (leaves_inner t k d i u deep there n), refl)

  module _ (a pos : ℕ) (out : List ℕ) (w : Written t k d i u out₀ at a pos out) where
    pub written_skip : a < k → ChildOf t i a None → Written t k d i u out₀ at (a + 1) pos out
    written_skip less z =
        let g : turn t k d i u a ≡ [] = rw (eq-eqb (child_in t i a) 0 z) in
        (sym (rw (gather_next (turn t k d i u) a k less, g)) ∙ w.0, w.1)

    written_turn : (j : ℕ) → a < k → ChildOf t i a (Some j) → take pos out ++ (bytes_of (leaves t k (d - 1) j (u ++ (a ∷ []))) ++ bytes_of (gather (turn t k d i u) (a + 1) (k - (a + 1)))) ≡ take at out₀ ++ bytes_of (leaves t k d i u)
    written_turn j less (e, pos) =
        let g : turn t k d i u a ≡ leaves t k (d - 1) j (u ++ (a ∷ [])) = rw (← e, ne_eqb j 0 (λ z. omega arith)) in
        sym (rw (gather_next (turn t k d i u) a k less, bytes_append, g)) ∙ w.0

    pub written_more : (j p : ℕ) (out' : List ℕ) → a < k → ChildOf t i a (Some j)
        → WroteOf (bytes_of (leaves t k (d - 1) j (u ++ (a ∷ [])))) out pos out' (Some p) → Written t k d i u out₀ at (a + 1) p out'
    written_more j p out' less e done =
        (rw (done.2, append_assoc) (written_turn j less e), done.3 ∙ drop_later out out₀ pos p (omega (arith, done.0)) w.1)

    pub written_full : (j : ℕ) (out' : List ℕ) → a < k → ChildOf t i a (Some j) → pos ≤ length out → at ≤ length out₀ → length out ≡ length out₀
        → WroteOf (bytes_of (leaves t k (d - 1) j (u ++ (a ∷ [])))) out pos out' None → WroteOf (bytes_of (leaves t k d i u)) out₀ at out' None
    written_full j out' less e fits fits₀ long full =
        omega (arith, simp length-append at (ap length (written_turn j less e)), length-take-le pos out fits, length-take-le at out₀ fits₀)

    pub written_end : k ≤ a → pos ≤ length out → at ≤ length out₀ → WroteOf (bytes_of (leaves t k d i u)) out₀ at out (Some pos)
    written_end more fits fits₀ =
        let all : take pos out ≡ take at out₀ ++ bytes_of (leaves t k d i u) =
        sym (append-nil (take pos out)) ∙ sym (rw (gather_end (turn t k d i u) a k more, bytes_none)) ∙ w.0
        in
        (omega (arith, simp length-append at (ap length all), length-take-le pos out fits, length-take-le at out₀ fits₀), fits, all, w.1)

-- the path one input deeper, and that a visit there leaves what is above
pub prefix_next : (path u : List ℕ) (depth a : ℕ) → depth < length path → take depth path ≡ u → take (depth + 1) (set path depth a) ≡ u ++ (a ∷ [])
prefix_next path u depth a less e = rw (add-one, take-suc-set path depth a less, e)

pub prefix_kept : (path path' : List ℕ) (depth a : ℕ) → take (depth + 1) path' ≡ take (depth + 1) (set path depth a) → take depth path' ≡ take depth path
prefix_kept path path' depth a e =
    sym (take-take depth (depth + 1) path' (omega arith))
    ∙ ap (take depth) e
    ∙ take-take depth (depth + 1) (set path depth a) (omega arith)
    ∙ take-set-le depth path depth a (omega arith)

module _ (l f n : List ℕ) (node depth room : ℕ) (v : Visiting l f n node depth room) where
  pub visiting_level : depth ≤ room
  visiting_level = omega (arith, v.level, v.deep node v.below)

  module _ (a j : ℕ) (here : ChildOf v.trie node a (Some j)) where
    named : child_in v.trie node a ≡ 0 → ⊥
    named z = omega (arith, here.0, here.1)

    child_level : length (word_of v.trie j) ≡ depth + 1
    child_level =
        let w = child_word v.holds.proper node a named in
        ap (λ (i : ℕ). length (word_of v.trie i)) here.0 ∙ ap length w ∙ length-append (word_of v.trie node) (a ∷ []) ∙ rw v.level

    pub visiting_child : (room' : ℕ) → room' ≡ room → Visiting l f n j (depth + 1) room'
    visiting_child room' same =
        record {
          trie = v.trie;
          holds = v.holds;
          below = rw here.0 (child_lt v.trie node a);
          level = child_level;
          deep = λ i less. rw same (v.deep i less);
        }

    pub visiting_room : depth < room
    visiting_room = omega (arith, (visiting_child room refl).level, (visiting_child room refl).deep j (visiting_child room refl).below)

    pub visiting_down : length l - j < length l - node
    visiting_down =
        omega (arith, rw (← here.0) at (child_gt v.holds.proper node a named), (visiting_child room refl).below, v.holds.room)
