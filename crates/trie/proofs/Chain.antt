-- Laws of a trie's chains of children, and of the arrays that hold it.
use Prim.Native.Nat.{ℕ, suc, ◌≤◌, ◌<◌}
use mathlib.Core.Path.{◌≡◌, refl, sym, ◌∙◌}
use mathlib.Core.List.{List}
use mathlib.Core.Bool.{cond, Bool, true, false}
use native.Mathlib.Omega.{arith}
use native.Mathlib.Decide.{ℕ_discrete}
use lib.Dec.{eqb}
use lib.ListN.{length, get_or, set, length-set}
use lib.Seq.{get_or-set_same, get_or-set_other}
use borrow.Author.Tests.{eq-eqb, ne_eqb}
use Rattle.trie.specs.Model.{Trie, root, grow, size, child_in, first_of, next_of, label_of, Proper, proper_root, proper_grow}
use Rattle.std.specs.Prelude.{Some, None}
use Rattle.trie.specs.Holds.{Holds, ChildOf}
use Rattle.trie.specs.Grow.{size_pos, size-grow}

pub first_lt : (t : Trie) (p : ℕ) → first_of t p < size t
unfolding first_of size
first_lt root p = omega arith
first_lt (grow t q b) p =
    let h = first_lt t p in
    elim (eqb q p) as (λ (x : Bool). cond x (size t) (first_of t p) < suc (size t)) [ true ↦ omega arith | false ↦ omega arith ]

pub next_lt : (t : Trie) (i : ℕ) → 0 < i → next_of t i < i
unfolding next_of
next_lt root i h = h
next_lt (grow t q b) i h =
    elim (ℕ_discrete i (size t)) [
      | yes e ↦ rw (eq-eqb i (size t) e) (omega (arith, first_lt t q))
      | no n ↦ rw (ne_eqb i (size t) n) (next_lt t i h)
    ]

-- down the chain from the node j, the first node with the label a, or 0
unfoldable pub seek : Trie → ℕ → ℕ → ℕ
seek root j a = 0
seek (grow t q b) j a = cond (eqb j (size t)) (cond (eqb b a) j (seek t (first_of t q) a)) (seek t j a)

pub seek_zero : (t : Trie) (a : ℕ) → seek t 0 a ≡ 0
unfolding seek
seek_zero root a = refl
seek_zero (grow t q b) a = rw (ne_eqb 0 (size t) (λ e. omega (arith, size_pos t))) (seek_zero t a)

seek_old : (t : Trie) (q b j a : ℕ) → j < size t → seek (grow t q b) j a ≡ seek t j a
unfolding seek
seek_old t q b j a h = rw (ne_eqb j (size t) (λ e. omega arith))

pub seek_first : (t : Trie) (p a : ℕ) → child_in t p a ≡ seek t (first_of t p) a
unfolding child_in seek first_of
seek_first root p a = refl
seek_first (grow t q b) p a =
    elim (ℕ_discrete q p) [
      | yes e ↦ rw (eq-eqb q p e, eq-eqb (size t) (size t) refl, e, seek_first t p a)
      | no n ↦
          rw (ne_eqb q p n, ne_eqb (first_of t p) (size t) (λ x. omega (arith, first_lt t p))) (seek_first t p a)
    ]

pub seek_here : (t : Trie) (j a : ℕ) → 0 < j → j < size t → label_of t j ≡ a → seek t j a ≡ j
unfolding seek label_of size
seek_here root j a pos h l = absurd (omega arith)
seek_here (grow t q b) j a pos h l =
    elim (ℕ_discrete j (size t)) [
      | yes e ↦ let m : b ≡ a = rw (eq-eqb j (size t) e) at l in rw (eq-eqb j (size t) e, eq-eqb b a m)
      | no n ↦
          let m : label_of t j ≡ a = rw (ne_eqb j (size t) n) at l in
          rw (ne_eqb j (size t) n) (seek_here t j a pos (omega arith) m)
    ]

-- past the new node, which has another label
seek_pass : (t : Trie) (q b j a : ℕ) → j ≡ size t → (b ≡ a → ⊥) → seek (grow t q b) j a ≡ seek t (first_of t q) a
unfolding seek
seek_pass t q b j a e m = rw (eq-eqb j (size t) e, ne_eqb b a m)

pub seek_next : (t : Trie) (j a : ℕ) → 0 < j → j < size t → (label_of t j ≡ a → ⊥) → seek t j a ≡ seek t (next_of t j) a
unfolding label_of size next_of
seek_next root j a pos h l = absurd (omega arith)
seek_next (grow t q b) j a pos h l =
    elim (ℕ_discrete j (size t)) [
      | yes e ↦
          let m : b ≡ a → ⊥ = λ x. l (rw (eq-eqb j (size t) e) x) in
          rw (eq-eqb j (size t) e)
          (seek_pass t q b j a e m ∙ sym (seek_old t q b (first_of t q) a (first_lt t q)))
      | no n ↦
          let m : label_of t j ≡ a → ⊥ = λ x. l (rw (ne_eqb j (size t) n) x) in
          rw (ne_eqb j (size t) n)
          (seek_old t q b j a (omega arith)
          ∙ seek_next t j a pos (omega arith) m
          ∙ sym (seek_old t q b (next_of t j) a (omega (arith, next_lt t j pos))))
    ]

pub first-none : {t : Trie} → Proper t → (i : ℕ) → size t ≤ i → first_of t i ≡ 0
unfolding first_of size
first-none proper_root i h = refl
first-none (proper_grow {p = p} v below new) i h = rw (ne_eqb p i (λ e. omega arith)) (first-none v i (omega arith))

module _ (t : Trie) (p a : ℕ) where
  first_same : first_of (grow t p a) p ≡ size t
  unfolding first_of
  first_same = rw (eq-eqb p p refl)

  first_other : (i : ℕ) → (p ≡ i → ⊥) → first_of (grow t p a) i ≡ first_of t i
  unfolding first_of
  first_other i n = rw (ne_eqb p i n)

  label_new : label_of (grow t p a) (size t) ≡ a
  unfolding label_of
  label_new = rw (eq-eqb (size t) (size t) refl)

  label_old : (i : ℕ) → i < size t → label_of (grow t p a) i ≡ label_of t i
  unfolding label_of
  label_old i h = rw (ne_eqb i (size t) (λ e. omega arith))

  next_new : next_of (grow t p a) (size t) ≡ first_of t p
  unfolding next_of
  next_new = rw (eq-eqb (size t) (size t) refl)

  next_old : (i : ℕ) → i < size t → next_of (grow t p a) i ≡ next_of t i
  unfolding next_of
  next_old i h = rw (ne_eqb i (size t) (λ e. omega arith))

-- the four stores that add a node keep what the arrays hold
pub grown : (t : Trie) (l f n : List ℕ) (c p a : ℕ) → Holds t l f n → c ≡ size t → p < c → c < length l → child_in t p a ≡ 0
    → Holds (grow t p a) (set l c a) (set (set f p c) c 0) (set n c (get_or f p 0))
grown t l f n c p a h k below more new =
    record {
      proper = proper_grow {p = p} h.proper (omega arith) new;
      room = simp (length-set, size-grow) (omega arith);
      firsts_long = simp length-set h.firsts_long;
      nexts_long = simp length-set h.nexts_long;
      small = simp length-set h.small;
      labels = λ i less.
          elim (ℕ_discrete i c) [
            | yes e ↦ rw (e, get_or-set_same l c a 0 more, k) (sym (label_new t p a))
            | no o ↦
                let old : i < size t = omega (arith, size-grow t p a) in
                get_or-set_other l c i a 0 o ∙ h.labels i old ∙ sym (label_old t p a i old)
          ];
      firsts = λ i less.
          elim (ℕ_discrete i c) [
            | yes e ↦
                get_d_set_at (set f p c) c 0 i e (simp length-set (omega (arith, h.firsts_long)))
                ∙ sym (first_other t p a i (λ x. omega arith) ∙ first-none h.proper i (omega arith))
            | no o ↦
                get_or-set_other (set f p c) c i 0 0 o
                ∙ elim (ℕ_discrete i p) [
                  | yes e ↦ get_d_set_at f p c i e (omega (arith, h.firsts_long)) ∙ k ∙ sym (rw e (first_same t p a))
                  | no q ↦
                      let old : i < size t = omega (arith, size-grow t p a) in
                      get_or-set_other f p i c 0 q ∙ h.firsts i old ∙ sym (first_other t p a i (λ x. q (sym x)))
                ]
          ];
      nexts = λ i less.
          elim (ℕ_discrete i c) [
            | yes e ↦
                get_d_set_at n c (get_or f p 0) i e (omega (arith, h.nexts_long))
                ∙ h.firsts p (omega arith) ∙ sym (rw (e, k) (next_new t p a))
            | no o ↦
                let old : i < size t = omega (arith, size-grow t p a) in
                get_or-set_other n c i (get_or f p 0) 0 o ∙ h.nexts i old ∙ sym (next_old t p a i old)
          ];
    }
  where
    get_d_set_at : (xs : List ℕ) (j v i : ℕ) → i ≡ j → j < length xs → get_or (set xs j v) i 0 ≡ v
    get_d_set_at xs j v i e less = rw e (get_or-set_same xs j v 0 less)

-- where the search for the child of p with the label a stands: at the node j of the chain, or past its end
abbrev pub Along : Trie → ℕ → ℕ → ℕ → Type 0
Along t p a j = (j < size t) × (child_in t p a ≡ seek t j a)

pub next_less : (t : Trie) (l f n : List ℕ) (h : Holds t l f n) (j k : ℕ) → j < size t → (j ≡ 0 → ⊥) → k ≡ get_or n j 0 → k < j
next_less t l f n h j k less pos e =
    let m : k ≡ next_of t j = e ∙ h.nexts j less in
    omega (arith, next_lt t j (omega arith))

module _ (t : Trie) (l f n : List ℕ) (h : Holds t l f n) (p a j : ℕ) where
  pub along_start : p < size t → j ≡ get_or f p 0 → Along t p a j
  along_start less e =
      let k : j ≡ first_of t p = e ∙ h.firsts p less in
      (omega (arith, first_lt t p), rw k (seek_first t p a))

  pub along_here : Along t p a j → (j ≡ 0 → ⊥) → get_or l j 0 ≡ a → ChildOf t p a (Some j)
  along_here at pos e = (sym (at.1 ∙ seek_here t j a (omega arith) at.0 (sym (h.labels j at.0) ∙ e)), omega arith)

  pub along_next : (k : ℕ) → Along t p a j → (j ≡ 0 → ⊥) → (get_or l j 0 ≡ a → ⊥) → k ≡ get_or n j 0 → Along t p a k
  along_next k at pos o e =
      let m : k ≡ next_of t j = e ∙ h.nexts j at.0 in
      let less : next_of t j < j = next_lt t j (omega arith) in
      let at0 : j < size t = at.0 in
      (omega arith, rw m (at.1 ∙ seek_next t j a (omega arith) at0 (λ x. o (h.labels j at0 ∙ x))))

  pub along_end : Along t p a j → j ≡ 0 → ChildOf t p a None
  along_end at e = at.1 ∙ rw e (seek_zero t a)

-- the arrays of the empty trie
pub started : (l f n : List ℕ) → 0 < length l → length l ≤ 65536 → length f ≡ length l → length n ≡ length l
    → Holds root (set l 0 0) (set f 0 0) (set n 0 0)
unfolding size label_of first_of next_of
started l f n some small fl nl =
    record {
      proper = proper_root;
      room = simp length-set (omega arith);
      firsts_long = simp length-set fl;
      nexts_long = simp length-set nl;
      small = simp length-set small;
      labels = λ i h. at l i some h;
      firsts = λ i h. at f i (omega arith) h;
      nexts = λ i h. at n i (omega arith) h;
    }
  where
    at : (xs : List ℕ) (i : ℕ) → 0 < length xs → i < 1 → get_or (set xs 0 0) i 0 ≡ 0
    at xs i some less = let e : i ≡ 0 = omega arith in rw e (get_or-set_same xs 0 0 0 some)
