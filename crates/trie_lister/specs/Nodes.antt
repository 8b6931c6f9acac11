-- A trie has no more nodes than its maximal words have bytes: where there is no room for the nodes, there is none for the words.
use Rattle.std.specs.Prelude.{ℕ, zero, suc, ◌+◌, ◌≤◌, ◌<◌, ◌≡◌, refl, List, [], ◌∷◌, ◌++◌, Bool, false, cond, not, ◌⊎◌, eqb, Some}
use Rattle.std.proofs.Common.{sym, ◌∙◌, inl, inr, eq-eqb, ne_eqb}
use Rattle.std.proofs.Math.Path.{ap}
use mathlib.Core.List.Memᴰ
use native.Mathlib.Omega.{arith}
use Rattle.std.proofs.Math.Decide.{ℕ_discrete}
use Rattle.std.proofs.Math.ListN.{length, length-append}
use Rattle.rules.specs.Lists.{◌∈◌, keep}
use Rattle.rules.specs.Words.{Word}
use Rattle.theory.specs.Lists.{outcome, in_keep}
use Rattle.trie.specs.Model.{Trie, root, grow, size, first_of, child_in, word_of, walk_from, Proper}
use Rattle.trie.specs.Grow.{size_pos, child_lt}
use Rattle.trie.specs.Words.{walk_some, walk_none, off_at, walk_at, child_gt}
use Rattle.trie_lister.specs.Visits.{gather, leaves, maximal, bytes_of, bytes_append, bytes_one}
use Rattle.trie_lister.specs.Maximal.{Labels, leaf_child, child_label}

-- A list that has every number below n has at least n elements.

keep_short : (test : ℕ → Bool) (l : List ℕ) → length (keep test l) ≤ length l
keep_short test [] = omega arith
keep_short test (x ∷ l) =
    elim (outcome (test x)) [ inl e ↦ rw e (omega (arith, keep_short test l)) | inr e ↦ rw e (omega (arith, keep_short test l)) ]

keep_shorter : (test : ℕ → Bool) (l : List ℕ) (x : ℕ) → x ∈ l → test x ≡ false → length (keep test l) < length l
keep_shorter test [] x m f = absurd (Memᴰ.not-nil m)
keep_shorter test (y ∷ l) x m f =
    elim (Memᴰ.cases_cons m) [
      | inl e ↦ let g : test y ≡ false = rw e at f in rw g (omega (arith, keep_short test l))
      | inr n ↦
          let ih = keep_shorter test l x n f in
          elim (outcome (test y)) [ inl e ↦ rw e (omega arith) | inr e ↦ rw e (omega arith) ]
    ]

all_below : (n : ℕ) (l : List ℕ) → ((j : ℕ) → j < n → j ∈ l) → n ≤ length l
all_below zero l has = omega arith
all_below (suc n) l has =
    let other : ℕ → Bool = λ j. not (eqb j n) in
    let gone : other n ≡ false = rw (eq-eqb n n refl) in
    let less = keep_shorter other l n (has n (omega arith)) gone in
    let rest = all_below n (keep other l) (λ j h. in_keep other (has j (omega arith)) (rw (ne_eqb j n (λ e. omega arith)))) in
    omega arith

-- the nodes of the branch at the node i, as `leaves` goes through it

unfoldable joined : (ℕ → List ℕ) → ℕ → ℕ → List ℕ
joined h a zero = []
joined h a (suc n) = h a ++ joined h (suc a) n

unfoldable nodes : Trie → ℕ → ℕ → ℕ → List ℕ
nodes t k zero i = []
nodes t k (suc d) i =
    i ∷ cond (eqb (first_of t i) 0) [] (joined (λ a. cond (eqb (child_in t i a) 0) [] (nodes t k d (child_in t i a))) 0 k)

in_joined : (h : ℕ → List ℕ) (a n b : ℕ) (x : ℕ) → a ≤ b → b < a + n → x ∈ h b → x ∈ joined h a n
unfolding joined
in_joined h a zero b x low high m = absurd (omega arith)
in_joined h a (suc n) b x low high m =
    elim (ℕ_discrete a b) [
      | yes e ↦ Memᴰ.append_left {s = h a} _ (rw e m)
      | no o ↦ Memᴰ.append_right (h a) (in_joined h (suc a) n b x (omega arith) (omega arith) m)
    ]

in_nodes : {t : Trie} → Proper t → (k d i j : ℕ) → Labels k t → (w : Word) → i < size t → size t ≤ i + d → walk_from t i w ≡ Some j → j ∈ nodes t k d i
unfolding nodes walk_from
in_nodes v k zero i j l w less deep e = absurd (omega arith)
in_nodes {t} v k (suc d) i j l [] less deep e =
    let same : j ≡ i = cc in Memᴰ.head same
in_nodes {t} v k (suc d) i j l (a ∷ w) less deep e =
    elim (ℕ_discrete (child_in t i a) 0) [
      | yes z ↦ off_at _ j (walk_none t i a w z) e
      | no n ↦
          let inner : first_of t i ≡ 0 → ⊥ = λ z. n (leaf_child t i a z) in
          let up = child_gt v i a n in
          let rec = in_nodes v k d (child_in t i a) j l w (child_lt t i a) (omega arith) (sym (walk_some t i a w n) ∙ e) in
          let row : ℕ → List ℕ = λ b. cond (eqb (child_in t i b) 0) [] (nodes t k d (child_in t i b)) in
          let here : j ∈ cond (eqb (first_of t i) 0) [] (joined row 0 k) =
          rw (ne_eqb (first_of t i) 0 inner)
          (in_joined row 0 k a j (omega arith) (omega (arith, child_label k t l i a n)) (rw (ne_eqb (child_in t i a) 0 n) rec))
          in
          Memᴰ.tail here
    ]

-- Rows of nodes beside rows of words: each is empty, or has c bytes of words to spare.
module _ (g : ℕ → List Word) (h : ℕ → List ℕ) (c : ℕ) (each : (a : ℕ) → ((g a ≡ []) × (h a ≡ [])) ⊎ (length (h a) + c ≤ length (bytes_of (g a)))) where
  joined_next : (a n : ℕ) → (length (joined h a (suc n)) ≡ length (h a) + length (joined h (suc a) n)) × (length (bytes_of (gather g a (suc n))) ≡ length (bytes_of (g a)) + length (bytes_of (gather g (suc a) n)))
  unfolding joined gather
  joined_next a n = (
    length-append (h a) (joined h (suc a) n),
    ap length (bytes_append (g a) (gather g (suc a) n)) ∙ length-append (bytes_of (g a)) (bytes_of (gather g (suc a) n)),
  )

  each_short : (a : ℕ) → length (h a) ≤ length (bytes_of (g a))
  each_short a = elim (each a) [ inl (e, f) ↦ rw f (omega arith) | inr spare ↦ omega arith ]

  joined_short : (a n : ℕ) → length (joined h a n) ≤ length (bytes_of (gather g a n))
  joined_short a zero = unfold joined in omega arith
  joined_short a (suc n) = let s = joined_next a n in omega (arith, s.0, s.1, each_short a, joined_short (suc a) n)

  joined_spare : (a n b : ℕ) → a ≤ b → b < a + n → length (h b) + c ≤ length (bytes_of (g b)) → length (joined h a n) + c ≤ length (bytes_of (gather g a n))
  joined_spare a zero b low high spare = absurd (omega arith)
  joined_spare a (suc n) b low high spare =
      let s = joined_next a n in
      elim (ℕ_discrete a b) [
        | yes e ↦
            let here : length (h a) + c ≤ length (bytes_of (g a)) = rw e spare in
            omega (arith, s.0, s.1, here, joined_short (suc a) n)
        | no o ↦ omega (arith, s.0, s.1, each_short a, joined_spare (suc a) n b (omega arith) (omega arith) spare)
      ]

-- a node that has a first child has a child
first_child : (t : Trie) (p : ℕ) → (first_of t p ≡ 0 → ⊥) → (a : ℕ) × (child_in t p a ≡ 0 → ⊥)
unfolding first_of child_in
first_child root p n = absurd (n refl)
first_child (grow t q b) p n =
    elim (ℕ_discrete q p) [
      | yes e ↦ (b, λ z. omega (arith, size_pos t, rw (eq-eqb q p e, eq-eqb b b refl) at z))
      | no o ↦
          let (a, m) = first_child t p (rw (ne_eqb q p o) at n) in
          (a, λ z. m (rw (ne_eqb q p o) at z))
    ]

nodes_short : {t : Trie} → Proper t → (k d i : ℕ) → Labels k t → (u : Word) → i < size t → size t ≤ i + d
    → length (nodes t k d i) + length u ≤ length (bytes_of (leaves t k d i u))
unfolding nodes leaves
nodes_short v k zero i l u less deep = absurd (omega arith)
nodes_short {t} v k (suc d) i l u less deep =
    elim (ℕ_discrete (first_of t i) 0) [
      | yes z ↦ rw (eq-eqb (first_of t i) 0 z, bytes_one u) (omega arith)
      | no n ↦
          let g : ℕ → List Word = λ a. cond (eqb (child_in t i a) 0) [] (leaves t k d (child_in t i a) (u ++ (a ∷ []))) in
          let h : ℕ → List ℕ = λ a. cond (eqb (child_in t i a) 0) [] (nodes t k d (child_in t i a)) in
          let spare : (a : ℕ) → (child_in t i a ≡ 0 → ⊥) → length (h a) + suc (length u) ≤ length (bytes_of (g a)) =
          λ a o.
          let up = child_gt v i a o in
          let longer : length (u ++ (a ∷ [])) ≡ suc (length u) = length-append u (a ∷ []) ∙ omega arith in
          let ih = nodes_short v k d (child_in t i a) l (u ++ (a ∷ [])) (child_lt t i a) (omega arith) in
          rw (ne_eqb (child_in t i a) 0 o) (omega (arith, longer, ih))
          in
          let each : (a : ℕ) → ((g a ≡ []) × (h a ≡ [])) ⊎ (length (h a) + suc (length u) ≤ length (bytes_of (g a))) =
          λ a. elim (ℕ_discrete (child_in t i a) 0) [ yes z ↦ inl (rw (eq-eqb (child_in t i a) 0 z) (refl, refl)) | no o ↦ inr (spare a o) ] in
          let (b, m) = first_child t i n in
          let all = joined_spare g h (suc (length u)) each 0 k b (omega arith) (omega (arith, child_label k t l i b m)) (spare b m) in
          rw (ne_eqb (first_of t i) 0 n) (omega (arith, all))
    ]

-- THE LAW
pub nodes_bytes : {t : Trie} → Proper t → (k : ℕ) → Labels k t → size t ≤ length (bytes_of (maximal t k))
nodes_bytes {t} v k l =
    let has = all_below (size t) (nodes t k (size t) 0) (λ j less. in_nodes v k (size t) 0 j l (word_of t j) (size_pos t) (omega arith) (walk_at v j less)) in
    omega (arith, has, nodes_short v k (size t) 0 l [] (size_pos t) (omega arith))
