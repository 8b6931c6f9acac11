-- How a trie grows: sizes, children, steps.
use Rattle.std.specs.Prelude.{ℕ, suc, ◌≤◌, ◌<◌, ◌≡◌, refl, [], ◌∷◌, ◌++◌, cond, Bool, true, false, eqb}
use Rattle.std.proofs.Common.{arith}
use Rattle.std.proofs.Math.Decide.{ℕ_discrete}
use Rattle.rules.specs.Words.{Word}
use borrow.Author.Tests.{eq-eqb, ne_eqb}
use Rattle.trie.specs.Model.{Trie, root, grow, size, child_in, Proper, proper_grow, step_trie, step_node, add_word, end_of}

pub size_pos : (t : Trie) → 0 < size t
unfolding size
size_pos root = omega arith
size_pos (grow t q b) = omega arith

pub size-grow : (t : Trie) (p a : ℕ) → size (grow t p a) ≡ suc (size t)
unfolding size
size-grow t p a = refl

pub child_lt : (t : Trie) (p a : ℕ) → child_in t p a < size t
unfolding child_in size
child_lt root p a = omega arith
child_lt (grow t q b) p a =
    let h = child_lt t p a in
    elim (eqb q p) as (λ (x : Bool). cond x (cond (eqb b a) (size t) (child_in t p a)) (child_in t p a) < suc (size t)) [
      | true ↦ elim (eqb b a) as (λ (x : Bool). cond x (size t) (child_in t p a) < suc (size t)) [ true ↦ omega arith | false ↦ omega arith ]
      | false ↦ omega arith
    ]

-- the new node is a child of p; every other child is as it was
pub child_new : (t : Trie) (p a : ℕ) → child_in (grow t p a) p a ≡ size t
unfolding child_in
child_new t p a = rw (eq-eqb p p refl, eq-eqb a a refl)

pub child_other : (t : Trie) (q b p a : ℕ) → (q ≡ p → b ≡ a → ⊥) → child_in (grow t q b) p a ≡ child_in t p a
unfolding child_in
child_other t q b p a n =
    elim (ℕ_discrete q p) [
      | yes e ↦ rw (eq-eqb q p e, ne_eqb b a (n e))
      | no o ↦ rw (ne_eqb q p o)
    ]

module _ (t : Trie) (p a j : ℕ) (e : j ≡ child_in t p a) where
  pub same_trie : (j ≡ 0 → ⊥) → step_trie t p a ≡ t
  unfolding step_trie
  same_trie n = rw (← e, ne_eqb j 0 n)

  pub same_node : (j ≡ 0 → ⊥) → j ≡ step_node t p a
  unfolding step_node
  same_node n = rw (← e, ne_eqb j 0 n)

  pub new_trie : j ≡ 0 → step_trie t p a ≡ grow t p a
  unfolding step_trie
  new_trie z = rw (← e, eq-eqb j 0 z)

  pub new_node : j ≡ 0 → step_node t p a ≡ size t
  unfolding step_node
  new_node z = rw (← e, eq-eqb j 0 z)

-- a step finds its node or makes it
pub by_step : (t : Trie) (p a : ℕ) (P : Trie → ℕ → Type 0)
    → (child_in t p a ≡ 0 → P (grow t p a) (size t))
    → ((child_in t p a ≡ 0 → ⊥) → P t (child_in t p a))
    → P (step_trie t p a) (step_node t p a)
by_step t p a P new old =
    elim (ℕ_discrete (child_in t p a) 0) [
      | yes z ↦ rw (new_trie t p a _ refl z, new_node t p a _ refl z) (new z)
      | no n ↦ rw (same_trie t p a _ refl n, ← same_node t p a _ refl n) (old n)
    ]

pub step_node_lt : (t : Trie) (p a : ℕ) → step_node t p a < size (step_trie t p a)
step_node_lt t p a =
    by_step t p a (λ s n. n < size s) (λ z. rw size-grow (omega arith)) (λ n. child_lt t p a)

pub step_grows : (t : Trie) (p a : ℕ) → size t ≤ size (step_trie t p a)
step_grows t p a =
    by_step t p a (λ s n. size t ≤ size s) (λ z. rw size-grow (omega arith)) (λ n. omega arith)

pub step_proper : {t : Trie} → Proper t → (p a : ℕ) → p < size t → Proper (step_trie t p a)
step_proper {t} v p a less =
    by_step t p a (λ s n. Proper s) (λ z. proper_grow v less z) (λ n. v)

pub add_grows : (t : Trie) (p : ℕ) (w : Word) → size t ≤ size (add_word t p w)
unfolding add_word
add_grows t p [] = omega arith
add_grows t p (a ∷ w) = omega (arith, step_grows t p a, add_grows (step_trie t p a) (step_node t p a) w)

pub add_proper : {t : Trie} → Proper t → (p : ℕ) (w : Word) → p < size t → Proper (add_word t p w)
unfolding add_word
add_proper {t = t} v p [] less = v
add_proper {t = t} v p (a ∷ w) less = add_proper {t = step_trie t p a} (step_proper v p a less) (step_node t p a) w (step_node_lt t p a)

-- a word in two parts is put in by parts
pub add_append : (t : Trie) (p : ℕ) (u w : Word) → add_word t p (u ++ w) ≡ add_word (add_word t p u) (end_of t p u) w
unfolding add_word end_of
add_append t p [] w = refl
add_append t p (a ∷ u) w = add_append (step_trie t p a) (step_node t p a) u w

pub end_append : (t : Trie) (p : ℕ) (u w : Word) → end_of t p (u ++ w) ≡ end_of (add_word t p u) (end_of t p u) w
unfolding add_word end_of
end_append t p [] w = refl
end_append t p (a ∷ u) w = end_append (step_trie t p a) (step_node t p a) u w
