-- Numbers by node: what an operation remembers of words. A node has the number of its word, or 0.
use Rattle.std.specs.Prelude.{ℕ, ◌≤◌, ◌<◌, ◌≡◌, refl, List, [], ◌∷◌, Bool, true, false, cond, not, ◌||◌, eqb, length, get_or, set, Option, Some, None}
use Rattle.std.proofs.Common.{sym, ap, ◌∙◌, inl, inr, arith, get_or-set_same, get_or-set_other}
use Rattle.std.proofs.Math.Decide.{ℕ_discrete, dec_lt}
use Rattle.rules.specs.Words.{Word, same, is_in}
use Rattle.theory.specs.Lists.{outcome}
use Rattle.theory.specs.Words.{same_true, same_refl, same_false, differ_same}
use Rattle.trie.specs.Model.{Trie, size, word_of, walk_from, Proper, add_word, end_of}
use Rattle.trie.specs.Holds.{Holds, InsertOf}
use Rattle.trie.specs.Grow.{size_pos, add_proper, add_grows}
use Rattle.trie.specs.Words.{Has, one_to_one, root_walk, add_word_kept, has_add_old, end_word, has_reaches}

-- numbers that were put for words, the last one outermost
pub data Map : Type 0 where
  empty : Map
  put : Map → Word → ℕ → Map

-- the number that was put last for the word, or 0
unfoldable pub value_of : Map → Word → ℕ
value_of empty w = 0
value_of (put m u v) w = cond (same u w) v (value_of m w)

-- marks are numbers too: 1 for each marked word
unfoldable pub marks_of : List Word → Map
marks_of [] = empty
marks_of (w ∷ ws) = put (marks_of ws) w 1

-- the array of numbers by node holds the map, over the nodes of t
pub record Noted (t : Trie) (m : Map) (value : List ℕ) : Type 0 where
  pub values : (i : ℕ) → i < size t → get_or value i 0 ≡ value_of m (word_of t i)
  pub blank : (i : ℕ) → size t ≤ i → get_or value i 0 ≡ 0
  pub there : (w : Word) → (value_of m w ≡ 0 → ⊥) → Has t w

module _ (m : Map) (u : Word) (v : ℕ) where
  pub value_same : (w : Word) → u ≡ w → value_of (put m u v) w ≡ v
  unfolding value_of
  value_same w e = rw (← e, same_refl u)

  pub value_other : (w : Word) → (u ≡ w → ⊥) → value_of (put m u v) w ≡ value_of m w
  unfolding value_of
  value_other w n = rw (differ_same n)

-- a word that no node has has no number
pub value_none : (t : Trie) (m : Map) (value : List ℕ) → Noted t m value → (w : Word) → (Has t w → ⊥) → value_of m w ≡ 0
value_none t m value h w n = elim (ℕ_discrete (value_of m w) 0) [ yes z ↦ z | no o ↦ absurd (n (h.there w o)) ]

-- numbers that are all 0 hold the empty map
pub noted_empty : (t : Trie) (value : List ℕ) → ((i : ℕ) → get_or value i 0 ≡ 0) → Noted t empty value
unfolding value_of
noted_empty t value zeros =
    record { values = λ i less. zeros i; blank = λ i more. zeros i; there = λ w n. absurd (n refl) }

-- a trie that grows keeps the map
pub noted_grown : (t : Trie) (m : Map) (value : List ℕ) → Proper t → Noted t m value → (p : ℕ) (u : Word) → p < size t → Noted (add_word t p u) m value
noted_grown t m value v h p u less =
    let t' = add_word t p u in
    let v' : Proper t' = add_proper v p u less in
    record {
      values = λ i in'.
          elim (dec_lt i (size t)) [
            | yes old ↦ h.values i old ∙ sym (ap (value_of m) (add_word_kept t p u i old))
            | no new ↦
                h.blank i (omega arith)
                ∙ sym (value_none t m value h (word_of t' i) (λ (j, lj, ej).
                let same : j ≡ i = one_to_one v' j i (omega (arith, add_grows t p u)) in' (add_word_kept t p u j lj ∙ ej) in
                omega arith))
          ];
      blank = λ i more. h.blank i (omega (arith, add_grows t p u));
      there = λ w n. has_add_old t p u w (h.there w n);
    }

-- a number stored at a node is put for the node's word
pub noted_put : (t : Trie) (m : Map) (value : List ℕ) → Proper t → Noted t m value → (node v : ℕ) → node < size t → node < length value
    → Noted t (put m (word_of t node) v) (set value node v)
noted_put t m value p h node v less fits =
    record {
      values = λ i in'.
          elim (ℕ_discrete i node) [
            | yes e ↦ rw e (get_or-set_same value node v 0 fits ∙ sym (value_same m (word_of t node) v (word_of t node) refl))
            | no o ↦
                get_or-set_other value node i v 0 o
                ∙ h.values i in'
                ∙ sym (value_other m (word_of t node) v (word_of t i) (λ e. o (one_to_one p i node in' less (sym e))))
          ];
      blank = λ i more. get_or-set_other value node i v 0 (λ e. omega arith) ∙ h.blank i more;
      there = λ w n.
          elim (outcome (same (word_of t node) w)) [
            | inl e ↦ (node, less, same_true (word_of t node) w e)
            | inr e ↦ h.there w (λ z. n (value_other m (word_of t node) v w (same_false e) ∙ z))
          ];
    }

-- what a look_up answers
pub reached : (t : Trie) (w : Word) → Proper t → (r : Option ℕ) (i : ℕ) → r ≡ walk_from t 0 w → r ≡ Some i → i < size t
reached t w v r i e k = (root_walk v w r i e k).0

pub found : (t : Trie) (m : Map) (w : Word) (value : List ℕ) → Proper t → Noted t m value → (r : Option ℕ) (i : ℕ) → r ≡ walk_from t 0 w → r ≡ Some i
    → (i < size t) × (get_or value i 0 ≡ value_of m w)
found t m w value v h r i e k =
    let (less, word) = root_walk v w r i e k in (less, h.values i less ∙ rw word)

pub missed : (t : Trie) (m : Map) (w : Word) (value : List ℕ) → Proper t → Noted t m value → (r : Option ℕ) → r ≡ walk_from t 0 w → r ≡ None → 0 ≡ value_of m w
missed t m w value v h r e k =
    sym (value_none t m value h w (λ has.
    let (j, f) = has_reaches v w has in
    let z : ◌≡◌ {A = ℕ} 0 1 = cc in
    omega arith))

module _ (t : Trie) (w : Word) (l f n : List ℕ) (r : Option (ℕ × ℕ)) (node k : ℕ) (v : Proper t) (done : InsertOf t 0 w l f n r) (e : r ≡ Some (node, k)) where
  pub insert_done : (node ≡ end_of t 0 w) × (k ≡ size (add_word t 0 w)) × Holds (add_word t 0 w) l f n
  insert_done = rw e at done

  pub insert_below : (node < length l) × (length l ≤ 65536)
  insert_below =
      let d = insert_done in
      (omega (arith, d.0, d.2.room, (end_word v 0 w (size_pos t)).0), d.2.small)

same_sym : (u w : Word) → same u w ≡ same w u
same_sym u w =
    elim (outcome (same u w)) [
      | inl e ↦ rw (same_true u w e)
      | inr e ↦ e ∙ sym (differ_same {v = w} {w = u} (λ f. same_false {v = u} {w = w} e (sym f)))
    ]

-- a marked word is one of those that were marked
pub mark_value : (ws : List Word) (w : Word) → not (eqb (value_of (marks_of ws) w) 0) ≡ is_in w ws
unfolding marks_of value_of
mark_value [] w = refl
mark_value (u ∷ ws) w = rw (same_sym u w) (turn (same w u) (mark_value ws w))
  where
    turn : (b : Bool) → not (eqb (value_of (marks_of ws) w) 0) ≡ is_in w ws → not (eqb (cond b 1 (value_of (marks_of ws) w)) 0) ≡ b || is_in w ws
    turn true e = refl
    turn false e = e

pub marked_put : (t : Trie) (ws : List Word) (marks : List ℕ) → Proper t → Noted t (marks_of ws) marks → (node : ℕ) → node < size t → node < length marks
    → Noted t (marks_of (word_of t node ∷ ws)) (set marks node 1)
unfolding marks_of
marked_put t ws marks v h node less fits = noted_put t (marks_of ws) marks v h node 1 less fits

pub marked_told : (t : Trie) (ws : List Word) (marks : List ℕ) → Noted t (marks_of ws) marks → (node : ℕ) → node < size t → not (eqb (get_or marks node 0) 0) ≡ is_in (word_of t node) ws
marked_told t ws marks h node less = rw (h.values node less) (mark_value ws (word_of t node))
