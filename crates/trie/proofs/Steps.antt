-- Laws of a walk and of putting a word in, one input at a time.
use Prim.Native.Nat.{ℕ, ◌+◌, ◌≤◌, ◌<◌}
use mathlib.Core.Path.{◌≡◌, refl, sym, ap, ◌∙◌}
use mathlib.Core.List.{List, [], ◌∷◌}
use native.Mathlib.Omega.{arith}
use native.Mathlib.Numerals.{add-one}
use Rattle.rules.specs.Words.{Word}
use lib.ListN.{length, get_or, drop, drop_of_length-le}
use lib.Seq.{drop-cons}
use borrow.Author.Tests.{eq-eqb, ne_eqb}
use Rattle.trie.specs.Model.{Trie, grow, size, walk_from, step_trie, step_node, add_word, end_of}
use Rattle.trie.specs.Holds.{Holds, ChildOf, StepOf, InsertOf}
use Rattle.std.specs.Prelude.{Option, Some, None}
use Rattle.trie.specs.Grow.{size-grow, same_trie, same_node, new_trie, new_node, step_node_lt, add_grows}

-- what is left of a word at i: its input there, and what is left at i + 1
left_cons : (w : Word) (i : ℕ) → i < length w → drop i w ≡ get_or w i 0 ∷ drop (i + 1) w
left_cons w i less = rw (add-one, drop-cons w i 0 less)

module _ (t : Trie) (node : ℕ) (w : Word) (i : ℕ) where
  pub walk_step : (a j : ℕ) → a ≡ get_or w i 0 → i < length w → ChildOf t node a (Some j) → walk_from t node (drop i w) ≡ walk_from t j (drop (i + 1) w)
  unfolding walk_from
  walk_step a j k less (e, pos) = rw (left_cons w i less, ← k, ← e, ne_eqb j 0 (λ z. omega arith))

  pub walk_off : (a : ℕ) → a ≡ get_or w i 0 → i < length w → ChildOf t node a None → walk_from t node (drop i w) ≡ None
  unfolding walk_from
  walk_off a k less z = rw (left_cons w i less, ← k, eq-eqb _ 0 z)

  pub walk_end : length w ≤ i → walk_from t node (drop i w) ≡ Some node
  unfolding walk_from
  walk_end h = rw (drop_of_length-le w h)

module _ (t : Trie) (p a : ℕ) (l f n : List ℕ) (count : ℕ) (k : count ≡ size t) where
  pub step_kept : (r : Option ℕ) (j : ℕ) → ChildOf t p a r → r ≡ Some j → Holds t l f n → StepOf t p a l f n (Some (j, count))
  step_kept r j at is h =
      let (e, pos) = rw is at at in
      let o : j ≡ 0 → ⊥ = λ z. omega arith in
      (same_node t p a j e o, k ∙ ap size (sym (same_trie t p a j e o)), rw (same_trie t p a j e o) h)

  pub step_made : (m : ℕ) → ChildOf t p a None → Holds (grow t p a) l f n → m ≡ count + 1 → StepOf t p a l f n (Some (count, m))
  step_made m z h r =
      (k ∙ sym (new_node t p a 0 (sym z) refl), rw (new_trie t p a 0 (sym z) refl, size-grow t p a) (omega arith), rw (new_trie t p a 0 (sym z) refl) h)

  pub step_full : ChildOf t p a None → length l ≤ count → StepOf t p a l f n None
  step_full z full = rw (new_trie t p a 0 (sym z) refl, size-grow t p a) (omega arith)

-- where putting w into t from the node p stands: i inputs are in, at the node `node`, and the arrays hold the trie so far, of m nodes
pub record Inserting (t : Trie) (p : ℕ) (w : Word) (i node m : ℕ) (l f n : List ℕ) : Type 0 where
  pub trie : Trie
  pub holds : Holds trie l f n
  pub counted : m ≡ size trie
  pub below : node < size trie
  pub grows : add_word t p w ≡ add_word trie node (drop i w)
  pub ends : end_of t p w ≡ end_of trie node (drop i w)

pub inserting_start : (t : Trie) (p : ℕ) (w l f n : List ℕ) (count : ℕ) → Holds t l f n → count ≡ size t → p < count → Inserting t p w 0 p count l f n
inserting_start t p w l f n count h k less =
    record { trie = t; holds = h; counted = k; below = omega arith; grows = refl; ends = refl }

module _ (t : Trie) (p : ℕ) (w : Word) (i node m : ℕ) (l f n : List ℕ) (s : Inserting t p w i node m l f n) where
  pub inserting_next : (l' f' n' : List ℕ) (j k : ℕ) → i < length w → StepOf s.trie node (get_or w i 0) l' f' n' (Some (j, k)) → Inserting t p w (i + 1) j k l' f' n'
  unfolding add_word end_of
  inserting_next l' f' n' j k less st =
      let a = get_or w i 0 in
      record {
        trie = step_trie s.trie node a;
        holds = st.2;
        counted = st.1;
        below = rw st.0 (step_node_lt s.trie node a);
        grows = s.grows ∙ rw (left_cons w i less, st.0);
        ends = s.ends ∙ rw (left_cons w i less, st.0);
      }

  pub inserting_full : (l' f' n' : List ℕ) → i < length w → StepOf s.trie node (get_or w i 0) l' f' n' None → InsertOf t p w l' f' n' None
  unfolding add_word
  inserting_full l' f' n' less st =
      let a = get_or w i 0 in
      rw (s.grows, left_cons w i less)
      (omega (arith, add_grows (step_trie s.trie node a) (step_node s.trie node a) (drop (i + 1) w)))

  pub inserting_end : length w ≤ i → InsertOf t p w l f n (Some (node, m))
  unfolding add_word end_of
  inserting_end done =
      let e : drop i w ≡ [] = drop_of_length-le w done in
      let g : add_word t p w ≡ s.trie = s.grows ∙ rw e in
      let d : end_of t p w ≡ node = s.ends ∙ rw e in
      (sym d, s.counted ∙ ap size (sym g), rw g s.holds)
