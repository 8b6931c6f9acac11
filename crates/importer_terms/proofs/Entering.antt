-- Laws of the entries: when those of a term are written.
use Prim.Native.Nat.{ℕ, suc, ◌+◌, ◌*◌, ◌≤◌, ◌<◌}
use native.Mathlib.Omega.{arith}
use native.Mathlib.Decide.{ℕ_discrete}
use mathlib.Core.Path.{◌≡◌, refl, sym, ap, ◌∙◌}
use mathlib.Core.Logic.{◌≢◌, ◌⊎◌, inl, inr}
use mathlib.Core.List.Memᴰ
use mathlib.Core.List.{List, [], ◌∷◌, ◌++◌}
use mathlib.Core.Bool.{Bool, true, false, cond, ◌&&◌}
use mathlib.Core.Option.{Option, none, some}
use borrow.Author.Tests.{ltb-true, ltb-false, eq-eqb, ne_eqb}
use lib.Dec.{ltb, eqb}
use lib.ListN.{length, get_or, set, length-set}
use lib.Seq.{get_or-set_same, get_or-set_other}
use Rattle.rules.specs.Lists.{◌∈◌, any, first}
use Rattle.rules.specs.Sizes.{most_inputs, most_states}
use Rattle.rules.specs.Words.{same}
use Rattle.rules.specs.Kiss2.{Field, Term, is_output, is_about, differ, place_in}
use Rattle.theory.specs.Lists.{outcome, optional, clash, any_false, first_left, first_right, append_rising}
use Rattle.theory.specs.Words.{same_true, same_refl, same_false}
use Rattle.theory.specs.Kiss2Lines.{differ_is}
use Rattle.theory.specs.Kiss2Units.{place_below, place_apart}
use Rattle.importer_terms.specs.declared.NumberedTerm.{NumberedTerm}
use Rattle.importer_terms.specs.Entries.{entry_place, next_mark, output_mark, EntriesAt, TermsOver, TermOver, has_input, is_new}
use Rattle.importer_terms.proofs.Differing.{mark_is}

-- whether the entry of an input is new, as it is asked: whether the cube has the input, and then what the table holds
module _ (text : List ℕ) (x : NumberedTerm) (nexts : List ℕ) (i : ℕ) (b : Bool) (asked : b ≡ has_input text x i) where
  pub new_without : b ≡ false → is_new text x nexts i ≡ false
  new_without is = let has : has_input text x i ≡ false = sym asked ∙ is in rw has

  module _ (has_it : b ≡ true) (p : ℕ) (place : p ≡ entry_place x.current i) where
    has : has_input text x i ≡ true
    has = sym asked ∙ has_it

    pub new_there : (get_or nexts p 0 ≡ 0 → ⊥) → is_new text x nexts i ≡ false
    new_there there = rw (has, ← place, ne_eqb (get_or nexts p 0) 0 there)

    pub new_is : get_or nexts p 0 ≡ 0 → is_new text x nexts i ≡ true
    new_is nothing = rw (has, ← place) (eq-eqb (get_or nexts p 0) 0 nothing)

-- a table after an entry was written, or left as it was
pub put_new : (l : List ℕ) (b : Bool) (p at v : ℕ) → b ≡ true → p ≡ at → set l p v ≡ cond b (set l at v) l
put_new l b p at v new place = rw (new, place)

pub put_old : (l m : List ℕ) (b : Bool) → b ≡ false → l ≡ cond b m l
put_old l m b old = rw old

-- The first i places behind `base` have been gone through: the value stands at those that pass the test, and whatever stood elsewhere stays.
pub record Filled (test : ℕ → Bool) (base value : ℕ) (old : List ℕ) (i : ℕ) (new : List ℕ) : Type 0 where
  pub long : length new ≡ length old
  pub put : (j : ℕ) → j < i → get_or new (base + j) 0 ≡ cond (test j) value (get_or old (base + j) 0)
  pub stays : (p : ℕ) → (p < base) ⊎ (base + i ≤ p) → get_or new p 0 ≡ get_or old p 0

module _ (test : ℕ → Bool) (base value : ℕ) (old : List ℕ) where
  filled_none : Filled test base value old 0 old
  filled_none = record { long = refl; put = λ j less. absurd (omega arith); stays = λ p out. refl }

  module _ (i : ℕ) (new : List ℕ) (so_far : Filled test base value old i new) (room : base + i < length old) where
    here_stays : get_or new (base + i) 0 ≡ get_or old (base + i) 0
    here_stays = so_far.stays (base + i) (inr (omega arith))

    filled_next : (new' : List ℕ) → new' ≡ cond (test i) (set new (base + i) value) new → Filled test base value old (i + 1) new'
    filled_next new' is = elim (outcome (test i)) [ inl passes ↦ put_here passes | inr fails ↦ passed_over fails ]
      where
        beyond : (p : ℕ) → (p < base) ⊎ (base + (i + 1) ≤ p) → (p < base) ⊎ (base + i ≤ p)
        beyond p (inl before) = inl before
        beyond p (inr after) = inr (omega arith)

        apart : (p : ℕ) → (p < base) ⊎ (base + (i + 1) ≤ p) → p ≢ base + i
        apart p (inl before) e = omega arith
        apart p (inr after) e = omega arith

        put_here : test i ≡ true → Filled test base value old (i + 1) new'
        put_here passes =
            let e : new' ≡ set new (base + i) value = is ∙ rw passes in
            record {
              long = rw (e, length-set new (base + i) value) so_far.long;
              put = λ j less.
                  elim (ℕ_discrete j i) [
                    | yes at ↦ rw (at, e, passes) (get_or-set_same new (base + i) value 0 (omega (arith, so_far.long)))
                    | no other ↦ rw e (get_or-set_other new (base + i) (base + j) value 0 (λ z. omega arith)) ∙ so_far.put j (omega arith)
                  ];
              stays = λ p out. rw e (get_or-set_other new (base + i) p value 0 (apart p out)) ∙ so_far.stays p (beyond p out);
            }

        passed_over : test i ≡ false → Filled test base value old (i + 1) new'
        passed_over fails =
            let e : new' ≡ new = is ∙ rw fails in
            record {
              long = rw e so_far.long;
              put = λ j less.
                  elim (ℕ_discrete j i) [
                    | yes at ↦ rw (at, e, fails) here_stays
                    | no other ↦ rw e (so_far.put j (omega arith))
                  ];
              stays = λ p out. rw e (so_far.stays p (beyond p out));
            }

-- the entries of the inputs before i have been written
pub record Putting (text : List ℕ) (x : NumberedTerm) (nexts outputs : List ℕ) (i : ℕ) (nexts' outputs' : List ℕ) : Type 0 where
  pub few : i ≤ most_inputs
  pub nexts_put : Filled (is_new text x nexts) (x.current * most_inputs) (x.next + 1) nexts i nexts'
  pub outputs_put : Filled (is_new text x nexts) (x.current * most_inputs) x.output outputs i outputs'

module _ (text : List ℕ) (x : NumberedTerm) (nexts outputs : List ℕ) where
  pub putting_start : Putting text x nexts outputs 0 nexts outputs
  putting_start = record { few = omega arith; nexts_put = filled_none _ _ _ nexts; outputs_put = filled_none _ _ _ outputs }

  pub putting_next : (i : ℕ) (nexts' outputs' : List ℕ) → Putting text x nexts outputs i nexts' outputs' → length nexts ≡ 1024 → length outputs ≡ 1024
      → x.current < most_states → i < most_inputs → (j : ℕ) → j ≡ i → (nexts'' outputs'' : List ℕ)
      → nexts'' ≡ cond (is_new text x nexts' j) (set nexts' (entry_place x.current j) (x.next + 1)) nexts'
      → outputs'' ≡ cond (is_new text x nexts' j) (set outputs' (entry_place x.current j) x.output) outputs'
      → Putting text x nexts outputs (i + 1) nexts'' outputs''
  putting_next i nexts' outputs' so_far room room' state few j this nexts'' outputs'' next output =
      let base : ℕ = x.current * most_inputs in
      let inside : base + i < length nexts = omega arith in
      let inside' : base + i < length outputs = omega arith in
      let as_old : is_new text x nexts' i ≡ is_new text x nexts i =
      ap (λ (mark : ℕ). has_input text x i && eqb mark 0) (here_stays _ _ _ nexts i nexts' so_far.nexts_put inside) in
      record {
        few = omega arith;
        nexts_put = filled_next _ _ _ nexts i nexts' so_far.nexts_put inside nexts'' (rw (this, as_old) at next);
        outputs_put = filled_next _ _ _ outputs i outputs' so_far.outputs_put inside' outputs'' (rw (this, as_old) at output);
      }

  module _ (names : List Field) (bits : ℕ) (terms : List Term) (t : Term) (at : EntriesAt nexts outputs names terms)
      (as_term : TermOver text x names bits t) (nexts' outputs' : List ℕ) (n : ℕ) (so_far : Putting text x nexts outputs n nexts' outputs') (over : most_inputs ≤ n) where
    done : Putting text x nexts outputs most_inputs nexts' outputs'
    done = let all : n ≡ most_inputs = omega (arith, so_far.few) in rw all at so_far

    abbrev found : Field → ℕ → Option Term
    found state i = first (is_about state i) terms

    abbrev found_more : Field → ℕ → Option Term
    found_more state i = first (is_about state i) (terms ++ (t ∷ []))

    about_it : (i : ℕ) → is_about t.current i t ≡ has_input text x i
    about_it i = rw (same_refl t.current, as_term.cube_is)

    -- either table, of which `mark` says what it holds of an entry
    module _ (mark : Option Term → ℕ) (value : ℕ) (is_value : value ≡ mark (some t)) (old new : List ℕ)
        (filled : Filled (is_new text x nexts) (x.current * most_inputs) value old most_inputs new)
        (held : (state : Field) → state ∈ names → (i : ℕ) → i < most_inputs → get_or old (entry_place (place_in names state) i) 0 ≡ mark (found state i)) where
      -- of the term's own state
      own_entry : (i : ℕ) → i < most_inputs → get_or new (entry_place x.current i) 0 ≡ mark (found_more t.current i)
      own_entry i few =
          let before : get_or old (entry_place x.current i) 0 ≡ mark (found t.current i) = rw as_term.current_is (held t.current as_term.current_in i few) in
          let after = filled.put i few in
          elim (optional (found t.current i)) [
            | inr (e, there) ↦
                let is_there : get_or nexts (entry_place x.current i) 0 ≡ suc (place_in names e.next) = mark_is at as_term i few ∙ ap (next_mark names) there in
                let not_new : is_new text x nexts i ≡ false =
                elim (outcome (has_input text x i)) [
                  | inl has ↦ rw (has, ne_eqb (get_or nexts (entry_place x.current i) 0) 0 (λ z. omega arith))
                  | inr without ↦ rw without
                ]
                in
                (rw not_new at after) ∙ before ∙ ap mark (there ∙ sym (first_left (is_about t.current i) terms (t ∷ []) there))
            | inl nothing ↦
                let no_mark : get_or nexts (entry_place x.current i) 0 ≡ 0 = mark_is at as_term i few ∙ ap (next_mark names) nothing in
                let last = first_right (is_about t.current i) terms (t ∷ []) nothing in
                elim (outcome (has_input text x i)) [
                  | inl has ↦
                      let new_one : is_new text x nexts i ≡ true = rw has (eq-eqb (get_or nexts (entry_place x.current i) 0) 0 no_mark) in
                      let this : found_more t.current i ≡ some t = last ∙ rw (about_it i, has) in
                      (rw new_one at after) ∙ is_value ∙ ap mark (sym this)
                  | inr without ↦
                      let not_new : is_new text x nexts i ≡ false = rw without in
                      let still : found_more t.current i ≡ none = last ∙ rw (about_it i, without) in
                      (rw not_new at after) ∙ before ∙ ap mark (nothing ∙ sym still)
                ]
          ]

      -- of another state
      other_entry : (state : Field) → state ∈ names → same t.current state ≡ false → (i : ℕ) → i < most_inputs
          → get_or new (entry_place (place_in names state) i) 0 ≡ mark (found_more state i)
      other_entry state m other i few =
          let p : ℕ = place_in names state in
          let apart : p ≢ x.current = λ e. same_false other (sym (place_apart names state t.current m as_term.current_in (e ∙ as_term.current_is))) in
          let out : (entry_place p i < x.current * most_inputs) ⊎ (x.current * most_inputs + most_inputs ≤ entry_place p i) =
          sides p x.current apart in
          let as_found : found state i ≡ found_more state i =
          elim (optional (found state i)) [
            | inl nothing ↦ nothing ∙ sym (first_right (is_about state i) terms (t ∷ []) nothing ∙ rw other)
            | inr (e, there) ↦ there ∙ sym (first_left (is_about state i) terms (t ∷ []) there)
          ]
          in
          filled.stays (entry_place p i) out ∙ held state m i few ∙ ap mark as_found
        where
          sides : (p q : ℕ) → p ≢ q → (p * most_inputs + i < q * most_inputs) ⊎ (q * most_inputs + most_inputs ≤ p * most_inputs + i)
          sides p q apart =
              elim (outcome (ltb p q)) [
                | inl less ↦ inl (omega (arith, ltb-true p q less))
                | inr more ↦ let high : q < p = omega (arith, ltb-false p q more) in inr (omega arith)
              ]

      entry_put : (state : Field) → state ∈ names → (i : ℕ) → i < most_inputs → get_or new (entry_place (place_in names state) i) 0 ≡ mark (found_more state i)
      entry_put state m i few =
          elim (outcome (same t.current state)) [
            | inl is ↦
                let e : t.current ≡ state = same_true _ _ is in
                rw (← e, ← as_term.current_is) (own_entry i few)
            | inr other ↦ other_entry state m other i few
          ]

    -- The term's entries have been written: the tables hold those of one term more.
    pub entries_put : EntriesAt nexts' outputs' names (terms ++ (t ∷ []))
    entries_put =
        let below = place_below names t.current as_term.current_in in
        record {
          room = (done.nexts_put.long ∙ at.room.0, done.outputs_put.long ∙ at.room.1);
          next_at = entry_put (next_mark names) (x.next + 1) (omega (arith, as_term.next_is)) nexts nexts' done.nexts_put at.next_at;
          output_at = entry_put output_mark x.output as_term.output_is outputs outputs' done.outputs_put at.output_at;
          unused = λ place le.
              let far : x.current * most_inputs + most_inputs ≤ place = omega (arith, as_term.current_is) in
              (done.nexts_put.stays place (inr far) ∙ (at.unused place le).0, done.outputs_put.stays place (inr far) ∙ (at.unused place le).1);
        }

-- What is known of the terms is known of one term more, which differs from none before it.
pub terms_more : (text : List ℕ) (x : NumberedTerm) (names : List Field) (bits : ℕ) (terms : List Term) (t : Term) → TermsOver names bits terms
    → TermOver text x names bits t → any (differ t) terms ≡ false → TermsOver names bits (terms ++ (t ∷ []))
terms_more text x names bits terms t over as_term alike =
    record {
      currents = one_more (λ e. e.current ∈ names) over.currents as_term.current_in;
      nexts = one_more (λ e. e.next ∈ names) over.nexts as_term.next_in;
      outputs = one_more (λ e. is_output e.output ≡ true) over.outputs as_term.is_output;
      long = one_more (λ e. length e.output ≡ bits) over.long as_term.long;
      alike =
          append_rising _ terms (t ∷ []) over.alike (λ e m. absurd (Memᴰ.not-nil m), tt)
          (λ e y in_e in_y d. clash ((differ_is t e).1 (rw (Memᴰ.eq_of_singleton in_y) at d)) (any_false (differ t) alike in_e));
    }
  where
    one_more : (P : Term → Type 0) → ((e : Term) → e ∈ terms → P e) → P t → (e : Term) → e ∈ terms ++ (t ∷ []) → P e
    one_more P old new e m =
        elim (Memᴰ.append_cases terms m) [ inl m' ↦ old e m' | inr last ↦ rw (Memᴰ.eq_of_singleton last) new ]
