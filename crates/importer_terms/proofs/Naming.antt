-- Laws of the entries: of no terms, and when a name is put behind the others.
use Prim.Native.Nat.{ℕ, zero, suc, ◌+◌, ◌<◌}
use native.Mathlib.Omega.{arith}
use mathlib.Core.Path.{◌≡◌, refl, sym, ap, ◌∙◌}
use mathlib.Core.Logic.{inl, inr}
use mathlib.Core.List.Memᴰ
use mathlib.Core.List.{List, [], ◌∷◌, ◌++◌}
use mathlib.Core.Bool.{true, false}
use mathlib.Core.Option.{Option, none, some}
use lib.ListN.{length, get_or, replicate, length-append, length-replicate}
use Rattle.rules.specs.Lists.{◌∈◌, first}
use Rattle.rules.specs.Sizes.{most_inputs}
use Rattle.rules.specs.Words.{same, is_in}
use Rattle.rules.specs.Kiss2.{Field, Term, is_about, place_in}
use Rattle.theory.specs.Lists.{outcome, clash, first_some, none_first, get_or_in}
use Rattle.theory.specs.Words.{both, same_true, same_refl, same_false, differ_same, in_is_in, is_in_in}
use Rattle.importer_terms.specs.Entries.{unsaid, entry_place, next_mark, output_mark, EntriesAt, TermsOver}

-- Of no terms there are no entries.
zeros : (n p : ℕ) → ◌≡◌ {A = ℕ} (get_or (replicate n 0) p 0) 0
zeros zero p = refl
zeros (suc n) zero = refl
zeros (suc n) (suc p) = zeros n p

pub entries_none : (names : List Field) → EntriesAt unsaid unsaid names []
unfolding unsaid
entries_none names =
    let long : length {A = ℕ} (replicate 1024 0) ≡ 1024 = length-replicate {A = ℕ} 1024 0 in
    record {
      room = (long, long);
      next_at = λ state m i few. zeros 1024 (entry_place (place_in names state) i);
      output_at = λ state m i few. zeros 1024 (entry_place (place_in names state) i);
      unused = λ place le. (zeros 1024 place, zeros 1024 place);
    }

pub terms_none : (names : List Field) (bits : ℕ) → TermsOver names bits []
terms_none names bits =
    record {
      currents = λ t m. absurd (Memᴰ.not-nil m);
      nexts = λ t m. absurd (Memᴰ.not-nil m);
      outputs = λ t m. absurd (Memᴰ.not-nil m);
      long = λ t m. absurd (Memᴰ.not-nil m);
      alike = tt;
    }

-- A name's number stays when a name is put behind the others; one that is new has the next number.
place_stays : (names : List Field) (name n : Field) → n ∈ names → place_in (names ++ (name ∷ [])) n ≡ place_in names n
place_stays [] name n m = absurd (Memᴰ.not-nil m)
place_stays (a ∷ names) name n m =
    elim (outcome (same a n)) [
      | inl is ↦ rw is
      | inr other ↦
          let later : n ∈ names = elim (Memᴰ.cases_cons m) [ inl e ↦ absurd (same_false other (sym e)) | inr l ↦ l ] in
          rw other (ap suc (place_stays names name n later))
    ]

place_new : (names : List Field) (n : Field) → (n ∈ names → ⊥) → place_in (names ++ (n ∷ [])) n ≡ length names
place_new [] n new = rw (same_refl n)
place_new (a ∷ names) n new =
    rw (differ_same {v = a} {w = n} (λ e. new (Memᴰ.head (sym e)))) (ap suc (place_new names n (λ m. new (Memᴰ.tail m))))

module _ (names : List Field) (bits : ℕ) (terms : List Term) (over : TermsOver names bits terms) (name : Field) where
  pub terms_named : TermsOver (names ++ (name ∷ [])) bits terms
  terms_named =
      record {
        currents = λ t m. Memᴰ.append_left _ (over.currents t m);
        nexts = λ t m. Memᴰ.append_left _ (over.nexts t m);
        outputs = over.outputs;
        long = over.long;
        alike = over.alike;
      }

  mark_stays : (o : Option Term) → ((t : Term) → o ≡ some t → t ∈ terms) → next_mark names o ≡ next_mark (names ++ (name ∷ [])) o
  mark_stays none from = refl
  mark_stays (some t) from = ap suc (sym (place_stays names name t.next (over.nexts t (from t refl))))

  module _ (nexts outputs : List ℕ) (at : EntriesAt nexts outputs names terms) where
    longer : length (names ++ (name ∷ [])) ≡ length names + 1
    longer = length-append names (name ∷ [])

    -- the entry of a state by either list
    module _ (state : Field) (m : state ∈ names ++ (name ∷ [])) (i : ℕ) (few : i < most_inputs) where
      abbrev found : Option Term
      found = first (is_about state i) terms

      abbrev place : ℕ
      place = entry_place (place_in (names ++ (name ∷ [])) state) i

      new_state : is_in state names ≡ false → (get_or nexts place 0 ≡ next_mark (names ++ (name ∷ [])) found) × (get_or outputs place 0 ≡ output_mark found)
      new_state new =
          let absent : state ∈ names → ⊥ = λ there. clash (in_is_in there) new in
          let is : state ≡ name = elim (Memᴰ.append_cases names m) [ inl there ↦ absurd (absent there) | inr last ↦ Memᴰ.eq_of_singleton last ] in
          let nothing : found ≡ none =
          none_first (is_about state i) terms
          (λ t in_t.
          elim (outcome (is_about state i t)) [
            | inl about ↦
                let (current, has) = both {a = same t.current state} about in
                absurd (absent (rw (same_true t.current state current) at (over.currents t in_t)))
            | inr other ↦ other
          ])
          in
          let last : place_in (names ++ (name ∷ [])) state ≡ length names = ap (λ (n : Field). place_in (names ++ (n ∷ [])) state) (sym is) ∙ place_new names state absent in
          let (next, output) = at.unused place (omega arith) in
          (next ∙ sym (ap (next_mark (names ++ (name ∷ []))) nothing), output ∙ sym (ap output_mark nothing))

      old_state : is_in state names ≡ true → (get_or nexts place 0 ≡ next_mark (names ++ (name ∷ [])) found) × (get_or outputs place 0 ≡ output_mark found)
      old_state old =
          let there : state ∈ names = is_in_in old in
          let stays = place_stays names name state there in
          (rw stays (at.next_at state there i few ∙ mark_stays found (λ t e. (first_some (is_about state i) terms e).0)), rw stays (at.output_at state there i few))

      any_state : (get_or nexts place 0 ≡ next_mark (names ++ (name ∷ [])) found) × (get_or outputs place 0 ≡ output_mark found)
      any_state = elim (outcome (is_in state names)) [ inl old ↦ old_state old | inr new ↦ new_state new ]

    -- The entries stay when a name is put behind the others.
    pub entries_more : EntriesAt nexts outputs (names ++ (name ∷ [])) terms
    entries_more =
        record {
          room = at.room;
          next_at = λ state m i few. (any_state state m i few).0;
          output_at = λ state m i few. (any_state state m i few).1;
          unused = λ place le. at.unused place (omega (arith, longer));
        }

-- The entry of a number that is its name's.
pub entry_numbered : (nexts outputs : List ℕ) (names : List Field) (terms : List Term) → EntriesAt nexts outputs names terms → (j : ℕ) → j < length names
    → place_in names (get_or names j []) ≡ j → (i : ℕ) → i < most_inputs
    → (get_or nexts (entry_place j i) 0 ≡ next_mark names (first (is_about (get_or names j []) i) terms))
    × (get_or outputs (entry_place j i) 0 ≡ output_mark (first (is_about (get_or names j []) i) terms))
entry_numbered nexts outputs names terms at j less numbered i few =
    let there : get_or names j [] ∈ names = get_or_in names j [] less in
    (rw numbered at (at.next_at (get_or names j []) there i few), rw numbered at (at.output_at (get_or names j []) there i few))
