-- Laws of what comes of the lines: 19 behind the last one, 21, 17, or the unit.
use Prim.Native.Nat.{ℕ, ◌+◌, ◌*◌, ◌≤◌, ◌<◌}
use native.Mathlib.Omega.{arith}
use native.Mathlib.Nat.{mul-le-mul}
use mathlib.Core.Path.{◌≡◌, sym, ap, ◌∙◌}
use mathlib.Core.List.{List, [], map, flat_map}
use mathlib.Core.Bool.{Bool, true, false, not}
use mathlib.Core.Option.{none}
use borrow.Author.Tests.{not-true, not-false, le-leb, lt-leb}
use lib.ListN.{length, get_or}
use Rattle.rules.specs.declared.UnitState.{UnitState}
use Rattle.rules.specs.declared.Input.{Input}
use Rattle.rules.specs.declared.Refusal.TheVariants.{BadLine, Incomplete, NoRoom, Malformed}
use Rattle.rules.specs.declared.Imported.{Imported}
use Rattle.rules.specs.declared.Imported.TheVariants.{Written, Refused}
use Rattle.rules.specs.Lists.{◌∈◌, numbers_from, first}
use Rattle.rules.specs.Sizes.{most_states}
use Rattle.rules.specs.Files.{unit_bytes}
use Rattle.rules.specs.Operations.{overwritten}
use Rattle.rules.specs.Kiss2.{Field, Term, Says, terms_in, names_in, is_whole, is_about, is_silent, entry_of, grid, state_names, silent, unit_said, most_text_bytes, read_kiss2}
use Rattle.theory.specs.Kiss2.{as_many_names}
use Rattle.theory.specs.Kiss2Units.{unit_long}
use Rattle.rules.specs.declared.File.TheVariants.{Text}
use Rattle.rules.specs.declared.Fault.TheVariants.{TooLong}
use Rattle.rules.specs.Answers.{import_says}
use Rattle.rules.specs.Promises.{ReadKiss2Promise}
use lib.Dec.{leb}
use Rattle.importer_terms.specs.Entries.{EntriesAt}
use Rattle.std.specs.Prelude.{Option, None, Some, Result, Ok, Err}
use Rattle.rules.specs.declared.Refusal.{Refusal}
use Rattle.importer_unit.specs.Numbered.{RanksIn, NumbersIn, Ranking, NumberedAt}
use Rattle.importer_unit.specs.Held.{silent_found, Tables, TableThere}
use Rattle.importer_unit.proofs.Holding.{numbers_of, tables_of, all_there}
use Rattle.importer_unit.proofs.Silences.{nowhere_none, at_some}
use Rattle.importer_reading.specs.declared.Progress.{Progress}
use Rattle.importer_reading.specs.Held.{Held}
use Rattle.importer_reading.specs.Lines.{ReadOf, ReadAs}
use Rattle.importer.specs.Finished.{completed, finished, AnsweredAs, Ranked, SomeRead}
use Rattle.importer.proofs.Ranks.{ranking_of, ranks_in}

-- 19 behind the last line, or what comes of what is whole
module _ (said : List Says) (behind : ℕ) (out : List ℕ) (b : Bool) (told : b ≡ is_whole said) where
  pub lacking : not b ≡ true → AnsweredAs (finished said behind out) out out (Refused (BadLine behind))
  lacking is = let lacks : is_whole said ≡ false = sym told ∙ not-true b is in record { answer = rw lacks; output = rw lacks }

  pub whole : not b ≡ false → (left : List ℕ) (r : Imported) → AnsweredAs (completed said out) out left r → AnsweredAs (finished said behind out) out left r
  whole is left r a = let all : is_whole said ≡ true = sym told ∙ not-false b is in record { answer = rw all a.answer; output = rw all a.output }

module _ (said : List Says) (nexts outputs ranks : List ℕ) (states inputs : ℕ) (ranked : Ranked said nexts outputs ranks states inputs) where
  all_states : length (state_names said) ≡ states
  all_states = omega (arith, as_many_names said, ranked.many)

  size_is : length (unit_bytes (unit_said said)) ≡ 6 + 2 * (states * inputs)
  size_is = rw (← all_states, ranked.inputs_are) (unit_long said)

  pub few_entries : states * inputs ≤ 1024
  few_entries =
      let few : states ≤ most_states = omega (arith, ranked.many, ranked.ranked.few) in
      mul-le-mul few ranked.few_inputs

  pub each_ranked : RanksIn ranks states
  each_ranked = ranks_in said ranks ranked.ranked states ranked.many

  module _ (numbering : List ℕ) (given : (names order : List Field) → length names ≡ states → Ranking ranks names order → NumberedAt ranks numbering names order) where
    numbered : NumberedAt ranks numbering (names_in said) (state_names said)
    numbered = given (names_in said) (state_names said) (sym ranked.many) (ranking_of said ranks ranked.ranked)

    pub numbers_in : NumbersIn numbering states
    numbers_in = numbers_of numbered states all_states

    module _ (found : Option (UnitState × Input))
        (search_is : (names order : List Field) (terms : List Term) (outputs ranks : List ℕ) → EntriesAt nexts outputs names terms → NumberedAt ranks numbering names order → length order ≡ states
        → found ≡ silent_found (first (λ (q, i). is_silent (first (is_about (get_or order q []) i) terms)) (grid states inputs))) where
      found_is : found ≡ silent_found (silent said)
      unfolding silent
      found_is =
          rw (all_states, ← ranked.inputs_are)
          (search_is (names_in said) (state_names said) (terms_in said) outputs ranks ranked.entered numbered all_states)

      -- 21
      pub incomplete : (s : UnitState) (i : Input) → found ≡ Some (s, i) → (out : List ℕ) → AnsweredAs (completed said out) out out (Refused (Incomplete s i))
      incomplete s i is out =
          let here = at_some (silent said) s i (sym is ∙ found_is) in
          record { answer = rw here; output = rw here }

      module _ (is : found ≡ None) where
        none-silent : silent said ≡ none
        none-silent = nowhere_none (silent said) (sym is ∙ found_is)

        -- 17
        pub no_room : (out : List ℕ) (n : ℕ) → n ≡ 6 + 2 * (states * inputs) → length out < n → AnsweredAs (completed said out) out out (Refused (NoRoom n))
        no_room out n needed small =
            let long : length (unit_bytes (unit_said said)) ≡ n = size_is ∙ sym needed in
            let short = lt-leb n (length out) small in
            record { answer = rw (none-silent, long, short); output = rw (none-silent, long, short) }

        pub tables : Tables nexts outputs ranks × TableThere nexts ranks numbering states inputs
        unfolding silent
        tables = (
          tables_of nexts outputs ranks numbering (names_in said) (state_names said) (terms_in said) ranked.entered numbered ranked.nexts_named,
          all_there nexts outputs ranks numbering (names_in said) (state_names said) (terms_in said) ranked.entered numbered ranked.nexts_named states inputs all_states
              ranked.few_inputs ranked.ranked.few (rw (all_states, ← ranked.inputs_are) at none-silent),
        )

        -- the unit
        module _ (out left : List ℕ)
            (wrote : (names order : List Field) (terms : List Term) → EntriesAt nexts outputs names terms → NumberedAt ranks numbering names order → ((t : Term) → t ∈ terms → t.next ∈ names) → length order ≡ states
            → left ≡ overwritten (unit_bytes (record { inputs = inputs; states = states; table = flat_map (λ state. map (λ i. entry_of order (first (is_about state i) terms)) (numbers_from 0 inputs)) order })) out) where
          left_is : left ≡ overwritten (unit_bytes (unit_said said)) out
          unfolding unit_said
          left_is =
              rw (all_states, ← ranked.inputs_are)
              (wrote (names_in said) (state_names said) (terms_in said) ranked.entered numbered ranked.nexts_named all_states)

          pub complete : (n : ℕ) → n ≡ 6 + 2 * (states * inputs) → n ≤ length out → AnsweredAs (completed said out) out left (Written n)
          complete n needed room =
              let long : length (unit_bytes (unit_said said)) ≡ n = size_is ∙ sym needed in
              let fitting = le-leb n (length out) room in
              record { answer = rw (none-silent, long, fitting) (ap Written (sym long)); output = rw (none-silent, long, fitting) left_is }

-- A text that is too long,
pub text_long : (bytes out : List ℕ) → most_text_bytes < length bytes → ReadKiss2Promise bytes out (Refused (Malformed TooLong Text 0)) out
unfolding read_kiss2
text_long bytes out over = let long = lt-leb (length bytes) most_text_bytes over in (rw long, rw long)

-- and what comes of one that is not, by what came of its lines.
module _ (s names lengths nexts outputs ranks : List ℕ) (small : length s ≤ most_text_bytes) (r : Result (Progress × ℕ) Refusal) (read : ReadAs s names lengths nexts outputs ranks r) where
  short : leb (length s) most_text_bytes ≡ true
  short = le-leb (length s) most_text_bytes small

  pub text_refused : (out : List ℕ) (e : Refusal) → r ≡ Err e → ReadKiss2Promise s out (Refused e) out
  unfolding read_kiss2
  text_refused out e is =
      let told : ReadOf s names lengths nexts outputs ranks (Err e) = rw is at read.told in
      (rw (short, told), rw (short, told))

  module _ (x : Progress) (behind : ℕ) (is : r ≡ Ok (x, behind)) where
    told : ReadOf s names lengths nexts outputs ranks (Ok (x, behind))
    told = rw is at read.told

    pub some_read : SomeRead x nexts outputs ranks
    some_read = record { said = told.0; names = names; lengths = lengths; held = told.2 }

    pub text_read : (out left : List ℕ) (a : Imported)
        → ((said : List Says) (names lengths : List ℕ) → Held said x names lengths nexts outputs ranks → AnsweredAs (finished said behind out) out left a)
        → ReadKiss2Promise s out a left
    unfolding read_kiss2
    text_read out left a given =
        let answered_as = given told.0 names lengths told.2 in (
          rw (short, told.1, ← told.3) (ap import_says answered_as.answer),
          rw (short, told.1, ← told.3) answered_as.output,
        )
