-- Laws of the lines of a text, one after the other.
use Prim.Native.Nat.{ℕ, suc, ◌+◌, ◌≤◌, ◌<◌}
use native.Mathlib.Omega.{arith}
use mathlib.Core.Path.{◌≡◌, refl, sym, ap, ◌∙◌}
use mathlib.Core.List.{List, [], ◌∷◌, ◌++◌, flat_map}
use mathlib.Core.Bool.{not}
use lib.ListN.{length, drop, length-append}
use Rattle.rules.specs.declared.Refusal.TheVariants.{BadLine, Contradiction}
use Rattle.rules.specs.Sizes.{most_states}
use Rattle.rules.specs.Operations.{require, ◌>>◌}
use Rattle.rules.specs.Line.{text}
use Rattle.rules.specs.Kiss2.{Says, skipped, number, reset, term, end, bad, lines_of, line_says, most_text_bytes, term_of, terms_in, names_in, may_follow, contradicts, read_lines}
use Rattle.importer_lines.specs.declared.Part.{Part}
use Rattle.importer_lines.specs.Parts.{part_at}
use Rattle.importer_lines.specs.Lines.{LineEnd, lines_none, lines_next}
use Rattle.importer_says.specs.Said.{TermAs}
use Rattle.importer_counts.specs.Counts.{CountsAt}
use Rattle.importer_counts.proofs.OneMore.{same_number, same_resets, same_terms, same_end}
use Rattle.importer_terms.specs.Entries.{unsaid}
use Rattle.importer_terms.proofs.Naming.{entries_none, terms_none}
use Rattle.importer_ranks.specs.Ranks.{unranked, order_of}
use Rattle.importer_ranks.proofs.Ranking.{ranks_none, ranks_few}
use Rattle.importer_reading.specs.declared.Progress.{Progress}
use Rattle.importer_reading.specs.declared.LineFault.{LineFault}
use Rattle.importer_reading.specs.declared.LineFault.TheVariants.{Bad, Contradicts}
use Rattle.std.specs.Prelude.{Result, Ok, Err}
use Rattle.importer_reading.specs.Both.{SomeNames}
use Rattle.importer_reading.specs.Held.{Held, SomeSaid, SomeHeld, StepOf, Stepped}
use Rattle.importer_reading.specs.Terms.{TermFields}
use Rattle.importer_reading.specs.Lines.{refusal_of, ReadAs}
use Rattle.importer_reading.proofs.Following.{held_same}

-- what the lines that were read give to whoever asks for names and numbers
module _ {x : Progress} {names lengths nexts outputs ranks : List ℕ} (v : SomeHeld x names lengths nexts outputs ranks) where
  pub some_names : SomeNames names lengths x.names
  some_names = record { list = names_in v.before; at = v.held.named; many = sym v.held.many }

  pub some_said : SomeSaid x names lengths
  some_said =
      record { before = v.before; counted = v.held.counted; named = v.held.named; many = v.held.many; few = v.few }

  pub ranks_room : (length ranks ≡ most_states) × (x.ranked < 128)
  ranks_room =
      let few = ranks_few ranks (names_in v.before) (order_of v.before) v.held.ranked in
      (v.held.ranked.table, omega (arith, few, v.held.so_many, v.held.ranked.few))

pub term_fields : {s : List ℕ} {says : Says} {a b c d : Part} → TermAs s says a b c d → TermFields s (record { cube = a; current = b; next = c; output = d })
term_fields as_term =
    record {
      cube_in = as_term.cube_in;
      is_cube = as_term.is_a_cube;
      current = as_term.current;
      next = as_term.next;
      output_in = as_term.output_in;
      is_output = as_term.is_an_output;
    }

pub said_so : {before : List Says} {names lengths nexts outputs ranks : List ℕ} {r : Result Progress LineFault} {says s : Says} → says ≡ s → Stepped before s names lengths nexts outputs ranks r
    → Stepped before says names lengths nexts outputs ranks r
said_so is stepped = rw is stepped

pub bad_step : (before : List Says) (names lengths nexts outputs ranks : List ℕ) → Stepped before bad names lengths nexts outputs ranks (Err Bad)
bad_step before names lengths nexts outputs ranks = record { told = refl }

pub skipped_goes : (before : List Says) (x : Progress) (names lengths nexts outputs ranks : List ℕ) → Held before x names lengths nexts outputs ranks
    → Stepped before skipped names lengths nexts outputs ranks (Ok x)
skipped_goes before x names lengths nexts outputs ranks held =
    let at = held.counted in
    let counts : CountsAt (before ++ (skipped ∷ [])) x.counts =
    record {
      input_bits = same_number before skipped (text ".i") refl ∙ at.input_bits;
      output_bits = same_number before skipped (text ".o") refl ∙ at.output_bits;
      term_count = same_number before skipped (text ".p") refl ∙ at.term_count;
      state_count = same_number before skipped (text ".s") refl ∙ at.state_count;
      few_inputs = at.few_inputs;
      few_outputs = at.few_outputs;
      some_reset = rw (same_resets before skipped refl) at.some_reset;
      end-said = same_end before skipped refl ∙ at.end-said;
      terms = rw (same_terms before skipped refl) at.terms;
    } in
    record { told = (refl, refl, held_same before x names lengths nexts outputs ranks held skipped refl refl x.counts counts held.over) }

-- there are not more terms than lines
term_few : (s : Says) → length (term_of s) ≤ 1
term_few skipped = omega arith
term_few (number name n) = omega arith
term_few (reset state) = omega arith
term_few (term t) = omega arith
term_few end = omega arith
term_few bad = omega arith

terms_few : (said : List Says) → length (terms_in said) ≤ length said
unfolding flat_map
terms_few [] = omega arith
terms_few (s ∷ said) = omega (arith, length-append (term_of s) (terms_in said), term_few s, terms_few said)

-- Lines were read up to the place `from`, at which the line number `line` begins.
pub record Reading (s names lengths nexts outputs ranks : List ℕ) (x : Progress) (line from : ℕ) : Type 0 where
  pub before : List Says
  pub held : Held before x names lengths nexts outputs ranks
  pub left : read_lines 1 [] (lines_of s) ≡ read_lines line before (lines_of (drop from s))
  pub counted : length before < line
  pub lines : line + length (lines_of (drop from s)) ≡ suc (length (lines_of s))
  pub behind : line ≤ from + 1
  pub near : from ≤ length s + 1

pub reading_start : (s names lengths nexts outputs ranks : List ℕ) (x : Progress) → length names ≡ 1024 → length lengths ≡ most_states
    → nexts ≡ unsaid → outputs ≡ unsaid → ranks ≡ unranked → CountsAt [] x.counts → x.names ≡ 0 → x.ranked ≡ 0
    → Reading s names lengths nexts outputs ranks x 1 0
unfolding flat_map
reading_start s names lengths nexts outputs ranks x room room' no_nexts no_outputs no_ranks counts no_names none_ranked =
    record {
      before = [];
      held = record {
        counted = counts;
        named = record {
          slots_in = record { room = room; table = room'; few = omega arith; short = λ j less. absurd (omega arith) };
          stand = λ j less. absurd (omega arith);
        };
        many = no_names;
        entered = rw (no_nexts, no_outputs) (entries_none []);
        over = terms_none [] _;
        ranked = rw no_ranks ranks_none;
        so_many = none_ranked;
      };
      left = refl;
      counted = omega arith;
      lines = omega arith;
      behind = omega arith;
      near = omega arith;
    }

module _ (s names lengths nexts outputs ranks : List ℕ) (x : Progress) (line from : ℕ) (reading : Reading s names lengths nexts outputs ranks x line from) where
  pub read_done : length s ≤ from → ReadAs s names lengths nexts outputs ranks (Ok (x, line))
  unfolding read_lines
  read_done over =
      let none : lines_of (drop from s) ≡ [] = lines_none s from over in
      record {
        told = (
          reading.before,
          reading.left ∙ rw none,
          reading.held,
          omega (arith, reading.lines, ap (λ (l : List (List ℕ)). length l) none),
        );
      }

  module _ (less : from < length s) where
    pub reading_held : length s ≤ most_text_bytes → SomeHeld x names lengths nexts outputs ranks
    reading_held short =
        record {
          before = reading.before;
          held = reading.held;
          few = omega (arith, terms_few reading.before, reading.held.counted.terms, reading.counted, reading.behind);
        }

    module _ (stop : ℕ) (ends : LineEnd s from stop) (names' lengths' nexts' outputs' ranks' : List ℕ) (r : Result Progress LineFault)
        (stepped : Stepped reading.before (line_says (part_at s from stop)) names' lengths' nexts' outputs' ranks' r) where
      rest : lines_of (drop from s) ≡ part_at s from stop ∷ lines_of (drop (stop + 1) s)
      rest = lines_next s from stop less ends

      read_is : read_lines 1 [] (lines_of s) ≡ ◌>>◌ (require (may_follow reading.before (line_says (part_at s from stop))) (BadLine line))
          (◌>>◌ (require (not (contradicts reading.before (line_says (part_at s from stop)))) (Contradiction line))
          (read_lines (suc line) (reading.before ++ (line_says (part_at s from stop) ∷ [])) (lines_of (drop (stop + 1) s))))
      unfolding read_lines
      read_is = reading.left ∙ rw rest

      read_bad : r ≡ Err Bad → ReadAs s names' lengths' nexts' outputs' ranks' (Err (BadLine line))
      read_bad is =
          let told : StepOf reading.before (line_says (part_at s from stop)) names' lengths' nexts' outputs' ranks' (Err Bad) = rw is at stepped.told in
          record { told = read_is ∙ rw told }

      read_contradicts : r ≡ Err Contradicts → ReadAs s names' lengths' nexts' outputs' ranks' (Err (Contradiction line))
      read_contradicts is =
          let told : StepOf reading.before (line_says (part_at s from stop)) names' lengths' nexts' outputs' ranks' (Err Contradicts) = rw is at stepped.told in
          record { told = read_is ∙ rw (told.0, told.1) }

      pub read_wrong : (fault : LineFault) → r ≡ Err fault → ReadAs s names' lengths' nexts' outputs' ranks' (Err (refusal_of fault line))
      read_wrong Bad is = read_bad is
      read_wrong Contradicts is = read_contradicts is

      pub read_goes : (y : Progress) → r ≡ Ok y → Reading s names' lengths' nexts' outputs' ranks' y (line + 1) (stop + 1)
      read_goes y is =
          let told : StepOf reading.before (line_says (part_at s from stop)) names' lengths' nexts' outputs' ranks' (Ok y) = rw is at stepped.told in
          let next : line + 1 ≡ suc line = omega arith in
          record {
            before = reading.before ++ (line_says (part_at s from stop) ∷ []);
            held = told.2;
            left = rw next (read_is ∙ rw (told.0, told.1));
            counted = omega (arith, length-append reading.before (line_says (part_at s from stop) ∷ []), reading.counted);
            lines = omega (arith, reading.lines, ap (λ (l : List (List ℕ)). length l) rest);
            behind = omega (arith, reading.behind, ends.first.behind);
            near = omega (arith, ends.first.inside);
          }
