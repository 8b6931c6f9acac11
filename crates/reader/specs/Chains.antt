-- The three files read for the places of their sections: the readers of the rules with, at each section, its place and its count
-- in place of what it holds. Each reads from a section on, and is given what the sections before it were read for.
use Rattle.std.specs.Prelude.{ℕ, Result}
use Rattle.rules.specs.declared.Fault.TheVariants.{BadNumbers}
use Rattle.rules.specs.Sizes.{most_set_word, most_test_word, bound_good}
use Rattle.rules.specs.Reading.{Got, Reader, then, ◌>>=◌, ◌>>◌, byte, judged, count, many, table, words, sheet_record, ending}
use Rattle.reader_steps.specs.declared.Stop.{Stop}
use Rattle.reader_steps.specs.declared.Section.{Section}
use Rattle.reader_steps.specs.Steps.{answered, words_from}
use Rattle.reader_parts.specs.declared.Sizes.{Sizes}
use Rattle.reader_parts.specs.Numbers.{sizes, sizes_are}
use Rattle.reader.specs.declared.DossierShape.{DossierShape}
use Rattle.reader.specs.declared.UnitShape.{UnitShape}
use Rattle.reader.specs.declared.SheetShape.{SheetShape}
use Rattle.reader.specs.Shapes.{dossier_table, unit_table_place}

-- what was read, or where the reading stopped
abbrev pub placed : {X : Type 0} → Got X → Result X Stop
placed = answered (λ x p. x)

-- z are the golden's sizes, m is the byte for m
abbrev pub shape_of : Sizes → ℕ → Section → Section → Section → DossierShape
shape_of z m cover separating tests =
    record {
      inputs = z.inputs;
      states = z.states;
      bound_byte = m;
      table = dossier_table;
      cover = cover.first;
      covers = cover.count;
      separating = separating.first;
      separators = separating.count;
      tests = tests.first;
      count = tests.count;
    }

unfoldable pub dossier_from_tests : Sizes → ℕ → Section → Section → Reader DossierShape
dossier_from_tests z m cover separating p l = then (words z.inputs most_test_word p l) (λ ws q. ending (shape_of z m cover separating (words_from p ws q)) q)

unfoldable pub dossier_from_separating : Sizes → ℕ → Section → Reader DossierShape
dossier_from_separating z m cover p l = then (words z.inputs most_set_word p l) (λ ws q. dossier_from_tests z m cover (words_from p ws q) q)

unfoldable pub dossier_from_cover : Sizes → ℕ → Reader DossierShape
dossier_from_cover z m p l = then (words z.inputs most_set_word p l) (λ ws q. dossier_from_separating z m (words_from p ws q) q)

unfoldable pub dossier_from_table : Sizes → ℕ → Reader DossierShape
dossier_from_table z m = do
  table z.inputs z.states
  dossier_from_cover z m

-- the byte for m
abbrev pub bound_number : ℕ → Reader ℕ
bound_number n = judged (bound_good n) BadNumbers byte

unfoldable pub dossier_from_bound : Sizes → Reader DossierShape
dossier_from_bound z = do
  m ← bound_number z.states
  dossier_from_table z m

unfoldable pub dossier_places : Reader DossierShape
dossier_places p l = then (sizes 3 p l) (λ z q. dossier_from_bound (sizes_are z q) q)

unfoldable pub unit_from_table : Sizes → Reader UnitShape
unit_from_table z = do
  table z.inputs z.states
  ending (record { inputs = z.inputs; states = z.states; table = unit_table_place })

unfoldable pub unit_places : Reader UnitShape
unit_places p l = then (sizes 2 p l) (λ z q. unit_from_table (sizes_are z q) q)

unfoldable pub sheet_from_records : ℕ → ℕ → Reader SheetShape
sheet_from_records k c p l = then (many (sheet_record k) c p l) (λ rs. ending (record { records = p; count = c }))

unfoldable pub sheet_places : ℕ → Reader SheetShape
sheet_places k = do
  c ← count
  sheet_from_records k c
