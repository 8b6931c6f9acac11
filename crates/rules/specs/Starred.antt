-- Document 01, "Worked pieces": the cases with a star, as theorems of the definitions, in one table under one statement. Rows
-- of our own follow them, also for the operations of document 02.
use Rattle.std.specs.Prelude.{ℕ, ◌*◌, ◌≡◌, refl, length, take, replicate}
use mathlib.Core.List.{List, [], ◌∷◌, ◌++◌, map, flat_map}
use Rattle.rules.specs.declared.Checked.TheVariants.{Accepted, Refused as CheckRefused}
use Rattle.rules.specs.declared.Built.{Built}
use Rattle.rules.specs.declared.Built.TheVariants.{Written, Refused as BuildRefused}
use Rattle.rules.specs.declared.Ran.TheVariants.{Fails}
use Rattle.rules.specs.declared.Compared.{Compared}
use Rattle.rules.specs.declared.Compared.TheVariants.{Differs}
use Rattle.rules.specs.declared.Judged.{Judged}
use Rattle.rules.specs.declared.Judged.TheVariants.{Agrees, Deviates}
use Rattle.rules.specs.declared.File.TheVariants.{Dossier, Unit as UnitFile, Sheet, Number}
use Rattle.rules.specs.declared.Fault.{Fault}
use Rattle.rules.specs.declared.Fault.TheVariants.{TooLong, CutShort, BadNumbers, BadTable, BadWord, Trailing}
use Rattle.rules.specs.declared.Found.{Found}
use Rattle.rules.specs.declared.Found.TheVariants.{Written as FoundWritten, Refused as FindRefused}
use Rattle.rules.specs.declared.Imported.{Imported}
use Rattle.rules.specs.declared.Imported.TheVariants.{Written as ImportWritten, Refused as ImportRefused}
use Rattle.rules.specs.declared.Refusal.TheVariants.{Malformed, NoEmptyWord, Unreached, NoSeparator, NotSeparated, Missing, NoRoom, NotReduced, BadLine, Contradiction, Incomplete}
use Rattle.rules.specs.Lists.{sum}
use Rattle.rules.specs.Words.{Word, words_of, shortlex}
use Rattle.rules.specs.Machines.{answer}
use Rattle.rules.specs.Files.{DossierData, UnitData, SheetRecord, golden, unit, bound, count_bytes, output_bytes, entry_bytes, table_bytes, word_bytes, words_bytes, front_bytes, dossier_bytes, unit_bytes}
use Rattle.rules.specs.Reading.{byte, judged, count, many, word, words, output, entry, table, sheet_record, ending, dossier, unit_table, sheet}
use Rattle.rules.specs.Needed.{middles, needed, needed_words, unreached, pairs, unseparated, missing, distinct, maximal_of, built_tests}
use Rattle.rules.specs.Answers.{golden_state, unit_state, input_of, middle_of}
use Rattle.rules.specs.Operations.{Outcome, fine, refuse, answered, read_file, read_sheet, read_dossier, read_unit, sound, enough, check, check_answer, build, build_answer, build_output, run, run_answer, telling, compare, compare_answer, compare_output, repeated, foreign, absent, pair, judge, judge_answer, part_of, test_part, judged_part}
use Rattle.rules.specs.Find.{access_word, telling_word, unreachable, untold, found_cover, found_separating, find, find_answer, find_output}
use Rattle.rules.specs.Kiss2.{lines_of, fields_of, line_says, opened, output_value, read_lines, is_whole, state_names, silent, unit_said, read_kiss2, read_kiss2_answer, read_kiss2_output}
use Rattle.rules.specs.Line.{text, decimal, run_line}

-- The bytes of sections: numbers and table of G, its cover, its separating words.
abbrev numbers_g : ℕ → List ℕ
numbers_g m = 3 ∷ 0 ∷ 2 ∷ 2 ∷ m ∷ []

abbrev table_g : List ℕ
table_g = 4 ∷ 0 ∷ 0 ∷ 0 ∷ 1 ∷ 0 ∷ 0 ∷ 1 ∷ 1 ∷ 0 ∷ []

-- empty, 1
abbrev cover_g : List ℕ
cover_g = 2 ∷ 0 ∷ 0 ∷ 1 ∷ 1 ∷ []

-- 0
abbrev separating_g : List ℕ
separating_g = 1 ∷ 0 ∷ 1 ∷ 0 ∷ []

-- sections of no word and of one word
abbrev no_words : List ℕ
no_words = 0 ∷ 0 ∷ []

abbrev only_empty : List ℕ
only_empty = 1 ∷ 0 ∷ 0 ∷ []

abbrev only1 : List ℕ
only1 = 1 ∷ 0 ∷ 1 ∷ 1 ∷ []

abbrev only00 : List ℕ
only00 = 1 ∷ 0 ∷ 2 ∷ 0 ∷ 0 ∷ []

abbrev only01 : List ℕ
only01 = 1 ∷ 0 ∷ 2 ∷ 0 ∷ 1 ∷ []

-- 00, 100, 110
abbrev tests2 : List ℕ
tests2 = 3 ∷ 0 ∷ 2 ∷ 0 ∷ 0 ∷ 3 ∷ 1 ∷ 0 ∷ 0 ∷ 3 ∷ 1 ∷ 1 ∷ 0 ∷ []

-- 000, 010, 1000, 1010, 1100, 1110
abbrev tests3 : List ℕ
tests3 =
    6 ∷ 0 ∷ 3 ∷ 0 ∷ 0 ∷ 0 ∷ 3 ∷ 0 ∷ 1 ∷ 0 ∷ 4 ∷ 1 ∷ 0 ∷ 0 ∷ 0 ∷ 4 ∷ 1 ∷ 0 ∷ 1 ∷ 0 ∷ 4 ∷ 1 ∷ 1 ∷ 0 ∷ 0 ∷ 4 ∷ 1 ∷ 1 ∷ 1 ∷ 0 ∷ []

-- 001, 01, 1001, 101, 1101
abbrev tests_by_inputs : List ℕ
tests_by_inputs = 5 ∷ 0 ∷ 3 ∷ 0 ∷ 0 ∷ 1 ∷ 2 ∷ 0 ∷ 1 ∷ 4 ∷ 1 ∷ 0 ∷ 0 ∷ 1 ∷ 3 ∷ 1 ∷ 0 ∷ 1 ∷ 4 ∷ 1 ∷ 1 ∷ 0 ∷ 1 ∷ []

-- a dossier of G: the byte for m, cover, separating and tests
abbrev dossier_g : ℕ → List ℕ → List ℕ → List ℕ → List ℕ
dossier_g m cover separating tests = numbers_g m ++ table_g ++ cover ++ separating ++ tests

-- the 37 bytes
abbrev pub built2 : List ℕ
built2 =
    0x03 ∷ 0x00 ∷ 0x02 ∷ 0x02 ∷ 0x02 ∷ 0x04 ∷ 0x00 ∷ 0x00 ∷ 0x00 ∷ 0x01 ∷ 0x00 ∷ 0x00 ∷ 0x01 ∷ 0x01 ∷ 0x00 ∷ 0x02 ∷ 0x00 ∷ 0x00 ∷ 0x01 ∷ 0x01
    ∷ 0x01 ∷ 0x00 ∷ 0x01 ∷ 0x00 ∷ 0x03 ∷ 0x00 ∷ 0x02 ∷ 0x00 ∷ 0x00 ∷ 0x03 ∷ 0x01 ∷ 0x00 ∷ 0x00 ∷ 0x03 ∷ 0x01 ∷ 0x01 ∷ 0x00 ∷ []

-- the 54 bytes
abbrev pub built3 : List ℕ
built3 = dossier_g 3 cover_g separating_g tests3

-- V: two numbers, six entries
abbrev pub unit_v : List ℕ
unit_v = 2 ∷ 0 ∷ 2 ∷ 3 ∷ 6 ∷ 0 ∷ 2 ∷ 0 ∷ 1 ∷ 0 ∷ 0 ∷ 1 ∷ 1 ∷ 0 ∷ 2 ∷ 0 ∷ 2 ∷ 0 ∷ []

-- G as a unit
abbrev pub unit_g : List ℕ
unit_g = (2 ∷ 0 ∷ 2 ∷ 2 ∷ []) ++ table_g

-- Four states, two inputs: state 0 goes to 1 by both, 1 to 2 and 3, 2 stays, 3 goes to 0; outputs 0 and 0, 1 and 0, 1 and 1, 0 and 0.
abbrev table4 : List ℕ
table4 = 8 ∷ 0 ∷ 1 ∷ 0 ∷ 1 ∷ 0 ∷ 2 ∷ 1 ∷ 3 ∷ 0 ∷ 2 ∷ 1 ∷ 2 ∷ 1 ∷ 0 ∷ 0 ∷ 0 ∷ 0 ∷ []

abbrev unit4 : List ℕ
unit4 = (2 ∷ 0 ∷ 2 ∷ 4 ∷ []) ++ table4

-- its dossier: cover empty, 0, 00, 01; separating 0, 00, 1; no tests
abbrev dossier4 : ℕ → List ℕ
dossier4 m =
    (3 ∷ 0 ∷ 2 ∷ 4 ∷ m ∷ []) ++ table4 ++ (4 ∷ 0 ∷ 0 ∷ 1 ∷ 0 ∷ 2 ∷ 0 ∷ 0 ∷ 2 ∷ 0 ∷ 1 ∷ []) ++ (3 ∷ 0 ∷ 1 ∷ 0 ∷ 2 ∷ 0 ∷ 0 ∷ 1 ∷ 1 ∷ []) ++ no_words

-- a unit of one input: the next state and the output of each state
abbrev unit_of1 : List (ℕ × ℕ) → List ℕ
unit_of1 entries = (2 ∷ 0 ∷ 1 ∷ length entries ∷ length entries ∷ 0 ∷ []) ++ flat_map (λ (q, o). q ∷ o ∷ []) entries

-- G as a text (docs/KISS2.md)
abbrev lines_text : List (List ℕ) → List ℕ
lines_text lines = flat_map (λ line. line ++ (10 ∷ [])) lines

abbrev text_g : List ℕ
text_g =
    lines_text (text "# The golden G of document 01" ∷ text ".i 1" ∷ text ".o 1" ∷ text ".p 4" ∷ text ".s 2" ∷ text ".r low" ∷ text "0 low low 0" ∷ text "1 low high 0" ∷ text "0 high low 1" ∷ text "1 high high 0" ∷ text ".e" ∷ [])

-- the other text of that page: dashes, and a reset state that is not the first
abbrev text_dashes : List ℕ
text_dashes =
    lines_text (text ".i 2" ∷ text ".o 3" ∷ text ".s 3" ∷ text ".r idle" ∷ text "# left bit: start, right bit: stop" ∷ text "-1 run  idle 001" ∷ text "00 run  run  100" ∷ text "10 run  run  100" ∷ text "0- idle idle 000" ∷ text "1- idle wait 010" ∷ text "-0 wait run  110" ∷ text "-1 wait idle 001" ∷ text ".e" ∷ [])

abbrev unit_dashes : List ℕ
unit_dashes =
    (2 ∷ 0 ∷ 4 ∷ 3 ∷ 12 ∷ 0 ∷ []) ++ (0 ∷ 0 ∷ 0 ∷ 0 ∷ 2 ∷ 2 ∷ 2 ∷ 2 ∷ []) ++ (1 ∷ 4 ∷ 0 ∷ 1 ∷ 1 ∷ 4 ∷ 0 ∷ 1 ∷ []) ++ (1 ∷ 6 ∷ 0 ∷ 1 ∷ 1 ∷ 6 ∷ 0 ∷ 1 ∷ [])

-- one input bit and one output bit, and then these lines
abbrev text_of : List (List ℕ) → List ℕ
text_of lines = lines_text (text ".i 1" ∷ text ".o 1" ∷ lines)

-- one state, one input, output 0, cover the empty word
abbrev dossier1 : ℕ → List ℕ → List ℕ → List ℕ
dossier1 m separating tests = (3 ∷ 0 ∷ 1 ∷ 1 ∷ m ∷ []) ++ (1 ∷ 0 ∷ 0 ∷ 0 ∷ []) ++ only_empty ++ separating ++ tests

-- a sheet with records for 00, 100 and 110: the answer to 00 is 0 0, the others are given
abbrev pub sheet2 : List ℕ → List ℕ → List ℕ
sheet2 answer100 answer110 =
    (3 ∷ 0 ∷ 2 ∷ 0 ∷ 0 ∷ 0 ∷ 0 ∷ []) ++ (3 ∷ 1 ∷ 0 ∷ 0 ∷ []) ++ answer100 ++ (3 ∷ 1 ∷ 1 ∷ 0 ∷ []) ++ answer110

-- the same sheet with the records in another order: 110, 00, 100
abbrev pub sheet2' : List ℕ
sheet2' = 3 ∷ 0 ∷ 3 ∷ 1 ∷ 1 ∷ 0 ∷ 0 ∷ 0 ∷ 1 ∷ 2 ∷ 0 ∷ 0 ∷ 0 ∷ 0 ∷ 3 ∷ 1 ∷ 0 ∷ 0 ∷ 0 ∷ 1 ∷ 0 ∷ []

-- V's answers to the tests for m = 3
abbrev pub sheet_v : List ℕ
sheet_v =
    6 ∷ 0 ∷ 3 ∷ 0 ∷ 0 ∷ 0 ∷ 0 ∷ 0 ∷ 0 ∷ 3 ∷ 0 ∷ 1 ∷ 0 ∷ 0 ∷ 0 ∷ 0 ∷ 4 ∷ 1 ∷ 0 ∷ 0 ∷ 0 ∷ 0 ∷ 1 ∷ 0 ∷ 0 ∷ 4 ∷ 1 ∷ 0 ∷ 1 ∷ 0 ∷ 0 ∷ 1 ∷ 0 ∷ 1
    ∷ 4 ∷ 1 ∷ 1 ∷ 0 ∷ 0 ∷ 0 ∷ 0 ∷ 1 ∷ 0 ∷ 4 ∷ 1 ∷ 1 ∷ 1 ∷ 0 ∷ 0 ∷ 0 ∷ 0 ∷ 1 ∷ []

-- what these files hold
abbrev pub data_g : ℕ → List Word → DossierData
data_g m tests =
    record {
      inputs = 2;
      states = 2;
      bound_byte = m;
      table = (0, 0) ∷ (1, 0) ∷ (0, 1) ∷ (1, 0) ∷ [];
      cover = [] ∷ (1 ∷ []) ∷ [];
      separating = (0 ∷ []) ∷ [];
      tests = tests;
    }

abbrev pub data_g2 : DossierData
data_g2 = data_g 2 ((0 ∷ 0 ∷ []) ∷ (1 ∷ 0 ∷ 0 ∷ []) ∷ (1 ∷ 1 ∷ 0 ∷ []) ∷ [])

abbrev pub data_g3 : DossierData
data_g3 =
    data_g 3 ((0 ∷ 0 ∷ 0 ∷ []) ∷ (0 ∷ 1 ∷ 0 ∷ []) ∷ (1 ∷ 0 ∷ 0 ∷ 0 ∷ []) ∷ (1 ∷ 0 ∷ 1 ∷ 0 ∷ []) ∷ (1 ∷ 1 ∷ 0 ∷ 0 ∷ []) ∷ (1 ∷ 1 ∷ 1 ∷ 0 ∷ []) ∷ [])

abbrev pub data_v : UnitData
data_v = record { inputs = 2; states = 3; table = (2, 0) ∷ (1, 0) ∷ (0, 1) ∷ (1, 0) ∷ (2, 0) ∷ (2, 0) ∷ [] }

-- a record: a word and its answer
abbrev pub record_of : Word → List ℕ → SheetRecord
record_of w outputs = record { word = w; recorded = outputs }

abbrev pub records2 : List SheetRecord
records2 = record_of (0 ∷ 0 ∷ []) (0 ∷ 0 ∷ []) ∷ record_of (1 ∷ 0 ∷ 0 ∷ []) (0 ∷ 1 ∷ 0 ∷ []) ∷ record_of (1 ∷ 1 ∷ 0 ∷ []) (0 ∷ 0 ∷ 1 ∷ []) ∷ []

abbrev pub records2' : List SheetRecord
records2' = record_of (1 ∷ 1 ∷ 0 ∷ []) (0 ∷ 0 ∷ 1 ∷ []) ∷ record_of (0 ∷ 0 ∷ []) (0 ∷ 0 ∷ []) ∷ record_of (1 ∷ 0 ∷ 0 ∷ []) (0 ∷ 1 ∷ 0 ∷ []) ∷ []

abbrev pub records_v : List SheetRecord
records_v =
    record_of (0 ∷ 0 ∷ 0 ∷ []) (0 ∷ 0 ∷ 0 ∷ []) ∷ record_of (0 ∷ 1 ∷ 0 ∷ []) (0 ∷ 0 ∷ 0 ∷ []) ∷ record_of (1 ∷ 0 ∷ 0 ∷ 0 ∷ []) (0 ∷ 1 ∷ 0 ∷ 0 ∷ [])
    ∷ record_of (1 ∷ 0 ∷ 1 ∷ 0 ∷ []) (0 ∷ 1 ∷ 0 ∷ 1 ∷ []) ∷ record_of (1 ∷ 1 ∷ 0 ∷ 0 ∷ []) (0 ∷ 0 ∷ 1 ∷ 0 ∷ []) ∷ record_of (1 ∷ 1 ∷ 1 ∷ 0 ∷ []) (0 ∷ 0 ∷ 0 ∷ 1 ∷ []) ∷ []

-- an output of `n` bytes, all 170
abbrev blank : ℕ → List ℕ
blank n = replicate n 170

-- what build answers and leaves in an output
abbrev Builds : List ℕ → List ℕ → Built → List ℕ → Type 0
Builds bytes out r left = (build_answer bytes out ≡ r) × (build_output bytes out ≡ left)

-- what compare answers and leaves in an output
abbrev Compares : List ℕ → List ℕ → List ℕ → Compared → List ℕ → Type 0
Compares bytes other out r left = (compare_answer bytes other out ≡ r) × (compare_output bytes other out ≡ left)

-- what find answers and leaves in an output
abbrev Finds : List ℕ → ℕ → List ℕ → Found → List ℕ → Type 0
Finds bytes m out r left = (find_answer bytes m out ≡ r) × (find_output bytes m out ≡ left)

-- what the import answers and leaves in an output
abbrev ReadsText : List ℕ → List ℕ → Imported → List ℕ → Type 0
ReadsText bytes out r left = (read_kiss2_answer bytes out ≡ r) × (read_kiss2_output bytes out ≡ left)

-- what the judge answers, where the part that it hands back stands, and the part
abbrev Judges : List ℕ → List ℕ → Judged → ℕ → List ℕ → Type 0
Judges bytes other r place part =
    (judge_answer bytes other ≡ r) × ((judged_part bytes other).place ≡ place) × (part_of bytes (judged_part bytes other) ≡ part)

-- what a dossier that reads well has
abbrev of_dossier : {A : Type 0} → List ℕ → (DossierData → A) → Outcome A
of_dossier bytes f = answered (read_dossier bytes) (λ d. fine (f d)) refuse

abbrev of_unit : {A : Type 0} → List ℕ → (UnitData → A) → Outcome A
of_unit bytes f = answered (read_unit bytes) (λ u. fine (f u)) refuse

-- the output totals of a sheet over two inputs
abbrev totals : List ℕ → Outcome (List ℕ)
totals bytes = answered (read_sheet 2 bytes) (λ rs. fine (map (λ r. sum r.recorded) rs)) refuse

-- the lengths of the words of a dossier and of a sheet over two inputs
abbrev cover_lengths : List ℕ → Outcome (List ℕ)
cover_lengths bytes = of_dossier bytes (λ d. map (λ w. length w) d.cover)

abbrev separating_lengths : List ℕ → Outcome (List ℕ)
separating_lengths bytes = of_dossier bytes (λ d. map (λ w. length w) d.separating)

abbrev test_lengths : List ℕ → Outcome (List ℕ)
test_lengths bytes = of_dossier bytes (λ d. map (λ w. length w) d.tests)

abbrev sheet_lengths : List ℕ → Outcome (List ℕ)
sheet_lengths bytes = answered (read_sheet 2 bytes) (λ rs. fine (map (λ r. length r.word) rs)) refuse

-- the numbers of a dossier, the bound in place of the byte for it, and of a unit
abbrev numbers_of : List ℕ → Outcome (List ℕ)
numbers_of bytes = of_dossier bytes (λ d. d.inputs ∷ d.states ∷ bound d ∷ [])

abbrev unit_numbers_of : List ℕ → Outcome (List ℕ)
unit_numbers_of bytes = of_unit bytes (λ u. u.inputs ∷ u.states ∷ [])

-- a dossier and a unit of these numbers: every entry leads to state 0 and outputs 0, and there is no word
abbrev plain : ℕ → ℕ → ℕ → List ℕ
plain k n m = (3 ∷ 0 ∷ k ∷ n ∷ m ∷ []) ++ count_bytes (n * k) ++ replicate (2 * (n * k)) 0 ++ no_words ++ no_words ++ no_words

abbrev plain_unit : ℕ → ℕ → List ℕ
plain_unit k u = (2 ∷ 0 ∷ k ∷ u ∷ []) ++ count_bytes (u * k) ++ replicate (2 * (u * k)) 0

-- a section of one word, of n inputs 0
abbrev long : ℕ → List ℕ
long n = 1 ∷ 0 ∷ n ∷ replicate n 0

-- the file is refused by a fault at a place; the sheet is one over two inputs
abbrev DossierRefused : List ℕ → Fault → ℕ → Type 0
DossierRefused bytes fault p = read_dossier bytes ≡ refuse (Malformed fault Dossier p)

abbrev UnitRefused : List ℕ → Fault → ℕ → Type 0
UnitRefused bytes fault p = read_unit bytes ≡ refuse (Malformed fault UnitFile p)

abbrev SheetRefused : List ℕ → Fault → ℕ → Type 0
SheetRefused bytes fault p = read_sheet 2 bytes ≡ refuse (Malformed fault Sheet p)

-- the words 0, 00, 10, 100, 110
abbrev needed2 : List Word
needed2 = (0 ∷ []) ∷ (0 ∷ 0 ∷ []) ∷ (1 ∷ 0 ∷ []) ∷ (1 ∷ 0 ∷ 0 ∷ []) ∷ (1 ∷ 1 ∷ 0 ∷ []) ∷ []

-- the answers to 00, 100 and 110
abbrev answers2 : List Word
answers2 = (0 ∷ 0 ∷ []) ∷ (0 ∷ 1 ∷ 0 ∷ []) ∷ (0 ∷ 0 ∷ 1 ∷ []) ∷ []

pub record Starred : Type 0 where
  -- m = 2: needed 0, 00, 10, 100, 110
  pub needed-2 : of_dossier built2 (λ d. distinct (needed_words d)) ≡ fine needed2
  -- built tests 00, 100, 110: the 37 bytes, and later bytes of the output stay
  pub build-2 : Builds (dossier_g 2 cover_g separating_g no_words) (blank 39) (Written 37) (built2 ++ blank 2)
  -- output of 37 bytes fits
  pub build-2-fits : Builds (dossier_g 2 cover_g separating_g no_words) (blank 37) (Written 37) built2
  -- 36 is NO ROOM, needed 37
  pub build-2-no_room : Builds (dossier_g 2 cover_g separating_g no_words) (blank 36) (BuildRefused (NoRoom 37)) (blank 36)
  -- m = 3: built tests 000, 010, 1000, 1010, 1100, 1110; 54 bytes
  pub build-3 : Builds (dossier_g 3 cover_g separating_g tests2) (blank 54) (Written 54) built3
  -- m = 3 with the tests 00, 100, 110: MISSING, cover 0, middle 00, separator 0
  pub missing-3 : check_answer (dossier_g 3 cover_g separating_g tests2) ≡ CheckRefused (Missing 0 (middle_of (0 ∷ 0 ∷ [])) 0)
  -- without the empty word in the cover: 7
  pub no_empty_word : check_answer (dossier_g 2 only1 separating_g tests2) ≡ CheckRefused NoEmptyWord
  -- with cover only the empty word: 8, state 1
  pub unreached-1 : check_answer (dossier_g 2 only_empty separating_g tests2) ≡ CheckRefused (Unreached Dossier (golden_state 1))
  -- separating emptied: 9
  pub no_separator : check_answer (dossier_g 2 cover_g no_words tests2) ≡ CheckRefused NoSeparator
  -- separating only 1: 10, states 0 and 1
  pub not_separated : check_answer (dossier_g 2 cover_g only1 tests2) ≡ CheckRefused (NotSeparated (golden_state 0) (golden_state 1))
  -- V answers 00, 100, 110 as G does
  pub golden_answers-2 : of_dossier built2 (λ d. map (answer (golden d)) d.tests) ≡ fine answers2
  pub unit_answers-2 : of_dossier built2 (λ d. of_unit unit_v (λ u. map (answer (unit u)) d.tests)) ≡ fine (fine answers2)
  -- over the built m = 3 dossier: FAILS, place 1, step 2
  pub run-3 : run_answer built3 unit_v ≡ Fails 1 2
  -- compare: DIFFERS, 010
  pub compare-3 : Compares built3 unit_v (blank 5) (Differs 3) (0 ∷ 1 ∷ 0 ∷ blank 2)
  -- one state, one input, output 0: m = 1 builds the single test 0
  pub one_state-1 : Builds (dossier1 1 only_empty no_words) (blank 20) (Written 19) (dossier1 1 only_empty (1 ∷ 0 ∷ 1 ∷ 0 ∷ []) ++ blank 1)
  -- m = 2 builds 00
  pub one_state-2 : Builds (dossier1 2 only_empty no_words) (blank 20) (Written 20) (dossier1 2 only_empty (1 ∷ 0 ∷ 2 ∷ 0 ∷ 0 ∷ []))
  -- with the last two answers exchanged, every output total is the same
  pub exchanged_totals : totals (sheet2 (0 ∷ 0 ∷ 1 ∷ []) (0 ∷ 1 ∷ 0 ∷ [])) ≡ totals (sheet2 (0 ∷ 1 ∷ 0 ∷ []) (0 ∷ 0 ∷ 1 ∷ []))
  -- and the verdict is DEVIATES, place 1, step 1; the test 100 stands at byte 30 of the dossier
  pub exchanged : Judges built2 (sheet2 (0 ∷ 0 ∷ 1 ∷ []) (0 ∷ 1 ∷ 0 ∷ [])) (Deviates 1 1) 30 (1 ∷ 0 ∷ 0 ∷ [])
  -- Ours: the 37 bytes are accepted.
  pub accepted-2 : check_answer built2 ≡ Accepted
  -- the byte 0 for m and separating only 01 build 001, 01, 1001, 101, 1101: 48 bytes, the byte for m still 0
  pub by_inputs : Builds (dossier_g 0 cover_g only01 no_words) (blank 48) (Written 48) (dossier_g 0 cover_g only01 tests_by_inputs)
  -- one state, m = 1, separating emptied: 9
  pub one_state_no_separator : check_answer (dossier1 1 no_words no_words) ≡ CheckRefused NoSeparator
  -- m = 3 with the tests only 00: MISSING, cover 0, middle 1, separator 0
  pub shorter_middle_first : check_answer (dossier_g 3 cover_g separating_g only00) ≡ CheckRefused (Missing 0 (middle_of (1 ∷ [])) 0)
  -- the sheet with 100 answered 0 0 0: DEVIATES, place 1, step 1, though the last output is right
  pub inner_step : Judges built2 (sheet2 (0 ∷ 0 ∷ 0 ∷ []) (0 ∷ 0 ∷ 1 ∷ [])) (Deviates 1 1) 30 (1 ∷ 0 ∷ 0 ∷ [])
  -- what the two dossiers, the unit V and the sheets hold
  pub reads-2 : read_dossier built2 ≡ fine data_g2
  pub reads-3 : read_dossier built3 ≡ fine data_g3
  pub unit_reads : read_unit unit_v ≡ fine data_v
  pub sheet_reads : read_sheet 2 (sheet2 (0 ∷ 1 ∷ 0 ∷ []) (0 ∷ 0 ∷ 1 ∷ [])) ≡ fine records2
  pub sheet_reads' : read_sheet 2 sheet2' ≡ fine records2'
  pub sheet_reads-V : read_sheet 2 sheet_v ≡ fine records_v
  -- the built m = 3 dossier is accepted; the m = 2 sheet agrees in either order; V's sheet deviates where V fails
  pub accepted-3 : check_answer built3 ≡ Accepted
  pub agrees-2 : judge_answer built2 (sheet2 (0 ∷ 1 ∷ 0 ∷ []) (0 ∷ 0 ∷ 1 ∷ [])) ≡ Agrees
  pub agrees-2' : judge_answer built2 sheet2' ≡ Agrees
  pub deviates-V : judge_answer built3 sheet_v ≡ Deviates 1 2
  -- the line that the program prints
  pub line-3 : run_line built3 unit_v ≡ text "FAILS 1 2 010 1 0\n"
  -- Ours, 1 to 6 at both ends of their ranges. 1: a file of its size is read, one byte more is not.
  pub too_long : (DossierRefused (blank 65535) BadNumbers 0) × (DossierRefused (blank 65536) TooLong 0)
  pub unit_too_long : (UnitRefused (blank 65535) BadNumbers 0) × (UnitRefused (blank 65536) TooLong 0)
  pub sheet_too_long : (SheetRefused (blank 131070) BadWord 3) × (SheetRefused (blank 131071) TooLong 0)
  -- 2: no byte, and all but the last one
  pub cut_short : (DossierRefused [] CutShort 0) × (DossierRefused (take 36 built2) CutShort 36)
  pub unit_cut_short : (UnitRefused [] CutShort 0) × (UnitRefused (take 17 unit_v) CutShort 17)
  pub sheet_cut_short : (SheetRefused [] CutShort 0) × (SheetRefused (take 20 sheet2') CutShort 20)
  -- a count is judged when both its bytes are there
  pub half_count : (DossierRefused (4 ∷ []) CutShort 1) × (DossierRefused (4 ∷ 0 ∷ []) BadNumbers 0)
  -- 3: the counts beside 3 and 2, and 3 with a high byte
  pub count_of_numbers : (DossierRefused (2 ∷ 0 ∷ 2 ∷ 2 ∷ 2 ∷ []) BadNumbers 0) × (DossierRefused (4 ∷ 0 ∷ 2 ∷ 2 ∷ 2 ∷ []) BadNumbers 0)
      × (DossierRefused (3 ∷ 1 ∷ 2 ∷ 2 ∷ 2 ∷ []) BadNumbers 0)
  pub unit_count_of_numbers : (UnitRefused (1 ∷ 0 ∷ 2 ∷ 3 ∷ []) BadNumbers 0) × (UnitRefused (3 ∷ 0 ∷ 2 ∷ 3 ∷ []) BadNumbers 0)
  -- k is 1 to 16
  pub inputs : (DossierRefused (plain 0 1 0) BadNumbers 2) × (numbers_of (plain 1 1 0) ≡ fine (1 ∷ 1 ∷ 1 ∷ []))
      × (numbers_of (plain 16 1 0) ≡ fine (16 ∷ 1 ∷ 1 ∷ [])) × (DossierRefused (plain 17 1 0) BadNumbers 2)
  -- n is 1 to 64; the largest table has 1,024 entries
  pub states : (DossierRefused (plain 1 0 0) BadNumbers 3) × (numbers_of (plain 16 64 0) ≡ fine (16 ∷ 64 ∷ 64 ∷ []))
      × (DossierRefused (plain 1 65 0) BadNumbers 3)
  -- m is n at least, unless that byte is 0, the default
  pub bound_least : (DossierRefused (plain 1 2 1) BadNumbers 4) × (numbers_of (plain 1 2 2) ≡ fine (1 ∷ 2 ∷ 2 ∷ []))
      × (numbers_of (plain 1 2 0) ≡ fine (1 ∷ 2 ∷ 2 ∷ []))
  -- m = 64 with n = 60 is in range; n = 59 is 3, and so is m = 65
  pub bound_most : (numbers_of (plain 1 60 64) ≡ fine (1 ∷ 60 ∷ 64 ∷ [])) × (DossierRefused (plain 1 59 64) BadNumbers 4)
      × (DossierRefused (plain 1 64 65) BadNumbers 4)
  -- a unit's k and u are in the same ranges
  pub unit_inputs : (UnitRefused (plain_unit 0 1) BadNumbers 2) × (unit_numbers_of (plain_unit 1 1) ≡ fine (1 ∷ 1 ∷ []))
      × (UnitRefused (plain_unit 17 1) BadNumbers 2)
  pub unit_states : (UnitRefused (plain_unit 1 0) BadNumbers 3) × (unit_numbers_of (plain_unit 16 64) ≡ fine (16 ∷ 64 ∷ []))
      × (UnitRefused (plain_unit 1 65) BadNumbers 3)
  -- 4: the counts beside n · k
  pub count_of_entries : (DossierRefused (numbers_g 2 ++ (3 ∷ 0 ∷ [])) BadTable 5) × (DossierRefused (numbers_g 2 ++ (5 ∷ 0 ∷ [])) BadTable 5)
      × (UnitRefused (2 ∷ 0 ∷ 2 ∷ 3 ∷ 5 ∷ 0 ∷ []) BadTable 4) × (UnitRefused (2 ∷ 0 ∷ 2 ∷ 3 ∷ 7 ∷ 0 ∷ []) BadTable 4)
  -- the first and the last next state, which are 1 at most in G and 2 at most in V
  pub next_states : (DossierRefused (numbers_g 2 ++ (4 ∷ 0 ∷ 2 ∷ [])) BadTable 7) × (DossierRefused (take 13 built2 ++ (2 ∷ [])) BadTable 13)
      × (UnitRefused (take 6 unit_v ++ (3 ∷ [])) BadTable 6) × (UnitRefused (take 16 unit_v ++ (3 ∷ [])) BadTable 16)
  -- 5: a cover or separating word of 97 inputs is read, one of 98 is 5
  pub cover_word : (cover_lengths (dossier_g 2 (long 97) no_words no_words) ≡ fine (97 ∷ []))
      × (DossierRefused (dossier_g 2 (long 98) no_words no_words) BadWord 17)
  pub separating_word : (separating_lengths (dossier_g 2 no_words (long 97) no_words) ≡ fine (97 ∷ []))
      × (DossierRefused (dossier_g 2 no_words (long 98) no_words) BadWord 19)
  -- a test or sheet word of 200 inputs is read, one of 201 is 5
  pub test_word : (test_lengths (dossier_g 2 no_words no_words (long 200)) ≡ fine (200 ∷ []))
      × (DossierRefused (dossier_g 2 no_words no_words (long 201)) BadWord 21)
  pub sheet_word : (sheet_lengths (long 200 ++ replicate 200 0) ≡ fine (200 ∷ [])) × (SheetRefused (long 201) BadWord 2)
  -- the inputs 1, which is k - 1, and 2, in the first word of a dossier, as its last byte, and in a sheet
  pub first_input : (cover_lengths (dossier_g 2 only1 no_words no_words) ≡ fine (1 ∷ []))
      × (DossierRefused (dossier_g 2 (1 ∷ 0 ∷ 1 ∷ 2 ∷ []) no_words no_words) BadWord 18)
  pub last_input : (test_lengths (take 36 built2 ++ (1 ∷ [])) ≡ fine (2 ∷ 3 ∷ 3 ∷ [])) × (DossierRefused (take 36 built2 ++ (2 ∷ [])) BadWord 36)
  pub sheet_input : (sheet_lengths (1 ∷ 0 ∷ 1 ∷ 1 ∷ 0 ∷ []) ≡ fine (1 ∷ [])) × (SheetRefused (1 ∷ 0 ∷ 1 ∷ 2 ∷ []) BadWord 3)
  -- 6: a byte, and two, after the last section
  pub trailing : (DossierRefused (built2 ++ (0 ∷ [])) Trailing 37) × (DossierRefused (built2 ++ (0 ∷ 0 ∷ [])) Trailing 37)
      × (UnitRefused (unit_v ++ (0 ∷ [])) Trailing 18) × (SheetRefused (sheet2' ++ (0 ∷ [])) Trailing 21)
      × (SheetRefused (no_words ++ (0 ∷ [])) Trailing 2)
  -- Document 02, L1: for G as a unit cover empty, 1 and separating 0, 26 bytes; 0 for the bound is written as 0
  pub find-0 : Finds unit_g 0 (blank 28) (FoundWritten 26) (dossier_g 0 cover_g separating_g no_words ++ blank 2)
  pub find-2 : Finds unit_g 2 (blank 26) (FoundWritten 26) (dossier_g 2 cover_g separating_g no_words)
  pub find-3 : Finds unit_g 3 (blank 26) (FoundWritten 26) (dossier_g 3 cover_g separating_g no_words)
  -- 25 bytes are NO ROOM, needed 26
  pub find_no_room : Finds unit_g 0 (blank 25) (FindRefused (NoRoom 26)) (blank 25)
  -- the lowest of equals; the order of pairs, where 03 comes before 12; each telling word once
  pub find-4 : Finds unit4 0 (blank 45) (FoundWritten 45) (dossier4 0)
  -- one state: cover and separating the empty word
  pub find_one_state : Finds (unit_of1 ((0, 0) ∷ [])) 0 (blank 17) (FoundWritten 17) (dossier1 0 only_empty no_words)
  -- a bound of n - 1 or of n + 5 is 3 for the number that was passed, before anything of the states
  pub find_low_bound : Finds unit_g 1 (blank 26) (FindRefused (Malformed BadNumbers Number 0)) (blank 26)
  pub find_high_bound : Finds (unit_of1 ((0, 0) ∷ (1, 0) ∷ [])) 7 (blank 26) (FindRefused (Malformed BadNumbers Number 0)) (blank 26)
  -- states that nothing reaches: the lowest, of the unit, though the states 0 and 1 are alike
  pub find_unreached : Finds (unit_of1 ((1, 0) ∷ (0, 0) ∷ (0, 1) ∷ (0, 2) ∷ [])) 0 (blank 26) (FindRefused (Unreached UnitFile (golden_state 2))) (blank 26)
  -- the states 1 and 2 are alike, and so are 1 and 3, and 2 and 3: the lowest pair
  pub find_not_reduced : Finds (unit_of1 ((1, 0) ∷ (2, 1) ∷ (3, 1) ∷ (1, 1) ∷ [])) 0 [] (FindRefused (NotReduced (golden_state 1) (golden_state 2))) []
  -- L2: G's text is G as a unit, 14 bytes; 13 bytes are NO ROOM, needed 14
  pub import-G : ReadsText text_g (blank 16) (ImportWritten 14) (unit_g ++ blank 2)
  pub import_no_room : ReadsText text_g (blank 13) (ImportRefused (NoRoom 14)) (blank 13)
  -- the leftmost bit is the highest, a dash stands for both bits, the reset state is 0
  pub import_dashes : ReadsText text_dashes (blank 30) (ImportWritten 30) unit_dashes
  -- a line that breaks a rule, counted from 1: an output of two bits
  pub import_bad_line : ReadsText (text_of (text "0 a a 0" ∷ text "1 a a 00" ∷ text ".e" ∷ [])) [] (ImportRefused (BadLine 4)) []
  -- a term that differs from an earlier one, which had a dash
  pub import_contradiction : ReadsText (text_of (text "- a a 0" ∷ text "1 a a 1" ∷ text ".e" ∷ [])) [] (ImportRefused (Contradiction 4)) []
  -- a term that does both, with a state more than `.s` says: 19
  pub import_both : ReadsText (text_of (text ".s 1" ∷ text "- a a 0" ∷ text "1 a b 0" ∷ text ".e" ∷ [])) [] (ImportRefused (BadLine 5)) []
  -- no end: behind the last line, though an entry is lacking too
  pub import_no_end : ReadsText (text_of (text "0 a a 0" ∷ [])) [] (ImportRefused (BadLine 4)) []
  pub import_empty : ReadsText [] [] (ImportRefused (BadLine 1)) []
  -- the lowest state, then the lowest input, without a term, before NO ROOM: b is a next state only, and has the number 2
  pub import_incomplete : ReadsText (text_of (text "1 a b 0" ∷ text "- c a 0" ∷ text ".e" ∷ [])) [] (ImportRefused (Incomplete (unit_state 0) (input_of 0))) []
  pub import_next_only : ReadsText (text_of (text "- a b 0" ∷ text "- c a 0" ∷ text ".e" ∷ [])) [] (ImportRefused (Incomplete (unit_state 2) (input_of 0))) []

pub starred : Starred
unfolding flat_map words_of shortlex count_bytes output_bytes entry_bytes table_bytes word_bytes words_bytes front_bytes dossier_bytes byte judged count many word words output entry table sheet_record ending dossier unit_table sheet middles needed unreached pairs unseparated missing maximal_of built_tests read_file sound enough check build run telling compare access_word telling_word unreachable untold found_cover found_separating find lines_of fields_of line_says opened output_value read_lines is_whole state_names silent unit_said unit_bytes read_kiss2 repeated foreign absent pair judge test_part decimal run_line
starred =
    record {
      needed-2 = refl;
      build-2 = (refl, refl);
      build-2-fits = (refl, refl);
      build-2-no_room = (refl, refl);
      build-3 = (refl, refl);
      missing-3 = refl;
      no_empty_word = refl;
      unreached-1 = refl;
      no_separator = refl;
      not_separated = refl;
      golden_answers-2 = refl;
      unit_answers-2 = refl;
      run-3 = refl;
      compare-3 = (refl, refl);
      one_state-1 = (refl, refl);
      one_state-2 = (refl, refl);
      exchanged_totals = refl;
      exchanged = (refl, refl, refl);
      accepted-2 = refl;
      by_inputs = (refl, refl);
      one_state_no_separator = refl;
      shorter_middle_first = refl;
      inner_step = (refl, refl, refl);
      reads-2 = refl;
      reads-3 = refl;
      unit_reads = refl;
      sheet_reads = refl;
      sheet_reads' = refl;
      sheet_reads-V = refl;
      accepted-3 = refl;
      agrees-2 = refl;
      agrees-2' = refl;
      deviates-V = refl;
      line-3 = refl;
      too_long = (refl, refl);
      unit_too_long = (refl, refl);
      sheet_too_long = (refl, refl);
      cut_short = (refl, refl);
      unit_cut_short = (refl, refl);
      sheet_cut_short = (refl, refl);
      half_count = (refl, refl);
      count_of_numbers = (refl, refl, refl);
      unit_count_of_numbers = (refl, refl);
      inputs = (refl, refl, refl, refl);
      states = (refl, refl, refl);
      bound_least = (refl, refl, refl);
      bound_most = (refl, refl, refl);
      unit_inputs = (refl, refl, refl);
      unit_states = (refl, refl, refl);
      count_of_entries = (refl, refl, refl, refl);
      next_states = (refl, refl, refl, refl);
      cover_word = (refl, refl);
      separating_word = (refl, refl);
      test_word = (refl, refl);
      sheet_word = (refl, refl);
      first_input = (refl, refl);
      last_input = (refl, refl);
      sheet_input = (refl, refl);
      trailing = (refl, refl, refl, refl, refl);
      find-0 = (refl, refl);
      find-2 = (refl, refl);
      find-3 = (refl, refl);
      find_no_room = (refl, refl);
      find-4 = (refl, refl);
      find_one_state = (refl, refl);
      find_low_bound = (refl, refl);
      find_high_bound = (refl, refl);
      find_unreached = (refl, refl);
      find_not_reduced = (refl, refl);
      import-G = (refl, refl);
      import_no_room = (refl, refl);
      import_dashes = (refl, refl);
      import_bad_line = (refl, refl);
      import_contradiction = (refl, refl);
      import_both = (refl, refl);
      import_no_end = (refl, refl);
      import_empty = (refl, refl);
      import_incomplete = (refl, refl);
      import_next_only = (refl, refl);
    }
