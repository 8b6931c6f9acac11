-- The bureau's third demand, and what it says of sheets: theorems over the bytes of files.
use Rattle.std.specs.Prelude.{ℕ, ◌≤◌, ◌≡◌, refl, ◌↔◌, ◌≢◌, List, length}
use Rattle.std.proofs.Common.{sym, ◌∙◌, arith}
use Rattle.rules.specs.declared.Checked.TheVariants.{Accepted}
use Rattle.rules.specs.declared.Ran.{Ran}
use Rattle.rules.specs.declared.Ran.TheVariants.{Passes}
use Rattle.rules.specs.declared.Compared.{Compared}
use Rattle.rules.specs.declared.Compared.TheVariants.{Equal as Alike}
use Rattle.rules.specs.declared.Judged.{Judged}
use Rattle.rules.specs.declared.Judged.TheVariants.{Agrees, Deviates}
use Rattle.rules.specs.Lists.{◌∈◌}
use Rattle.rules.specs.Words.{Word, Valid}
use Rattle.rules.specs.Machines.{Machine, Complete, answer}
use Rattle.rules.specs.Files.{DossierData, UnitData, SheetRecord, golden, unit, bound}
use Rattle.rules.specs.Needed.{IsAccepted}
use Rattle.rules.specs.Operations.{fine, read_dossier, read_unit, read_sheet, check_answer, run_answer, compare_answer, judge_answer}
use Rattle.rules.specs.Promises.{CheckPromise, RunPromise, ComparePromise, JudgePromise}
use Rattle.theory.specs.Lists.{At}
use Rattle.theory.specs.Machines.{golden_complete}
use Rattle.theory.specs.Numbering.{MachineOver, AtMost, answers, numbered, numbered_complete, numbered-answers}
use Rattle.theory.proofs.Complete.{complete}
use Rattle.theory.specs.Outcomes.{fine_injective}
use Rattle.theory.specs.Answers.{check_answer_lem, run_answer_lem, compare_answer_lem, judge_answer_lem}
use Rattle.theory.specs.Files.{dossier_sized, unit_sized}
use Rattle.theory.specs.Check.{check_exactly}
use Rattle.theory.specs.Steps.{step_differs}
use Rattle.theory.specs.Run.{run_exactly}
use Rattle.theory.specs.Compare.{Equal}
use Rattle.theory.proofs.Compare.{compare_exactly}
use Rattle.theory.specs.Pairing.{Belongs}
use Rattle.theory.specs.Judge.{FirstDeviating, judge_exactly}

-- the dossier that bytes hold is the one that check accepted
accepted_as : (dossier_file : List ℕ) (d : DossierData) → check_answer dossier_file ≡ Accepted → read_dossier dossier_file ≡ fine d → IsAccepted d
accepted_as dossier_file d accepted reads =
    let (d', (reads', a)) = (check_exactly dossier_file Accepted).0 accepted in
    rw (fine_injective (sym reads ∙ reads')) a

-- a machine that a dossier speaks of: complete over its inputs, and of no more states than its bound
pub record Covered (d : DossierData) (U : Machine) : Type 0 where
  pub whole : Complete d.inputs U
  pub few : U.states ≤ bound d

-- COMPLETE. Whoever built an accepted dossier: a machine with its inputs and at most m states that answers each test as the
-- golden does answers every word so.
pub tests_settle_every_word : (dossier_file : List ℕ) (d : DossierData) → check_answer dossier_file ≡ Accepted → read_dossier dossier_file ≡ fine d
    → (U : Machine) → Covered d U → ((t : Word) → t ∈ d.tests → answer U t ≡ answer (golden d) t)
    → (w : Word) → Valid d.inputs w → answer U w ≡ answer (golden d) w
tests_settle_every_word dossier_file d accepted reads U covered alike =
    complete d (dossier_sized dossier_file d reads) (accepted_as dossier_file d accepted reads) U covered.whole covered.few alike

-- The same over the promise of check: of any program that keeps it.
pub allowed_tests_settle_every_word : (dossier_file : List ℕ) (d : DossierData) → CheckPromise dossier_file Accepted → read_dossier dossier_file ≡ fine d
    → (U : Machine) → Covered d U → ((t : Word) → t ∈ d.tests → answer U t ≡ answer (golden d) t)
    → (w : Word) → Valid d.inputs w → answer U w ≡ answer (golden d) w
allowed_tests_settle_every_word dossier_file d accepted = tests_settle_every_word dossier_file d (sym (check_answer_lem dossier_file Accepted accepted))

-- The same for a machine over any set of states that someone can number below m.
pub tests_settle_any_machine : (dossier_file : List ℕ) (d : DossierData) → check_answer dossier_file ≡ Accepted → read_dossier dossier_file ≡ fine d
    → {S : Type 0} (M : MachineOver S) → AtMost (bound d) S → ((t : Word) → t ∈ d.tests → answers M t ≡ answer (golden d) t)
    → (w : Word) → Valid d.inputs w → answers M w ≡ answer (golden d) w
tests_settle_any_machine dossier_file d accepted reads M few alike w valid =
    sym (numbered-answers M few w)
    ∙ tests_settle_every_word dossier_file d accepted reads (numbered M few) (record { whole = numbered_complete M few d.inputs; few = omega arith }) (λ t m. numbered-answers M few t ∙ alike t m) w valid

pub allowed_tests_settle_any_machine : (dossier_file : List ℕ) (d : DossierData) → CheckPromise dossier_file Accepted → read_dossier dossier_file ≡ fine d
    → {S : Type 0} (M : MachineOver S) → AtMost (bound d) S → ((t : Word) → t ∈ d.tests → answers M t ≡ answer (golden d) t)
    → (w : Word) → Valid d.inputs w → answers M w ≡ answer (golden d) w
allowed_tests_settle_any_machine dossier_file d accepted = tests_settle_any_machine dossier_file d (sym (check_answer_lem dossier_file Accepted accepted))

-- EQUAL is given exactly when golden and unit answer every word alike.
pub equal_exactly : (dossier_file unit_file out : List ℕ) (d : DossierData) (u : UnitData) → read_dossier dossier_file ≡ fine d → read_unit unit_file ≡ fine u → d.inputs ≡ u.inputs
    → (compare_answer dossier_file unit_file out ≡ Alike) ↔ Equal d.inputs (golden d) (unit u)
equal_exactly dossier_file unit_file out d u reads unit_reads inputs = (
  λ e.
      let (d', u', c, equal) = (compare_exactly dossier_file unit_file out Alike).0 e in
      rw (fine_injective (sym reads ∙ c.reads), fine_injective (sym unit_reads ∙ c.unit_reads)) equal,
  λ equal. (compare_exactly dossier_file unit_file out Alike).1 (d, u, record { reads = reads; unit_reads = unit_reads; same_inputs = inputs }, equal),
)

-- PASSES EXACTLY WHEN EQUAL. For an accepted dossier and a unit with its inputs and at most m states.
pub passes_exactly_when_equal : (dossier_file unit_file out : List ℕ) (d : DossierData) (u : UnitData) → check_answer dossier_file ≡ Accepted → read_dossier dossier_file ≡ fine d
    → read_unit unit_file ≡ fine u → d.inputs ≡ u.inputs → u.states ≤ bound d
    → ((n : ℕ) × (run_answer dossier_file unit_file ≡ Passes n)) ↔ (compare_answer dossier_file unit_file out ≡ Alike)
passes_exactly_when_equal dossier_file unit_file out d u accepted reads unit_reads inputs few = (
  λ (n, e).
      let (d', u', tries, count, alike) = (run_exactly dossier_file unit_file (Passes n)).0 e in
      let d_is : d' ≡ d = fine_injective (sym tries.accepted.0 ∙ reads) in
      let u_is : u' ≡ u = fine_injective (sym tries.reads ∙ unit_reads) in
      let same : (t : Word) → t ∈ d.tests → answer (unit u) t ≡ answer (golden d) t = λ t m. sym ((rw (d_is, u_is) at alike) t m) in
      exactly.1 (λ w valid. sym (tests_settle_every_word dossier_file d accepted reads (unit u) (record { whole = unit_whole; few = few }) same w valid)),
  λ e.
      let equal = exactly.0 e in (
        length d.tests,
        (run_exactly dossier_file unit_file (Passes (length d.tests))).1
            (d, u, record { accepted = (reads, accepted_as dossier_file d accepted reads); reads = unit_reads; same_inputs = inputs; few_states = few }, refl, λ t m. equal t ((dossier_sized dossier_file d reads).tests t m).0),
      ),
)
  where
    exactly : (compare_answer dossier_file unit_file out ≡ Alike) ↔ Equal d.inputs (golden d) (unit u)
    exactly = equal_exactly dossier_file unit_file out d u reads unit_reads inputs

    unit_whole : Complete d.inputs (unit u)
    unit_whole = rw inputs (golden_complete (unit_sized unit_file u unit_reads).machine)

-- The same of whatever the promises allow: of any programs that keep them, with any output lent to compare.
pub allowed_passes_exactly_when_equal : (dossier_file unit_file out left : List ℕ) (d : DossierData) (u : UnitData) (ran : Ran) (compared : Compared) → CheckPromise dossier_file Accepted
    → read_dossier dossier_file ≡ fine d → read_unit unit_file ≡ fine u → d.inputs ≡ u.inputs → u.states ≤ bound d
    → RunPromise dossier_file unit_file ran → ComparePromise dossier_file unit_file out compared left
    → ((n : ℕ) × (ran ≡ Passes n)) ↔ (compared ≡ Alike)
allowed_passes_exactly_when_equal dossier_file unit_file out left d u ran compared accepted reads unit_reads inputs few runs compares =
    rw (run_answer_lem dossier_file unit_file ran runs, (compare_answer_lem dossier_file unit_file out compared left compares).0)
    (passes_exactly_when_equal dossier_file unit_file out d u (sym (check_answer_lem dossier_file Accepted accepted)) reads unit_reads inputs few)

-- the sheet of a machine: each record has its answer
abbrev pub SheetOf : Machine → List SheetRecord → Type 0
SheetOf U rs = (r : SheetRecord) → r ∈ rs → answer U r.word ≡ r.recorded

-- A SHEET SETTLES. If the judge agrees, a machine of at most m states whose sheet this is answers every word as the golden does.
pub agreeing_sheet_settles : (dossier_file sheet_file : List ℕ) (d : DossierData) (rs : List SheetRecord) → judge_answer dossier_file sheet_file ≡ Agrees
    → read_dossier dossier_file ≡ fine d → read_sheet d.inputs sheet_file ≡ fine rs → (U : Machine) → Covered d U → SheetOf U rs
    → (w : Word) → Valid d.inputs w → answer U w ≡ answer (golden d) w
agreeing_sheet_settles dossier_file sheet_file d rs agrees reads sheet_reads U covered sheet =
    let (d', rs', fits, all) = (judge_exactly dossier_file sheet_file Agrees).0 agrees in
    let d_is : d' ≡ d = fine_injective (sym fits.accepted.0 ∙ reads) in
    let accepted = (check_exactly dossier_file Accepted).1 (d', fits.accepted) in
    settle d' rs' d_is fits.reads fits.belongs all accepted
  where
    settle : (d' : DossierData) (rs' : List SheetRecord) → d' ≡ d → read_sheet d'.inputs sheet_file ≡ fine rs' → Belongs d'.tests rs' → ((r : SheetRecord) → r ∈ rs' → answer (golden d') r.word ≡ r.recorded)
        → check_answer dossier_file ≡ Accepted → (w : Word) → Valid d.inputs w → answer U w ≡ answer (golden d) w
    settle d' rs' d_is sheet_reads' belongs all accepted =
        let rs_is : rs' ≡ rs = fine_injective (sym (rw d_is at sheet_reads') ∙ sheet_reads) in
        let belongs' : Belongs d.tests rs = rw (d_is, rs_is) at belongs in
        let all' : (r : SheetRecord) → r ∈ rs → answer (golden d) r.word ≡ r.recorded = rw (d_is, rs_is) at all in
        tests_settle_every_word dossier_file d accepted reads U covered
        (λ t m. let (r, n, is) = belongs'.whole t m in rw is at (sheet r n ∙ sym (all' r n)))

-- The same of whatever the promise allows: of any program that keeps it.
pub allowed_agreeing_sheet_settles : (dossier_file sheet_file : List ℕ) (d : DossierData) (rs : List SheetRecord) (judged : Judged) → JudgePromise dossier_file sheet_file judged
    → read_dossier dossier_file ≡ fine d → read_sheet d.inputs sheet_file ≡ fine rs → (U : Machine) → Covered d U → SheetOf U rs
    → judged ≡ Agrees → (w : Word) → Valid d.inputs w → answer U w ≡ answer (golden d) w
allowed_agreeing_sheet_settles dossier_file sheet_file d rs judged judges reads sheet_reads U covered sheet agrees =
    agreeing_sheet_settles dossier_file sheet_file d rs (sym (judge_answer_lem dossier_file sheet_file judged judges) ∙ agrees) reads sheet_reads U covered sheet

-- If the judge answers DEVIATES, a machine whose sheet this is differs from the golden on the test that is named.
pub deviating_sheet_tells : (dossier_file sheet_file : List ℕ) (d : DossierData) (rs : List SheetRecord) (i j : ℕ) → judge_answer dossier_file sheet_file ≡ Deviates i j
    → read_dossier dossier_file ≡ fine d → read_sheet d.inputs sheet_file ≡ fine rs → (U : Machine) → SheetOf U rs
    → (t : Word) × At d.tests i t × (answer U t ≢ answer (golden d) t)
deviating_sheet_tells dossier_file sheet_file d rs i j deviates reads sheet_reads U sheet =
    let (d', rs', fits, f) = (judge_exactly dossier_file sheet_file (Deviates i j)).0 deviates in
    tell d' rs' (fine_injective (sym fits.accepted.0 ∙ reads)) fits.reads f
  where
    tell : (d' : DossierData) (rs' : List SheetRecord) → d' ≡ d → read_sheet d'.inputs sheet_file ≡ fine rs' → FirstDeviating d' rs' i j
        → (t : Word) × At d.tests i t × (answer U t ≢ answer (golden d) t)
    tell d' rs' d_is sheet_reads' f' =
        let rs_is : rs' ≡ rs = fine_injective (sym (rw d_is at sheet_reads') ∙ sheet_reads) in
        let f : FirstDeviating d rs i j = rw (d_is, rs_is) at f' in
        let r = f.this in
        (r.word, f.here, λ e. step_differs f.step (sym e ∙ sheet r f.stands))

-- A sheet with one record for each distinct test, from a machine equal to the golden, agrees.
pub equal_machine_agrees : (dossier_file sheet_file : List ℕ) (d : DossierData) (rs : List SheetRecord) → check_answer dossier_file ≡ Accepted
    → read_dossier dossier_file ≡ fine d → read_sheet d.inputs sheet_file ≡ fine rs → Belongs d.tests rs → (U : Machine) → SheetOf U rs → Equal d.inputs (golden d) U
    → judge_answer dossier_file sheet_file ≡ Agrees
equal_machine_agrees dossier_file sheet_file d rs accepted reads sheet_reads belongs U sheet equal =
    (judge_exactly dossier_file sheet_file Agrees).1 (
      d,
      rs,
      record { accepted = (reads, accepted_as dossier_file d accepted reads); reads = sheet_reads; belongs = belongs },
      λ r m. equal r.word ((dossier_sized dossier_file d reads).tests r.word (belongs.known r m)).0 ∙ sheet r m,
    )
