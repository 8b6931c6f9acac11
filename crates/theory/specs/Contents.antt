-- What the readers of the three files read, but for the sizes of the files: what keeps the rules, from its bytes.
use Rattle.std.specs.Prelude.{ℕ, ◌+◌, ◌≤◌, ◌<◌, ◌≡◌, refl, List, [], ◌∷◌, ◌++◌, true, ◌&&◌, leb, eqb, length}
use Rattle.std.proofs.Common.{append-nil, append_assoc, leb-true, eqb-true, le-leb}
use Rattle.std.proofs.Math.Bool.{and-eq-true_iff}
use Rattle.rules.specs.declared.Fault.TheVariants.{BadNumbers}
use Rattle.rules.specs.Lists.{◌∈◌}
use Rattle.rules.specs.Sizes.{most_inputs, most_states, most_added_states, most_set_word, most_test_word, counts, bound_of, bound_good}
use Rattle.rules.specs.Machines.{Table}
use Rattle.rules.specs.Files.{DossierData, UnitData, SheetRecord, count_bytes, table_bytes, words_bytes, front_bytes, dossier_bytes, unit_bytes, sheet_bytes}
use Rattle.rules.specs.Reading.{dossier, unit_table, sheet}
use Rattle.theory.specs.Sized.{SizedTable, SizedWords}
use Rattle.theory.specs.Readers.{Nothing, Reads, reads_count, reads_ending, reads_steps, reads_then, reads_many}
use Rattle.theory.specs.Sections.{reads_judged-byte, reads_judged-count, reads_words, Entries, reads_table, Recorded, reads_record}

-- the tests on the numbers of a file, and what they say
counts-true : (most x : ℕ) → 0 < x → x ≤ most → counts most x ≡ true
counts-true most x some few = (and-eq-true_iff (leb 1 x) (leb x most)).1 (le-leb 1 x some, le-leb x most few)

pub true-counts : (most x : ℕ) → counts most x ≡ true → (0 < x) × (x ≤ most)
true-counts most x is = let (some, few) = (and-eq-true_iff (leb 1 x) (leb x most)).0 is in (leb-true 1 x some, leb-true x most few)

-- what a byte for m has to be where the golden has n states
abbrev pub InRange : ℕ → ℕ → Type 0
InRange n b = (n ≤ bound_of n b) × (bound_of n b ≤ most_states) × (bound_of n b ≤ n + most_added_states)

pub bound_true : (n b : ℕ) → InRange n b → bound_good n b ≡ true
bound_true n b (least, most, near) =
    let m = bound_of n b in
    rw (le-leb n m least, le-leb m most_states most, le-leb m (n + most_added_states) near)

pub true_bound : (n b : ℕ) → bound_good n b ≡ true → InRange n b
true_bound n b is =
    let m = bound_of n b in
    let (both, near) = (and-eq-true_iff (leb n m && leb m most_states) (leb m (n + most_added_states))).0 is in
    let (least, most) = (and-eq-true_iff (leb n m) (leb m most_states)).0 both in
    (leb-true n m least, leb-true m most_states most, leb-true m (n + most_added_states) near)

-- the tests on k and n of a table within the sizes, before what else is tested
table_true : {k n : ℕ} {t : Table} {Rest : Type 0} → SizedTable k n t → Rest
    → (counts most_inputs k ≡ true) × ((counts most_states n ≡ true) × Rest)
table_true {k} {n} sized rest =
    let inputs = counts-true most_inputs k sized.some_input sized.few_inputs in
    let states = counts-true most_states n sized.some_state sized.few_states in
    (inputs, (states, rest))

-- and back
true_table : (k n : ℕ) (t : Table) → counts most_inputs k ≡ true → counts most_states n ≡ true → Entries k n t → SizedTable k n t
true_table k n t inputs states (entries, next_states) =
    let (some_input, few_inputs) = true-counts most_inputs k inputs in
    let (some_state, few_states) = true-counts most_states n states in
    record {
      some_input = some_input;
      few_inputs = few_inputs;
      some_state = some_state;
      few_states = few_states;
      entries = entries;
      next_states = next_states;
    }

-- A dossier within the sizes, but for the size of the file.
abbrev pub DossierRule : DossierData → Type 0
DossierRule d =
    SizedTable d.inputs d.states d.table × InRange d.states d.bound_byte × SizedWords d.inputs most_set_word d.cover
    × SizedWords d.inputs most_set_word d.separating × SizedWords d.inputs most_test_word d.tests

-- its bytes, section after section
pub dossier_laid : (d : DossierData) → dossier_bytes d
    ≡ count_bytes 3 ++ (d.inputs ∷ d.states ∷ d.bound_byte ∷ (table_bytes d.table
    ++ (words_bytes d.cover ++ (words_bytes d.separating ++ (words_bytes d.tests ++ [])))))
unfolding dossier_bytes front_bytes
dossier_laid d = simp (append_assoc, append-nil)

-- The data that was read tells by itself what each step read.
pub reads_dossier : Reads Nothing dossier DossierRule (λ d. dossier_bytes d)
unfolding dossier
reads_dossier =
    reads_steps (reads_judged-count (eqb 3) BadNumbers tt) (λ c.
    reads_then (reads_judged-byte (counts most_inputs) BadNumbers tt) (λ d. d.inputs) (λ x d rule rest. cc) (λ k.
    reads_then (reads_judged-byte (counts most_states) BadNumbers tt) (λ d. d.states) (λ x d rule rest. cc) (λ n.
    reads_then (reads_judged-byte (bound_good n) BadNumbers tt) (λ d. d.bound_byte) (λ x d rule rest. cc) (λ m.
    reads_then (reads_table k n) (λ d. d.table) (λ x d rule rest. cc) (λ t.
    reads_then (reads_words k most_set_word) (λ d. d.cover) (λ x d rule rest. cc) (λ cover.
    reads_then (reads_words k most_set_word) (λ d. d.separating) (λ x d rule rest. cc) (λ separating.
    reads_then (reads_words k most_test_word) (λ d. d.tests) (λ x d rule rest. cc) (λ tests. reads_ending _))))))))
    DossierRule (λ d. dossier_bytes d)
    (λ d (golden, in_range, cover, separating, tests).
    let bound_good_lem = bound_true d.states d.bound_byte in_range in
    let entries : Entries d.inputs d.states d.table = (golden.entries, golden.next_states) in
    (3, refl, table_true golden (bound_good_lem, (entries, (cover, (separating, (tests, refl))))), dossier_laid d))
    (λ c d three (k, (n, (m, (t, (cover, (separating, (tests, is))))))).
    let golden = true_table d.inputs d.states d.table k n t in
    let in_range = true_bound d.states d.bound_byte m in
    ((golden, in_range, cover, separating, tests), rw (← (eqb-true 3 c three)) (dossier_laid d)))

-- A unit within the sizes, but for the size of the file.
abbrev pub UnitRule : UnitData → Type 0
UnitRule u = SizedTable u.inputs u.states u.table

-- its bytes, section after section
pub unit_laid : (u : UnitData) → unit_bytes u ≡ count_bytes 2 ++ (u.inputs ∷ u.states ∷ (table_bytes u.table ++ []))
unfolding unit_bytes
unit_laid u = simp (append_assoc, append-nil)

pub reads_unit : Reads Nothing unit_table UnitRule (λ u. unit_bytes u)
unfolding unit_table
reads_unit =
    reads_steps (reads_judged-count (eqb 2) BadNumbers tt) (λ c.
    reads_then (reads_judged-byte (counts most_inputs) BadNumbers tt) (λ u. u.inputs) (λ x u rule rest. cc) (λ k.
    reads_then (reads_judged-byte (counts most_states) BadNumbers tt) (λ u. u.states) (λ x u rule rest. cc) (λ n.
    reads_then (reads_table k n) (λ u. u.table) (λ x u rule rest. cc) (λ t. reads_ending _))))
    UnitRule (λ u. unit_bytes u)
    (λ u machine. (2, refl, table_true machine ((machine.entries, machine.next_states), refl), unit_laid u))
    (λ c u two (k, (n, (t, is))). (true_table u.inputs u.states u.table k n t, rw (← (eqb-true 2 c two)) (unit_laid u)))

-- A sheet over k inputs within the sizes, but for the size of the file.
abbrev pub SheetRule : ℕ → List SheetRecord → Type 0
SheetRule k rs = (r : SheetRecord) → r ∈ rs → Recorded k r

pub reads_sheet : (k : ℕ) → Reads Nothing (sheet k) (SheetRule k) (λ rs. sheet_bytes rs)
unfolding sheet sheet_bytes
reads_sheet k =
    reads_steps reads_count (λ c. reads_then (reads_many (reads_record k) c) (λ rs. rs) (λ x rs rule is. is) (λ rs. reads_ending rs))
    (SheetRule k) (λ rs. sheet_bytes rs)
    (λ rs rule. (length rs, tt, ((refl, rule), refl), rw append-nil))
    (λ c rs any ((long, rule), is). (rule, rw (long, append-nil)))
