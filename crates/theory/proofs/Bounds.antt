-- Every value of an answer of compare is small.
use Rattle.std.specs.Prelude.{ℕ, length}
use Rattle.std.proofs.Common.{arith, sym}
use mathlib.Core.List.{List, [], ◌∷◌}
use Rattle.rules.specs.declared.Refusal.{Refusal}
use Rattle.rules.specs.declared.Compared.{Compared}
use Rattle.rules.specs.declared.Compared.TheVariants.{Equal, Differs, Refused as CompareRefused}
use Rattle.rules.specs.Words.{Word}
use Rattle.rules.specs.Files.{DossierData, UnitData, golden, unit}
use Rattle.rules.specs.Answers.{compare_says}
use Rattle.rules.specs.Promises.{ComparePromise}
use Rattle.theory.specs.Files.{dossier_sized, unit_sized}
use Rattle.theory.specs.Answers.{compare_answer_lem}
use Rattle.theory.specs.Machines.{golden_complete}
use Rattle.theory.specs.Compare
use Rattle.theory.specs.Compare.{Compares, TellingOf, CompareRefuses}
use Rattle.theory.proofs.Compare.{telling_short, compare_exactly}
use Rattle.theory.specs.Bounds.{Small, SmallRefusal, Fits, dossier_small, unit_small, well_fits, differing_fits, refusal_fits}

-- a telling word has at most 127 inputs
telling_small : (dossier_file unit_file : List ℕ) (d : DossierData) (u : UnitData) → Compares dossier_file unit_file d u → (w : Word) → TellingOf d u w → Small (length w)
telling_small dossier_file unit_file d u c w t =
    let sized = (dossier_sized dossier_file d c.reads).golden in
    let unit_is = (unit_sized unit_file u c.unit_reads).machine in
    let short = telling_short d.inputs (golden d) (unit u) (golden_complete sized) (rw c.same_inputs (golden_complete unit_is)) w t in
    omega (arith, short, sized.few_states, unit_is.few_states)

compare_small : (dossier_file unit_file out : List ℕ) (r : Refusal) → CompareRefuses dossier_file unit_file out r → SmallRefusal r
compare_small dossier_file unit_file out r (Compare.malformed e) = dossier_small dossier_file r e
compare_small dossier_file unit_file out r (Compare.malformed_unit d e e') = unit_small unit_file r e'
compare_small dossier_file unit_file out r (Compare.fifteen d u e e' other is) = rw is tt
compare_small dossier_file unit_file out r (Compare.seventeen d u c w t short is) = rw is (telling_small dossier_file unit_file d u c w t)

pub compare_fits : (dossier_file unit_file out : List ℕ) (r : Compared) (left : List ℕ) → ComparePromise dossier_file unit_file out r left → Fits (compare_says r)
compare_fits dossier_file unit_file out Equal left p = well_fits [] (omega arith) (omega arith) (omega arith)
compare_fits dossier_file unit_file out (Differs n) left p =
    let (d, u, w, c, t, fits, is) = (compare_exactly dossier_file unit_file out (Differs n)).0 (sym (compare_answer_lem dossier_file unit_file out (Differs n) left p).0) in
    differing_fits (n ∷ []) (omega arith) (omega (arith, telling_small dossier_file unit_file d u c w t, is)) (omega arith)
compare_fits dossier_file unit_file out (CompareRefused r) left p =
    refusal_fits r (compare_small dossier_file unit_file out r ((compare_exactly dossier_file unit_file out (CompareRefused r)).0 (sym (compare_answer_lem dossier_file unit_file out (CompareRefused r) left p).0)))
