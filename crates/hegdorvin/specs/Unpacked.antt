-- Unpacking what was packed gives the answer back.
use Rattle.std.specs.Prelude.{ℕ, zero, suc, ◌/◌, ◌%◌, ◌≤◌, ◌<◌, ◌≡◌, refl, List, [], ◌∷◌, cond, eqb, length, get_or}
use Rattle.std.proofs.Common.{arith, sym, ◌∙◌, ne_eqb, eq-eqb}
use Rattle.std.proofs.Math.Decide.{ℕ_discrete}
use Rattle.rules.specs.declared.Checked.{Checked}
use Rattle.rules.specs.declared.Built.{Built}
use Rattle.rules.specs.declared.Ran.{Ran}
use Rattle.rules.specs.declared.Judged.{Judged}
use Rattle.rules.specs.declared.Costed.{Costed}
use Rattle.rules.specs.declared.Found.{Found}
use Rattle.rules.specs.declared.Imported.{Imported}
use Rattle.rules.specs.Answers.{Said, well, check_says, build_says, run_says, judge_says, cost_says, find_says, import_says}
use Rattle.rules.specs.Operations.{Part, part_of, judged_part}
use Rattle.rules.specs.Promises.{CheckPromise, BuildPromise, RunPromise, JudgePromise, JudgeWordPromise, CostPromise, FindPromise, ReadKiss2Promise}
use Rattle.theory.specs.Answers.{value, check_said, check_said_lem, build_said, build_said_lem, run_said, run_said_lem, compare_said, judge_said, judge_said_lem, cost_said, cost_said_lem, find_said, find_said_lem, import_said, import_said_lem}
use Rattle.theory.specs.Bounds.{Fits, PlainFits, MissingFits, check_fits, build_fits, run_fits, judge_fields_fit, judged_part_fits, cost_fits, find_fits, import_fits}
use Rattle.hegdorvin_packing.specs.Packed.{packed_plain, packed_missing, packed}

-- the values in a packed MISSING, in the order of the paper
abbrev pub missing_values : ℕ → List ℕ
missing_values n =
    n / 256 % 65536 ∷ n / 1099511627776 % 8 ∷ n / 8796093022208 % 16 ∷ n / 140737488355328 % 16 ∷ n / 2251799813685248 % 16 ∷ n / 36028797018963968 % 16
    ∷ n / 576460752303423488 % 16 ∷ n / 16777216 % 65536 ∷ []

-- what a packed answer says
abbrev pub unpacked : ℕ → Said
unpacked n =
    record {
      number = n % 32;
      file = n / 32 % 8;
      values = cond (eqb (n % 32) 11) (missing_values n) (n / 256 % 16777216 ∷ n / 4294967296 % 16777216 ∷ []);
    }

-- two answers say the same: a value that is not there counts as 0
pub record Same (s t : Said) : Type 0 where
  pub number : s.number ≡ t.number
  pub file : s.file ≡ t.file
  pub values : (i : ℕ) → value s i ≡ value t i

beyond : (l : List ℕ) (i : ℕ) → length l ≤ i → get_or l i 0 ≡ 0
beyond [] i h = refl
beyond (a ∷ l) zero h = absurd (omega arith)
beyond (a ∷ l) (suc i) h = beyond l i (omega arith)

plain_number : (s : Said) → s.number < 32 → packed_plain s % 32 ≡ s.number
plain_number s h = omega arith

plain_file : (s : Said) → s.number < 32 → s.file < 8 → packed_plain s / 32 % 8 ≡ s.file
plain_file s h h' = omega arith

plain_first : (s : Said) → s.number < 32 → s.file < 8 → value s 0 < 16777216 → packed_plain s / 256 % 16777216 ≡ value s 0
plain_first s h h' h'' = omega arith

plain_second : (s : Said) → s.number < 32 → s.file < 8 → value s 0 < 16777216 → value s 1 < 16777216 → packed_plain s / 4294967296 % 16777216 ≡ value s 1
plain_second s h h' h'' h''' = omega arith

module _ (s : Said) (number : s.number < 32) (file : s.file < 8) (fits : MissingFits s) where
  missing_number : packed_missing s % 32 ≡ s.number
  missing_number = omega arith

  missing_file : packed_missing s / 32 % 8 ≡ s.file
  missing_file = omega arith

  missing_values_lem : (i : ℕ) → get_or (missing_values (packed_missing s)) i 0 ≡ value s i
  missing_values_lem zero = omega (arith, fits.cover)
  missing_values_lem (suc zero) = omega (arith, fits.cover, fits.separator, fits.long)
  missing_values_lem (suc (suc zero)) = omega (arith, fits.cover, fits.separator, fits.long, fits.inputs 0 (omega arith))
  missing_values_lem (suc (suc (suc zero))) =
      omega (arith, fits.cover, fits.separator, fits.long, fits.inputs 0 (omega arith), fits.inputs 1 (omega arith))
  missing_values_lem (suc (suc (suc (suc zero)))) =
      omega (arith, fits.cover, fits.separator, fits.long, fits.inputs 0 (omega arith), fits.inputs 1 (omega arith), fits.inputs 2 (omega arith))
  missing_values_lem (suc (suc (suc (suc (suc zero))))) =
      omega (arith, fits.cover, fits.separator, fits.long, fits.inputs 0 (omega arith), fits.inputs 1 (omega arith), fits.inputs 2 (omega arith), fits.inputs 3 (omega arith))
  missing_values_lem (suc (suc (suc (suc (suc (suc zero)))))) =
      omega (arith, fits.cover, fits.separator, fits.long, fits.inputs 0 (omega arith), fits.inputs 1 (omega arith), fits.inputs 2 (omega arith), fits.inputs 3 (omega arith), fits.inputs 4 (omega arith))
  missing_values_lem (suc (suc (suc (suc (suc (suc (suc zero))))))) = omega (arith, fits.cover, fits.separator)
  missing_values_lem (suc (suc (suc (suc (suc (suc (suc (suc i)))))))) = sym (beyond s.values _ (omega (arith, fits.eight)))

-- What is unpacked says the same as what was packed.
pub packed_same : (s : Said) → Fits s → Same (unpacked (packed s)) s
unfolding packed
packed_same s fits =
    elim (ℕ_discrete s.number 11) [
      | yes e ↦
          let m = fits.missing e in
          let number = missing_number s fits.number fits.file m in
          rw (eq-eqb s.number 11 e)
          (record {
            number = number;
            file = missing_file s fits.number fits.file m;
            values = λ i. rw (number, eq-eqb s.number 11 e) (missing_values_lem s fits.number fits.file m i);
          })
      | no ne ↦
          let p = fits.plain ne in
          let number = plain_number s fits.number in
          rw (ne_eqb s.number 11 ne)
          (record {
            number = number;
            file = plain_file s fits.number fits.file;
            values = λ i. rw (number, ne_eqb s.number 11 ne) (plain_values s fits p i);
          })
    ]
  where
    plain_values : (s : Said) → Fits s → PlainFits s → (i : ℕ) → get_or (packed_plain s / 256 % 16777216 ∷ packed_plain s / 4294967296 % 16777216 ∷ []) i 0 ≡ value s i
    plain_values s fits p zero = plain_first s fits.number fits.file p.first
    plain_values s fits p (suc zero) = plain_second s fits.number fits.file p.first p.second
    plain_values s fits p (suc (suc i)) = sym (beyond s.values (suc (suc i)) (omega (arith, p.few)))

-- Answers that say the same are the same, for each operation whose answer can be made again from what it says.
abbrev pub Made : {A : Type 0} → (Said → A) → Type 0
Made said = (s t : Said) → Same s t → said s ≡ said t

pub back : {A : Type 0} (says : A → Said) (said : Said → A) → ((a : A) → said (says a) ≡ a) → Made said → (r : A) → Fits (says r) → said (unpacked (packed (says r))) ≡ r
back says said again made r fits = made (unpacked (packed (says r))) (says r) (packed_same (says r) fits) ∙ again r

made_check : Made check_said
made_check s t h = rw (h.number, h.file, h.values 0, h.values 1, h.values 2, h.values 3, h.values 4, h.values 5, h.values 6, h.values 7)

made_build : Made build_said
made_build s t h = rw (h.number, h.file, h.values 0, h.values 1, h.values 2, h.values 3, h.values 4, h.values 5, h.values 6, h.values 7)

made_run : Made run_said
made_run s t h = rw (h.number, h.file, h.values 0, h.values 1, h.values 2, h.values 3, h.values 4, h.values 5, h.values 6, h.values 7)

pub made_compare : Made compare_said
made_compare s t h = rw (h.number, h.file, h.values 0, h.values 1, h.values 2, h.values 3, h.values 4, h.values 5, h.values 6, h.values 7)

made_judge : Made judge_said
made_judge s t h = rw (h.number, h.file, h.values 0, h.values 1, h.values 2, h.values 3, h.values 4, h.values 5, h.values 6, h.values 7)

made_cost : Made cost_said
made_cost s t h = rw (h.number, h.file, h.values 0, h.values 1, h.values 2, h.values 3, h.values 4, h.values 5, h.values 6, h.values 7)

made_find : Made find_said
made_find s t h = rw (h.number, h.file, h.values 0, h.values 1, h.values 2, h.values 3, h.values 4, h.values 5, h.values 6, h.values 7)

made_import : Made import_said
made_import s t h = rw (h.number, h.file, h.values 0, h.values 1, h.values 2, h.values 3, h.values 4, h.values 5, h.values 6, h.values 7)

-- Unpacking a packed answer gives the answer back, for every answer that the promise allows.
pub check_unpacks : (bytes : List ℕ) (r : Checked) → CheckPromise bytes r → check_said (unpacked (packed (check_says r))) ≡ r
check_unpacks bytes r promise = back check_says check_said check_said_lem made_check r (check_fits bytes r promise)

pub build_unpacks : (bytes out : List ℕ) (r : Built) (left : List ℕ) → BuildPromise bytes out r left → build_said (unpacked (packed (build_says r))) ≡ r
build_unpacks bytes out r left promise = back build_says build_said build_said_lem made_build r (build_fits bytes out r left promise)

pub run_unpacks : (dossier unit : List ℕ) (r : Ran) → RunPromise dossier unit r → run_said (unpacked (packed (run_says r))) ≡ r
run_unpacks dossier unit r promise = back run_says run_said run_said_lem made_run r (run_fits dossier unit r promise)

pub judge_unpacks : (dossier sheet : List ℕ) (r : Judged) → JudgePromise dossier sheet r → judge_said (unpacked (packed (judge_says r))) ≡ r
judge_unpacks dossier sheet r promise = back judge_says judge_said judge_said_lem made_judge r (judge_fields_fit dossier sheet r promise)

-- the part that is told by its place and its length
abbrev pub part_said : Said → Part
part_said s = record { place = value s 0; size = value s 1 }

-- The part at the unpacked place, of the unpacked length, is the one that the judge hands back.
pub judge_word_unpacks : (dossier sheet : List ℕ)
    → JudgeWordPromise dossier sheet (part_of dossier (part_said (unpacked (packed (well ((judged_part dossier sheet).place ∷ (judged_part dossier sheet).size ∷ []))))))
judge_word_unpacks dossier sheet =
    let same = packed_same (well ((judged_part dossier sheet).place ∷ (judged_part dossier sheet).size ∷ [])) (judged_part_fits dossier sheet) in
    λ i. part_of dossier (record { place = same.values 0 i; size = same.values 1 i })

pub cost_unpacks : (bytes : List ℕ) (r : Costed) → CostPromise bytes r → cost_said (unpacked (packed (cost_says r))) ≡ r
cost_unpacks bytes r promise = back cost_says cost_said cost_said_lem made_cost r (cost_fits bytes r promise)

pub find_unpacks : (unit : List ℕ) (bound : ℕ) (out : List ℕ) (r : Found) (left : List ℕ) → FindPromise unit bound out r left → find_said (unpacked (packed (find_says r))) ≡ r
find_unpacks unit bound out r left promise = back find_says find_said find_said_lem made_find r (find_fits unit bound out r left promise)

pub import_unpacks : (text out : List ℕ) (r : Imported) (left : List ℕ) → ReadKiss2Promise text out r left → import_said (unpacked (packed (import_says r))) ≡ r
import_unpacks text out r left promise = back import_says import_said import_said_lem made_import r (import_fits text out r left promise)
