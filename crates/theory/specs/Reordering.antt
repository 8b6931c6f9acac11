-- Reordering the records of a sheet changes nothing that the judge says, but for the place of a REPEATED or FOREIGN record.
use Rattle.std.specs.Prelude.{ℕ, zero, suc, ◌+◌, ◌/◌, ◌≤◌, ◌<◌, ◌≡◌, ◌≢◌, Bool, true, cond, not, ◌&&◌, length}
use Rattle.std.proofs.Common.{arith, sym, ◌∙◌, ap, inl, inr}
use Rattle.std.proofs.Math.Path.{refl}
use mathlib.Core.List.Memᴰ
use mathlib.Core.List.{List, [], ◌∷◌, ◌++◌, flat_map}
use Rattle.std.proofs.Math.Option.{Option, none, some}
use Rattle.std.proofs.Math.ListN.{length-append}
use Rattle.rules.specs.declared.Refusal.{Refusal}
use Rattle.rules.specs.declared.Refusal.TheVariants.{Repeated, Foreign, Absent}
use Rattle.rules.specs.declared.Judged.{Judged}
use Rattle.rules.specs.declared.Judged.TheVariants.{Agrees, Deviates, Refused}
use Rattle.rules.specs.Answers.{number_of}
use Rattle.rules.specs.Lists.{◌∈◌, placed}
use Rattle.rules.specs.Words.{Word, same}
use Rattle.rules.specs.Machines.{answer}
use Rattle.rules.specs.Sizes.{most_inputs}
use Rattle.rules.specs.Files.{DossierData, SheetRecord, golden, count_bytes, output_bytes, word_bytes, record_bytes, sheet_bytes}
use Rattle.theory.specs.Sized.{Bytes, SizedSheet}
use Rattle.theory.specs.Spelling.{bytes_right, flat_map_bytes}
use Rattle.theory.specs.Files.{sheet_read_lem, sheet_sized, sheet_whole, sheet_written}
use Rattle.theory.specs.Lists.{outcome, some_injective, first_same, of_placed, Rising, at_in, in_at}
use Rattle.theory.specs.Words.{both, same_true, same_refl}
use Rattle.rules.specs.Operations.{Outcome, fine, refuse, answered, ◌>>◌, read_dossier, read_sheet, check, first_difference, pair, recorded_for, deviating, judge, deviating_of, judgement, judge_answer, Part, no_part, part_of, deviating_part, judged_part}
use Rattle.rules.specs.Promises.{JudgePromise, JudgeWordPromise}
use Rattle.theory.specs.Answers.{judge_answer_lem}
use Rattle.theory.specs.Check.{check_accepts}
use Rattle.theory.specs.Judge.{recorded_for_lem}
use Rattle.theory.specs.Steps.{unlike_found}
use Rattle.theory.specs.Outcomes.{settled}
use Rattle.theory.specs.Pairing.{RecordOf, NoneRepeated, NoneForeign, FirstAbsent, Belongs, PairRefuses, twelve, thirteen, fourteen, repeated_somewhere, foreign_somewhere, pair_refuses, pair-fine}

-- whether two records have the same word and the same answer
abbrev same_record : SheetRecord → SheetRecord → Bool
same_record r e = same r.word e.word && same r.recorded e.recorded

same_record_lem : (r e : SheetRecord) → same_record r e ≡ true → r ≡ e
same_record_lem r e h =
    let (w, a) = both {a = same r.word e.word} h in
    let w' = same_true r.word e.word w in
    let a' = same_true r.recorded e.recorded a in
    λ i. record { word = w' i; recorded = a' i }

record_same : (r : SheetRecord) → same_record r r ≡ true
record_same r = rw (same_refl r.word, same_refl r.recorded)

-- how often a record stands in a sheet
abbrev pub times : SheetRecord → List SheetRecord → ℕ
times r [] = 0
times r (e ∷ rs) = cond (same_record r e) (suc (times r rs)) (times r rs)

-- each record occurs equally often in both
abbrev pub Reordered : List SheetRecord → List SheetRecord → Type 0
Reordered rs ts = (r : SheetRecord) → times r rs ≡ times r ts

times_in : (r : SheetRecord) (rs : List SheetRecord) → 0 < times r rs → r ∈ rs
times_in r [] h = absurd (omega arith)
times_in r (e ∷ rs) h =
    elim (outcome (same_record r e)) [
      | inl p ↦ Memᴰ.head (same_record_lem r e p)
      | inr p ↦ Memᴰ.tail (times_in r rs (rw p at h))
    ]

in_times : {r : SheetRecord} {rs : List SheetRecord} → r ∈ rs → 0 < times r rs
in_times {r} (Memᴰ.head h) = rw (← h, record_same r) (omega arith)
in_times {r} (Memᴰ.tail {x = e} m) =
    let less = in_times m in
    elim (outcome (same_record r e)) [ inl p ↦ rw p (omega arith) | inr p ↦ rw p less ]

pub reordered_in : (rs ts : List SheetRecord) → Reordered rs ts → {r : SheetRecord} → r ∈ rs → r ∈ ts
reordered_in rs ts h {r} m = times_in r ts (omega (arith, h r, in_times m))

pub times_append : (r : SheetRecord) (a b : List SheetRecord) → times r (a ++ b) ≡ times r a + times r b
times_append r [] b = omega arith
times_append r (e ∷ a) b =
    let ih = times_append r a b in
    elim (outcome (same_record r e)) [ inl p ↦ rw p (omega arith) | inr p ↦ rw p ih ]

-- a member splits the list where it stands
split : {r : SheetRecord} {rs : List SheetRecord} → r ∈ rs → (a b : List SheetRecord) × (rs ≡ a ++ (r ∷ b))
split {r = r} {rs = []} m = elim m [ ]
split {r} {rs = e ∷ rs} (Memᴰ.head h) = ([], rs, cc)
split {r} {rs = e ∷ rs} (Memᴰ.tail m) = let (a, b, h) = split m in (e ∷ a, b, cc)

-- no word of a record is the word of a later one
abbrev Different : SheetRecord → SheetRecord → Type 0
Different r s = r.word ≢ s.word

rising_without : (a b : List SheetRecord) (r : SheetRecord) → Rising Different (a ++ (r ∷ b)) → Rising Different (a ++ b) × ((s : SheetRecord) → s ∈ a ++ b → Different r s)
rising_without [] b r (ahead, rising) = (rising, ahead)
rising_without (e ∷ a) b r (ahead, rising) =
    let (rest, other) = rising_without a b r rising in (
      (
        λ s m.
            ahead s
            (elim (Memᴰ.append_cases a m) [ inl n ↦ Memᴰ.append_left (r ∷ b) n | inr n ↦ Memᴰ.append_right a (Memᴰ.tail n) ]),
        rest,
      ),
      λ s m.
          elim (Memᴰ.cases_cons m) [
            | inl h ↦ λ e'. ahead r (Memᴰ.append_right a (Memᴰ.head refl)) (sym (e' ∙ ap (λ (x : SheetRecord). x.word) h))
            | inr n ↦ other s n
          ],
    )

-- A sheet and its reordering lose a record together: the first one of the one, wherever it stands in the other.
less_first : (rs : List SheetRecord) (t : SheetRecord) (ts : List SheetRecord) → Reordered rs (t ∷ ts)
    → (a b : List SheetRecord) × (rs ≡ a ++ (t ∷ b)) × Reordered (a ++ b) ts
less_first rs t ts h =
    let in_t : t ∈ rs = times_in t rs (omega (arith, h t, in_times {r = t} {rs = t ∷ ts} (Memᴰ.head refl))) in
    let (a, b, e) = split in_t in
    (a, b, e, without a b e)
  where
    without : (a b : List SheetRecord) → rs ≡ a ++ (t ∷ b) → (s : SheetRecord) → times s (a ++ b) ≡ times s ts
    without a b e s =
        let whole : times s (a ++ (t ∷ b)) ≡ times s (t ∷ ts) = rw e at (h s) in
        let left = times_append s a (t ∷ b) in
        let right = times_append s a b in
        elim (outcome (same_record s t)) [
          | inl p ↦ let whole' : times s (a ++ (t ∷ b)) ≡ suc (times s ts) = rw p at whole in let left' : times s (a ++ (t ∷ b)) ≡ times s a + suc (times s b) = rw p at left in omega arith
          | inr p ↦ let whole' : times s (a ++ (t ∷ b)) ≡ times s ts = rw p at whole in let left' : times s (a ++ (t ∷ b)) ≡ times s a + times s b = rw p at left in omega arith
        ]

rising_reordered : (rs ts : List SheetRecord) → Reordered rs ts → Rising Different rs → Rising Different ts
rising_reordered rs [] h r = tt
rising_reordered rs (t ∷ ts) h r =
    let (a, b, e, less) = less_first rs t ts h in
    let (rest, other) = rising_without a b t (rw e at r) in
    (λ s m. other s (times_in s (a ++ b) (omega (arith, less s, in_times m))), rising_reordered (a ++ b) ts less rest)

rising_once : (rs : List SheetRecord) → Rising Different rs → NoneRepeated rs
rising_once [] r i x at (j, e, less, at', is) = absurd (Memᴰ.not-nil (at_in [] i at))
rising_once (s ∷ rs) (ahead, r) zero x at (j, e, less, at', is) = absurd (omega arith)
rising_once (s ∷ rs) (ahead, r) (suc i) x at (zero, e, less, at', is) =
    ahead x (at_in rs i at) (ap (λ (y : SheetRecord). y.word) (some_injective at') ∙ is)
rising_once (s ∷ rs) (ahead, r) (suc i) x at (suc j, e, less, at', is) = rising_once rs r i x at (j, e, omega arith, at', is)

once_rising : (rs : List SheetRecord) → NoneRepeated rs → Rising Different rs
once_rising [] once = tt
once_rising (s ∷ rs) once = (
  λ x m is. let (i, at) = in_at m in once (suc i) x at (0, s, omega arith, refl, is),
  once_rising rs (λ i x at (j, e, less, at', is). once (suc i) x at (suc j, e, omega arith, at', is)),
)

-- Whether words are repeated does not depend on the order.
pub reordered_once : (rs ts : List SheetRecord) → Reordered rs ts → NoneRepeated rs → NoneRepeated ts
reordered_once rs ts h once = rising_once ts (rising_reordered rs ts h (once_rising rs once))

-- the same number, and for ABSENT the same place
abbrev pub SameRefusal : Refusal → Refusal → Type 0
SameRefusal r s = (number_of r ≡ number_of s) × ((i : ℕ) → r ≡ Absent i → s ≡ Absent i)

-- the same verdict, test and step, or refusals alike
abbrev pub SameVerdict : Judged → Judged → Type 0
SameVerdict Agrees v = v ≡ Agrees
SameVerdict (Deviates i j) v = v ≡ Deviates i j
SameVerdict (Refused r) v = (s : Refusal) × (v ≡ Refused s) × SameRefusal r s

same_verdict : (v : Judged) → SameVerdict v v
same_verdict Agrees = refl
same_verdict (Deviates i j) = refl
same_verdict (Refused r) = (r, refl, (refl, λ i e. e))

-- what two sheets' pairings have in common
abbrev PairedAlike : List Word → List SheetRecord → List SheetRecord → Outcome (Unit {0}) → Type 0
PairedAlike tests rs ts (fine x) = Belongs tests ts × (pair tests ts ≡ fine tt)
PairedAlike tests rs ts (refuse r) = (s : Refusal) × (pair tests ts ≡ refuse s) × SameRefusal r s

module _ (tests : List Word) (rs ts : List SheetRecord) (reordered : Reordered rs ts) where
  back : Reordered ts rs
  back r = sym (reordered r)

  over : {r : SheetRecord} → r ∈ rs → r ∈ ts
  over = reordered_in rs ts reordered

  record_over : {w : Word} → RecordOf rs w → RecordOf ts w
  record_over (r, m, is) = (r, over m, is)

  record_back : {w : Word} → RecordOf ts w → RecordOf rs w
  record_back (r, m, is) = (r, reordered_in ts rs back m, is)

  once_over : NoneRepeated rs → NoneRepeated ts
  once_over = reordered_once rs ts reordered

  known_over : NoneForeign tests rs → NoneForeign tests ts
  known_over known r m = known r (reordered_in ts rs back m)

  belongs_over : Belongs tests rs → Belongs tests ts
  belongs_over b = record { once = once_over b.once; known = known_over b.known; whole = λ t m. record_over (b.whole t m) }

  refused : (r : Refusal) → PairRefuses tests rs r → (s : Refusal) × (pair tests ts ≡ refuse s) × SameRefusal r s
  refused r (twelve i f is) =
      let (j, g) = repeated_somewhere tests ts (λ once. reordered_once ts rs back once i f.this f.here f.repeats) in
      (Repeated j, (pair_refuses tests ts (Repeated j)).1 (twelve j g refl), (rw is, λ k e. absurd (omega (arith, ap number_of (sym is ∙ e)))))
  refused r (thirteen once i f is) =
      let (j, g) = foreign_somewhere tests ts (λ known. f.foreign (known f.this (over (at_in rs i f.here)))) in
      (Foreign j, (pair_refuses tests ts (Foreign j)).1 (thirteen (once_over once) j g refl), (rw is, λ k e. absurd (omega (arith, ap number_of (sym is ∙ e)))))
  refused r (fourteen once known i f is) =
      let g : FirstAbsent tests ts i =
      record { test = f.test; here = f.here; absent = λ h. f.absent (record_back h); earlier = λ j t less at. record_over (f.earlier j t less at) } in
      (Absent i, (pair_refuses tests ts (Absent i)).1 (fourteen (once_over once) (known_over known) i g refl), (rw is, λ k e. sym is ∙ e))

  paired_alike : PairedAlike tests rs ts (pair tests rs)
  paired_alike =
      elim (settled (pair tests rs)) [
        | inl (x, e) ↦ rw e (let b = belongs_over ((pair-fine tests rs).0 e) in (b, (pair-fine tests ts).1 b))
        | inr (r, e) ↦ rw e (refused r ((pair_refuses tests rs r).0 e))
      ]

module _ (d : DossierData) (rs ts : List SheetRecord) (reordered : Reordered rs ts) (one : Belongs d.tests rs) (two : Belongs d.tests ts) where
  recorded_same : (t : Word) → t ∈ d.tests → recorded_for rs t ≡ recorded_for ts t
  recorded_same t m =
      let (r, n, is) = one.whole t m in
      let first : recorded_for rs t ≡ r.recorded = ap (recorded_for rs) (sym is) ∙ recorded_for_lem rs one.once r n in
      let second : recorded_for ts t ≡ r.recorded = ap (recorded_for ts) (sym is) ∙ recorded_for_lem ts two.once r (reordered_in rs ts reordered n) in
      first ∙ sym second

  deviating_same : deviating (golden d) rs d.tests ≡ deviating (golden d) ts d.tests
  deviating_same =
      first_same _ _ (placed d.tests)
      (λ (i, t) m. ap (λ (a : List ℕ). not (same (answer (golden d) t) a)) (recorded_same t (at_in d.tests i (of_placed d.tests m))))

  judgement_same : (o : Option (ℕ × Word)) → deviating (golden d) ts d.tests ≡ o → judgement (record { dossier = d; records = rs }) o ≡ judgement (record { dossier = d; records = ts }) o
  judgement_same none e = refl
  judgement_same (some (i, t)) e =
      let u = unlike_found (answer (golden d)) (recorded_for ts) d.tests e in
      ap (λ (a : List ℕ). Deviates i (first_difference (answer (golden d) t) a)) (recorded_same t (at_in d.tests i u.here))

-- what the judge says of a sheet's records once they are read and paired, and the part that it hands back
abbrev paired_answer : DossierData → List SheetRecord → Judged
paired_answer d rs = answered (◌>>◌ (pair d.tests rs) (fine (record { dossier = d; records = rs }))) (λ p. judgement p (deviating_of p)) Refused

abbrev paired_part : DossierData → List SheetRecord → Part
paired_part d rs =
    answered (◌>>◌ (pair d.tests rs) (fine (record { dossier = d; records = rs }))) (λ p. deviating_part p.dossier (deviating_of p)) (λ r. no_part)

paired_same : (d : DossierData) (rs ts : List SheetRecord) → Reordered rs ts → SameVerdict (paired_answer d rs) (paired_answer d ts) × (paired_part d rs ≡ paired_part d ts)
paired_same d rs ts reordered =
    elim (settled (pair d.tests rs)) [
      | inr (r, e) ↦
          let (s, e', alike) = rw e at (paired_alike d.tests rs ts reordered) in
          rw (e, e') ((s, refl, alike), refl)
      | inl (x, e) ↦
          let (b, e') = rw e at (paired_alike d.tests rs ts reordered) in
          let a = (pair-fine d.tests rs).0 e in
          let found = deviating (golden d) ts d.tests in
          rw (e, e', deviating_same d rs ts reordered a b, judgement_same d rs ts reordered a b found refl)
          (same_verdict (judgement (record { dossier = d; records = ts }) found), refl)
    ]

-- Any two sheets that read well under the dossier's k and hold the same records, each equally often: the judge gives the same
-- verdict, test, step and part, or a refusal of the same number, and for ABSENT of the same place.
pub order_does_not_matter : (dossier_file one two : List ℕ) (rs ts : List SheetRecord)
    → ((d : DossierData) → read_dossier dossier_file ≡ fine d → (read_sheet d.inputs one ≡ fine rs) × (read_sheet d.inputs two ≡ fine ts))
    → Reordered rs ts → SameVerdict (judge_answer dossier_file one) (judge_answer dossier_file two) × (judged_part dossier_file one ≡ judged_part dossier_file two)
unfolding judge
order_does_not_matter dossier_file one two rs ts read reordered =
    elim (settled (check dossier_file)) [
      | inr (r, e) ↦ rw e ((r, refl, (refl, λ i h. h)), refl)
      | inl (d, e) ↦
          let (one_reads, two_reads) = read d ((check_accepts dossier_file d).0 e).0 in
          rw (e, one_reads, two_reads) (paired_same d rs ts reordered)
    ]

-- The same of whatever the promises allow: of any programs that keep them, on two such sheets.
pub allowed_order_does_not_matter : (dossier_file one two : List ℕ) (rs ts : List SheetRecord) (r s : Judged) (part other : List ℕ)
    → ((d : DossierData) → read_dossier dossier_file ≡ fine d → (read_sheet d.inputs one ≡ fine rs) × (read_sheet d.inputs two ≡ fine ts))
    → Reordered rs ts → JudgePromise dossier_file one r → JudgePromise dossier_file two s → JudgeWordPromise dossier_file one part → JudgeWordPromise dossier_file two other
    → SameVerdict r s × (part ≡ other)
allowed_order_does_not_matter dossier_file one two rs ts r s part other read reordered judges judges' hands hands' =
    let (verdict, same_part) = order_does_not_matter dossier_file one two rs ts read reordered in
    (rw (judge_answer_lem dossier_file one r judges, judge_answer_lem dossier_file two s judges') verdict, hands ∙ ap (part_of dossier_file) same_part ∙ sym hands')

-- What is written for each record takes as many bytes in another order.
module _ (f : SheetRecord → List ℕ) where
  size_without : (a b : List SheetRecord) (t : SheetRecord) → length (flat_map f (a ++ (t ∷ b))) ≡ length (f t) + length (flat_map f (a ++ b))
  unfolding flat_map
  size_without [] b t = length-append (f t) (flat_map f b)
  size_without (r ∷ a) b t =
      rw (length-append (f r) (flat_map f (a ++ (t ∷ b))), length-append (f r) (flat_map f (a ++ b))) (omega (arith, size_without a b t))

  size_reordered : (rs ts : List SheetRecord) → Reordered rs ts → length (flat_map f rs) ≡ length (flat_map f ts)
  unfolding flat_map
  size_reordered [] [] h = refl
  size_reordered (r ∷ rs) [] h = absurd (omega (arith, h r, in_times {r = r} {rs = r ∷ rs} (Memᴰ.head refl)))
  size_reordered rs (t ∷ ts) h =
      let (a, b, e, less) = less_first rs t ts h in
      rw (e, size_without a b t, length-append (f t) (flat_map f ts)) (omega (arith, size_reordered (a ++ b) ts less))

-- So there are as many records: a byte for each is as long.
abbrev a_byte : SheetRecord → List ℕ
a_byte r = 0 ∷ []

length_ones : (rs : List SheetRecord) → length (flat_map a_byte rs) ≡ length rs
unfolding flat_map
length_ones [] = refl
length_ones (r ∷ rs) = ap suc (length_ones rs)

pub length_reordered : (rs ts : List SheetRecord) → Reordered rs ts → length rs ≡ length ts
length_reordered rs ts reordered = sym (length_ones rs) ∙ size_reordered a_byte rs ts reordered ∙ length_ones ts

-- The records of a sheet that reads well, written out in another order, are a sheet that reads well
reordered_sized : (k : ℕ) (rs ts : List SheetRecord) → Reordered rs ts → SizedSheet k rs → SizedSheet k ts
unfolding sheet_bytes count_bytes
reordered_sized k rs ts reordered sized =
    record {
      words = λ r m. sized.words r (reordered_in ts rs (λ s. sym (reordered s)) m);
      answers = λ r m. sized.answers r (reordered_in ts rs (λ s. sym (reordered s)) m);
      size = rw (← size_reordered record_bytes rs ts reordered) sized.size;
    }

pub reordered_reads : (k : ℕ) (sheet_file : List ℕ) (rs ts : List SheetRecord) → read_sheet k sheet_file ≡ fine rs → Reordered rs ts
    → read_sheet k (sheet_bytes ts) ≡ fine ts
reordered_reads k sheet_file rs ts reads reordered = sheet_read_lem k ts (reordered_sized k rs ts reordered (sheet_sized k sheet_file rs reads))

-- and it is bytes, if the sheet that was read is.
pub reordered_bytes : (k : ℕ) (sheet_file : List ℕ) (rs ts : List SheetRecord) → k ≤ most_inputs → Bytes sheet_file → read_sheet k sheet_file ≡ fine rs
    → Reordered rs ts → Bytes (sheet_bytes ts)
unfolding sheet_bytes record_bytes count_bytes output_bytes
reordered_bytes k sheet_file rs ts few_inputs are_bytes reads reordered =
    let whole : Bytes (sheet_bytes rs) = rw (sheet_whole k sheet_file rs are_bytes reads) at are_bytes in
    let few : length rs / 256 < 256 = whole (length rs / 256) (Memᴰ.tail (Memᴰ.head refl)) in
    let same_length = length_reordered rs ts reordered in
    let records = bytes_right (count_bytes (length rs)) (flat_map record_bytes rs) whole in
    sheet_written k ts few_inputs (reordered_sized k rs ts reordered (sheet_sized k sheet_file rs reads)) (omega arith)
    (λ r m o n.
    let one = flat_map_bytes record_bytes rs records r (reordered_in ts rs (λ s. sym (reordered s)) m) in
    flat_map_bytes output_bytes r.recorded (bytes_right (word_bytes r.word) (flat_map output_bytes r.recorded) one) o n o (Memᴰ.head refl))

-- So nothing is asked but the records: of a sheet that reads well, and of its records written out in another order, the judge says the same.
pub reordered_does_not_matter : (dossier_file sheet_file : List ℕ) (rs ts : List SheetRecord)
    → ((d : DossierData) → read_dossier dossier_file ≡ fine d → read_sheet d.inputs sheet_file ≡ fine rs) → Reordered rs ts
    → SameVerdict (judge_answer dossier_file sheet_file) (judge_answer dossier_file (sheet_bytes ts)) × (judged_part dossier_file sheet_file ≡ judged_part dossier_file (sheet_bytes ts))
reordered_does_not_matter dossier_file sheet_file rs ts read reordered =
    order_does_not_matter dossier_file sheet_file (sheet_bytes ts) rs ts (λ d reads. let one = read d reads in (one, reordered_reads d.inputs sheet_file rs ts one reordered)) reordered

-- The same of whatever the promises allow: of any programs that keep them.
pub allowed_reordered_does_not_matter : (dossier_file sheet_file : List ℕ) (rs ts : List SheetRecord) (r s : Judged) (part other : List ℕ)
    → ((d : DossierData) → read_dossier dossier_file ≡ fine d → read_sheet d.inputs sheet_file ≡ fine rs) → Reordered rs ts
    → JudgePromise dossier_file sheet_file r → JudgePromise dossier_file (sheet_bytes ts) s → JudgeWordPromise dossier_file sheet_file part → JudgeWordPromise dossier_file (sheet_bytes ts) other
    → SameVerdict r s × (part ≡ other)
allowed_reordered_does_not_matter dossier_file sheet_file rs ts r s part other read reordered =
    allowed_order_does_not_matter dossier_file sheet_file (sheet_bytes ts) rs ts r s part other (λ d reads. let one = read d reads in (one, reordered_reads d.inputs sheet_file rs ts one reordered)) reordered
