-- Document 01, the refusals 2 to 6: their numbers and places, exactly, said of what files hold and not of how they are read.
use Rattle.std.specs.Prelude.{ℕ, suc, ◌+◌, ◌*◌, ◌≤◌, ◌<◌, ◌⊎◌, ◌↔◌, ◌≢◌, Bool, true, cond, ltb, eqb, length, take, get_or}
use Rattle.std.proofs.Math.Path.{◌≡◌, refl}
use Rattle.std.proofs.Common.{sym, ap, ◌∙◌, subst, zero-add, mul-le-mul, arith, lt-ltb, le-ltb, length-append}
use Rattle.std.proofs.Math.Logic.{inl, inr}
use mathlib.Core.List.{List, [], ◌∷◌, ◌++◌, flat_map, append-nil, append_assoc}
use Rattle.std.proofs.Math.Seq.{take-append_seam}
use Rattle.rules.specs.declared.File.{File}
use Rattle.rules.specs.declared.File.TheVariants.{Dossier, Unit as UnitFile, Sheet}
use Rattle.rules.specs.declared.Fault.{Fault}
use Rattle.rules.specs.declared.Fault.TheVariants.{TooLong, CutShort, BadNumbers, BadTable, BadWord, Trailing}
use Rattle.rules.specs.declared.Refusal.TheVariants.{Malformed}
use Rattle.rules.specs.Sizes.{most_inputs, most_states, most_set_word, most_test_word, counts, bound_good, most_dossier_bytes, most_unit_bytes, most_sheet_bytes}
use Rattle.rules.specs.Words.{Word}
use Rattle.rules.specs.Machines.{Table}
use Rattle.rules.specs.Files.{DossierData, count_bytes, output_bytes, entry_bytes, table_bytes, words_bytes, dossier_bytes, unit_bytes, sheet_bytes}
use Rattle.rules.specs.Reading.{Got, got, faulty, Reader, ◌>>=◌, byte, judged, count, words, table, ending, dossier, unit_table, sheet}
use Rattle.rules.specs.Operations.{Outcome, fine, refuse, opened, read_file, read_dossier, read_unit, read_sheet}
use Rattle.theory.specs.Sized.{Bytes}
use Rattle.theory.specs.Spelling.{bytes_append, bytes_left}
use Rattle.theory.specs.Lists.{outcome}
use Rattle.theory.specs.Outcomes.{fine_not_refuse}
use Rattle.theory.specs.Readers.{Anything, Nothing, Seen, Takes, Reads, not_both, then-faulty, reads_count, reads_many}
use Rattle.theory.specs.Sections.{reads_judged-byte, reads_judged-count, reads_words, reads_table, reads_record}
use Rattle.theory.specs.Contents.{true-counts, bound_true, DossierRule, reads_dossier, UnitRule, reads_unit, SheetRule, reads_sheet}
use Rattle.theory.specs.Texts.{Piece, count_piece, Begun, WrongAt, Short, Reading, exactly}
use Rattle.theory.specs.Stopping.{Going, Refused, Ended, Stop, Exact, exact_ending, exact_then, exact_judged-byte, exact_judged-count, From, from_later, exact_count, exact_many, exact_words, exact_record, exact_table}

-- A file that is well formed, its size aside: bytes, and those of something that keeps the rule.
abbrev pub Formed : {A : Type 0} → (A → Type 0) → (A → List ℕ) → List ℕ → Type 0
Formed {A} Rule bytes l = Bytes l × (a : A) × Rule a × (l ≡ bytes a)

-- The number that goes with the place p: 6 where a well_formed file ends before p, and else that of the section that p stands in.
pub data NumberAt (Good : List ℕ → Type 0) (section : List ℕ → ℕ → Fault) (l : List ℕ) (p : ℕ) (fault : Fault) : Type 0 where
  behind : Good (take p l) → fault ≡ Trailing → NumberAt Good section l p fault
  within : (Good (take p l) → ⊥) → fault ≡ section l p → NumberAt Good section l p fault

one_number : {Good : List ℕ → Type 0} {section : List ℕ → ℕ → Fault} {l : List ℕ} (p : ℕ) (m n : Fault)
    → NumberAt Good section l p m → NumberAt Good section l p n → m ≡ n
one_number p m n (behind g is) (behind g' is') = is ∙ sym is'
one_number p m n (behind g is) (within none is') = absurd (none g)
one_number p m n (within none is) (behind g is') = absurd (none g)
one_number p m n (within none is) (within none' is') = is ∙ sym is'

-- What the refusals 2 to 6 of a file say exactly, where `answer` is what the reading of the file answers.
pub record Faults {A : Type 0} (f : File) (Good : List ℕ → Type 0) (Seam : ℕ → Type 0) (section : List ℕ → ℕ → Fault) (bytes : List ℕ) (answer : Outcome A) : Type 0 where
  -- It reads well exactly when it is well formed.
  pub reads_well : ((a : A) × (answer ≡ fine a)) ↔ Good bytes
  -- 2, with the file's length, is given exactly when all of it, up to the end of its last whole byte or count, begins some well_formed file and
  -- it is none itself.
  pub cut_short : (answer ≡ refuse (Malformed CutShort f (length bytes))) ↔ Short Good Seam bytes
  -- 3, 4, 5 or 6 is given at place p exactly when what stands before p begins some well_formed file, what stands up to the end of the
  -- byte or count at p begins none, and the number is that of the place.
  pub wrong : (fault : Fault) (p : ℕ) → (Seen fault × (answer ≡ refuse (Malformed fault f p))) ↔ (WrongAt Good Seam bytes p × NumberAt Good section bytes p fault)

module _ {A : Type 0} (f : File) {read : Reader A} {Rule : A → Type 0} {bytes : A → List ℕ} (reads : Reads Nothing read Rule bytes)
    {Seam : ℕ → Type 0} {Of : ℕ → Fault → Type 0} (exact : Exact Seam Of Nothing 0 read) (section : List ℕ → ℕ → Fault)
    (in_section : (l : List ℕ) (fault : Fault) (x : ℕ) → read 0 l ≡ faulty fault x → Seen fault → Of x fault → fault ≡ section l x) where
  abbrev Good : List ℕ → Type 0
  Good = Formed Rule bytes

  read_good : (l : List ℕ) (a : A) (q : ℕ) (t : List ℕ) → Bytes l → read 0 l ≡ got a q t → Good l
  read_good l a q t are_bytes e =
      let y = reads.taken 0 l a q t e in
      let whole : y.used ≡ l = sym (y.parts ∙ ap (λ u. y.used ++ u) y.after ∙ append-nil y.used) in
      (are_bytes, a, y.rule, (rw whole at y.spells).1 are_bytes)

  taken_good : (l : List ℕ) (a : A) → Bytes l → Takes Nothing read l a → Good l
  taken_good l a are_bytes takes = read_good l a (0 + length l) [] are_bytes (rw append-nil at (takes [] refl 0))

  good_not_faulty : (l : List ℕ) (fault : Fault) (x : ℕ) → read 0 l ≡ faulty fault x → Good l → ⊥
  good_not_faulty l fault x e (are_bytes, a, rule, is) =
      let e' : read 0 l ≡ got a (0 + length l) [] = rw (append-nil, ← is) at (reads.takes a rule [] refl 0) in
      not_both (sym e' ∙ e)

  module _ (l : List ℕ) (are_bytes : Bytes l) where
    -- what stands before the place where a reading stopped
    front_is : (front back : List ℕ) → l ≡ front ++ back → take (length front) l ≡ front
    front_is front back parts = ap (λ k. take (length front) k) parts ∙ take-append_seam front back

    front_begun : (front back : List ℕ) → l ≡ front ++ back → Going Nothing read front → Begun Good Seam (take (length front) l)
    front_begun front back parts g =
        let front_are_bytes = bytes_left front back (rw parts at are_bytes) in
        rw (front_is front back parts) (g.rest, taken_good (front ++ g.rest) g.thing (bytes_append front_are_bytes g.are_bytes) g.whole)

    -- Where a reading stopped for want of bytes the file is cut short,
    stop_short : (fault : Fault) (x : ℕ) → read 0 l ≡ faulty fault x → (s : Stop Seam Of Nothing read 0 l fault x) → Ended Seam Of 0 l s.front fault → Short Good Seam l
    stop_short fault x e s (cut, none) =
        record {
          end = length s.front;
          there = rw zero-add at s.seam;
          within = rw (s.parts, length-append s.front s.back) (omega arith);
          last = λ y behind up_to_lem seam. none y (omega arith) (omega arith) seam;
          begun = front_begun s.front s.back s.parts s.going;
          lacking = good_not_faulty l fault x e;
        }

    -- and where a byte or count was refused it goes wrong there.
    stop_wrong : (fault : Fault) (x : ℕ) → read 0 l ≡ faulty fault x → (s : Stop Seam Of Nothing read 0 l fault x)
        → Refused Seam Of Nothing read 0 s.front s.back fault x → WrongAt Good Seam l x × NumberAt Good section l x fault
    stop_wrong fault x e s r =
        let place_is : x ≡ length s.front = omega (arith, r.place) in
        let front = front_is s.front s.back s.parts in
        let looked : l ≡ (s.front ++ r.piece) ++ r.left = s.parts ∙ ap (λ v. s.front ++ v) r.parts ∙ sym (append_assoc s.front r.piece r.left) in
        let end_is : x + length r.piece ≡ length (s.front ++ r.piece) = rw length-append (omega arith) in (
          record {
            end = x + length r.piece;
            piece = r.one;
            within = rw (looked, length-append (s.front ++ r.piece) r.left) (omega arith);
            begun = rw place_is (front_begun s.front s.back s.parts s.going);
            wrong = rw (end_is, front_is (s.front ++ r.piece) r.left looked) (λ (rest, good). good_not_faulty ((s.front ++ r.piece) ++ rest) fault x (rw append_assoc (r.same rest)) good);
          },
          elim r.number [
            | inl (late, a, takes) ↦ behind (rw (place_is, front) (taken_good s.front a (bytes_left s.front s.back (rw s.parts at are_bytes)) takes)) late
            | inr (of, wants) ↦ within (rw (place_is, front) (good_not_faulty s.front CutShort x wants)) (in_section l fault x e r.seen of)
          ],
        )

    -- what the three answers are where the reading is y
    sound : (y : Got A) → read 0 l ≡ y
        → Reading Good Seam (NumberAt Good section l) l ((a : A) × (opened f y ≡ fine a)) (opened f y ≡ refuse (Malformed CutShort f (length l)))
        (λ fault p. Seen fault × (opened f y ≡ refuse (Malformed fault f p)))
    sound (got a q t) e =
        record {
          one_of = inl (a, refl);
          good = λ g. read_good l a q t are_bytes e;
          short = λ h. fine_not_refuse h;
          wrong = λ fault p (seen, h). fine_not_refuse h;
        }
    sound (faulty fault x) e =
        let s = exact.stops l fault x e in
        let met = reads.met 0 l fault x e in
        record {
          one_of = elim s.why [
            | inl (cut, none) ↦ inr (inl (elim met [ inl (cut', end) ↦ let end' : x ≡ length l = omega arith in rw (cut, end') | inr seen ↦ absurd (rw cut at seen.seen) ]))
            | inr r ↦ inr (inr (fault, x, (r.seen, refl)))
          ];
          good = λ (a, h). fine_not_refuse (sym h);
          short = λ h. elim s.why [
            | inl ended ↦ stop_short fault x e s ended
            | inr r ↦ let cut : fault ≡ CutShort = cc in absurd (rw cut at r.seen)
          ];
          wrong = λ fault' p (seen, h).
              let fault_is : fault ≡ fault' = cc in
              let place_is : x ≡ p = cc in
              elim s.why [
                | inl (cut, none) ↦ absurd (rw (← fault_is, cut) at seen)
                | inr r ↦ subst (λ z. WrongAt Good Seam l z × NumberAt Good section l z fault') place_is (subst (λ z. WrongAt Good Seam l x × NumberAt Good section l x z) fault_is (stop_wrong fault x e s r))
              ];
        }

    file_faults : (most : ℕ) → length l ≤ most → Faults f Good Seam section l (read_file f most read l)
    unfolding read_file
    file_faults most small =
        let (well, short, wrong) = exactly Good Seam one_number (sound (read 0 l) refl) in
        rw (le-ltb most (length l) small) (record { reads_well = well; cut_short = short; wrong = wrong })

-- The three files, well formed but for their size: the numbers, tables and words that they hold are within the sizes.
abbrev pub FormedDossier : List ℕ → Type 0
FormedDossier = Formed DossierRule (λ d. dossier_bytes d)

abbrev pub FormedUnit : List ℕ → Type 0
FormedUnit = Formed UnitRule (λ u. unit_bytes u)

abbrev pub FormedSheet : ℕ → List ℕ → Type 0
FormedSheet k = Formed (SheetRule k) (λ rs. sheet_bytes rs)

-- Their seams. The counts that can be wrong are that of the numbers, at 0, and that of the table, after the numbers, so that the places 1 and 6
-- of a dossier stand inside a count. No count of words is wrong: it goes as two bytes.
abbrev pub DossierSeam : ℕ → Type 0
DossierSeam x = (x ≢ 1) × (x ≢ 6)

abbrev pub UnitSeam : ℕ → Type 0
UnitSeam x = (x ≢ 1) × (x ≢ 5)

abbrev pub SheetSeam : ℕ → Type 0
SheetSeam x = Unit {0}

-- The number of the section that a place stands in. A dossier has 5 bytes of numbers, k the third and n the fourth of them, then 2 bytes and
-- 2 · n · k of the table, then words.
abbrev pub dossier_section : List ℕ → ℕ → Fault
dossier_section l p = cond (ltb p 5) BadNumbers (cond (ltb p (7 + 2 * (get_or l 3 0 * get_or l 2 0))) BadTable BadWord)

-- a unit has 4 bytes of numbers, then the table
abbrev pub unit_section : List ℕ → ℕ → Fault
unit_section l p = cond (ltb p 4) BadNumbers BadTable

-- a sheet has words only
abbrev pub sheet_section : List ℕ → ℕ → Fault
sheet_section l p = BadWord

-- a table within the sizes: an input, a state, and a count of entries that two bytes can say
record Few (k n : ℕ) : Type 0 where
  some_input : 0 < k
  some_state : 0 < n
  few : n * k < 65536

few_counts : (k n : ℕ) → counts most_inputs k ≡ true → counts most_states n ≡ true → Few k n
few_counts k n inputs states =
    let (some_input, few_inputs) = true-counts most_inputs k inputs in
    let (some_state, few_states) = true-counts most_states n states in
    record { some_input = some_input; some_state = some_state; few = omega (arith, mul-le-mul few_states few_inputs) }

table_length : (t : Table) → length (table_bytes t) ≡ 2 + 2 * length t
unfolding table_bytes count_bytes flat_map entry_bytes output_bytes
table_length [] = refl
table_length (e ∷ t) = omega (arith, table_length t)

-- the sections of words, and the end
module _ (Seam : ℕ → Type 0) (Of : ℕ → Fault → Type 0) (k : ℕ) (some_input : 0 < k) (data_of : List Word → List Word → List Word → DossierData) where
  exact_sections : (p : ℕ) → From Seam Of p BadWord
      → Exact Seam Of Nothing p (◌>>=◌ (words k most_set_word) (λ cover. ◌>>=◌ (words k most_set_word) (λ separating. ◌>>=◌ (words k most_test_word) (λ tests. ending (data_of cover separating tests)))))
  exact_sections p from =
      exact_then Seam Of p (reads_words k most_set_word) (exact_words Seam Of k some_input most_set_word p from) (λ cover sized.
      let from₁ = from_later Seam Of (length (words_bytes cover)) from in
      exact_then Seam Of _ (reads_words k most_set_word) (exact_words Seam Of k some_input most_set_word _ from₁) (λ separating sized.
      let from₂ = from_later Seam Of (length (words_bytes separating)) from₁ in
      exact_then Seam Of _ (reads_words k most_test_word) (exact_words Seam Of k some_input most_test_word _ from₂) (λ tests sized.
      let from₃ = from_later Seam Of (length (words_bytes tests)) from₂ in
      exact_ending Seam Of _ _ (from₃ _ (omega arith)).0 (from₃ _ (omega arith)).0)))

-- the faults of the sections: 3 to 5
abbrev InSection : ℕ → Fault → Type 0
InSection x TooLong = ⊥
InSection x CutShort = ⊥
InSection x BadNumbers = Unit {0}
InSection x BadTable = Unit {0}
InSection x BadWord = Unit {0}
InSection x Trailing = ⊥

table_piece : Piece DossierSeam 5 7
table_piece = count_piece DossierSeam 5 (omega arith) (λ (not-1, not-6). not-6 refl) (omega arith)

exact_dossier : Exact DossierSeam InSection Nothing 0 dossier
unfolding dossier count_bytes
exact_dossier =
    exact_then DossierSeam InSection 0 (reads_judged-count (eqb 3) BadNumbers tt)
    (exact_judged-count DossierSeam InSection (eqb 3) BadNumbers 0 3 tt tt (count_piece DossierSeam 0 (omega arith) (λ (not-1, not-6). not-1 refl) (omega arith)) refl (omega arith)) (λ c three.
    exact_then DossierSeam InSection 2 (reads_judged-byte (counts most_inputs) BadNumbers tt)
    (exact_judged-byte DossierSeam InSection (counts most_inputs) BadNumbers 2 1 tt tt (omega arith) (omega arith) refl (omega arith)) (λ k inputs.
    exact_then DossierSeam InSection 3 (reads_judged-byte (counts most_states) BadNumbers tt)
    (exact_judged-byte DossierSeam InSection (counts most_states) BadNumbers 3 1 tt tt (omega arith) (omega arith) refl (omega arith)) (λ n states.
    let few = few_counts k n inputs states in
    exact_then DossierSeam InSection 4 (reads_judged-byte (bound_good n) BadNumbers tt)
    (exact_judged-byte DossierSeam InSection (bound_good n) BadNumbers 4 0 tt tt (omega arith) (omega arith) (bound_true n 0 (omega (arith, true-counts most_states n states))) (omega arith)) (λ m in_range.
    exact_then DossierSeam InSection 5 (reads_table k n)
    (exact_table DossierSeam InSection k n 5 few.some_state few.few table_piece tt (λ x later. (omega arith, tt))) (λ t entries.
    exact_sections DossierSeam InSection k few.some_input _ (5 + length (table_bytes t)) (λ x later. (omega (arith, table_length t), tt)))))))

-- a fault that is seen is that of the byte or count that is judged first, or of what follows it
module _ (good : ℕ → Bool) (fault : Fault) (p : ℕ) {B : Type 0} (next : ℕ → Reader B) (fault' : Fault) (x : ℕ) (seen : Seen fault') where
  byte_then : (l : List ℕ) → ◌>>=◌ (judged good fault byte) next p l ≡ faulty fault' x
      → ((fault ≡ fault') × (p ≡ x)) ⊎ ((b : ℕ) × (t : List ℕ) × (l ≡ b ∷ t) × (good b ≡ true) × (next b (suc p) t ≡ faulty fault' x))
  unfolding judged byte
  byte_then [] e = let cut : fault' ≡ CutShort = cc in absurd (rw cut at seen)
  byte_then (b ∷ t) e =
      elim (outcome (good b)) [
        | inl h ↦ inr (b, t, refl, h, rw h at e)
        | inr h ↦ let bad : ◌≡◌ {A = Got B} (faulty fault p) (faulty fault' x) = rw h at e in inl (cc, cc)
      ]

  count_then : (l : List ℕ) → ◌>>=◌ (judged good fault count) next p l ≡ faulty fault' x
      → ((fault ≡ fault') × (p ≡ x)) ⊎ ((low high : ℕ) × (t : List ℕ) × (l ≡ low ∷ high ∷ t) × (next (low + 256 * high) (suc (suc p)) t ≡ faulty fault' x))
  unfolding judged count byte
  count_then [] e = let cut : fault' ≡ CutShort = cc in absurd (rw cut at seen)
  count_then (low ∷ []) e = let cut : fault' ≡ CutShort = cc in absurd (rw cut at seen)
  count_then (low ∷ high ∷ t) e =
      elim (outcome (good (low + 256 * high))) [
        | inl h ↦ inr (low, high, t, refl, rw h at e)
        | inr h ↦ let bad : ◌≡◌ {A = Got B} (faulty fault p) (faulty fault' x) = rw h at e in inl (cc, cc)
      ]

-- what a reader that can go on with no byte more has taken it does not want more of
wants_more : {A : Type 0} (read : Reader A) (p : ℕ) (front rest : List ℕ) (a : A) (x : ℕ) → Takes Anything read (front ++ rest) a
    → read p front ≡ faulty CutShort x → 0 < length rest
wants_more read p front [] a x takes wants = absurd (not_both (sym (rw (append-nil front, append-nil front) at (takes [] tt p)) ∙ wants))
wants_more read p front (b ∷ rest) a x takes wants = omega arith

-- the faults of the table of a dossier, and where they are
table_faults : (k n : ℕ) → Few k n → (l : List ℕ) (fault : Fault) (x : ℕ) → Seen fault → table k n 5 l ≡ faulty fault x
    → (fault ≡ BadTable) × (5 ≤ x) × (x < 7 + 2 * (n * k))
table_faults k n few l fault x seen e =
    let s = (exact_table DossierSeam (λ y g. g ≡ BadTable) k n 5 few.some_state few.few table_piece refl (λ y later. (omega arith, refl))).stops l fault x e in
    elim s.why [
      | inl (cut, none) ↦ absurd (rw cut at seen)
      | inr r ↦ elim r.number [
        | inl (late, t, takes) ↦ absurd (not_both (sym (takes (r.piece ++ []) tt 5) ∙ r.same []))
        | inr (is, wants) ↦
            let g = s.going in
            let taken = (reads_table k n).taken 0 ((s.front ++ g.rest) ++ []) g.thing (0 + length (s.front ++ g.rest)) [] (g.whole [] tt 0) in
            let more = wants_more (table k n) 5 s.front g.rest g.thing x g.whole wants in
            let long : length g.thing ≡ n * k = taken.rule.0 in
            let whole = length-append s.front g.rest in
            (is, omega (arith, r.place), omega (arith, r.place, taken.place, taken.spells.0, table_length g.thing))
      ]
    ]

-- those of its sections of words
words_faults : (k p : ℕ) → 0 < k → 7 ≤ p → (data_of : List Word → List Word → List Word → DossierData) (l : List ℕ) (fault : Fault) (x : ℕ) → InSection x fault
    → ◌>>=◌ (words k most_set_word) (λ cover. ◌>>=◌ (words k most_set_word) (λ separating. ◌>>=◌ (words k most_test_word) (λ tests. ending (data_of cover separating tests)))) p l ≡ faulty fault x
    → (fault ≡ BadWord) × (p ≤ x)
words_faults k p some_input later data_of l fault x of e =
    let s = (exact_sections DossierSeam (λ y g. g ≡ BadWord) k some_input data_of p (λ y more. (omega arith, refl))).stops l fault x e in
    elim s.why [
      | inl (cut, none) ↦ absurd (rw cut at of)
      | inr r ↦ elim r.number [ inl (late, t, takes) ↦ absurd (rw late at of) | inr (is, wants) ↦ (is, omega (arith, r.place)) ]
    ]

-- the section that a fault is met in is the one that its place stands in
in_dossier : (l : List ℕ) (fault : Fault) (x : ℕ) → dossier 0 l ≡ faulty fault x → Seen fault → InSection x fault → fault ≡ dossier_section l x
unfolding dossier
in_dossier l fault x e seen of =
    elim (count_then (eqb 3) BadNumbers 0 _ fault x seen l e) [
      | inl (is, at) ↦ numbers is (omega arith)
      | inr (low, high, l₁, l_is, e₁) ↦ elim (byte_then (counts most_inputs) BadNumbers 2 _ fault x seen l₁ e₁) [
        | inl (is, at) ↦ numbers is (omega arith)
        | inr (k, l₂, l₁_is, inputs, e₂) ↦ elim (byte_then (counts most_states) BadNumbers 3 _ fault x seen l₂ e₂) [
          | inl (is, at) ↦ numbers is (omega arith)
          | inr (n, l₃, l₂_is, states, e₃) ↦ elim (byte_then (bound_good n) BadNumbers 4 _ fault x seen l₃ e₃) [
            | inl (is, at) ↦ numbers is (omega arith)
            | inr (m, l₄, l₃_is, in_range, e₄) ↦
                let few = few_counts k n inputs states in
                let is : l ≡ low ∷ high ∷ k ∷ n ∷ m ∷ l₄ = cc in
                elim (then-faulty _ (table k n 5 l₄) fault x e₄) [
                  | inl e₅ ↦
                      let (fault_is, least, less) = table_faults k n few l₄ fault x seen e₅ in
                      rw (is, le-ltb x 5 least, lt-ltb x (7 + 2 * (n * k)) less) fault_is
                  | inr (t, q, l₅, t_is, e₅) ↦
                      let taken = (reads_table k n).taken 5 l₄ t q l₅ t_is in
                      let long : length t ≡ n * k = taken.rule.0 in
                      let place_is : q ≡ 7 + 2 * (n * k) = omega (arith, taken.place, taken.spells.0, table_length t) in
                      let (fault_is, least) = words_faults k q few.some_input (omega arith) _ l₅ fault x of e₅ in
                      let least' : 7 + 2 * (n * k) ≤ x = omega arith in
                      rw (is, le-ltb x 5 (omega arith), le-ltb x (7 + 2 * (n * k)) least') fault_is
                ]
          ]
        ]
      ]
    ]
  where
    numbers : BadNumbers ≡ fault → x < 5 → fault ≡ dossier_section l x
    numbers is less = rw (lt-ltb x 5 less) (sym is)

-- So the refusals 2 to 6 are given exactly as document 01 says, to a dossier,
pub dossier_faults : (bytes : List ℕ) → Bytes bytes → length bytes ≤ most_dossier_bytes
    → Faults Dossier FormedDossier DossierSeam dossier_section bytes (read_dossier bytes)
dossier_faults bytes are_bytes small = file_faults Dossier reads_dossier exact_dossier dossier_section in_dossier bytes are_bytes most_dossier_bytes small

-- to a unit,
exact_unit : Exact UnitSeam (λ x fault. fault ≡ unit_section [] x) Nothing 0 unit_table
unfolding unit_table count_bytes
exact_unit =
    exact_then UnitSeam Of 0 (reads_judged-count (eqb 2) BadNumbers tt)
    (exact_judged-count UnitSeam Of (eqb 2) BadNumbers 0 2 tt refl (count_piece UnitSeam 0 (omega arith) (λ (not-1, not-5). not-1 refl) (omega arith)) refl (omega arith)) (λ c two.
    exact_then UnitSeam Of 2 (reads_judged-byte (counts most_inputs) BadNumbers tt)
    (exact_judged-byte UnitSeam Of (counts most_inputs) BadNumbers 2 1 tt refl (omega arith) (omega arith) refl (omega arith)) (λ k inputs.
    exact_then UnitSeam Of 3 (reads_judged-byte (counts most_states) BadNumbers tt)
    (exact_judged-byte UnitSeam Of (counts most_states) BadNumbers 3 1 tt refl (omega arith) (omega arith) refl (omega arith)) (λ n states.
    let few = few_counts k n inputs states in
    exact_then UnitSeam Of 4 (reads_table k n)
    (exact_table UnitSeam Of k n 4 few.some_state few.few (count_piece UnitSeam 4 (omega arith) (λ (not-1, not-5). not-5 refl) (omega arith)) refl (λ x later. (omega arith, rw (le-ltb x 4 (omega arith))))) (λ t entries.
    exact_ending UnitSeam Of _ _ (omega (arith, table_length t)) (omega (arith, table_length t))))))
  where
    Of : ℕ → Fault → Type 0
    Of x fault = fault ≡ unit_section [] x

pub unit_faults : (bytes : List ℕ) → Bytes bytes → length bytes ≤ most_unit_bytes
    → Faults UnitFile FormedUnit UnitSeam unit_section bytes (read_unit bytes)
unit_faults bytes are_bytes small = file_faults UnitFile reads_unit exact_unit unit_section (λ l fault x e seen of. of) bytes are_bytes most_unit_bytes small

-- and to a sheet over k inputs, of which there is one at least.
exact_sheet : (k : ℕ) → 0 < k → Exact SheetSeam (λ x fault. fault ≡ BadWord) Nothing 0 (sheet k)
unfolding sheet count_bytes
exact_sheet k some_input =
    exact_then SheetSeam Of 0 reads_count (exact_count SheetSeam Of 0 from) (λ c any.
    exact_then SheetSeam Of 2 (reads_many (reads_record k) c) (exact_many SheetSeam Of (reads_record k) (exact_record SheetSeam Of k some_input) c 2 from)
    (λ rs rule. exact_ending SheetSeam Of _ _ tt tt))
  where
    Of : ℕ → Fault → Type 0
    Of x fault = fault ≡ BadWord

    from : {p : ℕ} → From SheetSeam Of p BadWord
    from x later = (tt, refl)

pub sheet_faults : (k : ℕ) → 0 < k → (bytes : List ℕ) → Bytes bytes → length bytes ≤ most_sheet_bytes
    → Faults Sheet (FormedSheet k) SheetSeam sheet_section bytes (read_sheet k bytes)
sheet_faults k some_input bytes are_bytes small =
    file_faults Sheet (reads_sheet k) (exact_sheet k some_input) sheet_section (λ l fault x e seen of. of) bytes are_bytes most_sheet_bytes small
