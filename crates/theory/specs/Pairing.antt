-- Document 01, refusals 12 to 14: records are paired with tests by their words, and each refusal is given exactly when its
-- sentence holds and nothing earlier does.
use Rattle.std.specs.Prelude.{ℕ, ◌<◌, ◌≡◌, refl, ◌↔◌, List, map, Bool, true, false, not, take}
use Rattle.std.proofs.Math.Logic.{inl, inr}
use mathlib.Core.List.Memᴰ
use Rattle.std.proofs.Math.Option.{none, some}
use Rattle.std.proofs.lemmas.Bool.{not-true, not-false}
use Rattle.rules.specs.declared.Refusal.{Refusal}
use Rattle.rules.specs.declared.Refusal.TheVariants.{Repeated, Foreign, Absent}
use Rattle.rules.specs.Lists.{◌∈◌}
use Rattle.rules.specs.Words.{Word, is_in}
use Rattle.rules.specs.Files.{SheetRecord}
use Rattle.rules.specs.Operations.{fine, refuse, repeated, foreign, absent, pair}
use Rattle.theory.specs.Lists.{outcome, optional, clash, At, at_in, in_at, in_take, of_take, found_at, at_found, none_at, at_none}
use Rattle.theory.specs.Words.{in_is_in, is_in_in}
use Rattle.theory.specs.Outcomes.{Settles}

-- a record whose word is w
abbrev pub RecordOf : List SheetRecord → Word → Type 0
RecordOf rs w = (r : SheetRecord) × (r ∈ rs) × (r.word ≡ w)

-- a record at an earlier place has the word w
abbrev pub EarlierRecord : List SheetRecord → ℕ → Word → Type 0
EarlierRecord rs i w = (j : ℕ) × (e : SheetRecord) × (j < i) × At rs j e × (e.word ≡ w)

abbrev pub NoneRepeated : List SheetRecord → Type 0
NoneRepeated rs = (i : ℕ) (r : SheetRecord) → At rs i r → ¬ EarlierRecord rs i r.word

abbrev pub NoneForeign : List Word → List SheetRecord → Type 0
NoneForeign tests rs = (r : SheetRecord) → r ∈ rs → r.word ∈ tests

abbrev pub NoneAbsent : List Word → List SheetRecord → Type 0
NoneAbsent tests rs = (t : Word) → t ∈ tests → RecordOf rs t

-- the record at place i is the first whose word an earlier record has
pub record FirstRepeated (rs : List SheetRecord) (i : ℕ) : Type 0 where
  pub this : SheetRecord
  pub here : At rs i this
  pub repeats : EarlierRecord rs i this.word
  pub earlier : (j : ℕ) (r : SheetRecord) → j < i → At rs j r → ¬ EarlierRecord rs j r.word

-- the record at place i is the first whose word is no test
pub record FirstForeign (tests : List Word) (rs : List SheetRecord) (i : ℕ) : Type 0 where
  pub this : SheetRecord
  pub here : At rs i this
  pub foreign : ¬ (this.word ∈ tests)
  pub earlier : (j : ℕ) (r : SheetRecord) → j < i → At rs j r → r.word ∈ tests

-- the test at place i is the first that has no record
pub record FirstAbsent (tests : List Word) (rs : List SheetRecord) (i : ℕ) : Type 0 where
  pub test : Word
  pub here : At tests i test
  pub absent : ¬ RecordOf rs test
  pub earlier : (j : ℕ) (t : Word) → j < i → At tests j t → RecordOf rs t

-- a sheet that belongs to the tests: none of 12 to 14 holds
pub record Belongs (tests : List Word) (rs : List SheetRecord) : Type 0 where
  pub once : NoneRepeated rs
  pub known : NoneForeign tests rs
  pub whole : NoneAbsent tests rs

-- each of 12 to 14 with its sentence, and nothing earlier
pub data PairRefuses (tests : List Word) (rs : List SheetRecord) (r : Refusal) : Type 0 where
  twelve : (i : ℕ) → FirstRepeated rs i → r ≡ Repeated i → PairRefuses tests rs r
  thirteen : NoneRepeated rs → (i : ℕ) → FirstForeign tests rs i → r ≡ Foreign i → PairRefuses tests rs r
  fourteen : NoneRepeated rs → NoneForeign tests rs → (i : ℕ) → FirstAbsent tests rs i → r ≡ Absent i → PairRefuses tests rs r

is_in-false : {w : Word} {ws : List Word} → ¬ (w ∈ ws) → is_in w ws ≡ false
is_in-false {w} {ws} h = elim (outcome (is_in w ws)) [ inl e ↦ absurd (h (is_in_in e)) | inr e ↦ e ]

false-is_in : {w : Word} {ws : List Word} → is_in w ws ≡ false → ¬ (w ∈ ws)
false-is_in e m = clash (in_is_in m) e

-- the words of records
of_words : {w : Word} (rs : List SheetRecord) → w ∈ map (λ (r : SheetRecord). r.word) rs → RecordOf rs w
of_words rs m = Memᴰ.of_map (λ (r : SheetRecord). r.word) rs m

in_words : {w : Word} {rs : List SheetRecord} → RecordOf rs w → w ∈ map (λ (r : SheetRecord). r.word) rs
in_words (r, m, e) = rw (← e) (Memᴰ.map (λ (r : SheetRecord). r.word) m)

module _ (tests : List Word) (rs : List SheetRecord) where
  -- the tests that find the three
  abbrev again : ℕ × SheetRecord → Bool
  again (i, r) = is_in r.word (map (λ (e : SheetRecord). e.word) (take i rs))

  abbrev unknown : ℕ × SheetRecord → Bool
  unknown (i, r) = not (is_in r.word tests)

  abbrev unanswered : ℕ × Word → Bool
  unanswered (i, t) = not (is_in t (map (λ (r : SheetRecord). r.word) rs))

  again_true : (i : ℕ) (w : Word) → is_in w (map (λ (e : SheetRecord). e.word) (take i rs)) ≡ true → EarlierRecord rs i w
  again_true i w e =
      let (r, m, is) = of_words (take i rs) (is_in_in e) in
      let (j, less, at) = of_take rs i m in
      (j, r, less, at, is)

  again_of : (i : ℕ) (w : Word) → EarlierRecord rs i w → is_in w (map (λ (e : SheetRecord). e.word) (take i rs)) ≡ true
  again_of i w (j, r, less, at, is) = in_is_in (in_words (r, in_take rs i j at less, is))

  again_false : (i : ℕ) (w : Word) → ¬ EarlierRecord rs i w → is_in w (map (λ (e : SheetRecord). e.word) (take i rs)) ≡ false
  again_false i w h =
      elim (outcome (is_in w (map (λ (e : SheetRecord). e.word) (take i rs)))) [ inl e ↦ absurd (h (again_true i w e)) | inr e ↦ e ]

  none-repeated : repeated rs ≡ none → NoneRepeated rs
  unfolding repeated
  none-repeated e i r at h = clash (again_of i r.word h) (none_at again rs e i r at)

  repeated-none : NoneRepeated rs → repeated rs ≡ none
  unfolding repeated
  repeated-none h = at_none again rs (λ i r at. again_false i r.word (h i r at))

  some-repeated : {i : ℕ} {r : SheetRecord} → repeated rs ≡ some (i, r) → FirstRepeated rs i
  unfolding repeated
  some-repeated {i} {r} e =
      let f = found_at again rs e in
      record {
        this = r;
        here = f.here;
        repeats = again_true i r.word f.passes;
        earlier = λ j s less at h. clash (again_of j s.word h) (f.earlier j s less at);
      }

  repeated-some : {i : ℕ} (f : FirstRepeated rs i) → repeated rs ≡ some (i, f.this)
  unfolding repeated
  repeated-some {i} f =
      at_found again rs
      (record {
        here = f.here;
        passes = again_of i f.this.word f.repeats;
        earlier = λ j s less at. again_false j s.word (f.earlier j s less at);
      })

  none-foreign : foreign tests rs ≡ none → NoneForeign tests rs
  unfolding foreign
  none-foreign e r m = let (i, at) = in_at m in is_in_in (not-false _ (none_at unknown rs e i r at))

  foreign-none : NoneForeign tests rs → foreign tests rs ≡ none
  unfolding foreign
  foreign-none h = at_none unknown rs (λ i r at. rw (in_is_in (h r (at_in rs i at))))

  some-foreign : {i : ℕ} {r : SheetRecord} → foreign tests rs ≡ some (i, r) → FirstForeign tests rs i
  unfolding foreign
  some-foreign {i} {r} e =
      let f = found_at unknown rs e in
      record {
        this = r;
        here = f.here;
        foreign = false-is_in (not-true _ f.passes);
        earlier = λ j s less at. is_in_in (not-false _ (f.earlier j s less at));
      }

  foreign-some : {i : ℕ} (f : FirstForeign tests rs i) → foreign tests rs ≡ some (i, f.this)
  unfolding foreign
  foreign-some f =
      at_found unknown rs
      (record {
        here = f.here;
        passes = rw (is_in-false f.foreign);
        earlier = λ j s less at. rw (in_is_in (f.earlier j s less at));
      })

  none-absent : absent tests rs ≡ none → NoneAbsent tests rs
  unfolding absent
  none-absent e t m = let (i, at) = in_at m in of_words rs (is_in_in (not-false _ (none_at unanswered tests e i t at)))

  absent_none : NoneAbsent tests rs → absent tests rs ≡ none
  unfolding absent
  absent_none h = at_none unanswered tests (λ i t at. rw (in_is_in (in_words (h t (at_in tests i at)))))

  some-absent : {i : ℕ} {t : Word} → absent tests rs ≡ some (i, t) → FirstAbsent tests rs i
  unfolding absent
  some-absent {i} {t} e =
      let f = found_at unanswered tests e in
      record {
        test = t;
        here = f.here;
        absent = λ h. false-is_in (not-true _ f.passes) (in_words h);
        earlier = λ j s less at. of_words rs (is_in_in (not-false _ (f.earlier j s less at)));
      }

  absent-some : {i : ℕ} (f : FirstAbsent tests rs i) → absent tests rs ≡ some (i, f.test)
  unfolding absent
  absent-some f =
      at_found unanswered tests
      (record {
        here = f.here;
        passes = rw (is_in-false {w = f.test} (λ m. f.absent (of_words rs m)));
        earlier = λ j s less at. rw (in_is_in (in_words (f.earlier j s less at)));
      })

  -- Where some word is repeated there is a first such record, and likewise for a foreign word.
  pub repeated_somewhere : ¬ NoneRepeated rs → (i : ℕ) × FirstRepeated rs i
  repeated_somewhere h =
      elim (optional (repeated rs)) [ inl e ↦ absurd (h (none-repeated e)) | inr ((i, r), e) ↦ (i, some-repeated e) ]

  pub foreign_somewhere : ¬ NoneForeign tests rs → (i : ℕ) × FirstForeign tests rs i
  foreign_somewhere h =
      elim (optional (foreign tests rs)) [ inl e ↦ absurd (h (none-foreign e)) | inr ((i, r), e) ↦ (i, some-foreign e) ]

  pair_gives : Settles (λ x. Belongs tests rs) (PairRefuses tests rs) (pair tests rs)
  unfolding pair
  pair_gives =
      elim (optional (repeated rs)) [
        | inr ((i, r), e) ↦ rw e (twelve i (some-repeated e) refl)
        | inl once ↦
            rw once
            (elim (optional (foreign tests rs)) [
              | inr ((i, r), e) ↦ rw e (thirteen (none-repeated once) i (some-foreign e) refl)
              | inl known ↦
                  rw known
                  (elim (optional (absent tests rs)) [
                    | inr ((i, t), e) ↦ rw e (fourteen (none-repeated once) (none-foreign known) i (some-absent e) refl)
                    | inl whole ↦ rw whole (record { once = none-repeated once; known = none-foreign known; whole = none-absent whole })
                  ])
            ])
      ]

  gives_pair : (r : Refusal) → PairRefuses tests rs r → pair tests rs ≡ refuse r
  unfolding pair
  gives_pair r (twelve i f is) = rw (repeated-some f, is)
  gives_pair r (thirteen once i f is) = rw (repeated-none once, foreign-some f, is)
  gives_pair r (fourteen once known i f is) = rw (repeated-none once, foreign-none known, absent-some f, is)

  -- 12 to 14 are given exactly when their sentence holds and nothing earlier does.
  pub pair_refuses : (r : Refusal) → (pair tests rs ≡ refuse r) ↔ PairRefuses tests rs r
  pair_refuses r = (λ e. rw e at pair_gives, gives_pair r)

  -- None of them is given exactly when the sheet belongs to the tests.
  pub pair-fine : (pair tests rs ≡ fine tt) ↔ Belongs tests rs
  unfolding pair
  pair-fine = (λ e. rw e at pair_gives, λ b. rw (repeated-none b.once, foreign-none b.known, absent_none b.whole))
