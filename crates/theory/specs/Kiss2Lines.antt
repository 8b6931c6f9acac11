-- Document 02, L2, "Read KISS2": how a text falls into lines and a line into fields, what a line says, and which line may follow which.
use Rattle.std.specs.Prelude.{ℕ, suc, ◌≤◌, ◌<◌, ◌≡◌, refl, ◌↔◌, ◌≢◌, ◌⊎◌, true, false, cond, not, ◌&&◌, eqb, leb, length}
use Rattle.std.proofs.Common.{arith, sym, ap, ◌∙◌, inl, inr, eqb-true, eq-eqb, ne_eqb, leb-true, le-leb}
use Rattle.std.proofs.Math.Logic.{⊎_map}
use mathlib.Core.List.Memᴰ
use mathlib.Core.List.{List, [], ◌∷◌, ◌++◌, flat_map, nil≢cons}
use Rattle.std.proofs.lemmas.Bool.{false≢true, not-true}
use Rattle.rules.specs.Lists.{◌∈◌, any, all}
use Rattle.rules.specs.Sizes.{most_states, counts}
use Rattle.rules.specs.Words.{same, is_in}
use Rattle.rules.specs.Needed.{distinct}
use Rattle.rules.specs.Line.{text}
use Rattle.rules.specs.Kiss2.{Field, Term, Says, skipped, number, reset, term, end, bad, longer, lines_of, is_gap, ends_field, fields_of, is_comment, is_digit, is_number, is_name, is_cube, is_output, value, most_of, directive, fields_say, says_of, line_says, reset_of, term_of, is_end, numbers_in, terms_in, resets_in, ended, names_in, is_empty, may_follow, opened, is_about, differ, contradicts, read_lines}
use Rattle.rules.specs.Operations.{fine}
use Rattle.theory.specs.Lists.{outcome, clash, any-true, any_of, all_true, all_of, flat_map_last}
use Rattle.theory.specs.Words.{both, same_true, same_refl, same_false, differ_same}
use Rattle.theory.specs.Outcomes.{fine_injective, fine_not_refuse}
use Rattle.theory.specs.Contents.{true-counts}

-- Rule 1: a line ends at its line feed,
pub line_ends : (line rest : List ℕ) → ((b : ℕ) → b ∈ line → b ≢ 10) → lines_of (line ++ 10 ∷ rest) ≡ line ∷ lines_of rest
unfolding lines_of
line_ends [] rest no_feed = refl
line_ends (b ∷ line) rest no_feed =
    rw (ne_eqb b 10 (no_feed b (Memᴰ.head refl)), line_ends line rest (λ c m. no_feed c (Memᴰ.tail m)))

-- and the last line may lack it.
pub last_line : (b : ℕ) (line : List ℕ) → ((c : ℕ) → c ∈ b ∷ line → c ≢ 10) → lines_of (b ∷ line) ≡ (b ∷ line) ∷ []
unfolding lines_of
last_line b [] no_feed = rw (ne_eqb b 10 (no_feed b (Memᴰ.head refl)))
last_line b (c ∷ line) no_feed =
    let rest : lines_of (c ∷ line) ≡ (c ∷ line) ∷ [] = last_line c line (λ d m. no_feed d (Memᴰ.tail m)) in
    rw (ne_eqb b 10 (no_feed b (Memᴰ.head refl))) (ap (longer b) rest)

-- A text has no more lines than bytes.
pub few_lines : (bytes : List ℕ) → length (lines_of bytes) ≤ length bytes
unfolding lines_of
few_lines [] = omega arith
few_lines (b ∷ bytes) =
    let rest = few_lines bytes in
    elim (outcome (eqb b 10)) [ inl feed ↦ rw feed (omega arith) | inr other ↦ rw other (begun (lines_of bytes) refl rest) ]
  where
    begun : (parts : List (List ℕ)) → lines_of bytes ≡ parts → length (lines_of bytes) ≤ length bytes → length (longer b parts) ≤ suc (length bytes)
    begun [] e few = omega arith
    begun (part ∷ parts) e few = let long = ap (λ (l : List (List ℕ)). length l) e in omega arith

-- Rule 2: what separates fields is no part of one,
pub gap_passed : (b : ℕ) (line : List ℕ) → is_gap b ≡ true → fields_of (b ∷ line) ≡ fields_of line
unfolding fields_of
gap_passed b line gap = rw gap

-- what is none is put before the field behind it, if one stands there,
byte_goes_on : (b : ℕ) (line : List ℕ) → is_gap b ≡ false → ends_field line ≡ false → fields_of (b ∷ line) ≡ longer b (fields_of line)
unfolding fields_of
byte_goes_on b line none more = rw (none, more)

byte_ends : (b : ℕ) (line : List ℕ) → is_gap b ≡ false → ends_field line ≡ true → fields_of (b ∷ line) ≡ (b ∷ []) ∷ fields_of line
unfolding fields_of
byte_ends b line none over = rw (none, over)

-- so a field ends where a gap follows,
pub field_ends : (b : ℕ) (field : List ℕ) (gap : ℕ) (line : List ℕ) → ((c : ℕ) → c ∈ b ∷ field → is_gap c ≡ false) → is_gap gap ≡ true
    → fields_of ((b ∷ field) ++ gap ∷ line) ≡ (b ∷ field) ∷ fields_of line
field_ends b [] gap line none is = byte_ends b (gap ∷ line) (none b (Memᴰ.head refl)) is ∙ ap (λ l. (b ∷ []) ∷ l) (gap_passed gap line is)
field_ends b (c ∷ field) gap line none is =
    byte_goes_on b ((c ∷ field) ++ gap ∷ line) (none b (Memᴰ.head refl)) (none c (Memᴰ.tail (Memᴰ.head refl)))
    ∙ ap (longer b) (field_ends c field gap line (λ d m. none d (Memᴰ.tail m)) is)

-- and at the end of its line.
pub last_field : (b : ℕ) (field : List ℕ) → ((c : ℕ) → c ∈ b ∷ field → is_gap c ≡ false) → fields_of (b ∷ field) ≡ (b ∷ field) ∷ []
unfolding fields_of
last_field b [] none = byte_ends b [] (none b (Memᴰ.head refl)) refl
last_field b (c ∷ field) none =
    byte_goes_on b (c ∷ field) (none b (Memᴰ.head refl)) (none c (Memᴰ.tail (Memᴰ.head refl)))
    ∙ ap (longer b) (last_field c field (λ d m. none d (Memᴰ.tail m)))

-- what a line may say by itself: a number within its directive's range, names, and terms of bits
abbrev pub Sayable : Says → Type 0
Sayable skipped = Unit {0}
Sayable (number name n) = (0 < n) × (n ≤ most_of name)
Sayable (reset state) = is_name state ≡ true
Sayable (term t) = (is_cube t.cube ≡ true) × (is_name t.current ≡ true) × (is_name t.next ≡ true) × (is_output t.output ≡ true)
Sayable end = Unit {0}
Sayable bad = Unit {0}

-- Rules 3 to 8 and 13
pub line_sayable : (line : List ℕ) → Sayable (line_says line)
unfolding line_says
line_sayable line = go (fields_of line)
  where
    of_directive : (a b : Field) → Sayable (directive a b)
    of_directive a b =
        elim (outcome (is_number (most_of a) b)) [
          | inl is ↦ rw is (true-counts (most_of a) (value b) (both {a = counts 9 (length b) && all is_digit b} is).1)
          | inr other ↦
              elim (outcome (same a (text ".r") && is_name b)) [
                | inl is ↦ rw (other, is) (both {a = same a (text ".r")} is).1
                | inr none ↦ rw (other, none) tt
              ]
        ]

    of_fields : (a : Field) (fields : List Field) → Sayable (fields_say a fields)
    of_fields a [] = elim (outcome (same a (text ".e"))) [ inl is ↦ rw is tt | inr none ↦ rw none tt ]
    of_fields a (b ∷ []) = of_directive a b
    of_fields a (b ∷ c ∷ []) = tt
    of_fields a (b ∷ c ∷ d ∷ []) =
        elim (outcome (is_cube a && is_name b && is_name c && is_output d)) [
          | inl is ↦
              let (front, output) = both {a = is_cube a && is_name b && is_name c} is in
              let (front', next) = both {a = is_cube a && is_name b} front in
              let (cube, current) = both {a = is_cube a} front' in
              rw is (cube, current, next, output)
          | inr none ↦ rw none tt
        ]
    of_fields a (b ∷ c ∷ d ∷ e ∷ fields) = tt

    go : (fields : List Field) → Sayable (says_of fields)
    go [] = tt
    go (a ∷ fields) = elim (outcome (is_comment a)) [ inl is ↦ rw is tt | inr none ↦ rw none (of_fields a fields) ]

-- Rules 6, 9 and 11: when a term may follow the lines before it
pub record TermFollows (before : List Says) (t : Term) : Type 0 where
  pub not_ended : ¬ (end ∈ before)
  -- `.i` and `.o` stand before it, and its cube and its output are as long as they say
  pub inputs : length t.cube ∈ numbers_in (text ".i") before
  pub outputs : length t.output ∈ numbers_in (text ".o") before
  -- it is not one more than `.p` says
  pub terms : (n : ℕ) → n ∈ numbers_in (text ".p") before → length (terms_in before) < n
  -- with it there are not more states than 64, nor than `.s` says
  pub states : length (names_in (before ++ (term t ∷ []))) ≤ most_states
  pub said_states : (n : ℕ) → n ∈ numbers_in (text ".s") before → length (names_in (before ++ (term t ∷ []))) ≤ n

-- when a line may say this behind the lines before it
abbrev pub Follows : List Says → Says → Type 0
Follows before skipped = Unit {0}
Follows before (number name n) = ¬ (end ∈ before) × (terms_in before ≡ []) × (numbers_in name before ≡ [])
Follows before (reset state) = ¬ (end ∈ before) × (terms_in before ≡ []) × (resets_in before ≡ [])
Follows before (term t) = TermFollows before t
Follows before end = ¬ (end ∈ before)
Follows before bad = ⊥

end_is : (s : Says) → is_end s ≡ true → end ≡ s
end_is skipped e = absurd (false≢true e)
end_is (number name n) e = absurd (false≢true e)
end_is (reset state) e = absurd (false≢true e)
end_is (term t) e = absurd (false≢true e)
end_is end e = refl
end_is bad e = absurd (false≢true e)

pub ended_in : (said : List Says) → (ended said ≡ true) ↔ (end ∈ said)
ended_in said = (
  λ e. let (s, m, is) = any-true is_end said e in rw (end_is s is) m,
  λ m. any_of is_end m refl,
)

pub not-ended_in : (said : List Says) → (not (ended said) ≡ true) ↔ ¬ (end ∈ said)
not-ended_in said = (
  λ e m. clash ((ended_in said).1 m) (not-true _ e),
  λ none. elim (outcome (ended said)) [ inl e ↦ absurd (none ((ended_in said).0 e)) | inr e ↦ rw e ],
)

pub empty_is : {A : Type 0} (l : List A) → (is_empty l ≡ true) ↔ (l ≡ [])
empty_is [] = (λ e. refl, λ e. refl)
empty_is (x ∷ l) = (λ e. absurd (false≢true e), λ e. absurd (nil≢cons (sym e)))

one_of : (x : ℕ) (l : List ℕ) → (any (eqb x) l ≡ true) ↔ (x ∈ l)
one_of x l = (
  λ e. let (y, m, is) = any-true (eqb x) l e in rw (eqb-true x y is) m,
  λ m. any_of (eqb x) m (eq-eqb x x refl),
)

at_most_all : (x : ℕ) (l : List ℕ) → (all (leb x) l ≡ true) ↔ ((n : ℕ) → n ∈ l → x ≤ n)
at_most_all x l = (
  λ e n m. leb-true x n (all_true (leb x) e m),
  λ h. all_of (leb x) l (λ n m. le-leb x n (h n m)),
)

pub may_follow_lem : (before : List Says) (s : Says) → (may_follow before s ≡ true) ↔ Follows before s
may_follow_lem before skipped = (λ e. tt, λ f. refl)
may_follow_lem before (number name n) = (
  λ e.
      let (front, once) = both {a = not (ended before) && is_empty (terms_in before)} e in
      let (going, first) = both {a = not (ended before)} front in
      ((not-ended_in before).0 going, (empty_is (terms_in before)).0 first, (empty_is (numbers_in name before)).0 once),
  λ (going, first, once). rw ((not-ended_in before).1 going, (empty_is (terms_in before)).1 first, (empty_is (numbers_in name before)).1 once),
)
may_follow_lem before (reset state) = (
  λ e.
      let (front, once) = both {a = not (ended before) && is_empty (terms_in before)} e in
      let (going, first) = both {a = not (ended before)} front in
      ((not-ended_in before).0 going, (empty_is (terms_in before)).0 first, (empty_is (resets_in before)).0 once),
  λ (going, first, once). rw ((not-ended_in before).1 going, (empty_is (terms_in before)).1 first, (empty_is (resets_in before)).1 once),
)
may_follow_lem before (term t) = (
  λ e.
      let inputs = any (eqb (length t.cube)) (numbers_in (text ".i") before) in
      let outputs = any (eqb (length t.output)) (numbers_in (text ".o") before) in
      let terms = all (leb (suc (length (terms_in before)))) (numbers_in (text ".p") before) in
      let (front, few) = both {a = not (ended before) && inputs && outputs && terms} e in
      let (front', room) = both {a = not (ended before) && inputs && outputs} front in
      let (front'', out) = both {a = not (ended before) && inputs} front' in
      let (going, in') = both {a = not (ended before)} front'' in
      let states = (at_most_all (length (names_in (before ++ (term t ∷ [])))) (most_states ∷ numbers_in (text ".s") before)).0 few in
      record {
        not_ended = (not-ended_in before).0 going;
        inputs = (one_of (length t.cube) _).0 in';
        outputs = (one_of (length t.output) _).0 out;
        terms = (at_most_all (suc (length (terms_in before))) _).0 room;
        states = states most_states (Memᴰ.head refl);
        said_states = λ n m. states n (Memᴰ.tail m);
      },
  λ f.
      rw ((not-ended_in before).1 f.not_ended, (one_of _ _).1 f.inputs, (one_of _ _).1 f.outputs, (at_most_all _ _).1 f.terms)
      ((at_most_all (length (names_in (before ++ (term t ∷ [])))) (most_states ∷ numbers_in (text ".s") before)).1
      (λ n m. elim (Memᴰ.cases_cons m) [ inl e ↦ rw e f.states | inr more ↦ f.said_states n more ])),
)
may_follow_lem before end = not-ended_in before
may_follow_lem before bad = (λ e. false≢true e, λ f. absurd f)

pub may_not_follow : (before : List Says) (s : Says) → (may_follow before s ≡ false) ↔ ¬ Follows before s
may_not_follow before s = (
  λ e f. clash ((may_follow_lem before s).1 f) e,
  λ none. elim (outcome (may_follow before s)) [ inl e ↦ absurd (none ((may_follow_lem before s).0 e)) | inr e ↦ e ],
)

-- a term is about a state and an input: the state is its current state and its cube has the input
abbrev pub About : Field → ℕ → Term → Type 0
About state i t = (t.current ≡ state) × (i ∈ opened t.cube)

pub about_is : (state : Field) (i : ℕ) (t : Term) → (is_about state i t ≡ true) ↔ About state i t
about_is state i t = (
  λ e. let (current, has) = both {a = same t.current state} e in (same_true _ _ current, (one_of i (opened t.cube)).0 has),
  λ (current, has). rw (current, same_refl state) ((one_of i (opened t.cube)).1 has),
)

-- Rule 12: two terms differ on one state and input
pub record Differ (t e : Term) : Type 0 where
  pub input : ℕ
  pub in_one : input ∈ opened t.cube
  pub in_other : input ∈ opened e.cube
  pub same_state : t.current ≡ e.current
  pub otherwise : (t.next ≢ e.next) ⊎ (t.output ≢ e.output)

pub differ_swap : (t e : Term) → Differ t e → Differ e t
differ_swap t e d =
    record {
      input = d.input;
      in_one = d.in_other;
      in_other = d.in_one;
      same_state = sym d.same_state;
      otherwise = ⊎_map (λ other h. other (sym h)) (λ other h. other (sym h)) d.otherwise;
    }

says_else_lem : (t e : Term) → (not (same t.next e.next && same t.output e.output) ≡ true) ↔ ((t.next ≢ e.next) ⊎ (t.output ≢ e.output))
says_else_lem t e = (
  λ h.
      elim (outcome (same t.next e.next)) [
        | inr other ↦ inl (same_false other)
        | inl is ↦ inr (same_false (not-true _ (rw is at h)))
      ],
  λ s.
      elim s [
        | inl other ↦ rw (differ_same other)
        | inr other ↦ elim (outcome (same t.next e.next)) [ inl is ↦ rw (is, differ_same other) | inr not_is ↦ rw not_is ]
      ],
)

pub differ_is : (t e : Term) → (differ t e ≡ true) ↔ Differ t e
differ_is t e = (
  λ h.
      let (meet, else') = both {a = any (λ i. is_about t.current i e) (opened t.cube)} h in
      let (i, m, about) = any-true (λ i. is_about t.current i e) (opened t.cube) meet in
      let (current, has) = (about_is t.current i e).0 about in
      record { input = i; in_one = m; in_other = has; same_state = sym current; otherwise = (says_else_lem t e).0 else' },
  λ d.
      rw (any_of (λ i. is_about t.current i e) d.in_one ((about_is t.current d.input e).1 (sym d.same_state, d.in_other)))
      ((says_else_lem t e).1 d.otherwise),
)

-- what is said differs from an earlier term
abbrev pub Contradicts : List Says → Says → Type 0
Contradicts before s = (t e : Term) × (s ≡ term t) × (e ∈ terms_in before) × Differ t e

pub term_in : (s : Says) (t : Term) → t ∈ term_of s → s ≡ term t
term_in skipped t m = absurd (Memᴰ.not-nil m)
term_in (number name n) t m = absurd (Memᴰ.not-nil m)
term_in (reset state) t m = absurd (Memᴰ.not-nil m)
term_in (term e) t m = ap term (sym (Memᴰ.eq_of_singleton m))
term_in end t m = absurd (Memᴰ.not-nil m)
term_in bad t m = absurd (Memᴰ.not-nil m)

pub contradicts_is : (before : List Says) (s : Says) → (contradicts before s ≡ true) ↔ Contradicts before s
contradicts_is before s = (
  λ h.
      let (t, m, some_differ) = any-true (λ t. any (differ t) (terms_in before)) (term_of s) h in
      let (e, n, d) = any-true (differ t) (terms_in before) some_differ in
      (t, e, term_in s t m, n, (differ_is t e).0 d),
  λ (t, e, is, n, d). rw (is, any_of (differ t) n ((differ_is t e).1 d)),
)

pub contradicts_none : (before : List Says) (s : Says) → (contradicts before s ≡ false) ↔ ¬ Contradicts before s
contradicts_none before s = (
  λ e c. clash ((contradicts_is before s).1 c) e,
  λ none. elim (outcome (contradicts before s)) [ inl e ↦ absurd (none ((contradicts_is before s).0 e)) | inr e ↦ e ],
)

-- What a line keeps that may follow those before it and contradicts none of them, all lines keep.
pub kept : (Keeps : List Says → Type 0)
    → ((before : List Says) (s : Says) → Keeps before → Sayable s → Follows before s → ¬ Contradicts before s → Keeps (before ++ (s ∷ [])))
    → (n : ℕ) (before : List Says) (lines : List (List ℕ)) (said : List Says) → read_lines n before lines ≡ fine said → Keeps before → Keeps said
unfolding read_lines
kept Keeps step n before [] said e k = rw (fine_injective e) at k
kept Keeps step n before (line ∷ lines) said e k =
    elim (outcome (may_follow before (line_says line))) [
      | inr no_line ↦ fine_not_refuse (sym (rw no_line at e))
      | inl follows ↦
          elim (outcome (contradicts before (line_says line))) [
            | inl against ↦ fine_not_refuse (sym (rw (follows, against) at e))
            | inr agrees ↦
                let may = (may_follow_lem before (line_says line)).0 follows in
                let like = (contradicts_none before (line_says line)).0 agrees in
                kept Keeps step (suc n) (before ++ (line_says line ∷ [])) lines said (rw (follows, agrees) at e) (step before (line_says line) k (line_sayable line) may like)
          ]
    ]

-- The names with one line more.
pub names_last : (before : List Says) (s : Says) → names_in (before ++ (s ∷ []))
    ≡ distinct ((resets_in before ++ reset_of s) ++ flat_map (λ t. t.current ∷ t.next ∷ []) (terms_in before ++ term_of s))
names_last before s = rw (flat_map_last reset_of before s, flat_map_last term_of before s)

-- Names with one that may be among them, which is else the last.
abbrev pub with_name : List Field → Field → List Field
with_name names n = cond (is_in n names) names (names ++ (n ∷ []))
