-- Document 02, L2, "Read KISS2": what all lines of a text have said, and when each answer of the import is given.
use Rattle.std.specs.Prelude.{ℕ, zero, suc, ◌+◌, ◌≤◌, ◌<◌, ◌≡◌, refl, ◌↔◌, ◌⊎◌, Bool, true, false, not, ◌&&◌, eqb, leb, take, get_or}
use Rattle.std.proofs.Common.{arith, add-zero, sym, ap, ◌∙◌}
use Rattle.std.proofs.Math.Logic.{inl, inr}
use mathlib.Core.List.Memᴰ
use mathlib.Core.List.{List, [], ◌∷◌, ◌++◌, map, flat_map, append-nil}
use Rattle.std.proofs.lemmas.Bool.{false≢true}
use Rattle.std.proofs.Math.Option.{none, some}
use borrow.Author.Tests.{eqb-true, eq-eqb, leb-true, leb-false, le-leb, lt-leb}
use Rattle.std.proofs.Math.ListN.{length}
use Rattle.std.proofs.Math.Seq.{append_snoc}
use Rattle.rules.specs.declared.File.TheVariants.{Text}
use Rattle.rules.specs.declared.Fault.TheVariants.{TooLong}
use Rattle.rules.specs.declared.Refusal.{Refusal}
use Rattle.rules.specs.declared.Refusal.TheVariants.{Malformed, NoRoom, BadLine, Contradiction, Incomplete}
use Rattle.rules.specs.declared.Imported.{Imported}
use Rattle.rules.specs.declared.Imported.TheVariants.{Written, Refused}
use Rattle.rules.specs.Lists.{◌∈◌, numbers, all, first}
use Rattle.rules.specs.Sizes.{most_states}
use Rattle.rules.specs.Words.{same}
use Rattle.rules.specs.Files.{unit_bytes}
use Rattle.rules.specs.Needed.{distinct}
use Rattle.rules.specs.Answers.{unit_state, input_of}
use Rattle.rules.specs.Line.{text}
use Rattle.rules.specs.Operations.{Outcome, fine, refuse}
use Rattle.rules.specs.Kiss2.{Field, Term, Says, skipped, number, reset, term, end, bad, most_text_bytes, lines_of, line_says, most_of, number_of, reset_of, term_of, numbers_in, terms_in, resets_in, ended, names_in, is_empty, may_follow, contradicts, state_names, inputs_in, term_for, is_silent, grid, silent, unit_said, is_whole, read_lines, read_kiss2, read_kiss2_answer}
use Rattle.theory.specs.Lists.{outcome, optional, clash, some_injective, all_true, all_of, first-none, none_first, first_some, first_least, least_first, in_flat_map, of_flat_map, flat_map_last, in_numbers, of_numbers, numbers_rising, Rising, append_rising, map_rising, flat_map_rising, At, at_below}
use Rattle.theory.specs.Words.{both, same_true}
use Rattle.theory.specs.Maximal.{in_distinct, distinct_count}
use Rattle.theory.specs.Sound.{LowerPair, lower_one_way}
use Rattle.theory.specs.Outcomes.{settled, Settles}
use Rattle.theory.specs.Kiss2Lines.{Sayable, TermFollows, Follows, ended_in, may_follow_lem, may_not_follow, About, about_is, Differ, Contradicts, term_in, contradicts_is, contradicts_none, kept, names_last}

-- the lines name it: as the reset state, a current or a next state
abbrev pub Named : List Says → Field → Type 0
Named said w = (w ∈ resets_in said) ⊎ ((t : Term) × (t ∈ terms_in said) × ((t.current ≡ w) ⊎ (t.next ≡ w)))

-- The names that are counted as they come, and those that have a number, are those: there are as many of one as of the other.
named_pairs : (said : List Says) (w : Field) → (w ∈ resets_in said ++ flat_map (λ t. t.current ∷ t.next ∷ []) (terms_in said)) ↔ Named said w
named_pairs said w = (
  λ m.
      elim (Memᴰ.append_cases (resets_in said) m) [
        | inl r ↦ inl r
        | inr n ↦
            let (t, in_t, here) = of_flat_map (λ (t : Term). t.current ∷ t.next ∷ []) (terms_in said) n in
            inr (t, in_t, elim (Memᴰ.cases_cons here) [ inl e ↦ inl (sym e) | inr there ↦ inr (sym (Memᴰ.eq_of_singleton there)) ])
      ],
  λ is.
      elim is [
        | inl r ↦ Memᴰ.append_left _ r
        | inr (t, in_t, which) ↦
            Memᴰ.append_right (resets_in said) (in_flat_map (λ (t : Term). t.current ∷ t.next ∷ []) in_t
            (elim which [ inl e ↦ Memᴰ.head (sym e) | inr e ↦ Memᴰ.tail (Memᴰ.head (sym e)) ]))
      ],
)

named_apart : (said : List Says) (w : Field)
    → (w ∈ resets_in said ++ map (λ t. t.current) (terms_in said) ++ map (λ t. t.next) (terms_in said)) ↔ Named said w
named_apart said w = (
  λ m.
      elim (Memᴰ.append_cases (resets_in said ++ map (λ t. t.current) (terms_in said)) m) [
        | inr n ↦ let (t, in_t, e) = Memᴰ.of_map (λ (t : Term). t.next) (terms_in said) n in inr (t, in_t, inr e)
        | inl front ↦
            elim (Memᴰ.append_cases (resets_in said) front) [
              | inl r ↦ inl r
              | inr n ↦ let (t, in_t, e) = Memᴰ.of_map (λ (t : Term). t.current) (terms_in said) n in inr (t, in_t, inl e)
            ]
      ],
  λ is.
      elim is [
        | inl r ↦ Memᴰ.append_left _ (Memᴰ.append_left _ r)
        | inr (t, in_t, inl e) ↦ Memᴰ.append_left _ (Memᴰ.append_right (resets_in said) (rw e at (Memᴰ.map (λ (t : Term). t.current) in_t)))
        | inr (t, in_t, inr e) ↦ Memᴰ.append_right (resets_in said ++ map (λ t. t.current) (terms_in said)) (rw e at (Memᴰ.map (λ (t : Term). t.next) in_t))
      ],
)

pub as_many_names : (said : List Says) → length (names_in said) ≡ length (state_names said)
unfolding state_names
as_many_names said = distinct_count _ _ (λ w. (λ m. (named_apart said w).1 ((named_pairs said w).0 m), λ m. (named_pairs said w).1 ((named_apart said w).0 m)))

pub states_named : (said : List Says) (w : Field) → (w ∈ state_names said) ↔ Named said w
unfolding state_names
states_named said w = (
  λ m. (named_apart said w).0 ((in_distinct w _).0 m),
  λ is. (in_distinct w _).1 ((named_apart said w).1 is),
)

one_name : (state : Field) → length (distinct ((state ∷ []) ++ flat_map (λ (t : Term). t.current ∷ t.next ∷ []) [])) ≤ most_states
unfolding flat_map
one_name state = omega arith

-- What all lines have said that were read.
pub record Read (said : List Says) : Type 0 where
  pub few : length (names_in said) ≤ most_states
  pub one_reset : length (resets_in said) ≤ 1
  pub one_number : (name : Field) → length (numbers_in name said) ≤ 1
  pub in_range : (name : Field) (n : ℕ) → n ∈ numbers_in name said → (0 < n) × (n ≤ most_of name)
  pub inputs : (t : Term) → t ∈ terms_in said → length t.cube ∈ numbers_in (text ".i") said
  pub outputs : (t : Term) → t ∈ terms_in said → length t.output ∈ numbers_in (text ".o") said
  pub terms : (t : Term) → t ∈ terms_in said → Sayable (term t)
  -- no term differs from an earlier one
  pub alike : Rising (λ e t. ¬ Differ t e) (terms_in said)

module _ (before : List Says) where
  few_more : (s : Says) → length (names_in before) ≤ most_states → Follows before s → length (names_in (before ++ (s ∷ []))) ≤ most_states
  few_more skipped few f = rw (names_last before skipped, append-nil (resets_in before), append-nil (terms_in before)) few
  few_more (number name n) few f = rw (names_last before (number name n), append-nil (resets_in before), append-nil (terms_in before)) few
  few_more (reset state) few (going, no_term, no_reset) = rw (names_last before (reset state), no_term, no_reset) (one_name state)
  few_more (term t) few f = f.states
  few_more end few f = rw (names_last before end, append-nil (resets_in before), append-nil (terms_in before)) few
  few_more bad few f = absurd f

  one_reset_more : (s : Says) → length (resets_in before) ≤ 1 → Follows before s → length (resets_in (before ++ (s ∷ []))) ≤ 1
  one_reset_more skipped one f = rw (flat_map_last reset_of before skipped, append-nil) one
  one_reset_more (number name n) one f = rw (flat_map_last reset_of before (number name n), append-nil) one
  one_reset_more (reset state) one (going, no_term, no_reset) = rw (flat_map_last reset_of before (reset state), no_reset) (omega arith)
  one_reset_more (term t) one f = rw (flat_map_last reset_of before (term t), append-nil) one
  one_reset_more end one f = rw (flat_map_last reset_of before end, append-nil) one
  one_reset_more bad one f = absurd f

  one_number_more : (name : Field) (s : Says) → length (numbers_in name before) ≤ 1 → Follows before s → length (numbers_in name (before ++ (s ∷ []))) ≤ 1
  one_number_more name skipped one f = rw (flat_map_last (number_of name) before skipped, append-nil) one
  one_number_more name (number other n) one (going, no_term, none_yet) =
      elim (outcome (same name other)) [
        | inl is ↦
            let no_number : numbers_in name before ≡ [] = rw (same_true name other is) none_yet in
            rw (flat_map_last (number_of name) before (number other n), is, no_number) (omega arith)
        | inr not_is ↦ rw (flat_map_last (number_of name) before (number other n), not_is, append-nil) one
      ]
  one_number_more name (reset state) one f = rw (flat_map_last (number_of name) before (reset state), append-nil) one
  one_number_more name (term t) one f = rw (flat_map_last (number_of name) before (term t), append-nil) one
  one_number_more name end one f = rw (flat_map_last (number_of name) before end, append-nil) one
  one_number_more name bad one f = absurd f

number_in : (name : Field) (s : Says) (n : ℕ) → n ∈ number_of name s → s ≡ number name n
number_in name skipped n m = absurd (Memᴰ.not-nil m)
number_in name (number other x) n m =
    elim (outcome (same name other)) [
      | inl is ↦
          let one : n ≡ x = Memᴰ.eq_of_singleton (rw is at m) in
          let named = same_true name other is in
          cc
      | inr not_is ↦ absurd (Memᴰ.not-nil (rw not_is at m))
    ]
number_in name (reset state) n m = absurd (Memᴰ.not-nil m)
number_in name (term t) n m = absurd (Memᴰ.not-nil m)
number_in name end n m = absurd (Memᴰ.not-nil m)
number_in name bad n m = absurd (Memᴰ.not-nil m)

-- a number that was said stays said
number_stays : (name : Field) (before : List Says) (s : Says) {n : ℕ} → n ∈ numbers_in name before → n ∈ numbers_in name (before ++ (s ∷ []))
number_stays name before s m = rw (flat_map_last (number_of name) before s) (Memᴰ.append_left (number_of name s) m)

-- a term of the lines, or of one line more
term_more : (before : List Says) (s : Says) {t : Term} → t ∈ terms_in (before ++ (s ∷ [])) → (t ∈ terms_in before) ⊎ (s ≡ term t)
term_more before s {t} m =
    elim (Memᴰ.append_cases (terms_in before) (rw (flat_map_last term_of before s) at m)) [ inl old ↦ inl old | inr new ↦ inr (term_in s t new) ]

read_more : (before : List Says) (s : Says) → Read before → Sayable s → Follows before s → ¬ Contradicts before s → Read (before ++ (s ∷ []))
read_more before s r sayable follows agrees =
    record {
      few = few_more before s r.few follows;
      one_reset = one_reset_more before s r.one_reset follows;
      one_number = λ name. one_number_more before name s (r.one_number name) follows;
      in_range = λ name n m.
          elim (Memᴰ.append_cases (numbers_in name before) (rw (flat_map_last (number_of name) before s) at m)) [
            | inl old ↦ r.in_range name n old
            | inr new ↦ rw (number_in name s n new) at sayable
          ];
      inputs = λ t m.
          number_stays (text ".i") before s
          (elim (term_more before s m) [ inl old ↦ r.inputs t old | inr is ↦ (follow t is).inputs ]);
      outputs = λ t m.
          number_stays (text ".o") before s
          (elim (term_more before s m) [ inl old ↦ r.outputs t old | inr is ↦ (follow t is).outputs ]);
      terms = λ t m. elim (term_more before s m) [ inl old ↦ r.terms t old | inr is ↦ rw is at sayable ];
      alike =
          rw (flat_map_last term_of before s)
          (append_rising _ (terms_in before) (term_of s) r.alike (alone s) (λ e t in_e in_t d. agrees (t, e, term_in s t in_t, in_e, d)));
    }
  where
    follow : (t : Term) → s ≡ term t → TermFollows before t
    follow t is = rw is at follows

    alone : (s : Says) → Rising (λ e t. ¬ Differ t e) (term_of s)
    alone skipped = tt
    alone (number name n) = tt
    alone (reset state) = tt
    alone (term t) = (λ e m. absurd (Memᴰ.not-nil m), tt)
    alone end = tt
    alone bad = tt

pub lines_read : (n : ℕ) (lines : List (List ℕ)) (said : List Says) → read_lines n [] lines ≡ fine said → Read said
unfolding flat_map
lines_read n lines said e =
    kept Read read_more n [] lines said e
    (record {
      few = omega arith;
      one_reset = omega arith;
      one_number = λ name. omega arith;
      in_range = λ name n m. absurd (Memᴰ.not-nil m);
      inputs = λ t m. absurd (Memᴰ.not-nil m);
      outputs = λ t m. absurd (Memᴰ.not-nil m);
      terms = λ t m. absurd (Memᴰ.not-nil m);
      alike = tt;
    })

-- something of the line at place i: of what the lines before it say and of what it says
abbrev pub AtLine : (List Says → Says → Type 0) → List (List ℕ) → ℕ → Type 0
AtLine P lines i = (line : List ℕ) × At lines i line × P (map line_says (take i lines)) (line_says line)

-- it may not follow the lines before it
abbrev pub Misplaced : List Says → Says → Type 0
Misplaced before s = ¬ Follows before s

-- the lines before place i may follow one another, and no term of theirs differs from an earlier one
abbrev pub GoodUpTo : List (List ℕ) → ℕ → Type 0
GoodUpTo lines i = (j : ℕ) → j < i → ¬ AtLine Misplaced lines j × ¬ AtLine Contradicts lines j

-- the same of lines behind others
abbrev Behind : (List Says → Says → Type 0) → List Says → List (List ℕ) → ℕ → Type 0
Behind P before lines i = (line : List ℕ) × At lines i line × P (before ++ map line_says (take i lines)) (line_says line)

abbrev GoodBehind : List Says → List (List ℕ) → ℕ → Type 0
GoodBehind before lines i = (j : ℕ) → j < i → ¬ Behind Misplaced before lines j × ¬ Behind Contradicts before lines j

module _ (P : List Says → Says → Type 0) (before : List Says) (line : List ℕ) (lines : List (List ℕ)) where
  behind_here : P before (line_says line) ↔ Behind P before (line ∷ lines) 0
  behind_here = (
    λ p. (line, refl, rw (append-nil before) p),
    λ (l, at, p). let is : line ≡ l = some_injective at in rw (append-nil before, ← is) at p,
  )

  behind_later : (i : ℕ) → Behind P (before ++ (line_says line ∷ [])) lines i ↔ Behind P before (line ∷ lines) (suc i)
  behind_later i = (
    λ (l, at, p). (l, at, rw (append_snoc before (line_says line) (map line_says (take i lines))) at p),
    λ (l, at, p). (l, at, rw (append_snoc before (line_says line) (map line_says (take i lines))) p),
  )

-- How reading the lines goes from line n on: all are good, or there is a first one that is not.
abbrev LinesGive : ℕ → List Says → List (List ℕ) → Outcome (List Says) → Type 0
LinesGive n before lines o =
    Settles (λ said. (said ≡ before ++ map line_says lines) × GoodBehind before lines (length lines))
    (λ r. (i : ℕ) × GoodBehind before lines i
    × ((Behind Misplaced before lines i × (r ≡ BadLine (n + i)))
    ⊎ (¬ Behind Misplaced before lines i × Behind Contradicts before lines i × (r ≡ Contradiction (n + i))))) o

module _ (n : ℕ) (before : List Says) (line : List ℕ) (lines : List (List ℕ)) where
  abbrev onward : List Says
  onward = before ++ (line_says line ∷ [])

  module _ (here : ¬ Behind Misplaced before (line ∷ lines) 0 × ¬ Behind Contradicts before (line ∷ lines) 0) where
    good_later : (i : ℕ) → GoodBehind onward lines i → GoodBehind before (line ∷ lines) (suc i)
    good_later i good zero h = here
    good_later i good (suc j) h =
        let (placed, agrees) = good j (omega arith) in
        (λ b. placed ((behind_later Misplaced before line lines j).1 b), λ c. agrees ((behind_later Contradicts before line lines j).1 c))

    give_later : (o : Outcome (List Says)) → LinesGive (suc n) onward lines o → LinesGive n before (line ∷ lines) o
    give_later (fine said) (is, good) = (is ∙ append_snoc before (line_says line) (map line_says lines), good_later (length lines) good)
    give_later (refuse r) (i, good, inl (b, is)) =
        let count : suc n + i ≡ n + suc i = omega arith in
        (suc i, good_later i good, inl ((behind_later Misplaced before line lines i).0 b, is ∙ ap BadLine count))
    give_later (refuse r) (i, good, inr (placed, c, is)) =
        let count : suc n + i ≡ n + suc i = omega arith in (
          suc i,
          good_later i good,
          inr (λ b. placed ((behind_later Misplaced before line lines i).1 b), (behind_later Contradicts before line lines i).0 c, is ∙ ap Contradiction count),
        )

lines_give : (n : ℕ) (before : List Says) (lines : List (List ℕ)) → LinesGive n before lines (read_lines n before lines)
unfolding read_lines
lines_give n before [] = (sym (append-nil before), λ j h. absurd (omega arith))
lines_give n before (line ∷ lines) =
    let s = line_says line in
    let bad_is = behind_here Misplaced before line lines in
    let against_is = behind_here Contradicts before line lines in
    elim (outcome (may_follow before s)) [
      | inr bad_line ↦
          rw bad_line (0, λ j h. absurd (omega arith), inl (bad_is.0 ((may_not_follow before s).0 bad_line), ap BadLine (sym (add-zero n))))
      | inl follows ↦
          let placed : ¬ Behind Misplaced before (line ∷ lines) 0 = λ b. bad_is.1 b ((may_follow_lem before s).0 follows) in
          elim (outcome (contradicts before s)) [
            | inl against ↦
                rw (follows, against)
                (0, λ j h. absurd (omega arith), inr (placed, against_is.0 ((contradicts_is before s).0 against), ap Contradiction (sym (add-zero n))))
            | inr agrees ↦
                rw (follows, agrees)
                (give_later n before line lines (placed, λ c. (contradicts_none before s).0 agrees (against_is.1 c))
                (read_lines (suc n) (before ++ (s ∷ [])) lines) (lines_give (suc n) (before ++ (s ∷ [])) lines))
          ]
    ]

-- what all lines of a text say
abbrev pub said_in : List ℕ → List Says
said_in bytes = map line_says (lines_of bytes)

abbrev pub GoodLines : List ℕ → Type 0
GoodLines bytes = GoodUpTo (lines_of bytes) (length (lines_of bytes))

-- Rules 9 and 10: nothing is lacking at the end. (`.i` and `.o` stand before any term.)
pub record Whole (said : List Says) : Type 0 where
  pub end-said : end ∈ said
  pub some_term : (t : Term) × (t ∈ terms_in said)
  pub all_terms : (n : ℕ) → n ∈ numbers_in (text ".p") said → length (terms_in said) ≡ n
  pub all_states : (n : ℕ) → n ∈ numbers_in (text ".s") said → length (names_in said) ≡ n

some_is : {A : Type 0} (l : List A) → (not (is_empty l) ≡ true) ↔ ((x : A) × (x ∈ l))
some_is [] = (λ e. absurd (false≢true e), λ (x, m). absurd (Memᴰ.not-nil m))
some_is (x ∷ l) = (λ e. (x, Memᴰ.head refl), λ m. refl)

equals_all : (x : ℕ) (l : List ℕ) → (all (eqb x) l ≡ true) ↔ ((n : ℕ) → n ∈ l → x ≡ n)
equals_all x l = (
  λ e n m. eqb-true x n (all_true (eqb x) e m),
  λ h. all_of (eqb x) l (λ n m. eq-eqb x n (h n m)),
)

pub whole_is : (said : List Says) → (is_whole said ≡ true) ↔ Whole said
unfolding is_whole
whole_is said = (
  λ e.
      let terms = all (eqb (length (terms_in said))) (numbers_in (text ".p") said) in
      let (front, states) = both {a = ended said && not (is_empty (terms_in said)) && terms} e in
      let (front', counted) = both {a = ended said && not (is_empty (terms_in said))} front in
      let (over, some_term) = both {a = ended said} front' in
      record {
        end-said = (ended_in said).0 over;
        some_term = (some_is (terms_in said)).0 some_term;
        all_terms = (equals_all (length (terms_in said)) _).0 counted;
        all_states = (equals_all (length (names_in said)) _).0 states;
      },
  λ w.
      rw ((ended_in said).1 w.end-said, (some_is (terms_in said)).1 w.some_term, (equals_all _ _).1 w.all_terms)
      ((equals_all (length (names_in said)) (numbers_in (text ".s") said)).1 w.all_states),
)

-- the pairs of a number below n and one below k: by the first, then by the second
in_grid : (n k q i : ℕ) → q < n → i < k → (q, i) ∈ grid n k
in_grid n k q i state input =
    in_flat_map _ (in_numbers 0 n q (omega arith) (omega arith)) (Memᴰ.map (λ i. (q, i)) (in_numbers 0 k i (omega arith) (omega arith)))

of_grid : (n k : ℕ) {a : ℕ × ℕ} → a ∈ grid n k → (a.0 < n) × (a.1 < k)
of_grid n k m =
    let (q, in_q, in_i) = of_flat_map _ (numbers n) m in
    let (i, m', e) = Memᴰ.of_map (λ i. (q, i)) (numbers k) in_i in
    rw (← e) (omega (arith, (of_numbers 0 n in_q).1), omega (arith, (of_numbers 0 k m').1))

grid_rising : (n k : ℕ) → Rising LowerPair (grid n k)
grid_rising n k =
    flat_map_rising ◌<◌ LowerPair _
    (λ q. map_rising ◌<◌ LowerPair (λ i. (q, i)) (λ i j h. inr (refl, h)) (numbers k) (numbers_rising 0 k))
    (λ q r h a b in_a in_b.
    let (i, m, e) = Memᴰ.of_map (λ i. (q, i)) (numbers k) in_a in
    let (j, m', e') = Memᴰ.of_map (λ i. (r, i)) (numbers k) in_b in
    rw (← e, ← e') (inl h))
    (numbers n) (numbers_rising 0 n)

module _ (said : List Says) where
  -- the name of the state q
  abbrev pub name_of : ℕ → Field
  name_of q = get_or (state_names said) q []

  -- some term is about the state q and the input i
  abbrev pub Spoken : ℕ → ℕ → Type 0
  Spoken q i = (t : Term) × (t ∈ terms_in said) × About (name_of q) i t

  abbrev pub AllSpoken : Type 0
  AllSpoken = (q i : ℕ) → q < length (state_names said) → i < inputs_in said → Spoken q i

  -- the lowest state, and of its inputs the lowest, that no term is about
  pub record LowestSilent (q i : ℕ) : Type 0 where
    pub state : q < length (state_names said)
    pub input : i < inputs_in said
    pub silent : ¬ Spoken q i
    pub lower_state : (p j : ℕ) → p < q → j < inputs_in said → Spoken p j
    pub lower_input : (j : ℕ) → j < i → Spoken q j

  silent_is : (q i : ℕ) → (is_silent (term_for said (name_of q) i) ≡ true) ↔ ¬ Spoken q i
  silent_is q i = (
    λ e (t, m, about).
        elim (optional (term_for said (name_of q) i)) [
          | inl nothing ↦ clash ((about_is (name_of q) i t).1 about) (first-none _ nothing m)
          | inr (x, found) ↦ false≢true (rw found at e)
        ],
    λ none_about.
        elim (optional (term_for said (name_of q) i)) [
          | inl nothing ↦ rw nothing
          | inr (x, found) ↦ let (m, is) = first_some _ (terms_in said) found in absurd (none_about (x, m, (about_is (name_of q) i x).0 is))
        ],
  )

  spoken_is : (q i : ℕ) → (is_silent (term_for said (name_of q) i) ≡ false) ↔ Spoken q i
  spoken_is q i = (
    λ e.
        elim (optional (term_for said (name_of q) i)) [
          | inl nothing ↦ absurd (false≢true (sym (rw nothing at e)))
          | inr (x, found) ↦ let (m, is) = first_some _ (terms_in said) found in (x, m, (about_is (name_of q) i x).0 is)
        ],
    λ spoken. elim (outcome (is_silent (term_for said (name_of q) i))) [ inl e ↦ absurd ((silent_is q i).0 e spoken) | inr e ↦ e ],
  )

  abbrev silent_at : ℕ × ℕ → Bool
  silent_at (q, i) = is_silent (term_for said (get_or (state_names said) q []) i)

  pub none-silent : silent said ≡ none → AllSpoken
  unfolding silent
  none-silent e q i state input = (spoken_is q i).0 (first-none silent_at e (in_grid (length (state_names said)) (inputs_in said) q i state input))

  pub spoken_none : AllSpoken → silent said ≡ none
  unfolding silent
  spoken_none h =
      none_first silent_at (grid (length (state_names said)) (inputs_in said))
      (λ (q, i) m. let (state, input) = of_grid (length (state_names said)) (inputs_in said) m in (spoken_is q i).1 (h q i state input))

  pub some-silent : {q i : ℕ} → silent said ≡ some (q, i) → LowestSilent q i
  unfolding silent
  some-silent {q} {i} e =
      let n = length (state_names said) in
      let k = inputs_in said in
      let least = first_least LowerPair lower_one_way silent_at (grid n k) (grid_rising n k) e in
      let (state, input) = of_grid n k least.found in
      record {
        state = state;
        input = input;
        silent = (silent_is q i).0 least.passes;
        lower_state = λ p j less h. (spoken_is p j).0 (least.earlier (p, j) (in_grid n k p j (omega arith) h) (inl less));
        lower_input = λ j less. (spoken_is q j).0 (least.earlier (q, j) (in_grid n k q j state (omega arith)) (inr (refl, less)));
      }

  pub silent-some : (q i : ℕ) → LowestSilent q i → silent said ≡ some (q, i)
  unfolding silent
  silent-some q i low =
      let n = length (state_names said) in
      let k = inputs_in said in
      least_first LowerPair lower_one_way silent_at (grid n k) (grid_rising n k)
      (record {
        found = in_grid n k q i low.state low.input;
        passes = (silent_is q i).1 low.silent;
        earlier = λ (p, j) m l.
            let (state, input) = of_grid n k m in
            elim l [
              | inl first ↦ (spoken_is p j).1 (low.lower_state p j first input)
              | inr (e, second) ↦ (spoken_is p j).1 (rw e (low.lower_input j second))
            ];
      })

-- a text that is imported, but for the room that its unit needs
pub record GoodText (bytes : List ℕ) : Type 0 where
  pub short : length bytes ≤ most_text_bytes
  pub lines : GoodLines bytes
  pub whole : Whole (said_in bytes)
  pub complete : AllSpoken (said_in bytes)

-- The order: 1; 19 and 20 as met by line, 19 first on one line; 19 behind the last line; 21; 17. Lines have numbers from 1.
pub data ImportRefuses (bytes out : List ℕ) (r : Refusal) : Type 0 where
  one : most_text_bytes < length bytes → r ≡ Malformed TooLong Text 0 → ImportRefuses bytes out r
  nineteen : length bytes ≤ most_text_bytes → (i : ℕ) → GoodUpTo (lines_of bytes) i → AtLine Misplaced (lines_of bytes) i → r ≡ BadLine (suc i)
      → ImportRefuses bytes out r
  twenty : length bytes ≤ most_text_bytes → (i : ℕ) → GoodUpTo (lines_of bytes) i → ¬ AtLine Misplaced (lines_of bytes) i → AtLine Contradicts (lines_of bytes) i
      → r ≡ Contradiction (suc i) → ImportRefuses bytes out r
  lacking : length bytes ≤ most_text_bytes → GoodLines bytes → ¬ Whole (said_in bytes) → r ≡ BadLine (suc (length (lines_of bytes))) → ImportRefuses bytes out r
  twenty_one : length bytes ≤ most_text_bytes → GoodLines bytes → Whole (said_in bytes) → (q i : ℕ) → LowestSilent (said_in bytes) q i
      → r ≡ Incomplete (unit_state q) (input_of i) → ImportRefuses bytes out r
  no_room : GoodText bytes → length out < length (unit_bytes (unit_said (said_in bytes))) → r ≡ NoRoom (length (unit_bytes (unit_said (said_in bytes))))
      → ImportRefuses bytes out r

-- what the import writes
pub record Imports (bytes out : List ℕ) : Type 0 where
  pub good : GoodText bytes
  pub fits : length (unit_bytes (unit_said (said_in bytes))) ≤ length out

module _ (bytes : List ℕ) where
  abbrev lines : List (List ℕ)
  lines = lines_of bytes

  -- the line at place i is not good
  abbrev Wrong : ℕ → Type 0
  Wrong i = AtLine Misplaced lines i ⊎ AtLine Contradicts lines i

  wrong_inside : (i : ℕ) → Wrong i → i < length lines
  wrong_inside i (inl (line, at, p)) = at_below lines i at
  wrong_inside i (inr (line, at, p)) = at_below lines i at

  wrong_not_good : (i j : ℕ) → Wrong i → GoodUpTo lines j → ¬ (i < j)
  wrong_not_good i j (inl b) good less = (good i less).0 b
  wrong_not_good i j (inr c) good less = (good i less).1 c

  -- the refusal of that line
  abbrev RefusesLine : ℕ → Refusal → Type 0
  RefusesLine i r =
      (AtLine Misplaced lines i × (r ≡ BadLine (suc i))) ⊎ (¬ AtLine Misplaced lines i × AtLine Contradicts lines i × (r ≡ Contradiction (suc i)))

  abbrev TextGives : Outcome (List Says) → Type 0
  TextGives o = Settles (λ said. (said ≡ said_in bytes) × GoodLines bytes) (λ r. (i : ℕ) × GoodUpTo lines i × RefusesLine i r) o

  text_gives : TextGives (read_lines 1 [] lines)
  text_gives = go (read_lines 1 [] lines) (lines_give 1 [] lines)
    where
      go : (o : Outcome (List Says)) → LinesGive 1 [] lines o → TextGives o
      go (fine said) h = h
      go (refuse r) (i, good, inl (b, is)) = let count : 1 + i ≡ suc i = omega arith in (i, good, inl (b, is ∙ ap BadLine count))
      go (refuse r) (i, good, inr (placed, c, is)) = let count : 1 + i ≡ suc i = omega arith in (i, good, inr (placed, c, is ∙ ap Contradiction count))

  refuses_wrong : (i : ℕ) (r : Refusal) → RefusesLine i r → Wrong i
  refuses_wrong i r (inl (b, is)) = inl b
  refuses_wrong i r (inr (placed, c, is)) = inr c

  -- Good lines are all read,
  pub good_read : GoodLines bytes → read_lines 1 [] lines ≡ fine (said_in bytes)
  good_read good =
      elim (settled (read_lines 1 [] lines)) [
        | inl (said, e) ↦ let (is, up_to_lem) = rw e at text_gives in rw (e, is)
        | inr (r, e) ↦
            let (i, up_to_lem, why) = rw e at text_gives in
            absurd (wrong_not_good i (length lines) (refuses_wrong i r why) good (wrong_inside i (refuses_wrong i r why)))
      ]

  -- and the first that is not good is refused.
  wrong_read : (i : ℕ) → GoodUpTo lines i → Wrong i → (r : Refusal) × (read_lines 1 [] lines ≡ refuse r) × RefusesLine i r
  wrong_read i good wrong =
      elim (settled (read_lines 1 [] lines)) [
        | inl (said, e) ↦
            let (is, up_to_lem) = rw e at text_gives in
            absurd (wrong_not_good i (length lines) wrong up_to_lem (wrong_inside i wrong))
        | inr (r, e) ↦
            let (j, up_to_lem, why) = rw e at text_gives in
            let not_later : ¬ (i < j) = wrong_not_good i j wrong up_to_lem in
            let not_sooner : ¬ (j < i) = wrong_not_good j i (refuses_wrong j r why) good in
            let same : j ≡ i = omega arith in
            (r, e, rw same at why)
      ]

  module _ (out : List ℕ) where
    pub import_gives : Settles (λ w. Imports bytes out × (w ≡ unit_bytes (unit_said (said_in bytes)))) (ImportRefuses bytes out) (read_kiss2 bytes out)
    unfolding read_kiss2
    import_gives =
        elim (outcome (leb (length bytes) most_text_bytes)) [
          | inr over ↦ rw over (one (leb-false _ _ over) refl)
          | inl small ↦
              let short = leb-true _ _ small in
              rw small
              (elim (settled (read_lines 1 [] lines)) [
                | inr (r, e) ↦
                    let (i, good, why) = rw e at text_gives in
                    rw e (elim why [ inl (b, is) ↦ nineteen short i good b is | inr (placed, c, is) ↦ twenty short i good placed c is ])
                | inl (said, e) ↦
                    let (is, good) = rw e at text_gives in
                    rw (e, is)
                    (elim (outcome (is_whole (said_in bytes))) [
                      | inr lacks ↦ rw lacks (lacking short good (λ w. clash ((whole_is (said_in bytes)).1 w) lacks) refl)
                      | inl All-there ↦
                          let whole = (whole_is (said_in bytes)).0 All-there in
                          rw All-there
                          (elim (optional (silent (said_in bytes))) [
                            | inr ((q, i), found) ↦ rw found (twenty_one short good whole q i (some-silent (said_in bytes) found) refl)
                            | inl nothing ↦
                                let complete = none-silent (said_in bytes) nothing in
                                let text_good : GoodText bytes = record { short = short; lines = good; whole = whole; complete = complete } in
                                rw nothing
                                (elim (outcome (leb (length (unit_bytes (unit_said (said_in bytes)))) (length out))) [
                                  | inr tight ↦ rw tight (no_room text_good (leb-false _ _ tight) refl)
                                  | inl fits ↦ rw fits (record { good = text_good; fits = leb-true _ _ fits }, refl)
                                ])
                          ])
                    ])
              ])
        ]

    gives_import : (r : Refusal) → ImportRefuses bytes out r → read_kiss2 bytes out ≡ refuse r
    unfolding read_kiss2
    gives_import r (one over is) = rw (lt-leb _ _ over, is)
    gives_import r (nineteen short i good b is) =
        let (s, e, why) = wrong_read i good (inl b) in
        elim why [ inl (b', is') ↦ rw (le-leb _ _ short, e, is', is) | inr (placed, c, is') ↦ absurd (placed b) ]
    gives_import r (twenty short i good placed c is) =
        let (s, e, why) = wrong_read i good (inr c) in
        elim why [ inl (b, is') ↦ absurd (placed b) | inr (placed', c', is') ↦ rw (le-leb _ _ short, e, is', is) ]
    gives_import r (lacking short good lacks is) =
        elim (outcome (is_whole (said_in bytes))) [
          | inl whole ↦ absurd (lacks ((whole_is (said_in bytes)).0 whole))
          | inr e ↦ rw (le-leb _ _ short, good_read good, e, is)
        ]
    gives_import r (twenty_one short good whole q i low is) =
        rw (le-leb _ _ short, good_read good, (whole_is (said_in bytes)).1 whole, silent-some (said_in bytes) q i low, is)
    gives_import r (no_room g tight is) =
        rw (le-leb _ _ g.short, good_read g.lines, (whole_is (said_in bytes)).1 g.whole, spoken_none (said_in bytes) g.complete, lt-leb _ _ tight, is)

    -- Each refusal of the import is given exactly when its sentence holds and nothing earlier does,
    pub import_refuses : (r : Refusal) → (read_kiss2 bytes out ≡ refuse r) ↔ ImportRefuses bytes out r
    import_refuses r = (λ e. rw e at import_gives, gives_import r)

    -- and a unit is written exactly when none of them holds.
    pub import_fine : (w : List ℕ) → (read_kiss2 bytes out ≡ fine w) ↔ (Imports bytes out × (w ≡ unit_bytes (unit_said (said_in bytes))))
    unfolding read_kiss2
    import_fine w = (
      λ e. rw e at import_gives,
      λ (x, is).
          let g = x.good in
          rw (le-leb _ _ g.short, good_read g.lines, (whole_is (said_in bytes)).1 g.whole, spoken_none (said_in bytes) g.complete, le-leb _ _ x.fits, is),
    )

-- when each answer of the import is given
abbrev pub ImportGives : List ℕ → List ℕ → Imported → Type 0
ImportGives bytes out (Written n) = Imports bytes out × (n ≡ length (unit_bytes (unit_said (said_in bytes))))
ImportGives bytes out (Refused r) = ImportRefuses bytes out r

pub import_exactly : (bytes out : List ℕ) (r : Imported) → (read_kiss2_answer bytes out ≡ r) ↔ ImportGives bytes out r
import_exactly bytes out r = (λ e. rw e at gives, given r)
  where
    gives : ImportGives bytes out (read_kiss2_answer bytes out)
    gives =
        elim (settled (read_kiss2 bytes out)) [
          | inr (r, e) ↦ rw e ((import_refuses bytes out r).0 e)
          | inl (w, e) ↦ let (x, is) = rw e at (import_gives bytes out) in rw e (x, ap (λ (l : List ℕ). length l) is)
        ]

    given : (r : Imported) → ImportGives bytes out r → read_kiss2_answer bytes out ≡ r
    given (Written n) (x, count) = rw ((import_fine bytes out (unit_bytes (unit_said (said_in bytes)))).1 (x, refl), count)
    given (Refused r) h = rw ((import_refuses bytes out r).1 h)
