-- Document 01, refusals 7 to 10: what each one says of a dossier that is well formed, and that it is given exactly when that
-- holds and nothing earlier does.
use Prim.Native.Nat.{ℕ, suc, ◌-◌, ◌≤◌, ◌<◌}
use Rattle.std.proofs.Common.{arith, eqb-true, eq-eqb, ne_eqb, ltb-true, ltb-false, lt-ltb}
use Rattle.std.specs.Prelude.{◌≡◌, refl, ◌↔◌, ◌≢◌, ◌⊎◌, Bool, true, false, not, ltb, eqb, length}
use Rattle.std.proofs.Math.Logic.{inl, inr}
use mathlib.Core.List.Memᴰ
use mathlib.Core.List.{List, [], ◌∷◌}
use Rattle.std.proofs.Math.Option.{none, some}
use Rattle.std.proofs.lemmas.Bool.{eqb-false, not-true, not-false}
use Rattle.rules.specs.declared.File.TheVariants.{Dossier}
use Rattle.rules.specs.declared.Refusal.{Refusal}
use Rattle.rules.specs.declared.Refusal.TheVariants.{NoEmptyWord, Unreached, NoSeparator, NotSeparated}
use Rattle.rules.specs.Lists.{◌∈◌, numbers, numbers_from, any, all, first}
use Rattle.rules.specs.Words.{Word, same, is_in}
use Rattle.rules.specs.Machines.{after, answer_from}
use Rattle.rules.specs.Files.{DossierData, golden}
use Rattle.rules.specs.Needed.{unreached, pairs, unseparated}
use Rattle.rules.specs.Answers.{golden_state}
use Rattle.rules.specs.Operations.{fine, refuse, sound}
use Rattle.theory.specs.Lists.{outcome, optional, clash, any-true, any_of, any_false, none_any, all_true, all_of, all-false, first-none, none_first, Rising, OneWay, first_least, least_first, in_numbers, of_numbers, numbers_rising, map_rising, flat_map_rising, in_flat_map, of_flat_map}
use Rattle.theory.specs.Outcomes.{Settles}
use Rattle.theory.specs.Words.{same_true, same_refl, same_false, in_is_in, is_in_in}

-- a pair before another: by the first number, then by the second
abbrev pub LowerPair : ℕ × ℕ → ℕ × ℕ → Type 0
LowerPair a b = (a.0 < b.0) ⊎ ((a.0 ≡ b.0) × (a.1 < b.1))

pub lower_one_way : OneWay LowerPair
lower_one_way a b (inl h) (inl h') = omega arith
lower_one_way a b (inl h) (inr (e, h')) = omega arith
lower_one_way a b (inr (e, h)) (inl h') = omega arith
lower_one_way a b (inr (e, h)) (inr (e', h')) = omega arith

pub in_pairs : (n p q : ℕ) → p < q → q < n → (p, q) ∈ pairs n
unfolding pairs
in_pairs n p q less h =
    in_flat_map _ (in_numbers 0 n p (omega arith) (omega arith)) (Memᴰ.map (λ q. (p, q)) (in_numbers (suc p) (n - suc p) q less (omega arith)))

pub of_pairs : (n : ℕ) {a : ℕ × ℕ} → a ∈ pairs n → (a.0 < a.1) × (a.1 < n)
unfolding pairs
of_pairs n m =
    let (p, in_p, in_q) = of_flat_map _ (numbers n) m in
    let (q, m', e) = Memᴰ.of_map (λ q. (p, q)) (numbers_from (suc p) (n - suc p)) in_q in
    let (low, high) = of_numbers (suc p) (n - suc p) m' in
    rw (← e) (low, omega arith)

pub pairs_rising : (n : ℕ) → Rising LowerPair (pairs n)
unfolding pairs
pairs_rising n =
    flat_map_rising ◌<◌ LowerPair _
    (λ p. map_rising ◌<◌ LowerPair (λ q. (p, q)) (λ q r h. inr (refl, h)) (numbers_from (suc p) (n - suc p)) (numbers_rising (suc p) (n - suc p)))
    (λ p r h a b in_a in_b.
    let (q, m, e) = Memᴰ.of_map (λ q. (p, q)) (numbers_from (suc p) (n - suc p)) in_a in
    let (q', m', e') = Memᴰ.of_map (λ q. (r, q)) (numbers_from (suc r) (n - suc r)) in_b in
    rw (← e, ← e') (inl h))
    (numbers n) (numbers_rising 0 n)

-- a list with an element has a length
in_longer : {A : Type 0} {x : A} {l : List A} → x ∈ l → 0 < length l
in_longer (Memᴰ.head e) = omega arith
in_longer (Memᴰ.tail m) = omega arith

module _ (d : DossierData) where
  abbrev pub HasEmptyWord : Type 0
  HasEmptyWord = [] ∈ d.cover

  -- a cover word reaches the golden state q from 0
  abbrev pub Reached : ℕ → Type 0
  Reached q = (c : Word) × (c ∈ d.cover) × (after (golden d) 0 c ≡ q)

  abbrev pub AllReached : Type 0
  AllReached = (q : ℕ) → q < d.states → Reached q

  abbrev pub HasSeparator : Type 0
  HasSeparator = (s : Word) × (s ∈ d.separating)

  -- the golden states p and q give different answers to a separating word
  abbrev pub Told : ℕ → ℕ → Type 0
  Told p q = (s : Word) × (s ∈ d.separating) × (answer_from (golden d) p s ≢ answer_from (golden d) q s)

  -- they answer all of them alike
  abbrev pub Alike : ℕ → ℕ → Type 0
  Alike p q = (s : Word) → s ∈ d.separating → answer_from (golden d) p s ≡ answer_from (golden d) q s

  abbrev pub AllTold : Type 0
  AllTold = (p q : ℕ) → p < q → q < d.states → Told p q

  -- q is a state that no cover word reaches, the lowest
  pub record LowestUnreached (q : ℕ) : Type 0 where
    pub state : q < d.states
    pub unreached : (c : Word) → c ∈ d.cover → after (golden d) 0 c ≢ q
    pub lower : (p : ℕ) → p < q → Reached p

  -- p and q are two states that answer all separating words alike: the lowest first state, then the lowest second
  pub record LowestAlike (p q : ℕ) : Type 0 where
    pub two : p < q
    pub state : q < d.states
    pub alike : Alike p q
    pub lower_first : (p' q' : ℕ) → p' < p → p' < q' → q' < d.states → Told p' q'
    pub lower_second : (q' : ℕ) → p < q' → q' < q → Told p q'

  -- none of 7 to 10 holds
  pub record Sound : Type 0 where
    pub empty_word : HasEmptyWord
    pub reached : AllReached
    pub separator : HasSeparator
    pub told : AllTold

  -- each of 7 to 10 with its sentence, and nothing earlier
  pub data SoundRefuses (r : Refusal) : Type 0 where
    seven : ¬ HasEmptyWord → r ≡ NoEmptyWord → SoundRefuses r
    eight : HasEmptyWord → (q : ℕ) → LowestUnreached q → r ≡ Unreached Dossier (golden_state q) → SoundRefuses r
    nine : HasEmptyWord → AllReached → d.separating ≡ [] → r ≡ NoSeparator → SoundRefuses r
    ten : HasEmptyWord → AllReached → HasSeparator → (p q : ℕ) → LowestAlike p q → r ≡ NotSeparated (golden_state p) (golden_state q) → SoundRefuses r

  -- the test that finds an unreached state
  abbrev lacks : ℕ → Bool
  lacks q = not (any (λ c. eqb (after (golden d) 0 c) q) d.cover)

  lacks-false : (q : ℕ) → lacks q ≡ false → Reached q
  lacks-false q e = let (c, m, h) = any-true _ d.cover (not-false _ e) in (c, m, eqb-true _ q h)

  lacks-true : (q : ℕ) → lacks q ≡ true → (c : Word) → c ∈ d.cover → after (golden d) 0 c ≢ q
  lacks-true q e c m = eqb-false _ q (any_false (λ c. eqb (after (golden d) 0 c) q) (not-true _ e) m)

  reached_lacks : (q : ℕ) → Reached q → lacks q ≡ false
  reached_lacks q (c, m, e) = rw (any_of (λ c. eqb (after (golden d) 0 c) q) m (eq-eqb _ q e))

  unreached_lacks : (q : ℕ) → ((c : Word) → c ∈ d.cover → after (golden d) 0 c ≢ q) → lacks q ≡ true
  unreached_lacks q h = rw (none_any (λ c. eqb (after (golden d) 0 c) q) d.cover (λ c m. ne_eqb _ q (h c m)))

  rising : Rising ◌<◌ (numbers d.states)
  rising = numbers_rising 0 d.states

  one_way : OneWay ◌<◌
  one_way p q a b = omega arith

  none-unreached : unreached d ≡ none → AllReached
  unfolding unreached
  none-unreached e q h = lacks-false q (first-none lacks e (in_numbers 0 d.states q (omega arith) (omega arith)))

  reached_none : AllReached → unreached d ≡ none
  unfolding unreached
  reached_none h = none_first lacks (numbers d.states) (λ q m. reached_lacks q (h q (omega (arith, (of_numbers 0 d.states m).1))))

  some-unreached : {q : ℕ} → unreached d ≡ some q → LowestUnreached q
  unfolding unreached
  some-unreached {q} e =
      let least = first_least ◌<◌ one_way lacks (numbers d.states) rising e in
      let (low, high) = of_numbers 0 d.states least.found in
      record {
        state = omega arith;
        unreached = lacks-true q least.passes;
        lower = λ p h. lacks-false p (least.earlier p (in_numbers 0 d.states p (omega arith) (omega arith)) h);
      }

  unreached-some : (q : ℕ) → LowestUnreached q → unreached d ≡ some q
  unfolding unreached
  unreached-some q low =
      least_first ◌<◌ one_way lacks (numbers d.states) rising
      (record {
        found = in_numbers 0 d.states q (omega arith) (omega (arith, low.state));
        passes = unreached_lacks q low.unreached;
        earlier = λ p m h. reached_lacks p (low.lower p h);
      })

  -- the test that finds two states that are not told apart
  abbrev answers_alike : ℕ × ℕ → Bool
  answers_alike (p, q) = all (λ s. same (answer_from (golden d) p s) (answer_from (golden d) q s)) d.separating

  alike_test : (p q : ℕ) → answers_alike (p, q) ≡ true → Alike p q
  alike_test p q e s m = same_true _ _ (all_true (λ s. same (answer_from (golden d) p s) (answer_from (golden d) q s)) e m)

  test_alike : (p q : ℕ) → Alike p q → answers_alike (p, q) ≡ true
  test_alike p q h = all_of _ d.separating (λ s m. rw (h s m) (same_refl (answer_from (golden d) q s)))

  told_test : (p q : ℕ) → answers_alike (p, q) ≡ false → Told p q
  told_test p q e = let (s, m, h) = all-false _ d.separating e in (s, m, same_false h)

  test_told : (p q : ℕ) → Told p q → answers_alike (p, q) ≡ false
  test_told p q (s, m, h) =
      elim (outcome (answers_alike (p, q))) [ inl e ↦ absurd (h (alike_test p q e s m)) | inr e ↦ e ]

  none-unseparated : unseparated d ≡ none → AllTold
  unfolding unseparated
  none-unseparated e p q less h = told_test p q (first-none answers_alike e (in_pairs d.states p q less h))

  told_none : AllTold → unseparated d ≡ none
  unfolding unseparated
  told_none h =
      none_first answers_alike (pairs d.states)
      (λ (p, q) m. let (less, high) = of_pairs d.states m in test_told p q (h p q less high))

  some-unseparated : {p q : ℕ} → unseparated d ≡ some (p, q) → LowestAlike p q
  unfolding unseparated
  some-unseparated {p} {q} e =
      let least = first_least LowerPair lower_one_way answers_alike (pairs d.states) (pairs_rising d.states) e in
      let (less, high) = of_pairs d.states least.found in
      record {
        two = less;
        state = high;
        alike = alike_test p q least.passes;
        lower_first = λ p' q' l two h. told_test p' q' (least.earlier (p', q') (in_pairs d.states p' q' two h) (inl l));
        lower_second = λ q' two l. told_test p q' (least.earlier (p, q') (in_pairs d.states p q' two (omega arith)) (inr (refl, l)));
      }

  unseparated-some : (p q : ℕ) → LowestAlike p q → unseparated d ≡ some (p, q)
  unfolding unseparated
  unseparated-some p q low =
      least_first LowerPair lower_one_way answers_alike (pairs d.states) (pairs_rising d.states)
      (record {
        found = in_pairs d.states p q low.two low.state;
        passes = test_alike p q low.alike;
        earlier = λ (p', q') m l.
            let (less, high) = of_pairs d.states m in
            elim l [
              | inl first ↦ test_told p' q' (low.lower_first p' q' first less high)
              | inr (e, second) ↦ rw e (test_told p q' (low.lower_second q' (rw e at less) second))
            ];
      })

  some_separator : ltb 0 (length d.separating) ≡ true → HasSeparator
  some_separator e = elim d.separating as (λ l. 0 < length l → (s : Word) × (s ∈ l)) [ [] ↦ λ h. absurd (omega arith) | s ∷ l ↦ λ h. (s, Memᴰ.head refl) ] (ltb-true _ _ e)

  no_separator : ltb 0 (length d.separating) ≡ false → d.separating ≡ []
  no_separator e = elim d.separating as (λ l. length l ≤ 0 → l ≡ []) [ [] ↦ λ h. refl | s ∷ l ↦ λ h. absurd (omega arith) ] (ltb-false _ _ e)

  separator_some : HasSeparator → ltb 0 (length d.separating) ≡ true
  separator_some (s, m) = lt-ltb _ _ (in_longer m)

  sound_gives : Settles (λ x. Sound) SoundRefuses (sound d)
  unfolding sound
  sound_gives =
      elim (outcome (is_in [] d.cover)) [
        | inr e ↦ rw e (seven (λ m. clash (in_is_in m) e) refl)
        | inl empty ↦
            rw empty
            (elim (optional (unreached d)) [
              | inr (q, e) ↦ rw e (eight (is_in_in empty) q (some-unreached e) refl)
              | inl reached ↦
                  rw reached
                  (elim (outcome (ltb 0 (length d.separating))) [
                    | inr e ↦ rw e (nine (is_in_in empty) (none-unreached reached) (no_separator e) refl)
                    | inl separator ↦
                        rw separator
                        (elim (optional (unseparated d)) [
                          | inr ((p, q), e) ↦
                              rw e (ten (is_in_in empty) (none-unreached reached) (some_separator separator) p q (some-unseparated e) refl)
                          | inl told ↦
                              rw told
                              (record {
                                empty_word = is_in_in empty;
                                reached = none-unreached reached;
                                separator = some_separator separator;
                                told = none-unseparated told;
                              })
                        ])
                  ])
            ])
      ]

  gives_sound : (r : Refusal) → SoundRefuses r → sound d ≡ refuse r
  unfolding sound
  gives_sound r (seven h is) = elim (outcome (is_in [] d.cover)) [ inl e ↦ absurd (h (is_in_in e)) | inr e ↦ rw (e, is) ]
  gives_sound r (eight empty q low is) = rw (in_is_in empty, unreached-some q low, is)
  gives_sound r (nine empty reached nothing is) = rw (in_is_in empty, reached_none reached, nothing, is)
  gives_sound r (ten empty reached separator p q low is) =
      rw (in_is_in empty, reached_none reached, separator_some separator, unseparated-some p q low, is)

  -- 7 to 10 are given exactly when their sentence holds and nothing earlier does.
  pub sound_refuses : (r : Refusal) → (sound d ≡ refuse r) ↔ SoundRefuses r
  sound_refuses r = (λ e. rw e at sound_gives, gives_sound r)

  -- None of them is given exactly when none holds.
  pub sound-fine : (sound d ≡ fine tt) ↔ Sound
  unfolding sound
  sound-fine = (
    λ e. rw e at sound_gives,
    λ s. rw (in_is_in s.empty_word, reached_none s.reached, separator_some s.separator, told_none s.told),
  )
