-- Document 02, L1, "Find the cover and the separators for us": which words are found, when each answer is given, and that what find
-- writes reads back and can be built on.
use Prim.Native.Nat.{ℕ, suc, ◌-◌, ◌≤◌, ◌<◌}
use Rattle.std.proofs.Common.{arith, sym, ◌∙◌}
use Rattle.std.proofs.Math.Nat.{zero-add}
use Rattle.std.specs.Prelude.{◌≡◌, refl, ◌↔◌, ◌≢◌, List, [], ◌∷◌, map, true, false, leb, eqb, length, drop}
use Rattle.std.proofs.Math.Path.{ap}
use Rattle.std.proofs.Math.Logic.{inl, inr}
use mathlib.Core.List.Memᴰ
use Rattle.std.proofs.Math.Option.{Option, none, some}
use borrow.Author.Tests.{eqb-true, eqb-false, leb-true, leb-false, le-leb, lt-leb}
use Rattle.rules.specs.declared.File.TheVariants.{Unit as UnitFile, Number}
use Rattle.rules.specs.declared.Fault.TheVariants.{BadNumbers}
use Rattle.rules.specs.declared.Refusal.{Refusal}
use Rattle.rules.specs.declared.Refusal.TheVariants.{Malformed, Unreached, NoRoom, NotReduced}
use Rattle.rules.specs.declared.Found.{Found}
use Rattle.rules.specs.declared.Found.TheVariants.{Written, Refused}
use Rattle.rules.specs.Lists.{◌∈◌, numbers, first}
use Rattle.rules.specs.Sizes.{most_set_word, most_dossier_bytes, bound_good}
use Rattle.rules.specs.Words.{Word, Valid}
use Rattle.rules.specs.Machines.{Complete, after, answer_from, machine_of}
use Rattle.rules.specs.Files.{DossierData, UnitData, golden, unit, count_bytes, table_bytes, unit_bytes, dossier_bytes}
use Rattle.rules.specs.Needed.{pairs, distinct}
use Rattle.rules.specs.Answers.{golden_state}
use Rattle.rules.specs.Operations.{fine, refuse, read_dossier, read_unit, writable}
use Rattle.rules.specs.Find.{access_word, telling_word, nothing, word_of, unreachable, untold, found_cover, found_separating, found_dossier, find, find_answer}
use Rattle.theory.specs.Sized.{Bytes, SizedWords, SizedTable, SizedDossier}
use Rattle.theory.specs.Lists.{outcome, optional, clash, some_injective, first-none, none_first, Rising, rising_too, OneWay, first_least, least_first, in_numbers, of_numbers, numbers_rising, At, at_in, at_below, in_at, same_places, same_elements, numbers_at, numbers_length, map_at, map-length}
use Rattle.theory.specs.Orders.{shorter_first}
use Rattle.theory.specs.Machines.{golden_complete}
use Rattle.theory.specs.Access.{FirstAccess, FirstTold, some_access, access_short, access_some, none_access, access_none, access_first, some_told, told_short, told_some, none_told, told_none, told_first}
use Rattle.theory.specs.Contents.{InRange, bound_true, true_bound}
use Rattle.theory.specs.Outcomes.{settled, Settles}
use Rattle.theory.specs.Files
use Rattle.theory.specs.Files.{unit_sized, dossier_read_lem}
use Rattle.theory.specs.Sound.{LowerPair, lower_one_way, in_pairs, of_pairs, pairs_rising, Sound}
use Rattle.theory.specs.Maximal.{Apart, in_distinct, distinct_apart, distinct_order}

module _ (u : UnitData) where
  -- some word leads from 0 to the state q
  abbrev pub Reachable : ℕ → Type 0
  Reachable q = (w : Word) × Valid u.inputs w × (after (unit u) 0 w ≡ q)

  abbrev pub AllReachable : Type 0
  AllReachable = (q : ℕ) → q < u.states → Reachable q

  -- some word tells the states p and q apart
  abbrev pub Tellable : ℕ → ℕ → Type 0
  Tellable p q = (w : Word) × Valid u.inputs w × (answer_from (unit u) p w ≢ answer_from (unit u) q w)

  abbrev pub AllTellable : Type 0
  AllTellable = (p q : ℕ) → p < q → q < u.states → Tellable p q

  -- q is a state that no word of any length leads to, the lowest
  pub record LowestUnreachable (q : ℕ) : Type 0 where
    pub state : q < u.states
    pub unreachable : (w : Word) → Valid u.inputs w → after (unit u) 0 w ≢ q
    pub lower : (p : ℕ) → p < q → Reachable p

  -- p and q are two states that answer every word of any length alike: the lowest first state, then the lowest second
  pub record LowestUntold (p q : ℕ) : Type 0 where
    pub two : p < q
    pub state : q < u.states
    pub alike : (w : Word) → Valid u.inputs w → answer_from (unit u) p w ≡ answer_from (unit u) q w
    pub lower_first : (p' q' : ℕ) → p' < p → p' < q' → q' < u.states → Tellable p' q'
    pub lower_second : (q' : ℕ) → p < q' → q' < q → Tellable p q'

  -- the first telling word of a pair of states
  abbrev pub TellsPair : ℕ × ℕ → Word → Type 0
  TellsPair a w = (a.0 < a.1) × (a.1 < u.states) × FirstTold u.inputs (unit u) a.0 a.1 w

  -- some pair that has the word v as its first telling word comes before every pair that has w
  abbrev pub Sooner : Word → Word → Type 0
  Sooner v w = (a : ℕ × ℕ) × TellsPair a v × ((b : ℕ × ℕ) → TellsPair b w → LowerPair a b)

  -- What the found cover is: as many words as states, and at each state's place its first access word.
  pub record FoundCover (cover : List Word) : Type 0 where
    pub one_each : length cover ≡ u.states
    pub access : (q : ℕ) → q < u.states → (w : Word) × At cover q w × FirstAccess u.inputs (unit u) q w

  -- What the found separating words are.
  pub record FoundSeparating (separating : List Word) : Type 0 where
    -- each pair of states has its first telling word
    pub told : (p q : ℕ) → p < q → q < u.states → (w : Word) × (w ∈ separating) × FirstTold u.inputs (unit u) p q w
    -- none is there twice
    pub once : Apart separating
    -- none that is no pair's, and they are in the order of the first pairs that have them
    pub only : 1 < u.states → (w : Word) → w ∈ separating → (a : ℕ × ℕ) × TellsPair a w
    pub in_order : Rising Sooner separating
    -- for one state the empty word
    pub alone : u.states ≡ 1 → separating ≡ [] ∷ []

  -- the dossier that find writes for the unit and a bound
  pub record FoundDossier (m : ℕ) (d : DossierData) : Type 0 where
    pub inputs : d.inputs ≡ u.inputs
    pub states : d.states ≡ u.states
    pub bound_byte : d.bound_byte ≡ m
    pub table : d.table ≡ u.table
    pub cover : FoundCover d.cover
    pub separating : FoundSeparating d.separating
    pub no_tests : d.tests ≡ []

  module _ (complete : Complete u.inputs (unit u)) where
    something : {o : Option Word} → nothing o ≡ false → (w : Word) × (o ≡ some w)
    something {o} e = elim (optional o) [ inl n ↦ clash (ap nothing n) e | inr found ↦ found ]

    empty_handed : {o : Option Word} → nothing o ≡ true → o ≡ none
    empty_handed {o} e = elim (optional o) [ inl n ↦ n | inr (w, found) ↦ clash e (ap nothing found) ]

    -- The searches of the rules come to the first access word and to the first telling word.
    pub access_is : (q : ℕ) (w : Word) → FirstAccess u.inputs (unit u) q w → access_word u q ≡ some w
    unfolding access_word
    access_is q w f = access_some complete q f

    pub telling_is : (p q : ℕ) (w : Word) → p < q → q < u.states → FirstTold u.inputs (unit u) p q w → telling_word u (p, q) ≡ some w
    unfolding telling_word
    telling_is p q w two state f = told_some complete p q (omega arith) state f

    -- a state that some word leads to has its access word, and find has it
    access_of : (q : ℕ) → Reachable q → (w : Word) × FirstAccess u.inputs (unit u) q w × (access_word u q ≡ some w)
    access_of q (v, valid, is) = let (w, f) = access_first complete q v valid is in (w, f, access_is q w f)

    lacks_access : (q : ℕ) → nothing (access_word u q) ≡ true → (w : Word) → Valid u.inputs w → after (unit u) 0 w ≢ q
    unfolding access_word
    lacks_access q e = none_access complete q (empty_handed e)

    has_access : (q : ℕ) → nothing (access_word u q) ≡ false → Reachable q
    unfolding access_word
    has_access q e = let (w, found) = something e in let f = some_access complete q found in (w, f.valid, f.leads)

    access_has : (q : ℕ) → Reachable q → nothing (access_word u q) ≡ false
    access_has q r = let (w, f, found) = access_of q r in rw found

    access_lacks : (q : ℕ) → ((w : Word) → Valid u.inputs w → after (unit u) 0 w ≢ q) → nothing (access_word u q) ≡ true
    unfolding access_word
    access_lacks q h = rw (access_none complete q h)

    -- and so has a pair of states that some word tells apart
    told_of : (p q : ℕ) → p < q → q < u.states → Tellable p q → (w : Word) × FirstTold u.inputs (unit u) p q w × (telling_word u (p, q) ≡ some w)
    told_of p q two state (v, valid, tells) =
        let (w, f) = told_first complete p q (omega arith) state v valid tells in
        (w, f, telling_is p q w two state f)

    lacks_telling : (p q : ℕ) → p < q → q < u.states → nothing (telling_word u (p, q)) ≡ true → (w : Word) → Valid u.inputs w → answer_from (unit u) p w ≡ answer_from (unit u) q w
    unfolding telling_word
    lacks_telling p q two state e = none_told complete p q (omega arith) state (empty_handed e)

    has_telling : (p q : ℕ) → p < q → q < u.states → nothing (telling_word u (p, q)) ≡ false → Tellable p q
    unfolding telling_word
    has_telling p q two state e = let (w, found) = something e in let f = some_told complete p q (omega arith) state found in (w, f.valid, f.tells)

    telling_has : (p q : ℕ) → p < q → q < u.states → Tellable p q → nothing (telling_word u (p, q)) ≡ false
    telling_has p q two state t = let (w, f, found) = told_of p q two state t in rw found

    telling_lacks : (p q : ℕ) → p < q → q < u.states → ((w : Word) → Valid u.inputs w → answer_from (unit u) p w ≡ answer_from (unit u) q w) → nothing (telling_word u (p, q)) ≡ true
    unfolding telling_word
    telling_lacks p q two state h = rw (told_none complete p q (omega arith) state h)

    -- 8
    numbers_one_way : OneWay ◌<◌
    numbers_one_way p q a b = omega arith

    pub none-unreachable : unreachable u ≡ none → AllReachable
    unfolding unreachable
    none-unreachable e q h = has_access q (first-none _ e (in_numbers 0 u.states q (omega arith) (omega arith)))

    pub reachable_none : AllReachable → unreachable u ≡ none
    unfolding unreachable
    reachable_none h = none_first _ (numbers u.states) (λ q m. access_has q (h q (omega (arith, (of_numbers 0 u.states m).1))))

    pub some-unreachable : {q : ℕ} → unreachable u ≡ some q → LowestUnreachable q
    unfolding unreachable
    some-unreachable {q} e =
        let least = first_least ◌<◌ numbers_one_way (λ q. nothing (access_word u q)) (numbers u.states) (numbers_rising 0 u.states) e in
        let (low, high) = of_numbers 0 u.states least.found in
        record {
          state = omega arith;
          unreachable = lacks_access q least.passes;
          lower = λ p h. has_access p (least.earlier p (in_numbers 0 u.states p (omega arith) (omega arith)) h);
        }

    pub unreachable-some : (q : ℕ) → LowestUnreachable q → unreachable u ≡ some q
    unfolding unreachable
    unreachable-some q low =
        least_first ◌<◌ numbers_one_way (λ q. nothing (access_word u q)) (numbers u.states) (numbers_rising 0 u.states)
        (record {
          found = in_numbers 0 u.states q (omega arith) (omega (arith, low.state));
          passes = access_lacks q low.unreachable;
          earlier = λ p m h. access_has p (low.lower p h);
        })

    -- 18
    pub none-untold : untold u ≡ none → AllTellable
    unfolding untold
    none-untold e p q less h = has_telling p q less h (first-none _ e (in_pairs u.states p q less h))

    pub tellable_none : AllTellable → untold u ≡ none
    unfolding untold
    tellable_none h =
        none_first _ (pairs u.states) (λ (p, q) m. let (less, high) = of_pairs u.states m in telling_has p q less high (h p q less high))

    pub some-untold : {p q : ℕ} → untold u ≡ some (p, q) → LowestUntold p q
    unfolding untold
    some-untold {p} {q} e =
        let least = first_least LowerPair lower_one_way (λ a. nothing (telling_word u a)) (pairs u.states) (pairs_rising u.states) e in
        let (less, high) = of_pairs u.states least.found in
        record {
          two = less;
          state = high;
          alike = lacks_telling p q less high least.passes;
          lower_first = λ p' q' l two h. has_telling p' q' two h (least.earlier (p', q') (in_pairs u.states p' q' two h) (inl l));
          lower_second = λ q' two l. has_telling p q' two (omega arith) (least.earlier (p, q') (in_pairs u.states p q' two (omega arith)) (inr (refl, l)));
        }

    pub untold-some : (p q : ℕ) → LowestUntold p q → untold u ≡ some (p, q)
    unfolding untold
    untold-some p q low =
        least_first LowerPair lower_one_way (λ a. nothing (telling_word u a)) (pairs u.states) (pairs_rising u.states)
        (record {
          found = in_pairs u.states p q low.two low.state;
          passes = telling_lacks p q low.two low.state low.alike;
          earlier = λ (p', q') m l.
              let (less, high) = of_pairs u.states m in
              elim l [
                | inl first ↦ telling_has p' q' less high (low.lower_first p' q' first less high)
                | inr (e, second) ↦ telling_has p' q' less high (rw e (low.lower_second q' (rw e at less) second))
              ];
        })

    module _ (reachable : AllReachable) where
      found_cover_lem : FoundCover (found_cover u)
      unfolding found_cover
      found_cover_lem =
          record {
            one_each = map-length _ (numbers u.states) ∙ numbers_length 0 u.states;
            access = λ q h.
                let (w, f, found) = access_of q (reachable q h) in
                let at : At (numbers u.states) q q = rw zero-add at (numbers_at 0 u.states q h) in
                (w, map_at (λ q. word_of (access_word u q)) (numbers u.states) q at ∙ ap (λ o. some (word_of o)) found, f);
          }

    module _ (tellable : AllTellable) where
      abbrev telling_of : ℕ × ℕ → Word
      telling_of a = word_of (telling_word u a)

      telling_tells : (a : ℕ × ℕ) → a ∈ pairs u.states → TellsPair a (telling_of a)
      telling_tells (p, q) m =
          let (two, state) = of_pairs u.states m in
          let (w, f, found) = told_of p q two state (tellable p q two state) in
          (two, state, rw found f)

      tells_telling : (a : ℕ × ℕ) (w : Word) → TellsPair a w → telling_of a ≡ w
      tells_telling (p, q) w (two, state, f) = rw (telling_is p q w two state f)

      found_several : u.states ≢ 1 → FoundSeparating (distinct (map telling_of (pairs u.states)))
      found_several several =
          record {
            told = λ p q two state.
                let m = in_pairs u.states p q two state in
                (telling_of (p, q), (in_distinct _ _).1 (Memᴰ.map telling_of m), (telling_tells (p, q) m).2);
            once = distinct_apart (map telling_of (pairs u.states));
            only = λ some w m.
                let (a, in_a, is) = Memᴰ.of_map telling_of (pairs u.states) ((in_distinct w _).0 m) in
                (a, rw is at (telling_tells a in_a));
            in_order =
                rising_too _ Sooner (distinct (map telling_of (pairs u.states)))
                (λ v w in_v in_w (a, in_a, is, later). (
                  a,
                  rw is at (telling_tells a in_a),
                  λ b tells. later b (in_pairs u.states b.0 b.1 tells.0 tells.1) (tells_telling b w tells),
                ))
                (distinct_order LowerPair telling_of (pairs u.states) (pairs_rising u.states));
            alone = λ one. absurd (several one);
          }

      found_alone : u.states ≡ 1 → FoundSeparating ([] ∷ [])
      found_alone one =
          record {
            told = λ p q two state. absurd (omega arith);
            once = (λ w m. absurd (Memᴰ.not-nil m), tt);
            only = λ some w m. absurd (omega arith);
            in_order = (λ w m. absurd (Memᴰ.not-nil m), tt);
            alone = λ e. refl;
          }

      found_separating_lem : FoundSeparating (found_separating u)
      unfolding found_separating
      found_separating_lem =
          elim (outcome (eqb u.states 1)) [
            | inl one ↦ rw one (found_alone (eqb-true _ _ one))
            | inr several ↦ rw several (found_several (eqb-false _ _ several))
          ]

    -- The dossier of find is such a dossier,
    pub found_dossier_lem : (m : ℕ) → AllReachable → AllTellable → FoundDossier m (found_dossier u m)
    found_dossier_lem m reachable tellable =
        record {
          inputs = refl;
          states = refl;
          bound_byte = refl;
          table = refl;
          cover = found_cover_lem reachable;
          separating = found_separating_lem tellable;
          no_tests = refl;
        }

    -- and there is no other.
    one_cover : (c c' : List Word) → FoundCover c → FoundCover c' → c ≡ c'
    one_cover c c' f f' =
        same_places c c' (f.one_each ∙ sym f'.one_each)
        (λ q h.
        let small : q < u.states = omega (arith, f.one_each) in
        let (w, at, first) = f.access q small in
        let (w', at', first') = f'.access q small in
        let same : w' ≡ w = some_injective (sym (access_some complete q first') ∙ access_some complete q first) in
        (w, at, rw same at at'))

    sooner_one_way : OneWay Sooner
    sooner_one_way v w (a, tells, later) (b, tells', later') = lower_one_way a b (later b tells') (later' a tells)

    same_told : {s s' : List Word} → 1 < u.states → FoundSeparating s → FoundSeparating s' → (w : Word) → w ∈ s → w ∈ s'
    same_told several f f' w m =
        let ((p, q), (two, state, first)) = f.only several w m in
        let (w', m', first') = f'.told p q two state in
        let same : w' ≡ w =
        some_injective (sym (told_some complete p q (omega arith) state first') ∙ told_some complete p q (omega arith) state first)
        in
        rw same at m'

    one_separating : (s s' : List Word) → FoundSeparating s → FoundSeparating s' → s ≡ s'
    one_separating s s' f f' =
        elim (outcome (eqb u.states 1)) [
          | inl one ↦ f.alone (eqb-true _ _ one) ∙ sym (f'.alone (eqb-true _ _ one))
          | inr not_one ↦
              let ne : u.states ≢ 1 = eqb-false u.states 1 not_one in
              let several : 1 < u.states = omega (arith, complete.start) in
              same_elements Sooner sooner_one_way s s' f.in_order f'.in_order (same_told several f f') (same_told several f' f)
        ]

    pub one_dossier : (m : ℕ) (d e : DossierData) → FoundDossier m d → FoundDossier m e → d ≡ e
    one_dossier m d e f g =
        let a = f.inputs ∙ sym g.inputs in
        let b = f.states ∙ sym g.states in
        let c = f.bound_byte ∙ sym g.bound_byte in
        let t = f.table ∙ sym g.table in
        let v = one_cover d.cover e.cover f.cover g.cover in
        let s = one_separating d.separating e.separating f.separating g.separating in
        let x = f.no_tests ∙ sym g.no_tests in
        λ i. record { inputs = a i; states = b i; bound_byte = c i; table = t i; cover = v i; separating = s i; tests = x i }

  -- What is found is within the sizes: an access word or a telling word has at most n - 1 inputs, so at most 63.
  module _ (sized : SizedTable u.inputs u.states u.table) where
    whole : Complete u.inputs (unit u)
    whole = golden_complete sized

    pub cover_short : (c : List Word) → FoundCover c → SizedWords u.inputs (u.states - 1) c
    cover_short c f w m =
        let (q, at) = in_at m in
        let small : q < u.states = omega (arith, f.one_each, at_below c q at) in
        let (v, at', first) = f.access q small in
        let same : v ≡ w = some_injective (sym at' ∙ at) in
        rw (← same) (first.valid, access_short whole q first)

    pub separating_short : (s : List Word) → FoundSeparating s → SizedWords u.inputs (u.states - 1) s
    separating_short s f w m =
        elim (outcome (eqb u.states 1)) [
          | inl one ↦ rw (Memᴰ.eq_of_singleton (rw (f.alone (eqb-true _ _ one)) at m)) (tt, omega arith)
          | inr not_one ↦
              let ne : u.states ≢ 1 = eqb-false u.states 1 not_one in
              let several : 1 < u.states = omega (arith, sized.some_state) in
              let ((p, q), (two, state, first)) = f.only several w m in
              (first.valid, told_short whole p q (omega arith) state first)
        ]

    set_words : (ws : List Word) → SizedWords u.inputs (u.states - 1) ws → SizedWords u.inputs most_set_word ws
    set_words ws short w m = let (valid, le) = short w m in (valid, omega (arith, sized.few_states))

    pub found_sized : (m : ℕ) (d : DossierData) → InRange u.states m → FoundDossier m d → length (dossier_bytes d) ≤ most_dossier_bytes → SizedDossier d
    found_sized m d (least, most, near) f small =
        record {
          golden = rw (f.inputs, f.states, f.table) sized;
          bound_least = rw (f.states, f.bound_byte) least;
          bound_most = rw (f.states, f.bound_byte) most;
          bound_near = rw (f.states, f.bound_byte) near;
          cover = rw f.inputs (set_words d.cover (cover_short d.cover f.cover));
          separating = rw f.inputs (set_words d.separating (separating_short d.separating f.separating));
          tests = λ t m. absurd (Memᴰ.not-nil (rw f.no_tests at m));
          size = small;
        }

    -- the machine that the dossier holds is the unit's
    golden_is : (m : ℕ) (d : DossierData) → FoundDossier m d → golden d ≡ unit u
    golden_is m d f = λ i. machine_of (f.inputs i) (f.states i) (f.table i)

    -- The access word of state 0 is the empty word.
    access_start : (w : Word) → FirstAccess u.inputs (unit u) 0 w → w ≡ []
    access_start [] f = refl
    access_start (i ∷ w) f = absurd (f.earlier [] tt (shorter_first [] (i ∷ w) (omega arith)) refl)

    -- None of 7 to 10 holds of what is found.
    pub found_sound : (m : ℕ) (d : DossierData) → FoundDossier m d → Sound d
    found_sound m d f =
        let is = golden_is m d f in
        record {
          empty_word =
              let (w, at, first) = f.cover.access 0 sized.some_state in
              rw (access_start w first) at (at_in d.cover 0 at);
          reached = λ q h.
              let (w, at, first) = f.cover.access q (rw f.states at h) in
              (w, at_in d.cover q at, rw is first.leads);
          separator =
              elim (outcome (eqb u.states 1)) [
                | inl one ↦ ([], rw (f.separating.alone (eqb-true _ _ one)) (Memᴰ.head refl))
                | inr not_one ↦
                    let ne : u.states ≢ 1 = eqb-false u.states 1 not_one in
                    let (w, m, first) = f.separating.told 0 1 (omega arith) (omega (arith, sized.some_state)) in
                    (w, m)
              ];
          told = λ p q two h.
              let (w, m, first) = f.separating.told p q two (rw f.states at h) in
              (w, m, rw is first.tells);
        }

-- what find may write for a unit and a bound: the unit reads well, the bound is in range, every state can be reached and every two can be told
-- apart, and d is the dossier with the found words
pub record Drafts (unit_file : List ℕ) (m : ℕ) (u : UnitData) (d : DossierData) : Type 0 where
  pub reads : read_unit unit_file ≡ fine u
  pub in_range : InRange u.states m
  pub reachable : AllReachable u
  pub tellable : AllTellable u
  pub dossier : FoundDossier u m d

-- find's order: the unit's 1 to 6, 3 for the bound, 8, 18, 17
pub data FindRefuses (unit_file : List ℕ) (m : ℕ) (out : List ℕ) (r : Refusal) : Type 0 where
  malformed : read_unit unit_file ≡ refuse r → FindRefuses unit_file m out r
  three : (u : UnitData) → read_unit unit_file ≡ fine u → ¬ InRange u.states m → r ≡ Malformed BadNumbers Number 0 → FindRefuses unit_file m out r
  eight : (u : UnitData) → read_unit unit_file ≡ fine u → InRange u.states m → (q : ℕ) → LowestUnreachable u q → r ≡ Unreached UnitFile (golden_state q)
      → FindRefuses unit_file m out r
  eighteen : (u : UnitData) → read_unit unit_file ≡ fine u → InRange u.states m → AllReachable u → (p q : ℕ) → LowestUntold u p q
      → r ≡ NotReduced (golden_state p) (golden_state q) → FindRefuses unit_file m out r
  over_size : (u : UnitData) (d : DossierData) → Drafts unit_file m u d → most_dossier_bytes < length (dossier_bytes d) → r ≡ NoRoom (suc most_dossier_bytes)
      → FindRefuses unit_file m out r
  no_room : (u : UnitData) (d : DossierData) → Drafts unit_file m u d → length (dossier_bytes d) ≤ most_dossier_bytes → length out < length (dossier_bytes d)
      → r ≡ NoRoom (length (dossier_bytes d)) → FindRefuses unit_file m out r

-- what find writes: a dossier that is within its size and fits the output
pub record Finds (unit_file : List ℕ) (m : ℕ) (out : List ℕ) (u : UnitData) (d : DossierData) : Type 0 where
  pub drafts : Drafts unit_file m u d
  pub small : length (dossier_bytes d) ≤ most_dossier_bytes
  pub fits : length (dossier_bytes d) ≤ length out

module _ (unit_file : List ℕ) (m : ℕ) (out : List ℕ) where
  unit_whole : (u : UnitData) → read_unit unit_file ≡ fine u → Complete u.inputs (unit u)
  unit_whole u reads = golden_complete (unit_sized unit_file u reads).machine

  pub find_gives : Settles (λ w. (u : UnitData) × (d : DossierData) × Finds unit_file m out u d × (w ≡ dossier_bytes d)) (FindRefuses unit_file m out) (find unit_file m out)
  unfolding find
  find_gives =
      elim (settled (read_unit unit_file)) [
        | inr (r, e) ↦ rw e (malformed e)
        | inl (u, reads) ↦
            let whole = unit_whole u reads in
            rw reads
            (elim (outcome (bound_good u.states m)) [
              | inr bad ↦ rw bad (three u reads (λ range. clash (bound_true u.states m range) bad) refl)
              | inl good ↦
                  let range = true_bound u.states m good in
                  rw good
                  (elim (optional (unreachable u)) [
                    | inr (q, e) ↦ rw e (eight u reads range q (some-unreachable u whole e) refl)
                    | inl reached ↦
                        let all = none-unreachable u whole reached in
                        rw reached
                        (elim (optional (untold u)) [
                          | inr ((p, q), e) ↦ rw e (eighteen u reads range all p q (some-untold u whole e) refl)
                          | inl told ↦
                              let each = none-untold u whole told in
                              let drafts : Drafts unit_file m u (found_dossier u m) =
                              record { reads = reads; in_range = range; reachable = all; tellable = each; dossier = found_dossier_lem u whole m all each }
                              in
                              rw told
                              (elim (outcome (leb (length (dossier_bytes (found_dossier u m))) most_dossier_bytes)) [
                                | inr over ↦ rw over (over_size u (found_dossier u m) drafts (leb-false _ _ over) refl)
                                | inl small ↦
                                    rw small
                                    (elim (outcome (leb (length (dossier_bytes (found_dossier u m))) (length out))) [
                                      | inr short ↦ rw short (no_room u (found_dossier u m) drafts (leb-true _ _ small) (leb-false _ _ short) refl)
                                      | inl fits ↦
                                          rw fits
                                          (u, found_dossier u m, record { drafts = drafts; small = leb-true _ _ small; fits = leb-true _ _ fits }, refl)
                                    ])
                              ])
                        ])
                  ])
            ])
      ]

  -- the dossier that is spoken of is the one that find writes
  pub drafted : (u : UnitData) (d : DossierData) (x : Drafts unit_file m u d) → d ≡ found_dossier u m
  drafted u d x =
      let whole = unit_whole u x.reads in
      one_dossier u whole m d (found_dossier u m) x.dossier (found_dossier_lem u whole m x.reachable x.tellable)

  -- up to 17
  drafts_find : (u : UnitData) (d : DossierData) → Drafts unit_file m u d → find unit_file m out ≡ writable (dossier_bytes d) out
  unfolding find
  drafts_find u d x =
      let whole = unit_whole u x.reads in
      rw (drafted u d x, x.reads, bound_true u.states m x.in_range, reachable_none u whole x.reachable, tellable_none u whole x.tellable)

  gives_find : (r : Refusal) → FindRefuses unit_file m out r → find unit_file m out ≡ refuse r
  unfolding find
  gives_find r (malformed e) = rw e
  gives_find r (three u reads bad is) =
      elim (outcome (bound_good u.states m)) [ inl good ↦ absurd (bad (true_bound u.states m good)) | inr e ↦ rw (reads, e, is) ]
  gives_find r (eight u reads range q low is) =
      rw (reads, bound_true u.states m range, unreachable-some u (unit_whole u reads) q low, is)
  gives_find r (eighteen u reads range all p q low is) =
      rw (reads, bound_true u.states m range, reachable_none u (unit_whole u reads) all, untold-some u (unit_whole u reads) p q low, is)
  gives_find r (over_size u d x over is) = drafts_find u d x ∙ rw (lt-leb _ _ over, is)
  gives_find r (no_room u d x small short is) = drafts_find u d x ∙ rw (le-leb _ _ small, lt-leb _ _ short, is)

  -- Each refusal of find is given exactly when its sentence holds and nothing earlier does.
  pub find_refuses : (r : Refusal) → (find unit_file m out ≡ refuse r) ↔ FindRefuses unit_file m out r
  find_refuses r = (λ e. rw e at find_gives, gives_find r)

  pub find_writes : (u : UnitData) (d : DossierData) → Finds unit_file m out u d → find unit_file m out ≡ fine (dossier_bytes d)
  find_writes u d f = drafts_find u d f.drafts ∙ rw (le-leb _ _ f.small, le-leb _ _ f.fits)

-- when each answer of find is given
abbrev pub FindGives : List ℕ → ℕ → List ℕ → Found → Type 0
FindGives unit_file m out (Written n) = (u : UnitData) × (d : DossierData) × Finds unit_file m out u d × (n ≡ length (dossier_bytes d))
FindGives unit_file m out (Refused r) = FindRefuses unit_file m out r

pub find_exactly : (unit_file : List ℕ) (m : ℕ) (out : List ℕ) (r : Found) → (find_answer unit_file m out ≡ r) ↔ FindGives unit_file m out r
find_exactly unit_file m out r = (λ e. rw e at gives, given r)
  where
    gives : FindGives unit_file m out (find_answer unit_file m out)
    gives =
        elim (settled (find unit_file m out)) [
          | inr (r, e) ↦ rw e ((find_refuses unit_file m out r).0 e)
          | inl (w, e) ↦ let (u, d, f, is) = rw e at (find_gives unit_file m out) in rw e (u, d, f, ap (λ (l : List ℕ). length l) is)
        ]

    given : (r : Found) → FindGives unit_file m out r → find_answer unit_file m out ≡ r
    given (Written n) (u, d, f, count) = rw (find_writes unit_file m out u d f, count)
    given (Refused r) h = rw ((find_refuses unit_file m out r).1 h)

-- Whatever find writes reads back as the dossier with the unit's table, the bound byte as passed, the found words and no tests,
pub found_reads_back : (unit_file : List ℕ) (m : ℕ) (out : List ℕ) (u : UnitData) (d : DossierData) → Finds unit_file m out u d → read_dossier (dossier_bytes d) ≡ fine d
found_reads_back unit_file m out u d f =
    let x = f.drafts in
    dossier_read_lem d (found_sized u (unit_sized unit_file u x.reads).machine m d x.in_range x.dossier f.small)

-- The table is copied byte for byte: it is all of the unit file behind its count of numbers and its two numbers.
pub copied_table : (unit_file : List ℕ) (m : ℕ) (u : UnitData) (d : DossierData) → Bytes unit_file → Drafts unit_file m u d → table_bytes d.table ≡ drop 4 unit_file
unfolding unit_bytes count_bytes
copied_table unit_file m u d are_bytes x =
    ap (λ t. table_bytes t) x.dossier.table ∙ sym (ap (λ (l : List ℕ). drop 4 l) (Files.unit_whole unit_file u are_bytes x.reads))
