-- A unit with at most `d` states more than the golden answers every word as the golden does, if it does so for the words that
-- the W method tries, or for those that the Wp method tries. This is the theorem of which both methods' are corollaries.
use Rattle.std.specs.Prelude.{◌≡◌, refl, List, [], ◌∷◌, ◌++◌, ℕ, ◌+◌, ◌≤◌, ◌<◌, length}
use Rattle.std.proofs.Common.{sym, append_assoc, append-nil, arith, length-append}
use Rattle.std.proofs.Math.Decide.{ℕ_discrete}
use Rattle.rules.specs.Lists.{◌∈◌}
use Rattle.rules.specs.Words.{Word, Valid}
use Rattle.rules.specs.Machines.{Machine, after, answer_from, answer}
use Rattle.theory.specs.Count.{count, pigeonhole}
use Rattle.theory.specs.Words.{valid_append}
use Rattle.theory.specs.Machines.{after_one_more, after_small, alike_first, alike_rest}
use Rattle.theory.specs.Ways.{Start, Reached, Way, start?, start_small, way, reached_start, reached_next}
use Rattle.theory.specs.Suites.{Tried}

module _ {k : ℕ} {G U : Machine} {d : ℕ} {cover separating : List Word} {ids : ℕ → List Word} (tried : Tried k G U d cover separating ids) where
  -- A golden state is the one that its identifying words identify.
  same_state : (p q : ℕ) → p < G.states → q < G.states → ((s : Word) → s ∈ ids p → answer_from G p s ≡ answer_from G q s) → p ≡ q
  same_state p q hp hq same =
      elim (ℕ_discrete p q) [
        | yes e ↦ e
        | no ne ↦ let (s, in_s, differ) = tried.identified p q hp hq ne in absurd (differ (same s in_s))
      ]

  -- After a cover word and at most `d` inputs the unit answers every separating word as the golden does.
  separate : (c y s : Word) → c ∈ cover → Valid k y → length y ≤ d → s ∈ separating
      → answer_from U (after U 0 (c ++ y)) s ≡ answer_from G (after G 0 (c ++ y)) s
  separate c y s in_c v short in_s = alike_rest U G 0 0 (c ++ y) s (tried.separate c y s in_c v short in_s)

  -- The cover words reach at least as many unit states as there are golden states: where two golden states differ, so do the
  -- unit states that their cover words reach, as these answer the separating words like them.
  many : G.states ≤ count (start? U cover) U.states
  many = pigeonhole (start? U cover) U.states G.states reach (λ q h. start_small k U tried.unit cover tried.valid (reach q h) (found q h)) found apart
    where
      reach : (q : ℕ) → q < G.states → ℕ
      reach q h = after U 0 (tried.reached q h).0

      found : (q : ℕ) (h : q < G.states) → Start U cover (reach q h)
      found q h = let (c, in_c, e) = tried.reached q h in (c, in_c, refl)

      as_golden : (q : ℕ) (h : q < G.states) (s : Word) → s ∈ separating → answer_from U (reach q h) s ≡ answer_from G q s
      as_golden q h s in_s =
          let (c, in_c, e) = tried.reached q h in
          simp (append-nil, e) at (separate c [] s in_c tt (omega arith) in_s)

      apart : (p q : ℕ) (hp : p < G.states) (hq : q < G.states) → reach p hp ≡ reach q hq → p ≡ q
      apart p q hp hq e = same_state p q hp hq (λ s in_s. let in_sep = tried.among p s in_s in cc (as_golden p hp s in_sep, as_golden q hq s in_sep))

  -- The unit state `p` answers the words that identify the golden state `q` as `q` does.
  abbrev Alike : ℕ → ℕ → Type 0
  Alike p q = (s : Word) → s ∈ ids q → answer_from U p s ≡ answer_from G q s

  -- Such states, where the unit's is reached within `d` inputs, have the same outputs and go on to such states.
  step : (p q i : ℕ) → Way k U cover d p → q < G.states → i < k → Alike p q
      → (U.output p i ≡ G.output q i) × Alike (U.next p i) (G.next q i)
  step p q i (c, y, in_c, v, short, e) small b alike = (same_output, alike')
    where
      golden : after G 0 (c ++ y) ≡ q
      golden =
          sym (same_state q (after G 0 (c ++ y)) small
          (after_small tried.golden 0 (c ++ y) tried.golden.start (valid_append k c y (tried.valid c in_c) v))
          (λ s in_s. cc (separate c y s in_c v short (tried.among q s in_s), alike s in_s)))

      z : Word
      z = y ++ (i ∷ [])

      unit_next : after U 0 (c ++ z) ≡ U.next p i
      unit_next = cc (after_one_more U 0 c y i)

      golden_next : after G 0 (c ++ z) ≡ G.next q i
      golden_next = cc (after_one_more G 0 c y i, golden)

      tested : (s : Word) → s ∈ ids (G.next q i) → answer U (c ++ z ++ s) ≡ answer G (c ++ z ++ s)
      tested s in_s =
          let long : length z ≡ length y + 1 = length-append y (i ∷ []) in
          tried.identify c z s in_c (valid_append k y (i ∷ []) v (b, tt)) (omega arith) (omega arith) (rw golden_next in_s)

      alike' : Alike (U.next p i) (G.next q i)
      alike' s in_s = rw (unit_next, golden_next) at (alike_rest U G 0 0 (c ++ z) s (tested s in_s))

      same_output : U.output p i ≡ G.output q i
      same_output =
          let (s, in_s) = tried.some_id (G.next q i) (tried.golden.closed q i small b) in
          let e₁ = alike_first U G 0 0 (c ++ z) s (tested s in_s) in
          let e₂ = alike_rest U G 0 0 (c ++ y) (i ∷ []) (rw (← append_assoc c y (i ∷ [])) at e₁) in
          cc (golden)

  -- So they answer every word alike, input by input.
  answers : (p q : ℕ) → Reached k U cover d p → q < G.states → Alike p q → (w : Word) → Valid k w → answer_from U p w ≡ answer_from G q w
  answers p q r small alike [] v = refl
  answers p q r small alike (i ∷ w) (b, v) =
      let (same_output, alike') = step p q i (way k U cover d p r) small b alike in
      let few : U.states ≤ count (start? U cover) U.states + d = omega (arith, many, tried.few) in
      let r' = reached_next k U tried.unit cover tried.valid d few p i b r in
      cc (answers (U.next p i) (G.next q i) r' (tried.golden.closed q i small b) alike' w v)

  -- The states after reset are such states, so the unit answers every word as the golden does.
  pub tried_enough : (w : Word) → Valid k w → answer U w ≡ answer G w
  tried_enough =
      answers 0 0 (reached_start k U cover d 0 ([], tried.empty_word, refl)) tried.golden.start
      (λ s in_s. separate [] [] s tried.empty_word tt (omega arith) (tried.among 0 s in_s))
