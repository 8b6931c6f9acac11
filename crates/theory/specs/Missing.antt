-- Document 01, "Needed words" and refusal 11: which words are needed, in which order they are looked for, and that MISSING is
-- given exactly for the first of them that begins no test.
use Rattle.std.specs.Prelude.{ℕ, suc, ◌-◌, ◌≤◌, ◌<◌, ◌≡◌, refl, ◌↔◌, ◌⊎◌, ◌++◌, Bool, true, false, not, length}
use Rattle.std.proofs.Common.{arith, sym, ◌∙◌}
use Rattle.std.proofs.Math.Logic.{inl, inr}
use mathlib.Core.List.Memᴰ
use Rattle.std.proofs.Math.Option.{none, some}
use Rattle.std.proofs.lemmas.Bool.{not-true, not-false}
use Rattle.rules.specs.Lists.{◌∈◌, placed, any}
use Rattle.rules.specs.Words.{Word, Valid, Begins, begins}
use Rattle.rules.specs.Files.{DossierData, bound}
use Rattle.rules.specs.Needed.{IsNeeded, Need, middles, needed, needed_words, missing}
use Rattle.theory.specs.Lists.{outcome, clash, any-true, any_of, any_false, none_any, first-none, none_first, Rising, OneWay, first_least, least_first, At, at_in, in_at, in_placed, of_placed, ByPlace, placed_rising, map_rising, flat_map_rising, in_flat_map, of_flat_map}
use Rattle.theory.specs.Words.{begins-true, begins_of}
use Rattle.theory.specs.Orders.{ByLength, by_length_one_way}
use Rattle.theory.specs.Shortlex.{in_shortlex, shortlex_rising}

module _ (d : DossierData) where
  -- a word of at most m - n + 1 inputs
  abbrev pub IsMiddle : Word → Type 0
  IsMiddle y = Valid d.inputs y × (length y ≤ suc (bound d - d.states))

  -- a word is a test or a beginning of a test
  abbrev pub Begun : Word → Type 0
  Begun w = (t : Word) × (t ∈ d.tests) × Begins w t

  -- the needed word of a cover place, a middle and a separator place
  abbrev need : ℕ → Word → Word → ℕ → Word → Need
  need i c y j s = record { cover_place = i; middle = y; separator_place = j; word = c ++ y ++ s }

  in_needed : {i j : ℕ} {c y s : Word} → At d.cover i c → IsMiddle y → At d.separating j s → need i c y j s ∈ needed d
  unfolding needed middles
  in_needed {i} {j} {c} {y} {s} at_c is at_s =
      in_flat_map _ (in_placed d.cover i at_c)
      (in_flat_map _ ((in_shortlex d.inputs (suc (bound d - d.states)) y).1 is)
      (Memᴰ.map (λ (j, s). need i c y j s) (in_placed d.separating j at_s)))

  -- what a member of the list of needed words is made of
  record Parts (x : Need) : Type 0 where
    front : Word
    back : Word
    front_at : At d.cover x.cover_place front
    middle_is : IsMiddle x.middle
    back_at : At d.separating x.separator_place back
    whole : x.word ≡ front ++ x.middle ++ back

  of_needed : {x : Need} → x ∈ needed d → Parts x
  unfolding needed middles
  of_needed m =
      let ((i, c), in_c, m') = of_flat_map _ (placed d.cover) m in
      let (y, in_y, m'') = of_flat_map _ (middles d) m' in
      let ((j, s), in_s, e) = Memᴰ.of_map (λ (j, s). need i c y j s) (placed d.separating) m'' in
      rw (← e)
      (record {
        front = c;
        back = s;
        front_at = of_placed d.cover in_c;
        middle_is = (in_shortlex d.inputs (suc (bound d - d.states)) y).0 in_y;
        back_at = of_placed d.separating in_s;
        whole = refl;
      })

  -- A word is needed exactly when it is a cover word, a middle and a separating word, one after the other.
  pub needed_words_lem : (w : Word) → (w ∈ needed_words d) ↔ IsNeeded d w
  needed_words_lem w = (
    λ m.
        let (x, in_x, e) = Memᴰ.of_map (λ (x : Need). x.word) (needed d) m in
        let p = of_needed in_x in
        record {
          front = p.front;
          middle = x.middle;
          back = p.back;
          covering = at_in d.cover x.cover_place p.front_at;
          inputs = p.middle_is.0;
          short = p.middle_is.1;
          separating = at_in d.separating x.separator_place p.back_at;
          joined = sym e ∙ p.whole;
        },
    λ n.
        let (i, at_c) = in_at n.covering in
        let (j, at_s) = in_at n.separating in
        rw n.joined (Memᴰ.map (λ (x : Need). x.word) (in_needed at_c (n.inputs, n.short) at_s)),
  )

  -- cover in file order outermost, then the middle by length and by inputs, then separating in file order
  abbrev pub Earlier : ℕ → Word → ℕ → ℕ → Word → ℕ → Type 0
  Earlier i y j i' y' j' = (i < i') ⊎ ((i ≡ i') × (ByLength y y' ⊎ ((y ≡ y') × (j < j'))))

  abbrev NeededBefore : Need → Need → Type 0
  NeededBefore a b = Earlier a.cover_place a.middle a.separator_place b.cover_place b.middle b.separator_place

  needed_one_way : OneWay NeededBefore
  needed_one_way a b (inl h) (inl h') = omega arith
  needed_one_way a b (inl h) (inr (e, h')) = omega arith
  needed_one_way a b (inr (e, h)) (inl h') = omega arith
  needed_one_way a b (inr (e, inl h)) (inr (e', inl h')) = by_length_one_way a.middle b.middle h h'
  needed_one_way a b (inr (e, inl h)) (inr (e', inr (s, h'))) = by_length_one_way a.middle a.middle (rw s at h) (rw s at h)
  needed_one_way a b (inr (e, inr (s, h))) (inr (e', inl h')) = by_length_one_way a.middle a.middle (rw (← s) at h') (rw (← s) at h')
  needed_one_way a b (inr (e, inr (s, h))) (inr (e', inr (s', h'))) = omega arith

  needed_rising : Rising NeededBefore (needed d)
  unfolding needed middles
  needed_rising =
      flat_map_rising ByPlace NeededBefore _
      (λ (i, c).
      flat_map_rising ByLength NeededBefore _
      (λ y. map_rising ByPlace NeededBefore (λ (j, s). need i c y j s) (λ p q h. inr (refl, inr (refl, h))) (placed d.separating) (placed_rising d.separating))
      (λ y y' h a b in_a in_b.
      let ((j, s), _, e) = Memᴰ.of_map (λ (j, s). need i c y j s) (placed d.separating) in_a in
      let ((j', s'), _, e') = Memᴰ.of_map (λ (j, s). need i c y' j s) (placed d.separating) in_b in
      rw (← e, ← e') (inr (refl, inl h)))
      (middles d) (shortlex_rising d.inputs (suc (bound d - d.states))))
      (λ (i, c) (i', c') h a b in_a in_b.
      let (y, _, m) = of_flat_map _ (middles d) in_a in
      let (y', _, m') = of_flat_map _ (middles d) in_b in
      let ((j, s), _, e) = Memᴰ.of_map (λ (j, s). need i c y j s) (placed d.separating) m in
      let ((j', s'), _, e') = Memᴰ.of_map (λ (j, s). need i' c' y' j s) (placed d.separating) m' in
      rw (← e, ← e') (inl h))
      (placed d.cover) (placed_rising d.cover)

  -- the test that finds a missing word
  abbrev lacking : Need → Bool
  lacking x = not (any (begins x.word) d.tests)

  lacking-false : (x : Need) → lacking x ≡ false → Begun x.word
  lacking-false x e = let (t, m, h) = any-true (begins x.word) d.tests (not-false _ e) in (t, m, begins-true x.word t h)

  begun_lacking : (x : Need) → Begun x.word → lacking x ≡ false
  begun_lacking x (t, m, b) = rw (any_of (begins x.word) m (begins_of x.word t b))

  lacking-true : (x : Need) → lacking x ≡ true → (t : Word) → t ∈ d.tests → ¬ Begins x.word t
  lacking-true x e t m b = clash (begins_of x.word t b) (any_false (begins x.word) (not-true _ e) m)

  unbegun_lacking : (x : Need) → ((t : Word) → t ∈ d.tests → ¬ Begins x.word t) → lacking x ≡ true
  unbegun_lacking x h =
      rw (none_any (begins x.word) d.tests (λ t m. elim (outcome (begins x.word t)) [ inl e ↦ absurd (h t m (begins-true x.word t e)) | inr e ↦ e ]))

  -- the needed word at a cover place, a middle and a separator place begins no test, and every needed word that is looked for
  -- earlier does
  pub record FirstMissing (i : ℕ) (y : Word) (j : ℕ) : Type 0 where
    pub front : Word
    pub back : Word
    pub front_at : At d.cover i front
    pub middle : IsMiddle y
    pub back_at : At d.separating j back
    pub missing : (t : Word) → t ∈ d.tests → ¬ Begins (front ++ y ++ back) t
    pub earlier : (i' : ℕ) (y' : Word) (j' : ℕ) (c s : Word) → Earlier i' y' j' i y j → At d.cover i' c → IsMiddle y' → At d.separating j' s → Begun (c ++ y' ++ s)

  pub none-missing : missing d ≡ none → (w : Word) → IsNeeded d w → Begun w
  unfolding missing
  none-missing e w n =
      let (i, at_c) = in_at n.covering in
      let (j, at_s) = in_at n.separating in
      let x = need i n.front n.middle j n.back in
      rw n.joined (lacking-false x (first-none lacking e (in_needed at_c (n.inputs, n.short) at_s)))

  pub begun_none : ((w : Word) → IsNeeded d w → Begun w) → missing d ≡ none
  unfolding missing
  begun_none h =
      none_first lacking (needed d) (λ x m. begun_lacking x (h x.word ((needed_words_lem x.word).0 (Memᴰ.map (λ (x : Need). x.word) m))))

  pub some-missing : {x : Need} → missing d ≡ some x → FirstMissing x.cover_place x.middle x.separator_place
  unfolding missing
  some-missing {x} e =
      let least = first_least NeededBefore needed_one_way lacking (needed d) needed_rising e in
      let p = of_needed least.found in
      record {
        front = p.front;
        back = p.back;
        front_at = p.front_at;
        middle = p.middle_is;
        back_at = p.back_at;
        missing = rw p.whole at (lacking-true x least.passes);
        earlier = λ i' y' j' c s before at_c is at_s. lacking-false (need i' c y' j' s) (least.earlier (need i' c y' j' s) (in_needed at_c is at_s) before);
      }

  pub missing-some : (i : ℕ) (y : Word) (j : ℕ) (f : FirstMissing i y j) → missing d ≡ some (need i f.front y j f.back)
  unfolding missing
  missing-some i y j f =
      least_first NeededBefore needed_one_way lacking (needed d) needed_rising
      (record {
        found = in_needed f.front_at f.middle f.back_at;
        passes = unbegun_lacking (need i f.front y j f.back) f.missing;
        earlier = λ x m before.
            let p = of_needed m in
            begun_lacking x (rw p.whole (f.earlier x.cover_place x.middle x.separator_place p.front p.back before p.front_at p.middle_is p.back_at));
      })
