-- How far apart two states of a machine are: the least number of inputs of a word that tells them apart (document 02, L1). Laws for a
-- program that marks pairs of states by rounds, one for each number of inputs, and reads the first telling words off the marks.
use Rattle.std.specs.Prelude.{ℕ, suc, ◌-◌, ◌≤◌, ◌<◌, ◌≡◌, refl, ◌≢◌, ◌⊎◌, length}
use Rattle.std.proofs.Common.{arith, sym, inl, inr}
use Rattle.std.proofs.Math.Decide.{ℕ_discrete, dec_lt}
use mathlib.Core.List.{[], ◌∷◌, List-discrete}
use Rattle.std.proofs.lemmas.Bool.{false≢true}
use Rattle.rules.specs.Words.{Word, Valid, by_inputs}
use Rattle.rules.specs.Machines.{Machine, Complete, answer_from}
use Rattle.theory.specs.Count.{least}
use Rattle.theory.specs.Orders.{ByLength, first_then_says, shorter_first, by_length_short}
use Rattle.theory.specs.Classes.{ToldWithin, told?, told_soon}
use Rattle.theory.specs.Access.{FirstTold}

-- some word of r inputs tells p and q apart, and none of fewer
pub record Distance (k : ℕ) (M : Machine) (p q r : ℕ) : Type 0 where
  pub told : ToldWithin k M r p q
  pub no_shorter : (s : ℕ) → s < r → ¬ ToldWithin k M s p q

-- the mark x that a pair has after r rounds: 0 where no word of at most r inputs tells p and q apart, else their distance
pub record Marked (k : ℕ) (M : Machine) (r p q x : ℕ) : Type 0 where
  pub unmarked : x ≡ 0 → ¬ ToldWithin k M r p q
  pub marked : 0 < x → (x ≤ r) × Distance k M p q x

module _ (k : ℕ) (M : Machine) where
  told_more : (r s p q : ℕ) → r ≤ s → ToldWithin k M r p q → ToldWithin k M s p q
  told_more r s p q le (w, valid, short, tells) = (w, valid, omega arith, tells)

  -- No word of no inputs tells anything, and none tells a state from itself.
  pub told_zero : (p q : ℕ) → ¬ ToldWithin k M 0 p q
  told_zero p q ([], valid, short, tells) = tells refl
  told_zero p q (i ∷ w, valid, short, tells) = omega arith

  pub told_same : (r p : ℕ) → ¬ ToldWithin k M r p p
  told_same r p (w, valid, short, tells) = tells refl

  -- The pair the other way round.
  pub told_swap : (r p q : ℕ) → ToldWithin k M r p q → ToldWithin k M r q p
  told_swap r p q (w, valid, short, tells) = (w, valid, short, λ e. tells (sym e))

  -- Different outputs tell at once, and what tells the next states tells with one input more.
  pub told_output : (p q i : ℕ) → i < k → M.output p i ≢ M.output q i → ToldWithin k M 1 p q
  told_output p q i h differ = (i ∷ [], (h, tt), omega arith, λ e. differ (cc))

  pub told_next : (r p q i : ℕ) → i < k → ToldWithin k M r (M.next p i) (M.next q i) → ToldWithin k M (suc r) p q
  told_next r p q i h (w, valid, short, tells) = (i ∷ w, (h, valid), omega arith, λ e. tells (cc))

  -- Nothing else does.
  pub told_first_input : (r p q : ℕ) → ToldWithin k M (suc r) p q
      → ((i : ℕ) × (i < k) × (M.output p i ≢ M.output q i)) ⊎ ((i : ℕ) × (i < k) × ToldWithin k M r (M.next p i) (M.next q i))
  told_first_input r p q ([], valid, short, tells) = absurd (tells refl)
  told_first_input r p q (i ∷ w, (h, valid), short, tells) =
      elim (ℕ_discrete (M.output p i) (M.output q i)) [
        | no differ ↦ inl (i, h, differ)
        | yes same ↦ inr (i, h, (w, valid, omega arith, λ e. tells (cc)))
      ]

  -- States with the same outputs are told apart by no single input.
  pub outputs_alike : (p q : ℕ) → ((i : ℕ) → i < k → M.output p i ≡ M.output q i) → ¬ ToldWithin k M 1 p q
  outputs_alike p q same told =
      elim (told_first_input 0 p q told) [ inl (i, h, differ) ↦ differ (same i h) | inr (i, h, next) ↦ told_zero (M.next p i) (M.next q i) next ]

  -- A word that is not told by the words of at most r inputs is answered alike.
  untold_alike : (r p q : ℕ) → ¬ ToldWithin k M r p q → (w : Word) → Valid k w → length w ≤ r → answer_from M p w ≡ answer_from M q w
  untold_alike r p q untold w valid short =
      elim (List-discrete ℕ_discrete (answer_from M p w) (answer_from M q w)) [ yes e ↦ e | no differ ↦ absurd (untold (w, valid, short, differ)) ]

  -- Two states that a word of at most r inputs tells apart have a distance, of at most r; and only one.
  pub told_distance : (r p q : ℕ) → ToldWithin k M r p q → (s : ℕ) × (s ≤ r) × Distance k M p q s
  told_distance r p q told =
      let (s, le, (here, none)) = least (λ s. told? k M s p q) r told in
      (s, le, record { told = here; no_shorter = none })

  pub one_distance : (p q r s : ℕ) → Distance k M p q r → Distance k M p q s → r ≡ s
  one_distance p q r s d d' =
      elim (ℕ_discrete r s) [
        | yes e ↦ e
        | no ne ↦ absurd (apart r s d d' ne)
      ]
    where
      apart : (r s : ℕ) → Distance k M p q r → Distance k M p q s → r ≢ s → ⊥
      apart r s d d' ne = elim (dec_lt r s) [ yes less ↦ d'.no_shorter r less d.told | no more ↦ d.no_shorter s (omega arith) d'.told ]

  -- The first telling word has so many inputs.
  pub first_distance : (p q : ℕ) (w : Word) → FirstTold k M p q w → Distance k M p q (length w)
  first_distance p q w f =
      record {
        told = (w, f.valid, omega arith, f.tells);
        no_shorter = λ s less (v, valid, short, tells). tells (f.earlier v valid (shorter_first v w (omega arith)));
      }

  -- At distance 1 the first telling word is the lowest input with different outputs.
  pub first_one : (p q i : ℕ) → i < k → M.output p i ≢ M.output q i → ((j : ℕ) → j < i → M.output p j ≡ M.output q j) → FirstTold k M p q (i ∷ [])
  first_one p q i h differ lower =
      record { valid = (h, tt); tells = λ e. differ (cc); earlier = earlier }
    where
      earlier : (v : Word) → Valid k v → ByLength v (i ∷ []) → answer_from M p v ≡ answer_from M q v
      earlier [] valid before = refl
      earlier (j ∷ []) valid before =
          elim ((first_then_says 1 1 (by_inputs (j ∷ []) (i ∷ []))).0 before) [
            | inl less ↦ absurd (omega arith)
            | inr (e, inputs) ↦
                elim ((first_then_says j i (by_inputs [] [])).0 inputs) [ inl less ↦ cc (lower j less) | inr (e', no_more) ↦ absurd (false≢true no_more) ]
          ]
      earlier (j ∷ l ∷ v) valid before = absurd (omega (arith, by_length_short (j ∷ l ∷ v) (i ∷ []) before))

  -- At a greater distance no input gives different outputs, and no next pair is nearer than one less.
  pub far_outputs : (p q r i : ℕ) → Distance k M p q (suc (suc r)) → i < k → M.output p i ≡ M.output q i
  far_outputs p q r i d h =
      elim (ℕ_discrete (M.output p i) (M.output q i)) [ yes e ↦ e | no differ ↦ absurd (d.no_shorter 1 (omega arith) (told_output p q i h differ)) ]

  pub far_next : (p q r i s : ℕ) → Distance k M p q (suc (suc r)) → i < k → s ≤ r → ¬ ToldWithin k M s (M.next p i) (M.next q i)
  far_next p q r i s d h less told = d.no_shorter (suc s) (omega arith) (told_next s p q i h told)

  -- There is such an input, and such a next pair.
  pub near_some : (p q : ℕ) → Distance k M p q 1 → (i : ℕ) × (i < k) × (M.output p i ≢ M.output q i)
  near_some p q d =
      elim (told_first_input 0 p q d.told) [ inl here ↦ here | inr (i, h, next) ↦ absurd (told_zero (M.next p i) (M.next q i) next) ]

  pub far_some : (p q r : ℕ) → Distance k M p q (suc (suc r)) → (i : ℕ) × (i < k) × Distance k M (M.next p i) (M.next q i) (suc r)
  far_some p q r d =
      elim (told_first_input (suc r) p q d.told) [
        | inl (i, h, differ) ↦ absurd (differ (far_outputs p q r i d h))
        | inr (i, h, next) ↦ (i, h, record { told = next; no_shorter = λ s less. far_next p q r i s d h (omega arith) })
      ]

  -- There the first telling word is the lowest input whose next pair is one nearer, and then the first telling word of that pair.
  pub first_more : (p q r i : ℕ) (v : Word) → Distance k M p q (suc (suc r)) → i < k → Distance k M (M.next p i) (M.next q i) (suc r)
      → ((j : ℕ) → j < i → ¬ Distance k M (M.next p j) (M.next q j) (suc r)) → FirstTold k M (M.next p i) (M.next q i) v → FirstTold k M p q (i ∷ v)
  first_more p q r i v d h next lower f =
      record { valid = (h, f.valid); tells = λ e. f.tells (cc); earlier = earlier }
    where
      long : length v ≡ suc r
      long = one_distance (M.next p i) (M.next q i) (length v) (suc r) (first_distance (M.next p i) (M.next q i) v f) next

      -- no lower input has a next pair that a word of that length tells
      lower_untold : (j : ℕ) → j < i → ¬ ToldWithin k M (suc r) (M.next p j) (M.next q j)
      lower_untold j less told =
          let small : j < k = omega arith in
          let (s, le, near) = told_distance (suc r) (M.next p j) (M.next q j) told in
          elim (ℕ_discrete s (suc r)) [
            | yes e ↦ lower j less (rw e at near)
            | no ne ↦ far_next p q r j s d small (omega arith) near.told
          ]

      same_outputs : (j : ℕ) → j < k → M.output p j ≡ M.output q j
      same_outputs j small = far_outputs p q r j d small

      earlier : (x : Word) → Valid k x → ByLength x (i ∷ v) → answer_from M p x ≡ answer_from M q x
      earlier [] valid before = refl
      earlier (j ∷ x) (small, valid) before =
          elim ((first_then_says (length (j ∷ x)) (length (i ∷ v)) (by_inputs (j ∷ x) (i ∷ v))).0 before) [
            | inl less ↦ untold_alike (suc r) p q (d.no_shorter (suc r) (omega arith)) (j ∷ x) (small, valid) (omega (arith, long))
            | inr (e, inputs) ↦
                elim ((first_then_says j i (by_inputs x v)).0 inputs) [
                  | inl less ↦
                      cc (same_outputs j small, untold_alike (suc r) (M.next p j) (M.next q j) (lower_untold j less) x valid (omega (arith, long)))
                  | inr (is, more) ↦
                      let before' : ByLength x v = (first_then_says (length x) (length v) (by_inputs x v)).1 (inr (omega arith, more)) in
                      cc (same_outputs j small, f.earlier x valid before')
                ]
          ]

  -- The pair the other way round has the same distance and the same mark; a state and itself have none.
  pub distance_swap : (p q r : ℕ) → Distance k M p q r → Distance k M q p r
  distance_swap p q r d = record { told = told_swap r p q d.told; no_shorter = λ s less told. d.no_shorter s less (told_swap s q p told) }

  pub marked_swap : (r p q x : ℕ) → Marked k M r p q x → Marked k M r q p x
  marked_swap r p q x m =
      record {
        unmarked = λ e told. m.unmarked e (told_swap r q p told);
        marked = λ some. let (le, d) = m.marked some in (le, distance_swap p q x d);
      }

  pub marked_same : (r p : ℕ) → Marked k M r p p 0
  marked_same r p = record { unmarked = λ e. told_same r p; marked = λ some. absurd (omega arith) }

  -- A mark is the distance, where that is no more than the rounds.
  pub mark_distance : (r p q x s : ℕ) → Marked k M r p q x → Distance k M p q s → s ≤ r → x ≡ s
  mark_distance r p q x s m d le =
      elim (ℕ_discrete x 0) [
        | yes none ↦ absurd (m.unmarked none (told_more s r p q le d.told))
        | no ne ↦ one_distance p q x s (m.marked (omega arith)).1 d
      ]

  -- The rounds. Before the first round nothing is marked;
  pub marked_start : (p q : ℕ) → Marked k M 0 p q 0
  marked_start p q = record { unmarked = λ e. told_zero p q; marked = λ some. absurd (omega arith) }

  -- a mark stays; a pair without one gets the number of the round where a word of so many inputs tells it, and none otherwise.
  pub marked_stays : (r p q x : ℕ) → 0 < x → Marked k M r p q x → Marked k M (suc r) p q x
  marked_stays r p q x some m =
      let (le, d) = m.marked some in
      record { unmarked = λ e. absurd (omega arith); marked = λ more. (omega arith, d) }

  pub marked_new : (r p q : ℕ) → Marked k M r p q 0 → ToldWithin k M (suc r) p q → Marked k M (suc r) p q (suc r)
  marked_new r p q m told =
      record {
        unmarked = λ e. absurd (omega arith);
        marked = λ some. (
          omega arith,
          record { told = told; no_shorter = λ s less sooner. m.unmarked refl (told_more s r p q (omega arith) sooner) },
        );
      }

  pub marked_none : (r p q : ℕ) → ¬ ToldWithin k M (suc r) p q → Marked k M (suc r) p q 0
  marked_none r p q untold = record { unmarked = λ e. untold; marked = λ some. absurd (omega arith) }

  -- In the first round a pair is told by different outputs (`told_output`, `outputs_alike`). In a later one it is told by an input
  -- whose next pair has the mark of the round before. It does not matter whether this round has passed that pair already.
  pub round_told : (r p q i y : ℕ) → 0 < r → i < k → Marked k M r (M.next p i) (M.next q i) y ⊎ Marked k M (suc r) (M.next p i) (M.next q i) y
      → y ≡ r → ToldWithin k M (suc r) p q
  round_told r p q i y some h m is = told_next r p q i h (elim m [ inl now ↦ here (now.marked (omega arith)).1 | inr later ↦ here (later.marked (omega arith)).1 ])
    where
      here : Distance k M (M.next p i) (M.next q i) y → ToldWithin k M r (M.next p i) (M.next q i)
      here d = rw is at d.told

  pub round_untold : (r p q : ℕ) → 0 < r → Marked k M r p q 0
      → ((i : ℕ) → i < k → (y : ℕ) × (Marked k M r (M.next p i) (M.next q i) y ⊎ Marked k M (suc r) (M.next p i) (M.next q i) y) × (y ≢ r))
      → ¬ ToldWithin k M (suc r) p q
  round_untold r p q some m nexts told =
      elim (told_first_input r p q told) [
        | inl (i, h, differ) ↦ m.unmarked refl (told_more 1 r p q some (told_output p q i h differ))
        | inr (i, h, next) ↦
            let (y, now, other) = nexts i h in
            let (s, le, d) = told_distance r (M.next p i) (M.next q i) next in
            let is : y ≡ s =
            elim now [ inl x ↦ mark_distance r (M.next p i) (M.next q i) y s x d le | inr x ↦ mark_distance (suc r) (M.next p i) (M.next q i) y s x d (omega arith) ]
            in
            m.unmarked refl (told_more (suc s) r p q (omega arith) (told_next s p q i h d.told))
      ]

  -- After n - 1 rounds a pair without a mark is told by no word of any length.
  pub marked_end : Complete k M → (p q : ℕ) → p < M.states → q < M.states → Marked k M (M.states - 1) p q 0
      → (w : Word) → Valid k w → answer_from M p w ≡ answer_from M q w
  marked_end complete p q state_p state_q m w valid =
      elim (List-discrete ℕ_discrete (answer_from M p w) (answer_from M q w)) [
        | yes e ↦ e
        | no differ ↦
            let (v, valid_v, short, told) = told_soon complete p q state_p state_q w valid differ in
            absurd (m.unmarked refl (v, valid_v, omega arith, told))
      ]

  -- Where a round marks no pair, no later one does.
  pub marked_still : Complete k M → (r : ℕ) (m : ℕ → ℕ → ℕ) → 0 < r → ((p q : ℕ) → p < M.states → q < M.states → Marked k M r p q (m p q) × (m p q ≢ r))
      → (p q : ℕ) → p < M.states → q < M.states → Marked k M (suc r) p q (m p q) × (m p q ≢ suc r)
  marked_still complete r m some still p q hp hq =
      let (here, other) = still p q hp hq in
      elim (ℕ_discrete (m p q) 0) [
        | no ne ↦ let (le, d) = here.marked (omega arith) in (marked_stays r p q (m p q) (omega arith) here, λ e. omega arith)
        | yes none ↦ (
          rw none
              (marked_none r p q
              (round_untold r p q some (rw none at here)
              (λ i h.
              let (next, other') = still (M.next p i) (M.next q i) (complete.closed p i hp h) (complete.closed q i hq h) in
              (m (M.next p i) (M.next q i), inl next, other')))),
          λ e. omega arith,
        )
      ]

  -- Reading the first telling words off a table of marks after r rounds: at the mark 1 the lowest input with different outputs (`first_one`),
  -- which there is; at a greater mark the lowest input whose next pair has the mark that is one less, which there is.
  module _ (complete : Complete k M) (r : ℕ) (m : ℕ → ℕ → ℕ) (all : (p q : ℕ) → p < M.states → q < M.states → Marked k M r p q (m p q)) (p q : ℕ) (state_p : p < M.states) (state_q : q < M.states) where
    next_marked : (i : ℕ) → i < k → Marked k M r (M.next p i) (M.next q i) (m (M.next p i) (M.next q i))
    next_marked i h = all (M.next p i) (M.next q i) (complete.closed p i state_p h) (complete.closed q i state_q h)

    pub read_last : m p q ≡ 1 → (i : ℕ) × (i < k) × (M.output p i ≢ M.output q i)
    read_last e = near_some p q (rw e at ((all p q state_p state_q).marked (omega arith)).1)

    far : (x : ℕ) → m p q ≡ suc (suc x) → (suc (suc x) ≤ r) × Distance k M p q (suc (suc x))
    far x e = let (le, d) = (all p q state_p state_q).marked (omega arith) in (omega arith, rw e at d)

    pub read_on : (x : ℕ) → m p q ≡ suc (suc x) → (i : ℕ) × (i < k) × (m (M.next p i) (M.next q i) ≡ suc x)
    read_on x e =
        let (le, d) = far x e in
        let (i, h, near) = far_some p q x d in
        (i, h, mark_distance r (M.next p i) (M.next q i) _ (suc x) (next_marked i h) near (omega arith))

    pub read_first : (x i : ℕ) (v : Word) → m p q ≡ suc (suc x) → i < k → m (M.next p i) (M.next q i) ≡ suc x
        → ((j : ℕ) → j < i → m (M.next p j) (M.next q j) ≢ suc x) → FirstTold k M (M.next p i) (M.next q i) v → FirstTold k M p q (i ∷ v)
    read_first x i v e h is lower f =
        let (le, d) = far x e in
        first_more p q x i v d h (rw is at ((next_marked i h).marked (omega arith)).1)
        (λ j less near. lower j less (mark_distance r (M.next p j) (M.next q j) _ (suc x) (next_marked j (omega arith)) near (omega arith))) f
