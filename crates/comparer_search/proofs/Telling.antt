-- What the search shows: the step at which outputs differ spells the first telling word, and where no step is left no word
-- tells golden and unit apart.
use Prim.Native.Nat.{ℕ, ◌+◌, ◌≤◌, ◌<◌}
use native.Mathlib.Omega.{arith}
use native.Mathlib.Decide.{ℕ_discrete, dec_lt}
use mathlib.Core.Path.{◌≡◌, refl, sym, ap, ◌∙◌}
use mathlib.Core.Logic.{◌≢◌, inl, inr}
use mathlib.Core.List.{List, [], ◌∷◌, ◌++◌, append_assoc, List-discrete}
use Rattle.rules.specs.Words.{Word, Valid}
use Rattle.rules.specs.Machines.{Machine, after, answer, answer_from}
use Rattle.theory.specs.Words.{valid_append}
use Rattle.theory.specs.Machines.{alike_rest}
use Rattle.theory.specs.Compare.{Equal}
use Rattle.comparer_pairs.specs.Pairs.{pairs, golden_of, unit_of, golden_says, unit_says}
use Rattle.comparer_pairs.specs.Queue.{step_of, pair_at, word_to}
use Rattle.comparer_search.specs.Search.{Followed, Searchable, Searched, Tells}
use Rattle.theory.specs.Orders.{AtMost, at_most_append, at_most_longer, at_most_transitive, at_most_not_after}
use Rattle.comparer_pairs.proofs.Spelled.{word_start, falls_less}
use Rattle.comparer_search.proofs.Leading.{next_golden, next_unit}
use Rattle.comparer_search.proofs.Searching.{steps_rise}

module _ (k : ℕ) (G U : Machine) (able : Searchable k G U) (marks queue : List ℕ) (step tail : ℕ) (s : Searched k G U marks queue step tail) where
  -- golden and unit answer a word alike from the pair of an entry
  abbrev AlikeAt : ℕ → Word → Type 0
  AlikeAt j v = answer_from G (golden_of (pair_at queue j)) v ≡ answer_from U (unit_of (pair_at queue j)) v

  -- they do so if they do from the pair that the first input leads to
  alike_followed : (j b : ℕ) (v : Word) → j < tail → b < k → (f : Followed G U queue tail j b) → AlikeAt f.place v → AlikeAt j (b ∷ v)
  alike_followed j b v in_j low f rest =
      let golden = ap golden_of f.pair ∙ next_golden k G U able (word_to queue j) (pair_at queue j) b (s.leads j in_j) low in
      let unit = ap unit_of f.pair ∙ next_unit k G U able (word_to queue j) (pair_at queue j) b (s.leads j in_j) low in
      let same = f.same in
      let later = sym (ap (λ g. answer_from G g v) golden) ∙ rest ∙ ap (λ u. answer_from U u v) unit in
      cc

  from_start : (v : Word) → AlikeAt 0 v → answer G v ≡ answer U v
  from_start v e = rw s.start at e

  -- where all steps have been taken, they answer every word alike
  pub searched_equal : step_of tail 0 ≤ step → Equal k G U
  searched_equal done v valid = from_start v (alike v valid 0 s.some)
    where
      alike : (v : Word) → Valid k v → (j : ℕ) → j < tail → AlikeAt j v
      alike [] valid j in_j = refl
      alike (b ∷ v) (low, valid) j in_j =
          let f = s.followed j b in_j low (omega (arith, able.few_inputs)) in
          alike_followed j b v in_j low f (alike v valid f.place f.inside)

  module _ (h i : ℕ) (is_step : step ≡ step_of h i) (in_h : h < tail) (input : i < k) (differ : golden_says G (pair_at queue h) i ≢ unit_says U (pair_at queue h) i) where
    abbrev told : Word
    told = word_to queue h ++ (i ∷ [])

    -- every step that has not been taken spells a word that is no earlier
    untaken : (j b : ℕ) → j < tail → b < k → ¬ (step_of j b < step) → AtMost told (word_to queue j ++ (b ∷ []))
    untaken j b in_j low not_before =
        elim (dec_lt (step_of h i) (step_of j b)) [
          | yes less ↦ inr (steps_rise k G U able marks queue step tail s h i j b in_h in_j (omega (arith, able.few_inputs)) (omega (arith, able.few_inputs)) less)
          | no not_less ↦
              let few = able.few_inputs in
              let ej : h ≡ j = omega arith in
              let eb : i ≡ b = omega arith in
              inl (rw (ej, eb))
        ]

    -- every word that tells from the pair of an entry comes with the word of the entry no earlier
    least : (v : Word) → Valid k v → (j : ℕ) → j < tail → ¬ AlikeAt j v → AtMost told (word_to queue j ++ v)
    least [] valid j in_j tells = absurd (tells refl)
    least (b ∷ v) (low, valid) j in_j tells =
        let whole = append_assoc (word_to queue j) (b ∷ []) v in
        rw (← whole)
        (elim (dec_lt (step_of j b) step) [
          | yes before ↦
              let f = s.followed j b in_j low before in
              at_most_transitive told (word_to queue f.place ++ v) (word_to queue j ++ (b ∷ []) ++ v)
              (least v valid f.place f.inside (λ alike. tells (alike_followed j b v in_j low f alike)))
              (at_most_append (word_to queue f.place) (word_to queue j ++ (b ∷ [])) v f.no_later)
          | no not_before ↦
              at_most_transitive told (word_to queue j ++ (b ∷ [])) (word_to queue j ++ (b ∷ []) ++ v)
              (untaken j b in_j low not_before)
              (at_most_longer (word_to queue j ++ (b ∷ [])) v)
        ])

    pub searched_tells : tail ≤ pairs → Tells k G U queue h i
    searched_tells few =
        record {
          inside = omega arith;
          falls = falls_less queue (h + 1) tail (omega arith) s.falls;
          first =
              record {
                valid = valid_append k (word_to queue h) (i ∷ []) (s.leads h in_h).valid (input, tt);
                tells = λ e.
                    let l = s.leads h in_h in
                    let last = alike_rest G U 0 0 (word_to queue h) (i ∷ []) e in
                    let outputs : G.output (after G 0 (word_to queue h)) i ≡ U.output (after U 0 (word_to queue h)) i = cc in
                    differ (ap (λ g. G.output g i) l.golden ∙ outputs ∙ sym (ap (λ u. U.output u i) l.unit));
                earlier = λ v valid before.
                    elim (List-discrete ℕ_discrete (answer G v) (answer U v)) [
                      | yes e ↦ e
                      | no ne ↦ absurd (at_most_not_after told v (rw (word_start queue) at (least v valid 0 s.some (λ alike. ne (from_start v alike)))) before)
                    ];
              };
        }
