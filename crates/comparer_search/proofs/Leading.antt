-- Laws of pairs: where a word and one input more lead.
use Prim.Native.Nat.{ℕ, ◌<◌}
use native.Mathlib.Omega.{arith}
use mathlib.Core.Path.{◌≡◌, sym, ap, ◌∙◌}
use mathlib.Core.List.{[], ◌∷◌, ◌++◌}
use lib.Arith.{digits_lt, digits_div, digits_mod}
use Rattle.rules.specs.Sizes.{most_states}
use Rattle.rules.specs.Words.{Word}
use Rattle.rules.specs.Machines.{Machine, after, answer_from}
use Rattle.theory.specs.Words.{valid_append}
use Rattle.theory.specs.Machines.{after_append, after_small}
use Rattle.comparer_pairs.specs.Pairs.{pairs, golden_of, unit_of, golden_says, unit_says, next_pair}
use Rattle.comparer_search.specs.Search.{Leads, Searchable}

-- two machines that answer a word alike, and then what comes after it, answer the whole alike
alike_append : (G U : Machine) (p q : ℕ) (x y : Word) → answer_from G p x ≡ answer_from U q x → answer_from G (after G p x) y ≡ answer_from U (after U q x) y
    → answer_from G p (x ++ y) ≡ answer_from U q (x ++ y)
alike_append G U p q [] y first rest = rest
alike_append G U p q (i ∷ x) y first rest = cc (alike_append G U (G.next p i) (U.next q i) x y (cc) rest)

module _ (k : ℕ) (G U : Machine) (able : Searchable k G U) where
  pub leads_small : (w : Word) (p : ℕ) → Leads k G U w p → (golden_of p < G.states) × (unit_of p < U.states)
  leads_small w p l = (
    rw l.golden (after_small able.golden 0 w able.golden.start l.valid),
    rw l.unit (after_small able.unit 0 w able.unit.start l.valid),
  )

  module _ (w : Word) (p i : ℕ) (l : Leads k G U w p) (input : i < k) where
    next_small : U.next (unit_of p) i < most_states
    next_small = omega (arith, able.unit.closed (unit_of p) i (leads_small w p l).1 input, able.few_units)

    pub next_pair_small : next_pair G U p i < pairs
    unfolding next_pair
    next_pair_small =
        let golden_small : G.next (golden_of p) i < most_states = omega (arith, able.golden.closed (golden_of p) i (leads_small w p l).0 input, able.few_states) in
        digits_lt golden_small next_small

    pub next_golden : golden_of (next_pair G U p i) ≡ G.next (golden_of p) i
    unfolding next_pair
    next_golden = digits_div (G.next (golden_of p) i) next_small

    pub next_unit : unit_of (next_pair G U p i) ≡ U.next (unit_of p) i
    unfolding next_pair
    next_unit = digits_mod (G.next (golden_of p) i) next_small

    -- one input more
    pub leads_more : golden_says G p i ≡ unit_says U p i → Leads k G U (w ++ (i ∷ [])) (next_pair G U p i)
    leads_more same =
        record {
          valid = valid_append k w (i ∷ []) l.valid (input, tt);
          golden = next_golden ∙ rw l.golden (sym (after_append G 0 w (i ∷ [])));
          unit = next_unit ∙ rw l.unit (sym (after_append U 0 w (i ∷ [])));
          alike = alike_append G U 0 0 w (i ∷ []) l.alike (one (sym (ap (λ g. G.output g i) l.golden) ∙ same ∙ ap (λ u. U.output u i) l.unit));
        }
      where
        one : {g u : ℕ} → G.output g i ≡ U.output u i → answer_from G g (i ∷ []) ≡ answer_from U u (i ∷ [])
        one e = cc
