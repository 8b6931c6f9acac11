-- Laws of the search for the lowest input that passes a test.
use Prim.Native.Nat.{ℕ, suc, ◌+◌, ◌-◌, ◌≤◌, ◌<◌}
use native.Mathlib.Omega.{arith}
use native.Mathlib.Numerals.{add-one}
use mathlib.Core.Path.{◌≡◌, sym, ◌∙◌}
use mathlib.Core.List.{List}
use mathlib.Core.Bool.{Bool, true, false}
use mathlib.Core.Option.{Option}
use borrow.Author.Tests.{eq-eqb, ne_eqb}
use Rattle.rules.specs.Lists.{first, numbers, numbers_from}
use Rattle.rules.specs.Machines.{Machine}
use Rattle.rules.specs.declared.Input.{Input}
use Rattle.std.specs.Prelude.{Some, None}
use Rattle.finder_distances.specs.Leads.{differs, nears, leads, lead_of}
use Rattle.finder_distances.specs.Marks.{mark_of}

module _ (test : ℕ → Bool) (k : ℕ) where
  -- what is left of the search, where no input below i passes
  abbrev pub from : ℕ → Option ℕ
  from i = first test (numbers_from i (k - i))

  pub lead_start : first test (numbers k) ≡ from 0
  lead_start = let same : k - 0 ≡ k = omega arith in rw same

  pub lead_by : (i : ℕ) (input : Input) → first test (numbers k) ≡ from i → i < k → input.0 ≡ i → test input.0 ≡ true → Some input ≡ lead_of (first test (numbers k))
  lead_by i input so_far less is passes =
      let more : k - i ≡ suc (k - suc i) = omega arith in
      let here : test i ≡ true = rw is at passes in
      rw (so_far, more, here, ← is)

  pub lead_on : (i : ℕ) (input : Input) → first test (numbers k) ≡ from i → i < k → input.0 ≡ i → test input.0 ≡ false → first test (numbers k) ≡ from (i + 1)
  lead_on i input so_far less is fails =
      let more : k - i ≡ suc (k - (i + 1)) = omega arith in
      let here : test i ≡ false = rw is at fails in
      so_far ∙ rw (more, here, ← add-one i)

  pub lead_nowhere : (i : ℕ) → first test (numbers k) ≡ from i → k ≤ i → None ≡ lead_of (first test (numbers k))
  lead_nowhere i so_far over = let done : k - i ≡ 0 = omega arith in rw (so_far, done)

-- whether the entry of the next states is d
pub near_true : (M : Machine) (m : List ℕ) (d p q i x : ℕ) → x ≡ mark_of m (M.next p i) (M.next q i) → x ≡ d → nears M m d p q i ≡ true
unfolding nears
near_true M m d p q i x is here = eq-eqb _ d (sym is ∙ here)

pub near_false : (M : Machine) (m : List ℕ) (d p q i x : ℕ) → x ≡ mark_of m (M.next p i) (M.next q i) → (x ≡ d → ⊥) → nears M m d p q i ≡ false
unfolding nears
near_false M m d p q i x is other = ne_eqb _ d (λ e. other (is ∙ e))

-- which search it is
pub leads_none : (M : Machine) (m : List ℕ) (p q d : ℕ) (o : List ℕ) → d ≡ 0 → first (differs M p q) o ≡ first (leads M m d p q) o
leads_none M m p q d o is = rw is

pub leads_some : (M : Machine) (m : List ℕ) (p q d : ℕ) (o : List ℕ) → (d ≡ 0 → ⊥) → first (nears M m d p q) o ≡ first (leads M m d p q) o
leads_some M m p q d o other = let more : d ≡ suc (d - 1) = omega arith in rw more
