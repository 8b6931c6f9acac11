-- The states to which a machine is led by a word of a cover and a few inputs more: the counting lemma at a machine.
use Rattle.std.specs.Prelude.{◌≡◌, List, [], ◌∷◌, ◌++◌, ℕ, zero, suc, ◌+◌, ◌≤◌, ◌<◌, length}
use Rattle.std.proofs.Common.{inl, inr, append-nil, arith, length-append}
use Rattle.std.proofs.Math.Decide.{ℕ_discrete}
use Rattle.rules.specs.Lists.{◌∈◌}
use Rattle.rules.specs.Words.{Word, Valid}
use Rattle.rules.specs.Machines.{Machine, Complete, after}
use Rattle.theory.specs.Count.{count}
use Rattle.theory.specs.Reach.{Within, within_closed, within_more}
use Rattle.theory.specs.Lists.{some_in}
use Rattle.theory.specs.Words.{valid_append}
use Rattle.theory.specs.Machines.{after_one_more, after_small}

-- A word of the cover leads from the reset to the state `q`.
abbrev pub Start : Machine → List Word → ℕ → Type 0
Start M cover q = (c : Word) × (c ∈ cover) × (after M 0 c ≡ q)

-- The state `q` is at most `d` inputs from such a state.
abbrev pub Reached : ℕ → Machine → List Word → ℕ → ℕ → Type 0
Reached k M cover = Within M.states k M.next (Start M cover)

-- A word of the cover and at most `d` inputs more lead to the state `q`.
abbrev pub Way : ℕ → Machine → List Word → ℕ → ℕ → Type 0
Way k M cover d q = (c y : Word) × (c ∈ cover) × Valid k y × (length y ≤ d) × (after M 0 (c ++ y) ≡ q)

-- Whether one does.
pub start? : (M : Machine) (cover : List Word) (q : ℕ) → Dec (Start M cover q)
start? M cover q = some_in (λ c. ℕ_discrete (after M 0 c) q) cover

module _ (k : ℕ) (M : Machine) (cover : List Word) where
  -- A state that is reached has a way to it.
  pub way : (d q : ℕ) → Reached k M cover d q → Way k M cover d q
  way zero q (c, in_c, e) = (c, [], in_c, tt, omega arith, simp append-nil e)
  way (suc d) q (inl r) = let (c, y, in_c, v, short, e) = way d q r in (c, y, in_c, v, omega arith, e)
  way (suc d) q (inr (p, h, (i, b, (r, last)))) =
      let (c, y, in_c, v, short, e) = way d p r in
      (c, y ++ (i ∷ []), in_c, valid_append k y (i ∷ []) v (b, tt), simp length-append (omega arith), cc (after_one_more M 0 c y i))

  -- What the cover reaches is reached with any number of inputs more.
  pub reached_start : (d q : ℕ) → Start M cover q → Reached k M cover d q
  reached_start d q s = within_more M.states k M.next (Start M cover) d 0 q (omega arith) s

module _ (k : ℕ) (M : Machine) (complete : Complete k M) (cover : List Word) (valid : (c : Word) → c ∈ cover → Valid k c) where
  -- What the cover reaches is a state.
  pub start_small : (q : ℕ) → Start M cover q → q < M.states
  start_small q (c, in_c, e) = rw (← e) (after_small complete 0 c complete.start (valid c in_c))

  -- Where the cover leads to all but `d` of the states, `d` inputs more lead to all that can be reached.
  pub reached_next : (d : ℕ) → M.states ≤ count (start? M cover) M.states + d
      → (q i : ℕ) → i < k → Reached k M cover d q → Reached k M cover d (M.next q i)
  reached_next d many = within_closed M.states k M.next complete.closed (Start M cover) (start? M cover) start_small d many
