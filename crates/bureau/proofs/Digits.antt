-- A bound as far as its digits were read.
use Rattle.std.proofs.Common.{◌≡◌, ℕ, ◌≤◌, List, length, drop}
use Rattle.bureau.specs.Bounds.{bound_from, bound_given}

-- the first i bytes make the number n, and the others decide
pub record Reading (s : List ℕ) (n i : ℕ) : Type 0 where
  pub within : i ≤ length s
  pub rest : bound_given s ≡ bound_from n (drop i s)
