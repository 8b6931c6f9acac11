-- Laws of the byte for m.
use Prim.Native.Nat.{ℕ, zero, suc, ◌+◌, ◌-◌, ◌≤◌, ◌<◌}
use mathlib.Core.Path.{◌≡◌, refl}
use mathlib.Core.Bool.{false}
use native.Mathlib.Decide.{dec_le}
use native.Mathlib.Omega.{arith}
use borrow.Author.Tests.{le-leb, lt-leb}
use lib.Dec.{leb}
use Rattle.rules.specs.Sizes.{most_states, most_added_states, bound_of, bound_good}

pub bound_byte : (n b : ℕ) → (b ≡ 0 → ⊥) → b ≡ bound_of n b
bound_byte n zero some = absurd (some refl)
bound_byte n (suc b) some = refl

-- m is the bound that the byte b stands for
module _ (n b m : ℕ) (e : m ≡ bound_of n b) where
  pub bound_below : m < n → false ≡ bound_good n b
  bound_below below = let h : bound_of n b < n = omega arith in rw (lt-leb n (bound_of n b) h)

  pub bound_over : n ≤ m → most_states < m → leb m most_states ≡ bound_good n b
  bound_over least over =
      let h : n ≤ bound_of n b = omega arith in
      let h' : most_states < bound_of n b = omega arith in
      rw (e, le-leb n (bound_of n b) h, lt-leb (bound_of n b) most_states h')

  pub bound_near : n ≤ m → m ≤ most_states → leb (m - n) most_added_states ≡ bound_good n b
  bound_near least most =
      let h : n ≤ bound_of n b = omega arith in
      let h' : bound_of n b ≤ most_states = omega arith in
      rw (e, le-leb n (bound_of n b) h, le-leb (bound_of n b) most_states h') (elim (dec_le (bound_of n b) (n + most_added_states)) [
        | yes near ↦ let d : bound_of n b - n ≤ most_added_states = omega arith in rw (le-leb (bound_of n b - n) most_added_states d, le-leb (bound_of n b) (n + most_added_states) near)
        | no far ↦ let d : most_added_states < bound_of n b - n = omega arith in let d' : n + most_added_states < bound_of n b = omega arith in rw (lt-leb (bound_of n b - n) most_added_states d, lt-leb (bound_of n b) (n + most_added_states) d')
      ])
