-- Laws of packing, as the functions need them: the equation on the argument that a `match` gives, and what the called function ensures.
use Prim.Native.Nat.{ℕ, ◌+◌, ◌*◌}
use mathlib.Core.Path.{◌≡◌, ◌∙◌}
use mathlib.Core.Logic.{◌≢◌}
use borrow.Author.Tests.{ne_eqb}
use Rattle.rules.specs.declared.Refusal.TheVariants.{Missing}
use Rattle.rules.specs.declared.Middle.{Middle}
use Rattle.rules.specs.Answers.{Said, refusing}
use Rattle.theory.specs.Answers.{value}
use Rattle.hegdorvin_packing.specs.Packed.{packed}

-- an answer that is not MISSING
pub plain_packed : (s : Said) (n number file first second : ℕ) → n ≡ number + 32 * file + 256 * first + 4294967296 * second
    → number ≡ s.number → file ≡ s.file → first ≡ value s 0 → second ≡ value s 1 → number ≢ 11 → n ≡ packed s
unfolding packed
plain_packed s n number file first second e a b c d other =
    rw (ne_eqb s.number 11 (λ h. other (a ∙ h)), ← a, ← b, ← c, ← d) e

pub missing_packed : (cover : ℕ) (y : Middle) (separator n inputs : ℕ)
    → n ≡ 43 + 256 * cover + 16777216 * separator + 1099511627776 * y.len + 8796093022208 * inputs
    → inputs ≡ y.a.0 + 16 * y.b.0 + 256 * y.c.0 + 4096 * y.d.0 + 65536 * y.e.0
    → n ≡ packed (refusing (Missing cover y separator))
unfolding packed
missing_packed cover y separator n inputs e is = e ∙ rw is
