-- Of the refusals only MISSING has the number 11, and its values are small where they fit their fields.
use Prim.Native.Nat.{ℕ}
use native.Mathlib.Omega.{arith}
use mathlib.Core.Path.{◌≡◌, refl}
use mathlib.Core.Logic.{◌≢◌}
use Rattle.rules.specs.declared.Fault.{Fault}
use Rattle.rules.specs.declared.Fault.TheVariants.{TooLong, CutShort, BadNumbers, BadTable, BadWord, Trailing}
use Rattle.rules.specs.declared.Middle.{Middle}
use Rattle.rules.specs.declared.Refusal.{Refusal}
use Rattle.rules.specs.declared.Refusal.TheVariants.{Malformed, NoEmptyWord, Unreached, NoSeparator, NotSeparated, Missing, Repeated, Foreign, Absent, OtherInputs, TooManyStates, NoRoom, NotReduced, BadLine, Contradiction, Incomplete}
use Rattle.rules.specs.Answers.{fault_number, number_of, refusing}
use Rattle.theory.specs.Bounds.{Fits, SmallRefusal}

fault_plain : (f : Fault) → fault_number f ≢ 11
fault_plain TooLong e = omega arith
fault_plain CutShort e = omega arith
fault_plain BadNumbers e = omega arith
fault_plain BadTable e = omega arith
fault_plain BadWord e = omega arith
fault_plain Trailing e = omega arith

pub plain_number : (r : Refusal) → ((c : ℕ) (y : Middle) (s : ℕ) → r ≡ Missing c y s → ⊥) → number_of r ≢ 11
plain_number (Malformed fault f p) other = fault_plain fault
plain_number NoEmptyWord other = λ e. omega arith
plain_number (Unreached f q) other = λ e. omega arith
plain_number NoSeparator other = λ e. omega arith
plain_number (NotSeparated p q) other = λ e. omega arith
plain_number (Missing c y s) other = absurd (other c y s refl)
plain_number (Repeated i) other = λ e. omega arith
plain_number (Foreign i) other = λ e. omega arith
plain_number (Absent i) other = λ e. omega arith
plain_number OtherInputs other = λ e. omega arith
plain_number TooManyStates other = λ e. omega arith
plain_number (NoRoom n) other = λ e. omega arith
plain_number (NotReduced p q) other = λ e. omega arith
plain_number (BadLine n) other = λ e. omega arith
plain_number (Contradiction n) other = λ e. omega arith
plain_number (Incomplete q i) other = λ e. omega arith

pub missing_small : (c : ℕ) (y : Middle) (s : ℕ) → Fits (refusing (Missing c y s)) → SmallRefusal (Missing c y s)
missing_small c y s fits =
    let m = fits.missing refl in
    (m.cover, m.separator, m.long, m.inputs 0 (omega arith), m.inputs 1 (omega arith), m.inputs 2 (omega arith), m.inputs 3 (omega arith), m.inputs 4 (omega arith))
