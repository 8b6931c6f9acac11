use mathlib.Core.Path.{◌∙◌}
use native.Mathlib.Omega.{arith}
use Rattle.refusals.proofs.said.Goals as goal

pub returns-in-Malformed : goal.returns-in-Malformed
returns-in-Malformed c = rw c.in-Malformed.is (let e = c.says.ensures in (e.0 ∙ c.number.ensures.0, omega (arith, e.0, c.number.ensures.1), e.1, e.2, e.3))

pub returns-in-NoEmptyWord : goal.returns-in-NoEmptyWord
returns-in-NoEmptyWord c = rw c.in-NoEmptyWord.is (let e = c.says-in-NoEmptyWord.ensures in (e.0, omega (arith, e.0), e.1, e.2, e.3))

pub returns-in-Unreached : goal.returns-in-Unreached
returns-in-Unreached c = rw c.in-Unreached.is (let e = c.says-in-Unreached.ensures in (e.0, omega (arith, e.0), e.1, e.2 ∙ c.number-in-Unreached.ensures, e.3))

pub returns-in-NoSeparator : goal.returns-in-NoSeparator
returns-in-NoSeparator c = rw c.in-NoSeparator.is (let e = c.says-in-NoSeparator.ensures in (e.0, omega (arith, e.0), e.1, e.2, e.3))

pub returns-in-NotSeparated : goal.returns-in-NotSeparated
returns-in-NotSeparated c = rw c.in-NotSeparated.is (let e = c.says-in-NotSeparated.ensures in (e.0, omega (arith, e.0), e.1, e.2 ∙ c.number-in-NotSeparated.ensures, e.3 ∙ c.number-in-NotSeparated-2.ensures))

pub returns-in-Missing : goal.returns-in-Missing
returns-in-Missing c = rw c.in-Missing.is (let e = c.says-in-Missing.ensures in (e.0, omega (arith, e.0), e.1, e.2, e.3))

pub returns-in-Repeated : goal.returns-in-Repeated
returns-in-Repeated c = rw c.in-Repeated.is (let e = c.says-in-Repeated.ensures in (e.0, omega (arith, e.0), e.1, e.2, e.3))

pub returns-in-Foreign : goal.returns-in-Foreign
returns-in-Foreign c = rw c.in-Foreign.is (let e = c.says-in-Foreign.ensures in (e.0, omega (arith, e.0), e.1, e.2, e.3))

pub returns-in-Absent : goal.returns-in-Absent
returns-in-Absent c = rw c.in-Absent.is (let e = c.says-in-Absent.ensures in (e.0, omega (arith, e.0), e.1, e.2, e.3))

pub returns-in-OtherInputs : goal.returns-in-OtherInputs
returns-in-OtherInputs c = rw c.in-OtherInputs.is (let e = c.says-in-OtherInputs.ensures in (e.0, omega (arith, e.0), e.1, e.2, e.3))

pub returns-in-TooManyStates : goal.returns-in-TooManyStates
returns-in-TooManyStates c = rw c.in-TooManyStates.is (let e = c.says-in-TooManyStates.ensures in (e.0, omega (arith, e.0), e.1, e.2, e.3))

pub returns-in-NoRoom : goal.returns-in-NoRoom
returns-in-NoRoom c = rw c.in-NoRoom.is (let e = c.says-in-NoRoom.ensures in (e.0, omega (arith, e.0), e.1, e.2, e.3))

pub returns-in-NotReduced : goal.returns-in-NotReduced
returns-in-NotReduced c = rw c.in-NotReduced.is (let e = c.says-in-NotReduced.ensures in (e.0, omega (arith, e.0), e.1, e.2 ∙ c.number-in-NotReduced.ensures, e.3 ∙ c.number-in-NotReduced-2.ensures))

pub returns-in-BadLine : goal.returns-in-BadLine
returns-in-BadLine c = rw c.in-BadLine.is (let e = c.says-in-BadLine.ensures in (e.0, omega (arith, e.0), e.1, e.2, e.3))

pub returns-in-Contradiction : goal.returns-in-Contradiction
returns-in-Contradiction c = rw c.in-Contradiction.is (let e = c.says-in-Contradiction.ensures in (e.0, omega (arith, e.0), e.1, e.2, e.3))

pub returns-in-Incomplete : goal.returns-in-Incomplete
returns-in-Incomplete c = rw c.in-Incomplete.is (let e = c.says-in-Incomplete.ensures in (e.0, omega (arith, e.0), e.1, e.2 ∙ c.number-in-Incomplete.ensures, e.3 ∙ c.number-in-Incomplete-2.ensures))
