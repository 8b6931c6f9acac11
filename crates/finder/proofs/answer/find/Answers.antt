use native.Mathlib.Omega.{arith}
use Rattle.finder.proofs.Finding.{given, malformed}
use Rattle.finder.proofs.answer.find.Goals as goal

pub find_given-requires : goal.find_given-requires
find_given-requires c = given _ _ c.read_unit.ensures _ c.in-Ok.is (λ i. omega (arith, c.type_inv.unit i))

pub returns-in-Err : goal.returns-in-Err
returns-in-Err c = malformed _ _ c.read_unit.ensures _ _ _ c.in-Err.is
