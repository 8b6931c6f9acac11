use native.Mathlib.Omega.{arith}
use Rattle.importer.proofs.Ranks.{power_low}
use Rattle.importer.proofs.input_count.Goals as goal

pub returns : goal.returns
returns c = omega (arith, power_low _ c.requires)
