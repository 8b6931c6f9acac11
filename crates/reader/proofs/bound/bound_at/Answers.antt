use Rattle.std.proofs.Common.{rules}
use Rattle.rules.specs.Sizes.{bound_good}
use Rattle.reader.proofs.bound.bound_at.Goals as goal

pub returns : goal.returns
returns c = c.judged_at.ensures (bound_good c.args.states) (λ b said small post. search rules)
