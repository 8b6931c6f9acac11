use Rattle.std.proofs.Common.{rules}
use Rattle.rules.specs.Sizes.{counts}
use Rattle.reader_parts.proofs.machine.number_at.Goals as goal

pub returns : goal.returns
returns c = c.judged_at.ensures (counts c.args.most) (λ n said small post. search rules)
