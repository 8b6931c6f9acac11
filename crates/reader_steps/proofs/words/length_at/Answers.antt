use Rattle.std.proofs.Common.{rules}
use lib.Dec.{leb}
use Rattle.reader_steps.proofs.words.length_at.Goals as goal

pub returns : goal.returns
returns c = c.judged_at.ensures (λ n. leb n c.args.most) (λ n said small post. search rules)
