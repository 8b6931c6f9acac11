use Rattle.bureau_refusals.proofs.Closings.{refused_closes}
use Rattle.bureau_refusals.proofs.write_refused.Goals as goal

pub returns : goal.returns
returns c = refused_closes _ _ c.said-number.ensures.0 c.put_text-refused.ensures c.add_decimal-numbered.ensures.puts c.put_values.ensures
