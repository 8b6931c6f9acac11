use Rattle.hegdorvin_packing.proofs.Laws.{missing_packed}
use Rattle.hegdorvin_packing.proofs.missing.Goals as goal

pub returns : goal.returns
returns c = missing_packed c.args.cover c.args.y c.args.separator _ _ (rw c.packed_byte.ensures.0) c.inputs.ensures.0
