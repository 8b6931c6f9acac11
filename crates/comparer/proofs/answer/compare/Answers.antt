use Rattle.comparer.proofs.Answering.{malformed, malformed_unit, both_stand}
use Rattle.comparer.proofs.answer.compare.Goals as goal

pub compare_read-requires : goal.compare_read-requires
compare_read-requires c = both_stand c.args.dossier.now c.args.unit.now c.read_dossier.result c.read_dossier.ensures _ c.in-Ok.is c.read_unit.result c.read_unit.ensures _ c.in-Ok-read_unit.is

pub returns-in-Err-read_unit : goal.returns-in-Err-read_unit
returns-in-Err-read_unit c = malformed_unit c.args.dossier.now c.args.unit.now c.read_dossier.result c.read_dossier.ensures _ c.in-Ok.is c.read_unit.result c.read_unit.ensures c.args.out.now _ c.in-Err-read_unit.is

pub returns-in-Err : goal.returns-in-Err
returns-in-Err c = malformed c.args.dossier.now c.args.unit.now c.read_dossier.result c.read_dossier.ensures c.args.out.now _ c.in-Err.is
