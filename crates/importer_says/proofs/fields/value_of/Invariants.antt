use Rattle.importer_says.proofs.Values.{Reading}
use Rattle.importer_says.proofs.fields.value_of.Given as goal

abbrev pub invariant-loop-digit : goal.invariant-loop-digit
invariant-loop-digit l = Reading l.digits l.number l.digit-index
