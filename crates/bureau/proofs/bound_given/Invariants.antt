use Rattle.bureau.proofs.Digits.{Reading}
use Rattle.bureau.proofs.bound_given.Given as goal

abbrev pub invariant-loop-byte : goal.invariant-loop-byte
invariant-loop-byte l = Reading l.digits l.number l.byte-index
