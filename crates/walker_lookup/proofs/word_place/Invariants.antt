use Rattle.walker_lookup.proofs.Lookups.{Passing}
use Rattle.walker_lookup.proofs.word_place.Given as goal

abbrev pub invariant-loop : goal.invariant-loop
invariant-loop l = Passing l.bytes l.first l.inputs l.count l.number l.word l.counter
