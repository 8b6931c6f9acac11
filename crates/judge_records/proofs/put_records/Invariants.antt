use Rattle.judge_records.proofs.Filing.{Filing}
use Rattle.judge_records.proofs.put_records.Given as goal

abbrev pub invariant-loop-i : goal.invariant-loop-i
invariant-loop-i l = Filing l.sheet l.place l.inputs l.count l.i l.at l.label l.first l.next l.value l.nodes
