use Rattle.judge_pairing.proofs.first_refusal.Goals as goal

pub returns-in-Some : goal.returns-in-Some
returns-in-Some c = rw c.in-Some.is

pub returns-in-Some-absent : goal.returns-in-Some-absent
returns-in-Some-absent c = rw (c.in_default.is, c.in-Some-absent.is)
