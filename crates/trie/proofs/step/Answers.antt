use native.Mathlib.Omega.{arith}
use Rattle.trie.proofs.Steps.{step_kept, step_made, step_full}
use Rattle.trie.proofs.step.Goals as goal

pub returns-in-Some : goal.returns-in-Some
returns-in-Some c = λ t h k. step_kept t _ _ _ _ _ _ k _ _ (c.child-met.ensures t h (omega (arith, c.requires.p_lt_count))) c.in-Some.is h

pub returns-then-label-count : goal.returns-then-label-count
returns-then-label-count c = λ t h k.
    step_full t _ _ c.args.label.now c.args.first.now c.args.next.now _ k (c.in_default.ensures t h (omega (arith, c.requires.p_lt_count))) c.if-label-count.true

pub returns : goal.returns
returns c = λ t h k.
    let none = c.in_default.ensures t h (omega (arith, c.requires.p_lt_count)) in
    step_made t _ _ _ _ _ _ k _ none (c.add-m.ensures.1 t h k none) c.add-m.ensures.0
