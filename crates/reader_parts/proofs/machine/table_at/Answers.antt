use Rattle.std.proofs.Common.{◌*◌, ◌≤◌, ◌≡◌, ◌∙◌, arith, rules}
use native.Mathlib.Nat.{mul-le-mul}
use Rattle.rules.specs.Reading.{entry, table}
use Rattle.theory.specs.Sections.{reads_entry}
use Rattle.reader_steps.specs.Steps.{stepping}
use Rattle.reader_steps.proofs.Laws.{keeps, cut, repeated_many}
use Rattle.reader_parts.proofs.Parts.{the_expected}
use Rattle.reader_parts.proofs.machine.table_at.Goals as goal

pub overflow_mul-entries : goal.overflow_mul-entries
overflow_mul-entries c = let states : c.wide.result ≤ 255 = omega arith in
    let inputs : c.wide-2.result ≤ 255 = omega arith in
    omega (arith, mul-le-mul states inputs)

pub returns-in_err-first : goal.returns-in_err-first
unfolding table
returns-in_err-first c = let whole : c.wide.result * c.wide-2.result ≡ c.args.states * c.args.inputs = rw (c.wide.ensures.0, c.wide-2.ensures.0) in
    rw (← whole) (cut _ _ _ _ _ _ c.from_residual.ensures.1 c.in_err-first.ensures)

pub returns : goal.returns
unfolding table
returns c = let s = c.args.bytes.now in
    let n = c.args.states in
    let whole : c.wide.result * c.wide-2.result ≡ n * c.args.inputs = rw (c.wide.ensures.0, c.wide-2.ensures.0) in
    let x = the_expected _ _ _ _ tt _ c.in_ok-first.ensures in
    rw (← whole, x.1) (c.repeat.ensures (stepping (entry n) s) (λ q r small post. search rules) ∙ repeated_many (entry n) s (keeps (reads_entry n) s) _ _)
