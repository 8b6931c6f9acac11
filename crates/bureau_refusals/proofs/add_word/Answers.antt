use Rattle.std.proofs.Common.{◌≡◌, ◌<◌, sym, length}
use borrow.Author.Tests.{eqb-true, eqb-false}
use Rattle.bureau_refusals.proofs.Closings.{spelled_none, spelled_some}
use native.Mathlib.Omega.{arith}
use Rattle.bureau_refusals.proofs.add_word.Goals as goal

pub returns-then-is_empty-clause-puts : goal.returns-then-is_empty-clause-puts
returns-then-is_empty-clause-puts c = let none : length c.args.word.now ≡ 0 = omega (arith, eqb-true _ _ (sym c.if-is_empty.ensures)) in rw (spelled_none _ none) c.put_text.ensures

pub returns-then-is_empty-clause-upper_bound : goal.returns-then-is_empty-clause-upper_bound
returns-then-is_empty-clause-upper_bound c = omega (arith, c.put_text.ensures.after)

pub returns-clause-puts : goal.returns-clause-puts
returns-clause-puts c = let some : 0 < length c.args.word.now = omega (arith, eqb-false _ _ (sym c.if-is_empty.ensures)) in rw (spelled_some c.args.word.now some) c.add_hex.ensures.puts

pub returns-clause-upper_bound : goal.returns-clause-upper_bound
returns-clause-upper_bound c = omega (arith, c.add_hex.ensures.value)
