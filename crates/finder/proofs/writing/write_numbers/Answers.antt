use native.Mathlib.Omega.{arith}
use lib.ListN.{length-set}
use Rattle.finder.proofs.Sections.{numbers_at, numbers_written}
use Rattle.finder.proofs.writing.write_numbers.Goals as goal

pub bounds-out-at : goal.bounds-out-at
bounds-out-at c = let (place, long) = numbers_at c.write_count-at.ensures c.requires in omega arith

pub overflow_add-out : goal.overflow_add-out
overflow_add-out c = let (place, long) = numbers_at c.write_count-at.ensures c.requires in omega arith

pub bounds-out-at-2 : goal.bounds-out-at-2
bounds-out-at-2 c = let (place, long) = numbers_at c.write_count-at.ensures c.requires in simp length-set (omega arith)

pub overflow_add-out-2 : goal.overflow_add-out-2
overflow_add-out-2 c = let (place, long) = numbers_at c.write_count-at.ensures c.requires in omega arith

pub bounds-out-at-3 : goal.bounds-out-at-3
bounds-out-at-3 c = let (place, long) = numbers_at c.write_count-at.ensures c.requires in simp length-set (omega arith)

pub overflow_add-result : goal.overflow_add-result
overflow_add-result c = let (place, long) = numbers_at c.write_count-at.ensures c.requires in omega arith

pub returns : goal.returns
returns c = numbers_written c.write_count-at.ensures _ _ _
