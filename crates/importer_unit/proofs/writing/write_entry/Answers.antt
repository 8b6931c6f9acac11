use native.Mathlib.Omega.{arith}
use mathlib.Core.Path.{refl, ap}
use Prim.Native.Nat.{◌-◌}
use lib.ListN.{get_or, length-set}
use Rattle.importer_unit.proofs.Holding.{entry_written}
use Rattle.importer_unit.proofs.writing.write_entry.Goals as goal

pub overflow_sub-out : goal.overflow_sub-out
overflow_sub-out c = omega (arith, ap (λ p. get_or c.args.ranks.now p 0) c.wide-name.ensures.0, c.requires.tables.1.some_rank, c.requires.tables.1.some_next)

pub bounds-out-at-2 : goal.bounds-out-at-2
bounds-out-at-2 c = simp length-set (omega (arith, c.requires.at_in_bounds))

pub returns : goal.returns
returns c = entry_written _ _ _ _ c.args.nexts.now c.args.outputs.now c.args.ranks.now _ (omega (arith, ap (λ p. get_or c.args.ranks.now p 0 - 1) c.wide-name.ensures.0)) refl
