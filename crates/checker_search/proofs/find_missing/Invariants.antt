use mathlib.Core.Path.{◌≡◌}
use Rattle.std.specs.Prelude.{None}
use Rattle.checker_search.proofs.Missing.{Covering, Going, Trying}
use Rattle.checker_search.proofs.find_missing.Given as goal

abbrev pub invariant-separator : goal.invariant-separator
invariant-separator l = (l.found ≡ None) × Trying l.bytes l.x l.from l.y l.end l.e

abbrev pub invariant-middle : goal.invariant-middle
invariant-middle l = (l.found ≡ None) × Going l.bytes l.x l.marks l.kept l.c l.word l.from l.y

abbrev pub invariant-cover : goal.invariant-cover
invariant-cover l = (l.found ≡ None) × Covering l.bytes l.x l.marks l.done l.c l.after
