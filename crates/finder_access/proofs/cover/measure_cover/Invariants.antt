use Prim.Native.Nat.{◌+◌, ◌*◌, ◌-◌, ◌≤◌}
use mathlib.Core.Path.{◌≡◌}
use mathlib.Core.List.{flat_map}
use lib.ListN.{length}
use Rattle.rules.specs.Sizes.{most_states}
use Rattle.rules.specs.Files.{UnitData, word_bytes}
use Rattle.rules.specs.Find.{found_cover}
use Rattle.finder_access.specs.Reached.{Reaches}
use Rattle.finder_access.proofs.Covering.{bytes_from}
use Rattle.finder_access.proofs.cover.measure_cover.Given as goal

abbrev pub invariant-loop-q : goal.invariant-loop-q
invariant-loop-q l = (l.n ≤ most_states * l.q) × ((u : UnitData) → Reaches u l.queue l.places → u.states ≡ l.states → l.n + length (bytes_from u l.q (l.states - l.q)) ≡ length (flat_map word_bytes (found_cover u)))
