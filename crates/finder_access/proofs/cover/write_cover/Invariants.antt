use Prim.Native.Nat.{◌+◌, ◌-◌}
use mathlib.Core.Path.{◌≡◌}
use mathlib.Core.List.{flat_map}
use lib.ListN.{length}
use Rattle.rules.specs.Files.{UnitData, word_bytes}
use Rattle.rules.specs.Find.{found_cover}
use lib.Seq.{sets}
use Rattle.finder_access.specs.Reached.{Reaches}
use Rattle.finder_access.proofs.Covering.{bytes_from}
use Rattle.finder_access.proofs.cover.write_cover.Given as goal

abbrev pub invariant-loop-q : goal.invariant-loop-q
invariant-loop-q l = (length l.out ≡ length l.initial.out) × ((u : UnitData) → Reaches u l.queue l.places → u.states ≡ l.states → (l.next + length (bytes_from u l.q (l.states - l.q)) ≡ l.at + length (flat_map word_bytes (found_cover u))) × (sets l.out l.next (bytes_from u l.q (l.states - l.q)) ≡ sets l.initial.out l.at (flat_map word_bytes (found_cover u))))
