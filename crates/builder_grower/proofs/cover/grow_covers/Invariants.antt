use Prim.Native.Nat.{◌-◌}
use Rattle.reader.specs.Places.{words_at, WordsAt}
use Rattle.builder_branches.specs.Growing.{Separator}
use Rattle.builder_grower.proofs.Covering.{Covering}
use Rattle.builder_grower.proofs.cover.grow_covers.Given as goal

abbrev pub invariant-loop : goal.invariant-loop
invariant-loop l = WordsAt l.bytes l.word l.inputs (l.fn.x.covers - l.counter)
    × Covering l.inputs l.left (Separator l.bytes l.places l.n) (words_at l.bytes l.fn.x.cover l.fn.x.covers) (words_at l.bytes l.word (l.fn.x.covers - l.counter)) l.label l.first l.next l.done l.nodes
