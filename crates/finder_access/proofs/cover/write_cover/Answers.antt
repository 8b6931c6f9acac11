use Rattle.std.proofs.Common.{arith, refl, ap, ◌∙◌, length}
use Rattle.rules.specs.Files.{word_bytes}
use Rattle.theory.specs.Wrote.{Wrote}
use Rattle.finder_access.specs.Reached.{word_to}
use Rattle.finder_access.proofs.Backwards.{word_bytes_length}
use Rattle.finder_access.proofs.Covering.{cover_start, cover_end, cover_longer, cover_written}
use Rattle.finder_access.proofs.cover.write_cover.Goals as goal

pub loop-q-init : goal.loop-q-init
loop-q-init c = (refl, λ u r same. (rw (cover_start u _ same), rw (cover_start u _ same)))

pub write_access-next-requires : goal.write_access-next-requires
write_access-next-requires c = record {
  held = c.requires.held;
  reaches = c.requires.reaches;
  state = omega (arith, c.numbered.ensures, c.loop-q-test.true, c.requires.few);
  fits = rw c.numbered.ensures (omega (arith, word_bytes_length (word_to c.requires.held c.loop-q.q), c.requires.fits, c.loop-q.invariant.0, (c.loop-q.invariant.1 c.requires.held c.requires.reaches c.requires.states).0, cover_longer c.requires.held c.args.states c.loop-q.q c.loop-q-test.true));
}

pub loop-q-preserved : goal.loop-q-preserved
loop-q-preserved c = (
  c.write_access-next.auto.out ∙ c.loop-q.invariant.0,
  λ u r same.
      let wrote : Wrote c.loop-q.out c.loop-q.next (word_bytes (word_to u c.loop-q.q)) _ c.write_access-next.result = rw c.numbered.ensures at (c.write_access-next.ensures u r) in
      let so_far = c.loop-q.invariant.1 u r same in
      (omega (arith, so_far.0, wrote.place, word_bytes_length (word_to u c.loop-q.q), cover_longer u c.args.states c.loop-q.q c.loop-q-test.true), cover_written u c.args.states c.loop-q.q c.loop-q-test.true _ _ _ _ wrote ∙ so_far.1),
)

pub returns : goal.returns
returns c = λ u r same.
    let so_far = c.loop-q.invariant.1 u r same in
    let none = cover_end u c.args.states c.loop-q.q c.loop-q-test.false in
    record { place = omega (arith, so_far.0, ap length none); same = rw none at so_far.1 }
