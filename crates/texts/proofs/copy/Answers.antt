use Prim.Native.Nat.{◌+◌}
use native.Mathlib.Omega.{arith}
use native.Mathlib.Numerals.{add-one}
use mathlib.Core.Path.{◌≡◌, refl}
use lib.ListN.{length-set}
use lib.Seq.{paste-zero, paste-suc}
use Rattle.texts.proofs.copy.Goals as goal

pub loop-i-init : goal.loop-i-init
loop-i-init c = record { pasted = paste-zero c.args.out.now c.args.at c.args.text.now; long = refl }

pub loop-i-preserved : goal.loop-i-preserved
loop-i-preserved c = record {
  pasted = rw (c.loop-i.invariant.pasted, add-one) (paste-suc c.args.out.now c.args.at c.args.text.now c.loop-i.i 0 (omega arith) (omega arith));
  long = simp length-set c.loop-i.invariant.long;
}

pub returns : goal.returns
returns c = let e : c.loop-i.i ≡ c.args.n = omega arith in rw (← e) c.loop-i.invariant.pasted
