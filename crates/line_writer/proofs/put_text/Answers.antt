use Rattle.std.proofs.Common.{arith, length, refl}
use Rattle.std.proofs.lemmas.Slice.{put_mid-paste}
use Rattle.line_writer.proofs.Writing.{puts_text}
use Rattle.line_writer.proofs.put_text.Goals as goal

pub returns : goal.returns
returns c =
    puts_text _ _ _ _ c.requires
    (put_mid-paste _ _ _ _ c.args.fixed.now (length c.args.fixed.now) c.copy_from_slice.ensures.after (omega arith) refl)
