use Rattle.builder_copyist.proofs.Writing.{front_written}
use Rattle.builder_copyist.proofs.write.write_front.Goals as goal

pub returns : goal.returns
returns c = front_written _ _ _ _ _ c.requires.0 c.requires.1 c.copy.ensures _ c.write_count.ensures
