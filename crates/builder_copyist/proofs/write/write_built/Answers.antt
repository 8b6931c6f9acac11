use mathlib.Core.Path.{refl}
use native.Mathlib.Omega.{arith}
use Rattle.builder_copyist.proofs.Fitted.{deep_enough, front_room, built_written}
use Rattle.builder_copyist.proofs.write.write_built.Goals as goal

pub write_front-requires : goal.write_front-requires
write_front-requires c = front_room c.requires

pub list-requires-clause-deep : goal.list-requires-clause-deep
list-requires-clause-deep c = deep_enough c.requires.planted _ refl

pub list-requires-clause-path_len_bound : goal.list-requires-clause-path_len_bound
list-requires-clause-path_len_bound c = (omega arith, omega (arith, c.write_front.auto.out, (front_room c.requires).1))

pub returns : goal.returns
returns c = built_written c.requires _ _ _ c.list.result refl c.write_front.ensures c.list.ensures
