use Rattle.soundness.proofs.Soundness.{lent_of, sound_refused, sound_held, sound_found}
use Rattle.soundness.proofs.sound.read_sound.Goals as goal

pub returns-in_err-x : goal.returns-in_err-x
returns-in_err-x c = sound_refused _ _ _ c.from_residual.ensures.1 c.in_err-x.ensures

pub find_unsound-requires : goal.find_unsound-requires
find_unsound-requires c = lent_of _ _ _ c.read_dossier.ensures c.in_ok-x.was

pub returns-in_err-find_unsound : goal.returns-in_err-find_unsound
returns-in_err-find_unsound c = sound_found _ _ c.in_ok-x.ensures _ _ c.from_residual-in_err-find_unsound.ensures.1 c.in_err-find_unsound.ensures

pub returns : goal.returns
returns c = sound_held _ _ c.in_ok-x.ensures c.in_ok-find_unsound.ensures
