use mathlib.Core.Path.{sym}
use Rattle.finder_separators.proofs.kept.find_kept.Goals as goal

pub find_in-requires-clause-text_at : goal.find_in-requires-clause-text_at
find_in-requires-clause-text_at c = c.requires.text_at

pub find_in-requires-clause-numbers_len : goal.find_in-requires-clause-numbers_len
find_in-requires-clause-numbers_len c = (sym c.place_room-numbers.ensures, c.requires.places_len)
