use mathlib.Core.Path.{sym}
use Rattle.finder.proofs.Finding.{all_told}
use Rattle.finder.proofs.answer.find_words.Goals as goal

pub find_separators-count-requires-clause-all_told : goal.find_separators-count-requires-clause-all_told
find_separators-count-requires-clause-all_told c = all_told c.requires

pub find_separators-count-requires-clause-text_len : goal.find_separators-count-requires-clause-text_len
find_separators-count-requires-clause-text_len c = (sym c.text_room-text.ensures, sym c.place_room-kept.ensures)
