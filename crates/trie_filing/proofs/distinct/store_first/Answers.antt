use mathlib.Core.Path.{refl}
use Rattle.trie_filing.proofs.distinct.store_first.Goals as goal

pub returns-then-seen : goal.returns-then-seen
returns-then-seen c = rw c.if-seen.true (refl, refl, refl)

pub returns : goal.returns
returns c = rw c.if-seen.false (refl, refl, refl)
