use Rattle.importer_names.proofs.Table.{named_known, named_full, named_new}
use Rattle.importer_names.proofs.number_name.Goals as goal

pub returns-then-number-count : goal.returns-then-number-count
returns-then-number-count c = λ l at is. named_known l _ _ _ _ _ at is (c.find_name-number.ensures.0 l at is) c.if-number-count.true

pub returns-then-count-eq-MOST_NAMES : goal.returns-then-count-eq-MOST_NAMES
returns-then-count-eq-MOST_NAMES c = λ l at is. named_full l _ _ _ _ _ at is (c.find_name-number.ensures.0 l at is) c.if-number-count.false c.if-count-eq-MOST_NAMES.true

pub returns : goal.returns
returns c = λ l at is. named_new l _ _ _ _ _ at is (c.find_name-number.ensures.0 l at is) c.if-number-count.false _ _ (c.add_name.ensures l at is)
