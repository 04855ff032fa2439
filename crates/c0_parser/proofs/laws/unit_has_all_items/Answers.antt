use Rattle.c0_parser.proofs.UnitsAreItems.{made_of_items, items_read, count_items}
use Rattle.c0_parser.proofs.laws.unit_has_all_items.Goals as goal

pub returns-clause-made : goal.returns-clause-made
returns-clause-made c = made_of_items

pub returns-clause-reads : goal.returns-clause-reads
returns-clause-reads c = items_read

pub returns-clause-count : goal.returns-clause-count
returns-clause-count c = count_items
