-- A file that is placed leaves the files of other names as they are.
use Rattle.std.proofs.Common.{arith}
use Rattle.std.proofs.lemmas.Map.Text.{text_keys}
use Rattle.cvm_outside.proofs.mem_shelf.MemShelf.place.Goals as goal

pub returns-in-Ok-clause-others : goal.returns-in-Ok-clause-others
returns-in-Ok-clause-others c = grind (arith, text_keys)
