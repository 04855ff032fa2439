-- A put leaves the files of other names as they are.
use Rattle.std.proofs.Common.{arith, rules}
use Rattle.std.proofs.lemmas.Map.Text.{text_keys}
use Rattle.cvm_outside.proofs.mem_shelf.put_file.Goals as goal

pub returns-in-Some-clause-others : goal.returns-in-Some-clause-others
returns-in-Some-clause-others c = grind (arith, text_keys, (c.get_mut.follows.holds c.replace.new.self).3 (search rules))

pub returns-in-Some-clause-kept : goal.returns-in-Some-clause-kept
returns-in-Some-clause-kept c = grind (arith, text_keys, (c.get_mut.follows.holds c.replace.new.self).3 (search rules))
