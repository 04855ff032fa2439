-- By listed words a type has those by the structs themselves.
use Rattle.std.proofs.Common.{◌∙◌}
use Rattle.c0_tree.specs.View.{type_view}
use Rattle.c0_name_check.specs.Names.{look}
use Rattle.c0_name_check.proofs.StructsTell.{same_words}
use Rattle.c0_name_check.proofs.types.capped_words.Goals as goal

pub returns : goal.returns
returns c shapes knows = c.words_by.ensures ∙ same_words (look c.args.names.now) c.args.sizes.now shapes knows.numbers knows.words (type_view c.args.ty.now)
