-- The fields that are read at a place are those of the struct of that number.
use Rattle.std.proofs.Common.{sym, ap, ◌∙◌, map}
use Rattle.c0_tree.specs.View.{decl_view}
use Rattle.c0_struct_sizes.proofs.NumbersTellNames.{fields_there}
use Rattle.c0_struct_sizes.proofs.fields.fields_of.Goals as goal

pub returns : goal.returns
returns c = ap (map decl_view) c.as_slice.ensures.value ∙ sym (fields_there c.args.structs.now c.args.node c.index-structs-node.result c.requires)
