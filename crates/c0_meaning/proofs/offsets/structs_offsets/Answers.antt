use Rattle.std.proofs.Common.{◌<◌, length, subst, sym}
use Rattle.std.specs.List.{All}
use Rattle.c0_tree.specs.declared.tree.StructDef.{StructDef}
use Rattle.c0_tree.specs.Tree.{CStruct}
use Rattle.c0_tree.specs.View.{struct_view, unit_view}
use Rattle.c0_meaning.specs.Sound.{shapes, IsSized, IsSizedStruct}
use Rattle.c0_meaning.proofs.SizedTypes.{all_at}
use Rattle.c0_meaning.proofs.offsets.structs_offsets.Goals as goal

pub struct_offsets-requires-clause-fields : goal.struct_offsets-requires-clause-fields
struct_offsets-requires-clause-fields c =
    subst (λ (s : StructDef). All (λ d. IsSized (shapes (unit_view c.args.unit.now)) d.ty) (struct_view s).fields) (sym c.def-item.is)
    (all_at (IsSizedStruct (shapes (unit_view c.args.unit.now))) struct_view c.args.structs.now c.loop-def.def-index c.def-item.result c.requires.fields c.loop-def-test.true).fields

pub struct_offsets-requires-clause-few : goal.struct_offsets-requires-clause-few
struct_offsets-requires-clause-few c =
    subst (λ (s : StructDef). length (struct_view s).fields < 4294967296) (sym c.def-item.is)
    (all_at (λ (s : CStruct). length s.fields < 4294967296) struct_view c.args.structs.now c.loop-def.def-index c.def-item.result c.requires.few c.loop-def-test.true)
