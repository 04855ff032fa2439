use Rattle.std.proofs.Common.{◌≡◌, ◌<◌, List, length, map, get_or, subst, sym, ap, ◌∙◌}
use Rattle.std.specs.Prelude.{option_map, slice_get}
use Rattle.std.specs.List.{All}
use Rattle.c0_tree.specs.declared.tree.Decl.{Decl}
use Rattle.c0_tree.specs.declared.tree.StructDef.{StructDef}
use Rattle.c0_tree.specs.declared.tree.Unit.{Unit as Source}
use Rattle.c0_tree.specs.Tree.{CDecl}
use Rattle.c0_tree.specs.View.{decl_view, name_view, unit_view}
use Rattle.c0_meaning.specs.Env.{Typed, typed_of}
use Rattle.c0_meaning.specs.Sound.{shapes, IsSized}
use Rattle.c0_meaning.proofs.SizedTypes.{struct_below}
use Rattle.c0_meaning.proofs.TypesTold.{fields_there, fields_sized}
use Rattle.c0_meaning.proofs.WellFormed.{well_formed_sized}
use Rattle.c0_meaning.proofs.type_at.struct_field.Goals as goal

pub struct_at-owner-requires : goal.struct_at-owner-requires
struct_at-owner-requires c =
    let e : c.deref.result.now ≡ c.args.unit.now.structs.items = c.deref.ensures.value ∙ ap (λ (u : Source). u.structs.items) c.unit.ensures.same in
    subst (λ (ss : List StructDef). c.args.name.now.number < length ss) (sym e)
    (struct_below c.args.unit.now.structs.items (name_view c.args.name.now) c.requires)

pub returns-clause-gives : goal.returns-clause-gives
returns-clause-gives c =
    let e : c.deref.result.now ≡ c.args.unit.now.structs.items = c.deref.ensures.value ∙ ap (λ (u : Source). u.structs.items) c.unit.ensures.same in
    let owner : c.struct_at-owner.result.now ≡ get_or c.args.unit.now.structs.items c.args.name.now.number c.struct_at-owner.result.now =
    c.struct_at-owner.ensures ∙ ap (λ (ss : List StructDef). get_or ss c.args.name.now.number c.struct_at-owner.result.now) e in
    let fields : c.fields_of.result.now ≡ (get_or c.args.unit.now.structs.items c.args.name.now.number c.struct_at-owner.result.now).fields.items =
    c.fields_of.ensures ∙ ap (λ (s : StructDef). s.fields.items) owner in
    c.declared_type.ensures.gives
    ∙ ap (λ (ds : List Decl). option_map (λ (d : Typed). d.ty) (slice_get (map typed_of (map decl_view ds)) c.args.number)) fields
    ∙ ap (λ (ds : List Typed). option_map (λ (d : Typed). d.ty) (slice_get ds c.args.number))
    (fields_there c.args.unit.now.structs.items (name_view c.args.name.now) c.struct_at-owner.result.now c.requires)

pub returns-clause-resolved : goal.returns-clause-resolved
returns-clause-resolved c =
    let e : c.deref.result.now ≡ c.args.unit.now.structs.items = c.deref.ensures.value ∙ ap (λ (u : Source). u.structs.items) c.unit.ensures.same in
    let owner : c.struct_at-owner.result.now ≡ get_or c.args.unit.now.structs.items c.args.name.now.number c.struct_at-owner.result.now =
    c.struct_at-owner.ensures ∙ ap (λ (ss : List StructDef). get_or ss c.args.name.now.number c.struct_at-owner.result.now) e in
    let fields : c.fields_of.result.now ≡ (get_or c.args.unit.now.structs.items c.args.name.now.number c.struct_at-owner.result.now).fields.items =
    c.fields_of.ensures ∙ ap (λ (s : StructDef). s.fields.items) owner in
    c.declared_type.ensures.resolved (shapes (unit_view c.args.unit.now))
    (subst (λ (ds : List Decl). All (λ (x : CDecl). IsSized (shapes (unit_view c.args.unit.now)) x.ty) (map decl_view ds)) (sym fields)
    (fields_sized (shapes (unit_view c.args.unit.now)) c.args.unit.now.structs.items c.args.name.now.number c.struct_at-owner.result.now
    (well_formed_sized _ _ c.unit.ensures.well_formed.1) (struct_below c.args.unit.now.structs.items (name_view c.args.name.now) c.requires)))
