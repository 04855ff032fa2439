-- The faults are met in their order, and the fields have their numbers by the names that they keep.
use Rattle.std.proofs.Common.{◌≡◌, ◌++◌, List, length, take, drop, map, sym, ap, ◌∙◌, arith}
use Rattle.std.proofs.lemmas.Grind.{common_steps}
use Rattle.std.proofs.lemmas.Simd.{map-map}
use Rattle.c0_tree.specs.declared.tree.Decl.{Decl}
use Rattle.c0_tree.specs.declared.tree.Kind.TheVariants.{Field}
use Rattle.c0_tree.specs.Tree.{CStruct}
use Rattle.c0_tree.specs.View.{decl_view, struct_view}
use Rattle.c0_body_check.specs.Scope.{typed_view}
use Rattle.c0_meaning.specs.DeclaredTypes.{fault_if, declared_faults, is_too_large}
use Rattle.c0_meaning.specs.Env.{typed_of}
use Rattle.c0_meaning.specs.Fault.{kept_all, STRUCT_HOLDS_ITSELF, TYPE_TOO_LARGE}
use Rattle.c0_meaning.specs.Names.{decl_name_faults}
use Rattle.c0_meaning.specs.Ty as ty
use Rattle.c0_meaning.specs.Words.{holds}
use Rattle.c0_meaning.proofs.StableTypes.{typed_kept}
use Rattle.c0_name_check.specs.Met.{met_view}
use Rattle.c0_name_check.specs.Names.{number_named}
use Rattle.c0_types.proofs.FaultsMetInTurn.{four_met}
use Rattle.c0_types.proofs.StructsCheckedInTurn.{number_viewed}
use Rattle.c0_types.proofs.structs.check_struct.Goals as goal

pub returns-clause-fields : goal.returns-clause-fields
returns-clause-fields c shapes knows text =
    let kept : List Decl = take c.args.definition.now.fields.len (c.check_decls.new.decls ++ drop (length c.check_decls.new.decls) c.args.definition.now.fields.items) in
    let written : kept ≡ c.check_decls.new.decls = grind (arith, common_steps) in
    let given : map decl_view c.deref_mut.result.now ≡ map decl_view c.args.definition.now.fields.items = ap (map decl_view) c.deref_mut.ensures.value in
    let typed : map typed_view kept ≡ map typed_of (map decl_view c.args.definition.now.fields.items) =
    ap (map typed_view) written
    ∙ (sym (map-map typed_of decl_view c.check_decls.new.decls)
    ∙ (ap (map typed_of) (c.check_decls.ensures.named shapes knows)
    ∙ (typed_kept shapes Field 0 (map decl_view c.deref_mut.result.now) ∙ ap (map typed_of) given))) in
    c.in_ok-fields.ensures.names text
    ∙ (ap (λ ds. number_named (λ d. d.name.text) text 0 (map decl_view ds)) c.deref.ensures.value
    ∙ (sym (number_viewed typed_of (λ v. v.text) text 0 (map decl_view c.args.definition.now.fields.items))
    ∙ ap (number_named (λ v. v.text) text 0) (sym typed)))

pub returns-clause-met : goal.returns-clause-met
returns-clause-met c shapes knows held =
    let s : CStruct = struct_view c.args.definition.now in
    four_met (met_view c.args.least.now) (met_view c.meet_if.new.least) (met_view c.meet_if-2.new.least) (met_view c.name_fields.new.least) (met_view c.check_decls.new.least)
    (fault_if (holds shapes s.name.text s.name.text) STRUCT_HOLDS_ITSELF s.name.span) (fault_if (is_too_large shapes (ty.named s.name.text)) TYPE_TOO_LARGE s.name.span)
    (decl_name_faults s.fields) (declared_faults shapes s.fields)
    (c.meet_if.ensures ∙ ap (λ b. kept_all (met_view c.args.least.now) (fault_if b STRUCT_HOLDS_ITSELF s.name.span)) held)
    (c.meet_if-2.ensures ∙ ap (λ b. kept_all (met_view c.meet_if.new.least) (fault_if b TYPE_TOO_LARGE s.name.span)) (c.is_too_large-too_large.ensures shapes knows))
    (c.in_ok-fields.ensures.met ∙ ap (λ ds. kept_all (met_view c.meet_if-2.new.least) (decl_name_faults (map decl_view ds))) c.deref.ensures.value)
    (c.check_decls.ensures.met shapes knows ∙ ap (λ ds. kept_all (met_view c.name_fields.new.least) (declared_faults shapes (map decl_view ds))) c.deref_mut.ensures.value)
