-- One struct more is checked, and its faults are met.
use Rattle.std.proofs.Common.{◌≡◌, ◌<◌, ℕ, ◌+◌, ◌^◌, false, List, [], ◌∷◌, length, map, get_or, set, length-append, sym, ap, ◌∙◌, subst, arith}
use Rattle.std.proofs.lemmas.List.{length-map}
use Rattle.std.proofs.lemmas.List.Elements.{All-get_or}
use Rattle.c0_tree.specs.declared.tree.StructDef.{StructDef}
use Rattle.c0_tree.specs.Tree.{CStruct}
use Rattle.c0_tree.specs.View.{decl_view, struct_view}
use Rattle.c0_body_check.specs.Scope.{MapTells, typed_view}
use Rattle.c0_body_check.proofs.InPlace.{rest}
use Rattle.c0_meaning.specs.Env.{Shape, shape_of}
use Rattle.c0_meaning.specs.Fault.{kept_all}
use Rattle.c0_meaning.specs.Unit.{struct_faults, structs_faults}
use Rattle.c0_meaning.specs.Words.{holds}
use Rattle.c0_name_check.specs.Met.{met_view}
use Rattle.c0_name_check.proofs.FaultsMet.{kept_all-append}
use Rattle.c0_types.specs.NumberedStruct.{resolved_struct}
use Rattle.c0_types.proofs.DeclaredInPlace.{IsNext, numbered_next, numbered_step, numbered_end}
use Rattle.c0_types.proofs.StructsCheckedInTurn.{structs_numbered, told_at, told_more}
use Rattle.c0_types.proofs.structs.check_each.Goals as goal

pub check_struct-requires : goal.check_struct-requires
check_struct-requires c =
    let i : ℕ = c.loop-definition.definition-index in
    let ss : List CStruct = map struct_view c.args.structs.now in
    let x : StructDef = get_or c.loop-definition.structs i c.definition-item.result in
    let next : IsNext struct_view c.args.structs.now i x =
    numbered_next struct_view (resolved_struct (map shape_of ss)) 0 c.args.structs.now c.loop-definition.structs i x
    c.loop-definition.invariant.changed c.loop-definition-test.true (ap (get_or c.loop-definition.structs i) c.definition-item.is) in
    let short : length (get_or ss i (struct_view x)).fields < 2 ^ 32 =
    All-get_or (λ (s : CStruct). length s.fields < 2 ^ 32) ss i (struct_view x) (subst (λ n. i < n) (sym (length-map c.args.structs.now struct_view)) c.loop-definition-test.true) c.requires.few_fields in
    let here : length (struct_view x).fields < 2 ^ 32 = subst (λ (s : CStruct). length s.fields < 2 ^ 32) (sym next.was) short in
    record { few = subst (λ n. n < 2 ^ 32) (length-map x.fields.items decl_view) here }

pub loop-definition-preserved : goal.loop-definition-preserved
loop-definition-preserved c =
    let i : ℕ = c.loop-definition.definition-index in
    let ss : List CStruct = map struct_view c.args.structs.now in
    let shapes : List Shape = map shape_of ss in
    let x : StructDef = get_or c.loop-definition.structs i c.definition-item.result in
    let at : x ≡ get_or c.loop-definition.structs i x = ap (get_or c.loop-definition.structs i) c.definition-item.is in
    let next : IsNext struct_view c.args.structs.now i x =
    numbered_next struct_view (resolved_struct shapes) 0 c.args.structs.now c.loop-definition.structs i x
    c.loop-definition.invariant.changed c.loop-definition-test.true at in
    let held : get_or c.args.hold_themselves.now c.loop-definition.number false ≡ holds shapes x.name.bytes.items x.name.bytes.items =
    ap (λ (n : ℕ). get_or c.args.hold_themselves.now n false) c.loop-definition.invariant.at
    ∙ told_at (λ (s : CStruct). holds shapes s.name.text s.name.text) c.args.hold_themselves.now ss i (struct_view x) c.requires.held
    (subst (λ n. i < n) (sym (length-map c.args.structs.now struct_view)) c.loop-definition-test.true) next.was in
    record {
      at = omega (arith, c.loop-definition.invariant.at);
      count = omega (arith, ap length c.in_ok-push.ensures.items, length-append c.loop-definition.field_names.items (c.in_ok-fields.fields ∷ []), c.loop-definition.invariant.count);
      changed =
          numbered_step struct_view (resolved_struct shapes) 0 c.args.structs.now c.loop-definition.structs i c.loop-definition.number x c.check_struct.new.definition
          c.loop-definition.invariant.changed c.loop-definition-test.true (omega (arith, c.loop-definition.invariant.at)) at (c.in_ok-fields.ensures.named shapes c.requires.known);
      fields = λ j n d below.
          subst (λ ms. MapTells (λ v. v.text) (get_or ms j n) (map typed_view (get_or (set c.loop-definition.structs i c.check_struct.new.definition) j d).fields.items)) (sym c.in_ok-push.ensures.items)
          (told_more (λ m e. MapTells (λ v. v.text) m (map typed_view e.fields.items)) c.loop-definition.field_names.items c.loop-definition.structs i c.in_ok-fields.fields c.check_struct.new.definition
          c.loop-definition.invariant.fields c.loop-definition.invariant.count (omega (arith, c.loop-definition.auto.structs, c.loop-definition-test.true)) (c.in_ok-fields.ensures.fields shapes c.requires.known) j n d below);
      met =
          ap (λ m. kept_all m (structs_faults shapes (rest (i + 1) ss))) (c.in_ok-fields.ensures.met shapes c.requires.known held)
          ∙ (sym (kept_all-append (met_view c.loop-definition.least) (struct_faults shapes (struct_view x)) (structs_faults shapes (rest (i + 1) ss)))
          ∙ (ap (λ l. kept_all (met_view c.loop-definition.least) (structs_faults shapes l)) (sym next.left)
          ∙ c.loop-definition.invariant.met));
    }

pub returns-clause-named : goal.returns-clause-named
returns-clause-named c =
    let ss : List CStruct = map struct_view c.args.structs.now in
    let last : c.loop-definition.definition-index ≡ length c.args.structs.now = omega (arith, c.loop-definition.auto.definition-index-end, c.loop-definition-test.false) in
    numbered_end struct_view (resolved_struct (map shape_of ss)) 0 c.args.structs.now c.loop-definition.structs c.loop-definition.definition-index c.loop-definition.invariant.changed last
    ∙ structs_numbered (map shape_of ss) 0 ss
