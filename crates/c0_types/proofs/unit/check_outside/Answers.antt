-- What a unit declares outside of bodies is checked part by part.
use Rattle.std.proofs.Common.{◌≡◌, ◌<◌, ◌^◌, true, ℕ, nat_lt, List, ◌++◌, length, map, refl, sym, ap, ◌∙◌, subst, arith}
use Rattle.std.specs.List.{All, list_all}
use Rattle.std.specs.Vec.{with_items}
use Rattle.std.proofs.lemmas.List.{with_items_is}
use Rattle.c0_tree.specs.declared.tree.Decl.{Decl}
use Rattle.c0_tree.specs.declared.tree.Function.{Function}
use Rattle.c0_tree.specs.declared.tree.Kind.TheVariants.{Global}
use Rattle.c0_tree.specs.declared.tree.StructDef.{StructDef}
use Rattle.c0_tree.specs.Tree.{CUnit}
use Rattle.c0_tree.specs.Primitives.{primitive_view}
use Rattle.c0_tree.specs.View.{decl_view, function_view, struct_view, unit_view}
use Rattle.c0_meaning.specs.DeclaredTypes.{declared_faults, fault_if}
use Rattle.c0_meaning.specs.Env.{Shape, shape_of, typed_of}
use Rattle.c0_meaning.specs.Fault.{kept_all, GLOBALS_TOO_LARGE}
use Rattle.c0_meaning.specs.Limits.{MAX_GLOBAL_WORDS, whole_span}
use Rattle.c0_meaning.specs.Names.{struct_name_faults, unit_name_faults}
use Rattle.c0_meaning.specs.Resolved.{resolved_decls, resolved_structs}
use Rattle.c0_meaning.specs.Sizes.{struct_sizes}
use Rattle.c0_meaning.specs.Unit.{structs_faults}
use Rattle.c0_meaning.specs.Words.{all_words}
use Rattle.c0_name_check.specs.Met.{met_view}
use Rattle.c0_name_check.specs.Names.{number_named}
use Rattle.c0_name_check.specs.Structs.{KnowsStructs}
use Rattle.c0_body_check.specs.Scope.{FieldsTell}
use Rattle.c0_types.specs.Parts.{headed_functions, headings_faults, is_plain_function}
use Rattle.c0_types.proofs.FaultsMetInTurn.{five_met}
use Rattle.c0_types.proofs.MapsTellDeclared.{plain_parts, tell_unit, same_unit}
use Rattle.c0_types.proofs.unit.check_outside.Goals as goal

pub check_structs-requires : goal.check_structs-requires
check_structs-requires c =
    let p = plain_parts c.args.unit.now c.requires.plain in
    record {
      few = subst (λ (l : List StructDef). length l < 2 ^ 32) (sym c.deref_mut.ensures.value) p.structs;
      few_fields = subst (λ (l : List StructDef). All (λ s. length s.fields < 2 ^ 32) (map struct_view l)) (sym c.deref_mut.ensures.value) p.fields;
    }

pub name_unit-requires : goal.name_unit-requires
name_unit-requires c =
    let p = plain_parts c.args.unit.now c.requires.plain in
    record {
      few_primitives = c.requires.table;
      few_globals = subst (λ (l : List Decl). length l < 2 ^ 32) (sym c.deref.ensures.value) p.globals;
      few_functions = subst (λ (l : List Function). length l < 2 ^ 32) (sym c.deref-2.ensures.value) p.functions;
    }

pub are_too_large-large-requires : goal.are_too_large-large-requires
are_too_large-large-requires c =
    let p = plain_parts c.args.unit.now c.requires.plain in
    record { few = subst (λ (l : List Decl). length l < 2 ^ 32) (sym c.deref-4.ensures.value) p.globals }

pub check_decls-requires : goal.check_decls-requires
check_decls-requires c =
    let p = plain_parts c.args.unit.now c.requires.plain in
    let few : length c.deref_mut-2.result.now < 2 ^ 32 = subst (λ (l : List Decl). length l < 2 ^ 32) (sym c.deref_mut-2.ensures.value) p.globals in
    record { few = omega (arith, few) }

pub check_headings-requires : goal.check_headings-requires
check_headings-requires c =
    let p = plain_parts c.args.unit.now c.requires.plain in
    record {
      few = subst (λ (l : List Function). length l < 2 ^ 32) (sym c.deref_mut-3.ensures.value) p.functions;
      plain = subst (λ (l : List Function). list_all is_plain_function (map function_view l) ≡ true) (sym c.deref_mut-3.ensures.value) p.bodies;
    }

pub returns-clause-words : goal.returns-clause-words
returns-clause-words c = c.in_ok-known.ensures.words ∙ ap (λ (l : List StructDef). struct_sizes (map shape_of (map struct_view l))) c.deref_mut.ensures.value

pub returns-clause-tells : goal.returns-clause-tells
returns-clause-tells c =
    let ss : List StructDef = c.args.unit.now.structs.items in
    let gs : List Decl = c.args.unit.now.globals.items in
    let fs : List Function = c.args.unit.now.functions.items in
    let shapes : List Shape = map shape_of (map struct_view ss) in
    let known : KnowsStructs c.in_ok-known.known.names c.in_ok-known.known.words.items shapes =
    subst (λ (l : List StructDef). KnowsStructs c.in_ok-known.known.names c.in_ok-known.known.words.items (map shape_of (map struct_view l))) c.deref_mut.ensures.value c.in_ok-known.ensures.known in
    let knows : (ws : List ℕ) → ws ≡ c.in_ok-known.known.words.items → KnowsStructs c.in_ok-known.known.names ws shapes =
    λ ws e. subst (λ (w : List ℕ). KnowsStructs c.in_ok-known.known.names w shapes) (sym e) known in
    let structs : (with_items c.args.unit.now.structs c.check_structs.new.structs).items ≡ c.check_structs.new.structs =
    with_items_is c.args.unit.now.structs c.check_structs.new.structs (c.check_structs.auto.structs ∙ c.deref_mut.ensures.len) in
    let globals : (with_items c.args.unit.now.globals c.check_decls.new.decls).items ≡ c.check_decls.new.decls =
    with_items_is c.args.unit.now.globals c.check_decls.new.decls (c.check_decls.auto.decls ∙ c.deref_mut-2.ensures.len) in
    let functions : (with_items c.args.unit.now.functions c.check_headings.new.functions).items ≡ c.check_headings.new.functions =
    with_items_is c.args.unit.now.functions c.check_headings.new.functions (c.check_headings.auto.functions ∙ c.deref_mut-3.ensures.len) in
    tell_unit c.in_ok-known.known c.in_ok-names.names ss (with_items c.args.unit.now.structs c.check_structs.new.structs).items
    gs (with_items c.args.unit.now.globals c.check_decls.new.decls).items fs (with_items c.args.unit.now.functions c.check_headings.new.functions).items c.args.table.now known
    (subst (λ (l : List StructDef). FieldsTell c.in_ok-known.known.field_names.items l) (sym structs) c.in_ok-known.ensures.fields)
    (λ text. c.in_ok-names.ensures.globals text ∙ ap (λ (l : List Decl). number_named (λ d. d.name.text) text 0 (map decl_view l)) c.deref.ensures.value)
    (λ text. c.in_ok-names.ensures.functions text ∙ ap (λ (l : List Function). number_named (λ f. f.name.text) text 0 (map function_view l)) c.deref-2.ensures.value)
    c.in_ok-names.ensures.primitives
    (ap (map struct_view) structs ∙ (c.in_ok-known.ensures.named ∙ ap (λ (l : List StructDef). resolved_structs (map shape_of (map struct_view l)) 0 (map struct_view l)) c.deref_mut.ensures.value))
    (ap (map decl_view) globals ∙ (c.check_decls.ensures.named shapes (knows c.deref-5.result.now c.deref-5.ensures.value)
    ∙ ap (λ (l : List Decl). resolved_decls shapes Global 0 (map decl_view l)) c.deref_mut-2.ensures.value))
    (ap (map function_view) functions ∙ (c.check_headings.ensures.named shapes (knows c.deref-6.result.now c.deref-6.ensures.value)
    ∙ ap (λ (l : List Function). headed_functions shapes 0 (map function_view l)) c.deref_mut-3.ensures.value))

pub returns-clause-met : goal.returns-clause-met
returns-clause-met c =
    let u : CUnit = unit_view c.args.unit.now in
    let shapes : List Shape = map shape_of u.structs in
    let known : KnowsStructs c.in_ok-known.known.names c.in_ok-known.known.words.items shapes =
    subst (λ (l : List StructDef). KnowsStructs c.in_ok-known.known.names c.in_ok-known.known.words.items (map shape_of (map struct_view l))) c.deref_mut.ensures.value c.in_ok-known.ensures.known in
    let knows : (ws : List ℕ) → ws ≡ c.in_ok-known.known.words.items → KnowsStructs c.in_ok-known.known.names ws shapes =
    λ ws e. subst (λ (w : List ℕ). KnowsStructs c.in_ok-known.known.names w shapes) (sym e) known in
    let large : c.are_too_large-large.result ≡ nat_lt MAX_GLOBAL_WORDS (all_words shapes (map typed_of u.globals)) =
    c.are_too_large-large.ensures shapes (knows c.deref-3.result.now c.deref-3.ensures.value)
    ∙ ap (λ (l : List Decl). nat_lt MAX_GLOBAL_WORDS (all_words shapes (map typed_of (map decl_view l)))) c.deref-4.ensures.value in
    five_met (met_view c.args.least.now) (met_view c.check_structs.new.least) (met_view c.name_unit.new.least) (met_view c.meet_if.new.least) (met_view c.check_decls.new.least)
    (met_view c.check_headings.new.least)
    (struct_name_faults u.structs ++ structs_faults shapes u.structs) (unit_name_faults (map primitive_view c.args.table.now) u.globals u.functions)
    (fault_if (nat_lt MAX_GLOBAL_WORDS (all_words shapes (map typed_of u.globals))) GLOBALS_TOO_LARGE (whole_span u.length))
    (declared_faults shapes u.globals) (headings_faults shapes u.functions)
    (c.in_ok-known.ensures.met ∙ ap (λ (l : List StructDef). kept_all (met_view c.args.least.now)
    (struct_name_faults (map struct_view l) ++ structs_faults (map shape_of (map struct_view l)) (map struct_view l))) c.deref_mut.ensures.value)
    (c.in_ok-names.ensures.met
    ∙ (ap (λ (l : List Decl). kept_all (met_view c.check_structs.new.least) (unit_name_faults (map primitive_view c.args.table.now) (map decl_view l) (map function_view c.deref-2.result.now))) c.deref.ensures.value
    ∙ ap (λ (l : List Function). kept_all (met_view c.check_structs.new.least) (unit_name_faults (map primitive_view c.args.table.now) u.globals (map function_view l))) c.deref-2.ensures.value))
    (c.meet_if.ensures
    ∙ (ap (λ b. kept_all (met_view c.name_unit.new.least) (fault_if b GLOBALS_TOO_LARGE c.whole.result)) large
    ∙ ap (λ s. kept_all (met_view c.name_unit.new.least) (fault_if (nat_lt MAX_GLOBAL_WORDS (all_words shapes (map typed_of u.globals))) GLOBALS_TOO_LARGE s)) c.whole.ensures))
    (c.check_decls.ensures.met shapes (knows c.deref-5.result.now c.deref-5.ensures.value)
    ∙ ap (λ (l : List Decl). kept_all (met_view c.meet_if.new.least) (declared_faults shapes (map decl_view l))) c.deref_mut-2.ensures.value)
    (c.check_headings.ensures.met shapes (knows c.deref-6.result.now c.deref-6.ensures.value)
    ∙ ap (λ (l : List Function). kept_all (met_view c.check_decls.new.least) (headings_faults shapes (map function_view l))) c.deref_mut-3.ensures.value)

pub returns-clause-named : goal.returns-clause-named
returns-clause-named c =
    let u : CUnit = unit_view c.args.unit.now in
    let shapes : List Shape = map shape_of u.structs in
    let known : KnowsStructs c.in_ok-known.known.names c.in_ok-known.known.words.items shapes =
    subst (λ (l : List StructDef). KnowsStructs c.in_ok-known.known.names c.in_ok-known.known.words.items (map shape_of (map struct_view l))) c.deref_mut.ensures.value c.in_ok-known.ensures.known in
    let knows : (ws : List ℕ) → ws ≡ c.in_ok-known.known.words.items → KnowsStructs c.in_ok-known.known.names ws shapes =
    λ ws e. subst (λ (w : List ℕ). KnowsStructs c.in_ok-known.known.names w shapes) (sym e) known in
    same_unit u.length u.length _ (resolved_structs shapes 0 u.structs) _ (resolved_decls shapes Global 0 u.globals) _ (headed_functions shapes 0 u.functions) refl
    (ap (map struct_view) (with_items_is c.args.unit.now.structs c.check_structs.new.structs (c.check_structs.auto.structs ∙ c.deref_mut.ensures.len))
    ∙ (c.in_ok-known.ensures.named ∙ ap (λ (l : List StructDef). resolved_structs (map shape_of (map struct_view l)) 0 (map struct_view l)) c.deref_mut.ensures.value))
    (ap (map decl_view) (with_items_is c.args.unit.now.globals c.check_decls.new.decls (c.check_decls.auto.decls ∙ c.deref_mut-2.ensures.len))
    ∙ (c.check_decls.ensures.named shapes (knows c.deref-5.result.now c.deref-5.ensures.value)
    ∙ ap (λ (l : List Decl). resolved_decls shapes Global 0 (map decl_view l)) c.deref_mut-2.ensures.value))
    (ap (map function_view) (with_items_is c.args.unit.now.functions c.check_headings.new.functions (c.check_headings.auto.functions ∙ c.deref_mut-3.ensures.len))
    ∙ (c.check_headings.ensures.named shapes (knows c.deref-6.result.now c.deref-6.ensures.value)
    ∙ ap (λ (l : List Function). headed_functions shapes 0 (map function_view l)) c.deref_mut-3.ensures.value))
