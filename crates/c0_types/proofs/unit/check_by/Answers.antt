-- What is declared, the bodies and the sizes are checked one after the other, which leaves the same kept as the faults of the source.
use Rattle.std.proofs.Common.{◌≡◌, ℕ, nat_lt, not, Bool, List, [], map, sym, ap, ◌∙◌, subst}
use Rattle.std.specs.List.{list_all, list_any}
use Rattle.std.proofs.lemmas.List.{with_items_is}
use Rattle.c0_tree.specs.declared.tree.Decl.{Decl}
use Rattle.c0_tree.specs.declared.tree.Function.{Function}
use Rattle.c0_tree.specs.declared.tree.Kind.TheVariants.{Global}
use Rattle.c0_tree.specs.declared.tree.Span.{Span}
use Rattle.c0_tree.specs.declared.tree.StructDef.{StructDef}
use Rattle.c0_tree.specs.Tree.{CUnit}
use Rattle.c0_tree.specs.Primitives.{CPrimitive, primitives_of}
use Rattle.c0_tree.specs.View.{decl_view, function_view, struct_view, unit_view}
use Rattle.c0_meaning.specs.DeclaredTypes.{fault_if}
use Rattle.c0_meaning.specs.Env.{Env, Shape, shape_of, env_of}
use Rattle.c0_meaning.specs.Fault.{kept_all, UNIT_TOO_LARGE}
use Rattle.c0_meaning.specs.Limits.{all_nodes, first_faults, is_first, none_first, whole_span}
use Rattle.c0_meaning.specs.Resolved.{resolved_decls, resolved_structs}
use Rattle.c0_name_check.specs.Met.{met_view, mistake_number}
use Rattle.c0_name_check.proofs.FaultsMet.{two_met}
use Rattle.c0_types.specs.Known.{TellUnit, declarations_env}
use Rattle.c0_types.specs.Parts.{bodied, bodies_faults, functions_nodes, headed_functions, is_plain_function, outer_faults, outer_unit}
use Rattle.c0_types.specs.Source.{checked_as, read_function, read_unit}
use Rattle.c0_types.proofs.OrderDoesntMatter.{whole_unit}
use Rattle.c0_types.proofs.MapsTellDeclared.{env_outer, over_unit, plain_headed, plain_parts, same_unit}
use Rattle.c0_types.proofs.UnitResolved.{bodies_headed, functions_resolved, nodes_headed, nodes_of_read}
use Rattle.c0_types.proofs.unit.check_by.Goals as goal

pub check_bodies-requires : goal.check_bodies-requires
check_bodies-requires c =
    let u : CUnit = unit_view c.args.unit.now in
    let table = c.args.table.now in
    let shapes : List Shape = map shape_of u.structs in
    let functions : map function_view c.deref_mut.result.now ≡ headed_functions shapes 0 u.functions =
    ap (map function_view) c.deref_mut.ensures.value ∙ ap (λ (w : CUnit). w.functions) c.in_ok-known.ensures.named in
    record {
      knows = subst (λ (l : List StructDef). TellUnit c.in_ok-known.known c.in_ok-known.names l c.deref-2.result.now c.deref_mut.result.now table) (sym c.deref.ensures.value)
          (subst (λ (l : List Decl). TellUnit c.in_ok-known.known c.in_ok-known.names c.check_outside.new.unit.structs.items l c.deref_mut.result.now table) (sym c.deref-2.ensures.value)
          (subst (λ (l : List Function). TellUnit c.in_ok-known.known c.in_ok-known.names c.check_outside.new.unit.structs.items c.check_outside.new.unit.globals.items l table) (sym c.deref_mut.ensures.value)
          c.in_ok-known.ensures.tells));
      plain = ap (list_all is_plain_function) functions ∙ (plain_headed shapes 0 u.functions ∙ (plain_parts c.args.unit.now c.requires.plain).bodies);
    }

pub returns-clause-met : goal.returns-clause-met
returns-clause-met c =
    let u : CUnit = unit_view c.args.unit.now in
    let shapes : List Shape = map shape_of u.structs in
    let rows : List CPrimitive = primitives_of c.args.program in
    let unit : Env = env_of rows (read_unit u) [] in
    let given : Env = declarations_env c.deref.result.now c.deref-2.result.now c.deref_mut.result.now c.args.table.now in
    let named : unit_view c.check_outside.new.unit ≡ outer_unit u = c.in_ok-known.ensures.named in
    let functions : map function_view c.deref_mut.result.now ≡ headed_functions shapes 0 u.functions =
    ap (map function_view) c.deref_mut.ensures.value ∙ ap (λ (w : CUnit). w.functions) named in
    let env : declarations_env c.deref.result.now c.deref-2.result.now c.deref_mut.result.now c.args.table.now ≡ env_of rows (read_unit u) [] =
    env_outer rows u c.deref.result.now c.deref-2.result.now c.deref_mut.result.now c.args.table.now
    (ap (map struct_view) c.deref.ensures.value ∙ ap (λ (w : CUnit). w.structs) named) (ap (map decl_view) c.deref-2.ensures.value ∙ ap (λ (w : CUnit). w.globals) named)
    functions c.requires.rows in
    let bodies : bodies_faults given (map function_view c.deref_mut.result.now) ≡ bodies_faults unit u.functions =
    ap (λ (e : Env). bodies_faults e (map function_view c.deref_mut.result.now)) env ∙ (ap (bodies_faults unit) functions ∙ bodies_headed unit shapes 0 u.functions) in
    let nodes : functions_nodes (map function_view c.deref_mut.result.now) ≡ all_nodes (map read_function u.functions) =
    ap functions_nodes functions ∙ (nodes_headed shapes 0 u.functions ∙ nodes_of_read u.functions) in
    let over : nat_lt 100000 c.in_ok-nodes.nodes ≡ nat_lt 100000 (all_nodes (map read_function u.functions)) =
    over_unit c.in_ok-nodes.nodes (functions_nodes (map function_view c.deref_mut.result.now)) c.in_ok-nodes.ensures.nodes ∙ ap (nat_lt 100000) nodes in
    let span : c.whole-span.result ≡ whole_span u.length = c.whole-span.ensures ∙ ap whole_span (ap (λ (w : CUnit). w.length) named) in
    let last : map function_view c.deref-3.result.now ≡ (checked_as c.args.program u).functions =
    ap (map function_view) (c.deref-3.ensures.value ∙ with_items_is c.check_outside.new.unit.functions c.check_bodies.new.functions (c.check_bodies.auto.functions ∙ c.deref_mut.ensures.len))
    ∙ (c.in_ok-nodes.ensures.resolved
    ∙ (ap (λ (e : Env). map (bodied e) (map function_view c.deref_mut.result.now)) env
    ∙ (ap (map (bodied unit)) functions ∙ functions_resolved rows u 0 u.functions))) in
    let found : c.has_first-found.result ≡ list_any (is_first c.args.program) (checked_as c.args.program u).functions = c.has_first-found.ensures ∙ ap (list_any (is_first c.args.program)) last in
    let outer : met_view c.check_outside.new.least ≡ kept_all (met_view c.args.least.now) (outer_faults rows u) =
    c.in_ok-known.ensures.met ∙ ap (λ (ps : List CPrimitive). kept_all (met_view c.args.least.now) (outer_faults ps u)) c.requires.rows in
    let inner : met_view c.check_bodies.new.least ≡ kept_all (met_view c.check_outside.new.least) (bodies_faults unit u.functions) =
    c.in_ok-nodes.ensures.met ∙ ap (kept_all (met_view c.check_outside.new.least)) bodies in
    let large : met_view c.meet_if.new.least ≡ kept_all (met_view c.check_bodies.new.least) (fault_if (nat_lt 100000 (all_nodes (map read_function u.functions))) UNIT_TOO_LARGE (whole_span u.length)) =
    c.meet_if.ensures
    ∙ (ap (λ (b : Bool). kept_all (met_view c.check_bodies.new.least) (fault_if b UNIT_TOO_LARGE c.whole-span.result)) over
    ∙ ap (λ (s : Span). kept_all (met_view c.check_bodies.new.least) (fault_if (nat_lt 100000 (all_nodes (map read_function u.functions))) UNIT_TOO_LARGE s)) span) in
    let some : Bool = list_any (is_first c.args.program) (checked_as c.args.program u).functions in
    let first : met_view c.meet_if-2.new.least ≡ kept_all (met_view c.meet_if.new.least) (first_faults c.args.program (read_unit u)) =
    c.meet_if-2.ensures
    ∙ (ap (λ (b : Bool). kept_all (met_view c.meet_if.new.least) (fault_if (not b) (mistake_number c.without_first.result) c.whole-span.result)) found
    ∙ (ap (λ (n : ℕ). kept_all (met_view c.meet_if.new.least) (fault_if (not some) n c.whole-span.result)) c.without_first.ensures
    ∙ (ap (λ (s : Span). kept_all (met_view c.meet_if.new.least) (fault_if (not some) (none_first c.args.program) s)) span
    ∙ ap (kept_all (met_view c.meet_if.new.least)) (c.resolving_is_stable.ensures.first c.args.program rows (read_unit u))))) in
    two_met (met_view c.args.least.now) (met_view c.check_outside.new.least) (met_view c.meet_if-2.new.least) (outer_faults rows u) _ outer
    (two_met (met_view c.check_outside.new.least) (met_view c.check_bodies.new.least) (met_view c.meet_if-2.new.least) (bodies_faults unit u.functions) _ inner
    (two_met (met_view c.check_bodies.new.least) (met_view c.meet_if.new.least) (met_view c.meet_if-2.new.least)
    (fault_if (nat_lt 100000 (all_nodes (map read_function u.functions))) UNIT_TOO_LARGE (whole_span u.length)) (first_faults c.args.program (read_unit u)) large first))
    ∙ (whole_unit c.meeting_is_free_of_order.ensures.joins c.args.program u).met (met_view c.args.least.now)

pub returns-clause-resolved : goal.returns-clause-resolved
returns-clause-resolved c =
    let u : CUnit = unit_view c.args.unit.now in
    let shapes : List Shape = map shape_of u.structs in
    let rows : List CPrimitive = primitives_of c.args.program in
    let unit : Env = env_of rows (read_unit u) [] in
    let named : unit_view c.check_outside.new.unit ≡ outer_unit u = c.in_ok-known.ensures.named in
    let functions : map function_view c.deref_mut.result.now ≡ headed_functions shapes 0 u.functions =
    ap (map function_view) c.deref_mut.ensures.value ∙ ap (λ (w : CUnit). w.functions) named in
    let env : declarations_env c.deref.result.now c.deref-2.result.now c.deref_mut.result.now c.args.table.now ≡ env_of rows (read_unit u) [] =
    env_outer rows u c.deref.result.now c.deref-2.result.now c.deref_mut.result.now c.args.table.now
    (ap (map struct_view) c.deref.ensures.value ∙ ap (λ (w : CUnit). w.structs) named) (ap (map decl_view) c.deref-2.ensures.value ∙ ap (λ (w : CUnit). w.globals) named)
    functions c.requires.rows in
    same_unit c.check_outside.new.unit.length u.length _ (resolved_structs shapes 0 u.structs) _ (resolved_decls shapes Global 0 u.globals) _ (checked_as c.args.program u).functions
    (ap (λ (w : CUnit). w.length) named) (ap (λ (w : CUnit). w.structs) named) (ap (λ (w : CUnit). w.globals) named)
    (ap (map function_view) (with_items_is c.check_outside.new.unit.functions c.check_bodies.new.functions (c.check_bodies.auto.functions ∙ c.deref_mut.ensures.len))
    ∙ (c.in_ok-nodes.ensures.resolved
    ∙ (ap (λ (e : Env). map (bodied e) (map function_view c.deref_mut.result.now)) env
    ∙ (ap (map (bodied unit)) functions ∙ functions_resolved rows u 0 u.functions))))
