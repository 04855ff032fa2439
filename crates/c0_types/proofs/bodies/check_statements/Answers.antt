-- A body of statements is checked in its scope, which is that of its unit with its parameters and locals.
use Rattle.std.proofs.Common.{◌≡◌, ℕ, ◌+◌, ◌-◌, ◌^◌, ◌++◌, nat_lt, min, get_or, List, [], length, map, refl, sym, ap, ◌∙◌, subst, arith}
use Rattle.std.proofs.lemmas.Grind.{common_steps}
use Rattle.std.proofs.lemmas.List.{length-map}
use Rattle.c0_tree.specs.Tree.{CDecl, CStmts, CExpr, code}
use Rattle.c0_tree.specs.declared.tree.Decl.{Decl}
use Rattle.c0_tree.specs.declared.tree.Stmt.{Stmt}
use Rattle.c0_tree.specs.Size.{nodes, stmts_nodes}
use Rattle.c0_tree.specs.declared.tree.Kind.TheVariants.{Local}
use Rattle.c0_tree.specs.View.{decl_view, expr_view, stmts_view}
use Rattle.c0_meaning.specs.Ty.{Ty}
use Rattle.c0_meaning.specs.Env.{Env, Shape, Typed, typed_of}
use Rattle.c0_meaning.specs.Expression.{resolved}
use Rattle.c0_meaning.specs.Fault.{kept_all, TOO_MANY_NODES}
use Rattle.c0_meaning.specs.DeclaredTypes.{declared_faults, fault_if}
use Rattle.c0_meaning.specs.Names.{decl_name_faults}
use Rattle.c0_meaning.specs.Resolved.{resolved_decls}
use Rattle.c0_name_check.specs.Met.{met_view}
use Rattle.c0_name_check.specs.Names.{number_named}
use Rattle.c0_name_check.specs.Structs.{KnowsStructs}
use Rattle.c0_meaning.specs.Form.{ty_view}
use Rattle.c0_body_check.specs.Scope.{FieldsTell, shape_view, typed_view}
use Rattle.c0_body_check.specs.Stmts.{code_faults, resolved_of_stmts}
use Rattle.c0_types.specs.Known.{unit_env}
use Rattle.c0_types.specs.Parts.{nodes_with, with_locals}
use Rattle.c0_types.proofs.ScopeIsDeclared.{locals_typed, numbered_typed, over_capped}
use Rattle.c0_types.proofs.FaultsMetInTurn.{five_met}
use Rattle.c0_types.proofs.bodies.check_statements.Goals as goal

pub check_code-requires : goal.check_code-requires
check_code-requires c =
    let shapes : List Shape = map shape_view c.args.declared.now.structs.now in
    let ps : List CDecl = map decl_view c.args.function.now.params.items in
    let ls : List CDecl = map decl_view c.args.code.now.locals.items in
    let knows : KnowsStructs c.args.declared.now.known.now.names c.deref-3.result.now shapes =
    subst (λ (ws : List ℕ). KnowsStructs c.args.declared.now.known.now.names ws shapes) (sym c.deref-3.ensures.value) c.requires.knows.structs in
    let written : c.deref-8.result.now ≡ c.check_decls.new.decls = grind (arith, common_steps) in
    let locals : map decl_view c.deref-8.result.now ≡ resolved_decls shapes Local c.len-count.result ls =
    ap (map decl_view) written ∙ (c.check_decls.ensures.named shapes knows
    ∙ ap (λ (l : List Decl). resolved_decls shapes Local c.len-count.result (map decl_view l)) c.deref_mut.ensures.value) in
    let typed : map typed_view c.deref-7.result.now ++ map typed_view c.deref-8.result.now ≡ map typed_of (ps ++ ls) =
    locals_typed shapes c.len-count.result c.args.function.now.params.items c.deref-7.result.now c.deref-8.result.now ls c.deref-7.ensures.value locals in
    record {
      structs = c.requires.knows.structs.numbers;
      sizes = λ text n h. ap (λ (ws : List ℕ). get_or ws n 0) c.deref-5.ensures.value ∙ c.requires.knows.structs.words text n h;
      fields = subst (λ ns. FieldsTell ns c.args.declared.now.structs.now) (sym c.deref-6.ensures.value) c.requires.knows.fields;
      globals = c.requires.knows.globals;
      functions = c.requires.knows.functions;
      primitives = c.requires.knows.primitives;
      locals = λ text. c.in_ok-names.ensures.names text
          ∙ (ap (λ (l : List CDecl). number_named (λ d. d.name.text) text 0 l)
          (ap (λ (l : List Decl). map decl_view l ++ map decl_view c.deref-2.result.now) c.deref.ensures.value ∙ ap (λ (l : List Decl). ps ++ map decl_view l) c.deref-2.ensures.value)
          ∙ (numbered_typed text (ps ++ ls) ∙ ap (number_named (λ v. v.text) text 0) (sym typed)));
    }

pub returns-clause-met : goal.returns-clause-met
returns-clause-met c =
    let shapes : List Shape = map shape_view c.args.declared.now.structs.now in
    let ps : List CDecl = map decl_view c.args.function.now.params.items in
    let ls : List CDecl = map decl_view c.args.code.now.locals.items in
    let ss : CStmts = stmts_view c.args.code.now.stmts.items in
    let e : CExpr = expr_view c.args.code.now.answer in
    let result : Ty = ty_view c.args.function.now.answer in
    let unit : Env = unit_env c.args.declared.now c.args.functions.now in
    let knows : KnowsStructs c.args.declared.now.known.now.names c.deref-3.result.now shapes =
    subst (λ (ws : List ℕ). KnowsStructs c.args.declared.now.known.now.names ws shapes) (sym c.deref-3.ensures.value) c.requires.knows.structs in
    let written : c.deref-8.result.now ≡ c.check_decls.new.decls = grind (arith, common_steps) in
    let locals : map decl_view c.deref-8.result.now ≡ resolved_decls shapes Local c.len-count.result ls =
    ap (map decl_view) written ∙ (c.check_decls.ensures.named shapes knows
    ∙ ap (λ (l : List Decl). resolved_decls shapes Local c.len-count.result (map decl_view l)) c.deref_mut.ensures.value) in
    let typed : map typed_view c.deref-7.result.now ++ map typed_view c.deref-8.result.now ≡ map typed_of (ps ++ ls) =
    locals_typed shapes c.len-count.result c.args.function.now.params.items c.deref-7.result.now c.deref-8.result.now ls c.deref-7.ensures.value locals in
    let count : c.len-count.result ≡ length ps =
    c.len-count.ensures ∙ (sym c.deref.ensures.len ∙ (ap length c.deref.ensures.value ∙ sym (length-map c.args.function.now.params.items decl_view))) in
    let long : c.len.result ≡ length ls =
    c.len.ensures ∙ (sym c.deref-2.ensures.len ∙ (ap length c.deref-2.ensures.value ∙ sym (length-map c.args.code.now.locals.items decl_view))) in
    let counted : c.code_nodes-nodes.result ≡ min (nodes_with (length ps) (code ls ss e)) (2 ^ 32 - 1) =
    c.code_nodes-nodes.ensures
    ∙ (ap (λ (l : List Stmt). min (1 + c.len-count.result + (c.len.result + stmts_nodes (stmts_view l) + nodes e)) (2 ^ 32 - 1)) c.deref-4.ensures.value
    ∙ (ap (λ (n : ℕ). min (1 + n + (c.len.result + stmts_nodes ss + nodes e)) (2 ^ 32 - 1)) count
    ∙ ap (λ (n : ℕ). min (1 + length ps + (n + stmts_nodes ss + nodes e)) (2 ^ 32 - 1)) long)) in
    let over : nat_lt 2000 c.code_nodes-nodes.result ≡ nat_lt 2000 (nodes_with (length ps) (code ls ss e)) =
    over_capped c.code_nodes-nodes.result (nodes_with (length ps) (code ls ss e)) counted in
    five_met (met_view c.args.least.now) (met_view c.name_locals.new.least) (met_view c.check_decls.new.least) (met_view c.meet_if.new.least)
    (met_view c.check_code.new.least) (met_view c.check_code.new.least)
    (decl_name_faults (ps ++ ls)) (declared_faults shapes ls) (fault_if (nat_lt 2000 (nodes_with (length ps) (code ls ss e))) TOO_MANY_NODES c.args.function.now.name.span)
    (code_faults (with_locals unit (ps ++ ls)) result ss e) []
    (c.in_ok-names.ensures.met ∙ ap (λ (l : List CDecl). kept_all (met_view c.args.least.now) (decl_name_faults l))
    (ap (λ (l : List Decl). map decl_view l ++ map decl_view c.deref-2.result.now) c.deref.ensures.value ∙ ap (λ (l : List Decl). ps ++ map decl_view l) c.deref-2.ensures.value))
    (c.check_decls.ensures.met shapes knows
    ∙ ap (λ (l : List Decl). kept_all (met_view c.name_locals.new.least) (declared_faults shapes (map decl_view l))) c.deref_mut.ensures.value)
    (c.meet_if.ensures ∙ ap (λ b. kept_all (met_view c.check_decls.new.least) (fault_if b TOO_MANY_NODES c.args.function.now.name.span)) over)
    (c.check_code.ensures.met ∙ ap (λ (l : List Typed). kept_all (met_view c.meet_if.new.least)
    (code_faults (record { structs = shapes; globals = unit.globals; functions = unit.functions; primitives = unit.primitives; locals = l }) result ss e)) typed)
    refl

pub returns-clause-resolved : goal.returns-clause-resolved
returns-clause-resolved c =
    let shapes : List Shape = map shape_view c.args.declared.now.structs.now in
    let ps : List CDecl = map decl_view c.args.function.now.params.items in
    let ls : List CDecl = map decl_view c.args.code.now.locals.items in
    let ss : CStmts = stmts_view c.args.code.now.stmts.items in
    let e : CExpr = expr_view c.args.code.now.answer in
    let unit : Env = unit_env c.args.declared.now c.args.functions.now in
    let inner : List Typed → Env = λ l. record { structs = shapes; globals = unit.globals; functions = unit.functions; primitives = unit.primitives; locals = l } in
    let knows : KnowsStructs c.args.declared.now.known.now.names c.deref-3.result.now shapes =
    subst (λ (ws : List ℕ). KnowsStructs c.args.declared.now.known.now.names ws shapes) (sym c.deref-3.ensures.value) c.requires.knows.structs in
    let written : c.deref-8.result.now ≡ c.check_decls.new.decls = grind (arith, common_steps) in
    let locals : map decl_view c.deref-8.result.now ≡ resolved_decls shapes Local c.len-count.result ls =
    ap (map decl_view) written ∙ (c.check_decls.ensures.named shapes knows
    ∙ ap (λ (l : List Decl). resolved_decls shapes Local c.len-count.result (map decl_view l)) c.deref_mut.ensures.value) in
    let typed : map typed_view c.deref-7.result.now ++ map typed_view c.deref-8.result.now ≡ map typed_of (ps ++ ls) =
    locals_typed shapes c.len-count.result c.args.function.now.params.items c.deref-7.result.now c.deref-8.result.now ls c.deref-7.ensures.value locals in
    let count : c.len-count.result ≡ length ps =
    c.len-count.ensures ∙ (sym c.deref.ensures.len ∙ (ap length c.deref.ensures.value ∙ sym (length-map c.args.function.now.params.items decl_view))) in
    ap (λ (l : List Decl). code (map decl_view l) (stmts_view c.check_code.new.stmts.items) (expr_view c.check_code.new.answer)) (sym c.deref-8.ensures.value)
    ∙ (ap (λ (l : List CDecl). code l (stmts_view c.check_code.new.stmts.items) (expr_view c.check_code.new.answer)) (locals ∙ ap (λ (n : ℕ). resolved_decls shapes Local n ls) count)
    ∙ (ap (λ s. code (resolved_decls shapes Local (length ps) ls) s (expr_view c.check_code.new.answer))
    (c.check_code.ensures.stmts ∙ ap (λ (l : List Typed). resolved_of_stmts (inner l) ss) typed)
    ∙ ap (code (resolved_decls shapes Local (length ps) ls) (resolved_of_stmts (with_locals unit (ps ++ ls)) ss))
    (c.check_code.ensures.answer ∙ ap (λ (l : List Typed). resolved (inner l) e) typed)))
