-- The faults are met in their order. Those of types that can't be passed are met once the types are resolved, which changes none of them.
use Rattle.std.proofs.Common.{◌≡◌, ℕ, Bool, nat_lt, length, map, sym, ap, ◌∙◌, arith}
use Rattle.std.proofs.lemmas.Grind.{common_steps}
use Rattle.std.proofs.lemmas.List.{length-map}
use Rattle.c0_tree.specs.Tree.{CFunction}
use Rattle.c0_tree.specs.declared.tree.Kind.TheVariants.{Local}
use Rattle.c0_tree.specs.View.{decl_view, function_view, type_view}
use Rattle.c0_meaning.specs.DeclaredTypes.{fault_if, type_faults, declared_faults, pass_fault, pass_faults}
use Rattle.c0_meaning.specs.Fault.{kept_all, TOO_MANY_PARAMETERS}
use Rattle.c0_meaning.specs.Resolved.{resolved_decls}
use Rattle.c0_meaning.specs.Limits.{is_asm, max_parameters}
use Rattle.c0_name_check.specs.Met.{met_view}
use Rattle.c0_meaning.proofs.StableTypes.{pass_kept, passes_kept, decls_length}
use Rattle.c0_types.proofs.FaultsMetInTurn.{five_met}
use Rattle.c0_types.proofs.headings.check_heading.Goals as goal

pub returns-clause-met : goal.returns-clause-met
returns-clause-met c shapes knows =
    let f : CFunction = function_view c.args.function.now in
    let in_asm : Bool = is_asm f.body in
    let passed : pass_fault c.is_asm_text-is_asm.result (type_view c.check_type.new.ty) f.answer_span ≡ pass_fault in_asm f.answer f.answer_span =
    ap (λ b. pass_fault b (type_view c.check_type.new.ty) f.answer_span) c.is_asm_text-is_asm.ensures
    ∙ (ap (λ t. pass_fault in_asm t f.answer_span) (c.check_type.ensures.named shapes knows) ∙ pass_kept shapes in_asm f.answer f.answer_span) in
    let given : map decl_view c.deref_mut.result.now ≡ f.params = ap (map decl_view) c.deref_mut.ensures.value in
    let written : c.deref.result.now ≡ c.check_decls.new.decls = grind (arith, common_steps) in
    let params : map decl_view c.deref.result.now ≡ resolved_decls shapes Local 0 f.params =
    ap (map decl_view) written
    ∙ (c.check_decls.ensures.named shapes knows ∙ ap (resolved_decls shapes Local 0) given) in
    let all_passed : pass_faults c.is_asm_text-is_asm.result (map decl_view c.deref.result.now) ≡ pass_faults in_asm f.params =
    ap (λ b. pass_faults b (map decl_view c.deref.result.now)) c.is_asm_text-is_asm.ensures
    ∙ (ap (pass_faults in_asm) params ∙ passes_kept shapes in_asm Local 0 f.params) in
    let long : c.len.result ≡ length f.params =
    c.len.ensures ∙ (sym c.deref.ensures.len ∙ (sym (length-map c.deref.result.now decl_view)
    ∙ (ap length params ∙ decls_length shapes Local 0 f.params))) in
    let count : nat_lt c.max_parameters.result c.len.result ≡ nat_lt (max_parameters in_asm) (length f.params) =
    ap (λ (m : ℕ). nat_lt m c.len.result) (c.max_parameters.ensures ∙ ap max_parameters c.is_asm_text-is_asm.ensures)
    ∙ ap (nat_lt (max_parameters in_asm)) long in
    five_met (met_view c.args.least.now) (met_view c.check_type.new.least) (met_view c.meet_unpassed.new.least)
    (met_view c.check_decls.new.least) (met_view c.meet_unpassed_params.new.least) (met_view c.meet_if.new.least)
    (type_faults shapes f.answer f.answer_span) (pass_fault in_asm f.answer f.answer_span) (declared_faults shapes f.params)
    (pass_faults in_asm f.params) (fault_if (nat_lt (max_parameters in_asm) (length f.params)) TOO_MANY_PARAMETERS f.name.span)
    (c.check_type.ensures.met shapes knows)
    (c.meet_unpassed.ensures ∙ ap (kept_all (met_view c.check_type.new.least)) passed)
    (c.check_decls.ensures.met shapes knows ∙ ap (λ ds. kept_all (met_view c.meet_unpassed.new.least) (declared_faults shapes ds)) given)
    (c.meet_unpassed_params.ensures ∙ ap (kept_all (met_view c.check_decls.new.least)) all_passed)
    (c.meet_if.ensures ∙ ap (λ b. kept_all (met_view c.meet_unpassed_params.new.least) (fault_if b TOO_MANY_PARAMETERS f.name.span)) count)
