-- An asm body is read, and its faults are those of a body without locals and statements.
use Rattle.std.proofs.Common.{◌≡◌, ℕ, ◌+◌, ◌-◌, ◌^◌, ◌++◌, nat_lt, min, List, [], length, map, sym, ap, ◌∙◌, arith}
use Rattle.std.proofs.lemmas.Grind.{common_steps}
use Rattle.std.proofs.lemmas.List.{length-map}
use Rattle.c0_tree.specs.Tree.{CDecl}
use Rattle.c0_tree.specs.declared.tree.Decl.{Decl}
use Rattle.c0_tree.specs.View.{decl_view}
use Rattle.c0_asm_text.specs.AsmText.{text_words, bad_line}
use Rattle.c0_meaning.specs.Fault.{kept_all, TOO_MANY_NODES}
use Rattle.c0_meaning.specs.DeclaredTypes.{fault_if}
use Rattle.c0_meaning.specs.Names.{decl_name_faults}
use Rattle.c0_name_check.specs.Met.{met_view}
use Rattle.c0_name_check.proofs.FaultsMet.{two_met}
use Rattle.c0_types.specs.Source.{asm_line_fault}
use Rattle.c0_types.proofs.ScopeIsDeclared.{over_capped}
use Rattle.c0_types.proofs.bodies.check_text.Goals as goal

pub returns-clause-met : goal.returns-clause-met
returns-clause-met c =
    let ps : List CDecl = map decl_view c.args.function.now.params.items in
    let text : List ℕ = c.args.text.now.bytes.items in
    let nodes : ℕ = 1 + length ps + length (text_words text) in
    let count : c.len.result ≡ length ps =
    c.len.ensures ∙ (sym c.deref.ensures.len ∙ (ap length c.deref.ensures.value ∙ sym (length-map c.args.function.now.params.items decl_view))) in
    let read : c.in_ok-words.field-0.words.items ≡ text_words text = c.in_ok-words.ensures.words ∙ ap text_words c.deref-2.ensures.value in
    let long : c.len-2.result ≡ length c.in_ok-words.field-0.words.items = grind (arith, common_steps) in
    let counted : c.asm_nodes-nodes.result ≡ min nodes (2 ^ 32 - 1) =
    c.asm_nodes-nodes.ensures
    ∙ (ap (λ (n : ℕ). min (1 + n + c.len-2.result) (2 ^ 32 - 1)) count ∙ ap (λ (n : ℕ). min (1 + length ps + n) (2 ^ 32 - 1)) (long ∙ ap length read)) in
    let over : nat_lt 2000 c.asm_nodes-nodes.result ≡ nat_lt 2000 nodes = over_capped c.asm_nodes-nodes.result nodes counted in
    let names : met_view c.name_locals.new.least ≡ kept_all (met_view c.args.least.now) (decl_name_faults (ps ++ [])) =
    c.in_ok-_names.ensures.met ∙ ap (λ (l : List Decl). kept_all (met_view c.args.least.now) (decl_name_faults (map decl_view l ++ []))) c.deref.ensures.value in
    let line : met_view c.meet_line.new.least ≡ kept_all (met_view c.meet_if.new.least) (asm_line_fault (bad_line text) c.args.text.now.span) =
    c.meet_line.ensures ∙ ap (λ o. kept_all (met_view c.meet_if.new.least) (asm_line_fault o c.args.text.now.span)) (c.in_ok-words.ensures.bad ∙ ap bad_line c.deref-2.ensures.value) in
    two_met (met_view c.args.least.now) (met_view c.name_locals.new.least) _ (decl_name_faults (ps ++ [])) _ names
    (two_met _ (met_view c.meet_if.new.least) _ (fault_if (nat_lt 2000 nodes) TOO_MANY_NODES c.args.function.now.name.span) _
    (c.meet_if.ensures ∙ ap (λ b. kept_all (met_view c.name_locals.new.least) (fault_if b TOO_MANY_NODES c.args.function.now.name.span)) over) line)
