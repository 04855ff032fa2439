-- The code of the function's tree is that of the function.
use Rattle.std.proofs.Common.{List, sym, ap, ◌∙◌, subst}
use Rattle.mips_table.specs.declared.inst.Inst.{Inst}
use Rattle.c0_tree.specs.declared.tree.Unit.{Unit as Source}
use Rattle.c0_tree.specs.View.{unit_view}
use Rattle.c0_meaning.specs.Unit.{IsWellFormed}
use Rattle.c0_typed.specs.Tree.{TFunction}
use Rattle.c0_expr_code.specs.Emit.{Appends}
use Rattle.c0_expr_code.specs.Scope.{exit_of}
use Rattle.c0_stmt_code.specs.Code.{links_of}
use Rattle.c0_stmt_code.specs.TypedFunction.{CanEmit, typed_function_code}
use Rattle.c0_unit.proofs.OneFunctionMore.{some_at}
use Rattle.c0_unit.proofs.functions.emit_one.Goals as goal

pub emit_function-requires-clause-function : goal.emit_function-requires-clause-function
emit_function-requires-clause-function c =
    let found = some_at (unit_view c.args.typed.now).functions c.args.number c.requires.number in
    let w = c.unit-unit.ensures.well_formed in
    let well = subst (λ (s : Source). IsWellFormed w.0 (unit_view s)) c.measured.ensures w.1 in
    subst CanEmit (sym (c.function.ensures found.0 found.1)) (c.functions_are_made.ensures.emittable w.0 (unit_view c.args.typed.now) c.args.number found.0 well found.1)

pub returns : goal.returns
returns c = λ f is.
    let w = c.unit-unit.ensures.well_formed in
    let well = subst (λ (s : Source). IsWellFormed w.0 (unit_view s)) c.measured.ensures w.1 in
    let addresses = c.args.addresses.now in
    let tree = ap (λ (t : TFunction). typed_function_code (exit_of addresses) (links_of addresses) t) (c.function.ensures f is) in
    let made = c.functions_are_made.ensures.codes w.0 (unit_view c.args.typed.now) c.args.number f addresses well is in
    subst (λ (code : List Inst). Appends c.args.code.now.items c.emit_function.new.code.items code c.emit_function.result) (tree ∙ sym made) c.emit_function.ensures.appended
