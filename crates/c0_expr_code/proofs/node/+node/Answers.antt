-- An operator on two registers is no place; the branch over a right side; and what a right side goes by.
use Rattle.std.proofs.Common.{◌≡◌, ℕ, List, ◌++◌, map, length, sym, ap, ◌∙◌, subst, arith}
use Rattle.std.proofs.lemmas.List.{append-nil, length-map}
use Rattle.mips_table.specs.declared.inst.Inst.{Inst}
use Rattle.mips_table.specs.Encoding.{encoding}
use Rattle.c0_expr_code.specs.Emit.{Appends, logic_skip}
use Rattle.c0_expr_code.specs.Code.{AddressingMode}
use Rattle.c0_expr_code.specs.SettingIn.{node_in, setting_in}
use Rattle.c0_expr_code.proofs.BranchPatched.{patched}
use Rattle.c0_expr_code.proofs.OutermostPart.{plain_address, both_value, either_value}
use Rattle.c0_expr_code.proofs.node.+node.Goals as goal

pub emit_place-returns-in-Plain-clause-code : goal.emit_place-returns-in-Plain-clause-code
emit_place-returns-in-Plain-clause-code t c =
    let e = plain_address (setting_in c.args.setting.now) c.args.expr.now _ _ _ c.args.free c.in-Plain.is in
    sym (append-nil c.args.code.now.items) ∙ sym (ap (λ (x : AddressingMode). c.args.code.now.items ++ map encoding x.code) e)

pub emit_place-returns-in-Plain-clause-place : goal.emit_place-returns-in-Plain-clause-place
emit_place-returns-in-Plain-clause-place t c =
    let e = plain_address (setting_in c.args.setting.now) c.args.expr.now _ _ _ c.args.free c.in-Plain.is in
    (c.none-in-Plain.ensures.base ∙ sym (ap (λ (x : AddressingMode). x.base) e), c.none-in-Plain.ensures.displacement ∙ sym (ap (λ (x : AddressingMode). x.displacement) e))

pub emit_right-returns : goal.emit_right-returns
emit_right-returns t c =
    let value = (node_in c.args.setting.now c.args.right.now).value in
    let code = value c.args.free c.args.free in
    let word = c.skip.ensures.value ∙ ap (λ (q : ℕ). logic_skip c.args.is_or q 0) c.new-register.ensures in
    let words = c.in_ok-emit_value.ensures ∙ ap (λ (q : ℕ). c.emit.new.code.items ++ map encoding (value q c.args.free)) c.new-register.ensures in
    let at : c.len-at.result ≡ length c.args.code.now.items = omega (arith, c.len-at.ensures) in
    let to : c.len-end.result ≡ length c.emit_value.new.code.items = omega (arith, c.len-end.ensures) in
    patched c.args.is_or c.args.free c.args.code.now.items (map encoding code) c.emit.new.code.items c.emit_value.new.code.items c.patch.new.code.items c.len-at.result c.len-end.result
    (encoding c.skip.result) (length code) (ap encoding word) c.in_ok-emit.ensures.appended words at to c.patch.ensures (sym (length-map code encoding))

pub emit_value-returns-in-Both : goal.emit_value-returns-in-Both
emit_value-returns-in-Both t c =
    let e = both_value c.args.setting.now c.args.expr.now c.deref-in-Both.result.now c.deref-in-Both-2.result.now _ _ c.args.target c.args.free c.in-Both.is c.deref-in-Both.ensures c.deref-in-Both-2.ensures in
    subst (λ (is : List Inst). Appends c.args.code.now.items c.emit_logic.new.code.items is c.emit_logic.result) e c.emit_logic.ensures

pub emit_value-returns-in-Either : goal.emit_value-returns-in-Either
emit_value-returns-in-Either t c =
    let e = either_value c.args.setting.now c.args.expr.now c.deref-in-Either.result.now c.deref-in-Either-2.result.now _ _ c.args.target c.args.free c.in-Either.is c.deref-in-Either.ensures c.deref-in-Either-2.ensures in
    subst (λ (is : List Inst). Appends c.args.code.now.items c.emit_logic-in-Either.new.code.items is c.emit_logic-in-Either.result) e c.emit_logic-in-Either.ensures
