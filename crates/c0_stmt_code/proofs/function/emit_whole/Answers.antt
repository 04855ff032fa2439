-- The setting that the emitters are lent is the function's.
use Rattle.std.proofs.Common.{◌≡◌, ◌∙◌, ℕ, ◌/◌, ◌++◌, map, sym, subst, OnOk}
use Rattle.std.specs.Prelude.{slice_index}
use Rattle.mips_table.specs.Encoding.{encoding}
use Rattle.masm.specs.declared.registers.CodeAddresses.{CodeAddresses}
use Rattle.c0_typed.specs.Tree.{TFunction}
use Rattle.c0_typed.specs.View.{typed_body_view, typed_function_view}
use Rattle.c0_expr_code.specs.declared.setting.CodeSetting.{CodeSetting}
use Rattle.c0_expr_code.specs.Exits.{exits_of}
use Rattle.c0_expr_code.specs.Facts.{start_facts}
use Rattle.c0_expr_code.specs.FrameSetting.{FrameSetting}
use Rattle.c0_expr_code.specs.Scope.{exit_number, exit_of}
use Rattle.c0_expr_code.specs.SettingIn.{setting_in}
use Rattle.c0_stmt_code.specs.Code.{links_of}
use Rattle.c0_stmt_code.specs.TypedFunction.{CanEmitBody, function_setting, typed_body_code}
use Rattle.c0_stmt_code.proofs.function.emit_whole.Goals as goal

same_setting : (s : CodeSetting) (addresses : CodeAddresses) (f : TFunction) → s.in_registers ≡ f.in_registers → s.frame ≡ f.frame → exits_of s.exits ≡ addresses.faults → s.facts ≡ start_facts f.in_registers f.params
    → setting_in s ≡ function_setting (exit_of addresses) f
same_setting s addresses f registers frame exits facts = λ j. record { in_registers = registers j; frame = frame j; exit = λ fault. slice_index (exits j) (exit_number fault) / 4; facts = facts j }

pub emit_body-requires-clause-body : goal.emit_body-requires-clause-body
emit_body-requires-clause-body c =
    let P : ℕ → Type 0 = λ n. CanEmitBody c.args.function.now.params n (typed_body_view c.args.function.now.body) in
    subst P (sym c.new-setting.ensures.frame) c.requires.function

pub returns : goal.returns
returns c =
    let f = typed_function_view c.args.function.now in
    let P : FrameSetting → Type 0 = λ st. OnOk c.emit_body.result (c.emit_body.new.code.items ≡ c.args.code.now.items ++ map encoding (typed_body_code st (links_of c.args.addresses.now) f.params f.calling f.body)) in
    subst P (same_setting c.new-setting.result c.args.addresses.now f c.new-setting.ensures.registers c.new-setting.ensures.frame c.new-setting.ensures.exits (c.new-setting.ensures.facts ∙ c.at_start-facts.ensures)) c.emit_body.ensures
