-- The rules that the source of a kernel or a user program has to meet, its asm texts among them. They know no fault and no order.
use Rattle.std.specs.Prelude.{◌≡◌, ◌↔◌, [], IsTrue, is_some}
use Rattle.std.specs.List.{All}
use Rattle.mips_asm.specs.Text.{asm_lines}
use Rattle.c0_asm_text.specs.AsmText.{line_words}
use Rattle.c0_tree.specs.declared.primitive.Program.{Program}
use Rattle.c0_tree.specs.Tree.{CBody, code, asm, CUnit}
use Rattle.c0_meaning.specs.Typed.{IsTypedProgram}
use Rattle.c0_types.specs.Source.{read_unit, source_faults_as}

-- a body whose asm text has allowed lines alone
abbrev pub IsAllowedBody : CBody → Type 0
IsAllowedBody (code locals stmts answer) = Unit {0}
IsAllowedBody (asm text span words) = All (λ line. IsTrue (is_some (line_words line))) (asm_lines text)

-- the source of a kernel or a user program that is typed: each line of its asm texts is allowed, and with the words of these it is typed
pub record IsTypedSource (program : Program) (u : CUnit) : Type 0 where
  pub unit : IsTypedProgram program (read_unit u)
  pub texts : All (λ f. IsAllowedBody f.body) u.functions

-- a law: such a source is typed exactly where no fault stands in it
abbrev pub SourcesAreFaultless : Type 0
SourcesAreFaultless = (program : Program) (u : CUnit) → IsTypedSource program u ↔ (source_faults_as program u ≡ [])
