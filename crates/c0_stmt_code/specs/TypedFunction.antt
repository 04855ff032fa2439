-- The code of a typed function, and what its emitter asks of it.
use Rattle.std.specs.Prelude.{◌≡◌, ℕ, ◌+◌, ◌≤◌, Bool, List, ◌++◌, length, map, sum, IsTrue}
use Rattle.std.specs.List.{All}
use Rattle.mips_table.specs.declared.inst.Inst.{Inst}
use Rattle.masm.specs.declared.registers.TheConstants.{ANSWER, EXPRESSIONS}
use Rattle.c0_meaning.specs.Asm.{are_allowed_words}
use Rattle.c0_meaning.specs.Operators.{KernelFault}
use Rattle.c0_typed.specs.declared.tree.LocalType.{LocalType}
use Rattle.c0_typed.specs.Size.{typed_need}
use Rattle.c0_typed.specs.Tree.{TExpr, TStmt, assign, call, new, choice, loop, TStmts, done, next, TBody, code, asm, TFunction}
use Rattle.c0_expr_code.specs.Facts.{start_facts}
use Rattle.c0_expr_code.specs.FrameSetting.{FrameSetting}
use Rattle.c0_stmt_code.specs.Code.{Links, asm_function, entry_code, exit_code}
use Rattle.c0_stmt_code.specs.TypedCode.{setting_behind_all, typed_stmts_code, typed_value}
use Rattle.c0_stmt_code.specs.TypedLive.{typed_cleared}

-- the words of locals
abbrev pub words_of_locals : List LocalType → ℕ
words_of_locals locals = sum (map (λ x. x.words) locals)

-- the answer goes to register 2, and the function returns
abbrev pub typed_return : FrameSetting → (calling : Bool) → TExpr → List Inst
typed_return st calling answer = typed_value st answer ANSWER EXPRESSIONS ++ exit_code st calling

-- a function that has statements
abbrev pub typed_statements : FrameSetting → Links → (params : ℕ) → (calling : Bool) → List LocalType → TStmts → TExpr → List Inst
typed_statements st x params calling locals stmts answer =
    entry_code st (typed_cleared locals stmts answer) params (length locals) (words_of_locals locals) calling ++
    (typed_stmts_code st x stmts ++ typed_return (setting_behind_all st stmts) calling answer)

-- a body's code
abbrev pub typed_body_code : FrameSetting → Links → (params : ℕ) → (calling : Bool) → TBody → List Inst
typed_body_code st x params calling (code locals stmts answer) = typed_statements st x params calling locals stmts answer
typed_body_code st x params calling (asm words) = asm_function st params words

-- the setting at the begin of a function whose faults leave to these words
abbrev pub function_setting : (KernelFault → ℕ) → TFunction → FrameSetting
function_setting exit f = record { in_registers = f.in_registers; frame = f.frame; exit = exit; facts = start_facts f.in_registers f.params }

-- a function's code, where its faults leave to these words
abbrev pub typed_function_code : (KernelFault → ℕ) → Links → TFunction → List Inst
typed_function_code exit x f = typed_body_code (function_setting exit f) x f.params f.calling f.body

-- The expressions of a statement can stand in the 12 registers of expressions: a place stands beside an assigned value. And so of statements.
abbrev mutual
  pub FitsRegisters : TStmt → Type 0
  FitsRegisters (assign p v) = (typed_need p ≤ 11) × (typed_need v ≤ 12)
  FitsRegisters (call k n args p) = (typed_need p ≤ 12) × All (λ e. typed_need e ≤ 12) args
  FitsRegisters (new w p) = typed_need p ≤ 12
  FitsRegisters (choice t a b) = (typed_need t ≤ 12) × FitRegisters a × FitRegisters b
  FitsRegisters (loop t b) = (typed_need t ≤ 12) × FitRegisters b

  pub FitRegisters : TStmts → Type 0
  FitRegisters done = Unit {0}
  FitRegisters (next s rest) = FitsRegisters s × FitRegisters rest

-- a frame has three words of its own, one for each parameter, and those of the locals
abbrev pub HasFrame : (params frame : ℕ) → List LocalType → Type 0
HasFrame params frame locals = frame ≡ words_of_locals locals + 3 + params

-- What the emitter of a function with so many parameters asks of its body, and of its frame; an asm body has few parameters and allowed words.
abbrev pub CanEmitBody : (params frame : ℕ) → TBody → Type 0
CanEmitBody params frame (code locals stmts answer) = HasFrame params frame locals × FitRegisters stmts × (typed_need answer ≤ 12)
CanEmitBody params frame (asm words) = (params ≤ 4) × IsTrue (are_allowed_words words)

abbrev pub CanEmit : TFunction → Type 0
CanEmit f = CanEmitBody f.params f.frame f.body
