-- What the emitters say of the code that they append, and that the functions of a well formed unit have expressions that fit the registers.
use Rattle.std.specs.Prelude.{◌≡◌, ℕ, ◌≤◌, Bool, true, false, if◌then◌else◌, List, [], ◌∷◌, length, map, IsTrue, Some, slice_get}
use Rattle.std.specs.List.{All}
use Rattle.mips_table.specs.declared.inst.Inst.{Inst}
use Rattle.masm.specs.declared.registers.CodeAddresses.{CodeAddresses}
use Rattle.masm.specs.declared.registers.TheConstants.{RETURN, SCRATCH}
use Rattle.c0_tree.specs.Primitives.{CPrimitive}
use Rattle.c0_tree.specs.Size.{need}
use Rattle.c0_tree.specs.Tree.{CStmt, assign, call, new, choice, loop, CStmts, done, next, CBody, code, asm, CFunction, CUnit}
use Rattle.c0_tree.specs.declared.tree.Kind.{Kind}
use Rattle.c0_meaning.specs.Asm.{are_allowed_words}
use Rattle.c0_meaning.specs.Unit.{IsWellFormed}
use Rattle.c0_typed.specs.declared.tree.TypedBody.{TypedBody}
use Rattle.c0_typed.specs.declared.tree.TypedCode.{TypedCode}
use Rattle.c0_typed.specs.declared.tree.TypedExpr.{TypedExpr}
use Rattle.c0_typed.specs.declared.tree.TypedStmt.{TypedStmt}
use Rattle.c0_typed.specs.Tree.{TFunction}
use Rattle.c0_typed.specs.View.{typed_body_view, typed_expr_view, typed_stmts_view}
use Rattle.c0_expr_code.specs.declared.address.Access.{Access}
use Rattle.c0_expr_code.specs.declared.setting.CodeSetting.{CodeSetting}
use Rattle.c0_expr_code.specs.Code.{access_code}
use Rattle.c0_expr_code.specs.Emit.{access_inst}
use Rattle.c0_expr_code.specs.FrameSetting.{FrameSetting}
use Rattle.c0_expr_code.specs.Scope.{exit_of, scope_of}
use Rattle.c0_expr_code.specs.SettingIn.{setting_in, setting_told}
use Rattle.c0_stmt_code.specs.Code.{entry_code, frame_slot, function_code, links_of, register_entry, skip}
use Rattle.c0_stmt_code.specs.TypedCode.{typed_call, typed_choice, typed_new, typed_otherwise, typed_stmts_code, typed_while}
use Rattle.c0_stmt_code.specs.TypedFunction.{typed_body_code, typed_function_code, typed_statements, words_of_locals}
use Rattle.c0_stmt_code.specs.TypedLive.{typed_cleared}

-- The expressions of a statement can stand in the 12 registers of expressions: a place stands beside an assigned value. And so of statements.
abbrev mutual
  pub IsEmittable : CStmt → Type 0
  IsEmittable (assign s p v) = (need p ≤ 11) × (need v ≤ 12)
  IsEmittable (call s p cs f args) = (need p ≤ 12) × All (λ e. need e ≤ 12) args
  IsEmittable (new s p t ts) = need p ≤ 12
  IsEmittable (choice s t a b) = (need t ≤ 12) × AreEmittable a × AreEmittable b
  IsEmittable (loop s t b) = (need t ≤ 12) × AreEmittable b

  pub AreEmittable : CStmts → Type 0
  AreEmittable done = Unit {0}
  AreEmittable (next s rest) = IsEmittable s × AreEmittable rest

-- a body of a function with so many parameters
abbrev pub IsEmittableBody : (params : ℕ) → CBody → Type 0
IsEmittableBody params (code locals stmts answer) = AreEmittable stmts × (need answer ≤ 12)
IsEmittableBody params (asm text span words) = (params ≤ 4) × IsTrue (are_allowed_words words)

-- a function, which has at most 8 parameters
pub record IsEmittableFunction (f : CFunction) : Type 0 where
  pub body : IsEmittableBody (length f.params) f.body
  pub few : length f.params ≤ 8

-- a law: each function of a well formed unit is so
abbrev pub FunctionsAreEmittable : Type 0
FunctionsAreEmittable = (primitives : List CPrimitive) (u : CUnit) → IsWellFormed primitives u
    → (n : ℕ) (f : CFunction) → slice_get u.functions n ≡ Some f → IsEmittableFunction f

-- the code of a function of a unit, where what it names has these addresses
abbrev pub function_at : CUnit → CodeAddresses → CFunction → List Inst
function_at u addresses f = function_code (scope_of u f addresses) (links_of addresses) f

-- that of a typed function
abbrev pub typed_function_at : CodeAddresses → TFunction → List Inst
typed_function_at addresses f = typed_function_code (exit_of addresses) (links_of addresses) f

-- a jump over code, and that code
abbrev pub skipped_code : List Inst → List Inst
skipped_code is = skip (length is) ∷ is

-- the code of typed statements in a setting, where what they name has these addresses
abbrev pub typed_stmts_in : CodeSetting → CodeAddresses → List TypedStmt → List Inst
typed_stmts_in s addresses ss = typed_stmts_code (setting_in s) (links_of addresses) (typed_stmts_view ss)

-- of a call, whose answer goes to a place
abbrev pub call_in : CodeSetting → CodeAddresses → Kind → (number : ℕ) → List TypedExpr → TypedExpr → List Inst
call_in s addresses kind n args p = typed_call (setting_in s) (links_of addresses) kind n (map typed_expr_view args) (typed_expr_view p)

-- of `new` of so many words, whose object's address goes to a place
abbrev pub new_in : CodeSetting → CodeAddresses → (words : ℕ) → TypedExpr → List Inst
new_in s addresses n p = typed_new (setting_in s) (links_of addresses) n (typed_expr_view p)

-- of the other branch of an `if`
abbrev pub otherwise_in : CodeSetting → CodeAddresses → List TypedStmt → List Inst
otherwise_in s addresses ss = typed_otherwise (typed_stmts_view ss) (typed_stmts_in s addresses ss)

-- of typed statements where a test came out so
abbrev pub told_stmts_in : CodeSetting → TypedExpr → Bool → CodeAddresses → List TypedStmt → List Inst
told_stmts_in s t b addresses ss = typed_stmts_in (setting_told s t b) addresses ss

-- of an `if`
abbrev pub choice_in : CodeSetting → CodeAddresses → TypedExpr → (yes no : List TypedStmt) → List Inst
choice_in s addresses t a b =
    typed_choice (setting_in s) (typed_expr_view t) (typed_stmts_view b) (told_stmts_in s t true addresses a) (told_stmts_in s t false addresses b)

-- of a loop, where the setting is that of its test
abbrev pub while_in : CodeSetting → CodeAddresses → TypedExpr → List TypedStmt → List Inst
while_in s addresses t b = typed_while (setting_in s) (typed_expr_view t) (told_stmts_in s t true addresses b)

-- of a function with statements that has so many parameters
abbrev pub function_in : CodeSetting → CodeAddresses → (params : ℕ) → (calling : Bool) → TypedCode → List Inst
function_in s addresses params calling body =
    typed_statements (setting_in s) (links_of addresses) params calling body.locals.items (typed_stmts_view body.stmts.items) (typed_expr_view body.answer)

-- of a function's body
abbrev pub body_in : CodeSetting → CodeAddresses → (params : ℕ) → (calling : Bool) → TypedBody → List Inst
body_in s addresses params calling body = typed_body_code (setting_in s) (links_of addresses) params calling (typed_body_view body)

-- the access to the frame's first word, which keeps the return address where something is called
abbrev pub kept_code : FrameSetting → Access → (calling : Bool) → List Inst
kept_code st access calling = if calling then access_code (access_inst access RETURN) SCRATCH (frame_slot st 0) else []

-- which locals of a body are 0 behind the begin of its function
abbrev pub cleared_in : TypedCode → ℕ → Bool
cleared_in body = typed_cleared body.locals.items (typed_stmts_view body.stmts.items) (typed_expr_view body.answer)

-- the code of the begin of a function whose variables stand in registers, and of any function
abbrev pub register_entry_in : CodeSetting → TypedCode → (params : ℕ) → (calling : Bool) → List Inst
register_entry_in s body params calling = register_entry (setting_in s) (cleared_in body) params (length body.locals.items) calling

abbrev pub entry_in : CodeSetting → TypedCode → (params : ℕ) → (calling : Bool) → List Inst
entry_in s body params calling =
    entry_code (setting_in s) (cleared_in body) params (length body.locals.items) (words_of_locals body.locals.items) calling
