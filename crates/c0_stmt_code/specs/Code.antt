-- The code of statements, of calls and of functions: one fold over the tree. It doesn't depend on where it stands, but for the calls' indices.
use Rattle.std.specs.Prelude.{ℕ, zero, suc, ◌+◌, ◌-◌, ◌*◌, ◌/◌, ◌%◌, ◌^◌, Bool, true, false, nat_lt}
use Rattle.std.specs.Prelude.{nat_le, max, if◌then◌else◌, List, [], ◌∷◌, ◌++◌, length, map, slice_index, Option, Some, None}
use Rattle.mips_table.specs.declared.inst.Inst.{Inst}
use Rattle.mips_table.specs.declared.inst.Inst.TheVariants.{Addu, Sltu, J, Jal, Jr, Beq, Bne, Addiu, Lw, Sw}
use Rattle.masm.specs.declared.registers.CodeAddresses.{CodeAddresses}
use Rattle.masm.specs.declared.registers.TheConstants.{SCRATCH, ANSWER, EXPRESSIONS, FRAME_END, STACK_END, RETURN}
use Rattle.c0_tree.specs.declared.tree.Kind.{Kind}
use Rattle.c0_tree.specs.declared.tree.Kind.TheVariants.{Function, Primitive}
use Rattle.c0_tree.specs.Tree.{CExpr, CStmt, assign, call, new, choice, loop, CStmts, done, next, CBody, code, asm, CDecl, CFunction}
use Rattle.c0_meaning.specs.Ty.{ty_of}
use Rattle.c0_meaning.specs.Env.{typed_of}
use Rattle.c0_meaning.specs.Words.{words, all_words}
use Rattle.c0_meaning.specs.Operators.{StackOut}
use Rattle.c0_typed.specs.Leaf.{are_calling}
use Rattle.c0_typed.specs.Typed.{typed_of_expr, typed_of_stmt, typed_of_stmts}
use Rattle.c0_expr_code.specs.declared.facts.Facts.{Facts}
use Rattle.c0_expr_code.specs.Facts.{facts_called, facts_followed, overwritten, renewed, start_facts, facts_told}
use Rattle.c0_expr_code.specs.Scope.{Scope}
use Rattle.c0_expr_code.specs.FrameSetting.{FrameSetting, frame_back, frame_setting}
use Rattle.c0_expr_code.specs.Code.{AddressingMode, Made, register_of_variable, constant_code, access_code, operand_code, operand_register, made, value_code}
use Rattle.c0_expr_code.specs.Test.{test_code}
use Rattle.c0_asm_body.specs.Code.{asm_code}
use Rattle.c0_stmt_code.specs.Behind.{all_changed, answer_known, facts_behind, facts_behind_all, stored_facts}
use Rattle.c0_stmt_code.specs.Live.{is_cleared}

-- the jump indices of what calls name: the functions and the primitives by their numbers, and the routine that takes a new object
pub record Links : Type 0 where
  pub function : ℕ → ℕ
  pub primitive : ℕ → ℕ
  pub new_object : ℕ

-- the index of what is called, by its kind and number
abbrev pub callee_index : Links → Kind → ℕ → ℕ
callee_index x Function n = x.function n
callee_index x Primitive n = x.primitive n
callee_index x _ n = 0

-- a jump over so many words
abbrev pub skip : ℕ → Inst
skip n = Beq 0 0 (n % 2 ^ 16)

-- the value of register q goes to a variable that stands in a register, or to a place, with the free registers from r
abbrev pub stored_code : (q r : ℕ) → Option ℕ → (ℕ → AddressingMode) → List Inst
stored_code q r (Some x) place = Addu x q 0 ∷ []
stored_code q r None place = access_code (λ b k. Sw q b k) r (place r)

-- an answer in register 2 goes to a place
abbrev pub answer_code : Scope → Facts → CExpr → List Inst
answer_code sc fs p = stored_code ANSWER EXPRESSIONS (made sc fs p).register (made sc fs p).place

-- a value goes to a variable that stands in a register, or first to a register and from there to a place
abbrev pub assigned_code : Option ℕ → Made → Made → List Inst
assigned_code (Some x) p v = v.value x EXPRESSIONS
assigned_code None p v = operand_code v EXPRESSIONS ++ access_code (λ b k. Sw (operand_register v EXPRESSIONS) b k) 9 (p.place 9)

-- an assignment
abbrev pub assign_code : Scope → Facts → CExpr → CExpr → List Inst
assign_code sc fs p v = assigned_code (made sc fs p).register (made sc fs p) (made sc fs v)

-- arguments, of which the first has the number i, go to their registers: a parameter that stood in one does no longer
abbrev pub args_code : Scope → Facts → List CExpr → (i : ℕ) → List Inst
args_code sc fs [] i = []
args_code sc fs (e ∷ es) i = value_code sc fs e (register_of_variable i) EXPRESSIONS ++ args_code sc (overwritten fs i) es (suc i)

-- a call
abbrev pub call_code : Scope → Facts → Links → Kind → ℕ → List CExpr → CExpr → List Inst
call_code sc fs x kind n args p = args_code sc fs args 0 ++ (Jal (callee_index x kind n) ∷ answer_code sc (facts_called fs) p)

-- `new` of a type of so many words
abbrev pub new_code : Scope → Facts → Links → ℕ → CExpr → List Inst
new_code sc fs x n p = constant_code ANSWER (n % 2 ^ 32) ++ (Jal x.new_object ∷ answer_code sc (renewed fs) p)

-- the other branch of an `if`, where there is one: the first jumps over it
abbrev pub otherwise : CStmts → List Inst → List Inst
otherwise done no_code = []
otherwise (next s rest) no_code = skip (length no_code) ∷ no_code

-- how far the other branch begins behind the first
abbrev pub otherwise_at : CStmts → ℕ
otherwise_at done = 0
otherwise_at (next s rest) = 1

-- an `if`, by the code of its branches
abbrev pub choice_code : Scope → Facts → CExpr → CStmts → (yes_code no_code : List Inst) → List Inst
choice_code sc fs t b yes_code no_code =
    test_code sc fs t false ((length yes_code + otherwise_at b) % 2 ^ 16) EXPRESSIONS ++ (yes_code ++ otherwise b no_code)

-- The distance back from the end of a loop's test to its body, modulo 2 ^ 16. Where there is no body, the test goes back to the jump before it, which
-- does nothing then: so each turn leads elsewhere.
abbrev pub back : Scope → Facts → CExpr → List Inst → ℕ
back sc fs t body = (2 ^ 16 - (max (length body) 1 + length (test_code sc fs t true 0 EXPRESSIONS)) % 2 ^ 16) % 2 ^ 16

-- the test of a loop whose body is this code
abbrev pub turn_code : Scope → Facts → CExpr → List Inst → List Inst
turn_code sc fs t body = test_code sc fs t true (back sc fs t body) EXPRESSIONS

-- a loop, by the code of its body: the test stands behind it
abbrev pub while_code : Scope → Facts → CExpr → List Inst → List Inst
while_code sc fs t body = skip (length body) ∷ (body ++ turn_code sc fs t body)

-- what is known behind a statement of a function, and behind statements
abbrev pub facts_behind_stmt : Scope → Facts → CStmt → Facts
facts_behind_stmt sc fs s = facts_behind sc.in_registers (typed_of_stmt sc.env s) fs

abbrev pub facts_behind_stmts : Scope → Facts → CStmts → Facts
facts_behind_stmts sc fs ss = facts_behind_all sc.in_registers (typed_of_stmts sc.env ss) fs

-- what is known once an answer has gone to its place
abbrev pub answered_facts : Scope → Facts → CExpr → Facts
answered_facts sc fs p = answer_known sc.in_registers (typed_of_expr sc.env p) (stored_facts (typed_of_expr sc.env p) fs)

-- what is known behind a test, where it came out so, and where the test of a loop with this body begins, each time
abbrev pub tested_facts : Scope → Facts → CExpr → Facts
tested_facts sc fs t = facts_followed (typed_of_expr sc.env t) fs

abbrev pub told_facts : Scope → Facts → CExpr → Bool → Facts
told_facts sc fs t b = facts_told (typed_of_expr sc.env t) b fs

abbrev pub turn_facts : Scope → Facts → CStmts → Facts
turn_facts sc fs body = all_changed (typed_of_stmts sc.env body) fs

-- a statement, and statements one after another, by what is known before them
abbrev mutual
  pub stmt_code : Scope → Facts → Links → CStmt → List Inst
  stmt_code sc fs x (assign s p v) = assign_code sc fs p v
  stmt_code sc fs x (call s p cs f args) = call_code sc fs x f.kind f.number args p
  stmt_code sc fs x (new s p t ts) = new_code sc fs x (words sc.env.structs (ty_of t)) p
  stmt_code sc fs x (choice s t a b) =
      choice_code sc fs t b (stmts_code sc (told_facts sc fs t true) x a) (stmts_code sc (told_facts sc fs t false) x b)
  stmt_code sc fs x (loop s t b) = while_code sc (turn_facts sc fs b) t (stmts_code sc (told_facts sc (turn_facts sc fs b) t true) x b)

  pub stmts_code : Scope → Facts → Links → CStmts → List Inst
  stmts_code sc fs x done = []
  stmts_code sc fs x (next s rest) = stmt_code sc fs x s ++ stmts_code sc (facts_behind_stmt sc fs s) x rest

-- the frame's word of a number: register 29 is the frame's end
abbrev pub frame_slot : FrameSetting → ℕ → AddressingMode
frame_slot st i = record { code = []; base = FRAME_END; displacement = (frame_back st + 4 * i) % 2 ^ 32 }

-- a register becomes register 29 and so many bytes, modulo 2 ^ 32
abbrev pub end_code : (d bytes : ℕ) → List Inst
end_code d bytes = access_code (λ b k. Addiu d b k) d (record { code = []; base = FRAME_END; displacement = bytes % 2 ^ 32 })

-- the words of the largest stack
abbrev pub MAX_STACK : ℕ
MAX_STACK = 262144

-- no stack has room for a frame that is larger than the largest
abbrev pub large_code : FrameSetting → List Inst
large_code st = if nat_lt MAX_STACK st.frame then J (st.exit StackOut) ∷ [] else []

-- the test of the stack: register d becomes the new frame's end, which must not lie behind the stack's
abbrev pub stack_test : FrameSetting → ℕ → List Inst
stack_test st d = large_code st ++ (end_code d (4 * st.frame) ++ (Sltu SCRATCH STACK_END d ∷ Beq SCRATCH 0 1 ∷ J (st.exit StackOut) ∷ []))

-- the return address goes to the frame's first word, and comes back from it, where it is written in between
abbrev pub save_code : FrameSetting → Bool → List Inst
save_code st calling = if calling then access_code (λ b k. Sw RETURN b k) SCRATCH (frame_slot st 0) else []

abbrev pub restore_code : FrameSetting → Bool → List Inst
restore_code st calling = if calling then access_code (λ b k. Lw RETURN b k) SCRATCH (frame_slot st 0) else []

-- so many arguments, of which the first has the number i, go from their registers to the frame, behind its three words
abbrev pub params_code : FrameSetting → (n i : ℕ) → List Inst
params_code st zero i = []
params_code st (suc n) i = access_code (λ b k. Sw (register_of_variable i) b k) SCRATCH (frame_slot st (3 + i)) ++ params_code st n (suc i)

-- the frame's word of number i behind its three words becomes 0, where that is asked
abbrev pub zero_code : FrameSetting → (cleared : Bool) → ℕ → List Inst
zero_code st cleared i = if cleared then access_code (λ b k. Sw 0 b k) SCRATCH (frame_slot st (3 + i)) else []

-- of so many of these words, of which the first has the number i, those become 0 that are to be cleared
abbrev pub zeros_code : FrameSetting → (cleared : ℕ → Bool) → (n i : ℕ) → List Inst
zeros_code st cleared zero i = []
zeros_code st cleared (suc n) i = zero_code st (cleared i) i ++ zeros_code st cleared n (suc i)

-- the frame's words from number i behind its three words to its end become 0, in a loop
abbrev pub zeros_loop : FrameSetting → ℕ → List Inst
zeros_loop st i =
    access_code (λ b k. Addiu ANSWER b k) ANSWER (frame_slot st (3 + i)) ++ (Sw 0 ANSWER 0 ∷ Addiu ANSWER ANSWER 4 ∷ Bne ANSWER FRAME_END 65533 ∷ [])

-- the locals' words, of which there are n, from number i behind the frame's three words to its end: few one by one, those that are to be cleared
abbrev pub locals_code : FrameSetting → (cleared : ℕ → Bool) → (n i : ℕ) → List Inst
locals_code st cleared n i = if nat_le n 8 then zeros_code st cleared n i else zeros_loop st i

-- the register of the variable of number i becomes 0, where that is asked
abbrev pub clear_one : (cleared : Bool) → ℕ → List Inst
clear_one cleared i = if cleared then Addu (register_of_variable i) 0 0 ∷ [] else []

-- of so many of these registers, of which the first has the number i, those become 0 that are to be cleared
abbrev pub clear_code : (cleared : ℕ → Bool) → (n i : ℕ) → List Inst
clear_code cleared zero i = []
clear_code cleared (suc n) i = clear_one (cleared i) i ++ clear_code cleared n (suc i)

-- the begin of a function that has a frame: the stack's test, the return address, the parameters and the locals
abbrev pub frame_entry : FrameSetting → (cleared : ℕ → Bool) → (params locals : ℕ) → Bool → List Inst
frame_entry st cleared params locals calling =
    stack_test st FRAME_END ++ (save_code st calling ++ (params_code st params 0 ++ locals_code st cleared locals params))

-- the return from it, whose answer is in register 2
abbrev pub frame_return : FrameSetting → Bool → List Inst
frame_return st calling = restore_code st calling ++ (end_code FRAME_END (frame_back st) ++ (Jr RETURN ∷ []))

-- the begin of a function whose variables stand in registers: register 29 stays, and only `new` writes the return register
abbrev pub register_entry : FrameSetting → (cleared : ℕ → Bool) → (params locals : ℕ) → Bool → List Inst
register_entry st cleared params locals calling =
    stack_test st SCRATCH ++ ((if calling then Sw RETURN FRAME_END 0 ∷ [] else []) ++ clear_code cleared locals params)

-- the return from it
abbrev pub register_return : Bool → List Inst
register_return calling = (if calling then Lw RETURN FRAME_END 0 ∷ [] else []) ++ (Jr RETURN ∷ [])

-- the begin of a function with statements and so many locals of so many words, and its return behind its answer's code
abbrev pub entry_code : FrameSetting → (cleared : ℕ → Bool) → (params locals words : ℕ) → Bool → List Inst
entry_code st cleared params locals words calling =
    if st.in_registers then register_entry st cleared params locals calling else frame_entry st cleared params words calling

abbrev pub exit_code : FrameSetting → Bool → List Inst
exit_code st calling = if st.in_registers then register_return calling else frame_return st calling

-- the answer goes to register 2, and the function returns
abbrev pub return_code : Scope → Facts → Bool → CExpr → List Inst
return_code sc fs calling answer = value_code sc fs answer ANSWER EXPRESSIONS ++ exit_code (frame_setting sc fs) calling

-- what is known at a function's begin
abbrev pub first_facts : Scope → (params : ℕ) → Facts
first_facts sc params = start_facts sc.in_registers params

-- a function that has statements
abbrev pub statements_function : Scope → Links → (params : ℕ) → List CDecl → CStmts → CExpr → List Inst
statements_function sc x params locals stmts answer =
    entry_code (frame_setting sc (first_facts sc params)) (is_cleared locals stmts answer) params (length locals)
    (all_words sc.env.structs (map typed_of locals)) (are_calling stmts) ++
    (stmts_code sc (first_facts sc params) x stmts ++ return_code sc (facts_behind_stmts sc (first_facts sc params) stmts) (are_calling stmts) answer)

-- a function that has an asm body: it needs no frame, and the stack is tested all the same
abbrev pub asm_function : FrameSetting → (params : ℕ) → List ℕ → List Inst
asm_function st params words = stack_test st SCRATCH ++ (asm_code params words ++ (Jr RETURN ∷ []))

-- a body's code
abbrev pub body_code : Scope → Links → ℕ → CBody → List Inst
body_code sc x params (code locals stmts answer) = statements_function sc x params locals stmts answer
body_code sc x params (asm text span words) = asm_function (frame_setting sc (first_facts sc params)) params words

-- a function's code
abbrev pub function_code : Scope → Links → CFunction → List Inst
function_code sc x f = body_code sc x (length f.params) f.body

-- the indices of the addresses that a unit's code names
abbrev pub links_of : CodeAddresses → Links
links_of p = record {
  function = λ n. slice_index p.functions.items n / 4;
  primitive = λ n. slice_index p.primitives.items n / 4;
  new_object = p.new_object / 4;
}
