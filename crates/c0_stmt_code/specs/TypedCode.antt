-- The code of a typed tree's statements and functions. It asks for no type: each number that the code needs stands in the tree.
use Rattle.std.specs.Prelude.{ℕ, suc, ◌+◌, ◌-◌, ◌%◌, ◌^◌, true, false, max, List, [], ◌∷◌, ◌++◌, length}
use Rattle.mips_table.specs.declared.inst.Inst.{Inst}
use Rattle.mips_table.specs.declared.inst.Inst.TheVariants.{Jal}
use Rattle.masm.specs.declared.registers.TheConstants.{ANSWER, EXPRESSIONS}
use Rattle.c0_tree.specs.declared.tree.Kind.{Kind}
use Rattle.c0_typed.specs.Tree.{TExpr, TStmt, assign, call, new, choice, loop, TStmts, done, next}
use Rattle.c0_expr_code.specs.Code.{constant_code, register_of_variable}
use Rattle.c0_expr_code.specs.Node.{node_made, node_test}
use Rattle.c0_expr_code.specs.Facts.{facts_called, overwritten, renewed}
use Rattle.c0_expr_code.specs.FrameSetting.{FrameSetting, where_told, with_facts}
use Rattle.c0_stmt_code.specs.Behind.{all_changed, facts_behind, facts_behind_all}
use Rattle.c0_stmt_code.specs.Code.{Links, assigned_code, callee_index, skip, stored_code}

-- a value, into d, with free registers from r
abbrev pub typed_value : FrameSetting → TExpr → (d r : ℕ) → List Inst
typed_value st e d r = (node_made st e).value d r

-- an answer in register 2 goes to a place
abbrev pub typed_answer : FrameSetting → TExpr → List Inst
typed_answer st p = stored_code ANSWER EXPRESSIONS (node_made st p).register (node_made st p).place

-- an assignment
abbrev pub typed_assign : FrameSetting → TExpr → TExpr → List Inst
typed_assign st p v = assigned_code (node_made st p).register (node_made st p) (node_made st v)

-- arguments, of which the first has the number i, go to their registers: a parameter that stood in one does no longer
abbrev pub typed_args : FrameSetting → List TExpr → (i : ℕ) → List Inst
typed_args st [] i = []
typed_args st (e ∷ es) i = typed_value st e (register_of_variable i) EXPRESSIONS ++ typed_args (with_facts st (overwritten st.facts i)) es (suc i)

-- a call
abbrev pub typed_call : FrameSetting → Links → Kind → ℕ → List TExpr → TExpr → List Inst
typed_call st x kind n args p = typed_args st args 0 ++ (Jal (callee_index x kind n) ∷ typed_answer (with_facts st (facts_called st.facts)) p)

-- `new` of so many words
abbrev pub typed_new : FrameSetting → Links → ℕ → TExpr → List Inst
typed_new st x n p = constant_code ANSWER (n % 2 ^ 32) ++ (Jal x.new_object ∷ typed_answer (with_facts st (renewed st.facts)) p)

-- the other branch of an `if`, where there is one: the first jumps over it
abbrev pub typed_otherwise : TStmts → List Inst → List Inst
typed_otherwise done no_code = []
typed_otherwise (next s rest) no_code = skip (length no_code) ∷ no_code

-- how far the other branch begins behind the first
abbrev pub typed_otherwise_at : TStmts → ℕ
typed_otherwise_at done = 0
typed_otherwise_at (next s rest) = 1

-- an `if`, by the code of its branches
abbrev pub typed_choice : FrameSetting → TExpr → TStmts → (yes_code no_code : List Inst) → List Inst
typed_choice st t b yes_code no_code =
    node_test st t false ((length yes_code + typed_otherwise_at b) % 2 ^ 16) EXPRESSIONS ++ (yes_code ++ typed_otherwise b no_code)

-- the distance back from the end of a loop's test to its body, or to the jump before it where there is no body
abbrev pub typed_back : FrameSetting → TExpr → List Inst → ℕ
typed_back st t body = (2 ^ 16 - (max (length body) 1 + length (node_test st t true 0 EXPRESSIONS)) % 2 ^ 16) % 2 ^ 16

-- a loop, by the code of its body: the test stands behind it
abbrev pub typed_while : FrameSetting → TExpr → List Inst → List Inst
typed_while st t body = skip (length body) ∷ (body ++ node_test st t true (typed_back st t body) EXPRESSIONS)

-- the setting behind a statement, behind statements, and where the test of a loop with this body begins, each time
abbrev pub setting_behind : FrameSetting → TStmt → FrameSetting
setting_behind st s = with_facts st (facts_behind st.in_registers s st.facts)

abbrev pub setting_behind_all : FrameSetting → TStmts → FrameSetting
setting_behind_all st ss = with_facts st (facts_behind_all st.in_registers ss st.facts)

abbrev pub setting_turning : FrameSetting → TStmts → FrameSetting
setting_turning st body = with_facts st (all_changed body st.facts)

-- a statement, and statements one after another
abbrev mutual
  pub typed_stmt_code : FrameSetting → Links → TStmt → List Inst
  typed_stmt_code st x (assign p v) = typed_assign st p v
  typed_stmt_code st x (call k n args p) = typed_call st x k n args p
  typed_stmt_code st x (new w p) = typed_new st x w p
  typed_stmt_code st x (choice t a b) = typed_choice st t b (typed_stmts_code (where_told st t true) x a) (typed_stmts_code (where_told st t false) x b)
  typed_stmt_code st x (loop t b) = typed_while (setting_turning st b) t (typed_stmts_code (where_told (setting_turning st b) t true) x b)

  pub typed_stmts_code : FrameSetting → Links → TStmts → List Inst
  typed_stmts_code st x done = []
  typed_stmts_code st x (next s rest) = typed_stmt_code st x s ++ typed_stmts_code (setting_behind st s) x rest
