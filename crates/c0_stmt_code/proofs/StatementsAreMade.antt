-- The code of typed statements is that of the statements.
use Rattle.std.proofs.Common.{◌≡◌, ℕ, suc, ◌+◌, ◌-◌, ◌%◌, ◌^◌, max, List, ◌∷◌, ◌++◌, map, length, Bool, true, false, Option, Some, None, refl, ap, ap₂, ◌∙◌}
use Rattle.std.specs.Prelude.{unwrap_or}
use Rattle.mips_table.specs.declared.inst.Inst.{Inst}
use Rattle.mips_table.specs.declared.inst.Inst.TheVariants.{Jal, Sw}
use Rattle.masm.specs.declared.registers.TheConstants.{ANSWER, EXPRESSIONS}
use Rattle.c0_tree.specs.Tree.{CExpr, CStmt, CStmts, done, next}
use Rattle.c0_meaning.specs.Ty.{Ty, ty_of}
use Rattle.c0_meaning.specs.Env.{Env}
use Rattle.c0_meaning.specs.Words.{words}
use Rattle.c0_meaning.specs.Numbered.{IsNumberedGiven, a_value, AreNumberedGiven, none, more, IsNumbered, an_assignment, a_call, an_object, a_choice, a_loop, AreNumbered, no_statement, a_statement}
use Rattle.c0_typed.specs.Typed.{typed_of_expr, typed_of_stmt, typed_of_stmts}
use Rattle.c0_expr_code.specs.declared.facts.Facts.{Facts}
use Rattle.c0_expr_code.specs.Facts.{facts_called, overwritten, renewed}
use Rattle.c0_expr_code.specs.Scope.{Scope}
use Rattle.c0_expr_code.specs.FrameSetting.{frame_setting}
use Rattle.c0_expr_code.specs.Code.{AddressingMode, Made, access_code, constant_code, made, or_code, register_of_variable}
use Rattle.c0_expr_code.specs.Laws.{HaveSameNames, NamesAreEnough}
use Rattle.c0_expr_code.specs.Node.{IsSameMade, NodesAreMade, node_made, node_test}
use Rattle.c0_expr_code.specs.Test.{test_code}
use Rattle.c0_stmt_code.specs.Code.{Links, assigned_code, callee_index, otherwise, otherwise_at, skip, stored_code, args_code, stmt_code, stmts_code, facts_behind_stmt, told_facts, turn_facts}
use Rattle.c0_stmt_code.specs.TypedCode.{typed_args, typed_otherwise, typed_otherwise_at, typed_stmt_code, typed_stmts_code}
use Rattle.c0_stmt_code.specs.TypedLaws.{StatementsAreMade}
use Rattle.c0_stmt_code.proofs.PremisesOfFunctions.{given_in}

module _ (law : NodesAreMade) (names : NamesAreEnough) (sc : Scope) (x : Links) (env : Env) (same_names : HaveSameNames env sc.env) where
  abbrev node : Facts → CExpr → Made
  node fs e = node_made (frame_setting sc fs) (typed_of_expr sc.env e)

  its_node : (fs : Facts) (e : CExpr) (t : Ty) → IsNumberedGiven env e t → IsSameMade (made sc fs e) (node fs e)
  its_node fs e t h = law.nodes sc fs e t (given_in names env sc.env same_names e t h)

  its_test : (fs : Facts) (e : CExpr) (t : Ty) → IsNumberedGiven env e t → (s : Bool) (far r : ℕ) → test_code sc fs e s far r ≡ node_test (frame_setting sc fs) (typed_of_expr sc.env e) s far r
  its_test fs e t h = law.tests sc fs e t (given_in names env sc.env same_names e t h)

  stored_same : (q r : ℕ) (m n : Made) → IsSameMade m n → (o : Option ℕ) → stored_code q r o m.place ≡ stored_code q r o n.place
  stored_same q r m n h (Some k) = refl
  stored_same q r m n h None = ap (λ (a : AddressingMode). access_code (λ b k. Sw q b k) r a) (h.place r)

  answer_same : (m n : Made) → IsSameMade m n → stored_code ANSWER EXPRESSIONS m.register m.place ≡ stored_code ANSWER EXPRESSIONS n.register n.place
  answer_same m n h = stored_same ANSWER EXPRESSIONS m n h m.register ∙ ap (λ (o : Option ℕ). stored_code ANSWER EXPRESSIONS o n.place) h.register

  assigned_same : (m n v w : Made) → IsSameMade m n → IsSameMade v w → (o : Option ℕ) → assigned_code o m v ≡ assigned_code o n w
  assigned_same m n v w h g (Some k) = g.value k EXPRESSIONS
  assigned_same m n v w h g None = λ j. or_code (g.stands j) (g.value EXPRESSIONS EXPRESSIONS j) ++ access_code (λ b k. Sw (unwrap_or (g.stands j) EXPRESSIONS) b k) 9 (h.place 9 j)

  args_same : (fs : Facts) (es : List CExpr) (ts : List Ty) (i : ℕ) → AreNumberedGiven env es ts → args_code sc fs es i ≡ typed_args (frame_setting sc fs) (map (typed_of_expr sc.env) es) i
  args_same fs _ _ i none = refl
  args_same fs _ _ i (more {e} {es} {t} {ts} h rest) =
      ap₂ (λ (a b : List Inst). a ++ b) ((its_node fs e t h).value (register_of_variable i) EXPRESSIONS) (args_same (overwritten fs i) es ts (suc i) rest)

  otherwise_same : (b : CStmts) (c : List Inst) → otherwise b c ≡ typed_otherwise (typed_of_stmts sc.env b) c
  otherwise_same done c = refl
  otherwise_same (next s rest) c = refl

  at_same : (b : CStmts) → otherwise_at b ≡ typed_otherwise_at (typed_of_stmts sc.env b)
  at_same done = refl
  at_same (next s rest) = refl

  mutual
    same : (fs : Facts) (s : CStmt) → IsNumbered env s → stmt_code sc fs x s ≡ typed_stmt_code (frame_setting sc fs) x (typed_of_stmt sc.env s)
    same fs _ (an_assignment {s} {p} {v} {t} left given room) =
        let place = its_node fs p t (a_value left.typed) in
        assigned_same (made sc fs p) (node fs p) (made sc fs v) (node fs v) place (its_node fs v t given) (made sc fs p).register
        ∙ ap (λ (o : Option ℕ). assigned_code o (node fs p) (node fs v)) place.register
    same fs _ (a_call {s} {cs} {p} {f} {args} {c} found left given room) =
        ap₂ (λ (a b : List Inst). a ++ (Jal (callee_index x f.kind f.number) ∷ b)) (args_same fs args c.params 0 given) (answer_same (made sc (facts_called fs) p) (node (facts_called fs) p) (its_node (facts_called fs) p c.answer (a_value left.typed)))
    same fs _ (an_object {s} {ts} {p} {t} left declared resolved room) =
        ap (λ (b : List Inst). constant_code ANSWER (words sc.env.structs (ty_of t) % 2 ^ 32) ++ (Jal x.new_object ∷ b)) (answer_same (made sc (renewed fs) p) (node (renewed fs) p) (its_node (renewed fs) p _ (a_value left.typed)))
    same fs _ (a_choice {s} {t} {a} {b} test first second) = λ j.
        its_test fs t _ test.value false ((length (all_same (told_facts sc fs t true) a first j) + at_same b j) % 2 ^ 16) EXPRESSIONS j
        ++ (all_same (told_facts sc fs t true) a first j ++ (otherwise_same b (all_same (told_facts sc fs t false) b second j) j))
    same fs _ (a_loop {s} {t} {b} test body) = λ j.
        skip (length (all_same (told_facts sc (turn_facts sc fs b) t true) b body j))
        ∷ (all_same (told_facts sc (turn_facts sc fs b) t true) b body j
        ++ its_test (turn_facts sc fs b) t _ test.value true ((2 ^ 16 - (max (length (all_same (told_facts sc (turn_facts sc fs b) t true) b body j)) 1 + length (its_test (turn_facts sc fs b) t _ test.value true 0 EXPRESSIONS j)) % 2 ^ 16) % 2 ^ 16) EXPRESSIONS j)

    all_same : (fs : Facts) (ss : CStmts) → AreNumbered env ss → stmts_code sc fs x ss ≡ typed_stmts_code (frame_setting sc fs) x (typed_of_stmts sc.env ss)
    all_same fs _ no_statement = refl
    all_same fs _ (a_statement {s} {rest} h hs) = ap₂ (λ (a b : List Inst). a ++ b) (same fs s h) (all_same (facts_behind_stmt sc fs s) rest hs)

pub statements_made : NodesAreMade → NamesAreEnough → StatementsAreMade
statements_made law names sc fs x env ss same h = all_same law names sc x env same fs ss h
