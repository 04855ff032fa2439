-- Assignments, choices and loops.
use Rattle.std.specs.Prelude.{max, ◌&&◌, ◌||◌, IsTrue, Ok, Some, None, if◌then◌else◌}
use Rattle.std.proofs.Common.{◌≡◌, ◌≢◌, ◌⊎◌, inl, inr, ℕ, suc, ◌+◌, ◌*◌, ◌%◌, ◌^◌, ◌<◌, ◌≤◌, Bool, true, false, Option, List, ◌∷◌, ◌++◌, length, refl, sym, ap, subst, arith, length-append}
use Rattle.mips_table.specs.declared.inst.Inst.{Inst}
use Rattle.mips_table.specs.declared.inst.Inst.TheVariants.{Sw}
use Rattle.mips_table.specs.Code.{Contents, reg, Behind, World, CodeState, at_with, RunLaws, CodeAt}
use Rattle.masm.specs.Laws.{RunsCompose, JumpsLead, StraightRuns}
use Rattle.c0_tree.specs.Size.{need, nodes, stmts_nodes}
use Rattle.c0_tree.specs.Tree.{CExpr, CStmts, done, next, CFunction}
use Rattle.c0_meaning.specs.Ty.{Ty, bool}
use Rattle.c0_meaning.specs.Sound.{shapes}
use Rattle.c0_meaning.specs.Value.{Value}
use Rattle.c0_meaning.specs.State.{Frame}
use Rattle.c0_meaning.specs.Statement.{MAX_NEED, assign_need}
use Rattle.c0_meaning.specs.Numbered.{IsNumberedLeft, IsNumberedGiven, IsNumberedTest, AreNumbered}
use Rattle.c0_meaning.specs.Evaluation.{costs, truth, value_of}
use Rattle.c0_meaning.specs.World.{units, plus, Configuration}
use Rattle.c0_meaning.specs.Running.{Work, again, push, Go, then_go, test_loop, store}
use Rattle.std.proofs.lemmas.Bool.{and_parts}
use Rattle.c0_typed.specs.Leaf.{are_calling, are_free_of_calls, calls_in}
use Rattle.c0_expr_code.specs.Scope.{Scope}
use Rattle.c0_expr_code.specs.Code.{access_code, made, operand_code, operand_register}
use Rattle.c0_expr_runs.specs.Bases.{Bases}
use Rattle.c0_expr_code.specs.Test.{test_code}
use Rattle.c0_typed.specs.Tree as typed
use Rattle.c0_typed.specs.Typed.{typed_of_expr, typed_of_stmts}
use Rattle.c0_expr_code.specs.declared.facts.Facts.{Facts}
use Rattle.c0_expr_code.specs.Facts.{IsWithin, facts_followed}
use Rattle.c0_expr_runs.specs.Relation.{ReadyWith, FactsHold, KeepsRegisters, HoldsValue, Source, nought, its, answer as in_answer, far, ends}
use Rattle.c0_stmt_code.specs.Behind.{stored_facts}
use Rattle.c0_stmt_code.specs.Behind as known
use Rattle.c0_runs.proofs.FactsBehind.{within_both, followed_grows, told_grows, behind_yes, behind_no, behind_turn}
use Rattle.c0_runs.proofs.FactsKept.{facts_within, free_between}
use Rattle.c0_stmt_code.specs.Code.{Links, skip, assigned_code, assign_code, otherwise, otherwise_at, choice_code, back, turn_code, while_code, stmt_code, stmts_code, facts_behind_stmt, facts_behind_stmts, tested_facts, told_facts}
use Rattle.c0_runs.specs.Setup.{Setup}
use Rattle.c0_expr_code.specs.Reads.{reads}
use Rattle.c0_stmt_code.specs.Live.{live_at_place, are_live}
use Rattle.c0_runs.specs.Ahead.{Activation, body_env, knowing, Skips, Block, LoopStands, Ahead, needs}
use Rattle.c0_runs.proofs.LiveAroundSteps.{AreLiveBefore, both_live, live_from}
use Rattle.c0_runs.specs.Standing.{code_text, scope, bases, Waiting, FunctionRuns, ConfigurationStands}
use Rattle.c0_runs.proofs.PremisesFromBelow.{ExpressionsDo, HeldStays, TypedStays}
use Rattle.c0_stmt_code.proofs.PremisesOfFunctions.{LengthsFit}
use Rattle.c0_runs.proofs.RunStretches.{none}
use Rattle.c0_runs.proofs.WorkAsCode.{Goes, or_left, or_right, front, Follows, behind, block_of}
use Rattle.c0_runs.proofs.WorkAsCode as blocks
use Rattle.c0_runs.proofs.UnitsWithinNodes.{value_within, truth_within}
use Rattle.c0_stmt_code.proofs.ShortStatements.{stmts_length, stmt_some}
use Rattle.c0_runs.proofs.ValuesToPlaces.{Answered, answered, tested, source_not_one, keeps_low, its_exprs, its_ready, store_in}
use Rattle.c0_runs.proofs.FunctionsUnderWay.{its_facts, state_of, standing_at, Exprs, under_on}
use Rattle.c0_runs.proofs.MemoryAccess.{like_read}
use Rattle.c0_runs.proofs.StepSimulation.{GoesOn, Path, stands_on, arrives, then_comes, then_splits}

-- the greater of two
max_left : (a b c : ℕ) → max a b ≤ c → a ≤ c
max_left a b c h = omega (arith, h)

max_right : (a b c : ℕ) → max a b ≤ c → b ≤ c
max_right a b c h = omega (arith, h)

-- a register that holds an operand is left as it is while the next free registers are used
pub source_kept : (r q : ℕ) (a b : Contents) → 8 ≤ r → r < 19 → Source r q → KeepsRegisters (suc r) (suc r) a b → reg b.regs q ≡ reg a.regs q
source_kept r _ a b le lt nought h = refl
source_kept r _ a b le lt its h = like_read b.regs a.regs r (h.below r (λ e. absurd (omega (arith, e, le))) (λ e. absurd (omega (arith, e))) (omega arith))
source_kept r _ a b le lt in_answer h = like_read b.regs a.regs 2 (h.below 2 (λ e. absurd (omega (arith, e))) (λ e. absurd (omega (arith, e, le))) (omega (arith, le)))
source_kept r q a b le lt (far g) h = like_read b.regs a.regs q (h.above q (λ e. absurd (omega (arith, e, g, lt))) g)

source_apart : (r q : ℕ) → 8 ≤ r → r < 19 → Source r q → q ≢ suc r
source_apart r _ le lt nought = λ e. absurd (omega (arith, e))
source_apart r _ le lt its = λ e. absurd (omega (arith, e))
source_apart r _ le lt in_answer = λ e. absurd (omega (arith, e, le))
source_apart r q le lt (far g) = λ e. absurd (omega (arith, e, g, lt))

-- the other branch of an `if`, where it stands, and the jump over it
module _ (w : World) (sc : Scope) (f : Facts) (x : Links) where
  pub otherwise_length : (y : CStmts) → length (otherwise y (stmts_code sc f x y)) ≡ otherwise_at y + length (stmts_code sc f x y)
  otherwise_length done = omega arith
  otherwise_length (next q r) = omega arith

  pub otherwise_there : (y : CStmts) (m : ℕ) → CodeAt w m (otherwise y (stmts_code sc f x y)) → CodeAt w (m + otherwise_at y) (stmts_code sc f x y)
  otherwise_there done m h = tt
  otherwise_there (next q r) m h = h.1

  pub otherwise_over : (y : CStmts) (m count to : ℕ) → CodeAt w m (otherwise y (stmts_code sc f x y)) → length (stmts_code sc f x y) < 32768 → Skips w count (m + otherwise_at y + length (stmts_code sc f x y)) to → Skips w (otherwise_at y + count) m to
  otherwise_over done m count to h lt skips = let e : count ≡ 0 + count = omega arith in subst (λ n. Skips w n m to) e (subst (λ n. Skips w count n to) (omega arith) skips)
  otherwise_over (next q r) m count to h lt skips = let e : suc count ≡ 1 + count = omega arith in subst (λ n. Skips w n m to) e (length (stmts_code sc f x (next q r)), lt, h.0, skips)

module _ (runs : RunLaws) (compose : RunsCompose) (W E : Type 0) (Outer : W → Contents → Behind → Type 0) (z : Setup W E Outer) (jumps : JumpsLead z.w) (straight : StraightRuns z.w)
    (held : HeldStays (shapes z.p.unit)) (typing : TypedStays z.p.unit) (exprs : Exprs W E Outer z) (fit : (f : CFunction) → LengthsFit (scope W E Outer z f))
    (objects : List Ty) (gv hv : Value) (hw : ℕ) (g : Frame) (fs : List Frame) (world : W) (calls : List (List E)) (answer : Option Value) (c : Contents) (d : Behind) (a : Activation) (others : List Activation)
    (st : ConfigurationStands W E Outer z objects (standing_at gv hv hw (g ∷ fs) world calls answer) c d) (r : FunctionRuns W E Outer z objects c a g fs) (waits : Waiting W E Outer z objects c.memory others fs)
    (k debt : ℕ) (rest : CStmts) (work : List Work) where
  abbrev sc : Scope
  sc = scope W E Outer z a.function

  abbrev here : Configuration W E
  here = standing_at gv hv hw (g ∷ fs) world calls answer

  abbrev s : CodeState
  s = at_with k c d

  abbrev frame_bases : Bases
  frame_bases = bases W E Outer z objects (g ∷ fs)

  abbrev Behind_it : Facts → ℕ → ℕ → Type 0
  Behind_it known at owed = Block (code_text W E Outer z) a.function known at owed rest (λ fs to left. Goes (code_text W E Outer z) a others work fs to left)

  do_exprs : ExpressionsDo z.w (body_env (code_text W E Outer z) a.function) sc frame_bases a.live (state_of gv hv hw (g ∷ fs))
  do_exprs = its_exprs runs compose W E Outer z jumps straight held typing exprs objects gv hv hw g fs world calls answer c d a others st r waits

  its_known : FactsHold sc frame_bases a.facts (state_of gv hv hw (g ∷ fs)) c
  its_known = its_facts W E Outer z objects gv hv hw g fs c a r

  do_ready : (known : Facts) → FactsHold sc frame_bases known (state_of gv hv hw (g ∷ fs)) c → ReadyWith sc frame_bases a.live known (state_of gv hv hw (g ∷ fs)) c
  do_ready known facts = its_ready runs compose W E Outer z jumps straight held typing exprs objects gv hv hw g fs world calls answer c d a others st r waits known facts

  -- an assignment to a place in memory
  pub assigns : (p v : CExpr) (t : Ty) → IsNumberedLeft (body_env (code_text W E Outer z) a.function) p t → IsNumberedGiven (body_env (code_text W E Outer z) a.function) v t → assign_need p v ≤ MAX_NEED → nodes p + nodes v + 1 ≤ 2000
      → (made sc a.facts p).register ≡ None → CodeAt z.w k (assign_code sc a.facts p v) → Behind_it (stored_facts (typed_of_expr sc.env p) (facts_followed (typed_of_expr sc.env v) a.facts)) (k + length (assign_code sc a.facts p v)) debt → AreLiveBefore a.live others (λ n b. reads v n || live_at_place p n b) rest work
      → GoesOn W E Outer z debt here s (then_go (units 1) here (value_of v here.state) (λ cost x. store cost p x rest work here))
  assigns p v t left given need_fits few stands code block live =
      let op : List Inst = operand_code (made sc a.facts v) 8 in
      let q : ℕ = operand_register (made sc a.facts v) 8 in
      let same : assign_code sc a.facts p v ≡ operand_code (made sc a.facts v) 8 ++ access_code (λ y x. Sw (operand_register (made sc a.facts v) 8) y x) 9 ((made sc a.facts p).place 9) = ap (λ o. assigned_code o (made sc a.facts p) (made sc a.facts v)) stands in
      let there = subst (CodeAt z.w k) same code in
      let len : k + length (assign_code sc a.facts p v) ≡ k + length (operand_code (made sc a.facts v) 8) + length (access_code (λ y x. Sw (operand_register (made sc a.facts v) 8) y x) 9 ((made sc a.facts p).place 9)) = omega (arith, ap length same, length-append (operand_code (made sc a.facts v) 8) (access_code (λ y x. Sw (operand_register (made sc a.facts v) 8) y x) 9 ((made sc a.facts p).place 9))) in
      let nv = max_left (need v) (need p + 1) 12 need_fits in
      let np = max_right (need v) (need p + 1) 12 need_fits in
      let run = do_exprs.operand a.facts v t given left.scalar (omega (arith, few)) (λ m q. live.0 m (or_left (reads v m) _ q)) 8 k c d st.idle (do_ready a.facts its_known) (front z.w k (operand_code (made sc a.facts v) 8) (access_code (λ y x. Sw (operand_register (made sc a.facts v) 8) y x) 9 ((made sc a.facts p).place 9)) there) (omega arith) (omega (arith, nv)) in
      then_comes runs compose W E Outer z jumps 0 0 0 debt 1 (nodes v) (units 1) here here s a.function k (k + length (operand_code (made sc a.facts v) 8)) c d objects (Answered (HoldsValue sc frame_bases (operand_register (made sc a.facts v) 8) 8 8 t c) (value_of v here.state)) (value_of v here.state) (λ cost x. store cost p x rest work here)
      (none runs z.w s) (omega arith) (omega arith) st (value_within v here.state) (answered z.w sc 0 k (k + length (operand_code (made sc a.facts v) 8)) c d (HoldsValue sc frame_bases (operand_register (made sc a.facts v) 8) 8 8 t c) (value_of v here.state) run.1)
      (λ u x c1 least most found path1.
      let gives = found.holds in
      let facts = do_exprs.kept (facts_followed (typed_of_expr sc.env v) a.facts) here.state c c1 8 8 (omega arith) gives.keeps (λ e. free_between (facts_followed (typed_of_expr sc.env v) a.facts) 8 (omega arith) (omega arith)) (do_exprs.after_value a.facts v found.units x c found.is its_known) in
      let keeps = keeps_low 8 c c1 (omega arith) gives.keeps in
      let st1 = stands_on runs compose W E Outer z jumps objects here c c1 d keeps st in
      let under = under_on W E Outer z held objects here.state g fs c c1 a others (facts_followed (typed_of_expr sc.env v) a.facts) keeps refl facts (r, waits) in
      store_in runs compose W E Outer z jumps straight held typing exprs objects gv hv hw g fs world calls answer c1 d (knowing a (facts_followed (typed_of_expr sc.env v) a.facts)) others st1 under.0 under.1
      (0 + (0 + 16 * u)) debt debt 9 (operand_register (made sc a.facts v) 8) (k + length (operand_code (made sc a.facts v) 8)) (plus (units 1) (units u)) here s p t x rest work a.facts (stored_facts (typed_of_expr sc.env p) (facts_followed (typed_of_expr sc.env v) a.facts)) (followed_grows (typed_of_expr sc.env v) a.facts) (λ l b y h. h) path1
      (omega arith) (omega arith) (omega (arith, most, few)) (omega (arith, few)) (omega arith) (omega arith) (omega (arith, np)) (omega arith)
      (source_not_one 8 (operand_register (made sc a.facts v) 8) (omega arith) run.0) (source_apart 8 (operand_register (made sc a.facts v) 8) (omega arith) (omega arith) run.0)
      (λ b kept. source_kept 8 (operand_register (made sc a.facts v) 8) c1 b (omega arith) (omega arith) run.0 kept) gives.is gives.fits left stands
      (blocks.back z.w k (operand_code (made sc a.facts v) 8) (access_code (λ y x. Sw (operand_register (made sc a.facts v) 8) y x) 9 ((made sc a.facts p).place 9)) there) (subst (λ y. Behind_it (stored_facts (typed_of_expr sc.env p) (facts_followed (typed_of_expr sc.env v) a.facts)) y debt) len block)
      ((λ m q. live.0 m (or_right (reads v m) _ q)), live.1))

  -- an `if`
  abbrev told_so : CExpr → Bool → Facts
  told_so t b = told_facts sc a.facts t b

  abbrev stmts_where : CExpr → Bool → CStmts → List Inst
  stmts_where t b x = stmts_code sc (told_so t b) (code_text W E Outer z).links x

  abbrev yes_words : CExpr → CStmts → ℕ
  yes_words t x = length (stmts_where t true x)

  abbrev its_test : CExpr → Bool → ℕ → List Inst
  its_test t b away_by = test_code sc a.facts t b away_by 8

  abbrev far_of : CExpr → CStmts → CStmts → ℕ
  far_of t x y = (yes_words t x + otherwise_at y) % 2 ^ 16

  -- what is known behind it
  abbrev behind_choice : CExpr → CStmts → CStmts → Facts
  behind_choice t x y = known.facts_behind sc.in_registers (typed.choice (typed_of_expr sc.env t) (typed_of_stmts sc.env x) (typed_of_stmts sc.env y)) a.facts

  -- what is known where a test came out so holds there
  told_there : (t : CExpr) (b : Bool) (c1 : Contents) (u : ℕ) → IsNumberedTest (body_env (code_text W E Outer z) a.function) t bool → truth (value_of t here.state) ≡ costs u (Ok b) → KeepsRegisters 8 8 c c1 → FactsHold sc frame_bases (told_so t b) here.state c1
  told_there t b c1 u test is kept =
      do_exprs.kept (told_so t b) here.state c c1 8 8 (omega arith) kept (λ e. free_between (told_so t b) 8 (omega arith) (omega arith)) (do_exprs.after_test a.facts t u b c test.value is its_known)

  pub chooses : (t : CExpr) (x y : CStmts) → IsNumberedTest (body_env (code_text W E Outer z) a.function) t bool → AreNumbered (body_env (code_text W E Outer z) a.function) x → AreNumbered (body_env (code_text W E Outer z) a.function) y
      → nodes t + stmts_nodes x + stmts_nodes y + 1 ≤ 2000 → (sc.in_registers ≡ true → IsTrue (are_free_of_calls x && are_free_of_calls y)) → (IsTrue (are_calling x || are_calling y) → calls_in a.function.body ≡ true) → CodeAt z.w k (choice_code sc a.facts t y (stmts_where t true x) (stmts_where t false y)) → Behind_it (behind_choice t x y) (k + length (choice_code sc a.facts t y (stmts_where t true x) (stmts_where t false y))) debt → AreLiveBefore a.live others (λ n b. reads t n || (are_live x n b || are_live y n b)) rest work
      → GoesOn W E Outer z debt here s (then_go (units 1) here (truth (value_of t here.state)) (λ cost b. Go cost (push (if b then x else y) (push rest work)) here))
  chooses t x y test tx ty few free its_calls code block live =
      let end : ℕ = k + length (its_test t false (far_of t x y)) in
      let f = fit a.function in
      let l1 = f.test a.facts t false (far_of t x y) 8 in
      let l2 = stmts_length sc (code_text W E Outer z).links f (told_so t true) x in
      let some = f.test_some a.facts t false (far_of t x y) 8 in
      let at : otherwise_at y ≤ 1 = at_most y in
      let small : yes_words t x + otherwise_at y < 2 ^ 16 = omega (arith, l2, at, few) in
      let run = do_exprs.test a.facts t test.value (omega (arith, few)) (λ m q. live.0 m (or_left (reads t m) _ q)) false (far_of t x y) (end + (yes_words t x + otherwise_at y)) 8 k c d st.idle (do_ready a.facts its_known)
      (front z.w k (its_test t false (far_of t x y)) (stmts_where t true x ++ otherwise y (stmts_where t false y)) code) (omega arith) (let n = test.shallow in omega (arith, n))
      (record { same = omega (arith, small); short = omega (arith, small); ahead = omega (arith, l1, l2, at, few); behind = omega arith }) in
      let after = blocks.back z.w k (its_test t false (far_of t x y)) (stmts_where t true x ++ otherwise y (stmts_where t false y)) code in
      then_splits runs compose W E Outer z jumps 0 0 1 debt 1 (nodes t) (units 1) here here s a.function k (ends false (end + (yes_words t x + otherwise_at y)) end) c d objects (Answered (λ b c'. KeepsRegisters 8 8 c c') (truth (value_of t here.state))) (truth (value_of t here.state))
      (λ cost b. Go cost (push (if b then x else y) (push rest work)) here) (apart_ends some) (none runs z.w s) (omega arith) (omega arith) st (truth_within t here.state) (tested z.w sc 1 k (ends false (end + (yes_words t x + otherwise_at y)) end) c d (λ b c'. KeepsRegisters 8 8 c c') (truth (value_of t here.state)) run)
      (λ u b c1 least most kept path1. branches b u c1 least most kept.holds kept.units kept.is path1 after l1 l2 at)
    where
      at_most : (y : CStmts) → otherwise_at y ≤ 1
      at_most done = omega arith
      at_most (next q w) = omega arith

      apart_ends : 1 ≤ length (its_test t false (far_of t x y)) → (b : Bool) → k ≢ ends false (k + length (its_test t false (far_of t x y)) + (yes_words t x + otherwise_at y)) (k + length (its_test t false (far_of t x y))) b
      apart_ends some true = λ e. absurd (omega (arith, e, some))
      apart_ends some false = λ e. absurd (omega (arith, e, some))

      follows : Follows (code_text W E Outer z) (knowing a (behind_choice t x y)) others (k + length (choice_code sc a.facts t y (stmts_where t true x) (stmts_where t false y))) debt (push rest work)
      follows = behind (code_text W E Outer z) (knowing a (behind_choice t x y)) others (k + length (choice_code sc a.facts t y (stmts_where t true x) (stmts_where t false y))) debt rest work block

      branches : (b : Bool) (u : ℕ) (c1 : Contents) → 1 ≤ u → u ≤ nodes t → KeepsRegisters 8 8 c c1 → (took : ℕ) → truth (value_of t here.state) ≡ costs took (Ok b)
          → Path runs compose W E Outer z jumps (0 + 1) (0 + (1 + 16 * u)) s (at_with (ends false (k + length (its_test t false (far_of t x y)) + (yes_words t x + otherwise_at y)) (k + length (its_test t false (far_of t x y))) b) c1 d)
          → CodeAt z.w (k + length (its_test t false (far_of t x y))) (stmts_where t true x ++ otherwise y (stmts_where t false y))
          → length (its_test t false (far_of t x y)) ≤ 15 * nodes t → length (stmts_where t true x) ≤ 16 * stmts_nodes x → otherwise_at y ≤ 1
          → GoesOn W E Outer z debt here s (Go (plus (units 1) (units u)) (push (if b then x else y) (push rest work)) here)
      branches true u c1 least most kept took is path1 there l1 l2 at =
          let end : ℕ = k + length (its_test t false (far_of t x y)) in
          let keeps = keeps_low 8 c c1 (omega arith) kept in
          let st1 = stands_on runs compose W E Outer z jumps objects here c c1 d keeps st in
          let under = under_on W E Outer z held objects here.state g fs c c1 a others (told_so t true) keeps refl (told_there t true c1 took test is kept) (r, waits) in
          let owed = follows.owed in
          let l3 = stmts_length sc (code_text W E Outer z).links (fit a.function) (told_so t false) y in
          let len : k + length (choice_code sc a.facts t y (stmts_where t true x) (stmts_where t false y)) ≡ end + length (stmts_where t true x) + otherwise_at y + length (stmts_where t false y) =
          let e = otherwise_length z.w sc (told_so t false) (code_text W E Outer z).links y in omega (arith, e, length-append (its_test t false (far_of t x y)) (stmts_where t true x ++ otherwise y (stmts_where t false y)), length-append (stmts_where t true x) (otherwise y (stmts_where t false y))) in
          let over = otherwise_over z.w sc (told_so t false) (code_text W E Outer z).links y (end + length (stmts_where t true x)) follows.count follows.to (blocks.back z.w end (stmts_where t true x) (otherwise y (stmts_where t false y)) there) (omega (arith, l3, few)) (subst (λ m. Skips z.w follows.count m follows.to) len follows.skips) in
          let b = block_of (code_text W E Outer z) a.function (λ fs to left. Goes (code_text W E Outer z) a others (push rest work) fs to left) x (told_so t true) end (otherwise_at y + follows.count) follows.to follows.left (otherwise_at y + debt) tx (omega (arith, few)) (λ q. (and_parts (are_free_of_calls x) (are_free_of_calls y) (free q)).0) (λ q. its_calls (or_left (are_calling x) (are_calling y) q))
          (front z.w end (stmts_where t true x) (otherwise y (stmts_where t false y)) there) over (omega (arith, owed)) follows.known (within_both follows.known (behind_choice t x y) (facts_behind_stmts sc (told_so t true) x) follows.fewer (behind_yes sc.in_registers (typed_of_expr sc.env t) (typed_of_stmts sc.env x) (typed_of_stmts sc.env y) a.facts)) follows.ahead in
          arrives runs compose W E Outer z jumps (0 + 1) (0 + (1 + 16 * u)) debt (otherwise_at y + debt) (plus (units 1) (units u)) here here s end c1 d objects (knowing a (told_so t true)) others x (push rest work) path1 (omega (arith, most, few)) (omega (arith, at)) (omega arith) st1 under b
          (both_live a.live others x rest work (λ m q. live.0 m (or_right (reads t m) _ (or_left (are_live x m _) _ q))) live.1)
      branches false u c1 least most kept took is path1 there l1 l2 at =
          let end : ℕ = k + length (its_test t false (far_of t x y)) in
          let keeps = keeps_low 8 c c1 (omega arith) kept in
          let st1 = stands_on runs compose W E Outer z jumps objects here c c1 d keeps st in
          let under = under_on W E Outer z held objects here.state g fs c c1 a others (told_so t false) keeps refl (told_there t false c1 took test is kept) (r, waits) in
          let len : k + length (choice_code sc a.facts t y (stmts_where t true x) (stmts_where t false y)) ≡ end + (yes_words t x + otherwise_at y) + length (stmts_where t false y) =
          let e = otherwise_length z.w sc (told_so t false) (code_text W E Outer z).links y in omega (arith, e, length-append (its_test t false (far_of t x y)) (stmts_where t true x ++ otherwise y (stmts_where t false y)), length-append (stmts_where t true x) (otherwise y (stmts_where t false y))) in
          let place : end + length (stmts_where t true x) + otherwise_at y ≡ end + (yes_words t x + otherwise_at y) = omega arith in
          let b = block_of (code_text W E Outer z) a.function (λ fs to left. Goes (code_text W E Outer z) a others (push rest work) fs to left) y (told_so t false) (end + (yes_words t x + otherwise_at y)) follows.count follows.to follows.left debt ty (omega (arith, few)) (λ q. (and_parts (are_free_of_calls x) (are_free_of_calls y) (free q)).1) (λ q. its_calls (or_right (are_calling x) (are_calling y) q))
          (subst (λ m. CodeAt z.w m (stmts_where t false y)) place (otherwise_there z.w sc (told_so t false) (code_text W E Outer z).links y (end + length (stmts_where t true x)) (blocks.back z.w end (stmts_where t true x) (otherwise y (stmts_where t false y)) there)))
          (subst (λ m. Skips z.w follows.count m follows.to) len follows.skips) follows.owed follows.known (within_both follows.known (behind_choice t x y) (facts_behind_stmts sc (told_so t false) y) follows.fewer (behind_no sc.in_registers (typed_of_expr sc.env t) (typed_of_stmts sc.env x) (typed_of_stmts sc.env y) a.facts)) follows.ahead in
          arrives runs compose W E Outer z jumps (0 + 1) (0 + (1 + 16 * u)) debt debt (plus (units 1) (units u)) here here s (end + (yes_words t x + otherwise_at y)) c1 d objects (knowing a (told_so t false)) others y (push rest work) path1 (omega (arith, most, few)) (omega arith) (omega arith) st1 under b
          (both_live a.live others y rest work (λ m q. live.0 m (or_right (reads t m) _ (or_right (are_live x m _) _ q))) live.1)

  -- a turn of a loop, from its test on: `first` is 1 where the loop has just begun, by a jump to the test
  abbrev its_loop : CExpr → CStmts → List Inst
  its_loop t x = while_code sc a.facts t (stmts_where t true x)

  abbrev turn_at : CExpr → CStmts → ℕ → ℕ
  turn_at t x from = from + 1 + length (stmts_where t true x)

  abbrev body_at : CStmts → ℕ → ℕ
  body_at done from = from
  body_at (next q w) from = from + 1

  pub turns : (from first extra : ℕ) (s0 : CodeState) (t : CExpr) (x : CStmts) → LoopStands (code_text W E Outer z) a.function a.facts from t x → Behind_it (tested_facts sc a.facts t) (from + length (its_loop t x)) debt → 1 ≤ extra → extra ≤ 2 → first ≤ 1
      → AreLiveBefore a.live others (λ n b. reads t n || (b || are_live x n false)) rest work
      → Path runs compose W E Outer z jumps 0 first s0 (at_with (turn_at t x from) c d) → GoesOn W E Outer z debt here s0 (test_loop (units extra) t x rest work here)
  turns from first extra s0 t x stands block paid few_units le live path =
      let f = fit a.function in
      let n = stands.few in
      let l1 = f.test a.facts t true (back sc a.facts t (stmts_where t true x)) 8 in
      let same = f.test_same a.facts t true (back sc a.facts t (stmts_where t true x)) 8 in
      let l2 = stmts_length sc (code_text W E Outer z).links f (told_so t true) x in
      let some = f.test_some a.facts t true (back sc a.facts t (stmts_where t true x)) 8 in
      let there = blocks.back z.w (from + 1) (stmts_where t true x) (turn_code sc a.facts t (stmts_where t true x)) stands.code.1 in
      let body = body_words x in
      let run = do_exprs.test a.facts t stands.test.value (omega (arith, n)) (λ m q. live.0 m (or_left (reads t m) _ q)) true (back sc a.facts t (stmts_where t true x)) (body_at x from) 8 (turn_at t x from) c d st.idle (do_ready a.facts its_known) there (omega arith) (let m = stands.test.shallow in omega (arith, m))
      (record { same = omega (arith, same, body, l1, l2, n); short = omega arith; ahead = omega (arith, body); behind = omega (arith, body, l1, l2, n) }) in
      then_splits runs compose W E Outer z jumps 0 first 1 debt 1 (nodes t) (units extra) here here s0 a.function (turn_at t x from) (ends true (body_at x from) (turn_at t x from + length (turn_code sc a.facts t (stmts_where t true x)))) c d objects (Answered (λ b c'. KeepsRegisters 8 8 c c') (truth (value_of t here.state))) (truth (value_of t here.state))
      (λ cost b. Go cost (if b then push x (again t x rest ∷ work) else push rest work) here) (apart_ends x) path (omega (arith, paid, le)) (omega arith) st (truth_within t here.state) (tested z.w sc 1 (turn_at t x from) (ends true (body_at x from) (turn_at t x from + length (turn_code sc a.facts t (stmts_where t true x)))) c d (λ b c'. KeepsRegisters 8 8 c c') (truth (value_of t here.state)) run)
      (λ u b c1 least most kept path1. branches b u c1 least most kept.holds kept.units kept.is path1)
    where
      body_words : (x : CStmts) → max (length (stmts_where t true x)) 1 + body_at x from ≡ from + 1 + length (stmts_where t true x)
      body_words done = omega arith
      body_words (next q w) = let e = stmt_some sc (code_text W E Outer z).links (fit a.function) (told_so t true) q in omega (arith, e, length-append (stmt_code sc (told_so t true) (code_text W E Outer z).links q) (stmts_code sc (facts_behind_stmt sc (told_so t true) q) (code_text W E Outer z).links w))

      apart_ends : (x : CStmts) → (b : Bool) → turn_at t x from ≢ ends true (body_at x from) (turn_at t x from + length (turn_code sc a.facts t (stmts_where t true x))) b
      apart_ends done true = λ e. absurd (omega (arith, e))
      apart_ends (next q w) true = let n = stmt_some sc (code_text W E Outer z).links (fit a.function) (told_so t true) q in let l = length-append (stmt_code sc (told_so t true) (code_text W E Outer z).links q) (stmts_code sc (facts_behind_stmt sc (told_so t true) q) (code_text W E Outer z).links w) in λ e. absurd (omega (arith, e, n, l))
      apart_ends y false = let n = (fit a.function).test_some a.facts t true (back sc a.facts t (stmts_where t true y)) 8 in λ e. absurd (omega (arith, e, n))

      -- what the loop's body may read, and what may be read from its next test on
      again_live : (m : ℕ) → IsTrue (are_live x m false) ⊎ IsTrue (reads t m || (are_live rest m (needs work m) || are_live x m false)) → IsTrue (a.live m)
      again_live m (inl q) = live.0 m (or_right (reads t m) _ (or_right (are_live rest m (needs work m)) _ q))
      again_live m (inr q) = live.0 m q

      -- the loop's next test stands behind its body
      then_again : Ahead (code_text W E Outer z) (a ∷ others) (turn_at t x from) debt (again t x rest ∷ work)
      then_again = (from, stands, refl, block)

      entered : (y : CStmts) → y ≡ x → AreNumbered (body_env (code_text W E Outer z) a.function) y → stmts_nodes y ≤ 2000 → (sc.in_registers ≡ true → IsTrue (are_free_of_calls y)) → (IsTrue (are_calling y) → calls_in a.function.body ≡ true) → z.w.code from ≡ Some (skip (length (stmts_where t true y))) → CodeAt z.w (from + 1) (stmts_where t true y)
          → (owed : ℕ) × (owed ≤ 1 + debt) × Block (code_text W E Outer z) a.function (told_so t true) (body_at y from) owed y (λ fs to left. Goes (code_text W E Outer z) a others (again t x rest ∷ work) fs to left)
      entered done e typed few free its_calls jump code =
          let there : from + 1 + 0 ≡ turn_at t x from = let q : length (stmts_where t true done) ≡ length (stmts_where t true x) = ap (λ y. length (stmts_where t true y)) e in omega (arith, q) in (
            1 + debt,
            omega arith,
            block_of (code_text W E Outer z) a.function (λ fs to left. Goes (code_text W E Outer z) a others (again t x rest ∷ work) fs to left) done (told_so t true) from 1 (turn_at t x from) debt (1 + debt) typed few free its_calls tt
                (0, omega arith, subst (λ m. z.w.code m ≡ Some (skip 0)) (omega arith) jump, omega (arith, there)) (omega arith) a.facts (subst (λ y. IsWithin a.facts (facts_behind_stmts sc (told_so t true) y)) (sym e) (behind_turn sc.in_registers (typed_of_expr sc.env t) (typed_of_stmts sc.env x) a.facts stands.stays)) then_again,
          )
      entered (next q w) e typed few free its_calls jump code =
          let there : from + 1 + length (stmts_where t true (next q w)) ≡ turn_at t x from = ap (λ y. from + 1 + length (stmts_where t true y)) e in
          (debt, omega arith, block_of (code_text W E Outer z) a.function (λ fs to left. Goes (code_text W E Outer z) a others (again t x rest ∷ work) fs to left) (next q w) (told_so t true) (from + 1) 0 (turn_at t x from) debt debt typed few free its_calls code there (omega arith) a.facts (subst (λ y. IsWithin a.facts (facts_behind_stmts sc (told_so t true) y)) (sym e) (behind_turn sc.in_registers (typed_of_expr sc.env t) (typed_of_stmts sc.env x) a.facts stands.stays)) then_again)

      branches : (b : Bool) (u : ℕ) (c1 : Contents) → 1 ≤ u → u ≤ nodes t → KeepsRegisters 8 8 c c1 → (took : ℕ) → truth (value_of t here.state) ≡ costs took (Ok b)
          → Path runs compose W E Outer z jumps (0 + 1) (first + (1 + 16 * u)) s0 (at_with (ends true (body_at x from) (turn_at t x from + length (turn_code sc a.facts t (stmts_where t true x))) b) c1 d)
          → GoesOn W E Outer z debt here s0 (Go (plus (units extra) (units u)) (if b then push x (again t x rest ∷ work) else push rest work) here)
      branches true u c1 least most kept took is path1 =
          let n = stands.few in
          let keeps = keeps_low 8 c c1 (omega arith) kept in
          let st1 = stands_on runs compose W E Outer z jumps objects here c c1 d keeps st in
          let under = under_on W E Outer z held objects here.state g fs c c1 a others (told_so t true) keeps refl (told_there t true c1 took stands.test is kept) (r, waits) in
          let b = entered x refl stands.body_typed (omega (arith, n)) stands.free stands.calls stands.code.0 (front z.w (from + 1) (stmts_where t true x) (turn_code sc a.facts t (stmts_where t true x)) stands.code.1) in
          let owed = b.1 in
          arrives runs compose W E Outer z jumps (0 + 1) (first + (1 + 16 * u)) debt b.0 (plus (units extra) (units u)) here here s0 (body_at x from) c1 d objects (knowing a (told_so t true)) others x (again t x rest ∷ work) path1 (omega (arith, most, n, few_units)) (omega (arith, owed, paid, le)) (omega arith) st1 under b.2 ((λ m q. again_live m (live_from x m _ q)), live.1)
      branches false u c1 least most kept took is path1 =
          let n = stands.few in
          let keeps = keeps_low 8 c c1 (omega arith) kept in
          let st1 = stands_on runs compose W E Outer z jumps objects here c c1 d keeps st in
          let facts = facts_within sc frame_bases (tested_facts sc a.facts t) (told_so t false) here.state c1 (told_grows (typed_of_expr sc.env t) false a.facts) (told_there t false c1 took stands.test is kept) in
          let under = under_on W E Outer z held objects here.state g fs c c1 a others (tested_facts sc a.facts t) keeps refl facts (r, waits) in
          let len : from + length (its_loop t x) ≡ turn_at t x from + length (turn_code sc a.facts t (stmts_where t true x)) = omega (arith, length-append (stmts_where t true x) (turn_code sc a.facts t (stmts_where t true x))) in
          arrives runs compose W E Outer z jumps (0 + 1) (first + (1 + 16 * u)) debt debt (plus (units extra) (units u)) here here s0 (turn_at t x from + length (turn_code sc a.facts t (stmts_where t true x))) c1 d objects (knowing a (tested_facts sc a.facts t)) others rest work path1 (omega (arith, most, n, few_units)) (omega (arith, paid, le)) (omega arith) st1 under
          (subst (λ m. Behind_it (tested_facts sc a.facts t) m debt) len block) ((λ m q. live.0 m (or_right (reads t m) _ (or_left _ (are_live x m false) q))), live.1)
