-- Each step, by its own lemma.
use Rattle.std.specs.Prelude.{map, slice_get, IsTrue, Some, None}
use Rattle.std.proofs.Common.{◌≡◌, ℕ, zero, suc, ◌+◌, ◌*◌, ◌≤◌, Bool, true, false, Option, List, [], ◌∷◌, ◌++◌, length, refl, sym, ap, ◌∙◌, subst, arith}
use Rattle.mips_table.specs.declared.inst.Inst.TheVariants.{Jal, Sw}
use Rattle.mips_table.specs.Code.{Contents, Behind, CodeState, at_with, RunLaws, CodeAt}
use Rattle.masm.specs.Laws.{RunsCompose, JumpsLead, StraightRuns}
use Rattle.c0_tree.specs.declared.tree.Kind.{Kind}
use Rattle.c0_tree.specs.declared.tree.Kind.TheVariants.{Unresolved, Struct, Field, Global, Local, Function, Primitive}
use Rattle.c0_tree.specs.declared.primitive.Scalar.{Scalar}
use Rattle.c0_tree.specs.Primitives.{CPrimitive}
use Rattle.c0_tree.specs.Tree.{CTy, CExpr, CStmt, assign, call, new, choice, loop, CStmts, CBody, code, asm, CDecl, CFunction}
use Rattle.c0_meaning.specs.Ty.{Ty, named, ty_of}
use Rattle.c0_meaning.specs.Env.{Env, Signature, typed_of, primitive_signature, scalar_ty}
use Rattle.c0_meaning.specs.Limits.{is_asm}
use Rattle.c0_meaning.specs.Words.{words, shape_fields}
use Rattle.c0_meaning.specs.Sound.{shapes}
use Rattle.c0_meaning.specs.Value.{Value, Values}
use Rattle.c0_meaning.specs.State.{Frame}
use Rattle.c0_meaning.specs.Numbered.{IsNumbered, an_assignment, an_object, a_call, a_choice, a_loop, IsNumberedLeft, AreNumberedGiven, none, more, callee_at}
use Rattle.c0_meaning.specs.Evaluation.{values_of}
use Rattle.c0_meaning.specs.World.{Cost, units, Configuration, calls_ended}
use Rattle.c0_meaning.specs.Running.{Target, into, outward, Work, act_on, finish, again, leave, begin, then_go, call_with, call_function, act_statement, work_step}
use Rattle.c0_meaning.specs.TypedState.{types_of, Fits, AllFit, store_typing}
use Rattle.c0_typed.specs.Leaf.{is_free_of_calls}
use Rattle.c0_expr_code.specs.Scope.{Scope}
use Rattle.c0_expr_runs.specs.Bases.{words_of_all}
use Rattle.c0_expr_runs.specs.Laws.{IsOpened, AreasHold}
use Rattle.c0_expr_code.specs.Code.{made}
use Rattle.c0_typed.specs.Typed.{typed_of_expr, typed_of_stmts}
use Rattle.c0_expr_code.specs.declared.facts.Facts.{Facts}
use Rattle.c0_expr_code.specs.Facts.{facts_called}
use Rattle.c0_stmt_code.specs.Behind.{all_followed}
use Rattle.c0_stmt_code.specs.Code.{args_code, answer_code, stored_code, callee_index, stmt_code, stmts_code, facts_behind_stmt, told_facts, turn_facts}
use Rattle.c0_runs.proofs.FactsBehind.{changes_shrink, turns_stay}
use Rattle.c0_runs.proofs.WorkAsCode.{Goes, skipped}
use Rattle.c0_runs.specs.Setup.{Setup}
use Rattle.c0_runs.specs.Ahead.{Activation, body_env, knowing, loop_body, StatementStands, Block, Awaits, Ahead, AnswerIsLive, WaitingAreLive, AllAreLive}
use Rattle.c0_stmt_code.specs.Live.{is_live}
use Rattle.c0_runs.proofs.LiveAroundSteps.{AreLiveBefore}
use Rattle.c0_runs.specs.Standing.{code_text, scope, bases, end_of, unit_scope, word_of_value, AreIn, Waiting, FunctionRuns, UnderWay, ConfigurationStands, Simulated, StepIs}
use Rattle.c0_runs.proofs.PremisesFromBelow.{HeldStays, TypedStays}
use Rattle.c0_stmt_code.proofs.PremisesOfFunctions.{FunctionsAre, LengthsFit}
use Rattle.c0_runs.proofs.RunStretches.{Stretch, none as no_way, away, within}
use Rattle.c0_stmt_code.proofs.ShortStatements.{stmts_length, access_longer}
use Rattle.c0_runs.proofs.FunctionsUnderWay.{standing_at, Exprs, under_fewer}
use Rattle.c0_runs.proofs.ChoicesAndLoops.{assigns, chooses, turns}
use Rattle.c0_runs.proofs.RegisterAssigned.{variable_is, assigns_light}
use Rattle.c0_runs.proofs.AnswersToRegisters.{finishes_light}
use Rattle.c0_runs.proofs.ObjectMade.{makes_object}
use Rattle.c0_runtime.specs.Laws.{NewRuns}
use Rattle.c0_meaning.specs.Typed.{IsDeclarable}
use Rattle.c0_asm_body.specs.Laws.{AsmRuns}
use Rattle.c0_runs.proofs.AsmFunctionCalled.{enters_asm}
use Rattle.c0_runs.proofs.FrameEntered.{enters, enters_light}
use Rattle.c0_runs.proofs.CallActs.{signature_from, calls_function}
use Rattle.c0_runs.proofs.PrimitiveCalled.{calls_primitive}
use Rattle.c0_runs.proofs.FunctionReturns.{leaves, leaves_light, finishes}
use Rattle.c0_runs.proofs.StepSimulation.{GoesOn, goes_on, Path}

-- a body that isn't an asm text
pub record HasCode (b : CBody) : Type 0 where
  pub locals : List CDecl
  pub stmts : CStmts
  pub answer : CExpr
  pub is : b ≡ code locals stmts answer

pub has_statements : (b : CBody) → is_asm b ≡ false → HasCode b
has_statements (code ls ss e) h = record { locals = ls; stmts = ss; answer = e; is = refl }
has_statements (asm t s ws) h = absurd (cc)

types_of_params : (ds : List CDecl) → map (λ d. ty_of d.ty) ds ≡ types_of (map typed_of ds)
types_of_params [] = refl
types_of_params (d ∷ ds) = ap (λ ts. ty_of d.ty ∷ ts) (types_of_params ds)

params_length : (ds : List CDecl) → length (types_of (map typed_of ds)) ≡ length ds
params_length [] = refl
params_length (d ∷ ds) = let e = params_length ds in omega (arith, e)

scalars_length : (ts : List Scalar) → length (map scalar_ty ts) ≡ length ts
scalars_length [] = refl
scalars_length (t ∷ ts) = let e = scalars_length ts in omega (arith, e)

primitive_from : (rows : List CPrimitive) (i : ℕ) (c : Signature) → slice_get (map primitive_signature rows) i ≡ Some c → (p : CPrimitive) × (slice_get rows i ≡ Some p) × (primitive_signature p ≡ c)
primitive_from [] i c e = absurd (cc)
primitive_from (p ∷ rows) zero c e = let q : primitive_signature p ≡ c = cc in (p, refl, q)
primitive_from (p ∷ rows) (suc i) c e = primitive_from rows i c e

answer_some : (sc : Scope) (known : Facts) (p : CExpr) → 1 ≤ length (answer_code sc known p)
answer_some sc known p = by_register (made sc known p).register
  where
    by_register : (o : Option ℕ) → 1 ≤ length (stored_code 2 8 o (made sc known p).place)
    by_register (Some x) = omega arith
    by_register None = let n = access_longer (λ b k. Sw 2 b k) 8 ((made sc known p).place 8) in omega (arith, n)

given_length : (env : Env) (es : List CExpr) (ts : List Ty) → AreNumberedGiven env es ts → length es ≡ length ts
given_length env [] [] none = refl
given_length env (e ∷ es) (t ∷ ts) (more g gs) = let q = given_length env es ts gs in omega (arith, q)
given_length env [] (t ∷ ts) h = elim h [ ]
given_length env (e ∷ es) [] h = elim h [ ]

module _ (runs : RunLaws) (compose : RunsCompose) (W E : Type 0) (Outer : W → Contents → Behind → Type 0) (z : Setup W E Outer) (jumps : JumpsLead z.w) (straight : StraightRuns z.w)
    (held : HeldStays (shapes z.p.unit)) (typing : TypedStays z.p.unit) (functions : FunctionsAre z.table z.p.unit) (exprs : Exprs W E Outer z) (fit : (f : CFunction) → LengthsFit (scope W E Outer z f))
    (asm_runs : AsmRuns z.w) (opened : (x : List ℕ) → words (shapes z.p.unit) (named x) ≡ words_of_all (shapes z.p.unit) (types_of (shape_fields (shapes z.p.unit) x)))
    (new_runs : NewRuns z.w) (some_words : (t : CTy) → IsDeclarable (shapes z.p.unit) t → 1 ≤ words (shapes z.p.unit) (ty_of t)) where
  -- the first call
  begins : (objects : List Ty) (gv hv : Value) (hw : ℕ) (fs : List Frame) (world : W) (calls : List (List E)) (answer : Option Value) (c : Contents) (d : Behind) (acts : List Activation)
      → ConfigurationStands W E Outer z objects (standing_at gv hv hw fs world calls answer) c d → Waiting W E Outer z objects c.memory acts fs → c.regs 29 ≡ 4 * end_of W E Outer z fs
      → (n to debt : ℕ) (f : CFunction) → slice_get z.p.unit.functions n ≡ Some f → (args : Values) (target : Target) (work : List Work) → c.regs 31 ≡ 4 * to
      → AllFit (shapes z.p.unit) (store_typing z.p.unit objects) (types_of (map typed_of f.params)) args → AreIn (unit_scope z.p.unit) (bases W E Outer z objects []) c.regs 20 args
      → Awaits (code_text W E Outer z) acts to debt (ty_of f.answer) target work (λ others at left. Ahead (code_text W E Outer z) others at left work) → AnswerIsLive acts target work (λ below. WaitingAreLive below work)
      → (l m : ℕ) (cost : Cost) (h0 : Configuration W E) (s0 : CodeState) → Path runs compose W E Outer z jumps l m s0 (at_with ((code_text W E Outer z).links.function n) c d) → cost.own + 9 ≤ 2048 * (l + 1) → m ≤ 30 * cost.own → length calls ≡ calls_ended h0
      → GoesOn W E Outer z debt h0 s0 (call_function z.p cost n args target work (standing_at gv hv hw fs world calls answer))
  begins objects gv hv hw fs world calls answer c d acts st waits at_end n to debt f is args target work return_at fits arguments ahead live l m cost h0 s0 path low high en =
      by_body f.body refl
    where
      by_form : (b : Bool) → (scope W E Outer z f).in_registers ≡ b → HasCode f.body → GoesOn W E Outer z debt h0 s0 (call_function z.p cost n args target work (standing_at gv hv hw fs world calls answer))
      by_form false form b = enters runs compose W E Outer z jumps straight held typing functions opened objects gv hv hw fs world calls answer c d acts st waits at_end n to debt f is args target work return_at fits arguments ahead live l m ((code_text W E Outer z).links.function n) cost h0 s0 b.locals b.stmts b.answer b.is form path (z.functions n f is) low high en
      by_form true form b = enters_light runs compose W E Outer z jumps straight held typing functions opened objects gv hv hw fs world calls answer c d acts st waits at_end n to debt f is args target work return_at fits arguments ahead live l m ((code_text W E Outer z).links.function n) cost h0 s0 b.locals b.stmts b.answer b.is form path (z.functions n f is) low high en

      by_body : (b : CBody) → f.body ≡ b → GoesOn W E Outer z debt h0 s0 (call_function z.p cost n args target work (standing_at gv hv hw fs world calls answer))
      by_body (code ls ss result) e = by_form (scope W E Outer z f).in_registers refl (record { locals = ls; stmts = ss; answer = result; is = e })
      by_body (asm bytes span ws) e =
          let q = functions.asms n f bytes span ws is e in
          let l4 = q.1 in
          let size = params_length f.params in
          enters_asm runs compose W E Outer z jumps straight held asm_runs objects gv hv hw fs world calls answer c d acts st waits at_end n to debt f is args target work return_at fits arguments ahead live l m ((code_text W E Outer z).links.function n) cost h0 s0 bytes span ws e q.0 (omega (arith, l4, size)) size q.2 q.3 path (z.functions n f is) low high en

  module _ (objects : List Ty) (gv hv : Value) (hw : ℕ) (g : Frame) (fs : List Frame) (world : W) (calls : List (List E)) (answer : Option Value) (c : Contents) (d : Behind) (a : Activation) (others : List Activation)
      (st : ConfigurationStands W E Outer z objects (standing_at gv hv hw (g ∷ fs) world calls answer) c d) (r : FunctionRuns W E Outer z objects c a g fs) (waits : Waiting W E Outer z objects c.memory others fs)
      (k debt : ℕ) where
    abbrev sc : Scope
    sc = scope W E Outer z a.function

    abbrev here : Configuration W E
    here = standing_at gv hv hw (g ∷ fs) world calls answer

    abbrev At : Facts → ℕ → CStmts → List Work → Type 0
    At known k rest work = Block (code_text W E Outer z) a.function known k debt rest (λ fs to left. Goes (code_text W E Outer z) a others work fs to left)

    -- a statement
    states : (t : CStmt) (rest : CStmts) (work : List Work) → StatementStands (code_text W E Outer z) a.function a.facts k t → At (facts_behind_stmt sc a.facts t) (k + length (stmt_code sc a.facts (code_text W E Outer z).links t)) rest work → AreLiveBefore a.live others (λ n b. is_live t n b) rest work
        → StepIs W E Outer z debt (act_on t rest) here (at_with k c d) (act_statement z.p t rest work here)
    states (assign s p v) rest work stands block live = goes_on W E Outer z debt (act_on (assign s p v) rest) here (at_with k c d) (act_statement z.p (assign s p v) rest work here) (by_rule stands.typed)
      where
        by_rule : IsNumbered (body_env (code_text W E Outer z) a.function) (assign s p v) → GoesOn W E Outer z debt here (at_with k c d) (act_statement z.p (assign s p v) rest work here)
        by_rule (an_assignment {t = t} left given deep) = by_stands (made sc a.facts p).register refl
          where
            by_stands : (o : Option ℕ) → (made sc a.facts p).register ≡ o → GoesOn W E Outer z debt here (at_with k c d) (act_statement z.p (assign s p v) rest work here)
            by_stands None e = let few = stands.few in
                assigns runs compose W E Outer z jumps straight held typing exprs fit objects gv hv hw g fs world calls answer c d a others st r waits k debt rest work p v t left given deep (omega (arith, few)) e stands.code block live
            by_stands (Some x) e = let few = stands.few in
                assigns_light runs compose W E Outer z jumps straight held typing exprs fit objects gv hv hw g fs world calls answer c d a others st r waits k debt rest work p v t x (variable_is (body_env (code_text W E Outer z) a.function) sc a.facts x p t left.typed left.place e) left given deep (omega (arith, few)) e stands.code block live
    states (choice s t x y) rest work stands block live = goes_on W E Outer z debt (act_on (choice s t x y) rest) here (at_with k c d) (act_statement z.p (choice s t x y) rest work here) (by_rule stands.typed)
      where
        by_rule : IsNumbered (body_env (code_text W E Outer z) a.function) (choice s t x y) → GoesOn W E Outer z debt here (at_with k c d) (act_statement z.p (choice s t x y) rest work here)
        by_rule (a_choice test tx ty) = let few = stands.few in
            chooses runs compose W E Outer z jumps straight held typing exprs fit objects gv hv hw g fs world calls answer c d a others st r waits k debt rest work t x y test tx ty (omega (arith, few)) stands.free stands.calls stands.code block live
    states (loop s t b) rest work stands block live = goes_on W E Outer z debt (act_on (loop s t b) rest) here (at_with k c d) (act_statement z.p (loop s t b) rest work here) (by_rule stands.typed)
      where
        by_rule : IsNumbered (body_env (code_text W E Outer z) a.function) (loop s t b) → GoesOn W E Outer z debt here (at_with k c d) (act_statement z.p (loop s t b) rest work here)
        by_rule (a_loop test tb) =
            let few = stands.few in
            let l = stmts_length sc (code_text W E Outer z).links (fit a.function) (told_facts sc (turn_facts sc a.facts b) t true) b in
            let go = away runs z.w 1 (at_with k c d) (at_with (k + 1 + length (stmts_code sc (told_facts sc (turn_facts sc a.facts b) t true) (code_text W E Outer z).links b)) c d) (λ q. absurd (omega (arith, q))) (skipped runs compose z.w jumps k (length (stmts_code sc (told_facts sc (turn_facts sc a.facts b) t true) (code_text W E Outer z).links b)) c d st.idle (omega (arith, l, few)) stands.code.0) in
            let under = under_fewer W E Outer z objects c a others (g ∷ fs) (turn_facts sc a.facts b) (changes_shrink (typed_of_stmts sc.env b) a.facts) (r, waits) in
            turns runs compose W E Outer z jumps straight held typing exprs fit objects gv hv hw g fs world calls answer c d (knowing a (turn_facts sc a.facts b)) others st under.0 under.1 k debt rest work k 1 2 (at_with k c d) t b
            (record { test = test; body_typed = tb; few = omega (arith, few); free = stands.free; calls = stands.calls; stays = turns_stay (typed_of_stmts sc.env b) a.facts; code = stands.code }) block (omega arith) (omega arith) (omega arith) live (within runs z.w 1 1 0 1 _ _ (omega arith) (omega arith) go)
    states (new s p t ts) rest work stands block live = goes_on W E Outer z debt (act_on (new s p t ts) rest) here (at_with k c d) (act_statement z.p (new s p t ts) rest work here) (by_rule stands.typed)
      where
        by_rule : IsNumbered (body_env (code_text W E Outer z) a.function) (new s p t ts) → GoesOn W E Outer z debt here (at_with k c d) (act_statement z.p (new s p t ts) rest work here)
        by_rule (an_object left declarable settled shallow) = let few = stands.few in
            makes_object runs compose W E Outer z jumps straight held typing exprs new_runs some_words opened objects gv hv hw g fs world calls answer c d a others st r waits (stands.calls refl) k debt t declarable s p rest work left shallow (omega (arith, few)) stands.code block live
    states (call s p cs callee args) rest work stands block live = by_rule stands.typed
      where
        by_rule : IsNumbered (body_env (code_text W E Outer z) a.function) (call s p cs callee args) → StepIs W E Outer z debt (act_on (call s p cs callee args) rest) here (at_with k c d) (act_statement z.p (call s p cs callee args) rest work here)
        by_rule (a_call {c = signature} found left given deep) = by_kind callee.kind refl
          where
            in_frame : (b : Bool) → sc.in_registers ≡ b → (sc.in_registers ≡ true → IsTrue (is_free_of_calls (call s p cs callee args))) → b ≡ false
            in_frame true e free = absurd (let h = free e in cc)
            in_frame false e free = refl

            by_kind : (kd : Kind) → callee.kind ≡ kd → StepIs W E Outer z debt (act_on (call s p cs callee args) rest) here (at_with k c d) (act_statement z.p (call s p cs callee args) rest work here)
            by_kind Function e =
                let is = subst (λ kd. callee_at (body_env (code_text W E Outer z) a.function) kd callee.number ≡ Some signature) e found in
                let q = signature_from z.p.unit.functions callee.number signature is in
                let few = stands.few in
                let types : signature.params ≡ types_of (map typed_of q.0.params) = sym (ap (λ y. y.params) q.2) ∙ types_of_params q.0.params in
                let given2 = subst (λ ts. AreNumberedGiven (body_env (code_text W E Outer z) a.function) args ts) types given in
                let left2 = subst (λ t. IsNumberedLeft (body_env (code_text W E Outer z) a.function) p t) (sym (ap (λ y. y.answer) q.2)) left in
                let many = functions.few callee.number q.0 q.1 in
                let count = given_length (body_env (code_text W E Outer z) a.function) args (types_of (map typed_of q.0.params)) given2 in
                let size = params_length q.0.params in
                let index : callee_index (code_text W E Outer z).links callee.kind callee.number ≡ (code_text W E Outer z).links.function callee.number = ap (λ kd. callee_index (code_text W E Outer z).links kd callee.number) e in
                goes_on W E Outer z debt (act_on (call s p cs callee args) rest) here (at_with k c d) (act_statement z.p (call s p cs callee args) rest work here)
                (subst (λ kd. GoesOn W E Outer z debt here (at_with k c d) (then_go (units 1) here (values_of args here.state) (λ cost vs. call_with z.p cost kd callee.number vs (into p rest) work here))) (sym e)
                (calls_function runs compose W E Outer z jumps straight held typing functions exprs objects gv hv hw g fs world calls answer c d a others st r waits (in_frame sc.in_registers refl stands.free) (stands.calls refl) k debt callee.number q.0 args p rest work q.1
                (λ c2 vs l m cost st2 w2 at2 to ret fits are ahead lv path low high en. begins objects gv hv hw (g ∷ fs) world calls answer c2 d (knowing a (facts_called (all_followed (map (typed_of_expr sc.env) args) a.facts)) ∷ others) st2 w2 at2 callee.number to debt q.0 q.1 vs (into p rest) work ret fits are ahead lv l m cost here (at_with k c d) path low high en)
                given2 (omega (arith, count, size, many)) (omega (arith, size, many)) left2 deep (omega (arith, few))
                (subst (λ i. CodeAt z.w k (args_code sc a.facts args 0 ++ (Jal i ∷ answer_code sc (facts_called a.facts) p))) index stands.code)
                (subst (λ i. At (facts_behind_stmt sc a.facts (call s p cs callee args)) (k + length (args_code sc a.facts args 0 ++ (Jal i ∷ answer_code sc (facts_called a.facts) p))) rest work) index block) live))
            by_kind Primitive e =
                let is = subst (λ kd. callee_at (body_env (code_text W E Outer z) a.function) kd callee.number ≡ Some signature) e found in
                let q = primitive_from z.table callee.number signature is in
                let few = stands.few in
                let given2 = subst (λ ts. AreNumberedGiven (body_env (code_text W E Outer z) a.function) args ts) (sym (ap (λ y. y.params) q.2)) given in
                let left2 = subst (λ t. IsNumberedLeft (body_env (code_text W E Outer z) a.function) p t) (sym (ap (λ y. y.answer) q.2)) left in
                let many = z.few_arguments callee.number q.0 q.1 in
                let count = given_length (body_env (code_text W E Outer z) a.function) args (map scalar_ty q.0.args) given2 in
                let size = scalars_length q.0.args in
                let index : callee_index (code_text W E Outer z).links callee.kind callee.number ≡ (code_text W E Outer z).links.primitive callee.number = ap (λ kd. callee_index (code_text W E Outer z).links kd callee.number) e in
                subst (λ kd. StepIs W E Outer z debt (act_on (call s p cs callee args) rest) here (at_with k c d) (then_go (units 1) here (values_of args here.state) (λ cost vs. call_with z.p cost kd callee.number vs (into p rest) work here))) (sym e)
                (calls_primitive runs compose W E Outer z jumps straight held typing exprs objects gv hv hw g fs world calls answer c d a others st r waits (in_frame sc.in_registers refl stands.free) (stands.calls refl) k debt callee.number q.0 args p rest work q.1
                given2 (omega (arith, count, size, many)) (act_on (call s p cs callee args) rest) (λ u vs same. (e, refl, (u, same))) left2 deep (omega (arith, few)) (answer_some sc (facts_called a.facts) p)
                (subst (λ i. CodeAt z.w k (args_code sc a.facts args 0 ++ (Jal i ∷ answer_code sc (facts_called a.facts) p))) index stands.code)
                (subst (λ i. At (facts_behind_stmt sc a.facts (call s p cs callee args)) (k + length (args_code sc a.facts args 0 ++ (Jal i ∷ answer_code sc (facts_called a.facts) p))) rest work) index block) live)
            by_kind Unresolved e = let is = subst (λ kd. callee_at (body_env (code_text W E Outer z) a.function) kd callee.number ≡ Some signature) e found in absurd (cc)
            by_kind Struct e = let is = subst (λ kd. callee_at (body_env (code_text W E Outer z) a.function) kd callee.number ≡ Some signature) e found in absurd (cc)
            by_kind Field e = let is = subst (λ kd. callee_at (body_env (code_text W E Outer z) a.function) kd callee.number ≡ Some signature) e found in absurd (cc)
            by_kind Global e = let is = subst (λ kd. callee_at (body_env (code_text W E Outer z) a.function) kd callee.number ≡ Some signature) e found in absurd (cc)
            by_kind Local e = let is = subst (λ kd. callee_at (body_env (code_text W E Outer z) a.function) kd callee.number ≡ Some signature) e found in absurd (cc)

    -- a work item of the function that runs
    acts : (item : Work) (work : List Work) → Ahead (code_text W E Outer z) (a ∷ others) k debt (item ∷ work) → AllAreLive (a ∷ others) (item ∷ work) → StepIs W E Outer z debt item here (at_with k c d) (work_step z.p item work here)
    acts (act_on t rest) work ahead live = states t rest work ahead.0 ahead.1 live
    acts (again t body rest) work ahead live =
        let path : Path runs compose W E Outer z jumps 0 0 (at_with k c d) (at_with (ahead.0 + 1 + length (loop_body (code_text W E Outer z) a.function a.facts t body)) c d) = subst (λ y. Stretch runs z.w 0 0 (at_with k c d) (at_with y c d)) ahead.2 (no_way runs z.w (at_with k c d)) in
        goes_on W E Outer z debt (again t body rest) here (at_with k c d) (work_step z.p (again t body rest) work here)
        (turns runs compose W E Outer z jumps straight held typing exprs fit objects gv hv hw g fs world calls answer c d a others st r waits k debt rest work ahead.0 0 1 (at_with k c d) t body ahead.1 ahead.3 (omega arith) (omega arith) (omega arith) live path)
    acts (leave result target) work ahead live = goes_on W E Outer z debt (leave result target) here (at_with k c d) (work_step z.p (leave result target) work here) (by_form sc.in_registers refl)
      where
        by_form : (b : Bool) → sc.in_registers ≡ b → GoesOn W E Outer z debt here (at_with k c d) (work_step z.p (leave result target) work here)
        by_form false form = leaves runs compose W E Outer z jumps straight held typing functions exprs fit objects gv hv hw g fs world calls answer c d a others st r waits k debt result target work form ahead.0 ahead.1 live.0 live.1
        by_form true form = leaves_light runs compose W E Outer z jumps straight held typing functions exprs fit objects gv hv hw g fs world calls answer c d a others st r waits k debt result target work form ahead.0 ahead.1 live.0 live.1
    acts (finish place v rest) work ahead live = absurd ahead
    acts (begin n args) work ahead live = absurd ahead

  by_parts : (frames : List Frame) (objects : List Ty) (gv hv : Value) (hw : ℕ) (world : W) (calls : List (List E)) (answer : Option Value) (c : Contents) (d : Behind) (under_way : List Activation) (k debt : ℕ) (item : Work) (work : List Work)
      → ConfigurationStands W E Outer z objects (standing_at gv hv hw frames world calls answer) c d → UnderWay W E Outer z objects c under_way frames → Ahead (code_text W E Outer z) under_way k debt (item ∷ work) → AllAreLive under_way (item ∷ work)
      → StepIs W E Outer z debt item (standing_at gv hv hw frames world calls answer) (at_with k c d) (work_step z.p item work (standing_at gv hv hw frames world calls answer))
  by_parts (g ∷ fs) objects gv hv hw world calls answer c d (a ∷ others) k debt item work st under ahead live =
      acts objects gv hv hw g fs world calls answer c d a others st under.0 under.1 k debt item work ahead live
  by_parts [] objects gv hv hw world calls answer c d [] k debt item work st under ahead live = absurd under
  by_parts [] objects gv hv hw world calls answer c d (a ∷ others) k debt item work st under ahead live = absurd under
  by_parts (g ∷ fs) objects gv hv hw world calls answer c d [] k debt item work st under ahead live = absurd under

  finish_parts : (frames : List Frame) (objects : List Ty) (gv hv : Value) (hw : ℕ) (world : W) (calls : List (List E)) (answer : Option Value) (c : Contents) (d : Behind) (under_way : List Activation) (k debt : ℕ) (place : CExpr) (v : Value) (rest : CStmts) (work : List Work) (t : Ty)
      → ConfigurationStands W E Outer z objects (standing_at gv hv hw frames world calls answer) c d → UnderWay W E Outer z objects c under_way frames → Fits (shapes z.p.unit) (store_typing z.p.unit objects) t v → c.regs 2 ≡ word_of_value W E Outer z objects v
      → Awaits (code_text W E Outer z) under_way k debt t (into place rest) work (λ others to left. Ahead (code_text W E Outer z) others to left work) → AnswerIsLive under_way (into place rest) work (λ below. WaitingAreLive below work)
      → GoesOn W E Outer z debt (standing_at gv hv hw frames world calls answer) (at_with k c d) (work_step z.p (finish place v rest) work (standing_at gv hv hw frames world calls answer))
  finish_parts (g ∷ fs) objects gv hv hw world calls answer c d (a ∷ others) k debt place v rest work t st under fits is ahead live =
      by_register (made (scope W E Outer z a.function) ahead.0.before place).register refl
    where
      by_register : (o : Option ℕ) → (made (scope W E Outer z a.function) ahead.0.before place).register ≡ o → GoesOn W E Outer z debt (standing_at gv hv hw (g ∷ fs) world calls answer) (at_with k c d) (work_step z.p (finish place v rest) work (standing_at gv hv hw (g ∷ fs) world calls answer))
      by_register None e = finishes runs compose W E Outer z jumps straight held typing functions exprs fit objects gv hv hw g fs world calls answer c d a others st under.0 under.1 k debt place v rest work t fits is ahead.0 e ahead.1 live
      by_register (Some x) e = let left = ahead.0.there.left in
          finishes_light runs compose W E Outer z jumps straight held typing exprs fit opened objects gv hv hw g fs world calls answer c d a others st under.0 under.1 k debt rest work place v t x fits is (variable_is (body_env (code_text W E Outer z) a.function) (scope W E Outer z a.function) ahead.0.before x place t left.typed left.place e) ahead.0 e ahead.1 live
  finish_parts [] objects gv hv hw world calls answer c d [] k debt place v rest work t st under fits is ahead live = absurd under
  finish_parts [] objects gv hv hw world calls answer c d (a ∷ others) k debt place v rest work t st under fits is ahead live = absurd under
  finish_parts (g ∷ fs) objects gv hv hw world calls answer c d [] k debt place v rest work t st under fits is ahead live = absurd under

  begin_parts : (frames : List Frame) (objects : List Ty) (gv hv : Value) (hw : ℕ) (world : W) (calls : List (List E)) (answer : Option Value) (c : Contents) (d : Behind) (under_way : List Activation) (k debt n to : ℕ) (args : Values) (work : List Work) (f : CFunction)
      → ConfigurationStands W E Outer z objects (standing_at gv hv hw frames world calls answer) c d → Waiting W E Outer z objects c.memory under_way frames → c.regs 29 ≡ 4 * end_of W E Outer z frames → slice_get z.p.unit.functions n ≡ Some f → k ≡ (code_text W E Outer z).links.function n → c.regs 31 ≡ 4 * to
      → AllFit (shapes z.p.unit) (store_typing z.p.unit objects) (types_of (map typed_of f.params)) args → AreIn (unit_scope z.p.unit) (bases W E Outer z objects []) c.regs 20 args → Awaits (code_text W E Outer z) under_way to debt (ty_of f.answer) outward work (λ others at left. Ahead (code_text W E Outer z) others at left work)
      → GoesOn W E Outer z debt (standing_at gv hv hw frames world calls answer) (at_with k c d) (work_step z.p (begin n args) work (standing_at gv hv hw frames world calls answer))
  begin_parts [] objects gv hv hw world calls answer c d [] k debt n to args work f st waits at_end is at ret fits are ahead =
      begins objects gv hv hw [] world calls answer c d [] st waits at_end n to debt f is args outward work ret fits are ahead tt 0 0 (units 0) (standing_at gv hv hw [] world calls answer) (at_with k c d)
      (subst (λ y. Stretch runs z.w 0 0 (at_with k c d) (at_with y c d)) at (no_way runs z.w (at_with k c d))) (omega arith) (omega arith) (omega arith)
  begin_parts (g ∷ fs) objects gv hv hw world calls answer c d [] k debt n to args work f st waits at_end is at ret fits are ahead = absurd waits
  begin_parts frames objects gv hv hw world calls answer c d (a ∷ others) k debt n to args work f st waits at_end is at ret fits are ahead = absurd ahead

  pub steps : (debt : ℕ) (item : Work) (work : List Work) (h : Configuration W E) (s : CodeState) → Simulated W E Outer z debt (item ∷ work) h s → StepIs W E Outer z debt item h s (work_step z.p item work h)
  steps debt (act_on t rest) work h s sim = by_parts h.state.frames sim.objects h.state.global_values h.state.heap_values h.state.heap_words h.world h.calls h.answer s.contents s.behind sim.activations s.at debt (act_on t rest) work sim.stands sim.under_way sim.ahead sim.live
  steps debt (again t body rest) work h s sim = by_parts h.state.frames sim.objects h.state.global_values h.state.heap_values h.state.heap_words h.world h.calls h.answer s.contents s.behind sim.activations s.at debt (again t body rest) work sim.stands sim.under_way sim.ahead sim.live
  steps debt (leave result target) work h s sim = by_parts h.state.frames sim.objects h.state.global_values h.state.heap_values h.state.heap_words h.world h.calls h.answer s.contents s.behind sim.activations s.at debt (leave result target) work sim.stands sim.under_way sim.ahead sim.live
  steps debt (finish place v rest) work h s sim = goes_on W E Outer z debt (finish place v rest) h s (work_step z.p (finish place v rest) work h) (finish_parts h.state.frames sim.objects h.state.global_values h.state.heap_values h.state.heap_words h.world h.calls h.answer s.contents s.behind sim.activations s.at debt place v rest work sim.t sim.stands sim.under_way sim.fits sim.answer sim.ahead sim.live)
  steps debt (begin n args) work h s sim = goes_on W E Outer z debt (begin n args) h s (work_step z.p (begin n args) work h) (begin_parts h.state.frames sim.objects h.state.global_values h.state.heap_values h.state.heap_words h.world h.calls h.answer s.contents s.behind sim.activations s.at debt n sim.to args work sim.function sim.stands sim.waiting sim.frame_at sim.is sim.at sim.return_at sim.fits sim.arguments sim.ahead)

-- where anything is left to do the unit has a function, and so what its expressions rest on holds
module _ (areas : AreasHold) (W E : Type 0) (Outer : W → Contents → Behind → Type 0) (z : Setup W E Outer) where
  opened_by : (n : ℕ) (f : CFunction) → slice_get z.p.unit.functions n ≡ Some f → IsOpened (shapes z.p.unit)
  opened_by n f is =
      let sc = scope W E Outer z f in
      let words : ℕ = words_of_all (shapes z.p.unit) (types_of (map typed_of z.p.unit.globals)) in
      (areas z.table z.p.unit z.well_formed f n is z.addresses (record z.w { words = 1 + words_of_all (shapes z.p.unit) (types_of (map typed_of z.p.unit.globals)) + sc.frame })
      (record { globals = 1; heap = 1 + words_of_all (shapes z.p.unit) (types_of (map typed_of z.p.unit.globals)); frame_end = 1 + words_of_all (shapes z.p.unit) (types_of (map typed_of z.p.unit.globals)) + sc.frame; objects = [] })
      (record { from = omega arith; heap = omega arith; frame = omega arith; inside = omega arith }) (record { heap_behind = omega arith; frame_behind = omega arith }) (λ i t e. absurd (cc))).opened

  under_opened : (objects : List Ty) (c : Contents) (frames : List Frame) (under_way : List Activation) → UnderWay W E Outer z objects c under_way frames → IsOpened (shapes z.p.unit)
  under_opened objects c (g ∷ fs) (a ∷ others) under = opened_by g.function a.function under.0.is
  under_opened objects c [] [] under = absurd under
  under_opened objects c [] (a ∷ others) under = absurd under
  under_opened objects c (g ∷ fs) [] under = absurd under

  pub opened_of : (debt : ℕ) (item : Work) (work : List Work) (h : Configuration W E) (s : CodeState) → Simulated W E Outer z debt (item ∷ work) h s → IsOpened (shapes z.p.unit)
  opened_of debt (act_on t rest) work h s sim = under_opened sim.objects s.contents h.state.frames sim.activations sim.under_way
  opened_of debt (again t body rest) work h s sim = under_opened sim.objects s.contents h.state.frames sim.activations sim.under_way
  opened_of debt (leave result target) work h s sim = under_opened sim.objects s.contents h.state.frames sim.activations sim.under_way
  opened_of debt (finish place v rest) work h s sim = under_opened sim.objects s.contents h.state.frames sim.activations sim.under_way
  opened_of debt (begin n args) work h s sim = opened_by n sim.function sim.is
