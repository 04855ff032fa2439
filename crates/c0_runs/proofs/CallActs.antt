-- A call of a function or of a primitive: the arguments, and the jump.
use Rattle.std.specs.Prelude.{map, slice_get, Option, Some, Ok, Err, ◌||◌, if◌then◌else◌}
use Rattle.std.proofs.Common.{◌≡◌, ℕ, zero, suc, ◌+◌, ◌*◌, ◌<◌, ◌≤◌, true, false, List, [], ◌∷◌, ◌++◌, length, refl, sym, ap, ◌∙◌, subst, arith, length-append}
use Rattle.mips_table.specs.declared.inst.Inst.TheVariants.{Jal}
use Rattle.mips_table.specs.declared.effect.Effect.TheVariants.{Set}
use Rattle.mips_table.specs.Effect.{jump_target}
use Rattle.mips_table.specs.Device.{Idle}
use Rattle.mips_table.specs.Code.{Contents, with_reg, Behind, CodeState, at_with, Reaches, RunLaws, CodeAt}
use Rattle.masm.specs.Laws.{RunsCompose, JumpsLead, StraightRuns}
use Rattle.c0_tree.specs.Size.{nodes, args_nodes}
use Rattle.c0_tree.specs.Tree.{CExpr, CStmts, CFunction}
use Rattle.c0_meaning.specs.Ty.{Ty, ty_of}
use Rattle.c0_meaning.specs.Env.{Shape, Signature, typed_of, signature_of}
use Rattle.c0_meaning.specs.Sound.{shapes}
use Rattle.c0_meaning.specs.Value.{Value, Values, empty, part}
use Rattle.c0_meaning.specs.State.{Frame}
use Rattle.c0_meaning.specs.Statement.{MAX_NEED, call_need}
use Rattle.c0_meaning.specs.Numbered.{IsNumberedLeft, AreNumberedGiven}
use Rattle.c0_meaning.specs.Operators.{KernelFault, faulted, stuck}
use Rattle.c0_meaning.specs.Evaluation.{Costed, costs, values_of}
use Rattle.c0_meaning.specs.World.{Cost, units, plus, Configuration, calls_ended}
use Rattle.c0_meaning.specs.Running.{Target, into, Work, Step, Stop, then_go, call_function}
use Rattle.c0_meaning.specs.TypedState.{StoreTyping, types_of, AllFit, store_typing}
use Rattle.c0_typed.specs.Leaf.{calls_in}
use Rattle.c0_expr_code.specs.Scope.{Scope}
use Rattle.c0_expr_runs.specs.Bases.{Bases}
use Rattle.c0_expr_runs.specs.Relation.{KeepsRegisters}
use Rattle.c0_typed.specs.Typed.{typed_of_expr}
use Rattle.c0_expr_code.specs.declared.facts.Facts.{Facts}
use Rattle.c0_expr_code.specs.Facts.{facts_called}
use Rattle.c0_stmt_code.specs.Behind.{all_followed}
use Rattle.c0_stmt_code.specs.Code.{args_code, answer_code, answered_facts}
use Rattle.c0_runs.proofs.FactsBehind.{all_followed_grows, called_follows, within_itself}
use Rattle.c0_runs.specs.Setup.{Setup}
use Rattle.c0_runs.specs.Ahead.{Activation, body_env, knowing, Block, Awaits, Ahead, AnswerIsLive, WaitingAreLive}
use Rattle.c0_stmt_code.specs.Live.{any_reads, live_at_place}
use Rattle.c0_runs.specs.Standing.{code_text, scope, bases, end_of, unit_scope, AreIn, Waiting, FunctionRuns, ConfigurationStands}
use Rattle.c0_runs.proofs.PremisesFromBelow.{HeldStays, TypedStays}
use Rattle.c0_stmt_code.proofs.PremisesOfFunctions.{FunctionsAre}
use Rattle.c0_runs.proofs.RunStretches.{none, on, of, within}
use Rattle.c0_runs.proofs.WorkAsCode.{Goes, front, back, or_left, or_right}
use Rattle.c0_runs.proofs.LiveAroundSteps.{AreLiveBefore}
use Rattle.c0_runs.proofs.UnitsWithinNodes.{Within, values_within}
use Rattle.c0_runs.proofs.ValuesStay.{word_same}
use Rattle.c0_runs.proofs.FunctionsUnderWay.{its_facts, rest_of, state_of, standing_at, Exprs}
use Rattle.c0_runs.proofs.MemoryAccess.{other_reg, same_reg}
use Rattle.c0_runs.proofs.RegionsApart.{variables_same}
use Rattle.c0_runs.proofs.ValuesToPlaces.{its_exprs, its_ready}
use Rattle.c0_runs.proofs.ArgumentsToRegisters.{SoftComes, InRegisters, args_run, known_after}
use Rattle.c0_runs.proofs.StepSimulation.{GoesOn, Path, stands_on}

-- words of registers that stay
pub are_moved : (sc : Scope) (b : Bases) (m m' : ℕ → ℕ) (r : ℕ) (ts : List Ty) (structs : List Shape) (lay : StoreTyping) (vs : Values) → AllFit structs lay ts vs → r + length ts ≤ 28 → ((x : ℕ) → x < 28 → m' x ≡ m x) → AreIn sc b m r vs → AreIn sc b m' r vs
are_moved sc b m m' r [] structs lay empty f le e h = tt
are_moved sc b m m' r (t ∷ ts) structs lay (part v vs) f le e h = (e r (omega (arith, le)) ∙ h.0, are_moved sc b m m' (suc r) ts structs lay vs f.1 (omega (arith, le)) e h.1)
are_moved sc b m m' r [] structs lay (part v vs) f le e h = absurd f
are_moved sc b m m' r (t ∷ ts) structs lay empty f le e h = absurd f

-- what a list of signatures is made of
pub signature_from : (fs : List CFunction) (i : ℕ) (c : Signature) → slice_get (map signature_of fs) i ≡ Some c → (f : CFunction) × (slice_get fs i ≡ Some f) × (signature_of f ≡ c)
signature_from [] i c e = absurd (cc)
signature_from (f ∷ fs) zero c e = let q : signature_of f ≡ c = cc in (f, refl, q)
signature_from (f ∷ fs) (suc i) c e = signature_from fs i c e

module _ (runs : RunLaws) (compose : RunsCompose) (W E : Type 0) (Outer : W → Contents → Behind → Type 0) (z : Setup W E Outer) (jumps : JumpsLead z.w) where
  -- the data stand after code that leaves memory and the registers from 28 on
  pub stands_soft : (objects : List Ty) (h : Configuration W E) (c c' : Contents) (d : Behind) → c'.memory ≡ c.memory → c'.special ≡ c.special → c'.regs 28 ≡ c.regs 28 → c'.regs 30 ≡ c.regs 30 → ConfigurationStands W E Outer z objects h c d → ConfigurationStands W E Outer z objects h c' d
  stands_soft objects h c c' d memory special r28 r30 st =
      let k : KeepsRegisters 0 0 c (record c { memory = c'.memory; special = c'.special }) = record { memory = memory; special = special; below = λ x n m l. refl; above = λ x n l. refl } in
      let s = stands_on runs compose W E Outer z jumps objects h c (record c { memory = c'.memory; special = c'.special }) d k st in
      record {
        typed = st.typed;
        declared = st.declared;
        used = st.used;
        room = st.room;
        stack_room = st.stack_room;
        globals = s.globals;
        heap = s.heap;
        used_word = s.used_word;
        heap_size = s.heap_size;
        heap_first = s.heap_first;
        stack_first = s.stack_first;
        stack_limit = s.stack_limit;
        globals_at = r28 ∙ st.globals_at;
        stack_end = r30 ∙ st.stack_end;
        outer = z.outer_stays h.world c c' d (λ y o. ap (λ m. m y) memory) special st.outer;
        idle = st.idle;
      }

  -- an evaluation on the way of a step, whose code may leave something in the registers of arguments; a fault ends the step
  pub then_soft : {A : Type 0} (Is : Step W E → Type 0) (l n debt lo hi : ℕ) (cost : Cost) (h h0 : Configuration W E) (s : CodeState) (f : CFunction) (from to : ℕ) (c : Contents) (d : Behind) (objects : List Ty) (Q : A → Contents → Type 0) (e : Costed A) (go : Cost → A → Step W E)
      → Path runs compose W E Outer z jumps l n s (at_with from c d) → n ≤ 30 * cost.own + debt → calls_ended h ≡ calls_ended h0 → ConfigurationStands W E Outer z objects h c d → Within lo hi e → SoftComes z.w (scope W E Outer z f) from to c d Q e
      → ((cost : Cost) (f : KernelFault) (h : Configuration W E) → GoesOn W E Outer z debt h0 s (Stop cost (faulted f) h) → Is (Stop cost (faulted f) h))
      → ((k : ℕ) (x : A) (c' : Contents) → e ≡ costs k (Ok x) → lo ≤ k → k ≤ hi → Q x c' → Path runs compose W E Outer z jumps l (n + 16 * k) s (at_with to c' d) → Is (go (plus cost (units k)) x)) → Is (then_go cost h e go)
  then_soft Is l n debt lo hi cost h h0 s f from to c d objects Q (costs k (Ok x)) go path high en st bounds comes stops next =
      next k x comes.0 refl bounds.0 bounds.1 comes.1 (within runs z.w (l + 0) (n + 16 * k) l (n + 16 * k) s (at_with to comes.0 d) (omega arith) (omega arith) (on runs z.w l n 0 (16 * k) s (at_with from c d) (at_with to comes.0 d) path (of runs z.w (16 * k) _ _ comes.2)))
  then_soft Is l n debt lo hi cost h h0 s f from to c d objects Q (costs k (Err (faulted x))) go path high en st bounds comes stops next =
      let exit = (scope W E Outer z f).exit x in
      let way = on runs z.w l n 0 (16 * k) s (at_with from c d) (at_with exit comes.0 d) path (of runs z.w (16 * k) _ _ comes.2) in
      let le = way.high in
      stops (plus cost (units k)) x h (at_with exit comes.0 d, record { own = way.own; high = omega (arith, le, high); ended_so = omega (arith, en); run = way.run }, record { objects = objects; stands = stands_soft objects h c comes.0 d comes.1.memory comes.1.special (comes.1.high 28 (omega arith)) (comes.1.high 30 (omega arith)) st; at = refl })
  then_soft Is l n debt lo hi cost h h0 s f from to c d objects Q (costs k (Err stuck)) go path high en st bounds comes stops next = absurd comes

  -- a jump that leaves the next word's address
  pub calls_to : (k index : ℕ) (c : Contents) (d : Behind) → d.pending ≡ Idle → z.w.code k ≡ Some (Jal index) → Reaches z.w 1 (at_with k c d) (at_with index (with_reg c 31 (4 * (k + 1))) d)
  calls_to k index c d idle code =
      let v = jumps.after (Jal index) k code in
      compose.settled z.w 1 index (at_with k c d) (with_reg c 31 (4 * (k + 1))) d idle (jumps.jumped (Jal index) k index 31 (4 * (k + 1)) c d code (ap (λ y. Set 31 y (jump_target (4 * k) index)) v))

  module _ (straight : StraightRuns z.w) (held : HeldStays (shapes z.p.unit)) (typing : TypedStays z.p.unit) (functions : FunctionsAre z.table z.p.unit) (exprs : Exprs W E Outer z)
      (objects : List Ty) (gv hv : Value) (hw : ℕ) (g : Frame) (fs : List Frame) (world : W) (calls : List (List E)) (answer : Option Value) (c : Contents) (d : Behind) (a : Activation) (others : List Activation)
      (st : ConfigurationStands W E Outer z objects (standing_at gv hv hw (g ∷ fs) world calls answer) c d) (r : FunctionRuns W E Outer z objects c a g fs) (waits : Waiting W E Outer z objects c.memory others fs)
      (form : (scope W E Outer z a.function).in_registers ≡ false) (its_calls : calls_in a.function.body ≡ true) (k debt : ℕ) where
    abbrev sc : Scope
    sc = scope W E Outer z a.function

    abbrev here : Configuration W E
    here = standing_at gv hv hw (g ∷ fs) world calls answer

    -- what is known while the call runs, and once its answer has gone to its place
    abbrev pub while_called : List CExpr → Facts
    while_called args = facts_called (all_followed (map (typed_of_expr sc.env) args) a.facts)

    abbrev pub behind_call : List CExpr → CExpr → Facts
    behind_call args p = answered_facts sc (while_called args) p

    -- the function that runs waits from now on
    now_waits : (args : List CExpr) (u : ℕ) (vs : Values) → values_of args here.state ≡ costs u (Ok vs) → (c' : Contents) → c'.memory ≡ c.memory → Waiting W E Outer z objects c'.memory (knowing a (while_called args) ∷ others) (g ∷ fs)
    now_waits args u vs same c' memory = (
      record {
        is = r.is;
        in_frame = form;
        calls = its_calls;
        return_at = ap (λ m. m (end_of W E Outer z fs)) memory ∙ sym (ap (λ b. if b then c.memory (end_of W E Outer z fs) else c.regs 31) its_calls) ∙ r.return_at;
        variables = variables_same W E Outer z held objects a.live c.regs c'.memory c.memory c'.memory a.function g fs true form r.is (λ x le lt. ap (λ m. m x) memory) r.variables;
        forgotten = within_itself (while_called args);
        sure = (known_after compose z.w sc (body_env (code_text W E Outer z) a.function) (bases W E Outer z objects (g ∷ fs)) a.live here.state
            (its_exprs runs compose W E Outer z jumps straight held typing exprs objects gv hv hw g fs world calls answer c d a others st r waits) a.facts args u vs c same (its_facts W E Outer z objects gv hv hw g fs c a r)).sure;
      },
      subst (λ m. Waiting W E Outer z objects m others fs) (sym memory) waits,
    )

    -- what has to be known of how a function is entered
    abbrev Enters : Facts → ℕ → CFunction → Target → List Work → Type 0
    Enters known n f target work = (c' : Contents) (vs : Values) (l m : ℕ) (cost : Cost) → ConfigurationStands W E Outer z objects here c' d → Waiting W E Outer z objects c'.memory (knowing a known ∷ others) (g ∷ fs) → c'.regs 29 ≡ 4 * end_of W E Outer z (g ∷ fs)
        → (to : ℕ) → c'.regs 31 ≡ 4 * to → AllFit (shapes z.p.unit) (store_typing z.p.unit objects) (types_of (map typed_of f.params)) vs → AreIn (unit_scope z.p.unit) (bases W E Outer z objects []) c'.regs 20 vs
        → Awaits (code_text W E Outer z) (knowing a known ∷ others) to debt (ty_of f.answer) target work (λ acts at left. Ahead (code_text W E Outer z) acts at left work)
        → AnswerIsLive (knowing a known ∷ others) target work (λ below. WaitingAreLive below work)
        → Path runs compose W E Outer z jumps l m (at_with k c d) (at_with ((code_text W E Outer z).links.function n) c' d) → cost.own + 9 ≤ 2048 * (l + 1) → m ≤ 30 * cost.own → length calls ≡ calls_ended here
        → GoesOn W E Outer z debt here (at_with k c d) (call_function z.p cost n vs target work here)

    -- words of values for every function
    are_out : (regs : ℕ → ℕ) (i : ℕ) (ts : List Ty) (vs : Values) → AllFit (shapes z.p.unit) (store_typing z.p.unit objects) ts vs → AreIn sc (bases W E Outer z objects (g ∷ fs)) regs i vs → AreIn (unit_scope z.p.unit) (bases W E Outer z objects []) regs i vs
    are_out regs i [] empty f h = tt
    are_out regs i (t ∷ ts) (part v vs) f h =
        (h.0 ∙ word_same (shapes z.p.unit) (map typed_of z.p.unit.globals) z.a.globals z.a.heap objects objects (λ path t h. refl) (rest_of (unit_scope z.p.unit)) (rest_of sc) (end_of W E Outer z []) (end_of W E Outer z (g ∷ fs)) t v f.0, are_out regs (suc i) ts vs f.1 h.1)
    are_out regs i [] (part v vs) f h = absurd f
    are_out regs i (t ∷ ts) empty f h = absurd f

    -- a call of a function
    pub calls_function : (n : ℕ) (f : CFunction) (args : List CExpr) (p : CExpr) (rest : CStmts) (work : List Work) → slice_get z.p.unit.functions n ≡ Some f → Enters (while_called args) n f (into p rest) work
        → AreNumberedGiven (body_env (code_text W E Outer z) a.function) args (types_of (map typed_of f.params)) → length args ≤ 8 → length (types_of (map typed_of f.params)) ≤ 8 → IsNumberedLeft (body_env (code_text W E Outer z) a.function) p (ty_of f.answer) → call_need p args ≤ MAX_NEED → nodes p + args_nodes args + 1 ≤ 2000
        → CodeAt z.w k (args_code sc a.facts args 0 ++ (Jal ((code_text W E Outer z).links.function n) ∷ answer_code sc (facts_called a.facts) p))
        → Block (code_text W E Outer z) a.function (behind_call args p) (k + length (args_code sc a.facts args 0 ++ (Jal ((code_text W E Outer z).links.function n) ∷ answer_code sc (facts_called a.facts) p))) debt rest (λ fs to left. Goes (code_text W E Outer z) a others work fs to left)
        → AreLiveBefore a.live others (λ m b. any_reads args m || live_at_place p m b) rest work
        → GoesOn W E Outer z debt here (at_with k c d) (then_go (units 1) here (values_of args here.state) (λ cost vs. call_function z.p cost n vs (into p rest) work here))
    calls_function n f args p rest work is enters given count types left deep few code block live =
        let ex = its_exprs runs compose W E Outer z jumps straight held typing exprs objects gv hv hw g fs world calls answer c d a others st r waits in
        let rd = its_ready runs compose W E Outer z jumps straight held typing exprs objects gv hv hw g fs world calls answer c d a others st r waits a.facts (its_facts W E Outer z objects gv hv hw g fs c a r) in
        let index : ℕ = (code_text W E Outer z).links.function n in
        let k1 : ℕ = k + length (args_code sc a.facts args 0) in
        let jal_at = back z.w k (args_code sc a.facts args 0) (Jal ((code_text W E Outer z).links.function n) ∷ answer_code sc (facts_called a.facts) p) code in
        let run = args_run compose z.w sc (body_env (code_text W E Outer z) a.function) (bases W E Outer z objects (g ∷ fs)) a.live (state_of gv hv hw (g ∷ fs)) d ex form st.idle a.facts args (types_of (map typed_of f.params)) 0 k c rd (λ m q. live.0 m (or_left (any_reads args m) _ q)) given (functions.scalars n f is) (omega (arith, deep)) (omega (arith, few)) (omega (arith, count))
        (front z.w k (args_code sc a.facts args 0) (Jal ((code_text W E Outer z).links.function n) ∷ answer_code sc (facts_called a.facts) p) code) in
        let len : k + length (args_code sc a.facts args 0 ++ (Jal ((code_text W E Outer z).links.function n) ∷ answer_code sc (facts_called a.facts) p)) ≡ k1 + 1 + length (answer_code sc (facts_called a.facts) p) = omega (arith, length-append (args_code sc a.facts args 0) (Jal ((code_text W E Outer z).links.function n) ∷ answer_code sc (facts_called a.facts) p)) in
        then_soft (GoesOn W E Outer z debt here (at_with k c d)) 0 0 debt 0 (args_nodes args) (units 1) here here (at_with k c d) a.function k k1 c d objects (InRegisters compose z.w sc (bases W E Outer z objects (g ∷ fs)) 0 (types_of (map typed_of f.params)) c) (values_of args here.state) (λ cost vs. call_function z.p cost n vs (into p rest) work here)
        (none runs z.w (at_with k c d)) (omega arith) (omega arith) st (values_within args here.state) run (λ cost f h stop. stop)
        (λ u vs c1 same least most q path.
        let c2 : Contents = with_reg c1 31 (4 * (k1 + 1)) in
        let jump_there = calls_to k1 index c1 d st.idle jal_at.0 in
        let way = on runs z.w 0 (0 + 16 * u) 0 1 (at_with k c d) (at_with k1 c1 d) (at_with index (with_reg c1 31 (4 * (k1 + 1))) d) path (of runs z.w 1 _ _ jump_there) in
        let soft = q.soft in
        enters (with_reg c1 31 (4 * (k1 + 1))) vs (0 + 0) (0 + 16 * u + 1) (plus (units 1) (units u))
        (stands_soft objects here c (with_reg c1 31 (4 * (k1 + 1))) d soft.memory soft.special (other_reg c1.regs 31 (4 * (k1 + 1)) 28 (λ q. absurd (omega (arith, q))) ∙ soft.high 28 (omega arith)) (other_reg c1.regs 31 (4 * (k1 + 1)) 30 (λ q. absurd (omega (arith, q))) ∙ soft.high 30 (omega arith)) st)
        (now_waits args u vs same (with_reg c1 31 (4 * (k1 + 1))) soft.memory)
        (other_reg c1.regs 31 (4 * (k1 + 1)) 29 (λ q. absurd (omega (arith, q))) ∙ soft.high 29 (omega arith) ∙ r.frame_at ∙ ap (λ b. 4 * (if b then end_of W E Outer z fs else end_of W E Outer z (g ∷ fs))) form)
        (k1 + 1) (same_reg c1.regs 31 (4 * (k1 + 1)) (λ q. absurd (omega (arith, q)))) q.fits
        (are_moved (unit_scope z.p.unit) (bases W E Outer z objects []) c1.regs (with_reg c1 31 (4 * (k1 + 1))).regs 20 (types_of (map typed_of f.params)) (shapes z.p.unit) (store_typing z.p.unit objects) vs q.fits (omega (arith, types)) (λ x lt. other_reg c1.regs 31 (4 * (k1 + 1)) x (λ q. absurd (omega (arith, q, lt))))
        (are_out c1.regs 20 (types_of (map typed_of f.params)) vs q.fits q.are)) (
          record {
            there = record { left = left; shallow = omega (arith, deep); few = omega (arith, few) };
            before = facts_called a.facts;
            fewer = called_follows a.facts (all_followed (map (typed_of_expr sc.env) args) a.facts) (all_followed_grows (map (typed_of_expr sc.env) args) a.facts);
            after = behind_call args p;
            later = within_itself (behind_call args p);
            code = jal_at.1;
          },
          subst (λ y. Block (code_text W E Outer z) a.function (behind_call args p) y debt rest (λ fs to left. Goes (code_text W E Outer z) a others work fs to left)) len block,
        )
        ((λ m q. live.0 m (or_right (any_reads args m) _ q)), live.1)
        way (omega (arith, most, few)) (omega arith) (omega arith))
