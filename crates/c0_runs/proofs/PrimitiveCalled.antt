-- A call of a primitive: the arguments, the jump, the pass, and the answer that waits for its place.
use Rattle.std.specs.Prelude.{map, slice_get, Option, Some, Ok, ◌||◌, if◌then◌else◌}
use Rattle.std.proofs.Common.{◌≡◌, inl, inr, ℕ, suc, ◌+◌, ◌*◌, ◌<◌, ◌≤◌, true, false, List, [], ◌∷◌, ◌++◌, length, refl, sym, ap, ◌∙◌, subst, arith, length-append}
use Rattle.mips_table.specs.declared.inst.Inst.{Inst}
use Rattle.mips_table.specs.declared.inst.Inst.TheVariants.{Jal}
use Rattle.mips_table.specs.Code.{Contents, with_reg, Behind, World, CodeState, at_with, RunLaws, CodeAt}
use Rattle.masm.specs.Laws.{RunsCompose, JumpsLead, StraightRuns}
use Rattle.c0_tree.specs.declared.primitive.Scalar.{Scalar}
use Rattle.c0_tree.specs.declared.primitive.Scalar.TheVariants as scalar
use Rattle.c0_tree.specs.declared.tree.Kind.TheVariants.{Primitive}
use Rattle.c0_tree.specs.Primitives.{CPrimitive}
use Rattle.c0_tree.specs.Size.{nodes, args_nodes}
use Rattle.c0_tree.specs.Tree.{CExpr, CStmts}
use Rattle.c0_meaning.specs.Ty.{Ty}
use Rattle.c0_meaning.specs.Env.{Shape, typed_of, scalar_ty}
use Rattle.c0_meaning.specs.Sound.{shapes}
use Rattle.c0_meaning.specs.Value.{Value, int, bool, null, at, group, Values, empty, part}
use Rattle.c0_meaning.specs.State.{Frame, stack_words}
use Rattle.c0_meaning.specs.Statement.{MAX_NEED, call_need}
use Rattle.c0_meaning.specs.Numbered.{IsNumberedLeft, AreNumberedGiven}
use Rattle.c0_meaning.specs.Evaluation.{costs, values_of}
use Rattle.c0_meaning.specs.World.{units, Configuration, after_call}
use Rattle.c0_meaning.specs.Running.{into, Work, then_go, call_with}
use Rattle.c0_meaning.specs.TypedState.{StoreTyping, types_of, Fits, AllFit, store_typing, IsTypedWith, AreScalars}
use Rattle.c0_typed.specs.Leaf.{calls_in}
use Rattle.c0_expr_code.specs.Scope.{Scope}
use Rattle.c0_expr_runs.specs.Bases.{Bases, word_of_scalar, RegionHeld}
use Rattle.c0_typed.specs.Typed.{typed_of_expr}
use Rattle.c0_expr_code.specs.declared.facts.Facts.{Facts}
use Rattle.c0_expr_code.specs.Facts.{IsWithin, SureHold, facts_called}
use Rattle.c0_stmt_code.specs.Behind.{all_followed}
use Rattle.c0_stmt_code.specs.Code.{args_code, answer_code, answered_facts}
use Rattle.c0_runs.proofs.FactsBehind.{all_followed_grows, called_follows, within_itself}
use Rattle.c0_runs.proofs.FactsKept.{registers_forgotten}
use Rattle.c0_runs.specs.Setup.{Setup, ArePassed, scalar_word, PrimitiveIsCalled, HasReturned}
use Rattle.c0_runs.specs.Ahead.{Activation, body_env, knowing, Block, Awaits, Ahead}
use Rattle.c0_stmt_code.specs.Live.{any_reads, live_at_place}
use Rattle.c0_runs.proofs.LiveAroundSteps.{AreLiveBefore}
use Rattle.c0_runs.specs.Standing.{code_text, scope, bases, end_of, unit_scope, AreIn, Waiting, FunctionRuns, UnderWay, IsPrimitiveCall, ConfigurationStands, StepIs}
use Rattle.c0_runs.proofs.PremisesFromBelow.{HeldStays, TypedStays}
use Rattle.c0_stmt_code.proofs.PremisesOfFunctions.{AllScalar}
use Rattle.c0_runs.proofs.RunStretches.{none, on, away}
use Rattle.c0_runs.proofs.WorkAsCode.{Goes, front, back, or_left, or_right}
use Rattle.c0_runs.proofs.UnitsWithinNodes.{values_within}
use Rattle.c0_runs.proofs.FunctionsUnderWay.{its_facts, state_of, standing_at, Exprs}
use Rattle.c0_runs.proofs.MemoryAccess.{other_reg, same_reg}
use Rattle.c0_runs.proofs.RegionsApart.{variables_same, waiting_same, frame_words, frame_on, words_by_types}
use Rattle.c0_runs.proofs.ValuesToPlaces.{its_exprs, its_ready}
use Rattle.c0_runs.proofs.ArgumentsToRegisters.{InRegisters, args_run, known_after}
use Rattle.c0_runs.proofs.CallActs.{stands_soft, then_soft, calls_to}

-- ints and bools fit whatever there is beside them
scalar_alone : (structs others : List Shape) (lay other : StoreTyping) (t : Scalar) (v : Value) → Fits structs lay (scalar_ty t) v → Fits others other (scalar_ty t) v
scalar_alone structs others lay other scalar.Int (int z) h = h
scalar_alone structs others lay other scalar.Bool (bool b) h = tt
scalar_alone structs others lay other scalar.Int (bool b) h = absurd h
scalar_alone structs others lay other scalar.Int null h = absurd h
scalar_alone structs others lay other scalar.Int (at l) h = absurd h
scalar_alone structs others lay other scalar.Int (group vs) h = absurd h
scalar_alone structs others lay other scalar.Bool (int z) h = absurd h
scalar_alone structs others lay other scalar.Bool null h = absurd h
scalar_alone structs others lay other scalar.Bool (at l) h = absurd h
scalar_alone structs others lay other scalar.Bool (group vs) h = absurd h

scalars_alone : (structs : List Shape) (lay : StoreTyping) (ts : List Scalar) (vs : Values) → AllFit structs lay (map scalar_ty ts) vs → AreScalars ts vs
scalars_alone structs lay [] empty h = tt
scalars_alone structs lay (t ∷ ts) (part v vs) h = (scalar_alone structs [] lay (record { globals = []; objects = [] }) t v h.0, scalars_alone structs lay ts vs h.1)
scalars_alone structs lay [] (part v vs) h = absurd h
scalars_alone structs lay (t ∷ ts) empty h = absurd h

word_alone : (sc : Scope) (b : Bases) (structs : List Shape) (lay : StoreTyping) (t : Scalar) (v : Value) → Fits structs lay (scalar_ty t) v → word_of_scalar sc b v ≡ scalar_word v
word_alone sc b structs lay scalar.Int (int z) h = refl
word_alone sc b structs lay scalar.Bool (bool x) h = refl
word_alone sc b structs lay scalar.Int (bool x) h = absurd h
word_alone sc b structs lay scalar.Int null h = absurd h
word_alone sc b structs lay scalar.Int (at l) h = absurd h
word_alone sc b structs lay scalar.Int (group vs) h = absurd h
word_alone sc b structs lay scalar.Bool (int z) h = absurd h
word_alone sc b structs lay scalar.Bool null h = absurd h
word_alone sc b structs lay scalar.Bool (at l) h = absurd h
word_alone sc b structs lay scalar.Bool (group vs) h = absurd h

passed : (sc : Scope) (b : Bases) (structs : List Shape) (lay : StoreTyping) (m m' : ℕ → ℕ) (r : ℕ) (ts : List Scalar) (vs : Values) → AllFit structs lay (map scalar_ty ts) vs → r + length ts ≤ 28 → ((x : ℕ) → x < 28 → m' x ≡ m x) → AreIn sc b m r vs → ArePassed m' r vs
passed sc b structs lay m m' r [] empty f le e h = tt
passed sc b structs lay m m' r (t ∷ ts) (part v vs) f le e h = (e r (omega (arith, le)) ∙ h.0 ∙ word_alone sc b structs lay t v f.0, passed sc b structs lay m m' (suc r) ts vs f.1 (omega (arith, le)) e h.1)
passed sc b structs lay m m' r [] (part v vs) f le e h = absurd f
passed sc b structs lay m m' r (t ∷ ts) empty f le e h = absurd f

all_scalar : (ts : List Scalar) → AllScalar (map scalar_ty ts)
all_scalar [] = tt
all_scalar (scalar.Int ∷ ts) = (refl, all_scalar ts)
all_scalar (scalar.Bool ∷ ts) = (refl, all_scalar ts)

-- code that isn't empty begins with an instruction
first_of : (w : World) (k : ℕ) (is : List Inst) → 1 ≤ length is → CodeAt w k is → (i : Inst) × (w.code k ≡ Some i)
first_of w k [] le h = absurd (omega (arith, le))
first_of w k (i ∷ is) le h = (i, h.0)

module _ (runs : RunLaws) (compose : RunsCompose) (W E : Type 0) (Outer : W → Contents → Behind → Type 0) (z : Setup W E Outer) (jumps : JumpsLead z.w) (straight : StraightRuns z.w)
    (held : HeldStays (shapes z.p.unit)) (typing : TypedStays z.p.unit) (exprs : Exprs W E Outer z)
    (objects : List Ty) (gv hv : Value) (hw : ℕ) (g : Frame) (fs : List Frame) (world : W) (calls : List (List E)) (answer : Option Value) (c : Contents) (d : Behind) (a : Activation) (others : List Activation)
    (st : ConfigurationStands W E Outer z objects (standing_at gv hv hw (g ∷ fs) world calls answer) c d) (r : FunctionRuns W E Outer z objects c a g fs) (waits : Waiting W E Outer z objects c.memory others fs)
    (form : (scope W E Outer z a.function).in_registers ≡ false) (its_calls : calls_in a.function.body ≡ true) (k debt : ℕ) where
  abbrev sc : Scope
  sc = scope W E Outer z a.function

  abbrev here : Configuration W E
  here = standing_at gv hv hw (g ∷ fs) world calls answer

  -- all stands where the primitive returns
  after : (known : Facts) → IsWithin known (facts_called known) → SureHold known g.variables → (h' : Configuration W E) (c2 : Contents) (to : ℕ) (index : ℕ) (t : CodeState) → h'.state ≡ here.state → c2.memory ≡ c.memory → c2.regs 28 ≡ c.regs 28 → c2.regs 29 ≡ c.regs 29 → c2.regs 30 ≡ c.regs 30 → HasReturned z.p.unit z.a z.p.stack to (at_with index c2 d) t → Outer h'.world t.contents t.behind
      → ConfigurationStands W E Outer z objects h' t.contents t.behind × UnderWay W E Outer z objects t.contents (knowing a known ∷ others) (g ∷ fs)
  after known forgotten sure h' c2 to index t same memory r28 r29 r30 b outer =
      let used = ap (λ m. m 1026) memory ∙ st.used_word in
      let fo = frame_on z.p.unit g fs a.function r.is in
      let ws = frame_words z.p.unit a.function in
      let sr = st.stack_room in
      let wt = words_by_types (shapes z.p.unit) (map typed_of z.p.unit.globals) in
      let su = st.used in
      let stack_same : (x : ℕ) → z.a.stack ≤ x → x < end_of W E Outer z (g ∷ fs) → t.contents.memory x ≡ c.memory x = λ x le lt. b.kept x (inr (inr (le, omega (arith, lt, sr)))) ∙ ap (λ m. m x) memory in (
        record {
          typed = subst (λ y. IsTypedWith z.p.unit objects y) (sym same) st.typed;
          declared = st.declared;
          used = st.used ∙ sym (ap (λ y. y.heap_words) same);
          room = subst (λ y. y.heap_words ≤ z.p.heap) (sym same) st.room;
          stack_room = subst (λ y. stack_words z.p.unit y.frames ≤ z.p.stack) (sym same) st.stack_room;
          globals = subst (λ y. RegionHeld (unit_scope z.p.unit) (bases W E Outer z objects []) t.contents.memory z.a.globals (types_of (map typed_of z.p.unit.globals)) y.global_values) (sym same)
              (held.same (unit_scope z.p.unit) (bases W E Outer z objects []) c.memory t.contents.memory z.a.globals (types_of (map typed_of z.p.unit.globals)) gv refl (λ x le lt. b.kept x (inl (le, omega (arith, lt, wt))) ∙ ap (λ m. m x) memory) st.globals);
          heap = subst (λ y. RegionHeld (unit_scope z.p.unit) (bases W E Outer z objects []) t.contents.memory z.a.heap objects y.heap_values) (sym same)
              (held.same (unit_scope z.p.unit) (bases W E Outer z objects []) c.memory t.contents.memory z.a.heap objects hv refl (λ x le lt. b.kept x (inr (inl (le, omega (arith, lt, used, su)))) ∙ ap (λ m. m x) memory) st.heap);
          used_word = b.variables 1026 (omega arith) (omega arith) ∙ used ∙ sym (ap (λ y. y.heap_words) same);
          heap_size = b.variables 1027 (omega arith) (omega arith) ∙ ap (λ m. m 1027) memory ∙ st.heap_size;
          heap_first = b.variables 1028 (omega arith) (omega arith) ∙ ap (λ m. m 1028) memory ∙ st.heap_first;
          stack_first = b.variables 1029 (omega arith) (omega arith) ∙ ap (λ m. m 1029) memory ∙ st.stack_first;
          stack_limit = b.variables 1030 (omega arith) (omega arith) ∙ ap (λ m. m 1030) memory ∙ st.stack_limit;
          globals_at = b.globals_at ∙ r28 ∙ st.globals_at;
          stack_end = b.stack_end ∙ r30 ∙ st.stack_end;
          outer = outer;
          idle = b.idle;
        },
        (
          record {
            is = r.is;
            return_at = ap (λ y. if y then t.contents.memory (end_of W E Outer z fs) else t.contents.regs 31) its_calls ∙ stack_same (end_of W E Outer z fs) (omega arith) (omega (arith, fo, ws)) ∙ sym (ap (λ y. if y then c.memory (end_of W E Outer z fs) else c.regs 31) its_calls) ∙ r.return_at;
            frame_at = b.frame_end ∙ r29 ∙ r.frame_at;
            variables = variables_same W E Outer z held objects a.live c.regs t.contents.regs c.memory t.contents.memory a.function g fs true form r.is (λ x le lt. stack_same x (omega (arith, le)) lt) r.variables;
            registers = λ e. registers_forgotten sc (bases W E Outer z objects (g ∷ fs)) known t.contents forgotten;
            sure = sure;
          },
          waiting_same W E Outer z held objects c.memory t.contents.memory others fs (λ x le lt. stack_same x le (omega (arith, lt, fo))) waits,
        ),
      )

  -- what is known while the call runs, and once its answer has gone to its place
  abbrev while_called : List CExpr → Facts
  while_called args = facts_called (all_followed (map (typed_of_expr sc.env) args) a.facts)

  abbrev after_call_known : List CExpr → CExpr → Facts
  after_call_known args p = answered_facts sc (while_called args) p

  pub calls_primitive : (n : ℕ) (row : CPrimitive) (args : List CExpr) (p : CExpr) (rest : CStmts) (work : List Work) → slice_get z.table n ≡ Some row → AreNumberedGiven (body_env (code_text W E Outer z) a.function) args (map scalar_ty row.args) → length args ≤ 8
      → (item : Work) → ((u : ℕ) (vs : Values) → values_of args here.state ≡ costs u (Ok vs) → IsPrimitiveCall here item n vs) → IsNumberedLeft (body_env (code_text W E Outer z) a.function) p (scalar_ty row.answer) → call_need p args ≤ MAX_NEED → nodes p + args_nodes args + 1 ≤ 2000 → 1 ≤ length (answer_code sc (facts_called a.facts) p)
      → CodeAt z.w k (args_code sc a.facts args 0 ++ (Jal ((code_text W E Outer z).links.primitive n) ∷ answer_code sc (facts_called a.facts) p))
      → Block (code_text W E Outer z) a.function (after_call_known args p) (k + length (args_code sc a.facts args 0 ++ (Jal ((code_text W E Outer z).links.primitive n) ∷ answer_code sc (facts_called a.facts) p))) debt rest (λ fs to left. Goes (code_text W E Outer z) a others work fs to left)
      → AreLiveBefore a.live others (λ m b. any_reads args m || live_at_place p m b) rest work
      → StepIs W E Outer z debt item here (at_with k c d) (then_go (units 1) here (values_of args here.state) (λ cost vs. call_with z.p cost Primitive n vs (into p rest) work here))
  calls_primitive n row args p rest work is given count item its_call left deep few some code block live =
      let ex = its_exprs runs compose W E Outer z jumps straight held typing exprs objects gv hv hw g fs world calls answer c d a others st r waits in
      let facts = its_facts W E Outer z objects gv hv hw g fs c a r in
      let rd = its_ready runs compose W E Outer z jumps straight held typing exprs objects gv hv hw g fs world calls answer c d a others st r waits a.facts facts in
      let index : ℕ = (code_text W E Outer z).links.primitive n in
      let k1 : ℕ = k + length (args_code sc a.facts args 0) in
      let fa = z.few_arguments n row is in
      let jal_at = back z.w k (args_code sc a.facts args 0) (Jal ((code_text W E Outer z).links.primitive n) ∷ answer_code sc (facts_called a.facts) p) code in
      let run = args_run compose z.w sc (body_env (code_text W E Outer z) a.function) (bases W E Outer z objects (g ∷ fs)) a.live (state_of gv hv hw (g ∷ fs)) d ex form st.idle a.facts args (map scalar_ty row.args) 0 k c rd (λ m q. live.0 m (or_left (any_reads args m) _ q)) given (all_scalar row.args) (omega (arith, deep)) (omega (arith, few)) (omega (arith, count))
      (front z.w k (args_code sc a.facts args 0) (Jal ((code_text W E Outer z).links.primitive n) ∷ answer_code sc (facts_called a.facts) p) code) in
      let len : k + length (args_code sc a.facts args 0 ++ (Jal ((code_text W E Outer z).links.primitive n) ∷ answer_code sc (facts_called a.facts) p)) ≡ k1 + 1 + length (answer_code sc (facts_called a.facts) p) = omega (arith, length-append (args_code sc a.facts args 0) (Jal ((code_text W E Outer z).links.primitive n) ∷ answer_code sc (facts_called a.facts) p)) in
      let first = first_of z.w (k1 + 1) (answer_code sc (facts_called a.facts) p) some jal_at.1 in
      then_soft runs compose W E Outer z jumps (StepIs W E Outer z debt item here (at_with k c d)) 0 0 debt 0 (args_nodes args) (units 1) here here (at_with k c d) a.function k k1 c d objects (InRegisters compose z.w sc (bases W E Outer z objects (g ∷ fs)) 0 (map scalar_ty row.args) c) (values_of args here.state) (λ cost vs. call_with z.p cost Primitive n vs (into p rest) work here)
      (none runs z.w (at_with k c d)) (omega arith) (omega arith) st (values_within args here.state) run (λ cost f h stop. stop)
      (λ u vs c1 same least most q path.
      let c2 : Contents = with_reg c1 31 (4 * (k1 + 1)) in
      let soft = q.soft in
      let keep : (x : ℕ) → 28 ≤ x → x < 31 → (with_reg c1 31 (4 * (k1 + 1))).regs x ≡ c.regs x = λ x le lt. other_reg c1.regs 31 (4 * (k1 + 1)) x (λ e. absurd (omega (arith, e, lt))) ∙ soft.high x le in
      let st2 = stands_soft runs compose W E Outer z jumps objects here c (with_reg c1 31 (4 * (k1 + 1))) d soft.memory soft.special (keep 28 (omega arith) (omega arith)) (keep 30 (omega arith) (omega arith)) st in
      let primitive_called : PrimitiveIsCalled z.w (code_text W E Outer z).links row n vs (k1 + 1) (at_with index (with_reg c1 31 (4 * (k1 + 1))) d) = record {
        at = refl;
        scalars = scalars_alone (shapes z.p.unit) (store_typing z.p.unit objects) row.args vs q.fits;
        arguments = passed sc (bases W E Outer z objects (g ∷ fs)) (shapes z.p.unit) (store_typing z.p.unit objects) c1.regs (with_reg c1 31 (4 * (k1 + 1))).regs 20 row.args vs q.fits (omega (arith, fa)) (λ x lt. other_reg c1.regs 31 (4 * (k1 + 1)) x (λ e. absurd (omega (arith, e, lt)))) q.are;
        return_at = same_reg c1.regs 31 (4 * (k1 + 1)) (λ e. absurd (omega (arith, e)));
        code = first.0;
        there = first.1;
        idle = st.idle;
      } in
      let way1 = on runs z.w 0 (0 + 16 * u) 1 1 (at_with k c d) (at_with k1 c1 d) (at_with index (with_reg c1 31 (4 * (k1 + 1))) d) path (away runs z.w 1 (at_with k1 c1 d) (at_with index (with_reg c1 31 (4 * (k1 + 1))) d) (z.elsewhere n k1 jal_at.0) (calls_to runs compose W E Outer z jumps k1 index c1 d st.idle jal_at.0)) in
      let le = way1.high in
      let ge = way1.low in
      inr record {
        number = n;
        row = row;
        args = vs;
        to = k1 + 1;
        own = way1.own;
        entry = at_with index (with_reg c1 31 (4 * (k1 + 1))) d;
        calls = its_call u vs same;
        is = is;
        high = omega (arith, le);
        low = omega (arith, ge, most, few);
        run = way1.run;
        called = primitive_called;
        outer = st2.outer;
        room = let used = st2.used_word in let room = st.room in omega (arith, used, room);
        units = omega arith;
        pages = omega arith;
        after = refl;
        returns = λ t b scalar result outer.
            let sure = (known_after compose z.w sc (body_env (code_text W E Outer z) a.function) (bases W E Outer z objects (g ∷ fs)) a.live here.state ex a.facts args u vs c same facts).sure in
            let all = after (while_called args) (within_itself (while_called args)) sure (after_call here (z.p.meaning n vs world)) (with_reg c1 31 (4 * (k1 + 1))) (k1 + 1) index t refl soft.memory (keep 28 (omega arith) (omega arith)) (keep 29 (omega arith) (omega arith)) (keep 30 (omega arith) (omega arith)) b outer in
            record {
              objects = objects;
              stands = all.0;
              activations = knowing a (while_called args) ∷ others;
              under_way = all.1;
              t = scalar_ty row.answer;
              fits = scalar_alone [] (shapes z.p.unit) (record { globals = []; objects = [] }) (store_typing z.p.unit objects) row.answer (z.p.meaning n vs world).answer scalar;
              answer = result ∙ sym (word_alone (unit_scope z.p.unit) (bases W E Outer z objects []) [] (record { globals = []; objects = [] }) row.answer (z.p.meaning n vs world).answer scalar);
              ahead = subst (λ y. Awaits (code_text W E Outer z) (knowing a (while_called args) ∷ others) y debt (scalar_ty row.answer) (into p rest) work (λ acts to left. Ahead (code_text W E Outer z) acts to left work)) (sym b.at) (
                record {
                  there = record { left = left; shallow = omega (arith, deep); few = omega (arith, few) };
                  before = facts_called a.facts;
                  fewer = called_follows a.facts (all_followed (map (typed_of_expr sc.env) args) a.facts) (all_followed_grows (map (typed_of_expr sc.env) args) a.facts);
                  after = after_call_known args p;
                  later = within_itself (after_call_known args p);
                  code = jal_at.1;
                },
                subst (λ y. Block (code_text W E Outer z) a.function (after_call_known args p) y debt rest (λ fs to left. Goes (code_text W E Outer z) a others work fs to left)) len block,
              );
              live = ((λ m q. live.0 m (or_right (any_reads args m) _ q)), live.1);
            };
      })
