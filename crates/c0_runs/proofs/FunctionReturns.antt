-- A function that has a frame returns, and an answer is stored.
use Rattle.std.specs.Prelude.{map, Some, None, Ok, Err, if◌then◌else◌}
use Rattle.std.proofs.Common.{◌≡◌, ◌≢◌, ℕ, ◌+◌, ◌-◌, ◌*◌, ◌%◌, ◌^◌, ◌<◌, ◌≤◌, Bool, true, false, Option, List, [], ◌∷◌, ◌++◌, length, refl, sym, ap, ap₂, ◌∙◌, subst, arith}
use Rattle.std.proofs.lemmas.Bool.{cond-true, cond-false}
use Rattle.mips_table.specs.declared.inst.Inst.{Inst}
use Rattle.mips_table.specs.declared.inst.Inst.TheVariants.{Addiu, Lw, Sw, Jr}
use Rattle.mips_table.specs.declared.effect.Effect.TheVariants.{Set}
use Rattle.mips_table.specs.Device.{Idle}
use Rattle.mips_table.specs.Code.{Contents, reg, with_reg, Behind, World, Sound, CodeState, at_with, Reaches, RunLaws, CodeAt}
use Rattle.masm.specs.Says.{Reads}
use Rattle.masm.specs.Laws.{RunsCompose, JumpsLead, StraightRuns}
use Rattle.c0_tree.specs.Size.{nodes}
use Rattle.c0_tree.specs.Tree.{CExpr, CStmts, CFunction}
use Rattle.c0_meaning.specs.Ty.{Ty, ty_of}
use Rattle.c0_meaning.specs.Env.{typed_of}
use Rattle.c0_meaning.specs.Sound.{shapes}
use Rattle.c0_meaning.specs.Value.{Value}
use Rattle.c0_meaning.specs.State.{Frame, write}
use Rattle.c0_meaning.specs.Evaluation.{Costed, costs, value_of}
use Rattle.c0_meaning.specs.Operators.{faulted, stuck}
use Rattle.c0_meaning.specs.World.{Cost, units, plus, Configuration, calls_ended}
use Rattle.c0_meaning.specs.Running.{Target, into, outward, Work, then_go, deliver, store}
use Rattle.c0_meaning.specs.TypedState.{Fits, store_typing}
use Rattle.c0_typed.specs.Leaf.{calls_in}
use Rattle.c0_expr_code.specs.Scope.{Scope}
use Rattle.c0_expr_code.specs.FrameSetting.{FrameSetting, frame_back, frame_setting}
use Rattle.c0_expr_code.specs.Code.{access_code, low, made, value_code}
use Rattle.c0_expr_runs.specs.Relation.{KeepsRegisters, HoldsValue, Evaluates, Splits}
use Rattle.c0_expr_runs.specs.Bases.{word_of_scalar}
use Rattle.c0_stmt_code.specs.Code.{frame_slot, end_code, restore_code, frame_return, register_return, exit_code, answer_code, stored_code}
use Rattle.c0_runs.specs.Setup.{Setup}
use Rattle.c0_runs.specs.Journey.{Led}
use Rattle.c0_expr_code.specs.Reads.{reads, Covers}
use Rattle.c0_runs.specs.Ahead.{Activation, AnswerStands, Block, Awaits, ReturnStands, Ahead, AnswerIsLive, WaitingAreLive}
use Rattle.c0_runs.proofs.LiveAroundSteps.{AreLiveAtPlace}
use Rattle.c0_runs.specs.Standing.{code_text, scope, bases, end_of, unit_scope, word_of_value, Waiting, FunctionRuns, UnderWay, ConfigurationStands}
use Rattle.c0_runs.proofs.PremisesFromBelow.{HeldStays, TypedStays}
use Rattle.c0_stmt_code.proofs.PremisesOfFunctions.{FunctionsAre, LengthsFit}
use Rattle.c0_runs.proofs.RunStretches.{none, on, of, away}
use Rattle.c0_runs.proofs.WorkAsCode.{Goes, front, back}
use Rattle.c0_runs.proofs.UnitsWithinNodes.{value_within}
use Rattle.c0_runs.proofs.ValuesStay.{word_same}
use Rattle.c0_runs.proofs.ValuesToPlaces.{IsKnown, its_exprs, its_ready, store_in}
use Rattle.c0_runs.proofs.FunctionsUnderWay.{its_facts, rest_of, state_of, standing_at, Exprs}
use Rattle.c0_runs.proofs.MemoryAccess.{other_reg, same_reg, read_is, like_read, place_steps, few_steps, on_place}
use Rattle.c0_runs.proofs.RegionsApart.{frame_words, frame_on, variables_same}
use Rattle.c0_runs.proofs.FrameMade.{frame_address, ends}
use Rattle.c0_runs.proofs.StepSimulation.{GoesOn, Path, stands_on, then_comes, then_splits}
use Rattle.c0_typed.specs.Typed.{typed_of_expr}
use Rattle.c0_stmt_code.specs.Behind.{stored_facts}
use Rattle.c0_stmt_code.specs.Code.{answered_facts}
use Rattle.c0_runs.proofs.FactsKept.{answer_holds, facts_within, registers_forgotten}
use Rattle.c0_stmt_code.proofs.ShortStatements.{access_longer}

-- the way back of a function that has a frame
module _ (compose : RunsCompose) (w : World) (sound : Sound w) (straight : StraightRuns w) (jumps : JumpsLead w) where
  -- a jump to an address in a register
  pub led : (q k to : ℕ) (c : Contents) (d : Behind) → d.pending ≡ Idle → reg c.regs q ≡ 4 * to → w.code k ≡ Some (Jr q) → Reaches w 1 (at_with k c d) (at_with to c d)
  led q k to c d idle e code = compose.settled w 1 to (at_with k c d) c d idle (jumps.led (Jr q) k to 0 0 c d code (ap (λ v. Set 0 0 v) e))

  pub record Returned (low : ℕ) (b c : Contents) : Type 0 where
    pub frame_at : c.regs 29 ≡ 4 * low
    pub memory : c.memory ≡ b.memory
    pub special : c.special ≡ b.special
    pub others : (x : ℕ) → x ≢ 1 → x ≢ 29 → x ≢ 31 → c.regs x ≡ b.regs x

  module _ (st : FrameSetting) (e : ℕ) (inside : st.frame ≤ e) (some : 0 < st.frame) (small : 4 * e < 2 ^ 32) (fits : e ≤ w.words) where
    record Restored (to : ℕ) (b c : Contents) : Type 0 where
      is : c.regs 31 ≡ 4 * to
      memory : c.memory ≡ b.memory
      special : c.special ≡ b.special
      others : (x : ℕ) → x ≢ 1 → x ≢ 31 → c.regs x ≡ b.regs x

    restores : (calling : Bool) (to k : ℕ) (c : Contents) (d : Behind) → d.pending ≡ Idle → c.regs 29 ≡ 4 * e → (if calling then c.memory (e - st.frame) else c.regs 31) ≡ 4 * to → CodeAt w k (restore_code st calling)
        → (c' : Contents) × Restored to c c' × Reaches w 3 (at_with k c d) (at_with (k + length (restore_code st calling)) c' d)
    restores false to k c d idle at is code = (c, record { is = is; memory = refl; special = refl; others = λ x ne me. refl }, subst (λ m. Reaches w 3 (at_with k c d) (at_with m c d)) (omega arith) (compose.later w 0 3 _ _ (omega arith) (compose.none w (at_with k c d))))
    restores true to k c d idle at is code =
        let r = on_place compose w straight (Restored to c) (λ y x. Lw 31 y x) (frame_slot st 0) 1 k c d idle (λ q. absurd (omega (arith, q))) (λ q. absurd (omega (arith, q))) code
        (λ y m a there near address. (
          with_reg a 31 (4 * to),
          record {
            is = same_reg a.regs 31 (4 * to) (λ q. absurd (omega (arith, q)));
            memory = near.memory;
            special = near.special;
            others = λ x ne me. other_reg a.regs 31 (4 * to) x me ∙ near.others x ne ne;
          },
          straight.next (Lw 31 y (low ((frame_back st + 4 * 0) % 2 ^ 32))) (Reads (e - st.frame) (4 * to)) m a d there refl idle
              (address ∙ ap (λ v. (v + (frame_back st + 4 * 0) % 2 ^ 32) % 2 ^ 32) at ∙ frame_address st e 0 inside small (omega arith) ∙ omega arith, omega (arith, inside, some, fits), ap (λ f. f (e - st.frame)) near.memory ∙ is),
        )) in
        (r.0, r.1, subst (λ m. Reaches w 3 (at_with m c d) (at_with (k + length (restore_code st true)) r.0 d)) (omega arith) (compose.later w (place_steps (frame_slot st 0)) 3 _ _ (few_steps (frame_slot st 0)) r.2))

    -- by a jump that stands further on
    pub returns : (calling : Bool) (to k : ℕ) (c : Contents) (d : Behind) → d.pending ≡ Idle → c.regs 29 ≡ 4 * e → (if calling then c.memory (e - st.frame) else c.regs 31) ≡ 4 * to → CodeAt w k (frame_return st calling)
        → (c' : Contents) × Returned (e - st.frame) c c' × (m : ℕ) × (k ≢ m) × Reaches w 6 (at_with k c d) (at_with m c' d) × Reaches w 1 (at_with m c' d) (at_with to c' d)
    returns calling to k c d idle at is code =
        let tail : List Inst = end_code 29 (frame_back st) ++ (Jr 31 ∷ []) in
        let one = restores calling to k c d idle at is (front w k (restore_code st calling) (end_code 29 (frame_back st) ++ (Jr 31 ∷ [])) code) in
        let k1 : ℕ = k + length (restore_code st calling) in
        let behind = back w k (restore_code st calling) (end_code 29 (frame_back st) ++ (Jr 31 ∷ [])) code in
        let two = ends compose w sound straight jumps 29 (frame_back st) e k1 one.0 d idle (λ q. absurd (omega (arith, q))) (one.1.others 29 (λ q. absurd (omega (arith, q))) (λ q. absurd (omega (arith, q))) ∙ at) (front w k1 (end_code 29 (frame_back st)) (Jr 31 ∷ []) behind) in
        let back_at = back w k1 (end_code 29 (frame_back st)) (Jr 31 ∷ []) behind in
        let address : reg two.0.regs 31 ≡ 4 * to = read_is two.0.regs 31 (λ q. absurd (omega (arith, q))) ∙ two.1.others 31 (λ q. absurd (omega (arith, q))) (λ q. absurd (omega (arith, q))) ∙ one.1.is in
        let three = led 31 (k1 + length (end_code 29 (frame_back st))) to two.0 d idle address back_at.0 in
        let some_end = access_longer (λ b y. Addiu 29 b y) 29 (record { code = []; base = 29; displacement = frame_back st % 2 ^ 32 }) in
        let value : two.0.regs 29 ≡ 4 * (e - st.frame) = let i = two.1.is in sym (read_is two.0.regs 29 (λ q. absurd (omega (arith, q)))) ∙ i ∙ omega (arith, inside, small) in (
          two.0,
          record {
            frame_at = value;
            memory = two.1.memory ∙ one.1.memory;
            special = two.1.special ∙ one.1.special;
            others = λ x n1 n29 n31. two.1.others x n1 n29 ∙ one.1.others x n1 n31;
          },
          k1 + length (end_code 29 (frame_back st)),
          (λ q. absurd (omega (arith, q, some_end))),
          compose.joined w 3 3 _ _ _ one.2 two.2,
          three,
        )

-- the way back of a function whose variables stand in registers
module _ (compose : RunsCompose) (w : World) (sound : Sound w) (straight : StraightRuns w) (jumps : JumpsLead w) where
  pub record Left31 (b c : Contents) : Type 0 where
    pub memory : c.memory ≡ b.memory
    pub special : c.special ≡ b.special
    pub others : (x : ℕ) → x ≢ 31 → c.regs x ≡ b.regs x

  pub returns_light : (calling : Bool) (low to k : ℕ) (c : Contents) (d : Behind) → d.pending ≡ Idle → c.regs 29 ≡ 4 * low → low < w.words → (if calling then c.memory low else c.regs 31) ≡ 4 * to → CodeAt w k (register_return calling)
      → (c' : Contents) × Left31 c c' × Reaches w 2 (at_with k c d) (at_with to c' d)
  returns_light false low to k c d idle at inside is code =
      (c, record { memory = refl; special = refl; others = λ x ne. refl }, compose.later w 1 2 _ _ (omega arith) (led compose w sound straight jumps 31 k to c d idle (read_is c.regs 31 (λ q. absurd (omega (arith, q))) ∙ is) code.0))
  returns_light true low to k c d idle at inside is code =
      let small = sound.small in
      let c1 : Contents = with_reg c 31 (4 * to) in
      let one = straight.next (Lw 31 29 0) (Reads low (4 * to)) k c d code.0 refl idle (omega (arith, at, inside, small), inside, is) in
      let two = led compose w sound straight jumps 31 (k + 1) to (with_reg c 31 (4 * to)) d idle (read_is (with_reg c 31 (4 * to)).regs 31 (λ q. absurd (omega (arith, q))) ∙ same_reg c.regs 31 (4 * to) (λ q. absurd (omega (arith, q)))) code.1.0 in
      (with_reg c 31 (4 * to), record { memory = refl; special = refl; others = λ x ne. other_reg c.regs 31 (4 * to) x ne }, compose.joined w 1 1 _ _ _ one two)

pub comes_splits : {A : Type 0} (w : World) (sc : Scope) (own n to : ℕ) (c : Contents) (d : Behind) (Q : A → Contents → Type 0) (e : Costed A) → Evaluates w sc own n to c d Q e → Splits w sc own n (λ x. to) c d Q e
comes_splits w sc own n to c d Q (costs k (Ok x)) h = h
comes_splits w sc own n to c d Q (costs k (Err (faulted f))) h = h
comes_splits w sc own n to c d Q (costs k (Err stuck)) h = absurd h

pub keeps_zero : (r d : ℕ) (a b : Contents) → d < 20 → KeepsRegisters r d a b → KeepsRegisters 0 0 a b
keeps_zero r d a b lt h = record { memory = h.memory; special = h.special; below = λ x n m l. absurd (omega (arith, l)); above = λ x n l. h.above x (λ e. absurd (omega (arith, e, l, lt))) l }

module _ (runs : RunLaws) (compose : RunsCompose) (W E : Type 0) (Outer : W → Contents → Behind → Type 0) (z : Setup W E Outer) (jumps : JumpsLead z.w) (straight : StraightRuns z.w)
    (held : HeldStays (shapes z.p.unit)) (typing : TypedStays z.p.unit) (functions : FunctionsAre z.table z.p.unit) (exprs : Exprs W E Outer z) (fit : (f : CFunction) → LengthsFit (scope W E Outer z f))
    (objects : List Ty) (gv hv : Value) (hw : ℕ) (g : Frame) (fs : List Frame) (world : W) (calls : List (List E)) (answer : Option Value) (c : Contents) (d : Behind) (a : Activation) (others : List Activation)
    (st : ConfigurationStands W E Outer z objects (standing_at gv hv hw (g ∷ fs) world calls answer) c d) (r : FunctionRuns W E Outer z objects c a g fs) (waits : Waiting W E Outer z objects c.memory others fs)
    (k debt : ℕ) where
  abbrev sc : Scope
  sc = scope W E Outer z a.function

  abbrev here : Configuration W E
  here = standing_at gv hv hw (g ∷ fs) world calls answer

  abbrev there : Configuration W E
  there = standing_at gv hv hw fs world calls answer

  -- the data stand without the newest frame
  stands_below : (c' : Contents) → c'.memory ≡ c.memory → c'.special ≡ c.special → c'.regs 28 ≡ c.regs 28 → c'.regs 30 ≡ c.regs 30 → ConfigurationStands W E Outer z objects there c' d
  stands_below c' memory special r28 r30 =
      let on = frame_on z.p.unit g fs a.function r.is in
      let o = st.stack_room in
      let k : KeepsRegisters 0 0 c (record c { memory = c'.memory; special = c'.special }) = record { memory = memory; special = special; below = λ x n m l. refl; above = λ x n l. refl } in
      let s = stands_on runs compose W E Outer z jumps objects here c (record c { memory = c'.memory; special = c'.special }) d k st in
      record {
        typed = typing.popped objects (state_of gv hv hw (g ∷ fs)) g fs refl st.typed;
        declared = st.declared;
        used = st.used;
        room = st.room;
        stack_room = omega (arith, on, o);
        globals = s.globals;
        heap = s.heap;
        used_word = s.used_word;
        heap_size = s.heap_size;
        heap_first = s.heap_first;
        stack_first = s.stack_first;
        stack_limit = s.stack_limit;
        globals_at = r28 ∙ st.globals_at;
        stack_end = r30 ∙ st.stack_end;
        outer = z.outer_stays world c c' d (λ y o. ap (λ m. m y) memory) special st.outer;
        idle = st.idle;
      }

  -- the caller goes on where it waited
  goes_on : (b : Activation) (more : List Activation) (q : Frame) (frames : List Frame) (c' : Contents) → c'.memory ≡ c.memory → c'.regs 29 ≡ 4 * end_of W E Outer z (q ∷ frames) → Waiting W E Outer z objects c.memory (b ∷ more) (q ∷ frames)
      → UnderWay W E Outer z objects c' (b ∷ more) (q ∷ frames)
  goes_on b more q frames c' memory at w = (
    record {
      is = w.0.is;
      return_at = ap (λ y. if y then c'.memory (end_of W E Outer z frames) else c'.regs 31) w.0.calls ∙ ap (λ m. m (end_of W E Outer z frames)) memory ∙ w.0.return_at;
      frame_at = at ∙ sym (ap (λ y. 4 * (if y then end_of W E Outer z frames else end_of W E Outer z (q ∷ frames))) w.0.in_frame);
      variables = variables_same W E Outer z held objects b.live c.memory c'.regs c.memory c'.memory b.function q frames true w.0.in_frame w.0.is (λ x le lt. ap (λ m. m x) memory) w.0.variables;
      registers = λ e. registers_forgotten (scope W E Outer z b.function) (bases W E Outer z objects (q ∷ frames)) b.facts c' w.0.forgotten;
      sure = w.0.sure;
    },
    subst (λ m. Waiting W E Outer z objects m more frames) (sym memory) w.1,
  )

  -- the answer is handed over
  delivers : (l m : ℕ) (cost : Cost) (h0 : Configuration W E) (s0 : CodeState) (target : Target) (v : Value) (work : List Work) (t : Ty) (c' : Contents) → Path runs compose W E Outer z jumps l m s0 (at_with a.to c' d) → cost.own ≤ 2048 * l → m ≤ 30 * cost.own → length calls ≡ calls_ended h0
      → c'.memory ≡ c.memory → c'.special ≡ c.special → c'.regs 28 ≡ c.regs 28 → c'.regs 30 ≡ c.regs 30 → c'.regs 29 ≡ 4 * end_of W E Outer z fs → Fits (shapes z.p.unit) (store_typing z.p.unit objects) t v → c'.regs 2 ≡ word_of_value W E Outer z objects v
      → Awaits (code_text W E Outer z) others a.to debt t target work (λ acts at left. Ahead (code_text W E Outer z) acts at left work) → AnswerIsLive others target work (λ below. WaitingAreLive below work) → GoesOn W E Outer z debt h0 s0 (deliver cost target v work there)
  delivers l m cost h0 s0 target v work t c' path low high en memory special r28 r30 r29 fits is ahead live = by_target others fs waits target work ahead live refl
    where
      led_to : (h' : Configuration W E) → h'.calls ≡ calls → Led z.w cost.own debt debt h0 h' s0 (at_with a.to c' d)
      led_to h' e = let le = path.high in let ge = path.low in let n = ap length e in record { own = path.own; high = omega (arith, le, high); low = omega (arith, ge, low); ended_so = n ∙ en; run = path.run }

      by_target : (acts : List Activation) (frames : List Frame) → Waiting W E Outer z objects c.memory acts frames → (target : Target) (work : List Work) → Awaits (code_text W E Outer z) acts a.to debt t target work (λ acts at left. Ahead (code_text W E Outer z) acts at left work) → AnswerIsLive acts target work (λ below. WaitingAreLive below work) → frames ≡ fs
          → GoesOn W E Outer z debt h0 s0 (deliver cost target v work there)
      by_target (b ∷ more) (q ∷ frames) w (into place rest) work ah lv e = (
        at_with a.to c' d,
        debt,
        led_to there refl,
        record {
          objects = objects;
          stands = stands_below c' memory special r28 r30;
          activations = b ∷ more;
          under_way = subst (λ y. UnderWay W E Outer z objects c' (b ∷ more) y) e (goes_on b more q frames c' memory (r29 ∙ ap (λ y. 4 * end_of W E Outer z y) (sym e)) w);
          t = t;
          fits = fits;
          answer = is;
          ahead = ah;
          live = lv;
        },
      )
      by_target [] [] w outward [] ah lv e = (
        at_with a.to c' d,
        debt,
        led_to (record there { answer = Some v }) refl,
        record {
          objects = objects;
          stands = let s = stands_below c' memory special r28 r30 in record { typed = s.typed; declared = s.declared; used = s.used; room = s.room; stack_room = s.stack_room; globals = s.globals; heap = s.heap; used_word = s.used_word; heap_size = s.heap_size; heap_first = s.heap_first; stack_first = s.stack_first; stack_limit = s.stack_limit; globals_at = s.globals_at; stack_end = s.stack_end; outer = s.outer; idle = s.idle };
          no_frames = sym e;
          at = ah;
          value = v;
          is = refl;
          answer = is;
        },
      )
      by_target [] [] w outward (i ∷ work) ah lv e = absurd ah
      by_target [] [] w (into place rest) work ah lv e = absurd ah
      by_target (b ∷ more) (q ∷ frames) w outward work ah lv e = absurd ah
      by_target [] (q ∷ frames) w target work ah lv e = absurd w
      by_target (b ∷ more) [] w target work ah lv e = absurd w

  -- a return from a function that has a frame
  pub leaves : (result : CExpr) (target : Target) (work : List Work) → sc.in_registers ≡ false → ReturnStands (code_text W E Outer z) a.function a.facts k result
      → Awaits (code_text W E Outer z) others a.to debt (ty_of a.function.answer) target work (λ acts at left. Ahead (code_text W E Outer z) acts at left work)
      → Covers a.live (reads result) → AnswerIsLive others target work (λ below. WaitingAreLive below work)
      → GoesOn W E Outer z debt here (at_with k c d) (then_go (units 0) here (value_of result here.state) (λ cost v. deliver cost target v work there))
  leaves result target work form stands ahead cover live =
      let t : Ty = ty_of a.function.answer in
      let ex = its_exprs runs compose W E Outer z jumps straight held typing exprs objects gv hv hw g fs world calls answer c d a others st r waits in
      let rd = its_ready runs compose W E Outer z jumps straight held typing exprs objects gv hv hw g fs world calls answer c d a others st r waits a.facts (its_facts W E Outer z objects gv hv hw g fs c a r) in
      let scalar = functions.answers g.function a.function r.is in
      let value = value_code sc a.facts result 2 8 in
      let exit = exit_code (frame_setting sc a.facts) (calls_in a.function.body) in
      let deep = stands.test.shallow in
      let run = ex.value a.facts result (ty_of a.function.answer) stands.test.value scalar stands.few cover 2 8 k c d st.idle rd (front z.w k (value_code sc a.facts result 2 8) (exit_code (frame_setting sc a.facts) (calls_in a.function.body)) stands.code) (omega arith) (omega (arith, deep)) (λ q. absurd (omega (arith, q))) (λ q. absurd (omega (arith, q))) in
      let k1 : ℕ = k + length (value_code sc a.facts result 2 8) in
      let exit_is : exit_code (frame_setting sc a.facts) (calls_in a.function.body) ≡ frame_return (frame_setting sc a.facts) (calls_in a.function.body) = cond-false sc.in_registers (register_return (calls_in a.function.body)) (frame_return (frame_setting sc a.facts) (calls_in a.function.body)) form in
      let exit_at = subst (CodeAt z.w k1) exit_is (back z.w k (value_code sc a.facts result 2 8) (exit_code (frame_setting sc a.facts) (calls_in a.function.body)) stands.code) in
      then_comes runs compose W E Outer z jumps 0 0 0 debt 1 (nodes result) (units 0) here here (at_with k c d) a.function k k1 c d objects (HoldsValue sc (bases W E Outer z objects (g ∷ fs)) 2 8 2 (ty_of a.function.answer) c) (value_of result here.state)
      (λ cost v. deliver cost target v work there) (none runs z.w (at_with k c d)) (omega arith) (omega arith) st (value_within result here.state) run
      (λ u v c1 least most gives path.
      let fo = frame_on z.p.unit g fs a.function r.is in
      let ws = frame_words z.p.unit a.function in
      let o = st.stack_room in
      let sf = z.stack_fits in
      let small = z.sound.small in
      let e : ℕ = end_of W E Outer z (g ∷ fs) in
      let keeps = gives.keeps in
      let base : end_of W E Outer z (g ∷ fs) - sc.frame ≡ end_of W E Outer z fs = omega (arith, fo) in
      let at29 : c1.regs 29 ≡ 4 * end_of W E Outer z (g ∷ fs) = keeps.above 29 (λ q. absurd (omega (arith, q))) (omega arith) ∙ r.frame_at ∙ ap (λ y. 4 * (if y then end_of W E Outer z fs else end_of W E Outer z (g ∷ fs))) form in
      let address : (if calls_in a.function.body then c1.memory (end_of W E Outer z (g ∷ fs) - sc.frame) else c1.regs 31) ≡ 4 * a.to =
      ap₂ (λ m y. if calls_in a.function.body then m else y) (ap c1.memory base ∙ ap (λ m. m (end_of W E Outer z fs)) keeps.memory) (keeps.above 31 (λ q. absurd (omega (arith, q))) (omega arith)) ∙ r.return_at in
      let back_there = returns compose z.w z.sound straight jumps (frame_setting sc a.facts) (end_of W E Outer z (g ∷ fs)) (omega (arith, fo)) (omega (arith, ws)) (omega (arith, o, sf, small)) (omega (arith, o, sf)) (calls_in a.function.body) a.to k1 c1 d st.idle at29 address exit_at in
      let c2 : Contents = back_there.0 in
      let last = away runs z.w 6 (at_with k1 c1 d) (at_with back_there.2 back_there.0 d) back_there.3 back_there.4 in
      let whole = on runs z.w 1 6 0 1 (at_with k1 c1 d) (at_with back_there.2 back_there.0 d) (at_with a.to back_there.0 d) last (of runs z.w 1 _ _ back_there.5) in
      let way = on runs z.w 0 (0 + (0 + 16 * u)) (1 + 0) (6 + 1) (at_with k c d) (at_with k1 c1 d) (at_with a.to back_there.0 d) path whole in
      let canonical = word_same (shapes z.p.unit) (map typed_of z.p.unit.globals) z.a.globals z.a.heap objects objects (λ path t h. refl) (rest_of (unit_scope z.p.unit)) (rest_of sc) (end_of W E Outer z []) (end_of W E Outer z (g ∷ fs)) (ty_of a.function.answer) v gives.fits in
      delivers (0 + (1 + 0)) (0 + (0 + 16 * u) + (6 + 1)) (plus (units 0) (units u)) here (at_with k c d) target v work (ty_of a.function.answer) back_there.0 way (omega (arith, most, few_nodes stands)) (omega (arith, least)) (omega arith)
      (back_there.1.memory ∙ keeps.memory) (back_there.1.special ∙ keeps.special)
      (back_there.1.others 28 (λ q. absurd (omega (arith, q))) (λ q. absurd (omega (arith, q))) (λ q. absurd (omega (arith, q))) ∙ keeps.above 28 (λ q. absurd (omega (arith, q))) (omega arith))
      (back_there.1.others 30 (λ q. absurd (omega (arith, q))) (λ q. absurd (omega (arith, q))) (λ q. absurd (omega (arith, q))) ∙ keeps.above 30 (λ q. absurd (omega (arith, q))) (omega arith))
      (back_there.1.frame_at ∙ ap (λ y. 4 * y) base) gives.fits
      (back_there.1.others 2 (λ q. absurd (omega (arith, q))) (λ q. absurd (omega (arith, q))) (λ q. absurd (omega (arith, q))) ∙ sym (read_is c1.regs 2 (λ q. absurd (omega (arith, q)))) ∙ gives.is ∙ canonical) ahead live)
    where
      few_nodes : ReturnStands (code_text W E Outer z) a.function a.facts k result → nodes result ≤ 2000
      few_nodes h = h.few

  -- a return from a function whose variables stand in registers
  pub leaves_light : (result : CExpr) (target : Target) (work : List Work) → sc.in_registers ≡ true → ReturnStands (code_text W E Outer z) a.function a.facts k result
      → Awaits (code_text W E Outer z) others a.to debt (ty_of a.function.answer) target work (λ acts at left. Ahead (code_text W E Outer z) acts at left work)
      → Covers a.live (reads result) → AnswerIsLive others target work (λ below. WaitingAreLive below work)
      → GoesOn W E Outer z debt here (at_with k c d) (then_go (units 0) here (value_of result here.state) (λ cost v. deliver cost target v work there))
  leaves_light result target work form stands ahead cover live =
      let t : Ty = ty_of a.function.answer in
      let ex = its_exprs runs compose W E Outer z jumps straight held typing exprs objects gv hv hw g fs world calls answer c d a others st r waits in
      let rd = its_ready runs compose W E Outer z jumps straight held typing exprs objects gv hv hw g fs world calls answer c d a others st r waits a.facts (its_facts W E Outer z objects gv hv hw g fs c a r) in
      let scalar = functions.answers g.function a.function r.is in
      let value = value_code sc a.facts result 2 8 in
      let exit = exit_code (frame_setting sc a.facts) (calls_in a.function.body) in
      let deep = stands.test.shallow in
      let some = (fit a.function).value_some form a.facts result 2 8 in
      let run = ex.value a.facts result (ty_of a.function.answer) stands.test.value scalar stands.few cover 2 8 k c d st.idle rd (front z.w k (value_code sc a.facts result 2 8) (exit_code (frame_setting sc a.facts) (calls_in a.function.body)) stands.code) (omega arith) (omega (arith, deep)) (λ q. absurd (omega (arith, q))) (λ q. absurd (omega (arith, q))) in
      let k1 : ℕ = k + length (value_code sc a.facts result 2 8) in
      let exit_is : exit_code (frame_setting sc a.facts) (calls_in a.function.body) ≡ register_return (calls_in a.function.body) = cond-true sc.in_registers (register_return (calls_in a.function.body)) (frame_return (frame_setting sc a.facts) (calls_in a.function.body)) form in
      let exit_at = subst (CodeAt z.w k1) exit_is (back z.w k (value_code sc a.facts result 2 8) (exit_code (frame_setting sc a.facts) (calls_in a.function.body)) stands.code) in
      then_splits runs compose W E Outer z jumps 0 0 0 debt 1 (nodes result) (units 0) here here (at_with k c d) a.function k (λ v. k1) c d objects (HoldsValue sc (bases W E Outer z objects (g ∷ fs)) 2 8 2 (ty_of a.function.answer) c) (value_of result here.state)
      (λ cost v. deliver cost target v work there) (λ v q. absurd (omega (arith, q, some))) (none runs z.w (at_with k c d)) (omega arith) (omega arith) st (value_within result here.state) (comes_splits z.w sc 0 k k1 c d _ (value_of result here.state) run)
      (λ u v c1 least most gives path.
      let fo = frame_on z.p.unit g fs a.function r.is in
      let ws = frame_words z.p.unit a.function in
      let o = st.stack_room in
      let sf = z.stack_fits in
      let small = z.sound.small in
      let e : ℕ = end_of W E Outer z (g ∷ fs) in
      let keeps = gives.keeps in
      let at29 : c1.regs 29 ≡ 4 * end_of W E Outer z fs = keeps.above 29 (λ q. absurd (omega (arith, q))) (omega arith) ∙ r.frame_at ∙ ap (λ y. 4 * (if y then end_of W E Outer z fs else end_of W E Outer z (g ∷ fs))) form in
      let address : (if calls_in a.function.body then c1.memory (end_of W E Outer z fs) else c1.regs 31) ≡ 4 * a.to =
      ap₂ (λ m y. if calls_in a.function.body then m else y) (ap (λ m. m (end_of W E Outer z fs)) keeps.memory) (keeps.above 31 (λ q. absurd (omega (arith, q))) (omega arith)) ∙ r.return_at in
      let back_there = returns_light compose z.w z.sound straight jumps (calls_in a.function.body) (end_of W E Outer z fs) a.to k1 c1 d st.idle at29 (omega (arith, fo, ws, o, sf)) address exit_at in
      let c2 : Contents = back_there.0 in
      let way = on runs z.w (0 + 1) (0 + (0 + 16 * u)) 0 2 (at_with k c d) (at_with k1 c1 d) (at_with a.to back_there.0 d) path (of runs z.w 2 _ _ back_there.2) in
      let canonical = word_same (shapes z.p.unit) (map typed_of z.p.unit.globals) z.a.globals z.a.heap objects objects (λ path t h. refl) (rest_of (unit_scope z.p.unit)) (rest_of sc) (end_of W E Outer z []) (end_of W E Outer z (g ∷ fs)) (ty_of a.function.answer) v gives.fits in
      delivers (0 + 1 + 0) (0 + (0 + 16 * u) + 2) (plus (units 0) (units u)) here (at_with k c d) target v work (ty_of a.function.answer) back_there.0 way (omega (arith, most, few_nodes stands)) (omega (arith, least)) (omega arith)
      (back_there.1.memory ∙ keeps.memory) (back_there.1.special ∙ keeps.special)
      (back_there.1.others 28 (λ q. absurd (omega (arith, q))) ∙ keeps.above 28 (λ q. absurd (omega (arith, q))) (omega arith))
      (back_there.1.others 30 (λ q. absurd (omega (arith, q))) ∙ keeps.above 30 (λ q. absurd (omega (arith, q))) (omega arith))
      (back_there.1.others 29 (λ q. absurd (omega (arith, q))) ∙ at29) gives.fits
      (back_there.1.others 2 (λ q. absurd (omega (arith, q))) ∙ sym (read_is c1.regs 2 (λ q. absurd (omega (arith, q)))) ∙ gives.is ∙ canonical) ahead live)
    where
      few_nodes : ReturnStands (code_text W E Outer z) a.function a.facts k result → nodes result ≤ 2000
      few_nodes h = h.few

  -- an answer goes to a place in memory
  pub finishes : (place : CExpr) (v : Value) (rest : CStmts) (work : List Work) (t : Ty) → Fits (shapes z.p.unit) (store_typing z.p.unit objects) t v → c.regs 2 ≡ word_of_value W E Outer z objects v → (h : AnswerStands (code_text W E Outer z) a.function a.facts k place t) → (made sc h.before place).register ≡ None
      → Block (code_text W E Outer z) a.function h.after (k + length (answer_code sc h.before place)) debt rest (λ fs to left. Goes (code_text W E Outer z) a others work fs to left)
      → AreLiveAtPlace a.live others place rest work → GoesOn W E Outer z debt here (at_with k c d) (store (units 0) place v rest work here)
  finishes place v rest work t fits is h stands block live =
      let same : answer_code sc h.before place ≡ access_code (λ b y. Sw 2 b y) 8 ((made sc h.before place).place 8) = ap (λ o. stored_code 2 8 o (made sc h.before place).place) stands in
      let shallow = h.there.shallow in
      let few = h.there.few in
      let canonical = word_same (shapes z.p.unit) (map typed_of z.p.unit.globals) z.a.globals z.a.heap objects objects (λ path t h. refl) (rest_of (unit_scope z.p.unit)) (rest_of sc) (end_of W E Outer z []) (end_of W E Outer z (g ∷ fs)) t v fits in
      store_in runs compose W E Outer z jumps straight held typing exprs objects gv hv hw g fs world calls answer c d a others st r waits 0 debt debt 8 2 k (units 0) here (at_with k c d) place t v rest work h.before h.after h.fewer becomes (none runs z.w (at_with k c d))
      (omega arith) (omega arith) (omega (arith, few)) (omega (arith, few)) (omega arith) (omega arith) (omega (arith, shallow)) (omega arith) (λ q. absurd (omega (arith, q))) (λ q. absurd (omega (arith, q)))
      (λ b kept. like_read b.regs c.regs 2 (kept.below 2 (λ q. absurd (omega (arith, q))) (λ q. absurd (omega (arith, q))) (omega arith))) (read_is c.regs 2 (λ q. absurd (omega (arith, q))) ∙ is ∙ sym canonical) fits h.there.left stands
      (subst (CodeAt z.w k) same h.code) (subst (λ is. Block (code_text W E Outer z) a.function h.after (k + length is) debt rest (λ fs to left. Goes (code_text W E Outer z) a others work fs to left)) same block) live
    where
      canonical_word : word_of_value W E Outer z objects v ≡ word_of_scalar sc (bases W E Outer z objects (g ∷ fs)) v
      canonical_word = sym (word_same (shapes z.p.unit) (map typed_of z.p.unit.globals) z.a.globals z.a.heap objects objects (λ path t h. refl) (rest_of (unit_scope z.p.unit)) (rest_of sc) (end_of W E Outer z []) (end_of W E Outer z (g ∷ fs)) t v fits)

      becomes : IsKnown runs compose W E Outer z jumps straight held typing exprs objects gv hv hw g fs world calls answer c d a others st r waits place v h.after
      becomes l b placed facts =
          facts_within sc (bases W E Outer z objects (g ∷ fs)) h.after (answered_facts sc a.facts place) (write here.state l v) b h.later
          (answer_holds sc (bases W E Outer z objects (g ∷ fs)) place (stored_facts (typed_of_expr sc.env place) a.facts) here.state (write here.state l v) placed.units l b h.there.left.place placed.found (placed.register ∙ is ∙ canonical_word ∙ sym placed.is) facts)
