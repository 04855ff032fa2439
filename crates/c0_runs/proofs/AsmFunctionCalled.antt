-- A function that has an asm body is called: the stack's test, the body, and the return.
use Rattle.std.specs.Prelude.{map, slice_get, IsTrue, Some, Option, ok_or, if◌then◌else◌, nat_lt, ℤ, FitsSigned}
use Rattle.std.specs.Int.{w32}
use Rattle.std.proofs.lemmas.Bool.{cases_Bool, cond-true, cond-false, ltb-true, ltb-false}
use Rattle.std.proofs.Common.{◌≡◌, inl, inr, ℕ, suc, ◌+◌, ◌*◌, ◌^◌, ◌<◌, ◌≤◌, Bool, true, false, List, [], ◌∷◌, ◌++◌, length, refl, sym, ap, ◌∙◌, subst, arith, length-append}
use Rattle.std.proofs.lemmas.Int.{ints}
use Rattle.mips_table.specs.declared.inst.Inst.TheVariants.{Jr, Sltu, Beq, J}
use Rattle.mips_table.specs.Code.{Contents, Behind, CodeState, at_with, RunLaws, CodeAt}
use Rattle.masm.specs.Laws.{RunsCompose, JumpsLead, StraightRuns}
use Rattle.cvm_words.specs.Words.{int_of, word_of}
use Rattle.c0_tree.specs.declared.tree.Span.{Span}
use Rattle.c0_tree.specs.Tree.{asm, CFunction}
use Rattle.c0_meaning.specs.Ty.{Ty, ty_of}
use Rattle.c0_meaning.specs.Ty as ty
use Rattle.c0_meaning.specs.Asm.{are_allowed_words}
use Rattle.c0_meaning.specs.AsmBody.{asm_result}
use Rattle.c0_meaning.specs.Limits.{words_of_frame}
use Rattle.c0_meaning.specs.Env.{typed_of}
use Rattle.c0_meaning.specs.Sound.{shapes}
use Rattle.c0_meaning.specs.Value.{Value, int, bool, null, at, group, Values, empty, part, count}
use Rattle.c0_meaning.specs.State.{Frame, stack_words}
use Rattle.c0_meaning.specs.Operators.{StackOut, faulted, stuck}
use Rattle.c0_meaning.specs.Evaluation.{at_no_cost}
use Rattle.c0_meaning.specs.World.{Cost, units, plus, Configuration, calls_ended}
use Rattle.c0_meaning.specs.Running.{Target, into, outward, Work, Stop, then_go, enter, call_function, deliver}
use Rattle.c0_meaning.specs.TypedState.{types_of, Fits, AllFit, store_typing}
use Rattle.c0_expr_code.specs.Scope.{Scope}
use Rattle.c0_expr_code.specs.FrameSetting.{FrameSetting, frame_setting}
use Rattle.c0_asm_body.specs.Code.{asm_code}
use Rattle.c0_asm_body.specs.Laws.{HoldInts, AsmRuns}
use Rattle.c0_stmt_code.specs.Code.{large_code, end_code, stack_test, body_code, function_code, first_facts}
use Rattle.c0_runs.proofs.FactsKept.{registers_forgotten}
use Rattle.c0_runs.specs.Setup.{Setup}
use Rattle.c0_runs.specs.Journey.{Led}
use Rattle.c0_runs.specs.Ahead.{Activation, Awaits, Ahead, AnswerIsLive, WaitingAreLive}
use Rattle.c0_runs.specs.Standing.{code_text, scope, bases, end_of, unit_scope, word_of_value, AreIn, Waiting, UnderWay, ConfigurationStands}
use Rattle.c0_runs.proofs.PremisesFromBelow.{HeldStays}
use Rattle.c0_stmt_code.proofs.PremisesOfFunctions.{AreInts}
use Rattle.c0_runs.proofs.RunStretches.{Stretch, on, of, away}
use Rattle.c0_runs.proofs.WorkAsCode.{front, back}
use Rattle.c0_runs.proofs.FunctionsUnderWay.{standing_at}
use Rattle.c0_runs.proofs.MemoryAccess.{read_is}
use Rattle.c0_runs.proofs.RegionsApart.{variables_same}
use Rattle.c0_runs.proofs.FrameMade.{tested}
use Rattle.c0_runs.proofs.FunctionReturns.{led}
use Rattle.c0_runs.proofs.CallActs.{stands_soft}
use Rattle.c0_runs.proofs.StepSimulation.{GoesOn, Path}

int_of_fits : (n : ℕ) → FitsSigned w32 (int_of n)
int_of_fits n = by_test (nat_lt n (2 ^ 31)) refl
  where
    by_test : (b : Bool) → nat_lt n (2 ^ 31) ≡ b → FitsSigned w32 (int_of n)
    by_test true e = rw e (record { sfits = let h = ltb-true n (2 ^ 31) e in omega (arith, h) })
    by_test false e = rw e (record { sfits = let h = ltb-false n (2 ^ 31) e in omega (arith, h) })

module _ (runs : RunLaws) (compose : RunsCompose) (W E : Type 0) (Outer : W → Contents → Behind → Type 0) (z : Setup W E Outer) (jumps : JumpsLead z.w) (straight : StraightRuns z.w)
    (held : HeldStays (shapes z.p.unit)) (asm_runs : AsmRuns z.w) where
  ints_hold : (objects : List Ty) (regs regs' : ℕ → ℕ) (r : ℕ) (ts : List Ty) (vs : Values) → AreInts ts → AllFit (shapes z.p.unit) (store_typing z.p.unit objects) ts vs → ((x : ℕ) → 20 ≤ x → regs' x ≡ regs x) → 20 ≤ r → AreIn (unit_scope z.p.unit) (bases W E Outer z objects []) regs r vs → HoldInts regs' r vs × (count vs ≡ length ts)
  ints_hold objects regs regs' r [] empty i f e le h = (tt, refl)
  ints_hold objects regs regs' r (t ∷ ts) (part (int a) vs) i f e le h =
      let next = ints_hold objects regs regs' (suc r) ts vs i.1 f.1 e (omega (arith, le)) h.1 in
      let fits : FitsSigned w32 a = subst (λ u. Fits (shapes z.p.unit) (store_typing z.p.unit objects) u (int a)) i.0 f.0 in
      let is : regs' r ≡ word_of a = e r le ∙ h.0 in
      let small = word_below a fits in
      let number = next.1 in
      ((is, omega (arith, is, small), subst (λ y. HoldInts regs' y vs) (omega arith) next.0), omega (arith, number))
    where
      word_below : (x : ℤ) → FitsSigned w32 x → word_of x < 2 ^ 32
      word_below x f = omega (arith, ints)
  ints_hold objects regs regs' r (t ∷ ts) (part (bool b) vs) i f e le h = absurd (subst (λ u. Fits (shapes z.p.unit) (store_typing z.p.unit objects) u (bool b)) i.0 f.0)
  ints_hold objects regs regs' r (t ∷ ts) (part null vs) i f e le h = absurd (subst (λ u. Fits (shapes z.p.unit) (store_typing z.p.unit objects) u null) i.0 f.0)
  ints_hold objects regs regs' r (t ∷ ts) (part (at l) vs) i f e le h = absurd (subst (λ u. Fits (shapes z.p.unit) (store_typing z.p.unit objects) u (at l)) i.0 f.0)
  ints_hold objects regs regs' r (t ∷ ts) (part (group ws) vs) i f e le h = absurd (subst (λ u. Fits (shapes z.p.unit) (store_typing z.p.unit objects) u (group ws)) i.0 f.0)
  ints_hold objects regs regs' r [] (part v vs) i f e le h = absurd f
  ints_hold objects regs regs' r (t ∷ ts) empty i f e le h = absurd f

  module _ (objects : List Ty) (gv hv : Value) (hw : ℕ) (fs : List Frame) (world : W) (calls : List (List E)) (answer : Option Value) (c : Contents) (d : Behind) (acts : List Activation)
      (st : ConfigurationStands W E Outer z objects (standing_at gv hv hw fs world calls answer) c d) (waits : Waiting W E Outer z objects c.memory acts fs) (at_end : c.regs 29 ≡ 4 * end_of W E Outer z fs)
      (n to debt : ℕ) (f : CFunction) (is : slice_get z.p.unit.functions n ≡ Some f) (args : Values) (target : Target) (work : List Work) (return_at : c.regs 31 ≡ 4 * to)
      (fits : AllFit (shapes z.p.unit) (store_typing z.p.unit objects) (types_of (map typed_of f.params)) args) (arguments : AreIn (unit_scope z.p.unit) (bases W E Outer z objects []) c.regs 20 args)
      (ahead : Awaits (code_text W E Outer z) acts to debt (ty_of f.answer) target work (λ others at left. Ahead (code_text W E Outer z) others at left work)) (live : AnswerIsLive acts target work (λ below. WaitingAreLive below work)) where
    abbrev sc : Scope
    sc = scope W E Outer z f

    abbrev here : Configuration W E
    here = standing_at gv hv hw fs world calls answer

    abbrev low : ℕ
    low = end_of W E Outer z fs

    abbrev its_setting : FrameSetting
    its_setting = frame_setting sc (first_facts sc (length f.params))

    -- the answer is handed over, and the caller goes on where it waits
    handed : (l m : ℕ) (cost : Cost) (h0 : Configuration W E) (s0 : CodeState) (v : Value) (t : Ty) (c' : Contents) → Path runs compose W E Outer z jumps l m s0 (at_with to c' d) → cost.own ≤ 2048 * l → m ≤ 30 * cost.own → length calls ≡ calls_ended h0
        → c'.memory ≡ c.memory → c'.special ≡ c.special → ((x : ℕ) → 28 ≤ x → c'.regs x ≡ c.regs x) → Fits (shapes z.p.unit) (store_typing z.p.unit objects) t v → c'.regs 2 ≡ word_of_value W E Outer z objects v → ty_of f.answer ≡ t
        → GoesOn W E Outer z debt h0 s0 (deliver cost target v work here)
    handed l m cost h0 s0 v t c' path low_paid high_paid en memory special high fits is2 types = by_target acts fs waits target work ahead live refl
      where
        st2 : ConfigurationStands W E Outer z objects here c' d
        st2 = stands_soft runs compose W E Outer z jumps objects here c c' d memory special (high 28 (omega arith)) (high 30 (omega arith)) st

        led_to : (h' : Configuration W E) → h'.calls ≡ calls → Led z.w cost.own debt debt h0 h' s0 (at_with to c' d)
        led_to h' e = let le = path.high in let ge = path.low in let n = ap length e in record { own = path.own; high = omega (arith, le, high_paid); low = omega (arith, ge, low_paid); ended_so = n ∙ en; run = path.run }

        by_target : (acts : List Activation) (frames : List Frame) → Waiting W E Outer z objects c.memory acts frames → (target : Target) (work : List Work) → Awaits (code_text W E Outer z) acts to debt (ty_of f.answer) target work (λ acts at left. Ahead (code_text W E Outer z) acts at left work) → AnswerIsLive acts target work (λ below. WaitingAreLive below work) → frames ≡ fs
            → GoesOn W E Outer z debt h0 s0 (deliver cost target v work here)
        by_target (b ∷ more) (q ∷ frames) w (into place rest) work ah lv e = (
          at_with to c' d,
          debt,
          led_to here refl,
          record {
            objects = objects;
            stands = st2;
            activations = b ∷ more;
            under_way = subst (λ y. UnderWay W E Outer z objects c' (b ∷ more) y) e (
              record {
                is = w.0.is;
                return_at = ap (λ y. if y then c'.memory (end_of W E Outer z frames) else c'.regs 31) w.0.calls ∙ ap (λ m. m (end_of W E Outer z frames)) memory ∙ w.0.return_at;
                frame_at = high 29 (omega arith) ∙ at_end ∙ ap (λ y. 4 * end_of W E Outer z y) (sym e) ∙ sym (ap (λ y. 4 * (if y then end_of W E Outer z frames else end_of W E Outer z (q ∷ frames))) w.0.in_frame);
                variables = variables_same W E Outer z held objects b.live c.memory c'.regs c.memory c'.memory b.function q frames true w.0.in_frame w.0.is (λ x le lt. ap (λ m. m x) memory) w.0.variables;
                registers = λ y. registers_forgotten (scope W E Outer z b.function) (bases W E Outer z objects (q ∷ frames)) b.facts c' w.0.forgotten;
                sure = w.0.sure;
              },
              subst (λ m. Waiting W E Outer z objects m more frames) (sym memory) w.1,
            );
            t = t;
            fits = fits;
            answer = is2;
            ahead = subst (λ y. Awaits (code_text W E Outer z) (b ∷ more) to debt y (into place rest) work (λ acts at left. Ahead (code_text W E Outer z) acts at left work)) types ah;
            live = lv;
          },
        )
        by_target [] [] w outward [] ah lv e = (
          at_with to c' d,
          debt,
          led_to (record here { answer = Some v }) refl,
          record {
            objects = objects;
            stands = record { typed = st2.typed; declared = st2.declared; used = st2.used; room = st2.room; stack_room = st2.stack_room; globals = st2.globals; heap = st2.heap; used_word = st2.used_word; heap_size = st2.heap_size; heap_first = st2.heap_first; stack_first = st2.stack_first; stack_limit = st2.stack_limit; globals_at = st2.globals_at; stack_end = st2.stack_end; outer = st2.outer; idle = st2.idle };
            no_frames = sym e;
            at = ah;
            value = v;
            is = refl;
            answer = is2;
          },
        )
        by_target [] [] w outward (i ∷ work) ah lv e = absurd ah
        by_target [] [] w (into place rest) work ah lv e = absurd ah
        by_target (b ∷ more) (q ∷ frames) w outward work ah lv e = absurd ah
        by_target [] (q ∷ frames) w target work ah lv e = absurd w
        by_target (b ∷ more) [] w target work ah lv e = absurd w

    test_some : 1 ≤ length (stack_test its_setting 1)
    test_some = omega (arith, length-append (large_code its_setting) (end_code 1 (4 * sc.frame) ++ (Sltu 1 30 1 ∷ Beq 1 0 1 ∷ J (sc.exit StackOut) ∷ [])), length-append (end_code 1 (4 * sc.frame)) (Sltu 1 30 1 ∷ Beq 1 0 1 ∷ J (sc.exit StackOut) ∷ []))

    pub enters_asm : (l m k : ℕ) (cost : Cost) (h0 : Configuration W E) (s0 : CodeState) (bytes : List ℕ) (span : Span) (words : List ℕ) → f.body ≡ asm bytes span words → AreInts (types_of (map typed_of f.params)) → length (types_of (map typed_of f.params)) ≤ 4 → length (types_of (map typed_of f.params)) ≡ length f.params
        → ty_of f.answer ≡ ty.int → IsTrue (are_allowed_words words)
        → Path runs compose W E Outer z jumps l m s0 (at_with k c d) → CodeAt z.w k (function_code sc (code_text W E Outer z).links f) → cost.own + 9 ≤ 2048 * (l + 1) → m ≤ 30 * cost.own → length calls ≡ calls_ended h0
        → GoesOn W E Outer z debt h0 s0 (call_function z.p cost n args target work here)
    enters_asm l m k cost h0 s0 bytes span words e ints_ few count_is result allowed path there low_paid high_paid en =
        subst (λ o. GoesOn W E Outer z debt h0 s0 (then_go (plus cost (units 1)) here (at_no_cost (ok_or o stuck)) (λ cost g. if nat_lt z.p.stack (stack_words z.p.unit fs + words_of_frame (shapes z.p.unit) g) then Stop cost (faulted StackOut) here else enter z.p cost n g.body args target work here))) (sym is)
        (elim (cases_Bool (nat_lt z.p.stack (stack_words z.p.unit fs + words_of_frame (shapes z.p.unit) f))) [
          | inl over ↦ subst (λ t. GoesOn W E Outer z debt h0 s0 t) (sym (cond-true (nat_lt z.p.stack (stack_words z.p.unit fs + words_of_frame (shapes z.p.unit) f)) (Stop cost2 (faulted StackOut) here) (enter z.p cost2 n f.body args target work here) over)) (fails (ltb-true z.p.stack (stack_words z.p.unit fs + words_of_frame (shapes z.p.unit) f) over))
          | inr fine ↦ subst (λ t. GoesOn W E Outer z debt h0 s0 t) (sym (cond-false (nat_lt z.p.stack (stack_words z.p.unit fs + words_of_frame (shapes z.p.unit) f)) (Stop cost2 (faulted StackOut) here) (enter z.p cost2 n f.body args target work here) fine))
              (subst (λ b. GoesOn W E Outer z debt h0 s0 (enter z.p cost2 n b args target work here)) (sym e) (goes (ltb-false z.p.stack (stack_words z.p.unit fs + words_of_frame (shapes z.p.unit) f) fine)))
        ])
      where
        cost2 : Cost
        cost2 = plus (plus cost (units 1)) (units 0)

        code_at : CodeAt z.w k (stack_test its_setting 1 ++ (asm_code (length f.params) words ++ (Jr 31 ∷ [])))
        code_at = subst (CodeAt z.w k) (ap (λ b. body_code sc (code_text W E Outer z).links (length f.params) b) e) there

        test_at : CodeAt z.w k (stack_test its_setting 1)
        test_at = front z.w k (stack_test its_setting 1) (asm_code (length f.params) words ++ (Jr 31 ∷ [])) code_at

        fails : z.p.stack < stack_words z.p.unit fs + words_of_frame (shapes z.p.unit) f → GoesOn W E Outer z debt h0 s0 (Stop cost2 (faulted StackOut) here)
        fails over =
            let sf = z.stack_fits in
            let sm = z.stack_small in
            let ws = z.sound.small in
            let sr = st.stack_room in
            let r = (tested compose z.w z.sound straight jumps its_setting low (z.a.stack + z.p.stack) 1 k c d st.idle (λ q. absurd (omega (arith, q))) (λ q. absurd (omega (arith, q))) at_end st.stack_end (omega (arith, sr)) (omega (arith, sf, ws)) (omega (arith, sm)) test_at).0 (omega (arith, over)) in
            let way = on runs z.w l m 0 7 s0 (at_with k c d) (at_with (sc.exit StackOut) r.0 d) path (of runs z.w 7 _ _ r.2) in
            let le = way.high in (
              at_with (sc.exit StackOut) r.0 d,
              record { own = way.own; high = omega (arith, le, high_paid); ended_so = omega (arith, en); run = way.run },
              record { objects = objects; stands = stands_soft runs compose W E Outer z jumps objects here c r.0 d r.1.memory r.1.special (r.1.others 28 (λ q. absurd (omega (arith, q))) (λ q. absurd (omega (arith, q)))) (r.1.others 30 (λ q. absurd (omega (arith, q))) (λ q. absurd (omega (arith, q)))) st; at = refl },
            )

        goes : stack_words z.p.unit fs + words_of_frame (shapes z.p.unit) f ≤ z.p.stack → GoesOn W E Outer z debt h0 s0 (deliver (plus cost2 (units (length words))) target (int (asm_result words args)) work here)
        goes fine =
            let sf = z.stack_fits in
            let sm = z.stack_small in
            let ws = z.sound.small in
            let sr = st.stack_room in
            let t = (tested compose z.w z.sound straight jumps its_setting low (z.a.stack + z.p.stack) 1 k c d st.idle (λ q. absurd (omega (arith, q))) (λ q. absurd (omega (arith, q))) at_end st.stack_end (omega (arith, sr)) (omega (arith, sf, ws)) (omega (arith, sm)) test_at).1 (omega (arith, fine)) in
            let k1 : ℕ = k + length (stack_test its_setting 1) in
            let rest_at = back z.w k (stack_test its_setting 1) (asm_code (length f.params) words ++ (Jr 31 ∷ [])) code_at in
            let hold = ints_hold objects c.regs t.0.regs 20 (types_of (map typed_of f.params)) args ints_ fits (λ x le. t.1.others x (λ q. absurd (omega (arith, q, le))) (λ q. absurd (omega (arith, q, le)))) (omega arith) arguments in
            let number : count args ≡ length f.params = hold.1 ∙ count_is in
            let body_at : CodeAt z.w k1 (asm_code (count args) words) = subst (λ q. CodeAt z.w k1 (asm_code q words)) (sym number) (front z.w k1 (asm_code (length f.params) words) (Jr 31 ∷ []) rest_at) in
            let held_count = hold.1 in
            let r = asm_runs words args k1 t.0 d allowed (omega (arith, held_count, few)) hold.0 body_at st.idle in
            let k2 : ℕ = k1 + length (asm_code (count args) words) in
            let last_at = subst (λ q. CodeAt z.w (k1 + length (asm_code q words)) (Jr 31 ∷ [])) (sym number) (back z.w k1 (asm_code (length f.params) words) (Jr 31 ∷ []) rest_at) in
            let keep : (x : ℕ) → 28 ≤ x → r.0.regs x ≡ c.regs x = λ x le. r.1.regs x (inr (omega (arith, le))) ∙ t.1.others x (λ q. absurd (omega (arith, q, le))) (λ q. absurd (omega (arith, q, le))) in
            let jump_back = led compose z.w z.sound straight jumps 31 k2 to r.0 d st.idle (read_is r.0.regs 31 (λ q. absurd (omega (arith, q))) ∙ keep 31 (omega arith) ∙ return_at) last_at.0 in
            let body_way : Stretch runs z.w (length words) (6 + length words) (at_with k1 t.0 d) (at_with k2 r.0 d) = record { own = r.2.steps; low = r.3; high = r.2.within; run = r.2.run } in
            let way1 = on runs z.w l m 1 5 s0 (at_with k c d) (at_with k1 t.0 d) path (away runs z.w 5 (at_with k c d) (at_with k1 t.0 d) (λ q. let ts = test_some in absurd (omega (arith, q, ts))) t.2) in
            let way2 = on runs z.w (l + 1) (m + 5) (length words) (6 + length words) s0 (at_with k1 t.0 d) (at_with k2 r.0 d) way1 body_way in
            let way3 = on runs z.w (l + 1 + length words) (m + 5 + (6 + length words)) 0 1 s0 (at_with k2 r.0 d) (at_with to r.0 d) way2 (of runs z.w 1 _ _ jump_back) in
            handed (l + 1 + length words + 0) (m + 5 + (6 + length words) + 1) (plus cost2 (units (length words))) h0 s0 (int (asm_result words args)) ty.int r.0 way3 (omega (arith, low_paid)) (omega (arith, high_paid)) (omega (arith, en))
            (r.1.memory ∙ t.1.memory) (r.1.special ∙ t.1.special) keep (int_of_fits _) r.1.answer result
