-- A function that has a frame is entered.
use Rattle.std.specs.Prelude.{map, slice_get, IsTrue, Some, not, ok_or, if◌then◌else◌, nat_lt, nat_le, ◌&&◌}
use Rattle.std.proofs.Common.{◌≡◌, ◌≢◌, inl, inr, ℕ, zero, suc, ◌+◌, ◌-◌, ◌*◌, ◌<◌, ◌≤◌, ◌⊎◌, Bool, true, false, Option, List, [], ◌∷◌, ◌++◌, length, refl, sym, ap, ◌∙◌, subst, arith, length-append}
use Rattle.std.proofs.lemmas.Bool.{cases_Bool, cond-true, cond-false, ltb-true, ltb-false, leb-true, and_parts}
use Rattle.mips_table.specs.declared.inst.Inst.{Inst}
use Rattle.mips_table.specs.declared.inst.Inst.TheVariants.{Sltu, Beq, J, Sw}
use Rattle.mips_table.specs.Code.{Contents, Behind, CodeState, at_with, Reaches, RunLaws, CodeAt}
use Rattle.masm.specs.Laws.{RunsCompose, JumpsLead, StraightRuns}
use Rattle.c0_tree.specs.Tree.{CExpr, CStmts, code, CDecl, CFunction}
use Rattle.c0_meaning.specs.Ty.{Ty, named, ty_of, is_scalar}
use Rattle.c0_meaning.specs.Env.{typed_of}
use Rattle.c0_meaning.specs.Limits.{words_of_frame, locals_of}
use Rattle.c0_meaning.specs.Words.{words, all_words, shape_fields}
use Rattle.c0_meaning.specs.Sound.{shapes}
use Rattle.c0_meaning.specs.Value.{Value, Values, empty, part, group, followed_by, zeros_of}
use Rattle.c0_meaning.specs.State.{Frame, stack_words, pushed}
use Rattle.c0_meaning.specs.Operators.{StackOut, faulted, stuck}
use Rattle.c0_meaning.specs.Evaluation.{at_no_cost}
use Rattle.c0_meaning.specs.World.{Cost, units, plus, Configuration, with_state, calls_ended}
use Rattle.c0_meaning.specs.Running.{Target, Work, leave, push, Go, Stop, then_go, enter, call_function}
use Rattle.c0_meaning.specs.TypedState.{types_of, AllFit, store_typing, IsTypedWith, variable_types}
use Rattle.c0_typed.specs.Leaf.{are_calling, are_free_of_calls, calls_in, is_leaf}
use Rattle.c0_expr_code.specs.Scope.{Scope}
use Rattle.c0_meaning.specs.Sizes.{words_before}
use Rattle.c0_expr_code.specs.declared.facts.Facts.{Facts}
use Rattle.c0_expr_code.specs.Facts.{SureHold}
use Rattle.c0_expr_code.specs.FrameSetting.{FrameSetting, frame_setting}
use Rattle.c0_expr_runs.specs.Relation.{RegistersHold}
use Rattle.c0_runs.proofs.FactsBehind.{start_answer, start_params, start_sure, within_itself}
use Rattle.std.specs.List.{list_all}
use Rattle.c0_runs.proofs.RegisterFrames.{each_scalar, scalars_behind, clears, saves_light}
use Rattle.c0_expr_runs.specs.Bases.{Bases, words_of_all, locals_start, RegionHeld, LocalsHeld}
use Rattle.c0_stmt_code.specs.Code.{large_code, end_code, body_code, register_entry, clear_code, stack_test, save_code, params_code, locals_code, frame_entry, return_code, stmts_code, function_code, facts_behind_stmts, first_facts}
use Rattle.c0_runs.specs.Setup.{Setup}
use Rattle.c0_runs.specs.Ahead.{Activation, Awaits, Ahead, AnswerIsLive, WaitingAreLive}
use Rattle.c0_stmt_code.specs.Live.{are_scalar, is_cleared}
use Rattle.c0_runs.proofs.LiveAroundSteps.{AreLiveBehind}
use Rattle.c0_runs.proofs.FirstLive.{first_words, words_below, words_above, first_live, first_same, params_before}
use Rattle.c0_runs.specs.Standing.{code_text, scope, bases, end_of, unit_scope, AreIn, VariablesHeld, Waiting, FunctionRuns, ConfigurationStands}
use Rattle.c0_runs.proofs.PremisesFromBelow.{HeldStays, TypedStays}
use Rattle.c0_stmt_code.proofs.PremisesOfFunctions.{FunctionsAre, AllScalar}
use Rattle.c0_runs.proofs.RunStretches.{Stretch, on, of, away}
use Rattle.c0_runs.proofs.WorkAsCode.{Goes, or_right, front, back, block_of}
use Rattle.c0_runs.proofs.ValuesStay.{word_same}
use Rattle.c0_runs.proofs.FunctionsUnderWay.{rest_of, state_of, standing_at}
use Rattle.c0_runs.proofs.RegionsApart.{frame_words, frame_on, words_by_types, waiting_same}
use Rattle.c0_runs.proofs.VariablesBegin.{zeros_zero, zeros_held, joined_held, scalars_words, args_held}
use Rattle.c0_runs.proofs.FrameMade.{tested}
use Rattle.c0_runs.proofs.WholeBegin.{frames}
use Rattle.c0_runs.proofs.StepSimulation.{GoesOn, Path, arrives}

-- what is paid for an entry: a unit for the call, and one for each word of the locals
entry_price : (params locals most : ℕ) → params ≤ 8 → most ≤ 3 + 3 * params + 3 * locals + 3 → (locals ≡ 0 → most ≤ 1 + 3 * params) → most ≤ 25 + 30 * locals
entry_price params zero most few high none = let h = none refl in omega (arith, h, few)
entry_price params (suc locals) most few high none = omega (arith, high, few)

module _ (runs : RunLaws) (compose : RunsCompose) (W E : Type 0) (Outer : W → Contents → Behind → Type 0) (z : Setup W E Outer) (jumps : JumpsLead z.w) (straight : StraightRuns z.w)
    (held : HeldStays (shapes z.p.unit)) (typing : TypedStays z.p.unit) (functions : FunctionsAre z.table z.p.unit) (opened : (x : List ℕ) → words (shapes z.p.unit) (named x) ≡ words_of_all (shapes z.p.unit) (types_of (shape_fields (shapes z.p.unit) x))) where
  -- arguments stand in registers as every function's words
  are_in : (objects : List Ty) (frames : List Frame) (f : CFunction) (regs : ℕ → ℕ) (r : ℕ) (ts : List Ty) (vs : Values) → AllFit (shapes z.p.unit) (store_typing z.p.unit objects) ts vs → AreIn (unit_scope z.p.unit) (bases W E Outer z objects []) regs r vs
      → AreIn (scope W E Outer z f) (bases W E Outer z objects frames) regs r vs
  are_in objects frames f regs r [] empty k h = tt
  are_in objects frames f regs r (t ∷ ts) (part v vs) k h =
      (h.0 ∙ sym (word_same (shapes z.p.unit) (map typed_of z.p.unit.globals) z.a.globals z.a.heap objects objects (λ path t h. refl) (rest_of (unit_scope z.p.unit)) (rest_of (scope W E Outer z f)) (end_of W E Outer z []) (end_of W E Outer z frames) t v k.0), are_in objects frames f regs (suc r) ts vs k.1 h.1)
  are_in objects frames f regs r [] (part v vs) k h = absurd k
  are_in objects frames f regs r (t ∷ ts) empty k h = absurd k

  module _ (objects : List Ty) (gv hv : Value) (hw : ℕ) (fs : List Frame) (world : W) (calls : List (List E)) (answer : Option Value) (c : Contents) (d : Behind) (acts : List Activation)
      (st : ConfigurationStands W E Outer z objects (standing_at gv hv hw fs world calls answer) c d) (waits : Waiting W E Outer z objects c.memory acts fs) (at_end : c.regs 29 ≡ 4 * end_of W E Outer z fs)
      (n to debt : ℕ) (f : CFunction) (is : slice_get z.p.unit.functions n ≡ Some f) (args : Values) (target : Target) (work : List Work) (return_at : c.regs 31 ≡ 4 * to)
      (fits : AllFit (shapes z.p.unit) (store_typing z.p.unit objects) (types_of (map typed_of f.params)) args) (arguments : AreIn (unit_scope z.p.unit) (bases W E Outer z objects []) c.regs 20 args)
      (ahead : Awaits (code_text W E Outer z) acts to debt (ty_of f.answer) target work (λ others at left. Ahead (code_text W E Outer z) others at left work)) (live : AnswerIsLive acts target work (λ below. WaitingAreLive below work)) where
    abbrev sc : Scope
    sc = scope W E Outer z f

    abbrev here : Configuration W E
    here = standing_at gv hv hw fs world calls answer

    abbrev low : ℕ
    low = end_of W E Outer z fs

    -- what is known at its begin
    abbrev known_first : Facts
    known_first = first_facts sc (length f.params)

    abbrev its_setting : FrameSetting
    its_setting = frame_setting sc known_first

    nothing_sure : (v : Value) → SureHold known_first v
    nothing_sure v n y = absurd (start_sure sc.in_registers (length f.params) n y)

    -- the data stand while what is changed lies in the frame that begins
    stands_in : (h' : Configuration W E) (c' : Contents) → h'.state.global_values ≡ gv → IsTypedWith z.p.unit objects h'.state → (h'.state.heap_values ≡ hv) → (h'.state.heap_words ≡ hw) → (h'.world ≡ world) → stack_words z.p.unit h'.state.frames ≤ z.p.stack
        → ((x : ℕ) → (x < low) ⊎ (z.a.stack + z.p.stack ≤ x) → c'.memory x ≡ c.memory x) → c'.special ≡ c.special → c'.regs 28 ≡ c.regs 28 → c'.regs 30 ≡ c.regs 30 → ConfigurationStands W E Outer z objects h' c' d
    stands_in h' c' eg typed eh ew eo room same special r28 r30 =
        let u = st.used in
        let o = st.room in
        let gf = z.globals_fit in
        let hf = z.heap_fits in
        let lo = z.low in
        let wt = words_by_types (shapes z.p.unit) (map typed_of z.p.unit.globals) in
        record {
          typed = typed;
          declared = st.declared;
          used = st.used ∙ sym ew;
          room = subst (λ y. y ≤ z.p.heap) (sym ew) st.room;
          stack_room = room;
          globals = subst (λ v. RegionHeld (unit_scope z.p.unit) (bases W E Outer z objects []) c'.memory z.a.globals (types_of (map typed_of z.p.unit.globals)) v) (sym eg)
              (held.same (unit_scope z.p.unit) (bases W E Outer z objects []) c.memory c'.memory z.a.globals (types_of (map typed_of z.p.unit.globals)) gv refl (λ x le lt. same x (inl (omega (arith, lt, wt, gf, hf)))) st.globals);
          heap = subst (λ v. RegionHeld (unit_scope z.p.unit) (bases W E Outer z objects []) c'.memory z.a.heap objects v) (sym eh)
              (held.same (unit_scope z.p.unit) (bases W E Outer z objects []) c.memory c'.memory z.a.heap objects hv refl (λ x le lt. same x (inl (omega (arith, lt, u, o, hf)))) st.heap);
          used_word = same 1026 (inl (omega (arith, lo, gf, hf))) ∙ st.used_word ∙ sym ew;
          heap_size = same 1027 (inl (omega (arith, lo, gf, hf))) ∙ st.heap_size;
          heap_first = same 1028 (inl (omega (arith, lo, gf, hf))) ∙ st.heap_first;
          stack_first = same 1029 (inl (omega (arith, lo, gf, hf))) ∙ st.stack_first;
          stack_limit = same 1030 (inl (omega (arith, lo, gf, hf))) ∙ st.stack_limit;
          globals_at = r28 ∙ st.globals_at;
          stack_end = r30 ∙ st.stack_end;
          outer = subst (λ v. Outer v c' d) (sym eo) (z.outer_stays world c c' d (λ x no. elim (cases_Bool (nat_lt x low)) [
            | inl e ↦ same x (inl (ltb-true x low e))
            | inr e ↦ let ge = ltb-false x low e in elim (cases_Bool (nat_lt x (z.a.stack + z.p.stack))) [
              | inl l ↦ let lt = ltb-true x (z.a.stack + z.p.stack) l in absurd (no (inl (omega (arith, ge, gf, hf), lt)))
              | inr l ↦ same x (inr (let q = ltb-false x (z.a.stack + z.p.stack) l in omega (arith, q)))
            ]
          ]) special st.outer);
          idle = st.idle;
        }

    -- types of parameters and locals, one behind the other
    types_joined : (ds es : List CDecl) → types_of (map typed_of (ds ++ es)) ≡ types_of (map typed_of ds) ++ types_of (map typed_of es)
    types_joined [] es = refl
    types_joined (q ∷ ds) es = ap (λ ts. ty_of q.ty ∷ ts) (types_joined ds es)

    types_length : (ds : List CDecl) → length (types_of (map typed_of ds)) ≡ length ds
    types_length [] = refl
    types_length (q ∷ ds) = let e = types_length ds in omega (arith, e)

    -- the frame that begins
    abbrev frame_of : List CDecl → Frame
    frame_of locals = record { function = n; variables = group (followed_by args (zeros_of (shapes z.p.unit) (map typed_of locals))) }

    size : (locals : List CDecl) (stmts : CStmts) (result : CExpr) → f.body ≡ code locals stmts result → 3 + length f.params + all_words (shapes z.p.unit) (map typed_of locals) ≡ sc.frame
    size locals stmts result e =
        let ls : locals_of f.body ≡ locals = ap locals_of e in
        let l = ap (λ ds. all_words (shapes z.p.unit) (map typed_of ds)) ls in
        let ps = words_by_types (shapes z.p.unit) (map typed_of f.params) in
        let k = scalars_words sc (bases W E Outer z objects fs) (store_typing z.p.unit objects) opened c.memory (types_of (map typed_of f.params)) (functions.scalars n f is) in
        let t = types_length f.params in
        omega (arith, l, ps, k, t)

    -- the variables that are live at its begin
    abbrev its_live : List CDecl → CStmts → CExpr → ℕ → Bool
    its_live locals stmts result = first_live (length f.params) locals stmts result

    abbrev its_activation : List CDecl → CStmts → CExpr → Activation
    its_activation locals stmts result = record { function = f; to = to; live = its_live locals stmts result; facts = known_first }

    -- and so is all that what is left to do may read
    live_first : (locals : List CDecl) (stmts : CStmts) (result : CExpr) → AreLiveBehind (its_live locals stmts result) acts stmts (leave result target ∷ work)
    live_first locals stmts result = ((λ m q. or_right (nat_lt m (length f.params)) (is_cleared locals stmts result m) (or_right (not (are_scalar locals)) _ q)), live)

    variables_stand : (locals : List CDecl) (stmts : CStmts) (result : CExpr) (m : ℕ → ℕ) (regs : ℕ → ℕ) → f.body ≡ code locals stmts result → sc.in_registers ≡ false
        → ((j : ℕ) → j < length f.params → m (low + 3 + j) ≡ c.regs (20 + j)) → ((j : ℕ) → j < all_words (shapes z.p.unit) (map typed_of locals) → IsTrue (is_cleared locals stmts result (length f.params + j)) → m (low + 3 + length f.params + j) ≡ 0)
        → VariablesHeld W E Outer z objects (its_live locals stmts result) regs m f (frame_of locals ∷ fs)
    variables_stand locals stmts result m regs e form args_at zeros_at = by_form sc.in_registers form
      where
        by_form : (b : Bool) → b ≡ false → LocalsHeld sc (bases W E Outer z objects (frame_of locals ∷ fs)) (its_live locals stmts result) (if b then regs else m) (if b then 20 else (end_of W E Outer z (frame_of locals ∷ fs) - words_of_frame (shapes z.p.unit) f) + 3) (types_of sc.env.locals) (frame_of locals).variables
        by_form true q = absurd (cc)
        by_form false q =
            let on = frame_on z.p.unit (frame_of locals) fs f is in
            let sz = size locals stmts result e in
            let at : ℕ = (end_of W E Outer z (frame_of locals ∷ fs) - words_of_frame (shapes z.p.unit) f) + 3 in
            let b : Bases = bases W E Outer z objects (frame_of locals ∷ fs) in
            let k = scalars_words sc (bases W E Outer z objects fs) (store_typing z.p.unit objects) opened c.memory (types_of (map typed_of f.params)) (functions.scalars n f is) in
            let t = types_length f.params in
            let ls = words_by_types (shapes z.p.unit) (map typed_of locals) in
            let whole : ℕ → ℕ = first_words m (at + length f.params) in
            let first = args_held sc (bases W E Outer z objects (frame_of locals ∷ fs)) (store_typing z.p.unit objects) opened whole c.regs at 20 (types_of (map typed_of f.params)) args (functions.scalars n f is) fits
            (are_in objects (frame_of locals ∷ fs) f c.regs 20 (types_of (map typed_of f.params)) args fits arguments) (λ j lt. words_below m (at + length f.params) (at + j) (omega (arith, lt, t)) ∙ ap m (omega (arith, on)) ∙ args_at j (omega (arith, lt, t))) in
            let second = zeros_held sc (bases W E Outer z objects (frame_of locals ∷ fs)) (store_typing z.p.unit objects) opened whole (at + words_of_all (shapes z.p.unit) (types_of (map typed_of f.params))) (types_of (map typed_of locals)) (zeros_of (shapes z.p.unit) (map typed_of locals))
            (typing.zeros objects n f locals stmts result is e) (zeros_zero (shapes z.p.unit) (map typed_of locals)) (λ x le lt. words_above m (at + length f.params) x (omega (arith, le, k, t))) in
            let types : types_of (map typed_of f.params) ++ types_of (map typed_of locals) ≡ types_of sc.env.locals = sym (types_joined f.params (locals_of f.body) ∙ ap (λ ds. types_of (map typed_of f.params) ++ types_of (map typed_of ds)) (ap locals_of e)) in
            subst (λ ts. LocalsHeld sc (bases W E Outer z objects (frame_of locals ∷ fs)) (its_live locals stmts result) m at ts (frame_of locals).variables) types (record {
              whole = whole;
              held = joined_held sc (bases W E Outer z objects (frame_of locals ∷ fs)) (store_typing z.p.unit objects) opened whole at (types_of (map typed_of f.params)) (types_of (map typed_of locals)) args (zeros_of (shapes z.p.unit) (map typed_of locals)) first second;
              same = first_same (shapes z.p.unit) (types_of (map typed_of f.params)) (functions.scalars n f is) (length f.params) t locals stmts result m at
                  (λ j lt wants. ap m (omega (arith, on)) ∙ zeros_at j (omega (arith, lt, ls)) wants);
            })

    -- the parameters' words stand in their registers too
    params_known : (locals : List CDecl) (stmts : CStmts) (result : CExpr) (b : Contents) → f.body ≡ code locals stmts result → sc.in_registers ≡ false → ((j : ℕ) → j < length f.params → b.regs (20 + j) ≡ b.memory (low + 3 + j))
        → RegistersHold sc (bases W E Outer z objects (frame_of locals ∷ fs)) known_first b
    params_known locals stmts result b e form same = record {
      params = λ j y t there scalar. let lt = start_params sc.in_registers (length f.params) j y in same j lt ∙ ap b.memory (at_word j lt);
      answer = λ j y. absurd (start_answer sc.in_registers (length f.params) j y);
    }
      where
        at_word : (j : ℕ) → j < length f.params → low + 3 + j ≡ locals_start sc (bases W E Outer z objects (frame_of locals ∷ fs)) + words_before (shapes z.p.unit) (types_of sc.env.locals) j
        at_word j lt = by_form sc.in_registers form
          where
            by_form : (r : Bool) → r ≡ false → low + 3 + j ≡ (if r then 20 else (end_of W E Outer z (frame_of locals ∷ fs) - words_of_frame (shapes z.p.unit) f) + 3) + words_before (shapes z.p.unit) (types_of sc.env.locals) j
            by_form true q = absurd (cc)
            by_form false q =
                let on = frame_on z.p.unit (frame_of locals) fs f is in
                let t = types_length f.params in
                let split = types_joined f.params (locals_of f.body) in
                let before = ap (λ ts. words_before (shapes z.p.unit) ts j) split ∙ params_before (shapes z.p.unit) (types_of (map typed_of f.params)) (types_of (map typed_of (locals_of f.body))) j (functions.scalars n f is) (omega (arith, lt, t)) in
                omega (arith, on, before)

    abbrev its_entry : List CDecl → CStmts → CExpr → List Inst
    its_entry locals stmts result = save_code its_setting (are_calling stmts) ++ (params_code its_setting (length f.params) 0 ++ locals_code its_setting (is_cleared locals stmts result) (all_words (shapes z.p.unit) (map typed_of locals)) (length f.params))

    abbrev its_body : CStmts → CExpr → List Inst
    its_body stmts result = stmts_code sc known_first (code_text W E Outer z).links stmts ++ return_code sc (facts_behind_stmts sc known_first stmts) (are_calling stmts) result

    code_is : (locals : List CDecl) (stmts : CStmts) (result : CExpr) → f.body ≡ code locals stmts result → sc.in_registers ≡ false → function_code sc (code_text W E Outer z).links f ≡ (stack_test its_setting 29 ++ its_entry locals stmts result) ++ its_body stmts result
    code_is locals stmts result e form =
        ap (λ b. body_code sc (code_text W E Outer z).links (length f.params) b) e
        ∙ ap (λ is. is ++ its_body stmts result) (cond-false sc.in_registers (register_entry its_setting (is_cleared locals stmts result) (length f.params) (length locals) (are_calling stmts)) (frame_entry its_setting (is_cleared locals stmts result) (length f.params) (all_words (shapes z.p.unit) (map typed_of locals)) (are_calling stmts)) form)

    test_some : 1 ≤ length (stack_test its_setting 29)
    test_some = omega (arith, length-append (large_code its_setting) (end_code 29 (4 * sc.frame) ++ (Sltu 1 30 29 ∷ Beq 1 0 1 ∷ J (sc.exit StackOut) ∷ [])), length-append (end_code 29 (4 * sc.frame)) (Sltu 1 30 29 ∷ Beq 1 0 1 ∷ J (sc.exit StackOut) ∷ []))

    pub enters : (l m k : ℕ) (cost : Cost) (h0 : Configuration W E) (s0 : CodeState) (locals : List CDecl) (stmts : CStmts) (result : CExpr) → f.body ≡ code locals stmts result → sc.in_registers ≡ false
        → Path runs compose W E Outer z jumps l m s0 (at_with k c d) → CodeAt z.w k (function_code sc (code_text W E Outer z).links f) → cost.own + 9 ≤ 2048 * (l + 1) → m ≤ 30 * cost.own → length calls ≡ calls_ended h0
        → GoesOn W E Outer z debt h0 s0 (call_function z.p cost n args target work here)
    enters l m k cost h0 s0 locals stmts result e form path there low_paid high_paid en =
        subst (λ o. GoesOn W E Outer z debt h0 s0 (then_go (plus cost (units 1)) here (at_no_cost (ok_or o stuck)) (λ cost g. if nat_lt z.p.stack (stack_words z.p.unit fs + words_of_frame (shapes z.p.unit) g) then Stop cost (faulted StackOut) here else enter z.p cost n g.body args target work here))) (sym is)
        (elim (cases_Bool (nat_lt z.p.stack (stack_words z.p.unit fs + words_of_frame (shapes z.p.unit) f))) [
          | inl over ↦ subst (λ t. GoesOn W E Outer z debt h0 s0 t) (sym (cond-true (nat_lt z.p.stack (stack_words z.p.unit fs + words_of_frame (shapes z.p.unit) f)) (Stop cost2 (faulted StackOut) here) (enter z.p cost2 n f.body args target work here) over)) (fails (ltb-true z.p.stack (stack_words z.p.unit fs + words_of_frame (shapes z.p.unit) f) over))
          | inr fine ↦ subst (λ t. GoesOn W E Outer z debt h0 s0 t) (sym (cond-false (nat_lt z.p.stack (stack_words z.p.unit fs + words_of_frame (shapes z.p.unit) f)) (Stop cost2 (faulted StackOut) here) (enter z.p cost2 n f.body args target work here) fine))
              (subst (λ b. GoesOn W E Outer z debt h0 s0 (enter z.p cost2 n b args target work here)) (sym e) (goes (ltb-false z.p.stack (stack_words z.p.unit fs + words_of_frame (shapes z.p.unit) f) fine)))
        ])
      where
        cost2 : Cost
        cost2 = plus (plus cost (units 1)) (units 0)

        code_at : CodeAt z.w k ((stack_test its_setting 29 ++ its_entry locals stmts result) ++ its_body stmts result)
        code_at = subst (CodeAt z.w k) (code_is locals stmts result e form) there

        test_at : CodeAt z.w k (stack_test its_setting 29)
        test_at = front z.w k (stack_test its_setting 29) (its_entry locals stmts result) (front z.w k (stack_test its_setting 29 ++ its_entry locals stmts result) (its_body stmts result) code_at)

        fails : z.p.stack < stack_words z.p.unit fs + words_of_frame (shapes z.p.unit) f → GoesOn W E Outer z debt h0 s0 (Stop cost2 (faulted StackOut) here)
        fails over =
            let sf = z.stack_fits in
            let sm = z.stack_small in
            let ws = z.sound.small in
            let sr = st.stack_room in
            let r = (tested compose z.w z.sound straight jumps its_setting low (z.a.stack + z.p.stack) 29 k c d st.idle (λ q. absurd (omega (arith, q))) (λ q. absurd (omega (arith, q))) at_end st.stack_end (omega (arith, sr)) (omega (arith, sf, ws)) (omega (arith, sm)) test_at).0 (omega (arith, over)) in
            let way = on runs z.w l m 0 7 s0 (at_with k c d) (at_with (sc.exit StackOut) r.0 d) path (of runs z.w 7 _ _ r.2) in
            let le = way.high in (
              at_with (sc.exit StackOut) r.0 d,
              record { own = way.own; high = omega (arith, le, high_paid); ended_so = omega (arith, en); run = way.run },
              record { objects = objects; stands = stands_in here r.0 refl st.typed refl refl refl st.stack_room (λ x side. ap (λ m. m x) r.1.memory) r.1.special (r.1.others 28 (λ q. absurd (omega (arith, q))) (λ q. absurd (omega (arith, q)))) (r.1.others 30 (λ q. absurd (omega (arith, q))) (λ q. absurd (omega (arith, q)))); at = refl },
            )

        goes : stack_words z.p.unit fs + words_of_frame (shapes z.p.unit) f ≤ z.p.stack → GoesOn W E Outer z debt h0 s0 (Go (plus cost2 (units (all_words (shapes z.p.unit) (map typed_of locals)))) (push stmts (leave result target ∷ work)) (with_state here (pushed (frame_of locals) (state_of gv hv hw fs))))
        goes fine =
            let sf = z.stack_fits in
            let sm = z.stack_small in
            let ws = z.sound.small in
            let sr = st.stack_room in
            let gf = z.globals_fit in
            let hf = z.heap_fits in
            let sz = size locals stmts result e in
            let few = functions.few n f is in
            let on_frame = frame_on z.p.unit (frame_of locals) fs f is in
            let t = (tested compose z.w z.sound straight jumps its_setting low (z.a.stack + z.p.stack) 29 k c d st.idle (λ q. absurd (omega (arith, q))) (λ q. absurd (omega (arith, q))) at_end st.stack_end (omega (arith, sr)) (omega (arith, sf, ws)) (omega (arith, sm)) test_at).1 (omega (arith, fine)) in
            let c1 : Contents = t.0 in
            let k1 : ℕ = k + length (stack_test its_setting 29) in
            let entry_at = back z.w k (stack_test its_setting 29) (its_entry locals stmts result) (front z.w k (stack_test its_setting 29 ++ its_entry locals stmts result) (its_body stmts result) code_at) in
            let fr = frames compose z.w z.sound straight jumps runs its_setting (low + sc.frame) (omega arith) (omega (arith, fine, sf, ws)) (omega (arith, fine, sf)) (λ x ge lt. z.ours x (inl (omega (arith, ge, gf, hf), omega (arith, lt, fine)))) (are_calling stmts) (is_cleared locals stmts result) (length f.params) (all_words (shapes z.p.unit) (map typed_of locals)) k1 t.0 d st.idle sz few (t.1.is (λ q. absurd (omega (arith, q)))) entry_at in
            let c2 : Contents = fr.contents in
            let base : low + sc.frame - sc.frame ≡ low = omega arith in
            let kb : ℕ = k + length (stack_test its_setting 29 ++ its_entry locals stmts result) in
            let len : k1 + length (its_entry locals stmts result) ≡ kb = omega (arith, length-append (stack_test its_setting 29) (its_entry locals stmts result)) in
            let body_at = back z.w k (stack_test its_setting 29 ++ its_entry locals stmts result) (its_body stmts result) code_at in
            let regs : (x : ℕ) → x ≢ 1 → x ≢ 2 → x ≢ 29 → fr.contents.regs x ≡ c.regs x = λ x n1 n2 n29. fr.made.regs x n1 n2 ∙ t.1.others x n1 n29 in
            let memory : (x : ℕ) → (x < low) ⊎ (low + sc.frame ≤ x) → fr.contents.memory x ≡ c.memory x = λ x side. fr.made.others x (subst (λ y. (x < y) ⊎ (low + sc.frame ≤ x)) (sym base) side) ∙ ap (λ m. m x) t.1.memory in
            let st2 = stands_in (with_state here (pushed (frame_of locals) (state_of gv hv hw fs))) fr.contents refl (typing.entered objects (state_of gv hv hw fs) n f locals stmts result args is e st.typed fits) refl refl refl (omega (arith, on_frame, fine))
            (λ x side. elim side [ inl lt ↦ memory x (inl lt) | inr ge ↦ memory x (inr (omega (arith, ge, fine))) ]) (fr.made.special ∙ t.1.special) (regs 28 (λ q. absurd (omega (arith, q))) (λ q. absurd (omega (arith, q))) (λ q. absurd (omega (arith, q)))) (regs 30 (λ q. absurd (omega (arith, q))) (λ q. absurd (omega (arith, q))) (λ q. absurd (omega (arith, q)))) in
            let runs_new : FunctionRuns W E Outer z objects fr.contents (its_activation locals stmts result) (frame_of locals) fs = record {
              is = is;
              return_at = returns (are_calling stmts) (ap calls_in e) fr.contents (λ q. ap fr.contents.memory (sym base) ∙ fr.made.saved q ∙ t.1.others 31 (λ q. absurd (omega (arith, q))) (λ q. absurd (omega (arith, q))) ∙ return_at) (regs 31 (λ q. absurd (omega (arith, q))) (λ q. absurd (omega (arith, q))) (λ q. absurd (omega (arith, q))) ∙ return_at);
              frame_at = fr.made.regs 29 (λ q. absurd (omega (arith, q))) (λ q. absurd (omega (arith, q))) ∙ t.1.is (λ q. absurd (omega (arith, q))) ∙ omega (arith, on_frame) ∙ sym (ap (λ b. 4 * (if b then low else end_of W E Outer z (frame_of locals ∷ fs))) form);
              variables = variables_stand locals stmts result fr.contents.memory fr.contents.regs e form (λ i lt. ap fr.contents.memory (omega arith) ∙ fr.made.arguments i lt ∙ t.1.others (20 + i) (λ q. absurd (omega (arith, q))) (λ q. absurd (omega (arith, q, lt, few))))
                  (λ j lt wants. ap fr.contents.memory (omega arith) ∙ fr.made.zeros j lt wants);
              registers = λ q. params_known locals stmts result fr.contents e form (λ i lt. fr.made.regs (20 + i) (λ q. absurd (omega (arith, q))) (λ q. absurd (omega (arith, q))) ∙ sym (ap fr.contents.memory (omega arith) ∙ fr.made.arguments i lt));
              sure = nothing_sure (frame_of locals).variables;
            } in
            let waits2 = waiting_same W E Outer z held objects c.memory fr.contents.memory acts fs (λ x le lt. memory x (inl lt)) waits in
            let bodies = functions.typed n f locals stmts result is e in
            let count = functions.nodes n f locals stmts result is e in
            let calling : are_calling stmts ≡ calls_in f.body = sym (ap calls_in e) in
            let result_at = back z.w kb (stmts_code sc known_first (code_text W E Outer z).links stmts) (return_code sc (facts_behind_stmts sc known_first stmts) (are_calling stmts) result) body_at in
            let block = block_of (code_text W E Outer z) f (λ known at left. Goes (code_text W E Outer z) (its_activation locals stmts result) acts (leave result target ∷ work) known at left) stmts known_first kb 0 (kb + length (stmts_code sc known_first (code_text W E Outer z).links stmts)) debt debt bodies.0 (omega (arith, count)) (λ q. let w : true ≡ false = sym q ∙ form in absurd (cc)) (λ q. ap calls_in e ∙ q)
            (front z.w kb (stmts_code sc known_first (code_text W E Outer z).links stmts) (return_code sc (facts_behind_stmts sc known_first stmts) (are_calling stmts) result) body_at) refl (omega arith) (facts_behind_stmts sc known_first stmts) (within_itself (facts_behind_stmts sc known_first stmts))
            (record { test = bodies.1; few = omega (arith, count); code = subst (λ b. CodeAt z.w (kb + length (stmts_code sc known_first (code_text W E Outer z).links stmts)) (return_code sc (facts_behind_stmts sc known_first stmts) b result)) calling result_at }, ahead) in
            let way1 = on runs z.w l m 1 5 s0 (at_with k c d) (at_with k1 t.0 d) path (away runs z.w 5 (at_with k c d) (at_with k1 t.0 d) (λ q. let ts = test_some in absurd (omega (arith, q, ts))) t.2) in
            let way2 = on runs z.w (l + 1) (m + 5) fr.least fr.most s0 (at_with k1 t.0 d) (at_with kb fr.contents d) way1 (subst (λ y. Stretch runs z.w fr.least fr.most (at_with k1 t.0 d) (at_with y fr.contents d)) len fr.way) in
            let paid = fr.paid in
            let price : fr.most ≤ 25 + 30 * all_words (shapes z.p.unit) (map typed_of locals) = entry_price (length f.params) (all_words (shapes z.p.unit) (map typed_of locals)) fr.most few fr.few fr.none in
            arrives runs compose W E Outer z jumps (l + 1 + fr.least) (m + 5 + fr.most) debt debt (plus cost2 (units (all_words (shapes z.p.unit) (map typed_of locals)))) h0 (with_state here (pushed (frame_of locals) (state_of gv hv hw fs))) s0 kb fr.contents d objects
            (its_activation locals stmts result) acts stmts (leave result target ∷ work) way2 (omega (arith, paid, low_paid)) (omega (arith, high_paid, price)) (omega (arith, en)) st2 (runs_new, waits2) block (live_first locals stmts result)
          where
            returns : (b : Bool) → calls_in f.body ≡ b → (c2 : Contents) → (b ≡ true → c2.memory low ≡ 4 * to) → c2.regs 31 ≡ 4 * to → (if calls_in f.body then c2.memory low else c2.regs 31) ≡ 4 * to
            returns true q c2 h g = ap (λ b. if b then c2.memory low else c2.regs 31) q ∙ h refl
            returns false q c2 h g = ap (λ b. if b then c2.memory low else c2.regs 31) q ∙ g

    -- a function whose variables stand in registers
    abbrev light_entry : List CDecl → CStmts → CExpr → List Inst
    light_entry locals stmts result = (if are_calling stmts then Sw 31 29 0 ∷ [] else []) ++ clear_code (is_cleared locals stmts result) (length locals) (length f.params)

    light_code_is : (locals : List CDecl) (stmts : CStmts) (result : CExpr) → f.body ≡ code locals stmts result → sc.in_registers ≡ true → function_code sc (code_text W E Outer z).links f ≡ (stack_test its_setting 1 ++ light_entry locals stmts result) ++ its_body stmts result
    light_code_is locals stmts result e form =
        ap (λ b. body_code sc (code_text W E Outer z).links (length f.params) b) e
        ∙ ap (λ is. is ++ its_body stmts result) (cond-true sc.in_registers (register_entry its_setting (is_cleared locals stmts result) (length f.params) (length locals) (are_calling stmts)) (frame_entry its_setting (is_cleared locals stmts result) (length f.params) (all_words (shapes z.p.unit) (map typed_of locals)) (are_calling stmts)) form)

    light_test_some : 1 ≤ length (stack_test its_setting 1)
    light_test_some = omega (arith, length-append (large_code its_setting) (end_code 1 (4 * sc.frame) ++ (Sltu 1 30 1 ∷ Beq 1 0 1 ∷ J (sc.exit StackOut) ∷ [])), length-append (end_code 1 (4 * sc.frame)) (Sltu 1 30 1 ∷ Beq 1 0 1 ∷ J (sc.exit StackOut) ∷ []))

    -- what is known of its variables
    record IsLight (locals : List CDecl) (stmts : CStmts) : Type 0 where
      free : IsTrue (are_free_of_calls stmts)
      few : length f.params + length locals ≤ 8
      scalars : AllScalar (types_of (map typed_of locals))

    is_light : (locals : List CDecl) (stmts : CStmts) (result : CExpr) → f.body ≡ code locals stmts result → sc.in_registers ≡ true → IsLight locals stmts
    is_light locals stmts result e form =
        let one = and_parts (is_leaf f.body) (nat_le (length (variable_types f)) 8 && list_all is_scalar (variable_types f)) form in
        let two = and_parts (nat_le (length (variable_types f)) 8) (list_all is_scalar (variable_types f)) one.1 in
        let split : variable_types f ≡ types_of (map typed_of f.params) ++ types_of (map typed_of locals) = types_joined f.params (locals_of f.body) ∙ ap (λ ds. types_of (map typed_of f.params) ++ types_of (map typed_of ds)) (ap locals_of e) in
        let count = leb-true (length (variable_types f)) 8 two.0 in
        let l1 = types_length f.params in
        let l2 = types_length locals in
        let whole = ap length split ∙ length-append (types_of (map typed_of f.params)) (types_of (map typed_of locals)) in
        record {
          free = sym (ap is_leaf e) ∙ one.0;
          few = omega (arith, count, l1, l2, whole);
          scalars = scalars_behind (types_of (map typed_of f.params)) (types_of (map typed_of locals)) (subst AllScalar split (each_scalar (variable_types f) two.1));
        }

    light_variables : (locals : List CDecl) (stmts : CStmts) (result : CExpr) (regs m : ℕ → ℕ) → f.body ≡ code locals stmts result → sc.in_registers ≡ true → ((j : ℕ) → j < length f.params → regs (20 + j) ≡ c.regs (20 + j)) → ((j : ℕ) → j < length locals → IsTrue (is_cleared locals stmts result (length f.params + j)) → regs (20 + length f.params + j) ≡ 0)
        → VariablesHeld W E Outer z objects (its_live locals stmts result) regs m f (frame_of locals ∷ fs)
    light_variables locals stmts result regs m e form args_at zeros_at = by_form sc.in_registers form
      where
        by_form : (b : Bool) → b ≡ true → LocalsHeld sc (bases W E Outer z objects (frame_of locals ∷ fs)) (its_live locals stmts result) (if b then regs else m) (if b then 20 else (end_of W E Outer z (frame_of locals ∷ fs) - words_of_frame (shapes z.p.unit) f) + 3) (types_of sc.env.locals) (frame_of locals).variables
        by_form false q = absurd (cc)
        by_form true q =
            let k = scalars_words sc (bases W E Outer z objects fs) (store_typing z.p.unit objects) opened c.memory (types_of (map typed_of f.params)) (functions.scalars n f is) in
            let k2 = scalars_words sc (bases W E Outer z objects fs) (store_typing z.p.unit objects) opened c.memory (types_of (map typed_of locals)) (is_light locals stmts result e form).scalars in
            let t = types_length f.params in
            let t2 = types_length locals in
            let whole : ℕ → ℕ = first_words regs (20 + length f.params) in
            let first = args_held sc (bases W E Outer z objects (frame_of locals ∷ fs)) (store_typing z.p.unit objects) opened whole c.regs 20 20 (types_of (map typed_of f.params)) args (functions.scalars n f is) fits
            (are_in objects (frame_of locals ∷ fs) f c.regs 20 (types_of (map typed_of f.params)) args fits arguments) (λ j lt. words_below regs (20 + length f.params) (20 + j) (omega (arith, lt, t)) ∙ args_at j (omega (arith, lt, t))) in
            let second = zeros_held sc (bases W E Outer z objects (frame_of locals ∷ fs)) (store_typing z.p.unit objects) opened whole (20 + words_of_all (shapes z.p.unit) (types_of (map typed_of f.params))) (types_of (map typed_of locals)) (zeros_of (shapes z.p.unit) (map typed_of locals))
            (typing.zeros objects n f locals stmts result is e) (zeros_zero (shapes z.p.unit) (map typed_of locals)) (λ x le lt. words_above regs (20 + length f.params) x (omega (arith, le, k, t))) in
            let types : types_of (map typed_of f.params) ++ types_of (map typed_of locals) ≡ types_of sc.env.locals = sym (types_joined f.params (locals_of f.body) ∙ ap (λ ds. types_of (map typed_of f.params) ++ types_of (map typed_of ds)) (ap locals_of e)) in
            subst (λ ts. LocalsHeld sc (bases W E Outer z objects (frame_of locals ∷ fs)) (its_live locals stmts result) regs 20 ts (frame_of locals).variables) types (record {
              whole = whole;
              held = joined_held sc (bases W E Outer z objects (frame_of locals ∷ fs)) (store_typing z.p.unit objects) opened whole 20 (types_of (map typed_of f.params)) (types_of (map typed_of locals)) args (zeros_of (shapes z.p.unit) (map typed_of locals)) first second;
              same = first_same (shapes z.p.unit) (types_of (map typed_of f.params)) (functions.scalars n f is) (length f.params) t locals stmts result regs 20 (λ j lt wants. zeros_at j (omega (arith, lt, k2, t2)) wants);
            })

    pub enters_light : (l m k : ℕ) (cost : Cost) (h0 : Configuration W E) (s0 : CodeState) (locals : List CDecl) (stmts : CStmts) (result : CExpr) → f.body ≡ code locals stmts result → sc.in_registers ≡ true
        → Path runs compose W E Outer z jumps l m s0 (at_with k c d) → CodeAt z.w k (function_code sc (code_text W E Outer z).links f) → cost.own + 9 ≤ 2048 * (l + 1) → m ≤ 30 * cost.own → length calls ≡ calls_ended h0
        → GoesOn W E Outer z debt h0 s0 (call_function z.p cost n args target work here)
    enters_light l m k cost h0 s0 locals stmts result e form path there low_paid high_paid en =
        subst (λ o. GoesOn W E Outer z debt h0 s0 (then_go (plus cost (units 1)) here (at_no_cost (ok_or o stuck)) (λ cost g. if nat_lt z.p.stack (stack_words z.p.unit fs + words_of_frame (shapes z.p.unit) g) then Stop cost (faulted StackOut) here else enter z.p cost n g.body args target work here))) (sym is)
        (elim (cases_Bool (nat_lt z.p.stack (stack_words z.p.unit fs + words_of_frame (shapes z.p.unit) f))) [
          | inl over ↦ subst (λ t. GoesOn W E Outer z debt h0 s0 t) (sym (cond-true (nat_lt z.p.stack (stack_words z.p.unit fs + words_of_frame (shapes z.p.unit) f)) (Stop cost2 (faulted StackOut) here) (enter z.p cost2 n f.body args target work here) over)) (fails (ltb-true z.p.stack (stack_words z.p.unit fs + words_of_frame (shapes z.p.unit) f) over))
          | inr fine ↦ subst (λ t. GoesOn W E Outer z debt h0 s0 t) (sym (cond-false (nat_lt z.p.stack (stack_words z.p.unit fs + words_of_frame (shapes z.p.unit) f)) (Stop cost2 (faulted StackOut) here) (enter z.p cost2 n f.body args target work here) fine))
              (subst (λ b. GoesOn W E Outer z debt h0 s0 (enter z.p cost2 n b args target work here)) (sym e) (goes (ltb-false z.p.stack (stack_words z.p.unit fs + words_of_frame (shapes z.p.unit) f) fine)))
        ])
      where
        cost2 : Cost
        cost2 = plus (plus cost (units 1)) (units 0)

        code_at : CodeAt z.w k ((stack_test its_setting 1 ++ light_entry locals stmts result) ++ its_body stmts result)
        code_at = subst (CodeAt z.w k) (light_code_is locals stmts result e form) there

        test_at : CodeAt z.w k (stack_test its_setting 1)
        test_at = front z.w k (stack_test its_setting 1) (light_entry locals stmts result) (front z.w k (stack_test its_setting 1 ++ light_entry locals stmts result) (its_body stmts result) code_at)

        fails : z.p.stack < stack_words z.p.unit fs + words_of_frame (shapes z.p.unit) f → GoesOn W E Outer z debt h0 s0 (Stop cost2 (faulted StackOut) here)
        fails over =
            let sf = z.stack_fits in
            let sm = z.stack_small in
            let ws = z.sound.small in
            let sr = st.stack_room in
            let r = (tested compose z.w z.sound straight jumps its_setting low (z.a.stack + z.p.stack) 1 k c d st.idle (λ q. absurd (omega (arith, q))) (λ q. absurd (omega (arith, q))) at_end st.stack_end (omega (arith, sr)) (omega (arith, sf, ws)) (omega (arith, sm)) test_at).0 (omega (arith, over)) in
            let way = on runs z.w l m 0 7 s0 (at_with k c d) (at_with (sc.exit StackOut) r.0 d) path (of runs z.w 7 _ _ r.2) in
            let le = way.high in (
              at_with (sc.exit StackOut) r.0 d,
              record { own = way.own; high = omega (arith, le, high_paid); ended_so = omega (arith, en); run = way.run },
              record { objects = objects; stands = stands_in here r.0 refl st.typed refl refl refl st.stack_room (λ x side. ap (λ m. m x) r.1.memory) r.1.special (r.1.others 28 (λ q. absurd (omega (arith, q))) (λ q. absurd (omega (arith, q)))) (r.1.others 30 (λ q. absurd (omega (arith, q))) (λ q. absurd (omega (arith, q)))); at = refl },
            )

        goes : stack_words z.p.unit fs + words_of_frame (shapes z.p.unit) f ≤ z.p.stack → GoesOn W E Outer z debt h0 s0 (Go (plus cost2 (units (all_words (shapes z.p.unit) (map typed_of locals)))) (push stmts (leave result target ∷ work)) (with_state here (pushed (frame_of locals) (state_of gv hv hw fs))))
        goes fine =
            let sf = z.stack_fits in
            let sm = z.stack_small in
            let ws = z.sound.small in
            let sr = st.stack_room in
            let gf = z.globals_fit in
            let hf = z.heap_fits in
            let light = is_light locals stmts result e form in
            let few = light.few in
            let k2 = scalars_words sc (bases W E Outer z objects fs) (store_typing z.p.unit objects) opened c.memory (types_of (map typed_of locals)) light.scalars in
            let t2 = types_length locals in
            let w2 = words_by_types (shapes z.p.unit) (map typed_of locals) in
            let fw = frame_words z.p.unit f in
            let on_frame = frame_on z.p.unit (frame_of locals) fs f is in
            let t = (tested compose z.w z.sound straight jumps its_setting low (z.a.stack + z.p.stack) 1 k c d st.idle (λ q. absurd (omega (arith, q))) (λ q. absurd (omega (arith, q))) at_end st.stack_end (omega (arith, sr)) (omega (arith, sf, ws)) (omega (arith, sm)) test_at).1 (omega (arith, fine)) in
            let k1 : ℕ = k + length (stack_test its_setting 1) in
            let entry_at = back z.w k (stack_test its_setting 1) (light_entry locals stmts result) (front z.w k (stack_test its_setting 1 ++ light_entry locals stmts result) (its_body stmts result) code_at) in
            let save = saves_light compose z.w straight (are_calling stmts) low k1 t.0 d st.idle (t.1.others 29 (λ q. absurd (omega (arith, q))) (λ q. absurd (omega (arith, q))) ∙ at_end) (omega (arith, fine, sf, fw)) ws (z.ours low (inl (omega (arith, gf, hf), omega (arith, fine, fw)))) (front z.w k1 (if are_calling stmts then Sw 31 29 0 ∷ [] else []) (clear_code (is_cleared locals stmts result) (length locals) (length f.params)) entry_at) in
            let k15 : ℕ = k1 + length (if are_calling stmts then Sw 31 29 0 ∷ [] else []) in
            let clear = clears compose z.w straight (is_cleared locals stmts result) (length locals) (length f.params) k15 save.0 d st.idle few (back z.w k1 (if are_calling stmts then Sw 31 29 0 ∷ [] else []) (clear_code (is_cleared locals stmts result) (length locals) (length f.params)) entry_at) in
            let c2 : Contents = clear.0 in
            let kb : ℕ = k + length (stack_test its_setting 1 ++ light_entry locals stmts result) in
            let len : k15 + length (clear_code (is_cleared locals stmts result) (length locals) (length f.params)) ≡ kb = omega (arith, length-append (stack_test its_setting 1) (light_entry locals stmts result), length-append (if are_calling stmts then Sw 31 29 0 ∷ [] else []) (clear_code (is_cleared locals stmts result) (length locals) (length f.params))) in
            let body_at = back z.w k (stack_test its_setting 1 ++ light_entry locals stmts result) (its_body stmts result) code_at in
            let regs : (x : ℕ) → x ≢ 1 → (x < 20 + length f.params) ⊎ (20 + length f.params + length locals ≤ x) → clear.0.regs x ≡ c.regs x = λ x n1 side. clear.1.others x side ∙ ap (λ r. r x) save.1.regs ∙ t.1.others x n1 n1 in
            let high : (x : ℕ) → 28 ≤ x → clear.0.regs x ≡ c.regs x = λ x le. regs x (λ q. absurd (omega (arith, q, le))) (inr (omega (arith, le, few))) in
            let memory : (x : ℕ) → x ≢ low → clear.0.memory x ≡ c.memory x = λ x ne. ap (λ m. m x) clear.1.memory ∙ save.1.others x ne ∙ ap (λ m. m x) t.1.memory in
            let st2 = stands_in (with_state here (pushed (frame_of locals) (state_of gv hv hw fs))) clear.0 refl (typing.entered objects (state_of gv hv hw fs) n f locals stmts result args is e st.typed fits) refl refl refl (omega (arith, on_frame, fine))
            (λ x side. elim side [ inl lt ↦ memory x (λ q. absurd (omega (arith, q, lt))) | inr ge ↦ memory x (λ q. absurd (omega (arith, q, ge, fine, fw))) ]) (clear.1.special ∙ save.1.special ∙ t.1.special) (high 28 (omega arith)) (high 30 (omega arith)) in
            let runs_new : FunctionRuns W E Outer z objects clear.0 (its_activation locals stmts result) (frame_of locals) fs = record {
              is = is;
              return_at = light_returns (are_calling stmts) (ap calls_in e) clear.0 (λ q. ap (λ m. m low) clear.1.memory ∙ save.1.is q ∙ t.1.others 31 (λ q. absurd (omega (arith, q))) (λ q. absurd (omega (arith, q))) ∙ return_at) (high 31 (omega arith) ∙ return_at);
              frame_at = high 29 (omega arith) ∙ at_end ∙ sym (ap (λ b. 4 * (if b then low else end_of W E Outer z (frame_of locals ∷ fs))) form);
              variables = light_variables locals stmts result clear.0.regs clear.0.memory e form (λ i lt. regs (20 + i) (λ q. absurd (omega (arith, q))) (inl (omega (arith, lt)))) (λ j lt wants. clear.1.zeros j lt wants);
              registers = λ q. absurd (let w : true ≡ false = sym form ∙ q in cc);
              sure = nothing_sure (frame_of locals).variables;
            } in
            let waits2 = waiting_same W E Outer z held objects c.memory clear.0.memory acts fs (λ x le lt. memory x (λ q. absurd (omega (arith, q, lt)))) waits in
            let bodies = functions.typed n f locals stmts result is e in
            let count = functions.nodes n f locals stmts result is e in
            let calling : are_calling stmts ≡ calls_in f.body = sym (ap calls_in e) in
            let result_at = back z.w kb (stmts_code sc known_first (code_text W E Outer z).links stmts) (return_code sc (facts_behind_stmts sc known_first stmts) (are_calling stmts) result) body_at in
            let block = block_of (code_text W E Outer z) f (λ known at left. Goes (code_text W E Outer z) (its_activation locals stmts result) acts (leave result target ∷ work) known at left) stmts known_first kb 0 (kb + length (stmts_code sc known_first (code_text W E Outer z).links stmts)) debt debt bodies.0 (omega (arith, count)) (λ q. light.free) (λ q. ap calls_in e ∙ q)
            (front z.w kb (stmts_code sc known_first (code_text W E Outer z).links stmts) (return_code sc (facts_behind_stmts sc known_first stmts) (are_calling stmts) result) body_at) refl (omega arith) (facts_behind_stmts sc known_first stmts) (within_itself (facts_behind_stmts sc known_first stmts))
            (record { test = bodies.1; few = omega (arith, count); code = subst (λ b. CodeAt z.w (kb + length (stmts_code sc known_first (code_text W E Outer z).links stmts)) (return_code sc (facts_behind_stmts sc known_first stmts) b result)) calling result_at }, ahead) in
            let way1 = on runs z.w l m 1 5 s0 (at_with k c d) (at_with k1 t.0 d) path (away runs z.w 5 (at_with k c d) (at_with k1 t.0 d) (λ q. let ts = light_test_some in absurd (omega (arith, q, ts))) t.2) in
            let way2 = on runs z.w (l + 1) (m + 5) 0 1 s0 (at_with k1 t.0 d) (at_with k15 save.0 d) way1 (of runs z.w 1 _ _ save.2) in
            let way3 = on runs z.w (l + 1 + 0) (m + 5 + 1) 0 (length locals) s0 (at_with k15 save.0 d) (at_with kb clear.0 d) way2 (of runs z.w (length locals) _ _ (subst (λ y. Reaches z.w (length locals) (at_with k15 save.0 d) (at_with y clear.0 d)) len clear.2)) in
            arrives runs compose W E Outer z jumps (l + 1 + 0 + 0) (m + 5 + 1 + length locals) debt debt (plus cost2 (units (all_words (shapes z.p.unit) (map typed_of locals)))) h0 (with_state here (pushed (frame_of locals) (state_of gv hv hw fs))) s0 kb clear.0 d objects
            (its_activation locals stmts result) acts stmts (leave result target ∷ work) way3 (omega (arith, low_paid, few, k2, t2, w2)) (omega (arith, high_paid, few, k2, t2, w2)) (omega (arith, en)) st2 (runs_new, waits2) block (live_first locals stmts result)
          where
            light_returns : (b : Bool) → calls_in f.body ≡ b → (c2 : Contents) → (b ≡ true → c2.memory low ≡ 4 * to) → c2.regs 31 ≡ 4 * to → (if calls_in f.body then c2.memory low else c2.regs 31) ≡ 4 * to
            light_returns true q c2 h g = ap (λ b. if b then c2.memory low else c2.regs 31) q ∙ h refl
            light_returns false q c2 h g = ap (λ b. if b then c2.memory low else c2.regs 31) q ∙ g
