-- A step from a typed state isn't stuck, and leads to a typed state; so a run does.
use Rattle.std.proofs.Common.{◌≡◌, ℕ, zero, suc, ◌+◌, ◌^◌, Bool, true, false, ◌&&◌, nat_lt, List, [], ◌∷◌, ◌++◌, length, map, Option, Some, refl, sym, ◌∙◌, subst, arith}
use Rattle.std.specs.Prelude.{IsTrue, slice_get, if◌then◌else◌, ok_or, Ok, Err}
use Rattle.std.specs.List.{All, list_all}
use Rattle.std.proofs.lemmas.Bool.{and_parts}
use Rattle.std.proofs.lemmas.List.Elements.{All-cons, All-tail}
use Rattle.c0_tree.specs.Primitives.{CPrimitive}
use Rattle.c0_tree.specs.Plain.{is_short, is_plain_expr, is_plain_stmt, is_plain_body, are_plain_stmts, stmts_length}
use Rattle.c0_tree.specs.Tree.{CName, CTy, CExpr, CStmt, assign, call, new, choice, loop, CStmts, done, next, CBody, code, asm, CFunction, CUnit}
use Rattle.c0_meaning.specs.Ty.{Ty, ty_of, same_ty}
use Rattle.c0_meaning.specs.Ty as ty
use Rattle.c0_meaning.specs.Env.{Env, Shape, Callee, callee_named, typed_of, scalar_ty}
use Rattle.c0_meaning.specs.DeclaredTypes.{type_faults, may_pass}
use Rattle.c0_meaning.specs.Expression.{is_local, resolved}
use Rattle.c0_meaning.specs.Limits.{locals_of, words_of_frame, is_asm}
use Rattle.c0_meaning.specs.Resolved.{resolved_type}
use Rattle.c0_meaning.specs.Rules.{AreGiven, IsTyped, an_assignment, a_call, an_object, a_choice, a_loop}
use Rattle.c0_meaning.specs.Sound.{shapes}
use Rattle.c0_meaning.specs.Statement.{numbered_callee, stmt_resolved, stmts_resolved}
use Rattle.c0_meaning.specs.Typed.{IsTypedUnit, IsTypedBody, IsDeclarable}
use Rattle.c0_meaning.specs.Unit.{IsWellFormed, resolved_body}
use Rattle.c0_meaning.specs.Words.{words}
use Rattle.c0_meaning.proofs.TypeEquality.{equal-same_ty}
use Rattle.c0_meaning.proofs.WellTypedUnits.{none_type, units_are_faultless}
use Rattle.c0_meaning.specs.Value.{Region, globals, heap, locals, Value, int, null, at, group, Values, followed_by, part_count, with_part, zero_of, zeros_of}
use Rattle.c0_meaning.specs.State.{Frame, C0State, write, stack_words}
use Rattle.c0_meaning.specs.Operators.{StackOut, faulted, stuck}
use Rattle.c0_meaning.specs.Evaluation.{Costed, costs, at_no_cost, truth, value_of, place_of, values_of}
use Rattle.c0_meaning.specs.AsmBody.{asm_result}
use Rattle.c0_meaning.specs.World.{Setting, Cost, units, plus, total, Configuration, call_cost, after_call, beginning}
use Rattle.c0_meaning.specs.Running.{Target, into, outward, Work, act_on, finish, again, leave, begin, Step, Go, Stop, push, then_go, store, deliver, enter, call_function, call_with, allocate, test_loop, act_statement, work_step}
use Rattle.c0_meaning.specs.Execution.{Outcome, Failed, NotYet, then_run, execute, call_first}
use Rattle.c0_meaning.specs.TypedState.{StoreTyping, types_of, Fits, AllFit, variable_types, IsTypedFrame, store_typing, IsTypedWith, AreDeclared, AnswersFit, IsSafeAt, RunIsSafe, AnswersTyped}
use Rattle.c0_meaning.proofs.TypesHaveWords.{zero_fits, zeros_fit}
use Rattle.c0_meaning.proofs.PartsFit.{fits_more, joined_fit}
use Rattle.c0_meaning.proofs.OperatorsInRange.{int_of_fits}
use Rattle.c0_meaning.proofs.SafeExpressions.{Good, SafeState, IsAt, given_good, place_good, values_good, bool_good}
use Rattle.c0_meaning.proofs.SafeStates.{RightValue, RightPlace, RightStatement, RightStatements, first_right, Calls, a_function, a_primitive, callee, callee_is, no_layout, scalar_everywhere, scalars_everywhere, right_function, variables_split, params_types, env_in, scene, written, objects_count, allocated}

-- work that is left to the function of the newest frame, above these frames: its statements and the values that they hold are typed, and
-- the first function answers a type
abbrev Awaits : (first : Ty) (primitives : List CPrimitive) (u : CUnit) → (CFunction → List Frame → Type 0) → Ty → Target → List Work → List Frame → Type 0
Awaits first primitives u goes t outward [] [] = t ≡ first
Awaits first primitives u goes t (into place rest) work (g ∷ fs) =
    (h : CFunction) × (slice_get u.functions g.function ≡ Some h) × RightPlace (env_in primitives u h) place t × RightStatements (env_in primitives u h) rest × goes h fs
Awaits first primitives u goes t _ work fs = ⊥

abbrev Goes : (first : Ty) (primitives : List CPrimitive) (u : CUnit) → StoreTyping → List Work → CFunction → List Frame → Type 0
Goes first primitives u layout [] f fs = ⊥
Goes first primitives u layout (act_on s rest ∷ work) f fs = RightStatement (env_in primitives u f) s × RightStatements (env_in primitives u f) rest × Goes first primitives u layout work f fs
Goes first primitives u layout (finish place v rest ∷ work) f fs =
    (t : Ty) × RightPlace (env_in primitives u f) place t × Fits (shapes u) layout t v × RightStatements (env_in primitives u f) rest × Goes first primitives u layout work f fs
Goes first primitives u layout (again test body rest ∷ work) f fs =
    RightValue (env_in primitives u f) test ty.bool × RightStatements (env_in primitives u f) body × RightStatements (env_in primitives u f) rest × Goes first primitives u layout work f fs
Goes first primitives u layout (leave answer target ∷ work) f fs =
    RightValue (env_in primitives u f) answer (ty_of f.answer) × Awaits first primitives u (λ h gs. Goes first primitives u layout work h gs) (ty_of f.answer) target work fs
Goes first primitives u layout (begin n args ∷ work) f fs = ⊥

-- what is left to do in a state with these frames
abbrev AtEnds : (first : Ty) → CUnit → StoreTyping → List Work → Type 0
AtEnds first u layout [] = Unit {0}
AtEnds first u layout (begin n args ∷ []) =
    (f : CFunction) × (slice_get u.functions n ≡ Some f) × AllFit (shapes u) layout (types_of (map typed_of f.params)) args × (ty_of f.answer ≡ first)
AtEnds first u layout _ = ⊥

abbrev Ready : (first : Ty) → List CPrimitive → CUnit → StoreTyping → List Work → List Frame → Type 0
Ready first primitives u layout work [] = AtEnds first u layout work
Ready first primitives u layout work (g ∷ fs) = (f : CFunction) × (slice_get u.functions g.function ≡ Some f) × Goes first primitives u layout work f fs

push_goes : (first : Ty) (primitives : List CPrimitive) (u : CUnit) (layout : StoreTyping) (f : CFunction) (fs : List Frame) (rest : CStmts) (work : List Work) → RightStatements (env_in primitives u f) rest → Goes first primitives u layout work f fs → Goes first primitives u layout (push rest work) f fs
push_goes first primitives u layout f fs done work h g = g
push_goes first primitives u layout f fs (next s rest) work h g = let r = first_right (env_in primitives u f) s rest h in (r.0, r.1, g)

-- values that work holds fit with more objects too
goes_more : (first : Ty) (primitives : List CPrimitive) (u : CUnit) (objects more : List Ty) (work : List Work) (f : CFunction) (fs : List Frame) → Goes first primitives u (store_typing u objects) work f fs → Goes first primitives u (store_typing u (objects ++ more)) work f fs
goes_more first primitives u objects more [] f fs h = absurd h
goes_more first primitives u objects more (act_on s rest ∷ work) f fs h = (h.0, h.1, goes_more first primitives u objects more work f fs h.2)
goes_more first primitives u objects more (finish place v rest ∷ work) f fs h = (h.0, h.1, fits_more (shapes u) (store_typing u objects) more h.0 v h.2, h.3, goes_more first primitives u objects more work f fs h.4)
goes_more first primitives u objects more (again test body rest ∷ work) f fs h = (h.0, h.1, h.2, goes_more first primitives u objects more work f fs h.3)
goes_more first primitives u objects more (leave answer outward ∷ []) f [] h = h
goes_more first primitives u objects more (leave answer (into place rest) ∷ work) f (g ∷ fs) h = (h.0, (h.1.0, h.1.1, h.1.2, h.1.3, goes_more first primitives u objects more work h.1.0 fs h.1.4))
goes_more first primitives u objects more (leave answer outward ∷ []) f (g ∷ fs) h = absurd h.1
goes_more first primitives u objects more (leave answer outward ∷ item ∷ work) f fs h = absurd h.1
goes_more first primitives u objects more (leave answer (into place rest) ∷ work) f [] h = absurd h.1
goes_more first primitives u objects more (begin n args ∷ work) f fs h = absurd h

-- and one type more
declared_more : (structs : List Shape) (objects : List Ty) (t : CTy) → IsDeclarable structs t → AreDeclared structs objects → AreDeclared structs (objects ++ ty_of t ∷ [])
declared_more structs [] t d a zero x e = let q : ty_of t ≡ x = cc in (t, q, d)
declared_more structs [] t d a (suc i) x e = cc
declared_more structs (y ∷ ys) t d a zero x e = a 0 x e
declared_more structs (y ∷ ys) t d a (suc i) x e = declared_more structs ys t d (λ j z q. a (suc j) z q) i x e

module _ (W E : Type 0) (primitives : List CPrimitive) (p : Setting W E) (is_right : W → Bool) (well : IsWellFormed primitives p.unit) (answers : AnswersFit is_right primitives p.meaning) (first : Ty) where
  -- where nothing is left to do, the first function has answered a value of its type
  abbrev Answered : List Ty → List Work → Option Value → Type 0
  Answered objects [] answer = (v : Value) × (answer ≡ Some v) × Fits (shapes p.unit) (store_typing p.unit objects) first v
  Answered objects (item ∷ work) answer = Unit {0}

  -- the function of the newest frame has something left to do
  unanswered : (objects : List Ty) (work : List Work) (f : CFunction) (fs : List Frame) (answer : Option Value) → Goes first primitives p.unit (store_typing p.unit objects) work f fs → Answered objects work answer
  unanswered objects [] f fs answer h = absurd h
  unanswered objects (item ∷ work) f fs answer h = tt

  -- a typed state, whose objects have types that may be declared
  abbrev Declared : List Ty → C0State → Type 0
  Declared objects s = IsTypedWith p.unit objects s × AreDeclared (shapes p.unit) objects

  -- a typed state, and work that is ready for it
  record Stays (work : List Work) (c : Configuration W E) : Type 0 where
    objects : List Ty
    answered : Answered objects work c.answer
    typed : Declared objects c.state
    ready : Ready first primitives p.unit (store_typing p.unit objects) work c.state.frames
    right : IsTrue (is_right c.world)

  abbrev SafeStep : Step W E → Type 0
  SafeStep (Go k w d) = Stays w d
  SafeStep (Stop k (faulted f) d) = IsSafeAt is_right p.unit d
  SafeStep (Stop k stuck d) = ⊥

  goes_safe : {A : Type 0} (P : A → Type 0) (k : Cost) (c : Configuration W E) (e : Costed A) (go : Cost → A → Step W E) → Good P e → IsSafeAt is_right p.unit c → ((j : Cost) (x : A) → P x → SafeStep (go j x)) → SafeStep (then_go k c e go)
  goes_safe P k c (costs n (Ok x)) go h s g = g (plus k (units n)) x h
  goes_safe P k c (costs n (Err (faulted f))) go h s g = s
  goes_safe P k c (costs n (Err stuck)) go h s g = absurd h

  either_safe : (b : Bool) (x y : Step W E) → SafeStep x → SafeStep y → SafeStep (if b then x else y)
  either_safe true x y h g = h
  either_safe false x y h g = g

  abbrev state_of : Value → Value → ℕ → List Frame → C0State
  state_of gv hv hw frames = record { global_values = gv; heap_values = hv; heap_words = hw; frames = frames }

  abbrev standing_at : Value → Value → ℕ → List Frame → W → List (List E) → Option Value → Configuration W E
  standing_at gv hv hw frames world calls answer = record { state = state_of gv hv hw frames; world = world; calls = calls; answer = answer }

  abbrev lay : List Ty → StoreTyping
  lay objects = store_typing p.unit objects

  abbrev WaitsFor : List Ty → Ty → Target → List Work → List Frame → Type 0
  WaitsFor objects t target work frames = Awaits first primitives p.unit (λ h gs. Goes first primitives p.unit (lay objects) work h gs) t target work frames

  delivered : (objects : List Ty) (gv hv : Value) (hw : ℕ) (frames : List Frame) (world : W) (calls : List (List E)) (answer : Option Value) (k : Cost) (t : Ty) (target : Target) (v : Value) (work : List Work)
      → Declared objects (state_of gv hv hw frames) → IsTrue (is_right world) → Fits (shapes p.unit) (lay objects) t v → WaitsFor objects t target work frames
      → SafeStep (deliver k target v work (standing_at gv hv hw frames world calls answer))
  delivered objects gv hv hw [] world calls answer k t outward v [] typed right fits h = record { objects = objects; answered = (v, refl, subst (λ s. Fits (shapes p.unit) (lay objects) s v) h fits); typed = typed; ready = tt; right = right }
  delivered objects gv hv hw (g ∷ fs) world calls answer k t (into place rest) v work typed right fits h =
      record { objects = objects; answered = tt; typed = typed; ready = (h.0, h.1, (t, h.2, fits, h.3, h.4)); right = right }
  delivered objects gv hv hw (g ∷ fs) world calls answer k t outward v [] typed right fits h = absurd h
  delivered objects gv hv hw frames world calls answer k t outward v (item ∷ work) typed right fits h = absurd h
  delivered objects gv hv hw [] world calls answer k t (into place rest) v work typed right fits h = absurd h

  typed_unit : IsTypedUnit primitives p.unit
  typed_unit = (units_are_faultless primitives p.unit).1 well.typed

  entered : (objects : List Ty) (gv hv : Value) (hw : ℕ) (frames : List Frame) (world : W) (calls : List (List E)) (answer : Option Value) (k : Cost) (n : ℕ) (h : CFunction) (args : Values) (target : Target) (work : List Work) (body : CBody) → h.body ≡ body
      → Declared objects (state_of gv hv hw frames) → IsTrue (is_right world) → slice_get p.unit.functions n ≡ Some h → AllFit (shapes p.unit) (lay objects) (types_of (map typed_of h.params)) args → WaitsFor objects (ty_of h.answer) target work frames
      → SafeStep (enter p k n body args target work (standing_at gv hv hw frames world calls answer))
  entered objects gv hv hw frames world calls answer k n h args target work (code ls stmts result) e typed right is fits waits =
      let r = right_function primitives p.unit n h well is in
      let env = env_in primitives p.unit h in
      let body : IsTypedBody env (ty_of h.answer) (code ls stmts result) = subst (IsTypedBody env (ty_of h.answer)) e r.typed.body in
      let settled : resolved_body env r.first (code ls stmts result) ≡ code ls stmts result = subst (λ b. resolved_body env r.first b ≡ b) e r.settled in
      let first_settled : stmts_resolved (resolved_type env.structs) env stmts ≡ stmts = cc in
      let second : resolved env result ≡ result = cc in
      let plain = plain_parts (is_short ls) (nat_lt (stmts_length stmts) (2 ^ 32)) (are_plain_stmts stmts) (is_plain_expr result) (subst (λ b. is_plain_body b ≡ true) e r.plain) in
      let zeros = zeros_fit p.unit.structs typed_unit.structs (lay objects) ls (subst (λ b. All (λ d. IsDeclarable (shapes p.unit) d.ty) (locals_of b)) e r.typed.signature.locals) in
      let both : AllFit (shapes p.unit) (lay objects) (variable_types h) (followed_by args (zeros_of (shapes p.unit) (map typed_of ls))) =
      subst (λ ts. AllFit (shapes p.unit) (lay objects) ts (followed_by args (zeros_of (shapes p.unit) (map typed_of ls)))) (sym (variables_split h))
      (subst (λ b. AllFit (shapes p.unit) (lay objects) (types_of (map typed_of h.params) ++ types_of (map typed_of (locals_of b))) (followed_by args (zeros_of (shapes p.unit) (map typed_of ls)))) (sym e)
      (joined_fit (shapes p.unit) (lay objects) (types_of (map typed_of h.params)) (types_of (map typed_of ls)) args (zeros_of (shapes p.unit) (map typed_of ls)) fits zeros)) in
      let goes = push_goes first primitives p.unit (lay objects) h frames stmts (leave result target ∷ work) (record { typed = body.0; settled = first_settled; plain = plain.0 })
      (record { given = body.1.value; settled = second; plain = plain.1 }, waits) in
      record {
        objects = objects;
        answered = unanswered objects (push stmts (leave result target ∷ work)) h frames answer goes;
        typed = (
          record {
            global_values = typed.0.global_values;
            heap_values = typed.0.heap_values;
            frames = All-cons (IsTypedFrame p.unit (lay objects)) (record { function = n; variables = group (followed_by args (zeros_of (shapes p.unit) (map typed_of ls))) }) frames (record { function = h; is = is; variables = both }) typed.0.frames;
          },
          typed.1,
        );
        ready = (h, is, goes);
        right = right;
      }
    where
      plain_parts : (a b c d : Bool) → (a && (b && (c && d))) ≡ true → (c ≡ true) × (d ≡ true)
      plain_parts true true c d h = and_parts c d h
      plain_parts false b c d h = absurd (cc)
      plain_parts true false c d h = absurd (cc)
  entered objects gv hv hw frames world calls answer k n h args target work (asm text span words) e typed right is fits waits =
      let r = right_function primitives p.unit n h well is in
      let passes : same_ty (ty_of h.answer) ty.int ≡ true = subst (λ b. may_pass (is_asm b) (ty_of h.answer) ≡ true) e r.typed.signature.answer_passes in
      delivered objects gv hv hw frames world calls answer (plus k (units (length words))) (ty_of h.answer) target (int (asm_result words args)) work typed right
      (subst (λ t. Fits (shapes p.unit) (lay objects) t (int (asm_result words args))) (sym (equal-same_ty (ty_of h.answer) ty.int passes)) (int_of_fits _)) waits

  called : (objects : List Ty) (gv hv : Value) (hw : ℕ) (frames : List Frame) (world : W) (calls : List (List E)) (answer : Option Value) (k : Cost) (n : ℕ) (h : CFunction) (args : Values) (target : Target) (work : List Work)
      → Declared objects (state_of gv hv hw frames) → IsTrue (is_right world) → slice_get p.unit.functions n ≡ Some h → AllFit (shapes p.unit) (lay objects) (types_of (map typed_of h.params)) args → WaitsFor objects (ty_of h.answer) target work frames
      → SafeStep (call_function p k n args target work (standing_at gv hv hw frames world calls answer))
  called objects gv hv hw frames world calls answer k n h args target work typed right is fits waits =
      goes_safe (λ x. x ≡ h) (plus k (units 1)) (standing_at gv hv hw frames world calls answer) (at_no_cost (ok_or (slice_get p.unit.functions n) stuck)) _
      (subst (λ o. Good (λ x. x ≡ h) (at_no_cost (ok_or o stuck))) (sym is) refl) ((objects, typed.0, typed.1), right)
      (λ j x q. subst (λ y. SafeStep (if nat_lt p.stack (stack_words p.unit frames + words_of_frame (shapes p.unit) y) then Stop j (faulted StackOut) (standing_at gv hv hw frames world calls answer) else enter p j n y.body args target work (standing_at gv hv hw frames world calls answer))) (sym q)
      (either_safe (nat_lt p.stack (stack_words p.unit frames + words_of_frame (shapes p.unit) h)) _ _ ((objects, typed.0, typed.1), right)
      (entered objects gv hv hw frames world calls answer j n h args target work h.body refl typed right is fits waits)))

  -- the work of the function of the newest frame
  module _ (objects : List Ty) (gv hv : Value) (hw : ℕ) (g : Frame) (fs : List Frame) (world : W) (calls : List (List E)) (answer : Option Value) (f : CFunction)
      (typed : Declared objects (state_of gv hv hw (g ∷ fs))) (right : IsTrue (is_right world)) (is : slice_get p.unit.functions g.function ≡ Some f) where
    abbrev here : Configuration W E
    here = standing_at gv hv hw (g ∷ fs) world calls answer

    abbrev env : Env
    env = env_in primitives p.unit f

    abbrev its : SafeState env (lay objects) (state_of gv hv hw (g ∷ fs))
    its = scene primitives p.unit objects gv hv hw g fs f typed.0 is

    safe_here : IsSafeAt is_right p.unit here
    safe_here = ((objects, typed.0, typed.1), right)

    abbrev Left : List Work → Type 0
    Left work = Goes first primitives p.unit (lay objects) work f fs

    written_ready : (r : Region) (path : List ℕ) (v : Value) (work : List Work) → Left work → Ready first primitives p.unit (lay objects) work (write (state_of gv hv hw (g ∷ fs)) (record { region = r; path = path }) v).frames
    written_ready globals path v work h = (f, is, h)
    written_ready heap path v work h = (f, is, h)
    written_ready locals path v work h = (f, is, h)

    stored : (k : Cost) (place : CExpr) (t : Ty) (v : Value) (rest : CStmts) (work : List Work) → RightPlace env place t → Fits (shapes p.unit) (lay objects) t v → RightStatements env rest → Left work → SafeStep (store k place v rest work here)
    stored k place t v rest work h fits more left =
        goes_safe (IsAt env (lay objects) (is_local env place) t) k here (place_of place here.state) _
        (place_good env (lay objects) here.state its place t h.left.typed h.left.place h.settled h.plain) safe_here
        (λ j l at_l. record {
          objects = objects;
          answered = unanswered objects (push rest work) f fs answer (push_goes first primitives p.unit (lay objects) f fs rest work more left);
          typed = (written primitives p.unit objects gv hv hw g fs f l.region l.path t v typed.0 is at_l.stands fits, typed.1);
          ready = written_ready l.region l.path v (push rest work) (push_goes first primitives p.unit (lay objects) f fs rest work more left);
          right = right;
        })

    -- work in front of what is left
    pushed_here : (rest : CStmts) (work : List Work) → RightStatements env rest → Left work → Stays (push rest work) here
    pushed_here rest work h left =
        let goes = push_goes first primitives p.unit (lay objects) f fs rest work h left in
        record { objects = objects; answered = unanswered objects (push rest work) f fs answer goes; typed = typed; ready = (f, is, goes); right = right }

    valued : (e : CExpr) (t : Ty) → RightValue env e t → Good (Fits (shapes p.unit) (lay objects) t) (value_of e here.state)
    valued e t h = given_good env (lay objects) here.state its e t h.given h.settled h.plain

    tested_true : (e : CExpr) → RightValue env e ty.bool → Good (λ b. Unit {0}) (truth (value_of e here.state))
    tested_true e h = bool_good env (lay objects) here.state its (value_of e here.state) (valued e ty.bool h)

    either_stays : (b : Bool) (x y : List Work) → Stays x here → Stays y here → Stays (if b then x else y) here
    either_stays true x y h k = h
    either_stays false x y h k = k

    looped : (k : Cost) (test : CExpr) (body rest : CStmts) (work : List Work) → RightValue env test ty.bool → RightStatements env body → RightStatements env rest → Left work → SafeStep (test_loop k test body rest work here)
    looped k test body rest work h b more left =
        goes_safe (λ b. Unit {0}) k here (truth (value_of test here.state)) _ (tested_true test h) safe_here
        (λ j x u. either_stays x (push body (again test body rest ∷ work)) (push rest work) (pushed_here body (again test body rest ∷ work) b (h, b, more, left)) (pushed_here rest work more left))

    -- a call
    performed : (place : CExpr) (function : CName) (args : List CExpr) (rest : CStmts) (work : List Work) (c : Callee) → callee_named env function.text ≡ Some c → numbered_callee function (callee_named env function.text) ≡ function
        → RightPlace env place c.answer → AreGiven env args c.params → map (resolved env) args ≡ args → list_all is_plain_expr args ≡ true → RightStatements env rest → Left work
        → SafeStep (then_go (units 1) here (values_of args here.state) (λ cost vs. call_with p cost function.kind function.number vs (into place rest) work here))
    performed place function args rest work c found named h given settled plain more left =
        let q = callee_is function (callee_named env function.text) c found named in
        goes_safe (AllFit (shapes p.unit) (lay objects) c.params) (units 1) here (values_of args here.state) _
        (values_good env (lay objects) here.state its args c.params given settled plain) safe_here
        (λ j vs fits. by_callee j vs fits q.0 q.1 (callee primitives p.unit (f.params ++ locals_of f.body) function.text c found))
      where
        by_callee : (j : Cost) (vs : Values) → AllFit (shapes p.unit) (lay objects) c.params vs → function.kind ≡ c.kind → function.number ≡ c.number → Calls primitives p.unit c → SafeStep (call_with p j function.kind function.number vs (into place rest) work here)
        by_callee j vs fits kind number (a_function x k n params result) =
            subst (λ kd. SafeStep (call_with p j kd function.number vs (into place rest) work here)) (sym (kind ∙ k))
            (called objects gv hv hw (g ∷ fs) world calls answer j function.number x vs (into place rest) work typed right (subst (λ m. slice_get p.unit.functions m ≡ Some x) (sym number) n)
            (subst (λ ts. AllFit (shapes p.unit) (lay objects) ts vs) (params ∙ params_types x.params) fits)
            (f, is, subst (RightPlace env place) result h, more, left))
        by_callee j vs fits kind number (a_primitive row k n params result) =
            let there = subst (λ m. slice_get primitives m ≡ Some row) (sym number) n in
            let bare = scalars_everywhere (shapes p.unit) [] (lay objects) no_layout row.args vs (subst (λ ts. AllFit (shapes p.unit) (lay objects) ts vs) params fits) in
            let r = p.meaning function.number vs world in
            subst (λ kd. SafeStep (call_with p j kd function.number vs (into place rest) work here)) (sym (kind ∙ k))
            (delivered objects gv hv hw (g ∷ fs) r.world (after_call here r).calls answer (plus j (call_cost r)) (scalar_ty row.answer) (into place rest) r.answer work typed (answers.world function.number row vs world there bare right)
            (scalar_everywhere [] (shapes p.unit) no_layout (lay objects) row.answer r.answer (answers.answer function.number row vs world there bare right))
            (f, is, subst (RightPlace env place) result h, more, left))

    -- an object
    made : (place : CExpr) (t : CTy) (rest : CStmts) (work : List Work) → RightPlace env place (ty.pointer (ty_of t)) → IsDeclarable (shapes p.unit) t → RightStatements env rest → Left work → SafeStep (allocate p (ty_of t) (into place rest) work here)
    made place t rest work h there more left =
        either_safe (nat_lt p.heap (hw + words (shapes p.unit) (ty_of t))) _ _
        (delivered objects gv hv hw (g ∷ fs) world calls answer (units 1) (ty.pointer (ty_of t)) (into place rest) null work typed right tt (f, is, h, more, left))
        (delivered (objects ++ ty_of t ∷ []) gv (with_part hv (zero_of (shapes p.unit) (ty_of t))) (hw + words (shapes p.unit) (ty_of t)) (g ∷ fs) world calls answer (units (1 + words (shapes p.unit) (ty_of t))) (ty.pointer (ty_of t)) (into place rest)
        (at (record { region = heap; path = part_count hv ∷ [] })) work
        (allocated primitives p.unit objects gv hv hw (hw + words (shapes p.unit) (ty_of t)) (g ∷ fs) (ty_of t) (zero_of (shapes p.unit) (ty_of t)) typed.0 (zero_fits p.unit.structs typed_unit.structs (lay (objects ++ ty_of t ∷ [])) t there.known), declared_more (shapes p.unit) objects t there typed.1) right
        (objects_count primitives p.unit objects hv (ty_of t) typed.0.heap_values)
        (f, is, h, more, goes_more first primitives p.unit objects (ty_of t ∷ []) work f fs left))

    stated : (s : CStmt) (rest : CStmts) (work : List Work) → RightStatement env s → RightStatements env rest → Left work → SafeStep (act_statement p s rest work here)
    stated (assign span place value) rest work h more left = by_rule h.typed h.settled h.plain
      where
        by_rule : IsTyped (type_faults env.structs) env (assign span place value) → stmt_resolved (resolved_type env.structs) env (assign span place value) ≡ assign span place value → is_plain_stmt (assign span place value) ≡ true → SafeStep (act_statement p (assign span place value) rest work here)
        by_rule (an_assignment {t = t} l v need) q c =
            let r : resolved env place ≡ place = cc in
            let w : resolved env value ≡ value = cc in
            let d = and_parts (is_plain_expr place) (is_plain_expr value) c in
            goes_safe (Fits (shapes p.unit) (lay objects) t) (units 1) here (value_of value here.state) _ (valued value t (record { given = v; settled = w; plain = d.1 })) safe_here
            (λ j x fits. stored j place t x rest work (record { left = l; settled = r; plain = d.0 }) fits more left)
    stated (call span place call_span function args) rest work h more left = by_rule h.typed h.settled h.plain
      where
        by_rule : IsTyped (type_faults env.structs) env (call span place call_span function args) → stmt_resolved (resolved_type env.structs) env (call span place call_span function args) ≡ call span place call_span function args → is_plain_stmt (call span place call_span function args) ≡ true → SafeStep (act_statement p (call span place call_span function args) rest work here)
        by_rule (a_call {c = callee_of_it} found l given need) q c =
            let r : resolved env place ≡ place = cc in
            let w : map (resolved env) args ≡ args = cc in
            let n : numbered_callee function (callee_named env function.text) ≡ function = cc in
            let d = and_parts (is_plain_expr place) (is_short args && list_all is_plain_expr args) c in
            performed place function args rest work callee_of_it found n (record { left = l; settled = r; plain = d.0 }) given w (and_parts (is_short args) (list_all is_plain_expr args) d.1).1 more left
    stated (new span place t ty_span) rest work h more left = by_rule h.typed h.settled h.plain
      where
        by_rule : IsTyped (type_faults env.structs) env (new span place t ty_span) → stmt_resolved (resolved_type env.structs) env (new span place t ty_span) ≡ new span place t ty_span → is_plain_stmt (new span place t ty_span) ≡ true → SafeStep (act_statement p (new span place t ty_span) rest work here)
        by_rule (an_object l declared need) q c =
            let r : resolved env place ≡ place = cc in
            made place t rest work (record { left = l; settled = r; plain = c }) (none_type (shapes p.unit) t ty_span declared) more left
    stated (choice span test a b) rest work h more left = by_rule h.typed h.settled h.plain
      where
        chosen : (z : Bool) → Stays (push a (push rest work)) here → Stays (push b (push rest work)) here → Stays (push (if z then a else b) (push rest work)) here
        chosen true x y = x
        chosen false x y = y

        by_rule : IsTyped (type_faults env.structs) env (choice span test a b) → stmt_resolved (resolved_type env.structs) env (choice span test a b) ≡ choice span test a b → is_plain_stmt (choice span test a b) ≡ true → SafeStep (act_statement p (choice span test a b) rest work here)
        by_rule (a_choice t x y) q c =
            let r : resolved env test ≡ test = cc in
            let v : stmts_resolved (resolved_type env.structs) env a ≡ a = cc in
            let w : stmts_resolved (resolved_type env.structs) env b ≡ b = cc in
            let d = and_parts (is_plain_expr test) _ c in
            let e = and_parts (nat_lt (stmts_length a) (2 ^ 32)) _ d.1 in
            let k = and_parts (nat_lt (stmts_length b) (2 ^ 32)) (are_plain_stmts a && are_plain_stmts b) e.1 in
            let l = and_parts (are_plain_stmts a) (are_plain_stmts b) k.1 in
            goes_safe (λ b. Unit {0}) (units 1) here (truth (value_of test here.state)) _ (tested_true test (record { given = t.value; settled = r; plain = d.0 })) safe_here
            (λ j z o. chosen z (pushed_here a (push rest work) (record { typed = x; settled = v; plain = l.0 }) (push_goes first primitives p.unit (lay objects) f fs rest work more left))
            (pushed_here b (push rest work) (record { typed = y; settled = w; plain = l.1 }) (push_goes first primitives p.unit (lay objects) f fs rest work more left)))
    stated (loop span test body) rest work h more left = by_rule h.typed h.settled h.plain
      where
        by_rule : IsTyped (type_faults env.structs) env (loop span test body) → stmt_resolved (resolved_type env.structs) env (loop span test body) ≡ loop span test body → is_plain_stmt (loop span test body) ≡ true → SafeStep (act_statement p (loop span test body) rest work here)
        by_rule (a_loop t x) q c =
            let r : resolved env test ≡ test = cc in
            let v : stmts_resolved (resolved_type env.structs) env body ≡ body = cc in
            let d = and_parts (is_plain_expr test) _ c in
            let e = and_parts (nat_lt (stmts_length body) (2 ^ 32)) (are_plain_stmts body) d.1 in
            looped (units 2) test body rest work (record { given = t.value; settled = r; plain = d.0 }) (record { typed = x; settled = v; plain = e.1 }) more left

    acts_here : (item : Work) (work : List Work) → Left (item ∷ work) → SafeStep (work_step p item work here)
    acts_here (act_on s rest) work h = stated s rest work h.0 h.1 h.2
    acts_here (finish place v rest) work h = stored (units 0) place h.0 v rest work h.1 h.2 h.3 h.4
    acts_here (again test body rest) work h = looped (units 1) test body rest work h.0 h.1 h.2 h.3
    acts_here (leave result target) work h =
        goes_safe (Fits (shapes p.unit) (lay objects) (ty_of f.answer)) (units 0) here (value_of result here.state) _ (valued result (ty_of f.answer) h.0) safe_here
        (λ j v fits. delivered objects gv hv hw fs world calls answer j (ty_of f.answer) target v work
        (record { global_values = typed.0.global_values; heap_values = typed.0.heap_values; frames = All-tail (IsTypedFrame p.unit (lay objects)) g fs typed.0.frames }, typed.1) right fits h.1)
    acts_here (begin n args) work h = absurd h

  acts_in : (objects : List Ty) (gv hv : Value) (hw : ℕ) (frames : List Frame) (world : W) (calls : List (List E)) (answer : Option Value) (item : Work) (work : List Work)
      → Declared objects (state_of gv hv hw frames) → IsTrue (is_right world) → Ready first primitives p.unit (lay objects) (item ∷ work) frames → SafeStep (work_step p item work (standing_at gv hv hw frames world calls answer))
  acts_in objects gv hv hw (g ∷ fs) world calls answer item work typed right ready = acts_here objects gv hv hw g fs world calls answer ready.0 typed right ready.1 item work ready.2
  acts_in objects gv hv hw [] world calls answer (begin n args) [] typed right ready = called objects gv hv hw [] world calls answer (units 0) n ready.0 args outward [] typed right ready.1 ready.2 ready.3
  acts_in objects gv hv hw [] world calls answer (begin n args) (item ∷ work) typed right ready = absurd ready
  acts_in objects gv hv hw [] world calls answer (act_on s rest) work typed right ready = absurd ready
  acts_in objects gv hv hw [] world calls answer (finish place v rest) work typed right ready = absurd ready
  acts_in objects gv hv hw [] world calls answer (again test body rest) work typed right ready = absurd ready
  acts_in objects gv hv hw [] world calls answer (leave result target) work typed right ready = absurd ready

  acts_safe : (item : Work) (work : List Work) (c : Configuration W E) → Stays (item ∷ work) c → SafeStep (work_step p item work c)
  acts_safe item work c h = acts_in h.objects c.state.global_values c.state.heap_values c.state.heap_words c.state.frames c.world c.calls c.answer item work h.typed h.right h.ready

  stays_safe : (work : List Work) (c : Configuration W E) → Stays work c → IsSafeAt is_right p.unit c
  stays_safe work c h = ((h.objects, h.typed.0, h.typed.1), h.right)

  -- so is the end of a run, with an answer of that type where it is done
  abbrev Ends : Outcome W E → Type 0
  Ends o = RunIsSafe is_right p.unit o × AnswersTyped p.unit first o

  runs_on : (t : Step W E) (l : ℕ) (used : Cost) (c : Configuration W E) (go : Cost → List Work → Configuration W E → Outcome W E) → IsSafeAt is_right p.unit c → SafeStep t → ((k : Cost) (w : List Work) (d : Configuration W E) → Stays w d → Ends (go k w d)) → Ends (then_run t l used c go)
  runs_on (Go k w d) l used c go s h rest = by_test (nat_lt l (total (plus used k)))
    where
      by_test : (b : Bool) → Ends (if b then NotYet used c else go (plus used k) w d)
      by_test true = (s, tt)
      by_test false = rest (plus used k) w d h
  runs_on (Stop k (faulted x) d) l used c go s h rest = by_test (nat_lt l (total (plus used k)))
    where
      by_test : (b : Bool) → Ends (if b then NotYet used c else Failed (plus used k) (faulted x) d)
      by_test true = (s, tt)
      by_test false = (h, tt)
  runs_on (Stop k stuck d) l used c go s h rest = absurd h

  runs_safe : (steps l : ℕ) (used : Cost) (work : List Work) (c : Configuration W E) → Stays work c → Ends (execute p steps l used work c)
  runs_safe zero l used work c h = (stays_safe work c h, tt)
  runs_safe (suc steps) l used [] c h = (stays_safe [] c h, (h.objects, h.typed.0, h.answered))
  runs_safe (suc steps) l used (item ∷ work) c h = runs_on (work_step p item work c) l used c (execute p steps l) (stays_safe (item ∷ work) c h) (acts_safe item work c h) (λ k w d s. runs_safe steps l k w d s)

  no_frames : (layout : StoreTyping) → All (IsTypedFrame p.unit layout) []
  no_frames layout k d h = absurd (omega (arith, h))

  first_call_ends : (objects : List Ty) (n number : ℕ) (f : CFunction) (args : Values) (s : C0State) (world : W) → slice_get p.unit.functions number ≡ Some f → ty_of f.answer ≡ first → Declared objects s → AllFit (shapes p.unit) (lay objects) (types_of (map typed_of f.params)) args → IsTrue (is_right world) → Ends (call_first p n number args s world)
  first_call_ends objects n number f args s world is gives typed fits right =
      runs_safe (suc n) n (units 0) (begin number args ∷ []) (beginning (record s { frames = [] }) world)
      (record { objects = objects; answered = tt; typed = (record { global_values = typed.0.global_values; heap_values = typed.0.heap_values; frames = no_frames (lay objects) }, typed.1); ready = (f, is, fits, gives); right = right })

module _ (W E : Type 0) (primitives : List CPrimitive) (p : Setting W E) (is_right : W → Bool) (well : IsWellFormed primitives p.unit) (answers : AnswersFit is_right primitives p.meaning)
    (objects : List Ty) (n number : ℕ) (f : CFunction) (args : Values) (s : C0State) (world : W) (is : slice_get p.unit.functions number ≡ Some f) (typed : IsTypedWith p.unit objects s) (declared : AreDeclared (shapes p.unit) objects)
    (fits : AllFit (shapes p.unit) (store_typing p.unit objects) (types_of (map typed_of f.params)) args) (right : IsTrue (is_right world)) where
  pub first_call_safe : RunIsSafe is_right p.unit (call_first p n number args s world)
  first_call_safe = (first_call_ends W E primitives p is_right well answers (ty_of f.answer) objects n number f args s world is refl (typed, declared) fits right).0

  pub first_call_answers : AnswersTyped p.unit (ty_of f.answer) (call_first p n number args s world)
  first_call_answers = (first_call_ends W E primitives p is_right well answers (ty_of f.answer) objects n number f args s world is refl (typed, declared) fits right).1
