-- What a unit means doesn't depend on spans in its source: each step of it is that of the unit without spans.
use Rattle.std.proofs.Common.{◌≡◌, ℕ, zero, suc, ◌+◌, List, [], ◌∷◌, map, length, Bool, true, false, nat_lt, Option, Some, None, refl, ap, ap₂, ◌∙◌}
use Rattle.std.specs.Prelude.{ℤ, ◌==◌, if◌then◌else◌, Ok, Err, ok_or, slice_get, position, option_map, unwrap_or, ◌&&◌, not, bytes_eq, codes}
use Rattle.std.specs.List.{prefix_len}
use Rattle.c0_tree.specs.declared.tree.Kind.{Kind}
use Rattle.c0_tree.specs.declared.tree.Kind.TheVariants.{Function, Primitive}
use Rattle.c0_tree.specs.Tree.{CTy, CExpr, num, true_, false_, null, var, field, arrow, index, deref, address, unary, binary, CStmt, assign, call, new, choice, loop, CStmts, done, next, CDecl, CStruct, CBody, code, asm, CFunction, CUnit}
use Rattle.c0_tree.specs.Tree as tree
use Rattle.c0_meaning.specs.Ty.{Ty, ty_of, int, same_ty}
use Rattle.c0_meaning.specs.Ty as types
use Rattle.c0_meaning.specs.Env.{Typed, Shape, typed_of, shape_of}
use Rattle.c0_meaning.specs.Words.{words, all_words}
use Rattle.c0_meaning.specs.Sound.{shapes}
use Rattle.c0_meaning.specs.Limits.{words_of_frame, locals_of, is_asm, are_three_ints, is_dispatch, is_main, first_number}
use Rattle.c0_meaning.specs.Operators.{on_unary, StackOut, faulted, stuck}
use Rattle.c0_meaning.specs.Value.{heap, Value, at, Values, group, part, empty, part_count, zero_of, zeros_of, followed_by}
use Rattle.c0_meaning.specs.Value as value
use Rattle.c0_meaning.specs.State.{C0State, Frame, first_state, stack_words, with_object, pushed}
use Rattle.c0_meaning.specs.Evaluation.{Costed, costs, paying, ◌>>=◌, at_no_cost, load_from, field_of, pointed, indexed, both_sides, truth, value_of, values_of, place_of}
use Rattle.c0_meaning.specs.World.{Setting, Cost, units, total, plus, Configuration, with_state, beginning}
use Rattle.c0_meaning.specs.Running.{Work, act_on, finish, again, leave, begin, Target, into, outward, Step, Go, Stop, push, then_go, store, deliver, enter, call_function, call_with, allocate, test_loop, act_statement, work_step}
use Rattle.c0_meaning.specs.Execution.{Outcome, NotYet, then_run, execute, run_within, call_first, dispatch}
use Rattle.c0_tree.specs.declared.primitive.Program.TheVariants.{User}
use Rattle.c0_meaning.specs.UserProgram.{trap, up_to, outcome_seen}
use Rattle.c0_meaning.specs.ProgramLaws.{ProgramsIgnoreSpans}
use Rattle.c0_meaning.specs.Bare.{bare_ty, bare_expr, bare_stmt, bare_stmts, bare_decl, bare_struct, bare_body, bare_function, bare, UnitsIgnoreSpans, DispatchesIgnoreSpans}

mutual
  value_bare : (e : CExpr) (s : C0State) → value_of (bare_expr e) s ≡ value_of e s
  value_bare (num x n) s = refl
  value_bare (true_ x) s = refl
  value_bare (false_ x) s = refl
  value_bare (null x) s = refl
  value_bare (var x) s = refl
  value_bare (field x e f) s = ap (λ r. paying 1 (load_from s (field_of f r))) (place_bare e s)
  value_bare (arrow x e f) s = ap (λ v. paying 1 (load_from s (field_of f (pointed v)))) (value_bare e s)
  value_bare (index x e i) s = ap₂ (λ r v. paying 1 (load_from s (indexed s r v))) (place_bare e s) (value_bare i s)
  value_bare (deref x e) s = ap (λ v. paying 1 (load_from s (pointed v))) (value_bare e s)
  value_bare (address x e) s = ap (λ r. paying 1 (r >>= λ l. at_no_cost (Ok (at l)))) (place_bare e s)
  value_bare (unary x op e) s = ap (λ v. paying 1 (v >>= λ v. at_no_cost (on_unary op v))) (value_bare e s)
  value_bare (binary x op a b) s = ap₂ (λ v w. paying 1 (both_sides op v w)) (value_bare a s) (value_bare b s)

  place_bare : (e : CExpr) (s : C0State) → place_of (bare_expr e) s ≡ place_of e s
  place_bare (var x) s = refl
  place_bare (field x e f) s = ap (λ r. paying 1 (field_of f r)) (place_bare e s)
  place_bare (arrow x e f) s = ap (λ v. paying 1 (field_of f (pointed v))) (value_bare e s)
  place_bare (index x e i) s = ap₂ (λ r v. paying 1 (indexed s r v)) (place_bare e s) (value_bare i s)
  place_bare (deref x e) s = ap (λ v. paying 1 (pointed v)) (value_bare e s)
  place_bare _ s = refl

values_bare : (es : List CExpr) (s : C0State) → values_of (map bare_expr es) s ≡ values_of es s
values_bare [] s = refl
values_bare (e ∷ es) s = ap₂ (λ v vs. v >>= λ x. vs >>= λ xs. at_no_cost (Ok (part x xs))) (value_bare e s) (values_bare es s)

truth_bare : (e : CExpr) (s : C0State) → truth (value_of (bare_expr e) s) ≡ truth (value_of e s)
truth_bare e s = ap truth (value_bare e s)

ty_bare : (t : CTy) → ty_of (bare_ty t) ≡ ty_of t
ty_bare tree.int = refl
ty_bare tree.bool = refl
ty_bare (tree.pointer t) = ap types.pointer (ty_bare t)
ty_bare (tree.named x) = refl
ty_bare (tree.array t n) = ap (λ t. types.array t n) (ty_bare t)

typed_bare : (d : CDecl) → typed_of (bare_decl d) ≡ typed_of d
typed_bare d = ap (λ (t : Ty). record { text = d.name.text; ty = t }) (ty_bare d.ty)

typeds_bare : (ds : List CDecl) → map typed_of (map bare_decl ds) ≡ map typed_of ds
typeds_bare [] = refl
typeds_bare (d ∷ ds) = ap₂ (λ x xs. x ∷ xs) (typed_bare d) (typeds_bare ds)

shapes_of : (ss : List CStruct) → map shape_of (map bare_struct ss) ≡ map shape_of ss
shapes_of [] = refl
shapes_of (s ∷ ss) = ap₂ (λ (x : List Typed) (xs : List Shape). record { text = s.name.text; fields = x } ∷ xs) (typeds_bare s.fields) (shapes_of ss)

shapes_bare : (u : CUnit) → shapes (bare u) ≡ shapes u
shapes_bare u = shapes_of u.structs

locals_bare : (b : CBody) → map typed_of (locals_of (bare_body b)) ≡ map typed_of (locals_of b)
locals_bare (code locals stmts answer) = typeds_bare locals
locals_bare (asm text span words) = refl

frame_bare : (structs : List Shape) (f : CFunction) → words_of_frame structs (bare_function f) ≡ words_of_frame structs f
frame_bare structs f = ap₂ (λ a b. all_words structs a + all_words structs b + 3) (typeds_bare f.params) (locals_bare f.body)

function_at : (fs : List CFunction) (n : ℕ) → slice_get (map bare_function fs) n ≡ option_map bare_function (slice_get fs n)
function_at [] n = refl
function_at (f ∷ fs) zero = refl
function_at (f ∷ fs) (suc n) = function_at fs n

frame_at : (structs : List Shape) (o : Option CFunction) → unwrap_or (option_map (words_of_frame structs) (option_map bare_function o)) 0 ≡ unwrap_or (option_map (words_of_frame structs) o) 0
frame_at structs None = refl
frame_at structs (Some f) = frame_bare structs f

stack_bare : (u : CUnit) (fs : List Frame) → stack_words (bare u) fs ≡ stack_words u fs
stack_bare u [] = refl
stack_bare u (f ∷ fs) =
    ap₂ (λ a b. a + b)
    (ap₂ (λ structs o. unwrap_or (option_map (words_of_frame structs) o) 0) (shapes_bare u) (function_at u.functions f.function) ∙ frame_at (shapes u) (slice_get u.functions f.function))
    (stack_bare u fs)

three_bare : (ds : List CDecl) → are_three_ints (map bare_decl ds) ≡ are_three_ints ds
three_bare (a ∷ b ∷ c ∷ []) = λ i. same_ty (ty_bare a.ty i) int && (same_ty (ty_bare b.ty i) int && same_ty (ty_bare c.ty i) int)
three_bare _ = refl

asm_bare : (b : CBody) → is_asm (bare_body b) ≡ is_asm b
asm_bare (code locals stmts answer) = refl
asm_bare (asm text span words) = refl

is_dispatch_bare : (f : CFunction) → is_dispatch (bare_function f) ≡ is_dispatch f
is_dispatch_bare f = λ i. bytes_eq f.name.text (codes "dispatch") && (three_bare f.params i && (same_ty (ty_bare f.answer i) int && not (asm_bare f.body i)))

prefix_bare : (fs : List CFunction) → prefix_len (λ f. not (is_dispatch f)) (map bare_function fs) ≡ prefix_len (λ f. not (is_dispatch f)) fs
prefix_bare [] = refl
prefix_bare (f ∷ fs) = ap₂ (λ b n. if b then 1 + n else 0) (ap not (is_dispatch_bare f)) (prefix_bare fs)

length_bare : (fs : List CFunction) → length (map bare_function fs) ≡ length fs
length_bare [] = refl
length_bare (f ∷ fs) = ap suc (length_bare fs)

position_bare : (fs : List CFunction) → position is_dispatch (map bare_function fs) ≡ position is_dispatch fs
position_bare fs = ap₂ (λ k n. if nat_lt k n then Some k else None) (prefix_bare fs) (length_bare fs)

-- work without spans
abbrev bare_target : Target → Target
bare_target (into place rest) = into (bare_expr place) (bare_stmts rest)
bare_target outward = outward

abbrev bare_work : Work → Work
bare_work (act_on s rest) = act_on (bare_stmt s) (bare_stmts rest)
bare_work (finish place v rest) = finish (bare_expr place) v (bare_stmts rest)
bare_work (again test body rest) = again (bare_expr test) (bare_stmts body) (bare_stmts rest)
bare_work (leave answer t) = leave (bare_expr answer) (bare_target t)
bare_work (begin n args) = begin n args

module _ (W E : Type 0) (p : Setting W E) where
  abbrev bared : Setting W E
  bared = record p { unit = bare p.unit }

  abbrev bare_step : Step W E → Step W E
  bare_step (Go k w d) = Go k (map bare_work w) d
  bare_step (Stop k f d) = Stop k f d

  then_bare : {A : Type 0} (cost : Cost) (c : Configuration W E) (e e' : Costed A) (f g : Cost → A → Step W E) → e' ≡ e → ((k : Cost) (x : A) → g k x ≡ bare_step (f k x)) → then_go cost c e' g ≡ bare_step (then_go cost c e f)
  then_bare cost c e e' f g same h = ap (λ x. then_go cost c x g) same ∙ by e
    where
      by : (e : Costed _) → then_go cost c e g ≡ bare_step (then_go cost c e f)
      by (costs n (Ok x)) = h (plus cost (units n)) x
      by (costs n (Err x)) = refl

  push_bare : (s : CStmts) (w : List Work) → push (bare_stmts s) (map bare_work w) ≡ map bare_work (push s w)
  push_bare done w = refl
  push_bare (next s rest) w = refl

  go_bare : (k : Cost) (s : CStmts) (w : List Work) (d : Configuration W E) → Go k (push (bare_stmts s) (map bare_work w)) d ≡ bare_step (Go k (push s w) d)
  go_bare k s w d = ap (λ v. Go k v d) (push_bare s w)

  store_bare : (cost : Cost) (place : CExpr) (v : Value) (rest : CStmts) (w : List Work) (c : Configuration W E) → store cost (bare_expr place) v (bare_stmts rest) (map bare_work w) c ≡ bare_step (store cost place v rest w c)
  store_bare cost place v rest w c = then_bare cost c (place_of place c.state) (place_of (bare_expr place) c.state) _ _ (place_bare place c.state) (λ k l. go_bare k rest w _)

  deliver_bare : (cost : Cost) (t : Target) (v : Value) (w : List Work) (c : Configuration W E) → deliver cost (bare_target t) v (map bare_work w) c ≡ bare_step (deliver cost t v w c)
  deliver_bare cost (into place rest) v w c = refl
  deliver_bare cost outward v w c = refl

  enter_bare : (cost : Cost) (n : ℕ) (b : CBody) (args : Values) (t : Target) (w : List Work) (c : Configuration W E) → enter bared cost n (bare_body b) args (bare_target t) (map bare_work w) c ≡ bare_step (enter p cost n b args t w c)
  enter_bare cost n (code locals stmts answer) args t w c =
      (λ i. Go (plus cost (units (all_words (shapes_bare p.unit i) (typeds_bare locals i)))) (push (bare_stmts stmts) (map bare_work (leave answer t ∷ w)))
      (with_state c (pushed (record { function = n; variables = group (followed_by args (zeros_of (shapes_bare p.unit i) (typeds_bare locals i))) }) c.state)))
      ∙ go_bare _ stmts (leave answer t ∷ w) _
  enter_bare cost n (asm text span words) args t w c = deliver_bare _ t _ w c

  either : (b : Bool) (x y x' y' : Step W E) → x' ≡ bare_step x → y' ≡ bare_step y → (if b then x' else y') ≡ bare_step (if b then x else y)
  either true x y x' y' h k = h
  either false x y x' y' h k = k

  abbrev entered : ℕ → Values → Target → List Work → Configuration W E → Cost → CFunction → Step W E
  entered n args t w c k f = if nat_lt p.stack (stack_words (bare p.unit) c.state.frames + words_of_frame (shapes (bare p.unit)) f) then Stop k (faulted StackOut) c else enter bared k n f.body args (bare_target t) (map bare_work w) c

  entered_bare : (n : ℕ) (args : Values) (t : Target) (w : List Work) (c : Configuration W E) (k : Cost) (f : CFunction) → entered n args t w c k (bare_function f)
      ≡ bare_step (if nat_lt p.stack (stack_words p.unit c.state.frames + words_of_frame (shapes p.unit) f) then Stop k (faulted StackOut) c else enter p k n f.body args t w c)
  entered_bare n args t w c k f =
      ap (λ m. if nat_lt p.stack m then Stop k (faulted StackOut) c else enter bared k n (bare_body f.body) args (bare_target t) (map bare_work w) c)
      (ap₂ (λ a b. a + b) (stack_bare p.unit c.state.frames) (ap (λ structs. words_of_frame structs (bare_function f)) (shapes_bare p.unit) ∙ frame_bare (shapes p.unit) f))
      ∙ either (nat_lt p.stack (stack_words p.unit c.state.frames + words_of_frame (shapes p.unit) f)) (Stop k (faulted StackOut) c) (enter p k n f.body args t w c) _ _ refl (enter_bare k n f.body args t w c)

  function_bare : (cost : Cost) (n : ℕ) (args : Values) (t : Target) (w : List Work) (c : Configuration W E) → call_function bared cost n args (bare_target t) (map bare_work w) c ≡ bare_step (call_function p cost n args t w c)
  function_bare cost n args t w c =
      ap (λ o. then_go (plus cost (units 1)) c (at_no_cost (ok_or o stuck)) (entered n args t w c)) (function_at p.unit.functions n) ∙ by (slice_get p.unit.functions n)
    where
      by : (o : Option CFunction) → then_go (plus cost (units 1)) c (at_no_cost (ok_or (option_map bare_function o) stuck)) (entered n args t w c)
          ≡ bare_step (then_go (plus cost (units 1)) c (at_no_cost (ok_or o stuck)) (λ k f. if nat_lt p.stack (stack_words p.unit c.state.frames + words_of_frame (shapes p.unit) f) then Stop k (faulted StackOut) c else enter p k n f.body args t w c))
      by None = refl
      by (Some f) = entered_bare n args t w c (plus (plus cost (units 1)) (units 0)) f

  call_bare : (cost : Cost) (kind : Kind) (n : ℕ) (args : Values) (t : Target) (w : List Work) (c : Configuration W E) → call_with bared cost kind n args (bare_target t) (map bare_work w) c ≡ bare_step (call_with p cost kind n args t w c)
  call_bare cost Function n args t w c = function_bare cost n args t w c
  call_bare cost Primitive n args t w c = deliver_bare _ t _ w _
  call_bare cost _ n args t w c = refl

  abbrev allocated : List Shape → Ty → Target → List Work → Configuration W E → Step W E
  allocated structs t target work c =
      if nat_lt p.heap (c.state.heap_words + words structs t) then deliver (units 1) target value.null work c
      else deliver (units (1 + words structs t)) target (at (record { region = heap; path = part_count c.state.heap_values ∷ [] })) work (with_state c (with_object (zero_of structs t) (words structs t) c.state))

  allocate_bare : (ty : CTy) (t : Target) (w : List Work) (c : Configuration W E) → allocate bared (ty_of (bare_ty ty)) (bare_target t) (map bare_work w) c ≡ bare_step (allocate p (ty_of ty) t w c)
  allocate_bare ty t w c =
      ap₂ (λ structs x. allocated structs x (bare_target t) (map bare_work w) c) (shapes_bare p.unit) (ty_bare ty)
      ∙ either (nat_lt p.heap (c.state.heap_words + words (shapes p.unit) (ty_of ty))) (deliver (units 1) t value.null w c)
      (deliver (units (1 + words (shapes p.unit) (ty_of ty))) t (at (record { region = heap; path = part_count c.state.heap_values ∷ [] })) w (with_state c (with_object (zero_of (shapes p.unit) (ty_of ty)) (words (shapes p.unit) (ty_of ty)) c.state)))
      _ _ (deliver_bare _ t _ w c) (deliver_bare _ t _ w _)

  loop_bare : (cost : Cost) (test : CExpr) (body rest : CStmts) (w : List Work) (c : Configuration W E) → test_loop cost (bare_expr test) (bare_stmts body) (bare_stmts rest) (map bare_work w) c ≡ bare_step (test_loop cost test body rest w c)
  loop_bare cost test body rest w c = then_bare cost c (truth (value_of test c.state)) (truth (value_of (bare_expr test) c.state)) _ _ (truth_bare test c.state) (λ k b. ap (λ v. Go k v c) (work_of b))
    where
      work_of : (b : Bool) → (if b then push (bare_stmts body) (map bare_work (again test body rest ∷ w)) else push (bare_stmts rest) (map bare_work w)) ≡ map bare_work (if b then push body (again test body rest ∷ w) else push rest w)
      work_of true = push_bare body (again test body rest ∷ w)
      work_of false = push_bare rest w

  statement_bare : (s : CStmt) (rest : CStmts) (w : List Work) (c : Configuration W E) → act_statement bared (bare_stmt s) (bare_stmts rest) (map bare_work w) c ≡ bare_step (act_statement p s rest w c)
  statement_bare (assign span place v) rest w c = then_bare (units 1) c (value_of v c.state) (value_of (bare_expr v) c.state) _ _ (value_bare v c.state) (λ k x. store_bare k place x rest w c)
  statement_bare (call span place cs f args) rest w c = then_bare (units 1) c (values_of args c.state) (values_of (map bare_expr args) c.state) _ _ (values_bare args c.state) (λ k vs. call_bare k f.kind f.number vs (into place rest) w c)
  statement_bare (new span place t ts) rest w c = allocate_bare t (into place rest) w c
  statement_bare (choice span test a b) rest w c = then_bare (units 1) c (truth (value_of test c.state)) (truth (value_of (bare_expr test) c.state)) _ _ (truth_bare test c.state) (λ k t. by k t)
    where
      by : (k : Cost) (t : Bool) → Go k (push (if t then bare_stmts a else bare_stmts b) (push (bare_stmts rest) (map bare_work w))) c ≡ bare_step (Go k (push (if t then a else b) (push rest w)) c)
      by k true = ap (λ v. Go k (push (bare_stmts a) v) c) (push_bare rest w) ∙ go_bare k a (push rest w) c
      by k false = ap (λ v. Go k (push (bare_stmts b) v) c) (push_bare rest w) ∙ go_bare k b (push rest w) c
  statement_bare (loop span test body) rest w c = loop_bare (units 2) test body rest w c

  act_bare : (item : Work) (w : List Work) (c : Configuration W E) → work_step bared (bare_work item) (map bare_work w) c ≡ bare_step (work_step p item w c)
  act_bare (act_on s rest) w c = statement_bare s rest w c
  act_bare (finish place v rest) w c = store_bare (units 0) place v rest w c
  act_bare (again test body rest) w c = loop_bare (units 1) test body rest w c
  act_bare (leave answer t) w c = then_bare (units 0) c (value_of answer c.state) (value_of (bare_expr answer) c.state) _ _ (value_bare answer c.state) (λ k v. deliver_bare k t v w _)
  act_bare (begin n args) w c = function_bare (units 0) n args outward w c

  after_bare : (limit : ℕ) (used : Cost) (c : Configuration W E) (f g : Cost → List Work → Configuration W E → Outcome W E) → ((k : Cost) (w : List Work) (d : Configuration W E) → g k (map bare_work w) d ≡ f k w d)
      → (x : Step W E) → then_run (bare_step x) limit used c g ≡ then_run x limit used c f
  after_bare limit used c f g h (Go k w d) = ap (λ o. if nat_lt limit (total (plus used k)) then NotYet used c else o) (h (plus used k) w d)
  after_bare limit used c f g h (Stop k x d) = refl

  run_bare : (s limit : ℕ) (used : Cost) (w : List Work) (c : Configuration W E) → execute bared s limit used (map bare_work w) c ≡ execute p s limit used w c
  run_bare zero limit used w c = refl
  run_bare (suc s) limit used [] c = refl
  run_bare (suc s) limit used (item ∷ w) c =
      ap (λ x. then_run x limit used c (execute bared s limit)) (act_bare item w c) ∙ after_bare limit used c (execute p s limit) (execute bared s limit) (λ k v d. run_bare s limit k v d) (work_step p item w c)

  pub dispatch_bare : (n : ℕ) (cause edata user : ℤ) (s : C0State) (world : W) → dispatch bared n cause edata user s world ≡ dispatch p n cause edata user s world
  dispatch_bare n cause edata user s world =
      ap (λ (o : Option ℕ). run_within bared n (begin (unwrap_or o 0) (part (value.int cause) (part (value.int edata) (part (value.int user) empty))) ∷ []) (beginning (record s { frames = [] }) world)) (position_bare p.unit.functions)
      ∙ run_bare (suc n) n (units 0) (begin (unwrap_or (position is_dispatch p.unit.functions) 0) (part (value.int cause) (part (value.int edata) (part (value.int user) empty))) ∷ []) _

  -- so a call of any function
  pub first_bare : (n number other : ℕ) (args : Values) (s : C0State) (world : W) → other ≡ number → call_first bared n other args s world ≡ call_first p n number args s world
  first_bare n number other args s world e =
      ap (λ k. run_within bared n (begin k args ∷ []) (beginning (record s { frames = [] }) world)) e ∙ run_bare (suc n) n (units 0) (begin number args ∷ []) _

names_bare : (ds : List CDecl) → map (λ d. d.name.text) (map bare_decl ds) ≡ map (λ d. d.name.text) ds
names_bare [] = refl
names_bare (d ∷ ds) = ap (λ l. d.name.text ∷ l) (names_bare ds)

is_main_bare : (f : CFunction) → is_main (bare_function f) ≡ is_main f
is_main_bare f =
    λ i. bytes_eq f.name.text (codes "main") && ((decls_bare f.params i == 0) && (same_ty (ty_bare f.answer i) int && not (asm_bare f.body i)))
  where
    decls_bare : (ds : List CDecl) → length (map bare_decl ds) ≡ length ds
    decls_bare [] = refl
    decls_bare (d ∷ ds) = ap suc (decls_bare ds)

main_prefix_bare : (fs : List CFunction) → prefix_len (λ f. not (is_main f)) (map bare_function fs) ≡ prefix_len (λ f. not (is_main f)) fs
main_prefix_bare [] = refl
main_prefix_bare (f ∷ fs) = ap₂ (λ b n. if b then 1 + n else 0) (ap not (is_main_bare f)) (main_prefix_bare fs)

main_bare : (fs : List CFunction) → position is_main (map bare_function fs) ≡ position is_main fs
main_bare fs = ap₂ (λ k n. if nat_lt k n then Some k else None) (main_prefix_bare fs) (length_bare fs)

pub units_ignore_spans : UnitsIgnoreSpans
units_ignore_spans = record {
  words = λ u. ap₂ (λ structs ds. all_words structs ds) (shapes_bare u) (typeds_bare u.globals);
  names = λ u. names_bare u.globals;
  first = λ u i. record { global_values = group (zeros_of (shapes_bare u i) (typeds_bare u.globals i)); heap_values = group empty; heap_words = 0; frames = [] };
}

pub dispatches_ignore_spans : (W E : Type 0) → DispatchesIgnoreSpans W E
dispatches_ignore_spans W E p n cause edata user s world = dispatch_bare W E p n cause edata user s world

pub programs_ignore_spans : ProgramsIgnoreSpans
programs_ignore_spans u answers n =
    ap (λ o. up_to answers (outcome_seen o))
    (ap (λ s. call_first (record { unit = bare u; heap = 1024; stack = 1024; meaning = trap }) n (first_number User (bare u)) empty s answers) (units_ignore_spans.first u)
    ∙ first_bare (List ℤ) ℤ (record { unit = u; heap = 1024; stack = 1024; meaning = trap }) n (first_number User u) (first_number User (bare u)) empty (first_state u) answers
    (ap (λ o. unwrap_or o 0) (main_bare u.functions)))
