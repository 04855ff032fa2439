-- Code that calls allowed primitives alone keeps what each of their calls keeps: of the cost so far, and of where the run stands.
use Rattle.std.proofs.Common.{◌≡◌, ℕ, zero, suc, ◌+◌, ◌&&◌, List, [], ◌∷◌, Bool, true, false, nat_lt, refl, sym, subst}
use Rattle.std.specs.Prelude.{◌==◌, if◌then◌else◌, ℤ, Ok, Err, Option, Some, None, ok_or, option_and_then, slice_get}
use Rattle.std.specs.List.{list_all}
use Rattle.std.proofs.lemmas.Bool.{and_parts, and_from, eqb-true}
use Rattle.layer_map.specs.declared.params.Params.{Params}
use Rattle.c0_tree.specs.declared.primitive.Program.TheVariants.{Kernel}
use Rattle.c0_tree.specs.declared.tree.Kind.{Kind}
use Rattle.c0_tree.specs.declared.tree.Kind.TheVariants.{Function, Primitive}
use Rattle.c0_tree.specs.Tree.{CExpr, assign, call, new, choice, loop, CFunction, CStmts, done, next, CBody, code, asm, CUnit}
use Rattle.c0_meaning.specs.Ty.{ty_of}
use Rattle.c0_meaning.specs.Limits.{words_of_frame, first_number}
use Rattle.c0_meaning.specs.Sound.{shapes}
use Rattle.c0_meaning.specs.Words.{words}
use Rattle.c0_meaning.specs.Value.{Value, int, Values, empty, part}
use Rattle.c0_meaning.specs.State.{C0State, stack_words}
use Rattle.c0_meaning.specs.Operators.{StackOut, faulted, stuck}
use Rattle.c0_meaning.specs.Evaluation.{Costed, costs, at_no_cost, truth, value_of, values_of, place_of}
use Rattle.c0_meaning.specs.World.{Called, Setting, Cost, units, total, plus, Configuration, beginning, with_state, after_call, call_cost}
use Rattle.c0_meaning.specs.Running.{Target, into, outward, Work, act_on, finish, again, leave, begin, Step, Go, Stop, push, then_go, store, deliver, enter, call_function, call_with, work_step}
use Rattle.c0_meaning.specs.Execution.{Outcome, then_run, execute, dispatch}
use Rattle.c0_meaning.specs.RunLaws.{cost_of, stands_at}
use Rattle.cvm_model.specs.Kernel.{Core, Changes}
use Rattle.cvm_model.specs.KernelMeaning.{Machines, machines_of, ints_of, primitive_called, kernel_primitive, setting_of, call_numbered as asked_with}
use Rattle.cvm_model.specs.Primitives.{KernelCall, primitive_number}
use Rattle.called_primitives.specs.Calls.{call_may, statement_may, block_may, body_may, calls_only}

abbrev pub Here : Type 0
Here = Configuration Machines Changes

-- WHAT IS KEPT: C of costs, which units of the program's own have and sums, and Q of where the run stands, whatever is written or answered; by each primitive
-- that may be called
pub record AreKept (may : ℕ → Bool) (C : Cost → Type 0) (Q : Here → Type 0) : Type 0 where
  pub own : (n : ℕ) → C (units n)
  pub sum : (a b : Cost) → C a → C b → C (plus a b)
  pub written : (c : Here) (s : C0State) → Q c → Q (with_state c s)
  pub answered : (c : Here) (v : Value) → Q c → Q (record c { answer = Some v })
  pub costs : (n : ℕ) (args : Values) (c : Here) → may n ≡ true → C (call_cost (kernel_primitive n args c.world))
  pub called : (n : ℕ) (args : Values) (c : Here) → may n ≡ true → Q c → Q (after_call c (kernel_primitive n args c.world))

module _ (may : ℕ → Bool) where
  -- WORK that calls no other primitives
  abbrev target_may : Target → Bool
  target_may (into place rest) = block_may may rest
  target_may outward = true

  abbrev item_may : Work → Bool
  item_may (act_on statement rest) = statement_may may statement && block_may may rest
  item_may (finish place answer rest) = block_may may rest
  item_may (again test body rest) = block_may may body && block_may may rest
  item_may (leave answer target) = target_may target
  item_may (begin n args) = true

  abbrev work_may : List Work → Bool
  work_may work = list_all item_may work

  pushes : (b : CStmts) (w : List Work) → block_may may b ≡ true → work_may w ≡ true → work_may (push b w) ≡ true
  pushes done w b h = h
  pushes (next t rest) w b h = and_from (statement_may may t && block_may may rest) (work_may w) b h

  function_may : (fs : List CFunction) (n : ℕ) (f : CFunction) → list_all (λ (f : CFunction). body_may may f.body) fs ≡ true → slice_get fs n ≡ Some f → body_may may f.body ≡ true
  function_may [] n f h e = absurd (cc)
  function_may (g ∷ fs) zero f h e = let same : g ≡ f = cc in subst (λ (k : CFunction). body_may may k.body ≡ true) same (and_parts (body_may may g.body) _ h).0
  function_may (g ∷ fs) (suc n) f h e = function_may fs n f (and_parts (body_may may g.body) _ h).1 e

  tested : (test : CExpr) (body rest : CStmts) (w : List Work) → block_may may body ≡ true → block_may may rest ≡ true → work_may w ≡ true → (t : Bool)
      → work_may (if t then push body (again test body rest ∷ w) else push rest w) ≡ true
  tested test body rest w b r h true = pushes body (again test body rest ∷ w) b (and_from (block_may may body && block_may may rest) (work_may w) (and_from _ _ b r) h)
  tested test body rest w b r h false = pushes rest w r h

  chosen : (a b rest : CStmts) (w : List Work) → block_may may a ≡ true → block_may may b ≡ true → block_may may rest ≡ true → work_may w ≡ true → (t : Bool)
      → work_may (push (if t then a else b) (push rest w)) ≡ true
  chosen a b rest w y n r h true = pushes a (push rest w) y (pushes rest w r h)
  chosen a b rest w y n r h false = pushes b (push rest w) n (pushes rest w r h)

  module _ (C : Cost → Type 0) (Q : Here → Type 0) (kept : AreKept may C Q) (u : CUnit) (p : Params) (only : calls_only may u ≡ true) where
    abbrev setting : Setting Machines Changes
    setting = setting_of u p

    abbrev Stays : Step Machines Changes → Type 0
    Stays (Go k w d) = (work_may w ≡ true) × C k × Q d
    Stays (Stop k f d) = C k × Q d

    goes : {A : Type 0} (k : Cost) (c : Here) (e : Costed A) (f : Cost → A → Step Machines Changes) → C k → Q c → ((j : Cost) (x : A) → C j → Stays (f j x)) → Stays (then_go k c e f)
    goes k c (costs n (Ok x)) f a q h = h (plus k (units n)) x (kept.sum k (units n) a (kept.own n))
    goes k c (costs n (Err x)) f a q h = (kept.sum k (units n) a (kept.own n), q)

    either : (b : Bool) (x y : Step Machines Changes) → Stays x → Stays y → Stays (if b then x else y)
    either true x y h g = h
    either false x y h g = g

    stores : (k : Cost) (place : CExpr) (v : Value) (rest : CStmts) (w : List Work) (c : Here) → block_may may rest ≡ true → work_may w ≡ true → C k → Q c → Stays (store k place v rest w c)
    stores k place v rest w c r h a q = goes k c (place_of place c.state) _ a q (λ j l i. (pushes rest w r h, i, kept.written c _ q))

    delivers : (k : Cost) (target : Target) (v : Value) (w : List Work) (c : Here) → target_may target ≡ true → work_may w ≡ true → C k → Q c → Stays (deliver k target v w c)
    delivers k (into place rest) v w c r h a q = (and_from (block_may may rest) (work_may w) r h, a, q)
    delivers k outward v w c r h a q = (h, a, kept.answered c v q)

    enters : (k : Cost) (n : ℕ) (body : CBody) (args : Values) (target : Target) (w : List Work) (c : Here) → body_may may body ≡ true → target_may target ≡ true → work_may w ≡ true → C k → Q c
        → Stays (enter setting k n body args target w c)
    enters k n (code locals stmts answer) args target w c b r h a q =
        (pushes stmts (leave answer target ∷ w) b (and_from (target_may target) (work_may w) r h), kept.sum k _ a (kept.own _), kept.written c _ q)
    enters k n (asm text span words) args target w c b r h a q = delivers _ target _ w c r h (kept.sum k _ a (kept.own _)) q

    calls : (k : Cost) (n : ℕ) (args : Values) (target : Target) (w : List Work) (c : Here) → target_may target ≡ true → work_may w ≡ true → C k → Q c → Stays (call_function setting k n args target w c)
    calls k n args target w c r h a q = by (slice_get u.functions n) refl
      where
        one : C (plus (plus k (units 1)) (units 0))
        one = kept.sum (plus k (units 1)) (units 0) (kept.sum k (units 1) a (kept.own 1)) (kept.own 0)

        by : (o : Option CFunction) → slice_get u.functions n ≡ o → Stays (then_go (plus k (units 1)) c (at_no_cost (ok_or o stuck)) (λ cost f.
            if nat_lt p.stack (stack_words u c.state.frames + words_of_frame (shapes u) f) then Stop cost (faulted StackOut) c
            else enter setting cost n f.body args target w c))
        by None e = (one, q)
        by (Some f) e = either (nat_lt p.stack (stack_words u c.state.frames + words_of_frame (shapes u) f)) _ _ (one, q) (enters _ n f.body args target w c (function_may u.functions n f only e) r h one q)

    calls_with : (k : Cost) (kind : Kind) (n : ℕ) (args : Values) (target : Target) (w : List Work) (c : Here) → call_may may kind n ≡ true → target_may target ≡ true → work_may w ≡ true → C k → Q c
        → Stays (call_with setting k kind n args target w c)
    calls_with k Function n args target w c e r h a q = calls k n args target w c r h a q
    calls_with k Primitive n args target w c e r h a q = delivers _ target _ w _ r h (kept.sum k _ a (kept.costs n args c e)) (kept.called n args c e q)
    calls_with k _ n args target w c e r h a q = (a, q)

    acts : (item : Work) (w : List Work) (c : Here) → item_may item ≡ true → work_may w ≡ true → Q c → Stays (work_step setting item w c)
    acts (act_on (assign span place v) rest) w c i h q = goes (units 1) c (value_of v c.state) _ (kept.own 1) q (λ j x a. stores j place x rest w c i h a q)
    acts (act_on (call span place call_span function args) rest) w c i h q =
        let parts = and_parts (call_may may function.kind function.number) (block_may may rest) i in
        goes (units 1) c (values_of args c.state) _ (kept.own 1) q (λ j vs a. calls_with j function.kind function.number vs (into place rest) w c parts.0 parts.1 h a q)
    acts (act_on (new span place t ty_span) rest) w c i h q =
        let both = and_from (block_may may rest) (work_may w) i h in
        either (nat_lt p.heap (c.state.heap_words + words (shapes u) (ty_of t))) _ _ (both, kept.own 1, q) (both, kept.own _, kept.written c _ q)
    acts (act_on (choice span test yes_part no_part) rest) w c i h q =
        let parts = and_parts (block_may may yes_part && block_may may no_part) (block_may may rest) i in
        let both = and_parts (block_may may yes_part) (block_may may no_part) parts.0 in
        goes (units 1) c (truth (value_of test c.state)) _ (kept.own 1) q (λ j t a. (chosen yes_part no_part rest w both.0 both.1 parts.1 h t, a, q))
    acts (act_on (loop span test body) rest) w c i h q =
        let parts = and_parts (block_may may body) (block_may may rest) i in
        goes (units 2) c (truth (value_of test c.state)) _ (kept.own 2) q (λ j t a. (tested test body rest w parts.0 parts.1 h t, a, q))
    acts (finish place v rest) w c i h q = stores (units 0) place v rest w c i h (kept.own 0) q
    acts (again test body rest) w c i h q =
        let parts = and_parts (block_may may body) (block_may may rest) i in
        goes (units 1) c (truth (value_of test c.state)) _ (kept.own 1) q (λ j t a. (tested test body rest w parts.0 parts.1 h t, a, q))
    acts (leave answer target) w c i h q = goes (units 0) c (value_of answer c.state) _ (kept.own 0) q (λ j v a. delivers j target v w _ i h a (kept.written c _ q))
    acts (begin n args) w c i h q = calls (units 0) n args outward w c refl h (kept.own 0) q

    abbrev pub KeptAt : Outcome Machines Changes → Type 0
    KeptAt o = C (cost_of o) × Q (stands_at o)

    choosing : (b : Bool) (x y : Outcome Machines Changes) → KeptAt x → KeptAt y → KeptAt (if b then x else y)
    choosing true x y h g = h
    choosing false x y h g = g

    steps : (l : ℕ) (used : Cost) (c : Here) (f : Cost → List Work → Here → Outcome Machines Changes) (x : Step Machines Changes) → C used → Q c → Stays x
        → ((k : Cost) (w : List Work) (d : Here) → C k → work_may w ≡ true → Q d → KeptAt (f k w d)) → KeptAt (then_run x l used c f)
    steps l used c f (Go k w d) a q s h = choosing (nat_lt l (total (plus used k))) _ _ (a, q) (h (plus used k) w d (kept.sum used k a s.1) s.0 s.2)
    steps l used c f (Stop k x d) a q s h = choosing (nat_lt l (total (plus used k))) _ _ (a, q) (kept.sum used k a s.0, s.1)

    runs : (s l : ℕ) (used : Cost) (w : List Work) (c : Here) → work_may w ≡ true → C used → Q c → KeptAt (execute setting s l used w c)
    runs zero l used w c h a q = (a, q)
    runs (suc s) l used [] c h a q = (a, q)
    runs (suc s) l used (item ∷ w) c h a q =
        let parts = and_parts (item_may item) (work_may w) h in
        steps l used c (execute setting s l) (work_step setting item w c) a q (acts item w c parts.0 parts.1 q) (λ k v d b i r. runs s l k v d i b r)

    -- EACH DISPATCH
    pub dispatches_keep : (n : ℕ) (c : Core) (cause edata user : ℤ) → Q (beginning (record c.c0 { frames = [] }) (machines_of p c)) → KeptAt (dispatch setting n cause edata user c.c0 (machines_of p c))
    dispatches_keep n c cause edata user q =
        runs (suc n) n (units 0) (begin (first_number Kernel u) (part (int cause) (part (int edata) (part (int user) empty))) ∷ []) (beginning (record c.c0 { frames = [] }) (machines_of p c)) refl (kept.own 0) q

-- A CALL OF A NUMBER is the primitive with this number, or none
abbrev IsNumbered : ℕ → Option KernelCall → Type 0
IsNumbered n None = Unit {0}
IsNumbered n (Some asked) = primitive_number asked ≡ n

by_number : (n k : ℕ) (x y : Option KernelCall) → (k ≡ n → IsNumbered n x) → IsNumbered n y → IsNumbered n (if n == k then x else y)
by_number n k x y h g = by (n == k) refl
  where
    by : (b : Bool) → (n == k) ≡ b → IsNumbered n (if b then x else y)
    by true e = h (sym (eqb-true n k e))
    by false e = g

numbered : (n : ℕ) (xs : List ℤ) → IsNumbered n (asked_with n xs)
numbered n [] = by_number n 8 _ _ (λ e. e) (by_number n 9 _ _ (λ e. e) tt)
numbered n (a ∷ []) = by_number n 2 _ _ (λ e. e) (by_number n 7 _ _ (λ e. e) tt)
numbered n (a ∷ b ∷ []) = by_number n 0 _ _ (λ e. e) (by_number n 3 _ _ (λ e. e) (by_number n 4 _ _ (λ e. e) tt))
numbered n (a ∷ b ∷ c ∷ []) = by_number n 1 _ _ (λ e. e) (by_number n 5 _ _ (λ e. e) tt)
numbered n (a ∷ b ∷ c ∷ d ∷ []) = tt
numbered n (a ∷ b ∷ c ∷ d ∷ f ∷ []) = by_number n 6 _ _ (λ e. e) tt
numbered n (a ∷ b ∷ c ∷ d ∷ f ∷ g ∷ rest) = tt

-- so what is so of each primitive that may be called, and of a call that is none, is so of each call of a number that may be called
module _ (may : ℕ → Bool) (P : Called Machines Changes → Type 0) (m : Machines) (none : P (primitive_called m None)) (each : (asked : KernelCall) → may (primitive_number asked) ≡ true → P (primitive_called m (Some asked))) where
  by_call : (n : ℕ) (o : Option KernelCall) → IsNumbered n o → may n ≡ true → P (primitive_called m o)
  by_call n None h e = none
  by_call n (Some asked) h e = each asked (subst (λ i. may i ≡ true) (sym h) e)

  pub by_primitive : (n : ℕ) (args : Values) → may n ≡ true → P (kernel_primitive n args m)
  by_primitive n args e = by (ints_of args)
    where
      by : (o : Option (List ℤ)) → P (primitive_called m (option_and_then (asked_with n) o))
      by None = none
      by (Some xs) = by_call n (asked_with n xs) (numbered n xs) e
