-- What a step costs: a unit of its own at least; a primitive's units where a call of one has ended; and few units where it faults.
use Rattle.std.specs.Prelude.{slice_get, ok_or, Ok, Err, nat_lt, if◌then◌else◌}
use Rattle.std.proofs.Common.{◌≡◌, ◌⊎◌, inl, inr, ℕ, suc, ◌+◌, ◌≤◌, Bool, true, false, List, [], ◌∷◌, length, refl, arith, length-append}
use Rattle.mips_table.specs.Code.{Contents, Behind, CodeState}
use Rattle.c0_tree.specs.declared.tree.Kind.{Kind}
use Rattle.c0_tree.specs.declared.tree.Kind.TheVariants.{Unresolved, Struct, Field, Global, Local, Function, Primitive}
use Rattle.c0_tree.specs.Size.{nodes, args_nodes, stmt_nodes}
use Rattle.c0_tree.specs.Tree.{CExpr, CStmt, assign, call, new, choice, loop, CStmts, CBody, code, asm}
use Rattle.c0_meaning.specs.Ty.{Ty, ty_of}
use Rattle.c0_meaning.specs.Limits.{words_of_frame}
use Rattle.c0_meaning.specs.Sound.{shapes}
use Rattle.c0_meaning.specs.State.{stack_words}
use Rattle.c0_meaning.specs.Value.{Value, Values}
use Rattle.c0_meaning.specs.Operators.{stuck}
use Rattle.c0_meaning.specs.Evaluation.{Costed, costs, at_no_cost, truth, value_of, place_of, values_of}
use Rattle.c0_meaning.specs.World.{Setting, Cost, units, total, plus, Configuration, calls_ended, after_call, call_cost}
use Rattle.c0_meaning.specs.Running.{Target, into, outward, Work, act_on, finish, again, leave, begin, Step, then_go, store, deliver, enter, call_function, call_with, allocate, test_loop, act_statement, work_step}
use Rattle.c0_runs.specs.Setup.{Setup}
use Rattle.c0_runs.specs.Ahead.{Activation, Awaits, Ahead}
use Rattle.c0_runs.specs.Standing.{code_text, Simulated, CostsSome}
use Rattle.c0_runs.proofs.UnitsWithinNodes.{Within, value_within, place_within, truth_within, values_within}

module _ (W E : Type 0) (p : Setting W E) (h : Configuration W E) where
  either : (b : Bool) (x y : Step W E) → CostsSome h x → CostsSome h y → CostsSome h (if b then x else y)
  either true x y a b = a
  either false x y a b = b

  then_some : {A : Type 0} (cost : Cost) (lo hi : ℕ) (d : Configuration W E) (e : Costed A) (go : Cost → A → Step W E) → Within lo hi e → 1 ≤ cost.own + lo → total cost + hi ≤ 8388608
      → ((n : ℕ) (x : A) → lo ≤ n → n ≤ hi → CostsSome h (go (plus cost (units n)) x)) → CostsSome h (then_go cost d e go)
  then_some cost lo hi d (costs n (Ok x)) go w some few next = next n x w.0 w.1
  then_some cost lo hi d (costs n (Err f)) go w some few next = let a = w.0 in let b = w.1 in (omega (arith, a, some), omega (arith, b, few))

  store_some : (cost : Cost) (place : CExpr) (v : Value) (rest : CStmts) (work : List Work) → cost.primitive ≡ 0 → total cost ≤ 8000000 → nodes place ≤ 2000 → CostsSome h (store cost place v rest work h)
  store_some cost place v rest work none few small =
      then_some cost 1 (nodes place) h (place_of place h.state) _ (place_within place h.state) (omega arith) (omega (arith, few, small)) (λ n l lo hi. (omega (arith, lo), inl (omega (arith, none))))

  deliver_some : (cost : Cost) (target : Target) (v : Value) (work : List Work) (d : Configuration W E) → 1 ≤ cost.own → (cost.primitive ≡ 0) ⊎ (calls_ended d ≡ suc (calls_ended h)) → CostsSome h (deliver cost target v work d)
  deliver_some cost (into place rest) v work d some o = (some, o)
  deliver_some cost outward v work d some o = (some, o)

  enter_some : (cost : Cost) (n : ℕ) (body : CBody) (args : Values) (target : Target) (work : List Work) → 1 ≤ cost.own → cost.primitive ≡ 0 → CostsSome h (enter p cost n body args target work h)
  enter_some cost n (code locals stmts answer) args target work some none = (omega (arith, some), inl (omega (arith, none)))
  enter_some cost n (asm code_text span words) args target work some none = deliver_some (plus cost (units (length words))) target _ work h (omega (arith, some)) (inl (omega (arith, none)))

  function_some : (cost : Cost) (n : ℕ) (args : Values) (target : Target) (work : List Work) → cost.primitive ≡ 0 → total cost ≤ 8000000 → CostsSome h (call_function p cost n args target work h)
  function_some cost n args target work none few =
      then_some (plus cost (units 1)) 0 0 h (at_no_cost (ok_or (slice_get p.unit.functions n) stuck)) _ (omega arith, omega arith) (omega arith) (omega (arith, few))
      (λ k f lo hi. either (nat_lt p.stack (stack_words p.unit h.state.frames + words_of_frame (shapes p.unit) f)) _ _ (omega arith, omega (arith, few, hi))
      (enter_some (plus (plus cost (units 1)) (units k)) n f.body args target work (omega arith) (omega (arith, none))))

  call_some : (cost : Cost) (kind : Kind) (n : ℕ) (args : Values) (target : Target) (work : List Work) → 1 ≤ cost.own → cost.primitive ≡ 0 → total cost ≤ 8000000 → CostsSome h (call_with p cost kind n args target work h)
  call_some cost Function n args target work some none few = function_some cost n args target work none few
  call_some cost Primitive n args target work some none few =
      deliver_some (plus cost (call_cost (p.meaning n args h.world))) target (p.meaning n args h.world).answer work (after_call h (p.meaning n args h.world)) (omega (arith, some))
      (inr (let l = length-append h.calls ((p.meaning n args h.world).entries ∷ []) in omega (arith, l)))
  call_some cost Unresolved n args target work some none few = (some, omega (arith, few))
  call_some cost Struct n args target work some none few = (some, omega (arith, few))
  call_some cost Field n args target work some none few = (some, omega (arith, few))
  call_some cost Global n args target work some none few = (some, omega (arith, few))
  call_some cost Local n args target work some none few = (some, omega (arith, few))

  allocate_some : (t : Ty) (target : Target) (work : List Work) → CostsSome h (allocate p t target work h)
  allocate_some t target work = either _ _ _ (deliver_some (units 1) target _ work h (omega arith) (inl refl)) (deliver_some _ target _ work _ (omega arith) (inl refl))

  loop_some : (cost : Cost) (test : CExpr) (body rest : CStmts) (work : List Work) → 1 ≤ cost.own → cost.primitive ≡ 0 → total cost ≤ 2 → nodes test ≤ 2000 → CostsSome h (test_loop cost test body rest work h)
  loop_some cost test body rest work some none few small =
      then_some cost 1 (nodes test) h (truth (value_of test h.state)) _ (truth_within test h.state) (omega arith) (omega (arith, few, small)) (λ n b lo hi. (omega (arith, some), inl (omega (arith, none))))

  statement_some : (t : CStmt) (rest : CStmts) (work : List Work) → stmt_nodes t ≤ 2000 → CostsSome h (act_statement p t rest work h)
  statement_some (assign s place value) rest work small =
      then_some (units 1) 1 (nodes value) h (value_of value h.state) _ (value_within value h.state) (omega arith) (omega (arith, small)) (λ n v lo hi. store_some (plus (units 1) (units n)) place v rest work (omega arith) (omega (arith, hi, small)) (omega (arith, small)))
  statement_some (call s place cs f args) rest work small =
      then_some (units 1) 0 (args_nodes args) h (values_of args h.state) _ (values_within args h.state) (omega arith) (omega (arith, small)) (λ n vs lo hi. call_some (plus (units 1) (units n)) f.kind f.number vs (into place rest) work (omega arith) (omega arith) (omega (arith, hi, small)))
  statement_some (new s place t ts) rest work small = allocate_some (ty_of t) (into place rest) work
  statement_some (choice s test a b) rest work small =
      then_some (units 1) 1 (nodes test) h (truth (value_of test h.state)) _ (truth_within test h.state) (omega arith) (omega (arith, small)) (λ n x lo hi. (omega arith, inl (omega arith)))
  statement_some (loop s test body) rest work small = loop_some (units 2) test body rest work (omega arith) refl (omega arith) (omega (arith, small))

module _ (W E : Type 0) (Outer : W → Contents → Behind → Type 0) (z : Setup W E Outer) where
  -- what stands ahead has few nodes
  statement_few : (acts : List Activation) (k debt : ℕ) (t : CStmt) (rest : CStmts) (work : List Work) → Ahead (code_text W E Outer z) acts k debt (act_on t rest ∷ work) → stmt_nodes t ≤ 2000
  statement_few (a ∷ others) k debt t rest work ahead = ahead.0.few
  statement_few [] k debt t rest work ahead = absurd ahead

  loop_few : (acts : List Activation) (k debt : ℕ) (t : CExpr) (body rest : CStmts) (work : List Work) → Ahead (code_text W E Outer z) acts k debt (again t body rest ∷ work) → nodes t ≤ 2000
  loop_few (a ∷ others) k debt t body rest work ahead = let few = ahead.1.few in omega (arith, few)
  loop_few [] k debt t body rest work ahead = absurd ahead

  return_few : (acts : List Activation) (k debt : ℕ) (answer : CExpr) (target : Target) (work : List Work) → Ahead (code_text W E Outer z) acts k debt (leave answer target ∷ work) → nodes answer ≤ 2000
  return_few (a ∷ others) k debt answer target work ahead = ahead.0.few
  return_few [] k debt answer target work ahead = absurd ahead

  place_few : (acts : List Activation) (k debt : ℕ) (t : Ty) (place : CExpr) (rest : CStmts) (work : List Work) → Awaits (code_text W E Outer z) acts k debt t (into place rest) work (λ others to left. Ahead (code_text W E Outer z) others to left work) → nodes place ≤ 2000
  place_few (a ∷ others) k debt t place rest work ahead = ahead.0.there.few
  place_few [] k debt t place rest work ahead = absurd ahead

  pub costs_some : (debt : ℕ) (item : Work) (work : List Work) (h : Configuration W E) (s : CodeState) → Simulated W E Outer z debt (item ∷ work) h s → CostsSome h (work_step z.p item work h)
  costs_some debt (act_on t rest) work h s sim = statement_some W E z.p h t rest work (statement_few sim.activations s.at debt t rest work sim.ahead)
  costs_some debt (finish place v rest) work h s sim = store_some W E z.p h (units 0) place v rest work refl (omega arith) (place_few sim.activations s.at debt sim.t place rest work sim.ahead)
  costs_some debt (again t body rest) work h s sim = loop_some W E z.p h (units 1) t body rest work (omega arith) refl (omega arith) (loop_few sim.activations s.at debt t body rest work sim.ahead)
  costs_some debt (leave answer target) work h s sim =
      let few = return_few sim.activations s.at debt answer target work sim.ahead in
      then_some W E z.p h (units 0) 1 (nodes answer) h (value_of answer h.state) _ (value_within answer h.state) (omega arith) (omega (arith, few)) (λ n v lo hi. deliver_some W E z.p h (plus (units 0) (units n)) target v work _ (omega (arith, lo)) (inl refl))
  costs_some debt (begin n args) work h s sim = function_some W E z.p h (units 0) n args outward work refl (omega arith)
