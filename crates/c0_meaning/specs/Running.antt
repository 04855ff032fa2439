-- What statements do, one work item after another.
use Rattle.std.specs.Prelude.{ℕ, ◌+◌, nat_lt, if◌then◌else◌, List, [], ◌∷◌, length, map, Some, Ok, Err, ok_or, slice_get}
use Rattle.c0_tree.specs.declared.tree.Kind.{Kind}
use Rattle.c0_tree.specs.declared.tree.Kind.TheVariants.{Function, Primitive}
use Rattle.c0_tree.specs.Tree.{CExpr, CStmt, assign, call, new, choice, loop, CStmts, done, next, CBody, code, asm}
use Rattle.c0_meaning.specs.Ty.{Ty, ty_of}
use Rattle.c0_meaning.specs.Env.{typed_of}
use Rattle.c0_meaning.specs.Words.{words, all_words}
use Rattle.c0_meaning.specs.Limits.{words_of_frame}
use Rattle.c0_meaning.specs.Sound.{shapes}
use Rattle.c0_meaning.specs.Value.{heap, Value, int, null, at, group, Values, followed_by, part_count, zero_of, zeros_of}
use Rattle.c0_meaning.specs.State.{write, pushed, popped, with_object, stack_words}
use Rattle.c0_meaning.specs.Operators.{Failure, StackOut, faulted, stuck}
use Rattle.c0_meaning.specs.Evaluation.{Costed, costs, at_no_cost, truth, value_of, place_of, values_of}
use Rattle.c0_meaning.specs.AsmBody.{asm_result}
use Rattle.c0_meaning.specs.World.{Setting, Cost, units, plus, Configuration, with_state, after_call, call_cost}

-- where an answer goes: to a place of the function that runs, after which the statements behind are left to do; or out, as the answer of
-- the first function
pub data Target : Type 0 where
  into : (place : CExpr) (rest : CStmts) → Target
  outward : Target

-- What is left to do: a statement with those behind it in its block; the end of a call or of `new`, whose answer goes to a place; a loop
-- that is under way, by its next test; the return from a function with its answer; and the first call, of the function of a number.
pub data Work : Type 0 where
  act_on : (statement : CStmt) (rest : CStmts) → Work
  finish : (place : CExpr) (answer : Value) (rest : CStmts) → Work
  again : (test : CExpr) (body rest : CStmts) → Work
  leave : (answer : CExpr) → Target → Work
  begin : (function : ℕ) (args : Values) → Work

-- what a step does: it leads to other work and another configuration, or it stops the run by a failure; and its cost
pub data Step (W E : Type 0) : Type 0 where
  Go : Cost → List Work → Configuration W E → Step W E
  Stop : Cost → Failure → Configuration W E → Step W E

-- a block in front of what is left to do; the end of a block takes no step
abbrev pub push : CStmts → List Work → List Work
push done work = work
push (next t rest) work = act_on t rest ∷ work

-- a step that has cost so much goes on with what is evaluated now
abbrev pub then_go : {W E A : Type 0} → Cost → Configuration W E → Costed A → (Cost → A → Step W E) → Step W E
then_go cost c (costs n (Ok x)) go = go (plus cost (units n)) x
then_go cost c (costs n (Err f)) go = Stop (plus cost (units n)) f c

-- a value goes to a place, which is evaluated now, and the statements behind are left to do
abbrev pub store : {W E : Type 0} → Cost → CExpr → Value → CStmts → List Work → Configuration W E → Step W E
store cost place v rest work c = then_go cost c (place_of place c.state) (λ cost l. Go cost (push rest work) (with_state c (write c.state l v)))

-- the end of a step with an answer: to evaluate the place that it goes to, and to store it there, is a step of its own
abbrev pub deliver : {W E : Type 0} → Cost → Target → Value → List Work → Configuration W E → Step W E
deliver cost (into place rest) v work c = Go cost (finish place v rest ∷ work) c
deliver cost outward v work c = Go cost work (record c { answer = Some v })

-- Enters the function of a number: the locals become 0, false or null, and what is left to do are its statements and its return. An
-- asm function is done at once.
abbrev pub enter : {W E : Type 0} → Setting W E → Cost → ℕ → CBody → Values → Target → List Work → Configuration W E → Step W E
enter p cost n (code locals stmts answer) args target work c =
    let decls = map typed_of locals in
    Go (plus cost (units (all_words (shapes p.unit) decls))) (push stmts (leave answer target ∷ work))
    (with_state c (pushed (record { function = n; variables = group (followed_by args (zeros_of (shapes p.unit) decls)) }) c.state))
enter p cost n (asm text span words) args target work c = deliver (plus cost (units (length words))) target (int (asm_result words args)) work c

-- a call of the function of a number: it is one unit, and first the stack is tested
abbrev pub call_function : {W E : Type 0} → Setting W E → Cost → ℕ → Values → Target → List Work → Configuration W E → Step W E
call_function p cost n args target work c =
    then_go (plus cost (units 1)) c (at_no_cost (ok_or (slice_get p.unit.functions n) stuck)) (λ cost f.
    if nat_lt p.stack (stack_words p.unit c.state.frames + words_of_frame (shapes p.unit) f) then Stop cost (faulted StackOut) c
    else enter p cost n f.body args target work c)

-- a call with its arguments, of a function or a primitive: a primitive needs no stack
abbrev pub call_with : {W E : Type 0} → Setting W E → Cost → Kind → ℕ → Values → Target → List Work → Configuration W E → Step W E
call_with p cost Function n args target work c = call_function p cost n args target work c
call_with p cost Primitive n args target work c =
    let r = p.meaning n args c.world in
    deliver (plus cost (call_cost r)) target r.answer work (after_call c r)
call_with p cost kind n args target work c = Stop cost stuck c

-- `new`: null exactly where the words used and those of the type exceed the heap, else a new object, whose words become 0
abbrev pub allocate : {W E : Type 0} → Setting W E → Ty → Target → List Work → Configuration W E → Step W E
allocate p t target work c =
    let n = words (shapes p.unit) t in
    if nat_lt p.heap (c.state.heap_words + n) then deliver (units 1) target null work c
    else deliver (units (1 + n)) target (at (record { region = heap; path = part_count c.state.heap_values ∷ [] })) work
    (with_state c (with_object (zero_of (shapes p.unit) t) n c.state))

-- a test of a loop: its body and the next test, or what stands behind it
abbrev pub test_loop : {W E : Type 0} → Cost → CExpr → CStmts → CStmts → List Work → Configuration W E → Step W E
test_loop cost test body rest work c =
    then_go cost c (truth (value_of test c.state)) (λ cost b. Go cost (if b then push body (again test body rest ∷ work) else push rest work) c)

-- a statement, which is one unit
abbrev pub act_statement : {W E : Type 0} → Setting W E → CStmt → CStmts → List Work → Configuration W E → Step W E
act_statement p (assign span place value) rest work c =
    then_go (units 1) c (value_of value c.state) (λ cost v. store cost place v rest work c)
act_statement p (call span place call_span function args) rest work c =
    then_go (units 1) c (values_of args c.state) (λ cost vs. call_with p cost function.kind function.number vs (into place rest) work c)
act_statement p (new span place t ty_span) rest work c = allocate p (ty_of t) (into place rest) work c
act_statement p (choice span test on_true on_false) rest work c =
    then_go (units 1) c (truth (value_of test c.state)) (λ cost b. Go cost (push (if b then on_true else on_false) (push rest work)) c)
act_statement p (loop span test body) rest work c = test_loop (units 2) test body rest work c

-- a work item, in front of what else is left to do
abbrev pub work_step : {W E : Type 0} → Setting W E → Work → List Work → Configuration W E → Step W E
work_step p (act_on statement rest) work c = act_statement p statement rest work c
work_step p (finish place answer rest) work c = store (units 0) place answer rest work c
work_step p (again test body rest) work c = test_loop (units 1) test body rest work c
work_step p (leave answer target) work c =
    then_go (units 0) c (value_of answer c.state) (λ cost v. deliver cost target v work (with_state c (popped c.state)))
work_step p (begin n args) work c = call_function p (units 0) n args outward work c
