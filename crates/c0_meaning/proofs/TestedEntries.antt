-- Each entry passes a test: a run whose world knows whether all entries so far pass is the run, and its world stays right.
use Rattle.std.proofs.Common.{◌≡◌, ℕ, zero, suc, ◌+◌, ◌&&◌, List, [], ◌∷◌, ◌++◌, Bool, true, false, nat_lt, refl, sym, ap, ◌∙◌, subst}
use Rattle.std.specs.Prelude.{ok_or, if◌then◌else◌, Ok, Err, slice_get}
use Rattle.std.specs.List.{list_all}
use Rattle.std.proofs.lemmas.Bool.{and_parts, and_from}
use Rattle.std.proofs.lemmas.List.{append-nil}
use Rattle.std.proofs.lemmas.List.Folds.{list_all-append}
use Rattle.c0_tree.specs.declared.primitive.Program.TheVariants.{Kernel}
use Rattle.c0_tree.specs.declared.tree.Kind.{Kind}
use Rattle.c0_tree.specs.declared.tree.Kind.TheVariants.{Function, Primitive}
use Rattle.c0_tree.specs.Primitives.{CPrimitive, kernel_primitives}
use Rattle.c0_tree.specs.Tree.{CExpr, assign, call, new, choice, loop, CStmts, CBody, code, asm, CUnit}
use Rattle.c0_meaning.specs.Ty.{ty_of}
use Rattle.c0_meaning.specs.Limits.{words_of_frame, first_number}
use Rattle.c0_meaning.specs.Sound.{shapes}
use Rattle.c0_meaning.specs.Value.{Value, Values, int, empty, part}
use Rattle.c0_meaning.specs.State.{stack_words}
use Rattle.c0_meaning.specs.Words.{words}
use Rattle.c0_meaning.specs.Operators.{faulted, stuck}
use Rattle.c0_meaning.specs.Evaluation.{Costed, costs, at_no_cost, truth, value_of, values_of, place_of}
use Rattle.c0_meaning.specs.World.{PrimitiveMeaning, Setting, Cost, units, total, plus, Configuration, beginning, all_entries, journal_so_far, after_call, call_cost}
use Rattle.c0_meaning.specs.Running.{Target, into, outward, Work, act_on, finish, again, leave, begin, Step, Go, Stop, then_go, store, deliver, enter, call_function, call_with, work_step}
use Rattle.c0_meaning.specs.Execution.{Outcome, Done, Failed, NotYet, then_run, execute, dispatch}
use Rattle.c0_meaning.specs.RunLaws.{stands_at, DispatchesAreSafe}
use Rattle.c0_meaning.specs.TypedState.{AnswersFit, RunIsSafe}
use Rattle.c0_meaning.specs.EntryLaws.{EntriesPass, DispatchesPass}
use Rattle.c0_meaning.proofs.LaterAnswers.{entries_join}

module _ (W E : Type 0) (p : Setting W E) (test : E → Bool) where
  -- a world that knows whether all entries so far pass
  abbrev Told : Type 0
  Told = W × Bool

  abbrev told_meaning : PrimitiveMeaning Told E
  told_meaning n args w = let r = p.meaning n args w.0 in record { answer = r.answer; world = (r.world, w.1 && list_all test r.entries); entries = r.entries; pages = r.pages; words = r.words }

  abbrev told : Setting Told E
  told = record { unit = p.unit; heap = p.heap; stack = p.stack; meaning = told_meaning }

  abbrev at : Configuration W E → Configuration Told E
  at c = record { state = c.state; world = (c.world, list_all test (journal_so_far c)); calls = c.calls; answer = c.answer }

  abbrev step_at : Step W E → Step Told E
  step_at (Go k w d) = Go k w (at d)
  step_at (Stop k f d) = Stop k f (at d)

  goes : {A : Type 0} (k : Cost) (c : Configuration W E) (e : Costed A) (f : Cost → A → Step W E) (g : Cost → A → Step Told E) → ((j : Cost) (x : A) → g j x ≡ step_at (f j x)) → then_go k (at c) e g ≡ step_at (then_go k c e f)
  goes k c (costs n (Ok x)) f g h = h (plus k (units n)) x
  goes k c (costs n (Err x)) f g h = refl

  either : (b : Bool) (x y : Step W E) (x' y' : Step Told E) → x' ≡ step_at x → y' ≡ step_at y → (if b then x' else y') ≡ step_at (if b then x else y)
  either true x y x' y' h g = h
  either false x y x' y' h g = g

  stores : (k : Cost) (place : CExpr) (v : Value) (rest : CStmts) (w : List Work) (c : Configuration W E) → store k place v rest w (at c) ≡ step_at (store k place v rest w c)
  stores k place v rest w c = goes k c (place_of place c.state) _ _ (λ j l. refl)

  delivers : (k : Cost) (target : Target) (v : Value) (w : List Work) (c : Configuration W E) → deliver k target v w (at c) ≡ step_at (deliver k target v w c)
  delivers k (into place rest) v w c = refl
  delivers k outward v w c = refl

  enters : (k : Cost) (n : ℕ) (body : CBody) (args : Values) (target : Target) (w : List Work) (c : Configuration W E) → enter told k n body args target w (at c) ≡ step_at (enter p k n body args target w c)
  enters k n (code locals stmts answer) args target w c = refl
  enters k n (asm text span words) args target w c = delivers _ target _ w c

  calls : (k : Cost) (n : ℕ) (args : Values) (target : Target) (w : List Work) (c : Configuration W E) → call_function told k n args target w (at c) ≡ step_at (call_function p k n args target w c)
  calls k n args target w c =
      goes (plus k (units 1)) c (at_no_cost (ok_or (slice_get p.unit.functions n) stuck)) _ _
      (λ j f. either (nat_lt p.stack (stack_words p.unit c.state.frames + words_of_frame (shapes p.unit) f)) _ _ _ _ refl (enters j n f.body args target w c))

  -- a call of a primitive
  abbrev called_at : Configuration W E → ℕ → Values → Bool → Configuration Told E
  called_at c n args b = record { state = c.state; world = ((p.meaning n args c.world).world, b); calls = c.calls ++ (p.meaning n args c.world).entries ∷ []; answer = c.answer }

  same : (c : Configuration W E) (n : ℕ) (args : Values) → (list_all test (journal_so_far c) && list_all test (p.meaning n args c.world).entries) ≡ list_all test (all_entries (c.calls ++ (p.meaning n args c.world).entries ∷ []))
  same c n args =
      sym (ap (list_all test) (entries_join c.calls ((p.meaning n args c.world).entries ∷ []) ∙ ap (λ xs. journal_so_far c ++ xs) (append-nil (p.meaning n args c.world).entries))
      ∙ list_all-append test (journal_so_far c) (p.meaning n args c.world).entries)

  asked : (k : Cost) (n : ℕ) (args : Values) (target : Target) (w : List Work) (c : Configuration W E) → call_with told k Primitive n args target w (at c) ≡ step_at (call_with p k Primitive n args target w c)
  asked k n args target w c =
      ap (λ b. deliver (plus k (call_cost (p.meaning n args c.world))) target (p.meaning n args c.world).answer w (called_at c n args b)) (same c n args)
      ∙ delivers (plus k (call_cost (p.meaning n args c.world))) target (p.meaning n args c.world).answer w (after_call c (p.meaning n args c.world))

  calls_with : (k : Cost) (kind : Kind) (n : ℕ) (args : Values) (target : Target) (w : List Work) (c : Configuration W E) → call_with told k kind n args target w (at c) ≡ step_at (call_with p k kind n args target w c)
  calls_with k Function n args target w c = calls k n args target w c
  calls_with k Primitive n args target w c = asked k n args target w c
  calls_with k _ n args target w c = refl

  acts : (item : Work) (w : List Work) (c : Configuration W E) → work_step told item w (at c) ≡ step_at (work_step p item w c)
  acts (act_on (assign span place v) rest) w c = goes (units 1) c (value_of v c.state) _ _ (λ j x. stores j place x rest w c)
  acts (act_on (call span place call_span function args) rest) w c = goes (units 1) c (values_of args c.state) _ _ (λ j vs. calls_with j function.kind function.number vs (into place rest) w c)
  acts (act_on (new span place t ty_span) rest) w c = either (nat_lt p.heap (c.state.heap_words + words (shapes p.unit) (ty_of t))) _ _ _ _ refl refl
  acts (act_on (choice span test a b) rest) w c = goes (units 1) c (truth (value_of test c.state)) _ _ (λ j b. refl)
  acts (act_on (loop span test body) rest) w c = goes (units 2) c (truth (value_of test c.state)) _ _ (λ j b. refl)
  acts (finish place v rest) w c = stores (units 0) place v rest w c
  acts (again test body rest) w c = goes (units 1) c (truth (value_of test c.state)) _ _ (λ j b. refl)
  acts (leave answer target) w c = goes (units 0) c (value_of answer c.state) _ _ (λ j v. delivers j target v w _)
  acts (begin n args) w c = calls (units 0) n args outward w c

  abbrev outcome_at : Outcome W E → Outcome Told E
  outcome_at (Done k c) = Done k (at c)
  outcome_at (Failed k f c) = Failed k f (at c)
  outcome_at (NotYet k c) = NotYet k (at c)

  choosing : (b : Bool) (x y : Outcome W E) (x' y' : Outcome Told E) → x' ≡ outcome_at x → y' ≡ outcome_at y → (if b then x' else y') ≡ outcome_at (if b then x else y)
  choosing true x y x' y' h g = h
  choosing false x y x' y' h g = g

  steps : (l : ℕ) (used : Cost) (c : Configuration W E) (f : Cost → List Work → Configuration W E → Outcome W E) (g : Cost → List Work → Configuration Told E → Outcome Told E) (x : Step W E)
      → ((k : Cost) (w : List Work) (d : Configuration W E) → g k w (at d) ≡ outcome_at (f k w d)) → then_run (step_at x) l used (at c) g ≡ outcome_at (then_run x l used c f)
  steps l used c f g (Go k w d) h = choosing (nat_lt l (total (plus used k))) _ _ _ _ refl (h (plus used k) w d)
  steps l used c f g (Stop k x d) h = choosing (nat_lt l (total (plus used k))) _ _ _ _ refl refl

  runs : (s l : ℕ) (used : Cost) (w : List Work) (c : Configuration W E) → execute told s l used w (at c) ≡ outcome_at (execute p s l used w c)
  runs zero l used w c = refl
  runs (suc s) l used [] c = refl
  runs (suc s) l used (item ∷ w) c =
      ap (λ x. then_run x l used (at c) (execute told s l)) (acts item w c) ∙ steps l used c (execute p s l) (execute told s l) (work_step p item w c) (λ k v d. runs s l k v d)

  -- a run that is safe stands in a right world
  passed : (is_right : Told → Bool) (u : CUnit) (o : Outcome W E) → RunIsSafe is_right u (outcome_at o) → is_right ((stands_at o).world, list_all test (journal_so_far (stands_at o))) ≡ true
  passed is_right u (Done k c) h = h.1
  passed is_right u (Failed k (faulted f) c) h = h.1
  passed is_right u (Failed k stuck c) h = absurd h
  passed is_right u (NotYet k c) h = h.1

  told_fits : (is_right : W → Bool) (table : List CPrimitive) → AnswersFit is_right table p.meaning → EntriesPass is_right test table p.meaning → AnswersFit (λ (w : Told). is_right w.0 && w.1) table told_meaning
  told_fits is_right table fits passes = record {
    answer = λ n row args w e a r. fits.answer n row args w.0 e a (and_parts (is_right w.0) w.1 r).0;
    world = λ n row args w e a r. let b = and_parts (is_right w.0) w.1 r in
        and_from (is_right (p.meaning n args w.0).world) _ (fits.world n row args w.0 e a b.0) (and_from w.1 _ b.1 (passes n row args w.0 e a b.0));
  }

pub dispatches_pass : (W E : Type 0) → DispatchesAreSafe (W × Bool) E → DispatchesPass W E
dispatches_pass W E safe is_right test p n cause edata user s world checked fits passes typed a b d right =
    let o : Outcome W E = dispatch p n cause edata user s world in
    (and_parts (is_right (stands_at o).world) (list_all test (journal_so_far (stands_at o)))
    (passed W E p test (λ w. is_right w.0 && w.1) p.unit o
    (subst (RunIsSafe (λ w. is_right w.0 && w.1) p.unit)
    (runs W E p test (suc n) n (units 0) (begin (first_number Kernel p.unit) (part (int cause) (part (int edata) (part (int user) empty))) ∷ []) (beginning (record s { frames = [] }) world))
    (safe (λ w. is_right w.0 && w.1) (told W E p test) n cause edata user s (world, true) checked (told_fits W E p test is_right kernel_primitives fits passes) typed a b d (and_from (is_right world) true right refl))))).1
