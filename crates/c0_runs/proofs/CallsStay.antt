-- A step of C0's meaning leaves the calls that have ended as they are; others may end behind them, and where none does the world's value stays.
use Rattle.std.specs.Prelude.{ok_or, if◌then◌else◌, nat_lt, slice_get, Ok, Err}
use Rattle.std.proofs.Common.{◌≡◌, ℕ, ◌+◌, Bool, true, false, List, [], ◌∷◌, ◌++◌, length, refl, sym, ap, ◌∙◌, arith, length-append}
use Rattle.std.proofs.lemmas.List.{append-nil}
use Rattle.c0_tree.specs.declared.tree.Kind.{Kind}
use Rattle.c0_tree.specs.declared.tree.Kind.TheVariants.{Unresolved, Struct, Field, Global, Local, Function, Primitive}
use Rattle.c0_tree.specs.Tree.{CExpr, assign, call, new, choice, loop, CStmts, CBody, code, asm}
use Rattle.c0_meaning.specs.Ty.{ty_of}
use Rattle.c0_meaning.specs.Words.{words}
use Rattle.c0_meaning.specs.Limits.{words_of_frame}
use Rattle.c0_meaning.specs.Sound.{shapes}
use Rattle.c0_meaning.specs.Value.{Value, Values}
use Rattle.c0_meaning.specs.State.{stack_words}
use Rattle.c0_meaning.specs.Operators.{stuck}
use Rattle.c0_meaning.specs.Evaluation.{Costed, costs, at_no_cost, truth, value_of, values_of, place_of}
use Rattle.c0_meaning.specs.World.{Setting, Cost, units, plus, Configuration, calls_ended}
use Rattle.c0_meaning.specs.Running.{Target, into, outward, Work, act_on, finish, again, leave, begin, Step, Go, Stop, then_go, store, deliver, enter, call_function, call_with, work_step}

module _ (W E : Type 0) where
  abbrev pub Extends : Configuration W E → Configuration W E → Type 0
  Extends b d = (more : List (List E)) × (d.calls ≡ b.calls ++ more) × (more ≡ [] → d.world ≡ b.world)

  abbrev pub Grows : Configuration W E → Step W E → Type 0
  Grows b (Go k w d) = Extends b d
  Grows b (Stop k f d) = Extends b d

  -- the calls are the same
  same : (b : Configuration W E) → Extends b b
  same b = ([], sym (append-nil b.calls), λ e. refl)

  either : (b : Configuration W E) (t : Bool) (x y : Step W E) → Grows b x → Grows b y → Grows b (if t then x else y)
  either b true x y hx hy = hx
  either b false x y hx hy = hy

  goes : {A : Type 0} (k : Cost) (c : Configuration W E) (e : Costed A) (go : Cost → A → Step W E) → ((j : Cost) (x : A) → Grows c (go j x)) → Grows c (then_go k c e go)
  goes k c (costs n (Ok x)) go f = f (plus k (units n)) x
  goes k c (costs n (Err x)) go f = same c

  stores : (k : Cost) (place : CExpr) (v : Value) (rest : CStmts) (w : List Work) (c : Configuration W E) → Grows c (store k place v rest w c)
  stores k place v rest w c = goes k c (place_of place c.state) _ (λ j x. same c)

  delivers : (b : Configuration W E) (k : Cost) (target : Target) (v : Value) (w : List Work) (c : Configuration W E) → Extends b c → Grows b (deliver k target v w c)
  delivers b k (into place rest) v w c h = h
  delivers b k outward v w c h = h

  enters : (p : Setting W E) (k : Cost) (n : ℕ) (body : CBody) (args : Values) (target : Target) (w : List Work) (c : Configuration W E) → Grows c (enter p k n body args target w c)
  enters p k n (code locals stmts answer) args target w c = same c
  enters p k n (asm text span words) args target w c = delivers c _ target _ w c (same c)

  calls : (p : Setting W E) (k : Cost) (n : ℕ) (args : Values) (target : Target) (w : List Work) (c : Configuration W E) → Grows c (call_function p k n args target w c)
  calls p k n args target w c =
      goes (plus k (units 1)) c (at_no_cost (ok_or (slice_get p.unit.functions n) stuck)) _
      (λ j f. either c (nat_lt p.stack (stack_words p.unit c.state.frames + words_of_frame (shapes p.unit) f)) _ _ (same c) (enters p j n f.body args target w c))

  calls_with : (p : Setting W E) (k : Cost) (kind : Kind) (n : ℕ) (args : Values) (target : Target) (w : List Work) (c : Configuration W E) → Grows c (call_with p k kind n args target w c)
  calls_with p k Function n args target w c = calls p k n args target w c
  calls_with p k Primitive n args target w c = delivers c _ target _ w _ ((p.meaning n args c.world).entries ∷ [], refl, λ e. absurd (cc))
  calls_with p k Unresolved n args target w c = same c
  calls_with p k Struct n args target w c = same c
  calls_with p k Field n args target w c = same c
  calls_with p k Global n args target w c = same c
  calls_with p k Local n args target w c = same c

  pub acts : (p : Setting W E) (item : Work) (w : List Work) (c : Configuration W E) → Grows c (work_step p item w c)
  acts p (act_on (assign span place value) rest) w c = goes (units 1) c (value_of value c.state) _ (λ j v. stores j place v rest w c)
  acts p (act_on (call span place call_span function args) rest) w c =
      goes (units 1) c (values_of args c.state) _ (λ j vs. calls_with p j function.kind function.number vs (into place rest) w c)
  acts p (act_on (new span place t ty_span) rest) w c =
      either c (nat_lt p.heap (c.state.heap_words + words (shapes p.unit) (ty_of t))) _ _ (same c) (same c)
  acts p (act_on (choice span test a b) rest) w c = goes (units 1) c (truth (value_of test c.state)) _ (λ j v. same c)
  acts p (act_on (loop span test body) rest) w c = goes (units 2) c (truth (value_of test c.state)) _ (λ j v. same c)
  acts p (finish place v rest) w c = stores (units 0) place v rest w c
  acts p (again test body rest) w c = goes (units 1) c (truth (value_of test c.state)) _ (λ j v. same c)
  acts p (leave answer target) w c = goes (units 0) c (value_of answer c.state) _ (λ j v. delivers c j target v w _ (same c))
  acts p (begin n args) w c = calls p (units 0) n args outward w c

  -- where no more have ended they are the same
  pub none_ended : (b d : Configuration W E) → Extends b d → calls_ended d ≡ calls_ended b → (d.calls ≡ b.calls) × (d.world ≡ b.world)
  none_ended b d h e = by h.0 h.1 h.2 (ap length h.1 ∙ length-append b.calls h.0)
    where
      by : (more : List (List E)) → d.calls ≡ b.calls ++ more → (more ≡ [] → d.world ≡ b.world) → length d.calls ≡ length b.calls + length more → (d.calls ≡ b.calls) × (d.world ≡ b.world)
      by [] is world n = (is ∙ append-nil b.calls, world refl)
      by (entry ∷ rest) is world n = absurd (omega (arith, n, e))
