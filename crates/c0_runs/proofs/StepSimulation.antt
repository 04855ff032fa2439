-- A step of the meaning and the machine side by side: how a step's parts join, and where it arrives.
use Rattle.std.specs.Prelude.{Ok, Err, map}
use Rattle.std.proofs.Common.{◌≡◌, ◌≢◌, ℕ, ◌+◌, ◌*◌, ◌≤◌, List, [], ◌∷◌, refl, sym, ap, ◌∙◌, subst, arith, inl}
use Rattle.mips_table.specs.Code.{Contents, Behind, CodeState, at_with, RunLaws}
use Rattle.masm.specs.Laws.{RunsCompose, JumpsLead}
use Rattle.c0_tree.specs.Tree.{CStmts, CFunction}
use Rattle.c0_meaning.specs.Ty.{Ty}
use Rattle.c0_meaning.specs.Env.{typed_of}
use Rattle.c0_meaning.specs.Operators.{faulted, stuck}
use Rattle.c0_meaning.specs.Evaluation.{Costed, costs}
use Rattle.c0_meaning.specs.World.{Cost, units, plus, Configuration, calls_ended}
use Rattle.c0_meaning.specs.Running.{Work, act_on, finish, again, leave, begin, push, Step, Go, Stop, then_go}
use Rattle.c0_meaning.specs.TypedState.{types_of}
use Rattle.c0_expr_runs.specs.Bases.{RegionHeld}
use Rattle.c0_expr_runs.specs.Relation.{KeepsRegisters, Evaluates, Splits}
use Rattle.c0_runs.specs.Setup.{Setup}
use Rattle.c0_runs.specs.Journey.{RunStopped}
use Rattle.c0_runs.specs.Ahead.{Activation, Block, Ahead, AllAreLive, knowing}
use Rattle.c0_runs.proofs.FunctionsUnderWay.{under_fewer}
use Rattle.c0_runs.proofs.LiveAroundSteps.{AreLiveBehind, pushed_live}
use Rattle.c0_runs.specs.Standing.{code_text, scope, bases, unit_scope, UnderWay, ConfigurationStands, Simulated, AtExit, IsGone, StepIs}
use Rattle.c0_runs.proofs.RunStretches.{Stretch, on, of, away, within}
use Rattle.c0_runs.proofs.UnitsWithinNodes.{Within}
use Rattle.c0_runs.proofs.WorkAsCode.{Goes, taken, behind}

module _ (W E : Type 0) (Outer : W → Contents → Behind → Type 0) (z : Setup W E Outer) where
  -- what a step comes to that calls no primitive
  abbrev pub GoesOn : (debt : ℕ) → Configuration W E → CodeState → Step W E → Type 0
  GoesOn debt h s (Go cost work h') = IsGone W E Outer z debt h s cost work h'
  GoesOn debt h s (Stop cost (faulted f) h') = (t : CodeState) × RunStopped z.w cost.own debt h h' s t × AtExit W E Outer z f h' t
  GoesOn debt h s (Stop cost stuck h') = ⊥

  -- it is what the law says of a step, whatever the work item is
  pub goes_on : (debt : ℕ) (item : Work) (h : Configuration W E) (s : CodeState) (step : Step W E) → GoesOn debt h s step → StepIs W E Outer z debt item h s step
  goes_on debt item h s (Go cost work h') g = inl g
  goes_on debt item h s (Stop cost (faulted f) h') g = g
  goes_on debt item h s (Stop cost stuck h') g = absurd g

module _ (runs : RunLaws) (compose : RunsCompose) (W E : Type 0) (Outer : W → Contents → Behind → Type 0) (z : Setup W E Outer) (jumps : JumpsLead z.w) where
  abbrev pub Path : (least most : ℕ) → CodeState → CodeState → Type 0
  Path l n s t = Stretch runs z.w l n s t

  abbrev pub Standing : List Ty → Configuration W E → Contents → Behind → Type 0
  Standing objects h c d = ConfigurationStands W E Outer z objects h c d

  -- the data stand after code of expressions
  pub stands_on : (objects : List Ty) (h : Configuration W E) (c c' : Contents) (d : Behind) → KeepsRegisters 0 0 c c' → Standing objects h c d → Standing objects h c' d
  stands_on objects h c c' d k st = record {
    typed = st.typed;
    declared = st.declared;
    used = st.used;
    room = st.room;
    stack_room = st.stack_room;
    globals = subst (λ m. RegionHeld (unit_scope z.p.unit) (bases W E Outer z objects []) m z.a.globals (types_of (map typed_of z.p.unit.globals)) h.state.global_values) (sym k.memory) st.globals;
    heap = subst (λ m. RegionHeld (unit_scope z.p.unit) (bases W E Outer z objects []) m z.a.heap objects h.state.heap_values) (sym k.memory) st.heap;
    used_word = ap (λ m. m 1026) k.memory ∙ st.used_word;
    heap_size = ap (λ m. m 1027) k.memory ∙ st.heap_size;
    heap_first = ap (λ m. m 1028) k.memory ∙ st.heap_first;
    stack_first = ap (λ m. m 1029) k.memory ∙ st.stack_first;
    stack_limit = ap (λ m. m 1030) k.memory ∙ st.stack_limit;
    globals_at = k.above 28 (omega arith) (omega arith) ∙ st.globals_at;
    stack_end = k.above 30 (omega arith) (omega arith) ∙ st.stack_end;
    outer = z.outer_stays h.world c c' d (λ y o. ap (λ m. m y) k.memory) k.special st.outer;
    idle = st.idle;
  }

  -- what is left to do stands, where it stands ahead
  pub simulated : (debt : ℕ) (work : List Work) (h : Configuration W E) (k : ℕ) (c : Contents) (d : Behind) (objects : List Ty) (a : Activation) (others : List Activation) → Standing objects h c d
      → UnderWay W E Outer z objects c (a ∷ others) h.state.frames → Ahead (code_text W E Outer z) (a ∷ others) k debt work → AllAreLive (a ∷ others) work → Simulated W E Outer z debt work h (at_with k c d)
  simulated debt [] h k c d objects a others st under there live = absurd there
  simulated debt (act_on t rest ∷ work) h k c d objects a others st under there live = record { objects = objects; stands = st; activations = a ∷ others; under_way = under; ahead = there; live = live }
  simulated debt (again t body rest ∷ work) h k c d objects a others st under there live = record { objects = objects; stands = st; activations = a ∷ others; under_way = under; ahead = there; live = live }
  simulated debt (leave answer target ∷ work) h k c d objects a others st under there live = record { objects = objects; stands = st; activations = a ∷ others; under_way = under; ahead = there; live = live }
  simulated debt (finish place v rest ∷ work) h k c d objects a others st under there live = absurd there
  simulated debt (begin n args ∷ work) h k c d objects a others st under there live = absurd there

  -- a step is done where the next statements stand
  pub arrives : (l n debt debt' : ℕ) (cost : Cost) (h h' : Configuration W E) (s : CodeState) (k : ℕ) (c : Contents) (d : Behind) (objects : List Ty) (a : Activation) (others : List Activation) (rest : CStmts) (work : List Work)
      → Path l n s (at_with k c d) → cost.own ≤ 2048 * l → n + debt' ≤ 30 * cost.own + debt → calls_ended h' ≡ calls_ended h → Standing objects h' c d → UnderWay W E Outer z objects c (a ∷ others) h'.state.frames
      → Block (code_text W E Outer z) a.function a.facts k debt' rest (λ fs to left. Goes (code_text W E Outer z) a others work fs to left) → AreLiveBehind a.live others rest work → GoesOn W E Outer z debt h s (Go cost (push rest work) h')
  arrives l n debt debt' cost h h' s k c d objects a others rest work path low high en st under block live =
      let b = behind (code_text W E Outer z) a others k debt' rest work block in
      let owed : debt' ≡ b.count + b.left = b.owed in
      let go = taken runs compose z.w jumps b.count k b.to c d st.idle b.skips in
      let way = within runs z.w (l + 0) (n + b.count) l (n + b.count) s (at_with b.to c d) (omega arith) (omega arith) (on runs z.w l n 0 b.count s (at_with k c d) (at_with b.to c d) path go) in
      let le = way.high in
      let ge = way.low in
      (at_with b.to c d, b.left, record { own = way.own; high = omega (arith, le, high, owed); low = omega (arith, ge, low); ended_so = en; run = way.run }, simulated b.left (push rest work) h' b.to c d objects (knowing a b.known) others st (under_fewer W E Outer z objects c a others h'.state.frames b.known b.fewer under) b.ahead (pushed_live (knowing a b.known) others rest work live))

  -- an evaluation on the way of a step: it leads on, or the step stops at its fault's exit
  pub then_comes : {A : Type 0} (l n own debt lo hi : ℕ) (cost : Cost) (h h0 : Configuration W E) (s : CodeState) (f : CFunction) (from to : ℕ) (c : Contents) (d : Behind) (objects : List Ty) (Q : A → Contents → Type 0) (e : Costed A) (go : Cost → A → Step W E)
      → Path l n s (at_with from c d) → n + own ≤ 30 * cost.own + debt → calls_ended h ≡ calls_ended h0 → Standing objects h c d → Within lo hi e → Evaluates z.w (scope W E Outer z f) own from to c d Q e
      → ((k : ℕ) (x : A) (c' : Contents) → lo ≤ k → k ≤ hi → Q x c' → Path l (n + (own + 16 * k)) s (at_with to c' d) → GoesOn W E Outer z debt h0 s (go (plus cost (units k)) x)) → GoesOn W E Outer z debt h0 s (then_go cost h e go)
  then_comes l n own debt lo hi cost h h0 s f from to c d objects Q (costs k (Ok x)) go path high en st bounds comes next =
      next k x comes.0 bounds.0 bounds.1 comes.1 (within runs z.w (l + 0) (n + (own + 16 * k)) l (n + (own + 16 * k)) s (at_with to comes.0 d) (omega arith) (omega arith) (on runs z.w l n 0 (own + 16 * k) s (at_with from c d) (at_with to comes.0 d) path (of runs z.w (own + 16 * k) _ _ comes.2)))
  then_comes l n own debt lo hi cost h h0 s f from to c d objects Q (costs k (Err (faulted x))) go path high en st bounds comes next =
      let exit = (scope W E Outer z f).exit x in
      let way = on runs z.w l n 0 (own + 16 * k) s (at_with from c d) (at_with exit comes.0 d) path (of runs z.w (own + 16 * k) _ _ comes.2) in
      let le = way.high in
      (at_with exit comes.0 d, record { own = way.own; high = omega (arith, le, high); ended_so = omega (arith, en); run = way.run }, record { objects = objects; stands = stands_on objects h c comes.0 d comes.1 st; at = refl })
  then_comes l n own debt lo hi cost h h0 s f from to c d objects Q (costs k (Err stuck)) go path high en st bounds comes next = absurd comes

  -- a test on the way of a step
  pub then_splits : {A : Type 0} (l n own debt lo hi : ℕ) (cost : Cost) (h h0 : Configuration W E) (s : CodeState) (f : CFunction) (from : ℕ) (to : A → ℕ) (c : Contents) (d : Behind) (objects : List Ty) (Q : A → Contents → Type 0) (e : Costed A) (go : Cost → A → Step W E) → ((x : A) → from ≢ to x)
      → Path l n s (at_with from c d) → n + own ≤ 30 * cost.own + debt → calls_ended h ≡ calls_ended h0 → Standing objects h c d → Within lo hi e → Splits z.w (scope W E Outer z f) own from to c d Q e
      → ((k : ℕ) (x : A) (c' : Contents) → lo ≤ k → k ≤ hi → Q x c' → Path (l + 1) (n + (own + 16 * k)) s (at_with (to x) c' d) → GoesOn W E Outer z debt h0 s (go (plus cost (units k)) x)) → GoesOn W E Outer z debt h0 s (then_go cost h e go)
  then_splits l n own debt lo hi cost h h0 s f from to c d objects Q (costs k (Ok x)) go apart path high en st bounds comes next =
      next k x comes.0 bounds.0 bounds.1 comes.1 (within runs z.w (l + 1) (n + (own + 16 * k)) (l + 1) (n + (own + 16 * k)) s (at_with (to x) comes.0 d) (omega arith) (omega arith) (on runs z.w l n 1 (own + 16 * k) s (at_with from c d) (at_with (to x) comes.0 d) path (away runs z.w (own + 16 * k) (at_with from c d) (at_with (to x) comes.0 d) (apart x) comes.2)))
  then_splits l n own debt lo hi cost h h0 s f from to c d objects Q (costs k (Err (faulted x))) go apart path high en st bounds comes next =
      let exit = (scope W E Outer z f).exit x in
      let way = on runs z.w l n 0 (own + 16 * k) s (at_with from c d) (at_with exit comes.0 d) path (of runs z.w (own + 16 * k) _ _ comes.2) in
      let le = way.high in
      (at_with exit comes.0 d, record { own = way.own; high = omega (arith, le, high); ended_so = omega (arith, en); run = way.run }, record { objects = objects; stands = stands_on objects h c comes.0 d comes.1 st; at = refl })
  then_splits l n own debt lo hi cost h h0 s f from to c d objects Q (costs k (Err stuck)) go apart path high en st bounds comes next = absurd comes
