-- Where words of globals, heap and frames lie, and what stays as it was while others change.
use Rattle.std.specs.Prelude.{map, slice_get, IsTrue, Some, unwrap_or, if◌then◌else◌}
use Rattle.std.specs.Option.{option_map}
use Rattle.std.proofs.Common.{◌≡◌, ◌≢◌, ℕ, ◌+◌, ◌-◌, ◌<◌, ◌≤◌, Bool, true, false, List, [], ◌∷◌, ◌++◌, refl, ap, ap₂, ◌∙◌, subst, arith, eq-eqb, ne_eqb}
use Rattle.std.proofs.lemmas.Bool.{cond-true, cond-false}
use Rattle.mips_table.specs.Code.{Contents, Behind, put}
use Rattle.c0_tree.specs.Tree.{CDecl, CFunction, CUnit}
use Rattle.c0_meaning.specs.Ty.{Ty}
use Rattle.c0_meaning.specs.Env.{Typed, Shape, typed_of}
use Rattle.c0_meaning.specs.Words.{all_words}
use Rattle.c0_meaning.specs.Limits.{words_of_frame, locals_of}
use Rattle.c0_meaning.specs.Sound.{shapes}
use Rattle.c0_meaning.specs.State.{Frame, C0State, stack_words, variables_of}
use Rattle.c0_meaning.specs.TypedState.{types_of}
use Rattle.c0_typed.specs.Leaf.{calls_in}
use Rattle.c0_expr_code.specs.declared.facts.Facts.{Facts}
use Rattle.c0_expr_code.specs.Facts.{SureHold}
use Rattle.c0_expr_runs.specs.Bases.{words_of_all, LocalsHeld}
use Rattle.c0_expr_runs.specs.Relation.{FactsHold}
use Rattle.c0_runs.specs.Setup.{Setup}
use Rattle.c0_runs.specs.Ahead.{Activation, knowing}
use Rattle.c0_runs.specs.Standing.{scope, bases, end_of, VariablesHeld, Waiting, FunctionRuns}
use Rattle.c0_runs.proofs.PremisesFromBelow.{HeldStays}
use Rattle.c0_runs.proofs.LiveAroundSteps.{with_live}

-- a word that is written, and the others
pub put_same : (m : ℕ → ℕ) (a v : ℕ) → put m a v a ≡ v
put_same m a v = cond-true _ v (m a) (eq-eqb a a refl)

pub put_other : (m : ℕ → ℕ) (a v k : ℕ) → k ≢ a → put m a v k ≡ m k
put_other m a v k ne = cond-false _ v (m k) (ne_eqb k a ne)

-- words of declarations, by their types
pub words_by_types : (structs : List Shape) (ds : List Typed) → words_of_all structs (types_of ds) ≡ all_words structs ds
words_by_types structs [] = refl
words_by_types structs (d ∷ ds) = let e = words_by_types structs ds in omega (arith, e)

words_joined : (structs : List Shape) (ds bs : List CDecl) → words_of_all structs (types_of (map typed_of (ds ++ bs))) ≡ all_words structs (map typed_of ds) + all_words structs (map typed_of bs)
words_joined structs [] bs = words_by_types structs (map typed_of bs) ∙ omega arith
words_joined structs (a ∷ ds) bs = let e = words_joined structs ds bs in omega (arith, e)

-- a frame has three words beside its variables
pub frame_words : (u : CUnit) (f : CFunction) → words_of_all (shapes u) (types_of (map typed_of (f.params ++ locals_of f.body))) + 3 ≡ words_of_frame (shapes u) f
frame_words u f = let e = words_joined (shapes u) f.params (locals_of f.body) in omega (arith, e)

pub frame_on : (u : CUnit) (g : Frame) (fs : List Frame) (f : CFunction) → slice_get u.functions g.function ≡ Some f → stack_words u (g ∷ fs) ≡ words_of_frame (shapes u) f + stack_words u fs
frame_on u g fs f is = ap (λ o. unwrap_or (option_map (words_of_frame (shapes u)) o) 0 + stack_words u fs) is

module _ (W E : Type 0) (Outer : W → Contents → Behind → Type 0) (z : Setup W E Outer) (held : HeldStays (shapes z.p.unit)) where
  -- the variables in a frame stay while its words do
  pub variables_same : (objects : List Ty) (live : ℕ → Bool) (r r' m m' : ℕ → ℕ) (f : CFunction) (g : Frame) (fs : List Frame) (b : Bool) → (scope W E Outer z f).in_registers ≡ false → slice_get z.p.unit.functions g.function ≡ Some f
      → ((x : ℕ) → end_of W E Outer z fs + 3 ≤ x → x < end_of W E Outer z (g ∷ fs) → m' x ≡ m x) → VariablesHeld W E Outer z objects live r m f (g ∷ fs) → VariablesHeld W E Outer z objects live r' m' f (g ∷ fs)
  variables_same objects live r r' m m' f g fs b form is e v = by_form (scope W E Outer z f).in_registers form v
    where
      by_form : (b : Bool) → b ≡ false → LocalsHeld (scope W E Outer z f) (bases W E Outer z objects (g ∷ fs)) live (if b then r else m) (if b then 20 else (end_of W E Outer z (g ∷ fs) - words_of_frame (shapes z.p.unit) f) + 3) (types_of (scope W E Outer z f).env.locals) g.variables
          → LocalsHeld (scope W E Outer z f) (bases W E Outer z objects (g ∷ fs)) live (if b then r' else m') (if b then 20 else (end_of W E Outer z (g ∷ fs) - words_of_frame (shapes z.p.unit) f) + 3) (types_of (scope W E Outer z f).env.locals) g.variables
      by_form true q h = absurd (cc)
      by_form false q h =
          let on = frame_on z.p.unit g fs f is in
          let ws = frame_words z.p.unit f in
          held.same_locals (scope W E Outer z f) (bases W E Outer z objects (g ∷ fs)) live m m' ((end_of W E Outer z (g ∷ fs) - words_of_frame (shapes z.p.unit) f) + 3) (types_of (scope W E Outer z f).env.locals) g.variables refl
          (λ x le lt. e x (omega (arith, on, le)) (omega (arith, on, ws, lt))) h

  -- the functions that wait stay while the words of their frames do
  pub waiting_same : (objects : List Ty) (m m' : ℕ → ℕ) (acts : List Activation) (fs : List Frame) → ((x : ℕ) → z.a.stack ≤ x → x < end_of W E Outer z fs → m' x ≡ m x) → Waiting W E Outer z objects m acts fs → Waiting W E Outer z objects m' acts fs
  waiting_same objects m m' [] [] e h = tt
  waiting_same objects m m' (a ∷ acts) (g ∷ fs) e h =
      let on = frame_on z.p.unit g fs a.function h.0.is in
      let ws = frame_words z.p.unit a.function in (
        record {
          is = h.0.is;
          in_frame = h.0.in_frame;
          calls = h.0.calls;
          return_at = e (end_of W E Outer z fs) (omega arith) (omega (arith, on, ws)) ∙ h.0.return_at;
          variables = variables_same objects a.live m m' m m' a.function g fs true h.0.in_frame h.0.is (λ x le lt. e x (omega (arith, le)) lt) h.0.variables;
          forgotten = h.0.forgotten;
          sure = h.0.sure;
        },
        waiting_same objects m m' acts fs (λ x le lt. e x le (omega (arith, on, lt))) h.1,
      )
  waiting_same objects m m' [] (g ∷ fs) e h = absurd h
  waiting_same objects m m' (a ∷ acts) [] e h = absurd h

  -- other facts of the function that runs
  pub runs_knowing : (objects : List Ty) (c : Contents) (a : Activation) (known : Facts) (s : C0State) (g : Frame) (fs : List Frame) → s.frames ≡ g ∷ fs → FactsHold (scope W E Outer z a.function) (bases W E Outer z objects (g ∷ fs)) known s c → FunctionRuns W E Outer z objects c a g fs
      → FunctionRuns W E Outer z objects c (knowing a known) g fs
  runs_knowing objects c a known s g fs e facts h = record {
    is = h.is;
    return_at = h.return_at;
    frame_at = h.frame_at;
    variables = h.variables;
    registers = facts.registers;
    sure = subst (λ y. SureHold known (variables_of y)) e facts.sure;
  }

  -- the function that runs stays while the registers from 20 on and its frame's words do, as far as facts hold then
  pub runs_same : (objects : List Ty) (c c' : Contents) (a : Activation) (g : Frame) (fs : List Frame) (known : Facts) (s : C0State) → s.frames ≡ g ∷ fs → FactsHold (scope W E Outer z a.function) (bases W E Outer z objects (g ∷ fs)) known s c'
      → ((x : ℕ) → 20 ≤ x → c'.regs x ≡ c.regs x) → ((x : ℕ) → end_of W E Outer z fs ≤ x → x < end_of W E Outer z (g ∷ fs) → c'.memory x ≡ c.memory x)
      → FunctionRuns W E Outer z objects c a g fs → FunctionRuns W E Outer z objects c' (knowing a known) g fs
  runs_same objects c c' a g fs known s e facts regs words h =
      let on = frame_on z.p.unit g fs a.function h.is in
      let ws = frame_words z.p.unit a.function in
      record {
        is = h.is;
        return_at = ap₂ (λ m r. if calls_in a.function.body then m else r) (words (end_of W E Outer z fs) (omega arith) (omega (arith, on, ws))) (regs 31 (omega arith)) ∙ h.return_at;
        frame_at = regs 29 (omega arith) ∙ h.frame_at;
        variables = by_form (scope W E Outer z a.function).in_registers h.variables;
        registers = facts.registers;
        sure = subst (λ y. SureHold known (variables_of y)) e facts.sure;
      }
    where
      by_form : (b : Bool) → LocalsHeld (scope W E Outer z a.function) (bases W E Outer z objects (g ∷ fs)) a.live (if b then c.regs else c.memory) (if b then 20 else (end_of W E Outer z (g ∷ fs) - words_of_frame (shapes z.p.unit) a.function) + 3) (types_of (scope W E Outer z a.function).env.locals) g.variables
          → LocalsHeld (scope W E Outer z a.function) (bases W E Outer z objects (g ∷ fs)) a.live (if b then c'.regs else c'.memory) (if b then 20 else (end_of W E Outer z (g ∷ fs) - words_of_frame (shapes z.p.unit) a.function) + 3) (types_of (scope W E Outer z a.function).env.locals) g.variables
      by_form true v = held.same_locals (scope W E Outer z a.function) (bases W E Outer z objects (g ∷ fs)) a.live c.regs c'.regs 20 (types_of (scope W E Outer z a.function).env.locals) g.variables refl (λ x le lt. regs x le) v
      by_form false v =
          let on = frame_on z.p.unit g fs a.function h.is in
          let ws = frame_words z.p.unit a.function in
          held.same_locals (scope W E Outer z a.function) (bases W E Outer z objects (g ∷ fs)) a.live c.memory c'.memory ((end_of W E Outer z (g ∷ fs) - words_of_frame (shapes z.p.unit) a.function) + 3) (types_of (scope W E Outer z a.function).env.locals) g.variables refl
          (λ x le lt. words x (omega (arith, on, le)) (omega (arith, on, ws, lt))) v

  -- fewer variables are live
  pub fewer_live : (objects : List Ty) (c : Contents) (a : Activation) (later : ℕ → Bool) (g : Frame) (fs : List Frame) → ((n : ℕ) → IsTrue (later n) → IsTrue (a.live n)) → FunctionRuns W E Outer z objects c a g fs
      → FunctionRuns W E Outer z objects c (with_live a later) g fs
  fewer_live objects c a later g fs was h = record {
    is = h.is;
    return_at = h.return_at;
    frame_at = h.frame_at;
    variables = record { whole = h.variables.whole; held = h.variables.held; same = λ n t there is_live k less. h.variables.same n t there (was n is_live) k less };
    registers = h.registers;
    sure = h.sure;
  }
