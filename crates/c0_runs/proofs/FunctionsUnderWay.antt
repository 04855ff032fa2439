-- The functions under way, and the state in which the code of expressions runs.
use Rattle.std.specs.Prelude.{map, slice_get, if◌then◌else◌, Option, Some}
use Rattle.std.proofs.Common.{◌≡◌, ℕ, ◌+◌, ◌-◌, ◌*◌, ◌≤◌, Bool, true, false, List, [], ◌∷◌, refl, sym, ap, ap₂, ◌∙◌, subst, arith}
use Rattle.mips_table.specs.Code.{Contents, Behind}
use Rattle.c0_tree.specs.Tree.{CFunction}
use Rattle.c0_meaning.specs.Ty.{Ty}
use Rattle.c0_meaning.specs.Env.{typed_of}
use Rattle.c0_meaning.specs.Sound.{shapes}
use Rattle.c0_meaning.specs.Value.{Value}
use Rattle.c0_meaning.specs.State.{Frame, C0State, stack_words, variables_of}
use Rattle.c0_meaning.specs.World.{Configuration}
use Rattle.c0_meaning.specs.Limits.{words_of_frame}
use Rattle.c0_meaning.specs.TypedState.{types_of, IsTypedWith, AreDeclared}
use Rattle.c0_typed.specs.Leaf.{calls_in}
use Rattle.c0_expr_code.specs.Scope.{Scope}
use Rattle.c0_expr_runs.specs.Bases.{words_of_all, LocalsHeld}
use Rattle.c0_expr_code.specs.declared.facts.Facts.{Facts}
use Rattle.c0_expr_code.specs.Facts.{IsWithin, SureHold}
use Rattle.c0_expr_runs.specs.Relation.{Ready, FactsHold, KeepsRegisters}
use Rattle.c0_runs.specs.Setup.{Setup}
use Rattle.c0_runs.specs.Ahead.{Activation, knowing, body_env}
use Rattle.c0_runs.specs.Standing.{code_text, scope, bases, end_of, unit_scope, Waiting, FunctionRuns, UnderWay, ConfigurationStands}
use Rattle.c0_runs.proofs.PremisesFromBelow.{ExpressionsDo, HeldStays}
use Rattle.c0_runs.proofs.FactsKept.{registers_within}
use Rattle.c0_runs.proofs.ValuesStay.{Rest, region}

-- what a scope has beside structs and globals
abbrev pub rest_of : Scope → Rest
rest_of sc = record { functions = sc.env.functions; primitives = sc.env.primitives; locals = sc.env.locals; in_registers = sc.in_registers; frame = sc.frame; exit = sc.exit }

-- a configuration by its parts
abbrev pub state_of : Value → Value → ℕ → List Frame → C0State
state_of gv hv hw frames = record { global_values = gv; heap_values = hv; heap_words = hw; frames = frames }

abbrev pub standing_at : {W E : Type 0} → Value → Value → ℕ → List Frame → W → List (List E) → Option Value → Configuration W E
standing_at gv hv hw frames world calls answer = record { state = state_of gv hv hw frames; world = world; calls = calls; answer = answer }

module _ (W E : Type 0) (Outer : W → Contents → Behind → Type 0) (z : Setup W E Outer) where
  -- what is known of the expressions of each function that runs
  abbrev pub Exprs : Type 0
  Exprs = (objects : List Ty) (s : C0State) (g : Frame) (fs : List Frame) (f : CFunction) (live : ℕ → Bool) → s.frames ≡ g ∷ fs → slice_get z.p.unit.functions g.function ≡ Some f → IsTypedWith z.p.unit objects s → AreDeclared (shapes z.p.unit) objects
      → words_of_all (shapes z.p.unit) objects ≤ z.p.heap → stack_words z.p.unit (g ∷ fs) ≤ z.p.stack
      → ExpressionsDo z.w (body_env (code_text W E Outer z) f) (scope W E Outer z f) (bases W E Outer z objects (g ∷ fs)) live s

  -- what is known holds in the function that runs
  pub its_facts : (objects : List Ty) (gv hv : Value) (hw : ℕ) (g : Frame) (fs : List Frame) (c : Contents) (a : Activation) → FunctionRuns W E Outer z objects c a g fs → FactsHold (scope W E Outer z a.function) (bases W E Outer z objects (g ∷ fs)) a.facts (state_of gv hv hw (g ∷ fs)) c
  its_facts objects gv hv hw g fs c a r = record { registers = r.registers; sure = r.sure }

  -- less is known of the function that runs
  pub under_fewer : (objects : List Ty) (c : Contents) (a : Activation) (others : List Activation) (frames : List Frame) (less : Facts) → IsWithin less a.facts → UnderWay W E Outer z objects c (a ∷ others) frames → UnderWay W E Outer z objects c (knowing a less ∷ others) frames
  under_fewer objects c a others (g ∷ fs) less w h = (
    record {
      is = h.0.is;
      return_at = h.0.return_at;
      frame_at = h.0.frame_at;
      variables = h.0.variables;
      registers = λ e. registers_within (scope W E Outer z a.function) (bases W E Outer z objects (g ∷ fs)) less a.facts c w (h.0.registers e);
      sure = λ n y. h.0.sure n (w.sure n y);
    },
    h.1,
  )
  under_fewer objects c a others [] less w h = absurd h

  -- the state stands ready for the expressions of the function that runs
  pub ready : (objects : List Ty) (gv hv : Value) (hw : ℕ) (g : Frame) (fs : List Frame) (world : W) (calls : List (List E)) (answer : Option Value) (c : Contents) (d : Behind) (a : Activation)
      → ConfigurationStands W E Outer z objects (standing_at gv hv hw (g ∷ fs) world calls answer) c d → FunctionRuns W E Outer z objects c a g fs
      → Ready (scope W E Outer z a.function) (bases W E Outer z objects (g ∷ fs)) a.live (state_of gv hv hw (g ∷ fs)) c
  ready objects gv hv hw g fs world calls answer c d a st r = record {
    globals_at = st.globals_at;
    frame_at = λ e. r.frame_at ∙ ap (λ b. 4 * (if b then end_of W E Outer z fs else end_of W E Outer z (g ∷ fs))) e;
    global_values = region (shapes z.p.unit) (map typed_of z.p.unit.globals) z.a.globals z.a.heap objects objects (λ path t h. refl) (rest_of (unit_scope z.p.unit)) (rest_of (scope W E Outer z a.function))
        (end_of W E Outer z []) (end_of W E Outer z (g ∷ fs)) c.memory z.a.globals (types_of (map typed_of z.p.unit.globals)) gv st.typed.global_values st.globals;
    heap_values = region (shapes z.p.unit) (map typed_of z.p.unit.globals) z.a.globals z.a.heap objects objects (λ path t h. refl) (rest_of (unit_scope z.p.unit)) (rest_of (scope W E Outer z a.function))
        (end_of W E Outer z []) (end_of W E Outer z (g ∷ fs)) c.memory z.a.heap objects hv st.typed.heap_values st.heap;
    local_values = r.variables;
  }

  module _ (held : HeldStays (shapes z.p.unit)) where
    -- the functions under way stay so under code of expressions, as far as facts hold then
    pub under_on : (objects : List Ty) (s : C0State) (g : Frame) (fs : List Frame) (c c' : Contents) (a : Activation) (others : List Activation) (known : Facts) → KeepsRegisters 0 0 c c' → s.frames ≡ g ∷ fs → FactsHold (scope W E Outer z a.function) (bases W E Outer z objects (g ∷ fs)) known s c'
        → UnderWay W E Outer z objects c (a ∷ others) (g ∷ fs) → UnderWay W E Outer z objects c' (knowing a known ∷ others) (g ∷ fs)
    under_on objects s g fs c c' a others known k e facts h = (
      record {
        is = h.0.is;
        return_at = ap₂ (λ m r. if calls_in a.function.body then m else r) (ap (λ m. m (end_of W E Outer z fs)) k.memory) (k.above 31 (omega arith) (omega arith)) ∙ h.0.return_at;
        frame_at = k.above 29 (omega arith) (omega arith) ∙ h.0.frame_at;
        variables = by_form (scope W E Outer z a.function).in_registers h.0.variables;
        registers = facts.registers;
        sure = subst (λ y. SureHold known (variables_of y)) e facts.sure;
      },
      subst (λ m. Waiting W E Outer z objects m others fs) (sym k.memory) h.1,
    )
      where
        by_form : (b : Bool) → LocalsHeld (scope W E Outer z a.function) (bases W E Outer z objects (g ∷ fs)) a.live (if b then c.regs else c.memory) (if b then 20 else (end_of W E Outer z (g ∷ fs) - words_of_frame (shapes z.p.unit) a.function) + 3) (types_of (scope W E Outer z a.function).env.locals) g.variables
            → LocalsHeld (scope W E Outer z a.function) (bases W E Outer z objects (g ∷ fs)) a.live (if b then c'.regs else c'.memory) (if b then 20 else (end_of W E Outer z (g ∷ fs) - words_of_frame (shapes z.p.unit) a.function) + 3) (types_of (scope W E Outer z a.function).env.locals) g.variables
        by_form true v = held.same_locals (scope W E Outer z a.function) (bases W E Outer z objects (g ∷ fs)) a.live c.regs c'.regs 20 (types_of (scope W E Outer z a.function).env.locals) g.variables refl (λ x le lt. k.above x (λ e. absurd (omega (arith, e, le))) le) v
        by_form false v = subst (λ m. LocalsHeld (scope W E Outer z a.function) (bases W E Outer z objects (g ∷ fs)) a.live m ((end_of W E Outer z (g ∷ fs) - words_of_frame (shapes z.p.unit) a.function) + 3) (types_of (scope W E Outer z a.function).env.locals) g.variables) (sym k.memory) v
