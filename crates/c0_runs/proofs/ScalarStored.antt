-- A scalar is stored at a location: the state of C0 with it stands in the machine.
use Rattle.std.specs.Prelude.{map, IsTrue, if◌then◌else◌}
use Rattle.std.proofs.Common.{◌≡◌, ◌≢◌, ℕ, ◌+◌, ◌-◌, ◌<◌, ◌≤◌, ◌⊎◌, inl, inr, Bool, true, false, Option, List, [], ◌∷◌, refl, ap, ap₂, ◌∙◌, arith}
use Rattle.mips_table.specs.Code.{Contents, Behind, put as put_word}
use Rattle.c0_meaning.specs.Ty.{Ty, is_scalar}
use Rattle.c0_meaning.specs.Env.{typed_of}
use Rattle.c0_meaning.specs.Limits.{words_of_frame}
use Rattle.c0_meaning.specs.Sound.{shapes}
use Rattle.c0_meaning.specs.Addresses.{words_to_part}
use Rattle.c0_meaning.specs.Value.{Region, globals, heap, locals, Value, value_with}
use Rattle.c0_meaning.specs.State.{Frame, write}
use Rattle.c0_meaning.specs.TypedState.{types_of, LeadsFrom, Fits, store_typing}
use Rattle.c0_typed.specs.Leaf.{calls_in}
use Rattle.c0_expr_runs.specs.Bases.{location_word, word_of_scalar, LocalsHeld}
use Rattle.c0_runs.specs.Setup.{Setup}
use Rattle.c0_expr_code.specs.declared.facts.Facts.{Facts}
use Rattle.c0_expr_runs.specs.Relation.{FactsHold}
use Rattle.c0_runs.specs.Ahead.{Activation, knowing}
use Rattle.c0_runs.specs.Standing.{scope, bases, end_of, unit_scope, Waiting, FunctionRuns, UnderWay, ConfigurationStands}
use Rattle.c0_runs.proofs.PremisesFromBelow.{HeldStays, TypedStays, types_for}
use Rattle.c0_runs.proofs.ValuesStay.{word_same}
use Rattle.c0_runs.proofs.FunctionsUnderWay.{rest_of, state_of, standing_at}
use Rattle.c0_runs.proofs.RegionsApart.{put_same, put_other, words_by_types, frame_words, frame_on, waiting_same, runs_same, fewer_live}
use Rattle.c0_runs.proofs.LiveAroundSteps.{with_live}

-- what isn't stored to a variable is live as before
kept_live : (r : Region) (path : List ℕ) (n : ℕ) (x : Bool) → r ≢ locals → IsTrue x ⊎ ((r ≡ locals) × (path ≡ n ∷ [])) → IsTrue x
kept_live r path n x ne (inl h) = h
kept_live r path n x ne (inr h) = absurd (ne h.0)

part_of : {x y z : Type 0} → x ⊎ (y × z) → x ⊎ z
part_of (inl h) = inl h
part_of (inr h) = inr h.1

module _ (W E : Type 0) (Outer : W → Contents → Behind → Type 0) (z : Setup W E Outer) (held : HeldStays (shapes z.p.unit)) (typing : TypedStays z.p.unit)
    (objects : List Ty) (gv hv : Value) (hw : ℕ) (g : Frame) (fs : List Frame) (world : W) (calls : List (List E)) (answer : Option Value) (c : Contents) (d : Behind) (a : Activation) (others : List Activation)
    (st : ConfigurationStands W E Outer z objects (standing_at gv hv hw (g ∷ fs) world calls answer) c d) (r : FunctionRuns W E Outer z objects c a g fs) (waits : Waiting W E Outer z objects c.memory others fs) where
  -- the word of a location
  abbrev pub place : Region → List ℕ → ℕ
  place region path = location_word (scope W E Outer z a.function) (bases W E Outer z objects (g ∷ fs)) (record { region = region; path = path })

  abbrev pub its_word : Value → ℕ
  its_word v = word_of_scalar (scope W E Outer z a.function) (bases W E Outer z objects (g ∷ fs)) v

  -- where it lies
  pub record IsInData (region : Region) (path : List ℕ) : Type 0 where
    pub from : z.a.globals ≤ place region path
    pub to : place region path < z.a.stack + z.p.stack

  -- the local's word, in a frame
  local_at : (path : List ℕ) (b : Bool) → b ≡ false → (if b then 20 else (end_of W E Outer z (g ∷ fs) - words_of_frame (shapes z.p.unit) a.function) + 3) ≡ end_of W E Outer z fs + 3
  local_at path true e = absurd (cc)
  local_at path false e = let on = frame_on z.p.unit g fs a.function r.is in omega (arith, on)

  pub in_data : (region : Region) (path : List ℕ) (t : Ty) → LeadsFrom (shapes z.p.unit) (types_for z.p.unit objects a.function region) path t → IsTrue (is_scalar t) → (region ≡ locals → (scope W E Outer z a.function).in_registers ≡ false) → IsInData region path
  in_data globals path t l scalar form =
      let i = held.inside (types_of (map typed_of z.p.unit.globals)) path t l scalar in
      let w = words_by_types (shapes z.p.unit) (map typed_of z.p.unit.globals) in
      let f = z.globals_fit in
      let g = z.heap_fits in
      record { from = omega arith; to = omega (arith, i, w, f, g) }
  in_data heap path t l scalar form =
      let i = held.inside objects path t l scalar in
      let f = z.globals_fit in
      let g = z.heap_fits in
      let u = st.used in
      let o = st.room in
      record { from = omega (arith, f); to = omega (arith, i, f, g, u, o) }
  in_data locals path t l scalar form =
      let i = held.inside (types_of (scope W E Outer z a.function).env.locals) path t l scalar in
      let at = local_at path (scope W E Outer z a.function).in_registers (form refl) in
      let on = frame_on z.p.unit g fs a.function r.is in
      let ws = frame_words z.p.unit a.function in
      let f = z.globals_fit in
      let g = z.heap_fits in
      let o = st.stack_room in
      record { from = omega (arith, f, g, at); to = omega (arith, i, at, on, ws, o) }

  module _ (c' : Contents) (t : Ty) (v : Value) (special : c'.special ≡ c.special) (above : (x : ℕ) → 20 ≤ x → c'.regs x ≡ c.regs x) (scalar : IsTrue (is_scalar t)) (fits : Fits (shapes z.p.unit) (store_typing z.p.unit objects) t v) where
    -- the word of a value, for every function
    canonical : its_word v ≡ word_of_scalar (unit_scope z.p.unit) (bases W E Outer z objects []) v
    canonical = word_same (shapes z.p.unit) (map typed_of z.p.unit.globals) z.a.globals z.a.heap objects objects (λ path t h. refl) (rest_of (unit_scope z.p.unit)) (rest_of (scope W E Outer z a.function)) (end_of W E Outer z []) (end_of W E Outer z (g ∷ fs)) t v fits

    pub stored : (region : Region) (path : List ℕ) → LeadsFrom (shapes z.p.unit) (types_for z.p.unit objects a.function region) path t → (region ≡ locals → (scope W E Outer z a.function).in_registers ≡ false) → c'.memory ≡ put_word c.memory (place region path) (its_word v)
        → (later : ℕ → Bool) → ((n : ℕ) → IsTrue (later n) → IsTrue (a.live n) ⊎ ((region ≡ locals) × (path ≡ n ∷ [])))
        → (known : Facts) → FactsHold (scope W E Outer z a.function) (bases W E Outer z objects (g ∷ fs)) known (write (state_of gv hv hw (g ∷ fs)) (record { region = region; path = path }) v) c'
        → ConfigurationStands W E Outer z objects (record (standing_at gv hv hw (g ∷ fs) world calls answer) { state = write (state_of gv hv hw (g ∷ fs)) (record { region = region; path = path }) v }) c' d × UnderWay W E Outer z objects c' (knowing (with_live a later) known ∷ others) (write (state_of gv hv hw (g ∷ fs)) (record { region = region; path = path }) v).frames
    stored globals path l form m later grows known facts =
        let i = held.inside (types_of (map typed_of z.p.unit.globals)) path t l scalar in
        let w = words_by_types (shapes z.p.unit) (map typed_of z.p.unit.globals) in
        let gf = z.globals_fit in
        let hf = z.heap_fits in
        let u = st.used in
        let o = st.room in
        let low = z.low in
        let s = in_data globals path t l scalar form in
        let from = s.from in
        let to = s.to in
        let other : (k : ℕ) → k ≢ place globals path → c'.memory k ≡ c.memory k = λ k ne. ap (λ f. f k) m ∙ put_other c.memory (place globals path) (its_word v) k ne in
        let here : c'.memory (place globals path) ≡ its_word v = ap (λ f. f (place globals path)) m ∙ put_same c.memory (place globals path) (its_word v) in (
          record {
            typed = typing.written objects (state_of gv hv hw (g ∷ fs)) g fs a.function (record { region = globals; path = path }) t v refl r.is st.typed l fits;
            declared = st.declared;
            used = st.used;
            room = st.room;
            stack_room = st.stack_room;
            globals = held.stored (unit_scope z.p.unit) (bases W E Outer z objects []) c.memory c'.memory z.a.globals (types_of (map typed_of z.p.unit.globals)) path t gv v refl l scalar st.globals (here ∙ canonical) other;
            heap = held.same (unit_scope z.p.unit) (bases W E Outer z objects []) c.memory c'.memory z.a.heap objects hv refl (λ x le lt. other x (λ e. absurd (omega (arith, e, le, i, w, gf)))) st.heap;
            used_word = other 1026 (λ e. absurd (omega (arith, e, from, low))) ∙ st.used_word;
            heap_size = other 1027 (λ e. absurd (omega (arith, e, from, low))) ∙ st.heap_size;
            heap_first = other 1028 (λ e. absurd (omega (arith, e, from, low))) ∙ st.heap_first;
            stack_first = other 1029 (λ e. absurd (omega (arith, e, from, low))) ∙ st.stack_first;
            stack_limit = other 1030 (λ e. absurd (omega (arith, e, from, low))) ∙ st.stack_limit;
            globals_at = above 28 (omega arith) ∙ st.globals_at;
            stack_end = above 30 (omega arith) ∙ st.stack_end;
            outer = z.outer_stays world c c' d (λ y no. other y (λ e. no (inl (omega (arith, e, from), omega (arith, e, to))))) special st.outer;
            idle = st.idle;
          },
          (
            fewer_live W E Outer z held objects c' (knowing a known) later g fs (λ n y. kept_live globals path n (a.live n) (λ e. absurd (cc)) (grows n y)) (runs_same W E Outer z held objects c c' a g fs known (write (state_of gv hv hw (g ∷ fs)) (record { region = globals; path = path }) v) refl facts above (λ x le lt. other x (λ e. absurd (omega (arith, e, le, i, w, gf, hf)))) r),
            waiting_same W E Outer z held objects c.memory c'.memory others fs (λ x le lt. other x (λ e. absurd (omega (arith, e, le, i, w, gf, hf)))) waits,
          ),
        )
    stored heap path l form m later grows known facts =
        let i = held.inside objects path t l scalar in
        let w = words_by_types (shapes z.p.unit) (map typed_of z.p.unit.globals) in
        let gf = z.globals_fit in
        let hf = z.heap_fits in
        let u = st.used in
        let o = st.room in
        let low = z.low in
        let s = in_data heap path t l scalar form in
        let from = s.from in
        let to = s.to in
        let other : (k : ℕ) → k ≢ place heap path → c'.memory k ≡ c.memory k = λ k ne. ap (λ f. f k) m ∙ put_other c.memory (place heap path) (its_word v) k ne in
        let here : c'.memory (place heap path) ≡ its_word v = ap (λ f. f (place heap path)) m ∙ put_same c.memory (place heap path) (its_word v) in (
          record {
            typed = typing.written objects (state_of gv hv hw (g ∷ fs)) g fs a.function (record { region = heap; path = path }) t v refl r.is st.typed l fits;
            declared = st.declared;
            used = st.used;
            room = st.room;
            stack_room = st.stack_room;
            globals = held.same (unit_scope z.p.unit) (bases W E Outer z objects []) c.memory c'.memory z.a.globals (types_of (map typed_of z.p.unit.globals)) gv refl (λ x le lt. other x (λ e. absurd (omega (arith, e, lt, w, gf)))) st.globals;
            heap = held.stored (unit_scope z.p.unit) (bases W E Outer z objects []) c.memory c'.memory z.a.heap objects path t hv v refl l scalar st.heap (here ∙ canonical) other;
            used_word = other 1026 (λ e. absurd (omega (arith, e, from, low))) ∙ st.used_word;
            heap_size = other 1027 (λ e. absurd (omega (arith, e, from, low))) ∙ st.heap_size;
            heap_first = other 1028 (λ e. absurd (omega (arith, e, from, low))) ∙ st.heap_first;
            stack_first = other 1029 (λ e. absurd (omega (arith, e, from, low))) ∙ st.stack_first;
            stack_limit = other 1030 (λ e. absurd (omega (arith, e, from, low))) ∙ st.stack_limit;
            globals_at = above 28 (omega arith) ∙ st.globals_at;
            stack_end = above 30 (omega arith) ∙ st.stack_end;
            outer = z.outer_stays world c c' d (λ y no. other y (λ e. no (inl (omega (arith, e, from), omega (arith, e, to))))) special st.outer;
            idle = st.idle;
          },
          (
            fewer_live W E Outer z held objects c' (knowing a known) later g fs (λ n y. kept_live heap path n (a.live n) (λ e. absurd (cc)) (grows n y)) (runs_same W E Outer z held objects c c' a g fs known (write (state_of gv hv hw (g ∷ fs)) (record { region = heap; path = path }) v) refl facts above (λ x le lt. other x (λ e. absurd (omega (arith, e, le, i, u, o, hf)))) r),
            waiting_same W E Outer z held objects c.memory c'.memory others fs (λ x le lt. other x (λ e. absurd (omega (arith, e, le, i, u, o, hf)))) waits,
          ),
        )
    stored locals path l form m later grows known facts =
        let i = held.inside (types_of (scope W E Outer z a.function).env.locals) path t l scalar in
        let at = local_at path (scope W E Outer z a.function).in_registers (form refl) in
        let on = frame_on z.p.unit g fs a.function r.is in
        let ws = frame_words z.p.unit a.function in
        let w = words_by_types (shapes z.p.unit) (map typed_of z.p.unit.globals) in
        let gf = z.globals_fit in
        let hf = z.heap_fits in
        let u = st.used in
        let o = st.room in
        let low = z.low in
        let s = in_data locals path t l scalar form in
        let from = s.from in
        let to = s.to in
        let other : (k : ℕ) → k ≢ place locals path → c'.memory k ≡ c.memory k = λ k ne. ap (λ f. f k) m ∙ put_other c.memory (place locals path) (its_word v) k ne in
        let here : c'.memory (place locals path) ≡ its_word v = ap (λ f. f (place locals path)) m ∙ put_same c.memory (place locals path) (its_word v) in (
          record {
            typed = typing.written objects (state_of gv hv hw (g ∷ fs)) g fs a.function (record { region = locals; path = path }) t v refl r.is st.typed l fits;
            declared = st.declared;
            used = st.used;
            room = st.room;
            stack_room = st.stack_room;
            globals = held.same (unit_scope z.p.unit) (bases W E Outer z objects []) c.memory c'.memory z.a.globals (types_of (map typed_of z.p.unit.globals)) gv refl (λ x le lt. other x (λ e. absurd (omega (arith, e, lt, w, gf, hf, at)))) st.globals;
            heap = held.same (unit_scope z.p.unit) (bases W E Outer z objects []) c.memory c'.memory z.a.heap objects hv refl (λ x le lt. other x (λ e. absurd (omega (arith, e, lt, u, o, hf, at)))) st.heap;
            used_word = other 1026 (λ e. absurd (omega (arith, e, from, low))) ∙ st.used_word;
            heap_size = other 1027 (λ e. absurd (omega (arith, e, from, low))) ∙ st.heap_size;
            heap_first = other 1028 (λ e. absurd (omega (arith, e, from, low))) ∙ st.heap_first;
            stack_first = other 1029 (λ e. absurd (omega (arith, e, from, low))) ∙ st.stack_first;
            stack_limit = other 1030 (λ e. absurd (omega (arith, e, from, low))) ∙ st.stack_limit;
            globals_at = above 28 (omega arith) ∙ st.globals_at;
            stack_end = above 30 (omega arith) ∙ st.stack_end;
            outer = z.outer_stays world c c' d (λ y no. other y (λ e. no (inl (omega (arith, e, from), omega (arith, e, to))))) special st.outer;
            idle = st.idle;
          },
          (
            record {
              is = r.is;
              return_at = ap₂ (λ m r. if calls_in a.function.body then m else r) (other (end_of W E Outer z fs) (λ e. absurd (omega (arith, e, at)))) (above 31 (omega arith)) ∙ r.return_at;
              frame_at = above 29 (omega arith) ∙ r.frame_at;
              variables = by_form (scope W E Outer z a.function).in_registers (form refl) at here (λ y ne. other y ne) r.variables;
              registers = facts.registers;
              sure = facts.sure;
            },
            waiting_same W E Outer z held objects c.memory c'.memory others fs (λ x le lt. other x (λ e. absurd (omega (arith, e, lt, at)))) waits,
          ),
        )
      where
        by_form : (b : Bool) → b ≡ false → (if b then 20 else (end_of W E Outer z (g ∷ fs) - words_of_frame (shapes z.p.unit) a.function) + 3) ≡ end_of W E Outer z fs + 3
            → c'.memory ((if b then 20 else (end_of W E Outer z (g ∷ fs) - words_of_frame (shapes z.p.unit) a.function) + 3) + words_to_part (shapes z.p.unit) (types_of (scope W E Outer z a.function).env.locals) path) ≡ its_word v
            → ((k : ℕ) → k ≢ (if b then 20 else (end_of W E Outer z (g ∷ fs) - words_of_frame (shapes z.p.unit) a.function) + 3) + words_to_part (shapes z.p.unit) (types_of (scope W E Outer z a.function).env.locals) path → c'.memory k ≡ c.memory k)
            → LocalsHeld (scope W E Outer z a.function) (bases W E Outer z objects (g ∷ fs)) a.live (if b then c.regs else c.memory) (if b then 20 else (end_of W E Outer z (g ∷ fs) - words_of_frame (shapes z.p.unit) a.function) + 3) (types_of (scope W E Outer z a.function).env.locals) g.variables
            → LocalsHeld (scope W E Outer z a.function) (bases W E Outer z objects (g ∷ fs)) later (if b then c'.regs else c'.memory) (if b then 20 else (end_of W E Outer z (g ∷ fs) - words_of_frame (shapes z.p.unit) a.function) + 3) (types_of (scope W E Outer z a.function).env.locals) (value_with g.variables path v)
        by_form true q at here other h = absurd (cc)
        by_form false q at here other h = held.stored_local (scope W E Outer z a.function) (bases W E Outer z objects (g ∷ fs)) a.live later c.memory c'.memory ((end_of W E Outer z (g ∷ fs) - words_of_frame (shapes z.p.unit) a.function) + 3) (types_of (scope W E Outer z a.function).env.locals) path t g.variables v refl l scalar h here other (λ n y. part_of (grows n y))
