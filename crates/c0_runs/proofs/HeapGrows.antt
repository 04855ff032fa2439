-- The heap with an object more: where its words lie, and that what stood before stands as it did.
use Rattle.std.specs.Prelude.{map, slice_get, get_or, unwrap_or, Some, if◌then◌else◌, nat_lt, nat_le, ◌&&◌}
use Rattle.std.specs.List.{All, list_all}
use Rattle.std.proofs.lemmas.List.Elements.{All-head, All-tail}
use Rattle.std.proofs.lemmas.Bool.{cases_Bool, and_parts, leb-true, ltb-true, ltb-false}
use Rattle.std.proofs.Common.{◌≡◌, ◌≢◌, inl, inr, ℕ, zero, suc, ◌+◌, ◌-◌, ◌<◌, ◌≤◌, ◌⊎◌, Bool, true, false, Option, List, [], ◌∷◌, ◌++◌, length, refl, sym, ap, ap₂, ◌∙◌, subst, arith}
use Rattle.mips_table.specs.Code.{Contents, Behind}
use Rattle.c0_tree.specs.Tree.{CTy, CFunction}
use Rattle.c0_meaning.specs.Ty.{Ty, ty_of, named, is_scalar}
use Rattle.c0_meaning.specs.Ty as ty
use Rattle.c0_meaning.specs.Env.{Shape, typed_of}
use Rattle.c0_meaning.specs.Limits.{words_of_frame}
use Rattle.c0_meaning.specs.Words.{shape_fields, words}
use Rattle.c0_meaning.specs.Sizes.{words_before}
use Rattle.c0_meaning.specs.Addresses.{words_to, words_to_part}
use Rattle.c0_meaning.specs.Sound.{shapes}
use Rattle.c0_meaning.specs.Typed.{IsDeclarable}
use Rattle.c0_meaning.specs.Value.{Value, int, bool, null, at, group, Values, empty, part, count, part_count, with_part, zero_of}
use Rattle.c0_meaning.specs.State.{Frame}
use Rattle.c0_meaning.specs.TypedState.{StoreTyping, types_of, LeadsFrom, AllFit, AreParts, variable_types, IsTypedFrame, store_typing}
use Rattle.c0_typed.specs.Leaf.{calls_in, is_leaf}
use Rattle.c0_expr_code.specs.declared.facts.Facts.{Facts}
use Rattle.c0_expr_code.specs.Facts.{renewed}
use Rattle.c0_expr_runs.specs.Bases.{words_of_all, locals_start, RegionHeld, LocalsHeld}
use Rattle.c0_expr_runs.specs.Relation.{RegistersHold}
use Rattle.c0_runs.specs.Setup.{Setup}
use Rattle.c0_runs.specs.Ahead.{Activation, knowing}
use Rattle.c0_runs.specs.Standing.{scope, bases, end_of, unit_scope, VariablesHeld, Waiting, FunctionRuns, UnderWay, ConfigurationStands}
use Rattle.c0_runs.proofs.PremisesFromBelow.{HeldStays, TypedStays}
use Rattle.c0_runs.proofs.ValuesStay.{region}
use Rattle.c0_runs.proofs.FunctionsUnderWay.{rest_of, standing_at}
use Rattle.c0_runs.proofs.RegionsApart.{frame_on, words_by_types, waiting_same}
use Rattle.c0_runs.proofs.VariablesBegin.{zero_zero, zeros_held, joined_held, scalars_words}
use Rattle.c0_runs.proofs.RegisterFrames.{each_scalar}

-- types and one more behind them
module _ (structs : List Shape) where
  slice_more : (objects more : List Ty) (i : ℕ) (t : Ty) → slice_get objects i ≡ Some t → slice_get (objects ++ more) i ≡ Some t
  slice_more [] more i t e = absurd (cc)
  slice_more (o ∷ os) more zero t e = e
  slice_more (o ∷ os) more (suc i) t e = slice_more os more i t e

  before_more : (objects more : List Ty) (i : ℕ) (t : Ty) → slice_get objects i ≡ Some t → words_before structs (objects ++ more) i ≡ words_before structs objects i
  before_more [] more i t e = absurd (cc)
  before_more (o ∷ os) more zero t e = refl
  before_more (o ∷ os) more (suc i) t e = ap (λ n. words structs o + n) (before_more os more i t e)

  -- a part of an object stays where it was
  pub part_stays : (objects more : List Ty) (path : List ℕ) (t : Ty) → LeadsFrom structs objects path t → words_to_part structs (objects ++ more) path ≡ words_to_part structs objects path
  part_stays objects more [] t l = absurd l
  part_stays objects more (i ∷ path) t l = ap₂ (λ n o. n + words_to structs (unwrap_or o ty.int) path) (before_more objects more i l.0 l.1) (slice_more objects more i l.0 l.1 ∙ sym l.1)

  pub words_more : (objects : List Ty) (t : Ty) → words_of_all structs (objects ++ t ∷ []) ≡ words_of_all structs objects + words structs t
  words_more [] t = omega arith
  words_more (o ∷ os) t = let e = words_more os t in omega (arith, e)

  -- the new object is the last one
  pub last_there : (objects : List Ty) (t : Ty) → slice_get (objects ++ t ∷ []) (length objects) ≡ Some t
  last_there [] t = refl
  last_there (o ∷ os) t = last_there os t

  pub last_behind : (objects : List Ty) (t : Ty) → words_before structs (objects ++ t ∷ []) (length objects) ≡ words_of_all structs objects
  last_behind [] t = refl
  last_behind (o ∷ os) t = ap (λ n. words structs o + n) (last_behind os t)

  pub declared_more : (objects : List Ty) (t : CTy) → IsDeclarable structs t → ((i : ℕ) (u : Ty) → slice_get objects i ≡ Some u → (c : CTy) × (ty_of c ≡ u) × IsDeclarable structs c)
      → (i : ℕ) (u : Ty) → slice_get (objects ++ ty_of t ∷ []) i ≡ Some u → (c : CTy) × (ty_of c ≡ u) × IsDeclarable structs c
  declared_more [] t d all zero u e = let q : ty_of t ≡ u = cc in (t, q, d)
  declared_more [] t d all (suc i) u e = absurd (cc)
  declared_more (o ∷ os) t d all zero u e = all zero u e
  declared_more (o ∷ os) t d all (suc i) u e = declared_more os t d (λ j w q. all (suc j) w q) i u e

  counted : (lay : StoreTyping) (objects : List Ty) (vs : Values) → AllFit structs lay objects vs → count vs ≡ length objects
  counted lay [] empty h = refl
  counted lay (o ∷ os) (part v vs) h = ap (λ n. suc n) (counted lay os vs h.1)
  counted lay [] (part v vs) h = absurd h
  counted lay (o ∷ os) empty h = absurd h

  pub parts_count : (lay : StoreTyping) (objects : List Ty) (v : Value) → AreParts structs lay objects v → part_count v ≡ length objects
  parts_count lay objects (group vs) h = counted lay objects vs h
  parts_count lay objects (int z) h = absurd h
  parts_count lay objects (bool b) h = absurd h
  parts_count lay objects null h = absurd h
  parts_count lay objects (at l) h = absurd h

module _ (W E : Type 0) (Outer : W → Contents → Behind → Type 0) (z : Setup W E Outer) (held : HeldStays (shapes z.p.unit)) (typing : TypedStays z.p.unit)
    (opened : (x : List ℕ) → words (shapes z.p.unit) (named x) ≡ words_of_all (shapes z.p.unit) (types_of (shape_fields (shapes z.p.unit) x))) (objects : List Ty) where
  -- the variables that registers hold are few
  few_words : (f : CFunction) → (scope W E Outer z f).in_registers ≡ true → words_of_all (shapes z.p.unit) (variable_types f) ≤ 8
  few_words f form =
      let p = and_parts (is_leaf f.body) (nat_le (length (variable_types f)) 8 && list_all is_scalar (variable_types f)) form in
      let q = and_parts (nat_le (length (variable_types f)) 8) (list_all is_scalar (variable_types f)) p.1 in
      let n = leb-true (length (variable_types f)) 8 q.0 in
      let w = scalars_words (unit_scope z.p.unit) (bases W E Outer z objects []) (store_typing z.p.unit objects) opened (λ k. 0) (variable_types f) (each_scalar (variable_types f) q.1) in
      omega (arith, n, w)

  -- variables stay while the registers of variables and the frame's words do
  variables_kept : (live : ℕ → Bool) (c c' : Contents) (f : CFunction) (g : Frame) (fs : List Frame) → slice_get z.p.unit.functions g.function ≡ Some f → ((x : ℕ) → 20 ≤ x → x < 28 → c'.regs x ≡ c.regs x)
      → ((x : ℕ) → z.a.stack ≤ x → c'.memory x ≡ c.memory x) → VariablesHeld W E Outer z objects live c.regs c.memory f (g ∷ fs) → VariablesHeld W E Outer z objects live c'.regs c'.memory f (g ∷ fs)
  variables_kept live c c' f g fs is regs memory h = by_form (scope W E Outer z f).in_registers refl h
    where
      by_form : (b : Bool) → (scope W E Outer z f).in_registers ≡ b → LocalsHeld (scope W E Outer z f) (bases W E Outer z objects (g ∷ fs)) live (if b then c.regs else c.memory) (if b then 20 else (end_of W E Outer z (g ∷ fs) - words_of_frame (shapes z.p.unit) f) + 3) (types_of (scope W E Outer z f).env.locals) g.variables
          → LocalsHeld (scope W E Outer z f) (bases W E Outer z objects (g ∷ fs)) live (if b then c'.regs else c'.memory) (if b then 20 else (end_of W E Outer z (g ∷ fs) - words_of_frame (shapes z.p.unit) f) + 3) (types_of (scope W E Outer z f).env.locals) g.variables
      by_form true form v = let few = few_words f form in held.same_locals (scope W E Outer z f) (bases W E Outer z objects (g ∷ fs)) live c.regs c'.regs 20 (types_of (scope W E Outer z f).env.locals) g.variables refl (λ x le lt. regs x le (omega (arith, lt, few))) v
      by_form false form v = let on = frame_on z.p.unit g fs f is in
          held.same_locals (scope W E Outer z f) (bases W E Outer z objects (g ∷ fs)) live c.memory c'.memory ((end_of W E Outer z (g ∷ fs) - words_of_frame (shapes z.p.unit) f) + 3) (types_of (scope W E Outer z f).env.locals) g.variables refl (λ x le lt. memory x (omega (arith, on, le))) v

  -- parameters stand in their registers while these and the frame's words stay
  registers_kept : (c c' : Contents) (f : CFunction) (g : Frame) (fs : List Frame) (known : Facts) → slice_get z.p.unit.functions g.function ≡ Some f → ((x : ℕ) → 20 ≤ x → x < 31 → c'.regs x ≡ c.regs x) → ((x : ℕ) → z.a.stack ≤ x → c'.memory x ≡ c.memory x) → (scope W E Outer z f).in_registers ≡ false
      → RegistersHold (scope W E Outer z f) (bases W E Outer z objects (g ∷ fs)) known c → RegistersHold (scope W E Outer z f) (bases W E Outer z objects (g ∷ fs)) (renewed known) c'
  registers_kept c c' f g fs known is regs memory form h = record {
    params = λ n y t there scalar.
        let few = few_of n (and_parts (nat_lt n 8) (get_or known.params n false) y).0 in
        regs (20 + n) (omega arith) (omega (arith, few)) ∙ h.params n y t there scalar ∙ sym (memory (locals_start (scope W E Outer z f) (bases W E Outer z objects (g ∷ fs)) + words_before (shapes z.p.unit) (types_of (scope W E Outer z f).env.locals) n) (in_frame n));
    answer = λ n y. absurd (none y);
  }
    where
      none : false ≡ true → ⊥
      none q = cc

      few_of : (n : ℕ) → nat_lt n 8 ≡ true → n < 8
      few_of n q = ltb-true n 8 q

      in_frame : (n : ℕ) → z.a.stack ≤ locals_start (scope W E Outer z f) (bases W E Outer z objects (g ∷ fs)) + words_before (shapes z.p.unit) (types_of (scope W E Outer z f).env.locals) n
      in_frame n = by_form (scope W E Outer z f).in_registers form
        where
          by_form : (b : Bool) → b ≡ false → z.a.stack ≤ (if b then 20 else (end_of W E Outer z (g ∷ fs) - words_of_frame (shapes z.p.unit) f) + 3) + words_before (shapes z.p.unit) (types_of (scope W E Outer z f).env.locals) n
          by_form true q = absurd (cc)
          by_form false q = let on = frame_on z.p.unit g fs f is in omega (arith, on)

  -- the functions under way stay so under code that calls a routine, where the one that runs keeps its return address in its frame
  pub under_kept : (c c' : Contents) (a : Activation) (others : List Activation) (g : Frame) (fs : List Frame) → calls_in a.function.body ≡ true → ((x : ℕ) → 20 ≤ x → x < 31 → c'.regs x ≡ c.regs x) → ((x : ℕ) → z.a.stack ≤ x → c'.memory x ≡ c.memory x)
      → FunctionRuns W E Outer z objects c a g fs → Waiting W E Outer z objects c.memory others fs → UnderWay W E Outer z objects c' (knowing a (renewed a.facts) ∷ others) (g ∷ fs)
  under_kept c c' a others g fs its_calls regs memory r waits = (
    record {
      is = r.is;
      return_at = ap (λ y. if y then c'.memory (end_of W E Outer z fs) else c'.regs 31) its_calls ∙ memory (end_of W E Outer z fs) (omega arith) ∙ sym (ap (λ y. if y then c.memory (end_of W E Outer z fs) else c.regs 31) its_calls) ∙ r.return_at;
      frame_at = regs 29 (omega arith) (omega arith) ∙ r.frame_at;
      variables = variables_kept a.live c c' a.function g fs r.is (λ x le lt. regs x le (omega (arith, lt))) memory r.variables;
      registers = λ e. registers_kept c c' a.function g fs a.facts r.is regs memory e (r.registers e);
      sure = r.sure;
    },
    waiting_same W E Outer z held objects c.memory c'.memory others fs (λ x le lt. memory x le) waits,
  )

  module _ (t : CTy) (declarable : IsDeclarable (shapes z.p.unit) t) where
    abbrev more : List Ty
    more = objects ++ ty_of t ∷ []

    abbrev size : ℕ
    size = words (shapes z.p.unit) (ty_of t)

    abbrev fresh : Value
    fresh = zero_of (shapes z.p.unit) (ty_of t)

    -- the functions under way stand with an object more
    variables_more : (live : ℕ → Bool) (regs memory : ℕ → ℕ) (f : CFunction) (g : Frame) (fs : List Frame) → slice_get z.p.unit.functions g.function ≡ Some f → IsTypedFrame z.p.unit (store_typing z.p.unit objects) g → VariablesHeld W E Outer z objects live regs memory f (g ∷ fs) → VariablesHeld W E Outer z more live regs memory f (g ∷ fs)
    variables_more live regs memory f g fs is typed h =
        let fits = subst (λ q. AreParts (shapes z.p.unit) (store_typing z.p.unit objects) (variable_types q) g.variables) (some_same (sym typed.is ∙ is)) typed.variables in
        record {
          whole = h.whole;
          held = region (shapes z.p.unit) (map typed_of z.p.unit.globals) z.a.globals z.a.heap objects more (part_stays (shapes z.p.unit) objects (ty_of t ∷ [])) (rest_of (scope W E Outer z f)) (rest_of (scope W E Outer z f)) (end_of W E Outer z (g ∷ fs)) (end_of W E Outer z (g ∷ fs))
              h.whole (if (scope W E Outer z f).in_registers then 20 else (end_of W E Outer z (g ∷ fs) - words_of_frame (shapes z.p.unit) f) + 3) (variable_types f) g.variables fits h.held;
          same = h.same;
        }
      where
        some_same : {x y : CFunction} → Some x ≡ Some y → x ≡ y
        some_same q = cc

    waiting_more : (memory : ℕ → ℕ) (acts : List Activation) (frames : List Frame) → All (IsTypedFrame z.p.unit (store_typing z.p.unit objects)) frames → Waiting W E Outer z objects memory acts frames → Waiting W E Outer z more memory acts frames
    waiting_more memory [] [] all h = tt
    waiting_more memory (a ∷ acts) (g ∷ fs) all h = (
      record {
        is = h.0.is;
        in_frame = h.0.in_frame;
        calls = h.0.calls;
        return_at = h.0.return_at;
        variables = variables_more a.live memory memory a.function g fs h.0.is (All-head (IsTypedFrame z.p.unit (store_typing z.p.unit objects)) g fs all) h.0.variables;
        forgotten = h.0.forgotten;
        sure = h.0.sure;
      },
      waiting_more memory acts fs (All-tail (IsTypedFrame z.p.unit (store_typing z.p.unit objects)) g fs all) h.1,
    )
    waiting_more memory [] (g ∷ fs) all h = absurd h
    waiting_more memory (a ∷ acts) [] all h = absurd h

    pub under_more : (c : Contents) (a : Activation) (others : List Activation) (g : Frame) (fs : List Frame) → All (IsTypedFrame z.p.unit (store_typing z.p.unit objects)) (g ∷ fs) → UnderWay W E Outer z objects c (a ∷ others) (g ∷ fs) → UnderWay W E Outer z more c (a ∷ others) (g ∷ fs)
    under_more c a others g fs all h = (
      record {
        is = h.0.is;
        return_at = h.0.return_at;
        frame_at = h.0.frame_at;
        variables = variables_more a.live c.regs c.memory a.function g fs h.0.is (All-head (IsTypedFrame z.p.unit (store_typing z.p.unit objects)) g fs all) h.0.variables;
        registers = λ e. record { params = (h.0.registers e).params; answer = (h.0.registers e).answer };
        sure = h.0.sure;
      },
      waiting_more c.memory others fs (All-tail (IsTypedFrame z.p.unit (store_typing z.p.unit objects)) g fs all) h.1,
    )

    -- the heap with the new object behind the others
    heap_more : (m : ℕ → ℕ) (hv : Value) → AreParts (shapes z.p.unit) (store_typing z.p.unit objects) objects hv → ((x : ℕ) → z.a.heap + words_of_all (shapes z.p.unit) objects ≤ x → x < z.a.heap + words_of_all (shapes z.p.unit) objects + size → m x ≡ 0)
        → RegionHeld (unit_scope z.p.unit) (bases W E Outer z more []) m z.a.heap objects hv → RegionHeld (unit_scope z.p.unit) (bases W E Outer z more []) m z.a.heap more (with_part hv fresh)
    heap_more m (group vs) fits zeros h =
        joined_held (unit_scope z.p.unit) (bases W E Outer z more []) (store_typing z.p.unit more) opened m z.a.heap objects (ty_of t ∷ []) vs (part fresh empty) h
        (zeros_held (unit_scope z.p.unit) (bases W E Outer z more []) (store_typing z.p.unit more) opened m (z.a.heap + words_of_all (shapes z.p.unit) objects) (ty_of t ∷ []) (part fresh empty) (typing.zero more t declarable, tt) (zero_zero (shapes z.p.unit) (ty_of t), tt) (λ x le lt. zeros x le (omega (arith, lt))))
    heap_more m (int n) fits zeros h = absurd fits
    heap_more m (bool b) fits zeros h = absurd fits
    heap_more m null fits zeros h = absurd fits
    heap_more m (at l) fits zeros h = absurd fits

    -- the data stand with an object more, whose words are 0, where all other words are as they were but that of the words used
    pub stands_more : (gv hv : Value) (hw : ℕ) (frames : List Frame) (world : W) (calls : List (List E)) (answer : Option Value) (c c' : Contents) (d : Behind) → ConfigurationStands W E Outer z objects (standing_at gv hv hw frames world calls answer) c d → hw + size ≤ z.p.heap
        → ((k : ℕ) → k < size → c'.memory (z.a.heap + hw + k) ≡ 0) → c'.memory 1026 ≡ hw + size → ((k : ℕ) → k ≢ 1026 → (k < z.a.heap + hw) ⊎ (z.a.heap + hw + size ≤ k) → c'.memory k ≡ c.memory k)
        → c'.special ≡ c.special → c'.regs 28 ≡ c.regs 28 → c'.regs 30 ≡ c.regs 30 → ConfigurationStands W E Outer z more (standing_at gv (with_part hv fresh) (hw + size) frames world calls answer) c' d
    stands_more gv hv hw frames world calls answer c c' d st room zeros used others special r28 r30 =
        let u = st.used in
        let gf = z.globals_fit in
        let hf = z.heap_fits in
        let lo = z.low in
        let wt = words_by_types (shapes z.p.unit) (map typed_of z.p.unit.globals) in
        let wm = words_more (shapes z.p.unit) objects (ty_of t) in
        record {
          typed = typing.grown objects gv hv hw size frames (ty_of t) fresh st.typed (typing.zero more t declarable);
          declared = declared_more (shapes z.p.unit) objects t declarable st.declared;
          used = omega (arith, u, wm);
          room = room;
          stack_room = st.stack_room;
          globals = region (shapes z.p.unit) (map typed_of z.p.unit.globals) z.a.globals z.a.heap objects more (part_stays (shapes z.p.unit) objects (ty_of t ∷ [])) (rest_of (unit_scope z.p.unit)) (rest_of (unit_scope z.p.unit)) (end_of W E Outer z []) (end_of W E Outer z []) c'.memory z.a.globals (types_of (map typed_of z.p.unit.globals)) gv st.typed.global_values
              (held.same (unit_scope z.p.unit) (bases W E Outer z objects []) c.memory c'.memory z.a.globals (types_of (map typed_of z.p.unit.globals)) gv refl (λ x le lt. others x (λ e. absurd (omega (arith, e, le, lo))) (inl (omega (arith, lt, wt, gf)))) st.globals);
          heap = heap_more c'.memory hv st.typed.heap_values (λ x le lt. ap c'.memory (omega (arith, le, u)) ∙ zeros (x - (z.a.heap + hw)) (omega (arith, le, lt, u)))
              (region (shapes z.p.unit) (map typed_of z.p.unit.globals) z.a.globals z.a.heap objects more (part_stays (shapes z.p.unit) objects (ty_of t ∷ [])) (rest_of (unit_scope z.p.unit)) (rest_of (unit_scope z.p.unit)) (end_of W E Outer z []) (end_of W E Outer z []) c'.memory z.a.heap objects hv st.typed.heap_values
              (held.same (unit_scope z.p.unit) (bases W E Outer z objects []) c.memory c'.memory z.a.heap objects hv refl (λ x le lt. others x (λ e. absurd (omega (arith, e, le, lo, gf))) (inl (omega (arith, lt, u)))) st.heap));
          used_word = used;
          heap_size = others 1027 (λ e. absurd (omega (arith, e))) (inl (omega (arith, lo, gf))) ∙ st.heap_size;
          heap_first = others 1028 (λ e. absurd (omega (arith, e))) (inl (omega (arith, lo, gf))) ∙ st.heap_first;
          stack_first = others 1029 (λ e. absurd (omega (arith, e))) (inl (omega (arith, lo, gf))) ∙ st.stack_first;
          stack_limit = others 1030 (λ e. absurd (omega (arith, e))) (inl (omega (arith, lo, gf))) ∙ st.stack_limit;
          globals_at = r28 ∙ st.globals_at;
          stack_end = r30 ∙ st.stack_end;
          outer = z.outer_stays world c c' d (λ x no. others x (λ e. no (inr e)) (beside x no)) special st.outer;
          idle = st.idle;
        }
      where
        -- what isn't the unit's lies beside the new object
        beside : (x : ℕ) → (((z.a.globals ≤ x) × (x < z.a.stack + z.p.stack)) ⊎ (x ≡ 1026) → ⊥) → (x < z.a.heap + hw) ⊎ (z.a.heap + hw + size ≤ x)
        beside x away = elim (cases_Bool (nat_lt x (z.a.heap + hw))) [
          | inl e ↦ inl (ltb-true x (z.a.heap + hw) e)
          | inr e ↦ let ge = ltb-false x (z.a.heap + hw) e in elim (cases_Bool (nat_lt x (z.a.heap + hw + size))) [
            | inl l ↦ let lt = ltb-true x (z.a.heap + hw + size) l in let gf = z.globals_fit in let hf = z.heap_fits in absurd (away (inl (omega (arith, ge, gf), omega (arith, lt, room, hf))))
            | inr l ↦ inr (ltb-false x (z.a.heap + hw + size) l)
          ]
        ]
