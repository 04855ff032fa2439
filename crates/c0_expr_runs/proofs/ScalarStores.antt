-- A scalar that is stored stands where its location is, and all else as before.
use Rattle.std.proofs.Common.{inl, ◌≡◌, ℕ, ◌+◌, ◌-◌, ◌<◌, Bool, true, false, cond, Some, List, [], ◌∷◌, refl, sym, ap, ◌∙◌, arith}
use Rattle.std.specs.Prelude.{slice_get}
use Rattle.std.proofs.lemmas.Bool.{cond-false}
use Rattle.mips_table.specs.Code.{put, Contents, with_reg, World}
use Rattle.c0_meaning.specs.Ty.{Ty, is_scalar}
use Rattle.c0_meaning.specs.Addresses.{words_to_part}
use Rattle.c0_meaning.specs.Value.{Region, globals, heap, locals, Location, Value}
use Rattle.c0_meaning.specs.Value as value
use Rattle.c0_meaning.specs.State.{Frame, C0State, variables_of, with_variables, write}
use Rattle.c0_meaning.specs.TypedState.{types_of, LeadsFrom, Fits, AreParts}
use Rattle.c0_expr_code.specs.Scope.{Scope}
use Rattle.c0_expr_runs.specs.Bases.{Bases, types_in, location_word, word_of_scalar, LocalsHeld}
use Rattle.c0_expr_runs.specs.Relation.{layout, StateIsTyped, Ready, Area}
use Rattle.c0_expr_runs.specs.Laws.{RegionsApart, memory_with}
use Rattle.c0_expr_runs.proofs.PartsAtOffsets.{one_word, room_from, before_scalars}
use Rattle.c0_expr_runs.proofs.SideBySide.{same_reg, other_reg}
use Rattle.c0_expr_runs.proofs.StoredAtPath.{region_same, put_word}
use Rattle.c0_expr_runs.proofs.LiveLocals.{put_same, put_other, locals_same, locals_put}
use Rattle.c0_expr_runs.proofs.FittingParts.{put_parts}

module _ (w : World) (sc : Scope) (p : Bases) (live : ℕ → Bool) (s : C0State) (c : Contents) (area : Area w sc p) where
  -- the variables of the newest frame
  new_variables : (types : List Ty) (m m' : ℕ → ℕ) (a : ℕ) (path : List ℕ) (u : Ty) (x : Value) (frames : List Frame)
      → LeadsFrom sc.env.structs types path u
      → (LocalsHeld sc p live m a types (variables_of frames) → LocalsHeld sc p live m' a types (value.value_with (variables_of frames) path x))
      → LocalsHeld sc p live m a types (variables_of frames)
      → LocalsHeld sc p live m' a types (variables_of (with_variables frames (value.value_with (variables_of frames) path x)))
  new_variables [] m m' a path u x [] l f h = record { whole = m; held = tt; same = λ n t e is_live k less. absurd (cc) }
  new_variables (t ∷ ts) m m' a path u x [] l f h = absurd h.held
  new_variables types m m' a path u x (frame ∷ rest) l f h = f h

  memory_at : (g : Region) (path : List ℕ) (t : Ty) (x : Value) → RegionsApart sc p → Ready sc p live s c → LeadsFrom sc.env.structs (types_in sc p g) path t
      → (g ≡ locals → sc.in_registers ≡ false) → is_scalar t ≡ true
      → Ready sc p live (write s (record { region = g; path = path }) x) (memory_with c (location_word sc p (record { region = g; path = path })) (word_of_scalar sc p x))
  memory_at globals path t x spread h l o scalar =
      let b : ℕ = p.globals + words_to_part sc.env.structs (types_of sc.env.globals) path in
      let room = room_from sc.env.structs area.opened (types_of sc.env.globals) path t l in
      let one = one_word sc.env.structs t scalar in
      let g1 = spread.heap_behind in
      let g2 = spread.frame_behind in
      record {
        globals_at = h.globals_at;
        frame_at = h.frame_at;
        global_values = put_word sc p area.opened c.memory (put c.memory (p.globals + words_to_part sc.env.structs (types_of sc.env.globals) path) (word_of_scalar sc p x)) p.globals (p.globals + words_to_part sc.env.structs (types_of sc.env.globals) path) (types_of sc.env.globals) path t s.global_values x l scalar refl
            (put_same c.memory _ (word_of_scalar sc p x)) (λ y ne. put_other c.memory _ (word_of_scalar sc p x) y ne) h.global_values;
        heap_values = region_same sc p area.opened c.memory (put c.memory (p.globals + words_to_part sc.env.structs (types_of sc.env.globals) path) (word_of_scalar sc p x)) p.heap p.objects s.heap_values (λ y le less. put_other c.memory _ (word_of_scalar sc p x) y (λ e. absurd (omega (arith, e, room, one, g1, le)))) h.heap_values;
        local_values = by_form sc.in_registers h.local_values;
      }
    where
      by_form : (f : Bool) → LocalsHeld sc p live (cond f c.regs c.memory) (cond f 20 (p.frame_end - sc.frame + 3)) (types_of sc.env.locals) (variables_of s.frames) → LocalsHeld sc p live (cond f c.regs (put c.memory (p.globals + words_to_part sc.env.structs (types_of sc.env.globals) path) (word_of_scalar sc p x))) (cond f 20 (p.frame_end - sc.frame + 3)) (types_of sc.env.locals) (variables_of s.frames)
      by_form true v = v
      by_form false v =
          let room = room_from sc.env.structs area.opened (types_of sc.env.globals) path t l in
          let one = one_word sc.env.structs t scalar in
          let g1 = spread.heap_behind in
          let g2 = spread.frame_behind in
          locals_same sc p area.opened live c.memory (put c.memory (p.globals + words_to_part sc.env.structs (types_of sc.env.globals) path) (word_of_scalar sc p x)) (p.frame_end - sc.frame + 3) (types_of sc.env.locals) (variables_of s.frames) (λ y le less. put_other c.memory _ (word_of_scalar sc p x) y (λ e. absurd (omega (arith, e, room, one, g1, g2, le)))) v
  memory_at heap path t x spread h l o scalar =
      let room = room_from sc.env.structs area.opened p.objects path t l in
      let one = one_word sc.env.structs t scalar in
      let g1 = spread.heap_behind in
      record {
        globals_at = h.globals_at;
        frame_at = h.frame_at;
        global_values = region_same sc p area.opened c.memory (put c.memory (p.heap + words_to_part sc.env.structs p.objects path) (word_of_scalar sc p x)) p.globals (types_of sc.env.globals) s.global_values (λ y le less. put_other c.memory _ (word_of_scalar sc p x) y (λ e. absurd (omega (arith, e, g1, less)))) h.global_values;
        heap_values = put_word sc p area.opened c.memory (put c.memory (p.heap + words_to_part sc.env.structs p.objects path) (word_of_scalar sc p x)) p.heap (p.heap + words_to_part sc.env.structs p.objects path) p.objects path t s.heap_values x l scalar refl
            (put_same c.memory _ (word_of_scalar sc p x)) (λ y ne. put_other c.memory _ (word_of_scalar sc p x) y ne) h.heap_values;
        local_values = by_form sc.in_registers h.local_values;
      }
    where
      by_form : (f : Bool) → LocalsHeld sc p live (cond f c.regs c.memory) (cond f 20 (p.frame_end - sc.frame + 3)) (types_of sc.env.locals) (variables_of s.frames) → LocalsHeld sc p live (cond f c.regs (put c.memory (p.heap + words_to_part sc.env.structs p.objects path) (word_of_scalar sc p x))) (cond f 20 (p.frame_end - sc.frame + 3)) (types_of sc.env.locals) (variables_of s.frames)
      by_form true v = v
      by_form false v =
          let room = room_from sc.env.structs area.opened p.objects path t l in
          let one = one_word sc.env.structs t scalar in
          let g2 = spread.frame_behind in
          locals_same sc p area.opened live c.memory (put c.memory (p.heap + words_to_part sc.env.structs p.objects path) (word_of_scalar sc p x)) (p.frame_end - sc.frame + 3) (types_of sc.env.locals) (variables_of s.frames) (λ y le less. put_other c.memory _ (word_of_scalar sc p x) y (λ e. absurd (omega (arith, e, room, one, g2, le)))) v
  memory_at locals path t x spread h l o scalar =
      let q : location_word sc p (record { region = locals; path = path }) ≡ p.frame_end - sc.frame + 3 + words_to_part sc.env.structs (types_of sc.env.locals) path =
      ap (λ y. y + words_to_part sc.env.structs (types_of sc.env.locals) path) (cond-false sc.in_registers 20 (p.frame_end - sc.frame + 3) (o refl)) in
      let g1 = spread.heap_behind in
      let g2 = spread.frame_behind in
      record {
        globals_at = h.globals_at;
        frame_at = h.frame_at;
        global_values = region_same sc p area.opened c.memory (put c.memory (location_word sc p (record { region = locals; path = path })) (word_of_scalar sc p x)) p.globals (types_of sc.env.globals) s.global_values (λ y le less. put_other c.memory _ (word_of_scalar sc p x) y (λ e. absurd (beside y (location_word sc p (record { region = locals; path = path })) e q (omega (arith, g1, g2, less))))) h.global_values;
        heap_values = region_same sc p area.opened c.memory (put c.memory (location_word sc p (record { region = locals; path = path })) (word_of_scalar sc p x)) p.heap p.objects s.heap_values (λ y le less. put_other c.memory _ (word_of_scalar sc p x) y (λ e. absurd (beside y (location_word sc p (record { region = locals; path = path })) e q (omega (arith, g2, less))))) h.heap_values;
        local_values = by_form sc.in_registers (location_word sc p (record { region = locals; path = path })) (o refl) q h.local_values;
      }
    where
      beside : (y b : ℕ) → y ≡ b → b ≡ p.frame_end - sc.frame + 3 + words_to_part sc.env.structs (types_of sc.env.locals) path
          → y < p.frame_end - sc.frame → ⊥
      beside y b e q less = absurd (omega (arith, e, q, less))

      by_form : (f : Bool) (b : ℕ) → f ≡ false → b ≡ p.frame_end - sc.frame + 3 + words_to_part sc.env.structs (types_of sc.env.locals) path
          → LocalsHeld sc p live (cond f c.regs c.memory) (cond f 20 (p.frame_end - sc.frame + 3)) (types_of sc.env.locals) (variables_of s.frames)
          → LocalsHeld sc p live (cond f c.regs (put c.memory b (word_of_scalar sc p x))) (cond f 20 (p.frame_end - sc.frame + 3)) (types_of sc.env.locals) (variables_of (with_variables s.frames (value.value_with (variables_of s.frames) path x)))
      by_form true b z q v = absurd (cc)
      by_form false b z q v = new_variables (types_of sc.env.locals) c.memory (put c.memory b (word_of_scalar sc p x)) (p.frame_end - sc.frame + 3) path t x s.frames l
          (λ v. locals_put sc p area.opened live live c.memory (put c.memory b (word_of_scalar sc p x)) (p.frame_end - sc.frame + 3) b (types_of sc.env.locals) path t (variables_of s.frames) x l scalar q (put_same c.memory b (word_of_scalar sc p x)) (λ y ne. put_other c.memory b (word_of_scalar sc p x) y ne) (λ n y. inl y) v) v

  -- a variable in a register
  pub registered : (n : ℕ) (t : Ty) (x : Value) → sc.in_registers ≡ true → Ready sc p live s c → slice_get (types_of sc.env.locals) n ≡ Some t
      → Ready sc p live (write s (record { region = locals; path = n ∷ [] }) x) (with_reg c (20 + n) (word_of_scalar sc p x))
  registered n t x form h e =
      let known = area.scalars form n t e in
      let low = known.1 in
      record {
        globals_at = other_reg c.regs (20 + n) (word_of_scalar sc p x) 28 (λ z. absurd (omega (arith, z, low))) ∙ h.globals_at;
        frame_at = λ z. let q : true ≡ false = sym form ∙ z in absurd (cc);
        global_values = h.global_values;
        heap_values = h.heap_values;
        local_values = by_form sc.in_registers form h.local_values;
      }
    where
      by_form : (f : Bool) → f ≡ true
          → LocalsHeld sc p live (cond f c.regs c.memory) (cond f 20 (p.frame_end - sc.frame + 3)) (types_of sc.env.locals) (variables_of s.frames)
          → LocalsHeld sc p live (cond f (with_reg c (20 + n) (word_of_scalar sc p x)).regs c.memory) (cond f 20 (p.frame_end - sc.frame + 3)) (types_of sc.env.locals) (variables_of (with_variables s.frames (value.value_with (variables_of s.frames) (n ∷ []) x)))
      by_form false z v = absurd (cc)
      by_form true z v =
          let b = before_scalars sc.env.structs (types_of sc.env.locals) n t (λ m u q. (area.scalars form m u q).0) e in
          new_variables (types_of sc.env.locals) c.regs (with_reg c (20 + n) (word_of_scalar sc p x)).regs 20 (n ∷ []) t x s.frames (t, e, refl)
          (λ v. locals_put sc p area.opened live live c.regs (with_reg c (20 + n) (word_of_scalar sc p x)).regs 20 (20 + n) (types_of sc.env.locals) (n ∷ []) t (variables_of s.frames) x (t, e, refl) (area.scalars form n t e).0 (omega (arith, b)) (same_reg c.regs (20 + n) (word_of_scalar sc p x) (λ z. absurd (omega (arith, z)))) (λ y ne. other_reg c.regs (20 + n) (word_of_scalar sc p x) y ne) (λ m y. inl y) v) v

  pub stored : (l : Location) (t : Ty) (x : Value) → RegionsApart sc p → Ready sc p live s c → LeadsFrom sc.env.structs (types_in sc p l.region) l.path t
      → (l.region ≡ locals → sc.in_registers ≡ false) → is_scalar t ≡ true → Ready sc p live (write s l x) (memory_with c (location_word sc p l) (word_of_scalar sc p x))
  stored l t x spread h leads o scalar = memory_at l.region l.path t x spread h leads o scalar

-- the state stays typed
module _ (sc : Scope) (p : Bases) (s : C0State) where
  new_parts : (types : List Ty) (path : List ℕ) (u : Ty) (x : Value) (frames : List Frame) → LeadsFrom sc.env.structs types path u
      → Fits sc.env.structs (layout sc p) u x → AreParts sc.env.structs (layout sc p) types (variables_of frames)
      → AreParts sc.env.structs (layout sc p) types (variables_of (with_variables frames (value.value_with (variables_of frames) path x)))
  new_parts types path u x [] l f h = h
  new_parts types path u x (frame ∷ rest) l f h = put_parts sc.env.structs (layout sc p) types path u frame.variables x l h f

  typed_at : (g : Region) (path : List ℕ) (t : Ty) (x : Value) → StateIsTyped sc p s → LeadsFrom sc.env.structs (types_in sc p g) path t
      → Fits sc.env.structs (layout sc p) t x → StateIsTyped sc p (write s (record { region = g; path = path }) x)
  typed_at globals path t x h l f = record { global_values = put_parts sc.env.structs (layout sc p) (types_of sc.env.globals) path t s.global_values x l h.global_values f; heap_values = h.heap_values; local_values = h.local_values }
  typed_at heap path t x h l f = record { global_values = h.global_values; heap_values = put_parts sc.env.structs (layout sc p) p.objects path t s.heap_values x l h.heap_values f; local_values = h.local_values }
  typed_at locals path t x h l f = record { global_values = h.global_values; heap_values = h.heap_values; local_values = new_parts (types_of sc.env.locals) path t x s.frames l f h.local_values }

  pub typed : (l : Location) (t : Ty) (x : Value) → StateIsTyped sc p s → LeadsFrom sc.env.structs (types_in sc p l.region) l.path t
      → Fits sc.env.structs (layout sc p) t x → StateIsTyped sc p (write s l x)
  typed l t x h leads f = typed_at l.region l.path t x h leads f
