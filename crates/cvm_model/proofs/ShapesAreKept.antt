-- What is known of each run beside a kernel's own property: how many machines there are, and what shape they have. A user's step and a primitive keep it,
-- and no step of C0 but a primitive changes a machine.
use Rattle.std.proofs.Common.{◌≡◌, ℕ, zero, suc, ◌+◌, ◌-◌, ◌*◌, ◌/◌, ◌≤◌, Bool, true, false, List, [], ◌∷◌, ◌++◌, length, replicate, take, drop, slice_index_or, slice_set, All, Option, Some, None, refl, sym, ◌∙◌, subst, arith, leb-true, length-set}
use Rattle.std.proofs.lemmas.Bool.{ltb-true}
use Rattle.std.specs.Prelude.{ℤ, pos, negsuc, nat_abs, not, if◌then◌else◌, option_and_then, get_or, ◌==◌}
use Rattle.std.specs.Int.{cast_unsigned, w32}
use Rattle.std.proofs.lemmas.List.{length-append, length-take, length-drop, length-replicate, length-map}
use Rattle.std.proofs.lemmas.List.Elements.{All-head, All-tail, All-set, All-map}
use Rattle.mips_table.specs.declared.effect.Effect.{Effect}
use Rattle.mips_table.specs.declared.effect.Effect.TheVariants as effects
use Rattle.mips_table.specs.declared.cause.Cause.{Cause}
use Rattle.mips_table.specs.declared.cause.Cause.TheVariants as causes
use Rattle.mips_table.specs.declared.inst.Inst.{Inst}
use Rattle.mips_table.specs.Decoding.{decoding}
use Rattle.mips_table.specs.Processor.{Access, Move, Loaded, Stored, Trapped, write_register, is_aligned, accessed, advanced, performed, effect_on, executed}
use Rattle.mips_table.specs.Machine.{LOG_ROOM, Console, log_has_room}
use Rattle.mips_table.specs.Flat.{Flat, VStep, Goes, Trap, flat_access, word_at, after_move, vstep}
use Rattle.mips_table.specs.Arith.{signed}
use Rattle.layer_map.specs.declared.params.Params.{Params}
use Rattle.layer_map.specs.Map.{next_page}
use Rattle.c0_tree.specs.Tree.{CUnit}
use Rattle.c0_meaning.specs.Value.{Values}
use Rattle.c0_meaning.specs.PrimitiveCalls.{PrimitiveCall, world_after}
use Rattle.c0_meaning.specs.Execution.{run_within}
use Rattle.c0_meaning.specs.Execution as c0_run
use Rattle.c0_meaning.specs.RunLaws.{PrimitivesAlone, stands_at}
use Rattle.cvm_model.specs.Kernel.{Core, Changes, KernelMeaning}
use Rattle.cvm_model.specs.Primitives.{KernelCall, VmGet, VmSet, VmSize, VmResize, VmWord, VmPut, VmCopy, ConPut, ConGet, ConLeft, is_good, is_within, granted, refused, unchanged, prim, no_flat, user_of, with_user, pages_of, with_register, resized, with_word, with_words}
use Rattle.cvm_model.specs.KernelMeaning.{Machines, ints_of, primitive_called, kernel_primitive, setting_of, machines_of, outcome_of, kernel_meaning, UnitsAreKernels}
use Rattle.cvm_model.specs.KernelMeaning as kernel
use Rattle.cvm_model.specs.Stands.{input_room}
use Rattle.cvm_model.specs.Cvm.{System, first_flat, dispatch_of, UnitsDontMatter}
use Rattle.cvm_model.specs.Invariant.{machine_after as after, Known, HasUsers, UserShaped, Shaped, HasRoom, RunsAreLawful}
use Rattle.cvm_model.proofs.KernelLaws.{work_of, start_of}
use Rattle.cvm_model.proofs.KernelReplay.{prim_count}
use Rattle.cvm_model.proofs.PrimitiveReplays.{and_left, and_right, place_is}

-- what each primitive keeps, a dispatch keeps
module _ (P : Machines → Type 0) (keeps : (k : ℕ) (args : Values) (m : Machines) → P m → P (kernel_primitive k args m).world) where
  world_keeps : (calls : List PrimitiveCall) (m : Machines) → P m → P (world_after kernel_primitive calls m)
  world_keeps [] m h = h
  world_keeps (c ∷ rest) m h = world_keeps rest (kernel_primitive c.number c.args m).world (keeps c.number c.args m h)

  dispatch_keeps : PrimitivesAlone Machines Changes → (u : CUnit) (p : Params) (n : ℕ) (c : Core) (cause edata user : ℤ) → P (machines_of p c)
      → P (stands_at (run_within (setting_of u p) n (work_of u cause edata user) (start_of p c))).world
  dispatch_keeps alone u p n c cause edata user h =
      let a = alone (setting_of u p) (work_of u cause edata user) (start_of p c) n in
      subst P (sym a.1.world) (world_keeps a.0 (machines_of p c) h)

-- THE SHAPE of machines and of the console
record Shapes (most count : ℕ) (m : Machines) : Type 0 where
  same : m.most ≡ most
  size : length m.users ≡ count
  each : All (UserShaped most) m.users
  log : length m.console.log ≤ LOG_ROOM
  input : length m.console.input ≤ input_room

none_shaped : (most : ℕ) → UserShaped most no_flat
none_shaped most = record { regs = refl; pages = omega arith; whole = refl }

index_shaped : (most : ℕ) (users : List Flat) (i : ℕ) → All (UserShaped most) users → UserShaped most (slice_index_or users i no_flat)
index_shaped most [] i h = none_shaped most
index_shaped most (f ∷ users) zero h = All-head (UserShaped most) f users h
index_shaped most (f ∷ users) (suc i) h = index_shaped most users i (All-tail (UserShaped most) f users h)

-- as long as it was
same_length : (most : ℕ) (f g : Flat) → UserShaped most f → length g.cpu.regs ≡ length f.cpu.regs → length g.words ≡ length f.words → UserShaped most g
same_length most f g h regs words =
    let pages : pages_of f ≤ most = h.pages in
    let whole : length f.words ≡ 1024 * pages_of f = h.whole in
    record { regs = regs ∙ h.regs; pages = omega arith; whole = omega arith }

register_shaped : (most : ℕ) (f : Flat) (r v : ℕ) → UserShaped most f → UserShaped most (with_register f r v)
register_shaped most f r v h = by (r == 32)
  where
    by : (b : Bool) → UserShaped most (record f { cpu = if b then record f.cpu { pc = v } else record f.cpu { regs = slice_set f.cpu.regs r v } })
    by true = record { regs = h.regs; pages = h.pages; whole = h.whole }
    by false = record { regs = length-set f.cpu.regs r v ∙ h.regs; pages = h.pages; whole = h.whole }

within_most : (most : ℕ) (z : ℤ) → is_within 0 most z ≡ true → nat_abs z ≤ most
within_most most (pos n) h = leb-true n most (and_right _ _ h)
within_most most (negsuc n) h = absurd (cc)

module _ (most count : ℕ) (users : List Flat) (o : Console) (h : Shapes most count (record { most = most; users = users; console = o })) where
  abbrev Kept : List Flat → Console → Type 0
  Kept users o = Shapes most count (record { most = most; users = users; console = o })

  one_set : (u : ℕ) (f : Flat) → UserShaped most f → Kept (with_user users u f) o
  one_set u f fits = record { same = refl; size = length-set users (u - 1) f ∙ h.size; each = All-set (UserShaped most) users (u - 1) f fits h.each; log = h.log; input = h.input }

  user_shaped : (u : ℕ) → UserShaped most (user_of users u)
  user_shaped u = index_shaped most users (u - 1) h.each

  put_shaped : (w : ℕ) (room : Bool) → log_has_room o.log ≡ room → Kept users (if room then record o { log = o.log ++ w ∷ [] } else o)
  put_shaped w false e = h
  put_shaped w true e = record { same = refl; size = h.size; each = h.each; log = omega (arith, ltb-true (length o.log) LOG_ROOM e, length-append o.log (w ∷ [])); input = h.input }

  granted_shaped : (c : KernelCall) → is_good most users c ≡ true → Kept (granted users o c).users (granted users o c).console
  granted_shaped (VmGet u r) g = h
  granted_shaped (VmSet u r v) g = one_set (nat_abs u) _ (register_shaped most (user_of users (nat_abs u)) (nat_abs r) (cast_unsigned w32 v) (user_shaped (nat_abs u)))
  granted_shaped (VmSize u) g = h
  granted_shaped (VmResize u p) g =
      let f : Flat = user_of users (nat_abs u) in
      let few : nat_abs p ≤ most = within_most most p (and_right _ _ g) in
      let size : length (resized f (nat_abs p)).words ≡ 1024 * nat_abs p =
      length-append (take (1024 * nat_abs p) f.words) (replicate (1024 * nat_abs p - length f.words) 0) ∙ omega (arith, length-take (1024 * nat_abs p) f.words, length-replicate {A = ℕ} (1024 * nat_abs p - length f.words) 0) in
      one_set (nat_abs u) (resized f (nat_abs p)) (record { regs = (user_shaped (nat_abs u)).regs; pages = omega (arith, size, few); whole = omega (arith, size) })
  granted_shaped (VmWord u a) g = h
  granted_shaped (VmPut u a v) g =
      let f : Flat = user_of users (nat_abs u) in
      one_set (nat_abs u) _ (same_length most f (with_word f (nat_abs a) (cast_unsigned w32 v)) (user_shaped (nat_abs u)) refl (length-set f.words (nat_abs a / 4) (cast_unsigned w32 v)))
  granted_shaped (VmCopy u a v b (negsuc n)) g = absurd (cc)
  granted_shaped (VmCopy u a v b (pos n)) g =
      let f : Flat = user_of users (nat_abs v) in
      let words : List ℕ = take n (drop (nat_abs a / 4) (user_of users (nat_abs u)).words) in
      let some : length words ≤ n = omega (arith, length-take n (drop (nat_abs a / 4) (user_of users (nat_abs u)).words)) in
      let inside : nat_abs b / 4 + n ≤ length f.words = place_is f b n (and_right _ _ (and_left _ _ g)) in
      let size : length (with_words f (nat_abs b) words).words ≡ length f.words =
      length-append (take (nat_abs b / 4) f.words) (words ++ drop (nat_abs b / 4 + length words) f.words)
      ∙ omega (arith, length-take (nat_abs b / 4) f.words, length-append words (drop (nat_abs b / 4 + length words) f.words), length-drop (nat_abs b / 4 + length words) f.words) in
      one_set (nat_abs v) (with_words f (nat_abs b) words) (same_length most f (with_words f (nat_abs b) words) (user_shaped (nat_abs v)) refl size)
  granted_shaped (ConPut w) g = put_shaped (cast_unsigned w32 w) (log_has_room o.log) refl
  granted_shaped ConGet g = record { same = refl; size = h.size; each = h.each; log = h.log; input = let few : length o.input ≤ input_room = h.input in omega (arith, few, length-drop 1 o.input) }
  granted_shaped ConLeft g = h

  prim_shaped : (c : KernelCall) → Kept (prim most c users o).users (prim most c users o).console
  prim_shaped c = by (is_good most users c) refl
    where
      by : (b : Bool) → is_good most users c ≡ b → let g = if b then granted users o c else unchanged users o (refused c) 0 0 in Kept g.users g.console
      by true e = granted_shaped c e
      by false e = h

called_shaped : (most count : ℕ) (m : Machines) (c : Option KernelCall) → Shapes most count m → Shapes most count (primitive_called m c).world
called_shaped most count m None h = h
called_shaped most count m (Some c) h =
    let k = prim_shaped m.most count m.users m.console (subst (λ n. Shapes n count m) (sym h.same) h) c in
    subst (λ n. Shapes n count (primitive_called m (Some c)).world) h.same (record { same = refl; size = k.size; each = k.each; log = k.log; input = k.input })

primitive_shaped : (most count : ℕ) (k : ℕ) (args : Values) (m : Machines) → Shapes most count m → Shapes most count (kernel_primitive k args m).world
primitive_shaped most count k args m h = called_shaped most count m (option_and_then (kernel.call_numbered k) (ints_of args)) h

-- A STEP OF A USER keeps the shape of its machine
record Alike (f g : Flat) : Type 0 where
  regs : length g.cpu.regs ≡ length f.cpu.regs
  words : length g.words ≡ length f.words

same_alike : (f : Flat) → Alike f f
same_alike f = record { regs = refl; words = refl }

write_length : (regs : List ℕ) (r v : ℕ) → length (write_register regs r v) ≡ length regs
write_length regs r v = by (r == 0)
  where
    by : (b : Bool) → length (if b then regs else slice_set regs r v) ≡ length regs
    by true = refl
    by false = length-set regs r v

accessed_alike : (f : Flat) (may : Bool) (misaligned refused : Cause) (address pc : ℕ) (m : Move) → Alike f (after (after_move f m)) → Alike f (after (after_move f (accessed may misaligned refused address pc m)))
accessed_alike f may a b address pc m h = by (is_aligned address) may
  where
    by : (aligned may : Bool) → Alike f (after (after_move f (if not aligned then Trapped a address pc else if not may then Trapped b address pc else m)))
    by false may = record { regs = refl; words = refl }
    by true false = record { regs = refl; words = refl }
    by true true = h

performed_alike : (f : Flat) (a : Access) (word : ℕ) (e : Effect) → Alike f (after (after_move f (performed a f.cpu word e)))
performed_alike f a word (effects.Set r v to) = record { regs = write_length f.cpu.regs r v; words = refl }
performed_alike f a word (effects.Wide hi lo to) = record { regs = refl; words = refl }
performed_alike f a word (effects.Load r address) =
    accessed_alike f (a.may_load address) _ _ address f.cpu.pc (Loaded (advanced f.cpu) r address) (record { regs = write_length f.cpu.regs r (word_at f.words address); words = refl })
performed_alike f a word (effects.Store address v) =
    accessed_alike f (a.may_store address) _ _ address f.cpu.pc (Stored (advanced f.cpu) address v) (record { regs = refl; words = length-set f.words (address / 4) v })
performed_alike f a word effects.Overflow = record { regs = refl; words = refl }
performed_alike f a word effects.Call = record { regs = refl; words = refl }
performed_alike f a word effects.System = same_alike f

executed_alike : (f : Flat) (a : Access) (word : ℕ) (i : Option Inst) → Alike f (after (after_move f (executed a f.cpu word i)))
executed_alike f a word None = record { regs = refl; words = refl }
executed_alike f a word (Some inst) = performed_alike f a word (effect_on inst f.cpu)

step_alike : (f : Flat) → Alike f (after (vstep f))
step_alike f =
    let a = flat_access f.words in let w = word_at f.words f.cpu.pc in
    accessed_alike f (a.may_fetch f.cpu.pc) causes.FetchAlign causes.FetchFault f.cpu.pc f.cpu.pc (executed a f.cpu w (decoding w)) (executed_alike f a w (decoding w))

-- WHAT IS KNOWN of each run
module _ (alone : PrimitivesAlone Machines Changes) (y : System) (u : CUnit) (is : y.boot.meaning ≡ kernel_meaning u y.boot.params) where
  -- a fact of states that speaks of machines and console alone
  module _ (P : Machines → Type 0) (keeps : (k : ℕ) (args : Values) (m : Machines) → P m → P (kernel_primitive k args m).world) where
    abbrev at_core : Core → Type 0
    at_core c = P (machines_of y.boot.params c)

    most_stays : (m : Machines) (k : ℕ) (args : Values) → (kernel_primitive k args m).world.most ≡ m.most
    most_stays m k args = by (option_and_then (kernel.call_numbered k) (ints_of args))
      where
        by : (c : Option KernelCall) → (primitive_called m c).world.most ≡ m.most
        by None = refl
        by (Some c) = refl

    ended : (c : Core) (o : c0_run.Outcome Machines Changes) → P (stands_at o).world → (stands_at o).world.most ≡ y.boot.params.pages → at_core (outcome_of c o).after
    ended c (c0_run.Done used d) h e = subst (λ n. P (record d.world { most = n })) e h
    ended c (c0_run.Failed used f d) h e = subst (λ n. P (record d.world { most = n })) e h
    ended c (c0_run.NotYet used d) h e = subst (λ n. P (record d.world { most = n })) e h

    dispatch_stays : (n cause edata : ℕ) (c : Core) → at_core c → at_core (dispatch_of y n cause edata c).after
    dispatch_stays n cause edata c h =
        subst (λ (m : KernelMeaning). at_core (m.dispatch n c (pos cause) (signed edata) (pos c.current)).after) (sym is)
        (ended c (run_within (setting_of u y.boot.params) n (work_of u (pos cause) (signed edata) (pos c.current)) (start_of y.boot.params c))
        (dispatch_keeps P keeps alone u y.boot.params n c (pos cause) (signed edata) (pos c.current) h)
        (dispatch_keeps (λ m. m.most ≡ y.boot.params.pages) (λ k args m e. most_stays m k args ∙ e) alone u y.boot.params n c (pos cause) (signed edata) (pos c.current) refl))

  count_stays : (k : ℕ) (args : Values) (m : Machines) → length m.users ≡ length y.boot.users → length (kernel_primitive k args m).world.users ≡ length y.boot.users
  count_stays k args m h = by (option_and_then (kernel.call_numbered k) (ints_of args))
    where
      by : (c : Option KernelCall) → length (primitive_called m c).world.users ≡ length y.boot.users
      by None = h
      by (Some c) = prim_count m.most c m.users m.console ∙ h

  counted : Known y (HasUsers y)
  counted = record {
    count = λ c h. h;
    start = length-map y.boot.users first_flat;
    step = λ c h user. length-set c.users (c.current - 1) (after (vstep (user_of c.users c.current))) ∙ h;
    dispatch = λ n cause edata c h. dispatch_stays (λ m. length m.users ≡ length y.boot.users) count_stays n cause edata c h;
    next = λ c u h user. h;
  }

  to_shapes : (c : Core) → Shaped y c → Shapes y.boot.params.pages (length y.boot.users) (machines_of y.boot.params c)
  to_shapes c h = record { same = refl; size = h.count; each = h.each; log = h.log; input = h.input }

  from_shapes : (c : Core) → Shapes y.boot.params.pages (length y.boot.users) (machines_of y.boot.params c) → Shaped y c
  from_shapes c h = record { count = h.size; each = h.each; log = h.log; input = h.input }

  first_shaped : (words : List ℕ) → length words ≤ 1024 * y.boot.params.pages → UserShaped y.boot.params.pages (first_flat words)
  first_shaped words few =
      let size : length (first_flat words).words ≡ next_page (length words) =
      length-append words (replicate (next_page (length words) - length words) 0) ∙ omega (arith, length-replicate {A = ℕ} (next_page (length words) - length words) 0) in
      record { regs = refl; pages = omega (arith, size, few); whole = omega (arith, size) }

  shaped : HasRoom y → Known y (Shaped y)
  shaped room = record {
    count = λ c h. h.count;
    start = record {
      count = length-map y.boot.users first_flat;
      each = All-map (UserShaped y.boot.params.pages) first_flat y.boot.users (λ i d lt. first_shaped (get_or y.boot.users i d) (room.users i d lt));
      log = omega arith;
      input = room.input;
    };
    step = λ c h user.
        let f : Flat = user_of c.users c.current in
        let a = step_alike f in
        let fits = same_length y.boot.params.pages f (after (vstep f)) (index_shaped y.boot.params.pages c.users (c.current - 1) h.each) a.regs a.words in
        record {
          count = length-set c.users (c.current - 1) (after (vstep f)) ∙ h.count;
          each = All-set (UserShaped y.boot.params.pages) c.users (c.current - 1) (after (vstep f)) fits h.each;
          log = h.log;
          input = h.input;
        };
    dispatch = λ n cause edata c h.
        from_shapes _ (dispatch_stays (Shapes y.boot.params.pages (length y.boot.users)) (primitive_shaped y.boot.params.pages (length y.boot.users)) n cause edata c (to_shapes c h));
    next = λ c u h user. record { count = h.count; each = h.each; log = h.log; input = h.input };
  }

pub runs_are_lawful : UnitsDontMatter → UnitsAreKernels → PrimitivesAlone Machines Changes → RunsAreLawful
runs_are_lawful same kernels alone = record { same = same; kernels = kernels; counted = λ y u e. counted alone y u e; shaped = λ y u e room. shaped alone y u e room }
