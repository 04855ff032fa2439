-- Where a dispatch begins: the entry's code leads to the function, with its arguments and its data as the meaning has them.
use Rattle.std.specs.Prelude.{slice_index, slice_get, Some, ℤ, FitsSigned, unwrap_or, take, nat_lt}
use Rattle.std.specs.Int.{w32, cast_unsigned}
use Rattle.std.proofs.lemmas.Int.{of_z-to_z}
use Rattle.std.proofs.lemmas.Bool.{and_parts, ltb-false}
use Rattle.std.proofs.lemmas.List.{get_or-take}
use Rattle.std.proofs.Common.{◌≡◌, ℕ, ◌+◌, ◌/◌, ◌^◌, ◌<◌, ◌≤◌, Bool, true, false, List, [], ◌∷◌, length, map, refl, sym, ap, ◌∙◌, subst, arith, ltb-true}
use Rattle.mips_table.specs.declared.inst.Inst.{Inst}
use Rattle.mips_table.specs.declared.inst.Inst.TheVariants.{Lui}
use Rattle.mips_table.specs.Arith.{signed}
use Rattle.mips_table.specs.Device.{Environment}
use Rattle.mips_table.specs.Fits.{NamesSector, StaysFitting}
use Rattle.mips_table.specs.Code.{World, Contents, CodeState, at_with, on_machine, Sound, Steps, CodeAt}
use Rattle.mips_table.specs.Machine.{State, run}
use Rattle.mips_table.specs.Simulation.{configuration_of, Quiet, MemoryHolds, DiskServes, MachineSimulates}
use Rattle.masm.specs.declared.registers.CodeAddresses.{CodeAddresses}
use Rattle.layer_map.specs.Map.{layer_words, leave_at, globals_at, heap_at, stack_at}
use Rattle.page_model.specs.Laws.{AlikesStand}
use Rattle.c0_tree.specs.Tree.{CDecl, CUnit}
use Rattle.c0_meaning.specs.Ty.{Ty, ty_of, same_ty, TypesEqualAsWritten}
use Rattle.c0_meaning.specs.Ty as ty
use Rattle.c0_meaning.specs.Env.{Shape, typed_of}
use Rattle.c0_meaning.specs.Limits.{are_three_ints}
use Rattle.c0_meaning.specs.Sound.{shapes}
use Rattle.c0_meaning.specs.RunLaws.{HasDispatch}
use Rattle.c0_meaning.specs.State.{Frame, C0State}
use Rattle.c0_meaning.specs.Value.{Values, int, empty, part}
use Rattle.c0_meaning.specs.World.{Configuration, beginning}
use Rattle.c0_meaning.specs.Running.{begin}
use Rattle.c0_meaning.specs.TypedState.{StoreTyping, types_of, AllFit, store_typing, IsTypedWith, IsTypedState}
use Rattle.c0_runtime.specs.Code.{startup_code, behind_first}
use Rattle.c0_runtime.specs.Laws.{IsEntered, StackIs, EntryRuns, with_half}
use Rattle.c0_expr_runs.specs.Laws.{IsOpened}
use Rattle.c0_expr_runs.specs.Bases.{Bases}
use Rattle.c0_runs.specs.Setup.{Setup}
use Rattle.c0_runs.specs.Standing as code_run
use Rattle.c0_runs.specs.Standing.{bases, Simulated}
use Rattle.layer_contract.specs.Layer.{Linked, DispatchCalled}
use Rattle.cvm_model.specs.Kernel.{Core, Changes, flat}
use Rattle.cvm_model.specs.KernelMeaning.{Machines, machines_of}
use Rattle.cvm_model.specs.Cvm.{Running}
use Rattle.cvm_model.specs.TypedKernel.{RowsAreCalled}
use Rattle.cvm_model.specs.Stands.{Site, RunningRelation, address_of}
use Rattle.unit_runs.specs.Held.{HoldsAt, IsHeldFlat, HeldIsFlat}
use Rattle.unit_runs.specs.Outer.{Outer}
use Rattle.unit_runs.specs.Placed.{program, CodeStands}
use Rattle.c0_meaning.specs.CallChain.{dispatch_number}
use Rattle.unit_runs.specs.Host.{CountsCalls}
use Rattle.unit_runs.proofs.CodeOnMachine.{piece_at, not_own, kept_past, kept_words}
use Rattle.unit_runs.proofs.UsersSeen.{space_is}
use Rattle.unit_runs.proofs.StandingIsSeen.{seen, behind, no_user, outer_of}
use Rattle.unit_runs.proofs.RunsComeSoFar.{RunsJoin, Reached, inside_of, instructs_named, goes_on}
use Rattle.unit_runs.proofs.PrimitivesCounted.{IsElsewhere, begins, counts_along, counts_on}
use Rattle.unit_runs.proofs.SiteStays.{setup}
use Rattle.unit_runs.proofs.HeldStandAsWords.{flat_scalars}
use Rattle.unit_runs.proofs.PrimitivesPass.{Ground, linked_words, whole}

-- a word as an int is one of 32 bits
pub signed_fits : (n : ℕ) → FitsSigned w32 (signed n)
signed_fits n = by_test (nat_lt n (2 ^ 31)) refl
  where
    by_test : (b : Bool) → nat_lt n (2 ^ 31) ≡ b → FitsSigned w32 (signed n)
    by_test true e = rw e (record { sfits = let h = ltb-true n (2 ^ 31) e in omega (arith, h) })
    by_test false e = rw e (record { sfits = let h = ltb-false n (2 ^ 31) e in omega (arith, h) })

-- three ints for three parameters of type int
three_ints : TypesEqualAsWritten → (structs : List Shape) (layout : StoreTyping) (ds : List CDecl) (a b c : ℤ) → are_three_ints ds ≡ true → FitsSigned w32 a → FitsSigned w32 b → FitsSigned w32 c
    → AllFit structs layout (types_of (map typed_of ds)) (part (int a) (part (int b) (part (int c) empty)))
three_ints same structs layout (x ∷ y ∷ z ∷ []) a b c e f g h =
    let p = and_parts (same_ty (ty_of x.ty) ty.int) _ e in
    let q = and_parts (same_ty (ty_of y.ty) ty.int) (same_ty (ty_of z.ty) ty.int) p.1 in
    subst (λ ts. AllFit structs layout ts (part (int a) (part (int b) (part (int c) empty))))
    (sym (three_types (ty_of x.ty) (ty_of y.ty) (ty_of z.ty) ((same (ty_of x.ty) ty.int).0 p.0) ((same (ty_of y.ty) ty.int).0 q.0) ((same (ty_of z.ty) ty.int).0 q.1)))
    (f, (g, (h, tt)))
  where
    three_types : (t u w : Ty) → t ≡ ty.int → u ≡ ty.int → w ≡ ty.int → t ∷ u ∷ w ∷ [] ≡ ty.int ∷ ty.int ∷ ty.int ∷ []
    three_types t u w p q r = cc
three_ints same structs layout [] a b c e f g h = absurd (cc)
three_ints same structs layout (x ∷ []) a b c e f g h = absurd (cc)
three_ints same structs layout (x ∷ y ∷ []) a b c e f g h = absurd (cc)
three_ints same structs layout (x ∷ y ∷ z ∷ w ∷ ds) a b c e f g h = absurd (cc)

abbrev pub with_frames : C0State → List Frame → C0State
with_frames s f = record s { frames = f }

module _ (simulates : MachineSimulates) (joins : RunsJoin) (fitting : StaysFitting) (alikes : AlikesStand) (rows : RowsAreCalled)
    (x : Environment) (y : Site) (u : CUnit) (p : CodeAddresses) (code : List Inst) (words : List ℕ) (longest : ℕ) (c : Core) (st : CodeStands u p y code) (g : Ground x y words longest) (user_ok : c.current ≤ y.map.users)
    (small : length words < 2 ^ 26) (sound : Sound (on_machine x (program y.map (layer_words + 1) code words))) (sound_all : Sound (on_machine x (program y.map layer_words code words))) (s0 : State)
    (flats : HeldIsFlat) (opened : IsOpened (shapes u)) (dispatch : HasDispatch) (same_types : TypesEqualAsWritten)
    (entry : EntryRuns (on_machine x (program y.map (layer_words + 1) code words))) (entry_all : EntryRuns (on_machine x (program y.map layer_words code words)))
    (sizes : List ℕ) (variables : Linked y.map sizes (take layer_words y.linked))
    (cause edata user : ℤ) (typed : IsTypedState u c.c0) (called : DispatchCalled x y c cause edata user s0) (same : s0.memory ≡ words) where
  size : length s0.memory ≡ length words
  size = ap length same

  abbrev z : Setup Machines Changes (Outer y c.current)
  z = setup x y u p code words st g.bounds g.big small alikes c.current

  abbrev w : World
  w = on_machine x (program y.map (layer_words + 1) code words)

  abbrev all : World
  all = on_machine x (program y.map layer_words code words)

  abbrev Here : ℕ → CodeState → Type 0
  Here k s = Reached simulates joins x y code words sound s0 k s

  abbrev standing : RunningRelation x y s0 Running c
  standing = called.at.stands

  linked_so : length y.linked ≡ layer_words + length code
  linked_so = linked_words simulates joins fitting alikes rows x y u p code words longest c.current st g user_ok sound s0

  abbrev whole_so : length y.linked ≡ layer_words + y.map.code_words
  whole_so = whole simulates joins fitting alikes rows x y u p code words longest c.current st g user_ok sound s0

  quiet : Quiet x s0
  quiet = let pc = called.at.pc in record {
    fits = standing.fits;
    on = called.at.inside.on;
    no_reset = called.at.inside.no_reset;
    sr = called.at.inside.sr;
    mode = called.at.inside.mode;
    aligned = omega (arith, pc);
  }

  holds : MemoryHolds all s0.memory
  holds = record { size = ap length same; kept = kept_words y.map words y.linked s0.memory code st.linked (λ j le lt. let l = linked_so in standing.kernel.linked j (omega (arith, lt, l)) (not_own y.map j g.bounds.users le)) (λ j le lt. ap (λ w. slice_index w j) same) }

  serves : DiskServes x all s0.device
  serves = record { count = omega arith; named = subst (NamesSector 0) (sym standing.idle) tt }

  at_entry : configuration_of s0 ≡ at_with layer_words (seen s0) (behind s0)
  at_entry = let pc = called.at.pc in let e : s0.cpu.pc / 4 ≡ layer_words = omega (arith, pc) in ap (λ a. at_with a (seen s0) (behind s0)) e

  pub code_at : CodeAt w (layer_words + 1) (behind_first p.globals)
  code_at = piece_at x y.map (layer_words + 1) words code (behind_first p.globals) (Lui 28 (p.globals / 2 ^ 16) ∷ []) st.rest (omega arith) st.entry

  code_all : CodeAt all layer_words (startup_code p.globals)
  code_all = let e : layer_words + 0 ≡ layer_words = omega arith in subst (λ k. CodeAt all k (startup_code p.globals)) e (piece_at x y.map layer_words words code (startup_code p.globals) [] st.rest (omega arith) st.entry)

  not_there : IsElsewhere s0
  not_there i lt e = let pc = called.at.pc in omega (arith, pc, lt, e)

  -- the first instruction
  pub record First : Type 0 where
    pub steps : ℕ
    pub few : steps ≤ 1
    pub come : Here steps (at_with (layer_words + 1) (with_half p.globals (seen s0)) (behind s0))
    pub counts : CountsCalls x s0 steps 0

  first : First
  first =
      let r = entry_all.first layer_words p.globals (seen s0) (behind s0) code_all standing.idle in
      let steps : Steps all r.steps (configuration_of s0) (at_with (layer_words + 1) (with_half p.globals (seen s0)) (behind s0)) = subst (λ a. Steps all r.steps a (at_with (layer_words + 1) (with_half p.globals (seen s0)) (behind s0))) (sym at_entry) r.run in
      let sim = simulates x (program y.map layer_words code words) s0 r.steps _ sound_all quiet holds serves steps in
      let last = sim.along r.steps (omega arith) in
      let one = r.within in
      record {
        steps = r.steps;
        few = r.within;
        come = record {
          same = sim.same r.steps (omega arith) ∙ steps.1;
          quiet = last.quiet;
          holds = record { size = last.holds.size; kept = last.holds.kept };
          serves = record { count = last.serves.count; named = last.serves.named };
          way = record {
            inside = λ j lt. inside_of x (run x s0 j) (sim.along j (omega (arith, lt))).quiet;
            between = λ j e pos lt d. absurd (omega (arith, pos, lt, one));
            sectors = λ j le q from. (sim.along j le).sectors q (omega arith);
            frames = λ j le. record {
              size = (sim.along j le).holds.size ∙ sym (ap length same);
              words = λ k from lt. let here : k < length words = subst (λ l. k < length l) same lt in
                  (sim.along j le).holds.kept k (slice_index words k) (kept_past y.map code words k from here) ∙ ap (λ w. slice_index w k) (sym same);
            };
            named = λ j lt. instructs_named x y layer_words code words (run x s0 j) (sim.instructs j lt);
          };
        };
        counts =
            let e : 0 + r.steps ≡ r.steps = omega arith in
            subst (λ i. CountsCalls x s0 i 0) e (counts_along x s0 0 0 r.steps (begins x s0 not_there) (λ j lt. let none : 0 ≡ 0 + j = omega (arith, lt, one) in subst (λ i. IsElsewhere (run x s0 i)) none not_there));
      }

  -- the layer's variables that the kernel knows
  low_word : (k : ℕ) → k < layer_words → (seen s0).memory k ≡ slice_index s0.memory k
  low_word k lt =
      let b = g.bounds.memory in let cd = g.bounds.code in let d = g.bounds.globals in let e = g.bounds.heap in let f = g.bounds.stack in let h = g.bounds.tables in let i = g.bounds.frame_table in let big = g.big in let l = size in
      space_is s0.memory s0.device.buffer s0.device.sector k (omega (arith, lt, b, cd, d, e, f, h, i, big, l))

  variable : (k v : ℕ) → 1027 ≤ k → k ≤ 1030 → slice_index (take layer_words y.linked) k ≡ v → (seen s0).memory k ≡ v
  variable k v from to is = low_word k (omega (arith, to)) ∙ standing.kernel.places k from to ∙ sym (get_or-take layer_words y.linked k 0 (omega (arith, to))) ∙ is

  stack_is : StackIs w (stack_at y.map) y.map.params.stack (seen s0)
  stack_is =
      let b = g.bounds.memory in let cd = g.bounds.code in let d = g.bounds.globals in let e = g.bounds.heap in let f = g.bounds.stack in let h = g.bounds.tables in let i = g.bounds.frame_table in let big = g.big in
      record {
        first_word = variable 1029 _ (omega arith) (omega arith) variables.stack_first;
        limit_word = variable 1030 _ (omega arith) (omega arith) variables.stack_limit;
        variables = omega (arith, b, cd, d, e, f, h, i, big);
        inside = omega (arith, b, f, h, i, big);
      }

  abbrev started : Configuration Machines Changes
  started = beginning (record c.c0 { frames = [] }) (machines_of y.map.params c)

  abbrev args : Values
  args = part (int cause) (part (int edata) (part (int user) empty))

  -- the function is entered, and the run stands there
  pub record Begun : Type 0 where
    pub base : ℕ
    pub few : base ≤ 5
    pub end : CodeState
    pub come : Here base end
    pub counts : CountsCalls x s0 base 0
    pub sim : Simulated Machines Changes (Outer y c.current) z 0 (begin (dispatch_number u) args ∷ []) started end

  abbrev its_bases : Bases
  its_bases = bases Machines Changes (Outer y c.current) z typed.0 []

  typed_now : IsTypedWith u typed.0 (record c.c0 { frames = [] })
  typed_now = record { global_values = typed.1.global_values; heap_values = typed.1.heap_values; frames = λ i d lt. absurd (omega (arith, lt)) }

  is_flat : IsHeldFlat u y.map its_bases (record c.c0 { frames = [] })
  is_flat = flats u y.map its_bases (record c.c0 { frames = [] }) opened (record { globals = refl; heap = refl }) typed_now

  without_frames : c.c0 ≡ record c.c0 { frames = [] }
  without_frames = ap (λ f. with_frames c.c0 f) standing.whole.frames

  word_there : (k : ℕ) → k < length words → (seen s0).memory k ≡ slice_index s0.memory k
  word_there k lt = let l = size in space_is s0.memory s0.device.buffer s0.device.sector k (omega (arith, lt, l))

  globals_held : HoldsAt (seen s0).memory (globals_at y.map) (flat (address_of y.map (record c.c0 { frames = [] })) c.c0.global_values)
  globals_held =
      let b = g.bounds.memory in let d = g.bounds.globals in let e = g.bounds.heap in let f = g.bounds.stack in let h = g.bounds.tables in let i = g.bounds.frame_table in let big = g.big in let n = standing.whole.globals in
      subst (λ q. HoldsAt (seen s0).memory (globals_at y.map) (flat (address_of y.map q) c.c0.global_values)) without_frames
      (λ j lt. word_there (globals_at y.map + j) (omega (arith, lt, flat_scalars (address_of y.map c.c0) c.c0.global_values, n, b, d, e, f, h, i, big)) ∙ standing.kernel.globals j lt)

  heap_held : HoldsAt (seen s0).memory (heap_at y.map) (flat (address_of y.map (record c.c0 { frames = [] })) c.c0.heap_values)
  heap_held =
      let b = g.bounds.memory in let e = g.bounds.heap in let f = g.bounds.stack in let h = g.bounds.tables in let i = g.bounds.frame_table in let big = g.big in let n = standing.whole.heap in
      subst (λ q. HoldsAt (seen s0).memory (heap_at y.map) (flat (address_of y.map q) c.c0.heap_values)) without_frames
      (λ j lt. word_there (heap_at y.map + j) (omega (arith, lt, flat_scalars (address_of y.map c.c0) c.c0.heap_values, n, b, e, f, h, i, big)) ∙ standing.kernel.heap j lt)

  -- the data, with the registers as the entry left them
  stands : (c' : Contents) → IsEntered p.globals (stack_at y.map) y.map.params.stack (seen s0) c' → code_run.ConfigurationStands Machines Changes (Outer y c.current) z typed.0 started c' (behind s0)
  stands c' ent =
      let used = standing.whole.used in let room = standing.whole.heap in
      let memory = ent.memory in
      record {
        typed = typed_now;
        declared = typed.2;
        used = sym is_flat.heap_words ∙ sym standing.whole.used;
        room = omega (arith, used, room);
        stack_room = omega arith;
        globals = (is_flat.globals c'.memory).0 (subst (λ m. HoldsAt m (globals_at y.map) (flat (address_of y.map (record c.c0 { frames = [] })) c.c0.global_values)) (sym ent.memory) globals_held);
        heap = (is_flat.heap c'.memory).0 (subst (λ m. HoldsAt m (heap_at y.map) (flat (address_of y.map (record c.c0 { frames = [] })) c.c0.heap_values)) (sym ent.memory) heap_held);
        used_word = ap (λ m. m 1026) ent.memory ∙ low_word 1026 (omega arith) ∙ standing.kernel.used;
        heap_size = ap (λ m. m 1027) ent.memory ∙ variable 1027 _ (omega arith) (omega arith) variables.heap_words;
        heap_first = ap (λ m. m 1028) ent.memory ∙ variable 1028 _ (omega arith) (omega arith) variables.heap_first;
        stack_first = ap (λ m. m 1029) ent.memory ∙ variable 1029 _ (omega arith) (omega arith) variables.stack_first;
        stack_limit = ap (λ m. m 1030) ent.memory ∙ variable 1030 _ (omega arith) (omega arith) variables.stack_limit;
        globals_at = ent.globals ∙ st.globals;
        stack_end = ent.stack;
        outer = z.outer_stays (machines_of y.map.params c) (seen s0) c' (behind s0) (λ k no. ap (λ m. m k) ent.memory) ent.special (outer_of alikes x y g.bounds whole_so s0 c standing (no_user s0 called.at.inside.mode));
        idle = standing.idle;
      }

  -- an argument's register
  passed : (c' : Contents) → IsEntered p.globals (stack_at y.map) y.map.params.stack (seen s0) c' → (r : ℕ) (a : ℤ) → r < 28 → signed (slice_index s0.cpu.regs r) ≡ a → c'.regs r ≡ cast_unsigned w32 a
  passed c' ent r a lt is =
      let n = standing.fits.cpu.regs.size in
      ent.regs r lt ∙ sym (of_z-to_z w32 (slice_index s0.cpu.regs r) (standing.fits.cpu.regs.each r 0 (omega (arith, n, lt)))) ∙ ap (cast_unsigned w32) is

  pub begun : Begun
  begun =
      let f = first in
      let e = entry.enters layer_words p.globals (stack_at y.map) y.map.params.stack (seen s0) (behind s0) code_at standing.idle stack_is in
      let ent = e.1 in
      let one = f.few in let four = e.2.within in
      let d = dispatch u st.checked in
      let is : slice_get u.functions (dispatch_number u) ≡ Some d.1 = subst (λ k. slice_get u.functions k ≡ Some d.1) (sym (ap (λ o. unwrap_or o 0) d.2)) d.3 in
      let k = and_parts _ _ d.4 in
      let ints = and_parts (are_three_ints d.1.params) _ k.1 in
      let a0 = called.arguments.0 in let a1 = called.arguments.1.0 in let a2 = called.arguments.1.1.0 in
      let frame = ent.frame in
      record {
        base = f.steps + e.2.steps;
        few = omega (arith, one, four);
        end = at_with (layer_words + 5) e.0 (behind s0);
        come = goes_on simulates joins x y code words sound s0 f.steps e.2.steps (at_with (layer_words + 1) (with_half p.globals (seen s0)) (behind s0)) (at_with (layer_words + 5) e.0 (behind s0)) f.come e.2.run;
        counts = counts_on simulates joins x y code words sound s0 f.steps e.2.steps (at_with (layer_words + 1) (with_half p.globals (seen s0)) (behind s0)) (at_with (layer_words + 5) e.0 (behind s0)) f.come e.2.run 0 f.counts;
        sim = record {
          objects = typed.0;
          stands = stands e.0 e.1;
          activations = [];
          waiting = tt;
          frame_at = omega (arith, frame);
          function = d.1;
          is = is;
          at = sym (st.begins d.1 is);
          to = leave_at;
          return_at = e.1.back;
          fits = three_ints same_types (shapes u) (store_typing u typed.0) d.1.params cause edata user ints.0 (subst (FitsSigned w32) a0 (signed_fits _)) (subst (FitsSigned w32) a1 (signed_fits _)) (subst (FitsSigned w32) a2 (signed_fits _));
          arguments = (passed e.0 e.1 20 cause (omega arith) a0, (passed e.0 e.1 21 edata (omega arith) a1, (passed e.0 e.1 22 user (omega arith) a2, tt)));
          ahead = refl;
        };
      }
