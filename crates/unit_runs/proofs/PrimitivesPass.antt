-- A call of a primitive, passed on the machine: by the layer's law, from the state that has the call's configuration.
use Rattle.std.specs.Prelude.{slice_get, slice_index, Some}
use Rattle.std.proofs.Common.{◌≡◌, ◌⊎◌, inl, inr, ℕ, suc, ◌+◌, ◌-◌, ◌*◌, ◌/◌, ◌^◌, ◌<◌, ◌≤◌, List, [], ◌∷◌, length, map, refl, sym, ap, ◌∙◌, subst, arith}
use Rattle.std.proofs.lemmas.Bool.{cases_lt}
use Rattle.std.proofs.lemmas.List.{length-drop, length-map}
use Rattle.mips_table.specs.declared.inst.Inst.{Inst}
use Rattle.mips_table.specs.Encoding.{encoding}
use Rattle.mips_table.specs.Device.{Environment}
use Rattle.mips_table.specs.Fits.{NamesSector, StaysFitting}
use Rattle.mips_table.specs.Code.{World, CodeState, on_machine, Sound}
use Rattle.mips_table.specs.Machine.{State, run, Console}
use Rattle.mips_table.specs.Simulation.{configuration_of, Quiet, MachineSimulates}
use Rattle.masm.specs.declared.registers.CodeAddresses.{CodeAddresses}
use Rattle.layer_map.specs.Map.{layer_words, globals_at, heap_at, memory_words}
use Rattle.page_model.specs.Laws.{AlikesStand}
use Rattle.c0_tree.specs.Primitives.{CPrimitive, kernel_primitives}
use Rattle.c0_tree.specs.Tree.{CUnit}
use Rattle.mips_table.specs.Flat.{Flat}
use Rattle.c0_meaning.specs.State.{C0State}
use Rattle.c0_meaning.specs.Value.{group, Values}
use Rattle.c0_meaning.specs.World.{call_cost}
use Rattle.c0_meaning.specs.TypedState.{IsScalar}
use Rattle.c0_stmt_code.specs.Code.{links_of}
use Rattle.c0_runs.specs.Setup.{scalar_word, IsKept, HasReturned, PrimitiveIsCalled}
use Rattle.layer_contract.specs.declared.entry.Entry.{Entry}
use Rattle.layer_contract.specs.declared.entry.Entry.TheVariants.{Dispatch, Primitive, Fault as Exit, Leave}
use Rattle.layer_contract.specs.Layer.{Inside, IsEntry, BusyWithin, PrimitiveCalled, Returned, ComesBack, PrimitivesAnswer}
use Rattle.layer_contract.specs.Calls.{EndsCall}
use Rattle.layer_contract.specs.Follows.{IsKernelDoor}
use Rattle.cvm_model.specs.Kernel.{Core, Changes}
use Rattle.cvm_model.specs.KernelMeaning.{Machines, kernel_primitive, primitive_called}
use Rattle.cvm_model.specs.Primitives.{KernelCall, Given, prim, changes_told}
use Rattle.cvm_model.specs.Cvm.{run_steps}
use Rattle.cvm_model.specs.TypedKernel.{IsCallOf, RowsAreCalled}
use Rattle.cvm_model.specs.Stands.{Site, address_of}
use Rattle.unit_runs.specs.Held.{HoldsAt}
use Rattle.unit_runs.specs.Outer.{Outer}
use Rattle.unit_runs.specs.Placed.{program, CodeStands}
use Rattle.unit_runs.specs.Host.{CountsCalls}
use Rattle.unit_runs.proofs.MapPartsStand.{Bounds}
use Rattle.unit_runs.proofs.CodeOnMachine.{code_is, some_below, not_own, kept_words, kept_past}
use Rattle.unit_runs.proofs.UsersSeen.{space_is}
use Rattle.unit_runs.proofs.StandingIsSeen.{seen, behind, no_user, outer_of, IsSeen, stands_of}
use Rattle.unit_runs.proofs.RunsComeSoFar.{RunsJoin, inside_of, no_primitive, Reached, passes_on}
use Rattle.unit_runs.proofs.PrimitivesCounted.{IsElsewhere, counts_one, was_idle, in_code}
use Rattle.unit_runs.proofs.SiteStays.{regions_on}
use Rattle.unit_runs.proofs.WordsAsInts.{ints_from, ints_count, ints_stand, ints_length, scalar_flat, arguments}

door_entry : (e : Entry) → IsKernelDoor e → IsEntry e
door_entry Dispatch d = d
door_entry (Primitive k) d = absurd d
door_entry (Exit f) d = d
door_entry Leave d = d

-- what is known of the machine, beside the kernel's code
pub record Ground (x : Environment) (y : Site) (words : List ℕ) (longest : ℕ) : Type 0 where
  pub bounds : Bounds y.map
  pub big : memory_words y.map ≤ length words
  pub small : length words ≤ 65000 * 1024
  pub count : y.map.users * y.map.params.pages ≤ x.count
  pub busy : BusyWithin x longest
  pub answers : PrimitivesAnswer y

module _ (simulates : MachineSimulates) (joins : RunsJoin) (fitting : StaysFitting) (alikes : AlikesStand) (rows : RowsAreCalled)
    (x : Environment) (y : Site) (u : CUnit) (p : CodeAddresses) (code : List Inst) (words : List ℕ) (longest current : ℕ) (st : CodeStands u p y code) (g : Ground x y words longest) (user_ok : current ≤ y.map.users)
    (sound : Sound (on_machine x (program y.map (layer_words + 1) code words))) (s0 : State) where
  abbrev pub world : World
  world = on_machine x (program y.map (layer_words + 1) code words)

  abbrev pub Come : ℕ → CodeState → Type 0
  Come k c = Reached simulates joins x y code words sound s0 k c

  pub linked_words : length y.linked ≡ layer_words + length code
  linked_words =
      let drops = length-drop layer_words y.linked in let is = ap length st.linked in let maps : length (map encoding code) ≡ length code = length-map code encoding in let long = st.long in
      omega (arith, drops, is, maps, long)

  pub whole : length y.linked ≡ layer_words + y.map.code_words
  whole = let c = st.code_words in let l = linked_words in omega (arith, c, l)

  -- a primitive has been passed, in so many steps
  pub record Passed (k : ℕ) (s : CodeState) (to n : ℕ) (row : CPrimitive) (vs : Values) (v : Machines) : Type 0 where
    pub steps : ℕ
    pub end : CodeState
    pub come : Come (k + steps) end
    pub back : HasReturned u (regions_on y.map) y.map.params.stack to s end
    pub scalar : IsScalar row.answer (kernel_primitive n vs v).answer
    pub answer : end.contents.regs 2 ≡ scalar_word (kernel_primitive n vs v).answer
    pub outer : Outer y current (kernel_primitive n vs v).world end.contents end.behind
    pub within : steps ≤ run_steps y.map longest (call_cost (kernel_primitive n vs v)).primitive (kernel_primitive n vs v).pages
    pub changes : Changes
    pub made : (kernel_primitive n vs v).entries ≡ changes ∷ []
    pub counts : (m : ℕ) → CountsCalls x s0 k m → CountsCalls x s0 (k + steps) (suc m)
    pub ends : (m : ℕ) → CountsCalls x s0 k m → EndsCall x y longest s0 m changes

  module _ (k : ℕ) (s : CodeState) (to n : ℕ) (row : CPrimitive) (vs : Values) (users : List Flat) (console : Console) (come : Come k s) (is : slice_get kernel_primitives n ≡ Some row)
      (called : PrimitiveIsCalled world (links_of p) row n vs to s) (outer : Outer y current (record { most = y.map.params.pages; users = users; console = console }) s.contents s.behind) (room : s.contents.memory 1026 ≤ y.map.params.heap) where
    abbrev here : State
    here = run x s0 k

    abbrev memory : ℕ → ℕ
    memory = slice_index (run x s0 k).memory

    -- the kernel's data, taken as ints
    abbrev as_ints : C0State
    as_ints = record {
      global_values = group (ints_from memory (globals_at y.map) y.map.global_words);
      heap_values = group (ints_from memory (heap_at y.map) (memory 1026));
      heap_words = memory 1026;
      frames = [];
    }

    abbrev core : Core
    core = record { c0 = as_ints; users = users; console = console; current = current }

    abbrev v : Machines
    v = record { most = y.map.params.pages; users = users; console = console }

    contents : seen here ≡ s.contents
    contents = ap (λ c. c.contents) come.same

    size : length here.memory ≡ length words
    size = come.holds.size

    low_word : (k : ℕ) → k < length here.memory → s.contents.memory k ≡ memory k
    low_word k lt = sym (ap (λ c. c.memory k) contents) ∙ space_is here.memory here.device.buffer here.device.sector k lt

    long : memory_words y.map ≤ length here.memory
    long = let a = size in let b = g.big in omega (arith, a, b)

    used_is : s.contents.memory 1026 ≡ memory 1026
    used_is =
        let l = long in let b = g.bounds.memory in let c = g.bounds.code in let d = g.bounds.globals in let e = g.bounds.heap in let f = g.bounds.stack in let h = g.bounds.tables in let i = g.bounds.frame_table in
        low_word 1026 (omega (arith, l, b, c, d, e, f, h, i))

    small_word : (k : ℕ) → k < length here.memory → memory k < 2 ^ 32
    small_word k lt = come.quiet.fits.memory k 0 lt

    is_seen : IsSeen alikes x y g.bounds whole here core
    is_seen =
        let b = g.bounds.memory in let c = g.bounds.code in let d = g.bounds.globals in let e = g.bounds.heap in let f = g.bounds.stack in let h = g.bounds.tables in let i = g.bounds.frame_table in
        let l = long in let sz = size in let sm = g.small in let used = used_is in
        record {
          quiet = come.quiet;
          idle = ap (λ c. c.behind.pending) come.same ∙ called.idle;
          count = g.count;
          fits = record {
            users = outer.count;
            each = outer.each;
            globals = ints_count memory (globals_at y.map) y.map.global_words;
            heap = let n = ints_count memory (heap_at y.map) (memory 1026) in omega (arith, n, used, room);
            used = sym (ints_count memory (heap_at y.map) (memory 1026));
            frames = refl;
            current = user_ok;
            log = outer.log_room;
            input = outer.input_few;
          };
          long = long;
          small = omega (arith, sz, sm);
          outer = subst (λ c. Outer y current v c.contents c.behind) (sym come.same) outer;
          globals = λ i lt. space_is here.memory here.device.buffer here.device.sector (globals_at y.map + i) (omega (arith, lt, l, b, d, e, f, h, ints_length (address_of y.map as_ints) memory (globals_at y.map) y.map.global_words))
              ∙ ints_stand (address_of y.map as_ints) memory (globals_at y.map) y.map.global_words (λ k le less. small_word k (omega (arith, less, l, b, d, e, f, h))) i lt;
          heap = λ i lt. space_is here.memory here.device.buffer here.device.sector (heap_at y.map + i) (omega (arith, lt, l, b, e, f, h, used, room, ints_length (address_of y.map as_ints) memory (heap_at y.map) (memory 1026)))
              ∙ ints_stand (address_of y.map as_ints) memory (heap_at y.map) (memory 1026) (λ k le less. small_word k (omega (arith, less, l, b, e, f, h, used, room))) i lt;
          used = space_is here.memory here.device.buffer here.device.sector 1026 (omega (arith, l, b, c, d, e, f, h));
        }

    abbrev call : KernelCall
    call = (rows.call n row vs is called.scalars).0

    call_of : IsCallOf n vs call
    call_of = (rows.call n row vs is called.scalars).1

    few : n < 10
    few = some_below kernel_primitives n row is

    at_entry : here.cpu.pc ≡ 8192 + 4 * n
    at_entry =
        let e : here.cpu.pc / 4 ≡ s.at = ap (λ c. c.at) come.same in
        let a = called.at in let b = st.primitives n few in let c = come.quiet.aligned in
        omega (arith, e, a, b, c)

    return_word : slice_index here.cpu.regs 31 ≡ 4 * to
    return_word = ap (λ c. c.regs 31) contents ∙ called.return_at

    is_called : PrimitiveCalled x y core call here
    is_called =
        let c = code_is (layer_words + 1) code to called.code called.there in
        let le = c.0 in let lt = some_below code (to - layer_words) called.code c.1 in let r = return_word in let cw = st.code_words in
        let num = call_of.number in let at = at_entry in
        record {
          at = record { inside = inside_of x here come.quiet; pc = omega (arith, num, at); stands = stands_of alikes x y g.bounds whole here core is_seen };
          arguments = arguments row.args vs s.contents.regs here.cpu.regs 20 _ called.scalars call_of.arguments (λ k. ap (λ c. c.regs k) contents) called.arguments;
          back = record { from = omega (arith, r, le); to = omega (arith, r, lt, le, cw); whole = omega (arith, r) };
        }

    back_it : ComesBack x y longest core call here
    back_it = g.answers x longest here core call g.busy is_called

    abbrev given : Given
    given = prim y.map.params.pages call users console

    abbrev steps : ℕ
    steps = back_it.comes.steps

    abbrev later : State
    later = run x (run x s0 k) back_it.comes.steps

    returned : Returned x y given core (run x s0 k) later
    returned = back_it.comes.there

    result : kernel_primitive n vs v ≡ primitive_called v (Some call)
    result = ap (primitive_called v) call_of.is

    later_size : length later.memory ≡ length words
    later_size = (fitting x here steps come.quiet.fits).1 ∙ size

    later_word : (j : ℕ) → j < length words → (seen later).memory j ≡ slice_index later.memory j
    later_word j lt = let l = later_size in space_is later.memory later.device.buffer later.device.sector j (omega (arith, l, lt))

    quiet : Quiet x later
    quiet = let a = returned.pc in let b = return_word in record {
      fits = returned.stands.fits;
      on = returned.inside.on;
      no_reset = returned.inside.no_reset;
      sr = returned.inside.sr;
      mode = returned.inside.mode;
      aligned = omega (arith, a, b);
    }

    come_on : Come (k + steps) (configuration_of later)
    come_on = passes_on simulates joins x y code words sound s0 k steps s come
        (let w = back_it.comes.way in record { inside = w.inside; between = λ j e pos lt d. w.between j e pos lt (door_entry e d); sectors = w.sectors; frames = w.frames; named = w.named })
        (λ e pos d. no_primitive here.cpu.pc n e few at_entry d) quiet
        (record {
          size = later_size;
          kept = kept_words y.map words y.linked later.memory code st.linked (λ j le lt. let l = linked_words in returned.stands.kernel.linked j (omega (arith, lt, l)) (not_own y.map j g.bounds.users le))
              (λ j le lt. (back_it.comes.way.frames steps (omega arith)).words j le (subst (λ n. j < n) (sym size) lt) ∙ come.holds.kept j (slice_index words j) (kept_past y.map code words j le lt));
        })
        (record { count = omega arith; named = subst (NamesSector 0) (sym returned.stands.idle) tt })

    -- a word of a region that stood and stands for the same words
    same_words : (a w : ℕ) (ws : List ℕ) → length ws ≡ w → a + w ≤ length words → ((i : ℕ) → i < length ws → slice_index later.memory (a + i) ≡ slice_index ws i) → HoldsAt memory a ws → (j : ℕ) → a ≤ j → j < a + w
        → (seen later).memory j ≡ s.contents.memory j
    same_words a w ws is_long room_for now before j le lt =
        let e : a + (j - a) ≡ j = omega (arith, le) in
        let inside : j - a < length ws = omega (arith, le, lt, is_long) in
        let l = size in
        later_word j (omega (arith, lt, room_for)) ∙ ap (slice_index later.memory) (sym e) ∙ now (j - a) inside ∙ sym (before (j - a) inside) ∙ ap memory e ∙ sym (low_word j (omega (arith, lt, room_for, l)))

    kept : (j : ℕ) → IsKept u (regions_on y.map) (s.contents.memory 1026) y.map.params.stack j → (seen later).memory j ≡ s.contents.memory j
    kept j is_kept =
        let b = g.bounds.memory in let d = g.bounds.globals in let e = g.bounds.heap in let f = g.bounds.stack in let h = g.bounds.tables in let i = g.bounds.frame_table in
        let big = g.big in let used = used_is in let gw = st.global_words in
        elim is_kept [
          | inl o ↦ same_words (globals_at y.map) y.map.global_words _ (ints_length (address_of y.map as_ints) memory (globals_at y.map) y.map.global_words) (omega (arith, b, d, e, f, h, i, big)) returned.stands.kernel.globals
              (ints_stand (address_of y.map as_ints) memory (globals_at y.map) y.map.global_words (λ k le less. let l = size in small_word k (omega (arith, less, l, b, d, e, f, h, i, big)))) j o.0 (omega (arith, o.1, gw))
          | inr rest ↦ elim rest [
            | inl o ↦ same_words (heap_at y.map) (memory 1026) _ (ints_length (address_of y.map as_ints) memory (heap_at y.map) (memory 1026)) (omega (arith, b, e, f, h, i, big, used, room)) returned.stands.kernel.heap
                (ints_stand (address_of y.map as_ints) memory (heap_at y.map) (memory 1026) (λ k le less. let l = size in small_word k (omega (arith, less, l, b, e, f, h, i, big, used, room)))) j o.0 (omega (arith, o.1, used))
            | inr o ↦ let l = size in later_word j (omega (arith, o.1, b, f, h, i, big)) ∙ returned.stack j o.0 o.1 ∙ sym (low_word j (omega (arith, o.1, l, b, f, h, i, big)))
          ]
        ]

    variables : (j : ℕ) → 1026 ≤ j → j ≤ 1030 → (seen later).memory j ≡ s.contents.memory j
    variables j from to =
        let b = g.bounds.memory in let c = g.bounds.code in let d = g.bounds.globals in let e = g.bounds.heap in let f = g.bounds.stack in let h = g.bounds.tables in let i = g.bounds.frame_table in let big = g.big in let l = size in
        later_word j (omega (arith, to, b, c, d, e, f, h, i, big)) ∙ by (cases_lt 1026 j) ∙ sym (low_word j (omega (arith, to, l, b, c, d, e, f, h, i, big)))
      where
        by : (1026 < j) ⊎ (j ≤ 1026) → slice_index later.memory j ≡ memory j
        by (inl less) =
            let b = g.bounds.memory in let c = g.bounds.code in let d = g.bounds.globals in let e = g.bounds.heap in let f = g.bounds.stack in let h = g.bounds.tables in let i = g.bounds.frame_table in let big = g.big in let l = size in
            returned.stands.kernel.places j (omega (arith, less)) to ∙ sym (outer.places j (omega (arith, less)) to) ∙ low_word j (omega (arith, to, l, b, c, d, e, f, h, i, big))
        by (inr le) = let q : 1026 ≡ j = omega (arith, le, from) in subst (λ a. slice_index later.memory a ≡ memory a) q returned.stands.kernel.used

    register : (r : ℕ) → slice_index later.cpu.regs r ≡ slice_index here.cpu.regs r → slice_index later.cpu.regs r ≡ s.contents.regs r
    register r e = e ∙ ap (λ c. c.regs r) contents

    back : HasReturned u (regions_on y.map) y.map.params.stack to s (configuration_of later)
    back = let a = returned.pc in let b = return_word in record {
      at = omega (arith, a, b);
      globals_at = register 28 (returned.kept 0 0 (omega arith));
      frame_end = register 29 (returned.kept 1 0 (omega arith));
      stack_end = register 30 (returned.kept 2 0 (omega arith));
      kept = kept;
      variables = variables;
      idle = returned.stands.idle;
    }

    scalar : IsScalar row.answer (kernel_primitive n vs v).answer
    scalar = rows.answer n row vs v is called.scalars g.bounds.pages outer.each outer.input_few

    answer_word : slice_index later.cpu.regs 2 ≡ scalar_word given.answer
    answer_word =
        let a = returned.answer in
        let b = scalar_flat row.answer given.answer (subst (λ r. IsScalar row.answer r.answer) result scalar) in
        let c : slice_index later.cpu.regs 2 ∷ [] ≡ scalar_word given.answer ∷ [] = sym a ∙ b in
        cc

    elsewhere : IsElsewhere later
    elsewhere = let a = returned.pc in let from = is_called.back.from in in_code later (omega (arith, a, from))

    counts : (m : ℕ) → CountsCalls x s0 k m → CountsCalls x s0 (k + steps) (suc m)
    counts m c =
        let at = at_entry in
        counts_one joins x s0 k m n steps c (inside_of x here come.quiet) few (omega (arith, at)) back_it.apart returned.pc elsewhere

    inside_so_far : (j : ℕ) → j ≤ k → Inside (run x s0 j)
    inside_so_far j le = by (cases_lt j k)
      where
        by : (j < k) ⊎ (k ≤ j) → Inside (run x s0 j)
        by (inl lt) = come.way.inside j lt
        by (inr ge) = let q : k ≡ j = omega (arith, le, ge) in subst (λ i. Inside (run x s0 i)) q (inside_of x here come.quiet)

    ends : (m : ℕ) → CountsCalls x s0 k m → EndsCall x y longest s0 m (changes_told call given)
    ends m c = record {
      entry = k;
      core = core;
      call = call;
      inside = inside_so_far;
      idle = let at = at_entry in was_idle x s0 k m n c (inside_of x here come.quiet) few (omega (arith, at));
      called = is_called;
      back = back_it;
      ended = c.count;
      ends = (counts m c).count;
      same = refl;
    }

    pub passes : Passed k s to n row vs v
    passes = record {
      steps = steps;
      end = configuration_of later;
      come = come_on;
      back = back;
      scalar = scalar;
      answer = answer_word ∙ ap (λ r. scalar_word r.answer) (sym result);
      outer = subst (λ r. Outer y current r.world (seen later) (behind later)) (sym result)
          (outer_of alikes x y g.bounds whole later (record core { users = given.users; console = given.console }) returned.stands (no_user later returned.inside.mode));
      within = subst (λ r. steps ≤ run_steps y.map longest (call_cost r).primitive r.pages) (sym result) back_it.comes.within;
      changes = changes_told call given;
      made = ap (λ r. r.entries) result;
      counts = counts;
      ends = ends;
    }
