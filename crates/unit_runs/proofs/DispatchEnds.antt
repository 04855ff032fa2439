-- Where a run has come to an end the machine stands for what the dispatch means.
use Rattle.std.specs.Prelude.{Some, ℤ, slice_index}
use Rattle.std.specs.Prelude.{FitsSigned}
use Rattle.std.proofs.lemmas.Bool.{cases_lt}
use Rattle.std.specs.Int.{w32}
use Rattle.std.proofs.lemmas.Int.{to_z-of_z}
use Rattle.std.proofs.Common.{◌≡◌, ◌⊎◌, inl, inr, ℕ, ◌+◌, ◌*◌, ◌/◌, ◌^◌, ◌<◌, ◌≤◌, List, [], length, refl, sym, ap, ◌∙◌, subst, arith}
use Rattle.mips_table.specs.declared.inst.Inst.{Inst}
use Rattle.mips_table.specs.Arith.{signed}
use Rattle.mips_table.specs.Device.{Environment}
use Rattle.mips_table.specs.Fits.{StaysFitting}
use Rattle.mips_table.specs.Code.{CodeState, on_machine, Sound}
use Rattle.mips_table.specs.Machine.{State, run}
use Rattle.mips_table.specs.Simulation.{MachineSimulates}
use Rattle.masm.specs.declared.registers.CodeAddresses.{CodeAddresses}
use Rattle.layer_map.specs.Map.{layer_words, globals_at, heap_at}
use Rattle.page_model.specs.Laws.{AlikesStand}
use Rattle.c0_tree.specs.Tree.{CUnit}
use Rattle.c0_meaning.specs.Ty.{Ty}
use Rattle.c0_meaning.specs.Sound.{shapes}
use Rattle.c0_meaning.specs.Operators.{KernelFault, faulted, stuck}
use Rattle.c0_meaning.specs.RunLaws.{AnswersAnInt}
use Rattle.c0_meaning.specs.Value.{Value, int}
use Rattle.c0_meaning.specs.World.{Cost, total, Configuration, journal_so_far}
use Rattle.c0_meaning.specs.TypedState.{IsTypedWith}
use Rattle.c0_meaning.specs.Execution as c0_run
use Rattle.c0_expr_runs.specs.Laws.{IsOpened}
use Rattle.c0_expr_runs.specs.Bases.{Bases, word_of_scalar}
use Rattle.c0_runs.specs.Setup.{Setup}
use Rattle.c0_runs.specs.Standing as code_run
use Rattle.c0_runs.specs.Standing.{bases, unit_scope}
use Rattle.layer_contract.specs.declared.entry.Entry.{Entry}
use Rattle.layer_contract.specs.declared.entry.Entry.TheVariants.{Fault as Exit, Leave}
use Rattle.layer_contract.specs.declared.registers.TheConstants.{ANSWER}
use Rattle.layer_contract.specs.Layer.{layer_entry, Inside, Way, IsAtEntry}
use Rattle.layer_contract.specs.Follows.{IsKernelDoor, EndsAs}
use Rattle.cvm_model.specs.Kernel.{Core, Changes, Answers, power_of, flat}
use Rattle.cvm_model.specs.KernelMeaning.{Machines, fault_of, answer_end, core_at, outcome_of}
use Rattle.cvm_model.specs.Cvm.{Running, run_steps}
use Rattle.cvm_model.specs.TypedKernel.{RowsAreCalled}
use Rattle.cvm_model.specs.Stands.{Site, RunningRelation, address_of}
use Rattle.unit_runs.specs.Held.{HoldsAt, IsHeldFlat, HeldIsFlat}
use Rattle.unit_runs.specs.Outer.{Outer}
use Rattle.unit_runs.specs.Placed.{program, CodeStands}
use Rattle.unit_runs.specs.Host.{CountsCalls}
use Rattle.unit_runs.proofs.StandingIsSeen.{seen, behind, IsSeen, stands_of}
use Rattle.unit_runs.proofs.RunsComeSoFar.{RunsJoin, Reached, inside_of}
use Rattle.unit_runs.proofs.SiteStays.{setup}
use Rattle.unit_runs.proofs.PrimitivesPass.{Ground, whole}
use Rattle.unit_runs.proofs.MeaningOnMachine.{RunTo}

-- the first part of a way
pub way_upto : (x : Environment) (y : Site) (D : Entry → Type 0) (s : State) (k j : ℕ) → j ≤ k → Way x y D k s → Way x y D j s
way_upto x y D s k j le w = record { inside = λ i lt. w.inside i (omega (arith, lt, le)); between = λ i e pos lt d. w.between i e pos (omega (arith, lt, le)) d; sectors = λ i less. w.sectors i (omega (arith, less, le)); frames = λ i lt. w.frames i (omega (arith, le, lt)); named = λ i lt. w.named i (omega (arith, lt, le)) }

abbrev pub with_most : ℕ → Machines → Machines
with_most m v = record { most = m; users = v.users; console = v.console }

module _ (simulates : MachineSimulates) (joins : RunsJoin) (fitting : StaysFitting) (alikes : AlikesStand) (rows : RowsAreCalled)
    (x : Environment) (y : Site) (u : CUnit) (p : CodeAddresses) (code : List Inst) (words : List ℕ) (longest : ℕ) (c : Core) (st : CodeStands u p y code) (g : Ground x y words longest) (user_ok : c.current ≤ y.map.users)
    (small : length words < 2 ^ 26) (sound : Sound (on_machine x (program y.map (layer_words + 1) code words))) (s0 : State)
    (flats : HeldIsFlat) (opened : IsOpened (shapes u)) where
  abbrev z : Setup Machines Changes (Outer y c.current)
  z = setup x y u p code words st g.bounds g.big small alikes c.current

  abbrev Here : ℕ → CodeState → Type 0
  Here k s = Reached simulates joins x y code words sound s0 k s

  abbrev H : Type 0
  H = Configuration Machines Changes

  abbrev Data : List Ty → H → CodeState → Type 0
  Data objects h s = code_run.ConfigurationStands Machines Changes (Outer y c.current) z objects h s.contents s.behind

  abbrev its_bases : List Ty → Bases
  its_bases objects = bases Machines Changes (Outer y c.current) z objects []

  abbrev linked_so : length y.linked ≡ layer_words + y.map.code_words
  linked_so = whole simulates joins fitting alikes rows x y u p code words longest c.current st g user_ok sound s0

  -- the machine stands for where the run stands
  pub stands_now : (k : ℕ) (s : CodeState) (h : H) (objects : List Ty) → Here k s → Data objects h s → RunningRelation x y (run x s0 k) Running (core_at c h)
  stands_now k s h objects here sd = stands_of alikes x y g.bounds linked_so (run x s0 k) (core_at c h) is_seen
    where
      typed : IsTypedWith u objects (record h.state { frames = [] })
      typed = record { global_values = sd.typed.global_values; heap_values = sd.typed.heap_values; frames = λ i d lt. absurd (omega (arith, lt)) }

      is_flat : IsHeldFlat u y.map (its_bases objects) (record h.state { frames = [] })
      is_flat = flats u y.map (its_bases objects) (record h.state { frames = [] }) opened (record { globals = refl; heap = refl }) typed

      outer : Outer y c.current h.world s.contents s.behind
      outer = sd.outer

      same : ◌≡◌ {A = Machines} (record { most = y.map.params.pages; users = h.world.users; console = h.world.console }) h.world
      same = ap (λ m. with_most m h.world) (sym outer.most)

      memory_is : (seen (run x s0 k)).memory ≡ s.contents.memory
      memory_is = ap (λ q. q.contents.memory) here.same

      is_seen : IsSeen alikes x y g.bounds linked_so (run x s0 k) (core_at c h)
      is_seen =
          let gw = is_flat.global_words in let hw = is_flat.heap_words in let used = sd.used in let room = sd.room in let sg = st.global_words in
          let size = here.holds.size in let big = g.big in let sm = g.small in
          record {
            quiet = here.quiet;
            idle = ap (λ q. q.behind.pending) here.same ∙ sd.idle;
            count = g.count;
            fits = record {
              users = outer.count;
              each = outer.each;
              globals = gw ∙ sym sg;
              heap = omega (arith, hw, used, room);
              used = sym used ∙ sym hw;
              frames = refl;
              current = user_ok;
              log = outer.log_room;
              input = outer.input_few;
            };
            long = omega (arith, size, big);
            small = omega (arith, size, sm);
            outer = subst (λ v. Outer y c.current v (seen (run x s0 k)) (behind (run x s0 k))) (sym same) (subst (λ q. Outer y c.current h.world q.contents q.behind) (sym here.same) outer);
            globals = subst (λ m. HoldsAt m (globals_at y.map) (flat (address_of y.map (record h.state { frames = [] })) h.state.global_values)) (sym memory_is) ((is_flat.globals s.contents.memory).1 sd.globals);
            heap = subst (λ m. HoldsAt m (heap_at y.map) (flat (address_of y.map (record h.state { frames = [] })) h.state.heap_values)) (sym memory_is) ((is_flat.heap s.contents.memory).1 sd.heap);
            used = ap (λ m. m 1026) memory_is ∙ sd.used_word;
          }

  pc_of : (k a : ℕ) (s : CodeState) → Here k s → s.at ≡ a → (run x s0 k).cpu.pc ≡ 4 * a
  pc_of k a s here is = let e : (run x s0 k).cpu.pc / 4 ≡ s.at = ap (λ q. q.at) here.same in let q = here.quiet.aligned in omega (arith, e, q, is)

  is_at : (k a : ℕ) (s : CodeState) (h : H) (objects : List Ty) (e : Entry) → Here k s → Data objects h s → s.at ≡ a → 4 * a ≡ layer_entry e → IsAtEntry x y e (core_at c h) (run x s0 k)
  is_at k a s h objects e here sd at place = record { inside = inside_of x (run x s0 k) here.quiet; pc = pc_of k a s here at ∙ place; stands = stands_now k s h objects here sd }

  module _ (base n : ℕ) (few : base ≤ 5) where
    abbrev To : c0_run.Outcome Machines Changes → Type 0
    To o = RunTo simulates joins fitting alikes rows x y u p code words longest c.current st g user_ok small sound s0 base n o

    -- the kernel is left, in so many steps, where the run has ended
    pub record Left (cost : Cost) (d : H) : Type 0 where
      pub steps : ℕ
      pub within : steps ≤ run_steps y.map longest (total cost) cost.pages
      pub way : Way x y IsKernelDoor steps s0
      pub at : IsAtEntry x y Leave (core_at c d) (run x s0 steps)
      pub answer : (a : ℤ) → d.answer ≡ Some (int a) → FitsSigned w32 a → signed (slice_index (run x s0 steps).cpu.regs ANSWER) ≡ a
      pub counts : CountsCalls x s0 steps (length (journal_so_far d))

    -- the first function has returned to the entry at which the kernel is left
    pub left : (cost : Cost) (d : H) → To (c0_run.Done cost d) → Left cost d
    left cost d r =
        let high = r.4 in let some = r.5 in
        record {
          steps = r.0;
          within = omega (arith, high, some, few);
          way = r.2.way;
          at = is_at r.0 2062 r.1 d r.3.objects Leave r.2 r.3.stands r.3.at refl;
          answer = λ a is fits.
              let value : r.3.value ≡ int a = some_same (sym r.3.is ∙ is) in
              ap (λ q. signed (q.contents.regs 2)) r.2.same ∙ ap signed r.3.answer ∙ ap (λ v. signed (word_of_scalar (unit_scope u) (its_bases r.3.objects) v)) value ∙ to_z-of_z w32 a fits;
          counts = r.6.counts;
        }
      where
        some_same : {v w : Value} → Some v ≡ Some w → v ≡ w
        some_same q = cc

    leaves : (cost : Cost) (d : H) → To (c0_run.Done cost d) → (a : ℤ) → d.answer ≡ Some (int a) → FitsSigned w32 a → EndsAs x longest y n s0 (outcome_of c (c0_run.Done cost d)) (Answers a)
    leaves cost d r a is fits = let l = left cost d r in record { steps = l.steps; within = l.within; way = l.way; there = (l.at, l.answer a is fits) }

    -- a fault's exit is reached
    pub at_exit : (cost : Cost) (f : KernelFault) (d : H) → (r : To (c0_run.Failed cost (faulted f) d)) → IsAtEntry x y (Exit (power_of (fault_of f))) (core_at c d) (run x s0 r.0)
    at_exit cost f d r = is_at r.0 (2057 + power_of (fault_of f)) r.1 d r.3.objects (Exit (power_of (fault_of f))) r.2 r.3.stands (r.3.at ∙ st.exits f) (omega arith)

    pub ends : (o : c0_run.Outcome Machines Changes) → To o → AnswersAnInt o → EndsAs x longest y n s0 (outcome_of c o) (outcome_of c o).end
    ends (c0_run.Done cost d) r a = subst (λ e. EndsAs x longest y n s0 (outcome_of c (c0_run.Done cost d)) e) (sym (ap answer_end a.1)) (leaves cost d r a.0 a.1 a.2)
    ends (c0_run.Failed cost (faulted f) d) r a =
        let high = r.4 in let some = r.5 in
        record { steps = r.0; within = omega (arith, high, some, few); way = r.2.way; there = at_exit cost f d r }
    ends (c0_run.Failed cost stuck d) r a = absurd r
    ends (c0_run.NotYet cost d) r a = λ j le. let lt = r.3 in let less : j ≤ r.0 = omega (arith, le, lt) in (way_upto x y IsKernelDoor s0 r.0 j less r.2.way, by j less (cases_lt j r.0))
      where
        by : (j : ℕ) → j ≤ r.0 → (j < r.0) ⊎ (r.0 ≤ j) → Inside (run x s0 j)
        by j less (inl lt) = r.2.way.inside j lt
        by j less (inr ge) = let q : r.0 ≡ j = omega (arith, less, ge) in subst (λ i. Inside (run x s0 i)) q (inside_of x (run x s0 r.0) r.2.quiet)
