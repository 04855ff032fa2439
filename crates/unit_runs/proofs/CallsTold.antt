-- The calls of an outcome are those that the machine has ended, and it ends no more of them while it is inside.
use Rattle.std.specs.Prelude.{slice_get, slice_index, Some}
use Rattle.std.proofs.Common.{◌≡◌, ◌≢◌, ℕ, ◌+◌, ◌*◌, ◌^◌, ◌<◌, ◌≤◌, List, length, sym, ◌∙◌, arith}
use Rattle.std.proofs.lemmas.Bool.{and_parts, eqb-true}
use Rattle.mips_table.specs.declared.inst.Inst.{Inst}
use Rattle.mips_table.specs.Arith.{signed}
use Rattle.mips_table.specs.Device.{Environment}
use Rattle.mips_table.specs.Fits.{StaysFitting}
use Rattle.mips_table.specs.Code.{on_machine, Sound}
use Rattle.mips_table.specs.declared.special.TheConstants.{MODE}
use Rattle.mips_table.specs.Machine.{State, run}
use Rattle.mips_table.specs.Turns.{is_on, in_user}
use Rattle.mips_table.specs.Simulation.{MachineSimulates}
use Rattle.masm.specs.declared.registers.CodeAddresses.{CodeAddresses}
use Rattle.layer_map.specs.Map.{layer_words}
use Rattle.page_model.specs.Laws.{AlikesStand}
use Rattle.c0_tree.specs.Tree.{CUnit}
use Rattle.c0_meaning.specs.Sound.{shapes}
use Rattle.c0_meaning.specs.Operators.{faulted, stuck}
use Rattle.c0_meaning.specs.Operators as c0
use Rattle.c0_meaning.specs.Execution as c0_run
use Rattle.c0_expr_runs.specs.Laws.{IsOpened}
use Rattle.layer_contract.specs.declared.entry.Entry.TheVariants.{Fault as Exit, Leave}
use Rattle.layer_contract.specs.Layer.{layer_entry, Inside, Leaves, Exits, Rests}
use Rattle.layer_contract.specs.declared.registers.TheConstants.{ANSWER}
use Rattle.layer_contract.specs.Calls.{entered_before, EndsCall}
use Rattle.cvm_model.specs.Kernel.{Core, Changes, power_of}
use Rattle.cvm_model.specs.declared.kernel_fault.KernelFault.{KernelFault}
use Rattle.cvm_model.specs.declared.kernel_fault.KernelFault.TheVariants.{NullUse, Bounds, DivZero, StackOut, BadUser}
use Rattle.cvm_model.specs.KernelMeaning.{Machines, fault_of, outcome_of}
use Rattle.cvm_model.specs.Cvm.{Status, Running, Halted, Faulted, next_of, status_of}
use Rattle.cvm_model.specs.TypedKernel.{RowsAreCalled}
use Rattle.cvm_model.specs.Stands.{Site}
use Rattle.unit_runs.specs.Held.{HeldIsFlat}
use Rattle.unit_runs.specs.Placed.{program, CodeStands}
use Rattle.unit_runs.proofs.RunsComeSoFar.{RunsJoin}
use Rattle.unit_runs.proofs.PrimitivesCounted.{none_some, IsElsewhere, counts_last}
use Rattle.unit_runs.proofs.PrimitivesPass.{Ground}
use Rattle.unit_runs.proofs.MeaningOnMachine.{RunTo}
use Rattle.unit_runs.proofs.DispatchEnds.{left, at_exit}

-- a machine that rests isn't inside
outside : (status : Status) (s : State) → Rests status s → Inside s → ⊥
outside Running s rests inside =
    let user : slice_index s.special MODE ≡ 1 = eqb-true _ 1 (and_parts (is_on s) (in_user s) rests).1 in
    let mode = inside.mode in
    omega (arith, user, mode)
outside Halted s rests inside = none_some _ (sym inside.on ∙ rests)
outside (Faulted f) s rests inside = none_some _ (sym inside.on ∙ rests)

-- C0 faults by no bad user
a_fault : (f : c0.KernelFault) → fault_of f ≢ BadUser
a_fault c0.NullUse e = cc
a_fault c0.Bounds e = cc
a_fault c0.DivZero e = cc
a_fault c0.StackOut e = cc

-- no primitive's entry is one of the others
leave_elsewhere : (s : State) → s.cpu.pc ≡ layer_entry Leave → IsElsewhere s
leave_elsewhere s at i lt e = omega (arith, at, lt, e)

exit_elsewhere : (s : State) (f : ℕ) → 1 ≤ f → s.cpu.pc ≡ layer_entry (Exit f) → IsElsewhere s
exit_elsewhere s f one at i lt e = omega (arith, one, at, lt, e)

fault_some : (f : KernelFault) → 1 ≤ power_of f
fault_some NullUse = omega arith
fault_some Bounds = omega arith
fault_some DivZero = omega arith
fault_some StackOut = omega arith
fault_some BadUser = omega arith

module _ (simulates : MachineSimulates) (joins : RunsJoin) (fitting : StaysFitting) (alikes : AlikesStand) (rows : RowsAreCalled)
    (x : Environment) (y : Site) (u : CUnit) (p : CodeAddresses) (code : List Inst) (words : List ℕ) (longest : ℕ) (c : Core) (st : CodeStands u p y code) (g : Ground x y words longest) (user_ok : c.current ≤ y.map.users)
    (small : length words < 2 ^ 26) (sound : Sound (on_machine x (program y.map (layer_words + 1) code words))) (s0 : State)
    (flats : HeldIsFlat) (opened : IsOpened (shapes u)) (base n : ℕ) (few : base ≤ 5) where
  abbrev To : c0_run.Outcome Machines Changes → Type 0
  To o = RunTo simulates joins fitting alikes rows x y u p code words longest c.current st g user_ok small sound s0 base n o

  pub all_told : (o : c0_run.Outcome Machines Changes) → To o → (m : ℕ) (changes : Changes) → slice_get (outcome_of c o).calls m ≡ Some changes → EndsCall x y longest s0 m changes
  all_told (c0_run.Done cost d) r = r.6.ends
  all_told (c0_run.Failed cost (faulted f) d) r = r.6.ends
  all_told (c0_run.Failed cost stuck d) r = absurd r
  all_told (c0_run.NotYet cost d) r = r.4.ends

  module _ (leaves : Leaves y) (exits : Exits y) (t : ℕ) (units : 8388608 * (t + 1) ≤ n) (inside : (j : ℕ) → j ≤ t → Inside (run x s0 j)) where
    pub no_others : (o : c0_run.Outcome Machines Changes) → To o → entered_before x s0 t ≤ length (outcome_of c o).calls
    no_others (c0_run.Done cost d) r =
        let l = left simulates joins fitting alikes rows x y u p code words longest c st g user_ok small sound s0 flats opened base n few cost d r in
        let out = leaves x (run x s0 l.steps) _ l.at in
        counts_last joins x s0 l.steps _ t out.steps l.counts (leave_elsewhere (run x s0 l.steps) l.at.pc) y out.way (outside (status_of (next_of y.map.users (signed (slice_index (run x s0 l.steps).cpu.regs ANSWER)))) _ out.there.rests) inside
    no_others (c0_run.Failed cost (faulted f) d) r =
        let at = at_exit simulates joins fitting alikes rows x y u p code words longest c st g user_ok small sound s0 flats opened base n few cost f d r in
        let out = exits x (run x s0 r.0) _ (fault_of f) (a_fault f) at in
        counts_last joins x s0 r.0 _ t out.steps r.6.counts (exit_elsewhere (run x s0 r.0) (power_of (fault_of f)) (fault_some (fault_of f)) at.pc) y out.way (outside (Faulted (fault_of f)) _ out.there.rests) inside
    no_others (c0_run.Failed cost stuck d) r = absurd r
    no_others (c0_run.NotYet cost d) r = let late = r.3 in r.4.counts.early t (omega (arith, units, late))
