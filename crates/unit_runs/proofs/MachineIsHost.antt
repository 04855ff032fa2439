-- The physical machine over a layer is a host of a kernel's unit.
use Rattle.std.specs.Prelude.{slice_get, Some, All, length}
use Rattle.std.proofs.Common.{◌≡◌, ℕ, ◌+◌, ◌^◌, ◌<◌, ◌≤◌, List, [], ◌∷◌, ◌++◌, sym, ap, ◌∙◌, subst, arith}
use Rattle.mips_table.specs.declared.inst.Inst.{Inst}
use Rattle.mips_table.specs.Device.{Environment}
use Rattle.mips_table.specs.Fits.{StaysFitting}
use Rattle.mips_table.specs.Code.{CodeState, on_machine, Sound}
use Rattle.mips_table.specs.Machine.{State}
use Rattle.mips_table.specs.Simulation.{MachineSimulates}
use Rattle.masm.specs.declared.registers.CodeAddresses.{CodeAddresses}
use Rattle.layer_map.specs.Map.{layer_words}
use Rattle.page_model.specs.Laws.{AlikesStand}
use Rattle.c0_tree.specs.Primitives.{CPrimitive, kernel_primitives}
use Rattle.c0_tree.specs.Tree.{CUnit}
use Rattle.c0_meaning.specs.Operators.{faulted, stuck}
use Rattle.c0_meaning.specs.World.{Configuration, all_entries}
use Rattle.c0_meaning.specs.Running.{Work}
use Rattle.c0_meaning.specs.Execution.{Outcome, Done, Failed, NotYet, run_within}
use Rattle.c0_meaning.specs.Value.{Values}
use Rattle.c0_stmt_code.specs.Code.{links_of}
use Rattle.c0_runs.specs.Setup.{PrimitiveIsCalled}
use Rattle.c0_runs.specs.Standing.{Simulated}
use Rattle.c0_runs.specs.Runs.{Price, PrimitivePassed, Hosts, RunTo as HostRun, RunsFollow}
use Rattle.cvm_model.specs.Kernel.{Changes}
use Rattle.cvm_model.specs.KernelMeaning.{Machines, kernel_primitive}
use Rattle.cvm_model.specs.Cvm.{page_steps}
use Rattle.cvm_model.specs.TypedKernel.{RowsAreCalled}
use Rattle.cvm_model.specs.Stands.{Site, UserFits}
use Rattle.unit_runs.specs.Outer.{Outer}
use Rattle.unit_runs.specs.Placed.{program, CodeStands}
use Rattle.unit_runs.proofs.RunsComeSoFar.{RunsJoin, Reached, goes_on}
use Rattle.unit_runs.proofs.PrimitivesCounted.{counts_on}
use Rattle.unit_runs.proofs.CallsGrow.{one_entry}
use Rattle.unit_runs.proofs.PrimitivesPass.{Ground}
use Rattle.unit_runs.proofs.MeaningOnMachine.{FewUnits, z, Tells, RunTo, passed, one_told}

module _ (simulates : MachineSimulates) (joins : RunsJoin) (fitting : StaysFitting) (alikes : AlikesStand) (rows : RowsAreCalled)
    (x : Environment) (y : Site) (u : CUnit) (p : CodeAddresses) (code : List Inst) (words : List ℕ) (longest current : ℕ) (st : CodeStands u p y code) (g : Ground x y words longest) (user_ok : current ≤ y.map.users)
    (small : length words < 2 ^ 26) (sound : Sound (on_machine x (program y.map (layer_words + 1) code words))) (s0 : State)
    (few : FewUnits) where
  abbrev Here : ℕ → CodeState → Type 0
  Here k c = Reached simulates joins x y code words sound s0 k c

  abbrev Told : ℕ → Machines → List (List Changes) → Type 0
  Told k v calls = Tells simulates joins fitting alikes rows x y u p code words longest current st g user_ok small sound s0 k (all_entries calls)

  abbrev price : Price
  price = record { unit = 600; page = page_steps y.map longest }

  abbrev Pass : (k : ℕ) → CodeState → ℕ → ℕ → CPrimitive → Values → Machines → List (List Changes) → Type 0
  Pass k s to number row args v calls = PrimitivePassed Machines Changes (Outer y current) Here Told (z simulates joins fitting alikes rows x y u p code words longest current st g user_ok small sound s0) price k s to number row args v calls

  passes : (k : ℕ) (s : CodeState) (to number : ℕ) (row : CPrimitive) (args : Values) (v : Machines) (calls : List (List Changes)) → Here k s → Told k v calls → slice_get kernel_primitives number ≡ Some row
      → PrimitiveIsCalled (z simulates joins fitting alikes rows x y u p code words longest current st g user_ok small sound s0).w (links_of p) row number args to s → Outer y current v s.contents s.behind → s.contents.memory 1026 ≤ y.map.params.heap → Pass k s to number row args v calls
  passes k s to number row args v calls here told is called outer room =
      let pd = passed simulates joins fitting alikes rows x y u p code words longest current st g user_ok small sound s0 k s to number row args v here is called outer room in
      let more : all_entries (calls ++ (kernel_primitive number args v).entries ∷ []) ≡ all_entries calls ++ pd.changes ∷ [] = ap (λ es. all_entries (calls ++ es ∷ [])) pd.made ∙ one_entry calls pd.changes in
      let pages_few : v.most ≤ 1024 = let a = outer.most in let b = g.bounds.pages in omega (arith, a, b) in
      record {
        steps = pd.steps;
        end = pd.end;
        here = pd.come;
        back = pd.back;
        scalar = pd.scalar;
        answer = pd.answer;
        outer = pd.outer;
        within = pd.within;
        few = few number args v pages_few (subst (λ m. All (UserFits m) v.users) (sym outer.most) outer.each);
        told = subst (Tells simulates joins fitting alikes rows x y u p code words longest current st g user_ok small sound s0 (k + pd.steps)) (sym more)
            (one_told simulates joins fitting alikes rows x y u p code words longest current st g user_ok small sound s0 (k + pd.steps) (all_entries calls) pd.changes (pd.counts (length (all_entries calls)) told.counts) told.ends (pd.ends (length (all_entries calls)) told.counts));
      }

  pub hosts : Hosts Machines Changes (Outer y current) Here Told (z simulates joins fitting alikes rows x y u p code words longest current st g user_ok small sound s0) price
  hosts = record {
    goes_on = λ k n s t here steps. goes_on simulates joins x y code words sound s0 k n s t here steps;
    tells_on = λ k n s t v calls here steps told. record {
      counts = counts_on simulates joins x y code words sound s0 k n s t here steps (length (all_entries calls)) told.counts;
      ends = told.ends;
    };
    passes = passes;
  }

  -- so each run of the meaning is one of the machine
  come : (base limit : ℕ) (o : Outcome Machines Changes) → HostRun Machines Changes (Outer y current) Here Told (z simulates joins fitting alikes rows x y u p code words longest current st g user_ok small sound s0) price base limit o
      → RunTo simulates joins fitting alikes rows x y u p code words longest current st g user_ok small sound s0 base limit o
  come base limit (Done cost h) r = (r.0, r.1.machine, r.1.here, r.2, r.3, r.4, r.1.told)
  come base limit (Failed cost (faulted f) h) r = (r.0, r.1.machine, r.1.here, r.2, r.3, r.4, r.1.told)
  come base limit (Failed cost stuck h) r = absurd r
  come base limit (NotYet cost h) r = (r.late, r.later.machine, r.later.here, r.far, r.later.told)

  pub runs : RunsFollow Machines Changes (Outer y current) Here Told → (base : ℕ) (item : Work) (work : List Work) (h : Configuration Machines Changes) (s : CodeState) → Here base s → Told base h.world h.calls
      → Simulated Machines Changes (Outer y current) (z simulates joins fitting alikes rows x y u p code words longest current st g user_ok small sound s0) 0 (item ∷ work) h s → (n : ℕ) → RunTo simulates joins fitting alikes rows x y u p code words longest current st g user_ok small sound s0 base n (run_within (z simulates joins fitting alikes rows x y u p code words longest current st g user_ok small sound s0).p n (item ∷ work) h)
  runs follow base item work h s here told sim n =
      come base n (run_within (z simulates joins fitting alikes rows x y u p code words longest current st g user_ok small sound s0).p n (item ∷ work) h)
      (follow (z simulates joins fitting alikes rows x y u p code words longest current st g user_ok small sound s0) price hosts base item work h s here told sim n)
