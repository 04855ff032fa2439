-- THE SCRIPT OF STEPS of a machine: where its disk tells its sectors, exactly; and what it may be where the disk tells none.
use Rattle.std.specs.Prelude.{◌≡◌, ℕ, zero, suc, ◌+◌, ◌≤◌, ⊤, List, [], ◌∷◌, length, Option, Some, None, Result}
use Rattle.mips_table.specs.Device.{Environment}
use Rattle.mips_table.specs.Machine.{State, run}
use Rattle.mips_machine.specs.Machine.{Held}
use Rattle.mips_machine.specs.Steps.{outside_of, script_of_step}
use Rattle.layer_map.specs.Map.{Map}
use Rattle.c0_tree.specs.Tree.{CUnit}
use Rattle.c0_meaning.specs.TypedState.{IsTypedState}
use Rattle.cvm_model.specs.Cvm.{System}
use Rattle.layer_contract.specs.Follows.{site_of}
use Rattle.cvm_outside.specs.Outside.{Outside, Files, output, drive}
use Rattle.cvm_outside.specs.declared.sink.Sink as sink_of
use Rattle.cvm_outside.specs.declared.sectors.Sectors as sectors_of
use Rattle.cvm_outside.specs.Script.{Call, Printed, Read, Wrote, Who, Performs, Makes, scripts, blame}
use Rattle.boot_turns.specs.declared.answers.RunFault.{RunFault}
use Rattle.boot_turns.specs.declared.answers.View.TheVariants.{Trace}
use Rattle.boot_turns.specs.declared.tracer.Tracer.{Tracer}
use Rattle.boot_turns.specs.Completes.{state_seen}
use Rattle.boot_turns.specs.Premises.{StartsFrom}
use Rattle.boot_turns.specs.Trace.{Shown}
use Rattle.boot_turns.specs.Tracing.{Traced}
use Rattle.boot_turns.specs.Runs.{Run, Past}
use Rattle.boot_turns.specs.StepScript.{step_script}
use Rattle.boot_turns.specs.RowScripts.{of_run}

-- n STEPS ARE MADE, each by its script: the calls of all but the last are done, and then those of the last are made; so no step is made behind a call that
-- failed
abbrev pub InSteps : (each : ℕ → List Call) → (n : ℕ) → (old new : Outside) → Option Who → Type 0
InSteps each zero old new blamed = Performs [] old new blamed
InSteps each (suc n) old new blamed = (mid : Outside) × Performs (scripts each n) old mid None × Performs (each n) mid new blamed

-- calls are made so by a function over a sink and a disk, whatever stands beside them
abbrev pub MakesAs : {O D T : Type 0} → sink_of.Ghosts O → sectors_of.Ghosts D → (old new : O × D) → (Outside → Outside → Option Who → Type 0) →
    Result T RunFault → Type 0
MakesAs text told (o, d) (o', d') made result = (shelf : Files) →
    made (record { shelf = shelf; sink = output text o; disk = drive told d }) (record { shelf = shelf; sink = output text o'; disk = drive told d' })
    (blame of_run result)

-- the transfers of n steps, from any step of any run in which the machine stands
abbrev pub StepsMake : {O D T : Type 0} → Environment → sink_of.Ghosts O → sectors_of.Ghosts D → Held → (old new : O × D) → (n : ℕ) → Result T RunFault → Type 0
StepsMake x text told held (out, disk) new n result =
    (s : State) (t : ℕ) → state_seen (told.sectors disk) held ≡ Some (run x s t) →
    MakesAs text told (out, disk) new (InSteps (λ i. script_of_step x (run x s (t + i))) n) result

-- the run of a trace of user u
abbrev pub traced_run : Environment → System → State → (u turns steps : ℕ) → Run
traced_run x y s u turns steps = record { around = x; system = y; first = s; view = Trace u; turns = turns; steps = steps }

-- the transfers of n steps and their rows, from any step of any run from a start in which the machine stands and one of whose users is traced
abbrev pub StepsTrace : {O D T : Type 0} → Environment → sink_of.Ghosts O → sectors_of.Ghosts D → Map → Held → Option Tracer → (old new : O × D) → (n : ℕ) →
    Result T RunFault → Type 0
StepsTrace x text told m held kept (out, disk) new n result =
    (c : CUnit) (y : System) (s : State) (late limit u t : ℕ) → StartsFrom (IsTypedState c) x y s late limit →
    m ≡ (site_of y.boot).map → 1 ≤ u → u ≤ length y.boot.users → state_seen (told.sectors disk) held ≡ Some (run x s t)
    → Traced x y s u t kept →
    (p : Past) (turns steps : ℕ) → ((j : ℕ) → t ≤ j → j ≤ t + n → Shown x s y u j (p.shown j)) →
    MakesAs text told (out, disk) new (InSteps (λ i. step_script (traced_run x y s u turns steps) p (t + i)) n) result

-- calls of a run whose disk tells no sectors: sectors are read and written, and texts printed that aren't told
abbrev pub AreOfRun : List Call → Type 0
AreOfRun [] = ⊤
AreOfRun (Read sector ∷ rest) = AreOfRun rest
AreOfRun (Wrote sector words ∷ rest) = AreOfRun rest
AreOfRun (Printed None ∷ rest) = AreOfRun rest
AreOfRun (other ∷ rest) = ⊥

-- some such calls are made
abbrev pub SomeMake : {O D T : Type 0} → sink_of.Ghosts O → sectors_of.Ghosts D → (old new : O × D) → Result T RunFault → Type 0
SomeMake text told old new result = (script : List Call) × AreOfRun script × Makes text told old new script of_run result

-- THE CALLS OF n STEPS, with what was kept of a trace before them: where no user is traced, where one is, and over any disk
pub record StepsMakeCalls {O D T : Type 0} (x : Environment) (text : sink_of.Ghosts O) (told : sectors_of.Ghosts D) (m : Map) (held : Held)
    (kept : Option Tracer) (old new : O × D) (n : ℕ) (result : Result T RunFault) : Type 0 where
  pub untraced : kept ≡ None → StepsMake x text told held old new n result
  pub traced : StepsTrace x text told m held kept old new n result
  pub some : SomeMake text told old new result

-- over the disk as it was
abbrev pub StepsCall : {O D T : Type 0} → sink_of.Ghosts O → sectors_of.Ghosts D → Map → Held → Option Tracer → (old new : O × D) → (n : ℕ) →
    Result T RunFault → Type 0
StepsCall text told m held kept (out, disk) new n result = StepsMakeCalls (outside_of held.rows (told.size disk)) text told m held kept (out, disk) new n result
