-- The calls of a run's steps, by what callers see of the run.
use Rattle.std.proofs.Common.{◌≡◌, ℕ, Result, refl, subst}
use Rattle.cvm_outside.specs.declared.sink.Sink as sink_of
use Rattle.cvm_outside.specs.declared.sectors.Sectors as sectors_of
use Rattle.cvm_outside.specs.Script.{blame}
use Rattle.layer_map.specs.Map.{Map}
use Rattle.mips_machine.specs.Steps.{outside_of}
use Rattle.cvm_model.specs.Cvm.{map_of}
use Rattle.layer_contract.specs.Boots.{boot_of}
use Rattle.boot_turns.specs.declared.answers.RunFault.{RunFault}
use Rattle.boot_turns.specs.RowScripts.{of_run}
use Rattle.boot_turns.specs.LoopScripts.{StepsCall}
use Rattle.boot_turns.proofs.StepMakes.{as_made}
use Rattle.boot_run.specs.LoadEnds.{Kept}

pub turn_calls : {L R T O D : Type 0} (text : sink_of.Ghosts O) (told : sectors_of.Ghosts D) (now inside : Kept L) (m : Map) (o o1 : O) (d d1 : D) (n : ℕ) (before : Result R RunFault) (result : Result T RunFault) →
    blame of_run before ≡ blame of_run result → inside ≡ now → m ≡ map_of (boot_of inside.boot) → StepsCall text told m inside.machine inside.tracer (o, d) (o1, d1) n before →
    StepsCall text told (map_of (boot_of now.boot)) now.machine now.tracer (o, d) (o1, d1) n result
turn_calls {L} {R} {T} text told now inside m o o1 d d1 n before result same is map_is calls =
    subst (λ (k : Kept L). StepsCall text told (map_of (boot_of k.boot)) k.machine k.tracer (o, d) (o1, d1) n result) is
    (subst (λ (m : Map). StepsCall text told m inside.machine inside.tracer (o, d) (o1, d1) n result) map_is
    (as_made (outside_of inside.machine.rows (told.size d)) text told m inside.machine inside.tracer o d before result o1 d1 n n refl same calls))
