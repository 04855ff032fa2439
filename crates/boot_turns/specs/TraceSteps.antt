-- What one step of a loop does to a trace.
use Rattle.std.specs.Prelude.{◌≡◌, ℕ, suc, ◌≤◌, false, Option, Some, List, length, Result, MatchResult}
use Rattle.mips_table.specs.Device.{Environment}
use Rattle.mips_table.specs.Machine.{State, run}
use Rattle.mips_table.specs.Turns.{rests}
use Rattle.mips_machine.specs.Machine.{Held}
use Rattle.mips_machine.specs.Steps.{outside_of}
use Rattle.layer_map.specs.Map.{Map}
use Rattle.c0_tree.specs.Tree.{CUnit}
use Rattle.c0_meaning.specs.TypedState.{IsTypedState}
use Rattle.cvm_model.specs.Cvm.{System}
use Rattle.layer_contract.specs.Follows.{site_of}
use Rattle.boot_turns.specs.declared.completion.Stepped.{Stepped}
use Rattle.boot_turns.specs.declared.tracer.Tracer.{Tracer}
use Rattle.boot_turns.specs.declared.answers.RunFault.{RunFault}
use Rattle.boot_turns.specs.declared.answers.RunFault.TheVariants.{Sink}
use Rattle.boot_turns.specs.Completes.{state_seen}
use Rattle.boot_turns.specs.Premises.{StartsFrom}
use Rattle.boot_turns.specs.Tracing.{Traced}

-- ONE STEP OF A TRACE, for every run from a start that stands there, of one of its users; a step in whose rows the sink failed completes no turn
abbrev pub StepTraces : Environment → Map → Held → (told : Option (List (List ℕ))) → (before after : Option Tracer) → Result Stepped RunFault → Type 0
StepTraces x m held told before after result =
    (c : CUnit) (y : System) (s : State) (late limit u t : ℕ) → StartsFrom (IsTypedState c) x y s late limit →
    m ≡ (site_of y.boot).map → 1 ≤ u → u ≤ length y.boot.users → state_seen told held ≡ Some (run x s t) → Traced x y s u t before →
    MatchResult result (λ _. Traced x y s u (suc t) after) (λ fault. fault ≡ Sink → rests (run x s (suc t)) ≡ false)

-- over a disk of so many sectors
abbrev pub StepTracesOver : (count : ℕ) → Map → Held → (told : Option (List (List ℕ))) → (before after : Option Tracer) → Result Stepped RunFault → Type 0
StepTracesOver count m held told before after result = StepTraces (outside_of held.rows count) m held told before after result
