-- What is kept of a trace behind the rows of a step, where no call fails.
use Rattle.std.specs.Prelude.{◌≡◌, ◌≢◌, ℕ, Bool, false, Option, List, [], Result, OnOk, OnErr}
use Rattle.mips_machine.specs.Machine.{Held}
use Rattle.layer_map.specs.Map.{Map}
use Rattle.cvm_outside.specs.Script.{Prints}
use Rattle.cvm_outside.specs.declared.sink.Sink as sink_of
use Rattle.cvm_outside.specs.declared.sink.SinkFault.{SinkFault}
use Rattle.cvm_model.specs.Kernel.{JournalEntry}
use Rattle.cvm_model.specs.Text.{journal_rows_after}
use Rattle.boot_turns.specs.declared.answers.RunFault.{RunFault}
use Rattle.boot_turns.specs.declared.tracer.Entered.{Entered}
use Rattle.boot_turns.specs.declared.tracer.Tracer.{Tracer}
use Rattle.boot_turns.specs.JournalText.{steps_after}
use Rattle.boot_turns.specs.Tracing.{ended_kept, kept_after, WhereCopied, WhereTold}

-- those of entries of the journal, which are read from no page: they are put behind the row of the steps that have none, and where the sink fails there
-- are some
pub record PutsEntries {O T : Type 0} (told : sink_of.Ghosts O) (out reout : O) (kept new : Tracer) (entries : List JournalEntry)
    (result : Result T SinkFault) :
    Type 0 where
  pub put : Prints told out reout (journal_rows_after false kept.steps entries) result
  pub steps : OnOk result (new ≡ record kept { steps = steps_after kept.steps entries })
  pub some : OnErr result (journal_rows_after false kept.steps entries ≢ [])

-- what is kept behind those of a primitive that has returned with this answer; by the disk's sectors, the machine and what is kept before them
abbrev pub EndKeeps : {T : Type 0} → (told : Option (List (List ℕ))) → Held → Map → (kept new : Tracer) → Entered → (answer : ℕ) → Result T RunFault → Type 0
EndKeeps told held m kept new e answer result = WhereCopied told held m kept e answer (λ words. OnOk result (new ≡ ended_kept kept e answer words))

-- and behind those of a whole step, which began a turn under this current user or none
abbrev pub FollowKeeps : {T : Type 0} → (told : Option (List (List ℕ))) → Held → Map → (kept new : Tracer) → (current : ℕ) → (began : Bool) →
    Result T RunFault → Type 0
FollowKeeps told held m kept new current began result = WhereTold told held m kept (λ s words. OnOk result (new ≡ kept_after s kept current began words))
