-- How a run has ended, by its machine.
use Rattle.std.specs.Prelude.{ℕ, Option}
use Rattle.cvm_model.specs.declared.row.Next.{Next}
use Rattle.boot_run.specs.Shown.{next_shown, end_of_next}

-- how a run has ended, by its machine's power word
abbrev pub ended_off : Option ℕ → Option Next
ended_off off = end_of_next (next_shown off 0)
