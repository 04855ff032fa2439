-- What a step over the flat bus answers.
use Rattle.std.specs.Prelude.{ℕ, List}
use Rattle.mips_table.specs.Flat as table
use Rattle.mips_step.specs.declared.cpu.Outcome.{Outcome}
use Rattle.mips_step.specs.declared.cpu.Outcome.TheVariants.{Done, Trap}

-- reads change nothing
abbrev pub reads_unchanged : List ℕ → ℕ → List ℕ
reads_unchanged words address = words

-- the machine after a step, with how it ended
abbrev pub vstep_of : Outcome → table.Flat → table.VStep
vstep_of Done after = table.Goes after
vstep_of (Trap cause edata) after = table.Trap after cause edata
