-- What is kept of a trace once words that were copied to its user have their rows.
use Rattle.std.specs.Prelude.{ℕ, ◌==◌, if◌then◌else◌}
use Rattle.boot_turns.specs.declared.tracer.Tracer.{Tracer}

-- the steps with no row after so many puts
abbrev pub steps_left : (steps n : ℕ) → ℕ
steps_left steps n = if n == 0 then steps else 0

-- what is kept of a trace once so many words have their rows
abbrev pub copied_kept : Tracer → (n : ℕ) → Tracer
copied_kept kept n = record kept { steps = steps_left kept.steps n }
