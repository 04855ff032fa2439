-- What is known of any two users that call serves two programs, whose calls come within the steps of their units.
use Rattle.std.specs.Prelude.{pos}
use Rattle.std.proofs.Common.{ℕ, ◌+◌, ◌≤◌, List, length, subst, arith}
use Rattle.mips_table.specs.Device.{Environment}
use Rattle.mips_table.specs.Machine.{State}
use Rattle.mips_table.specs.declared.cause.Cause.TheVariants.{Syscall}
use Rattle.mips_table.specs.Flat.{Flat}
use Rattle.c0_tree.specs.Tree.{CUnit}
use Rattle.cvm_model.specs.Cvm.{System, first_flat}
use Rattle.run_scripts.specs.declared.exit_status.Status.{Status}
use Rattle.run_scripts.specs.Boot.{booted, environment_of, start_state, steps_before}
use Rattle.user_c0.specs.Image.{image_words}
use Rattle.user_c0.specs.Program.{steps_of}
use Rattle.kernel_theorems.specs.UserRuns.{CallsAfter}
use Rattle.kernel_boots.proofs.SystemsBoot.{fewer_turns}
use Rattle.summing.specs.Boots.{SumShown, AnyUsersSum}
use Rattle.program_systems.specs.Counts.{TrapsBehind, CountsTell}
use Rattle.program_systems.specs.Coming.{ComesToCall, FirstCallsCome}
use Rattle.summing.specs.Compiled.{Brings, ProgramSumShown, AnyProgramsSum, AnyCountedProgramsSum}

fewer : (a b n k raised : ℕ) → a ≤ n → b ≤ k → 3 + a + b + raised ≤ 3 + n + k + raised
fewer a b n k raised la lb = omega (arith, la, lb)

module _ (x : Environment) (y : System) (s : State) (late raised turns steps : ℕ) (one two : CUnit) (n k v w a b : ℕ) (la : a ≤ steps_of n) (lb : b ≤ steps_of k) (status : Status) (text : List ℕ)
    (h : SumShown x y s late raised turns steps a b v w (first_flat (image_words one)) (first_flat (image_words two)) status text) where
  shown : ProgramSumShown x y s late raised turns steps one two n k v w status text
  shown = record {
    first_steps = a;
    second_steps = b;
    few_first = la;
    few_second = lb;
    shows = h;
    halted = λ enough long.
        let le = fewer a b (steps_of n) (steps_of k) raised la lb in
        h.halted (omega (arith, le, enough)) (fewer_turns y (3 + a + b + raised) (3 + steps_of n + steps_of k + raised) (3 + raised) 100 0 late steps le long);
  }

calls_after : (one : CUnit) (n v : ℕ) → FirstCallsCome → Brings one n v → ComesToCall (first_flat (image_words one)) (steps_of n) (pos v)
calls_after one n v comes brings = comes one n (pos v) brings.program brings.calls

pub any_programs_sum : FirstCallsCome → AnyUsersSum → AnyProgramsSum
any_programs_sum comes law one two n k v w first second fits words status old new headlines session s rows before h some view system =
    let c = calls_after one n v comes first in
    let d = calls_after two k w comes second in
    let (text, printed, shows) = law (image_words one) (image_words two) c.steps d.steps v w
    (record { calls = c.traps; value_is = c.argument }) (record { calls = d.traps; value_is = d.argument }) fits words status old new headlines session s rows before h some view system in (
      text,
      printed,
      shown (environment_of rows old) (booted s rows) (start_state session s rows before) (steps_before session.start (booted s rows)) (length rows.lines) session.turns session.steps
          one two n k v w c.steps d.steps c.few d.few status text shows,
    )

-- WITH COUNTED STEPS: the call comes behind just these
counted_call : CountsTell → (f : Flat) (most a v : ℕ) → ComesToCall f most (pos v) → TrapsBehind f a → CallsAfter f a v
counted_call tell f most a v c is = subst (λ m. CallsAfter f m v) (tell.exactly f a c.steps is.0 Syscall is.1 c.traps) (record { calls = c.traps; value_is = c.argument })

pub any_counted_programs_sum : FirstCallsCome → CountsTell → AnyUsersSum → AnyCountedProgramsSum
any_counted_programs_sum comes tell law one two n k v w a b first second fits counted also words status old new headlines session s rows before h some view system =
    law (image_words one) (image_words two) a b v w
    (counted_call tell (first_flat (image_words one)) (steps_of n) a v (calls_after one n v comes first) counted)
    (counted_call tell (first_flat (image_words two)) (steps_of k) b w (calls_after two k w comes second) also)
    fits words status old new headlines session s rows before h some view system
