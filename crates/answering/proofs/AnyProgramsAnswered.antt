-- What is known of any two users that ask and end serves two programs, which ask and end within the steps of their units.
use Rattle.std.proofs.Common.{ℕ, suc, ◌+◌, ◌≤◌, List, [], ◌∷◌, length, subst, arith}
use Rattle.mips_table.specs.Device.{Environment}
use Rattle.mips_table.specs.Machine.{State}
use Rattle.mips_table.specs.declared.cause.Cause.TheVariants.{Syscall}
use Rattle.mips_table.specs.Flat.{Flat}
use Rattle.c0_tree.specs.Tree.{CUnit}
use Rattle.cvm_model.specs.Cvm.{System, first_flat}
use Rattle.run_scripts.specs.declared.exit_status.Status.{Status}
use Rattle.run_scripts.specs.Boot.{booted, environment_of, start_state, steps_before}
use Rattle.user_c0.specs.Image.{image_words}
use Rattle.user_c0.specs.Program.{steps_of}
use Rattle.kernel_theorems.specs.UserRuns.{after, told, AsksAndEnds}
use Rattle.kernel_boots.proofs.SystemsBoot.{fewer_turns}
use Rattle.program_systems.specs.Asking.{AskedAndEnded, ProgramsAskAndEnd}
use Rattle.program_systems.specs.Counts.{TrapsThrough, CountsTell}
use Rattle.answering.specs.Boots.{AnswersShown, AnyUsersAnswered}
use Rattle.answering.specs.Compiled.{ProgramsAnsweredShown, AnyProgramsAnswered, AnyCountedProgramsAnswered}

-- WITH TURNS BY UNITS
fewer : (a b c d n k raised : ℕ) → a + b ≤ n → c + d ≤ k → 5 + a + b + c + d + raised ≤ 5 + n + k + raised
fewer a b c d n k raised la lb = omega (arith, la, lb)

module _ (x : Environment) (y : System) (s : State) (late raised turns steps : ℕ) (one two : CUnit) (n k v w : ℕ) (first : AskedAndEnded (first_flat (image_words one)) (steps_of n) v v)
    (second : AskedAndEnded (first_flat (image_words two)) (steps_of k) w (v + w)) (status : Status) (text : List ℕ)
    (h : AnswersShown x y s late raised turns steps first.steps first.rest second.steps second.rest v w (first_flat (image_words one)) (first_flat (image_words two)) status text) where
  shown : ProgramsAnsweredShown x y s late raised turns steps one two n k v w status text
  shown = record {
    first = first;
    second = second;
    shows = h;
    halted = λ enough long.
        let le = fewer first.steps first.rest second.steps second.rest (steps_of n) (steps_of k) raised first.few second.few in
        h.halted (omega (arith, le, enough)) (fewer_turns y (5 + first.steps + first.rest + second.steps + second.rest + raised) (5 + steps_of n + steps_of k + raised) (5 + raised) 100 0 late steps le long);
  }

pub any_programs_answered : ProgramsAskAndEnd → AnyUsersAnswered → AnyProgramsAnswered
any_programs_answered does law one two n k v w first second fits words status old new headlines session s rows before h some view system =
    let c : AskedAndEnded (first_flat (image_words one)) (steps_of n) v v = does one n v v first (omega (arith, fits)) in
    let d : AskedAndEnded (first_flat (image_words two)) (steps_of k) w (v + w) = does two k w (v + w) second fits in
    let (text, printed, shows) = law (image_words one) (image_words two) c.steps c.rest d.steps d.rest v w c.runs d.runs fits words status old new headlines session s rows before h some view system in (
      text,
      printed,
      shown (environment_of rows old) (booted s rows) (start_state session s rows before) (steps_before session.start (booted s rows)) (length rows.lines) session.turns session.steps one two n k v w c d status text shows,
    )

-- WITH KNOWN STEPS: first those of the call, and then those behind the answer
known_end : CountsTell → (f : Flat) (v x a b m : ℕ) → TrapsThrough f (x ∷ []) (a ∷ b ∷ []) → AsksAndEnds f a m v x → AsksAndEnds f a b v x
known_end tell f v x a b m are r = subst (λ m. AsksAndEnds f a m v x) (tell.exactly (told (after (suc a) f) x) b m are.1.1.0 Syscall are.1.1.1 r.ends) r

known_run : CountsTell → (f : Flat) (most v x a b : ℕ) → TrapsThrough f (x ∷ []) (a ∷ b ∷ []) → AskedAndEnded f most v x → AsksAndEnds f a b v x
known_run tell f most v x a b are q =
    known_end tell f v x a b q.rest are (subst (λ m. AsksAndEnds f m q.rest v x) (tell.exactly f a q.steps are.0.0 Syscall are.0.1 q.runs.asks) q.runs)

pub any_counted_programs_answered : ProgramsAskAndEnd → CountsTell → AnyUsersAnswered → AnyCountedProgramsAnswered
any_counted_programs_answered does tell law one two n k v w a b c d first second fits counted also words status old new headlines session s rows before h some view system =
    law (image_words one) (image_words two) a b c d v w
    (known_run tell (first_flat (image_words one)) (steps_of n) v v a b counted (does one n v v first (omega (arith, fits))))
    (known_run tell (first_flat (image_words two)) (steps_of k) w (v + w) c d also (does two k w (v + w) second fits))
    fits words status old new headlines session s rows before h some view system
