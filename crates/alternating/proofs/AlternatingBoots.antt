-- Each boot of the system shows what was proved of its run, and its report.
use Rattle.std.proofs.Common.{◌≡◌, ℕ, zero, suc, ◌+◌, ◌*◌, ◌≤◌, List, [], ◌∷◌, ◌++◌, length, Bool, true, false, refl, sym, ap, ap₂, ◌∙◌, subst, arith}
use Rattle.std.specs.Prelude.{◌==◌, if◌then◌else◌}
use Rattle.mips_table.specs.Device.{Environment}
use Rattle.mips_table.specs.Machine.{State, Console}
use Rattle.mips_table.specs.Turns.{TurnLaws}
use Rattle.cvm_model.specs.Kernel.{KernelMeaning}
use Rattle.cvm_model.specs.Cvm.{System, Running, Halted, first_flat}
use Rattle.cvm_model.specs.Text.{rows_text}
use Rattle.cvm_model.specs.Invariant.{HasUsers, IsSafe, RunsAreLawful}
use Rattle.run_bounds.specs.Lines.{LinesTakenAreFew, RaisedLinesAreFew}
use Rattle.run_bounds.specs.Steps.{BoundsAreSmall}
use Rattle.kernel_linker.specs.Sources.{AcceptedAreOfImages}
use Rattle.run_scripts.specs.declared.exit_status.Status.{Status}
use Rattle.run_scripts.specs.declared.exit_status.Status.TheVariants.{Done}
use Rattle.run_scripts.specs.Boot.{booted, environment_of, start_state, steps_before}
use Rattle.kernel_theorems.specs.Text.{Means}
use Rattle.kernel_theorems.specs.Lines.{by_lines}
use Rattle.kernel_theorems.proofs.TestsSplit.{by_same}
use Rattle.kernel_boots.specs.Systems.{SystemEndsWithin, HasHalted, SystemShown}
use Rattle.kernel_boots.proofs.StatesShown.{asked_read}
use Rattle.kernel_boots.proofs.SystemsBoot.{asks_source, asked_users, stopped, systems_boot}
use Rattle.alternating.specs.Tree.{kernel_tree}
use Rattle.alternating.specs.Text.{text as kernel_text}
use Rattle.alternating.specs.Users.{user_1, user_2}
use Rattle.alternating.specs.Property.{data_of, logged_numbers, half, leg, steps_up_to, machines, status_behind, Alternating, RunsAlternating}
use Rattle.alternating.specs.Boots.{report_lines, AlternatingShown, AlternatingBoots}
use Rattle.alternating.proofs.EveryStepKeepsIt.{still_few, always}
use Rattle.alternating.proofs.ReportComputes.{reported}

-- a state that is running is behind 16 turns at most, but for those of lines
two_each : (calls : ℕ) → steps_up_to (suc (suc calls)) ≡ 2 + 2 * calls
two_each zero = refl
two_each (suc calls) = let before = two_each calls in omega (arith, before)

few_turns : (calls steps : ℕ) → calls ≤ 5 → steps ≤ leg (half calls) → steps_up_to calls + steps + calls ≤ 15
few_turns zero steps few most = omega (arith, most)
few_turns (suc zero) steps few most = omega (arith, most)
few_turns (suc (suc calls)) steps few most = let two = two_each calls in omega (arith, few, most, two)

safe_behind : (calls : ℕ) → IsSafe (status_behind calls)
safe_behind calls = by (calls == 6)
  where
    by : (b : Bool) → IsSafe (if b then Halted else Running)
    by true = tt
    by false = tt

all_six : (calls : ℕ) → status_behind calls ≡ Halted → calls ≡ 6
all_six calls over = by_same calls 6 (λ e same. same) (λ e other. absurd (let z : Running ≡ Halted = sym (ap (λ b. if b then Halted else Running) e) ∙ over in cc))

-- HOW LONG IT RUNS
ends : (y : System) (lines : ℕ) → SystemEndsWithin y 300 (Alternating y) lines (17 + lines) (7 + lines) 0
ends y lines = record {
  some = omega arith;
  below = λ k past c h on few.
      let turns = h.0.turns_are in
      let most = few_turns h.0.calls h.0.steps (still_few h.0.calls h.0.few (sym h.0.status_is ∙ on)) h.0.before_call in
      omega (arith, turns, most, few);
  few = λ k past c h few. let long = h.0.length_is in let calls = h.0.few in omega (arith, long, calls, few);
  touch = λ k past c h. h.1;
  safe = λ k past c h. subst IsSafe (sym h.0.status_is) (safe_behind h.0.calls);
}

-- WHAT IT PRINTS, where it has halted
module _ (x : Environment) (y : System) (r : RunsAlternating y) (s : State) (late raised turns steps : ℕ) (status : Status) (text : List ℕ)
    (h : SystemShown x y s late raised turns steps 300 (HasUsers y) (Alternating y) status text) where
  abbrev Halts : Type 0
  Halts = (status ≡ Done) × (length h.stands.state.rows ≤ 7 + raised) × (text ≡ rows_text h.stands.state.rows ++ by_lines report_lines)

  by_end : HasHalted x y s turns steps status text h.stands → Halts
  by_end halted =
      let end = stopped h halted in
      let rows = end.rows in
      let long = end.kept.0.length_is in
      let calls = end.kept.0.few in
      let few = end.few in
      let six = all_six end.kept.0.calls (sym end.kept.0.status_is ∙ end.over) in
      let none = end.kept.0.at_end six in (
        halted.status_is,
        omega (arith, rows, long, calls, few),
        halted.text_is ∙ ap (λ (t : List ℕ). rows_text h.stands.state.rows ++ t) (reported y.boot.meaning.names h.stands.state.core (ap (λ (m : KernelMeaning). m.names) r.meaning_is)
            (end.kept.0.data_is ∙ ap data_of six) (ap (λ (o : Console). o.log) end.kept.0.console_is ∙ ap logged_numbers six)
            (end.kept.0.users_are ∙ ap₂ (machines (first_flat user_1) (first_flat user_2)) six none)),
      )

  shown : AlternatingShown x y s late raised turns steps status text
  shown = record {
    shown = h;
    no_fault = h.no_fault (ends y raised).safe;
    halted = λ enough long. by_end (h.halts raised (17 + raised) (7 + raised) 0 (ends y raised) (omega arith) enough long);
  }

pub alternating_boots : AcceptedAreOfImages → RunsAreLawful → TurnLaws → BoundsAreSmall → LinesTakenAreFew → RaisedLinesAreFew → Means kernel_text kernel_tree → AlternatingBoots
alternating_boots images laws counts small takes rise means words status old new headlines session s rows before h some view system =
    let asks = asks_source kernel_text (user_1 ∷ user_2 ∷ []) words old.shelf.file session s rows h.asked system in
    let users : s.users ≡ user_1 ∷ user_2 ∷ [] = asked_users images kernel_text (user_1 ∷ user_2 ∷ []) words old.shelf.file session s rows h.asked system in
    let (text, printed, shows) = systems_boot images laws counts small takes rise kernel_text (λ s. s.users ≡ user_1 ∷ user_2 ∷ []) 300 (λ y. HasUsers y) (λ y. Alternating y)
    (λ s rows unit roomy is few.
    let r : RunsAlternating (booted s rows) = record { meaning_is = means s.unit s.params unit; users_are = is; room = (let stack = roomy.stack in omega (arith, stack)) } in
    (laws.counted (booted s rows) kernel_tree r.meaning_is, always (booted s rows) r))
    words status old new headlines session s rows before h some view asks users in
    let y = booted s rows in
    let read = asked_read images kernel_text words old.shelf.file session s rows h.asked asks in
    let r : RunsAlternating y = record { meaning_is = means s.unit s.params read.unit; users_are = users; room = (let stack = read.room.stack in omega (arith, stack)) } in
    (text, printed, shown (environment_of rows old) y r (start_state session s rows before) (steps_before session.start y) (length rows.lines) session.turns session.steps status text shows)
