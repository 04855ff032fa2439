-- Each boot of the answering system shows its sum.
use Rattle.std.proofs.Common.{◌≡◌, ℕ, ◌+◌, ◌^◌, ◌<◌, ◌≤◌, List, [], ◌∷◌, ◌++◌, length, refl, sym, ap, ◌∙◌, subst, arith}
use Rattle.std.specs.Prelude.{codes, pos}
use Rattle.mips_table.specs.Device.{Environment}
use Rattle.mips_table.specs.Machine.{State, Console}
use Rattle.mips_table.specs.Turns.{TurnLaws}
use Rattle.mips_table.specs.Flat.{Flat}
use Rattle.cvm_model.specs.Kernel.{Core, KernelMeaning}
use Rattle.cvm_model.specs.KernelMeaning.{kernel_meaning}
use Rattle.cvm_model.specs.Cvm.{System, Running, Halted, first_flat}
use Rattle.cvm_model.specs.Text.{rows_text, report_text}
use Rattle.cvm_model.specs.Invariant.{Dispatch, HasUsers, IsSafe, RunsAreLawful}
use Rattle.cvm_model.specs.Systems.{status_after}
use Rattle.run_bounds.specs.Lines.{LinesTakenAreFew, RaisedLinesAreFew}
use Rattle.run_bounds.specs.Steps.{BoundsAreSmall}
use Rattle.kernel_linker.specs.Sources.{AcceptedAreOfImages}
use Rattle.run_scripts.specs.declared.exit_status.Status.{Status}
use Rattle.run_scripts.specs.declared.exit_status.Status.TheVariants.{Done}
use Rattle.run_scripts.specs.Boot.{booted, environment_of, start_state, steps_before}
use Rattle.kernel_theorems.specs.Text.{Means}
use Rattle.kernel_boots.specs.Systems.{SystemEndsWithin, HasHalted, SystemShown}
use Rattle.kernel_boots.proofs.StatesShown.{asked_read}
use Rattle.kernel_boots.proofs.SystemsBoot.{asks_source, asked_users, stopped, systems_boot}
use Rattle.answering.specs.Tree.{kernel_tree}
use Rattle.answering.specs.Text.{text as kernel_text}
use Rattle.kernel_theorems.specs.UserRuns.{AsksAndEnds}
use Rattle.answering.specs.Property.{RunsAnswering, data_of, Phase, FirstAsks, FirstEnds, SecondAsks, SecondEnds, Over, traps_of, total_of, status_of_phase, most_of, gone_by, first_at, second_at, IsAnswering, Answering}
use Rattle.answering.specs.Boots.{report_of, ended_by_trap, AnswersShown, AnyUsersAnswered}
use Rattle.answering.proofs.EveryStepKeepsIt.{invariant}

abbrev runs : (one two : List ℕ) (a b c d v w : ℕ) → AsksAndEnds (first_flat one) a b v v → AsksAndEnds (first_flat two) c d w (v + w) → v + w < 2 ^ 31
    → (y : System) → y.boot.meaning ≡ kernel_meaning kernel_tree y.boot.params → y.boot.users ≡ one ∷ two ∷ [] → 9 ≤ y.boot.params.stack → RunsAnswering y a b c d v w
runs one two a b c d v w first second small y means users room =
    record { meaning_is = means; one = one; two = two; users_are = users; first = first; second = second; small = small; room = room }

-- the phase of a state that is running, of one that is safe, and of one that has halted
most_gone : (a b c d t : ℕ) (p : Phase) → status_of_phase p ≡ Running → t ≤ most_of a b c d p → gone_by a b c d p + t ≤ 3 + a + b + c + d
most_gone a b c d t FirstAsks e few = omega arith
most_gone a b c d t FirstEnds e few = omega arith
most_gone a b c d t SecondAsks e few = omega arith
most_gone a b c d t SecondEnds e few = omega arith
most_gone a b c d t Over e few = absurd (cc)

most_traps : (p : Phase) → traps_of p ≤ 4
most_traps FirstAsks = omega arith
most_traps FirstEnds = omega arith
most_traps SecondAsks = omega arith
most_traps SecondEnds = omega arith
most_traps Over = omega arith

safe_phase : (p : Phase) → IsSafe (status_of_phase p)
safe_phase FirstAsks = tt
safe_phase FirstEnds = tt
safe_phase SecondAsks = tt
safe_phase SecondEnds = tt
safe_phase Over = tt

over_phase : (p : Phase) → status_of_phase p ≡ Halted → p ≡ Over
over_phase FirstAsks e = absurd (cc)
over_phase FirstEnds e = absurd (cc)
over_phase SecondAsks e = absurd (cc)
over_phase SecondEnds e = absurd (cc)
over_phase Over e = refl

module _ (y : System) (a b c d v w : ℕ) (f g : Flat) (lines : ℕ) where
  -- how long it runs
  ends : SystemEndsWithin y 100 (Answering y a b c d v w f g) lines (5 + a + b + c + d + lines) (5 + lines) 0
  ends = record {
    some = omega arith;
    below = λ k past at h on few.
        let gone = most_gone a b c d h.0.steps h.0.phase (sym h.0.status_is ∙ on) h.0.few in
        let turns = h.0.turns_are in
        omega (arith, gone, turns, few);
    few = λ k past at h few. let traps = most_traps h.0.phase in let long = h.0.length_is in omega (arith, traps, long, few);
    touch = λ k past at h. h.1;
    safe = λ k past at h. subst IsSafe (sym h.0.status_is) (safe_phase h.0.phase);
  }

-- THE REPORT of a state that has halted
reported : (names : List (List ℕ)) (at : Core) (total : ℕ) (users : List Flat) → names ≡ codes "total" ∷ [] → at.c0 ≡ data_of (pos total) → at.console.log ≡ [] → at.users ≡ users
    → codes "halted\n" ++ report_text names at ≡ report_of total users
reported names at total users named data_is none same = rw (named, data_is, none, same) refl

module _ (y : System) (a b c d v w : ℕ) (r : RunsAnswering y a b c d v w) (f g : Flat) (past : List Dispatch) (k : ℕ) (at : Core) (h : IsAnswering y a b c d v w f g k past at) (over : status_after past ≡ Halted) where
  phase : h.phase ≡ Over
  phase = over_phase h.phase (sym h.status_is ∙ over)

  names : y.boot.meaning.names ≡ codes "total" ∷ []
  names = ap (λ (m : KernelMeaning). m.names) r.meaning_is

  data_then : at.c0 ≡ data_of (pos (v + w))
  data_then = h.data_is ∙ ap (λ p. data_of (pos (total_of v w p))) phase

  users_then : at.users ≡ ended_by_trap a b v f ∷ ended_by_trap c d (v + w) g ∷ []
  users_then = h.users_are ∙ ap (λ p. first_at a b v f p h.steps ∷ second_at c d (v + w) g p h.steps ∷ []) phase

  log_then : at.console.log ≡ []
  log_then = ap (λ (o : Console). o.log) h.console_is

  report : codes "halted\n" ++ report_text y.boot.meaning.names at ≡ report_of (v + w) (ended_by_trap a b v f ∷ ended_by_trap c d (v + w) g ∷ [])
  report = reported y.boot.meaning.names at (v + w) (ended_by_trap a b v f ∷ ended_by_trap c d (v + w) g ∷ []) names data_then log_then users_then

module _ (x : Environment) (y : System) (a b c d v w : ℕ) (r : RunsAnswering y a b c d v w) (f g : Flat) (s : State) (late raised turns steps : ℕ) (status : Status) (text : List ℕ)
    (h : SystemShown x y s late raised turns steps 100 (HasUsers y) (Answering y a b c d v w f g) status text) where
  abbrev Halts : Type 0
  Halts = (status ≡ Done) × (h.stands.state.status ≡ Halted) × (length h.stands.state.rows ≤ 5 + raised)
      × (text ≡ rows_text h.stands.state.rows ++ report_of (v + w) (ended_by_trap a b v f ∷ ended_by_trap c d (v + w) g ∷ []))

  by_end : HasHalted x y s turns steps status text h.stands → Halts
  by_end halted =
      let end = stopped h halted in
      let long = end.kept.0.length_is in
      let traps = most_traps end.kept.0.phase in
      let few = end.few in
      let rows = end.rows in (
        halted.status_is,
        halted.halted,
        omega (arith, long, traps, few, rows),
        halted.text_is ∙ ap (λ (t : List ℕ). rows_text h.stands.state.rows ++ t) (report y a b c d v w r f g end.past end.turns h.stands.state.core end.kept.0 end.over),
      )

  shown : AnswersShown x y s late raised turns steps a b c d v w f g status text
  shown = record {
    shown = h;
    no_fault = h.no_fault (ends y a b c d v w f g raised).safe;
    halted = λ enough long. by_end (h.halts raised (5 + a + b + c + d + raised) (5 + raised) 0 (ends y a b c d v w f g raised) (omega arith) enough long);
  }

pub any_users_answered : AcceptedAreOfImages → RunsAreLawful → TurnLaws → BoundsAreSmall → LinesTakenAreFew → RaisedLinesAreFew → Means kernel_text kernel_tree → AnyUsersAnswered
any_users_answered images laws counts small takes rise means one two a b c d v w first second fits words status old new headlines session s rows before h some view system =
    let asks = asks_source kernel_text (one ∷ two ∷ []) words old.shelf.file session s rows h.asked system in
    let users : s.users ≡ one ∷ two ∷ [] = asked_users images kernel_text (one ∷ two ∷ []) words old.shelf.file session s rows h.asked system in
    let f = first_flat one in
    let g = first_flat two in
    let (text, printed, shows) = systems_boot images laws counts small takes rise kernel_text (λ s. s.users ≡ one ∷ two ∷ []) 100 (λ y. HasUsers y) (λ y. Answering y a b c d v w (first_flat one) (first_flat two))
    (λ s rows unit roomy is few.
    let r : RunsAnswering (booted s rows) a b c d v w = runs one two a b c d v w first second fits (booted s rows) (means s.unit s.params unit) is (let room = roomy.stack in omega (arith, room)) in
    (laws.counted (booted s rows) kernel_tree r.meaning_is, invariant (booted s rows) a b c d v w r))
    words status old new headlines session s rows before h some view asks users in
    let y = booted s rows in
    let read = asked_read images kernel_text words old.shelf.file session s rows h.asked asks in
    let r : RunsAnswering y a b c d v w = runs one two a b c d v w first second fits y (means s.unit s.params read.unit) users (let room = read.room.stack in omega (arith, room)) in (
      text,
      printed,
      shown (environment_of rows old) y a b c d v w r f g (start_state session s rows before) (steps_before session.start y) (length rows.lines) session.turns session.steps status text shows,
    )
