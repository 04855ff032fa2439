-- Each boot of the summing system shows its sum.
use Rattle.std.proofs.Common.{◌≡◌, ℕ, suc, ◌+◌, ◌^◌, ◌<◌, ◌≤◌, List, [], ◌∷◌, ◌++◌, length, refl, sym, ap, ◌∙◌, subst, arith}
use Rattle.std.specs.Prelude.{codes, pos, true}
use Rattle.std.specs.Fmt.{digits, signed_decimal}
use Rattle.mips_table.specs.Device.{Environment}
use Rattle.mips_table.specs.Machine.{State, Console}
use Rattle.mips_table.specs.Turns.{TurnLaws}
use Rattle.mips_table.specs.Flat.{Flat}
use Rattle.cvm_model.specs.Kernel.{Core, KernelMeaning}
use Rattle.cvm_model.specs.KernelMeaning.{kernel_meaning}
use Rattle.cvm_model.specs.Cvm.{System, Running, Halted, first_flat}
use Rattle.cvm_model.specs.Text.{rows_text, users_text, report_text}
use Rattle.cvm_model.specs.Invariant.{Dispatch, HasUsers, IsSafe, RunsAreLawful}
use Rattle.cvm_model.specs.Systems.{status_after}
use Rattle.run_bounds.specs.Lines.{LinesTakenAreFew, RaisedLinesAreFew}
use Rattle.run_bounds.specs.Steps.{BoundsAreSmall}
use Rattle.kernel_linker.specs.Sources.{AcceptedAreOfImages}
use Rattle.run_scripts.specs.declared.exit_status.Status.{Status}
use Rattle.run_scripts.specs.declared.exit_status.Status.TheVariants.{Done}
use Rattle.run_scripts.specs.Boot.{booted, environment_of, start_state, steps_before}
use Rattle.kernel_theorems.specs.Text.{Means}
use Rattle.kernel_boots.specs.Systems.{SystemEndsWithin, HasHalted, SystemShown}
use Rattle.kernel_boots.proofs.StatesShown.{asked_read}
use Rattle.kernel_boots.proofs.SystemsBoot.{asks_source, asked_users, stopped, systems_boot}
use Rattle.summing.specs.Tree.{kernel_tree}
use Rattle.summing.specs.Text.{text as kernel_text}
use Rattle.kernel_theorems.specs.UserRuns.{after, CallsAfter}
use Rattle.summing.specs.Property.{RunsSumming, data_of, Phase, Nobody, FirstOnly, SecondOnly, Everybody, status_of_phase, phase_calls, first_called, second_called, total_of, done_of, machine_of, IsSum, Sums}
use Rattle.summing.specs.Users.{user_one, user_two, UsersCall}
use Rattle.summing.specs.Boots.{report_of, last_report, SumShown, AnyUsersSum, NamedSumShown, SummingBoots}
use Rattle.summing.proofs.EveryStepKeepsIt.{invariant}
use Rattle.summing.proofs.ReportComputes.{reports}

abbrev runs : (one two : List ℕ) (m n v w : ℕ) → CallsAfter (first_flat one) m v → CallsAfter (first_flat two) n w → v + w < 2 ^ 31
    → (y : System) → y.boot.meaning ≡ kernel_meaning kernel_tree y.boot.params → y.boot.users ≡ one ∷ two ∷ [] → 8 ≤ y.boot.params.stack → RunsSumming y m n v w
runs one two m n v w first second small y means users room =
    record { meaning_is = means; one = one; two = two; users_are = users; first_calls = first; second_calls = second; small = small; room = room }

-- the phase of a state that is running, of one that is safe, and of one that has halted
few_calls : (p : Phase) → status_of_phase p ≡ Running → phase_calls p ≤ 1
few_calls Nobody e = omega arith
few_calls FirstOnly e = omega arith
few_calls SecondOnly e = omega arith
few_calls Everybody e = absurd (cc)

most_calls : (p : Phase) → phase_calls p ≤ 2
most_calls Nobody = omega arith
most_calls FirstOnly = omega arith
most_calls SecondOnly = omega arith
most_calls Everybody = omega arith

safe_phase : (p : Phase) → IsSafe (status_of_phase p)
safe_phase Nobody = tt
safe_phase FirstOnly = tt
safe_phase SecondOnly = tt
safe_phase Everybody = tt

over_phase : (p : Phase) → status_of_phase p ≡ Halted → p ≡ Everybody
over_phase Nobody e = absurd (cc)
over_phase FirstOnly e = absurd (cc)
over_phase SecondOnly e = absurd (cc)
over_phase Everybody e = refl

module _ (y : System) (m n v w : ℕ) (f g : Flat) (lines : ℕ) where
  -- how long it runs
  ends : SystemEndsWithin y 100 (Sums y m n v w f g) lines (3 + m + n + lines) (3 + lines) 0
  ends = record {
    some = omega arith;
    below = λ k past c h on few.
        let calls = few_calls h.0.phase (sym h.0.status_is ∙ on) in
        let turns = h.0.turns_are in
        let one = h.0.few_one in
        let two = h.0.few_two in
        omega (arith, calls, turns, one, two, few);
    few = λ k past c h few. let calls = most_calls h.0.phase in let long = h.0.length_is in omega (arith, calls, long, few);
    touch = λ k past c h. h.1;
    safe = λ k past c h. subst IsSafe (sym h.0.status_is) (safe_phase h.0.phase);
  }

-- THE REPORT of a state that has halted
reported : (names : List (List ℕ)) (c : Core) (total : ℕ) (users : List Flat) → names ≡ codes "total" ∷ codes "done" ∷ [] → c.c0 ≡ data_of (pos total) true → c.console.log ≡ [] → c.users ≡ users
    → codes "halted\n" ++ report_text names c ≡ report_of total users
reported names c total users named data_is none same = rw (named, data_is, none, same) refl

module _ (y : System) (m n v w : ℕ) (r : RunsSumming y m n v w) (f g : Flat) (past : List Dispatch) (k : ℕ) (c : Core) (h : IsSum y m n v w f g k past c) (over : status_after past ≡ Halted) where
  phase : h.phase ≡ Everybody
  phase = over_phase h.phase (sym h.status_is ∙ over)

  names : y.boot.meaning.names ≡ codes "total" ∷ codes "done" ∷ []
  names = ap (λ (m : KernelMeaning). m.names) r.meaning_is

  data_then : c.c0 ≡ data_of (pos (v + w)) true
  data_then = h.data_is ∙ ap (λ p. data_of (pos (total_of v w p)) (done_of p)) phase

  users_then : c.users ≡ after (suc m) f ∷ after (suc n) g ∷ []
  users_then = h.users_are ∙ ap (λ p. machine_of (first_called p) m h.one f ∷ machine_of (second_called p) n h.two g ∷ []) phase

  log_then : c.console.log ≡ []
  log_then = ap (λ (o : Console). o.log) h.console_is

  report : codes "halted\n" ++ report_text y.boot.meaning.names c ≡ report_of (v + w) (after (suc m) f ∷ after (suc n) g ∷ [])
  report = reported y.boot.meaning.names c (v + w) (after (suc m) f ∷ after (suc n) g ∷ []) names data_then log_then users_then

module _ (x : Environment) (y : System) (m n v w : ℕ) (r : RunsSumming y m n v w) (f g : Flat) (s : State) (late raised turns steps : ℕ) (status : Status) (text : List ℕ)
    (h : SystemShown x y s late raised turns steps 100 (HasUsers y) (Sums y m n v w f g) status text) where
  abbrev Halts : Type 0
  Halts = (status ≡ Done) × (h.stands.state.status ≡ Halted) × (length h.stands.state.rows ≤ 3 + raised)
      × (text ≡ rows_text h.stands.state.rows ++ report_of (v + w) (after (suc m) f ∷ after (suc n) g ∷ []))

  by_end : HasHalted x y s turns steps status text h.stands → Halts
  by_end halted =
      let end = stopped h halted in
      let long = end.kept.0.length_is in
      let calls = most_calls end.kept.0.phase in
      let few = end.few in
      let rows = end.rows in (
        halted.status_is,
        halted.halted,
        omega (arith, long, calls, few, rows),
        halted.text_is ∙ ap (λ (t : List ℕ). rows_text h.stands.state.rows ++ t) (report y m n v w r f g end.past end.turns h.stands.state.core end.kept.0 end.over),
      )

  shown : SumShown x y s late raised turns steps m n v w f g status text
  shown = record {
    shown = h;
    no_fault = h.no_fault (ends y m n v w f g raised).safe;
    halted = λ enough long. by_end (h.halts raised (3 + m + n + raised) (3 + raised) 0 (ends y m n v w f g raised) (omega arith) enough long);
  }

pub any_users_sum : AcceptedAreOfImages → RunsAreLawful → TurnLaws → BoundsAreSmall → LinesTakenAreFew → RaisedLinesAreFew → Means kernel_text kernel_tree → AnyUsersSum
any_users_sum images laws counts small takes rise means one two m n v w first second fits words status old new headlines session s rows before h some view system =
    let asks = asks_source kernel_text (one ∷ two ∷ []) words old.shelf.file session s rows h.asked system in
    let users : s.users ≡ one ∷ two ∷ [] = asked_users images kernel_text (one ∷ two ∷ []) words old.shelf.file session s rows h.asked system in
    let f = first_flat one in
    let g = first_flat two in
    let (text, printed, shows) = systems_boot images laws counts small takes rise kernel_text (λ s. s.users ≡ one ∷ two ∷ []) 100 (λ y. HasUsers y) (λ y. Sums y m n v w (first_flat one) (first_flat two))
    (λ s rows unit roomy is few.
    let r : RunsSumming (booted s rows) m n v w = runs one two m n v w first second fits (booted s rows) (means s.unit s.params unit) is (let room = roomy.stack in omega (arith, room)) in
    (laws.counted (booted s rows) kernel_tree r.meaning_is, invariant (booted s rows) m n v w r))
    words status old new headlines session s rows before h some view asks users in
    let y = booted s rows in
    let read = asked_read images kernel_text words old.shelf.file session s rows h.asked asks in
    let r : RunsSumming y m n v w = runs one two m n v w first second fits y (means s.unit s.params read.unit) users (let room = read.room.stack in omega (arith, room)) in
    (text, printed, shown (environment_of rows old) y m n v w r f g (start_state session s rows before) (steps_before session.start y) (length rows.lines) session.turns session.steps status text shows)

-- THE NAMED SYSTEM
thirty : signed_decimal (pos 30) ≡ codes "30"
unfolding digits
thirty = refl

with_thirty : (users : List Flat) → report_of 30 users ≡ codes "halted\nglobal total 30\nglobal done true\n" ++ users_text 1 users
with_thirty users = rw thirty refl

last : report_of 30 (after 22 (first_flat user_one) ∷ after 42 (first_flat user_two) ∷ []) ≡ last_report
last = with_thirty (after 22 (first_flat user_one) ∷ after 42 (first_flat user_two) ∷ []) ∙ ap (λ (t : List ℕ). codes "halted\nglobal total 30\nglobal done true\n" ++ t) reports ∙ refl

named : (x : Environment) (y : System) (s : State) (late raised turns steps : ℕ) (status : Status) (text : List ℕ)
    → SumShown x y s late raised turns steps 21 41 10 20 (first_flat user_one) (first_flat user_two) status text → NamedSumShown x y s late raised turns steps status text
named x y s late raised turns steps status text h = record {
  shows = h;
  halted = λ enough long. let e = h.halted enough long in (e.0, e.2, e.3 ∙ ap (λ (t : List ℕ). rows_text h.shown.stands.state.rows ++ t) last);
}

pub summing_boots : AnyUsersSum → UsersCall → SummingBoots
summing_boots law calls words status old new headlines session s rows before h some view system =
    let (text, printed, shows) = law user_one user_two 21 41 10 20 calls.one calls.two (omega arith) words status old new headlines session s rows before h some view system in
    (text, printed, named (environment_of rows old) (booted s rows) (start_state session s rows before) (steps_before session.start (booted s rows)) (length rows.lines) session.turns session.steps status text shows)
