-- Each boot of the system with a mailbox shows its messages.
use Rattle.std.proofs.Common.{◌≡◌, ℕ, suc, ◌+◌, ◌≤◌, List, [], ◌∷◌, ◌++◌, length, refl, ap, ◌∙◌, arith}
use Rattle.std.specs.Prelude.{codes}
use Rattle.mips_table.specs.Device.{Environment}
use Rattle.mips_table.specs.Machine.{State, LOG_ROOM}
use Rattle.mips_table.specs.Turns.{lines_of_turn, TurnLaws}
use Rattle.mips_table.specs.Flat.{Flat}
use Rattle.cvm_model.specs.Kernel.{Core, KernelMeaning}
use Rattle.cvm_model.specs.KernelMeaning.{kernel_meaning}
use Rattle.cvm_model.specs.Cvm.{System, Halted, first_flat}
use Rattle.cvm_model.specs.Text.{rows_text, report_text}
use Rattle.cvm_model.specs.Invariant.{dispatches_of, HasUsers, RunsAreLawful}
use Rattle.cvm_model.specs.Systems.{SystemHolds}
use Rattle.run_bounds.specs.Lines.{LinesTakenAreFew, RaisedLinesAreFew}
use Rattle.run_bounds.specs.Steps.{BoundsAreSmall}
use Rattle.kernel_linker.specs.Sources.{AcceptedAreOfImages}
use Rattle.run_scripts.specs.declared.exit_status.Status.{Status}
use Rattle.run_scripts.specs.declared.exit_status.Status.TheVariants.{Done}
use Rattle.run_scripts.specs.Boot.{booted, environment_of, start_state, steps_before}
use Rattle.kernel_theorems.specs.Text.{Means}
use Rattle.kernel_boots.specs.Boots.{turns_made}
use Rattle.kernel_boots.specs.Systems.{SystemEndsWithin, HasHalted, SystemShown}
use Rattle.kernel_boots.proofs.StatesShown.{asked_read}
use Rattle.kernel_boots.proofs.SystemsBoot.{asks_source, asked_users, stopped, systems_boot}
use Rattle.mailing.specs.Tree.{kernel_tree}
use Rattle.mailing.specs.Text.{text as kernel_text}
use Rattle.mailing.specs.Users.{CallsInTurn, ended}
use Rattle.mailing.specs.Property.{Message, sends, receives, message_numbers, AreSmall, Mails, data_of, Mailing, IsCarried, IsFinished, turns_for, dispatches_for, MailIsKept, MailEnds}
use Rattle.mailing_boots.specs.Boots.{report_of, MailShown, AnyUsersMail}

abbrev mails : (sender receiver : List ℕ) (ms : List Message) (one two : ℕ) → CallsInTurn (first_flat sender) (sends ms) one → CallsInTurn (first_flat receiver) (receives ms) two → AreSmall ms → length ms ≤ LOG_ROOM
    → (y : System) → y.boot.meaning ≡ kernel_meaning kernel_tree y.boot.params → y.boot.users ≡ sender ∷ receiver ∷ [] → 11 ≤ y.boot.params.stack → Mails y ms one two
mails sender receiver ms one two first second small few y means users room =
    record { meaning_is = means; sender = sender; receiver = receiver; users_are = users; sending = first; receiving = second; small = small; few = few; room = room }

module _ (law : MailEnds) (y : System) (ms : List Message) (one two : ℕ) (f g : Flat) (lines : ℕ) where
  -- how long it runs
  ends : SystemEndsWithin y 200 (Mailing y ms one two f g) lines (turns_for ms one two + lines) (dispatches_for ms + lines) 0
  ends = record {
    some = omega arith;
    below = λ k past at h on few. let b = law.below ms one two f g k past at h.0 on in omega (arith, b, few);
    few = λ k past at h few. let b = law.few ms one two f g k past at h.0 in omega (arith, b, few);
    touch = λ k past at h. h.1;
    safe = λ k past at h. law.safe ms one two f g k past at h.0;
  }

-- THE REPORT of a state that has halted
reported : (names : List (List ℕ)) (at : Core) (messages : List ℕ) (users : List Flat) → names ≡ codes "box" ∷ codes "waits" ∷ codes "over" ∷ [] → at.c0 ≡ data_of 0 0 3 → at.console.log ≡ messages → at.users ≡ users
    → codes "halted\n" ++ report_text names at ≡ report_of messages users
reported names at messages users named data_is logged same = rw (named, data_is, logged, same) refl

module _ (law : MailEnds) (x : Environment) (y : System) (ms : List Message) (one two : ℕ) (r : Mails y ms one two) (f g : Flat) (s : State) (late raised turns steps : ℕ) (status : Status) (text : List ℕ)
    (h : SystemShown x y s late raised turns steps 200 (HasUsers y) (Mailing y ms one two f g) status text) where
  names : y.boot.meaning.names ≡ codes "box" ∷ codes "waits" ∷ codes "over" ∷ []
  names = ap (λ (m : KernelMeaning). m.names) r.meaning_is

  abbrev Halts : Type 0
  Halts = (status ≡ Done) × (h.stands.state.status ≡ Halted) × (length h.stands.state.rows ≤ dispatches_for ms + raised)
      × (text ≡ rows_text h.stands.state.rows ++ report_of (message_numbers ms) (ended f (sends ms) one ∷ ended g (receives ms) two ∷ []))

  by_end : HasHalted x y s turns steps status text h.stands → Halts
  by_end halted =
      let end = stopped h halted in
      let long = law.few ms one two f g end.turns end.past h.stands.state.core end.kept.0 in
      let few = end.few in
      let rows = end.rows in
      let done : IsFinished ms one two f g h.stands.state.core = law.finished ms one two f g end.turns end.past h.stands.state.core end.kept.0 end.over in (
        halted.status_is,
        halted.halted,
        omega (arith, long, few, rows),
        halted.text_is ∙ ap (λ (t : List ℕ). rows_text h.stands.state.rows ++ t)
            (reported y.boot.meaning.names h.stands.state.core (message_numbers ms) (ended f (sends ms) one ∷ ended g (receives ms) two ∷ []) names done.data_is done.log_is done.users_are),
      )

  carried : (k : ℕ) → turns_made x s turns steps ≡ suc k → IsCarried (dispatches_of y (lines_of_turn x s) 200 (suc k)) h.stands.state.core
  carried k e =
      let held : SystemHolds (HasUsers y) (Mailing y ms one two f g) (suc k) (dispatches_of y (lines_of_turn x s) 200 (suc k)) h.stands.state = h.holds k e in
      law.carried ms one two f g held.made (dispatches_of y (lines_of_turn x s) 200 (suc k)) h.stands.state.core held.kept.0

  shown : MailShown x y s late raised turns steps ms one two f g status text
  shown = record {
    shown = h;
    carried = carried;
    no_fault = h.no_fault (ends law y ms one two f g raised).safe;
    halted = λ enough long. by_end (h.halts raised (turns_for ms one two + raised) (dispatches_for ms + raised) 0 (ends law y ms one two f g raised) (omega arith) enough long);
  }

pub any_users_mail : AcceptedAreOfImages → RunsAreLawful → TurnLaws → BoundsAreSmall → LinesTakenAreFew → RaisedLinesAreFew → Means kernel_text kernel_tree → MailIsKept → MailEnds → AnyUsersMail
any_users_mail images laws counts small takes rise means kept law sender receiver ms one two first second tiny few words status old new headlines session s rows before h some view system =
    let asks = asks_source kernel_text (sender ∷ receiver ∷ []) words old.shelf.file session s rows h.asked system in
    let users : s.users ≡ sender ∷ receiver ∷ [] = asked_users images kernel_text (sender ∷ receiver ∷ []) words old.shelf.file session s rows h.asked system in
    let (text, printed, shows) = systems_boot images laws counts small takes rise kernel_text (λ s. s.users ≡ sender ∷ receiver ∷ []) 200 (λ y. HasUsers y) (λ y. Mailing y ms one two (first_flat sender) (first_flat receiver))
    (λ s rows unit roomy is some.
    let r : Mails (booted s rows) ms one two = mails sender receiver ms one two first second tiny few (booted s rows) (means s.unit s.params unit) is (let room = roomy.stack in omega (arith, room)) in
    (laws.counted (booted s rows) kernel_tree r.meaning_is, kept (booted s rows) ms one two r))
    words status old new headlines session s rows before h some view asks users in
    let y = booted s rows in
    let read = asked_read images kernel_text words old.shelf.file session s rows h.asked asks in
    let r : Mails y ms one two = mails sender receiver ms one two first second tiny few y (means s.unit s.params read.unit) users (let room = read.room.stack in omega (arith, room)) in (
      text,
      printed,
      shown law (environment_of rows old) y ms one two r (first_flat sender) (first_flat receiver) (start_state session s rows before) (steps_before session.start y) (length rows.lines) session.turns session.steps status text shows,
    )
