-- A whole system with a mailbox: a kernel with round robin on lines, a user that sends messages and one that receives and prints them. User 1 sends by a call
-- with a number from 1 on. It is answered as soon as the mailbox, which holds one message, has taken it; while the mailbox is full it waits. User 2 asks for a
-- message by a call with 0, and is answered with the oldest one; while there is none it waits. By a call with another number it has that printed on the
-- console. Whoever waits or has ended is not run; when both have ended the system halts.
use Rattle.std.specs.Prelude.{◌≡◌, ◌⊎◌, ◌≤◌, ◌<◌, ◌^◌, ℕ, suc, ◌+◌, ◌&&◌, ◌==◌, if◌then◌else◌, ℤ}
use Rattle.std.specs.Prelude.{pos, List, [], ◌∷◌, ◌++◌, length, map, slice_index, Option, Some, None}
use Rattle.mips_table.specs.Arith.{signed}
use Rattle.mips_table.specs.Flat.{Flat}
use Rattle.mips_table.specs.Machine.{LOG_ROOM}
use Rattle.c0_meaning.specs.Value.{int, group, empty, part}
use Rattle.c0_meaning.specs.State.{C0State}
use Rattle.cvm_model.specs.Kernel.{Core}
use Rattle.cvm_model.specs.KernelMeaning.{kernel_meaning}
use Rattle.cvm_model.specs.Primitives.{user_of}
use Rattle.cvm_model.specs.Cvm.{System, Cvm, Status, Running, Halted, first_flat, cvm, IsCvm}
use Rattle.cvm_model.specs.Invariant.{Dispatch, dispatches_of, HasEight, HasUsers, IsSafe}
use Rattle.cvm_model.specs.Systems.{SystemProperty, status_after, lines_taken, UsePages, IsSystemInvariant, SystemHolds}
use Rattle.mailing.specs.Tree.{kernel_tree}
use Rattle.mailing.specs.Users.{Leg, CallsInTurn, ended, leg_steps, UserProgress, Runs, Waits, Ended, machine_at, IsStillStepping, FollowsLegs}

-- a message: its number, and the untrapped steps of the sender before the call that sends it, of the receiver before the call that asks for it, and from its
-- answer to the call that prints it
pub record Message : Type 0 where
  pub number : ℕ
  pub sending : ℕ
  pub asking : ℕ
  pub printing : ℕ

-- the calls of the sender, each answered by 0
abbrev pub sends : List Message → List Leg
sends [] = []
sends (m ∷ ms) = record { steps = m.sending; argument = m.number; answer = 0 } ∷ sends ms

-- the calls of the receiver: it asks, is answered with the message, and has it printed
abbrev pub asking_leg : Message → Leg
asking_leg m = record { steps = m.asking; argument = 0; answer = m.number }

abbrev pub printing_leg : Message → Leg
printing_leg m = record { steps = m.printing; argument = m.number; answer = 0 }

abbrev pub receives : List Message → List Leg
receives [] = []
receives (m ∷ ms) = asking_leg m ∷ printing_leg m ∷ receives ms

abbrev pub message_numbers : List Message → List ℕ
message_numbers ms = map (λ (m : Message). m.number) ms

-- numbers that can be sent: from 1 on, and ints
abbrev pub AreSmall : List Message → Type 0
AreSmall [] = Unit {0}
AreSmall (m ∷ ms) = (1 ≤ m.number) × (m.number < 2 ^ 31) × AreSmall ms

-- A SYSTEM of this kernel: a sender and a receiver of these messages, which end after so many steps behind their last answers; the console's log has room for
-- the messages, and the stack for a frame
pub record Mails (y : System) (ms : List Message) (one two : ℕ) : Type 0 where
  pub meaning_is : y.boot.meaning ≡ kernel_meaning kernel_tree y.boot.params
  pub sender : List ℕ
  pub receiver : List ℕ
  pub users_are : y.boot.users ≡ sender ∷ receiver ∷ []
  pub sending : CallsInTurn (first_flat sender) (sends ms) one
  pub receiving : CallsInTurn (first_flat receiver) (receives ms) two
  pub small : AreSmall ms
  pub few : length ms ≤ LOG_ROOM
  pub room : 11 ≤ y.boot.params.stack

-- the kernel's data: the message in the mailbox or 0, who waits or 0, and the sum of those who have ended
abbrev pub data_of : (box waits over : ℕ) → C0State
data_of box waits over = record {
  global_values = group (part (int (pos box)) (part (int (pos waits)) (part (int (pos over)) empty)));
  heap_values = group empty;
  heap_words = 0;
  frames = [];
}

-- one message more, if there is one
abbrev pub held : Option Message → List Message → List Message
held None ms = ms
held (Some m) ms = m ∷ ms

abbrev pub message_number : Option Message → ℕ
message_number None = 0
message_number (Some m) = m.number

abbrev pub IsFull : Option Message → Type 0
IsFull None = ⊥
IsFull (Some m) = Unit {0}

abbrev pub IsEmpty : Option Message → Type 0
IsEmpty None = Unit {0}
IsEmpty (Some m) = ⊥

-- the calls that the receiver has still to make: of the message that it was answered with, and of those that it was not yet
abbrev pub calls_left : Option Message → List Message → List Leg
calls_left None ms = receives ms
calls_left (Some m) ms = printing_leg m ∷ receives ms

-- a user's number where it waits, and where it has ended
abbrev pub waits_by : ℕ → UserProgress → ℕ
waits_by u (Runs t) = 0
waits_by u Waits = u
waits_by u Ended = 0

abbrev pub over_by : ℕ → UserProgress → ℕ
over_by u (Runs t) = 0
over_by u Waits = 0
over_by u Ended = u

abbrev pub over_of : (sender receiver : UserProgress) → ℕ
over_of p q = over_by 1 p + over_by 2 q

-- it has halted when both have ended
abbrev pub status_of_users : (sender receiver : UserProgress) → Status
status_of_users p q = if over_of p q == 3 then Halted else Running

-- WHERE MESSAGES ARE: printed; in the receiver's hand, which was answered with it and has not had it printed; in the mailbox; and with the sender, who hasn't
-- been answered for them yet. And where both users are, from their machines behind their last answers.
pub record MailState : Type 0 where
  pub printed : List Message
  pub hand : Option Message
  pub box : Option Message
  pub rest : List Message
  pub f : Flat
  pub g : Flat
  pub sender : UserProgress
  pub receiver : UserProgress

abbrev pub stand : (printed : List Message) → (hand box : Option Message) → (rest : List Message) → (f g : Flat) → (sender receiver : UserProgress) → MailState
stand printed hand box rest f g sender receiver =
    record { printed = printed; hand = hand; box = box; rest = rest; f = f; g = g; sender = sender; receiver = receiver }

-- the messages that were not sent yet
abbrev pub unsent : UserProgress → List Message → List Message
unsent Waits [] = []
unsent Waits (m ∷ ms) = ms
unsent (Runs t) ms = ms
unsent Ended ms = ms

-- what a dispatch was called for: user 1 sends a number
abbrev pub sent_by : Dispatch → List ℤ
sent_by d = if d.cause == 6 && (d.edata == 12 && d.before.current == 1) then signed (slice_index (user_of d.before.users 1).cpu.regs 4) ∷ [] else []

-- WHAT WAS SENT, in order
abbrev pub sent : List Dispatch → List ℤ
sent [] = []
sent (d ∷ past) = sent_by d ++ sent past

abbrev pub message_ints : List Message → List ℤ
message_ints ms = map (λ (m : Message). pos m.number) ms

-- WHAT IS SO after k turns, whatever lines came. The messages are those that were printed, then that in the receiver's hand, that in the mailbox, and those
-- that are left; they are those that were sent, and then those that were not yet. Each user follows its calls; who waits, waits for the mailbox; and each turn
-- was the first, a step of a user, or lines that were taken.
pub record StandsSo (ms : List Message) (one two : ℕ) (f g : Flat) (k : ℕ) (past : List Dispatch) (at : Core) (s : MailState) : Type 0 where
  pub sender : FollowsLegs f (sends ms) one s.f (sends s.rest) s.sender
  pub receiver : FollowsLegs g (receives ms) two s.g (calls_left s.hand (held s.box s.rest)) s.receiver
  pub all : ms ≡ s.printed ++ held s.hand (held s.box s.rest)
  pub sent_are : sent past ++ message_ints (unsent s.sender s.rest) ≡ message_ints ms
  pub log_is : at.console.log ≡ message_numbers s.printed
  pub for_room : s.sender ≡ Waits → IsFull s.box
  pub for_mail : s.receiver ≡ Waits → IsEmpty s.hand × IsEmpty s.box
  pub users_are : at.users ≡ machine_at s.f (sends s.rest) one s.sender ∷ machine_at s.g (calls_left s.hand (held s.box s.rest)) two s.receiver ∷ []
  pub data_is : at.c0 ≡ data_of (message_number s.box) (waits_by 1 s.sender + waits_by 2 s.receiver) (over_of s.sender s.receiver)
  pub turn_is : status_after past ≡ Running → ((at.current ≡ 1) × IsStillStepping s.sender) ⊎ ((at.current ≡ 2) × IsStillStepping s.receiver)
  pub status_is : status_after past ≡ status_of_users s.sender s.receiver
  pub turns_are : k ≡ 1 + sender.steps + receiver.steps + lines_taken past
  pub length_is : length past ≡ 1 + sender.traps + receiver.traps + lines_taken past

pub record IsMailing (ms : List Message) (one two : ℕ) (f g : Flat) (k : ℕ) (past : List Dispatch) (at : Core) : Type 0 where
  pub printed : List Message
  pub hand : Option Message
  pub box : Option Message
  pub rest : List Message
  pub sender_from : Flat
  pub receiver_from : Flat
  pub sender_progress : UserProgress
  pub receiver_progress : UserProgress
  pub so : StandsSo ms one two f g k past at (stand printed hand box rest sender_from receiver_from sender_progress receiver_progress)

-- and no dispatch touches a page of a user
abbrev pub Mailing : System → (ms : List Message) → (one two : ℕ) → (f g : Flat) → SystemProperty
Mailing y ms one two f g k past at = IsMailing ms one two f g k past at × UsePages y 200 0 past

-- THE THEOREM: whatever lines are raised, each turn ends within 200 units of its dispatch, and each state from the first turn on is such
abbrev pub MailIsPrinted : Type 0
MailIsPrinted = (y : System) (ms : List Message) (one two : ℕ) (r : Mails y ms one two) (lines : ℕ → ℕ) → HasEight lines → (k : ℕ)
    → ((c : Cvm) × (cvm y lines 200 k ≡ Some c))
    × ((c : Cvm) → IsCvm y lines (suc k) c
    → SystemHolds (HasUsers y) (Mailing y ms one two (first_flat r.sender) (first_flat r.receiver)) (suc k) (dispatches_of y lines 200 (suc k)) c)

-- A LAW: it is an invariant of such a system, in the rule for whole systems
abbrev pub MailIsKept : Type 0
MailIsKept = (y : System) (ms : List Message) (one two : ℕ) (r : Mails y ms one two)
    → IsSystemInvariant y 200 (HasUsers y) (Mailing y ms one two (first_flat r.sender) (first_flat r.receiver))

-- EVERY MESSAGE THAT WAS SENT was printed, once and in order, but for three at most that are on their way; and where the system has halted none is
pub record IsCarried (past : List Dispatch) (at : Core) : Type 0 where
  pub on_way : List ℕ
  pub few : length on_way ≤ 3
  pub sent_are : sent past ≡ map (λ (n : ℕ). pos n) (at.console.log ++ on_way)
  pub at_the_end : status_after past ≡ Halted → on_way ≡ []

-- a system that has halted: all messages were printed, each machine is behind its user's end, and the kernel's data say so
pub record IsFinished (ms : List Message) (one two : ℕ) (f g : Flat) (at : Core) : Type 0 where
  pub log_is : at.console.log ≡ message_numbers ms
  pub data_is : at.c0 ≡ data_of 0 0 3
  pub users_are : at.users ≡ ended f (sends ms) one ∷ ended g (receives ms) two ∷ []

-- the turns without lines: the first one, and each step of both users; and the dispatches among them: the first one, and each trap
abbrev pub turns_for : List Message → (one two : ℕ) → ℕ
turns_for ms one two = 1 + leg_steps (sends ms) one + leg_steps (receives ms) two

abbrev pub dispatches_for : List Message → ℕ
dispatches_for ms = 3 + length (sends ms) + length (receives ms)

-- A LAW, of each such state: what was sent is carried; the system is running below so many turns alone, and for each dispatch that took lines one more; so
-- many dispatches there are at most; no dispatch has faulted; and where it has halted it is finished
pub record MailEnds : Type 0 where
  pub carried : (ms : List Message) (one two : ℕ) (f g : Flat) (k : ℕ) (past : List Dispatch) (at : Core)
      → IsMailing ms one two f g k past at → IsCarried past at
  pub below : (ms : List Message) (one two : ℕ) (f g : Flat) (k : ℕ) (past : List Dispatch) (at : Core) → IsMailing ms one two f g k past at
      → status_after past ≡ Running → k < turns_for ms one two + lines_taken past
  pub few : (ms : List Message) (one two : ℕ) (f g : Flat) (k : ℕ) (past : List Dispatch) (at : Core) → IsMailing ms one two f g k past at
      → length past ≤ dispatches_for ms + lines_taken past
  pub safe : (ms : List Message) (one two : ℕ) (f g : Flat) (k : ℕ) (past : List Dispatch) (at : Core) → IsMailing ms one two f g k past at
      → IsSafe (status_after past)
  pub finished : (ms : List Message) (one two : ℕ) (f g : Flat) (k : ℕ) (past : List Dispatch) (at : Core) → IsMailing ms one two f g k past at
      → status_after past ≡ Halted → IsFinished ms one two f g at
