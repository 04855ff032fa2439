-- The kernel of examples/mailbox, which carries messages: user 1 puts one by a system call, with its value in register 4; user 2 gets one by a system
-- call, in register 3. Each call is answered in the caller's register 2: 1 where the message was taken or is there, 0 where it is to be asked again; the
-- other user is next then. Any other trap ends the run. What is got is what was put, in order, each once and unchanged, by what the users find.
use Rattle.std.specs.Prelude.{◌≡◌, ◌≤◌, ◌&&◌, ℕ, ℤ, pos, Bool, nat_lt, true, false, if◌then◌else◌}
use Rattle.std.specs.Prelude.{Option, Some, None, List, [], ◌∷◌, ◌++◌, length, codes, FitsSigned}
use Rattle.std.specs.Int.{w32}
use Rattle.std.specs.Ordering.{int_eq}
use Rattle.c0_meaning.specs.Value.{Value, int, group, empty, part}
use Rattle.c0_meaning.specs.State.{C0State}
use Rattle.kernel_theorems.specs.Lines.{by_lines}
use Rattle.kernel_theorems.specs.Registers.{int_held, is_call_of}
use Rattle.kernel_theorems.specs.History.{EachHas}
use Rattle.cvm_model.specs.KernelMeaning.{kernel_meaning}
use Rattle.cvm_model.specs.Primitives.{user_of}
use Rattle.cvm_model.specs.Cvm.{System, Cvm, IsCvm}
use Rattle.cvm_model.specs.Invariant.{Dispatch, dispatch_rows, dispatches_of, HasEight, HasRoom, IsSafe}
use Rattle.kernel_theorems.specs.MailboxTree.{mailbox}

-- whether a user called, and finds 1 in its register 2: its put was taken, or it was given a message
abbrev pub succeeds : ℕ → Dispatch → Bool
succeeds user d = is_call_of user d && int_eq (int_held d.after user 2) (pos 1)

-- what user 1 puts by a dispatch: its register 4, where it is told that this was taken
abbrev pub put_by : Dispatch → List ℤ
put_by d = if succeeds 1 d then int_held d.before 1 4 ∷ [] else []

-- what user 2 gets by a dispatch: what it finds in register 3, where it is told that a message is there
abbrev pub got_by : Dispatch → List ℤ
got_by d = if succeeds 2 d then int_held d.after 2 3 ∷ [] else []

-- what all dispatches put, and got, in order
abbrev pub puts : List Dispatch → List ℤ
puts [] = []
puts (d ∷ rest) = put_by d ++ puts rest

abbrev pub gots : List Dispatch → List ℤ
gots [] = []
gots (d ∷ rest) = got_by d ++ gots rest

-- whether a message is under way: more was put than got
abbrev pub waits : List Dispatch → Bool
waits past = nat_lt (length (gots past)) (length (puts past))

-- A CALL IS ANSWERED: a put is taken where no message is under way, and a get is given one where one is. All other users keep their machines, so that
-- what a user was answered stands in its registers until it goes on, whatever lines come between.
pub record IsAnswered (past : List Dispatch) (d : Dispatch) : Type 0 where
  pub put : is_call_of 1 d ≡ true → int_held d.after 1 2 ≡ (if waits past then pos 0 else pos 1)
  pub get : is_call_of 2 d ≡ true → int_held d.after 2 2 ≡ (if waits past then pos 1 else pos 0)
  pub others : (u : ℕ) → 1 ≤ u → is_call_of u d ≡ false → user_of d.after.users u ≡ user_of d.before.users u

-- the message under way, as a list
abbrev pub message_under_way : Option ℤ → List ℤ
message_under_way None = []
message_under_way (Some v) = v ∷ []

-- DELIVERED: what was put is what was got, in order and unchanged, and behind it at most one that is under way; and each call is answered
pub record Delivers (past : List Dispatch) : Type 0 where
  pub way : Option ℤ
  pub in_order : puts past ≡ gots past ++ message_under_way way
  pub answered : EachHas IsAnswered [] past

-- its data: whether a message is under way, and the last message
abbrev pub full_of : Option ℤ → ℤ
full_of None = pos 0
full_of (Some v) = pos 1

abbrev pub message_of : Option ℤ → ℤ → ℤ
message_of None old = old
message_of (Some v) old = v

abbrev pub globals_of : Option ℤ → ℤ → Value
globals_of w old = group (part (int (full_of w)) (part (int (message_of w old)) empty))

abbrev pub data_of : Option ℤ → ℤ → C0State
data_of w old = record { global_values = globals_of w old; heap_values = group empty; heap_words = 0; frames = [] }

-- a message that is under way is an int
abbrev pub IsIntOr : Option ℤ → Type 0
IsIntOr None = Unit {0}
IsIntOr (Some v) = FitsSigned w32 v

-- WHAT IS SO between dispatches: it is delivered, and the kernel holds the message under way
pub record Carries (past : List Dispatch) (s : C0State) (current : ℕ) : Type 0 where
  pub delivers : Delivers past
  pub old : ℤ
  pub data_is : s ≡ data_of delivers.way old
  pub fits : IsIntOr delivers.way

-- a system of this kernel: two users, no larger than they may be, and a stack with room for a frame
pub record RunsMailbox (y : System) : Type 0 where
  pub meaning_is : y.boot.meaning ≡ kernel_meaning mailbox y.boot.params
  pub two : length y.boot.users ≡ 2
  pub fit : HasRoom y
  pub room : 9 ≤ y.boot.params.stack

-- a state of a run: no dispatch has faulted, its rows are those of these dispatches, and what was put in them is delivered
pub record IsDelivered (past : List Dispatch) (c : Cvm) : Type 0 where
  pub safe : IsSafe c.status
  pub rows : c.rows ≡ dispatch_rows past
  pub delivers : Delivers past

-- THE THEOREM: whatever the users do, whatever lines are raised, each turn ends, no dispatch faults, and by the run's dispatches what user 2 was given is
-- what user 1 was told to be taken, in order, each message once and unchanged
abbrev pub MessagesAreDelivered : Type 0
MessagesAreDelivered = (y : System) → RunsMailbox y → (lines : ℕ → ℕ) → HasEight lines → (k : ℕ)
    → ((c : Cvm) × IsCvm y lines k c) × ((c : Cvm) → IsCvm y lines k c → IsDelivered (dispatches_of y lines 400 k) c)

-- its text: that of kernels/mailbox.c0, which is examples/mailbox/kernel.c0
abbrev pub text : List ℕ
text = by_lines (
    codes "int full;"
    ∷ codes "int message;"
    ∷ codes ""
    ∷ codes "int dispatch(int cause, int data, int user) {"
    ∷ codes "  int next; int answer; bool ok;"
    ∷ codes "  next = user;"
    ∷ codes "  if (cause == 0) { next = 1; }"
    ∷ codes "  if (cause == 1) { next = user % 2 + 1; }"
    ∷ codes "  if (cause > 1) { next = 0; }"
    ∷ codes "  if (cause == 6) {"
    ∷ codes "    if (user == 1) {"
    ∷ codes "      if (full == 0) { message = vm_get(1, 4); full = 1; answer = 1; }"
    ∷ codes "    } else {"
    ∷ codes "      if (full == 1) { ok = vm_set(2, 3, message); full = 0; answer = 1; }"
    ∷ codes "    }"
    ∷ codes "    ok = vm_set(user, 2, answer);"
    ∷ codes "    next = user;"
    ∷ codes "    if (answer == 0) { next = user % 2 + 1; }"
    ∷ codes "  }"
    ∷ codes "  return next;"
    ∷ codes "}" ∷ [])
