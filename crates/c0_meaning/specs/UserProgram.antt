-- The meaning of a user program in C0: its one primitive, `trap`, answers from a list.
use Rattle.std.specs.Prelude.{ℕ, suc, ℤ, pos, nat_lt, if◌then◌else◌, List, [], ◌∷◌, length, take, drop, slice_get, unwrap_or}
use Rattle.c0_tree.specs.declared.primitive.Program.TheVariants.{User}
pub use Rattle.c0_tree.specs.Primitives.{user_primitives}
use Rattle.c0_tree.specs.Tree.{CUnit}
pub use Rattle.c0_meaning.specs.Limits.{is_main}
use Rattle.c0_meaning.specs.Limits.{first_number}
use Rattle.c0_meaning.specs.Value.{Values, empty, part}
use Rattle.c0_meaning.specs.Value as value
use Rattle.c0_meaning.specs.State.{first_state}
use Rattle.c0_meaning.specs.Operators.{Failure}
use Rattle.c0_meaning.specs.World.{PrimitiveMeaning, journal_so_far}
use Rattle.c0_meaning.specs.Execution.{Outcome, Done, Failed, NotYet, call_first}

-- the argument of a call of `trap`
abbrev pub trap_argument : Values → ℤ
trap_argument (part (value.int a) vs) = a
trap_argument _ = pos 0

-- `trap`: the world's value is the answers that are left, the journal the arguments; past the last answer it answers 0
abbrev pub trap : PrimitiveMeaning (List ℤ) ℤ
trap n args answers = record {
  answer = value.int (unwrap_or (slice_get answers 0) (pos 0));
  world = drop 1 answers;
  entries = trap_argument args ∷ [];
  pages = 0;
  words = 0;
}

-- how a program ended
pub data ProgramEnding : Type 0 where
  done : ProgramEnding
  failed : Failure → ProgramEnding
  not_yet : ProgramEnding

-- what is seen of a program: the arguments of its calls of `trap` so far, and how it ended
pub record Seen : Type 0 where
  pub arguments : List ℤ
  pub ending : ProgramEnding

-- a program that has called `trap` past the last answer stands at the first such call
abbrev pub up_to : List ℤ → Seen → Seen
up_to answers s =
    if nat_lt (length answers) (length s.arguments) then record { arguments = take (suc (length answers)) s.arguments; ending = not_yet } else s

-- what is seen of an outcome
abbrev pub outcome_seen : Outcome (List ℤ) ℤ → Seen
outcome_seen (Done k c) = record { arguments = journal_so_far c; ending = done }
outcome_seen (Failed k f c) = record { arguments = journal_so_far c; ending = failed f }
outcome_seen (NotYet k c) = record { arguments = journal_so_far c; ending = not_yet }

-- `main` of a unit, within n units, where the i-th call of `trap` answers the i-th of a list; heap and stack have 1024 words each
abbrev pub prog : CUnit → List ℤ → ℕ → Seen
prog u answers n =
    up_to answers (outcome_seen (call_first (record { unit = u; heap = 1024; stack = 1024; meaning = trap }) n (first_number User u) empty
    (first_state u) answers))
