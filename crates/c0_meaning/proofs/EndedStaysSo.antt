-- More units change no user program that has ended.
use Rattle.std.proofs.Common.{suc, List, [], ◌∷◌, length, take, Bool, true, false, nat_lt, ap}
use Rattle.std.specs.Prelude.{ℤ, if◌then◌else◌, unwrap_or, position}
use Rattle.c0_meaning.specs.Value.{empty}
use Rattle.c0_meaning.specs.State.{first_state}
use Rattle.c0_meaning.specs.World.{beginning, journal_so_far}
use Rattle.c0_meaning.specs.Running.{begin}
use Rattle.c0_meaning.specs.Execution.{Outcome, Done, Failed, NotYet, call_first}
use Rattle.c0_meaning.specs.UserProgram.{trap, is_main, Seen, not_yet, up_to, outcome_seen}
use Rattle.c0_meaning.proofs.RunsWithinUnits.{more_units}
use Rattle.c0_meaning.specs.RunLaws.{HasEnded, ProgramsEnd, IsOver}

-- a program that isn't over, with one list of arguments or another
abbrev standing : Bool → List ℤ → List ℤ → Seen
standing b xs ys = if b then record { arguments = xs; ending = not_yet } else record { arguments = ys; ending = not_yet }

not_ended : (b : Bool) (xs ys : List ℤ) → HasEnded (standing b xs ys).ending → ⊥
not_ended true xs ys h = h
not_ended false xs ys h = h

over : (answers : List ℤ) (o : Outcome (List ℤ) ℤ) → HasEnded (up_to answers (outcome_seen o)).ending → IsOver o
over answers (Done k c) h = tt
over answers (Failed k f c) h = tt
over answers (NotYet k c) h = not_ended (nat_lt (length answers) (length (journal_so_far c))) (take (suc (length answers)) (journal_so_far c)) (journal_so_far c) h

pub programs_end : ProgramsEnd
programs_end u answers m n le h =
    ap (λ o. up_to answers (outcome_seen o))
    (more_units (List ℤ) ℤ (record { unit = u; heap = 1024; stack = 1024; meaning = trap }) (begin (unwrap_or (position is_main u.functions) 0) empty ∷ []) (beginning (first_state u) answers) m n le
    (over answers (call_first (record { unit = u; heap = 1024; stack = 1024; meaning = trap }) m (unwrap_or (position is_main u.functions) 0) empty (first_state u) answers) h))
