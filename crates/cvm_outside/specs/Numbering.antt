-- The calls of an object in memory: they are numbered from 0, and those whose number is listed fail.
use Rattle.std.specs.Prelude.{ℕ, zero, suc, ◌+◌, ◌-◌, ◌^◌, ◌==◌, min, nat_lt, List, Bool, if◌then◌else◌}
use Rattle.std.specs.List.{list_any, list_all}

-- the numbers of the calls that fail, the number of the next call, the count of faults, and that of the calls up to the first that failed
pub record Numbering : Type 0 where
  pub failing : List ℕ
  pub next : ℕ
  pub faults : ℕ
  pub sound : ℕ

-- no call came yet
abbrev pub fresh : List ℕ → Numbering
fresh failing = record { failing = failing; next = 0; faults = 0; sound = 0 }

-- one more, but a counter of 64 bits stands still at its last value
abbrev pub counted_up : ℕ → ℕ
counted_up n = min (n + 1) (2 ^ 64 - 1)

-- a count of calls up to the first that failed, that one with it: one more, unless there was a fault before
abbrev pub until_fault : (faults calls : ℕ) → ℕ
until_fault zero calls = counted_up calls
until_fault (suc n) calls = calls

-- what a disk or a shelf counts: its faults, its calls up to the first that failed, and all its calls
pub record Tally : Type 0 where
  pub faults : ℕ
  pub calls : ℕ
  pub all_calls : ℕ

-- a count of calls after so many more, of which at most the last failed: where one had failed before none is counted
abbrev pub called : ℕ → Tally → ℕ
called zero before = before.calls
called (suc n) before = until_fault before.faults (called n before)

-- a count of all calls after so many more
abbrev pub counted_times : ℕ → ℕ → ℕ
counted_times zero before = before
counted_times (suc n) before = counted_up (counted_times n before)

-- the next call is one of those that fail
abbrev pub is_listed : Numbering → Bool
is_listed calls = list_any (λ n. n == calls.next) calls.failing

-- no call that is to come is one of those that fail
abbrev pub is_spent : Numbering → Bool
is_spent calls = list_all (λ n. nat_lt n calls.next) calls.failing

-- one call later; a call that failed is one fault more
abbrev pub numbered_call : Numbering → Bool → Numbering
numbered_call calls failed =
    record {
      failing = calls.failing;
      next = counted_up calls.next;
      faults = if failed then counted_up calls.faults else calls.faults;
      sound = until_fault calls.faults calls.sound;
    }
