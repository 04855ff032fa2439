-- What a loaded run keeps for a trace: a user of the boot, and what is needed to print its rows.
use Rattle.std.proofs.Common.{◌≡◌, ℕ, ◌+◌, ◌≤◌, ◌&&◌, Bool, true, false, Some, refl, arith}
use Rattle.std.specs.Prelude.{IsTrue, nat_lt}
use Rattle.std.proofs.lemmas.Bool.{ltb-true, lt-ltb}
use Rattle.boot_turns.specs.declared.tracer.Tracer.{Tracer}
use Rattle.boot_run.specs.LoadEnds.{tracer_fits}

both_are : (a b : Bool) → (a && b) ≡ true → (a ≡ true) × (b ≡ true)
both_are true b e = (refl, e)
both_are false b e = absurd (cc)

all_are : (a b : Bool) → a ≡ true → b ≡ true → (a && b) ≡ true
all_are a b e f = rw (e, f) refl

-- a tracer fits, by numbers
pub fits_so : (kept : Tracer) (users time : ℕ) → 1 ≤ kept.user → kept.user ≤ users → kept.steps ≤ time → IsTrue (tracer_fits (Some kept) users time)
fits_so kept users time low high steps =
    all_are (nat_lt 0 kept.user && nat_lt kept.user (users + 1)) (nat_lt kept.steps (time + 1))
    (all_are (nat_lt 0 kept.user) (nat_lt kept.user (users + 1)) (lt-ltb 0 kept.user low) (lt-ltb kept.user (users + 1) (omega (arith, high)))) (lt-ltb kept.steps (time + 1) (omega (arith, steps)))

-- a user that is kept is there
pub user_there : (kept : Tracer) (users time : ℕ) → IsTrue (tracer_fits (Some kept) users time) → (1 ≤ kept.user) × (kept.user ≤ users)
user_there kept users time h =
    let a = both_are (nat_lt 0 kept.user && nat_lt kept.user (users + 1)) (nat_lt kept.steps (time + 1)) h in
    let b = both_are (nat_lt 0 kept.user) (nat_lt kept.user (users + 1)) a.0 in
    let low = ltb-true 0 kept.user b.0 in
    let high = ltb-true kept.user (users + 1) b.1 in
    (omega (arith, low), omega (arith, high))
