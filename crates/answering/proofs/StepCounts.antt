-- The steps of the system with compiled users, in numbers.
use Rattle.std.proofs.Common.{◌≡◌, ℕ, ◌+◌, ◌*◌, arith}
use Rattle.answering.specs.Compiled.{AnsweredStepsAreFew}

-- over plain numbers: users, pages, frames and the longest busy time
answered : (raised users pages frames longest : ℕ) → users ≡ 2 → pages ≡ 20 → frames ≡ 48 → longest ≡ 0
    → 20000 + 64 * (users * pages + frames) + (359 + raised) * (1 + 2 * (200000 + 32 * (users * pages) + 6 * longest)) + (5 + raised) * (1000 + 1000 + (600 * 100 + (200000 + 32 * (users * pages) + 6 * longest) * 0))
    ≡ 144855031 + 464561 * raised
answered raised users pages frames longest u p f l = rw (u, p, f, l) (omega arith)

pub answered_steps_are_few : AnsweredStepsAreFew
answered_steps_are_few s rows raised pages frames users busy = answered raised _ _ _ _ users pages frames busy
