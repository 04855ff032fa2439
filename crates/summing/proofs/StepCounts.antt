-- The steps of the summing system, in numbers.
use Rattle.std.proofs.Common.{◌≡◌, ℕ, ◌+◌, ◌*◌, arith}
use Rattle.summing.specs.Boots.{StepsAreFew}
use Rattle.summing.specs.Compiled.{CompiledStepsAreFew}

-- over plain numbers: users, pages, frames and the longest busy time
counted : (raised users pages frames longest : ℕ) → users ≡ 2 → pages ≡ 4 → frames ≡ 8 → longest ≡ 0
    → 20000 + 64 * (users * pages + frames) + (65 + raised) * (1 + 2 * (200000 + 32 * (users * pages) + 6 * longest)) + (3 + raised) * (1000 + 1000 + (600 * 100 + (200000 + 32 * (users * pages) + 6 * longest) * 0))
    ≡ 26240369 + 462513 * raised
counted raised users pages frames longest u p f l = rw (u, p, f, l) (omega arith)

pub steps_are_few : StepsAreFew
steps_are_few s rows raised pages frames users busy = counted raised _ _ _ _ users pages frames busy

-- with compiled users
counted_compiled : (raised users pages frames longest : ℕ) → users ≡ 2 → pages ≡ 20 → frames ≡ 48 → longest ≡ 0
    → 20000 + 64 * (users * pages + frames) + (343 + raised) * (1 + 2 * (200000 + 32 * (users * pages) + 6 * longest)) + (3 + raised) * (1000 + 1000 + (600 * 100 + (200000 + 32 * (users * pages) + 6 * longest) * 0))
    ≡ 138290055 + 464561 * raised
counted_compiled raised users pages frames longest u p f l = rw (u, p, f, l) (omega arith)

pub compiled_steps_are_few : CompiledStepsAreFew
compiled_steps_are_few s rows raised pages frames users busy = counted_compiled raised _ _ _ _ users pages frames busy
