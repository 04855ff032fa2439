-- Stretches of a run: how its steps join, with bounds from below and from above.
use Rattle.std.proofs.Common.{◌≢◌, ℕ, zero, suc, ◌+◌, ◌≤◌, refl, ap, arith}
use Rattle.mips_table.specs.Code.{World, CodeState, Steps, Reaches, RunLaws}

module _ (laws : RunLaws) (w : World) where
  -- at least and at most so many steps
  pub record Stretch (least most : ℕ) (s t : CodeState) : Type 0 where
    pub own : ℕ
    pub low : least ≤ own
    pub high : own ≤ most
    pub run : Steps w own s t

  pub none : (s : CodeState) → Stretch 0 0 s s
  none s = record { own = 0; low = omega arith; high = omega arith; run = (tt, refl) }

  pub on : (l n l' n' : ℕ) (s t u : CodeState) → Stretch l n s t → Stretch l' n' t u → Stretch (l + l') (n + n') s u
  on l n l' n' s t u a b = record { own = a.own + b.own; low = omega (arith, a.low, b.low); high = omega (arith, a.high, b.high); run = laws.joined w a.own b.own s t u a.run b.run }

  pub within : (l n l' n' : ℕ) (s t : CodeState) → l' ≤ l → n ≤ n' → Stretch l n s t → Stretch l' n' s t
  within l n l' n' s t le ge a = record { own = a.own; low = omega (arith, a.low, le); high = omega (arith, a.high, ge); run = a.run }

  -- a run of code, in no step or more
  pub of : (n : ℕ) (s t : CodeState) → Reaches w n s t → Stretch 0 n s t
  of n s t r = record { own = r.steps; low = omega arith; high = r.within; run = r.run }

  -- a run that leads elsewhere takes a step
  pub away : (n : ℕ) (s t : CodeState) → s.at ≢ t.at → Reaches w n s t → Stretch 1 n s t
  away n s t apart r = by_steps r.steps r.within r.run
    where
      by_steps : (k : ℕ) → k ≤ n → Steps w k s t → Stretch 1 n s t
      by_steps zero le run = absurd (apart (ap (λ x. x.at) run.1))
      by_steps (suc k) le run = record { own = suc k; low = omega arith; high = le; run = run }
