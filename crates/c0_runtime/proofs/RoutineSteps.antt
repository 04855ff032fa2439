-- Small steps that the proofs of the routines share: where a run ends, and registers and words that a write leaves.
use Rattle.std.proofs.Common.{◌≡◌, ◌≢◌, ℕ, ◌<◌, ◌≤◌, ◌==◌, Bool, true, false, ap, ◌∙◌, subst, arith}
use Rattle.std.specs.Prelude.{not}
use Rattle.mips_table.specs.Arith.{flag}
use Rattle.mips_table.specs.Device.{Idle}
use Rattle.mips_table.specs.Code.{put, Contents, Behind, World, CodeState, at_with, settle, Steps, Reaches}
use Rattle.mips_table.proofs.PutsChangeOneWord.{put_other}
use Rattle.masm.specs.Laws.{RunsCompose}

-- the end of a run, by another number
pub moved : (w : World) (m : ℕ) (s : CodeState) (p q : ℕ) (c : Contents) (d : Behind) → p ≡ q → Reaches w m s (at_with p c d) → Reaches w m s
    (at_with q c d)
moved w m s p q c d e r = subst (λ k. Reaches w m s (at_with k c d)) e r

-- a step to a place, where no command is under way
pub rests : (w : World) (runs : RunsCompose) (s : CodeState) (p q : ℕ) (c : Contents) (d : Behind) → d.pending ≡ Idle → p ≡ q → Reaches w 1 s
    (settle p c d) → Reaches w 1 s (at_with q c d)
rests w runs s p q c d idle e r = moved w 1 s p q c d e (runs.settled w 1 p s c d idle r)

-- a run of one step at most that leads elsewhere is one step
pub one_step : (w : World) (runs : RunsCompose) (n m : ℕ) (c : Contents) (d : Behind) (c' : Contents) (d' : Behind) → n ≢ m →
    Reaches w 1 (at_with n c d) (at_with m c' d') → Steps w 1 (at_with n c d) (at_with m c' d')
one_step w runs n m c d c' d' ne r =
    let some = runs.elsewhere w 1 (at_with n c d) (at_with m c' d') ne r in let most = r.within in
    let one : r.steps ≡ 1 = omega (arith, some, most) in
    subst (λ k. Steps w k (at_with n c d) (at_with m c' d')) one r.run

-- a register above 5 is not one of those up to 5
above : (m : ℕ → ℕ) (a v k : ℕ) → a ≤ 5 → 5 < k → put m a v k ≡ m k
above m a v k le lt = put_other m a v k (λ e. absurd (omega (arith, e, le, lt)))

pub four_above : (m : ℕ → ℕ) (a s b t c u e v k : ℕ) → a ≤ 5 → b ≤ 5 → c ≤ 5 → e ≤ 5 → 5 < k → put (put (put (put m a s) b t) c u) e v k ≡ m k
four_above m a s b t c u e v k la lb lc le lt =
    above (put (put (put m a s) b t) c u) e v k le lt ∙ above (put (put m a s) b t) c u k lc lt ∙ above (put m a s) b t k lb lt ∙ above m a s k la lt

pub two_above : (m : ℕ → ℕ) (a s b t k : ℕ) → a ≤ 5 → b ≤ 5 → 5 < k → put (put m a s) b t k ≡ m k
two_above m a s b t k la lb lt = above (put m a s) b t k lb lt ∙ above m a s k la lt

-- the tests of branches on a flag
pub flag_set : (b : Bool) → b ≡ true → not (flag b == 0) ≡ true
flag_set b e = ap (λ b. not (flag b == 0)) e

pub flag_clear : (b : Bool) → b ≡ false → not (flag b == 0) ≡ false
flag_clear b e = ap (λ b. not (flag b == 0)) e
