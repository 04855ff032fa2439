-- Loops that pay for their turns, by induction on what they may still spend.
use Rattle.std.proofs.Common.{ℕ, zero, suc, ◌+◌, ◌≤◌, length, ⊎_elim, arith}
use Rattle.std.proofs.lemmas.Bool.{cases_eq}
use Rattle.mips_table.specs.Code.{Contents, reg, Behind, World, Sound, at_with, Reaches, CodeAt}
use Rattle.masm.specs.Blocks.{loop_code}
use Rattle.masm.specs.Laws.{LoopRuns, LoopPays}
use Rattle.masm.proofs.RunsCompose.{joined, later}
use Rattle.masm.proofs.LoopsAndRoutines.{loop_laws}

pub loop_pays : {A : Type 0} (w : World) (S T R : A → Contents → Behind → Type 0) → Sound w → LoopPays w A S T R
loop_pays {A} w S T R f test r body short tests takes cost next p a = record { by = λ n c d at s. turn (cost a) a n c d (omega arith) at s }
  where
    laws : LoopRuns w test r body
    laws = loop_laws w f test r body short

    turn : (k : ℕ) (a : A) (n : ℕ) (c : Contents) (d : Behind) → cost a ≤ k → CodeAt w n (loop_code test r body) → S a c d → (c' : Contents) × (d' : Behind) × R a c' d' × Reaches w (cost a + tests + 1) (at_with n c d) (at_with (n + length (loop_code test r body)) c' d')
    turn zero a n c d le at s =
        let x = (p.tested_so a).by n c d (laws.test_stands n at) s in
        ⊎_elim
        (λ z. (x.0, x.1, p.last a x.0 x.1 x.2 z, later w (tests + 1) (cost a + tests + 1) _ _ (omega arith) (laws.ends n tests c d x.0 x.1 at x.3 (p.idle_tested a x.0 x.1 x.2) z)))
        (λ z. let q = p.paid a x.0 x.1 x.2 z in absurd (omega (arith, q, le)))
        (cases_eq (reg x.0.regs r) 0)
    turn (suc k) a n c d le at s =
        let x = (p.tested_so a).by n c d (laws.test_stands n at) s in
        ⊎_elim
        (λ z. (x.0, x.1, p.last a x.0 x.1 x.2 z, later w (tests + 1) (cost a + tests + 1) _ _ (omega arith) (laws.ends n tests c d x.0 x.1 at x.3 (p.idle_tested a x.0 x.1 x.2) z)))
        (λ z. let q = p.paid a x.0 x.1 x.2 z in
        let y = (p.turned_so a).by (n + length test + 1) x.0 x.1 (laws.body_stands n at) (x.2, z) in
        let go = laws.turns n tests (takes a) c d x.0 x.1 y.0 y.1 at x.3 (p.idle_tested a x.0 x.1 x.2) z y.3 (p.idle_before (next a) y.0 y.1 y.2) in
        let u = turn k (next a) n y.0 y.1 (omega (arith, q, le)) at y.2 in
        (u.0, u.1, p.stays a u.0 u.1 u.2, later w (tests + takes a + 2 + (cost (next a) + tests + 1)) (cost a + tests + 1) (at_with n c d) (at_with (n + length (loop_code test r body)) u.0 u.1) (omega (arith, q)) (joined w (tests + takes a + 2) (cost (next a) + tests + 1) (at_with n c d) (at_with n y.0 y.1) (at_with (n + length (loop_code test r body)) u.0 u.1) go u.3)))
        (cases_eq (reg x.0.regs r) 0)
