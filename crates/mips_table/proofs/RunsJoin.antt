-- Runs join: the machine's, and those of code.
use Rattle.std.proofs.Common.{◌≡◌, ℕ, zero, suc, ◌+◌, ◌<◌, refl, sym, ap, ◌∙◌, subst, arith}
use Rattle.mips_table.specs.Device.{Environment}
use Rattle.mips_table.specs.Machine.{State, step, run}
use Rattle.mips_table.specs.Code.{World, CodeState, MayAt, code_step, code_run, MayRun, Steps, RunLaws}

pub run_sum : (x : Environment) (s : State) (m n : ℕ) → run x s (m + n) ≡ run x (run x s m) n
run_sum x s m zero = let e : m + 0 ≡ m = omega arith in ap (run x s) e
run_sum x s m (suc n) = let e : m + suc n ≡ suc (m + n) = omega arith in ap (run x s) e ∙ ap (step x) (run_sum x s m n)

-- a step of the run is the first one and then the others
pub run_first : (x : Environment) (s : State) (n : ℕ) → run x s (suc n) ≡ run x (step x s) n
run_first x s zero = refl
run_first x s (suc n) = ap (step x) (run_first x s n)

code_sum : (w : World) (s : CodeState) (m n : ℕ) → code_run w s (m + n) ≡ code_run w (code_run w s m) n
code_sum w s zero n = let e : 0 + n ≡ n = omega arith in ap (code_run w s) e
code_sum w s (suc m) n = let e : suc m + n ≡ suc (m + n) = omega arith in ap (code_run w s) e ∙ code_sum w (code_step w s) m n

may_sum : (w : World) (m n : ℕ) (s : CodeState) → MayRun w m s → MayRun w n (code_run w s m) → MayRun w (m + n) s
may_sum w zero n s a b = let e : n ≡ 0 + n = omega arith in subst (λ k. MayRun w k s) e b
may_sum w (suc m) n s a b = let e : suc (m + n) ≡ suc m + n = omega arith in subst (λ k. MayRun w k s) e (a.0, may_sum w m n (code_step w s) a.1 b)

may_parts : (w : World) (m n : ℕ) (s : CodeState) → MayRun w (m + n) s → MayRun w m s × MayRun w n (code_run w s m)
may_parts w zero n s a = let e : 0 + n ≡ n = omega arith in (tt, subst (λ k. MayRun w k s) e a)
may_parts w (suc m) n s a =
    let e : suc m + n ≡ suc (m + n) = omega arith in
    let b : MayRun w (suc (m + n)) s = subst (λ k. MayRun w k s) e a in
    let c = may_parts w m n (code_step w s) b.1 in
    ((b.0, c.0), c.1)

may_each : (w : World) (n j : ℕ) (s : CodeState) → MayRun w n s → j < n → MayAt w (w.code (code_run w s j).at) (code_run w s j)
may_each w zero j s a lt = absurd (omega arith)
may_each w (suc n) zero s a lt = a.0
may_each w (suc n) (suc j) s a lt = may_each w n j (code_step w s) a.1 (omega arith)

joined : (w : World) (m n : ℕ) (s t u : CodeState) → Steps w m s t → Steps w n t u → Steps w (m + n) s u
joined w m n s t u a b = (may_sum w m n s a.0 (subst (MayRun w n) (sym a.1) b.0), code_sum w s m n ∙ ap (λ y. code_run w y n) a.1 ∙ b.1)

pub run_laws : RunLaws
run_laws = record {
  sum = code_sum;
  joined = joined;
  front = λ w m n s u a. ((may_parts w m n s a.0).0, refl);
  back = λ w m n s u a. ((may_parts w m n s a.0).1, sym (code_sum w s m n) ∙ a.1);
  each = λ w n j s t a lt. may_each w n j s a.0 lt;
}
