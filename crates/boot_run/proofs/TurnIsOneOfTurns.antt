-- A call of `turn` answers what its call of `turns` does.
-- It serves `Run::turn` alone.
use Rattle.std.proofs.Common.{◌≡◌, ℕ, ◌≤◌, Option, Some, None, Result, Ok, Err, refl, sym, ap, ◌∙◌, arith}
use Rattle.std.specs.Prelude.{IfSome, IsSome}
use Rattle.cvm_model.specs.declared.row.Next.{Next}
use Rattle.boot_turns.specs.declared.answers.Turn.{Turn}
use Rattle.boot_turns.specs.declared.answers.Turn.TheVariants.{Step, Dispatch, Over}
use Rattle.boot_turns.specs.declared.answers.RunFault.{RunFault}
use Rattle.boot_run.specs.OneTurn.{as_turns}

some_over : (made : ℕ) (turn : Turn) → ◌≡◌ {A = Result (ℕ × Turn) RunFault} (Ok (made, turn)) (Ok (0, Over)) → turn ≡ Over
some_over made turn e = ap (λ (p : ℕ × Turn). p.1) (one (made, turn) (0, Over) e)
  where
    one : (a b : ℕ × Turn) → ◌≡◌ {A = Result (ℕ × Turn) RunFault} (Ok a) (Ok b) → a ≡ b
    one a b e = cc

no_some : (o : Option Next) → o ≡ None → IsSome o → ⊥
no_some None e h = cc
no_some (Some n) e h = cc

is_one : (made : ℕ) → made ≤ 1 → 1 ≤ made → 1 ≡ made
is_one made few some = omega (arith, few, some)

-- where the run hadn't ended one turn is made
one_made : (made : ℕ) (turn : Turn) → (turn ≡ Over → ⊥) → 1 ≡ made → Ok (made, turn) ≡ as_turns (Ok turn)
one_made made (Step u) only e = sym (ap (λ n. Ok (n, Step u)) e)
one_made made (Dispatch r) only e = sym (ap (λ n. Ok (n, Dispatch r)) e)
one_made made Over only e = absurd (only refl)

by_ended : (ended : Option Next) (made : ℕ) (turn : Turn) → (IsSome ended → ◌≡◌ {A = Result (ℕ × Turn) RunFault} (Ok (made, turn)) (Ok (0, Over))) → (turn ≡ Over → IsSome ended) → (made ≤ 1) × (ended ≡ None → 1 ≤ made) →
    Ok (made, turn) ≡ as_turns (Ok turn)
by_ended None made turn over only few = one_made made turn (λ h. no_some None refl (only h)) (is_one made few.0 (few.1 refl))
by_ended (Some e) made turn over only few = let h = over refl in h ∙ sym (ap (λ t. as_turns (Ok t)) (some_over made turn h))

pub as_one : (fault : Option RunFault) (ended : Option Next) (made : ℕ) (turn : Turn) → IfSome fault (λ f. ◌≡◌ {A = Result (ℕ × Turn) RunFault} (Ok (made, turn)) (Err f)) →
    (fault ≡ None → IsSome ended → ◌≡◌ {A = Result (ℕ × Turn) RunFault} (Ok (made, turn)) (Ok (0, Over))) → (turn ≡ Over → IsSome ended) → (made ≤ 1) × (ended ≡ None → 1 ≤ made) → Ok (made, turn) ≡ as_turns (Ok turn)
as_one None ended made turn again over only few = by_ended ended made turn (over refl) only few
as_one (Some f) ended made turn again over only few = absurd (let h = again in cc)
