-- A word that is put stands there, and each other is as before.
use Rattle.std.proofs.Common.{◌≡◌, ◌≢◌, ℕ, eq-eqb, ne_eqb}
use Rattle.std.proofs.lemmas.Bool.{cond-true, cond-false}
use Rattle.mips_table.specs.Code.{put}

pub put_same : (m : ℕ → ℕ) (a v x : ℕ) → x ≡ a → put m a v x ≡ v
put_same m a v x e = cond-true _ v (m x) (eq-eqb x a e)

pub put_other : (m : ℕ → ℕ) (a v x : ℕ) → x ≢ a → put m a v x ≡ m x
put_other m a v x ne = cond-false _ v (m x) (ne_eqb x a ne)
