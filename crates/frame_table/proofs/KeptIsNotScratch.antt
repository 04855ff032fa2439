-- What is kept isn't scratch.
use Rattle.std.proofs.Common.{◌≡◌, ℕ, ◌-◌, true, false, nat_lt, ◌∙◌, ⊎_elim, arith, lt-ltb, le-ltb}
use Rattle.std.proofs.lemmas.Bool.{cond-true, cond-false}
use Rattle.frame_table.specs.View.{LeftByEviction, scratch}

pub kept_out : (x : ℕ) → LeftByEviction x → scratch x ≡ false
kept_out x o = ⊎_elim
    (λ h. let h0 = h.0 in let h1 = h.1 in cond-false (nat_lt x 13) true _ (le-ltb x 13 (omega arith)) ∙ cond-true (nat_lt x 17) false _ (lt-ltb x 17 h1))
    (λ h. cond-false (nat_lt x 13) true _ (le-ltb x 13 (omega arith)) ∙ cond-false (nat_lt x 17) false _ (le-ltb x 17 (omega arith)) ∙ le-ltb x 26 (omega arith))
    o
