-- Words past the greatest power of two that is told apart.
use Rattle.std.proofs.Common.{◌≡◌, inl, inr, ℕ, ◌<◌, ◌≤◌, min, Bool, true, false, Option, Some, None, refl, sym, ap, ◌∙◌, arith, rules, nat_lt}
use Rattle.std.specs.Prelude.{◌==◌, if◌then◌else◌}
use Rattle.std.proofs.lemmas.Bool.{cases_Bool, ltb-true, ltb-false}
use Rattle.c0_expr_code.specs.Code.{shift_within, POWERS}

skipped : (b : Bool) (x : ℕ) (y : Option ℕ) → b ≡ false → (if b then Some x else y) ≡ y
skipped true x y h = cc
skipped false x y h = refl

differs : (w k : ℕ) → k < w → (w == k) ≡ false
differs w k h = search rules

pub none_past : (w : ℕ) → 1048577 ≤ w → shift_within POWERS w ≡ None
none_past w h =
    skipped (w == 1024) 12 _ (differs w 1024 (omega arith)) ∙ skipped (w == 512) 11 _ (differs w 512 (omega arith)) ∙ skipped (w == 256) 10 _ (differs w 256 (omega arith))
    ∙ skipped (w == 128) 9 _ (differs w 128 (omega arith)) ∙ skipped (w == 64) 8 _ (differs w 64 (omega arith)) ∙ skipped (w == 32) 7 _ (differs w 32 (omega arith))
    ∙ skipped (w == 16) 6 _ (differs w 16 (omega arith)) ∙ skipped (w == 8) 5 _ (differs w 8 (omega arith)) ∙ skipped (w == 4) 4 _ (differs w 4 (omega arith))
    ∙ skipped (w == 2) 3 _ (differs w 2 (omega arith)) ∙ skipped (w == 1) 2 _ (differs w 1 (omega arith))

pub capped_shift : (w : ℕ) → shift_within POWERS (min w 1048577) ≡ shift_within POWERS w
capped_shift w = elim (cases_Bool (nat_lt w 1048577)) [
  | inl e ↦ let l : w < 1048577 = ltb-true w 1048577 e in let m : min w 1048577 ≡ w = omega arith in ap (λ (k : ℕ). shift_within POWERS k) m
  | inr e ↦ let l : 1048577 ≤ w = ltb-false w 1048577 e in let m : min w 1048577 ≡ 1048577 = omega arith in ap (λ (k : ℕ). shift_within POWERS k) m ∙ none_past 1048577 (omega arith) ∙ sym (none_past w l)
]
