-- What an expression followed and what a test told says nothing of registers.
use Rattle.std.proofs.Common.{ℕ, Bool, true, false, cond, ◌&&◌, not, Option, Some, None, refl, ◌∙◌}
use Rattle.c0_typed.specs.Tree.{TExpr, global, local, part, element, target, constant, address, negative, negation, plain, quotient, remainder, both, either}
use Rattle.c0_expr_code.specs.declared.facts.Facts.{Facts}
use Rattle.c0_expr_code.specs.Facts.{variable_in, with_sure, facts_followed, is_zero, tells_difference, facts_told, HaveSameRegisters}

same_on : (f g h : Facts) → HaveSameRegisters f g → HaveSameRegisters g h → HaveSameRegisters f h
same_on f g h a b = record { params = a.params ∙ b.params; answer = a.answer ∙ b.answer }

same_all : (f : Facts) → HaveSameRegisters f f
same_all f = record { params = refl; answer = refl }

with_same : (f : Facts) (o : Option ℕ) → HaveSameRegisters (with_sure f o) f
with_same f None = same_all f
with_same f (Some n) = record { params = refl; answer = refl }

pub followed_same : (e : TExpr) (f : Facts) → HaveSameRegisters (facts_followed e f) f
followed_same (global k) f = same_all f
followed_same (local n w) f = same_all f
followed_same (part p k) f = followed_same p f
followed_same (element p i x) f = same_on _ (facts_followed p f) f (followed_same i (facts_followed p f)) (followed_same p f)
followed_same (target p) f = same_on _ (facts_followed p f) f (with_same (facts_followed p f) (variable_in p)) (followed_same p f)
followed_same (constant k) f = same_all f
followed_same (address p) f = followed_same p f
followed_same (negative e) f = followed_same e f
followed_same (negation e) f = followed_same e f
followed_same (plain o a b) f = same_on _ (facts_followed a f) f (followed_same b (facts_followed a f)) (followed_same a f)
followed_same (quotient a b) f = same_on _ (facts_followed a f) f (followed_same b (facts_followed a f)) (followed_same a f)
followed_same (remainder a b) f = same_on _ (facts_followed a f) f (followed_same b (facts_followed a f)) (followed_same a f)
followed_same (both a b) f = followed_same a f
followed_same (either a b) f = followed_same a f

either_same : (b : Bool) (f g h : Facts) → HaveSameRegisters f h → HaveSameRegisters g h → HaveSameRegisters (cond b f g) h
either_same true f g h x y = x
either_same false f g h x y = y

pub told_same : (e : TExpr) (b : Bool) (f : Facts) → HaveSameRegisters (facts_told e b f) f
told_same (negation e) b f = told_same e (not b) f
told_same (plain o a c) b f =
    let h = followed_same (plain o a c) f in
    either_same (tells_difference o b && is_zero c) _ _ f (same_on _ (facts_followed c (facts_followed a f)) f (with_same (facts_followed c (facts_followed a f)) (variable_in a)) h) h
told_same (both a c) b f = either_same b _ _ f (same_on _ (facts_told a true f) f (told_same c true (facts_told a true f)) (told_same a true f)) (followed_same a f)
told_same (either a c) b f = either_same b _ _ f (followed_same a f) (same_on _ (facts_told a false f) f (told_same c false (facts_told a false f)) (told_same a false f))
told_same (global k) b f = same_all f
told_same (local n w) b f = same_all f
told_same (part p k) b f = followed_same (part p k) f
told_same (element p i x) b f = followed_same (element p i x) f
told_same (target p) b f = followed_same (target p) f
told_same (constant k) b f = same_all f
told_same (address p) b f = followed_same (address p) f
told_same (negative e) b f = followed_same (negative e) f
told_same (quotient a c) b f = followed_same (quotient a c) f
told_same (remainder a c) b f = followed_same (remainder a c) f
