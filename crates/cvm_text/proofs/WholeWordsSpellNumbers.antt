-- A whole word and the number that it spells.
use Rattle.std.proofs.Common.{◌≡◌, ℕ, ◌+◌, ◌<◌, ◌^◌, ◌==◌, Bool, true, false, cond, List, [], ◌∷◌, ◌++◌, length, drop, Option, Some, None, refl, sym, ap, ◌∙◌, append-nil, zero-add, eq-eqb, arith}
use Rattle.std.specs.Prelude.{option_and_then, decimal}
use Rattle.std.proofs.lemmas.Bool.Decides.{nat_tests}
use Rattle.std.proofs.lemmas.List.{drop_all}
use Rattle.cvm_text.specs.Number.{spelled_number_at}
use Rattle.cvm_text.specs.Lines.{number_spelled}
use Rattle.cvm_text.proofs.ReadIsSpelled.{spelled-number_at}
use Rattle.cvm_text.proofs.SpelledIsDecimal.{number_at-decimal}

-- a step that gives something had something before it
had : {X Y : Type 0} (f : X → Option Y) (o : Option X) (y : Y) → option_and_then f o ≡ Some y → (x : X) × (o ≡ Some x) × (f x ≡ Some y)
had f None y e = cc
had f (Some x) y e = (x, refl, e)

-- a choice that gives something was taken
taken : {X : Type 0} (b : Bool) (x y : X) → cond b (Some x) None ≡ Some y → (b ≡ true) × (x ≡ y)
taken true x y e = (refl, cc)
taken false x y e = cc

same_end : (m n : ℕ) → (m == n) ≡ true → m ≡ n
same_end m n e = grind (arith, nat_tests)

-- a number's text spells it
pub whole_read : (n : ℕ) → n < 2 ^ 64 → number_spelled (decimal n) ≡ Some n
whole_read n small =
    ap (λ found. option_and_then (λ (m : ℕ × ℕ). cond (m.1 == length (decimal n)) (Some m.0) None) found) (number_at-decimal (decimal n) 0 n [] small (sym (append-nil (decimal n))) refl)
    ∙ ap (λ b. cond b (Some n) None) (eq-eqb (0 + length (decimal n)) (length (decimal n)) (zero-add (length (decimal n))))

-- a word that spells a number is that number's text
pub whole_spelled : (word : List ℕ) (n : ℕ) → number_spelled word ≡ Some n → (n < 2 ^ 64) × (word ≡ decimal n)
whole_spelled word n e =
    let read = had (λ (m : ℕ × ℕ). cond (m.1 == length word) (Some m.0) None) (spelled_number_at word 0) n e in
    let value = taken (read.0.1 == length word) read.0.0 n read.2 in
    let spelled = spelled-number_at word 0 read.0 read.1 in
    let rest : drop read.0.1 word ≡ [] = drop_all read.0.1 word (omega (arith, same_end _ _ value.0)) in (
      omega (arith, spelled.small, value.1),
      spelled.digits ∙ ap (λ r. decimal read.0.0 ++ r) rest ∙ append-nil (decimal read.0.0) ∙ ap decimal value.1,
    )
