-- The words of a check are those of one.
use Rattle.std.proofs.Common.{◌≡◌, ℕ, ◌≤◌, List, [], ◌∷◌, sym, ap, ◌∙◌, arith, Some}
use Rattle.std.specs.Prelude.{decimal, codes}
use Rattle.run_scripts.specs.Check.{Check, IsCheck}
use Rattle.cvm_shell.proofs.OneNumberSpelled.{same_number}

-- these words, with the number that the third spells, are a check
pub words_of_check : (words : List (List ℕ)) (word object text : List ℕ) (stack : ℕ) → words ≡ word ∷ object ∷ text ∷ [] → word ≡ codes "check" → text ≡ decimal stack → 64 ≤ stack → stack ≤ 262144
    → IsCheck words (record { object = object; stack = stack })
words_of_check words word object text stack e w n least most = record { spelled = cc; least = least; most = most }

-- and no other
pub words_of_one_check : (words : List (List ℕ)) (word object text : List ℕ) (stack : ℕ) → words ≡ word ∷ object ∷ text ∷ [] → text ≡ decimal stack → stack ≤ 262144 → (c : Check) → IsCheck words c
    → Some (record { object = object; stack = stack }) ≡ Some c
words_of_one_check words word object text stack e n most c is =
    let spelled : word ∷ object ∷ text ∷ [] ≡ codes "check" ∷ c.object ∷ decimal c.stack ∷ [] = sym e ∙ is.spelled in
    let o : object ≡ c.object = cc in
    let t : text ≡ decimal c.stack = cc in
    let same : stack ≡ c.stack = same_number text stack c.stack (omega (arith, most)) (omega (arith, is.most)) n t in
    let check_of : List ℕ → ℕ → Check = λ x k. record { object = x; stack = k } in
    ap (λ x. Some (check_of x stack)) o ∙ ap (λ k. Some (check_of c.object k)) same

-- words whose third spells no number of words of stack
pub no_check : (words : List (List ℕ)) (word object text : List ℕ) → words ≡ word ∷ object ∷ text ∷ [] → ((n : ℕ) → 64 ≤ n → n ≤ 262144 → text ≡ decimal n → ⊥) → (c : Check) → IsCheck words c → ⊥
no_check words word object text e none c is =
    let spelled : word ∷ object ∷ text ∷ [] ≡ codes "check" ∷ c.object ∷ decimal c.stack ∷ [] = sym e ∙ is.spelled in
    let t : text ≡ decimal c.stack = cc in
    none c.stack is.least is.most t
