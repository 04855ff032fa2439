-- Texts that are put one after another.
use Rattle.std.proofs.Common.{◌≡◌, ℕ, zero, suc, ◌+◌, ◌-◌, ◌*◌, ◌<◌, List, [], ◌++◌, Option, Some, None, refl, sym, ap, ap₂, ◌∙◌, arith, append-nil, append_assoc}
use Rattle.cvm_outside.specs.Outside.{Output}
use Rattle.cvm_outside.specs.Script.{Puts, Who}
use Rattle.cvm_outside.proofs.RowsPut.{puts_none, puts_both, puts_first, puts_same}
use Rattle.boot_report.specs.Texts.{texts}

-- the texts of no number, and of one more
pub texts-none : (f : ℕ → List ℕ) → texts f 0 ≡ []
unfolding texts
texts-none f = refl

pub texts-suc : (f : ℕ → List ℕ) (n : ℕ) → texts f (suc n) ≡ texts f n ++ f n
unfolding texts
texts-suc f n = refl

-- the texts of m + n numbers
pub texts-add : (f : ℕ → List ℕ) (m n : ℕ) → texts f (m + n) ≡ texts f m ++ texts (λ i. f (m + i)) n
texts-add f m zero = let e : m + 0 ≡ m = omega arith in ap (texts f) e ∙ sym (append-nil (texts f m)) ∙ ap (λ l. texts f m ++ l) (sym (texts-none (λ i. f (m + i))))
texts-add f m (suc n) =
    let e : m + suc n ≡ suc (m + n) = omega arith in
    ap (texts f) e ∙ texts-suc f (m + n) ∙ ap (λ l. l ++ f (m + n)) (texts-add f m n) ∙ append_assoc (texts f m) (texts (λ i. f (m + i)) n) (f (m + n))
    ∙ ap (λ l. texts f m ++ l) (sym (texts-suc (λ i. f (m + i)) n))

-- the texts of n lines of 64 numbers each
pub texts-lines : (f : ℕ → List ℕ) (n : ℕ) → texts (λ l. texts (λ i. f (64 * l + i)) 64) n ≡ texts f (64 * n)
texts-lines f zero = texts-none (λ l. texts (λ i. f (64 * l + i)) 64) ∙ sym (texts-none f)
texts-lines f (suc n) =
    let e : 64 * n + 64 ≡ 64 * suc n = omega arith in
    texts-suc (λ l. texts (λ i. f (64 * l + i)) 64) n ∙ ap (λ t. t ++ texts (λ i. f (64 * n + i)) 64) (texts-lines f n) ∙ sym (texts-add f (64 * n) 64) ∙ ap (texts f) e

-- texts that are empty
pub texts-empty : (f : ℕ → List ℕ) (n : ℕ) → ((i : ℕ) → i < n → f i ≡ []) → texts f n ≡ []
texts-empty f zero h = texts-none f
texts-empty f (suc n) h = texts-suc f n ∙ ap₂ (λ a b. a ++ b) (texts-empty f n (λ i l. h i (omega arith))) (h n (omega arith))

-- equal texts
pub texts-same : (f g : ℕ → List ℕ) (n : ℕ) → ((i : ℕ) → i < n → f i ≡ g i) → texts f n ≡ texts g n
texts-same f g zero h = texts-none f ∙ sym (texts-none g)
texts-same f g (suc n) h = texts-suc f n ∙ ap (λ l. l ++ f n) (texts-same f g n (λ i l. h i (omega arith))) ∙ ap (λ l. texts g n ++ l) (h n (omega arith)) ∙ sym (texts-suc g n)

-- a loop that puts them: none is put, one more is, and the one of a number breaks off
pub rows_none : (f : ℕ → List ℕ) (at : Output) → Puts (texts f 0) at at None
rows_none f at = puts_same [] (texts f 0) at at None (sym (texts-none f)) (puts_none at)

pub rows_more : (f : ℕ → List ℕ) (i j : ℕ) (old mid new : Output) (blamed : Option Who) → j ≡ i + 1 → Puts (texts f i) old mid None → Puts (f i) mid new blamed → Puts (texts f j) old new blamed
rows_more f i j old mid new blamed e p q =
    let d : suc i ≡ j = omega (arith, e) in
    puts_same (texts f i ++ f i) (texts f j) old new blamed (sym (texts-suc f i) ∙ ap (texts f) d) (puts_both (texts f i) (f i) old mid new blamed p q)

pub rows_stop : (f : ℕ → List ℕ) (i n : ℕ) (old mid new : Output) (whom : Who) → i < n → Puts (texts f i) old mid None → Puts (f i) mid new (Some whom) → Puts (texts f n) old new (Some whom)
rows_stop f i n old mid new whom lt p q =
    let d : i + 1 + (n - (i + 1)) ≡ n = omega (arith, lt) in
    puts_same (texts f (i + 1) ++ texts (λ k. f (i + 1 + k)) (n - (i + 1))) (texts f n) old new (Some whom) (sym (texts-add f (i + 1) (n - (i + 1))) ∙ ap (texts f) d)
    (puts_first (texts f (i + 1)) (texts (λ k. f (i + 1 + k)) (n - (i + 1))) old new whom (rows_more f i (i + 1) old mid new (Some whom) refl p q))
