-- Scripts of steps with a text behind each, which need not be put.
use Rattle.std.proofs.Common.{ℕ, zero, suc, ◌≤◌, List, [], ◌∷◌, ◌++◌, Option, Some, None, refl, sym, ◌∙◌, arith}
use Rattle.cvm_outside.specs.Outside.{Outside}
use Rattle.cvm_outside.specs.Script.{Call, Printed, Who, Performs, done, goes_on, scripts}
use Rattle.cvm_outside.proofs.ScriptsFollow.{both, first}
use Rattle.cvm_outside.proofs.RowsPut.{same_script, scripts-none, scripts-suc}
use Rattle.boot_turns.specs.LoopScripts.{InSteps}

-- of two scripts that are done the first is, and then the second
halves : (a b : List Call) (old new : Outside) → Performs (a ++ b) old new None → (mid : Outside) × Performs a old mid None × Performs b mid new None
halves [] b old new p = (old, done old, p)
halves (c ∷ a) b old new (goes_on _ _ _ mid _ _ d p) = let w = halves a b mid new p in (w.0, goes_on c a old mid w.0 None d w.1, w.2)

-- a text of which nothing is put
no_text : (at : Outside) → Performs (Printed None ∷ []) at at None
no_text at = goes_on (Printed None) [] at at at None (tt, refl) (done at)

with_text : (a : List Call) (old new : Outside) (blamed : Option Who) → Performs a old new blamed → Performs (a ++ Printed None ∷ []) old new blamed
with_text a old new None p = both a (Printed None ∷ []) old new new None p (no_text new)
with_text a old new (Some whom) p = first a (Printed None ∷ []) old new whom p

-- a text behind each part
abbrev texted : (ℕ → List Call) → (n : ℕ) → List Call
texted f n = scripts (λ i. f i ++ Printed None ∷ []) n

-- they are done where the parts are
done_texts : (f : ℕ → List Call) (n : ℕ) (old new : Outside) → Performs (scripts f n) old new None → Performs (texted f n) old new None
done_texts f zero old new p = same_script (scripts f 0) (texted f 0) old new None (scripts-none f ∙ sym (scripts-none (λ i. f i ++ Printed None ∷ []))) p
done_texts f (suc n) old new p =
    let w = halves (scripts f n) (f n) old new (same_script (scripts f (suc n)) (scripts f n ++ f n) old new None (scripts-suc f n) p) in
    same_script (texted f n ++ (f n ++ Printed None ∷ [])) (texted f (suc n)) old new None (sym (scripts-suc (λ i. f i ++ Printed None ∷ []) n))
    (both (texted f n) (f n ++ Printed None ∷ []) old w.0 new None (done_texts f n old w.0 w.1) (with_text (f n) w.0 new None w.2))

-- so steps are made
pub each_text : (f : ℕ → List Call) (n : ℕ) (old new : Outside) (blamed : Option Who) → InSteps f n old new blamed → InSteps (λ i. f i ++ Printed None ∷ []) n old new blamed
each_text f zero old new blamed made = made
each_text f (suc n) old new blamed (mid, before, last) = (mid, done_texts f n old mid before, with_text (f n) mid new blamed last)

-- and the text behind the last of them may be put, or cut off
pub last_text : (f : ℕ → List Call) (n : ℕ) (old mid new : Outside) (blamed : Option Who) → 1 ≤ n → InSteps f n old mid None → Performs (Printed None ∷ []) mid new blamed → InSteps (λ i. f i ++ Printed None ∷ []) n old new blamed
last_text f zero old mid new blamed some made put = absurd (omega (arith, some))
last_text f (suc n) old mid new blamed some (here, before, last) put = (here, done_texts f n old here before, both (f n) (Printed None ∷ []) here mid new blamed last put)
