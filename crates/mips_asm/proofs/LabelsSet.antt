-- One more label in the map.
use Rattle.std.proofs.Common.{◌≡◌, ℕ, Bool, true, false, cond, ◌||◌, List, ◌∷◌, Option, Some, None, bytes_eq, refl, ap, sym, ◌∙◌, true≢false}
use mathlib.Core.Path.{fun_ext}
use Rattle.mips_asm.specs.Passes.{repeats_in}
use Rattle.std.specs.Prelude.{is_some}
use Rattle.std.specs.Option.{option_or}

-- a new label
pub set_step : (old new : Option ℕ) (same : Bool) (more : Bool) (at : ℕ) → new ≡ cond same (Some at) old → (same ≡ true → old ≡ None)
    → option_or new (cond more (Some at) None) ≡ option_or old (cond (same || more) (Some at) None)
set_step old new true more at put none = ap (λ o. option_or o (cond more (Some at) None)) put ∙ sym (ap (λ o. option_or o (Some at)) (none refl))
set_step old new false more at put none = ap (λ o. option_or o (cond more (Some at) None)) put

-- one that is set
pub kept_step : (old : Option ℕ) (same : Bool) (more : Bool) (at : ℕ) → (same ≡ true → is_some old ≡ true)
    → option_or old (cond more (Some at) None) ≡ option_or old (cond (same || more) (Some at) None)
kept_step (Some o) same more at some = refl
kept_step None true more at some = absurd (true≢false (sym (some refl)))
kept_step None false more at some = refl

-- a whole line
pub line_step : (old new rest : Option ℕ) (here : Bool) (at : ℕ) → new ≡ option_or old (cond here (Some at) None)
    → option_or new rest ≡ option_or old (cond here (Some at) rest)
line_step (Some o) new rest here at e = ap (λ k. option_or k rest) e
line_step None new rest true at e = ap (λ k. option_or k rest) e
line_step None new rest false at e = ap (λ k. option_or k rest) e

-- what is there after one more label
pub some_put : (old new : Option ℕ) (same : Bool) (at : ℕ) → new ≡ cond same (Some at) old → is_some new ≡ (is_some old || same)
some_put (Some o) new true at put = ap is_some put
some_put (Some o) new false at put = ap is_some put
some_put None new true at put = ap is_some put
some_put None new false at put = ap is_some put

-- a label that was not there before doesn't stand twice by itself
pub twice_new : (t : Bool) (seen new : List ℕ → Bool) (label : List ℕ) (ns ls : List (List ℕ)) → ((q : List ℕ) → new q ≡ (seen q || bytes_eq label q))
    → seen label ≡ false → ls ≡ label ∷ ns → (t || repeats_in new ns) ≡ (t || repeats_in seen ls)
twice_new t seen new label ns ls same fresh is =
    ap (λ s. t || repeats_in s ns) (fun_ext same) ∙ ap (λ b. t || (b || repeats_in (λ q. seen q || bytes_eq label q) ns)) (sym fresh)
    ∙ ap (λ l. t || repeats_in seen l) (sym is)
