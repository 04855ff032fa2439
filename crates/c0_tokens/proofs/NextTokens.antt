-- One token after another: what is left of a source gives its next token and what is left after it.
use Rattle.std.proofs.Common.{◌≡◌, ℕ, suc, ◌+◌, ◌-◌, ◌<◌, ◌≤◌, Bool, true, false, ◌++◌, List, [], ◌∷◌, length, map, refl, ap, sym, ◌∙◌, subst, arith, add-one, true≢false, append_assoc, if◌then◌else◌}
use Rattle.std.proofs.lemmas.List.{map-append}
use Rattle.c0_tokens.specs.Tokens.{CLexeme, name, number, asm_text, fixed, faulty, end, CToken}
use Rattle.c0_tokens.specs.declared.token.TokenFault.TheVariants.{TooNested}
use Rattle.c0_tokens.specs.Lexis.{Cut, longest_token, text_from_token, is_asm_word, is_last, tokens_within}
use Rattle.c0_tokens.specs.Nesting.{Depth, depth_after, at_depth, is_too_nested, nested, opens, closes, ends_run}
use Rattle.c0_tokens.proofs.TokensShorten.{next_cut, next_shorter, next_within, left_within, enough}

-- the tokens of what is left of a source, from a depth on
abbrev pub left : ℕ → Depth → Bool → List ℕ → List CToken
left size d after_asm text = nested d (tokens_within (length text + 1) size after_asm text)

-- a token that nests too deep is the last
choice_last : (b : Bool) (l : CLexeme) → is_last (if b then faulty TooNested else l) ≡ false → is_last l ≡ false
choice_last true l e = absurd (true≢false e)
choice_last false l e = e

-- a token that isn't the last at a depth is not the last without it
pub keeps_last : (d : Depth) (l : CLexeme) → is_last (at_depth d l) ≡ false → is_last l ≡ false
keeps_last d (faulty fault) e = e
keeps_last d (name text) e = refl
keeps_last d (number value) e = refl
keeps_last d (asm_text text) e = refl
keeps_last d (fixed mark) e = refl
keeps_last d end e = choice_last (is_too_nested d end) end e

-- one token: where it stands, and what is left after it
pub record IsStep (size : ℕ) (d : Depth) (after_asm : Bool) (rest text : List ℕ) (c : Cut) (lexeme : CLexeme) : Type 0 where
  pub text_within : length text ≤ length rest
  pub rest_within : length c.rest ≤ length text
  pub shorter : is_last lexeme ≡ false → length c.rest < length rest
  pub last : is_last lexeme ≡ true → left size d after_asm rest ≡ record { lexeme = lexeme; start = size - length text; stop = size - length c.rest } ∷ []
  pub more : is_last lexeme ≡ false → left size d after_asm rest ≡ record { lexeme = lexeme; start = size - length text; stop = size - length c.rest } ∷ left size (depth_after d c.lexeme) (is_asm_word c.lexeme) c.rest

-- the bound on the number of tokens opens
opened : (size : ℕ) (d : Depth) (after_asm : Bool) (rest : List ℕ) → left size d after_asm rest ≡ nested d (tokens_within (suc (length rest)) size after_asm rest)
opened size d after_asm rest = ap (λ n. nested d (tokens_within n size after_asm rest)) (add-one (length rest))

-- the next token of what is left
pub step : (size : ℕ) (d : Depth) (after_asm : Bool) (rest : List ℕ)
    → IsStep size d after_asm rest (text_from_token after_asm rest) (next_cut after_asm rest) (at_depth d (next_cut after_asm rest).lexeme)
step size d after_asm rest =
    let c = next_cut after_asm rest in
    let lexeme = at_depth d c.lexeme in
    record {
      text_within = next_within after_asm rest;
      rest_within = left_within after_asm (text_from_token after_asm rest);
      shorter = λ e. next_shorter after_asm rest (keeps_last d c.lexeme e);
      last = λ e. opened size d after_asm rest ∙ rw e refl;
      more = λ e.
          let plain : is_last c.lexeme ≡ false = keeps_last d c.lexeme e in
          let shorter : length c.rest < length rest = next_shorter after_asm rest plain in
          opened size d after_asm rest
          ∙ rw (e, plain) (ap (λ ts. record { lexeme = lexeme; start = size - length (text_from_token after_asm rest); stop = size - length c.rest } ∷ nested (depth_after d c.lexeme) ts)
          (enough (length rest) (length c.rest + 1) size (is_asm_word c.lexeme) c.rest shorter (omega arith)));
    }

-- what an iteration found: the text from the next token on, the token at its front, and the token as it is read at the depth
pub record IsFound (d : Depth) (after_asm : Bool) (rest text : List ℕ) (c : Cut) (lexeme : CLexeme) : Type 0 where
  pub text_is : text ≡ text_from_token after_asm rest
  pub cut_is : c ≡ longest_token after_asm text
  pub lexeme_is : lexeme ≡ at_depth d c.lexeme

-- what an iteration found is a step
pub found : (size : ℕ) {d : Depth} {after_asm : Bool} {rest text : List ℕ} {c : Cut} {lexeme : CLexeme} → IsFound d after_asm rest text c lexeme → IsStep size d after_asm rest text c lexeme
found size {d} {after_asm} {rest} {text} {c} {lexeme} f =
    subst (λ l. IsStep size d after_asm rest text c l) (sym f.lexeme_is)
    (subst (λ k. IsStep size d after_asm rest text k (at_depth d k.lexeme)) (sym f.cut_is)
    (subst (λ t. IsStep size d after_asm rest t (longest_token after_asm t) (at_depth d (longest_token after_asm t).lexeme)) (sym f.text_is) (step size d after_asm rest)))

-- the token pushed is the first of those that were left
pub pushed : {A : Type 0} (f : A → CToken) (items : List A) (x : A) (more left whole : List CToken) → map f items ++ left ≡ whole → left ≡ f x ∷ more → map f (items ++ x ∷ []) ++ more ≡ whole
pushed f items x more left whole h e =
    ap (λ ts. ts ++ more) (map-append f items (x ∷ [])) ∙ append_assoc (map f items) (f x ∷ []) more ∙ ap (λ ts. map f items ++ ts) (sym e) ∙ h

-- and the last of them
pub pushed_last : {A : Type 0} (f : A → CToken) (items : List A) (x : A) (left whole : List CToken) → map f items ++ left ≡ whole → left ≡ f x ∷ [] → map f (items ++ x ∷ []) ≡ whole
pushed_last f items x left whole h e = map-append f items (x ∷ []) ∙ ap (λ ts. map f items ++ ts) (sym e) ∙ h

choice_below : (b c : Bool) (n : ℕ) → (if b then n + 1 else if c then n - 1 else n) ≤ n + 1
choice_below true c n = omega arith
choice_below false true n = omega arith
choice_below false false n = omega arith

-- a token opens one bracket at most
pub brackets_below : (d : Depth) (l : CLexeme) → (depth_after d l).brackets ≤ d.brackets + 1
brackets_below d l = choice_below (opens l) (closes l) d.brackets

anew_below : (b : Bool) (n : ℕ) → (if b then 0 else n + 1) ≤ n + 1
anew_below true n = omega arith
anew_below false n = omega arith

-- a token makes a run longer by one at most
pub run_below : (d : Depth) (l : CLexeme) → (depth_after d l).run ≤ d.run + 1
run_below d l = anew_below (ends_run l) d.run
