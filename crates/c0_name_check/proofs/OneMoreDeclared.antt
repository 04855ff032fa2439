-- One more declaration of a space.
use Rattle.std.proofs.Common.{◌≡◌, ℕ, suc, ◌+◌, Bool, true, false, ◌||◌, cond, List, [], ◌∷◌, ◌++◌, Option, Some, None, is_some, refl, sym, ap, ◌∙◌, add-one}
use Rattle.std.specs.Option.{option_or, option_map}
use Rattle.c0_meaning.specs.Env.{first_named}
use Rattle.std.specs.Str.{bytes_eq}
use mathlib.Core.Path.{fun_ext}
use Rattle.c0_tree.specs.Tree.{CName, CDecl}
use Rattle.c0_meaning.specs.Fault.{Fault, fault, kept_all, NAME_TWICE}
use Rattle.c0_name_check.specs.Names.{number_named}
use Rattle.c0_name_check.specs.Spaces.{twice_by, TwiceByTestIsTwice}
use Rattle.c0_meaning.specs.Names.{is_among}
use Rattle.c0_name_check.proofs.FaultsMet.{kept_all-append}
use Rattle.std.proofs.lemmas.List.Folds.{list_any-append}

numbers_in : (b : Bool) (o : Option ℕ) (n : ℕ) (rest here : Option ℕ) (e : here ≡ cond b (Some n) rest) → option_or (option_or o (cond b (Some n) None)) rest ≡ option_or o here
numbers_in b (Some v) n rest here e = refl
numbers_in true None n rest here e = sym e
numbers_in false None n rest here e = sym e

first_number : (b : Bool) (n : ℕ) (d : CDecl) (rest : Option (ℕ × CDecl)) → option_map (λ f. f.0) (cond b (Some (n, d)) rest) ≡ cond b (Some n) (option_map (λ f. f.0) rest)
first_number true n d rest = refl
first_number false n d rest = refl

-- the numbers of names, one more declaration being set
pub names_step : (old new : Option ℕ) (d : CDecl) (rest : List CDecl) (n : ℕ) (q : List ℕ) → new ≡ option_or old (cond (bytes_eq d.name.text q) (Some n) None) →
    option_or new (number_named (λ e. e.name.text) q (n + 1) rest) ≡ option_or old (number_named (λ e. e.name.text) q n (d ∷ rest))
names_step old new d rest n q e =
    ap (λ (o : Option ℕ). option_or o (number_named (λ e. e.name.text) q (n + 1) rest)) e
    ∙ (ap (λ (k : ℕ). option_or (option_or old (cond (bytes_eq d.name.text q) (Some n) None)) (number_named (λ e. e.name.text) q k rest)) (add-one n)
    ∙ numbers_in (bytes_eq d.name.text q) old n (number_named (λ e. e.name.text) q (suc n) rest) (number_named (λ e. e.name.text) q n (d ∷ rest))
    (first_number (bytes_eq d.name.text q) n d (first_named (λ e. e.name.text) q (suc n) rest)))

seen_more : (old : Option ℕ) (b : Bool) (n : ℕ) → is_some (option_or old (cond b (Some n) None)) ≡ (is_some old || b)
seen_more (Some v) b n = refl
seen_more None true n = refl
seen_more None false n = refl

-- the faults of names, one more declaration being set
pub met_step : (old new : List ℕ → Option ℕ) (x : CName) (rest : List CName) (n : ℕ) (m m' : Option Fault) →
    ((q : List ℕ) → new q ≡ option_or (old q) (cond (bytes_eq x.text q) (Some n) None)) → m' ≡ kept_all m (cond (is_some (old x.text)) (fault NAME_TWICE x.span ∷ []) []) →
    kept_all m' (twice_by (λ q. is_some (new q)) rest) ≡ kept_all m (twice_by (λ q. is_some (old q)) (x ∷ rest))
met_step old new x rest n m m' names e =
    ap (λ (k : Option Fault). kept_all k (twice_by (λ q. is_some (new q)) rest)) e
    ∙ (ap (λ (seen : List ℕ → Bool). kept_all (kept_all m (cond (is_some (old x.text)) (fault NAME_TWICE x.span ∷ []) [])) (twice_by seen rest))
    (fun_ext (λ q. ap is_some (names q) ∙ seen_more (old q) (bytes_eq x.text q) n))
    ∙ sym (kept_all-append m (cond (is_some (old x.text)) (fault NAME_TWICE x.span ∷ []) []) (twice_by (λ q. is_some (old q) || bytes_eq x.text q) rest)))

among_more : (before : List (List ℕ)) (x q : List ℕ) (b : Bool) → b ≡ is_among before q → (b || bytes_eq x q) ≡ is_among (before ++ x ∷ []) q
among_more before x q b e =
    ap (λ (c : Bool). c || bytes_eq x q) e ∙ (ap (λ (c : Bool). is_among before q || c) (sym (or_false (bytes_eq x q))) ∙ sym (list_any-append (λ t. bytes_eq t q) before (x ∷ [])))
  where
    or_false : (c : Bool) → (c || false) ≡ c
    or_false true = refl
    or_false false = refl

pub twice_by_is : TwiceByTestIsTwice
twice_by_is before [] seen h = refl
twice_by_is before (x ∷ rest) seen h =
    ap (λ (b : Bool). cond b (fault NAME_TWICE x.span ∷ []) [] ++ twice_by (λ q. seen q || bytes_eq x.text q) rest) (h x.text)
    ∙ ap (λ (fs : List Fault). cond (is_among before x.text) (fault NAME_TWICE x.span ∷ []) [] ++ fs)
    (twice_by_is (before ++ x.text ∷ []) rest (λ q. seen q || bytes_eq x.text q) (λ q. among_more before x.text q (seen q) (h q)))
