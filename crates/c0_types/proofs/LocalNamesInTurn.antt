-- The names of parameters and locals, as they are declared one list after the other.
use Rattle.std.proofs.Common.{◌≡◌, ℕ, suc, ◌+◌, Bool, true, false, ◌||◌, cond, List, [], ◌∷◌, ◌++◌, length, map, Option, Some, None, is_some, refl, sym, ap, ◌∙◌, bytes_eq, arith}
use Rattle.std.proofs.lemmas.List.{append_assoc, append-nil, map-append}
use Rattle.std.specs.Option.{option_map, option_or}
use Rattle.c0_tree.specs.Tree.{CName, CDecl}
use Rattle.c0_meaning.specs.Env.{first_named}
use Rattle.c0_meaning.specs.Fault.{Fault, fault, NAME_TWICE, kept_all}
use Rattle.c0_meaning.specs.Names.{is_among, twice_faults, decl_name_faults}
use Rattle.c0_name_check.specs.Names.{number_named}
use Rattle.c0_name_check.specs.Spaces.{twice_by, TwiceByTestIsTwice}
use Rattle.c0_name_check.proofs.FaultsMet.{two_met}

module _ {A : Type 0} (name : A → List ℕ) (text : List ℕ) where
  -- the number of a name in two lists, one after the other
  pub number_of_two : (k : ℕ) (xs ys : List A)
      → number_named name text k (xs ++ ys) ≡ option_or (number_named name text k xs) (number_named name text (k + length xs) ys)
  number_of_two k [] ys = let e : k + 0 ≡ k = omega arith in ap (λ (n : ℕ). number_named name text n ys) (sym e)
  number_of_two k (x ∷ xs) ys =
      let later : suc k + length xs ≡ k + suc (length xs) = omega arith in
      by_test (bytes_eq (name x) text)
      (number_of_two (suc k) xs ys ∙ ap (λ (n : ℕ). option_or (number_named name text (suc k) xs) (number_named name text n ys)) later)
    where
      by_test : (b : Bool)
          → number_named name text (suc k) (xs ++ ys) ≡ option_or (number_named name text (suc k) xs) (number_named name text (k + suc (length xs)) ys)
          → option_map (λ (found : ℕ × A). found.0) (cond b (Some (k, x)) (first_named name text (suc k) (xs ++ ys)))
          ≡ option_or (option_map (λ (found : ℕ × A). found.0) (cond b (Some (k, x)) (first_named name text (suc k) xs))) (number_named name text (k + suc (length xs)) ys)
      by_test true h = refl
      by_test false h = h

  -- a name has a number where it is among the names
  pub numbered_is_among : (k : ℕ) (xs : List A) → is_some (number_named name text k xs) ≡ is_among (map name xs) text
  numbered_is_among k [] = refl
  numbered_is_among k (x ∷ xs) = by_test (bytes_eq (name x) text) (numbered_is_among (suc k) xs)
    where
      by_test : (b : Bool) → is_some (number_named name text (suc k) xs) ≡ is_among (map name xs) text
          → is_some (option_map (λ (found : ℕ × A). found.0) (cond b (Some (k, x)) (first_named name text (suc k) xs)))
          ≡ (b || is_among (map name xs) text)
      by_test true h = refl
      by_test false h = h

-- the names of two lists that are set twice
pub twice-append : (before : List (List ℕ)) (xs ys : List CName)
    → twice_faults before (xs ++ ys) ≡ twice_faults before xs ++ twice_faults (before ++ map (λ x. x.text) xs) ys
twice-append before [] ys = ap (λ (b : List (List ℕ)). twice_faults b ys) (sym (append-nil before))
twice-append before (x ∷ xs) ys =
    let here : List Fault = cond (is_among before x.text) (fault NAME_TWICE x.span ∷ []) [] in
    ap (λ (fs : List Fault). here ++ fs) (twice-append (before ++ x.text ∷ []) xs ys)
    ∙ (sym (append_assoc here (twice_faults (before ++ x.text ∷ []) xs) (twice_faults ((before ++ x.text ∷ []) ++ map (λ x. x.text) xs) ys))
    ∙ ap (λ (b : List (List ℕ)). (here ++ twice_faults (before ++ x.text ∷ []) xs) ++ twice_faults b ys)
    (append_assoc before (x.text ∷ []) (map (λ x. x.text) xs)))

texts_of_names : (ds : List CDecl) → map (λ x. x.text) (map (λ d. d.name) ds) ≡ map (λ d. d.name.text) ds
texts_of_names [] = refl
texts_of_names (d ∷ ds) = ap (λ (l : List (List ℕ)). d.name.text ∷ l) (texts_of_names ds)

-- what parameters and then locals leave of the names that are met: those that are set twice in both lists together
pub both_met : TwiceByTestIsTwice → (look0 look1 : List ℕ → Option ℕ) (ps ls : List CDecl) (m m1 m2 : Option Fault)
    → ((q : List ℕ) → look0 q ≡ None)
    → ((q : List ℕ) → look1 q ≡ option_or (look0 q) (number_named (λ d. d.name.text) q 0 ps))
    → m1 ≡ kept_all m (twice_by (λ q. is_some (look0 q)) (map (λ d. d.name) ps))
    → m2 ≡ kept_all m1 (twice_by (λ q. is_some (look1 q)) (map (λ d. d.name) ls))
    → m2 ≡ kept_all m (decl_name_faults (ps ++ ls))
both_met law look0 look1 ps ls m m1 m2 none told first second =
    let ns : List CName = map (λ d. d.name) ps in
    let ms : List CName = map (λ d. d.name) ls in
    let texts : List (List ℕ) = map (λ x. x.text) ns in
    let one : twice_by (λ q. is_some (look0 q)) ns ≡ twice_faults [] ns = law [] ns (λ q. is_some (look0 q)) (λ q. ap is_some (none q)) in
    let two : twice_by (λ q. is_some (look1 q)) ms ≡ twice_faults texts ms =
    law texts ms (λ q. is_some (look1 q)) (λ q. ap is_some (told q ∙ ap (λ (o : Option ℕ). option_or o (number_named (λ d. d.name.text) q 0 ps)) (none q))
    ∙ (numbered_is_among (λ d. d.name.text) q 0 ps ∙ ap (λ (l : List (List ℕ)). is_among l q) (sym (texts_of_names ps)))) in
    two_met m m1 m2 (twice_faults [] ns) (twice_faults texts ms) (first ∙ ap (kept_all m) one) (second ∙ ap (kept_all m1) two)
    ∙ ap (kept_all m) (sym (twice-append [] ns ms) ∙ ap (twice_faults []) (sym (map-append (λ d. d.name) ps ls)))

-- the number of a name, as the maps tell it after both lists
pub both_told : (look0 look1 look2 : List ℕ → Option ℕ) (ps ls : List CDecl) (count : ℕ) → count ≡ length ps
    → ((q : List ℕ) → look0 q ≡ None)
    → ((q : List ℕ) → look1 q ≡ option_or (look0 q) (number_named (λ d. d.name.text) q 0 ps))
    → ((q : List ℕ) → look2 q ≡ option_or (look1 q) (number_named (λ d. d.name.text) q count ls))
    → (q : List ℕ) → look2 q ≡ number_named (λ d. d.name.text) q 0 (ps ++ ls)
both_told look0 look1 look2 ps ls count counted none first second q =
    second q
    ∙ (ap (λ (o : Option ℕ). option_or o (number_named (λ d. d.name.text) q count ls)) (first q ∙ ap (λ (o : Option ℕ). option_or o (number_named (λ d. d.name.text) q 0 ps)) (none q))
    ∙ (ap (λ (k : ℕ). option_or (number_named (λ d. d.name.text) q 0 ps) (number_named (λ d. d.name.text) q k ls)) (counted ∙ sym (zero_more (length ps)))
    ∙ sym (number_of_two (λ d. d.name.text) q 0 ps ls)))
  where
    zero_more : (n : ℕ) → 0 + n ≡ n
    zero_more n = omega arith
