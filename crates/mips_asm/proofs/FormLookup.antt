-- Looking a form up.
use Rattle.std.proofs.Common.{◌≡◌, ℕ, Bool, true, false, cond, List, [], ◌∷◌, Option, Some, None, refl, find, map, bytes_eq, lit<, lit≤, sym, subst}
use Rattle.std.specs.Prelude.{option_map, IfSome}
use Rattle.std.specs.List.{AllByRecursion}
use Rattle.mips_table.specs.Encoding.{InRange}
use Rattle.mips_table.specs.Rows.{mnemonic_of}
use Rattle.mips_asm.specs.declared.form.Form.{Form as CodeForm}
use Rattle.mips_asm.specs.Form.{Form, forms, form_of}
use Rattle.mips_asm.specs.View.{code_form_view}

cond_map : {X Y : Type 0} (v : X → Y) (b : Bool) (x : X) (o : Option X) → option_map v (cond b (Some x) o) ≡ cond b (Some (v x)) (option_map v o)
cond_map v true x o = refl
cond_map v false x o = refl

pub find_viewed : {X Y : Type 0} (v : X → Y) (p : Y → Bool) (xs : List X) → option_map v (find (λ x. p (v x)) xs) ≡ find p (map v xs)
find_viewed v p [] = refl
find_viewed v p (x ∷ xs) = rw (cond_map v (p (v x)) x (find (λ y. p (v y)) xs), find_viewed v p xs) refl

-- what is so of all elements is so of the one that is found
chosen : {X : Type 0} (Q : X → Type 0) (b : Bool) (x y : X) (o : Option X) → cond b (Some y) o ≡ Some x → Q y → (o ≡ Some x → Q x) → Q x
chosen Q true x y o e here more = let same : y ≡ x = cc in subst Q same here
chosen Q false x y o e here more = more e

found_of_all : {X : Type 0} (Q : X → Type 0) (p : X → Bool) (xs : List X) (x : X) → AllByRecursion Q xs → find p xs ≡ Some x → Q x
found_of_all Q p [] x all is = absurd (cc)
found_of_all Q p (y ∷ ys) x all is = chosen Q (p y) x y (find p ys) is all.0 (found_of_all Q p ys x all.1)

-- each form's instruction is in range
all_fit : AllByRecursion (λ (f : Form). InRange f.0) forms
unfolding forms
all_fit = (
  (lit< tt, lit< tt, lit< tt),
  ((
    (lit< tt, lit< tt, lit< tt),
    ((
      (lit< tt, lit< tt, lit< tt),
      ((
        (lit< tt, lit< tt, lit< tt),
        ((
          (lit< tt, lit< tt, lit< tt),
          ((
            (lit< tt, lit< tt, lit< tt),
            ((
              lit< tt,
              ((
                (lit< tt, lit< tt),
                ((
                  lit< tt,
                  ((
                    (lit< tt, lit< tt, lit< tt),
                    ((
                      (lit< tt, lit< tt, lit< tt),
                      ((
                        (lit< tt, lit< tt, lit< tt),
                        ((
                          (lit< tt, lit< tt, lit< tt),
                          ((
                            (lit< tt, lit< tt, lit< tt),
                            ((
                              (lit< tt, lit< tt, lit< tt),
                              ((
                                (lit< tt, lit< tt, lit< tt),
                                ((
                                  (lit< tt, lit< tt, lit< tt),
                                  ((
                                    (lit< tt, lit< tt, lit< tt),
                                    ((
                                      (lit< tt, lit< tt, lit< tt),
                                      ((
                                        (lit< tt, lit< tt),
                                        ((
                                          (lit< tt, lit< tt),
                                          ((
                                            lit< tt,
                                            ((
                                              lit< tt,
                                              ((
                                                (lit< tt, lit< tt, lit< tt),
                                                ((
                                                  (lit< tt, lit< tt, lit< tt),
                                                  ((
                                                    (lit< tt, lit< tt),
                                                    ((
                                                      (lit< tt, lit< tt),
                                                      ((
                                                        (lit< tt, lit< tt, lit< tt),
                                                        ((
                                                          (lit< tt, lit< tt, lit< tt),
                                                          ((
                                                            (lit< tt, lit< tt, lit< tt),
                                                            ((
                                                              (lit< tt, lit< tt, lit< tt),
                                                              ((
                                                                (lit< tt, lit< tt, lit< tt),
                                                                ((
                                                                  (lit< tt, lit< tt, lit< tt),
                                                                  ((
                                                                    (lit< tt, lit< tt, lit< tt),
                                                                    ((
                                                                      (lit< tt, lit< tt),
                                                                      ((
                                                                        (lit< tt, lit≤ tt),
                                                                        ((
                                                                          (lit< tt, lit≤ tt),
                                                                          ((
                                                                            tt,
                                                                            ((
                                                                              (lit< tt, lit< tt, lit< tt),
                                                                              ((
                                                                                (lit< tt, lit< tt, lit< tt),
                                                                                ((
                                                                                  (lit< tt, lit< tt),
                                                                                  ((
                                                                                    (lit< tt, lit< tt),
                                                                                    ((
                                                                                      (lit< tt, lit< tt),
                                                                                      ((
                                                                                        (lit< tt, lit< tt),
                                                                                        ((
                                                                                          lit< tt,
                                                                                          ((
                                                                                            lit< tt,
                                                                                            ((
                                                                                              lit< tt,
                                                                                              (
                                                                                                  (lit< tt, tt)),
                                                                                            )),
                                                                                          )),
                                                                                        )),
                                                                                      )),
                                                                                    )),
                                                                                  )),
                                                                                )),
                                                                              )),
                                                                            )),
                                                                          )),
                                                                        )),
                                                                      )),
                                                                    )),
                                                                  )),
                                                                )),
                                                              )),
                                                            )),
                                                          )),
                                                        )),
                                                      )),
                                                    )),
                                                  )),
                                                )),
                                              )),
                                            )),
                                          )),
                                        )),
                                      )),
                                    )),
                                  )),
                                )),
                              )),
                            )),
                          )),
                        )),
                      )),
                    )),
                  )),
                )),
              )),
            )),
          )),
        )),
      )),
    )),
  )),
)

pub found_fits : (name : List ℕ) (o : Option CodeForm) → option_map code_form_view o ≡ form_of name → IfSome o (λ f. InRange f.inst)
unfolding form_of
found_fits name None e = tt
found_fits name (Some f) e = found_of_all (λ (g : Form). InRange g.0) (λ (g : Form). bytes_eq (mnemonic_of g.0) name) forms (code_form_view f) all_fit (sym e)
