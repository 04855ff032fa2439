-- What is typed by numbers names types of few words in `new`.
use Rattle.std.proofs.Common.{◌≡◌, ℕ, zero, suc, List, [], ◌∷◌, ◌++◌, subst, arith}
use Rattle.std.specs.Prelude.{Some, slice_get}
use Rattle.std.specs.List.{All}
use Rattle.c0_tree.specs.Tree.{CStmt, CStmts, CBody, code, asm}
use Rattle.c0_meaning.specs.Ty.{ty_of}
use Rattle.c0_meaning.specs.Env.{Env, env_of}
use Rattle.c0_meaning.specs.Limits.{locals_of}
use Rattle.c0_meaning.specs.Numbered.{IsNumbered, an_assignment, a_call, an_object, a_choice, a_loop, AreNumbered, no_statement, a_statement, IsNumberedBody, NumbersTell}
use Rattle.c0_typed.specs.Sized.{IsSizedStmt, AreSizedStmts, IsSizedBody, BodiesAreSized}

module _ (env : Env) where
  mutual
    sized : (s : CStmt) → IsNumbered env s → IsSizedStmt env.structs s
    sized _ (an_assignment left given room) = tt
    sized _ (a_call found left given room) = tt
    sized _ (an_object left declared resolved room) = record { resolved = resolved; small = declared.small }
    sized _ (a_choice {a = a} {b = b} test first second) = (all_sized a first, all_sized b second)
    sized _ (a_loop {b = b} test body) = all_sized b body

    all_sized : (ss : CStmts) → AreNumbered env ss → AreSizedStmts env.structs ss
    all_sized _ no_statement = tt
    all_sized _ (a_statement {s} {rest} h hs) = (sized s h, all_sized rest hs)

  body_sized : (t : _) (b : CBody) → IsNumberedBody env t b → IsSizedBody env.structs b
  body_sized t (code locals stmts answer) h = all_sized stmts h.0
  body_sized t (asm text span words) h = tt

some_same : {B : Type 0} (x y : B) → Some x ≡ Some y → x ≡ y
some_same x y h = cc

-- what holds of all holds of the one of a number
pub element_of_all : {A : Type 0} (P : A → Type 0) (xs : List A) (n : ℕ) (x : A) → All P xs → slice_get xs n ≡ Some x → P x
element_of_all P [] n x h e = cc
element_of_all P (y ∷ xs) zero x h e = subst P (some_same y x e) (h 0 y (omega arith))
element_of_all P (y ∷ xs) (suc n) x h e = element_of_all P xs n x (λ i d below. h (suc i) d (omega arith)) e

pub bodies_sized : NumbersTell → BodiesAreSized
bodies_sized tells primitives u well n f is =
    body_sized (env_of primitives u (f.params ++ locals_of f.body)) (ty_of f.answer) f.body
    (element_of_all (λ g. IsNumberedBody (env_of primitives u (g.params ++ locals_of g.body)) (ty_of g.answer) g.body) u.functions n f (tells primitives u well) is)
