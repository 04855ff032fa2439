-- A unit of a kernel or a user program is typed by the rules exactly where no fault stands in it, the missing first function among them.
use Rattle.std.proofs.Common.{◌≡◌, inl, inr, ℕ, zero, suc, Bool, true, false, List, [], ◌∷◌, ◌++◌, length, map, Some, refl, ap, ◌∙◌, arith}
use Rattle.std.specs.Prelude.{not, codes, slice_get, ◌==◌}
use Rattle.std.specs.List.{list_any}
use Rattle.std.specs.Str.{bytes_eq}
use Rattle.std.proofs.lemmas.Bool.{and_parts, and_from, or_cases, or_left, or_right, false≢true, eqb-true}
use Rattle.std.proofs.lemmas.Slice.Eq.{bytes_eq-Decides}
use Rattle.c0_tree.specs.declared.primitive.Program.{Program}
use Rattle.c0_tree.specs.declared.primitive.Program.TheVariants.{Kernel, User}
use Rattle.c0_tree.specs.Primitives.{primitives_of}
use Rattle.c0_tree.specs.Tree.{CDecl, CFunction}
use Rattle.c0_meaning.specs.Ty.{Ty, int, ty_of, same_ty}
use Rattle.c0_meaning.specs.Limits.{is_asm, are_three_ints, is_first, none_first, first_faults, whole_span}
use Rattle.c0_meaning.specs.Typed.{IsFirstFunction, HasFirstFunction, ProgramsAreFaultless}
use Rattle.c0_meaning.specs.Unit.{unit_faults}
use Rattle.c0_meaning.proofs.TypeEquality.{equal-same_ty}
use Rattle.c0_meaning.proofs.WellTypedUnits.{units_are_faultless, nothing_said}
use Rattle.c0_meaning.proofs.WellFormed.{none_in_left, none_in_right, nothing_wrong}

not_false : (b : Bool) → not b ≡ false → b ≡ true
not_false true h = refl
not_false false h = cc

true_not : (b : Bool) → b ≡ true → not b ≡ false
true_not b h = ap not h

false_not : (b : Bool) → not b ≡ true → b ≡ false
false_not true h = cc
false_not false h = refl

three : (a b c : Ty) → a ≡ int → b ≡ int → c ≡ int → a ∷ b ∷ c ∷ [] ≡ int ∷ int ∷ int ∷ []
three a b c p q r = ap (λ t. t ∷ b ∷ c ∷ []) p ∙ (ap (λ t. int ∷ t ∷ c ∷ []) q ∙ ap (λ t. int ∷ int ∷ t ∷ []) r)

ints_three : (ds : List CDecl) → are_three_ints ds ≡ true → map (λ d. ty_of d.ty) ds ≡ int ∷ int ∷ int ∷ []
ints_three [] h = cc
ints_three (a ∷ []) h = cc
ints_three (a ∷ b ∷ []) h = cc
ints_three (a ∷ b ∷ c ∷ []) h =
    let p = and_parts (same_ty (ty_of a.ty) int) _ h in
    let q = and_parts (same_ty (ty_of b.ty) int) (same_ty (ty_of c.ty) int) p.1 in
    three (ty_of a.ty) (ty_of b.ty) (ty_of c.ty) (equal-same_ty (ty_of a.ty) int p.0) (equal-same_ty (ty_of b.ty) int q.0) (equal-same_ty (ty_of c.ty) int q.1)
ints_three (a ∷ b ∷ c ∷ d ∷ rest) h = cc

is_int : (t : Ty) → t ≡ int → same_ty t int ≡ true
is_int t e = ap (λ u. same_ty u int) e

three_ints : (ds : List CDecl) → map (λ d. ty_of d.ty) ds ≡ int ∷ int ∷ int ∷ [] → are_three_ints ds ≡ true
three_ints [] h = cc
three_ints (a ∷ []) h = cc
three_ints (a ∷ b ∷ []) h = cc
three_ints (a ∷ b ∷ c ∷ []) h =
    let p : ty_of a.ty ≡ int = cc in
    let q : ty_of b.ty ≡ int = cc in
    let r : ty_of c.ty ≡ int = cc in
    and_from _ _ (is_int (ty_of a.ty) p) (and_from _ _ (is_int (ty_of b.ty) q) (is_int (ty_of c.ty) r))
three_ints (a ∷ b ∷ c ∷ d ∷ rest) h = cc

no_params : (ds : List CDecl) → (length ds == 0) ≡ true → map (λ d. ty_of d.ty) ds ≡ []
no_params [] h = refl
no_params (d ∷ ds) h = absurd (omega (arith, eqb-true (length (d ∷ ds)) 0 h))

params_none : (ds : List CDecl) → map (λ d. ty_of d.ty) ds ≡ [] → (length ds == 0) ≡ true
params_none [] h = refl
params_none (d ∷ ds) h = cc (h)

tested : (program : Program) (f : CFunction) → is_first program f ≡ true → IsFirstFunction program f
tested Kernel f h =
    let p = and_parts (bytes_eq f.name.text (codes "dispatch")) _ h in
    let q = and_parts (are_three_ints f.params) _ p.1 in
    let r = and_parts (same_ty (ty_of f.answer) int) (not (is_asm f.body)) q.1 in
    record {
      named = (bytes_eq-Decides f.name.text (codes "dispatch")).0 p.0;
      params = ints_three f.params q.0;
      answer = equal-same_ty (ty_of f.answer) int r.0;
      in_code = false_not (is_asm f.body) r.1;
    }
tested User f h =
    let p = and_parts (bytes_eq f.name.text (codes "main")) _ h in
    let q = and_parts (length f.params == 0) _ p.1 in
    let r = and_parts (same_ty (ty_of f.answer) int) (not (is_asm f.body)) q.1 in
    record {
      named = (bytes_eq-Decides f.name.text (codes "main")).0 p.0;
      params = no_params f.params q.0;
      answer = equal-same_ty (ty_of f.answer) int r.0;
      in_code = false_not (is_asm f.body) r.1;
    }

passes : (program : Program) (f : CFunction) → IsFirstFunction program f → is_first program f ≡ true
passes Kernel f d =
    and_from _ _ ((bytes_eq-Decides f.name.text (codes "dispatch")).1 d.named)
    (and_from _ _ (three_ints f.params d.params) (and_from _ _ (is_int (ty_of f.answer) d.answer) (ap not d.in_code)))
passes User f d =
    and_from _ _ ((bytes_eq-Decides f.name.text (codes "main")).1 d.named)
    (and_from _ _ (params_none f.params d.params) (and_from _ _ (is_int (ty_of f.answer) d.answer) (ap not d.in_code)))

found : (program : Program) (fs : List CFunction) → list_any (is_first program) fs ≡ true → HasFirstFunction program fs
found program [] h = absurd (false≢true h)
found program (f ∷ fs) h =
    elim (or_cases (is_first program f) (list_any (is_first program) fs) h) [
      | inl here ↦ record { number = 0; function = f; there = refl; right = tested program f here }
      | inr later ↦ let r = found program fs later in record { number = suc r.number; function = r.function; there = r.there; right = r.right }
    ]

same_function : (f g : CFunction) → Some f ≡ Some g → f ≡ g
same_function f g h = cc

there_is : (program : Program) (fs : List CFunction) (n : ℕ) (f : CFunction) → slice_get fs n ≡ Some f → is_first program f ≡ true → list_any (is_first program) fs ≡ true
there_is program [] n f h p = cc
there_is program (g ∷ fs) zero f h p = or_left _ _ (ap (is_first program) (same_function g f h) ∙ p)
there_is program (g ∷ fs) (suc n) f h p = or_right _ _ (there_is program fs n f h p)

pub programs_are_faultless : ProgramsAreFaultless
programs_are_faultless program u =
    let some = list_any (is_first program) u.functions in (
      λ k.
          ap (λ xs. xs ++ first_faults program u) ((units_are_faultless (primitives_of program) u).0 k.typed)
          ∙ nothing_said (not some) (none_first program) (whole_span u.length)
          (true_not some (there_is program u.functions k.first.number k.first.function k.first.there (passes program k.first.function k.first.right))),
      λ h. record {
        typed = (units_are_faultless (primitives_of program) u).1 (none_in_left (unit_faults (primitives_of program) u) (first_faults program u) h);
        first = found program u.functions (not_false some (nothing_wrong (not some) (none_first program) (whole_span u.length) (none_in_right (unit_faults (primitives_of program) u) (first_faults program u) h)));
      },
    )
