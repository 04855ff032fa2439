-- The row of a global, in three parts.
use Rattle.std.proofs.Common.{◌≡◌, ◌≢◌, ℕ, List, [], ◌∷◌, ◌++◌, Bool, true, false, length, codes, ne_eqb, append_assoc, refl, sym, ap, ◌∙◌}
use Rattle.std.specs.Prelude.{◌==◌}
use Rattle.std.specs.Prelude.{if◌then◌else◌}
use Rattle.std.specs.Int.{w32}
use Rattle.std.specs.Fmt.{signed_decimal}
use Rattle.std.proofs.lemmas.Int.{to_z-of_z}
use Rattle.c0_meaning.specs.Ty as ty
use Rattle.c0_meaning.specs.Value as value
use Rattle.boot_report.specs.Globals.{named_row, GlobalsTell}

pub row_is : (name end : List ℕ) → end ≢ [] → codes "global " ++ name ++ end ≡ named_row name end
row_is name [] ne = absurd (ne refl)
row_is name (b ∷ end) ne = refl

-- a list with an element is not empty
pub not_empty : (xs : List ℕ) (b : Bool) → b ≡ (length xs == 0) → b ≡ false → xs ≢ []
not_empty xs b h e f = absurd (let g : b ≡ true = h ∙ ap (λ l. length l == 0) f in let k : true ≡ false = sym g ∙ e in cc)

-- a row whose end begins with a space
spaced : (name end : List ℕ) → codes "global " ++ name ++ 32 ∷ (end ++ 10 ∷ []) ≡ codes "global " ++ name ++ 32 ∷ end ++ 10 ∷ []
spaced name end = sym (append_assoc (codes "global " ++ name) (32 ∷ end) (10 ∷ []))

pub globals_tell : GlobalsTell
globals_tell structs layout ty.int (value.int z) name address fits far =
    ap (λ n. codes "global " ++ name ++ 32 ∷ (signed_decimal n ++ 10 ∷ [])) (to_z-of_z w32 z fits) ∙ spaced name (signed_decimal z)
globals_tell structs layout ty.bool (value.bool true) name address fits far = refl
globals_tell structs layout ty.bool (value.bool false) name address fits far = refl
globals_tell structs layout (ty.pointer t) value.null name address fits far = refl
globals_tell structs layout (ty.pointer t) (value.at l) name address fits far =
    ap (λ (b : Bool). named_row name (if b then codes " null\n" else codes " set\n")) (ne_eqb (address l) 0 (far l t fits))
globals_tell structs layout (ty.named x) (value.group vs) name address fits far = refl
globals_tell structs layout (ty.array t n) (value.group vs) name address fits far = refl
globals_tell structs layout t v name address fits far = absurd fits
