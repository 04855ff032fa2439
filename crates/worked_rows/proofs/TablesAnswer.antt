-- The primitives of the worked rows answer what their table says.
use Rattle.std.proofs.Common.{◌≡◌, ℕ, Some, refl, sym, subst, arith}
use Rattle.std.specs.Prelude.{slice_get, unwrap_or, option_map}
use Rattle.c0_tree.specs.declared.primitive.Scalar.{Scalar}
use Rattle.c0_tree.specs.declared.primitive.Scalar.TheVariants.{Int, Bool as Boolean}
use Rattle.c0_tree.specs.Primitives.{CPrimitive, kernel_primitives}
use Rattle.c0_meaning.specs.Value.{Values}
use Rattle.c0_meaning.specs.TypedState.{IsScalar}
use Rattle.worked_rows.specs.KernelRows.{seven, sevens, SevensFit}

seven_fits : (t : Scalar) → IsScalar t (seven t)
seven_fits Int = record { sfits = omega arith }
seven_fits Boolean = tt

seven_answers : (n : ℕ) (row : CPrimitive) (args : Values) (w : ℕ) → slice_get kernel_primitives n ≡ Some row → IsScalar row.answer (sevens n args w).answer
seven_answers n row args w e = subst (λ o. IsScalar row.answer (seven (unwrap_or (option_map (λ r. r.answer) o) Int))) (sym e) (seven_fits row.answer)

pub sevens_fit : SevensFit
sevens_fit = record { answer = λ n row args w e a r. seven_answers n row args w e; world = λ n row args w e a r. refl }
