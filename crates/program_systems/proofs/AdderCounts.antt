-- The steps of the programs' images are counted: each count computes, in parts.
use Rattle.std.proofs.Common.{◌≡◌, ℕ, List, [], ◌∷◌, Some, refl, arith}
use Rattle.mips_table.specs.Flat.{Flat}
use Rattle.cvm_model.specs.Cvm.{first_flat}
use Rattle.user_c0.specs.Image.{image_words}
use Rattle.program_systems.specs.Adders.{adder, AddersAreCounted}
use Rattle.program_systems.specs.Counts.{TrapsThrough, steps_below, CountsTell}
use Rattle.program_systems.proofs.StepsOverParts.{counted_apart}

ten : (x : ℕ) → steps_below 133 (first_flat (image_words (adder 10))) (x ∷ []) ≡ Some (120 ∷ 7 ∷ [])
ten x = counted_apart 16384 19456 133 (first_flat (image_words (adder 10))) (x ∷ []) (120 ∷ 7 ∷ []) refl (omega arith) refl

twenty : (x : ℕ) → steps_below 233 (first_flat (image_words (adder 20))) (x ∷ []) ≡ Some (220 ∷ 7 ∷ [])
twenty x = counted_apart 16384 19456 233 (first_flat (image_words (adder 20))) (x ∷ []) (220 ∷ 7 ∷ []) refl (omega arith) refl

-- over any machine, whose steps aren't made here
through : CountsTell → (f : Flat) (k : ℕ) (answers steps : List ℕ) → steps_below k f answers ≡ Some steps → TrapsThrough f answers steps
through tell f k answers steps counts = tell.traps f answers steps (record { below = k; counts = counts })

pub adders_are_counted : CountsTell → AddersAreCounted
adders_are_counted tell = record {
  ten = λ x. through tell (first_flat (image_words (adder 10))) 133 (x ∷ []) (120 ∷ 7 ∷ []) (ten x);
  twenty = λ x. through tell (first_flat (image_words (adder 20))) 233 (x ∷ []) (220 ∷ 7 ∷ []) (twenty x);
}
