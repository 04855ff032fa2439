-- The programs are computed.
use Rattle.std.specs.Prelude.{ℤ, pos}
use Rattle.std.specs.Int.{int_wrap}
use Rattle.std.proofs.Common.{◌≡◌, [], ◌∷◌, refl}
use Rattle.c0_meaning.specs.UserProgram.{prog, done, not_yet}
use Rattle.program_systems.specs.Adders.{adder, AddersCall}

ten : prog (adder 10) [] 200 ≡ record { arguments = pos 55 ∷ []; ending = not_yet }
unfolding int_wrap
ten = refl

twenty : prog (adder 20) [] 400 ≡ record { arguments = pos 210 ∷ []; ending = not_yet }
unfolding int_wrap
twenty = refl

ten_ends : (x : ℤ) → prog (adder 10) (x ∷ []) 200 ≡ record { arguments = pos 55 ∷ []; ending = done }
unfolding int_wrap
ten_ends x = refl

twenty_ends : (x : ℤ) → prog (adder 20) (x ∷ []) 400 ≡ record { arguments = pos 210 ∷ []; ending = done }
unfolding int_wrap
twenty_ends x = refl

pub adders_call : AddersCall
adders_call = record { ten = ten; twenty = twenty; ten_ends = ten_ends; twenty_ends = twenty_ends }
