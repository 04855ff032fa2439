-- What a kernel puts into a register of a user, the user finds, and `vm_set` changes nothing else.
use Rattle.std.proofs.Common.{◌≡◌, ◌≢◌, ℕ, ◌-◌, ◌<◌, length, ap, ◌∙◌, arith}
use Rattle.std.specs.Prelude.{if◌then◌else◌, slice_index, slice_set}
use Rattle.std.specs.Int.{cast_unsigned, w32}
use Rattle.std.proofs.lemmas.Bool.{ne_eqb}
use Rattle.std.proofs.lemmas.Int.{to_z-of_z}
use Rattle.std.proofs.lemmas.List.{length-set, get_or-set_same, get_or-set_other}
use Rattle.mips_table.specs.Arith.{signed}
use Rattle.mips_table.specs.Flat.{Flat}
use Rattle.cvm_model.specs.Primitives.{user_of, with_register, no_flat}
use Rattle.kernel_theorems.specs.Registers.{SetsAreFound}

set_register : (f : Flat) (r v : ℕ) → r < 32 → with_register f r v ≡ record f { cpu = record f.cpu { regs = slice_set f.cpu.regs r v } }
set_register f r v room =
    let other : r ≢ 32 = λ e. omega (arith, e) in
    ap (λ b. record f { cpu = if b then record f.cpu { pc = v } else record f.cpu { regs = slice_set f.cpu.regs r v } }) (ne_eqb r 32 other)

pub sets_are_found : SetsAreFound
sets_are_found us o u r a e some few room regs fits =
    let word : ℕ = cast_unsigned w32 a in
    let f : Flat = user_of us u in
    let set : Flat = with_register f r word in
    let there : user_of o.users u ≡ record f { cpu = record f.cpu { regs = slice_set f.cpu.regs r word } } =
    ap (λ xs. user_of xs u) e ∙ get_or-set_same us (u - 1) set no_flat (omega arith) ∙ set_register f r word room in
    record {
      found = ap (λ (x : Flat). signed (slice_index x.cpu.regs r)) there ∙ ap signed (get_or-set_same f.cpu.regs r word 0 (omega arith)) ∙ to_z-of_z w32 a fits;
      same = λ s other. ap (λ (x : Flat). slice_index x.cpu.regs s) there ∙ get_or-set_other f.cpu.regs r s word 0 other;
      others = λ v is other. ap (λ xs. user_of xs v) e ∙ get_or-set_other us (u - 1) (v - 1) set no_flat (λ h. other (omega arith));
      count = ap length e ∙ length-set us (u - 1) set;
      long = ap (λ (x : Flat). length x.cpu.regs) there ∙ length-set f.cpu.regs r word ∙ regs;
    }
