-- What users find: the ints in their registers, and which of them made a system call.
use Rattle.std.specs.Prelude.{◌≡◌, ◌≢◌, ◌≤◌, ◌<◌, ◌==◌, ◌&&◌, ℕ, ℤ, Bool, List, length, slice_index, FitsSigned}
use Rattle.std.specs.Int.{cast_unsigned, w32}
use Rattle.mips_table.specs.Arith.{signed}
use Rattle.mips_table.specs.Flat.{Flat}
use Rattle.cvm_model.specs.Kernel.{Core}
use Rattle.cvm_model.specs.Primitives.{user_of, with_user, with_register}
use Rattle.cvm_model.specs.Invariant.{Dispatch}

-- the int in a register of a user
abbrev pub int_held : Core → (user register : ℕ) → ℤ
int_held c user register = signed (slice_index (user_of c.users user).cpu.regs register)

-- whether a dispatch is for a system call of a user
abbrev pub is_call_of : ℕ → Dispatch → Bool
is_call_of user d = d.cause == 6 && d.before.current == user

-- these machines after `vm_set`
abbrev pub set_in : List Flat → (user register : ℕ) → ℤ → List Flat
set_in us user register a = with_user us user (with_register (user_of us user) register (cast_unsigned w32 a))

-- WHAT `vm_set` LEAVES of these machines: the user finds the int in that register, and all else is as it was
pub record IsSet (us : List Flat) (o : Core) (user register : ℕ) (a : ℤ) : Type 0 where
  pub found : int_held o user register ≡ a
  pub same : (r : ℕ) → r ≢ register → slice_index (user_of o.users user).cpu.regs r ≡ slice_index (user_of us user).cpu.regs r
  pub others : (v : ℕ) → 1 ≤ v → v ≢ user → user_of o.users v ≡ user_of us v
  pub count : length o.users ≡ length us
  pub long : length (user_of o.users user).cpu.regs ≡ 32

-- a law, for a kernel that answers by `vm_set`: what it puts into a register of one of its users, the user finds
abbrev pub SetsAreFound : Type 0
SetsAreFound = (us : List Flat) (o : Core) (user register : ℕ) (a : ℤ) → o.users ≡ set_in us user register a
    → 1 ≤ user → user ≤ length us → register < 32 → length (user_of us user).cpu.regs ≡ 32 → FitsSigned w32 a → IsSet us o user register a
