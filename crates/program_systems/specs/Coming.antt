-- When a user that runs a compiled program traps, and by what: for theorems of whole systems, whose users are programs. A program that is known to call or to
-- end within some units does so within the steps for them, by a `TrapsAfter`, which such theorems take of their users.
use Rattle.std.specs.Prelude.{◌≡◌, ℕ, suc, ◌+◌, ◌-◌, ◌^◌, ◌≤◌, ◌<◌, ℤ, List, [], ◌∷◌, ◌++◌, length, None, Some, slice_get, slice_index}
use Rattle.mips_table.specs.Arith.{signed}
use Rattle.mips_table.specs.declared.cause.Cause.{Cause}
use Rattle.mips_table.specs.declared.cause.Cause.TheVariants.{Syscall}
use Rattle.mips_table.specs.Flat.{Flat}
use Rattle.c0_tree.specs.Tree.{CUnit}
use Rattle.c0_meaning.specs.RunLaws.{HasEnded}
use Rattle.c0_meaning.specs.UserProgram.{prog}
use Rattle.cvm_model.specs.Primitives.{with_register}
use Rattle.cvm_model.specs.Cvm.{first_flat}
use Rattle.user_c0.specs.Image.{image_words}
use Rattle.user_c0.specs.Events.{CALL_CAUSE, Event, call, replies, call_count, others, untrapped, answers}
use Rattle.user_c0.specs.Program.{EndsBy, steps_of}
use Rattle.user_c0.specs.Users.{UserHasCome, IsProgram, IsDue}
use Rattle.kernel_theorems.specs.UserRuns.{after, TrapsAfter}

-- a program that has come to a machine makes so many untrapped steps, which leave of the steps of n units what it has made before, and then traps; its events
-- then are those with these steps: it was answered no more often, and gave no other trap
pub record ComesToTrap (u : CUnit) (es : List Event) (f : Flat) (n : ℕ) : Type 0 where
  pub steps : ℕ
  pub few : steps ≤ steps_of n - untrapped es
  pub cause : Cause
  pub traps : TrapsAfter f steps cause
  pub events : List Event
  pub come : UserHasCome u events (after steps f)
  pub replies_are : replies events ≡ replies es
  pub others_are : others events ≡ []
  pub count : untrapped events ≡ untrapped es + steps

-- A LAW: where its next call or its end is due within n units, a program traps within their steps. What the trap is then, `traps_are_known` says.
abbrev pub ProgramsCome : Type 0
ProgramsCome = (u : CUnit) (es : List Event) (f : Flat) (n : ℕ) → IsProgram u → UserHasCome u es f → others es ≡ [] → IsDue u es n → ComesToTrap u es f n

-- it calls so, with this number in register 4; and it goes on with what the call left, and with what the kernel answers
pub record CallsNext (u : CUnit) (es : List Event) (f : Flat) (n : ℕ) (a : ℤ) : Type 0 where
  pub steps : ℕ
  pub few : steps ≤ steps_of n - untrapped es
  pub traps : TrapsAfter f steps Syscall
  pub edata_is : traps.edata ≡ CALL_CAUSE
  pub argument : signed (slice_index (after (suc steps) f).cpu.regs 4) ≡ a
  pub events : List Event
  pub replies_are : replies events ≡ replies es
  pub others_are : others events ≡ []
  pub count : untrapped events ≡ untrapped es + steps
  pub unanswered : UserHasCome u (events ++ call None ∷ []) (after (suc steps) f)
  pub answered : (x : ℕ) → x < 2 ^ 32 → UserHasCome u (events ++ call (Some x) ∷ []) (with_register (after (suc steps) f) 2 x)

-- A LAW: where the next call of a program is known within n units, its machine comes to that call within their steps
abbrev pub CallsCome : Type 0
CallsCome = (u : CUnit) (es : List Event) (f : Flat) (n : ℕ) (a : ℤ) → IsProgram u → UserHasCome u es f → others es ≡ []
    → slice_get (prog u (answers es) n).arguments (call_count es) ≡ Some a → CallsNext u es f n a

-- it gives the system call of its end so
pub record EndsNext (u : CUnit) (es : List Event) (f : Flat) (n : ℕ) : Type 0 where
  pub steps : ℕ
  pub few : steps ≤ steps_of n - untrapped es
  pub traps : TrapsAfter f steps Syscall
  pub ends : EndsBy (prog u (answers es) n).ending traps.edata

-- A LAW: where a program is known to end within n units with no further call, its machine comes to its end within their steps
abbrev pub EndsCome : Type 0
EndsCome = (u : CUnit) (es : List Event) (f : Flat) (n : ℕ) → IsProgram u → UserHasCome u es f → others es ≡ []
    → HasEnded (prog u (answers es) n).ending → length (prog u (answers es) n).arguments ≡ call_count es → EndsNext u es f n

-- a machine calls within so many steps, with this number in register 4
pub record ComesToCall (f : Flat) (most : ℕ) (a : ℤ) : Type 0 where
  pub steps : ℕ
  pub few : steps ≤ most
  pub traps : TrapsAfter f steps Syscall
  pub edata_is : traps.edata ≡ CALL_CAUSE
  pub argument : signed (slice_index (after (suc steps) f).cpu.regs 4) ≡ a

-- A LAW: where the first call of a program is known within n units, its image comes to that call within their steps
abbrev pub FirstCallsCome : Type 0
FirstCallsCome = (u : CUnit) (n : ℕ) (a : ℤ) → IsProgram u → slice_get (prog u [] n).arguments 0 ≡ Some a
    → ComesToCall (first_flat (image_words u)) (steps_of n) a
