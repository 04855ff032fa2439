-- A user that runs a compiled program, between two steps: where it has come, what its next trap is, and how soon it comes. To be used in a proof about
-- a whole system, which keeps `UserHasCome` of each user whose calls its kernel answers.
use Rattle.std.specs.Prelude.{◌≡◌, ◌⊎◌, ℕ, suc, ◌^◌, ◌<◌, ◌≤◌, ℤ, List, [], ◌∷◌, ◌++◌, length, None, Some, slice_get, slice_index, FitsSigned}
use Rattle.std.specs.Int.{w32, cast_unsigned}
use Rattle.mips_table.specs.Arith.{signed}
use Rattle.mips_table.specs.declared.cause.Cause.{Cause}
use Rattle.mips_table.specs.declared.cause.Cause.TheVariants as causes
use Rattle.mips_table.specs.Flat.{Flat, Goes, Trap, vstep}
use Rattle.mips_table.specs.Machine.{cause_number}
use Rattle.layer_map.specs.Map.{tables_at}
use Rattle.layer_map.specs.declared.entries.TheConstants.{ANSWER}
use Rattle.c0_tree.specs.declared.primitive.Program.TheVariants.{User}
use Rattle.c0_tree.specs.Tree.{CUnit}
use Rattle.c0_meaning.specs.Unit.{IsCheckedAs}
use Rattle.c0_meaning.specs.UserProgram.{prog}
use Rattle.c0_meaning.specs.RunLaws.{HasEnded}
use Rattle.cvm_model.specs.Primitives.{with_register}
use Rattle.cvm_model.specs.Cvm.{first_flat}
use Rattle.cvm_model.specs.Journal.{replay}
use Rattle.user_c0.specs.declared.image.TheConstants.{TOLD}
use Rattle.user_c0.specs.Image.{map_of_image, image_words}
use Rattle.user_c0.specs.Events.{SYSCALL, CALL_CAUSE, Event, step, call, other, journal_of, AreProper, call_count, others, untrapped, answer_of, answers}
use Rattle.user_c0.specs.Program.{MAX_IMAGE, EndsBy, steps_of}

-- THE USER'S MACHINE after these events, from its image on
pub record UserHasCome (u : CUnit) (es : List Event) (f : Flat) : Type 0 where
  pub proper : AreProper es
  pub replayed : replay (first_flat (image_words u)) (journal_of es) ≡ Some f

-- A LAW: it goes on with each of its steps, and with what the kernel answers a call
pub record UsersGoOn : Type 0 where
  pub starts : (u : CUnit) → UserHasCome u [] (first_flat (image_words u))
  pub steps : (u : CUnit) (es : List Event) (f g : Flat) → UserHasCome u es f → vstep f ≡ Goes g → UserHasCome u (es ++ step ∷ []) g
  -- a call for whose answer nothing is set, or ANSWER
  pub calls : (u : CUnit) (es : List Event) (f g : Flat) → UserHasCome u es f → vstep f ≡ Trap g causes.Syscall CALL_CAUSE
      → UserHasCome u (es ++ call None ∷ []) g
  pub answered : (u : CUnit) (es : List Event) (f g : Flat) (x : ℕ) → x < 2 ^ 32 → UserHasCome u es f → vstep f ≡ Trap g causes.Syscall CALL_CAUSE
      → UserHasCome u (es ++ call (Some x) ∷ []) (with_register g ANSWER x)
  -- any other trap
  pub others : (u : CUnit) (es : List Event) (f g : Flat) (cause : Cause) (edata : ℕ) → (cause_number cause ≡ SYSCALL → edata ≡ CALL_CAUSE → ⊥)
      → UserHasCome u es f → vstep f ≡ Trap g cause edata
      → UserHasCome u (es ++ other (cause_number cause) edata ∷ []) g

-- A LAW: what a kernel in C0 answers by an int is a word, and the program is told that int
abbrev pub IntsAreTold : Type 0
IntsAreTold = (v : ℤ) → FitsSigned w32 v → (cast_unsigned w32 v < 2 ^ 32) × (answer_of (Some (cast_unsigned w32 v)) ≡ v)

-- a trap is the program's next call: TOLD, which is register 4, has its argument
pub record IsCall (u : CUnit) (es : List Event) (f : Flat) (cause edata : ℕ) : Type 0 where
  pub cause_is : cause ≡ SYSCALL
  pub edata_is : edata ≡ CALL_CAUSE
  pub units : ℕ
  pub argument : slice_get (prog u (answers es) units).arguments (call_count es) ≡ Some (signed (slice_index f.cpu.regs TOLD))

-- a trap is that of the program's end, which came after the last of these calls
pub record IsProgramEnd (u : CUnit) (es : List Event) (cause edata : ℕ) : Type 0 where
  pub cause_is : cause ≡ SYSCALL
  pub units : ℕ
  pub ends : EndsBy (prog u (answers es) units).ending edata
  pub count : length (prog u (answers es) units).arguments ≡ call_count es

-- a checked unit whose image a user may be
pub record IsProgram (u : CUnit) : Type 0 where
  pub checked : IsCheckedAs User u
  pub small : tables_at (map_of_image u) ≤ MAX_IMAGE

-- A LAW: each trap of a program is its next call or its end, and leaves the registers
pub record ProgramsTrap : Type 0 where
  pub traps : (u : CUnit) (es : List Event) (f g : Flat) (cause : Cause) (edata : ℕ) → IsProgram u → UserHasCome u es f → vstep f ≡ Trap g cause edata
      → IsCall u es f (cause_number cause) edata ⊎ IsProgramEnd u es (cause_number cause) edata
  pub leaves : (f g : Flat) (cause : Cause) (edata : ℕ) → vstep f ≡ Trap g cause edata → g.cpu.regs ≡ f.cpu.regs

-- the call with this argument
pub record IsTrapCall (f : Flat) (a : ℤ) (cause edata : ℕ) : Type 0 where
  pub cause_is : cause ≡ SYSCALL
  pub edata_is : edata ≡ CALL_CAUSE
  pub argument : signed (slice_index f.cpu.regs TOLD) ≡ a

-- A LAW: where the program is known to call next with some argument, its next trap is that call; where it is known to end without a further call, its
-- next trap is that of its end. In how many units that is known plays no part. And where it is known to end it was answered no more often than it calls.
pub record TrapsAreKnown : Type 0 where
  pub next_call : (u : CUnit) (es : List Event) (f g : Flat) (cause : Cause) (edata : ℕ) → IsProgram u → UserHasCome u es f → vstep f ≡ Trap g cause edata
      → (n : ℕ) (a : ℤ) → slice_get (prog u (answers es) n).arguments (call_count es) ≡ Some a → IsTrapCall f a (cause_number cause) edata
  pub next_end : (u : CUnit) (es : List Event) (f g : Flat) (cause : Cause) (edata : ℕ) → IsProgram u → UserHasCome u es f → vstep f ≡ Trap g cause edata
      → (n : ℕ) → HasEnded (prog u (answers es) n).ending → length (prog u (answers es) n).arguments ≡ call_count es
      → (cause_number cause ≡ SYSCALL) × EndsBy (prog u (answers es) n).ending edata
  pub few : (u : CUnit) (es : List Event) (f : Flat) → IsProgram u → UserHasCome u es f
      → (n : ℕ) → HasEnded (prog u (answers es) n).ending → call_count es ≤ length (prog u (answers es) n).arguments

-- the program makes its next call within n units, or ends
abbrev pub IsDue : CUnit → List Event → ℕ → Type 0
IsDue u es n = (call_count es < length (prog u (answers es) n).arguments) ⊎ HasEnded (prog u (answers es) n).ending

-- A LAW: while a program's next call or its end is due within n units, its steps so far stay below those of n units; and a program that has ended traps
-- again after one step at most
pub record ProgramsStay : Type 0 where
  pub stay : (u : CUnit) (es : List Event) (f g : Flat) (n : ℕ) → IsProgram u → UserHasCome u es f → vstep f ≡ Goes g → others es ≡ [] → IsDue u es n
      → suc (untrapped es) ≤ steps_of n
  pub again : (u : CUnit) (es : List Event) (f g : Flat) (cause edata : ℕ) → IsProgram u
      → UserHasCome u (es ++ other cause edata ∷ step ∷ []) f → vstep f ≡ Goes g → ⊥
