-- Which comes: the reset, an external interrupt, or the instruction.
use Rattle.std.proofs.Common.{◌≡◌, Bool, true, false, not, ◌&&◌, slice_index, refl, ap, ◌∙◌, eq-eqb, ne_eqb}
use Rattle.std.specs.Prelude.{◌==◌, if◌then◌else◌}
use Rattle.std.proofs.lemmas.Bool.{cond-true, cond-false}
use Rattle.mips_table.specs.declared.cause.Cause.TheVariants as causes
use Rattle.mips_table.specs.Processor.{move}
use Rattle.mips_table.specs.Device.{Environment}
use Rattle.mips_table.specs.declared.special.TheConstants.{SR}
use Rattle.mips_table.specs.Machine.{State, Coming, Interrupt, access, fetch, fetched, moved}
use Rattle.mips_machine.specs.Hardware.{instructed, chosen}

-- sr is 1 and a line is latched
abbrev pub line_comes : State → Bool
line_comes s = slice_index s.special SR == 1 && not (s.mask == 0)

-- the instruction with its fetch
abbrev instruction : Environment → State → Coming
instruction x s = moved x (fetched s) (move (access s) s.cpu (fetch s))

pub chosen_reset : (x : Environment) (s : State) → s.reset ≡ true → chosen x s ≡ Interrupt s causes.Reset 0 s.cpu.pc
unfolding chosen
chosen_reset x s e = cond-true s.reset (Interrupt s causes.Reset 0 s.cpu.pc) (if line_comes s then Interrupt s causes.External s.mask s.cpu.pc else instruction x s) e

-- without a reset
pub later : (x : Environment) (s : State) → s.reset ≡ false → chosen x s ≡ (if line_comes s then Interrupt s causes.External s.mask s.cpu.pc else instructed x s)
unfolding chosen instructed
later x s e = cond-false s.reset (Interrupt s causes.Reset 0 s.cpu.pc) (if line_comes s then Interrupt s causes.External s.mask s.cpu.pc else instruction x s) e

both : (a b : Bool) → a ≡ true → b ≡ false → (a && not b) ≡ true
both a b p q = ap (λ v. v && not b) p ∙ ap (λ v. not v) q

first : (a b : Bool) → a ≡ false → (a && not b) ≡ false
first a b p = ap (λ v. v && not b) p

second : (a b : Bool) → b ≡ true → (a && not b) ≡ false
second true b q = ap (λ v. not v) q
second false b q = refl

pub chosen_external : (x : Environment) (s : State) → s.reset ≡ false → slice_index s.special SR ≡ 1 → (s.mask ≡ 0 → ⊥) → chosen x s ≡ Interrupt s causes.External s.mask s.cpu.pc
chosen_external x s e sr mask =
    later x s e ∙ cond-true (line_comes s) (Interrupt s causes.External s.mask s.cpu.pc) (instructed x s) (both (slice_index s.special SR == 1) (s.mask == 0) (eq-eqb _ _ sr) (ne_eqb _ _ mask))

pub chosen_with_sr_0 : (x : Environment) (s : State) → s.reset ≡ false → (slice_index s.special SR ≡ 1 → ⊥) → chosen x s ≡ instructed x s
chosen_with_sr_0 x s e sr = later x s e ∙ cond-false (line_comes s) (Interrupt s causes.External s.mask s.cpu.pc) (instructed x s) (first (slice_index s.special SR == 1) (s.mask == 0) (ne_eqb _ _ sr))

pub chosen_without_lines : (x : Environment) (s : State) → s.reset ≡ false → s.mask ≡ 0 → chosen x s ≡ instructed x s
chosen_without_lines x s e mask = later x s e ∙ cond-false (line_comes s) (Interrupt s causes.External s.mask s.cpu.pc) (instructed x s) (second (slice_index s.special SR == 1) (s.mask == 0) (eq-eqb _ _ mask))
