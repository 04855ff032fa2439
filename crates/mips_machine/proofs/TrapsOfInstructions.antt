-- Which traps come of an instruction: neither the reset nor an external interrupt, and an illegal word is no instruction.
use Rattle.std.proofs.Common.{◌≡◌, ℕ, Bool, not, Option, Some, None, refl}
use Rattle.std.specs.Prelude.{if◌then◌else◌}
use Rattle.std.proofs.lemmas.Bool.{cond_both}
use Rattle.mips_table.specs.declared.inst.Inst.{Inst}
use Rattle.mips_table.specs.declared.cause.Cause.{Cause}
use Rattle.mips_table.specs.declared.cause.Cause.TheVariants as causes
use Rattle.mips_table.specs.declared.effect.Effect.{Effect}
use Rattle.mips_table.specs.declared.effect.Effect.TheVariants.{Set, Wide, Load, Store, Overflow, Call, System}
use Rattle.mips_table.specs.Decoding.{decoding}
use Rattle.mips_table.specs.Processor.{Cpu, Access, Move, Loaded, Stored, Trapped, advanced, is_aligned, accessed, performed, effect_on, executed, move}

-- a trap that comes of an instruction at pc
abbrev pub IsTrap : ℕ → Cause → ℕ → ℕ → Type 0
IsTrap pc causes.Reset edata epc = ⊥
IsTrap pc causes.External edata epc = ⊥
IsTrap pc causes.Illegal edata epc = (decoding edata ≡ None) × (epc ≡ pc)
IsTrap pc other edata epc = Unit {0}

-- where a move traps, the trap is one of these
abbrev pub Traps : ℕ → Move → Type 0
Traps pc (Trapped cause edata epc) = IsTrap pc cause edata epc
Traps pc other = Unit {0}

accessed_traps : (may : Bool) (misaligned refused : Cause) (address pc : ℕ) (m : Move) → IsTrap pc misaligned address pc → IsTrap pc refused address pc → Traps pc m → Traps pc (accessed may misaligned refused address pc m)
accessed_traps may misaligned refused address pc m a r h =
    cond_both (not (is_aligned address)) (Trapped misaligned address pc) (if not may then Trapped refused address pc else m) (Traps pc) (λ _. a)
    (λ _. cond_both (not may) (Trapped refused address pc) m (Traps pc) (λ _. r) (λ _. h))

performed_traps : (a : Access) (c : Cpu) (word : ℕ) (e : Effect) → Traps c.pc (performed a c word e)
performed_traps a c word (Set register value to) = tt
performed_traps a c word (Wide hi lo to) = tt
performed_traps a c word (Load register address) = accessed_traps (a.may_load address) causes.DataAlign causes.DataFault address c.pc (Loaded (advanced c) register address) tt tt tt
performed_traps a c word (Store address value) = accessed_traps (a.may_store address) causes.DataAlign causes.DataFault address c.pc (Stored (advanced c) address value) tt tt tt
performed_traps a c word Overflow = tt
performed_traps a c word Call = tt
performed_traps a c word System = tt

executed_traps : (a : Access) (c : Cpu) (word : ℕ) (o : Option Inst) → decoding word ≡ o → Traps c.pc (executed a c word o)
executed_traps a c word None e = (e, refl)
executed_traps a c word (Some i) e = performed_traps a c word (effect_on i c)

pub move_traps : (a : Access) (c : Cpu) (word : ℕ) → Traps c.pc (move a c word)
move_traps a c word = accessed_traps (a.may_fetch c.pc) causes.FetchAlign causes.FetchFault c.pc c.pc (executed a c word (decoding word)) tt tt (executed_traps a c word (decoding word) refl)
