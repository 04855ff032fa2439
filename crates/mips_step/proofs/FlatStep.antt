-- A move of a list of words, as a step of the flat machine tells it.
use Rattle.std.proofs.Common.{◌≡◌, ℕ, ◌/◌, Bool, true, false, cond, List, refl, subst}
use Rattle.std.specs.Prelude.{slice_set}
use Rattle.mips_table.specs.Processor.{Cpu, Move, Ran, Loaded, Stored, Trapped, Privileged, is_aligned, move}
use Rattle.mips_table.specs.Flat as table
use Rattle.mips_table.specs.Flat.{flat_access, word_at}
use Rattle.mips_step.specs.Step.{StepOutcome}
use Rattle.mips_step.specs.Ends.{StepEnds, StepsInMemory}
use Rattle.mips_step.specs.Flat.{vstep_of, reads_unchanged}

-- what a store leaves
abbrev pub written : List ℕ → ℕ → ℕ → List ℕ
written words address value = slice_set words (address / 4) value

-- a choice of one thing
both : {A : Type 0} (b c : Bool) (x : A) → cond b (cond c x x) x ≡ x
both true true x = refl
both true false x = refl
both false c x = refl

-- how a step over the words ended is what the flat machine's step is
pub answers : (cpu : Cpu) (words : List ℕ) (m : Move) (end : StepOutcome) (new : List ℕ) → StepEnds flat_access word_at reads_unchanged written cpu words m end new → table.after_move (record { cpu = cpu; words = words }) m ≡ vstep_of end.outcome (record { cpu = end.cpu; words = new })
answers cpu words (Ran after) end new h = rw (h.0, h.1) refl
answers cpu words (Loaded after register address) end new h = rw (h.0, h.1) refl
answers cpu words (Stored after address value) end new h = rw (h.0, h.1) refl
answers cpu words (Trapped cause edata epc) end new h = rw (h.0, h.1) refl
answers cpu words (Privileged code) end new h = rw (h.0, h.1) refl

-- a step over the words is the flat machine's step
pub steps : (cpu : Cpu) (words : List ℕ) (end : StepOutcome) (new : List ℕ) → StepsInMemory flat_access word_at reads_unchanged written cpu words end new → table.vstep (record { cpu = cpu; words = words }) ≡ vstep_of end.outcome (record { cpu = end.cpu; words = new })
steps cpu words end new h =
    let m : Move = move (flat_access words) cpu (word_at words cpu.pc) in
    answers cpu words m end new (subst (λ w. StepEnds flat_access word_at reads_unchanged written cpu w m end new) (both (is_aligned cpu.pc) (table.is_inside words cpu.pc) words) h)
