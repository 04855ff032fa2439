-- The steps that begin and end a run of code: what a taken interrupt leaves is quiet, and eret and a store to the power
-- port do what their definitions say, since in system mode with sr 0 nothing comes before them.
use Rattle.std.proofs.Common.{◌≡◌, ℕ, zero, suc, ◌*◌, ◌/◌, ◌%◌, Bool, true, false, not, ◌&&◌, nat_lt, Option, Some, None, length, slice_index, slice_set, refl, sym, ap, ◌∙◌, subst, arith, le-ltb, eq-eqb}
use Rattle.std.specs.Prelude.{◌==◌, if◌then◌else◌, is_some, drop}
use Rattle.std.proofs.lemmas.Bool.{cond-true, cond-false, cond_both}
use Rattle.mips_table.specs.declared.inst.Inst.{Inst}
use Rattle.mips_table.specs.declared.inst.Inst.TheVariants.{Mfc0, Mtc0, Eret, Sw}
use Rattle.mips_table.specs.declared.cause.Cause.{Cause}
use Rattle.mips_table.specs.declared.cause.Cause.TheVariants as causes
use Rattle.mips_table.specs.Arith.{sum, extended}
use Rattle.mips_table.specs.Encoding.{encoding}
use Rattle.mips_table.specs.Decoding.{decoding}
use Rattle.mips_table.specs.Processor.{Cpu, Move, Ran, Loaded, Stored, Trapped, Privileged, is_aligned, advanced, accessed, move}
use Rattle.mips_table.specs.Device.{Environment, POWER}
use Rattle.mips_table.specs.declared.special.TheConstants.{SR, MODE, EPC}
use Rattle.mips_table.specs.Machine.{INPUT, State, in_system, located, port_written, written_at, after_read_at, access, left, Coming, Interrupt, Done, privileged, moved, fetch, fetched, coming, cleared, interrupted, come_to, latched, step_ended, if_on, step, run}
use Rattle.mips_table.specs.Fits.{Fits}
use Rattle.mips_table.specs.Code.{Program, on_machine, Sound}
use Rattle.mips_table.specs.Simulation.{Quiet, MemoryHolds}
use Rattle.mips_table.specs.Borders.{Taken}
use Rattle.mips_table.proofs.DecodingInverts.{decoding-encoding}
use Rattle.mips_table.proofs.StepsKeepWords.{step_fits}
use Rattle.mips_table.proofs.OneInstruction.{plainly, instruction, below}
use Rattle.mips_table.proofs.MachineSimulates.{latched_quiet}

-- a machine that is off
step_off : (x : Environment) (s : State) (word : ℕ) → s.off ≡ Some word → step x s ≡ s
unfolding step
step_off x s word e = ap (if_on x s) e

pub stays_off : (x : Environment) (s : State) (word n : ℕ) → s.off ≡ Some word → run x s n ≡ s
stays_off x s word zero e = refl
stays_off x s word (suc n) e = ap (step x) (stays_off x s word n e) ∙ step_off x s word e

-- two states that differ in the input alone
record Same (s t : State) : Type 0 where
  cpu : t.cpu ≡ s.cpu
  memory : t.memory ≡ s.memory
  reset : t.reset ≡ s.reset
  off : t.off ≡ s.off

-- the state in which an interrupt is taken is that of the step, but for the input
abbrev Kept : State → Coming → Type 0
Kept s (Interrupt before cause edata epc) = Same s before
Kept s (Done after) = Unit {0}

same : (s : State) → Same s s
same s = record { cpu = refl; memory = refl; reset = refl; off = refl }

-- the fetch takes input alone
fetch_keeps : (s : State) → Same s (fetched s)
fetch_keeps s = cond_both (is_aligned s.cpu.pc) (after_read_at s (located s false s.cpu.pc)) s (Same s) (λ _. at (located s false s.cpu.pc)) (λ _. same s)
  where
    at : (o : Option ℕ) → Same s (after_read_at s o)
    at None = same s
    at (Some a) =
        let took : State = record s { input = drop 1 s.input } in
        cond_both (nat_lt (a / 4) (length s.memory)) s (if a / 4 == INPUT then took else s) (Same s) (λ _. same s)
        (λ _. cond_both (a / 4 == INPUT) took s (Same s) (λ _. record { cpu = refl; memory = refl; reset = refl; off = refl }) (λ _. same s))

privileged_keeps : (s t : State) (word : ℕ) (o : Option Inst) → Same s t → Kept s (privileged t word o)
privileged_keeps s t word (Some (Mfc0 rt k)) e = tt
privileged_keeps s t word (Some (Mtc0 rt k)) e = tt
privileged_keeps s t word (Some Eret) e = tt
privileged_keeps s t word other e = e

moved_keeps : (x : Environment) (s t : State) (m : Move) → Same s t → Kept s (moved x t m)
moved_keeps x s t (Ran c) e = tt
moved_keeps x s t (Loaded c r address) e = tt
moved_keeps x s t (Stored c address value) e = tt
moved_keeps x s t (Trapped cause edata epc) e = e
moved_keeps x s t (Privileged word) e =
    cond_both (in_system t.special) (privileged t word (decoding word)) (Interrupt t causes.Illegal word t.cpu.pc) (Kept s) (λ _. privileged_keeps s t word (decoding word) e) (λ _. e)

coming_keeps : (x : Environment) (s : State) → Kept s (coming x s)
coming_keeps x s =
    let moves : Coming = moved x (fetched s) (move (access s) s.cpu (fetch s)) in
    let external : Coming = Interrupt s causes.External s.mask s.cpu.pc in
    let line : Bool = slice_index s.special SR == 1 && not (s.mask == 0) in
    cond_both s.reset (Interrupt s causes.Reset 0 s.cpu.pc) (if line then external else moves) (Kept s) (λ _. same s)
    (λ _. cond_both line external moves (Kept s) (λ _. same s) (λ _. moved_keeps x s (fetched s) (move (access s) s.cpu (fetch s)) (fetch_keeps s)))

-- what comes of a machine whose reset is latched is the reset
clears : (x : Environment) (s before : State) (cause : Cause) (edata epc : ℕ) → Same s before → coming x s ≡ Interrupt before cause edata epc → (cleared cause before).reset ≡ false
clears x s before cause edata epc k e = by_latch s.reset refl cause e
  where
    others : (cause : Cause) → s.reset ≡ false → (cleared cause before).reset ≡ false
    others causes.Reset h = refl
    others causes.External h = k.reset ∙ h
    others other h = k.reset ∙ h

    resets : (cause : Cause) → Interrupt s causes.Reset 0 s.cpu.pc ≡ Interrupt before cause edata epc → (cleared cause before).reset ≡ false
    resets causes.Reset h = refl
    resets other h = absurd (cc)

    by_latch : (b : Bool) → s.reset ≡ b → (cause : Cause) → coming x s ≡ Interrupt before cause edata epc → (cleared cause before).reset ≡ false
    by_latch true l cause e =
        let line : Bool = slice_index s.special SR == 1 && not (s.mask == 0) in
        resets cause (sym (cond-true s.reset (Interrupt s causes.Reset 0 s.cpu.pc) (if line then Interrupt s causes.External s.mask s.cpu.pc else moved x (fetched s) (move (access s) s.cpu (fetch s))) l) ∙ e)
    by_latch false l cause e = others cause l

-- clearing a latch changes nothing else
cleared_same : (cause : Cause) (s : State) → ((cleared cause s).off ≡ s.off) × ((cleared cause s).memory ≡ s.memory)
cleared_same causes.Reset s = (refl, refl)
cleared_same causes.External s = (refl, refl)
cleared_same other s = (refl, refl)

reset_pc : (c d : Cpu) → c ≡ d → record c { pc = 0 } ≡ record d { pc = 0 }
reset_pc c d e = rw e refl

pub interrupt_taken : (x : Environment) (s before : State) (cause : Cause) (edata epc : ℕ) → Fits x s → s.off ≡ None → coming x (latched x s) ≡ Interrupt before cause edata epc → Taken x s before cause edata epc
unfolding step
interrupt_taken x s before cause edata epc h on e =
    let s1 : State = latched x s in
    let is : step x s ≡ step_ended (interrupted before cause edata epc) = ap (if_on x s) on ∙ ap (λ c. step_ended (come_to c)) e in
    let k : Same s1 before = subst (Kept s1) e (coming_keeps x s1) in
    let c = cleared_same cause before in
    record {
      is = is;
      quiet = record {
        fits = (step_fits x s h).0;
        on = ap (λ z. z.off) is ∙ c.0 ∙ k.off ∙ on;
        no_reset = ap (λ z. z.reset) is ∙ clears x s1 before cause edata epc k e;
        sr = ap (λ z. slice_index z.special SR) is;
        mode = ap (λ z. slice_index z.special MODE) is;
        aligned = ap (λ z. z.cpu.pc % 4) is;
      };
      cpu = ap (λ z. z.cpu) is ∙ reset_pc before.cpu s.cpu k.cpu;
      memory = ap (λ z. z.memory) is ∙ c.1 ∙ k.memory;
    }

module _ (x : Environment) (p : Program) (f : Sound (on_machine x p)) (s : State) (q : Quiet x s) (h : MemoryHolds (on_machine x p) s.memory) where
  step_done : (after : State) → coming x (latched x s) ≡ Done after → step x s ≡ step_ended after
  unfolding step
  step_done after e = ap (if_on x s) q.on ∙ ap (λ c. step_ended (come_to c)) e

  pub eret_leaves : p.code (s.cpu.pc / 4) ≡ Some Eret → step x s ≡ step_ended (record (latched x s) { special = left s.special; cpu = record s.cpu { pc = slice_index s.special EPC } })
  eret_leaves at =
      let s1 : State = latched x s in
      let word : ℕ = encoding Eret in
      step_done (record s1 { special = left s.special; cpu = record s.cpu { pc = slice_index s.special EPC } })
      (instruction x p f s1 Eret (latched_quiet x p f s q) h at
      ∙ cond-true _ (privileged s1 word (decoding word)) (Interrupt s1 causes.Illegal word s.cpu.pc) (eq-eqb _ _ q.mode) ∙ ap (privileged s1 word) (decoding-encoding Eret (f.range (s.cpu.pc / 4) Eret at)))

  pub power_ends : (rt rs imm : ℕ) → p.code (s.cpu.pc / 4) ≡ Some (Sw rt rs imm) → sum (slice_index s.cpu.regs rs) (extended imm) ≡ 4 * POWER
      → step x s ≡ step_ended (record (latched x s) { off = Some (slice_index s.cpu.regs rt); cpu = advanced s.cpu })
  power_ends rt rs imm at e =
      let s1 : State = latched x s in
      let q1 = latched_quiet x p f s q in
      let v : ℕ = slice_index s.cpu.regs rt in
      let stores : Move = Stored (advanced s.cpu) (4 * POWER) v in
      let keeps : State = record s1 { memory = slice_set s.memory POWER v } in
      step_done (record s1 { off = Some v; cpu = advanced s.cpu })
      (instruction x p f s1 (Sw rt rs imm) q1 h at
      ∙ ap (λ y. moved x s1 (accessed (is_some (located s1 true y)) causes.DataAlign causes.DataFault y s.cpu.pc (Stored (advanced s.cpu) y v))) e
      ∙ ap (λ o. moved x s1 (accessed (is_some o) causes.DataAlign causes.DataFault (4 * POWER) s.cpu.pc stores)) (plainly x p f s1 true (4 * POWER) q1)
      ∙ ap (λ o. Done (record (written_at x s1 o v) { cpu = advanced s.cpu })) (plainly x p f s1 true (4 * POWER) q1)
      ∙ ap (λ z. Done (record z { cpu = advanced s.cpu })) (cond-false _ keeps (port_written x s1 POWER v) (le-ltb POWER (length s.memory) (let b = below x p f s h in omega arith))))
