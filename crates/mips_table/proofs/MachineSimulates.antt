-- The physical machine simulates each run of code, whatever lines are raised: one step by its instruction, and then a run
-- by induction.
use Rattle.std.proofs.Common.{◌≡◌, ℕ, zero, suc, ◌+◌, ◌*◌, ◌/◌, ◌%◌, ◌≤◌, Option, Some, None, length, slice_index, bit_or, refl, sym, ap, ap₂, ◌∙◌, subst, arith}
use Rattle.mips_table.specs.declared.inst.Inst.{Inst}
use Rattle.mips_table.specs.declared.effect.Effect.{Effect}
use Rattle.mips_table.specs.Encoding.{encoding}
use Rattle.mips_table.specs.Effect.{effect_of}
use Rattle.mips_table.specs.Processor.{performed, effect_on}
use Rattle.mips_table.specs.Device.{Device, Environment, sector_of}
use Rattle.mips_table.specs.declared.special.TheConstants.{SR, MODE}
use Rattle.mips_table.specs.Machine.{State, access, Coming, moved, coming, come_to, latched, step_ended, if_on, step, run}
use Rattle.mips_table.specs.Fits.{EffectFits, NamesSector, Fits}
use Rattle.mips_table.specs.Code.{Program, on_machine, Sound, CodeState, settle, acted, EffectMay, effect_at, act, May, MayAt, act_at, code_step, code_run, MayRun}
use Rattle.mips_table.specs.Simulation.{configuration_of, Quiet, MemoryHolds, DiskServes, raised, Along, Instructs, Simulates}
use Rattle.mips_table.proofs.DecodingInverts.{decoding-encoding}
use Rattle.mips_table.proofs.StepsKeepWords.{effect_fits, comes, latches, ComingFits, step_fits}
use Rattle.mips_table.proofs.ReadableWords.{reg_same}
use Rattle.mips_table.proofs.RunsJoin.{run_first}
use Rattle.mips_table.proofs.StepsAsCode.{settles}
use Rattle.mips_table.proofs.OneSectorWritten.{settled_names, settled_sectors}
use Rattle.mips_table.proofs.OneInstruction.{contents, behind, Good, to, below, effects, instruction}

-- the lines of the first step and then of the others
raised_first : (x : Environment) (n t mask : ℕ) → raised x (suc n) t mask ≡ raised x n (t + 1) (bit_or mask (x.lines t))
raised_first x zero t mask = let e : t + 0 ≡ t = omega arith in ap (λ u. bit_or mask (x.lines u)) e
raised_first x (suc n) t mask = let e : t + suc n ≡ t + 1 + n = omega arith in ap₂ bit_or (raised_first x n t mask) (ap x.lines e)

module _ (x : Environment) (p : Program) (f : Sound (on_machine x p)) where
  -- the sectors from p.count on are those of the disk d
  abbrev Stay : Device → Device → Type 0
  Stay d e = (q : ℕ) → p.count ≤ q → sector_of e.sectors q ≡ sector_of d.sectors q

  record After (s s' : State) (t : CodeState) : Type 0 where
    same : configuration_of s' ≡ t
    quiet : Quiet x s'
    holds : MemoryHolds (on_machine x p) s'.memory
    mask : s'.mask ≡ bit_or s.mask (x.lines s.time)
    time : s'.time ≡ s.time + 1
    serves : DiskServes x (on_machine x p) s'.device
    sectors : Stay s.device s'.device
    instructs : Instructs x (on_machine x p) s

  pub latched_quiet : (s : State) → Quiet x s → Quiet x (latched x s)
  latched_quiet s q = record { fits = latches x s q.fits; on = q.on; no_reset = q.no_reset; sr = q.sr; mode = q.mode; aligned = q.aligned }

  -- the step goes on from what came, and then the disk counts
  finishes : (s : State) (i : Inst) (t : CodeState) → Quiet x s → DiskServes x (on_machine x p) s.device → p.code (s.cpu.pc / 4) ≡ Some i → Good x p f (latched x s) t (coming x (latched x s)) → After s (step x s) t
  unfolding step
  finishes s i t q v at g =
      let there : step x s ≡ step_ended g.after = ap (if_on x s) q.on ∙ ap (λ c. step_ended (come_to c)) g.is in
      let fits : Fits x g.after = (subst (ComingFits x (length s.memory)) g.is (comes x (latched x s) (latches x s q.fits))).0 in
      let d : Device = g.after.device in
      let named : NamesSector p.count d.pending = g.disk.named v.named in
      let counts : configuration_of (step_ended g.after) ≡ settle (g.after.cpu.pc / 4) (contents g.after) (behind g.after) =
      settles d.pending (g.after.cpu.pc / 4) g.after.cpu g.after.special g.after.memory d.buffer d.sector d.commands d.sectors g.after.log g.after.input (below x p f g.after g.holds) fits.device.buffer.size
      (subst (λ n. NamesSector n d.pending) (sym fits.device.sectors) fits.device.pending) in
      record {
        same = ap configuration_of there ∙ (counts ∙ g.same);
        quiet = record {
          fits = (step_fits x s q.fits).0;
          on = ap (λ z. z.off) there ∙ g.on;
          no_reset = ap (λ z. z.reset) there ∙ g.no_reset;
          sr = ap (λ z. slice_index z.special SR) there ∙ g.sr;
          mode = ap (λ z. slice_index z.special MODE) there ∙ g.mode;
          aligned = ap (λ z. z.cpu.pc % 4) there ∙ g.aligned;
        };
        holds = subst (λ z. MemoryHolds (on_machine x p) z.memory) (sym there) g.holds;
        mask = ap (λ z. z.mask) there ∙ g.mask;
        time = ap (λ z. z.time) there ∙ ap (λ t. t + 1) g.time;
        serves = subst (λ z. DiskServes x (on_machine x p) z.device) (sym there) (record { count = v.count; named = settled_names p.count d.pending d named named });
        sectors = λ k le. ap (λ z. sector_of z.device.sectors k) there ∙ settled_sectors p.count d.pending d named k le ∙ ap (λ z. sector_of z k) g.disk.sectors;
        instructs = record { inst = i; code = at; after = g.after; untaken = g.is; named = named };
      }

  steps_once : (s : State) (i : Inst) → Quiet x s → MemoryHolds (on_machine x p) s.memory → DiskServes x (on_machine x p) s.device → p.code (s.cpu.pc / 4) ≡ Some i → May (on_machine x p) i (configuration_of s) → After s (step x s) (act (on_machine x p) i (configuration_of s))
  unfolding act
  steps_once s i q h v at may =
      let s1 : State = latched x s in
      let q1 : Quiet x s1 = latched_quiet s q in
      let k : ℕ = s.cpu.pc / 4 in
      let range = f.range k i at in
      let e : Effect = effect_on i s.cpu in
      let whole : 4 * k ≡ s.cpu.pc = let a = q.aligned in omega arith in
      let same_effect : effect_at i k (contents s) ≡ e = ap₂ (λ pc g. effect_of i pc g s.cpu.hi s.cpu.lo) whole (sym (reg_same s.cpu.regs q.fits.cpu.regs.none)) in
      let b : EffectFits e = effect_fits i s.cpu q.fits.cpu range in
      let does : Coming = moved x s1 (performed (access s1) s.cpu (encoding i) e) in
      let comes_to : CodeState = acted (on_machine x p) i k (contents s) (behind s) e in
      finishes s i (act (on_machine x p) i (configuration_of s)) q v at
      (to x p f s1 does (coming x s1) comes_to (act (on_machine x p) i (configuration_of s)) (instruction x p f s1 i q1 h at) (ap (acted (on_machine x p) i k (contents s) (behind s)) same_effect)
      (effects x p f s1 (encoding i) i e q1 h v.count (f.inside k i at) (decoding-encoding i range) range b (subst (EffectMay (on_machine x p) i (contents s)) same_effect may)))

  steps_at : (s : State) (o : Option Inst) → p.code (s.cpu.pc / 4) ≡ o → Quiet x s → MemoryHolds (on_machine x p) s.memory → DiskServes x (on_machine x p) s.device → MayAt (on_machine x p) o (configuration_of s) → After s (step x s) (act_at (on_machine x p) o (configuration_of s))
  steps_at s None at q h v may = absurd may
  steps_at s (Some i) at q h v may = steps_once s i q h v at may

  -- what holds after the first step and j more
  later : (s : State) (u : CodeState) (j : ℕ) → After s (step x s) u → Along x (on_machine x p) (step x s) j → Along x (on_machine x p) s (suc j)
  later s u j a b =
      let e : run x s (suc j) ≡ run x (step x s) j = run_first x s j in
      record {
        quiet = subst (Quiet x) (sym e) b.quiet;
        holds = subst (λ z. MemoryHolds (on_machine x p) z.memory) (sym e) b.holds;
        mask = ap (λ z. z.mask) e ∙ b.mask ∙ ap₂ (raised x j) a.time a.mask ∙ sym (raised_first x j s.time s.mask);
        time = ap (λ z. z.time) e ∙ b.time ∙ ap (λ t. t + j) a.time ∙ omega arith;
        serves = subst (λ z. DiskServes x (on_machine x p) z.device) (sym e) b.serves;
        sectors = λ k le. ap (λ z. sector_of z.device.sectors k) e ∙ b.sectors k le ∙ a.sectors k le;
      }

  here : (s : State) → Quiet x s → MemoryHolds (on_machine x p) s.memory → DiskServes x (on_machine x p) s.device → Along x (on_machine x p) s 0
  here s q h v = record { quiet = q; holds = h; mask = refl; time = omega arith; serves = v; sectors = λ k le. refl }

  -- a run
  pub follows : (n : ℕ) (s : State) → Quiet x s → MemoryHolds (on_machine x p) s.memory → DiskServes x (on_machine x p) s.device → MayRun (on_machine x p) n (configuration_of s) → Simulates x (on_machine x p) n s
  follows zero s q h v may = record {
    same = λ j le. let e : 0 ≡ j = omega arith in subst (λ j. configuration_of (run x s j) ≡ code_run (on_machine x p) (configuration_of s) j) e refl;
    along = λ j le. let e : 0 ≡ j = omega arith in subst (Along x (on_machine x p) s) e (here s q h v);
    instructs = λ j lt. absurd (omega arith);
  }
  follows (suc n) s q h v may =
      let a = steps_at s (p.code (s.cpu.pc / 4)) refl q h v may.0 in
      let r = follows n (step x s) a.quiet a.holds a.serves (subst (MayRun (on_machine x p) n) (sym a.same) may.1) in
      record {
        same = elim [ zero ↦ λ le. refl | suc j ↦ λ le. ap configuration_of (run_first x s j) ∙ r.same j (omega arith) ∙ ap (λ u. code_run (on_machine x p) u j) a.same ];
        along = elim [ zero ↦ λ le. here s q h v | suc j ↦ λ le. later s (code_step (on_machine x p) (configuration_of s)) j a (r.along j (omega arith)) ];
        instructs = elim [ zero ↦ λ lt. a.instructs | suc j ↦ λ lt. subst (Instructs x (on_machine x p)) (sym (run_first x s j)) (r.instructs j (omega arith)) ];
      }
