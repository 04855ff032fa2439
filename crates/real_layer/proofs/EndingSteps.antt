-- The steps that end a run of the layer's code: a store to the power port, and eret.
use Rattle.std.proofs.Common.{◌≡◌, ◌≢◌, ℕ, zero, suc, ◌+◌, ◌*◌, ◌/◌, ◌<◌, ◌≤◌, Some, List, slice_index, refl, sym, ap, ap₂, ◌∙◌, subst, ⊎_elim, arith}
use Rattle.mips_table.specs.declared.inst.Inst.{Inst}
use Rattle.mips_table.specs.declared.inst.Inst.TheVariants.{Sw, Eret}
use Rattle.mips_table.specs.Arith.{sum, extended}
use Rattle.mips_table.specs.Processor.{advanced}
use Rattle.mips_table.specs.Device.{Device, Idle, POWER, Environment, sector_of, settled, disk_counted}
use Rattle.mips_table.specs.declared.special.TheConstants.{EPC}
use Rattle.mips_table.specs.Machine.{State, left, latched, step_ended, step, run}
use Rattle.mips_table.specs.Fits.{NamesSector, Fits, StaysFitting}
use Rattle.mips_table.specs.Code.{CodeState}
use Rattle.mips_table.specs.Simulation.{space, behind_of}
use Rattle.mips_table.specs.Borders.{EretLeaves, PowerEnds}
use Rattle.masm.specs.Standing.{only_block_at, BlockStands}
use Rattle.layer_map.specs.Map.{layer_words}
use Rattle.cvm_model.specs.Stands.{Site}
use Rattle.layer_contract.specs.Layer.{layer_entry, Inside, FramesStay, command_due, EndsNamed, NoneIsDue, ComesBy, IsEntry}
use Rattle.real_layer.specs.Runs.{BlockIsLinked, Calm, block_program, StaysBetween}
use Rattle.real_layer.proofs.StandsByFunctions.{words_of, behind}
use Rattle.real_layer.proofs.BlocksRun.{sound, holds}
use Rattle.real_layer.proofs.EntryToEntry.{IsApart, no_entry, frames_same, joins, way_from}
use Rattle.real_layer.proofs.RunsBetweenEntries.{Below, Arrives, Enters}

-- what such a step leaves as it was
pub record Left (x : Environment) (s t : State) : Type 0 where
  pub fits : Fits x t
  pub no_reset : t.reset ≡ s.reset
  pub memory : t.memory ≡ s.memory
  pub device : t.device ≡ s.device
  pub log : t.log ≡ s.log
  pub input : t.input ≡ s.input

-- the disk rests
still : (d : Device) → d.pending ≡ Idle → disk_counted d ≡ d
still d idle = ap (λ p. settled p d) idle

inside_of : (x : Environment) (y : Site) (s : State) → Calm x y s → Inside s
inside_of x y s c = record { on = c.quiet.on; mode = c.quiet.mode; sr = c.quiet.sr; no_reset = c.quiet.no_reset }

-- one step from among these words
pub single : NoneIsDue → (x : Environment) (y : Site) (a b : ℕ) (s : State) → IsApart a b → Calm x y s → 4 * a ≤ s.cpu.pc → s.cpu.pc < 4 * b → (step x s).device ≡ s.device → (step x s).memory ≡ s.memory → StaysBetween x y 1 s
single none x y a b s apart c low top same memory = record {
  inside = λ j lt. let z : 0 ≡ j = omega arith in subst (λ j. Inside (run x s j)) z (inside_of x y s c);
  below = λ j lt. let z : 0 ≡ j = omega arith in subst (λ j. (run x s j).cpu.pc < 4 * layer_words) z (⊎_elim (λ e. omega arith) (λ e. let e1 = e.1 in omega arith) apart);
  apart = λ j e lt is. let z : 0 ≡ j = omega arith in subst (λ j. (run x s j).cpu.pc ≢ layer_entry e) z (no_entry a b s.cpu.pc apart low top e is);
  sectors = elim [ zero ↦ λ le q past. refl | suc j ↦ λ le q past. let z : 0 ≡ j = omega arith in subst (λ j. sector_of (run x s (suc j)).device.sectors q ≡ sector_of s.device.sectors q) z (ap (λ (d : Device). sector_of d.sectors q) same) ];
  frames = elim [ zero ↦ λ le. frames_same y.map s s refl | suc j ↦ λ le. let z : 0 ≡ j = omega arith in subst (λ j. FramesStay y.map s (run x s (suc j))) z (frames_same y.map s (step x s) memory) ];
  named = λ j lt. let z : 0 ≡ j = omega arith in
      let free : command_due x s ≡ Idle = none x s c.quiet.on c.idle (ap (λ (d : Device). d.commands) same) in
      subst (λ j. EndsNamed x y.map (run x s j)) z (subst (NamesSector (y.map.users * y.map.params.pages)) (sym free) tt);
}

module _ (words : StaysFitting) (stands : (n : ℕ) (is : List Inst) → BlockStands n is) (x : Environment) (y : Site) (s : State) (n : ℕ) (is : List Inst) (at : BlockIsLinked y n is) (c : Calm x y s) where
  -- a store to the power port
  pub record Off (v : ℕ) (t : State) : Type 0 where
    pub off : t.off ≡ Some v
    pub special : t.special ≡ s.special
    pub stays : Left x s t

  pub powers : PowerEnds → (rt imm v : ℕ) → only_block_at n is (s.cpu.pc / 4) ≡ Some (Sw rt 0 imm) → sum 0 (extended imm) ≡ 4 * POWER → slice_index s.cpu.regs rt ≡ v → Off v (step x s)
  powers ends rt imm v code port value =
      let none : slice_index s.cpu.regs 0 ≡ 0 = c.quiet.fits.cpu.regs.none in
      let after : State = record (latched x s) { off = Some (slice_index s.cpu.regs rt); cpu = advanced s.cpu } in
      let is' : step x s ≡ step_ended after =
      ends x (block_program y s.memory n is) s rt 0 imm (sound stands x y s n is at c) c.quiet (holds stands x y s n is at c) code (ap (λ r. sum r (extended imm)) none ∙ port) in
      record {
        off = ap (λ (z : State). z.off) is' ∙ ap Some value;
        special = ap (λ (z : State). z.special) is';
        stays = record {
          fits = (words x s 1 c.quiet.fits).0;
          no_reset = ap (λ (z : State). z.reset) is';
          memory = ap (λ (z : State). z.memory) is';
          device = ap (λ (z : State). z.device) is' ∙ still s.device c.idle;
          log = ap (λ (z : State). z.log) is';
          input = ap (λ (z : State). z.input) is';
        };
      }

  -- eret
  pub record Gone (t : State) : Type 0 where
    pub off : t.off ≡ s.off
    pub special : t.special ≡ left s.special
    pub cpu : t.cpu ≡ record s.cpu { pc = slice_index s.special EPC }
    pub stays : Left x s t

  pub goes : EretLeaves → only_block_at n is (s.cpu.pc / 4) ≡ Some Eret → Gone (step x s)
  goes leaves code =
      let after : State = record (latched x s) { special = left s.special; cpu = record s.cpu { pc = slice_index s.special EPC } } in
      let is' : step x s ≡ step_ended after = leaves x (block_program y s.memory n is) s (sound stands x y s n is at c) c.quiet (holds stands x y s n is at c) code in
      record {
        off = ap (λ (z : State). z.off) is';
        special = ap (λ (z : State). z.special) is';
        cpu = ap (λ (z : State). z.cpu) is';
        stays = record {
          fits = (words x s 1 c.quiet.fits).0;
          no_reset = ap (λ (z : State). z.reset) is';
          memory = ap (λ (z : State). z.memory) is';
          device = ap (λ (z : State). z.device) is' ∙ still s.device c.idle;
          log = ap (λ (z : State). z.log) is';
          input = ap (λ (z : State). z.input) is';
        };
      }

-- what words and ports show is then as before
pub left_words : (x : Environment) (s t : State) → Left x s t → words_of t ≡ words_of s
left_words x s t l = ap₂ (λ m (d : Device). space m d.buffer d.sector) l.memory l.device

pub left_behind : (x : Environment) (s t : State) → Left x s t → behind t ≡ behind s
left_behind x s t l = ap (λ (d : Device). behind_of d t.log t.input) l.device ∙ ap₂ (behind_of s.device) l.log l.input

-- from an entry through its routine to a last step: a way to where Q holds
pub comes_by : Below → (x : Environment) (y : Site) (s : State) (to m most : ℕ) (t : CodeState) (Q : State → Type 0) → Enters x y to s → (a : Arrives x y m (run x s 1) t) → StaysBetween x y 1 (run x (run x s 1) a.steps)
    → Q (step x (run x (run x s 1) a.steps)) → m + 2 ≤ most → ComesBy x y IsEntry most s Q
comes_by z x y s to m most t Q e a b q le =
    let s1 : State = run x s 1 in
    let am : a.steps ≤ m = a.within in
    let there : run x s (1 + (a.steps + 1)) ≡ step x (run x s1 a.steps) = z.sum x s 1 (a.steps + 1) ∙ z.sum x s1 a.steps 1 in
    record {
      steps = 1 + (a.steps + 1);
      within = omega arith;
      way = way_from z.sum x y (a.steps + 1) s e.inside e.sectors e.frames e.named (joins z.sum x y a.steps 1 s1 a.between b);
      there = subst Q (sym there) q;
    }

-- the same with no last step
pub comes_at : Below → (x : Environment) (y : Site) (s : State) (to m most : ℕ) (t : CodeState) (Q : State → Type 0) → Enters x y to s → (a : Arrives x y m (run x s 1) t) → Q (run x (run x s 1) a.steps) → m + 1 ≤ most → ComesBy x y IsEntry most s Q
comes_at z x y s to m most t Q e a q le =
    let am : a.steps ≤ m = a.within in
    record { steps = 1 + a.steps; within = omega arith; way = way_from z.sum x y a.steps s e.inside e.sectors e.frames e.named a.between; there = subst Q (sym (z.sum x s 1 a.steps)) q }
