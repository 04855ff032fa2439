-- Arrivals: runs of blocks one after the other, from an entry or from the beginning of the handler, as steps of the machine between entries.
use Rattle.std.proofs.Common.{◌≡◌, ◌≢◌, ℕ, ◌+◌, ◌*◌, ◌/◌, ◌≤◌, Some, List, [], ◌∷◌, length, refl, sym, ap, ◌∙◌, subst, arith}
use Rattle.mips_table.specs.declared.inst.Inst.{Inst}
use Rattle.mips_table.specs.declared.inst.Inst.TheVariants.{J}
use Rattle.mips_table.specs.Device.{Idle, Environment}
use Rattle.mips_table.specs.Machine.{State, run}
use Rattle.mips_table.specs.Code.{Contents, World, Sound, CodeState, at_with, Steps, Reaches}
use Rattle.mips_table.specs.Simulation.{configuration_of, contents_of}
use Rattle.masm.specs.Laws.{RunsCompose, JumpsLead}
use Rattle.masm.specs.Standing.{BlockStands}
use Rattle.cvm_model.specs.Stands.{Site}
use Rattle.layer_contract.specs.Layer.{Inside, SectorsStay, FramesStay, EndsNamed, NoneIsDue}
use Rattle.real_layer.specs.Runs.{BlockIsLinked, Calm, block_world, MakesRun, BlocksRun, StaysBetween}
use Rattle.real_layer.proofs.StandsByFunctions.{words_of, behind}
use Rattle.real_layer.proofs.EntryToEntry.{IsApart, between_of, no_step, joins}

abbrev pub contents : State → Contents
contents s = contents_of s.cpu s.special (words_of s)

-- within so many steps, between entries, the machine comes to this configuration, calm
pub record Arrives (x : Environment) (y : Site) (most : ℕ) (s : State) (t : CodeState) : Type 0 where
  pub steps : ℕ
  pub within : steps ≤ most
  pub between : StaysBetween x y steps s
  pub there : configuration_of (run x s steps) ≡ t
  pub calm : Calm x y (run x s steps)
  pub size : length (run x s steps).memory ≡ length s.memory

-- what the proofs take from the crates below
pub record Below : Type 0 where
  pub sum : (x : Environment) (s : State) (m n : ℕ) → run x s (m + n) ≡ run x (run x s m) n
  pub blocks : BlocksRun
  pub stands : (n : ℕ) (is : List Inst) → BlockStands n is
  pub runs : RunsCompose
  pub jumps : (w : World) → Sound w → JumpsLead w
  pub none : NoneIsDue

-- it is there already
pub arrived : (x : Environment) (y : Site) (s : State) → Calm x y s → Arrives x y 0 s (configuration_of s)
arrived x y s c = record { steps = 0; within = omega arith; between = no_step x y s; there = refl; calm = c; size = refl }

-- a block's run
pub arrives : BlocksRun → (x : Environment) (y : Site) (s : State) (t : CodeState) (n : ℕ) (is : List Inst) (most : ℕ) → BlockIsLinked y n is → IsApart n (n + length is) → Calm x y s → t.behind.pending ≡ Idle
    → Reaches (block_world x y s n is) most (configuration_of s) t → Arrives x y most s t
arrives blocks x y s t n is most at apart c idle r =
    let m : MakesRun x y n is r.steps s t = blocks x y s t n is r.steps at c r.run in
    record { steps = r.steps; within = r.within; between = between_of x y n (n + length is) r.steps s apart m.stretch; there = m.there; calm = m.calm idle; size = m.size }

-- one after the other
pub arrives_on : Below → (x : Environment) (y : Site) (s : State) (m n : ℕ) (t u : CodeState) → (a : Arrives x y m s t) → Arrives x y n (run x s a.steps) u → Arrives x y (m + n) s u
arrives_on z x y s m n t u a b =
    let e : run x s (a.steps + b.steps) ≡ run x (run x s a.steps) b.steps = z.sum x s a.steps b.steps in
    let am : a.steps ≤ m = a.within in
    let bn : b.steps ≤ n = b.within in
    record {
      steps = a.steps + b.steps;
      within = omega arith;
      between = joins z.sum x y a.steps b.steps s a.between b.between;
      there = ap configuration_of e ∙ b.there;
      calm = subst (Calm x y) (sym e) b.calm;
      size = ap (λ (v : State). length v.memory) e ∙ b.size ∙ a.size;
    }

-- An entry is a jump: in one step the machine is at the routine's word, with all else as it was.
pub record Enters (x : Environment) (y : Site) (to : ℕ) (s : State) : Type 0 where
  pub there : configuration_of (run x s 1) ≡ at_with to (contents s) (behind s)
  pub calm : Calm x y (run x s 1)
  pub size : length (run x s 1).memory ≡ length s.memory
  pub inside : Inside s
  pub sectors : SectorsStay y.map s (run x s 1)
  pub frames : FramesStay y.map s (run x s 1)
  pub named : EndsNamed x y.map s

-- where the machine stands by its pc
pub stands_at : (s : State) (n : ℕ) → s.cpu.pc ≡ 4 * n → configuration_of s ≡ at_with n (contents s) (behind s)
stands_at s n e = let at : s.cpu.pc / 4 ≡ n = ap (λ p. p / 4) e ∙ omega arith in ap (λ k. at_with k (contents s) (behind s)) at

pub enters : Below → (x : Environment) (y : Site) (s : State) (n to : ℕ) → BlockIsLinked y n (J to ∷ []) → Calm x y s → s.cpu.pc ≡ 4 * n → n ≢ to → Sound (block_world x y s n (J to ∷ [])) → Enters x y to s
enters z x y s n to at c pc ne f =
    let w : World = block_world x y s n (J to ∷ []) in
    let t : CodeState = at_with to (contents s) (behind s) in
    let start : configuration_of s ≡ at_with n (contents s) (behind s) = stands_at s n pc in
    let code : w.code n ≡ Some (J to) = ((z.stands n (J to ∷ [])).stands w).0 in
    let jumped : Reaches w 1 (at_with n (contents s) (behind s)) t =
    z.runs.settled w 1 to (at_with n (contents s) (behind s)) (contents s) (behind s) c.idle ((z.jumps w f).jumped (J to) n to 0 0 (contents s) (behind s) code refl) in
    let r : Reaches w 1 (configuration_of s) t = subst (λ u. Reaches w 1 u t) (sym start) jumped in
    let some : 1 ≤ r.steps = z.runs.elsewhere w 1 (configuration_of s) t (λ e. ne (sym (ap (λ u. u.at) start) ∙ e)) r in
    let one : r.steps ≡ 1 = let most : r.steps ≤ 1 = r.within in omega arith in
    let m : MakesRun x y n (J to ∷ []) 1 s t = z.blocks x y s t n (J to ∷ []) 1 at c (subst (λ k. Steps w k (configuration_of s) t) one r.run) in
    record { there = m.there; calm = m.calm c.idle; size = m.size; inside = m.stretch.inside 0 (omega arith); sectors = m.stretch.sectors 1 (omega arith); frames = m.stretch.frames 1 (omega arith); named = m.stretch.named 0 (omega arith) }
