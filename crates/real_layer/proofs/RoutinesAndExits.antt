-- A routine from its entry on, and the exits of the kernel's faults: two instructions, and the machine is off with the fault's word.
use Rattle.std.proofs.Common.{◌≡◌, ◌≢◌, ℕ, ◌+◌, ◌*◌, ◌/◌, ◌%◌, ◌<◌, ◌≤◌, false, Some, List, [], ◌∷◌, length, slice_index, refl, sym, ap, ◌∙◌, subst, ⊎_elim, inr, true≢false, arith}
use Rattle.mips_table.specs.declared.inst.Inst.{Inst}
use Rattle.mips_table.specs.declared.inst.Inst.TheVariants.{J, Sw}
use Rattle.mips_table.specs.Device.{Idle, Environment}
use Rattle.mips_table.specs.Machine.{State, step, run}
use Rattle.mips_table.specs.Fits.{StaysFitting}
use Rattle.mips_table.specs.Code.{Behind, World, Sound, CodeState, at_with, CodeAt, Reaches}
use Rattle.mips_table.specs.Borders.{PowerEnds}
use Rattle.masm.specs.Standing.{only_block_at}
use Rattle.layer_map.specs.Map.{Map}
use Rattle.page_model.specs.Laws.{AlikesStand}
use Rattle.cvm_model.specs.Kernel.{Core, power_of}
use Rattle.cvm_model.specs.declared.kernel_fault.KernelFault.{KernelFault}
use Rattle.cvm_model.specs.declared.kernel_fault.KernelFault.TheVariants.{NullUse, Bounds, DivZero, StackOut, BadUser}
use Rattle.cvm_model.specs.declared.row.Next.TheVariants.{Fault}
use Rattle.cvm_model.specs.Cvm.{Status, Running, Faulted, leave_steps}
use Rattle.cvm_model.specs.Stands.{Site, RunningRelation, runs_user}
use Rattle.layer_contract.specs.declared.entry.Entry.TheVariants.{Fault as Exit}
use Rattle.layer_contract.specs.Layer.{Inside, IsAtEntry, ComesBy, IsEntry, Rested, Exits}
use Rattle.trap_entry.specs.Code.{exit_with_code}
use Rattle.trap_entry.specs.Laws.{RunComesTo, PassedOver, ExitsWith}
use Rattle.real_layer.specs.Image.{routine, routine_at, image_site, IsMade}
use Rattle.real_layer.specs.Premises.{Premises}
use Rattle.real_layer.specs.Runs.{BlockIsLinked, Calm, block_world}
use Rattle.real_layer.proofs.StandsByFunctions.{Shown, Order, order_of, words_of, behind, word_is, Follows, shown, stood}
use Rattle.real_layer.proofs.BlocksRun.{sound}
use Rattle.real_layer.proofs.PartsPlaced.{listed, linked_length, routine_fits, routine_stands, entry_stands}
use Rattle.real_layer.proofs.RunsBetweenEntries.{Below, Arrives, Enters, contents, arrives, enters}
use Rattle.real_layer.proofs.EndingSteps.{Left, single, Off, powers, left_words, left_behind, comes_by}

-- what the proofs of the ends take from the crates below
pub record Tools : Type 0 where
  pub below : Below
  pub words : StaysFitting
  pub alikes : AlikesStand

-- the premises give them
pub tools_of : Premises → Tools
tools_of p = record {
  below = record { sum = p.runs_join; blocks = p.blocks_run; stands = p.a_block_stands; runs = p.runs_compose; jumps = p.jumps_lead; none = p.no_command_is_due };
  words = p.words_stay_words;
  alikes = p.alikes_stand;
}

-- a machine that is inside runs no user
pub not_user : (s : State) → Inside s → runs_user s ≡ false
not_user s i = rw (i.on, i.mode) refl

module _ (m : Map) (sizes code : List ℕ) (made : IsMade m sizes code) where
  abbrev y : Site
  y = image_site m sizes code

  -- a machine that stands, inside and at a word, is calm
  pub calm_of : (x : Environment) (s : State) (status : Status) (c : Core) → RunningRelation x y s status c → Inside s → s.cpu.pc % 4 ≡ 0 → Calm x y s
  calm_of x s status c st i aligned =
      let o : Order m = order_of m made.range in
      let globals = o.globals in let heap = o.heap in let stack = o.stack in let tables = o.tables in let counts = o.counts in let zeros = o.zeros in
      let long = st.memory in
      let small = st.small in
      record {
        quiet = record { fits = st.fits; on = i.on; no_reset = i.no_reset; sr = i.sr; mode = i.mode; aligned = aligned };
        long = omega (arith, linked_length m sizes code made);
        small = omega arith;
        stays = st.kernel.linked;
        idle = st.idle;
        sectors = st.sectors;
      }

  -- a machine whose words and ports show the same as one that stands follows it
  pub follows_same : (x : Environment) (s t : State) (c : Core) → RunningRelation x y s Running c → Calm x y t → length t.memory ≡ length s.memory → words_of t ≡ words_of s → Follows x y s t
  follows_same x s t c st k size same =
      let o : Order m = order_of m made.range in
      let globals = o.globals in let heap = o.heap in let stack = o.stack in let tables = o.tables in let counts = o.counts in let zeros = o.zeros in
      let long = st.memory in
      record {
        fits = k.quiet.fits;
        no_reset = k.quiet.no_reset;
        size = size;
        kernel = λ j is. let lt : j < length s.memory = ⊎_elim (λ h. let h1 = h.1 in omega arith) (λ h. let h1 = h.1 in omega arith) is in
            sym (word_is t j (omega arith)) ∙ ap (λ g. g j) same ∙ word_is s j lt;
        linked = k.stays;
      }

  -- what a state is that stands at an entry, and the state after the entry's jump
  pub record Routed (k : ℕ) (is : List Inst) (x : Environment) (s : State) : Type 0 where
    pub calm : Calm x y s
    pub enters : Enters x y (routine_at m k) s
    pub stands : BlockIsLinked y (routine_at m k) is
    pub sound : Sound (block_world x y (run x s 1) (routine_at m k) is)
    pub block : CodeAt (block_world x y (run x s 1) (routine_at m k) is) (routine_at m k) is
    pub low : 2063 ≤ routine_at m k
    pub high : routine_at m k + length is ≤ 12288

  pub routed : Tools → (k : ℕ) (is : List Inst) (x : Environment) (s : State) (c : Core) → k < 15 → routine m k ≡ is → RunningRelation x y s Running c → Inside s → s.cpu.pc ≡ 4 * (2048 + k) → Routed k is x s
  routed z k is x s c lt same st i pc =
      let n : ℕ = routine_at m k in
      let b : Below = z.below in
      let calm : Calm x y s = calm_of x s Running c st i (ap (λ p. p % 4) pc ∙ omega arith) in
      let here : BlockIsLinked y (2048 + k) (J n ∷ []) = entry_stands m sizes code made k lt in
      let e : Enters x y n s = enters b x y s (2048 + k) n here calm pc (omega arith) (sound b.stands x y s (2048 + k) (J n ∷ []) here calm) in
      let there : BlockIsLinked y n is = subst (BlockIsLinked y n) same (routine_stands m sizes code made k lt) in
      record {
        calm = calm;
        enters = e;
        stands = there;
        sound = sound b.stands x y (run x s 1) n is there e.calm;
        block = (b.stands n is).stands (block_world x y (run x s 1) n is);
        low = omega arith;
        high = let f = routine_fits m sizes code made k lt in omega (arith, ap length same);
      }

  -- the run of the routine
  pub arrives_in : Tools → (k : ℕ) (is : List Inst) (x : Environment) (s : State) → (r : Routed k is x s) → (most : ℕ) (t : CodeState) → t.behind.pending ≡ Idle
      → Reaches (block_world x y (run x s 1) (routine_at m k) is) most (at_with (routine_at m k) (contents s) (behind s)) t → Arrives x y most (run x s 1) t
  arrives_in z k is x s r most t idle reaches =
      let low = r.low in let high = r.high in
      arrives z.below.blocks x y (run x s 1) t (routine_at m k) is most r.stands (inr (omega arith, omega arith)) r.enters.calm idle
      (subst (λ u. Reaches (block_world x y (run x s 1) (routine_at m k) is) most u t) (sym r.enters.there) reaches)

  -- the machine is off with this word, and stands for the same core
  pub record OffWith (x : Environment) (c : Core) (v : ℕ) (t : State) : Type 0 where
    pub off : t.off ≡ Some v
    pub stands : (status : Status) → (status ≡ Running → ⊥) → RunningRelation x y t status c

  -- it is where its words and ports show at the last store what they showed at the entry
  pub off_with : Tools → (x : Environment) (s : State) (c : Core) → RunningRelation x y s Running c → Inside s → (s2 t : State) (v : ℕ) → Calm x y s2 → length s2.memory ≡ length s.memory → words_of s2 ≡ words_of s → behind s2 ≡ behind s
      → t.off ≡ Some v → Left x s2 t → OffWith x c v t
  off_with z x s c st i s2 t v k size words same off l =
      let sh : Shown y c (words_of s) (behind s) = shown z.alikes x y s Running c made.range st (not_user s i) in
      let w : words_of t ≡ words_of s = left_words x s2 t l ∙ words in
      let b : behind t ≡ behind s = left_behind x s2 t l ∙ same in
      let f : Follows x y s s2 = follows_same x s s2 c st k size words in
      let none : runs_user t ≡ false = rw off refl in
      record {
        off = off;
        stands = λ status not. stood z.alikes x y s t Running status c c made.range st
            (record {
              fits = l.fits;
              no_reset = l.no_reset ∙ f.no_reset;
              size = ap length l.memory ∙ f.size;
              kernel = λ j is. ap (λ g. slice_index g j) l.memory ∙ f.kernel j is;
              linked = λ j lt own. ap (λ g. slice_index g j) l.memory ∙ f.linked j lt own;
            }) st.whole refl (subst (λ g. Shown y c g (behind t)) (sym w) (subst (Shown y c (words_of s)) (sym b) sh))
            (λ e. absurd (not e)) (λ run. absurd (true≢false (sym run ∙ none)));
      }

  -- from the entry of routine k to a store of v to the power port, in at most so many steps before it: the machine is off
  pub comes_off : Tools → PowerEnds → (k : ℕ) (is : List Inst) (x : Environment) (s : State) (c : Core) → RunningRelation x y s Running c → Inside s → (r : Routed k is x s) → (steps at rt v : ℕ) (Q : State → Type 0)
      → (g : RunComesTo (block_world x y (run x s 1) (routine_at m k) is) steps (routine_at m k) at (Sw rt 0 0xf008) (contents s) (behind s) (λ c' d'. PassedOver (contents s) (behind s) c' d' × (c'.regs rt ≡ v)))
      → steps + 2 ≤ leave_steps → ((t : State) → OffWith x c v t → Q t) → ComesBy x y IsEntry leave_steps s Q
  comes_off z ends k is x s c st i r steps at rt v Q g le q =
      let b : Below = z.below in
      let n : ℕ = routine_at m k in
      let low = r.low in let high = r.high in
      let s1 : State = run x s 1 in
      let u : CodeState = at_with at g.contents g.behind in
      let p : PassedOver (contents s) (behind s) g.contents g.behind = g.done.0 in
      let idle : g.behind.pending ≡ Idle = ap (λ (d : Behind). d.pending) p.behind ∙ r.calm.idle in
      let a : Arrives x y steps s1 u = arrives_in z k is x s r steps u idle g.reaches in
      let s2 : State = run x s1 a.steps in
      let at2 : s2.cpu.pc / 4 ≡ at = ap (λ (u : CodeState). u.at) a.there in
      let aligned = a.calm.quiet.aligned in
      let inside = (b.stands n is).inside at (Sw rt 0 0xf008) g.stands in
      let from = inside.0 in let to = inside.1 in
      let o : Off z.words b.stands x y s2 n is r.stands a.calm v (step x s2) =
      powers z.words b.stands x y s2 n is r.stands a.calm ends rt 0xf008 v (ap (only_block_at n is) at2 ∙ g.stands) refl (ap (λ (u : CodeState). u.contents.regs rt) a.there ∙ g.done.1) in
      let off : OffWith x c v (step x s2) =
      off_with z x s c st i s2 (step x s2) v a.calm (a.size ∙ r.enters.size) (ap (λ (u : CodeState). u.contents.memory) a.there ∙ p.memory) (ap (λ (u : CodeState). u.behind) a.there ∙ p.behind) o.off o.stays in
      comes_by b x y s n steps leave_steps u Q r.enters a (single b.none x y n (n + length is) s2 (inr (omega arith, omega arith)) a.calm (omega arith) (omega arith) o.stays.device o.stays.memory) (q (step x s2) off) le

  pub exits : Tools → PowerEnds → ((w : World) → Sound w → ExitsWith w) → Exits y
  exits z ends exit x s c f ne at = by f ne at
    where
      one : (f : KernelFault) → 1 ≤ power_of f → power_of f ≤ 4 → routine m (9 + power_of f) ≡ exit_with_code (power_of f) → IsAtEntry x y (Exit (power_of f)) c s → ComesBy x y IsEntry leave_steps s (Rested x y (Fault f) c)
      one f some few is at =
          let v : ℕ = power_of f in
          let r : Routed (9 + v) (exit_with_code v) x s = routed z (9 + v) (exit_with_code v) x s c (omega arith) is at.stands at.inside (at.pc ∙ omega arith) in
          comes_off z ends (9 + v) (exit_with_code v) x s c at.stands at.inside r 1 (routine_at m (9 + v) + 1) 8 v (Rested x y (Fault f) c)
          (exit (block_world x y (run x s 1) (routine_at m (9 + v)) (exit_with_code v)) r.sound v (routine_at m (9 + v)) (contents s) (behind s) (omega arith) r.block r.calm.idle) (omega arith)
          (λ t off. record { rests = off.off; stands = off.stands (Faulted f) (λ q. absurd (cc)) })

      by : (f : KernelFault) → f ≢ BadUser → IsAtEntry x y (Exit (power_of f)) c s → ComesBy x y IsEntry leave_steps s (Rested x y (Fault f) c)
      by NullUse ne at = one NullUse (omega arith) (omega arith) (listed m).null at
      by Bounds ne at = one Bounds (omega arith) (omega arith) (listed m).bounds at
      by DivZero ne at = one DivZero (omega arith) (omega arith) (listed m).zero_divisor at
      by StackOut ne at = one StackOut (omega arith) (omega arith) (listed m).stack at
      by BadUser ne at = absurd (ne refl)
