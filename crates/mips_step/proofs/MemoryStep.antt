-- Over a bus that is a memory, a step ends as the one definition of a step says: the laws of the bus turn its own
-- accesses, of which the step's contract speaks, into those of the memory that is seen.
use Rattle.std.proofs.Common.{◌≡◌, ℕ, Bool, true, false, not, cond, Option, Some, None, ap, ◌∙◌, subst}
use Rattle.std.specs.Bool.{MatchBool}
use Rattle.mips_table.specs.declared.inst.Inst.{Inst}
use Rattle.mips_table.specs.declared.cause.Cause.{Cause}
use Rattle.mips_table.specs.declared.cause.Cause.TheVariants as causes
use Rattle.mips_table.specs.declared.effect.Effect.{Effect}
use Rattle.mips_table.specs.declared.effect.Effect.TheVariants.{Set, Wide, Load, Store, Overflow, Call, System}
use Rattle.mips_table.specs.Decoding.{decoding}
use Rattle.mips_table.specs.Processor.{Cpu, Access, Move, Loaded, Stored, Trapped, with_loaded, advanced, is_aligned, accessed, performed, executed, effect_on}
use Rattle.mips_step.specs.Step.{StepOutcome, took_place, trapped_to, EffectPerforms, Executes, StepsOver}
use Rattle.mips_step.specs.Ends.{StepEnds, BusReads, StepsInMemory}

-- a test that is told by MatchBool
choose : (b : Bool) (P Q : Type 0) (E : Move → Type 0) (x y : Move) → MatchBool b P Q → (P → E x) → (Q → E y) → E (cond (not b) y x)
choose true P Q E x y h f g = f h
choose false P Q E x y h f g = g h

-- the same, where what is seen depends on the tests too
choose_both : {V : Type 0} (aligned may : Bool) (P Q R : Type 0) (E : V → Move → Type 0) (here there : V) (x y z : Move) → MatchBool aligned (MatchBool may P Q) R →
    (P → E there x) → (Q → E here y) → (R → E here z) → E (cond aligned (cond may there here) here) (cond (not aligned) z (cond (not may) y x))
choose_both true true P Q R E here there x y z h f g k = f h
choose_both true false P Q R E here there x y z h f g k = g h
choose_both false may P Q R E here there x y z h f g k = k h

-- the bus: what it may do, its accesses, what is seen of it, and the laws that tie them
module _ {S V : Type 0} (may_fetch may_load may_store : S → ℕ → Bool) (loads stores : S → ℕ → ℕ → S → Type 0)
    (view : S → V) (access : V → Access) (word : V → ℕ → ℕ) (read : V → ℕ → V) (written : V → ℕ → ℕ → V)
    (fetches_seen : (s : S) (a : ℕ) → may_fetch s a ≡ (access (view s)).may_fetch a)
    (loads_seen : (s : S) (a : ℕ) → may_load s a ≡ (access (view s)).may_load a)
    (stores_seen : (s : S) (a : ℕ) → may_store s a ≡ (access (view s)).may_store a)
    (reads : (s : S) (a value : ℕ) (t : S) → loads s a value t → BusReads word read (view s) a value (view t))
    (writes : (s : S) (a value : ℕ) (t : S) → stores s a value t → view t ≡ written (view s) a value)
    (access_stays : (s : S) (a value : ℕ) (t : S) → loads s a value t → access (view t) ≡ access (view s))
  where
    E : Cpu → V → StepOutcome → S → Move → Type 0
    E cpu v end new m = StepEnds access word read written cpu v m end (view new)

    trapped : (cpu : Cpu) (mid : S) (cause : Cause) (edata epc : ℕ) (end : StepOutcome) (new : S) → (end ≡ trapped_to cpu cause edata epc) × (new ≡ mid) → E cpu (view mid) end new (Trapped cause edata epc)
    unfolding E
    trapped cpu mid cause edata epc end new h = (h.0, ap view h.1)

    reached : (cpu : Cpu) (mid : S) (asked may : Bool) (seen : asked ≡ may) (address : ℕ) (end : StepOutcome) (new : S) (Does : Type 0) (m : Move) →
        MatchBool (is_aligned address) (MatchBool asked Does ((end ≡ trapped_to cpu causes.DataFault address cpu.pc) × (new ≡ mid))) ((end ≡ trapped_to cpu causes.DataAlign address cpu.pc) × (new ≡ mid)) →
        (Does → E cpu (view mid) end new m) → E cpu (view mid) end new (accessed may causes.DataAlign causes.DataFault address cpu.pc m)
    reached cpu mid asked may seen address end new Does m h f =
        let T : Cause → Type 0 = λ c. (end ≡ trapped_to cpu c address cpu.pc) × (new ≡ mid) in
        choose (is_aligned address) (MatchBool asked Does (T causes.DataFault)) (T causes.DataAlign) (E cpu (view mid) end new) _ _ h
        (λ g. choose may Does (T causes.DataFault) (E cpu (view mid) end new) _ _ (subst (λ b. MatchBool b Does (T causes.DataFault)) seen g) f (λ t. trapped cpu mid causes.DataFault address cpu.pc end new t))
        (λ t. trapped cpu mid causes.DataAlign address cpu.pc end new t)

    performs : (cpu : Cpu) (mid : S) (code : ℕ) (effect : Effect) (end : StepOutcome) (new : S) → EffectPerforms may_fetch may_load may_store loads stores cpu mid code effect end new → E cpu (view mid) end new (performed (access (view mid)) cpu code effect)
    unfolding E
    performs cpu mid code (Set register value to) end new h = (h.0, ap view h.1)
    performs cpu mid code (Wide hi lo to) end new h = (h.0, ap view h.1)
    performs cpu mid code (Load register address) end new h =
        reached cpu mid _ _ (loads_seen mid address) address end new _ (Loaded (advanced cpu) register address) h
        (λ d. let r = reads mid address d.0 new d.1 in (d.2 ∙ ap (λ v. took_place (with_loaded (advanced cpu) register v)) r.0, r.1))
    performs cpu mid code (Store address value) end new h =
        reached cpu mid _ _ (stores_seen mid address) address end new _ (Stored (advanced cpu) address value) h (λ d. (d.1, writes mid address value new d.0))
    performs cpu mid code Overflow end new h = (h.0, ap view h.1)
    performs cpu mid code Call end new h = (h.0, ap view h.1)
    performs cpu mid code System end new h = (h.0, ap view h.1)

    executes : (cpu : Cpu) (mid : S) (code : ℕ) (inst : Option Inst) (end : StepOutcome) (new : S) → Executes may_fetch may_load may_store loads stores cpu mid code inst end new → E cpu (view mid) end new (executed (access (view mid)) cpu code inst)
    executes cpu mid code None end new h = trapped cpu mid causes.Illegal code cpu.pc end new h
    executes cpu mid code (Some inst) end new h = performs cpu mid code (effect_on inst cpu) end new h

    -- what StepsOver says is what the one definition says
    pub ends : (cpu : Cpu) (old : S) (end : StepOutcome) (new : S) → StepsOver may_fetch may_load may_store loads stores cpu old end new → StepsInMemory access word read written cpu (view old) end (view new)
    unfolding E
    ends cpu old end new h =
        let T : Cause → Type 0 = λ c. (end ≡ trapped_to cpu c cpu.pc cpu.pc) × (new ≡ old) in
        let Does : Type 0 = (code : ℕ) × (mid : S) × loads old cpu.pc code mid × Executes may_fetch may_load may_store loads stores cpu mid code (decoding code) end new in
        let v : V = view old in
        let at : Access → V → ℕ → Type 0 = λ a seen code. E cpu seen end new (executed a cpu code (decoding code)) in
        choose_both (is_aligned cpu.pc) ((access v).may_fetch cpu.pc) Does (T causes.FetchFault) (T causes.FetchAlign) (λ seen m. E cpu seen end new m) v (read v cpu.pc) _ _ _
        (subst (λ b. MatchBool (is_aligned cpu.pc) (MatchBool b Does (T causes.FetchFault)) (T causes.FetchAlign)) (fetches_seen old cpu.pc) h)
        (λ d. let r = reads old cpu.pc d.0 d.1 d.2 in
        let g : at (access (view d.1)) (view d.1) d.0 = executes cpu d.1 d.0 (decoding d.0) end new d.3 in
        subst (λ seen. at (access v) seen (word v cpu.pc)) r.1 (subst (at (access v) (view d.1)) r.0 (subst (λ a. at a (view d.1) d.0) (access_stays old cpu.pc d.0 d.1 d.2) g)))
        (λ t. trapped cpu old causes.FetchFault cpu.pc cpu.pc end new t)
        (λ t. trapped cpu old causes.FetchAlign cpu.pc cpu.pc end new t)
