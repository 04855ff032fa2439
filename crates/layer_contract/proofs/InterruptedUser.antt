-- An interrupt of a user: the state in which it is taken is that of the step, and its cause isn't the reset.
use Rattle.std.proofs.Common.{◌≡◌, ◌≢◌, ℕ, ◌/◌, ◌&&◌, Option, Some, None, Bool, true, false, not, nat_lt, length, slice_index, refl, sym, ap, ◌∙◌, subst, true≢false, lt-ltb, ltb-true, eqb-true}
use Rattle.std.specs.Prelude.{◌==◌, if◌then◌else◌}
use Rattle.std.proofs.lemmas.Bool.{cond-true, cond-false, cond_both}
use Rattle.mips_table.specs.declared.inst.Inst.{Inst}
use Rattle.mips_table.specs.declared.inst.Inst.TheVariants.{Mfc0, Mtc0, Eret}
use Rattle.mips_table.specs.declared.cause.Cause.{Cause}
use Rattle.mips_table.specs.declared.cause.Cause.TheVariants as causes
use Rattle.mips_table.specs.declared.effect.Effect.{Effect}
use Rattle.mips_table.specs.declared.effect.Effect.TheVariants.{Set, Wide, Load, Store, Overflow, Call, System}
use Rattle.mips_table.specs.Decoding.{decoding}
use Rattle.mips_table.specs.Device.{Environment}
use Rattle.mips_table.specs.declared.special.TheConstants.{SR}
use Rattle.mips_table.specs.Machine.{cause_number, in_system}
use Rattle.mips_table.specs.Processor.{Cpu, Access, Move, Ran, Loaded, Stored, Trapped, Privileged, is_aligned, accessed, performed, executed, effect_on, move}
use Rattle.mips_table.specs.Machine.{State, Coming, Interrupt, Done, located, after_read_at, access, fetch, fetched, privileged, moved, latched, coming}
use Rattle.cvm_model.specs.Kernel.{Core}
use Rattle.cvm_model.specs.Stands.{Site}
use Rattle.layer_contract.specs.Users.{UsersAreInterrupted}
use Rattle.layer_contract.proofs.AddressesStand.{Place, Past, Faults, There, Known, place}
use Rattle.layer_contract.proofs.WordsInFrames.{word_is}

-- a cause that isn't the reset
abbrev IsLater : Move → Type 0
IsLater (Trapped cause edata epc) = cause_number cause ≢ 0
IsLater other = Unit {0}

accessed_later : (may : Bool) (m r : Cause) (a pc : ℕ) (go : Move) → cause_number m ≢ 0 → cause_number r ≢ 0 → IsLater go → IsLater (accessed may m r a pc go)
accessed_later may m r a pc go hm hr hg =
    cond_both (not (is_aligned a)) (Trapped m a pc) (if not may then Trapped r a pc else go) IsLater (λ _. hm) (λ _. cond_both (not may) (Trapped r a pc) go IsLater (λ _. hr) (λ _. hg))

performed_later : (a : Access) (c : Cpu) (word : ℕ) (e : Effect) → IsLater (performed a c word e)
performed_later a c word (Set r v to) = tt
performed_later a c word (Wide hi lo to) = tt
performed_later a c word (Load r address) = accessed_later (a.may_load address) causes.DataAlign causes.DataFault address c.pc _ (λ e. absurd (cc)) (λ e. absurd (cc)) tt
performed_later a c word (Store address v) = accessed_later (a.may_store address) causes.DataAlign causes.DataFault address c.pc _ (λ e. absurd (cc)) (λ e. absurd (cc)) tt
performed_later a c word Overflow = λ e. absurd (cc)
performed_later a c word Call = λ e. absurd (cc)
performed_later a c word System = tt

executed_later : (a : Access) (c : Cpu) (word : ℕ) (o : Option Inst) → IsLater (executed a c word o)
executed_later a c word None = λ e. absurd (cc)
executed_later a c word (Some i) = performed_later a c word (effect_on i c)

move_later : (a : Access) (c : Cpu) (word : ℕ) → IsLater (move a c word)
move_later a c word = accessed_later (a.may_fetch c.pc) causes.FetchAlign causes.FetchFault c.pc c.pc _ (λ e. absurd (cc)) (λ e. absurd (cc)) (executed_later a c word (decoding word))

-- an interrupt is taken in this state, with another cause than the reset
abbrev TakenIn : State → Coming → Type 0
TakenIn t (Interrupt before cause edata epc) = (before ≡ t) × (cause_number cause ≢ 0)
TakenIn t (Done after) = Unit {0}

privileged_in : (t : State) (word : ℕ) (o : Option Inst) → TakenIn t (privileged t word o)
privileged_in t word (Some (Mfc0 rt k)) = tt
privileged_in t word (Some (Mtc0 rt k)) = tt
privileged_in t word (Some Eret) = tt
privileged_in t word other = (refl, λ e. absurd (cc))

moved_in : (x : Environment) (t : State) (m : Move) → IsLater m → TakenIn t (moved x t m)
moved_in x t (Ran c) h = tt
moved_in x t (Loaded c r address) h = tt
moved_in x t (Stored c address v) h = tt
moved_in x t (Trapped cause edata epc) h = (refl, h)
moved_in x t (Privileged word) h =
    cond_both (in_system t.special) (privileged t word (decoding word)) (Interrupt t causes.Illegal word t.cpu.pc) (TakenIn t) (λ _. privileged_in t word (decoding word)) (λ _. (refl, λ e. absurd (cc)))

pub left : (a b : Bool) → (a && b) ≡ true → a ≡ true
left true b e = refl
left false b e = e

pub right : (a b : Bool) → (a && b) ≡ true → b ≡ true
right true b e = e
right false b e = absurd (cc)

read_keeps : (s : State) (a : ℕ) → nat_lt (a / 4) (length s.memory) ≡ true → after_read_at s (Some a) ≡ s
read_keeps s a e = rw e refl

-- a fetch of a user takes nothing
pub fetches : (x : Environment) (y : Site) (s : State) (c : Core) → Known x y s c → fetched (latched x s) ≡ latched x s
fetches x y s c k = by (is_aligned s.cpu.pc) refl
  where
    at : (o : Option ℕ) → is_aligned s.cpu.pc ≡ true → located s false s.cpu.pc ≡ o → fetched (latched x s) ≡ after_read_at (latched x s) o
    at o a e = cond-true (is_aligned s.cpu.pc) (after_read_at (latched x s) (located s false s.cpu.pc)) (latched x s) a ∙ ap (after_read_at (latched x s)) e

    placed : is_aligned s.cpu.pc ≡ true → Place y.map s c false s.cpu.pc → fetched (latched x s) ≡ latched x s
    placed a (Past e is) = at None a is
    placed a (Faults e h is) = at None a is
    placed a (There e pa frame is names free there) = at (Some pa) a is ∙ read_keeps (latched x s) pa (lt-ltb _ _ (word_is x y s c k s.cpu.pc (ltb-true _ _ e) frame names pa there).0)

    by : (t : Bool) → is_aligned s.cpu.pc ≡ t → fetched (latched x s) ≡ latched x s
    by true e = placed e (place x y s c k false s.cpu.pc)
    by false e = cond-false (is_aligned s.cpu.pc) (after_read_at (latched x s) (located s false s.cpu.pc)) (latched x s) e

pub users_are : UsersAreInterrupted
users_are x y s c before cause edata epc p e =
    let k : Known x y s c = record { range = p.range; mode = eqb-true _ _ (right _ _ p.back.user); runs = p.back.stands.users.runs p.back.user; stands = p.back.stands } in
    let l : State = latched x s in
    let m : Move = move (access l) s.cpu (fetch l) in
    let external : Coming = Interrupt l causes.External l.mask s.cpu.pc in
    let line : Bool = slice_index s.special SR == 1 && not (l.mask == 0) in
    let executes : TakenIn l (moved x (fetched l) m) = subst (λ t. TakenIn l (moved x t m)) (sym (fetches x y s c k)) (moved_in x l m (move_later (access l) s.cpu (fetch l))) in
    let lines : TakenIn l (if line then external else moved x (fetched l) m) = cond_both line external (moved x (fetched l) m) (TakenIn l) (λ _. (refl, λ e. absurd (cc))) (λ _. executes) in
    let all : TakenIn l (coming x l) = cond_both s.reset (Interrupt l causes.Reset 0 s.cpu.pc) (if line then external else moved x (fetched l) m) (TakenIn l) (λ r. absurd (true≢false (sym r ∙ p.back.stands.no_reset))) (λ _. lines) in
    let here : TakenIn l (Interrupt before cause edata epc) = subst (TakenIn l) e all in
    record { state = here.0; later = here.1 }
