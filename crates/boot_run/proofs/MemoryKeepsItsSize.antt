-- No step changes how many words memory has.
-- It serves `saved_boots_are_of_runs` alone.
use Rattle.std.proofs.Common.{◌≡◌, ℕ, zero, suc, ◌/◌, ◌&&◌, Option, Some, None, true, false, not, cond, slice_index, slice_set, refl, ◌∙◌}
use Rattle.std.specs.Prelude.{◌==◌, nat_lt, length, drop, ◌++◌, ◌∷◌, []}
use Rattle.std.proofs.lemmas.Bool.{cond_both}
use Rattle.std.proofs.lemmas.List.{length-set}
use Rattle.mips_table.specs.declared.cause.Cause.{Cause}
use Rattle.mips_table.specs.declared.cause.Cause.TheVariants as causes
use Rattle.mips_table.specs.declared.inst.Inst.{Inst}
use Rattle.mips_table.specs.declared.inst.Inst.TheVariants.{Mfc0, Mtc0, Eret}
use Rattle.mips_table.specs.Device.{Environment, POWER, port_write}
use Rattle.mips_table.specs.Decoding.{decoding}
use Rattle.mips_table.specs.Processor.{Move, Ran, Loaded, Stored, Trapped, Privileged, is_aligned, move}
use Rattle.mips_table.specs.declared.special.TheConstants.{SR}
use Rattle.mips_table.specs.Machine.{State, LOG, INPUT, LOG_ROOM, Coming, Interrupt, Done, in_system, located, after_read, after_read_at, port_written, written_at, access, privileged, moved, fetch, fetched, coming, cleared, come_to, latched, if_on, step, run}

abbrev Kept : State → State → Type 0
Kept s t = length t.memory ≡ length s.memory

after_read_kept : (s : State) (k : ℕ) → Kept s (after_read s k)
after_read_kept s k = cond_both (nat_lt k (length s.memory)) s (cond (k == INPUT) (record s { input = drop 1 s.input }) s) (λ (t : State). length t.memory ≡ length s.memory) (λ _. refl)
    (λ _. cond_both (k == INPUT) (record s { input = drop 1 s.input }) s (λ (t : State). length t.memory ≡ length s.memory) (λ _. refl) (λ _. refl))

after_read_at_kept : (s : State) (o : Option ℕ) → Kept s (after_read_at s o)
after_read_at_kept s None = refl
after_read_at_kept s (Some address) = after_read_kept s _

port_written_kept : (x : Environment) (s : State) (k value : ℕ) → Kept s (port_written x s k value)
port_written_kept x s k value =
    cond_both (k == POWER) (record s { off = Some value }) _ (λ (t : State). length t.memory ≡ length s.memory) (λ _. refl)
    (λ _. cond_both (k == LOG) (cond (nat_lt (length s.log) LOG_ROOM) (record s { log = s.log ++ value ∷ [] }) s) (record s { device = port_write x.busy x.count s.device k value }) (λ (t : State). length t.memory ≡ length s.memory)
    (λ _. cond_both (nat_lt (length s.log) LOG_ROOM) (record s { log = s.log ++ value ∷ [] }) s (λ (t : State). length t.memory ≡ length s.memory) (λ _. refl) (λ _. refl))
    (λ _. refl))

written_at_kept : (x : Environment) (s : State) (o : Option ℕ) (value : ℕ) → Kept s (written_at x s o value)
written_at_kept x s None value = refl
written_at_kept x s (Some address) value =
    cond_both (nat_lt (address / 4) (length s.memory)) (record s { memory = slice_set s.memory (address / 4) value }) (port_written x s (address / 4) value) (λ (t : State). length t.memory ≡ length s.memory)
    (λ _. length-set s.memory (address / 4) value) (λ _. port_written_kept x s (address / 4) value)

-- what comes keeps both
ComingKept : State → Coming → Type 0
ComingKept s (Interrupt before cause edata epc) = Kept s before
ComingKept s (Done after) = Kept s after

privileged_kept : (s : State) (word : ℕ) (o : Option Inst) → ComingKept s (privileged s word o)
unfolding ComingKept
privileged_kept s word None = refl
privileged_kept s word (Some (Mfc0 rt special)) = refl
privileged_kept s word (Some (Mtc0 rt special)) = refl
privileged_kept s word (Some Eret) = refl
privileged_kept s word (Some other) = refl

moved_kept : (x : Environment) (s : State) (m : Move) → ComingKept s (moved x s m)
unfolding ComingKept
moved_kept x s (Ran c) = refl
moved_kept x s (Loaded c register address) = after_read_at_kept s (located s false address)
moved_kept x s (Stored c address value) = written_at_kept x s (located s true address) value
moved_kept x s (Trapped cause edata epc) = refl
moved_kept x s (Privileged word) = cond_both (in_system s.special) (privileged s word (decoding word)) (Interrupt s causes.Illegal word s.cpu.pc) (ComingKept s) (λ _. privileged_kept s word (decoding word)) (λ _. refl)

fetched_kept : (s : State) → Kept s (fetched s)
fetched_kept s = cond_both (is_aligned s.cpu.pc) (after_read_at s (located s false s.cpu.pc)) s (λ (t : State). length t.memory ≡ length s.memory) (λ _. after_read_at_kept s _) (λ _. refl)

from_kept : (s t : State) (o : Coming) → Kept s t → ComingKept t o → ComingKept s o
unfolding ComingKept
from_kept s t (Interrupt before cause edata epc) a b = b ∙ a
from_kept s t (Done after) a b = b ∙ a

coming_kept : (x : Environment) (s : State) → ComingKept s (coming x s)
unfolding ComingKept
coming_kept x s =
    cond_both s.reset (Interrupt s causes.Reset 0 s.cpu.pc) _ (ComingKept s) (λ _. refl)
    (λ _. cond_both (slice_index s.special SR == 1 && not (s.mask == 0)) (Interrupt s causes.External s.mask s.cpu.pc) (moved x (fetched s) (move (access s) s.cpu (fetch s))) (ComingKept s) (λ _. refl)
    (λ _. from_kept s (fetched s) _ (fetched_kept s) (moved_kept x (fetched s) (move (access s) s.cpu (fetch s)))))

cleared_kept : (cause : Cause) (s : State) → Kept s (cleared cause s)
cleared_kept causes.Reset s = refl
cleared_kept causes.External s = refl
cleared_kept other s = refl

come_kept : (s : State) (o : Coming) → ComingKept s o → Kept s (come_to o)
unfolding ComingKept
come_kept s (Interrupt before cause edata epc) h = cleared_kept cause before ∙ h
come_kept s (Done after) h = h

step_kept : (x : Environment) (s : State) → Kept s (step x s)
unfolding step
step_kept x s = by s.off
  where
    by : (o : Option ℕ) → Kept s (if_on x s o)
    by (Some word) = refl
    by None = come_kept (latched x s) (coming x (latched x s)) (coming_kept x (latched x s))

run_kept : (x : Environment) (s : State) (n : ℕ) → Kept s (run x s n)
run_kept x s zero = refl
run_kept x s (suc n) = step_kept x (run x s n) ∙ run_kept x s n

pub stays_whole : (x : Environment) (s : State) (n : ℕ) → length (run x s n).memory ≡ length s.memory
stays_whole x s n = run_kept x s n
