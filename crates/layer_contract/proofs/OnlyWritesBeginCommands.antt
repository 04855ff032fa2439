-- The command that the disk ends with a step: only a write to the command port begins one, and that is counted. So none is due where none was
-- under way and the count is as before.
use Rattle.std.proofs.Common.{◌≡◌, ◌⊎◌, ℕ, zero, suc, ◌+◌, ◌-◌, ◌/◌, Option, Some, None, Bool, true, false, not, ◌&&◌, nat_lt, length, slice_index, inl, inr, refl, sym, ap, ◌∙◌, subst, ⊎_elim, arith}
use Rattle.std.specs.Prelude.{◌==◌, if◌then◌else◌, ◌++◌, ◌∷◌, [], drop, slice_set}
use Rattle.std.proofs.lemmas.Bool.{cond_both}
use Rattle.mips_table.specs.declared.inst.Inst.{Inst}
use Rattle.mips_table.specs.declared.inst.Inst.TheVariants.{Mfc0, Mtc0, Eret}
use Rattle.mips_table.specs.declared.cause.Cause.{Cause}
use Rattle.mips_table.specs.declared.cause.Cause.TheVariants as causes
use Rattle.mips_table.specs.Decoding.{decoding}
use Rattle.mips_table.specs.Device.{Device, Pending, Idle, Reading, Writing, Environment, BUFFER, SECTOR, COMMAND, POWER, is_busy, is_buffer, command_begun, port_write, settled}
use Rattle.mips_table.specs.Processor.{Move, Ran, Loaded, Stored, Trapped, Privileged, is_aligned, move}
use Rattle.mips_table.specs.declared.special.TheConstants.{SR}
use Rattle.mips_table.specs.Machine.{LOG, INPUT, LOG_ROOM, State, Coming, Interrupt, in_system, located, access, fetch, after_read_at, port_written, written_at, privileged, moved, fetched, cleared, come_to, coming, latched, step_ended, if_on, step}
use Rattle.layer_contract.specs.Layer.{command_due, NoneIsDue}

-- the command under way is as before, or one more is numbered
abbrev Begins : Device → Device → Type 0
Begins d e = (e.pending ≡ d.pending) ⊎ (e.commands ≡ d.commands + 1)

same : (d e : Device) → e ≡ d → Begins d e
same d e is = inl (ap (λ (z : Device). z.pending) is)

begins : (busy : ℕ → ℕ) (count : ℕ) (d : Device) (v : ℕ) → Begins d (command_begun busy count d v)
begins busy count d v =
    let reading : Device = record d { pending = Reading (busy d.commands) d.sector; commands = d.commands + 1 } in
    let writing : Device = record d { pending = Writing (busy d.commands) d.sector; commands = d.commands + 1 } in
    cond_both (not (nat_lt d.sector count)) d (if v == 1 then reading else if v == 2 then writing else d) (Begins d) (λ _. inl refl)
    (λ _. cond_both (v == 1) reading (if v == 2 then writing else d) (Begins d) (λ _. inr refl)
    (λ _. cond_both (v == 2) writing d (Begins d) (λ _. inr refl) (λ _. inl refl)))

to_port : (busy : ℕ → ℕ) (count : ℕ) (d : Device) (k v : ℕ) → Begins d (port_write busy count d k v)
to_port busy count d k v =
    let fills : Device = record d { buffer = slice_set d.buffer (k - BUFFER) v } in
    let names : Device = record d { sector = v } in
    cond_both (is_busy d.pending) d (if k == COMMAND then command_begun busy count d v else if is_buffer k then fills else if k == SECTOR then names else d) (Begins d) (λ _. inl refl)
    (λ _. cond_both (k == COMMAND) (command_begun busy count d v) (if is_buffer k then fills else if k == SECTOR then names else d) (Begins d) (λ _. begins busy count d v)
    (λ _. cond_both (is_buffer k) fills (if k == SECTOR then names else d) (Begins d) (λ _. inl refl)
    (λ _. cond_both (k == SECTOR) names d (Begins d) (λ _. inl refl) (λ _. inl refl))))

-- a store
stored : (x : Environment) (s : State) (o : Option ℕ) (v : ℕ) → Begins s.device (written_at x s o v).device
stored x s None v = inl refl
stored x s (Some a) v =
    let k : ℕ = a / 4 in
    let log : State = if nat_lt (length s.log) LOG_ROOM then record s { log = s.log ++ v ∷ [] } else s in
    let disk : State = record s { device = port_write x.busy x.count s.device k v } in
    cond_both (nat_lt k (length s.memory)) (record s { memory = slice_set s.memory k v }) (port_written x s k v) (λ z. Begins s.device z.device) (λ _. inl refl)
    (λ _. cond_both (k == POWER) (record s { off = Some v }) (if k == LOG then log else disk) (λ z. Begins s.device z.device) (λ _. inl refl)
    (λ _. cond_both (k == LOG) log disk (λ z. Begins s.device z.device)
    (λ _. cond_both (nat_lt (length s.log) LOG_ROOM) (record s { log = s.log ++ v ∷ [] }) s (λ z. Begins s.device z.device) (λ _. inl refl) (λ _. inl refl))
    (λ _. to_port x.busy x.count s.device k v)))

-- a read
read_same : (s : State) (o : Option ℕ) → (after_read_at s o).device ≡ s.device
read_same s None = refl
read_same s (Some a) =
    let taken : State = record s { input = drop 1 s.input } in
    cond_both (nat_lt (a / 4) (length s.memory)) s (if a / 4 == INPUT then taken else s) (λ z. z.device ≡ s.device) (λ _. refl)
    (λ _. cond_both (a / 4 == INPUT) taken s (λ z. z.device ≡ s.device) (λ _. refl) (λ _. refl))

taken_same : (cause : Cause) (s : State) → (cleared cause s).device ≡ s.device
taken_same causes.Reset s = refl
taken_same causes.External s = refl
taken_same other s = refl

privileged_same : (s : State) (word : ℕ) (o : Option Inst) → (come_to (privileged s word o)).device ≡ s.device
privileged_same s word (Some (Mfc0 rt k)) = refl
privileged_same s word (Some (Mtc0 rt k)) = refl
privileged_same s word (Some Eret) = refl
privileged_same s word other = refl

-- the processor's move
moves : (x : Environment) (s : State) (m : Move) → Begins s.device (come_to (moved x s m)).device
moves x s (Ran c) = inl refl
moves x s (Loaded c r address) = same s.device _ (read_same s (located s false address))
moves x s (Stored c address v) = stored x s (located s true address) v
moves x s (Trapped cause edata epc) = same s.device _ (taken_same cause s)
moves x s (Privileged word) =
    cond_both (in_system s.special) (privileged s word (decoding word)) (Interrupt s causes.Illegal word s.cpu.pc) (λ o. Begins s.device (come_to o).device)
    (λ _. same s.device _ (privileged_same s word (decoding word))) (λ _. inl refl)

fetch_same : (s : State) → (fetched s).device ≡ s.device
fetch_same s = cond_both (is_aligned s.cpu.pc) (after_read_at s (located s false s.cpu.pc)) s (λ z. z.device ≡ s.device) (λ _. read_same s (located s false s.cpu.pc)) (λ _. refl)

-- what comes in a step
comes : (x : Environment) (s : State) → Begins s.device (come_to (coming x s)).device
comes x s =
    let m : Move = move (access s) s.cpu (fetch s) in
    let executes : Begins s.device (come_to (moved x (fetched s) m)).device = subst (λ d. Begins d (come_to (moved x (fetched s) m)).device) (fetch_same s) (moves x (fetched s) m) in
    let external : Coming = Interrupt s causes.External s.mask s.cpu.pc in
    let line : Bool = slice_index s.special SR == 1 && not (s.mask == 0) in
    cond_both s.reset (Interrupt s causes.Reset 0 s.cpu.pc) (if line then external else moved x (fetched s) m) (λ o. Begins s.device (come_to o).device) (λ _. inl refl)
    (λ _. cond_both line external (moved x (fetched s) m) (λ o. Begins s.device (come_to o).device) (λ _. inl refl) (λ _. executes))

-- the disk's count at the end of a step numbers no command
counts_none : (p : Pending) (d : Device) → (settled p d).commands ≡ d.commands
counts_none Idle d = refl
counts_none (Reading zero i) d = refl
counts_none (Reading (suc n) i) d = refl
counts_none (Writing zero i) d = refl
counts_none (Writing (suc n) i) d = refl

pub none_is_due : NoneIsDue
unfolding command_due step
none_is_due x s on idle count =
    let t : State = come_to (coming x (latched x s)) in
    let is : step x s ≡ step_ended t = ap (if_on x s) on in
    let kept : t.device.commands ≡ s.device.commands = sym (counts_none t.device.pending t.device) ∙ sym (ap (λ (z : State). z.device.commands) is) ∙ count in
    ⊎_elim (λ e. e ∙ idle) (λ e. absurd (omega (arith, e, kept))) (comes x (latched x s))
