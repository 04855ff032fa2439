-- Every step keeps the words of the machine below 2^32 and its lists at their lengths: by the effect of the instruction,
-- by what is read and written of memory and ports, and by what the disk does at the end of the step.
use Rattle.std.proofs.Common.{◌≡◌, ℕ, zero, suc, ◌+◌, ◌-◌, ◌/◌, ◌%◌, ◌^◌, ◌<◌, ◌≤◌, Bool, true, false, not, ◌&&◌, Option, Some, None, List, [], ◌∷◌, ◌++◌, drop, length, All, IfSome, slice_index, slice_set, refl, sym, ◌∙◌, subst, ⊎_elim, arith, length-set, get_or-set_other}
use Rattle.std.specs.Prelude.{◌==◌, nat_lt, if◌then◌else◌}
use Rattle.std.proofs.lemmas.Bool.{cond_both, cases_lt, eqb-false, ltb-true, not-false}
use Rattle.std.proofs.lemmas.List.{get_or_past, length-drop, length-append}
use Rattle.std.proofs.lemmas.List.Elements.{All-cons, All-get_or, All-set, All-drop, All-append}
use Rattle.std.proofs.lemmas.Nat.{or_of_8}
use Rattle.mips_table.specs.declared.inst.Inst.{Inst}
use Rattle.mips_table.specs.declared.inst.Inst.TheVariants.{Mfc0, Mtc0, Eret}
use Rattle.mips_table.specs.declared.cause.Cause.{Cause}
use Rattle.mips_table.specs.declared.cause.Cause.TheVariants as causes
use Rattle.mips_table.specs.declared.effect.Effect.{Effect}
use Rattle.mips_table.specs.declared.effect.Effect.TheVariants.{Set, Wide, Load, Store, Overflow, Call, System}
use Rattle.mips_table.specs.Encoding.{InRange, encoding}
use Rattle.mips_table.specs.Decoding.{decoding}
use Rattle.mips_table.specs.Processor.{Cpu, Access, Move, Ran, Loaded, Stored, Trapped, Privileged, write_register, went_on, with_loaded, advanced, is_aligned, accessed, performed, effect_on, executed, move}
use Rattle.mips_table.specs.Device.{Device, Pending, Idle, Reading, Writing, Environment, BUFFER, SECTOR, COMMAND, POWER, is_busy, is_buffer, port_read, command_begun, port_write, settled}
use Rattle.mips_table.specs.declared.special.TheConstants.{SR, ESR, EPC, PTO, PTL, MODE, EMODE}
use Rattle.mips_table.specs.Machine.{LOG, LEFT, INPUT, LOG_ROOM, State, cause_number, in_system, located, port_word, read_physical, after_read, read_at, after_read_at, port_written, written, written_at, access, is_flag, flagged, taken, Coming, Interrupt, Done, privileged, moved, fetch, fetched, coming, cleared, come_to, latched, step_ended, if_on, step, run}
use Rattle.mips_table.specs.Fits.{IsWord, EffectFits, MoveFits, KeepsWords, IsPage, NamesSector, DeviceFits, AreRegisters, AreSpecial, CpuFits, ConsoleFits, Fits}
use Rattle.mips_table.proofs.DecodingInverts.{encoding-decoding}
use Rattle.mips_table.proofs.EffectsAreWords.{bounded}

nothing : IsWord 0
nothing = omega arith

cut : (n : ℕ) → IsWord (n % 2 ^ 32)
cut n = omega arith

small : (n : ℕ) → n < 2 ^ 8 → IsWord n
small n h = omega arith

-- what is read of a list of words is a word
pub read_word : (l : List ℕ) (i : ℕ) → All IsWord l → IsWord (slice_index l i)
read_word l i h = ⊎_elim (λ lt. All-get_or IsWord l i 0 lt h) (λ ge. subst IsWord (sym (get_or_past l i 0 ge)) nothing) (cases_lt i (length l))

-- a register is written
pub write_fits : (regs : List ℕ) (r v : ℕ) → AreRegisters regs → IsWord v → AreRegisters (write_register regs r v)
write_fits regs r v h w = cond_both (r == 0) regs (slice_set regs r v) AreRegisters (λ e. h)
    (λ e. record { size = length-set regs r v ∙ h.size; each = All-set IsWord regs r v w h.each; none = get_or-set_other regs r 0 v 0 (λ same. eqb-false r 0 e (sym same)) ∙ h.none })

-- a special register is written
pub special_fits : (special : List ℕ) (k v : ℕ) → AreSpecial special → IsWord v → AreSpecial (slice_set special k v)
special_fits special k v h w = record { size = length-set special k v ∙ h.size; each = All-set IsWord special k v w h.each }

-- a word of a page is written
page_fits : (words : List ℕ) (k v : ℕ) → IsPage words → IsWord v → IsPage (slice_set words k v)
page_fits words k v h w = record { size = length-set words k v ∙ h.size; each = All-set IsWord words k v w h.each }

-- a register is written, and the processor goes on
pub goes_on : (c : Cpu) (r v to : ℕ) → CpuFits c → IsWord v → IsWord to → CpuFits (went_on c r v to)
goes_on c r v to h w t = record { pc = t; regs = write_fits c.regs r v h.regs w; hi = h.hi; lo = h.lo }

pub loads : (c : Cpu) (r v : ℕ) → CpuFits c → IsWord v → CpuFits (with_loaded c r v)
loads c r v h w = record { pc = h.pc; regs = write_fits c.regs r v h.regs w; hi = h.hi; lo = h.lo }

pub advances : (c : Cpu) → CpuFits c → CpuFits (advanced c)
advances c h = record { pc = cut _; regs = h.regs; hi = h.hi; lo = h.lo }

-- what an instruction does to a processor is of words
pub effect_fits : (i : Inst) (c : Cpu) → CpuFits c → InRange i → EffectFits (effect_on i c)
effect_fits i c h r = bounded i c.pc (slice_index c.regs) c.hi c.lo (λ k. read_word c.regs k h.regs.each) h.hi h.lo r

accessed_fits : (may : Bool) (misaligned refused : Cause) (address pc : ℕ) (m : Move) → IsWord address → IsWord pc → MoveFits m → MoveFits (accessed may misaligned refused address pc m)
accessed_fits may misaligned refused address pc m a p h =
    cond_both (not (is_aligned address)) (Trapped misaligned address pc) (if not may then Trapped refused address pc else m) MoveFits (λ e. (a, p))
    (λ e. cond_both (not may) (Trapped refused address pc) m MoveFits (λ e2. (a, p)) (λ e2. h))

module _ (a : Access) (c : Cpu) (h : CpuFits c) (word : ℕ) (w : IsWord word) where
  performed_fits : (e : Effect) → EffectFits e → MoveFits (performed a c word e)
  performed_fits (Set register value to) b = goes_on c register value to h b.1 b.2
  performed_fits (Wide hi lo to) b = record { pc = b.2; regs = h.regs; hi = b.0; lo = b.1 }
  performed_fits (Load register address) b = accessed_fits (a.may_load address) causes.DataAlign causes.DataFault address c.pc (Loaded (advanced c) register address) b.1 h.pc (advances c h)
  performed_fits (Store address value) b = accessed_fits (a.may_store address) causes.DataAlign causes.DataFault address c.pc (Stored (advanced c) address value) b.0 h.pc (advances c h, b.1)
  performed_fits Overflow b = (w, cut _)
  performed_fits Call b = (w, cut _)
  performed_fits System b = w

  executed_fits : (o : Option Inst) → IfSome o (λ i. InRange i × (encoding i ≡ word)) → MoveFits (executed a c word o)
  executed_fits None g = (w, h.pc)
  executed_fits (Some i) g = performed_fits (effect_on i c) (effect_fits i c h g.0)

  pub move_fits : MoveFits (move a c word)
  move_fits = accessed_fits (a.may_fetch c.pc) causes.FetchAlign causes.FetchFault c.pc c.pc (executed a c word (decoding word)) h.pc h.pc (executed_fits (decoding word) (encoding-decoding word))

pub keeps_words : KeepsWords
keeps_words = record { effects = effect_fits; moves = λ a c word h w. move_fits a c h word w; loads = loads }

-- the disk
device_read : (count : ℕ) (d : Device) (k : ℕ) → DeviceFits count d → IsWord (port_read d k)
device_read count d k h =
    cond_both (k == COMMAND) (if is_busy d.pending then 1 else 0) (if is_buffer k then (if is_busy d.pending then 0 else slice_index d.buffer (k - BUFFER)) else if k == SECTOR then d.sector else 0) IsWord
    (λ _. cond_both (is_busy d.pending) 1 0 IsWord (λ _. omega arith) (λ _. nothing))
    (λ _. cond_both (is_buffer k) (if is_busy d.pending then 0 else slice_index d.buffer (k - BUFFER)) (if k == SECTOR then d.sector else 0) IsWord
    (λ _. cond_both (is_busy d.pending) 0 (slice_index d.buffer (k - BUFFER)) IsWord (λ _. nothing) (λ _. read_word d.buffer (k - BUFFER) h.buffer.each))
    (λ _. cond_both (k == SECTOR) d.sector 0 IsWord (λ _. h.sector) (λ _. nothing)))

begun_fits : (busy : ℕ → ℕ) (count : ℕ) (d : Device) (v : ℕ) → DeviceFits count d → DeviceFits count (command_begun busy count d v)
begun_fits busy count d v h =
    let reading : Device = record d { pending = Reading (busy d.commands) d.sector; commands = d.commands + 1 } in
    let writing : Device = record d { pending = Writing (busy d.commands) d.sector; commands = d.commands + 1 } in
    cond_both (not (nat_lt d.sector count)) d (if v == 1 then reading else if v == 2 then writing else d) (DeviceFits count) (λ _. h)
    (λ e. let lt : d.sector < count = ltb-true d.sector count (not-false (nat_lt d.sector count) e) in
    cond_both (v == 1) reading (if v == 2 then writing else d) (DeviceFits count) (λ _. record { buffer = h.buffer; sector = h.sector; pending = lt; sectors = h.sectors; pages = h.pages })
    (λ _. cond_both (v == 2) writing d (DeviceFits count) (λ _. record { buffer = h.buffer; sector = h.sector; pending = lt; sectors = h.sectors; pages = h.pages }) (λ _. h)))

device_written : (busy : ℕ → ℕ) (count : ℕ) (d : Device) (k v : ℕ) → DeviceFits count d → IsWord v → DeviceFits count (port_write busy count d k v)
device_written busy count d k v h w =
    let filled : Device = record d { buffer = slice_set d.buffer (k - BUFFER) v } in
    let named : Device = record d { sector = v } in
    cond_both (is_busy d.pending) d (if k == COMMAND then command_begun busy count d v else if is_buffer k then filled else if k == SECTOR then named else d) (DeviceFits count) (λ _. h)
    (λ _. cond_both (k == COMMAND) (command_begun busy count d v) (if is_buffer k then filled else if k == SECTOR then named else d) (DeviceFits count) (λ _. begun_fits busy count d v h)
    (λ _. cond_both (is_buffer k) filled (if k == SECTOR then named else d) (DeviceFits count)
    (λ _. record { buffer = page_fits d.buffer (k - BUFFER) v h.buffer w; sector = h.sector; pending = h.pending; sectors = h.sectors; pages = h.pages })
    (λ _. cond_both (k == SECTOR) named d (DeviceFits count) (λ _. record { buffer = h.buffer; sector = w; pending = h.pending; sectors = h.sectors; pages = h.pages }) (λ _. h))))

settled_fits : (count : ℕ) (p : Pending) (d : Device) → NamesSector count p → DeviceFits count d → DeviceFits count (settled p d)
settled_fits count Idle d n h = h
settled_fits count (Reading zero sector) d n h =
    record { buffer = All-get_or IsPage d.sectors sector [] (omega (arith, n, h.sectors)) h.pages; sector = h.sector; pending = tt; sectors = h.sectors; pages = h.pages }
settled_fits count (Reading (suc k) sector) d n h = record { buffer = h.buffer; sector = h.sector; pending = n; sectors = h.sectors; pages = h.pages }
settled_fits count (Writing zero sector) d n h =
    record { buffer = h.buffer; sector = h.sector; pending = tt; sectors = length-set d.sectors sector d.buffer ∙ h.sectors; pages = All-set IsPage d.sectors sector d.buffer h.buffer h.pages }
settled_fits count (Writing (suc k) sector) d n h = record { buffer = h.buffer; sector = h.sector; pending = n; sectors = h.sectors; pages = h.pages }

-- the console, once a word of input is taken, and once a word is logged
input_taken : (log input : List ℕ) → ConsoleFits log input → ConsoleFits log (drop 1 input)
input_taken log input h = let few = h.few in record { room = h.room; logged = h.logged; few = omega (arith, length-drop 1 input); left = All-drop IsWord 1 input h.left }

word_logged : (log input : List ℕ) (v : ℕ) → ConsoleFits log input → IsWord v → length log < LOG_ROOM → ConsoleFits (log ++ v ∷ []) input
word_logged log input v h w lt = record {
  room = omega (arith, length-append log (v ∷ []));
  logged = All-append IsWord log (v ∷ []) h.logged (All-cons IsWord v [] w (λ k d lt. absurd (omega arith)));
  few = h.few;
  left = h.left;
}

-- a state that fits, with a memory of so many words
abbrev pub FitsWith : Environment → ℕ → State → Type 0
FitsWith x n s = Fits x s × (length s.memory ≡ n)

abbrev pub ComingFits : Environment → ℕ → Coming → Type 0
ComingFits x n (Interrupt before cause edata epc) = FitsWith x n before × IsWord edata × IsWord epc
ComingFits x n (Done after) = FitsWith x n after

module _ (x : Environment) where
  with_cpu : (s : State) (n : ℕ) (c : Cpu) → FitsWith x n s → CpuFits c → FitsWith x n (record s { cpu = c })
  with_cpu s n c h f = (record { cpu = f; special = h.0.special; memory = h.0.memory; device = h.0.device; console = h.0.console; lines = h.0.lines; mask = h.0.mask; off = h.0.off }, h.1)

  with_special : (s : State) (c : Cpu) (special : List ℕ) → Fits x s → CpuFits c → AreSpecial special → Fits x (record s { cpu = c; special = special })
  with_special s c special h f r = record { cpu = f; special = r; memory = h.memory; device = h.device; console = h.console; lines = h.lines; mask = h.mask; off = h.off }

  -- a number of words is a word
  room : (n : ℕ) → n ≤ LOG_ROOM → IsWord n
  room n h = omega arith

  port_reads : (s : State) (k : ℕ) → Fits x s → IsWord (port_word s k)
  port_reads s k h =
      let disk : ℕ = port_read s.device k in
      let input : ℕ = if k == INPUT then slice_index s.input 0 else disk in
      let left : ℕ = if k == LEFT then length s.input else input in
      cond_both (k == LOG) (length s.log) left IsWord (λ _. room _ h.console.room)
      (λ _. cond_both (k == LEFT) (length s.input) input IsWord (λ _. h.console.few)
      (λ _. cond_both (k == INPUT) (slice_index s.input 0) disk IsWord (λ _. read_word s.input 0 h.console.left) (λ _. device_read x.count s.device k h.device)))

  reads : (s : State) (k : ℕ) → Fits x s → IsWord (read_physical s k)
  reads s k h = cond_both (nat_lt k (length s.memory)) (slice_index s.memory k) (port_word s k) IsWord (λ _. read_word s.memory k h.memory) (λ _. port_reads s k h)

  reads_at : (s : State) (o : Option ℕ) → Fits x s → IsWord (read_at s o)
  reads_at s None h = nothing
  reads_at s (Some a) h = reads s (a / 4) h

  after_reads : (s : State) (k : ℕ) → Fits x s → FitsWith x (length s.memory) (after_read s k)
  after_reads s k h =
      let took : State = record s { input = drop 1 s.input } in
      cond_both (nat_lt k (length s.memory)) s (if k == INPUT then took else s) (FitsWith x (length s.memory)) (λ _. (h, refl))
      (λ _. cond_both (k == INPUT) took s (FitsWith x (length s.memory))
      (λ _. (record { cpu = h.cpu; special = h.special; memory = h.memory; device = h.device; console = input_taken s.log s.input h.console; lines = h.lines; mask = h.mask; off = h.off }, refl))
      (λ _. (h, refl)))

  after_reads_at : (s : State) (o : Option ℕ) → Fits x s → FitsWith x (length s.memory) (after_read_at s o)
  after_reads_at s None h = (h, refl)
  after_reads_at s (Some a) h = after_reads s (a / 4) h

  port_writes : (s : State) (k v : ℕ) → Fits x s → IsWord v → FitsWith x (length s.memory) (port_written x s k v)
  port_writes s k v h w =
      let ended : State = record s { off = Some v } in
      let appended : State = record s { log = s.log ++ v ∷ [] } in
      let logs : State = if nat_lt (length s.log) LOG_ROOM then appended else s in
      let sent : State = record s { device = port_write x.busy x.count s.device k v } in
      cond_both (k == POWER) ended (if k == LOG then logs else sent) (FitsWith x (length s.memory))
      (λ _. (record { cpu = h.cpu; special = h.special; memory = h.memory; device = h.device; console = h.console; lines = h.lines; mask = h.mask; off = w }, refl))
      (λ _. cond_both (k == LOG) logs sent (FitsWith x (length s.memory))
      (λ _. cond_both (nat_lt (length s.log) LOG_ROOM) appended s (FitsWith x (length s.memory))
      (λ e. (record { cpu = h.cpu; special = h.special; memory = h.memory; device = h.device; console = word_logged s.log s.input v h.console w (ltb-true (length s.log) LOG_ROOM e); lines = h.lines; mask = h.mask; off = h.off }, refl))
      (λ _. (h, refl)))
      (λ _. (record { cpu = h.cpu; special = h.special; memory = h.memory; device = device_written x.busy x.count s.device k v h.device w; console = h.console; lines = h.lines; mask = h.mask; off = h.off }, refl)))

  writes : (s : State) (k v : ℕ) → Fits x s → IsWord v → FitsWith x (length s.memory) (written x s k v)
  writes s k v h w =
      cond_both (nat_lt k (length s.memory)) (record s { memory = slice_set s.memory k v }) (port_written x s k v) (FitsWith x (length s.memory))
      (λ _. (record { cpu = h.cpu; special = h.special; memory = All-set IsWord s.memory k v w h.memory; device = h.device; console = h.console; lines = h.lines; mask = h.mask; off = h.off }, length-set s.memory k v))
      (λ _. port_writes s k v h w)

  writes_at : (s : State) (o : Option ℕ) (v : ℕ) → Fits x s → IsWord v → FitsWith x (length s.memory) (written_at x s o v)
  writes_at s None v h w = (h, refl)
  writes_at s (Some a) v h w = writes s (a / 4) v h w

  specials : (s : State) (k : ℕ) → Fits x s → IsWord (slice_index s.special k)
  specials s k h = read_word s.special k h.special.each

  flags : (k v : ℕ) → IsWord v → IsWord (flagged k v)
  flags k v w = cond_both (is_flag k) (v % 2) v IsWord (λ _. omega arith) (λ _. w)

  privileged_fits : (s : State) (n word : ℕ) (o : Option Inst) → FitsWith x n s → IsWord word → ComingFits x n (privileged s word o)
  privileged_fits s n word (Some (Mfc0 rt k)) h w = with_cpu s n _ h (goes_on s.cpu rt _ _ h.0.cpu (specials s k h.0) (cut _))
  privileged_fits s n word (Some (Mtc0 rt k)) h w = (with_special s _ _ h.0 (advances s.cpu h.0.cpu) (special_fits s.special k _ h.0.special (flags k _ (read_word s.cpu.regs rt h.0.cpu.regs.each))), h.1)
  privileged_fits s n word (Some Eret) h w = (
    with_special s _ _ h.0 (record { pc = specials s EPC h.0; regs = h.0.cpu.regs; hi = h.0.cpu.hi; lo = h.0.cpu.lo })
        (special_fits _ MODE _ (special_fits s.special SR _ h.0.special (specials s ESR h.0)) (specials s EMODE h.0)),
    h.1,
  )
  privileged_fits s n word other h w = (h, w, h.0.cpu.pc)

  -- a state for another number of words of memory
  resized : (s s' : State) (n : ℕ) → length s.memory ≡ n → FitsWith x (length s.memory) s' → FitsWith x n s'
  resized s s' n e h = (h.0, h.1 ∙ e)

  moves : (s : State) (n : ℕ) (m : Move) → FitsWith x n s → MoveFits m → ComingFits x n (moved x s m)
  moves s n (Ran c) h f = with_cpu s n c h f
  moves s n (Loaded c r address) h f =
      let o : Option ℕ = located s false address in
      with_cpu (after_read_at s o) n _ (resized s (after_read_at s o) n h.1 (after_reads_at s o h.0)) (loads c r _ f (reads_at s o h.0))
  moves s n (Stored c address value) h f =
      let o : Option ℕ = located s true address in
      with_cpu (written_at x s o value) n c (resized s (written_at x s o value) n h.1 (writes_at s o value h.0 f.1)) f.0
  moves s n (Trapped cause edata epc) h f = (h, f.0, f.1)
  moves s n (Privileged word) h f =
      cond_both (in_system s.special) (privileged s word (decoding word)) (Interrupt s causes.Illegal word s.cpu.pc) (ComingFits x n) (λ _. privileged_fits s n word (decoding word) h f) (λ _. (h, f, h.0.cpu.pc))

  fetched_fits : (s : State) → Fits x s → FitsWith x (length s.memory) (fetched s)
  fetched_fits s h =
      let o : Option ℕ = located s false s.cpu.pc in
      cond_both (is_aligned s.cpu.pc) (after_read_at s o) s (FitsWith x (length s.memory)) (λ _. after_reads_at s o h) (λ _. (h, refl))

  pub comes : (s : State) → Fits x s → ComingFits x (length s.memory) (coming x s)
  comes s h =
      let instruction : Coming = moved x (fetched s) (move (access s) s.cpu (fetch s)) in
      let external : Coming = Interrupt s causes.External s.mask s.cpu.pc in
      let line : Bool = slice_index s.special SR == 1 && not (s.mask == 0) in
      cond_both s.reset (Interrupt s causes.Reset 0 s.cpu.pc) (if line then external else instruction) (ComingFits x (length s.memory)) (λ _. ((h, refl), nothing, h.cpu.pc))
      (λ _. cond_both line external instruction (ComingFits x (length s.memory)) (λ _. ((h, refl), small _ h.mask, h.cpu.pc))
      (λ _. moves (fetched s) (length s.memory) (move (access s) s.cpu (fetch s)) (fetched_fits s h) (move_fits (access s) s.cpu h.cpu (fetch s) (reads_at s (located s false s.cpu.pc) h))))

  number_fits : (cause : Cause) → IsWord (cause_number cause)
  number_fits causes.Reset = omega arith
  number_fits causes.External = omega arith
  number_fits causes.FetchAlign = omega arith
  number_fits causes.FetchFault = omega arith
  number_fits causes.Illegal = omega arith
  number_fits causes.Overflow = omega arith
  number_fits causes.Syscall = omega arith
  number_fits causes.DataAlign = omega arith
  number_fits causes.DataFault = omega arith

  clears : (n : ℕ) (cause : Cause) (s : State) → FitsWith x n s → FitsWith x n (cleared cause s)
  clears n causes.Reset s h = (record { cpu = h.0.cpu; special = h.0.special; memory = h.0.memory; device = h.0.device; console = h.0.console; lines = h.0.lines; mask = h.0.mask; off = h.0.off }, h.1)
  clears n causes.External s h = (record { cpu = h.0.cpu; special = h.0.special; memory = h.0.memory; device = h.0.device; console = h.0.console; lines = h.0.lines; mask = omega arith; off = h.0.off }, h.1)
  clears n other s h = h

  takes : (s : State) (cause edata epc : ℕ) → Fits x s → IsWord cause → IsWord edata → IsWord epc → AreSpecial (taken s.special cause edata epc)
  takes s cause edata epc h c d e =
      let by_mode : List ℕ = slice_index s.special MODE ∷ [] in
      let by_zero : List ℕ = 0 ∷ by_mode in
      let by_ptl : List ℕ = slice_index s.special PTL ∷ by_zero in
      let by_pto : List ℕ = slice_index s.special PTO ∷ by_ptl in
      let by_edata : List ℕ = edata ∷ by_pto in
      let by_epc : List ℕ = epc ∷ by_edata in
      let by_cause : List ℕ = cause ∷ by_epc in
      let by_sr : List ℕ = slice_index s.special SR ∷ by_cause in
      let last : All IsWord by_zero = All-cons IsWord 0 by_mode nothing (All-cons IsWord (slice_index s.special MODE) [] (specials s MODE h) (λ k d lt. absurd (omega arith))) in
      let pages : All IsWord by_pto = All-cons IsWord (slice_index s.special PTO) by_ptl (specials s PTO h) (All-cons IsWord (slice_index s.special PTL) by_zero (specials s PTL h) last) in
      record {
        size = refl;
        each = All-cons IsWord 0 by_sr nothing (All-cons IsWord (slice_index s.special SR) by_cause (specials s SR h) (All-cons IsWord cause by_epc c (All-cons IsWord epc by_edata e (All-cons IsWord edata by_pto d pages))));
      }

  comes_to : (n : ℕ) (c : Coming) → ComingFits x n c → FitsWith x n (come_to c)
  comes_to n (Interrupt s cause edata epc) f =
      let h : Fits x s = f.0.0 in
      let g : FitsWith x n (cleared cause s) = clears n cause s f.0 in
      (with_special (cleared cause s) (record s.cpu { pc = 0 }) _ g.0 (record { pc = nothing; regs = h.cpu.regs; hi = h.cpu.hi; lo = h.cpu.lo }) (takes s (cause_number cause) edata epc h (number_fits cause) f.1 f.2), g.1)
  comes_to n (Done after) f = f

  ends : (s : State) → Fits x s → Fits x (step_ended s)
  ends s h = record { cpu = h.cpu; special = h.special; memory = h.memory; device = settled_fits x.count s.device.pending s.device h.device.pending h.device; console = h.console; lines = h.lines; mask = h.mask; off = h.off }

  pub latches : (s : State) → Fits x s → Fits x (latched x s)
  latches s h = record { cpu = h.cpu; special = h.special; memory = h.memory; device = h.device; console = h.console; lines = h.lines; mask = or_of_8 s.mask (x.lines s.time) h.mask (h.lines s.time); off = h.off }

  if_on_fits : (s : State) (o : Option ℕ) → Fits x s → FitsWith x (length s.memory) (if_on x s o)
  if_on_fits s (Some word) h = (h, refl)
  if_on_fits s None h =
      let l = latches s h in
      let g = comes_to (length s.memory) (coming x (latched x s)) (comes (latched x s) l) in
      (ends (come_to (coming x (latched x s))) g.0, g.1)

  -- one step
  pub step_fits : (s : State) → Fits x s → Fits x (step x s) × (length (step x s).memory ≡ length s.memory)
  unfolding step
  step_fits s h = if_on_fits s s.off h

  -- a run
  pub run_fits : (s : State) (n : ℕ) → Fits x s → Fits x (run x s n) × (length (run x s n).memory ≡ length s.memory)
  run_fits s zero h = (h, refl)
  run_fits s (suc n) h =
      let before = run_fits s n h in
      let after = step_fits (run x s n) before.0 in
      (after.0, after.1 ∙ before.1)
