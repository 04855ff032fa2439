-- One instruction of the code on the physical machine, by its effect. Loads and stores are joined to the words of the run
-- by the lemmas on the words that can be read.
use Rattle.std.proofs.Common.{◌≡◌, ◌≢◌, ℕ, ◌+◌, ◌-◌, ◌/◌, ◌%◌, ◌^◌, ◌<◌, ◌≤◌, Bool, true, false, not, ◌&&◌, nat_lt, Some, None, List, ◌∷◌, ◌++◌, [], drop, length, slice_index, slice_set, refl, sym, ap, ◌∙◌, subst, ⊎_elim, arith, lt-ltb, le-ltb, eq-eqb, ne_eqb, length-set, get_or-set_other}
use Rattle.std.specs.Prelude.{◌==◌, if◌then◌else◌, is_some}
use Rattle.std.proofs.lemmas.Bool.{cases_lt, cond-true, cond-false, and_parts, eqb-true, ltb-true, ltb-false, not-true}
use Rattle.mips_table.specs.declared.inst.Inst.{Inst}
use Rattle.mips_table.specs.declared.inst.Inst.TheVariants.{Mfc0, Mtc0}
use Rattle.mips_table.specs.declared.cause.Cause.TheVariants as causes
use Rattle.mips_table.specs.declared.effect.Effect.{Effect}
use Rattle.mips_table.specs.declared.effect.Effect.TheVariants.{Set, Wide, Load, Store, Overflow, Call, System}
use Rattle.mips_table.specs.Encoding.{InRange, encoding}
use Rattle.mips_table.specs.Decoding.{decoding}
use Rattle.mips_table.specs.Effect.{next_address}
use Rattle.mips_table.specs.Processor.{Move, Loaded, Stored, Trapped, went_on, with_loaded, advanced, accessed, performed, effect_on, executed, move}
use Rattle.mips_table.specs.Device.{Device, Reading, Writing, Environment, BUFFER, SECTOR, COMMAND, POWER, is_busy, is_buffer, command_begun, port_write}
use Rattle.mips_table.specs.declared.special.TheConstants.{SR, MODE, PTO, PTL}
use Rattle.mips_table.specs.Machine.{LOG, LEFT, INPUT, LOG_ROOM, State, pte_address, translated, located, port_word, read_physical, after_read, read_at, after_read_at, port_written, written, written_at, access, flagged, Coming, Interrupt, Done, privileged, moved, fetch, fetched, coming}
use Rattle.mips_table.specs.Fits.{EffectFits}
use Rattle.mips_table.specs.Code.{put, Contents, reg, with_reg, Behind, World, Program, on_machine, Sound, CodeState, settle, commanded, port_loaded, word_loaded, after_load, logged, after_store, specials_after as does_privileged, acted, PrivilegedMay, EffectMay}
use Rattle.mips_table.specs.Simulation.{space, contents_of, behind_of, Quiet, MemoryHolds}
use Rattle.mips_table.proofs.DecodingInverts.{decoding-encoding}
use Rattle.mips_table.proofs.ReadableWords.{set_put, write_put, reg_same, space_memory, space_buffer, space_sector}
use Rattle.mips_table.proofs.OneSectorWritten.{KeepsSectors, written_keeps}
use Rattle.mips_table.proofs.StepsAsCode.{by_port, by_command, same_port, input_left, input_of_state, input_behind, log_left, log_of_state, log_behind}

-- what a run of code sees of the whole machine
abbrev pub contents : State → Contents
contents s = contents_of s.cpu s.special (space s.memory s.device.buffer s.device.sector)

abbrev pub behind : State → Behind
behind s = behind_of s.device s.log s.input

module _ (x : Environment) (p : Program) (f : Sound (on_machine x p)) where
  abbrev pub w : World
  w = on_machine x p

  -- c is the instruction's, and leads to a state that is quiet but for the disk's count, which the run of code calls t
  pub record Good (s : State) (t : CodeState) (c : Coming) : Type 0 where
    pub after : State
    pub is : c ≡ Done after
    pub same : settle (after.cpu.pc / 4) (contents after) (behind after) ≡ t
    pub on : after.off ≡ None
    pub no_reset : after.reset ≡ false
    pub sr : slice_index after.special SR ≡ 0
    pub mode : slice_index after.special MODE ≡ 0
    pub aligned : after.cpu.pc % 4 ≡ 0
    pub holds : MemoryHolds w after.memory
    pub mask : after.mask ≡ s.mask
    pub time : after.time ≡ s.time
    pub disk : KeepsSectors p.count s.device after.device

  pub to : (s : State) (c c' : Coming) (t t' : CodeState) → c' ≡ c → t' ≡ t → Good s t c → Good s t' c'
  to s c c' t t' e e' g = subst (λ u. Good s u c') (sym e') (subst (λ y. Good s t y) (sym e) g)

  advances : (pc : ℕ) → pc % 4 ≡ 0 → pc / 4 < p.words → (next_address pc % 4 ≡ 0) × (next_address pc / 4 ≡ pc / 4 + 1)
  advances pc e lt = let small = f.small in (omega arith, omega arith)

  pub below : (s : State) → MemoryHolds w s.memory → length s.memory < 2 ^ 26
  below s h = omega (arith, h.size, f.small)

  -- in system mode an address is taken as it is
  pub plainly : (s : State) (is_store : Bool) (address : ℕ) → Quiet x s → located s is_store address ≡ Some address
  plainly s is_store address q =
      cond-true _ (Some address) (translated address (slice_index s.special PTL) is_store (slice_index s.memory (pte_address address (slice_index s.special PTO) / 4))) (eq-eqb _ _ q.mode)

  -- a register is written, and of the input this is left
  reg_good : (s : State) (r v pc n : ℕ) (input : List ℕ) → Quiet x s → MemoryHolds w s.memory → r < 32 → pc % 4 ≡ 0 → pc / 4 ≡ n
      → Good s (settle n (with_reg (contents s) r v) (record (behind s) { input = input })) (Done (record s { cpu = went_on s.cpu r v pc; input = input }))
  reg_good s r v pc n input q h lt aligned e = record {
    after = record s { cpu = went_on s.cpu r v pc; input = input };
    is = refl;
    same = ap (λ m. settle m (contents (record s { cpu = went_on s.cpu r v pc })) (behind_of s.device s.log input)) e
        ∙ ap (λ g. settle n (record (contents s) { regs = g }) (behind_of s.device s.log input)) (write_put s.cpu.regs r v (omega (arith, q.fits.cpu.regs.size)));
    on = q.on;
    no_reset = q.no_reset;
    sr = q.sr;
    mode = q.mode;
    aligned = aligned;
    holds = h;
    mask = refl;
    time = refl;
    disk = record { sectors = refl; named = λ h. h };
  }

  -- hi and lo are written
  wide_good : (s : State) (hi lo pc : ℕ) → Quiet x s → MemoryHolds w s.memory → pc % 4 ≡ 0
      → Good s (settle (pc / 4) (record (contents s) { hi = hi; lo = lo }) (behind s)) (Done (record s { cpu = record s.cpu { pc = pc; hi = hi; lo = lo } }))
  wide_good s hi lo pc q h aligned = record {
    after = record s { cpu = record s.cpu { pc = pc; hi = hi; lo = lo } };
    is = refl;
    same = refl;
    on = q.on;
    no_reset = q.no_reset;
    sr = q.sr;
    mode = q.mode;
    aligned = aligned;
    holds = h;
    mask = refl;
    time = refl;
    disk = record { sectors = refl; named = λ h. h };
  }

  special_good : (s : State) (k v : ℕ) → Quiet x s → MemoryHolds w s.memory → s.cpu.pc / 4 < p.words → k ≤ 8 → k ≢ SR → k ≢ MODE
      → Good s (settle (s.cpu.pc / 4 + 1) (record (contents s) { special = put (slice_index s.special) k v }) (behind s)) (Done (record s { special = slice_set s.special k v; cpu = advanced s.cpu }))
  special_good s k v q h lt le no_sr no_mode =
      let a = advances s.cpu.pc q.aligned lt in
      record {
        after = record s { special = slice_set s.special k v; cpu = advanced s.cpu };
        is = refl;
        same = ap (λ m. settle m (record (contents s) { special = slice_index (slice_set s.special k v) }) (behind s)) a.1
            ∙ ap (λ g. settle (s.cpu.pc / 4 + 1) (record (contents s) { special = g }) (behind s)) (set_put s.special k v (omega (arith, q.fits.special.size)));
        on = q.on;
        no_reset = q.no_reset;
        sr = get_or-set_other s.special k SR v 0 (λ e. no_sr (sym e)) ∙ q.sr;
        mode = get_or-set_other s.special k MODE v 0 (λ e. no_mode (sym e)) ∙ q.mode;
        aligned = a.0;
        holds = h;
        mask = refl;
        time = refl;
        disk = record { sectors = refl; named = λ h. h };
      }

  memory_good : (s : State) (k v : ℕ) → Quiet x s → MemoryHolds w s.memory → s.cpu.pc / 4 < p.words → k < p.words → p.kept k ≡ None
      → Good s (settle (s.cpu.pc / 4 + 1) (record (contents s) { memory = put (contents s).memory k v }) (behind s)) (Done (record s { memory = slice_set s.memory k v; cpu = advanced s.cpu }))
  memory_good s k v q h lt inside free =
      let a = advances s.cpu.pc q.aligned lt in
      record {
        after = record s { memory = slice_set s.memory k v; cpu = advanced s.cpu };
        is = refl;
        same = ap (λ m. settle m (record (contents s) { memory = space (slice_set s.memory k v) s.device.buffer s.device.sector }) (behind s)) a.1
            ∙ ap (λ g. settle (s.cpu.pc / 4 + 1) (record (contents s) { memory = g }) (behind s)) (space_memory s.memory s.device.buffer s.device.sector k v (omega (arith, h.size)));
        on = q.on;
        no_reset = q.no_reset;
        sr = q.sr;
        mode = q.mode;
        aligned = a.0;
        holds = record {
          size = length-set s.memory k v ∙ h.size;
          kept = λ j u e. let ne : j ≢ k = λ same. let c : None ≡ Some u = sym free ∙ ap p.kept (sym same) ∙ e in absurd (cc) in
              get_or-set_other s.memory k j v 0 ne ∙ h.kept j u e;
        };
        mask = refl;
        time = refl;
        disk = record { sectors = refl; named = λ h. h };
      }

  -- a word goes to the log
  log_good : (s : State) (log : List ℕ) → Quiet x s → MemoryHolds w s.memory → s.cpu.pc / 4 < p.words
      → Good s (settle (s.cpu.pc / 4 + 1) (contents s) (record (behind s) { log = log })) (Done (record s { log = log; cpu = advanced s.cpu }))
  log_good s log q h lt =
      let a = advances s.cpu.pc q.aligned lt in
      record {
        after = record s { log = log; cpu = advanced s.cpu };
        is = refl;
        same = ap (λ m. settle m (contents s) (behind_of s.device log s.input)) a.1;
        on = q.on;
        no_reset = q.no_reset;
        sr = q.sr;
        mode = q.mode;
        aligned = a.0;
        holds = h;
        mask = refl;
        time = refl;
        disk = record { sectors = refl; named = λ h. h };
      }

  -- a word goes to the disk
  disk_good : (s : State) (k v : ℕ) → Quiet x s → MemoryHolds w s.memory → s.cpu.pc / 4 < p.words → p.words ≤ k → p.count ≤ x.count → (k ≡ COMMAND → (contents s).memory SECTOR < p.count)
      → (let d : Behind = behind s in let n = s.cpu.pc / 4 + 1 in let c : Contents = contents s in let writes : CodeState = settle n (record c { memory = put c.memory k v }) d in
      Good s (if is_busy d.pending then settle n c d else if k == COMMAND then settle n c (commanded w d (c.memory SECTOR) v) else if is_buffer k then writes else if k == SECTOR then writes else settle n c d)
      (Done (record s { device = port_write x.busy x.count s.device k v; cpu = advanced s.cpu })))
  disk_good s k v q h lt big few named =
      let a = advances s.cpu.pc q.aligned lt in
      let d : Device = s.device in
      let b : Behind = behind s in
      let n : ℕ = s.cpu.pc / 4 + 1 in
      let c : Contents = contents s in
      let small = below s h in
      let F : Device → CodeState = λ e. settle n (record c { memory = space s.memory e.buffer e.sector }) (behind_of e s.log s.input) in
      let writes : CodeState = settle n (record c { memory = put c.memory k v }) b in
      let reading : Device = record d { pending = Reading (x.busy d.commands) d.sector; commands = d.commands + 1 } in
      let writing : Device = record d { pending = Writing (x.busy d.commands) d.sector; commands = d.commands + 1 } in
      let there : c.memory SECTOR ≡ d.sector = cond-false _ (slice_index s.memory SECTOR) d.sector (le-ltb SECTOR (length s.memory) (omega arith)) in
      let reads : Behind = record b { pending = Reading (x.busy d.commands) d.sector; commands = d.commands + 1 } in
      let writes' : Behind = record b { pending = Writing (x.busy d.commands) d.sector; commands = d.commands + 1 } in
      let begins : k ≡ COMMAND → F (command_begun x.busy x.count d v) ≡ settle n c (commanded w b (c.memory SECTOR) v) = λ e.
      let lt' : d.sector < p.count = subst (λ i. i < p.count) there (named e) in
      by_command F (settle n c) s.log s.input (nat_lt d.sector x.count) (v == 1) (v == 2) d reading writing refl refl refl
      ∙ ap (λ t. settle n c (if not t then b else if v == 1 then reads else if v == 2 then writes' else b)) (lt-ltb d.sector x.count (omega arith) ∙ sym (lt-ltb d.sector p.count lt'))
      ∙ ap (λ y. settle n c (commanded w b y v)) (sym there) in
      let fills : is_buffer k ≡ true → F (record d { buffer = slice_set d.buffer (k - BUFFER) v }) ≡ writes = λ e.
      let parts = and_parts (not (nat_lt k BUFFER)) (nat_lt k SECTOR) e in
      ap (λ g. settle n (record c { memory = g }) b) (space_buffer s.memory d.buffer d.sector k v small q.fits.device.buffer.size (ltb-false k BUFFER (not-true _ parts.0)) (ltb-true k SECTOR parts.1)) in
      let names : (k == SECTOR) ≡ true → F (record d { sector = v }) ≡ writes = λ e.
      ap (λ g. settle n (record c { memory = g }) b) (space_sector s.memory d.buffer d.sector v small ∙ ap (λ y. put c.memory y v) (sym (eqb-true k SECTOR e))) in
      record {
        after = record s { device = port_write x.busy x.count d k v; cpu = advanced s.cpu };
        is = refl;
        same = ap (λ m. settle m (contents (record s { device = port_write x.busy x.count d k v })) (behind_of (port_write x.busy x.count d k v) s.log s.input)) a.1
            ∙ by_port F (is_busy d.pending) (k == COMMAND) (is_buffer k) (k == SECTOR) d (command_begun x.busy x.count d v) (record d { buffer = slice_set d.buffer (k - BUFFER) v }) (record d { sector = v }) _ writes (λ idle e. begins (eqb-true k COMMAND e)) fills names;
        on = q.on;
        no_reset = q.no_reset;
        sr = q.sr;
        mode = q.mode;
        aligned = a.0;
        holds = h;
        mask = refl;
        time = refl;
        disk = written_keeps p.count x.busy x.count d k v (λ e. subst (λ i. i < p.count) there (named (eqb-true k COMMAND e)));
      }

  -- a store outside memory that is not to the power port
  port_good : (s : State) (k v : ℕ) → Quiet x s → MemoryHolds w s.memory → s.cpu.pc / 4 < p.words → p.words ≤ k → p.count ≤ x.count → k ≢ POWER → (k ≡ COMMAND → (contents s).memory SECTOR < p.count)
      → (let d : Behind = behind s in let n = s.cpu.pc / 4 + 1 in let c : Contents = contents s in let writes : CodeState = settle n (record c { memory = put c.memory k v }) d in
      Good s (if k == LOG then settle n c (logged d v) else if is_busy d.pending then settle n c d else if k == COMMAND then settle n c (commanded w d (c.memory SECTOR) v) else if is_buffer k then writes else if k == SECTOR then writes else settle n c d)
      (Done (record (port_written x s k v) { cpu = advanced s.cpu })))
  port_good s k v q h lt big few on named =
      let d : Behind = behind s in
      let n : ℕ = s.cpu.pc / 4 + 1 in
      let c : Contents = contents s in
      let writes : CodeState = settle n (record c { memory = put c.memory k v }) d in
      let disk : CodeState = if is_busy d.pending then settle n c d else if k == COMMAND then settle n c (commanded w d (c.memory SECTOR) v) else if is_buffer k then writes else if k == SECTOR then writes else settle n c d in
      let logs : State = if nat_lt (length s.log) LOG_ROOM then record s { log = s.log ++ v ∷ [] } else s in
      let sends : State = record s { device = port_write x.busy x.count s.device k v } in
      let here : port_written x s k v ≡ (if k == LOG then logs else sends) = cond-false _ (record s { off = Some v }) (if k == LOG then logs else sends) (ne_eqb k POWER on) in
      let all : Good s (if k == LOG then settle n c (logged d v) else disk) (Done (record (if k == LOG then logs else sends) { cpu = advanced s.cpu })) = by (k == LOG) disk sends (disk_good s k v q h lt big few named) in
      to s _ (Done (record (port_written x s k v) { cpu = advanced s.cpu })) _ _ (ap (λ z. Done (record z { cpu = advanced s.cpu })) here) refl all
    where
      by : (b : Bool) (disk : CodeState) (sends : State) → Good s disk (Done (record sends { cpu = advanced s.cpu }))
          → Good s (if b then settle (s.cpu.pc / 4 + 1) (contents s) (logged (behind s) v) else disk)
          (Done (record (if b then (if nat_lt (length s.log) LOG_ROOM then record s { log = s.log ++ v ∷ [] } else s) else sends) { cpu = advanced s.cpu }))
      by true disk sends g =
          let room : Bool = nat_lt (length s.log) LOG_ROOM in
          to s (Done (record s { log = log_left room s.log v; cpu = advanced s.cpu })) _ (settle (s.cpu.pc / 4 + 1) (contents s) (record (behind s) { log = log_left room s.log v })) _
          (ap (λ z. Done (record z { cpu = advanced s.cpu })) (log_of_state s room v)) (ap (settle (s.cpu.pc / 4 + 1) (contents s)) (log_behind (behind s) room v))
          (log_good s (log_left room s.log v) q h lt)
      by false disk sends g = g

  -- a store, to memory or to a port
  store_good : (s : State) (k v : ℕ) → Quiet x s → MemoryHolds w s.memory → s.cpu.pc / 4 < p.words → p.kept k ≡ None → p.count ≤ x.count → k ≢ POWER → (k ≡ COMMAND → (contents s).memory SECTOR < p.count)
      → Good s (after_store w (s.cpu.pc / 4 + 1) (contents s) (behind s) k v) (Done (record (written x s k v) { cpu = advanced s.cpu }))
  store_good s k v q h lt free few on named =
      let keeps : State = record s { memory = slice_set s.memory k v } in
      let n : ℕ = s.cpu.pc / 4 + 1 in
      let c : Contents = contents s in
      let d : Behind = behind s in
      let writes : CodeState = settle n (record c { memory = put c.memory k v }) d in
      let port : CodeState = if k == LOG then settle n c (logged d v) else if is_busy d.pending then settle n c d else if k == COMMAND then settle n c (commanded w d (c.memory SECTOR) v) else if is_buffer k then writes else if k == SECTOR then writes else settle n c d in
      ⊎_elim
      (λ in'. to s (Done (record keeps { cpu = advanced s.cpu })) _ writes _
      (ap (λ z. Done (record z { cpu = advanced s.cpu })) (cond-true _ keeps (port_written x s k v) (lt-ltb k (length s.memory) (omega (arith, h.size)))))
      (cond-true _ writes port (lt-ltb k p.words in'))
      (memory_good s k v q h lt in' free))
      (λ out. to s (Done (record (port_written x s k v) { cpu = advanced s.cpu })) _ port _
      (ap (λ z. Done (record z { cpu = advanced s.cpu })) (cond-false _ keeps (port_written x s k v) (le-ltb k (length s.memory) (omega (arith, h.size)))))
      (cond-false _ writes port (le-ltb k p.words out))
      (port_good s k v q h lt out few on named))
      (cases_lt k p.words)

  -- what a load gives
  reads : (s : State) (k : ℕ) → MemoryHolds w s.memory → read_physical s k ≡ word_loaded w (contents s) (behind s) k
  reads s k h =
      let m : ℕ → ℕ = (contents s).memory in
      ⊎_elim
      (λ lt. let a : nat_lt k (length s.memory) ≡ true = lt-ltb k (length s.memory) (omega (arith, h.size)) in
      cond-true _ (slice_index s.memory k) (port_word s k) a
      ∙ sym (cond-true _ (m k) (port_loaded (contents s) (behind s) k) (lt-ltb k p.words lt) ∙ cond-true _ (slice_index s.memory k) (if is_buffer k then slice_index s.device.buffer (k - BUFFER) else if k == SECTOR then s.device.sector else 0) a))
      (λ ge. cond-false _ (slice_index s.memory k) (port_word s k) (le-ltb k (length s.memory) (omega (arith, h.size)))
      ∙ ap (λ z. if k == LOG then length s.log else if k == LEFT then length s.input else if k == INPUT then slice_index s.input 0 else z)
      (same_port (is_busy s.device.pending) (slice_index s.memory) (slice_index s.device.buffer) (length s.memory) s.device.sector k (omega (arith, h.size)))
      ∙ sym (cond-false _ (m k) (port_loaded (contents s) (behind s) k) (le-ltb k p.words ge)))
      (cases_lt k p.words)

  load_good : (s : State) (r k : ℕ) → Quiet x s → MemoryHolds w s.memory → s.cpu.pc / 4 < p.words → r < 32
      → Good s (settle (s.cpu.pc / 4 + 1) (with_reg (contents s) r (word_loaded w (contents s) (behind s) k)) (after_load w (behind s) k))
      (Done (record (after_read s k) { cpu = with_loaded (advanced s.cpu) r (read_physical s k) }))
  load_good s r k q h lt small =
      let a = advances s.cpu.pc q.aligned lt in
      let n : ℕ = s.cpu.pc / 4 + 1 in
      let input : List ℕ = input_left (nat_lt k p.words) (k == INPUT) s.input in
      let size : nat_lt k (length s.memory) ≡ nat_lt k p.words = ap (nat_lt k) h.size in
      to s (Done (record s { cpu = went_on s.cpu r (read_physical s k) (next_address s.cpu.pc); input = input })) _ (settle n (with_reg (contents s) r (read_physical s k)) (record (behind s) { input = input })) _
      (ap (λ z. Done (record z { cpu = with_loaded (advanced s.cpu) r (read_physical s k) }))
      (input_of_state s (nat_lt k (length s.memory)) (k == INPUT) ∙ ap (λ b. record s { input = input_left b (k == INPUT) s.input }) size))
      (ap (settle n (with_reg (contents s) r (word_loaded w (contents s) (behind s) k))) (input_behind (behind s) (nat_lt k p.words) (k == INPUT))
      ∙ ap (λ v. settle n (with_reg (contents s) r v) (record (behind s) { input = input })) (sym (reads s k h)))
      (reg_good s r (read_physical s k) (next_address s.cpu.pc) n input q h small a.0 a.1)

  -- an instruction on special registers
  privileged_good : (s : State) (word : ℕ) (i : Inst) → Quiet x s → MemoryHolds w s.memory → s.cpu.pc / 4 < p.words → InRange i → PrivilegedMay w i
      → Good s (settle (s.cpu.pc / 4 + 1) (does_privileged i (contents s)) (behind s)) (privileged s word (Some i))
  privileged_good s word (Mfc0 rt k) q h lt r m = let a = advances s.cpu.pc q.aligned lt in reg_good s rt (slice_index s.special k) (next_address s.cpu.pc) (s.cpu.pc / 4 + 1) s.input q h r.0 a.0 a.1
  privileged_good s word (Mtc0 rt k) q h lt r m =
      let e : flagged k (reg (slice_index s.cpu.regs) rt) ≡ flagged k (slice_index s.cpu.regs rt) = ap (λ g. flagged k (g rt)) (sym (reg_same s.cpu.regs q.fits.cpu.regs.none)) in
      to s _ _ _ _ refl (ap (λ v. settle (s.cpu.pc / 4 + 1) (record (contents s) { special = put (slice_index s.special) k v }) (behind s)) e)
      (special_good s k (flagged k (slice_index s.cpu.regs rt)) q h lt r.1 m.1 m.2)
  privileged_good s word other q h lt r m = absurd m

  -- an instruction, by its effect
  pub effects : (s : State) (word : ℕ) (i : Inst) (e : Effect) → Quiet x s → MemoryHolds w s.memory → p.count ≤ x.count → s.cpu.pc / 4 < p.words → decoding word ≡ Some i → InRange i → EffectFits e → EffectMay w i (contents s) e
      → Good s (acted w i (s.cpu.pc / 4) (contents s) (behind s) e) (moved x s (performed (access s) s.cpu word e))
  effects s word i (Set r v pc) q h few lt dec range b m = reg_good s r v pc (pc / 4) s.input q h b.0 m refl
  effects s word i (Wide hi lo pc) q h few lt dec range b m = wide_good s hi lo pc q h m
  effects s word i (Load r address) q h few lt dec range b m =
      let loads : Move = Loaded (advanced s.cpu) r address in
      to s (Done (record (after_read s (address / 4)) { cpu = with_loaded (advanced s.cpu) r (read_physical s (address / 4)) })) _ _ _
      (ap (λ o. moved x s (accessed (is_some o) causes.DataAlign causes.DataFault address s.cpu.pc loads)) (plainly s false address q)
      ∙ ap (λ b. moved x s (if not b then Trapped causes.DataAlign address s.cpu.pc else loads)) (eq-eqb (address % 4) 0 m.0)
      ∙ ap (λ o. Done (record (after_read_at s o) { cpu = with_loaded (advanced s.cpu) r (read_at s o) })) (plainly s false address q))
      refl
      (load_good s r (address / 4) q h lt b.0)
  effects s word i (Store address v) q h few lt dec range b m =
      let stores : Move = Stored (advanced s.cpu) address v in
      to s (Done (record (written x s (address / 4) v) { cpu = advanced s.cpu })) _ _ _
      (ap (λ o. moved x s (accessed (is_some o) causes.DataAlign causes.DataFault address s.cpu.pc stores)) (plainly s true address q)
      ∙ ap (λ b. moved x s (if not b then Trapped causes.DataAlign address s.cpu.pc else stores)) (eq-eqb (address % 4) 0 m.0)
      ∙ ap (λ o. Done (record (written_at x s o v) { cpu = advanced s.cpu })) (plainly s true address q))
      refl
      (store_good s (address / 4) v q h lt m.2 few m.3 m.4)
  effects s word i Overflow q h few lt dec range b m = absurd m
  effects s word i Call q h few lt dec range b m = absurd m
  effects s word i System q h few lt dec range b m =
      to s _ _ _ _ (cond-true _ (privileged s word (decoding word)) (Interrupt s causes.Illegal word s.cpu.pc) (eq-eqb _ _ q.mode) ∙ ap (privileged s word) dec) refl (privileged_good s word i q h lt range m)

  -- the word of the code is fetched, and the fetch changes nothing
  fetches : (s : State) (i : Inst) → Quiet x s → MemoryHolds w s.memory → p.code (s.cpu.pc / 4) ≡ Some i → (fetch s ≡ encoding i) × (fetched s ≡ s)
  fetches s i q h at =
      let k : ℕ = s.cpu.pc / 4 in
      let lt = f.inside k i at in
      let in' : nat_lt k (length s.memory) ≡ true = lt-ltb k (length s.memory) (omega (arith, h.size)) in
      let plain = plainly s false s.cpu.pc q in (
        ap (read_at s) plain ∙ cond-true _ (slice_index s.memory k) (port_word s k) in' ∙ h.kept k (encoding i) (f.keeps k i at),
        cond-true _ (after_read_at s (located s false s.cpu.pc)) s (eq-eqb (s.cpu.pc % 4) 0 q.aligned) ∙ ap (after_read_at s) plain
            ∙ cond-true _ s (if k == INPUT then record s { input = drop 1 s.input } else s) in',
      )

  -- with no interrupt, the instruction of the code is done
  pub instruction : (s : State) (i : Inst) → Quiet x s → MemoryHolds w s.memory → p.code (s.cpu.pc / 4) ≡ Some i → coming x s ≡ moved x s (performed (access s) s.cpu (encoding i) (effect_on i s.cpu))
  instruction s i q h at =
      let external : Coming = Interrupt s causes.External s.mask s.cpu.pc in
      let moves : Coming = moved x (fetched s) (move (access s) s.cpu (fetch s)) in
      let line : Bool = slice_index s.special SR == 1 && not (s.mask == 0) in
      let no_line : line ≡ false = ap (λ v. v == 1 && not (s.mask == 0)) q.sr in
      let word : ℕ = encoding i in
      let does : Move = executed (access s) s.cpu word (decoding word) in
      let got = fetches s i q h at in
      let moved_on : move (access s) s.cpu word ≡ does =
      ap (λ o. accessed (is_some o) causes.FetchAlign causes.FetchFault s.cpu.pc s.cpu.pc does) (plainly s false s.cpu.pc q)
      ∙ ap (λ b. if not b then Trapped causes.FetchAlign s.cpu.pc s.cpu.pc else does) (eq-eqb (s.cpu.pc % 4) 0 q.aligned) in
      cond-false s.reset (Interrupt s causes.Reset 0 s.cpu.pc) (if line then external else moves) q.no_reset
      ∙ cond-false line external moves no_line
      ∙ ap (λ z. moved x z (move (access s) s.cpu (fetch s))) got.1
      ∙ ap (λ v. moved x s (move (access s) s.cpu v)) got.0
      ∙ ap (moved x s) (moved_on ∙ ap (executed (access s) s.cpu word) (decoding-encoding i (f.range (s.cpu.pc / 4) i at)))
