-- A word of the disk's ports, and that a write of a port numbers at most one command.
use Rattle.std.proofs.Common.{◌≡◌, ℕ, ◌+◌, ◌-◌, ◌≤◌, not, [], ◌∷◌, ◌++◌, Some, length, slice_index, sym, ◌∙◌, ne_eqb, arith}
use Rattle.std.specs.Prelude.{◌==◌, nat_lt, slice_set, if◌then◌else◌}
use Rattle.std.proofs.lemmas.Bool.{cond_both, cond-false}
use Rattle.mips_table.specs.Device.{Device, Reading, Writing, BUFFER, SECTOR, COMMAND, is_busy, is_buffer, command_begun, port_read, port_write}
use Rattle.mips_table.specs.Device.{Environment, POWER}
use Rattle.mips_table.specs.Machine.{State, LOG, LEFT, INPUT, LOG_ROOM, port_word, port_written}

-- no port of the console
pub disk_word : (s : State) (k : ℕ) → (k ≡ LOG → ⊥) → (k ≡ LEFT → ⊥) → (k ≡ INPUT → ⊥) → port_read s.device k ≡ port_word s k
disk_word s k log left input =
    let last = if k == INPUT then slice_index s.input 0 else port_read s.device k in
    sym (cond-false (k == LOG) (length s.log) (if k == LEFT then length s.input else last) (ne_eqb _ _ log)
    ∙ cond-false (k == LEFT) (length s.input) last (ne_eqb _ _ left) ∙ cond-false (k == INPUT) (slice_index s.input 0) (port_read s.device k) (ne_eqb _ _ input))

-- neither the power port nor the log
pub disk_written : (x : Environment) (s : State) (k value : ℕ) → (k ≡ POWER → ⊥) → (k ≡ LOG → ⊥) → record s { device = port_write x.busy x.count s.device k value } ≡ port_written x s k value
disk_written x s k value power log =
    let disk : State = record s { device = port_write x.busy x.count s.device k value } in
    let logs : State = if nat_lt (length s.log) LOG_ROOM then record s { log = s.log ++ value ∷ [] } else s in
    sym (cond-false (k == POWER) (let off : State = record s { off = Some value } in off) (if k == LOG then logs else disk) (ne_eqb _ _ power) ∙ cond-false (k == LOG) logs disk (ne_eqb _ _ log))

-- at most one command is numbered
abbrev pub Numbers : (old new : Device) → Type 0
Numbers old new = new.commands ≤ old.commands + 1

begun_numbers : (busy : ℕ → ℕ) (count : ℕ) (d : Device) (command : ℕ) → Numbers d (command_begun busy count d command)
begun_numbers busy count d command =
    let reading : Device = record d { pending = Reading (busy d.commands) d.sector; commands = d.commands + 1 } in
    let writing : Device = record d { pending = Writing (busy d.commands) d.sector; commands = d.commands + 1 } in
    let none : Numbers d d = omega arith in
    let one : d.commands + 1 ≤ d.commands + 1 = omega arith in
    cond_both (not (nat_lt d.sector count)) d (if command == 1 then reading else if command == 2 then writing else d) (Numbers d) (λ _. none)
    (λ _. cond_both (command == 1) reading (if command == 2 then writing else d) (Numbers d) (λ _. one)
    (λ _. cond_both (command == 2) writing d (Numbers d) (λ _. one) (λ _. none)))

pub write_numbers : (busy : ℕ → ℕ) (count : ℕ) (d : Device) (k value : ℕ) → Numbers d (port_write busy count d k value)
write_numbers busy count d k value =
    let filled : Device = record d { buffer = slice_set d.buffer (k - BUFFER) value } in
    let named : Device = record d { sector = value } in
    let none : Numbers d d = omega arith in
    cond_both (is_busy d.pending) d (if k == COMMAND then command_begun busy count d value else if is_buffer k then filled else if k == SECTOR then named else d) (Numbers d) (λ _. none)
    (λ _. cond_both (k == COMMAND) (command_begun busy count d value) (if is_buffer k then filled else if k == SECTOR then named else d) (Numbers d) (λ _. begun_numbers busy count d value)
    (λ _. cond_both (is_buffer k) filled (if k == SECTOR then named else d) (Numbers d) (λ _. none)
    (λ _. cond_both (k == SECTOR) named d (Numbers d) (λ _. none) (λ _. none))))
