-- The sectors that code may not use: a write to a port leaves all sectors as they are, and the end of a step writes at most the one
-- that the command under way names.
use Rattle.std.proofs.Common.{◌≡◌, ℕ, zero, suc, ◌+◌, ◌-◌, ◌<◌, ◌≤◌, true, not, nat_lt, [], refl, arith, get_or-set_other}
use Rattle.std.specs.Prelude.{◌==◌, if◌then◌else◌, slice_set}
use Rattle.std.proofs.lemmas.Bool.{cond_both}
use Rattle.mips_table.specs.Device.{Device, Pending, Idle, Reading, Writing, BUFFER, SECTOR, COMMAND, is_busy, is_buffer, sector_of, command_begun, port_write, settled}
use Rattle.mips_table.specs.Fits.{NamesSector}

-- the sectors are the same, and a command under way is still for one of the first n sectors
pub record KeepsSectors (n : ℕ) (d e : Device) : Type 0 where
  pub sectors : e.sectors ≡ d.sectors
  pub named : NamesSector n d.pending → NamesSector n e.pending

same : (n : ℕ) (d : Device) → KeepsSectors n d d
same n d = record { sectors = refl; named = λ h. h }

begins : (n : ℕ) (busy : ℕ → ℕ) (count : ℕ) (d : Device) (v : ℕ) → d.sector < n → KeepsSectors n d (command_begun busy count d v)
begins n busy count d v lt =
    let reading : Device = record d { pending = Reading (busy d.commands) d.sector; commands = d.commands + 1 } in
    let writing : Device = record d { pending = Writing (busy d.commands) d.sector; commands = d.commands + 1 } in
    cond_both (not (nat_lt d.sector count)) d (if v == 1 then reading else if v == 2 then writing else d) (KeepsSectors n d) (λ _. same n d)
    (λ _. cond_both (v == 1) reading (if v == 2 then writing else d) (KeepsSectors n d) (λ _. record { sectors = refl; named = λ h. lt })
    (λ _. cond_both (v == 2) writing d (KeepsSectors n d) (λ _. record { sectors = refl; named = λ h. lt }) (λ _. same n d)))

-- a write to a port
pub written_keeps : (n : ℕ) (busy : ℕ → ℕ) (count : ℕ) (d : Device) (k v : ℕ) → ((k == COMMAND) ≡ true → d.sector < n) → KeepsSectors n d (port_write busy count d k v)
written_keeps n busy count d k v lt =
    let fills : Device = record d { buffer = slice_set d.buffer (k - BUFFER) v } in
    let names : Device = record d { sector = v } in
    cond_both (is_busy d.pending) d (if k == COMMAND then command_begun busy count d v else if is_buffer k then fills else if k == SECTOR then names else d) (KeepsSectors n d) (λ _. same n d)
    (λ _. cond_both (k == COMMAND) (command_begun busy count d v) (if is_buffer k then fills else if k == SECTOR then names else d) (KeepsSectors n d) (λ e. begins n busy count d v (lt e))
    (λ _. cond_both (is_buffer k) fills (if k == SECTOR then names else d) (KeepsSectors n d) (λ _. record { sectors = refl; named = λ h. h })
    (λ _. cond_both (k == SECTOR) names d (KeepsSectors n d) (λ _. record { sectors = refl; named = λ h. h }) (λ _. same n d))))

-- the end of a step: the command under way is for the same sector
pub settled_names : (n : ℕ) (q : Pending) (d : Device) → NamesSector n q → NamesSector n d.pending → NamesSector n (settled q d).pending
settled_names n Idle d a h = h
settled_names n (Reading zero i) d a h = tt
settled_names n (Reading (suc j) i) d a h = a
settled_names n (Writing zero i) d a h = tt
settled_names n (Writing (suc j) i) d a h = a

-- and every sector from n on stays
pub settled_sectors : (n : ℕ) (q : Pending) (d : Device) → NamesSector n q → (k : ℕ) → n ≤ k → sector_of (settled q d).sectors k ≡ sector_of d.sectors k
settled_sectors n Idle d a k le = refl
settled_sectors n (Reading zero i) d a k le = refl
settled_sectors n (Reading (suc j) i) d a k le = refl
settled_sectors n (Writing zero i) d a k le = get_or-set_other d.sectors i k d.buffer [] (λ e. absurd (omega (arith, a)))
settled_sectors n (Writing (suc j) i) d a k le = refl
