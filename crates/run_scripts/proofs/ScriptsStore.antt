-- What scripts store: the transfer of each step leaves the sectors of the next state, and nothing else writes one.
use Rattle.std.specs.Prelude.{Option, None, slice_set, nat_lt, not, ◌==◌, if◌then◌else◌}
use Rattle.std.proofs.Common.{◌≡◌, ℕ, zero, suc, ◌+◌, ◌-◌, ◌<◌, Bool, true, false, List, [], ◌∷◌, refl, sym, ap, ◌∙◌, subst, arith}
use Rattle.mips_table.specs.Device.{Device, Environment, Pending, Idle, Reading, Writing, BUFFER, COMMAND, SECTOR, is_busy, is_buffer, command_begun, port_write, settled}
use Rattle.mips_table.specs.Machine.{State, come_to, coming, latched, if_on, step}
use Rattle.mips_machine.specs.Steps.{before_count, script_of_step, due_if}
use Rattle.cvm_outside.specs.Script.{Call, Printed, Read, Wrote, Got, Stored, WritesNoSector, scripts, sectors_after}
use Rattle.cvm_outside.proofs.RowsPut.{scripts-none, scripts-suc, quiet_both}
use Rattle.boot_turns.specs.Runs.{Run, state_at}
use Rattle.sector_disk.specs.Ports.{transfer_script}
use Rattle.boot_run.proofs.LoadStores.{stored-append}
use Rattle.run_scripts.proofs.LastingProperties.{Stays, coming_stays}

-- SCRIPTS that write no sector
pub quiet_stores : (a : List Call) → WritesNoSector a → (ss : List (List ℕ)) → sectors_after a ss ≡ ss
quiet_stores [] q ss = refl
quiet_stores (Printed t ∷ a) q ss = quiet_stores a q ss
quiet_stores (Read s ∷ a) q ss = quiet_stores a q ss
quiet_stores (Wrote s ws ∷ a) q ss = absurd q
quiet_stores (Got n ∷ a) q ss = quiet_stores a q ss
quiet_stores (Stored n bs ∷ a) q ss = quiet_stores a q ss

pub quiet_scripts : (f : ℕ → List Call) (n : ℕ) → ((i : ℕ) → WritesNoSector (f i)) → WritesNoSector (scripts f n)
quiet_scripts f zero h = subst WritesNoSector (sym (scripts-none f)) tt
quiet_scripts f (suc n) h = subst WritesNoSector (sym (scripts-suc f n)) (quiet_both (scripts f n) (f n) (quiet_scripts f n h) (h n))

pub stored_scripts : (f : ℕ → List Call) (g : ℕ → List (List ℕ)) (n : ℕ) → ((i : ℕ) → i < n → sectors_after (f i) (g i) ≡ g (suc i)) → sectors_after (scripts f n) (g 0) ≡ g n
stored_scripts f g zero h = ap (λ (l : List Call). sectors_after l (g 0)) (scripts-none f)
stored_scripts f g (suc n) h =
    ap (λ (l : List Call). sectors_after l (g 0)) (scripts-suc f n) ∙ stored-append (scripts f n) (f n) (g 0)
    ∙ ap (sectors_after (f n)) (stored_scripts f g n (λ i lt. h i (omega (arith, lt)))) ∙ h n (omega arith)

-- A STEP changes no sector before the disk counts
begun_keeps : (busy : ℕ → ℕ) (count : ℕ) (d : Device) (command : ℕ) → (command_begun busy count d command).sectors ≡ d.sectors
begun_keeps busy count d command = by (not (nat_lt d.sector count)) (command == 1) (command == 2)
  where
    by : (a b c : Bool) → (if a then d else if b then record d { pending = Reading (busy d.commands) d.sector; commands = d.commands + 1 } else
        if c then record d { pending = Writing (busy d.commands) d.sector; commands = d.commands + 1 } else d).sectors ≡ d.sectors
    by true b c = refl
    by false true c = refl
    by false false true = refl
    by false false false = refl

port_keeps : (busy : ℕ → ℕ) (count : ℕ) (d : Device) (k value : ℕ) → (port_write busy count d k value).sectors ≡ d.sectors
port_keeps busy count d k value = by (is_busy d.pending) (k == COMMAND) (is_buffer k) (k == SECTOR)
  where
    by : (a b c e : Bool) → (if a then d else if b then command_begun busy count d value else if c then record d { buffer = slice_set d.buffer (k - BUFFER) value } else
        if e then record d { sector = value } else d).sectors ≡ d.sectors
    by true b c e = refl
    by false true c e = begun_keeps busy count d value
    by false false true e = refl
    by false false false true = refl
    by false false false false = refl

sectors_stay : (x : Environment) (sectors : List (List ℕ)) → Stays x (λ s. s.device.sectors ≡ sectors)
sectors_stay x sectors = record {
  cpu = λ s c e. e;
  special = λ s words e. e;
  memory = λ s words e. e;
  device = λ s k value e. port_keeps x.busy x.count s.device k value ∙ e;
  log = λ s words e. e;
  input = λ s words e. e;
  mask = λ s lines e. e;
  reset = λ s e. e;
  off = λ s power e. e;
}

-- THE TRANSFER that is due
transfer_stores : (p : Pending) (d : Device) (ss : List (List ℕ)) → d.sectors ≡ ss → sectors_after (transfer_script p d.buffer) ss ≡ (settled p d).sectors
transfer_stores Idle d ss e = sym e
transfer_stores (Reading zero sector) d ss e = sym e
transfer_stores (Reading (suc left) sector) d ss e = sym e
transfer_stores (Writing zero sector) d ss e = ap (λ (l : List (List ℕ)). slice_set l sector d.buffer) (sym e)
transfer_stores (Writing (suc left) sector) d ss e = sym e

pub step_stores : (r : Run) (t : ℕ) → (state_at r t).off ≡ None → sectors_after (script_of_step r.around (state_at r t)) (state_at r t).device.sectors ≡ (state_at r (suc t)).device.sectors
unfolding step before_count script_of_step
step_stores r t on =
    let s : State = state_at r t in
    let d : Device = (come_to (coming r.around (latched r.around s))).device in
    ap (λ (o : Option ℕ). sectors_after (due_if r.around s o) s.device.sectors) on
    ∙ transfer_stores d.pending d s.device.sectors
    (coming_stays r.around (λ t. t.device.sectors ≡ s.device.sectors) (sectors_stay r.around s.device.sectors) (latched r.around s) refl)
    ∙ ap (λ (o : Option ℕ). (if_on r.around s o).device.sectors) (sym on)
