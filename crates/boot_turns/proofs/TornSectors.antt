-- A failed transfer of one of the sectors of a run leaves those past them.
use Rattle.std.proofs.Common.{◌≡◌, ℕ, zero, suc, ◌≤◌, List, [], ap, ◌∙◌, arith, get_or-set_other}
use Rattle.mips_table.specs.Device.{Pending, Idle, Reading, Writing, Environment, sector_of}
use Rattle.mips_table.specs.Machine.{State}
use Rattle.mips_table.specs.Fits.{NamesSector}
use Rattle.mips_machine.specs.Steps.{before_count}
use Rattle.layer_contract.specs.Layer.{command_due}
use Rattle.boot_turns.specs.Torn.{TornBy, Torn}

-- what the transfer of a command leaves past the sectors that it may name
torn_by : (n : ℕ) (p : Pending) (old now : List (List ℕ)) → NamesSector n p → TornBy p old now → (q : ℕ) → n ≤ q → sector_of now q ≡ sector_of old q
torn_by n Idle old now h e q le = absurd e
torn_by n (Reading zero sector) old now h e q le = ap (λ ss. sector_of ss q) e
torn_by n (Reading (suc left) sector) old now h e q le = absurd e
torn_by n (Writing zero sector) old now h e q le = ap (λ ss. sector_of ss q) e.1 ∙ get_or-set_other old sector q e.0 [] (λ d. absurd (omega (arith, h, le, d)))
torn_by n (Writing (suc left) sector) old now h e q le = absurd e

pub torn_past : (x : Environment) (n : ℕ) (s : State) (now : List (List ℕ)) → NamesSector n (command_due x s) → Torn x s now → (q : ℕ) → n ≤ q → sector_of now q ≡ sector_of s.device.sectors q
unfolding command_due before_count
torn_past x n s now h e q le = torn_by n (before_count x s).pending s.device.sectors now h e q le
