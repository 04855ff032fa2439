-- What contracts see of a loaded run, and why none is loaded.
use Rattle.std.specs.Prelude.{◌≡◌, ℕ, ◌+◌, ◌*◌, ◌/◌, ◌<◌, ◌≤◌, ◌&&◌, Bool, true, nat_lt, Option, Some, None, List, length}
use Rattle.std.specs.Option.{option_map}
use Rattle.mips_table.specs.Device.{Pending, Idle, Reading, Writing}
use Rattle.mips_table.specs.Machine.{State}
use Rattle.schedule_file.specs.Rows.{Rows}
use Rattle.mips_machine.specs.Machine.{Held}
use Rattle.cvm_model.specs.declared.row.Next.{Next}
use Rattle.layer_contract.specs.declared.boot.Boot.{Boot as Booted}
use Rattle.boot_turns.specs.declared.answers.View.{View}
use Rattle.boot_turns.specs.declared.answers.View.TheVariants.{Boot, Trace}
use Rattle.boot_turns.specs.declared.answers.RunFault.{RunFault}
use Rattle.boot_turns.specs.declared.tracer.Tracer.{Tracer}
use Rattle.boot_turns.specs.Completes.{state_seen}
use Rattle.boot_run.specs.declared.load.LoadFault.{LoadFault}
use Rattle.boot_run.specs.declared.load.LoadFault.TheVariants.{NoSuchUser, SmallDisk, Memory, Disk}
use Rattle.boot_run.specs.RunEnds.{SeesUser}

-- the sectors that the users' pages take
abbrev pub pages_needed : Booted → ℕ
pages_needed b = length b.users.items * b.params.pages

-- and those that a machine with a boot ROM needs: the linked words' sectors stand behind them
abbrev pub rom_needed : Booted → ℕ
rom_needed b = pages_needed b + (length b.words.items + 1023) / 1024

-- a run that needs so many sectors can be loaded over a disk of so many
pub record HasDiskRoom (b : Booted) (view : View) (need count : ℕ) : Type 0 where
  pub user : SeesUser view (length b.users.items)
  pub room : need ≤ count

-- why a run that needs so many sectors is not loaded, over a disk of so many
abbrev pub LoadFails : Booted → View → (need count : ℕ) → LoadFault → Type 0
LoadFails b view need count (NoSuchUser u users) = (view ≡ Trace u) × (users ≡ length b.users.items) × (SeesUser view users → ⊥)
LoadFails b view need count (SmallDisk wanted have) = SeesUser view (length b.users.items) × (wanted ≡ need) × (have ≡ count) × (have < need)
LoadFails b view need count Memory = HasDiskRoom b view need count
LoadFails b view need count Disk = HasDiskRoom b view need count

-- what is kept of a trace before the first step
abbrev pub first_tracer : View → Option Tracer
first_tracer Boot = None
first_tracer (Trace u) = Some (record { user = u; steps = 0; call = None })

-- what is viewed is what a tracer is kept for
abbrev pub viewed : Option Tracer → View
viewed None = Boot
viewed (Some kept) = Trace kept.user

-- a trace is of one of the users, and no more steps are pending than were made
abbrev pub tracer_fits : Option Tracer → (users time : ℕ) → Bool
tracer_fits None users time = true
tracer_fits (Some kept) users time = nat_lt 0 kept.user && nat_lt kept.user (users + 1) && nat_lt kept.steps (time + 1)

-- what contracts see of a loaded run: what it was loaded with, the number of its disk's sectors, its machine,
-- the turns that are complete, the current user, how the run ended, the kept fault, and what is kept of a trace
pub record Kept (L : Type 0) : Type 0 where
  pub layer : L
  pub boot : Booted
  pub view : View
  pub count : ℕ
  pub machine : Held
  pub turns : ℕ
  pub current : ℕ
  pub ended : Option Next
  pub fault : Option RunFault
  pub tracer : Option Tracer

-- a run that was loaded with these, over a disk with the sectors that it needs, and made no step
pub record IsFresh {L : Type 0} (layer : L) (boot : Booted) (view : View) (rows : Rows) (need count : ℕ) (r : Kept L) : Type 0 where
  pub layer_is : r.layer ≡ layer
  pub boot_is : r.boot ≡ boot
  pub view_is : r.view ≡ view
  pub rows_are : r.machine.rows ≡ rows
  pub count_is : r.count ≡ count
  pub no_step : r.machine.time ≡ 0
  pub no_turn : r.turns ≡ 0
  pub no_user : r.current ≡ 0
  pub goes_on : r.ended ≡ None
  pub no_fault : r.fault ≡ None
  pub tracer_is : r.tracer ≡ first_tracer view
  pub has_room : HasDiskRoom boot view need count

-- where its sectors are told, it stands as the machine that is made of the sectors as they were
abbrev pub StandsFrom : {L : Type 0} → (start : List (List ℕ) → State) → (told retold : Option (List (List ℕ))) → Kept L → Type 0
StandsFrom start told retold r = state_seen retold r.machine ≡ option_map start told

-- whether a command that is under way names one of so many sectors
abbrev pub names_sector : ℕ → Pending → Bool
names_sector count Idle = true
names_sector count (Reading left sector) = nat_lt sector count
names_sector count (Writing left sector) = nat_lt sector count
