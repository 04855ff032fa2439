-- Where the parts of what is booted stand, as a loaded run keeps it.
use Rattle.std.specs.Prelude.{◌≡◌, ℕ, ◌*◌, ◌<◌, ◌≤◌, All, IsTrue, Option, List, length}
use Rattle.c0_tree.specs.View.{unit_view}
use Rattle.layer_map.specs.Map.{Map, MapInRange, memory_words}
use Rattle.cvm_model.specs.Cvm.{map_of}
use Rattle.layer_contract.specs.declared.boot.Boot.{Boot as Booted}
use Rattle.layer_contract.specs.Boots.{boot_of}
use Rattle.boot_report.specs.Given.{offsets_of}
use Rattle.mips_machine.specs.Machine.{Held}
use Rattle.boot_turns.specs.declared.tracer.Tracer.{Tracer}
use Rattle.boot_run.specs.LoadEnds.{pages_needed, names_sector, tracer_fits}

-- the map of what is booted, and the offsets of its globals; the memory has room for the map, and the disk for the users' pages, in which their
-- words have room
pub record LayoutHolds (b : Booted) (m : Map) (offsets words : List ℕ) (count : ℕ) : Type 0 where
  pub map : m ≡ map_of (boot_of b)
  pub range : MapInRange m
  pub globals : offsets ≡ offsets_of (unit_view b.unit)
  pub memory : memory_words m ≤ length words
  pub sectors : pages_needed b ≤ count
  pub users : All (λ words. length words ≤ 1024 * b.params.pages) (boot_of b).users

-- so it can go on, over a disk of so many sectors: the command under way names one of them, memory holds the current user's word, the parts
-- are placed, and what is kept of a trace fits
abbrev pub CanGoOn : Booted → Held → Map → (offsets : List ℕ) → (count : ℕ) → Option Tracer → Type 0
CanGoOn b held m offsets count tracer = IsTrue (names_sector count held.hardware.ports.pending) × (1024 < length held.hardware.memory)
    × LayoutHolds b m offsets held.hardware.memory count × IsTrue (tracer_fits tracer (length b.users.items) held.time)
