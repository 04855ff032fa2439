-- What a call of `load` or of `load_rom` makes of what is booted: a loaded run, over the sectors that it wrote.
use Rattle.std.specs.Prelude.{◌≡◌, ℕ, ◌+◌, List, length}
use Rattle.cvm_outside.specs.declared.sectors.Sectors as sectors_of
use Rattle.cvm_outside.specs.Script.{Call}
use Rattle.layer_map.specs.Map.{memory_words}
use Rattle.mips_table.specs.Machine.{State}
use Rattle.schedule_file.specs.Rows.{Rows}
use Rattle.cvm_model.specs.Cvm.{map_of}
use Rattle.layer_contract.specs.declared.boot.Boot.{Boot as Booted}
use Rattle.layer_contract.specs.Boots.{boot_of}
use Rattle.layer_contract.specs.Follows.{loaded}
use Rattle.boot_turns.specs.declared.answers.View.{View}
use Rattle.boot_turns.specs.Rom.{own_rom, rom_loaded}
use Rattle.boot_run.specs.Loading.{system_of}
use Rattle.boot_run.specs.LoadedPages.{user_pages, rom_pages}
use Rattle.boot_run.specs.LoadScript.{load_script}
use Rattle.boot_run.specs.LoadEnds.{Kept, IsFresh, StandsFrom, pages_needed, rom_needed}
use Rattle.boot_run.specs.TurnCalls.{StandsReady}

-- what a load makes: how many sectors it needs, its script, how many words the machine's memory has, and the machine that stands over the sectors as they
-- were
pub record Load : Type 0 where
  pub need : ℕ
  pub script : List Call
  pub words : ℕ
  pub start : List (List ℕ) → State

-- of what is booted, under a schedule's rows
abbrev pub boot_load : Booted → Rows → Load
boot_load b rows = record {
  need = pages_needed b;
  script = load_script (user_pages (system_of b rows)) (pages_needed b);
  words = memory_words (map_of (boot_of b));
  start = loaded (system_of b rows);
}

-- and on a machine with a boot ROM of these words, which stands in a frame behind the map
abbrev pub rom_load : Booted → Rows → (rom : List ℕ) → Load
rom_load b rows rom = record {
  need = rom_needed b;
  script = load_script (rom_pages (system_of b rows)) (rom_needed b);
  words = memory_words (map_of (boot_of b)) + 1024;
  start = rom_loaded (system_of b rows) rom;
}

-- the ROM being the one that loads what is booted
abbrev pub own_load : Booted → Rows → Load
own_load b rows = rom_load b rows (own_rom (system_of b rows))

-- A RUN THAT IS LOADED, over a disk before and after: it has made no step; its memory has the words that it is to have; and its machine stands as the start
-- over the sectors as they were, where they are told, and the run is ready for its first turn from there
pub record IsLoaded {D L : Type 0} (told : sectors_of.Ghosts D) (layer : L) (b : Booted) (view : View) (rows : Rows) (load : Load) (disk redisk : D)
    (r : Kept L) : Type 0 where
  pub fresh : IsFresh layer b view rows load.need (told.size disk) r
  pub memory : length r.machine.hardware.memory ≡ load.words
  pub stands : StandsFrom load.start (told.sectors disk) (told.sectors redisk) r
  pub ready : StandsReady (system_of b rows) load.start (told.sectors disk) (told.sectors redisk) r
