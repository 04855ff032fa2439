use Rattle.std.proofs.Common.{refl, arith, ◌≡◌, ◌≤◌, ◌*◌, ◌∙◌, sym, ap, ap₂, ℕ, List, Vec, Global, length, subst}
use Rattle.std.specs.Prelude.{IsTrue}
use Rattle.std.specs.Option.{option_map}
use Rattle.layer_map.specs.Map.{Map, MapInRange, memory_frames, memory_words}
use Rattle.mips_machine.specs.Machine.{Held}
use Rattle.cvm_model.specs.Cvm.{map_of}
use Rattle.layer_contract.specs.Boots.{boot_of}
use Rattle.boot_turns.specs.Rom.{rom_loaded}
use Rattle.boot_run.specs.Loading.{pages_of_users, system_of, with_rom}
use Rattle.boot_run.specs.LoadEnds.{names_sector, rom_needed}
use Rattle.boot_run.proofs.ReadyForTurns.{first_fits, fresh_run, loaded_ready}
use Rattle.boot_run.proofs.LoadStores.{load_leaves}
use Rattle.boot_run.proofs.RomLoads.{rom_whole, stands_from_rom}
use Rattle.boot_run.specs.Loaded.{rom_load}
use Rattle.boot_run.specs.LoadedPages.{rom_pages}
use Rattle.boot_run.proofs.LoadsAndRuns.{load_done, load_broke}
use Rattle.boot_run.proofs.run.Run.load_words.Goals as goal

-- the calls
pub returns-in-Ok-clause-script : goal.returns-in-Ok-clause-script
returns-in-Ok-clause-script g c =
    let b = c.args.setup.boot in
    load_done g.D.Sectors c.args.disk.now c.write_pages.new.disk (pages_of_users b.params.pages c.as_slice-users.result.now c.as_slice-words.result.now) (rom_pages (system_of b c.args.setup.schedule)) c.rom_needed.result (rom_needed b)
    (ap₂ (λ (us : List (Vec ℕ Global)) (ws : List ℕ). pages_of_users b.params.pages us ws) c.as_slice-users.ensures.value c.as_slice-words.ensures.value) c.rom_needed.ensures _ c.in-Ok.ensures.script

pub returns-in-Err-clause-script : goal.returns-in-Err-clause-script
returns-in-Err-clause-script g c =
    let b = c.args.setup.boot in
    load_broke g.D.Sectors c.args.disk.now c.write_pages.new.disk (pages_of_users b.params.pages c.as_slice-users.result.now c.as_slice-words.result.now) (rom_pages (system_of b c.args.setup.schedule)) c.rom_needed.result (rom_needed b)
    (ap₂ (λ (us : List (Vec ℕ Global)) (ws : List ℕ). pages_of_users b.params.pages us ws) c.as_slice-users.ensures.value c.as_slice-words.ensures.value) c.rom_needed.ensures c.in-Err.field-0 c.in-Err.ensures.script

-- and what it comes to
pub returns-in-Ok-clause-loaded : goal.returns-in-Ok-clause-loaded
returns-in-Ok-clause-loaded g c =
    let b = c.args.setup.boot in
    let rows = c.args.setup.schedule in
    let rom = c.args.rom.now in
    let some : 1 ≤ b.params.pages = subst (λ (m : Map). 1 ≤ m.params.pages) c.requires.follows.made.same_map c.requires.follows.made.range.params.a_page in
    let map = c.in_ok-layout.ensures.map ∙ c.memory_map.ensures ∙ c.requires.follows.made.same_map in
    let made : c.in_ok-machine.machine ≡ with_rom (memory_frames (map_of (boot_of b))) rom rows = c.in_ok-machine.ensures ∙ ap (λ (m : Map). with_rom (memory_frames m) rom rows) map in
    let stands = stands_from_rom b rows rom c.requires.few (omega arith) c.in_ok-machine.machine (g.D.Sectors.sectors c.args.disk.now) (g.D.Sectors.sectors c.write_pages.new.disk) (g.D.Sectors.size c.args.disk.now) some made
    (load_leaves g.D.Sectors c.args.disk.now c.write_pages.new.disk (rom_load b rows rom).script (returns-in-Ok-clause-script g c))
    (g.met.D.Sectors.sized c.args.disk.now) c.requires.room.room in record {
      fresh = fresh_run c.args.setup.layer b c.args.view rows c.count-count.result (rom_needed b) (g.D.Sectors.size c.args.disk.now) (length b.users.items) c.in_ok-machine.machine c.first_tracer.result
          c.count-count.ensures (ap (λ (m : Held). m.rows) c.in_ok-machine.ensures) (ap (λ (m : Held). m.time) c.in_ok-machine.ensures) c.first_tracer.ensures c.requires.room.user refl c.requires.room.room;
      memory = rom_whole b rows rom c.requires.few (omega arith) c.in_ok-machine.machine made;
      stands = stands;
      ready = λ x old budget e.
          loaded_ready x (system_of b rows) (rom_loaded (system_of b rows) rom old) c.args.view c.first_tracer.result c.first_tracer.ensures budget c.in_ok-machine.machine (g.D.Sectors.sectors c.write_pages.new.disk)
          (stands ∙ ap (option_map (rom_loaded (system_of b rows) rom)) e) (ap (λ (m : Held). m.time) c.in_ok-machine.ensures);
    }

pub returns-in-Err-clause-refused : goal.returns-in-Err-clause-refused
returns-in-Err-clause-refused g c = c.requires.room

pub invariant_of-result : goal.invariant_of-result
invariant_of-result g c =
    let b = c.args.setup.boot in
    let rows = c.args.setup.schedule in
    let map = c.in_ok-layout.ensures.map ∙ c.memory_map.ensures ∙ c.requires.follows.made.same_map in
    let made : c.in_ok-machine.machine ≡ with_rom (memory_frames (map_of (boot_of b))) c.args.rom.now rows = c.in_ok-machine.ensures ∙ ap (λ (m : Map). with_rom (memory_frames m) c.args.rom.now rows) map in
    let whole = rom_whole b rows c.args.rom.now c.requires.few (omega arith) c.in_ok-machine.machine made in
    let long : memory_words (map_of (boot_of b)) ≤ length c.in_ok-machine.machine.hardware.memory = omega (arith, whole) in
    let enough : b.params.pages * length b.users.items ≤ c.count-count.result = omega (arith, c.requires.room.room, c.count-count.ensures) in (
      subst (λ (m : Held). IsTrue (names_sector c.count-count.result m.hardware.ports.pending)) (sym made) refl,
      omega (arith, long),
      record {
        map = map;
        range = subst MapInRange (c.requires.follows.made.same_map ∙ sym map) c.requires.follows.made.range;
        globals = c.in_ok-layout.ensures.globals;
        memory = subst (λ (m : Map). memory_words m ≤ length c.in_ok-machine.machine.hardware.memory) (sym map) long;
        sectors = omega (arith, enough);
        users = c.requires.follows.made.users;
      },
      first_fits c.args.view c.first_tracer.result c.first_tracer.ensures (length b.users.items) c.in_ok-machine.machine.time c.requires.room.user,
    )
