use Rattle.std.proofs.Common.{[], refl, arith, ◌≡◌, ◌≤◌, ◌∙◌, sym, ap, ℕ, List, Vec, Global, length, subst}
use Rattle.std.specs.Prelude.{IsTrue}
use Rattle.std.specs.Option.{option_map}
use Rattle.layer_map.specs.Map.{Map, MapInRange, memory_words}
use Rattle.boot_run.specs.Loading.{pages_of_users, system_of}
use Rattle.mips_machine.specs.Machine.{Held}
use Rattle.layer_contract.specs.Follows.{loaded}
use Rattle.boot_run.specs.LoadEnds.{names_sector, pages_needed}
use Rattle.boot_run.specs.Loaded.{boot_load}
use Rattle.boot_run.specs.RunEnds.{SeesUser}
use Rattle.boot_run.proofs.ReadyForTurns.{first_fits, fresh_run, loaded_ready}
use Rattle.boot_run.proofs.MadeIsLoaded.{loaded_long, loaded_whole, stands_loaded}
use Rattle.boot_run.specs.LoadedPages.{user_pages}
use Rattle.boot_run.proofs.LoadStores.{load_leaves}
use Rattle.boot_run.proofs.LoadsAndRuns.{load_done, load_broke}
use Rattle.boot_run.proofs.run.Run.load.Goals as goal

-- the calls
pub returns-in-Ok-clause-script : goal.returns-in-Ok-clause-script
returns-in-Ok-clause-script g c =
    load_done g.D.Sectors c.args.disk.now c.write_pages.new.disk (pages_of_users c.args.boot.params.pages c.as_slice.result.now []) (user_pages (system_of c.args.boot c.args.schedule)) c.pages_needed-need.result (pages_needed c.args.boot)
    (ap (λ (us : List (Vec ℕ Global)). pages_of_users c.args.boot.params.pages us []) c.as_slice.ensures.value) c.pages_needed-need.ensures _ c.in-Ok.ensures.script

pub returns-in-Err-clause-script : goal.returns-in-Err-clause-script
returns-in-Err-clause-script g c =
    load_broke g.D.Sectors c.args.disk.now c.write_pages.new.disk (pages_of_users c.args.boot.params.pages c.as_slice.result.now []) (user_pages (system_of c.args.boot c.args.schedule)) c.pages_needed-need.result (pages_needed c.args.boot)
    (ap (λ (us : List (Vec ℕ Global)). pages_of_users c.args.boot.params.pages us []) c.as_slice.ensures.value) c.pages_needed-need.ensures c.in-Err.field-0 c.in-Err.ensures.script

-- and what it comes to
pub returns-in-Ok-clause-loaded : goal.returns-in-Ok-clause-loaded
returns-in-Ok-clause-loaded g c =
    let some : 1 ≤ c.args.boot.params.pages = subst (λ (m : Map). 1 ≤ m.params.pages) c.requires.made.same_map c.requires.made.range.params.a_page in
    let users : c.len.result ≡ length c.args.boot.users.items = c.len.ensures ∙ sym c.as_slice.ensures.len ∙ ap (λ (us : List (Vec ℕ Global)). length us) c.as_slice.ensures.value in
    let few : pages_needed c.args.boot ≤ g.D.Sectors.size c.args.disk.now =
    subst (λ n. n ≤ g.D.Sectors.size c.args.disk.now) c.pages_needed-need.ensures (subst (λ n. c.pages_needed-need.result ≤ n) c.count-have.ensures c.in_ok-check_room.ensures.ok) in
    let written = load_leaves g.D.Sectors c.args.disk.now c.write_pages.new.disk (boot_load c.args.boot c.args.schedule).script (returns-in-Ok-clause-script g c) in
    let stands = stands_loaded c.args.boot c.args.schedule c.in_ok-machine.machine (g.D.Sectors.sectors c.args.disk.now) (g.D.Sectors.sectors c.write_pages.new.disk) (g.D.Sectors.size c.args.disk.now) some c.in_ok-machine.ensures written
    (g.met.D.Sectors.sized c.args.disk.now) few in record {
      fresh = fresh_run c.args.layer c.args.boot c.args.view c.args.schedule c.count-have.result (pages_needed c.args.boot) (g.D.Sectors.size c.args.disk.now) c.len.result c.in_ok-machine.machine c.first_tracer.result
          c.count-have.ensures (ap (λ (m : Held). m.rows) c.in_ok-machine.ensures) (ap (λ (m : Held). m.time) c.in_ok-machine.ensures) c.first_tracer.ensures c.in_ok-check_view.ensures.ok users few;
      memory = loaded_whole c.args.boot c.args.schedule c.in_ok-machine.machine c.in_ok-machine.ensures;
      stands = stands;
      ready = λ x old budget e.
          loaded_ready x (system_of c.args.boot c.args.schedule) (loaded (system_of c.args.boot c.args.schedule) old) c.args.view c.first_tracer.result c.first_tracer.ensures budget c.in_ok-machine.machine (g.D.Sectors.sectors c.write_pages.new.disk)
          (stands ∙ ap (option_map (loaded (system_of c.args.boot c.args.schedule))) e) (ap (λ (m : Held). m.time) c.in_ok-machine.ensures);
    }

pub returns-in-Err-clause-refused : goal.returns-in-Err-clause-refused
returns-in-Err-clause-refused g c =
    let users : c.len.result ≡ length c.args.boot.users.items = c.len.ensures ∙ sym c.as_slice.ensures.len ∙ ap (λ (us : List (Vec ℕ Global)). length us) c.as_slice.ensures.value in record {
      user = subst (λ n. SeesUser c.args.view n) users c.in_ok-check_view.ensures.ok;
      room = subst (λ n. n ≤ g.D.Sectors.size c.args.disk.now) c.pages_needed-need.ensures (subst (λ n. c.pages_needed-need.result ≤ n) c.count-have.ensures c.in_ok-check_room.ensures.ok);
    }

pub invariant_of-result : goal.invariant_of-result
invariant_of-result g c =
    let map = c.in_ok-layout.ensures.map ∙ c.memory_map.ensures ∙ c.requires.made.same_map in
    let long = loaded_long c.args.boot c.args.schedule c.in_ok-machine.machine c.in_ok-machine.ensures in
    let users : c.len.result ≡ length c.args.boot.users.items = c.len.ensures ∙ sym c.as_slice.ensures.len ∙ ap (λ (us : List (Vec ℕ Global)). length us) c.as_slice.ensures.value in (
      subst (λ (m : Held). IsTrue (names_sector c.count-have.result m.hardware.ports.pending)) (sym c.in_ok-machine.ensures) refl,
      omega (arith, long),
      record {
        map = map;
        range = subst MapInRange (c.requires.made.same_map ∙ sym map) c.requires.made.range;
        globals = c.in_ok-layout.ensures.globals;
        memory = subst (λ (m : Map). memory_words m ≤ length c.in_ok-machine.machine.hardware.memory) (sym map) long;
        sectors = subst (λ n. n ≤ c.count-have.result) c.pages_needed-need.ensures c.in_ok-check_room.ensures.ok;
        users = c.requires.made.users;
      },
      first_fits c.args.view c.first_tracer.result c.first_tracer.ensures (length c.args.boot.users.items) c.in_ok-machine.machine.time (subst (λ n. SeesUser c.args.view n) users c.in_ok-check_view.ensures.ok),
    )
