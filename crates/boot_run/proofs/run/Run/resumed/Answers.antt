use Rattle.std.proofs.Common.{◌≤◌, [], length, refl, sym, ap, ◌∙◌, subst, arith}
use Rattle.std.specs.Prelude.{IsTrue, slice_index}
use Rattle.schedule_file.specs.Rows.{Rows}
use Rattle.layer_map.specs.Map.{Map, MapInRange, memory_words}
use Rattle.mips_machine.specs.Machine.{state_of}
use Rattle.mips_machine.specs.Saved.{saved, AreSaved, CanBeSaved}
use Rattle.mips_table.specs.Device.{Pending}
use Rattle.boot_run.specs.LoadEnds.{names_sector}
use Rattle.boot_run.proofs.run.Run.resumed.Goals as goal

pub resumed_machine-requires : goal.resumed_machine-requires
resumed_machine-requires g c =
    subst (λ (m : Map). AreSaved (memory_words m) c.args.setup.schedule.inputs c.args.from.now) (sym (c.in_ok-layout.ensures.map ∙ c.memory_map.ensures ∙ c.requires.follows.made.same_map)) c.requires.words

pub returns-clause-taken_up : goal.returns-clause-taken_up
returns-clause-taken_up g c = record {
  layer_is = refl;
  boot_is = refl;
  rows_are = c.in_ok-machine.ensures.rows;
  count_is = refl;
  words_are =
      ap (λ (q : Rows). saved q.inputs (state_of c.in_ok-machine.machine []) c.from.result (slice_index c.args.from.now 6)) c.in_ok-machine.ensures.rows
      ∙ ap (λ n. saved c.args.setup.schedule.inputs (state_of c.in_ok-machine.machine []) n (slice_index c.args.from.now 6)) c.from.ensures ∙ c.in_ok-machine.ensures.words;
  resumed = record {
    view = refl;
    ended = refl;
    fault = refl;
    tracer = refl;
    some = subst (λ n. 1 ≤ n) (sym c.from.ensures) c.requires.some;
    ready = λ sectors. subst (λ (q : Rows). CanBeSaved q.inputs (state_of c.in_ok-machine.machine sectors)) (sym c.in_ok-machine.ensures.rows) (c.in_ok-machine.ensures.ready sectors);
  };
}

pub returns-clause-memory : goal.returns-clause-memory
returns-clause-memory g c = c.in_ok-machine.ensures.memory ∙ ap memory_words (c.in_ok-layout.ensures.map ∙ c.memory_map.ensures ∙ c.requires.follows.made.same_map)

pub invariant_of-result : goal.invariant_of-result
invariant_of-result g c =
    let map = c.in_ok-layout.ensures.map ∙ c.memory_map.ensures ∙ c.requires.follows.made.same_map in
    let long : memory_words c.in_ok-layout.layout.map ≤ length c.in_ok-machine.machine.hardware.memory = (let same = c.in_ok-machine.ensures.memory in omega (arith, same)) in (
      subst (λ (p : Pending). IsTrue (names_sector c.args.count p)) (sym (c.in_ok-machine.ensures.ready []).idle) refl,
      omega (arith, long),
      record {
        map = map;
        range = subst MapInRange (c.requires.follows.made.same_map ∙ sym map) c.requires.follows.made.range;
        globals = c.in_ok-layout.ensures.globals;
        memory = long;
        sectors = c.requires.room;
        users = c.requires.follows.made.users;
      },
      refl,
    )

-- whether there is memory or not
pub returns-in_err-layout-clause-boots : goal.returns-in_err-layout-clause-boots
returns-in_err-layout-clause-boots g c = c.systems_can_boot.ensures.loaded c.args.count c.requires.room

pub returns-in_err-machine-clause-boots : goal.returns-in_err-machine-clause-boots
returns-in_err-machine-clause-boots g c = c.systems_can_boot.ensures.loaded c.args.count c.requires.room

pub returns-clause-boots : goal.returns-clause-boots
returns-clause-boots g c = c.systems_can_boot.ensures.loaded c.args.count c.requires.room
