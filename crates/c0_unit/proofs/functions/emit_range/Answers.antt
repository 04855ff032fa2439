-- The lemmas on one function more, at what the calls gave.
use Rattle.std.proofs.Common.{◌+◌, ◌*◌, ◌<◌, List, ◌++◌, length, map, sym, ap, ◌∙◌, arith, append-nil, add-one}
use Rattle.mips_table.specs.Encoding.{encoding}
use Rattle.layer_map.specs.Map.{layer_words}
use Rattle.c0_tree.specs.Tree.{CFunction}
use Rattle.c0_tree.specs.View.{unit_view}
use Rattle.c0_stmt_code.specs.Code.{links_of}
use Rattle.c0_unit.specs.Code.{functions_code, words_of_functions, starts_from}
use Rattle.c0_unit.proofs.FunctionsInOrder.{none_in}
use Rattle.c0_unit.proofs.OneFunctionMore.{grown_code, grown_starts, code_few, starts_placed}
use Rattle.c0_unit.proofs.functions.emit_range.Goals as goal

pub loop-number-init : goal.loop-number-init
loop-number-init c =
    let none = none_in c.args.from (unit_view c.args.typed.now).functions in
    record {
      code =
          sym (append-nil c.args.code.now.items)
          ∙ ap (λ (fs : List CFunction). c.args.code.now.items ++ map encoding (functions_code (unit_view c.args.typed.now) (links_of c.args.addresses.now) fs)) (sym none);
      starts = c.new-starts.ensures.items ∙ ap (λ (fs : List CFunction). starts_from (layer_words + length c.args.code.now.items) (words_of_functions (unit_view c.args.typed.now) fs)) (sym none);
      reached = omega arith;
      few = omega arith;
    }

pub loop-number-preserved : goal.loop-number-preserved
loop-number-preserved c =
    let lt = c.loop-number-test.true in
    let within = c.requires.within in
    let reached = c.loop-number.invariant.reached in
    let many : c.loop-number.number < length (unit_view c.args.typed.now).functions = omega (arith, lt, within) in
    let code = grown_code (unit_view c.args.typed.now) c.args.addresses.now c.requires.faults c.args.from c.loop-number.number (c.loop-number.number + 1) reached (add-one c.loop-number.number) many
    c.args.code.now.items c.loop-number.code.items c.emit_one.new.code.items c.loop-number.invariant.code c.in_ok-emit_one.ensures in
    record {
      code = code;
      starts = grown_starts (unit_view c.args.typed.now) c.lengths_are_fixed.ensures (links_of c.args.addresses.now) c.args.from c.loop-number.number (c.loop-number.number + 1) layer_words (4 * (16384 + c.len.result))
          reached (add-one c.loop-number.number) many c.args.code.now.items c.loop-number.code.items c.loop-number.starts.items c.push.new.self.items c.loop-number.invariant.code
          (let l = c.len.ensures in omega (arith, l, c.loop-number.code.ok)) c.loop-number.invariant.starts c.in_ok-push.ensures.items;
      reached = omega (arith, reached);
      few = code_few (unit_view c.args.typed.now) c.functions_are_short.ensures c.lengths_are_fixed.ensures (links_of c.args.addresses.now) c.args.from (c.loop-number.number + 1) c.args.code.now.items c.emit_one.new.code.items c.requires.nodes code;
    }

pub returns-clause-are_places : goal.returns-clause-are_places
returns-clause-are_places c =
    let room = c.requires.room in
    starts_placed (unit_view c.args.typed.now) c.functions_are_short.ensures c.args.from c.loop-number.number (layer_words + length c.args.code.now.items) c.loop-number.starts.items c.requires.nodes
    c.loop-number.invariant.starts (omega (arith, room))
