-- Both ranges are all functions.
use Rattle.std.proofs.Common.{◌≡◌, ℕ, List, ◌++◌, ◌≤◌, length, ap, ◌∙◌, subst, arith}
use Rattle.std.proofs.lemmas.List.{length-map}
use Rattle.layer_map.specs.Map.{layer_words}
use Rattle.c0_tree.specs.declared.tree.Unit.{Unit as Source}
use Rattle.c0_tree.specs.View.{unit_view, function_view}
use Rattle.c0_meaning.specs.Limits.{all_nodes}
use Rattle.c0_stmt_code.specs.Code.{links_of}
use Rattle.c0_unit.proofs.OneFunctionMore.{few_nodes, ordered, ordered_long, ordered_starts}
use Rattle.c0_unit.proofs.functions.emit_functions.Goals as goal

pub emit_range-requires-clause-nodes : goal.emit_range-requires-clause-nodes
emit_range-requires-clause-nodes c =
    let well = c.unit.ensures.well_formed in
    subst (λ (s : Source). all_nodes (unit_view s).functions ≤ 100000) c.measured.ensures (few_nodes c.units_are_typed_or_faulty.ensures well.0 (unit_view c.measured.result.now) well.1)

pub emit_range-requires-2-clause-nodes : goal.emit_range-requires-2-clause-nodes
emit_range-requires-2-clause-nodes c =
    let well = c.unit.ensures.well_formed in
    subst (λ (s : Source). all_nodes (unit_view s).functions ≤ 100000) c.measured.ensures (few_nodes c.units_are_typed_or_faulty.ensures well.0 (unit_view c.measured.result.now) well.1)

pub emit_range-requires-clause-range : goal.emit_range-requires-clause-range
emit_range-requires-clause-range c =
    let first = c.requires.first in
    let l = c.len-count.ensures in
    let s = ap (λ (f : Source). f.functions.items) (c.unit.ensures.same ∙ c.measured.ensures) in
    omega (arith, first, l, c.unit.result.now.functions.ok, ap length s, length-map c.args.typed.now.functions.items function_view)

pub emit_range-requires-clause-within : goal.emit_range-requires-clause-within
emit_range-requires-clause-within c =
    let l = c.len-count.ensures in
    let s = ap (λ (f : Source). f.functions.items) (c.unit.ensures.same ∙ c.measured.ensures) in
    omega (arith, l, c.unit.result.now.functions.ok, ap length s, length-map c.args.typed.now.functions.items function_view)

pub returns-clause-appended : goal.returns-clause-appended
returns-clause-appended c =
    let all : c.len-count.result ≡ length (unit_view c.args.typed.now).functions =
    let l = c.len-count.ensures in
    let s = ap (λ (f : Source). f.functions.items) (c.unit.ensures.same ∙ c.measured.ensures) in
    omega (arith, l, c.unit.result.now.functions.ok, ap length s, length-map c.args.typed.now.functions.items function_view) in
    ordered (unit_view c.args.typed.now) (links_of c.args.addresses.now) c.args.first c.len-count.result all c.args.code.now.items c.emit_range.new.code.items c.emit_range-2.new.code.items
    c.in_ok-later.ensures.appended c.in_ok-starts.ensures.appended

pub returns-clause-length : goal.returns-clause-length
returns-clause-length c =
    let all : c.len-count.result ≡ length (unit_view c.args.typed.now).functions =
    let l = c.len-count.ensures in
    let s = ap (λ (f : Source). f.functions.items) (c.unit.ensures.same ∙ c.measured.ensures) in
    omega (arith, l, c.unit.result.now.functions.ok, ap length s, length-map c.args.typed.now.functions.items function_view) in
    ordered_long (unit_view c.args.typed.now) (links_of c.args.addresses.now) c.args.first c.len-count.result all c.args.code.now.items c.emit_range.new.code.items c.emit_range-2.new.code.items
    c.in_ok-later.ensures.appended c.in_ok-starts.ensures.appended c.lengths_are_fixed.ensures

pub returns-clause-starts : goal.returns-clause-starts
returns-clause-starts c =
    let all : c.len-count.result ≡ length (unit_view c.args.typed.now).functions =
    let l = c.len-count.ensures in
    let s = ap (λ (f : Source). f.functions.items) (c.unit.ensures.same ∙ c.measured.ensures) in
    omega (arith, l, c.unit.result.now.functions.ok, ap length s, length-map c.args.typed.now.functions.items function_view) in
    ordered_starts (unit_view c.args.typed.now) (links_of c.args.addresses.now) c.args.first c.len-count.result all c.args.code.now.items c.emit_range.new.code.items c.emit_range-2.new.code.items
    c.in_ok-later.ensures.appended c.in_ok-starts.ensures.appended c.lengths_are_fixed.ensures layer_words c.in_ok-later.later.items c.in_ok-starts.starts.items c.extend_from_slice.new.self.items
    c.in_ok-later.ensures.starts c.in_ok-starts.ensures.starts (c.in_ok-extend_from_slice.ensures.items ∙ ap (λ (ns : List ℕ). c.in_ok-starts.starts.items ++ ns) c.deref.ensures.value)
