-- The addresses that the first emission gives are the unit's.
use Rattle.std.specs.Prelude.{sum}
use Rattle.std.proofs.Common.{◌≡◌, ◌+◌, ◌*◌, ◌/◌, length, refl, arith, ap, ◌∙◌}
use Rattle.std.proofs.lemmas.Result.{IfOk-weaker}
use Rattle.layer_map.specs.Map.{layer_words}
use Rattle.c0_tree.specs.View.{unit_view}
use Rattle.c0_unit.specs.Code.{lengths_of, starts_in_order}
use Rattle.c0_unit.specs.Laws.{AreAddressesAt, AreAddressesOf}
use Rattle.c0_unit.proofs.UnitAddresses.{are_places_of}
use Rattle.c0_unit.proofs.whole.unit_addresses.Goals as goal

pub returns-clause-placed : goal.returns-clause-placed
returns-clause-placed c =
    let start : length c.in_ok-code.code.items ≡ 5 = let e = c.in_ok-code.ensures.len in omega (arith, e, c.in_ok-code.code.ok) in
    let long : c.len.result ≡ 5 + sum (lengths_of (unit_view c.args.typed.now)) =
    let l = c.len.ensures in
    let n = c.in_ok-starts.ensures.length in
    omega (arith, l, n, start, c.emit_functions.new.code.ok) in
    let begin : layer_words + length c.in_ok-code.code.items ≡ layer_words + 5 = omega (arith, start) in
    IfOk-weaker c.placed_at-2.result (λ p. AreAddressesAt p c.in_ok-starts.starts.items (16384 + c.len.result) ((16384 + c.len.result + 31 + 1023) / 1024 * 4096)) (λ p. AreAddressesOf (unit_view c.args.typed.now) c.args.first p)
    (λ p h. are_places_of (unit_view c.args.typed.now) c.args.first p c.in_ok-starts.starts.items (16384 + c.len.result) ((16384 + c.len.result + 31 + 1023) / 1024 * 4096) c.len.result h
    (c.in_ok-starts.ensures.starts ∙ ap (λ n. starts_in_order n (unit_view c.args.typed.now) c.args.first) begin) long refl refl)
    c.placed_at-2.ensures.placed
