-- The words of the parts, together.
use Rattle.std.specs.Prelude.{map, sum, ◌++◌}
use Rattle.std.proofs.Common.{◌≡◌, ℕ, ◌+◌, ◌*◌, ◌≤◌, List, length, ap, ◌∙◌, arith, length-append}
use Rattle.mips_table.specs.Encoding.{encoding}
use Rattle.c0_tree.specs.declared.tree.Unit.{Unit as Source}
use Rattle.c0_tree.specs.View.{unit_view}
use Rattle.c0_meaning.specs.Limits.{all_nodes}
use Rattle.c0_runtime.specs.Code.{startup_code, runtime_code}
use Rattle.c0_unit.specs.Code.{code_words, lengths_of, words_from}
use Rattle.c0_unit.proofs.OneFunctionMore.{whole_words}
use Rattle.c0_unit.proofs.whole.compile_from.Goals as goal

pub returns-clause-words : goal.returns-clause-words
returns-clause-words c =
    whole_words (unit_view c.in_ok-typed.typed) c.args.first c.in_ok-addresses.addresses c.in_ok-addresses.ensures.placed c.new-code.result.items c.emit_entry.new.code.items c.emit_functions.new.code.items c.emit_runtime.new.code.items
    c.new-code.ensures.items c.in_ok-emit_entry.ensures.appended c.in_ok-_starts.ensures.appended c.in_ok-emit_runtime.ensures.appended
    ∙ ap (λ (s : Source). words_from (unit_view s) c.args.first) c.in_ok-typed.ensures

pub returns-clause-few : goal.returns-clause-few
returns-clause-few c =
    let words = ap (λ (s : Source). sum (lengths_of (unit_view s))) c.in_ok-typed.ensures in
    let first : length c.emit_entry.new.code.items ≡ 5 =
    let e : c.emit_entry.new.code.items ≡ c.new-code.result.items ++ map encoding (startup_code c.in_ok-addresses.addresses.globals) = c.in_ok-emit_entry.ensures.appended in
    let none = ap (λ (ws : List ℕ). length ws) c.new-code.ensures.items in
    let l = ap (λ (ws : List ℕ). length ws) e in
    omega (arith, none, l, length-append c.new-code.result.items (map encoding (startup_code c.in_ok-addresses.addresses.globals))) in
    let then : length c.emit_functions.new.code.items ≡ length c.emit_entry.new.code.items + sum (lengths_of (unit_view c.in_ok-typed.typed)) = c.in_ok-_starts.ensures.length in
    let last : length c.emit_runtime.new.code.items ≡ length c.emit_functions.new.code.items + 31 =
    let e : c.emit_runtime.new.code.items ≡ c.emit_functions.new.code.items ++ map encoding (runtime_code c.in_ok-addresses.addresses) = c.in_ok-emit_runtime.ensures.appended in
    let l = ap (λ (ws : List ℕ). length ws) e in
    omega (arith, l, length-append c.emit_functions.new.code.items (map encoding (runtime_code c.in_ok-addresses.addresses))) in
    let few : code_words (unit_view c.args.unit.now) ≤ 512 + 32 * all_nodes (unit_view c.args.unit.now).functions = c.units_are_short.ensures (unit_view c.args.unit.now) in
    by_parts words first then last few
  where
    by_parts : {a b x y z n : ℕ} → a ≡ b → x ≡ 5 → y ≡ x + a → z ≡ y + 31 → 5 + b + 31 ≤ n → z ≤ n
    by_parts e f g h l = omega (arith, e, f, g, h, l)
