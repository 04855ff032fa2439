use Rattle.std.proofs.Common.{◌≡◌, ℕ, ◌*◌, ◌%◌, ap, arith, ◌∙◌}
use Rattle.c0_tree.specs.View.{name_view, unit_view}
use Rattle.c0_meaning.specs.Ty as ty
use Rattle.c0_meaning.specs.Sound.{shapes}
use Rattle.c0_meaning.specs.Words.{words}
use Rattle.c0_meaning.proofs.SizedTypes.{struct_below}
use Rattle.c0_typed.proofs.StructsByNumber.{struct_words_are}
use Rattle.c0_typed.proofs.bytes.struct_bytes.Goals as goal

pub struct_words-requires : goal.struct_words-requires
struct_words-requires c = struct_below c.args.unit.now.structs.items (name_view c.args.name.now) c.requires

pub returns : goal.returns
returns c =
    let u = unit_view c.args.unit.now in
    let w : c.struct_words.result ≡ words (shapes u) (ty.named c.args.name.now.bytes.items) =
    struct_words_are u.structs (name_view c.args.name.now) c.struct_words.result (c.well_formed_units_are_sized.ensures _ u c.unit-unit.ensures.well_formed.1).structs c.requires c.struct_words.ensures in
    let e : c.struct_words.result * 4 ≡ 4 * c.struct_words.result = omega arith in
    ap (λ (k : ℕ). k % 4294967296) (e ∙ ap (λ (k : ℕ). 4 * k) w)
