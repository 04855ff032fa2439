use Rattle.std.proofs.Common.{◌≡◌, ℕ, ◌<◌, List, [], length, map, get_or, ap, sym, arith, ◌∙◌}
use Rattle.std.proofs.lemmas.List.{get_or-map, length-map}
use Rattle.c0_tree.specs.View.{name_view, unit_view, struct_view}
use Rattle.c0_meaning.specs.Offsets.{struct_offsets}
use Rattle.c0_meaning.specs.Sound.{shapes}
use Rattle.c0_typed.specs.Typed.{entry}
use Rattle.c0_meaning.proofs.SizedTypes.{struct_below}
use Rattle.c0_typed.proofs.StructsByNumber.{fields_begin}
use Rattle.c0_typed.proofs.bytes.words_to_field.Goals as goal

pub index-requires : goal.index-requires
index-requires c =
    let u = unit_view c.args.unit.now.unit.now in
    let structs = c.args.unit.now.unit.now.structs.items in
    let one = length-map c.args.unit.now.fields.items (λ v. v.items) in
    let two = ap length c.args.unit.now.fields_are in
    let three = length-map u.structs (struct_offsets (shapes u)) in
    let four = length-map structs struct_view in
    let below = struct_below structs (name_view c.args.owner.now) c.requires in
    omega (arith, one, two, three, four, below)

pub returns : goal.returns
returns c =
    let u = unit_view c.args.unit.now.unit.now in
    let structs = c.args.unit.now.unit.now.structs.items in
    let fields = c.args.unit.now.fields.items in
    let one = length-map fields (λ v. v.items) in
    let two = ap length c.args.unit.now.fields_are in
    let three = length-map u.structs (struct_offsets (shapes u)) in
    let four = length-map structs struct_view in
    let below = struct_below structs (name_view c.args.owner.now) c.requires in
    let there : c.args.owner.now.number < length fields = omega (arith, one, two, three, four, below) in
    let item : c.deref.result.now ≡ get_or (map (λ v. v.items) fields) c.args.owner.now.number [] =
    c.deref.ensures.value ∙ ap (λ v. v.items) c.index.ensures ∙ sym (get_or-map (λ v. v.items) fields c.args.owner.now.number c.index.result.now [] there) in
    c.entry.ensures ∙ ap (λ (l : List ℕ). entry l c.args.number) item
    ∙ ap (λ (l : List ℕ). entry l c.args.number)
    (fields_begin u.structs (name_view c.args.owner.now) (map (λ v. v.items) fields) (c.well_formed_units_are_sized.ensures _ u c.unit-unit.ensures.well_formed.1).structs c.requires c.args.unit.now.fields_are)
