-- The image ends where page tables would begin.
use Rattle.std.proofs.Common.{◌≡◌, ◌*◌, ap, ◌∙◌, arith}
use Rattle.layer_map.specs.Map.{Map, tables_at}
use Rattle.c0_tree.specs.View.{unit_view}
use Rattle.user_c0.specs.Image.{map_of_image}
use Rattle.user_c0.proofs.compile.image_size.Goals as goal

pub returns : goal.returns
returns c =
    let whole = c.images_are_whole.ensures (unit_view c.args.unit.now) c.unit-unit.ensures.checked in
    let tables : c.page_tables.result ≡ 4 * tables_at (map_of_image (unit_view c.args.unit.now)) = c.page_tables.ensures ∙ ap (λ (m : Map). 4 * tables_at m) c.requires in
    omega (arith, whole, tables)
