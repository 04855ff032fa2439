use Rattle.std.proofs.Common.{◌≡◌, ◌*◌, ◌%◌, ap, sym, ◌∙◌}
use Rattle.c0_tree.specs.Tree.{CTy}
use Rattle.c0_tree.specs.View.{type_view, unit_view}
use Rattle.c0_tree.specs.declared.tree.CType as rust
use Rattle.c0_meaning.specs.Ty.{ty_of}
use Rattle.c0_meaning.specs.Sound.{shapes}
use Rattle.c0_meaning.specs.Words.{words}
use Rattle.c0_typed.proofs.StructsByNumber.{view_array, array_bytes}
use Rattle.c0_typed.proofs.bytes.+bytes_of.Goals as goal

pub returns-in-Array : goal.returns-in-Array
returns-in-Array t c =
    let structs = shapes (unit_view c.args.unit.now) in
    let e = ap type_view c.in-Array.is ∙ view_array c.in-Array.element c.in-Array.length in
    let b : c.bytes_of.result ≡ 4 * words structs (ty_of (type_view c.in-Array.element.value)) % 4294967296 =
    c.bytes_of.ensures ∙ ap (λ (v : rust.CType). 4 * words structs (ty_of (type_view v)) % 4294967296) c.deref.ensures in
    array_bytes c.bytes_of.result (words structs (ty_of (type_view c.in-Array.element.value))) c.in-Array.length b
    ∙ sym (ap (λ (v : CTy). 4 * words structs (ty_of v) % 4294967296) e)
