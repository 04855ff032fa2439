use Rattle.std.proofs.Common.{◌≡◌, ℕ, ◌*◌, ◌%◌, List, Some, ap, sym, ◌∙◌}
use Rattle.std.specs.Prelude.{slice_get}
use Rattle.c0_tree.specs.Tree.{CTy}
use Rattle.c0_tree.specs.View.{type_view}
use Rattle.c0_tree.specs.declared.tree.CType as rust
use Rattle.c0_meaning.specs.Ty.{Ty, ty_of, array}
use Rattle.c0_meaning.specs.Env.{Shape}
use Rattle.c0_meaning.specs.Form.{found_view}
use Rattle.c0_meaning.specs.Sizes.{capped}
use Rattle.c0_meaning.specs.Sound.{shapes}
use Rattle.c0_meaning.specs.Words.{words}
use Rattle.c0_typed.specs.declared.tree.Elements.{Elements}
use Rattle.c0_typed.specs.SeenEnv.{env_seen, unit_seen}
use Rattle.c0_typed.specs.Typed.{elements_in}
use Rattle.c0_typed.proofs.StructsByNumber.{view_array, env_structs}
use Rattle.c0_typed.proofs.place.elements_of.Goals as goal

counted : ℕ → ℕ → ℕ → Elements
counted n w b = record { count = n; words = w; bytes = b }

those : (structs : List Shape) (t : Ty) (n w b : ℕ) → w ≡ capped structs t → b ≡ 4 * words structs t % 4294967296 → counted n w b ≡ elements_in structs (Some (array t n))
unfolding counted
those structs t n w b e f = ap (λ (k : ℕ). counted n k b) e ∙ ap (λ (k : ℕ). counted n (capped structs t) k) f

pub returns-in-Array : goal.returns-in-Array
unfolding counted
returns-in-Array c =
    let structs = shapes (unit_seen c.args.function.now) in
    let elem = c.in-Array.element.value in
    let f : found_view c.args.found ≡ Some (array (ty_of (type_view elem)) c.in-Array.count) =
    ap found_view c.in-Of.is ∙ ap (λ (v : rust.CType). Some (ty_of (type_view v))) c.in-Array.is ∙ ap (λ (v : CTy). Some (ty_of v)) (view_array c.in-Array.element c.in-Array.count) in
    let w : c.words_of.result ≡ capped structs (ty_of (type_view elem)) = c.words_of.ensures ∙ ap (λ (v : rust.CType). capped structs (ty_of (type_view v))) c.deref.ensures in
    let b : c.bytes_of.result ≡ 4 * words structs (ty_of (type_view elem)) % 4294967296 =
    c.bytes_of.ensures ∙ ap (λ (v : rust.CType). 4 * words structs (ty_of (type_view v)) % 4294967296) c.deref-in-Array.ensures in
    those structs (ty_of (type_view elem)) c.in-Array.count _ _ w b
    ∙ ap (λ (ss : List Shape). elements_in ss (Some (array (ty_of (type_view elem)) c.in-Array.count))) (sym (env_structs (unit_seen c.args.function.now) (slice_get (unit_seen c.args.function.now).functions c.args.function.now.number)))
    ∙ ap (elements_in (env_seen c.args.function.now).structs) (sym f)
