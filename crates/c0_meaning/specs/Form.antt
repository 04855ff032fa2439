-- What contracts see of a type that an expression has, as it is declared or by its outermost part.
use Rattle.std.specs.Prelude.{Bool, true, false, Option, Some, None}
use Rattle.c0_tree.specs.declared.tree.CType.{CType}
use Rattle.c0_tree.specs.View.{type_view}
use Rattle.c0_meaning.specs.Ty.{Ty, int, bool, pointer, named, array, ty_of, same_ty}
use Rattle.c0_meaning.specs.declared.form.Found.{Found}
use Rattle.c0_meaning.specs.declared.form.Found.TheVariants.{Nothing, Int, Bool as Boolean, To, Of}
use Rattle.c0_meaning.specs.declared.form.Form.{Form}
use Rattle.c0_meaning.specs.declared.form.Form.TheVariants as form

-- a type as declared
abbrev pub ty_view : CType → Ty
ty_view t = ty_of (type_view t)

-- a type that was found
abbrev pub found_view : Found → Option Ty
found_view Nothing = None
found_view Int = Some int
found_view Boolean = Some bool
found_view (To t) = Some (pointer (ty_view t.now))
found_view (Of t) = Some (ty_view t.now)

-- whether it is a type as declared, if any
abbrev pub is_declared : Found → Bool
is_declared Nothing = true
is_declared Int = false
is_declared Boolean = false
is_declared (To t) = false
is_declared (Of t) = true

-- a type by its outermost part
abbrev pub form_view : Form → Option Ty
form_view form.Nothing = None
form_view form.Int = Some int
form_view form.Bool = Some bool
form_view (form.Pointer t) = Some (pointer (ty_view t.now))
form_view (form.Struct x) = Some (named x.now)
form_view (form.Array t n) = Some (array (ty_view t.now) n)

-- whether two types that are there are the same
abbrev pub same_types : Option Ty → Option Ty → Bool
same_types None other = false
same_types (Some t) None = false
same_types (Some t) (Some u) = same_ty t u
