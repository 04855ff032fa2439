-- All so far are scalars, and what is left is to be asked.
use Rattle.std.proofs.Common.{◌≡◌, map, drop}
use Rattle.std.specs.Prelude.{◌&&◌}
use Rattle.std.specs.List.{list_all}
use Rattle.c0_tree.specs.View.{decl_view}
use Rattle.c0_meaning.specs.Env.{typed_of}
use Rattle.c0_meaning.specs.Ty.{is_scalar}
use Rattle.c0_meaning.specs.TypedState.{types_of}
use Rattle.c0_typed.proofs.leaf.are_scalars.Given as goal

abbrev pub invariant-loop-decl : goal.invariant-loop-decl
invariant-loop-decl l =
    (l.all && list_all is_scalar (types_of (map typed_of (map decl_view (drop l.decl-index l.decls))))) ≡ list_all is_scalar (types_of (map typed_of (map decl_view l.decls)))
