-- The declarations so far are checked, and the faults of the others are still to be met.
use Rattle.std.proofs.Common.{◌≡◌, ◌+◌, List, map}
use Rattle.c0_meaning.specs.DeclaredTypes.{declared_faults}
use Rattle.c0_meaning.specs.Env.{Shape}
use Rattle.c0_meaning.specs.Fault.{kept_all}
use Rattle.c0_name_check.specs.Met.{met_view}
use Rattle.c0_name_check.specs.Structs.{KnowsStructs}
use Rattle.c0_tree.specs.View.{decl_view}
use Rattle.c0_body_check.proofs.InPlace.{rest}
use Rattle.c0_types.proofs.DeclaredInPlace.{numbered}
use Rattle.c0_types.proofs.DeclarationsInTurn.{declared}
use Rattle.c0_types.proofs.decls.check_decls.Given as goal

abbrev pub invariant-loop-decl : goal.invariant-loop-decl
invariant-loop-decl l = record {
  at : l.number ≡ l.first + l.decl-index;
  changed : (shapes : List Shape) → KnowsStructs l.names l.words shapes
      → map decl_view l.decls ≡ numbered (declared shapes l.kind) l.first l.decl-index (map decl_view l.initial.decls);
  met : (shapes : List Shape) → KnowsStructs l.names l.words shapes
      → kept_all (met_view l.least) (declared_faults shapes (rest l.decl-index (map decl_view l.initial.decls)))
      ≡ kept_all (met_view l.initial.least) (declared_faults shapes (map decl_view l.initial.decls));
}
