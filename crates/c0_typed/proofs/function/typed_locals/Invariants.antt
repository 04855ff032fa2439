-- The locals so far, and those that are left, are all.
use Rattle.std.proofs.Common.{◌≡◌, ◌++◌, map, drop}
use Rattle.c0_tree.specs.View.{decl_view}
use Rattle.c0_typed.specs.SeenEnv.{env_seen}
use Rattle.c0_typed.specs.Typed.{typed_of_local}
use Rattle.c0_typed.proofs.function.typed_locals.Given as goal

abbrev pub invariant-loop-decl : goal.invariant-loop-decl
invariant-loop-decl l =
    l.all.items ++ map (typed_of_local (env_seen l.function).structs) (map decl_view (drop l.decl-index l.locals))
    ≡ map (typed_of_local (env_seen l.function).structs) (map decl_view l.locals)
