-- The words so far, each up to the cap, and those of the other globals are too many exactly where all are.
use Rattle.std.proofs.Common.{◌≡◌, ◌+◌, ◌*◌, ◌≤◌, List, map, drop, nat_lt}
use Rattle.c0_meaning.specs.Env.{Shape, typed_of}
use Rattle.c0_meaning.specs.Limits.{MAX_GLOBAL_WORDS}
use Rattle.c0_meaning.specs.Words.{all_words}
use Rattle.c0_name_check.specs.Structs.{KnowsStructs}
use Rattle.c0_tree.specs.View.{decl_view}
use Rattle.c0_types.proofs.decls.are_too_large.Given as goal

abbrev pub invariant-loop-decl : goal.invariant-loop-decl
invariant-loop-decl l = record {
  bounded : l.sum ≤ l.decl-index * 4294967295;
  counted : (shapes : List Shape) → KnowsStructs l.names l.words shapes
      → nat_lt MAX_GLOBAL_WORDS (l.sum + all_words shapes (map typed_of (map decl_view (drop l.decl-index l.globals))))
      ≡ nat_lt MAX_GLOBAL_WORDS (all_words shapes (map typed_of (map decl_view l.globals)));
}
