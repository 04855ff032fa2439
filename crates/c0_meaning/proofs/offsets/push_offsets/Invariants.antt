use Rattle.std.proofs.Common.{◌≡◌, ◌≤◌, ◌+◌, ◌*◌, ◌++◌, map, drop}
use Rattle.c0_tree.specs.View.{decl_view, unit_view}
use Rattle.c0_meaning.specs.Env.{typed_of}
use Rattle.c0_meaning.specs.Words.{all_words}
use Rattle.c0_meaning.specs.DeclaredTypes.{MAX_TYPE_WORDS}
use Rattle.c0_meaning.specs.Offsets.{offsets_from}
use Rattle.c0_meaning.specs.Sound.{shapes}
use Rattle.c0_meaning.specs.TypedState.{types_of}
use Rattle.c0_meaning.proofs.offsets.push_offsets.Given as goal

abbrev pub invariant-loop-decl : goal.invariant-loop-decl
invariant-loop-decl l = record {
  offsets :
      l.offsets.items ++ offsets_from (shapes (unit_view l.unit)) l.at (types_of (map typed_of (map decl_view (drop l.decl-index l.decls))))
      ≡ l.fn.offsets.items ++ offsets_from (shapes (unit_view l.unit)) l.start (types_of (map typed_of (map decl_view l.decls)));
  words :
      l.at + all_words (shapes (unit_view l.unit)) (map typed_of (map decl_view (drop l.decl-index l.decls)))
      ≡ l.start + all_words (shapes (unit_view l.unit)) (map typed_of (map decl_view l.decls));
  small : l.at ≤ l.start + l.decl-index * MAX_TYPE_WORDS;
}
