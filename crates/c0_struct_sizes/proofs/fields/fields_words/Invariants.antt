use Rattle.std.proofs.Common.{◌≡◌, ◌≤◌, ◌+◌, map, drop, min}
use Rattle.c0_name_check.specs.Names.{look}
use Rattle.c0_meaning.specs.Sizes.{WORDS_CAP}
use Rattle.c0_struct_sizes.specs.Parts as parts
use Rattle.c0_tree.specs.View.{decl_view}
use Rattle.c0_struct_sizes.proofs.fields.fields_words.Given as goal

abbrev pub invariant-loop-field : goal.invariant-loop-field
invariant-loop-field l = record {
  few : l.words ≤ WORDS_CAP;
  sum :
      min (l.words + parts.all_capped (look l.names) l.sizes (map decl_view (drop l.field-index l.fields))) WORDS_CAP
      ≡ min (parts.all_capped (look l.names) l.sizes (map decl_view l.fields)) WORDS_CAP;
}
