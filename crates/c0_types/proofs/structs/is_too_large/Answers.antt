-- The listed words of a struct are its words up to the cap.
use Rattle.std.proofs.Common.{nat_lt, ap, ◌∙◌}
use Rattle.c0_tree.specs.Tree.{named}
use Rattle.c0_tree.specs.View.{name_view}
use Rattle.c0_meaning.specs.DeclaredTypes.{MAX_TYPE_WORDS}
use Rattle.c0_meaning.specs.Ty as ty
use Rattle.c0_meaning.specs.Words.{words}
use Rattle.c0_name_check.specs.Names.{look}
use Rattle.c0_name_check.specs.Structs.{listed_words}
use Rattle.c0_name_check.proofs.StructsTell.{same_words}
use Rattle.c0_types.proofs.StructsCheckedInTurn.{large_capped}
use Rattle.c0_types.proofs.structs.is_too_large.Goals as goal

pub returns : goal.returns
returns c shapes knows =
    ap (nat_lt MAX_TYPE_WORDS) (c.struct_words.ensures ∙ (ap (λ text. listed_words c.args.words.now (look c.args.names.now text)) c.as_slice.ensures.value
    ∙ same_words (look c.args.names.now) c.args.words.now shapes knows.numbers knows.words (named (name_view c.args.name.now))))
    ∙ large_capped (words shapes (ty.named c.args.name.now.bytes.items))
