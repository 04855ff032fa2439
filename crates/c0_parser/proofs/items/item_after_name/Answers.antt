use Rattle.std.proofs.Common.{refl, sym, ap, ◌∙◌}
use Rattle.c0_parser.specs.Sorts.{mark}
use Rattle.c0_tokens.specs.declared.token.Mark.TheVariants.{OpenBrace, CloseBrace, Semicolon}
use Rattle.c0_tokens.specs.Tokens.{token_view}
use Rattle.c0_tree.specs.View.{name_view}
use Rattle.c0_parser.specs.Value.{struct_of}
use Rattle.c0_parser.specs.Contract.{as_seen}
use Rattle.c0_parser.specs.Grammar.{many, sign, ◌▸◌, ◌or◌, LINE, FIELDS}
use Rattle.c0_parser.specs.Factored.{DEFINED, declared_as}
use Rattle.c0_parser.specs.Factored as factored
use Rattle.c0_parser.specs.Views.{IsStruct, IsDefined, IsItemAfterName}
use Rattle.c0_parser.proofs.PieceSteps.{goes_first_at, goes_second_not, heads_not, mark_kind, fails_first_at, fails_second_not, tails}
use Rattle.c0_parser.proofs.PartsMean.{item_after_name_is}
use Rattle.c0_parser.proofs.items.item_after_name.Goals as goal

pub returns-in-Some : goal.returns-in-Some
returns-in-Some c =
    let e = c.in-Some.ensures in
    let t = token_view c.args.word.now in
    tails (FIELDS or DEFINED) FIELDS (IsItemAfterName t (name_view c.args.name)) (IsStruct c.args.name) _ _ _
    (λ x r. (
      _,
      goes_first_at FIELDS DEFINED (mark OpenBrace) e.0 (mark_kind e.1) refl refl r.1,
      (λ y g. ap (factored.item_after_name t y) r.2.parts ∙ ap (struct_of y) (sym r.2.parts) ∙ r.2.is y g),
      r.3,
    ))
    (λ h f. fails_first_at FIELDS DEFINED (mark OpenBrace) e.0 (mark_kind e.1) refl refl f) c.structure.ensures

pub returns-in-None : goal.returns-in-None
returns-in-None c =
    let t = token_view c.args.word.now in
    let n = heads_not (sign OpenBrace) ((LINE ▸ many LINE) ▸ sign CloseBrace ▸ sign Semicolon) (as_seen c.args.ts.now) refl c.in-None.ensures in
    tails (FIELDS or DEFINED) DEFINED (IsItemAfterName t (name_view c.args.name)) (IsDefined c.struct_at.result) _ _ _
    (λ x r. (
      _,
      goes_second_not FIELDS n r.1,
      (λ y g. item_after_name_is t y (name_view c.args.name) c.struct_at.result x.0 r.0 g c.struct_at.ensures r.2),
      r.3,
    ))
    (λ h f. fails_second_not FIELDS n f) c.defined.ensures
