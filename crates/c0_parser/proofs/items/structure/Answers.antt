use Rattle.std.proofs.Common.{ap, arith}
use Rattle.c0_tokens.specs.declared.token.Mark.TheVariants.{CloseBrace, Semicolon}
use Rattle.c0_parser.specs.Value.{pair}
use Rattle.c0_parser.specs.Grammar.{many, sign, ◌▸◌, LINE, FIELDS}
use Rattle.c0_parser.specs.Views.{IsStruct}
use Rattle.c0_parser.proofs.PieceSteps.{goes_both, fails_left, fails_right, exits}
use Rattle.c0_parser.proofs.PartsMean.{struct_meaning}
use Rattle.c0_parser.proofs.items.structure.Goals as goal

pub returns-in_err-rest : goal.returns-in_err-rest
returns-in_err-rest c = exits FIELDS (IsStruct c.args.name) _ _ _ c.from_residual.ensures.1 (fails_left ((LINE ▸ many LINE) ▸ sign CloseBrace ▸ sign Semicolon) c.in_err-rest.ensures)

pub returns-in_err-fields : goal.returns-in_err-fields
returns-in_err-fields c = exits FIELDS (IsStruct c.args.name) _ _ _ c.from_residual-in_err-fields.ensures.1 (fails_right c.in_ok-rest.ensures.1 (fails_left (sign CloseBrace ▸ sign Semicolon) c.in_err-fields.ensures))

pub returns-in_err-rest-2 : goal.returns-in_err-rest-2
returns-in_err-rest-2 c = exits FIELDS (IsStruct c.args.name) _ _ _ c.from_residual-in_err-rest-2.ensures.1 (fails_right c.in_ok-rest.ensures.1 (fails_right c.in_ok-fields.ensures.1 (fails_left (sign Semicolon) c.in_err-rest-2.ensures)))

pub returns-in_err-rest-3 : goal.returns-in_err-rest-3
returns-in_err-rest-3 c = exits FIELDS (IsStruct c.args.name) _ _ _ c.from_residual-in_err-rest-3.ensures.1 (fails_right c.in_ok-rest.ensures.1 (fails_right c.in_ok-fields.ensures.1 (fails_right c.in_ok-rest-2.ensures.1 c.in_err-rest-3.ensures)))

pub returns : goal.returns
returns c =
    let o = c.in_ok-rest.ensures in
    let f = c.in_ok-fields.ensures in
    let q = c.in_ok-rest-2.ensures in
    let s = c.in_ok-rest-3.ensures in (
      _,
      goes_both o.1 (goes_both f.1 (goes_both q.1 s.1)),
      record { brace = _; others = pair f.0 (pair q.0 s.0); parts = ap (λ v. pair v (pair f.0 (pair q.0 s.0))) o.2; is = λ y g. struct_meaning y _ _ _ _ _ _ _ _ _ g o.2 f.2 q.2 s.2 },
      omega (arith, o.3, f.3, q.3, s.3),
    )
