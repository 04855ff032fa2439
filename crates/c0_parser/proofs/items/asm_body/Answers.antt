use Rattle.std.proofs.Common.{rules, ◌≡◌, [], ◌∷◌, length, refl, ap}
use Rattle.c0_parser.specs.Sorts.{an_asm_text, sort, among}
use Rattle.c0_tokens.specs.Tokens.{token_view}
use Rattle.c0_parser.specs.Contract.{as_seen}
use Rattle.c0_parser.proofs.PieceSteps.{goes_one, refuses_one, fails_by, seen_length, shorter}
use Rattle.c0_parser.proofs.PartsMean.{asm_meaning}
use Rattle.c0_parser.proofs.items.asm_body.Goals as goal

pub returns-in_ok-bytes-in-Some : goal.returns-in_ok-bytes-in-Some
returns-in_ok-bytes-in-Some c =
    let e = c.in-Some.ensures in
    let n : c.new.result.items ≡ [] = search rules in (
      _,
      goes_one an_asm_text [] (token_view c.in-Some.t) (as_seen c.args.ts.now) (as_seen c.in-Some.rest.now) (ap as_seen e.0) (ap (λ x. among (an_asm_text ∷ []) (sort x)) e.1),
      (token_view c.in-Some.t, refl, asm_meaning _ _ _ c.in-Some.t e.1 c.in_ok-bytes-in-Some.ensures.items n),
      shorter _ _ _ e.0,
    )

pub returns-in-None : goal.returns-in-None
returns-in-None c = fails_by (length c.args.ts.now) (refuses_one an_asm_text [] _ c.in-None.ensures) (seen_length _)
