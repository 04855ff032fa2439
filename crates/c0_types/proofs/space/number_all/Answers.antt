-- One name more has its number.
use Rattle.std.proofs.Common.{◌≡◌, ◌+◌, ◌∷◌, ℕ, List, map, drop, sym, ap, ◌∙◌, arith}
use Rattle.std.proofs.lemmas.List.{drop_more}
use Rattle.std.specs.Option.{option_or}
use Rattle.c0_name_check.specs.Names.{look, number_named}
use Rattle.c0_types.proofs.NamesSetInTurn.{number_step}
use Rattle.c0_types.proofs.space.number_all.Goals as goal

pub loop-named-preserved : goal.loop-named-preserved
loop-named-preserved g c =
    let i : ℕ = c.loop-named.named-index in
    let left = drop_more c.args.list.now i c.named-item.result c.loop-named-test.true ∙ ap (λ x. x ∷ drop (i + 1) c.args.list.now) (sym c.named-item.is) in
    record {
      at = omega (arith, c.loop-named.invariant.at);
      names = λ q.
          number_step g.T.Named.spelled (look c.loop-named.names q) (look c.set_name.new.names q) (g.T.Named.seen c.named-item.result) (map g.T.Named.seen (drop (i + 1) c.args.list.now)) c.loop-named.number q c.text.result.now c.text.ensures (c.in_ok-set_name.ensures.names q)
          ∙ (ap (λ xs. option_or (look c.loop-named.names q) (number_named g.T.Named.spelled q c.loop-named.number (map g.T.Named.seen xs))) (sym left)
          ∙ c.loop-named.invariant.names q);
    }
