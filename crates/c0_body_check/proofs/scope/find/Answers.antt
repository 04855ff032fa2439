-- The number that the map tells is that of the first element of the name.
use Rattle.std.proofs.Common.{sym, ◌∙◌, arith}
use Rattle.c0_body_check.proofs.NumbersFindNames.{number_within, first_numbered}
use Rattle.c0_body_check.proofs.scope.find.Goals as goal

pub bounds-list-number : goal.bounds-list-number
bounds-list-number g c = number_within g.T.Listed.seen g.T.Listed.spelled c.args.text.now _ c.args.list.now (sym (c.requires c.args.text.now) ∙ sym c.in-Some.ensures.value)

pub offset_bounds-list-number : goal.offset_bounds-list-number
offset_bounds-list-number g c =
    let within = number_within g.T.Listed.seen g.T.Listed.spelled c.args.text.now _ c.args.list.now (sym (c.requires c.args.text.now) ∙ sym c.in-Some.ensures.value) in
    omega (arith, within)

pub returns-in-Some : goal.returns-in-Some
returns-in-Some g c =
    let told = sym (c.requires c.args.text.now) ∙ sym c.in-Some.ensures.value in
    record {
      found = sym (first_numbered g.T.Listed.seen g.T.Listed.spelled c.args.text.now _ c.args.list.now _ told c.index-list-number.is);
      within = number_within g.T.Listed.seen g.T.Listed.spelled c.args.text.now _ c.args.list.now told;
    }
