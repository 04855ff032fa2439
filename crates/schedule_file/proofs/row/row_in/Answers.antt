-- By the cuts at spaces the line has one word, two, three, or more; two or three words are the row.
use Rattle.std.proofs.Common.{sym, ◌∙◌}
use Rattle.schedule_file.proofs.WordsOfRows.{one_word, two_words, three_words, four_words, cut_last, cut_more, is_none, some_of}
use Rattle.schedule_file.proofs.row.row_in.Goals as goal

pub returns-in_err-rest : goal.returns-in_err-rest
returns-in_err-rest c =
    let line = c.args.line.now in
    let kind = c.cut.result.0.now in
    c.from_residual.ensures ∙ sym (one_word line kind (cut_last line kind c.cut.result.1 c.cut.ensures.split c.in_err-rest.was))

pub returns-in_default : goal.returns-in_default
returns-in_default c =
    let line = c.args.line.now in
    let kind = c.cut.result.0.now in
    let rest = c.in_ok-rest.field-0 in
    let first = c.cut-2.result.0.now in
    c.row_of_pair.ensures
    ∙ sym (two_words line kind rest.now first (cut_more line kind c.cut.result.1 rest c.cut.ensures.split c.in_ok-rest.was) (cut_last rest.now first c.cut-2.result.1 c.cut-2.ensures.split c.in_default.is))

pub returns-then-is_some : goal.returns-then-is_some
returns-then-is_some c =
    let line = c.args.line.now in
    let kind = c.cut.result.0.now in
    let rest = c.in_ok-rest.field-0 in
    let first = c.cut-2.result.0.now in
    let more = c.in-Some.rest in
    let second = c.cut-3.result.0.now in
    let last = some_of c.cut-3.result.1 (sym c.is_some.ensures ∙ c.if-is_some.true) in
    sym (four_words line kind rest.now first more.now second last.0.now (cut_more line kind c.cut.result.1 rest c.cut.ensures.split c.in_ok-rest.was) (cut_more rest.now first c.cut-2.result.1 more c.cut-2.ensures.split c.in-Some.is)
    (cut_more more.now second c.cut-3.result.1 last.0 c.cut-3.ensures.split last.1))

pub returns : goal.returns
returns c =
    let line = c.args.line.now in
    let kind = c.cut.result.0.now in
    let rest = c.in_ok-rest.field-0 in
    let first = c.cut-2.result.0.now in
    let more = c.in-Some.rest in
    let second = c.cut-3.result.0.now in
    let none = is_none c.cut-3.result.1 (sym c.is_some.ensures ∙ c.if-is_some.false) in
    c.row_of_words.ensures
    ∙ sym (three_words line kind rest.now first more.now second (cut_more line kind c.cut.result.1 rest c.cut.ensures.split c.in_ok-rest.was) (cut_more rest.now first c.cut-2.result.1 more c.cut-2.ensures.split c.in-Some.is)
    (cut_last more.now second c.cut-3.result.1 c.cut-3.ensures.split none))
