use Rattle.std.proofs.Common.{length, map, sym, ◌∙◌, lt-ltb, le-ltb}
use Rattle.std.proofs.lemmas.List.FromFn.{fill_by_all}
use Rattle.cvm_outside.specs.Outside.{drive}
use Rattle.cvm_outside.specs.Script.{done}
use Rattle.cvm_outside.proofs.RowsPut.{write_once}
use Rattle.boot_run.specs.LoadedPages.{disk_pages}
use Rattle.boot_run.proofs.pages.write_page.Goals as goal

pub returns-then-first-words-clause-script : goal.returns-then-first-words-clause-script
returns-then-first-words-clause-script g c shelf sink =
    let live = c.page_source-first.ensures.live ∙ lt-ltb c.page_source-first.result.1 (length c.page_source-first.result.0.now) c.if-first-words.true in
    let page = fill_by_all ((disk_pages c.args.per (map (λ words. words.items) c.args.users.now) c.args.behind.now).word c.args.q) c.page_words.result 1024 0 c.page_words.ensures.long (λ i l. c.page_words.ensures.words i l ∙ sym (c.page_source-first.ensures.words i)) in
    rw (live, ← page) (write_once c.args.q c.page_words.result shelf sink (drive g.D.Sectors c.args.disk.now) (drive g.D.Sectors c.write.new.self) c.write.result c.requires.inside c.write.ensures.size c.write.ensures.words c.write.ensures.torn c.write.ensures.count c.write.ensures.called c.write.ensures.all_called)

pub returns-clause-script : goal.returns-clause-script
returns-clause-script g c shelf sink =
    let dead = c.page_source-first.ensures.live ∙ le-ltb c.page_source-first.result.1 (length c.page_source-first.result.0.now) c.if-first-words.false in
    rw dead (done _)
