use Rattle.std.proofs.Common.{◌≡◌, ℕ, ◌*◌, ◌/◌, ◌%◌, ◌+◌, ◌<◌, [], map, get_or, length, sym, ap, ◌∙◌, subst, Vec, Global}
use Rattle.std.specs.Prelude.{nat_lt}
use Rattle.std.proofs.lemmas.List.{length-map}
use Rattle.boot_run.proofs.PagesAtStart.{its_list, user_there, live_is, word_is, live_below, word_below}
use Rattle.boot_run.proofs.pages.page_source.Goals as goal

pub returns-then-q-pages : goal.returns-then-q-pages
returns-then-q-pages c =
    let there = user_there (λ (w : Vec ℕ Global). w.items) c.args.users.now c.args.per c.args.q c.requires.some c.if-q-pages.true in
    let list = its_list (λ (w : Vec ℕ Global). w.items) c.args.users.now (c.args.q / c.args.per) c.index-users-q.result there.0 in
    let same : get_or (map (λ (w : Vec ℕ Global). w.items) c.args.users.now) (c.args.q / c.args.per) [] ≡ c.as_slice.result.now =
    list ∙ ap (λ (w : Vec ℕ Global). w.items) (sym c.index-users-q.is) ∙ sym c.as_slice.ensures.value in
    let many = length-map c.args.users.now (λ (w : Vec ℕ Global). w.items) in
    let below = subst (λ n. c.args.q < n * c.args.per) (sym many) c.if-q-pages.true in record {
      live = live_below c.args.per (map (λ (w : Vec ℕ Global). w.items) c.args.users.now) c.args.behind.now c.args.q below
          ∙ live_is c.args.per (map (λ (w : Vec ℕ Global). w.items) c.args.users.now) c.args.q there.1
          ∙ ap (λ w. nat_lt (1024 * (c.args.q % c.args.per)) (length w)) same;
      words = λ i. word_below c.args.per (map (λ (w : Vec ℕ Global). w.items) c.args.users.now) c.args.behind.now c.args.q below i
          ∙ word_is c.args.per (map (λ (w : Vec ℕ Global). w.items) c.args.users.now) c.args.q there.1 i
          ∙ ap (λ w. get_or w (1024 * (c.args.q % c.args.per) + i) 0) same;
    }
