-- One more declaration has its number, or is met.
use Rattle.std.proofs.Common.{◌≡◌, ◌+◌, ◌∷◌, ℕ, List, map, drop, is_some, sym, ap, ◌∙◌, arith}
use Rattle.std.proofs.lemmas.List.{drop_more}
use Rattle.std.specs.Option.{option_or}
use Rattle.c0_meaning.specs.Fault.{kept_all}
use Rattle.c0_tree.specs.declared.tree.Decl.{Decl}
use Rattle.c0_tree.specs.View.{decl_view}
use Rattle.c0_name_check.specs.Met.{met_view}
use Rattle.c0_name_check.specs.Names.{look, number_named}
use Rattle.c0_name_check.specs.Spaces.{twice_by}
use Rattle.c0_name_check.proofs.OneMoreDeclared.{names_step, met_step}
use Rattle.c0_name_check.proofs.spaces.declare_all.Goals as goal

pub loop-decl-preserved : goal.loop-decl-preserved
loop-decl-preserved c =
    let decls : List Decl = c.args.decls.now in
    let i : ℕ = c.loop-decl.decl-index in
    let rest : List Decl = drop (i + 1) decls in
    let left : drop i decls ≡ c.decl-item.result ∷ rest = drop_more decls i c.decl-item.result c.loop-decl-test.true ∙ ap (λ (d : Decl). d ∷ rest) (sym c.decl-item.is) in
    record {
      at = omega (arith, c.loop-decl.invariant.at);
      names = λ q.
          names_step (look c.loop-decl.names q) (look c.declare.new.names q) (decl_view c.decl-item.result) (map decl_view rest) c.loop-decl.number q (c.in_ok-declare.ensures.names q)
          ∙ (ap (λ (ds : List Decl). option_or (look c.loop-decl.names q) (number_named (λ d. d.name.text) q c.loop-decl.number (map decl_view ds))) (sym left)
          ∙ c.loop-decl.invariant.names q);
      met =
          met_step (look c.loop-decl.names) (look c.declare.new.names) (decl_view c.decl-item.result).name (map (λ d. d.name) (map decl_view rest)) c.loop-decl.number (met_view c.loop-decl.least) (met_view c.declare.new.least)
          c.in_ok-declare.ensures.names c.in_ok-declare.ensures.met
          ∙ (ap (λ (ds : List Decl). kept_all (met_view c.loop-decl.least) (twice_by (λ q. is_some (look c.loop-decl.names q)) (map (λ d. d.name) (map decl_view ds)))) (sym left)
          ∙ c.loop-decl.invariant.met);
    }
