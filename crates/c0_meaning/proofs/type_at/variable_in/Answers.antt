use Rattle.std.proofs.Common.{◌≡◌, List, map, subst, sym, ap, ◌∙◌}
use Rattle.std.specs.List.{All}
use Rattle.c0_tree.specs.declared.tree.Decl.{Decl}
use Rattle.c0_tree.specs.declared.tree.Unit.{Unit as Source}
use Rattle.c0_tree.specs.Tree.{CDecl}
use Rattle.c0_tree.specs.View.{decl_view, unit_view}
use Rattle.c0_meaning.specs.Sound.{shapes, IsSized}
use Rattle.c0_meaning.proofs.WellFormed.{well_formed_globals}
use Rattle.c0_meaning.proofs.type_at.variable_in.Goals as goal

pub returns-in-Global-clause-resolved : goal.returns-in-Global-clause-resolved
returns-in-Global-clause-resolved c =
    let e : c.deref.result.now ≡ c.args.unit.now.globals.items = c.deref.ensures.value ∙ ap (λ (u : Source). u.globals.items) c.unit.ensures.same in
    c.declared_type.ensures.resolved (shapes (unit_view c.args.unit.now))
    (subst (λ (ds : List Decl). All (λ (x : CDecl). IsSized (shapes (unit_view c.args.unit.now)) x.ty) (map decl_view ds)) (sym e)
    (well_formed_globals _ _ c.unit.ensures.well_formed.1))

pub returns-in-Local-clause-resolved : goal.returns-in-Local-clause-resolved
returns-in-Local-clause-resolved c = c.local_type.ensures.resolved _ c.requires
