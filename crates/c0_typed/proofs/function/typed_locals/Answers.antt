-- Each local is one of those that have few words.
use Rattle.std.proofs.Common.{sym, subst}
use Rattle.c0_tree.specs.Tree.{CDecl}
use Rattle.c0_tree.specs.View.{decl_view, type_view}
use Rattle.c0_tree.specs.declared.tree.Decl.{Decl}
use Rattle.c0_meaning.specs.Sound.{IsSized}
use Rattle.c0_typed.specs.SeenEnv.{env_seen}
use Rattle.c0_typed.proofs.OneFunctionMore.{all_at}
use Rattle.c0_typed.proofs.function.typed_locals.Goals as goal

pub typed_local-requires : goal.typed_local-requires
typed_local-requires c =
    let structs = (env_seen c.args.function.now).structs in
    subst (λ (d : Decl). IsSized structs (type_view d.ty)) (sym c.decl-item.is)
    (all_at (λ (d : CDecl). IsSized structs d.ty) decl_view c.args.locals.now c.loop-decl.decl-index c.decl-item.result c.requires c.loop-decl-test.true)
