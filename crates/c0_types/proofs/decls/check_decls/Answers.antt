-- One declaration more is checked, and its faults are met.
use Rattle.std.proofs.Common.{◌≡◌, ℕ, ◌+◌, length, map, get_or, sym, ap, ◌∙◌, arith}
use Rattle.c0_tree.specs.declared.tree.Decl.{Decl}
use Rattle.c0_tree.specs.View.{decl_view}
use Rattle.c0_meaning.specs.DeclaredTypes.{type_faults, declared_faults}
use Rattle.c0_meaning.specs.Fault.{kept_all}
use Rattle.c0_name_check.specs.Met.{met_view}
use Rattle.c0_name_check.proofs.FaultsMet.{kept_all-append}
use Rattle.c0_body_check.proofs.InPlace.{rest}
use Rattle.c0_types.proofs.DeclaredInPlace.{numbered_next, numbered_step, numbered_end}
use Rattle.c0_types.proofs.DeclarationsInTurn.{declared, decls_numbered}
use Rattle.c0_types.proofs.decls.check_decls.Goals as goal

pub loop-decl-preserved : goal.loop-decl-preserved
loop-decl-preserved c =
    let i : ℕ = c.loop-decl.decl-index in
    let decl : Decl = get_or c.loop-decl.decls i c.decl-item.result in
    record {
      at = omega (arith, c.loop-decl.invariant.at);
      changed = λ shapes knows.
          numbered_step decl_view (declared shapes c.args.kind) c.args.first c.args.decls.now c.loop-decl.decls i c.loop-decl.number decl _
          (c.loop-decl.invariant.changed shapes knows) c.loop-decl-test.true c.loop-decl.invariant.at (ap (get_or c.loop-decl.decls i) c.decl-item.is)
          (ap (λ t. record { ty = t; ty_span = decl.ty_span; name = record { text = decl.name.bytes.items; span = decl.name.span; kind = c.args.kind; number = c.loop-decl.number } }) (c.check_type.ensures.named shapes knows));
      met = λ shapes knows.
          ap (λ m. kept_all m (declared_faults shapes (rest (i + 1) (map decl_view c.args.decls.now)))) (c.check_type.ensures.met shapes knows)
          ∙ (sym (kept_all-append (met_view c.loop-decl.least) (type_faults shapes (decl_view decl).ty decl.ty_span) (declared_faults shapes (rest (i + 1) (map decl_view c.args.decls.now))))
          ∙ (ap (λ ds. kept_all (met_view c.loop-decl.least) (declared_faults shapes ds)) (sym (numbered_next decl_view (declared shapes c.args.kind) c.args.first c.args.decls.now c.loop-decl.decls i decl
          (c.loop-decl.invariant.changed shapes knows) c.loop-decl-test.true (ap (get_or c.loop-decl.decls i) c.decl-item.is)).left)
          ∙ c.loop-decl.invariant.met shapes knows));
    }

pub returns-clause-named : goal.returns-clause-named
returns-clause-named c shapes knows =
    let last : c.loop-decl.decl-index ≡ length c.args.decls.now = omega (arith, c.loop-decl.auto.decl-index-end, c.loop-decl-test.false) in
    numbered_end decl_view (declared shapes c.args.kind) c.args.first c.args.decls.now c.loop-decl.decls c.loop-decl.decl-index (c.loop-decl.invariant.changed shapes knows) last
    ∙ decls_numbered shapes c.args.kind c.args.first (map decl_view c.args.decls.now)
