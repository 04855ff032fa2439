-- One struct more has its number, and its name is met.
use Rattle.std.proofs.Common.{◌≡◌, ◌+◌, ◌∷◌, ℕ, List, map, drop, is_some, refl, sym, ap, ◌∙◌, arith}
use Rattle.std.proofs.lemmas.List.{drop_more, drop_all}
use Rattle.std.specs.Option.{option_or}
use Rattle.c0_tree.specs.declared.tree.StructDef.{StructDef}
use Rattle.c0_tree.specs.View.{struct_view}
use Rattle.c0_meaning.specs.Env.{shape_of}
use Rattle.c0_meaning.specs.Fault.{kept_all}
use Rattle.c0_name_check.specs.Met.{met_view}
use Rattle.c0_name_check.specs.Names.{look, number_named}
use Rattle.c0_name_check.specs.Spaces.{twice_by}
use Rattle.c0_name_check.proofs.OneMoreDeclared.{met_step}
use Rattle.c0_types.proofs.NamesSetInTurn.{number_step, number_end}
use Rattle.c0_types.proofs.StructsCheckedInTurn.{number_viewed}
use Rattle.c0_types.proofs.structs.name_structs.Goals as goal

pub loop-definition-preserved : goal.loop-definition-preserved
loop-definition-preserved c =
    let i : ℕ = c.loop-definition.definition-index in
    let x : StructDef = c.definition-item.result in
    let rest : List StructDef = drop (i + 1) c.args.structs.now in
    let left : drop i c.args.structs.now ≡ x ∷ rest =
    drop_more c.args.structs.now i x c.loop-definition-test.true ∙ ap (λ (s : StructDef). s ∷ rest) (sym c.definition-item.is) in
    record {
      at = omega (arith, c.loop-definition.invariant.at);
      names = λ q.
          number_step (λ s. s.name.text) (look c.loop-definition.names q) (look c.declare.new.names q) (struct_view x) (map struct_view rest) c.loop-definition.number q x.name.bytes.items refl (c.in_ok-declare.ensures.names q)
          ∙ (ap (λ (ss : List StructDef). option_or (look c.loop-definition.names q) (number_named (λ s. s.name.text) q c.loop-definition.number (map struct_view ss))) (sym left)
          ∙ c.loop-definition.invariant.names q);
      met =
          met_step (look c.loop-definition.names) (look c.declare.new.names) (struct_view x).name (map (λ s. s.name) (map struct_view rest)) c.loop-definition.number (met_view c.loop-definition.least) (met_view c.declare.new.least)
          c.in_ok-declare.ensures.names c.in_ok-declare.ensures.met
          ∙ (ap (λ (ss : List StructDef). kept_all (met_view c.loop-definition.least) (twice_by (λ q. is_some (look c.loop-definition.names q)) (map (λ s. s.name) (map struct_view ss)))) (sym left)
          ∙ c.loop-definition.invariant.met);
    }

pub returns-clause-names : goal.returns-clause-names
returns-clause-names c = λ q.
    number_end (λ s. s.name.text) (look c.loop-definition.names q) _ (map struct_view (drop c.loop-definition.definition-index c.args.structs.now)) c.loop-definition.number q
    (ap (map struct_view) (drop_all c.loop-definition.definition-index c.args.structs.now c.loop-definition-test.false)) (c.loop-definition.invariant.names q)
    ∙ sym (number_viewed shape_of (λ s. s.text) q 0 (map struct_view c.args.structs.now))
