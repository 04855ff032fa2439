-- What is answered to a source that reads as a given tree: the tree that was read is that one.
use Rattle.std.proofs.Common.{◌≡◌, ◌<◌, ◌≤◌, [], Ok, Err, length, subst, arith}
use Rattle.c0_tree.specs.declared.tree.Unit.{Unit as Source}
use Rattle.c0_parser.specs.declared.fault.ReadFault.TheVariants.{SourceTooLong}
use Rattle.c0_tree.specs.View.{unit_view}
use Rattle.c0_types.specs.Source.{checked_as, source_faults_as}
use Rattle.c0_types.specs.Answer.{FaultAnswersAs}
use Rattle.c0_types.proofs.source.read_as.Goals as goal

pub returns-in-Ok-checked-clause-only : goal.returns-in-Ok-checked-clause-only
returns-in-Ok-checked-clause-only c = λ u le r.
    subst (λ t. (source_faults_as c.args.program t ≡ []) × (unit_view c.in-Ok-checked.unit.0 ≡ checked_as c.args.program t))
    (c.in-Ok.ensures.only u le r) (c.in-Ok-checked.ensures.faultless, c.in-Ok-checked.ensures.resolved)

pub returns-in-Err-checked-clause-only : goal.returns-in-Err-checked-clause-only
returns-in-Err-checked-clause-only c = λ u le r.
    subst (λ t. FaultAnswersAs c.args.program t c.in-Err-checked.fault) (c.in-Ok.ensures.only u le r) c.in-Err-checked.ensures.fault

pub returns-in-Ok-checked-clause-found : goal.returns-in-Ok-checked-clause-found
returns-in-Ok-checked-clause-found c =
    let no : 1048576 < length c.args.source.now → ⊥ = λ k. let e : Ok c.in-Ok.unit ≡ Err SourceTooLong = c.in-Ok.ensures.too_long k in cc in
    record {
      short = omega arith;
      tree = unit_view c.in-Ok.unit;
      reads = c.in-Ok.ensures.found;
      faultless = c.in-Ok-checked.ensures.faultless;
      resolved = c.in-Ok-checked.ensures.resolved;
    }
