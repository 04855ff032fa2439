-- The fault is read off the line's meaning where the labels' positions are known, and the labels are those before a bad byte.
use Rattle.std.proofs.Common.{ℕ, List, Some, None, cond, ap, ◌∙◌}
use Rattle.std.specs.Prelude.{is_some}
use Rattle.std.specs.Option.{option_or}
use Rattle.mips_asm.specs.Text.{colon_parts, labels_in}
use Rattle.mips_asm.specs.Assembled.{has}
use Rattle.mips_asm.specs.Passes.{label_of}
use Rattle.mips_asm.specs.View.{line_view}
use Rattle.mips_asm.proofs.FirstLineFault.{some_or, fault_is}
use Rattle.mips_asm.proofs.pass.fault_of_line.Goals as goal

pub returns : goal.returns
returns c =
    let seen = λ (q : List ℕ). is_some (label_of c.args.seen.now q) in
    record {
      fault =
          fault_is (label_of c.args.positions.now) seen c.args.start c.args.number c.args.at c.good_len.result c.args.line.now c.label_text.result.now c.line_fault.result
          (line_view c.read_line.result) (line_view c.resolve.result) c.in_ok-twice.twice c.line_fault.ensures c.good_len.ensures.value c.resolve.ensures c.read_line.ensures
          c.in_ok-twice.ensures.twice c.label_text.ensures;
      seen =
          λ q.
          some_or (label_of c.args.seen.now q) (label_of c.set_labels.new.positions q) _ c.args.at
          (c.in_ok-twice.ensures.positions q
          ∙ ap (λ t. option_or (label_of c.args.seen.now q) (cond (has (labels_in (colon_parts t)) q) (Some c.args.at) None)) c.label_text.ensures);
    }
