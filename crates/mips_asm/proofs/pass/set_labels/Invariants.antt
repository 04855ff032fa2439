-- The labels that are left are set on top of those so far, and a label that was set again stays noticed.
use Rattle.std.proofs.Common.{◌≡◌, ◌||◌, ℕ, List, cond, Some, None, length}
use Rattle.std.specs.Prelude.{is_some}
use Rattle.std.specs.Option.{option_or}
use Rattle.mips_asm.specs.Text.{colon_parts, labels_in}
use Rattle.mips_asm.specs.Assembled.{has}
use Rattle.mips_asm.specs.Passes.{label_of, repeats_in}
use Rattle.mips_asm.proofs.pass.set_labels.Given as goal

abbrev pub invariant-loop-label : goal.invariant-loop-label
invariant-loop-label l =
    ((q : List ℕ) → option_or (label_of l.positions q) (cond (has (labels_in (colon_parts l.rest)) q) (Some l.at) None)
    ≡ option_or (label_of l.initial.positions q) (cond (has (labels_in (colon_parts l.text)) q) (Some l.at) None))
    × ((l.twice || repeats_in (λ q. is_some (label_of l.positions q)) (labels_in (colon_parts l.rest)))
    ≡ repeats_in (λ q. is_some (label_of l.initial.positions q)) (labels_in (colon_parts l.text)))

abbrev pub decreases-loop-label : goal.decreases-loop-label
decreases-loop-label l = length l.rest
