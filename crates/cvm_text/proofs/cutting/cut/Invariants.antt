-- No byte so far is the one to cut at.
use Rattle.std.proofs.Common.{◌≡◌, ◌==◌, false, take, All}
use Rattle.cvm_text.proofs.cutting.cut.Given as goal

abbrev pub invariant-loop-index : goal.invariant-loop-index
invariant-loop-index l = All (λ x. (x == l.at) ≡ false) (take l.index l.text)
