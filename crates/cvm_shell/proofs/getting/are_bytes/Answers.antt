use Rattle.std.proofs.Common.{subst}
use Rattle.std.specs.Prelude.{All}
use Rattle.run_scripts.specs.Ends.{IsByte}
use Rattle.cvm_shell.proofs.getting.are_bytes.Goals as goal

pub returns : goal.returns
returns c = subst (All IsByte) c.deref.ensures.value c.slice_is_bytes.ensures
