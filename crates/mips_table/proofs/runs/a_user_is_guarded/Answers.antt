-- The run is computed.
use Rattle.std.proofs.Common.{refl}
use Rattle.mips_table.specs.Machine.{step}
use Rattle.mips_table.proofs.runs.a_user_is_guarded.Goals as goal

pub returns : goal.returns
unfolding step
returns c = record { log = refl; own = refl; shared = refl; unread = refl; not_added = refl; stored = refl; special = refl; pc = refl; written = refl; lost = refl }
