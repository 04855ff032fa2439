-- The laws of the crates below, and of a block's run, on which all laws of a layer rest: each by the name of the function that states it.
use Rattle.std.specs.Prelude.{◌≡◌, ℕ, ◌+◌, List}
use Rattle.mips_table.specs.declared.inst.Inst.{Inst}
use Rattle.mips_table.specs.Device.{Environment}
use Rattle.mips_table.specs.Machine.{State, run}
use Rattle.mips_table.specs.Fits.{StaysFitting}
use Rattle.mips_table.specs.Code.{World, Sound}
use Rattle.masm.specs.Laws.{RunsCompose, JumpsLead}
use Rattle.masm.specs.Standing.{BlockStands}
use Rattle.page_model.specs.Laws.{AlikesStand}
use Rattle.layer_contract.specs.Layer.{NoneIsDue}
use Rattle.real_layer.specs.Runs.{BlocksRun}

-- runs of the machine join, and keep words; a block's run is the machine's, and runs of code compose and jump; no command ends that isn't under way; and
-- states that are alike in what pages are read from stand alike
pub record Premises : Type 0 where
  pub runs_join : (x : Environment) (s : State) (m n : ℕ) → run x s (m + n) ≡ run x (run x s m) n
  pub blocks_run : BlocksRun
  pub a_block_stands : (n : ℕ) (is : List Inst) → BlockStands n is
  pub runs_compose : RunsCompose
  pub jumps_lead : (w : World) → Sound w → JumpsLead w
  pub no_command_is_due : NoneIsDue
  pub words_stay_words : StaysFitting
  pub alikes_stand : AlikesStand
