-- By the laws that the body calls.
use Rattle.std.proofs.Common.{[], ◌∷◌, arith}
use Rattle.mips_table.specs.declared.inst.Inst.TheVariants.{Lw}
use Rattle.masm.proofs.WaitEnds.{wait_runs}
use Rattle.masm.proofs.waiting.the_disk_is_waited_for.Goals as goal

pub returns : goal.returns
returns c w f = wait_runs w f c.runs_compose.ensures (c.straight_code_runs.ensures w f) (c.a_loop_turns.ensures w f (Lw 1 0 0xf004 ∷ []) 1 [] (omega arith))
