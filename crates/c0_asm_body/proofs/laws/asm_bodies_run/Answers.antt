-- By the laws that the body calls.
use Rattle.c0_asm_body.proofs.BodiesRun.{asm_runs}
use Rattle.c0_asm_body.proofs.laws.asm_bodies_run.Goals as goal

pub returns : goal.returns
returns c w f = asm_runs w c.encoding_of_decoding.ensures c.a_processor_keeps_words.ensures c.code_runs_join.ensures c.runs_compose.ensures (c.straight_code_runs.ensures w f) c.asm_bodies_look_at_their_registers.ensures
