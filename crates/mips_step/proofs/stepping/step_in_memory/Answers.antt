-- The step's contract speaks of the bus's own accesses; by the laws of a memory bus these are the memory's.
use Rattle.mips_step.proofs.MemoryStep.{ends}
use Rattle.mips_step.proofs.stepping.step_in_memory.Goals as goal

pub returns : goal.returns
returns g c = let laws = g.met.B.MemoryBus in let bus = g.B.MemoryBus in
    ends _ _ _ _ _ bus.view bus.access bus.word bus.read bus.written laws.fetches_seen laws.loads_seen laws.stores_seen laws.reads laws.writes laws.access_stays
    _ c.args.bus.now _ c.step.new.bus c.step.ensures
