-- By the laws that the body calls.
use Rattle.std.proofs.Common.{refl, arith}
use Rattle.cvm_primitives.proofs.BlocksFromOneState.{from_later}
use Rattle.cvm_primitives.proofs.PagesResized.{vm_resize_good, vm_resize_bad}
use Rattle.cvm_primitives.proofs.laws.a_memory_is_resized.Goals as goal

pub returns : goal.returns
returns k = λ w p b users per size v c d e.
    let f = k.routines_have_laws.ensures w e.sound in record {
      good = λ g. from_later w f _ _ _ c d _ _ (omega arith) (λ c' d' h. ((h.0, h.1), h.2)) (vm_resize_good w f p b e.sited users per size v c d e.held e.sizes e.blocks (c.regs 20) (c.regs 21) refl refl (e.regs 20) (e.regs 21) g);
      bad = λ g. vm_resize_bad w f p b e.sited users per size v c d e.held e.sizes e.blocks (c.regs 20) (c.regs 21) refl refl (e.regs 20) (e.regs 21) g;
    }
