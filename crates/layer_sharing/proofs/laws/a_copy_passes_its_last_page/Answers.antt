-- By the laws that the body calls; the page-fault block is page_fault's.
use Rattle.std.proofs.Common.{refl}
use Rattle.page_fault.specs.Code.{handle_page_code}
use Rattle.cvm_primitives.specs.Laws.{first_word, second_word, copy_steps}
use Rattle.layer_sharing.specs.Passing.{CopyPassed}
use Rattle.layer_sharing.proofs.CopyThrough.{vm_copy_thru, thru_again}
use Rattle.layer_sharing.proofs.laws.a_copy_passes_its_last_page.Goals as goal

pub returns : goal.returns
returns k w s = λ p b users per size v c d e good whole.
    let f = k.routines_have_laws.ensures w s in
    let block = k.the_block_is_a_page_block.ensures w s p b e.sited e.ported in
    thru_again w p users per (copy_steps p b per c) c d (CopyPassed p v (first_word per c) (second_word per c) (c.regs 24) c d) block.0.code (handle_page_code p) block.1
    (vm_copy_thru w f p b e.sited block.0 users per size v c d e.held e.sizes (c.regs 20) (c.regs 21) (c.regs 22) (c.regs 23) (c.regs 24) refl refl refl refl refl (e.regs 20) (e.regs 21) (e.regs 22) (e.regs 23) (e.regs 24) whole good)
