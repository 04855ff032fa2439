-- By the laws that the body calls; the page-fault block is page_fault's.
use Rattle.std.proofs.Common.{refl}
use Rattle.page_fault.specs.Code.{handle_page_code}
use Rattle.cvm_primitives.specs.Code.{vm_word_code}
use Rattle.cvm_primitives.proofs.BlocksFromOneState.{renamed}
use Rattle.cvm_primitives.proofs.WordAccess.{vm_word_good, vm_word_bad}
use Rattle.cvm_primitives.proofs.laws.a_word_is_read.Goals as goal

pub returns : goal.returns
returns k = λ w p b users per size v c d e.
    let f = k.routines_have_laws.ensures w e.sound in
    let block = k.the_block_is_a_page_block.ensures w e.sound p b e.sited e.ported in record {
      good = λ g. renamed w (vm_word_code p users per) block.0.code (handle_page_code p) _ c d _ block.1 (vm_word_good w f p b e.sited block.0 users per size v c d e.held e.sizes (c.regs 20) (c.regs 21) refl refl (e.regs 20) (e.regs 21) g);
      bad = λ g. renamed w (vm_word_code p users per) block.0.code (handle_page_code p) _ c d _ block.1 (vm_word_bad w f p b e.sited block.0 users per size v c d e.held e.sizes (c.regs 20) (c.regs 21) refl refl (e.regs 20) (e.regs 21) g);
    }
