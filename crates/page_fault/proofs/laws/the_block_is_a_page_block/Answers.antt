-- By the law of the block: at most four swaps for the frame at the hand.
use Rattle.page_fault.proofs.PageBroughtIn.{page_block_is}
use Rattle.page_fault.proofs.laws.the_block_is_a_page_block.Goals as goal

pub returns : goal.returns
returns c w f = page_block_is w (c.a_page_is_brought_in.ensures w f)
