-- By the words of the block that writes a frame.
use Rattle.std.proofs.Common.{◌++◌, ◌∙◌, ap₂, sym}
use Rattle.page_model.specs.TableLayout.{table_layout}
use Rattle.swap_layer.specs.Code.{swap_out_code}
use Rattle.frame_table.specs.Code.{evict_frame_code}
use Rattle.page_fault.specs.Code.{load_page_code}
use Rattle.page_fault.proofs.block.page_in.Goals as goal

pub returns : goal.returns
returns c =
    let p = table_layout c.args.map.now in
    c.block-then-2.ensures ∙ ap₂ (λ u v. u ++ v) (c.block-then.ensures ∙ ap₂ (λ u v. u ++ v) c.block-new.ensures (c.evict_frame.ensures swap_out_code c.swap_out.ensures)) c.load_page.ensures
    ∙ sym (c.words_are_encodings.ensures.joined (evict_frame_code p swap_out_code) (load_page_code p))
