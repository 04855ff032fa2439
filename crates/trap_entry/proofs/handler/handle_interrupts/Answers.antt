-- By the words of its parts.
use Rattle.std.proofs.Common.{[], ◌∷◌, ◌++◌}
use Rattle.mips_table.specs.declared.inst.Inst.TheVariants.{J, Eret}
use Rattle.page_model.specs.TableLayout.{table_layout}
use Rattle.page_fault.specs.Code.{handle_page_code}
use Rattle.trap_entry.specs.Code.{save_and_classify_code, handle_page_fault_code, enter_kernel_code}
use Rattle.trap_entry.proofs.HandlerWords.{words_are}
use Rattle.trap_entry.proofs.handler.handle_interrupts.Goals as goal

pub returns : goal.returns
returns c = words_are c.words_are_encodings.ensures save_and_classify_code (handle_page_fault_code (table_layout c.args.map.now) (handle_page_code (table_layout c.args.map.now)) ++ Eret ∷ []) enter_kernel_code (J 0x4000) 8
    _ _ _ _ _ _ _ _ c.save_and_classify.ensures c.handle_page_fault.ensures c.enter_kernel.ensures c.block-new.ensures c.block-then.ensures c.block-when.ensures c.block-then-2.ensures c.block-push.ensures
