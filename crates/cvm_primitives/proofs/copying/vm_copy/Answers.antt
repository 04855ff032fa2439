-- By the words of its parts.
use Rattle.std.proofs.Common.{◌∙◌, refl}
use Rattle.page_model.specs.TableLayout.{table_layout}
use Rattle.page_fault.specs.Code.{handle_page_code}
use Rattle.cvm_primitives.specs.Code.{begin_copy_code, check_range_code, check_second_range_code}
use Rattle.cvm_primitives.proofs.BlockWords.{two, range_is}
use Rattle.cvm_primitives.proofs.copying.vm_copy.Goals as goal

pub returns : goal.returns
returns c =
    two c.words_are_encodings.ensures begin_copy_code (check_range_code c.args.map.now.users c.args.map.now.params.pages (check_second_range_code (table_layout c.args.map.now) c.args.map.now.users c.args.map.now.params.pages (handle_page_code (table_layout c.args.map.now)))) _ _ _ _ _ c.block-new.ensures c.block-extend.ensures c.block-then.ensures refl (c.check_range.ensures ∙ range_is c.words_are_encodings.ensures c.args.map.now.users c.args.map.now.params.pages (check_second_range_code (table_layout c.args.map.now) c.args.map.now.users c.args.map.now.params.pages (handle_page_code (table_layout c.args.map.now))) _ c.check_second_range.ensures)
