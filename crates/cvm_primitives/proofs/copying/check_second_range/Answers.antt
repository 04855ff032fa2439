-- By the words of its parts.
use Rattle.std.proofs.Common.{◌++◌, ◌∙◌, refl}
use Rattle.page_model.specs.TableLayout.{table_layout}
use Rattle.page_fault.specs.Code.{handle_page_code}
use Rattle.masm.specs.Blocks.{when_code}
use Rattle.cvm_primitives.specs.Code.{next_range_code, check_range_code, apart_code, pieces_code}
use Rattle.cvm_primitives.proofs.BlockWords.{two, range_is}
use Rattle.cvm_primitives.proofs.copying.check_second_range.Goals as goal

pub returns : goal.returns
returns c =
    two c.words_are_encodings.ensures next_range_code (check_range_code c.args.map.now.users c.args.map.now.params.pages (apart_code ++ when_code 8 (pieces_code (table_layout c.args.map.now) (handle_page_code (table_layout c.args.map.now))))) _ _ _ _ _ c.block-new.ensures c.block-extend.ensures c.block-then.ensures refl (c.check_range.ensures ∙ range_is c.words_are_encodings.ensures c.args.map.now.users c.args.map.now.params.pages (apart_code ++ when_code 8 (pieces_code (table_layout c.args.map.now) (handle_page_code (table_layout c.args.map.now)))) _ c.apart_pieces.ensures)
