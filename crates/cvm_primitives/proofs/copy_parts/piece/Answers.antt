-- By the words of its parts.
use Rattle.std.proofs.Common.{refl}
use Rattle.page_model.specs.TableLayout.{table_layout}
use Rattle.page_fault.specs.Code.{handle_page_code}
use Rattle.masm.specs.Blocks.{when_code}
use Rattle.cvm_primitives.specs.Code.{piece_length_code, read_code, choose_code, copy_words_of_piece_code, advance_code}
use Rattle.cvm_primitives.proofs.BlockWords.{five, when_is}
use Rattle.cvm_primitives.proofs.copy_parts.piece.Goals as goal

pub returns : goal.returns
returns c =
    let laws = c.words_are_encodings.ensures in
    let p = table_layout c.args.map.now in
    let page = handle_page_code p in
    five laws piece_length_code (read_code page) (choose_code p) (when_code 15 (copy_words_of_piece_code p page)) advance_code _ _ _ _ _ _ _ _ _ _ _
    c.block-new.ensures c.block-then.ensures c.block-then-2.ensures c.block-then-3.ensures c.block-when.ensures c.block-extend.ensures
    c.piece_length.ensures c.read.ensures c.choose.ensures (when_is laws 15 (copy_words_of_piece_code p page) _ c.copy_words_of_piece.ensures) refl
