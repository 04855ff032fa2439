-- By the words of its parts.
use Rattle.std.proofs.Common.{refl}
use Rattle.page_model.specs.TableLayout.{table_layout}
use Rattle.page_fault.specs.Code.{handle_page_code}
use Rattle.masm.specs.Blocks.{when_code}
use Rattle.cvm_primitives.specs.Code.{apart_code, pieces_code}
use Rattle.cvm_primitives.specs.declared.copying.TheConstants.{BEGINS_BEFORE, ARE_APART}
use Rattle.cvm_primitives.proofs.BlockWords.{two, more, when_is}
use Rattle.cvm_primitives.proofs.copying.apart_pieces.Goals as goal

pub returns : goal.returns
returns c =
    let laws = c.words_are_encodings.ensures in
    let p = table_layout c.args.map.now in
    let all = pieces_code p (handle_page_code p) in
    more laws apart_code (when_code 8 all) _ _ _ (two laws BEGINS_BEFORE ARE_APART _ _ _ _ _ c.block-new.ensures c.block-extend.ensures c.block-extend-2.ensures refl refl)
    c.block-when.ensures (when_is laws 8 all _ c.pieces.ensures)
