-- By the words of its parts.
use Rattle.std.proofs.Common.{[], ◌∷◌, refl}
use Rattle.mips_table.specs.declared.inst.Inst.TheVariants.{Addiu}
use Rattle.page_model.specs.TableLayout.{table_layout}
use Rattle.page_fault.specs.Code.{handle_page_code}
use Rattle.masm.specs.Blocks.{loop_code}
use Rattle.cvm_primitives.specs.Code.{piece_code}
use Rattle.cvm_primitives.proofs.BlockWords.{two, loop_is}
use Rattle.cvm_primitives.proofs.copying.pieces.Goals as goal

pub returns : goal.returns
returns c =
    two c.words_are_encodings.ensures (loop_code [] 14 (piece_code (table_layout c.args.map.now) (handle_page_code (table_layout c.args.map.now)))) (Addiu 2 0 1 ∷ []) _ _ _ _ _ c.block-new.ensures c.block-loop_while.ensures c.block-push.ensures (loop_is c.words_are_encodings.ensures 14 (piece_code (table_layout c.args.map.now) (handle_page_code (table_layout c.args.map.now))) _ _ c.block-new-2.ensures c.piece.ensures) refl
