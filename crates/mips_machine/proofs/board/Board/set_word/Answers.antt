-- A word of memory that is set, said of the board that callers see.
use Rattle.std.proofs.Common.{◌≡◌, ◌<◌, length, take, ap, ◌∙◌, slice_set, arith}
use Rattle.std.proofs.lemmas.List.{length-take-le}
use Rattle.mips_machine.specs.Board.{Board}
use Rattle.mips_machine.proofs.BoardWrites.{board_in, memory_set}
use Rattle.mips_machine.proofs.board.Board.set_word.Goals as goal

pub returns : goal.returns
returns c =
    let i = c.self.inside in
    let m : length (take i.words i.frames) ≡ length c.args.self.now.memory = ap (λ (b : Board). length b.memory) c.self.view_is in
    let n : length (take i.words i.frames) ≡ i.words = length-take-le i.words i.frames (omega arith) in
    let lt : c.args.word < i.words = omega arith in
    ap (λ f. board_in i.special.regs f i.words i.disk i.console i.kept) c.put.ensures ∙ memory_set i.special.regs i.frames i.words i.disk i.console i.kept c.self.invariant.0 c.self.invariant.1 c.args.word c.args.value lt
    ∙ ap (λ (b : Board). record b { memory = slice_set b.memory c.args.word c.args.value }) c.self.view_is
