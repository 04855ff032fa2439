-- The page of an address that was found serves.
use Rattle.std.proofs.Common.{◌≡◌, ◌*◌, ◌/◌, length, take, ap, ◌∙◌, sym, subst, arith, slice_index}
use Rattle.std.proofs.lemmas.List.{length-take-le}
use Rattle.mips_table.specs.declared.special.TheConstants.{PTO}
use Rattle.mips_table.specs.Machine.{pte_address}
use Rattle.mips_machine.specs.Board.{Board, around}
use Rattle.mips_machine.specs.Stretch.{KeepsPage}
use Rattle.mips_machine.proofs.KeptPagesServe.{found_serves}
use Rattle.mips_machine.proofs.board.Board.page_of.Goals as goal

pub returns : goal.returns
returns c =
    let i = c.self.inside in
    let m : length (take i.words i.frames) ≡ length c.args.self.now.memory = ap (λ (b : Board). length b.memory) c.self.view_is in
    let n : length (take i.words i.frames) ≡ i.words = length-take-le i.words i.frames (omega arith) in
    let e : c.entry_address.result ≡ pte_address c.args.address (slice_index c.args.self.now.special PTO) =
    c.entry_address.ensures ∙ ap (λ (b : Board). pte_address c.args.address (slice_index b.special PTO)) c.self.view_is in
    subst (λ v. KeepsPage (around c.args.self.now) (record { page = c.args.address / 4096; first = c.args.word / 1024 * 1024; entry = v / 4 })) (sym e)
    (found_serves c.args.self.now c.args.address c.args.word (i.words / 1024) (sym m ∙ n ∙ c.self.invariant.0) (omega arith) c.requires)
