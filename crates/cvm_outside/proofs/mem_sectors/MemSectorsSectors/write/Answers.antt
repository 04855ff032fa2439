-- A write that fails leaves its sector as it is, so the words it holds afterwards are the old ones.
use Rattle.std.proofs.Common.{◌≡◌, ◌∙◌, ap, sym, slice_index_or, [], Some}
use Rattle.std.proofs.lemmas.List.{set-get_or}
use Rattle.cvm_outside.proofs.mem_sectors.MemSectorsSectors.write.Goals as goal

pub returns-then-failing-clause-torn : goal.returns-then-failing-clause-torn
returns-then-failing-clause-torn c =
    let old = c.args.self.now.sectors in
    let kept : c.self.inside.sectors.items ≡ old = ap (λ disk. disk.sectors) c.self.view_is in
    (slice_index_or old c.args.i [], ap (λ ss. Some ss) (kept ∙ sym (set-get_or old c.args.i [])))
