use Rattle.std.proofs.Common.{◌≡◌, ◌++◌, drop}
use Rattle.real_layer.specs.Image.{blocks}
use Rattle.real_layer.proofs.image.control_blocks.Given as goal

-- with the blocks that are left they are all blocks
abbrev pub invariant-loop-pages : goal.invariant-loop-pages
invariant-loop-pages l = l.words.items ++ blocks (drop l.pages-index l.sizes) ≡ blocks l.sizes
