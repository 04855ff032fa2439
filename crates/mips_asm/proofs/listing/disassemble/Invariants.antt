-- The lines so far are written, and their words read back.
use Rattle.std.proofs.Common.{◌≡◌, take, All}
use Rattle.std.specs.List.{flat_map}
use Rattle.mips_asm.specs.Listing.{line_of}
use Rattle.mips_asm.specs.Back.{ReadsBack}
use Rattle.mips_asm.proofs.listing.disassemble.Given as goal

abbrev pub invariant-loop-word : goal.invariant-loop-word
invariant-loop-word l = (l.text.items ≡ flat_map line_of (take l.word-index l.words)) × All ReadsBack (take l.word-index l.words)
