-- What a line that was written for a word says.
use Rattle.std.specs.Prelude.{◌≡◌, ◌==◌, ℕ, [], false, All}
use Rattle.mips_table.specs.Decoding.{decoding}
use Rattle.mips_asm.specs.Line.{line_meaning, word}
use Rattle.mips_asm.specs.Assembled.{labels}
use Rattle.mips_asm.specs.Listing.{line_for}

-- the text of a word is one line without labels, and means the word
pub record ReadsBack (value : ℕ) : Type 0 where
  pub means : line_meaning (line_for value (decoding value)) ≡ word value
  pub unlabelled : labels (line_for value (decoding value)) ≡ []
  pub one_line : All (λ c. (c == 10) ≡ false) (line_for value (decoding value))
