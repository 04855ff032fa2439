-- The law of decoding and encoding, which crates above may use in their proofs.
use Rattle.mips_table.proofs.DecodingInverts.{decoding-encoding}
use Rattle.mips_table.proofs.decoding.decoding_of_encoding.Goals as goal

pub returns : goal.returns
returns c = decoding-encoding
