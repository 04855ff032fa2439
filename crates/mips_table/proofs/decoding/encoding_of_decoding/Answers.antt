-- The law of encoding and decoding, which crates above may use in their proofs.
use Rattle.mips_table.proofs.DecodingInverts.{encoding-decoding}
use Rattle.mips_table.proofs.decoding.encoding_of_decoding.Goals as goal

pub returns : goal.returns
returns c = encoding-decoding
