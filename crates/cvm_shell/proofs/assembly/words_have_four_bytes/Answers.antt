use Rattle.cvm_shell.proofs.FourBytes.{length-bytes_of}
use Rattle.cvm_shell.proofs.assembly.words_have_four_bytes.Goals as goal

pub returns : goal.returns
returns c = length-bytes_of
