use Rattle.std.proofs.Common.{◌≡◌, take}
use Rattle.run_scripts.specs.Plan.{user_bytes}
use Rattle.cvm_shell.proofs.assembly.little_endian.Given as goal

abbrev pub invariant-loop-word : goal.invariant-loop-word
invariant-loop-word l = l.bytes.items ≡ user_bytes (take l.word-index l.words)
