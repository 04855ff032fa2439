-- No form so far has the mnemonic.
use Rattle.std.proofs.Common.{◌≡◌, find, bytes_eq, drop}
use Rattle.mips_table.specs.Rows.{mnemonic_of}
use Rattle.mips_asm.proofs.form_table.first_named.Given as goal

abbrev pub invariant-loop-form : goal.invariant-loop-form
invariant-loop-form l = find (λ f. bytes_eq (mnemonic_of f.inst) l.name) (drop l.form-index l.forms) ≡ find (λ f. bytes_eq (mnemonic_of f.inst) l.name) l.forms
