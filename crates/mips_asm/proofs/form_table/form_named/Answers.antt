-- The form is the first with the mnemonic, and each form's instruction is in range.
use Rattle.std.proofs.Common.{◌∙◌, ap, bytes_eq, find}
use Rattle.std.specs.Prelude.{option_map}
use Rattle.mips_table.specs.Rows.{mnemonic_of}
use Rattle.mips_asm.specs.Form.{Form, form_of}
use Rattle.mips_asm.specs.View.{code_form_view}
use Rattle.mips_asm.proofs.FormLookup.{find_viewed, found_fits}
use Rattle.mips_asm.proofs.form_table.form_named.Goals as goal

pub returns-clause-form : goal.returns-clause-form
unfolding form_of
returns-clause-form c =
    ap (option_map code_form_view) c.first_named.ensures
    ∙ find_viewed code_form_view (λ (f : Form). bytes_eq (mnemonic_of f.0) c.args.name.now) c.all_forms.result
    ∙ ap (find (λ (f : Form). bytes_eq (mnemonic_of f.0) c.args.name.now)) c.all_forms.ensures

pub returns-clause-in_range : goal.returns-clause-in_range
returns-clause-in_range c = found_fits c.args.name.now _ (returns-clause-form c)
