-- A key with the bytes of a name that is new: the map says its number of that name, and the same as before of the others.
use Rattle.std.proofs.Common.{◌++◌, sym, ap, ◌∙◌}
use Rattle.c0_name_check.proofs.OneNameChanges.{look-set_key}
use Rattle.c0_name_check.proofs.names.set_name.Goals as goal

pub returns-clause-names : goal.returns-clause-names
returns-clause-names c = λ q.
    look-set_key c.extend_from_slice.new.self.items c.args.text.now c.args.names.now c.insert.new.self c.args.number
    (c.in_ok-extend_from_slice.ensures.items ∙ ap (λ l. l ++ c.args.text.now) c.new-key.ensures.items) c.in-Ok.ensures.updates (sym c.in-None.ensures.value) q
