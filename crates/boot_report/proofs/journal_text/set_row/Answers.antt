use Rattle.std.proofs.Common.{◌∙◌, ap, ◌++◌}
use Rattle.std.specs.Prelude.{codes, decimal}
use Rattle.cvm_text.specs.Hex.{hex8}
use Rattle.boot_report.proofs.RegisterIsPut.{hex_put}
use Rattle.boot_report.proofs.journal_text.set_row.Goals as goal

pub returns : goal.returns
unfolding lib.Utf8.encode
returns c = hex_put (codes "set ") c.push_str.new.self.bytes c.push_str-2.new.self.bytes c.push.new.self.bytes c.push_str-3.new.self.bytes c.push-2.new.self.bytes (decimal c.args.register) (hex8 c.args.value)
    (c.push_str.ensures.bytes ∙ ap (λ t. t ++ codes "set ") c.new-text.ensures) (c.push_str-2.ensures.bytes ∙ ap (λ t. c.push_str.new.self.bytes ++ t) (c.as_str.ensures.value ∙ c.decimal_u64.ensures)) c.push.ensures.bytes
    (c.push_str-3.ensures.bytes ∙ ap (λ t. c.push.new.self.bytes ++ t) (c.as_str-2.ensures.value ∙ c.hex8.ensures)) c.push-2.ensures.bytes
