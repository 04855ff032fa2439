use Rattle.std.proofs.Common.{sym, ap, ◌∙◌}
use Rattle.std.specs.Prelude.{slice_index}
use Rattle.layer_map.specs.Map.{block_at}
use Rattle.boot_report.specs.Texts.{shown_cpu}
use Rattle.boot_report.proofs.UserScripts.{register_in_block}
use Rattle.boot_report.proofs.users.register_of.Goals as goal

pub returns : goal.returns
returns c =
    c.block_word.ensures ∙ register_in_block c.args.machine.now.hardware.memory (block_at c.args.user) c.args.register c.requires.some c.requires.few
    ∙ ap (λ b. slice_index (shown_cpu c.args.machine.now b c.args.user).regs c.args.register) (sym c.if-runs.false)
