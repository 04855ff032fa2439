use Rattle.std.proofs.Common.{◌∙◌}
use Rattle.c0_typed.specs.View.{typed_expr_view}
use Rattle.c0_expr_code.specs.SettingIn.{setting_in}
use Rattle.c0_expr_code.proofs.OutermostPart.{stands_is}
use Rattle.c0_expr_code.proofs.known.register_standing.Goals as goal

pub returns : goal.returns
returns c = c.stands.ensures ∙ stands_is (setting_in c.args.setting.now) (typed_expr_view c.args.expr.now)
