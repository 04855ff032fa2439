use Rattle.std.proofs.Common.{◌∙◌}
use Rattle.c0_typed.specs.View.{typed_expr_view}
use Rattle.c0_expr_code.specs.SettingIn.{setting_in}
use Rattle.c0_expr_code.proofs.OutermostPart.{own_is}
use Rattle.c0_expr_code.proofs.known.register_place.Goals as goal

pub returns : goal.returns
returns c = c.own.ensures ∙ own_is (setting_in c.args.setting.now) (typed_expr_view c.args.expr.now)
