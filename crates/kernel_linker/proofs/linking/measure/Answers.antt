use Rattle.std.proofs.Common.{◌≡◌, ap, ◌∙◌, map, drop, List, Vec, Global, ℕ}
use Rattle.std.proofs.lemmas.List.{drop_all}
use Rattle.kernel_linker.specs.Link.{measured}
use Rattle.kernel_linker.proofs.LinkSteps.{measured_all}
use Rattle.kernel_linker.proofs.linking.measure.Goals as goal

pub returns-clause-short : goal.returns-clause-short
returns-clause-short c =
    measured_all c.args.most 1 _ (c.loop-user.invariant.left ∙ ap (λ (us : List (Vec ℕ Global)). measured c.args.most c.loop-user.number (map (λ u. u.items) us)) (drop_all c.loop-user.user-index c.args.users.now c.loop-user-test.false))
