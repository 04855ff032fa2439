use Rattle.sample_maker.proofs.OnePieceMore.{next_user}
use Rattle.sample_maker.proofs.program.users_in.Goals as goal

pub loop-user-preserved : goal.loop-user-preserved
loop-user-preserved c =
    next_user (λ u. u.items) c.loop-user.users.items c.push-in-loop-user.new.self.items c.new.result _ c.loop-user._user c.args.count c.loop-user-test.true c.in_ok-push-2.ensures.items c.new.ensures.items c.loop-user.invariant
