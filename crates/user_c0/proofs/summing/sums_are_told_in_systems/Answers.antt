use Rattle.user_c0.proofs.summing.sums_are_told_in_systems.Goals as goal

pub returns : goal.returns
returns c = λ y lines units turns n at u is replays from to runs reached a g cause edata e.
    c.sums_are_told.ensures.traps u a.events _ g cause edata is (c.users_come.ensures.come y lines units turns n at u replays from to runs reached a) e
