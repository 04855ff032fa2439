mod TextIsTree
mod DispatchesComputed
mod UserFollows
mod EveryStepKeepsIt
mod MailEnds
