use Rattle.std.proofs.Common.{◌≡◌, ◌-◌, ◌∷◌, ◌++◌, [], map, replicate}
use Rattle.sample_maker.specs.Program.{sample_words}
use Rattle.sample_maker.proofs.program.users_in.Given as goal

abbrev pub invariant-loop-user : goal.invariant-loop-user
invariant-loop-user l = map (λ u. u.items) l.users.items ++ replicate (l.count - l._user) [] ≡ sample_words ∷ replicate (l.count - 1) []
