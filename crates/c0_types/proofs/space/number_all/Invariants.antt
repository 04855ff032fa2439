-- The names so far have their numbers, and the others are still to have them.
use Rattle.std.proofs.Common.{◌≡◌, ℕ, List, map, drop}
use Rattle.std.specs.Option.{option_or}
use Rattle.c0_name_check.specs.Names.{look, number_named}
use Rattle.c0_types.proofs.space.number_all.Given as goal

abbrev pub invariant-loop-named : goal.invariant-loop-named
invariant-loop-named g l = record {
  at : l.number ≡ l.named-index;
  names : (q : List ℕ) →
      option_or (look l.names q) (number_named g.T.Named.spelled q l.number (map g.T.Named.seen (drop l.named-index l.list)))
      ≡ number_named g.T.Named.spelled q 0 (map g.T.Named.seen l.list);
}
