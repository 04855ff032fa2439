-- A disk begins as sectors of zeros: a clone of an array of words is equal to it.
use Rattle.std.proofs.Common.{◌<◌, ◌^◌, rules, arith, sym, subst, refl, All, replicate}
use Rattle.std.proofs.lemmas.List.Elements.{same_from_all_zip, All-replicate}
use Rattle.cvm_outside.specs.Told.{IsSector}
use Rattle.cvm_outside.proofs.mem_sectors.MemSectors.new.Goals as goal

pub returns : goal.returns
returns c =
    let zeros = c.in_ok-sectors.ensures.items_if_clones_equal (λ y h. search (rules, same_from_all_zip)) in
    rw zeros (search rules)

pub invariant_of-result : goal.invariant_of-result
invariant_of-result c =
    let zeros = c.in_ok-sectors.ensures.items_if_clones_equal (λ y h. search (rules, same_from_all_zip)) in
    let blank : IsSector (replicate 1024 0) = record { size = refl; each = All-replicate (λ w. w < 2 ^ 32) 1024 0 (omega arith) } in
    (c.in_ok-sectors.ensures.len, subst (All IsSector) (sym zeros) (All-replicate IsSector c.args.count (replicate 1024 0) blank))
