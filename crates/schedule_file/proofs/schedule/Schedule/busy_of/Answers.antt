-- The search by halves ends at the row of the command, if there is one.
use Rattle.std.proofs.Common.{◌≡◌, ◌<◌, ◌≤◌, length, get_or, is_some, nat_lt, rules, subst, sym, ap, ◌∙◌, arith}
use Rattle.std.proofs.lemmas.List.{get_or_default}
use Rattle.std.proofs.lemmas.List.Sorted.{IsPartitionPoint-from_clause, IsPartitionedBy-ltb}
use Rattle.schedule_file.specs.Rows.{Rows, busy_of, longest}
use Rattle.schedule_file.proofs.OneLineMore.{time_within}
use Rattle.schedule_file.proofs.RowsSought.{busy_there, busy_none, below, not_below}
use Rattle.schedule_file.proofs.schedule.Schedule.busy_of.Goals as goal

pub returns-in-Some-clause-value : goal.returns-in-Some-clause-value
returns-in-Some-clause-value c =
    let xs = c.deref.result.now in
    let point =
    IsPartitionPoint-from_clause (λ row. nat_lt row.command c.args.command) xs c.partition_point-at.result c.partition_point-at.ensures.partitioned
    (IsPartitionedBy-ltb (λ row. row.command) xs c.args.command (rw c.deref.ensures.value c.self.invariant.commands)) (λ a r q k. search rules) in
    let rows : Rows = record { lines = c.self.inside.lines.items; busy = c.self.inside.busy.items; inputs = c.self.inside.inputs.items } in
    let low = below _ _ (sym c.in-Some.ensures.lookup.0) in
    let inside : c.partition_point-at.result < length c.self.inside.busy.items = rw c.deref-2.ensures.value at low in
    let row_is : c.in-Some.row.now ≡ get_or c.self.inside.busy.items c.partition_point-at.result c.in-Some.row.now = rw c.deref-2.ensures.value at c.in-Some.ensures.lookup.1 in
    busy_there rows c.args.command c.partition_point-at.result (rw c.deref.ensures.value at point) c.in-Some.row.now inside row_is c.if-row-command.true
    ∙ ap (λ (rows : Rows). busy_of rows c.args.command) c.self.view_is

pub returns-in_default-clause-value : goal.returns-in_default-clause-value
returns-in_default-clause-value c =
    let xs = c.deref.result.now in
    let point =
    IsPartitionPoint-from_clause (λ row. nat_lt row.command c.args.command) xs c.partition_point-at.result c.partition_point-at.ensures.partitioned
    (IsPartitionedBy-ltb (λ row. row.command) xs c.args.command (rw c.deref.ensures.value c.self.invariant.commands)) (λ a r q k. search rules) in
    let rows : Rows = record { lines = c.self.inside.lines.items; busy = c.self.inside.busy.items; inputs = c.self.inside.inputs.items } in
    let row_is : c.in-Some.row.now ≡ get_or c.self.inside.busy.items c.partition_point-at.result c.in-Some.row.now = rw c.deref-2.ensures.value at c.in-Some.ensures.lookup.1 in
    busy_none rows c.args.command c.partition_point-at.result (rw c.deref.ensures.value at point) c.self.invariant.commands
    (λ d inside same. c.if-row-command.false (ap (λ row. row.command) (row_is ∙ get_or_default _ _ _ d inside) ∙ same))
    ∙ ap (λ (rows : Rows). busy_of rows c.args.command) c.self.view_is

pub returns-in_default-2-clause-value : goal.returns-in_default-2-clause-value
returns-in_default-2-clause-value c =
    let xs = c.deref.result.now in
    let point =
    IsPartitionPoint-from_clause (λ row. nat_lt row.command c.args.command) xs c.partition_point-at.result c.partition_point-at.ensures.partitioned
    (IsPartitionedBy-ltb (λ row. row.command) xs c.args.command (rw c.deref.ensures.value c.self.invariant.commands)) (λ a r q k. search rules) in
    let rows : Rows = record { lines = c.self.inside.lines.items; busy = c.self.inside.busy.items; inputs = c.self.inside.inputs.items } in
    let none = not_below _ _ (sym c.get.ensures.lookup.0 ∙ ap is_some c.in_default.is) in
    let past : length c.self.inside.busy.items ≤ c.partition_point-at.result = rw c.deref-2.ensures.value at none in
    busy_none rows c.args.command c.partition_point-at.result (rw c.deref.ensures.value at point) c.self.invariant.commands (λ d inside same. absurd (omega arith))
    ∙ ap (λ (rows : Rows). busy_of rows c.args.command) c.self.view_is

pub returns-in-Some-clause-within : goal.returns-in-Some-clause-within
returns-in-Some-clause-within c = subst (λ steps. steps ≤ longest c.args.self.now) (sym (returns-in-Some-clause-value c)) (time_within c.args.self.now c.args.command)
