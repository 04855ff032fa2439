-- The row keeps the order, and the longest busy time goes on with it.
use Rattle.std.proofs.Common.{◌≡◌, [], ◌∷◌, ◌++◌, fold, map, max, rules, sym, ap, ◌∙◌, arith}
use Rattle.std.proofs.lemmas.List.Sorted.{IsNonDecreasingBy-push}
use Rattle.schedule_file.proofs.OneLineMore.{longest_more}
use Rattle.schedule_file.proofs.schedule.Schedule.add_busy.Goals.{in_default-via-in-None-1, in_default-via-in-Some+else-command-last}
use Rattle.schedule_file.proofs.schedule.Schedule.add_busy.Goals as goal

pub invariant_of-self : goal.invariant_of-self
invariant_of-self c =
    let same : c.in_default.self-inside ≡ c.self.inside = elim c.in_default.branch [ in_default-via-in-None-1 w ↦ w.self-inside-is | in_default-via-in-Some+else-command-last w ↦ w.self-inside-is ] in
    record {
      steps = rw same c.self.invariant.steps;
      bits = rw same c.self.invariant.bits;
      commands =
          rw (c.in-Ok.ensures.items, same) (IsNonDecreasingBy-push (λ row. row.command) c.self.inside.busy.items (record { command = c.args.command; steps = c.args.steps }) c.self.invariant.commands
          (elim c.in_default.branch [ in_default-via-in-None-1 w ↦ (λ d some. search rules) | in_default-via-in-Some+else-command-last w ↦ (λ d some. search rules) ]));
      few = rw same c.self.invariant.few;
      longest =
          c.max-self-inside.ensures ∙ ap (λ m. max m c.args.steps) (ap (λ s. s.longest) same ∙ c.self.invariant.longest) ∙ sym (longest_more c.self.inside.busy.items (record { command = c.args.command; steps = c.args.steps }))
          ∙ sym (ap (λ busy. fold max 0 (map (λ row. row.steps) busy)) (c.in-Ok.ensures.items ∙ ap (λ s. s.busy.items ++ record { command = c.args.command; steps = c.args.steps } ∷ []) same));
      small = rw (c.max-self-inside.ensures, same) (let h = c.self.invariant.small in omega arith);
    }
