use Rattle.std.proofs.Common.{ℕ, ◌-◌, Ok, Err, refl, ap, ◌∙◌, sym, subst}
use Rattle.std.proofs.lemmas.Result.{err_from_is_err_and}
use Rattle.boot_run.specs.OneTurn.{TurnsSay, as_turns}
use Rattle.boot_turns.specs.declared.answers.Turn.{Turn}
use Rattle.boot_run.proofs.ScriptsOfTurns.{as_script}
use Rattle.boot_run.proofs.TurnIsOneOfTurns.{as_one}
use Rattle.boot_run.proofs.run.Run.turn.Goals as goal

pub returns-in_err-turn : goal.returns-in_err-turn
returns-in_err-turn g c =
    let h = err_from_is_err_and c.from_residual.result c.from_residual.ensures.1 in
    record {
      says = subst (TurnsSay g.D.Sectors.size g.D.Sectors.sectors 1 c.args.self.now c.args.disk.now c.args.budget.now c.args.out.now c.turns.new.self c.turns.new.disk c.turns.new.budget c.turns.new.out)
          (sym (ap as_turns (h.1 ∙ ap (λ f. Err f) h.2))) c.in_err-turn.ensures.says;
      script = rw (h.1, h.2) (as_script {T = ℕ × Turn} {R = Turn} g.O.Sink g.D.Sectors c.args.self.now c.args.out.now c.turns.new.out c.args.disk.now c.turns.new.disk c.args.budget.now (c.args.budget.now - c.turns.new.budget) (Err c.in_err-turn.field-0.0) (Err c.in_err-turn.field-0.0) refl c.in_err-turn.ensures.script);
    }

pub returns : goal.returns
returns g c =
    let leaves = c.in_ok-turn.ensures.says.leaves in
    record {
      says = subst (TurnsSay g.D.Sectors.size g.D.Sectors.sectors 1 c.args.self.now c.args.disk.now c.args.budget.now c.args.out.now c.turns.new.self c.turns.new.disk c.turns.new.budget c.turns.new.out)
          (as_one c.args.self.now.fault c.args.self.now.ended c.in_ok-turn.field-0-0 c.in_ok-turn.turn leaves.again leaves.over leaves.only leaves.made) c.in_ok-turn.ensures.says;
      script = as_script {T = ℕ × Turn} {R = Turn} g.O.Sink g.D.Sectors c.args.self.now c.args.out.now c.turns.new.out c.args.disk.now c.turns.new.disk c.args.budget.now (c.args.budget.now - c.turns.new.budget) (Ok (c.in_ok-turn.field-0-0, c.in_ok-turn.turn)) (Ok c.in_ok-turn.turn) refl c.in_ok-turn.ensures.script;
    }
