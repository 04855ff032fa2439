-- Each kind of step by its own lemma, over what the laws of the crates below say.
use Rattle.c0_meaning.specs.Sound.{shapes}
use Rattle.c0_meaning.specs.TypedState.{store_typing}
use Rattle.c0_stmt_code.proofs.PremisesOfFunctions.{lengths_fit, locals_declared, functions_are}
use Rattle.c0_runs.proofs.PremisesOfLowerCrates.{held_stays, typed_stays}
use Rattle.c0_runs.proofs.PremisesOfExpressions.{exprs}
use Rattle.c0_runs.proofs.EachStep.{steps, opened_of}
use Rattle.c0_runs.specs.Standing.{scope}
use Rattle.c0_runs.proofs.laws.steps_run.Goals as goal

pub returns : goal.returns
returns g c = λ fixed z debt item work h s sim.
    let opened = opened_of c.areas_hold.ensures g.M.Surroundings.Standing g.M.Surroundings.Entry (g.M.Surroundings.outer fixed) z debt item work h s sim in
    steps c.code_runs_join.ensures c.runs_compose.ensures g.M.Surroundings.Standing g.M.Surroundings.Entry (g.M.Surroundings.outer fixed) z (c.jumps_lead.ensures z.w z.sound) (c.straight_code_runs.ensures z.w z.sound)
    (held_stays (shapes z.p.unit) opened c.held_stays.ensures) (typed_stays z.p.unit c.parts_fit.ensures (λ objects. c.zeros_fit_their_types.ensures z.table z.p.unit z.well_formed (store_typing z.p.unit objects)) (locals_declared c.numbers_tell.ensures c.units_are_typed_or_faulty.ensures z.table z.p.unit z.well_formed)) (functions_are c.numbers_tell.ensures c.units_are_typed_or_faulty.ensures z.table z.p.unit z.well_formed)
    (exprs c.expressions_run.ensures.places c.expressions_run.ensures.given c.tests_run.ensures c.names_are_enough.ensures c.areas_hold.ensures c.facts_grow.ensures c.facts_stay.ensures g.M.Surroundings.Standing g.M.Surroundings.Entry (g.M.Surroundings.outer fixed) z)
    (λ f. lengths_fit c.codes_are_short.ensures (scope g.M.Surroundings.Standing g.M.Surroundings.Entry (g.M.Surroundings.outer fixed) z f)) (c.asm_bodies_run.ensures z.w z.sound) opened (c.objects_are_made.ensures z.w z.sound) (c.declared_types_have_words.ensures z.table z.p.unit z.well_formed) debt item work h s sim
