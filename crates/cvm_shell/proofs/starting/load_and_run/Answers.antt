use Rattle.run_scripts.specs.declared.session.StartPoint.TheVariants.{Loaded, Rom}
use Rattle.cvm_shell.proofs.StartAnswers.{same_need, same_rom_need, answers_from}
use Rattle.cvm_shell.proofs.SystemCalls.{calls_from, pasts_from}
use Rattle.cvm_shell.proofs.starting.load_and_run.Goals as goal

pub returns-in-Loaded-clause-answers : goal.returns-in-Loaded-clause-answers
returns-in-Loaded-clause-answers g c =
    let r = c.args.ready in
    let e = c.run_whole.ensures.loads in
    answers_from r c.args.session Loaded (same_need r.boot r.schedule) c.in-Loaded.is c.run_whole.result (g.D.Sectors.size c.args.disk.now) e.refused e.loaded

pub returns-in-Loaded-clause-calls : goal.returns-in-Loaded-clause-calls
returns-in-Loaded-clause-calls g c =
    let r = c.args.ready in
    calls_from r c.args.session Loaded (same_need r.boot r.schedule) c.in-Loaded.is g.O.Sink g.D.Sectors c.run_whole.result _ _ c.run_whole.ensures.script

pub returns-in-Loaded-clause-pasts : goal.returns-in-Loaded-clause-pasts
returns-in-Loaded-clause-pasts g c = let r = c.args.ready in pasts_from r c.args.session Loaded (same_need r.boot r.schedule) c.in-Loaded.is _ _ c.pasts_exist.ensures.loaded

pub returns-in-Rom-clause-answers : goal.returns-in-Rom-clause-answers
returns-in-Rom-clause-answers g c =
    let r = c.args.ready in
    let e = c.run_rom.ensures.loads in
    answers_from r c.args.session Rom (same_rom_need r.boot r.schedule) c.in-Rom.is c.run_rom.result (g.D.Sectors.size c.args.disk.now) e.refused e.loaded

pub returns-in-Rom-clause-calls : goal.returns-in-Rom-clause-calls
returns-in-Rom-clause-calls g c =
    let r = c.args.ready in
    calls_from r c.args.session Rom (same_rom_need r.boot r.schedule) c.in-Rom.is g.O.Sink g.D.Sectors c.run_rom.result _ _ c.run_rom.ensures.script

pub returns-in-Rom-clause-pasts : goal.returns-in-Rom-clause-pasts
returns-in-Rom-clause-pasts g c = let r = c.args.ready in pasts_from r c.args.session Rom (same_rom_need r.boot r.schedule) c.in-Rom.is _ _ c.pasts_exist.ensures.rom
