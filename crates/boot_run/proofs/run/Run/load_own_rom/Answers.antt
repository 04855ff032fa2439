use Rattle.std.proofs.Common.{ℕ, List, ◌∙◌, subst}
use Rattle.std.specs.Prelude.{IfOk}
use Rattle.boot_run.specs.Loaded.{IsLoaded, rom_load}
use Rattle.boot_run.proofs.run.Run.load_own_rom.Goals as goal

pub returns-clause-loaded : goal.returns-clause-loaded
returns-clause-loaded g c =
    subst (λ (rom : List ℕ). IfOk c.load_words.result (IsLoaded g.D.Sectors c.args.setup.layer c.args.setup.boot c.args.view c.args.setup.schedule
    (rom_load c.args.setup.boot c.args.setup.schedule rom) c.args.disk.now c.load_words.new.disk)) (c.as_slice.ensures.value ∙ c.in_ok-rom.ensures.words) c.load_words.ensures.loaded
