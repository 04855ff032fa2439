use Rattle.std.proofs.Common.{◌≡◌, None, map}
use Rattle.cvm_outside.specs.Outside.{Files, Output, drive}
use Rattle.cvm_outside.specs.Script.{Performs}
use Rattle.boot_run.specs.LoadScript.{load_script}
use Rattle.boot_run.specs.LoadedPages.{disk_pages}
use Rattle.boot_run.proofs.pages.write_pages.Given as goal

abbrev pub invariant-loop-q : goal.invariant-loop-q
invariant-loop-q g l = record {
  script : (shelf : Files) (sink : Output) → Performs (load_script (disk_pages l.per (map (λ words. words.items) l.users) l.behind) l.q)
      (record { shelf = shelf; sink = sink; disk = drive g.D.Sectors l.fn.disk }) (record { shelf = shelf; sink = sink; disk = drive g.D.Sectors l.disk }) None;
  size : g.D.Sectors.size l.disk ≡ g.D.Sectors.size l.fn.disk;
}
