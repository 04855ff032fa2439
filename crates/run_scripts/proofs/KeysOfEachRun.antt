-- The keys, of each run that words ask for.
use Rattle.std.specs.Prelude.{Some}
use Rattle.std.proofs.Common.{ℕ, List, [], sym, ap, ◌∙◌, arith}
use Rattle.schedule_file.specs.Rows.{Rows}
use Rattle.mips_table.specs.Turns.{TurnLaws}
use Rattle.cvm_model.specs.Cvm.{UnitsDontMatter}
use Rattle.kernel_linker.specs.Accept.{ImageSystem}
use Rattle.run_scripts.specs.declared.session.Session.{Session}
use Rattle.run_scripts.specs.Plan.{Plan}
use Rattle.cvm_outside.specs.Outside.{Outside}
use Rattle.boot_turns.specs.Runs.{Run, steps_made, turns_at, cvm_at, lines_met}
use Rattle.run_scripts.specs.Boot.{booted, sectors_needed}
use Rattle.run_scripts.specs.SessionRuns.{pages_loaded, run_of}
use Rattle.run_scripts.specs.Ends.{session_load}
use Rattle.run_scripts.specs.AskedRuns.{Asked}
use Rattle.run_scripts.specs.Keys.{EndsAreOver, LawsOfRuns}
use Rattle.run_scripts.proofs.PromisesByRuns.{PastsAgree, ScriptsTellTheText, ScriptsStoreTheSectors, LoadsStoreTheStart, SectorsBehindStay}
use Rattle.boot_run.proofs.AbstractRuns.{turns_up_to}
use Rattle.run_scripts.proofs.RowsAlongRuns.{Known}
use Rattle.run_scripts.proofs.ScriptsTell.{quiet_load}
use Rattle.run_scripts.proofs.ReportsTell.{run_tells}
use Rattle.run_scripts.proofs.LoadMakesSectors.{load_makes}
use Rattle.run_scripts.proofs.StoredRuns.{run_leaves}

pub pasts_agree : UnitsDontMatter → TurnLaws → PastsAgree
pasts_agree one count r p o laws is other t le =
    let few = turns_up_to count r t (steps_made r) le in
    one r.system (lines_met r) (turns_at r t) (cvm_at r p t) (cvm_at r o t) laws (is.turns (turns_at r t) few) (other.turns (turns_at r t) few)

module _ (law : LawsOfRuns) where
  pub known : (words : List (List ℕ)) (plan : Plan) (session : Session) (s : ImageSystem) (rows : Rows) (before : List (List ℕ)) (old : Outside) → Asked words plan session s rows before old →
      Known (run_of session s rows old.disk.size before)
  known words plan session s rows before old a =
      let w = law.start words plan session s rows before old a in
      record {
        late = w.late;
        held = sectors_needed session s rows;
        machines = law.machines s.unit _ _ _ w.late _ w.starts;
        traces = λ u some most. law.traces s.unit _ _ _ w.late _ u w.starts some most;
        core = w.starts.boots.fits.core;
        user = a.user;
        count = law.count;
        rows = law.rows;
      }

  pub ends_are_over : EndsAreOver
  ends_are_over words plan session s rows before old a = (known words plan session s rows before old a).machines.ends session.turns session.steps

  pub sectors_behind_stay : SectorsBehindStay
  sectors_behind_stay words plan session s rows before old a t le =
      let w = law.start words plan session s rows before old a in
      let m = law.machines s.unit _ _ _ w.late _ w.starts in
      λ q few. m.beyond t q few ∙ w.beyond q few

  pub scripts_tell_the_text : ScriptsTellTheText
  scripts_tell_the_text words plan session s rows before old a p is =
      let r : Run = run_of session s rows old.disk.size before in
      let h = run_tells r (known words plan session s rows before old a) p is (session_load session s rows) (quiet_load (pages_loaded session.start (booted s rows)) (sectors_needed session s rows) []) in
      h.told ∙ ap (λ (l : List ℕ). Some l) (sym h.is)

  pub loads_store_the_start : LoadsStoreTheStart
  loads_store_the_start words plan session s rows before old a =
      let w = law.start words plan session s rows before old a in
      let many = a.disk.size in
      let enough = a.enough in
      load_makes (booted s rows) w.starts.boots.fits.range.params.a_page session.start before (omega (arith, many, enough))

  pub scripts_store_the_sectors : ScriptsStoreTheSectors
  scripts_store_the_sectors words plan session s rows before old a p is =
      run_leaves law.count (run_of session s rows old.disk.size before) (session_load session s rows) p before (loads_store_the_start words plan session s rows before old a)
