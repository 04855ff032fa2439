-- What the scripts of runs are made of: prints, reads and writes of sectors, so that what is so of these, and of one script behind another, is so of them.
use Rattle.std.specs.Prelude.{Option, Some, None, if◌then◌else◌}
use Rattle.std.proofs.Common.{ℕ, zero, suc, ◌+◌, ◌-◌, ◌/◌, Bool, true, false, List, [], ◌∷◌, ◌++◌, length, drop, sym, subst}
use Rattle.layer_map.specs.Map.{Map}
use Rattle.mips_table.specs.Device.{Environment, Pending, Idle, Reading, Writing}
use Rattle.mips_table.specs.Flat.{Flat}
use Rattle.mips_table.specs.Machine.{State}
use Rattle.mips_machine.specs.Steps.{before_count, script_of_step, due_if}
use Rattle.page_model.specs.Paging.{Pages}
use Rattle.cvm_model.specs.Cvm.{System, Cvm, Status, Running, Halted, Faulted, map_of}
use Rattle.cvm_model.specs.Kernel.{JournalEntry, Put}
use Rattle.cvm_model.specs.Primitives.{pages_of, user_of}
use Rattle.cvm_model.specs.Text.{cpu_text}
use Rattle.boot_turns.specs.declared.answers.View.{View}
use Rattle.boot_turns.specs.declared.answers.View.TheVariants.{Boot, Trace}
use Rattle.cvm_outside.specs.Script.{Call, Printed, Read, Wrote, scripts}
use Rattle.cvm_outside.proofs.RowsPut.{scripts-none, scripts-suc}
use Rattle.boot_turns.specs.Runs.{Run, Past, state_at, steps_made, has_ended, cvm_at}
use Rattle.boot_report.specs.Resident.{is_resident, page_reads}
use Rattle.boot_turns.specs.StepScript.{prints, page_of, copies_at, entry_reads, row_behind, entry_script, rows_script, step_script, steps_script}
use Rattle.boot_run.specs.LoadScript.{load_script, page_write_script as load_page}
use Rattle.boot_run.specs.Loading.{words_of_page}
use Rattle.sector_disk.specs.Ports.{transfer_script}
use Rattle.boot_run.specs.Closing.{opening_script, page_report_script, user_report_script, boot_report, trace_report, report_by, closing_script, says}
use Rattle.boot_run.specs.AnyScripts.{untold_rest}
use Rattle.boot_run.specs.RunScript.{rest_script, run_script}

-- it holds of no call, of one script behind another where it does of both, of a print and of a read
pub record Closed (P : List Call → Type 0) : Type 0 where
  pub none : P []
  pub both : (a b : List Call) → P a → P b → P (a ++ b)
  pub print : (text : Option (List ℕ)) → P (Printed text ∷ [])
  pub read : (q : ℕ) → P (Read q ∷ [])

module _ (P : List Call → Type 0) (c : Closed P) where
  pub of_scripts : (f : ℕ → List Call) (n : ℕ) → ((i : ℕ) → P (f i)) → P (scripts f n)
  of_scripts f zero h = subst P (sym (scripts-none f)) c.none
  of_scripts f (suc n) h = subst P (sym (scripts-suc f n)) (c.both (scripts f n) (f n) (of_scripts f n h) (h n))

  pub of_if : (b : Bool) (a : List Call) → P a → P (if b then a else [])
  of_if true a h = h
  of_if false a h = c.none

  of_prints : (x : List ℕ) → P (prints x)
  of_prints [] = c.none
  of_prints (b ∷ x) = c.print (Some (b ∷ x))

  of_reads : (m : Map) (s : State) (q : ℕ) → P (page_reads m s q)
  of_reads m s q = by (is_resident m s q)
    where
      by : (b : Bool) → P (if b then [] else Read q ∷ [])
      by true = c.none
      by false = c.read q

  of_entry : (m : Map) (s : State) (u : ℕ) (j : List JournalEntry) → P (entry_reads m s u j)
  of_entry m s u (Put address value ∷ rest) = of_reads m s (page_of m u (address / 4096))
  of_entry m s u other = c.none

  pub of_row : (r : Run) (p : Past) (u t k : ℕ) → P (entry_script r p u t k)
  of_row r p u t k =
      let read : List Call = entry_reads (map_of r.system.boot) (state_at r (suc t)) u (drop k (p.shown (suc t))) in
      c.both (if copies_at r u t then read else []) (prints (row_behind (p.shown (suc t)) k))
      (of_if (copies_at r u t) read (of_entry (map_of r.system.boot) (state_at r (suc t)) u (drop k (p.shown (suc t))))) (of_prints (row_behind (p.shown (suc t)) k))

  pub of_rows : (v : View) (r : Run) (p : Past) (t : ℕ) → P (rows_script v r p t)
  of_rows Boot r p t = of_prints _
  of_rows (Trace u) r p t = of_scripts (λ i. entry_script r p u t (length (p.shown t) + i)) (length (p.shown (suc t)) - length (p.shown t)) (λ i. of_row r p u t (length (p.shown t) + i))

  of_user : (m : Map) (s : State) (u : ℕ) (f : Flat) → P (user_report_script m s u f)
  of_user m s u f = c.both (says (cpu_text u f)) (scripts (page_report_script m s u f) (pages_of f)) (c.print _)
      (of_scripts (page_report_script m s u f) (pages_of f) (λ p. c.both (page_reads m s (page_of m u p)) _ (of_reads m s (page_of m u p)) (c.print _)))

  of_boot : (y : System) (s : State) (at : Cvm) (st : Status) → P (boot_report y s at st)
  of_boot y s at (Faulted f) = c.none
  of_boot y s at Running = c.both _ _ (c.print _) (of_scripts (λ i. user_report_script (map_of y.boot) s (i + 1) (user_of at.core.users (i + 1))) (length at.core.users) (λ i. of_user (map_of y.boot) s (i + 1) (user_of at.core.users (i + 1))))
  of_boot y s at Halted = c.both _ _ (c.print _) (of_scripts (λ i. user_report_script (map_of y.boot) s (i + 1) (user_of at.core.users (i + 1))) (length at.core.users) (λ i. of_user (map_of y.boot) s (i + 1) (user_of at.core.users (i + 1))))

  of_trace : (y : System) (s : State) (at : Cvm) (u : ℕ) (j : List JournalEntry) (st : Status) → P (trace_report y s at u j st)
  of_trace y s at u j (Faulted f) = c.print _
  of_trace y s at u j Running = c.both _ _ (c.print _) (of_user (map_of y.boot) s u (user_of at.core.users u))
  of_trace y s at u j Halted = c.both _ _ (c.print _) (of_user (map_of y.boot) s u (user_of at.core.users u))

  pub of_report : (v : View) (r : Run) (p : Past) (t : ℕ) → P (report_by v r p t)
  of_report Boot r p t = of_boot r.system (state_at r t) (cvm_at r p t) (cvm_at r p t).status
  of_report (Trace u) r p t = of_trace r.system (state_at r t) (cvm_at r p t) u (p.shown t) (cvm_at r p t).status

  pub of_opening : (v : View) (y : System) → P (opening_script v y)
  of_opening Boot y = c.none
  of_opening (Trace u) y = c.print _

  -- and of a write
  module _ (write : (q : ℕ) (words : List ℕ) → P (Wrote q words ∷ [])) where
    of_transfer : (p : Pending) (buffer : List ℕ) → P (transfer_script p buffer)
    of_transfer Idle buffer = c.none
    of_transfer (Reading zero q) buffer = c.read q
    of_transfer (Reading (suc n) q) buffer = c.none
    of_transfer (Writing zero q) buffer = write q buffer
    of_transfer (Writing (suc n) q) buffer = c.none

    of_due : (x : Environment) (s : State) → P (script_of_step x s)
    unfolding script_of_step
    of_due x s = by s.off
      where
        by : (o : Option ℕ) → P (due_if x s o)
        by None = of_transfer (before_count x s).pending (before_count x s).buffer
        by (Some word) = c.none

    pub of_steps : (r : Run) (p : Past) (t n : ℕ) → P (steps_script r p t n)
    of_steps r p t n = of_scripts (λ i. step_script r p (t + i)) n (λ i. c.both (script_of_step r.around (state_at r (t + i))) (rows_script r.view r p (t + i)) (of_due r.around (state_at r (t + i))) (of_rows r.view r p (t + i)))

    pub of_untold : (r : Run) → P (untold_rest r 0)
    of_untold r = of_scripts (λ i. script_of_step r.around (state_at r (0 + i)) ++ Printed None ∷ []) (steps_made r - 0)
        (λ i. c.both (script_of_step r.around (state_at r (0 + i))) (Printed None ∷ []) (of_due r.around (state_at r (0 + i))) (c.print None))

    pub of_load : (pages : Pages) (held : ℕ) → P (load_script pages held)
    of_load pages held = of_scripts (load_page pages) held (λ q. of_if (pages.live q) (Wrote q (words_of_page pages q) ∷ []) (write q _))

    pub of_rest : (r : Run) (p : Past) (t : ℕ) → P (rest_script r p t)
    of_rest r p t = c.both (steps_script r p t (steps_made r - t)) (if has_ended r then closing_script r p else []) (of_steps r p t (steps_made r - t))
        (of_if (has_ended r) (closing_script r p) (of_report r.view r p (steps_made r)))

    pub of_run : (r : Run) (load : List Call) (p : Past) → P load → P (run_script r load p)
    of_run r load p h = c.both (load ++ opening_script r.view r.system) (rest_script r p 0) (c.both load (opening_script r.view r.system) h (of_opening r.view r.system)) (of_rest r p 0)
