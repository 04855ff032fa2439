-- The sectors behind a run's are as before, wherever a call of it fails.
use Rattle.std.specs.Prelude.{⊤, Option, Some, None, slice_set, if◌then◌else◌}
use Rattle.std.proofs.Common.{◌≡◌, ℕ, zero, suc, ◌+◌, ◌<◌, ◌≤◌, length, Bool, true, false, List, [], ◌∷◌, ◌++◌, refl, sym, ap, ◌∙◌, subst, arith, get_or-set_other}
use Rattle.cvm_outside.specs.Told.{with_sector}
use Rattle.mips_table.specs.Device.{Environment, Pending, Idle, Reading, Writing}
use Rattle.mips_table.specs.Machine.{State}
use Rattle.mips_machine.specs.Steps.{before_count, script_of_step, due_if}
use Rattle.page_model.specs.Paging.{Pages}
use Rattle.sector_disk.specs.Ports.{transfer_script}
use Rattle.layer_contract.specs.Starts.{Beyond}
use Rattle.boot_turns.specs.Torn.{Torn, TornBy}
use Rattle.boot_turns.specs.Runs.{Run, Past, state_at, steps_made}
use Rattle.boot_turns.specs.StepScript.{entry_script}
use Rattle.boot_run.specs.LoadScript.{load_script, page_write_script as load_page}
use Rattle.boot_run.specs.Loading.{words_of_page}
use Rattle.cvm_outside.specs.Outside.{Outside, Drive}
use Rattle.cvm_outside.specs.Script.{Call, Printed, Read, Wrote, Got, Stored, Who, TheDisk, Performs, done, breaks, goes_on, CallDone, CallFailed, WritesNoSector, scripts}
use Rattle.cvm_outside.proofs.RowsPut.{scripts-none, scripts-suc, unwritten}
use Rattle.boot_run.specs.Closing.{closing_script}
use Rattle.run_scripts.specs.Faults.{KeepsBehind, Stand, AfterDisk, in_load, in_transfer, in_rows, in_report, AfterSink}
use Rattle.run_scripts.specs.Faults as fault
use Rattle.run_scripts.proofs.BrokenScripts.{AllOf, all_scripts, all_if, not_none}
use Rattle.run_scripts.proofs.ScriptsMadeOf.{of_report, of_row}
use Rattle.boot_run.proofs.AbstractRuns.{on_before}
use Rattle.run_scripts.proofs.StoredRuns.{quiet}
use Rattle.mips_table.specs.Turns.{TurnLaws}

-- A SCRIPT that writes sectors below a number alone
abbrev WritesBelow : ℕ → List Call → Type 0
WritesBelow held [] = ⊤
WritesBelow held (Wrote q words ∷ rest) = (q < held) × WritesBelow held rest
WritesBelow held (call ∷ rest) = WritesBelow held rest

below_both : (held : ℕ) (a b : List Call) → WritesBelow held a → WritesBelow held b → WritesBelow held (a ++ b)
below_both held [] b h k = k
below_both held (Wrote q ws ∷ a) b h k = (h.0, below_both held a b h.1 k)
below_both held (Printed t ∷ a) b h k = below_both held a b h k
below_both held (Read q ∷ a) b h k = below_both held a b h k
below_both held (Got n ∷ a) b h k = below_both held a b h k
below_both held (Stored n bs ∷ a) b h k = below_both held a b h k

load_below : (pages : Pages) (held n : ℕ) → n ≤ held → WritesBelow held (load_script pages n)
load_below pages held zero le = subst (WritesBelow held) (sym (scripts-none (load_page pages))) tt
load_below pages held (suc n) le =
    subst (WritesBelow held) (sym (scripts-suc (load_page pages) n))
    (below_both held (scripts (load_page pages) n) (load_page pages n) (load_below pages held n (omega (arith, le))) (one (pages.live n)))
  where
    one : (b : Bool) → WritesBelow held (if b then Wrote n (words_of_page pages n) ∷ [] else [])
    one true = (omega (arith, le), tt)
    one false = tt

pub load_calls_disk : (pages : Pages) (n : ℕ) → AllOf TheDisk (load_script pages n)
load_calls_disk pages n = all_scripts TheDisk (load_page pages) n (λ q. all_if TheDisk (pages.live q) (Wrote q (words_of_page pages q) ∷ []) (refl, tt))

module _ (held : ℕ) where
  same_behind : (ss : List (List ℕ)) (old new : Outside) → new.disk.sectors ≡ old.disk.sectors → old.disk.sectors ≡ Some ss → KeepsBehind held ss new
  same_behind ss old new e s = record { sectors = ss; are = e ∙ s; beyond = λ j le. refl }

  put_behind : (ss : List (List ℕ)) (q : ℕ) (words : List ℕ) (old new : Outside) → q < held → new.disk.sectors ≡ with_sector old.disk.sectors q words → old.disk.sectors ≡ Some ss → KeepsBehind held ss new
  put_behind ss q words old new lt e s = record {
    sectors = slice_set ss q words;
    are = e ∙ ap (λ (o : Option (List (List ℕ))). with_sector o q words) s;
    beyond = λ j le. get_or-set_other ss q j words [] (λ same. absurd (omega (arith, lt, le, same)));
  }

  torn_behind : (c : Call) (rest : List Call) (ss : List (List ℕ)) (old new : Outside) → WritesBelow held (c ∷ rest) → CallFailed c old new → old.disk.sectors ≡ Some ss → KeepsBehind held ss new
  torn_behind (Printed t) rest ss old new w f s = same_behind ss old new (ap (λ (o : Outside). o.disk.sectors) f.2) s
  torn_behind (Read q) rest ss old new w f s = same_behind ss old new (ap (λ (o : Outside). o.disk.sectors) f.1) s
  torn_behind (Wrote q ws) rest ss old new w f s = put_behind ss q f.1.0 old new w.0 (ap (λ (o : Outside). o.disk.sectors) f.1.1) s
  torn_behind (Got n) rest ss old new w f s = same_behind ss old new (ap (λ (o : Outside). o.disk.sectors) f.2) s
  torn_behind (Stored n bs) rest ss old new w f s = same_behind ss old new (ap (λ (o : Outside). o.disk.sectors) f.3) s

  more_behind : (c : Call) (rest : List Call) (ss : List (List ℕ)) (old mid : Outside) → WritesBelow held (c ∷ rest) → CallDone c old mid → old.disk.sectors ≡ Some ss → WritesBelow held rest × KeepsBehind held ss mid
  more_behind (Printed t) rest ss old mid w d s = (w, same_behind ss old mid (ap (λ (o : Outside). o.disk.sectors) d.1) s)
  more_behind (Read q) rest ss old mid w d s = (w, same_behind ss old mid (ap (λ (o : Outside). o.disk.sectors) d.0) s)
  more_behind (Wrote q ws) rest ss old mid w d s = (w.1, put_behind ss q ws old mid w.0 (ap (λ (o : Outside). o.disk.sectors) d.0) s)
  more_behind (Got n) rest ss old mid w d s = (w, same_behind ss old mid (ap (λ (o : Outside). o.disk.sectors) d.3) s)
  more_behind (Stored n bs) rest ss old mid w d s = (w, same_behind ss old mid (ap (λ (o : Outside). o.disk.sectors) d.3) s)

  keeps_behind : (a : List Call) (old new : Outside) (b : Option Who) → WritesBelow held a → Performs a old new b → (ss : List (List ℕ)) → old.disk.sectors ≡ Some ss → KeepsBehind held ss new
  keeps_behind a old new b w (done _) ss s = same_behind ss old old refl s
  keeps_behind a old new b w (breaks c rest _ _ f) ss s = torn_behind c rest ss old new w f s
  keeps_behind a old new b w (goes_on c rest _ mid _ _ d p) ss s =
      let h = more_behind c rest ss old mid w d s in
      let k = keeps_behind rest mid new b h.0 p h.1.sectors h.1.are in
      record { sectors = k.sectors; are = k.are; beyond = λ j le. k.beyond j le ∙ h.1.beyond j le }

-- A TRANSFER that failed left a torn sector
record TornTo (now : Outside) (T : List (List ℕ) → Type 0) : Type 0 where
  pub sectors : List (List ℕ)
  pub are : now.disk.sectors ≡ Some sectors
  pub torn : T sectors

torn_transfer : (p : Pending) (buffer : List ℕ) (ss : List (List ℕ)) (mid new : Outside) → mid.disk.sectors ≡ Some ss → Performs (transfer_script p buffer) mid new (Some TheDisk) → TornTo new (TornBy p ss)
torn_transfer Idle buffer ss mid new s p = absurd (not_none mid new TheDisk p)
torn_transfer (Reading (suc n) q) buffer ss mid new s p = absurd (not_none mid new TheDisk p)
torn_transfer (Writing (suc n) q) buffer ss mid new s p = absurd (not_none mid new TheDisk p)
torn_transfer (Reading zero q) buffer ss mid new s (breaks c rest _ _ f) = record { sectors = ss; are = ap (λ (o : Outside). o.disk.sectors) f.1 ∙ s; torn = refl }
torn_transfer (Reading zero q) buffer ss mid new s (goes_on c rest _ at _ _ d p) = absurd (not_none at new TheDisk p)
torn_transfer (Writing zero q) buffer ss mid new s (breaks c rest _ _ f) =
    record { sectors = slice_set ss q f.1.0; are = ap (λ (o : Outside). o.disk.sectors) f.1.1 ∙ ap (λ (o : Option (List (List ℕ))). with_sector o q f.1.0) s; torn = (f.1.0, refl) }
torn_transfer (Writing zero q) buffer ss mid new s (goes_on c rest _ at _ _ d p) = absurd (not_none at new TheDisk p)

torn_due : (x : Environment) (s : State) (mid new : Outside) → s.off ≡ None → mid.disk.sectors ≡ Some s.device.sectors → Performs (script_of_step x s) mid new (Some TheDisk) → TornTo new (Torn x s)
unfolding script_of_step
torn_due x s mid new on e p =
    torn_transfer (before_count x s).pending (before_count x s).buffer s.device.sectors mid new e
    (subst (λ (o : Option ℕ). Performs (due_if x s o) mid new (Some TheDisk)) on p)

-- OF A RUN
module _ (count : TurnLaws) (r : Run) (held : ℕ) (before : List (List ℕ)) (stays : (t : ℕ) → t ≤ steps_made r → Beyond held before (state_at r t).device.sectors) where
  pub stand_behind : (t : ℕ) (new : Outside) → t ≤ steps_made r → Stand r t new → KeepsBehind held before new
  stand_behind t new le e = record { sectors = (state_at r t).device.sectors; are = e; beyond = stays t le }

  pub sink_behind : (Reports : Type 0) (p : Past) (old new : Outside) → AfterSink Reports r p old new → KeepsBehind held before new
  sink_behind R p old new (fault.in_opening u v s w) = stand_behind 0 new (omega arith) s
  sink_behind R p old new (fault.in_rows t lt ne e s w) = stand_behind (suc t) new (omega (arith, lt)) s
  sink_behind R p old new (fault.in_report g s w) = stand_behind (steps_made r) new (omega arith) s

  pub disk_behind : (pages : Pages) (torn : (t : ℕ) (now : List (List ℕ)) → (state_at r t).off ≡ None → Torn r.around (state_at r t) now → Beyond held before now) (Reports : Type 0) (p : Past) (old new : Outside) →
      old.disk.sectors ≡ Some before → AfterDisk Reports r (load_script pages held) p old new → KeepsBehind held before new
  disk_behind pages torn R p old new e (in_load mid s q w) =
      keeps_behind held (load_script pages held) mid new (Some TheDisk) (load_below pages held held (omega arith)) q before (ap (λ (d : Drive). d.sectors) s ∙ e)
  disk_behind pages torn R p old new e (in_transfer t mid lt s n q w) =
      let h = torn_due r.around (state_at r t) mid new (on_before count r t lt) s q in
      record { sectors = h.sectors; are = h.are; beyond = torn t h.sectors (on_before count r t lt) h.torn }
  disk_behind pages torn R p old new e (in_rows u t k mid v lt less s n q w) =
      stand_behind (suc t) new (omega (arith, lt))
      (unwritten (entry_script r p u t (length (p.shown t) + k)) mid new (Some TheDisk) (of_row WritesNoSector quiet r p u t (length (p.shown t) + k)) q ∙ s)
  disk_behind pages torn R p old new e (in_report mid g s n h q w) =
      stand_behind (steps_made r) new (omega arith) (unwritten (closing_script r p) mid new (Some TheDisk) (of_report WritesNoSector quiet r.view r p (steps_made r)) q ∙ s)
