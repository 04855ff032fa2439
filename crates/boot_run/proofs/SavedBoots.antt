-- A boot that is to be saved, by what its load and its run come to.
-- It serves `run_to_save` alone.
use Rattle.std.proofs.Common.{◌≡◌, ℕ, ◌+◌, ◌≤◌, Option, Some, List, Ok, arith, refl, subst}
use Rattle.mips_table.specs.Machine.{State}
use Rattle.schedule_file.specs.Rows.{Rows}
use Rattle.mips_machine.specs.Steps.{outside_of}
use Rattle.cvm_model.specs.Cvm.{Cvm, first_cvm}
use Rattle.layer_contract.specs.declared.boot.Boot.{Boot as Booted}
use Rattle.layer_contract.specs.Follows.{loaded}
use Rattle.layer_contract.specs.Starts.{user_sectors}
use Rattle.boot_turns.specs.declared.answers.View.{View}
use Rattle.boot_turns.specs.declared.answers.View.TheVariants.{Boot}
use Rattle.boot_run.specs.Loading.{system_of}
use Rattle.boot_run.specs.LoadEnds.{Kept, IsFresh}
use Rattle.boot_run.specs.declared.whole.RunEnd.{RunEnd}
use Rattle.boot_run.specs.Saving.{saved_run, SaveStops, RunsToStop, WholeStops}
use Rattle.boot_run.specs.TurnCalls.{Around, run_around, ReadyAt, StandsReady}
use Rattle.boot_run.specs.Pieces.{FirstAt, Bootable}

-- a loaded run to where it stops, of this boot, over these rows and with this view
abbrev StopsAt : {L : Type 0} → Booted → Rows → View → ℕ → (new : Kept L) → (turns : ℕ) → Around → Option (List (List ℕ)) → RunEnd → Type 0
StopsAt b rows v count new turns before retold e = (s0 : State) (delay bound : ℕ) (old : List (List ℕ)) (k t wanted total : ℕ) (c : Cvm) (now : List (List ℕ)) →
    Bootable b rows count (system_of b rows) s0 delay bound old → v ≡ Boot →
    FirstAt (outside_of rows count) s0 k t → 1 ≤ wanted → k + turns ≡ wanted → before.budget + t ≡ total → ReadyAt (outside_of rows count) (system_of b rows) s0 v k t c before → retold ≡ Some now →
    SaveStops (outside_of rows count) (system_of b rows) s0 wanted total (saved_run new) now e

module _ {L : Type 0} (layer : L) (b : Booted) (rows : Rows) (need count size : ℕ) (turns steps : ℕ) (told mid retold : Option (List (List ℕ))) (r new : Kept L) (e : RunEnd)
    (fresh : IsFresh layer b Boot rows need count r) (same : size ≡ count) (some : 1 ≤ turns)
    (premises : (old : List (List ℕ)) → told ≡ Some old → Bootable b rows count (system_of b rows) (loaded (system_of b rows) old) 1 (user_sectors (system_of b rows)) old)
    (ready : StandsReady (system_of b rows) (loaded (system_of b rows)) told mid r)
    (runs : RunsToStop size r new turns (run_around r mid steps) retold e) where
  stops_at : StopsAt b rows Boot count new turns (run_around r mid steps) retold e
  stops_at =
      subst (λ (n : ℕ). StopsAt b rows Boot n new turns (run_around r mid steps) retold e) same
      (subst (λ (w : View). StopsAt b rows w size new turns (run_around r mid steps) retold e) fresh.view_is
      (subst (λ (q : Rows). StopsAt b q r.view size new turns (run_around r mid steps) retold e) fresh.rows_are
      (subst (λ (c : Booted). StopsAt c r.machine.rows r.view size new turns (run_around r mid steps) retold e) fresh.boot_is runs)))

  pub saves_so : WholeStops b rows count turns steps told retold (Ok (new, e))
  saves_so = λ old now is re.
      stops_at (loaded (system_of b rows) old) 1 (user_sectors (system_of b rows)) old 0 0 turns steps (first_cvm (system_of b rows)) now (premises old is) refl
      (record { before = λ j h. absurd (omega (arith, h)); on = λ j h. absurd (omega (arith, h)) }) some (omega arith) (omega arith)
      (subst (λ (w : View). ReadyAt (outside_of rows count) (system_of b rows) (loaded (system_of b rows) old) w 0 0 (first_cvm (system_of b rows)) (run_around r mid steps)) fresh.view_is (ready (outside_of rows count) old steps is)) re
