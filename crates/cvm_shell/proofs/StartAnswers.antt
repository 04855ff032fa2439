-- What a call answers that loads a system for its session's start and runs it, from what the two calls of boot_run say. These count users, pages and
-- words of what is booted; the claims count those of its system.
use Rattle.std.proofs.Common.{◌≡◌, ℕ, ◌*◌, ◌+◌, ◌/◌, List, sym, ap, length, subst, Some, None}
use Rattle.std.specs.Prelude.{All, Option, IfSome, Result, IfOk, IfErr}
use Rattle.std.proofs.lemmas.List.{length-map}
use Rattle.schedule_file.specs.Rows.{Rows}
use Rattle.layer_contract.specs.declared.boot.Boot.{Boot as Booted}
use Rattle.boot_turns.specs.declared.answers.View.{View}
use Rattle.boot_run.specs.LoadEnds.{pages_needed, rom_needed, HasDiskRoom, LoadFails}
use Rattle.boot_run.specs.declared.load.LoadFault.{LoadFault}
use Rattle.boot_run.specs.declared.whole.RunEnd.{RunEnd}
use Rattle.kernel_linker.specs.Accept.{image_system}
use Rattle.boot_run.specs.RunEnds.{SeesUser}
use Rattle.boot_run.specs.SavedRuns.{IsDisk}
use Rattle.boot_run.proofs.PremisesOfBoots.{are_pages}
use Rattle.cvm_outside.specs.Told.{IsSector}
use Rattle.cvm_shell.specs.declared.boot.Ready.{Ready}
use Rattle.run_scripts.specs.declared.session.Session.{Session}
use Rattle.run_scripts.specs.declared.session.StartPoint.{StartPoint}
use Rattle.run_scripts.specs.declared.session.StartPoint.TheVariants.{Loaded, Rom}
use Rattle.run_scripts.specs.Boot.{booted, held_of}
use Rattle.cvm_shell.specs.Stages.{CallAnswers}

-- the users are counted alike
pub same_count : (b : Booted) → length b.users.items ≡ length (image_system b).users
same_count b = sym (length-map b.users.items (λ u. u.items))

-- and so are their pages
pub same_need : (b : Booted) (rows : Rows) → pages_needed b ≡ held_of Loaded (booted (image_system b) rows)
same_need b rows = ap (λ (n : ℕ). n * b.params.pages) (same_count b)

pub same_rom_need : (b : Booted) (rows : Rows) → rom_needed b ≡ held_of Rom (booted (image_system b) rows)
same_rom_need b rows = ap (λ (n : ℕ). n + (length b.words.items + 1023) / 1024) (same_need b rows)

-- a run of this session but for its start
abbrev pub from : StartPoint → Session → Session
from start session = record { start = start; view = session.view; turns = session.turns; steps = session.steps }

-- the users are counted alike
pub same_sight : (booted : Booted) (v : View) → SeesUser v (length booted.users.items) → SeesUser v (length (image_system booted).users)
same_sight booted v = subst (SeesUser v) (same_count booted)

-- what a call says of a run that needs so many sectors, at its session's start
module _ {need : ℕ} (r : Ready) (session : Session) (start : StartPoint) (same : need ≡ held_of start (booted (image_system r.boot) r.schedule)) (is : session.start ≡ start) where
  pub answers_from : (answer : Result RunEnd LoadFault) (size : ℕ) → IfErr answer (LoadFails r.boot session.view need size)
      → IfOk answer (λ e. HasDiskRoom r.boot session.view need size) → CallAnswers r session size answer
  answers_from answer size refused loaded =
      subst (λ (a : StartPoint). CallAnswers r (from a session) size answer) (sym is) (record {
        refused = subst (λ (n : ℕ). IfErr answer (LoadFails r.boot session.view n size)) same refused;
        loaded = subst (λ (n : ℕ). IfOk answer (λ e. HasDiskRoom r.boot session.view n size)) same loaded;
      })

-- the sectors that are told are a disk's
pub told_disk : (count : ℕ) (told : Option (List (List ℕ))) → IfSome told (λ ss. length ss ≡ count) → IfSome told (All IsSector) → IfSome told (IsDisk count)
told_disk count None sized sectors = tt
told_disk count (Some ss) sized sectors = record { size = sized; each = are_pages ss sectors }
