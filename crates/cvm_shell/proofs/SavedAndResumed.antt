-- A resume of what a save left is that boot as a whole: by the clause on resumes, of the file that the save put.
use Rattle.std.proofs.Common.{ℕ, ◌≤◌, ◌++◌, length, sym, subst, arith}
use Rattle.std.specs.List.{flat_map}
use Rattle.cvm_words.specs.Bytes.{word}
use Rattle.mips_machine.specs.Steps.{outside_of}
use Rattle.layer_contract.specs.Follows.{loaded}
use Rattle.layer_contract.specs.Starts.{user_sectors}
use Rattle.run_scripts.specs.RanFrom.{RanFrom}
use Rattle.boot_turns.specs.declared.answers.View.TheVariants as view
use Rattle.boot_run.specs.SavedRuns.{SavedAt, IsDisk}
use Rattle.boot_run.specs.SaveRoom.{FILE_ROOM}
use Rattle.run_scripts.specs.Plan.{whole}
use Rattle.run_scripts.specs.Boot.{booted, environment_of}
use Rattle.run_scripts.specs.Resumes.{IsHonestResume, SavedAndResumedAreBooted}

pub saved_and_resumed : SavedAndResumedAreBooted
saved_and_resumed c d s rows before first mid old new words status a clause asked l memory =
    let short : length (flat_map word a.words) ≤ FILE_ROOM = a.short in
    let honest : IsHonestResume words d s rows a.words a.after old new = record {
      asked = asked;
      files = l.files;
      bytes = flat_map word a.words;
      bytes_told = l.bytes_told;
      bytes_short = omega (arith, short);
      fits = a.fits d.boot.turns l.turns asked.turns_fit;
      sectors = l.sectors;
      enough = l.enough;
      served = l.served;
    } in
    let y = booted s rows in
    let disk : IsDisk old.disk.size before = subst (λ (n : ℕ). IsDisk n before) (sym l.size) a.disk in
    let saved : SavedAt (environment_of rows old) y (loaded y before) c.boot.turns c.boot.steps a.words a.after a.shown =
    subst (λ (n : ℕ). SavedAt (outside_of rows n) y (loaded y before) c.boot.turns c.boot.steps a.words a.after a.shown) (sym l.size) a.saved_at in
    let whole = (clause d s rows a.words a.after honest memory).joins before a.shown
    (record { turns = c.boot.turns; steps = c.boot.steps; disk = disk; fewer = l.steps; saved_at = saved }) in
    record {
      after = whole.after;
      text = whole.text;
      ending = whole.ending;
      sectors = whole.sectors;
      printed = whole.printed;
      status_is = whole.status_is;
      ran = subst (λ (n : ℕ). RanFrom (outside_of rows n) y (loaded y before) (user_sectors y) before whole.after view.Boot d.boot.turns d.boot.steps whole.ending (a.shown ++ whole.text)) l.size whole.ran;
      goes_on = a.goes_on;
    }
