-- The script of a save, by that of its run and by the put of its file.
use Rattle.std.proofs.Common.{◌≡◌, ◌≢◌, ℕ, ◌*◌, ◌+◌, ◌-◌, ◌≤◌, ◌<◌, ◌^◌, Bool, true, false, List, [], ◌++◌, length, append-nil, append_assoc, refl, sym, ap, ◌∙◌, subst, arith, inl, inr, Some, None, Ok, Err}
use Rattle.std.specs.Prelude.{Option, Result, OnOk, OnErr, IsErrOf, IsSome, slice_index, slice_set, if◌then◌else◌}
use Rattle.std.specs.Option.{option_map}
use Rattle.std.specs.List.{flat_map}
use Rattle.cvm_words.specs.Bytes.{word}
use Rattle.cvm_outside.specs.Causes.{ShelfCounts}
use Rattle.cvm_outside.specs.Told.{IsCutOff, retold, with_sector}
use Rattle.cvm_outside.specs.Outside.{Outside, Files, Output, Drive, files, drive, no_files, output}
use Rattle.cvm_outside.specs.Script.{Call, Printed, Read, Wrote, Got, Stored, Who, TheSink, TheDisk, TheShelf, Performs, done, breaks, goes_on, CallDone, CallFailed, ShelfCalled}
use Rattle.cvm_outside.specs.declared.shelf.Shelf as shelf_of
use Rattle.cvm_outside.specs.declared.sink.Sink as sink_of
use Rattle.cvm_outside.specs.declared.sectors.Sectors as sectors_of
use Rattle.cvm_outside.specs.declared.shelf.ShelfFault.{ShelfFault}
use Rattle.cvm_outside.specs.declared.shelf.ShelfFault.TheVariants.{Failed, TooLong, Memory as NoMemory}
use Rattle.cvm_outside.proofs.ScriptsFollow.{both, first}
use Rattle.cvm_outside.proofs.RowsPut.{same_script}
use Rattle.schedule_file.specs.Rows.{Rows}
use Rattle.mips_table.specs.Device.{Environment}
use Rattle.mips_table.specs.Machine.{State, run}
use Rattle.mips_table.specs.Turns.{complete, end_within, lines_of_turn, TurnLaws}
use Rattle.mips_machine.specs.Saved.{saved}
use Rattle.mips_machine.specs.Steps.{outside_of}
use Rattle.layer_map.specs.Map.{memory_frames}
use Rattle.c0_tree.specs.Tree.{CUnit}
use Rattle.c0_tree.specs.View.{unit_view}
use Rattle.c0_meaning.specs.TypedState.{IsTypedState}
use Rattle.cvm_model.specs.Cvm.{System, Status, Running, Halted, Faulted, Cvm, IsCvm, map_of}
use Rattle.layer_contract.specs.declared.boot.Boot.{Boot as Booted}
use Rattle.layer_contract.specs.Boots.{boot_of}
use Rattle.layer_contract.specs.Follows.{loaded}
use Rattle.layer_contract.specs.Starts.{user_sectors}
use Rattle.boot_turns.specs.RunMachines.{RunMachines, MachinesRun}
use Rattle.boot_turns.specs.Runs.{Run, Past, IsPast, steps_made, has_ended, cvm_at}
use Rattle.boot_turns.specs.StepScript.{steps_script}
use Rattle.boot_turns.specs.declared.answers.View.TheVariants.{Boot}
use Rattle.saved_file.specs.Resumable.{CanBeResumed}
use Rattle.boot_run.specs.declared.load.LoadFault.{LoadFault}
use Rattle.boot_run.specs.declared.load.LoadFault.TheVariants as load
use Rattle.boot_run.specs.declared.whole.RunEnd.{RunEnd}
use Rattle.boot_run.specs.declared.whole.RunEnd.TheVariants as ends
use Rattle.boot_run.specs.declared.whole.RunEnd.TheVariants.{Stopped, SinkFault, ShelfFault as NotPut}
use Rattle.boot_run.specs.LoadEnds.{Kept, pages_needed}
use Rattle.boot_run.specs.Loading.{system_of}
use Rattle.boot_run.specs.RunCalls.{run_at, loads, of_end}
use Rattle.boot_run.specs.Closing.{says, closing_script}
use Rattle.boot_run.specs.RunScript.{saved_words, saved_row, saved_bytes, put_script, leaving_script, save_script}
use Rattle.boot_run.specs.SaveCalls.{SaveScript, unless_on, stop_script, stop_by, due_stop}
use Rattle.boot_run.specs.SavedFiles.{wanted_of}
use Rattle.boot_run.specs.SavedRuns.{SavedAt, IsDisk, AreDisk}
use Rattle.boot_run.specs.Saving.{saved_run, WholeStops}
use Rattle.boot_run.specs.SaveRoom.{most_words}
use Rattle.boot_run.proofs.SavedTakenUp.{complete_there}
use Rattle.machine_save.specs.SaveCalls.{PutCalls, SomeLeft, SavedScript}
use Rattle.machine_save.specs.SavedBoots.{AreTakenUp, CanBoot}

-- files beside a sink and a disk
abbrev pub beside : Output → Drive → Files → Outside
beside sink disk shelf = record { shelf = shelf; sink = sink; disk = disk }

-- ONE PUT of a file, by what a shelf says of it
pub record OnePut (name bytes : List ℕ) (old new : Files) (r : Result (Unit {0}) ShelfFault) : Type 0 where
  pub others : (n : List ℕ) → n ≢ name → new.file n ≡ old.file n
  pub whole : OnOk r (new.file name ≡ retold (old.file name) bytes)
  pub part : OnErr r (IsCutOff (old.file name) bytes (new.file name))
  pub few : (IsErrOf r TooLong → ⊥) × (IsErrOf r NoMemory → ⊥)
  pub taken : new.taken ≡ old.taken
  pub count : ShelfCounts old.faults new.faults r
  pub called : ShelfCalled old new

pub put_does : (name bytes : List ℕ) (sink : Output) (disk : Drive) (old new : Files) → OnePut name bytes old new (Ok tt) → CallDone (Stored name bytes) (beside sink disk old) (beside sink disk new)
put_does name bytes sink disk old new p = (p.others, p.whole, p.count.cases, ap (λ (t : ℕ). beside sink disk (record new { taken = t })) p.taken, p.called)

pub put_fails : (name bytes : List ℕ) (sink : Output) (disk : Drive) (old new : Files) (f : ShelfFault) → OnePut name bytes old new (Err f) → CallFailed (Stored name bytes) (beside sink disk old) (beside sink disk new)
put_fails name bytes sink disk old new Failed p =
    (p.others, p.part, p.count.cases, ap (λ (t : ℕ). beside sink disk (record new { taken = t })) p.taken, p.called)
put_fails name bytes sink disk old new TooLong p = absurd (p.few.0 refl)
put_fails name bytes sink disk old new NoMemory p = absurd (p.few.1 refl)

-- THE WORDS of a run that stopped are those of its machine at its last step
module _ (counts : TurnLaws) (x : Environment) (y : System) (s : State) (late held : ℕ) (m : RunMachines x y s late held) (turns steps : ℕ) (p : Past) (past : IsPast (run_at x y s Boot turns steps) p) where
  pub same_words : (words : List ℕ) (now : List (List ℕ)) (shown : List ℕ) → SavedAt x y s turns steps words now shown → words ≡ saved_words (run_at x y s Boot turns steps) p
  same_words words now shown w =
      let e : end_within x s turns steps ≡ w.at = counts.ends x s turns steps w.at w.end w.within in
      let n : complete x s (end_within x s turns steps) ≡ turns = ap (complete x s) e ∙ complete_there x s turns w.at w.end w.on in
      let is : IsCvm y (lines_of_turn x s) turns (p.cvm (complete x s (end_within x s turns steps))) =
      subst (λ (k : ℕ). IsCvm y (lines_of_turn x s) k (p.cvm (complete x s (end_within x s turns steps)))) n (past.turns (complete x s (end_within x s turns steps)) (omega arith)) in
      let c : p.cvm (complete x s (end_within x s turns steps)) ≡ w.past = m.same turns (p.cvm (complete x s (end_within x s turns steps))) w.past is w.cvm in
      w.words_are ∙ sym (
      ap (λ (t : ℕ). saved y.input (run x s t) (complete x s (end_within x s turns steps)) (p.cvm (complete x s (end_within x s turns steps))).core.current) e
      ∙ ap (λ (k : ℕ). saved y.input (run x s w.at) k (p.cvm (complete x s (end_within x s turns steps))).core.current) n
      ∙ ap (λ (q : Cvm). saved y.input (run x s w.at) turns q.core.current) c)

-- and they have room
pub has_room : {L : Type 0} (b : Booted) (rows : Rows) (count : ℕ) (old now : List (List ℕ)) (turns steps room : ℕ) (r : Kept L) (shown : List ℕ) → AreTakenUp b rows count → pages_needed b ≤ count → IsDisk count old → 1 ≤ turns → turns < 2 ^ 32 → steps < 2 ^ 64
    → room ≡ most_words (memory_frames (map_of (boot_of b))) → SavedAt (outside_of rows count) (system_of b rows) (loaded (system_of b rows) old) turns steps (saved_run r) now shown → (length (saved_run r) ≤ room) × (r.turns < 2 ^ 32)
has_room b rows count old now turns steps room r shown up enough disk some bits limit same at =
    let can : CanBeResumed (wanted_of (boot_of b) rows.inputs turns) (saved_run r) = (up old now turns steps turns (saved_run r) shown enough disk at some (omega arith) bits limit).0 in
    let whole : length (saved_run r) ≡ 1080 + slice_index (saved_run r) 55 + 1024 * memory_frames (map_of (boot_of b)) = can.saved.whole in
    let log : slice_index (saved_run r) 55 ≤ 4096 = can.saved.log in
    let told : r.turns ≡ turns = ap (λ (l : List ℕ). slice_index l 5) at.words_are in
    (omega (arith, whole, log, same), omega (arith, told, bits))

-- THE SCRIPT of a save is that of its run, up to where it stops, and behind it the put of its file where it is left to go on
abbrev pub leave_script : (name : List ℕ) → Run → Past → RunEnd → List Call
leave_script name r p Stopped = put_script name (saved_bytes r p)
leave_script name r p other = []

parts : (name : List ℕ) (r : Run) (p : Past) (ended : Bool) (st : Status) →
    (if ended then unless_on st (closing_script r p) else []) ++ leave_script name r p (stop_by ended st) ≡ (if ended then leaving_script name r p st else [])
parts name r p false Running = refl
parts name r p false Halted = refl
parts name r p false (Faulted f) = refl
parts name r p true Running = refl
parts name r p true Halted = append-nil (closing_script r p)
parts name r p true (Faulted f) = append-nil (closing_script r p)

script_is : (name : List ℕ) (r : Run) (begin : List Call) (p : Past) → begin ++ stop_script r p 0 ++ leave_script name r p (due_stop r p) ≡ save_script name r begin p
script_is name r begin p =
    let tail : List Call = if has_ended r then unless_on (cvm_at r p (steps_made r)).status (closing_script r p) else [] in
    let none : steps_made r - 0 ≡ steps_made r = omega arith in
    let left : List Call = leave_script name r p (due_stop r p) in
    append_assoc begin (steps_script r p 0 (steps_made r - 0) ++ tail) left
    ∙ ap (λ (l : List Call). begin ++ l) (
    append_assoc (steps_script r p 0 (steps_made r - 0)) tail left
    ∙ ap (λ (n : ℕ). steps_script r p 0 n ++ (tail ++ left)) none
    ∙ ap (λ (l : List Call). steps_script r p 0 (steps_made r) ++ l) (parts name r p (has_ended r) (cvm_at r p (steps_made r)).status))
    ∙ sym (append_assoc begin (steps_script r p 0 (steps_made r)) (if has_ended r then leaving_script name r p (cvm_at r p (steps_made r)).status else []))

as_save : (name : List ℕ) (r : Run) (begin : List Call) (p : Past) (old new : Outside) (blamed : Option Who) → Performs (begin ++ stop_script r p 0 ++ leave_script name r p (due_stop r p)) old new blamed →
    Performs (save_script name r begin p) old new blamed
as_save name r begin p old new blamed q = same_script (begin ++ stop_script r p 0 ++ leave_script name r p (due_stop r p)) (save_script name r begin p) old new blamed (script_is name r begin p) q

-- what is behind a script that nobody is blamed for is none, or it broke off
behind : (a b : List Call) (old new : Outside) (blamed : Option Who) → (blamed ≡ None → b ≡ []) → Performs a old new blamed → Performs (a ++ b) old new blamed
behind a b old new None none p = same_script a (a ++ b) old new None (sym (ap (λ (l : List Call). a ++ l) (none refl) ∙ append-nil a)) p
behind a b old new (Some whom) none p = first a b old new whom p

-- a run that ended leaves no call
none_left : (name : List ℕ) (r : Run) (p : Past) (e : RunEnd) → e ≢ Stopped → leave_script name r p e ≡ []
none_left name r p Stopped over = absurd (over refl)
none_left name r p ends.Done over = refl
none_left name r p ends.KernelFaulted over = refl
none_left name r p ends.OutOfSteps over = refl
none_left name r p ends.DiskFault over = refl
none_left name r p SinkFault over = refl
none_left name r p NotPut over = refl

left_none : (name : List ℕ) (e : RunEnd) → e ≢ Stopped → e ≢ NotPut → SomeLeft name (Ok e) []
left_none name Stopped over unput = absurd (over refl)
left_none name ends.Done over unput = refl
left_none name ends.KernelFaulted over unput = refl
left_none name ends.OutOfSteps over unput = refl
left_none name ends.DiskFault over unput = refl
left_none name SinkFault over unput = inl refl
left_none name NotPut over unput = absurd (unput refl)

-- NO RUN IS LOADED
module _ {S O D : Type 0} (shelf : shelf_of.Ghosts S) (text : sink_of.Ghosts O) (told : sectors_of.Ghosts D) (y : System) (rows : Rows) (start : List (List ℕ) → State) (turns steps : ℕ) (script : List Call) (name : List ℕ) (s : S) (o o1 : O) (d d1 : D) where
  abbrev rn : List (List ℕ) → Run
  rn sectors = run_at (outside_of rows (told.size d)) y (start sectors) Boot turns steps

  unloaded : (f : LoadFault) → (loads {T = RunEnd} (Err f) ≡ true → ⊥) → ◌≡◌ {A = O × D} (o1, d1) (o, d) → SavedScript shelf text told y rows start turns steps script name (s, o, d) (s, o1, d1) (Err f)
  unloaded f none same = record {
    exact = λ begun. absurd (none begun);
    some = λ begun. absurd (none begun);
    none = λ h. ap (λ (q : O × D). (s, q.0, q.1)) same;
  }

  pub save_refused : (f : LoadFault) → SaveScript {L = Unit {0}} text told y rows start turns steps script (o, d) (o1, d1) (Err f) → SavedScript shelf text told y rows start turns steps script name (s, o, d) (s, o1, d1) (Err f)
  save_refused load.Disk calls = record {
    exact = λ begun sectors p is past. (
      as_save name (rn sectors) script p _ _ (Some TheDisk)
          (first (script ++ stop_script (rn sectors) p 0) (leave_script name (rn sectors) p (due_stop (rn sectors) p)) _ _ TheDisk ((calls.exact refl sectors p is past).0 (files shelf s))),
      λ e. tt,
    );
    some = λ begun. let w = calls.some refl in (w.0, w.1, [], refl, first (script ++ w.0) [] _ _ TheDisk (w.2 (files shelf s)));
    none = λ h. absurd (let e = h in cc);
  }
  save_refused load.Memory calls = unloaded load.Memory (λ e. cc) (calls.none refl)
  save_refused (load.SmallDisk need have) calls = unloaded (load.SmallDisk need have) (λ e. cc) (calls.none refl)
  save_refused (load.NoSuchUser user users) calls = unloaded (load.NoSuchUser user users) (λ e. cc) (calls.none refl)

  -- A RUN HAS ENDED
  pub save_ended : {L : Type 0} (r : Kept L) (e : RunEnd) → e ≢ Stopped → e ≢ NotPut → SaveScript {L = L} text told y rows start turns steps script (o, d) (o1, d1) (Ok (r, e)) →
      SavedScript shelf text told y rows start turns steps script name (s, o, d) (s, o1, d1) (Ok e)
  save_ended r e over unput calls = record {
    exact = λ begun sectors p is past.
        let w = calls.exact refl sectors p is past in (
          as_save name (rn sectors) script p _ _ (of_end e)
              (behind (script ++ stop_script (rn sectors) p 0) (leave_script name (rn sectors) p (due_stop (rn sectors) p)) _ _ (of_end e) (λ none. ap (leave_script name (rn sectors) p) (sym (w.1 none)) ∙ none_left name (rn sectors) p e over) (w.0 (files shelf s))),
          w.1,
        );
    some = λ begun. let w = calls.some refl in (w.0, w.1, [], left_none name e over unput, behind (script ++ w.0) [] _ _ (of_end e) (λ none. refl) (w.2 (files shelf s)));
    none = λ h. absurd (let q = h in cc);
  }

-- A RUN STOPPED, and its file was put, or was to be
no_call : (old new : Outside) (b : Option Who) → Performs [] old new b → b ≡ Some TheDisk → ⊥
no_call old new b (done _) e = let z : None ≡ Some TheDisk = e in cc

row_calls : (old new : Outside) (b : Option Who) → Performs (says saved_row) old new b → b ≡ Some TheDisk → ⊥
row_calls old new b (breaks c rest _ _ f) e = let z : Some TheSink ≡ Some TheDisk = e in cc
row_calls old new b (goes_on c rest _ mid _ _ d p) e = no_call mid new b p e

put_calls : (name bytes : List ℕ) (old new : Outside) (b : Option Who) → Performs (put_script name bytes) old new b → b ≡ Some TheDisk → ⊥
put_calls name bytes old new b (breaks c rest _ _ f) e = let z : Some TheShelf ≡ Some TheDisk = e in cc
put_calls name bytes old new b (goes_on c rest _ mid _ _ d p) e = row_calls mid new b p e

left_so : (name bytes : List ℕ) (e : RunEnd) → (of_end e ≡ Some TheDisk → ⊥) → (of_end e ≡ None → e ≡ Stopped) → SomeLeft name (Ok e) (put_script name bytes)
left_so name bytes Stopped none is = (bytes, refl)
left_so name bytes NotPut none is = (bytes, refl)
left_so name bytes SinkFault none is = inr (bytes, refl)
left_so name bytes ends.Done none is = absurd (let z : ends.Done ≡ Stopped = is refl in cc)
left_so name bytes ends.KernelFaulted none is = absurd (let z : ends.KernelFaulted ≡ Stopped = is refl in cc)
left_so name bytes ends.OutOfSteps none is = absurd (let z : ends.OutOfSteps ≡ Stopped = is refl in cc)
left_so name bytes ends.DiskFault none is = absurd (none refl)

module _ {S O D : Type 0} (shelf : shelf_of.Ghosts S) (text : sink_of.Ghosts O) (told : sectors_of.Ghosts D) (y : System) (rows : Rows) (start : List (List ℕ) → State) (turns steps room : ℕ) (script : List Call) (name : List ℕ) (s s2 : S) (o o1 o2 : O) (d d1 : D) where
  abbrev run_from : List (List ℕ) → Run
  run_from sectors = run_at (outside_of rows (told.size d)) y (start sectors) Boot turns steps

  pub save_stopped : {L : Type 0} (r : Kept L) (end e : RunEnd) → end ≡ Stopped → SaveScript {L = L} text told y rows start turns steps script (o, d) (o1, d1) (Ok (r, end)) →
      ((sectors : List (List ℕ)) (p : Past) → told.sectors d ≡ Some sectors → IsPast (run_from sectors) p → (length (saved_run r) ≤ room) × (r.turns < 2 ^ 32) × (saved_run r ≡ saved_words (run_from sectors) p)) →
      PutCalls shelf text r room name (s, o1) (s2, o2) e → SavedScript shelf text told y rows start turns steps script name (s, o, d) (s2, o2, d1) (Ok e)
  save_stopped {L} r end e is_end given words put =
      let calls : SaveScript {L = L} text told y rows start turns steps script (o, d) (o1, d1) (Ok (r, Stopped)) = subst (λ (q : RunEnd). SaveScript {L = L} text told y rows start turns steps script (o, d) (o1, d1) (Ok (r, q))) is_end given in
      record {
        exact = λ begun sectors p is past.
            let w = calls.exact refl sectors p is past in
            let fits = words sectors p is past in
            let bytes : put.0 ≡ flat_map word (saved_words (run_from sectors) p) = put.1 fits.0 fits.1 ∙ ap (flat_map word) fits.2 in
            let left : put_script name put.0 ≡ leave_script name (run_from sectors) p (due_stop (run_from sectors) p) = ap (put_script name) bytes ∙ ap (leave_script name (run_from sectors) p) (w.1 refl) in (
              as_save name (run_from sectors) script p _ _ (of_end e) (same_script ((script ++ stop_script (run_from sectors) p 0) ++ put_script name put.0)
                  (script ++ stop_script (run_from sectors) p 0 ++ leave_script name (run_from sectors) p (due_stop (run_from sectors) p)) _ _ (of_end e)
                  (ap (λ (l : List Call). (script ++ stop_script (run_from sectors) p 0) ++ l) left)
                  (both (script ++ stop_script (run_from sectors) p 0) (put_script name put.0) _ _ _ (of_end e) (w.0 (files shelf s)) (put.2 (drive told d1)))),
              λ none. put.3 none ∙ w.1 refl,
            );
        some = λ begun.
            let w = calls.some refl in (
              w.0,
              w.1,
              put_script name put.0,
              left_so name put.0 e (put_calls name put.0 _ _ (of_end e) (put.2 (drive told d1))) put.3,
              both (script ++ w.0) (put_script name put.0) _ _ _ (of_end e) (w.2 (files shelf s)) (put.2 (drive told d1)),
            );
        none = λ h. absurd (let q = h in cc);
      }

-- SECTORS STAY TOLD in every call
some_mapped : {A B : Type 0} (f : A → B) (o : Option A) → IsSome o → IsSome (option_map f o)
some_mapped f None h = absurd (cc)
some_mapped f (Some v) h = refl

as_some : (a b : Option (List (List ℕ))) → b ≡ a → IsSome a → IsSome b
as_some a b e h = subst (λ (o : Option (List (List ℕ))). IsSome o) (sym e) h

done_told : (c : Call) (old new : Outside) → CallDone c old new → IsSome old.disk.sectors → IsSome new.disk.sectors
done_told (Printed t) old new d h = as_some old.disk.sectors new.disk.sectors (ap (λ (o : Outside). o.disk.sectors) d.1) h
done_told (Read q) old new d h = as_some old.disk.sectors new.disk.sectors (ap (λ (o : Outside). o.disk.sectors) d.0) h
done_told (Wrote q ws) old new d h =
    as_some (with_sector old.disk.sectors q ws) new.disk.sectors (ap (λ (o : Outside). o.disk.sectors) d.0) (some_mapped (λ ss. slice_set ss q ws) old.disk.sectors h)
done_told (Got n) old new d h = as_some old.disk.sectors new.disk.sectors (ap (λ (o : Outside). o.disk.sectors) d.3) h
done_told (Stored n bs) old new d h = as_some old.disk.sectors new.disk.sectors (ap (λ (o : Outside). o.disk.sectors) d.3) h

failed_told : (c : Call) (old new : Outside) → CallFailed c old new → IsSome old.disk.sectors → IsSome new.disk.sectors
failed_told (Printed t) old new f h = as_some old.disk.sectors new.disk.sectors (ap (λ (o : Outside). o.disk.sectors) f.2) h
failed_told (Read q) old new f h = as_some old.disk.sectors new.disk.sectors (ap (λ (o : Outside). o.disk.sectors) f.1) h
failed_told (Wrote q ws) old new f h =
    as_some (with_sector old.disk.sectors q f.1.0) new.disk.sectors (ap (λ (o : Outside). o.disk.sectors) f.1.1) (some_mapped (λ ss. slice_set ss q f.1.0) old.disk.sectors h)
failed_told (Got n) old new f h = as_some old.disk.sectors new.disk.sectors (ap (λ (o : Outside). o.disk.sectors) f.2) h
failed_told (Stored n bs) old new f h = as_some old.disk.sectors new.disk.sectors (ap (λ (o : Outside). o.disk.sectors) f.3) h

stays_told : (script : List Call) (old new : Outside) (blamed : Option Who) → Performs script old new blamed → IsSome old.disk.sectors → IsSome new.disk.sectors
stays_told script old new blamed (done _) h = h
stays_told script old new blamed (breaks c rest _ _ f) h = failed_told c old new f h
stays_told script old new blamed (goes_on c rest _ mid _ _ d p) h = stays_told rest mid new blamed p (done_told c old mid d h)

pub save_told : {L O D : Type 0} (text : sink_of.Ghosts O) (told : sectors_of.Ghosts D) (y : System) (rows : Rows) (start : List (List ℕ) → State) (turns steps : ℕ) (script : List Call) (o o1 : O) (d d1 : D) (r : Kept L) (end : RunEnd) →
    SaveScript {L = L} text told y rows start turns steps script (o, d) (o1, d1) (Ok (r, end)) → IsSome (told.sectors d) → IsSome (told.sectors d1)
save_told text told y rows start turns steps script o o1 d d1 r end calls h =
    let more = calls.some refl in
    stays_told (script ++ more.0) (beside (output text o) (drive told d) no_files) (beside (output text o1) (drive told d1) no_files) (of_end end) (more.2 no_files) h

-- what is known of the words of one that stopped, over told sectors
some_of : {A : Type 0} (o : Option A) → IsSome o → (x : A) × (o ≡ Some x)
some_of None h = absurd (cc)
some_of (Some x) h = (x, refl)

pub stopped_words : {L : Type 0} (b : Booted) (rows : Rows) (count turns steps room : ℕ) (told left : Option (List (List ℕ))) (r : Kept L) (end : RunEnd) → end ≡ Stopped
    → WholeStops b rows count turns steps told left (Ok (r, end)) → (IsSome told → IsSome left) → AreTakenUp b rows count → pages_needed b ≤ count → AreDisk count told → 1 ≤ turns → turns < 2 ^ 32 → steps < 2 ^ 64
    → room ≡ most_words (memory_frames (map_of (boot_of b))) → CanBoot b rows count → ((u : CUnit) → MachinesRun (IsTypedState u)) → TurnLaws → (sectors : List (List ℕ)) (p : Past) → told ≡ Some sectors
    → IsPast (run_at (outside_of rows count) (system_of b rows) (loaded (system_of b rows) sectors) Boot turns steps) p
    → (length (saved_run r) ≤ room) × (r.turns < 2 ^ 32) × (saved_run r ≡ saved_words (run_at (outside_of rows count) (system_of b rows) (loaded (system_of b rows) sectors) Boot turns steps) p)
stopped_words b rows count turns steps room told left r end is_end stops keeps up enough disk one bits limit same can machines counts sectors p is past =
    let some = some_of left (keeps (subst (λ (o : Option (List (List ℕ))). IsSome o) (sym is) refl)) in
    let w = stops sectors some.0 is some.1 is_end in
    let fits = has_room b rows count sectors some.0 turns steps room r w.0 up enough (disk sectors is) one bits limit same w.1 in
    let boot = can enough sectors (disk sectors is) in
    let m = machines (unit_view b.unit) (outside_of rows count) (system_of b rows) (loaded (system_of b rows) sectors) 1 (user_sectors (system_of b rows)) boot.starts in
    (fits.0, fits.1, same_words counts (outside_of rows count) (system_of b rows) (loaded (system_of b rows) sectors) 1 (user_sectors (system_of b rows)) m turns steps p past (saved_run r) some.0 w.0 w.1)
