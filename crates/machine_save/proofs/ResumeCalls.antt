-- The script of a resume, by that of the run that was taken up.
use Rattle.std.proofs.Common.{◌≡◌, ◌≢◌, ℕ, suc, ◌-◌, ◌<◌, ◌≤◌, ◌^◌, Bool, true, false, not, Option, Some, None, List, Ok, Err}
use Rattle.std.proofs.Common.{refl, sym, ap, ◌∙◌, subst, arith}
use Rattle.std.specs.Prelude.{is_some, ◌||◌, ◌==◌}
use Rattle.std.specs.List.{flat_map}
use Rattle.std.proofs.lemmas.Bool.{eq-eqb}
use Rattle.cvm_words.specs.Bytes.{word}
use Rattle.cvm_outside.specs.declared.sink.Sink as sink_of
use Rattle.cvm_outside.specs.declared.sectors.Sectors as sectors_of
use Rattle.schedule_file.specs.Rows.{Rows}
use Rattle.mips_table.specs.Device.{Environment}
use Rattle.mips_table.specs.Machine.{State}
use Rattle.mips_table.specs.Steady.{StartSteady}
use Rattle.mips_table.specs.Turns.{in_user, is_end, end_within, IsTurnEnd, TurnLaws}
use Rattle.mips_machine.specs.Machine.{state_of}
use Rattle.mips_machine.specs.Saved.{saved}
use Rattle.mips_machine.specs.Steps.{outside_of}
use Rattle.c0_tree.specs.Tree.{CUnit}
use Rattle.c0_tree.specs.View.{unit_view}
use Rattle.c0_meaning.specs.TypedState.{IsTypedState}
use Rattle.cvm_model.specs.Cvm.{Status, IsCvm}
use Rattle.cvm_model.specs.declared.row.Next.{Next}
use Rattle.cvm_model.specs.Stands.{runs_user}
use Rattle.cvm_model.specs.Text.{rows_text}
use Rattle.layer_contract.specs.declared.boot.Boot.{Boot as Booted}
use Rattle.layer_contract.specs.Layer.{Rests}
use Rattle.layer_contract.specs.Starts.{user_sectors}
use Rattle.layer_contract.specs.Boots.{boot_of}
use Rattle.boot_turns.specs.Completes.{state_seen}
use Rattle.boot_turns.specs.RunMachines.{RunMachines, MachinesRun}
use Rattle.boot_turns.specs.Runs.{Run, Past, state_at, turns_at, steps_made, lines_met, cvm_at}
use Rattle.boot_turns.specs.Sooner.{ComesTo}
use Rattle.boot_turns.specs.TurnEnds.{RestsAfter, TurnIsOver}
use Rattle.boot_turns.specs.declared.answers.RunFault.{RunFault}
use Rattle.boot_turns.specs.declared.answers.View.{View}
use Rattle.boot_turns.specs.declared.answers.View.TheVariants.{Boot}
use Rattle.boot_turns.specs.declared.tracer.Tracer.{Tracer}
use Rattle.saved_file.specs.Answer.{answer}
use Rattle.boot_run.specs.declared.whole.RunEnd.{RunEnd}
use Rattle.boot_run.specs.AnyScripts.{EndsUntold, RestUntold}
use Rattle.boot_run.specs.Loading.{system_of}
use Rattle.boot_run.specs.LoadEnds.{Kept, pages_needed}
use Rattle.boot_run.specs.Pieces.{FirstAt}
use Rattle.boot_run.specs.Resuming.{taken_up, TakesUp}
use Rattle.boot_run.specs.RunCalls.{run_at, due_end, RunEndsBy, RestCalls, end_by, all_calls, RunPerformsAt}
use Rattle.boot_run.specs.RunScript.{WasSaved, rest_script}
use Rattle.boot_run.specs.SavedFiles.{wanted_of}
use Rattle.boot_run.specs.SavedRuns.{SavedAt, IsDisk}
use Rattle.boot_run.specs.Saving.{IsResumed, IsTakenUp}
use Rattle.boot_run.specs.TurnCalls.{Around, run_around, ReadyAt}
use Rattle.boot_run.proofs.AbstractRuns.{turns_up_to}
use Rattle.boot_run.proofs.SavedTakenUp.{on_of}
use Rattle.boot_run.proofs.TurnToTurn.{no_end}
use Rattle.boot_run.proofs.GoScripts.{no_sooner}
use Rattle.boot_run.proofs.LoopOverTurns.{machines}
use Rattle.boot_run.proofs.BootsRejoin.{first_of}
use Rattle.machine_save.specs.Resume.{ResumesFile}
use Rattle.machine_save.specs.ResumeCalls.{boot_over, RestPerformed, FileRuns, ResumeScript}
use Rattle.machine_save.specs.SavedBoots.{AreTakenUp, CanBoot}
use Rattle.machine_save.specs.declared.resuming.ResumeFault.{ResumeFault}
use Rattle.machine_save.proofs.ResumeAnswers.{named_so, no_memory, one_answer, read_back}

-- what a call finds of a run, by its parts
abbrev met : Option State → (steps budget turns current : ℕ) → Option Next → Option RunFault → Option Tracer → Around
met state steps budget turns current ended fault tracer = record {
  state = state;
  steps = steps;
  budget = budget;
  turns = turns;
  current = current;
  ended = ended;
  fault = fault;
  tracer = tracer;
}

around_is : {L : Type 0} (r : Kept L) → IsResumed r → (told : Option (List (List ℕ))) (left : List (List ℕ)) (budget : ℕ) →
    told ≡ Some left → taken_up (state_of r.machine left) budget r.turns r.current ≡ run_around r told budget
around_is r h told left budget is =
    ap (λ o. met (state_seen o r.machine) r.machine.time budget r.turns r.current None None None) (sym is)
    ∙ ap (λ e. met (state_seen told r.machine) r.machine.time budget r.turns r.current e None None) (sym h.ended)
    ∙ ap (λ f. met (state_seen told r.machine) r.machine.time budget r.turns r.current r.ended f None) (sym h.fault)
    ∙ ap (λ o. met (state_seen told r.machine) r.machine.time budget r.turns r.current r.ended r.fault o) (sym h.tracer)

-- what is no end of a run: other turns are complete, and the machine is on
not_over : (same : Bool) (o : Option ℕ) → (same || not (not (is_some o))) ≡ false → (same ≡ false) × (o ≡ None)
not_over true o e = absurd (cc)
not_over false None e = (refl, refl)
not_over false (Some word) e = absurd (cc)

other_turns : (a b : ℕ) → (a == b) ≡ false → a ≢ b
other_turns a b none same = absurd (let e : true ≡ false = sym (eq-eqb a b same) ∙ none in cc)

-- WHERE A RUN WAS SAVED it stands with all turns complete that have begun, and its machine runs a user
module _ (counts : TurnLaws) (r : Run) (late held : ℕ) (m : RunMachines r.around r.system r.first late held) (p : Past)
    (words : List ℕ) (left : List (List ℕ)) (made : ℕ) (w : WasSaved r p words left made) (less : turns_at r made ≤ r.turns) where
  goes_before : (j : ℕ) → j < made → is_end r.around r.first r.turns j ≡ false
  goes_before j lt =
      let none = not_over (turns_at r j == turns_at r made) (state_at r j).off (w.first.first j lt) in
      let other : turns_at r j ≢ turns_at r made = other_turns (turns_at r j) (turns_at r made) none.0 in
      let up : turns_at r j ≤ turns_at r made = turns_up_to counts r j made (omega (arith, lt)) in
      no_end r.around r.first r.turns j (λ e. other (omega (arith, e, up, less))) none.1

  later : made ≤ steps_made r
  later = no_sooner counts r.around r.first r.turns r.steps made w.few goes_before

  now_is : IsCvm r.system (lines_met r) (turns_at r made) (cvm_at r p made)
  now_is = w.is_past.turns (turns_at r made) (turns_up_to counts r made (steps_made r) later)

  -- its first end of so many turns
  ends_there : end_within r.around r.first (turns_at r made) made ≡ made
  ends_there = counts.ends r.around r.first (turns_at r made) made made w.first (omega arith)

  over : TurnIsOver r.around r.system r.first (turns_at r made) made (cvm_at r p made)
  over =
      subst (λ (t : ℕ). TurnIsOver r.around r.system r.first (turns_at r made) t (cvm_at r p made)) ends_there
      (m.ends (turns_at r made) made (cvm_at r p made)
      (subst (λ (t : ℕ). IsCvm r.system (lines_met r) (turns_at r t) (cvm_at r p made)) (sym ends_there) now_is)
      (subst (λ (t : ℕ). is_end r.around r.first (turns_at r made) t ≡ true) (sym ends_there) w.first.here))

  module _ (few : ℕ) (some : turns_at r made ≡ suc few) where
    rests : RestsAfter r.around r.system r.first (suc few) made (cvm_at r p made)
    rests = subst (λ (i : ℕ). RestsAfter r.around r.system r.first i made (cvm_at r p made)) some over.rests

    runs : runs_user (state_at r made) ≡ true
    runs = subst (λ (st : Status). Rests st (state_at r made)) w.on rests.0

    on : (state_at r made).off ≡ None
    on = on_of (state_at r made).off (in_user (state_at r made)) runs

    first_end : IsTurnEnd r.around r.first (suc few) made
    first_end = subst (λ (i : ℕ). IsTurnEnd r.around r.first i made) some w.first

    pub saved_at : SavedAt r.around r.system r.first (suc few) made words left (rows_text (cvm_at r p made).rows)
    saved_at = record {
      at = made;
      past = cvm_at r p made;
      end = first_end;
      within = omega arith;
      on = on;
      cvm = subst (λ (i : ℕ). IsCvm r.system (lines_met r) i (cvm_at r p made)) some now_is;
      words_are = w.words_are ∙ ap (λ (i : ℕ). saved r.system.input (state_at r made) i (cvm_at r p made).core.current) some;
      left_is = w.left_is;
      shown_is = refl;
    }

-- what the laws say of machines and of runs that are taken up
pub record ResumeLaws : Type 0 where
  pub machines : (u : CUnit) → MachinesRun (IsTypedState u)
  pub counts : TurnLaws
  pub steady : StartSteady
  pub takes : TakesUp

-- THE WORDS of a run that was saved, which a file holds
module _ (law : ResumeLaws) (b : Booted) (rows : Rows) (turns steps count : ℕ) (boots : CanBoot b rows count) (ups : AreTakenUp b rows count)
    (bits : turns < 2 ^ 32) (limit : steps < 2 ^ 64) (sectors left : List (List ℕ)) (words : List ℕ) (p : Past) (made : ℕ)
    (room : pages_needed b ≤ count) (disk : IsDisk count sectors)
    (w : WasSaved (boot_over b rows turns steps count sectors) p words left made) (one : 1 ≤ turns_at (boot_over b rows turns steps count sectors) made)
    (less : turns_at (boot_over b rows turns steps count sectors) made ≤ turns) where
  abbrev r : Run
  r = boot_over b rows turns steps count sectors

  abbrev few : ℕ
  few = turns_at r made - 1

  abbrev shown : List ℕ
  shown = rows_text (cvm_at r p made).rows

  some : turns_at r made ≡ suc few
  some = omega (arith, one)

  at : SavedAt r.around r.system r.first (suc few) made words left shown
  at =
      saved_at law.counts r 1 (user_sectors r.system)
      (machines law.machines b rows count r.system r.first 1 (user_sectors r.system) sectors (boots room sectors disk)) p words left made w less few some

  pub read_so : (bytes : List ℕ) → bytes ≡ flat_map word words → answer (wanted_of (boot_of b) rows.inputs turns) bytes ≡ Ok words
  read_so bytes spells =
      let same = some in
      read_back b rows turns steps count bytes sectors left (suc few) made words shown ups bits limit disk room at spells
      (omega arith) (omega (arith, less, same)) w.few

  -- a run that was taken up of them stands where that one stood, and makes the rest of its script
  module _ {L : Type 0} (layer : L) (k : Kept L) (up : IsTakenUp layer b rows count words k) where
    stands : (told : Option (List (List ℕ))) (budget : ℕ) → told ≡ Some left →
        ReadyAt r.around r.system r.first Boot (suc few) made (cvm_at r p made) (run_around k told budget)
        × FirstAt r.around r.first (suc few) made
    unfolding at saved_at
    stands told budget tells =
        let named = named_so layer b rows count words k left up in
        let h =
        law.takes r.around r.system r.first few made budget words left shown (state_of k.machine left) k.turns k.current
        (unit_view b.unit) 1 (user_sectors r.system) (boots room sectors disk).starts (first_of law.steady r.system sectors) at named.ready named.sectors_are named.words_are in (
          subst (λ (a : Around). ReadyAt r.around r.system r.first Boot (suc few) made (cvm_at r p made) a)
              (around_is k up.resumed told left budget tells) h.0,
          h.1,
        )

    pub rest_there : {O D : Type 0} (text : sink_of.Ghosts O) (told : sectors_of.Ghosts D) (o o1 : O) (d d1 : D) (end : RunEnd) →
        told.sectors d ≡ Some left → RunPerformsAt text told all_calls end_by k b rows Boot count (turns - k.turns) (steps - k.machine.time) (o, d) (o1, d1) end →
        RunEndsBy text told (o, d) (o1, d1) (rest_script r p made) (due_end r p) end
    rest_there text told o o1 d d1 end tells rests =
        let h = stands (told.sectors d) (steps - k.machine.time) tells in
        let time : k.machine.time ≡ made = h.0.steps in
        let finished : k.turns ≡ suc few = h.0.turns in
        let within = w.few in
        let same = some in
        rests r.system r.first 1 (user_sectors r.system) sectors (suc few) made turns steps (cvm_at r p made)
        (boots room sectors disk) h.1 (omega (arith, less, same)) (omega (arith, finished, less, same)) (omega (arith, time, within)) h.0 w.on p w.is_past

-- what is said of a run that was taken up, of what is booted
rest_at : {L O D : Type 0} (text : sink_of.Ghosts O) (told : sectors_of.Ghosts D) (layer : L) (b : Booted) (rows : Rows) (words : List ℕ) (k : Kept L)
    (more budget : ℕ) (o o1 : O) (d d1 : D) (end : RunEnd) → IsTakenUp layer b rows (told.size d) words k →
    RestCalls text told k more budget (o, d) (o1, d1) end → RunPerformsAt text told all_calls end_by k b rows Boot (told.size d) more budget (o, d) (o1, d1) end
rest_at text told layer b rows words k more budget o o1 d d1 end up calls =
    subst (λ (v : View). RunPerformsAt text told all_calls end_by k b rows v (told.size d) more budget (o, d) (o1, d1) end) up.resumed.view
    (subst (λ (q : Rows). RunPerformsAt text told all_calls end_by k b q k.view (told.size d) more budget (o, d) (o1, d1) end) up.rows_are
    (subst (λ (c : Booted). RunPerformsAt text told all_calls end_by k c k.machine.rows k.view (told.size d) more budget (o, d) (o1, d1) end) up.boot_is calls.exact))

-- ANY FILE: at its first step a machine comes to no turns
comes_to_none : (x : Environment) (z : State) → ComesTo x z 0 0
comes_to_none x z = record {
  sooner = record { before = λ j lt. absurd (omega (arith, lt)); on = λ j lt. absurd (omega (arith, lt)) };
  here = λ on. (refl, refl);
}

file_runs : {L O D : Type 0} (text : sink_of.Ghosts O) (told : sectors_of.Ghosts D) (layer : L) (b : Booted) (rows : Rows) (turns steps : ℕ)
    (words : List ℕ) (left : List (List ℕ)) (k : Kept L) (o o1 : O) (d d1 : D) (end : RunEnd) → IsTakenUp layer b rows (told.size d) words k →
    told.sectors d ≡ Some left → RestUntold text told k (turns - k.turns) (steps - k.machine.time) (o, d) (o1, d1) end →
    FileRuns text told b rows turns steps words left (o, d) (o1, d1) end
file_runs text told layer b rows turns steps words left k o o1 d d1 end up tells untold =
    let z = state_of k.machine left in
    record {
      machine = z;
      finished = k.turns;
      user = k.current;
      named = named_so layer b rows (told.size d) words k left up;
      ends = subst (λ (q : Rows). EndsUntold text told (o, d) (o1, d1)
          (run_at (outside_of q (told.size d)) (system_of b rows) z Boot (turns - k.turns) (steps - k.machine.time)) 0 end) up.rows_are
          (untold (system_of b rows) z 0 0 (turns - k.turns) (steps - k.machine.time) up.resumed.tracer up.resumed.ended up.resumed.fault
          (comes_to_none (outside_of k.machine.rows (told.size d)) z) (up.resumed.ready left).on
          (ap (λ (ss : Option (List (List ℕ))). state_seen ss k.machine) tells) (omega arith) (omega arith));
    }

module _ (law : ResumeLaws) {L O D : Type 0} (text : sink_of.Ghosts O) (told : sectors_of.Ghosts D) (layer : L) (b : Booted) (rows : Rows)
    (turns steps : ℕ) (bytes : List ℕ) (o o1 : O) (d d1 : D) (boots : CanBoot b rows (told.size d)) (ups : AreTakenUp b rows (told.size d))
    (bits : turns < 2 ^ 32) (limit : steps < 2 ^ 64) where
  -- THE RUN WAS TAKEN UP
  rest_so : (k : Kept L) (end : RunEnd) → ResumesFile layer b rows turns (told.size d) bytes (Ok k) →
      RestCalls text told k (turns - k.turns) (steps - k.machine.time) (o, d) (o1, d1) end →
      RestPerformed text told b rows turns steps bytes (o, d) (o1, d1) (Ok end)
  rest_so k end (held, up, (is, spelled, can, enough)) calls = λ sectors left words p made room disk tells spells w one less.
      let back = read_so law b rows turns steps (told.size d) boots ups bits limit sectors left words p made room disk w one less bytes spells in
      let same : held ≡ words = one_answer (answer (wanted_of (boot_of b) rows.inputs turns) bytes) held words is back in
      let its = subst (λ (l : List ℕ). IsTakenUp layer b rows (told.size d) l k) same up in
      rest_there law b rows turns steps (told.size d) boots ups bits limit sectors left words p made room disk w one less layer k its text told o o1 d d1 end tells
      (rest_at text told layer b rows words k (turns - k.turns) (steps - k.machine.time) o o1 d d1 end its calls)

  untold_so : (k : Kept L) (end : RunEnd) → ResumesFile layer b rows turns (told.size d) bytes (Ok k) →
      RestUntold text told k (turns - k.turns) (steps - k.machine.time) (o, d) (o1, d1) end → (words : List ℕ) (left : List (List ℕ)) →
      answer (wanted_of (boot_of b) rows.inputs turns) bytes ≡ Ok words → told.sectors d ≡ Some left → FileRuns text told b rows turns steps words left (o, d) (o1, d1) end
  untold_so k end (held, up, (is, spelled, can, enough)) untold words left answers tells =
      let same : held ≡ words = one_answer (answer (wanted_of (boot_of b) rows.inputs turns) bytes) held words is answers in
      let its = subst (λ (l : List ℕ). IsTakenUp layer b rows (told.size d) l k) same up in
      file_runs text told layer b rows turns steps words left k o o1 d d1 end its tells untold

  pub resumed_script : (k : Kept L) (end : RunEnd) → ResumesFile layer b rows turns (told.size d) bytes (Ok k) →
      RestCalls text told k (turns - k.turns) (steps - k.machine.time) (o, d) (o1, d1) end →
      RestUntold text told k (turns - k.turns) (steps - k.machine.time) (o, d) (o1, d1) end →
      ResumeScript text told b rows turns steps bytes (o, d) (o1, d1) (Ok end)
  resumed_script k end is calls untold = record { rest = rest_so k end is calls; untold = untold_so k end is untold; some = calls.some; none = tt }

  -- IT WAS NOT
  pub refused_script : (fault : ResumeFault) → ResumesFile layer b rows turns (told.size d) bytes (Err fault) → d1 ≡ d →
      ResumeScript text told b rows turns steps bytes (o, d) (o, d1) (Err fault)
  refused_script fault refused same = record {
    rest = λ sectors left words p made room disk tells spells w one less.
        no_memory layer b rows turns (told.size d) bytes words fault refused room
        (read_so law b rows turns steps (told.size d) boots ups bits limit sectors left words p made room disk w one less bytes spells);
    untold = λ words left answers tells. tt;
    some = tt;
    none = ap (λ (q : D). (o, q)) same;
  }
