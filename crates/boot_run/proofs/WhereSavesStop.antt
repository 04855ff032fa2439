-- Where a run that is to be saved stops.
use Rattle.std.proofs.Common.{◌≡◌, ℕ, suc, false, Option, Some, None, List, Ok, refl, sym, ap, ◌∙◌, subst}
use Rattle.std.specs.Prelude.{is_some}
use Rattle.mips_table.specs.Device.{Environment}
use Rattle.mips_table.specs.Machine.{State, run}
use Rattle.mips_table.specs.Turns.{in_user, lines_of_turn, TurnLaws}
use Rattle.c0_tree.specs.Tree.{CUnit}
use Rattle.c0_meaning.specs.TypedState.{IsTypedState}
use Rattle.schedule_file.specs.Rows.{Rows}
use Rattle.mips_machine.specs.Machine.{Held, state_of}
use Rattle.mips_machine.specs.Saved.{saved}
use Rattle.mips_machine.specs.Steps.{outside_of}
use Rattle.cvm_model.specs.Cvm.{System, Status, Running, Halted, Faulted, IsCvm}
use Rattle.cvm_model.specs.declared.row.Next.{Next}
use Rattle.cvm_model.specs.Text.{rows_text}
use Rattle.layer_contract.specs.Layer.{Rests}
use Rattle.boot_turns.specs.Completes.{state_seen}
use Rattle.boot_turns.specs.RunMachines.{RunMachines, MachinesRun}
use Rattle.boot_turns.specs.declared.answers.View.{View}
use Rattle.boot_turns.specs.declared.answers.View.TheVariants.{Boot}
use Rattle.boot_run.specs.Loading.{system_of}
use Rattle.boot_run.specs.LoadEnds.{Kept}
use Rattle.boot_run.specs.SavedRuns.{SavedAt}
use Rattle.boot_run.specs.Saving.{saved_run, RunsToStop, RunStops, StaysThere}
use Rattle.boot_run.specs.declared.whole.RunEnd.{RunEnd}
use Rattle.boot_run.specs.TurnCalls.{Around, run_around, KeepsLoad}
use Rattle.boot_run.specs.Pieces.{Gone, GoRuns}
use Rattle.boot_run.proofs.SavedTakenUp.{complete_there, on_of}
use Rattle.boot_run.proofs.TurnToTurn.{running_of}
use Rattle.boot_run.proofs.LoopOverTurns.{machines}

-- a machine that runs a user is on
on_at : (s : Status) (z : State) → s ≡ Running → Rests s z → z.off ≡ None
on_at Running z e r = on_of z.off (in_user z) r
on_at Halted z e r = absurd (cc)
on_at (Faulted f) z e r = absurd (cc)

one_state : (a b : State) → Some a ≡ Some b → a ≡ b
one_state a b e = cc

none_state : (a : State) → None ≡ Some a → ⊥
none_state a e = cc

-- the machine that is seen is this one, with these sectors
pub seen_is : (told : Option (List (List ℕ))) (held : Held) (z : State) → state_seen told held ≡ Some z → (now : List (List ℕ)) × (told ≡ Some now) × (state_of held now ≡ z) × (now ≡ z.device.sectors)
seen_is None held z e = absurd (none_state z e)
seen_is (Some ss) held z e = let same = one_state (state_of held ss) z e in (ss, refl, same, ap (λ (s : State). s.device.sectors) same)

module _ (counts : TurnLaws) (x : Environment) (y : System) (s0 : State) (delay bound : ℕ) (m : RunMachines x y s0 delay bound)
    (turns steps : ℕ) (mid : Around) (g : Gone x y s0 Boot turns steps mid) where
  module _ (goes_on : mid.ended ≡ None) where
    running : g.past.status ≡ Running
    running = running_of g.past.status (sym g.ready.ended ∙ goes_on)

    on : (run x s0 g.at).off ≡ None
    on = on_at g.past.status (run x s0 g.at) running g.ready.stood.rests.0

    all : suc g.count ≡ turns
    all = sym g.ready.stood.all ∙ complete_there x s0 turns g.at g.end on

    -- the words of the saved run
    pub saved_at : (words : List ℕ) → words ≡ saved y.input (run x s0 g.at) turns g.past.core.current → (now : List (List ℕ)) → now ≡ (run x s0 g.at).device.sectors → SavedAt x y s0 turns steps words now (rows_text g.past.rows)
    saved_at words are now is = record {
      at = g.at;
      past = g.past;
      end = g.end;
      within = g.within;
      on = on;
      cvm = subst (λ (k : ℕ). IsCvm y (lines_of_turn x s0) k g.past) all g.ready.stood.cvm;
      words_are = are;
      left_is = is;
      shown_is = refl;
    }

-- a run that isn't over has no end
pub none_ended : (o : Option Next) → is_some o ≡ false → o ≡ None
none_ended None h = refl
none_ended (Some n) h = absurd (cc)

one_told : (o : Option (List (List ℕ))) (a b : List (List ℕ)) → o ≡ Some a → o ≡ Some b → a ≡ b
one_told None a b e f = absurd (cc)
one_told (Some c) a b e f = cc

-- the loop is done, and the run goes on: it stops there
module _ {L : Type 0} (run_is : (u : CUnit) → MachinesRun (IsTypedState u)) (counts : TurnLaws) (count : ℕ) (r mid : Kept L) (turns steps left : ℕ) (told mid_told : Option (List (List ℕ)))
    (kept : KeepsLoad r mid) (gone : GoRuns count r turns (run_around r told steps) (run_around mid mid_told left) (Ok tt)) where
  pub stops : (e : RunEnd) → mid.ended ≡ None → RunsToStop count r mid turns (run_around r told steps) mid_told e
  stops e on = λ s0 delay bound old k t wanted total c now p view starts some more sum ready there is.
      let x = outside_of r.machine.rows count in
      let y = system_of r.boot r.machine.rows in
      let m = machines run_is r.boot r.machine.rows count y s0 delay bound old p in
      let g : Gone x y s0 Boot wanted total (run_around mid mid_told left) =
      subst (λ (v : View). Gone x y s0 v wanted total (run_around mid mid_told left)) view (gone y s0 delay bound old k t wanted total c p starts some more sum ready) in
      let found = seen_is mid_told mid.machine (run x s0 g.at) g.ready.state in
      let inputs : mid.machine.rows.inputs ≡ r.machine.rows.inputs = ap (λ (w : Rows). w.inputs) kept.rows_are in
      let turned : mid.turns ≡ wanted = g.ready.turns ∙ all counts x y s0 delay bound m wanted total (run_around mid mid_told left) g on in
      let user : mid.current ≡ g.past.core.current = g.ready.current (running counts x y s0 delay bound m wanted total (run_around mid mid_told left) g on) in
      let words : saved_run mid ≡ saved r.machine.rows.inputs (run x s0 g.at) wanted g.past.core.current =
      ap (λ i. saved i (state_of mid.machine found.0) mid.turns mid.current) inputs
      ∙ ap (λ z. saved r.machine.rows.inputs z mid.turns mid.current) found.2
      ∙ ap (λ n. saved r.machine.rows.inputs (run x s0 g.at) n mid.current) turned
      ∙ ap (λ n. saved r.machine.rows.inputs (run x s0 g.at) wanted n) user in
      let same : found.0 ≡ now = one_told mid_told found.0 now found.1 there in
      (rows_text g.past.rows, saved_at counts x y s0 delay bound m wanted total (run_around mid mid_told left) g on (saved_run mid) words now (sym same ∙ found.3))

-- by how it stops
module _ {L D O : Type 0} (run_is : (u : CUnit) → MachinesRun (IsTypedState u)) (counts : TurnLaws) (size : D → ℕ) (sectors : D → Option (List (List ℕ)))
    (r mid new : Kept L) (disk mid_disk redisk : D) (out mid_out reout : O) (turns steps left : ℕ) (kept : KeepsLoad r mid)
    (gone : GoRuns (size disk) r turns (run_around r (sectors disk) steps) (run_around mid (sectors mid_disk) left) (Ok tt)) where
  pub stopped : (e : RunEnd) → StaysThere mid mid_disk mid_out new redisk reout e → RunStops size sectors turns steps r disk new redisk e
  stopped e stays = λ s0 delay bound old k t wanted total c now p view starts some more sum ready there is.
      let w = stays is in
      subst (λ (n : Kept L). RunStops size sectors turns steps r disk n redisk e) (sym w.1)
      (subst (λ (d : D). RunStops size sectors turns steps r disk mid d e) (sym w.2)
      (stops run_is counts (size disk) r mid turns steps left (sectors disk) (sectors mid_disk) kept gone e w.0))
      s0 delay bound old k t wanted total c now p view starts some more sum ready there is
