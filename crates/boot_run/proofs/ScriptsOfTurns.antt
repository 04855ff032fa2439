-- The script of turns, by what was called before them, in their steps and behind them.
use Rattle.std.proofs.Common.{◌≡◌, ◌≢◌, ℕ, zero, suc, ◌+◌, ◌-◌, ◌<◌, ◌≤◌, true, false, Option, Some, None, List, [], ◌∷◌, ◌++◌, length, drop, codes, Result, Ok, Err, refl, sym, ap, ap₂, ◌∙◌, subst, arith, ◌⊎◌, inl, inr, append-nil, append_assoc}
use Rattle.std.specs.Prelude.{IsSome}
use Rattle.std.proofs.lemmas.List.{length-map}
use Rattle.std.proofs.Math.Seq.{drop-append_seam, drop-length}
use Rattle.cvm_outside.specs.Outside.{Outside, Files, output, drive}
use Rattle.cvm_outside.specs.declared.sink.Sink as sink_of
use Rattle.cvm_outside.specs.declared.sectors.Sectors as sectors_of
use Rattle.cvm_outside.specs.Script.{Call, Printed, Who, TheSink, TheDisk, Performs, done, Puts, blame}
use Rattle.cvm_outside.proofs.ScriptsFollow.{both, first}
use Rattle.cvm_outside.proofs.RowsPut.{same_script}
use Rattle.mips_table.specs.Device as device
use Rattle.mips_table.specs.Machine.{State, run}
use Rattle.mips_table.specs.Turns.{complete, lines_of_turn}
use Rattle.mips_machine.specs.Steps.{outside_of, script_of_step}
use Rattle.c0_tree.specs.Tree.{CUnit}
use Rattle.c0_meaning.specs.TypedState.{IsTypedState}
use Rattle.cvm_model.specs.Cvm.{Boot as CvmBoot, System, Status, Running, Halted, Faulted, Cvm, IsCvm, map_of}
use Rattle.cvm_model.specs.Kernel.{JournalEntry, power_of}
use Rattle.cvm_model.specs.Text.{rows_text, steps_row, fault_name, open_journal_rows}
use Rattle.cvm_model.specs.declared.row.Next.{Next}
use Rattle.cvm_model.specs.declared.row.Row.{Row}
use Rattle.layer_contract.specs.Boots.{boot_of}
use Rattle.layer_contract.specs.Layer.{Rests}
use Rattle.cvm_model.specs.declared.kernel_fault.KernelFault.{KernelFault}
use Rattle.cvm_model.specs.declared.row.Next.TheVariants.{Halt}
use Rattle.boot_turns.specs.Ahead.{TurnAhead}
use Rattle.boot_turns.specs.Advances.{Skipped, StillGoes, Stops}
use Rattle.boot_turns.specs.Completes.{state_seen}
use Rattle.boot_turns.specs.Entries.{TracesGrow}
use Rattle.boot_turns.specs.JournalText.{RowsFollow, pending_steps}
use Rattle.boot_turns.specs.Premises.{StartsFrom}
use Rattle.boot_turns.specs.RunMachines.{RunMachines, MachinesRun}
use Rattle.boot_turns.specs.Trace.{Shown}
use Rattle.boot_turns.specs.TurnEnds.{Stood}
use Rattle.boot_turns.specs.declared.tracer.Tracer.{Tracer}
use Rattle.boot_turns.specs.declared.answers.View.{View}
use Rattle.boot_turns.specs.declared.answers.View.TheVariants.{Boot, Trace}
use Rattle.boot_turns.specs.declared.answers.Turn.{Turn}
use Rattle.boot_turns.specs.declared.answers.RunFault.{RunFault}
use Rattle.boot_turns.specs.declared.answers.RunFault.TheVariants.{StepLimit, Disk, Sink}
use Rattle.boot_turns.specs.Runs.{Run, Past, state_at, cvm_at}
use Rattle.boot_turns.specs.StepScript.{prints, rows_script, step_script}
use Rattle.boot_turns.specs.RowScripts.{of_run}
use Rattle.boot_turns.specs.LoopScripts.{InSteps, StepsCall}
use Rattle.boot_turns.proofs.StepMakes.{in_last, in_same}
use Rattle.boot_turns.proofs.SomeCalls.{of_both}
use Rattle.boot_run.specs.AnyScripts.{TurnsScript, untold_step}
use Rattle.boot_run.specs.Closing.{says, last_steps, report_by, boot_report, trace_report}
use Rattle.boot_run.specs.LoadEnds.{Kept}
use Rattle.boot_run.specs.RunCalls.{run_at, begin_script, fault_script, InTurns, TellsFrom, TurnsCall}
use Rattle.boot_run.specs.Shown.{has_faulted, ended_of}
use Rattle.boot_run.specs.TurnCalls.{rows_of_turn, run_around, ReadyAt, Turned, TurnsEnd, TurnsRun}
use Rattle.boot_run.specs.TurnParts.{rows_before, rows_after, fault_rows, Moved, Views}
use Rattle.boot_run.proofs.GoesOnWithRun.{by_view, start_at, starts}
use Rattle.boot_run.proofs.TurnsPassed.{spread}
use Rattle.boot_run.proofs.InTurns.{turns_cut, turns_alone, turns_behind}
use Rattle.boot_run.proofs.ScriptsJoined.{at, none_put, says_put, some_put, prints_put, same_rows}

-- of a boot that faulted nothing is behind its steps
no_fault : (r : Run) (p : Past) (t : ℕ) (off : Option ℕ) (st : Status) → (cvm_at r p t).status ≡ st → fault_script Boot r p t off st ≡ []
no_fault r p t None st e = refl
no_fault r p t (Some power) Running e = refl
no_fault r p t (Some power) Halted e = refl
no_fault r p t (Some power) (Faulted f) e = ap (boot_report r.system (state_at r t) (cvm_at r p t)) e

-- of a run that goes on neither
pub goes_none : (v : View) (r : Run) (p : Past) (t : ℕ) (off : Option ℕ) (st : Status) → st ≡ Running → fault_script v r p t off st ≡ []
goes_none v r p t None st e = refl
goes_none v r p t (Some power) st e = ap (fault_script v r p t (Some power)) e

-- THE STEPS OF A BOOT, whose turns from k to b have the same rows, at a run of it
module _ (x : device.Environment) (y : System) (s : State) (late held : ℕ) (m : RunMachines x y s late held) (turns steps : ℕ) (p : Past) (t n : ℕ) (tells : TellsFrom (run_at x y s Boot turns steps) p t (t + n))
    (a b : ℕ) (ca cb : Cvm) (ia : IsCvm y (lines_of_turn x s) a ca) (ib : IsCvm y (lines_of_turn x s) b cb) (same : cb.rows ≡ ca.rows) where
  abbrev r : Run
  r = run_at x y s Boot turns steps

  rows_at : (j : ℕ) → t ≤ j → j ≤ t + n → a ≤ complete x s j → complete x s j ≤ b → (cvm_at (run_at x y s Boot turns steps) p j).rows ≡ ca.rows
  rows_at j from to low high = same_rows x y s late held m a (complete x s j) b ca (cvm_at r p j) cb low high ia (tells.turns j from to) ib same

  -- so many of them add none
  quiet_steps : (l : ℕ) → l ≤ n → ((j : ℕ) → t ≤ j → j ≤ t + l → (a ≤ complete x s j) × (complete x s j ≤ b)) → (i : ℕ) → i < l → script_of_step x (run x s (t + i)) ≡ step_script (run_at x y s Boot turns steps) p (t + i)
  quiet_steps l le between i lt =
      let h = between (t + i) (omega arith) (omega (arith, lt)) in
      let k = between (suc (t + i)) (omega arith) (omega (arith, lt)) in
      let before = rows_at (t + i) (omega arith) (omega (arith, lt, le)) h.0 h.1 in
      let after = rows_at (suc (t + i)) (omega arith) (omega (arith, lt, le)) k.0 k.1 in
      sym (ap (λ (l : List Call). script_of_step x (run x s (t + i)) ++ l)
      (ap₂ (λ (c d : List Row). prints (rows_text (drop (length c) d))) before after ∙ ap (λ (l : List Row). prints (rows_text l)) (drop-length ca.rows))
      ∙ append-nil (script_of_step x (run x s (t + i))))

  -- the last may
  pub last_rows : (i : ℕ) → n ≡ suc i → (a ≤ complete x s (t + i)) × (complete x s (t + i) ≤ b) → (more : List Row) → (cvm_at (run_at x y s Boot turns steps) p (t + n)).rows ≡ ca.rows ++ more →
      rows_script Boot (run_at x y s Boot turns steps) p (t + i) ≡ prints (rows_text more)
  last_rows i is here more now =
      let end : suc (t + i) ≡ t + n = omega (arith, is) in
      ap₂ (λ (c d : List Row). prints (rows_text (drop (length c) d))) (rows_at (t + i) (omega arith) (omega (arith, is)) here.0 here.1) (ap (λ j. (cvm_at r p j).rows) end ∙ now)
      ∙ ap (λ (l : List Row). prints (rows_text l)) (drop-append_seam ca.rows more)

  -- so they are made where their transfers are
  pub made_quiet : ((j : ℕ) → t ≤ j → j ≤ t + n → (a ≤ complete x s j) × (complete x s j ≤ b)) → (old new : Outside) (blamed : Option Who) →
      InSteps (λ i. script_of_step x (run x s (t + i))) n old new blamed → InSteps (λ i. step_script (run_at x y s Boot turns steps) p (t + i)) n old new blamed
  made_quiet between old new blamed made = in_same (λ i. script_of_step x (run x s (t + i))) (λ i. step_script (run_at x y s Boot turns steps) p (t + i)) n old new blamed (quiet_steps n (omega arith) between) made

  -- and the last where its transfer is, and what is behind that
  pub made_last : (i : ℕ) → n ≡ suc i → ((j : ℕ) → t ≤ j → j ≤ t + i → (a ≤ complete x s j) × (complete x s j ≤ b)) → (old mid new : Outside) (before blamed : Option Who) →
      ((here : Outside) → Performs (script_of_step x (run x s (t + i))) here mid before → Performs (step_script (run_at x y s Boot turns steps) p (t + i)) here new blamed) →
      InSteps (λ i. script_of_step x (run x s (t + i))) n old mid before → InSteps (λ i. step_script (run_at x y s Boot turns steps) p (t + i)) n old new blamed
  made_last i is between old mid new before blamed last made =
      subst (λ l. InSteps (λ i. step_script (run_at x y s Boot turns steps) p (t + i)) l old new blamed) (sym is)
      (in_last (λ i. script_of_step x (run x s (t + i))) (λ i. step_script (run_at x y s Boot turns steps) p (t + i)) i old mid new before blamed (quiet_steps i (omega (arith, is)) between) last
      (subst (λ l. InSteps (λ i. script_of_step x (run x s (t + i))) l old mid before) is made))

-- the row of a fault behind the last steps of a trace
fault_is : (follow : RowsFollow) (j : List JournalEntry) (f : List ℕ) → steps_row (pending_steps j) ++ (codes "fault " ++ f ++ 10 ∷ []) ≡ last_steps j ++ codes "fault " ++ f ++ codes "\n"
fault_is follow j f =
    let last : last_steps j ≡ steps_row (pending_steps j) = ap (drop (length (open_journal_rows j))) (follow.end j) ∙ drop-append_seam (open_journal_rows j) (steps_row (pending_steps j)) in
    ap (λ (l : List ℕ). l ++ (codes "fault " ++ f ++ 10 ∷ [])) (sym last)
    ∙ sym (append_assoc (last_steps j) (codes "fault " ++ f) (10 ∷ []))
    ∙ ap (λ (l : List ℕ). l ++ 10 ∷ []) (sym (append_assoc (last_steps j) (codes "fault ") f))

-- THE ROW OF A TRACE'S FAULT is put, or none
module _ {O D : Type 0} (text : sink_of.Ghosts O) (told : sectors_of.Ghosts D) (shelf : Files) (o o1 : O) (d : D) (follow : RowsFollow) (x : device.Environment) (y : System) (s : State) (u turns steps : ℕ) (p : Past) (e : ℕ)
    (c : Cvm) (c_is : cvm_at (run_at x y s (Trace u) turns steps) p e ≡ c) (j : List JournalEntry) (j_is : p.shown e ≡ j) (ended : Option Next) where
  abbrev tr : Run
  tr = run_at x y s (Trace u) turns steps

  no_put : (w : Option Who) → (w ≢ None → false ≡ true) → Puts [] (output text o) (output text o1) w → Performs [] (at text told shelf o d) (at text told shelf o1 d) w
  no_put None f q = none_put text told shelf o o1 d [] refl q
  no_put (Some whom) f q = absurd (let h = f (λ z. cc) in cc)

  none_put_by : ended ≡ None ⊎ ended ≡ Some Halt → (blamed : Option Who) → (blamed ≢ None → has_faulted ended ≡ true) → Puts (fault_rows (pending_steps j) ended) (output text o) (output text o1) blamed → Performs [] (at text told shelf o d) (at text told shelf o1 d) blamed
  none_put_by (inl is) blamed faulted puts =
      no_put blamed (λ ne. subst (λ (n : Option Next). has_faulted n ≡ true) is (faulted ne)) (subst (λ (n : Option Next). Puts (fault_rows (pending_steps j) n) (output text o) (output text o1) blamed) is puts)
  none_put_by (inr is) blamed faulted puts =
      no_put blamed (λ ne. subst (λ (n : Option Next). has_faulted n ≡ true) is (faulted ne)) (subst (λ (n : Option Next). Puts (fault_rows (pending_steps j) n) (output text o) (output text o1) blamed) is puts)

  -- where the kernel faulted the machine is off
  pub fault_put : (off : Option ℕ) (st : Status) → c.status ≡ st → ended ≡ ended_of st → ((f : KernelFault) → st ≡ Faulted f → off ≡ Some (power_of f)) → (blamed : Option Who) → (blamed ≢ None → has_faulted ended ≡ true) →
      Puts (fault_rows (pending_steps j) ended) (output text o) (output text o1) blamed → Performs (fault_script (Trace u) (run_at x y s (Trace u) turns steps) p e off st) (at text told shelf o d) (at text told shelf o1 d) blamed
  fault_put off Running e_st is rests blamed faulted puts =
      subst (λ (l : List Call). Performs l (at text told shelf o d) (at text told shelf o1 d) blamed) (sym (goes_none (Trace u) tr p e off Running refl)) (none_put_by (inl is) blamed faulted puts)
  fault_put None Halted e_st is rests blamed faulted puts = none_put_by (inr is) blamed faulted puts
  fault_put (Some power) Halted e_st is rests blamed faulted puts = none_put_by (inr is) blamed faulted puts
  fault_put None (Faulted f) e_st is rests blamed faulted puts = absurd (let h : ◌≡◌ {A = Option ℕ} None (Some (power_of f)) = rests f refl in cc)
  fault_put (Some power) (Faulted f) e_st is rests blamed faulted puts =
      let rows : List ℕ = last_steps j ++ codes "fault " ++ fault_name f ++ codes "\n" in
      let there : (cvm_at tr p e).status ≡ Faulted f = ap (λ (q : Cvm). q.status) c_is ∙ e_st in
      let all : report_by (Trace u) tr p e ≡ says (last_steps j ++ codes "fault " ++ fault_name f ++ codes "\n") =
      ap₂ (λ (i : List JournalEntry) (st : Status). trace_report y (run x s e) (cvm_at tr p e) u i st) j_is there in
      same_script (says rows) (report_by (Trace u) tr p e) (at text told shelf o d) (at text told shelf o1 d) blamed (sym all)
      (says_put text told shelf o o1 d rows blamed
      (subst (λ (l : List ℕ). Puts l (output text o) (output text o1) blamed) (ap (fault_rows (pending_steps j)) is ∙ fault_is follow j (fault_name f)) puts))

-- at the end of a turn the abstract machine is as the run says
at_end : (x : device.Environment) (y : System) (s : State) (late held : ℕ) → RunMachines x y s late held → (v : View) (turns steps : ℕ) (p : Past) (t n : ℕ) → TellsFrom (run_at x y s v turns steps) p t (t + n) → (k from : ℕ) (c : Cvm) →
    (a : TurnAhead x y s k from c) → t + n ≡ a.end → cvm_at (run_at x y s v turns steps) p (t + n) ≡ a.after
at_end x y s late held m v turns steps p t n tells k from c a there =
    m.same (complete x s (t + n)) (cvm_at (run_at x y s v turns steps) p (t + n)) a.after (tells.turns (t + n) (omega arith) (omega arith))
    (subst (λ z. IsCvm y (lines_of_turn x s) z a.after) (sym (ap (complete x s) there ∙ a.stood.all)) a.stood.cvm)

-- WHAT IS CALLED BEFORE THE TURNS, in their steps and behind them: by the run before and after, and by sinks, disks and budgets
module _ {L O D : Type 0} (text : sink_of.Ghosts O) (told : sectors_of.Ghosts D) (r new : Kept L) (o o1 o2 o3 : O) (d d1 : D) (budget left most : ℕ) (views : Views r)
    (law : (u : CUnit) → MachinesRun (IsTypedState u)) (grow : (u : CUnit) → TracesGrow (IsTypedState u)) (follow : RowsFollow) where
  abbrev x : device.Environment
  x = outside_of r.machine.rows (told.size d)

  -- the calls of so many steps, of a run viewed so, by whom they blame
  abbrev CallsAs : O → D → (n : ℕ) → Option Who → View → Type 0
  CallsAs o9 d9 n blamed v = (u : CUnit) (y : System) (s : State) (late held : ℕ) (k t : ℕ) (c : Cvm) → y.boot ≡ boot_of r.boot → StartsFrom (IsTypedState u) (outside_of r.machine.rows (told.size d)) y s late held →
      ReadyAt (outside_of r.machine.rows (told.size d)) y s v k t c (run_around r (told.sectors d) budget) → c.status ≡ Running → (turns steps : ℕ) (p : Past) →
      TellsFrom (run_at (outside_of r.machine.rows (told.size d)) y s v turns steps) p t (t + n) → (shelf : Files) →
      InTurns (run_at (outside_of r.machine.rows (told.size d)) y s v turns steps) p k t n (at text told shelf o d) (at text told shelf o9 d9) blamed

  -- what turns come to, of a run viewed so
  abbrev EndsAs : Result (ℕ × Turn) RunFault → View → Type 0
  EndsAs result v = (u : CUnit) (y : System) (s : State) (late held : ℕ) (k t : ℕ) (c : Cvm) → y.boot ≡ boot_of r.boot → StartsFrom (IsTypedState u) (outside_of r.machine.rows (told.size d)) y s late held →
      ReadyAt (outside_of r.machine.rows (told.size d)) y s v k t c (run_around r (told.sectors d) budget) → c.status ≡ Running →
      TurnsEnd (outside_of r.machine.rows (told.size d)) y s v k t c most (run_around r (told.sectors d) budget) (run_around new (told.sectors d1) left) result

  -- the first row of a trace, where it is put
  begin_put : (kept : Tracer) (y : System) (s : State) (turns steps k : ℕ) (shelf : Files) (blamed : Option Who) → r.tracer ≡ Some kept → y.boot ≡ boot_of r.boot → r.turns ≡ k → (blamed ≢ None → r.turns ≡ 0) →
      Puts (rows_before r.boot r.tracer r.turns) (output text o) (output text o1) blamed →
      Performs (begin_script (run_at (outside_of r.machine.rows (told.size d)) y s (Trace kept.user) turns steps) k) (at text told shelf o d) (at text told shelf o1 d) blamed
  begin_put kept y s turns steps k shelf blamed e same at_k first_turn puts = by k at_k (subst (λ (l : List ℕ). Puts l (output text o) (output text o1) blamed) (ap (λ q. rows_before r.boot q r.turns) e ∙ starts r.boot kept r.turns y same) puts)
    where
      by : (k : ℕ) → r.turns ≡ k → Puts (start_at y kept.user r.turns) (output text o) (output text o1) blamed →
          Performs (begin_script (run_at (outside_of r.machine.rows (told.size d)) y s (Trace kept.user) turns steps) k) (at text told shelf o d) (at text told shelf o1 d) blamed
      by zero z q = says_put text told shelf o o1 d (start_at y kept.user 0) blamed (subst (λ i. Puts (start_at y kept.user i) (output text o) (output text o1) blamed) z q)
      by (suc i) z q = none blamed (λ ne. (let n = first_turn ne in omega (arith, n, z))) (subst (λ i. Puts (start_at y kept.user i) (output text o) (output text o1) blamed) z q)
        where
          none : (w : Option Who) → (w ≢ None → ⊥) → Puts [] (output text o) (output text o1) w → Performs [] (at text told shelf o d) (at text told shelf o1 d) w
          none None h q = none_put text told shelf o o1 d [] refl q
          none (Some whom) h q = absurd (h (λ z. cc))

  begin_none : (y : System) (s : State) (turns steps k : ℕ) (shelf : Files) → r.tracer ≡ None → Puts (rows_before r.boot r.tracer r.turns) (output text o) (output text o1) None →
      Performs (begin_script (run_at (outside_of r.machine.rows (told.size d)) y s Boot turns steps) k) (at text told shelf o d) (at text told shelf o1 d) None
  begin_none y s turns steps k shelf e puts = by k
    where
      nothing : Performs [] (at text told shelf o d) (at text told shelf o1 d) None
      nothing = none_put text told shelf o o1 d (rows_before r.boot r.tracer r.turns) (ap (λ q. rows_before r.boot q r.turns) e) puts

      by : (k : ℕ) → Performs (begin_script (run_at (outside_of r.machine.rows (told.size d)) y s Boot turns steps) k) (at text told shelf o d) (at text told shelf o1 d) None
      by zero = nothing
      by (suc i) = nothing

  few : (y : System) (u : ℕ) → y.boot ≡ boot_of r.boot → u ≤ length r.boot.users.items → u ≤ length y.boot.users
  few y u same le = subst (λ n. u ≤ n) (sym (ap (λ (q : CvmBoot). length q.users) same ∙ length-map r.boot.users.items (λ words. words.items))) le

  gone : (q : Option Tracer) → q ≡ None → IsSome q → ⊥
  gone None e h = cc
  gone (Some k) e h = absurd (cc)

  -- WHAT STANDS BEFORE THE FIRST TURN was cut off, and no step is made
  pub begun_cut : {T : Type 0} → IsSome r.tracer → r.turns ≡ 0 → Puts (rows_before r.boot r.tracer r.turns) (output text o) (output text o1) (Some TheSink) → (n : ℕ) → n ≡ 0 →
      TurnsCall {T = T} text told r budget (o, d) (o1, d) n (Err Sink)
  begun_cut {T} traced first_turn puts n none = record {
    exact = by_view r views (CallsAs o1 d n (Some TheSink))
        (λ e. absurd (gone r.tracer e traced))
        (λ kept e low high. λ u y s late held k t c same lawful ready running turns steps p tells shelf.
        turns_cut (run_at (outside_of r.machine.rows (told.size d)) y s (Trace kept.user) turns steps) p k t n none (at text told shelf o d) (at text told shelf o1 d) TheSink
        (begin_put kept y s turns steps k shelf (Some TheSink) e same ready.turns (λ ne. first_turn) puts));
    some = λ _. (Printed None ∷ [], tt, λ shelf. some_put text told shelf o o1 d (rows_before r.boot r.tracer r.turns) (Some TheSink) puts);
  }

  module _ (puts : Puts (rows_before r.boot r.tracer r.turns) (output text o) (output text o1) None) (n : ℕ) (n_is : n ≡ budget - left) where
    -- THE TURNS WERE BROKEN OFF
    module _ {R : Type 0} (f : RunFault) (calls : StepsCall {T = R} text told (map_of (boot_of r.boot)) r.machine r.tracer (o1, d) (o2, d1) n (Err f)) where
      -- in a step whose calls fail
      boot_breaks : (y : System) (s : State) (late held : ℕ) → RunMachines x y s late held → (k t : ℕ) (c : Cvm) → Stood x y s k t c → (i : ℕ) → i ≤ budget → (w : Skipped x y s k t c i) → (at : ℕ) → t + i ≤ at →
          left + (at + 1) ≡ budget - i + (t + i) → StillGoes x y s (k + i) (t + i) at → (turns steps : ℕ) (p : Past) → TellsFrom (run_at x y s Boot turns steps) p t (t + n) → (old new : Outside) (whom : Who) →
          InSteps (λ j. script_of_step x (run x s (t + j))) n old new (Some whom) → InSteps (λ j. step_script (run_at x y s Boot turns steps) p (t + j)) n old new (Some whom)
      boot_breaks y s late held m k t c stood i le w at from spent goes turns steps p tells old new whom made =
          let many : n ≡ suc (at - t) = omega (arith, n_is, spent, le, from) in
          made_last x y s late held m turns steps p t n tells k (k + i) c w.after stood.cvm w.stood.cvm w.rows (at - t) many
          (spread x y s k t c i w (t + (at - t)) (λ j low high. goes.between j low (omega (arith, high, from)))) old new new (Some whom) (Some whom)
          (λ here broken. first (script_of_step x (run x s (t + (at - t)))) (rows_script Boot (run_at x y s Boot turns steps) p (t + (at - t))) here new whom broken) made

      boot_fails : (f' : RunFault) → (y : System) (s : State) (late held : ℕ) → RunMachines x y s late held → (k t : ℕ) (c : Cvm) → Stood x y s k t c → (i : ℕ) → i ≤ budget → (w : Skipped x y s k t c i) →
          (now : Option State) → Stops x y s (k + i) (t + i) now (budget - i) left f' →
          (turns steps : ℕ) (p : Past) → TellsFrom (run_at x y s Boot turns steps) p t (t + n) → (old new : Outside) → InSteps (λ j. script_of_step x (run x s (t + j))) n old new (of_run f') →
          InSteps (λ j. step_script (run_at x y s Boot turns steps) p (t + j)) n old new (of_run f')
      boot_fails StepLimit y s late held m k t c stood i le w now fails turns steps p tells old new made =
          let spent : left ≡ 0 = fails.spent in
          let all : t + n ≡ t + i + (budget - i) = omega (arith, n_is, spent, le) in
          made_quiet x y s late held m turns steps p t n tells k (k + i) c w.after stood.cvm w.stood.cvm w.rows
          (spread x y s k t c i w (t + n) (λ j from to. fails.goes.between j from (omega (arith, to, all)))) old new None made
      boot_fails Disk y s late held m k t c stood i le w now fails turns steps p tells old new made = boot_breaks y s late held m k t c stood i le w fails.at fails.from fails.spent fails.goes turns steps p tells old new TheDisk made
      boot_fails Sink y s late held m k t c stood i le w now fails turns steps p tells old new made = boot_breaks y s late held m k t c stood i le w fails.at fails.from fails.spent fails.goes turns steps p tells old new TheSink made

      -- of a run that is out of steps nothing is behind them
      none_behind : (f' : RunFault) → (v : View) (y : System) (s : State) (late held : ℕ) → RunMachines x y s late held → (k t : ℕ) (c : Cvm) (i : ℕ) → i ≤ budget → (w : Skipped x y s k t c i) →
          (now : Option State) → Stops x y s (k + i) (t + i) now (budget - i) left f' →
          (turns steps : ℕ) (p : Past) → TellsFrom (run_at x y s v turns steps) p t (t + n) → of_run f' ≡ None →
          fault_script v (run_at x y s v turns steps) p (t + n) (run x s (t + n)).off (cvm_at (run_at x y s v turns steps) p (t + n)).status ≡ []
      none_behind StepLimit v y s late held m k t c i le w now fails turns steps p tells e =
          let spent : left ≡ 0 = fails.spent in
          let all : t + n ≡ t + i + (budget - i) = omega (arith, n_is, spent, le) in
          let here : complete x s (t + n) ≡ k + i = fails.goes.between (t + n) (omega (arith, all)) (omega (arith, all)) in
          let is : cvm_at (run_at x y s v turns steps) p (t + n) ≡ w.after =
          m.same (k + i) (cvm_at (run_at x y s v turns steps) p (t + n)) w.after (subst (λ j. IsCvm y (lines_of_turn x s) j (cvm_at (run_at x y s v turns steps) p (t + n))) here (tells.turns (t + n) (omega arith) (omega arith))) w.stood.cvm in
          goes_none v (run_at x y s v turns steps) p (t + n) (run x s (t + n)).off (cvm_at (run_at x y s v turns steps) p (t + n)).status (ap (λ (q : Cvm). q.status) is ∙ w.running)
      none_behind Disk v y s late held m k t c i le w now fails turns steps p tells e = absurd (let h = e in cc)
      none_behind Sink v y s late held m k t c i le w now fails turns steps p tells e = absurd (let h = e in cc)

      pub broken_calls : {T : Type 0} → Moved (told.size d) r new most (told.sectors d) (told.sectors d1) budget left (Err f) → TurnsCall {T = T} text told r budget (o, d) (o2, d1) n (Err f)
      broken_calls {T} moved = record {
        exact = by_view r views (CallsAs o2 d1 n (of_run f))
            (λ e. λ u y s late held k t c same lawful ready running turns steps p tells shelf.
            let q = moved.advances u y s late held lawful k t c ready.stood running ready.state in
            let m = law u x y s late held lawful in
            let rn : Run = run_at x y s Boot turns steps in
            turns_alone rn p k t n (at text told shelf o d) (at text told shelf o1 d) (at text told shelf o2 d1) (of_run f)
            (λ _. no_fault rn p (t + n) (run x s (t + n)).off (cvm_at rn p (t + n)).status refl)
            (begin_none y s turns steps k shelf e puts)
            (boot_fails f y s late held m k t c ready.stood q.0 q.2 q.3 (state_seen (told.sectors d1) new.machine) q.4 turns steps p tells (at text told shelf o1 d) (at text told shelf o2 d1) (calls.untraced e s t ready.state shelf)))
            (λ kept e low high. λ u y s late held k t c same lawful ready running turns steps p tells shelf.
            let q = moved.advances u y s late held lawful k t c ready.stood running ready.state in
            let m = law u x y s late held lawful in
            let rn : Run = run_at x y s (Trace kept.user) turns steps in
            turns_alone rn p k t n (at text told shelf o d) (at text told shelf o1 d) (at text told shelf o2 d1) (of_run f)
            (none_behind f (Trace kept.user) y s late held m k t c q.0 q.2 q.3 (state_seen (told.sectors d1) new.machine) q.4 turns steps p tells)
            (begin_put kept y s turns steps k shelf None e same ready.turns (λ ne. absurd (ne refl)) puts)
            (calls.traced u y s late held kept.user t lawful (ap map_of (sym same)) low (few y kept.user same high) ready.state ready.traces p turns steps tells.user shelf));
        some = λ _. (
          Printed None ∷ calls.some.0,
          calls.some.1,
          λ shelf. both (Printed None ∷ []) calls.some.0 (at text told shelf o d) (at text told shelf o1 d) (at text told shelf o2 d1) (of_run f) (some_put text told shelf o o1 d (rows_before r.boot r.tracer r.turns) None puts) (calls.some.2 shelf),
        );
      }

    -- THE TURNS WERE MADE, and what is behind them was put, or cut off
    module _ {R : Type 0} (v0 : R) (calls : StepsCall {T = R} text told (map_of (boot_of r.boot)) r.machine r.tracer (o1, d) (o2, d1) n (Ok v0)) (made : ℕ) (answer : Turn) (blamed : Option Who)
        (behind : Puts (rows_after new.tracer new.ended answer) (output text o2) (output text o3) blamed) (none_kept : r.tracer ≡ None → new.tracer ≡ None)
        (one_row : r.tracer ≡ None → blamed ≢ None → (row : Row) × (rows_of_turn answer ≡ row ∷ [])) (faulted : IsSome new.tracer → blamed ≢ None → has_faulted new.ended ≡ true) where
      -- a row is a text
      some_row : (rows : List Row) → (blamed ≢ None → (row : Row) × (rows ≡ row ∷ [])) → rows_text rows ≡ [] → blamed ≡ None
      some_row rows h e = by blamed h
        where
          by : (w : Option Who) → (w ≢ None → (row : Row) × (rows ≡ row ∷ [])) → w ≡ None
          by None h = refl
          by (Some whom) h = let z = h (λ q. cc) in absurd (let g : rows_text (z.0 ∷ []) ≡ [] = sym (ap rows_text z.1) ∙ e in cc)

      boot_made : r.tracer ≡ None → EndsAs (Ok (made, answer)) Boot → CallsAs o3 d1 n blamed Boot
      boot_made e ends u y s late held k t c same lawful ready running turns steps p tells shelf =
          let q = ends u y s late held k t c same lawful ready running in
          let i = q.0 in
          let le : i ≤ budget = q.2 in
          let w : Skipped x y s k t c i = q.3 in
          let g : Turned x y s Boot (k + i) (t + i) w.after (record (run_around r (told.sectors d) budget) { budget = budget - i }) (run_around new (told.sectors d1) left) answer = q.4.1 in
          let m = law u x y s late held lawful in
          let rn : Run = run_at x y s Boot turns steps in
          let sum : left + g.ahead.end ≡ budget - i + (t + i) = g.budget in
          let from : t + i ≤ g.ahead.start = g.ahead.from in
          let to : g.ahead.start < g.ahead.end = g.ahead.to in
          let there : t + n ≡ g.ahead.end = omega (arith, n_is, sum, le, from, to) in
          let many : n ≡ suc (n - 1) = omega (arith, there, from, to) in
          let is : cvm_at rn p (t + n) ≡ g.ahead.after = at_end x y s late held m Boot turns steps p t n tells (k + i) (t + i) w.after g.ahead there in
          let rows : (cvm_at rn p (t + n)).rows ≡ c.rows ++ rows_of_turn answer = ap (λ (z : Cvm). z.rows) is ∙ g.rows ∙ ap (λ (l : List Row). l ++ rows_of_turn answer) w.rows in
          let between = spread x y s k t c i w (t + (n - 1)) (λ j low high. g.ahead.between j low (omega (arith, high, there, from, to))) in
          let last : rows_script Boot rn p (t + (n - 1)) ≡ prints (rows_text (rows_of_turn answer)) =
          last_rows x y s late held m turns steps p t n tells k (k + i) c w.after ready.stood.cvm w.stood.cvm w.rows (n - 1) many (between (t + (n - 1)) (omega arith) (omega arith)) (rows_of_turn answer) rows in
          let after : Puts (rows_text (rows_of_turn answer)) (output text o2) (output text o3) blamed = subst (λ (z : Option Tracer). Puts (rows_after z new.ended answer) (output text o2) (output text o3) blamed) (none_kept e) behind in
          turns_alone rn p k t n (at text told shelf o d) (at text told shelf o1 d) (at text told shelf o3 d1) blamed
          (λ _. no_fault rn p (t + n) (run x s (t + n)).off (cvm_at rn p (t + n)).status refl)
          (begin_none y s turns steps k shelf e puts)
          (made_last x y s late held m turns steps p t n tells k (k + i) c w.after ready.stood.cvm w.stood.cvm w.rows (n - 1) many between (at text told shelf o1 d) (at text told shelf o2 d1) (at text told shelf o3 d1) None blamed
          (λ here of_last. same_script (script_of_step x (run x s (t + (n - 1))) ++ prints (rows_text (rows_of_turn answer))) (step_script rn p (t + (n - 1))) here (at text told shelf o3 d1) blamed
          (ap (λ (l : List Call). script_of_step x (run x s (t + (n - 1))) ++ l) (sym last))
          (both (script_of_step x (run x s (t + (n - 1)))) (prints (rows_text (rows_of_turn answer))) here (at text told shelf o2 d1) (at text told shelf o3 d1) blamed of_last
          (prints_put text told shelf o2 o3 d1 (rows_text (rows_of_turn answer)) blamed (some_row (rows_of_turn answer) (one_row e)) after)))
          (calls.untraced e s t ready.state shelf))

      off_at : (x : device.Environment) (s : State) (a b : ℕ) → a ≡ b → (f : KernelFault) (st : Status) → st ≡ Faulted f → Rests st (run x s b) → (run x s a).off ≡ Some (power_of f)
      off_at x s a b e f st is rests = ap (λ i. (run x s i).off) e ∙ subst (λ (z : Status). Rests z (run x s b)) is rests

      trace_made : (kept : Tracer) → r.tracer ≡ Some kept → 1 ≤ kept.user → kept.user ≤ length r.boot.users.items → EndsAs (Ok (made, answer)) (Trace kept.user) → CallsAs o3 d1 n blamed (Trace kept.user)
      trace_made kept e low high ends u y s late held k t c same lawful ready running turns steps p tells shelf =
          let q = ends u y s late held k t c same lawful ready running in
          let i = q.0 in
          let le : i ≤ budget = q.2 in
          let w : Skipped x y s k t c i = q.3 in
          let g : Turned x y s (Trace kept.user) (k + i) (t + i) w.after (record (run_around r (told.sectors d) budget) { budget = budget - i }) (run_around new (told.sectors d1) left) answer = q.4.1 in
          let m = law u x y s late held lawful in
          let grows = grow u x y s late held kept.user lawful low (few y kept.user same high) in
          let rn : Run = run_at x y s (Trace kept.user) turns steps in
          let sum : left + g.ahead.end ≡ budget - i + (t + i) = g.budget in
          let from : t + i ≤ g.ahead.start = g.ahead.from in
          let to : g.ahead.start < g.ahead.end = g.ahead.to in
          let there : t + n ≡ g.ahead.end = omega (arith, n_is, sum, le, from, to) in
          let is : cvm_at rn p (t + n) ≡ g.ahead.after = at_end x y s late held m (Trace kept.user) turns steps p t n tells (k + i) (t + i) w.after g.ahead there in
          let traces = g.ready.traces in
          let j : List JournalEntry = traces.journal in
          let shown : p.shown (t + n) ≡ j =
          grows.one (t + n) (p.shown (t + n)) j (tells.user (t + n) (omega arith) (omega arith)) (subst (λ z. Shown x s y kept.user z j) (sym there) traces.shown) in
          let rows : rows_after new.tracer new.ended answer ≡ fault_rows (pending_steps j) new.ended = ap (λ z. rows_after z new.ended answer) traces.keeps in
          turns_behind rn p k t n (at text told shelf o d) (at text told shelf o1 d) (at text told shelf o2 d1) (at text told shelf o3 d1) blamed
          (begin_put kept y s turns steps k shelf None e same ready.turns (λ ne. absurd (ne refl)) puts)
          (calls.traced u y s late held kept.user t lawful (ap map_of (sym same)) low (few y kept.user same high) ready.state ready.traces p turns steps tells.user shelf)
          (fault_put text told shelf o2 o3 d1 follow x y s kept.user turns steps p (t + n) g.ahead.after is j shown new.ended (run x s (t + n)).off (cvm_at rn p (t + n)).status (sym (ap (λ (z : Cvm). z.status) is))
          (g.ready.ended ∙ ap ended_of (sym (ap (λ (z : Cvm). z.status) is)))
          (λ f e_st. off_at x s (t + n) g.ahead.end there f (g.ahead.after.status) (sym (ap (λ (z : Cvm). z.status) is) ∙ e_st) g.ahead.stood.rests.0) blamed (faulted (subst IsSome (sym traces.keeps) refl))
          (subst (λ (l : List ℕ). Puts l (output text o2) (output text o3) blamed) rows behind))

      pub made_calls : {T : Type 0} (result : Result T RunFault) → blame of_run result ≡ blamed →
          TurnsRun (told.size d) r most (run_around r (told.sectors d) budget) (run_around new (told.sectors d1) left) (Ok (made, answer)) → TurnsCall text told r budget (o, d) (o3, d1) n result
      made_calls result is runs = record {
        exact = subst (λ (w : Option Who). CallsAs o3 d1 n w r.view) (sym is)
            (by_view r views (λ v. EndsAs (Ok (made, answer)) v → CallsAs o3 d1 n blamed v) boot_made trace_made runs);
        some = λ _. (
          Printed None ∷ calls.some.0 ++ Printed None ∷ [],
          of_both calls.some.0 (Printed None ∷ []) calls.some.1 tt,
          λ shelf. subst (Performs (Printed None ∷ calls.some.0 ++ Printed None ∷ []) (at text told shelf o d) (at text told shelf o3 d1)) (sym is)
              (both (Printed None ∷ []) (calls.some.0 ++ Printed None ∷ []) (at text told shelf o d) (at text told shelf o1 d) (at text told shelf o3 d1) blamed (some_put text told shelf o o1 d (rows_before r.boot r.tracer r.turns) None puts)
              (both calls.some.0 (Printed None ∷ []) (at text told shelf o1 d) (at text told shelf o2 d1) (at text told shelf o3 d1) blamed (calls.some.2 shelf) (some_put text told shelf o2 o3 d1 (rows_after new.tracer new.ended answer) blamed behind))),
        );
      }

-- a run that kept a fault, or has ended, calls nothing
module _ {L O D T : Type 0} (text : sink_of.Ghosts O) (told : sectors_of.Ghosts D) (r : Kept L) (o o1 : O) (d d1 : D) (budget n : ℕ) (result : Result T RunFault) where
  pub faulted_calls : (f : RunFault) → r.fault ≡ Some f → TurnsCall text told r budget (o, d) (o1, d1) n result
  faulted_calls f is = record {
    exact = λ u y s late held k t c same lawful ready running turns steps p tells shelf. absurd (let e : ◌≡◌ {A = Option RunFault} (Some f) None = sym is ∙ ready.fault in cc);
    some = λ none. absurd (let e : ◌≡◌ {A = Option RunFault} (Some f) None = sym is ∙ none in cc);
  }

-- an answer of another call that blames the same
as_calls : {L O D T R : Type 0} (text : sink_of.Ghosts O) (told : sectors_of.Ghosts D) (r : Kept L) (o o1 : O) (d d1 : D) (budget n : ℕ) (before : Result T RunFault) (result : Result R RunFault) → blame of_run before ≡ blame of_run result →
    TurnsCall text told r budget (o, d) (o1, d1) n before → TurnsCall text told r budget (o, d) (o1, d1) n result
as_calls text told r o o1 d d1 budget n before result same calls = record {
  exact = λ u y s late held k t c at lawful ready running turns steps p tells shelf.
      subst (InTurns (run_at (outside_of r.machine.rows (told.size d)) y s r.view turns steps) p k t n (record { shelf = shelf; sink = output text o; disk = drive told d }) (record { shelf = shelf; sink = output text o1; disk = drive told d1 })) same
      (calls.exact u y s late held k t c at lawful ready running turns steps p tells shelf);
  some = λ none. (let q = calls.some none in (q.0, q.1, λ shelf. subst (Performs q.0 (record { shelf = shelf; sink = output text o; disk = drive told d }) (record { shelf = shelf; sink = output text o1; disk = drive told d1 })) same (q.2 shelf)));
}

pub as_script : {L O D T R : Type 0} (text : sink_of.Ghosts O) (told : sectors_of.Ghosts D) (r : Kept L) (o o1 : O) (d d1 : D) (budget n : ℕ) (before : Result T RunFault) (result : Result R RunFault) → blame of_run before ≡ blame of_run result →
    TurnsScript text told r budget (o, d) (o1, d1) n before → TurnsScript text told r budget (o, d) (o1, d1) n result
as_script text told r o o1 d d1 budget n before result same calls = record {
  boots = as_calls text told r o o1 d d1 budget n before result same calls.boots;
  untold = λ s k t traced ended fault comes on stands shelf.
      subst (InSteps (untold_step (outside_of r.machine.rows (told.size d)) s t) n (record { shelf = shelf; sink = output text o; disk = drive told d }) (record { shelf = shelf; sink = output text o1; disk = drive told d1 })) same
      (calls.untold s k t traced ended fault comes on stands shelf);
}

ended_calls : {L O D T : Type 0} (text : sink_of.Ghosts O) (told : sectors_of.Ghosts D) (r : Kept L) (o : O) (d : D) (budget n : ℕ) (v : T) (e : Next) → r.ended ≡ Some e → TurnsCall {T = T} text told r budget (o, d) (o, d) n (Ok v)
ended_calls text told r o d budget n v e is = record {
  exact = λ u y s late held k t c same lawful ready running turns steps p tells shelf.
      absurd (let h : ◌≡◌ {A = Option Next} (Some e) None = sym is ∙ ready.ended ∙ ap ended_of running in cc);
  some = λ none. ([], tt, λ shelf. done (record { shelf = shelf; sink = output text o; disk = drive told d }));
}

pub over_calls : {L O D T : Type 0} (text : sink_of.Ghosts O) (told : sectors_of.Ghosts D) (r : Kept L) (o : O) (d : D) (budget n : ℕ) (v : T) → IsSome r.ended → TurnsCall {T = T} text told r budget (o, d) (o, d) n (Ok v)
over_calls text told r o d budget n v some = by r.ended refl some
  where
    by : (e : Option Next) → r.ended ≡ e → IsSome e → TurnsCall text told r budget (o, d) (o, d) n (Ok v)
    by None is h = absurd (cc)
    by (Some e) is h = ended_calls text told r o d budget n v e is
