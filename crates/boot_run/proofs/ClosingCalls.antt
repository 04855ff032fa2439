-- The script of a call of `report`, where the machine of a run stands between turns.
use Rattle.std.proofs.Common.{◌≡◌, ℕ, zero, suc, ◌+◌, ◌-◌, ◌*◌, ◌≤◌, Bool, true, false, Option, Some, None, List, [], ◌∷◌, ◌++◌, length, drop, Result, Ok, refl, sym, ap, ap₂, ◌∙◌, subst, arith}
use Rattle.std.specs.Prelude.{◌==◌, is_some, if◌then◌else◌, IsTrue}
use Rattle.std.specs.Option.{option_map}
use Rattle.std.proofs.lemmas.List.{length-map}
use Rattle.std.proofs.Math.Seq.{drop-append_seam}
use Rattle.c0_tree.specs.Primitives.{kernel_primitives}
use Rattle.c0_tree.specs.View.{unit_view}
use Rattle.c0_tree.specs.Tree.{CUnit}
use Rattle.c0_tree.specs.declared.tree.Decl.{Decl}
use Rattle.c0_meaning.specs.TypedState.{IsTypedState}
use Rattle.c0_meaning.specs.Unit.{IsWellFormed}
use Rattle.cvm_outside.specs.declared.sink.Sink as sink_of
use Rattle.cvm_outside.specs.declared.sectors.Sectors as sectors_of
use Rattle.cvm_outside.specs.Script.{Call, Printed, Read, Performs, done, Makes, blame, scripts}
use Rattle.cvm_outside.proofs.RowsPut.{same_script, scripts-none, scripts-suc}
use Rattle.mips_table.specs.Device.{Environment}
use Rattle.mips_table.specs.Machine.{State, run}
use Rattle.mips_table.specs.Turns.{complete, lines_of_turn}
use Rattle.mips_machine.specs.Machine.{Held, state_of}
use Rattle.mips_machine.specs.Steps.{outside_of}
use Rattle.layer_map.specs.Map.{Map}
use Rattle.cvm_model.specs.Cvm.{Boot as CvmBoot, System, Status, Running, Halted, Faulted, Cvm, IsCvm, map_of}
use Rattle.cvm_model.specs.Kernel.{JournalEntry, parts_of_value}
use Rattle.cvm_model.specs.Primitives.{user_of}
use Rattle.cvm_model.specs.Text.{end_text, globals_text, log_text, journal_rows, open_journal_rows, steps_row}
use Rattle.layer_contract.specs.Boots.{boot_of}
use Rattle.boot_report.specs.Resident.{is_resident, page_reads, shown}
use Rattle.boot_report.specs.Scripts as reported
use Rattle.boot_report.specs.Scripts.{of_report}
use Rattle.boot_report.specs.Texts.{page_text, pages_in, log_rows}
use Rattle.boot_report.specs.Told.{RowsTell, UserTells}
use Rattle.boot_report.specs.Given.{GlobalRowsTell}
use Rattle.boot_report.specs.declared.fault.ReportFault.{ReportFault}
use Rattle.boot_turns.specs.Entries.{TracesGrow, TraceGrows}
use Rattle.boot_turns.specs.JournalText.{RowsFollow, pending_steps}
use Rattle.boot_turns.specs.Premises.{StartsFrom}
use Rattle.boot_turns.specs.RunMachines.{RunMachines, MachinesRun, RunsStayTyped}
use Rattle.boot_turns.specs.Trace.{Shown}
use Rattle.boot_turns.specs.Tracing.{tracer_at}
use Rattle.boot_turns.specs.declared.tracer.Tracer.{Tracer}
use Rattle.boot_turns.specs.declared.answers.View.{View}
use Rattle.boot_turns.specs.declared.answers.View.TheVariants.{Boot, Trace}
use Rattle.boot_turns.specs.declared.answers.RunFault.{RunFault}
use Rattle.boot_turns.specs.Runs.{Run, Past, cvm_at}
use Rattle.boot_turns.specs.RowScripts.{of_run}
use Rattle.boot_turns.proofs.SomeCalls.{untold, made_untold}
use Rattle.boot_run.specs.declared.layout.BootLayout.{BootLayout}
use Rattle.boot_run.specs.Closing.{says, boot_report, trace_report, last_steps, user_report_script}
use Rattle.boot_run.specs.LoadEnds.{Kept, viewed, tracer_fits}
use Rattle.boot_run.specs.Placed.{LayoutHolds}
use Rattle.boot_run.specs.Report.{runs_now, closing_calls, trace_calls}
use Rattle.boot_run.specs.RunCalls.{run_at, report_script, TellsFrom, ReportCalls}
use Rattle.boot_run.specs.RunScript.{AreReads}
use Rattle.boot_run.specs.Shown.{has_faulted, ended_of}
use Rattle.boot_run.specs.TurnCalls.{run_around, ReadyAt, Traces}
use Rattle.boot_run.proofs.LoadedTracesHaveRoom.{user_there}
use Rattle.boot_run.proofs.ReportReads.{true_false, its_told, halting, told_rows, told_globals, user_called, users_called, users_are_those}
use Rattle.boot_run.proofs.ReadingCalls.{reads_behind}
use Rattle.boot_run.proofs.ScriptsJoined.{at}

-- which calls a report makes, where nothing is told
of_if : (b : Bool) (q : ℕ) → AreReads (untold (if b then [] else Read q ∷ []))
of_if true q = tt
of_if false q = tt

untold_scripts : (f : ℕ → List Call) (n : ℕ) → ((i : ℕ) → AreReads (untold (f i))) → AreReads (untold (scripts f n))
untold_scripts f zero h = subst (λ (l : List Call). AreReads (untold l)) (sym (scripts-none f)) tt
untold_scripts f (suc n) h = subst (λ (l : List Call). AreReads (untold l)) (sym (scripts-suc f n)) (reads_behind (scripts f n) (f n) (untold_scripts f n h) (h n))

of_user : (m : Map) (held : Held) (told : Option (List (List ℕ))) (runs : Bool) (u : ℕ) → AreReads (untold (reported.user_script m held told runs u))
of_user m held told runs u = untold_scripts (λ p. reported.page_script m (state_of held []) told ((u - 1) * m.params.pages + p) p) (pages_in m held.hardware.memory u) (λ p.
    reads_behind (page_reads m (state_of held []) ((u - 1) * m.params.pages + p)) (Printed (option_map (page_text p) (shown m (state_of held []) told ((u - 1) * m.params.pages + p))) ∷ [])
    (of_if (is_resident m (state_of held []) ((u - 1) * m.params.pages + p)) ((u - 1) * m.params.pages + p)) tt)

pub of_closing : (halted : Bool) (current : ℕ) (held : Held) (told : Option (List (List ℕ))) (layout : BootLayout) (decls : List Decl) → AreReads (untold (closing_calls halted current held told layout decls))
of_closing halted current held told layout decls =
    untold_scripts (λ i. reported.user_script layout.map held told (i + 1 == runs_now halted current) (i + 1)) layout.map.users (λ i. of_user layout.map held told (i + 1 == runs_now halted current) (i + 1))

pub of_trace : (halted : Bool) (current : ℕ) (held : Held) (told : Option (List (List ℕ))) (m : Map) (kept : Tracer) → AreReads (untold (trace_calls halted current held told m kept))
of_trace halted current held told m kept = of_user m held told (kept.user == runs_now halted current) kept.user

-- the report of a run that hasn't faulted, by what the abstract machine says of it
boot_script : (x : Environment) (y : System) (s : State) (turns steps : ℕ) (p : Past) (t : ℕ) (c : Cvm) → cvm_at (run_at x y s Boot turns steps) p t ≡ c → (st : Status) → c.status ≡ st → has_faulted (ended_of st) ≡ false →
    report_script Boot (run_at x y s Boot turns steps) p t st ≡
    says (end_text st ++ globals_text y.boot.meaning.names (parts_of_value c.core.c0.global_values) ++ log_text c.core.console.log)
    ++ scripts (λ i. user_report_script (map_of y.boot) (run x s t) (i + 1) (user_of c.core.users (i + 1))) (length c.core.users)
boot_script x y s turns steps p t c e Running is fine = ap (λ (z : Cvm). boot_report y (run x s t) z z.status) e ∙ ap (boot_report y (run x s t) c) is
boot_script x y s turns steps p t c e Halted is fine = ap (λ (z : Cvm). boot_report y (run x s t) z z.status) e ∙ ap (boot_report y (run x s t) c) is
boot_script x y s turns steps p t c e (Faulted f) is fine = absurd (let h = fine in cc)

trace_script : (x : Environment) (y : System) (s : State) (u turns steps : ℕ) (p : Past) (t : ℕ) (c : Cvm) → cvm_at (run_at x y s (Trace u) turns steps) p t ≡ c → (st : Status) → c.status ≡ st → has_faulted (ended_of st) ≡ false →
    report_script (Trace u) (run_at x y s (Trace u) turns steps) p t st ≡ says (last_steps (p.shown t) ++ end_text st) ++ user_report_script (map_of y.boot) (run x s t) u (user_of c.core.users u)
trace_script x y s u turns steps p t c e Running is fine = ap (λ (z : Cvm). trace_report y (run x s t) z u (p.shown t) z.status) e ∙ ap (trace_report y (run x s t) c u (p.shown t)) is
trace_script x y s u turns steps p t c e Halted is fine = ap (λ (z : Cvm). trace_report y (run x s t) z u (p.shown t) z.status) e ∙ ap (trace_report y (run x s t) c u (p.shown t)) is
trace_script x y s u turns steps p t c e (Faulted f) is fine = absurd (let h = fine in cc)

-- that of one that has is none
pub faulted_script : (v : View) (r : Run) (p : Past) (t : ℕ) (st : Status) → has_faulted (ended_of st) ≡ true → report_script v r p t st ≡ []
faulted_script v r p t Running e = absurd (let h = e in cc)
faulted_script v r p t Halted e = absurd (let h = e in cc)
faulted_script v r p t (Faulted f) e = refl

pub faulted_report : {L O D T : Type 0} (text : sink_of.Ghosts O) (told : sectors_of.Ghosts D) (r : Kept L) (o : O) (d : D) (v0 : T) → has_faulted r.ended ≡ true → ReportCalls {T = T} text told r (o, d) (o, d) (Ok v0)
faulted_report text told r o d v0 faulted = record {
  exact = λ budget y s late held k t c same lawful ready turns steps p tells shelf.
      same_script [] (report_script r.view (run_at (outside_of r.machine.rows (told.size d)) y s r.view turns steps) p t c.status) (at text told shelf o d) (at text told shelf o d) None
      (sym (faulted_script r.view (run_at (outside_of r.machine.rows (told.size d)) y s r.view turns steps) p t c.status (ap has_faulted (sym ready.ended) ∙ faulted))) (done (at text told shelf o d));
  some = λ none. ([], tt, λ shelf. done (at text told shelf o d));
  none = λ _. refl;
}

-- A CALL THAT KEPT A FAULT calls nothing
pub kept_report : {L O D T : Type 0} (text : sink_of.Ghosts O) (told : sectors_of.Ghosts D) (r : Kept L) (o : O) (d : D) (result : Result T RunFault) (f : RunFault) → r.fault ≡ Some f → ReportCalls text told r (o, d) (o, d) result
kept_report text told r o d result f is = record {
  exact = λ budget y s late held k t c same lawful ready turns steps p tells shelf. absurd (let e : ◌≡◌ {A = Option RunFault} (Some f) None = sym is ∙ ready.fault in cc);
  some = λ none. absurd (let e : ◌≡◌ {A = Option RunFault} (Some f) None = sym is ∙ none in cc);
  none = λ _. refl;
}

module _ {L O D : Type 0} (text : sink_of.Ghosts O) (told : sectors_of.Ghosts D) (r : Kept L) (o o1 : O) (d d1 : D) (fine : has_faulted r.ended ≡ false) (layout : BootLayout)
    (placed : LayoutHolds r.boot layout.map layout.offsets.items r.machine.hardware.memory r.count) (law : (u : CUnit) → MachinesRun (IsTypedState u)) where
  abbrev x : Environment
  x = outside_of r.machine.rows (told.size d)

  -- what the abstract machine says between turns
  its_cvm : (y : System) (s : State) (late held : ℕ) → RunMachines x y s late held → (v : View) (k t : ℕ) (c : Cvm) (budget : ℕ) → ReadyAt x y s v (suc k) t c (run_around r (told.sectors d) budget) → (turns steps : ℕ) (p : Past) →
      TellsFrom (run_at x y s v turns steps) p t t → cvm_at (run_at x y s v turns steps) p t ≡ c
  its_cvm y s late held m v k t c budget ready turns steps p tells =
      m.same (complete x s t) (cvm_at (run_at x y s v turns steps) p t) c (tells.turns t (omega arith) (omega arith)) (subst (λ n. IsCvm y (lines_of_turn x s) n c) (sym ready.stood.all) ready.stood.cvm)

  -- these calls are those of the report that is viewed so
  abbrev Is : View → List Call → Type 0
  Is v calls = (budget : ℕ) (y : System) (s : State) (late held : ℕ) (k t : ℕ) (c : Cvm) → y.boot ≡ boot_of r.boot → StartsFrom (IsTypedState (unit_view r.boot.unit)) x y s late held →
      ReadyAt x y s v (suc k) t c (run_around r (told.sectors d) budget) → (turns steps : ℕ) (p : Past) → TellsFrom (run_at x y s v turns steps) p t t → calls ≡ report_script v (run_at x y s v turns steps) p t c.status

  -- they are made, and only read where nothing is told
  performs : {T : Type 0} (calls : List Call) (result : Result T RunFault) → AreReads (untold calls) → Is r.view calls → Makes text told (o, d) (o1, d1) calls of_run result → ReportCalls text told r (o, d) (o1, d1) result
  performs calls result reads is made = record {
    exact = λ budget y s late held k t c same lawful ready turns steps p tells shelf.
        same_script calls (report_script r.view (run_at x y s r.view turns steps) p t c.status) (at text told shelf o d) (at text told shelf o1 d1) (blame of_run result) (is budget y s late held k t c same lawful ready turns steps p tells) (made shelf);
    some = λ none. (untold calls, reads, λ shelf. made_untold calls (at text told shelf o d) (at text told shelf o1 d1) (blame of_run result) (made shelf));
    none = λ e. absurd (true_false (has_faulted r.ended) e fine);
  }

  -- of a boot
  module _ (view : r.view ≡ Boot) (typed : (u : CUnit) → RunsStayTyped (IsTypedState u)) (rows : RowsTell) (users : UserTells) (globals : GlobalRowsTell) (formed : IsWellFormed kernel_primitives (unit_view r.boot.unit)) where
    boot_is : Is Boot (closing_calls (is_some r.ended) r.current r.machine (told.sectors d) layout r.boot.unit.globals.items)
    boot_is budget y s late held k t c same lawful ready turns steps p tells =
        let m = law (unit_view r.boot.unit) x y s late held lawful in
        let stays = typed (unit_view r.boot.unit) x y s late held lawful in
        let T = told.sectors d in
        let seen = its_told x y s Boot k t budget c r T ready in
        let h = halting x y s Boot k t budget c r T ready same layout.map layout.offsets.items placed fine in
        let now = runs_now (is_some r.ended) r.current in
        ap (λ (q : Option (List (List ℕ))). closing_calls (is_some r.ended) r.current r.machine q layout r.boot.unit.globals.items) seen.are
        ∙ ap₂ (λ (e g : List ℕ). Printed (Some (e ++ g ++ log_rows r.machine.hardware.console.log)) ∷ reported.users_script layout.map r.machine (Some seen.sectors) now layout.map.users) h.0
        (told_globals x y s Boot k t budget c r T ready same layout.map layout.offsets.items placed fine stays globals formed)
        ∙ ap₂ (λ (l : List ℕ) (us : List Call). Printed (Some (end_text c.status ++ globals_text y.boot.meaning.names (parts_of_value c.core.c0.global_values) ++ l)) ∷ us)
        (told_rows x y s Boot k t budget c r T ready same layout.map layout.offsets.items placed fine rows).log (users_called x y s Boot k t budget c r T ready same layout.map layout.offsets.items placed fine rows users)
        ∙ sym (boot_script x y s turns steps p t c (its_cvm y s late held m Boot k t c budget ready turns steps p tells) c.status refl (ap has_faulted (sym ready.ended) ∙ fine))

    boot_performs : {T : Type 0} (result : Result T RunFault) → Makes text told (o, d) (o1, d1) (closing_calls (is_some r.ended) r.current r.machine (told.sectors d) layout r.boot.unit.globals.items) of_run result → ReportCalls text told r (o, d) (o1, d1) result
    boot_performs result made = performs (closing_calls (is_some r.ended) r.current r.machine (told.sectors d) layout r.boot.unit.globals.items) result (of_closing (is_some r.ended) r.current r.machine (told.sectors d) layout r.boot.unit.globals.items)
        (subst (λ (v : View). Is v (closing_calls (is_some r.ended) r.current r.machine (told.sectors d) layout r.boot.unit.globals.items)) (sym view) boot_is) made

  -- of a trace
  module _ (kept : Tracer) (tracer : r.tracer ≡ Some kept) (view : r.view ≡ Trace kept.user) (grow : (u : CUnit) → TracesGrow (IsTypedState u)) (follow : RowsFollow) (rows : RowsTell) (users : UserTells) (some : 1 ≤ kept.user) (most : kept.user ≤ layout.map.users) where
    -- what is kept tells the last steps of what is shown
    last_is : (y : System) (s : State) (t : ℕ) (p : Past) → TraceGrows x y s kept.user → Shown x s y kept.user t (p.shown t) → Traces x y s (Trace kept.user) t r.tracer → steps_row kept.steps ≡ last_steps (p.shown t)
    last_is y s t p g shown traces =
        let j : List JournalEntry = traces.journal in
        let one : p.shown t ≡ j = g.one t (p.shown t) j shown traces.shown in
        let steps : kept.steps ≡ pending_steps j = same_steps kept (tracer_at x s kept.user t j) (sym tracer ∙ traces.keeps) in
        ap steps_row steps ∙ sym (ap (λ i. drop (length (open_journal_rows i)) (journal_rows i)) one ∙ ap (drop (length (open_journal_rows j))) (follow.end j) ∙ drop-append_seam (open_journal_rows j) (steps_row (pending_steps j)))
      where
        same_steps : (a b : Tracer) → Some a ≡ Some b → a.steps ≡ b.steps
        same_steps a b e = cc

    few : (y : System) → y.boot ≡ boot_of r.boot → kept.user ≤ length y.boot.users
    few y same =
        let a : layout.map.users ≡ length (boot_of r.boot).users = users_are_those r.boot layout.map layout.offsets.items r.machine.hardware.memory r.count placed in
        let b : length y.boot.users ≡ length (boot_of r.boot).users = ap (λ (q : CvmBoot). length q.users) same in
        omega (arith, a, b, most)

    trace_is : Is (Trace kept.user) (trace_calls (is_some r.ended) r.current r.machine (told.sectors d) layout.map kept)
    trace_is budget y s late held k t c same lawful ready turns steps p tells =
        let u = kept.user in
        let v = Trace kept.user in
        let m = law (unit_view r.boot.unit) x y s late held lawful in
        let T = told.sectors d in
        let seen = its_told x y s v k t budget c r T ready in
        let h = halting x y s v k t budget c r T ready same layout.map layout.offsets.items placed fine in
        let now = runs_now (is_some r.ended) r.current in
        ap (λ (q : Option (List (List ℕ))). trace_calls (is_some r.ended) r.current r.machine q layout.map kept) seen.are
        ∙ ap₂ (λ (a e : List ℕ). Printed (Some (a ++ e)) ∷ reported.user_script layout.map r.machine (Some seen.sectors) (u == now) u)
        (last_is y s t p (grow (unit_view r.boot.unit) x y s late held u lawful some (few y same)) (tells.user t (omega arith) (omega arith)) ready.traces) h.0
        ∙ ap (λ (us : List Call). Printed (Some (last_steps (p.shown t) ++ end_text c.status)) ∷ us) (user_called x y s v k t budget c r T ready same layout.map layout.offsets.items placed fine rows users u some most)
        ∙ sym (trace_script x y s u turns steps p t c (its_cvm y s late held m v k t c budget ready turns steps p tells) c.status refl (ap has_faulted (sym ready.ended) ∙ fine))

    trace_performs : {T : Type 0} (result : Result T RunFault) → Makes text told (o, d) (o1, d1) (trace_calls (is_some r.ended) r.current r.machine (told.sectors d) layout.map kept) of_run result → ReportCalls text told r (o, d) (o1, d1) result
    trace_performs result made = performs (trace_calls (is_some r.ended) r.current r.machine (told.sectors d) layout.map kept) result (of_trace (is_some r.ended) r.current r.machine (told.sectors d) layout.map kept)
        (subst (λ (v : View). Is v (trace_calls (is_some r.ended) r.current r.machine (told.sectors d) layout.map kept)) (sym view) trace_is) made

-- THE SAME OF THE RUN AS THE CALL FOUND IT, by the code's own values
module _ {L O D : Type 0} (text : sink_of.Ghosts O) (told : sectors_of.Ghosts D) (now r : Kept L) (same : r ≡ now) (o o1 : O) (d d1 : D) (fine : has_faulted now.ended ≡ false) (view : r.view ≡ viewed r.tracer) (layout : BootLayout)
    (placed : LayoutHolds r.boot layout.map layout.offsets.items r.machine.hardware.memory r.count) (law : (u : CUnit) → MachinesRun (IsTypedState u)) (halted : Bool) (halted_is : halted ≡ is_some r.ended) where
  its_end : has_faulted r.ended ≡ false
  its_end = ap (λ (q : Kept L). has_faulted q.ended) same ∙ fine

  as_run : (calls : List Call) {R T : Type 0} (before : Result R ReportFault) (result : Result T RunFault) → blame of_report before ≡ blame of_run result → Makes text told (o, d) (o1, d1) calls of_report before → Makes text told (o, d) (o1, d1) calls of_run result
  as_run calls before result blames made = λ shelf. subst (Performs calls (at text told shelf o d) (at text told shelf o1 d1)) blames (made shelf)

  pub boot_report_calls : {R T : Type 0} (before : Result R ReportFault) (result : Result T RunFault) → blame of_report before ≡ blame of_run result → r.tracer ≡ None → (typed : (u : CUnit) → RunsStayTyped (IsTypedState u)) (rows : RowsTell) (users : UserTells) (globals : GlobalRowsTell)
      (formed : IsWellFormed kernel_primitives (unit_view r.boot.unit)) (decls : List Decl) → decls ≡ r.boot.unit.globals.items → Makes text told (o, d) (o1, d1) (closing_calls halted r.current r.machine (told.sectors d) layout decls) of_report before →
      ReportCalls text told now (o, d) (o1, d1) result
  boot_report_calls {R} {T} before result blames tracer typed rows users globals formed decls decls_are made =
      subst (λ (q : Kept L). ReportCalls text told q (o, d) (o1, d1) result) same
      (boot_performs text told r o o1 d d1 its_end layout placed law (view ∙ ap viewed tracer) typed rows users globals formed {T = T} result
      (as_run (closing_calls (is_some r.ended) r.current r.machine (told.sectors d) layout r.boot.unit.globals.items) {R = R} {T = T} before result blames
      (subst (λ (ds : List Decl). Makes text told (o, d) (o1, d1) (closing_calls (is_some r.ended) r.current r.machine (told.sectors d) layout ds) of_report before) decls_are
      (subst (λ (h : Bool). Makes text told (o, d) (o1, d1) (closing_calls h r.current r.machine (told.sectors d) layout decls) of_report before) halted_is made))))

  its_user : (kept : Tracer) → r.tracer ≡ Some kept → IsTrue (tracer_fits r.tracer (length r.boot.users.items) r.machine.time) → (1 ≤ kept.user) × (kept.user ≤ layout.map.users)
  its_user kept tracer fits =
      let there = user_there kept (length r.boot.users.items) r.machine.time (subst (λ (q : Option Tracer). IsTrue (tracer_fits q (length r.boot.users.items) r.machine.time)) tracer fits) in
      let all = users_are_those r.boot layout.map layout.offsets.items r.machine.hardware.memory r.count placed in
      (there.0, (let most : kept.user ≤ length r.boot.users.items = there.1 in omega (arith, most, all, length-map r.boot.users.items (λ words. words.items))))

  pub trace_report_calls : {R T : Type 0} (before : Result R ReportFault) (result : Result T RunFault) → blame of_report before ≡ blame of_run result → (kept : Tracer) → r.tracer ≡ Some kept → (grow : (u : CUnit) → TracesGrow (IsTypedState u)) (follow : RowsFollow)
      (rows : RowsTell) (users : UserTells) → IsTrue (tracer_fits r.tracer (length r.boot.users.items) r.machine.time) → Makes text told (o, d) (o1, d1) (trace_calls halted r.current r.machine (told.sectors d) layout.map kept) of_report before → ReportCalls text told now (o, d) (o1, d1) result
  trace_report_calls {R} {T} before result blames kept tracer grow follow rows users fits made =
      let user = its_user kept tracer fits in
      subst (λ (q : Kept L). ReportCalls text told q (o, d) (o1, d1) result) same
      (trace_performs text told r o o1 d d1 its_end layout placed law kept tracer (view ∙ ap viewed tracer) grow follow rows users user.0 user.1 {T = T} result
      (as_run (trace_calls (is_some r.ended) r.current r.machine (told.sectors d) layout.map kept) {R = R} {T = T} before result blames
      (subst (λ (h : Bool). Makes text told (o, d) (o1, d1) (trace_calls h r.current r.machine (told.sectors d) layout.map kept) of_report before) halted_is made)))
