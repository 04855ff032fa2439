-- What is printed of a run, and which sectors stand, where a call of its script fails.
use Rattle.std.specs.Prelude.{Option, Some, None, IfSome, is_some, min, codes, not, ◌||◌, ◌==◌, ◌/◌, if◌then◌else◌}
use Rattle.std.proofs.Common.{◌≡◌, ◌⊎◌, inl, inr, ⊎_elim, ℕ, zero, suc, ◌+◌, ◌-◌, ◌<◌, ◌≤◌, Bool, true, false, List, [], ◌∷◌, ◌++◌, length, take, drop, refl, sym, ap, ◌∙◌, subst, arith, append-nil, append_assoc, eq-eqb, ne_eqb}
use Rattle.std.proofs.lemmas.Bool.{cases_lt}
use Rattle.std.specs.Option.{option_map}
use Rattle.std.specs.Io.KnownBytes.{append_known}
use Rattle.std.proofs.lemmas.Grind.{common_steps}
use Rattle.std.proofs.lemmas.List.{length-append}
use Rattle.std.proofs.Math.Seq.{take-append_seam, take-append-add}
use Rattle.cvm_outside.specs.Told.{AppendsPart}
use Rattle.cvm_outside.specs.Outside.{Outside, Output}
use Rattle.cvm_outside.specs.Script.{Call, Read, Who, TheSink, TheDisk, Performs, WritesNoSector, scripts, spoken, sectors_after}
use Rattle.cvm_outside.specs.ScriptLaws.{ScriptsTell, ScriptsStore, PrintedBy}
use Rattle.cvm_outside.proofs.PartsMakeTheWhole.{append_known-append}
use Rattle.cvm_outside.proofs.ScriptsFollow.{both}
use Rattle.cvm_outside.proofs.RowsPut.{unwritten}
use Rattle.layer_map.specs.Map.{Map}
use Rattle.mips_table.specs.Device.{Environment, Pending, Idle, Reading, Writing}
use Rattle.mips_table.specs.Machine.{State}
use Rattle.mips_table.specs.Turns.{IsTurnEnd, complete, is_end, is_on, end_within}
use Rattle.mips_machine.specs.Steps.{before_count, script_of_step, due_if}
use Rattle.sector_disk.specs.Ports.{transfer_script}
use Rattle.cvm_model.specs.Cvm.{System, Cvm, Status, Running, Halted, Faulted, map_of}
use Rattle.cvm_model.specs.Kernel.{JournalEntry, Put, parts_of_value}
use Rattle.cvm_model.specs.Primitives.{user_of}
use Rattle.cvm_model.specs.Text.{rows_text, start_row, journal_rows, open_journal_rows, end_text, boot_text, globals_text, log_text, fault_name}
use Rattle.boot_turns.specs.declared.answers.View.{View}
use Rattle.boot_turns.specs.declared.answers.View.TheVariants.{Boot, Trace}
use Rattle.boot_turns.specs.Runs.{Run, Past, IsPast, state_at, turns_at, steps_made, has_ended, cvm_at}
use Rattle.boot_report.specs.Resident.{is_resident, page_reads}
use Rattle.boot_turns.specs.StepScript.{prints, page_of, copies_at, entry_reads, row_behind, entry_script, rows_script, step_script, steps_script}
use Rattle.boot_turns.specs.TurnEnds.{first_user_machine}
use Rattle.boot_run.specs.RunEnds.{SeesUser}
use Rattle.boot_run.specs.Closing.{opening_script, user_report_script, boot_report, last_steps, trace_report, report_by, closing_script, says}
use Rattle.boot_run.specs.RunScript.{rest_script, run_script}
use Rattle.run_scripts.specs.AskedRuns.{text_by, text_at, ended_text, whole_text}
use Rattle.run_scripts.specs.Faults.{HasPrinted, PrintedWithin, Stand, closed_by, CalledBy, up_to_step, up_to_row, AfterDisk, in_load, in_transfer, in_rows, in_report, EndsTurn, AfterSink}
use Rattle.run_scripts.specs.Faults as fault
use Rattle.run_scripts.proofs.BrokenScripts.{AllOf, Broken, in_first, in_second, part, Within, within, not_none, blames, all_if, sink_stays, IsLoud, loud_both, loud_scripts, loud_disk, silent_stays}
use Rattle.run_scripts.proofs.ScriptsMadeOf.{of_opening, of_report, of_row, of_rows, of_scripts}
use Rattle.boot_run.proofs.AbstractRuns.{on_before, turns_up_to}
use Rattle.run_scripts.proofs.RowsAlongRuns.{Known, journal_grows}
use Rattle.run_scripts.proofs.ReportsTell.{closing_tells, behind_last}
use Rattle.run_scripts.proofs.StoredRuns.{quiet, steps_leave}
use Rattle.boot_run.proofs.LoadStores.{stored-append}
use Rattle.run_scripts.proofs.ScriptsStore.{quiet_stores, step_stores}
use Rattle.run_scripts.proofs.ScriptsTell.{Tells, tells_both, tells_scripts, says_tells, silent, quiet_due, entry_tells, step_tells, steps_tell, opening_tells}

-- WHAT STANDS so far: this text was printed, and these are the sectors
pub record Stands (old at : Outside) (text : List ℕ) (sectors : List (List ℕ)) : Type 0 where
  pub text_is : HasPrinted old at text
  pub are : at.disk.sectors ≡ Some sectors

take_front : (n : ℕ) (a b : List ℕ) → take n a ≡ take (min n (length a)) (a ++ b)
take_front n a b = grind (arith, common_steps)

no_more : (a b : List ℕ) → a ≡ a ++ b → b ≡ []
no_more a [] e = refl
no_more a (x ∷ b) e = let n = ap (λ (l : List ℕ). length l) e in let m = length-append a (x ∷ b) in absurd (omega (arith, n, m))

module _ (tell : ScriptsTell) (store : ScriptsStore) (old : Outside) where
  pub text_more : (a : List Call) (mid at : Outside) (t u : List ℕ) → HasPrinted old mid t → Performs a mid at None → Tells a t u → HasPrinted old at u
  text_more a mid at t u h p w =
      subst (λ (m : Option (List ℕ)). IfSome m (PrintedBy None mid.sink.text at.sink.text)) w.told (tell a mid at None p)
      ∙ ap (λ (o : Option (List ℕ)). append_known o w.text) h ∙ append_known-append old.sink.text t w.text ∙ ap (append_known old.sink.text) (sym w.is)

  pub more : (a : List Call) (mid at : Outside) (t u : List ℕ) (ss zz : List (List ℕ)) → Stands old mid t ss → Performs a mid at None → Tells a t u → sectors_after a ss ≡ zz → Stands old at u zz
  more a mid at t u ss zz k p w e = record {
    text_is = text_more a mid at t u k.text_is p w;
    are = store a mid at p ∙ ap (option_map (sectors_after a)) k.are ∙ ap (λ (x : List (List ℕ)). Some x) e;
  }

  -- where it breaks off: the text up to there, whose front is a part, and the first of what it would tell
  pub broken_within : (a : List Call) (mid new : Outside) (whom : Who) (front d t u rest whole : List ℕ) → HasPrinted old mid t → Performs a mid new (Some whom) → Tells a t u → t ≡ front ++ d → whole ≡ u ++ rest →
      PrintedWithin old new front whole
  broken_within a mid new whom front d t u rest whole h p w cut e =
      let some : AppendsPart mid.sink.text new.sink.text w.text = subst (λ (m : Option (List ℕ)). IfSome m (AppendsPart mid.sink.text new.sink.text)) w.told (tell a mid new (Some whom) p) in
      let all : whole ≡ t ++ (w.text ++ rest) = e ∙ ap (λ (l : List ℕ). l ++ rest) w.is ∙ append_assoc t w.text rest in
      let first : take (length t + min some.0 (length w.text)) whole ≡ t ++ take (min some.0 (length w.text)) (w.text ++ rest) =
      ap (take (length t + min some.0 (length w.text))) all ∙ take-append-add t (w.text ++ rest) (min some.0 (length w.text)) in
      record {
        count = length t + min some.0 (length w.text);
        printed =
            some.1 ∙ ap (λ (o : Option (List ℕ)). append_known o (take some.0 w.text)) h ∙ append_known-append old.sink.text t (take some.0 w.text)
            ∙ ap (append_known old.sink.text) (ap (λ (l : List ℕ). t ++ l) (take_front some.0 w.text rest) ∙ sym first);
        holds =
            ap (take (length front)) (first ∙ ap (λ (l : List ℕ). l ++ take (min some.0 (length w.text)) (w.text ++ rest)) cut ∙ append_assoc front d (take (min some.0 (length w.text)) (w.text ++ rest)))
            ∙ take-append_seam front (d ++ take (min some.0 (length w.text)) (w.text ++ rest));
      }

-- THE PARTS of a run's script that call the disk, and those that call the sink
disk_transfer : (p : Pending) (buffer : List ℕ) → AllOf TheDisk (transfer_script p buffer)
disk_transfer Idle buffer = tt
disk_transfer (Reading zero q) buffer = (refl, tt)
disk_transfer (Reading (suc n) q) buffer = tt
disk_transfer (Writing zero q) buffer = (refl, tt)
disk_transfer (Writing (suc n) q) buffer = tt

pub disk_due : (x : Environment) (s : State) → AllOf TheDisk (script_of_step x s)
unfolding script_of_step
disk_due x s = by s.off
  where
    by : (o : Option ℕ) → AllOf TheDisk (due_if x s o)
    by None = disk_transfer (before_count x s).pending (before_count x s).buffer
    by (Some word) = tt

disk_page : (m : Map) (s : State) (q : ℕ) → AllOf TheDisk (page_reads m s q)
disk_page m s q = by (is_resident m s q)
  where
    by : (b : Bool) → AllOf TheDisk (if b then [] else Read q ∷ [])
    by true = tt
    by false = (refl, tt)

disk_entry : (m : Map) (s : State) (u : ℕ) (j : List JournalEntry) → AllOf TheDisk (entry_reads m s u j)
disk_entry m s u (Put address value ∷ rest) = disk_page m s (page_of m u (address / 4096))
disk_entry m s u other = tt

sink_prints : (x : List ℕ) → AllOf TheSink (prints x)
sink_prints [] = tt
sink_prints (b ∷ x) = (refl, tt)

loud_prints : (x : List ℕ) → IsLoud (prints x)
loud_prints [] = tt
loud_prints (b ∷ x) = tt

not_disk : TheSink ≡ TheDisk → ⊥
not_disk e = cc

-- the reads before an entry's row
abbrev reads_of : Run → Past → (u t n : ℕ) → List Call
reads_of r p u t n = if copies_at r u t then entry_reads (map_of r.system.boot) (state_at r (suc t)) u (drop n (p.shown (suc t))) else []

disk_reads : (r : Run) (p : Past) (u t n : ℕ) → AllOf TheDisk (reads_of r p u t n)
disk_reads r p u t n = all_if TheDisk (copies_at r u t) _ (disk_entry (map_of r.system.boot) (state_at r (suc t)) u (drop n (p.shown (suc t))))

loud_rows : (v : View) (r : Run) (p : Past) (t : ℕ) → IsLoud (rows_script v r p t)
loud_rows Boot r p t = loud_prints _
loud_rows (Trace u) r p t =
    loud_scripts (λ i. entry_script r p u t (length (p.shown t) + i)) (length (p.shown (suc t)) - length (p.shown t))
    (λ i. loud_both (reads_of r p u t (length (p.shown t) + i)) (prints (row_behind (p.shown (suc t)) (length (p.shown t) + i)))
    (loud_disk (reads_of r p u t (length (p.shown t) + i)) (disk_reads r p u t (length (p.shown t) + i))) (loud_prints (row_behind (p.shown (suc t)) (length (p.shown t) + i))))

-- what stands behind the end row of a boot
abbrev globals : System → Cvm → List ℕ
globals y c = globals_text y.boot.meaning.names (parts_of_value c.core.c0.global_values)

abbrev log : Cvm → List ℕ
log c = log_text c.core.console.log

abbrev users : System → State → Cvm → List Call
users y s c = scripts (λ i. user_report_script (map_of y.boot) s (i + 1) (user_of c.core.users (i + 1))) (length c.core.users)

front_of : (base end g l : List ℕ) → base ++ (end ++ g ++ l) ≡ (base ++ end) ++ (g ++ l)
front_of base end g l = ap (λ (x : List ℕ). base ++ x) (append_assoc end g l) ∙ sym (append_assoc base end (g ++ l))

-- a report's first row is printed before all that is read
told_behind : (x : List ℕ) (b : List Call) (text : List ℕ) → spoken (says x ++ b) ≡ Some text → (more : List ℕ) × (spoken b ≡ Some more) × (text ≡ x ++ more)
told_behind x b text e = by (spoken b) e
  where
    by : (o : Option (List ℕ)) → option_map (λ more. x ++ more) o ≡ Some text → (more : List ℕ) × (o ≡ Some more) × (text ≡ x ++ more)
    by None e = absurd (cc)
    by (Some more) e = (more, refl, cc)

or_true : (b c : Bool) → b ≡ true → (b || c) ≡ true
or_true true c e = refl
or_true false c e = absurd (cc)

clash : (b : Bool) → b ≡ true → b ≡ false → ⊥
clash b e f = cc

module _ (r : Run) (k : Known r) (p : Past) (is : IsPast r p) where
  -- A STEP completes one turn at most, and then it is the end of that turn
  no_end : (n j : ℕ) → j < steps_made r → turns_at r j < n → is_end r.around r.first n j ≡ false
  no_end n j lt less =
      let ne : (complete r.around r.first j == n) ≡ false = ne_eqb (complete r.around r.first j) n (λ e. absurd (omega (arith, less, e))) in
      by (complete r.around r.first j == n) (state_at r j).off ne (on_before k.count r j lt)
    where
      by : (b : Bool) (o : Option ℕ) → b ≡ false → o ≡ None → (b || not (not (is_some o))) ≡ false
      by true o e on = absurd (cc)
      by false None e on = refl
      by false (Some w) e on = absurd (cc)

  one_turn : (t : ℕ) → t < steps_made r → turns_at r t < turns_at r (suc t) → turns_at r (suc t) ≡ suc (turns_at r t)
  one_turn t lt less =
      let n : ℕ = suc (turns_at r t) in
      let few = turns_up_to k.count r (suc t) (steps_made r) (omega (arith, lt)) in
      let g = k.machines.goes_on (suc (turns_at r t)) (p.cvm (suc (turns_at r t))) (is.turns (suc (turns_at r t)) (omega (arith, less, few))) in
      let at : end_within r.around r.first (suc (turns_at r t)) g.0 ≡ g.0 = k.count.ends r.around r.first (suc (turns_at r t)) g.0 g.0 g.1 (omega arith) in
      let d = k.machines.defined (end_within r.around r.first (suc (turns_at r t)) g.0) in
      let over = k.machines.ends (suc (turns_at r t)) g.0 d.0 d.1 (ap (is_end r.around r.first (suc (turns_at r t))) at ∙ g.1.here) in
      let most : turns_at r g.0 ≤ suc (turns_at r t) = subst (λ (m : ℕ). turns_at r m ≤ suc (turns_at r t)) at over.few in
      by g.0 g.1.here most (cases_lt g.0 (suc t))
    where
      by : (e : ℕ) → is_end r.around r.first (suc (turns_at r t)) e ≡ true → turns_at r e ≤ suc (turns_at r t) → (e < suc t) ⊎ (suc t ≤ e) → turns_at r (suc t) ≡ suc (turns_at r t)
      by e here most (inl before) =
          let few = turns_up_to k.count r e t (omega (arith, before)) in
          absurd (clash (is_end r.around r.first (suc (turns_at r t)) e) here (no_end (suc (turns_at r t)) e (omega (arith, before, lt)) (omega (arith, few))))
      by e here most (inr later) = let few = turns_up_to k.count r (suc t) e later in omega (arith, few, most, less)

  ends_turn : (t : ℕ) → t < steps_made r → turns_at r t < turns_at r (suc t) → (turns_at r (suc t) ≡ suc (turns_at r t)) × IsTurnEnd r.around r.first (turns_at r (suc t)) (suc t)
  ends_turn t lt less = (
    one_turn t lt less,
    record {
      here = or_true (turns_at r (suc t) == turns_at r (suc t)) (not (is_on (state_at r (suc t)))) (eq-eqb (turns_at r (suc t)) (turns_at r (suc t)) refl);
      first = λ j before. let few = turns_up_to k.count r j t (omega (arith, before)) in no_end (turns_at r (suc t)) j (omega (arith, before, lt)) (omega (arith, few, less));
    },
  )

  rows_end_turn : (t : ℕ) → t < steps_made r → (v : View) → (text_by v r p t ≡ text_by v r p (suc t) → ⊥) → EndsTurn v r t
  rows_end_turn t lt Boot ne =
      let few = turns_up_to k.count r t (suc t) (omega arith) in
      ends_turn t lt (⊎_elim
      (λ (l : turns_at r t < turns_at r (suc t)). l)
      (λ (ge : turns_at r (suc t) ≤ turns_at r t). let e : turns_at r t ≡ turns_at r (suc t) = omega (arith, few, ge) in absurd (ne (ap (λ (n : ℕ). rows_text (p.cvm n).rows) e)))
      (cases_lt (turns_at r t) (turns_at r (suc t))))
  rows_end_turn t lt (Trace u) ne = tt

  module _ (tell : ScriptsTell) (store : ScriptsStore) (old : Outside) where
    abbrev At : ℕ → Outside → Type 0
    At t at = Stands old at (text_at r p t) (state_at r t).device.sectors

    pub steps_done : (t n : ℕ) (mid at : Outside) → t + n ≤ steps_made r → At t mid → Performs (steps_script r p t n) mid at None → At (t + n) at
    steps_done t n mid at le h q =
        more tell store old (steps_script r p t n) mid at (text_at r p t) (text_at r p (t + n)) (state_at r t).device.sectors (state_at r (t + n)).device.sectors h q
        (steps_tell r k p is t n le) (steps_leave k.count r p t n le)

    due_done : (t : ℕ) (mid at : Outside) → t < steps_made r → At t mid → Performs (script_of_step r.around (state_at r t)) mid at None → Stands old at (text_at r p t) (state_at r (suc t)).device.sectors
    due_done t mid at lt h q =
        more tell store old (script_of_step r.around (state_at r t)) mid at (text_at r p t) (text_at r p t) (state_at r t).device.sectors (state_at r (suc t)).device.sectors h q
        (silent (script_of_step r.around (state_at r t)) (text_at r p t) (quiet_due r.around (state_at r t))) (step_stores r t (on_before k.count r t lt))

    -- THE SINK FAILED in a step
    step_unsaid : (R : Type 0) (t : ℕ) (mid new : Outside) → t < steps_made r → At t mid → Performs (step_script r p t) mid new (Some TheSink) → AfterSink R r p old new
    step_unsaid R t mid new lt h q = by (part (script_of_step r.around (state_at r t)) (rows_script r.view r p t) mid new TheSink q)
      where
        w : Tells (step_script r p t) (text_at r p t) (text_at r p (suc t))
        w = step_tells r k p is t lt

        grows : text_at r p t ≡ text_at r p (suc t) → ⊥
        grows e =
            let none : w.text ≡ [] = no_more (text_at r p t) w.text (e ∙ w.is) in
            silent_stays (step_script r p t) mid new
            (loud_both (script_of_step r.around (state_at r t)) (rows_script r.view r p t) (loud_disk (script_of_step r.around (state_at r t)) (disk_due r.around (state_at r t))) (loud_rows r.view r p t))
            (w.told ∙ ap (λ (l : List ℕ). Some l) none) q

        by : Broken (script_of_step r.around (state_at r t)) (rows_script r.view r p t) mid new TheSink → AfterSink R r p old new
        by (in_first z) = absurd (not_disk (blames TheDisk (script_of_step r.around (state_at r t)) mid new TheSink (disk_due r.around (state_at r t)) z))
        by (in_second at z rows) =
            fault.in_rows t lt grows (rows_end_turn t lt r.view grows)
            (unwritten (rows_script r.view r p t) at new (Some TheSink) (of_rows WritesNoSector quiet r.view r p t) rows ∙ (due_done t mid at lt h z).are)
            (broken_within tell store old (step_script r p t) mid new TheSink (text_at r p t) [] (text_at r p t) (text_at r p (suc t)) [] (text_at r p (suc t)) h.text_is q w (sym (append-nil (text_at r p t))) (sym (append-nil (text_at r p (suc t)))))

    -- THE DISK FAILED in a step, with its calls counted from where the load began
    abbrev Counting : Outside → Type 0
    Counting begin = (a : List Call) (at : Outside) → Performs a begin at None → CalledBy a old at

    entries_unread : (R : Type 0) (load : List Call) (begin : Outside) → Counting begin → (u t : ℕ) (at new : Outside) → Performs (up_to_step r load p t ++ script_of_step r.around (state_at r t)) begin at None → r.view ≡ Trace u → 1 ≤ u → u ≤ length r.system.boot.users → t < steps_made r →
        Stands old at (text_by (Trace u) r p t) (state_at r (suc t)).device.sectors → Performs (rows_script (Trace u) r p t) at new (Some TheDisk) → AfterDisk R r load p old new
    entries_unread R load begin count u t at new reached v some most lt h q = by (part (reads_of r p u t (length (p.shown t) + w.number)) (prints (row_behind (p.shown (suc t)) (length (p.shown t) + w.number))) w.mid new TheDisk w.breaks_off)
      where
        w : Within (λ i. entry_script r p u t (length (p.shown t) + i)) (length (p.shown (suc t)) - length (p.shown t)) at new TheDisk
        w = within (λ i. entry_script r p u t (length (p.shown t) + i)) (length (p.shown (suc t)) - length (p.shown t)) at new TheDisk q

        less : length (p.shown t) + w.number < length (p.shown (suc t))
        less = let l = w.less in omega (arith, l)

        none : length (p.shown t) + 0 ≡ length (p.shown t)
        none = omega arith

        from : take (length (p.shown t) + 0) (p.shown (suc t)) ≡ p.shown t
        from =
            let g = journal_grows r k p is u some most v t lt in
            ap (λ (m : ℕ). take m (p.shown (suc t))) none ∙ ap (take (length (p.shown t))) g.1 ∙ take-append_seam (p.shown t) g.0

        rows : Tells (scripts (λ i. entry_script r p u t (length (p.shown t) + i)) w.number) (start_row u (first_user_machine r.system u) ++ open_journal_rows (p.shown t)) (start_row u (first_user_machine r.system u) ++ open_journal_rows (take (length (p.shown t) + w.number) (p.shown (suc t))))
        rows =
            let l = w.less in
            subst (λ (j : List JournalEntry). Tells (scripts (λ i. entry_script r p u t (length (p.shown t) + i)) w.number) (start_row u (first_user_machine r.system u) ++ open_journal_rows j) (start_row u (first_user_machine r.system u) ++ open_journal_rows (take (length (p.shown t) + w.number) (p.shown (suc t))))) from
            (tells_scripts (λ i. entry_script r p u t (length (p.shown t) + i)) (λ i. start_row u (first_user_machine r.system u) ++ open_journal_rows (take (length (p.shown t) + i) (p.shown (suc t)))) w.number
            (λ i before. entry_tells r k p is u some most v t i (start_row u (first_user_machine r.system u)) (omega (arith, before, l))))

        printed : HasPrinted old w.mid (start_row u (first_user_machine r.system u) ++ open_journal_rows (take (length (p.shown t) + w.number) (p.shown (suc t))))
        printed =
            text_more tell store old (scripts (λ i. entry_script r p u t (length (p.shown t) + i)) w.number) at w.mid (start_row u (first_user_machine r.system u) ++ open_journal_rows (p.shown t))
            (start_row u (first_user_machine r.system u) ++ open_journal_rows (take (length (p.shown t) + w.number) (p.shown (suc t)))) h.text_is w.before rows

        stand : Stand r (suc t) w.mid
        stand =
            unwritten (scripts (λ i. entry_script r p u t (length (p.shown t) + i)) w.number) at w.mid None
            (of_scripts WritesNoSector quiet (λ i. entry_script r p u t (length (p.shown t) + i)) w.number (λ i. of_row WritesNoSector quiet r p u t (length (p.shown t) + i))) w.before ∙ h.are

        by : Broken (reads_of r p u t (length (p.shown t) + w.number)) (prints (row_behind (p.shown (suc t)) (length (p.shown t) + w.number))) w.mid new TheDisk → AfterDisk R r load p old new
        by (in_first z) =
            in_rows u t w.number w.mid v lt less stand
            (count (up_to_row r load p u t w.number) w.mid
            (both (up_to_step r load p t ++ script_of_step r.around (state_at r t)) (scripts (λ i. entry_script r p u t (length (p.shown t) + i)) w.number) begin at w.mid None reached w.before)) w.breaks_off (ap (λ (o : Output). o.text) (sink_stays (reads_of r p u t (length (p.shown t) + w.number)) w.mid new (Some TheDisk) (disk_reads r p u t (length (p.shown t) + w.number)) z) ∙ printed)
        by (in_second late z put) =
            absurd (not_disk (sym (blames TheSink (prints (row_behind (p.shown (suc t)) (length (p.shown t) + w.number))) late new TheDisk (sink_prints (row_behind (p.shown (suc t)) (length (p.shown t) + w.number))) put)))

    step_undone : (R : Type 0) (load : List Call) (begin : Outside) → Counting begin → (t : ℕ) (mid new : Outside) → Performs (up_to_step r load p t) begin mid None → t < steps_made r → At t mid → Performs (step_script r p t) mid new (Some TheDisk) → AfterDisk R r load p old new
    step_undone R load begin count t mid new reached lt h q = by (part (script_of_step r.around (state_at r t)) (rows_script r.view r p t) mid new TheDisk q)
      where
        of_view : (v : View) → r.view ≡ v → SeesUser v (length r.system.boot.users) → (at : Outside) → Performs (up_to_step r load p t ++ script_of_step r.around (state_at r t)) begin at None →
            Stands old at (text_by v r p t) (state_at r (suc t)).device.sectors → Performs (rows_script v r p t) at new (Some TheDisk) → AfterDisk R r load p old new
        of_view Boot e see at before s rows =
            let x : List ℕ = rows_text (drop (length (cvm_at r p t).rows) (cvm_at r p (suc t)).rows) in
            absurd (not_disk (sym (blames TheSink (prints x) at new TheDisk (sink_prints x) rows)))
        of_view (Trace u) e see at before s rows = entries_unread R load begin count u t at new before e see.0 see.1 lt s rows

        by : Broken (script_of_step r.around (state_at r t)) (rows_script r.view r p t) mid new TheDisk → AfterDisk R r load p old new
        by (in_first z) =
            in_transfer t mid lt h.are (count (up_to_step r load p t) mid reached) z (ap (λ (o : Output). o.text) (sink_stays (script_of_step r.around (state_at r t)) mid new (Some TheDisk) (disk_due r.around (state_at r t)) z) ∙ h.text_is)
        by (in_second at z rows) = of_view r.view refl k.user at (both (up_to_step r load p t) (script_of_step r.around (state_at r t)) begin mid at None reached z) (due_done t mid at lt h z) rows

    -- and in steps
    pub steps_unsaid : (R : Type 0) (t n : ℕ) (mid new : Outside) → t + n ≤ steps_made r → At t mid → Performs (steps_script r p t n) mid new (Some TheSink) → AfterSink R r p old new
    steps_unsaid R t n mid new le h q =
        let w = within (λ i. step_script r p (t + i)) n mid new TheSink q in
        let l = w.less in
        step_unsaid R (t + w.number) w.mid new (omega (arith, le, l)) (steps_done t w.number mid w.mid (omega (arith, le, l)) h w.before) w.breaks_off

    pub steps_undone : (R : Type 0) (load : List Call) (begin : Outside) → Counting begin → (n : ℕ) (mid new : Outside) → Performs (load ++ opening_script r.view r.system) begin mid None → n ≤ steps_made r → At 0 mid →
        Performs (steps_script r p 0 n) mid new (Some TheDisk) → AfterDisk R r load p old new
    steps_undone R load begin count n mid new reached le h q =
        let w = within (λ i. step_script r p (0 + i)) n mid new TheDisk q in
        let l = w.less in
        let e : w.number ≡ 0 + w.number = omega arith in
        let before = both (load ++ opening_script r.view r.system) (steps_script r p 0 w.number) begin mid w.mid None reached w.before in
        step_undone R load begin count (0 + w.number) w.mid new (subst (λ (m : ℕ). Performs (up_to_step r load p m) begin w.mid None) e before) (omega (arith, le, l))
        (steps_done 0 w.number mid w.mid (omega (arith, le, l)) h w.before) w.breaks_off

    -- IN THE REPORT
    whole_is : has_ended r ≡ true → whole_text r p ≡ ended_text r.view r p (steps_made r) ++ []
    whole_is e = ap (λ (b : Bool). if b then ended_text r.view r p (steps_made r) else text_at r p (steps_made r)) e ∙ sym (append-nil (ended_text r.view r p (steps_made r)))

    pub report_unsaid : (R : Type 0) (mid new : Outside) → R → has_ended r ≡ true → At (steps_made r) mid → Performs (closing_script r p) mid new (Some TheSink) → AfterSink R r p old new
    report_unsaid R mid new g e h q =
        fault.in_report g (unwritten (closing_script r p) mid new (Some TheSink) (of_report WritesNoSector quiet r.view r p (steps_made r)) q ∙ h.are)
        (broken_within tell store old (closing_script r p) mid new TheSink (text_at r p (steps_made r)) [] (text_at r p (steps_made r)) (ended_text r.view r p (steps_made r)) [] (whole_text r p) h.text_is q
        (closing_tells r k p is e) (sym (append-nil (text_at r p (steps_made r)))) (whole_is e))

    -- the first row of a report is there before the disk is called
    behind_first : (mid new : Outside) (base x front d whole all : List ℕ) (b : List Call) → HasPrinted old mid base → Tells (says x ++ b) base whole → base ++ x ≡ front ++ d → all ≡ whole ++ [] →
        Performs (says x ++ b) mid new (Some TheDisk) → PrintedWithin old new front all
    behind_first mid new base x front d whole all b h w cut e q = by (part (says x) b mid new TheDisk q)
      where
        by : Broken (says x) b mid new TheDisk → PrintedWithin old new front all
        by (in_first z) = absurd (not_disk (sym (blames TheSink (says x) mid new TheDisk (refl, tt) z)))
        by (in_second at z rest) =
            let m = told_behind x b w.text w.told in
            broken_within tell store old b at new TheDisk front d (base ++ x) whole [] all (text_more tell store old (says x) mid at base (base ++ x) h z (says_tells x base)) rest
            (record { text = m.0; told = m.1; is = w.is ∙ ap (λ (l : List ℕ). base ++ l) m.2 ∙ sym (append_assoc base x m.0) }) cut e

    boot_closed : (mid new : Outside) (s : State) (c : Cvm) (base whole all : List ℕ) (st : Status) → HasPrinted old mid base → Tells (boot_report r.system s c st) base whole → all ≡ whole ++ [] →
        Performs (boot_report r.system s c st) mid new (Some TheDisk) → PrintedWithin old new (base ++ end_text st) all
    boot_closed mid new s c base whole all (Faulted f) h w e q = absurd (not_none mid new TheDisk q)
    boot_closed mid new s c base whole all Running h w e q = behind_first mid new base (end_text Running ++ globals r.system c ++ log c) (base ++ end_text Running) (globals r.system c ++ log c) whole all (users r.system s c) h w (front_of base (end_text Running) (globals r.system c) (log c)) e q
    boot_closed mid new s c base whole all Halted h w e q = behind_first mid new base (end_text Halted ++ globals r.system c ++ log c) (base ++ end_text Halted) (globals r.system c ++ log c) whole all (users r.system s c) h w (front_of base (end_text Halted) (globals r.system c) (log c)) e q

    trace_closed : (mid new : Outside) (s : State) (c : Cvm) (u : ℕ) (row : List ℕ) (j : List JournalEntry) (whole all : List ℕ) (st : Status) → HasPrinted old mid (row ++ open_journal_rows j) →
        Tells (trace_report r.system s c u j st) (row ++ open_journal_rows j) whole → all ≡ whole ++ [] → Performs (trace_report r.system s c u j st) mid new (Some TheDisk) →
        PrintedWithin old new (row ++ journal_rows j ++ end_text st) all
    trace_closed mid new s c u row j whole all (Faulted f) h w e q =
        absurd (not_disk (sym (blames TheSink (says (last_steps j ++ codes "fault " ++ fault_name f ++ codes "\n")) mid new TheDisk (refl, tt) q)))
    trace_closed mid new s c u row j whole all Running h w e q =
        behind_first mid new (row ++ open_journal_rows j) (last_steps j ++ end_text Running) (row ++ journal_rows j ++ end_text Running) [] whole all (user_report_script (map_of r.system.boot) s u (user_of c.core.users u)) h w
        (sym (behind_last r k p is row (end_text Running) j) ∙ sym (append-nil (row ++ journal_rows j ++ end_text Running))) e q
    trace_closed mid new s c u row j whole all Halted h w e q =
        behind_first mid new (row ++ open_journal_rows j) (last_steps j ++ end_text Halted) (row ++ journal_rows j ++ end_text Halted) [] whole all (user_report_script (map_of r.system.boot) s u (user_of c.core.users u)) h w
        (sym (behind_last r k p is row (end_text Halted) j) ∙ sym (append-nil (row ++ journal_rows j ++ end_text Halted))) e q

    report_closed : (mid new : Outside) → has_ended r ≡ true → HasPrinted old mid (text_at r p (steps_made r)) → Performs (closing_script r p) mid new (Some TheDisk) → PrintedWithin old new (closed_by r.view r p) (whole_text r p)
    report_closed mid new e h q = by r.view h (closing_tells r k p is e) (whole_is e) q
      where
        by : (v : View) → HasPrinted old mid (text_by v r p (steps_made r)) → Tells (report_by v r p (steps_made r)) (text_by v r p (steps_made r)) (ended_text v r p (steps_made r)) →
            whole_text r p ≡ ended_text v r p (steps_made r) ++ [] → Performs (report_by v r p (steps_made r)) mid new (Some TheDisk) → PrintedWithin old new (closed_by v r p) (whole_text r p)
        by Boot h w e q =
            boot_closed mid new (state_at r (steps_made r)) (cvm_at r p (steps_made r)) (rows_text (cvm_at r p (steps_made r)).rows) (boot_text r.system (cvm_at r p (steps_made r))) (whole_text r p)
            (cvm_at r p (steps_made r)).status h w e q
        by (Trace u) h w e q =
            trace_closed mid new (state_at r (steps_made r)) (cvm_at r p (steps_made r)) u (start_row u (first_user_machine r.system u)) (p.shown (steps_made r)) (ended_text (Trace u) r p (steps_made r)) (whole_text r p)
            (cvm_at r p (steps_made r)).status h w e q

    pub report_undone : (R : Type 0) (load : List Call) (mid new : Outside) → CalledBy (up_to_step r load p (steps_made r)) old mid → R → has_ended r ≡ true → At (steps_made r) mid → Performs (closing_script r p) mid new (Some TheDisk) → AfterDisk R r load p old new
    report_undone R load mid new n g e h q = in_report mid g h.are n h.text_is q (report_closed mid new e h.text_is q)

    -- FROM A STEP ON
    steps_left : (t : ℕ) (mid at : Outside) → t ≤ steps_made r → At t mid → Performs (steps_script r p t (steps_made r - t)) mid at None → At (steps_made r) at
    steps_left t mid at le h q =
        let e : t + (steps_made r - t) ≡ steps_made r = omega (arith, le) in
        subst (λ (n : ℕ). At n at) e (steps_done t (steps_made r - t) mid at (omega (arith, le)) h q)

    pub rest_unsaid : (t : ℕ) (mid new : Outside) → t ≤ steps_made r → At t mid → Performs (rest_script r p t) mid new (Some TheSink) → AfterSink (has_ended r ≡ true) r p old new
    rest_unsaid t mid new le h q = by (part (steps_script r p t (steps_made r - t)) (if has_ended r then closing_script r p else []) mid new TheSink q)
      where
        end : (at : Outside) → At (steps_made r) at → (b : Bool) → has_ended r ≡ b → Performs (if b then closing_script r p else []) at new (Some TheSink) → AfterSink (has_ended r ≡ true) r p old new
        end at a true e z = report_unsaid (has_ended r ≡ true) at new e e a z
        end at a false e z = absurd (not_none at new TheSink z)

        by : Broken (steps_script r p t (steps_made r - t)) (if has_ended r then closing_script r p else []) mid new TheSink → AfterSink (has_ended r ≡ true) r p old new
        by (in_first z) = steps_unsaid (has_ended r ≡ true) t (steps_made r - t) mid new (omega (arith, le)) h z
        by (in_second at z w) = end at (steps_left t mid at le h z) (has_ended r) refl w

    pub rest_undone : (load : List Call) (begin : Outside) → Counting begin → (mid new : Outside) → Performs (load ++ opening_script r.view r.system) begin mid None → At 0 mid →
        Performs (rest_script r p 0) mid new (Some TheDisk) → AfterDisk (has_ended r ≡ true) r load p old new
    rest_undone load begin count mid new reached h q = by (part (steps_script r p 0 (steps_made r - 0)) (if has_ended r then closing_script r p else []) mid new TheDisk q)
      where
        all : steps_made r - 0 ≡ steps_made r
        all = omega arith

        end : (at : Outside) → CalledBy (up_to_step r load p (steps_made r)) old at → At (steps_made r) at → (b : Bool) → has_ended r ≡ b → Performs (if b then closing_script r p else []) at new (Some TheDisk) →
            AfterDisk (has_ended r ≡ true) r load p old new
        end at n a true e z = report_undone (has_ended r ≡ true) load at new n e e a z
        end at n a false e z = absurd (not_none at new TheDisk z)

        counted : (at : Outside) → Performs (steps_script r p 0 (steps_made r - 0)) mid at None → CalledBy (up_to_step r load p (steps_made r)) old at
        counted at z =
            subst (λ (m : ℕ). CalledBy (up_to_step r load p m) old at) all
            (count (up_to_step r load p (steps_made r - 0)) at (both (load ++ opening_script r.view r.system) (steps_script r p 0 (steps_made r - 0)) begin mid at None reached z))

        by : Broken (steps_script r p 0 (steps_made r - 0)) (if has_ended r then closing_script r p else []) mid new TheDisk → AfterDisk (has_ended r ≡ true) r load p old new
        by (in_first z) = steps_undone (has_ended r ≡ true) load begin count (steps_made r - 0) mid new reached (omega arith) h z
        by (in_second at z w) = end at (counted at z) (steps_left 0 mid at (omega arith) h z) (has_ended r) refl w

    -- OF A LOAD, that calls the disk alone and makes the start
    module _ (load : List Call) (before : List (List ℕ)) (disk : AllOf TheDisk load) (mute : Tells load [] []) (makes : sectors_after load before ≡ r.first.device.sectors) where
      pub loaded : (mid at : Outside) → Stands old mid [] before → Performs load mid at None → Stands old at [] r.first.device.sectors
      loaded mid at h q = more tell store old load mid at [] [] before r.first.device.sectors h q mute makes

      pub load_undone : (R : Type 0) (mid new : Outside) → mid.disk ≡ old.disk → Stands old mid [] before → Performs load mid new (Some TheDisk) → AfterDisk R r load p old new
      load_undone R mid new s h q = in_load mid s q (ap (λ (o : Output). o.text) (sink_stays load mid new (Some TheDisk) disk q) ∙ h.text_is)

      pub load_said : (mid new : Outside) → Performs load mid new (Some TheSink) → ⊥
      load_said mid new q = not_disk (blames TheDisk load mid new TheSink disk q)

      opened : (mid at : Outside) → Stands old mid [] before → Performs (load ++ opening_script r.view r.system) mid at None → At 0 at
      opened mid at h q =
          more tell store old (load ++ opening_script r.view r.system) mid at [] (text_at r p 0) before r.first.device.sectors h q
          (tells_both load (opening_script r.view r.system) [] [] (text_at r p 0) mute (opening_tells r k p is))
          (stored-append load (opening_script r.view r.system) before
          ∙ quiet_stores (opening_script r.view r.system) (of_opening WritesNoSector quiet r.view r.system) (sectors_after load before) ∙ makes)

      opening_calls_sink : (v : View) → AllOf TheSink (opening_script v r.system)
      opening_calls_sink Boot = tt
      opening_calls_sink (Trace u) = (refl, tt)

      opening_unsaid : (R : Type 0) (at new : Outside) → Stands old at [] r.first.device.sectors → Performs (opening_script r.view r.system) at new (Some TheSink) → AfterSink R r p old new
      opening_unsaid R at new h q = by r.view refl q
        where
          by : (v : View) → r.view ≡ v → Performs (opening_script v r.system) at new (Some TheSink) → AfterSink R r p old new
          by Boot v z = absurd (not_none at new TheSink z)
          by (Trace u) v z =
              fault.in_opening u v (unwritten (opening_script r.view r.system) at new (Some TheSink) (of_opening WritesNoSector quiet r.view r.system) q ∙ h.are)
              (broken_within tell store old (opening_script r.view r.system) at new TheSink [] [] [] (text_at r p 0) [] (text_at r p 0) h.text_is q (opening_tells r k p is) refl (sym (append-nil (text_at r p 0))))

      -- THE WHOLE RUN
      pub run_unsaid : (mid new : Outside) → Stands old mid [] before → Performs (run_script r load p) mid new (Some TheSink) → AfterSink (has_ended r ≡ true) r p old new
      run_unsaid mid new h q = by (part (load ++ opening_script r.view r.system) (rest_script r p 0) mid new TheSink q)
        where
          first : Broken load (opening_script r.view r.system) mid new TheSink → AfterSink (has_ended r ≡ true) r p old new
          first (in_first z) = absurd (load_said mid new z)
          first (in_second at z w) = opening_unsaid (has_ended r ≡ true) at new (loaded mid at h z) w

          by : Broken (load ++ opening_script r.view r.system) (rest_script r p 0) mid new TheSink → AfterSink (has_ended r ≡ true) r p old new
          by (in_first z) = first (part load (opening_script r.view r.system) mid new TheSink z)
          by (in_second at z w) = rest_unsaid 0 at new (omega arith) (opened mid at h z) w

      pub run_undone : (mid new : Outside) → Counting mid → mid.disk ≡ old.disk → Stands old mid [] before → Performs (run_script r load p) mid new (Some TheDisk) → AfterDisk (has_ended r ≡ true) r load p old new
      run_undone mid new count s h q = by (part (load ++ opening_script r.view r.system) (rest_script r p 0) mid new TheDisk q)
        where
          first : Broken load (opening_script r.view r.system) mid new TheDisk → AfterDisk (has_ended r ≡ true) r load p old new
          first (in_first z) = load_undone (has_ended r ≡ true) mid new s h z
          first (in_second at z w) = absurd (not_disk (sym (blames TheSink (opening_script r.view r.system) at new TheDisk (opening_calls_sink r.view) w)))

          by : Broken (load ++ opening_script r.view r.system) (rest_script r p 0) mid new TheDisk → AfterDisk (has_ended r ≡ true) r load p old new
          by (in_first z) = first (part load (opening_script r.view r.system) mid new TheDisk z)
          by (in_second at z w) = rest_undone load mid count at new z (opened mid at h z) w
