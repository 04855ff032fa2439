-- A run of a system that is never out of stack doesn't stop for want of it, and `fault StackOut` isn't printed.
use Rattle.std.specs.Io.KnownBytes.{append_known}
use Rattle.std.proofs.Common.{◌≡◌, ◌≢◌, ℕ, List, [], ◌∷◌, ◌++◌, Some, sym, ap, ◌∙◌, subst}
use Rattle.std.specs.Prelude.{Option, codes}
use Rattle.mips_table.specs.Device.{Environment}
use Rattle.cvm_model.specs.declared.kernel_fault.KernelFault.TheVariants.{StackOut}
use Rattle.cvm_model.specs.Primitives.{user_of}
use Rattle.cvm_model.specs.Cvm.{System, Faulted, Cvm, IsCvm}
use Rattle.mips_table.specs.Turns.{lines_of_turn}
use Rattle.mips_table.specs.Machine.{State}
use Rattle.boot_turns.specs.TurnEnds.{first_user_machine, Printed, Whole}
use Rattle.boot_run.specs.declared.whole.RunEnd.{RunEnd}
use Rattle.boot_run.specs.declared.whole.RunEnd.TheVariants.{OutOfSteps}
use Rattle.run_scripts.specs.RanFrom.{TextAt}
use Rattle.boot_turns.specs.declared.answers.View.{View}
use Rattle.boot_turns.specs.declared.answers.View.TheVariants as view
use Rattle.run_scripts.specs.Boot.{booted, environment_of, start_state}
use Rattle.boot_report.specs.Texts.{fault_row}
use Rattle.run_scripts.specs.Suffices.{EndsWith, StackOutIsNotPrinted}
use Rattle.cvm_shell.proofs.StackTexts.{IsClean, rows_clean, boot_clean, journal_clean, trace_clean, clean_end}

-- behind what stood there
behind : (before a b : List ℕ) → before ++ a ≡ before ++ b → a ≡ b
behind [] a b e = e
behind (x ∷ before) a b e = behind before a b cc

one_text : (told : Option (List ℕ)) (before text rest : List ℕ) → told ≡ Some before → append_known told text ≡ Some (before ++ rest) → text ≡ rest
one_text told before text rest e h =
    let all : Some (before ++ text) ≡ Some (before ++ rest) = sym (ap (λ (o : Option (List ℕ)). append_known o text) e) ∙ h in
    behind before text rest cc

module _ (x : Environment) (y : System) (s : State) (never : (k : ℕ) (c : Cvm) → IsCvm y (lines_of_turn x s) k c → c.status ≢ Faulted StackOut) where
  printed_clean : (v : View) (t : ℕ) (text : List ℕ) → Printed x y s v t text → IsClean text
  printed_clean view.Boot t text (c, is, e) = subst IsClean (sym e) (rows_clean y _ _ c is (never _ c is))
  printed_clean (view.Trace u) t text (j, shown, e) = subst IsClean (sym e) (journal_clean u (first_user_machine y u) j)

  whole_clean : (v : View) (t : ℕ) (text : List ℕ) → Whole x y s v t text → IsClean text
  whole_clean view.Boot t text (c, is, e) = subst IsClean (sym e) (boot_clean y _ _ c is (never _ c is))
  whole_clean (view.Trace u) t text (c, j, is, shown, e) = subst IsClean (sym e) (trace_clean u (first_user_machine y u) j (user_of c.core.users u) c.status (never _ c is))

  text_clean : (v : View) (t : ℕ) (e : RunEnd) (text : List ℕ) → TextAt x y s v t e text → IsClean text
  text_clean v t OutOfSteps text h = printed_clean v t text h
  text_clean v t other text h = whole_clean v t text h

pub not_met : StackOutIsNotPrinted
not_met words status ended old new before after source stack session s rows sectors enough says has h =
    let x = environment_of rows before in
    let y = booted s rows in
    let first = start_state session s rows sectors in
    let clean : IsClean h.text = text_clean x y first (λ k c is. enough source stack s says has rows (lines_of_turn x first) k c is) session.view _ h.ending h.text h.ran.text_is in
    let same : (ends : EndsWith (fault_row StackOut) before after) → h.text ≡ ends.front ++ codes "fault StackOut\n" =
    λ ends. one_text before.sink.text ends.before h.text (ends.front ++ codes "fault StackOut\n") ends.before_told (sym h.printed ∙ ends.printed) in
    record {
      meant = enough source stack s says has rows (lines_of_turn x first) _ h.ran.past h.ran.cvm;
      printed = λ ends. clean_end ends.front (subst IsClean (same ends) clean);
    }
