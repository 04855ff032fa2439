-- Which calls scripts make, and what stays where they make none of a kind.
use Rattle.std.specs.Prelude.{Option, Some, None, if◌then◌else◌}
use Rattle.std.proofs.Common.{◌≡◌, ◌≢◌, ℕ, zero, suc, Bool, true, false, List, [], ◌∷◌, ◌++◌, refl, sym, ap, ap₂, ◌∙◌, subst, arith}
use Rattle.cvm_model.specs.Cvm.{Status as CvmStatus, Running, Halted, Faulted}
use Rattle.kernel_linker.specs.Accept.{ImageSystem}
use Rattle.schedule_file.specs.Rows.{Rows}
use Rattle.run_scripts.specs.declared.exit_status.Status.{Status}
use Rattle.run_scripts.specs.declared.session.Session.{Session}
use Rattle.run_scripts.specs.Command.{Command, IsCommand, save, resume, save_session}
use Rattle.run_scripts.specs.Plan.{Plan}
use Rattle.cvm_outside.specs.Outside.{Outside}
use Rattle.cvm_outside.specs.Script.{Call, Printed, Read, Wrote, Got, Stored, Who, Performs, done, breaks, goes_on, disk_calls}
use Rattle.boot_turns.specs.Runs.{Run, Past, state_at, steps_made, has_ended, cvm_at}
use Rattle.run_scripts.specs.Boot.{booted, sectors_needed}
use Rattle.boot_turns.specs.StepScript.{steps_script}
use Rattle.run_scripts.specs.SessionRuns.{run_of, pages_loaded}
use Rattle.boot_turns.specs.LoopScripts.{AreOfRun}
use Rattle.boot_run.specs.AnyScripts.{end_by_power, IsReport, untold_rest}
use Rattle.boot_run.specs.RunScript.{AreReads, saved_row, saved_bytes, leaving_script, save_script}
use Rattle.run_scripts.specs.Ends.{PlanAsks, SessionAsks, no_user, small, over_told, over_untold, SomeRunAsks, SomeSaveAsks, as_boot, is_saved, session_load}
use Rattle.run_scripts.specs.Shapes.{Loads, gets_in, puts_in, NamedBy}
use Rattle.run_scripts.specs.Served.{file_put}
use Rattle.run_scripts.proofs.ScriptsMadeOf.{Closed, of_load, of_report, of_run, of_steps, of_untold}
use Rattle.run_scripts.proofs.OneCommand.{one_command}
use Rattle.run_scripts.proofs.CommandOutcomes.{Outcome, is_none, is_refused, is_booted, is_saved as saved_so, is_resumed, is_put, is_told}

gets-append : (a b : List Call) → gets_in (a ++ b) ≡ gets_in a ++ gets_in b
gets-append [] b = refl
gets-append (Got n ∷ a) b = ap (λ (l : List (List ℕ)). n ∷ l) (gets-append a b)
gets-append (Stored n bs ∷ a) b = gets-append a b
gets-append (Printed t ∷ a) b = gets-append a b
gets-append (Read q ∷ a) b = gets-append a b
gets-append (Wrote q ws ∷ a) b = gets-append a b

puts-append : (a b : List Call) → puts_in (a ++ b) ≡ puts_in a ++ puts_in b
puts-append [] b = refl
puts-append (Stored n bs ∷ a) b = ap (λ (l : List (List ℕ)). n ∷ l) (puts-append a b)
puts-append (Got n ∷ a) b = puts-append a b
puts-append (Printed t ∷ a) b = puts-append a b
puts-append (Read q ∷ a) b = puts-append a b
puts-append (Wrote q ws ∷ a) b = puts-append a b

-- a script without a call of the shelf
pub record Plain (a : List Call) : Type 0 where
  pub gets : gets_in a ≡ []
  pub puts : puts_in a ≡ []

pub plain_both : (a b : List Call) → Plain a → Plain b → Plain (a ++ b)
plain_both a b p q = record { gets = gets-append a b ∙ ap₂ (λ (x y : List (List ℕ)). x ++ y) p.gets q.gets; puts = puts-append a b ∙ ap₂ (λ (x y : List (List ℕ)). x ++ y) p.puts q.puts }

pub plain : Closed Plain
plain = record { none = record { gets = refl; puts = refl }; both = plain_both; print = λ t. record { gets = refl; puts = refl }; read = λ q. record { gets = refl; puts = refl } }

pub plain_write : (q : ℕ) (ws : List ℕ) → Plain (Wrote q ws ∷ [])
plain_write q ws = record { gets = refl; puts = refl }

pub plain_load : (session : Session) (s : ImageSystem) (rows : Rows) → Plain (session_load session s rows)
plain_load session s rows = of_load Plain plain plain_write (pages_loaded session.start (booted s rows)) (sectors_needed session s rows)

plain_some : (a : List Call) → AreOfRun a → Plain a
plain_some [] h = record { gets = refl; puts = refl }
plain_some (Read q ∷ a) h = let t = plain_some a h in record { gets = t.gets; puts = t.puts }
plain_some (Wrote q ws ∷ a) h = let t = plain_some a h in record { gets = t.gets; puts = t.puts }
plain_some (Printed None ∷ a) h = let t = plain_some a h in record { gets = t.gets; puts = t.puts }
plain_some (Printed (Some x) ∷ a) h = absurd h
plain_some (Got n ∷ a) h = absurd h
plain_some (Stored n bs ∷ a) h = absurd h

plain_reads : (a : List Call) → AreReads a → Plain a
plain_reads [] h = record { gets = refl; puts = refl }
plain_reads (Read q ∷ a) h = let t = plain_reads a h in record { gets = t.gets; puts = t.puts }
plain_reads (Printed None ∷ a) h = let t = plain_reads a h in record { gets = t.gets; puts = t.puts }
plain_reads (Wrote q ws ∷ a) h = absurd h
plain_reads (Printed (Some x) ∷ a) h = absurd h
plain_reads (Got n ∷ a) h = absurd h
plain_reads (Stored n bs ∷ a) h = absurd h

-- a report of which no text is told only reads
no_reads : (report : List Call) → report ≡ [] → AreReads report
no_reads report e = subst AreReads (sym e) tt

pub report_reads : (ended : Bool) (off : Option ℕ) (report : List Call) → IsReport (end_by_power ended off) report → AreReads report
report_reads false None report h = no_reads report h
report_reads false (Some n) report h = no_reads report h
report_reads true None report h = h
report_reads true (Some zero) report h = h
report_reads true (Some (suc n)) report h = no_reads report h

-- it gets none, and puts nothing but this file, once
pub record PutsOnly (name : Option (List ℕ)) (a : List Call) : Type 0 where
  pub gets : gets_in a ≡ []
  pub puts : NamedBy name (puts_in a)

plain_puts : (name : Option (List ℕ)) (a : List Call) → Plain a → PutsOnly name a
plain_puts name a p = record { gets = p.gets; puts = subst (NamedBy name) (sym p.puts) tt }

same_puts : (name : Option (List ℕ)) (a b : List Call) → a ≡ b → PutsOnly name b → PutsOnly name a
same_puts name a b e h = subst (PutsOnly name) (sym e) h

-- a plain script, and then the file and a row
then_put : (a : List Call) (name bytes row : List ℕ) → Plain a → PutsOnly (Some name) (a ++ (Stored name bytes ∷ Printed (Some row) ∷ []))
then_put a name bytes row p = record {
  gets = gets-append a _ ∙ ap (λ (l : List (List ℕ)). l ++ []) p.gets;
  puts = subst (NamedBy (Some name)) (sym (puts-append a _ ∙ ap (λ (l : List (List ℕ)). l ++ (name ∷ [])) p.puts)) refl;
}

save_puts : (name : List ℕ) (r : Run) (load : List Call) (p : Past) → Plain load → PutsOnly (Some name) (save_script name r load p)
save_puts name r load p h = by (has_ended r) (cvm_at r p (steps_made r)).status
  where
    front : Plain (load ++ steps_script r p 0 (steps_made r))
    front = plain_both load (steps_script r p 0 (steps_made r)) h (of_steps Plain plain plain_write r p 0 (steps_made r))

    by : (b : Bool) (st : CvmStatus) → PutsOnly (Some name) (load ++ steps_script r p 0 (steps_made r) ++ (if b then leaving_script name r p st else []))
    by true Running = then_put (load ++ steps_script r p 0 (steps_made r)) name (saved_bytes r p) saved_row front
    by true Halted = plain_puts (Some name) _ (plain_both (load ++ steps_script r p 0 (steps_made r)) _ front (of_report Plain plain r.view r p (steps_made r)))
    by true (Faulted f) = plain_puts (Some name) _ (plain_both (load ++ steps_script r p 0 (steps_made r)) _ front (of_report Plain plain r.view r p (steps_made r)))
    by false st = plain_puts (Some name) _ (plain_both (load ++ steps_script r p 0 (steps_made r)) [] front (record { gets = refl; puts = refl }))

-- what a session asks for
session_puts : (name : Option (List ℕ)) (session : Session) (s : ImageSystem) (rows : Rows) (at : Outside) (Told : List (List ℕ) → List Call → Status → Type 0) (Some_ : List Call → Status → Type 0) →
    ((ss : List (List ℕ)) (a : List Call) (st : Status) → Told ss a st → PutsOnly name a) → ((a : List Call) (st : Status) → Some_ a st → PutsOnly name a) →
    (script : List Call) (due : Status) → SessionAsks session s rows at Told Some_ script due → PutsOnly name script
session_puts name session s rows at T S t m script due (no_user u v n) = plain_puts name _ (record { gets = refl; puts = refl })
session_puts name session s rows at T S t m script due (small v n) = plain_puts name _ (record { gets = refl; puts = refl })
session_puts name session s rows at T S t m script due (over_told ss _ _ v n q a) = t ss script due a
session_puts name session s rows at T S t m script due (over_untold _ _ v n q a) = m script due a

some_puts : (name : Option (List ℕ)) (load script : List Call) (due : Status) → Plain load → SomeRunAsks load script due → PutsOnly name script
some_puts name load script due h w = same_puts name script (load ++ w.0) w.2 (plain_puts name (load ++ w.0) (plain_both load w.0 h (plain_some w.0 w.1)))

some_save_puts : (name : List ℕ) (load script : List Call) (due : Status) → Plain load → SomeSaveAsks name load script due → PutsOnly (Some name) script
some_save_puts name load script due h (as_boot _ _ w) = some_puts (Some name) load script due h w
some_save_puts name load script due h (is_saved more bytes a) = then_put (load ++ more) name bytes saved_row (plain_both load more h (plain_some more a))

-- PLANS
pub shape_of : (words : List (List ℕ)) (c : Command) (p : Plan) (at : Outside) (script : List Call) (due : Status) → IsCommand words c → Outcome words p → PlanAsks p at script due →
    PutsOnly (file_put c) script
shape_of words c p at script due is (is_none n) a = same_puts (file_put c) script _ a.0 (plain_puts (file_put c) _ (record { gets = refl; puts = refl }))
shape_of words c p at script due is (is_refused d k r f) a = same_puts (file_put c) script _ a.0 (plain_puts (file_put c) _ (record { gets = refl; puts = refl }))
shape_of words c p at script due is (is_booted d k l session s rows) a =
    session_puts (file_put c) session s rows at _ _
    (λ ss x st w. same_puts (file_put c) x _ w.script_is (plain_puts (file_put c) _ (of_run Plain plain plain_write (run_of session s rows at.disk.size ss) (session_load session s rows) w.past (plain_load session s rows))))
    (λ x st w. some_puts (file_put c) (session_load session s rows) x st (plain_load session s rows) w) script due a
shape_of words c p at script due is (saved_so d k s rows) a =
    let e : file_put c ≡ Some d.file = ap file_put (one_command words c (save d) is k) in
    subst (λ (o : Option (List ℕ)). PutsOnly o script) (sym e)
    (session_puts (Some d.file) (save_session d) s rows at _ _
    (λ ss x st w. same_puts (Some d.file) x _ w.script_is
    (save_puts d.file (run_of (save_session d) s rows at.disk.size ss) (session_load (save_session d) s rows) w.past (plain_load (save_session d) s rows)))
    (λ x st w. some_save_puts d.file (session_load (save_session d) s rows) x st (plain_load (save_session d) s rows) w) script due a)
shape_of words c p at script due is (is_resumed d k s rows machine) a =
    session_puts (file_put c) (save_session d) s rows at _ _
    (λ ss x st w. same_puts (file_put c) x _ w.script_is (plain_puts (file_put c) _ (plain_both (untold_rest w.run 0) w.report (of_untold Plain plain plain_write w.run) (plain_reads w.report (report_reads (has_ended w.run) (state_at w.run (steps_made w.run)).off w.report w.is_report)))))
    (λ x st w. some_puts (file_put c) [] x st (record { gets = refl; puts = refl }) w) script due a
shape_of words c p at script due is (is_put d k name bytes e) a =
    same_puts (file_put c) script _ a.0 (record { gets = refl; puts = ap file_put (one_command words c d is k) ∙ e })
shape_of words c p at script due is (is_told d k text) a = same_puts (file_put c) script _ a.0 (plain_puts (file_put c) _ (record { gets = refl; puts = refl }))

-- FILES that no call puts stay
one_of : (name : Option (List ℕ)) (n : List ℕ) (rest : List (List ℕ)) → NamedBy name (n ∷ rest) → (name ≡ Some n) × (rest ≡ [])
one_of name n [] h = (h, refl)
one_of name n (m ∷ rest) h = absurd h

pub files_stay : (name : Option (List ℕ)) (a : List Call) (old new : Outside) (b : Option Who) → NamedBy name (puts_in a) → Performs a old new b → (n : List ℕ) → name ≢ Some n → new.shelf.file n ≡ old.shelf.file n
files_stay name a old new b h (done _) n ne = refl
files_stay name a old new b h (breaks (Printed t) rest _ _ f) n ne = ap (λ (o : Outside). o.shelf.file n) f.2
files_stay name a old new b h (breaks (Read q) rest _ _ f) n ne = ap (λ (o : Outside). o.shelf.file n) f.1
files_stay name a old new b h (breaks (Wrote q ws) rest _ _ f) n ne = ap (λ (o : Outside). o.shelf.file n) f.1.1
files_stay name a old new b h (breaks (Got m) rest _ _ f) n ne = f.0 n
files_stay name a old new b h (breaks (Stored m bs) rest _ _ f) n ne = f.0 n (λ e. ne ((one_of name m (puts_in rest) h).0 ∙ ap (λ (l : List ℕ). Some l) (sym e)))
files_stay name a old new b h (goes_on (Printed t) rest _ mid _ _ d p) n ne = files_stay name rest mid new b h p n ne ∙ ap (λ (o : Outside). o.shelf.file n) d.1
files_stay name a old new b h (goes_on (Read q) rest _ mid _ _ d p) n ne = files_stay name rest mid new b h p n ne ∙ ap (λ (o : Outside). o.shelf.file n) d.0
files_stay name a old new b h (goes_on (Wrote q ws) rest _ mid _ _ d p) n ne = files_stay name rest mid new b h p n ne ∙ ap (λ (o : Outside). o.shelf.file n) d.0
files_stay name a old new b h (goes_on (Got m) rest _ mid _ _ d p) n ne = files_stay name rest mid new b h p n ne ∙ d.0 n
files_stay name a old new b h (goes_on (Stored m bs) rest _ mid _ _ d p) n ne =
    let k = one_of name m (puts_in rest) h in
    files_stay name rest mid new b (subst (NamedBy name) (sym k.1) tt) p n ne ∙ d.0 n (λ e. ne (k.0 ∙ ap (λ (l : List ℕ). Some l) (sym e)))

none_named : (n : List ℕ) → None ≢ Some n
none_named n e = cc

-- and where no call is one of the shelf all do
pub plain_stays : (a : List Call) (old new : Outside) (b : Option Who) → Plain a → Performs a old new b → (n : List ℕ) → new.shelf.file n ≡ old.shelf.file n
plain_stays a old new b h p n = files_stay None a old new b (subst (NamedBy None) (sym h.puts) tt) p n (none_named n)

-- THE DISK stays where none of its calls is made
pub disk_stays : (a : List Call) (old new : Outside) (b : Option Who) → disk_calls a ≡ 0 → Performs a old new b → new.disk ≡ old.disk
disk_stays a old new b h (done _) = refl
disk_stays a old new b h (breaks (Printed t) rest _ _ f) = ap (λ (o : Outside). o.disk) f.2
disk_stays a old new b h (breaks (Read q) rest _ _ f) = absurd (omega (arith, h))
disk_stays a old new b h (breaks (Wrote q ws) rest _ _ f) = absurd (omega (arith, h))
disk_stays a old new b h (breaks (Got m) rest _ _ f) = ap (λ (o : Outside). o.disk) f.2
disk_stays a old new b h (breaks (Stored m bs) rest _ _ f) = ap (λ (o : Outside). o.disk) f.3
disk_stays a old new b h (goes_on (Printed t) rest _ mid _ _ d p) = disk_stays rest mid new b h p ∙ ap (λ (o : Outside). o.disk) d.1
disk_stays a old new b h (goes_on (Read q) rest _ mid _ _ d p) = absurd (omega (arith, h))
disk_stays a old new b h (goes_on (Wrote q ws) rest _ mid _ _ d p) = absurd (omega (arith, h))
disk_stays a old new b h (goes_on (Got m) rest _ mid _ _ d p) = disk_stays rest mid new b h p ∙ ap (λ (o : Outside). o.disk) d.3
disk_stays a old new b h (goes_on (Stored m bs) rest _ mid _ _ d p) = disk_stays rest mid new b h p ∙ ap (λ (o : Outside). o.disk) d.3

pub quiet_plan : (words : List (List ℕ)) (p : Plan) (at : Outside) (script : List Call) (due : Status) → ((c : Command) → IsCommand words c → Loads c → ⊥) → Outcome words p → PlanAsks p at script due →
    disk_calls script ≡ 0
quiet_plan words p at script due never (is_none n) a = ap disk_calls a.0
quiet_plan words p at script due never (is_refused d k r f) a = ap disk_calls a.0
quiet_plan words p at script due never (is_booted d k l session s rows) a = absurd (never d k l)
quiet_plan words p at script due never (saved_so d k s rows) a = absurd (never (save d) k tt)
quiet_plan words p at script due never (is_resumed d k s rows machine) a = absurd (never (resume d) k tt)
quiet_plan words p at script due never (is_put d k name bytes e) a = ap disk_calls a.0
quiet_plan words p at script due never (is_told d k text) a = ap disk_calls a.0
