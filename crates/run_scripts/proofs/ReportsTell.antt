-- What the report of a run tells, and so its whole script.
use Rattle.std.specs.Prelude.{All, codes, ◌==◌, if◌then◌else◌}
use Rattle.std.proofs.Common.{◌≡◌, ℕ, zero, suc, ◌+◌, ◌-◌, ◌*◌, ◌<◌, ◌≤◌, Bool, true, false, List, [], ◌∷◌, ◌++◌, length, take, drop, get_or, refl, sym, ap, ap₂, ◌∙◌, subst, arith, append-nil, append_assoc}
use Rattle.std.proofs.lemmas.List.{take_all, take_more, length-take-le}
use Rattle.std.proofs.Math.Seq.{take-add, drop-append_seam}
use Rattle.cvm_text.specs.Hex.{hex8}
use Rattle.layer_map.specs.Map.{Map}
use Rattle.mips_table.specs.Machine.{State}
use Rattle.mips_table.specs.Flat.{Flat}
use Rattle.cvm_model.specs.Cvm.{Cvm, IsCvm, Status, Running, Halted, Faulted, map_of}
use Rattle.cvm_model.specs.Kernel.{JournalEntry, parts_of_value}
use Rattle.cvm_model.specs.Primitives.{no_flat, pages_of, user_of}
use Rattle.cvm_model.specs.Stands.{UserFits}
use Rattle.cvm_model.specs.Text.{rows_text, fault_name, globals_text, log_text, memory_text, hex_row, cpu_text, user_text, users_text, report_text, closing_text, start_row, journal_rows, open_journal_rows, trace_end}
use Rattle.boot_turns.specs.TurnEnds.{RestsAfter, first_user_machine}
use Rattle.boot_turns.specs.declared.answers.View.{View}
use Rattle.boot_turns.specs.declared.answers.View.TheVariants.{Boot, Trace}
use Rattle.cvm_outside.specs.Script.{Call, scripts}
use Rattle.boot_turns.specs.Runs.{Run, Past, IsPast, state_at, turns_at, steps_made, has_ended, lines_met, cvm_at}
use Rattle.boot_report.specs.Resident.{page_reads}
use Rattle.boot_turns.specs.StepScript.{page_of, steps_script}
use Rattle.boot_run.specs.RunEnds.{SeesUser}
use Rattle.boot_run.specs.Closing.{opening_script, page_report_script, user_report_script, boot_report, last_steps, trace_report, report_by, closing_script, says}
use Rattle.boot_run.specs.RunScript.{rest_script, run_script}
use Rattle.run_scripts.specs.AskedRuns.{text_by, text_at, ended_text, whole_text}
use Rattle.run_scripts.proofs.RowsAlongRuns.{Known, first_is}
use Rattle.run_scripts.proofs.ScriptsTell.{Tells, tells_none, tells_both, tells_scripts, says_tells, silent, quiet_reads, steps_tell, opening_tells}

-- A USER
memory-append : (k : ℕ) (a b : List ℕ) → memory_text k (a ++ b) ≡ memory_text k a ++ memory_text (k + length a) b
memory-append k [] b = let e : k + 0 ≡ k = omega arith in ap (λ (n : ℕ). memory_text n b) (sym e)
memory-append k (w ∷ a) b =
    let e : k + 1 + length a ≡ k + suc (length a) = omega arith in
    ap (λ (l : List ℕ). (if w == 0 then [] else hex_row (codes "mem " ++ hex8 (4 * k)) w) ++ l) (memory-append (k + 1) a b ∙ ap (λ (n : ℕ). memory_text (k + 1) a ++ memory_text n b) e)
    ∙ sym (append_assoc (if w == 0 then [] else hex_row (codes "mem " ++ hex8 (4 * k)) w) (memory_text (k + 1) a) (memory_text (k + suc (length a)) b))

users-append : (u : ℕ) (a b : List Flat) → users_text u (a ++ b) ≡ users_text u a ++ users_text (u + length a) b
users-append u [] b = let e : u + 0 ≡ u = omega arith in ap (λ (n : ℕ). users_text n b) (sym e)
users-append u (f ∷ a) b =
    let e : u + 1 + length a ≡ u + suc (length a) = omega arith in
    ap (λ (l : List ℕ). user_text u f ++ l) (users-append (u + 1) a b ∙ ap (λ (n : ℕ). users_text (u + 1) a ++ users_text n b) e)
    ∙ sym (append_assoc (user_text u f) (users_text (u + 1) a) (users_text (u + suc (length a)) b))

module _ (m : Map) (s : State) (u : ℕ) (f : Flat) (whole : length f.words ≡ 1024 * pages_of f) where
  page_tells : (old : List ℕ) (p : ℕ) → p < pages_of f → Tells (page_report_script m s u f p) (old ++ memory_text 0 (take (1024 * p) f.words)) (old ++ memory_text 0 (take (1024 * suc p) f.words))
  page_tells old p lt =
      let before : List ℕ = take (1024 * p) f.words in
      let page : List ℕ = take 1024 (drop (1024 * p) f.words) in
      let next : 1024 * suc p ≡ 1024 * p + 1024 = omega arith in
      let many : 0 + length (take (1024 * p) f.words) ≡ 1024 * p = (let n = length-take-le (1024 * p) f.words (omega (arith, lt, whole)) in omega (arith, n)) in
      let grown : memory_text 0 (take (1024 * suc p) f.words) ≡ memory_text 0 (take (1024 * p) f.words) ++ memory_text (1024 * p) (take 1024 (drop (1024 * p) f.words)) =
      ap (λ (n : ℕ). memory_text 0 (take n f.words)) next ∙ ap (memory_text 0) (take-add (1024 * p) 1024 f.words)
      ∙ memory-append 0 (take (1024 * p) f.words) (take 1024 (drop (1024 * p) f.words))
      ∙ ap (λ (n : ℕ). memory_text 0 (take (1024 * p) f.words) ++ memory_text n (take 1024 (drop (1024 * p) f.words))) many in
      let h = says_tells (memory_text (1024 * p) page) (old ++ memory_text 0 before) in
      tells_both (page_reads m s (page_of m u p)) (says (memory_text (1024 * p) page)) (old ++ memory_text 0 before) (old ++ memory_text 0 before) (old ++ memory_text 0 (take (1024 * suc p) f.words))
      (silent (page_reads m s (page_of m u p)) (old ++ memory_text 0 before) (quiet_reads m s (page_of m u p)))
      (record { text = h.text; told = h.told; is = ap (λ (l : List ℕ). old ++ l) grown ∙ sym (append_assoc old (memory_text 0 before) (memory_text (1024 * p) page)) ∙ h.is })

  user_tells : (old : List ℕ) → Tells (user_report_script m s u f) old (old ++ user_text u f)
  user_tells old =
      let cpu : List ℕ = cpu_text u f in
      let all : memory_text 0 (take (1024 * pages_of f) f.words) ≡ memory_text 0 f.words = ap (memory_text 0) (take_all (1024 * pages_of f) f.words (omega (arith, whole))) in
      let pages = tells_scripts (page_report_script m s u f) (λ p. (old ++ cpu_text u f) ++ memory_text 0 (take (1024 * p) f.words)) (pages_of f) (λ p lt. page_tells (old ++ cpu_text u f) p lt) in
      let there : (old ++ cpu_text u f) ++ memory_text 0 (take (1024 * pages_of f) f.words) ≡ old ++ user_text u f =
      ap (λ (l : List ℕ). (old ++ cpu_text u f) ++ l) all ∙ append_assoc old (cpu_text u f) (memory_text 0 f.words) in
      tells_both (says cpu) (scripts (page_report_script m s u f) (pages_of f)) old (old ++ cpu) (old ++ user_text u f) (says_tells cpu old)
      (record { text = pages.text; told = pages.told; is = sym there ∙ pages.is ∙ ap (λ (l : List ℕ). l ++ pages.text) (append-nil (old ++ cpu_text u f)) })

users_tell : (m : Map) (s : State) (most : ℕ) (users : List Flat) → All (UserFits most) users → (old : List ℕ) →
    Tells (scripts (λ i. user_report_script m s (i + 1) (user_of users (i + 1))) (length users)) old (old ++ users_text 1 users)
users_tell m s most users fits old =
    let h = tells_scripts (λ i. user_report_script m s (i + 1) (user_of users (i + 1))) (λ i. old ++ users_text 1 (take i users)) (length users) (λ i lt. one i lt) in
    let all : users_text 1 (take (length users) users) ≡ users_text 1 users = ap (users_text 1) (take_all (length users) users (omega arith)) in
    record { text = h.text; told = h.told; is = ap (λ (l : List ℕ). old ++ l) (sym all) ∙ h.is ∙ ap (λ (l : List ℕ). l ++ h.text) (append-nil old) }
  where
    one : (i : ℕ) → i < length users → Tells (user_report_script m s (i + 1) (user_of users (i + 1))) (old ++ users_text 1 (take i users)) (old ++ users_text 1 (take (suc i) users))
    one i lt =
        let at : i + 1 - 1 ≡ i = omega arith in
        let next : suc i ≡ i + 1 = omega arith in
        let number : 1 + length (take i users) ≡ i + 1 = (let n = length-take-le i users (omega (arith, lt)) in omega (arith, n)) in
        let user : get_or users i no_flat ≡ user_of users (i + 1) = ap (λ (j : ℕ). get_or users j no_flat) (sym at) in
        let whole : length (user_of users (i + 1)).words ≡ 1024 * pages_of (user_of users (i + 1)) = subst (λ (f : Flat). length f.words ≡ 1024 * pages_of f) user (fits i no_flat lt).whole in
        let h = user_tells m s (i + 1) (user_of users (i + 1)) whole (old ++ users_text 1 (take i users)) in
        let grown : users_text 1 (take (suc i) users) ≡ users_text 1 (take i users) ++ user_text (i + 1) (user_of users (i + 1)) =
        ap (λ (n : ℕ). users_text 1 (take n users)) next ∙ ap (users_text 1) (take_more users i no_flat lt) ∙ users-append 1 (take i users) (get_or users i no_flat ∷ [])
        ∙ ap₂ (λ (n : ℕ) (f : Flat). users_text 1 (take i users) ++ (user_text n f ++ [])) number user
        ∙ ap (λ (l : List ℕ). users_text 1 (take i users) ++ l) (append-nil (user_text (i + 1) (user_of users (i + 1)))) in
        record {
          text = h.text;
          told = h.told;
          is = ap (λ (l : List ℕ). old ++ l) grown ∙ sym (append_assoc old (users_text 1 (take i users)) (user_text (i + 1) (user_of users (i + 1)))) ∙ h.is;
        }

-- each user of a run that ended has whole pages
module _ (r : Run) (k : Known r) (p : Past) (is : IsPast r p) where
  now_is : IsCvm r.system (lines_met r) (turns_at r (steps_made r)) (cvm_at r p (steps_made r))
  now_is = is.turns (turns_at r (steps_made r)) (omega arith)

  users_many : has_ended r ≡ true → length (cvm_at r p (steps_made r)).core.users ≡ length r.system.boot.users
  users_many e = by (turns_at r (steps_made r)) (cvm_at r p (steps_made r)) now_is (k.machines.ends r.turns r.steps (cvm_at r p (steps_made r)) now_is e).rests
    where
      by : (n : ℕ) (c : Cvm) → IsCvm r.system (lines_met r) n c → RestsAfter r.around r.system r.first n (steps_made r) c → length c.core.users ≡ length r.system.boot.users
      by zero c h rests = subst (λ (d : Cvm). length d.core.users ≡ length r.system.boot.users) (sym (first_is r k p is c h)) k.core.users
      by (suc n) c h rests = rests.1.stands.whole.users

  users_fit : has_ended r ≡ true → All (UserFits (map_of r.system.boot).params.pages) (cvm_at r p (steps_made r)).core.users
  users_fit e = by (turns_at r (steps_made r)) (cvm_at r p (steps_made r)) now_is (k.machines.ends r.turns r.steps (cvm_at r p (steps_made r)) now_is e).rests
    where
      by : (n : ℕ) (c : Cvm) → IsCvm r.system (lines_met r) n c → RestsAfter r.around r.system r.first n (steps_made r) c → All (UserFits (map_of r.system.boot).params.pages) c.core.users
      by zero c h rests = subst (λ (d : Cvm). All (UserFits (map_of r.system.boot).params.pages) d.core.users) (sym (first_is r k p is c h)) k.core.each
      by (suc n) c h rests = rests.1.stands.whole.each

  -- THE REPORT of a boot
  ended_tells : (end old : List ℕ) → has_ended r ≡ true →
      Tells (says (end ++ globals_text r.system.boot.meaning.names (parts_of_value (cvm_at r p (steps_made r)).core.c0.global_values) ++ log_text (cvm_at r p (steps_made r)).core.console.log)
      ++ scripts (λ i. user_report_script (map_of r.system.boot) (state_at r (steps_made r)) (i + 1) (user_of (cvm_at r p (steps_made r)).core.users (i + 1))) (length (cvm_at r p (steps_made r)).core.users))
      old (old ++ (end ++ report_text r.system.boot.meaning.names (cvm_at r p (steps_made r)).core))
  ended_tells end old e =
      let c : Cvm = cvm_at r p (steps_made r) in
      let g : List ℕ = globals_text r.system.boot.meaning.names (parts_of_value c.core.c0.global_values) in
      let l : List ℕ = log_text c.core.console.log in
      let us : List ℕ = users_text 1 c.core.users in
      let users = users_tell (map_of r.system.boot) (state_at r (steps_made r)) (map_of r.system.boot).params.pages c.core.users (users_fit e) (old ++ (end ++ g ++ l)) in
      let seam : old ++ (end ++ (g ++ l ++ us)) ≡ old ++ (end ++ g ++ l) ++ us =
      ap (λ (x : List ℕ). old ++ x) (ap (λ (x : List ℕ). end ++ x) (append_assoc g l us) ∙ sym (append_assoc end g (l ++ us)) ∙ sym (append_assoc (end ++ g) l us)) ∙ sym (append_assoc old (end ++ g ++ l) us) in
      tells_both (says (end ++ g ++ l)) (scripts (λ i. user_report_script (map_of r.system.boot) (state_at r (steps_made r)) (i + 1) (user_of c.core.users (i + 1))) (length c.core.users))
      old (old ++ (end ++ g ++ l)) (old ++ (end ++ (g ++ l ++ us))) (says_tells (end ++ g ++ l) old)
      (record { text = users.text; told = users.told; is = seam ∙ users.is })

  report_tells : (st : Status) → has_ended r ≡ true → (old : List ℕ) →
      Tells (boot_report r.system (state_at r (steps_made r)) (cvm_at r p (steps_made r)) st) old (old ++ closing_text r.system (cvm_at r p (steps_made r)) st)
  report_tells (Faulted f) e old = tells_none old (old ++ []) (append-nil old)
  report_tells Running e old = ended_tells (codes "stopped\n") old e
  report_tells Halted e old = ended_tells (codes "halted\n") old e

  -- and of a trace
  rows_end : (j : List JournalEntry) → journal_rows j ≡ open_journal_rows j ++ last_steps j
  rows_end j = k.rows.end j ∙ ap (λ (l : List ℕ). open_journal_rows j ++ l) (sym (drop-append_seam (open_journal_rows j) _) ∙ ap (drop (length (open_journal_rows j))) (sym (k.rows.end j)))

  pub behind_last : (row rest : List ℕ) (j : List JournalEntry) → row ++ journal_rows j ++ rest ≡ (row ++ open_journal_rows j) ++ (last_steps j ++ rest)
  behind_last row rest j =
      ap (λ (l : List ℕ). row ++ l ++ rest) (rows_end j) ∙ ap (λ (l : List ℕ). l ++ rest) (sym (append_assoc row (open_journal_rows j) (last_steps j))) ∙ append_assoc (row ++ open_journal_rows j) (last_steps j) rest

  user_end : (u : ℕ) → 1 ≤ u → u ≤ length (cvm_at r p (steps_made r)).core.users → (end : List ℕ) → has_ended r ≡ true → (row : List ℕ) (j : List JournalEntry) →
      Tells (says (last_steps j ++ end) ++ user_report_script (map_of r.system.boot) (state_at r (steps_made r)) u (user_of (cvm_at r p (steps_made r)).core.users u)) (row ++ open_journal_rows j)
      (row ++ journal_rows j ++ (end ++ user_text u (user_of (cvm_at r p (steps_made r)).core.users u)))
  user_end u some most end e row j =
      let f : Flat = user_of (cvm_at r p (steps_made r)).core.users u in
      let old : List ℕ = row ++ open_journal_rows j in
      let whole : length f.words ≡ 1024 * pages_of f = (users_fit e (u - 1) no_flat (omega (arith, some, most))).whole in
      let h = user_tells (map_of r.system.boot) (state_at r (steps_made r)) u f whole (old ++ (last_steps j ++ end)) in
      let seam : row ++ journal_rows j ++ (end ++ user_text u f) ≡ old ++ (last_steps j ++ end) ++ user_text u f =
      behind_last row (end ++ user_text u f) j ∙ ap (λ (l : List ℕ). old ++ l) (sym (append_assoc (last_steps j) end (user_text u f))) ∙ sym (append_assoc old (last_steps j ++ end) (user_text u f)) in
      tells_both (says (last_steps j ++ end)) (user_report_script (map_of r.system.boot) (state_at r (steps_made r)) u f) old (old ++ (last_steps j ++ end)) (row ++ journal_rows j ++ (end ++ user_text u f))
      (says_tells (last_steps j ++ end) old) (record { text = h.text; told = h.told; is = seam ∙ h.is })

  trace_tells : (u : ℕ) → 1 ≤ u → u ≤ length (cvm_at r p (steps_made r)).core.users → (st : Status) → has_ended r ≡ true → (row : List ℕ) (j : List JournalEntry) →
      Tells (trace_report r.system (state_at r (steps_made r)) (cvm_at r p (steps_made r)) u j st) (row ++ open_journal_rows j)
      (row ++ journal_rows j ++ trace_end u (user_of (cvm_at r p (steps_made r)).core.users u) st)
  trace_tells u some most (Faulted f) e row j =
      let h = says_tells (last_steps j ++ codes "fault " ++ fault_name f ++ codes "\n") (row ++ open_journal_rows j) in
      let regroup : last_steps j ++ (codes "fault " ++ fault_name f ++ codes "\n") ≡ last_steps j ++ codes "fault " ++ fault_name f ++ codes "\n" =
      sym (append_assoc (last_steps j) (codes "fault " ++ fault_name f) (codes "\n")) ∙ ap (λ (l : List ℕ). l ++ codes "\n") (sym (append_assoc (last_steps j) (codes "fault ") (fault_name f))) in
      record { text = h.text; told = h.told; is = behind_last row (codes "fault " ++ fault_name f ++ codes "\n") j ∙ ap (λ (l : List ℕ). (row ++ open_journal_rows j) ++ l) regroup ∙ h.is }
  trace_tells u some most Running e row j = user_end u some most (codes "stopped\n") e row j
  trace_tells u some most Halted e row j = user_end u some most (codes "halted\n") e row j

  pub closing_tells : has_ended r ≡ true → Tells (closing_script r p) (text_at r p (steps_made r)) (ended_text r.view r p (steps_made r))
  closing_tells e = by r.view k.user
    where
      by : (v : View) → SeesUser v (length r.system.boot.users) → Tells (report_by v r p (steps_made r)) (text_by v r p (steps_made r)) (ended_text v r p (steps_made r))
      by Boot see = report_tells (cvm_at r p (steps_made r)).status e (rows_text (cvm_at r p (steps_made r)).rows)
      by (Trace u) see =
          trace_tells u see.0 (let n = users_many e in let m = see.1 in omega (arith, n, m)) (cvm_at r p (steps_made r)).status e (start_row u (first_user_machine r.system u)) (p.shown (steps_made r))

  -- FROM A STEP ON, and the whole run
  pub rest_tells : (t : ℕ) → t ≤ steps_made r → Tells (rest_script r p t) (text_at r p t) (whole_text r p)
  rest_tells t le = by (has_ended r) refl
    where
      all : Tells (steps_script r p t (steps_made r - t)) (text_at r p t) (text_at r p (steps_made r))
      all =
          let e : t + (steps_made r - t) ≡ steps_made r = omega (arith, le) in
          subst (λ (n : ℕ). Tells (steps_script r p t (steps_made r - t)) (text_at r p t) (text_at r p n)) e (steps_tell r k p is t (steps_made r - t) (omega (arith, le)))

      by : (b : Bool) → has_ended r ≡ b → Tells (steps_script r p t (steps_made r - t) ++ (if b then closing_script r p else [])) (text_at r p t)
          (if b then ended_text r.view r p (steps_made r) else text_at r p (steps_made r))
      by true e = tells_both (steps_script r p t (steps_made r - t)) (closing_script r p) (text_at r p t) (text_at r p (steps_made r)) (ended_text r.view r p (steps_made r)) all (closing_tells e)
      by false e = tells_both (steps_script r p t (steps_made r - t)) [] (text_at r p t) (text_at r p (steps_made r)) (text_at r p (steps_made r)) all (tells_none (text_at r p (steps_made r)) _ refl)

  pub run_tells : (load : List Call) → Tells load [] [] → Tells (run_script r load p) [] (whole_text r p)
  run_tells load h =
      tells_both (load ++ opening_script r.view r.system) (rest_script r p 0) [] (text_at r p 0) (whole_text r p)
      (tells_both load (opening_script r.view r.system) [] [] (text_at r p 0) h (opening_tells r k p is)) (rest_tells 0 (omega arith))
