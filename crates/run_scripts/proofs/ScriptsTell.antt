-- What scripts tell: the whole text of a run.
use Rattle.std.specs.Prelude.{Option, Some, None, if◌then◌else◌}
use Rattle.std.proofs.Common.{◌≡◌, ℕ, zero, suc, ◌+◌, ◌-◌, ◌/◌, ◌<◌, ◌≤◌, Bool, true, false, List, [], ◌∷◌, ◌++◌, length, take, drop, get_or, refl, sym, ap, ◌∙◌, subst, arith, append-nil, append_assoc}
use Rattle.std.proofs.lemmas.List.{take_all, take_more, length-append}
use Rattle.std.proofs.Math.Seq.{take-append_seam, drop-append_seam}
use Rattle.layer_map.specs.Map.{Map}
use Rattle.mips_table.specs.Device.{Environment, Pending, Idle, Reading, Writing}
use Rattle.mips_table.specs.Machine.{State}
use Rattle.mips_machine.specs.Steps.{before_count, script_of_step, due_if}
use Rattle.cvm_model.specs.Cvm.{Cvm, map_of}
use Rattle.cvm_model.specs.Kernel.{JournalEntry, Put}
use Rattle.cvm_model.specs.Text.{row_text, rows_text, start_row, open_journal_rows}
use Rattle.cvm_model.specs.declared.row.Row.{Row}
use Rattle.boot_turns.specs.declared.answers.View.{View}
use Rattle.boot_turns.specs.declared.answers.View.TheVariants.{Boot, Trace}
use Rattle.page_model.specs.Paging.{Pages}
use Rattle.cvm_outside.specs.Script.{Call, Read, Wrote, scripts, spoken}
use Rattle.cvm_outside.proofs.RowsPut.{scripts-none, scripts-suc}
use Rattle.cvm_outside.proofs.ScriptsTell.{speaks_both}
use Rattle.boot_turns.specs.Runs.{Run, Past, IsPast, state_at, steps_made, cvm_at}
use Rattle.boot_report.specs.Resident.{is_resident, page_reads}
use Rattle.boot_turns.specs.StepScript.{prints, page_of, copies_at, entry_reads, row_behind, entry_script, rows_script, step_script, steps_script}
use Rattle.boot_run.specs.LoadScript.{load_script, page_write_script as load_page}
use Rattle.boot_run.specs.Loading.{words_of_page}
use Rattle.sector_disk.specs.Ports.{transfer_script}
use Rattle.boot_turns.specs.TurnEnds.{first_user_machine}
use Rattle.boot_run.specs.RunEnds.{SeesUser}
use Rattle.boot_run.specs.Closing.{opening_script, says}
use Rattle.run_scripts.specs.AskedRuns.{text_by, text_at}
use Rattle.run_scripts.proofs.RowsAlongRuns.{Known, rows_grow, journal_grows, journal_starts, first_is}

-- SCRIPTS that tell
pub record Tells (a : List Call) (old new : List ℕ) : Type 0 where
  pub text : List ℕ
  pub told : spoken a ≡ Some text
  pub is : new ≡ old ++ text

pub tells_none : (old new : List ℕ) → new ≡ old → Tells [] old new
tells_none old new e = record { text = []; told = refl; is = e ∙ sym (append-nil old) }

pub tells_both : (a b : List Call) (old mid new : List ℕ) → Tells a old mid → Tells b mid new → Tells (a ++ b) old new
tells_both a b old mid new p q = record {
  text = p.text ++ q.text;
  told = speaks_both a b p.text q.text p.told q.told;
  is = q.is ∙ ap (λ (l : List ℕ). l ++ q.text) p.is ∙ append_assoc old p.text q.text;
}

pub tells_scripts : (f : ℕ → List Call) (g : ℕ → List ℕ) (n : ℕ) → ((i : ℕ) → i < n → Tells (f i) (g i) (g (suc i))) → Tells (scripts f n) (g 0) (g n)
tells_scripts f g zero h = subst (λ (a : List Call). Tells a (g 0) (g 0)) (sym (scripts-none f)) (tells_none (g 0) (g 0) refl)
tells_scripts f g (suc n) h =
    subst (λ (a : List Call). Tells a (g 0) (g (suc n))) (sym (scripts-suc f n))
    (tells_both (scripts f n) (f n) (g 0) (g n) (g (suc n)) (tells_scripts f g n (λ i lt. h i (omega (arith, lt)))) (h n (omega arith)))

pub says_tells : (x old : List ℕ) → Tells (says x) old (old ++ x)
says_tells x old = record { text = x; told = ap (λ (l : List ℕ). Some l) (append-nil x); is = refl }

prints_tells : (x old new : List ℕ) → new ≡ old ++ x → Tells (prints x) old new
prints_tells [] old new e = record { text = []; told = refl; is = e }
prints_tells (b ∷ x) old new e = record { text = b ∷ x; told = ap (λ (l : List ℕ). Some l) (append-nil (b ∷ x)); is = e }

-- what tells nothing
pub silent : (a : List Call) (old : List ℕ) → spoken a ≡ Some [] → Tells a old old
silent a old e = record { text = []; told = e; is = sym (append-nil old) }

quiet_transfer : (p : Pending) (buffer : List ℕ) → spoken (transfer_script p buffer) ≡ Some []
quiet_transfer Idle buffer = refl
quiet_transfer (Reading zero q) buffer = refl
quiet_transfer (Reading (suc n) q) buffer = refl
quiet_transfer (Writing zero q) buffer = refl
quiet_transfer (Writing (suc n) q) buffer = refl

pub quiet_due : (x : Environment) (s : State) → spoken (script_of_step x s) ≡ Some []
unfolding script_of_step
quiet_due x s = by s.off
  where
    by : (o : Option ℕ) → spoken (due_if x s o) ≡ Some []
    by None = quiet_transfer (before_count x s).pending (before_count x s).buffer
    by (Some word) = refl

pub quiet_reads : (m : Map) (s : State) (q : ℕ) → spoken (page_reads m s q) ≡ Some []
quiet_reads m s q = by (is_resident m s q)
  where
    by : (b : Bool) → spoken (if b then [] else Read q ∷ []) ≡ Some []
    by true = refl
    by false = refl

quiet_entry : (m : Map) (s : State) (u : ℕ) (j : List JournalEntry) → spoken (entry_reads m s u j) ≡ Some []
quiet_entry m s u (Put address value ∷ rest) = quiet_reads m s (page_of m u (address / 4096))
quiet_entry m s u other = refl

pub quiet_load : (p : Pages) (n : ℕ) (old : List ℕ) → Tells (load_script p n) old old
quiet_load p n old = tells_scripts (load_page p) (λ i. old) n (λ q lt. silent _ old (by q (p.live q)))
  where
    by : (q : ℕ) (b : Bool) → spoken (if b then Wrote q (words_of_page p q) ∷ [] else []) ≡ Some []
    by q true = refl
    by q false = refl

-- TEXTS that grow: what stands behind
rest_of : (x a d : List ℕ) → x ≡ a ++ d → x ≡ a ++ drop (length a) x
rest_of x a d e = e ∙ ap (λ (l : List ℕ). a ++ l) (sym (drop-append_seam a d) ∙ ap (drop (length a)) (sym e))

pub rows_text-append : (a b : List Row) → rows_text (a ++ b) ≡ rows_text a ++ rows_text b
rows_text-append [] b = refl
rows_text-append (r ∷ a) b = ap (λ (l : List ℕ). row_text r ++ l) (rows_text-append a b) ∙ sym (append_assoc (row_text r) (rows_text a) (rows_text b))

module _ (r : Run) (k : Known r) (p : Past) (is : IsPast r p) where
  -- THE ROWS OF A STEP
  row_tells : (t : ℕ) → t < steps_made r → Tells (rows_script Boot r p t) (text_by Boot r p t) (text_by Boot r p (suc t))
  row_tells t lt =
      let g = rows_grow r k p is t (suc t) (omega arith) (omega (arith, lt)) in
      let more : drop (length (cvm_at r p t).rows) (cvm_at r p (suc t)).rows ≡ g.0 = ap (drop (length (cvm_at r p t).rows)) g.1 ∙ drop-append_seam (cvm_at r p t).rows g.0 in
      prints_tells (rows_text (drop (length (cvm_at r p t).rows) (cvm_at r p (suc t)).rows)) (rows_text (cvm_at r p t).rows) (rows_text (cvm_at r p (suc t)).rows)
      (ap rows_text g.1 ∙ rows_text-append (cvm_at r p t).rows g.0 ∙ ap (λ (l : List Row). rows_text (cvm_at r p t).rows ++ rows_text l) (sym more))

  module _ (u : ℕ) (some : 1 ≤ u) (most : u ≤ length r.system.boot.users) (v : r.view ≡ Trace u) where
    -- an entry's row stands behind those before it
    pub entry_tells : (t i : ℕ) (old : List ℕ) → length (p.shown t) + i < length (p.shown (suc t)) →
        Tells (entry_script r p u t (length (p.shown t) + i)) (old ++ open_journal_rows (take (length (p.shown t) + i) (p.shown (suc t))))
        (old ++ open_journal_rows (take (length (p.shown t) + suc i) (p.shown (suc t))))
    entry_tells t i old lt =
        let j : List JournalEntry = p.shown (suc t) in
        let n : ℕ = length (p.shown t) + i in
        let next : length (p.shown t) + suc i ≡ suc (length (p.shown t) + i) = omega arith in
        let one : suc (length (p.shown t) + i) ≡ length (p.shown t) + i + 1 = omega arith in
        let cut : take (suc (length (p.shown t) + i)) j ≡ take (length (p.shown t) + i) j ++ get_or j (length (p.shown t) + i) (Put 0 0) ∷ [] = ap (λ (m : ℕ). take m j) one ∙ take_more j (length (p.shown t) + i) (Put 0 0) lt in
        let grown : open_journal_rows (take (suc (length (p.shown t) + i)) j) ≡ open_journal_rows (take (length (p.shown t) + i) j) ++ row_behind j (length (p.shown t) + i) =
        rest_of (open_journal_rows (take (suc (length (p.shown t) + i)) j)) (open_journal_rows (take (length (p.shown t) + i) j)) _ (ap open_journal_rows cut ∙ k.rows.more (take (length (p.shown t) + i) j) (get_or j (length (p.shown t) + i) (Put 0 0) ∷ [])) in
        tells_both (if copies_at r u t then entry_reads (map_of r.system.boot) (state_at r (suc t)) u (drop n j) else []) (prints (row_behind j n))
        (old ++ open_journal_rows (take n j)) (old ++ open_journal_rows (take n j)) (old ++ open_journal_rows (take (length (p.shown t) + suc i) j))
        (silent _ (old ++ open_journal_rows (take n j)) (quiet (copies_at r u t) (drop n j) t))
        (prints_tells (row_behind j n) (old ++ open_journal_rows (take n j)) (old ++ open_journal_rows (take (length (p.shown t) + suc i) j))
        (ap (λ (m : ℕ). old ++ open_journal_rows (take m j)) next ∙ ap (λ (l : List ℕ). old ++ l) grown ∙ sym (append_assoc old (open_journal_rows (take n j)) (row_behind j n))))
      where
        quiet : (b : Bool) (left : List JournalEntry) (t : ℕ) → spoken (if b then entry_reads (map_of r.system.boot) (state_at r (suc t)) u left else []) ≡ Some []
        quiet true left t = quiet_entry (map_of r.system.boot) (state_at r (suc t)) u left
        quiet false left t = refl

    entries_tell : (t : ℕ) → t < steps_made r → Tells (rows_script (Trace u) r p t) (text_by (Trace u) r p t) (text_by (Trace u) r p (suc t))
    entries_tell t lt =
        let old : List ℕ = start_row u (first_user_machine r.system u) in
        let a : List JournalEntry = p.shown t in
        let j : List JournalEntry = p.shown (suc t) in
        let g = journal_grows r k p is u some most v t lt in
        let longer : length (p.shown (suc t)) ≡ length (p.shown t) + length g.0 = ap (λ (l : List JournalEntry). length l) g.1 ∙ length-append (p.shown t) g.0 in
        let none : length (p.shown t) + 0 ≡ length (p.shown t) = omega arith in
        let all : length (p.shown t) + (length (p.shown (suc t)) - length (p.shown t)) ≡ length (p.shown (suc t)) = omega (arith, longer) in
        let from : take (length (p.shown t) + 0) (p.shown (suc t)) ≡ p.shown t = ap (λ (m : ℕ). take m (p.shown (suc t))) none ∙ ap (take (length (p.shown t))) g.1 ∙ take-append_seam (p.shown t) g.0 in
        let to : take (length (p.shown t) + (length (p.shown (suc t)) - length (p.shown t))) (p.shown (suc t)) ≡ p.shown (suc t) =
        ap (λ (m : ℕ). take m (p.shown (suc t))) all ∙ take_all (length (p.shown (suc t))) (p.shown (suc t)) (omega arith) in
        let h = tells_scripts (λ i. entry_script r p u t (length (p.shown t) + i)) (λ i. old ++ open_journal_rows (take (length (p.shown t) + i) (p.shown (suc t)))) (length (p.shown (suc t)) - length (p.shown t))
        (λ i less. entry_tells t i old (omega (arith, less, longer))) in
        record { text = h.text; told = h.told; is = ap (λ (l : List JournalEntry). old ++ open_journal_rows l) (sym to) ∙ h.is ∙ ap (λ (l : List JournalEntry). old ++ open_journal_rows l ++ h.text) from }

  rows_tell : (t : ℕ) → t < steps_made r → Tells (rows_script r.view r p t) (text_at r p t) (text_at r p (suc t))
  rows_tell t lt = by r.view refl k.user
    where
      by : (v : View) → r.view ≡ v → SeesUser v (length r.system.boot.users) → Tells (rows_script v r p t) (text_by v r p t) (text_by v r p (suc t))
      by Boot e see = row_tells t lt
      by (Trace u) e see = entries_tell u see.0 see.1 e t lt

  -- A STEP, and steps
  pub step_tells : (t : ℕ) → t < steps_made r → Tells (step_script r p t) (text_at r p t) (text_at r p (suc t))
  step_tells t lt =
      tells_both (script_of_step r.around (state_at r t)) (rows_script r.view r p t) (text_at r p t) (text_at r p t) (text_at r p (suc t))
      (silent (script_of_step r.around (state_at r t)) (text_at r p t) (quiet_due r.around (state_at r t))) (rows_tell t lt)

  pub steps_tell : (t n : ℕ) → t + n ≤ steps_made r → Tells (steps_script r p t n) (text_at r p t) (text_at r p (t + n))
  steps_tell t n le =
      let none : t + 0 ≡ t = omega arith in
      subst (λ (i : ℕ). Tells (steps_script r p t n) (text_at r p i) (text_at r p (t + n))) none
      (tells_scripts (λ i. step_script r p (t + i)) (λ i. text_at r p (t + i)) n
      (λ i lt. let next : suc (t + i) ≡ t + suc i = omega arith in
      subst (λ (m : ℕ). Tells (step_script r p (t + i)) (text_at r p (t + i)) (text_at r p m)) next (step_tells (t + i) (omega (arith, lt, le)))))

  -- BEFORE the first step
  pub opening_tells : Tells (opening_script r.view r.system) [] (text_at r p 0)
  opening_tells = by r.view refl k.user
    where
      by : (v : View) → r.view ≡ v → SeesUser v (length r.system.boot.users) → Tells (opening_script v r.system) [] (text_by v r p 0)
      by Boot e see = tells_none [] _ (ap (λ (c : Cvm). rows_text c.rows) (first_is r k p is (p.cvm 0) (is.turns 0 (omega arith))))
      by (Trace u) e see =
          let row : List ℕ = start_row u (first_user_machine r.system u) in
          let h = says_tells row [] in
          record { text = h.text; told = h.told; is = ap (λ (j : List JournalEntry). row ++ open_journal_rows j) (journal_starts r k p is u see.0 see.1 e) ∙ append-nil row ∙ h.is }
