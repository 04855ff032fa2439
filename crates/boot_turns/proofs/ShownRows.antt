-- THE ROWS OF A STEP of a trace: what its code makes of them, by what the machine shows, is the script that the run has, by what is shown of its user.
use Rattle.std.proofs.Common.{◌≡◌, ◌≢◌, ℕ, zero, suc, ◌+◌, ◌-◌, ◌*◌, ◌/◌, ◌<◌, ◌≤◌, ◌&&◌, Bool, true, false, nat_lt, List, [], ◌∷◌, ◌++◌, length, take, drop, Option, Some, None, slice_index, refl, sym, ap, ap₂, ◌∙◌, arith, eqb-true, le-ltb, length-append}
use Rattle.std.specs.Prelude.{◌==◌, if◌then◌else◌}
use Rattle.std.proofs.Math.Seq.{drop-append-add, drop-append_seam, take-append-add}
use Rattle.std.proofs.lemmas.Bool.{cond-false}
use Rattle.cvm_outside.specs.Script.{Call, Printed, scripts}
use Rattle.cvm_outside.proofs.RowsPut.{scripts-none, scripts-suc}
use Rattle.mips_table.specs.Device.{Environment}
use Rattle.mips_table.specs.Machine.{State, run}
use Rattle.mips_table.specs.Turns.{begins_turn}
use Rattle.mips_machine.specs.Machine.{Held, state_of}
use Rattle.layer_map.specs.Map.{Map, current_at}
use Rattle.layer_contract.specs.declared.registers.TheConstants.{ANSWER}
use Rattle.page_model.specs.Paging.{Paged}
use Rattle.cvm_model.specs.Cvm.{System, map_of}
use Rattle.cvm_model.specs.Kernel.{JournalEntry, Trapped, Stepped, Put}
use Rattle.cvm_model.specs.Paged.{paged_of}
use Rattle.cvm_model.specs.Primitives.{put_entries}
use Rattle.cvm_model.specs.Text.{steps_row, entry_row, journal_rows_after, open_journal_rows}
use Rattle.boot_report.specs.Resident.{page_reads, word_reads}
use Rattle.boot_report.specs.Told.{user_word, WordsAreTold}
use Rattle.boot_turns.specs.declared.answers.View.TheVariants.{Trace}
use Rattle.boot_turns.specs.declared.completion.Begun.{Begun}
use Rattle.boot_turns.specs.declared.tracer.Entered.{Entered}
use Rattle.boot_turns.specs.declared.tracer.Tracer.{Tracer}
use Rattle.boot_turns.specs.Completes.{note}
use Rattle.boot_turns.specs.Copies.{steps_left}
use Rattle.boot_turns.specs.Entries.{turn_begins, call_ends, return_entries, step_entries, IsPlaced}
use Rattle.boot_turns.specs.JournalText.{pending_steps, RowsFollow}
use Rattle.boot_turns.specs.Returns.{noted_call, returned}
use Rattle.boot_turns.specs.Tracing.{ReturnTold, tracer_at}
use Rattle.boot_turns.specs.Runs.{Past}
use Rattle.boot_turns.specs.StepScript.{prints, page_of, is_copy_to, entry_reads, row_behind, rows_script}
use Rattle.boot_turns.specs.RowScripts.{ArePages, copied_script, copy_script, words_copied, ended_script, returned_script, followed_script}
use Rattle.boot_turns.specs.LoopScripts.{traced_run}
use Rattle.boot_turns.proofs.CopiedRowsArePut.{copy_rows, rows_next, puts_length}
use Rattle.boot_turns.proofs.StepRowsArePut.{copy_is, first_rows, copied_length}
use Rattle.boot_turns.proofs.JournalRows.{nil_back, put_some}

-- scripts of numbers that agree
pub scripts-same : (f g : ℕ → List Call) (n : ℕ) → ((i : ℕ) → i < n → f i ≡ g i) → scripts f n ≡ scripts g n
scripts-same f g zero same = scripts-none f ∙ sym (scripts-none g)
scripts-same f g (suc n) same =
    scripts-suc f n ∙ ap₂ (λ (a b : List Call). a ++ b) (scripts-same f g n (λ i lt. same i (omega (arith, lt)))) (same n (omega arith)) ∙ sym (scripts-suc g n)

pub scripts-one : (f : ℕ → List Call) → scripts f 1 ≡ f 0
scripts-one f = scripts-suc f 0 ∙ ap (λ (l : List Call). l ++ f 0) (scripts-none f)

-- THE ROWS that entries d add to those of a journal j, one by one
module _ (f : RowsFollow) (reads : List JournalEntry → List Call) (j : List JournalEntry) where
  abbrev rows : List JournalEntry → ℕ → List ℕ
  rows d i = journal_rows_after false (pending_steps j) (take i d)

  -- what entry number i of them reads and prints
  abbrev added : List JournalEntry → ℕ → List Call
  added d i = reads (drop i d) ++ prints (drop (length (rows d i)) (rows d (suc i)))

  open_at : (d : List JournalEntry) (i : ℕ) → open_journal_rows (take (length j + i) (j ++ d)) ≡ open_journal_rows j ++ rows d i
  open_at d i = ap (λ (l : List JournalEntry). open_journal_rows l) (take-append-add j d i) ∙ f.more j (take i d)

  row_at : (d : List JournalEntry) (i : ℕ) → row_behind (j ++ d) (length j + i) ≡ drop (length (rows d i)) (rows d (suc i))
  row_at d i =
      let next : suc (length j + i) ≡ length j + suc i = omega arith in
      ap₂ (λ (a b : List ℕ). drop (length a) b) (open_at d i) (ap (λ k. open_journal_rows (take k (j ++ d))) next ∙ open_at d (suc i))
      ∙ ap (λ k. drop k (open_journal_rows j ++ rows d (suc i))) (length-append (open_journal_rows j) (rows d i))
      ∙ drop-append-add (open_journal_rows j) (rows d (suc i)) (length (rows d i))

  pub all_added : (d a b : List JournalEntry) → a ≡ j → b ≡ j ++ d →
      scripts (λ i. reads (drop (length a + i) b) ++ prints (row_behind b (length a + i))) (length b - length a) ≡ scripts (added d) (length d)
  all_added d a b ea eb =
      ap₂ (λ (a b : List JournalEntry). scripts (λ i. reads (drop (length a + i) b) ++ prints (row_behind b (length a + i))) (length b - length a)) ea eb
      ∙ ap (scripts (λ i. reads (drop (length j + i) (j ++ d)) ++ prints (row_behind (j ++ d) (length j + i)))) (let long = length-append j d in let e : length (j ++ d) - length j ≡ length d = omega (arith, long) in e)
      ∙ scripts-same (λ i. reads (drop (length j + i) (j ++ d)) ++ prints (row_behind (j ++ d) (length j + i))) (added d) (length d)
      (λ i lt. ap₂ (λ (e : List JournalEntry) (r : List ℕ). reads e ++ prints r) (drop-append-add j d i) (row_at d i))

  -- of one entry, which is read from no page
  pub one_added : (d : List JournalEntry) → length d ≤ 1 → ((e : List JournalEntry) → reads e ≡ []) → scripts (added d) (length d) ≡ prints (journal_rows_after false (pending_steps j) d)
  one_added [] few none = scripts-none (added [])
  one_added (e ∷ []) few none = scripts-one (added (e ∷ [])) ∙ ap (λ (r : List Call). r ++ prints (journal_rows_after false (pending_steps j) (e ∷ []))) (none (e ∷ []))
  one_added (e ∷ g ∷ d) few none = absurd (omega (arith, few))

-- A WORD that a primitive copied
puts_drop : (i address : ℕ) (ws : List ℕ) → i < length ws → (w : ℕ) × (rest : List JournalEntry) × (drop i (put_entries address ws) ≡ Put (address + 4 * i) w ∷ rest)
puts_drop i address [] lt = absurd (omega (arith, lt))
puts_drop zero address (w ∷ ws) lt = let e : address ≡ address + 4 * 0 = omega arith in (w, put_entries (address + 4) ws, ap (λ a. Put a w ∷ put_entries (address + 4) ws) e)
puts_drop (suc i) address (w ∷ ws) lt =
    let r = puts_drop i (address + 4) ws (omega (arith, lt)) in
    let e : address + 4 + 4 * i ≡ address + 4 * suc i = omega arith in (r.0, r.1, r.2 ∙ ap (λ a. Put a r.0 ∷ r.1) e)

prints_row : (row : List ℕ) → row ≢ [] → prints row ≡ Printed (Some row) ∷ []
prints_row [] some = absurd (some refl)
prints_row (b ∷ row) some = refl

module _ (m : Map) (s : State) (u n answer : ℕ) (e : Entered) (words : List ℕ) (one : answer ≡ 1) (user : slice_index e.arguments 2 ≡ u) (sixth : e.primitive ≡ 6)
    (told : WordsAreTold m s u words) (placed : IsPlaced u e answer words) where
  abbrev address : ℕ
  address = slice_index e.arguments 3

  abbrev count : ℕ
  count = slice_index e.arguments 4

  abbrev pages : Paged
  pages = paged_of m s

  abbrev entries : List JournalEntry
  entries = call_ends u e answer words

  abbrev row : ℕ → List ℕ
  row i = steps_row (steps_left n i) ++ entry_row (Put (address + 4 * i) (user_word m pages u (address / 4 + i)))

  rows_are : (i : ℕ) → i ≤ count → journal_rows_after false n (take i entries) ≡ copy_rows m pages u n address i
  rows_are i le = sym (first_rows m s u n answer e words one user sixth told placed i le)

  row_is : (i : ℕ) → i < count → drop (length (journal_rows_after false n (take i entries))) (journal_rows_after false n (take (suc i) entries)) ≡ row i
  row_is i lt =
      ap₂ (λ (a b : List ℕ). drop (length a) b) (rows_are i (omega (arith, lt))) (rows_are (suc i) lt ∙ rows_next m pages u n address i)
      ∙ drop-append_seam (copy_rows m pages u n address i) (row i)

  row_prints : (i : ℕ) → prints (row i) ≡ Printed (Some (row i)) ∷ []
  row_prints i = prints_row (row i) (λ nil. put_some (address + 4 * i) (user_word m pages u (address / 4 + i)) (nil_back (steps_row (steps_left n i)) _ nil))

  -- its page is read where it is in no frame
  reads_are : (i : ℕ) → i < count → entry_reads m s u (drop i entries) ≡ word_reads m s u (address / 4 + i)
  reads_are i lt =
      let long = copied_length m s u n answer e words one user sixth told placed in
      let is = copy_is u e answer words one user sixth in
      let many : i < length (take count (drop (address / 4) words)) = let l = puts_length address (take count (drop (address / 4) words)) in let k = ap (λ (d : List JournalEntry). length d) is in omega (arith, l, k, long, lt) in
      let p = puts_drop i address (take count (drop (address / 4) words)) many in
      let page : (address + 4 * i) / 4096 ≡ (address / 4 + i) / 1024 = omega arith in
      ap (λ (d : List JournalEntry). entry_reads m s u (drop i d)) is
      ∙ ap (entry_reads m s u) p.2
      ∙ ap (λ k. page_reads m s (page_of m u k)) page

  copy_added : (reads : List JournalEntry → List Call) → ((d : List JournalEntry) → reads d ≡ entry_reads m s u d) →
      scripts (λ i. reads (drop i entries) ++ prints (drop (length (journal_rows_after false n (take i entries))) (journal_rows_after false n (take (suc i) entries)))) (length entries)
      ≡ copy_script m s (Some pages) u n address (words_copied m e)
  copy_added reads copies =
      let there = placed one sixth user in
      let room = told.room in
      ap (scripts (λ i. reads (drop i entries) ++ prints (drop (length (journal_rows_after false n (take i entries))) (journal_rows_after false n (take (suc i) entries))))) (copied_length m s u n answer e words one user sixth told placed)
      ∙ scripts-same (λ i. reads (drop i entries) ++ prints (drop (length (journal_rows_after false n (take i entries))) (journal_rows_after false n (take (suc i) entries)))) (copied_script m s (Some pages) u n address) count
      (λ i lt. ap₂ (λ (a b : List Call). a ++ b) (copies (drop i entries) ∙ reads_are i lt) (ap (λ r. prints r) (row_is i lt) ∙ row_prints i))
      ∙ ap (copy_script m s (Some pages) u n address) (sym (cond-false (nat_lt (1024 * m.params.pages) (address / 4 + count)) 0 count (le-ltb _ _ (omega (arith, there, room)))))

-- the entries of a turn that begins, and of a primitive that is no copy, are one at most, and need no words
few_begin : (a b c : Bool) (x y : JournalEntry) → length (if a then (if b then (if c then x ∷ [] else []) else y ∷ []) else []) ≤ 1
few_begin true true true x y = omega arith
few_begin true true false x y = omega arith
few_begin true false c x y = omega arith
few_begin false b c x y = omega arith

few_end : (a b c d f : Bool) (x y z : JournalEntry) (w : List JournalEntry) → a && f ≡ false → length (if a then (if b then x ∷ [] else if c then y ∷ [] else if d then z ∷ [] else if f then w else []) else []) ≤ 1
few_end true true c d f x y z w e = omega arith
few_end true false true d f x y z w e = omega arith
few_end true false false true f x y z w e = omega arith
few_end true false false false true x y z w e = absurd (let t : true ≡ false = e in cc)
few_end true false false false false x y z w e = omega arith
few_end false b c d f x y z w e = omega arith

same_end : (a b c d f : Bool) (x y z v w : List JournalEntry) → a && f ≡ false →
    (if a then (if b then x else if c then y else if d then z else if f then v else []) else []) ≡ (if a then (if b then x else if c then y else if d then z else if f then w else []) else [])
same_end true true c d f x y z v w e = refl
same_end true false true d f x y z v w e = refl
same_end true false false true f x y z v w e = refl
same_end true false false false true x y z v w e = absurd (let t : true ≡ false = e in cc)
same_end true false false false false x y z v w e = refl
same_end false b c d f x y z v w e = refl

both_true : (a b : Bool) → a && b ≡ true → (a ≡ true) × (b ≡ true)
both_true true b e = (refl, e)
both_true false b e = absurd (let t : false ≡ true = e in cc)

-- THE STEP: step number t, before which j was shown, with these words of the user after it
module _ (f : RowsFollow) (x : Environment) (y : System) (s : State) (u t : ℕ) (j : List JournalEntry) (words : List ℕ) where
  abbrev m : Map
  m = map_of y.boot

  abbrev after : State
  after = run x s (suc t)

  abbrev current : ℕ
  current = slice_index (run x s t).memory current_at

  -- what its entries add, where it copies words or not
  abbrev adds : (copies : Bool) → List JournalEntry → List Call
  adds copies d = scripts (added f (λ e. if copies then entry_reads m after u e else []) j d) (length d)

  -- a primitive returned
  end_adds : (e : Entered) (answer : ℕ) → WordsAreTold m after u words → IsPlaced u e answer words →
      ended_script m after (Some (paged_of m after)) u (pending_steps j) e answer ≡ adds (answer == 1 && (e.primitive == 6 && slice_index e.arguments 2 == u)) (call_ends u e answer words)
  end_adds e answer told placed = by (answer == 1 && (e.primitive == 6 && slice_index e.arguments 2 == u)) refl
    where
      by : (copies : Bool) → answer == 1 && (e.primitive == 6 && slice_index e.arguments 2 == u) ≡ copies →
          (if copies then copy_script m after (Some (paged_of m after)) u (pending_steps j) (slice_index e.arguments 3) (words_copied m e) else prints (journal_rows_after false (pending_steps j) (call_ends u e answer []))) ≡ adds copies (call_ends u e answer words)
      by true is =
          let a = both_true (answer == 1) (e.primitive == 6 && slice_index e.arguments 2 == u) is in
          let b = both_true (e.primitive == 6) (slice_index e.arguments 2 == u) a.1 in
          sym (copy_added m after u (pending_steps j) answer e words (eqb-true answer 1 a.0) (eqb-true _ u b.1) (eqb-true e.primitive 6 b.0) told placed (λ e. entry_reads m after u e) (λ d. refl))
      by false is =
          let no : (answer == 1) && (e.primitive == 6 && slice_index e.arguments 2 == u) ≡ false = is in
          ap (λ d. prints (journal_rows_after false (pending_steps j) d)) (same_end (answer == 1) (e.primitive == 1 && slice_index e.arguments 0 == u) (e.primitive == 3 && slice_index e.arguments 0 == u) (e.primitive == 5 && slice_index e.arguments 0 == u) (e.primitive == 6 && slice_index e.arguments 2 == u) _ _ _ _ _ no)
          ∙ sym (one_added f (λ e. []) j (call_ends u e answer words) (few_end (answer == 1) (e.primitive == 1 && slice_index e.arguments 0 == u) (e.primitive == 3 && slice_index e.arguments 0 == u) (e.primitive == 5 && slice_index e.arguments 0 == u) (e.primitive == 6 && slice_index e.arguments 2 == u) _ _ _ _ no) (λ e. refl))

  -- it began a turn
  begin_adds : (b : Begun) → prints (journal_rows_after false (pending_steps j) (turn_begins u current b)) ≡ adds false (turn_begins u current b)
  begin_adds b = sym (one_added f (λ e. []) j (turn_begins u current b) (few_begin (current == u) b.dispatched (nat_lt 1 b.cause) _ _) (λ e. refl))

  -- or a primitive returned, if one did
  return_adds : (o : Option Entered) → ReturnTold m after u words o →
      returned_script m after (Some (paged_of m after)) u (pending_steps j) o ≡ adds (is_copy_to u after o) (return_entries u after words o)
  return_adds None told = sym (scripts-none (added f (λ e. []) j []))
  return_adds (Some e) told = end_adds e (slice_index after.cpu.regs ANSWER) told.0 told.1

  step_adds : ReturnTold m after u words (returned after (noted_call x s t)) →
      followed_script m after (Some (paged_of m after)) (tracer_at x s u t j) current (begins_turn x (run x s t))
      ≡ adds (if begins_turn x (run x s t) then false else is_copy_to u after (returned after (noted_call x s t))) (step_entries x s u t words)
  step_adds told = by (begins_turn x (run x s t))
    where
      by : (began : Bool) →
          (if began then prints (journal_rows_after false (pending_steps j) (turn_begins u current (note after))) else returned_script m after (Some (paged_of m after)) u (pending_steps j) (returned after (noted_call x s t)))
          ≡ adds (if began then false else is_copy_to u after (returned after (noted_call x s t))) (if began then turn_begins u current (note after) else return_entries u after words (returned after (noted_call x s t)))
      by true = begin_adds (note after)
      by false = return_adds (returned after (noted_call x s t)) told

  -- so they are the rows of the step
  rows_shown : (p : Past) (turns steps : ℕ) → p.shown t ≡ j → p.shown (suc t) ≡ j ++ step_entries x s u t words → ReturnTold m after u words (returned after (noted_call x s t)) →
      followed_script m after (Some (paged_of m after)) (tracer_at x s u t j) current (begins_turn x (run x s t)) ≡ rows_script (Trace u) (traced_run x y s u turns steps) p t
  rows_shown p turns steps before now told =
      step_adds told
      ∙ sym (all_added f (λ e. if (if begins_turn x (run x s t) then false else is_copy_to u after (returned after (noted_call x s t))) then entry_reads m after u e else []) j (step_entries x s u t words) (p.shown t) (p.shown (suc t)) before now)

  -- by what the machine shows and what is kept
  pub rows_followed : (m' : Map) (z : State) (k : Tracer) (now : ℕ) (began : Bool) → m' ≡ m → z ≡ after → k ≡ tracer_at x s u t j → now ≡ current → began ≡ begins_turn x (run x s t) →
      (p : Past) (turns steps : ℕ) → p.shown t ≡ j → p.shown (suc t) ≡ j ++ step_entries x s u t words → ReturnTold m after u words (returned after (noted_call x s t)) →
      followed_script m' z (Some (paged_of m' z)) k now began ≡ rows_script (Trace u) (traced_run x y s u turns steps) p t
  rows_followed m' z k now began hm hz hk hc hb p turns steps before after_it told =
      ap₂ (λ (m' : Map) (z : State). followed_script m' z (Some (paged_of m' z)) k now began) hm hz
      ∙ ap₂ (λ (k : Tracer) (now : ℕ). followed_script m after (Some (paged_of m after)) k now began) hk hc
      ∙ ap (followed_script m after (Some (paged_of m after)) (tracer_at x s u t j) current) hb
      ∙ rows_shown p turns steps before after_it told

-- what the code makes of a step is told by the memory alone, whatever the sectors hold
returned_alike : (m : Map) (held : Held) (ss : List (List ℕ)) (pages : Option Paged) (u n : ℕ) (o : Option Entered) → returned_script m (state_of held ss) pages u n o ≡ returned_script m (state_of held []) pages u n o
returned_alike m held ss told u n None = refl
returned_alike m held ss told u n (Some e) = refl

returned_here : (held : Held) (ss : List (List ℕ)) (noted : Option Entered) → returned (state_of held ss) noted ≡ returned (state_of held []) noted
returned_here held ss None = refl
returned_here held ss (Some e) = refl

pub followed_here : (m : Map) (held : Held) (ss : List (List ℕ)) (pages : Option Paged) (k : Tracer) (current : ℕ) (began : Bool) → followed_script m (state_of held []) pages k current began ≡ followed_script m (state_of held ss) pages k current began
followed_here m held ss pages k current began =
    ap (λ (r : List Call). if began then prints (journal_rows_after false k.steps (turn_begins k.user current (note (state_of held [])))) else r)
    (sym (returned_alike m held ss pages k.user k.steps (returned (state_of held ss) k.call) ∙ ap (returned_script m (state_of held []) pages k.user k.steps) (returned_here held ss k.call)))

-- the pages are wanted where a primitive returns alone, and are told there
pub pages_for : (m : Map) (held : Held) (told : Option (List (List ℕ))) (ss : List (List ℕ)) (k : Tracer) (running : ℕ) (began : Bool) (words : List ℕ) (o : Option Entered) → told ≡ Some ss → returned (state_of held ss) k.call ≡ o →
    ReturnTold m (state_of held ss) k.user words o →
    (pages : Option Paged) × ArePages told held m pages × (followed_script m (state_of held ss) pages k running began ≡ followed_script m (state_of held ss) (Some (paged_of m (state_of held ss))) k running began)
pages_for m held told ss k running began words None at is there = (
  None,
  tt,
  ap (λ (o : Option Entered). if began then prints (journal_rows_after false k.steps (turn_begins k.user running (note (state_of held ss)))) else returned_script m (state_of held ss) None k.user k.steps o) is
      ∙ sym (ap (λ (o : Option Entered). if began then prints (journal_rows_after false k.steps (turn_begins k.user running (note (state_of held ss)))) else returned_script m (state_of held ss) (Some (paged_of m (state_of held ss))) k.user k.steps o) is),
)
pages_for m held told ss k running began words (Some e) at is there = (Some (paged_of m (state_of held ss)), (ss, at, there.0.entries, refl), refl)

-- an untrapped step has no row
pub counted_none : (u n running : ℕ) (b : Begun) → b.dispatched ≡ false → [] ≡ prints (journal_rows_after false n (turn_begins u running b))
counted_none u n running b stays = by (running == u) b.dispatched stays
  where
    by : (a d : Bool) → d ≡ false → [] ≡ prints (journal_rows_after false n (if a then (if d then (if nat_lt 1 b.cause then Trapped b.cause b.edata ∷ [] else []) else Stepped ∷ []) else []))
    by a true e = absurd (let t : true ≡ false = e in cc)
    by true false e = refl
    by false false e = refl
