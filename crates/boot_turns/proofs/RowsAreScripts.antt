-- What the rows of a step make of a sink and a disk, as scripts: rows that are read from no page, words that were copied, and the rows of one step by what
-- its code tests. What a call says of texts and counts is turned into its script here once.
use Rattle.std.proofs.Common.{◌≡◌, ◌≢◌, ℕ, ◌+◌, ◌*◌, ◌/◌, ◌<◌, ◌≤◌, ◌&&◌, Bool, true, false, nat_lt, List, [], ◌∷◌, ◌++◌, Option, Some, None, slice_index, refl, sym, ap, ap₂, ◌∙◌, subst, eq-eqb, ne_eqb, lt-ltb, le-ltb}
use Rattle.std.specs.Prelude.{◌==◌, if◌then◌else◌, IfSome}
use Rattle.std.proofs.lemmas.Bool.{cond-true, cond-false}
use Rattle.cvm_outside.specs.Outside.{Files, Output, Drive}
use Rattle.cvm_outside.specs.Script.{Call, Who, Puts, Performs, done}
use Rattle.cvm_outside.proofs.PartsMakeTheWhole.{append_known-nil}
use Rattle.cvm_outside.proofs.RowsPut.{performed, then_prints, same_script, scripts-none}
use Rattle.mips_table.specs.Machine.{State}
use Rattle.mips_machine.specs.Machine.{Held, state_of}
use Rattle.layer_map.specs.Map.{Map}
use Rattle.layer_contract.specs.declared.registers.TheConstants.{ANSWER}
use Rattle.page_model.specs.Paging.{Paged}
use Rattle.cvm_model.specs.Kernel.{JournalEntry, Put}
use Rattle.cvm_model.specs.Paged.{paged_of}
use Rattle.cvm_model.specs.Text.{steps_row, entry_row, journal_rows_after}
use Rattle.boot_report.specs.Resident.{word_reads}
use Rattle.boot_report.specs.Texts.{EntriesFit}
use Rattle.boot_report.specs.Told.{user_word}
use Rattle.boot_turns.specs.declared.completion.Begun.{Begun}
use Rattle.boot_turns.specs.declared.tracer.Entered.{Entered}
use Rattle.boot_turns.specs.declared.tracer.Tracer.{Tracer}
use Rattle.boot_turns.specs.Completes.{note}
use Rattle.boot_turns.specs.Copies.{steps_left}
use Rattle.boot_turns.specs.Entries.{turn_begins, call_ends}
use Rattle.boot_turns.specs.Returns.{returned}
use Rattle.boot_turns.specs.StepScript.{prints}
use Rattle.boot_turns.specs.RowScripts.{ArePages, copied_script, copy_script, words_copied, ended_script, returned_script, followed_script}

-- rows are put, where there are any
pub prints_made : (rows : List ℕ) (shelf : Files) (disk : Drive) (old new : Output) (blamed : Option Who) → Puts rows old new blamed → ((whom : Who) → blamed ≡ Some whom → rows ≢ []) →
    Performs (prints rows) (record { shelf = shelf; sink = old; disk = disk }) (record { shelf = shelf; sink = new; disk = disk }) blamed
prints_made [] shelf disk old new None put some =
    let same : new ≡ old = put.by ∙ ap (λ t. record old { text = t }) (append_known-nil old.text) in
    subst (λ (o : Output). Performs [] (record { shelf = shelf; sink = old; disk = disk }) (record { shelf = shelf; sink = o; disk = disk }) None) (sym same) (done _)
prints_made [] shelf disk old new (Some whom) put some = absurd (some whom refl refl)
prints_made (b ∷ rows) shelf disk old new blamed put some = performed (Some (b ∷ rows)) (b ∷ rows) shelf disk old new blamed refl put

-- the word that was read is that of the pages, where these are told
pub pages_tell : (told : Option (List (List ℕ))) (held : Held) (m : Map) (u k word : ℕ) (pages : Option Paged) → ArePages told held m pages →
    ((ss : List (List ℕ)) → told ≡ Some ss → EntriesFit m (state_of held ss) → word ≡ user_word m (paged_of m (state_of held ss)) u k) → IfSome pages (λ a. word ≡ user_word m a u k)
pages_tell told held m u k word None are tells = tt
pages_tell told held m u k word (Some a) (ss, is, fit, same) tells = tells ss is fit ∙ ap (λ (a : Paged). user_word m a u k) (sym same)

-- a word that was copied is read, and its row is put
pub copied_made : (m : Map) (s : State) (pages : Option Paged) (u steps address i word left : ℕ) (row : List ℕ) (reads : List Call) (shelf : Files) (sink resink : Output) (disk redisk : Drive) (blamed : Option Who) →
    reads ≡ word_reads m s u (address / 4 + i) → Performs reads (record { shelf = shelf; sink = sink; disk = disk }) (record { shelf = shelf; sink = sink; disk = redisk }) None →
    IfSome pages (λ a. word ≡ user_word m a u (address / 4 + i)) → row ≡ entry_row (Put (address + 4 * i) word) → left ≡ steps_left steps i → Puts (steps_row left ++ row) sink resink blamed →
    Performs (copied_script m s pages u steps address i) (record { shelf = shelf; sink = sink; disk = disk }) (record { shelf = shelf; sink = resink; disk = redisk }) blamed
copied_made m s pages u steps address i word left row reads shelf sink resink disk redisk blamed is asks tell row_is left_is put =
    then_prints (word_reads m s u (address / 4 + i)) pages (λ a. steps_row (steps_left steps i) ++ entry_row (Put (address + 4 * i) (user_word m a u (address / 4 + i)))) (steps_row left ++ row) shelf sink resink disk redisk blamed
    (same_script _ _ _ _ _ is asks) (tells pages tell) put
  where
    tells : (o : Option Paged) → IfSome o (λ a. word ≡ user_word m a u (address / 4 + i)) → IfSome o (λ a. steps_row left ++ row ≡ steps_row (steps_left steps i) ++ entry_row (Put (address + 4 * i) (user_word m a u (address / 4 + i))))
    tells None h = tt
    tells (Some a) h = ap₂ (λ n r. steps_row n ++ r) left_is (row_is ∙ ap (λ w. entry_row (Put (address + 4 * i) w)) h)

-- so it is of the word that a tracer reads and puts
pub word_made : (m : Map) (held : Held) (told retold : Option (List (List ℕ))) (pages : Option Paged) (kept mid : Tracer) (address i word : ℕ) (row : List ℕ) (shelf : Files) (sink resink : Output) (disk redisk : Drive) (blamed : Option Who) →
    ArePages told held m pages → retold ≡ told → mid.user ≡ kept.user → mid.steps ≡ steps_left kept.steps i →
    Performs (word_reads m (state_of held []) mid.user (address / 4 + i)) (record { shelf = shelf; sink = sink; disk = disk }) (record { shelf = shelf; sink = sink; disk = redisk }) None →
    ((ss : List (List ℕ)) → retold ≡ Some ss → EntriesFit m (state_of held ss) → word ≡ user_word m (paged_of m (state_of held ss)) mid.user (address / 4 + i)) →
    row ≡ entry_row (Put (address + 4 * i) word) → Puts (steps_row mid.steps ++ row) sink resink blamed →
    Performs (copied_script m (state_of held []) pages kept.user kept.steps address i) (record { shelf = shelf; sink = sink; disk = disk }) (record { shelf = shelf; sink = resink; disk = redisk }) blamed
word_made m held told retold pages kept mid address i word row shelf sink resink disk redisk blamed are retell user steps asks shown row_is put =
    copied_made m (state_of held []) pages kept.user kept.steps address i word mid.steps row (word_reads m (state_of held []) mid.user (address / 4 + i)) shelf sink resink disk redisk blamed
    (ap (λ u. word_reads m (state_of held []) u (address / 4 + i)) user) asks
    (pages_tell told held m kept.user (address / 4 + i) word pages are (λ ss e fit. shown ss (retell ∙ e) fit ∙ ap (λ u. user_word m (paged_of m (state_of held ss)) u (address / 4 + i)) user))
    row_is steps put

-- A PRIMITIVE THAT HAS RETURNED, by what the code tests
and_false : (b : Bool) → b && false ≡ false
and_false true = refl
and_false false = refl

nothing : (a b c d f : Bool) (x y z w : List JournalEntry) → b ≡ false → c ≡ false → d ≡ false → f ≡ false → (if a then (if b then x else if c then y else if d then z else if f then w else []) else []) ≡ []
nothing true b c d f x y z w eb ec ed ef = cond-false b x _ eb ∙ cond-false c y _ ec ∙ cond-false d z _ ed ∙ cond-false f w [] ef
nothing false b c d f x y z w eb ec ed ef = refl

module _ (m : Map) (s : State) (pages : Option Paged) (u steps answer : ℕ) (e : Entered) where
  -- it copied words to the user, all of which lie in its memory
  pub ended_copy : e.primitive ≡ 6 → answer ≡ 1 → slice_index e.arguments 2 ≡ u → slice_index e.arguments 3 / 4 + slice_index e.arguments 4 ≤ 1024 * m.params.pages →
      copy_script m s pages u steps (slice_index e.arguments 3) (slice_index e.arguments 4) ≡ ended_script m s pages u steps e answer
  ended_copy sixth one user inside =
      ap (copy_script m s pages u steps (slice_index e.arguments 3)) (sym (cond-false (nat_lt (1024 * m.params.pages) (slice_index e.arguments 3 / 4 + slice_index e.arguments 4)) 0 (slice_index e.arguments 4) (le-ltb _ _ inside)))
      ∙ sym (cond-true (answer == 1 && (e.primitive == 6 && slice_index e.arguments 2 == u)) (copy_script m s pages u steps (slice_index e.arguments 3) (words_copied m e)) (prints (journal_rows_after false steps (call_ends u e answer [])))
      (ap (λ b. b && (e.primitive == 6 && slice_index e.arguments 2 == u)) (eq-eqb _ _ one) ∙ ap (λ p. p == 6 && slice_index e.arguments 2 == u) sixth ∙ eq-eqb _ _ user))

  -- or they don't
  pub ended_far : e.primitive ≡ 6 → answer ≡ 1 → slice_index e.arguments 2 ≡ u → 1024 * m.params.pages < slice_index e.arguments 3 / 4 + slice_index e.arguments 4 → [] ≡ ended_script m s pages u steps e answer
  ended_far sixth one user outside =
      sym (scripts-none (copied_script m s pages u steps (slice_index e.arguments 3)))
      ∙ ap (copy_script m s pages u steps (slice_index e.arguments 3)) (sym (cond-true (nat_lt (1024 * m.params.pages) (slice_index e.arguments 3 / 4 + slice_index e.arguments 4)) 0 (slice_index e.arguments 4) (lt-ltb _ _ outside)))
      ∙ sym (cond-true (answer == 1 && (e.primitive == 6 && slice_index e.arguments 2 == u)) (copy_script m s pages u steps (slice_index e.arguments 3) (words_copied m e)) (prints (journal_rows_after false steps (call_ends u e answer [])))
      (ap (λ b. b && (e.primitive == 6 && slice_index e.arguments 2 == u)) (eq-eqb _ _ one) ∙ ap (λ p. p == 6 && slice_index e.arguments 2 == u) sixth ∙ eq-eqb _ _ user))

  -- it gave another answer, or the words were another user's
  pub ended_refused : answer ≢ 1 → [] ≡ ended_script m s pages u steps e answer
  ended_refused refused =
      let test : answer == 1 ≡ false = ne_eqb answer 1 refused in
      ap (λ j. prints (journal_rows_after false steps j)) (sym (cond-false (answer == 1) _ [] test))
      ∙ sym (cond-false (answer == 1 && (e.primitive == 6 && slice_index e.arguments 2 == u)) (copy_script m s pages u steps (slice_index e.arguments 3) (words_copied m e)) (prints (journal_rows_after false steps (call_ends u e answer [])))
      (ap (λ b. b && (e.primitive == 6 && slice_index e.arguments 2 == u)) test))

  pub ended_other : e.primitive ≡ 6 → slice_index e.arguments 2 ≢ u → [] ≡ ended_script m s pages u steps e answer
  ended_other sixth foreign =
      let other : slice_index e.arguments 2 == u ≡ false = ne_eqb (slice_index e.arguments 2) u foreign in
      let none : call_ends u e answer [] ≡ [] =
      nothing (answer == 1) (e.primitive == 1 && slice_index e.arguments 0 == u) (e.primitive == 3 && slice_index e.arguments 0 == u) (e.primitive == 5 && slice_index e.arguments 0 == u) (e.primitive == 6 && slice_index e.arguments 2 == u) _ _ _ _
      (ap (λ p. p == 1 && slice_index e.arguments 0 == u) sixth) (ap (λ p. p == 3 && slice_index e.arguments 0 == u) sixth) (ap (λ p. p == 5 && slice_index e.arguments 0 == u) sixth) (ap (λ p. p == 6 && slice_index e.arguments 2 == u) sixth ∙ other) in
      ap (λ j. prints (journal_rows_after false steps j)) (sym none)
      ∙ sym (cond-false (answer == 1 && (e.primitive == 6 && slice_index e.arguments 2 == u)) (copy_script m s pages u steps (slice_index e.arguments 3) (words_copied m e)) (prints (journal_rows_after false steps (call_ends u e answer [])))
      (ap (λ p. answer == 1 && (p == 6 && slice_index e.arguments 2 == u)) sixth ∙ ap (λ b. answer == 1 && b) other ∙ and_false (answer == 1)))

  -- it was no copy
  pub ended_call : e.primitive ≢ 6 → prints (journal_rows_after false steps (call_ends u e answer [])) ≡ ended_script m s pages u steps e answer
  ended_call other =
      sym (cond-false (answer == 1 && (e.primitive == 6 && slice_index e.arguments 2 == u)) (copy_script m s pages u steps (slice_index e.arguments 3) (words_copied m e)) (prints (journal_rows_after false steps (call_ends u e answer [])))
      (ap (λ b. answer == 1 && (b && slice_index e.arguments 2 == u)) (ne_eqb _ _ other) ∙ and_false (answer == 1)))

-- A STEP, by what the code tests
module _ (m : Map) (s : State) (pages : Option Paged) (kept : Tracer) (current : ℕ) (began : Bool) where
  -- a turn began, of the user that is traced or of another
  pub followed_turn : (b : Begun) → began ≡ true → b ≡ note s → prints (journal_rows_after false kept.steps (turn_begins kept.user current b)) ≡ followed_script m s pages kept current began
  followed_turn b e is =
      ap (λ (b : Begun). prints (journal_rows_after false kept.steps (turn_begins kept.user current b))) is
      ∙ sym (cond-true began (prints (journal_rows_after false kept.steps (turn_begins kept.user current (note s)))) (returned_script m s pages kept.user kept.steps (returned s kept.call)) e)

  pub followed_foreign : began ≡ true → current ≢ kept.user → [] ≡ followed_script m s pages kept current began
  followed_foreign e other =
      ap (λ j. prints (journal_rows_after false kept.steps j)) (sym (cond-false (current == kept.user) _ [] (ne_eqb current kept.user other))) ∙ followed_turn (note s) e refl

  -- none began: a primitive returned, or none did
  not_begun : (r : Option Entered) → began ≡ false → r ≡ returned s kept.call → returned_script m s pages kept.user kept.steps r ≡ followed_script m s pages kept current began
  not_begun r e is =
      ap (returned_script m s pages kept.user kept.steps) is
      ∙ sym (cond-false began (prints (journal_rows_after false kept.steps (turn_begins kept.user current (note s)))) (returned_script m s pages kept.user kept.steps (returned s kept.call)) e)

  pub followed_none : (r : Option Entered) → began ≡ false → r ≡ returned s kept.call → r ≡ None → [] ≡ followed_script m s pages kept current began
  followed_none r e is none = ap (returned_script m s pages kept.user kept.steps) (sym none) ∙ not_begun r e is

  pub followed_return : (r : Option Entered) (call : Entered) (answer : ℕ) → began ≡ false → r ≡ returned s kept.call → r ≡ Some call → answer ≡ slice_index s.cpu.regs ANSWER →
      ended_script m s pages kept.user kept.steps call answer ≡ followed_script m s pages kept current began
  followed_return r call answer e is some a =
      ap (ended_script m s pages kept.user kept.steps call) a ∙ ap (returned_script m s pages kept.user kept.steps) (sym some) ∙ not_begun r e is
