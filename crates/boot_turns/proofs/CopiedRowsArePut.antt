-- The rows of words that are put one after another.
use Rattle.std.proofs.Common.{◌≡◌, ℕ, zero, suc, ◌+◌, ◌-◌, ◌*◌, ◌/◌, ◌<◌, ◌≤◌, false, Option, List, [], ◌∷◌, ◌++◌, length, take, drop, refl, sym, ap, ap₂, ◌∙◌, arith, append-nil, ne_eqb}
use Rattle.std.specs.Prelude.{◌==◌, if◌then◌else◌, Bool, true}
use Rattle.std.proofs.lemmas.List.{get_or-drop, length-drop, take_more}
use Rattle.std.proofs.lemmas.Bool.{cond-false}
use Rattle.mips_table.specs.Machine.{State}
use Rattle.layer_map.specs.Map.{Map}
use Rattle.page_model.specs.Paging.{Paged}
use Rattle.cvm_model.specs.Kernel.{Put}
use Rattle.cvm_model.specs.Primitives.{put_entries}
use Rattle.cvm_model.specs.Text.{steps_row, entry_row, journal_rows_after}
use Rattle.cvm_model.specs.Paged.{paged_of}
use Rattle.boot_report.specs.Told.{user_word, WordsAreTold}
use Rattle.boot_turns.specs.declared.tracer.Tracer.{Tracer}
use Rattle.boot_turns.specs.JournalText.{steps_after}
use Rattle.boot_turns.specs.Steps.{KeepsTracer}
use Rattle.boot_turns.specs.Copies.{copied_kept, steps_left}
use Rattle.boot_turns.proofs.JournalRows.{more}

-- n words of user u from word k on
abbrev pub user_words : Map → Paged → (u k n : ℕ) → List ℕ
user_words m a u k zero = []
user_words m a u k (suc n) = user_words m a u k n ++ user_word m a u (k + n) ∷ []

-- the rows of the puts of these words from an address on, after so many steps with no row yet
abbrev pub copy_rows : Map → Paged → (u steps address n : ℕ) → List ℕ
copy_rows m a u steps address n = journal_rows_after false steps (put_entries address (user_words m a u (address / 4) n))

-- one word more is put
puts_one : (address : ℕ) (ws : List ℕ) (w : ℕ) → put_entries address (ws ++ w ∷ []) ≡ put_entries address ws ++ Put (address + 4 * length ws) w ∷ []
puts_one address [] w = let e : address ≡ address + 0 = omega arith in ap (λ a. Put a w ∷ []) e
puts_one address (v ∷ ws) w =
    let e : address + 4 + 4 * length ws ≡ address + 4 * suc (length ws) = omega arith in
    ap (λ r. Put address v ∷ r) (puts_one (address + 4) ws w ∙ ap (λ a. put_entries (address + 4) ws ++ Put a w ∷ []) e)

-- the puts of the first words are the first of all puts
pub puts_first : (i address : ℕ) (ws : List ℕ) → put_entries address (take i ws) ≡ take i (put_entries address ws)
puts_first zero address ws = refl
puts_first (suc i) address [] = refl
puts_first (suc i) address (w ∷ ws) = ap (λ r. Put address w ∷ r) (puts_first i (address + 4) ws)

pub puts_length : (address : ℕ) (ws : List ℕ) → length (put_entries address ws) ≡ length ws
puts_length address [] = refl
puts_length address (w ∷ ws) = ap suc (puts_length (address + 4) ws)

length_one : (ws : List ℕ) (w : ℕ) → length (ws ++ w ∷ []) ≡ suc (length ws)
length_one [] w = refl
length_one (v ∷ ws) w = ap suc (length_one ws w)

module _ (m : Map) (a : Paged) (u steps address : ℕ) where
  abbrev words : ℕ → List ℕ
  words n = user_words m a u (address / 4) n

  long : (n : ℕ) → length (user_words m a u (address / 4) n) ≡ n
  long zero = refl
  long (suc n) = length_one (user_words m a u (address / 4) n) (user_word m a u (address / 4 + n)) ∙ ap suc (long n)

  puts_next : (n : ℕ) → put_entries address (user_words m a u (address / 4) (suc n)) ≡ put_entries address (user_words m a u (address / 4) n) ++ Put (address + 4 * n) (user_word m a u (address / 4 + n)) ∷ []
  puts_next n = puts_one address (user_words m a u (address / 4) n) (user_word m a u (address / 4 + n))
      ∙ ap (λ l. put_entries address (user_words m a u (address / 4) n) ++ Put (address + 4 * l) (user_word m a u (address / 4 + n)) ∷ []) (long n)

  -- after the first put no step is left with no row
  none_after : (b : ℕ) (ws : List ℕ) → steps_after 0 (put_entries b ws) ≡ 0
  none_after b [] = refl
  none_after b (w ∷ ws) = none_after (b + 4) ws

  after_puts : (s b : ℕ) (ws : List ℕ) → steps_after s (put_entries b ws) ≡ steps_left s (length ws)
  after_puts s b [] = refl
  after_puts s b (w ∷ ws) = none_after (b + 4) ws ∙ sym (cond-false (suc (length ws) == 0) s 0 (ne_eqb (suc (length ws)) 0 (λ e. absurd (omega (arith, e)))))

  pub left_is : (n : ℕ) → steps_after steps (put_entries address (user_words m a u (address / 4) n)) ≡ steps_left steps n
  left_is n = after_puts steps address (user_words m a u (address / 4) n) ∙ ap (steps_left steps) (long n)

  pub rows_next : (n : ℕ) → copy_rows m a u steps address (suc n) ≡ copy_rows m a u steps address n ++ (steps_row (steps_left steps n) ++ entry_row (Put (address + 4 * n) (user_word m a u (address / 4 + n))))
  rows_next n =
      ap (journal_rows_after false steps) (puts_next n)
      ∙ more false steps (put_entries address (user_words m a u (address / 4) n)) (Put (address + 4 * n) (user_word m a u (address / 4 + n)) ∷ [])
      ∙ ap (λ s. copy_rows m a u steps address n ++ journal_rows_after false s (Put (address + 4 * n) (user_word m a u (address / 4 + n)) ∷ [])) (left_is n)
      ∙ ap (λ r. copy_rows m a u steps address n ++ r) (append-nil _)

pub left_none : (steps i : ℕ) → steps_left steps (i + 1) ≡ 0
left_none steps i = cond-false (i + 1 == 0) steps 0 (ne_eqb (i + 1) 0 (λ e. absurd (omega (arith, e))))

-- the tracer after one put more
pub put_tracer : (old now new : Tracer) (i : ℕ) → now ≡ copied_kept old i → new ≡ record now { steps = 0 } → new ≡ copied_kept old (i + 1)
put_tracer old now new i before is = is ∙ ap (λ (t : Tracer). record t { steps = 0 }) before ∙ ap (λ n. record old { steps = n }) (sym (left_none old.steps i))

-- puts leave no more steps with no row
few_left : (steps n : ℕ) → steps_left steps n ≤ steps
few_left steps n = by (n == 0)
  where
    by : (b : Bool) → (if b then steps else 0) ≤ steps
    by true = omega arith
    by false = omega arith

-- so of a trace its user is kept, and no more steps, by so many puts and by what comes behind them
pub keeps_puts : (kept new : Tracer) (n : ℕ) → new ≡ copied_kept kept n → KeepsTracer kept new
keeps_puts kept new n is =
    let left : new.steps ≡ steps_left kept.steps n = ap (λ (t : Tracer). t.steps) is in
    let few = few_left kept.steps n in
    record { user = ap (λ (t : Tracer). t.user) is; few = omega (arith, left, few) }

pub keeps_more : (kept mid new : Tracer) → KeepsTracer kept mid → KeepsTracer mid new → KeepsTracer kept new
keeps_more kept mid new a b = record { user = b.user ∙ a.user; few = let p = a.few in let q = b.few in omega (arith, p, q) }

-- where a user's words are told, n of them from word k on are those of its pages
pub copies_tell : (m : Map) (s : State) (u k n : ℕ) (words : List ℕ) → WordsAreTold m s u words → k + n ≤ length words →
    user_words m (paged_of m s) u k n ≡ take n (drop k words)
copies_tell m s u k zero words told le = refl
copies_tell m s u k (suc n) words told le =
    let lt : k + n < length words = omega (arith, le) in
    let long : length (drop k words) ≡ length words - k = length-drop k words in
    let e : n + 1 ≡ suc n = omega arith in
    ap₂ (λ (a : List ℕ) (w : ℕ). a ++ w ∷ []) (copies_tell m s u k n words told (omega (arith, le))) (told.word (k + n) lt ∙ sym (get_or-drop k words n 0))
    ∙ sym (take_more (drop k words) n 0 (omega (arith, long, lt))) ∙ ap (λ i. take i (drop k words)) e
