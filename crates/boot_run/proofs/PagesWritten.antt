-- Pages written one after another: which sector holds what; and words put into memory.
use Rattle.std.proofs.Common.{◌≡◌, ◌≢◌, ℕ, zero, suc, ◌+◌, ◌<◌, ◌≤◌, true, false, cond, List, [], ◌∷◌, ◌++◌, take, drop, map, length, get_or, set, refl, sym, ap, ◌∙◌, subst, ⊎_elim, arith, length-set, get_or-set_other, get_or-set_same}
use Rattle.std.specs.List.{range_with_len}
use Rattle.std.proofs.lemmas.Bool.{cases_lt, cases_eq, cases_Bool, cond_both, cond-true, cond-false}
use Rattle.std.proofs.lemmas.List.FromFn.{fill_by_all}
use Rattle.mips_table.specs.Device.{sector_of}
use Rattle.page_model.specs.Paging.{Pages}
use Rattle.mips_machine.specs.Machine.{Held}
use Rattle.boot_run.specs.Loading.{words_of_page}

-- the sectors once a number's page is written, if it is one
abbrev pub with_page : Pages → List (List ℕ) → ℕ → List (List ℕ)
with_page p sectors q = cond (p.live q) (set sectors q (words_of_page p q)) sectors

-- and once the pages of the first n numbers are written
abbrev pub pages_written : Pages → ℕ → List (List ℕ) → List (List ℕ)
pages_written p zero sectors = sectors
pages_written p (suc n) sectors = with_page p (pages_written p n sectors) n

pub length-with_page : (p : Pages) (ss : List (List ℕ)) (q : ℕ) → length (with_page p ss q) ≡ length ss
length-with_page p ss q = cond_both (p.live q) (set ss q (words_of_page p q)) ss (λ xs. length xs ≡ length ss) (λ _. length-set ss q (words_of_page p q)) (λ _. refl)

pub length-written : (p : Pages) (n : ℕ) (ss : List (List ℕ)) → length (pages_written p n ss) ≡ length ss
length-written p zero ss = refl
length-written p (suc n) ss = length-with_page p (pages_written p n ss) n ∙ length-written p n ss

other_page : (p : Pages) (ss : List (List ℕ)) (q k : ℕ) → k ≢ q → sector_of (with_page p ss q) k ≡ sector_of ss k
other_page p ss q k ne = cond_both (p.live q) (set ss q (words_of_page p q)) ss (λ xs. sector_of xs k ≡ sector_of ss k) (λ _. get_or-set_other ss q k (words_of_page p q) [] ne) (λ _. refl)

-- what a sector holds: its page, or what it held
abbrev pub page_or : Pages → List (List ℕ) → ℕ → List ℕ
page_or p ss q = cond (p.live q) (words_of_page p q) (sector_of ss q)

same_page : (p : Pages) (ss : List (List ℕ)) (q : ℕ) → q < length ss → sector_of (with_page p ss q) q ≡ page_or p ss q
same_page p ss q lt = ⊎_elim
    (λ (e : p.live q ≡ true). ap (λ xs. sector_of xs q) (cond-true (p.live q) (set ss q (words_of_page p q)) ss e) ∙ get_or-set_same ss q (words_of_page p q) [] lt ∙ sym (cond-true (p.live q) _ _ e))
    (λ (e : p.live q ≡ false). ap (λ xs. sector_of xs q) (cond-false (p.live q) (set ss q (words_of_page p q)) ss e) ∙ sym (cond-false (p.live q) _ _ e))
    (cases_Bool (p.live q))

pub later_page : (p : Pages) (n : ℕ) (ss : List (List ℕ)) (k : ℕ) → n ≤ k → sector_of (pages_written p n ss) k ≡ sector_of ss k
later_page p zero ss k le = refl
later_page p (suc n) ss k le = other_page p (pages_written p n ss) n k (λ e. absurd (omega (arith, e, le))) ∙ later_page p n ss k (omega arith)

page_at : (p : Pages) (n : ℕ) (ss : List (List ℕ)) (k : ℕ) → k < n → n ≤ length ss → sector_of (pages_written p n ss) k ≡ page_or p ss k
page_at p zero ss k lt le = absurd (omega arith)
page_at p (suc n) ss k lt le = ⊎_elim
    (λ (e : k ≡ n). subst (λ j. sector_of (with_page p (pages_written p n ss) n) j ≡ page_or p ss j) (sym e)
    (same_page p (pages_written p n ss) n (let l = length-written p n ss in omega (arith, l, le)) ∙ ap (λ w. cond (p.live n) (words_of_page p n) w) (later_page p n ss n (omega arith))))
    (λ (ne : k ≢ n). other_page p (pages_written p n ss) n k ne ∙ page_at p n ss k (omega (arith, ne, lt)) (omega arith))
    (cases_eq k n)

-- all at once: each sector holds its page, and what it held before where it gets none
pub written_is : (p : Pages) (n : ℕ) (ss : List (List ℕ)) (f : ℕ → List ℕ) → n ≤ length ss → ((q : ℕ) → q < n → page_or p ss q ≡ f q) → ((q : ℕ) → n ≤ q → sector_of ss q ≡ f q) →
    pages_written p n ss ≡ map f (range_with_len 0 (length ss))
written_is p n ss f le pages rest = fill_by_all f (pages_written p n ss) (length ss) [] (length-written p n ss)
    (λ k lt. ⊎_elim
    (λ (l : k < n). page_at p n ss k l le ∙ pages k l)
    (λ (ge : n ≤ k). later_page p n ss k ge ∙ rest k ge)
    (cases_lt k n))

-- one more word is put over the beginning of a list
put_word : (ws mem : List ℕ) (i w : ℕ) → i < length ws → length ws ≤ length mem → w ≡ get_or ws i 0 → set (take i ws ++ drop i mem) i w ≡ take (suc i) ws ++ drop (suc i) mem
put_word [] mem i w lt le e = absurd (omega arith)
put_word (a ∷ ws) [] i w lt le e = absurd (omega arith)
put_word (a ∷ ws) (b ∷ mem) zero w lt le e = ap (λ n. n ∷ mem) e
put_word (a ∷ ws) (b ∷ mem) (suc i) w lt le e = ap (λ l. a ∷ l) (put_word ws mem i w (omega arith) (omega arith) e)

-- and over a list from a place on
put_behind : (at : ℕ) (ws mem : List ℕ) (i n m w : ℕ) → n ≡ at + i → m ≡ suc n → i < length ws → at + length ws ≤ length mem → w ≡ get_or ws i 0 →
    set (take at mem ++ (take i ws ++ drop n mem)) n w ≡ take at mem ++ (take (suc i) ws ++ drop m mem)
put_behind zero ws mem i n m w e f lt le v =
    let k : n ≡ i = omega (arith, e) in
    let h : m ≡ suc i = omega (arith, e, f) in
    rw (k, h) (put_word ws mem i w lt (omega (arith, le)) v)
put_behind (suc at) ws [] i n m w e f lt le v = absurd (omega (arith, le))
put_behind (suc at) ws (b ∷ mem) i zero m w e f lt le v = absurd (omega (arith, e))
put_behind (suc at) ws (b ∷ mem) i (suc n) zero w e f lt le v = absurd (omega (arith, f))
put_behind (suc at) ws (b ∷ mem) i (suc n) (suc m) w e f lt le v = ap (λ l. b ∷ l) (put_behind at ws mem i n m w (omega (arith, e)) (omega (arith, f)) lt (omega (arith, le)) v)

pub put_more : (at : ℕ) (ws mem : List ℕ) (i j next w : ℕ) → i < length ws → at + length ws ≤ length mem → w ≡ get_or ws i 0 → j ≡ at + i → next ≡ i + 1 →
    set (take at mem ++ (take i ws ++ drop (at + i) mem)) j w ≡ take at mem ++ (take next ws ++ drop (at + next) mem)
put_more at ws mem i j next w lt le e f h =
    let g : next ≡ suc i = omega (arith, h) in
    rw (f, g) (put_behind at ws mem i (at + i) (at + suc i) w refl (omega arith) lt le e)

-- a machine with another memory
abbrev with_memory : Held → List ℕ → Held
with_memory held memory = record held { hardware = record held.hardware { memory = memory } }

pub put_step : (held first : Held) (a b : List ℕ) (j w : ℕ) → held ≡ with_memory first a → set a j w ≡ b → with_memory held (set held.hardware.memory j w) ≡ with_memory first b
put_step held first a b j w e h = subst (λ m. with_memory m (set m.hardware.memory j w) ≡ with_memory first b) (sym e) (ap (with_memory first) h)
