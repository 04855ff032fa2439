-- What one frame is to the list of all words: its length, its words, and what a write of it leaves of the others.
-- The law `a_frame_is_its_part` states these facts for callers, and `lend` needs that a frame is a range of the words.
use Rattle.std.proofs.Common.{◌≡◌, ℕ, ◌+◌, ◌-◌, ◌*◌, ◌<◌, ◌≤◌, List, ◌++◌, length, get_or, set, take, drop, length-append, ap, ◌∙◌, sym, arith}
use Rattle.std.proofs.lemmas.Grind.{common_steps}
use Rattle.std.proofs.lemmas.List.{length-take-le, get_or-take, get_or-drop, take-append-drop, take-append-le, drop-append-le, drop-take, set-append_left, set-append_right}
use Rattle.std.proofs.Math.Seq.{drop-append-add, take-append_seam}
use lib.ListN.{length-drop}
use lib.Seq.{drop-drop}
use Rattle.frame_store.specs.Words.{frame_of, with_frame}

-- a frame has 1,024 words
pub length-frame_of : (xs : List ℕ) (i : ℕ) → 1024 * i + 1024 ≤ length xs → length (frame_of xs i) ≡ 1024
length-frame_of xs i inside = length-take-le 1024 (drop (1024 * i) xs) (omega (arith, length-drop (1024 * i) xs))

-- a store keeps its length
pub length-with_frame : (xs : List ℕ) (i : ℕ) (ws : List ℕ) → 1024 * i + 1024 ≤ length xs → length ws ≡ 1024 → length (with_frame xs i ws) ≡ length xs
length-with_frame xs i ws inside long =
    let at : ℕ = 1024 * i in
    let rest : List ℕ = drop 1024 (drop at xs) in
    omega (arith, length-append (take at xs) (ws ++ rest), length-append ws rest, length-take-le at xs (omega arith), length-drop at xs, length-drop 1024 (drop at xs), long)

-- a word of a frame is a word of the store
pub word-frame_of : (xs : List ℕ) (i j : ℕ) → j < 1024 → get_or (frame_of xs i) j 0 ≡ get_or xs (1024 * i + j) 0
word-frame_of xs i j low = get_or-take 1024 (drop (1024 * i) xs) j 0 low ∙ get_or-drop (1024 * i) xs j 0

-- a word of the frame that was written
pub word-inside : (xs : List ℕ) (i : ℕ) (ws : List ℕ) (j : ℕ) → 1024 * i + 1024 ≤ length xs → length ws ≡ 1024 → j < 1024 → get_or (with_frame xs i ws) (1024 * i + j) 0 ≡ get_or ws j 0
word-inside xs i ws j inside long low = grind (arith, common_steps)

-- a word before it, or after it
pub word-before : (xs : List ℕ) (i : ℕ) (ws : List ℕ) (k : ℕ) → 1024 * i + 1024 ≤ length xs → k < 1024 * i → get_or (with_frame xs i ws) k 0 ≡ get_or xs k 0
word-before xs i ws k inside low = grind (arith, common_steps)

-- the same facts at any place and length
module _ (n at : ℕ) (xs : List ℕ) (inside : at + n ≤ length xs) where
  front : length (take at xs) ≡ at
  front = length-take-le at xs (omega arith)

  cut : xs ≡ take at xs ++ (take n (drop at xs) ++ drop n (drop at xs))
  cut = sym (take-append-drop at xs) ∙ ap (λ l. take at xs ++ l) (sym (take-append-drop n (drop at xs)))

  past : (ws : List ℕ) (k : ℕ) → length ws ≡ n → drop (at + n + k) (take at xs ++ (ws ++ drop n (drop at xs))) ≡ drop (at + n + k) xs
  past ws k long =
      let e : at + n + k ≡ length (take at xs) + (length ws + k) = omega (arith, front, long) in
      let f : at + n + k ≡ at + (n + k) = omega arith in
      ap (λ m. drop m (take at xs ++ (ws ++ drop n (drop at xs)))) e ∙ drop-append-add (take at xs) (ws ++ drop n (drop at xs)) (length ws + k) ∙ drop-append-add ws (drop n (drop at xs)) k
      ∙ drop-drop k n (drop at xs) ∙ drop-drop (n + k) at xs ∙ ap (λ m. drop m xs) (sym f)

  same : (ws : List ℕ) → length ws ≡ n → take n (drop at (take at xs ++ (ws ++ drop n (drop at xs)))) ≡ ws
  same ws long =
      let e : at ≡ length (take at xs) + 0 = omega (arith, front) in
      let f : n ≡ length ws = sym long in
      ap (λ m. take n (drop m (take at xs ++ (ws ++ drop n (drop at xs))))) e ∙ ap (take n) (drop-append-add (take at xs) (ws ++ drop n (drop at xs)) 0) ∙ ap (λ m. take m (ws ++ drop n (drop at xs))) f ∙ take-append_seam ws (drop n (drop at xs))

  set_in : (j v : ℕ) → j < n → set xs (at + j) v ≡ take at xs ++ (set (take n (drop at xs)) j v ++ drop n (drop at xs))
  set_in j v low =
      let mid : List ℕ = take n (drop at xs) in let rest : List ℕ = drop n (drop at xs) in
      let long : length mid ≡ n = length-take-le n (drop at xs) (omega (arith, length-drop at xs)) in
      let back : at + j - at ≡ j = omega arith in
      ap (λ l. set l (at + j) v) cut ∙ set-append_right (take at xs) (mid ++ rest) at (at + j) v front (omega arith) ∙ ap (λ m. take at xs ++ set (mid ++ rest) m v) back ∙ ap (λ l. take at xs ++ l) (set-append_left mid rest j v (omega (arith, long)))

pub word-after : (xs : List ℕ) (i : ℕ) (ws : List ℕ) (k : ℕ) → 1024 * i + 1024 ≤ length xs → length ws ≡ 1024 → 1024 * i + 1024 ≤ k → get_or (with_frame xs i ws) k 0 ≡ get_or xs k 0
word-after xs i ws k inside long high =
    let t : ℕ = k - (1024 * i + 1024) in
    let e : k ≡ 1024 * i + 1024 + t + 0 = omega arith in
    ap (λ m. get_or (with_frame xs i ws) m 0) e ∙ sym (get_or-drop (1024 * i + 1024 + t) (with_frame xs i ws) 0 0) ∙ ap (λ l. get_or l 0 0) (past 1024 (1024 * i) xs inside ws t long) ∙ get_or-drop (1024 * i + 1024 + t) xs 0 0 ∙ ap (λ m. get_or xs m 0) (sym e)

take-less : (n m : ℕ) (xs : List ℕ) → n ≤ m → take n (take m xs) ≡ take n xs
take-less n m xs le = grind (arith, common_steps)

-- the frame that was written, and another one
pub same-frame : (xs : List ℕ) (i : ℕ) (ws : List ℕ) → 1024 * i + 1024 ≤ length xs → length ws ≡ 1024 → frame_of (with_frame xs i ws) i ≡ ws
same-frame xs i ws inside long = same 1024 (1024 * i) xs inside ws long

pub later-frame : (xs : List ℕ) (i j : ℕ) (ws : List ℕ) → 1024 * i + 1024 ≤ length xs → length ws ≡ 1024 → i < j → frame_of (with_frame xs i ws) j ≡ frame_of xs j
later-frame xs i j ws inside long above =
    let t : ℕ = 1024 * j - (1024 * i + 1024) in
    let e : 1024 * j ≡ 1024 * i + 1024 + t = omega arith in
    ap (λ m. take 1024 (drop m (with_frame xs i ws))) e ∙ ap (take 1024) (past 1024 (1024 * i) xs inside ws t long) ∙ ap (λ m. take 1024 (drop m xs)) (sym e)

pub earlier-frame : (xs : List ℕ) (i j : ℕ) (ws : List ℕ) → 1024 * i + 1024 ≤ length xs → j < i → frame_of (with_frame xs i ws) j ≡ frame_of xs j
earlier-frame xs i j ws inside below =
    let at : ℕ = 1024 * i in let to : ℕ = 1024 * j in
    let R : List ℕ = ws ++ drop 1024 (drop at xs) in
    let long : length (take at xs) ≡ at = length-take-le at xs (omega arith) in
    let t : ℕ = at - to in
    let e : at ≡ to + t = omega arith in
    ap (take 1024) (drop-append-le to (take at xs) R (omega (arith, long)) ∙ ap (λ l. l ++ R) (ap (λ m. drop to (take m xs)) e ∙ drop-take to t xs))
    ∙ take-append-le 1024 (take t (drop to xs)) R (omega (arith, length-take-le t (drop to xs) (omega (arith, length-drop to xs)))) ∙ take-less 1024 t (drop to xs) (omega arith)

-- one word set, as its frame with that word set
pub set-word : (xs : List ℕ) (i j v : ℕ) → 1024 * i + 1024 ≤ length xs → j < 1024 → set xs (1024 * i + j) v ≡ with_frame xs i (set (frame_of xs i) j v)
set-word xs i j v inside low = set_in 1024 (1024 * i) xs inside j v low

-- a frame, as the range of its words
pub range_frame : (xs : List ℕ) (i : ℕ) → take (1024 * i + 1024 - 1024 * i) (drop (1024 * i) xs) ≡ frame_of xs i
range_frame xs i =
    let wide : 1024 * i + 1024 - 1024 * i ≡ 1024 = omega arith in
    ap (λ k. take k (drop (1024 * i) xs)) wide
