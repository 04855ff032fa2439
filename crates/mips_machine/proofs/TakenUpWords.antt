-- The words of a machine that was taken up from words are those words.
use Rattle.std.proofs.Common.{◌≡◌, ℕ, zero, suc, ◌+◌, ◌*◌, ◌-◌, ◌/◌, ◌%◌, ◌^◌, ◌<◌, ◌≤◌, List, [], ◌∷◌, ◌++◌, length, take, drop, slice_index, refl, sym, ap, ap₂, ◌∙◌, append_assoc, arith}
use Rattle.std.proofs.lemmas.List.{take-append-drop, drop-drop, length-drop, length-take-le}
use Rattle.mips_machine.specs.Saved.{MARK, two_words, from_halves, words_from_place}

-- a part, and what is behind it
cut : (l : List ℕ) (at count : ℕ) → words_from_place l at count ++ drop (at + count) l ≡ drop at l
cut l at count =
    let e : drop (at + count) l ≡ drop count (drop at l) = sym (drop-drop count at l) in
    ap (λ (r : List ℕ). words_from_place l at count ++ r) e ∙ take-append-drop count (drop at l)

-- a word, and what is behind it
one : (l : List ℕ) (at : ℕ) → at < length l → slice_index l at ∷ drop (suc at) l ≡ drop at l
one [] at lt = absurd (omega (arith, lt))
one (x ∷ l) zero lt = refl
one (x ∷ l) (suc at) lt = one l at (omega (arith, lt))

low : (a b : ℕ) → a < 2 ^ 32 → from_halves a b % 2 ^ 32 ≡ a
low a b h = omega (arith, h)

high : (a b : ℕ) → a < 2 ^ 32 → from_halves a b / 2 ^ 32 ≡ b
high a b h = omega (arith, h)

pub part_length : (l : List ℕ) (at count : ℕ) → at + count ≤ length l → length (words_from_place l at count) ≡ count
part_length l at count le = let d = length-drop at l in length-take-le count (drop at l) (omega (arith, d, le))

module _ (l : List ℕ) (logged : ℕ) (long : 1080 + logged ≤ length l) where
  -- from the log on
  behind : words_from_place l 56 logged ++ (words_from_place l (56 + logged) 1024 ++ drop (1080 + logged) l) ≡ drop 56 l
  behind =
      let e : (56 + logged) + 1024 ≡ 1080 + logged = omega arith in
      ap (λ (r : List ℕ). words_from_place l 56 logged ++ r) (ap (λ n. words_from_place l (56 + logged) 1024 ++ drop n l) (sym e) ∙ cut l (56 + logged) 1024) ∙ cut l 56 logged

  -- from the sector register on
  words : ℕ → List ℕ → List ℕ
  words n r = slice_index l n ∷ r

  five : slice_index l 51 ∷ slice_index l 52 ∷ slice_index l 53 ∷ slice_index l 54 ∷ slice_index l 55 ∷ drop 56 l ≡ drop 51 l
  five =
      ap (λ (r : List ℕ). slice_index l 51 ∷ slice_index l 52 ∷ slice_index l 53 ∷ slice_index l 54 ∷ r) (one l 55 (omega (arith, long)))
      ∙ ap (λ (r : List ℕ). slice_index l 51 ∷ slice_index l 52 ∷ slice_index l 53 ∷ r) (one l 54 (omega (arith, long)))
      ∙ ap (λ (r : List ℕ). slice_index l 51 ∷ slice_index l 52 ∷ r) (one l 53 (omega (arith, long)))
      ∙ ap (λ (r : List ℕ). slice_index l 51 ∷ r) (one l 52 (omega (arith, long))) ∙ one l 51 (omega (arith, long))

  two : slice_index l 40 ∷ slice_index l 41 ∷ drop 42 l ≡ drop 40 l
  two = ap (λ (r : List ℕ). slice_index l 40 ∷ r) (one l 41 (omega (arith, long))) ∙ one l 40 (omega (arith, long))

  nine : slice_index l 0 ∷ slice_index l 1 ∷ slice_index l 2 ∷ slice_index l 3 ∷ slice_index l 4 ∷ slice_index l 5 ∷ slice_index l 6 ∷ slice_index l 7 ∷ slice_index l 8 ∷ drop 9 l ≡ l
  nine =
      ap (λ (r : List ℕ). slice_index l 0 ∷ slice_index l 1 ∷ slice_index l 2 ∷ slice_index l 3 ∷ slice_index l 4 ∷ slice_index l 5 ∷ slice_index l 6 ∷ slice_index l 7 ∷ r) (one l 8 (omega (arith, long)))
      ∙ ap (λ (r : List ℕ). slice_index l 0 ∷ slice_index l 1 ∷ slice_index l 2 ∷ slice_index l 3 ∷ slice_index l 4 ∷ slice_index l 5 ∷ slice_index l 6 ∷ r) (one l 7 (omega (arith, long)))
      ∙ ap (λ (r : List ℕ). slice_index l 0 ∷ slice_index l 1 ∷ slice_index l 2 ∷ slice_index l 3 ∷ slice_index l 4 ∷ slice_index l 5 ∷ r) (one l 6 (omega (arith, long)))
      ∙ ap (λ (r : List ℕ). slice_index l 0 ∷ slice_index l 1 ∷ slice_index l 2 ∷ slice_index l 3 ∷ slice_index l 4 ∷ r) (one l 5 (omega (arith, long)))
      ∙ ap (λ (r : List ℕ). slice_index l 0 ∷ slice_index l 1 ∷ slice_index l 2 ∷ slice_index l 3 ∷ r) (one l 4 (omega (arith, long)))
      ∙ ap (λ (r : List ℕ). slice_index l 0 ∷ slice_index l 1 ∷ slice_index l 2 ∷ r) (one l 3 (omega (arith, long)))
      ∙ ap (λ (r : List ℕ). slice_index l 0 ∷ slice_index l 1 ∷ r) (one l 2 (omega (arith, long)))
      ∙ ap (λ (r : List ℕ). slice_index l 0 ∷ r) (one l 1 (omega (arith, long))) ∙ one l 0 (omega (arith, long))

-- nine words that are those
same_nine : (a0 a1 a2 a3 a4 a5 a6 a7 a8 b0 b1 b2 b3 b4 b5 b6 b7 b8 : ℕ) (r s : List ℕ) → a0 ≡ b0 → a1 ≡ b1 → a2 ≡ b2 → a3 ≡ b3 → a4 ≡ b4 → a5 ≡ b5 → a6 ≡ b6 → a7 ≡ b7 → a8 ≡ b8 → r ≡ s →
    ◌≡◌ {A = List ℕ} (a0 ∷ a1 ∷ a2 ∷ a3 ∷ a4 ∷ a5 ∷ a6 ∷ a7 ∷ a8 ∷ r) (b0 ∷ b1 ∷ b2 ∷ b3 ∷ b4 ∷ b5 ∷ b6 ∷ b7 ∷ b8 ∷ s)
same_nine a0 a1 a2 a3 a4 a5 a6 a7 a8 b0 b1 b2 b3 b4 b5 b6 b7 b8 r s e0 e1 e2 e3 e4 e5 e6 e7 e8 e = rw (e0, e1, e2, e3, e4, e5, e6, e7, e8, e) refl

same_five : (a0 a1 a2 a3 a4 b0 b1 b2 b3 b4 : ℕ) (r : List ℕ) → a0 ≡ b0 → a1 ≡ b1 → a2 ≡ b2 → a3 ≡ b3 → a4 ≡ b4 → ◌≡◌ {A = List ℕ} (a0 ∷ a1 ∷ a2 ∷ a3 ∷ a4 ∷ r) (b0 ∷ b1 ∷ b2 ∷ b3 ∷ b4 ∷ r)
same_five a0 a1 a2 a3 a4 b0 b1 b2 b3 b4 r e0 e1 e2 e3 e4 = rw (e0, e1, e2, e3, e4) refl

-- all of them
pub words_back : (l : List ℕ) (logged frames taken count : ℕ) → 1080 + logged ≤ length l → slice_index l 0 ≡ MARK → slice_index l 1 ≡ 1 → slice_index l 2 ≡ frames → slice_index l 54 ≡ taken → slice_index l 55 ≡ count →
    slice_index l 3 < 2 ^ 32 → slice_index l 52 < 2 ^ 32 →
    (MARK ∷ 1 ∷ frames ∷ from_halves (slice_index l 3) (slice_index l 4) % 2 ^ 32 ∷ from_halves (slice_index l 3) (slice_index l 4) / 2 ^ 32 ∷ slice_index l 5 ∷ slice_index l 6 ∷ slice_index l 7 ∷ slice_index l 8
    ∷ (words_from_place l 9 31 ++ (slice_index l 40 ∷ slice_index l 41 ∷ (words_from_place l 42 9 ++ (slice_index l 51 ∷ from_halves (slice_index l 52) (slice_index l 53) % 2 ^ 32 ∷ from_halves (slice_index l 52) (slice_index l 53) / 2 ^ 32
    ∷ taken ∷ count ∷ [])))))
    ++ (words_from_place l 56 logged ++ (words_from_place l (56 + logged) 1024 ++ drop (1080 + logged) l)) ≡ l
words_back l logged frames taken count long m f n t c w3 w52 =
    let rest = words_from_place l 56 logged ++ (words_from_place l (56 + logged) 1024 ++ drop (1080 + logged) l) in
    let five_words = slice_index l 51 ∷ from_halves (slice_index l 52) (slice_index l 53) % 2 ^ 32 ∷ from_halves (slice_index l 52) (slice_index l 53) / 2 ^ 32 ∷ taken ∷ count ∷ [] in
    let last : five_words ++ rest ≡ drop 51 l =
    same_five _ _ _ _ _ (slice_index l 51) (slice_index l 52) (slice_index l 53) (slice_index l 54) (slice_index l 55) rest refl (low (slice_index l 52) (slice_index l 53) w52) (high (slice_index l 52) (slice_index l 53) w52) (sym t) (sym c)
    ∙ ap (λ (r : List ℕ). slice_index l 51 ∷ slice_index l 52 ∷ slice_index l 53 ∷ slice_index l 54 ∷ slice_index l 55 ∷ r) (behind l logged long) ∙ five l logged long in
    let special : (words_from_place l 42 9 ++ five_words) ++ rest ≡ drop 42 l = append_assoc (words_from_place l 42 9) five_words rest ∙ ap (λ (r : List ℕ). words_from_place l 42 9 ++ r) last ∙ cut l 42 9 in
    let regs : (words_from_place l 9 31 ++ (slice_index l 40 ∷ slice_index l 41 ∷ (words_from_place l 42 9 ++ five_words))) ++ rest ≡ drop 9 l =
    append_assoc (words_from_place l 9 31) (slice_index l 40 ∷ slice_index l 41 ∷ (words_from_place l 42 9 ++ five_words)) rest
    ∙ ap (λ (r : List ℕ). words_from_place l 9 31 ++ (slice_index l 40 ∷ slice_index l 41 ∷ r)) special ∙ ap (λ (r : List ℕ). words_from_place l 9 31 ++ r) (two l logged long) ∙ cut l 9 31 in
    same_nine _ _ _ _ _ _ _ _ _ _ _ _ _ _ _ _ _ _ _ _ (sym m) (sym f) (sym n) (low (slice_index l 3) (slice_index l 4) w3) (high (slice_index l 3) (slice_index l 4) w3) refl refl refl refl regs
    ∙ nine l logged long
