-- A word and its four bytes: the number of the bytes of a word is the word, and four bytes are those of their number. Then the
-- same of words one after another.
use Rattle.std.proofs.Common.{◌≡◌, ℕ, zero, suc, ◌+◌, ◌*◌, ◌/◌, ◌%◌, ◌^◌, ◌<◌, ◌≤◌, List, [], ◌∷◌, ◌++◌, length, get_or, take, drop, refl, sym, ap, ◌∙◌, inl, inr, arith}
use Rattle.std.specs.List.{flat_map, AllByRecursion}
use Rattle.std.proofs.lemmas.Bool.{cases_lt}
use Rattle.std.proofs.lemmas.List.{take-append-drop, length-append, length-take, get_or-drop, get_or-take, get_or_past}
use Rattle.std.proofs.lemmas.Nat.{le_bytes_4}
use Rattle.byteorder.specs.Endian.{little_number, IsRead}
use Rattle.byteorder.specs.Numbers.{little_number-reads_back}
use Rattle.cvm_words.specs.Bytes.{word, words_of_bytes}

-- a list of bytes
abbrev pub IsBytes : List ℕ → Type 0
IsBytes bytes = (i : ℕ) → get_or bytes i 0 < 256

pub IsBytes-drop : (n : ℕ) (bytes : List ℕ) → IsBytes bytes → IsBytes (drop n bytes)
IsBytes-drop n bytes fits i = rw get_or-drop (fits (n + i))

pub IsBytes-take : (n : ℕ) (bytes : List ℕ) → IsBytes bytes → IsBytes (take n bytes)
IsBytes-take n bytes fits i =
    elim (cases_lt i n) [
      | inl lt ↦ rw (get_or-take n bytes i 0 lt) (fits i)
      | inr le ↦ rw (get_or_past (take n bytes) i 0 (omega (arith, length-take n bytes))) (omega arith)
    ]

pub length-word : (n : ℕ) → length (word n) ≡ 4
unfolding word
length-word n = refl

pub number-word : (n : ℕ) (rest : List ℕ) → n < 2 ^ 32 → little_number 4 (word n ++ rest) ≡ n
unfolding word
number-word n rest small = little_number-reads_back 4 n rest small

-- four bytes are those of their number
word-number : (bytes : List ℕ) → length bytes ≡ 4 → IsBytes bytes → word (little_number 4 bytes) ≡ bytes
unfolding word
word-number bytes four fits = le_bytes_4 bytes (little_number 4 bytes) four fits (omega arith)

number_small : (bytes : List ℕ) → IsBytes bytes → little_number 4 bytes < 2 ^ 32
number_small bytes fits = omega (arith, fits 0, fits 1, fits 2, fits 3)

-- bytes that begin with a word
pub record Front (bytes : List ℕ) : Type 0 where
  pub number : ℕ
  pub rest : List ℕ
  pub small : number < 2 ^ 32
  pub is : bytes ≡ word number ++ rest
  pub fits : IsBytes rest

-- four bytes or more begin with a word
pub front : (bytes : List ℕ) → IsBytes bytes → 4 ≤ length bytes → Front bytes
front bytes fits long =
    let four : length (take 4 bytes) ≡ 4 = omega (arith, length-take 4 bytes) in
    let taken : IsBytes (take 4 bytes) = IsBytes-take 4 bytes fits in
    record {
      number = little_number 4 (take 4 bytes);
      rest = drop 4 bytes;
      small = number_small (take 4 bytes) taken;
      is = sym (take-append-drop 4 bytes) ∙ ap (λ (f : List ℕ). f ++ drop 4 bytes) (sym (word-number (take 4 bytes) four taken));
      fits = IsBytes-drop 4 bytes fits;
    }

-- ---- words one after another

pub length-words : (words : List ℕ) → length (flat_map word words) ≡ 4 * length words
length-words [] = refl
length-words (w ∷ words) = omega (arith, length-append (word w) (flat_map word words), length-word w, length-words words)

words_of-word : (w : ℕ) (rest : List ℕ) → w < 2 ^ 32 → words_of_bytes (word w ++ rest) ≡ w ∷ words_of_bytes rest
unfolding words_of_bytes word
words_of-word w rest small = ap (λ (n : ℕ). n ∷ words_of_bytes rest) (little_number-reads_back 4 w [] small)

pub words_of-words : (words : List ℕ) → AllByRecursion (λ w. w < 2 ^ 32) words → words_of_bytes (flat_map word words) ≡ words
unfolding words_of_bytes
words_of-words [] fits = refl
words_of-words (w ∷ words) fits = words_of-word w (flat_map word words) fits.0 ∙ ap (λ (ws : List ℕ). w ∷ ws) (words_of-words words fits.1)

-- the words that bytes are made of
pub record Made (count : ℕ) (bytes : List ℕ) : Type 0 where
  pub words : List ℕ
  pub counted : length words ≡ count
  pub is : bytes ≡ flat_map word words
  pub small : AllByRecursion (λ w. w < 2 ^ 32) words

more_made : (count n : ℕ) (bytes rest : List ℕ) → n < 2 ^ 32 → bytes ≡ word n ++ rest → Made count rest → Made (suc count) bytes
more_made count n bytes rest small is made = record {
  words = n ∷ made.words;
  counted = ap suc made.counted;
  is = is ∙ ap (λ (r : List ℕ). word n ++ r) made.is;
  small = (small, made.small);
}

-- four times so many bytes are made of so many words
pub made : (count : ℕ) (bytes : List ℕ) → IsBytes bytes → length bytes ≡ 4 * count → Made count bytes
made zero [] fits even = record { words = []; counted = refl; is = refl; small = tt }
made zero (b ∷ bytes) fits even = absurd (omega arith)
made (suc count) bytes fits even =
    let f : Front bytes = front bytes fits (omega arith) in
    let left : length f.rest ≡ 4 * count = omega (arith, ap length f.is, length-append (word f.number) f.rest, length-word f.number) in
    more_made count f.number bytes f.rest f.small f.is (made count f.rest f.fits left)

four_more : (k : ℕ) → 4 * suc k ≡ suc (suc (suc (suc (4 * k))))
four_more k = omega arith

-- numbers that were read place by place are the words
pub read_words : (words bytes : List ℕ) → length bytes ≡ 4 * length words → IsRead little_number 4 bytes words → words ≡ words_of_bytes bytes
unfolding words_of_bytes
read_words [] [] even is = refl
read_words [] (a ∷ bytes) even is = absurd (omega arith)
read_words (w ∷ words) [] even is = absurd (omega arith)
read_words (w ∷ words) (a ∷ []) even is = absurd (omega arith)
read_words (w ∷ words) (a ∷ b ∷ []) even is = absurd (omega arith)
read_words (w ∷ words) (a ∷ b ∷ c ∷ []) even is = absurd (omega arith)
read_words (w ∷ words) (a ∷ b ∷ c ∷ d ∷ bytes) even is =
    let first : w ≡ little_number 4 (a ∷ b ∷ c ∷ d ∷ []) = is 0 (omega arith) in
    let others : IsRead little_number 4 bytes words = λ k lt. is (suc k) (omega arith) ∙ ap (λ (n : ℕ). little_number 4 (drop n (a ∷ b ∷ c ∷ d ∷ bytes))) (four_more k) in
    let rest : words ≡ words_of_bytes bytes = read_words words bytes (omega arith) others in
    cc

-- the words of bytes have these bytes
pub words_spelled : (bytes words : List ℕ) → IsBytes bytes → length bytes % 4 ≡ 0 → words ≡ words_of_bytes bytes → flat_map word words ≡ bytes
words_spelled bytes words fits even is =
    let m = made (length bytes / 4) bytes fits (omega arith) in
    ap (λ (w : List ℕ). flat_map word w) (is ∙ ap words_of_bytes m.is ∙ words_of-words m.words m.small) ∙ sym m.is
