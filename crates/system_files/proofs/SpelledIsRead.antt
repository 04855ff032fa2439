-- A text that spells parameters in their ranges is read as these.
use Rattle.std.proofs.Common.{◌≡◌, ℕ, ◌<◌, ◌≤◌, ◌^◌, ◌==◌, ◌&&◌, ◌||◌, ◌⊎◌, inl, inr, Bool, true, false, cond, nat_lt, List, [], ◌∷◌, ◌++◌, All, length, take, drop, Some, None, Result, Ok, Err, refl, ap, ◌∙◌, append-nil, rules, arith}
use Rattle.std.specs.Prelude.{codes, decimal}
use Rattle.std.specs.Str.{bytes_eq}
use Rattle.std.specs.List.{slice_split, list_all}
use Rattle.std.specs.Char.{is_ascii_digit}
use Rattle.std.specs.Str.Parse.{digits_value}
use Rattle.std.proofs.lemmas.Bool.Decides.{nat_tests}
use Rattle.std.proofs.lemmas.Fmt.{digits_decimal}
use Rattle.std.proofs.lemmas.List.{take_at, drop_at}
use Rattle.std.proofs.lemmas.List.Elements.{All-nil, All-cons}
use Rattle.std.proofs.lemmas.List.Splits.{slice_split_at, slice_split_none}
use Rattle.std.proofs.lemmas.Slice.Eq.{bytes_eq-Decides}
use Rattle.std.proofs.lemmas.Str.Parse.{IsNumeralModel, numerals_by_value}
use Rattle.cvm_text.specs.Lines.{without_empty_end, lines_of, number_spelled}
use Rattle.layer_map.specs.declared.params.Params.{Params}
use Rattle.system_files.specs.declared.fault.FileFault.{FileFault}
use Rattle.system_files.specs.declared.fault.FileFault.TheVariants.{Parameter}
use Rattle.cvm_words.specs.Reading.{◌>>=◌}
use Rattle.system_files.specs.Params.{number_in, number_on_line, next_number, numbers_of, ranged, params_in, params_of, AreInRange, Spells, spelling}
use Rattle.system_files.proofs.ReadIsSpelled.{lines_for}

-- no LF among characters
abbrev Plain : List ℕ → Type 0
Plain text = All (λ c. (c == 10) ≡ false) text

digits_plain : (digits : List ℕ) → list_all is_ascii_digit digits ≡ true → Plain digits
digits_plain [] all = All-nil (λ c. (c == 10) ≡ false)
digits_plain (d ∷ digits) all =
    All-cons (λ c. (c == 10) ≡ false) d digits (first d (list_all is_ascii_digit digits) all) (digits_plain digits (others (is_ascii_digit d) (list_all is_ascii_digit digits) all))
  where
    first : (d : ℕ) (more : Bool) → (is_ascii_digit d && more) ≡ true → (d == 10) ≡ false
    first d more h = grind (arith, nat_tests)

    others : (here more : Bool) → (here && more) ≡ true → more ≡ true
    others true more h = h
    others false more h = cc

own : IsNumeralModel (λ ds. list_all is_ascii_digit ds ≡ true) (digits_value 10)
own = numerals_by_value _ (search rules)

plain_number : (n : ℕ) → n < 2 ^ 64 → Plain (decimal n)
plain_number n small = digits_plain (decimal n) (digits_decimal own n small)

behind : (first rest : List ℕ) → list_all (λ c. nat_lt 31 c) first ≡ true → Plain rest → Plain (first ++ rest)
behind [] rest all plain = plain
behind (c ∷ first) rest all plain = All-cons (λ x. (x == 10) ≡ false) c (first ++ rest) (here c (list_all (λ x. nat_lt 31 x) first) all) (behind first rest (others (nat_lt 31 c) (list_all (λ x. nat_lt 31 x) first) all) plain)
  where
    here : (c : ℕ) (more : Bool) → (nat_lt 31 c && more) ≡ true → (c == 10) ≡ false
    here c more h = grind (arith, nat_tests)

    others : (here more : Bool) → (here && more) ≡ true → more ≡ true
    others true more h = h
    others false more h = cc

-- parameters of 64 bits each, in their ranges or not
pub record Small (p : Params) : Type 0 where
  pub pages : p.pages < 2 ^ 64
  pub frames : p.frames < 2 ^ 64
  pub heap : p.heap < 2 ^ 64
  pub stack : p.stack < 2 ^ 64

small_of : (p : Params) → AreInRange p → Small p
small_of p r = record { pages = omega (arith, r.most_pages); frames = omega (arith, r.most_frames); heap = omega (arith, r.most_heap); stack = omega (arith, r.most_stack) }

module _ (law : (n : ℕ) → n < 2 ^ 64 → number_spelled (decimal n) ≡ Some n) where
  -- the number of a line
  pub line_read : (beginning : List ℕ) (n : ℕ) → n < 2 ^ 64 → number_in beginning (beginning ++ decimal n) ≡ Some n
  unfolding number_in
  line_read beginning n small =
      ap (λ b. cond b (number_spelled (drop (length beginning) (beginning ++ decimal n))) None) (same (take (length beginning) (beginning ++ decimal n)) beginning (take_at beginning (decimal n) (length beginning) refl))
      ∙ ap number_spelled (drop_at beginning (decimal n) (length beginning) refl) ∙ law n small
    where
      same : (xs ys : List ℕ) → xs ≡ ys → bytes_eq xs ys ≡ true
      same xs ys e = (bytes_eq-Decides xs ys).1 e

  pub next_read : (line : ℕ) (beginning : List ℕ) (n : ℕ) (rest : List (List ℕ)) → n < 2 ^ 64 → next_number line beginning ((beginning ++ decimal n) ∷ rest) ≡ Ok (n, rest)
  next_read line beginning n rest small = ap (number_on_line line rest) (line_read beginning n small)

  pub numbers_read : (p : Params) → Small p → numbers_of (lines_for p) ≡ Ok (record { pages = p.pages; frames = p.frames; heap = p.heap; stack = p.stack })
  unfolding numbers_of
  numbers_read p r =
      let l4 : List (List ℕ) = (codes "stack " ++ decimal p.stack) ∷ [] in
      let l3 : List (List ℕ) = (codes "heap " ++ decimal p.heap) ∷ l4 in
      let l2 : List (List ℕ) = (codes "frames " ++ decimal p.frames) ∷ l3 in
      bind _ _ (next_read 1 (codes "pages ") p.pages l2 r.pages)
      ∙ bind _ _ (next_read 2 (codes "frames ") p.frames l3 r.frames)
      ∙ bind _ _ (next_read 3 (codes "heap ") p.heap l4 r.heap)
      ∙ bind _ _ (next_read 4 (codes "stack ") p.stack [] r.stack)
    where
      bind : {A B : Type 0} {r : Result A FileFault} (f : A → Result B FileFault) (x : A) → r ≡ Ok x → r >>= f ≡ f x
      bind f x e = ap (λ s. s >>= f) e

  pub ranged_read : (which least most value : ℕ) → least ≤ value → value ≤ most → ranged which least most value ≡ Ok value
  unfolding ranged
  ranged_read which least most value low high = ap (λ b. cond b (Err (Parameter which value)) (Ok value)) (in_range value low high)
    where
      in_range : (value : ℕ) → least ≤ value → value ≤ most → (nat_lt value least || nat_lt most value) ≡ false
      in_range value low high = grind (arith, nat_tests)

  params_read : (p : Params) → AreInRange p → params_in (record { pages = p.pages; frames = p.frames; heap = p.heap; stack = p.stack }) ≡ Ok p
  unfolding params_in
  params_read p r =
      bind _ _ (ranged_read 1 1 1024 p.pages r.least_pages r.most_pages)
      ∙ bind _ _ (ranged_read 2 2 16384 p.frames r.least_frames r.most_frames)
      ∙ bind _ _ (ranged_read 3 0 1048576 p.heap (omega arith) r.most_heap)
      ∙ bind _ _ (ranged_read 4 64 262144 p.stack r.least_stack r.most_stack)
    where
      bind : {A B : Type 0} {r : Result A FileFault} (f : A → Result B FileFault) (x : A) → r ≡ Ok x → r >>= f ≡ f x
      bind f x e = ap (λ s. s >>= f) e

  -- four plain lines of which the last has an LF or none
  split : (a b c d : List ℕ) → Plain a → Plain b → Plain c → Plain d → (0 < length d) → (last : List ℕ) → (last ≡ []) ⊎ (last ≡ 10 ∷ []) → lines_of (a ++ 10 ∷ (b ++ 10 ∷ (c ++ 10 ∷ (d ++ last)))) ≡ a ∷ b ∷ c ∷ d ∷ []
  split a b c d pa pb pc pd some last e =
      ap without_empty_end (slice_split_at is_end a 10 (b ++ 10 ∷ (c ++ 10 ∷ (d ++ last))) pa refl ∙ ap (λ ls. a ∷ ls) (slice_split_at is_end b 10 (c ++ 10 ∷ (d ++ last)) pb refl ∙ ap (λ ls. b ∷ ls) (slice_split_at is_end c 10 (d ++ last) pc refl)))
      ∙ by_end last e
    where
      is_end : ℕ → Bool
      is_end c = c == 10

      not_empty : (part : List ℕ) → 0 < length part → cond (length part == 0) [] (part ∷ []) ≡ part ∷ []
      not_empty part some = grind (arith, nat_tests)

      by_end : (last : List ℕ) → (last ≡ []) ⊎ (last ≡ 10 ∷ []) → without_empty_end (a ∷ b ∷ c ∷ slice_split (λ c. c == 10) (d ++ last)) ≡ a ∷ b ∷ c ∷ d ∷ []
      by_end last (inl e) = ap (λ x. without_empty_end (a ∷ b ∷ c ∷ x)) (ap (λ l. slice_split (λ c. c == 10) (d ++ l)) e ∙ ap (slice_split (λ c. c == 10)) (append-nil d) ∙ slice_split_none (λ c. c == 10) d pd) ∙ ap (λ x. a ∷ b ∷ c ∷ x) (not_empty d some)
      by_end last (inr e) = ap (λ x. without_empty_end (a ∷ b ∷ c ∷ x)) (ap (λ l. slice_split (λ c. c == 10) (d ++ l)) e ∙ slice_split_at (λ c. c == 10) d 10 [] pd refl)

  pub lines_read : (p : Params) → Small p → (last : List ℕ) → (last ≡ []) ⊎ (last ≡ 10 ∷ []) → lines_of (spelling p last) ≡ lines_for p
  lines_read p r last e =
      split (codes "pages " ++ decimal p.pages) (codes "frames " ++ decimal p.frames) (codes "heap " ++ decimal p.heap) (codes "stack " ++ decimal p.stack)
      (behind (codes "pages ") (decimal p.pages) refl (plain_number p.pages r.pages))
      (behind (codes "frames ") (decimal p.frames) refl (plain_number p.frames r.frames))
      (behind (codes "heap ") (decimal p.heap) refl (plain_number p.heap r.heap))
      (behind (codes "stack ") (decimal p.stack) refl (plain_number p.stack r.stack))
      (omega arith) last e

  text_read : (p : Params) → AreInRange p → (last : List ℕ) → (last ≡ []) ⊎ (last ≡ 10 ∷ []) → params_of (spelling p last) ≡ Ok p
  text_read p r last e = ap (λ ls. numbers_of ls >>= params_in) (lines_read p (small_of p r) last e) ∙ ap (λ n. n >>= params_in) (numbers_read p (small_of p r)) ∙ params_read p r

  pub read : (text : List ℕ) (p : Params) → Spells text p → AreInRange p → params_of text ≡ Ok p
  read text p (inl e) r = ap params_of e ∙ text_read p r [] (inl refl)
  read text p (inr e) r = ap params_of e ∙ text_read p r (10 ∷ []) (inr refl)
