-- Words of the flat memories by one number: word z is word z % 1024 of page z / 1024, and page p of user u is page (u - 1) * Q + p.
use Rattle.std.specs.Prelude.{ℕ, zero, suc, ◌+◌, ◌-◌, ◌*◌, ◌/◌, ◌%◌, ◌≤◌, ◌⊎◌, true, false, nat_eq, nat_lt, if◌then◌else◌}
use Rattle.page_model.specs.Paging.{Pages}

abbrev pub word_of_pages : Pages → ℕ → ℕ
word_of_pages v z = v.word (z / 1024) (z % 1024)

-- k words from y on become those from x on
abbrev pub copied : Pages → ℕ → ℕ → ℕ → Pages
copied v x y k = record {
  live = v.live;
  word = λ q i. if nat_lt (1024 * q + i) y then v.word q i else
      if nat_lt (1024 * q + i) (y + k) then word_of_pages v (x + (1024 * q + i - y)) else
      v.word q i;
}

-- the ranges share no word
abbrev pub Apart : ℕ → ℕ → ℕ → Type 0
Apart x y n = (x + n ≤ y) ⊎ (y + n ≤ x)

-- 1 where a piece begins at word j of a copy from x to y: a longest run of words with one source page and one target page
abbrev pub begins_piece : ℕ → ℕ → ℕ → ℕ
begins_piece x y j = if nat_eq j 0 then 1 else if nat_eq ((x + j) % 1024) 0 then 1 else if nat_eq ((y + j) % 1024) 0 then 1 else 0

-- the number of pieces
abbrev pub piece_count : ℕ → ℕ → ℕ → ℕ
piece_count x y zero = 0
piece_count x y (suc n) = piece_count x y n + begins_piece x y n

abbrev pub least : ℕ → ℕ → ℕ
least a b = if nat_lt a b then a else b

-- the length of the first piece of n words
abbrev pub piece : ℕ → ℕ → ℕ → ℕ
piece x y n = least (1024 - y % 1024) (least (1024 - x % 1024) n)

-- what is left of a copy's steps when m of n words are copied; u is what a page is worth
abbrev pub copy_cost : ℕ → ℕ → ℕ → ℕ → ℕ → ℕ
copy_cost u x y n m = 3 * u * piece_count (x + m) (y + m) (n - m) + 600 * (n - m)

-- word z becomes x
abbrev pub with_page_word : Pages → ℕ → ℕ → Pages
with_page_word v z x = record { live = v.live; word = λ q i. if nat_eq (1024 * q + i) z then x else v.word q i }

-- k pages from page q on are cut off
abbrev pub pages_cut : Pages → ℕ → ℕ → Pages
pages_cut v q k = record { live = λ x. if nat_lt x q then v.live x else if nat_lt x (q + k) then false else v.live x; word = v.word }

-- k pages of zeros from page q on are added
abbrev pub grown : Pages → ℕ → ℕ → Pages
grown v q k = record {
  live = λ x. if nat_lt x q then v.live x else if nat_lt x (q + k) then true else v.live x;
  word = λ x i. if nat_lt x q then v.word x i else if nat_lt x (q + k) then 0 else v.word x i;
}

-- the pages of a user, from page base on, become new in place of old
abbrev pub pages_after_resize : Pages → ℕ → ℕ → ℕ → Pages
pages_after_resize v base old new = if nat_lt new old then pages_cut v (base + new) (old - new) else grown v (base + old) (new - old)
