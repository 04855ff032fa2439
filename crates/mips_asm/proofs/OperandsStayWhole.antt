-- Bytes of written operands. None is a blank, a comma, a colon or `#`, so cutting and trimming leave an operand's text whole.
use Rattle.std.proofs.Common.{◌≡◌, ◌<◌, ◌+◌, ◌-◌, ◌==◌, ◌&&◌, not, ℕ, Bool, true, false, cond, List, [], ◌∷◌, ◌++◌, length, take, drop, get_or, refl, ap, ◌∙◌, take_all, arith}
use Rattle.std.specs.Prelude.{nat_le}
use Rattle.std.specs.List.{list_all, prefix_len, suffix_len}
use Rattle.std.specs.Char.{is_ascii_digit, is_ascii_whitespace}
use Rattle.std.proofs.lemmas.Bool.{and_from}
use Rattle.std.proofs.lemmas.Bool.Decides.{nat_tests}
use Rattle.std.proofs.lemmas.List.Folds.{list_all-append, prefix_len-append}
use Rattle.std.proofs.lemmas.List.Sums.{suffix_len_is}
use Rattle.mips_asm.specs.Text.{trim, trim_end}
use Rattle.mips_asm.proofs.NumbersReadBack.{all_at}
use Rattle.cvm_text.proofs.FrontsOfDigits.{both, prefix_len_all}

-- a byte from `(` to `z` other than a comma and a colon
abbrev pub token : ℕ → Bool
token c = nat_le 40 c && nat_le c 122 && not (c == 44) && not (c == 58)

pub all_imply : (p q : ℕ → Bool) → ((c : ℕ) → p c ≡ true → q c ≡ true) → (xs : List ℕ) → list_all p xs ≡ true → list_all q xs ≡ true
all_imply p q h [] all = refl
all_imply p q h (x ∷ xs) all =
    let b = both (p x) (list_all p xs) all in
    and_from (q x) (list_all q xs) (h x b.0) (all_imply p q h xs b.1)

pub all_append : (p : ℕ → Bool) (xs ys : List ℕ) → list_all p xs ≡ true → list_all p ys ≡ true → list_all p (xs ++ ys) ≡ true
all_append p xs ys a b = list_all-append p xs ys ∙ and_from (list_all p xs) (list_all p ys) a b

-- a front that passes, before what begins with an element that doesn't
pub front_len : (p : ℕ → Bool) (xs ys : List ℕ) → list_all p xs ≡ true → prefix_len p ys ≡ 0 → prefix_len p (xs ++ ys) ≡ length xs
front_len p xs ys all stops =
    let whole = prefix_len_all p xs all in
    let e = prefix_len-append p xs ys in
    grind (arith, nat_tests, e, whole, stops)

pub digit_token : (c : ℕ) → is_ascii_digit c ≡ true → token c ≡ true
digit_token c h = grind (arith, nat_tests)

pub not_blank : (c : ℕ) → token c ≡ true → is_ascii_whitespace c ≡ false
not_blank c h = grind (arith, nat_tests)

no_blank_first : (xs : List ℕ) → list_all token xs ≡ true → prefix_len is_ascii_whitespace xs ≡ 0
no_blank_first [] all = refl
no_blank_first (x ∷ xs) all = ap (λ b. cond b (1 + prefix_len is_ascii_whitespace xs) 0) (not_blank x (both (token x) (list_all token xs) all).0)

no_blank_last : (xs : List ℕ) → list_all token xs ≡ true → suffix_len is_ascii_whitespace xs ≡ 0
no_blank_last xs all =
    let last : 0 < length xs → is_ascii_whitespace (get_or xs (length xs - 1) 0) ≡ false =
    λ some. not_blank (get_or xs (length xs - 1) 0) (all_at token xs (length xs - 1) 0 all (omega arith)) in
    suffix_len_is is_ascii_whitespace xs (length xs) 0 (omega arith) (λ k a b. absurd (omega arith)) last ∙ omega arith

trim_end_token : (xs : List ℕ) → list_all token xs ≡ true → trim_end xs ≡ xs
trim_end_token xs all = ap (λ n. take (length xs - n) xs) (no_blank_last xs all) ∙ take_all (length xs - 0) xs (omega arith)

pub trim_token : (xs : List ℕ) → list_all token xs ≡ true → trim xs ≡ xs
trim_token xs all = ap (λ n. trim_end (drop n xs)) (no_blank_first xs all) ∙ trim_end_token xs all

pub trim_blank : (xs : List ℕ) → list_all token xs ≡ true → trim (32 ∷ xs) ≡ xs
trim_blank xs all = ap (λ n. trim_end (drop (1 + n) (32 ∷ xs))) (no_blank_first xs all) ∙ trim_end_token xs all
