-- Numbers that are written read back: decimal ones, and those of 16 bits with a sign.
use Rattle.std.proofs.Common.{◌≡◌, ◌<◌, ◌≤◌, ◌-◌, ◌*◌, ◌^◌, ◌==◌, ◌&&◌, ◌||◌, not, ℕ, ℤ, pos, negsuc, neg_ℤ, Bool, true, false, cond, suc, List, [], ◌∷◌, ◌++◌, length, drop, get_or, Some, None, refl, sym, ap, ◌∙◌, inl, inr, ne_eqb, lit<, le-leb, lt-ltb, to_z, arith}
use Rattle.std.specs.Prelude.{option_map, option_and_then, nat_lt, codes}
use Rattle.std.specs.Fmt.{decimal, signed_decimal}
use Rattle.std.specs.Int.{w16}
use Rattle.std.specs.List.{list_all}
use Rattle.std.specs.Char.{is_ascii_digit}
use Rattle.std.specs.Str.Parse.{AllDigits}
use Rattle.std.proofs.Math.Facts.{to_z-neg, to_z_pos}
use Rattle.std.proofs.Math.Nat.{mod-eq_of_lt}
use Rattle.std.proofs.lemmas.Fmt.{decimal_is_IsNumeral, decimal_digit, first_decimal, length-decimal-le}
use Rattle.std.proofs.lemmas.Str.Parse.{digit_from_value}
use Rattle.std.proofs.lemmas.Bool.{and_from, cases_eq, cases_lt}
use Rattle.std.proofs.lemmas.Bool.Decides.{nat_tests}
use Rattle.mips_asm.specs.Number.{number_value, is_decimal, decimal_number, hexadecimal_number, is_name, in_name, begins_name}
use Rattle.mips_asm.specs.Operand.{adds, out, signed_operand, unsigned, register, numbered}
use Rattle.mips_asm.specs.Listing.{signed_text}
use Rattle.cvm_text.proofs.FrontsOfDigits.{both}
use Rattle.mips_asm.proofs.OperandsStayWhole.{all_imply}

digits_pass : (ds : List ℕ) → AllDigits 10 ds → list_all is_ascii_digit ds ≡ true
digits_pass [] h = refl
digits_pass (c ∷ cs) h =
    let v = digit_from_value c h.0 in
    let here : is_ascii_digit c ≡ true = grind (arith, nat_tests) in
    rw here (digits_pass cs h.1)

pub decimal_digits : (n : ℕ) → n < 2 ^ 32 → list_all is_ascii_digit (decimal n) ≡ true
decimal_digits n small = digits_pass (decimal n) (decimal_is_IsNumeral n (omega arith)).0.1

pub decimal_some : (n : ℕ) → n < 2 ^ 32 → 0 < length (decimal n)
decimal_some n small = (decimal_is_IsNumeral n (omega arith)).0.0

decimal_is_decimal : (n : ℕ) → n < 2 ^ 32 → is_decimal (decimal n) ≡ true
decimal_is_decimal n small =
    let n64 : n < 2 ^ 64 = omega arith in
    let short : length (decimal n) ≤ 10 = length-decimal-le 10 n (lit< tt) (omega arith) n64 in
    elim (cases_eq n 0) as (λ _. is_decimal (decimal n) ≡ true) [
      | inl none ↦ ap (λ k. is_decimal (decimal k)) none ∙ ap is_decimal (decimal_digit 0 (lit< tt))
      | inr some ↦
          let first : (get_or (decimal n) 0 0 == 48) ≡ false = ne_eqb (get_or (decimal n) 0 0) 48 (omega (arith, first_decimal n (omega arith) n64)) in
          and_from _ _ (and_from _ _ (and_from _ _ (lt-ltb 0 (length (decimal n)) (decimal_some n small)) (le-leb (length (decimal n)) 10 short)) (decimal_digits n small))
          (ap (λ b. not b || length (decimal n) == 1) first)
    ]

decimal_number_back : (n : ℕ) → n < 2 ^ 32 → decimal_number (decimal n) ≡ Some n
decimal_number_back n small = rw (decimal_is_decimal n small) (ap Some (decimal_is_IsNumeral n (omega arith)).1)

-- a byte that is no digit stands at no position of digits
no_sign : (c : ℕ) → is_ascii_digit c ≡ true → (c == 45) ≡ false
no_sign c h = grind (arith, nat_tests)

no_mark : (c : ℕ) → is_ascii_digit c ≡ true → (c == 120) ≡ false
no_mark c h = grind (arith, nat_tests)

no_sign_first : (ds : List ℕ) → list_all is_ascii_digit ds ≡ true → (get_or ds 0 0 == 45) ≡ false
no_sign_first [] all = refl
no_sign_first (c ∷ cs) all = no_sign c (both (is_ascii_digit c) (list_all is_ascii_digit cs) all).0

no_mark_first : (ds : List ℕ) → list_all is_ascii_digit ds ≡ true → (get_or ds 0 0 == 120) ≡ false
no_mark_first [] all = refl
no_mark_first (c ∷ cs) all = no_mark c (both (is_ascii_digit c) (list_all is_ascii_digit cs) all).0

no_mark_second : (ds : List ℕ) → list_all is_ascii_digit ds ≡ true → (get_or ds 1 0 == 120) ≡ false
no_mark_second [] all = refl
no_mark_second (c ∷ cs) all = no_mark_first cs (both (is_ascii_digit c) (list_all is_ascii_digit cs) all).1

and_no : (b : Bool) → (b && false) ≡ false
and_no true = refl
and_no false = refl

number_digits : (ds : List ℕ) → list_all is_ascii_digit ds ≡ true → number_value ds ≡ option_map pos (decimal_number ds)
number_digits ds all =
    let negative = option_map (λ n. neg_ℤ (pos n)) (decimal_number (drop 1 ds)) in
    let hexadecimal = option_map pos (hexadecimal_number (drop 2 ds)) in
    let plain = option_map pos (decimal_number ds) in
    ap (λ b. cond b negative (cond ((get_or ds 0 0 == 48) && (get_or ds 1 0 == 120)) hexadecimal plain)) (no_sign_first ds all)
    ∙ ap (λ b. cond ((get_or ds 0 0 == 48) && b) hexadecimal plain) (no_mark_second ds all)
    ∙ ap (λ b. cond b hexadecimal plain) (and_no (get_or ds 0 0 == 48))

pub number_decimal : (n : ℕ) → n < 2 ^ 32 → number_value (decimal n) ≡ Some (pos n)
number_decimal n small = number_digits (decimal n) (decimal_digits n small) ∙ ap (option_map pos) (decimal_number_back n small)

number_negative : (k : ℕ) → k < 2 ^ 31 → number_value (45 ∷ decimal (suc k)) ≡ Some (negsuc k)
number_negative k small = ap (option_map (λ n. neg_ℤ (pos n))) (decimal_number_back (suc k) (omega arith))

-- a number below a limit, in its field
pub unsigned_back : (limit position n : ℕ) → n < limit → n < 2 ^ 32 → option_map (unsigned limit position) (number_value (decimal n)) ≡ Some (adds (n * 2 ^ position))
unsigned_back limit position n small fits =
    ap (option_map (unsigned limit position)) (number_decimal n fits) ∙ ap (λ b. Some (cond b (adds (n * 2 ^ position)) (out (pos n)))) (lt-ltb n limit small)

-- a register's number
digits_back : (limit n : ℕ) → n < limit → n < 2 ^ 32 → option_and_then (λ r. cond (nat_lt r limit) (Some r) None) (decimal_number (decimal n)) ≡ Some n
digits_back limit n small fits =
    ap (option_and_then (λ r. cond (nat_lt r limit) (Some r) None)) (decimal_number_back n fits) ∙ ap (λ b. cond b (Some n) None) (lt-ltb n limit small)

pub register_back : (n : ℕ) → n < 32 → register (codes "r" ++ decimal n) ≡ Some n
register_back n small = digits_back 32 n small (omega arith)

pub special_back : (n : ℕ) → n < 9 → numbered 99 9 (codes "c" ++ decimal n) ≡ Some n
special_back n small = digits_back 9 n small (omega arith)

-- a number of 16 bits: the digits of its own bits, or `-` and digits
signed_high : (n : ℕ) → n ≤ 32767 → signed_operand (pos n) ≡ adds n
signed_high n small = ap (λ b. cond b (adds n) (out (pos n))) (le-leb n 32767 small)

signed_low : (k : ℕ) → k ≤ 32767 → signed_operand (negsuc k) ≡ adds (65536 - suc k)
signed_low k small = ap (λ b. cond (b && true) (adds (65536 - suc k)) (out (negsuc k))) (le-leb k 32767 small)

-- what is said of the text of such a number
pub record SignedBack (bits : ℕ) (text : List ℕ) : Type 0 where
  pub value : ℤ
  pub reads : number_value text ≡ Some value
  pub means : signed_operand value ≡ adds bits
  pub bytes : list_all (λ c. is_ascii_digit c || c == 45) text ≡ true
  pub no_name : is_name text ≡ false
  pub some : 0 < length text

begins_none : (c : ℕ) → is_ascii_digit c ≡ true → begins_name c ≡ false
begins_none c h = grind (arith, nat_tests)

not_begins : (ds : List ℕ) → list_all is_ascii_digit ds ≡ true → is_name ds ≡ false
not_begins [] all = refl
not_begins (c ∷ cs) all = ap (λ b. b && list_all in_name cs) (begins_none c (both (is_ascii_digit c) (list_all is_ascii_digit cs) all).0)

pub decimal_no_name : (n : ℕ) → n < 2 ^ 32 → is_name (decimal n) ≡ false
decimal_no_name n small = not_begins (decimal n) (decimal_digits n small)

or_left : (c : ℕ) → is_ascii_digit c ≡ true → (is_ascii_digit c || c == 45) ≡ true
or_left c h = ap (λ b. b || c == 45) h

back_high : (bits : ℕ) → bits < 2 ^ 15 → SignedBack bits (decimal bits)
back_high bits small = record {
  value = pos bits;
  reads = number_decimal bits (omega arith);
  means = signed_high bits (omega arith);
  bytes = all_imply is_ascii_digit (λ c. is_ascii_digit c || c == 45) or_left (decimal bits) (decimal_digits bits (omega arith));
  no_name = decimal_no_name bits (omega arith);
  some = decimal_some bits (omega arith);
}

back_low : (bits k : ℕ) → k ≤ 32767 → 65536 - suc k ≡ bits → SignedBack bits (45 ∷ decimal (suc k))
back_low bits k small is = record {
  value = negsuc k;
  reads = number_negative k (omega arith);
  means = signed_low k small ∙ ap adds is;
  bytes = all_imply is_ascii_digit (λ c. is_ascii_digit c || c == 45) or_left (decimal (suc k)) (decimal_digits (suc k) (omega arith));
  no_name = refl;
  some = omega arith;
}

pub signed_back : (bits : ℕ) → bits < 2 ^ 16 → SignedBack bits (signed_text bits)
signed_back bits small =
    elim (cases_lt bits (2 ^ 15)) as (λ _. SignedBack bits (signed_text bits)) [
      | inl low ↦
          let e : signed_text bits ≡ decimal bits = ap (λ m. signed_decimal (to_z w16 m)) (mod-eq_of_lt small) ∙ ap signed_decimal (to_z_pos w16 low) in
          rw e (back_high bits low)
      | inr high ↦
          let k = 65535 - bits in
          let is : 65536 - suc k ≡ bits = omega arith in
          let e : signed_text bits ≡ 45 ∷ decimal (suc k)
          = ap (λ m. signed_decimal (to_z w16 m)) (mod-eq_of_lt small) ∙ sym (ap (λ m. signed_decimal (to_z w16 m)) is) ∙ ap signed_decimal (to_z-neg w16 k (omega arith)) in
          rw e (back_low bits k (omega arith) is)
    ]
