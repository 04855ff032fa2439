-- Each operand that is written reads back, and lists of operands are cut where they were joined.
use Rattle.std.proofs.Common.{◌≡◌, ◌<◌, ◌+◌, ◌-◌, ◌*◌, ◌^◌, ◌==◌, ◌&&◌, ◌||◌, not, ℕ, Bool, true, false, cond, suc, List, [], ◌∷◌, ◌++◌, length, take, drop, get_or, map, Some, None, refl, sym, ap, ◌∙◌, All, append_assoc, length-append, le-leb, arith}
use Rattle.std.specs.Prelude.{option_map, option_and_then, codes, nat_le}
use Rattle.std.specs.Fmt.{decimal}
use Rattle.std.specs.List.{list_all, slice_split, slice_range}
use Rattle.std.specs.Char.{is_ascii_digit, is_ascii_whitespace}
use Rattle.std.proofs.Math.Nat.{mod-eq_of_lt}
use Rattle.std.proofs.Math.Seq.{take-append_seam, drop-append_seam, get_or-append_seam}
use Rattle.std.proofs.lemmas.Bool.Decides.{nat_tests}
use Rattle.std.proofs.lemmas.List.Splits.{slice_split_at, slice_split_none}
use Rattle.mips_asm.specs.declared.form.Operand.{Operand}
use Rattle.mips_asm.specs.declared.form.Operand.TheVariants.{Register, Special, Amount, Code, Signed, Unsigned, Branch, Jump, Memory}
use Rattle.mips_asm.specs.declared.form.Field.{Field}
use Rattle.mips_asm.specs.declared.listing.Written.{Written}
use Rattle.mips_asm.specs.declared.listing.Written.TheVariants as w
use Rattle.mips_asm.specs.Number.{number_value}
use Rattle.mips_asm.specs.Text.{trim}
use Rattle.mips_asm.specs.Operand.{adds, branch_label, jump_label, signed_operand, unsigned, and_register, register, with_base, len_before, in_parentheses, memory, first_bit, reading}
use Rattle.mips_asm.specs.Line.{word, with_reading, with_operands, operand_texts, word_meaning}
use Rattle.mips_asm.specs.Listing.{operand_text, listed_operands, signed_text}
use Rattle.mips_asm.proofs.OperandsStayWhole.{token, all_imply, all_append, front_len, digit_token, not_blank, trim_token, trim_blank}
use Rattle.mips_asm.proofs.NumbersBack.{signed_back, unsigned_back, register_back, special_back, decimal_digits, decimal_some, decimal_no_name}
use Rattle.cvm_text.proofs.FrontsOfDigits.{both}
use Rattle.std.proofs.lemmas.List.Folds.{list_all-append}
use Rattle.mips_asm.proofs.NumbersReadBack.{all_at}

-- the text of a number with a sign
sign_token : (c : ℕ) → (is_ascii_digit c || c == 45) ≡ true → token c ≡ true
sign_token c h = grind (arith, nat_tests)

sign_no_parenthesis : (c : ℕ) → (is_ascii_digit c || c == 45) ≡ true → not (c == 40) ≡ true
sign_no_parenthesis c h = grind (arith, nat_tests)

signed_token : (bits : ℕ) → bits < 2 ^ 16 → list_all token (signed_text bits) ≡ true
signed_token bits small = all_imply (λ c. is_ascii_digit c || c == 45) token sign_token (signed_text bits) (signed_back bits small).bytes

decimal_token : (n : ℕ) → n < 2 ^ 32 → list_all token (decimal n) ≡ true
decimal_token n small = all_imply is_ascii_digit token digit_token (decimal n) (decimal_digits n small)

-- the numbers of an operand are in their ranges
abbrev pub Small : Written → Type 0
Small (w.Register n) = n < 32
Small (w.Special n) = n < 9
Small (w.Number n) = n < 2 ^ 32
Small (w.Signed bits) = bits < 2 ^ 16
Small (w.Address bits base) = (bits < 2 ^ 16) × (base < 32)

pub written_token : (o : Written) → Small o → list_all token (operand_text o) ≡ true
written_token (w.Register n) small = decimal_token n (omega arith)
written_token (w.Special n) small = decimal_token n (omega arith)
written_token (w.Number n) small = decimal_token n small
written_token (w.Signed bits) small = signed_token bits small
written_token (w.Address bits base) small =
    all_append token ((signed_text bits ++ codes "(r") ++ decimal base) (codes ")")
    (all_append token (signed_text bits ++ codes "(r") (decimal base) (all_append token (signed_text bits) (codes "(r") (signed_token bits small.0) refl) (decimal_token base (omega arith)))
    refl

-- a text in parentheses
inside_back : (r : List ℕ) → in_parentheses (40 ∷ (r ++ (41 ∷ []))) ≡ Some r
inside_back r =
    let text = 40 ∷ (r ++ (41 ∷ [])) in
    let len : length (r ++ (41 ∷ [])) ≡ length r + 1 = length-append r (41 ∷ []) in
    let long : nat_le 2 (length text) ≡ true = le-leb 2 (length text) (omega (arith, len)) in
    let last : get_or text (length text - 1) 0 ≡ 41
    = ap (λ n. get_or text n 0) (at_last len) ∙ get_or-append_seam r 41 [] 0 in
    let whole : slice_range text 1 (length text - 1) ≡ r = ap (λ n. take n (r ++ (41 ∷ []))) (count len) ∙ take-append_seam r (41 ∷ []) in
    ap (λ b. cond (b && get_or text (length text - 1) 0 == 41) (Some (slice_range text 1 (length text - 1))) None) long
    ∙ ap (λ c. cond (c == 41) (Some (slice_range text 1 (length text - 1))) None) last ∙ ap Some whole
  where
    at_last : length (r ++ (41 ∷ [])) ≡ length r + 1 → length (40 ∷ (r ++ (41 ∷ []))) - 1 ≡ suc (length r)
    at_last len = omega (arith, len)

    count : length (r ++ (41 ∷ [])) ≡ length r + 1 → length (40 ∷ (r ++ (41 ∷ []))) - 1 - 1 ≡ length r
    count len = omega (arith, len)

-- a number and a register in parentheses
address_is : (s d : List ℕ) → ((s ++ codes "(r") ++ d) ++ codes ")" ≡ s ++ (40 ∷ ((114 ∷ d) ++ (41 ∷ [])))
address_is s d = append_assoc (s ++ codes "(r") d (codes ")") ∙ append_assoc s (codes "(r") (d ++ codes ")")

memory_of_parts : (s r : List ℕ) → list_all token s ≡ true → list_all (λ c. not (c == 40)) s ≡ true → list_all token r ≡ true
    → memory (s ++ (40 ∷ (r ++ (41 ∷ [])))) ≡ with_base (number_value s) (register r)
memory_of_parts s r tokens plain rest =
    let tail = 40 ∷ (r ++ (41 ∷ [])) in
    let text = s ++ tail in
    let len : len_before 40 text ≡ length s = front_len (λ c. not (c == 40)) s tail plain refl in
    ap (λ n. with_base (number_value (trim (take n text))) (option_and_then (λ t. register (trim t)) (in_parentheses (drop n text)))) len
    ∙ ap (λ t. with_base (number_value (trim t)) (option_and_then (λ u. register (trim u)) (in_parentheses (drop (length s) text)))) (take-append_seam s tail)
    ∙ ap (λ t. with_base (number_value t) (option_and_then (λ u. register (trim u)) (in_parentheses (drop (length s) text)))) (trim_token s tokens)
    ∙ ap (λ t. with_base (number_value s) (option_and_then (λ u. register (trim u)) (in_parentheses t))) (drop-append_seam s tail)
    ∙ ap (λ o. with_base (number_value s) (option_and_then (λ u. register (trim u)) o)) (inside_back r)
    ∙ ap (λ t. with_base (number_value s) (register t)) (trim_token r rest)

-- the operands read back
pub register_reads : (field : Field) (n : ℕ) → n < 32 → reading (Register field) (operand_text (w.Register n)) ≡ Some (adds (n * 2 ^ first_bit field))
register_reads field n small = ap (option_map (λ r. adds (r * 2 ^ first_bit field))) (register_back n small)

pub special_reads : (n : ℕ) → n < 9 → reading Special (operand_text (w.Special n)) ≡ Some (adds (n * 2 ^ 11))
special_reads n small = ap (option_map (λ k. adds (k * 2 ^ 11))) (special_back n small)

pub amount_reads : (n : ℕ) → n < 32 → reading Amount (operand_text (w.Number n)) ≡ Some (adds (n * 2 ^ 6))
amount_reads n small = unsigned_back 32 6 n small (omega arith)

pub code_reads : (n : ℕ) → n < 2 ^ 20 → reading Code (operand_text (w.Number n)) ≡ Some (adds (n * 2 ^ 6))
code_reads n small = unsigned_back (2 ^ 20) 6 n small (omega arith)

pub unsigned_reads : (n : ℕ) → n < 2 ^ 16 → reading Unsigned (operand_text (w.Number n)) ≡ Some (adds (n * 2 ^ 0))
unsigned_reads n small = unsigned_back (2 ^ 16) 0 n small (omega arith)

pub jump_reads : (n : ℕ) → n < 2 ^ 26 → reading Jump (operand_text (w.Number n)) ≡ Some (adds (n * 2 ^ 0))
jump_reads n small =
    ap (λ b. cond b (Some (jump_label (decimal n))) (option_map (unsigned (2 ^ 26) 0) (number_value (decimal n)))) (decimal_no_name n (omega arith))
    ∙ unsigned_back (2 ^ 26) 0 n small (omega arith)

pub signed_reads : (bits : ℕ) → bits < 2 ^ 16 → reading Signed (operand_text (w.Signed bits)) ≡ Some (adds bits)
signed_reads bits small = let b = signed_back bits small in ap (option_map signed_operand) b.reads ∙ ap Some b.means

pub branch_reads : (bits : ℕ) → bits < 2 ^ 16 → reading Branch (operand_text (w.Signed bits)) ≡ Some (adds bits)
branch_reads bits small =
    let b = signed_back bits small in
    ap (λ n. cond n (Some (branch_label (signed_text bits))) (option_map signed_operand (number_value (signed_text bits)))) b.no_name
    ∙ ap (option_map signed_operand) b.reads ∙ ap Some b.means

pub memory_reads : (bits base : ℕ) → bits < 2 ^ 16 → base < 32 → reading Memory (operand_text (w.Address bits base)) ≡ Some (adds (bits + base * 2 ^ 21))
memory_reads bits base small below =
    let b = signed_back bits small in
    let s = signed_text bits in
    let r = 114 ∷ decimal base in
    ap memory (address_is s (decimal base))
    ∙ memory_of_parts s r (signed_token bits small) (all_imply (λ c. is_ascii_digit c || c == 45) (λ c. not (c == 40)) sign_no_parenthesis s b.bytes)
    (decimal_token base (omega arith))
    ∙ ap (λ z. with_base z (register r)) b.reads ∙ ap (with_base (Some b.value)) (register_back base below)
    ∙ ap (λ m. Some (and_register base m)) b.means

-- operands of these kinds are read from what was written, and add this to the word
abbrev pub Reads : List Operand → List Written → ℕ → Type 0
Reads [] [] n = n ≡ 0
Reads [] (o ∷ os) n = ⊥
Reads (k ∷ ks) [] n = ⊥
Reads (k ∷ ks) (o ∷ os) n = (a : ℕ) × (b : ℕ) × Small o × (reading k (operand_text o) ≡ Some (adds a)) × Reads ks os b × (n ≡ a + b)

pub operands_back : (v : ℕ) (ks : List Operand) (os : List Written) (n : ℕ) → Reads ks os n → v + n < 2 ^ 32
    → with_operands (word v) ks (map (λ o. 32 ∷ operand_text o) os) ≡ word (v + n)
operands_back v [] [] n none fits = ap word (omega (arith, none))
operands_back v [] (o ∷ os) n none fits = absurd none
operands_back v (k ∷ ks) [] n none fits = absurd none
operands_back v (k ∷ ks) (o ∷ os) n (a, b, small, reads, more, is) fits =
    let texts = map (λ o. 32 ∷ operand_text o) os in
    ap (λ t. with_operands (with_reading (word v) (reading k t)) ks texts) (trim_blank (operand_text o) (written_token o small))
    ∙ ap (λ r. with_operands (with_reading (word v) r) ks texts) reads
    ∙ ap (λ u. with_operands (word u) ks texts) (mod-eq_of_lt (below v a b n is fits))
    ∙ operands_back (v + a) ks os b more (next v a b n is fits) ∙ ap word (total v a b n is)
  where
    below : (v a b n : ℕ) → n ≡ a + b → v + n < 2 ^ 32 → v + a < 2 ^ 32
    below v a b n is fits = omega (arith, is, fits)

    next : (v a b n : ℕ) → n ≡ a + b → v + n < 2 ^ 32 → v + a + b < 2 ^ 32
    next v a b n is fits = omega (arith, is, fits)

    total : (v a b n : ℕ) → n ≡ a + b → v + a + b ≡ v + n
    total v a b n is = omega (arith, is)

-- a byte that stands nowhere in a text
pub none_at : (x : ℕ) (xs : List ℕ) → list_all (λ c. not (c == x)) xs ≡ true → All (λ c. (c == x) ≡ false) xs
none_at x xs all = λ k d inside. not_true (get_or xs k d == x) (all_at (λ c. not (c == x)) xs k d all inside)
  where
    not_true : (b : Bool) → not b ≡ true → b ≡ false
    not_true true h = sym h
    not_true false h = refl

-- a list of operands is cut into its texts
no_comma : (c : ℕ) → token c ≡ true → not (c == 44) ≡ true
no_comma c h = grind (arith, nat_tests)

all_no_comma : (o : Written) → Small o → All (λ c. (c == 44) ≡ false) (32 ∷ operand_text o)
all_no_comma o small = none_at 44 (32 ∷ operand_text o) (all_imply token (λ c. not (c == 44)) no_comma (operand_text o) (written_token o small))

abbrev pub AllSmall : List Written → Type 0
AllSmall [] = Unit {0}
AllSmall (o ∷ os) = Small o × AllSmall os

pub listed_parts : (o : Written) (os : List Written) → Small o → AllSmall os
    → slice_split (λ c. c == 44) (listed_operands (codes " ") (o ∷ os)) ≡ map (λ o. 32 ∷ operand_text o) (o ∷ os)
listed_parts o [] small more =
    ap (slice_split (λ c. c == 44)) (append_nil (32 ∷ operand_text o))
    ∙ slice_split_none (λ c. c == 44) (32 ∷ operand_text o) (all_no_comma o small)
  where
    append_nil : (xs : List ℕ) → xs ++ [] ≡ xs
    append_nil [] = refl
    append_nil (x ∷ xs) = ap (λ l. x ∷ l) (append_nil xs)
listed_parts o (p ∷ os) small more =
    slice_split_at (λ c. c == 44) (32 ∷ operand_text o) 44 (listed_operands (codes " ") (p ∷ os)) (all_no_comma o small) refl
    ∙ ap (λ l. (32 ∷ operand_text o) ∷ l) (listed_parts p os more.0 more.1)

-- a written operand isn't blank
digits_not_blank : (ds : List ℕ) → list_all token ds ≡ true → 0 < length ds → list_all is_ascii_whitespace ds ≡ false
digits_not_blank [] all some = absurd (omega arith)
digits_not_blank (c ∷ cs) all some = ap (λ b. b && list_all is_ascii_whitespace cs) (not_blank c (both (token c) (list_all token cs) all).0)

and_no : (b : Bool) → (b && false) ≡ false
and_no true = refl
and_no false = refl

written_not_blank : (o : Written) → Small o → list_all is_ascii_whitespace (operand_text o) ≡ false
written_not_blank (w.Register n) small = refl
written_not_blank (w.Special n) small = refl
written_not_blank (w.Number n) small = digits_not_blank (decimal n) (decimal_token n small) (decimal_some n small)
written_not_blank (w.Signed bits) small = digits_not_blank (signed_text bits) (signed_token bits small) (signed_back bits small).some
written_not_blank (w.Address bits base) small =
    list_all-append is_ascii_whitespace ((signed_text bits ++ codes "(r") ++ decimal base) (codes ")")
    ∙ and_no (list_all is_ascii_whitespace ((signed_text bits ++ codes "(r") ++ decimal base))

listed_not_blank : (o : Written) (os : List Written) → Small o → list_all is_ascii_whitespace (listed_operands (codes " ") (o ∷ os)) ≡ false
listed_not_blank o os small =
    list_all-append is_ascii_whitespace (operand_text o) (listed_operands (codes ", ") os) ∙ ap (λ b. b && list_all is_ascii_whitespace (listed_operands (codes ", ") os)) (written_not_blank o small)

pub operands_listed : (o : Written) (os : List Written) → Small o → AllSmall os → operand_texts (listed_operands (codes " ") (o ∷ os)) ≡ map (λ o. 32 ∷ operand_text o) (o ∷ os)
operands_listed o os small more =
    ap (λ b. cond b [] (slice_split (λ c. c == 44) (listed_operands (codes " ") (o ∷ os)))) (listed_not_blank o os small) ∙ listed_parts o os small more

pub small_all : (ks : List Operand) (os : List Written) (n : ℕ) → Reads ks os n → AllSmall os
small_all [] [] n reads = tt
small_all [] (o ∷ os) n reads = absurd reads
small_all (k ∷ ks) [] n reads = absurd reads
small_all (k ∷ ks) (o ∷ os) n (a, b, small, reads, more, is) = (small, small_all ks os b more)

-- an instruction with its operands
pub instruction_back : (v : ℕ) (ks : List Operand) (o : Written) (os : List Written) (n : ℕ) → Reads ks (o ∷ os) n → v + n < 2 ^ 32
    → word_meaning v ks (listed_operands (codes " ") (o ∷ os)) ≡ word (v + n)
instruction_back v ks o os n reads fits =
    let small = small_all ks (o ∷ os) n reads in
    ap (with_operands (word v) ks) (operands_listed o os small.0 small.1) ∙ operands_back v ks (o ∷ os) n reads fits
