-- A line that was written for a word is read as the word.
use Rattle.std.proofs.Common.{◌≡◌, ◌<◌, ◌+◌, ◌^◌, ◌==◌, ◌&&◌, not, ℕ, pos, Bool, true, false, cond, suc, List, [], ◌∷◌, ◌++◌, length, take, drop, get_or, Option, Some, None, IfSome, All, refl, sym, ap, ◌∙◌, take_all, ne_eqb, le-leb, subst, arith}
use Rattle.std.specs.Prelude.{codes}
use Rattle.std.specs.List.{list_all, prefix_len}
use Rattle.std.specs.Char.{is_ascii_whitespace}
use Rattle.std.proofs.Math.Seq.{take-append_seam, drop-append_seam}
use Rattle.std.proofs.lemmas.Bool.Decides.{nat_tests}
use Rattle.std.proofs.lemmas.List.Splits.{slice_split_none}
use Rattle.cvm_text.specs.Hex.{hex8}
use Rattle.mips_table.specs.declared.inst.Inst.{Inst}
use Rattle.mips_table.specs.Encoding.{InRange, encoding}
use Rattle.mips_table.specs.Decoding.{decoding}
use Rattle.mips_table.specs.Rows.{mnemonic_of}
use Rattle.mips_asm.specs.declared.listing.Written.{Written}
use Rattle.mips_asm.specs.Number.{number_value, in_name}
use Rattle.mips_asm.specs.Text.{trim, content, colon_parts, labels_in, after_labels, is_good_byte}
use Rattle.mips_asm.specs.Line.{bad_byte, out_of_range, nothing, word, word_directive, mnemonic_len, named, statement, of_parts, line_meaning}
use Rattle.mips_asm.specs.Assembled.{labels}
use Rattle.mips_asm.specs.Listing.{operand_text, listed_operands, operands, line_for}
use Rattle.mips_asm.specs.Back.{ReadsBack}
use Rattle.cvm_text.proofs.FrontsOfDigits.{both, prefix_len_all}
use Rattle.mips_asm.proofs.OperandsStayWhole.{token, all_imply, all_append, front_len, not_blank, trim_blank}
use Rattle.mips_asm.proofs.OperandsBack.{AllSmall, written_token, none_at}
use Rattle.mips_asm.proofs.RowsBack.{row_back, named_row, in_mnemonic, mnemonic_bytes, mnemonic_some, operands_small}
use Rattle.mips_asm.proofs.HexBack.{hex8_token, hex8_number}

-- a byte of a written line: one that no comment or label begins or ends with
abbrev pub plain : ℕ → Bool
plain c = is_good_byte c && not (c == 35) && not (c == 58)

token_plain : (c : ℕ) → token c ≡ true → plain c ≡ true
token_plain c h = grind (arith, nat_tests)

plain_good : (c : ℕ) → plain c ≡ true → is_good_byte c ≡ true
plain_good c h = (both (is_good_byte c) (not (c == 35)) (both (is_good_byte c && not (c == 35)) (not (c == 58)) h).0).0

plain_content : (c : ℕ) → plain c ≡ true → not (c == 35) ≡ true
plain_content c h = (both (is_good_byte c) (not (c == 35)) (both (is_good_byte c && not (c == 35)) (not (c == 58)) h).0).1

plain_colon : (c : ℕ) → plain c ≡ true → not (c == 58) ≡ true
plain_colon c h = (both (is_good_byte c && not (c == 35)) (not (c == 58)) h).1

plain_line : (c : ℕ) → plain c ≡ true → not (c == 10) ≡ true
plain_line c h = grind (arith, nat_tests)

-- a line of plain bytes is one part with no label
content_whole : (line : List ℕ) → list_all plain line ≡ true → content line ≡ line
content_whole line all =
    ap (λ n. take n line) (sym (prefix_len_all (λ c. not (c == 35)) line (all_imply plain (λ c. not (c == 35)) plain_content line all))) ∙ take_all (length line) line (omega arith)

parts_whole : (line : List ℕ) → list_all plain line ≡ true → colon_parts line ≡ line ∷ []
parts_whole line all = slice_split_none (λ c. c == 58) line (none_at 58 line (all_imply plain (λ c. not (c == 58)) plain_colon line all))

good_whole : (line : List ℕ) → list_all plain line ≡ true → take (prefix_len is_good_byte line) line ≡ line
good_whole line all = ap (λ n. take n line) (sym (prefix_len_all is_good_byte line (all_imply plain is_good_byte plain_good line all))) ∙ take_all (length line) line (omega arith)

no_labels : (line : List ℕ) → list_all plain line ≡ true → labels line ≡ []
no_labels line all =
    ap (λ t. labels_in (colon_parts (content t))) (good_whole line all) ∙ ap (λ t. labels_in (colon_parts t)) (content_whole line all) ∙ ap labels_in (parts_whole line all)

meaning_is : (line : List ℕ) → list_all plain line ≡ true → prefix_len is_ascii_whitespace line ≡ 0 → line_meaning line ≡ statement line
unfolding line_meaning
meaning_is line all first =
    ap (λ b. cond b (of_parts (after_labels (colon_parts (content line)))) bad_byte) (all_imply plain is_good_byte plain_good line all)
    ∙ ap (λ t. of_parts (after_labels (colon_parts t))) (content_whole line all) ∙ ap (λ ps. of_parts (after_labels ps)) (parts_whole line all)
    ∙ ap (λ n. statement (drop n line)) first

-- the mnemonic ends where the blank begins
mnemonic_name : (c : ℕ) → in_mnemonic c ≡ true → in_name c ≡ true
mnemonic_name c h = (both (in_name c) (token c) h).0

mnemonic_token : (c : ℕ) → in_mnemonic c ≡ true → token c ≡ true
mnemonic_token c h = (both (in_name c) (token c) h).1

no_dot : (c : ℕ) → in_name c ≡ true → (c == 46) ≡ false
no_dot c h = grind (arith, nat_tests)

first_no_dot : (m rest : List ℕ) → 0 < length m → list_all in_name m ≡ true → (get_or (m ++ rest) 0 0 == 46) ≡ false
first_no_dot [] rest some all = absurd (omega arith)
first_no_dot (c ∷ cs) rest some all = no_dot c (both (in_name c) (list_all in_name cs) all).0

first_no_blank : (m rest : List ℕ) → 0 < length m → list_all token m ≡ true → prefix_len is_ascii_whitespace (m ++ rest) ≡ 0
first_no_blank [] rest some all = absurd (omega arith)
first_no_blank (c ∷ cs) rest some all = ap (λ b. cond b (1 + prefix_len is_ascii_whitespace (cs ++ rest)) 0) (not_blank c (both (token c) (list_all token cs) all).0)

some_length : (m rest : List ℕ) → 0 < length m → (length (m ++ rest) == 0) ≡ false
some_length [] rest some = absurd (omega arith)
some_length (c ∷ cs) rest some = ne_eqb (suc (length (cs ++ rest))) 0 (omega arith)

mnemonic_len_is : (m rest : List ℕ) → 0 < length m → list_all in_name m ≡ true → prefix_len in_name rest ≡ 0 → mnemonic_len (m ++ rest) ≡ length m
mnemonic_len_is m rest some all ends =
    ap (λ b. cond b (1 + prefix_len in_name (drop 1 (m ++ rest))) (prefix_len in_name (m ++ rest))) (first_no_dot m rest some all) ∙ front_len in_name m rest all ends

statement_is : (m rest : List ℕ) → 0 < length m → list_all in_name m ≡ true → prefix_len in_name rest ≡ 0 → statement (m ++ rest) ≡ named m rest
unfolding statement
statement_is m rest some all ends =
    let line = m ++ rest in
    ap (λ b. cond b nothing (named (take (mnemonic_len line) line) (drop (mnemonic_len line) line))) (some_length m rest some)
    ∙ ap (λ n. named (take n line) (drop n line)) (mnemonic_len_is m rest some all ends)
    ∙ ap (λ t. named t (drop (length m) line)) (take-append_seam m rest) ∙ ap (named m) (drop-append_seam m rest)

rest_ends : (os : List Written) → prefix_len in_name (listed_operands (codes " ") os) ≡ 0
rest_ends [] = refl
rest_ends (o ∷ os) = refl

-- the operands are plain
listed_plain : (before : List ℕ) (os : List Written) → list_all plain before ≡ true → AllSmall os → list_all plain (listed_operands before os) ≡ true
listed_plain before [] start small = refl
listed_plain before (o ∷ os) start small =
    all_append plain (before ++ operand_text o) (listed_operands (codes ", ") os)
    (all_append plain before (operand_text o) start (all_imply token plain token_plain (operand_text o) (written_token o small.0)))
    (listed_plain (codes ", ") os refl small.1)

instruction_line : (i : Inst) → InRange i → list_all plain (mnemonic_of i ++ listed_operands (codes " ") (operands i)) ≡ true
instruction_line i range =
    all_append plain (mnemonic_of i) (listed_operands (codes " ") (operands i))
    (all_imply token plain token_plain (mnemonic_of i) (all_imply in_mnemonic token mnemonic_token (mnemonic_of i) (mnemonic_bytes i)))
    (listed_plain (codes " ") (operands i) refl (operands_small i range))

instruction_means : (i : Inst) → InRange i → line_meaning (mnemonic_of i ++ listed_operands (codes " ") (operands i)) ≡ word (encoding i)
instruction_means i range =
    let m = mnemonic_of i in
    let rest = listed_operands (codes " ") (operands i) in
    let names = all_imply in_mnemonic in_name mnemonic_name m (mnemonic_bytes i) in
    let tokens = all_imply in_mnemonic token mnemonic_token m (mnemonic_bytes i) in
    meaning_is (m ++ rest) (instruction_line i range) (first_no_blank m rest (mnemonic_some i) tokens)
    ∙ statement_is m rest (mnemonic_some i) names (rest_ends (operands i)) ∙ named_row i rest ∙ row_back i range

-- a directive
directive_line : (value : ℕ) → list_all plain (codes ".word 0x" ++ hex8 value) ≡ true
directive_line value = all_append plain (codes ".word 0x") (hex8 value) refl (all_imply token plain token_plain (hex8 value) (hex8_token value))

directive_statement : (value : ℕ) → statement (codes ".word 0x" ++ hex8 value) ≡ word_directive (number_value (trim (32 ∷ (48 ∷ (120 ∷ hex8 value)))))
unfolding statement
directive_statement value = refl

directive_means : (value : ℕ) → value < 2 ^ 32 → line_meaning (codes ".word 0x" ++ hex8 value) ≡ word value
directive_means value small =
    meaning_is (codes ".word 0x" ++ hex8 value) (directive_line value) refl ∙ directive_statement value
    ∙ ap (λ t. word_directive (number_value t)) (trim_blank (48 ∷ (120 ∷ hex8 value)) (hex8_token value))
    ∙ ap word_directive (hex8_number value small)
    ∙ ap (λ b. cond b (word value) (out_of_range (pos value) 1)) (le-leb value 4294967295 (omega arith))

one_line : (line : List ℕ) → list_all plain line ≡ true → All (λ c. (c == 10) ≡ false) line
one_line line all = none_at 10 line (all_imply plain (λ c. not (c == 10)) plain_line line all)

-- the line of any word
of_instruction : (value : ℕ) (i : Inst) → decoding value ≡ Some i → InRange i → encoding i ≡ value → ReadsBack value
of_instruction value i is range back = record {
  means = ap (λ o. line_meaning (line_for value o)) is ∙ instruction_means i range ∙ ap word back;
  unlabelled = ap (λ o. labels (line_for value o)) is ∙ no_labels (mnemonic_of i ++ listed_operands (codes " ") (operands i)) (instruction_line i range);
  one_line = subst (λ o. All (λ c. (c == 10) ≡ false) (line_for value o)) (sym is) (one_line (mnemonic_of i ++ listed_operands (codes " ") (operands i)) (instruction_line i range));
}

of_directive : (value : ℕ) → decoding value ≡ None → value < 2 ^ 32 → ReadsBack value
of_directive value is small = record {
  means = ap (λ o. line_meaning (line_for value o)) is ∙ directive_means value small;
  unlabelled = ap (λ o. labels (line_for value o)) is ∙ no_labels (codes ".word 0x" ++ hex8 value) (directive_line value);
  one_line = subst (λ o. All (λ c. (c == 10) ≡ false) (line_for value o)) (sym is) (one_line (codes ".word 0x" ++ hex8 value) (directive_line value));
}

pub reads_back : (value : ℕ) (o : Option Inst) → o ≡ decoding value → IfSome o (λ i. InRange i × (encoding i ≡ value)) → value < 2 ^ 32 → ReadsBack value
reads_back value (Some i) is found small = of_instruction value i (sym is) found.0 found.1
reads_back value None is found small = of_directive value (sym is) small
