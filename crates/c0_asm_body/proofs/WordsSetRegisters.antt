-- Words that an asm body may have: each is that of an instruction, which only sets a register.
use Rattle.std.proofs.Common.{◌≡◌, ℕ, Bool, true, false, Option, Some, None, List, [], ◌∷◌, refl, ap₂, subst}
use Rattle.std.specs.Prelude.{◌&&◌, IsTrue, IfSome}
use Rattle.std.proofs.lemmas.List.Elements.{All-cons, All-nil}
use Rattle.mips_table.specs.declared.inst.Inst.{Inst}
use Rattle.mips_table.specs.Encoding.{InRange, encoding}
use Rattle.mips_table.specs.Decoding.{decoding}
use Rattle.c0_meaning.specs.Asm.{is_allowed, is_allowed_word, are_allowed_words}
use Rattle.c0_asm_body.specs.Code.{inst_or_none, instruction_of, asm_body_code}
use Rattle.c0_asm_body.specs.Laws.{AreEncoded}

abbrev pub IsNot : Bool → Type 0
IsNot true = ⊥
IsNot false = Unit {0}

pub is_not : false ≡ true → ⊥
is_not e = subst IsNot e tt

pub left : (a b : Bool) → a && b ≡ true → a ≡ true
left true b e = refl
left false b e = absurd (is_not e)

pub right : (a b : Bool) → a && b ≡ true → b ≡ true
right true b e = e
right false b e = absurd (is_not e)

-- the test of a word, by what it decodes to
abbrev tested : Option Inst → Bool
tested None = false
tested (Some inst) = is_allowed inst

-- the instruction of a word that is allowed
pub record IsOf (word : ℕ) (i : Inst) : Type 0 where
  pub decoded : decoding word ≡ Some i
  pub allowed : is_allowed i ≡ true
  pub range : InRange i
  pub encoded : encoding i ≡ word

module _ (decoded : (word : ℕ) → IfSome (decoding word) (λ i. InRange i × (encoding i ≡ word))) where
  by_decoding : (word : ℕ) (o : Option Inst) → decoding word ≡ o → tested o ≡ true → IfSome o (λ i. InRange i × (encoding i ≡ word)) → IsOf word
      (inst_or_none o)
  by_decoding word None e ok h = absurd (is_not ok)
  by_decoding word (Some i) e ok h = record { decoded = e; allowed = ok; range = h.0; encoded = h.1 }

  pub is_of : (word : ℕ) → is_allowed_word word ≡ true → IsOf word (instruction_of word)
  is_of word ok = by_decoding word (decoding word) refl ok (decoded word)

  pub are_encoded : (words : List ℕ) → IsTrue (are_allowed_words words) → AreEncoded words
  are_encoded [] ok = record { same = refl; range = All-nil InRange }
  are_encoded (word ∷ words) ok =
      let first = is_of word (left (is_allowed_word word) (are_allowed_words words) ok) in
      let rest = are_encoded words (right (is_allowed_word word) (are_allowed_words words) ok) in
      record {
        same = ap₂ (λ x xs. x ∷ xs) first.encoded rest.same;
        range = All-cons InRange (instruction_of word)
            (asm_body_code words) first.range rest.range;
      }
