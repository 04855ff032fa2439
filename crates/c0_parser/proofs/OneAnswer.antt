-- A source has one answer: what begins with a beginning of a unit is none itself only from its first bad token on.
use Rattle.std.proofs.Common.{ℕ, ◌≡◌, ◌≢◌, ◌<◌, ◌≤◌, ◌⊎◌, inl, inr, List, [], ◌∷◌, ◌++◌, length, Result, Ok, Err, refl, sym, ap, ◌∙◌, subst, append_assoc, arith}
use Rattle.c0_tokens.specs.Tokens.{CToken}
use Rattle.c0_tokens.specs.Nesting.{tokens_of}
use Rattle.c0_tree.specs.Tree.{CUnit}
use Rattle.c0_parser.specs.Value.{SemanticValue}
use Rattle.c0_parser.specs.Grammar.{UNIT, Derives}
use Rattle.c0_parser.specs.Answer.{IsTreeAnswer}
use Rattle.c0_parser.specs.Faults.{ReadsAs, FaultIs, IsPrefix, IsFirstBad, fault_at}
use Rattle.c0_parser.specs.declared.fault.ReadFault.{ReadFault}
use Rattle.c0_parser.specs.declared.fault.ReadFault.TheVariants.{BadByte, BadNumber, Unexpected, TooNested, SourceTooLong, Memory}
use Rattle.c0_parser.proofs.SourcesRead.{one_tree}

-- the beginning of a beginning of a unit is one
begins_too : (xs ys : List CToken) → IsPrefix (xs ++ ys) → IsPrefix xs
begins_too xs ys h = (ys ++ h.0, h.1, subst (λ (ts : List CToken). Derives UNIT ts h.1) (append_assoc xs ys h.0) h.2)

-- a token in front of a list may stand at the end of another
moved : (xs ys : List CToken) (t : CToken) → xs ++ t ∷ ys ≡ (xs ++ t ∷ []) ++ ys
moved xs ys t = sym (append_assoc xs (t ∷ []) ys)

-- a source that reads as a tree has no first bad token
not_both : (ts : List CToken) (t : CToken) (v : SemanticValue) → Derives UNIT ts v → IsFirstBad ts t → ⊥
not_both ts t v d b = b.bad (b.after, v, subst (λ (xs : List CToken). Derives UNIT xs v) (b.stands ∙ moved b.before b.after t) d)

-- two lists with a token behind each begin the same list: the tokens are the same, or one list and its token begin the other
apart : (xs ys p q : List CToken) (t u : CToken) → xs ++ t ∷ p ≡ ys ++ u ∷ q →
    (t ≡ u) ⊎ (((z : List CToken) × (ys ≡ (xs ++ t ∷ []) ++ z)) ⊎ ((z : List CToken) × (xs ≡ (ys ++ u ∷ []) ++ z)))
apart [] [] p q t u e = inl cc
apart [] (y ∷ ys) p q t u e = let h : t ≡ y = cc in inr (inl (ys, ap (λ (a : CToken). a ∷ ys) (sym h)))
apart (x ∷ xs) [] p q t u e = let h : x ≡ u = cc in inr (inr (xs, ap (λ (a : CToken). a ∷ xs) h))
apart (x ∷ xs) (y ∷ ys) p q t u e =
    let h : x ≡ y = cc in
    let rest : xs ++ t ∷ p ≡ ys ++ u ∷ q = cc in
    elim (apart xs ys p q t u rest) [
      | inl same ↦ inl same
      | inr (inl (z, s)) ↦ inr (inl (z, cc))
      | inr (inr (z, s)) ↦ inr (inr (z, cc))
    ]

-- there is one first bad token
one_bad : (ts : List CToken) (t u : CToken) → IsFirstBad ts t → IsFirstBad ts u → t ≡ u
one_bad ts t u a b = elim (apart a.before b.before a.after b.after t u (sym a.stands ∙ b.stands)) [
  | inl same ↦ same
  | inr (inl (z, s)) ↦ absurd (a.bad (begins_too _ z (subst IsPrefix s b.good)))
  | inr (inr (z, s)) ↦ absurd (b.bad (begins_too _ z (subst IsPrefix s a.good)))
]

-- a fault by its first bad token
record HasBad (source : List ℕ) (f : ReadFault) : Type 0 where
  short : length source ≤ 1048576
  token : CToken
  first : IsFirstBad (tokens_of source) token
  is : f ≡ fault_at token

-- the two kinds of faults
kinds : (source : List ℕ) (f : ReadFault) → f ≢ Memory → FaultIs source f → ((f ≡ SourceTooLong) × (1048576 < length source)) ⊎ HasBad source f
kinds source (BadByte at) m h = inr (record { short = h.0; token = h.1.0; first = h.1.1; is = h.1.2 })
kinds source (BadNumber at) m h = inr (record { short = h.0; token = h.1.0; first = h.1.1; is = h.1.2 })
kinds source (Unexpected at) m h = inr (record { short = h.0; token = h.1.0; first = h.1.1; is = h.1.2 })
kinds source (TooNested at) m h = inr (record { short = h.0; token = h.1.0; first = h.1.1; is = h.1.2 })
kinds source SourceTooLong m h = inl (refl, h)
kinds source Memory m h = absurd (m refl)

-- there is one fault
one_fault : (source : List ℕ) (f g : ReadFault) → f ≢ Memory → g ≢ Memory → FaultIs source f → FaultIs source g → f ≡ g
one_fault source f g m n a b = elim (kinds source f m a) [
  | inl x ↦ elim (kinds source g n b) [ inl y ↦ x.0 ∙ sym y.0 | inr y ↦ let l = y.short in let k = x.1 in absurd (omega arith) ]
  | inr x ↦ elim (kinds source g n b) [
    | inl y ↦ let l = x.short in let k = y.1 in absurd (omega arith)
    | inr y ↦ x.is ∙ (ap fault_at (one_bad (tokens_of source) x.token y.token x.first y.first) ∙ sym y.is)
  ]
]

-- a source with a tree has no fault
no_fault : (source : List ℕ) (u : CUnit) (f : ReadFault) → length source ≤ 1048576 → ReadsAs source u → f ≢ Memory → FaultIs source f → ⊥
no_fault source u f le r m h = elim (kinds source f m h) [
  | inl x ↦ let k = x.1 in absurd (omega arith)
  | inr x ↦ not_both (tokens_of source) x.token _ r.2 x.first
]

pub one_answer : (source : List ℕ) (a b : Result CUnit ReadFault) → IsTreeAnswer source a → IsTreeAnswer source b → a ≡ b
one_answer source (Ok u) (Ok w) x y = ap Ok (one_tree source u w x.1 y.1)
one_answer source (Ok u) (Err f) x y = absurd (no_fault source u f x.0 x.1 y.0 y.1)
one_answer source (Err f) (Ok u) x y = absurd (no_fault source u f y.0 y.1 x.0 x.1)
one_answer source (Err f) (Err g) x y = ap Err (one_fault source f g x.0 y.0 x.1 y.1)
