-- What a source reads as is plain.
use Rattle.std.proofs.Common.{◌≡◌, ℕ, ◌+◌, ◌<◌, ◌≤◌, Bool, true, false, List, [], ◌∷◌, ◌++◌, length, refl, subst, arith, length-append}
use Rattle.std.specs.Prelude.{not, ◌&&◌}
use Rattle.std.proofs.lemmas.Bool.{and_parts}
use Rattle.std.specs.List.{list_all}
use Rattle.c0_tokens.specs.Tokens.{CToken}
use Rattle.c0_tokens.specs.Nesting.{tokens_of}
use Rattle.c0_tokens.specs.Order.{NumbersFit}
use Rattle.c0_tree.specs.Tree.{CUnit}
use Rattle.c0_tree.specs.Plain.{is_nonempty, is_plain}
use Rattle.c0_parser.specs.Value.{SemanticValue, pair, structs}
use Rattle.c0_parser.specs.Grammar.{Rule, disjunction, conjunction, equality, relation, sum, product, unary, postfix, primary, type, decl, block, statement, code, body, Piece, one_of, ◌▸◌, ◌or◌, many, maybe, the, production, production_value, Derives, taken, both, first, second, no_more, one_more, left_out, there, made, UNIT}
use Rattle.c0_parser.specs.Machine.{nullable}
use Rattle.c0_parser.specs.Faults.{ReadsAs}
use Rattle.c0_parser.proofs.DerivedIsRead.{Begins, begins}
use Rattle.c0_parser.proofs.StructFields.{structs_have_fields}
use Rattle.c0_parser.proofs.PlainTexts.{TextsFit, texts_fit}
use Rattle.c0_parser.proofs.PiecesArePlain.{IsSmall, parts, Plain, primary_plain, postfix_plain, unary_plain, chain_plain, type_plain, decl_plain, block_plain, statement_plain, code_plain, body_plain, unit_plain}

-- the meaning of a production
meaning_plain : (r : Rule) (v : SemanticValue) → Plain v → Plain (production_value r v)
meaning_plain disjunction v h = chain_plain v h
meaning_plain conjunction v h = chain_plain v h
meaning_plain equality v h = chain_plain v h
meaning_plain relation v h = chain_plain v h
meaning_plain sum v h = chain_plain v h
meaning_plain product v h = chain_plain v h
meaning_plain unary v h = unary_plain v h
meaning_plain postfix v h = postfix_plain v h
meaning_plain primary v h = primary_plain v h
meaning_plain type v h = type_plain v
meaning_plain decl v h = decl_plain v
meaning_plain block v h = block_plain v h
meaning_plain statement v h = statement_plain v h
meaning_plain code v h = code_plain v h
meaning_plain body v h = body_plain v h

-- each of these tokens is small
abbrev AreSmall : List CToken → Type 0
AreSmall [] = Unit {0}
AreSmall (t ∷ ts) = IsSmall t.lexeme × AreSmall ts

small_left : (xs ys : List CToken) → AreSmall (xs ++ ys) → AreSmall xs
small_left [] ys h = tt
small_left (x ∷ xs) ys h = (h.0, small_left xs ys h.1)

small_right : (xs ys : List CToken) → AreSmall (xs ++ ys) → AreSmall ys
small_right [] ys h = h
small_right (x ∷ xs) ys h = small_right xs ys h.1

-- whether each part of each list has a token
abbrev filled : Piece → Bool
filled (one_of s ss) = true
filled (a ▸ b) = filled a && filled b
filled (a or b) = filled a && filled b
filled (many a) = filled a && not (nullable a)
filled (maybe a) = filled a
filled (the r) = true

all_filled : (r : Rule) → filled (production r) ≡ true
all_filled disjunction = refl
all_filled conjunction = refl
all_filled equality = refl
all_filled relation = refl
all_filled sum = refl
all_filled product = refl
all_filled unary = refl
all_filled postfix = refl
all_filled primary = refl
all_filled type = refl
all_filled decl = refl
all_filled block = refl
all_filled statement = refl
all_filled code = refl
all_filled body = refl

has_token : (p : Piece) (xs : List CToken) → Begins p xs → not (nullable p) ≡ true → 0 < length xs
has_token p [] b e = absurd (never (nullable p) b e)
  where
    never : (a : Bool) → a ≡ true → not a ≡ true → ⊥
    never true h k = cc
    never false h k = cc
has_token p (t ∷ xs) b e = omega arith

-- a list has no more parts than tokens
parts_within : {a : Piece} {xs : List CToken} {v : SemanticValue} → Derives (many a) xs v → not (nullable a) ≡ true → parts v ≤ length xs
parts_within no_more e = omega arith
parts_within (one_more {a} {xs} {ys} d f) e = omega (arith, length-append xs ys, parts_within d e, has_token a ys (begins f) e)

-- what few and small tokens derive is plain
derives_plain : {p : Piece} {xs : List CToken} {v : SemanticValue} → Derives p xs v → filled p ≡ true → AreSmall xs → length xs ≤ 1048577 → Plain v
derives_plain (taken s ss t h) f k n = k.0
derives_plain (both {a} {b} {xs} {ys} d e) f k n =
    let g = and_parts (filled a) (filled b) f in
    let l = length-append xs ys in
    (derives_plain d g.0 (small_left xs ys k) (omega arith), derives_plain e g.1 (small_right xs ys k) (omega arith))
derives_plain (first {a} {b} d) f k n = derives_plain d (and_parts (filled a) (filled b) f).0 k n
derives_plain (second {a} {b} d) f k n = derives_plain d (and_parts (filled a) (filled b) f).1 k n
derives_plain no_more f k n = tt
derives_plain (one_more {a} {xs} {ys} {v} {w} d e) f k n =
    let g = and_parts (filled a) (not (nullable a)) f in
    let l = length-append xs ys in (
      omega (arith, parts_within d g.1, has_token a ys (begins e) g.1),
      derives_plain d f (small_left xs ys k) (omega arith),
      derives_plain e g.0 (small_right xs ys k) (omega arith),
    )
derives_plain left_out f k n = tt
derives_plain (there d) f k n = (omega arith, tt, derives_plain d f k n)
derives_plain (made r {xs} {v} d) f k n = meaning_plain r v (derives_plain d (all_filled r) k n)

are_small : (n : ℕ) (ts : List CToken) → n ≤ 1048576 → NumbersFit ts → TextsFit n ts → AreSmall ts
are_small n [] le h k = tt
are_small n (t ∷ ts) le h k = let fits = k.0 in ((h.0, omega arith), are_small n ts le h.1 k.1)

-- the tree of a source is plain
pub reads_plain : (source : List ℕ) (u : CUnit) → length source ≤ 1048576 → length (tokens_of source) ≤ length source + 1 → NumbersFit (tokens_of source) → ReadsAs source u → is_plain u ≡ true
reads_plain source u le count numbers r =
    let small = are_small (length source) (tokens_of source) le numbers (texts_fit source) in
    let v = derives_plain r.2 refl small (omega arith) in
    subst (λ w. is_plain w ≡ true) r.3 (unit_plain (length source) r.0 v.0 (fields_of r.2))
  where
    fields_of : {xs : List CToken} {items stop : SemanticValue} → Derives UNIT xs (pair items stop) → list_all (λ s. is_nonempty s.fields) (structs items) ≡ true
    fields_of (both d e) = structs_have_fields d
