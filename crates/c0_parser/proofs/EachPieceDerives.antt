-- Each piece derives something, so whatever is still wanted can be completed.
use Rattle.std.proofs.Common.{◌≡◌, List, [], ◌∷◌, ◌++◌, refl, ap, ◌∙◌}
use Rattle.std.specs.Prelude.{◌||◌}
use Rattle.c0_tokens.specs.declared.token.TokenFault.TheVariants.{BadByte}
use Rattle.c0_tokens.specs.Tokens.{CToken, CLexeme, name, number, asm_text, fixed, faulty, end}
use Rattle.c0_parser.specs.Sorts.{Sort, mark, a_name, a_number, an_asm_text, the_end, a_fault, sort, among}
use Rattle.c0_parser.specs.Value.{SemanticValue, token}
use Rattle.c0_parser.specs.Grammar.{Rule, disjunction, conjunction, equality, relation, sum, product, unary, postfix, primary, type, decl, block, statement, code, body, Piece, one_of, ◌▸◌, ◌or◌, many, maybe, the, production, Derives, taken, both, first, second, no_more, left_out, made}
use Rattle.c0_parser.specs.Machine.{Task, want, more, act}
use Rattle.c0_parser.proofs.ReadIsDerived.{Means, top, no_more_of}
use Rattle.c0_parser.proofs.TokensDecide.{same_sort_refl}

lexeme_of : Sort → CLexeme
lexeme_of (mark m) = fixed m
lexeme_of a_name = name []
lexeme_of a_number = number 0
lexeme_of an_asm_text = asm_text []
lexeme_of the_end = end
lexeme_of a_fault = faulty BadByte

sort_of : (s : Sort) → sort (lexeme_of s) ≡ s
unfolding lexeme_of
sort_of (mark m) = refl
sort_of a_name = refl
sort_of a_number = refl
sort_of an_asm_text = refl
sort_of the_end = refl
sort_of a_fault = refl

-- some tokens that a piece derives
record Sample (p : Piece) : Type 0 where
  tokens : List CToken
  value : SemanticValue
  derives : Derives p tokens value

a_token : (s : Sort) (ss : List Sort) → Sample (one_of s ss)
a_token s ss =
    let t : CToken = record { lexeme = lexeme_of s; start = 0; stop = 0 } in
    record { tokens = _; value = _; derives = taken s ss t (ap (λ x. among (s ∷ ss) x) (sort_of s) ∙ ap (λ x. x || among ss s) (same_sort_refl s)) }

pair_of : (a b : Piece) → Sample a → Sample b → Sample (a ▸ b)
pair_of a b x y = record { tokens = _; value = _; derives = both x.derives y.derives }

by_rule : (r : Rule) → Sample (production r) → Sample (the r)
by_rule r x = record { tokens = _; value = _; derives = made r x.derives }

no_list : (a : Piece) → Sample (many a)
no_list a = record { tokens = _; value = _; derives = no_more }

no_part : (a : Piece) → Sample (maybe a)
no_part a = record { tokens = _; value = _; derives = left_out }

left_one : (a b : Piece) → Sample a → Sample (a or b)
left_one a b x = record { tokens = _; value = _; derives = first x.derives }

right_one : (a b : Piece) → Sample b → Sample (a or b)
right_one a b x = record { tokens = _; value = _; derives = second x.derives }

-- a piece whose productions are of these
sample_with : ((r : Rule) → Sample (the r)) → (p : Piece) → Sample p
sample_with f (one_of s ss) = a_token s ss
sample_with f (a ▸ b) = pair_of a b (sample_with f a) (sample_with f b)
sample_with f (a or b) = left_one a b (sample_with f a)
sample_with f (many a) = no_list a
sample_with f (maybe a) = no_part a
sample_with f (the r) = f r

a_primary : Sample (the primary)
a_primary = by_rule primary (left_one _ _ (a_token _ _))

a_postfix : Sample (the postfix)
a_postfix = by_rule postfix (pair_of _ _ a_primary (no_list _))

a_unary : Sample (the unary)
a_unary = by_rule unary (right_one _ _ a_postfix)

a_product : Sample (the product)
a_product = by_rule product (pair_of _ _ a_unary (no_list _))

a_sum : Sample (the sum)
a_sum = by_rule sum (pair_of _ _ a_product (no_list _))

a_relation : Sample (the relation)
a_relation = by_rule relation (pair_of _ _ a_sum (no_part _))

an_equality : Sample (the equality)
an_equality = by_rule equality (pair_of _ _ a_relation (no_part _))

a_conjunction : Sample (the conjunction)
a_conjunction = by_rule conjunction (pair_of _ _ an_equality (no_list _))

a_disjunction : Sample (the disjunction)
a_disjunction = by_rule disjunction (pair_of _ _ a_conjunction (no_list _))

a_type : Sample (the type)
a_type = by_rule type (pair_of _ _ (left_one _ _ (a_token _ _)) (no_list _))

a_decl : Sample (the decl)
a_decl = by_rule decl (pair_of _ _ a_type (a_token _ _))

a_block : Sample (the block)
a_block = by_rule block (pair_of _ _ (a_token _ _) (pair_of _ _ (no_list _) (a_token _ _)))

a_statement : Sample (the statement)
a_statement = by_rule statement (right_one _ _ (right_one _ _ (pair_of _ _ (a_token _ _) (pair_of _ _ (a_token _ _) (pair_of _ _ a_disjunction (pair_of _ _ (a_token _ _) a_block))))))

a_code : Sample (the code)
a_code = by_rule code (pair_of _ _ (a_token _ _) (pair_of _ _ (no_list _) (pair_of _ _ (no_list _) (pair_of _ _ (a_token _ _) (pair_of _ _ a_disjunction (pair_of _ _ (a_token _ _) (a_token _ _)))))))

a_body : Sample (the body)
a_body = by_rule body (left_one _ _ a_code)

sample_of : (r : Rule) → Sample (the r)
sample_of disjunction = a_disjunction
sample_of conjunction = a_conjunction
sample_of equality = an_equality
sample_of relation = a_relation
sample_of sum = a_sum
sample_of product = a_product
sample_of unary = a_unary
sample_of postfix = a_postfix
sample_of primary = a_primary
sample_of type = a_type
sample_of decl = a_decl
sample_of block = a_block
sample_of statement = a_statement
sample_of code = a_code
sample_of body = a_body

-- whatever is to be done can be done
pub completes : (st : List Task) (vs : List SemanticValue) → (ys : List CToken) × (u : SemanticValue) × Means st vs ys u
completes [] vs = ([], top vs, (refl, refl))
completes (want p ∷ st) vs =
    let x = sample_with sample_of p in
    let c = completes st (x.value ∷ vs) in
    (x.tokens ++ c.0, c.1, (x.tokens, c.0, x.value, refl, x.derives, c.2))
completes (more a ∷ st) vs =
    let c = completes st vs in
    (c.0, c.1, ([], c.0, vs, refl, no_more_of a vs, c.2))
completes (act f ∷ st) vs = completes st (f vs)

-- a wanted token is completed by a token and more
pub completes_one : (s : Sort) (ss : List Sort) (st : List Task) (vs : List SemanticValue) → (t : CToken) × (more : List CToken) × (u : SemanticValue) × Means (want (one_of s ss) ∷ st) vs (t ∷ more) u
completes_one s ss st vs =
    let t : CToken = record { lexeme = lexeme_of s; start = 0; stop = 0 } in
    let c = completes st (token t ∷ vs) in
    (t, c.0, c.1, (t ∷ [], c.0, token t, refl, taken s ss t (ap (λ x. among (s ∷ ss) x) (sort_of s) ∙ ap (λ x. x || among ss s) (same_sort_refl s)), c.2))
