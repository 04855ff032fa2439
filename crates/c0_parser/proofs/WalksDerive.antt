-- What the reading machine comes to is what the grammar derives: so a source's tree can be computed.
use Rattle.std.proofs.Common.{◌≡◌, ℕ, zero, suc, List, [], ◌∷◌, ◌++◌, length, Option, Some, None, true, refl, sym, ap, ◌∙◌, subst, append-nil}
use Rattle.c0_tokens.specs.Tokens.{CToken}
use Rattle.c0_tokens.specs.Nesting.{tokens_of}
use Rattle.c0_tree.specs.Tree.{CUnit, CStruct, CDecl, CFunction}
use Rattle.c0_parser.specs.Value.{SemanticValue, pair, parsed_unit, structs, globals, functions}
use Rattle.c0_parser.specs.Machine.{ParserState, at, want, parser_step, ParserLeads, still, go}
use Rattle.c0_parser.specs.Factored.{SOURCE, factored_structs, factored_globals}
use Rattle.c0_parser.specs.Grammar.{Derives}
use Rattle.c0_parser.specs.Walk.{walk_on, walk, start, tree_with, items_in, stop_in, is_read, ReadByWalks}
use Rattle.c0_parser.proofs.ReadIsDerived.{back}
use Rattle.c0_parser.proofs.FactoredGrammar.{SameItems, unit_from}
use Rattle.c0_parser.proofs.TokensDecide.{no_yes}

leads_by : (s : ParserState) (n : ℕ) → ((t : ParserState) → ParserLeads t (walk n t)) → (o : Option ParserState) → parser_step s ≡ o → ParserLeads s (walk_on o s (walk n))
leads_by s n ih None e = still s
leads_by s n ih (Some t) e = go s t (walk n t) e (ih t)

leads : (n : ℕ) (s : ParserState) → ParserLeads s (walk n s)
leads zero s = still s
leads (suc n) s = leads_by s n (leads n) (parser_step s) refl

-- at its end the machine has read the tokens
all_read : (ts : List CToken) (v : SemanticValue) → ParserLeads (at ts (want SOURCE ∷ []) []) (at [] [] (v ∷ [])) → Derives SOURCE ts v
all_read ts v l =
    let b = back _ _ l in
    let m = b.2 [] v (refl, refl) in
    let same : m.0 ≡ ts = sym (b.1 ∙ m.3 ∙ ap (λ zs. m.0 ++ zs) m.5.0 ∙ append-nil m.0) in
    subst (λ xs. Derives SOURCE xs v) same (subst (λ w. Derives SOURCE m.0 w) m.5.1 m.4)

is_at_end : (s : ParserState) → is_read s ≡ true → s ≡ at [] [] (pair (items_in s) (stop_in s) ∷ [])
is_at_end (at [] [] (pair items stop ∷ [])) e = refl
is_at_end _ e = no_yes e

same_fields : (a b c d : SemanticValue) → pair a b ≡ pair c d → (a ≡ c) × (b ≡ d)
same_fields a b c d e = (cc, cc)

abbrev unit_with : ℕ → List CStruct → List CDecl → List CFunction → CUnit
unit_with n ss gs fs = record { length = n; structs = ss; globals = gs; functions = fs }

same_units : (n : ℕ) (v w : SemanticValue) → SameItems v w → parsed_unit n v ≡ tree_with n w
same_units n v w s =
    ap (λ x. unit_with n x (globals v) (functions v)) s.same_structs ∙ ap (λ x. unit_with n (factored_structs w) x (functions v)) s.same_globals
    ∙ ap (λ x. unit_with n (factored_structs w) (factored_globals w) x) s.same_functions

-- A SOURCE THAT THE MACHINE READS in so many steps reads as the tree that it makes.
pub reads_by : ReadByWalks
reads_by n source e =
    let s : ParserState = walk n (start source) in
    let d = all_read (tokens_of source) (pair (items_in s) (stop_in s)) (subst (ParserLeads (start source)) (is_at_end s e) (leads n (start source))) in
    let u = unit_from (tokens_of source) (pair (items_in s) (stop_in s)) d in
    let f = same_fields (items_in s) (stop_in s) u.0 u.1 u.3 in
    (u.2, u.1, u.4, same_units (length source) u.2 u.0 u.5 ∙ ap (tree_with (length source)) (sym f.0))
