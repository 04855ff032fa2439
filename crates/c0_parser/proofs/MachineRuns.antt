-- Runs of the machine, one after another; and where a run ends, it ends in one state.
use Rattle.std.proofs.Common.{◌≡◌, ℕ, zero, suc, refl, sym, ◌∙◌, subst, Option, Some, None}
use Rattle.c0_parser.specs.Machine.{ParserState, parser_step, ParserLeads, still, go}

pub then_leads : (a b c : ParserState) → ParserLeads a b → ParserLeads b c → ParserLeads a c
then_leads _ _ c (still s) g = g
then_leads _ _ c (go a b d e f) g = go a b c e (then_leads b d c f g)

same_some : (a b : ParserState) → Some a ≡ Some b → a ≡ b
same_some a b e = cc

some_none : (a : ParserState) (o : Option ParserState) → o ≡ Some a → o ≡ None → ⊥
some_none a o e f = cc

-- a run that ends goes on from each state that is led to
pub onward : (a b c : ParserState) → ParserLeads a b → ParserLeads a c → parser_step c ≡ None → ParserLeads b c
onward _ _ c (still s) g h = g
onward _ _ _ (go a b d e f) (still s) h = absurd (some_none b (parser_step a) e h)
onward _ _ _ (go a b d e f) (go a2 b2 c e2 f2) h = onward b d c f (subst (λ x. ParserLeads x c) (same_some b2 b (sym e2 ∙ e)) f2) h

-- two ends are one
pub one_end : (a b c : ParserState) → ParserLeads a b → ParserLeads a c → parser_step b ≡ None → parser_step c ≡ None → b ≡ c
one_end a b c f g h i = last b c (onward a b c f g i) h
  where
    last : (b c : ParserState) → ParserLeads b c → parser_step b ≡ None → b ≡ c
    last _ _ (still s) h = refl
    last _ _ (go a b c e f) h = absurd (some_none b (parser_step a) e h)

-- the next state, or the same one where there is none
abbrev pub or_same : Option ParserState → ParserState → ParserState
or_same (Some b) a = b
or_same None a = a

-- so many steps on
abbrev pub gone : ℕ → ParserState → ParserState
gone zero s = s
gone (suc n) s = gone n (or_same (parser_step s) s)

next_leads : (s : ParserState) (o : Option ParserState) → parser_step s ≡ o → ParserLeads s (or_same o s)
next_leads s (Some b) e = go s b b e (still b)
next_leads s None e = still s

pub steps : (n : ℕ) (s : ParserState) → ParserLeads s (gone n s)
steps zero s = still s
steps (suc n) s = then_leads s _ _ (next_leads s (parser_step s) refl) (steps n (or_same (parser_step s) s))
