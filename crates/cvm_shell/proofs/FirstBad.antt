-- The first fault of a kernel's source is one: beginnings of units are closed under prefixes, so no second token is the first that cannot be; and of
-- the faults of typing one comes first. A source with a fault of reading has no tree.
use Rattle.std.proofs.Common.{◌≡◌, ◌≢◌, ◌⊎◌, inl, inr, ℕ, ◌<◌, ◌≤◌, ◌==◌, List, [], ◌∷◌, ◌++◌, length, refl, sym, ap, ◌∙◌, subst, arith, append_assoc, Some, None}
use Rattle.std.specs.Prelude.{Option, if◌then◌else◌}
use Rattle.c0_tokens.specs.Tokens.{CToken}
use Rattle.c0_tokens.specs.Nesting.{tokens_of}
use Rattle.c0_tree.specs.declared.tree.Span.{Span}
use Rattle.c0_tree.specs.declared.primitive.Program.{Program}
use Rattle.c0_tree.specs.Tree.{CUnit}
use Rattle.c0_parser.specs.Value.{SemanticValue}
use Rattle.c0_parser.specs.Grammar.{UNIT, Derives}
use Rattle.c0_parser.specs.Faults.{ReadsAs, IsPrefix, IsFirstBad, FaultIs, fault_at}
use Rattle.c0_parser.specs.declared.fault.ReadFault.{ReadFault}
use Rattle.c0_parser.specs.declared.fault.ReadFault.TheVariants as read
use Rattle.c0_meaning.specs.Fault.{Fault, IsLeast, LeastIsThere}
use Rattle.c0_types.specs.Source.{source_faults_as}
use Rattle.c0_types.specs.Answer.{type_fault_view, AnswersLeastAs, FaultAnswersAs}
use Rattle.c0_types.specs.declared.fault.TypeFault.{TypeFault}
use Rattle.c0_types.specs.declared.fault.TypeFault.TheVariants.{UnknownName, NameTwice, WrongType, WrongCount, NotAPlace, LocalAddress, StructHoldsItself, TooDeep, TooManyNodes, UnitTooLarge, GlobalsTooLarge, NoDispatch, AsmNotAllowed, TooManyParameters, TypeTooLarge, EmptyArray, NoMain, Memory}

-- Tokens that cannot be.

-- what begins a beginning of a unit is one
begins : (ts us : List CToken) → IsPrefix (ts ++ us) → IsPrefix ts
begins ts us (more, v, derived) = (us ++ more, v, subst (λ (xs : List CToken). Derives UNIT xs v) (append_assoc ts us more) derived)

same_head : {A : Type 0} (x y : A) (xs ys : List A) → x ∷ xs ≡ y ∷ ys → x ≡ y
same_head x y xs ys e = cc

same_tail : {A : Type 0} (x y : A) (xs ys : List A) → x ∷ xs ≡ y ∷ ys → xs ≡ ys
same_tail x y xs ys e = cc

-- of a property of lists that is closed under prefixes, no two elements are the first to break it
one_break : {A : Type 0} (P : List A → Type 0) → ((xs ys : List A) → P (xs ++ ys) → P xs) → (before after others rest : List A) (t s : A)
    → before ++ t ∷ after ≡ others ++ s ∷ rest → P before → (P (before ++ t ∷ []) → ⊥) → P others → (P (others ++ s ∷ []) → ⊥) → t ≡ s
one_break P closed [] after [] rest t s e good bad fine broken = same_head t s after rest e
one_break {A} P closed [] after (x ∷ others) rest t s e good bad fine broken =
    let same : t ≡ x = same_head t x after (others ++ s ∷ rest) e in
    absurd (bad (subst (λ (y : A). P (y ∷ [])) (sym same) (closed (x ∷ []) others fine)))
one_break {A} P closed (x ∷ before) after [] rest t s e good bad fine broken =
    let same : x ≡ s = same_head x s (before ++ t ∷ after) rest e in
    absurd (broken (subst (λ (y : A). P (y ∷ [])) same (closed (x ∷ []) before good)))
one_break {A} P closed (x ∷ before) after (y ∷ others) rest t s e good bad fine broken =
    let same : x ≡ y = same_head x y (before ++ t ∷ after) (others ++ s ∷ rest) e in
    one_break (λ (xs : List A). P (x ∷ xs)) (λ xs ys. closed (x ∷ xs) ys) before after others rest t s (same_tail x y _ _ e) good bad
    (subst (λ (z : A). P (z ∷ others)) (sym same) fine) (λ h. broken (subst (λ (z : A). P (z ∷ others ++ s ∷ [])) same h))

-- the first token that cannot be is one
first_bad_once : (ts : List CToken) (t s : CToken) → IsFirstBad ts t → IsFirstBad ts s → t ≡ s
first_bad_once ts t s one other =
    one_break IsPrefix begins one.before one.after other.before other.after t s (sym one.stands ∙ other.stands) one.good one.bad other.good other.bad

-- tokens that are a unit have none
none_bad : (ts : List CToken) (v : SemanticValue) (t : CToken) → Derives UNIT ts v → IsFirstBad ts t → ⊥
none_bad ts v t derived one =
    let whole : ts ≡ (one.before ++ t ∷ []) ++ one.after = one.stands ∙ sym (append_assoc one.before (t ∷ []) one.after) in
    one.bad (one.after, v, subst (λ (xs : List CToken). Derives UNIT xs v) whole derived)

-- Faults of reading.

-- a source is too long, or a token of it is the first that cannot be
abbrev Breaks : List ℕ → ReadFault → Type 0
Breaks source f = ((f ≡ read.SourceTooLong) × (1048576 < length source)) ⊎ ((length source ≤ 1048576) × ((t : CToken) × IsFirstBad (tokens_of source) t × (f ≡ fault_at t)))

breaks : (source : List ℕ) (f : ReadFault) → f ≢ read.Memory → FaultIs source f → Breaks source f
breaks source (read.BadByte at) named is = inr is
breaks source (read.BadNumber at) named is = inr is
breaks source (read.Unexpected at) named is = inr is
breaks source (read.TooNested at) named is = inr is
breaks source read.SourceTooLong named is = inl (refl, is)
breaks source read.Memory named is = absurd (named refl)

one_break_of : (source : List ℕ) (f g : ReadFault) → Breaks source f → Breaks source g → f ≡ g
one_break_of source f g (inl h) (inl k) = h.0 ∙ sym k.0
one_break_of source f g (inl h) (inr k) = let long : 1048576 < length source = h.1 in let short : length source ≤ 1048576 = k.0 in absurd (omega arith)
one_break_of source f g (inr h) (inl k) = let short : length source ≤ 1048576 = h.0 in let long : 1048576 < length source = k.1 in absurd (omega arith)
one_break_of source f g (inr (short, (t, one, e))) (inr (also, (s, other, d))) = e ∙ ap fault_at (first_bad_once (tokens_of source) t s one other) ∙ sym d

-- a source has one fault of reading at most
pub one_unread : (source : List ℕ) (f g : ReadFault) → f ≢ read.Memory → g ≢ read.Memory → FaultIs source f → FaultIs source g → f ≡ g
one_unread source f g named also is other = one_break_of source f g (breaks source f named is) (breaks source g also other)

no_break : (source : List ℕ) (u : CUnit) (f : ReadFault) → length source ≤ 1048576 → ReadsAs source u → Breaks source f → ⊥
no_break source u f short reads (inl h) = let long : 1048576 < length source = h.1 in omega arith
no_break source u f short (items, stop, derived, e) (inr (also, (t, one, d))) = none_bad (tokens_of source) _ t derived one

-- one that is read has none
pub never_unread : (source : List ℕ) (u : CUnit) (f : ReadFault) → length source ≤ 1048576 → ReadsAs source u → f ≢ read.Memory → FaultIs source f → ⊥
never_unread source u f short reads named is = no_break source u f short reads (breaks source f named is)

-- Faults of typing.

-- the fault that is seen as this
abbrev seen_as : ℕ → Span → ℕ → TypeFault
seen_as number span line =
    if number == 20 then UnknownName span else
    if number == 21 then NameTwice span else
    if number == 22 then WrongType span else
    if number == 23 then WrongCount span else
    if number == 24 then NotAPlace span else
    if number == 25 then LocalAddress span else
    if number == 26 then StructHoldsItself span else
    if number == 27 then TooDeep span else
    if number == 28 then TooManyNodes span else
    if number == 29 then UnitTooLarge span else
    if number == 30 then GlobalsTooLarge span else
    if number == 31 then NoDispatch span else
    if number == 32 then AsmNotAllowed span line else
    if number == 33 then TooManyParameters span else
    if number == 34 then TypeTooLarge span else
    if number == 35 then EmptyArray span else NoMain span

abbrev back : Option Fault → TypeFault
back None = Memory
back (Some f) = seen_as f.number f.span f.line

back_again : (f : TypeFault) → back (type_fault_view f) ≡ f
back_again (UnknownName s) = refl
back_again (NameTwice s) = refl
back_again (WrongType s) = refl
back_again (WrongCount s) = refl
back_again (NotAPlace s) = refl
back_again (LocalAddress s) = refl
back_again (StructHoldsItself s) = refl
back_again (TooDeep s) = refl
back_again (TooManyNodes s) = refl
back_again (UnitTooLarge s) = refl
back_again (GlobalsTooLarge s) = refl
back_again (NoDispatch s) = refl
back_again (AsmNotAllowed s line) = refl
back_again (TooManyParameters s) = refl
back_again (TypeTooLarge s) = refl
back_again (EmptyArray s) = refl
back_again (NoMain s) = refl
back_again Memory = refl

is_seen : (f : TypeFault) → f ≢ Memory → type_fault_view f ≢ None
is_seen f named e = named (sym (back_again f) ∙ ap back e)

module _ (program : Program) where
  least_of : (o : Option Fault) (u : CUnit) → o ≢ None → AnswersLeastAs program o u → (x : Fault) × (o ≡ Some x) × IsLeast (source_faults_as program u) x
  least_of None u some h = absurd (some refl)
  least_of (Some x) u some h = (x, refl, h)

  -- a tree has one first fault of typing at most
  pub one_mistake : LeastIsThere → (u : CUnit) (f g : TypeFault) → f ≢ Memory → g ≢ Memory → FaultAnswersAs program u f → FaultAnswersAs program u g → f ≡ g
  one_mistake law u f g named also is other =
      let a = least_of (type_fault_view f) u (is_seen f named) is in
      let b = least_of (type_fault_view g) u (is_seen g also) other in
      let same : Some a.0 ≡ Some b.0 = ap (λ (x : Fault). Some x) (law.only (source_faults_as program u) a.0 b.0 a.2 b.2) in
      sym (back_again f) ∙ ap back (a.1 ∙ same ∙ sym b.1) ∙ back_again g

  -- and a faultless one has none
  pub no_mistake : LeastIsThere → (u : CUnit) (f : TypeFault) → f ≢ Memory → source_faults_as program u ≡ [] → FaultAnswersAs program u f → ⊥
  no_mistake law u f named none is =
      let a = least_of (type_fault_view f) u (is_seen f named) is in
      law.none a.0 (subst (λ (fs : List Fault). IsLeast fs a.0) none a.2)
