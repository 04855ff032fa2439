-- What is live: from before a step to behind it.
use Rattle.std.specs.Prelude.{Ok, IsTrue, nat_eq, ◌&&◌, not}
use Rattle.std.proofs.Common.{◌≡◌, ℕ, ◌+◌, ◌⊎◌, inl, inr, Bool, true, false, ◌||◌, List, [], ◌∷◌, length, refl, sym, ap, ◌∙◌, subst, eqb-true}
use Rattle.std.proofs.lemmas.Bool.{and_parts}
use Rattle.c0_tree.specs.declared.tree.Kind.{Kind}
use Rattle.c0_tree.specs.declared.tree.Kind.TheVariants.{Unresolved, Struct, Field, Global, Local, Function, Primitive}
use Rattle.c0_tree.specs.Tree.{CExpr, var, CStmts, done, next, CFunction}
use Rattle.c0_meaning.specs.Numbered.{is_in_frame}
use Rattle.c0_meaning.specs.Value.{locals, Location}
use Rattle.c0_meaning.specs.State.{C0State}
use Rattle.c0_meaning.specs.Evaluation.{costs, at_no_cost, paying, variable_location, place_of}
use Rattle.c0_meaning.specs.Running.{Work, act_on, finish, again, leave, begin, push}
use Rattle.c0_expr_code.specs.Reads.{Covers}
use Rattle.c0_expr_code.specs.declared.facts.Facts.{Facts}
use Rattle.c0_stmt_code.specs.Code.{facts_behind_stmt, tested_facts, stmt_code}
use Rattle.c0_stmt_code.specs.Live.{is_variable, live_at_place, are_live}
use Rattle.c0_runs.specs.Ahead.{Activation, Text, Block, Ahead, knowing, looped_code, needs, WaitingAreLive, AllAreLive}
use Rattle.c0_runs.proofs.WorkAsCode.{Goes, or_left, or_right}

-- all is live that may be read from where `needed` says it of what is live behind that: before statements and what is left to do behind them
abbrev pub AreLiveBefore : (live : ℕ → Bool) → List Activation → (needed : ℕ → Bool → Bool) → CStmts → List Work → Type 0
AreLiveBefore live others needed rest work = Covers live (λ n. needed n (are_live rest n (needs work n))) × WaitingAreLive others work

-- from these statements on
abbrev pub AreLiveBehind : (live : ℕ → Bool) → List Activation → CStmts → List Work → Type 0
AreLiveBehind live others rest work = AreLiveBefore live others (λ n behind. behind) rest work

-- and from where a value goes to a place before them
abbrev pub AreLiveAtPlace : (live : ℕ → Bool) → List Activation → CExpr → CStmts → List Work → Type 0
AreLiveAtPlace live others p rest work = AreLiveBefore live others (λ n behind. live_at_place p n behind) rest work

-- statements in front of what is left to do
pub needs_push : (rest : CStmts) (work : List Work) (n : ℕ) → needs (push rest work) n ≡ are_live rest n (needs work n)
needs_push done work n = refl
needs_push (next t rest) work n = refl

pub waiting_push : (others : List Activation) (rest : CStmts) (work : List Work) → WaitingAreLive others work → WaitingAreLive others (push rest work)
waiting_push others done work h = h
waiting_push others (next t rest) work h = h

pub pushed_live : (a : Activation) (others : List Activation) (rest : CStmts) (work : List Work) → AreLiveBehind a.live others rest work → AllAreLive (a ∷ others) (push rest work)
pushed_live a others done work h = h
pushed_live a others (next t rest) work h = h

-- statements, and then others
pub both_live : (live : ℕ → Bool) (others : List Activation) (first rest : CStmts) (work : List Work) → Covers live (λ n. are_live first n (are_live rest n (needs work n)))
    → WaitingAreLive others work → AreLiveBehind live others first (push rest work)
both_live live others first rest work h w =
    ((λ n y. h n (subst (λ b. IsTrue (are_live first n b)) (needs_push rest work n) y)), waiting_push others rest work w)

-- what may be read from statements on is read in them, or behind them
pub live_from : (ss : CStmts) (n : ℕ) (b : Bool) → IsTrue (are_live ss n b) → IsTrue (are_live ss n false) ⊎ IsTrue b
live_from ss n true h = inr refl
live_from ss n false h = inl h

-- behind a place the variable that it is is live, and what was live before
pub behind_place : (r v b : Bool) → IsTrue b → IsTrue v ⊎ IsTrue (r || (not v && b))
behind_place r true b h = inl refl
behind_place r false b h = inr (or_right r b h)

-- what is live behind a store to a place
abbrev pub later : (live : ℕ → Bool) → CExpr → ℕ → Bool
later live p n = is_variable p n || live n

pub live_later : (live : ℕ → Bool) (p : CExpr) (n : ℕ) {before : Type 0} → IsTrue (is_variable p n) ⊎ before → (before → IsTrue (live n)) → IsTrue (later live p n)
live_later live p n (inl v) was = or_left (is_variable p n) (live n) v
live_later live p n (inr h) was = or_right (is_variable p n) (live n) (was h)

pub grown_at : (v b : Bool) {here : Type 0} → IsTrue (v || b) → (IsTrue v → here) → IsTrue b ⊎ here
grown_at true b y is = inr (is refl)
grown_at false b y is = inl y

-- the location of a place that is a variable in the frame
pub found_variable : (p : CExpr) (s : C0State) (u : ℕ) (l : Location) (n : ℕ) → place_of p s ≡ costs u (Ok l) → IsTrue (is_variable p n) → l ≡ record { region = locals; path = n ∷ [] }
found_variable (var x) s u l n e v = by_kind x.kind refl (and_parts (is_in_frame x.kind) (nat_eq x.number n) v)
  where
    same_place : (a : Location) (y : ℕ) → costs y (Ok a) ≡ costs u (Ok l) → l ≡ a
    same_place a y q = cc

    by_kind : (k : Kind) → x.kind ≡ k → (is_in_frame x.kind ≡ true) × (nat_eq x.number n ≡ true) → l ≡ record { region = locals; path = n ∷ [] }
    by_kind Local q h =
        let is : paying 1 (at_no_cost (variable_location Local x.number)) ≡ costs u (Ok l) = ap (λ k. paying 1 (at_no_cost (variable_location k x.number))) (sym q) ∙ e in
        same_place (record { region = locals; path = x.number ∷ [] }) 1 is ∙ ap (λ m. record { region = locals; path = m ∷ [] }) (eqb-true x.number n h.1)
    by_kind Unresolved q h = let f : is_in_frame Unresolved ≡ true = ap is_in_frame (sym q) ∙ h.0 in absurd (cc)
    by_kind Struct q h = let f : is_in_frame Struct ≡ true = ap is_in_frame (sym q) ∙ h.0 in absurd (cc)
    by_kind Field q h = let f : is_in_frame Field ≡ true = ap is_in_frame (sym q) ∙ h.0 in absurd (cc)
    by_kind Global q h = let f : is_in_frame Global ≡ true = ap is_in_frame (sym q) ∙ h.0 in absurd (cc)
    by_kind Function q h = let f : is_in_frame Function ≡ true = ap is_in_frame (sym q) ∙ h.0 in absurd (cc)
    by_kind Primitive q h = let f : is_in_frame Primitive ≡ true = ap is_in_frame (sym q) ∙ h.0 in absurd (cc)
found_variable p s u l n e v = absurd (cc)

-- a function whose variables are live that these are
abbrev pub with_live : Activation → (ℕ → Bool) → Activation
with_live a live = record { function = a.function; to = a.to; live = live; facts = a.facts }

-- the code ahead doesn't depend on which variables are live
block_mapped : (x : Text) (f : CFunction) (p q : Facts → ℕ → ℕ → Type 0) → ((fs : Facts) (to left : ℕ) → p fs to left → q fs to left) → (fs : Facts) (k debt : ℕ) (ss : CStmts) → Block x f fs k debt ss p → Block x f fs k debt ss q
block_mapped x f p q on fs k debt done h = (h.0, h.1, h.2, h.3, h.4, h.5, h.6, on h.0 h.3 h.4 h.7)
block_mapped x f p q on fs k debt (next t rest) h = (h.0, block_mapped x f p q on (facts_behind_stmt (x.scope f) fs t) (k + length (stmt_code (x.scope f) fs x.links t)) debt rest h.1)

ahead_with : (x : Text) (a : Activation) (others : List Activation) (live : ℕ → Bool) (work : List Work) (k debt : ℕ) → Ahead x (a ∷ others) k debt work → Ahead x (with_live a live ∷ others) k debt work
ahead_with x a others live [] k debt h = absurd h
ahead_with x a others live (act_on t rest ∷ work) k debt h = (
  h.0,
  block_mapped x a.function (λ fs to left. Goes x a others work fs to left) (λ fs to left. Goes x (with_live a live) others work fs to left)
      (λ fs to left y. ahead_with x (knowing a fs) others live work to left y) (facts_behind_stmt (x.scope a.function) a.facts t) (k + length (stmt_code (x.scope a.function) a.facts x.links t)) debt rest h.1,
)
ahead_with x a others live (again t body rest ∷ work) k debt h = (
  h.0,
  h.1,
  h.2,
  block_mapped x a.function (λ fs to left. Goes x a others work fs to left) (λ fs to left. Goes x (with_live a live) others work fs to left)
      (λ fs to left y. ahead_with x (knowing a fs) others live work to left y) (tested_facts (x.scope a.function) a.facts t) (h.0 + length (looped_code x a.function a.facts t body)) debt rest h.3,
)
ahead_with x a others live (leave answer target ∷ work) k debt h = h
ahead_with x a others live (finish place v rest ∷ work) k debt h = absurd h
ahead_with x a others live (begin n args ∷ work) k debt h = absurd h

pub block_with : (x : Text) (a : Activation) (others : List Activation) (live : ℕ → Bool) (fs : Facts) (k debt : ℕ) (rest : CStmts) (work : List Work) → Block x a.function fs k debt rest (λ fs to left. Goes x a others work fs to left)
    → Block x a.function fs k debt rest (λ fs to left. Goes x (with_live a live) others work fs to left)
block_with x a others live fs k debt rest work h = block_mapped x a.function (λ fs to left. Goes x a others work fs to left) (λ fs to left. Goes x (with_live a live) others work fs to left)
    (λ fs to left y. ahead_with x (knowing a fs) others live work to left y) fs k debt rest h
