-- What is left to do, as code that stands ahead: where each work item's code is, and how control comes from one to the next.
use Rattle.std.specs.Prelude.{◌≡◌, ℕ, zero, suc, ◌+◌, ◌<◌, ◌≤◌, Bool, true, false, ◌||◌, IsTrue, List, [], ◌∷◌, ◌++◌, length, Some}
use Rattle.mips_table.specs.declared.inst.Inst.{Inst}
use Rattle.mips_table.specs.Code.{World, CodeAt}
use Rattle.c0_tree.specs.Primitives.{CPrimitive}
use Rattle.c0_tree.specs.Size.{nodes, stmt_nodes, stmts_nodes}
use Rattle.c0_tree.specs.Tree.{CExpr, CStmt, CStmts, done, next, CFunction, CUnit}
use Rattle.c0_meaning.specs.Ty.{Ty, bool, ty_of}
use Rattle.c0_meaning.specs.Env.{Env, env_of}
use Rattle.c0_meaning.specs.Limits.{locals_of}
use Rattle.c0_meaning.specs.Statement.{MAX_NEED, new_need}
use Rattle.c0_meaning.specs.Numbered.{IsNumberedLeft, IsNumberedTest, IsNumbered, AreNumbered}
use Rattle.c0_meaning.specs.Running.{Target, into, outward, Work, act_on, again, leave}
use Rattle.c0_typed.specs.Leaf.{are_calling, are_free_of_calls, calls_in, is_calling, is_free_of_calls}
use Rattle.c0_expr_code.specs.declared.facts.Facts.{Facts}
use Rattle.c0_expr_code.specs.Facts.{IsWithin}
use Rattle.c0_expr_code.specs.Scope.{Scope}
use Rattle.c0_expr_code.specs.Reads.{reads, Covers}
use Rattle.c0_stmt_code.specs.Live.{live_at_place, is_live, are_live}
use Rattle.c0_stmt_code.specs.Code.{Links, skip, answer_code, answered_facts, facts_behind_stmt, tested_facts}
use Rattle.c0_stmt_code.specs.Code.{told_facts, turn_facts, while_code, stmt_code, stmts_code, return_code}

-- a function that is under way, the word of the code to which it returns, which of its variables stand in the machine, and what is known of them
pub record Activation : Type 0 where
  pub function : CFunction
  pub to : ℕ
  pub live : ℕ → Bool
  pub facts : Facts

-- where this is known of its variables
abbrev pub knowing : Activation → Facts → Activation
knowing a fs = record { function = a.function; to = a.to; live = a.live; facts = fs }

-- the largest number of nodes of what stands in a function
abbrev pub MAX_NODES : ℕ
MAX_NODES = 2000

-- What is the same for all functions of a unit: the world in which its code runs, the primitives, the unit, each function's scope, and where
-- the first function returns to.
pub record Text : Type 0 where
  pub w : World
  pub table : List CPrimitive
  pub unit : CUnit
  pub scope : CFunction → Scope
  pub links : Links
  pub back : ℕ

-- the environment of a function's body
abbrev pub body_env : Text → CFunction → Env
body_env x f = env_of x.table x.unit (f.params ++ locals_of f.body)

-- so many jumps lead from one word of the code to another: those over the other branches of `if`s whose first branch is at its end
abbrev pub Skips : World → ℕ → ℕ → ℕ → Type 0
Skips w zero k to = k ≡ to
Skips w (suc n) k to = (over : ℕ) × (over < 32768) × (w.code k ≡ Some (skip over)) × Skips w n (k + 1 + over) to

-- A statement of a function stands at a word, by what is known before it. Functions whose variables stand in registers call nothing.
pub record StatementStands (x : Text) (f : CFunction) (fs : Facts) (k : ℕ) (t : CStmt) : Type 0 where
  pub typed : IsNumbered (body_env x f) t
  pub few : stmt_nodes t ≤ MAX_NODES
  pub free : (x.scope f).in_registers ≡ true → IsTrue (is_free_of_calls t)
  pub calls : IsTrue (is_calling t) → calls_in f.body ≡ true
  pub code : CodeAt x.w k (stmt_code (x.scope f) fs x.links t)

-- Statements of a function stand at a word, each behind the one before it, by what is known there. Behind the last, jumps lead to where `follows`
-- holds with some of what is known then. `debt` is how many jumps are ahead in all, those of `follows` among them.
abbrev pub Block : Text → CFunction → Facts → (at debt : ℕ) → CStmts → (follows : Facts → ℕ → ℕ → Type 0) → Type 0
Block x f fs k debt done follows =
    (known : Facts) × IsWithin known fs × (n : ℕ) × (to : ℕ) × (left : ℕ) × (debt ≡ n + left) × Skips x.w n k to × follows known to left
Block x f fs k debt (next t rest) follows =
    StatementStands x f fs k t × Block x f (facts_behind_stmt (x.scope f) fs t) (k + length (stmt_code (x.scope f) fs x.links t)) debt rest follows

-- a place that an answer of a type goes to, which is found with free registers from 8 on
pub record HasAnswerPlace (x : Text) (f : CFunction) (place : CExpr) (t : Ty) : Type 0 where
  pub left : IsNumberedLeft (body_env x f) place t
  pub shallow : new_need place ≤ MAX_NEED
  pub few : nodes place ≤ MAX_NODES

-- An answer's place stands at a word, by some of what is known before; and what is known after is some of what is known once the answer has gone
-- there.
pub record AnswerStands (x : Text) (f : CFunction) (fs : Facts) (k : ℕ) (place : CExpr) (t : Ty) : Type 0 where
  pub there : HasAnswerPlace x f place t
  pub before : Facts
  pub fewer : IsWithin before fs
  pub after : Facts
  pub later : IsWithin after (answered_facts (x.scope f) fs place)
  pub code : CodeAt x.w k (answer_code (x.scope f) before place)

-- where an answer goes: to a place of the caller, whose code and statements behind it stand where the callee returns to; or out
abbrev pub Awaits : Text → List Activation → (to debt : ℕ) → Ty → Target → List Work → (List Activation → ℕ → ℕ → Type 0) → Type 0
Awaits x (a ∷ rest) to debt t (into place behind) work follows =
    (h : AnswerStands x a.function a.facts to place t)
    × Block x a.function h.after (to + length (answer_code (x.scope a.function) h.before place)) debt behind (λ fs. follows (knowing a fs ∷ rest))
Awaits x [] to debt t outward [] follows = to ≡ x.back
Awaits x activations to debt t target work follows = ⊥

-- the code of a loop's body, and of the loop, by what is known before each test
abbrev pub loop_body : Text → CFunction → Facts → CExpr → CStmts → List Inst
loop_body x f fs t body = stmts_code (x.scope f) (told_facts (x.scope f) fs t true) x.links body

abbrev pub looped_code : Text → CFunction → Facts → CExpr → CStmts → List Inst
looped_code x f fs t body = while_code (x.scope f) fs t (loop_body x f fs t body)

-- a loop of a function stands at a word, by what is known before each test: its body ends nothing of it
pub record LoopStands (x : Text) (f : CFunction) (fs : Facts) (k : ℕ) (t : CExpr) (body : CStmts) : Type 0 where
  pub test : IsNumberedTest (body_env x f) t bool
  pub body_typed : AreNumbered (body_env x f) body
  pub few : nodes t + stmts_nodes body ≤ MAX_NODES
  pub free : (x.scope f).in_registers ≡ true → IsTrue (are_free_of_calls body)
  pub calls : IsTrue (are_calling body) → calls_in f.body ≡ true
  pub stays : IsWithin fs (turn_facts (x.scope f) fs body)
  pub code : CodeAt x.w k (looped_code x f fs t body)

-- a function's answer and its return stand at a word, by what is known there
pub record ReturnStands (x : Text) (f : CFunction) (fs : Facts) (k : ℕ) (answer : CExpr) : Type 0 where
  pub test : IsNumberedTest (body_env x f) answer (ty_of f.answer)
  pub few : nodes answer ≤ MAX_NODES
  pub code : CodeAt x.w k (return_code (x.scope f) fs (calls_in f.body) answer)

-- what is left to do in these functions, the newest first, stands ahead of a word
abbrev pub Ahead : Text → List Activation → (at debt : ℕ) → List Work → Type 0
Ahead x (a ∷ rest) k debt (act_on t behind ∷ work) =
    Block x a.function a.facts k debt (next t behind) (λ fs to left. Ahead x (knowing a fs ∷ rest) to left work)
Ahead x (a ∷ rest) k debt (again t body behind ∷ work) =
    (from : ℕ) × LoopStands x a.function a.facts from t body × (k ≡ from + 1 + length (loop_body x a.function a.facts t body))
    × Block x a.function (tested_facts (x.scope a.function) a.facts t) (from + length (looped_code x a.function a.facts t body)) debt behind
    (λ fs to left. Ahead x (knowing a fs ∷ rest) to left work)
Ahead x (a ∷ rest) k debt (leave answer target ∷ work) =
    ReturnStands x a.function a.facts k answer × Awaits x rest a.to debt (ty_of a.function.answer) target work (λ others to left. Ahead x others to left work)
Ahead x activations k debt work = ⊥

-- which variables of the function that runs what is left to do may read before it assigns them
abbrev pub needs : List Work → ℕ → Bool
needs (act_on t behind ∷ work) n = is_live t n (are_live behind n (needs work n))
needs (again t body behind ∷ work) n = reads t n || (are_live behind n (needs work n) || are_live body n false)
needs (leave answer target ∷ work) n = reads answer n
needs work n = false

-- where an answer goes to a place of the caller, all that may be read from there on is live, and in those that wait below
abbrev pub AnswerIsLive : List Activation → Target → List Work → (List Activation → Type 0) → Type 0
AnswerIsLive (a ∷ rest) (into place behind) work below = Covers a.live (λ n. live_at_place place n (are_live behind n (needs work n))) × below rest
AnswerIsLive activations target work below = Unit {0}

-- in each function that waits all is live that may be read in what is left to do
abbrev pub WaitingAreLive : List Activation → List Work → Type 0
WaitingAreLive rest (act_on t behind ∷ work) = WaitingAreLive rest work
WaitingAreLive rest (again t body behind ∷ work) = WaitingAreLive rest work
WaitingAreLive rest (leave answer target ∷ work) = AnswerIsLive rest target work (λ below. WaitingAreLive below work)
WaitingAreLive rest work = Unit {0}

-- and in the function that runs
abbrev pub AllAreLive : List Activation → List Work → Type 0
AllAreLive (a ∷ rest) work = Covers a.live (needs work) × WaitingAreLive rest work
AllAreLive [] work = Unit {0}
