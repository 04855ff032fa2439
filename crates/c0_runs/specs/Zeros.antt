-- Variables at the start of a run: where all of their words are 0, their zeros stand.
use Rattle.std.specs.Prelude.{◌≡◌, ℕ, ◌+◌, ◌<◌, ◌≤◌, List}
use Rattle.c0_meaning.specs.Env.{Typed}
use Rattle.c0_meaning.specs.Words.{all_words}
use Rattle.c0_meaning.specs.Value.{group, zeros_of}
use Rattle.c0_meaning.specs.TypedState.{StoreTyping, types_of, AllFit}
use Rattle.c0_expr_runs.specs.Laws.{IsOpened}
use Rattle.c0_expr_code.specs.Scope.{Scope}
use Rattle.c0_expr_runs.specs.Bases.{Bases, RegionHeld}

-- so many words from a word on are 0
abbrev pub AreZeros : (ℕ → ℕ) → (from count : ℕ) → Type 0
AreZeros m from count = (k : ℕ) → from ≤ k → k < from + count → m k ≡ 0

-- A LAW: the zeros of variables of these types stand wherever so many words are 0
abbrev pub ZerosAreHeld : Type 0
ZerosAreHeld = (sc : Scope) (p : Bases) (layout : StoreTyping) (m : ℕ → ℕ) (from : ℕ) (ds : List Typed) → IsOpened sc.env.structs
    → AllFit sc.env.structs layout (types_of ds) (zeros_of sc.env.structs ds) → AreZeros m from (all_words sc.env.structs ds)
    → RegionHeld sc p m from (types_of ds) (group (zeros_of sc.env.structs ds))
