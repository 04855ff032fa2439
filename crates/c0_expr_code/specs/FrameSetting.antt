-- What the code of a function's typed expressions depends on, beside the expressions.
use Rattle.std.specs.Prelude.{ℕ, ◌*◌, ◌-◌, ◌%◌, ◌^◌, Bool}
use Rattle.c0_meaning.specs.Operators.{KernelFault}
use Rattle.c0_typed.specs.Tree.{TExpr}
use Rattle.c0_expr_code.specs.declared.facts.Facts.{Facts}
use Rattle.c0_expr_code.specs.Facts.{facts_told}
use Rattle.c0_expr_code.specs.Scope.{Scope}

-- Whether the function keeps its variables in registers; the words of its frame; where each fault leaves to, as a word number; and what is known of its
-- variables.
pub record FrameSetting : Type 0 where
  pub in_registers : Bool
  pub frame : ℕ
  pub exit : KernelFault → ℕ
  pub facts : Facts

-- that of a scope
abbrev pub frame_setting : Scope → Facts → FrameSetting
frame_setting sc fs = record { in_registers = sc.in_registers; frame = sc.frame; exit = sc.exit; facts = fs }

-- with other facts
abbrev pub with_facts : FrameSetting → Facts → FrameSetting
with_facts st fs = record { in_registers = st.in_registers; frame = st.frame; exit = st.exit; facts = fs }

-- once a test came out so
abbrev pub where_told : FrameSetting → TExpr → Bool → FrameSetting
where_told st e b = with_facts st (facts_told e b st.facts)

-- the bytes from the end of a frame of so many words back to its begin, below 0, modulo 2 ^ 32
abbrev pub bytes_back : ℕ → ℕ
bytes_back frame = 2 ^ 32 - 4 * frame % 2 ^ 32

abbrev pub frame_back : FrameSetting → ℕ
frame_back st = bytes_back st.frame
