-- The begin of a function that has a frame, behind the stack's test: what it leaves, and its steps.
use Rattle.std.specs.Prelude.{◌≡◌, ◌≢◌, ℕ, ◌+◌, ◌-◌, ◌*◌, ◌^◌, ◌<◌, ◌≤◌, ◌⊎◌, Bool, true, List, ◌++◌, length, None, IsTrue}
use Rattle.mips_table.specs.declared.inst.Inst.{Inst}
use Rattle.mips_table.specs.Device.{Idle}
use Rattle.mips_table.specs.Code.{Contents, Behind, World, at_with, Reaches, CodeAt}
use Rattle.c0_expr_code.specs.FrameSetting.{FrameSetting}
use Rattle.c0_stmt_code.specs.Code.{save_code, params_code, locals_code}

-- a frame of the setting's words lies in memory up to word e, and its words may be written
pub record IsFreeFrame (w : World) (st : FrameSetting) (e : ℕ) : Type 0 where
  pub inside : st.frame ≤ e
  pub small : 4 * e < 2 ^ 32
  pub fits : e ≤ w.words
  pub free : (x : ℕ) → e - st.frame ≤ x → x < e → w.kept x ≡ None

-- The frame is made: the return address stands in its first word, where that is asked; the parameters stand from its fourth word on, and of the locals'
-- words behind them those are 0 that are to be cleared. All words outside of the frame stay, and so do all registers but 1 and 2.
pub record FrameMade (st : FrameSetting) (e : ℕ) (calling : Bool) (cleared : ℕ → Bool) (params locals : ℕ) (c c' : Contents) : Type 0 where
  pub saved : calling ≡ true → c'.memory (e - st.frame) ≡ c.regs 31
  pub arguments : (j : ℕ) → j < params → c'.memory ((e - st.frame) + 3 + j) ≡ c.regs (20 + j)
  pub zeros : (j : ℕ) → j < locals → IsTrue (cleared (params + j)) → c'.memory ((e - st.frame) + (3 + params) + j) ≡ 0
  pub others : (x : ℕ) → (x < e - st.frame) ⊎ (e ≤ x) → c'.memory x ≡ c.memory x
  pub special : c'.special ≡ c.special
  pub regs : (x : ℕ) → x ≢ 1 → x ≢ 2 → c'.regs x ≡ c.regs x

-- the code that makes it
abbrev pub making_code : FrameSetting → (calling : Bool) → (cleared : ℕ → Bool) → (params locals : ℕ) → List Inst
making_code st calling cleared params locals = save_code st calling ++ (params_code st params 0 ++ locals_code st cleared locals params)

-- a law: that code makes the frame, in at most 3 steps for each parameter, 3 for each word of the locals, and 6
abbrev pub FramesAreMade : World → Type 0
FramesAreMade w = (st : FrameSetting) (e : ℕ) → IsFreeFrame w st e → (calling : Bool) (cleared : ℕ → Bool) (params locals k : ℕ) (c : Contents) (d : Behind)
    → d.pending ≡ Idle → 3 + params + locals ≡ st.frame → params ≤ 8 → c.regs 29 ≡ 4 * e → CodeAt w k (making_code st calling cleared params locals)
    → (c' : Contents) × FrameMade st e calling cleared params locals c c'
    × Reaches w (3 * params + 3 * locals + 6) (at_with k c d) (at_with (k + length (making_code st calling cleared params locals)) c' d)
