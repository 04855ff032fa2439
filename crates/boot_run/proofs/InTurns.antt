-- Turns that are made in steps: of the calls before the steps, in them and behind them.
use Rattle.std.proofs.Common.{◌≡◌, ℕ, zero, suc, ◌+◌, List, [], ◌++◌, Option, Some, None, sym, ap, ◌∙◌, arith, append_assoc}
use Rattle.cvm_outside.specs.Outside.{Outside}
use Rattle.cvm_outside.specs.Script.{Call, Who, Performs}
use Rattle.cvm_outside.proofs.ScriptsFollow.{both}
use Rattle.cvm_outside.proofs.RowsPut.{same_script, scripts-none, scripts-suc}
use Rattle.boot_turns.specs.Runs.{Run, Past, state_at, cvm_at}
use Rattle.boot_turns.specs.StepScript.{step_script, steps_script}
use Rattle.boot_turns.specs.LoopScripts.{InSteps}
use Rattle.boot_run.specs.RunCalls.{begin_script, fault_script, turns_script, InTurns}
use Rattle.boot_run.proofs.ScriptsJoined.{with_none, three, two, one}

module _ (r : Run) (p : Past) (k t : ℕ) where
  -- what stands behind the steps, at their end
  abbrev behind : ℕ → List Call
  behind e = fault_script r.view r p e (state_at r e).off (cvm_at r p e).status

  -- they are one script
  pub in_turns : (n : ℕ) (old new : Outside) (blamed : Option Who) → InTurns r p k t n old new blamed → Performs (turns_script r p k t n) old new blamed
  in_turns zero old new blamed made = made
  in_turns (suc n) old new blamed (mid, before, last) =
      let b : List Call = begin_script r k in
      let s : List Call = steps_script r p t n in
      let i : List Call = step_script r p (t + n) in
      let f : List Call = fault_script r.view r p (t + suc n) (state_at r (t + suc n)).off (cvm_at r p (t + suc n)).status in
      same_script ((b ++ s) ++ (i ++ f)) (turns_script r p k t (suc n)) old new blamed
      (sym (append_assoc (b ++ s) i f) ∙ ap (λ (l : List Call). l ++ f) (append_assoc b s i ∙ ap (λ (l : List Call). b ++ l) (sym (scripts-suc (λ j. step_script r p (t + j)) n))))
      (both (b ++ s) (i ++ f) old mid new blamed before last)

  -- what stands before them broke off
  pub turns_cut : (n : ℕ) → n ≡ 0 → (old new : Outside) (whom : Who) → Performs (begin_script r k) old new (Some whom) → InTurns r p k t n old new (Some whom)
  turns_cut zero none old new whom made = one (begin_script r k) (steps_script r p t 0) (behind (t + 0)) old new whom made
  turns_cut (suc n) none old new whom made = absurd (omega (arith, none))

  none_made : (old new : Outside) (blamed : Option Who) → Performs [] old new blamed → Performs (steps_script r p t 0) old new blamed
  none_made old new blamed made = same_script [] (steps_script r p t 0) old new blamed (sym (scripts-none (λ j. step_script r p (t + j)))) made

  -- or they are made, and nothing is behind them
  pub turns_alone : (n : ℕ) (old mid new : Outside) (blamed : Option Who) → (blamed ≡ None → behind (t + n) ≡ []) → Performs (begin_script r k) old mid None → InSteps (λ i. step_script r p (t + i)) n mid new blamed →
      InTurns r p k t n old new blamed
  turns_alone zero old mid new blamed none before made = two (begin_script r k) (steps_script r p t 0) (behind (t + 0)) old mid new blamed none before (none_made mid new blamed made)
  turns_alone (suc n) old mid new blamed none before (at, made, last) =
      (at, both (begin_script r k) (steps_script r p t n) old mid at None before made, with_none (step_script r p (t + n)) (behind (t + suc n)) at new blamed none last)

  -- or what is behind them is
  pub turns_behind : (n : ℕ) (old mid late new : Outside) (blamed : Option Who) → Performs (begin_script r k) old mid None → InSteps (λ i. step_script r p (t + i)) n mid late None → Performs (behind (t + n)) late new blamed →
      InTurns r p k t n old new blamed
  turns_behind zero old mid late new blamed before made last = three (begin_script r k) (steps_script r p t 0) (behind (t + 0)) old mid late new blamed before (none_made mid late None made) last
  turns_behind (suc n) old mid late new blamed before (at, made, of_last) last =
      (at, both (begin_script r k) (steps_script r p t n) old mid at None before made, both (step_script r p (t + n)) (behind (t + suc n)) at late new blamed of_last last)
