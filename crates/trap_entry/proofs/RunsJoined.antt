-- Runs from one word to another, and how they join.
use Rattle.std.proofs.Common.{◌≡◌, ℕ, ◌+◌, ◌≤◌, Some, List, length, refl, subst}
use Rattle.mips_table.specs.declared.inst.Inst.{Inst}
use Rattle.mips_table.specs.Code.{Contents, Behind, World, at_with, CodeAt, Reaches}
use Rattle.masm.specs.Laws.{RunsCompose, From}
use Rattle.trap_entry.specs.Laws.{RunComesTo}

module _ (w : World) (runs : RunsCompose) where
  -- a run of so many steps at most, with Q at its end
  abbrev pub Run : (k n m : ℕ) → Contents → Behind → (Contents → Behind → Type 0) → Type 0
  Run k n m c d Q = (c' : Contents) × (d' : Behind) × Q c' d' × Reaches w k (at_with n c d) (at_with m c' d')

  pub block : (is : List Inst) (k n : ℕ) (c : Contents) (d : Behind) (Q : Contents → Behind → Type 0) → CodeAt w n is → From w is k c d Q → Run k n (n + length is) c d Q
  block is k n c d Q at h = h.by n c d at (refl, refl)

  pub join : (k j n m l : ℕ) (c : Contents) (d : Behind) (Q R : Contents → Behind → Type 0) → Run k n m c d Q → ((c1 : Contents) (d1 : Behind) → Q c1 d1 → Run j m l c1 d1 R) → Run (k + j) n l c d R
  join k j n m l c d Q R x h =
      let y = h x.0 x.1 x.2 in
      (y.0, y.1, y.2, runs.joined w k j _ _ _ x.3 y.3)

  pub later : (k j n m l : ℕ) (c : Contents) (d : Behind) (Q : Contents → Behind → Type 0) → k ≤ j → m ≡ l → Run k n m c d Q → Run j n l c d Q
  later k j n m l c d Q le e x = (x.0, x.1, x.2, runs.later w k j _ _ le (subst (λ l. Reaches w k (at_with n c d) (at_with l x.0 x.1)) e x.3))

  pub comes : (k n m : ℕ) (i : Inst) (c : Contents) (d : Behind) (Q : Contents → Behind → Type 0) → Run k n m c d Q → w.code m ≡ Some i → RunComesTo w k n m i c d Q
  comes k n m i c d Q x at = record { contents = x.0; behind = x.1; done = x.2; reaches = x.3; stands = at }
