-- How rows and journals grow along what the abstract machine says of a run.
use Rattle.std.specs.Prelude.{Some, bit_or}
use Rattle.std.proofs.Common.{◌≡◌, ℕ, zero, suc, ◌<◌, ◌≤◌, List, [], ◌++◌, length, refl, sym, ap, ◌∙◌, subst, arith, ⊎_elim, append-nil, append_assoc}
use Rattle.std.proofs.lemmas.Bool.{cases_lt}
use Rattle.mips_table.specs.Turns.{TurnLaws}
use Rattle.cvm_model.specs.Cvm.{Cvm, IsCvm, Status, Running, Halted, Faulted, Begin, Steps, Traps, Interrupts, begin, turn, turn_by, first_core, first_cvm, map_of}
use Rattle.cvm_model.specs.Kernel.{JournalEntry}
use Rattle.cvm_model.specs.Stands.{CoreFits}
use Rattle.cvm_model.specs.declared.row.Row.{Row}
use Rattle.boot_turns.specs.Entries.{TraceGrows, step_entries}
use Rattle.boot_turns.specs.JournalText.{RowsFollow}
use Rattle.boot_turns.specs.RunMachines.{RunMachines, RowsGrow}
use Rattle.boot_turns.specs.Trace.{Shown}
use Rattle.boot_turns.specs.declared.answers.View.{View}
use Rattle.boot_turns.specs.declared.answers.View.TheVariants.{Trace}
use Rattle.boot_turns.specs.Runs.{Run, Past, IsPast, IsShown, turns_at, steps_made, lines_met, cvm_at}
use Rattle.boot_run.specs.RunEnds.{SeesUser}
use Rattle.boot_run.proofs.AbstractRuns.{Founded, on_before, turns_up_to}

-- what the laws say of a run from a start
pub record Known (r : Run) : Type 0 where
  pub late : ℕ
  pub held : ℕ
  pub machines : RunMachines r.around r.system r.first late held
  pub traces : (u : ℕ) → 1 ≤ u → u ≤ length r.system.boot.users → TraceGrows r.around r.system r.first u
  pub core : CoreFits (map_of r.system.boot) (first_core r.system)
  pub user : SeesUser r.view (length r.system.boot.users)
  pub count : TurnLaws
  pub rows : RowsFollow

pub founded : (r : Run) → Known r → Founded r
founded r k = record { defined = k.machines.defined; traces = k.traces; user = k.user; count = k.count }

-- THE ROWS of a further turn stand behind those before it
module _ (r : Run) (k : Known r) where
  abbrev lines : ℕ → ℕ
  lines = lines_met r

  one_more : (n : ℕ) (c after : Cvm) → IsCvm r.system lines n c → IsCvm r.system lines (suc n) after → (d : List Row) × (after.rows ≡ c.rows ++ d)
  one_more n c after a b = by c.status refl
    where
      stays : IsCvm r.system lines (suc n) c → (d : List Row) × (after.rows ≡ c.rows ++ d)
      stays h = ([], ap (λ (x : Cvm). x.rows) (k.machines.same (suc n) after c b h) ∙ sym (append-nil c.rows))

      grown : (w : Begin) → RowsGrow n c after w → (d : List Row) × (after.rows ≡ c.rows ++ d)
      grown (Steps at) h = ([], h ∙ sym (append-nil c.rows))
      grown (Traps cause edata at) h = (_, h.rows)
      grown (Interrupts cause edata at pending) h = (_, h.rows)

      by : (st : Status) → c.status ≡ st → (d : List Row) × (after.rows ≡ c.rows ++ d)
      by Running e = grown (begin n c.core (bit_or c.pending (lines n))) (k.machines.rows n c after a e b)
      by Halted e = stays (record { units = a.units; is = ap (turn r.system a.units n (lines n)) a.is ∙ ap (turn_by r.system a.units n (lines n) c) e })
      by (Faulted f) e = stays (record { units = a.units; is = ap (turn r.system a.units n (lines n)) a.is ∙ ap (turn_by r.system a.units n (lines n) c) e })

  module _ (p : Past) (is : IsPast r p) where
    rows_behind : (m n : ℕ) → m ≤ n → n ≤ turns_at r (steps_made r) → (d : List Row) × ((p.cvm n).rows ≡ (p.cvm m).rows ++ d)
    rows_behind m zero le few = let e : m ≡ 0 = omega (arith, le) in ([], sym (append-nil (p.cvm 0).rows) ∙ ap (λ (i : ℕ). (p.cvm i).rows ++ []) (sym e))
    rows_behind m (suc n) le few = ⊎_elim
        (λ (lt : m < suc n).
        let h = rows_behind m n (omega (arith, lt)) (omega (arith, few)) in
        let g = one_more n (p.cvm n) (p.cvm (suc n)) (is.turns n (omega (arith, few))) (is.turns (suc n) few) in
        (h.0 ++ g.0, g.1 ∙ ap (λ (l : List Row). l ++ g.0) h.1 ∙ append_assoc (p.cvm m).rows h.0 g.0))
        (λ (ge : suc n ≤ m). let e : m ≡ suc n = omega (arith, le, ge) in ([], sym (append-nil (p.cvm (suc n)).rows) ∙ ap (λ (i : ℕ). (p.cvm i).rows ++ []) (sym e)))
        (cases_lt m (suc n))

    pub rows_grow : (t u : ℕ) → t ≤ u → u ≤ steps_made r → (d : List Row) × ((cvm_at r p u).rows ≡ (cvm_at r p t).rows ++ d)
    rows_grow t u le few = rows_behind (turns_at r t) (turns_at r u) (turns_up_to k.count r t u le) (turns_up_to k.count r u (steps_made r) few)

    -- and the entries of a user's journal
    pub journal_grows : (u : ℕ) → 1 ≤ u → u ≤ length r.system.boot.users → r.view ≡ Trace u → (t : ℕ) → t < steps_made r → (e : List JournalEntry) × (p.shown (suc t) ≡ p.shown t ++ e)
    journal_grows u some most v t lt =
        let g = k.traces u some most in
        let now : Shown r.around r.first r.system u t (p.shown t) = subst (λ (w : View). IsShown w r t (p.shown t)) v (is.user t (omega (arith, lt))) in
        let then_ : Shown r.around r.first r.system u (suc t) (p.shown (suc t)) = subst (λ (w : View). IsShown w r (suc t) (p.shown (suc t))) v (is.user (suc t) (omega (arith, lt))) in
        let m = g.more t (p.shown t) (on_before k.count r t lt) now in
        (step_entries r.around r.first u t m.words, g.one (suc t) (p.shown (suc t)) (p.shown t ++ step_entries r.around r.first u t m.words) then_ m.shown)

    pub journal_starts : (u : ℕ) → 1 ≤ u → u ≤ length r.system.boot.users → r.view ≡ Trace u → p.shown 0 ≡ []
    journal_starts u some most v =
        let g = k.traces u some most in
        g.one 0 (p.shown 0) [] (subst (λ (w : View). IsShown w r 0 (p.shown 0)) v (is.user 0 (omega arith))) g.none

    same_some : (a b : Cvm) → Some a ≡ Some b → a ≡ b
    same_some a b e = cc

    pub first_is : (c : Cvm) → IsCvm r.system lines 0 c → c ≡ first_cvm r.system
    first_is c h = sym (same_some (first_cvm r.system) c h.is)
