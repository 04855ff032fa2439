-- Scripts of a run put together: rows of a sink as scripts, parts behind parts, and which turns of a boot add no row.
use Rattle.std.proofs.Common.{◌≡◌, ℕ, zero, suc, ◌<◌, ◌≤◌, Option, Some, None, List, [], ◌∷◌, ◌++◌, length, refl, sym, ap, ◌∙◌, subst, arith, ⊎_elim, append-nil, append_assoc}
use Rattle.std.specs.Prelude.{bit_or}
use Rattle.std.proofs.lemmas.List.{length-append}
use Rattle.std.proofs.lemmas.Bool.{cases_lt}
use Rattle.cvm_outside.specs.Outside.{Outside, Files, Output, output, drive}
use Rattle.cvm_outside.specs.declared.sink.Sink as sink_of
use Rattle.cvm_outside.specs.declared.sectors.Sectors as sectors_of
use Rattle.cvm_outside.specs.Script.{Call, Printed, Who, Performs, done, Puts}
use Rattle.cvm_outside.proofs.ScriptsFollow.{both, first}
use Rattle.cvm_outside.proofs.PartsMakeTheWhole.{append_known-nil}
use Rattle.cvm_outside.proofs.RowsPut.{performed, same_script}
use Rattle.mips_table.specs.Device as device
use Rattle.mips_table.specs.Machine.{State}
use Rattle.mips_table.specs.Turns.{lines_of_turn}
use Rattle.cvm_model.specs.Cvm.{System, Status, Running, Halted, Faulted, Cvm, IsCvm, Begin, Steps, Traps, Interrupts, begin, turn, turn_by, cvm}
use Rattle.cvm_model.specs.declared.row.Row.{Row}
use Rattle.boot_turns.specs.RunMachines.{RunMachines, RowsGrow}
use Rattle.boot_turns.specs.StepScript.{prints}
use Rattle.boot_run.specs.Closing.{says}

-- an outside of a sink and a disk
abbrev pub at : {O D : Type 0} → sink_of.Ghosts O → sectors_of.Ghosts D → Files → O → D → Outside
at text told shelf o d = record { shelf = shelf; sink = output text o; disk = drive told d }

-- nothing is put
none_same : (old new : Output) → Puts [] old new None → new ≡ old
none_same old new p = p.by ∙ ap (λ t. record old { text = t }) (append_known-nil old.text)

module _ {O D : Type 0} (text : sink_of.Ghosts O) (told : sectors_of.Ghosts D) (shelf : Files) (o o1 : O) (d : D) where
  pub none_put : (rows : List ℕ) → rows ≡ [] → Puts rows (output text o) (output text o1) None → Performs [] (at text told shelf o d) (at text told shelf o1 d) None
  none_put rows e p =
      let same : output text o1 ≡ output text o = none_same (output text o) (output text o1) (subst (λ (l : List ℕ). Puts l (output text o) (output text o1) None) e p) in
      subst (λ (q : Output). Performs [] (at text told shelf o d) (record { shelf = shelf; sink = q; disk = drive told d }) None) (sym same) (done _)

  pub says_put : (rows : List ℕ) (blamed : Option Who) → Puts rows (output text o) (output text o1) blamed → Performs (says rows) (at text told shelf o d) (at text told shelf o1 d) blamed
  says_put rows blamed p = performed (Some rows) rows shelf (drive told d) (output text o) (output text o1) blamed refl p

  -- rows of which nothing is told
  pub some_put : (rows : List ℕ) (blamed : Option Who) → Puts rows (output text o) (output text o1) blamed → Performs (Printed None ∷ []) (at text told shelf o d) (at text told shelf o1 d) blamed
  some_put rows blamed p = performed None rows shelf (drive told d) (output text o) (output text o1) blamed tt p

  -- rows for which no call is made where there are none
  pub prints_put : (rows : List ℕ) (blamed : Option Who) → (rows ≡ [] → blamed ≡ None) → Puts rows (output text o) (output text o1) blamed → Performs (prints rows) (at text told shelf o d) (at text told shelf o1 d) blamed
  prints_put [] blamed fine p =
      let e = fine refl in
      subst (λ (w : Option Who). Performs [] (at text told shelf o d) (at text told shelf o1 d) w) (sym e) (none_put [] refl (subst (λ (w : Option Who). Puts [] (output text o) (output text o1) w) e p))
  prints_put (b ∷ rows) blamed fine p = says_put (b ∷ rows) blamed p

-- a script behind another, of which nothing is left to do where that is done
pub with_none : (a b : List Call) (old new : Outside) (blamed : Option Who) → (blamed ≡ None → b ≡ []) → Performs a old new blamed → Performs (a ++ b) old new blamed
with_none a b old new None none p = same_script a (a ++ b) old new None (sym (append-nil a) ∙ ap (λ (l : List Call). a ++ l) (sym (none refl))) p
with_none a b old new (Some whom) none p = first a b old new whom p

-- three, one after another
pub three : (a b c : List Call) (old mid late new : Outside) (blamed : Option Who) → Performs a old mid None → Performs b mid late None → Performs c late new blamed → Performs (a ++ b ++ c) old new blamed
three a b c old mid late new blamed p q s = both (a ++ b) c old late new blamed (both a b old mid late None p q) s

pub two : (a b c : List Call) (old mid new : Outside) (blamed : Option Who) → (blamed ≡ None → c ≡ []) → Performs a old mid None → Performs b mid new blamed → Performs (a ++ b ++ c) old new blamed
two a b c old mid new blamed none p q = with_none (a ++ b) c old new blamed none (both a b old mid new blamed p q)

pub one : (a b c : List Call) (old new : Outside) (whom : Who) → Performs a old new (Some whom) → Performs (a ++ b ++ c) old new (Some whom)
one a b c old new whom p = first (a ++ b) c old new whom (first a b old new whom p)

no_more : (a d e : List Row) → a ≡ a ++ d ++ e → d ≡ []
no_more a d e h = none d (let n = ap (λ (l : List Row). length l) h in omega (arith, n, length-append (a ++ d) e, length-append a d))
  where
    none : (d : List Row) → length d ≡ 0 → d ≡ []
    none [] h = refl
    none (r ∷ d) h = absurd (omega (arith, h))

module _ (x : device.Environment) (y : System) (s : State) (late held : ℕ) (m : RunMachines x y s late held) where
  one_more : (n : ℕ) (c after : Cvm) → IsCvm y (lines_of_turn x s) n c → IsCvm y (lines_of_turn x s) (suc n) after → (d : List Row) × (after.rows ≡ c.rows ++ d)
  one_more n c after a b = by c.status refl
    where
      stays : IsCvm y (lines_of_turn x s) (suc n) c → (d : List Row) × (after.rows ≡ c.rows ++ d)
      stays h = ([], ap (λ (z : Cvm). z.rows) (m.same (suc n) after c b h) ∙ sym (append-nil c.rows))

      grown : (w : Begin) → RowsGrow n c after w → (d : List Row) × (after.rows ≡ c.rows ++ d)
      grown (Steps at) h = ([], h ∙ sym (append-nil c.rows))
      grown (Traps cause edata at) h = (_, h.rows)
      grown (Interrupts cause edata at pending) h = (_, h.rows)

      by : (st : Status) → c.status ≡ st → (d : List Row) × (after.rows ≡ c.rows ++ d)
      by Running e = grown (begin n c.core (bit_or c.pending (lines_of_turn x s n))) (m.rows n c after a e b)
      by Halted e = stays (record { units = a.units; is = ap (turn y a.units n (lines_of_turn x s n)) a.is ∙ ap (turn_by y a.units n (lines_of_turn x s n) c) e })
      by (Faulted f) e = stays (record { units = a.units; is = ap (turn y a.units n (lines_of_turn x s n)) a.is ∙ ap (turn_by y a.units n (lines_of_turn x s n) c) e })

  rows_behind : (a b : ℕ) (ca cb : Cvm) → a ≤ b → IsCvm y (lines_of_turn x s) a ca → IsCvm y (lines_of_turn x s) b cb → (d : List Row) × (cb.rows ≡ ca.rows ++ d)
  rows_behind a zero ca cb le ia ib =
      let e : a ≡ 0 = omega (arith, le) in
      ([], ap (λ (z : Cvm). z.rows) (m.same 0 cb ca ib (subst (λ n. IsCvm y (lines_of_turn x s) n ca) e ia)) ∙ sym (append-nil ca.rows))
  rows_behind a (suc b) ca cb le ia ib = ⊎_elim
      (λ (lt : a < suc b).
      let h = before (cvm y (lines_of_turn x s) ib.units b) ib.is in
      let mid : IsCvm y (lines_of_turn x s) b h.0 = record { units = ib.units; is = h.1 } in
      let p = rows_behind a b ca h.0 (omega (arith, lt)) ia mid in
      let q = one_more b h.0 cb mid ib in
      (p.0 ++ q.0, q.1 ∙ ap (λ (l : List Row). l ++ q.0) p.1 ∙ append_assoc ca.rows p.0 q.0))
      (λ (ge : suc b ≤ a).
      let e : a ≡ suc b = omega (arith, le, ge) in
      ([], ap (λ (z : Cvm). z.rows) (m.same (suc b) cb ca ib (subst (λ n. IsCvm y (lines_of_turn x s) n ca) e ia)) ∙ sym (append-nil ca.rows)))
      (cases_lt a (suc b))
    where
      before : (o : Option Cvm) → turn y ib.units b (lines_of_turn x s b) o ≡ Some cb → (c : Cvm) × (o ≡ Some c)
      before None e = absurd (cc)
      before (Some c) e = (c, refl)

  -- between two turns that have the same each has those
  pub same_rows : (a i b : ℕ) (ca ci cb : Cvm) → a ≤ i → i ≤ b → IsCvm y (lines_of_turn x s) a ca → IsCvm y (lines_of_turn x s) i ci → IsCvm y (lines_of_turn x s) b cb → cb.rows ≡ ca.rows → ci.rows ≡ ca.rows
  same_rows a i b ca ci cb low high ia ii ib same =
      let p = rows_behind a i ca ci low ia ii in
      let q = rows_behind i b ci cb high ii ib in
      let none : p.0 ≡ [] = no_more ca.rows p.0 q.0 (sym same ∙ q.1 ∙ ap (λ (l : List Row). l ++ q.0) p.1) in
      p.1 ∙ ap (λ (l : List Row). ca.rows ++ l) none ∙ append-nil ca.rows
