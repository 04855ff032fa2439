-- What a save leaves where a call of its script fails.
use Rattle.std.specs.Prelude.{Option, Some, None, if◌then◌else◌}
use Rattle.std.proofs.Common.{◌≡◌, ◌⊎◌, inl, inr, ℕ, ◌+◌, Bool, true, false, List, [], ◌∷◌, ◌++◌, refl, sym, ap, ◌∙◌, subst, arith, append-nil}
use Rattle.cvm_outside.specs.Told.{IsCutOff, retold}
use Rattle.cvm_outside.specs.Outside.{Outside}
use Rattle.cvm_outside.specs.Script.{Call, Printed, Read, Wrote, Got, Stored, Who, TheSink, TheDisk, TheShelf, Performs, done as all_done, breaks, goes_on, CallDone, CallFailed, spoken, sectors_after}
use Rattle.cvm_outside.specs.ScriptLaws.{ScriptsTell, ScriptsStore}
use Rattle.cvm_model.specs.Cvm.{Status as CvmStatus, Running, Halted, Faulted}
use Rattle.boot_turns.specs.declared.answers.View.{View}
use Rattle.boot_turns.specs.declared.answers.View.TheVariants.{Boot}
use Rattle.boot_turns.specs.Runs.{Run, Past, IsPast, state_at, steps_made, has_ended, cvm_at}
use Rattle.boot_turns.specs.StepScript.{steps_script}
use Rattle.boot_run.specs.Closing.{opening_script, closing_script}
use Rattle.boot_run.specs.RunScript.{saved_row, saved_bytes, leaving_script, save_script}
use Rattle.run_scripts.specs.AskedRuns.{text_at}
use Rattle.run_scripts.specs.Shapes.{gets_in, puts_in}
use Rattle.run_scripts.specs.Faults.{HasPrinted, PrintedWithin, Stand, AfterDisk, AfterSink, CalledBy, up_to_step, IsLeft, IsReported}
use Rattle.run_scripts.proofs.BrokenScripts.{AllOf, Broken, in_first, in_second, both_done, part, nothing_blames, not_none}
use Rattle.run_scripts.proofs.ScriptCalls.{Plain, plain, plain_both, plain_write, plain_stays}
use Rattle.run_scripts.proofs.ScriptsMadeOf.{of_report, of_steps}
use Rattle.run_scripts.proofs.RowsAlongRuns.{Known}
use Rattle.run_scripts.proofs.RunFaults.{Stands, steps_done, steps_unsaid, steps_undone, report_unsaid, report_undone, loaded, load_undone, load_said, broken_within}
use Rattle.run_scripts.proofs.ScriptsTell.{Tells, says_tells, opening_tells}

-- no shelf fails in scripts that call none
spares_by : (a : List Call) (old new : Outside) (b : Option Who) → gets_in a ≡ [] → puts_in a ≡ [] → Performs a old new b → b ≡ Some TheShelf → ⊥
spares_by a old new b g u (all_done _) e = cc
spares_by a old new b g u (breaks (Printed t) rest _ _ f) e = cc
spares_by a old new b g u (breaks (Read q) rest _ _ f) e = cc
spares_by a old new b g u (breaks (Wrote q ws) rest _ _ f) e = cc
spares_by a old new b g u (breaks (Got n) rest _ _ f) e = cc
spares_by a old new b g u (breaks (Stored n bs) rest _ _ f) e = cc
spares_by a old new b g u (goes_on (Printed t) rest _ mid _ _ d p) e = spares_by rest mid new b g u p e
spares_by a old new b g u (goes_on (Read q) rest _ mid _ _ d p) e = spares_by rest mid new b g u p e
spares_by a old new b g u (goes_on (Wrote q ws) rest _ mid _ _ d p) e = spares_by rest mid new b g u p e
spares_by a old new b g u (goes_on (Got n) rest _ mid _ _ d p) e = cc
spares_by a old new b g u (goes_on (Stored n bs) rest _ mid _ _ d p) e = cc

plain_spares : (a : List Call) (old new : Outside) → Plain a → Performs a old new (Some TheShelf) → ⊥
plain_spares a old new h p = spares_by a old new (Some TheShelf) h.gets h.puts p refl

-- THE FILE AND THE ROW: the put fails, or the row behind it, or none
data Leaves (name bytes row : List ℕ) (at new : Outside) : Option Who → Type 0 where
  unput : CallFailed (Stored name bytes) at new → Leaves name bytes row at new (Some TheShelf)
  unsaid : (mid : Outside) → CallDone (Stored name bytes) at mid → CallFailed (Printed (Some row)) mid new → Leaves name bytes row at new (Some TheSink)
  all : Leaves name bytes row at new None

row_leaves : (name bytes row : List ℕ) (at mid new : Outside) (b : Option Who) → CallDone (Stored name bytes) at mid → Performs (Printed (Some row) ∷ []) mid new b → Leaves name bytes row at new b
row_leaves name bytes row at mid new b d (breaks c rest _ _ f) = unsaid mid d f
row_leaves name bytes row at mid new b d (goes_on c rest _ end _ _ e p) = subst (Leaves name bytes row at new) (sym (nothing_blames end new b p)) all

leaves : (name bytes row : List ℕ) (at new : Outside) (b : Option Who) → Performs (Stored name bytes ∷ Printed (Some row) ∷ []) at new b → Leaves name bytes row at new b
leaves name bytes row at new b (breaks c rest _ _ f) = unput f
leaves name bytes row at new b (goes_on c rest _ mid _ _ d p) = row_leaves name bytes row at mid new b d p

not_left : (name bytes row : List ℕ) (at new : Outside) (b : Option Who) → Leaves name bytes row at new b → b ≡ Some TheDisk → ⊥
not_left name bytes row at new b (unput f) e = cc
not_left name bytes row at new b (unsaid mid d f) e = cc
not_left name bytes row at new b all e = cc

-- the sink failed in the row
record Unsaid (name bytes row : List ℕ) (at new : Outside) : Type 0 where
  pub mid : Outside
  pub does : CallDone (Stored name bytes) at mid
  pub fails : CallFailed (Printed (Some row)) mid new

when_unsaid : (name bytes row : List ℕ) (at new : Outside) (b : Option Who) → Leaves name bytes row at new b → b ≡ Some TheSink → Unsaid name bytes row at new
when_unsaid name bytes row at new b (unput f) e = absurd (cc)
when_unsaid name bytes row at new b (unsaid mid d f) e = record { mid = mid; does = d; fails = f }
when_unsaid name bytes row at new b all e = absurd (cc)

when_unput : (name bytes row : List ℕ) (at new : Outside) (b : Option Who) → Leaves name bytes row at new b → b ≡ Some TheShelf → CallFailed (Stored name bytes) at new
when_unput name bytes row at new b (unput f) e = f
when_unput name bytes row at new b (unsaid mid d f) e = absurd (cc)
when_unput name bytes row at new b all e = absurd (cc)

no_text : (text : List ℕ) → Some [] ≡ Some text → text ≡ []
no_text text e = cc

module _ (r : Run) (k : Known r) (p : Past) (is : IsPast r p) (tell : ScriptsTell) (store : ScriptsStore) (old : Outside) (load : List Call) (before : List (List ℕ)) (disk : AllOf TheDisk load)
    (mute : Tells load [] []) (makes : sectors_after load before ≡ r.first.device.sectors) (v : r.view ≡ Boot) (uncalled : Plain load) (name : List ℕ) where
  -- a boot prints nothing before its first step
  starts_empty : text_at r p 0 ≡ []
  starts_empty =
      let w = opening_tells r k p is in
      w.is ∙ no_text w.text (sym (ap (λ (view : View). spoken (opening_script view r.system)) v) ∙ w.told)

  abbrev front : List Call
  front = load ++ steps_script r p 0 (steps_made r)

  plain_steps : Plain (steps_script r p 0 (steps_made r))
  plain_steps = of_steps Plain plain plain_write r p 0 (steps_made r)

  plain_front : Plain (load ++ steps_script r p 0 (steps_made r))
  plain_front = plain_both load (steps_script r p 0 (steps_made r)) uncalled plain_steps

  plain_report : Plain (closing_script r p)
  plain_report = of_report Plain plain r.view r p (steps_made r)

  module _ (mid : Outside) (h : Stands old mid [] before) where
    start : (at : Outside) → Performs load mid at None → Stands old at (text_at r p 0) (state_at r 0).device.sectors
    start at q = subst (λ (t : List ℕ). Stands old at t r.first.device.sectors) (sym starts_empty) (loaded r k p is tell store old load before disk mute makes mid at h q)

    through : (at : Outside) → Performs (load ++ steps_script r p 0 (steps_made r)) mid at None → Stands old at (text_at r p (steps_made r)) (state_at r (steps_made r)).device.sectors
    through at q =
        let two = both_done load (steps_script r p 0 (steps_made r)) mid at q in
        let none : 0 + steps_made r ≡ steps_made r = omega arith in
        subst (λ (n : ℕ). Stands old at (text_at r p n) (state_at r n).device.sectors) none
        (steps_done r k p is tell store old 0 (steps_made r) two.0 at (omega arith) (start two.0 two.1) two.2)

    -- what a boot does before its first step is its load alone
    loads : (rest : List Call) (at : Outside) → Performs (load ++ rest) mid at None → Performs (load ++ opening_script r.view r.system ++ rest) mid at None
    loads rest at z =
        subst (λ (view : View). Performs (load ++ opening_script view r.system ++ rest) mid at None) (sym v) (subst (λ (a : List Call). Performs (a ++ rest) mid at None) (sym (append-nil load)) z)

    opened : (at : Outside) → Performs load mid at None → Performs (load ++ opening_script r.view r.system) mid at None
    opened at z =
        subst (λ (view : View). Performs (load ++ opening_script view r.system) mid at None) (sym v) (subst (λ (a : List Call). Performs a mid at None) (sym (append-nil load)) z)

    -- THE DISK FAILED
    pub save_undone : (new : Outside) → ((a : List Call) (at : Outside) → Performs a mid at None → CalledBy a old at) → mid.disk ≡ old.disk → Performs (save_script name r load p) mid new (Some TheDisk) →
        AfterDisk (IsReported r p) r load p old new × ((n : List ℕ) → new.shelf.file n ≡ mid.shelf.file n)
    save_undone new count s q = by (part (load ++ steps_script r p 0 (steps_made r)) (if has_ended r then leaving_script name r p (cvm_at r p (steps_made r)).status else []) mid new TheDisk q)
      where
        first : Broken load (steps_script r p 0 (steps_made r)) mid new TheDisk → AfterDisk (IsReported r p) r load p old new
        first (in_first z) = load_undone r k p is tell store old load before disk mute makes (IsReported r p) mid new s h z
        first (in_second at z w) = steps_undone r k p is tell store old (IsReported r p) load mid count (steps_made r) at new (opened at z) (omega arith) (start at z) w

        counted : (at : Outside) → Performs (load ++ steps_script r p 0 (steps_made r)) mid at None → CalledBy (up_to_step r load p (steps_made r)) old at
        counted at z = count (up_to_step r load p (steps_made r)) at (loads (steps_script r p 0 (steps_made r)) at z)

        end : (at : Outside) → CalledBy (up_to_step r load p (steps_made r)) old at → Stands old at (text_at r p (steps_made r)) (state_at r (steps_made r)).device.sectors → (b : Bool) (st : CvmStatus) → has_ended r ≡ b → (cvm_at r p (steps_made r)).status ≡ st →
            Performs (if b then leaving_script name r p st else []) at new (Some TheDisk) → AfterDisk (IsReported r p) r load p old new × ((n : List ℕ) → new.shelf.file n ≡ at.shelf.file n)
        end at n a false st e d z = absurd (not_none at new TheDisk z)
        end at n a true Running e d z = absurd (not_left name _ _ at new (Some TheDisk) (leaves name _ _ at new (Some TheDisk) z) refl)
        end at n a true Halted e d z = (report_undone r k p is tell store old (IsReported r p) load at new n (e, λ x. absurd (let y = sym d ∙ x in cc)) e a z, plain_stays (closing_script r p) at new (Some TheDisk) plain_report z)
        end at n a true (Faulted f) e d z = (report_undone r k p is tell store old (IsReported r p) load at new n (e, λ x. absurd (let y = sym d ∙ x in cc)) e a z, plain_stays (closing_script r p) at new (Some TheDisk) plain_report z)

        by : Broken (load ++ steps_script r p 0 (steps_made r)) (if has_ended r then leaving_script name r p (cvm_at r p (steps_made r)).status else []) mid new TheDisk →
            AfterDisk (IsReported r p) r load p old new × ((n : List ℕ) → new.shelf.file n ≡ mid.shelf.file n)
        by (in_first z) = (first (part load (steps_script r p 0 (steps_made r)) mid new TheDisk z), plain_stays (load ++ steps_script r p 0 (steps_made r)) mid new (Some TheDisk) plain_front z)
        by (in_second at z w) =
            let g = end at (counted at z) (through at z) (has_ended r) (cvm_at r p (steps_made r)).status refl refl w in
            (g.0, λ n. g.1 n ∙ plain_stays (load ++ steps_script r p 0 (steps_made r)) mid at None plain_front z n)

    -- THE SINK FAILED, before the row or in it
    abbrev InRow : (at new : Outside) → Type 0
    InRow at new = IsLeft r p × PrintedWithin old new (text_at r p (steps_made r)) (text_at r p (steps_made r) ++ saved_row) × Stand r (steps_made r) new
        × (new.shelf.file name ≡ retold (at.shelf.file name) (saved_bytes r p))

    row_unsaid : (at new : Outside) → Stands old at (text_at r p (steps_made r)) (state_at r (steps_made r)).device.sectors → IsLeft r p → Unsaid name (saved_bytes r p) saved_row at new → InRow at new
    row_unsaid at new a left u =
        let text : HasPrinted old u.mid (text_at r p (steps_made r)) = ap (λ (o : Outside). o.sink.text) u.does.3 ∙ a.text_is in (
          left,
          broken_within tell store old (Printed (Some saved_row) ∷ []) u.mid new TheSink (text_at r p (steps_made r)) [] (text_at r p (steps_made r)) (text_at r p (steps_made r) ++ saved_row) []
              (text_at r p (steps_made r) ++ saved_row) text (breaks (Printed (Some saved_row)) [] u.mid new u.fails) (says_tells saved_row (text_at r p (steps_made r))) (sym (append-nil (text_at r p (steps_made r))))
              (sym (append-nil (text_at r p (steps_made r) ++ saved_row))),
          ap (λ (o : Outside). o.disk.sectors) u.fails.2 ∙ ap (λ (o : Outside). o.disk.sectors) u.does.3 ∙ a.are,
          ap (λ (o : Outside). o.shelf.file name) u.fails.2 ∙ u.does.1,
        )

    pub save_unsaid : (new : Outside) → Performs (save_script name r load p) mid new (Some TheSink) → (AfterSink (IsReported r p) r p old new × ((n : List ℕ) → new.shelf.file n ≡ mid.shelf.file n)) ⊎ InRow mid new
    save_unsaid new q = by (part (load ++ steps_script r p 0 (steps_made r)) (if has_ended r then leaving_script name r p (cvm_at r p (steps_made r)).status else []) mid new TheSink q)
      where
        first : Broken load (steps_script r p 0 (steps_made r)) mid new TheSink → AfterSink (IsReported r p) r p old new
        first (in_first z) = absurd (load_said r k p is tell store old load before disk mute makes mid new z)
        first (in_second at z w) = steps_unsaid r k p is tell store old (IsReported r p) 0 (steps_made r) at new (omega arith) (start at z) w

        end : (at : Outside) → Stands old at (text_at r p (steps_made r)) (state_at r (steps_made r)).device.sectors → (b : Bool) (st : CvmStatus) → has_ended r ≡ b → (cvm_at r p (steps_made r)).status ≡ st →
            Performs (if b then leaving_script name r p st else []) at new (Some TheSink) → (AfterSink (IsReported r p) r p old new × ((n : List ℕ) → new.shelf.file n ≡ at.shelf.file n)) ⊎ InRow at new
        end at a false st e d z = absurd (not_none at new TheSink z)
        end at a true Running e d z = inr (row_unsaid at new a (e, d) (when_unsaid name _ _ at new (Some TheSink) (leaves name _ _ at new (Some TheSink) z) refl))
        end at a true Halted e d z = inl (report_unsaid r k p is tell store old (IsReported r p) at new (e, λ x. absurd (let y = sym d ∙ x in cc)) e a z, plain_stays (closing_script r p) at new (Some TheSink) plain_report z)
        end at a true (Faulted f) e d z = inl (report_unsaid r k p is tell store old (IsReported r p) at new (e, λ x. absurd (let y = sym d ∙ x in cc)) e a z, plain_stays (closing_script r p) at new (Some TheSink) plain_report z)

        from : (at : Outside) → Performs (load ++ steps_script r p 0 (steps_made r)) mid at None → (AfterSink (IsReported r p) r p old new × ((n : List ℕ) → new.shelf.file n ≡ at.shelf.file n)) ⊎ InRow at new →
            (AfterSink (IsReported r p) r p old new × ((n : List ℕ) → new.shelf.file n ≡ mid.shelf.file n)) ⊎ InRow mid new
        from at z (inl g) = inl (g.0, λ n. g.1 n ∙ plain_stays (load ++ steps_script r p 0 (steps_made r)) mid at None plain_front z n)
        from at z (inr g) =
            inr (g.0, g.1, g.2, g.3 ∙ ap (λ (f : Option (List ℕ)). retold f (saved_bytes r p)) (plain_stays (load ++ steps_script r p 0 (steps_made r)) mid at None plain_front z name))

        by : Broken (load ++ steps_script r p 0 (steps_made r)) (if has_ended r then leaving_script name r p (cvm_at r p (steps_made r)).status else []) mid new TheSink →
            (AfterSink (IsReported r p) r p old new × ((n : List ℕ) → new.shelf.file n ≡ mid.shelf.file n)) ⊎ InRow mid new
        by (in_first z) = inl (first (part load (steps_script r p 0 (steps_made r)) mid new TheSink z), plain_stays (load ++ steps_script r p 0 (steps_made r)) mid new (Some TheSink) plain_front z)
        by (in_second at z w) = from at z (end at (through at z) (has_ended r) (cvm_at r p (steps_made r)).status refl refl w)

    -- THE SHELF FAILED in the put
    abbrev Unput : (at new : Outside) → Type 0
    Unput at new = IsLeft r p × HasPrinted old new (text_at r p (steps_made r)) × Stand r (steps_made r) new × IsCutOff (at.shelf.file name) (saved_bytes r p) (new.shelf.file name)

    pub save_unput : (new : Outside) → Performs (save_script name r load p) mid new (Some TheShelf) → Unput mid new
    save_unput new q = by (part (load ++ steps_script r p 0 (steps_made r)) (if has_ended r then leaving_script name r p (cvm_at r p (steps_made r)).status else []) mid new TheShelf q)
      where
        end : (at : Outside) → Stands old at (text_at r p (steps_made r)) (state_at r (steps_made r)).device.sectors → (b : Bool) (st : CvmStatus) → has_ended r ≡ b → (cvm_at r p (steps_made r)).status ≡ st →
            Performs (if b then leaving_script name r p st else []) at new (Some TheShelf) → Unput at new
        end at a false st e d z = absurd (not_none at new TheShelf z)
        end at a true Running e d z =
            let f = when_unput name _ _ at new (Some TheShelf) (leaves name _ _ at new (Some TheShelf) z) refl in
            ((e, d), ap (λ (o : Outside). o.sink.text) f.3 ∙ a.text_is, ap (λ (o : Outside). o.disk.sectors) f.3 ∙ a.are, f.1)
        end at a true Halted e d z = absurd (plain_spares (closing_script r p) at new plain_report z)
        end at a true (Faulted f) e d z = absurd (plain_spares (closing_script r p) at new plain_report z)

        by : Broken (load ++ steps_script r p 0 (steps_made r)) (if has_ended r then leaving_script name r p (cvm_at r p (steps_made r)).status else []) mid new TheShelf → Unput mid new
        by (in_first z) = absurd (plain_spares (load ++ steps_script r p 0 (steps_made r)) mid new plain_front z)
        by (in_second at z w) =
            let g = end at (through at z) (has_ended r) (cvm_at r p (steps_made r)).status refl refl w in
            (g.0, g.1, g.2, subst (λ (f : Option (List ℕ)). IsCutOff f (saved_bytes r p) (new.shelf.file name)) (plain_stays (load ++ steps_script r p 0 (steps_made r)) mid at None plain_front z name) g.3)

    -- ALL IS DONE with the steps spent
    pub save_spent : (new : Outside) → has_ended r ≡ false → Performs (save_script name r load p) mid new None →
        Stands old new (text_at r p (steps_made r)) (state_at r (steps_made r)).device.sectors × ((n : List ℕ) → new.shelf.file n ≡ mid.shelf.file n)
    save_spent new e q =
        let all = subst (λ (b : Bool). Performs (load ++ steps_script r p 0 (steps_made r) ++ (if b then leaving_script name r p (cvm_at r p (steps_made r)).status else [])) mid new None) e q in
        let z = subst (λ (a : List Call). Performs a mid new None) (append-nil (load ++ steps_script r p 0 (steps_made r))) all in
        (through new z, plain_stays (load ++ steps_script r p 0 (steps_made r)) mid new None plain_front z)
