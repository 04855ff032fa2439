-- What scripts print, and how often they call the disk and the shelf.
use Rattle.std.proofs.Common.{◌≡◌, ℕ, zero, suc, List, [], ◌∷◌, ◌++◌, Option, Some, None, refl, sym, ap, ◌∙◌, subst, arith, append_assoc}
use Rattle.std.specs.Prelude.{IfSome}
use Rattle.std.specs.Option.{option_map}
use Rattle.std.specs.Io.KnownBytes.{append_known}
use Rattle.cvm_outside.specs.Numbering.{Tally, counted_up, until_fault, called, counted_times}
use Rattle.cvm_outside.specs.Told.{AppendsPart}
use Rattle.cvm_outside.proofs.PartsMakeTheWhole.{append_known-nil, puts-both, part-none, part-front, part-back}
use Rattle.cvm_outside.specs.Outside.{Outside, Drive, Files, counts, shelf_counts}
use Rattle.cvm_outside.specs.Script.{Call, Printed, Read, Wrote, Got, Stored, Who, TheDisk, TheShelf, who, done, breaks, goes_on, CallDone, CallFailed, ShelfCalled, spoken, disk_calls}
use Rattle.cvm_outside.specs.ScriptLaws.{PrintedBy, ScriptsTell, MadeBy, CallsMade, CountedCalls, ScriptsCount, ShelfCounted, ScriptsCountFiles}

-- of texts that may be told the second behind the first
behind : (old mid new : Option (List ℕ)) (text : List ℕ) (blamed : Option Who) (rest : Option (List ℕ)) → mid ≡ append_known old text → IfSome rest (PrintedBy blamed mid new) →
    IfSome (option_map (λ more. text ++ more) rest) (PrintedBy blamed old new)
behind old mid new text blamed None e h = tt
behind old mid new text None (Some more) e h = puts-both old mid new text more e h
behind old mid new text (Some whom) (Some more) e h = part-back old mid new text more e h

front : (old new : Option (List ℕ)) (text : List ℕ) (whom : Who) (rest : Option (List ℕ)) → AppendsPart old new text → IfSome (option_map (λ more. text ++ more) rest) (PrintedBy (Some whom) old new)
front old new text whom None p = tt
front old new text whom (Some more) p = part-front old new text more p

none : (old new : Option (List ℕ)) (whom : Who) (rest : Option (List ℕ)) → new ≡ old → IfSome rest (PrintedBy (Some whom) old new)
none old new whom None e = tt
none old new whom (Some more) e = subst (λ (t : Option (List ℕ)). AppendsPart old t more) (sym e) (part-none old more)

-- a call that prints nothing
from : (blamed : Option Who) (old mid new : Option (List ℕ)) (rest : Option (List ℕ)) → mid ≡ old → IfSome rest (PrintedBy blamed mid new) → IfSome rest (PrintedBy blamed old new)
from blamed old mid new rest e h = subst (λ (t : Option (List ℕ)). IfSome rest (PrintedBy blamed t new)) e h

broken_text : (c : Call) (rest : List Call) (old new : Outside) (whom : Who) → CallFailed c old new → IfSome (spoken (c ∷ rest)) (PrintedBy (Some whom) old.sink.text new.sink.text)
broken_text (Printed None) rest old new whom f = tt
broken_text (Printed (Some text)) rest old new whom f = front old.sink.text new.sink.text text whom (spoken rest) f.0
broken_text (Read q) rest old new whom f = none old.sink.text new.sink.text whom (spoken rest) (ap (λ (o : Outside). o.sink.text) f.1)
broken_text (Wrote q ws) rest old new whom f = none old.sink.text new.sink.text whom (spoken rest) (ap (λ (o : Outside). o.sink.text) f.1.1)
broken_text (Got n) rest old new whom f = none old.sink.text new.sink.text whom (spoken rest) (ap (λ (o : Outside). o.sink.text) f.2)
broken_text (Stored n bs) rest old new whom f = none old.sink.text new.sink.text whom (spoken rest) (ap (λ (o : Outside). o.sink.text) f.3)

more_text : (c : Call) (rest : List Call) (old mid new : Outside) (blamed : Option Who) → CallDone c old mid → IfSome (spoken rest) (PrintedBy blamed mid.sink.text new.sink.text) → IfSome (spoken (c ∷ rest)) (PrintedBy blamed old.sink.text new.sink.text)
more_text (Printed None) rest old mid new blamed d h = tt
more_text (Printed (Some text)) rest old mid new blamed d h = behind old.sink.text mid.sink.text new.sink.text text blamed (spoken rest) d.0 h
more_text (Read q) rest old mid new blamed d h = from blamed old.sink.text mid.sink.text new.sink.text (spoken rest) (ap (λ (o : Outside). o.sink.text) d.0) h
more_text (Wrote q ws) rest old mid new blamed d h = from blamed old.sink.text mid.sink.text new.sink.text (spoken rest) (ap (λ (o : Outside). o.sink.text) d.0) h
more_text (Got n) rest old mid new blamed d h = from blamed old.sink.text mid.sink.text new.sink.text (spoken rest) (ap (λ (o : Outside). o.sink.text) d.3) h
more_text (Stored n bs) rest old mid new blamed d h = from blamed old.sink.text mid.sink.text new.sink.text (spoken rest) (ap (λ (o : Outside). o.sink.text) d.3) h

pub tell : ScriptsTell
tell a old new blamed (done at) = sym (append_known-nil at.sink.text)
tell a old new blamed (breaks c rest _ _ f) = broken_text c rest old new (who c) f
tell a old new blamed (goes_on c rest _ mid _ _ d p) = more_text c rest old mid new blamed d (tell rest mid new blamed p)

-- a call more, before others
abbrev after_one : Tally → Tally
after_one t = record t { calls = until_fault t.faults t.calls; all_calls = counted_up t.all_calls }

called_first : (n : ℕ) (t : Tally) → called n (after_one t) ≡ called (suc n) t
called_first zero t = refl
called_first (suc n) t = ap (until_fault t.faults) (called_first n t)

times_first : (n calls : ℕ) → counted_times n (counted_up calls) ≡ counted_times (suc n) calls
times_first zero calls = refl
times_first (suc n) calls = ap counted_up (times_first n calls)

fewer : (blamed : Option Who) (m n : ℕ) → MadeBy blamed m n → MadeBy blamed (suc m) (suc n)
fewer None m n h = ap suc h
fewer (Some whom) m n h = omega (arith, h)

-- one object's: a call that isn't of it, and one that is, before others; and one that failed
silent : (w : Who) (n : ℕ) (now old mid : Tally) (blamed : Option Who) → mid ≡ old → CallsMade w n mid now blamed → CallsMade w n old now blamed
silent w n now old mid blamed e h = subst (λ (t : Tally). CallsMade w n t now blamed) e h

once : (w : Who) (n : ℕ) (now old mid : Tally) (blamed : Option Who) → mid ≡ after_one old → CallsMade w n mid now blamed → CallsMade w (suc n) old now blamed
once w n now old mid blamed e h = record {
  made = suc h.made;
  calls = h.calls ∙ ap (called h.made) e ∙ called_first h.made old;
  all_calls = h.all_calls ∙ ap (λ (t : Tally). counted_times h.made t.all_calls) e ∙ times_first h.made old.all_calls;
  which = fewer blamed h.made n h.which;
  some = λ s. omega arith;
}

uncalled : (w v : Who) (n : ℕ) (now old : Tally) → (Some v ≡ Some w → ⊥) → now ≡ old → CallsMade w n old now (Some v)
uncalled w v n now old other e = record { made = 0; calls = ap (λ (t : Tally). t.calls) e; all_calls = ap (λ (t : Tally). t.all_calls) e; which = omega arith; some = λ s. absurd (other s) }

failed : (w v : Who) (n : ℕ) (now old : Tally) → now.calls ≡ until_fault old.faults old.calls → now.all_calls ≡ counted_up old.all_calls → CallsMade w (suc n) old now (Some v)
failed w v n now old e all = record { made = 1; calls = e; all_calls = all; which = omega arith; some = λ s. omega arith }

broken_count : (c : Call) (rest : List Call) (old new : Outside) → CallFailed c old new → CountedCalls (c ∷ rest) old new (Some (who c))
broken_count (Printed t) rest old new f = uncalled _ _ _ _ _ (λ e. cc) (ap (λ (o : Outside). counts o.disk) f.2)
broken_count (Read q) rest old new f = failed _ _ _ _ _ (ap (λ (o : Outside). o.disk.calls) f.1) (ap (λ (o : Outside). o.disk.all_calls) f.1)
broken_count (Wrote q ws) rest old new f = failed _ _ _ _ _ (ap (λ (o : Outside). o.disk.calls) f.1.1) (ap (λ (o : Outside). o.disk.all_calls) f.1.1)
broken_count (Got n) rest old new f = uncalled _ _ _ _ _ (λ e. cc) (ap (λ (o : Outside). counts o.disk) f.2)
broken_count (Stored n bs) rest old new f = uncalled _ _ _ _ _ (λ e. cc) (ap (λ (o : Outside). counts o.disk) f.3)

more_count : (c : Call) (rest : List Call) (old mid new : Outside) (blamed : Option Who) → CallDone c old mid → CountedCalls rest mid new blamed → CountedCalls (c ∷ rest) old new blamed
more_count (Printed t) rest old mid new blamed d h = silent _ _ _ _ _ blamed (ap (λ (o : Outside). counts o.disk) d.1) h
more_count (Read q) rest old mid new blamed d h = once _ _ _ _ _ blamed (ap (λ (o : Outside). counts o.disk) d.0) h
more_count (Wrote q ws) rest old mid new blamed d h = once _ _ _ _ _ blamed (ap (λ (o : Outside). counts o.disk) d.0) h
more_count (Got n) rest old mid new blamed d h = silent _ _ _ _ _ blamed (ap (λ (o : Outside). counts o.disk) d.3) h
more_count (Stored n bs) rest old mid new blamed d h = silent _ _ _ _ _ blamed (ap (λ (o : Outside). counts o.disk) d.3) h

pub count : ScriptsCount
count a old new blamed (done at) = record { made = 0; calls = refl; all_calls = refl; which = refl; some = λ e. absurd (cc) }
count a old new blamed (breaks c rest _ _ f) = broken_count c rest old new f
count a old new blamed (goes_on c rest _ mid _ _ d p) = more_count c rest old mid new blamed d (count rest mid new blamed p)

-- the same of the shelf
shelf_once : (old mid : Files) → mid.faults ≡ old.faults → ShelfCalled old mid → shelf_counts mid ≡ after_one (shelf_counts old)
shelf_once old mid same c = rw (same, c.calls, c.all_calls) refl

broken_files : (c : Call) (rest : List Call) (old new : Outside) → CallFailed c old new → ShelfCounted (c ∷ rest) old new (Some (who c))
broken_files (Printed t) rest old new f = uncalled _ _ _ _ _ (λ e. cc) (ap (λ (o : Outside). shelf_counts o.shelf) f.2)
broken_files (Read q) rest old new f = uncalled _ _ _ _ _ (λ e. cc) (ap (λ (o : Outside). shelf_counts o.shelf) f.1)
broken_files (Wrote q ws) rest old new f = uncalled _ _ _ _ _ (λ e. cc) (ap (λ (o : Outside). shelf_counts o.shelf) f.1.1)
broken_files (Got n) rest old new f = failed _ _ _ _ _ f.3.calls f.3.all_calls
broken_files (Stored n bs) rest old new f = failed _ _ _ _ _ f.4.calls f.4.all_calls

more_files : (c : Call) (rest : List Call) (old mid new : Outside) (blamed : Option Who) → CallDone c old mid → ShelfCounted rest mid new blamed → ShelfCounted (c ∷ rest) old new blamed
more_files (Printed t) rest old mid new blamed d h = silent _ _ _ _ _ blamed (ap (λ (o : Outside). shelf_counts o.shelf) d.1) h
more_files (Read q) rest old mid new blamed d h = silent _ _ _ _ _ blamed (ap (λ (o : Outside). shelf_counts o.shelf) d.0) h
more_files (Wrote q ws) rest old mid new blamed d h = silent _ _ _ _ _ blamed (ap (λ (o : Outside). shelf_counts o.shelf) d.0) h
more_files (Got n) rest old mid new blamed d h = once _ _ _ _ _ blamed (shelf_once old.shelf mid.shelf d.2 d.4) h
more_files (Stored n bs) rest old mid new blamed d h = once _ _ _ _ _ blamed (shelf_once old.shelf mid.shelf d.2 d.4) h

pub count_files : ScriptsCountFiles
count_files a old new blamed (done at) = record { made = 0; calls = refl; all_calls = refl; which = refl; some = λ e. absurd (cc) }
count_files a old new blamed (breaks c rest _ _ f) = broken_files c rest old new f
count_files a old new blamed (goes_on c rest _ mid _ _ d p) = more_files c rest old mid new blamed d (count_files rest mid new blamed p)

-- one script after another
pub speaks_both : (a b : List Call) (t u : List ℕ) → spoken a ≡ Some t → spoken b ≡ Some u → spoken (a ++ b) ≡ Some (t ++ u)
speaks_both [] b t u e f = let n : [] ≡ t = cc in f ∙ ap (λ l. Some (l ++ u)) n
speaks_both (Printed None ∷ a) b t u e f = absurd (cc)
speaks_both (Printed (Some x) ∷ a) b t u e f = by (spoken a) refl e (speaks_both a b)
  where
    by : (o : Option (List ℕ)) → spoken a ≡ o → option_map (λ more. x ++ more) o ≡ Some t → ((t u : List ℕ) → spoken a ≡ Some t → spoken b ≡ Some u → spoken (a ++ b) ≡ Some (t ++ u)) → option_map (λ more. x ++ more) (spoken (a ++ b)) ≡ Some (t ++ u)
    by None is e rest = absurd (cc)
    by (Some y) is e rest = let n : x ++ y ≡ t = cc in ap (option_map (λ more. x ++ more)) (rest y u is f) ∙ ap (λ l. Some l) (sym (append_assoc x y u) ∙ ap (λ l. l ++ u) n)
speaks_both (Read q ∷ a) b t u e f = speaks_both a b t u e f
speaks_both (Wrote q ws ∷ a) b t u e f = speaks_both a b t u e f
speaks_both (Got n ∷ a) b t u e f = speaks_both a b t u e f
speaks_both (Stored n bs ∷ a) b t u e f = speaks_both a b t u e f
