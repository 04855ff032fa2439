-- Rows that are put one after another, and single calls.
use Rattle.std.proofs.Common.{◌≡◌, ℕ, zero, suc, ◌+◌, ◌-◌, ◌<◌, List, [], ◌∷◌, ◌++◌, Option, Some, None, Result, Ok, Err, OnOk, OnErr, refl, sym, ap, ap₂, ◌∙◌, subst, arith, append_assoc, append-nil}
use Rattle.std.specs.Prelude.{IfSome, ◌≢◌}
use Rattle.std.specs.Option.{option_map}
use Rattle.std.specs.Io.KnownBytes.{append_known}
use Rattle.cvm_outside.specs.Causes.{Counts, Rose}
use Rattle.cvm_outside.specs.Numbering.{counted_up, until_fault}
use Rattle.cvm_outside.specs.Told.{AppendsPart, with_sector}
use Rattle.cvm_outside.specs.declared.sink.SinkFault.{SinkFault}
use Rattle.cvm_outside.specs.declared.sectors.DiskFault.{DiskFault}
use Rattle.cvm_outside.proofs.PartsMakeTheWhole.{append_known-nil, append_known-append, part-front, part-back}
use Rattle.cvm_outside.proofs.ScriptsFollow.{both, first}
use Rattle.cvm_outside.specs.Outside.{Outside, Output, Drive, Files}
use Rattle.cvm_outside.specs.Script.{Call, Printed, Read, Wrote, Got, Stored, Who, TheSink, TheDisk, TheShelf, Performs, done, breaks, goes_on, CallDone, CallFailed, disk_called, scripts, Puts, blame, of_sink, of_disk, WritesNoSector}

-- nothing is put
pub puts_none : (at : Output) → Puts [] at at None
puts_none at = record { by = let e : append_known at.text [] ≡ at.text = append_known-nil at.text in ap (λ t. record at { text = t }) (sym e) }

-- rows behind rows
pub puts_both : (a b : List ℕ) (old mid new : Output) (blamed : Option Who) → Puts a old mid None → Puts b mid new blamed → Puts (a ++ b) old new blamed
puts_both a b old mid new None p q = record {
  by = q.by ∙ ap (λ (m : Output). record m { text = append_known m.text b }) p.by ∙ ap (λ t. record old { text = t }) (append_known-append old.text a b);
}
puts_both a b old mid new (Some TheSink) p q = record {
  by = (part-back old.text mid.text new.text a b (ap (λ (m : Output). m.text) p.by) q.by.0, subst (λ n. Rose n new.faults) (ap (λ (m : Output). m.faults) p.by) q.by.1);
}
puts_both a b old mid new (Some TheDisk) p q = absurd q.by
puts_both a b old mid new (Some TheShelf) p q = absurd q.by

-- the first of them broke off
pub puts_first : (a b : List ℕ) (old new : Output) (whom : Who) → Puts a old new (Some whom) → Puts (a ++ b) old new (Some whom)
puts_first a b old new TheSink p = record { by = (part-front old.text new.text a b p.by.0, p.by.1) }
puts_first a b old new TheDisk p = absurd p.by
puts_first a b old new TheShelf p = absurd p.by

-- equal rows
pub puts_same : (a b : List ℕ) (old new : Output) (blamed : Option Who) → a ≡ b → Puts a old new blamed → Puts b old new blamed
puts_same a b old new blamed e p = subst (λ (rows : List ℕ). Puts rows old new blamed) e p

-- one call of a sink
pub put_once : {T : Type 0} (rows : List ℕ) (old new : Output) (r : Result T SinkFault) → OnOk r (new.text ≡ append_known old.text rows) → OnErr r (AppendsPart old.text new.text rows) → Counts old.faults new.faults r → Puts rows old new (blame of_sink r)
put_once rows old new (Ok v) all part count = record { by = ap₂ (λ t (n : ℕ). record old { text = t; faults = n }) all count.same }
put_once rows old new (Err e) all part count = record { by = (part, count.rose) }

-- it is a script
pub performed : (told : Option (List ℕ)) (rows : List ℕ) (shelf : Files) (disk : Drive) (old new : Output) (blamed : Option Who) → IfSome told (λ text. rows ≡ text) → Puts rows old new blamed →
    Performs (Printed told ∷ []) (record { shelf = shelf; sink = old; disk = disk }) (record { shelf = shelf; sink = new; disk = disk }) blamed
performed told rows shelf disk old new None is p =
    goes_on (Printed told) [] _ _ _ None (whole told is, ap (λ (o : Output). record { shelf = shelf; sink = record old { text = new.text; faults = o.faults }; disk = disk }) p.by) (done _)
  where
    whole : (told : Option (List ℕ)) → IfSome told (λ text. rows ≡ text) → IfSome told (λ text. new.text ≡ append_known old.text text)
    whole None is = tt
    whole (Some text) is = ap (λ (o : Output). o.text) p.by ∙ ap (append_known old.text) is
performed told rows shelf disk old new (Some TheSink) is p = breaks (Printed told) [] _ _ (part told is, p.by.1, refl)
  where
    part : (told : Option (List ℕ)) → IfSome told (λ text. rows ≡ text) → IfSome told (AppendsPart old.text new.text)
    part None is = tt
    part (Some text) is = subst (AppendsPart old.text new.text) is p.by.0
performed told rows shelf disk old new (Some TheDisk) is p = absurd p.by
performed told rows shelf disk old new (Some TheShelf) is p = absurd p.by

-- one read of a disk
pub read_once : {T : Type 0} (sector : ℕ) (shelf : Files) (sink : Output) (old new : Drive) (r : Result T DiskFault) → sector < old.size → new.size ≡ old.size → new.sectors ≡ old.sectors → Counts old.faults new.faults r → new.calls ≡ until_fault old.faults old.calls → new.all_calls ≡ counted_up old.all_calls →
    Performs (Read sector ∷ []) (record { shelf = shelf; sink = sink; disk = old }) (record { shelf = shelf; sink = sink; disk = new }) (blame of_disk r)
read_once sector shelf sink old new (Ok v) within size same count calls all =
    let at : Drive → Outside = λ d. record { shelf = shelf; sink = sink; disk = d } in
    goes_on (Read sector) [] _ _ _ None (same_drive (at) old new size same count.same calls all, within) (done _)
  where
    same_drive : (at : Drive → Outside) (old new : Drive) → new.size ≡ old.size → new.sectors ≡ old.sectors → new.faults ≡ old.faults → new.calls ≡ until_fault old.faults old.calls → new.all_calls ≡ counted_up old.all_calls → at new ≡ at (disk_called old)
    same_drive at old new size same faults calls all = rw (size, same, faults, calls, all) refl
read_once sector shelf sink old new (Err e) within size same count calls all = breaks (Read sector) [] _ _ (count.rose, torn (λ d. record { shelf = shelf; sink = sink; disk = d }), within)
  where
    torn : (at : Drive → Outside) → at new ≡ at (record (disk_called old) { faults = new.faults })
    torn at = rw (size, same, calls, all) refl

-- one write
pub write_once : {T : Type 0} (sector : ℕ) (words : List ℕ) (shelf : Files) (sink : Output) (old new : Drive) (r : Result T DiskFault) → sector < old.size → new.size ≡ old.size → OnOk r (new.sectors ≡ with_sector old.sectors sector words) →
    OnErr r ((torn : List ℕ) × (new.sectors ≡ with_sector old.sectors sector torn)) → Counts old.faults new.faults r → new.calls ≡ until_fault old.faults old.calls → new.all_calls ≡ counted_up old.all_calls →
    Performs (Wrote sector words ∷ []) (record { shelf = shelf; sink = sink; disk = old }) (record { shelf = shelf; sink = sink; disk = new }) (blame of_disk r)
write_once sector words shelf sink old new (Ok v) within size whole torn count calls all = goes_on (Wrote sector words) [] _ _ _ None (whole_drive (λ d. record { shelf = shelf; sink = sink; disk = d }) new.faults count.same, within) (done _)
  where
    whole_drive : (at : Drive → Outside) (n : ℕ) → n ≡ old.faults → at (record new { faults = n }) ≡ at (record (disk_called old) { sectors = with_sector old.sectors sector words })
    whole_drive at n e = rw (size, whole, calls, all, e) refl
write_once sector words shelf sink old new (Err e) within size whole torn count calls all =
    breaks (Wrote sector words) [] _ _ (count.rose, (torn.0, part (λ d. record { shelf = shelf; sink = sink; disk = d })), within)
  where
    part : (at : Drive → Outside) → at new ≡ at (record (disk_called old) { faults = new.faults; sectors = with_sector old.sectors sector torn.0 })
    part at = rw (size, torn.1, calls, all) refl

-- no sector is written, and a disk keeps its size
torn_sectors : (c : Call) (rest : List Call) (old new : Outside) → WritesNoSector (c ∷ rest) → CallFailed c old new → new.disk.sectors ≡ old.disk.sectors
torn_sectors (Printed t) rest old new quiet f = ap (λ (o : Outside). o.disk.sectors) f.2
torn_sectors (Read q) rest old new quiet f = ap (λ (o : Outside). o.disk.sectors) f.1
torn_sectors (Wrote q ws) rest old new quiet f = absurd quiet
torn_sectors (Got n) rest old new quiet f = ap (λ (o : Outside). o.disk.sectors) f.2
torn_sectors (Stored n bs) rest old new quiet f = ap (λ (o : Outside). o.disk.sectors) f.3

more_quiet : (c : Call) (rest : List Call) (old mid : Outside) → WritesNoSector (c ∷ rest) → CallDone c old mid → WritesNoSector rest × (mid.disk.sectors ≡ old.disk.sectors)
more_quiet (Printed t) rest old mid quiet d = (quiet, ap (λ (o : Outside). o.disk.sectors) d.1)
more_quiet (Read q) rest old mid quiet d = (quiet, ap (λ (o : Outside). o.disk.sectors) d.0)
more_quiet (Wrote q ws) rest old mid quiet d = absurd quiet
more_quiet (Got n) rest old mid quiet d = (quiet, ap (λ (o : Outside). o.disk.sectors) d.3)
more_quiet (Stored n bs) rest old mid quiet d = (quiet, ap (λ (o : Outside). o.disk.sectors) d.3)

pub unwritten : (a : List Call) (old new : Outside) (blamed : Option Who) → WritesNoSector a → Performs a old new blamed → new.disk.sectors ≡ old.disk.sectors
unwritten a old new blamed quiet (done _) = refl
unwritten a old new blamed quiet (breaks c rest _ _ f) = torn_sectors c rest old new quiet f
unwritten a old new blamed quiet (goes_on c rest _ mid _ _ d p) = let h = more_quiet c rest old mid quiet d in unwritten rest mid new blamed h.0 p ∙ h.1

torn_size : (c : Call) (old new : Outside) → CallFailed c old new → new.disk.size ≡ old.disk.size
torn_size (Printed t) old new f = ap (λ (o : Outside). o.disk.size) f.2
torn_size (Read q) old new f = ap (λ (o : Outside). o.disk.size) f.1
torn_size (Wrote q ws) old new f = ap (λ (o : Outside). o.disk.size) f.1.1
torn_size (Got n) old new f = ap (λ (o : Outside). o.disk.size) f.2
torn_size (Stored n bs) old new f = ap (λ (o : Outside). o.disk.size) f.3

done_size : (c : Call) (old mid : Outside) → CallDone c old mid → mid.disk.size ≡ old.disk.size
done_size (Printed t) old mid d = ap (λ (o : Outside). o.disk.size) d.1
done_size (Read q) old mid d = ap (λ (o : Outside). o.disk.size) d.0
done_size (Wrote q ws) old mid d = ap (λ (o : Outside). o.disk.size) d.0
done_size (Got n) old mid d = ap (λ (o : Outside). o.disk.size) d.3
done_size (Stored n bs) old mid d = ap (λ (o : Outside). o.disk.size) d.3

pub same_size : (a : List Call) (old new : Outside) (blamed : Option Who) → Performs a old new blamed → new.disk.size ≡ old.disk.size
same_size a old new blamed (done _) = refl
same_size a old new blamed (breaks c rest _ _ f) = torn_size c old new f
same_size a old new blamed (goes_on c rest _ mid _ _ d p) = same_size rest mid new blamed p ∙ done_size c old mid d

pub quiet_both : (a b : List Call) → WritesNoSector a → WritesNoSector b → WritesNoSector (a ++ b)
quiet_both [] b h k = k
quiet_both (Printed t ∷ a) b h k = quiet_both a b h k
quiet_both (Read q ∷ a) b h k = quiet_both a b h k
quiet_both (Wrote q ws ∷ a) b h k = absurd h
quiet_both (Got n ∷ a) b h k = quiet_both a b h k
quiet_both (Stored n bs ∷ a) b h k = quiet_both a b h k

-- scripts of the numbers below n
pub scripts-none : (f : ℕ → List Call) → scripts f 0 ≡ []
unfolding scripts
scripts-none f = refl

pub scripts-suc : (f : ℕ → List Call) (n : ℕ) → scripts f (suc n) ≡ scripts f n ++ f n
unfolding scripts
scripts-suc f n = refl

pub quiet_scripts : (f : ℕ → List Call) → ((i : ℕ) → WritesNoSector (f i)) → (n : ℕ) → WritesNoSector (scripts f n)
unfolding scripts
quiet_scripts f each zero = tt
quiet_scripts f each (suc n) = quiet_both (scripts f n) (f n) (quiet_scripts f each n) (each n)

pub scripts-add : (f : ℕ → List Call) (m n : ℕ) → scripts f (m + n) ≡ scripts f m ++ scripts (λ i. f (m + i)) n
scripts-add f m zero = let e : m + 0 ≡ m = omega arith in ap (scripts f) e ∙ sym (append-nil (scripts f m)) ∙ ap (λ (l : List Call). scripts f m ++ l) (sym (scripts-none (λ i. f (m + i))))
scripts-add f m (suc n) =
    let e : m + suc n ≡ suc (m + n) = omega arith in
    ap (scripts f) e ∙ scripts-suc f (m + n) ∙ ap (λ (l : List Call). l ++ f (m + n)) (scripts-add f m n) ∙ append_assoc (scripts f m) (scripts (λ i. f (m + i)) n) (f (m + n))
    ∙ ap (λ (l : List Call). scripts f m ++ l) (sym (scripts-suc (λ i. f (m + i)) n))

-- a loop over them: none is performed, one more is, and the one of a number breaks off
pub loop_none : (f : ℕ → List Call) (at : Outside) → Performs (scripts f 0) at at None
loop_none f at = subst (λ (s : List Call). Performs s at at None) (sym (scripts-none f)) (done at)

pub loop_more : (f : ℕ → List Call) (i j : ℕ) (old mid new : Outside) (blamed : Option Who) → j ≡ i + 1 → Performs (scripts f i) old mid None → Performs (f i) mid new blamed → Performs (scripts f j) old new blamed
loop_more f i j old mid new blamed e p q =
    let d : suc i ≡ j = omega (arith, e) in
    subst (λ (s : List Call). Performs s old new blamed) (sym (scripts-suc f i) ∙ ap (scripts f) d) (both (scripts f i) (f i) old mid new blamed p q)

pub loop_stop : (f : ℕ → List Call) (i n : ℕ) (old mid new : Outside) (whom : Who) → i < n → Performs (scripts f i) old mid None → Performs (f i) mid new (Some whom) → Performs (scripts f n) old new (Some whom)
loop_stop f i n old mid new whom lt p q =
    let d : i + 1 + (n - (i + 1)) ≡ n = omega (arith, lt) in
    subst (λ (s : List Call). Performs s old new (Some whom)) (sym (scripts-add f (i + 1) (n - (i + 1))) ∙ ap (scripts f) d)
    (first (scripts f (i + 1)) (scripts (λ k. f (i + 1 + k)) (n - (i + 1))) old new whom (loop_more f i (i + 1) old mid new (Some whom) refl p q))

pub same_script : (a b : List Call) (old new : Outside) (blamed : Option Who) → a ≡ b → Performs a old new blamed → Performs b old new blamed
same_script a b old new blamed e p = subst (λ (s : List Call). Performs s old new blamed) e p

-- the same, by whom an answer blames
pub loop_stop_by : (f : ℕ → List Call) (i n : ℕ) (old mid new : Outside) (blamed : Option Who) → blamed ≢ None → i < n → Performs (scripts f i) old mid None → Performs (f i) mid new blamed → Performs (scripts f n) old new blamed
loop_stop_by f i n old mid new None some lt p q = absurd (some refl)
loop_stop_by f i n old mid new (Some whom) some lt p q = loop_stop f i n old mid new whom lt p q

-- some reading, and then rows that it tells
pub then_prints : {X : Type 0} (reads : List Call) (told : Option X) (f : X → List ℕ) (rows : List ℕ) (shelf : Files) (sink resink : Output) (disk redisk : Drive) (blamed : Option Who) →
    Performs reads (record { shelf = shelf; sink = sink; disk = disk }) (record { shelf = shelf; sink = sink; disk = redisk }) None → IfSome told (λ x. rows ≡ f x) → Puts rows sink resink blamed →
    Performs (reads ++ Printed (option_map f told) ∷ []) (record { shelf = shelf; sink = sink; disk = disk }) (record { shelf = shelf; sink = resink; disk = redisk }) blamed
then_prints reads None f rows shelf sink resink disk redisk blamed asks is puts = both reads _ _ _ _ blamed asks (performed None rows shelf redisk sink resink blamed tt puts)
then_prints reads (Some x) f rows shelf sink resink disk redisk blamed asks is puts = both reads _ _ _ _ blamed asks (performed (Some (f x)) rows shelf redisk sink resink blamed is puts)
