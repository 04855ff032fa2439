-- Whose count of faults rises, and what stands on the disk once all is written.
use Rattle.std.proofs.Common.{◌≡◌, ℕ, List, [], ◌∷◌, Option, Some, None, refl, ap, ◌∙◌}
use Rattle.std.specs.Option.{option_map}
use Rattle.cvm_outside.specs.Told.{with_sector}
use Rattle.cvm_outside.specs.Outside.{Outside}
use Rattle.cvm_outside.specs.Script.{Call, Printed, Read, Wrote, Got, Stored, Who, TheSink, TheDisk, TheShelf, who, done, breaks, goes_on, CallDone, CallFailed, sectors_after, faults_of}
use Rattle.cvm_outside.specs.ScriptLaws.{Blamed, ScriptsBlame, ScriptsStore}

steady : (c : Call) (w : Who) (old mid : Outside) → CallDone c old mid → faults_of w mid ≡ faults_of w old
steady (Printed t) TheSink old mid d = ap (λ (o : Outside). o.sink.faults) d.1
steady (Printed t) TheDisk old mid d = ap (λ (o : Outside). o.disk.faults) d.1
steady (Printed t) TheShelf old mid d = ap (λ (o : Outside). o.shelf.faults) d.1
steady (Read q) TheSink old mid d = ap (λ (o : Outside). o.sink.faults) d.0
steady (Read q) TheDisk old mid d = ap (λ (o : Outside). o.disk.faults) d.0
steady (Read q) TheShelf old mid d = ap (λ (o : Outside). o.shelf.faults) d.0
steady (Wrote q ws) TheSink old mid d = ap (λ (o : Outside). o.sink.faults) d.0
steady (Wrote q ws) TheDisk old mid d = ap (λ (o : Outside). o.disk.faults) d.0
steady (Wrote q ws) TheShelf old mid d = ap (λ (o : Outside). o.shelf.faults) d.0
steady (Got n) TheSink old mid d = ap (λ (o : Outside). o.sink.faults) d.3
steady (Got n) TheDisk old mid d = ap (λ (o : Outside). o.disk.faults) d.3
steady (Got n) TheShelf old mid d = d.2
steady (Stored n bs) TheSink old mid d = ap (λ (o : Outside). o.sink.faults) d.3
steady (Stored n bs) TheDisk old mid d = ap (λ (o : Outside). o.disk.faults) d.3
steady (Stored n bs) TheShelf old mid d = d.2

hit : (c : Call) (w : Who) (old new : Outside) → CallFailed c old new → Blamed old new (Some (who c)) w
hit (Printed t) TheSink old new f = record { rose = λ e. f.1; same = λ ne. absurd (ne refl) }
hit (Printed t) TheDisk old new f = record { rose = λ e. absurd (cc); same = λ ne. ap (λ (o : Outside). o.disk.faults) f.2 }
hit (Printed t) TheShelf old new f = record { rose = λ e. absurd (cc); same = λ ne. ap (λ (o : Outside). o.shelf.faults) f.2 }
hit (Read q) TheSink old new f = record { rose = λ e. absurd (cc); same = λ ne. ap (λ (o : Outside). o.sink.faults) f.1 }
hit (Read q) TheDisk old new f = record { rose = λ e. f.0; same = λ ne. absurd (ne refl) }
hit (Read q) TheShelf old new f = record { rose = λ e. absurd (cc); same = λ ne. ap (λ (o : Outside). o.shelf.faults) f.1 }
hit (Wrote q ws) TheSink old new f = record { rose = λ e. absurd (cc); same = λ ne. ap (λ (o : Outside). o.sink.faults) f.1.1 }
hit (Wrote q ws) TheDisk old new f = record { rose = λ e. f.0; same = λ ne. absurd (ne refl) }
hit (Wrote q ws) TheShelf old new f = record { rose = λ e. absurd (cc); same = λ ne. ap (λ (o : Outside). o.shelf.faults) f.1.1 }
hit (Got n) TheSink old new f = record { rose = λ e. absurd (cc); same = λ ne. ap (λ (o : Outside). o.sink.faults) f.2 }
hit (Got n) TheDisk old new f = record { rose = λ e. absurd (cc); same = λ ne. ap (λ (o : Outside). o.disk.faults) f.2 }
hit (Got n) TheShelf old new f = record { rose = λ e. f.1; same = λ ne. absurd (ne refl) }
hit (Stored n bs) TheSink old new f = record { rose = λ e. absurd (cc); same = λ ne. ap (λ (o : Outside). o.sink.faults) f.3 }
hit (Stored n bs) TheDisk old new f = record { rose = λ e. absurd (cc); same = λ ne. ap (λ (o : Outside). o.disk.faults) f.3 }
hit (Stored n bs) TheShelf old new f = record { rose = λ e. f.2; same = λ ne. absurd (ne refl) }

pub blame_one : ScriptsBlame
blame_one a old new blamed (done _) w = record { rose = λ e. absurd (cc); same = λ ne. refl }
blame_one a old new blamed (breaks c rest _ _ f) w = hit c w old new f
blame_one a old new blamed (goes_on c rest _ mid _ _ d p) w =
    let h = blame_one rest mid new blamed p w in
    let s = steady c w old mid d in
    record { rose = λ e. rw (← s) (h.rose e); same = λ ne. h.same ne ∙ s }

more_stored : (c : Call) (rest : List Call) (old mid : Outside) → CallDone c old mid → option_map (sectors_after rest) mid.disk.sectors ≡ option_map (sectors_after (c ∷ rest)) old.disk.sectors
more_stored (Printed t) rest old mid d = ap (λ (o : Outside). option_map (sectors_after rest) o.disk.sectors) d.1
more_stored (Read q) rest old mid d = ap (λ (o : Outside). option_map (sectors_after rest) o.disk.sectors) d.0
more_stored (Wrote q ws) rest old mid d = ap (λ (o : Outside). option_map (sectors_after rest) o.disk.sectors) d.0 ∙ by old.disk.sectors
  where
    by : (told : Option (List (List ℕ))) → option_map (sectors_after rest) (with_sector told q ws) ≡ option_map (sectors_after (Wrote q ws ∷ rest)) told
    by None = refl
    by (Some ss) = refl
more_stored (Got n) rest old mid d = ap (λ (o : Outside). option_map (sectors_after rest) o.disk.sectors) d.3
more_stored (Stored n bs) rest old mid d = ap (λ (o : Outside). option_map (sectors_after rest) o.disk.sectors) d.3

pub store : ScriptsStore
store a old new (done _) = same old.disk.sectors
  where
    same : (told : Option (List (List ℕ))) → told ≡ option_map (sectors_after []) told
    same None = refl
    same (Some ss) = refl
store a old new (goes_on c rest _ mid _ _ d p) = store rest mid new p ∙ more_stored c rest old mid d
