-- Scripts one after another, and where one breaks off.
use Rattle.std.proofs.Common.{◌≡◌, ℕ, Bool, true, false, List, [], ◌∷◌, ◌++◌, Option, Some, None, refl, sym, ap, ◌∙◌}
use Rattle.cvm_outside.specs.Script.{Call, Printed, Read, Wrote, Got, Stored, Who, TheShelf, who, Performs, done, breaks, goes_on, CallDone, CallFailed}
use Rattle.cvm_outside.specs.Outside.{Outside}
use Rattle.cvm_outside.specs.ScriptLaws.{Follow, BreakOff, MayFail, BreaksAt, GetsGiven, ScriptsGive}

pub both : Follow
both a b old mid new blamed (done at) q = q
both a b old mid new blamed (goes_on c rest _ two _ _ d p) q = goes_on c (rest ++ b) old two new blamed d (both rest b two mid new blamed p q)

pub first : BreakOff
first a b old new whom (breaks c rest _ _ f) = breaks c (rest ++ b) old new f
first a b old new whom (goes_on c rest _ two _ _ d p) = goes_on c (rest ++ b) old two new (Some whom) d (first rest b two new whom p)

-- what a call leaves that was surely given
kept_done : (c : Call) (old mid : Outside) → CallDone c old mid → (n : List ℕ) → old.shelf.gives n ≡ true → mid.shelf.gives n ≡ true
kept_done (Printed t) old mid d n h = ap (λ (o : Outside). o.shelf.gives n) d.1 ∙ h
kept_done (Read q) old mid d n h = ap (λ (o : Outside). o.shelf.gives n) d.0 ∙ h
kept_done (Wrote q ws) old mid d n h = ap (λ (o : Outside). o.shelf.gives n) d.0 ∙ h
kept_done (Got m) old mid d n h = d.4.gives n h
kept_done (Stored m bs) old mid d n h = d.4.gives n h

kept_failed : (c : Call) (old new : Outside) → CallFailed c old new → (n : List ℕ) → old.shelf.gives n ≡ true → new.shelf.gives n ≡ true
kept_failed (Printed t) old new f n h = ap (λ (o : Outside). o.shelf.gives n) f.2 ∙ h
kept_failed (Read q) old new f n h = ap (λ (o : Outside). o.shelf.gives n) f.1 ∙ h
kept_failed (Wrote q ws) old new f n h = ap (λ (o : Outside). o.shelf.gives n) f.1.1 ∙ h
kept_failed (Got m) old new f n h = f.3.gives n h
kept_failed (Stored m bs) old new f n h = f.4.gives n h

-- so what may fail later may fail before
was_not : (before now : Bool) → (before ≡ true → now ≡ true) → now ≡ false → before ≡ false
was_not true now kept e = sym (kept refl) ∙ e
was_not false now kept e = refl

may_first : (c : Call) (old new : Outside) → CallFailed c old new → MayFail old.shelf.gives c
may_first (Printed t) old new f = tt
may_first (Read q) old new f = tt
may_first (Wrote q ws) old new f = tt
may_first (Got n) old new f = f.4
may_first (Stored n bs) old new f = tt

may_before : (old mid : List ℕ → Bool) → ((n : List ℕ) → old n ≡ true → mid n ≡ true) → (c : Call) → MayFail mid c → MayFail old c
may_before old mid kept (Printed t) h = tt
may_before old mid kept (Read q) h = tt
may_before old mid kept (Wrote q ws) h = tt
may_before old mid kept (Got n) h = was_not (old n) (mid n) (kept n) h
may_before old mid kept (Stored n bs) h = tt

-- where one breaks off
pub broken_at : (a : List Call) (old new : Outside) (whom : Who) → Performs a old new (Some whom) → BreaksAt a old new whom
broken_at a old new whom (breaks c rest _ _ f) = record { made = []; call = c; rest = rest; all = refl; is = refl; mid = old; before = done old; fails = f; may = may_first c old new f }
broken_at a old new whom (goes_on c rest _ two _ _ d p) =
    let h = broken_at rest two new whom p in
    record { made = c ∷ h.made; call = h.call; rest = h.rest; all = ap (λ (l : List Call). c ∷ l) h.all; is = h.is; mid = h.mid; before = goes_on c h.made old two h.mid None d h.before; fails = h.fails; may = may_before old.shelf.gives two.shelf.gives (kept_done c old two d) h.call h.may }

-- one that gets what is given, and puts nothing
given_later : (old mid : List ℕ → Bool) → ((n : List ℕ) → old n ≡ true → mid n ≡ true) → (a : List Call) → GetsGiven old a → GetsGiven mid a
given_later old mid kept [] h = tt
given_later old mid kept (Printed t ∷ a) h = given_later old mid kept a h
given_later old mid kept (Read q ∷ a) h = given_later old mid kept a h
given_later old mid kept (Wrote q ws ∷ a) h = given_later old mid kept a h
given_later old mid kept (Got n ∷ a) h = (kept n h.0, given_later old mid kept a h.1)
given_later old mid kept (Stored n bs ∷ a) h = absurd h

given_rest : (gives : List ℕ → Bool) (c : Call) (rest : List Call) → GetsGiven gives (c ∷ rest) → GetsGiven gives rest
given_rest gives (Printed t) rest h = h
given_rest gives (Read q) rest h = h
given_rest gives (Wrote q ws) rest h = h
given_rest gives (Got n) rest h = h.1
given_rest gives (Stored n bs) rest h = absurd h

sure_first : (c : Call) (rest : List Call) (old new : Outside) → CallFailed c old new → GetsGiven old.shelf.gives (c ∷ rest) → Some (who c) ≡ Some TheShelf → ⊥
sure_first (Printed t) rest old new f h e = cc
sure_first (Read q) rest old new f h e = cc
sure_first (Wrote q ws) rest old new f h e = cc
sure_first (Got n) rest old new f h e = let differ : true ≡ false = sym h.0 ∙ f.4 in cc
sure_first (Stored n bs) rest old new f h e = h

pub given : ScriptsGive
given a old new blamed (done at) = record { stays = λ n h. h; sure = λ h e. cc }
given a old new blamed (breaks c rest _ _ f) = record { stays = kept_failed c old new f; sure = sure_first c rest old new f }
given a old new blamed (goes_on c rest _ mid _ _ d p) =
    let later = given rest mid new blamed p in record {
      stays = λ n h. later.stays n (kept_done c old mid d n h);
      sure = λ h. later.sure (given_later old.shelf.gives mid.shelf.gives (kept_done c old mid d) rest (given_rest old.shelf.gives c rest h));
    }
