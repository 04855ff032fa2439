-- Where a script of several parts breaks off, and whose call that was.
use Rattle.std.specs.Prelude.{⊤, Option, Some, None, if◌then◌else◌}
use Rattle.std.proofs.Common.{◌≡◌, ℕ, zero, suc, ◌<◌, Bool, true, false, List, [], ◌∷◌, ◌++◌, refl, sym, ap, ◌∙◌, subst, arith}
use Rattle.std.specs.Option.{option_map}
use Rattle.cvm_outside.specs.Outside.{Outside}
use Rattle.cvm_outside.specs.Script.{Call, Printed, Read, Wrote, Got, Stored, Who, TheSink, TheDisk, TheShelf, who, Performs, done, breaks, goes_on, scripts, spoken}
use Rattle.cvm_outside.proofs.RowsPut.{scripts-none, scripts-suc}

-- NO CALL blames nobody, and changes nothing
pub nothing_blames : (old new : Outside) (b : Option Who) → Performs [] old new b → b ≡ None
nothing_blames old new b (done _) = refl

pub nothing_moves : (old new : Outside) (b : Option Who) → Performs [] old new b → new ≡ old
nothing_moves old new b (done _) = refl

pub not_none : (old new : Outside) (whom : Who) → Performs [] old new (Some whom) → ⊥
not_none old new whom p = absurd (let e : Some whom ≡ None = nothing_blames old new (Some whom) p in cc)

-- ONE SCRIPT BEHIND ANOTHER breaks off in the first, or once that is done in the second
pub data Broken (a b : List Call) (old new : Outside) (whom : Who) : Type 0 where
  in_first : Performs a old new (Some whom) → Broken a b old new whom
  in_second : (mid : Outside) → Performs a old mid None → Performs b mid new (Some whom) → Broken a b old new whom

pub part : (a b : List Call) (old new : Outside) (whom : Who) → Performs (a ++ b) old new (Some whom) → Broken a b old new whom
part [] b old new whom p = in_second old (done old) p
part (c ∷ a) b old new whom (breaks _ _ _ _ f) = in_first (breaks c a old new f)
part (c ∷ a) b old new whom (goes_on _ _ _ mid _ _ d p) = more (part a b mid new whom p)
  where
    more : Broken a b mid new whom → Broken (c ∷ a) b old new whom
    more (in_first q) = in_first (goes_on c a old mid new (Some whom) d q)
    more (in_second at q z) = in_second at (goes_on c a old mid at None d q) z

-- or both are done
pub both_done : (a b : List Call) (old new : Outside) → Performs (a ++ b) old new None → (mid : Outside) × Performs a old mid None × Performs b mid new None
both_done [] b old new p = (old, done old, p)
both_done (c ∷ a) b old new (goes_on _ _ _ mid _ _ d p) = let h = both_done a b mid new p in (h.0, goes_on c a old mid h.0 None d h.1, h.2)

-- THE SCRIPTS OF NUMBERS break off in that of one, once those before it are done
pub record Within (f : ℕ → List Call) (n : ℕ) (old new : Outside) (whom : Who) : Type 0 where
  pub number : ℕ
  pub less : number < n
  pub mid : Outside
  pub before : Performs (scripts f number) old mid None
  pub breaks_off : Performs (f number) mid new (Some whom)

one_more : (f : ℕ → List Call) (n : ℕ) (old new : Outside) (whom : Who) → (Performs (scripts f n) old new (Some whom) → Within f n old new whom) → Broken (scripts f n) (f n) old new whom → Within f (suc n) old new whom
one_more f n old new whom before (in_first q) =
    let h = before q in
    let lt = h.less in
    record { number = h.number; less = omega (arith, lt); mid = h.mid; before = h.before; breaks_off = h.breaks_off }
one_more f n old new whom before (in_second mid q z) = record { number = n; less = omega arith; mid = mid; before = q; breaks_off = z }

pub within : (f : ℕ → List Call) (n : ℕ) (old new : Outside) (whom : Who) → Performs (scripts f n) old new (Some whom) → Within f n old new whom
within f zero old new whom p = absurd (not_none old new whom (subst (λ (a : List Call). Performs a old new (Some whom)) (scripts-none f) p))
within f (suc n) old new whom p =
    one_more f n old new whom (λ q. within f n old new whom q) (part (scripts f n) (f n) old new whom (subst (λ (a : List Call). Performs a old new (Some whom)) (scripts-suc f n) p))

-- OF CALLS OF ONE OBJECT that one alone is blamed
abbrev pub AllOf : Who → List Call → Type 0
AllOf w [] = ⊤
AllOf w (c ∷ rest) = (who c ≡ w) × AllOf w rest

pub blames : (w : Who) (a : List Call) (old new : Outside) (whom : Who) → AllOf w a → Performs a old new (Some whom) → whom ≡ w
blames w a old new whom h (breaks c rest _ _ f) = h.0
blames w a old new whom h (goes_on c rest _ mid _ _ d p) = blames w rest mid new whom h.1 p

pub all_both : (w : Who) (a b : List Call) → AllOf w a → AllOf w b → AllOf w (a ++ b)
all_both w [] b h k = k
all_both w (c ∷ a) b h k = (h.0, all_both w a b h.1 k)

pub all_scripts : (w : Who) (f : ℕ → List Call) (n : ℕ) → ((i : ℕ) → AllOf w (f i)) → AllOf w (scripts f n)
all_scripts w f zero h = subst (AllOf w) (sym (scripts-none f)) tt
all_scripts w f (suc n) h = subst (AllOf w) (sym (scripts-suc f n)) (all_both w (scripts f n) (f n) (all_scripts w f n h) (h n))

pub all_if : (w : Who) (b : Bool) (a : List Call) → AllOf w a → AllOf w (if b then a else [])
all_if w true a h = h
all_if w false a h = tt

-- calls of the disk leave what is printed
pub sink_stays : (a : List Call) (old new : Outside) (b : Option Who) → AllOf TheDisk a → Performs a old new b → new.sink ≡ old.sink
sink_stays a old new b h (done _) = refl
sink_stays a old new b h (breaks (Printed t) rest _ _ f) = absurd (let e : TheSink ≡ TheDisk = h.0 in cc)
sink_stays a old new b h (breaks (Read q) rest _ _ f) = ap (λ (o : Outside). o.sink) f.1
sink_stays a old new b h (breaks (Wrote q ws) rest _ _ f) = ap (λ (o : Outside). o.sink) f.1.1
sink_stays a old new b h (breaks (Got n) rest _ _ f) = absurd (let e : TheShelf ≡ TheDisk = h.0 in cc)
sink_stays a old new b h (breaks (Stored n bs) rest _ _ f) = absurd (let e : TheShelf ≡ TheDisk = h.0 in cc)
sink_stays a old new b h (goes_on (Printed t) rest _ mid _ _ d p) = absurd (let e : TheSink ≡ TheDisk = h.0 in cc)
sink_stays a old new b h (goes_on (Read q) rest _ mid _ _ d p) = sink_stays rest mid new b h.1 p ∙ ap (λ (o : Outside). o.sink) d.0
sink_stays a old new b h (goes_on (Wrote q ws) rest _ mid _ _ d p) = sink_stays rest mid new b h.1 p ∙ ap (λ (o : Outside). o.sink) d.0
sink_stays a old new b h (goes_on (Got n) rest _ mid _ _ d p) = absurd (let e : TheShelf ≡ TheDisk = h.0 in cc)
sink_stays a old new b h (goes_on (Stored n bs) rest _ mid _ _ d p) = absurd (let e : TheShelf ≡ TheDisk = h.0 in cc)

-- A SCRIPT THAT PUTS NO EMPTY TEXT prints something where the sink fails
abbrev pub IsLoud : List Call → Type 0
IsLoud [] = ⊤
IsLoud (Printed None ∷ rest) = ⊥
IsLoud (Printed (Some []) ∷ rest) = ⊥
IsLoud (Printed (Some (b ∷ text)) ∷ rest) = IsLoud rest
IsLoud (call ∷ rest) = IsLoud rest

pub loud_both : (a b : List Call) → IsLoud a → IsLoud b → IsLoud (a ++ b)
loud_both [] b h k = k
loud_both (Printed None ∷ a) b h k = absurd h
loud_both (Printed (Some []) ∷ a) b h k = absurd h
loud_both (Printed (Some (x ∷ text)) ∷ a) b h k = loud_both a b h k
loud_both (Read q ∷ a) b h k = loud_both a b h k
loud_both (Wrote q ws ∷ a) b h k = loud_both a b h k
loud_both (Got n ∷ a) b h k = loud_both a b h k
loud_both (Stored n bs ∷ a) b h k = loud_both a b h k

pub loud_scripts : (f : ℕ → List Call) (n : ℕ) → ((i : ℕ) → IsLoud (f i)) → IsLoud (scripts f n)
loud_scripts f zero h = subst IsLoud (sym (scripts-none f)) tt
loud_scripts f (suc n) h = subst IsLoud (sym (scripts-suc f n)) (loud_both (scripts f n) (f n) (loud_scripts f n h) (h n))

pub loud_disk : (a : List Call) → AllOf TheDisk a → IsLoud a
loud_disk [] h = tt
loud_disk (Printed t ∷ a) h = absurd (let e : TheSink ≡ TheDisk = h.0 in cc)
loud_disk (Read q ∷ a) h = loud_disk a h.1
loud_disk (Wrote q ws ∷ a) h = loud_disk a h.1
loud_disk (Got n ∷ a) h = absurd (let e : TheShelf ≡ TheDisk = h.0 in cc)
loud_disk (Stored n bs ∷ a) h = absurd (let e : TheShelf ≡ TheDisk = h.0 in cc)

not_empty : (b : ℕ) (text : List ℕ) (o : Option (List ℕ)) → option_map (λ more. (b ∷ text) ++ more) o ≡ Some [] → ⊥
not_empty b text None e = absurd (cc)
not_empty b text (Some more) e = absurd (cc)

silent_by : (a : List Call) (old new : Outside) (b : Option Who) → IsLoud a → spoken a ≡ Some [] → Performs a old new b → b ≡ Some TheSink → ⊥
silent_by a old new b h e (done _) s = absurd (cc)
silent_by a old new b h e (breaks (Printed None) rest _ _ f) s = absurd h
silent_by a old new b h e (breaks (Printed (Some [])) rest _ _ f) s = absurd h
silent_by a old new b h e (breaks (Printed (Some (x ∷ text))) rest _ _ f) s = not_empty x text (spoken rest) e
silent_by a old new b h e (breaks (Read q) rest _ _ f) s = absurd (cc)
silent_by a old new b h e (breaks (Wrote q ws) rest _ _ f) s = absurd (cc)
silent_by a old new b h e (breaks (Got n) rest _ _ f) s = absurd (cc)
silent_by a old new b h e (breaks (Stored n bs) rest _ _ f) s = absurd (cc)
silent_by a old new b h e (goes_on (Printed None) rest _ mid _ _ d p) s = absurd h
silent_by a old new b h e (goes_on (Printed (Some [])) rest _ mid _ _ d p) s = absurd h
silent_by a old new b h e (goes_on (Printed (Some (x ∷ text))) rest _ mid _ _ d p) s = not_empty x text (spoken rest) e
silent_by a old new b h e (goes_on (Read q) rest _ mid _ _ d p) s = silent_by rest mid new b h e p s
silent_by a old new b h e (goes_on (Wrote q ws) rest _ mid _ _ d p) s = silent_by rest mid new b h e p s
silent_by a old new b h e (goes_on (Got n) rest _ mid _ _ d p) s = silent_by rest mid new b h e p s
silent_by a old new b h e (goes_on (Stored n bs) rest _ mid _ _ d p) s = silent_by rest mid new b h e p s

pub silent_stays : (a : List Call) (old new : Outside) → IsLoud a → spoken a ≡ Some [] → Performs a old new (Some TheSink) → ⊥
silent_stays a old new h e p = silent_by a old new (Some TheSink) h e p refl
