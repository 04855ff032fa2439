-- Which gets a stage made: one, some behind others, and those of a stage that goes on with what was got.
use Rattle.std.proofs.Common.{◌≡◌, ◌≢◌, ℕ, ◌≤◌, min, false, List, [], ◌∷◌, ◌++◌, length, take, Vec, Global, append_assoc, append-nil, refl, sym, ap, ◌∙◌, subst, arith, Some, None, Ok, Err}
use Rattle.std.specs.Prelude.{Option, IfSome, IfOk, IfErr, IsErrOf, Result, ◌↔◌, All}
use Rattle.std.specs.declared.string.String.{String}
use Rattle.cvm_outside.specs.Causes.{ShelfCounts}
use Rattle.cvm_outside.specs.Told.{TOO_LONG, Tells}
use Rattle.cvm_outside.specs.Outside.{Outside, Files, Output, Drive}
use Rattle.cvm_outside.specs.Script.{Call, Got, Who, TheShelf, Performs, done, breaks, goes_on, ShelfCalled}
use Rattle.cvm_outside.specs.declared.shelf.ShelfFault.{ShelfFault}
use Rattle.cvm_outside.specs.declared.shelf.ShelfFault.TheVariants.{Failed, TooLong as Long, Memory as NoMemory}
use Rattle.cvm_outside.proofs.ScriptsFollow.{both}
use Rattle.cvm_shell.specs.declared.boot.Stop.{Stop}
use Rattle.cvm_shell.specs.declared.boot.Stop.TheVariants as Stops
use Rattle.cvm_shell.specs.declared.refusal.Refusal.TheVariants as by
use Rattle.run_scripts.specs.Command.{word_texts}
use Rattle.run_scripts.specs.Ends.{IsByte, AreShort, MayBeShort, MayBeLong, IsNotGot, Wants, behind, within, wants}
use Rattle.run_scripts.specs.Served.{gets}
use Rattle.cvm_shell.specs.Stages.{stop_of, IsFile}
use Rattle.cvm_shell.specs.Does.{WereGot, IsLong, StopGets, AnswerGets}

-- files beside a sink and a disk
abbrev pub beside : Output → Drive → Files → Outside
beside sink disk shelf = record { shelf = shelf; sink = sink; disk = disk }

-- ONE GET, by what a shelf says of it
pub record OneGet (name : List ℕ) (old new : Files) (r : Result (Vec ℕ Global) ShelfFault) : Type 0 where
  pub files : (n : List ℕ) → new.file n ≡ old.file n
  pub bytes : IfOk r (λ v. Tells (old.file name) v.items)
  pub all : IfOk r (λ v. length v.items ≡ new.taken)
  pub most : new.taken ≤ TOO_LONG
  pub long : IsErrOf r Long ↔ (new.taken ≡ TOO_LONG)
  pub told_long : IsErrOf r Long → IfSome (old.file name) (λ bs. new.taken ≡ min (length bs) TOO_LONG)
  pub count : ShelfCounts old.faults new.faults r
  pub called : ShelfCalled old new
  pub sure : IsErrOf r Failed → old.gives name ≡ false

all_taken : (told : Option (List ℕ)) (items : List ℕ) (taken : ℕ) → Tells told items → length items ≡ taken → taken ≤ TOO_LONG → IfSome told (λ bs. taken ≡ min (length bs) TOO_LONG)
all_taken None items taken t e most = tt
all_taken (Some xs) items taken t e most = let l : length items ≡ length xs = ap (λ (ys : List ℕ). length ys) t in omega (arith, l, e, most)

is_short : (told : Option (List ℕ)) (items : List ℕ) (taken : ℕ) → Tells told items → length items ≡ taken → taken ≤ TOO_LONG → taken ≢ TOO_LONG → MayBeShort told
is_short None items taken t e most few = tt
is_short (Some xs) items taken t e most few = let l : length items ≡ length xs = ap (λ (ys : List ℕ). length ys) t in omega (arith, l, e, most, few)

is_long : (told : Option (List ℕ)) (taken : ℕ) → taken ≡ TOO_LONG → IfSome told (λ bs. taken ≡ min (length bs) TOO_LONG) → MayBeLong told
is_long None taken e h = tt
is_long (Some xs) taken e h = omega (arith, e, h)

pub one_got : (name : List ℕ) (old new : Files) (v : Vec ℕ Global) (sink : Output) (disk : Drive) → OneGet name old new (Ok v) → WereGot (name ∷ []) (beside sink disk old) (beside sink disk new)
one_got name old new v sink disk g =
    let few : new.taken ≢ TOO_LONG = λ h. let e = g.long.1 h in cc in
    record {
      performs = goes_on (Got name) [] _ _ _ None (g.files, all_taken (old.file name) v.items new.taken g.bytes g.all g.most, g.count.cases, refl, g.called) (done _);
      short = (is_short (old.file name) v.items new.taken g.bytes g.all g.most few, tt);
      few = few;
    }

pub one_stopped : (name : List ℕ) (rest : List (List ℕ)) (old new : Files) (f : ShelfFault) (sink : Output) (disk : Drive) → OneGet name old new (Err f) → StopGets (name ∷ rest) (beside sink disk old) (beside sink disk new) (stop_of f)
one_stopped name rest old new Failed sink disk g = record {
  before = [];
  name = name;
  after = rest;
  all = refl;
  short = tt;
  performs = breaks (Got name) [] _ _ (g.files, g.count.cases, refl, g.called, g.sure refl);
  few = λ h. let e = g.long.1 h in cc;
}
one_stopped name rest old new Long sink disk g =
    let taken : new.taken ≡ TOO_LONG = g.long.0 refl in
    let told = g.told_long refl in
    record {
      before = [];
      name = name;
      after = rest;
      all = refl;
      short = tt;
      long = is_long (old.file name) new.taken taken told;
      performs = goes_on (Got name) [] _ _ _ None (g.files, told, g.count.cases, refl, g.called) (done _);
      taken = taken;
    }
one_stopped name rest old new NoMemory sink disk g = within [] rest name _ refl tt (done _) (wants g.files g.count.cases (λ h. let e = g.long.1 h in cc) refl g.called)

-- SOME BEHIND OTHERS
gets-append : (a b : List (List ℕ)) → gets (a ++ b) ≡ gets a ++ gets b
gets-append [] b = refl
gets-append (n ∷ a) b = ap (λ (l : List Call). Got n ∷ l) (gets-append a b)

files_kept : (names : List (List ℕ)) (old new : Outside) → Performs (gets names) old new None → (n : List ℕ) → new.shelf.file n ≡ old.shelf.file n
files_kept [] old new (done _) n = refl
files_kept (name ∷ names) old new (goes_on c rest _ mid _ _ d p) n = files_kept names mid new p n ∙ d.0 n

short_moved : (file other : List ℕ → Option (List ℕ)) → ((n : List ℕ) → other n ≡ file n) → (names : List (List ℕ)) → AreShort other names → AreShort file names
short_moved file other same [] h = tt
short_moved file other same (n ∷ names) (s, h) = (subst MayBeShort (same n) s, short_moved file other same names h)

short_both : (file : List ℕ → Option (List ℕ)) (a b : List (List ℕ)) → AreShort file a → AreShort file b → AreShort file (a ++ b)
short_both file [] b h k = k
short_both file (n ∷ a) b (s, h) k = (s, short_both file a b h k)

module _ (a : List (List ℕ)) (old mid : Outside) (p : WereGot a old mid) where
  kept : (n : List ℕ) → mid.shelf.file n ≡ old.shelf.file n
  kept = files_kept a old mid p.performs

  joined : (b : List (List ℕ)) (new : Outside) (blamed : Option Who) → Performs (gets b) mid new blamed → Performs (gets (a ++ b)) old new blamed
  joined b new blamed q = subst (λ (s : List Call). Performs s old new blamed) (sym (gets-append a b)) (both (gets a) (gets b) old mid new blamed p.performs q)

  both_short : (b : List (List ℕ)) → AreShort mid.shelf.file b → AreShort old.shelf.file (a ++ b)
  both_short b s = short_both old.shelf.file a b p.short (short_moved old.shelf.file mid.shelf.file kept b s)

  pub are_both : (b : List (List ℕ)) (new : Outside) → WereGot b mid new → WereGot (a ++ b) old new
  are_both b new q = record {
    performs = joined b new None q.performs;
    short = both_short b q.short;
    few = q.few;
  }

  long_both : (b : List (List ℕ)) (new : Outside) → IsLong b mid new → IsLong (a ++ b) old new
  long_both b new q = record {
    before = a ++ q.before;
    name = q.name;
    after = q.after;
    all = append_assoc a q.before (q.name ∷ q.after) ∙ ap (λ (l : List (List ℕ)). a ++ l) q.all;
    short = both_short q.before q.short;
    long = subst MayBeLong (kept q.name) q.long;
    performs = subst (λ (l : List (List ℕ)). Performs (gets l) old new None) (sym (append_assoc a q.before (q.name ∷ []))) (joined (q.before ++ q.name ∷ []) new None q.performs);
    taken = q.taken;
  }

  not_both : (b : List (List ℕ)) (new : Outside) → IsNotGot b mid new → IsNotGot (a ++ b) old new
  not_both b new q = record {
    before = a ++ q.before;
    name = q.name;
    after = q.after;
    all = append_assoc a q.before (q.name ∷ q.after) ∙ ap (λ (l : List (List ℕ)). a ++ l) q.all;
    short = both_short q.before q.short;
    performs = subst (λ (l : List (List ℕ)). Performs (gets l) old new (Some TheShelf)) (sym (append_assoc a q.before (q.name ∷ []))) (joined (q.before ++ q.name ∷ []) new (Some TheShelf) q.performs);
    few = q.few;
  }

  wants_both : (b : List (List ℕ)) (new : Outside) → Wants b mid new → Wants (a ++ b) old new
  wants_both b new (behind made rest e s q t) =
      behind (a ++ made) rest (append_assoc a made rest ∙ ap (λ (l : List (List ℕ)). a ++ l) e) (both_short made s) (joined made new None q) (few b new t made rest e q)
    where
      few : (b : List (List ℕ)) (new : Outside) → (b ≢ [] → new.shelf.taken ≢ TOO_LONG) → (made rest : List (List ℕ)) → made ++ rest ≡ b → Performs (gets made) mid new None →
          a ++ b ≢ [] → new.shelf.taken ≢ TOO_LONG
      few (n ∷ names) new t made rest e q some = t (λ d. cc)
      few [] new t [] rest e (done _) some = p.few
      few [] new t (m ∷ made) rest e q some = absurd (cc)
  wants_both b new (within made rest name at e s q w) =
      within (a ++ made) rest name at (append_assoc a made (name ∷ rest) ∙ ap (λ (l : List (List ℕ)). a ++ l) e) (both_short made s) (joined made at None q) w

  stop_both : (b : List (List ℕ)) (new : Outside) (s : Stop) → StopGets b mid new s → StopGets (a ++ b) old new s
  stop_both b new (Stops.Refused by.TooLong) q = long_both b new q
  stop_both b new (Stops.Refused other) q = are_both b new q
  stop_both b new Stops.Shelf q = not_both b new q
  stop_both b new Stops.Memory q = wants_both b new q

-- where it stops
pub stopped_then : (a b : List (List ℕ)) (old mid new : Outside) (s : Stop) → WereGot a old mid → StopGets b mid new s → StopGets (a ++ b) old new s
stopped_then a b old mid new s p q = stop_both a old mid p b new s q

-- A STAGE GOES ON with what was got, and calls the shelf no more
pub stop_behind : (names : List (List ℕ)) (old new : Outside) (s : Stop) → WereGot names old new → s ≢ Stops.Shelf → s ≢ Stops.Refused by.TooLong → StopGets names old new s
stop_behind names old new (Stops.Refused by.TooLong) p inside short = absurd (short refl)
stop_behind names old new (Stops.Refused other) p inside short = p
stop_behind names old new Stops.Shelf p inside short = absurd (inside refl)
stop_behind names old new Stops.Memory p inside short = behind names [] (append-nil names) p.short p.performs (λ some. p.few)

pub gets_behind : {T : Type 0} (names : List (List ℕ)) (old new : Outside) (r : Result T Stop) → WereGot names old new → IfErr r (λ s. s ≢ Stops.Shelf) → (IsErrOf r (Stops.Refused by.TooLong) → ⊥) → AnswerGets names old new r
gets_behind names old new (Ok v) p inside short = p
gets_behind names old new (Err s) p inside short = stop_behind names old new s p inside (λ e. short (ap (λ (x : Stop). Err x) e))

-- there was no memory for more, behind some of the files
pub wants_more : (a b names : List (List ℕ)) (old new : Outside) → a ++ b ≡ names → WereGot a old new → Wants names old new
wants_more a b names old new e p = behind a b e p.short p.performs (λ some. p.few)

-- none was got yet
pub none_got : (names : List (String Global)) (at : Outside) → at.shelf.taken ≢ TOO_LONG → WereGot (word_texts (take 0 names)) at at
none_got [] at few = record { performs = done at; short = tt; few = few }
none_got (n ∷ names) at few = record { performs = done at; short = tt; few = few }

-- WHAT WAS GOT is of bytes, where it is told
pub told_bytes : (told : Option (List ℕ)) (items : List ℕ) → IsFile told items → IfSome told (All IsByte)
told_bytes None items f = tt
told_bytes (Some xs) items f = subst (All IsByte) f.tells f.are_bytes

pub if_ok : {T : Type 0} (P : Type 0) (r : Result T Stop) → P → IfOk r (λ x. P)
if_ok P (Ok x) h = h
if_ok P (Err e) h = tt
