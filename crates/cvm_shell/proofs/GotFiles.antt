-- Files that are got one after the other: what comes of all of them, or of the first that is too long.
use Rattle.std.proofs.Common.{◌≡◌, ℕ, zero, suc, ◌<◌, List, [], ◌∷◌, ◌++◌, ◌+◌, length, map, take, drop, get_or, Vec, refl, sym, ap, ◌∙◌, subst, arith, None}
use Rattle.std.specs.Prelude.{Option, Result, ⊤, string_bytes}
use Rattle.std.specs.declared.string.String.{String}
use Rattle.std.specs.declared.alloc.Global.{Global}
use Rattle.cvm_outside.specs.Told.{TOO_LONG, Tells}
use Rattle.cvm_outside.specs.Outside.{Files as Seen, Output, Drive, no_output}
use Rattle.cvm_outside.specs.declared.shelf.ShelfFault.{ShelfFault}
use Rattle.cvm_outside.specs.declared.shelf.ShelfFault.TheVariants.{Failed, TooLong as Long, Memory as NoMemory}
use Rattle.cvm_shell.specs.declared.boot.Stop.{Stop}
use Rattle.cvm_shell.specs.declared.boot.Stop.TheVariants.{Refused, Shelf, Memory}
use Rattle.cvm_shell.specs.declared.refusal.Refusal.{Refusal as ByCode}
use Rattle.run_scripts.specs.Command.{word_texts}
use Rattle.run_scripts.specs.Refusal.{too_long}
use Rattle.run_scripts.specs.Plan.{Plan, refuses, GotAll, FilesAreTold, IsPlan}
use Rattle.run_scripts.specs.Ends.{AreShort, MayBeLong}
use Rattle.cvm_shell.specs.Stages.{stop_of, IsFile, Fetched, OnlyLong}
use Rattle.cvm_shell.specs.Does.{IsLong, StopGets}
use Rattle.cvm_shell.specs.Views.{refusal_view, IfRefused, IfPlan}
use Rattle.cvm_shell.proofs.GotCalls.{beside}
use Rattle.cvm_shell.proofs.FilesComeToPlans.{got_whole, got_long, if_plan, long_contents, short_contents}

abbrev Files : Type 0
Files = List ℕ → Option (List ℕ)

-- the names before a place, the one there, and those behind it
pub names_at : (names : List (String Global)) (i : ℕ) (name : String Global) → i < length names → name ≡ get_or names i name
    → word_texts names ≡ word_texts (take i names) ++ string_bytes name ∷ word_texts (drop (suc i) names)
names_at [] i name below is = absurd (omega (arith, below))
names_at (x ∷ xs) zero name below is = ap (λ (y : String Global). string_bytes y ∷ word_texts xs) (sym is)
names_at (x ∷ xs) (suc i) name below is = ap (λ (ts : List (List ℕ)). string_bytes x ∷ ts) (names_at xs i name (omega (arith, below)) is)

-- and those up to it
pub names_up_to : (names : List (String Global)) (i : ℕ) (name : String Global) → i < length names → name ≡ get_or names i name
    → word_texts (take (suc i) names) ≡ word_texts (take i names) ++ string_bytes name ∷ []
names_up_to [] i name below is = absurd (omega (arith, below))
names_up_to (x ∷ xs) zero name below is = ap (λ (y : String Global). string_bytes y ∷ []) (sym is)
names_up_to (x ∷ xs) (suc i) name below is = ap (λ (ts : List (List ℕ)). string_bytes x ∷ ts) (names_up_to xs i name (omega (arith, below)) is)

-- THE LOOP over the names: a file more was got
bytes_more : (files : List (Vec ℕ Global)) (file : Vec ℕ Global) → map (λ (b : Vec ℕ Global). b.items) (files ++ file ∷ []) ≡ map (λ (b : Vec ℕ Global). b.items) files ++ file.items ∷ []
bytes_more [] file = refl
bytes_more (f ∷ files) file = ap (λ (bs : List (List ℕ)). f.items ∷ bs) (bytes_more files file)

-- a file more, behind those that were got
pub fetched_more : (told : Files) (names got : List (List ℕ)) (n b : List ℕ) → Fetched told names got → Tells (told n) b → length b < TOO_LONG → Fetched told (names ++ n ∷ []) (got ++ b ∷ [])
fetched_more told [] [] n b f t s = (t, s, tt)
fetched_more told [] (c ∷ got) n b f t s = absurd f
fetched_more told (m ∷ names) [] n b f t s = absurd f
fetched_more told (m ∷ names) (c ∷ got) n b (u, l, f) t s = (u, l, fetched_more told names got n b f t s)

pub got_more : (told : Files) (names : List (String Global)) (i : ℕ) (name : String Global) (files more : List (Vec ℕ Global)) (file : Vec ℕ Global) → i < length names → name ≡ get_or names i name → more ≡ files ++ file ∷ []
    → Fetched told (word_texts (take i names)) (map (λ (b : Vec ℕ Global). b.items) files) → Tells (told (string_bytes name)) file.items → length file.items < TOO_LONG
    → Fetched told (word_texts (take (i + 1) names)) (map (λ (b : Vec ℕ Global). b.items) more)
got_more told names i name files more file below is pushed f t s =
    let next : suc i ≡ i + 1 = omega arith in
    let P : List (List ℕ) → List (List ℕ) → Type 0 = λ ns bs. Fetched told ns bs in
    subst (λ (ns : List (List ℕ)). P ns (map (λ (b : Vec ℕ Global). b.items) more)) (sym (names_up_to names i name below is) ∙ ap (λ (k : ℕ). word_texts (take k names)) next)
    (subst (P (word_texts (take i names) ++ string_bytes name ∷ [])) (sym (bytes_more files file) ∙ ap (λ (fs : List (Vec ℕ Global)). map (λ (b : Vec ℕ Global). b.items) fs) (sym pushed))
    (fetched_more told (word_texts (take i names)) (map (λ (b : Vec ℕ Global). b.items) files) (string_bytes name) file.items f t s))

-- What holds of files that another shelf tells as well.

tells_moved : (told other : Option (List ℕ)) (b : List ℕ) → other ≡ told → Tells other b → Tells told b
tells_moved told other b e t = subst (λ (o : Option (List ℕ)). Tells o b) e t

pub fetched_moved : (told other : Files) → ((n : List ℕ) → other n ≡ told n) → (names got : List (List ℕ)) → Fetched other names got → Fetched told names got
fetched_moved told other same [] [] f = tt
fetched_moved told other same [] (b ∷ got) f = absurd f
fetched_moved told other same (n ∷ names) [] f = absurd f
fetched_moved told other same (n ∷ names) (b ∷ got) (t, s, f) = (tells_moved (told n) (other n) b (same n) t, s, fetched_moved told other same names got f)

-- of a shelf whose files tell the same
pub file_moved : (told other : Option (List ℕ)) (bytes : List ℕ) → other ≡ told → IsFile other bytes → IsFile told bytes
file_moved told other bytes e f = subst (λ (o : Option (List ℕ)). IsFile o bytes) e f

-- What comes of them.

-- all were got: what comes of them is what comes of their bytes
pub fetched_plan : (told : Files) (names got : List (List ℕ)) (next : List (List ℕ) → Plan → Type 0) (p : Plan) → Fetched told names got → IsPlan ⊤ (next got) p → IsPlan (FilesAreTold told names) (GotAll told names next) p
fetched_plan told [] [] next p f is = record { comes = is.comes; only = λ t q h. is.only tt q h }
fetched_plan told [] (b ∷ got) next p f is = absurd f
fetched_plan told (n ∷ names) [] next p f is = absurd f
fetched_plan told (n ∷ names) (b ∷ got) next p (t, s, f) is =
    got_whole (told n) (λ bytes. GotAll told names (λ all. next (bytes ∷ all))) (FilesAreTold told (n ∷ names)) (FilesAreTold told names) b p (λ h. h.0) (λ h. h.1) t s (fetched_plan told names got (λ all. next (b ∷ all)) p f is)

pub all_come : {A : Type 0} (made : A → Plan) (told : Files) (names got : List (List ℕ)) (next : List (List ℕ) → Plan → Type 0) (r : Result A Stop) → Fetched told names got → IfPlan made (IsPlan ⊤ (next got)) r
    → IfPlan made (IsPlan (FilesAreTold told names) (GotAll told names next)) r
all_come made told names got next r f h = if_plan made (IsPlan ⊤ (next got)) (IsPlan (FilesAreTold told names) (GotAll told names next)) (λ p is. fetched_plan told names got next p f is) r h

-- the first that is too long is refused
long_plan : (told : Files) (before : List (List ℕ)) (name : List ℕ) (after : List (List ℕ)) (next : List (List ℕ) → Plan → Type 0) → AreShort told before → MayBeLong (told name)
    → IsPlan (FilesAreTold told (before ++ name ∷ after)) (GotAll told (before ++ name ∷ after) next) (refuses too_long)
long_plan told [] name after next s l =
    let b = long_contents (told name) l in got_long (told name) (λ bytes. GotAll told after (λ all. next (bytes ∷ all))) (FilesAreTold told (name ∷ after)) b.0 (λ h. h.0) b.1 b.2
long_plan told (n ∷ before) name after next (s, r) l =
    let b = short_contents (told n) s in
    got_whole (told n) (λ bytes. GotAll told (before ++ name ∷ after) (λ all. next (bytes ∷ all))) (FilesAreTold told (n ∷ before ++ name ∷ after)) (FilesAreTold told (before ++ name ∷ after)) b.0 (refuses too_long) (λ h. h.0) (λ h. h.1) b.1 b.2
    (long_plan told before name after (λ all. next (b.0 ∷ all)) r l)

-- WHAT STOPS THE GETS stops all that comes of the files
module _ (old new : Seen) (names : List (List ℕ)) (next : List (List ℕ) → Plan → Type 0) where
  abbrev Of : List (List ℕ) → Plan → Type 0
  Of ns = IsPlan (FilesAreTold old.file ns) (GotAll old.file ns next)

  is_long : (sink : Output) (disk : Drive) → IsLong names (beside sink disk old) (beside sink disk new) → Of names (refuses too_long)
  is_long sink disk l = subst (λ (ns : List (List ℕ)). Of ns (refuses too_long)) l.all (long_plan old.file l.before l.name l.after next l.short l.long)

  pub all_stop : (s : Stop) → OnlyLong s → ((sink : Output) (disk : Drive) → StopGets names (beside sink disk old) (beside sink disk new) s) → IfRefused (Of names) s
  all_stop (Refused r) only h =
      let disk : Drive = record { sectors = None; size = 0; faults = 0; calls = 0; all_calls = 0 } in
      let l = subst (λ (x : ByCode). StopGets names (beside no_output disk old) (beside no_output disk new) (Refused x)) only (h no_output disk) in
      subst (λ (x : ByCode). Of names (refuses (refusal_view x))) (sym only) (is_long no_output disk l)
  all_stop Shelf only h = tt
  all_stop Memory only h = tt

-- a fault of the shelf is refused for a file's length alone
pub only_long : (f : ShelfFault) → OnlyLong (stop_of f)
only_long Failed = tt
only_long Long = refl
only_long NoMemory = tt

-- the bytes of the file at a place
abbrev pub at : List (List ℕ) → ℕ → List ℕ
at all i = get_or all i []
