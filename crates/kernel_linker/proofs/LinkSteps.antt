-- What is answered of what is to be linked, by the stage at which it is known.
use Rattle.std.proofs.Common.{ℕ, zero, suc, ◌≡◌, ◌≤◌, inl, inr, Bool, true, false, nat_lt, if◌then◌else◌, List, [], ◌∷◌, length, Result, Ok, Err, refl, sym, ap, ◌∙◌, subst, arith}
use Rattle.std.proofs.lemmas.Bool.Decides.{nat_tests}
use Rattle.std.specs.List.{All}
use Rattle.layer_map.specs.declared.params.Params.{Params}
use Rattle.layer_map.specs.Map.{Map, ParamsInRange}
use Rattle.boot_image.specs.Format.{HasSpelling, most_user_words}
use Rattle.c0_parser.specs.declared.fault.ReadFault.TheVariants.{Memory as NoMemory}
use Rattle.c0_types.specs.declared.source_fault.SourceFault.TheVariants.{Reading}
use Rattle.kernel_linker.specs.Answers.{FrontGives}
use Rattle.boot_image.specs.Parts.{ImageParts as Image}
use Rattle.object_file.specs.Parts.{ObjectParts as Object}
use Rattle.c0_tree.specs.Tree.{CUnit}
use Rattle.c0_types.specs.declared.source_fault.SourceFault.{SourceFault}
use Rattle.kernel_linker.specs.Linked.{linked, sizes_of}
use Rattle.cvm_words.specs.Reading.{◌>>=◌, GivesUnless}
use Rattle.kernel_linker.specs.Open.{OpensTo}
use Rattle.kernel_linker.specs.Link.{fitting, link_answer, measured}
use Rattle.kernel_linker.specs.declared.fault.LinkFault.{LinkFault}
use Rattle.kernel_linker.specs.declared.fault.LinkFault.TheVariants.{UserTooLong, Memory}

-- what is due of a result
abbrev pub Due : (layer : Map → List ℕ → List ℕ) → Object → Params → List (List ℕ) → Result Image LinkFault → Type 0
Due layer o p users r = (front : Result CUnit SourceFault) × FrontGives o.source front × GivesUnless Memory (λ i. i) r (link_answer layer o p users front)

-- users or parameters don't fit
pub unfit : (layer : Map → List ℕ → List ℕ) (o : Object) (p : Params) (users : List (List ℕ)) (r : Result Image LinkFault) (e f : LinkFault) →
    r ≡ Err e → e ≡ f → Err f ≡ fitting p users → Due layer o p users r
unfolding link_answer
unfit layer o p users r e f h k fits = subst (Due layer o p users) (sym (h ∙ ap Err k)) (Err (Reading NoMemory), tt, inr (rw (← fits) refl))

-- want of memory
pub wanting : (layer : Map → List ℕ → List ℕ) (o : Object) (p : Params) (users : List (List ℕ)) (r : Result Image LinkFault) (e : LinkFault) →
    r ≡ Err e → e ≡ Memory → Due layer o p users r
wanting layer o p users r e h k = subst (Due layer o p users) (sym h) (Err (Reading NoMemory), tt, inl k)

-- the object isn't opened
pub unopened : {X : Type 0} (view : X → CUnit) (layer : Map → List ℕ → List ℕ) (o : Object) (p : Params) (users : List (List ℕ)) (r : Result Image LinkFault) (e f : LinkFault) (x : Unit {0}) →
    r ≡ Err e → e ≡ f → Ok x ≡ fitting p users → OpensTo view o (Err f) → Due layer o p users r
unfolding link_answer
unopened view layer o p users r e f x h k fits (front, comes, inl m) = subst (Due layer o p users) (sym (h ∙ ap Err k)) (front, comes, inl m)
unopened view layer o p users r e f x h k fits (front, comes, inr a) = subst (Due layer o p users) (sym (h ∙ ap Err k)) (front, comes, inr (rw (← fits, a) refl))

-- all is well
pub made : {X : Type 0} (view : X → CUnit) (layer : Map → List ℕ → List ℕ) (o : Object) (p : Params) (users : List (List ℕ)) (v : X) (s w : List ℕ) (us : List (List ℕ)) (x : Unit {0}) →
    Ok x ≡ fitting p users → OpensTo view o (Ok v) → s ≡ o.source → w ≡ linked layer (view v) p (sizes_of users) → us ≡ users →
    Due layer o p users (Ok (record { params = p; form = 3; source = s; words = w; users = us }))
unfolding link_answer
made view layer o p users v s w us x fits (front, comes, a) es ew eu = (front, comes, rw (← fits, a, es, ew, eu) refl)

-- what is made can be written
pub written : (p : Params) (s source w : List ℕ) (us users : List (List ℕ)) → length source ≤ 1048576 → s ≡ source → ParamsInRange p → 16384 ≤ length w → length w ≤ 4194304 →
    length users ≤ 64 → All (λ u. length u ≤ most_user_words p.pages) users → us ≡ users → HasSpelling (record { params = p; form = 3; source = s; words = w; users = us })
written p s source w us users short es params least most few sizes eu =
    rw (es, eu) (record { source = short; form = inr (record { form = refl; params = params; least = least; most = most; users = few; sizes = sizes }) })

-- what holds of the first and of the others holds of all
all_cons : {A : Type 0} (P : A → Type 0) (x : A) (xs : List A) → P x → All P xs → All P (x ∷ xs)
all_cons P x xs h rest zero d below = h
all_cons P x xs h rest (suc i) d below = rest i d (omega arith)

-- a user that isn't too long, and the others
not_long : (b : Bool) (most n : ℕ) (words : List ℕ) (rest : List (List ℕ)) → b ≡ nat_lt most (length words) →
    (if b then Err (UserTooLong n (length words)) else measured most (suc n) rest) ≡ Ok tt → (length words ≤ most) × (measured most (suc n) rest ≡ Ok tt)
not_long true most n words rest e h = cc
not_long false most n words rest e h = (grind (arith, nat_tests), h)

-- users that are measured are short
pub measured_all : (most n : ℕ) (users : List (List ℕ)) → measured most n users ≡ Ok tt → All (λ u. length u ≤ most) users
measured_all most n [] h = λ i d below. absurd (omega arith)
measured_all most n (words ∷ rest) h =
    let here = not_long (nat_lt most (length words)) most n words rest refl h in
    all_cons (λ (u : List ℕ). length u ≤ most) words rest here.0 (measured_all most (suc n) rest here.1)
