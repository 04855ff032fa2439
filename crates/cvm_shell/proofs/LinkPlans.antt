-- What the files of a system come to: each is got, read and linked, or the first fault is refused, and nothing else. What is put is accepted.
use Rattle.std.proofs.Common.{◌≡◌, ◌≢◌, ◌⊎◌, inl, inr, ℕ, List, refl, sym, ap, ◌∙◌, subst, Ok, Err}
use Rattle.std.specs.Prelude.{Result, ⊤}
use Rattle.layer_map.specs.Map.{Map}
use Rattle.layer_map.specs.declared.params.Params.{Params}
use Rattle.c0_tree.specs.Tree.{CUnit}
use Rattle.c0_types.specs.Front.{IsFrontAnswer}
use Rattle.c0_types.specs.declared.source_fault.SourceFault.{SourceFault}
use Rattle.c0_types.specs.declared.source_fault.SourceFault.TheVariants.{Reading}
use Rattle.c0_parser.specs.declared.fault.ReadFault.TheVariants as read
use Rattle.boot_image.specs.Parts.{ImageParts as Image}
use Rattle.boot_image.specs.Format.{spelling as image_bytes}
use Rattle.boot_image.specs.Reading.{answer as image_of}
use Rattle.object_file.specs.Parts.{ObjectParts as Object}
use Rattle.object_file.specs.Answer.{IsObjectAnswer as IsObject, UnlessMemory}
use Rattle.object_file.specs.declared.fault.ObjectFault.{ObjectFault}
use Rattle.object_file.specs.declared.fault.ObjectFault.TheVariants as object
use Rattle.system_files.specs.Params.{params_of}
use Rattle.system_files.specs.declared.fault.FileFault.{FileFault}
use Rattle.system_files.specs.declared.fault.FileFault.TheVariants as system
use Rattle.kernel_linker.specs.Answers.{FrontGives}
use Rattle.kernel_linker.specs.Open.{open_answer}
use Rattle.kernel_linker.specs.Link.{fitting, link_answer}
use Rattle.kernel_linker.specs.Accept.{accept_answer}
use Rattle.kernel_linker.specs.Laws.{LinkedAreAccepted}
use Rattle.kernel_linker.specs.Fault.{link_source_fault}
use Rattle.kernel_linker.specs.declared.fault.LinkFault.{LinkFault}
use Rattle.kernel_linker.specs.declared.fault.LinkFault.TheVariants as linking
use Rattle.cvm_shell.specs.declared.boot.Stop.TheVariants as Stops
use Rattle.cvm_shell.specs.declared.refusal.Refusal.TheVariants as by
use Rattle.run_scripts.specs.Refusal.{bad_object, bad_file, unlinked}
use Rattle.cvm_shell.specs.Linked.{IsAcceptedAs}
use Rattle.run_scripts.specs.Plan.{Plan, refuses, puts, user_words_from, linked_plan, AfterParts, unfit, answered, AfterUsers, AfterParams, AfterSystem, no_object, has_object, IsPlan}
use Rattle.cvm_shell.specs.Stages.{object_stop, file_stop, link_stop}
use Rattle.cvm_shell.specs.Views.{IfRefused}
use Rattle.cvm_shell.proofs.AcceptedAs.{linked_system, accepted_as}
use Rattle.cvm_shell.proofs.SourceFronts.{OneAnswer, IsWant, answer_or_memory, one_fault, not_both}

-- LINKING

abbrev pub Layers : Type 0
Layers = Map → List ℕ → List ℕ

-- what doesn't fit is answered by its fault, whatever the source is
pub unfit_answers : (layer : Layers) (o : Object) (p : Params) (us : List (List ℕ)) (front : Result CUnit SourceFault) (f : LinkFault) → fitting p us ≡ Err f → link_answer layer o p us front ≡ Err f
unfolding link_answer
unfit_answers layer o p us front f e = rw e refl

-- what fits and has no unit is answered by the source's fault
pub no_unit : (layer : Layers) (o : Object) (p : Params) (us : List (List ℕ)) (f : SourceFault) → fitting p us ≡ Ok tt → link_answer layer o p us (Err f) ≡ Err (link_source_fault f)
unfolding link_answer open_answer
no_unit layer o p us f e = rw e refl

-- the answer is one
only_answered : OneAnswer → (layer : Layers) (name : List ℕ) (o : Object) (p : Params) (us : List (List ℕ)) (front : Result CUnit SourceFault) → IsFrontAnswer o.source front
    → (q : Plan) → AfterParts layer name o p us q → q ≡ linked_plan name (link_answer layer o p us front)
only_answered one layer name o p us front is q (unfit f e) = ap (linked_plan name) (sym (unfit_answers layer o p us front f e))
only_answered one layer name o p us front is q (answered other also) = ap (λ (x : Result CUnit SourceFault). linked_plan name (link_answer layer o p us x)) (one o.source other front also is)

only_unfit : (layer : Layers) (name : List ℕ) (o : Object) (p : Params) (us : List (List ℕ)) (f : LinkFault) → fitting p us ≡ Err f
    → (q : Plan) → AfterParts layer name o p us q → q ≡ refuses (unlinked f)
only_unfit layer name o p us f e q (unfit g d) = ap (linked_plan name) (sym (unfit_answers layer o p us (Err (Reading read.Memory)) g d) ∙ unfit_answers layer o p us (Err (Reading read.Memory)) f e)
only_unfit layer name o p us f e q (answered front is) = ap (linked_plan name) (unfit_answers layer o p us front f e)

plan_unfit : (layer : Layers) (name : List ℕ) (o : Object) (p : Params) (us : List (List ℕ)) (f : LinkFault) → fitting p us ≡ Err f → IsPlan ⊤ (AfterParts layer name o p us) (refuses (unlinked f))
plan_unfit layer name o p us f e = record { comes = unfit f e; only = λ t q h. only_unfit layer name o p us f e q h }

plan_answered : OneAnswer → (layer : Layers) (name : List ℕ) (o : Object) (p : Params) (us : List (List ℕ)) (front : Result CUnit SourceFault) → IsFrontAnswer o.source front
    → IsPlan ⊤ (AfterParts layer name o p us) (linked_plan name (link_answer layer o p us front))
plan_answered one layer name o p us front is = record { comes = answered front is; only = λ t q h. only_answered one layer name o p us front is q h }

-- want of memory for a source is that for linking
pub memory_of : (f : SourceFault) → IsWant f → link_source_fault f ≡ linking.Memory
memory_of f (inl e) = ap link_source_fault e
memory_of f (inr e) = ap link_source_fault e

-- a fault of linking is want of memory, or it is refused
pub link_stops : (f : LinkFault) → (f ≡ linking.Memory) ⊎ ((f ≢ linking.Memory) × (link_stop f ≡ Stops.Refused (by.Unlinked f)))
link_stops (linking.UserCount n) = inr (λ e. cc, refl)
link_stops (linking.UserTooLong n m) = inr (λ e. cc, refl)
link_stops (linking.Parameter n m) = inr (λ e. cc, refl)
link_stops (linking.ObjectSource g) = inr (λ e. cc, refl)
link_stops (linking.ObjectTypes g) = inr (λ e. cc, refl)
link_stops (linking.ObjectForgedCount n m) = inr (λ e. cc, refl)
link_stops (linking.ObjectForged n m k) = inr (λ e. cc, refl)
link_stops linking.Memory = inl refl

-- a fault is refused, by whether the parts fit and by what the front came to
refused_link : OneAnswer → (layer : Layers) (name : List ℕ) (o : Object) (p : Params) (us : List (List ℕ)) (front : Result CUnit SourceFault) (f : LinkFault) (fit : Result (Unit {0}) LinkFault)
    → fitting p us ≡ fit → f ≢ linking.Memory → FrontGives o.source front → link_answer layer o p us front ≡ Err f → IsPlan ⊤ (AfterParts layer name o p us) (refuses (unlinked f))
refused_link one layer name o p us front f (Err g) e named comes a =
    let same : g ≡ f = one_fault (link_answer layer o p us front) g f (unfit_answers layer o p us front g e) a in
    subst (λ (x : LinkFault). IsPlan ⊤ (AfterParts layer name o p us) (refuses (unlinked x))) same (plan_unfit layer name o p us g e)
refused_link one layer name o p us front f (Ok u) e named comes a = elim (answer_or_memory o.source front comes) [
  | inl h ↦ absurd (named (sym (one_fault (link_answer layer o p us front) (link_source_fault h.0) f (subst (λ (x : Result CUnit SourceFault). link_answer layer o p us x ≡ Err (link_source_fault h.0)) (sym h.1) (no_unit layer o p us h.0 e)) a) ∙ memory_of h.0 h.2))
  | inr is ↦ subst (λ (x : Result Image LinkFault). IsPlan ⊤ (AfterParts layer name o p us) (linked_plan name x)) a (plan_answered one layer name o p us front is)
]

-- THE FAULT of linking
pub linked_fault : OneAnswer → (layer : Layers) (name : List ℕ) (o : Object) (p : Params) (us : List (List ℕ)) (f : LinkFault) (front : Result CUnit SourceFault)
    → FrontGives o.source front → (f ≡ linking.Memory) ⊎ (link_answer layer o p us front ≡ Err f) → IfRefused (IsPlan ⊤ (AfterParts layer name o p us)) (link_stop f)
linked_fault one layer name o p us f front comes (inl e) = subst (λ (x : LinkFault). IfRefused (IsPlan ⊤ (AfterParts layer name o p us)) (link_stop x)) (sym e) tt
linked_fault one layer name o p us f front comes (inr a) = elim (link_stops f) [
  | inl e ↦ subst (λ (x : LinkFault). IfRefused (IsPlan ⊤ (AfterParts layer name o p us)) (link_stop x)) (sym e) tt
  | inr h ↦ subst (IfRefused (IsPlan ⊤ (AfterParts layer name o p us))) (sym h.1) (refused_link one layer name o p us front f (fitting p us) refl h.0 comes a)
]

-- THE IMAGE that is linked
image_linked : OneAnswer → (layer : Layers) (name : List ℕ) (o : Object) (p : Params) (us : List (List ℕ)) (i : Image) (front : Result CUnit SourceFault) (fit : Result (Unit {0}) LinkFault)
    → fitting p us ≡ fit → FrontGives o.source front → link_answer layer o p us front ≡ Ok i → IsPlan ⊤ (AfterParts layer name o p us) (puts name (image_bytes i))
image_linked one layer name o p us i front (Err g) e comes a = absurd (not_both (link_answer layer o p us front) i g a (unfit_answers layer o p us front g e))
image_linked one layer name o p us i (Err f) (Ok u) e comes a = absurd (not_both (link_answer layer o p us (Err f)) i (link_source_fault f) a (no_unit layer o p us f e))
image_linked one layer name o p us i (Ok v) (Ok u) e comes a =
    subst (λ (x : Result Image LinkFault). IsPlan ⊤ (AfterParts layer name o p us) (linked_plan name x)) a (plan_answered one layer name o p us (Ok v) comes)

pub linked_whole : OneAnswer → (layer : Layers) (name bytes : List ℕ) (o : Object) (p : Params) (us : List (List ℕ)) (i : Image) (front : Result CUnit SourceFault)
    → FrontGives o.source front → link_answer layer o p us front ≡ Ok i → bytes ≡ image_bytes i → IsPlan ⊤ (AfterParts layer name o p us) (puts name bytes)
linked_whole one layer name bytes o p us i front comes a e =
    subst (λ (bs : List ℕ). IsPlan ⊤ (AfterParts layer name o p us) (puts name bs)) (sym e) (image_linked one layer name o p us i front (fitting p us) refl comes a)

-- IT IS ACCEPTED
pub linked_accepted : LinkedAreAccepted → (layer : Layers) (o : Object) (p : Params) (us : List (List ℕ)) (i : Image) (front : Result CUnit SourceFault) (bytes : List ℕ)
    → FrontGives o.source front → link_answer layer o p us front ≡ Ok i → image_of bytes ≡ Ok i → IsAcceptedAs layer o.source p us bytes
linked_accepted law layer o p us i front bytes comes a e =
    let found = law layer o p us front i a in
    accepted_as layer o.source p us found.unit i bytes (subst (FrontGives o.source) found.read comes) found.source
    (subst (λ (x : Result CUnit SourceFault). accept_answer layer i x ≡ Ok (linked_system layer found.unit p us)) found.read found.accepted) e

-- THE STAGES BEFORE: the object, the parameters, the users.

-- a fault of an object is want of memory, or it is refused
pub object_stops : (f : ObjectFault) → (f ≡ object.Memory) ⊎ ((f ≢ object.Memory) × (object_stop f ≡ Stops.Refused (by.BadObject f)))
object_stops object.Magic = inr (λ e. cc, refl)
object_stops (object.Truncated at) = inr (λ e. cc, refl)
object_stops (object.Trailing at) = inr (λ e. cc, refl)
object_stops (object.Field at value) = inr (λ e. cc, refl)
object_stops object.Memory = inl refl

file_stops : (f : FileFault) → (f ≡ system.Memory) ⊎ ((f ≢ system.Memory) × (file_stop f ≡ Stops.Refused (by.BadFile f)))
file_stops (system.Parameter which value) = inr (λ e. cc, refl)
file_stops (system.UserTorn user bytes) = inr (λ e. cc, refl)
file_stops (system.BadParams line) = inr (λ e. cc, refl)
file_stops system.Memory = inl refl

abbrev pub OneObject : Type 0
OneObject = (bytes : List ℕ) (a b : Result Object ObjectFault) → IsObject bytes a → IsObject bytes b → a ≡ b

-- an object is no fault
pub no_fault : (bytes : List ℕ) (o : Object) (f : ObjectFault) → OneObject → IsObject bytes (Ok o) → IsObject bytes (Err f) → ⊥
no_fault bytes o f one is other = let e = one bytes (Ok o) (Err f) is other in cc

pub one_object : (o p : Object) (x : Result Object ObjectFault) → x ≡ Ok o → x ≡ Ok p → o ≡ p
one_object o p x a b = let e = sym a ∙ b in cc

one_object_fault : (f g : ObjectFault) (x : Result Object ObjectFault) → x ≡ Err f → x ≡ Err g → f ≡ g
one_object_fault f g x a b = let e = sym a ∙ b in cc

only_no_object : OneObject → (layer : Layers) (name bytes params : List ℕ) (users : List (List ℕ)) (f : ObjectFault) → IsObject bytes (Err f)
    → (q : Plan) → AfterSystem layer name bytes params users q → q ≡ refuses (bad_object f)
only_no_object one layer name bytes params users f is q (no_object g other) = ap (λ (x : ObjectFault). refuses (bad_object x)) (one_object_fault g f (Err g) refl (one bytes (Err g) (Err f) other is))
only_no_object one layer name bytes params users f is q (has_object o r other next) = absurd (no_fault bytes o f one other is)

plan_no_object : OneObject → (layer : Layers) (name bytes params : List ℕ) (users : List (List ℕ)) (f : ObjectFault) → IsObject bytes (Err f)
    → IsPlan ⊤ (AfterSystem layer name bytes params users) (refuses (bad_object f))
plan_no_object one layer name bytes params users f is = record { comes = no_object f is; only = λ t q h. only_no_object one layer name bytes params users f is q h }

-- THE FAULT of an object
pub object_fault : OneObject → (layer : Layers) (name bytes params : List ℕ) (users : List (List ℕ)) (f : ObjectFault) → (f ≢ object.Memory → IsObject bytes (Err f))
    → IfRefused (IsPlan ⊤ (AfterSystem layer name bytes params users)) (object_stop f)
object_fault one layer name bytes params users f is = elim (object_stops f) [
  | inl e ↦ subst (λ (x : ObjectFault). IfRefused (IsPlan ⊤ (AfterSystem layer name bytes params users)) (object_stop x)) (sym e) tt
  | inr h ↦ subst (IfRefused (IsPlan ⊤ (AfterSystem layer name bytes params users))) (sym h.1) (plan_no_object one layer name bytes params users f (is h.0))
]

-- unless memory ran out, a fault is the object's
pub fault_unless : (bytes : List ℕ) (f : ObjectFault) → UnlessMemory (Err f) (IsObject bytes (Err f)) → f ≢ object.Memory → IsObject bytes (Err f)
fault_unless bytes object.Magic is named = is
fault_unless bytes (object.Truncated at) is named = is
fault_unless bytes (object.Trailing at) is named = is
fault_unless bytes (object.Field at value) is named = is
fault_unless bytes object.Memory is named = absurd (named refl)

-- an object that is read: what comes of it is what comes of the parameters
only_has_object : OneObject → (layer : Layers) (name bytes params : List ℕ) (users : List (List ℕ)) (o : Object) (p : Plan) → IsObject bytes (Ok o)
    → ((q : Plan) → AfterParams layer name o users (params_of params) q → q ≡ p) → (q : Plan) → AfterSystem layer name bytes params users q → q ≡ p
only_has_object one layer name bytes params users o p is only q (no_object g other) = absurd (no_fault bytes o g one is other)
only_has_object one layer name bytes params users o p is only q (has_object v r other next) =
    let same : v ≡ o = one_object v o (Ok v) refl (one bytes (Ok v) (Ok o) other is) in
    only q (subst (λ (x : Object). AfterParams layer name x users (params_of params) q) same next)

pub plan_object : OneObject → (layer : Layers) (name bytes params : List ℕ) (users : List (List ℕ)) (o : Object) (p : Plan) → IsObject bytes (Ok o)
    → IsPlan ⊤ (AfterParams layer name o users (params_of params)) p → IsPlan ⊤ (AfterSystem layer name bytes params users) p
plan_object one layer name bytes params users o p is plan = record { comes = has_object o p is plan.comes; only = λ t q h. only_has_object one layer name bytes params users o p is (plan.only tt) q h }

-- the parameters
pub params_fault : (layer : Layers) (name : List ℕ) (o : Object) (users : List (List ℕ)) (r : Result Params FileFault) (f : FileFault) → r ≡ Err f
    → IfRefused (IsPlan ⊤ (AfterParams layer name o users r)) (file_stop f)
params_fault layer name o users r f e = elim (file_stops f) [
  | inl m ↦ subst (λ (x : FileFault). IfRefused (IsPlan ⊤ (AfterParams layer name o users r)) (file_stop x)) (sym m) tt
  | inr h ↦ subst (IfRefused (IsPlan ⊤ (AfterParams layer name o users r))) (sym h.1)
      (subst (λ (x : Result Params FileFault). IsPlan ⊤ (AfterParams layer name o users x) (refuses (bad_file f))) (sym e) (record { comes = refl; only = λ t q k. k }))
]

pub plan_params : (layer : Layers) (name : List ℕ) (o : Object) (users : List (List ℕ)) (r : Result Params FileFault) (params : Params) (p : Plan) → r ≡ Ok params
    → IsPlan ⊤ (AfterUsers layer name o params (user_words_from 1 users)) p → IsPlan ⊤ (AfterParams layer name o users r) p
plan_params layer name o users r params p e plan =
    subst (λ (x : Result Params FileFault). IsPlan ⊤ (AfterParams layer name o users x) p) (sym e) (record { comes = plan.comes; only = λ t q k. plan.only tt q k })

-- the users
pub users_fault : (layer : Layers) (name : List ℕ) (o : Object) (params : Params) (r : Result (List (List ℕ)) FileFault) (f : FileFault) → (f ≢ system.Memory → r ≡ Err f)
    → IfRefused (IsPlan ⊤ (AfterUsers layer name o params r)) (file_stop f)
users_fault layer name o params r f e = elim (file_stops f) [
  | inl m ↦ subst (λ (x : FileFault). IfRefused (IsPlan ⊤ (AfterUsers layer name o params r)) (file_stop x)) (sym m) tt
  | inr h ↦ subst (IfRefused (IsPlan ⊤ (AfterUsers layer name o params r))) (sym h.1)
      (subst (λ (x : Result (List (List ℕ)) FileFault). IsPlan ⊤ (AfterUsers layer name o params x) (refuses (bad_file f))) (sym (e h.0)) (record { comes = refl; only = λ t q k. k }))
]

pub plan_users : (layer : Layers) (name : List ℕ) (o : Object) (params : Params) (r : Result (List (List ℕ)) FileFault) (users : List (List ℕ)) (p : Plan) → r ≡ Ok users
    → IsPlan ⊤ (AfterParts layer name o params users) p → IsPlan ⊤ (AfterUsers layer name o params r) p
plan_users layer name o params r users p e plan =
    subst (λ (x : Result (List (List ℕ)) FileFault). IsPlan ⊤ (AfterUsers layer name o params x) p) (sym e) (record { comes = plan.comes; only = λ t q k. plan.only tt q k })
