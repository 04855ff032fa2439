-- What the parts of a sample come to: their source is read and checked, its object is linked with its parameters and users, and the image is booted
-- as that of a file is; or the first fault is refused, and nothing else.
use Rattle.std.proofs.Common.{◌≡◌, ◌≢◌, ◌⊎◌, inl, inr, ℕ, List, refl, sym, ap, ◌∙◌, subst, Ok, Err}
use Rattle.std.specs.Prelude.{Result, ⊤}
use Rattle.layer_map.specs.declared.params.Params.{Params}
use Rattle.c0_tree.specs.Tree.{CUnit}
use Rattle.c0_types.specs.Front.{IsFrontAnswer, IsUnitOf, IsSourceFaultOf, IsFirstFault}
use Rattle.c0_types.specs.declared.source_fault.SourceFault.{SourceFault}
use Rattle.c0_types.specs.declared.source_fault.SourceFault.TheVariants.{Reading, Typing}
use Rattle.c0_parser.specs.declared.fault.ReadFault.{ReadFault}
use Rattle.c0_parser.specs.declared.fault.ReadFault.TheVariants as read
use Rattle.c0_types.specs.declared.fault.TypeFault.{TypeFault}
use Rattle.c0_types.specs.declared.fault.TypeFault.TheVariants as typing
use Rattle.boot_image.specs.Parts.{ImageParts as Image}
use Rattle.boot_image.specs.Format.{spelling as image_bytes}
use Rattle.object_file.specs.Parts.{ObjectParts as Object}
use Rattle.kernel_linker.specs.Answers.{FrontGives}
use Rattle.kernel_linker.specs.Link.{fitting, link_answer}
use Rattle.kernel_linker.specs.Object.{object_of}
use Rattle.kernel_linker.specs.declared.fault.LinkFault.{LinkFault}
use Rattle.kernel_linker.specs.declared.fault.LinkFault.TheVariants as linking
use Rattle.sample_maker.specs.Parts.{SampleParts as Sampled}
use Rattle.run_scripts.specs.declared.session.Session.{Session}
use Rattle.cvm_shell.specs.declared.boot.Stop.{Stop}
use Rattle.cvm_shell.specs.declared.boot.Stop.TheVariants as Stops
use Rattle.cvm_shell.specs.declared.refusal.Refusal.TheVariants as by
use Rattle.run_scripts.specs.Refusal.{bad_source, unlinked}
use Rattle.run_scripts.specs.Plan.{Plan, refuses, AfterFiles, AfterLinking, AfterSource, PartsPlan, IsLinkedTo, IsPlan}
use Rattle.cvm_shell.specs.Stages.{source_stop, link_stop}
use Rattle.cvm_shell.specs.Views.{IfRefused, IfPlan}
use Rattle.cvm_shell.proofs.FilesComeToPlans.{if_plan}
use Rattle.cvm_shell.proofs.SourceStops.{unread_stops, mistyped_stops}
use Rattle.cvm_shell.proofs.SourceFronts.{OneAnswer, answer_or_memory, one_fault, not_both}
use Rattle.cvm_shell.proofs.LinkPlans.{Layers, unfit_answers, no_unit, memory_of, link_stops}

-- what comes of a source's one answer is the plan
front_plan : OneAnswer → (layer : Layers) (session : Session) (parts : Sampled) (front : Result CUnit SourceFault) (p : Plan) → IsFrontAnswer parts.source front
    → IsPlan ⊤ (AfterSource layer session parts front) p → IsPlan ⊤ (PartsPlan layer session parts) p
front_plan one layer session parts front p is plan = record {
  comes = (front, is, plan.comes);
  only = λ told q other. plan.only tt q (subst (λ (x : Result CUnit SourceFault). AfterSource layer session parts x q) (one parts.source other.0 front other.1 is) other.2);
}

-- THE FAULT of the source

-- a fault of a source is want of memory, or it is its first fault, which is refused
source_stops : (source : List ℕ) (f : SourceFault) → IsSourceFaultOf source f → (source_stop f ≡ Stops.Memory) ⊎ (IsFirstFault source f × (source_stop f ≡ Stops.Refused (by.BadSource f)))
source_stops source (Reading f) is = elim (unread_stops f) [
  | inl e ↦ inl (ap (λ (x : ReadFault). source_stop (Reading x)) e)
  | inr h ↦ inr (record { fault = is; read = λ e. h.0 (one_reading f read.Memory e); typed = λ e. cc }, h.1)
]
  where
    one_reading : (f g : ReadFault) → Reading f ≡ Reading g → f ≡ g
    one_reading f g e = cc
source_stops source (Typing f) is = elim (mistyped_stops f) [
  | inl e ↦ inl (ap (λ (x : TypeFault). source_stop (Typing x)) e)
  | inr h ↦ inr (record { fault = is; read = λ e. cc; typed = λ e. h.0 (one_typing f typing.Memory e) }, h.1)
]
  where
    one_typing : (f g : TypeFault) → Typing f ≡ Typing g → f ≡ g
    one_typing f g e = cc

pub parts_source_fault : OneAnswer → (layer : Layers) (session : Session) (parts : Sampled) (source : List ℕ) (f : SourceFault) → IsSourceFaultOf source f → source ≡ parts.source
    → IfRefused (IsPlan ⊤ (PartsPlan layer session parts)) (source_stop f)
parts_source_fault one layer session parts source f is same = elim (source_stops parts.source f (subst (λ (s : List ℕ). IsSourceFaultOf s f) same is)) [
  | inl e ↦ subst (IfRefused (IsPlan ⊤ (PartsPlan layer session parts))) (sym e) tt
  | inr h ↦ subst (IfRefused (IsPlan ⊤ (PartsPlan layer session parts))) (sym h.1)
      (front_plan one layer session parts (Err f) (refuses (bad_source f)) h.0 (record { comes = refl; only = λ told q e. e }))
]

-- LINKING the object of the source's own unit

own_source : (source : List ℕ) (u : CUnit) → (object_of source u).source ≡ source
unfolding object_of
own_source source u = refl

-- whatever the front came to, where it isn't want of memory the answer is that of the source's unit
settled : OneAnswer → (layer : Layers) (o : Object) (p : Params) (us : List (List ℕ)) (u : CUnit) (front : Result CUnit SourceFault) (r : Result Image LinkFault) (fit : Result (Unit {0}) LinkFault)
    → fitting p us ≡ fit → IsUnitOf o.source u → FrontGives o.source front → r ≢ Err linking.Memory → link_answer layer o p us front ≡ r → link_answer layer o p us (Ok u) ≡ r
settled one layer o p us u front r (Err g) e is comes named a = unfit_answers layer o p us (Ok u) g e ∙ sym (unfit_answers layer o p us front g e) ∙ a
settled one layer o p us u front r (Ok x) e is comes named a = elim (answer_or_memory o.source front comes) [
  | inl h ↦ absurd (named (sym a ∙ ap (link_answer layer o p us) h.1 ∙ no_unit layer o p us h.0 e ∙ ap (λ (f : LinkFault). Err f) (memory_of h.0 h.2)))
  | inr answer ↦ ap (link_answer layer o p us) (one o.source (Ok u) front is answer) ∙ a
]

-- lent are the source, the parameters and the users of a sample
pub record Lent (parts : Sampled) (source : List ℕ) (params : Params) (users : List (List ℕ)) : Type 0 where
  pub source_is : source ≡ parts.source
  pub params_are : params ≡ parts.params
  pub users_are : users ≡ parts.users

settled_for : OneAnswer → (layer : Layers) (parts : Sampled) (source : List ℕ) (ps : Params) (us : List (List ℕ)) (u : CUnit) (o : Object) (front : Result CUnit SourceFault) (r : Result Image LinkFault)
    → Lent parts source ps us → IsUnitOf source u → o ≡ object_of source u → FrontGives o.source front → r ≢ Err linking.Memory → link_answer layer o ps us front ≡ r
    → link_answer layer (object_of parts.source u) parts.params parts.users (Ok u) ≡ r
settled_for one layer parts source ps us u o front r lent is made comes named a =
    let own : IsUnitOf o.source u = subst (λ (s : List ℕ). IsUnitOf s u) (sym (ap (λ (x : Object). x.source) made ∙ own_source source u)) is in
    ap (λ (s : List ℕ). link_answer layer (object_of s u) parts.params parts.users (Ok u)) (sym lent.source_is)
    ∙ ap (λ (x : Object). link_answer layer x parts.params parts.users (Ok u)) (sym made)
    ∙ ap (λ (p : Params). link_answer layer o p parts.users (Ok u)) (sym lent.params_are)
    ∙ ap (λ (x : List (List ℕ)). link_answer layer o ps x (Ok u)) (sym lent.users_are)
    ∙ settled one layer o ps us u front r (fitting ps us) refl own comes named a

own_unit : (parts : Sampled) (source : List ℕ) (ps : Params) (us : List (List ℕ)) (u : CUnit) → Lent parts source ps us → IsUnitOf source u → IsUnitOf parts.source u
own_unit parts source ps us u lent is = subst (λ (s : List ℕ). IsUnitOf s u) lent.source_is is

-- THE FAULT of linking
pub parts_link_fault : OneAnswer → (layer : Layers) (session : Session) (parts : Sampled) (source : List ℕ) (ps : Params) (us : List (List ℕ)) (u : CUnit) (o : Object) (front : Result CUnit SourceFault) (f : LinkFault)
    → IsUnitOf source u → o ≡ object_of source u → FrontGives o.source front → (f ≡ linking.Memory) ⊎ (link_answer layer o ps us front ≡ Err f) → Lent parts source ps us
    → IfRefused (IsPlan ⊤ (PartsPlan layer session parts)) (link_stop f)
parts_link_fault one layer session parts source ps us u o front f is made comes (inl e) lent =
    subst (λ (x : LinkFault). IfRefused (IsPlan ⊤ (PartsPlan layer session parts)) (link_stop x)) (sym e) tt
parts_link_fault one layer session parts source ps us u o front f is made comes (inr a) lent = elim (link_stops f) [
  | inl e ↦ subst (λ (x : LinkFault). IfRefused (IsPlan ⊤ (PartsPlan layer session parts)) (link_stop x)) (sym e) tt
  | inr h ↦ subst (IfRefused (IsPlan ⊤ (PartsPlan layer session parts))) (sym h.1)
      (let e = settled_for one layer parts source ps us u o front (Err f) lent is made comes (λ m. h.0 (one_fault (Err f) f linking.Memory refl m)) a in
      front_plan one layer session parts (Ok u) (refuses (unlinked f)) (own_unit parts source ps us u lent is)
      (subst (λ (r : Result Image LinkFault). IsPlan ⊤ (AfterLinking layer session parts.schedule r) (refuses (unlinked f))) (sym e) (record { comes = refl; only = λ told q d. d })))
]

-- THE IMAGE that is linked
pub parts_linked : OneAnswer → (layer : Layers) (parts : Sampled) (source : List ℕ) (ps : Params) (us : List (List ℕ)) (u : CUnit) (o : Object) (front : Result CUnit SourceFault) (i : Image) (bytes : List ℕ)
    → IsUnitOf source u → o ≡ object_of source u → FrontGives o.source front → link_answer layer o ps us front ≡ Ok i → bytes ≡ image_bytes i → Lent parts source ps us → IsLinkedTo layer parts bytes
parts_linked one layer parts source ps us u o front i bytes is made comes a e lent = record {
  unit = u;
  typed = own_unit parts source ps us u lent is;
  image = i;
  linked = settled_for one layer parts source ps us u o front (Ok i) lent is made comes (λ m. absurd (not_both (Ok i) i linking.Memory refl m)) a;
  spelled = e;
}

-- what its bytes come to is what the parts come to
pub parts_booted : {A : Type 0} (made : A → Plan) → OneAnswer → (layer : Layers) (session : Session) (parts : Sampled) (bytes schedule : List ℕ) (r : Result A Stop) → IsLinkedTo layer parts bytes
    → schedule ≡ parts.schedule → IfPlan made (IsPlan ⊤ (AfterFiles layer session bytes schedule)) r → IfPlan made (IsPlan ⊤ (PartsPlan layer session parts)) r
parts_booted made one layer session parts bytes schedule r h same plan =
    if_plan made _ _ (λ p is.
    front_plan one layer session parts (Ok h.unit) p h.typed
    (subst (λ (x : Result Image LinkFault). IsPlan ⊤ (AfterLinking layer session parts.schedule x) p) (sym h.linked)
    (subst (λ (bs : List ℕ). IsPlan ⊤ (AfterFiles layer session bs parts.schedule) p) h.spelled
    (subst (λ (text : List ℕ). IsPlan ⊤ (AfterFiles layer session bytes text) p) same is)))) r plan
