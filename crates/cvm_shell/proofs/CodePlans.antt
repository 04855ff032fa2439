-- What the source of a kernel or a user program comes to: it is refused for its first fault, or its unit is due, and nothing else.
use Rattle.std.proofs.Common.{◌≡◌, ◌≢◌, inl, inr, ℕ, ◌<◌, ◌≤◌, List, [], length, refl, sym, ap, ◌∙◌, subst, Ok, Err, Bool, true, false, ltb, ltb-true, ltb-false}
use Rattle.std.specs.Prelude.{Result, ⊤}
use Rattle.c0_tree.specs.declared.primitive.Program.{Program}
use Rattle.c0_tree.specs.Tree.{CUnit}
use Rattle.c0_parser.specs.Faults.{ReadsAs, FaultIs}
use Rattle.c0_parser.specs.declared.fault.ReadFault.{ReadFault}
use Rattle.c0_parser.specs.declared.fault.ReadFault.TheVariants as read
use Rattle.c0_meaning.specs.Fault.{LeastIsThere}
use Rattle.c0_types.specs.Source.{checked_as, source_faults_as}
use Rattle.c0_types.specs.Answer.{FaultAnswersAs}
use Rattle.c0_types.specs.declared.fault.TypeFault.{TypeFault}
use Rattle.c0_types.specs.declared.fault.TypeFault.TheVariants as typing
use Rattle.c0_types.specs.Front.{IsUnitAs, IsAnswerAs, IsMistypedAs, IsFaultAs, IsFaultInAs}
use Rattle.c0_types.specs.declared.source_fault.SourceFault.{SourceFault}
use Rattle.c0_types.specs.declared.source_fault.SourceFault.TheVariants.{Reading, Typing}
use Rattle.run_scripts.specs.Refusal.{bad_source}
use Rattle.run_scripts.specs.Plan.{Plan, refuses, planned, AfterCode, IsPlan}
use Rattle.cvm_shell.specs.Stages.{source_stop}
use Rattle.cvm_shell.specs.Views.{IfRefused}
use Rattle.cvm_shell.proofs.SourceStops.{unread_stops, mistyped_stops}
use Rattle.cvm_shell.proofs.FirstBad.{one_unread, never_unread, one_mistake, no_mistake}

-- The answers of the front.

abbrev err_of : (A : Type 0) → SourceFault → Result A SourceFault
err_of A f = Err f

abbrev ok_of : CUnit → Result CUnit SourceFault
ok_of u = Ok u

-- a fault is want of memory where its source's is
named_read : (g : ReadFault) → Reading g ≢ Reading read.Memory → g ≢ read.Memory
named_read g n e = n (ap (λ (x : ReadFault). Reading x) e)

named_typed : (g : TypeFault) → Typing g ≢ Typing typing.Memory → g ≢ typing.Memory
named_typed g n e = n (ap (λ (x : TypeFault). Typing x) e)

same_read : (f g : ReadFault) → Reading f ≡ Reading g → f ≡ g
same_read f g e = cc

same_typed : (f g : TypeFault) → Typing f ≡ Typing g → f ≡ g
same_typed f g e = cc

module _ (program : Program) (due : CUnit → Plan) where
  -- what is due of an answer is the plan, where there is no other
  code_plan : (source : List ℕ) (front : Result CUnit SourceFault) → IsAnswerAs program source front → ((other : Result CUnit SourceFault) → IsAnswerAs program source other → other ≡ front)
      → IsPlan ⊤ (AfterCode program due source) (planned bad_source due front)
  code_plan source front is one = record { comes = (front, is, refl); only = λ t q h. h.2 ∙ ap (planned bad_source due) (one h.0 h.1) }

  -- The source has no tree.

  only_unread : (source : List ℕ) (f : ReadFault) → f ≢ read.Memory → FaultIs source f → ((u : CUnit) → length source ≤ 1048576 → ReadsAs source u → f ≡ read.Memory)
      → (other : Result CUnit SourceFault) → IsAnswerAs program source other → other ≡ Err (Reading f)
  only_unread source f named is never (Err (Reading g)) also =
      ap (λ (x : ReadFault). err_of CUnit (Reading x)) (one_unread source g f (named_read g also.read) named also.fault is)
  only_unread source f named is never (Err (Typing g)) also = let m = also.fault in absurd (named (never m.tree m.short m.reads))
  only_unread source f named is never (Ok u) c = absurd (named (never c.tree c.short c.reads))

  plan_unread : (source : List ℕ) (f : ReadFault) → f ≢ read.Memory → FaultIs source f → ((u : CUnit) → length source ≤ 1048576 → ReadsAs source u → f ≡ read.Memory)
      → IsPlan ⊤ (AfterCode program due source) (refuses (bad_source (Reading f)))
  plan_unread source f named is never =
      code_plan source (Err (Reading f)) (record { fault = is; read = λ e. named (same_read f read.Memory e); typed = λ e. cc }) (only_unread source f named is never)

  -- Its tree is not typed.

  only_mistyped : LeastIsThere → (source : List ℕ) (f : TypeFault) → f ≢ typing.Memory → length source ≤ 1048576 → IsMistypedAs program source f
      → ((u : CUnit) → length source ≤ 1048576 → ReadsAs source u → FaultAnswersAs program u f) → (other : Result CUnit SourceFault) → IsAnswerAs program source other → other ≡ Err (Typing f)
  only_mistyped law source f named short is each (Err (Reading g)) also = absurd (never_unread source is.tree g short is.reads (named_read g also.read) also.fault)
  only_mistyped law source f named short is each (Err (Typing g)) also =
      let m = also.fault in
      ap (λ (x : TypeFault). err_of CUnit (Typing x)) (one_mistake program law m.tree g f (named_typed g also.typed) named m.answers (each m.tree m.short m.reads))
  only_mistyped law source f named short is each (Ok u) c = absurd (no_mistake program law c.tree f named c.faultless (each c.tree c.short c.reads))

  plan_mistyped : LeastIsThere → (source : List ℕ) (f : TypeFault) → f ≢ typing.Memory → length source ≤ 1048576 → IsMistypedAs program source f
      → ((u : CUnit) → length source ≤ 1048576 → ReadsAs source u → FaultAnswersAs program u f) → IsPlan ⊤ (AfterCode program due source) (refuses (bad_source (Typing f)))
  plan_mistyped law source f named short is each =
      code_plan source (Err (Typing f)) (record { fault = is; read = λ e. cc; typed = λ e. named (same_typed f typing.Memory e) }) (only_mistyped law source f named short is each)

  -- It has a unit.

  only_compiles : LeastIsThere → (source : List ℕ) (u : CUnit) → length source ≤ 1048576 → IsUnitAs program source u
      → ((tree : CUnit) → length source ≤ 1048576 → ReadsAs source tree → (source_faults_as program tree ≡ []) × (u ≡ checked_as program tree))
      → (other : Result CUnit SourceFault) → IsAnswerAs program source other → other ≡ Ok u
  only_compiles law source u short is each (Err (Reading g)) also = absurd (never_unread source is.tree g short is.reads (named_read g also.read) also.fault)
  only_compiles law source u short is each (Err (Typing g)) also =
      let m = also.fault in
      absurd (no_mistake program law m.tree g (named_typed g also.typed) ((each m.tree m.short m.reads).0) m.answers)
  only_compiles law source u short is each (Ok v) c =
      let same : v ≡ u = c.resolved ∙ sym ((each c.tree c.short c.reads).1) in
      ap ok_of same

  -- what is due of the unit is the plan
  pub plan_compiles : LeastIsThere → (source : List ℕ) (u : CUnit) → length source ≤ 1048576 → IsUnitAs program source u
      → ((tree : CUnit) → length source ≤ 1048576 → ReadsAs source tree → (source_faults_as program tree ≡ []) × (u ≡ checked_as program tree))
      → (p : Plan) → p ≡ due u → IsPlan ⊤ (AfterCode program due source) p
  plan_compiles law source u short is each p e =
      subst (IsPlan ⊤ (AfterCode program due source)) (sym e) (code_plan source (Ok u) is (only_compiles law source u short is each))

-- a source that has a fault of typing is short enough
not_above : (n : ℕ) (b : Bool) → ltb 1048576 n ≡ b → (1048576 < n → ⊥) → n ≤ 1048576
not_above n true e not = absurd (not (ltb-true 1048576 n e))
not_above n false e not = ltb-false 1048576 n e

few_enough : (source : List ℕ) (f : TypeFault) → (1048576 < length source → Typing f ≡ Reading read.SourceTooLong) → length source ≤ 1048576
few_enough source f long = not_above (length source) (ltb 1048576 (length source)) refl (λ h. let e = long h in absurd cc)

-- the same, where the source has a unit
pub few_for_unit : {A : Type 0} (source : List ℕ) (x : A) → (1048576 < length source → Ok x ≡ Err (Reading read.SourceTooLong)) → length source ≤ 1048576
few_for_unit source x long = not_above (length source) (ltb 1048576 (length source)) refl (λ h. let e = long h in absurd cc)

pub one_fault : {A : Type 0} (f g : SourceFault) → err_of A f ≡ err_of A g → f ≡ g
one_fault f g e = cc

-- a fault of a source is refused
pub source_fault : (program : Program) (due : CUnit → Plan) → LeastIsThere → (source : List ℕ) (f : SourceFault) → (1048576 < length source → f ≡ Reading read.SourceTooLong) → IsFaultAs program source f
    → ((u : CUnit) → length source ≤ 1048576 → ReadsAs source u → IsFaultInAs program u f) → IfRefused (IsPlan ⊤ (AfterCode program due source)) (source_stop f)
source_fault program due law source (Reading f) long is each = elim (unread_stops f) [
  | inl e ↦ subst (λ (x : ReadFault). IfRefused (IsPlan ⊤ (AfterCode program due source)) (source_stop (Reading x))) (sym e) tt
  | inr h ↦ subst (IfRefused (IsPlan ⊤ (AfterCode program due source))) (sym h.1) (plan_unread program due source f h.0 is each)
]
source_fault program due law source (Typing f) long is each = elim (mistyped_stops f) [
  | inl e ↦ subst (λ (x : TypeFault). IfRefused (IsPlan ⊤ (AfterCode program due source)) (source_stop (Typing x))) (sym e) tt
  | inr h ↦ subst (IfRefused (IsPlan ⊤ (AfterCode program due source))) (sym h.1) (plan_mistyped program due law source f h.0 (few_enough source f long) is each)
]
