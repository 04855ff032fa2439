-- The answer of the check: a unit in which no fault stands is checked, and a fault that was met last is the least.
use Rattle.std.proofs.Common.{◌≡◌, List, [], ◌∷◌, ◌++◌, true, Option, Some, refl, sym, ap, ◌∙◌, subst}
use Rattle.c0_tree.specs.Tree.{CUnit}
use Rattle.c0_tree.specs.Plain.{is_plain}
use Rattle.c0_tree.specs.Primitives.{CPrimitive, primitives_of}
use Rattle.c0_tree.specs.declared.primitive.Program.{Program}
use Rattle.c0_meaning.specs.Fault.{Fault, IsLeast}
use Rattle.c0_meaning.specs.Limits.{first_faults}
use Rattle.c0_meaning.specs.Stable.{ResolvingIsStable}
use Rattle.c0_meaning.specs.Unit.{unit_faults, program_faults, FaultlessIsChecked, IsCheckedAs}
use Rattle.c0_types.specs.Answer.{AnswersLeastAs}
use Rattle.c0_types.specs.Source.{read_unit, checked_as, source_faults_as, asm_faults}
use Rattle.c0_types.proofs.FaultlessIsPlain.{read_plain, read_allowed}

left_empty : (fs gs : List Fault) → fs ++ gs ≡ [] → fs ≡ []
left_empty [] gs h = refl
left_empty (f ∷ fs) gs h = cc

-- a source's unit in which no fault stands is checked
pub faultless_checked : (program : Program) → FaultlessIsChecked → ResolvingIsStable → (u v : CUnit) → is_plain u ≡ true → source_faults_as program u ≡ [] → v ≡ checked_as program u
    → IsCheckedAs program v
faultless_checked program law stable u v plain none is =
    let table : List CPrimitive = primitives_of program in
    let r : CUnit = read_unit u in
    let faultless : program_faults program r ≡ [] = left_empty (program_faults program r) (asm_faults u.functions) none in
    subst (IsCheckedAs program) (sym is)
    (law program (checked_as program u) (stable.plain table r ∙ read_plain program u plain faultless)
    (ap (λ (fs : List Fault). fs ++ first_faults program (checked_as program u)) (stable.faults table r)
    ∙ (ap (λ (fs : List Fault). unit_faults table r ++ fs) (stable.first program table r) ∙ faultless))
    (stable.again table r) (stable.words table r (read_allowed u.functions)))

-- an answer that says the least fault is right
pub says_least : (program : Program) (o : Option Fault) (f : Fault) (u : CUnit) → o ≡ Some f → IsLeast (source_faults_as program u) f → AnswersLeastAs program o u
says_least program o f u says least = subst (λ (p : Option Fault). AnswersLeastAs program p u) (sym says) least
