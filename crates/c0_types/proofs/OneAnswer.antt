-- A source has one answer, since it has one tree or one first bad token, and a tree one least fault.
use Rattle.std.proofs.Common.{ℕ, ◌≡◌, ◌≢◌, ◌==◌, List, [], Option, Some, None, Result, Ok, Err, if◌then◌else◌, refl, sym, ap, ◌∙◌, subst}
use Rattle.c0_tree.specs.declared.primitive.Program.{Program}
use Rattle.c0_tree.specs.Tree.{CUnit}
use Rattle.c0_meaning.specs.Fault.{Fault, IsLeast, LeastIsThere}
use Rattle.c0_parser.specs.declared.fault.ReadFault.{ReadFault}
use Rattle.c0_parser.specs.declared.fault.ReadFault.TheVariants.{Memory}
use Rattle.c0_parser.specs.Answer as reading
use Rattle.c0_types.specs.declared.fault.TypeFault.{TypeFault}
use Rattle.c0_types.specs.declared.fault.TypeFault.TheVariants.{UnknownName, NameTwice, WrongType, WrongCount, NotAPlace, LocalAddress, StructHoldsItself, TooDeep, TooManyNodes, UnitTooLarge, GlobalsTooLarge, NoDispatch, AsmNotAllowed, TooManyParameters, TypeTooLarge, EmptyArray, NoMain, Memory as NoMemory}
use Rattle.c0_types.specs.Answer.{type_fault_view, AnswersLeastAs, FaultAnswersAs}
use Rattle.c0_types.specs.Source.{source_faults_as, checked_as}
use Rattle.c0_types.specs.Front.{IsUnitAs, IsFirstFaultAs, IsAnswerAs}
use Rattle.c0_types.specs.declared.source_fault.SourceFault.{SourceFault}
use Rattle.c0_types.specs.declared.source_fault.SourceFault.TheVariants.{Reading, Typing}

-- a reading has one answer
abbrev pub OneReading : Type 0
OneReading = (source : List ℕ) (a b : Result CUnit ReadFault) → reading.IsTreeAnswer source a → reading.IsTreeAnswer source b → a ≡ b

-- the fault of a number
back_at : ℕ → Fault → TypeFault
back_at n f =
    if n == 20 then UnknownName f.span else if n == 21 then NameTwice f.span else if n == 22 then WrongType f.span else if n == 23 then WrongCount f.span else
    if n == 24 then NotAPlace f.span else if n == 25 then LocalAddress f.span else if n == 26 then StructHoldsItself f.span else if n == 27 then TooDeep f.span else
    if n == 28 then TooManyNodes f.span else if n == 29 then UnitTooLarge f.span else if n == 30 then GlobalsTooLarge f.span else if n == 31 then NoDispatch f.span else
    if n == 32 then AsmNotAllowed f.span f.line else if n == 33 then TooManyParameters f.span else if n == 34 then TypeTooLarge f.span else
    if n == 35 then EmptyArray f.span else NoMain f.span

back : Option Fault → TypeFault
back None = NoMemory
back (Some f) = back_at f.number f

back_view : (f : TypeFault) → back (type_fault_view f) ≡ f
unfolding back back_at
back_view (UnknownName s) = refl
back_view (NameTwice s) = refl
back_view (WrongType s) = refl
back_view (WrongCount s) = refl
back_view (NotAPlace s) = refl
back_view (LocalAddress s) = refl
back_view (StructHoldsItself s) = refl
back_view (TooDeep s) = refl
back_view (TooManyNodes s) = refl
back_view (UnitTooLarge s) = refl
back_view (GlobalsTooLarge s) = refl
back_view (NoDispatch s) = refl
back_view (AsmNotAllowed s line) = refl
back_view (TooManyParameters s) = refl
back_view (TypeTooLarge s) = refl
back_view (EmptyArray s) = refl
back_view (NoMain s) = refl
back_view NoMemory = refl

-- a unit without faults has no first one
none_first : (program : Program) → LeastIsThere → (faults : List Fault) (view : Option Fault) (u : CUnit) → view ≢ None → faults ≡ [] → source_faults_as program u ≡ faults → AnswersLeastAs program view u → ⊥
none_first program law faults None u n e s h = n refl
none_first program law faults (Some f) u n e s h = law.none f (subst (λ (fs : List Fault). IsLeast fs f) (s ∙ e) h)

-- there is one first fault
one_first : (program : Program) → LeastIsThere → (a b : Option Fault) (u : CUnit) → a ≢ None → b ≢ None → AnswersLeastAs program a u → AnswersLeastAs program b u → a ≡ b
one_first program law None b u m n h k = absurd (m refl)
one_first program law (Some f) None u m n h k = absurd (n refl)
one_first program law (Some f) (Some g) u m n h k = ap Some (law.only (source_faults_as program u) f g h k)

-- a fault of typing that isn't want of memory is seen
seen_fault : (f : TypeFault) → Typing f ≢ Typing NoMemory → type_fault_view f ≢ None
unfolding back
seen_fault f n e = n (ap Typing (sym (back_view f) ∙ ap back e))

-- faults that are seen as the same are the same
same_fault : (f g : TypeFault) → type_fault_view f ≡ type_fault_view g → f ≡ g
same_fault f g e = sym (back_view f) ∙ (ap back e ∙ back_view g)

-- the answer of a reading
read_fault : (program : Program) (source : List ℕ) (f : ReadFault) → IsFirstFaultAs program source (Reading f) → reading.IsTreeAnswer source (Err f)
read_fault program source f h = (λ e. h.read (ap Reading e), h.fault)

-- there is one tree, one fault of reading, and not both
one_tree : OneReading → (source : List ℕ) (t u : CUnit) → reading.IsTreeAnswer source (Ok t) → reading.IsTreeAnswer source (Ok u) → t ≡ u
one_tree one source t u a b =
    let left : Result CUnit ReadFault = Ok t in
    let right : Result CUnit ReadFault = Ok u in
    let e : left ≡ right = one source left right a b in cc

one_reading : OneReading → (source : List ℕ) (f g : ReadFault) → reading.IsTreeAnswer source (Err f) → reading.IsTreeAnswer source (Err g) → f ≡ g
one_reading one source f g a b =
    let left : Result CUnit ReadFault = Err f in
    let right : Result CUnit ReadFault = Err g in
    let e : left ≡ right = one source left right a b in cc

no_reading : OneReading → (source : List ℕ) (t : CUnit) (f : ReadFault) → reading.IsTreeAnswer source (Ok t) → reading.IsTreeAnswer source (Err f) → ⊥
no_reading one source t f a b =
    let left : Result CUnit ReadFault = Ok t in
    let right : Result CUnit ReadFault = Err f in
    let e : left ≡ right = one source left right a b in cc

-- a unit and a fault
not_both : (program : Program) → OneReading → LeastIsThere → (source : List ℕ) (u : CUnit) (f : SourceFault) → IsUnitAs program source u → IsFirstFaultAs program source f → ⊥
not_both program one least source u (Reading f) a b = no_reading one source a.tree f (a.short, a.reads) (read_fault program source f b)
not_both program one least source u (Typing f) a b =
    let same : a.tree ≡ b.fault.tree = one_tree one source a.tree b.fault.tree (a.short, a.reads) (b.fault.short, b.fault.reads) in
    none_first program least [] (type_fault_view f) b.fault.tree (seen_fault f b.typed) refl (ap (source_faults_as program) (sym same) ∙ a.faultless) b.fault.answers

-- two faults
one_fault : (program : Program) → OneReading → LeastIsThere → (source : List ℕ) (f g : SourceFault) → IsFirstFaultAs program source f → IsFirstFaultAs program source g → f ≡ g
one_fault program one least source (Reading f) (Reading g) a b = ap Reading (one_reading one source f g (read_fault program source f a) (read_fault program source g b))
one_fault program one least source (Reading f) (Typing g) a b = absurd (no_reading one source b.fault.tree f (b.fault.short, b.fault.reads) (read_fault program source f a))
one_fault program one least source (Typing f) (Reading g) a b = absurd (no_reading one source a.fault.tree g (a.fault.short, a.fault.reads) (read_fault program source g b))
one_fault program one least source (Typing f) (Typing g) a b =
    let same : b.fault.tree ≡ a.fault.tree = one_tree one source b.fault.tree a.fault.tree (b.fault.short, b.fault.reads) (a.fault.short, a.fault.reads) in
    ap Typing (same_fault f g (one_first program least (type_fault_view f) (type_fault_view g) a.fault.tree (seen_fault f a.typed) (seen_fault g b.typed) a.fault.answers
    (subst (λ (t : CUnit). FaultAnswersAs program t g) same b.fault.answers)))

pub one_answer : (program : Program) → OneReading → LeastIsThere → (source : List ℕ) (a b : Result CUnit SourceFault) → IsAnswerAs program source a → IsAnswerAs program source b → a ≡ b
one_answer program one least source (Ok u) (Ok w) a b =
    let same : a.tree ≡ b.tree = one_tree one source a.tree b.tree (a.short, a.reads) (b.short, b.reads) in
    ap Ok (a.resolved ∙ (ap (checked_as program) same ∙ sym b.resolved))
one_answer program one least source (Ok u) (Err f) a b = absurd (not_both program one least source u f a b)
one_answer program one least source (Err f) (Ok u) a b = absurd (not_both program one least source u f b a)
one_answer program one least source (Err f) (Err g) a b = ap Err (one_fault program one least source f g a b)
