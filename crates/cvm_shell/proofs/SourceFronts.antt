-- What reading and checking a source comes to: want of memory, or the one answer of the source. This serves linking, samples, and the images that
-- are accepted or made anew.
use Rattle.std.proofs.Common.{◌≡◌, ◌⊎◌, inl, inr, ℕ, List, refl, sym, ◌∙◌, Ok, Err}
use Rattle.std.specs.Prelude.{Result}
use Rattle.c0_tree.specs.Tree.{CUnit}
use Rattle.c0_parser.specs.declared.fault.ReadFault.TheVariants as read
use Rattle.c0_types.specs.Front.{IsFrontAnswer, IsSourceFaultOf, IsFirstFault}
use Rattle.c0_types.specs.declared.fault.TypeFault.TheVariants as typing
use Rattle.c0_types.specs.declared.source_fault.SourceFault.{SourceFault}
use Rattle.c0_types.specs.declared.source_fault.SourceFault.TheVariants.{Reading, Typing}
use Rattle.kernel_linker.specs.Answers.{FrontGives}

-- that a source has one answer
abbrev pub OneAnswer : Type 0
OneAnswer = (source : List ℕ) (a b : Result CUnit SourceFault) → IsFrontAnswer source a → IsFrontAnswer source b → a ≡ b

-- a fault that is want of memory
abbrev pub IsWant : SourceFault → Type 0
IsWant f = (f ≡ Reading read.Memory) ⊎ (f ≡ Typing typing.Memory)

-- a fault of a source is want of memory, or its first fault
pub first_or_memory : (source : List ℕ) (f : SourceFault) → IsSourceFaultOf source f → IsWant f ⊎ IsFirstFault source f
first_or_memory source (Reading read.Memory) is = inl (inl refl)
first_or_memory source (Reading (read.BadByte at)) is = inr (record { fault = is; read = λ e. cc; typed = λ e. cc })
first_or_memory source (Reading (read.BadNumber at)) is = inr (record { fault = is; read = λ e. cc; typed = λ e. cc })
first_or_memory source (Reading (read.Unexpected at)) is = inr (record { fault = is; read = λ e. cc; typed = λ e. cc })
first_or_memory source (Reading (read.TooNested at)) is = inr (record { fault = is; read = λ e. cc; typed = λ e. cc })
first_or_memory source (Reading read.SourceTooLong) is = inr (record { fault = is; read = λ e. cc; typed = λ e. cc })
first_or_memory source (Typing typing.Memory) is = inl (inr refl)
first_or_memory source (Typing (typing.UnknownName s)) is = inr (record { fault = is; read = λ e. cc; typed = λ e. cc })
first_or_memory source (Typing (typing.NameTwice s)) is = inr (record { fault = is; read = λ e. cc; typed = λ e. cc })
first_or_memory source (Typing (typing.WrongType s)) is = inr (record { fault = is; read = λ e. cc; typed = λ e. cc })
first_or_memory source (Typing (typing.WrongCount s)) is = inr (record { fault = is; read = λ e. cc; typed = λ e. cc })
first_or_memory source (Typing (typing.NotAPlace s)) is = inr (record { fault = is; read = λ e. cc; typed = λ e. cc })
first_or_memory source (Typing (typing.LocalAddress s)) is = inr (record { fault = is; read = λ e. cc; typed = λ e. cc })
first_or_memory source (Typing (typing.StructHoldsItself s)) is = inr (record { fault = is; read = λ e. cc; typed = λ e. cc })
first_or_memory source (Typing (typing.TooDeep s)) is = inr (record { fault = is; read = λ e. cc; typed = λ e. cc })
first_or_memory source (Typing (typing.TooManyNodes s)) is = inr (record { fault = is; read = λ e. cc; typed = λ e. cc })
first_or_memory source (Typing (typing.UnitTooLarge s)) is = inr (record { fault = is; read = λ e. cc; typed = λ e. cc })
first_or_memory source (Typing (typing.GlobalsTooLarge s)) is = inr (record { fault = is; read = λ e. cc; typed = λ e. cc })
first_or_memory source (Typing (typing.NoDispatch s)) is = inr (record { fault = is; read = λ e. cc; typed = λ e. cc })
first_or_memory source (Typing (typing.AsmNotAllowed s line)) is = inr (record { fault = is; read = λ e. cc; typed = λ e. cc })
first_or_memory source (Typing (typing.TooManyParameters s)) is = inr (record { fault = is; read = λ e. cc; typed = λ e. cc })
first_or_memory source (Typing (typing.TypeTooLarge s)) is = inr (record { fault = is; read = λ e. cc; typed = λ e. cc })
first_or_memory source (Typing (typing.EmptyArray s)) is = inr (record { fault = is; read = λ e. cc; typed = λ e. cc })
first_or_memory source (Typing (typing.NoMain s)) is = inr (record { fault = is; read = λ e. cc; typed = λ e. cc })

-- what a source comes to is want of memory, or its answer
pub answer_or_memory : (source : List ℕ) (front : Result CUnit SourceFault) → FrontGives source front → ((f : SourceFault) × (front ≡ Err f) × IsWant f) ⊎ IsFrontAnswer source front
answer_or_memory source (Ok u) is = inr is
answer_or_memory source (Err f) is = elim (first_or_memory source f is) [ inl e ↦ inl (f, refl, e) | inr h ↦ inr h ]

-- an answer is one fault, and no value beside it
pub one_fault : {A E : Type 0} (r : Result A E) (f g : E) → r ≡ Err f → r ≡ Err g → f ≡ g
one_fault r f g a b = let e = sym a ∙ b in cc

pub not_both : {A E : Type 0} (r : Result A E) (x : A) (g : E) → r ≡ Ok x → r ≡ Err g → ⊥
not_both r x g a b = let e = sym a ∙ b in cc
