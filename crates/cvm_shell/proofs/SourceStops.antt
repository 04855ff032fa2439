-- A fault of a source is want of memory, or it is one of the source, which is refused.
use Rattle.std.proofs.Common.{◌≡◌, ◌≢◌, ◌⊎◌, inl, inr, refl}
use Rattle.c0_parser.specs.declared.fault.ReadFault.{ReadFault}
use Rattle.c0_parser.specs.declared.fault.ReadFault.TheVariants as read
use Rattle.c0_types.specs.declared.fault.TypeFault.{TypeFault}
use Rattle.c0_types.specs.declared.fault.TypeFault.TheVariants as typing
use Rattle.c0_types.specs.declared.source_fault.SourceFault.TheVariants.{Reading, Typing}
use Rattle.cvm_shell.specs.declared.boot.Stop.TheVariants as Stops
use Rattle.cvm_shell.specs.declared.refusal.Refusal.TheVariants as by
use Rattle.cvm_shell.specs.Stages.{source_stop}

pub unread_stops : (f : ReadFault) → (f ≡ read.Memory) ⊎ ((f ≢ read.Memory) × (source_stop (Reading f) ≡ Stops.Refused (by.BadSource (Reading f))))
unread_stops (read.BadByte at) = inr (λ e. cc, refl)
unread_stops (read.BadNumber at) = inr (λ e. cc, refl)
unread_stops (read.Unexpected at) = inr (λ e. cc, refl)
unread_stops (read.TooNested at) = inr (λ e. cc, refl)
unread_stops read.SourceTooLong = inr (λ e. cc, refl)
unread_stops read.Memory = inl refl

pub mistyped_stops : (f : TypeFault) → (f ≡ typing.Memory) ⊎ ((f ≢ typing.Memory) × (source_stop (Typing f) ≡ Stops.Refused (by.BadSource (Typing f))))
mistyped_stops (typing.UnknownName s) = inr (λ e. cc, refl)
mistyped_stops (typing.NameTwice s) = inr (λ e. cc, refl)
mistyped_stops (typing.WrongType s) = inr (λ e. cc, refl)
mistyped_stops (typing.WrongCount s) = inr (λ e. cc, refl)
mistyped_stops (typing.NotAPlace s) = inr (λ e. cc, refl)
mistyped_stops (typing.LocalAddress s) = inr (λ e. cc, refl)
mistyped_stops (typing.StructHoldsItself s) = inr (λ e. cc, refl)
mistyped_stops (typing.TooDeep s) = inr (λ e. cc, refl)
mistyped_stops (typing.TooManyNodes s) = inr (λ e. cc, refl)
mistyped_stops (typing.UnitTooLarge s) = inr (λ e. cc, refl)
mistyped_stops (typing.GlobalsTooLarge s) = inr (λ e. cc, refl)
mistyped_stops (typing.NoDispatch s) = inr (λ e. cc, refl)
mistyped_stops (typing.AsmNotAllowed s line) = inr (λ e. cc, refl)
mistyped_stops (typing.TooManyParameters s) = inr (λ e. cc, refl)
mistyped_stops (typing.TypeTooLarge s) = inr (λ e. cc, refl)
mistyped_stops (typing.EmptyArray s) = inr (λ e. cc, refl)
mistyped_stops (typing.NoMain s) = inr (λ e. cc, refl)
mistyped_stops typing.Memory = inl refl
