-- Each event is brought to the form of an answered journal: a trap that is a call is one for which nothing is set.
use Rattle.std.specs.Prelude.{◌==◌}
use Rattle.std.specs.List.{list_all}
use Rattle.std.proofs.Common.{◌≡◌, ℕ, ◌^◌, ◌&&◌, Bool, true, false, nat_lt, Some, None, List, [], ◌∷◌, ◌++◌, refl, sym, ap, ap₂, ◌∙◌, eqb-true, ltb-true}
use Rattle.std.proofs.lemmas.Bool.{and_parts, eq-eqb}
use Rattle.std.proofs.lemmas.List.Folds.{list_all-append}
use Rattle.cvm_model.specs.Kernel.{JournalEntry}
use Rattle.cvm_model.specs.JournalWords.{holds_word}
use Rattle.user_c0.specs.Events.{SYSCALL, CALL_CAUSE, Event, step, call, other, entries_of, journal_of, IsProperEvent, AreProper, IsAnsweredJournal}

-- an event in that form
record Formed (e : Event) : Type 0 where
  event : Event
  same : entries_of event ≡ entries_of e
  proper : IsProperEvent event

one_trap : (c d : ℕ) → Formed (other c d)
one_trap c d = by (c == SYSCALL && d == CALL_CAUSE) refl
  where
    by : (b : Bool) → (c == SYSCALL && d == CALL_CAUSE) ≡ b → Formed (other c d)
    by true t =
        let p = and_parts (c == SYSCALL) (d == CALL_CAUSE) t in
        record { event = call None; same = ap₂ (λ a b. entries_of (other a b)) (sym (eqb-true c SYSCALL p.0)) (sym (eqb-true d CALL_CAUSE p.1)); proper = tt }
    by false t = record {
      event = other c d;
      same = refl;
      proper = λ a b. let both : (c == SYSCALL && d == CALL_CAUSE) ≡ true = ap₂ (λ x y. x && y) (eq-eqb c SYSCALL a) (eq-eqb d CALL_CAUSE b) in let no : true ≡ false = sym both ∙ t in absurd (cc);
    }

formed : (e : Event) → list_all holds_word (entries_of e) ≡ true → Formed e
formed step h = record { event = step; same = refl; proper = tt }
formed (call None) h = record { event = call None; same = refl; proper = tt }
formed (call (Some x)) h = record { event = call (Some x); same = refl; proper = ltb-true x (2 ^ 32) (and_parts (nat_lt x (2 ^ 32)) true h).0 }
formed (other c d) h = one_trap c d

record AllFormed (es : List Event) : Type 0 where
  events : List Event
  same : journal_of events ≡ journal_of es
  proper : AreProper events

all_formed : (es : List Event) → list_all holds_word (journal_of es) ≡ true → AllFormed es
all_formed [] h = record { events = []; same = refl; proper = tt }
all_formed (e ∷ es) h =
    let p = and_parts (list_all holds_word (entries_of e)) (list_all holds_word (journal_of es)) (sym (list_all-append holds_word (entries_of e) (journal_of es)) ∙ h) in
    let f = formed e p.0 in
    let r = all_formed es p.1 in
    record { events = f.event ∷ r.events; same = ap₂ (λ a b. a ++ b) f.same r.same; proper = (f.proper, r.proper) }

pub answered : (j : List JournalEntry) (es : List Event) → j ≡ journal_of es → list_all holds_word j ≡ true → IsAnsweredJournal j
answered j es e h =
    let r = all_formed es (sym (ap (list_all holds_word) e) ∙ h) in
    record { events = r.events; journal = e ∙ sym r.same; proper = r.proper }
