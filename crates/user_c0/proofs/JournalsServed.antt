-- An answered journal that can be replayed is a served run: each event is a step, and its reply is the next one.
use Rattle.std.specs.Prelude.{◌&&◌, ◌==◌, if◌then◌else◌, option_and_then, slice_index}
use Rattle.std.proofs.Common.{◌≡◌, ℕ, zero, suc, ◌+◌, Bool, true, false, Option, Some, None, List, [], ◌∷◌, ◌++◌, length, refl, sym, ap, ◌∙◌, subst, arith, append_assoc, append-nil, length-append, eqb-true}
use Rattle.std.proofs.lemmas.Bool.{and_parts}
use Rattle.mips_table.specs.declared.cause.Cause.{Cause}
use Rattle.mips_table.specs.Flat.{Flat, VStep, Goes, Trap, vstep}
use Rattle.mips_table.specs.Machine.{cause_number}
use Rattle.cvm_model.specs.Kernel.{JournalEntry, Set}
use Rattle.cvm_model.specs.Journal.{replay_step, replay_trap, replay}
use Rattle.user_c0.specs.Events.{SYSCALL, CALL_CAUSE, Event, step, call, other, journal_of, AreProper, trapping, replies, call_count, others}
use Rattle.user_c0.specs.Served.{Served, serving, is_call, set_reply, replied, served_next, serve, served, asked_by, asked, other_by, others_in, IsServed}

-- a served run is its first step and then the others
pub served_first : (s : Served) (n : ℕ) → served s (suc n) ≡ served (serve s) n
served_first s zero = refl
served_first s (suc n) = ap serve (served_first s n)

pub asked_first : (s : Served) (n : ℕ) → asked s (suc n) ≡ asked_by (vstep s.machine) ++ asked (serve s) n
asked_first s zero = sym (append-nil (asked_by (vstep s.machine)))
asked_first s (suc n) =
    ap (λ xs. xs ++ asked_by (vstep (served s (suc n)).machine)) (asked_first s n)
    ∙ ap (λ z. (asked_by (vstep s.machine) ++ asked (serve s) n) ++ asked_by (vstep z.machine)) (served_first s n)
    ∙ append_assoc (asked_by (vstep s.machine)) (asked (serve s) n) (asked_by (vstep (served (serve s) n).machine))

pub others_first : (s : Served) (n : ℕ) → others_in s (suc n) ≡ other_by (vstep s.machine) ++ others_in (serve s) n
others_first s zero = sym (append-nil (other_by (vstep s.machine)))
others_first s (suc n) =
    ap (λ xs. xs ++ other_by (vstep (served s (suc n)).machine)) (others_first s n)
    ∙ ap (λ z. (other_by (vstep s.machine) ++ others_in (serve s) n) ++ other_by (vstep z.machine)) (served_first s n)
    ∙ append_assoc (other_by (vstep s.machine)) (others_in (serve s) n) (other_by (vstep (served (serve s) n).machine))

-- an event that is one step, before others
joined : (first f last : Flat) (e : Event) (es : List Event) (more : List (Option ℕ))
    → served_next (replies (e ∷ es) ++ more) (vstep first) ≡ serving (replies es ++ more) f
    → length (asked_by (vstep first)) + call_count es ≡ call_count (e ∷ es) → other_by (vstep first) ++ others es ≡ others (e ∷ es)
    → IsServed f es more last → IsServed first (e ∷ es) more last
joined first f last e es more stepped asks traps h =
    let s : Served = serving (replies (e ∷ es) ++ more) first in
    record {
      at = served_first (serving (replies (e ∷ es) ++ more) first) (length es) ∙ ap (λ z. served z (length es)) stepped ∙ h.at;
      calls =
          ap length (asked_first (serving (replies (e ∷ es) ++ more) first) (length es))
          ∙ length-append (asked_by (vstep first)) (asked (serve (serving (replies (e ∷ es) ++ more) first)) (length es))
          ∙ ap (λ z. length (asked_by (vstep first)) + length (asked z (length es))) stepped
          ∙ ap (λ n. length (asked_by (vstep first)) + n) h.calls ∙ asks;
      others =
          others_first (serving (replies (e ∷ es) ++ more) first) (length es)
          ∙ ap (λ z. other_by (vstep first) ++ others_in z (length es)) stepped
          ∙ ap (λ xs. other_by (vstep first) ++ xs) h.others ∙ traps;
    }

none_some : {A : Type 0} {P : Type 0} {a : A} → None ≡ Some a → P
none_some e = absurd (cc)

some_same : {A : Type 0} {a b : A} → Some a ≡ Some b → a ≡ b
some_same e = cc

-- a call, once it has trapped
answered : (first f last : Flat) (cause : Cause) (edata : ℕ) (reply : Option ℕ) (es : List Event) (more : List (Option ℕ)) → vstep first ≡ Trap f cause edata → is_call cause edata ≡ true
    → IsServed (set_reply reply f) es more last → IsServed first (call reply ∷ es) more last
answered first f last cause edata reply es more e is h =
    joined first (set_reply reply f) last (call reply) es more
    (ap (served_next (reply ∷ (replies es ++ more))) e ∙ ap (λ b. if b then replied (reply ∷ (replies es ++ more)) f else serving (reply ∷ (replies es ++ more)) f) is)
    (ap (λ v. length (asked_by v) + call_count es) e ∙ ap (λ b. length (if b then slice_index f.cpu.regs 4 ∷ [] else []) + call_count es) is ∙ omega arith)
    (ap (λ v. other_by v ++ others es) e ∙ ap (λ b. (if b then [] else trapping (cause_number cause) edata ∷ []) ++ others es) is)
    h

-- no other trap is a call
not_call : (cause : Cause) (edata c d : ℕ) → cause_number cause ≡ c → edata ≡ d → (c ≡ SYSCALL → d ≡ CALL_CAUSE → ⊥) → is_call cause edata ≡ false
not_call cause edata c d same data_same proper = by (is_call cause edata) refl
  where
    by : (b : Bool) → is_call cause edata ≡ b → is_call cause edata ≡ false
    by false e = e
    by true e =
        let p = and_parts (cause_number cause == SYSCALL) (edata == CALL_CAUSE) e in
        absurd (proper (sym same ∙ eqb-true (cause_number cause) SYSCALL p.0) (sym data_same ∙ eqb-true edata CALL_CAUSE p.1))

-- another trap
trapped : (first f last : Flat) (cause : Cause) (edata c d : ℕ) (es : List Event) (more : List (Option ℕ)) → vstep first ≡ Trap f cause edata → cause_number cause ≡ c → edata ≡ d
    → is_call cause edata ≡ false → IsServed f es more last → IsServed first (other c d ∷ es) more last
trapped first f last cause edata c d es more e same data_same isnt h =
    joined first f last (other c d) es more
    (ap (served_next (replies es ++ more)) e ∙ ap (λ b. if b then replied (replies es ++ more) f else serving (replies es ++ more) f) isnt)
    (ap (λ v. length (asked_by v) + call_count es) e ∙ ap (λ b. length (if b then slice_index f.cpu.regs 4 ∷ [] else []) + call_count es) isnt ∙ omega arith)
    (ap (λ v. other_by v ++ others es) e ∙ ap (λ b. (if b then [] else trapping (cause_number cause) edata ∷ []) ++ others es) isnt ∙ one (cause_number cause) edata same data_same)
    h
  where
    one : (a b : ℕ) → a ≡ c → b ≡ d → trapping a b ∷ others es ≡ trapping c d ∷ others es
    one a b p q = rw (p, q) refl

-- whether a trap is a call that is replayed
calling : (f : Flat) (cause : Cause) (edata : ℕ) (rest : List JournalEntry) (last : Flat) → option_and_then (λ g. replay g rest) (replay_trap (Trap f cause edata) SYSCALL CALL_CAUSE) ≡ Some last
    → (is_call cause edata ≡ true) × (replay f rest ≡ Some last)
calling f cause edata rest last h = by (is_call cause edata) refl
  where
    by : (b : Bool) → is_call cause edata ≡ b → (is_call cause edata ≡ true) × (replay f rest ≡ Some last)
    by true e = (e, subst (λ b. option_and_then (λ g. replay g rest) (if b then Some f else None) ≡ Some last) e h)
    by false e = none_some (subst (λ b. option_and_then (λ g. replay g rest) (if b then Some f else None) ≡ Some last) e h)

pub journals_served : (es : List Event) (first last : Flat) (more : List (Option ℕ)) → AreProper es → replay first (journal_of es) ≡ Some last → IsServed first es more last
journals_served [] first last more proper h = record { at = ap (serving more) (some_same h); calls = refl; others = refl }
journals_served (step ∷ es) first last more proper h = by (vstep first) refl h (λ f. journals_served es f last more proper.1)
  where
    by : (v : VStep) → vstep first ≡ v → option_and_then (λ g. replay g (journal_of es)) (replay_step v) ≡ Some last → ((f : Flat) → replay f (journal_of es) ≡ Some last → IsServed f es more last) → IsServed first (step ∷ es) more last
    by (Goes f) e r rest = joined first f last step es more (ap (served_next (replies es ++ more)) e) (ap (λ v. length (asked_by v) + call_count es) e ∙ omega arith) (ap (λ v. other_by v ++ others es) e) (rest f r)
    by (Trap f cause edata) e r rest = none_some r
journals_served (call None ∷ es) first last more proper h = by (vstep first) refl h (λ f. journals_served es f last more proper.1)
  where
    by : (v : VStep) → vstep first ≡ v → option_and_then (λ g. replay g (journal_of es)) (replay_trap v SYSCALL CALL_CAUSE) ≡ Some last → ((f : Flat) → replay f (journal_of es) ≡ Some last → IsServed f es more last) → IsServed first (call None ∷ es) more last
    by (Goes f) e r rest = none_some r
    by (Trap f cause edata) e r rest =
        let c = calling f cause edata (journal_of es) last r in
        answered first f last cause edata None es more e c.0 (rest f c.1)
journals_served (call (Some x) ∷ es) first last more proper h = by (vstep first) refl h (λ f. journals_served es f last more proper.1)
  where
    by : (v : VStep) → vstep first ≡ v → option_and_then (λ g. replay g (Set 2 x ∷ journal_of es)) (replay_trap v SYSCALL CALL_CAUSE) ≡ Some last → ((f : Flat) → replay f (journal_of es) ≡ Some last → IsServed f es more last) → IsServed first (call (Some x) ∷ es) more last
    by (Goes f) e r rest = none_some r
    by (Trap f cause edata) e r rest =
        let c = calling f cause edata (Set 2 x ∷ journal_of es) last r in
        answered first f last cause edata (Some x) es more e c.0 (rest (set_reply (Some x) f) c.1)
journals_served (other c d ∷ es) first last more proper h = by (vstep first) refl h (λ f. journals_served es f last more proper.1)
  where
    by : (v : VStep) → vstep first ≡ v → option_and_then (λ g. replay g (journal_of es)) (replay_trap v c d) ≡ Some last → ((f : Flat) → replay f (journal_of es) ≡ Some last → IsServed f es more last) → IsServed first (other c d ∷ es) more last
    by (Goes f) e r rest = none_some r
    by (Trap f cause edata) e r rest = by_test (cause_number cause == c && edata == d) refl
      where
        by_test : (b : Bool) → (cause_number cause == c && edata == d) ≡ b → IsServed first (other c d ∷ es) more last
        by_test true t =
            let p = and_parts (cause_number cause == c) (edata == d) t in
            let same = eqb-true (cause_number cause) c p.0 in
            let data_same = eqb-true edata d p.1 in
            trapped first f last cause edata c d es more e same data_same (not_call cause edata c d same data_same proper.0)
            (rest f (subst (λ b. option_and_then (λ g. replay g (journal_of es)) (if b then Some f else None) ≡ Some last) t r))
        by_test false t = none_some (subst (λ b. option_and_then (λ g. replay g (journal_of es)) (if b then Some f else None) ≡ Some last) t r)
