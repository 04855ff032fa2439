-- The journal of a user that each dispatch answers is that of events, turn by turn.
use Rattle.std.proofs.Common.{◌≡◌, inl, inr, ℕ, zero, suc, List, [], ◌∷◌, ◌++◌, Option, Some, None, refl, sym, ap, ap₂, ◌∙◌, subst, arith, append-nil}
use Rattle.std.specs.Prelude.{◌==◌, if◌then◌else◌, bit_or}
use Rattle.mips_table.specs.Machine.{cause_number}
use Rattle.mips_table.specs.Flat.{VStep, Goes, Trap, vstep}
use Rattle.cvm_model.specs.Kernel.{Core, JournalEntry, Trapped}
use Rattle.cvm_model.specs.Primitives.{user_of, with_user}
use Rattle.cvm_model.specs.Cvm.{System, Cvm, Status, Running, begin, user_step, dispatch_of, cvm}
use Rattle.cvm_model.specs.Invariant.{Dispatch, made_by, of_begin, of_status, of_turn, dispatches_of}
use Rattle.cvm_model.specs.Journal.{begin_entries, running_entries, turn_entries, journal}
use Rattle.user_c0.specs.Events.{SYSCALL, CALL_CAUSE, Event, step, call, other, journal_of}
use Rattle.user_c0.proofs.ProgramPromises.{journal_join}
use Rattle.kernel_theorems.proofs.TestsSplit.{by_same}
use Rattle.program_theorems.specs.Kernels.{IsReply, changed_by, Answers, AnswersUser}

abbrev pub AreEvents : List JournalEntry → Type 0
AreEvents j = (es : List Event) × (j ≡ journal_of es)

none : AreEvents []
none = ([], refl)

both : (a b : List JournalEntry) → AreEvents a → AreEvents b → AreEvents (a ++ b)
both a b x y = (x.0 ++ y.0, ap₂ (λ (i j : List JournalEntry). i ++ j) x.1 y.1 ∙ sym (journal_join x.0 y.0))

reply : (j : List JournalEntry) → IsReply j → AreEvents (Trapped SYSCALL CALL_CAUSE ∷ j)
reply j (inl e) = (call None ∷ [], ap (λ (l : List JournalEntry). Trapped SYSCALL CALL_CAUSE ∷ l) e)
reply j (inr (x, e)) = (call (Some x) ∷ [], ap (λ (l : List JournalEntry). Trapped SYSCALL CALL_CAUSE ∷ l) e)

module _ (y : System) (n u : ℕ) where
  split : (a b : List Dispatch) → AnswersUser y n u (a ++ b) → AnswersUser y n u a × AnswersUser y n u b
  split [] b h = (tt, h)
  split (d ∷ a) b h = let r = split a b h.1 in ((h.0, r.0), r.1)

  -- a dispatch for no call of the user leaves what there is
  quiet : (d : Dispatch) → Answers y n u d → (d.before.current ≡ u → d.cause ≡ SYSCALL → d.edata ≡ CALL_CAUSE → ⊥) → (j : List JournalEntry) → AreEvents j → AreEvents (j ++ changed_by y n u d)
  quiet d answers none_asked j h = subst (λ (l : List JournalEntry). AreEvents (j ++ l)) (sym (answers.others none_asked)) (subst AreEvents (sym (append-nil j)) h)

  called : (d : Dispatch) → Answers y n u d → d.before.current ≡ u → d.cause ≡ SYSCALL → d.edata ≡ CALL_CAUSE → AreEvents (Trapped d.cause d.edata ∷ changed_by y n u d)
  called d answers is six word =
      subst (λ (c : ℕ). AreEvents (Trapped c d.edata ∷ changed_by y n u d)) (sym six)
      (subst (λ (w : ℕ). AreEvents (Trapped SYSCALL w ∷ changed_by y n u d)) (sym word) (reply (changed_by y n u d) (answers.calls is six word)))

  trapped : (d : Dispatch) → Answers y n u d → AreEvents ((if d.before.current == u then Trapped d.cause d.edata ∷ [] else []) ++ changed_by y n u d)
  trapped d answers =
      by_same d.before.current u
      (λ e is. rw e (by_same d.cause SYSCALL
      (λ f six. by_same d.edata CALL_CAUSE
      (λ g word. called d answers is six word)
      (λ g differs. quiet d answers (λ a b c. differs c) (Trapped d.cause d.edata ∷ []) (other d.cause d.edata ∷ [], refl)))
      (λ f differs. quiet d answers (λ a b c. differs b) (Trapped d.cause d.edata ∷ []) (other d.cause d.edata ∷ [], refl))))
      (λ e differs. rw e (quiet d answers (λ a b c. differs a) [] none))

  stepped : (k : ℕ) (c : Core) (v : VStep) → AnswersUser y n u (of_begin y n k (user_step c v)) → AreEvents (begin_entries y n (λ calls. calls) u c (user_step c v))
  stepped k c (Goes f) h = by_same c.current u (λ e is. rw e (step ∷ [], refl)) (λ e differs. rw e none)
  stepped k c (Trap f cause edata) h = trapped (made_by y n k (cause_number cause) edata (record c { users = with_user c.users c.current f }) (dispatch_of y n (cause_number cause) edata (record c { users = with_user c.users c.current f }))) h.0

  begun : (k : ℕ) (c : Core) (lines : ℕ) → AnswersUser y n u (of_begin y n k (begin k c lines)) → AreEvents (begin_entries y n (λ calls. calls) u c (begin k c lines))
  begun zero c lines = λ h. quiet (made_by y n 0 0 0 c (dispatch_of y n 0 0 c)) h.0 (λ a six w. absurd (omega (arith, six))) [] none
  begun (suc k) c lines =
      by_same lines 0
      (λ e is. rw e (λ h. stepped (suc k) c (vstep (user_of c.users c.current)) h))
      (λ e differs. rw e (λ h. quiet (made_by y n (suc k) 1 lines c (dispatch_of y n 1 lines c)) h.0 (λ a six w. absurd (omega (arith, six))) [] none))

  by_status : (k lines : ℕ) (c : Cvm) (s : Status) → AnswersUser y n u (of_status y n k lines c s) → AreEvents (running_entries y n (λ calls. calls) u k lines c s)
  by_status k lines c Running h = begun k c.core (bit_or c.pending lines) h
  by_status k lines c over h = none

  by_turn : (k lines : ℕ) (o : Option Cvm) → AnswersUser y n u (of_turn y n k lines o) → AreEvents (turn_entries y n (λ calls. calls) u k lines o)
  by_turn k lines None h = none
  by_turn k lines (Some c) h = by_status k lines c c.status h

  pub are_events : (lines : ℕ → ℕ) (k : ℕ) → AnswersUser y n u (dispatches_of y lines n k) → AreEvents (journal y lines n u k)
  are_events lines zero h = none
  are_events lines (suc k) h =
      let parts = split (dispatches_of y lines n k) (of_turn y n k (lines k) (cvm y lines n k)) h in
      both (journal y lines n u k) (turn_entries y n (λ calls. calls) u k (lines k) (cvm y lines n k)) (are_events lines k parts.0) (by_turn k (lines k) (cvm y lines n k) parts.1)
