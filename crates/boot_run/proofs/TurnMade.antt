-- One turn of a run as its code has it, from what the call that steps the machine says.
-- It serves `Run::make_turn` alone.
use Rattle.std.proofs.Common.{◌≡◌, ◌≢◌, ℕ, ◌+◌, Bool, true, false, not, Option, None, List, Result, Ok, Err, refl, sym, ap, ◌∙◌, subst}
use Rattle.std.specs.Prelude.{if◌then◌else◌}
use Rattle.layer_map.specs.Map.{Map}
use Rattle.cvm_model.specs.Cvm.{map_of}
use Rattle.cvm_model.specs.declared.row.Next.{Next}
use Rattle.layer_contract.specs.Boots.{boot_of}
use Rattle.boot_turns.specs.Advances.{LoopsAdvance}
use Rattle.boot_turns.specs.AnyTurns.{LoopsMakeTurns}
use Rattle.boot_turns.specs.Completes.{Completes}
use Rattle.boot_turns.specs.Tracing.{TraceRuns}
use Rattle.boot_turns.specs.declared.completion.Begun.{Begun}
use Rattle.boot_turns.specs.declared.answers.Turn.{Turn}
use Rattle.boot_turns.specs.declared.answers.Turn.TheVariants.{Step, Dispatch}
use Rattle.boot_turns.specs.declared.answers.RunFault.{RunFault}
use Rattle.boot_turns.specs.declared.answers.RunFault.TheVariants.{Sink}
use Rattle.boot_run.specs.LoadEnds.{Kept}
use Rattle.boot_run.specs.TurnParts.{turn_answer, TurnCounted, MakesTurn, Moved}

pub is_false : (b : Bool) → not b ≡ true → b ≡ false
is_false true e = sym e
is_false false e = refl

pub is_true : (b : Bool) → not b ≡ false → b ≡ true
is_true true e = refl
is_true false e = sym e

pub step_is : (k user : ℕ) (b : Begun) (n : Next) → b.dispatched ≡ false → Step user ≡ turn_answer k user b n
step_is k user b n e = sym (ap (λ (d : Bool). if d then Dispatch (record { turn = k; cause = b.cause; edata = b.edata; user = user; next = n }) else Step user) e)

pub row_is : (k turn user : ℕ) (b : Begun) (n next : Next) → k ≡ turn → n ≡ next → b.dispatched ≡ true →
    Dispatch (record { turn = k; cause = b.cause; edata = b.edata; user = user; next = n }) ≡ turn_answer turn user b next
row_is k turn user b n next count same e =
    ap (λ i. Dispatch (record { turn = i; cause = b.cause; edata = b.edata; user = user; next = n })) count
    ∙ ap (λ (p : Next). Dispatch (record { turn = turn; cause = b.cause; edata = b.edata; user = user; next = p })) same
    ∙ sym (ap (λ (d : Bool). if d then Dispatch (record { turn = turn; cause = b.cause; edata = b.edata; user = user; next = next }) else Step user) e)

-- of the run as the call found it
module _ {L : Type 0} (advance : LoopsAdvance) (make : LoopsMakeTurns) (now r : Kept L) (same : r ≡ now) (count : ℕ) (new : Kept L) (most : ℕ) (told retold : Option (List (List ℕ))) (budget left : ℕ) (m : Map) (placed : m ≡ map_of (boot_of r.boot)) where
  moved : (result : Result (ℕ × Begun) RunFault) → Completes count r.machine new.machine told retold budget left most result →
      TraceRuns count m r.machine told (record { tracer = r.tracer; budget = budget }) (record { tracer = new.tracer; budget = left }) result → (r.tracer ≡ None → result ≢ Err Sink) →
      Moved count now new most told retold budget left result
  moved result a t silent = subst (λ (q : Kept L). Moved count q new most told retold budget left result) same
      (record {
        advances = advance count r.machine new.machine told retold budget left most result a;
        anyhow = make count r.machine new.machine told retold budget left most result a;
        traces = subst (λ (m : Map). TraceRuns count m r.machine told (record { tracer = r.tracer; budget = budget }) (record { tracer = new.tracer; budget = left }) result) placed t;
        silent = silent;
      })

  pub made_err : (f e : RunFault) (result : Result (ℕ × Turn) RunFault) → result ≡ Err e → f ≡ e → Completes count r.machine new.machine told retold budget left most (Err f) →
      TraceRuns count m r.machine told (record { tracer = r.tracer; budget = budget }) (record { tracer = new.tracer; budget = left }) (Err f) → (r.tracer ≡ None → ◌≢◌ {A = Result (ℕ × Begun) RunFault} (Err f) (Err Sink)) → new.ended ≡ r.ended →
      MakesTurn count now new most told retold budget left result
  made_err f e result is fault a t silent ended =
      subst (λ (q : Result (ℕ × Turn) RunFault). MakesTurn count now new most told retold budget left q) (ap (λ g. Err g) fault ∙ sym is)
      (moved (Err f) a t silent, ended ∙ ap (λ (q : Kept L). q.ended) same)

  pub made : (skipped number : ℕ) (b : Begun) (answer : Turn) → Completes count r.machine new.machine told retold budget left most (Ok (skipped, b)) →
      TraceRuns count m r.machine told (record { tracer = r.tracer; budget = budget }) (record { tracer = new.tracer; budget = left }) (Ok (skipped, b)) →
      number ≡ skipped + 1 → TurnCounted r new skipped b answer → MakesTurn count now new most told retold budget left (Ok (number, answer))
  made skipped number b answer a t is c = (skipped, b, is, moved (Ok (skipped, b)) a t (λ _ e. absurd (cc)), subst (λ (q : Kept L). TurnCounted q new skipped b answer) same c)
