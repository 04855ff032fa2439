-- A served run goes on as the flat machine does, as long as nothing traps.
use Rattle.std.specs.Prelude.{map, ℤ}
use Rattle.std.proofs.Common.{◌≡◌, ℕ, zero, suc, ◌+◌, ◌<◌, List, [], ◌++◌, refl, sym, ap, ◌∙◌, subst, arith, append_assoc, append-nil}
use Rattle.mips_table.specs.Flat.{Goes, vstep}
use Rattle.mips_table.specs.Code.{CodeState, Program, on_flat, Sound, Steps}
use Rattle.mips_table.specs.Simulation.{MemoryHolds, flat_configuration, FlatFits, flat_after, flat_run, FlatSimulates}
use Rattle.mips_table.specs.Arith.{signed}
use Rattle.user_c0.specs.Events.{answer_of}
use Rattle.user_c0.specs.Served.{Served, serving, served_next, serve, served, asked_by, asked, other_by, others_in}
use Rattle.user_c0.specs.Host.{RepliesAreWords, Here, Told}

-- runs of m and then n steps
pub served_joins : (s : Served) (m n : ℕ) → served s (m + n) ≡ served (served s m) n
served_joins s m zero = let e : m + 0 ≡ m = omega arith in ap (served s) e
served_joins s m (suc n) = let e : m + suc n ≡ suc (m + n) = omega arith in ap (served s) e ∙ ap serve (served_joins s m n)

pub asked_joins : (s : Served) (m n : ℕ) → asked s (m + n) ≡ asked s m ++ asked (served s m) n
asked_joins s m zero = let e : m + 0 ≡ m = omega arith in ap (asked s) e ∙ sym (append-nil (asked s m))
asked_joins s m (suc n) =
    let e : m + suc n ≡ suc (m + n) = omega arith in
    ap (asked s) e ∙ ap (λ xs. xs ++ asked_by (vstep (served s (m + n)).machine)) (asked_joins s m n)
    ∙ ap (λ z. (asked s m ++ asked (served s m) n) ++ asked_by (vstep z.machine)) (served_joins s m n)
    ∙ append_assoc (asked s m) (asked (served s m) n) (asked_by (vstep (served (served s m) n).machine))

pub others_join : (s : Served) (m n : ℕ) → others_in s (m + n) ≡ others_in s m ++ others_in (served s m) n
others_join s m zero = let e : m + 0 ≡ m = omega arith in ap (others_in s) e ∙ sym (append-nil (others_in s m))
others_join s m (suc n) =
    let e : m + suc n ≡ suc (m + n) = omega arith in
    ap (others_in s) e ∙ ap (λ xs. xs ++ other_by (vstep (served s (m + n)).machine)) (others_join s m n)
    ∙ ap (λ z. (others_in s m ++ others_in (served s m) n) ++ other_by (vstep z.machine)) (served_joins s m n)
    ∙ append_assoc (others_in s m) (others_in (served s m) n) (other_by (vstep (served (served s m) n).machine))

-- n steps without a trap
pub record Untrapped (s : Served) (n : ℕ) : Type 0 where
  pub at : served s n ≡ serving s.replies (flat_run s.machine n)
  pub asks : asked s n ≡ []
  pub traps : others_in s n ≡ []

pub untrapped : (s : Served) (n : ℕ) → ((j : ℕ) → j < n → vstep (flat_run s.machine j) ≡ Goes (flat_after (vstep (flat_run s.machine j)))) → Untrapped s n
untrapped s zero next = record { at = refl; asks = refl; traps = refl }
untrapped s (suc n) next =
    let h = untrapped s n (λ j lt. next j (omega (arith, lt))) in
    let e = next n (omega arith) in
    record {
      at = ap serve h.at ∙ ap (served_next s.replies) e;
      asks = ap (λ xs. xs ++ asked_by (vstep (served s n).machine)) h.asks ∙ ap (λ z. asked_by (vstep z.machine)) h.at ∙ ap asked_by e;
      traps = ap (λ xs. xs ++ other_by (vstep (served s n).machine)) h.traps ∙ ap (λ z. other_by (vstep z.machine)) h.at ∙ ap other_by e;
    }

module _ (simulates : FlatSimulates) (p : Program) (sound : Sound (on_flat p)) (first : Served) where
  -- steps of code from where the run stands
  pub own_steps : (k n : ℕ) (s t : CodeState) → Here p first k s → Steps (on_flat p) n s t → Untrapped (served first k) n × Here p first (k + n) t
  own_steps k n s t here steps =
      let own : Steps (on_flat p) n (flat_configuration (served first k).machine) t = subst (λ a. Steps (on_flat p) n a t) (sym here.same) steps in
      let sim = simulates p (served first k).machine n t sound here.fits here.holds own in
      let un = untrapped (served first k) n (λ j lt. (sim.instructs j lt).untrapped) in
      let last = sim.along n (omega arith) in
      let at : served first (k + n) ≡ serving (served first k).replies (flat_run (served first k).machine n) = served_joins first k n ∙ un.at in (
        un,
        record {
          same = ap (λ z. flat_configuration z.machine) at ∙ sim.same n (omega arith) ∙ own.1;
          fits = subst (λ z. FlatFits z.machine) (sym at) last.fits;
          holds = subst (λ z. MemoryHolds (on_flat p) z.machine.words) (sym at) last.holds;
          replies = subst (λ z. RepliesAreWords z.replies) (sym at) here.replies;
        },
      )

  pub goes_on : (k n : ℕ) (s t : CodeState) → Here p first k s → Steps (on_flat p) n s t → Here p first (k + n) t
  goes_on k n s t here steps = (own_steps k n s t here steps).1

  pub tells_on : (k n : ℕ) (s t : CodeState) (v : List ℤ) (calls : List (List ℤ)) → Here p first k s → Steps (on_flat p) n s t → Told first k v calls → Told first (k + n) v calls
  tells_on k n s t v calls here steps told =
      let un = (own_steps k n s t here steps).0 in
      record {
        arguments = told.arguments ∙ ap (map signed) (sym (asked_joins first k n ∙ ap (λ xs. asked first k ++ xs) un.asks ∙ append-nil (asked first k)));
        others = others_join first k n ∙ ap (λ xs. others_in first k ++ xs) un.traps ∙ append-nil (others_in first k) ∙ told.others;
        answers = told.answers ∙ ap (λ z. map answer_of z.replies) (sym (served_joins first k n ∙ un.at));
      }
