-- The program is computed; the rest is what is known of any program.
use Rattle.std.specs.Prelude.{ℤ, pos, map, slice_get}
use Rattle.std.proofs.Common.{◌≡◌, ℕ, suc, ◌≤◌, List, [], ◌∷◌, length, refl, sym, ap, ◌∙◌, subst, arith, inl, inr}
use Rattle.std.specs.Int.{int_wrap}
use Rattle.mips_table.specs.declared.cause.Cause.{Cause}
use Rattle.mips_table.specs.Flat.{Flat, Goes, Trap, vstep}
use Rattle.mips_table.specs.Machine.{cause_number}
use Rattle.c0_tree.specs.Tree.{CUnit}
use Rattle.c0_meaning.specs.UserProgram.{Seen, prog, done, not_yet}
use Rattle.c0_meaning.specs.RunLaws.{HasEnded}
use Rattle.c0_meaning.specs.ProgramLaws.{AnswersAheadDontMatter, ProgramsIgnoreSpans}
use Rattle.user_c0.specs.Events.{Event, replies, call_count, others, untrapped, answer_of, answers}
use Rattle.user_c0.specs.Program.{EndsBy, steps_of}
use Rattle.user_c0.specs.Users.{UserHasCome, TrapsAreKnown, IsDue, ProgramsStay}
use Rattle.user_c0.specs.Summing.{summing, IsSumming, SumTrap, SumsAreTold}

asks : prog summing [] 200 ≡ record { arguments = pos 55 ∷ []; ending = not_yet }
unfolding int_wrap
asks = refl

ends_at : (a : ℤ) → prog summing (a ∷ []) 200 ≡ record { arguments = pos 55 ∷ []; ending = done }
unfolding int_wrap
ends_at a = refl

module _ (spans : ProgramsIgnoreSpans) (ahead : AnswersAheadDontMatter) (known : TrapsAreKnown) (stay : ProgramsStay) where
  ends : (a : ℤ) (rest : List ℤ) → prog summing (a ∷ rest) 200 ≡ record { arguments = pos 55 ∷ []; ending = done }
  ends a rest = ahead.ending summing (a ∷ []) rest 200 (subst (λ s. HasEnded s.ending) (sym (ends_at a)) tt) ∙ ends_at a

  -- what is seen of it, by its answers
  abbrev Told : List ℤ → Seen
  Told [] = record { arguments = pos 55 ∷ []; ending = not_yet }
  Told (a ∷ rest) = record { arguments = pos 55 ∷ []; ending = done }

  is_seen : (u : CUnit) → IsSumming u → (given : List ℤ) → prog u given 200 ≡ Told given
  is_seen u is [] = sym (spans u [] 200) ∙ ap (λ v. prog v [] 200) is.is ∙ asks
  is_seen u is (a ∷ rest) = sym (spans u (a ∷ rest) 200) ∙ ap (λ v. prog v (a ∷ rest) 200) is.is ∙ ends a rest

  module _ (u : CUnit) (es : List Event) (f g : Flat) (is : IsSumming u) (come : UserHasCome u es f) where
    traps : (cause : Cause) (edata : ℕ) → vstep f ≡ Trap g cause edata → SumTrap (call_count es) f (cause_number cause) edata
    traps cause edata e = by (replies es) refl
      where
        by : (rs : List _) → replies es ≡ rs → SumTrap (length rs) f (cause_number cause) edata
        by [] q =
            known.next_call u es f g cause edata is.program come e 200 (pos 55)
            (ap (λ rs. slice_get (prog u (map answer_of rs) 200).arguments (length rs)) q ∙ ap (λ (p : Seen). slice_get p.arguments 0) (is_seen u is []))
        by (r ∷ rs) q =
            let seen : prog u (answers es) 200 ≡ record { arguments = pos 55 ∷ []; ending = done } = ap (λ rs. prog u (map answer_of rs) 200) q ∙ is_seen u is (answer_of r ∷ map answer_of rs) in
            let over : HasEnded (prog u (answers es) 200).ending = subst (λ (p : Seen). HasEnded p.ending) (sym seen) tt in
            let one : length (prog u (answers es) 200).arguments ≡ 1 = ap (λ (p : Seen). length p.arguments) seen in
            let few = known.few u es f is.program come 200 over in
            let some : call_count es ≡ suc (length rs) = ap length q in
            let end = known.next_end u es f g cause edata is.program come e 200 over (omega (arith, one, few, some)) in
            (end.0, subst (λ (p : Seen). EndsBy p.ending edata) seen end.1)

    soon : vstep f ≡ Goes g → others es ≡ [] → suc (untrapped es) ≤ steps_of 200
    soon e none = stay.stay u es f g 200 is.program come e none (by (replies es) refl)
      where
        by : (rs : List _) → replies es ≡ rs → IsDue u es 200
        by [] q =
            let count : call_count es ≡ 0 = ap length q in
            let one : length (prog u (answers es) 200).arguments ≡ 1 = ap (λ rs. length (prog u (map answer_of rs) 200).arguments) q ∙ ap (λ (p : Seen). length p.arguments) (is_seen u is []) in
            inl (omega (arith, count, one))
        by (r ∷ rs) q = inr (subst (λ (p : Seen). HasEnded p.ending) (sym (ap (λ rs. prog u (map answer_of rs) 200) q ∙ is_seen u is (answer_of r ∷ map answer_of rs))) tt)

  pub told : SumsAreTold
  told = record { asks = asks; ends = ends; traps = λ u es f g cause edata is come e. traps u es f g is come cause edata e; soon = λ u es f g is come e none. soon u es f g is come e none }
