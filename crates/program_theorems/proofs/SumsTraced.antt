-- From the text to each journal: the program is computed, the rest is what is known of any program.
use Rattle.std.specs.Prelude.{ℤ, pos, slice_get, slice_index}
use Rattle.std.proofs.Common.{◌≡◌, ℕ, ◌+◌, ◌<◌, ◌≤◌, Some, Option, List, [], ◌∷◌, ◌++◌, length, sym, ap, ◌∙◌, subst, arith, length-append}
use Rattle.std.proofs.lemmas.List.{length-map}
use Rattle.mips_table.specs.Arith.{signed}
use Rattle.mips_table.specs.Flat.{Flat}
use Rattle.c0_tree.specs.Tree.{CUnit}
use Rattle.c0_meaning.specs.Operators.{faulted, stuck}
use Rattle.c0_meaning.specs.ProgramLaws.{ArgumentsStay}
use Rattle.c0_meaning.specs.RunLaws.{HasEnded}
use Rattle.c0_meaning.specs.UserProgram.{ProgramEnding, done, failed, not_yet, Seen, prog}
use Rattle.cvm_model.specs.Cvm.{first_flat}
use Rattle.cvm_model.specs.Journal.{replay}
use Rattle.kernel_theorems.specs.Text.{MeansProgram}
use Rattle.user_c0.specs.Image.{image_words}
use Rattle.user_c0.specs.Events.{SYSCALL, Event, call, other, journal_of, replies, call_count, answer_of, answers}
use Rattle.user_c0.specs.Program.{EndsBy, FollowsMain}
use Rattle.user_c0.specs.Summing.{summing, SumsAreTold}
use Rattle.user_c0.proofs.ProgramPromises.{replies_join}
use Rattle.cvm_shell.specs.Programs.{LinkedPrograms, BootedProgramsRun}
use Rattle.program_theorems.specs.SummingText.{text}
use Rattle.program_theorems.specs.Summing.{TellsSum, SumsAreTraced}

module _ (told : SumsAreTold) (stay : ArgumentsStay) where
  over : (end : ProgramEnding) (edata : ℕ) → EndsBy end edata → HasEnded end
  over done edata h = tt
  over (failed (faulted f)) edata h = tt
  over (failed stuck) edata h = absurd h
  over not_yet edata h = absurd h

  module _ (u : CUnit) (same : (given : List ℤ) (n : ℕ) → prog u given n ≡ prog summing given n) where
    -- a call that is there
    call_there : (given : List ℤ) (i n : ℕ) (v : ℤ) → i < length given → slice_get (prog u given n).arguments i ≡ Some v → (i ≡ 0) × (v ≡ pos 55)
    call_there [] i n v lt h = absurd (omega (arith, lt))
    call_there (a ∷ rest) i n v lt h =
        let seen : prog u (a ∷ rest) 200 ≡ record { arguments = pos 55 ∷ []; ending = done } = same (a ∷ rest) 200 ∙ told.ends a rest in
        let one : length (prog u (a ∷ rest) 200).arguments ≡ 1 = ap (λ (s : Seen). length s.arguments) seen in
        let few = stay.ended u (a ∷ rest) 200 n i v (subst (λ (s : Seen). HasEnded s.ending) (sym seen) tt) h in
        let none : i ≡ 0 = omega (arith, few, one) in
        (none, stay.agree u (a ∷ rest) n 200 0 v (pos 55) (subst (λ k. slice_get (prog u (a ∷ rest) n).arguments k ≡ Some v) none h) (ap (λ (s : Seen). slice_get s.arguments 0) seen))

    -- an end that is there, after so many calls
    end_there : (given : List ℤ) (i n edata : ℕ) → i ≤ length given → EndsBy (prog u given n).ending edata → length (prog u given n).arguments ≡ i → (edata ≡ 0x4c) × (i ≡ 1)
    end_there [] i n edata le h count =
        let lt = stay.ended u [] n 200 0 (pos 55) (over _ edata h) (ap (λ (s : Seen). slice_get s.arguments 0) (same [] 200 ∙ told.asks)) in
        absurd (omega (arith, lt, count, le))
    end_there (a ∷ rest) i n edata le h count =
        let seen : prog u (a ∷ rest) 200 ≡ record { arguments = pos 55 ∷ []; ending = done } = same (a ∷ rest) 200 ∙ told.ends a rest in
        let now : prog u (a ∷ rest) n ≡ record { arguments = pos 55 ∷ []; ending = done } = stay.same_end u (a ∷ rest) n 200 (over _ edata h) (subst (λ (s : Seen). HasEnded s.ending) (sym seen) tt) ∙ seen in
        (subst (λ (s : Seen). EndsBy s.ending edata) now h, sym count ∙ ap (λ (s : Seen). length s.arguments) now)

    -- how many answers there are
    answered_so : (es before rest : List Event) → es ≡ before ++ rest → length (answers es) ≡ call_count before + call_count rest
    answered_so es before rest e = length-map (replies es) answer_of ∙ ap length (ap replies e ∙ replies_join before rest) ∙ length-append (replies before) (replies rest)

    pub tells : (es : List Event) → FollowsMain u (first_flat (image_words u)) es → TellsSum u es
    tells es w = record { asks = asks; ends = ends }
      where
        asks : (before after : List Event) (reply : Option ℕ) (f : Flat) → es ≡ before ++ (call reply ∷ after)
            → replay (first_flat (image_words u)) (journal_of before) ≡ Some f → (call_count before ≡ 0) × (signed (slice_index f.cpu.regs 4) ≡ pos 55)
        asks before after reply f e r =
            let a = w.asks before after reply f e r in
            let many = answered_so es before (call reply ∷ after) e in
            call_there (answers es) (call_count before) a.0 (signed (slice_index f.cpu.regs 4)) (omega (arith, many)) a.1

        ends : (before after : List Event) (cause edata : ℕ) → es ≡ before ++ (other cause edata ∷ after) → (cause ≡ SYSCALL) × (edata ≡ 0x4c) × (call_count before ≡ 1)
        ends before after cause edata e =
            let b = w.ends before after cause edata e in
            let many = answered_so es before (other cause edata ∷ after) e in
            let r = end_there (answers es) (call_count before) b.0 edata (omega (arith, many)) b.1 b.3 in
            (b.2, r.0, r.1)

pub traced : MeansProgram text summing → LinkedPrograms → BootedProgramsRun → SumsAreTold → ArgumentsStay → SumsAreTraced
traced means linked booted told stay layer session u s rows before old new status a program has answered =
    tells told stay program (means.program_is program has.is.unit) answered.events
    (booted session u s rows before old new status a program (linked.linked layer has.object has.params has.files has.image has.linked u has.file text program has.there has.is s has.accepted) answered)
