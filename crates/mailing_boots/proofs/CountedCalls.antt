-- What is known of a machine's traps, one after another, is known of its calls; and the steps of the two programs are counted.
use Rattle.std.specs.Prelude.{map, sum}
use Rattle.std.proofs.Common.{◌≡◌, ℕ, suc, ◌+◌, ◌*◌, List, [], ◌∷◌, Some, refl, sym, ap, subst, arith}
use Rattle.std.proofs.lemmas.List.Sums.{sum_by-cons}
use Rattle.mips_table.specs.declared.cause.Cause.TheVariants.{Syscall}
use Rattle.mips_table.specs.Flat.{Flat}
use Rattle.cvm_model.specs.Cvm.{first_flat}
use Rattle.user_c0.specs.Image.{image_words}
use Rattle.kernel_theorems.specs.UserRuns.{after, told}
use Rattle.program_systems.specs.Counts.{TrapsThrough, steps_below, CountsTell}
use Rattle.program_systems.proofs.StepsOverParts.{counted_apart}
use Rattle.mailing.specs.Users.{Leg, CallsInTurn}
use Rattle.mailing_boots.specs.Through.{untrapped_in, IsCountedThrough, CountsTellThrough}
use Rattle.mailing_boots.specs.Mailers.{zeros, told_for, sender, receiver, one_to_ten, MailersAreCounted}
use Rattle.mailing_boots.specs.Compiled.{MailStepsAreFew}

abbrev answers_of : List Leg → List ℕ
answers_of legs = map (λ (leg : Leg). leg.answer) legs

legs_tell : CountsTell → (legs : List Leg) (last : ℕ) (f : Flat) (steps : List ℕ) → CallsInTurn f legs last → TrapsThrough f (answers_of legs) steps → untrapped_in legs last ≡ sum steps
legs_tell tell legs last f [] c h = absurd h
legs_tell tell [] last f (n ∷ steps) c h =
    let same : last ≡ n = tell.exactly f n last h.1.0 Syscall h.1.1 c.traps in
    let none : sum steps ≡ 0 = ap sum h.0 in
    let all : sum (n ∷ steps) ≡ n + sum steps = sum_by-cons (λ (n : ℕ). n) n steps in
    omega (arith, same, none, all)
legs_tell tell (leg ∷ legs) last f (n ∷ steps) c h =
    let same : leg.steps ≡ n = tell.exactly f n leg.steps h.0.0 Syscall h.0.1 c.0.traps in
    let rest : untrapped_in legs last ≡ sum steps =
    legs_tell tell legs last (told (after (suc leg.steps) f) leg.answer) steps c.1 (subst (λ i. TrapsThrough (told (after (suc i) f) leg.answer) (answers_of legs) steps) (sym same) h.1) in
    let all : sum (n ∷ steps) ≡ n + sum steps = sum_by-cons (λ (n : ℕ). n) n steps in
    omega (arith, same, rest, all)

pub counts_tell_through : CountsTell → CountsTellThrough
counts_tell_through tell f legs last n c is = let h = legs_tell tell legs last f is.steps c is.traps in let e = is.sum_is in omega (arith, h, e)

-- THE TWO PROGRAMS: their runs compute
abbrev sender_steps : List ℕ
sender_steps = 22 ∷ 12 ∷ 12 ∷ 12 ∷ 12 ∷ 12 ∷ 12 ∷ 12 ∷ 12 ∷ 12 ∷ 10 ∷ []

abbrev receiver_steps : List ℕ
receiver_steps = 19 ∷ 6 ∷ 9 ∷ 6 ∷ 9 ∷ 6 ∷ 9 ∷ 6 ∷ 9 ∷ 6 ∷ 9 ∷ 6 ∷ 9 ∷ 6 ∷ 9 ∷ 6 ∷ 9 ∷ 6 ∷ 9 ∷ 6 ∷ 10 ∷ []

sending : steps_below 155 (first_flat (image_words sender)) (zeros one_to_ten) ≡ Some sender_steps
sending = counted_apart 16384 19456 155 (first_flat (image_words sender)) (zeros one_to_ten) sender_steps refl (omega arith) refl

receiving : steps_below 195 (first_flat (image_words receiver)) (told_for one_to_ten) ≡ Some receiver_steps
receiving = counted_apart 16384 19456 195 (first_flat (image_words receiver)) (told_for one_to_ten) receiver_steps refl (omega arith) refl

-- over any machine, whose steps aren't made here
through : CountsTell → (f : Flat) (k n : ℕ) (answers steps : List ℕ) → steps_below k f answers ≡ Some steps → sum steps ≡ n → IsCountedThrough f answers n
through tell f k n answers steps counts sum_is = record { steps = steps; traps = tell.traps f answers steps (record { below = k; counts = counts }); sum_is = sum_is }

pub mailers_are_counted : CountsTell → MailersAreCounted
mailers_are_counted tell = record {
  sending = through tell (first_flat (image_words sender)) 155 140 (zeros one_to_ten) sender_steps sending refl;
  receiving = through tell (first_flat (image_words receiver)) 195 170 (told_for one_to_ten) receiver_steps receiving refl;
}

-- THE STEPS in numbers: over users, pages, frames and the longest busy time
counted : (raised users pages frames longest : ℕ) → users ≡ 2 → pages ≡ 32 → frames ≡ 48 → longest ≡ 0
    → 20000 + 64 * (users * pages + frames) + (343 + raised) * (1 + 2 * (200000 + 32 * (users * pages) + 6 * longest)) + (33 + raised) * (1000 + 1000 + (600 * 200 + (200000 + 32 * (users * pages) + 6 * longest) * 0))
    ≡ 142658439 + 526097 * raised
counted raised users pages frames longest u p f l = rw (u, p, f, l) (omega arith)

pub steps_are_few : MailStepsAreFew
steps_are_few s rows raised pages frames users busy = counted raised _ _ _ _ users pages frames busy
