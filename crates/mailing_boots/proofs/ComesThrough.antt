-- A program comes through its calls: from each answer it comes to the next one (`calls_come`), and behind the last to its end (`ends_come`).
use Rattle.std.specs.Prelude.{ℤ, pos, map, take, slice_get}
use Rattle.std.specs.Int.{w32, cast_unsigned}
use Rattle.std.proofs.Common.{◌≡◌, ℕ, suc, ◌+◌, ◌≤◌, ◌<◌, ◌^◌, List, [], ◌∷◌, ◌++◌, length, Some, refl, sym, ap, ap₂, ◌∙◌, subst, append_assoc, arith}
use Rattle.std.proofs.lemmas.List.{map-append, map_push}
use Rattle.mips_table.specs.Flat.{Flat}
use Rattle.c0_tree.specs.Tree.{CUnit}
use Rattle.c0_meaning.specs.ProgramLaws.{AnswersAheadDontMatter}
use Rattle.c0_meaning.specs.RunLaws.{HasEnded}
use Rattle.c0_meaning.specs.UserProgram.{Seen, prog, done}
use Rattle.cvm_model.specs.Cvm.{first_flat}
use Rattle.cvm_model.proofs.SystemsHold.{append_none}
use Rattle.user_c0.specs.Image.{image_words}
use Rattle.user_c0.specs.Events.{Event, call, replies, call_count, others, untrapped, answer_of, answers}
use Rattle.user_c0.specs.Program.{EndsBy, steps_of as most_steps}
use Rattle.user_c0.specs.Users.{UserHasCome, UsersGoOn, IntsAreTold}
use Rattle.kernel_theorems.specs.UserRuns.{after, told}
use Rattle.program_systems.specs.Coming.{CallsNext, CallsCome, EndsNext, EndsCome}
use Rattle.program_systems.proofs.ProgramsAskAndEnd.{replies_call, others_call, untrapped_call}
use Rattle.mailing.specs.Users.{Leg, CallsInTurn}
use Rattle.mailing_boots.specs.Through.{ints, AreInts, CallsAndReturns, untrapped_in, ComesThrough, ProgramsComeThrough}

map_length : {A B : Type 0} (f : A → B) (xs : List A) → length (map f xs) ≡ length xs
map_length f [] = refl
map_length f (x ∷ xs) = ap suc (map_length f xs)

-- the argument behind as many as there were answers
there : (xs : List ℕ) (a : ℕ) (ys : List ℕ) → slice_get (take (suc (length xs)) (ints (xs ++ a ∷ ys))) (length xs) ≡ Some (pos a)
there [] a ys = refl
there (x ∷ xs) a ys = there xs a ys

-- what is left of a program's calls, from a machine on
record From (es : List Event) (f : Flat) (most : ℕ) (arguments replies : List ℕ) : Type 0 where
  legs : List Leg
  last : ℕ
  arguments_are : map (λ (leg : Leg). leg.argument) legs ≡ arguments
  answers_are : map (λ (leg : Leg). leg.answer) legs ≡ replies
  in_turn : CallsInTurn f legs last
  few : untrapped_in legs last + untrapped es ≤ most

module _ (calls_come : CallsCome) (ends_come : EndsCome) (tell : IntsAreTold) (ahead : AnswersAheadDontMatter) (u : CUnit) (n : ℕ) (arguments given : List ℕ) (b : CallsAndReturns u n arguments given) where
  -- THE END
  module _ (es : List Event) (f : Flat) (come : UserHasCome u es f) (none : others es ≡ []) (known : answers es ≡ ints given) (few : untrapped es ≤ most_steps n) where
    seen : prog u (answers es) n ≡ record { arguments = ints arguments; ending = done }
    seen = ap (λ xs. prog u xs n) known ∙ b.runs

    count : length (prog u (answers es) n).arguments ≡ call_count es
    count =
        let a : length (prog u (answers es) n).arguments ≡ length (ints arguments) = ap (λ (p : Seen). length p.arguments) seen in
        let c : length (ints arguments) ≡ length arguments = map_length (λ (n : ℕ). pos n) arguments in
        let d : length (answers es) ≡ length (ints given) = ap length known in
        let e : length (ints given) ≡ length given = map_length (λ (n : ℕ). pos n) given in
        let g : length (answers es) ≡ call_count es = map_length answer_of (replies es) in
        let h = b.as_many in
        omega (arith, a, c, d, e, g, h)

    its_end : EndsNext u es f n
    its_end = ends_come u es f n b.program come none (subst (λ (p : Seen). HasEnded p.ending) (sym seen) tt) count

    at_end : From es f (most_steps n) [] []
    at_end = record {
      legs = [];
      last = its_end.steps;
      arguments_are = refl;
      answers_are = refl;
      in_turn = record { traps = its_end.traps; word_is = subst (λ (p : Seen). EndsBy p.ending its_end.traps.edata) seen its_end.ends };
      few = let k = its_end.few in omega (arith, k, few);
    }

  -- A CALL, with what was asked and answered before it
  module _ (asked replied : List ℕ) (a x : ℕ) (more later : List ℕ) (es : List Event) (f : Flat) (arguments_are : arguments ≡ asked ++ a ∷ more) (given_are : given ≡ replied ++ x ∷ later)
      (same : length asked ≡ length replied) (come : UserHasCome u es f) (none : others es ≡ []) (known : answers es ≡ ints replied) (few : untrapped es ≤ most_steps n) (small : x < 2 ^ 31) where
    count_here : call_count es ≡ length asked
    count_here =
        let d : length (answers es) ≡ length (ints replied) = ap length known in
        let e : length (ints replied) ≡ length replied = map_length (λ (n : ℕ). pos n) replied in
        let g : length (answers es) ≡ call_count es = map_length answer_of (replies es) in
        omega (arith, d, e, g, same)

    whole : ints replied ++ ints (x ∷ later) ≡ ints given
    whole = sym (map-append (λ (n : ℕ). pos n) replied (x ∷ later)) ∙ sym (ap ints given_are)

    first_ones : (prog u (answers es) n).arguments ≡ take (suc (length asked)) (ints (asked ++ a ∷ more))
    first_ones =
        let e : length (ints replied) ≡ length asked = map_length (λ (n : ℕ). pos n) replied ∙ sym same in
        ap (λ xs. (prog u xs n).arguments) known ∙ ahead.arguments u (ints replied) (ints (x ∷ later)) n
        ∙ ap (λ xs. take (suc (length (ints replied))) (prog u xs n).arguments) whole
        ∙ ap (λ (p : Seen). take (suc (length (ints replied))) p.arguments) b.runs
        ∙ ap₂ (λ (i : ℕ) (xs : List ℕ). take (suc i) (ints xs)) e arguments_are

    has : slice_get (prog u (answers es) n).arguments (call_count es) ≡ Some (pos a)
    has = ap₂ (λ (xs : List ℤ) (i : ℕ). slice_get xs i) first_ones count_here ∙ there asked a more

    its_call : CallsNext u es f n (pos a)
    its_call = calls_come u es f n (pos a) b.program come none has

    abbrev word : ℕ
    word = cast_unsigned w32 (pos x)

    word_tells : (cast_unsigned w32 (pos x) < 2 ^ 32) × (answer_of (Some (cast_unsigned w32 (pos x))) ≡ pos x)
    word_tells = tell (pos x) (record { sfits = omega (arith, small) })

    abbrev behind_it : List Event
    behind_it = its_call.events ++ call (Some word) ∷ []

    then_come : UserHasCome u behind_it (told (after (suc its_call.steps) f) x)
    then_come = its_call.answered (cast_unsigned w32 (pos x)) word_tells.0

    then_none : others behind_it ≡ []
    then_none = others_call its_call.events (Some word) its_call.others_are

    then_known : answers behind_it ≡ ints (replied ++ x ∷ [])
    then_known =
        ap (map answer_of) (replies_call its_call.events (Some word) ∙ ap (λ rs. rs ++ Some word ∷ []) its_call.replies_are)
        ∙ map_push answer_of (replies es) (Some word) ∙ ap₂ (λ (xs : List ℤ) (z : ℤ). xs ++ z ∷ []) known word_tells.1 ∙ sym (map_push (λ (n : ℕ). pos n) replied x)

    then_few : untrapped behind_it ≤ most_steps n
    then_few =
        let a = its_call.few in
        let c = its_call.count in
        let d = untrapped_call its_call.events (Some word) in
        omega (arith, a, c, d, few)

    at_call : From behind_it (told (after (suc its_call.steps) f) x) (most_steps n) more later → From es f (most_steps n) (a ∷ more) (x ∷ later)
    at_call r = record {
      legs = record { steps = its_call.steps; argument = a; answer = x } ∷ r.legs;
      last = r.last;
      arguments_are = ap (λ xs. a ∷ xs) r.arguments_are;
      answers_are = ap (λ xs. x ∷ xs) r.answers_are;
      in_turn = (record { traps = its_call.traps; word_is = its_call.edata_is; argument_is = its_call.argument }, r.in_turn);
      few =
          let c = its_call.count in
          let d = untrapped_call its_call.events (Some word) in
          let k = r.few in
          omega (arith, c, d, k);
    }

  one_longer : (xs ys : List ℕ) (a x : ℕ) → length xs ≡ length ys → length (xs ++ a ∷ []) ≡ length (ys ++ x ∷ [])
  one_longer [] [] a x e = refl
  one_longer [] (y ∷ ys) a x e = absurd (omega (arith, e))
  one_longer (z ∷ xs) [] a x e = absurd (omega (arith, e))
  one_longer (z ∷ xs) (y ∷ ys) a x e = ap suc (one_longer xs ys a x (omega (arith, e)))

  -- ALL OF THEM
  from : (more later asked replied : List ℕ) (es : List Event) (f : Flat) → arguments ≡ asked ++ more → given ≡ replied ++ later → length asked ≡ length replied → length more ≡ length later
      → UserHasCome u es f → others es ≡ [] → answers es ≡ ints replied → untrapped es ≤ most_steps n → AreInts later → From es f (most_steps n) more later
  from [] [] asked replied es f arguments_are given_are same alike come none known few small =
      at_end es f come none (known ∙ sym (ap ints (given_are ∙ append_none replied))) few
  from [] (x ∷ later) asked replied es f arguments_are given_are same alike come none known few small = absurd (omega (arith, alike))
  from (a ∷ more) [] asked replied es f arguments_are given_are same alike come none known few small = absurd (omega (arith, alike))
  from (a ∷ more) (x ∷ later) asked replied es f arguments_are given_are same alike come none known few small =
      at_call asked replied a x more later es f arguments_are given_are same come none known few small.0
      (from more later (asked ++ a ∷ []) (replied ++ x ∷ []) (behind_it asked replied a x more later es f arguments_are given_are same come none known few small.0)
      (told (after (suc (its_call asked replied a x more later es f arguments_are given_are same come none known few small.0).steps) f) x)
      (arguments_are ∙ sym (append_assoc asked (a ∷ []) more)) (given_are ∙ sym (append_assoc replied (x ∷ []) later)) (one_longer asked replied a x same) (omega (arith, alike))
      (then_come asked replied a x more later es f arguments_are given_are same come none known few small.0)
      (then_none asked replied a x more later es f arguments_are given_are same come none known few small.0)
      (then_known asked replied a x more later es f arguments_are given_are same come none known few small.0)
      (then_few asked replied a x more later es f arguments_are given_are same come none known few small.0) small.1)

  through : (f : Flat) → From [] f (most_steps n) arguments given → ComesThrough f (most_steps n) arguments given
  through f r = record {
    legs = r.legs;
    last = r.last;
    arguments_are = r.arguments_are;
    answers_are = r.answers_are;
    calls = r.in_turn;
    few = let k = r.few in omega (arith, k);
  }

pub programs_come_through : UsersGoOn → CallsCome → EndsCome → IntsAreTold → AnswersAheadDontMatter → ProgramsComeThrough
programs_come_through go calls ends tell ahead u n arguments given b =
    through calls ends tell ahead u n arguments given b (first_flat (image_words u))
    (from calls ends tell ahead u n arguments given b arguments given [] [] [] (first_flat (image_words u)) refl refl refl b.as_many (go.starts u) refl refl (omega arith) b.small)
