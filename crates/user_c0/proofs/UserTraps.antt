-- What a program's next trap is: its journal with that trap is one of its journals.
use Rattle.std.specs.Prelude.{◌==◌, ◌&&◌, option_and_then, slice_get, slice_index, map, take, ℤ}
use Rattle.std.proofs.Common.{◌≡◌, ◌⊎◌, inl, inr, ℕ, zero, suc, ◌+◌, ◌<◌, ◌≤◌, Bool, true, false, Option, Some, None, List, [], ◌∷◌, ◌++◌, length, refl, sym, ap, ◌∙◌, subst, arith, append-nil, append_assoc, length-append, eqb-true}
use Rattle.std.proofs.lemmas.Bool.{and_parts}
use Rattle.std.proofs.lemmas.List.{length-map}
use Rattle.mips_table.specs.Arith.{signed}
use Rattle.mips_table.specs.declared.cause.Cause.{Cause}
use Rattle.mips_table.specs.declared.cause.Cause.TheVariants as causes
use Rattle.mips_table.specs.Processor.{Move, Ran, Loaded, Stored, Trapped, Privileged, move}
use Rattle.mips_table.specs.Flat.{Flat, Goes, Trap, vstep, after_move, flat_access, word_at}
use Rattle.mips_table.specs.Machine.{cause_number}
use Rattle.c0_tree.specs.Tree.{CUnit}
use Rattle.c0_meaning.specs.Operators.{faulted, stuck}
use Rattle.c0_meaning.specs.UserProgram.{ProgramEnding, done, failed, not_yet, prog}
use Rattle.c0_meaning.specs.RunLaws.{HasEnded}
use Rattle.c0_meaning.specs.ProgramLaws.{AnswersAheadDontMatter, ArgumentsStay}
use Rattle.cvm_model.specs.Kernel.{JournalEntry}
use Rattle.cvm_model.specs.Cvm.{first_flat}
use Rattle.cvm_model.specs.Journal.{replay, ReplayJoins}
use Rattle.user_c0.specs.Image.{image_words}
use Rattle.user_c0.specs.Events.{SYSCALL, CALL_CAUSE, Event, step, call, other, journal_of, replies, call_count, others, untrapped, answer_of, answers}
use Rattle.user_c0.specs.Program.{EndsBy, steps_of, FollowsMain, ImagesRun}
use Rattle.user_c0.specs.Users.{UserHasCome, UsersGoOn, IsCall, IsProgramEnd, IsProgram, ProgramsTrap, IsTrapCall, TrapsAreKnown, IsDue, ProgramsStay}
use Rattle.user_c0.proofs.ProgramPromises.{journal_join, replies_join, others_of_join}

-- what events with one more come to
answers_of : (es : List Event) (e : Event) → answers (es ++ e ∷ []) ≡ answers es ++ map answer_of (replies (e ∷ []))
answers_of es e = ap (map answer_of) (replies_join es (e ∷ [])) ∙ map_join (replies es) (replies (e ∷ []))
  where
    map_join : (a b : List (Option ℕ)) → map answer_of (a ++ b) ≡ map answer_of a ++ map answer_of b
    map_join [] b = refl
    map_join (x ∷ a) b = ap (λ xs. answer_of x ∷ xs) (map_join a b)

calls_of : (es : List Event) (e : Event) → call_count (es ++ e ∷ []) ≡ call_count es + length (replies (e ∷ []))
calls_of es e = ap length (replies_join es (e ∷ [])) ∙ length-append (replies es) (replies (e ∷ []))

untrapped_of : (es : List Event) → untrapped (es ++ step ∷ []) ≡ suc (untrapped es)
untrapped_of [] = refl
untrapped_of (step ∷ es) = ap suc (untrapped_of es)
untrapped_of (call r ∷ es) = untrapped_of es
untrapped_of (other c d ∷ es) = untrapped_of es

get_take : (n : ℕ) (xs : List ℤ) (i : ℕ) (o : Option ℤ) → i < n → slice_get (take n xs) i ≡ o → slice_get xs i ≡ o
get_take zero xs i o lt e = absurd (omega (arith, lt))
get_take (suc n) [] i o lt e = e
get_take (suc n) (x ∷ xs) zero o lt e = e
get_take (suc n) (x ∷ xs) (suc i) o lt e = get_take n xs i o (omega (arith, lt)) e

take_get : (n : ℕ) (xs : List ℤ) (i : ℕ) (o : Option ℤ) → i < n → slice_get xs i ≡ o → slice_get (take n xs) i ≡ o
take_get zero xs i o lt e = absurd (omega (arith, lt))
take_get (suc n) [] i o lt e = e
take_get (suc n) (x ∷ xs) zero o lt e = e
take_get (suc n) (x ∷ xs) (suc i) o lt e = take_get n xs i o (omega (arith, lt)) e

-- the cause of a system call
only_syscall : (cause : Cause) → cause_number cause ≡ SYSCALL → cause ≡ causes.Syscall
only_syscall causes.Syscall e = refl
only_syscall _ e = absurd (omega (arith, e))

true_false : true ≡ false → ⊥
true_false e = cc

registers_stay : (f g : Flat) (cause : Cause) (edata : ℕ) → vstep f ≡ Trap g cause edata → g.cpu.regs ≡ f.cpu.regs
registers_stay f g cause edata e = by (move (flat_access f.words) f.cpu (word_at f.words f.cpu.pc)) e
  where
    of_trap : (h : Flat) (c : Cause) (d : ℕ) → h.cpu.regs ≡ f.cpu.regs → Trap h c d ≡ Trap g cause edata → g.cpu.regs ≡ f.cpu.regs
    of_trap h c d same e = let one : h ≡ g = cc in ap (λ (m : Flat). m.cpu.regs) (sym one) ∙ same

    no_trap : (h : Flat) → Goes h ≡ Trap g cause edata → g.cpu.regs ≡ f.cpu.regs
    no_trap h e = absurd (cc)

    by : (m : Move) → after_move f m ≡ Trap g cause edata → g.cpu.regs ≡ f.cpu.regs
    by (Ran c) e = no_trap _ e
    by (Loaded c register address) e = no_trap _ e
    by (Stored c address value) e = no_trap _ e
    by (Trapped cause edata epc) e = of_trap _ _ _ refl e
    by (Privileged word) e = of_trap _ _ _ refl e

module _ (images : ImagesRun) (goes : UsersGoOn) where
  follows : (u : CUnit) (es : List Event) (f : Flat) → IsProgram u → UserHasCome u es f → FollowsMain u (first_flat (image_words u)) es
  follows u es f p h = images u p.checked p.small (journal_of es) (record { events = es; journal = refl; proper = h.proper }) f h.replayed

  module _ (ahead : AnswersAheadDontMatter) where
    called : (u : CUnit) (es : List Event) (f g : Flat) (cause : Cause) (edata : ℕ) → IsProgram u → UserHasCome u es f → vstep f ≡ Trap g cause edata
        → cause_number cause ≡ SYSCALL → edata ≡ CALL_CAUSE → IsCall u es f (cause_number cause) edata
    called u es f g cause edata p h e is data_is =
        let syscall : vstep f ≡ Trap g causes.Syscall CALL_CAUSE = e ∙ ap (λ c. Trap g c edata) (only_syscall cause is) ∙ ap (Trap g causes.Syscall) data_is in
        let w = follows u (es ++ call None ∷ []) g p (goes.calls u es f g h syscall) in
        let r = w.asks es [] None f refl h.replayed in
        let few : call_count es < suc (length (answers es)) = let l = length-map (replies es) answer_of in omega (arith, l) in
        record {
          cause_is = is;
          edata_is = data_is;
          units = r.0;
          argument =
              ap (λ xs. slice_get xs (call_count es)) (ahead.arguments u (answers es) (answer_of None ∷ []) r.0)
              ∙ take_get (suc (length (answers es))) (prog u (answers es ++ answer_of None ∷ []) r.0).arguments (call_count es) (Some (signed (slice_index f.cpu.regs 4))) few
              (ap (λ given. slice_get (prog u given r.0).arguments (call_count es)) (sym (answers_of es (call None))) ∙ r.1);
        }

    ended : (u : CUnit) (es : List Event) (f g : Flat) (cause : Cause) (edata : ℕ) → IsProgram u → UserHasCome u es f → vstep f ≡ Trap g cause edata
        → (cause_number cause ≡ SYSCALL → edata ≡ CALL_CAUSE → ⊥) → IsProgramEnd u es (cause_number cause) edata
    ended u es f g cause edata p h e isnt =
        let w = follows u (es ++ other (cause_number cause) edata ∷ []) g p (goes.others u es f g cause edata isnt h e) in
        let r = w.ends es [] (cause_number cause) edata refl in
        let same : answers (es ++ other (cause_number cause) edata ∷ []) ≡ answers es = answers_of es (other (cause_number cause) edata) ∙ append-nil (answers es) in
        record {
          cause_is = r.2;
          units = r.0;
          ends = subst (λ given. EndsBy (prog u given r.0).ending edata) same r.1;
          count = ap (λ given. length (prog u given r.0).arguments) (sym same) ∙ r.3;
        }

    pub programs_trap : ProgramsTrap
    programs_trap = record { traps = traps; leaves = registers_stay }
      where
        traps : (u : CUnit) (es : List Event) (f g : Flat) (cause : Cause) (edata : ℕ) → IsProgram u → UserHasCome u es f → vstep f ≡ Trap g cause edata
            → IsCall u es f (cause_number cause) edata ⊎ IsProgramEnd u es (cause_number cause) edata
        traps u es f g cause edata p h e = by (cause_number cause == SYSCALL && edata == CALL_CAUSE) refl
          where
            by : (b : Bool) → (cause_number cause == SYSCALL && edata == CALL_CAUSE) ≡ b → IsCall u es f (cause_number cause) edata ⊎ IsProgramEnd u es (cause_number cause) edata
            by true t =
                let q = and_parts (cause_number cause == SYSCALL) (edata == CALL_CAUSE) t in
                inl (called u es f g cause edata p h e (eqb-true (cause_number cause) SYSCALL q.0) (eqb-true edata CALL_CAUSE q.1))
            by false t =
                inr (ended u es f g cause edata p h e (λ a d.
                true_false (subst (λ (n : ℕ). (SYSCALL == SYSCALL && n == CALL_CAUSE) ≡ false) d (subst (λ (n : ℕ). (n == SYSCALL && edata == CALL_CAUSE) ≡ false) a t))))

  pub programs_stay : ProgramsStay
  programs_stay = record { stay = stay; again = again }
    where
      stay : (u : CUnit) (es : List Event) (f g : Flat) (n : ℕ) → IsProgram u → UserHasCome u es f → vstep f ≡ Goes g → others es ≡ [] → IsDue u es n → suc (untrapped es) ≤ steps_of n
      stay u es f g n p h e none due = by due
        where
          w : FollowsMain u (first_flat (image_words u)) (es ++ step ∷ [])
          w = follows u (es ++ step ∷ []) g p (goes.steps u es f g h e)

          same : answers (es ++ step ∷ []) ≡ answers es
          same = answers_of es step ∙ append-nil (answers es)

          by : IsDue u es n → suc (untrapped es) ≤ steps_of n
          by (inl lt) =
              let count = calls_of es step in
              let more = untrapped_of es in
              let within = w.comes (es ++ step ∷ []) [] n (call_count es) (sym (append-nil (es ++ step ∷ []))) (subst (λ given. call_count es < length (prog u given n).arguments) (sym same) lt) (omega (arith, count)) in
              omega (arith, more, within)
          by (inr over) =
              let more = untrapped_of es in
              let within = w.comes_to_end (es ++ step ∷ []) [] n (sym (append-nil (es ++ step ∷ []))) (subst (λ given. HasEnded (prog u given n).ending) (sym same) over) (others_of_join es (step ∷ []) ∙ append-nil (others es) ∙ none) in
              omega (arith, more, within)

      again : (u : CUnit) (es : List Event) (f g : Flat) (cause edata : ℕ) → IsProgram u → UserHasCome u (es ++ other cause edata ∷ step ∷ []) f → vstep f ≡ Goes g → ⊥
      again u es f g cause edata p h e =
          let w = follows u ((es ++ other cause edata ∷ step ∷ []) ++ step ∷ []) g p (goes.steps u (es ++ other cause edata ∷ step ∷ []) f g h e) in
          let few = w.again es (step ∷ step ∷ []) [] cause edata (append_assoc es (other cause edata ∷ step ∷ []) (step ∷ [])) refl in
          absurd (omega (arith, few))

-- the last call of events that have one
record Last (es : List Event) : Type 0 where
  before : List Event
  reply : Option ℕ
  after : List Event
  is : es ≡ before ++ call reply ∷ after
  count : call_count es ≡ suc (call_count before)

last_call : (es : List Event) → (call_count es ≡ 0) ⊎ Last es
last_call [] = inl refl
last_call (e ∷ es) = by (last_call es)
  where
    longer : (e : Event) → call_count es ≡ 0 → (call_count (e ∷ es) ≡ 0) ⊎ Last (e ∷ es)
    longer step h = inl h
    longer (other c d) h = inl h
    longer (call r) h = inr (record { before = []; reply = r; after = es; is = refl; count = ap suc h })

    more : (e : Event) (a b : List Event) → call_count a ≡ suc (call_count b) → call_count (e ∷ a) ≡ suc (call_count (e ∷ b))
    more step a b h = h
    more (other c d) a b h = h
    more (call r) a b h = ap suc h

    by : (call_count es ≡ 0) ⊎ Last es → (call_count (e ∷ es) ≡ 0) ⊎ Last (e ∷ es)
    by (inl none) = longer e none
    by (inr l) = inr (record { before = e ∷ l.before; reply = l.reply; after = l.after; is = ap (λ xs. e ∷ xs) l.is; count = more e es l.before l.count })

-- what can be replayed can be replayed up to any place
front_replays : ReplayJoins → (m : Flat) (a b : List JournalEntry) (f : Flat) → replay m (a ++ b) ≡ Some f → (g : Flat) × (replay m a ≡ Some g)
front_replays joins m a b f h = by (replay m a) refl (sym (joins m a b) ∙ h)
  where
    by : (o : Option Flat) → replay m a ≡ o → option_and_then (λ g. replay g b) (replay m a) ≡ Some f → (g : Flat) × (replay m a ≡ Some g)
    by (Some g) q r = (g, q)
    by None q r = let none : None ≡ Some f = sym (ap (option_and_then (λ g. replay g b)) q) ∙ r in absurd (cc)

module _ (images : ImagesRun) (joins : ReplayJoins) (trap : ProgramsTrap) (stay : ArgumentsStay) where
  over : (end : ProgramEnding) (edata : ℕ) → EndsBy end edata → HasEnded end
  over done edata h = tt
  over (failed (faulted f)) edata h = tt
  over (failed stuck) edata h = absurd h
  over not_yet edata h = absurd h

  pub traps_are_known : TrapsAreKnown
  traps_are_known = record { next_call = calls_known; next_end = ends_known; few = few }
    where
      few : (u : CUnit) (es : List Event) (f : Flat) → IsProgram u → UserHasCome u es f → (n : ℕ) → HasEnded (prog u (answers es) n).ending
          → call_count es ≤ length (prog u (answers es) n).arguments
      few u es f p h n end = by (last_call es)
        where
          by : (call_count es ≡ 0) ⊎ Last es → call_count es ≤ length (prog u (answers es) n).arguments
          by (inl none) = omega (arith, none)
          by (inr l) =
              let r = front_replays joins (first_flat (image_words u)) (journal_of l.before) (journal_of (call l.reply ∷ l.after)) f
              (ap (replay (first_flat (image_words u))) (sym (ap journal_of l.is ∙ journal_join l.before (call l.reply ∷ l.after))) ∙ h.replayed) in
              let w : FollowsMain u (first_flat (image_words u)) es = images u p.checked p.small (journal_of es) (record { events = es; journal = refl; proper = h.proper }) f h.replayed in
              let a = w.asks l.before l.after l.reply r.0 l.is r.1 in
              let lt = stay.ended u (answers es) n a.0 (call_count l.before) _ end a.1 in
              let count = l.count in
              omega (arith, lt, count)

      calls_known : (u : CUnit) (es : List Event) (f g : Flat) (cause : Cause) (edata : ℕ) → IsProgram u → UserHasCome u es f → vstep f ≡ Trap g cause edata
          → (n : ℕ) (a : ℤ) → slice_get (prog u (answers es) n).arguments (call_count es) ≡ Some a → IsTrapCall f a (cause_number cause) edata
      calls_known u es f g cause edata p h e n a known = by (trap.traps u es f g cause edata p h e)
        where
          by : IsCall u es f (cause_number cause) edata ⊎ IsProgramEnd u es (cause_number cause) edata → IsTrapCall f a (cause_number cause) edata
          by (inl c) = record { cause_is = c.cause_is; edata_is = c.edata_is; argument = stay.agree u (answers es) c.units n (call_count es) _ a c.argument known }
          by (inr d) =
              let lt = stay.ended u (answers es) d.units n (call_count es) a (over _ edata d.ends) known in
              let count = d.count in
              absurd (omega (arith, lt, count))

      ends_known : (u : CUnit) (es : List Event) (f g : Flat) (cause : Cause) (edata : ℕ) → IsProgram u → UserHasCome u es f → vstep f ≡ Trap g cause edata
          → (n : ℕ) → HasEnded (prog u (answers es) n).ending → length (prog u (answers es) n).arguments ≡ call_count es
          → (cause_number cause ≡ SYSCALL) × EndsBy (prog u (answers es) n).ending edata
      ends_known u es f g cause edata p h e n end count = by (trap.traps u es f g cause edata p h e)
        where
          by : IsCall u es f (cause_number cause) edata ⊎ IsProgramEnd u es (cause_number cause) edata → (cause_number cause ≡ SYSCALL) × EndsBy (prog u (answers es) n).ending edata
          by (inl c) = let lt = stay.ended u (answers es) n c.units (call_count es) _ end c.argument in absurd (omega (arith, lt, count))
          by (inr d) = (d.cause_is, subst (λ q. EndsBy q.ending edata) (stay.same_end u (answers es) d.units n (over _ edata d.ends) end) d.ends)
