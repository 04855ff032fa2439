-- One more step of the loop to the end of a turn.
use Rattle.std.proofs.Common.{◌≡◌, ℕ, suc, ◌+◌, ◌<◌, ◌≤◌, ◌||◌, not, Bool, true, false, Option, Some, None, List, refl, sym, ap, ◌∙◌, subst, subst₂, ⊎_elim, arith}
use Rattle.std.specs.Prelude.{IfSome, is_some, slice_index}
use Rattle.std.specs.Option.{option_map}
use Rattle.std.proofs.lemmas.Bool.{cases_lt}
use Rattle.mips_table.specs.Device.{Environment}
use Rattle.mips_table.specs.declared.special.TheConstants.{MODE}
use Rattle.mips_table.specs.Machine.{State, run, step}
use Rattle.mips_table.specs.Turns.{begins_turn, rests, in_user}
use Rattle.mips_machine.specs.Machine.{Held, state_of}
use Rattle.mips_machine.specs.Steps.{outside_of}
use Rattle.boot_turns.specs.Completes.{state_seen, note, noted_of, noted, is_at_rest, Open, Progress, SkipsTurns, LeftBy, StepLeft, CompleteErr, PassesQuietly}
use Rattle.boot_turns.specs.declared.completion.Begun.{Begun}
use Rattle.boot_turns.specs.declared.answers.RunFault.{RunFault}
use Rattle.boot_turns.specs.declared.answers.RunFault.TheVariants.{StepLimit, Disk, Sink}
use Rattle.boot_turns.proofs.StepEvents.{told_as_some}
use Rattle.boot_turns.proofs.NoTurnBegins.{later}
use Rattle.boot_turns.proofs.QuietStretches.{skips_stretch}
use Rattle.mips_machine.specs.Quiet.{Stretch}

same_state : (a b : State) → Some a ≡ Some b → a ≡ b
same_state a b h = cc

pub seen_note : (told : Option (List (List ℕ))) (held : Held) (v : State) → state_seen told held ≡ Some v → noted_of held ≡ note v
seen_note None held v h = absurd (let f : ◌≡◌ {A = Option State} None (Some v) = h in cc)
seen_note (Some ss) held v h = ap note (same_state (state_of held ss) v h)

not_not : (u : Bool) (o : Option ℕ) → u || is_some o ≡ u || not (not (is_some o))
not_not u None = refl
not_not u (Some w) = refl

held_rests : (held : Held) (ss : List (List ℕ)) → is_at_rest held ≡ rests (state_of held ss)
unfolding rests
held_rests held ss = not_not (in_user (state_of held ss)) held.hardware.off

pub seen_rests : (told : Option (List (List ℕ))) (held : Held) (v : State) → state_seen told held ≡ Some v → is_at_rest held ≡ rests v
seen_rests None held v h = absurd (let f : ◌≡◌ {A = Option State} None (Some v) = h in cc)
seen_rests (Some ss) held v h = held_rests held ss ∙ ap rests (same_state (state_of held ss) v h)

-- a turn may have begun, and the machine may rest now
abbrev pub Opened : Environment → State → ℕ → ℕ → Option Begun → Type 0
Opened x s t u None = Progress x s t u None
Opened x s t u (Some b) = Open x s t u b

pub opened_more : (x : Environment) (s : State) (t u : ℕ) (b : Option Begun) (began : Bool) (now : Begun) → t ≤ u → Progress x s t u b → began ≡ begins_turn x (run x s u) → now ≡ note (run x s (suc u)) → Opened x s t (suc u) (noted b began now)
opened_more x s t u (Some b) began now le p e n =
    let o = p.0 in
    record {
      start = o.start;
      from = o.from;
      to = let h = o.to in omega (arith, h);
      none = o.none;
      begin = o.begin;
      busy = λ j l h. ⊎_elim
          (λ (lt : j < u). o.busy j l lt)
          (λ (ge : u ≤ j). let d : u ≡ j = omega arith in subst (λ i. rests (run x s i) ≡ false) d p.1)
          (cases_lt j u);
      shows = o.shows;
    }
opened_more x s t u None true now le p e n = record {
  start = u;
  from = le;
  to = omega arith;
  none = p;
  begin = sym e;
  busy = λ j l h. absurd (omega arith);
  shows = n;
}
opened_more x s t u None false now le p e n = λ j l h. ⊎_elim
    (λ (lt : j < u). p j l lt)
    (λ (ge : u ≤ j). let d : u ≡ j = omega arith in subst (λ i. begins_turn x (run x s i) ≡ false) d (sym e))
    (cases_lt j u)

pub seen_more : (x : Environment) (a b : Option State) (v : State) → b ≡ option_map (step x) a → a ≡ Some v → b ≡ Some (step x v)
seen_more x a b v h e = h ∙ ap (option_map (step x)) e

pub one_step : (x y : Environment) (s : State) (t u : ℕ) (told retold : Option (List (List ℕ))) (old new : Held) (b out : Option Begun) (began : Bool) → y ≡ x → t ≤ u →
    state_seen told old ≡ Some (run x s u) → Progress x s t u b → state_seen retold new ≡ option_map (step y) (state_seen told old) → IfSome (state_seen told old) (λ s. began ≡ begins_turn y s) →
    out ≡ noted b began (noted_of new) → (state_seen retold new ≡ Some (run x s (suc u))) × Opened x s t (suc u) out
one_step x y s t u told retold old new b out began same le is p ran bg note_is =
    let ran2 : state_seen retold new ≡ option_map (step x) (state_seen told old) = subst (λ y. state_seen retold new ≡ option_map (step y) (state_seen told old)) same ran in
    let bg2 : IfSome (Some (run x s u)) (λ s. began ≡ begins_turn x s) = subst₂ (λ y o. IfSome o (λ s. began ≡ begins_turn y s)) same is bg in
    let there : state_seen retold new ≡ Some (run x s (suc u)) = seen_more x _ _ _ ran2 is in
    (there, subst (Opened x s t (suc u)) (sym note_is) (opened_more x s t u b began (noted_of new) le p bg2 (seen_note retold new _ there)))

-- what a fault left of the step of a run
pub left_at : (count : ℕ) (x : Environment) (v : State) (told retold : Option (List (List ℕ))) (old new : Held) (f : RunFault) → outside_of old.rows count ≡ x → state_seen told old ≡ Some v → StepLeft count old new told retold f →
    LeftBy f (state_seen retold new) (step x v)
left_at count x v told retold old new f same is h =
    subst (λ (z : Environment). LeftBy f (state_seen retold new) (step z v)) same (subst (λ (o : Option State). IfSome o (λ s. LeftBy f (state_seen retold new) (step (outside_of old.rows count) s))) is h)

-- the step at u failed, or its rows
pub step_stops : (x : Environment) (s : State) (t u before after : ℕ) (new : Option State) (b : Option Begun) (f : RunFault) → (f ≡ StepLimit → ⊥) → t ≤ u → after + (u + 1) ≡ before + t → Progress x s t u b → (run x s u).off ≡ None →
    LeftBy f new (run x s (suc u)) → CompleteErr x new before after s t f
step_stops x s t u before after new b StepLimit limit le spent p on left = absurd (limit refl)
step_stops x s t u before after new b Disk limit le spent p on left = (u, le, spent, (b, p), on, left)
step_stops x s t u before after new b Sink limit le spent p on left = (u, le, spent, (b, p), on, left)

-- a turn that is passed: the step at u, after n of them, began it and kept user mode
pub skips_more : (x y : Environment) (s : State) (t n m u : ℕ) (told retold : Option (List (List ℕ))) (old new : Held) → y ≡ x → u ≡ t + n → m ≡ n + 1 → SkipsTurns x s t n →
    state_seen told old ≡ Some (run x s u) → state_seen retold new ≡ option_map (step y) (state_seen told old) → IfSome (state_seen told old) (λ s. true ≡ begins_turn y s) → slice_index new.hardware.special MODE ≡ 1 → new.hardware.off ≡ None →
    (state_seen retold new ≡ Some (run x s (suc u))) × SkipsTurns x s t m
skips_more x y s t n m u told retold old new same at more skips is ran bg mode on =
    let ran2 : state_seen retold new ≡ option_map (step x) (state_seen told old) = subst (λ y. state_seen retold new ≡ option_map (step y) (state_seen told old)) same ran in
    let bg2 : IfSome (Some (run x s u)) (λ s. true ≡ begins_turn x s) = subst₂ (λ y o. IfSome o (λ s. true ≡ begins_turn y s)) same is bg in
    let there : state_seen retold new ≡ Some (run x s (suc u)) = seen_more x _ _ _ ran2 is in
    let w = told_as_some retold new (run x s (suc u)) there in
    let mode_there : slice_index (run x s (suc u)).special MODE ≡ 1 = ap (λ (z : State). slice_index z.special MODE) (sym w.2) ∙ mode in
    let on_there : (run x s (suc u)).off ≡ None = ap (λ (z : State). z.off) (sym w.2) ∙ on in (
      there,
      λ j l. ⊎_elim
          (λ (lt : j < n). skips j lt)
          (λ (ge : n ≤ j).
          let here : u ≡ t + j = omega (arith, at, more, l, ge) in
          let next : suc u ≡ t + suc j = omega (arith, at, more, l, ge) in (
            subst (λ i. begins_turn x (run x s i) ≡ true) here (sym bg2),
            subst (λ i. slice_index (run x s i).special MODE ≡ 1) next mode_there,
            subst (λ i. (run x s i).off ≡ None) next on_there,
          ))
          (cases_lt j n),
    )

-- and so many more are passed by a stretch behind them
pub skips_passed : (x : Environment) (s : State) (t n m u : ℕ) (told : Option (List (List ℕ))) (mid new : Held) (count : ℕ) → outside_of mid.rows count ≡ x → u ≡ t + n → SkipsTurns x s t n → state_seen told mid ≡ Some (run x s u) →
    slice_index mid.hardware.special MODE ≡ 1 → PassesQuietly mid new m → (state_seen told new ≡ Some (run x s (u + m))) × SkipsTurns x s t (n + m)
skips_passed x s t n m u told mid new count same at skips is mode passes =
    let w = told_as_some told mid (run x s u) is in
    let here : Stretch x (state_of mid w.0) m (state_of new w.0) = subst (λ (z : Environment). Stretch z (state_of mid w.0) m (state_of new w.0)) same (passes.stretch count w.0) in
    let there : Stretch x (run x s u) m (state_of new w.0) = subst (λ (z : State). Stretch x z m (state_of new w.0)) w.2 here in
    let next : state_of new w.0 ≡ run x s (u + m) = there.state ∙ later x s u m in
    let mode_there : slice_index (run x s u).special MODE ≡ 1 = ap (λ (z : State). slice_index z.special MODE) (sym w.2) ∙ mode in (
      ap (λ (o : Option (List (List ℕ))). state_seen o new) w.1 ∙ ap (λ (z : State). Some z) next,
      skips_stretch x s t n m (state_of new w.0) skips (subst (λ i. Stretch x (run x s i) m (state_of new w.0)) at there) (subst (λ i. slice_index (run x s i).special MODE ≡ 1) at mode_there),
    )
