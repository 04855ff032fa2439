-- What a step was, and the special registers after it, say whether it began a turn.
use Rattle.std.proofs.Common.{◌≡◌, ℕ, zero, suc, ◌+◌, ◌&&◌, ◌||◌, not, Bool, true, false, Option, Some, None, List, [], refl, sym, ap, ap₂, ◌∙◌, subst, slice_index, ◌/◌}
use Rattle.std.specs.Prelude.{IfSome, is_some, nat_lt, ◌==◌}
use Rattle.std.specs.Option.{option_map}
use Rattle.std.proofs.lemmas.Bool.{cond_both}
use Rattle.mips_table.specs.declared.cause.Cause.{Cause}
use Rattle.mips_table.specs.declared.cause.Cause.TheVariants as causes
use Rattle.mips_table.specs.Device.{Device, Environment, Pending, Idle, Reading, Writing}
use Rattle.mips_table.specs.declared.special.TheConstants.{SR, MODE, PTL, ECA, EDATA}
use Rattle.mips_table.specs.Machine.{State, cause_number, Coming, Interrupt, Done, coming, latched, come_to, step_ended, if_on, step}
use Rattle.mips_table.specs.Turns.{in_user, is_handled, handled, begins_turn}
use Rattle.mips_machine.specs.declared.event.Event.{Event}
use Rattle.mips_machine.specs.declared.event.Event.TheVariants.{Ran, Taken, Off, Power}
use Rattle.mips_machine.specs.Hardware.{told_as, event_by}
use Rattle.mips_machine.specs.Machine.{Held, state_of}
use Rattle.mips_machine.specs.Steps.{outside_of, event_if, event_of, before_count, after_step, StepDone, StepFailed}
use Rattle.sector_disk.specs.Ports.{TransferFails}
use Rattle.boot_turns.specs.declared.answers.RunFault.{RunFault}
use Rattle.boot_turns.specs.declared.answers.RunFault.TheVariants.{StepLimit, Disk, Sink}
use Rattle.boot_turns.specs.Completes.{state_seen, was_off, was_taken, begun_at, but_disk, StepRan, StepLeft}
use Rattle.boot_turns.proofs.MasksAndTimes.{on_time, instruction, Plain, instruction_plain}

-- by the event as a whole
abbrev pub begun_by : (reset in_user : Bool) (pages edata : ℕ) → Event → Bool
begun_by reset in_user pages edata (Off word) = false
begun_by reset in_user pages edata (Taken causes.FetchFault) = reset || (in_user && not (nat_lt (edata / 4096) pages))
begun_by reset in_user pages edata (Taken causes.DataFault) = reset || (in_user && not (nat_lt (edata / 4096) pages))
begun_by reset in_user pages edata other = reset || in_user

fault_begins : (r u h : Bool) → r || (u && not (u && h)) ≡ r || (u && not h)
fault_begins r true h = refl
fault_begins r false h = refl

other_begins : (r u : Bool) → r || (u && not (u && false)) ≡ r || u
other_begins r true = refl
other_begins r false = refl

done_begins : (r u : Bool) (pages edata : ℕ) (off : Option ℕ) → r || (u && not (u && false)) ≡ begun_by r u pages edata (event_by off)
done_begins r u pages edata None = other_begins r u
done_begins r u pages edata (Some word) = other_begins r u

coming_begins : (s : State) (o : Coming) → s.reset || (in_user s && not (in_user s && is_handled s o)) ≡ begun_by s.reset (in_user s) (slice_index s.special PTL) (slice_index (step_ended (come_to o)).special EDATA) (told_as o)
coming_begins s (Interrupt before causes.FetchFault edata epc) = fault_begins s.reset (in_user s) _
coming_begins s (Interrupt before causes.DataFault edata epc) = fault_begins s.reset (in_user s) _
coming_begins s (Interrupt before causes.Reset edata epc) = other_begins s.reset (in_user s)
coming_begins s (Interrupt before causes.External edata epc) = other_begins s.reset (in_user s)
coming_begins s (Interrupt before causes.FetchAlign edata epc) = other_begins s.reset (in_user s)
coming_begins s (Interrupt before causes.Illegal edata epc) = other_begins s.reset (in_user s)
coming_begins s (Interrupt before causes.Overflow edata epc) = other_begins s.reset (in_user s)
coming_begins s (Interrupt before causes.Syscall edata epc) = other_begins s.reset (in_user s)
coming_begins s (Interrupt before causes.DataAlign edata epc) = other_begins s.reset (in_user s)
coming_begins s (Done after) = done_begins s.reset (in_user s) _ _ after.off

by_power : (x : Environment) (s : State) (o : Option ℕ) →
    not (is_some o) && (s.reset || (in_user s && not (not (is_some o) && (in_user s && is_handled s (coming x (latched x s))))))
    ≡ begun_by s.reset (in_user s) (slice_index s.special PTL) (slice_index (if_on x s o).special EDATA) (event_if x s o)
by_power x s (Some word) = refl
by_power x s None = coming_begins s (coming x (latched x s))

pub event_begins : (x : Environment) (s : State) → begins_turn x s ≡ begun_by s.reset (in_user s) (slice_index s.special PTL) (slice_index (step x s).special EDATA) (event_of x s)
unfolding begins_turn handled step event_of
event_begins x s = by_power x s s.off

pub steps_time : (count : ℕ) (old new : Held) (told retold : Option (List (List ℕ))) (e : Event) → StepDone count old new told retold e → old.hardware.off ≡ None → new.time ≡ old.time + 1
steps_time count old new told retold e h on = ap (λ (s : State). s.time) h.state ∙ on_time (outside_of old.rows count) (state_of old h.sectors) on

pub fails_time : (count : ℕ) (old new : Held) (told retold : Option (List (List ℕ))) → StepFailed count old new told retold → old.hardware.off ≡ None → new.time ≡ old.time + 1
fails_time count old new told retold h on = ap (λ (s : State). s.time) (h.state []) ∙ on_time (outside_of old.rows count) (state_of old []) on

seen_with : (count : ℕ) (old new : Held) (told retold : Option (List (List ℕ))) (sectors : List (List ℕ)) → IfSome told (λ ss. sectors ≡ ss) →
    state_of new (after_step count old sectors).device.sectors ≡ after_step count old sectors → retold ≡ option_map (λ _. (after_step count old sectors).device.sectors) told →
    state_seen retold new ≡ option_map (step (outside_of old.rows count)) (state_seen told old)
seen_with count old new None retold sectors g st left = ap (λ r. state_seen r new) left
seen_with count old new (Some ss) retold sectors g st left =
    ap (λ r. state_seen r new) left ∙ (ap (λ (s : State). Some s) st ∙ ap (λ q. Some (after_step count old q)) g)

pub steps_seen : (count : ℕ) (old new : Held) (told retold : Option (List (List ℕ))) (e : Event) → StepDone count old new told retold e →
    state_seen retold new ≡ option_map (step (outside_of old.rows count)) (state_seen told old)
steps_seen count old new told retold e h = seen_with count old new told retold h.sectors h.given h.state h.left

begun_with : (count : ℕ) (old new : Held) (told : Option (List (List ℕ))) (e : Event) (b : Bool) (sectors : List (List ℕ)) → IfSome told (λ ss. sectors ≡ ss) →
    state_of new (after_step count old sectors).device.sectors ≡ after_step count old sectors → e ≡ event_of (outside_of old.rows count) (state_of old sectors) →
    b ≡ begun_by old.hardware.reset (in_user (state_of old [])) (slice_index old.hardware.special PTL) (slice_index new.hardware.special EDATA) e →
    IfSome (state_seen told old) (λ s. b ≡ begins_turn (outside_of old.rows count) s)
begun_with count old new None e b sectors g st ev is = tt
begun_with count old new (Some ss) e b sectors g st ev is =
    let x = outside_of old.rows count in
    let s = state_of old sectors in
    let edata : slice_index new.hardware.special EDATA ≡ slice_index (step x s).special EDATA = ap (λ (s : State). slice_index s.special EDATA) st in
    let one : b ≡ begun_by s.reset (in_user s) (slice_index s.special PTL) (slice_index (step x s).special EDATA) (event_of x s) =
    is ∙ (ap (λ d. begun_by s.reset (in_user s) (slice_index s.special PTL) d e) edata ∙ ap (begun_by s.reset (in_user s) (slice_index s.special PTL) (slice_index (step x s).special EDATA)) ev) in
    subst (λ q. b ≡ begins_turn x (state_of old q)) g (one ∙ sym (event_begins x s))

pub steps_begin : (count : ℕ) (old new : Held) (told retold : Option (List (List ℕ))) (e : Event) (b : Bool) → StepDone count old new told retold e →
    b ≡ begun_by old.hardware.reset (in_user (state_of old [])) (slice_index old.hardware.special PTL) (slice_index new.hardware.special EDATA) e →
    IfSome (state_seen told old) (λ s. b ≡ begins_turn (outside_of old.rows count) s)
steps_begin count old new told retold e b h is = begun_with count old new told e b h.sectors h.given h.state h.event is

pub event_told : (count : ℕ) (old new : Held) (told retold : Option (List (List ℕ))) (e : Event) (b reset : Bool) (mode pages edata : ℕ) → StepDone count old new told retold e →
    reset ≡ old.hardware.reset → mode ≡ slice_index old.hardware.special MODE → pages ≡ slice_index old.hardware.special PTL → edata ≡ slice_index new.hardware.special EDATA →
    b ≡ begun_by reset (mode == 1) pages edata e → IfSome (state_seen told old) (λ s. b ≡ begins_turn (outside_of old.rows count) s)
event_told count old new told retold e b reset mode pages edata h hr hm hp hd is =
    steps_begin count old new told retold e b h
    (is ∙ (ap (λ r. begun_by r (mode == 1) pages edata e) hr
    ∙ (ap (λ m. begun_by old.hardware.reset (m == 1) pages edata e) hm
    ∙ (ap (λ p. begun_by old.hardware.reset (slice_index old.hardware.special MODE == 1) p edata e) hp
    ∙ ap (λ d. begun_by old.hardware.reset (slice_index old.hardware.special MODE == 1) (slice_index old.hardware.special PTL) d e) hd))))

-- the cause of an interrupt is in its special register after it
register_cause : (before : State) (cause : Cause) (edata epc : ℕ) → slice_index (step_ended (come_to (Interrupt before cause edata epc))).special ECA ≡ cause_number cause
register_cause before causes.Reset edata epc = refl
register_cause before causes.External edata epc = refl
register_cause before causes.FetchAlign edata epc = refl
register_cause before causes.FetchFault edata epc = refl
register_cause before causes.Illegal edata epc = refl
register_cause before causes.Overflow edata epc = refl
register_cause before causes.Syscall edata epc = refl
register_cause before causes.DataAlign edata epc = refl
register_cause before causes.DataFault edata epc = refl

same_cause : (c d : Cause) → ◌≡◌ {A = Event} (Taken c) (Taken d) → c ≡ d
same_cause c d e = cc

never_taken : (off : Option ℕ) (c : Cause) → event_by off ≡ Taken c → ⊥
never_taken None c e = cc
never_taken (Some word) c e = cc

coming_cause : (o : Coming) (c : Cause) → told_as o ≡ Taken c → slice_index (step_ended (come_to o)).special ECA ≡ cause_number c
coming_cause (Interrupt before cause edata epc) c e = register_cause before cause edata epc ∙ ap cause_number (same_cause cause c e)
coming_cause (Done after) c e = absurd (never_taken after.off c e)

cause_by : (x : Environment) (s : State) (o : Option ℕ) (c : Cause) → event_if x s o ≡ Taken c → slice_index (if_on x s o).special ECA ≡ cause_number c
cause_by x s (Some word) c e = absurd (cc)
cause_by x s None c e = coming_cause (coming x (latched x s)) c e

taken_cause : (x : Environment) (s : State) (c : Cause) → event_of x s ≡ Taken c → slice_index (step x s).special ECA ≡ cause_number c
unfolding step event_of
taken_cause x s c e = cause_by x s s.off c e

steps_cause : (count : ℕ) (old new : Held) (told retold : Option (List (List ℕ))) (e : Event) → StepDone count old new told retold e → (c : Cause) → e ≡ Taken c → slice_index new.hardware.special ECA ≡ cause_number c
steps_cause count old new told retold e h c is = ap (λ (s : State). slice_index s.special ECA) h.state ∙ taken_cause (outside_of old.rows count) (state_of old h.sectors) c (sym h.event ∙ is)

-- the reset latch was set where the reset is taken, and else on a machine that is on it was not
abbrev pub ResetTold : Bool → Event → Type 0
ResetTold r (Off word) = Unit {0}
ResetTold r (Taken causes.Reset) = r ≡ true
ResetTold r other = r ≡ false

done_told : (r : Bool) (off : Option ℕ) → r ≡ false → ResetTold r (event_by off)
done_told r None h = h
done_told r (Some word) h = h

plain_told : (r : Bool) (o : Coming) → Plain o → r ≡ false → ResetTold r (told_as o)
plain_told r (Interrupt before causes.Reset edata epc) p h = absurd p
plain_told r (Interrupt before causes.External edata epc) p h = absurd p
plain_told r (Interrupt before causes.FetchAlign edata epc) p h = h
plain_told r (Interrupt before causes.FetchFault edata epc) p h = h
plain_told r (Interrupt before causes.Illegal edata epc) p h = h
plain_told r (Interrupt before causes.Overflow edata epc) p h = h
plain_told r (Interrupt before causes.Syscall edata epc) p h = h
plain_told r (Interrupt before causes.DataAlign edata epc) p h = h
plain_told r (Interrupt before causes.DataFault edata epc) p h = h
plain_told r (Done after) p h = done_told r after.off h

reset_coming : (x : Environment) (s : State) → ResetTold s.reset (told_as (coming x s))
reset_coming x s =
    cond_both s.reset (Interrupt s causes.Reset 0 s.cpu.pc) _ (λ o. ResetTold s.reset (told_as o)) (λ e. e)
    (λ e. cond_both (slice_index s.special SR == 1 && not (s.mask == 0)) (Interrupt s causes.External s.mask s.cpu.pc) (instruction x s) (λ o. ResetTold s.reset (told_as o)) (λ _. e)
    (λ _. plain_told s.reset (instruction x s) (instruction_plain x s) e))

reset_by : (x : Environment) (s : State) (o : Option ℕ) → ResetTold s.reset (event_if x s o)
reset_by x s (Some word) = tt
reset_by x s None = reset_coming x (latched x s)

reset_of : (x : Environment) (s : State) → ResetTold s.reset (event_of x s)
unfolding event_of
reset_of x s = reset_by x s s.off

pub steps_reset : (count : ℕ) (old new : Held) (told retold : Option (List (List ℕ))) (e : Event) → StepDone count old new told retold e → ResetTold old.hardware.reset e
steps_reset count old new told retold e h = subst (ResetTold old.hardware.reset) (sym h.event) (reset_of (outside_of old.rows count) (state_of old h.sectors))

-- so the kind of the event and the cause's register tell as much as the event
and_true : (u : Bool) → u && true ≡ u
and_true true = refl
and_true false = refl

no_reset : (r u : Bool) → r ≡ false → u && true ≡ r || u
no_reset r u h = and_true u ∙ sym (ap (λ b. b || u) h)

fault_told : (r u l : Bool) → r ≡ false → u && not l ≡ r || (u && not l)
fault_told r u l h = sym (ap (λ b. b || (u && not l)) h)

begun_as : (r u : Bool) (pages edata cause : ℕ) (e : Event) → ((c : Cause) → e ≡ Taken c → cause ≡ cause_number c) → ResetTold r e → begun_at u pages (was_off e) (was_taken e) cause edata ≡ begun_by r u pages edata e
begun_as r u pages edata cause (Off word) n h = refl
begun_as r u pages edata cause (Taken causes.Reset) n h = ap (λ k. begun_at u pages false true k edata) (n causes.Reset refl) ∙ sym (ap (λ b. b || u) h)
begun_as r u pages edata cause (Taken causes.FetchFault) n h = ap (λ k. begun_at u pages false true k edata) (n causes.FetchFault refl) ∙ fault_told r u (nat_lt (edata / 4096) pages) h
begun_as r u pages edata cause (Taken causes.DataFault) n h = ap (λ k. begun_at u pages false true k edata) (n causes.DataFault refl) ∙ fault_told r u (nat_lt (edata / 4096) pages) h
begun_as r u pages edata cause (Taken causes.External) n h = ap (λ k. begun_at u pages false true k edata) (n causes.External refl) ∙ no_reset r u h
begun_as r u pages edata cause (Taken causes.FetchAlign) n h = ap (λ k. begun_at u pages false true k edata) (n causes.FetchAlign refl) ∙ no_reset r u h
begun_as r u pages edata cause (Taken causes.Illegal) n h = ap (λ k. begun_at u pages false true k edata) (n causes.Illegal refl) ∙ no_reset r u h
begun_as r u pages edata cause (Taken causes.Overflow) n h = ap (λ k. begun_at u pages false true k edata) (n causes.Overflow refl) ∙ no_reset r u h
begun_as r u pages edata cause (Taken causes.Syscall) n h = ap (λ k. begun_at u pages false true k edata) (n causes.Syscall refl) ∙ no_reset r u h
begun_as r u pages edata cause (Taken causes.DataAlign) n h = ap (λ k. begun_at u pages false true k edata) (n causes.DataAlign refl) ∙ no_reset r u h
begun_as r u pages edata cause Ran n h = no_reset r u h
begun_as r u pages edata cause (Power word) n h = no_reset r u h

pub event_told_at : (count : ℕ) (old new : Held) (told retold : Option (List (List ℕ))) (e : Event) (b off taken : Bool) (mode pages cause edata : ℕ) → StepDone count old new told retold e →
    mode ≡ slice_index old.hardware.special MODE → pages ≡ slice_index old.hardware.special PTL → cause ≡ slice_index new.hardware.special ECA → edata ≡ slice_index new.hardware.special EDATA →
    off ≡ was_off e → taken ≡ was_taken e → b ≡ begun_at (mode == 1) pages off taken cause edata → IfSome (state_seen told old) (λ s. b ≡ begins_turn (outside_of old.rows count) s)
event_told_at count old new told retold e b off taken mode pages cause edata h hm hp hc hd ho ht is =
    event_told count old new told retold e b old.hardware.reset mode pages edata h refl hm hp hd
    (is ∙ ap₂ (λ o t. begun_at (mode == 1) pages o t cause edata) ho ht
    ∙ begun_as old.hardware.reset (mode == 1) pages edata cause e (λ c same. hc ∙ steps_cause count old new told retold e h c same) (steps_reset count old new told retold e h))

-- a step that is told as an instruction leaves the machine on
event_on : (off : Option ℕ) → event_by off ≡ Ran → off ≡ None
event_on None e = refl
event_on (Some word) e = absurd (cc)

coming_on : (o : Coming) → told_as o ≡ Ran → (step_ended (come_to o)).off ≡ None
coming_on (Interrupt before cause edata epc) e = absurd (cc)
coming_on (Done after) e = event_on after.off e

on_by : (x : Environment) (s : State) (o : Option ℕ) → event_if x s o ≡ Ran → (if_on x s o).off ≡ None
on_by x s (Some word) e = absurd (cc)
on_by x s None e = coming_on (coming x (latched x s)) e

ran_on : (x : Environment) (s : State) → event_of x s ≡ Ran → (step x s).off ≡ None
unfolding step event_of
ran_on x s e = on_by x s s.off e

pub steps_on : (count : ℕ) (old new : Held) (told retold : Option (List (List ℕ))) (e : Event) → StepDone count old new told retold e → e ≡ Ran → new.hardware.off ≡ None
steps_on count old new told retold e h is = ap (λ (s : State). s.off) h.state ∙ ran_on (outside_of old.rows count) (state_of old h.sectors) (sym h.event ∙ is)

-- an instruction of a user begins a turn; in system mode nothing does but the reset
or_true : (r : Bool) → true ≡ r || true
or_true true = refl
or_true false = refl

pub user_begins : (reset user : Bool) (pages edata : ℕ) (e : Event) → user ≡ true → e ≡ Ran → true ≡ begun_by reset user pages edata e
user_begins reset user pages edata e hu he = or_true reset ∙ ap (λ u. reset || u) (sym hu) ∙ ap (begun_by reset user pages edata) (sym he)

neither : (r u : Bool) → r ≡ false → u ≡ false → false ≡ r || u
neither r u hr hu = sym (ap₂ (λ (a b : Bool). a || b) hr hu)

pub untaken_begins : (reset user : Bool) (pages edata : ℕ) (e : Event) → user ≡ false → was_taken e ≡ false → ResetTold reset e → false ≡ begun_by reset user pages edata e
untaken_begins reset user pages edata (Off word) hu ht hr = refl
untaken_begins reset user pages edata (Taken c) hu ht hr = absurd (let g : true ≡ false = ht in cc)
untaken_begins reset user pages edata Ran hu ht hr = neither reset user hr hu
untaken_begins reset user pages edata (Power word) hu ht hr = neither reset user hr hu

pub told_as_some : (told : Option (List (List ℕ))) (held : Held) (v : State) → state_seen told held ≡ Some v → (ss : List (List ℕ)) × (told ≡ Some ss) × (state_of held ss ≡ v)
told_as_some None held v h = absurd (let f : ◌≡◌ {A = Option State} None (Some v) = h in cc)
told_as_some (Some ss) held v h = (ss, refl, cc)

-- WHAT A FAULT LEFT: where the sectors were told they are told where a transfer failed
retold_by : (p : Pending) (buffer after : List ℕ) (ss : List (List ℕ)) (retold : Option (List (List ℕ))) → TransferFails p buffer after (Some ss) retold → (now : List (List ℕ)) × (retold ≡ Some now)
retold_by Idle buffer after ss retold h = absurd h
retold_by (Reading zero sector) buffer after ss retold h = (ss, h)
retold_by (Reading (suc left) sector) buffer after ss retold h = absurd h
retold_by (Writing zero sector) buffer after ss retold h = let w = h.1 in (_, w.1)
retold_by (Writing (suc left) sector) buffer after ss retold h = absurd h

pub fails_left : (count : ℕ) (old new : Held) (told retold : Option (List (List ℕ))) → StepFailed count old new told retold → StepLeft count old new told retold Disk
fails_left count old new None retold h = tt
fails_left count old new (Some ss) retold h =
    let d : Device = before_count (outside_of old.rows count) (state_of old ss) in
    let w = retold_by d.pending d.buffer new.hardware.buffer ss retold (h.disk ss) in
    ap (λ (r : Option (List (List ℕ))). option_map but_disk (state_seen r new)) w.1 ∙ ap (λ (s : State). Some (but_disk s)) (h.state ss)

-- where the step was done all of it is left
pub ran_left : (count : ℕ) (old new : Held) (told retold : Option (List (List ℕ))) (f : RunFault) → StepRan count old new told retold → StepLeft count old new told retold f
ran_left count old new None retold f ran = tt
ran_left count old new (Some ss) retold StepLimit ran = ran
ran_left count old new (Some ss) retold Disk ran = ap (option_map but_disk) ran
ran_left count old new (Some ss) retold Sink ran = ran
