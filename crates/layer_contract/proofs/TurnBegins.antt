-- The step that begins a turn of a user.
use Rattle.std.proofs.Common.{◌≡◌, ℕ, ◌+◌, ◌*◌, ◌/◌, ◌≤◌, ◌⊎◌, ◌&&◌, Option, Some, None, Bool, true, false, not, cond, slice_index, refl, sym, ap, ap₂, ◌∙◌, subst, ⊎_elim, inl, inr, arith, true≢false, eqb-true, ltb-true}
use Rattle.std.specs.Prelude.{◌==◌, is_some}
use Rattle.std.proofs.lemmas.Bool.{cond-true, cond-false}
use Rattle.mips_table.specs.declared.cause.Cause.{Cause}
use Rattle.mips_table.specs.declared.cause.Cause.TheVariants as causes
use Rattle.mips_table.specs.Device.{Device, Idle, Environment, settled, disk_counted, sector_of}
use Rattle.mips_table.specs.declared.special.TheConstants.{SR}
use Rattle.mips_table.specs.Processor.{Cpu}
use Rattle.mips_table.specs.Processor.{move}
use Rattle.mips_table.specs.Flat.{Flat, VStep, Goes, Trap, flat_access, after_move, vstep}
use Rattle.mips_table.specs.Machine.{State, Coming, Interrupt, Done, located, read_at, access, moved, fetched, latched, step_ended, come_to, cleared, interrupted, coming, if_on, step}
use Rattle.mips_table.specs.Turns.{in_user, is_handled, handled}
use Rattle.mips_table.specs.Fits.{NamesSector, Fits, StaysFitting}
use Rattle.layer_map.specs.Map.{layer_words, globals_at, tables_at, frame_table_at, zero_frame_at}
use Rattle.cvm_model.specs.Kernel.{Core}
use Rattle.cvm_model.specs.Primitives.{user_of, with_user}
use Rattle.cvm_model.specs.Cvm.{Running, Interrupts, user_step}
use Rattle.cvm_model.specs.Stands.{Site, runs_user, RunningRelation}
use Rattle.layer_contract.specs.Layer.{command_due}
use Rattle.layer_contract.specs.Follows.{BeginsAs}
use Rattle.layer_contract.specs.Users.{UserStepPremises, TakesFault, StepSpares, StepFollows, UserStepsLinked, UserStepsOrFaults}
use Rattle.layer_contract.proofs.AddressesStand.{own, Known, Sizes, sizes_of}
use Rattle.layer_contract.proofs.UntrappedSteps.{with_current, stands_after, running}
use Rattle.layer_contract.proofs.OnlyWritesBeginCommands.{none_is_due}
use Rattle.layer_contract.proofs.UserStepStages.{Good, Refused, follows}

left : (a b : Bool) → (a && b) ≡ true → a ≡ true
left true b e = refl
left false b e = e

right : (a b : Bool) → (a && b) ≡ true → b ≡ true
right true b e = e
right false b e = absurd (cc)

is_none : (o : Option ℕ) → not (is_some o) ≡ true → o ≡ None
is_none None e = refl
is_none (Some w) e = absurd (cc)

-- taking an interrupt changes nothing of the disk
cleared_device : (cause : Cause) (s : State) → (cleared cause s).device ≡ s.device
cleared_device causes.Reset s = refl
cleared_device causes.External s = refl
cleared_device other s = refl

module _ (words : StaysFitting) (x : Environment) (y : Site) (s : State) (c : Core) (n : ℕ) (p : UserStepPremises x y s c) where
  on : s.off ≡ None
  on = is_none s.off (left _ _ p.back.user)

  user : in_user s ≡ true
  user = right _ _ p.back.user

  known : Known x y s c
  known = record { range = p.range; mode = eqb-true _ _ user; runs = p.back.stands.users.runs p.back.user; stands = p.back.stands }

  calm : s.reset ≡ false
  calm = p.back.stands.no_reset

  sr : slice_index s.special SR ≡ 1
  sr = known.runs.sr

  step_is : step x s ≡ step_ended (come_to (coming x (latched x s)))
  unfolding step
  step_is = ap (if_on x s) on

  stays : (o : Coming) → coming x (latched x s) ≡ o → (step_ended (come_to o)).device ≡ s.device → StepSpares x y s
  stays o e same =
      let all : (step x s).device ≡ s.device = ap (λ (t : State). t.device) step_is ∙ ap (λ o. (step_ended (come_to o)).device) e ∙ same in
      let none : command_due x s ≡ Idle = none_is_due x s on p.back.stands.idle (ap (λ (d : Device). d.commands) all) in
      (λ q le. ap (λ (d : Device). sector_of d.sectors q) all, subst (NamesSector (y.map.users * y.map.params.pages)) (sym none) tt)

  interrupt_stays : (before : State) (cause : Cause) (edata epc : ℕ) → before.device ≡ s.device → (step_ended (interrupted before cause edata epc)).device ≡ s.device
  interrupt_stays before cause edata epc same = ap disk_counted (cleared_device cause before ∙ same) ∙ ap (λ p. settled p s.device) p.back.stands.idle

  abbrev f : Flat
  f = user_of c.users c.current

  -- the flat machine's step, over the machine's processor
  vstep_is : vstep f ≡ after_move f (move (flat_access (own c)) s.cpu (slice_index (own c) (s.cpu.pc / 4)))
  vstep_is = ap (λ (u : Cpu). after_move f (move (flat_access (own c)) u (slice_index (own c) (u.pc / 4)))) (sym known.runs.cpu)

  abbrev mask : ℕ
  mask = (latched x s).mask

  abbrev executed_as : Coming
  executed_as = moved x (fetched (latched x s)) (move (access (latched x s)) s.cpu (read_at (latched x s) (located s false s.cpu.pc)))

  abbrev line : Bool
  line = slice_index s.special SR == 1 && not (mask == 0)

  abbrev taken_as : Coming
  taken_as = Interrupt (latched x s) causes.External mask s.cpu.pc

  not_reset : coming x (latched x s) ≡ cond line taken_as executed_as
  not_reset = cond-false s.reset (Interrupt (latched x s) causes.Reset 0 s.cpu.pc) (cond line taken_as executed_as) calm

  -- with no line pending the instruction comes
  instruction : mask ≡ 0 → coming x (latched x s) ≡ executed_as
  instruction z = not_reset ∙ cond-false line taken_as executed_as (ap₂ (λ a b. (a == 1) && not (b == 0)) sr z)

  external : (mask == 0) ≡ false → coming x (latched x s) ≡ taken_as
  external z = not_reset ∙ cond-true line taken_as executed_as (ap₂ (λ a b. (a == 1) && not b) sr z)

  -- the words of the machine stay words
  fits : (t : State) → step x s ≡ step_ended t → Fits x (step_ended t)
  fits t is = subst (Fits x) is (words x s 1 p.back.stands.fits).0

  is_good : (o : Coming) (v : VStep) → coming x (latched x s) ≡ o → mask ≡ 0 → Good x y s c known o v → BeginsAs x y s c (user_step c v) × StepSpares x y s
  is_good o (Goes g) e z (t, od, after, same) =
      let is : step x s ≡ step_ended t = step_is ∙ ap (λ o. step_ended (come_to o)) (e ∙ od) in (
        (
          subst (λ t. RunningRelation x y t Running (with_current c g)) (sym is) (stands_after x y s (step_ended t) c g known p.linked p.back.user after (fits t is)),
          ap runs_user is ∙ running x y s (step_ended t) c g known p.linked p.back.user after (fits t is),
          ap (λ (t : State). t.mask) is ∙ same ∙ z,
        ),
        stays (Done t) (e ∙ od) after.device,
      )
  is_good o (Trap g cause edata) e z (before, epc, od, same, device) =
      ((before, cause, epc, e ∙ od, refl, ap (λ g. record c { users = with_user c.users c.current g }) (sym same)), stays (Interrupt before cause edata epc) (e ∙ od) (interrupt_stays before cause edata epc device))

  faults : (o : Coming) → coming x (latched x s) ≡ o → is_handled s o ≡ true → handled x s ≡ true
  unfolding handled
  faults o e h = ap₂ (λ a b. a && b) (left _ _ p.back.user) (ap₂ (λ a b. a && b) user (ap (is_handled s) e ∙ h))

  takes : (o : Coming) → coming x (latched x s) ≡ o → Refused x y s c known o → TakesFault x s
  takes o e (why, edata, is, number, page, h) = record { handled = faults o e h; why = why; edata = edata; comes = e ∙ is; number = number; page = ltb-true _ _ page }

  begins_as : (b : Bool) → (mask == 0) ≡ b → TakesFault x s ⊎ (BeginsAs x y s c (cond b (user_step c (vstep f)) (Interrupts 1 mask c 0)) × StepSpares x y s)
  begins_as true e =
      let z : mask ≡ 0 = eqb-true mask 0 e in
      ⊎_elim
      (λ r. inl (takes executed_as (instruction z) r))
      (λ g. inr (subst (λ v. BeginsAs x y s c (user_step c v) × StepSpares x y s) (sym vstep_is)
      (is_good executed_as (after_move f (move (flat_access (own c)) s.cpu (slice_index (own c) (s.cpu.pc / 4)))) (instruction z) z g)))
      (follows x y s c known)
  begins_as false e = inr ((external e, refl, refl, refl), stays taken_as (external e) (interrupt_stays (latched x s) causes.External mask s.cpu.pc refl))

  pub step_or_fault : TakesFault x s ⊎ StepFollows x y s c n
  step_or_fault = begins_as (mask == 0) refl

pub user_steps_or_faults : StaysFitting → UserStepsOrFaults
user_steps_or_faults words x y s c n p = step_or_fault words x y s c n p

user_steps : StaysFitting → (x : Environment) (y : Site) (s : State) (c : Core) (k : ℕ) → UserStepPremises x y s c → handled x s ≡ false → StepFollows x y s c k
user_steps words x y s c n p calm = ⊎_elim (λ t. absurd (true≢false (sym t.handled ∙ calm))) (λ g. g) (step_or_fault words x y s c n p)

pub user_steps_linked : StaysFitting → UserStepsLinked
user_steps_linked words x y s c n range linked back calm = user_steps words x y s c n
    (record {
      range = range;
      linked =
          let z : Sizes y.map = sizes_of y.map range in
          let code : layer_words + y.map.code_words ≤ globals_at y.map = z.code in
          let globals : globals_at y.map + y.map.global_words ≤ tables_at y.map = z.globals in
          let tables : tables_at y.map + y.map.users * y.map.params.pages ≤ frame_table_at y.map = z.tables in
          let table : frame_table_at y.map + 8 * (y.map.params.frames + 1) ≤ zero_frame_at y.map = z.table in
          omega arith;
      back = back;
    }) calm
