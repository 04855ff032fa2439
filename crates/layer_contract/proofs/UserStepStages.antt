-- A user's step, stage by stage: the fetch, the instruction, the load and the store.
use Rattle.std.proofs.Common.{◌≡◌, ℕ, ◌+◌, ◌*◌, ◌/◌, ◌%◌, ◌<◌, ◌⊎◌, Option, Some, None, Bool, true, false, nat_lt, length, slice_index, slice_set, refl, sym, ap, ◌∙◌, subst, inl, inr, arith, lt-ltb, ltb-true, ne_eqb}
use Rattle.std.specs.Prelude.{is_some}
use Rattle.std.proofs.lemmas.Bool.{cond-true, cond-false}
use Rattle.mips_table.specs.declared.inst.Inst.{Inst}
use Rattle.mips_table.specs.declared.cause.Cause.{Cause}
use Rattle.mips_table.specs.declared.cause.Cause.TheVariants as causes
use Rattle.mips_table.specs.declared.effect.Effect.{Effect}
use Rattle.mips_table.specs.declared.effect.Effect.TheVariants.{Set, Wide, Load, Store, Overflow, Call, System}
use Rattle.mips_table.specs.Decoding.{decoding}
use Rattle.mips_table.specs.Effect.{next_address}
use Rattle.mips_table.specs.Processor.{is_aligned, went_on, advanced, effect_on}
use Rattle.mips_table.specs.Device.{Environment, settled, disk_counted}
use Rattle.mips_table.specs.declared.special.TheConstants.{PTL}
use Rattle.mips_table.specs.Machine.{cause_number, in_system}
use Rattle.mips_table.specs.Processor.{Cpu}
use Rattle.mips_table.specs.Processor.{Access, Move, Ran, Loaded, Stored, Trapped, Privileged, accessed, performed, executed, move, with_loaded}
use Rattle.mips_table.specs.Flat.{Flat, VStep, Goes, Trap, flat_access, after_move}
use Rattle.mips_table.specs.Machine.{State, Coming, Interrupt, Done, located, read_at, after_read_at, written_at, access, moved, fetched, latched, step_ended}
use Rattle.mips_table.specs.Turns.{is_handled}
use Rattle.page_model.specs.Paging.{Protected, MapsTo}
use Rattle.cvm_model.specs.Kernel.{Core}
use Rattle.cvm_model.specs.Primitives.{user_of}
use Rattle.cvm_model.specs.Paged.{paged_of}
use Rattle.cvm_model.specs.Stands.{Site}
use Rattle.layer_contract.specs.Layer.{page_at}
use Rattle.layer_contract.proofs.AddressesStand.{own, Place, Past, Faults, There, Known, place}
use Rattle.layer_contract.proofs.WordsInFrames.{word_is}
use Rattle.layer_contract.proofs.UntrappedSteps.{After}
use Rattle.layer_contract.proofs.PlainSteps.{ran, stores}

-- an access, by its tests
misaligned : (may : Bool) (m r : Cause) (a pc : ℕ) (go : Move) → is_aligned a ≡ false → accessed may m r a pc go ≡ Trapped m a pc
misaligned may m r a pc go e = rw e refl

refused : (may : Bool) (m r : Cause) (a pc : ℕ) (go : Move) → is_aligned a ≡ true → may ≡ false → accessed may m r a pc go ≡ Trapped r a pc
refused may m r a pc go e f = rw (e, f) refl

goes : (may : Bool) (m r : Cause) (a pc : ℕ) (go : Move) → is_aligned a ≡ true → may ≡ true → accessed may m r a pc go ≡ go
goes may m r a pc go e f = rw (e, f) refl

-- a read of memory takes nothing of the input, and a write to memory changes no port
read_keeps : (s : State) (a : ℕ) → nat_lt (a / 4) (length s.memory) ≡ true → after_read_at s (Some a) ≡ s
read_keeps s a e = rw e refl

reads : (s : State) (a : ℕ) → nat_lt (a / 4) (length s.memory) ≡ true → read_at s (Some a) ≡ slice_index s.memory (a / 4)
reads s a e = rw e refl

writes : (x : Environment) (s : State) (a v : ℕ) → nat_lt (a / 4) (length s.memory) ≡ true → written_at x s (Some a) v ≡ record s { memory = slice_set s.memory (a / 4) v }
writes x s a v e = rw e refl

module _ (x : Environment) (y : Site) (s : State) (c : Core) (k : Known x y s c) where
  -- the current user's machine
  abbrev pub machine_of : Flat
  machine_of = user_of c.users c.current

  -- what the step comes to is what the flat machine does
  abbrev pub Good : Coming → VStep → Type 0
  Good o (Goes f) = (t : State) × (o ≡ Done t) × After x y s (step_ended t) c f × (t.mask ≡ (latched x s).mask)
  Good o (Trap f cause edata) = (before : State) × (epc : ℕ) × (o ≡ Interrupt before cause edata epc) × (f ≡ record machine_of { cpu = record machine_of.cpu { pc = epc } }) × (before.device ≡ s.device)

  -- or it is a handled fault, taken at the instruction, with nothing changed
  abbrev pub Refused : Coming → Type 0
  Refused o = (why : Cause) × (edata : ℕ) × (o ≡ Interrupt (latched x s) why edata s.cpu.pc) × ((cause_number why ≡ 3) ⊎ (cause_number why ≡ 8)) × (nat_lt (edata / 4096) (slice_index s.special PTL) ≡ true) × (is_handled s o ≡ true)

  abbrev pub Follows : Coming → VStep → Type 0
  Follows o v = Refused o ⊎ Good o v

  -- what the step comes to, and what the flat machine does, by a move of each
  abbrev Both : Move → Move → Type 0
  Both m n = Follows (moved x (latched x s) m) (after_move machine_of n)

  both : (m m' n n' : Move) → m ≡ m' → n ≡ n' → Both m' n' → Both m n
  both m m' n n' e f b = subst (λ m. Both m n) (sym e) (subst (λ n. Both m' n) (sym f) b)

  -- a page that isn't to be had
  fault : (m : Move) (why : Cause) (edata : ℕ) → ((cause_number why ≡ 3) ⊎ (cause_number why ≡ 8)) → m ≡ Trapped why edata s.cpu.pc → nat_lt (edata / 4096) (slice_index s.special PTL) ≡ true →
      is_handled s (Interrupt (latched x s) why edata s.cpu.pc) ≡ true → Refused (moved x (latched x s) m)
  fault m why edata number is page handled =
      (why, edata, ap (λ m. moved x (latched x s) m) is, number, page, ap (λ m. is_handled s (moved x (latched x s) m)) is ∙ handled)

  idle : disk_counted s.device ≡ s.device
  idle = ap (λ p. settled p s.device) k.stands.idle

  -- traps
  traps : (cause : Cause) (edata epc : ℕ) → Both (Trapped cause edata epc) (Trapped cause edata epc)
  traps cause edata epc = inr (latched x s, epc, refl, refl, refl)

  -- the processor goes on
  runs_on : (to : Cpu) → Both (Ran to) (Ran to)
  runs_on to = inr (record (latched x s) { cpu = to }, refl, ran x y s c k to (disk_counted s.device) idle (latched x s).mask (s.time + 1), refl)

  asks : (word : ℕ) → Both (Privileged word) (Privileged word)
  asks word =
      let user : in_system s.special ≡ false = ne_eqb _ _ (λ e. absurd (omega (arith, k.mode, e))) in
      let is : moved x (latched x s) (Privileged word) ≡ Interrupt (latched x s) causes.Illegal word s.cpu.pc = rw user refl in
      inr (latched x s, s.cpu.pc, is, ap (λ pc. record machine_of { cpu = record machine_of.cpu { pc = pc } }) (ap (λ (c : Cpu). c.pc) (sym k.runs.cpu)), refl)

  -- a load of a word that is in a frame
  had_load : (to : Cpu) (register address : ℕ) → address / 4 < length (own c) → (at frame : ℕ) → located s false address ≡ Some at →
      MapsTo ((paged_of y.map s).entry (page_at y.map c address)) frame → at / 4 ≡ 1024 * frame + address % 4096 / 4 → Both (Loaded to register address) (Loaded to register address)
  had_load to register address lt at frame is names there =
      let word = word_is x y s c k address lt frame names at there in
      let inside : nat_lt (at / 4) (length s.memory) ≡ true = lt-ltb _ _ word.0 in
      let same : moved x (latched x s) (Loaded to register address) ≡ Done (record (latched x s) { cpu = with_loaded to register (slice_index (own c) (address / 4)) }) =
      ap (λ o. Done (record (after_read_at (latched x s) o) { cpu = with_loaded to register (read_at (latched x s) o) })) is
      ∙ ap (λ z. Done (record z { cpu = with_loaded to register (read_at (latched x s) (Some at)) })) (read_keeps (latched x s) at inside)
      ∙ ap (λ w. Done (record (latched x s) { cpu = with_loaded to register w })) (reads (latched x s) at inside ∙ word.1) in
      subst (λ o. Follows o (Goes (record machine_of { cpu = with_loaded to register (slice_index (own c) (address / 4)) }))) (sym same) (runs_on (with_loaded to register (slice_index (own c) (address / 4))))

  -- a store to a word that is in a frame, through an unprotected entry
  had_store : (to : Cpu) (address value : ℕ) → address / 4 < length (own c) → (at frame : ℕ) → located s true address ≡ Some at →
      MapsTo ((paged_of y.map s).entry (page_at y.map c address)) frame → (Protected ((paged_of y.map s).entry (page_at y.map c address)) → ⊥) → at / 4 ≡ 1024 * frame + address % 4096 / 4 →
      Both (Stored to address value) (Stored to address value)
  had_store to address value lt at frame is names free there =
      let inside : nat_lt (at / 4) (length s.memory) ≡ true = lt-ltb _ _ (word_is x y s c k address lt frame names at there).0 in
      let same : moved x (latched x s) (Stored to address value) ≡ Done (record (latched x s) { memory = slice_set s.memory (at / 4) value; cpu = to }) =
      ap (λ o. Done (record (written_at x (latched x s) o value) { cpu = to })) is
      ∙ ap (λ z. Done (record z { cpu = to })) (writes x (latched x s) at value inside) in
      inr (
        record (latched x s) { memory = slice_set s.memory (at / 4) value; cpu = to },
        same,
        stores x y s c k to (disk_counted s.device) idle (latched x s).mask (s.time + 1) address value lt frame at names free there,
        refl,
      )

  -- a load
  loads : (to : Cpu) (register address : ℕ) → is_aligned address ≡ true →
      Both (accessed (is_some (located s false address)) causes.DataAlign causes.DataFault address s.cpu.pc (Loaded to register address))
      (accessed (nat_lt (address / 4) (length (own c))) causes.DataAlign causes.DataFault address s.cpu.pc (Loaded to register address))
  loads to register address aligned = by (place x y s c k false address)
    where
      by : Place y.map s c false address → Both (accessed (is_some (located s false address)) causes.DataAlign causes.DataFault address s.cpu.pc (Loaded to register address))
          (accessed (nat_lt (address / 4) (length (own c))) causes.DataAlign causes.DataFault address s.cpu.pc (Loaded to register address))
      by (Past e is) = both _ (Trapped causes.DataFault address s.cpu.pc) _ (Trapped causes.DataFault address s.cpu.pc)
          (refused _ causes.DataAlign causes.DataFault address s.cpu.pc (Loaded to register address) aligned (ap is_some is))
          (refused _ causes.DataAlign causes.DataFault address s.cpu.pc (Loaded to register address) aligned e)
          (traps causes.DataFault address s.cpu.pc)
      by (Faults e h is) = inl (fault _ causes.DataFault address (inr refl) (refused _ causes.DataAlign causes.DataFault address s.cpu.pc (Loaded to register address) aligned (ap is_some is)) h h)
      by (There e at frame is names free there) = both _ (Loaded to register address) _ (Loaded to register address)
          (goes _ causes.DataAlign causes.DataFault address s.cpu.pc (Loaded to register address) aligned (ap is_some is))
          (goes _ causes.DataAlign causes.DataFault address s.cpu.pc (Loaded to register address) aligned e)
          (had_load to register address (ltb-true _ _ e) at frame is names there)

  saves : (to : Cpu) (address value : ℕ) → is_aligned address ≡ true →
      Both (accessed (is_some (located s true address)) causes.DataAlign causes.DataFault address s.cpu.pc (Stored to address value))
      (accessed (nat_lt (address / 4) (length (own c))) causes.DataAlign causes.DataFault address s.cpu.pc (Stored to address value))
  saves to address value aligned = by (place x y s c k true address)
    where
      by : Place y.map s c true address → Both (accessed (is_some (located s true address)) causes.DataAlign causes.DataFault address s.cpu.pc (Stored to address value))
          (accessed (nat_lt (address / 4) (length (own c))) causes.DataAlign causes.DataFault address s.cpu.pc (Stored to address value))
      by (Past e is) = both _ (Trapped causes.DataFault address s.cpu.pc) _ (Trapped causes.DataFault address s.cpu.pc)
          (refused _ causes.DataAlign causes.DataFault address s.cpu.pc (Stored to address value) aligned (ap is_some is))
          (refused _ causes.DataAlign causes.DataFault address s.cpu.pc (Stored to address value) aligned e)
          (traps causes.DataFault address s.cpu.pc)
      by (Faults e h is) = inl (fault _ causes.DataFault address (inr refl) (refused _ causes.DataAlign causes.DataFault address s.cpu.pc (Stored to address value) aligned (ap is_some is)) h h)
      by (There e at frame is names free there) = both _ (Stored to address value) _ (Stored to address value)
          (goes _ causes.DataAlign causes.DataFault address s.cpu.pc (Stored to address value) aligned (ap is_some is))
          (goes _ causes.DataAlign causes.DataFault address s.cpu.pc (Stored to address value) aligned e)
          (had_store to address value (ltb-true _ _ e) at frame is names (free refl) there)

  -- the accesses of each
  abbrev A : Access
  A = access (latched x s)

  abbrev B : Access
  B = flat_access (own c)

  -- what an access that isn't aligned comes to
  crooked : (may may' : Bool) (m r : Cause) (address : ℕ) (go go' : Move) → is_aligned address ≡ false → Both (accessed may m r address s.cpu.pc go) (accessed may' m r address s.cpu.pc go')
  crooked may may' m r address go go' e = both _ (Trapped m address s.cpu.pc) _ (Trapped m address s.cpu.pc) (misaligned may m r address s.cpu.pc go e) (misaligned may' m r address s.cpu.pc go' e) (traps m address s.cpu.pc)

  -- the effect of an instruction
  performs : (word : ℕ) (e : Effect) → Both (performed A s.cpu word e) (performed B s.cpu word e)
  performs word (Set register value to) = runs_on (went_on s.cpu register value to)
  performs word (Wide hi lo to) = runs_on (record s.cpu { pc = to; hi = hi; lo = lo })
  performs word (Load register address) = by (is_aligned address) refl
    where
      by : (t : Bool) → is_aligned address ≡ t → Both (performed A s.cpu word (Load register address)) (performed B s.cpu word (Load register address))
      by true e = loads (advanced s.cpu) register address e
      by false e = crooked (is_some (located s false address)) (nat_lt (address / 4) (length (own c))) causes.DataAlign causes.DataFault address
          (Loaded (advanced s.cpu) register address) (Loaded (advanced s.cpu) register address) e
  performs word (Store address value) = by (is_aligned address) refl
    where
      by : (t : Bool) → is_aligned address ≡ t → Both (performed A s.cpu word (Store address value)) (performed B s.cpu word (Store address value))
      by true e = saves (advanced s.cpu) address value e
      by false e = crooked (is_some (located s true address)) (nat_lt (address / 4) (length (own c))) causes.DataAlign causes.DataFault address
          (Stored (advanced s.cpu) address value) (Stored (advanced s.cpu) address value) e
  performs word Overflow = traps causes.Overflow word (next_address s.cpu.pc)
  performs word Call = traps causes.Syscall word (next_address s.cpu.pc)
  performs word System = asks word

  -- the instruction
  executes : (word : ℕ) (o : Option Inst) → Both (executed A s.cpu word o) (executed B s.cpu word o)
  executes word None = traps causes.Illegal word s.cpu.pc
  executes word (Some i) = performs word (effect_on i s.cpu)

  -- the fetch and the instruction
  abbrev pc_word : ℕ
  pc_word = slice_index (own c) (s.cpu.pc / 4)

  abbrev machine_word : ℕ
  machine_word = read_at (latched x s) (located s false s.cpu.pc)

  pub follows : Follows (moved x (fetched (latched x s)) (move A s.cpu machine_word)) (after_move machine_of (move B s.cpu pc_word))
  follows = by (is_aligned s.cpu.pc) refl
    where
      with_fetch : (l : State) → fetched (latched x s) ≡ l → Follows (moved x l (move A s.cpu machine_word)) (after_move machine_of (move B s.cpu pc_word)) → Follows (moved x (fetched (latched x s)) (move A s.cpu machine_word)) (after_move machine_of (move B s.cpu pc_word))
      with_fetch l e f = subst (λ l. Follows (moved x l (move A s.cpu machine_word)) (after_move machine_of (move B s.cpu pc_word))) (sym e) f

      at : (o : Option ℕ) → is_aligned s.cpu.pc ≡ true → located s false s.cpu.pc ≡ o → fetched (latched x s) ≡ after_read_at (latched x s) o
      at o a e = cond-true (is_aligned s.cpu.pc) (after_read_at (latched x s) (located s false s.cpu.pc)) (latched x s) a ∙ ap (after_read_at (latched x s)) e

      placed : is_aligned s.cpu.pc ≡ true → Place y.map s c false s.cpu.pc → Follows (moved x (fetched (latched x s)) (move A s.cpu machine_word)) (after_move machine_of (move B s.cpu pc_word))
      placed a (Past e is) = with_fetch (latched x s) (at None a is) (both _ (Trapped causes.FetchFault s.cpu.pc s.cpu.pc) _ (Trapped causes.FetchFault s.cpu.pc s.cpu.pc)
          (refused _ causes.FetchAlign causes.FetchFault s.cpu.pc s.cpu.pc (executed A s.cpu machine_word (decoding machine_word)) a (ap is_some is))
          (refused _ causes.FetchAlign causes.FetchFault s.cpu.pc s.cpu.pc (executed B s.cpu pc_word (decoding pc_word)) a e)
          (traps causes.FetchFault s.cpu.pc s.cpu.pc))
      placed a (Faults e h is) = with_fetch (latched x s) (at None a is) (inl (fault _ causes.FetchFault s.cpu.pc (inl refl)
          (refused _ causes.FetchAlign causes.FetchFault s.cpu.pc s.cpu.pc (executed A s.cpu machine_word (decoding machine_word)) a (ap is_some is)) h h))
      placed a (There e pa frame is names free there) =
          let word = word_is x y s c k s.cpu.pc (ltb-true _ _ e) frame names pa there in
          let inside : nat_lt (pa / 4) (length s.memory) ≡ true = lt-ltb _ _ word.0 in
          let same : machine_word ≡ pc_word = ap (read_at (latched x s)) is ∙ reads (latched x s) pa inside ∙ word.1 in
          with_fetch (latched x s) (at (Some pa) a is ∙ read_keeps (latched x s) pa inside)
          (both _ (executed A s.cpu pc_word (decoding pc_word)) _ (executed B s.cpu pc_word (decoding pc_word))
          (goes _ causes.FetchAlign causes.FetchFault s.cpu.pc s.cpu.pc (executed A s.cpu machine_word (decoding machine_word)) a (ap is_some is) ∙ ap (λ w. executed A s.cpu w (decoding w)) same)
          (goes _ causes.FetchAlign causes.FetchFault s.cpu.pc s.cpu.pc (executed B s.cpu pc_word (decoding pc_word)) a e)
          (executes pc_word (decoding pc_word)))

      by : (t : Bool) → is_aligned s.cpu.pc ≡ t → Follows (moved x (fetched (latched x s)) (move A s.cpu machine_word)) (after_move machine_of (move B s.cpu pc_word))
      by true e = placed e (place x y s c k false s.cpu.pc)
      by false e = with_fetch (latched x s) (cond-false (is_aligned s.cpu.pc) (after_read_at (latched x s) (located s false s.cpu.pc)) (latched x s) e)
          (crooked (is_some (located s false s.cpu.pc)) (nat_lt (s.cpu.pc / 4) (length (own c))) causes.FetchAlign causes.FetchFault s.cpu.pc
          (executed A s.cpu machine_word (decoding machine_word)) (executed B s.cpu pc_word (decoding pc_word)) e)
