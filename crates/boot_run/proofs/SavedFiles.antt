-- What is saved of a run of a system is what a file that is taken up may hold.
use Rattle.std.proofs.Common.{◌≡◌, ℕ, zero, suc, ◌+◌, ◌-◌, ◌*◌, ◌^◌, ◌<◌, ◌≤◌, Bool, true, false, not, List, length, replicate, refl, ap, ◌∙◌, subst, ⊎_elim, arith, length-append, lt-ltb, le-ltb}
use Rattle.std.specs.Prelude.{is_some, ◌&&◌, ◌||◌, nat_lt, nat_le, Option}
use Rattle.std.proofs.lemmas.Bool.{cases_lt}
use Rattle.std.proofs.lemmas.List.{length-replicate}
use Rattle.mips_table.specs.Device.{Environment}
use Rattle.mips_table.specs.Machine.{State, run}
use Rattle.mips_table.specs.Turns.{is_on, SumLaws, TurnLaws}
use Rattle.mips_table.specs.Steady.{StartSteady, StaysSteady}
use Rattle.mips_machine.specs.Steps.{outside_of}
use Rattle.layer_map.specs.Map.{Map, MapInRange, PartsInOrder, MemoryIsWhole, block_at, layer_words, memory_words, memory_frames}
use Rattle.c0_tree.specs.Tree.{CUnit}
use Rattle.c0_tree.specs.View.{unit_view}
use Rattle.c0_meaning.specs.TypedState.{IsTypedState}
use Rattle.cvm_model.specs.Cvm.{Boot, System, Status, map_of}
use Rattle.cvm_model.specs.Primitives.{no_flat}
use Rattle.cvm_model.specs.Stands.{RunningRelation, is_own}
use Rattle.layer_contract.specs.Layer.{Rests}
use Rattle.layer_contract.specs.Follows.{site_of, loaded, loaded_memory}
use Rattle.layer_contract.specs.Starts.{user_sectors}
use Rattle.boot_turns.specs.Premises.{StartsFrom}
use Rattle.boot_turns.specs.RunMachines.{MachinesRun}
use Rattle.boot_turns.specs.TurnEnds.{Stood}
use Rattle.saved_file.specs.Resumable.{is_left_out}
use Rattle.saved_file.specs.Answer.{IsOfRun}
use Rattle.boot_run.specs.Loading.{system_of}
use Rattle.boot_run.specs.Resuming.{IsFirst}
use Rattle.boot_run.specs.SavedFiles.{wanted_of, SavedBootsAreOfRuns}
use Rattle.boot_run.specs.SavedRuns.{SavedAt}
use Rattle.boot_run.proofs.SavedTakenUp.{stood_there, steady, stands, can, user_mode, goes_on}
use Rattle.boot_run.proofs.BootsRejoin.{first_of}
use Rattle.boot_run.proofs.MemoryKeepsItsSize.{stays_whole}

-- A WORD THAT IS NOT LEFT OUT is none of the layer's own
neither : (a b : Bool) → (a || b) ≡ false → (a ≡ false) × (b ≡ false)
neither true b h = absurd (cc)
neither false b h = (refl, h)

both_none : (a b : Bool) → a ≡ false → b ≡ false → (a || b) ≡ false
both_none true b e f = absurd (cc)
both_none false b e f = f

first_none : (a b : Bool) → (a && b) ≡ false → b ≡ true → a ≡ false
first_none true b h e = absurd (cc)
first_none false b h e = refl

and_none : (a b : Bool) → b ≡ false → (a && b) ≡ false
and_none true b e = e
and_none false b e = refl

left_none : (a b : Bool) → a ≡ false → (a && b) ≡ false
left_none true b e = absurd (cc)
left_none false b e = refl

own_is : (m : Map) (k : ℕ) → m.users ≤ 64 → is_left_out k ≡ false → is_own m k ≡ false
own_is m k few h =
    let parts = neither (nat_lt 1023 k && nat_lt k 2048) (nat_lt 12287 k && nat_lt k 16384) h in
    both_none (nat_le 1024 k && nat_lt k 2048) (nat_le (block_at 1) k && nat_lt k (block_at (m.users + 1))) parts.0
    (⊎_elim
    (λ (lt : k < block_at (m.users + 1)).
    left_none (nat_le (block_at 1) k) (nat_lt k (block_at (m.users + 1))) (first_none (nat_lt 12287 k) (nat_lt k 16384) parts.1 (lt-ltb k 16384 (omega (arith, lt, few)))))
    (λ (ge : block_at (m.users + 1) ≤ k). and_none (nat_le (block_at 1) k) (nat_lt k (block_at (m.users + 1))) (le-ltb k (block_at (m.users + 1)) ge))
    (cases_lt k (block_at (m.users + 1))))

-- the linked words lie before the end of memory
ends_behind : (len globals heap stack tables table empty gw hw sw tw fw more : ℕ) → layer_words + (len - layer_words) ≤ globals → globals + gw ≤ heap → heap + hw ≤ stack → stack + sw ≤ tables → tables + tw ≤ table →
    table + fw ≤ empty → len ≤ empty + 1024 + more
ends_behind len globals heap stack tables table empty gw hw sw tw fw more a b c d e f = omega (arith, a, b, c, d, e, f)

room : (b : Boot) → PartsInOrder (map_of b) → length b.words ≤ memory_words (map_of b)
room b o = ends_behind (length b.words) _ _ _ _ _ _ _ _ _ _ _ (1024 * b.params.frames) o.code o.globals o.heap o.stack o.tables o.frame_table

filled_up : (all len filling total frames : ℕ) → all ≡ len + filling → filling ≡ total - len → len ≤ total → frames * 1024 ≡ total → all ≡ 1024 * frames
filled_up all len filling total frames a b c d = omega (arith, a, b, c, d)

-- the loaded memory is the map's
whole_memory : (b : Boot) → PartsInOrder (map_of b) → MemoryIsWhole (map_of b) → length (loaded_memory b) ≡ 1024 * memory_frames (map_of b)
whole_memory b order whole =
    filled_up (length (loaded_memory b)) (length b.words) (length (replicate {A = ℕ} (memory_words (map_of b) - length b.words) 0)) (memory_words (map_of b)) (memory_frames (map_of b))
    (length-append b.words (replicate (memory_words (map_of b) - length b.words) 0))
    (length-replicate {A = ℕ} (memory_words (map_of b) - length b.words) 0) (room b order) whole.frames

-- what the laws say of machines, of runs and of maps
pub record MachineLaws : Type 0 where
  pub begins : StartSteady
  pub stays : StaysSteady
  pub sums : SumLaws
  pub counts : TurnLaws
  pub runs : (u : CUnit) → MachinesRun (IsTypedState u)
  pub order : (m : Map) → MapInRange m → PartsInOrder m
  pub whole : (m : Map) → MapInRange m → MemoryIsWhole m

-- THE MACHINE that was saved of a run of a system is one of its run
module _ (law : MachineLaws) (u : CUnit) (x : Environment) (y : System) (old : List (List ℕ)) (late held : ℕ) (starts : StartsFrom (IsTypedState u) x y (loaded y old) late held) where
  abbrev s0 : State
  s0 = loaded y old

  pub of_system : (few spent turns : ℕ) (words : List ℕ) (left : List (List ℕ)) (shown : List ℕ) (a : SavedAt x y s0 (suc few) spent words left shown) → suc few ≤ turns → turns < 2 ^ 32 → spent < 2 ^ 64 →
      IsOfRun x (wanted_of y.boot y.input turns) (run x s0 a.at) (suc few) a.past.core.current
  of_system few spent turns words left shown a more bits limit =
      let first : IsFirst y s0 = first_of law.begins y old in
      let fits = starts.boots.fits in
      let there : Stood x y s0 (suc few) a.at a.past = stood_there law.counts law.sums x y s0 late held (law.runs u x y s0 late held starts) few spent words left shown a in
      let st : RunningRelation x (site_of y.boot) (run x s0 a.at) a.past.status a.past.core = stands law.stays x y s0 few spent words left shown first a there in
      let on : is_on (run x s0 a.at) ≡ true = ap (λ (o : Option ℕ). not (is_some o)) a.on in
      let begun = first.time in
      let time = law.sums.time x s0 a.at on in
      let within = a.within in
      let memory = stays_whole x s0 a.at ∙ whole_memory y.boot (law.order (map_of y.boot) fits.range) (law.whole (map_of y.boot) fits.range) in
      let most = (law.whole (map_of y.boot) fits.range).most in
      let sixty = fits.range.users in
      let running = goes_on a.past.status (run x s0 a.at) a.on there.rests.0 in
      let runs = st.users.runs (subst (λ (status : Status). Rests status (run x s0 a.at)) running there.rests.0) in
      let from = runs.user.0 in
      let to = runs.user.1 in
      let many = st.whole.users in
      let few_inputs = fits.core.input in
      record {
        fits = st.fits;
        steady = steady law.stays x y s0 few spent words left shown first a there;
        can = can law.stays x y s0 few spent words left shown first a there;
        mode = user_mode law.stays x y s0 few spent words left shown first a there;
        time = omega (arith, time, begun, within, limit);
        inputs = omega (arith, few_inputs);
        frames = memory;
        few = omega (arith, most);
        a_turn = omega arith;
        enough = more;
        bits = omega (arith, more, bits);
        a_user = from;
        of_users = omega (arith, to, many);
        users = omega (arith, to, many, sixty);
        linked = λ place lt out. st.kernel.linked place lt (own_is (map_of y.boot) place sixty out);
        sizes = λ u low high.
            let known : u ≤ length a.past.core.users = omega (arith, high, many) in
            let size = st.users.sizes u (low, known) in
            let few = (st.whole.each (u - 1) no_flat (omega (arith, low, known))).pages in
            omega (arith, size, few);
      }

pub are_of_runs : MachineLaws → SavedBootsAreOfRuns
are_of_runs law b rows count old left (suc k) spent turns words shown p a some more bits limit =
    let x = outside_of rows count in
    let y = system_of b rows in
    of_system law (unit_view b.unit) x y old 1 (user_sectors y) p.starts k spent turns words left shown a more bits limit
are_of_runs law b rows count old left zero spent turns words shown p a some more bits limit = absurd (omega (arith, some))
