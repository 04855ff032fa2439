-- Where the machine is at the entry of a primitive: no step of a user and no step that begins a turn leads there.
use Rattle.std.proofs.Common.{◌≡◌, ◌≢◌, ◌⊎◌, inl, inr, ℕ, zero, suc, ◌/◌, ◌<◌, ◌&&◌, Bool, true, false, not, ◌||◌, Option, Some, None, refl, sym, ap, ap₂, ◌∙◌, subst, ⊎_elim, arith, ne_eqb, eqb-true}
use Rattle.std.specs.Prelude.{◌==◌, nat_lt, length, drop, ◌++◌, ◌∷◌, [], slice_index, slice_set}
use Rattle.std.proofs.lemmas.Bool.{cond_both, cond-true, cond-false}
use Rattle.mips_table.specs.declared.cause.Cause.TheVariants as causes
use Rattle.mips_table.specs.Decoding.{decoding}
use Rattle.mips_table.specs.Device.{Environment, POWER, port_write}
use Rattle.mips_table.specs.Processor.{Move, Ran, Loaded, Stored, Trapped, Privileged, is_aligned, move}
use Rattle.mips_table.specs.declared.special.TheConstants.{MODE}
use Rattle.mips_table.specs.Machine.{State, LOG, INPUT, LOG_ROOM, Coming, Interrupt, Done, in_system, located, after_read, after_read_at, port_written, written_at, access, privileged, moved, fetch, fetched, coming, come_to, latched, step_ended, step}
use Rattle.mips_table.specs.Turns.{is_on, in_user, handled, begins_turn}
use Rattle.layer_contract.specs.declared.entry.Entry.TheVariants.{Primitive}
use Rattle.layer_contract.specs.declared.registers.TheConstants.{RETURN}
use Rattle.layer_contract.specs.Layer.{layer_entry}
use Rattle.layer_contract.specs.Calls.{entered}
use Rattle.boot_turns.proofs.MasksAndTimes.{both_left, both_right, on_of, on_is}

pub third_false : (a b c : Bool) → c ≡ false → (a && b && c) ≡ false
third_false true true c e = e
third_false true false c e = refl
third_false false b c e = refl

pub second_false : (a b c : Bool) → b ≡ false → (a && b && c) ≡ false
second_false true b c e = ap (λ b. true && b && c) e
second_false false b c e = refl

pub first_false : (a b c : Bool) → a ≡ false → (a && b && c) ≡ false
first_false a b c e = ap (λ a. a && b && c) e

pub all_true : (a b c : Bool) → a ≡ true → b ≡ true → c ≡ true → (a && b && c) ≡ true
all_true a b c e f g = ap₂ (λ a b. a && b && c) e f ∙ g

-- whether the machine is at the entry of primitive k
abbrev pub is_at : ℕ → State → Bool
is_at k s = is_on s && in_system s.special && s.cpu.pc == layer_entry (Primitive k)

entered_by : (n : ℕ) (s : State) → ((k : ℕ) → k < n → is_at k s ≡ false) → entered n s ≡ None
entered_by zero s h = refl
entered_by (suc k) s h = cond-false (is_at k s) (Some (slice_index s.cpu.regs RETURN)) (entered k s) (h k (omega arith)) ∙ entered_by k s (λ i l. h i (omega (arith, l)))

-- none of the entries is here
pub entered_none : (n : ℕ) (s : State) → ((k : ℕ) → k < n → s.cpu.pc ≢ layer_entry (Primitive k)) → entered n s ≡ None
entered_none n s h = entered_by n s (λ k l. third_false (is_on s) (in_system s.special) (s.cpu.pc == layer_entry (Primitive k)) (ne_eqb s.cpu.pc (layer_entry (Primitive k)) (h k l)))

pub entered_user : (n : ℕ) (s : State) → in_system s.special ≡ false → entered n s ≡ None
entered_user n s e = entered_by n s (λ k l. second_false (is_on s) (in_system s.special) (s.cpu.pc == layer_entry (Primitive k)) e)

pub entered_off : (n : ℕ) (s : State) → is_on s ≡ false → entered n s ≡ None
entered_off n s e = entered_by n s (λ k l. first_false (is_on s) (in_system s.special) (s.cpu.pc == layer_entry (Primitive k)) e)

-- user mode is not system mode
pub not_system : (s : State) → in_user s ≡ true → in_system s.special ≡ false
not_system s e = ap (λ m. m == 0) (eqb-true (slice_index s.special MODE) 1 e)

-- an instruction that is done leaves the special registers, unless it is privileged
abbrev Apart : State → Coming → Type 0
Apart s (Interrupt before cause edata epc) = Unit {0}
Apart s (Done after) = after.special ≡ s.special

after_read_apart : (s : State) (k : ℕ) → (after_read s k).special ≡ s.special
after_read_apart s k = cond_both (nat_lt k (length s.memory)) s _ (λ (r : State). r.special ≡ s.special) (λ _. refl)
    (λ _. cond_both (k == INPUT) (record s { input = drop 1 s.input }) s (λ (r : State). r.special ≡ s.special) (λ _. refl) (λ _. refl))

after_read_at_apart : (s : State) (o : Option ℕ) → (after_read_at s o).special ≡ s.special
after_read_at_apart s None = refl
after_read_at_apart s (Some address) = after_read_apart s _

port_written_apart : (x : Environment) (s : State) (k value : ℕ) → (port_written x s k value).special ≡ s.special
port_written_apart x s k value =
    cond_both (k == POWER) (record s { off = Some value }) _ (λ (r : State). r.special ≡ s.special) (λ _. refl)
    (λ _. cond_both (k == LOG) _ (record s { device = port_write x.busy x.count s.device k value }) (λ (r : State). r.special ≡ s.special)
    (λ _. cond_both (nat_lt (length s.log) LOG_ROOM) (record s { log = s.log ++ value ∷ [] }) s (λ (r : State). r.special ≡ s.special) (λ _. refl) (λ _. refl)) (λ _. refl))

written_at_apart : (x : Environment) (s : State) (o : Option ℕ) (value : ℕ) → (written_at x s o value).special ≡ s.special
written_at_apart x s None value = refl
written_at_apart x s (Some address) value = cond_both (nat_lt (address / 4) (length s.memory)) (record s { memory = slice_set s.memory (address / 4) value }) (port_written x s (address / 4) value) (λ (r : State). r.special ≡ s.special)
    (λ _. refl) (λ _. port_written_apart x s (address / 4) value)

moved_apart : (x : Environment) (s : State) (m : Move) → in_system s.special ≡ false → Apart s (moved x s m)
moved_apart x s (Ran c) u = refl
moved_apart x s (Loaded c register address) u = after_read_at_apart s (located s false address)
moved_apart x s (Stored c address value) u = written_at_apart x s (located s true address) value
moved_apart x s (Trapped cause edata epc) u = tt
moved_apart x s (Privileged word) u = subst (Apart s) (sym (cond-false (in_system s.special) (privileged s word (decoding word)) (Interrupt s causes.Illegal word s.cpu.pc) u)) tt

fetched_apart : (s : State) → (fetched s).special ≡ s.special
fetched_apart s = cond_both (is_aligned s.cpu.pc) (after_read_at s (located s false s.cpu.pc)) s (λ (r : State). r.special ≡ s.special) (λ _. after_read_at_apart s _) (λ _. refl)

from_fetched : (s r : State) (o : Coming) → r.special ≡ s.special → Apart r o → Apart s o
from_fetched s r (Interrupt before cause edata epc) e h = tt
from_fetched s r (Done after) e h = h ∙ e

coming_apart : (x : Environment) (s : State) → in_system s.special ≡ false → Apart s (coming x s)
coming_apart x s u =
    cond_both s.reset (Interrupt s causes.Reset 0 s.cpu.pc) _ (Apart s) (λ _. tt)
    (λ _. cond_both _ (Interrupt s causes.External s.mask s.cpu.pc) (moved x (fetched s) (move (access s) s.cpu (fetch s))) (Apart s) (λ _. tt)
    (λ _. from_fetched s (fetched s) _ (fetched_apart s) (moved_apart x (fetched s) _ (ap in_system (fetched_apart s) ∙ u))))

vector : (k : ℕ) → 0 ≢ layer_entry (Primitive k)
vector k e = absurd (omega (arith, e))

come_none : (n : ℕ) (s : State) (o : Coming) → in_system s.special ≡ false → Apart s o → entered n (step_ended (come_to o)) ≡ None
come_none n s (Interrupt before cause edata epc) u h = entered_none n (step_ended (come_to (Interrupt before cause edata epc))) (λ k l. vector k)
come_none n s (Done after) u h = entered_user n (step_ended after) (ap in_system h ∙ u)

-- a step in user mode leads to no entry, nor does the reset
pub user_enters : (n : ℕ) (x : Environment) (s : State) → s.off ≡ None → in_user s ≡ true → entered n (step x s) ≡ None
user_enters n x s on u = ap (entered n) (on_is x s on) ∙ come_none n (latched x s) (coming x (latched x s)) (not_system s u) (coming_apart x (latched x s) (not_system s u))

reset_enters : (n : ℕ) (x : Environment) (s : State) → s.off ≡ None → s.reset ≡ true → entered n (step x s) ≡ None
reset_enters n x s on r =
    ap (entered n) (on_is x s on ∙ ap (λ o. step_ended (come_to o)) (cond-true s.reset (Interrupt (latched x s) causes.Reset 0 s.cpu.pc) _ r)) ∙ entered_none n _ (λ k l. vector k)

either : (a b : Bool) → (a || b) ≡ true → (a ≡ true) ⊎ (b ≡ true)
either true b e = inl refl
either false b e = inr e

begins_is : (x : Environment) (s : State) → begins_turn x s ≡ true → (is_on s && (s.reset || (in_user s && not (handled x s)))) ≡ true
unfolding begins_turn
begins_is x s e = e

-- the step that begins a turn leads to no entry
pub begins_enters : (n : ℕ) (x : Environment) (s : State) → begins_turn x s ≡ true → entered n (step x s) ≡ None
begins_enters n x s b =
    let on = on_of s (both_left (is_on s) _ (begins_is x s b)) in
    ⊎_elim
    (λ (r : s.reset ≡ true). reset_enters n x s on r)
    (λ (r : (in_user s && not (handled x s)) ≡ true). user_enters n x s on (both_left _ _ r))
    (either s.reset _ (both_right (is_on s) _ (begins_is x s b)))
