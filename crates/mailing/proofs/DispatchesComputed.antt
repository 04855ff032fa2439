-- What the kernel's code comes to, for each call that there is: with two users' machines, and data that are known as far as the code looks at them.
use Rattle.std.proofs.Common.{◌≡◌, ℕ, ◌≤◌, [], ◌∷◌, ◌++◌, true, false, nat_lt, Some, refl, arith}
use Rattle.std.specs.Prelude.{pos, slice_index}
use Rattle.std.specs.Ordering.{int_eq}
use Rattle.std.proofs.lemmas.Bool.{le-ltb, lt-ltb}
use Rattle.std.specs.Int.{int_wrap, w32, cast_unsigned}
use Rattle.mips_table.specs.Arith.{signed}
use Rattle.mips_table.specs.Flat.{Flat}
use Rattle.mips_table.specs.Machine.{Console, log_has_room}
use Rattle.layer_map.specs.declared.params.Params.{Params}
use Rattle.c0_meaning.specs.Value.{int, empty, part}
use Rattle.c0_meaning.specs.World.{Configuration, beginning}
use Rattle.c0_meaning.specs.Running.{begin}
use Rattle.c0_meaning.specs.Execution.{run_within}
use Rattle.cvm_model.specs.Kernel.{Core, Changes}
use Rattle.cvm_model.specs.KernelMeaning.{Machines, setting_of, machines_of, core_at}
use Rattle.cvm_model.proofs.KeepsSystem.{ComesWithin}
use Rattle.kernel_theorems.specs.UserRuns.{told}
use Rattle.mailing.specs.Tree.{kernel_tree}
use Rattle.mailing.specs.Property.{data_of}

-- a state by its parts
abbrev pub core_of : (box waits over : ℕ) → Flat → Flat → Console → ℕ → Core
core_of box waits over f g o u = record { c0 = data_of box waits over; users = f ∷ g ∷ []; console = o; current = u }

-- code that is done has answered so, and leaves this state, with the current user as it was
abbrev pub Gives : Core → ℕ → Core → Configuration Machines Changes → Type 0
Gives at answer after d = (d.answer ≡ Some (int (pos answer))) × (core_at at d ≡ after)

abbrev pub Code : Params → (cause edata : ℕ) → Core → (answer : ℕ) → Core → Type 0
Code p cause edata at answer after = ComesWithin 0 (run_within (setting_of kernel_tree p) 200
    (begin 0 (part (int (pos cause)) (part (int (signed edata)) (part (int (pos at.current)) empty))) ∷ []) (beginning (record at.c0 { frames = [] }) (machines_of p at))) (Gives at answer after)

-- the kernel's test of a number that isn't 0
positive : (n : ℕ) → 1 ≤ n → int_eq (pos n) (pos 0) ≡ false
positive n some = rw (le-ltb n 0 (omega arith), lt-ltb 0 n (omega (arith, some))) refl

module _ (p : Params) (has_room : nat_lt p.stack 11 ≡ false) (f g : Flat) (o : Console) where
  -- THE START
  pub starts : Code p 0 0 (core_of 0 0 0 f g o 0) 1 (core_of 0 0 0 f g o 0)
  unfolding int_wrap
  starts = rw has_room (omega arith, (refl, refl))

  -- LINES give the processor to the other user, where it neither waits nor has ended
  pub first_lets : (box mask : ℕ) → Code p 1 mask (core_of box 0 0 f g o 1) 2 (core_of box 0 0 f g o 1)
  unfolding int_wrap
  first_lets box mask = rw has_room (omega arith, (refl, refl))

  pub first_stays_waiting : (box mask : ℕ) → Code p 1 mask (core_of box 2 0 f g o 1) 1 (core_of box 2 0 f g o 1)
  unfolding int_wrap
  first_stays_waiting box mask = rw has_room (omega arith, (refl, refl))

  pub first_stays_over : (box mask : ℕ) → Code p 1 mask (core_of box 0 2 f g o 1) 1 (core_of box 0 2 f g o 1)
  unfolding int_wrap
  first_stays_over box mask = rw has_room (omega arith, (refl, refl))

  pub second_lets : (box mask : ℕ) → Code p 1 mask (core_of box 0 0 f g o 2) 1 (core_of box 0 0 f g o 2)
  unfolding int_wrap
  second_lets box mask = rw has_room (omega arith, (refl, refl))

  pub second_stays_waiting : (box mask : ℕ) → Code p 1 mask (core_of box 1 0 f g o 2) 2 (core_of box 1 0 f g o 2)
  unfolding int_wrap
  second_stays_waiting box mask = rw has_room (omega arith, (refl, refl))

  pub second_stays_over : (box mask : ℕ) → Code p 1 mask (core_of box 0 1 f g o 2) 2 (core_of box 0 1 f g o 2)
  unfolding int_wrap
  second_stays_over box mask = rw has_room (omega arith, (refl, refl))

  -- THE SENDER: its message goes into the mailbox; or to the receiver that waits; or it waits itself
  pub put : (n : ℕ) → 1 ≤ n → signed (slice_index f.cpu.regs 4) ≡ pos n → Code p 6 12 (core_of 0 0 0 f g o 1) 1 (core_of n 0 0 (told f 0) g o 1)
  unfolding int_wrap
  put n some is = rw (has_room, is) (omega arith, (refl, refl))

  pub deliver : (n : ℕ) → 1 ≤ n → signed (slice_index f.cpu.regs 4) ≡ pos n → Code p 6 12 (core_of 0 2 0 f g o 1) 1 (core_of 0 0 0 (told f 0) (told g n) o 1)
  unfolding int_wrap
  deliver n some is = rw (has_room, is, positive n some) (omega arith, (refl, refl))

  pub too_early : (b : ℕ) → 1 ≤ b → Code p 6 12 (core_of b 0 0 f g o 1) 2 (core_of b 1 0 f g o 1)
  unfolding int_wrap
  too_early b some = rw (has_room, positive b some, positive b some) (omega arith, (refl, refl))

  -- THE RECEIVER: it is answered with the message in the mailbox, into which that of a sender that waits goes then; or it waits
  pub take : (b : ℕ) → 1 ≤ b → signed (slice_index g.cpu.regs 4) ≡ pos 0 → Code p 6 12 (core_of b 0 0 f g o 2) 2 (core_of 0 0 0 f (told g b) o 2)
  unfolding int_wrap
  take b some is = rw (has_room, is, positive b some) (omega arith, (refl, refl))

  pub take_last : (b : ℕ) → 1 ≤ b → signed (slice_index g.cpu.regs 4) ≡ pos 0 → Code p 6 12 (core_of b 0 1 f g o 2) 2 (core_of 0 0 1 f (told g b) o 2)
  unfolding int_wrap
  take_last b some is = rw (has_room, is, positive b some) (omega arith, (refl, refl))

  pub take_and_put : (b n : ℕ) → 1 ≤ b → signed (slice_index g.cpu.regs 4) ≡ pos 0 → signed (slice_index f.cpu.regs 4) ≡ pos n → 1 ≤ n
      → Code p 6 12 (core_of b 1 0 f g o 2) 2 (core_of n 0 0 (told f 0) (told g b) o 2)
  unfolding int_wrap
  take_and_put b n some is brings full = rw (has_room, is, positive b some, brings) (omega arith, (refl, refl))

  pub nothing_there : signed (slice_index g.cpu.regs 4) ≡ pos 0 → Code p 6 12 (core_of 0 0 0 f g o 2) 1 (core_of 0 2 0 f g o 2)
  unfolding int_wrap
  nothing_there is = rw (has_room, is) (omega arith, (refl, refl))

  -- a message is printed
  abbrev pub with_word : ℕ → Console
  with_word n = record o { log = o.log ++ cast_unsigned w32 (pos n) ∷ [] }

  pub print : (b n : ℕ) → 1 ≤ n → signed (slice_index g.cpu.regs 4) ≡ pos n → log_has_room o.log ≡ true → Code p 6 12 (core_of b 0 0 f g o 2) 2 (core_of b 0 0 f (told g 0) (with_word n) 2)
  unfolding int_wrap
  print b n some is fits = rw (has_room, is, positive n some, fits) (omega arith, (refl, refl))

  pub print_late : (b n : ℕ) → 1 ≤ n → signed (slice_index g.cpu.regs 4) ≡ pos n → log_has_room o.log ≡ true → Code p 6 12 (core_of b 0 1 f g o 2) 2 (core_of b 0 1 f (told g 0) (with_word n) 2)
  unfolding int_wrap
  print_late b n some is fits = rw (has_room, is, positive n some, fits) (omega arith, (refl, refl))

  pub print_while_full : (b n : ℕ) → 1 ≤ b → signed (slice_index g.cpu.regs 4) ≡ pos n → 1 ≤ n → log_has_room o.log ≡ true
      → Code p 6 12 (core_of b 1 0 f g o 2) 2 (core_of b 1 0 f (told g 0) (with_word n) 2)
  unfolding int_wrap
  print_while_full b n some is full fits = rw (has_room, is, positive n full, fits, positive b some) (omega arith, (refl, refl))

  -- THE ENDS
  pub first_ends : (b : ℕ) → Code p 6 76 (core_of b 0 0 f g o 1) 2 (core_of b 0 1 f g o 1)
  unfolding int_wrap
  first_ends b = rw has_room (omega arith, (refl, refl))

  pub first_ends_all : (b : ℕ) → Code p 6 76 (core_of b 0 2 f g o 1) 0 (core_of b 0 3 f g o 1)
  unfolding int_wrap
  first_ends_all b = rw has_room (omega arith, (refl, refl))

  pub second_ends : (b : ℕ) → Code p 6 76 (core_of b 0 0 f g o 2) 1 (core_of b 0 2 f g o 2)
  unfolding int_wrap
  second_ends b = rw has_room (omega arith, (refl, refl))

  pub second_ends_all : (b : ℕ) → Code p 6 76 (core_of b 0 1 f g o 2) 0 (core_of b 0 3 f g o 2)
  unfolding int_wrap
  second_ends_all b = rw has_room (omega arith, (refl, refl))
