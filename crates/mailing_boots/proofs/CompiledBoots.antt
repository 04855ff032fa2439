-- From the texts to each boot.
use Rattle.std.specs.Fmt.{digits}
use Rattle.std.proofs.Common.{◌≡◌, ℕ, List, [], ◌∷◌, ◌++◌, length, refl, sym, ap, ◌∙◌, subst, arith}
use Rattle.mips_table.specs.Device.{Environment}
use Rattle.mips_table.specs.Machine.{State}
use Rattle.mips_table.specs.Flat.{Flat}
use Rattle.c0_tree.specs.declared.primitive.Program.TheVariants.{User}
use Rattle.c0_tree.specs.Tree.{CUnit}
use Rattle.c0_meaning.specs.UserProgram.{prog, done}
use Rattle.c0_types.specs.Front.{IsUnitAs}
use Rattle.cvm_model.specs.Cvm.{System, first_flat}
use Rattle.cvm_model.specs.Text.{rows_text, users_text}
use Rattle.kernel_linker.specs.Accept.{ImageSystem}
use Rattle.kernel_linker.specs.Sources.{AcceptedAreOfImages}
use Rattle.user_c0.specs.Image.{image_words}
use Rattle.run_scripts.specs.declared.exit_status.Status.{Status}
use Rattle.run_scripts.specs.Boot.{booted, environment_of, start_state, steps_before}
use Rattle.cvm_shell.specs.Programs.{HasProgram, LinkedPrograms}
use Rattle.kernel_theorems.specs.Text.{MeansProgram}
use Rattle.program_systems.specs.Counts.{ImagesIgnoreSpans}
use Rattle.program_systems.proofs.BareImages.{image_is}
use Rattle.kernel_boots.proofs.UsersOfLinked.{AreThere, are_there, asks_system}
use Rattle.mailing.specs.Text.{text as kernel_text}
use Rattle.mailing.specs.Users.{ended}
use Rattle.mailing.specs.Property.{sends, receives}
use Rattle.mailing_boots.specs.Through.{ints, AreInts, CallsAndReturns, IsCountedThrough}
use Rattle.mailing_boots.specs.Boots.{report_of}
use Rattle.mailing_boots.specs.Mailers.{zeros, asked_for, told_for, CanBeSent, sender, receiver, one_to_ten, MailersCall, MailersAreCounted}
use Rattle.mailing_boots.specs.Texts.{sender_text, receiver_text}
use Rattle.mailing_boots.specs.Compiled.{mail_lines, ProgramMailShown, AnyCountedProgramsMail, NamedMailShown, CompiledMailBoots}

-- a program of a text whose tree is known to call so
calls_so : (text : List ℕ) (tree : CUnit) → MeansProgram text tree → (s : ImageSystem) (i : ℕ) (u : CUnit) → IsUnitAs User text u → HasProgram u s i → (n : ℕ) (arguments answers : List ℕ)
    → prog tree (ints answers) n ≡ record { arguments = ints arguments; ending = done } → length arguments ≡ length answers → AreInts answers → CallsAndReturns u n arguments answers
calls_so text tree means s i u is has n arguments answers computed as_many small = record {
  program = record { checked = has.checked; small = has.small };
  runs = means.program_is u is (ints answers) n ∙ computed;
  as_many = as_many;
  small = small;
}

-- all answers of a sender are ints, and so is what a receiver is told of numbers that can be sent
zeros_are_ints : (ns : List ℕ) → AreInts (zeros ns)
zeros_are_ints [] = tt
zeros_are_ints (n ∷ ns) = (omega arith, zeros_are_ints ns)

told_are_ints : (ns : List ℕ) → CanBeSent ns → AreInts (told_for ns)
told_are_ints [] sent = tt
told_are_ints (n ∷ ns) sent = (sent.1, (omega arith, told_are_ints ns sent.2))

can_be_sent : CanBeSent one_to_ten
can_be_sent =
    (omega arith, omega arith, (omega arith, omega arith, (omega arith, omega arith, (omega arith, omega arith, (omega arith, omega arith, (omega arith, omega arith, (omega arith, omega arith, (omega arith, omega arith, (omega arith, omega arith, (omega arith, omega arith, tt))))))))))

-- the report, letter by letter
lines_are : (users : List Flat) → report_of one_to_ten users ≡ mail_lines ++ users_text 1 users
unfolding digits
lines_are users = refl

module _ (x : Environment) (y : System) (s : State) (late raised turns steps : ℕ) (status : Status) (text : List ℕ) (one two : CUnit) (one_is : IsUnitAs User sender_text one) (two_is : IsUnitAs User receiver_text two)
    (h : ProgramMailShown x y s late raised turns steps one two 140 170 one_to_ten status text) where
  shown : NamedMailShown x y s late raised turns steps status text
  shown = record {
    one = one;
    two = two;
    one_is = one_is;
    two_is = two_is;
    shows = h;
    no_fault = h.shows.no_fault;
    halted = λ enough long. let e = h.halted enough long in (
      e.0,
      e.2,
      e.3 ∙ ap (λ (t : List ℕ). rows_text h.shows.shown.stands.state.rows ++ t)
          (lines_are (ended (first_flat (image_words one)) (sends h.messages) h.sender_last ∷ ended (first_flat (image_words two)) (receives h.messages) h.receiver_last ∷ [])),
    );
  }

-- of another image with the same words
counted_as : (a b : List ℕ) (answers : List ℕ) (n : ℕ) → a ≡ b → IsCountedThrough (first_flat b) answers n → IsCountedThrough (first_flat a) answers n
counted_as a b answers n e is = subst (λ w. IsCountedThrough (first_flat w) answers n) (sym e) is

pub compiled_mail_boots : AcceptedAreOfImages → LinkedPrograms → MeansProgram sender_text sender → MeansProgram receiver_text receiver → MailersCall → ImagesIgnoreSpans → MailersAreCounted → AnyCountedProgramsMail → CompiledMailBoots
compiled_mail_boots images linked means_one means_two calls ignore counts law words status old new headlines session s rows before h some view asks layer l =
    let t : AreThere s sender_text receiver_text = are_there images linked layer sender_text receiver_text s l in
    let (text, printed, shows) = law t.one t.two 400 600 one_to_ten 140 170
    (record {
      sender = calls_so sender_text sender means_one s 1 t.one t.one_is t.first 400 one_to_ten (zeros one_to_ten) calls.sends refl (zeros_are_ints one_to_ten);
      receiver = calls_so receiver_text receiver means_two s 2 t.two t.two_is t.second 600 (asked_for one_to_ten) (told_for one_to_ten) calls.receives refl (told_are_ints one_to_ten can_be_sent);
      small = can_be_sent;
      few = omega arith;
    })
    (counted_as (image_words t.one) (image_words sender) (zeros one_to_ten) 140 (image_is ignore sender_text sender means_one t.one t.one_is) counts.sending)
    (counted_as (image_words t.two) (image_words receiver) (told_for one_to_ten) 170 (image_is ignore receiver_text receiver means_two t.two t.two_is) counts.receiving)
    words status old new headlines session s rows before h some view
    (asks_system images kernel_text (image_words t.one ∷ image_words t.two ∷ []) words old.shelf.file session s rows h.asked t.users_are asks) in (
      text,
      printed,
      shown (environment_of rows old) (booted s rows) (start_state session s rows before) (steps_before session.start (booted s rows)) (length rows.lines) session.turns session.steps status text
          t.one t.two t.one_is t.two_is shows,
    )
