-- What each boot of the system with a mailbox prints where its users are compiled of C0.
use Rattle.std.specs.Prelude.{◌≡◌, ◌≢◌, ℕ, ◌+◌, ◌*◌, ◌≤◌, List, [], ◌∷◌, ◌++◌, length, codes}
use Rattle.std.specs.Io.KnownBytes.{append_known}
use Rattle.schedule_file.specs.Rows.{Rows, longest}
use Rattle.mips_table.specs.Device.{Environment}
use Rattle.mips_table.specs.Machine.{State}
use Rattle.layer_map.specs.Map.{Map}
use Rattle.c0_tree.specs.declared.primitive.Program.TheVariants.{User}
use Rattle.c0_tree.specs.Tree.{CUnit}
use Rattle.c0_types.specs.Front.{IsUnitAs}
use Rattle.boot_turns.specs.declared.answers.View.TheVariants.{Boot}
use Rattle.cvm_model.specs.Cvm.{System, Halted, first_flat}
use Rattle.cvm_model.specs.Text.{rows_text, users_text}
use Rattle.run_bounds.specs.Steps.{steps_for}
use Rattle.kernel_linker.specs.Accept.{ImageSystem}
use Rattle.user_c0.specs.Image.{image_words}
use Rattle.user_c0.specs.Program.{steps_of as most_steps}
use Rattle.run_scripts.specs.declared.exit_status.Status.{Status}
use Rattle.run_scripts.specs.declared.exit_status.Status.TheVariants.{Done, KernelFault, Memory}
use Rattle.run_scripts.specs.declared.session.Session.{Session}
use Rattle.cvm_outside.specs.Outside.{Outside}
use Rattle.run_scripts.specs.Boot.{booted, environment_of, start_state, steps_before, IsHonest}
use Rattle.run_scripts.specs.CommandEnds.{Headlines}
use Rattle.kernel_boots.specs.Boots.{AsksSource}
use Rattle.kernel_boots.specs.Systems.{AsksSystem}
use Rattle.kernel_boots.specs.Linked.{IsLinkedOf}
use Rattle.mailing.specs.Text.{text as kernel_text}
use Rattle.mailing.specs.Users.{CallsInTurn, ended}
use Rattle.mailing.specs.Property.{Message, sends, receives, message_numbers}
use Rattle.mailing_boots.specs.Through.{untrapped_in, IsCountedThrough}
use Rattle.mailing_boots.specs.Boots.{report_of, MailShown}
use Rattle.mailing_boots.specs.Mailers.{AreMailers, zeros, told_for, one_to_ten}
use Rattle.mailing_boots.specs.Texts.{sender_text, receiver_text}

-- the turns of users that send and receive so many messages with so many untrapped steps: the first, these steps, and each trap
abbrev pub turns_by : (sending receiving messages : ℕ) → ℕ
turns_by sending receiving messages = 3 + 3 * messages + sending + receiving

-- WHAT A RUN SHOWS of programs that send and receive these numbers with so many untrapped steps at most: they are messages, whose calls, with some steps
-- between, are those of the programs' images; the run shows what it shows of such users, so the status is no kernel's fault; and with as many turns as
-- these steps, each trap, the schedule's `line` rows and one, and the steps of the machine for them, it is done, has halted, and reports the numbers in order
pub record ProgramMailShown (x : Environment) (y : System) (s : State) (late raised turns steps : ℕ) (one two : CUnit) (sending receiving : ℕ) (ns : List ℕ)
    (status : Status) (text : List ℕ) : Type 0 where
  pub messages : List Message
  pub numbers_are : message_numbers messages ≡ ns
  pub sender_last : ℕ
  pub receiver_last : ℕ
  pub sender_calls : CallsInTurn (first_flat (image_words one)) (sends messages) sender_last
  pub receiver_calls : CallsInTurn (first_flat (image_words two)) (receives messages) receiver_last
  pub few_sending : untrapped_in (sends messages) sender_last ≤ sending
  pub few_receiving : untrapped_in (receives messages) receiver_last ≤ receiving
  pub shows : MailShown x y s late raised turns steps messages sender_last receiver_last (first_flat (image_words one))
      (first_flat (image_words two)) status text
  pub halted : turns_by sending receiving (length ns) + raised ≤ turns
      → steps_for y (turns_by sending receiving (length ns) + raised) (3 + 3 * length ns + raised) 200 0 + late ≤ steps
      → (status ≡ Done) × (shows.shown.stands.state.status ≡ Halted) × (length shows.shown.stands.state.rows ≤ 3 + 3 * length ns + raised)
      × (text ≡ rows_text shows.shown.stands.state.rows
      ++ report_of ns (ended (first_flat (image_words one)) (sends messages) sender_last
      ∷ ended (first_flat (image_words two)) (receives messages) receiver_last ∷ []))

-- EACH BOOT of an image with the kernel's text and the images of two such programs shows this, under every schedule, by the steps of their units
abbrev pub AnyProgramsMail : Type 0
AnyProgramsMail = (one two : CUnit) (n k : ℕ) (ns : List ℕ) → AreMailers one two n k ns
    → (words : List (List ℕ)) (status : Status) (old new : Outside) → Headlines words status old new
    → (session : Session) (s : ImageSystem) (rows : Rows) (before : List (List ℕ)) → (h : IsHonest words session s rows before old new)
    → status ≢ Memory → session.view ≡ Boot → AsksSystem kernel_text (image_words one ∷ image_words two ∷ []) h.asked
    → (text : List ℕ) × (new.sink.text ≡ append_known old.sink.text text)
    × ProgramMailShown (environment_of rows old) (booted s rows) (start_state session s rows before) (steps_before session.start (booted s rows))
    (length rows.lines) session.turns session.steps
    one two (most_steps n) (most_steps k) ns status text

-- AND WHERE THEIR STEPS ARE COUNTED, by just these
abbrev pub AnyCountedProgramsMail : Type 0
AnyCountedProgramsMail = (one two : CUnit) (n k : ℕ) (ns : List ℕ) (sending receiving : ℕ) → AreMailers one two n k ns
    → IsCountedThrough (first_flat (image_words one)) (zeros ns) sending → IsCountedThrough (first_flat (image_words two)) (told_for ns) receiving
    → (words : List (List ℕ)) (status : Status) (old new : Outside) → Headlines words status old new
    → (session : Session) (s : ImageSystem) (rows : Rows) (before : List (List ℕ)) → (h : IsHonest words session s rows before old new)
    → status ≢ Memory → session.view ≡ Boot → AsksSystem kernel_text (image_words one ∷ image_words two ∷ []) h.asked
    → (text : List ℕ) × (new.sink.text ≡ append_known old.sink.text text)
    × ProgramMailShown (environment_of rows old) (booted s rows) (start_state session s rows before) (steps_before session.start (booted s rows))
    (length rows.lines) session.turns session.steps
    one two sending receiving ns status text

-- what is printed of the kernel's data and of the console
abbrev pub mail_lines : List ℕ
mail_lines =
    codes "halted\nglobal box 0\nglobal waits 0\nglobal over 3\ncon 00000001\ncon 00000002\ncon 00000003\ncon 00000004\ncon 00000005\ncon 00000006\ncon 00000007\ncon 00000008\ncon 00000009\ncon 0000000a\n"

-- THE NAMED SYSTEM: whatever the programs' trees are, with their places in the text, what was sent was printed, once and in order, but for three messages at
-- most; the status is no kernel's fault; and under a schedule of L `line` rows, with 343 turns and L more, and the steps of the machine for them, it is done,
-- has halted, and its text is at most 33 + L rows and then the report: the numbers from 1 to 10 on the console, and each user's machine behind its end
pub record NamedMailShown (x : Environment) (y : System) (s : State) (late raised turns steps : ℕ) (status : Status) (text : List ℕ) : Type 0 where
  pub one : CUnit
  pub two : CUnit
  pub one_is : IsUnitAs User sender_text one
  pub two_is : IsUnitAs User receiver_text two
  pub shows : ProgramMailShown x y s late raised turns steps one two 140 170 one_to_ten status text
  pub no_fault : status ≢ KernelFault
  pub halted : 343 + raised ≤ turns → steps_for y (343 + raised) (33 + raised) 200 0 + late ≤ steps
      → (status ≡ Done) × (length shows.shows.shown.stands.state.rows ≤ 33 + raised)
      × (text ≡ rows_text shows.shows.shown.stands.state.rows ++ (mail_lines
      ++ users_text 1 (ended (first_flat (image_words one)) (sends shows.messages) shows.sender_last
      ∷ ended (first_flat (image_words two)) (receives shows.messages) shows.receiver_last ∷ [])))

-- EACH BOOT of an image with the kernel's text whose users are compiled of the two texts, under every schedule
abbrev pub CompiledMailBoots : Type 0
CompiledMailBoots = (words : List (List ℕ)) (status : Status) (old new : Outside) → Headlines words status old new
    → (session : Session) (s : ImageSystem) (rows : Rows) (before : List (List ℕ)) → (h : IsHonest words session s rows before old new)
    → status ≢ Memory → session.view ≡ Boot → AsksSource kernel_text h.asked → (layer : Map → List ℕ → List ℕ) → IsLinkedOf layer sender_text receiver_text s
    → (text : List ℕ) × (new.sink.text ≡ append_known old.sink.text text)
    × NamedMailShown (environment_of rows old) (booted s rows) (start_state session s rows before) (steps_before session.start (booted s rows))
    (length rows.lines) session.turns session.steps status text

-- THE STEPS in numbers: with 32 pages for each user, 48 frames and no busy times, so many for L `line` rows, before those of a ROM
abbrev pub MailStepsAreFew : Type 0
MailStepsAreFew = (s : ImageSystem) (rows : Rows) (raised : ℕ) → s.params.pages ≡ 32 → s.params.frames ≡ 48 → length s.users ≡ 2 → longest rows ≡ 0
    → steps_for (booted s rows) (343 + raised) (33 + raised) 200 0 ≡ 142658439 + 526097 * raised
