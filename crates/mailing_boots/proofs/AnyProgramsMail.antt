-- What is known of any sender and receiver serves two programs, whose calls are known and come within the steps of their units.
use Rattle.std.specs.Prelude.{◌≢◌, map}
use Rattle.std.specs.Io.KnownBytes.{append_known}
use Rattle.schedule_file.specs.Rows.{Rows}
use Rattle.mips_table.specs.Flat.{Flat}
use Rattle.boot_turns.specs.declared.answers.View.TheVariants.{Boot}
use Rattle.kernel_linker.specs.Accept.{ImageSystem}
use Rattle.run_scripts.specs.declared.exit_status.Status.TheVariants.{Memory}
use Rattle.run_scripts.specs.declared.session.Session.{Session}
use Rattle.cvm_outside.specs.Outside.{Outside}
use Rattle.run_scripts.specs.CommandEnds.{Headlines}
use Rattle.kernel_boots.specs.Systems.{AsksSystem}
use Rattle.kernel_boots.proofs.SystemsBoot.{fewer_turns}
use Rattle.mailing.specs.Text.{text as kernel_text}
use Rattle.std.proofs.Common.{◌≡◌, ℕ, suc, ◌+◌, ◌*◌, ◌≤◌, List, [], ◌∷◌, ◌++◌, length, refl, sym, ap, ap₂, ◌∙◌, subst, arith}
use Rattle.mips_table.specs.Device.{Environment}
use Rattle.mips_table.specs.Machine.{State}
use Rattle.c0_tree.specs.Tree.{CUnit}
use Rattle.cvm_model.specs.Cvm.{System, first_flat}
use Rattle.cvm_model.specs.Text.{rows_text}
use Rattle.run_bounds.specs.Steps.{steps_for}
use Rattle.run_scripts.specs.declared.exit_status.Status.{Status}
use Rattle.run_scripts.specs.Boot.{booted, environment_of, start_state, steps_before, IsHonest}
use Rattle.user_c0.specs.Image.{image_words}
use Rattle.user_c0.specs.Program.{steps_of as most_steps}
use Rattle.mailing.specs.Users.{Leg, CallsInTurn, ended, leg_steps}
use Rattle.mailing.specs.Property.{Message, sends, receives, message_numbers, AreSmall, turns_for, dispatches_for}
use Rattle.mailing_boots.specs.Through.{untrapped_in, ComesThrough, ProgramsComeThrough, IsCountedThrough, CountsTellThrough}
use Rattle.mailing_boots.specs.Boots.{report_of, MailShown, AnyUsersMail}
use Rattle.mailing_boots.specs.Mailers.{zeros, asked_for, told_for, CanBeSent, AreMailers}
use Rattle.mailing_boots.specs.Compiled.{turns_by, ProgramMailShown, AnyProgramsMail, AnyCountedProgramsMail}

-- TWO USERS' CALLS are those of messages
record AreOf (ns : List ℕ) (sending receiving : List Leg) : Type 0 where
  messages : List Message
  numbers_are : message_numbers messages ≡ ns
  sends_are : sends messages ≡ sending
  receives_are : receives messages ≡ receiving

abbrev arguments_of : List Leg → List ℕ
arguments_of legs = map (λ (leg : Leg). leg.argument) legs

abbrev answers_of : List Leg → List ℕ
answers_of legs = map (λ (leg : Leg). leg.answer) legs

leg_is : (a : Leg) (i j : ℕ) → a.argument ≡ i → a.answer ≡ j → record { steps = a.steps; argument = i; answer = j } ≡ a
leg_is a i j e h = ap₂ (λ (i j : ℕ). record { steps = a.steps; argument = i; answer = j }) (sym e) (sym h)

head_is : (a b : ℕ) (xs ys : List ℕ) → a ∷ xs ≡ b ∷ ys → a ≡ b
head_is a b xs ys e = cc

tail_is : (a b : ℕ) (xs ys : List ℕ) → a ∷ xs ≡ b ∷ ys → xs ≡ ys
tail_is a b xs ys e = cc

one_more : (n : ℕ) (ns : List ℕ) (a b c : Leg) (sending receiving : List Leg) → a.argument ≡ n → a.answer ≡ 0 → b.argument ≡ 0 → b.answer ≡ n → c.argument ≡ n → c.answer ≡ 0 → AreOf ns sending receiving
    → AreOf (n ∷ ns) (a ∷ sending) (b ∷ c ∷ receiving)
one_more n ns a b c sending receiving a_says a_hears b_says b_hears c_says c_hears r = record {
  messages = record { number = n; sending = a.steps; asking = b.steps; printing = c.steps } ∷ r.messages;
  numbers_are = ap (λ l. n ∷ l) r.numbers_are;
  sends_are = ap₂ (λ (leg : Leg) (l : List Leg). leg ∷ l) (leg_is a n 0 a_says a_hears) r.sends_are;
  receives_are = ap₂ (λ (leg : Leg) (l : List Leg). leg ∷ l) (leg_is b 0 n b_says b_hears) (ap₂ (λ (leg : Leg) (l : List Leg). leg ∷ l) (leg_is c n 0 c_says c_hears) r.receives_are);
}

are_of : (ns : List ℕ) (sending receiving : List Leg) → arguments_of sending ≡ ns → answers_of sending ≡ zeros ns → arguments_of receiving ≡ asked_for ns → answers_of receiving ≡ told_for ns → AreOf ns sending receiving
are_of [] [] [] says hears asks told = record { messages = []; numbers_are = refl; sends_are = refl; receives_are = refl }
are_of [] (a ∷ sending) receiving says hears asks told = absurd (cc)
are_of [] [] (b ∷ receiving) says hears asks told = absurd (cc)
are_of (n ∷ ns) [] receiving says hears asks told = absurd (cc)
are_of (n ∷ ns) (a ∷ sending) [] says hears asks told = absurd (cc)
are_of (n ∷ ns) (a ∷ sending) (b ∷ []) says hears asks told = absurd (let z = tail_is b.argument 0 [] (n ∷ asked_for ns) asks in cc)
are_of (n ∷ ns) (a ∷ sending) (b ∷ c ∷ receiving) says hears asks told =
    let asks_then = tail_is b.argument 0 (c.argument ∷ arguments_of receiving) (n ∷ asked_for ns) asks in
    let told_then = tail_is b.answer n (c.answer ∷ answers_of receiving) (0 ∷ told_for ns) told in
    one_more n ns a b c sending receiving
    (head_is a.argument n (arguments_of sending) ns says) (head_is a.answer 0 (answers_of sending) (zeros ns) hears)
    (head_is b.argument 0 (c.argument ∷ arguments_of receiving) (n ∷ asked_for ns) asks) (head_is b.answer n (c.answer ∷ answers_of receiving) (0 ∷ told_for ns) told)
    (head_is c.argument n (arguments_of receiving) (asked_for ns) asks_then) (head_is c.answer 0 (answers_of receiving) (told_for ns) told_then)
    (are_of ns sending receiving
    (tail_is a.argument n (arguments_of sending) ns says) (tail_is a.answer 0 (answers_of sending) (zeros ns) hears)
    (tail_is c.argument n (arguments_of receiving) (asked_for ns) asks_then) (tail_is c.answer 0 (answers_of receiving) (told_for ns) told_then))

-- COUNTS: of steps, and of messages
steps_are : (legs : List Leg) (last : ℕ) → leg_steps legs last ≡ suc (length legs) + untrapped_in legs last
steps_are [] last = omega arith
steps_are (leg ∷ legs) last = let h = steps_are legs last in omega (arith, h)

sends_count : (ms : List Message) → length (sends ms) ≡ length ms
sends_count [] = refl
sends_count (m ∷ ms) = ap suc (sends_count ms)

receives_count : (ms : List Message) → length (receives ms) ≡ 2 * length ms
receives_count [] = omega arith
receives_count (m ∷ ms) = let h = receives_count ms in omega (arith, h)

numbers_count : (ms : List Message) → length (message_numbers ms) ≡ length ms
numbers_count [] = refl
numbers_count (m ∷ ms) = ap suc (numbers_count ms)

are_small : (ms : List Message) → CanBeSent (message_numbers ms) → AreSmall ms
are_small [] h = tt
are_small (m ∷ ms) h = (h.0, h.1, are_small ms h.2)

module _ (ns : List ℕ) (ms : List Message) (same : message_numbers ms ≡ ns) where
  count : length ms ≡ length ns
  count = sym (numbers_count ms) ∙ ap length same

  dispatches_are : (raised : ℕ) → dispatches_for ms + raised ≡ 3 + 3 * length ns + raised
  dispatches_are raised =
      let a = sends_count ms in
      let b = receives_count ms in
      let c = count in
      omega (arith, a, b, c)

  turns_are_few : (p q one two raised : ℕ) → untrapped_in (sends ms) one ≤ p → untrapped_in (receives ms) two ≤ q → turns_for ms one two + raised ≤ turns_by p q (length ns) + raised
  turns_are_few p q one two raised few_one few_two =
      let a = sends_count ms in
      let b = receives_count ms in
      let c = count in
      let d = steps_are (sends ms) one in
      let e = steps_are (receives ms) two in
      omega (arith, a, b, c, d, e, few_one, few_two)

module _ (x : Environment) (y : System) (s : State) (late raised turns steps : ℕ) (one two : CUnit) (p q : ℕ) (ns : List ℕ) (ms : List Message) (same : message_numbers ms ≡ ns) (a b : ℕ)
    (calls_a : CallsInTurn (first_flat (image_words one)) (sends ms) a) (calls_b : CallsInTurn (first_flat (image_words two)) (receives ms) b)
    (few_a : untrapped_in (sends ms) a ≤ p) (few_b : untrapped_in (receives ms) b ≤ q) (status : Status) (text : List ℕ)
    (h : MailShown x y s late raised turns steps ms a b (first_flat (image_words one)) (first_flat (image_words two)) status text) where
  shown : ProgramMailShown x y s late raised turns steps one two p q ns status text
  shown = record {
    messages = ms;
    numbers_are = same;
    sender_last = a;
    receiver_last = b;
    sender_calls = calls_a;
    receiver_calls = calls_b;
    few_sending = few_a;
    few_receiving = few_b;
    shows = h;
    halted = λ enough long.
        let le = turns_are_few ns ms same p q a b raised few_a few_b in
        let rows = dispatches_are ns ms same raised in
        let then_long = subst (λ (d : ℕ). steps_for y (turns_by p q (length ns) + raised) d 200 0 + late ≤ steps) (sym rows) long in
        let e = h.halted (omega (arith, le, enough)) (fewer_turns y (turns_for ms a b + raised) (turns_by p q (length ns) + raised) (dispatches_for ms + raised) 200 0 late steps le then_long) in
        let fit = e.2 in (
          e.0,
          e.1,
          omega (arith, fit, rows),
          e.3 ∙ ap (λ (ns : List ℕ). rows_text h.shown.stands.state.rows
              ++ report_of ns (ended (first_flat (image_words one)) (sends ms) a ∷ ended (first_flat (image_words two)) (receives ms) b ∷ [])) same,
        );
  }

-- of two programs that come through, each with so many steps at most
abbrev Shows : (one two : CUnit) (ns : List ℕ) (p q : ℕ) → Type 0
Shows one two ns p q = (words : List (List ℕ)) (status : Status) (old new : Outside) → Headlines words status old new
    → (session : Session) (s : ImageSystem) (rows : Rows) (before : List (List ℕ)) → (h : IsHonest words session s rows before old new)
    → status ≢ Memory → session.view ≡ Boot → AsksSystem kernel_text (image_words one ∷ image_words two ∷ []) h.asked
    → (text : List ℕ) × (new.sink.text ≡ append_known old.sink.text text)
    × ProgramMailShown (environment_of rows old) (booted s rows) (start_state session s rows before) (steps_before session.start (booted s rows)) (length rows.lines) session.turns session.steps one two p q ns status text

by_legs : AnyUsersMail → (one two : CUnit) (n k : ℕ) (ns : List ℕ) (m : AreMailers one two n k ns) (p q : ℕ)
    → (c : ComesThrough (first_flat (image_words one)) (most_steps n) ns (zeros ns)) → untrapped_in c.legs c.last ≤ p
    → (d : ComesThrough (first_flat (image_words two)) (most_steps k) (asked_for ns) (told_for ns)) → untrapped_in d.legs d.last ≤ q → Shows one two ns p q
by_legs law one two n k ns m p q c few_c d few_d words status old new headlines session s rows before h some view system =
    let z : AreOf ns c.legs d.legs = are_of ns c.legs d.legs c.arguments_are c.answers_are d.arguments_are d.answers_are in
    let long = count ns z.messages z.numbers_are in
    let few = m.few in
    let sending : CallsInTurn (first_flat (image_words one)) (sends z.messages) c.last =
    subst (λ legs. CallsInTurn (first_flat (image_words one)) legs c.last) (sym z.sends_are) c.calls in
    let receiving : CallsInTurn (first_flat (image_words two)) (receives z.messages) d.last =
    subst (λ legs. CallsInTurn (first_flat (image_words two)) legs d.last) (sym z.receives_are) d.calls in
    let (text, printed, shows) = law (image_words one) (image_words two) z.messages c.last d.last sending receiving
    (are_small z.messages (subst CanBeSent (sym z.numbers_are) m.small)) (omega (arith, long, few)) words status old new headlines session s rows before h some view system in (
      text,
      printed,
      shown (environment_of rows old) (booted s rows) (start_state session s rows before) (steps_before session.start (booted s rows)) (length rows.lines) session.turns session.steps one two p q ns z.messages z.numbers_are
          c.last d.last sending receiving (subst (λ legs. untrapped_in legs c.last ≤ p) (sym z.sends_are) few_c) (subst (λ legs. untrapped_in legs d.last ≤ q) (sym z.receives_are) few_d) status text shows,
    )

pub any_programs_mail : ProgramsComeThrough → AnyUsersMail → AnyProgramsMail
any_programs_mail through law one two n k ns m =
    let c = through one n ns (zeros ns) m.sender in
    let d = through two k (asked_for ns) (told_for ns) m.receiver in
    by_legs law one two n k ns m (most_steps n) (most_steps k) c c.few d d.few

-- AND COUNTED: each leg is as long as was counted
counted_few : CountsTellThrough → (f : Flat) (most p : ℕ) (arguments answers : List ℕ) (c : ComesThrough f most arguments answers) → IsCountedThrough f answers p → untrapped_in c.legs c.last ≤ p
counted_few tell f most p arguments answers c is =
    let same : untrapped_in c.legs c.last ≡ p = tell f c.legs c.last p c.calls (subst (λ xs. IsCountedThrough f xs p) (sym c.answers_are) is) in
    omega (arith, same)

pub any_counted_programs_mail : ProgramsComeThrough → CountsTellThrough → AnyUsersMail → AnyCountedProgramsMail
any_counted_programs_mail through tell law one two n k ns p q m first second =
    let c : ComesThrough (first_flat (image_words one)) (most_steps n) ns (zeros ns) = through one n ns (zeros ns) m.sender in
    let d : ComesThrough (first_flat (image_words two)) (most_steps k) (asked_for ns) (told_for ns) = through two k (asked_for ns) (told_for ns) m.receiver in
    by_legs law one two n k ns m p q c (counted_few tell (first_flat (image_words one)) (most_steps n) p ns (zeros ns) c first)
    d (counted_few tell (first_flat (image_words two)) (most_steps k) q (asked_for ns) (told_for ns) d second)
