-- From the texts to each boot, of users that are answered.
use Rattle.std.specs.Prelude.{codes, pos, slice_get}
use Rattle.std.specs.Fmt.{digits, signed_decimal}
use Rattle.std.proofs.Common.{◌≡◌, ℕ, List, [], ◌∷◌, ◌++◌, length, Some, refl, sym, ap, ◌∙◌, subst, arith}
use Rattle.mips_table.specs.Device.{Environment}
use Rattle.mips_table.specs.Machine.{State}
use Rattle.mips_table.specs.Flat.{Flat}
use Rattle.c0_tree.specs.declared.primitive.Program.TheVariants.{User}
use Rattle.c0_tree.specs.Tree.{CUnit}
use Rattle.c0_meaning.specs.UserProgram.{Seen, prog, done}
use Rattle.c0_types.specs.Front.{IsUnitAs}
use Rattle.cvm_model.specs.Cvm.{System, first_flat}
use Rattle.cvm_model.specs.Text.{rows_text, users_text}
use Rattle.kernel_linker.specs.Accept.{ImageSystem}
use Rattle.kernel_linker.specs.Sources.{AcceptedAreOfImages}
use Rattle.user_c0.specs.Image.{image_words}
use Rattle.run_scripts.specs.declared.exit_status.Status.{Status}
use Rattle.run_scripts.specs.Boot.{booted, environment_of, start_state, steps_before}
use Rattle.cvm_shell.specs.Programs.{HasProgram, LinkedPrograms}
use Rattle.kernel_theorems.specs.Text.{MeansProgram}
use Rattle.answering.specs.Text.{text as kernel_text}
use Rattle.answering.specs.Boots.{report_of, ended_by_trap, AnswersShown}
use Rattle.program_systems.specs.Adders.{adder, AddersCall, AddersAreCounted}
use Rattle.program_systems.specs.Counts.{TrapsThrough, ImagesIgnoreSpans}
use Rattle.program_systems.specs.AdderTexts.{text_ten, text_twenty}
use Rattle.program_systems.specs.Asking.{BringsAndEnds}
use Rattle.program_systems.proofs.BareImages.{image_is}
use Rattle.kernel_boots.proofs.UsersOfLinked.{AreThere, are_there, asks_system}
use Rattle.answering.specs.Compiled.{AnyCountedProgramsAnswered, AddersAnswered, CompiledAnswersBoot}

-- a program of a text whose tree is known to call and to end
brings : (text : List ℕ) (tree : CUnit) → MeansProgram text tree → (s : ImageSystem) (i : ℕ) (u : CUnit) → IsUnitAs User text u → HasProgram u s i → (n v x : ℕ) (seen : Seen)
    → prog tree [] n ≡ seen → slice_get seen.arguments 0 ≡ Some (pos v) → prog tree (pos x ∷ []) n ≡ record { arguments = pos v ∷ []; ending = done } → BringsAndEnds u n v x
brings text tree means s i u is has n v x seen computed there over = record {
  program = record { checked = has.checked; small = has.small };
  calls = ap (λ (p : Seen). slice_get p.arguments 0) (means.program_is u is [] n ∙ computed) ∙ there;
  ends = means.program_is u is (pos x ∷ []) n ∙ over;
}

-- the total, letter by letter
total : signed_decimal (pos 265) ≡ codes "265"
unfolding digits
total = refl

with_total : (users : List Flat) → report_of 265 users ≡ codes "halted\nglobal total 265\n" ++ users_text 1 users
with_total users = rw total refl

module _ (x : Environment) (y : System) (s : State) (late raised turns steps : ℕ) (status : Status) (text : List ℕ) where
  shown : (f g : Flat) → AnswersShown x y s late raised turns steps 120 7 220 7 55 210 f g status text → AddersAnswered x y s late raised turns steps f g status text
  shown f g h = record {
    shows = h;
    no_fault = h.no_fault;
    halted = λ enough long. let e = h.halted enough long in (e.0, e.2, e.3 ∙ ap (λ (t : List ℕ). rows_text h.shown.stands.state.rows ++ t) (with_total (ended_by_trap 120 7 55 f ∷ ended_by_trap 220 7 265 g ∷ [])));
  }

  -- of the machines of other images with the same words
  shown_of : (a b c d : List ℕ) → a ≡ c → b ≡ d → AnswersShown x y s late raised turns steps 120 7 220 7 55 210 (first_flat a) (first_flat b) status text
      → AddersAnswered x y s late raised turns steps (first_flat c) (first_flat d) status text
  shown_of a b c d e k h =
      shown (first_flat c) (first_flat d) (subst (λ w. AnswersShown x y s late raised turns steps 120 7 220 7 55 210 (first_flat c) (first_flat w) status text) k
      (subst (λ w. AnswersShown x y s late raised turns steps 120 7 220 7 55 210 (first_flat w) (first_flat b) status text) e h))

-- it traps where that one does
traps_as : (a b : List ℕ) (answers steps : List ℕ) → a ≡ b → TrapsThrough (first_flat b) answers steps → TrapsThrough (first_flat a) answers steps
traps_as a b answers steps e through = subst (λ w. TrapsThrough (first_flat w) answers steps) (sym e) through

pub compiled_answers_boot : AcceptedAreOfImages → LinkedPrograms → MeansProgram text_ten (adder 10) → MeansProgram text_twenty (adder 20) → AddersCall → ImagesIgnoreSpans → AddersAreCounted
    → AnyCountedProgramsAnswered → CompiledAnswersBoot
compiled_answers_boot images linked ten twenty calls ignore count law words status old new headlines session s rows before h some view asks layer l =
    let t : AreThere s text_ten text_twenty = are_there images linked layer text_ten text_twenty s l in
    let e : image_words t.one ≡ image_words (adder 10) = image_is ignore text_ten (adder 10) ten t.one t.one_is in
    let k : image_words t.two ≡ image_words (adder 20) = image_is ignore text_twenty (adder 20) twenty t.two t.two_is in
    let (text, printed, shows) = law t.one t.two 200 400 55 210 120 7 220 7
    (brings text_ten (adder 10) ten s 1 t.one t.one_is t.first 200 55 55 _ calls.ten refl (calls.ten_ends (pos 55)))
    (brings text_twenty (adder 20) twenty s 2 t.two t.two_is t.second 400 210 265 _ calls.twenty refl (calls.twenty_ends (pos 265))) (omega arith)
    (traps_as (image_words t.one) (image_words (adder 10)) (55 ∷ []) (120 ∷ 7 ∷ []) e (count.ten 55)) (traps_as (image_words t.two) (image_words (adder 20)) (265 ∷ []) (220 ∷ 7 ∷ []) k (count.twenty 265))
    words status old new headlines session s rows before h some view
    (asks_system images kernel_text (image_words t.one ∷ image_words t.two ∷ []) words old.shelf.file session s rows h.asked t.users_are asks) in (
      text,
      printed,
      shown_of (environment_of rows old) (booted s rows) (start_state session s rows before) (steps_before session.start (booted s rows)) (length rows.lines) session.turns session.steps status text
          (image_words t.one) (image_words t.two) (image_words (adder 10)) (image_words (adder 20)) e k shows,
    )
