-- From the texts to each boot.
use Rattle.std.specs.Prelude.{codes, pos, slice_get}
use Rattle.std.specs.Fmt.{digits, signed_decimal}
use Rattle.std.proofs.Common.{◌≡◌, ℕ, List, [], ◌∷◌, ◌++◌, length, Some, refl, sym, ap, ◌∙◌, subst, arith}
use Rattle.mips_table.specs.Device.{Environment}
use Rattle.mips_table.specs.Machine.{State}
use Rattle.mips_table.specs.Flat.{Flat}
use Rattle.c0_tree.specs.declared.primitive.Program.TheVariants.{User}
use Rattle.c0_tree.specs.Tree.{CUnit}
use Rattle.c0_meaning.specs.UserProgram.{Seen, prog}
use Rattle.c0_types.specs.Front.{IsUnitAs}
use Rattle.cvm_model.specs.Cvm.{System, first_flat}
use Rattle.cvm_model.specs.Text.{rows_text, users_text}
use Rattle.kernel_linker.specs.Accept.{ImageSystem}
use Rattle.kernel_linker.specs.Sources.{AcceptedAreOfImages}
use Rattle.user_c0.specs.Image.{image_words}
use Rattle.run_scripts.specs.declared.exit_status.Status.{Status}
use Rattle.run_scripts.specs.Boot.{booted, environment_of, start_state, steps_before}
use Rattle.cvm_shell.specs.Programs.{HasProgram, LinkedPrograms}
use Rattle.kernel_theorems.specs.UserRuns.{after}
use Rattle.kernel_theorems.specs.Text.{MeansProgram}
use Rattle.summing.specs.Text.{text as kernel_text}
use Rattle.summing.specs.Boots.{report_of, SumShown}
use Rattle.program_systems.specs.Adders.{adder, AddersCall, AddersAreCounted}
use Rattle.program_systems.specs.AdderTexts.{text_ten, text_twenty}
use Rattle.program_systems.specs.Counts.{TrapsBehind, TrapsThrough, ImagesIgnoreSpans}
use Rattle.program_systems.proofs.BareImages.{image_is}
use Rattle.kernel_boots.proofs.UsersOfLinked.{AreThere, are_there, asks_system}
use Rattle.summing.specs.Compiled.{Brings, AnyCountedProgramsSum, AddersShown, CompiledSumsBoot}

-- a program of a text whose tree is known to call
brings : (text : List ℕ) (tree : CUnit) → MeansProgram text tree → (s : ImageSystem) (i : ℕ) (u : CUnit) → IsUnitAs User text u → HasProgram u s i → (n v : ℕ) (seen : Seen)
    → prog tree [] n ≡ seen → slice_get seen.arguments 0 ≡ Some (pos v) → Brings u n v
brings text tree means s i u is has n v seen computed there = record {
  program = record { checked = has.checked; small = has.small };
  calls = ap (λ (p : Seen). slice_get p.arguments 0) (means.program_is u is [] n ∙ computed) ∙ there;
}

-- the total, letter by letter
total : signed_decimal (pos 265) ≡ codes "265"
unfolding digits
total = refl

with_total : (users : List Flat) → report_of 265 users ≡ codes "halted\nglobal total 265\nglobal done true\n" ++ users_text 1 users
with_total users = rw total refl

module _ (x : Environment) (y : System) (s : State) (late raised turns steps : ℕ) (status : Status) (text : List ℕ) where
  shown : (f g : Flat) → SumShown x y s late raised turns steps 120 220 55 210 f g status text → AddersShown x y s late raised turns steps f g status text
  shown f g h = record {
    shows = h;
    no_fault = h.no_fault;
    halted = λ enough long. let e = h.halted enough long in (e.0, e.2, e.3 ∙ ap (λ (t : List ℕ). rows_text h.shown.stands.state.rows ++ t) (with_total (after 121 f ∷ after 221 g ∷ [])));
  }

  -- of the machines of other images with the same words
  shown_of : (a b c d : List ℕ) → a ≡ c → b ≡ d → SumShown x y s late raised turns steps 120 220 55 210 (first_flat a) (first_flat b) status text
      → AddersShown x y s late raised turns steps (first_flat c) (first_flat d) status text
  shown_of a b c d e k h =
      shown (first_flat c) (first_flat d) (subst (λ w. SumShown x y s late raised turns steps 120 220 55 210 (first_flat c) (first_flat w) status text) k
      (subst (λ w. SumShown x y s late raised turns steps 120 220 55 210 (first_flat w) (first_flat b) status text) e h))

-- it traps where that one does
traps_as : (a b : List ℕ) (x n m : ℕ) → a ≡ b → TrapsThrough (first_flat b) (x ∷ []) (n ∷ m ∷ []) → TrapsBehind (first_flat a) n
traps_as a b x n m e through = subst (λ w. TrapsBehind (first_flat w) n) (sym e) through.0

pub compiled_sums_boot : AcceptedAreOfImages → LinkedPrograms → MeansProgram text_ten (adder 10) → MeansProgram text_twenty (adder 20) → AddersCall → ImagesIgnoreSpans → AddersAreCounted
    → AnyCountedProgramsSum → CompiledSumsBoot
compiled_sums_boot images linked ten twenty calls ignore count law words status old new headlines session s rows before h some view asks layer l =
    let t : AreThere s text_ten text_twenty = are_there images linked layer text_ten text_twenty s l in
    let e : image_words t.one ≡ image_words (adder 10) = image_is ignore text_ten (adder 10) ten t.one t.one_is in
    let k : image_words t.two ≡ image_words (adder 20) = image_is ignore text_twenty (adder 20) twenty t.two t.two_is in
    let (text, printed, shows) = law t.one t.two 200 400 55 210 120 220
    (brings text_ten (adder 10) ten s 1 t.one t.one_is t.first 200 55 _ calls.ten refl) (brings text_twenty (adder 20) twenty s 2 t.two t.two_is t.second 400 210 _ calls.twenty refl) (omega arith)
    (traps_as (image_words t.one) (image_words (adder 10)) 0 120 7 e (count.ten 0)) (traps_as (image_words t.two) (image_words (adder 20)) 0 220 7 k (count.twenty 0))
    words status old new headlines session s rows before h some view
    (asks_system images kernel_text (image_words t.one ∷ image_words t.two ∷ []) words old.shelf.file session s rows h.asked t.users_are asks) in (
      text,
      printed,
      shown_of (environment_of rows old) (booted s rows) (start_state session s rows before) (steps_before session.start (booted s rows)) (length rows.lines) session.turns session.steps status text
          (image_words t.one) (image_words t.two) (image_words (adder 10)) (image_words (adder 20)) e k shows,
    )
