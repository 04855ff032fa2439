-- A text means the tree that it comes to without its places.
use Rattle.std.proofs.Common.{◌≡◌, ℕ, List, refl, sym, ap, ◌∙◌}
use Rattle.std.specs.Prelude.{Result, Ok}
use Rattle.c0_tree.specs.declared.primitive.Program.TheVariants.{User}
use Rattle.c0_tree.specs.Tree.{CUnit}
use Rattle.c0_meaning.specs.Bare.{bare}
use Rattle.c0_meaning.specs.UserProgram.{prog}
use Rattle.c0_meaning.specs.ProgramLaws.{ProgramsIgnoreSpans}
use Rattle.c0_parser.specs.Walk.{tree_of, ReadByWalks}
use Rattle.c0_types.specs.declared.source_fault.SourceFault.{SourceFault}
use Rattle.c0_types.specs.Front.{IsFrontAnswer, IsAnswerAs, IsUnitAs}
use Rattle.c0_types.specs.Source.{checked_unit, checked_as}
use Rattle.cvm_model.specs.KernelMeaning.{kernel_meaning}
use Rattle.cvm_model.specs.SpansIgnored.{MeaningsIgnoreSpans}
use Rattle.kernel_theorems.specs.Text.{TextsMeanTrees, ProgramTextsMeanTrees}

abbrev pub OneAnswer : Type 0
OneAnswer = (source : List ℕ) (a b : Result CUnit SourceFault) → IsFrontAnswer source a → IsFrontAnswer source b → a ≡ b

same_unit : (u w : CUnit) → ◌≡◌ {A = Result CUnit SourceFault} (Ok u) (Ok w) → u ≡ w
same_unit u w e = cc

pub texts_mean_trees : ReadByWalks → OneAnswer → MeaningsIgnoreSpans → TextsMeanTrees
texts_mean_trees reads one ignore n text tree t u p h =
    let w : CUnit = checked_unit (tree_of n text) in
    let same : u ≡ w = same_unit u w (one text (Ok u) (Ok w) h (record { short = t.short; tree = tree_of n text; reads = reads n text t.reads; faultless = t.faultless; resolved = refl })) in
    ap (λ v. kernel_meaning v p) same ∙ sym (ignore w p) ∙ ap (λ v. kernel_meaning v p) t.is

abbrev pub OneProgram : Type 0
OneProgram = (source : List ℕ) (a b : Result CUnit SourceFault) → IsAnswerAs User source a → IsAnswerAs User source b → a ≡ b

pub program_texts : ReadByWalks → OneProgram → ProgramsIgnoreSpans → ProgramTextsMeanTrees
program_texts reads one ignore n text tree t = record {
  tree_is = tree_is;
  program_is = λ u h answers n. sym (ignore u answers n) ∙ ap (λ v. prog v answers n) (tree_is u h);
}
  where
    tree_is : (u : CUnit) → IsUnitAs User text u → bare u ≡ tree
    tree_is u h =
        let w : CUnit = checked_as User (tree_of n text) in
        let same : u ≡ w = same_unit u w (one text (Ok u) (Ok w) h (record { short = t.short; tree = tree_of n text; reads = reads n text t.reads; faultless = t.faultless; resolved = refl })) in
        ap bare same ∙ t.is
