-- What the unit of a user program comes to: its image is put, or refused for its size.
use Rattle.std.specs.Prelude.{nat_lt, ⊤}
use Rattle.std.proofs.Common.{◌≡◌, ℕ, ◌<◌, ◌≤◌, List, [], length, sym, ap, ◌∙◌, subst, lt-ltb}
use Rattle.std.proofs.lemmas.Bool.{cond-true, cond-false, le-ltb}
use Rattle.c0_tree.specs.declared.primitive.Program.TheVariants.{User}
use Rattle.c0_tree.specs.Tree.{CUnit}
use Rattle.c0_parser.specs.Faults.{ReadsAs}
use Rattle.c0_meaning.specs.Fault.{LeastIsThere}
use Rattle.c0_types.specs.Source.{checked_as, source_faults_as}
use Rattle.c0_types.specs.Front.{IsUnitAs}
use Rattle.user_c0.specs.declared.fault.UserFault.{UserFault}
use Rattle.user_c0.specs.declared.fault.UserFault.TheVariants.{TooLarge, Memory}
use Rattle.user_c0.specs.Compiled.{IsSizeFaultOf}
use Rattle.user_c0.specs.Image.{image_words}
use Rattle.user_c0.specs.Program.{MAX_IMAGE}
use Rattle.run_scripts.specs.Refusal.{bad_program}
use Rattle.run_scripts.specs.Plan.{refuses, puts, user_bytes, AfterProgram, program_plan, IsPlan}
use Rattle.cvm_shell.specs.Stages.{program_stop}
use Rattle.cvm_shell.specs.Views.{IfRefused}
use Rattle.cvm_shell.proofs.CodePlans.{plan_compiles}

module _ (law : LeastIsThere) (name source : List ℕ) (u : CUnit) where
  abbrev Typed : Type 0
  Typed = (tree : CUnit) → length source ≤ 1048576 → ReadsAs source tree → (source_faults_as User tree ≡ []) × (u ≡ checked_as User tree)

  large : (words : ℕ) → (words ≡ length (image_words u)) × (MAX_IMAGE < length (image_words u)) → refuses (bad_program (TooLarge words)) ≡ program_plan name u
  large words h =
      ap (λ (n : ℕ). refuses (bad_program (TooLarge n))) h.0
      ∙ sym (cond-true (nat_lt MAX_IMAGE (length (image_words u))) (refuses (bad_program (TooLarge (length (image_words u))))) (puts name (user_bytes (image_words u))) (lt-ltb MAX_IMAGE (length (image_words u)) h.1))

  -- a fault of the unit is refused
  pub refused_plan : (f : UserFault) → length source ≤ 1048576 → IsUnitAs User source u → Typed → IsSizeFaultOf u f → IfRefused (IsPlan ⊤ (AfterProgram name source)) (program_stop f)
  refused_plan (TooLarge words) short is each h = plan_compiles User (program_plan name) law source u short is each (refuses (bad_program (TooLarge words))) (large words h)
  refused_plan Memory short is each h = tt

  -- the image is put
  pub put_plan : (words bytes : List ℕ) → length source ≤ 1048576 → IsUnitAs User source u → Typed → words ≡ image_words u → length words ≤ MAX_IMAGE → bytes ≡ user_bytes words
      → IsPlan ⊤ (AfterProgram name source) (puts name bytes)
  put_plan words bytes short is each image few e =
      let le : length (image_words u) ≤ MAX_IMAGE = subst (λ ws. length ws ≤ MAX_IMAGE) image few in
      plan_compiles User (program_plan name) law source u short is each (puts name bytes)
      (ap (puts name) (e ∙ ap user_bytes image) ∙ sym (cond-false (nat_lt MAX_IMAGE (length (image_words u))) (refuses (bad_program (TooLarge (length (image_words u))))) (puts name (user_bytes (image_words u))) (le-ltb MAX_IMAGE (length (image_words u)) le)))
