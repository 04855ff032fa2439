-- The flat machine of an image holds its program.
use Rattle.std.specs.Prelude.{option_map, slice_get}
use Rattle.std.proofs.Common.{◌≡◌, inl, inr, ◌+◌, ◌-◌, ◌≤◌, length, ap, ◌∙◌, arith}
use Rattle.mips_table.specs.Encoding.{encoding}
use Rattle.layer_map.specs.Map.{layer_words, globals_at, tables_at}
use Rattle.masm.specs.declared.registers.CodeAddresses.{CodeAddresses}
use Rattle.c0_tree.specs.declared.primitive.Program.TheVariants.{User}
use Rattle.c0_tree.specs.Tree.{CUnit}
use Rattle.c0_meaning.specs.Limits.{first_number}
use Rattle.user_c0.specs.Flat.{HoldsProgram}
use Rattle.c0_unit.specs.Laws.{UnitStands}
use Rattle.user_c0.specs.Image.{map_of_image, rooms_of, program_code, program_of}
use Rattle.user_c0.specs.Program.{MAX_IMAGE}
use Rattle.user_c0.proofs.ImageCode as coding

module _ (u : CUnit) (p : CodeAddresses) (st : UnitStands u (first_number User u) p) where
  pub fits : layer_words + length (program_code u) ≤ globals_at (map_of_image u)
  fits = let w = st.words in omega (arith, w)

  pub holds : tables_at (map_of_image u) ≤ MAX_IMAGE → HoldsProgram u (rooms_of u) (program_of u)
  holds small = record {
    sound = let w = fits in coding.sound (program_code u) (tables_at (map_of_image u)) (omega (arith, w)) (omega (arith, small)) st.in_range;
    code = λ k i e. let same : layer_words + k - layer_words ≡ k = omega arith in coding.code_there (program_code u) (layer_words + k) i (omega arith) (ap (slice_get (program_code u)) same ∙ e);
    calls = λ k to e. coding.calls_high (program_code u) (tables_at (map_of_image u)) k to e;
    globals = omega arith;
    heap = omega arith;
    stack = omega arith;
    small = omega arith;
    free = λ k o. elim o [
      | inl is ↦ (let w = fits in let from = is.0 in ap (option_map encoding) (coding.no_code (program_code u) k (omega (arith, w, from)) (inr (omega (arith, w, from)))))
      | inr e ↦ ap (option_map encoding) (coding.no_variable (program_code u) k (omega (arith, e)) (omega (arith, e)))
    ];
  }
