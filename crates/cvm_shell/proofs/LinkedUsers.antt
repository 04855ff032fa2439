-- From the file that `compile program` puts to the words of a linked user.
use Rattle.std.specs.Prelude.{nat_eq, nat_lt, ◌%◌, ◌-◌, if◌then◌else◌, Result, slice_get}
use Rattle.std.specs.List.{AllByRecursion}
use Rattle.std.proofs.Common.{◌≡◌, ℕ, zero, suc, ◌^◌, ◌<◌, ◌≤◌, Bool, true, false, All, List, [], ◌∷◌, length, Ok, Err, Some, refl, sym, ap, ◌∙◌, arith}
use Rattle.std.proofs.lemmas.Bool.{ltb-false}
use Rattle.std.proofs.lemmas.List.Elements.{All-head, All-tail}
use Rattle.cvm_words.specs.Bytes.{word, words_of_bytes}
use Rattle.cvm_words.proofs.BytesOfWords.{words_of-words}
use Rattle.mips_table.specs.Fits.{IsWord}
use Rattle.c0_tree.specs.declared.primitive.Program.TheVariants.{User}
use Rattle.c0_tree.specs.Tree.{CUnit}
use Rattle.c0_meaning.specs.Unit.{IsCheckedAs}
use Rattle.c0_types.specs.Front.{IsUnitAs}
use Rattle.boot_image.specs.Parts.{ImageParts as Image}
use Rattle.boot_image.specs.Reading.{answer as image_of}
use Rattle.boot_image.specs.declared.fault.ImageFault.{ImageFault}
use Rattle.kernel_linker.specs.Accept.{ImageSystem}
use Rattle.kernel_linker.specs.Sources.{AcceptedAreOfImages}
use Rattle.layer_map.specs.Map.{Map, tables_at}
use Rattle.system_files.specs.declared.fault.FileFault.{FileFault}
use Rattle.system_files.specs.declared.fault.FileFault.TheVariants.{UserTorn}
use Rattle.user_c0.specs.Compiled.{ImagesAreWhole, ImagesAreWords}
use Rattle.user_c0.specs.declared.fault.UserFault.TheVariants.{TooLarge}
use Rattle.user_c0.specs.Image.{map_of_image, image_words}
use Rattle.user_c0.specs.Program.{MAX_IMAGE}
use Rattle.run_scripts.specs.Refusal.{Refusal, bad_program, bad_source}
use Rattle.run_scripts.specs.Plan.{Plan, refuses, puts, user_bytes, Accepts, program_plan, AfterProgram, user_words_from, before_them}
use Rattle.cvm_shell.specs.Programs.{IsProgramFile, LinkedPrograms}

no_put : (r : Refusal) (name bytes : List ℕ) → refuses r ≡ puts name bytes → ⊥
no_put r name bytes e = cc

same_bytes : (name a b : List ℕ) → puts name a ≡ puts name b → b ≡ a
same_bytes name a b e = cc

-- what is put of a unit is its image, which isn't too large
put_of : (name bytes : List ℕ) (u : CUnit) → program_plan name u ≡ puts name bytes → (length (image_words u) ≤ MAX_IMAGE) × (bytes ≡ user_bytes (image_words u))
put_of name bytes u e = by (nat_lt MAX_IMAGE (length (image_words u))) refl e
  where
    by : (b : Bool) → nat_lt MAX_IMAGE (length (image_words u)) ≡ b → (if b then refuses (bad_program (TooLarge (length (image_words u)))) else puts name (user_bytes (image_words u))) ≡ puts name bytes
        → (length (image_words u) ≤ MAX_IMAGE) × (bytes ≡ user_bytes (image_words u))
    by true q h = absurd (no_put (bad_program (TooLarge (length (image_words u)))) name bytes h)
    by false q h = let le = ltb-false MAX_IMAGE (length (image_words u)) q in (omega (arith, le), same_bytes name (user_bytes (image_words u)) bytes h)

compiled : (name source bytes : List ℕ) (p : Plan) → AfterProgram name source p → p ≡ puts name bytes → (u : CUnit) × IsProgramFile source u bytes
compiled name source bytes p (Err f, is, same) e = absurd (no_put (bad_source f) name bytes (sym same ∙ e))
compiled name source bytes p (Ok u, is, same) e = let r = put_of name bytes u (sym same ∙ e) in (u, record { unit = is; small = r.0; bytes_are = r.1 })

-- words are read back from their bytes
bits : (ws : List ℕ) → All IsWord ws → AllByRecursion (λ w. w < 2 ^ 32) ws
bits [] h = tt
bits (w ∷ ws) h = (All-head IsWord w ws h, bits ws (All-tail IsWord w ws h))

read_back : (ws : List ℕ) → All IsWord ws → words_of_bytes (user_bytes ws) ≡ ws
unfolding word
read_back ws h = words_of-words ws (bits ws h)

-- a file's words are those of its user
users_words : (first : ℕ) (files words : List (List ℕ)) (i : ℕ) (file : List ℕ) → user_words_from first files ≡ Ok words → slice_get files i ≡ Some file → slice_get words i ≡ Some (words_of_bytes file)
users_words first [] words i file e h = absurd (cc)
users_words first (f ∷ files) words i file e h = by (nat_eq (length f % 4) 0) e (λ k rest. users_words (suc first) files rest k file)
  where
    place : (i : ℕ) (rest : List (List ℕ)) → slice_get (f ∷ files) i ≡ Some file → ((k : ℕ) → slice_get files k ≡ Some file → slice_get rest k ≡ Some (words_of_bytes file)) → slice_get (words_of_bytes f ∷ rest) i ≡ Some (words_of_bytes file)
    place zero rest h more = let same : f ≡ file = cc in ap (λ (b : List ℕ). Some (words_of_bytes b)) same
    place (suc i) rest h more = more i h

    before : (r : Result (List (List ℕ)) FileFault) → user_words_from (suc first) files ≡ r → before_them (words_of_bytes f) r ≡ Ok words
        → ((k : ℕ) (rest : List (List ℕ)) → user_words_from (suc first) files ≡ Ok rest → slice_get files k ≡ Some file → slice_get rest k ≡ Some (words_of_bytes file)) → slice_get words i ≡ Some (words_of_bytes file)
    before (Ok rest) q k more = let same : words_of_bytes f ∷ rest ≡ words = cc in ap (λ (ws : List (List ℕ)). slice_get ws i) (sym same) ∙ place i rest h (λ k g. more k rest q g)
    before (Err x) q k more = absurd (cc)

    by : (b : Bool) → (if b then before_them (words_of_bytes f) (user_words_from (suc first) files) else Err (UserTorn first (length f))) ≡ Ok words
        → ((k : ℕ) (rest : List (List ℕ)) → user_words_from (suc first) files ≡ Ok rest → slice_get files k ≡ Some file → slice_get rest k ≡ Some (words_of_bytes file)) → slice_get words i ≡ Some (words_of_bytes file)
    by true k more = before (user_words_from (suc first) files) refl k more
    by false k more = absurd (cc)

-- an image is accepted as systems of the same users
same_users : AcceptedAreOfImages → (layer : Map → List ℕ → List ℕ) (answer : Result Image ImageFault) (s r : ImageSystem) → Accepts layer answer (Ok s) → Accepts layer answer (Ok r) → s.users ≡ r.users
same_users law layer (Ok i) s r a b = (law layer i a.0 s a.1 a.2).users ∙ sym (law layer i b.0 r b.1 b.2).users
same_users law layer (Err f) s r a b = absurd (cc)

pub linked_programs : ((source : List ℕ) (u : CUnit) → IsUnitAs User source u → IsCheckedAs User u) → ImagesAreWhole → ImagesAreWords → AcceptedAreOfImages → LinkedPrograms
linked_programs checks whole words law = record {
  compiled = λ name source bytes h. compiled name source bytes (puts name bytes) h refl;
  linked = λ layer object params files image a u file source program there is s accepts.
      let checked = checks source program is.unit in
      let size = whole program checked in
      let few = is.small in
      let small : tables_at (map_of_image program) ≤ MAX_IMAGE = omega (arith, size, few) in
      record {
        checked = checked;
        small = small;
        words =
            ap (λ (us : List (List ℕ)). slice_get us (u - 1)) (same_users law layer (image_of image) s _ accepts a.accepted.accepted)
            ∙ users_words 1 files a.words (u - 1) file a.words_are there
            ∙ ap Some (ap words_of_bytes is.bytes_are ∙ read_back (image_words program) (words program checked small));
      };
}
