-- From texts of users' programs to the system that is run: which users it has. This file may be cited from other crates.
use Rattle.std.specs.Prelude.{Result, nat_eq, ◌%◌, if◌then◌else◌, slice_get}
use Rattle.std.proofs.Common.{◌≡◌, ℕ, suc, List, [], ◌∷◌, length, Bool, true, false, Option, Some, Ok, Err, refl, sym, ap, ◌∙◌, arith}
use Rattle.cvm_words.specs.Bytes.{words_of_bytes}
use Rattle.system_files.specs.declared.fault.FileFault.{FileFault}
use Rattle.system_files.specs.declared.fault.FileFault.TheVariants.{UserTorn}
use Rattle.layer_map.specs.Map.{Map}
use Rattle.c0_tree.specs.declared.primitive.Program.TheVariants.{User}
use Rattle.c0_tree.specs.Tree.{CUnit}
use Rattle.c0_types.specs.Front.{IsUnitAs}
use Rattle.boot_image.specs.Parts.{ImageParts as Image}
use Rattle.boot_image.specs.Reading.{answer as image_of}
use Rattle.boot_image.specs.declared.fault.ImageFault.{ImageFault}
use Rattle.schedule_file.specs.Rows.{Rows}
use Rattle.kernel_linker.specs.Accept.{ImageSystem}
use Rattle.kernel_linker.specs.Sources.{AcceptedAreOfImages}
use Rattle.user_c0.specs.Image.{image_words}
use Rattle.run_scripts.specs.declared.session.Session.{Session}
use Rattle.run_scripts.specs.Boot.{AskFor, by_boot, by_trace, by_sample}
use Rattle.run_scripts.specs.Plan.{Accepts, user_words_from, before_them}
use Rattle.cvm_shell.specs.Programs.{HasProgram, LinkedPrograms}
use Rattle.real_layer.specs.Image.{layer_image}
use Rattle.kernel_boots.specs.Boots.{AsksSource, HasSource}
use Rattle.kernel_boots.specs.Systems.{AsksSystem, HasSystem}
use Rattle.kernel_boots.specs.Linked.{IsLinkedOf}
use Rattle.kernel_boots.proofs.StatesShown.{of_image}

-- files have as many users' words as there are files
words_length : (first : ℕ) (files words : List (List ℕ)) → user_words_from first files ≡ Ok words → length words ≡ length files
words_length first [] words e = let same : [] ≡ words = cc in sym (ap length same)
words_length first (f ∷ files) words e = by (nat_eq (length f % 4) 0) e (λ rest. words_length (suc first) files rest)
  where
    before : (r : Result (List (List ℕ)) FileFault) → user_words_from (suc first) files ≡ r → before_them (words_of_bytes f) r ≡ Ok words
        → ((rest : List (List ℕ)) → user_words_from (suc first) files ≡ Ok rest → length rest ≡ length files) → length words ≡ suc (length files)
    before (Ok rest) q k more = let same : words_of_bytes f ∷ rest ≡ words = cc in sym (ap length same) ∙ ap suc (more rest q)
    before (Err x) q k more = absurd (cc)

    by : (b : Bool) → (if b then before_them (words_of_bytes f) (user_words_from (suc first) files) else Err (UserTorn first (length f))) ≡ Ok words
        → ((rest : List (List ℕ)) → user_words_from (suc first) files ≡ Ok rest → length rest ≡ length files) → length words ≡ suc (length files)
    by true k more = before (user_words_from (suc first) files) refl k more
    by false k more = absurd (cc)

-- two users that are known
two_users : (us : List (List ℕ)) (a b : List ℕ) → length us ≡ 2 → slice_get us 0 ≡ Some a → slice_get us 1 ≡ Some b → us ≡ a ∷ b ∷ []
two_users [] a b e h k = absurd (omega (arith, e))
two_users (x ∷ []) a b e h k = absurd (omega (arith, e))
two_users (x ∷ y ∷ []) a b e h k = let p : x ≡ a = cc in let q : y ≡ b = cc in cc
two_users (x ∷ y ∷ z ∷ us) a b e h k = absurd (omega (arith, e))

same_users : AcceptedAreOfImages → (layer : Map → List ℕ → List ℕ) (answer : Result Image ImageFault) (s r : ImageSystem) → Accepts layer answer (Ok s) → Accepts layer answer (Ok r) → s.users ≡ r.users
same_users law layer (Ok i) s r a b = (law layer i a.0 s a.1 a.2).users ∙ sym (law layer i b.0 r b.1 b.2).users
same_users law layer (Err f) s r a b = absurd (cc)

-- an image with the source, whose system has these users
has_system : AcceptedAreOfImages → (source : List ℕ) (users : List (List ℕ)) (bytes : List ℕ) (s : ImageSystem) → Accepts layer_image (image_of bytes) (Ok s) → s.users ≡ users
    → HasSource source bytes → HasSystem source users bytes
has_system law source users bytes s accepted same h = (h.0, h.1, h.2, sym (of_image law source bytes s accepted h).users ∙ same)

pub asks_system : AcceptedAreOfImages → (source : List ℕ) (users : List (List ℕ)) (words : List (List ℕ)) (file : List ℕ → Option (List ℕ)) (session : Session) (s : ImageSystem) (rows : Rows)
    → (a : AskFor words file session s rows) → s.users ≡ users → AsksSource source a → AsksSystem source users a
asks_system law source users words file session s rows (by_boot b is same files) e h = has_system law source users files.image s files.accepted e h
asks_system law source users words file session s rows (by_trace t is same files) e h = has_system law source users files.image s files.accepted e h
asks_system law source users words file session s rows (by_sample x is same parts) e h = has_system law source users parts.image s parts.accepted e h

-- WHAT THE TWO FILES ARE in the system: the programs of the texts
pub record AreThere (s : ImageSystem) (first_text second_text : List ℕ) : Type 0 where
  pub one : CUnit
  pub two : CUnit
  pub one_is : IsUnitAs User first_text one
  pub two_is : IsUnitAs User second_text two
  pub first : HasProgram one s 1
  pub second : HasProgram two s 2
  pub users_are : s.users ≡ image_words one ∷ image_words two ∷ []

pub are_there : AcceptedAreOfImages → LinkedPrograms → (layer : Map → List ℕ → List ℕ) (first_text second_text : List ℕ) (s : ImageSystem) → IsLinkedOf layer first_text second_text s → AreThere s first_text second_text
are_there law linked layer first_text second_text s l =
    let (one, p) = linked.compiled l.first_name first_text l.first_file l.first_put in
    let (two, q) = linked.compiled l.second_name second_text l.second_file l.second_put in
    let a : HasProgram one s 1 = linked.linked layer l.object l.params (l.first_file ∷ l.second_file ∷ []) l.image l.linked 1 l.first_file first_text one refl p s l.accepted in
    let b : HasProgram two s 2 = linked.linked layer l.object l.params (l.first_file ∷ l.second_file ∷ []) l.image l.linked 2 l.second_file second_text two refl q s l.accepted in
    let same : s.users ≡ l.linked.words = same_users law layer (image_of l.image) s _ l.accepted l.linked.accepted.accepted in
    let count : length s.users ≡ 2 = ap length same ∙ words_length 1 (l.first_file ∷ l.second_file ∷ []) l.linked.words l.linked.words_are in
    record { one = one; two = two; one_is = p.unit; two_is = q.unit; first = a; second = b; users_are = two_users s.users (image_words one) (image_words two) count a.words b.words }
