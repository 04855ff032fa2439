-- What a user program is compiled to, and why it isn't.
use Rattle.std.specs.Prelude.{◌≡◌, ℕ, ◌<◌, ◌≤◌, List, [], ◌∷◌, length, All}
use Rattle.mips_table.specs.Fits.{IsWord}
use Rattle.c0_tree.specs.declared.primitive.Program.TheVariants.{User}
use Rattle.c0_tree.specs.Tree.{CUnit}
use Rattle.c0_meaning.specs.Unit.{IsCheckedAs}
use Rattle.layer_map.specs.Map.{tables_at}
use Rattle.user_c0.specs.declared.fault.UserFault.{UserFault}
use Rattle.user_c0.specs.declared.fault.UserFault.TheVariants.{TooLarge, Memory}
use Rattle.user_c0.specs.Image.{map_of_image, image_words}
use Rattle.user_c0.specs.Program.{MAX_IMAGE}

-- what is printed of a fault: its number, and the words of an image that is too large
abbrev pub fault_number : UserFault → ℕ
fault_number (TooLarge words) = 37
fault_number Memory = 38

abbrev pub fault_fields : UserFault → List ℕ
fault_fields (TooLarge words) = words ∷ []
fault_fields Memory = []

-- A LAW: an image has as many words as its parts take, which is whole pages
abbrev pub ImagesAreWhole : Type 0
ImagesAreWhole = (u : CUnit) → IsCheckedAs User u → length (image_words u) ≡ tables_at (map_of_image u)

-- A LAW: where an image isn't too large, each of its words is below 2^32
abbrev pub ImagesAreWords : Type 0
ImagesAreWords = (u : CUnit) → IsCheckedAs User u → tables_at (map_of_image u) ≤ MAX_IMAGE → All IsWord (image_words u)

-- a program is refused for its size where its image has more words than an image may have, and these are its words
abbrev pub IsSizeFaultOf : CUnit → UserFault → Type 0
IsSizeFaultOf u (TooLarge words) = (words ≡ length (image_words u)) × (MAX_IMAGE < length (image_words u))
IsSizeFaultOf u Memory = Unit {0}
