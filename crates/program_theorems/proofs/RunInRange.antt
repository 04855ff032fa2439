-- A system that is run was accepted of an image, under a valid schedule: so its parts are in range.
use Rattle.std.specs.Prelude.{Result}
use Rattle.std.proofs.Common.{◌≡◌, ℕ, ◌≤◌, List, length, Option, Ok, Err, refl}
use Rattle.layer_map.specs.Map.{Map}
use Rattle.c0_tree.specs.Tree.{CUnit}
use Rattle.c0_meaning.specs.Unit.{IsChecked}
use Rattle.c0_types.specs.Front.{IsUnitOf}
use Rattle.boot_image.specs.Parts.{ImageParts as Image}
use Rattle.boot_image.specs.Reading.{answer as image_of}
use Rattle.boot_image.specs.declared.fault.ImageFault.{ImageFault}
use Rattle.schedule_file.specs.Rows.{Rows}
use Rattle.kernel_linker.specs.Accept.{ImageSystem}
use Rattle.kernel_linker.specs.Sources.{AcceptedAreOfImages}
use Rattle.cvm_model.specs.JournalWords.{IsOrdinary}
use Rattle.run_scripts.specs.declared.session.Session.{Session}
use Rattle.run_scripts.specs.Boot.{booted, AskFor, by_boot, by_trace, by_sample}
use Rattle.run_scripts.specs.Plan.{Accepts}
use Rattle.kernel_boots.proofs.EightLines.{few_of}
use Rattle.kernel_boots.proofs.RunsHaveRoom.{roomy, room_of}

module _ (law : AcceptedAreOfImages) (checked : (source : List ℕ) (u : CUnit) → IsUnitOf source u → IsChecked u) where
  of_image : (layer : Map → List ℕ → List ℕ) (bytes : List ℕ) (answer : Result Image ImageFault) (s : ImageSystem) (rows : Rows) → image_of bytes ≡ answer → Accepts layer answer (Ok s)
      → length rows.inputs ≤ 4096 → IsOrdinary (booted s rows) s.unit
  of_image layer bytes (Ok i) s rows e a few =
      let is = law layer i a.0 s a.1 a.2 in
      let room = roomy i s (room_of bytes i e) is in
      record {
        meaning = refl;
        checked = checked i.source s.unit is.unit;
        pages = room.pages;
        few = room.few;
        room = record { users = room.users; input = few };
      }
  of_image layer bytes (Err f) s rows e a few = absurd (cc)

  pub ordinary : (words : List (List ℕ)) (file : List ℕ → Option (List ℕ)) (session : Session) (s : ImageSystem) (rows : Rows) → AskFor words file session s rows → IsOrdinary (booted s rows) s.unit
  ordinary words file session s rows (by_boot b is same files) = of_image _ files.image (image_of files.image) s rows refl files.accepted (few_of files.schedule rows files.valid)
  ordinary words file session s rows (by_trace t is same files) = of_image _ files.image (image_of files.image) s rows refl files.accepted (few_of files.schedule rows files.valid)
  ordinary words file session s rows (by_sample n is same parts) = of_image _ parts.image (image_of parts.image) s rows refl parts.accepted (few_of _ rows parts.valid)
