-- What is answered of an object, parameters and users that are to be linked: the users are counted and measured, the parameters are looked
-- at, and the object is opened. The first fault answers; where none stands, the image of the source, the parameters and the users does, with
-- its linked words.
use Rattle.std.specs.Prelude.{ℕ, suc, ◌||◌, nat_lt, List, [], ◌∷◌, length, Result, Ok, Err, if◌then◌else◌}
use Rattle.cvm_words.specs.Reading.{◌>>=◌, GivesUnless}
use Rattle.layer_map.specs.declared.params.Params.{Params}
use Rattle.layer_map.specs.Map.{Map}
use Rattle.boot_image.specs.Format.{most_user_words}
use Rattle.boot_image.specs.Parts.{ImageParts as Image}
use Rattle.object_file.specs.Parts.{ObjectParts as Object}
use Rattle.c0_tree.specs.Tree.{CUnit}
use Rattle.c0_types.specs.declared.source_fault.SourceFault.{SourceFault}
use Rattle.kernel_linker.specs.Answers.{FrontGives}
use Rattle.kernel_linker.specs.Linked.{linked, sizes_of}
use Rattle.kernel_linker.specs.Open.{open_answer}
use Rattle.kernel_linker.specs.declared.fault.LinkFault.{LinkFault}
use Rattle.kernel_linker.specs.declared.fault.LinkFault.TheVariants.{UserCount, UserTooLong, Parameter, Memory}

-- at most 64 users
unfoldable pub users_counted : List (List ℕ) → Result (Unit {0}) LinkFault
users_counted users = if nat_lt 64 (length users) then Err (UserCount (length users)) else Ok tt

-- no user has more than so many words; the first of them has this number
abbrev pub measured : (most user : ℕ) → List (List ℕ) → Result (Unit {0}) LinkFault
measured most user [] = Ok tt
measured most user (words ∷ rest) = if nat_lt most (length words) then Err (UserTooLong user (length words)) else measured most (suc user) rest

-- a parameter is in its range
unfoldable pub ranged : (which least most value : ℕ) → Result (Unit {0}) LinkFault
ranged which least most value = if nat_lt value least || nat_lt most value then Err (Parameter which value) else Ok tt

-- the parameters are in their ranges
unfoldable pub in_range : Params → Result (Unit {0}) LinkFault
in_range p = do
  pages ← ranged 1 1 1024 p.pages
  frames ← ranged 2 2 16384 p.frames
  heap ← ranged 3 0 1048576 p.heap
  ranged 4 64 262144 p.stack

-- there can be a system of these parameters and users
unfoldable pub fitting : Params → List (List ℕ) → Result (Unit {0}) LinkFault
fitting p users = do
  few ← users_counted users
  short ← measured (most_user_words p.pages) 1 users
  in_range p

-- LINK, over a layer that has these words for a map and sizes, where the front came to this on the object's source
unfoldable pub link_answer : (layer : Map → List ℕ → List ℕ) → Object → Params → List (List ℕ) → Result CUnit SourceFault → Result Image LinkFault
link_answer layer o p users front = do
  fit ← fitting p users
  u ← open_answer o front
  Ok (record { params = p; form = 3; source = o.source; words = linked layer u p (sizes_of users); users = users })

-- a result is the answer that is due, by what the front comes to on the object's source, or want of memory
abbrev pub LinksBy : (layer : Map → List ℕ → List ℕ) → Object → Params → (users : List (List ℕ)) → Result Image LinkFault → Type 0
LinksBy layer o p users result =
    (front : Result CUnit SourceFault) × FrontGives o.source front × GivesUnless Memory (λ i. i) result (link_answer layer o p users front)
