-- Which structs the fields of a struct are made of, by numbers.
use Rattle.std.specs.Prelude.{◌≡◌, ℕ, zero, suc, ◌+◌, min, Bool, false, if◌then◌else◌, List, [], ◌∷◌, ◌++◌, map, length, get_or, Option, None, Some}
use Rattle.std.specs.Option.{option_to_list}
use Rattle.c0_tree.specs.Tree.{CTy, int, bool, pointer, named, array, CDecl, CStruct}
use Rattle.c0_meaning.specs.Ty as ty
use Rattle.c0_meaning.specs.Env.{shape_of}
use Rattle.c0_meaning.specs.Words.{holds, words}
use Rattle.c0_name_check.specs.Names.{number_named}
use Rattle.c0_meaning.specs.Sizes.{WORDS_CAP}
use Rattle.c0_name_check.specs.Structs.{capped_words, listed_words}
use Rattle.c0_struct_sizes.specs.Graph.{IsIn, IsOrder}

-- the number of the struct that a type is, or is an array of
abbrev pub struct_number : (List ℕ → Option ℕ) → CTy → Option ℕ
struct_number number int = None
struct_number number bool = None
struct_number number (pointer t) = None
struct_number number (named x) = number x.text
struct_number number (array t n) = struct_number number t

-- the numbers of the structs that fields are made of
abbrev pub parts : (List ℕ → Option ℕ) → List CDecl → List ℕ
parts number [] = []
parts number (d ∷ rest) = option_to_list (struct_number number d.ty) ++ parts number rest

-- the words of fields one after another, those of each field up to the cap
abbrev pub all_capped : (List ℕ → Option ℕ) → List ℕ → List CDecl → ℕ
all_capped number sizes [] = 0
all_capped number sizes (d ∷ rest) = capped_words number sizes d.ty + all_capped number sizes rest

-- the fields of the struct of a number
abbrev pub fields_at : List CStruct → ℕ → List CDecl
fields_at [] v = []
fields_at (s ∷ rest) zero = s.fields
fields_at (s ∷ rest) (suc v) = fields_at rest v

-- the graph of structs: a struct has an edge to each struct that its fields are made of
abbrev pub edges : (List ℕ → Option ℕ) → List CStruct → ℕ → List ℕ
edges number structs v = parts number (fields_at structs v)

-- the words, up to the cap, of the struct of a number: there are none to tell where no name has the number
abbrev pub AreWordsOf : (List ℕ → Option ℕ) → List CStruct → ℕ → ℕ → Type 0
AreWordsOf number structs v count = (text : List ℕ) → number text ≡ Some v → count ≡ min (words (map shape_of structs) (ty.named text)) WORDS_CAP

-- the words, up to the cap, of the struct of a number by those of its parts, where it is known whether it leads to itself
abbrev pub words_by_parts : (List ℕ → Option ℕ) → List CStruct → List Bool → List ℕ → ℕ → ℕ
words_by_parts number structs turning sizes v = if get_or turning v false then 0 else min (all_capped number sizes (fields_at structs v)) WORDS_CAP

-- the words that a list gives these structs are right
abbrev pub AreWordsAmong : (List ℕ → Option ℕ) → List CStruct → List ℕ → List ℕ → Type 0
AreWordsAmong number structs nodes sizes = (v : ℕ) → IsIn nodes v → AreWordsOf number structs v (get_or sizes v 0)

-- a name's number is that of the first struct of the name
abbrev pub TellsFirst : (List ℕ → Option ℕ) → List CStruct → Type 0
TellsFirst number structs = (text : List ℕ) → number text ≡ number_named (λ s. s.text) text 0 (map shape_of structs)

-- an order of the structs in which parts come before wholes
abbrev pub IsOrderOver : (List ℕ → Option ℕ) → List CStruct → List ℕ → List Bool → Type 0
IsOrderOver number structs nodes turning = IsOrder (edges number structs) (length structs) nodes turning

-- the words that a list gives structs by their numbers
abbrev pub words_listed : List ℕ → (List ℕ → Option ℕ) → List CStruct → List ℕ
words_listed words number structs = map (λ x. listed_words words (number x.name.text)) structs

-- whether a number, if there is one, leads to itself by a list
abbrev pub listed_turning : List Bool → Option ℕ → Bool
listed_turning turning None = false
listed_turning turning (Some v) = get_or turning v false

-- and which of the structs do
abbrev pub turning_listed : List Bool → (List ℕ → Option ℕ) → List CStruct → List Bool
turning_listed turning number structs = map (λ x. listed_turning turning (number x.name.text)) structs

-- which structs hold themselves
abbrev pub holding_themselves : List CStruct → List Bool
holding_themselves structs = map (λ x. holds (map shape_of structs) x.name.text x.name.text) structs
