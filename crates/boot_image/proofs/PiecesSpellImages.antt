-- The pieces of an image one after another: its spelling is they, and its first pieces are the mark, its first fields, and then its
-- first parts.
use Rattle.std.proofs.Common.{◌≡◌, ℕ, zero, suc, ◌+◌, ◌<◌, ◌≤◌, List, [], ◌∷◌, ◌++◌, length, get_or, take, map, refl, sym, ap, ◌∙◌, append_assoc, arith}
use Rattle.std.specs.Prelude.{codes}
use Rattle.std.specs.List.{concat, flat_map}
use Rattle.cvm_words.specs.Bytes.{word}
use Rattle.cvm_words.proofs.BytesOfWords.{length-word}
use Rattle.boot_image.specs.Parts.{ImageParts}
use Rattle.boot_image.specs.Format.{fields, spelling}
use Rattle.boot_image.specs.Answer.{pieces}

-- the source, the linked words, and the words of each user
abbrev pub parts : ImageParts → List (List ℕ)
parts i = i.source ∷ flat_map word i.words ∷ map (flat_map word) i.users

pub concat-append : (xs ys : List (List ℕ)) → concat (xs ++ ys) ≡ concat xs ++ concat ys
concat-append [] ys = refl
concat-append (x ∷ xs) ys = ap (λ (l : List ℕ). x ++ l) (concat-append xs ys) ∙ sym (append_assoc x (concat xs) (concat ys))

pub concat-map : {X : Type 0} (f : X → List ℕ) (xs : List X) → concat (map f xs) ≡ flat_map f xs
concat-map f [] = refl
concat-map f (x ∷ xs) = ap (λ (l : List ℕ). f x ++ l) (concat-map f xs)

pub parts_spell : (i : ImageParts) → concat (parts i) ≡ i.source ++ (flat_map word i.words ++ flat_map (flat_map word) i.users)
parts_spell i = ap (λ (l : List ℕ). i.source ++ (flat_map word i.words ++ l)) (concat-map (flat_map word) i.users)

pub pieces_spell : (i : ImageParts) → concat (pieces i) ≡ spelling i
pieces_spell i =
    ap (λ (l : List ℕ). codes "CVMI" ++ l)
    (concat-append (map word (fields i)) (parts i) ∙ ap (λ (l : List ℕ). l ++ concat (parts i)) (concat-map word (fields i))
    ∙ ap (λ (l : List ℕ). flat_map word (fields i) ++ l) (parts_spell i))

-- ---- the fields

pub fields_front : (ns : List ℕ) (ps : List (List ℕ)) (j : ℕ) → j ≤ length ns → concat (take j (map word ns ++ ps)) ≡ flat_map word (take j ns)
fields_front ns ps zero few = refl
fields_front [] ps (suc j) few = absurd (omega arith)
fields_front (n ∷ ns) ps (suc j) few = ap (λ (l : List ℕ). word n ++ l) (fields_front ns ps j (omega arith))

pub field_piece : (ns : List ℕ) (ps : List (List ℕ)) (j : ℕ) → j < length ns → length (get_or (map word ns ++ ps) j []) ≡ 4
field_piece [] ps j lt = absurd (omega arith)
field_piece (n ∷ ns) ps zero lt = length-word n
field_piece (n ∷ ns) ps (suc j) lt = field_piece ns ps j (omega arith)

-- ---- the parts

pub parts_front : (ns : List ℕ) (ps : List (List ℕ)) (j m : ℕ) → m ≡ length ns + j → concat (take m (map word ns ++ ps)) ≡ flat_map word ns ++ concat (take j ps)
parts_front [] ps j m is = let same : m ≡ j = omega (arith, is) in ap (λ (k : ℕ). concat (take k ps)) same
parts_front (n ∷ ns) ps j zero is = absurd (omega (arith, is))
parts_front (n ∷ ns) ps j (suc m) is =
    ap (λ (l : List ℕ). word n ++ l) (parts_front ns ps j m (omega (arith, is))) ∙ sym (append_assoc (word n) (flat_map word ns) (concat (take j ps)))

pub part_piece : (ns : List ℕ) (ps : List (List ℕ)) (j m : ℕ) → m ≡ length ns + j → get_or (map word ns ++ ps) m [] ≡ get_or ps j []
part_piece [] ps j m is = let same : m ≡ j = omega (arith, is) in ap (λ (k : ℕ). get_or ps k []) same
part_piece (n ∷ ns) ps j zero is = absurd (omega (arith, is))
part_piece (n ∷ ns) ps j (suc m) is = part_piece ns ps j m (omega (arith, is))
