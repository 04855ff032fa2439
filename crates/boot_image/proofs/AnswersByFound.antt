-- What is answered, by what was found.
use Rattle.std.proofs.Common.{◌≡◌, ℕ, List, Result, Ok, Err, refl, sym, ap, subst}
use Rattle.boot_image.specs.declared.fault.ImageFault.{ImageFault}
use Rattle.boot_image.specs.declared.fault.ImageFault.TheVariants.{Memory}
use Rattle.boot_image.specs.declared.reading.Header.{Header}
use Rattle.boot_image.specs.Parts.{ImageParts}
use Rattle.cvm_words.specs.Reading.{◌>>=◌, GivesOkUnless}
use Rattle.boot_image.specs.Reading.{header_of, old_header_of, parts_of, image_of, image_at, answer, old_answer}

abbrev pub Found : Type 0
Found = Result (Header × (List ℕ × List ℕ)) ImageFault

abbrev pub Parted : Type 0
Parted = Result (List ℕ × (List ℕ × List ℕ)) ImageFault

abbrev pub then_image : Header → List ℕ → Parted → Result ImageParts ImageFault
then_image h counts r = r >>= λ p. Ok (image_of h counts p.0 p.1.0 p.1.1)

-- the answer where the header was found
abbrev pub answered : Found → Result ImageParts ImageFault
answered r = r >>= λ h. image_at h.0 h.1.0 h.1.1

pub answer_by : (bytes : List ℕ) (r : Found) → header_of bytes ≡ r → answer bytes ≡ answered r
unfolding answer
answer_by bytes r is = ap answered is

pub old_answer_by : (bytes : List ℕ) (r : Found) → old_header_of bytes ≡ r → old_answer bytes ≡ answered r
unfolding old_answer
old_answer_by bytes r is = ap answered is

pub answered_parts : (h : Header) (counts rest : List ℕ) (r : Parted) → parts_of h counts rest ≡ r → answered (Ok (h, (counts, rest))) ≡ then_image h counts r
answered_parts h counts rest r parts = ap (then_image h counts) parts

pub gives_fault : (a : Result ImageParts ImageFault) (e : ImageFault) → a ≡ Err e → GivesOkUnless Memory (Err e) a
gives_fault a e is = subst (λ (b : Result ImageParts ImageFault). GivesOkUnless Memory (Err e) b) (sym is) refl

pub gives_memory : (a : Result ImageParts ImageFault) (i : ImageParts) → a ≡ Ok i → GivesOkUnless Memory (Err Memory) a
gives_memory a i is = subst (λ (b : Result ImageParts ImageFault). GivesOkUnless Memory (Err Memory) b) (sym is) refl

pub gives_image : (a : Result ImageParts ImageFault) (i : ImageParts) → a ≡ Ok i → GivesOkUnless Memory (Ok i) a
gives_image a i is = subst (λ (b : Result ImageParts ImageFault). GivesOkUnless Memory (Ok i) b) (sym is) refl

-- what is given of the bytes behind the header is given of all of them
pub gives_behind : (r : Result ImageParts ImageFault) (a b : Result ImageParts ImageFault) → a ≡ b → GivesOkUnless Memory r b → GivesOkUnless Memory r a
gives_behind r a b is h = subst (λ (c : Result ImageParts ImageFault). GivesOkUnless Memory r c) (sym is) h
