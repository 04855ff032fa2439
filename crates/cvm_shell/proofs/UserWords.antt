-- The words of users, file by file: those that were read stand before what the files that are left come to.
use Rattle.std.proofs.Common.{◌≡◌, ℕ, suc, ◌+◌, ◌<◌, ◌%◌, List, [], ◌∷◌, ◌++◌, length, map, drop, get_or, Vec, Global, refl, sym, ap, ◌∙◌, arith, append_assoc, Ok, Err, eq-eqb}
use Rattle.std.specs.Prelude.{Result, flat_map}
use Rattle.std.proofs.lemmas.List.{drop_more}
use Rattle.cvm_words.specs.Bytes.{word, words_of_bytes}
use Rattle.cvm_words.proofs.BytesOfWords.{length-words}
use Rattle.system_files.specs.declared.fault.FileFault.{FileFault}
use Rattle.run_scripts.specs.Plan.{user_words_from, before_them}

-- words that were read, before what is still to be read
abbrev pub behind : List (List ℕ) → Result (List (List ℕ)) FileFault → Result (List (List ℕ)) FileFault
behind users (Ok rest) = Ok (users ++ rest)
behind users (Err f) = Err f

-- the words of a file
whole_words : (words bytes : List ℕ) → flat_map word words ≡ bytes → length bytes % 4 ≡ 0
whole_words words bytes e = omega (arith, length-words words, ap length e)

read_next : (user : ℕ) (bytes : List ℕ) (rest : List (List ℕ)) → length bytes % 4 ≡ 0 → user_words_from user (bytes ∷ rest) ≡ before_them (words_of_bytes bytes) (user_words_from (suc user) rest)
read_next user bytes rest e = rw (eq-eqb (length bytes % 4) 0 e) refl

behind_one : (users : List (List ℕ)) (words : List ℕ) (r : Result (List (List ℕ)) FileFault) → behind users (before_them words r) ≡ behind (users ++ words ∷ []) r
behind_one users words (Ok rest) = ap (λ (x : List (List ℕ)). Ok x) (sym (append_assoc users (words ∷ []) rest))
behind_one users words (Err f) = refl

-- a file more was read
pub one_more : (all : Result (List (List ℕ)) FileFault) (users : List (List ℕ)) (user : ℕ) (words bytes : List ℕ) (rest : List (List ℕ)) → flat_map word words ≡ bytes → words ≡ words_of_bytes bytes
    → all ≡ behind users (user_words_from user (bytes ∷ rest)) → all ≡ behind (users ++ words ∷ []) (user_words_from (suc user) rest)
one_more all users user words bytes rest spelled is e =
    e ∙ ap (behind users) (read_next user bytes rest (whole_words words bytes spelled)) ∙ behind_one users (words_of_bytes bytes) (user_words_from (suc user) rest)
    ∙ ap (λ (w : List ℕ). behind (users ++ w ∷ []) (user_words_from (suc user) rest)) (sym is)

-- THE LOOP over the files of users.

abbrev Texts : List (Vec ℕ Global) → List (List ℕ)
Texts xs = map (λ (x : Vec ℕ Global). x.items) xs

texts_more : (users : List (Vec ℕ Global)) (words : Vec ℕ Global) → Texts (users ++ words ∷ []) ≡ Texts users ++ words.items ∷ []
texts_more [] words = refl
texts_more (u ∷ users) words = ap (λ (us : List (List ℕ)). u.items ∷ us) (texts_more users words)

files_left : (files : List (Vec ℕ Global)) (i : ℕ) (file : Vec ℕ Global) (bytes : List ℕ) → i < length files → file ≡ get_or files i file → bytes ≡ file.items → Texts (drop i files) ≡ bytes ∷ Texts (drop (i + 1) files)
files_left files i file bytes below is same =
    ap Texts (drop_more files i file below) ∙ ap (λ (f : Vec ℕ Global). f.items ∷ Texts (drop (i + 1) files)) (sym is) ∙ ap (λ (b : List ℕ). b ∷ Texts (drop (i + 1) files)) (sym same)

pub next_words : (all : Result (List (List ℕ)) FileFault) (users more files : List (Vec ℕ Global)) (i user : ℕ) (file words : Vec ℕ Global) (bytes : List ℕ) → i < length files → file ≡ get_or files i file → bytes ≡ file.items
    → flat_map word words.items ≡ bytes → words.items ≡ words_of_bytes bytes → more ≡ users ++ words ∷ []
    → all ≡ behind (Texts users) (user_words_from user (Texts (drop i files))) → all ≡ behind (Texts more) (user_words_from (user + 1) (Texts (drop (i + 1) files)))
next_words all users more files i user file words bytes below is same spelled read pushed e =
    let here : all ≡ behind (Texts users) (user_words_from user (bytes ∷ Texts (drop (i + 1) files))) =
    e ∙ ap (λ (x : List (List ℕ)). behind (Texts users) (user_words_from user x)) (files_left files i file bytes below is same) in
    let next : suc user ≡ user + 1 = omega arith in
    one_more all (Texts users) user words.items bytes (Texts (drop (i + 1) files)) spelled read here
    ∙ ap (λ (n : ℕ). behind (Texts users ++ words.items ∷ []) (user_words_from n (Texts (drop (i + 1) files)))) next
    ∙ ap (λ (x : List (List ℕ)). behind x (user_words_from (user + 1) (Texts (drop (i + 1) files)))) (sym (texts_more users words) ∙ ap Texts (sym pushed))
