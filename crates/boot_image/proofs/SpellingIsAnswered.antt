-- What each step of the reading makes of bytes that begin as an image does, and so what is answered of an image's spelling.
use Rattle.std.proofs.Common.{◌≡◌, ℕ, ◌+◌, ◌*◌, ◌^◌, ◌<◌, ◌≤◌, false, true, ltb, ◌||◌, All, List, [], ◌∷◌, ◌++◌, length, drop, map, Result, Ok, Err, inl, inr, refl, sym, ap, ◌∙◌, append_assoc, arith}
use Rattle.std.specs.Prelude.{codes, nat_eq, if◌then◌else◌}
use Rattle.std.specs.Str.{bytes_eq}
use Rattle.std.specs.List.{flat_map, AllByRecursion}
use Rattle.std.proofs.lemmas.Bool.{le-ltb, or_from}
use Rattle.std.proofs.lemmas.List.{take_at, drop_at, length-append, append-nil, length-map}
use Rattle.std.proofs.lemmas.List.Elements.{recursion_from_All}
use Rattle.std.proofs.lemmas.Slice.Eq.{bytes_eq-Decides}
use Rattle.layer_map.specs.declared.params.Params.{Params}
use Rattle.layer_map.specs.Map.{ParamsInRange}
use Rattle.boot_image.specs.declared.fault.ImageFault.{ImageFault}
use Rattle.boot_image.specs.declared.fault.ImageFault.TheVariants.{Parameter}
use Rattle.boot_image.specs.declared.reading.Header.{Header}
use Rattle.boot_image.specs.Parts.{ImageParts}
use Rattle.cvm_words.specs.Bytes.{word, words_of_bytes}
use Rattle.boot_image.specs.Format.{spelling, bare_params, most_user_words, AreWords, IsBare, IsOldSystem, HasOldSpelling, IsInRange, IsOldInRange}
use Rattle.cvm_words.specs.Reading.{◌>>=◌}
use Rattle.boot_image.specs.Reading.{mark_at, number_at, form_at, params_at, counts_at, bare_at, system_at, header_of, old_header_of, part_at, users_at, parts_of, users_of, answer, old_answer}
use Rattle.cvm_words.proofs.BytesOfWords.{length-word, number-word, length-words, words_of-words}
use Rattle.boot_image.proofs.AnswersByFound.{Found, answered, answer_by, old_answer_by, answered_parts}
use Rattle.boot_image.proofs.OneUserMore.{counts_suc, part_whole, users_first, users_end}

-- a step that goes on
pub step : {A B : Type 0} {r : Result A ImageFault} {x : A} (f : A → Result B ImageFault) {y : Result B ImageFault} → r ≡ Ok x → f x ≡ y → (r >>= f) ≡ y
step f is next = ap (λ q. q >>= f) is ∙ next

-- numbers, and then other bytes
abbrev pub onto : List ℕ → List ℕ → List ℕ
onto [] rest = rest
onto (n ∷ ns) rest = word n ++ onto ns rest

pub words-onto : (ns rest : List ℕ) → flat_map word ns ++ rest ≡ onto ns rest
words-onto [] rest = refl
words-onto (n ∷ ns) rest = append_assoc (word n) (flat_map word ns) rest ∙ ap (λ (l : List ℕ). word n ++ l) (words-onto ns rest)

pub mark_whole : (mark rest : List ℕ) → length mark ≡ 4 → mark ≡ codes "CVMI" → mark_at (mark ++ rest) ≡ Ok rest
unfolding mark_at
mark_whole mark rest four is =
    let long : ltb (length (mark ++ rest)) 4 ≡ false = le-ltb _ _ (omega (arith, length-append mark rest)) in
    let same : bytes_eq mark (codes "CVMI") ≡ true = (bytes_eq-Decides mark (codes "CVMI")).1 is in
    rw (long, take_at mark rest 4 four, drop_at mark rest 4 four, same) refl

pub number_whole : (which least most n : ℕ) (rest : List ℕ) → n < 2 ^ 32 → least ≤ n → n ≤ most → number_at which least most (word n ++ rest) ≡ Ok (n, rest)
unfolding number_at
number_whole which least most n rest small low high =
    let long : ltb (length (word n ++ rest)) 4 ≡ false = le-ltb _ _ (omega (arith, length-append (word n) rest, length-word n)) in
    let fits : (ltb n least || ltb most n) ≡ false = or_from (ltb n least) (ltb most n) (le-ltb n least low) (le-ltb most n high) in
    rw (long, number-word n rest small, drop_at (word n) rest 4 (length-word n), fits) refl

pub form_one : (rest : List ℕ) → form_at (word 1 ++ rest) ≡ Ok (1, rest)
unfolding form_at
form_one rest = step _ (number_whole 1 1 3 1 rest (omega arith) (omega arith) (omega arith)) refl

pub form_three : (rest : List ℕ) → form_at (word 3 ++ rest) ≡ Ok (3, rest)
unfolding form_at
form_three rest = step _ (number_whole 1 1 3 3 rest (omega arith) (omega arith) (omega arith)) refl

pub form_two : (rest : List ℕ) → form_at (word 2 ++ rest) ≡ Err (Parameter 1 2)
unfolding form_at
form_two rest = step _ (number_whole 1 1 3 2 rest (omega arith) (omega arith) (omega arith)) refl

pub params_whole : (most : ℕ) (p : Params) (rest : List ℕ) → ParamsInRange p → p.pages ≤ most → params_at most (onto (p.pages ∷ p.frames ∷ p.heap ∷ p.stack ∷ []) rest) ≡ Ok (p, rest)
unfolding params_at
params_whole most p rest fits pages =
    step _ (number_whole 3 1 most p.pages _ (omega (arith, fits.pages)) fits.a_page pages)
    (step _ (number_whole 4 2 16384 p.frames _ (omega (arith, fits.frames)) fits.two_frames fits.frames)
    (step _ (number_whole 5 0 1048576 p.heap _ (omega (arith, fits.heap)) (omega arith) fits.heap)
    (step _ (number_whole 6 64 262144 p.stack rest (omega (arith, fits.stack)) fits.least_stack fits.stack) refl)))

counts_whole : (first counts : List ℕ) (most : ℕ) (rest : List ℕ) → most ≤ 65536 → AllByRecursion (λ n. n ≤ most) counts → counts_at first most (length counts) (onto counts rest) ≡ Ok (first ++ counts, rest)
unfolding counts_at
counts_whole first [] most rest few fits = ap (λ (l : List ℕ). Ok (l, rest)) (sym (append-nil first))
counts_whole first (n ∷ counts) most rest few fits =
    counts_suc first most (length counts) (length first) (word n ++ onto counts rest) _ refl (number_whole (9 + length first) 0 most n (onto counts rest) (omega (arith, fits.0)) (omega arith) fits.0)
    ∙ counts_whole (first ++ n ∷ []) counts most rest few fits.1 ∙ ap (λ (l : List ℕ). Ok (l, rest)) (append_assoc first (n ∷ []) counts)

pub bare_whole : (n : ℕ) (rest : List ℕ) → n ≤ 1048576 → header_of (codes "CVMI" ++ onto (1 ∷ n ∷ []) rest) ≡ Ok (record { form = 1; params = bare_params; source_length = n; word_count = 0; parts_at = 12 }, ([], rest))
unfolding header_of bare_at
bare_whole n rest few =
    step _ (mark_whole (codes "CVMI") _ refl refl) (step _ (form_one _) (step _ (number_whole 2 0 1048576 n rest (omega (arith, few)) (omega arith) few) refl))

-- a system of a form, with so many users and pages at most, behind that form
pub system_whole : (form users pages : ℕ) (p : Params) (n k : ℕ) (counts rest : List ℕ) → users ≤ 64 → ParamsInRange p → p.pages ≤ pages → n ≤ 1048576 → 16384 ≤ k → k ≤ 4194304 → length counts ≤ users → AllByRecursion (λ c. c ≤ most_user_words p.pages) counts → system_at form users pages (word (length counts) ++ onto (p.pages ∷ p.frames ∷ p.heap ∷ p.stack ∷ []) (word n ++ (word k ++ onto counts rest))) ≡ Ok (record { form = form; params = p; source_length = n; word_count = k; parts_at = 36 + 4 * length counts }, (counts, rest))
unfolding system_at
system_whole form users pages p n k counts rest limit fits low few least most many sizes =
    step _ (number_whole 2 0 users (length counts) _ (omega (arith, many, limit)) (omega arith) many)
    (step _ (params_whole pages p _ fits low)
    (step _ (number_whole 7 0 1048576 n _ (omega (arith, few)) (omega arith) few)
    (step _ (number_whole 8 16384 4194304 k _ (omega (arith, most)) least most)
    (step _ (counts_whole [] counts (most_user_words p.pages) rest (omega arith) sizes) refl))))

pub header_three : (rest : List ℕ) (r : Found) → system_at 3 64 1024 rest ≡ r → header_of (codes "CVMI" ++ (word 3 ++ rest)) ≡ r
unfolding header_of
header_three rest r is = step _ (mark_whole (codes "CVMI") _ refl refl) (step _ (form_three _) is)

pub header_two : (rest : List ℕ) (r : Found) → system_at 2 16 256 rest ≡ r → old_header_of (codes "CVMI" ++ (word 2 ++ rest)) ≡ r
unfolding old_header_of
header_two rest r is = step _ (mark_whole (codes "CVMI") _ refl refl) (step _ (number_whole 1 2 2 2 _ (omega arith) (omega arith) (omega arith)) is)

-- where form 2 isn't read, its header is refused
pub header_refused : (rest : List ℕ) → header_of (codes "CVMI" ++ (word 2 ++ rest)) ≡ Err (Parameter 1 2)
unfolding header_of
header_refused rest =
    step _ (mark_whole (codes "CVMI") _ refl refl)
    (ap (λ (q : Result (ℕ × List ℕ) ImageFault). q >>= λ form. if nat_eq form.0 1 then bare_at form.1 else system_at 3 64 1024 form.1) (form_two rest))

-- ---- the parts

part_first : (at : ℕ) (part rest : List ℕ) → part_at at (length part) (part ++ rest) ≡ Ok (part, rest)
part_first at part rest =
    part_whole at (length part) (part ++ rest) (omega (arith, length-append part rest))
    ∙ ap (λ (l : List ℕ). Ok (l, drop (length part) (part ++ rest))) (take_at part rest (length part) refl) ∙ ap (λ (l : List ℕ). Ok (part, l)) (drop_at part rest (length part) refl)

pub part_of : (at size : ℕ) (part rest : List ℕ) → length part ≡ size → part_at at size (part ++ rest) ≡ Ok (part, rest)
part_of at size part rest is = ap (λ (n : ℕ). part_at at n (part ++ rest)) (sym is) ∙ part_first at part rest

users_whole : (at : ℕ) (users : List (List ℕ)) → users_at at (map length users) (flat_map (flat_map word) users) ≡ Ok tt
users_whole at [] = users_end at 0 [] [] (omega arith) refl
users_whole at (u ∷ users) =
    users_first at (length u) (map length users) (flat_map word u ++ flat_map (flat_map word) users) _ (part_of at (4 * length u) (flat_map word u) (flat_map (flat_map word) users) (length-words u))
    ∙ users_whole (at + 4 * length u) users

parts_whole : (h : Header) (source words : List ℕ) (users : List (List ℕ)) → length source ≡ h.source_length → length words ≡ h.word_count → parts_of h (map length users) (source ++ (flat_map word words ++ flat_map (flat_map word) users)) ≡ Ok (source, (flat_map word words, flat_map (flat_map word) users))
unfolding parts_of
parts_whole h source words users n k =
    step _ (part_of h.parts_at h.source_length source _ n)
    (step _ (part_of (h.parts_at + h.source_length) (4 * h.word_count) (flat_map word words) _ (omega (arith, length-words words)))
    (step _ (users_whole _ users) refl))

pub users_read : (users : List (List ℕ)) → AllByRecursion AreWords users → users_of (map length users) (flat_map (flat_map word) users) ≡ users
unfolding users_of
users_read [] fits = refl
users_read (u ∷ users) fits =
    let size : length (flat_map word u) ≡ 4 * length u = length-words u in
    rw (take_at (flat_map word u) (flat_map (flat_map word) users) (4 * length u) size, drop_at (flat_map word u) (flat_map (flat_map word) users) (4 * length u) size, words_of-words u (recursion_from_All (λ w. w < 2 ^ 32) u fits.0), users_read users fits.1)
    refl

-- ---- the spelling of an image

pub sizes_of : (most : ℕ) (users : List (List ℕ)) → AllByRecursion (λ u. length u ≤ most) users → AllByRecursion (λ n. n ≤ most) (map length users)
sizes_of most [] fits = tt
sizes_of most (u ∷ users) fits = (fits.0, sizes_of most users fits.1)

abbrev pub bare : List ℕ → ImageParts
bare source = record { params = bare_params; form = 1; source = source; words = []; users = [] }

pub bare_same : (i : ImageParts) → IsBare i → i ≡ bare i.source
bare_same i b =
    ap (λ (p : Params). record { params = p; form = i.form; source = i.source; words = i.words; users = i.users }) b.params
    ∙ ap (λ (n : ℕ). record { params = bare_params; form = n; source = i.source; words = i.words; users = i.users }) b.form
    ∙ ap (λ (ws : List ℕ). record { params = bare_params; form = 1; source = i.source; words = ws; users = i.users }) b.words
    ∙ ap (λ (us : List (List ℕ)). record { params = bare_params; form = 1; source = i.source; words = []; users = us }) b.users

bare_read : (source : List ℕ) → length source ≤ 1048576 → answer (spelling (bare source)) ≡ Ok (bare source)
unfolding words_of_bytes users_of
bare_read source few =
    let h : Header = record { form = 1; params = bare_params; source_length = length source; word_count = 0; parts_at = 12 } in
    let rest : List ℕ = source ++ (flat_map word [] ++ flat_map (flat_map word) []) in
    ap (λ (l : List ℕ). answer (codes "CVMI" ++ l)) (words-onto (1 ∷ length source ∷ []) rest)
    ∙ answer_by (codes "CVMI" ++ onto (1 ∷ length source ∷ []) rest) (Ok (h, ([], rest))) (bare_whole (length source) rest few)
    ∙ answered_parts h [] rest (Ok (source, ([], []))) (parts_whole h source [] [] refl refl)

abbrev pub system : ℕ → Params → List ℕ → List ℕ → List (List ℕ) → ImageParts
system form p source words users = record { params = p; form = form; source = source; words = words; users = users }

-- the spelling of a system of a form
abbrev pub system_spelling : ℕ → Params → List ℕ → List ℕ → List (List ℕ) → List ℕ
system_spelling form p source words users =
    codes "CVMI" ++ (flat_map word (form ∷ length users ∷ p.pages ∷ p.frames ∷ p.heap ∷ p.stack ∷ length source ∷ length words ∷ map length users) ++ (source ++ (flat_map word words ++ flat_map (flat_map word) users)))

pub system_same : (form : ℕ) (i : ImageParts) → i.form ≡ form → i ≡ system form i.params i.source i.words i.users
system_same form i is = ap (λ (n : ℕ). record { params = i.params; form = n; source = i.source; words = i.words; users = i.users }) is

-- what holds of a system with so many users and pages of a user at most
pub record Fits (users_most pages_most : ℕ) (p : Params) (text ws : List ℕ) (us : List (List ℕ)) : Type 0 where
  pub params : ParamsInRange p
  pub pages : p.pages ≤ pages_most
  pub least : 16384 ≤ length ws
  pub most : length ws ≤ 4194304
  pub few : length us ≤ users_most
  pub sizes : All (λ u. length u ≤ most_user_words p.pages) us
  pub source : length text ≤ 1048576
  pub bits : AreWords ws
  pub user_bits : All AreWords us

-- a header that is read as `head` says gives back the system
system_read : (form users pages : ℕ) (p : Params) (source words : List ℕ) (us : List (List ℕ)) (head : List ℕ → Found) → users ≤ 64 → Fits users pages p source words us → ((rest : List ℕ) (r : Found) → system_at form users pages rest ≡ r → head (codes "CVMI" ++ (word form ++ rest)) ≡ r) → answered (head (system_spelling form p source words us)) ≡ Ok (system form p source words us)
system_read form users pages p source words us head limit s reads =
    let counts : List ℕ = map length us in
    let many : length counts ≡ length us = length-map us length in
    let h : Header = record { form = form; params = p; source_length = length source; word_count = length words; parts_at = 36 + 4 * length counts } in
    let rest : List ℕ = source ++ (flat_map word words ++ flat_map (flat_map word) us) in
    let sizes : AllByRecursion (λ n. n ≤ most_user_words p.pages) counts = sizes_of (most_user_words p.pages) us (recursion_from_All (λ (u : List ℕ). length u ≤ most_user_words p.pages) us s.sizes) in
    let tail : List ℕ → List ℕ = λ m. codes "CVMI" ++ (word form ++ (m ++ onto (p.pages ∷ p.frames ∷ p.heap ∷ p.stack ∷ []) (word (length source) ++ (word (length words) ++ onto counts rest)))) in
    ap (λ (l : List ℕ). answered (head (codes "CVMI" ++ l))) (words-onto (form ∷ length us ∷ p.pages ∷ p.frames ∷ p.heap ∷ p.stack ∷ length source ∷ length words ∷ counts) rest)
    ∙ ap (λ (n : ℕ). answered (head (tail (word n)))) (sym many)
    ∙ ap answered (reads _ _ (system_whole form users pages p (length source) (length words) counts rest limit s.params s.pages s.source s.least s.most (omega (arith, many, s.few)) sizes))
    ∙ answered_parts h counts rest (Ok (source, (flat_map word words, flat_map (flat_map word) us))) (parts_whole h source words us refl refl)
    ∙ ap (λ (ws : List ℕ). Ok (record { params = p; form = form; source = source; words = ws; users = users_of counts (flat_map (flat_map word) us) })) (words_of-words words (recursion_from_All (λ w. w < 2 ^ 32) words s.bits))
    ∙ ap (λ (uss : List (List ℕ)). Ok (record { params = p; form = form; source = source; words = words; users = uss })) (users_read us (recursion_from_All AreWords us s.user_bits))

three_read : (p : Params) (source words : List ℕ) (us : List (List ℕ)) → Fits 64 1024 p source words us → answer (spelling (system 3 p source words us)) ≡ Ok (system 3 p source words us)
three_read p source words us s = answer_by (spelling (system 3 p source words us)) _ refl ∙ system_read 3 64 1024 p source words us header_of (omega arith) s header_three

two_read : (p : Params) (source words : List ℕ) (us : List (List ℕ)) → Fits 16 256 p source words us → old_answer (spelling (system 2 p source words us)) ≡ Ok (system 2 p source words us)
two_read p source words us s = old_answer_by (spelling (system 2 p source words us)) _ refl ∙ system_read 2 16 256 p source words us old_header_of (omega arith) s header_two

pub read_back : (i : ImageParts) → IsInRange i → answer (spelling i) ≡ Ok i
read_back i fits =
    elim fits.spelled.form [
      | inl b ↦ let same = bare_same i b in ap (λ (j : ImageParts). answer (spelling j)) same ∙ bare_read i.source fits.spelled.source ∙ ap (λ (j : ImageParts). Ok j) (sym same)
      | inr s ↦
          let same = system_same 3 i s.form in
          let all : Fits 64 1024 i.params i.source i.words i.users = record { params = s.params; pages = s.params.pages; least = s.least; most = s.most; few = s.users; sizes = s.sizes; source = fits.spelled.source; bits = fits.bits; user_bits = fits.user_bits } in
          ap (λ (j : ImageParts). answer (spelling j)) same ∙ three_read i.params i.source i.words i.users all ∙ ap (λ (j : ImageParts). Ok j) (sym same)
    ]

pub old_read_back : (i : ImageParts) → IsOldInRange i → old_answer (spelling i) ≡ Ok i
old_read_back i fits =
    let s : IsOldSystem i = fits.spelled.system in
    let same = system_same 2 i s.form in
    let all : Fits 16 256 i.params i.source i.words i.users = record { params = s.params; pages = s.pages; least = s.least; most = s.most; few = s.users; sizes = s.sizes; source = fits.spelled.source; bits = fits.bits; user_bits = fits.user_bits } in
    ap (λ (j : ImageParts). old_answer (spelling j)) same ∙ two_read i.params i.source i.words i.users all ∙ ap (λ (j : ImageParts). Ok j) (sym same)

two_refused : (p : Params) (source words : List ℕ) (us : List (List ℕ)) → answer (spelling (system 2 p source words us)) ≡ Err (Parameter 1 2)
two_refused p source words us =
    let numbers : List ℕ = length us ∷ p.pages ∷ p.frames ∷ p.heap ∷ p.stack ∷ length source ∷ length words ∷ map length us in
    let rest : List ℕ = source ++ (flat_map word words ++ flat_map (flat_map word) us) in
    ap (λ (l : List ℕ). answer (codes "CVMI" ++ l)) (words-onto (2 ∷ numbers) rest)
    ∙ answer_by (codes "CVMI" ++ onto (2 ∷ numbers) rest) (Err (Parameter 1 2)) (header_refused (onto numbers rest))

pub old_refused : (i : ImageParts) → HasOldSpelling i → answer (spelling i) ≡ Err (Parameter 1 2)
old_refused i fits = ap (λ (j : ImageParts). answer (spelling j)) (system_same 2 i fits.system.form) ∙ two_refused i.params i.source i.words i.users
