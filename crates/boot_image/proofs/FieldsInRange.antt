-- The numbers that may stand in the fields of a system behind its form, one after another: those of each image that fits are such, and
-- such numbers are the first ones of an image that fits.
use Rattle.std.proofs.Common.{◌≡◌, ℕ, zero, suc, ◌+◌, ◌-◌, ◌^◌, ◌≤◌, ◌<◌, false, List, [], ◌∷◌, ◌++◌, length, get_or, take, map, replicate, refl, sym, ap, subst, ◌∙◌, append_assoc, append-nil, arith}
use Rattle.std.specs.Prelude.{nat_eq}
use Rattle.std.specs.List.{AllByRecursion}
use Rattle.std.proofs.lemmas.Bool.{cond-false}
use Rattle.std.proofs.lemmas.List.{length-append, length-map, length-replicate}
use Rattle.std.proofs.lemmas.List.Elements.{All-from_recursion, recursion_from_All}
use Rattle.layer_map.specs.declared.params.Params.{Params}
use Rattle.layer_map.specs.Map.{ParamsInRange}
use Rattle.boot_image.specs.Parts.{ImageParts}
use Rattle.boot_image.specs.Format.{fields, most_user_words, AreWords}
use Rattle.boot_image.proofs.SpellingIsAnswered.{system, sizes_of, Fits}

-- the least number that may stand behind these
abbrev pub least_behind : List ℕ → ℕ
least_behind [] = 0
least_behind (users ∷ []) = 1
least_behind (users ∷ pages ∷ []) = 2
least_behind (users ∷ pages ∷ frames ∷ []) = 0
least_behind (users ∷ pages ∷ frames ∷ heap ∷ []) = 64
least_behind (users ∷ pages ∷ frames ∷ heap ∷ stack ∷ []) = 0
least_behind (users ∷ pages ∷ frames ∷ heap ∷ stack ∷ source ∷ []) = 16384
least_behind (users ∷ pages ∷ frames ∷ heap ∷ stack ∷ source ∷ words ∷ counts) = 0

-- the greatest, with so many users and so many pages of a user at most
abbrev pub most_behind : ℕ → ℕ → List ℕ → ℕ
most_behind most_users most_pages [] = most_users
most_behind most_users most_pages (users ∷ []) = most_pages
most_behind most_users most_pages (users ∷ pages ∷ []) = 16384
most_behind most_users most_pages (users ∷ pages ∷ frames ∷ []) = 1048576
most_behind most_users most_pages (users ∷ pages ∷ frames ∷ heap ∷ []) = 262144
most_behind most_users most_pages (users ∷ pages ∷ frames ∷ heap ∷ stack ∷ []) = 1048576
most_behind most_users most_pages (users ∷ pages ∷ frames ∷ heap ∷ stack ∷ source ∷ []) = 4194304
most_behind most_users most_pages (users ∷ pages ∷ frames ∷ heap ∷ stack ∷ source ∷ words ∷ counts) = most_user_words pages

-- a number that may stand behind these
abbrev pub MayFollow : ℕ → ℕ → List ℕ → ℕ → Type 0
MayFollow most_users most_pages before n = (least_behind before ≤ n) × (n ≤ most_behind most_users most_pages before)

-- numbers that may stand, one after another, behind these
abbrev pub Right : ℕ → ℕ → List ℕ → List ℕ → Type 0
Right most_users most_pages before [] = Unit {0}
Right most_users most_pages before (n ∷ ns) = MayFollow most_users most_pages before n × Right most_users most_pages (before ++ n ∷ []) ns

pub right_take : (mu mp : ℕ) (before ns : List ℕ) (j : ℕ) → Right mu mp before ns → Right mu mp before (take j ns)
right_take mu mp before ns zero r = tt
right_take mu mp before [] (suc j) r = tt
right_take mu mp before (n ∷ ns) (suc j) r = (r.0, right_take mu mp (before ++ n ∷ []) ns j r.1)

pub right_last : (mu mp : ℕ) (before ns : List ℕ) (n : ℕ) → Right mu mp before (ns ++ n ∷ []) → MayFollow mu mp (before ++ ns) n
right_last mu mp before [] n r = subst (λ (b : List ℕ). MayFollow mu mp b n) (sym (append-nil before)) r.0
right_last mu mp before (m ∷ ns) n r = subst (λ (b : List ℕ). MayFollow mu mp b n) (append_assoc before (m ∷ []) ns) (right_last mu mp (before ++ m ∷ []) ns n r.1)

pub right_more : (mu mp : ℕ) (before ns : List ℕ) (n : ℕ) → Right mu mp before ns → MayFollow mu mp (before ++ ns) n → Right mu mp before (ns ++ n ∷ [])
right_more mu mp before [] n r h = (subst (λ (b : List ℕ). MayFollow mu mp b n) (append-nil before) h, tt)
right_more mu mp before (m ∷ ns) n r h = (r.0, right_more mu mp (before ++ m ∷ []) ns n r.1 (subst (λ (b : List ℕ). MayFollow mu mp b n) (sym (append_assoc before (m ∷ []) ns)) h))

-- ---- the numbers of words of the users

abbrev pub seven : Params → ℕ → ℕ → ℕ → List ℕ → List ℕ
seven p users n k counts = users ∷ p.pages ∷ p.frames ∷ p.heap ∷ p.stack ∷ n ∷ k ∷ counts

counts_right : (mu mp : ℕ) (p : Params) (users n k : ℕ) (done counts : List ℕ) → AllByRecursion (λ c. c ≤ most_user_words p.pages) counts → Right mu mp (seven p users n k done) counts
counts_right mu mp p users n k done [] all = tt
counts_right mu mp p users n k done (c ∷ counts) all = ((omega arith, all.0), counts_right mu mp p users n k (done ++ c ∷ []) counts all.1)

pub counts_in : (mu mp : ℕ) (p : Params) (users n k : ℕ) (done counts : List ℕ) → Right mu mp (seven p users n k done) counts → AllByRecursion (λ c. c ≤ most_user_words p.pages) counts
counts_in mu mp p users n k done [] r = tt
counts_in mu mp p users n k done (c ∷ counts) r = (r.0.1, counts_in mu mp p users n k (done ++ c ∷ []) counts r.1)

-- ---- the fields of a system

-- those behind its form
abbrev pub behind_form : Params → List ℕ → List ℕ → List (List ℕ) → List ℕ
behind_form p source words users = seven p (length users) (length source) (length words) (map length users)

pub fields_system : (form : ℕ) (p : Params) (source words : List ℕ) (us : List (List ℕ)) → nat_eq form 1 ≡ false → fields (system form p source words us) ≡ form ∷ behind_form p source words us
fields_system form p source words us other = cond-false (nat_eq form 1) _ _ other

-- the fields of a system that fits are right
pub fits_right : (mu mp : ℕ) (p : Params) (source words : List ℕ) (us : List (List ℕ)) → Fits mu mp p source words us → Right mu mp [] (behind_form p source words us)
fits_right mu mp p source words us s =
    let sizes = sizes_of (most_user_words p.pages) us (recursion_from_All (λ (u : List ℕ). length u ≤ most_user_words p.pages) us s.sizes) in
    let counts = counts_right mu mp p (length us) (length source) (length words) [] (map length us) sizes in
    ((omega arith, s.few), ((s.params.a_page, s.pages), ((s.params.two_frames, s.params.frames), ((omega arith, s.params.heap), ((s.params.least_stack, s.params.stack), ((omega arith, s.source), ((s.least, s.most), counts)))))))

-- right numbers are parameters in range
pub params_right : (mu mp users pages frames heap stack : ℕ) (more : List ℕ) → mp ≤ 1024 → Right mu mp [] (users ∷ pages ∷ frames ∷ heap ∷ stack ∷ more) → ParamsInRange (record { pages = pages; frames = frames; heap = heap; stack = stack })
params_right mu mp users pages frames heap stack more limit r = record { a_page = r.1.0.0; pages = omega (arith, r.1.0.1, limit); two_frames = r.1.1.0.0; frames = r.1.1.0.1; heap = r.1.1.1.0.1; least_stack = r.1.1.1.1.0.0; stack = r.1.1.1.1.0.1 }

-- ---- an image for right numbers

-- so many users with words of zeros
abbrev pub zeros : List ℕ → List (List ℕ)
zeros [] = []
zeros (c ∷ counts) = replicate c 0 ∷ zeros counts

pub zeros_counts : (counts : List ℕ) → map length (zeros counts) ≡ counts
zeros_counts [] = refl
zeros_counts (c ∷ counts) = ap (λ (n : ℕ). n ∷ map length (zeros counts)) (length-replicate {A = ℕ} c 0) ∙ ap (λ (l : List ℕ). c ∷ l) (zeros_counts counts)

small_zeros : (k : ℕ) → AllByRecursion (λ w. w < 2 ^ 32) (replicate k 0)
small_zeros zero = tt
small_zeros (suc k) = (omega arith, small_zeros k)

pub words_zeros : (k : ℕ) → AreWords (replicate k 0)
words_zeros k = All-from_recursion (λ w. w < 2 ^ 32) (replicate k 0) (small_zeros k)

pub users_zeros : (counts : List ℕ) → AllByRecursion AreWords (zeros counts)
users_zeros [] = tt
users_zeros (c ∷ counts) = (words_zeros c, users_zeros counts)

sizes_zeros : (most : ℕ) (counts : List ℕ) → AllByRecursion (λ c. c ≤ most) counts → AllByRecursion (λ u. length u ≤ most) (zeros counts)
sizes_zeros most [] all = tt
sizes_zeros most (c ∷ counts) all = (omega (arith, length-replicate {A = ℕ} c 0, all.0), sizes_zeros most counts all.1)

none_above : (most m : ℕ) → AllByRecursion (λ c. c ≤ most) (replicate m 0)
none_above most zero = tt
none_above most (suc m) = (omega arith, none_above most m)

and_zeros : (most : ℕ) (counts : List ℕ) (m : ℕ) → AllByRecursion (λ c. c ≤ most) counts → AllByRecursion (λ c. c ≤ most) (counts ++ replicate m 0)
and_zeros most [] m all = none_above most m
and_zeros most (c ∷ counts) m all = (all.0, and_zeros most counts m all.1)

-- the fields of an image that fits
pub record Example (IsFit : ImageParts → Type 0) (numbers : List ℕ) : Type 0 where
  pub image : ImageParts
  pub fit : IsFit image
  pub is : fields image ≡ numbers

-- these are the first numbers of an image that fits, behind its form, and it has so many more as the number of users says
pub record Begun (IsFit : ImageParts → Type 0) (form : ℕ) (first : List ℕ) : Type 0 where
  pub rest : List ℕ
  pub example : Example IsFit (form ∷ (first ++ rest))
  pub many : length (first ++ rest) ≡ 7 + get_or first 0 0

-- the limits of a form
pub record Limits (IsFit : ImageParts → Type 0) (form mu mp : ℕ) : Type 0 where
  pub other : nat_eq form 1 ≡ false
  pub users : mu ≤ 64
  pub a_page : 1 ≤ mp
  pub pages : mp ≤ 1024
  pub fit : (p : Params) (source words : List ℕ) (us : List (List ℕ)) → Fits mu mp p source words us → IsFit (system form p source words us)

module _ (IsFit : ImageParts → Type 0) (form mu mp : ℕ) (limits : Limits IsFit form mu mp) where
  exemplified : (p : Params) (users n k : ℕ) (done : List ℕ) (m : ℕ) → ParamsInRange p → p.pages ≤ mp → users ≤ mu → n ≤ 1048576 → 16384 ≤ k → k ≤ 4194304 → length done + m ≡ users → AllByRecursion (λ c. c ≤ most_user_words p.pages) done → Example IsFit (form ∷ seven p users n k (done ++ replicate m 0))
  exemplified p users n k done m range pages few source least most many sizes =
      let counts : List ℕ = done ++ replicate m 0 in
      let us : List (List ℕ) = zeros counts in
      let text : List ℕ = replicate n 0 in
      let words : List ℕ = replicate k 0 in
      let text_is : length text ≡ n = length-replicate {A = ℕ} n 0 in
      let words_are : length words ≡ k = length-replicate {A = ℕ} k 0 in
      let counts_are : map length us ≡ counts = zeros_counts counts in
      let users_are : length us ≡ users = omega (arith, length-map us length, ap length counts_are, length-append done (replicate m 0), length-replicate {A = ℕ} m 0, many) in
      let fits : Fits mu mp p text words us = record {
        params = range;
        pages = pages;
        least = omega (arith, words_are, least);
        most = omega (arith, words_are, most);
        few = omega (arith, users_are, few);
        sizes = All-from_recursion (λ (u : List ℕ). length u ≤ most_user_words p.pages) us (sizes_zeros (most_user_words p.pages) counts (and_zeros (most_user_words p.pages) done m sizes));
        source = omega (arith, text_is, source);
        bits = words_zeros k;
        user_bits = All-from_recursion AreWords us (users_zeros counts);
      } in
      record {
        image = system form p text words us;
        fit = limits.fit p text words us fits;
        is =
            fields_system form p text words us limits.other ∙ ap (λ (u : ℕ). form ∷ seven p u (length text) (length words) (map length us)) users_are
            ∙ ap (λ (a : ℕ). form ∷ seven p users a (length words) (map length us)) text_is
            ∙ ap (λ (a : ℕ). form ∷ seven p users n a (map length us)) words_are
            ∙ ap (λ (l : List ℕ). form ∷ seven p users n k l) counts_are;
      }

  -- right numbers are the first of an image
  pub begun : (first : List ℕ) → Right mu mp [] first → length first ≤ 7 + get_or first 0 0 → Begun IsFit form first
  begun [] r room = record {
    rest = 0 ∷ 1 ∷ 2 ∷ 0 ∷ 64 ∷ 0 ∷ 16384 ∷ [];
    example = exemplified (record { pages = 1; frames = 2; heap = 0; stack = 64 }) 0 0 16384 [] 0 (record { a_page = omega arith; pages = omega arith; two_frames = omega arith; frames = omega arith; heap = omega arith; least_stack = omega arith; stack = omega arith }) limits.a_page (omega arith) (omega arith) (omega arith) (omega arith) refl tt;
    many = refl;
  }
  begun (users ∷ []) r room = record {
    rest = 1 ∷ 2 ∷ 0 ∷ 64 ∷ 0 ∷ 16384 ∷ replicate users 0;
    example = exemplified (record { pages = 1; frames = 2; heap = 0; stack = 64 }) users 0 16384 [] users (record { a_page = omega arith; pages = omega arith; two_frames = omega arith; frames = omega arith; heap = omega arith; least_stack = omega arith; stack = omega arith }) limits.a_page r.0.1 (omega arith) (omega arith) (omega arith) (omega arith) tt;
    many = omega (arith, length-replicate {A = ℕ} users 0);
  }
  begun (users ∷ pages ∷ []) r room = record {
    rest = 2 ∷ 0 ∷ 64 ∷ 0 ∷ 16384 ∷ replicate users 0;
    example = exemplified (record { pages = pages; frames = 2; heap = 0; stack = 64 }) users 0 16384 [] users (record { a_page = r.1.0.0; pages = omega (arith, r.1.0.1, limits.pages); two_frames = omega arith; frames = omega arith; heap = omega arith; least_stack = omega arith; stack = omega arith }) r.1.0.1 r.0.1 (omega arith) (omega arith) (omega arith) (omega arith) tt;
    many = omega (arith, length-replicate {A = ℕ} users 0);
  }
  begun (users ∷ pages ∷ frames ∷ []) r room = record {
    rest = 0 ∷ 64 ∷ 0 ∷ 16384 ∷ replicate users 0;
    example = exemplified (record { pages = pages; frames = frames; heap = 0; stack = 64 }) users 0 16384 [] users (record { a_page = r.1.0.0; pages = omega (arith, r.1.0.1, limits.pages); two_frames = r.1.1.0.0; frames = r.1.1.0.1; heap = omega arith; least_stack = omega arith; stack = omega arith }) r.1.0.1 r.0.1 (omega arith) (omega arith) (omega arith) (omega arith) tt;
    many = omega (arith, length-replicate {A = ℕ} users 0);
  }
  begun (users ∷ pages ∷ frames ∷ heap ∷ []) r room = record {
    rest = 64 ∷ 0 ∷ 16384 ∷ replicate users 0;
    example = exemplified (record { pages = pages; frames = frames; heap = heap; stack = 64 }) users 0 16384 [] users (record { a_page = r.1.0.0; pages = omega (arith, r.1.0.1, limits.pages); two_frames = r.1.1.0.0; frames = r.1.1.0.1; heap = r.1.1.1.0.1; least_stack = omega arith; stack = omega arith }) r.1.0.1 r.0.1 (omega arith) (omega arith) (omega arith) (omega arith) tt;
    many = omega (arith, length-replicate {A = ℕ} users 0);
  }
  begun (users ∷ pages ∷ frames ∷ heap ∷ stack ∷ []) r room = record {
    rest = 0 ∷ 16384 ∷ replicate users 0;
    example = exemplified (record { pages = pages; frames = frames; heap = heap; stack = stack }) users 0 16384 [] users (params_right mu mp users pages frames heap stack [] limits.pages r) r.1.0.1 r.0.1 (omega arith) (omega arith) (omega arith) (omega arith) tt;
    many = omega (arith, length-replicate {A = ℕ} users 0);
  }
  begun (users ∷ pages ∷ frames ∷ heap ∷ stack ∷ source ∷ []) r room = record {
    rest = 16384 ∷ replicate users 0;
    example = exemplified (record { pages = pages; frames = frames; heap = heap; stack = stack }) users source 16384 [] users (params_right mu mp users pages frames heap stack (source ∷ []) limits.pages r) r.1.0.1 r.0.1 r.1.1.1.1.1.0.1 (omega arith) (omega arith) (omega arith) tt;
    many = omega (arith, length-replicate {A = ℕ} users 0);
  }
  begun (users ∷ pages ∷ frames ∷ heap ∷ stack ∷ source ∷ words ∷ counts) r room =
      let p : Params = record { pages = pages; frames = frames; heap = heap; stack = stack } in
      let m : ℕ = users - length counts in
      record {
        rest = replicate m 0;
        example = exemplified p users source words counts m (params_right mu mp users pages frames heap stack (source ∷ words ∷ counts) limits.pages r) r.1.0.1 r.0.1 r.1.1.1.1.1.0.1 r.1.1.1.1.1.1.0.0 r.1.1.1.1.1.1.0.1 (omega (arith, room)) (counts_in mu mp p users source words [] counts r.1.1.1.1.1.1.1);
        many = omega (arith, length-append counts (replicate m 0), length-replicate {A = ℕ} m 0, room);
      }
