-- Bytes that are answered by an image are its spelling: each step that went on is taken back.
use Rattle.std.proofs.Common.{◌≡◌, ℕ, zero, suc, ◌+◌, ◌*◌, ◌^◌, ◌<◌, ◌≤◌, false, true, ltb, ◌||◌, All, List, [], ◌∷◌, ◌++◌, length, take, drop, map, Result, Ok, Err, inl, inr, refl, sym, ap, subst, ◌∙◌, append_assoc, arith}
use Rattle.std.specs.Prelude.{◌⊎◌, codes, nat_eq, if◌then◌else◌}
use Rattle.std.specs.Str.{bytes_eq}
use Rattle.std.specs.List.{flat_map, AllByRecursion}
use Rattle.std.proofs.lemmas.Bool.{lt-ltb, le-ltb, cond-true, cond-false, cases_lt, cases_Bool, or_left, or_right}
use Rattle.std.proofs.lemmas.List.{append-nil, length-append, length-take, take-append-drop, length-map}
use Rattle.std.proofs.lemmas.List.Elements.{All-from_recursion}
use Rattle.std.proofs.lemmas.Slice.Eq.{bytes_eq-Decides}
use Rattle.layer_map.specs.declared.params.Params.{Params}
use Rattle.layer_map.specs.Map.{ParamsInRange}
use Rattle.boot_image.specs.declared.fault.ImageFault.{ImageFault}
use Rattle.boot_image.specs.declared.fault.ImageFault.TheVariants.{Truncated, Parameter}
use Rattle.boot_image.specs.declared.reading.Header.{Header}
use Rattle.boot_image.specs.Parts.{ImageParts}
use Rattle.cvm_words.specs.Bytes.{word, words_of_bytes}
use Rattle.boot_image.specs.Format.{spelling, bare_params, most_user_words, AreWords, IsSystem, IsOldSystem, IsInRange, IsOldInRange}
use Rattle.cvm_words.specs.Reading.{◌>>=◌}
use Rattle.boot_image.specs.Reading.{mark_at, number_at, form_at, params_at, counts_at, bare_at, system_at, header_of, old_header_of, part_at, users_at, parts_of, image_of, users_of, answer, old_answer}
use Rattle.cvm_words.proofs.BytesOfWords.{length-word, number-word, words_of-words, IsBytes, IsBytes-drop, IsBytes-take, Front, front, Made, made}
use Rattle.boot_image.proofs.OneUserMore.{part_short, part_whole, users_go_on, FirstWhole, first_whole}
use Rattle.boot_image.proofs.SpellingIsAnswered.{onto, words-onto, number_whole, users_read, bare, system, system_spelling}

-- a step and the next one went on
pub record Went (A B : Type 0) (r : Result A ImageFault) (f : A → Result B ImageFault) (y : B) : Type 0 where
  pub x : A
  pub is : r ≡ Ok x
  pub next : f x ≡ Ok y

pub went : {A B : Type 0} (r : Result A ImageFault) (f : A → Result B ImageFault) (y : B) → (r >>= f) ≡ Ok y → Went A B r f y
went (Ok x) f y h = record { x = x; is = refl; next = h }
went (Err e) f y h = absurd cc

-- ---- a number

pub record NumberIs (least most : ℕ) (bytes : List ℕ) (x : ℕ × List ℕ) : Type 0 where
  pub is : bytes ≡ word x.0 ++ x.1
  pub low : least ≤ x.0
  pub high : x.0 ≤ most
  pub fits : IsBytes x.1

pub number_short : (which least most : ℕ) (bytes : List ℕ) → length bytes < 4 → number_at which least most bytes ≡ Err (Truncated (4 * which))
unfolding number_at
number_short which least most bytes short = cond-true (ltb (length bytes) 4) _ _ (lt-ltb (length bytes) 4 short)

pub number_out : (which least most n : ℕ) (rest : List ℕ) → n < 2 ^ 32 → (ltb n least || ltb most n) ≡ true → number_at which least most (word n ++ rest) ≡ Err (Parameter which n)
unfolding number_at
number_out which least most n rest small out =
    let long : ltb (length (word n ++ rest)) 4 ≡ false = le-ltb _ _ (omega (arith, length-append (word n) rest, length-word n)) in
    rw (long, number-word n rest small, out) refl

pub none_is_both : {A : Type 0} (P : Type 0) (r : Result A ImageFault) (e : ImageFault) (x : A) → r ≡ Err e → r ≡ Ok x → P
none_is_both P r e x bad good = absurd cc

pub one_is : {A : Type 0} (r : Result A ImageFault) (x y : A) → r ≡ Ok x → r ≡ Ok y → x ≡ y
one_is r x y a b = cc

number_from : (which least most : ℕ) (bytes : List ℕ) (x : ℕ × List ℕ) (f : Front bytes) → number_at which least most bytes ≡ Ok x → NumberIs least most bytes x
number_from which least most bytes x f h =
    let read : number_at which least most (word f.number ++ f.rest) ≡ Ok x = sym (ap (number_at which least most) f.is) ∙ h in
    elim (cases_lt f.number least) [
      | inl under ↦ none_is_both _ _ _ x (number_out which least most f.number f.rest f.small (or_left (ltb f.number least) (ltb most f.number) (lt-ltb f.number least under))) read
      | inr low ↦
          elim (cases_lt most f.number) [
            | inl over ↦ none_is_both _ _ _ x (number_out which least most f.number f.rest f.small (or_right (ltb f.number least) (ltb most f.number) (lt-ltb most f.number over))) read
            | inr high ↦
                let same : (f.number, f.rest) ≡ x = one_is _ (f.number, f.rest) x (number_whole which least most f.number f.rest f.small low high) read in
                subst (λ (y : ℕ × List ℕ). NumberIs least most bytes y) same (record { is = f.is; low = low; high = high; fits = f.fits })
          ]
    ]

pub number_is : (which least most : ℕ) (bytes : List ℕ) (x : ℕ × List ℕ) → IsBytes bytes → number_at which least most bytes ≡ Ok x → NumberIs least most bytes x
number_is which least most bytes x fits h =
    elim (cases_lt (length bytes) 4) [
      | inl short ↦ none_is_both _ _ _ x (number_short which least most bytes short) h
      | inr long ↦ number_from which least most bytes x (front bytes fits long) h
    ]

-- ---- the mark and the form

pub mark_is : (bytes rest : List ℕ) → mark_at bytes ≡ Ok rest → IsBytes bytes → (bytes ≡ codes "CVMI" ++ rest) × IsBytes rest
unfolding mark_at
mark_is bytes rest h fits =
    elim (cases_lt (length bytes) 4) [
      | inl short ↦ none_is_both _ _ _ rest (cond-true (ltb (length bytes) 4) _ _ (lt-ltb (length bytes) 4 short)) h
      | inr long ↦
          let behind = sym (cond-false (ltb (length bytes) 4) _ _ (le-ltb (length bytes) 4 long)) ∙ h in
          elim (cases_Bool (bytes_eq (take 4 bytes) (codes "CVMI"))) [
            | inl same ↦
                let left : drop 4 bytes ≡ rest = one_is _ (drop 4 bytes) rest (cond-true (bytes_eq (take 4 bytes) (codes "CVMI")) _ _ same) behind in
                let mark : take 4 bytes ≡ codes "CVMI" = (bytes_eq-Decides (take 4 bytes) (codes "CVMI")).0 same in
                (sym (take-append-drop 4 bytes) ∙ ap (λ (l : List ℕ). l ++ drop 4 bytes) mark ∙ ap (λ (l : List ℕ). codes "CVMI" ++ l) left, subst IsBytes left (IsBytes-drop 4 bytes fits))
            | inr other ↦ none_is_both _ _ _ rest (cond-false (bytes_eq (take 4 bytes) (codes "CVMI")) _ _ other) behind
          ]
    ]

pub record FormIs (bytes : List ℕ) (x : ℕ × List ℕ) : Type 0 where
  pub is : bytes ≡ word x.0 ++ x.1
  pub form : (x.0 ≡ 1) ⊎ (x.0 ≡ 3)
  pub fits : IsBytes x.1

pub one_or_three : (n : ℕ) → 1 ≤ n → n ≤ 3 → (nat_eq n 2 ≡ false) → (n ≡ 1) ⊎ (n ≡ 3)
one_or_three zero low high other = absurd (omega (arith, low))
one_or_three (suc zero) low high other = inl refl
one_or_three (suc (suc zero)) low high other = absurd cc
one_or_three (suc (suc (suc zero))) low high other = inr refl
one_or_three (suc (suc (suc (suc n)))) low high other = absurd (omega (arith, high))

pub form_is : (bytes : List ℕ) (x : ℕ × List ℕ) → form_at bytes ≡ Ok x → IsBytes bytes → FormIs bytes x
unfolding form_at
form_is bytes x h fits =
    let w = went (number_at 1 1 3 bytes) _ x h in
    let n : NumberIs 1 3 bytes w.x = number_is 1 1 3 bytes w.x fits w.is in
    elim (cases_Bool (nat_eq w.x.0 2)) [
      | inl two ↦ none_is_both _ _ _ x (cond-true (nat_eq w.x.0 2) _ _ two) w.next
      | inr other ↦
          let same : w.x ≡ x = one_is _ w.x x (cond-false (nat_eq w.x.0 2) _ _ other) w.next in
          subst (λ (y : ℕ × List ℕ). FormIs bytes y) same (record { is = n.is; form = one_or_three w.x.0 n.low n.high other; fits = n.fits })
    ]

-- ---- the parameters and the numbers of words

pub record ParamsIs (most : ℕ) (bytes : List ℕ) (x : Params × List ℕ) : Type 0 where
  pub is : bytes ≡ onto (x.0.pages ∷ x.0.frames ∷ x.0.heap ∷ x.0.stack ∷ []) x.1
  pub range : ParamsInRange x.0
  pub pages : x.0.pages ≤ most
  pub fits : IsBytes x.1

pub params_is : (most : ℕ) → most ≤ 1024 → (bytes : List ℕ) (x : Params × List ℕ) → params_at most bytes ≡ Ok x → IsBytes bytes → ParamsIs most bytes x
unfolding params_at
params_is most limit bytes x h fits =
    let a = went (number_at 3 1 most bytes) _ x h in
    let p : NumberIs 1 most bytes a.x = number_is 3 1 most bytes a.x fits a.is in
    let b = went (number_at 4 2 16384 a.x.1) _ x a.next in
    let f : NumberIs 2 16384 a.x.1 b.x = number_is 4 2 16384 a.x.1 b.x p.fits b.is in
    let c = went (number_at 5 0 1048576 b.x.1) _ x b.next in
    let g : NumberIs 0 1048576 b.x.1 c.x = number_is 5 0 1048576 b.x.1 c.x f.fits c.is in
    let d = went (number_at 6 64 262144 c.x.1) _ x c.next in
    let s : NumberIs 64 262144 c.x.1 d.x = number_is 6 64 262144 c.x.1 d.x g.fits d.is in
    let found : Params = record { pages = a.x.0; frames = b.x.0; heap = c.x.0; stack = d.x.0 } in
    let same : (found, d.x.1) ≡ x = one_is _ (found, d.x.1) x refl d.next in
    let low : a.x.0 ≤ 1024 = omega (arith, p.high, limit) in
    subst (λ (y : Params × List ℕ). ParamsIs most bytes y) same
    (record {
      is =
          p.is ∙ ap (λ (l : List ℕ). word a.x.0 ++ l) f.is ∙ ap (λ (l : List ℕ). word a.x.0 ++ (word b.x.0 ++ l)) g.is
          ∙ ap (λ (l : List ℕ). word a.x.0 ++ (word b.x.0 ++ (word c.x.0 ++ l))) s.is;
      pages = p.high;
      range = record { a_page = p.low; pages = low; two_frames = f.low; frames = f.high; heap = g.high; least_stack = s.low; stack = s.high };
      fits = s.fits;
    })

record CountsAre (first : List ℕ) (most users : ℕ) (bytes : List ℕ) (x : List ℕ × List ℕ) : Type 0 where
  counts : List ℕ
  found : x.0 ≡ first ++ counts
  many : length counts ≡ users
  range : AllByRecursion (λ n. n ≤ most) counts
  is : bytes ≡ onto counts x.1
  fits : IsBytes x.1

counts_are : (first : List ℕ) (most users : ℕ) (bytes : List ℕ) (x : List ℕ × List ℕ) → counts_at first most users bytes ≡ Ok x → IsBytes bytes → CountsAre first most users bytes x
unfolding counts_at
counts_are first most zero bytes x h fits =
    let same : (first, bytes) ≡ x = one_is _ (first, bytes) x refl h in
    subst (λ (y : List ℕ × List ℕ). CountsAre first most zero bytes y) same (record { counts = []; found = sym (append-nil first); many = refl; range = tt; is = refl; fits = fits })
counts_are first most (suc users) bytes x h fits =
    let w = went (number_at (9 + length first) 0 most bytes) _ x h in
    let n : NumberIs 0 most bytes w.x = number_is (9 + length first) 0 most bytes w.x fits w.is in
    let r : CountsAre (first ++ w.x.0 ∷ []) most users w.x.1 x = counts_are (first ++ w.x.0 ∷ []) most users w.x.1 x w.next n.fits in
    record {
      counts = w.x.0 ∷ r.counts;
      found = r.found ∙ append_assoc first (w.x.0 ∷ []) r.counts;
      many = ap suc r.many;
      range = (n.high, r.range);
      is = n.is ∙ ap (λ (l : List ℕ). word w.x.0 ++ l) r.is;
      fits = r.fits;
    }

-- ---- the parts

record PartIs (size : ℕ) (bytes : List ℕ) (x : List ℕ × List ℕ) : Type 0 where
  is : bytes ≡ x.0 ++ x.1
  many : length x.0 ≡ size
  part : IsBytes x.0
  fits : IsBytes x.1

part_is : (at size : ℕ) (bytes : List ℕ) (x : List ℕ × List ℕ) → part_at at size bytes ≡ Ok x → IsBytes bytes → PartIs size bytes x
part_is at size bytes x h fits =
    elim (cases_lt (length bytes) size) [
      | inl short ↦ none_is_both _ _ _ x (part_short at size bytes short) h
      | inr long ↦
          let same : (take size bytes, drop size bytes) ≡ x = one_is _ (take size bytes, drop size bytes) x (part_whole at size bytes long) h in
          subst (λ (y : List ℕ × List ℕ). PartIs size bytes y) same
          (record { is = sym (take-append-drop size bytes); many = omega (arith, length-take size bytes, long); part = IsBytes-take size bytes fits; fits = IsBytes-drop size bytes fits })
    ]

record UsersAre (counts bytes : List ℕ) : Type 0 where
  users : List (List ℕ)
  many : map length users ≡ counts
  bits : AllByRecursion AreWords users
  is : bytes ≡ flat_map (flat_map word) users

users_are : (at : ℕ) (counts bytes : List ℕ) → users_at at counts bytes ≡ Ok tt → IsBytes bytes → UsersAre counts bytes
unfolding users_at
users_are at [] [] h fits = record { users = []; many = refl; bits = tt; is = refl }
users_are at [] (b ∷ bytes) h fits = none_is_both _ _ _ tt (users_go_on at 0 [] (b ∷ bytes) (omega arith) (omega arith)) h
users_are at (n ∷ counts) bytes h fits =
    let f : FirstWhole at n counts bytes = first_whole at n counts bytes h in
    let m : Made n (take (4 * n) bytes) = made n (take (4 * n) bytes) (IsBytes-take (4 * n) bytes fits) (omega (arith, length-take (4 * n) bytes, f.long)) in
    let r : UsersAre counts (drop (4 * n) bytes) = users_are (at + 4 * n) counts (drop (4 * n) bytes) f.others (IsBytes-drop (4 * n) bytes fits) in
    record {
      users = m.words ∷ r.users;
      many = ap (λ (k : ℕ). k ∷ map length r.users) m.counted ∙ ap (λ (l : List ℕ). n ∷ l) r.many;
      bits = (All-from_recursion (λ w. w < 2 ^ 32) m.words m.small, r.bits);
      is = sym (take-append-drop (4 * n) bytes) ∙ ap (λ (l : List ℕ). l ++ drop (4 * n) bytes) m.is ∙ ap (λ (l : List ℕ). flat_map word m.words ++ l) r.is;
    }

record PartsAre (h : Header) (counts bytes : List ℕ) (x : List ℕ × (List ℕ × List ℕ)) : Type 0 where
  source : List ℕ
  words : List ℕ
  users : List (List ℕ)
  source_many : length source ≡ h.source_length
  words_many : length words ≡ h.word_count
  users_many : map length users ≡ counts
  bits : AreWords words
  user_bits : All AreWords users
  is : bytes ≡ source ++ (flat_map word words ++ flat_map (flat_map word) users)
  image : image_of h counts x.0 x.1.0 x.1.1 ≡ record { params = h.params; form = h.form; source = source; words = words; users = users }

parts_are : (h : Header) (counts bytes : List ℕ) (x : List ℕ × (List ℕ × List ℕ)) → parts_of h counts bytes ≡ Ok x → IsBytes bytes → PartsAre h counts bytes x
unfolding parts_of
parts_are h counts bytes x got fits =
    let a = went (part_at h.parts_at h.source_length bytes) _ x got in
    let s : PartIs h.source_length bytes a.x = part_is h.parts_at h.source_length bytes a.x a.is fits in
    let b = went (part_at (h.parts_at + h.source_length) (4 * h.word_count) a.x.1) _ x a.next in
    let w : PartIs (4 * h.word_count) a.x.1 b.x = part_is (h.parts_at + h.source_length) (4 * h.word_count) a.x.1 b.x b.is s.fits in
    let c = went (users_at (h.parts_at + h.source_length + 4 * h.word_count) counts b.x.1) _ x b.next in
    let u : UsersAre counts b.x.1 = users_are (h.parts_at + h.source_length + 4 * h.word_count) counts b.x.1 c.is w.fits in
    let m : Made h.word_count b.x.0 = made h.word_count b.x.0 w.part w.many in
    let same : (a.x.0, (b.x.0, b.x.1)) ≡ x = one_is _ (a.x.0, (b.x.0, b.x.1)) x refl c.next in
    let words : words_of_bytes b.x.0 ≡ m.words = ap words_of_bytes m.is ∙ words_of-words m.words m.small in
    let users : users_of counts b.x.1 ≡ u.users = ap (λ (l : List ℕ). users_of l b.x.1) (sym u.many) ∙ ap (users_of (map length u.users)) u.is ∙ users_read u.users u.bits in
    subst (λ (y : List ℕ × (List ℕ × List ℕ)). PartsAre h counts bytes y) same
    (record {
      source = a.x.0;
      words = m.words;
      users = u.users;
      source_many = s.many;
      words_many = m.counted;
      users_many = u.many;
      bits = All-from_recursion (λ w. w < 2 ^ 32) m.words m.small;
      user_bits = All-from_recursion AreWords u.users u.bits;
      is = s.is ∙ ap (λ (l : List ℕ). a.x.0 ++ l) (w.is ∙ ap (λ (l : List ℕ). l ++ b.x.1) m.is ∙ ap (λ (l : List ℕ). flat_map word m.words ++ l) u.is);
      image =
          ap (λ (ws : List ℕ). record { params = h.params; form = h.form; source = a.x.0; words = ws; users = users_of counts b.x.1 }) words
          ∙ ap (λ (us : List (List ℕ)). record { params = h.params; form = h.form; source = a.x.0; words = m.words; users = us }) users;
    })

-- ---- the fields

pub record BareIs (bytes : List ℕ) (x : Header × (List ℕ × List ℕ)) : Type 0 where
  pub n : ℕ
  pub rest : List ℕ
  pub few : n ≤ 1048576
  pub found : x ≡ (record { form = 1; params = bare_params; source_length = n; word_count = 0; parts_at = 12 }, ([], rest))
  pub is : bytes ≡ codes "CVMI" ++ onto (1 ∷ n ∷ []) rest
  pub fits : IsBytes rest

pub record SystemIs (form most_users most_pages : ℕ) (bytes : List ℕ) (x : Header × (List ℕ × List ℕ)) : Type 0 where
  pub params : Params
  pub users : ℕ
  pub n : ℕ
  pub k : ℕ
  pub counts : List ℕ
  pub rest : List ℕ
  pub range : ParamsInRange params
  pub pages : params.pages ≤ most_pages
  pub few : n ≤ 1048576
  pub least : 16384 ≤ k
  pub most : k ≤ 4194304
  pub many : length counts ≡ users
  pub few_users : users ≤ most_users
  pub sizes : AllByRecursion (λ c. c ≤ most_user_words params.pages) counts
  pub found : x ≡ (record { form = form; params = params; source_length = n; word_count = k; parts_at = 36 + 4 * users }, (counts, rest))
  pub is : bytes ≡ codes "CVMI" ++ (word form ++ (word users ++ onto (params.pages ∷ params.frames ∷ params.heap ∷ params.stack ∷ []) (word n ++ (word k ++ onto counts rest))))
  pub fits : IsBytes rest

bare_is : (bytes rest : List ℕ) (x : Header × (List ℕ × List ℕ)) → bytes ≡ codes "CVMI" ++ (word 1 ++ rest) → bare_at rest ≡ Ok x → IsBytes rest → BareIs bytes x
unfolding bare_at
bare_is bytes rest x is h fits =
    let w = went (number_at 2 0 1048576 rest) _ x h in
    let n : NumberIs 0 1048576 rest w.x = number_is 2 0 1048576 rest w.x fits w.is in
    record { n = w.x.0; rest = w.x.1; few = n.high; found = sym (one_is _ _ x refl w.next); is = is ∙ ap (λ (l : List ℕ). codes "CVMI" ++ (word 1 ++ l)) n.is; fits = n.fits }

system_is : (form users pages : ℕ) → pages ≤ 1024 → (bytes rest : List ℕ) (x : Header × (List ℕ × List ℕ)) → bytes ≡ codes "CVMI" ++ (word form ++ rest) → system_at form users pages rest ≡ Ok x → IsBytes rest → SystemIs form users pages bytes x
unfolding system_at
system_is form users pages limit bytes rest x is h fits =
    let a = went (number_at 2 0 users rest) _ x h in
    let u : NumberIs 0 users rest a.x = number_is 2 0 users rest a.x fits a.is in
    let b = went (params_at pages a.x.1) _ x a.next in
    let p : ParamsIs pages a.x.1 b.x = params_is pages limit a.x.1 b.x b.is u.fits in
    let c = went (number_at 7 0 1048576 b.x.1) _ x b.next in
    let n : NumberIs 0 1048576 b.x.1 c.x = number_is 7 0 1048576 b.x.1 c.x p.fits c.is in
    let d = went (number_at 8 16384 4194304 c.x.1) _ x c.next in
    let k : NumberIs 16384 4194304 c.x.1 d.x = number_is 8 16384 4194304 c.x.1 d.x n.fits d.is in
    let e = went (counts_at [] (most_user_words b.x.0.pages) a.x.0 d.x.1) _ x d.next in
    let s : CountsAre [] (most_user_words b.x.0.pages) a.x.0 d.x.1 e.x = counts_are [] (most_user_words b.x.0.pages) a.x.0 d.x.1 e.x e.is k.fits in
    record {
      params = b.x.0;
      users = a.x.0;
      n = c.x.0;
      k = d.x.0;
      counts = s.counts;
      rest = e.x.1;
      range = p.range;
      pages = p.pages;
      few = n.high;
      least = k.low;
      most = k.high;
      many = s.many;
      few_users = u.high;
      sizes = s.range;
      found =
          sym (one_is _ _ x refl e.next)
          ∙ ap (λ (l : List ℕ). (record { form = form; params = b.x.0; source_length = c.x.0; word_count = d.x.0; parts_at = 36 + 4 * a.x.0 }, (l, e.x.1))) s.found;
      is =
          is ∙ ap (λ (l : List ℕ). codes "CVMI" ++ (word form ++ l)) u.is ∙ ap (λ (l : List ℕ). codes "CVMI" ++ (word form ++ (word a.x.0 ++ l))) p.is
          ∙ ap (λ (l : List ℕ). codes "CVMI" ++ (word form ++ (word a.x.0 ++ onto (b.x.0.pages ∷ b.x.0.frames ∷ b.x.0.heap ∷ b.x.0.stack ∷ []) l))) (n.is ∙ ap (λ (l : List ℕ). word c.x.0 ++ l) (k.is ∙ ap (λ (l : List ℕ). word d.x.0 ++ l) s.is));
      fits = s.fits;
    }

pub header_is : (bytes : List ℕ) (x : Header × (List ℕ × List ℕ)) → header_of bytes ≡ Ok x → IsBytes bytes → BareIs bytes x ⊎ SystemIs 3 64 1024 bytes x
unfolding header_of
header_is bytes x h fits =
    let a = went (mark_at bytes) _ x h in
    let m : (bytes ≡ codes "CVMI" ++ a.x) × IsBytes a.x = mark_is bytes a.x a.is fits in
    let b = went (form_at a.x) _ x a.next in
    let f : FormIs a.x b.x = form_is a.x b.x b.is m.1 in
    let goes_on : ℕ → Type 0 = λ n. (if nat_eq n 1 then bare_at b.x.1 else system_at 3 64 1024 b.x.1) ≡ Ok x in
    let begins : (n : ℕ) → b.x.0 ≡ n → bytes ≡ codes "CVMI" ++ (word n ++ b.x.1) = λ n is. m.0 ∙ ap (λ (l : List ℕ). codes "CVMI" ++ l) f.is ∙ ap (λ (k : ℕ). codes "CVMI" ++ (word k ++ b.x.1)) is in
    elim f.form [
      | inl one ↦ inl (bare_is bytes b.x.1 x (begins 1 one) (subst goes_on one b.next) f.fits)
      | inr three ↦ inr (system_is 3 64 1024 (omega arith) bytes b.x.1 x (begins 3 three) (subst goes_on three b.next) f.fits)
    ]

pub old_header_is : (bytes : List ℕ) (x : Header × (List ℕ × List ℕ)) → old_header_of bytes ≡ Ok x → IsBytes bytes → SystemIs 2 16 256 bytes x
unfolding old_header_of
old_header_is bytes x h fits =
    let a = went (mark_at bytes) _ x h in
    let m : (bytes ≡ codes "CVMI" ++ a.x) × IsBytes a.x = mark_is bytes a.x a.is fits in
    let b = went (number_at 1 2 2 a.x) _ x a.next in
    let n : NumberIs 2 2 a.x b.x = number_is 1 2 2 a.x b.x m.1 b.is in
    let two : b.x.0 ≡ 2 = omega (arith, n.low, n.high) in
    let begins : bytes ≡ codes "CVMI" ++ (word 2 ++ b.x.1) = m.0 ∙ ap (λ (l : List ℕ). codes "CVMI" ++ l) n.is ∙ ap (λ (k : ℕ). codes "CVMI" ++ (word k ++ b.x.1)) two in
    system_is 2 16 256 (omega arith) bytes b.x.1 x begins b.next n.fits

-- ---- the image

pub nil_of_none : {X : Type 0} (xs : List X) → length xs ≡ 0 → xs ≡ []
nil_of_none [] none = refl
nil_of_none (x ∷ xs) none = absurd (omega (arith, none))

pub sizes_back : (most : ℕ) (users : List (List ℕ)) → AllByRecursion (λ n. n ≤ most) (map length users) → AllByRecursion (λ u. length u ≤ most) users
sizes_back most [] fits = tt
sizes_back most (u ∷ users) fits = (fits.0, sizes_back most users fits.1)

abbrev IsSpelled : List ℕ → ImageParts → Type 0
IsSpelled bytes i = IsInRange i × (bytes ≡ spelling i)

bare_spelled : (bytes source : List ℕ) → length source ≤ 1048576 → bytes ≡ codes "CVMI" ++ onto (1 ∷ length source ∷ []) (source ++ []) → IsSpelled bytes (bare source)
bare_spelled bytes source few is = (
  record {
    spelled = record { source = few; form = inl (record { form = refl; params = refl; words = refl; users = refl }) };
    bits = All-from_recursion (λ w. w < 2 ^ 32) [] tt;
    user_bits = All-from_recursion AreWords [] tt;
  },
  is ∙ ap (λ (l : List ℕ). codes "CVMI" ++ l) (sym (words-onto (1 ∷ length source ∷ []) (source ++ []))),
)

bare_from : (bytes : List ℕ) (x : Header × (List ℕ × List ℕ)) (y : List ℕ × (List ℕ × List ℕ)) → BareIs bytes x → parts_of x.0 x.1.0 x.1.1 ≡ Ok y → IsSpelled bytes (image_of x.0 x.1.0 y.0 y.1.0 y.1.1)
bare_from bytes x y b h =
    let header : Header = record { form = 1; params = bare_params; source_length = b.n; word_count = 0; parts_at = 12 } in
    let read : parts_of header [] b.rest ≡ Ok y = sym (ap (λ (z : Header × (List ℕ × List ℕ)). parts_of z.0 z.1.0 z.1.1) b.found) ∙ h in
    let p : PartsAre header [] b.rest y = parts_are header [] b.rest y read b.fits in
    let none : p.words ≡ [] = nil_of_none p.words p.words_many in
    let alone : p.users ≡ [] = nil_of_none p.users (sym (length-map p.users length) ∙ ap length p.users_many) in
    let image : image_of x.0 x.1.0 y.0 y.1.0 y.1.1 ≡ bare p.source =
    ap (λ (z : Header × (List ℕ × List ℕ)). image_of z.0 z.1.0 y.0 y.1.0 y.1.1) b.found ∙ p.image
    ∙ ap (λ (ws : List ℕ). record { params = bare_params; form = 1; source = p.source; words = ws; users = p.users }) none
    ∙ ap (λ (us : List (List ℕ)). record { params = bare_params; form = 1; source = p.source; words = []; users = us }) alone in
    let spelled : bytes ≡ codes "CVMI" ++ onto (1 ∷ length p.source ∷ []) (p.source ++ []) =
    b.is ∙ ap (λ (n : ℕ). codes "CVMI" ++ onto (1 ∷ n ∷ []) b.rest) (sym p.source_many)
    ∙ ap (λ (l : List ℕ). codes "CVMI" ++ onto (1 ∷ length p.source ∷ []) l)
    (p.is ∙ ap (λ (ws : List ℕ). p.source ++ (flat_map word ws ++ flat_map (flat_map word) p.users)) none ∙ ap (λ (us : List (List ℕ)). p.source ++ flat_map (flat_map word) us) alone) in
    subst (IsSpelled bytes) (sym image) (bare_spelled bytes p.source (omega (arith, p.source_many, b.few)) spelled)

abbrev IsOldSpelled : List ℕ → ImageParts → Type 0
IsOldSpelled bytes i = IsOldInRange i × (bytes ≡ spelling i)

abbrev system_bytes : ℕ → Params → ℕ → ℕ → ℕ → List ℕ → List ℕ → List ℕ
system_bytes form p users n k counts rest = codes "CVMI" ++ (word form ++ (word users ++ onto (p.pages ∷ p.frames ∷ p.heap ∷ p.stack ∷ []) (word n ++ (word k ++ onto counts rest))))

-- an image of a system of a form, with so many users and pages of a user at most, and the bytes that spell it
record Whole (form most_users most_pages : ℕ) (bytes : List ℕ) (image : ImageParts) : Type 0 where
  params : Params
  source : List ℕ
  words : List ℕ
  users : List (List ℕ)
  is : image ≡ system form params source words users
  range : ParamsInRange params
  pages : params.pages ≤ most_pages
  few : length source ≤ 1048576
  least : 16384 ≤ length words
  most : length words ≤ 4194304
  few_users : length users ≤ most_users
  sizes : All (λ (u : List ℕ). length u ≤ most_user_words params.pages) users
  bits : AreWords words
  user_bits : All AreWords users
  spelled : bytes ≡ system_spelling form params source words users

whole_from : (form users pages : ℕ) (bytes : List ℕ) (x : Header × (List ℕ × List ℕ)) (y : List ℕ × (List ℕ × List ℕ)) → SystemIs form users pages bytes x → parts_of x.0 x.1.0 x.1.1 ≡ Ok y → Whole form users pages bytes (image_of x.0 x.1.0 y.0 y.1.0 y.1.1)
whole_from form users pages bytes x y b h =
    let header : Header = record { form = form; params = b.params; source_length = b.n; word_count = b.k; parts_at = 36 + 4 * b.users } in
    let read : parts_of header b.counts b.rest ≡ Ok y = sym (ap (λ (z : Header × (List ℕ × List ℕ)). parts_of z.0 z.1.0 z.1.1) b.found) ∙ h in
    let p : PartsAre header b.counts b.rest y = parts_are header b.counts b.rest y read b.fits in
    let many : b.users ≡ length p.users = sym b.many ∙ ap length (sym p.users_many) ∙ length-map p.users length in
    let rest : List ℕ = p.source ++ (flat_map word p.words ++ flat_map (flat_map word) p.users) in
    let sizes : AllByRecursion (λ u. length u ≤ most_user_words b.params.pages) p.users = sizes_back (most_user_words b.params.pages) p.users (subst (AllByRecursion (λ n. n ≤ most_user_words b.params.pages)) (sym p.users_many) b.sizes) in
    let numbers : List ℕ = form ∷ length p.users ∷ b.params.pages ∷ b.params.frames ∷ b.params.heap ∷ b.params.stack ∷ length p.source ∷ length p.words ∷ map length p.users in
    record {
      params = b.params;
      source = p.source;
      words = p.words;
      users = p.users;
      is = ap (λ (z : Header × (List ℕ × List ℕ)). image_of z.0 z.1.0 y.0 y.1.0 y.1.1) b.found ∙ p.image;
      range = b.range;
      pages = b.pages;
      few = omega (arith, p.source_many, b.few);
      least = omega (arith, p.words_many, b.least);
      most = omega (arith, p.words_many, b.most);
      few_users = omega (arith, many, b.few_users);
      sizes = All-from_recursion (λ (u : List ℕ). length u ≤ most_user_words b.params.pages) p.users sizes;
      bits = p.bits;
      user_bits = p.user_bits;
      spelled =
          b.is ∙ ap (λ (u : ℕ). system_bytes form b.params u b.n b.k b.counts b.rest) many ∙ ap (λ (n : ℕ). system_bytes form b.params (length p.users) n b.k b.counts b.rest) (sym p.source_many)
          ∙ ap (λ (k : ℕ). system_bytes form b.params (length p.users) (length p.source) k b.counts b.rest) (sym p.words_many)
          ∙ ap (λ (l : List ℕ). system_bytes form b.params (length p.users) (length p.source) (length p.words) l b.rest) (sym p.users_many)
          ∙ ap (λ (l : List ℕ). system_bytes form b.params (length p.users) (length p.source) (length p.words) (map length p.users) l) p.is
          ∙ ap (λ (l : List ℕ). codes "CVMI" ++ l) (sym (words-onto numbers rest));
    }

three_spelled : (bytes : List ℕ) (image : ImageParts) → Whole 3 64 1024 bytes image → IsSpelled bytes image
three_spelled bytes image w =
    let i : ImageParts = system 3 w.params w.source w.words w.users in
    let system_range : IsSystem i = record { form = refl; params = w.range; least = w.least; most = w.most; users = w.few_users; sizes = w.sizes } in
    let in_range : IsInRange i = record { spelled = record { source = w.few; form = inr system_range }; bits = w.bits; user_bits = w.user_bits } in
    subst (IsSpelled bytes) (sym w.is) (in_range, w.spelled)

two_spelled : (bytes : List ℕ) (image : ImageParts) → Whole 2 16 256 bytes image → IsOldSpelled bytes image
two_spelled bytes image w =
    let i : ImageParts = system 2 w.params w.source w.words w.users in
    let system_range : IsOldSystem i = record { form = refl; params = w.range; pages = w.pages; least = w.least; most = w.most; users = w.few_users; sizes = w.sizes } in
    let in_range : IsOldInRange i = record { spelled = record { source = w.few; system = system_range }; bits = w.bits; user_bits = w.user_bits } in
    subst (IsOldSpelled bytes) (sym w.is) (in_range, w.spelled)

pub answer_spelled : (bytes : List ℕ) → IsBytes bytes → (image : ImageParts) → answer bytes ≡ Ok image → IsSpelled bytes image
unfolding answer
answer_spelled bytes fits image h =
    let a = went (header_of bytes) _ image h in
    let b = went (parts_of a.x.0 a.x.1.0 a.x.1.1) _ image a.next in
    let same : image_of a.x.0 a.x.1.0 b.x.0 b.x.1.0 b.x.1.1 ≡ image = one_is _ _ image refl b.next in
    subst (IsSpelled bytes) same
    (elim (header_is bytes a.x a.is fits) [
      | inl bare ↦ bare_from bytes a.x b.x bare b.is
      | inr system ↦ three_spelled bytes _ (whole_from 3 64 1024 bytes a.x b.x system b.is)
    ])

pub old_answer_spelled : (bytes : List ℕ) → IsBytes bytes → (image : ImageParts) → old_answer bytes ≡ Ok image → IsOldSpelled bytes image
unfolding old_answer
old_answer_spelled bytes fits image h =
    let a = went (old_header_of bytes) _ image h in
    let b = went (parts_of a.x.0 a.x.1.0 a.x.1.1) _ image a.next in
    let same : image_of a.x.0 a.x.1.0 b.x.0 b.x.1.0 b.x.1.1 ≡ image = one_is _ _ image refl b.next in
    subst (IsOldSpelled bytes) same (two_spelled bytes _ (whole_from 2 16 256 bytes a.x b.x (old_header_is bytes a.x a.is fits) b.is))
