-- Where the reading stopped: the numbers before it may stand, the parts before it are whole, and the next one isn't as it is to be.
use Rattle.std.proofs.Common.{◌≡◌, ℕ, zero, suc, ◌+◌, ◌*◌, ◌^◌, ◌<◌, ◌≤◌, true, ltb, ◌||◌, List, [], ◌∷◌, ◌++◌, All, length, get_or, take, drop, map, replicate, Result, Ok, Err, inl, inr, refl, sym, ap, subst, ◌∙◌, append_assoc, append-nil, arith}
use Rattle.std.specs.Prelude.{◌⊎◌}
use Rattle.std.specs.List.{concat, flat_map, AllByRecursion}
use Rattle.std.proofs.lemmas.Bool.{lt-ltb, cases_lt, or_left, or_right}
use Rattle.std.proofs.lemmas.List.{length-append, length-take, length-replicate, take-append-drop}
use Rattle.std.proofs.lemmas.List.Elements.{All-from_recursion}
use Rattle.layer_map.specs.declared.params.Params.{Params}
use Rattle.boot_image.specs.declared.fault.ImageFault.{ImageFault}
use Rattle.boot_image.specs.declared.fault.ImageFault.TheVariants.{Truncated, Trailing, Parameter}
use Rattle.boot_image.specs.declared.reading.Header.{Header}
use Rattle.boot_image.specs.Format.{most_user_words, AreWords}
use Rattle.cvm_words.specs.Reading.{◌>>=◌}
use Rattle.boot_image.specs.Reading.{number_at, params_at, counts_at, system_at, part_at, users_at, parts_of}
use Rattle.cvm_words.specs.Bytes.{word}
use Rattle.cvm_words.proofs.BytesOfWords.{length-words, IsBytes, IsBytes-drop, IsBytes-take, Front, front, Made, made}
use Rattle.boot_image.proofs.AnswersByFound.{Parted}
use Rattle.boot_image.proofs.OneUserMore.{part_short, part_whole, users_first, users_go_on}
use Rattle.boot_image.proofs.SpellingIsAnswered.{onto, number_whole}
use Rattle.boot_image.proofs.AnsweredIsSpelling.{number_short, number_out, NumberIs, number_is, ParamsIs, params_is}
use Rattle.boot_image.proofs.FieldsInRange.{least_behind, most_behind, MayFollow, Right, seven, zeros, zeros_counts, words_zeros, users_zeros}

-- a step that stopped, or one that went on to one that did
pub record Went (A B : Type 0) (r : Result A ImageFault) (f : A → Result B ImageFault) (e : ImageFault) : Type 0 where
  pub x : A
  pub is : r ≡ Ok x
  pub next : f x ≡ Err e

pub same_fault : {A : Type 0} (d e : ImageFault) → (let r : Result A ImageFault = Err d in r ≡ Err e) → d ≡ e
same_fault d e h = cc

pub no_fault : {A : Type 0} (P : Type 0) (x : A) (e : ImageFault) → (let r : Result A ImageFault = Ok x in r ≡ Err e) → P
no_fault P x e h = absurd cc

pub stopped : {A B : Type 0} (r : Result A ImageFault) (f : A → Result B ImageFault) (e : ImageFault) → (r >>= f) ≡ Err e → (r ≡ Err e) ⊎ Went A B r f e
stopped (Ok x) f e h = inr (record { x = x; is = refl; next = h })
stopped (Err d) f e h = inl (ap (λ (k : ImageFault). Err k) (same_fault d e h))

-- ---- a number

-- the number of word `which` has a value that may not stand there
pub record Wrong (which : ℕ) (left : List ℕ) (e : ImageFault) (IsOut : ℕ → Type 0) : Type 0 where
  pub value : ℕ
  pub rest : List ℕ
  pub is : left ≡ word value ++ rest
  pub small : value < 2 ^ 32
  pub out : IsOut value
  pub fault : e ≡ Parameter which value

-- why no number was read
abbrev pub Cause : ℕ → List ℕ → ImageFault → (ℕ → Type 0) → Type 0
Cause which left e IsOut = ((length left < 4) × (e ≡ Truncated (4 * which))) ⊎ Wrong which left e IsOut

pub cause_of : (which : ℕ) (left : List ℕ) (e : ImageFault) (IsOut IsAlso : ℕ → Type 0) → ((value : ℕ) → IsOut value → IsAlso value) → Cause which left e IsOut → Cause which left e IsAlso
cause_of which left e IsOut IsAlso all (inl short) = inl short
cause_of which left e IsOut IsAlso all (inr w) = inr (record { value = w.value; rest = w.rest; is = w.is; small = w.small; out = all w.value w.out; fault = w.fault })

-- a number below the least or above the greatest
abbrev pub Outside : ℕ → ℕ → ℕ → Type 0
Outside least most value = (value < least) ⊎ (most < value)

number_front : (which least most : ℕ) (left : List ℕ) (e : ImageFault) (f : Front left) → number_at which least most left ≡ Err e → Cause which left e (Outside least most)
number_front which least most left e f h =
    let read : number_at which least most (word f.number ++ f.rest) ≡ Err e = sym (ap (number_at which least most) f.is) ∙ h in
    let wrong : Outside least most f.number → (ltb f.number least || ltb most f.number) ≡ true → Cause which left e (Outside least most) =
    λ out bad. inr (record { value = f.number; rest = f.rest; is = f.is; small = f.small; out = out; fault = sym (same_fault _ e (sym (number_out which least most f.number f.rest f.small bad) ∙ read)) }) in
    elim (cases_lt f.number least) [
      | inl under ↦ wrong (inl under) (or_left (ltb f.number least) (ltb most f.number) (lt-ltb f.number least under))
      | inr low ↦
          elim (cases_lt most f.number) [
            | inl over ↦ wrong (inr over) (or_right (ltb f.number least) (ltb most f.number) (lt-ltb most f.number over))
            | inr high ↦ no_fault _ _ e (sym (number_whole which least most f.number f.rest f.small low high) ∙ read)
          ]
    ]

pub number_cause : (which least most : ℕ) (left : List ℕ) (e : ImageFault) → IsBytes left → number_at which least most left ≡ Err e → Cause which left e (Outside least most)
number_cause which least most left e fits h =
    elim (cases_lt (length left) 4) [
      | inl short ↦ inl (short, sym (same_fault _ e (sym (number_short which least most left short) ∙ h)))
      | inr long ↦ number_front which least most left e (front left fits long) h
    ]

-- ---- the fields of a system behind its form

-- the next number behind these isn't read, and is one that an image has
pub record StopsAt (mu mp : ℕ) (b left : List ℕ) (e : ImageFault) : Type 0 where
  pub room : length b < 7 + get_or b 0 0
  pub is : number_at (2 + length b) (least_behind b) (most_behind mu mp b) left ≡ Err e

-- some right numbers stand behind these, and the next one isn't read
pub record Stop (mu mp : ℕ) (before bytes : List ℕ) (e : ImageFault) : Type 0 where
  pub first : List ℕ
  pub right : Right mu mp before first
  pub left : List ℕ
  pub is : bytes ≡ onto first left
  pub fits : IsBytes left
  pub stops : StopsAt mu mp (before ++ first) left e

number_stopped : (mu mp : ℕ) {B : Type 0} (before bytes : List ℕ) (f : ℕ × List ℕ → Result B ImageFault) (e : ImageFault) → IsBytes bytes → length before < 7 + get_or before 0 0 → (number_at (2 + length before) (least_behind before) (most_behind mu mp before) bytes >>= f) ≡ Err e → ((n : ℕ) (rest : List ℕ) → MayFollow mu mp before n → IsBytes rest → f (n, rest) ≡ Err e → Stop mu mp (before ++ n ∷ []) rest e) → Stop mu mp before bytes e
number_stopped mu mp before bytes f e fits room h goes =
    elim (stopped (number_at (2 + length before) (least_behind before) (most_behind mu mp before) bytes) f e h) [
      | inl s ↦ record { first = []; right = tt; left = bytes; is = refl; fits = fits; stops = subst (λ (b : List ℕ). StopsAt mu mp b bytes e) (sym (append-nil before)) (record { room = room; is = s }) }
      | inr w ↦
          let n : NumberIs (least_behind before) (most_behind mu mp before) bytes w.x = number_is (2 + length before) (least_behind before) (most_behind mu mp before) bytes w.x fits w.is in
          let s : Stop mu mp (before ++ w.x.0 ∷ []) w.x.1 e = goes w.x.0 w.x.1 (n.low, n.high) n.fits w.next in
          record {
            first = w.x.0 ∷ s.first;
            right = ((n.low, n.high), s.right);
            left = s.left;
            is = n.is ∙ ap (λ (l : List ℕ). word w.x.0 ++ l) s.is;
            fits = s.fits;
            stops = subst (λ (b : List ℕ). StopsAt mu mp b s.left e) (append_assoc before (w.x.0 ∷ []) s.first) s.stops;
          }
    ]

counts_stopped : (mu mp : ℕ) (p : Params) (all n k : ℕ) (done : List ℕ) (users : ℕ) (bytes : List ℕ) (e : ImageFault) → length done + users ≡ all → IsBytes bytes → counts_at done (most_user_words p.pages) users bytes ≡ Err e → Stop mu mp (seven p all n k done) bytes e
unfolding counts_at
counts_stopped mu mp p all n k done zero bytes e many fits h = no_fault _ _ e h
counts_stopped mu mp p all n k done (suc users) bytes e many fits h =
    let which : 2 + length (seven p all n k done) ≡ 9 + length done = omega arith in
    number_stopped mu mp (seven p all n k done) bytes (λ c. counts_at (done ++ c.0 ∷ []) (most_user_words p.pages) users c.1) e fits (omega (arith, many))
    (ap (λ (w : ℕ). number_at w 0 (most_user_words p.pages) bytes >>= λ c. counts_at (done ++ c.0 ∷ []) (most_user_words p.pages) users c.1) which ∙ h)
    (λ c rest may more next. counts_stopped mu mp p all n k (done ++ c ∷ []) users rest e (omega (arith, many, length-append done (c ∷ []))) more next)

params_stopped : (mu mp users : ℕ) (bytes : List ℕ) (e : ImageFault) → IsBytes bytes → params_at mp bytes ≡ Err e → Stop mu mp (users ∷ []) bytes e
unfolding params_at
params_stopped mu mp users bytes e fits h =
    number_stopped mu mp (users ∷ []) bytes _ e fits (omega arith) h
    (λ pages b1 m1 f1 h1. number_stopped mu mp (users ∷ pages ∷ []) b1 _ e f1 (omega arith) h1
    (λ frames b2 m2 f2 h2. number_stopped mu mp (users ∷ pages ∷ frames ∷ []) b2 _ e f2 (omega arith) h2
    (λ heap b3 m3 f3 h3. number_stopped mu mp (users ∷ pages ∷ frames ∷ heap ∷ []) b3 _ e f3 (omega arith) h3
    (λ stack b4 m4 f4 h4. no_fault _ _ e h4))))

pub system_stopped : (form mu mp : ℕ) (bytes : List ℕ) (e : ImageFault) → mp ≤ 1024 → IsBytes bytes → system_at form mu mp bytes ≡ Err e → Stop mu mp [] bytes e
unfolding system_at
system_stopped form mu mp bytes e limit fits h =
    number_stopped mu mp [] bytes _ e fits (omega arith) h
    (λ users b1 m1 f1 h1.
    elim (stopped (params_at mp b1) _ e h1) [
      | inl s ↦ params_stopped mu mp users b1 e f1 s
      | inr w ↦
          let p : ParamsIs mp b1 w.x = params_is mp limit b1 w.x w.is f1 in
          let ps : Params = w.x.0 in
          let s : Stop mu mp (users ∷ ps.pages ∷ ps.frames ∷ ps.heap ∷ ps.stack ∷ []) w.x.1 e =
          number_stopped mu mp (users ∷ ps.pages ∷ ps.frames ∷ ps.heap ∷ ps.stack ∷ []) w.x.1 _ e p.fits (omega arith) w.next
          (λ source b2 m2 f2 h2. number_stopped mu mp (users ∷ ps.pages ∷ ps.frames ∷ ps.heap ∷ ps.stack ∷ source ∷ []) b2 _ e f2 (omega arith) h2
          (λ words b3 m3 f3 h3. all_counts ps users source words b3 _ f3 h3 (λ x P bad. no_fault P _ e bad))) in
          record {
            first = ps.pages ∷ ps.frames ∷ ps.heap ∷ ps.stack ∷ s.first;
            right = ((p.range.a_page, p.pages), ((p.range.two_frames, p.range.frames), ((omega arith, p.range.heap), ((p.range.least_stack, p.range.stack), s.right))));
            left = s.left;
            is = p.is ∙ ap (onto (ps.pages ∷ ps.frames ∷ ps.heap ∷ ps.stack ∷ [])) s.is;
            fits = s.fits;
            stops = s.stops;
          }
    ])
  where
    all_counts : (ps : Params) (users source words : ℕ) (rest : List ℕ) (f : List ℕ × List ℕ → Result (Header × (List ℕ × List ℕ)) ImageFault) → IsBytes rest → (counts_at [] (most_user_words ps.pages) users rest >>= f) ≡ Err e → ((x : List ℕ × List ℕ) → (P : Type 0) → f x ≡ Err e → P) → Stop mu mp (seven ps users source words []) rest e
    all_counts ps users source words rest f fits h good =
        elim (stopped (counts_at [] (most_user_words ps.pages) users rest) f e h) [
          | inl s ↦ counts_stopped mu mp ps users source words [] users rest e (omega arith) fits s
          | inr w ↦ good w.x _ w.next
        ]

-- ---- the parts

-- the first of these parts are whole, and the next one isn't
pub record CutIn (ps : List (List ℕ)) (at : ℕ) (rest : List ℕ) (e : ImageFault) : Type 0 where
  pub whole : ℕ
  pub left : List ℕ
  pub is : rest ≡ concat (take whole ps) ++ left
  pub short : length left < length (get_or ps whole [])
  pub fault : e ≡ Truncated (at + length (concat (take whole ps)))

-- all these parts are whole, and bytes follow
pub record GoesOn (ps : List (List ℕ)) (at : ℕ) (rest : List ℕ) (e : ImageFault) : Type 0 where
  pub left : List ℕ
  pub is : rest ≡ concat ps ++ left
  pub more : 0 < length left
  pub fault : e ≡ Trailing (at + length (concat ps))

abbrev pub StopsIn : List (List ℕ) → ℕ → List ℕ → ImageFault → Type 0
StopsIn ps at rest e = CutIn ps at rest e ⊎ GoesOn ps at rest e

stops_here : (x : List ℕ) (ps : List (List ℕ)) (at : ℕ) (rest : List ℕ) (e : ImageFault) → length rest < length x → e ≡ Truncated at → StopsIn (x ∷ ps) at rest e
stops_here x ps at rest e short fault = inl (record { whole = 0; left = rest; is = refl; short = short; fault = fault ∙ ap (λ (n : ℕ). Truncated n) (omega arith) })

stops_behind : (x : List ℕ) (ps : List (List ℕ)) (at : ℕ) (rest others : List ℕ) (e : ImageFault) → rest ≡ x ++ others → StopsIn ps (at + length x) others e → StopsIn (x ∷ ps) at rest e
stops_behind x ps at rest others e is (inl c) =
    inl (record {
      whole = suc c.whole;
      left = c.left;
      is = is ∙ ap (λ (l : List ℕ). x ++ l) c.is ∙ sym (append_assoc x (concat (take c.whole ps)) c.left);
      short = c.short;
      fault = c.fault ∙ ap (λ (n : ℕ). Truncated n) (omega (arith, length-append x (concat (take c.whole ps))));
    })
stops_behind x ps at rest others e is (inr g) =
    inr (record {
      left = g.left;
      is = is ∙ ap (λ (l : List ℕ). x ++ l) g.is ∙ sym (append_assoc x (concat ps) g.left);
      more = g.more;
      fault = g.fault ∙ ap (λ (n : ℕ). Trailing n) (omega (arith, length-append x (concat ps)));
    })

-- users of these numbers of words, the first of which have the bytes
pub record UsersStop (at : ℕ) (counts rest : List ℕ) (e : ImageFault) : Type 0 where
  pub users : List (List ℕ)
  pub many : map length users ≡ counts
  pub bits : AllByRecursion AreWords users
  pub stops : StopsIn (map (flat_map word) users) at rest e

users_stopped : (at : ℕ) (counts rest : List ℕ) (e : ImageFault) → IsBytes rest → users_at at counts rest ≡ Err e → UsersStop at counts rest e
unfolding users_at
users_stopped at [] [] e fits h = no_fault _ _ e h
users_stopped at [] (b ∷ rest) e fits h = record {
  users = [];
  many = refl;
  bits = tt;
  stops =
      inr (record {
        left = b ∷ rest;
        is = refl;
        more = omega arith;
        fault = sym (same_fault _ e (sym (users_go_on at 0 [] (b ∷ rest) (omega arith) (omega arith)) ∙ h)) ∙ ap (λ (n : ℕ). Trailing n) (omega arith);
      });
}
users_stopped at (n ∷ counts) rest e fits h =
    elim (cases_lt (length rest) (4 * n)) [
      | inl short ↦ record {
        users = replicate n 0 ∷ zeros counts;
        many = zeros_counts (n ∷ counts);
        bits = users_zeros (n ∷ counts);
        stops =
            stops_here (flat_map word (replicate n 0)) (map (flat_map word) (zeros counts)) at rest e (omega (arith, short, length-words (replicate n 0), length-replicate {A = ℕ} n 0))
            (sym (same_fault _ e (sym (users_first at n counts rest (Err (Truncated at)) (part_short at (4 * n) rest short)) ∙ h)));
      }
      | inr long ↦
          let m : Made n (take (4 * n) rest) = made n (take (4 * n) rest) (IsBytes-take (4 * n) rest fits) (omega (arith, length-take (4 * n) rest, long)) in
          let next : users_at (at + 4 * n) counts (drop (4 * n) rest) ≡ Err e = sym (users_first at n counts rest (Ok (take (4 * n) rest, drop (4 * n) rest)) (part_whole at (4 * n) rest long)) ∙ h in
          let r : UsersStop (at + 4 * n) counts (drop (4 * n) rest) e = users_stopped (at + 4 * n) counts (drop (4 * n) rest) e (IsBytes-drop (4 * n) rest fits) next in
          let position : at + 4 * n ≡ at + length (flat_map word m.words) = omega (arith, length-words m.words, m.counted) in
          record {
            users = m.words ∷ r.users;
            many = ap (λ (k : ℕ). k ∷ map length r.users) m.counted ∙ ap (λ (l : List ℕ). n ∷ l) r.many;
            bits = (All-from_recursion (λ w. w < 2 ^ 32) m.words m.small, r.bits);
            stops =
                stops_behind (flat_map word m.words) (map (flat_map word) r.users) at rest (drop (4 * n) rest) e (sym (take-append-drop (4 * n) rest) ∙ ap (λ (l : List ℕ). l ++ drop (4 * n) rest) m.is)
                (subst (λ (a : ℕ). StopsIn (map (flat_map word) r.users) a (drop (4 * n) rest) e) position r.stops);
          }
    ]

-- an image of these sizes, the first parts of which have the bytes
pub record PartsStop (h : Header) (counts rest : List ℕ) (e : ImageFault) : Type 0 where
  pub source : List ℕ
  pub words : List ℕ
  pub users : List (List ℕ)
  pub source_many : length source ≡ h.source_length
  pub words_many : length words ≡ h.word_count
  pub users_many : map length users ≡ counts
  pub bits : AreWords words
  pub user_bits : All AreWords users
  pub stops : StopsIn (source ∷ flat_map word words ∷ map (flat_map word) users) h.parts_at rest e

-- what is left to read behind the source, and behind the linked words
abbrev then_users : Header → List ℕ → List ℕ → List ℕ × List ℕ → Parted
then_users h counts source words = users_at (h.parts_at + h.source_length + 4 * h.word_count) counts words.1 >>= λ end. Ok (source, (words.0, words.1))

abbrev then_words : Header → List ℕ → List ℕ × List ℕ → Parted
then_words h counts source = part_at (h.parts_at + h.source_length) (4 * h.word_count) source.1 >>= then_users h counts source.0

words_stopped : (h : Header) (counts rest source others : List ℕ) (e : ImageFault) → IsBytes others → rest ≡ source ++ others → length source ≡ h.source_length → then_words h counts (source, others) ≡ Err e → PartsStop h counts rest e
words_stopped h counts rest source others e fits is many next =
    let k : ℕ = h.word_count in
    let at : ℕ = h.parts_at + h.source_length in
    let position : at ≡ h.parts_at + length source = omega (arith, many) in
    elim (cases_lt (length others) (4 * k)) [
      | inl short ↦
          let fault : e ≡ Truncated at = sym (same_fault _ e (sym (ap (λ (q : Result (List ℕ × List ℕ) ImageFault). q >>= then_users h counts source) (part_short at (4 * k) others short)) ∙ next)) in
          record {
            source = source;
            words = replicate k 0;
            users = zeros counts;
            source_many = many;
            words_many = length-replicate {A = ℕ} k 0;
            users_many = zeros_counts counts;
            bits = words_zeros k;
            user_bits = All-from_recursion AreWords (zeros counts) (users_zeros counts);
            stops =
                stops_behind source (flat_map word (replicate k 0) ∷ map (flat_map word) (zeros counts)) h.parts_at rest others e is
                (stops_here (flat_map word (replicate k 0)) (map (flat_map word) (zeros counts)) (h.parts_at + length source) others e (omega (arith, short, length-words (replicate k 0), length-replicate {A = ℕ} k 0)) (fault ∙ ap (λ (n : ℕ). Truncated n) position));
          }
      | inr long ↦
          let left : List ℕ = drop (4 * k) others in
          let m : Made k (take (4 * k) others) = made k (take (4 * k) others) (IsBytes-take (4 * k) others fits) (omega (arith, length-take (4 * k) others, long)) in
          let behind : then_users h counts source (take (4 * k) others, left) ≡ Err e =
          sym (ap (λ (q : Result (List ℕ × List ℕ) ImageFault). q >>= then_users h counts source) (part_whole at (4 * k) others long)) ∙ next in
          elim (stopped (users_at (at + 4 * k) counts left) _ e behind) [
            | inl s ↦
                let u : UsersStop (at + 4 * k) counts left e = users_stopped (at + 4 * k) counts left e (IsBytes-drop (4 * k) others fits) s in
                let there : at + 4 * k ≡ h.parts_at + length source + length (flat_map word m.words) = omega (arith, many, length-words m.words, m.counted) in
                record {
                  source = source;
                  words = m.words;
                  users = u.users;
                  source_many = many;
                  words_many = m.counted;
                  users_many = u.many;
                  bits = All-from_recursion (λ w. w < 2 ^ 32) m.words m.small;
                  user_bits = All-from_recursion AreWords u.users u.bits;
                  stops =
                      stops_behind source (flat_map word m.words ∷ map (flat_map word) u.users) h.parts_at rest others e is
                      (stops_behind (flat_map word m.words) (map (flat_map word) u.users) (h.parts_at + length source) others left e (sym (take-append-drop (4 * k) others) ∙ ap (λ (l : List ℕ). l ++ left) m.is)
                      (subst (λ (a : ℕ). StopsIn (map (flat_map word) u.users) a left e) there u.stops));
                }
            | inr w ↦ no_fault _ _ e w.next
          ]
    ]

pub parts_stopped : (h : Header) (counts rest : List ℕ) (e : ImageFault) → IsBytes rest → parts_of h counts rest ≡ Err e → PartsStop h counts rest e
unfolding parts_of
parts_stopped h counts rest e fits failed =
    let n : ℕ = h.source_length in
    elim (cases_lt (length rest) n) [
      | inl short ↦
          let text : List ℕ = replicate n 0 in
          let k : ℕ = h.word_count in
          let fault : e ≡ Truncated h.parts_at = sym (same_fault _ e (sym (ap (λ (q : Result (List ℕ × List ℕ) ImageFault). q >>= then_words h counts) (part_short h.parts_at n rest short)) ∙ failed)) in
          record {
            source = text;
            words = replicate k 0;
            users = zeros counts;
            source_many = length-replicate {A = ℕ} n 0;
            words_many = length-replicate {A = ℕ} k 0;
            users_many = zeros_counts counts;
            bits = words_zeros k;
            user_bits = All-from_recursion AreWords (zeros counts) (users_zeros counts);
            stops = stops_here text (flat_map word (replicate k 0) ∷ map (flat_map word) (zeros counts)) h.parts_at rest e (omega (arith, short, length-replicate {A = ℕ} n 0)) fault;
          }
      | inr long ↦
          words_stopped h counts rest (take n rest) (drop n rest) e (IsBytes-drop n rest fits) (sym (take-append-drop n rest)) (omega (arith, length-take n rest, long))
          (sym (ap (λ (q : Result (List ℕ × List ℕ) ImageFault). q >>= then_words h counts) (part_whole h.parts_at n rest long)) ∙ failed)
    ]
