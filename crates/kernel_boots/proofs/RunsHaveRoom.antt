-- What is run has room, since its image was read: its stack has 64 words at least, no user has more words than its pages, of which there are 1,024 at most,
-- and there are 64 users at most.
use Rattle.std.proofs.Common.{◌≡◌, ℕ, zero, suc, ◌+◌, ◌*◌, ◌≤◌, Bool, true, false, ◌||◌, All, List, [], ◌∷◌, ◌++◌, length, take, drop, Result, Ok, Err, refl, sym, subst, arith}
use Rattle.std.specs.Prelude.{nat_eq, if◌then◌else◌}
use Rattle.std.proofs.lemmas.Bool.{ltb-false}
use Rattle.std.proofs.lemmas.List.{length-take, length-append}
use Rattle.std.proofs.lemmas.List.Elements.{All-nil, All-cons, All-append, All-head, All-tail}
use Rattle.layer_map.specs.declared.params.Params.{Params}
use Rattle.cvm_words.specs.Bytes.{words_of_bytes}
use Rattle.boot_image.specs.declared.fault.ImageFault.{ImageFault}
use Rattle.boot_image.specs.Parts.{ImageParts as Image}
use Rattle.boot_image.specs.Format.{most_user_words}
use Rattle.cvm_words.specs.Reading.{◌>>=◌}
use Rattle.boot_image.specs.Reading.{mark_at, number_at, form_at, params_at, counts_at, bare_at, system_at, header_of, parts_of, image_of, users_of, answer}
use Rattle.kernel_linker.specs.Accept.{ImageSystem}
use Rattle.kernel_linker.specs.Sources.{IsOfImage}

-- a system that has room
pub record Roomy (s : ImageSystem) : Type 0 where
  pub stack : 64 ≤ s.params.stack
  pub pages : s.params.pages ≤ 1024
  pub few : length s.users ≤ 64
  pub users : All (λ words. length words ≤ 1024 * s.params.pages) s.users

-- a step and the next one went on
record Went (A B : Type 0) (r : Result A ImageFault) (f : A → Result B ImageFault) (y : B) : Type 0 where
  x : A
  is : r ≡ Ok x
  next : f x ≡ Ok y

went : {A B : Type 0} (r : Result A ImageFault) (f : A → Result B ImageFault) (y : B) → (r >>= f) ≡ Ok y → Went A B r f y
went (Ok x) f y h = record { x = x; is = refl; next = h }
went (Err e) f y h = absurd (cc)

one_is : {A : Type 0} (r : Result A ImageFault) (x y : A) → r ≡ Ok x → r ≡ Ok y → x ≡ y
one_is r x y a b = cc

-- a step that went on past its tests
past : {A : Type 0} (a b c : Bool) (e f : ImageFault) (y x : A) → ◌≡◌ {A = Result A ImageFault} (if a then Err e else if b || c then Err f else Ok y) (Ok x) → (y ≡ x) × (b ≡ false) × (c ≡ false)
past true b c e f y x h = absurd (cc)
past false true c e f y x h = absurd (cc)
past false false true e f y x h = absurd (cc)
past false false false e f y x h = (cc, refl, refl)

-- a number that was read is in its range
number_in : (which least most : ℕ) (bytes : List ℕ) (x : ℕ × List ℕ) → number_at which least most bytes ≡ Ok x → (least ≤ x.0) × (x.0 ≤ most)
unfolding number_at
number_in which least most bytes x h =
    let p = past _ _ _ _ _ _ x h in
    subst (λ (y : ℕ × List ℕ). (least ≤ y.0) × (y.0 ≤ most)) p.0 (ltb-false _ least p.1, ltb-false most _ p.2)

stack_in : (most : ℕ) (bytes : List ℕ) (x : Params × List ℕ) → params_at most bytes ≡ Ok x → 64 ≤ x.0.stack
unfolding params_at
stack_in most bytes x h =
    let a = went (number_at 3 1 most bytes) _ x h in
    let b = went (number_at 4 2 16384 a.x.1) _ x a.next in
    let c = went (number_at 5 0 1048576 b.x.1) _ x b.next in
    let d = went (number_at 6 64 262144 c.x.1) _ x c.next in
    let found : Params = record { pages = a.x.0; frames = b.x.0; heap = c.x.0; stack = d.x.0 } in
    subst (λ (y : Params × List ℕ). 64 ≤ y.0.stack) (one_is _ (found, d.x.1) x refl d.next) (number_in 6 64 262144 c.x.1 d.x d.is).0

pages_in : (most : ℕ) (bytes : List ℕ) (x : Params × List ℕ) → params_at most bytes ≡ Ok x → x.0.pages ≤ most
unfolding params_at
pages_in most bytes x h =
    let a = went (number_at 3 1 most bytes) _ x h in
    let b = went (number_at 4 2 16384 a.x.1) _ x a.next in
    let c = went (number_at 5 0 1048576 b.x.1) _ x b.next in
    let d = went (number_at 6 64 262144 c.x.1) _ x c.next in
    let found : Params = record { pages = a.x.0; frames = b.x.0; heap = c.x.0; stack = d.x.0 } in
    subst (λ (y : Params × List ℕ). y.0.pages ≤ most) (one_is _ (found, d.x.1) x refl d.next) (number_in 3 1 most bytes a.x a.is).1

-- as many counts are read as are asked for
counts_long : (first : List ℕ) (most users : ℕ) (bytes : List ℕ) (x : List ℕ × List ℕ) → counts_at first most users bytes ≡ Ok x → length x.0 ≡ length first + users
unfolding counts_at
counts_long first most zero bytes x h = subst (λ (y : List ℕ × List ℕ). length y.0 ≡ length first + 0) (one_is _ (first, bytes) x refl h) (omega arith)
counts_long first most (suc users) bytes x h =
    let w = went (number_at (9 + length first) 0 most bytes) _ x h in
    let more = counts_long (first ++ w.x.0 ∷ []) most users w.x.1 x w.next in
    let one = length-append first (w.x.0 ∷ []) in
    omega (arith, more, one)

counts_in : (first : List ℕ) (most users : ℕ) (bytes : List ℕ) (x : List ℕ × List ℕ) → All (λ n. n ≤ most) first → counts_at first most users bytes ≡ Ok x → All (λ n. n ≤ most) x.0
unfolding counts_at
counts_in first most zero bytes x all h = subst (λ (y : List ℕ × List ℕ). All (λ n. n ≤ most) y.0) (one_is _ (first, bytes) x refl h) all
counts_in first most (suc users) bytes x all h =
    let w = went (number_at (9 + length first) 0 most bytes) _ x h in
    let few : w.x.0 ≤ most = (number_in (9 + length first) 0 most bytes w.x w.is).1 in
    let more = All-append (λ n. n ≤ most) first (w.x.0 ∷ []) all (All-cons (λ n. n ≤ most) w.x.0 [] few (All-nil (λ n. n ≤ most))) in
    counts_in (first ++ w.x.0 ∷ []) most users w.x.1 x more w.next

-- parameters give a stack and few pages, and there are few users, none with more words than its pages
record HeaderIn (p : Params) (counts : List ℕ) : Type 0 where
  stack : 64 ≤ p.stack
  pages : p.pages ≤ 1024
  few : length counts ≤ 64
  sizes : All (λ n. n ≤ most_user_words p.pages) counts

-- the same of an equal header, whose type has no name here
told : {H : Type 0} (x y : H × (List ℕ × List ℕ)) → x ≡ y → (params : H → Params) → HeaderIn (params x.0) x.1.0 → HeaderIn (params y.0) y.1.0
told {H} x y e params h = subst (λ (z : H × (List ℕ × List ℕ)). HeaderIn (params z.0) z.1.0) e h

bare_in : (bytes : List ℕ) (x : _) → bare_at bytes ≡ Ok x → HeaderIn x.0.params x.1.0
unfolding bare_at
bare_in bytes x h =
    let w = went (number_at 2 0 1048576 bytes) _ x h in
    told _ x (one_is _ _ x refl w.next) (λ head. head.params) (record { stack = omega arith; pages = omega arith; few = omega arith; sizes = All-nil (λ n. n ≤ most_user_words 1) })

system_in : (form users pages : ℕ) (bytes : List ℕ) (x : _) → users ≤ 64 → pages ≤ 1024 → system_at form users pages bytes ≡ Ok x → HeaderIn x.0.params x.1.0
unfolding system_at
system_in form users pages bytes x few some h =
    let a = went (number_at 2 0 users bytes) _ x h in
    let b = went (params_at pages a.x.1) _ x a.next in
    let c = went (number_at 7 0 1048576 b.x.1) _ x b.next in
    let d = went (number_at 8 16384 4194304 c.x.1) _ x c.next in
    let e = went (counts_at [] (most_user_words b.x.0.pages) a.x.0 d.x.1) _ x d.next in
    told _ x (one_is _ _ x refl e.next) (λ head. head.params)
    (record {
      stack = stack_in pages a.x.1 b.x b.is;
      pages = let most = pages_in pages a.x.1 b.x b.is in omega (arith, most, some);
      few = let long = counts_long [] (most_user_words b.x.0.pages) a.x.0 d.x.1 e.x e.is in let most = (number_in 2 0 users bytes a.x a.is).1 in omega (arith, long, most, few);
      sizes = counts_in [] (most_user_words b.x.0.pages) a.x.0 d.x.1 e.x (All-nil (λ n. n ≤ most_user_words b.x.0.pages)) e.is;
    })

header_in : (bytes : List ℕ) (x : _) → header_of bytes ≡ Ok x → HeaderIn x.0.params x.1.0
unfolding header_of
header_in bytes x h =
    let a = went (mark_at bytes) _ x h in
    let b = went (form_at a.x) _ x a.next in
    by b.x.1 (nat_eq b.x.0 1) b.next
  where
    by : (rest : List ℕ) (one : Bool) → (if one then bare_at rest else system_at 3 64 1024 rest) ≡ Ok x → HeaderIn x.0.params x.1.0
    by rest true e = bare_in rest x e
    by rest false e = system_in 3 64 1024 rest x (omega arith) (omega arith) e

-- so many bytes give no more words
words_few : (n : ℕ) (bytes : List ℕ) → length bytes ≤ 4 * n → length (words_of_bytes bytes) ≤ n
unfolding words_of_bytes
words_few n [] few = omega arith
words_few n (a ∷ []) few = omega arith
words_few n (a ∷ b ∷ []) few = omega arith
words_few n (a ∷ b ∷ c ∷ []) few = omega arith
words_few zero (a ∷ b ∷ c ∷ d ∷ bytes) few = absurd (omega (arith, few))
words_few (suc n) (a ∷ b ∷ c ∷ d ∷ bytes) few = let rest = words_few n bytes (omega (arith, few)) in omega (arith, rest)

users_in : (pages : ℕ) (counts bytes : List ℕ) → All (λ n. n ≤ most_user_words pages) counts → All (λ (u : List ℕ). length u ≤ 1024 * pages) (users_of counts bytes)
unfolding users_of
users_in pages [] bytes all = All-nil (λ (u : List ℕ). length u ≤ 1024 * pages)
users_in pages (n ∷ counts) bytes all =
    let few = words_few n (take (4 * n) bytes) (omega (arith, length-take (4 * n) bytes)) in
    let head = All-head (λ n. n ≤ most_user_words pages) n counts all in
    All-cons (λ (u : List ℕ). length u ≤ 1024 * pages) (words_of_bytes (take (4 * n) bytes)) (users_of counts (drop (4 * n) bytes)) (omega (arith, few, head))
    (users_in pages counts (drop (4 * n) bytes) (All-tail (λ n. n ≤ most_user_words pages) n counts all))

users_many : (counts bytes : List ℕ) → length (users_of counts bytes) ≡ length counts
unfolding users_of
users_many [] bytes = refl
users_many (n ∷ counts) bytes = let h = users_many counts (drop (4 * n) bytes) in omega (arith, h)

-- an image that is read
pub record RoomIn (i : Image) : Type 0 where
  pub stack : 64 ≤ i.params.stack
  pub pages : i.params.pages ≤ 1024
  pub few : length i.users ≤ 64
  pub users : All (λ words. length words ≤ 1024 * i.params.pages) i.users

pub room_of : (bytes : List ℕ) (i : Image) → answer bytes ≡ Ok i → RoomIn i
unfolding answer
room_of bytes i h =
    let a = went (header_of bytes) _ i h in
    let b = went (parts_of a.x.0 a.x.1.0 a.x.1.1) _ i a.next in
    let head : HeaderIn a.x.0.params a.x.1.0 = header_in bytes a.x a.is in
    subst RoomIn (one_is _ (image_of a.x.0 a.x.1.0 b.x.0 b.x.1.0 b.x.1.1) i refl b.next)
    (record { stack = head.stack; pages = head.pages; few = (let many = users_many a.x.1.0 b.x.1.1 in let few = head.few in omega (arith, many, few)); users = users_in a.x.0.params.pages a.x.1.0 b.x.1.1 head.sizes })

-- and so the system that is that of an image
pub roomy : (i : Image) (s : ImageSystem) → RoomIn i → IsOfImage i s → Roomy s
roomy i s room is =
    let users = subst (λ (p : Params). All (λ words. length words ≤ 1024 * p.pages) i.users) (sym is.params) room.users in
    record {
      stack = subst (λ (p : Params). 64 ≤ p.stack) (sym is.params) room.stack;
      pages = subst (λ (p : Params). p.pages ≤ 1024) (sym is.params) room.pages;
      few = subst (λ (us : List (List ℕ)). length us ≤ 64) (sym is.users) room.few;
      users = subst (All (λ words. length words ≤ 1024 * s.params.pages)) (sym is.users) users;
    }
