-- A report, cut at a user's block; and a user of a list of words.
use Rattle.std.proofs.Common.{◌≡◌, ℕ, zero, suc, ◌+◌, ◌-◌, ◌<◌, ◌≤◌, List, [], ◌∷◌, ◌++◌, length, refl, sym, ap, ◌∙◌, arith}
use Rattle.std.specs.Prelude.{take, drop, map, Some, slice_get, slice_index_or}
use Rattle.std.proofs.lemmas.List.{append_assoc}
use Rattle.mips_table.specs.Flat.{Flat}
use Rattle.cvm_model.specs.Kernel.{parts_of_value}
use Rattle.cvm_model.specs.Primitives.{no_flat, user_of}
use Rattle.cvm_model.specs.Cvm.{System, Cvm, Status, Running, Halted, Faulted}
use Rattle.cvm_model.specs.Text.{rows_text, end_text, globals_text, log_text, user_text, users_text, report_text, closing_text, boot_text}
use Rattle.kernel_boots.specs.Separation.{in_front, behind_user}

-- the rows of users, from number k on, cut at the n-th of them
cut_users : (k n : ℕ) (us : List Flat) → n < length us → users_text k us ≡ users_text k (take n us) ++ (user_text (k + n) (slice_index_or us n no_flat) ++ users_text (k + n + 1) (drop (suc n) us))
cut_users k n [] lt = absurd (omega (arith, lt))
cut_users k zero (f ∷ us) lt =
    let e : k + 0 ≡ k = omega arith in
    sym (ap (λ i. user_text i f ++ users_text (i + 1) us) e)
cut_users k (suc n) (f ∷ us) lt =
    let e : k + 1 + n ≡ k + suc n = omega arith in
    ap (λ t. user_text k f ++ t) (cut_users (k + 1) n us (omega (arith, lt)) ∙ ap (λ i. users_text (k + 1) (take n us) ++ (user_text i (slice_index_or us n no_flat) ++ users_text (i + 1) (drop (suc n) us))) e)
    ∙ sym (append_assoc (user_text k f) (users_text (k + 1) (take n us)) (user_text (k + suc n) (slice_index_or us n no_flat) ++ users_text (k + suc n + 1) (drop (suc n) us)))

cut_user : (u : ℕ) (us : List Flat) → 1 ≤ u → u ≤ length us → users_text 1 us ≡ users_text 1 (take (u - 1) us) ++ (user_text u (user_of us u) ++ users_text (u + 1) (drop u us))
cut_user u us some few =
    let one : 1 + (u - 1) ≡ u = omega (arith, some) in
    let next : suc (u - 1) ≡ u = omega (arith, some) in
    cut_users 1 (u - 1) us (omega (arith, few, some))
    ∙ ap (λ i. users_text 1 (take (u - 1) us) ++ (user_text i (user_of us u) ++ users_text (i + 1) (drop (suc (u - 1)) us))) one
    ∙ ap (λ i. users_text 1 (take (u - 1) us) ++ (user_text u (user_of us u) ++ users_text (u + 1) (drop i us))) next

regroup : (a b c d x : List ℕ) → a ++ (b ++ (c ++ (d ++ x))) ≡ (a ++ (b ++ (c ++ d))) ++ x
regroup a b c d x =
    ap (λ t. a ++ (b ++ t)) (sym (append_assoc c d x)) ∙ ap (λ t. a ++ t) (sym (append_assoc b (c ++ d) x)) ∙ sym (append_assoc a (b ++ (c ++ d)) x)

-- a status that is no fault
abbrev pub IsReported : Status → Type 0
IsReported (Faulted f) = ⊥
IsReported other = Unit {0}

closes : (y : System) (c : Cvm) (s : Status) → IsReported s → closing_text y c s ≡ end_text s ++ report_text y.boot.meaning.names c.core
closes y c Running h = refl
closes y c Halted h = refl
closes y c (Faulted f) h = absurd h

pub cut_boot : (y : System) (c : Cvm) (u : ℕ) → IsReported c.status → 1 ≤ u → u ≤ length c.core.users → boot_text y c ≡ in_front y c u ++ (user_text u (user_of c.core.users u) ++ behind_user c u)
cut_boot y c u reported some few =
    let k : List ℕ = globals_text y.boot.meaning.names (parts_of_value c.core.c0.global_values) ++ log_text c.core.console.log in
    ap (λ t. rows_text c.rows ++ t) (closes y c c.status reported)
    ∙ ap (λ t. rows_text c.rows ++ (end_text c.status ++ (k ++ t))) (cut_user u c.core.users some few)
    ∙ regroup (rows_text c.rows) (end_text c.status) k (users_text 1 (take (u - 1) c.core.users)) (user_text u (user_of c.core.users u) ++ behind_user c u)

-- A USER'S WORDS
pub there : {A : Type 0} (xs : List A) (n : ℕ) (x : A) → slice_get xs n ≡ Some x → n < length xs
there [] n x e = absurd (cc)
there (y ∷ xs) zero x e = omega arith
there (y ∷ xs) (suc n) x e = let h = there xs n x e in omega (arith, h)

pub mapped : {A : Type 0} (f : A → Flat) (xs : List A) (n : ℕ) (x : A) → slice_get xs n ≡ Some x → slice_index_or (map f xs) n no_flat ≡ f x
mapped f [] n x e = absurd (cc)
mapped f (y ∷ xs) zero x e = ap f (let same : y ≡ x = cc in same)
mapped f (y ∷ xs) (suc n) x e = mapped f xs n x e
