-- A loop that changes each element of a list in place: the elements so far are changed, and the others are as they were.
use Rattle.std.proofs.lemmas.List.{length-map}
use Rattle.std.proofs.Common.{◌≡◌, ℕ, zero, suc, ◌+◌, ◌<◌, List, [], ◌∷◌, length, map, get_or, set, add-one, refl, sym, ap, ◌∙◌, subst, arith}

-- a list whose first elements are changed
abbrev pub done : {V : Type 0} → (V → V) → ℕ → List V → List V
done f zero vs = vs
done f (suc i) [] = []
done f (suc i) (v ∷ vs) = f v ∷ done f i vs

-- a list without its first elements
abbrev pub rest : {V : Type 0} → ℕ → List V → List V
rest zero vs = vs
rest (suc i) [] = []
rest (suc i) (v ∷ vs) = rest i vs

-- all are changed
pub done-all : {V : Type 0} (f : V → V) (vs : List V) → done f (length vs) vs ≡ map f vs
done-all f [] = refl
done-all f (v ∷ vs) = ap (λ l. f v ∷ l) (done-all f vs)

pub rest-all : {V : Type 0} (vs : List V) → rest (length vs) vs ≡ []
rest-all [] = refl
rest-all (v ∷ vs) = rest-all vs

pub length-done : {V : Type 0} (f : V → V) (i : ℕ) (vs : List V) → length (done f i vs) ≡ length vs
length-done f zero vs = refl
length-done f (suc i) [] = refl
length-done f (suc i) (v ∷ vs) = ap suc (length-done f i vs)

-- the next element is as it was
pub done-next : {V : Type 0} (f : V → V) (i : ℕ) (vs : List V) (d : V) → get_or (done f i vs) i d ≡ get_or vs i d
done-next f zero vs d = refl
done-next f (suc i) [] d = refl
done-next f (suc i) (v ∷ vs) d = done-next f i vs d

-- the next element is changed
step_suc : {V : Type 0} (f : V → V) (i : ℕ) (vs : List V) (d : V) → i < length vs → set (done f i vs) i (f (get_or vs i d)) ≡ done f (suc i) vs
step_suc f zero [] d h = absurd (omega (arith, h))
step_suc f zero (v ∷ vs) d h = refl
step_suc f (suc i) [] d h = absurd (omega (arith, h))
step_suc f (suc i) (v ∷ vs) d h = ap (λ l. f v ∷ l) (step_suc f i vs d (omega (arith, h)))

pub done-step : {V : Type 0} (f : V → V) (i : ℕ) (vs : List V) (d : V) → i < length vs → set (done f i vs) i (f (get_or vs i d)) ≡ done f (i + 1) vs
done-step f i vs d h = step_suc f i vs d h ∙ ap (λ k. done f k vs) (sym (add-one i))

-- what is left begins with the next element
next_suc : {V : Type 0} (i : ℕ) (vs : List V) (d : V) → i < length vs → rest i vs ≡ get_or vs i d ∷ rest (suc i) vs
next_suc zero [] d h = absurd (omega (arith, h))
next_suc zero (v ∷ vs) d h = refl
next_suc (suc i) [] d h = absurd (omega (arith, h))
next_suc (suc i) (v ∷ vs) d h = next_suc i vs d (omega (arith, h))

pub rest-next : {V : Type 0} (i : ℕ) (vs : List V) (d : V) → i < length vs → rest i vs ≡ get_or vs i d ∷ rest (i + 1) vs
rest-next i vs d h = next_suc i vs d h ∙ ap (λ k. get_or vs i d ∷ rest k vs) (sym (add-one i))

-- a view of the elements
pub map-set : {T V : Type 0} (view : T → V) (xs : List T) (i : ℕ) (x : T) → map view (set xs i x) ≡ set (map view xs) i (view x)
map-set view [] zero x = refl
map-set view [] (suc i) x = refl
map-set view (y ∷ xs) zero x = refl
map-set view (y ∷ xs) (suc i) x = ap (λ l. view y ∷ l) (map-set view xs i x)

pub map-get_or : {T V : Type 0} (view : T → V) (xs : List T) (i : ℕ) (d : T) → view (get_or xs i d) ≡ get_or (map view xs) i (view d)
map-get_or view [] i d = refl
map-get_or view (x ∷ xs) zero d = refl
map-get_or view (x ∷ xs) (suc i) d = map-get_or view xs i d

-- one element more is changed, seen through a view
pub record Step {T V : Type 0} (view : T → V) (f : V → V) (ys xs : List T) (i : ℕ) (x new : T) : Type 0 where
  pub changed : map view (set xs i new) ≡ done f (i + 1) (map view ys)
  pub was : view x ≡ get_or (map view ys) i (view x)
  pub within : i < length (map view ys)

pub in_place_step : {T V : Type 0} (view : T → V) (f : V → V) (ys xs : List T) (i : ℕ) (x new : T)
    → map view xs ≡ done f i (map view ys) → i < length ys → x ≡ get_or xs i x → view new ≡ f (view x) → Step view f ys xs i x new
in_place_step view f ys xs i x new e h at k =
    let was : view x ≡ get_or (map view ys) i (view x) =
    ap view at ∙ (map-get_or view xs i x ∙ (ap (λ l. get_or l i (view x)) e ∙ done-next f i (map view ys) (view x))) in
    let within : i < length (map view ys) = subst (λ n. i < n) (sym (length-map ys view)) h in
    record {
      changed = map-set view xs i new ∙ (ap (λ l. set l i (view new)) e
          ∙ (ap (set (done f i (map view ys)) i) (k ∙ ap f was) ∙ done-step f i (map view ys) (view x) within));
      was = was;
      within = within;
    }

-- at the end all are changed
pub in_place_end : {T V : Type 0} (view : T → V) (f : V → V) (ys xs : List T) (i : ℕ)
    → map view xs ≡ done f i (map view ys) → i ≡ length ys → (map view xs ≡ map f (map view ys)) × (rest i (map view ys) ≡ [])
in_place_end view f ys xs i e h =
    let same : i ≡ length (map view ys) = h ∙ sym (length-map ys view) in
    (e ∙ (ap (λ k. done f k (map view ys)) same ∙ done-all f (map view ys)), ap (λ k. rest k (map view ys)) same ∙ rest-all (map view ys))

-- the next element is as it was
pub in_place_at : {T V : Type 0} (view : T → V) (f : V → V) (ys xs : List T) (i : ℕ) (x : T)
    → map view xs ≡ done f i (map view ys) → i < length ys → x ≡ get_or xs i x → (view x ≡ get_or (map view ys) i (view x)) × (i < length (map view ys))
in_place_at view f ys xs i x e h at = (
  ap view at ∙ (map-get_or view xs i x ∙ (ap (λ l. get_or l i (view x)) e ∙ done-next f i (map view ys) (view x))),
  subst (λ n. i < n) (sym (length-map ys view)) h,
)
