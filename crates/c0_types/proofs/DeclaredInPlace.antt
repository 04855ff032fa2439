-- A loop that changes each element of a list in place, by the element's number: the elements so far are changed, and the others are as
-- they were.
use Rattle.std.proofs.lemmas.List.{length-map}
use Rattle.std.proofs.Common.{◌≡◌, ℕ, zero, suc, ◌+◌, ◌<◌, List, [], ◌∷◌, length, map, get_or, set, add-one, refl, sym, ap, ◌∙◌, subst, arith}
use Rattle.c0_body_check.proofs.InPlace.{rest, rest-next, map-set, map-get_or}

-- a list whose first elements are changed, of which the first has number k
abbrev pub numbered : {V : Type 0} → (ℕ → V → V) → ℕ → ℕ → List V → List V
numbered f k zero vs = vs
numbered f k (suc i) [] = []
numbered f k (suc i) (v ∷ vs) = f k v ∷ numbered f (suc k) i vs

-- the next element is as it was
numbered-next : {V : Type 0} (f : ℕ → V → V) (k i : ℕ) (vs : List V) (d : V) → get_or (numbered f k i vs) i d ≡ get_or vs i d
numbered-next f k zero vs d = refl
numbered-next f k (suc i) [] d = refl
numbered-next f k (suc i) (v ∷ vs) d = numbered-next f (suc k) i vs d

-- the next element is changed
step_suc : {V : Type 0} (f : ℕ → V → V) (k i n : ℕ) (vs : List V) (d : V) → i < length vs → n ≡ k + i
    → set (numbered f k i vs) i (f n (get_or vs i d)) ≡ numbered f k (suc i) vs
step_suc f k zero n [] d h e = absurd (omega (arith, h))
step_suc f k zero n (v ∷ vs) d h e = let same : n ≡ k = omega (arith, e) in ap (λ (m : ℕ). f m v ∷ vs) same
step_suc f k (suc i) n [] d h e = absurd (omega (arith, h))
step_suc f k (suc i) n (v ∷ vs) d h e = ap (λ l. f k v ∷ l) (step_suc f (suc k) i n vs d (omega (arith, h)) (omega (arith, e)))

-- the element that is looked at is as it was, and what is left begins with it
pub record IsNext {T V : Type 0} (view : T → V) (ys : List T) (i : ℕ) (x : T) : Type 0 where
  pub was : view x ≡ get_or (map view ys) i (view x)
  pub left : rest i (map view ys) ≡ view x ∷ rest (i + 1) (map view ys)

pub numbered_next : {T V : Type 0} (view : T → V) (f : ℕ → V → V) (k : ℕ) (ys xs : List T) (i : ℕ) (x : T)
    → map view xs ≡ numbered f k i (map view ys) → i < length ys → x ≡ get_or xs i x → IsNext view ys i x
numbered_next view f k ys xs i x e h at =
    let was : view x ≡ get_or (map view ys) i (view x) =
    ap view at ∙ (map-get_or view xs i x ∙ (ap (λ l. get_or l i (view x)) e ∙ numbered-next f k i (map view ys) (view x))) in
    record {
      was = was;
      left = rest-next i (map view ys) (view x) (subst (λ n. i < n) (sym (length-map ys view)) h)
          ∙ ap (λ v. v ∷ rest (i + 1) (map view ys)) (sym was);
    }

-- one element more is changed, seen through a view
pub numbered_step : {T V : Type 0} (view : T → V) (f : ℕ → V → V) (k : ℕ) (ys xs : List T) (i n : ℕ) (x new : T)
    → map view xs ≡ numbered f k i (map view ys) → i < length ys → n ≡ k + i → x ≡ get_or xs i x → view new ≡ f n (view x)
    → map view (set xs i new) ≡ numbered f k (i + 1) (map view ys)
numbered_step view f k ys xs i n x new e h number at changed =
    let was : view x ≡ get_or (map view ys) i (view x) = (numbered_next view f k ys xs i x e h at).was in
    map-set view xs i new ∙ (ap (λ l. set l i (view new)) e
    ∙ (ap (set (numbered f k i (map view ys)) i) (changed ∙ ap (f n) was)
    ∙ (step_suc f k i n (map view ys) (view x) (subst (λ m. i < m) (sym (length-map ys view)) h) number
    ∙ ap (λ m. numbered f k m (map view ys)) (sym (add-one i)))))

-- at the end all are changed, and none is left
pub numbered_end : {T V : Type 0} (view : T → V) (f : ℕ → V → V) (k : ℕ) (ys xs : List T) (i : ℕ)
    → map view xs ≡ numbered f k i (map view ys) → i ≡ length ys → map view xs ≡ numbered f k (length (map view ys)) (map view ys)
numbered_end view f k ys xs i e h = e ∙ ap (λ m. numbered f k m (map view ys)) (h ∙ sym (length-map ys view))
