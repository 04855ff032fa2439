-- A value with x at a path stands where the words of x stand at its place, and the others are as they were.
use Rattle.std.specs.Prelude.{slice_get, replicate, unwrap_or}
use Rattle.std.proofs.Common.{◌≡◌, ◌≢◌, inl, inr, true, ℕ, zero, suc, ◌+◌, ◌*◌, ◌<◌, ◌≤◌, ◌⊎◌, List, [], ◌∷◌, Some, sym, ap, ◌∙◌, subst, arith}
use Rattle.c0_meaning.specs.Ty.{Ty, is_scalar}
use Rattle.c0_meaning.specs.Words.{shape_fields, words}
use Rattle.c0_meaning.specs.Value.{Value, int, bool, null, at, group, Values, empty, part, change_nth, value_with}
use Rattle.c0_meaning.specs.TypedState.{types_of, LeadsFrom, PathLeads}
use Rattle.c0_expr_runs.proofs.OnePartMore.{there}
use Rattle.c0_expr_code.specs.Scope.{Scope}
use Rattle.c0_expr_runs.specs.Bases.{Bases, words_of_all, word_of_scalar, Held, AllHeld, RegionHeld}
use Rattle.c0_meaning.specs.Sizes.{words_before}
use Rattle.c0_meaning.specs.Addresses.{words_to, words_to_part}
use Rattle.c0_expr_runs.proofs.PartsAtOffsets.{one_word, before_replicate, before_room}
use Rattle.c0_meaning.specs.Ty as ty

replicate_words : (sc : Scope) (n : ℕ) (t : Ty) → words_of_all sc.env.structs (replicate n t) ≡ n * words sc.env.structs t
replicate_words sc zero t = omega arith
replicate_words sc (suc n) t = let g = replicate_words sc n t in omega (arith, g)

module _ (sc : Scope) (p : Bases) (opened : (x : List ℕ) → words sc.env.structs (ty.named x) ≡ words_of_all sc.env.structs (types_of (shape_fields sc.env.structs x))) (m m' : ℕ → ℕ) where
  mutual
    -- a value stands where its words are the same
    pub held_same : (a : ℕ) (t : Ty) (v : Value) → ((x : ℕ) → a ≤ x → x < a + words sc.env.structs t → m' x ≡ m x) → Held sc p m a t v
        → Held sc p m' a t v
    held_same a (ty.named x) (group vs) e h = all_same a (types_of (shape_fields sc.env.structs x)) vs (λ y le less. e y le (let o = opened x in omega (arith, o, less))) h
    held_same a (ty.array t n) (group vs) e h = all_same a (replicate n t) vs (λ y le less. e y le (let o = replicate_words sc n t in omega (arith, o, less))) h
    held_same a ty.int v e h = e a (omega arith) (omega arith) ∙ h
    held_same a ty.bool v e h = e a (omega arith) (omega arith) ∙ h
    held_same a (ty.pointer t) v e h = e a (omega arith) (omega arith) ∙ h
    held_same a (ty.named x) _ e h = absurd h
    held_same a (ty.array t n) _ e h = absurd h

    pub all_same : (a : ℕ) (ts : List Ty) (vs : Values) → ((x : ℕ) → a ≤ x → x < a + words_of_all sc.env.structs ts → m' x ≡ m x)
        → AllHeld sc p m a ts vs → AllHeld sc p m' a ts vs
    all_same a [] empty e h = tt
    all_same a (t ∷ ts) (part v vs) e h = (held_same a t v (λ x le less. e x le (omega arith)) h.0, all_same (a + words sc.env.structs t) ts vs (λ x le less. e x (omega arith) (omega arith)) h.1)
    all_same a [] (part v vs) e h = absurd h
    all_same a (t ∷ ts) empty e h = absurd h

  -- the words of a stretch but those of a part of it are the same
  abbrev Others : ℕ → ℕ → ℕ → ℕ → Type 0
  Others a n b k = (y : ℕ) → a ≤ y → y < a + n → (y < b) ⊎ (b + k ≤ y) → m' y ≡ m y

  all_put : (a : ℕ) (ts : List Ty) (vs : Values) (i : ℕ) (t : Ty) (f : Value → Value) → AllHeld sc p m a ts vs → slice_get ts i ≡ Some t
      → ((b : ℕ) (v : Value) → b ≡ a + words_before sc.env.structs ts i → Held sc p m b t v → Held sc p m' b t (f v))
      → Others a (words_of_all sc.env.structs ts) (a + words_before sc.env.structs ts i) (words sc.env.structs t)
      → AllHeld sc p m' a ts (change_nth vs i f)
  all_put a [] vs i t f h e inner others = absurd (cc)
  all_put a (u ∷ ts) (part v vs) zero t f h e inner others =
      let q : u ≡ t = cc in
      let w : words sc.env.structs u ≡ words sc.env.structs t = ap (words sc.env.structs) q in (
        subst (λ z. Held sc p m' a z (f v)) (sym q) (inner a v (omega arith) (subst (λ z. Held sc p m a z v) q h.0)),
        all_same (a + words sc.env.structs u) ts vs (λ x le less. others x (omega arith) (omega arith) (inr (omega (arith, w, le)))) h.1,
      )
  all_put a (u ∷ ts) (part v vs) (suc i) t f h e inner others = (
    held_same a u v (λ x le less. others x le (omega arith) (inl (omega arith))) h.0,
    all_put (a + words sc.env.structs u) ts vs i t f h.1 e (λ b w q. inner b w (omega (arith, q))) (λ y le less side. others y (omega arith) (omega arith) (moved y i (a + words sc.env.structs u + words_before sc.env.structs ts i) (a + (words sc.env.structs u + words_before sc.env.structs ts i)) (words sc.env.structs t) (omega arith) side)),
  )
    where
      moved : (y i b b' k : ℕ) → b ≡ b' → (y < b) ⊎ (b + k ≤ y) → (y < b') ⊎ (b' + k ≤ y)
      moved y i b b' k q side = subst (λ z. (y < z) ⊎ (z + k ≤ y)) q side
  all_put a (u ∷ ts) empty i t f h e inner others = absurd h

  sided : (y b b' k : ℕ) → b ≡ b' → (y < b) ⊎ (b + k ≤ y) → (y < b') ⊎ (b' + k ≤ y)
  sided y b b' k q side = subst (λ z. (y < z) ⊎ (z + k ≤ y)) q side

  -- outside a part is outside what stands in it
  outside : (y b n c k : ℕ) → b ≤ c → c + k ≤ b + n → (y < b) ⊎ (b + n ≤ y) → (y < c) ⊎ (c + k ≤ y)
  outside y b n c k le room (inl h) = inl (omega (arith, h, le))
  outside y b n c k le room (inr h) = inr (omega (arith, h, room))

  room : (t : Ty) (path : List ℕ) (u : Ty) → PathLeads sc.env.structs t path u
      → words_to sc.env.structs t path + words sc.env.structs u ≤ words sc.env.structs t
  room t path u h = Rattle.c0_expr_runs.proofs.PartsAtOffsets.room sc.env.structs opened t path u h

  pub put_held : (a : ℕ) (t : Ty) (path : List ℕ) (u : Ty) (v x : Value) → PathLeads sc.env.structs t path u → Held sc p m a t v
      → Held sc p m' (a + words_to sc.env.structs t path) u x
      → Others a (words sc.env.structs t) (a + words_to sc.env.structs t path) (words sc.env.structs u) → Held sc p m' a t (value_with v path x)
  put_held a t [] u v x l h g others = let e : a + 0 ≡ a = omega arith in subst (λ z. Held sc p m' a z x) (sym l) (subst (λ b. Held sc p m' b u x) e g)
  put_held a (ty.named y) (i ∷ path) u (group vs) x l h g others =
      let c : words_to sc.env.structs (unwrap_or (slice_get (types_of (shape_fields sc.env.structs y)) i) ty.int) path ≡ words_to sc.env.structs l.0 path = ap (λ o. words_to sc.env.structs (unwrap_or o ty.int) path) l.1 in
      let o = opened y in
      let r = room l.0 path u l.2 in
      let s = before_room sc.env.structs (types_of (shape_fields sc.env.structs y)) i l.0 l.1 in
      let to : a + words_to sc.env.structs (ty.named y) (i ∷ path) ≡ a + words_before sc.env.structs (types_of (shape_fields sc.env.structs y)) i + words_to sc.env.structs l.0 path = omega (arith, c) in
      all_put a (types_of (shape_fields sc.env.structs y)) vs i l.0 (λ w. value_with w path x) h l.1
      (λ b w q k.
      let d : a + words_before sc.env.structs (types_of (shape_fields sc.env.structs y)) i + words_to sc.env.structs l.0 path ≡ b + words_to sc.env.structs l.0 path = omega (arith, q) in
      put_held b l.0 path u w x l.2 k (subst (λ z. Held sc p m' z u x) (to ∙ d) g) (λ z le less side. others z (omega (arith, q, le)) (omega (arith, q, less, s, o)) (sided z _ _ (words sc.env.structs u) (sym (to ∙ d)) side)))
      (λ z le less side. others z le (omega (arith, less, o)) (sided z _ _ (words sc.env.structs u) (sym to) (outside z (a + words_before sc.env.structs (types_of (shape_fields sc.env.structs y)) i) (words sc.env.structs l.0) (a + words_before sc.env.structs (types_of (shape_fields sc.env.structs y)) i + words_to sc.env.structs l.0 path) (words sc.env.structs u) (omega arith) (omega (arith, r)) side)))
  put_held a (ty.array t n) (i ∷ path) u (group vs) x l h g others =
      let o = replicate_words sc n t in
      let r = room t path u l.1 in
      let s = before_room sc.env.structs (replicate n t) i t (there t n i l.0) in
      let c = before_replicate sc.env.structs n i t l.0 in
      let to : a + words_to sc.env.structs (ty.array t n) (i ∷ path) ≡ a + words_before sc.env.structs (replicate n t) i + words_to sc.env.structs t path = omega (arith, c) in
      all_put a (replicate n t) vs i t (λ w. value_with w path x) h (there t n i l.0)
      (λ b w q k.
      let d : a + words_before sc.env.structs (replicate n t) i + words_to sc.env.structs t path ≡ b + words_to sc.env.structs t path = omega (arith, q) in
      put_held b t path u w x l.1 k (subst (λ z. Held sc p m' z u x) (to ∙ d) g) (λ z le less side. others z (omega (arith, q, le)) (omega (arith, q, less, s, o)) (sided z _ _ (words sc.env.structs u) (sym (to ∙ d)) side)))
      (λ z le less side. others z le (omega (arith, less, o)) (sided z _ _ (words sc.env.structs u) (sym to) (outside z (a + words_before sc.env.structs (replicate n t) i) (words sc.env.structs t) (a + words_before sc.env.structs (replicate n t) i + words_to sc.env.structs t path) (words sc.env.structs u) (omega arith) (omega (arith, r)) side)))
  put_held a (ty.named y) (i ∷ path) u _ x l h g others = absurd h
  put_held a (ty.array t n) (i ∷ path) u _ x l h g others = absurd h
  put_held a ty.int (i ∷ path) u _ x l h g others = absurd l
  put_held a ty.bool (i ∷ path) u _ x l h g others = absurd l
  put_held a (ty.pointer t) (i ∷ path) u _ x l h g others = absurd l

  pub region_same : (a : ℕ) (ts : List Ty) (v : Value) → ((x : ℕ) → a ≤ x → x < a + words_of_all sc.env.structs ts → m' x ≡ m x)
      → RegionHeld sc p m a ts v → RegionHeld sc p m' a ts v
  region_same a ts (group vs) e h = all_same a ts vs e h
  region_same a ts (int z) e h = absurd h
  region_same a ts (bool b) e h = absurd h
  region_same a ts null e h = absurd h
  region_same a ts (at l) e h = absurd h

  -- the same of a region
  pub put_region : (a : ℕ) (ts : List Ty) (path : List ℕ) (u : Ty) (v x : Value) → LeadsFrom sc.env.structs ts path u → RegionHeld sc p m a ts v
      → Held sc p m' (a + words_to_part sc.env.structs ts path) u x
      → Others a (words_of_all sc.env.structs ts) (a + words_to_part sc.env.structs ts path) (words sc.env.structs u)
      → RegionHeld sc p m' a ts (value_with v path x)
  put_region a ts [] u v x l h g others = absurd l
  put_region a ts (i ∷ path) u (group vs) x l h g others =
      let c : words_to sc.env.structs (unwrap_or (slice_get ts i) ty.int) path ≡ words_to sc.env.structs l.0 path = ap (λ o. words_to sc.env.structs (unwrap_or o ty.int) path) l.1 in
      let r = room l.0 path u l.2 in
      let s = before_room sc.env.structs ts i l.0 l.1 in
      let to : a + words_to_part sc.env.structs ts (i ∷ path) ≡ a + words_before sc.env.structs ts i + words_to sc.env.structs l.0 path = omega (arith, c) in
      all_put a ts vs i l.0 (λ w. value_with w path x) h l.1
      (λ b w q k.
      let d : a + words_before sc.env.structs ts i + words_to sc.env.structs l.0 path ≡ b + words_to sc.env.structs l.0 path = omega (arith, q) in
      put_held b l.0 path u w x l.2 k (subst (λ z. Held sc p m' z u x) (to ∙ d) g) (λ z le less side. others z (omega (arith, q, le)) (omega (arith, q, less, s)) (sided z _ _ (words sc.env.structs u) (sym (to ∙ d)) side)))
      (λ z le less side. others z le less (sided z _ _ (words sc.env.structs u) (sym to) (outside z (a + words_before sc.env.structs ts i) (words sc.env.structs l.0) (a + words_before sc.env.structs ts i + words_to sc.env.structs l.0 path) (words sc.env.structs u) (omega arith) (omega (arith, r)) side)))
  put_region a ts (i ∷ path) u (int z) x l h g others = absurd h
  put_region a ts (i ∷ path) u (bool b) x l h g others = absurd h
  put_region a ts (i ∷ path) u null x l h g others = absurd h
  put_region a ts (i ∷ path) u (at y) x l h g others = absurd h

  -- a scalar's word
  pub scalar_held : (b : ℕ) (u : Ty) (x : Value) → is_scalar u ≡ true → m' b ≡ word_of_scalar sc p x → Held sc p m' b u x
  scalar_held b ty.int x s e = e
  scalar_held b ty.bool x s e = e
  scalar_held b (ty.pointer t) x s e = e
  scalar_held b (ty.named y) x s e = absurd (cc)
  scalar_held b (ty.array t n) x s e = absurd (cc)

  -- where one word alone changes, a scalar is put there
  pub put_word : (a b : ℕ) (ts : List Ty) (path : List ℕ) (u : Ty) (v x : Value) → LeadsFrom sc.env.structs ts path u → is_scalar u ≡ true
      → b ≡ a + words_to_part sc.env.structs ts path → m' b ≡ word_of_scalar sc p x → ((y : ℕ) → y ≢ b → m' y ≡ m y)
      → RegionHeld sc p m a ts v → RegionHeld sc p m' a ts (value_with v path x)
  put_word a b ts path u v x l scalar is here others h =
      let one = one_word sc.env.structs u scalar in
      put_region a ts path u v x l h (scalar_held (a + words_to_part sc.env.structs ts path) u x scalar (ap m' (sym is) ∙ here))
      (λ y le less side. others y (λ e. absurd (beside y (a + words_to_part sc.env.structs ts path) (words sc.env.structs u) one (e ∙ is) side)))
    where
      beside : (y c k : ℕ) → k ≡ 1 → y ≡ c → (y < c) ⊎ (c + k ≤ y) → ⊥
      beside y c k one e (inl h) = absurd (omega (arith, h, e))
      beside y c k one e (inr h) = absurd (omega (arith, h, e, one))
