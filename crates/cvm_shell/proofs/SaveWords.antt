-- The words of a save or of a resume, which differ by their first word, are those of one.
use Rattle.std.proofs.Common.{◌≡◌, ℕ, ◌<◌, ◌≤◌, ◌^◌, List, [], ◌∷◌, refl, sym, ap, ◌∙◌}
use Rattle.std.specs.Prelude.{decimal}
use Rattle.run_scripts.specs.declared.session.StartPoint.TheVariants.{Loaded}
use Rattle.run_scripts.specs.Command.{BootCommand, Save, start_word, IsBoot, IsSaveBy}
use Rattle.cvm_shell.proofs.OneNumberSpelled.{words_of_one, none_for_turns, none_for_steps}

-- these words, with numbers that they spell, are a save
pub words_of_save : (first : List ℕ) (words : List (List ℕ)) (word image schedule t s file : List ℕ) (turns steps : ℕ) → words ≡ word ∷ image ∷ schedule ∷ t ∷ s ∷ file ∷ [] → word ≡ first
    → t ≡ decimal turns → 1 ≤ turns → turns < 2 ^ 32 → s ≡ decimal steps → steps < 2 ^ 64
    → IsSaveBy first words (record { boot = record { start = Loaded; image = image; schedule = schedule; turns = turns; steps = steps }; file = file })
words_of_save first words word image schedule t s file turns steps e w a some fit b less =
    record { loaded = refl; spelled = cc; some_turns = some; turns_fit = fit; steps_fit = less }

-- a boot stands in the words of a save
words_inside : (first : List ℕ) (words : List (List ℕ)) (word image schedule t s file : List ℕ) → words ≡ word ∷ image ∷ schedule ∷ t ∷ s ∷ file ∷ [] → (x : Save) → IsSaveBy first words x
    → IsBoot (start_word x.boot.start ∷ image ∷ schedule ∷ t ∷ s ∷ []) x.boot × (file ≡ x.file)
words_inside first words word image schedule t s file e x is =
    let spelled : word ∷ image ∷ schedule ∷ t ∷ s ∷ file ∷ [] ≡ first ∷ x.boot.image ∷ x.boot.schedule ∷ decimal x.boot.turns ∷ decimal x.boot.steps ∷ x.file ∷ [] = sym e ∙ is.spelled in
    let i : image ≡ x.boot.image = cc in
    let j : schedule ≡ x.boot.schedule = cc in
    let k : t ≡ decimal x.boot.turns = cc in
    let l : s ≡ decimal x.boot.steps = cc in
    let m : file ≡ x.file = cc in
    (record { spelled = cc; some_turns = is.some_turns; turns_fit = is.turns_fit; steps_fit = is.steps_fit }, m)

-- so they are no other save
pub words_of_one_save : (first : List ℕ) (words : List (List ℕ)) (word image schedule t s file : List ℕ) (turns steps : ℕ) → words ≡ word ∷ image ∷ schedule ∷ t ∷ s ∷ file ∷ []
    → t ≡ decimal turns → turns < 2 ^ 32 → s ≡ decimal steps → steps < 2 ^ 64
    → (x : Save) → IsSaveBy first words x → record { boot = record { start = Loaded; image = image; schedule = schedule; turns = turns; steps = steps }; file = file } ≡ x
words_of_one_save first words word image schedule t s file turns steps e a fit c less x is =
    let inside = words_inside first words word image schedule t s file e x is in
    let here = words_of_one (start_word x.boot.start ∷ image ∷ schedule ∷ t ∷ s ∷ []) Loaded (start_word x.boot.start) image schedule t s turns steps refl (ap start_word is.loaded) a fit c less x.boot inside.0 in
    let save_of : BootCommand → List ℕ → Save = λ b f. record { boot = b; file = f } in
    ap (λ b. save_of b file) here ∙ ap (λ f. save_of x.boot f) inside.1

-- words of which one spells no number of its kind are no save
pub no_save_by_turns : (first : List ℕ) (words : List (List ℕ)) (word image schedule t s file : List ℕ) → words ≡ word ∷ image ∷ schedule ∷ t ∷ s ∷ file ∷ [] → ((n : ℕ) → 1 ≤ n → n < 2 ^ 32 → t ≡ decimal n → ⊥)
    → (x : Save) → IsSaveBy first words x → ⊥
no_save_by_turns first words word image schedule t s file e none x is =
    none_for_turns _ (start_word x.boot.start) image schedule t s refl none x.boot ((words_inside first words word image schedule t s file e x is).0)

pub no_save_by_steps : (first : List ℕ) (words : List (List ℕ)) (word image schedule t s file : List ℕ) → words ≡ word ∷ image ∷ schedule ∷ t ∷ s ∷ file ∷ [] → ((n : ℕ) → n < 2 ^ 64 → s ≡ decimal n → ⊥)
    → (x : Save) → IsSaveBy first words x → ⊥
no_save_by_steps first words word image schedule t s file e none x is =
    none_for_steps _ (start_word x.boot.start) image schedule t s refl none x.boot ((words_inside first words word image schedule t s file e x is).0)

-- words that begin with another word are none
pub no_save_by_word : (first : List ℕ) (words : List (List ℕ)) (word image schedule t s file : List ℕ) → words ≡ word ∷ image ∷ schedule ∷ t ∷ s ∷ file ∷ [] → (word ≡ first → ⊥)
    → (x : Save) → IsSaveBy first words x → ⊥
no_save_by_word first words word image schedule t s file e other x is =
    let spelled : word ∷ image ∷ schedule ∷ t ∷ s ∷ file ∷ [] ≡ first ∷ x.boot.image ∷ x.boot.schedule ∷ decimal x.boot.turns ∷ decimal x.boot.steps ∷ x.file ∷ [] = sym e ∙ is.spelled in
    other cc
