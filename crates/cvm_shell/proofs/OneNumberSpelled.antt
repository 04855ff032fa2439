-- A text spells one number at most, and one that spells a number is read whole. So the words of a command of one kind are those of one.
use Rattle.std.proofs.Common.{◌≡◌, ℕ, ◌+◌, ◌<◌, ◌≤◌, ◌^◌, List, [], ◌∷◌, ◌++◌, length, drop, refl, sym, ap, ◌∙◌, arith, append-nil, Some}
use Rattle.std.specs.Prelude.{decimal, codes}
use Rattle.std.specs.List.{prefix_len}
use Rattle.std.specs.Char.{is_ascii_digit}
use Rattle.std.proofs.lemmas.Fmt.{decimal_injective}
use Rattle.cvm_text.specs.Number.{spelled_number_at}
use Rattle.run_scripts.specs.CompileProgram.{CompileProgram, IsCompileProgram}
use Rattle.run_scripts.specs.declared.session.StartPoint.{StartPoint}
use Rattle.run_scripts.specs.declared.session.StartPoint.TheVariants.{Loaded, Rom}
use Rattle.run_scripts.specs.Command.{BootCommand, Trace, CompileUser, CompileKernel, Migrate, Sample, start_word, IsBoot, IsTrace, IsCompileUser, IsCompileKernel, IsLink, IsMigrate, IsSample}

-- that the numbers which are spelled are read, as the reader of numbers says it
abbrev pub AreRead : Type 0
AreRead = (bytes : List ℕ) (at n : ℕ) (rest : List ℕ) → n < 2 ^ 64 → drop at bytes ≡ decimal n ++ rest → prefix_len is_ascii_digit rest ≡ 0 → spelled_number_at bytes at ≡ Some (n, at + length (decimal n))

pub whole_number : AreRead → (text : List ℕ) (n : ℕ) → n < 2 ^ 64 → text ≡ decimal n → spelled_number_at text 0 ≡ Some (n, length text)
whole_number law text n small e =
    let front : drop 0 text ≡ decimal n ++ [] = e ∙ sym (append-nil (decimal n)) in
    let l : 0 + length (decimal n) ≡ length text = omega (arith, ap length e) in
    law text 0 n [] small front refl ∙ ap (λ (end : ℕ). Some (n, end)) l

-- two spellings of one text
pub same_number : (text : List ℕ) (n m : ℕ) → n < 2 ^ 64 → m < 2 ^ 64 → text ≡ decimal n → text ≡ decimal m → n ≡ m
same_number text n m a b e d = decimal_injective n m a b (sym e ∙ d)

-- a word names one start
same_start : (a b : StartPoint) → start_word a ≡ start_word b → a ≡ b
same_start Loaded Loaded e = refl
same_start Loaded Rom e = absurd (cc)
same_start Rom Loaded e = absurd (cc)
same_start Rom Rom e = refl

-- these words, with numbers that they spell, are a boot
pub words_of_boot : (words : List (List ℕ)) (start : StartPoint) (word image schedule t s : List ℕ) (turns steps : ℕ) → words ≡ word ∷ image ∷ schedule ∷ t ∷ s ∷ [] → word ≡ start_word start
    → t ≡ decimal turns → 1 ≤ turns → turns < 2 ^ 32 → s ≡ decimal steps → steps < 2 ^ 64
    → IsBoot words (record { start = start; image = image; schedule = schedule; turns = turns; steps = steps })
words_of_boot words start word image schedule t s turns steps e w a some fit b less = record { spelled = cc; some_turns = some; turns_fit = fit; steps_fit = less }

-- and no other
pub words_of_one : (words : List (List ℕ)) (start : StartPoint) (word image schedule t s : List ℕ) (turns steps : ℕ) → words ≡ word ∷ image ∷ schedule ∷ t ∷ s ∷ [] → word ≡ start_word start
    → t ≡ decimal turns → turns < 2 ^ 32 → s ≡ decimal steps → steps < 2 ^ 64
    → (b : BootCommand) → IsBoot words b → record { start = start; image = image; schedule = schedule; turns = turns; steps = steps } ≡ b
words_of_one words start word image schedule t s turns steps e w a fit c less b is =
    let spelled : word ∷ image ∷ schedule ∷ t ∷ s ∷ [] ≡ start_word b.start ∷ b.image ∷ b.schedule ∷ decimal b.turns ∷ decimal b.steps ∷ [] = sym e ∙ is.spelled in
    let first : word ≡ start_word b.start = cc in
    let i : image ≡ b.image = cc in
    let j : schedule ≡ b.schedule = cc in
    let k : t ≡ decimal b.turns = cc in
    let l : s ≡ decimal b.steps = cc in
    let turns_small : turns < 2 ^ 64 = omega arith in
    let wanted_small : b.turns < 2 ^ 64 = omega (arith, is.turns_fit) in
    let h : start ≡ b.start = same_start start b.start (sym w ∙ first) in
    let m : turns ≡ b.turns = same_number t turns b.turns turns_small wanted_small a k in
    let n : steps ≡ b.steps = same_number s steps b.steps less is.steps_fit c l in
    let boot_of : StartPoint → List ℕ → List ℕ → ℕ → ℕ → BootCommand = λ v x y z w. record { start = v; image = x; schedule = y; turns = z; steps = w } in
    ap (λ x. boot_of x image schedule turns steps) h ∙ ap (λ x. boot_of b.start x schedule turns steps) i ∙ ap (λ x. boot_of b.start b.image x turns steps) j
    ∙ ap (λ x. boot_of b.start b.image b.schedule x steps) m ∙ ap (λ x. boot_of b.start b.image b.schedule b.turns x) n

-- words whose first names no start
pub none_for_start : (words : List (List ℕ)) (word image schedule t s : List ℕ) → words ≡ word ∷ image ∷ schedule ∷ t ∷ s ∷ [] → ((a : StartPoint) → word ≡ start_word a → ⊥) → (b : BootCommand) → IsBoot words b → ⊥
none_for_start words word image schedule t s e none b is =
    let spelled : word ∷ image ∷ schedule ∷ t ∷ s ∷ [] ≡ start_word b.start ∷ b.image ∷ b.schedule ∷ decimal b.turns ∷ decimal b.steps ∷ [] = sym e ∙ is.spelled in
    let first : word ≡ start_word b.start = cc in
    none b.start first

-- words whose fourth spells no number of turns
pub none_for_turns : (words : List (List ℕ)) (word image schedule t s : List ℕ) → words ≡ word ∷ image ∷ schedule ∷ t ∷ s ∷ [] → ((n : ℕ) → 1 ≤ n → n < 2 ^ 32 → t ≡ decimal n → ⊥) → (b : BootCommand) → IsBoot words b → ⊥
none_for_turns words word image schedule t s e none b is =
    let spelled : word ∷ image ∷ schedule ∷ t ∷ s ∷ [] ≡ start_word b.start ∷ b.image ∷ b.schedule ∷ decimal b.turns ∷ decimal b.steps ∷ [] = sym e ∙ is.spelled in
    let k : t ≡ decimal b.turns = cc in
    none b.turns is.some_turns is.turns_fit k

-- words whose fifth spells no number of steps
pub none_for_steps : (words : List (List ℕ)) (word image schedule t s : List ℕ) → words ≡ word ∷ image ∷ schedule ∷ t ∷ s ∷ [] → ((n : ℕ) → n < 2 ^ 64 → s ≡ decimal n → ⊥) → (b : BootCommand) → IsBoot words b → ⊥
none_for_steps words word image schedule t s e none b is =
    let spelled : word ∷ image ∷ schedule ∷ t ∷ s ∷ [] ≡ start_word b.start ∷ b.image ∷ b.schedule ∷ decimal b.turns ∷ decimal b.steps ∷ [] = sym e ∙ is.spelled in
    let k : s ≡ decimal b.steps = cc in
    none b.steps is.steps_fit k

-- these words, with numbers that they spell, are a trace
pub words_of_trace : (words : List (List ℕ)) (word image schedule t s u : List ℕ) (turns steps user : ℕ) → words ≡ word ∷ image ∷ schedule ∷ t ∷ s ∷ u ∷ [] → word ≡ codes "trace"
    → t ≡ decimal turns → 1 ≤ turns → turns < 2 ^ 32 → s ≡ decimal steps → steps < 2 ^ 64 → u ≡ decimal user → 1 ≤ user → user ≤ 64
    → IsTrace words (record { boot = record { start = Loaded; image = image; schedule = schedule; turns = turns; steps = steps }; user = user })
words_of_trace words word image schedule t s u turns steps user e w a some fit b less d one most =
    record { loaded = refl; spelled = cc; some_turns = some; turns_fit = fit; steps_fit = less; some_user = one; most_users = most }

-- a boot stands in the words of a trace
words_inside : (words : List (List ℕ)) (word image schedule t s u : List ℕ) → words ≡ word ∷ image ∷ schedule ∷ t ∷ s ∷ u ∷ [] → (x : Trace) → IsTrace words x
    → IsBoot (start_word x.boot.start ∷ image ∷ schedule ∷ t ∷ s ∷ []) x.boot × (u ≡ decimal x.user)
words_inside words word image schedule t s u e x is =
    let spelled : word ∷ image ∷ schedule ∷ t ∷ s ∷ u ∷ [] ≡ codes "trace" ∷ x.boot.image ∷ x.boot.schedule ∷ decimal x.boot.turns ∷ decimal x.boot.steps ∷ decimal x.user ∷ [] = sym e ∙ is.spelled in
    let i : image ≡ x.boot.image = cc in
    let j : schedule ≡ x.boot.schedule = cc in
    let k : t ≡ decimal x.boot.turns = cc in
    let l : s ≡ decimal x.boot.steps = cc in
    let m : u ≡ decimal x.user = cc in
    (record { spelled = cc; some_turns = is.some_turns; turns_fit = is.turns_fit; steps_fit = is.steps_fit }, m)

-- so they are no other trace
pub words_of_one_trace : (words : List (List ℕ)) (word image schedule t s u : List ℕ) (turns steps user : ℕ) → words ≡ word ∷ image ∷ schedule ∷ t ∷ s ∷ u ∷ []
    → t ≡ decimal turns → turns < 2 ^ 32 → s ≡ decimal steps → steps < 2 ^ 64 → u ≡ decimal user → user ≤ 64
    → (x : Trace) → IsTrace words x → record { boot = record { start = Loaded; image = image; schedule = schedule; turns = turns; steps = steps }; user = user } ≡ x
words_of_one_trace words word image schedule t s u turns steps user e a fit c less d most x is =
    let inside = words_inside words word image schedule t s u e x is in
    let here = words_of_one (start_word x.boot.start ∷ image ∷ schedule ∷ t ∷ s ∷ []) Loaded (start_word x.boot.start) image schedule t s turns steps refl (ap start_word is.loaded) a fit c less x.boot inside.0 in
    let small : user < 2 ^ 64 = omega (arith, most) in
    let also : x.user < 2 ^ 64 = omega (arith, is.most_users) in
    let n : user ≡ x.user = same_number u user x.user small also d inside.1 in
    let trace_of : BootCommand → ℕ → Trace = λ b k. record { boot = b; user = k } in
    ap (λ b. trace_of b user) here ∙ ap (λ k. trace_of x.boot k) n

-- words of which one spells no number of its kind are no trace
pub no_trace_by_turns : (words : List (List ℕ)) (word image schedule t s u : List ℕ) → words ≡ word ∷ image ∷ schedule ∷ t ∷ s ∷ u ∷ [] → ((n : ℕ) → 1 ≤ n → n < 2 ^ 32 → t ≡ decimal n → ⊥) → (x : Trace) → IsTrace words x → ⊥
no_trace_by_turns words word image schedule t s u e none x is = none_for_turns _ (start_word x.boot.start) image schedule t s refl none x.boot ((words_inside words word image schedule t s u e x is).0)

pub no_trace_by_steps : (words : List (List ℕ)) (word image schedule t s u : List ℕ) → words ≡ word ∷ image ∷ schedule ∷ t ∷ s ∷ u ∷ [] → ((n : ℕ) → n < 2 ^ 64 → s ≡ decimal n → ⊥) → (x : Trace) → IsTrace words x → ⊥
no_trace_by_steps words word image schedule t s u e none x is = none_for_steps _ (start_word x.boot.start) image schedule t s refl none x.boot ((words_inside words word image schedule t s u e x is).0)

pub no_trace_by_user : (words : List (List ℕ)) (word image schedule t s u : List ℕ) → words ≡ word ∷ image ∷ schedule ∷ t ∷ s ∷ u ∷ [] → ((n : ℕ) → 1 ≤ n → n ≤ 64 → u ≡ decimal n → ⊥) → (x : Trace) → IsTrace words x → ⊥
no_trace_by_user words word image schedule t s u e none x is = none x.user is.some_user is.most_users ((words_inside words word image schedule t s u e x is).1)

-- these words are a compilation of a user
pub words_of_user : (words : List (List ℕ)) (word kind text image : List ℕ) → words ≡ word ∷ kind ∷ text ∷ image ∷ [] → word ≡ codes "compile" → kind ≡ codes "user" → IsCompileUser words (record { text = text; image = image })
words_of_user words word kind text image e w k = record { spelled = cc }

-- and of no other
pub words_of_one_user : (words : List (List ℕ)) (word kind text image : List ℕ) → words ≡ word ∷ kind ∷ text ∷ image ∷ [] → (c : CompileUser) → IsCompileUser words c → Some (record { text = text; image = image }) ≡ Some c
words_of_one_user words word kind text image e c is =
    let spelled : word ∷ kind ∷ text ∷ image ∷ [] ≡ codes "compile" ∷ codes "user" ∷ c.text ∷ c.image ∷ [] = sym e ∙ is.spelled in
    let t : text ≡ c.text = cc in
    let i : image ≡ c.image = cc in
    let user_of : List ℕ → List ℕ → CompileUser = λ x y. record { text = x; image = y } in
    ap (λ x. Some (user_of x image)) t ∙ ap (λ x. Some (user_of c.text x)) i

-- these words are a compilation of a kernel
pub words_of_kernel : (words : List (List ℕ)) (word kind source object : List ℕ) → words ≡ word ∷ kind ∷ source ∷ object ∷ [] → word ≡ codes "compile" → kind ≡ codes "kernel" → IsCompileKernel words (record { source = source; object = object })
words_of_kernel words word kind source object e w k = record { spelled = cc }

-- and of no other
pub words_of_one_kernel : (words : List (List ℕ)) (word kind source object : List ℕ) → words ≡ word ∷ kind ∷ source ∷ object ∷ [] → (c : CompileKernel) → IsCompileKernel words c → Some (record { source = source; object = object }) ≡ Some c
words_of_one_kernel words word kind source object e c is =
    let spelled : word ∷ kind ∷ source ∷ object ∷ [] ≡ codes "compile" ∷ codes "kernel" ∷ c.source ∷ c.object ∷ [] = sym e ∙ is.spelled in
    let s : source ≡ c.source = cc in
    let o : object ≡ c.object = cc in
    let kernel_of : List ℕ → List ℕ → CompileKernel = λ x y. record { source = x; object = y } in
    ap (λ x. Some (kernel_of x object)) s ∙ ap (λ x. Some (kernel_of c.source x)) o

-- these words are a compilation of a user program
pub words_of_program : (words : List (List ℕ)) (word kind source image : List ℕ) → words ≡ word ∷ kind ∷ source ∷ image ∷ [] → word ≡ codes "compile" → kind ≡ codes "program" → IsCompileProgram words (record { source = source; image = image })
words_of_program words word kind source image e w k = record { spelled = cc }

-- and of no other
pub words_of_one_program : (words : List (List ℕ)) (word kind source image : List ℕ) → words ≡ word ∷ kind ∷ source ∷ image ∷ [] → (c : CompileProgram) → IsCompileProgram words c → Some (record { source = source; image = image }) ≡ Some c
words_of_one_program words word kind source image e c is =
    let spelled : word ∷ kind ∷ source ∷ image ∷ [] ≡ codes "compile" ∷ codes "program" ∷ c.source ∷ c.image ∷ [] = sym e ∙ is.spelled in
    let s : source ≡ c.source = cc in
    let i : image ≡ c.image = cc in
    let program_of : List ℕ → List ℕ → CompileProgram = λ x y. record { source = x; image = y } in
    ap (λ x. Some (program_of x image)) s ∙ ap (λ x. Some (program_of c.source x)) i

-- these words are a linking
pub words_of_link : (words : List (List ℕ)) (word object params image : List ℕ) (users : List (List ℕ)) → words ≡ word ∷ object ∷ params ∷ image ∷ users → word ≡ codes "link"
    → IsLink words (record { object = object; params = params; image = image; users = users })
words_of_link words word object params image users e w = record { spelled = cc }

-- these words are a migration
pub words_of_migrate : (words : List (List ℕ)) (word old image : List ℕ) → words ≡ word ∷ old ∷ image ∷ [] → word ≡ codes "migrate" → IsMigrate words (record { old = old; image = image })
words_of_migrate words word old image e w = record { spelled = cc }

-- and of no other
pub words_of_one_migrate : (words : List (List ℕ)) (word old image : List ℕ) → words ≡ word ∷ old ∷ image ∷ [] → (m : Migrate) → IsMigrate words m → Some (record { old = old; image = image }) ≡ Some m
words_of_one_migrate words word old image e m is =
    let spelled : word ∷ old ∷ image ∷ [] ≡ codes "migrate" ∷ m.old ∷ m.image ∷ [] = sym e ∙ is.spelled in
    let o : old ≡ m.old = cc in
    let i : image ≡ m.image = cc in
    let migrate_of : List ℕ → List ℕ → Migrate = λ x y. record { old = x; image = y } in
    ap (λ x. Some (migrate_of x image)) o ∙ ap (λ x. Some (migrate_of m.old x)) i

-- these words, with the number that the second spells, are a sample
pub words_of_sample : (words : List (List ℕ)) (word text : List ℕ) (number : ℕ) → words ≡ word ∷ text ∷ [] → word ≡ codes "sample" → text ≡ decimal number → number < 2 ^ 32
    → IsSample words (record { number = number })
words_of_sample words word text number e w n few = record { spelled = cc; fits = few }

-- and no other
pub words_of_one_sample : (words : List (List ℕ)) (word text : List ℕ) (number : ℕ) → words ≡ word ∷ text ∷ [] → text ≡ decimal number → number < 2 ^ 32 → (x : Sample) → IsSample words x
    → Some (record { number = number }) ≡ Some x
words_of_one_sample words word text number e n few x is =
    let spelled : word ∷ text ∷ [] ≡ codes "sample" ∷ decimal x.number ∷ [] = sym e ∙ is.spelled in
    let t : text ≡ decimal x.number = cc in
    let same : number ≡ x.number = same_number text number x.number (omega (arith, few)) (omega (arith, is.fits)) n t in
    let sample_of : ℕ → Sample = λ k. record { number = k } in
    ap (λ k. Some (sample_of k)) same

-- words whose second spells no number of a sample
pub no_sample : (words : List (List ℕ)) (word text : List ℕ) → words ≡ word ∷ text ∷ [] → ((n : ℕ) → n < 2 ^ 32 → text ≡ decimal n → ⊥) → (x : Sample) → IsSample words x → ⊥
no_sample words word text e none x is =
    let spelled : word ∷ text ∷ [] ≡ codes "sample" ∷ decimal x.number ∷ [] = sym e ∙ is.spelled in
    let t : text ≡ decimal x.number = cc in
    none x.number is.fits t
