-- The words of a command tell which it is, so they are those of one command.
use Rattle.std.proofs.Common.{◌≡◌, ℕ, ◌<◌, ◌^◌, List, [], ◌∷◌, drop, get_or, refl, sym, ap, ◌∙◌, subst, arith}
use Rattle.std.specs.Prelude.{Option, decimal, slice_index, ◌==◌, if◌then◌else◌}
use Rattle.std.specs.Str.Parse.{digits_value}
use Rattle.std.proofs.lemmas.Fmt.{decimal_is_IsNumeral}
use Rattle.run_scripts.specs.declared.session.StartPoint.{StartPoint}
use Rattle.run_scripts.specs.declared.session.StartPoint.TheVariants.{Loaded, Rom}
use Rattle.run_scripts.specs.Command.{BootCommand, Trace, Save, Command, boot, trace, save, resume, compile_user, compile_kernel, compile_program, link, migrate, sample, IsCommand, start_word, check}
use Rattle.run_scripts.specs.Plan.{Plan, CommandPlan, PlanComesTo, no_command, by_command}
use Rattle.real_layer.specs.Image.{layer_image}

-- what stands at a place
abbrev at : List (List ℕ) → ℕ → List ℕ
at words i = get_or words i []

-- the number that a text spells
abbrev number : List ℕ → ℕ
number text = digits_value 10 text

-- its first letter
abbrev letter : List ℕ → ℕ
letter text = slice_index text 0

-- and its second
abbrev second : List ℕ → ℕ
second text = slice_index text 1

-- and its third
abbrev third : List ℕ → ℕ
third text = slice_index text 2

abbrev boot_of : StartPoint → List (List ℕ) → BootCommand
boot_of start words = record { start = start; image = at words 1; schedule = at words 2; turns = number (at words 3); steps = number (at words 4) }

abbrev save_of : List (List ℕ) → Save
save_of words = record { boot = boot_of Loaded words; file = at words 5 }

-- the command that words are, where they are one: the first letter tells which, or the second or third, or the first of the second word
abbrev meant : List (List ℕ) → Command
meant words =
    if letter (at words 0) == 98 then boot (boot_of Loaded words) else
    if letter (at words 0) == 114 then (if second (at words 0) == 101 then resume (save_of words) else boot (boot_of Rom words)) else
    if letter (at words 0) == 116 then trace (record { boot = boot_of Loaded words; user = number (at words 5) }) else
    if letter (at words 0) == 108 then link (record { object = at words 1; params = at words 2; image = at words 3; users = drop 4 words }) else
    if letter (at words 0) == 109 then migrate (record { old = at words 1; image = at words 2 }) else
    if letter (at words 0) == 115 then (if third (at words 0) == 118 then save (save_of words) else sample (record { number = number (at words 1) })) else
    if second (at words 0) == 104 then check (record { object = at words 1; stack = number (at words 2) }) else
    if letter (at words 1) == 117 then compile_user (record { text = at words 2; image = at words 3 }) else
    if letter (at words 1) == 112 then compile_program (record { source = at words 2; image = at words 3 }) else
    compile_kernel (record { source = at words 2; object = at words 3 })

-- a number is read as it was spelled
read_back : (n : ℕ) → n < 2 ^ 64 → number (decimal n) ≡ n
read_back n small = (decimal_is_IsNumeral n small).1

boot_back : (b : BootCommand) → b.turns < 2 ^ 32 → b.steps < 2 ^ 64 → boot_of b.start ([] ∷ b.image ∷ b.schedule ∷ decimal b.turns ∷ decimal b.steps ∷ []) ≡ b
boot_back b few less =
    let with_numbers : ℕ → ℕ → BootCommand = λ turns steps. record { start = b.start; image = b.image; schedule = b.schedule; turns = turns; steps = steps } in
    ap (λ turns. with_numbers turns (number (decimal b.steps))) (read_back b.turns (omega (arith, few))) ∙ ap (with_numbers b.turns) (read_back b.steps less)

-- the first letter of a boot's words tells its start
boot_meant : (start : StartPoint) (image schedule turns steps : List ℕ) → meant (start_word start ∷ image ∷ schedule ∷ turns ∷ steps ∷ []) ≡ boot (boot_of start ([] ∷ image ∷ schedule ∷ turns ∷ steps ∷ []))
boot_meant Loaded image schedule turns steps = refl
boot_meant Rom image schedule turns steps = refl

-- that of a trace is no ROM
loaded_meant : (b : BootCommand) (start : StartPoint) → Loaded ≡ start → boot_of Loaded ([] ∷ b.image ∷ b.schedule ∷ decimal b.turns ∷ decimal b.steps ∷ [])
    ≡ boot_of start ([] ∷ b.image ∷ b.schedule ∷ decimal b.turns ∷ decimal b.steps ∷ [])
loaded_meant b start e = ap (λ (s : StartPoint). boot_of s ([] ∷ b.image ∷ b.schedule ∷ decimal b.turns ∷ decimal b.steps ∷ [])) e

-- nor is that of a save
save_back : (c : Save) → c.boot.start ≡ Loaded → c.boot.turns < 2 ^ 32 → c.boot.steps < 2 ^ 64
    → save_of ([] ∷ c.boot.image ∷ c.boot.schedule ∷ decimal c.boot.turns ∷ decimal c.boot.steps ∷ c.file ∷ []) ≡ c
save_back c loaded few less =
    let with_boot : BootCommand → Save = λ b. record { boot = b; file = c.file } in
    ap with_boot (loaded_meant c.boot c.boot.start (sym loaded) ∙ boot_back c.boot few less)

trace_back : (t : Trace) (b : BootCommand) (user : ℕ) → b ≡ t.boot → user ≡ t.user → trace (record { boot = b; user = user }) ≡ trace t
trace_back t b user e f =
    let trace_of : BootCommand → ℕ → Command = λ x u. trace (record { boot = x; user = u }) in
    ap (λ x. trace_of x user) e ∙ ap (trace_of t.boot) f

is_meant : (words : List (List ℕ)) (c : Command) → IsCommand words c → meant words ≡ c
is_meant words (boot b) is =
    ap meant is.spelled ∙ boot_meant b.start b.image b.schedule (decimal b.turns) (decimal b.steps) ∙ ap (λ x. boot x) (boot_back b is.turns_fit is.steps_fit)
is_meant words (trace t) is =
    ap meant is.spelled ∙ trace_back t _ _ (loaded_meant t.boot t.boot.start (sym is.loaded) ∙ boot_back t.boot is.turns_fit is.steps_fit) (read_back t.user (omega (arith, is.most_users)))
is_meant words (save c) is = ap meant is.spelled ∙ ap (λ (x : Save). save x) (save_back c is.loaded is.turns_fit is.steps_fit)
is_meant words (resume c) is = ap meant is.spelled ∙ ap (λ (x : Save). resume x) (save_back c is.loaded is.turns_fit is.steps_fit)
is_meant words (compile_user c) is = ap meant is.spelled
is_meant words (compile_kernel c) is = ap meant is.spelled
is_meant words (compile_program c) is = ap meant is.spelled
is_meant words (link l) is = ap meant is.spelled
is_meant words (migrate m) is = ap meant is.spelled
is_meant words (sample x) is =
    let numbered : ℕ → Command = λ n. sample (record { number = n }) in
    ap meant is.spelled ∙ ap numbered (read_back x.number (omega (arith, is.fits)))
is_meant words (check c) is =
    let beside : ℕ → Command = λ n. check (record { object = c.object; stack = n }) in
    ap meant is.spelled ∙ ap beside (read_back c.stack (omega (arith, is.most)))

-- THE WORDS of a command are those of one
pub one_command : (words : List (List ℕ)) (c d : Command) → IsCommand words c → IsCommand words d → c ≡ d
one_command words c d is other = sym (is_meant words c is) ∙ is_meant words d other

-- and so are their plans
pub its_plan : (words : List (List ℕ)) (file : List ℕ → Option (List ℕ)) (c : Command) (p : Plan) → IsCommand words c → PlanComesTo words file p → CommandPlan layer_image file c p
its_plan words file c p is (no_command n) = absurd (n c is)
its_plan words file c p is (by_command d _ k g) = subst (λ (x : Command). CommandPlan layer_image file x p) (one_command words d c k is) g
