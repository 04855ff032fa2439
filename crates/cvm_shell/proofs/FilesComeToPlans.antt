-- What files come to, stage by stage: each stage that stops, or goes on to what comes to one plan, comes to that plan and to no other.
use Rattle.std.proofs.Common.{◌≡◌, ◌≢◌, ℕ, ◌<◌, ◌≤◌, List, [], length, refl, sym, ap, ◌∙◌, subst, arith, Some, None, Ok, Err}
use Rattle.std.specs.Prelude.{Option, Result, ⊤, replicate}
use Rattle.std.specs.Option.{IsSome}
use Rattle.std.proofs.lemmas.List.{length-replicate}
use Rattle.cvm_outside.specs.Told.{TOO_LONG, Tells}
use Rattle.mips_asm.specs.Assembled.{assembled}
use Rattle.mips_asm.specs.declared.fault.AsmFault.{AsmFault}
use Rattle.mips_asm.specs.declared.fault.AsmFault.TheVariants.{BadByte, UnknownMnemonic, BadOperand, OutOfRange, UnknownLabel, LabelTwice, TooLong, Memory}
use Rattle.cvm_shell.specs.declared.boot.Stop.{Stop}
use Rattle.cvm_shell.specs.declared.boot.Stop.TheVariants.{Refused, Shelf, Memory as OutOfMemory}
use Rattle.run_scripts.specs.Refusal.{too_long, bad_text}
use Rattle.run_scripts.specs.Plan.{Plan, refuses, puts, Got, long, whole, AfterText, no_words, assembles, user_bytes, IsPlan}
use Rattle.run_scripts.specs.Ends.{MayBeShort, MayBeLong}
use Rattle.cvm_shell.specs.Stages.{text_stop}
use Rattle.cvm_shell.specs.Views.{refusal_view, IfRefused, IfPlan}

-- A file is got.

-- contents that are told are the same each time
same_told : (told : Option (List ℕ)) (a b : List ℕ) → IsSome told → Tells told a → Tells told b → a ≡ b
same_told None a b some h k = absurd cc
same_told (Some xs) a b some h k = h ∙ sym k

too_short : (n : ℕ) → n < TOO_LONG → TOO_LONG ≤ n → ⊥
too_short n a b = omega arith

-- a list of at least so many
a_long_list : (n : ℕ) → (xs : List ℕ) × (n ≤ length xs)
a_long_list n = (replicate n 0, omega (arith, length-replicate {A = ℕ} n 0))

-- contents of a file that may be too long
pub long_contents : (told : Option (List ℕ)) → MayBeLong told → (xs : List ℕ) × Tells told xs × (TOO_LONG ≤ length xs)
long_contents None h = let xs = a_long_list TOO_LONG in (xs.0, tt, xs.1)
long_contents (Some xs) h = (xs, refl, h)

-- and of one that may not be
pub short_contents : (told : Option (List ℕ)) → MayBeShort told → (xs : List ℕ) × Tells told xs × (length xs < TOO_LONG)
short_contents None h = ([], tt, omega arith)
short_contents (Some xs) h = (xs, refl, h)

only_long : (told : Option (List ℕ)) (next : List ℕ → Plan → Type 0) (bytes : List ℕ) → Tells told bytes → TOO_LONG ≤ length bytes → IsSome told → (q : Plan) → Got told next q → q ≡ refuses too_long
only_long told next bytes t l some q (long other u m) = refl
only_long told next bytes t l some q (whole other r u m n) =
    let same : other ≡ bytes = same_told told other bytes some u t in
    absurd (too_short (length other) m (subst (λ (xs : List ℕ). TOO_LONG ≤ length xs) (sym same) l))

pub got_long : (told : Option (List ℕ)) (next : List ℕ → Plan → Type 0) (T : Type 0) (bytes : List ℕ) → (T → IsSome told) → Tells told bytes → TOO_LONG ≤ length bytes → IsPlan T (Got told next) (refuses too_long)
got_long told next T bytes some t l = record { comes = long bytes t l; only = λ h q. only_long told next bytes t l (some h) q }

only_whole : (told : Option (List ℕ)) (next : List ℕ → Plan → Type 0) (bytes : List ℕ) (p : Plan) → Tells told bytes → length bytes < TOO_LONG → ((q : Plan) → next bytes q → q ≡ p) → IsSome told → (q : Plan) → Got told next q → q ≡ p
only_whole told next bytes p t s only some q (long other u m) =
    let same : other ≡ bytes = same_told told other bytes some u t in
    absurd (too_short (length bytes) s (subst (λ (xs : List ℕ). TOO_LONG ≤ length xs) same m))
only_whole told next bytes p t s only some q (whole other r u m n) =
    only r (subst (λ (xs : List ℕ). next xs r) (same_told told other bytes some u t) n)

-- a file that is short enough: what comes of it is what comes of its bytes
pub got_whole : (told : Option (List ℕ)) (next : List ℕ → Plan → Type 0) (T U : Type 0) (bytes : List ℕ) (p : Plan) → (T → IsSome told) → (T → U) → Tells told bytes → length bytes < TOO_LONG
    → IsPlan U (next bytes) p → IsPlan T (Got told next) p
got_whole told next T U bytes p some part t s is = record {
  comes = whole bytes p t s is.comes;
  only = λ h q got. only_whole told next bytes p t s (λ r n. is.only (part h) r n) (some h) q got;
}

-- a fact of a plan and another that follows from it
pub if_refused : (P Q : Plan → Type 0) → ((p : Plan) → P p → Q p) → (s : Stop) → IfRefused P s → IfRefused Q s
if_refused P Q f (Refused r) h = f (refuses (refusal_view r)) h
if_refused P Q f Shelf h = tt
if_refused P Q f OutOfMemory h = tt

pub if_plan : {A : Type 0} (made : A → Plan) (P Q : Plan → Type 0) → ((p : Plan) → P p → Q p) → (r : Result A Stop) → IfPlan made P r → IfPlan made Q r
if_plan made P Q f (Ok x) h = f (made x) h
if_plan made P Q f (Err s) h = if_refused P Q f s h

-- The text of a user.

text_is_refused : (name text : List ℕ) (f : AsmFault) → assembled text ≡ Err f → (q : Plan) → AfterText name text q → q ≡ refuses (bad_text f)
text_is_refused name text f e q (no_words g d) = let same : g ≡ f = cc in ap (λ (x : AsmFault). refuses (bad_text x)) same
text_is_refused name text f e q (assembles words d) = absurd cc

text_refused : (name text : List ℕ) (f : AsmFault) → assembled text ≡ Err f → IsPlan ⊤ (AfterText name text) (refuses (bad_text f))
text_refused name text f e = record { comes = no_words f e; only = λ t q h. text_is_refused name text f e q h }

-- a fault of a text is refused
pub text_fault : (name text : List ℕ) (f : AsmFault) → (f ≢ Memory → assembled text ≡ Err f) → IfRefused (IsPlan ⊤ (AfterText name text)) (text_stop f)
text_fault name text (BadByte at) h = text_refused name text (BadByte at) (h (λ e. cc))
text_fault name text (UnknownMnemonic line) h = text_refused name text (UnknownMnemonic line) (h (λ e. cc))
text_fault name text (BadOperand line) h = text_refused name text (BadOperand line) (h (λ e. cc))
text_fault name text (OutOfRange line value) h = text_refused name text (OutOfRange line value) (h (λ e. cc))
text_fault name text (UnknownLabel line) h = text_refused name text (UnknownLabel line) (h (λ e. cc))
text_fault name text (LabelTwice line) h = text_refused name text (LabelTwice line) (h (λ e. cc))
text_fault name text TooLong h = text_refused name text TooLong (h (λ e. cc))
text_fault name text Memory h = tt

text_is_assembled : (name text words : List ℕ) → assembled text ≡ Ok words → (q : Plan) → AfterText name text q → q ≡ puts name (user_bytes words)
text_is_assembled name text words e q (no_words f d) = absurd cc
text_is_assembled name text words e q (assembles other d) = let same : other ≡ words = cc in ap (λ (ws : List ℕ). puts name (user_bytes ws)) same

-- a text is assembled
pub text_assembled : (name text words : List ℕ) → assembled text ≡ Ok words → IsPlan ⊤ (AfterText name text) (puts name (user_bytes words))
text_assembled name text words e = record { comes = assembles words e; only = λ t q h. text_is_assembled name text words e q h }
