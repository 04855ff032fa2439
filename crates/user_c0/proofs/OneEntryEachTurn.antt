-- A turn of the loop makes one entry; how many turns there are, the answers say.
use Rattle.std.specs.Prelude.{ℤ, pos, codes, slice_get, Ok}
use Rattle.std.proofs.Common.{◌≡◌, ℕ, zero, suc, ◌+◌, ◌*◌, ◌≤◌, true, Some, None, List, [], ◌∷◌, ◌++◌, length, refl, sym, ap, ◌∙◌, subst, arith, append-nil, append_assoc, length-append}
use Rattle.std.proofs.lemmas.List.{take_all, length-map, length-take}
use Rattle.mips_table.specs.declared.cause.Cause.{Cause}
use Rattle.mips_table.specs.Flat.{Flat, Trap, vstep}
use Rattle.mips_table.specs.Machine.{cause_number}
use Rattle.c0_tree.specs.Tree.{CExpr, true_, call, CStmts, done, next, CUnit}
use Rattle.c0_tree.specs.declared.tree.Kind.TheVariants.{Primitive}
use Rattle.c0_meaning.specs.Bare.{bare}
use Rattle.c0_meaning.specs.Value.{int, group, part, empty}
use Rattle.c0_meaning.specs.World.{Configuration, all_entries, journal_so_far}
use Rattle.c0_meaning.specs.Evaluation.{costs, truth, value_of}
use Rattle.c0_meaning.specs.Running.{push, begin, leave, outward}
use Rattle.c0_meaning.specs.Reasoning.{EndsIn, IsBeginningOf, MakesEntries}
use Rattle.c0_meaning.specs.ProgramLaws.{AnswersAheadDontMatter, MadeIsAsked, ProgramsIgnoreSpans, program_setting, program_start}
use Rattle.c0_meaning.specs.UserProgram.{Seen, prog}
use Rattle.c0_meaning.proofs.ServingRules as making
use Rattle.worked_rows.specs.Kernels.{z, name, local, number}
use Rattle.user_c0.specs.Events.{Event, replies, call_count, answer_of, answers}
use Rattle.user_c0.specs.Users.{UserHasCome, IsProgram, IsTrapCall, TrapsAreKnown}
use Rattle.user_c0.specs.Echoing.{echoing, last_answer, EchoesForEver}

abbrev Conf : Type 0
Conf = Configuration (List ℤ) ℤ

abbrev test : CExpr
test = true_ z

abbrev body : CStmts
body = next (call z (local (codes "x") 0) z (name (codes "trap") Primitive 0) (local (codes "x") 0 ∷ [])) done

-- where the loop stands with the last answer x, the answers that are left, and these calls
abbrev there : ℤ → List ℤ → List (List ℤ) → Conf
there x left calls = record {
  state = record { global_values = group empty; heap_values = group empty; heap_words = 0; frames = record { function = 0; variables = group (part (int x) empty) } ∷ [] };
  world = left;
  calls = calls;
  answer = None;
}

-- so many turns before the last one: what was asked, what is asked next, and the answers that are left are the entries
record Left (es : List ℤ) (i : ℕ) (d : Conf) : Type 0 where
  x : ℤ
  left : List ℤ
  calls : List (List ℤ)
  is : d ≡ there x left calls
  count : i ≡ length left
  all : all_entries calls ++ x ∷ left ≡ es

abbrev Turns : List ℤ → ℕ → Conf → Type 0
Turns es zero d = IsBeginningOf es (journal_so_far d)
Turns es (suc i) d = Left es i d

joined : (calls : List (List ℤ)) (x : ℤ) → all_entries (calls ++ (x ∷ []) ∷ []) ≡ all_entries calls ++ x ∷ []
joined [] x = refl
joined (c ∷ calls) x = ap (λ xs. c ++ xs) (joined calls x) ∙ sym (append_assoc c (all_entries calls) (x ∷ []))

-- a turn
turn : (es : List ℤ) (i : ℕ) (x : ℤ) (left : List ℤ) (calls : List (List ℤ)) → i ≡ length left → all_entries calls ++ x ∷ left ≡ es
    → EndsIn (program_setting echoing) 5 (push body []) (there x left calls) (Turns es i)
turn es zero x [] calls count all = record { more = []; is = joined calls x ∙ all ∙ sym (append-nil es) }
turn es (suc i) x [] calls count all = absurd (omega (arith, count))
turn es zero x (y ∷ left) calls count all = absurd (omega (arith, count))
turn es (suc i) x (y ∷ left) calls count all = record {
  x = y;
  left = left;
  calls = calls ++ (x ∷ []) ∷ [];
  is = refl;
  count = omega (arith, count);
  all = ap (λ xs. xs ++ y ∷ left) (joined calls x) ∙ append_assoc (all_entries calls) (x ∷ []) (y ∷ left) ∙ all;
}

turns : (es : List ℤ) (j : ℕ) (d : Conf) → Turns es (suc j) d → (truth (value_of test d.state) ≡ costs 1 (Ok true)) × EndsIn (program_setting echoing) 5 (push body []) d (Turns es j)
turns es j d h =
    subst (λ (c : Conf). (truth (value_of test c.state) ≡ costs 1 (Ok true)) × EndsIn (program_setting echoing) 5 (push body []) c (Turns es j)) (sym h.is)
    (refl, turn es j h.x h.left h.calls h.count h.all)

-- all turns that have an answer, and one more
made_there : (given : List ℤ) → MakesEntries (program_setting echoing) (10 * length given + 20) (begin 0 empty ∷ []) (program_start echoing given) (pos 0 ∷ given)
made_there given =
    making.more (List ℤ) ℤ (program_setting echoing) (pos 0 ∷ given) (3 + suc (suc (length given) * 8)) (10 * length given + 20) (begin 0 empty ∷ []) (program_start echoing given) (omega arith)
    (making.straight (List ℤ) ℤ (program_setting echoing) (pos 0 ∷ given) 1 3 (suc (suc (length given) * 8)) (begin 0 empty ∷ []) (program_start echoing given) (
      omega arith,
      making.by_while (List ℤ) ℤ (program_setting echoing) (Turns (pos 0 ∷ given)) (pos 0 ∷ given) test body done (leave (number 0) outward ∷ []) 1 5 (turns (pos 0 ∷ given)) (λ d h. h)
          z (suc (length given)) (there (pos 0) given []) (record { x = pos 0; left = given; calls = []; is = refl; count = refl; all = refl }),
    ))

-- the last argument
last_there : (a : ℤ) (xs : List ℤ) → slice_get (a ∷ xs) (length xs) ≡ Some (last_answer a xs)
last_there a [] = refl
last_there a (x ∷ xs) = last_there x xs

no_more : (es xs more : List ℤ) → xs ≡ es ++ more → length xs ≤ length es → xs ≡ es
no_more es xs [] e le = e ∙ append-nil es
no_more es xs (m ∷ more) e le = let l = ap length e ∙ length-append es (m ∷ more) in absurd (omega (arith, l, le))

module _ (spans : ProgramsIgnoreSpans) (ahead : AnswersAheadDontMatter) (made : MadeIsAsked) (known : TrapsAreKnown) where
  asks : (given : List ℤ) → (prog echoing given (10 * length given + 20)).arguments ≡ pos 0 ∷ given
  asks given =
      let n : ℕ = 10 * length given + 20 in
      let b = made echoing given (pos 0 ∷ given) n (made_there given) in
      let few = ap length (ahead.arguments echoing given [] n) ∙ length-take (suc (length given)) (prog echoing (given ++ []) n).arguments in
      no_more (pos 0 ∷ given) (prog echoing given n).arguments b.more
      (b.is ∙ ap (λ xs. xs ++ b.more) (take_all (suc (length given)) (pos 0 ∷ given) (omega arith))) (omega (arith, few))

  traps : (u : CUnit) (es : List Event) (f g : Flat) (cause : Cause) (edata : ℕ) → IsProgram u → bare u ≡ echoing → UserHasCome u es f → vstep f ≡ Trap g cause edata
      → IsTrapCall f (last_answer (pos 0) (answers es)) (cause_number cause) edata
  traps u es f g cause edata p is come e =
      let n : ℕ = 10 * length (answers es) + 20 in
      known.next_call u es f g cause edata p come e n (last_answer (pos 0) (answers es))
      (ap (λ (s : Seen). slice_get s.arguments (call_count es)) (sym (spans u (answers es) n) ∙ ap (λ v. prog v (answers es) n) is)
      ∙ ap (λ xs. slice_get xs (call_count es)) (asks (answers es)) ∙ ap (slice_get (pos 0 ∷ answers es)) (sym (length-map (replies es) answer_of)) ∙ last_there (pos 0) (answers es))

  pub echoes : EchoesForEver
  echoes = record { asks = asks; traps = traps }
