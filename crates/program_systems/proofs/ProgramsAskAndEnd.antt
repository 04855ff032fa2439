-- A program that asks, is answered, and ends: by its next call, and by its end behind the answer.
use Rattle.std.specs.Prelude.{ℤ, pos, map}
use Rattle.std.specs.Int.{w32, cast_unsigned}
use Rattle.std.proofs.Common.{◌≡◌, ℕ, suc, ◌+◌, ◌^◌, ◌<◌, ◌≤◌, List, [], ◌∷◌, ◌++◌, length, Option, Some, refl, sym, ap, ◌∙◌, subst, arith}
use Rattle.mips_table.specs.Flat.{Flat}
use Rattle.c0_tree.specs.Tree.{CUnit}
use Rattle.c0_meaning.specs.RunLaws.{HasEnded}
use Rattle.c0_meaning.specs.UserProgram.{Seen, prog, done}
use Rattle.cvm_model.specs.Cvm.{first_flat}
use Rattle.user_c0.specs.Image.{image_words}
use Rattle.user_c0.specs.Events.{Event, step, call, other, replies, others, untrapped, answer_of, answers}
use Rattle.user_c0.specs.Program.{EndsBy, steps_of}
use Rattle.user_c0.specs.Users.{UserHasCome, UsersGoOn, IntsAreTold}
use Rattle.kernel_theorems.specs.UserRuns.{after, told}
use Rattle.program_systems.specs.Coming.{CallsNext, CallsCome, EndsNext, EndsCome}
use Rattle.program_systems.specs.Asking.{BringsAndEnds, AskedAndEnded, ProgramsAskAndEnd}

-- A CALL MORE: these three may be cited from other crates
pub replies_call : (es : List Event) (x : Option ℕ) → replies (es ++ call x ∷ []) ≡ replies es ++ x ∷ []
replies_call [] x = refl
replies_call (step ∷ es) x = replies_call es x
replies_call (call r ∷ es) x = ap (λ rs. r ∷ rs) (replies_call es x)
replies_call (other c d ∷ es) x = replies_call es x

pub others_call : (es : List Event) (x : Option ℕ) → others es ≡ [] → others (es ++ call x ∷ []) ≡ []
others_call [] x e = refl
others_call (step ∷ es) x e = others_call es x e
others_call (call r ∷ es) x e = others_call es x e
others_call (other c d ∷ es) x e = absurd (cc)

pub untrapped_call : (es : List Event) (x : Option ℕ) → untrapped (es ++ call x ∷ []) ≡ untrapped es
untrapped_call [] x = refl
untrapped_call (step ∷ es) x = ap suc (untrapped_call es x)
untrapped_call (call r ∷ es) x = untrapped_call es x
untrapped_call (other c d ∷ es) x = untrapped_call es x

-- over a machine that stands for the first one, and a word that tells the answer
module _ (ends : EndsCome) (u : CUnit) (n value answer : ℕ) (b : BringsAndEnds u n value answer) (f : Flat) (r : CallsNext u [] f n (pos value)) (word : ℕ) (small : word < 2 ^ 32) (tells : answer_of (Some word) ≡ pos answer) where
  abbrev es : List Event
  es = r.events ++ call (Some word) ∷ []

  its_replies : replies es ≡ Some word ∷ []
  its_replies = replies_call r.events (Some word) ∙ ap (λ rs. rs ++ Some word ∷ []) r.replies_are

  its_answers : answers es ≡ pos answer ∷ []
  its_answers = ap (map answer_of) its_replies ∙ ap (λ (z : ℤ). z ∷ []) tells

  seen : prog u (answers es) n ≡ record { arguments = pos value ∷ []; ending = done }
  seen = ap (λ given. prog u given n) its_answers ∙ b.ends

  its_end : (g : Flat) → UserHasCome u es g → EndsNext u es g n
  its_end g come = ends u es g n b.program come (others_call r.events (Some word) r.others_are) (subst (λ (p : Seen). HasEnded p.ending) (sym seen) tt)
      (ap (λ (p : Seen). length p.arguments) seen ∙ sym (ap length its_replies))

  by_end : (g : Flat) → UserHasCome u es g → (e : EndsNext u es g n) → e.traps.edata ≡ 76
  by_end g come e = subst (λ (p : Seen). EndsBy p.ending e.traps.edata) seen e.ends

  few : (g : Flat) (e : EndsNext u es g n) → r.steps + e.steps ≤ steps_of n
  few g e =
      let a = r.few in
      let c = r.count in
      let d = untrapped_call r.events (Some word) in
      let k = e.few in
      omega (arith, a, c, d, k)

-- with the word that the kernel sets
asked : EndsCome → IntsAreTold → (u : CUnit) (n value answer : ℕ) → BringsAndEnds u n value answer → answer < 2 ^ 31 → (f : Flat) → CallsNext u [] f n (pos value) → AskedAndEnded f (steps_of n) value answer
asked ends ints u n value answer b less f r =
    let t = ints (pos answer) (record { sfits = omega (arith, less) }) in
    let word = cast_unsigned w32 (pos answer) in
    let come : UserHasCome u (r.events ++ call (Some (cast_unsigned w32 (pos answer))) ∷ []) (told (after (suc r.steps) f) answer) = r.answered (cast_unsigned w32 (pos answer)) t.0 in
    let e : EndsNext u (r.events ++ call (Some (cast_unsigned w32 (pos answer))) ∷ []) (told (after (suc r.steps) f) answer) n =
    its_end ends u n value answer b f r (cast_unsigned w32 (pos answer)) t.0 t.1 (told (after (suc r.steps) f) answer) come in
    record {
      steps = r.steps;
      rest = e.steps;
      few = few ends u n value answer b f r (cast_unsigned w32 (pos answer)) t.0 t.1 (told (after (suc r.steps) f) answer) e;
      runs = record {
        asks = r.traps;
        asks_by = r.edata_is;
        value_is = r.argument;
        ends = e.traps;
        ends_by = by_end ends u n value answer b f r (cast_unsigned w32 (pos answer)) t.0 t.1 (told (after (suc r.steps) f) answer) come e;
      };
    }

pub programs_ask_and_end : UsersGoOn → CallsCome → EndsCome → IntsAreTold → ProgramsAskAndEnd
programs_ask_and_end go calls ends ints u n value answer b less =
    asked ends ints u n value answer b less (first_flat (image_words u)) (calls u [] (first_flat (image_words u)) n (pos value) b.program (go.starts u) refl b.calls)
