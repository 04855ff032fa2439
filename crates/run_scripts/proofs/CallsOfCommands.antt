-- Which calls a command makes.
use Rattle.std.specs.Prelude.{Option, None}
use Rattle.std.proofs.Common.{◌≡◌, ◌≢◌, ℕ, ◌+◌, suc, List, [], ◌∷◌, ◌++◌, length, refl, ap, ◌∙◌, subst, arith}
use Rattle.run_scripts.specs.Command.{Command, IsCommand, save, resume}
use Rattle.run_scripts.specs.Refusal.{too_long}
use Rattle.run_scripts.specs.declared.exit_status.Status.{Status}
use Rattle.run_scripts.specs.Plan.{Plan, bad_words, refuses}
use Rattle.cvm_outside.specs.Numbering.{called, counted_times}
use Rattle.cvm_outside.specs.Outside.{Outside, shelf_counts}
use Rattle.cvm_outside.specs.Script.{Call, Printed, Read, Wrote, Got, Stored, Who, Performs, done as all_done, breaks, goes_on, disk_calls, shelf_calls}
use Rattle.cvm_outside.specs.ScriptLaws.{MadeBy, ScriptsBlame, ScriptsCountFiles}
use Rattle.cvm_outside.proofs.ScriptsFollow.{both}
use Rattle.run_scripts.specs.Ends.{Ends, done, no_file, no_memory, GetsFor, all, up_to, IsNotGot, Wants}
use Rattle.run_scripts.specs.Served.{files_of, gets, file_put}
use Rattle.run_scripts.specs.Shapes.{PlansHaveShape, OthersStay, NothingIsLoaded, RefusalsKeepTheDisk, GetsComeFirst, GotInOrder, ShelfIsCalled, were_got, ungot, wanting, gets_in, puts_in}
use Rattle.run_scripts.proofs.ScriptCalls.{shape_of, files_stay, disk_stays, quiet_plan}
use Rattle.run_scripts.proofs.StatusesCaused.{mid_disk, refusal_quiet}
use Rattle.run_scripts.proofs.ResumeScripts.{got_keeps}
use Rattle.run_scripts.proofs.GetsKeep.{wanted}
use Rattle.run_scripts.proofs.FilesAmongWords.{files_among}
use Rattle.run_scripts.proofs.OneCommand.{one_command}
use Rattle.run_scripts.proofs.CommandOutcomes.{Outcome, is_none, is_refused, is_booted, is_saved, is_resumed, is_put, is_told, outcome}

pub plans_have_shape : PlansHaveShape
plans_have_shape words file c p at script due is comes asks = let h = shape_of words c p at script due is (outcome words file p comes) asks in record { gets = h.gets; puts = h.puts }

-- gets alone, also where one failed
gets_put : (names : List (List ℕ)) → puts_in (gets names) ≡ []
gets_put [] = refl
gets_put (n ∷ names) = gets_put names

gets_ask : (names : List (List ℕ)) → disk_calls (gets names) ≡ 0
gets_ask [] = refl
gets_ask (n ∷ names) = gets_ask names

gets_files : (names : List (List ℕ)) (old new : Outside) (b : Option Who) → Performs (gets names) old new b → (n : List ℕ) → new.shelf.file n ≡ old.shelf.file n
gets_files [] old new b (all_done _) n = refl
gets_files (m ∷ names) old new b (breaks c rest _ _ f) n = f.0 n
gets_files (m ∷ names) old new b (goes_on c rest _ mid _ _ d p) n = gets_files names mid new b p n ∙ d.0 n

pub others_stay : OthersStay
others_stay words c old new status is (done _ h) n ne =
    let k = got_keeps _ _ _ _ _ old h.mid (h.gets.0 c is) h.files in
    let s = shape_of words c h.plan h.mid h.script h.due is (outcome words old.shelf.file h.plan h.is_plan.comes) h.asks in
    files_stay (file_put c) h.script h.mid new h.blamed s.puts h.performs n ne ∙ k.files n
others_stay words c old new status is (no_file d k g) n ne = gets_files (g.before ++ g.name ∷ []) old new _ g.performs n
others_stay words c old new status is (no_memory d k w) n ne = (wanted _ old new w).files n

pub nothing_is_loaded : NothingIsLoaded
nothing_is_loaded words old new status never (done _ h) = by h.plan refl (outcome words old.shelf.file h.plan h.is_plan.comes)
  where
    behind_ : h.mid.disk ≡ old.disk → new.disk ≡ old.disk
    behind_ e = disk_stays h.script h.mid new h.blamed (quiet_plan words h.plan h.mid h.script h.due never (outcome words old.shelf.file h.plan h.is_plan.comes) h.asks) h.performs ∙ e

    of : (c : Command) → IsCommand words c → new.disk ≡ old.disk
    of c is = behind_ (got_keeps _ _ _ _ _ old h.mid (h.gets.0 c is) h.files).disk

    none : h.plan ≡ bad_words → new.disk ≡ old.disk
    none e =
        let f : Performs [] old h.mid None = subst (λ (s : List Call). Performs s old h.mid None) (h.gets.1 e) h.files in
        behind_ (disk_stays [] old h.mid None refl f)

    by : (p : Plan) → h.plan ≡ p → Outcome words p → new.disk ≡ old.disk
    by p e (is_none n) = none e
    by p e (is_refused d k r f) = of d k
    by p e (is_booted d k l session s rows) = of d k
    by p e (is_saved d k s rows) = of (save d) k
    by p e (is_resumed d k s rows machine) = of (resume d) k
    by p e (is_put d k name bytes x) = of d k
    by p e (is_told d k text) = of d k
nothing_is_loaded words old new status never (no_file d k g) = disk_stays (gets (g.before ++ g.name ∷ [])) old new _ (gets_ask (g.before ++ g.name ∷ [])) g.performs
nothing_is_loaded words old new status never (no_memory d k w) = (wanted _ old new w).disk

pub refusals_keep_the_disk : ScriptsBlame → RefusalsKeepTheDisk
refusals_keep_the_disk blame words old new status (done _ h) came =
    disk_stays h.script h.mid new h.blamed (refusal_quiet words h.plan h.mid h.script h.due (outcome words old.shelf.file h.plan h.is_plan.comes) h.asks came) h.performs ∙ (mid_disk blame words old new status h).0
refusals_keep_the_disk blame words old new status (no_file d k g) came = disk_stays (gets (g.before ++ g.name ∷ [])) old new _ (gets_ask (g.before ++ g.name ∷ [])) g.performs
refusals_keep_the_disk blame words old new status (no_memory d k w) came = (wanted _ old new w).disk

gets_first : (words : List (List ℕ)) (c : Command) (old new : Outside) (status : Status) → IsCommand words c → Ends words old new status → GotInOrder c old new status
gets_first words c old new status is (done _ h) =
    let s = shape_of words c h.plan h.mid h.script h.due is (outcome words old.shelf.file h.plan h.is_plan.comes) h.asks in
    were_got status h.due h.plan h.mid h.got h.script h.blamed (h.gets.0 c is) h.files (record { gets = s.gets; puts = s.puts }) h.performs h.status_is
gets_first words c old new status is (no_file d k g) =
    let e : files_of d ≡ files_of c = ap files_of (one_command words d c k is) in
    ungot (subst (λ (names : List (List ℕ)). IsNotGot names old new) e g)
gets_first words c old new status is (no_memory d k w) =
    let e : files_of d ≡ files_of c = ap files_of (one_command words d c k is) in
    wanting (subst (λ (names : List (List ℕ)). Wants names old new) e w)

pub gets_come_first : GetsComeFirst
gets_come_first = record { of_words = files_among; first = gets_first }

-- how often the shelf is called
gets_call : (names : List (List ℕ)) → shelf_calls (gets names) ≡ length names
gets_call [] = refl
gets_call (n ∷ names) = ap suc (gets_call names)

puts_call : (a : List Call) → gets_in a ≡ [] → shelf_calls a ≡ length (puts_in a)
puts_call [] g = refl
puts_call (Printed t ∷ a) g = puts_call a g
puts_call (Read q ∷ a) g = puts_call a g
puts_call (Wrote q ws ∷ a) g = puts_call a g
puts_call (Got n ∷ a) g = absurd (let e : n ∷ gets_in a ≡ [] = g in cc)
puts_call (Stored n bytes ∷ a) g = ap suc (puts_call a g)

plus_none : (n : ℕ) → n ≡ 0 + n
plus_none n = omega arith

plus_one : (m n : ℕ) → suc (m + n) ≡ suc m + n
plus_one m n = omega arith

calls_both : (a b : List Call) → shelf_calls (a ++ b) ≡ shelf_calls a + shelf_calls b
calls_both [] b = plus_none (shelf_calls b)
calls_both (Printed t ∷ a) b = calls_both a b
calls_both (Read q ∷ a) b = calls_both a b
calls_both (Wrote q ws ∷ a) b = calls_both a b
calls_both (Got n ∷ a) b = ap suc (calls_both a b) ∙ plus_one (shelf_calls a) (shelf_calls b)
calls_both (Stored n bytes ∷ a) b = ap suc (calls_both a b) ∙ plus_one (shelf_calls a) (shelf_calls b)

all_got : (file : List ℕ → Option (List ℕ)) (names : List (List ℕ)) (taken : ℕ) (p : Plan) (got : List Call) → GetsFor file names taken p got → p ≢ refuses too_long → got ≡ gets names
all_got file names taken p got (all _ n t) short = refl
all_got file names taken p got (up_to before after name e s l t) short = absurd (short refl)

pub shelf_is_called : ScriptsCountFiles → ShelfIsCalled
shelf_is_called count words c old new status is h short none =
    let s = shape_of words c h.plan h.mid h.script h.due is (outcome words old.shelf.file h.plan h.is_plan.comes) h.asks in
    let k = count (h.got ++ h.script) old new h.blamed (both h.got h.script old h.mid new h.blamed h.files h.performs) in
    let made : k.made ≡ shelf_calls (h.got ++ h.script) = subst (λ (b : Option Who). MadeBy b k.made (shelf_calls (h.got ++ h.script))) none k.which in
    let got : shelf_calls h.got ≡ length (files_of c) = ap shelf_calls (all_got _ _ _ _ _ (h.gets.0 c is) short) ∙ gets_call (files_of c) in
    let script : shelf_calls h.script ≡ length (puts_in h.script) = puts_call h.script s.gets in
    let sum : k.made ≡ length (files_of c) + length (puts_in h.script) =
    made ∙ calls_both h.got h.script ∙ ap (λ (n : ℕ). n + shelf_calls h.script) got ∙ ap (λ (n : ℕ). length (files_of c) + n) script in
    record {
      calls = k.calls ∙ ap (λ (n : ℕ). called n (shelf_counts old.shelf)) sum;
      all_calls = k.all_calls ∙ ap (λ (n : ℕ). counted_times n old.shelf.all_calls) sum;
    }
