-- What a command may come to, by its words.
use Rattle.std.specs.Prelude.{nat_lt, Result, Ok, Err, Option, Some, if◌then◌else◌}
use Rattle.std.proofs.Common.{◌≡◌, ℕ, Bool, true, false, List, [], ◌∷◌, refl, sym, subst}
use Rattle.real_layer.specs.Image.{layer_image}
use Rattle.layer_map.specs.declared.params.Params.{Params}
use Rattle.c0_tree.specs.Tree.{CUnit}
use Rattle.c0_tree.specs.declared.primitive.Program.{Program}
use Rattle.c0_types.specs.declared.source_fault.SourceFault.{SourceFault}
use Rattle.boot_image.specs.Parts.{ImageParts as Image}
use Rattle.boot_image.specs.Format.{spelling}
use Rattle.kernel_linker.specs.Accept.{ImageSystem}
use Rattle.kernel_linker.specs.Open.{open_answer}
use Rattle.kernel_linker.specs.declared.fault.AcceptFault.{AcceptFault}
use Rattle.kernel_linker.specs.declared.fault.LinkFault.{LinkFault}
use Rattle.object_file.specs.Parts.{ObjectParts as Object}
use Rattle.schedule_file.specs.Rows.{Rows}
use Rattle.schedule_file.specs.Schedule.{schedule_of}
use Rattle.schedule_file.specs.declared.fault.ScheduleFault.{ScheduleFault}
use Rattle.sample_maker.specs.Parts.{SampleParts as Sampled}
use Rattle.sample_maker.specs.Sample.{sample_of}
use Rattle.saved_file.specs.declared.fault.SaveFault.{SaveFault}
use Rattle.saved_file.specs.declared.fault.SaveFault.TheVariants.{SaveTooLarge as FileTooLarge}
use Rattle.saved_file.specs.Answer.{answer as machine_of}
use Rattle.system_files.specs.declared.fault.FileFault.{FileFault}
use Rattle.boot_run.specs.SaveRoom.{FILE_ROOM}
use Rattle.boot_run.specs.SavedFiles.{wanted_of}
use Rattle.run_scripts.specs.declared.session.Session.{Session}
use Rattle.run_scripts.specs.Check.{CheckTold, TellsObject, no_object as check_no_object, has_object as check_has_object, TellsOpened}
use Rattle.run_scripts.specs.Command.{BootCommand, Save, Command, boot, trace, save, resume, compile_user, compile_kernel, compile_program, link, migrate, sample, check, IsCommand, IsNoCommand, IsSave, IsResume, boot_session, trace_session, save_session, sample_session}
use Rattle.run_scripts.specs.Refusal.{Refusal, bad_text, bad_source, bad_program, bad_object, bad_file, unlinked, unaccepted, bad_schedule, bad_save, small_disk, no_such_user, too_long}
use Rattle.run_scripts.specs.Plan.{Plan, bad_words, refuses, puts, boots, saves, resumes, prints as tells, Got, long, whole, GotAll, AfterFiles, BootPlan, accepted_plan, saved_plan, taken_plan, take_up_plan, most_bytes, AfterText, no_words, assembles, planned, AfterCode, AfterParts, unfit, answered, AfterUsers, AfterParams, AfterSystem, no_object, has_object, linked_plan, renewed_plan, AfterLinking, AfterSource, PartsPlan, told_plan, PlanComesTo, no_command, by_command, boot_of_image}
use Rattle.run_scripts.specs.Shapes.{Loads}
use Rattle.run_scripts.specs.Served.{file_put}

-- a refusal of a file: it is none of a disk or a user
abbrev pub IsOfFile : Refusal → Type 0
IsOfFile (small_disk need have) = ⊥
IsOfFile (no_such_user user users) = ⊥
IsOfFile other = Unit {0}

-- what the words of a command may come to
pub data Outcome (words : List (List ℕ)) : Plan → Type 0 where
  is_none : IsNoCommand words → Outcome words bad_words
  is_refused : (c : Command) → IsCommand words c → (r : Refusal) → IsOfFile r → Outcome words (refuses r)
  is_booted : (c : Command) → IsCommand words c → Loads c → (session : Session) (s : ImageSystem) (rows : Rows) → Outcome words (boots session s rows)
  is_saved : (c : Save) → IsSave words c → (s : ImageSystem) (rows : Rows) → Outcome words (saves (save_session c) s rows c.file)
  is_resumed : (c : Save) → IsResume words c → (s : ImageSystem) (rows : Rows) (machine : List ℕ) → Outcome words (resumes (save_session c) s rows machine)
  is_put : (c : Command) → IsCommand words c → (name bytes : List ℕ) → file_put c ≡ Some name → Outcome words (puts name bytes)
  is_told : (c : Command) → IsCommand words c → (text : List ℕ) → Outcome words (tells text)

-- a boot, or what is refused of its files
data BootsOr (session : Session) : Plan → Type 0 where
  boots_so : (s : ImageSystem) (rows : Rows) → BootsOr session (boots session s rows)
  refuses_so : (r : Refusal) → IsOfFile r → BootsOr session (refuses r)

files_or : (session : Session) (image text : List ℕ) (p : Plan) → AfterFiles layer_image session image text p → BootsOr session p
files_or session image text p w = subst (BootsOr session) (sym w.2) (by (schedule_of text) w.0)
  where
    by : (v : Result Rows ScheduleFault) (a : Result ImageSystem AcceptFault) → BootsOr session (accepted_plan session v a)
    by (Ok rows) (Ok s) = boots_so s rows
    by (Err f) (Ok s) = refuses_so (bad_schedule f) tt
    by v (Err f) = refuses_so (unaccepted f) tt

-- a file is got
module _ (P : Plan → Type 0) (refused : (r : Refusal) → IsOfFile r → P (refuses r)) where
  got : (told : Option (List ℕ)) (next : List ℕ → Plan → Type 0) (p : Plan) → ((bytes : List ℕ) (q : Plan) → next bytes q → P q) → Got told next p → P p
  got told next p f (long bytes t l) = refused too_long tt
  got told next p f (whole bytes q t l n) = f bytes q n

  got_all : (file : List ℕ → Option (List ℕ)) (names : List (List ℕ)) (next : List (List ℕ) → Plan → Type 0) (p : Plan) → ((all : List (List ℕ)) (q : Plan) → next all q → P q) →
      GotAll file names next p → P p
  got_all file [] next p f w = f [] p w
  got_all file (name ∷ names) next p f w = got (file name) _ p (λ bytes q n. got_all file names (λ all. next (bytes ∷ all)) q (λ all. f (bytes ∷ all)) n) w

boot_or : (file : List ℕ → Option (List ℕ)) (b : BootCommand) (session : Session) (p : Plan) → BootPlan layer_image file b session p → BootsOr session p
boot_or file b session p w =
    got (BootsOr session) refuses_so (file b.image) _ p (λ image q n. got (BootsOr session) refuses_so (file b.schedule) _ q (λ text z m. files_or session image text z m) n) w

linked_or : (session : Session) (schedule : List ℕ) (a : Result Image LinkFault) (p : Plan) → AfterLinking layer_image session schedule a p → BootsOr session p
linked_or session schedule (Ok image) p w = files_or session (spelling image) schedule p w
linked_or session schedule (Err f) p w = subst (BootsOr session) (sym w) (refuses_so (unlinked f) tt)

parts_or : (session : Session) (parts : Sampled) (p : Plan) → PartsPlan layer_image session parts p → BootsOr session p
parts_or session parts p w = by w.0 w.2
  where
    by : (front : Result CUnit SourceFault) → AfterSource layer_image session parts front p → BootsOr session p
    by (Ok u) h = linked_or session parts.schedule _ p h
    by (Err f) h = subst (BootsOr session) (sym h) (refuses_so (bad_source f) tt)

module _ (words : List (List ℕ)) where
  of_boot : (c : Command) → IsCommand words c → Loads c → (session : Session) (p : Plan) → BootsOr session p → Outcome words p
  of_boot c is loads session p (boots_so s rows) = is_booted c is loads session s rows
  of_boot c is loads session p (refuses_so r f) = is_refused c is r f

  of_save : (c : Save) → IsSave words c → (q : Plan) → BootsOr (save_session c) q → Outcome words (saved_plan c.file q)
  of_save c is q (boots_so s rows) = by (nat_lt FILE_ROOM (most_bytes s))
    where
      by : (b : Bool) → Outcome words (if b then refuses (bad_save (FileTooLarge (most_bytes s))) else saves (save_session c) s rows c.file)
      by true = is_refused (save c) is (bad_save (FileTooLarge (most_bytes s))) tt
      by false = is_saved c is s rows
  of_save c is q (refuses_so r f) = is_refused (save c) is r f

  of_taken : (c : Save) → IsResume words c → (bytes : List ℕ) (q : Plan) → BootsOr (save_session c) q → Outcome words (take_up_plan bytes q)
  of_taken c is bytes q (boots_so s rows) = by (machine_of (wanted_of (boot_of_image s) rows.inputs (save_session c).turns) bytes)
    where
      by : (a : Result (List ℕ) SaveFault) → Outcome words (taken_plan (save_session c) s rows a)
      by (Ok machine) = is_resumed c is s rows machine
      by (Err f) = is_refused (resume c) is (bad_save f) tt
  of_taken c is bytes q (refuses_so r f) = is_refused (resume c) is r f

  module _ (c : Command) (is : IsCommand words c) where
    refused : (r : Refusal) → IsOfFile r → Outcome words (refuses r)
    refused r f = is_refused c is r f

    of_text : (name text : List ℕ) (p : Plan) → file_put c ≡ Some name → AfterText name text p → Outcome words p
    of_text name text p e (no_words f w) = refused (bad_text f) tt
    of_text name text p e (assembles ws w) = is_put c is name _ e

    of_code : (program : Program) (due : CUnit → Plan) (source : List ℕ) (p : Plan) → ((u : CUnit) → Outcome words (due u)) → AfterCode program due source p → Outcome words p
    of_code program due source p f (front, is, e) = subst (Outcome words) (sym e) (by front)
      where
        by : (r : Result CUnit SourceFault) → Outcome words (planned bad_source due r)
        by (Ok u) = f u
        by (Err fault) = refused (bad_source fault) tt

    of_link : (name : List ℕ) (a : Result Image LinkFault) → file_put c ≡ Some name → Outcome words (linked_plan name a)
    of_link name (Ok i) e = is_put c is name _ e
    of_link name (Err f) e = refused (unlinked f) tt

    of_parts : (name : List ℕ) (o : Object) (params : Params) (users : List (List ℕ)) (p : Plan) → file_put c ≡ Some name → AfterParts layer_image name o params users p → Outcome words p
    of_parts name o params users p e (unfit f w) = refused (unlinked f) tt
    of_parts name o params users p e (answered front w) = of_link name _ e

    of_users : (name : List ℕ) (o : Object) (params : Params) (r : Result (List (List ℕ)) FileFault) (p : Plan) → file_put c ≡ Some name → AfterUsers layer_image name o params r p → Outcome words p
    of_users name o params (Ok users) p e w = of_parts name o params users p e w
    of_users name o params (Err f) p e w = subst (Outcome words) (sym w) (refused (bad_file f) tt)

    of_params : (name : List ℕ) (o : Object) (users : List (List ℕ)) (r : Result Params FileFault) (p : Plan) → file_put c ≡ Some name → AfterParams layer_image name o users r p → Outcome words p
    of_params name o users (Ok params) p e w = of_users name o params _ p e w
    of_params name o users (Err f) p e w = subst (Outcome words) (sym w) (refused (bad_file f) tt)

    of_system : (name object params : List ℕ) (users : List (List ℕ)) (p : Plan) → file_put c ≡ Some name → AfterSystem layer_image name object params users p → Outcome words p
    of_system name object params users p e (no_object f w) = refused (bad_object f) tt
    of_system name object params users p e (has_object o _ w n) = of_params name o users _ p e n

    of_renewed : (name : List ℕ) (a : Result Image AcceptFault) → file_put c ≡ Some name → Outcome words (renewed_plan name a)
    of_renewed name (Ok i) e = is_put c is name _ e
    of_renewed name (Err f) e = refused (unaccepted f) tt

    of_program : (b : Bool) (r : Refusal) (name bytes : List ℕ) → IsOfFile r → file_put c ≡ Some name → Outcome words (if b then refuses r else puts name bytes)
    of_program true r name bytes f e = refused r f
    of_program false r name bytes f e = is_put c is name bytes e

    of_opened : (stack : ℕ) (opened : Result CUnit LinkFault) (told : CheckTold) → TellsOpened stack opened told → Outcome words (told_plan told)
    of_opened stack (Ok u) (Ok text) w = is_told c is text
    of_opened stack (Err f) (Err r) w = subst (λ (x : Refusal). Outcome words (refuses x)) (sym w) (refused (unlinked f) tt)
    of_opened stack (Ok u) (Err r) w = absurd w
    of_opened stack (Err f) (Ok text) w = absurd w

    of_told : (stack : ℕ) (bytes : List ℕ) (told : CheckTold) → TellsObject stack bytes told → Outcome words (told_plan told)
    of_told stack bytes told (check_no_object f w) = refused (bad_object f) tt
    of_told stack bytes told (check_has_object o front _ w h n) = of_opened stack (open_answer o front) told n

  -- WHAT WORDS AND FILES COME TO
  pub outcome : (file : List ℕ → Option (List ℕ)) (p : Plan) → PlanComesTo words file p → Outcome words p
  outcome file p (no_command n) = is_none n
  outcome file p (by_command (boot b) _ k g) = of_boot (boot b) k tt (boot_session b) p (boot_or file b (boot_session b) p g)
  outcome file p (by_command (trace b) _ k g) = of_boot (trace b) k tt (trace_session b) p (boot_or file b.boot (trace_session b) p g)
  outcome file p (by_command (save c) _ k g) = subst (Outcome words) (sym g.2) (of_save c k g.0 (boot_or file c.boot (save_session c) g.0 g.1))
  outcome file p (by_command (resume c) _ k g) =
      let refuse = refused (resume c) k in
      got (Outcome words) refuse (file c.boot.image) _ p (λ image q n. got (Outcome words) refuse (file c.boot.schedule) _ q (λ text z m. got (Outcome words) refuse (file c.file) _ z
      (λ bytes x l. subst (Outcome words) (sym l.2) (of_taken c k bytes l.0 (files_or (save_session c) image text l.0 l.1))) m) n) g
  outcome file p (by_command (compile_user c) _ k g) = got (Outcome words) (refused (compile_user c) k) _ _ p (λ b q n. of_text (compile_user c) k c.image b q refl n) g
  outcome file p (by_command (compile_kernel c) _ k g) = got (Outcome words) (refused (compile_kernel c) k) _ _ p (λ b q n. of_code (compile_kernel c) k _ _ b q (λ u. is_put (compile_kernel c) k c.object _ refl) n) g
  outcome file p (by_command (compile_program c) _ k g) =
      got (Outcome words) (refused (compile_program c) k) _ _ p (λ b q n. of_code (compile_program c) k _ _ b q (λ u. of_program (compile_program c) k _ (bad_program _) c.image _ tt refl) n) g
  outcome file p (by_command (link l) _ k g) =
      let refuse = refused (link l) k in
      got (Outcome words) refuse (file l.object) _ p (λ object q n. got (Outcome words) refuse (file l.params) _ q (λ params z m. got_all (Outcome words) refuse file l.users _ z
      (λ users x h. of_system (link l) k l.image object params users x refl h) m) n) g
  outcome file p (by_command (migrate m) _ k g) =
      got (Outcome words) (refused (migrate m) k) _ _ p (λ b q n. subst (Outcome words) (sym n.2) (of_renewed (migrate m) k m.image n.0 refl)) g
  outcome file p (by_command (sample x) _ k g) = of_boot (sample x) k tt sample_session p (parts_or sample_session (sample_of x.number) p g)
  outcome file p (by_command (check c) _ k g) = got (Outcome words) (refused (check c) k) _ _ p (λ b q n. subst (Outcome words) (sym n.2) (of_told (check c) k c.stack b n.0 n.1)) g
