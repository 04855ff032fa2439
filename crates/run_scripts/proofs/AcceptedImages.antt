-- Words and files that ask for a run name an image that is accepted, and a schedule that is valid.
use Rattle.std.specs.Prelude.{All, IfSome, IsSome, nat_lt, Result, Ok, Err, Option, Some, None, codes, decimal, slice_index, flat_map, ◌==◌, if◌then◌else◌}
use Rattle.std.specs.List.{list_all}
use Rattle.std.proofs.Common.{◌≡◌, ℕ, zero, suc, ◌<◌, ◌^◌, Bool, true, false, List, [], ◌∷◌, refl, sym, ap, ◌∙◌, subst, arith, ltb-true}
use Rattle.std.proofs.lemmas.Bool.{and_parts}
use Rattle.std.proofs.lemmas.Fmt.{IsAscii-decimal}
use Rattle.std.proofs.lemmas.Str.Ascii.{All-from_ascii}
use Rattle.std.proofs.lemmas.List.Elements.{All-nil, All-cons, All-head, All-tail, All-append, All-weaker, All-from_recursion}
use Rattle.cvm_outside.specs.Told.{Tells}
use Rattle.cvm_words.specs.Bytes.{word}
use Rattle.real_layer.specs.Image.{layer_image}
use Rattle.c0_tree.specs.Tree.{CUnit}
use Rattle.c0_tree.specs.declared.primitive.Program.{Program}
use Rattle.c0_types.specs.Front.{IsFrontAnswer}
use Rattle.c0_types.specs.declared.source_fault.SourceFault.{SourceFault}
use Rattle.boot_image.specs.Parts.{ImageParts as Image}
use Rattle.boot_image.specs.Format.{IsInRange, fields, spelling}
use Rattle.boot_image.specs.Reading.{answer as image_of, AnswersAreSpelled}
use Rattle.boot_image.specs.declared.fault.ImageFault.{ImageFault}
use Rattle.kernel_linker.specs.Accept.{ImageSystem, accept_answer}
use Rattle.kernel_linker.specs.Link.{fitting, link_answer}
use Rattle.kernel_linker.specs.Object.{object_of}
use Rattle.cvm_words.specs.Reading.{◌>>=◌}
use Rattle.kernel_linker.specs.Open.{open_answer}
use Rattle.kernel_linker.specs.Linked.{linked, sizes_of}
use Rattle.kernel_linker.specs.declared.fault.AcceptFault.{AcceptFault}
use Rattle.kernel_linker.specs.declared.fault.LinkFault.{LinkFault}
use Rattle.object_file.specs.Parts.{ObjectParts as Object}
use Rattle.schedule_file.specs.Rows.{Rows}
use Rattle.schedule_file.specs.Schedule.{schedule_of}
use Rattle.schedule_file.specs.declared.fault.ScheduleFault.{ScheduleFault}
use Rattle.sample_maker.specs.Parts.{SampleParts as Sampled}
use Rattle.sample_maker.specs.Sample.{sample_of, user_count, base_of}
use Rattle.sample_maker.specs.Source.{pattern, filled_pattern, filled_byte}
use Rattle.saved_file.specs.declared.fault.SaveFault.{SaveFault}
use Rattle.saved_file.specs.declared.fault.SaveFault.TheVariants.{SaveTooLarge as FileTooLarge}
use Rattle.run_scripts.specs.Refusal.{bad_source, Refusal, bad_save}
use Rattle.system_files.specs.declared.fault.FileFault.{FileFault}
use Rattle.layer_map.specs.declared.params.Params.{Params}
use Rattle.run_scripts.specs.declared.session.Session.{Session}
use Rattle.run_scripts.specs.Command.{BootCommand, Command, IsCommand, boot, trace, save, resume, compile_user, compile_kernel, compile_program, link, migrate, sample, check, sample_session}
use Rattle.run_scripts.specs.Check.{CheckTold}
use Rattle.run_scripts.specs.Plan.{Plan, bad_words, refuses, puts, boots, saves, resumes, prints as tells, Got, long, whole, GotAll, AfterFiles, Answered, BootPlan, accepted_plan, saved_plan, taken_plan, take_up_plan, most_bytes, AfterText, no_words, assembles, planned, AfterCode, AfterParts, unfit, answered, AfterUsers, AfterParams, AfterSystem, no_object, has_object, linked_plan, renewed_plan, AfterLinking, AfterSource, PartsPlan, told_plan, PlanComesTo, no_command, by_command, AllTold}
use Rattle.boot_run.specs.SaveRoom.{FILE_ROOM}
use Rattle.run_scripts.specs.Ends.{IsByte, AreBytes}
use Rattle.run_scripts.specs.Served.{files_of}
use Rattle.run_scripts.specs.AskedRuns.{IsOf, booted_so, saved_so, resumed_so}

-- the system and the schedule that a plan runs
abbrev system_in : Plan → Option ImageSystem
system_in (boots session s rows) = Some s
system_in (saves session s rows name) = Some s
system_in (resumes session s rows words) = Some s
system_in other = None

abbrev rows_in : Plan → Option Rows
rows_in (boots session s rows) = Some rows
rows_in (saves session s rows name) = Some rows
rows_in (resumes session s rows words) = Some rows
rows_in other = None

-- a plan runs these
record RunsThese (s : ImageSystem) (rows : Rows) (p : Plan) : Type 0 where
  system : system_in p ≡ Some s
  schedule : rows_in p ≡ Some rows

these_of : (session : Session) (s : ImageSystem) (rows : Rows) (p : Plan) → IsOf session s rows p → RunsThese s rows p
these_of session s rows p booted_so = record { system = refl; schedule = refl }
these_of session s rows p (saved_so name) = record { system = refl; schedule = refl }
these_of session s rows p (resumed_so words) = record { system = refl; schedule = refl }

-- an image that is accepted, with a valid schedule
pub record IsAccepted (s : ImageSystem) (rows : Rows) : Type 0 where
  pub image : Image
  pub in_range : IsInRange image
  pub front : Result CUnit SourceFault
  pub answers : IsFrontAnswer image.source front
  pub due : ◌≡◌ {A = Result ImageSystem AcceptFault} (Ok s) (accept_answer layer_image image front)
  pub text : List ℕ
  pub valid : schedule_of text ≡ Ok rows

none_runs : {X : Type 0} (x : X) → None ≡ Some x → ⊥
none_runs x e = cc

same_some : {X : Type 0} (x y : X) → Some x ≡ Some y → x ≡ y
same_some x y e = cc

abbrev source_in : Result Image LinkFault → List ℕ
source_in (Ok i) = i.source
source_in (Err f) = []

-- bytes are below 256
index_byte : (bs : List ℕ) (i : ℕ) → All IsByte bs → slice_index bs i < 256
index_byte [] i h = omega arith
index_byte (b ∷ bs) zero h = All-head IsByte b bs h
index_byte (b ∷ bs) (suc i) h = index_byte bs i (All-tail IsByte b bs h)

-- words as bytes
word_bytes : (n : ℕ) → All IsByte (word n)
unfolding word
word_bytes n = All-from_recursion IsByte (word n) (omega arith, (omega arith, (omega arith, (omega arith, tt))))

words_bytes : (ws : List ℕ) → All IsByte (flat_map word ws)
words_bytes [] = All-nil IsByte
words_bytes (w ∷ ws) = All-append IsByte (word w) (flat_map word ws) (word_bytes w) (words_bytes ws)

lists_bytes : (ls : List (List ℕ)) → All IsByte (flat_map (flat_map word) ls)
lists_bytes [] = All-nil IsByte
lists_bytes (l ∷ ls) = All-append IsByte (flat_map word l) (flat_map (flat_map word) ls) (words_bytes l) (lists_bytes ls)

all_below : (n : ℕ) (xs : List ℕ) → list_all (λ x. nat_lt x n) xs ≡ true → All (λ x. x < n) xs
all_below n [] e = All-nil (λ x. x < n)
all_below n (x ∷ xs) e =
    let p = and_parts (nat_lt x n) (list_all (λ y. nat_lt y n) xs) e in
    All-cons (λ y. y < n) x xs (ltb-true x n p.0) (all_below n xs p.1)

decimal_bytes : (n : ℕ) → n < 2 ^ 64 → All IsByte (decimal n)
decimal_bytes n small = All-weaker (λ b. b < 128) IsByte (λ b h. omega (arith, h)) (decimal n) (All-from_ascii (decimal n) (IsAscii-decimal n small))

image_bytes_are : (i : Image) → All IsByte i.source → All IsByte (spelling i)
image_bytes_are i h =
    All-append IsByte (codes "CVMI") _ (all_below 256 (codes "CVMI") refl) (All-append IsByte (flat_map word (fields i)) _ (words_bytes (fields i))
    (All-append IsByte i.source _ h (All-append IsByte (flat_map word i.words) _ (words_bytes i.words) (lists_bytes i.users))))

-- the source of a sample is one of bytes
pattern_bytes : All IsByte pattern
unfolding pattern
pattern_bytes = all_below 256 pattern refl

filled_bytes : (users base : ℕ) → users < 2 ^ 64 → base < 2 ^ 64 → (text : List ℕ) → All IsByte text → All IsByte (filled_pattern users base text)
filled_bytes users base u b [] h = All-nil IsByte
filled_bytes users base u b (c ∷ text) h =
    All-append IsByte (filled_byte users base c) (filled_pattern users base text) (by (c == 85) (c == 75)) (filled_bytes users base u b text (All-tail IsByte c text h))
  where
    by : (x y : Bool) → All IsByte (if x then decimal users else (if y then decimal base else c ∷ []))
    by true y = decimal_bytes users u
    by false true = decimal_bytes base b
    by false false = All-cons IsByte c [] (All-head IsByte c text h) (All-nil IsByte)

sample_bytes : (number : ℕ) → All IsByte (sample_of number).source
unfolding sample_of
sample_bytes number = filled_bytes (user_count number) (base_of number) (omega arith) (omega arith) pattern pattern_bytes

module _ (read : AnswersAreSpelled image_of IsInRange) (s : ImageSystem) (rows : Rows) where
  -- by what an image and a schedule were read as
  accepted_by : (session : Session) (bytes text : List ℕ) → All IsByte bytes → (r : Result Image ImageFault) → image_of bytes ≡ r → (v : Result Rows ScheduleFault) → schedule_of text ≡ v →
      (answer : Result ImageSystem AcceptFault) → Answered (accept_answer layer_image) r answer → RunsThese s rows (accepted_plan session v answer) → IsAccepted s rows
  accepted_by session bytes text h (Err f) is v valid (Ok t) a these = absurd (cc)
  accepted_by session bytes text h r is v valid (Err g) a these = absurd (none_runs s these.system)
  accepted_by session bytes text h (Ok i) is (Err f) valid (Ok t) a these = absurd (none_runs s these.system)
  accepted_by session bytes text h (Ok i) is (Ok q) valid (Ok t) a these = record {
    image = i;
    in_range = (read bytes (λ k. index_byte bytes k h) i is).0;
    front = a.0;
    answers = a.1;
    due = subst (λ (y : ImageSystem). ◌≡◌ {A = Result ImageSystem AcceptFault} (Ok y) (accept_answer layer_image i a.0)) (same_some t s these.system) a.2;
    text = text;
    valid = valid ∙ ap (λ (y : Rows). Ok y) (same_some q rows these.schedule);
  }

  after_files : (session : Session) (bytes text : List ℕ) (p : Plan) → All IsByte bytes → AfterFiles layer_image session bytes text p → RunsThese s rows p → IsAccepted s rows
  after_files session bytes text p h w these =
      accepted_by session bytes text h (image_of bytes) refl (schedule_of text) refl w.0 w.1 (subst (λ (q : Plan). RunsThese s rows q) w.2 these)

  -- a file that was got is told
  got : (told : Option (List ℕ)) (next : List ℕ → Plan → Type 0) (p : Plan) → IsSome told → Got told next p → RunsThese s rows p → (bytes : List ℕ) × (told ≡ Some bytes) × next bytes p
  got told next p some (long bytes t l) these = absurd (none_runs s these.system)
  got told next p some (whole bytes _ t l n) these = (bytes, is_told told some t, n)
    where
      is_told : (o : Option (List ℕ)) → IsSome o → Tells o bytes → o ≡ Some bytes
      is_told None i t = absurd (cc)
      is_told (Some xs) i t = ap (λ (l : List ℕ). Some l) (sym t)

  bytes_of_told : (told : Option (List ℕ)) (bytes : List ℕ) → IfSome told (All IsByte) → told ≡ Some bytes → All IsByte bytes
  bytes_of_told told bytes h e = subst (λ (o : Option (List ℕ)). IfSome o (All IsByte)) e h

  module _ (file : List ℕ → Option (List ℕ)) where
    after_boot : (b : BootCommand) (session : Session) (p : Plan) → IfSome (file b.image) (All IsByte) → IsSome (file b.image) → IsSome (file b.schedule) → BootPlan layer_image file b session p → RunsThese s rows p → IsAccepted s rows
    after_boot b session p bytes i j w these =
        let one = got (file b.image) _ p i w these in
        let two = got (file b.schedule) _ p j one.2 these in
        after_files session one.0 two.0 p (bytes_of_told (file b.image) one.0 bytes one.1) two.2 these

    unsaved : (name : List ℕ) (q : Plan) → RunsThese s rows (saved_plan name q) → RunsThese s rows q
    unsaved name bad_words t = t
    unsaved name (refuses r) t = t
    unsaved name (puts n b) t = t
    unsaved name (tells text) t = t
    unsaved name (saves d x r n) t = t
    unsaved name (resumes d x r w) t = t
    unsaved name (boots d x r) t = by (nat_lt FILE_ROOM (most_bytes x)) t
      where
        by : (b : Bool) → RunsThese s rows (if b then refuses (bad_save (FileTooLarge (most_bytes x))) else saves d x r name) → RunsThese s rows (boots d x r)
        by true t = absurd (none_runs s t.system)
        by false t = record { system = t.system; schedule = t.schedule }

    untaken : (bytes : List ℕ) (q : Plan) → RunsThese s rows (take_up_plan bytes q) → RunsThese s rows q
    untaken bytes bad_words t = t
    untaken bytes (refuses r) t = t
    untaken bytes (puts n b) t = t
    untaken bytes (tells text) t = t
    untaken bytes (saves d x r n) t = t
    untaken bytes (resumes d x r w) t = t
    untaken bytes (boots d x r) t = by _ t
      where
        by : (a : Result (List ℕ) SaveFault) → RunsThese s rows (taken_plan d x r a) → RunsThese s rows (boots d x r)
        by (Ok words) t = record { system = t.system; schedule = t.schedule }
        by (Err f) t = absurd (none_runs s t.system)

  -- what only puts or refuses runs nothing
  no_text : (name text : List ℕ) (p : Plan) → AfterText name text p → RunsThese s rows p → ⊥
  no_text name text p (no_words f e) t = none_runs s t.system
  no_text name text p (assembles words e) t = none_runs s t.system

  no_code : (program : Program) (due : CUnit → Plan) (source : List ℕ) (p : Plan) → ((u : CUnit) → RunsThese s rows (due u) → ⊥) → AfterCode program due source p → RunsThese s rows p → ⊥
  no_code program due source p never (front, is, e) t = by front (subst (λ (q : Plan). RunsThese s rows q) e t)
    where
      by : (r : Result CUnit SourceFault) → RunsThese s rows (planned bad_source due r) → ⊥
      by (Ok u) t = never u t
      by (Err f) t = none_runs s t.system

  no_program : (b : Bool) (r : Refusal) (name bytes : List ℕ) → RunsThese s rows (if b then refuses r else puts name bytes) → ⊥
  no_program true r name bytes t = none_runs s t.system
  no_program false r name bytes t = none_runs s t.system

  no_link : (name : List ℕ) (a : Result Image LinkFault) → RunsThese s rows (linked_plan name a) → ⊥
  no_link name (Ok i) t = none_runs s t.system
  no_link name (Err f) t = none_runs s t.system

  no_parts : (name : List ℕ) (o : Object) (params : Params) (users : List (List ℕ)) (p : Plan) → AfterParts layer_image name o params users p → RunsThese s rows p → ⊥
  no_parts name o params users p (unfit f e) t = none_runs s t.system
  no_parts name o params users p (answered front w) t = no_link name _ t

  refused : (p q : Plan) → p ≡ q → system_in q ≡ None → RunsThese s rows p → ⊥
  refused p q e n t = none_runs s (sym n ∙ sym (ap system_in e) ∙ t.system)

  no_users : (name : List ℕ) (o : Object) (params : Params) (r : Result (List (List ℕ)) FileFault) (p : Plan) → AfterUsers layer_image name o params r p → RunsThese s rows p → ⊥
  no_users name o params (Ok users) p w t = no_parts name o params users p w t
  no_users name o params (Err f) p w t = refused p _ w refl t

  no_params : (name : List ℕ) (o : Object) (users : List (List ℕ)) (r : Result Params FileFault) (p : Plan) → AfterParams layer_image name o users r p → RunsThese s rows p → ⊥
  no_params name o users (Ok params) p w t = no_users name o params _ p w t
  no_params name o users (Err f) p w t = refused p _ w refl t

  no_system : (name object params : List ℕ) (users : List (List ℕ)) (p : Plan) → AfterSystem layer_image name object params users p → RunsThese s rows p → ⊥
  no_system name object params users p (no_object f w) t = none_runs s t.system
  no_system name object params users p (has_object o _ w n) t = no_params name o users _ p n t

  no_got : (told : Option (List ℕ)) (next : List ℕ → Plan → Type 0) (p : Plan) → ((bytes : List ℕ) → next bytes p → RunsThese s rows p → ⊥) → Got told next p → RunsThese s rows p → ⊥
  no_got told next p never (long bytes t l) these = none_runs s these.system
  no_got told next p never (whole bytes _ t l n) these = never bytes n these

  no_all : (file : List ℕ → Option (List ℕ)) (names : List (List ℕ)) (next : List (List ℕ) → Plan → Type 0) (p : Plan) → ((all : List (List ℕ)) → next all p → RunsThese s rows p → ⊥) →
      GotAll file names next p → RunsThese s rows p → ⊥
  no_all file [] next p never w t = never [] w t
  no_all file (name ∷ names) next p never w t = no_got (file name) _ p (λ bytes n. no_all file names (λ all. next (bytes ∷ all)) p (λ all. never (bytes ∷ all)) n) w t

  no_renewed : (name : List ℕ) (a : Result Image AcceptFault) → RunsThese s rows (renewed_plan name a) → ⊥
  no_renewed name (Ok i) t = none_runs s t.system
  no_renewed name (Err f) t = none_runs s t.system

  no_told : (told : CheckTold) → RunsThese s rows (told_plan told) → ⊥
  no_told (Ok text) t = none_runs s t.system
  no_told (Err r) t = none_runs s t.system

  -- a sample's image has its source
  linked_source : (o : Object) (params : Params) (users : List (List ℕ)) (front : Result CUnit SourceFault) (i : Image) → link_answer layer_image o params users front ≡ Ok i → i.source ≡ o.source
  unfolding link_answer
  linked_source o params users front i e = by (fitting params users) (open_answer o front) e
    where
      by : (a : Result (Unit {0}) LinkFault) (b : Result CUnit LinkFault) →
          (a >>= λ fit. b >>= λ u. Ok (record { params = params; form = 3; source = o.source; words = linked layer_image u params (sizes_of users); users = users })) ≡ Ok i → i.source ≡ o.source
      by (Ok x) (Ok u) e = sym (ap source_in e)
      by (Ok x) (Err f) e = absurd (cc)
      by (Err f) b e = absurd (cc)

  object_source : (source : List ℕ) (u : CUnit) → (object_of source u).source ≡ source
  unfolding object_of
  object_source source u = refl

  after_sample : (number : ℕ) (p : Plan) → PartsPlan layer_image sample_session (sample_of number) p → RunsThese s rows p → IsAccepted s rows
  after_sample number p w these = by w.0 w.2
    where
      parts : Sampled
      parts = sample_of number

      by_image : (u : CUnit) (a : Result Image LinkFault) → link_answer layer_image (object_of parts.source u) parts.params parts.users (Ok u) ≡ a →
          AfterLinking layer_image sample_session parts.schedule a p → IsAccepted s rows
      by_image u (Ok i) is w = after_files sample_session (spelling i) parts.schedule p
          (image_bytes_are i (subst (λ (l : List ℕ). All IsByte l) (sym (linked_source (object_of parts.source u) parts.params parts.users (Ok u) i is ∙ object_source parts.source u)) (sample_bytes number))) w these
      by_image u (Err f) is w = absurd (refused p _ w refl these)

      by : (front : Result CUnit SourceFault) → AfterSource layer_image sample_session parts front p → IsAccepted s rows
      by (Ok u) w = by_image u _ refl w
      by (Err f) w = absurd (refused p _ w refl these)

  pub accepted_of : (words : List (List ℕ)) (file : List ℕ → Option (List ℕ)) → ((c : Command) → IsCommand words c → AreBytes file (files_of c)) → AllTold words file → (session : Session) (p : Plan) → PlanComesTo words file p → IsOf session s rows p → IsAccepted s rows
  accepted_of words file bytes told session p w is = by p w (these_of session s rows p is)
    where
      by : (p : Plan) → PlanComesTo words file p → RunsThese s rows p → IsAccepted s rows
      by p (no_command n) t = absurd (none_runs s t.system)
      by p (by_command (boot b) _ k g) t = let h = told (boot b) k in after_boot file b _ p (bytes (boot b) k).0 h.0 h.1.0 g t
      by p (by_command (trace b) _ k g) t = let h = told (trace b) k in after_boot file b.boot _ p (bytes (trace b) k).0 h.0 h.1.0 g t
      by p (by_command (save b) _ k g) t = let h = told (save b) k in
          after_boot file b.boot _ g.0 (bytes (save b) k).0 h.0 h.1.0 g.1 (unsaved file b.file g.0 (subst (λ (q : Plan). RunsThese s rows q) g.2 t))
      by p (by_command (resume b) _ k g) t =
          let h = told (resume b) k in
          let one = got (file b.boot.image) _ p h.0 g t in
          let two = got (file b.boot.schedule) _ p h.1.0 one.2 t in
          let three = got (file b.file) _ p h.1.1.0 two.2 t in
          let q = three.2 in
          after_files _ one.0 two.0 q.0 (bytes_of_told (file b.boot.image) one.0 (bytes (resume b) k).0 one.1) q.1 (untaken file three.0 q.0 (subst (λ (q : Plan). RunsThese s rows q) q.2 t))
      by p (by_command (compile_user c) _ k g) t = absurd (no_got _ _ p (λ b n. no_text c.image b p n) g t)
      by p (by_command (compile_kernel c) _ k g) t = absurd (no_got _ _ p (λ b n. no_code _ _ b p (λ u t. none_runs s t.system) n) g t)
      by p (by_command (compile_program c) _ k g) t = absurd (no_got _ _ p (λ b n. no_code _ _ b p (λ u t. no_program _ _ _ _ t) n) g t)
      by p (by_command (link l) _ k g) t = absurd (no_got _ _ p (λ o n. no_got _ _ p (λ q m. no_all file l.users _ p (λ all. no_system l.image o q all p) m) n) g t)
      by p (by_command (migrate m) _ k g) t = absurd (no_got _ _ p (λ b n t. no_renewed m.image n.0 (subst (λ (q : Plan). RunsThese s rows q) n.2 t)) g t)
      by p (by_command (sample x) _ k g) t = after_sample x.number p g t
      by p (by_command (check c) _ k g) t = absurd (no_got _ _ p (λ b n t. no_told n.0 (subst (λ (q : Plan). RunsThese s rows q) n.2 t)) g t)
