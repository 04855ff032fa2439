-- Where a check said `yes`, the words of the longest chain of calls are at most those of the stack; and an accepted image of the object's source has
-- the unit that was checked. So no run of its system stops for want of stack.
use Rattle.std.proofs.Common.{◌≡◌, Bool, true, false, ℕ, zero, suc, ◌<◌, ◌≤◌, List, [], ◌∷◌, ◌++◌, refl, sym, ap, ◌∙◌, subst, arith, append_assoc, Some, Ok, Err}
use Rattle.std.specs.Prelude.{Option, Result, take, drop, nat_le, if◌then◌else◌, decimal, codes, slice_index}
use Rattle.std.proofs.lemmas.Bool.Decides.{nat_tests}
use Rattle.std.specs.Io.KnownBytes.{append_known}
use Rattle.cvm_outside.specs.Told.{Tells}
use Rattle.cvm_outside.specs.Outside.{Outside, Output}
use Rattle.cvm_outside.specs.Script.{Call, Who, TheShelf, Performs, done as all_done, breaks, goes_on}
use Rattle.cvm_outside.specs.ScriptLaws.{ScriptsBlame}
use Rattle.cvm_outside.proofs.PartsMakeTheWhole.{append_known-nil}
use Rattle.layer_map.specs.Map.{Map}
use Rattle.c0_tree.specs.Tree.{CUnit}
use Rattle.c0_types.specs.Front.{IsFrontAnswer}
use Rattle.c0_types.specs.declared.source_fault.SourceFault.{SourceFault}
use Rattle.c0_types.specs.declared.source_fault.SourceFault.TheVariants.{Reading, Typing}
use Rattle.bound_check.specs.Chains.{IsLongest}
use Rattle.bound_check.specs.Text.{names_text}
use Rattle.bound_check.specs.Kept.{LongestIsKept}
use Rattle.object_file.specs.Answer.{IsObjectAnswer as IsObject}
use Rattle.object_file.specs.Parts.{ObjectParts as Object}
use Rattle.object_file.specs.declared.fault.ObjectFault.{ObjectFault}
use Rattle.boot_image.specs.Parts.{ImageParts as Image}
use Rattle.real_layer.specs.Image.{layer_image}
use Rattle.cvm_model.specs.KernelMeaning.{kernel_meaning}
use Rattle.kernel_linker.specs.Linked.{linked, sizes_of}
use Rattle.cvm_words.specs.Reading.{◌>>=◌}
use Rattle.kernel_linker.specs.Accept.{ImageSystem, words_match, accept_answer}
use Rattle.kernel_linker.specs.Open.{open_answer}
use Rattle.kernel_linker.specs.Laws.{OpenedUnitsAreTheirSources}
use Rattle.kernel_linker.specs.declared.fault.AcceptFault.{AcceptFault}
use Rattle.kernel_linker.specs.declared.fault.LinkFault.{LinkFault}
use Rattle.run_scripts.specs.declared.exit_status.Status.{Status}
use Rattle.run_scripts.specs.Check.{CheckTold, TellsUnit, has_longest, has_loop, TellsOpened, TellsObject, no_object, has_object}
use Rattle.run_scripts.specs.Command.{check}
use Rattle.run_scripts.specs.Refusal as refusal
use Rattle.run_scripts.specs.Refusal.{Refusal, refusal_text}
use Rattle.run_scripts.specs.Plan.{Plan, Got, long, whole, told_plan, AfterChecked}
use Rattle.run_scripts.specs.Boot.{booted}
use Rattle.run_scripts.specs.Suffices.{HasStack, SaysYes, SystemNeverOut}
use Rattle.boot_run.specs.Closing.{says}
use Rattle.run_scripts.specs.Ends.{PlanAsks, done, no_file, no_memory}
use Rattle.run_scripts.specs.Served.{files_of, gets}
use Rattle.run_scripts.specs.Promises.{YesIsEnough}
use Rattle.run_scripts.proofs.BrokenScripts.{nothing_moves}
use Rattle.run_scripts.proofs.StatusesCaused.{mid_disk}
use Rattle.run_scripts.proofs.GetsKeep.{wanted}
use Rattle.run_scripts.proofs.OneCommand.{its_plan}

-- that a source, and an object's bytes, have one answer
abbrev pub OneAnswer : Type 0
OneAnswer = (source : List ℕ) (a b : Result CUnit SourceFault) → IsFrontAnswer source a → IsFrontAnswer source b → a ≡ b

abbrev pub OneObject : Type 0
OneObject = (bytes : List ℕ) (a b : Result Object ObjectFault) → IsObject bytes a → IsObject bytes b → a ≡ b

-- WHAT WAS PRINTED is the text that was told, or a first part of it.

-- behind what stood there
behind : (before a b : List ℕ) → before ++ a ≡ before ++ b → a ≡ b
behind [] a b e = e
behind (x ∷ before) a b e = behind before a b cc

one_text : (told : Option (List ℕ)) (before text rest : List ℕ) → told ≡ Some before → append_known told text ≡ Some (before ++ rest) → text ≡ rest
one_text told before text rest e h =
    let all : Some (before ++ text) ≡ Some (before ++ rest) = sym (ap (λ (o : Option (List ℕ)). append_known o text) e) ∙ h in
    behind before text rest cc

parts : (n : ℕ) (text : List ℕ) → text ≡ take n text ++ drop n text
parts zero text = refl
parts (suc n) [] = refl
parts (suc n) (x ∷ text) = ap (λ (t : List ℕ). x ∷ t) (parts n text)

-- if it begins with `yes`, so does the row that was to be printed
said_yes : (row : List ℕ) (old new : Outside) (b : Option Who) (before rest : List ℕ) → old.sink.text ≡ Some before → new.sink.text ≡ Some (before ++ (codes "yes " ++ rest)) → Performs (says row) old new b →
    (more : List ℕ) × (row ≡ codes "yes " ++ more)
said_yes row old new b before rest told print (breaks c r _ _ f) =
    let first : take f.0.0 row ≡ codes "yes " ++ rest = one_text old.sink.text before (take f.0.0 row) (codes "yes " ++ rest) told (sym f.0.1 ∙ print) in
    (rest ++ drop f.0.0 row, parts f.0.0 row ∙ ap (λ (t : List ℕ). t ++ drop f.0.0 row) first ∙ append_assoc (codes "yes ") rest (drop f.0.0 row))
said_yes row old new b before rest told print (goes_on c r _ mid _ _ d p) =
    let last : new.sink.text ≡ append_known old.sink.text row = ap (λ (o : Outside). o.sink.text) (nothing_moves mid new b p) ∙ d.0 in
    (rest, one_text old.sink.text before row (codes "yes " ++ rest) told (sym last ∙ print))

other_letter : (n : ℕ) (a b : List ℕ) → a ≡ b → slice_index a 0 ≡ n → slice_index b 0 ≡ 121 → n < 121 → ⊥
other_letter n a b e first y less = let same = ap (λ (text : List ℕ). slice_index text 0) e in omega arith

-- the row of a refusal begins with `refused`
begins_other : (r : Refusal) → slice_index (refusal_text r) 0 ≡ 114
begins_other (refusal.bad_source (Reading f)) = refl
begins_other (refusal.bad_source (Typing f)) = refl
begins_other r = refl

not_refused : (r : Refusal) (more : List ℕ) → refusal_text r ≡ codes "yes " ++ more → ⊥
not_refused r more e = other_letter 114 (refusal_text r) (codes "yes " ++ more) e (begins_other r) refl (omega arith)

-- where nothing was printed, nothing begins with `yes`
not_nothing : (told : Option (List ℕ)) (before rest : List ℕ) → told ≡ Some before → told ≡ Some (before ++ (codes "yes " ++ rest)) → ⊥
not_nothing told before rest e print =
    other_letter 0 [] (codes "yes " ++ rest) (one_text told before [] (codes "yes " ++ rest) e (append_known-nil told ∙ print)) refl refl (omega arith)

-- A TEXT THAT BEGINS WITH `yes` tells that the longest chain has room.
has_room : (b : Bool) (words stack : ℕ) (rest number names end : List ℕ) → b ≡ nat_le words stack
    → (if b then codes "yes " else codes "no ") ++ number ++ codes "\nchain" ++ names ++ end ≡ codes "yes " ++ rest → words ≤ stack
has_room true words stack rest number names end e h = grind (arith, nat_tests)
has_room false words stack rest number names end e h = absurd (other_letter 110 (codes "no " ++ number ++ codes "\nchain" ++ names ++ end) (codes "yes " ++ rest) h refl refl (omega arith))

record Roomy (stack : ℕ) (u : CUnit) : Type 0 where
  words : ℕ
  functions : List ℕ
  longest : IsLongest u words functions
  room : words ≤ stack

says_room : (stack : ℕ) (u : CUnit) (text rest : List ℕ) → TellsUnit stack u text → text ≡ codes "yes " ++ rest → Roomy stack u
says_room stack u text rest (has_longest words functions l) e = record {
  words = words;
  functions = functions;
  longest = l;
  room = has_room (nat_le words stack) words stack rest (decimal words) (names_text u functions) (codes "\n") refl e;
}
says_room stack u text rest (has_loop functions l) e = absurd (other_letter 110 text (codes "yes " ++ rest) e refl refl (omega arith))

-- THE UNIT that was told of is that of the object's source
opened_room : (stack : ℕ) (opened : Result CUnit LinkFault) (text rest : List ℕ) → TellsOpened stack opened (Ok text) → text ≡ codes "yes " ++ rest → (u : CUnit) × (opened ≡ Ok u) × Roomy stack u
opened_room stack (Ok u) text rest h e = (u, refl, says_room stack u text rest h e)
opened_room stack (Err f) text rest h e = absurd h

told_room : OneObject → OpenedUnitsAreTheirSources → (stack : ℕ) (bytes : List ℕ) (o : Object) (told : CheckTold) (text rest : List ℕ) → IsObject bytes (Ok o) → told ≡ Ok text → text ≡ codes "yes " ++ rest → TellsObject stack bytes told
    → (u : CUnit) × IsFrontAnswer o.source (Ok u) × Roomy stack u
told_room read law stack bytes o told text rest is e yes_there (no_object f other) = absurd cc
told_room read law stack bytes o told text rest is e yes_there (has_object p front tale other of h) =
    let (u, opened, room) = opened_room stack (open_answer p front) text rest (subst (TellsOpened stack (open_answer p front)) e h) yes_there in
    let same : p ≡ o = let d = read bytes (Ok p) (Ok o) other is in cc in
    let found : front ≡ Ok u = law p front u opened in
    (u, subst (λ (x : Object). IsFrontAnswer x.source (Ok u)) same (subst (IsFrontAnswer p.source) found of), room)

-- the file of the words
told_bytes : (file : Option (List ℕ)) (bytes other : List ℕ) → file ≡ Some bytes → Tells file other → other ≡ bytes
told_bytes file bytes other e h = let P : Option (List ℕ) → Type 0 = λ o. Tells o other in subst P e h

-- it tells a text that begins so
record Begun (told : CheckTold) : Type 0 where
  text : List ℕ
  is : told ≡ Ok text
  more : List ℕ
  begins : text ≡ codes "yes " ++ more

begun : (told : CheckTold) (old new : Outside) (script : List Call) (due : Status) (b : Option Who) (before rest : List ℕ) → old.sink.text ≡ Some before → new.sink.text ≡ Some (before ++ (codes "yes " ++ rest)) →
    PlanAsks (told_plan told) old script due → Performs script old new b → Begun told
begun (Ok text) old new script due b before rest stood print asks p =
    let (more, e) = said_yes text old new b before rest stood print (subst (λ (a : List Call). Performs a old new b) asks.0 p) in
    record { text = text; is = refl; more = more; begins = e }
begun (Err r) old new script due b before rest stood print asks p =
    let (more, e) = said_yes (refusal_text r) old new b before rest stood print (subst (λ (a : List Call). Performs a old new b) asks.0 p) in
    absurd (not_refused r more e)

room_of : OneObject → OpenedUnitsAreTheirSources → (words : List (List ℕ)) (source : List ℕ) (stack : ℕ) (old new mid : Outside) (y : SaysYes words source stack old new) (p : Plan) (script : List Call) (due : Status) (b : Option Who) →
    mid.sink ≡ old.sink → Got (old.shelf.file y.check.object) (AfterChecked y.check.stack) p → PlanAsks p mid script due → Performs script mid new b → (u : CUnit) × IsFrontAnswer y.object.source (Ok u) × Roomy y.check.stack u
room_of read law words source stack old new mid y p script due b same (long bytes t many) asks q =
    let (more, e) = said_yes (refusal_text refusal.too_long) mid new b y.before y.rest (ap (λ (o : Output). o.text) same ∙ y.before_told) y.printed (subst (λ (a : List Call). Performs a mid new b) asks.0 q) in
    absurd (not_refused refusal.too_long more e)
room_of read law words source stack old new mid y p script due b same (whole bytes r t short (told, row, e)) asks q =
    let P : Plan → Type 0 = λ z. PlanAsks z mid script due in
    let g = begun told mid new script due b y.before y.rest (ap (λ (o : Output). o.text) same ∙ y.before_told) y.printed (subst P e asks) q in
    told_room read law y.check.stack y.bytes y.object told g.text g.more y.object_is g.is g.begins (subst (λ (bs : List ℕ). TellsObject y.check.stack bs told) (told_bytes (old.shelf.file y.check.object) y.bytes bytes y.bytes_told t) row)

-- THE SYSTEM of an accepted image has the unit of its source
through : (c : Result (Unit {0}) AcceptFault) (r s : ImageSystem) → Ok s ≡ (c >>= λ same. Ok r) → r ≡ s
through (Ok x) r s e = cc
through (Err f) r s e = absurd cc

accepted_unit : (layer : Map → List ℕ → List ℕ) (i : Image) (front : Result CUnit SourceFault) (s : ImageSystem) → Ok s ≡ accept_answer layer i front → front ≡ Ok s.unit
unfolding accept_answer
accepted_unit layer i (Err f) s e = absurd cc
accepted_unit layer i (Ok u) s e =
    ap (λ (x : ImageSystem). Ok x.unit) (through (words_match i (linked layer u i.params (sizes_of i.users))) (record { params = i.params; unit = u; words = linked layer u i.params (sizes_of i.users); users = i.users }) s e)

system_unit : OneAnswer → (source : List ℕ) (stack : ℕ) (s : ImageSystem) (u : CUnit) → IsFrontAnswer source (Ok u) → HasStack source stack s → s.unit ≡ u
system_unit one source stack s u is has =
    let (front, of, e) = has.accepted in
    let mine : front ≡ Ok s.unit = accepted_unit layer_image has.image front s e in
    let theirs : front ≡ Ok u = one source front (Ok u) (subst (λ (x : List ℕ). IsFrontAnswer x front) has.source_is of) is in
    let same : Ok s.unit ≡ Ok u = sym mine ∙ theirs in
    cc

-- THE STACK IS ENOUGH
never_out : LongestIsKept → (stack : ℕ) (u : CUnit) (s : ImageSystem) → Roomy stack u → s.unit ≡ u → stack ≤ s.params.stack → SystemNeverOut s
never_out law stack u s r same enough rows lines k c is =
    let room : r.words ≤ s.params.stack = let a = r.room in omega (arith, a, enough) in
    law u r.words r.functions (booted s rows) r.longest (ap (λ (x : CUnit). kernel_meaning x s.params) same) room lines k c is

-- gets print nothing
gets_print : (names : List (List ℕ)) (old new : Outside) (b : Option Who) → Performs (gets names) old new b → new.sink ≡ old.sink
gets_print [] old new b (all_done _) = refl
gets_print (name ∷ names) old new b (breaks c rest _ _ f) = ap (λ (o : Outside). o.sink) f.2
gets_print (name ∷ names) old new b (goes_on c rest _ mid _ _ d p) = gets_print names mid new b p ∙ ap (λ (o : Outside). o.sink) d.3

pub yes_is_enough : ScriptsBlame → OneAnswer → OneObject → OpenedUnitsAreTheirSources → LongestIsKept → YesIsEnough
yes_is_enough blame one read opened law words old new status (done _ h) source stack s y has =
    let (u, is, room) = room_of read opened words source stack old new h.mid y h.plan h.script h.due h.blamed (mid_disk blame words old new status h).1
    (its_plan words old.shelf.file (check y.check) h.plan y.asked h.is_plan.comes) h.asks h.performs in
    let enough : y.check.stack ≤ s.params.stack = subst (λ (n : ℕ). n ≤ s.params.stack) y.stack_is has.enough in
    never_out law y.check.stack u s room (system_unit one source stack s u (subst (λ (x : List ℕ). IsFrontAnswer x (Ok u)) (sym y.source_is) is) has) enough
yes_is_enough blame one read opened law words old new status (no_file c i f) source stack s y has =
    absurd (not_nothing old.sink.text y.before y.rest y.before_told (sym (ap (λ (o : Output). o.text) (gets_print (f.before ++ f.name ∷ []) old new (Some TheShelf) f.performs)) ∙ y.printed))
yes_is_enough blame one read opened law words old new status (no_memory c i w) source stack s y has =
    absurd (not_nothing old.sink.text y.before y.rest y.before_told (sym (ap (λ (o : Output). o.text) (wanted (files_of c) old new w).sink) ∙ y.printed))
