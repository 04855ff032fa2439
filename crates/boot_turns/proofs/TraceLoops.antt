-- What the loop keeps of a trace: what one step makes of it, and how far it is at each step of the loop.
use Rattle.std.proofs.Common.{◌≡◌, ℕ, suc, ◌+◌, ◌≤◌, Bool, Option, Some, None, Result, Ok, Err, List, [], ◌++◌, length, slice_index, refl, sym, ap, ap₂, ◌∙◌, subst, subst₂, arith}
use Rattle.std.specs.Prelude.{IfSome, MatchResult, true, false}
use Rattle.std.specs.Option.{option_map}
use Rattle.mips_table.specs.Device.{Environment}
use Rattle.mips_table.specs.Machine.{State, run, step}
use Rattle.mips_table.specs.Turns.{begins_turn, rests}
use Rattle.mips_machine.specs.Machine.{Held, state_of}
use Rattle.mips_machine.specs.Steps.{outside_of, script_of_step}
use Rattle.layer_map.specs.Map.{Map, MapInRange, current_at}
use Rattle.c0_tree.specs.Tree.{CUnit}
use Rattle.c0_meaning.specs.TypedState.{IsTypedState}
use Rattle.cvm_model.specs.Kernel.{JournalEntry}
use Rattle.cvm_model.specs.Cvm.{System, Running, map_of}
use Rattle.layer_contract.specs.Follows.{site_of}
use Rattle.boot_report.specs.Told.{WordsAreTold, WordsTell}
use Rattle.boot_turns.specs.declared.completion.Begun.{Begun}
use Rattle.boot_turns.specs.declared.completion.Stepped.{Stepped}
use Rattle.boot_turns.specs.declared.tracer.Entered.{Entered}
use Rattle.boot_turns.specs.declared.tracer.Tracer.{Tracer}
use Rattle.boot_turns.specs.declared.answers.RunFault.{RunFault}
use Rattle.boot_turns.specs.declared.answers.RunFault.TheVariants.{StepLimit, Disk, Sink}
use Rattle.boot_turns.specs.Completes.{state_seen}
use Rattle.boot_turns.specs.Premises.{StartsFrom}
use Rattle.boot_turns.specs.Entries.{step_entries, WordsAt, HasRows, ShowsMore, TracesGrow}
use Rattle.boot_turns.specs.Returns.{noted_call, notes_on, returned}
use Rattle.boot_turns.specs.JournalText.{steps_after, pending_steps, RowsFollow}
use Rattle.boot_turns.specs.Tracing.{followed, kept_after, ReturnTold, tracer_at, Traced, TracedOn, CutAt, Tracing, TraceRuns, UnlessFailed}
use Rattle.boot_turns.specs.Trace.{Shown}
use Rattle.boot_turns.specs.TraceSteps.{StepTraces}
use Rattle.boot_turns.specs.Runs.{Run, Past}
use Rattle.boot_turns.specs.StepScript.{step_script, steps_script}
use Rattle.boot_turns.specs.RowScripts.{ArePages, followed_script}
use Rattle.boot_turns.specs.LoopScripts.{traced_run}
use Rattle.cvm_outside.specs.Script.{Call}
use Rattle.page_model.specs.Paging.{Paged}
use Rattle.boot_turns.proofs.StepEvents.{told_as_some}
use Rattle.boot_turns.proofs.LoopSteps.{seen_more}
use Rattle.boot_turns.proofs.ShownRows.{scripts-one, rows_followed, followed_here, pages_for}

abbrev tracer_of : ℕ → ℕ → Option Entered → Tracer
tracer_of u n c = record { user = u; steps = n; call = c }

-- ONE STEP of the run, of which j was shown before it
module _ (f : RowsFollow) (x : Environment) (y : System) (s : State) (u t : ℕ) (kept : Option Tracer) (w : Traced x y s u t kept) (more : ShowsMore x y s u t w.journal) where
  abbrev entries : List JournalEntry
  entries = step_entries x s u t more.words

  step_kept : (after : Tracer) → after ≡ tracer_of u (steps_after (pending_steps w.journal) entries) (notes_on (run x s (suc t)) (noted_call x s t)) → Traced x y s u (suc t) (Some after)
  step_kept after is =
      let c : Option Entered = notes_on (run x s (suc t)) (noted_call x s t) in
      let counted : ◌≡◌ {A = Option Tracer} (Some (tracer_of u (steps_after (pending_steps w.journal) entries) c)) (Some (tracer_of u (pending_steps (w.journal ++ entries)) c)) =
      ap (λ (n : ℕ). Some (tracer_of u n c)) (sym (f.count w.journal entries)) in
      record { journal = w.journal ++ entries; shown = more.shown; keeps = ap (λ (k : Tracer). Some k) is ∙ counted }

-- what is followed are the entries of the step
followed_is : (x : Environment) (y : System) (s : State) (u t : ℕ) (j : List JournalEntry) (k : Tracer) → k ≡ tracer_at x s u t j → (now : State) → now ≡ run x s (suc t) →
    (current : ℕ) → current ≡ slice_index (run x s t).memory current_at → (began : Bool) → began ≡ begins_turn x (run x s t) → (words : List ℕ) → followed now k current began words ≡ step_entries x s u t words
followed_is x y s u t j k hk now hn current hc began hb words =
    let k' : Tracer = tracer_at x s u t j in
    let z : State = run x s (suc t) in
    let e : ℕ = slice_index (run x s t).memory current_at in
    ap (λ (k : Tracer). followed now k current began words) hk
    ∙ ap (λ (n : State). followed n k' current began words) hn
    ∙ ap (λ (c : ℕ). followed z k' c began words) hc
    ∙ ap (λ (b : Bool). followed z k' e b words) hb

-- where a primitive returns, the words that are shown are told
words_told : (x : Environment) (y : System) → WordsTell → MapInRange (site_of y.boot).map → (u : ℕ) → 1 ≤ u → u ≤ length y.boot.users → (held : Held) (ss : List (List ℕ)) (words : List ℕ) (o : Option Entered) →
    WordsAt x y u (state_of held ss) words o → ReturnTold (site_of y.boot).map (state_of held ss) u words o
words_told x y tell range u low high held ss words None h = tt
words_told x y tell range u low high held ss words (Some e) (core, stands, is, placed) =
    let many : length core.users ≡ length y.boot.users = stands.whole.users in
    let told = tell x (site_of y.boot) held ss Running core u range stands (low, omega (arith, many, high)) in
    (subst (WordsAreTold (site_of y.boot).map (state_of held ss) u) (sym is) told, placed)

-- A run from a start in which a machine stands at step t, and one of its users who is traced.
pub record Booted (x : Environment) (m : Map) (now : Option State) (kept : Option Tracer) : Type 0 where
  pub unit : CUnit
  pub y : System
  pub s : State
  pub late : ℕ
  pub held : ℕ
  pub u : ℕ
  pub t : ℕ
  pub from : StartsFrom (IsTypedState unit) x y s late held
  pub map_is : m ≡ (site_of y.boot).map
  pub low : 1 ≤ u
  pub high : u ≤ length y.boot.users
  pub at : now ≡ Some (run x s t)
  pub traced : Traced x y s u t kept

-- the clause on a step is of each such run
pub each_step : (x : Environment) (m : Map) (held : Held) (told : Option (List (List ℕ))) (before after : Option Tracer) (result : Result Stepped RunFault) →
    ((b : Booted x m (state_seen told held) before) → MatchResult result (λ _. Traced x b.y b.s b.u (suc b.t) after) (λ fault. fault ≡ Sink → rests (run x b.s (suc b.t)) ≡ false)) → StepTraces x m held told before after result
each_step x m held told before after result f = λ unit y s late limit u t from map_is low high at traced.
    f (record { unit = unit; y = y; s = s; late = late; held = limit; u = u; t = t; from = from; map_is = map_is; low = low; high = high; at = at; traced = traced })

-- a fault of the disk, of which nothing is to be said
pub step_broke : (x : Environment) (m : Map) (held : Held) (told : Option (List (List ℕ))) (before after : Option Tracer) (result : Result Stepped RunFault) (e : RunFault) → result ≡ Err e → (e ≡ Sink → ⊥) → StepTraces x m held told before after result
step_broke x m held told before after result e is disk = rw is (each_step x m held told before after (Err e) (λ b sink. absurd (disk sink)))

-- rows hang on no sector
rows_seen : (a : Held) (ss : List (List ℕ)) (noted : Option Entered) (began : Bool) → HasRows (state_of a []) noted began → HasRows (state_of a ss) noted began
rows_seen a ss noted true h = h
rows_seen a ss None false h = h
rows_seen a ss (Some e) false h = h

same_some : {A : Type 0} (a b : A) → Some a ≡ Some b → a ≡ b
same_some a b h = cc

-- the script of one step
pub steps_one : (r : Run) (p : Past) (t : ℕ) → steps_script r p t 1 ≡ step_script r p t
steps_one r p t = scripts-one (λ i. step_script r p (t + i)) ∙ (let e : t + 0 ≡ t = omega arith in ap (step_script r p) e)

-- THE STEP of the loop, on a machine that is on and of which a trace is printed
module _ (grow : (c : CUnit) → TracesGrow (IsTypedState c)) (f : RowsFollow) (tell : WordsTell) (x : Environment) (m : Map) (held : Held) (told : Option (List (List ℕ))) (k : Tracer) (on : held.hardware.off ≡ None) where
  abbrev Here : Type 0
  Here = Booted x m (state_seen told held) (Some k)

  more_at : (b : Here) → ShowsMore x b.y b.s b.u b.t b.traced.journal
  more_at b =
      let w = told_as_some told held (run x b.s b.t) b.at in
      let is_on : (run x b.s b.t).off ≡ None = ap (λ (s : State). s.off) (sym w.2) ∙ on in
      (grow b.unit x b.y b.s b.late b.held b.u b.from b.low b.high).more b.t b.traced.journal is_on b.traced.shown

  keeps_at : (b : Here) → k ≡ tracer_at x b.s b.u b.t b.traced.journal
  keeps_at b = same_some k (tracer_at x b.s b.u b.t b.traced.journal) b.traced.keeps

  -- the step was done
  module _ (mid : Held) (midtold : Option (List (List ℕ))) (ran : state_seen midtold mid ≡ option_map (step x) (state_seen told held)) (current : ℕ) (current_is : current ≡ slice_index held.hardware.memory current_at)
      (began : Bool) (began_is : IfSome (state_seen told held) (λ s. began ≡ begins_turn x s)) where
    told_at : (b : Here) → (ss : List (List ℕ)) × (midtold ≡ Some ss) × (state_of mid ss ≡ run x b.s (suc b.t))
    told_at b = told_as_some midtold mid (run x b.s (suc b.t)) (seen_more x (state_seen told held) (state_seen midtold mid) (run x b.s b.t) ran b.at)

    begun_at : (b : Here) → began ≡ begins_turn x (run x b.s b.t)
    begun_at b = subst (λ o. IfSome o (λ s. began ≡ begins_turn x s)) b.at began_is

    call_at : (b : Here) → k.call ≡ noted_call x b.s b.t
    call_at b = ap (λ (k : Tracer). k.call) (keeps_at b)

    -- a step in whose rows a call failed completes no turn
    pub step_cut : (before after : Option Tracer) (result : Result Stepped RunFault) (e : RunFault) → before ≡ Some k → result ≡ Err e → HasRows (state_of mid []) k.call began → StepTraces x m held told before after result
    step_cut before after result e hb is rows = rw (hb, is) (each_step x m held told (Some k) after (Err e) (λ (b : Here) sink.
        let w = told_as_some told held (run x b.s b.t) b.at in
        let is_on : (run x b.s b.t).off ≡ None = ap (λ (s : State). s.off) (sym w.2) ∙ on in
        let seen_there : HasRows (run x b.s (suc b.t)) k.call began = subst (λ z. HasRows z k.call began) (told_at b).2 (rows_seen mid (told_at b).0 k.call began rows) in
        (grow b.unit x b.y b.s b.late b.held b.u b.from b.low b.high).busy b.t is_on (subst₂ (HasRows (run x b.s (suc b.t))) (call_at b) (begun_at b) seen_there)))

    returns_at : (b : Here) → ReturnTold m (state_of mid (told_at b).0) k.user (more_at b).words (returned (state_of mid (told_at b).0) k.call)
    returns_at b =
        let ss : List (List ℕ) = (told_at b).0 in
        let words : List ℕ = (more_at b).words in
        let s : State = state_of mid ss in
        let kt : Tracer = tracer_at x b.s b.u b.t b.traced.journal in
        let there : WordsAt x b.y b.u s words (returned s kt.call) = subst (λ (s : State). WordsAt x b.y b.u s words (returned s kt.call)) (sym (told_at b).2) (more_at b).there in
        let of_map : ReturnTold (site_of b.y.boot).map s kt.user words (returned s kt.call) = words_told x b.y tell b.from.boots.fits.range b.u b.low b.high mid ss words (returned s kt.call) there in
        let of_user : ReturnTold (site_of b.y.boot).map s k.user words (returned s k.call) = subst (λ (k : Tracer). ReturnTold (site_of b.y.boot).map s k.user words (returned s k.call)) (sym (keeps_at b)) of_map in
        subst (λ (m : Map). ReturnTold m s k.user words (returned s k.call)) (sym b.map_is) of_user

    entries_at : (b : Here) → followed (state_of mid (told_at b).0) k current began (more_at b).words ≡ step_entries x b.s b.u b.t (more_at b).words
    entries_at b =
        let w = told_as_some told held (run x b.s b.t) b.at in
        let here : current ≡ slice_index (run x b.s b.t).memory current_at = current_is ∙ ap (λ (s : State). slice_index s.memory current_at) w.2 in
        followed_is x b.y b.s b.u b.t b.traced.journal k (keeps_at b) (state_of mid (told_at b).0) (told_at b).2 current here began (begun_at b) (more_at b).words

    -- what is kept after the step
    kept_at : (b : Here) →
        kept_after (state_of mid (told_at b).0) k current began (more_at b).words
        ≡ tracer_of b.u (steps_after (pending_steps b.traced.journal) (step_entries x b.s b.u b.t (more_at b).words)) (notes_on (run x b.s (suc b.t)) (noted_call x b.s b.t))
    kept_at b =
        let s : State = state_of mid (told_at b).0 in
        let kt : Tracer = tracer_at x b.s b.u b.t b.traced.journal in
        let entries : List JournalEntry = followed s k current began (more_at b).words in
        ap (λ (k : Tracer). tracer_of k.user (steps_after k.steps entries) (notes_on s k.call)) (keeps_at b)
        ∙ ap (λ (d : List JournalEntry). tracer_of kt.user (steps_after kt.steps d) (notes_on s kt.call)) (entries_at b)
        ∙ ap (λ (s : State). tracer_of kt.user (steps_after kt.steps (step_entries x b.s b.u b.t (more_at b).words)) (notes_on s kt.call)) (told_at b).2

    -- THE CALLS OF THE STEP: what the code makes of it is the script of the run's step
    returns_run : (b : Here) → ReturnTold (map_of b.y.boot) (run x b.s (suc b.t)) b.u (more_at b).words (returned (run x b.s (suc b.t)) (noted_call x b.s b.t))
    returns_run b =
        let ss : List (List ℕ) = (told_at b).0 in
        let words : List ℕ = (more_at b).words in
        let there : WordsAt x b.y b.u (state_of mid ss) words (returned (state_of mid ss) (noted_call x b.s b.t)) =
        subst (λ (s : State). WordsAt x b.y b.u s words (returned s (noted_call x b.s b.t))) (sym (told_at b).2) (more_at b).there in
        subst (λ (s : State). ReturnTold (map_of b.y.boot) s b.u words (returned s (noted_call x b.s b.t))) (told_at b).2
        (words_told x b.y tell b.from.boots.fits.range b.u b.low b.high mid ss words (returned (state_of mid ss) (noted_call x b.s b.t)) there)

    pub step_made : (b : Here) (p : Past) (turns steps : ℕ) → ((j : ℕ) → b.t ≤ j → j ≤ b.t + 1 → Shown x b.s b.y b.u j (p.shown j)) → (P : List Call → Type 0) →
        ((ss : List (List ℕ)) (pages : Option Paged) → ArePages midtold mid m pages → P (script_of_step x (state_of held ss) ++ followed_script m (state_of mid []) pages k current began)) →
        P (steps_script (traced_run x b.y b.s b.u turns steps) p b.t 1)
    step_made b p turns steps shown P h =
        let w = told_as_some told held (run x b.s b.t) b.at in
        let ss : List (List ℕ) = (told_at b).0 in
        let here : current ≡ slice_index (run x b.s b.t).memory current_at = current_is ∙ ap (λ (s : State). slice_index s.memory current_at) w.2 in
        let grows = grow b.unit x b.y b.s b.late b.held b.u b.from b.low b.high in
        let before : p.shown b.t ≡ b.traced.journal = grows.one b.t (p.shown b.t) b.traced.journal (shown b.t (omega arith) (omega arith)) b.traced.shown in
        let after : p.shown (suc b.t) ≡ b.traced.journal ++ step_entries x b.s b.u b.t (more_at b).words = grows.one (suc b.t) (p.shown (suc b.t)) _ (shown (suc b.t) (omega arith) (omega arith)) (more_at b).shown in
        let pages = pages_for m mid midtold ss k current began (more_at b).words (returned (state_of mid ss) k.call) (told_at b).1 refl (returns_at b) in
        let rows = rows_followed f x b.y b.s b.u b.t b.traced.journal (more_at b).words m (state_of mid ss) k current began b.map_is (told_at b).2 (keeps_at b) here (begun_at b) p turns steps before after (returns_run b) in
        subst P
        (ap₂ (λ (a b : List Call). a ++ b) (ap (script_of_step x) w.2) (followed_here m mid ss pages.0 k current began ∙ pages.2 ∙ rows) ∙ sym (steps_one (traced_run x b.y b.s b.u turns steps) p b.t))
        (h w.0 pages.0 pages.1)

    pub step_goes : (stepped : Stepped) (before : Option Tracer) (after : Tracer) → before ≡ Some k →
        ((ss : List (List ℕ)) (words : List ℕ) → midtold ≡ Some ss → ReturnTold m (state_of mid ss) k.user words (returned (state_of mid ss) k.call) →
        after ≡ kept_after (state_of mid ss) k current began words) →
        StepTraces x m held told before (Some after) (Ok stepped)
    step_goes stepped before after hb keeps = rw hb (each_step x m held told (Some k) (Some after) (Ok stepped) (λ (b : Here).
        let is = keeps (told_at b).0 (more_at b).words (told_at b).1 (returns_at b) in
        step_kept f x b.y b.s b.u b.t (Some k) b.traced (more_at b) after (is ∙ kept_at b)))

-- where none is printed there is nothing to be said
pub step_untraced : (x : Environment) (m : Map) (held : Held) (told : Option (List (List ℕ))) (after : Option Tracer) (result : Result Stepped RunFault) → StepTraces x m held told None after result
step_untraced x m held told after result = each_step x m held told None after result (λ (b : Booted x m (state_seen told held) None).
    absurd (let e : ◌≡◌ {A = Option Tracer} None (Some (tracer_at x b.s b.u b.t b.traced.journal)) = b.traced.keeps in cc))

-- THE LOOP: how far a run is whose trace goes on
pub record Tracked (x : Environment) (y : System) (s : State) (u t : ℕ) (now : Option State) (before after : ℕ) (kept : Option Tracer) : Type 0 where
  pub at : ℕ
  pub from : t ≤ at
  pub spent : after + at ≡ before + t
  pub state : now ≡ Some (run x s at)
  pub traced : Traced x y s u at kept

abbrev pub Tracks : Environment → Map → (start now : Option State) → (before after : Tracing) → Type 0
Tracks x m start now before after = (b : Booted x m start before.tracer) → Tracked x b.y b.s b.u b.t now before.budget after.budget after.tracer

-- the clause on a loop is of each run
each_run : (count : ℕ) (m : Map) (held : Held) (told : Option (List (List ℕ))) (before after : Tracing) (result : Result (ℕ × Begun) RunFault) →
    ((b : Booted (outside_of held.rows count) m (state_seen told held) before.tracer) →
    UnlessFailed result (TracedOn (outside_of held.rows count) b.y b.s b.u b.t before.budget after.budget after.tracer) (CutAt (outside_of held.rows count) b.s b.t before.budget after.budget)) → TraceRuns count m held told before after result
each_run count m held told before after result f = λ unit y s late limit u t from map_is low high at traced.
    f (record { unit = unit; y = y; s = s; late = late; held = limit; u = u; t = t; from = from; map_is = map_is; low = low; high = high; at = at; traced = traced })

pub tracks_none : (x : Environment) (m : Map) (start : Option State) (before : Tracing) → Tracks x m start start before before
tracks_none x m start before = λ b. record { at = b.t; from = omega arith; spent = refl; state = b.at; traced = b.traced }

traced_on : (x : Environment) (y : System) (s : State) (u t : ℕ) (now : Option State) (before after : ℕ) (kept : Option Tracer) → Tracked x y s u t now before after kept → TracedOn x y s u t before after kept
traced_on x y s u t now before after kept w = record { at = w.at; from = w.from; spent = w.spent; traced = w.traced }

module _ (count : ℕ) (m : Map) (held mid : Held) (told midtold : Option (List (List ℕ))) (before now : Tracing) (so_far : Tracks (outside_of held.rows count) m (state_seen told held) (state_seen midtold mid) before now) where
  -- the budget was spent
  pub tracks_limit : TraceRuns count m held told before now (Err StepLimit)
  tracks_limit = each_run count m held told before now (Err StepLimit) (λ b. traced_on _ b.y b.s b.u b.t (state_seen midtold mid) _ _ _ (so_far b))

  -- the turn is complete, or the machine is off
  pub tracks_whole : (begun : ℕ × Begun) → TraceRuns count m held told before now (Ok begun)
  tracks_whole begun = each_run count m held told before now (Ok begun) (λ b. traced_on _ b.y b.s b.u b.t (state_seen midtold mid) _ _ _ (so_far b))

  -- one step more, by which the budget is less
  module _ (z : Environment) (same : z ≡ outside_of held.rows count) (after : Tracing) (less : now.budget ≡ after.budget + 1) where
    pub tracks_more : (next : Held) (nexttold : Option (List (List ℕ))) (stepped : Stepped) → StepTraces z m mid midtold now.tracer after.tracer (Ok stepped) → state_seen nexttold next ≡ option_map (step z) (state_seen midtold mid) → Tracks (outside_of held.rows count) m (state_seen told held) (state_seen nexttold next) before after
    tracks_more next nexttold stepped done ran = λ b.
        let x : Environment = outside_of held.rows count in
        let w = so_far b in
        let here : state_seen midtold mid ≡ Some (run x b.s w.at) = w.state in
        let of_x : StepTraces x m mid midtold now.tracer after.tracer (Ok stepped) = subst (λ (z : Environment). StepTraces z m mid midtold now.tracer after.tracer (Ok stepped)) same done in
        let ran_x : state_seen nexttold next ≡ option_map (step x) (state_seen midtold mid) = subst (λ (z : Environment). state_seen nexttold next ≡ option_map (step z) (state_seen midtold mid)) same ran in
        let from = w.from in
        let spent = w.spent in
        record {
          at = suc w.at;
          from = omega (arith, from);
          spent = omega (arith, spent, less);
          state = seen_more x (state_seen midtold mid) (state_seen nexttold next) (run x b.s w.at) ran_x here;
          traced = of_x b.unit b.y b.s b.late b.held b.u w.at b.from b.map_is b.low b.high here w.traced;
        }

    -- or a call failed in it
    pub tracks_stop : (fault : RunFault) → (fault ≡ StepLimit → ⊥) → StepTraces z m mid midtold now.tracer after.tracer (Err fault) → TraceRuns count m held told before after (Err fault)
    tracks_stop StepLimit limit cut = absurd (limit refl)
    tracks_stop Disk limit cut = each_run count m held told before after (Err Disk) (λ b. tt)
    tracks_stop Sink limit cut = each_run count m held told before after (Err Sink) (λ b.
        let w = so_far b in
        let spent = w.spent in
        let of_x : StepTraces (outside_of held.rows count) m mid midtold now.tracer after.tracer (Err Sink) = subst (λ (z : Environment). StepTraces z m mid midtold now.tracer after.tracer (Err Sink)) same cut in
        (w.at, omega (arith, spent, less), of_x b.unit b.y b.s b.late b.held b.u w.at b.from b.map_is b.low b.high w.state w.traced refl))
