-- Each run that words ask for is one from a start.
use Rattle.std.specs.Prelude.{All, min, Result, Ok, Err}
use Rattle.std.proofs.Common.{◌≡◌, ℕ, ◌*◌, ◌≤◌, List, ◌++◌, length, refl, sym, ap, ◌∙◌, subst, arith}
use Rattle.std.proofs.lemmas.List.{length-map}
use Rattle.mips_table.specs.Fits.{IsWord}
use Rattle.mips_table.specs.Machine.{State}
use Rattle.mips_machine.specs.Steps.{outside_of}
use Rattle.layer_map.specs.Map.{Map, MapInRange, ParamsInRange}
use Rattle.layer_map.specs.declared.params.Params.{Params}
use Rattle.c0_tree.specs.Tree.{CUnit}
use Rattle.c0_meaning.specs.TypedState.{IsTypedState}
use Rattle.c0_meaning.specs.Unit.{IsChecked}
use Rattle.c0_types.specs.Front.{IsUnitOf}
use Rattle.c0_types.specs.declared.source_fault.SourceFault.{SourceFault}
use Rattle.c0_unit.specs.Code.{unit_words}
use Rattle.cvm_model.specs.Cvm.{first_core}
use Rattle.cvm_model.specs.Stands.{CoreFits}
use Rattle.layer_contract.specs.Follows.{loaded, SystemFits}
use Rattle.layer_contract.specs.Starts.{Start, LoadedStarts, LoadedKeeps, user_sectors}
use Rattle.real_layer.specs.Image.{layer_image}
use Rattle.boot_turns.specs.Premises.{StartsFrom}
use Rattle.boot_turns.specs.Rom.{own_rom, rom_loaded, rom_sectors}
use Rattle.boot_turns.specs.RomStarts.{RomStarts}
use Rattle.boot_image.specs.Parts.{ImageParts as Image}
use Rattle.schedule_file.specs.Rows.{Rows, lines_at, busy_of, longest}
use Rattle.cvm_words.specs.Reading.{◌>>=◌}
use Rattle.kernel_linker.specs.Accept.{ImageSystem, accept_answer, words_match}
use Rattle.kernel_linker.specs.Linked.{linked, pages_for, sizes_of, map_for}
use Rattle.kernel_linker.specs.Laws.{ImageFits, SpelledImagesFit}
use Rattle.kernel_linker.specs.Sources.{IsOfImage, AcceptedAreOfImages}
use Rattle.kernel_linker.specs.declared.fault.AcceptFault.{AcceptFault}
use Rattle.boot_run.proofs.PremisesOfBoots.{RowsFit}
use Rattle.run_scripts.specs.declared.session.Session.{Session}
use Rattle.run_scripts.specs.declared.session.StartPoint.{StartPoint}
use Rattle.run_scripts.specs.declared.session.StartPoint.TheVariants.{Loaded, Rom}
use Rattle.run_scripts.specs.Boot.{booted, held_of, sectors_needed, steps_before}
use Rattle.boot_run.specs.SavedRuns.{IsDisk}
use Rattle.run_scripts.specs.SessionRuns.{run_of}
use Rattle.run_scripts.specs.Keys.{IsStarted}
use Rattle.run_scripts.proofs.SystemsFollow.{its_map, UnitLaws, IsWhole, range, same_map, site_laws, follows, words_are, long}
use Rattle.run_scripts.proofs.SchedulesPromise.{rows_ordered, rows_fit}
use Rattle.run_scripts.proofs.AcceptedImages.{IsAccepted}

-- what stands behind a step that went well
behind : (step : Result (Unit {0}) AcceptFault) (t s : ImageSystem) → (step >>= λ same. Ok t) ≡ Ok s → t ≡ s
behind (Ok x) t s e = cc
behind (Err f) t s e = absurd (cc)

-- the words of an accepted system are those that it is linked to
linked_words : (i : Image) (s : ImageSystem) (front : Result CUnit SourceFault) → ◌≡◌ {A = Result ImageSystem AcceptFault} (accept_answer layer_image i front) (Ok s) →
    s.words ≡ linked layer_image s.unit s.params (sizes_of s.users)
unfolding accept_answer
linked_words i s (Err f) e = absurd (cc)
linked_words i s (Ok u) e =
    let made : List ℕ = linked layer_image u i.params (sizes_of i.users) in
    let t : ImageSystem = record { params = i.params; unit = u; words = linked layer_image u i.params (sizes_of i.users); users = i.users } in
    subst (λ (y : ImageSystem). y.words ≡ linked layer_image y.unit y.params (sizes_of y.users)) (behind (words_match i made) t s e) refl

joined : (u : CUnit) (p : Params) (users : List (List ℕ)) → linked layer_image u p (sizes_of users) ≡ layer_image (map_for u p (length users)) (sizes_of users) ++ unit_words u
unfolding linked
joined u p users = ap (λ (n : ℕ). layer_image (map_for u p n) (sizes_of users) ++ unit_words u) (length-map users (λ (words : List ℕ). pages_for (length words)))

has_room : (pages : ℕ) (users : List (List ℕ)) → All (λ words. length words ≤ min 65536 (1024 * pages)) users → All (λ words. length words ≤ 1024 * pages) users
has_room pages users h = λ i d below. let few = h i d below in omega (arith, few)

module _ (law : UnitLaws) (spelled : SpelledImagesFit) (of_images : AcceptedAreOfImages) (checked : (source : List ℕ) (u : CUnit) → IsUnitOf source u → IsChecked u) where
  whole : (s : ImageSystem) (rows : Rows) → IsAccepted s rows → IsWhole s
  whole s rows a =
      let of : IsOfImage a.image s = of_images layer_image a.image a.front s a.answers a.due in
      let fits : ImageFits a.image = spelled a.image a.in_range.spelled in
      record {
        checked = checked a.image.source s.unit of.unit;
        params = subst ParamsInRange (sym of.params) fits.params;
        few_users = subst (λ (us : List (List ℕ)). length us ≤ 64) (sym of.users) fits.few;
        short_users = has_room s.params.pages s.users
            (subst (λ (p : Params). All (λ words. length words ≤ min 65536 (1024 * p.pages)) s.users) (sym of.params)
            (subst (λ (us : List (List ℕ)). All (λ words. length words ≤ min 65536 (1024 * a.image.params.pages)) us) (sym of.users) fits.short));
        words = subst (λ (us : List (List ℕ)). All (All IsWord) us) (sym of.users) a.in_range.user_bits;
        linked = linked_words a.image s a.front (sym a.due) ∙ joined s.unit s.params s.users;
      }

  module _ (busy : (rows : Rows) (command : ℕ) → busy_of rows command ≤ longest rows) (s : ImageSystem) (rows : Rows) (a : IsAccepted s rows) (count : ℕ) (old : List (List ℕ)) (disk : IsDisk count old) where
    fit : RowsFit rows count
    fit = rows_fit busy rows (rows_ordered a.text rows a.valid) count

    fits : user_sectors (booted s rows) ≤ count → SystemFits (outside_of rows count) (booted s rows) old
    fits room =
        let w = whole s rows a in
        record {
          lines = fit.eight;
          range = subst MapInRange (same_map law s w) (range law s w);
          long = long law s w;
          words = words_are law s w;
          input = fit.words;
          core = subst (λ (m : Map). CoreFits m (first_core (booted s rows))) (same_map law s w) ((follows law s w).made.fits rows.inputs (longest rows) fit.few);
          count = disk.size;
          pages = disk.each;
          enough = room;
        }

    from_start : (first : State) (late held : ℕ) → user_sectors (booted s rows) ≤ count → Start (outside_of rows count) (booted s rows) first late held →
        StartsFrom (IsTypedState s.unit) (outside_of rows count) (booted s rows) first late held
    from_start first late held room start =
        let w = whole s rows a in
        record {
          lines = lines_at rows;
          busy = busy_of rows;
          old = old;
          image = layer_image (its_map s) (sizes_of s.users);
          sizes = sizes_of s.users;
          made_for = its_map s;
          boots = record {
            happens = record { lines_are = refl; eight = fit.eight; end = fit.end; busy_are = refl; count_is = sym disk.size };
            within = fit.within;
            fits = fits room;
            follows = follows law s w;
          };
          laws = site_laws law s w;
          start = start;
        }

    pub started : LoadedStarts → LoadedKeeps → RomStarts → (session : Session) → sectors_needed session s rows ≤ count →
        IsStarted s (run_of session s rows count old) (sectors_needed session s rows) old (steps_before session.start (booted s rows))
    started loads keeps roms session room = by session.start refl room
      where
        by : (p : StartPoint) → session.start ≡ p → held_of p (booted s rows) ≤ count → IsStarted s (run_of (record session { start = p }) s rows count old) (held_of p (booted s rows)) old (steps_before p (booted s rows))
        by Loaded e room =
            let f = fits room in
            record {
              late = 1;
              within = omega arith;
              starts = from_start (loaded (booted s rows) old) 1 (user_sectors (booted s rows)) room (loads (outside_of rows count) (booted s rows) old f);
              beyond = keeps (outside_of rows count) (booted s rows) old f;
            }
        by Rom e room =
            let less : user_sectors (booted s rows) ≤ count = omega (arith, room) in
            let r = roms (outside_of rows count) (booted s rows) old (record { system = fits less; busy = fit.within; enough = room }) in
            let w = r.within in
            record {
              late = r.late;
              within = omega (arith, w);
              starts = from_start (rom_loaded (booted s rows) (own_rom (booted s rows)) old) r.late (rom_sectors (booted s rows)) less r.start;
              beyond = r.beyond;
            }
