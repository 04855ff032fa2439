-- The premises of a boot, from what a layer, what is booted, a schedule and a disk promise.
use Rattle.std.proofs.Common.{◌≡◌, ℕ, ◌-◌, ◌*◌, ◌≤◌, List, ◌++◌, length, drop, refl, sym, ap, ap₂, ◌∙◌, subst, arith, length-append, length-drop}
use Rattle.std.proofs.lemmas.List.{length-map}
use Rattle.std.proofs.lemmas.List.Elements.{All-weaker}
use Rattle.std.specs.Prelude.{All, IfSome, Option}
use Rattle.cvm_outside.specs.Told.{IsSector}
use Rattle.schedule_file.specs.Rows.{Rows, lines_at, busy_of, longest}
use Rattle.mips_table.specs.Device.{HasEightLines, LinesEnd}
use Rattle.mips_table.specs.Fits.{IsWord, IsPage}
use Rattle.mips_table.specs.Machine.{State}
use Rattle.c0_tree.specs.View.{unit_view}
use Rattle.c0_meaning.specs.TypedState.{IsTypedState}
use Rattle.mips_machine.specs.Steps.{outside_of}
use Rattle.layer_map.specs.Map.{Map, MapInRange, layer_words}
use Rattle.cvm_model.specs.Cvm.{first_core}
use Rattle.cvm_model.specs.Stands.{Site, input_room, CoreFits}
use Rattle.layer_contract.specs.declared.boot.Boot.{Boot as Booted}
use Rattle.layer_contract.specs.Boots.{boot_of, BootFollows}
use Rattle.layer_contract.specs.Layer.{BusyWithin, Linked, Laws, site_with}
use Rattle.layer_contract.specs.Follows.{site_of, loaded, SystemFits}
use Rattle.layer_contract.specs.Starts.{Start, LoadedStarts, LoadedKeeps, user_sectors}
use Rattle.boot_turns.specs.Premises.{StartsFrom}
use Rattle.boot_turns.specs.Rom.{rom_sectors}
use Rattle.boot_turns.specs.RomStarts.{RomStarts}
use Rattle.boot_run.specs.Loading.{system_of}
use Rattle.boot_run.specs.LoadEnds.{pages_needed, rom_needed}
use Rattle.boot_run.specs.Whole.{rom_start_of}
use Rattle.boot_run.specs.Pieces.{Bootable, RomBootable}
use Rattle.boot_run.specs.SavedRuns.{AreDisk}
use Rattle.boot_run.proofs.RomLoads.{rom_needed_is}

-- sectors of words are pages
pub are_pages : (old : List (List ℕ)) → All IsSector old → All IsPage old
are_pages old h = All-weaker IsSector IsPage (λ s p. record { size = p.size; each = p.each }) old h

-- and those that a disk tells are its own
pub are_disk : (count : ℕ) (told : Option (List (List ℕ))) → IfSome told (λ ss. length ss ≡ count) → IfSome told (All IsSector) → AreDisk count told
are_disk count told sized sectors = λ old is. record {
  size = subst (λ (o : Option (List (List ℕ))). IfSome o (λ ss. length ss ≡ count)) is sized;
  each = are_pages old (subst (λ (o : Option (List (List ℕ))). IfSome o (All IsSector)) is sectors);
}

-- what a schedule's rows promise, over a disk of so many sectors
pub record RowsFit (rows : Rows) (count : ℕ) : Type 0 where
  pub eight : HasEightLines (outside_of rows count)
  pub end : LinesEnd (outside_of rows count)
  pub within : BusyWithin (outside_of rows count) (longest rows)
  pub few : length rows.inputs ≤ input_room
  pub words : All IsWord rows.inputs

-- what the layer's laws are for what is booted over it
module _ (image sizes : List ℕ) (made_for : Map) (b : Booted) (follows : BootFollows image sizes made_for b) (linked : MapInRange made_for → Linked made_for sizes image) where
  long : layer_words ≤ length b.words.items
  long =
      let whole : length image ≡ layer_words = (linked follows.made.range).whole in
      let all : length b.words.items ≡ length (image ++ drop layer_words b.words.items) = ap length follows.made.words in
      let sum = length-append image (drop layer_words b.words.items) in
      omega (arith, whole, all, sum)

  site_is : site_with made_for image (drop layer_words b.words.items) ≡ site_of (boot_of b)
  site_is = ap₂ (λ (m : Map) (l : List ℕ). let s : Site = record { map = m; linked = l } in s) follows.made.same_map (sym follows.made.words)

  its_laws : ((code : List ℕ) → MapInRange made_for → length code ≡ made_for.code_words → Laws (site_with made_for image code) sizes) → Laws (site_of (boot_of b)) sizes
  its_laws laws =
      let many : length (drop layer_words b.words.items) ≡ length b.words.items - layer_words = length-drop layer_words b.words.items in
      subst (λ (s : Site). Laws s sizes) site_is
      (laws (drop layer_words b.words.items) follows.made.range (many ∙ sym (ap (λ (m : Map). m.code_words) follows.made.same_map)))

  module _ (laws : (code : List ℕ) → MapInRange made_for → length code ≡ made_for.code_words → Laws (site_with made_for image code) sizes) (rows : Rows) (count : ℕ) (old : List (List ℕ)) (fit : RowsFit rows count)
      (words : All IsWord b.words.items) (sized : length old ≡ count) (pages : All IsPage old) (room : pages_needed b ≤ count) where
    pub fits : SystemFits (outside_of rows count) (system_of b rows) old
    fits = record {
      lines = fit.eight;
      range = subst MapInRange follows.made.same_map follows.made.range;
      long = long;
      words = words;
      input = fit.words;
      core = subst (λ (m : Map). CoreFits m (first_core (system_of b rows))) follows.made.same_map (follows.made.fits rows.inputs (longest rows) fit.few);
      count = sized;
      pages = pages;
      enough = subst (λ n. n * b.params.pages ≤ count) (sym (length-map b.users.items (λ words. words.items))) room;
    }

    -- a run from any start
    pub starts_from : (s0 : State) (delay bound : ℕ) → Start (outside_of rows count) (system_of b rows) s0 delay bound → StartsFrom (IsTypedState (unit_view b.unit)) (outside_of rows count) (system_of b rows) s0 delay bound
    starts_from s0 delay bound start = record {
      lines = lines_at rows;
      busy = busy_of rows;
      old = old;
      image = image;
      sizes = sizes;
      made_for = made_for;
      boots = record {
        happens = record { lines_are = refl; eight = fit.eight; end = fit.end; busy_are = refl; count_is = sym sized };
        within = fit.within;
        fits = fits;
        follows = follows;
      };
      laws = its_laws laws;
      start = start;
    }

    -- the boot
    pub bootable : LoadedStarts → LoadedKeeps → Bootable b rows count (system_of b rows) (loaded (system_of b rows) old) 1 (user_sectors (system_of b rows)) old
    bootable law keeps = record {
      starts = starts_from (loaded (system_of b rows) old) 1 (user_sectors (system_of b rows)) (law (outside_of rows count) (system_of b rows) old fits);
      beyond = keeps (outside_of rows count) (system_of b rows) old fits;
      same = refl;
    }

    -- the machine with its boot ROM
    pub rom_bootable : RomStarts → rom_needed b ≤ count → RomBootable b rows count old
    rom_bootable law enough =
        let start = law (outside_of rows count) (system_of b rows) old (record {
          system = fits;
          busy = fit.within;
          enough = subst (λ n. n ≤ count) (sym (rom_needed_is b rows)) enough;
        }) in
        record {
          late = start.late;
          within = start.within;
          bootable = record {
            starts = starts_from (rom_start_of (system_of b rows) old) start.late (rom_sectors (system_of b rows)) start.start;
            beyond = start.beyond;
            same = refl;
          };
        }
