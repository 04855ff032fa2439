-- By the laws that the body calls.
use Rattle.c0_tree.specs.declared.primitive.Program.TheVariants.{Kernel}
use Rattle.run_scripts.proofs.AcceptedImages.{accepted_of}
use Rattle.run_scripts.proofs.RunsStart.{started}
use Rattle.run_scripts.proofs.laws.runs_start.Goals as goal

pub returns : goal.returns
returns c = λ words plan session s rows before old a.
    started (record {
      faultless = c.units_are_typed_or_faulty.ensures;
      zeros = c.zeros_have_the_words_of_their_types.ensures;
      short = c.units_are_short.ensures;
      placed = c.trees_have_addresses.ensures;
      stand = c.units_stand.ensures;
      kernels = c.units_are_kernels.ensures;
      stay = c.units_stay_typed.ensures.typed;
      run = c.units_run_over_layers.ensures;
      calls = c.units_calls_follow.ensures;
      linked = c.the_image_is_linked.ensures;
      layer = c.the_layer_is_lawful.ensures;
    }) c.spelled_images_fit.ensures c.accepted_systems_are_of_their_images.ensures (c.units_of_sources_are_checked.ensures Kernel) c.busy_times_are_within_the_longest.ensures s rows
    (accepted_of c.images_are_their_spellings.ensures.spelled s rows words old.shelf.file a.bytes a.files session plan a.is_plan a.runs) old.disk.size before a.disk
    c.the_loaded_machine_starts.ensures.start c.the_loaded_machine_starts.ensures.beyond c.the_rom_starts.ensures session a.enough
