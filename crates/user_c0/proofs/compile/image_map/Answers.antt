-- The code has as many words as its unit says.
use Rattle.std.proofs.Common.{◌≡◌, ℕ, List, length, ap, ◌∙◌}
use Rattle.std.proofs.lemmas.List.{length-map}
use Rattle.mips_table.specs.Encoding.{encoding}
use Rattle.layer_map.specs.Map.{Map}
use Rattle.c0_tree.specs.declared.primitive.Program.TheVariants.{User}
use Rattle.c0_tree.specs.declared.tree.Unit.{Unit as Source}
use Rattle.c0_tree.specs.Primitives.{user_primitives}
use Rattle.c0_tree.specs.View.{unit_view}
use Rattle.c0_meaning.specs.Limits.{first_number}
use Rattle.c0_meaning.specs.Sound.{global_words}
use Rattle.c0_unit.specs.Code.{code_words, unit_code}
use Rattle.user_c0.specs.Image.{ROOM}
use Rattle.user_c0.proofs.compile.image_map.Goals as goal

-- the map of so many words of code and of globals
with_words : ℕ → ℕ → Map
with_words code globals = record { params = record { pages = 1; frames = 2; heap = ROOM; stack = ROOM }; users = 0; code_words = code; global_words = globals }

pub returns : goal.returns
unfolding with_words
returns c =
    let addresses = c.units_have_addresses.ensures user_primitives c.args.unit.now c.unit-unit.ensures.well_formed (first_number User (unit_view c.args.unit.now)) in
    let stands = c.units_stand.ensures user_primitives (unit_view c.args.unit.now) c.unit-unit.ensures.well_formed (first_number User (unit_view c.args.unit.now)) addresses.0 addresses.1 in
    let long : length c.args.code.now ≡ code_words (unit_view c.args.unit.now) =
    ap (λ (ws : List ℕ). length ws) c.requires.code ∙ length-map (unit_code (unit_view c.args.unit.now) (first_number User (unit_view c.args.unit.now))) encoding ∙ stands.words in
    let globals : c.global_words-globals.result ≡ global_words (unit_view c.args.unit.now) =
    c.global_words-globals.ensures.value ∙ ap (λ (s : Source). global_words (unit_view s)) c.measured.ensures in
    c.of.ensures ∙ (ap (λ (n : ℕ). with_words n c.global_words-globals.result) long ∙ ap (with_words (code_words (unit_view c.args.unit.now))) globals)
