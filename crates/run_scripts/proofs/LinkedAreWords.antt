-- The linked words of a system are words of 32 bits.
use Rattle.std.specs.Prelude.{All, map, replicate}
use Rattle.std.proofs.Common.{◌≡◌, ℕ, ◌+◌, ◌-◌, ◌*◌, true, List, [], ◌∷◌, ◌++◌, length, refl, arith}
use Rattle.std.proofs.lemmas.List.Elements.{All-nil, All-head, All-tail, All-append, All-replicate, All-cons, All-from_recursion}
use Rattle.mips_table.specs.Encoding.{encoding, InRange}
use Rattle.mips_table.specs.Fits.{IsWord}
use Rattle.layer_map.specs.Map.{Map, MapInRange, heap_at, stack_at}
use Rattle.real_layer.specs.Image.{interrupt_code, routines, code_joined, entries, zero_padded, layer_variables, block_words, blocks, second_code, layer_image}
use Rattle.real_layer.proofs.LayerInRange.{all_fit, all_in, handler_fits, routines_fit}
use Rattle.user_c0.proofs.ImagesAreWords.{code_words}

filled_words : (n : ℕ) (ws : List ℕ) → All IsWord ws → All IsWord (zero_padded n ws)
filled_words n ws h = All-append IsWord ws (replicate (n - length ws) 0) h (All-replicate IsWord (n - length ws) 0 (omega arith))

variable_words : (m : Map) → MapInRange m → All IsWord (layer_variables m)
variable_words m r =
    let code = r.code_words in
    let globals = r.global_words in
    let heap = r.params.heap in
    let stack = r.params.stack in
    let first : IsWord (4 * heap_at m) = omega (arith, code, globals) in
    let second : IsWord (4 * stack_at m) = omega (arith, code, globals, heap) in
    let third : IsWord (4 * (stack_at m + m.params.stack)) = omega (arith, code, globals, heap, stack) in
    All-from_recursion IsWord (layer_variables m) (omega arith, (omega arith, (omega arith, (omega (arith, heap), (first, (second, (third, tt)))))))

block_fits : (pages : ℕ) → IsWord pages → All IsWord (block_words pages)
block_fits pages h =
    All-append IsWord (replicate 32 0) (pages ∷ replicate 31 0) (All-replicate IsWord 32 0 (omega arith)) (All-cons IsWord pages (replicate 31 0) h (All-replicate IsWord 31 0 (omega arith)))

blocks_fit : (sizes : List ℕ) → All IsWord sizes → All IsWord (blocks sizes)
blocks_fit [] h = All-nil IsWord
blocks_fit (pages ∷ sizes) h = All-append IsWord (block_words pages) (blocks sizes) (block_fits pages (All-head IsWord pages sizes h)) (blocks_fit sizes (All-tail IsWord pages sizes h))

entries_fit : (m : Map) → all_fit (entries m) ≡ true
unfolding routines
entries_fit m = refl

second_fits : (m : Map) → MapInRange m → All InRange (second_code m)
second_fits m r = All-append InRange (entries m) (code_joined (routines m)) (all_in (entries m) (entries_fit m)) (all_in (code_joined (routines m)) (routines_fit m r))

pub layer_words_fit : (m : Map) (sizes : List ℕ) → MapInRange m → All IsWord sizes → All IsWord (layer_image m sizes)
layer_words_fit m sizes r h =
    let handler : List ℕ = map encoding (interrupt_code m) in
    let second : List ℕ = map encoding (second_code m) in
    All-append IsWord (zero_padded 1024 handler) (zero_padded 1024 (layer_variables m) ++ (zero_padded 10240 second ++ zero_padded 4096 (blocks sizes)))
    (filled_words 1024 handler (code_words (interrupt_code m) (all_in (interrupt_code m) (handler_fits m r))))
    (All-append IsWord (zero_padded 1024 (layer_variables m)) (zero_padded 10240 second ++ zero_padded 4096 (blocks sizes)) (filled_words 1024 (layer_variables m) (variable_words m r))
    (All-append IsWord (zero_padded 10240 second) (zero_padded 4096 (blocks sizes)) (filled_words 10240 second (code_words (second_code m) (second_fits m r)))
    (filled_words 4096 (blocks sizes) (blocks_fit sizes h))))
