use Rattle.std.proofs.Common.{ap, ◌++◌, ◌∙◌, map}
use Rattle.mips_table.specs.Encoding.{encoding}
use Rattle.real_layer.specs.Image.{interrupt_code, zero_padded, layer_variables, blocks, second_code}
use Rattle.real_layer.proofs.RoutinesLaid.{four_parts}
use Rattle.real_layer.proofs.image.layer_words.Goals as goal

pub returns : goal.returns
returns c =
    let m = c.args.map.now in
    four_parts c.new-words.result.items c.put_filled.new.words.items c.put_filled-2.new.words.items c.put_filled-3.new.words.items c.put_filled-4.new.words.items
    (zero_padded 1024 (map encoding (interrupt_code m))) (zero_padded 1024 (layer_variables m)) (zero_padded 10240 (map encoding (second_code m))) (zero_padded 4096 (blocks c.args.sizes.now))
    c.new-words.ensures.items
    (c.in_ok-put_filled.ensures ∙ ap (λ l. c.new-words.result.items ++ zero_padded 1024 l) (c.words.ensures ∙ c.interrupts.ensures))
    (c.in_ok-put_filled-2.ensures ∙ ap (λ l. c.put_filled.new.words.items ++ zero_padded 1024 l) c.first_variables.ensures)
    (c.in_ok-put_filled-3.ensures ∙ ap (λ l. c.put_filled-2.new.words.items ++ zero_padded 10240 l) (c.deref.ensures.value ∙ c.in_ok-second_part.ensures))
    (c.in_ok-put_filled-4.ensures ∙ ap (λ l. c.put_filled-3.new.words.items ++ zero_padded 4096 l) (c.deref-2.ensures.value ∙ c.in_ok-control_blocks.ensures))
