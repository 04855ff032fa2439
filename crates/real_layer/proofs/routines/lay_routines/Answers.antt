use Rattle.std.proofs.Common.{◌∙◌}
use Rattle.page_model.specs.TableLayout.{table_layout}
use Rattle.trap_entry.specs.Code.{act_on_answer_code}
use Rattle.real_layer.specs.Image.{routines}
use Rattle.real_layer.specs.Laid.{Lays}
use Rattle.real_layer.specs.declared.routines.Routines.{Routines}
use Rattle.real_layer.proofs.RoutinesLaid.{all_laid, all_entries, all_words}
use Rattle.real_layer.proofs.routines.lay_routines.Goals as goal

-- the routines that are laid from the empty ones on
whole : (c : goal.In_ok-put) → let start : Routines = record { entries = c.new.result; words = c.new-2.result } in Lays start c.put.new.self (routines c.args.map.now)
whole c = all_laid _ _ _ _ _ _ c.args.map.now c.in_ok-put_registers.ensures c.in_ok-put_memory.ensures c.in_ok-put_console.ensures c.in_ok-put_exits.ensures
    (c.in_ok-put.ensures (act_on_answer_code (table_layout c.args.map.now) c.args.map.now.users c.args.map.now.params.pages) (c.words.ensures ∙ c.act_on_answer.ensures))

pub returns-clause-entries : goal.returns-clause-entries
returns-clause-entries c = all_entries _ _ c.args.map.now c.new.ensures.items c.new-2.ensures.items (whole c)

pub returns-clause-words : goal.returns-clause-words
returns-clause-words c = all_words _ _ c.args.map.now c.new-2.ensures.items (whole c)
