-- One after another.
use Rattle.std.proofs.Common.{ℕ, List, ◌++◌, ◌∙◌, ap}
use Rattle.std.specs.Prelude.{string_bytes}
use Rattle.message_types.specs.declared.updates.Update.{Update}
use Rattle.message_types.specs.declared.vouchers.Notice.{Notice}
use Rattle.field_proxy.specs.declared.writes.Write.{Write}
use Rattle.station_rules.specs.Notes.{view_note, executed_note, write_note, notice_note, lines_behind}
use Rattle.stations.proofs.Noted.{four_put}
use Rattle.stations.proofs.notes.put_notes.Goals as goal

pub returns : goal.returns
returns c =
    four_put (string_bytes c.args.text.now) (string_bytes c.put_view.new.text) (string_bytes c.put_executed.new.text)
    (string_bytes c.put_writes.new.text) (string_bytes c.put_notices.new.text) _ _ _ _
    (c.in_ok-put_view.ensures
    ∙ ap (λ (v : ℕ). string_bytes c.args.text.now ++ view_note c.args.since.view v) (c.view.ensures c.requires))
    (c.in_ok-put_executed.ensures
    ∙ ap (λ (xs : List Update). string_bytes c.put_view.new.text
    ++ lines_behind (executed_note c.args.cast) c.args.since.executed xs) (c.executions.ensures c.requires))
    (c.in_ok-put_writes.ensures
    ∙ ap (λ (xs : List Write). string_bytes c.put_executed.new.text ++ lines_behind write_note c.args.since.writes xs)
    (c.writes.ensures c.requires))
    (c.in_ok-put_notices.ensures
    ∙ ap (λ (xs : List Notice). string_bytes c.put_writes.new.text ++ lines_behind notice_note c.args.since.notices xs)
    (c.board.ensures c.requires))
