-- A line is refused where it isn't one, where its entry may not come, and where it isn't the line that is kept of that.
use Rattle.std.proofs.Common.{◌≡◌, ℕ, ◌+◌, ◌++◌, true, false, Ok, Err, sym, ◌∙◌, ap, subst}
use Rattle.script_grammar.specs.Faults as grammar
use Rattle.printed_history.specs.Reading.{contents_in, world_in}
use Rattle.kept_lines.specs.declared.refusal.KeptRefusal.TheVariants as refusal
use Rattle.kept_lines.specs.Lines.{kept_line}
use Rattle.kept_lines.specs.Reading.{Refuses, entry_told, line_in}
use Rattle.kept_lines.proofs.Adding.{read_there, bad_line, none_told, not_next, came, line_is}
use Rattle.kept_lines.proofs.reading.add_line.Goals as goal

pub returns-in-Err : goal.returns-in-Err
returns-in-Err c =
    subst (λ r. Refuses r (line_in (contents_in c.args.so_far.now) c.args.actor c.args.so_far.now.history
    c.args.line.now)) (sym c.at.ensures)
    (bad_line (contents_in c.args.so_far.now) c.args.actor c.args.so_far.now.history c.args.line.now
    (c.len-stamp.result + 1) c.in-Err.fault (ap (λ (n : ℕ). n + 1) c.len-stamp.ensures)
    (read_there (contents_in c.args.so_far.now) c.args.company.now.cast c.args.line.now c.entry_part.result.now
    (λ a. grammar.Refuses c.in-Err.fault a) (ap (λ w. w.cast) c.requires.company) c.entry_part.ensures
    c.in-Err.ensures))

pub returns-then-not-branch : goal.returns-then-not-branch
returns-then-not-branch c =
    not_next (contents_in c.args.so_far.now) c.args.actor c.args.so_far.now.history c.args.line.now c.len-stamp.result
    c.in-Ok.told c.len-stamp.ensures
    (read_there (contents_in c.args.so_far.now) c.args.company.now.cast c.args.line.now c.entry_part.result.now
    (λ a. a ≡ Ok c.in-Ok.told) (ap (λ w. w.cast) c.requires.company) c.entry_part.ensures c.in-Ok.ensures)
    (none_told (entry_told (world_in c.args.so_far.now) c.args.actor c.args.so_far.now.history c.in-Ok.told)
    c.in_ok-take_told.field-0 c.args.so_far.now c.take_told.new.so_far c.in_ok-take_told.ensures c.if-not-branch.true)

pub put_line-requires-clause-at_hand : goal.put_line-requires-clause-at_hand
put_line-requires-clause-at_hand c =
    (came (entry_told (world_in c.args.so_far.now) c.args.actor c.args.so_far.now.history c.in-Ok.told)
    c.in_ok-take_told.field-0 c.args.so_far.now c.take_told.new.so_far c.in_ok-take_told.ensures
    c.if-not-branch.false).more.is_so_far

pub returns-then-not-is_same : goal.returns-then-not-is_same
returns-then-not-is_same c =
    let one = came (entry_told (world_in c.args.so_far.now) c.args.actor c.args.so_far.now.history c.in-Ok.told)
    c.in_ok-take_told.field-0 c.args.so_far.now c.take_told.new.so_far c.in_ok-take_told.ensures
    c.if-not-branch.false in
    line_is (contents_in c.args.so_far.now) c.args.actor c.args.so_far.now.history c.args.line.now
    c.as_slice.result.now c.in-Ok.told one.entry false
    (read_there (contents_in c.args.so_far.now) c.args.company.now.cast c.args.line.now c.entry_part.result.now
    (λ a. a ≡ Ok c.in-Ok.told) (ap (λ w. w.cast) c.requires.company) c.entry_part.ensures c.in-Ok.ensures)
    one.is
    (c.as_slice.ensures.value ∙ c.in_ok-put_line.ensures c.args.so_far.now.history one.entry one.more.longer
    ∙ (λ i. c.new-made.ensures.items i ++ kept_line (one.more.same i) c.args.so_far.now.history one.entry))
    (sym c.is_same.ensures ∙ c.if-not-is_same.true)
    ∙ ap (λ (n : ℕ). Err (refusal.OtherWords n)) (sym c.len-stamp.ensures)

pub returns : goal.returns
returns c =
    let one = came (entry_told (world_in c.args.so_far.now) c.args.actor c.args.so_far.now.history c.in-Ok.told)
    c.in_ok-take_told.field-0 c.args.so_far.now c.take_told.new.so_far c.in_ok-take_told.ensures
    c.if-not-branch.false in (
      one.entry,
      (
        line_is (contents_in c.args.so_far.now) c.args.actor c.args.so_far.now.history c.args.line.now
            c.as_slice.result.now c.in-Ok.told one.entry true
            (read_there (contents_in c.args.so_far.now) c.args.company.now.cast c.args.line.now
            c.entry_part.result.now (λ a. a ≡ Ok c.in-Ok.told) (ap (λ w. w.cast) c.requires.company)
            c.entry_part.ensures c.in-Ok.ensures)
            one.is
            (c.as_slice.ensures.value ∙ c.in_ok-put_line.ensures c.args.so_far.now.history one.entry one.more.longer
            ∙ (λ i. c.new-made.ensures.items i ++ kept_line (one.more.same i) c.args.so_far.now.history one.entry))
            (sym c.is_same.ensures ∙ c.if-not-is_same.false),
        one.more,
      ),
    )
