-- Going over all 14 possible masters in order and keeping those of the set gives the set again, as it is told
-- in rising order. So each wrong master has its line at its place.
use Rattle.std.proofs.Common.{◌∙◌, ◌++◌, [], Bool, if◌then◌else◌, ap}
use Rattle.std.specs.Prelude.{string_bytes}
use Rattle.part_lines.specs.Texts.{line_of, wrong_words}
use Rattle.part_lines.proofs.Wrong.{none_wrong, next_wrong, all_wrong}
use Rattle.part_lines.proofs.printing.put_all_wrong.Goals as goal

pub loop-master-init : goal.loop-master-init
loop-master-init c = none_wrong c.args.wrong.now (string_bytes c.args.text.now)

pub loop-master-preserved : goal.loop-master-preserved
loop-master-preserved c =
    next_wrong c.args.wrong.now (string_bytes c.args.text.now) (string_bytes c.loop-master.text)
    (string_bytes c.put_wrong_if.new.text) c.loop-master.master c.loop-master.invariant
    (c.in_ok-put_wrong_if.ensures
    ∙ ap (λ (b : Bool). string_bytes c.loop-master.text
    ++ (if b then line_of (wrong_words c.loop-master.master) else [])) c.has.ensures)

pub returns : goal.returns
returns c =
    all_wrong c.args.wrong.now (string_bytes c.args.text.now) (string_bytes c.loop-master.text) c.loop-master.master
    c.loop-master-test.false c.loop-master.auto.master-end
    c.loop-master.invariant c.requires
