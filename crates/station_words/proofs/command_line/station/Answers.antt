-- Each argument adds its rule.
use Rattle.std.proofs.Common.{rules, codes, []}
use Rattle.command_words.specs.CommandLine.{command, text_rule}
use Rattle.command_words.proofs.Chains.{added, added_ok, longer}
use Rattle.station_words.specs.CommandLine.{keys_rule}
use Rattle.station_words.proofs.command_line.station.Goals as goal

pub returns-in_err-arg : goal.returns-in_err-arg
returns-in_err-arg c = search rules

pub returns-in_err-arg-2 : goal.returns-in_err-arg-2
returns-in_err-arg-2 c = search rules

pub returns-in_err-arg-3 : goal.returns-in_err-arg-3
returns-in_err-arg-3 c = search rules

pub returns : goal.returns
returns c =
    let first = command (codes "station") [] in
    let second = longer first (text_rule (codes "scenario")) in
    let third = longer second (text_rule (codes "actor")) in
    let fourth = longer third (text_rule (codes "keep")) in
    let step0 = added first (text_rule (codes "scenario")) c.new.result c.text.result c.in_ok-arg.field-0
    (c.new.ensures.app, c.new.ensures.local) c.text.ensures.rule c.text.ensures.local c.in_ok-arg.ensures in
    let step1 = added second (text_rule (codes "actor")) c.in_ok-arg.field-0 c.text-2.result c.in_ok-arg-2.field-0
    step0 c.text-2.ensures.rule c.text-2.ensures.local c.in_ok-arg-2.ensures in
    let step2 = added third (text_rule (codes "keep")) c.in_ok-arg-2.field-0 c.text-3.result c.in_ok-arg-3.field-0
    step1 c.text-3.ensures.rule c.text-3.ensures.local c.in_ok-arg-3.ensures in
    added_ok fourth keys_rule c.in_ok-arg-3.field-0 c.keys.result c.arg-4.result step2 c.keys.ensures.rule
    c.keys.ensures.local c.arg-4.ensures
