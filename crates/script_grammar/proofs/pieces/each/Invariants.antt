use Rattle.std.proofs.Common.{◌≡◌, drop}
use Rattle.script_grammar.specs.Faults.{each}
use Rattle.script_grammar.specs.Lines.{texts}
use Rattle.script_grammar.proofs.FaultLaws.{onward}
use Rattle.script_grammar.proofs.pieces.each.Given as goal

abbrev pub invariant-loop-text : goal.invariant-loop-text
invariant-loop-text g l =
    onward l.is_absent l.found (each (g.P.Part.reads l.part) (texts (drop l.text-index l.parts))) ≡ each
    (g.P.Part.reads l.part) (texts l.parts)
