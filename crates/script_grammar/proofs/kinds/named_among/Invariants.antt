use Rattle.std.proofs.Common.{◌≡◌, drop}
use Rattle.std.specs.List.{find}
use Rattle.std.specs.Str.{bytes_eq}
use Rattle.script_grammar.specs.Kinds.{kind_name}
use Rattle.script_grammar.proofs.kinds.named_among.Given as goal

abbrev pub invariant-loop-kind : goal.invariant-loop-kind
invariant-loop-kind l = find (λ k. bytes_eq (kind_name k) l.name) (drop l.kind-index l.kinds) ≡ find
    (λ k. bytes_eq (kind_name k) l.name) l.kinds
