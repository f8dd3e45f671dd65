use Rattle.std.proofs.Common.{◌≡◌, ◌++◌, take}
use Rattle.std.specs.Prelude.{string_bytes}
use Rattle.std.specs.List.{flat_map}
use Rattle.run_page.specs.Lists.{signer_text}
use Rattle.run_page.proofs.lists.put_signers.Given as goal

-- those so far are told
abbrev pub invariant-loop-frame : goal.invariant-loop-frame
invariant-loop-frame g l = string_bytes l.text ≡ string_bytes l.initial.text ++ flat_map (λ frame. signer_text l.cast frame.signer) (take l.frame-index l.frames)
