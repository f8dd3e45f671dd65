use Rattle.std.proofs.Common.{◌≡◌, ◌++◌, take}
use Rattle.std.specs.Prelude.{string_bytes}
use Rattle.std.specs.List.{flat_map}
use Rattle.run_page.specs.Lists.{certificate_text}
use Rattle.run_page.proofs.lists.put_certificates.Given as goal

-- those so far are told
abbrev pub invariant-loop-certificate : goal.invariant-loop-certificate
invariant-loop-certificate l = string_bytes l.text ≡ string_bytes l.initial.text ++ flat_map certificate_text (take l.certificate-index l.certificates)
