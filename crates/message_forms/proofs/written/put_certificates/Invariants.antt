use Rattle.std.proofs.Common.{◌≡◌, ◌++◌, length, take}
use Rattle.std.specs.List.{flat_map}
use Rattle.wire_parts.specs.Fields.{u16_bytes}
use Rattle.message_types.specs.Texts.{certificate_text}
use Rattle.message_forms.proofs.written.put_certificates.Given as goal

abbrev pub invariant-loop-certificate : goal.invariant-loop-certificate
invariant-loop-certificate l =
    l.out.items ≡ l.fn.out.items
    ++ ((u16_bytes (length l.certificates) ++ flat_map certificate_text (take l.certificate-index l.certificates)))
