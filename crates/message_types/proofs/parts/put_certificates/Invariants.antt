use Rattle.std.proofs.Common.{◌≡◌, ◌++◌, take}
use Rattle.std.specs.List.{flat_map}
use Rattle.message_types.specs.declared.body.Body.TheVariants as body
use Rattle.message_types.specs.Parts.{frames_of}
use Rattle.message_types.proofs.parts.put_certificates.Given as goal

abbrev pub invariant-loop-certificate : goal.invariant-loop-certificate
invariant-loop-certificate l =
    l.out.items ≡ l.fn.out.items ++ flat_map (λ c. frames_of body.Prepare c.prepares)
    (take l.certificate-index l.certificates)
