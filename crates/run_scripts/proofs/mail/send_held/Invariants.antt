use Rattle.std.proofs.Common.{◌≡◌, ℕ, ◌++◌, map, take}
use Rattle.run_scripts.specs.declared.mail.Delivery.{Delivery}
use Rattle.run_scripts.proofs.mail.send_held.Given as goal

-- the frame is sent to the actors so far
abbrev pub invariant-loop-addressee : goal.invariant-loop-addressee
invariant-loop-addressee l =
    l.waiting.items ≡ l.initial.waiting.items ++ map (λ (a : ℕ). record { to = a; from = l.from; held = l.held })
    (take l.addressee-index l.to)
