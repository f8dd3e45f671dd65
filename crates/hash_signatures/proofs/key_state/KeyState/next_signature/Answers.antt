-- The path, kept or made anew, leads to the next leaf, so that what is signed along it is the key's signature
-- of that number, of which it is known that it verifies and how long it is at most.
use Rattle.std.proofs.Common.{◌≤◌, length, ◌∙◌, ap, sym, subst, List, ℕ}
use Rattle.hash_signatures.specs.Verification.{Verifies}
use Rattle.hash_signatures.specs.Signatures.{key_public, signature_at, longest_signature}
use Rattle.hash_signatures.specs.State.{KeyUse, key_from}
use Rattle.hash_signatures.specs.KeyInside.{key_of}
use Rattle.hash_signatures.specs.Path.{IsWayOf}
use Rattle.hash_signatures.proofs.KeyLaws.{way_signs, signature_verifies, signature_short}
use Rattle.hash_signatures.proofs.key_state.KeyState.next_signature.Goals as goal

pub returns-clause-signature : goal.returns-clause-signature
returns-clause-signature c =
    let key = key_of c.self.inside in
    let used = c.self.inside.used in
    let leads : IsWayOf key used c.in_ok-path.path.way =
    subst (λ (hs : List ℕ). IsWayOf (key_from c.self.inside.seed c.self.inside.id hs c.self.inside.ots)
    used c.in_ok-path.path.way)
    c.deref.ensures.value c.in_ok-path.ensures.way in
    c.in_ok-signed.ensures ∙ way_signs key used c.args.message.now c.in_ok-path.path.way c.self.invariant.levels.0 leads
    ∙ ap (λ (u : KeyUse). signature_at u.key u.used c.args.message.now) c.self.view_is

pub returns-clause-verifies : goal.returns-clause-verifies
returns-clause-verifies c =
    let key = key_of c.self.inside in
    let message = c.args.message.now in
    let verifies = subst (λ (u : KeyUse). Verifies (key_public u.key) message (signature_at u.key u.used message))
    c.self.view_is
    (signature_verifies key c.self.inside.used message c.self.invariant.levels c.self.invariant.heights
    c.self.invariant.id) in
    subst (Verifies (key_public c.args.self.now.key) message) (sym (returns-clause-signature c)) verifies

pub returns-clause-short : goal.returns-clause-short
returns-clause-short c =
    let message = c.args.message.now in
    let short = subst (λ (u : KeyUse). length (signature_at u.key u.used message) ≤ longest_signature) c.self.view_is
    (signature_short (key_of c.self.inside) c.self.inside.used message c.self.invariant.levels
    c.self.invariant.heights c.self.invariant.id) in
    subst (λ (sig : List ℕ). length sig ≤ longest_signature) (sym (returns-clause-signature c)) short
