-- A way made anew leads to the leaf of this number, so that what is signed along it is the key's signature of
-- that number, of which it is known that it verifies and how long it is at most.
use Rattle.std.proofs.Common.{◌≤◌, length, ◌∙◌, ap, subst, List, ℕ}
use Rattle.hash_signatures.specs.Verification.{Verifies}
use Rattle.hash_signatures.specs.Signatures.{Key, key_public, signature_at, longest_signature}
use Rattle.hash_signatures.specs.State.{KeyUse, key_from}
use Rattle.hash_signatures.specs.KeyInside.{key_of}
use Rattle.hash_signatures.specs.Path.{IsWayOf}
use Rattle.hash_signatures.proofs.KeyLaws.{way_signs, signature_ok, signature_verifies, signature_short, verifies_ok}
use Rattle.hash_signatures.proofs.KeyLaws.{short_ok}
use Rattle.hash_signatures.proofs.key_state.KeyState.sign_at.Goals as goal

pub returns-clause-signature : goal.returns-clause-signature
returns-clause-signature c =
    let key = key_of c.self.inside in
    let same = ap (λ (u : KeyUse). u.key) c.self.view_is in
    let leads : IsWayOf key c.args.m c.in_ok-way.way =
    subst (λ (hs : List ℕ). IsWayOf (key_from c.self.inside.seed c.self.inside.id hs c.self.inside.ots)
    c.args.m c.in_ok-way.way)
    c.deref.ensures.value c.in_ok-way.ensures in
    let signed = way_signs key c.args.m c.args.message.now c.in_ok-way.way c.self.invariant.levels.0 leads
    ∙ ap (λ (k : Key). signature_at k c.args.m c.args.message.now) same in
    signature_ok c.sign.result _ _ signed c.sign.ensures

pub returns-clause-verifies : goal.returns-clause-verifies
returns-clause-verifies c =
    let key = key_of c.self.inside in
    let same = ap (λ (u : KeyUse). u.key) c.self.view_is in
    let message = c.args.message.now in
    let verifies = subst (λ (k : Key). Verifies (key_public k) message (signature_at k c.args.m message)) same
    (signature_verifies key c.args.m message c.self.invariant.levels c.self.invariant.heights c.self.invariant.id) in
    verifies_ok c.sign.result (key_public c.args.self.now.key) message _ verifies (returns-clause-signature c)

pub returns-clause-short : goal.returns-clause-short
returns-clause-short c =
    let key = key_of c.self.inside in
    let same = ap (λ (u : KeyUse). u.key) c.self.view_is in
    let message = c.args.message.now in
    let short = subst (λ (k : Key). length (signature_at k c.args.m message) ≤ longest_signature) same
    (signature_short key c.args.m message c.self.invariant.levels c.self.invariant.heights c.self.invariant.id) in
    short_ok c.sign.result _ short (returns-clause-signature c)
