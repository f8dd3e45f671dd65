-- A one-time signature without the form leads nowhere. With it the key that was found is the definition's candidate, so
-- that it climbs just where the signature leads.
use Rattle.std.proofs.Common.{◌∙◌, ap, arith, length, refl}
use Rattle.tree_keys.proofs.CandidatesLead.{leads_by, form_by, same_candidate}
use Rattle.tree_keys.proofs.together.lead_together.Goals as goal

pub returns-then-not-ots_form : goal.returns-then-not-ots_form
returns-then-not-ots_form c = (
  (λ no. cc),
  (λ (a, b, d). let yes = c.if-not-ots_form.ensures.1 a.form in cc),
)

pub returns-then-not-ots_form-2 : goal.returns-then-not-ots_form-2
returns-then-not-ots_form-2 c = (
  (λ no. cc),
  (λ (a, b, d). let yes = c.if-not-ots_form-2.ensures.1
      (form_by c.args.b.now.key c.args.a.now.key.ots c.args.y.now.q c.args.b.now.message.now c.args.y.now.ots_sig.now
      c.args.y.now.path.now c.requires.second b) in cc),
)

pub returns-then-not-ots_form-3 : goal.returns-then-not-ots_form-3
returns-then-not-ots_form-3 c = (
  (λ no. cc),
  (λ (a, b, d). let yes = c.if-not-ots_form-3.ensures.1
      (form_by c.args.c.now.key c.args.a.now.key.ots c.args.z.now.q c.args.c.now.message.now c.args.z.now.ots_sig.now
      c.args.z.now.path.now c.requires.third d) in cc),
)

pub ots_candidates-keys-requires-clause-a : goal.ots_candidates-keys-requires-clause-a
ots_candidates-keys-requires-clause-a c =
    ap length c.ots_signed-first.ensures.sig ∙ (c.if-not-ots_form.ensures.0 refl).len

pub ots_candidates-keys-requires-clause-b : goal.ots_candidates-keys-requires-clause-b
ots_candidates-keys-requires-clause-b c =
    ap length c.ots_signed-second.ensures.sig ∙ (c.if-not-ots_form-2.ensures.0 refl).len

pub ots_candidates-keys-requires-clause-c : goal.ots_candidates-keys-requires-clause-c
ots_candidates-keys-requires-clause-c c =
    ap length c.ots_signed-third.ensures.sig ∙ (c.if-not-ots_form-3.ensures.0 refl).len

pub returns-then-not-climbs : goal.returns-then-not-climbs
returns-then-not-climbs c =
    let a = c.args.a.now in
    let x = c.args.x.now in
    let s = c.ots_signed-first.ensures in
    let found = c.ots_candidates-keys.ensures 0 (omega arith)
    ∙ same_candidate a.key.ots _ a.key.id _ x.q _ a.message.now
    _ x.ots_sig.now s.id s.leaf s.message s.sig in (
      (λ no. cc),
      (λ (leads, b, d).
          let yes = c.if-not-climbs.ensures.1
          ((leads_by a.key a.key.ots x.q a.message.now x.ots_sig.now x.path.now _ refl (c.if-not-ots_form.ensures.0 refl) found).1
          leads) in cc),
    )

pub returns-then-not-climbs-2 : goal.returns-then-not-climbs-2
returns-then-not-climbs-2 c =
    let b = c.args.b.now in
    let y = c.args.y.now in
    let s = c.ots_signed-second.ensures in
    let found = c.ots_candidates-keys.ensures 1 (omega arith)
    ∙ same_candidate c.args.a.now.key.ots _ b.key.id _ y.q _ b.message.now
    _ y.ots_sig.now s.id s.leaf s.message s.sig in (
      (λ no. cc),
      (λ (a, leads, d).
          let yes = c.if-not-climbs-2.ensures.1
          ((leads_by b.key c.args.a.now.key.ots y.q b.message.now y.ots_sig.now y.path.now _ c.requires.second
          (c.if-not-ots_form-2.ensures.0 refl) found).1 leads) in cc),
    )

pub returns : goal.returns
returns c =
    let a = c.args.a.now in
    let b = c.args.b.now in
    let d = c.args.c.now in
    let x = c.args.x.now in
    let y = c.args.y.now in
    let z = c.args.z.now in
    let ots = a.key.ots in
    let s = c.ots_signed-first.ensures in
    let t = c.ots_signed-second.ensures in
    let u = c.ots_signed-third.ensures in
    let first = leads_by a.key ots x.q a.message.now x.ots_sig.now x.path.now _ refl (c.if-not-ots_form.ensures.0 refl)
    (c.ots_candidates-keys.ensures 0 (omega arith)
    ∙ same_candidate ots _ a.key.id _ x.q _ a.message.now
    _ x.ots_sig.now s.id s.leaf s.message s.sig) in
    let second = leads_by b.key ots y.q b.message.now y.ots_sig.now y.path.now _ c.requires.second
    (c.if-not-ots_form-2.ensures.0 refl)
    (c.ots_candidates-keys.ensures 1 (omega arith)
    ∙ same_candidate ots _ b.key.id _ y.q _ b.message.now
    _ y.ots_sig.now t.id t.leaf t.message t.sig) in
    let third = leads_by d.key ots z.q d.message.now z.ots_sig.now z.path.now _ c.requires.third
    (c.if-not-ots_form-3.ensures.0 refl)
    (c.ots_candidates-keys.ensures 2 (omega arith)
    ∙ same_candidate ots _ d.key.id _ z.q _ d.message.now
    _ z.ots_sig.now u.id u.leaf u.message u.sig) in (
      (λ yes. (
        first.0 (c.if-not-climbs.ensures.0 refl),
        second.0 (c.if-not-climbs-2.ensures.0 refl),
        third.0 (c.climbs-3.ensures.0 yes),
      )),
      (λ (p, q, r). c.climbs-3.ensures.1 (third.1 r)),
    )
