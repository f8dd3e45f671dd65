-- The fields so far are those of the first groups, and one leaf is used for each of them with the key
-- unchanged: so a leaf is left for each group to come, and a group always has 1 to 32 bodies.
use Rattle.std.proofs.Common.{◌≡◌, ◌≤◌, ◌+◌, ◌*◌, ◌++◌, ◌∙◌, ℕ, suc, length, map, refl, sym, ap, subst, arith, List}
use Rattle.std.specs.List.{list_all}
use Rattle.message_types.specs.declared.body.Body.{Body}
use Rattle.message_types.specs.Texts.{body_text}
use Rattle.message_types.specs.Spelling.{body_fits}
use Rattle.hash_signatures.specs.Signatures.{Key, all_leaves, key_public}
use Rattle.checked_frames.specs.Signing.{group_signatures, EachSigns}
use Rattle.checked_frames.specs.Entries.{group_size, group_at}
use Rattle.checked_frames.proofs.EntryLaws.{group_inside, group_some, all_of_group, group_texts, AreSignedTo}
use Rattle.checked_frames.proofs.EntryLaws.{none_signed, one_group_more}
use Rattle.checked_frames.proofs.entry.sign_groups.Goals as goal

pub loop-number-init : goal.loop-number-init
loop-number-init c = record {
  same_key = refl;
  used = omega arith;
  signed = subst (AreSignedTo c.args.shared c.args.key.now.key c.args.key.now.used (map body_text c.args.bodies.now)
      0) (sym c.in_ok-fields.ensures.items)
      (none_signed c.args.shared c.args.key.now.key c.args.key.now.used (map body_text c.args.bodies.now));
}

pub group_of-group-requires : goal.group_of-group-requires
group_of-group-requires c =
    let inside = group_inside c.args.shared (length c.args.bodies.now) c.args.groups c.loop-number.number
    c.requires.groups c.loop-number-test.true in
    omega arith

pub sign_left-requires : goal.sign_left-requires
sign_left-requires c =
    let number = c.loop-number.number in
    let bodies = c.args.bodies.now in
    let some = group_some c.args.shared bodies c.args.groups number c.requires.groups c.loop-number-test.true in
    let group = c.group_of-group.ensures in
    let inv = c.loop-number.invariant in
    let leaves = ap all_leaves inv.same_key in
    record {
      some = subst (λ (xs : List Body). 1 ≤ length xs) (sym group) some.0;
      few = subst (λ (xs : List Body). length xs ≤ 32) (sym group) some.1;
      spelled = ap (list_all body_fits) group ∙ all_of_group body_fits (group_size c.args.shared)
          (group_size c.args.shared * number) bodies c.requires.spelled;
      left = omega (arith, inv.used, leaves, c.requires.left, c.loop-number-test.true);
    }

pub loop-number-preserved : goal.loop-number-preserved
loop-number-preserved c =
    let number = c.loop-number.number in
    let texts = map body_text c.args.bodies.now in
    let most = group_size c.args.shared in
    let key = c.args.key.now.key in
    let used = c.args.key.now.used in
    let inv = c.loop-number.invariant in
    let same = inv.same_key in
    let before = inv.used in
    let group : map body_text c.group_of-group.result.now ≡ group_at most texts number =
    ap (map body_text) c.group_of-group.ensures ∙ group_texts body_text c.args.bodies.now most number in
    let signatures = c.in_ok-signed.ensures.signatures
    ∙ ap (λ (k : Key). group_signatures k c.loop-number.key.used (map body_text c.group_of-group.result.now)) same
    ∙ ap (λ (u : ℕ). group_signatures key u (map body_text c.group_of-group.result.now)) before
    ∙ ap (group_signatures key (used + number)) group in
    let at_key : EachSigns (key_public key) (map body_text c.group_of-group.result.now) c.in_ok-signed.signed.items =
    subst (λ (k : Key). EachSigns (key_public k) (map body_text c.group_of-group.result.now)
    c.in_ok-signed.signed.items) same c.in_ok-signed.ensures.signs in
    let each = subst (λ ts. EachSigns (key_public key) ts c.in_ok-signed.signed.items) group at_key in
    let so = one_group_more c.args.shared key used texts number c.loop-number.fields.items c.in_ok-signed.signed.items
    inv.signed signatures each
    c.in_ok-signed.ensures.fit in
    let next : suc number ≡ number + 1 = omega arith in
    let whole = subst (λ (k : ℕ). AreSignedTo c.args.shared key used texts k
    (c.loop-number.fields.items ++ c.in_ok-signed.signed.items)) next so in
    record {
      same_key = c.in_ok-signed.ensures.same_key ∙ same;
      used = omega (arith, before, c.in_ok-signed.ensures.one_more);
      signed = subst (AreSignedTo c.args.shared key used texts (number + 1)) (sym c.in_ok-append.ensures.items) whole;
    }
