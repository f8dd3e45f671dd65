-- How a signature is cut into its signed keys.
use Rattle.std.proofs.Common.{◌≡◌, ◌≤◌, ◌<◌, ◌^◌, ◌+◌, ◌*◌, ◌-◌, ℕ, zero, suc, List, ◌++◌, length, take, drop, sym}
use Rattle.std.proofs.Common.{ap, ◌∙◌, subst, arith, length-append, append_assoc}
use Rattle.std.proofs.lemmas.List.{drop_at, take_at, take-append-drop}
use Rattle.wire_parts.specs.Fields.{u32_bytes}
use Rattle.wire_parts.specs.FieldLaws.{length-u32_bytes}
use Rattle.tree_keys.specs.declared.public_key.PublicKey.{PublicKey}
use Rattle.tree_keys.specs.PublicKeys.{IsKey, IsSignedUnder, TreeVerifies, tree_signature_len}
use Rattle.ots_keys.specs.declared.parameters.Ots.{Ots}
use Rattle.ots_keys.specs.declared.parameters.Ots.TheVariants.{W1, W2, W4, W8}
use Rattle.ots_keys.specs.Parameters.{signature_len}
use Rattle.tree_keys.proofs.Heights.{height_le}
use Rattle.tree_keys.proofs.KeyLaws.{one_key, key_len, signed_len}
use Rattle.tree_keys.proofs.Parts.{u32_bytes-same}
use Rattle.hash_signatures.specs.Verification.{LeadsThrough, Verifies}

pub tree_key_len : (public message sig : List ℕ) → TreeVerifies public message sig → length public ≡ 56
tree_key_len public message sig (key, is_key, signed) = key_len key public is_key

-- what leads on is a key of 56 bytes
pub leads_len : (n : ℕ) (public message sig : List ℕ) → LeadsThrough n public message sig → length public ≡ 56
leads_len zero public message sig h = tree_key_len public message sig h
leads_len (suc n) public message sig (signed, next, rest, e, verifies, leads) = tree_key_len public next signed verifies

-- the parts that the key's own length cuts out
pub record LeadCuts (n : ℕ) (key : PublicKey) (message sig : List ℕ) : Type 0 where
  pub room : tree_signature_len key.height key.ots + 56 ≤ length sig
  pub signed : IsSignedUnder key (take 56 (drop (tree_signature_len key.height key.ots) sig))
      (take (tree_signature_len key.height key.ots) sig)
  pub leads : LeadsThrough n (take 56 (drop (tree_signature_len key.height key.ots) sig)) message
      (drop 56 (drop (tree_signature_len key.height key.ots) sig))

pub lead_cuts : (n : ℕ) (key : PublicKey) (public message sig : List ℕ) → IsKey key public
    → LeadsThrough (suc n) public message sig → LeadCuts n key message sig
lead_cuts n key public message sig is_key (signed, next, rest, e, (key', is_key', under'), leads) =
    let under : IsSignedUnder key next signed =
    subst (λ k. IsSignedUnder k next signed) (one_key key' key public is_key' is_key) under' in
    let len = tree_signature_len key.height key.ots in
    let signed_is = signed_len key next signed under in
    let next_is = leads_len n next message rest leads in
    let right = e ∙ append_assoc signed next rest in
    let front = ap (take len) right ∙ take_at signed (next ++ rest) len signed_is in
    let back = ap (drop len) right ∙ drop_at signed (next ++ rest) len signed_is in
    let middle = ap (take 56) back ∙ take_at next rest 56 next_is in
    let last = ap (drop 56) back ∙ drop_at next rest 56 next_is in
    let whole = ap length e ∙ length-append (signed ++ next) rest in
    let at_front : IsSignedUnder key next (take len sig) = subst (λ x. IsSignedUnder key next x) (sym front) under in
    let at_rest : LeadsThrough n next message (drop 56 (drop len sig)) =
    subst (λ x. LeadsThrough n next message x) (sym last) leads in
    record {
      room = omega (arith, length-append signed next);
      signed = subst (λ x. IsSignedUnder key x (take len sig)) (sym middle) at_front;
      leads = subst (λ x. LeadsThrough n x message (drop 56 (drop len sig))) (sym middle) at_rest;
    }

pub lead_of_cuts : (n : ℕ) (key : PublicKey) (public message sig : List ℕ) → IsKey key public
    → LeadCuts n key message sig → LeadsThrough (suc n) public message sig
lead_of_cuts n key public message sig is_key cuts =
    let len = tree_signature_len key.height key.ots in
    let whole = sym (take-append-drop len sig) ∙ ap (λ x. take len sig ++ x) (sym (take-append-drop 56 (drop len sig)))
    ∙ sym (append_assoc (take len sig) (take 56 (drop len sig)) (drop 56 (drop len sig))) in
    (take len sig, take 56 (drop len sig), drop 56 (drop len sig), whole, (key, is_key, cuts.signed), cuts.leads)

-- a key that doesn't read leads nowhere
pub lead_key : (n : ℕ) (public message sig : List ℕ) → LeadsThrough (suc n) public message sig
    → (key : PublicKey) × IsKey key public
lead_key n public message sig (signed, next, rest, e, (key, is_key, under), leads) = (key, is_key)

-- at n above 0
pub leads_before : (n : ℕ) (public message sig : List ℕ) → 1 ≤ n → LeadsThrough n public message sig →
    LeadsThrough (suc (n - 1)) public message sig
leads_before n public message sig h leads =
    let e : n ≡ suc (n - 1) = omega arith in
    subst (λ k. LeadsThrough k public message sig) e leads

pub leads_after : (n : ℕ) (public message sig : List ℕ) → 1 ≤ n → LeadsThrough (suc (n - 1)) public message sig →
    LeadsThrough n public message sig
leads_after n public message sig h leads =
    let e : suc (n - 1) ≡ n = omega arith in
    subst (λ k. LeadsThrough k public message sig) e leads

-- the levels and the number of signed keys that stand in the bytes
pub verifies_levels : (public message sig : List ℕ) (levels : ℕ) → levels < 2 ^ 32 → u32_bytes levels ≡ take 4 public
    → (v : Verifies public message sig) → levels ≡ v.levels
verifies_levels public message sig levels fits e v =
    let high = v.high in
    u32_bytes-same levels v.levels fits (omega arith)
    (e ∙ ap (take 4) v.public_bytes ∙ take_at (u32_bytes v.levels) v.key 4 (length-u32_bytes v.levels))

pub verifies_count : (public message sig : List ℕ) (count : ℕ) → count < 2 ^ 32 → u32_bytes count ≡ take 4 sig
    → (v : Verifies public message sig) → count ≡ v.levels - 1
verifies_count public message sig count fits e v =
    let high = v.high in
    u32_bytes-same count (v.levels - 1) fits (omega arith)
    (e ∙ ap (take 4) v.sig_bytes ∙ take_at (u32_bytes (v.levels - 1)) v.rest 4 (length-u32_bytes (v.levels - 1)))

pub verifies_leads : (public message sig : List ℕ) (count : ℕ) → count < 2 ^ 32 → u32_bytes count ≡ take 4 sig
    → Verifies public message sig → LeadsThrough count (drop 4 public) message (drop 4 sig)
verifies_leads public message sig count fits e v =
    let same = verifies_count public message sig count fits e v in
    let key = ap (drop 4) v.public_bytes ∙ drop_at (u32_bytes v.levels) v.key 4 (length-u32_bytes v.levels) in
    let rest = ap (drop 4) v.sig_bytes ∙ drop_at (u32_bytes (v.levels - 1)) v.rest 4
    (length-u32_bytes (v.levels - 1)) in
    let at_key : LeadsThrough (v.levels - 1) (drop 4 public) message v.rest =
    subst (λ x. LeadsThrough (v.levels - 1) x message v.rest) (sym key) v.leads in
    let at_rest : LeadsThrough (v.levels - 1) (drop 4 public) message (drop 4 sig) =
    subst (λ x. LeadsThrough (v.levels - 1) (drop 4 public) message x) (sym rest) at_key in
    subst (λ k. LeadsThrough k (drop 4 public) message (drop 4 sig)) (sym same) at_rest

-- bytes with these levels verify, if they lead through that many signed keys
pub leads_verify : (public message sig : List ℕ) (levels count : ℕ) → 1 ≤ levels → levels ≤ 8 → count ≡ levels - 1
    → u32_bytes levels ≡ take 4 public → u32_bytes count ≡ take 4 sig
    → LeadsThrough count (drop 4 public) message (drop 4 sig) → Verifies public message sig
leads_verify public message sig levels count low high e e_levels e_count leads = record {
  levels = levels;
  key = drop 4 public;
  rest = drop 4 sig;
  low = low;
  high = high;
  public_bytes = sym (take-append-drop 4 public) ∙ ap (λ x. x ++ drop 4 public) (sym e_levels);
  sig_bytes = sym (take-append-drop 4 sig) ∙ ap (λ x. x ++ drop 4 sig) (sym e_count ∙ ap u32_bytes e);
  leads = subst (λ k. LeadsThrough k (drop 4 public) message (drop 4 sig)) e leads;
}

-- bytes that verify have room for their first fields
pub verifies_room : (public message sig : List ℕ) → Verifies public message sig → (4 ≤ length public) × (4 ≤ length sig)
verifies_room public message sig v =
    let a = ap length v.public_bytes ∙ length-append (u32_bytes v.levels) v.key in
    let b = ap length v.sig_bytes ∙ length-append (u32_bytes (v.levels - 1)) v.rest in
    (omega (arith, length-u32_bytes v.levels), omega (arith, length-u32_bytes (v.levels - 1)))

-- the same parts under other names
pub parts_of_lead : (n : ℕ) (key : PublicKey) (message sig signed rest next last : List ℕ) (len : ℕ)
    → len ≡ tree_signature_len key.height key.ots → signed ≡ take len sig → rest ≡ drop len sig →
    next ≡ take 56 rest → last ≡ drop 56 rest
    → LeadCuts n key message sig → IsSignedUnder key next signed × LeadsThrough n next message last
parts_of_lead n key message sig signed rest next last len e_len e_signed e_rest e_next e_last cuts =
    let whole_len = tree_signature_len key.height key.ots in
    let at_signed = e_signed ∙ ap (λ k. take k sig) e_len in
    let at_rest = e_rest ∙ ap (λ k. drop k sig) e_len in
    let at_next = e_next ∙ ap (take 56) at_rest in
    let at_last = e_last ∙ ap (drop 56) at_rest in
    let one : IsSignedUnder key next (take whole_len sig) =
    subst (λ x. IsSignedUnder key x (take whole_len sig)) (sym at_next) cuts.signed in
    let two : LeadsThrough n next message (drop 56 (drop whole_len sig)) =
    subst (λ x. LeadsThrough n x message (drop 56 (drop whole_len sig))) (sym at_next) cuts.leads in (
      subst (λ x. IsSignedUnder key next x) (sym at_signed) one,
      subst (λ x. LeadsThrough n next message x) (sym at_last) two,
    )

pub lead_of_parts : (n : ℕ) (key : PublicKey) (message sig signed rest next last : List ℕ) (len : ℕ)
    → len ≡ tree_signature_len key.height key.ots → signed ≡ take len sig → rest ≡ drop len sig →
    next ≡ take 56 rest → last ≡ drop 56 rest
    → len + 56 ≤ length sig → IsSignedUnder key next signed → LeadsThrough n next message last →
    LeadCuts n key message sig
lead_of_parts n key message sig signed rest next last len e_len e_signed e_rest e_next e_last room under leads =
    let whole_len = tree_signature_len key.height key.ots in
    let at_signed = e_signed ∙ ap (λ k. take k sig) e_len in
    let at_rest = e_rest ∙ ap (λ k. drop k sig) e_len in
    let at_next = e_next ∙ ap (take 56) at_rest in
    let at_last = e_last ∙ ap (drop 56) at_rest in
    let one : IsSignedUnder key next (take whole_len sig) = subst (λ x. IsSignedUnder key next x) at_signed under in
    let two : LeadsThrough n next message (drop 56 (drop whole_len sig)) =
    subst (λ x. LeadsThrough n next message x) at_last leads in
    record {
      room = omega arith;
      signed = subst (λ x. IsSignedUnder key x (take whole_len sig)) at_next one;
      leads = subst (λ x. LeadsThrough n x message (drop 56 (drop whole_len sig))) at_next two;
    }

-- an LMS signature has at most 9,324 bytes: height 25 and digits of one bit
signature_len-le : (ots : Ots) → signature_len ots ≤ 8516
signature_len-le W1 = omega arith
signature_len-le W2 = omega arith
signature_len-le W4 = omega arith
signature_len-le W8 = omega arith

tree_len : (public message sig : List ℕ) → TreeVerifies public message sig → length sig ≤ 9324
tree_len public message sig (key, is_key, signed) =
    let len = signed_len key message sig signed in
    let low = height_le key.height is_key.height in
    let ots = signature_len-le key.ots in
    omega arith

-- what leads through n signed keys has at most so many bytes
pub lead_len : (n : ℕ) (public message sig : List ℕ) → LeadsThrough n public message sig → length sig ≤ 9324 + n * 9380
lead_len zero public message sig h = let one = tree_len public message sig h in omega arith
lead_len (suc n) public message sig (signed, next, rest, e, verifies, leads) =
    let first = tree_len public next signed verifies in
    let key = leads_len n next message rest leads in
    let below = lead_len n next message rest leads in
    let whole = ap length e ∙ length-append (signed ++ next) rest in
    omega (arith, length-append signed next)
