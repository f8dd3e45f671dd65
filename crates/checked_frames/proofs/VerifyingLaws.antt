-- The test `verifies` is true exactly where the relation `Verifies` holds.
use Rattle.std.proofs.Common.{◌≡◌, ◌≤◌, ◌<◌, ◌+◌, ◌-◌, ◌*◌, ◌/◌, ◌^◌, ℕ, zero, suc, Bool, true, false, ◌&&◌, List}
use Rattle.std.proofs.Common.{◌++◌, length, take, drop, refl, sym, ap, ◌∙◌, subst, arith, nat_eq, nat_lt, nat_le}
use Rattle.std.proofs.Common.{le-leb}
use Rattle.std.specs.Bool.{Decides}
use Rattle.std.specs.Option.{option_map_or}
use Rattle.std.specs.Str.{bytes_eq}
use Rattle.std.proofs.lemmas.Bool.{leb-true}
use Rattle.std.proofs.lemmas.Bool.Decides.{Decides-like, Decides-and, Decides-eqb, Decides-ltb, same_from_decides}
use Rattle.std.proofs.lemmas.List.{length-take, length-drop, drop_at, take_at}
use Rattle.std.proofs.lemmas.Slice.Eq.{bytes_eq-Decides}
use Rattle.byteorder.specs.Endian.{big_number}
use Rattle.wire_parts.specs.Fields.{u32_bytes}
use Rattle.wire_parts.specs.FieldLaws.{length-u32_bytes}
use Rattle.ots_keys.specs.Parameters.{type_code, signature_len}
use Rattle.ots_keys.specs.Keys.{candidate}
use Rattle.tree_keys.specs.declared.public_key.PublicKey.{PublicKey}
use Rattle.tree_keys.specs.Nodes.{leaf_hash, climbed}
use Rattle.tree_keys.specs.PublicKeys.{IsTreeHeight, IsKey, tree_signature_len, signature_bytes, IsSignedUnder}
use Rattle.tree_keys.specs.PublicKeys.{TreeVerifies}
use Rattle.tree_keys.proofs.Heights.{height_le, leaves_le}
use Rattle.tree_keys.proofs.KeyLaws.{signed_cuts}
use Rattle.hash_signatures.specs.Verification.{LeadsThrough, Verifies}
use Rattle.hash_signatures.proofs.LeadLaws.{LeadCuts, lead_cuts, lead_of_cuts, lead_key, leads_len}
use Rattle.checked_frames.specs.Verifying.{key_in, fields_lead, signed_under, leads_through, verifies}
use Rattle.checked_frames.proofs.KeyReads.{number_front, of_key-Decides}

Decides-leb : (a b : ℕ) → Decides (nat_le a b) (a ≤ b)
Decides-leb a b = (leb-true a b, le-leb a b)

-- the facts that a signature's fields are tested for
pub record Fields (key : PublicKey) (message sig : List ℕ) (q : ℕ) (ots_sig path : List ℕ) : Type 0 where
  pub spelled : sig ≡ signature_bytes key.height q ots_sig path
  pub leaf : q < 2 ^ key.height
  pub levels : length path ≡ 32 * key.height
  pub code : take 4 ots_sig ≡ u32_bytes (type_code key.ots)
  pub len : length ots_sig ≡ signature_len key.ots
  pub root : climbed key.id path (2 ^ key.height + q)
      (leaf_hash key.id (2 ^ key.height + q) (candidate key.ots key.id q message ots_sig)) key.height ≡ key.root

fields-Decides : (key : PublicKey) (message sig : List ℕ) (q : ℕ) (ots_sig path : List ℕ)
    → Decides (fields_lead key message sig q ots_sig path) (Fields key message sig q ots_sig path)
fields-Decides key message sig q ots_sig path =
    let r = 2 ^ key.height + q in
    let top = climbed key.id path r (leaf_hash key.id r (candidate key.ots key.id q message ots_sig)) key.height in
    let a = bytes_eq sig (signature_bytes key.height q ots_sig path) in
    let b = nat_lt q (2 ^ key.height) in
    let c = nat_eq (length path) (32 * key.height) in
    let d = bytes_eq (take 4 ots_sig) (u32_bytes (type_code key.ots)) in
    let e = nat_eq (length ots_sig) (signature_len key.ots) in
    let two = Decides-and a b (bytes_eq-Decides sig (signature_bytes key.height q ots_sig path))
    (Decides-ltb q (2 ^ key.height)) in
    let three = Decides-and (a && b) c two (Decides-eqb (length path) (32 * key.height)) in
    let four = Decides-and (a && b && c) d three (bytes_eq-Decides (take 4 ots_sig) (u32_bytes (type_code key.ots))) in
    let five = Decides-and (a && b && c && d) e four (Decides-eqb (length ots_sig) (signature_len key.ots)) in
    let six = Decides-and (a && b && c && d && e) (bytes_eq top key.root) five (bytes_eq-Decides top key.root) in
    Decides-like (fields_lead key message sig q ots_sig path)
    (λ t. record {
      spelled = t.0.0.0.0.0;
      leaf = t.0.0.0.0.1;
      levels = t.0.0.0.1;
      code =
          t.0.0.1;
      len = t.0.1;
      root = t.1;
    })
    (λ f. (((((f.spelled, f.leaf), f.levels), f.code), f.len), f.root))
    six

-- a signature's fields are those that stand in it
signed_under-Decides : (key : PublicKey) (message sig : List ℕ) → IsTreeHeight key.height
    → Decides (signed_under key message sig) (IsSignedUnder key message sig)
unfolding signed_under
signed_under-Decides key message sig height = (forward, backward)
  where
    n : ℕ
    n = signature_len key.ots

    forward : signed_under key message sig ≡ true → IsSignedUnder key message sig
    forward t =
        let f = (fields-Decides key message sig (big_number 4 sig) (take (signature_len key.ots) (drop 4 sig))
        (drop 4 (drop (signature_len key.ots) (drop 4 sig)))).0 t in
        record {
          q = big_number 4 sig;
          ots_sig = take (signature_len key.ots) (drop 4 sig);
          path = drop 4 (drop (signature_len key.ots) (drop 4 sig));
          spelled = f.spelled;
          leaf = f.leaf;
          levels = f.levels;
          leads = record { form = record { code = f.code; len = f.len }; root = f.root };
        }

    backward : IsSignedUnder key message sig → signed_under key message sig ≡ true
    backward s =
        let cuts = signed_cuts key message sig s in
        let top = leaves_le key.height (height_le key.height height) in
        let leaf = s.leaf in
        let q : big_number 4 sig ≡ s.q = number_front sig s.q (omega arith) cuts.first in
        let fields : Fields key message sig s.q s.ots_sig s.path =
        record {
          spelled = s.spelled;
          leaf = s.leaf;
          levels = s.levels;
          code = s.leads.form.code;
          len =
              s.leads.form.len;
          root = s.leads.root;
        } in
        ap (λ x. fields_lead key message sig x (take (signature_len key.ots) (drop 4 sig))
        (drop 4 (drop (signature_len key.ots) (drop 4 sig)))) q
        ∙ ap (λ x. fields_lead key message sig s.q x (drop 4 (drop (signature_len key.ots) (drop 4 sig)))) cuts.second
        ∙ ap (λ x. fields_lead key message sig s.q s.ots_sig x) cuts.fourth
        ∙ (fields-Decides key message sig s.q s.ots_sig s.path).1 fields

cuts_of : (n : ℕ) (key : PublicKey) (message sig : List ℕ)
    → IsSignedUnder key (take 56 (drop (tree_signature_len key.height key.ots) sig))
    (take (tree_signature_len key.height key.ots) sig)
    → LeadsThrough n (take 56 (drop (tree_signature_len key.height key.ots) sig)) message
    (drop 56 (drop (tree_signature_len key.height key.ots) sig))
    → LeadCuts n key message sig
cuts_of n key message sig signed leads =
    let len = tree_signature_len key.height key.ots in
    let next = leads_len n _ message _ leads in
    let cut = length-take 56 (drop len sig) in
    let behind = length-drop len sig in
    record { room = omega arith; signed = signed; leads = leads }

-- what leads on through one more signed key
lead_tests : (n : ℕ) (public message sig : List ℕ)
    → ((next rest : List ℕ) → Decides (leads_through n next message rest) (LeadsThrough n next message rest))
    → Decides (leads_through (suc n) public message sig) (LeadsThrough (suc n) public message sig)
lead_tests n public message sig below =
    let test : PublicKey → Bool = λ key.
    signed_under key (take 56 (drop (tree_signature_len key.height key.ots) sig))
    (take (tree_signature_len key.height key.ots) sig)
    && leads_through n (take 56 (drop (tree_signature_len key.height key.ots) sig)) message
    (drop 56 (drop (tree_signature_len key.height key.ots) sig)) in
    let each : (key : PublicKey) → IsKey key public → Decides (test key) (LeadCuts n key message sig) = λ key is.
    let len = tree_signature_len key.height key.ots in
    let behind = drop len sig in
    Decides-like (test key) (λ both. cuts_of n key message sig both.0 both.1) (λ cuts. (cuts.signed, cuts.leads))
    (Decides-and (signed_under key (take 56 behind) (take len sig))
    (leads_through n (take 56 behind) message (drop 56 behind))
    (signed_under-Decides key (take 56 behind) (take len sig) is.height) (below (take 56 behind) (drop 56 behind))) in
    Decides-like (leads_through (suc n) public message sig)
    (λ (key, is, cuts). lead_of_cuts n key public message sig is cuts)
    (λ leads. let (key, is) = lead_key n public message sig leads in
    (key, is, lead_cuts n key public message sig is leads))
    (of_key-Decides test (λ key. LeadCuts n key message sig) public each)

leads_through-Decides : (n : ℕ) (public message sig : List ℕ) →
    Decides (leads_through n public message sig) (LeadsThrough n public message sig)
leads_through-Decides zero public message sig =
    of_key-Decides (λ key. signed_under key message sig) (λ key. IsSignedUnder key message sig) public
    (λ key is. signed_under-Decides key message sig is.height)
leads_through-Decides (suc n) public message sig =
    lead_tests n public message sig (λ next rest. leads_through-Decides n next message rest)

-- the levels that stand in front of bytes that verify
verified_levels : (public message sig : List ℕ) (v : Verifies public message sig) → big_number 4 public ≡ v.levels
verified_levels public message sig v =
    let high = v.high in
    number_front public v.levels (omega arith)
    (ap (take 4) v.public_bytes ∙ take_at (u32_bytes v.levels) v.key 4 (length-u32_bytes v.levels))

-- the facts that the bytes are tested for
record Whole (public message sig : List ℕ) (levels : ℕ) : Type 0 where
  low : 1 ≤ levels
  high : levels ≤ 8
  public_bytes : public ≡ u32_bytes levels ++ drop 4 public
  sig_bytes : sig ≡ u32_bytes (levels - 1) ++ drop 4 sig
  leads : LeadsThrough (levels - 1) (drop 4 public) message (drop 4 sig)

whole-Decides : (public message sig : List ℕ) →
    Decides (verifies public message sig) (Whole public message sig (big_number 4 public))
unfolding verifies
whole-Decides public message sig =
    let levels = big_number 4 public in
    let a = nat_le 1 levels in
    let b = nat_le levels 8 in
    let c = bytes_eq public (u32_bytes levels ++ drop 4 public) in
    let d = bytes_eq sig (u32_bytes (levels - 1) ++ drop 4 sig) in
    let e = leads_through (levels - 1) (drop 4 public) message (drop 4 sig) in
    let two = Decides-and a b (Decides-leb 1 levels) (Decides-leb levels 8) in
    let three = Decides-and (a && b) c two (bytes_eq-Decides public (u32_bytes levels ++ drop 4 public)) in
    let four = Decides-and (a && b && c) d three (bytes_eq-Decides sig (u32_bytes (levels - 1) ++ drop 4 sig)) in
    let five = Decides-and (a && b && c && d) e four
    (leads_through-Decides (levels - 1) (drop 4 public) message (drop 4 sig)) in
    Decides-like (a && b && c && d && e)
    (λ t. record { low = t.0.0.0.0; high = t.0.0.0.1; public_bytes = t.0.0.1; sig_bytes = t.0.1; leads = t.1 })
    (λ w. ((((w.low, w.high), w.public_bytes), w.sig_bytes), w.leads))
    five

whole_verifies : (public message sig : List ℕ) (levels : ℕ) → Whole public message sig levels →
    Verifies public message sig
whole_verifies public message sig levels w = record {
  levels = levels;
  key = drop 4 public;
  rest = drop 4 sig;
  low = w.low;
  high = w.high;
  public_bytes = w.public_bytes;
  sig_bytes = w.sig_bytes;
  leads = w.leads;
}

verifies_whole : (public message sig : List ℕ) → (v : Verifies public message sig) → Whole public message sig v.levels
verifies_whole public message sig v =
    let key = ap (drop 4) v.public_bytes ∙ drop_at (u32_bytes v.levels) v.key 4 (length-u32_bytes v.levels) in
    let rest = ap (drop 4) v.sig_bytes ∙ drop_at (u32_bytes (v.levels - 1)) v.rest 4
    (length-u32_bytes (v.levels - 1)) in
    let at_key : LeadsThrough (v.levels - 1) (drop 4 public) message v.rest =
    subst (λ x. LeadsThrough (v.levels - 1) x message v.rest) (sym key) v.leads in
    record {
      low = v.low;
      high = v.high;
      public_bytes = v.public_bytes ∙ ap (λ x. u32_bytes v.levels ++ x) (sym key);
      sig_bytes = v.sig_bytes ∙ ap (λ x. u32_bytes (v.levels - 1) ++ x) (sym rest);
      leads = subst (λ x. LeadsThrough (v.levels - 1) (drop 4 public) message x) (sym rest) at_key;
    }

pub verifies-Decides : (public message sig : List ℕ) →
    Decides (verifies public message sig) (Verifies public message sig)
verifies-Decides public message sig =
    Decides-like (verifies public message sig)
    (λ w. whole_verifies public message sig (big_number 4 public) w)
    (λ v. subst (Whole public message sig) (sym (verified_levels public message sig v))
    (verifies_whole public message sig v))
    (whole-Decides public message sig)

-- an answer that is true exactly where the relation holds is the test
pub verifies_answer : (public message sig : List ℕ) (r : Bool) → Decides r (Verifies public message sig) →
    r ≡ verifies public message sig
verifies_answer public message sig r h = same_from_decides r (verifies public message sig) h
    (verifies-Decides public message sig)
