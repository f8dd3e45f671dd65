-- Bytes are one public key at most, and a signature is cut in one way.
use Rattle.std.proofs.Common.{◌≡◌, ◌≤◌, ◌<◌, ◌^◌, ◌*◌, ℕ, List, ◌++◌, length, take, drop, sym, ap, ◌∙◌, subst, arith}
use Rattle.std.proofs.Common.{length-append}
use Rattle.wire_parts.specs.Fields.{u32_bytes}
use Rattle.wire_parts.specs.FieldLaws.{length-u32_bytes}
use Rattle.ots_keys.specs.declared.parameters.Ots.{Ots}
use Rattle.ots_keys.specs.Parameters.{type_code, signature_len}
use Rattle.tree_keys.specs.declared.public_key.PublicKey.{PublicKey}
use Rattle.tree_keys.specs.PublicKeys.{tree_code, IsKey, tree_signature_len, LeadsToRoot, IsSignedUnder}
use Rattle.tree_keys.proofs.Heights.{height_le, leaves_le, tree_code-lt, tree_code-inj, type_code-lt, type_code-inj}
use Rattle.tree_keys.proofs.Parts.{AreCuts, cuts_of_parts, parts_of_cuts, u32_bytes-same}

pub key_cuts : (key : PublicKey) (bytes : List ℕ) → IsKey key bytes
    → AreCuts 4 4 16 bytes (u32_bytes (tree_code key.height)) (u32_bytes (type_code key.ots)) key.id key.root
key_cuts key bytes is_key =
    cuts_of_parts 4 4 16 bytes _ _ _ _ (length-u32_bytes (tree_code key.height))
    (length-u32_bytes (type_code key.ots)) is_key.id is_key.spelled

pub key_len : (key : PublicKey) (bytes : List ℕ) → IsKey key bytes → length bytes ≡ 56
key_len key bytes is_key =
    let a = u32_bytes (tree_code key.height) in
    let b = u32_bytes (type_code key.ots) in
    let id = is_key.id in
    let root = is_key.root in
    ap length is_key.spelled ∙ omega (
      arith,
      length-append (a ++ b ++ key.id) key.root,
      length-append (a ++ b) key.id,
      length-append a b,
      length-u32_bytes (tree_code key.height),
      length-u32_bytes (type_code key.ots),
    )

-- the codes that stand in a key are its own
pub key_code : (key : PublicKey) (bytes : List ℕ) (code : ℕ) → code < 2 ^ 32 →
    u32_bytes code ≡ take 4 bytes → IsKey key bytes
    → tree_code key.height ≡ code
key_code key bytes code fits e is_key =
    u32_bytes-same _ _ (tree_code-lt key.height (height_le key.height is_key.height)) fits
    (sym (e ∙ (key_cuts key bytes is_key).first))

pub key_ots_code : (key : PublicKey) (bytes : List ℕ) (code : ℕ) → code < 2 ^ 32 →
    u32_bytes code ≡ take 4 (drop 4 bytes) → IsKey key bytes
    → type_code key.ots ≡ code
key_ots_code key bytes code fits e is_key =
    u32_bytes-same _ _ (type_code-lt key.ots) fits (sym (e ∙ (key_cuts key bytes is_key).second))

-- a key is its four fields
key_of : ℕ → Ots → List ℕ → List ℕ → PublicKey
key_of height ots id root = record { height = height; ots = ots; id = id; root = root }

same_fields : (a b : PublicKey) → a.height ≡ b.height → a.ots ≡ b.ots → a.id ≡ b.id → a.root ≡ b.root → a ≡ b
unfolding key_of
same_fields a b h o i r =
    ap (λ x. key_of x a.ots a.id a.root) h ∙ ap (λ x. key_of b.height x a.id a.root) o
    ∙ ap (λ x. key_of b.height b.ots x a.root) i ∙ ap (key_of b.height b.ots b.id) r

-- bytes are one public key at most
pub one_key : (a b : PublicKey) (bytes : List ℕ) → IsKey a bytes → IsKey b bytes → a ≡ b
one_key a b bytes ka kb =
    let ca = key_cuts a bytes ka in
    let cb = key_cuts b bytes kb in
    let fits = tree_code-lt a.height (height_le a.height ka.height) in
    same_fields a b
    (tree_code-inj a.height b.height ka.height kb.height
    (sym (key_code b bytes (tree_code a.height) fits (sym ca.first) kb)))
    (type_code-inj a.ots b.ots (sym (key_ots_code b bytes (type_code a.ots) (type_code-lt a.ots) (sym ca.second) kb)))
    (sym ca.third ∙ cb.third) (sym ca.fourth ∙ cb.fourth)

pub signed_len : (key : PublicKey) (message sig : List ℕ) → IsSignedUnder key message sig →
    length sig ≡ tree_signature_len key.height key.ots
signed_len key message sig signed =
    let a = u32_bytes signed.q in
    let code = u32_bytes (tree_code key.height) in
    let ots_len = signed.leads.form.len in
    let path_len = signed.levels in
    ap length signed.spelled ∙ omega (
      arith,
      length-append (a ++ signed.ots_sig ++ code) signed.path,
      length-append (a ++ signed.ots_sig) code,
      length-append a signed.ots_sig,
      length-u32_bytes signed.q,
      length-u32_bytes (tree_code key.height),
    )

-- the cuts of a signature
pub signed_cuts : (key : PublicKey) (message sig : List ℕ) (signed : IsSignedUnder key message sig)
    → AreCuts 4 (signature_len key.ots) 4 sig (u32_bytes signed.q) signed.ots_sig
    (u32_bytes (tree_code key.height)) signed.path
signed_cuts key message sig signed =
    cuts_of_parts 4 (signature_len key.ots) 4 sig _ _ _ _ (length-u32_bytes signed.q) signed.leads.form.len
    (length-u32_bytes (tree_code key.height)) signed.spelled

-- a signature under a key has the number q of a leaf in its first bytes, and the key's type code
pub signed_leaf : (key : PublicKey) (message sig : List ℕ) (q : ℕ) → q < 2 ^ 32 → key.height ≤ 25 →
    u32_bytes q ≡ take 4 sig
    → (signed : IsSignedUnder key message sig) → q ≡ signed.q
signed_leaf key message sig q fits low e signed =
    let top = leaves_le key.height low in
    let leaf = signed.leaf in
    u32_bytes-same q signed.q fits (omega arith) (e ∙ (signed_cuts key message sig signed).first)

pub signed_code : (key : PublicKey) (message sig : List ℕ) (code : ℕ) → code < 2 ^ 32 → key.height ≤ 25
    → u32_bytes code ≡ take 4 (drop (signature_len key.ots) (drop 4 sig)) → IsSignedUnder key message sig →
    code ≡ tree_code key.height
signed_code key message sig code fits low e signed =
    u32_bytes-same code _ fits (tree_code-lt key.height low) (e ∙ (signed_cuts key message sig signed).third)

-- the parts that were cut out lead to the root, if the signature is one
pub signed_leads : (key : PublicKey) (message sig : List ℕ) (q : ℕ) (ots_sig path : List ℕ) →
    q < 2 ^ 32 → key.height ≤ 25
    → u32_bytes q ≡ take 4 sig → ots_sig ≡ take (signature_len key.ots) (drop 4 sig) →
    path ≡ drop 4 (drop (signature_len key.ots) (drop 4 sig))
    → IsSignedUnder key message sig → LeadsToRoot key q message ots_sig path
signed_leads key message sig q ots_sig path fits low e_q e_ots e_path signed =
    let cuts = signed_cuts key message sig signed in
    let leaf = signed_leaf key message sig q fits low e_q signed in
    let at_q : LeadsToRoot key q message signed.ots_sig signed.path =
    subst (λ x. LeadsToRoot key x message signed.ots_sig signed.path) (sym leaf) signed.leads in
    let at_ots : LeadsToRoot key q message ots_sig signed.path = subst (λ x. LeadsToRoot key q message x signed.path)
    (sym (e_ots ∙ cuts.second)) at_q in
    subst (λ x. LeadsToRoot key q message ots_sig x) (sym (e_path ∙ cuts.fourth)) at_ots

-- the parts that were cut out make a signature, if they lead to the root
pub leads_signed : (key : PublicKey) (message sig : List ℕ) (q code : ℕ) (ots_sig path : List ℕ) → q < 2 ^ key.height
    → length path ≡ 32 * key.height → code ≡ tree_code key.height
    → u32_bytes q ≡ take 4 sig → ots_sig ≡ take (signature_len key.ots) (drop 4 sig)
    → u32_bytes code ≡ take 4 (drop (signature_len key.ots) (drop 4 sig)) →
    path ≡ drop 4 (drop (signature_len key.ots) (drop 4 sig))
    → LeadsToRoot key q message ots_sig path → IsSignedUnder key message sig
leads_signed key message sig q code ots_sig path leaf len e_code e_q e_ots e_c e_path leads = record {
  q = q;
  ots_sig = ots_sig;
  path = path;
  spelled = parts_of_cuts 4 (signature_len key.ots) 4 sig _ _ _ _ (record {
    first = sym e_q;
    second = sym e_ots;
    third = sym e_c ∙ ap u32_bytes e_code;
    fourth = sym e_path;
  });
  leaf = leaf;
  levels = len;
  leads = leads;
}
