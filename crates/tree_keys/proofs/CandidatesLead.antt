-- One-time keys that are found apart from the roots that they lead to.
use Rattle.std.proofs.Common.{◌≡◌, ℕ, List, ap, sym, subst, ◌∙◌}
use Rattle.std.specs.Prelude.{◌↔◌}
use Rattle.ots_keys.specs.declared.parameters.Ots.{Ots}
use Rattle.ots_keys.specs.Keys.{candidate, IsSignatureForm}
use Rattle.tree_keys.specs.declared.public_key.PublicKey.{PublicKey}
use Rattle.tree_keys.specs.PublicKeys.{ClimbsToRoot, LeadsToRoot}

-- the key's own type, and the candidate under it
pub leads_by : (key : PublicKey) (ots : Ots) (q : ℕ) (message ots_sig path found : List ℕ) → key.ots ≡ ots
    → IsSignatureForm ots ots_sig → found ≡ candidate ots key.id q message ots_sig
    → ClimbsToRoot key q found path ↔ LeadsToRoot key q message ots_sig path
leads_by key ots q message ots_sig path found same form e =
    let own : found ≡ candidate key.ots key.id q message ots_sig =
    e ∙ ap (λ (o : Ots). candidate o key.id q message ots_sig) (sym same) in (
      (λ climbs. record {
        form = subst (λ (o : Ots). IsSignatureForm o ots_sig) (sym same) form;
        root = subst (λ (k : List ℕ). ClimbsToRoot key q k path) own climbs;
      }),
      (λ leads. subst (λ (k : List ℕ). ClimbsToRoot key q k path) (sym own) leads.root),
    )

-- the candidate of the same parts
pub same_candidate : (ots : Ots) (id id' : List ℕ) (q q' : ℕ) (message message' sig sig' : List ℕ) → id ≡ id' → q ≡ q'
    → message ≡ message' → sig ≡ sig' → candidate ots id q message sig ≡ candidate ots id' q' message' sig'
same_candidate ots id id' q q' message message' sig sig' e_id e_q e_message e_sig =
    ap (λ (x : List ℕ). candidate ots x q message sig) e_id ∙ ap (λ (x : ℕ). candidate ots id' x message sig) e_q
    ∙ ap (λ (x : List ℕ). candidate ots id' q' x sig) e_message ∙ ap (λ (x : List ℕ). candidate ots id' q' message' x) e_sig

-- the form under the type that all keys have
pub form_by : (key : PublicKey) (ots : Ots) (q : ℕ) (message ots_sig path : List ℕ) → key.ots ≡ ots
    → LeadsToRoot key q message ots_sig path → IsSignatureForm ots ots_sig
form_by key ots q message ots_sig path same leads = subst (λ (o : Ots). IsSignatureForm o ots_sig) same leads.form
