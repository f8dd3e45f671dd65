-- The frames about a request certify what all frames certify.
use Rattle.std.proofs.Common.{◌≡◌, ℕ, Bool, true, false, cond, ◌&&◌, List, [], ◌∷◌, ◌++◌, Option, Some, None, filter}
use Rattle.std.proofs.Common.{nat_eq, refl, sym, ◌∙◌, ap, subst, append_assoc, append-nil}
use Rattle.std.specs.List.{find}
use Rattle.std.specs.Str.{bytes_eq}
use Rattle.std.proofs.Math.Path.{fun_ext}
use Rattle.std.proofs.lemmas.List.Elements.{filter-append}
use Rattle.std.proofs.lemmas.Map.Views.{any-filter_same}
use Rattle.plain_lists.specs.Lists.{IsIn, Within}
use Rattle.plain_lists.proofs.Members.{in_left}
use Rattle.message_types.specs.declared.signed.Signed.{Signed}
use Rattle.message_types.specs.declared.body.Body.{Body}
use Rattle.message_types.specs.declared.body.Body.TheVariants as body
use Rattle.message_types.specs.Digests.{digest_of_update}
use Rattle.quorum_sets.specs.Quorum.{has_quorum}
use Rattle.protocol_rules.specs.Words.{or_else, first_met}
use Rattle.protocol_rules.specs.Group.{Group}
use Rattle.protocol_rules.specs.Preorder.{certified, is_ack, is_acked, update_requested, updates_requested}
use Rattle.intruder_words.specs.Certifying.{is_about, first_acked}
use Rattle.protocol_rules.proofs.FirstMet.{met-again}
use Rattle.plain_lists.proofs.Lists.{filter_map-filter}

-- what was met first in the elements that count was met first in all
met-kept : {F X : Type 0} (met : List F → Option X) (p : F → Bool) (seen xs : List F) (x : F) (b : Bool) → p x ≡ b →
    met (filter p seen) ≡ met seen →
    first_met met (filter p (seen ++ x ∷ [])) (filter p xs) ≡ first_met met (seen ++ x ∷ []) xs →
    first_met met (filter p seen) (cond b (x ∷ filter p xs) (filter p xs)) ≡ or_else (met seen)
    (first_met met (seen ++ x ∷ []) xs)
unfolding first_met
met-kept met p seen xs x true e now rest =
    let next : filter p (seen ++ x ∷ []) ≡ filter p seen ++ x ∷ [] = filter-append p seen (x ∷ [])
    ∙ ap (λ b. filter p seen ++ cond b (x ∷ []) []) e in
    ap (λ o. or_else o (first_met met (filter p seen ++ x ∷ []) (filter p xs))) now
    ∙ ap (λ ys. or_else (met seen) (first_met met ys (filter p xs))) (sym next)
    ∙ ap (or_else (met seen)) rest
met-kept met p seen xs x false e now rest =
    let next : filter p (seen ++ x ∷ []) ≡ filter p seen = filter-append p seen (x ∷ [])
    ∙ ap (λ b. filter p seen ++ cond b (x ∷ []) []) e ∙ append-nil (filter p seen) in
    sym (met-again met (filter p seen) (filter p xs))
    ∙ ap (λ o. or_else o (first_met met (filter p seen) (filter p xs))) now
    ∙ ap (λ ys. or_else (met seen) (first_met met ys (filter p xs))) (sym next)
    ∙ ap (or_else (met seen)) rest

pub met-filter : {F X : Type 0} (met : List F → Option X) (p : F → Bool) (all : List F) →
    ((beginning : List F) → Within beginning all → met (filter p beginning) ≡ met beginning) →
    (seen xs : List F) → Within (seen ++ xs) all → first_met met (filter p seen) (filter p xs) ≡ first_met met seen xs
unfolding first_met
met-filter {F} met p all same seen [] h =
    same seen (λ x k. h x (subst (λ (zs : List F). IsIn x zs) (sym (append-nil seen)) k))
met-filter {F} met p all same seen (x ∷ xs) h =
    met-kept met p seen xs x (p x) refl (same seen (λ y k. h y (in_left (x ∷ xs) k)))
    (met-filter met p all same (seen ++ x ∷ []) xs
    (λ y k. h y (subst (λ (zs : List F). IsIn y zs) (append_assoc seen (x ∷ []) xs) k)))

request_body : (j k signer : ℕ) (b : Body) (sig : List ℕ) →
    is_about j k record { signer = signer; body = b; sig = sig } ≡ false →
    update_requested j k record { signer = signer; body = b; sig = sig } ≡ None
request_body j k signer (body.PoRequest b) sig e = ap (λ c. cond c (Some b.update.body) None) e
request_body j k signer _ sig e = refl

ack_body : (j k : ℕ) (digest : List ℕ) (master signer : ℕ) (b : Body) (sig : List ℕ) →
    is_ack j k digest master record { signer = signer; body = b; sig = sig } ≡ true →
    is_about j k record { signer = signer; body = b; sig = sig } ≡ true
ack_body j k digest master signer (body.PoAck b) sig e = both (nat_eq signer master) (nat_eq b.j j) (nat_eq b.k k)
    (bytes_eq b.digest digest) e
  where
    both : (a b c d : Bool) → (((a && b) && c) && d) ≡ true → (b && c) ≡ true
    both true true true d e = refl
    both true true false d e = absurd (cc)
    both true false c d e = absurd (cc)
    both false b c d e = absurd (cc)
ack_body j k digest master signer _ sig e = absurd (cc)

pub certified-few : (g : Group) (known : List (Signed Body)) (j k : ℕ) →
    certified g (filter (is_about j k) known) j k ≡ certified g known j k
unfolding certified
certified-few g known j k = met-filter (first_acked g j k) (is_about j k) known same [] known (λ x h. h)
  where
    same : (beginning : List (Signed Body)) → Within beginning known →
        first_acked g j k (filter (is_about j k) beginning) ≡ first_acked g j k beginning
    same beginning h =
        ap (λ us. find (λ u. is_acked g (filter (is_about j k) beginning) j k (digest_of_update u)) us)
        (filter_map-filter (update_requested j k) (is_about j k) (λ f e. request_body j k f.signer f.body f.sig e)
        beginning)
        ∙ ap (λ t. find t (updates_requested beginning j k)) (fun_ext (λ u. ap (has_quorum g.n g.q) (fun_ext (λ master.
        any-filter_same (is_ack j k (digest_of_update u) master) (is_about j k) true
        (λ f e. ack_body j k (digest_of_update u) master f.signer f.body f.sig e) beginning))))

pub certified-is : (g : Group) (known : List (Signed Body)) (j k : ℕ) →
    certified g known j k ≡ first_met (first_acked g j k) [] known
unfolding certified
certified-is g known j k = refl
