-- Posts that are made of frames one after another.
use Rattle.std.proofs.Common.{◌≡◌, ℕ, suc, ◌+◌, true, ◌&&◌, List, [], ◌∷◌, ◌++◌, length, sym, ◌∙◌, ap, subst, arith}
use Rattle.std.proofs.Common.{append_assoc}
use Rattle.std.specs.List.{list_all}
use Rattle.std.proofs.lemmas.Bool.{and_parts}
use Rattle.std.proofs.lemmas.List.{append-nil, length_push}
use Rattle.message_types.specs.declared.signed.Signed.{Signed}
use Rattle.message_types.specs.declared.body.Body.{Body}
use Rattle.history_rules.specs.Setup.{Setup, stands}
use Rattle.world_rules.specs.Frames.{addressees}
use Rattle.run_scripts.specs.declared.mail.Post.{Post}
use Rattle.run_scripts.specs.Mail.{post_to, posts_from}
use Rattle.global_order.proofs.Settling.{none_left}

pub posts_start : (w : Setup) (from stamp : ℕ) (posts : List Post) (frames : List (Signed Body)) → posts ≡ []
    → posts ++ posts_from w from stamp (length posts) frames ≡ posts_from w from stamp 0 frames
posts_start w from stamp posts frames none =
    ap (λ (ps : List Post). ps ++ posts_from w from stamp (length ps) frames) none

pub posts_more : (w : Setup) (from stamp place : ℕ) (old new all : List Post) (p : Post) (f : Signed Body)
    (left rest : List (Signed Body)) → left ≡ f ∷ rest → place ≡ length old
    → p ≡ post_to (addressees w.group from f.body) w from stamp place f → new ≡ old ++ p ∷ [] →
    old ++ posts_from w from stamp (length old) left ≡ all
    → new ++ posts_from w from stamp (length new) rest ≡ all
posts_more w from stamp place old new all p f left rest steps count made more was =
    let next : length (old ++ p ∷ []) ≡ suc (length old) = omega (arith, length_push old p) in
    ap (λ (ps : List Post). ps ++ posts_from w from stamp (length ps) rest) more
    ∙ ap (λ (n : ℕ). (old ++ p ∷ []) ++ posts_from w from stamp n rest) next
    ∙ append_assoc old (p ∷ []) (posts_from w from stamp (suc (length old)) rest)
    ∙ ap (λ (x : Post). old ++ x ∷ posts_from w from stamp (suc (length old)) rest)
    (made ∙ ap (λ (n : ℕ). post_to (addressees w.group from f.body) w from stamp n f) count)
    ∙ sym (ap (λ (fs : List (Signed Body)). old ++ posts_from w from stamp (length old) fs) steps)
    ∙ was

pub posts_end : (w : Setup) (from stamp : ℕ) (posts all : List Post) (left : List (Signed Body)) → length left ≡ 0 →
    posts ++ posts_from w from stamp (length posts) left ≡ all → posts ≡ all
posts_end w from stamp posts all left none was =
    sym (append-nil posts) ∙ ap (λ (fs : List (Signed Body)). posts ++ posts_from w from stamp (length posts) fs)
    (sym (none_left left none)) ∙ was

pub first_stands : (w : Setup) (f : Signed Body) (left rest : List (Signed Body)) → left ≡ f ∷ rest →
    list_all (stands w) left ≡ true → (stands w f ≡ true) × (list_all (stands w) rest ≡ true)
first_stands w f left rest steps all = and_parts (stands w f) (list_all (stands w) rest)
    (ap (list_all (stands w)) (sym steps) ∙ all)
