-- The different texts and their digests: what one text more changes.
use Rattle.std.proofs.Common.{◌≡◌, ℕ, ◌+◌, Bool, true, false, cond, not, ◌||◌, List, [], ◌∷◌, ◌++◌, map, length}
use Rattle.std.proofs.Common.{append_assoc, refl, sym, ◌∙◌, ap, arith, length-append, if◌then◌else◌}
use Rattle.std.proofs.lemmas.List.{map-append}
use Rattle.std.proofs.lemmas.List.Folds.{list_any-append}
use Rattle.std.specs.List.{list_any}
use Rattle.std.specs.Str.{bytes_eq}
use Rattle.std.specs.declared.alloc.Global.{Global}
use Rattle.std.specs.declared.vec.Vec.{Vec}
use Rattle.sha2.specs.Sha256.{sha256}
use Rattle.indexmap.specs.IndexSet.{contains, insert_key}
use Rattle.history_rules.specs.Counts.{alike_from}
use Rattle.history_audit.specs.declared.texts.Texts.{Texts}
use Rattle.history_audit.specs.Texts.{different, AreTexts}
use Rattle.history_audit.proofs.Loops.{any_map}
use Rattle.plain_lists.proofs.Booleans.{bytes_eq-swap}

-- the texts have this one
abbrev has_text : Texts → List ℕ → Bool
has_text kept text = list_any (λ (k : Vec ℕ Global). bytes_eq text k.items) kept.texts.keys

has_different : (kept : Texts) (text : List ℕ) → list_any (bytes_eq text) (different kept) ≡ has_text kept text
has_different kept text = any_map (bytes_eq text) (λ (k : Vec ℕ Global). k.items) kept.texts.keys

-- the count of a text and those behind it, by whether it came before and whether its digest did
abbrev counted_with : Bool → Bool → List (List ℕ) → List ℕ → List (List ℕ) → ℕ
counted_with known shared earlier text rest =
    cond known (alike_from earlier rest) (cond shared 1 0 + alike_from (earlier ++ text ∷ []) rest)

-- a text that came before changes nothing
pub text_known : (given : List (List ℕ)) (kept : Texts) (text : List ℕ) → true ≡ has_text kept text →
    AreTexts given kept → AreTexts (given ++ text ∷ []) kept
text_known given kept text known are = record {
  counted = λ rest.
      ap (λ (ts : List (List ℕ)). alike_from [] ts + length kept.digests.keys) (append_assoc given (text ∷ []) rest)
      ∙ are.counted (text ∷ rest)
      ∙ ap (λ (b : Bool). length kept.texts.keys + counted_with b
      (list_any (λ other. bytes_eq (sha256 text) (sha256 other)) (different kept)) (different kept) text rest)
      (has_different kept text ∙ sym known);
  digests = are.digests;
}

one_more : (first digests texts behind texts_after digests_after : ℕ) (shared : Bool)
    → first + digests ≡ texts + (cond shared 1 0 + behind) → texts_after ≡ texts + 1 →
    digests_after ≡ digests + cond (not shared) 1 0
    → first + digests_after ≡ texts_after + behind
one_more first digests texts behind texts_after digests_after true e t d = omega arith
one_more first digests texts behind texts_after digests_after false e t d = omega arith

one_of : (c b other : Bool) → b ≡ other → cond b true c ≡ (c || (other || false))
one_of true true other e = refl
one_of true false other e = refl
one_of false true other e = ap (λ (t : Bool). t || false) e
one_of false false other e = ap (λ (t : Bool). t || false) e

-- a new text is counted where its digest is there
pub text_new : (given : List (List ℕ)) (old after : Texts) (text : Vec ℕ Global) (digest : List ℕ) (added : Bool)
    → digest ≡ sha256 text.items → false ≡ has_text old text.items
    → after.texts.keys ≡ insert_key (λ (x : Vec ℕ Global) (y : Vec ℕ Global). bytes_eq x.items y.items)
    old.texts.keys text
    → added ≡ not (contains bytes_eq old.digests digest)
    → length after.digests.keys ≡ length old.digests.keys + (if added then 1 else 0)
    → ((q : List ℕ) → contains bytes_eq after.digests q ≡ cond (bytes_eq digest q) true
    (contains bytes_eq old.digests q))
    → AreTexts given old → AreTexts (given ++ text.items ∷ []) after
text_new given old after text digest added is fresh put told more has are = record { counted = count; digests = found }
  where
    keys : after.texts.keys ≡ old.texts.keys ++ text ∷ []
    keys = put ∙ ap (λ (b : Bool). cond b old.texts.keys (old.texts.keys ++ text ∷ [])) (sym fresh)

    texts : different after ≡ different old ++ text.items ∷ []
    texts = ap (map (λ (k : Vec ℕ Global). k.items)) keys ∙ map-append (λ (k : Vec ℕ Global). k.items)
        old.texts.keys (text ∷ [])

    shared : contains bytes_eq old.digests digest ≡ list_any (λ other. bytes_eq (sha256 text.items) (sha256 other))
        (different old)
    shared = are.digests digest ∙ ap (λ (d : List ℕ). list_any (λ other. bytes_eq d (sha256 other)) (different old)) is

    size : length after.texts.keys ≡ length old.texts.keys + 1
    size = ap length keys ∙ length-append old.texts.keys (text ∷ [])

    count : (rest : List (List ℕ)) → alike_from [] ((given ++ text.items ∷ []) ++ rest) + length after.digests.keys ≡
        length after.texts.keys + alike_from (different after) rest
    count rest =
        one_more (alike_from [] ((given ++ text.items ∷ []) ++ rest)) (length old.digests.keys)
        (length old.texts.keys) (alike_from (different after) rest)
        (length after.texts.keys) (length after.digests.keys) (contains bytes_eq old.digests digest)
        (ap (λ (ts : List (List ℕ)). alike_from [] ts + length old.digests.keys)
        (append_assoc given (text.items ∷ []) rest)
        ∙ are.counted (text.items ∷ rest)
        ∙ ap (λ (b : Bool). length old.texts.keys + counted_with b
        (list_any (λ other. bytes_eq (sha256 text.items) (sha256 other)) (different old))
        (different old) text.items rest)
        (has_different old text.items ∙ sym fresh)
        ∙ ap (λ (b : Bool). length old.texts.keys + (cond b 1 0 + alike_from (different old ++ text.items ∷ []) rest))
        (sym shared)
        ∙ ap (λ (ts : List (List ℕ)). length old.texts.keys + (cond (contains bytes_eq old.digests digest)
        1 0 + alike_from ts rest)) (sym texts))
        size (more ∙ ap (λ (b : Bool). length old.digests.keys + cond b 1 0) told)

    found : (q : List ℕ) → contains bytes_eq after.digests q ≡ list_any (λ other. bytes_eq q (sha256 other))
        (different after)
    found q =
        has q ∙ one_of (contains bytes_eq old.digests q) (bytes_eq digest q) (bytes_eq q (sha256 text.items))
        (bytes_eq-swap digest q ∙ ap (bytes_eq q) is)
        ∙ ap (λ (b : Bool). b || (bytes_eq q (sha256 text.items) || false)) (are.digests q)
        ∙ sym (list_any-append (λ other. bytes_eq q (sha256 other)) (different old) (text.items ∷ []))
        ∙ ap (list_any (λ other. bytes_eq q (sha256 other))) (sym texts)
