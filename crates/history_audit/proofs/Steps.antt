-- Small steps: bytes of a length, and the counts of one entry more.
use Rattle.std.proofs.Common.{◌≡◌, ℕ, ◌+◌, ◌/◌, ◌%◌, ◌<◌, ◌≤◌, List, [], ◌∷◌, ◌++◌, length, map, take, drop, get_or}
use Rattle.std.proofs.Common.{filter, sym, ◌∙◌, ap, arith, append_assoc}
use Rattle.std.proofs.lemmas.List.{take_more, drop_more, drop_all}
use Rattle.std.proofs.lemmas.List.Concat.{flat_map-append}
use Rattle.std.proofs.lemmas.List.Folds.{flat_map-map}
use Rattle.std.specs.List.{flat_map}
use Rattle.wire_parts.specs.Fields.{u16_bytes}
use Rattle.message_types.specs.declared.signed.Signed.{Signed}
use Rattle.message_types.specs.declared.body.Body.{Body}
use Rattle.protocol_rules.specs.Group.{Group}
use Rattle.history_rules.specs.Events.{Entry}
use Rattle.history_rules.specs.Setup.{Setup}
use Rattle.history_rules.specs.Audit.{parts_taken, bodies_of, texts_of}
use Rattle.history_rules.specs.Counts.{is_forged, forged_from}

-- the lowest 16 bits of a length are all that its field shows
pub low_bytes : (n : ℕ) → u16_bytes (n % 65536) ≡ u16_bytes n
unfolding u16_bytes
low_bytes n =
    let high : n % 65536 / 256 % 256 ≡ n / 256 % 256 = omega arith in
    let low : n % 65536 % 256 ≡ n % 256 = omega arith in
    ap (λ (x : ℕ). x ∷ n % 65536 % 256 ∷ []) high ∙ ap (λ (x : ℕ). n / 256 % 256 ∷ x ∷ []) low

-- the forged words of one entry more
pub forged_more : (w : Setup) (es : List Entry) (i : ℕ) (e : Entry) (count more total : ℕ) →
    i < length es → e ≡ get_or es i e
    → more ≡ length (filter (is_forged w (take i es)) (parts_taken e)) →
    count + forged_from w (take i es) (drop i es) ≡ total
    → (count + more) + forged_from w (take (i + 1) es) (drop (i + 1) es) ≡ total
forged_more w es i e count more total below is counted so_far =
    let rest : drop i es ≡ e ∷ drop (i + 1) es = drop_more es i e below
    ∙ ap (λ (z : Entry). z ∷ drop (i + 1) es) (sym is) in
    let front : take (i + 1) es ≡ take i es ++ e ∷ [] = take_more es i e below
    ∙ ap (λ (z : Entry). take i es ++ z ∷ []) (sym is) in
    let split : forged_from w (take i es) (drop i es) ≡ length (filter (is_forged w (take i es)) (parts_taken e)) +
    forged_from w (take (i + 1) es) (drop (i + 1) es) =
    ap (forged_from w (take i es)) rest
    ∙ ap (λ (before : List Entry). length (filter (is_forged w (take i es)) (parts_taken e)) + forged_from w
    before (drop (i + 1) es)) (sym front) in
    omega arith

pub forged_all : (w : Setup) (es : List Entry) (i count total : ℕ) → length es ≤ i →
    count + forged_from w (take i es) (drop i es) ≡ total → count ≡ total
forged_all w es i count total all so_far =
    let none : forged_from w (take i es) (drop i es) ≡ 0 = ap (forged_from w (take i es)) (drop_all i es all) in
    omega arith

pub entry_pushed : (es : List Entry) (i : ℕ) (e : Entry) → i < length es → e ≡ get_or es i e →
    take i es ++ e ∷ [] ≡ take (i + 1) es
entry_pushed es i e below is = sym (take_more es i e below ∙ ap (λ (z : Entry). take i es ++ z ∷ []) (sym is))

-- the texts of an entry: of the parts taken, then of what was said
pub texts_at : (g : Group) (e : Entry) (given : List (List ℕ))
    → (given ++ flat_map (λ p. texts_of g p.body) (parts_taken e)) ++ flat_map (texts_of g) e.said ≡ given
    ++ flat_map (texts_of g) (bodies_of e)
texts_at g e given =
    append_assoc given (flat_map (λ p. texts_of g p.body) (parts_taken e)) (flat_map (texts_of g) e.said)
    ∙ ap (λ (ts : List (List ℕ)). given ++ (ts ++ flat_map (texts_of g) e.said))
    (sym (flat_map-map (texts_of g) (λ (p : Signed Body). p.body) (parts_taken e)))
    ∙ ap (λ (ts : List (List ℕ)). given ++ ts)
    (sym (flat_map-append (texts_of g) (map (λ (p : Signed Body). p.body) (parts_taken e)) e.said))
