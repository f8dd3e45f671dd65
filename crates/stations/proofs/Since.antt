-- The words of the entries from a stamp on, entry by entry.
use Rattle.std.proofs.Common.{◌≡◌, ℕ, ◌+◌, ◌<◌, ◌≤◌, Bool, true, false, cond, List, [], ◌∷◌, ◌++◌, length, take, drop}
use Rattle.std.proofs.Common.{zero, suc, nat_le, append_assoc, append-nil, refl, sym, ◌∙◌, ap, subst, arith}
use Rattle.std.proofs.lemmas.List.{length-append, take_all}
use Rattle.agreement.proofs.Places.{stands_on}
use Rattle.scenario_file.specs.Reading.{Contents}
use Rattle.history_rules.specs.Events.{Entry}
use Rattle.history_rules.specs.Legal.{Stands, IsLegal}
use Rattle.world_rules.specs.Scenarios.{setup_of}
use Rattle.plain_lists.proofs.Lists.{take_left}
use Rattle.station_files.specs.Batch.{Waiting}
use Rattle.station_lives.specs.Saying.{word_lines, words_since}
use Rattle.stations.specs.Telling.{Tells}
use Rattle.stations.proofs.Telling.{tells_none, tells_both}

-- an entry of a list, with those before it and behind it
pub record Split (list : List Entry) (place : ℕ) : Type 0 where
  pub before : List Entry
  pub entry : Entry
  pub after : List Entry
  pub whole : list ≡ before ++ entry ∷ after
  pub here : length before ≡ place

pub split_at : (list : List Entry) (place : ℕ) → place < length list → Split list place
split_at [] place there = absurd (omega arith)
split_at (e ∷ rest) zero there = record { before = []; entry = e; after = rest; whole = refl; here = refl }
split_at (e ∷ rest) (suc place) there =
    let s : Split rest place = split_at rest place (omega arith) in
    record {
      before = e ∷ s.before;
      entry = s.entry;
      after = s.after;
      whole = ap (λ (es : List Entry). e ∷ es) s.whole;
      here = ap suc s.here;
    }

-- those before it are the first
pub before_is : (list : List Entry) (place : ℕ) (s : Split list place) → take place list ≡ s.before
before_is list place s =
    ap (take place) s.whole
    ∙ take_left s.before (s.entry ∷ s.after) place (omega (arith, s.here))
    ∙ take_all place s.before (omega (arith, s.here))

pub one_more_is : (list : List Entry) (place : ℕ) (s : Split list place) →
    take (place + 1) list ≡ s.before ++ s.entry ∷ []
one_more_is list place s =
    let size : length (s.before ++ s.entry ∷ []) ≡ length s.before + 1 = length-append s.before (s.entry ∷ []) in
    let joined : list ≡ (s.before ++ s.entry ∷ []) ++ s.after =
    s.whole ∙ sym (append_assoc s.before (s.entry ∷ []) s.after) in
    ap (take (place + 1)) joined
    ∙ take_left (s.before ++ s.entry ∷ []) s.after (place + 1) (omega (arith, s.here, size))
    ∙ take_all (place + 1) (s.before ++ s.entry ∷ []) (omega (arith, s.here, size))

since_behind : (c : Contents) (stamp : ℕ) (before xs : List Entry) (e : Entry) →
    words_since c stamp before (xs ++ e ∷ []) ≡
    words_since c stamp before xs ++ cond (nat_le stamp e.stamp) (word_lines c (before ++ xs) e) []
since_behind c stamp before [] e =
    append-nil (cond (nat_le stamp e.stamp) (word_lines c before e) [])
    ∙ ap (λ (es : List Entry). cond (nat_le stamp e.stamp) (word_lines c es e) []) (sym (append-nil before))
since_behind c stamp before (x ∷ xs) e =
    ap (λ (bs : List ℕ). cond (nat_le stamp x.stamp) (word_lines c before x) [] ++ bs)
    (since_behind c stamp (before ++ x ∷ []) xs e
    ∙ ap (λ (es : List Entry). words_since c stamp (before ++ x ∷ []) xs
    ++ cond (nat_le stamp e.stamp) (word_lines c es e) []) (append_assoc before (x ∷ []) xs))
    ∙ sym (append_assoc (cond (nat_le stamp x.stamp) (word_lines c before x) [])
    (words_since c stamp (before ++ x ∷ []) xs) (cond (nat_le stamp e.stamp) (word_lines c (before ++ x ∷ xs) e) []))

-- its stamp is its place
stamp_is : (c : Contents) (list : List Entry) (place : ℕ) (s : Split list place) → IsLegal (setup_of c) list →
    s.entry.stamp ≡ place
stamp_is c list place s legal =
    (legal.entries s.before s.entry (record { after = s.after; whole = s.whole })).stamp ∙ s.here

-- an entry more, at a stamp that isn't below
pub since_more : (c : Contents) (list : List Entry) (stamp place : ℕ) (s : Split list place) →
    IsLegal (setup_of c) list → stamp ≤ place →
    words_since c stamp [] (take (place + 1) list) ≡
    words_since c stamp [] (take place list) ++ word_lines c s.before s.entry
since_more c list stamp place s legal low =
    ap (words_since c stamp []) (one_more_is list place s)
    ∙ since_behind c stamp [] s.before s.entry
    ∙ ap (λ (b : Bool). words_since c stamp [] s.before ++ cond b (word_lines c s.before s.entry) []) told
    ∙ ap (λ (es : List Entry). words_since c stamp [] es ++ word_lines c s.before s.entry)
    (sym (before_is list place s))
  where
    told : nat_le stamp s.entry.stamp ≡ true
    told = ap (nat_le stamp) (stamp_is c list place s legal) ∙ low_so
      where
        low_so : nat_le stamp place ≡ true
        low_so = grind (arith, low)

-- before the stamp there is nothing
pub since_none : (c : Contents) (list : List Entry) (stamp count : ℕ) → IsLegal (setup_of c) list → count ≤ stamp →
    count ≤ length list → words_since c stamp [] (take count list) ≡ []
since_none c list stamp zero legal low within = refl
since_none c list stamp (suc count) legal low within =
    ap (λ (n : ℕ). words_since c stamp [] (take n list)) plus
    ∙ ap (words_since c stamp []) (one_more_is list count s)
    ∙ since_behind c stamp [] s.before s.entry
    ∙ ap (λ (b : Bool). words_since c stamp [] s.before ++ cond b (word_lines c s.before s.entry) []) silent
    ∙ append-nil (words_since c stamp [] s.before)
    ∙ ap (words_since c stamp []) (sym (before_is list count s))
    ∙ since_none c list stamp count legal (omega arith) (omega arith)
  where
    s : Split list count
    s = split_at list count (omega arith)

    plus : suc count ≡ count + 1
    plus = omega arith

    silent : nat_le stamp s.entry.stamp ≡ false
    silent = ap (nat_le stamp) (stamp_is c list count s legal) ∙ above
      where
        above : nat_le stamp count ≡ false
        above = grind (arith, low)

-- what is told, as it grows
pub since_start : (c : Contents) (list : List Entry) (stamp first : ℕ) (waits : Waiting) → IsLegal (setup_of c) list →
    first ≤ stamp → first ≤ length list → Tells c (words_since c stamp [] (take first list)) waits waits
since_start c list stamp first waits legal low within =
    subst (λ (bs : List ℕ). Tells c bs waits waits) (sym (since_none c list stamp first legal low within))
    (tells_none c waits)

pub since_step : (c : Contents) (list : List Entry) (stamp place : ℕ) (first old new : Waiting) →
    IsLegal (setup_of c) list → stamp ≤ place → place < length list →
    Tells c (words_since c stamp [] (take place list)) first old →
    ((before after : List Entry) (e : Entry) → list ≡ before ++ e ∷ after → length before ≡ place →
    Tells c (word_lines c before e) old new) →
    Tells c (words_since c stamp [] (take (place + 1) list)) first new
since_step c list stamp place first old new legal low there so_far next =
    subst (λ (bs : List ℕ). Tells c bs first new) (sym (since_more c list stamp place s legal low))
    (tells_both c (words_since c stamp [] (take place list)) (word_lines c s.before s.entry) first old new so_far
    (next s.before s.after s.entry s.whole s.here))
  where
    s : Split list place
    s = split_at list place there
