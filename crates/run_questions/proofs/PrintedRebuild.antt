-- Where no two updates certified as a request have one digest, the lines that are printed for it are those of the parts
-- of one text. In a sound history it is so: the correct masters have certified one update.
use Rattle.std.proofs.Common.{◌≡◌, ℕ, zero, suc, ◌+◌, ◌^◌, ◌<◌, ◌≤◌, Bool, true, false, not, cond, if◌then◌else◌}
use Rattle.std.proofs.Common.{◌||◌, List, [], ◌∷◌, ◌++◌, Option, Some, None, Ok, length, map, filter, take, drop}
use Rattle.std.proofs.Common.{append-nil, refl, sym, ◌∙◌, ap, subst, arith}
use Rattle.std.specs.List.{AllByRecursion, list_any, filter_map, flat_map, cons_option}
use Rattle.std.specs.Option.{option_map}
use Rattle.std.specs.Str.{bytes_eq}
use Rattle.std.proofs.lemmas.Slice.Eq.{bytes_eq-Decides}
use Rattle.std.proofs.lemmas.List.Concat.{flat_map-append}
use Rattle.plain_lists.specs.Lists.{Begins}
use Rattle.sha2.specs.Sha256.{sha256}
use Rattle.sha2.proofs.Facts256.{length-sha256}
use Rattle.agreement.specs.Laws.{IsSound, known_by}
use Rattle.agreement.proofs.ExecutionsAgree.{certified_agree}
use Rattle.history_laws.proofs.Sound.{sound_by_counts}
use Rattle.message_types.specs.declared.updates.Update.{Update}
use Rattle.message_types.specs.Digests.{digest_of_update}
use Rattle.message_types.specs.Texts.{update_text}
use Rattle.message_forms.proofs.Lengths.{update_within}
use Rattle.quorum_sets.specs.Masters.{numbers_below}
use Rattle.quorum_sets.specs.Quorum.{IsGroup, group_size}
use Rattle.protocol_rules.specs.Group.{Group}
use Rattle.protocol_rules.specs.Preorder.{certified}
use Rattle.protocol_rules.specs.Words.{first_of_list}
use Rattle.scenario_file.specs.Reading.{Contents}
use Rattle.scenario_file.specs.Valid.{IsScenario}
use Rattle.history_rules.specs.Events.{Entry}
use Rattle.history_rules.specs.Setup.{Setup, is_correct_master}
use Rattle.history_rules.specs.Legal.{IsLegal}
use Rattle.world_rules.specs.Headline.{Premises}
use Rattle.world_rules.specs.Scenarios.{setup_of}
use Rattle.world_rules.proofs.Fields.{group_is, sizes_of_group}
use Rattle.script_grammar.specs.Faults.{Answer}
use Rattle.run_lines.specs.Runs.{pieces, is_empty}
use Rattle.parity_parts.specs.declared.part.Part.{Part}
use Rattle.parity_parts.specs.Parts.{AreBytes}
use Rattle.part_lines.specs.declared.told.Told.{Told}
use Rattle.part_lines.specs.Laws.{IsWritten, IsRebuilt, own_part, is_own_line}
use Rattle.part_lines.specs.Reading.{digest_in, told_in}
use Rattle.part_lines.specs.Rebuilding.{told_for}
use Rattle.part_lines.specs.Texts.{digest_words, part_words, spaced, parts_text}
use Rattle.part_lines.proofs.Own.{enough_lines_rebuild}
use Rattle.part_lines.proofs.ReadBack.{digest_line_back, line_first, lines_of, part_bytes_line}
use Rattle.part_lines.proofs.Spelled.{line_bytes, digest_is_words}
use Rattle.part_lines.proofs.Steps.{is_told}
use Rattle.run_questions.specs.PartsLaws.{lines_behind, HasPrintedLines, HaveOwnDigests}
use Rattle.run_questions.specs.PartsText.{certified_by, first_certified, part_if, parts_by, parts_in}
use Rattle.run_questions.proofs.PrintedAreParts.{all_more, are_of, digest_are_bytes, update_bytes, written}
use Rattle.run_questions.proofs.PartsInOrder.{update_some}
use Rattle.quorum_sets.proofs.Numbered.{any_below}

-- ---- One update.

certified_as : (w : Setup) (history : List Entry) (j k m : ℕ) (u : Update) → certified_by w history j k m ≡ Some u
    → (is_correct_master w m ≡ true) × (certified w.group (known_by w history m) j k ≡ Some u)
certified_as w history j k m u is = by (is_correct_master w m) refl is
  where
    by : (b : Bool) → is_correct_master w m ≡ b →
        (if b then certified w.group (known_by w history m) j k else None) ≡ Some u
        → (is_correct_master w m ≡ true) × (certified w.group (known_by w history m) j k ≡ Some u)
    by true right is = (right, is)
    by false wrong is = absurd (cc)

begins_self : {X : Type 0} (xs : List X) → Begins xs xs
begins_self xs = record { rest = []; same = sym (append-nil xs) }

one_update : (w : Setup) (history : List Entry) (j k m n : ℕ) (u v : Update) → IsSound w history →
    certified_by w history j k m ≡ Some u
    → certified_by w history j k n ≡ Some v → v ≡ u
one_update w history j k m n u v sound one other =
    let first = certified_as w history j k m u one in
    let second = certified_as w history j k n v other in
    certified_agree w history history history n m sound (begins_self history) (begins_self history)
    second.0 first.0 j k v u second.1 first.1

record SomeHas (g : ℕ → Option Update) (u : Update) : Type 0 where
  pub master : ℕ
  pub has : g master ≡ Some u

first_has : (g : ℕ → Option Update) (ms : List ℕ) (u : Update) → first_of_list (filter_map g ms) ≡ Some u → SomeHas g u
first_has g [] u is = absurd (cc)
first_has g (m ∷ ms) u is = by (g m) refl is (first_has g ms u)
  where
    by : (found : Option Update) → g m ≡ found → first_of_list (cons_option found (filter_map g ms)) ≡ Some u →
        (first_of_list (filter_map g ms) ≡ Some u → SomeHas g u)
        → SomeHas g u
    by None here is later = later is
    by (Some v) here is later = record { master = m; has = here ∙ is }

-- ---- The parts are of its text.

abbrev IsOwn : ℕ → ℕ → List ℕ → Part → Type 0
IsOwn n f text part = (part.master < n) × (part ≡ own_part f text part.master)

own_higher : (n f : ℕ) (text : List ℕ) (parts : List Part) → AllByRecursion (IsOwn n f text) parts →
    AllByRecursion (IsOwn (suc n) f text) parts
own_higher n f text [] own = tt
own_higher n f text (p ∷ parts) own = let low = own.0.0 in
    ((omega (arith, low), own.0.1), own_higher n f text parts own.1)

own_with : (f n : ℕ) (digest text : List ℕ) (parts : List Part) (found : Option Update) →
    ((v : Update) → found ≡ Some v → digest_of_update v ≡ digest → update_text v ≡ text)
    → AllByRecursion (IsOwn n f text) parts → AllByRecursion (IsOwn (suc n) f text) (parts ++ part_if f digest n found)
own_with f n digest text parts None same own = subst (AllByRecursion (IsOwn (suc n) f text)) (sym (append-nil parts))
    (own_higher n f text parts own)
own_with f n digest text parts (Some v) same own = by (bytes_eq (digest_of_update v) digest) refl
  where
    by : (b : Bool) → bytes_eq (digest_of_update v) digest ≡ b → AllByRecursion (IsOwn (suc n) f text)
        (parts ++ (if b then own_part f (update_text v) n ∷ [] else []))
    by true is = all_more (IsOwn (suc n) f text) parts (own_part f (update_text v) n) (own_higher n f text parts own) (
      omega arith,
      ap (λ (t : List ℕ). own_part f t n) (same v refl ((bytes_eq-Decides (digest_of_update v) digest).0 is)),
    )
    by false is = subst (AllByRecursion (IsOwn (suc n) f text)) (sym (append-nil parts)) (own_higher n f text parts own)

all_own : (f n : ℕ) (digest text : List ℕ) (found : ℕ → Option Update) →
    ((m : ℕ) (v : Update) → found m ≡ Some v → digest_of_update v ≡ digest → update_text v ≡ text)
    → AllByRecursion (IsOwn n f text) (flat_map (λ master. part_if f digest master (found master)) (numbers_below n))
unfolding numbers_below
all_own f zero digest text found same = tt
all_own f (suc n) digest text found same =
    let part_of : ℕ → List Part = λ master. part_if f digest master (found master) in
    subst (AllByRecursion (IsOwn (suc n) f text))
    (sym (flat_map-append part_of (numbers_below n) (n ∷ [])
    ∙ ap (λ (ps : List Part). flat_map part_of (numbers_below n) ++ ps) (append-nil (part_of n))))
    (own_with f n digest text (flat_map part_of (numbers_below n)) (found n) (same n)
    (all_own f n digest text found same))

-- ---- The lines that are printed.

printed_pieces : (n f : ℕ) (parts : List Part) → n < 2 ^ 32 → AllByRecursion (IsWritten n f) parts →
    pieces (lines_of parts) ≡ map (λ part. spaced (part_words part)) parts ++ [] ∷ []
printed_pieces n f [] few are = refl
printed_pieces n f (part ∷ parts) few are =
    line_first (part_words part) (lines_of parts) (part_bytes_line n f part few are.0)
    ∙ ap (λ (ls : List (List ℕ)). spaced (part_words part) ∷ ls) (printed_pieces n f parts few are.1)

whole_pieces : (n f : ℕ) (digest : List ℕ) (parts : List Part) → n < 2 ^ 32 → AreBytes digest →
    AllByRecursion (IsWritten n f) parts
    → pieces (parts_text digest parts) ≡ spaced (digest_words digest)
    ∷ (map (λ part. spaced (part_words part)) parts ++ [] ∷ [])
whole_pieces n f digest parts few are written =
    line_first (digest_words digest) (lines_of parts) (line_bytes (digest_words digest) (digest_is_words digest are))
    ∙ ap (λ (ls : List (List ℕ)). spaced (digest_words digest) ∷ ls) (printed_pieces n f parts few written)

either_way : (b : Bool) → b || (true || false) ≡ true
either_way true = refl
either_way false = refl

-- a line among them is an own line of the text
among_own : (n f : ℕ) (text line : List ℕ) (parts : List Part) → AllByRecursion (IsOwn n f text) parts
    → list_any (bytes_eq line)
    (filter (λ l. not (is_empty l)) (map (λ part. spaced (part_words part)) parts ++ [] ∷ [])) ≡ true
    → is_own_line n f text line ≡ true
among_own n f text line [] own is = absurd (cc)
among_own n f text line (p ∷ parts) own is = by (bytes_eq line (spaced (part_words p))) refl is
    (among_own n f text line parts own.1)
  where
    by : (b : Bool) → bytes_eq line (spaced (part_words p)) ≡ b
        → b || list_any (bytes_eq line)
        (filter (λ l. not (is_empty l)) (map (λ part. spaced (part_words part)) parts ++ [] ∷ [])) ≡ true
        → (list_any (bytes_eq line)
        (filter (λ l. not (is_empty l)) (map (λ part. spaced (part_words part)) parts ++ [] ∷ [])) ≡ true →
        is_own_line n f text line ≡ true)
        → is_own_line n f text line ≡ true
    by true here is later =
        any_below (λ master. bytes_eq line (spaced (part_words (own_part f text master)))) n p.master own.0.0
        (ap (λ (q : Part). bytes_eq line (spaced (part_words q))) (sym own.0.1) ∙ here)
    by false here is later = later is

-- ---- Counted in the other text of parts.

one_more : (one other : Bool) (line : List ℕ) (xs ys : List (List ℕ)) → (one ≡ true → other ≡ true) →
    length xs ≤ length ys
    → length (cond one (line ∷ xs) xs) ≤ length (cond other (line ∷ ys) ys)
one_more true true line xs ys follows few = omega (arith, few)
one_more true false line xs ys follows few = absurd (let no = follows refl in cc)
one_more false true line xs ys follows few = omega (arith, few)
one_more false false line xs ys follows few = few

line_kept : (a b : List ℕ → Bool) (line : List ℕ) (kept : Bool) (xs ys : List (List ℕ)) →
    (a line ≡ true → b line ≡ true) → length (filter a xs) ≤ length ys
    → length (filter a (cond kept (line ∷ xs) xs)) ≤ length (cond (b line) (line ∷ ys) ys)
line_kept a b line true xs ys follows few = one_more (a line) (b line) line (filter a xs) ys follows few
line_kept a b line false xs ys follows few = one_more false (b line) line (filter a xs) ys (λ no. absurd (cc)) few

fewer : (a b q : List ℕ → Bool) (lines : List (List ℕ)) → ((line : List ℕ) → a line ≡ true → b line ≡ true) →
    length (filter a (filter q lines)) ≤ length (filter b lines)
fewer a b q [] follows = omega arith
fewer a b q (line ∷ lines) follows = line_kept a b line (q line) (filter q lines) (filter b lines) (follows line)
    (fewer a b q lines follows)

behind_fewer : (b : List ℕ → Bool) (lines : List (List ℕ)) → length (filter b (drop 1 lines)) ≤ length (filter b lines)
behind_fewer b [] = omega arith
behind_fewer b (line ∷ lines) = by (b line)
  where
    by : (one : Bool) → length (filter b lines) ≤ length (cond one (line ∷ filter b lines) (filter b lines))
    by true = omega arith
    by false = omega arith

-- ---- The text is rebuilt.

first_of : List (List ℕ) → List ℕ
first_of [] = []
first_of (line ∷ lines) = line

-- the digest is the printed one
same_digest : (n f : ℕ) (bytes printed digest : List ℕ) (rest : List (List ℕ)) (t : Told) → told_in n f bytes ≡ Ok t
    → pieces printed ≡ spaced (digest_words digest) ∷ rest → take 1 (pieces bytes) ≡ take 1 (pieces printed) →
    length digest ≡ 32 → AreBytes digest
    → digest ≡ t.digest
unfolding first_of
same_digest n f bytes printed digest rest t is cut first long are =
    let given = is_told n f bytes t is in
    let line_is : given.line ≡ spaced (digest_words digest) =
    ap first_of (sym (ap (take 1) given.cut) ∙ first ∙ ap (take 1) cut) in
    let both : ◌≡◌ {A = Answer (List ℕ)} (Ok digest) (Ok t.digest) =
    sym (ap digest_in line_is ∙ digest_line_back digest long are) ∙ given.digest in
    cc

rebuilt_from : (c : Contents) (bytes printed digest text : List ℕ) (t : Told) (n f : ℕ) (parts : List Part) →
    IsGroup c.settings.f c.settings.k
    → n ≡ group_size c.settings.f c.settings.k → f ≡ c.settings.f → told_for c bytes ≡ Ok t
    → pieces printed ≡ spaced (digest_words digest) ∷ (map (λ part. spaced (part_words part)) parts ++ [] ∷ [])
    → sha256 text ≡ digest → length digest ≡ 32 → AreBytes digest → AreBytes text →
    1 ≤ length text → length text ≤ 65536
    → AllByRecursion (IsOwn n f text) parts → HasPrintedLines c printed bytes → IsRebuilt c bytes t
unfolding told_for
rebuilt_from c bytes printed digest text t n f parts group size same told cut is long are
    text_are some short own given =
    let follows : (line : List ℕ) → list_any (bytes_eq line) (lines_behind printed) ≡ true →
    is_own_line n f text line ≡ true =
    λ line among. among_own n f text line parts own
    (sym (ap (λ (ls : List (List ℕ)). list_any (bytes_eq line) (filter (λ l. not (is_empty l)) (drop 1 ls))) cut)
    ∙ among) in
    let enough = given.enough in
    let few = fewer (λ line. list_any (bytes_eq line) (lines_behind printed)) (is_own_line n f text)
    (λ l. not (is_empty l)) (drop 1 (pieces bytes)) follows in
    let all = behind_fewer (is_own_line n f text) (pieces bytes) in
    let above : c.settings.f < length (filter (is_own_line n f text) (pieces bytes)) =
    omega (arith, enough, few, all) in
    let among : c.settings.f < length
    (filter (is_own_line (group_size c.settings.f c.settings.k) f text) (pieces bytes)) =
    subst (λ (m : ℕ). c.settings.f < length (filter (is_own_line m f text) (pieces bytes))) size above in
    enough_lines_rebuild c bytes text t group told text_are some short
    (is ∙ same_digest (group_size c.settings.f c.settings.k) c.settings.f bytes printed digest
    (map (λ part. spaced (part_words part)) parts ++ [] ∷ []) t told cut given.first long are)
    (subst (λ (g : ℕ). c.settings.f < length
    (filter (is_own_line (group_size c.settings.f c.settings.k) g text) (pieces bytes))) same among)

pub printed_lines_rebuild : (c : Contents) (history : List Entry) (j k : ℕ) (printed bytes : List ℕ) (t : Told) →
    IsScenario c → HaveOwnDigests (setup_of c) history j k → parts_in c history j k ≡ Some printed
    → told_for c bytes ≡ Ok t → HasPrintedLines c printed bytes → IsRebuilt c bytes t
unfolding parts_in digest_of_update
printed_lines_rebuild c history j k printed bytes t scenario unlike is told given =
    by (first_certified (setup_of c) history j k) refl is
  where
    w : Setup
    w = setup_of c

    size : w.group.n ≡ group_size c.settings.f c.settings.k
    size = ap (λ (g : Group). g.n) (group_is c)

    few : w.group.n < 2 ^ 32
    few =
        let most = scenario.group.at_most_three_intruded in
        let away = scenario.group.at_most_two_away in
        subst (λ (m : ℕ). m < 2 ^ 32) (sym size) (omega (arith, most, away))

    by : (found : Option Update) → first_certified w history j k ≡ found
        → option_map (λ u. parts_text (digest_of_update u) (parts_by w history j k (digest_of_update u)))
        found ≡ Some printed → IsRebuilt c bytes t
    by None first is = absurd (cc)
    by (Some u) first is =
        let digest : List ℕ = digest_of_update u in
        let text : List ℕ = update_text u in
        let parts : List Part = parts_by w history j k digest in
        let printed_is : parts_text digest parts ≡ printed = cc in
        let has = first_has (certified_by w history j k) (numbers_below w.group.n) u first in
        let of = are_of w.group.f w.group.n digest (certified_by w history j k) in
        let cut = whole_pieces w.group.n w.group.f digest parts few (digest_are_bytes text)
        (written w.group.f w.group.n digest parts of.low of.own) in
        let within = update_within u in
        rebuilt_from c bytes printed digest text t w.group.n w.group.f parts scenario.group size
        (ap (λ (g : Group). g.f) (group_is c)) told
        (ap pieces (sym printed_is) ∙ cut) refl (length-sha256 text) (digest_are_bytes text) (update_bytes u)
        (update_some u) (omega (arith, within))
        (all_own w.group.f w.group.n digest text (certified_by w history j k)
        (λ m v other alike. ap update_text (unlike m has.master v u other has.has alike))) given

-- in a sound history all certified updates are one
pub certified_have_own_digests : (c : Contents) (history : List Entry) (j k : ℕ) → IsScenario c →
    IsLegal (setup_of c) history → Premises (setup_of c) history → HaveOwnDigests (setup_of c) history j k
certified_have_own_digests c history j k scenario legal premises m n u v one other alike =
    one_update (setup_of c) history j k n m v u
    (sound_by_counts (setup_of c) history legal (sizes_of_group c scenario) premises.few premises.unforged
    premises.unlike) other one
