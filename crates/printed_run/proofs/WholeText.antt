-- The parts of a run's text, put together.
use Rattle.std.proofs.Common.{◌≡◌, ℕ, ◌+◌, ◌<◌, ◌≤◌, Bool, List, [], ◌∷◌, ◌++◌, length, map, take, get_or, codes}
use Rattle.std.proofs.Common.{append_assoc, sym, ◌∙◌, ap}
use Rattle.std.proofs.lemmas.List.{append-nil, map_more, take_all}
use Rattle.std.proofs.lemmas.List.Concat.{flat_map-append}
use Rattle.std.specs.List.{flat_map}
use Rattle.protocol_rules.specs.Group.{Group}
use Rattle.scenario_file.specs.declared.actors.Cast.{Cast}
use Rattle.scenario_file.specs.Reading.{Contents}
use Rattle.history_rules.specs.Events.{Entry}
use Rattle.history_rules.specs.Counts.{forged, alike, intruded_masters}
use Rattle.world_entries.specs.declared.entry.Entry.{Entry as KeptEntry}
use Rattle.world_entries.specs.Entries.{entry_of, event_of}
use Rattle.world_rules.specs.Headline.{agrees}
use Rattle.world_rules.specs.Scenarios.{setup_of, group_in}
use Rattle.world_rules.proofs.Fields.{group_is}
use Rattle.run_lines.specs.Texts.{audit_text, agree_text, count_text, entry_text}
use Rattle.printed_run.specs.Printed.{cast_in, is_said, entry_line, actors_text, totals_text, text_of}

-- one entry's line more
pub entries_more : (c : Contents) (history : List Entry) (xs : List KeptEntry) (i : ℕ) (x : KeptEntry) (cast : Cast)
    (told : Bool) (text old new : List ℕ) → map entry_of xs ≡ history → i < length xs
    → x ≡ get_or xs i x → cast ≡ cast_in c →
    old ≡ text ++ flat_map (entry_line c history) (map entry_of (take i xs)) →
    told ≡ is_said (setup_of c) (map entry_of xs) (event_of x.event)
    → new ≡ old ++ entry_text cast told (entry_of x) →
    new ≡ text ++ flat_map (entry_line c history) (map entry_of (take (i + 1) xs))
entries_more c history xs i x cast told text old new whole below here who so_far is next =
    let e : Entry = entry_of x in
    let lines : List ℕ = flat_map (entry_line c history) (map entry_of (take i xs)) in
    next
    ∙ ap (λ (k : Cast). old ++ entry_text k told e) who
    ∙ ap (λ (b : Bool). old ++ entry_text (cast_in c) b e)
    (is ∙ ap (λ (es : List Entry). is_said (setup_of c) es e.event) whole)
    ∙ ap (λ (t : List ℕ). t ++ entry_line c history e) so_far
    ∙ append_assoc text lines (entry_line c history e)
    ∙ ap (λ (t : List ℕ). text ++ t) (sym (
    ap (flat_map (entry_line c history))
    (map_more entry_of xs i x below
    ∙ ap (λ (k : KeptEntry). map entry_of (take i xs) ++ entry_of k ∷ []) (sym here))
    ∙ flat_map-append (entry_line c history) (map entry_of (take i xs)) (e ∷ [])
    ∙ ap (λ (t : List ℕ). lines ++ t) (append-nil (entry_line c history e))))

pub entries_all : (c : Contents) (history : List Entry) (xs : List KeptEntry) (n : ℕ) (text new : List ℕ) →
    map entry_of xs ≡ history → length xs ≤ n
    → new ≡ text ++ flat_map (entry_line c history) (map entry_of (take n xs)) →
    new ≡ text ++ flat_map (entry_line c history) history
entries_all c history xs n text new whole all is =
    is ∙ ap (λ (es : List KeptEntry). text ++ flat_map (entry_line c history) (map entry_of es)) (take_all n xs all)
    ∙ ap (λ (es : List Entry). text ++ flat_map (entry_line c history) es) whole

pub no_entries : (c : Contents) (history : List Entry) (text : List ℕ) →
    text ≡ text ++ flat_map (entry_line c history) []
no_entries c history text = sym (append-nil text)

-- the counts of the audit, and whether the masters agree
pub totals_put : (c : Contents) (history : List Entry) (text audited new : List ℕ) (f a i limit : ℕ) (agree : Bool) →
    audited ≡ text ++ audit_text f a i limit
    → f ≡ forged (setup_of c) history → a ≡ alike (group_in c) history → i ≡ intruded_masters (setup_of c) →
    limit ≡ (group_in c).f → agree ≡ agrees (setup_of c) history
    → new ≡ audited ++ agree_text agree → new ≡ text ++ totals_text (setup_of c) history
totals_put c history text audited new f a i limit agree first is_f is_a is_i is_limit is_agree last =
    let w = setup_of c in
    let a_is : a ≡ alike w.group history = is_a ∙ ap (λ (g : Group). alike g history) (sym (group_is c)) in
    let limit_is : limit ≡ w.group.f = is_limit ∙ ap (λ (g : Group). g.f) (sym (group_is c)) in
    last
    ∙ ap (λ (t : List ℕ). t ++ agree_text agree) first
    ∙ append_assoc text (audit_text f a i limit) (agree_text agree)
    ∙ ap (λ (n : ℕ). text ++ (audit_text n a i limit ++ agree_text agree)) is_f
    ∙ ap (λ (n : ℕ). text ++ (audit_text (forged w history) n i limit ++ agree_text agree)) a_is
    ∙ ap (λ (n : ℕ). text ++ (audit_text (forged w history) (alike w.group history) n limit ++ agree_text agree)) is_i
    ∙ ap (λ (n : ℕ). text ++ (audit_text (forged w history) (alike w.group history) (intruded_masters w) n
    ++ agree_text agree)) limit_is
    ∙ ap (λ (b : Bool). text ++ (audit_text (forged w history) (alike w.group history) (intruded_masters w) w.group.f
    ++ agree_text b)) is_agree

-- the whole
pub text_put : (c : Contents) (history : List Entry) (title states totals counted text : List ℕ) (count : ℕ) →
    title ≡ codes "spire 1\n"
    → states ≡ title ++ actors_text c history → totals ≡ states ++ totals_text (setup_of c) history →
    counted ≡ totals ++ count_text count → count ≡ length history
    → text ≡ counted ++ flat_map (entry_line c history) history → text ≡ text_of c history
unfolding text_of
text_put c history title states totals counted text count first second third fourth many last =
    last
    ∙ ap (λ (t : List ℕ). t ++ flat_map (entry_line c history) history)
    (fourth ∙ ap (λ (n : ℕ). totals ++ count_text n) many
    ∙ ap (λ (t : List ℕ). t ++ count_text (length history))
    (third ∙ ap (λ (t : List ℕ). t ++ totals_text (setup_of c) history)
    (second ∙ ap (λ (t : List ℕ). t ++ actors_text c history) first)))
