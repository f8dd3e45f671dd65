-- A word that was read can be said, by an intruded master to actors that are there.
use Rattle.std.proofs.Common.{◌≡◌, ℕ, ◌<◌, ◌^◌, ◌==◌, Bool, true, false, cond, ◌&&◌, ◌||◌, nat_le, nat_eq, List, []}
use Rattle.std.proofs.Common.{◌∷◌, length, filter, refl, sym, ◌∙◌, ap, arith, Result, Ok, Err, Option, Some, None}
use Rattle.std.specs.Prelude.{codes}
use Rattle.std.specs.List.{list_all, list_any, slice_split}
use Rattle.std.specs.Str.{bytes_eq}
use Rattle.std.proofs.lemmas.Bool.{and_parts, and_from}
use Rattle.message_types.specs.declared.vouchers.Order.{Order}
use Rattle.play_words.specs.declared.words.Item.{Item}
use Rattle.play_words.specs.declared.words.Ref.{Ref}
use Rattle.play_words.specs.declared.words.Word.{Word}
use Rattle.play_words.specs.declared.words.Word.TheVariants as word
use Rattle.play_words.specs.Accepted.{is_accepted, is_of, has_digest, are_items, update_kind, summary_kind}
use Rattle.play_words.specs.Accepted.{report_kind}
use Rattle.quorum_sets.specs.Masters.{numbers_below}
use Rattle.scenario_file.specs.declared.actors.Cast.{Cast}
use Rattle.scenario_file.specs.Actors.{actors_of}
use Rattle.scenario_file.specs.Reading.{Contents}
use Rattle.scenario_file.specs.Valid.{IsScenario}
use Rattle.script_grammar.specs.declared.fault.LineRefusal.{LineRefusal}
use Rattle.script_grammar.specs.declared.frames.Allowed.TheVariants as allowed
use Rattle.script_grammar.specs.declared.kinds.Kind.{Kind}
use Rattle.script_grammar.specs.declared.kinds.Kind.TheVariants as kind
use Rattle.script_grammar.specs.Faults.{Answer, bad, said, both, each}
use Rattle.script_grammar.specs.Frames.{frame_in, frames_in}
use Rattle.script_grammar.specs.Kinds.{kind_named}
use Rattle.script_grammar.specs.Names.{Who, who_of, is_intruded, actor_in, intruded_in}
use Rattle.script_grammar.specs.Numbers.{wide_in, narrow_in, bytes_in}
use Rattle.script_lines.specs.declared.saying.Saying.{Saying}
use Rattle.script_lines.specs.Sayings.{fields_in, kind_fields_in, word_in, among, addressees_in, saying_of, saying_in}
use Rattle.script_lines.specs.Sayings.{words_in}
use Rattle.script_lines.specs.WordFields.{raw_in, number_in, numbers_in, one_and_number_in, request_in, digest_in}
use Rattle.script_lines.specs.WordFields.{poack_in, summary_in, preprepare_in, vote_in, rtt_in, item_in, kept_items}
use Rattle.script_lines.specs.WordFields.{items_in, without_base, base_and_items_in, report_in, newview_in, order_in}
use Rattle.script_lines.specs.WordFields.{voucher_in}
use Rattle.script_laws.proofs.Fitting.{is_there, saying_fits}
use Rattle.script_laws.proofs.Answering.{ok, ok_same, said_from, chosen}
use Rattle.script_laws.proofs.Filing.{file_passes}
use Rattle.script_laws.proofs.Actors.{intruded_there}
use Rattle.script_laws.proofs.Framing.{frame_read, each_length, refs_read}
use Rattle.quorum_sets.proofs.Numbered.{numbers_pass}
use Rattle.script_grammar.proofs.FaultLaws.{both_read}

-- What an answer can be, can be said.
abbrev Says : Answer Word → Type 0
Says r = (w : Word) → r ≡ Ok w → is_accepted w ≡ true

made_says : {A : Type 0} (f : A → Word) (r : Answer A) → ((x : A) → r ≡ Ok x → is_accepted (f x) ≡ true) →
    Says (said f r)
made_says f r each w h = let (x, read, is) = said_from f r w h in ap is_accepted (sym is) ∙ each x read

bad_says : Says bad
bad_says w h = absurd (cc)

-- the fields that words have in common

one_of : (cast : Cast) (number : ℕ) (text : List ℕ) (r : Ref) → frame_in cast allowed.Updates text ≡ Ok r →
    is_of update_kind r ≡ true
one_of cast number text r h =
    let read = frame_read cast allowed.Updates text r h in
    and_from (nat_eq r.kind 1) (nat_le 1 r.number) read.kind read.number

digest_read : (cast : Cast) (text : List ℕ) (r : Ref) → digest_in cast text ≡ Ok r → has_digest r ≡ true
unfolding digest_in
digest_read cast [] r h = absurd (cc)
digest_read cast (c ∷ frame) r h =
    chosen (c == 64) (frame_in cast allowed.Digested frame) bad (Ok r) h
    (λ is e. let read = frame_read cast allowed.Digested frame r e in
    and_from (nat_eq r.kind 2 || nat_eq r.kind 5) (nat_le 1 r.number) read.kind read.number)
    (λ is e. absurd (cc))

vote_read : (cast : Cast) (fields : List (List ℕ)) (p : ℕ × (ℕ × Ref)) → vote_in cast fields ≡ Ok p →
    has_digest p.1.1 ≡ true
vote_read cast [] p h = absurd (cc)
vote_read cast (v ∷ []) p h = absurd (cc)
vote_read cast (v ∷ s ∷ []) p h = absurd (cc)
vote_read cast (v ∷ s ∷ digest ∷ []) p h =
    let one = both_read (wide_in v) (both (wide_in s) (digest_in cast digest)) p h in
    digest_read cast digest p.1.1 (both_read (wide_in s) (digest_in cast digest) p.1 one.1).1
vote_read cast (v ∷ s ∷ digest ∷ other ∷ more) p h = absurd (cc)

items_kept : (r : Result (List Item) LineRefusal) (items : List Item) → kept_items r ≡ Ok items → are_items items ≡ true
items_kept (Ok items) kept h =
    chosen (are_items items) (ok items) bad (Ok kept) h (λ fine e. ap are_items (sym (ok_same items kept e)) ∙ fine)
    (λ fine e. absurd (cc))
items_kept (Err e) kept h = absurd (cc)

items_read : (texts : List (List ℕ)) (items : List Item) → items_in texts ≡ Ok items → are_items items ≡ true
unfolding items_in
items_read texts items h = items_kept (each item_in texts) items h

without_read : (texts : List (List ℕ)) (p : Option ℕ × List Item) → said without_base (items_in texts) ≡ Ok p →
    are_items p.1 ≡ true
without_read texts p h =
    let (items, read, is) = said_from without_base (items_in texts) p h in
    ap (λ (q : Option ℕ × List Item). are_items q.1) (sym is) ∙ items_read texts items read

based_read : (texts : List (List ℕ)) (p : Option ℕ × List Item) → base_and_items_in texts ≡ Ok p → are_items p.1 ≡ true
based_read [] p h = without_read [] p h
based_read (item ∷ []) p h = without_read (item ∷ []) p h
based_read (what ∷ base ∷ items) p h =
    chosen (bytes_eq what (codes "base")) (both (said Some (wide_in base)) (items_in items))
    (said without_base (items_in (what ∷ base ∷ items))) (Ok p) h
    (λ is e. items_read items p.1 (both_read (said Some (wide_in base)) (items_in items) p e).1)
    (λ is e. without_read (what ∷ base ∷ items) p e)

-- kind by kind

raw_says : (fields : List (List ℕ)) → Says (raw_in fields)
unfolding is_accepted
raw_says [] = bad_says
raw_says (hex ∷ []) = made_says word.Raw (bytes_in hex) (λ x read. refl)
raw_says (hex ∷ other ∷ more) = bad_says

request_says : (cast : Cast) (fields : List (List ℕ)) → Says (request_in cast fields)
unfolding is_accepted
request_says cast [] = bad_says
request_says cast (k ∷ []) = bad_says
request_says cast (k ∷ update ∷ []) =
    made_says (λ (p : ℕ × Ref). word.PoRequest p.0 p.1) (both (wide_in k) (frame_in cast allowed.Updates update))
    (λ p read. one_of cast 1 update p.1 (both_read (wide_in k) (frame_in cast allowed.Updates update) p read).1)
request_says cast (k ∷ update ∷ other ∷ more) = bad_says

poack_says : (cast : Cast) (fields : List (List ℕ)) → Says (poack_in cast fields)
unfolding is_accepted
poack_says cast [] = bad_says
poack_says cast (j ∷ []) = bad_says
poack_says cast (j ∷ k ∷ []) = bad_says
poack_says cast (j ∷ k ∷ digest ∷ []) =
    made_says (λ (p : ℕ × (ℕ × Ref)). word.PoAck p.0 p.1.0 p.1.1)
    (both (narrow_in j) (both (wide_in k) (digest_in cast digest)))
    (λ p read.
    let one = both_read (narrow_in j) (both (wide_in k) (digest_in cast digest)) p read in
    digest_read cast digest p.1.1 (both_read (wide_in k) (digest_in cast digest) p.1 one.1).1)
poack_says cast (j ∷ k ∷ digest ∷ other ∷ more) = bad_says

summary_says : (fields : List (List ℕ)) → Says (summary_in fields)
unfolding is_accepted
summary_says fields w h =
    chosen (nat_le (length fields) 14) (said word.PoSummary (each wide_in fields)) bad (Ok w) h
    (λ few e. made_says word.PoSummary (each wide_in fields)
    (λ numbers read. ap (λ n. nat_le n 14) (each_length wide_in fields numbers read) ∙ few) w e)
    (λ few e. absurd (cc))

preprepare_says : (cast : Cast) (fields : List (List ℕ)) → actors_of cast < 2 ^ 64 → Says (preprepare_in cast fields)
unfolding is_accepted
preprepare_says cast [] few = bad_says
preprepare_says cast (v ∷ []) few = bad_says
preprepare_says cast (v ∷ s ∷ frames) few =
    made_says (λ (p : ℕ × (ℕ × List Ref)). word.PrePrepare p.0 p.1.0 p.1.1)
    (both (wide_in v) (both (wide_in s) (frames_in cast allowed.Summaries frames)))
    (λ p read.
    let one = both_read (wide_in v) (both (wide_in s) (frames_in cast allowed.Summaries frames)) p read in
    refs_read cast allowed.Summaries summary_kind frames p.1.1 few (λ n is. is)
    (both_read (wide_in s) (frames_in cast allowed.Summaries frames) p.1 one.1).1)

report_says : (fields : List (List ℕ)) → Says (report_in fields)
unfolding is_accepted
report_says [] = bad_says
report_says (v ∷ fields) =
    made_says (λ (p : ℕ × (Option ℕ × List Item)). word.Report p.0 p.1.0 p.1.1)
    (both (wide_in v) (base_and_items_in fields))
    (λ p read. based_read fields p.1 (both_read (wide_in v) (base_and_items_in fields) p read).1)

newview_says : (cast : Cast) (fields : List (List ℕ)) → actors_of cast < 2 ^ 64 → Says (newview_in cast fields)
unfolding is_accepted
newview_says cast [] few = bad_says
newview_says cast (v ∷ frames) few =
    made_says (λ (p : ℕ × List Ref). word.NewView p.0 p.1) (both (wide_in v) (frames_in cast allowed.Reports frames))
    (λ p read. refs_read cast allowed.Reports report_kind frames p.1 few (λ n is. is)
    (both_read (wide_in v) (frames_in cast allowed.Reports frames) p read).1)

rtt_says : (fields : List (List ℕ)) → Says (rtt_in fields)
unfolding is_accepted
rtt_says [] = bad_says
rtt_says (to ∷ []) = bad_says
rtt_says (to ∷ number ∷ []) = bad_says
rtt_says (to ∷ number ∷ ticks ∷ []) =
    made_says (λ (p : ℕ × (ℕ × ℕ)). word.Rtt p.0 p.1.0 p.1.1)
    (both (narrow_in to) (both (wide_in number) (wide_in ticks))) (λ p read. refl)
rtt_says (to ∷ number ∷ ticks ∷ other ∷ more) = bad_says

voucher_says : (fields : List (List ℕ)) → Says (voucher_in fields)
unfolding is_accepted
voucher_says [] = bad_says
voucher_says (client ∷ []) = bad_says
voucher_says (client ∷ number ∷ fields) =
    made_says (λ (p : ℕ × (ℕ × Order)). word.Voucher p.0 p.1.0 p.1.1)
    (both (narrow_in client) (both (wide_in number) (order_in fields))) (λ p read. refl)

kind_says : (cast : Cast) (k : Kind) (fields : List (List ℕ)) → actors_of cast < 2 ^ 64 → Says (fields_in cast k fields)
unfolding fields_in is_accepted
kind_says cast kind.Update fields few = bad_says
kind_says cast kind.PoRequest fields few = request_says cast fields
kind_says cast kind.PoAck fields few = poack_says cast fields
kind_says cast kind.PoSummary fields few = summary_says fields
kind_says cast kind.PrePrepare fields few = preprepare_says cast fields few
kind_says cast kind.Prepare fields few = made_says (λ (p : ℕ × (ℕ × Ref)). word.Prepare p.0 p.1.0 p.1.1)
    (vote_in cast fields) (vote_read cast fields)
kind_says cast kind.Commit fields few = made_says (λ (p : ℕ × (ℕ × Ref)). word.Commit p.0 p.1.0 p.1.1)
    (vote_in cast fields) (vote_read cast fields)
kind_says cast kind.Ping fields few = made_says word.Ping (number_in fields) (λ x read. refl)
kind_says cast kind.Pong fields few =
    made_says (λ (p : ℕ × ℕ). word.Pong p.0 p.1) (one_and_number_in fields) (λ x read. refl)
kind_says cast kind.Rtt fields few = rtt_says fields
kind_says cast kind.TatReport fields few = made_says (λ (p : ℕ × ℕ). word.TatReport p.0 p.1)
    (numbers_in fields) (λ x read. refl)
kind_says cast kind.TatBound fields few =
    made_says (λ (p : ℕ × ℕ). word.TatBound p.0 p.1) (numbers_in fields) (λ x read. refl)
kind_says cast kind.Suspect fields few = made_says word.Suspect (number_in fields) (λ x read. refl)
kind_says cast kind.Report fields few = report_says fields
kind_says cast kind.NewView fields few = newview_says cast fields few
kind_says cast kind.AskUpdate fields few = made_says (λ (p : ℕ × ℕ). word.AskUpdate p.0 p.1)
    (one_and_number_in fields) (λ x read. refl)
kind_says cast kind.Give fields few =
    made_says (λ (p : ℕ × ℕ). word.Give p.0 p.1) (one_and_number_in fields) (λ x read. refl)
kind_says cast kind.AskOrder fields few = made_says word.AskOrder (number_in fields) (λ x read. refl)
kind_says cast kind.GiveOrdered fields few = made_says word.GiveOrdered (number_in fields) (λ x read. refl)
kind_says cast kind.Voucher fields few = voucher_says fields
kind_says cast kind.Mark fields few = made_says word.Mark (number_in fields) (λ x read. refl)

kinds_say : (cast : Cast) (k : Option Kind) (fields : List (List ℕ)) → actors_of cast < 2 ^ 64 →
    Says (kind_fields_in cast k fields)
kinds_say cast None fields few = bad_says
kinds_say cast (Some k) fields few = kind_says cast k fields few

word_says : (cast : Cast) (words : List (List ℕ)) → actors_of cast < 2 ^ 64 → Says (word_in cast words)
unfolding word_in
word_says cast [] few w h = bad_says w h
word_says cast (name ∷ fields) few w h =
    chosen (bytes_eq name (codes "raw")) (raw_in fields) (kind_fields_in cast (kind_named name) fields) (Ok w) h
    (λ raw e. raw_says fields w e) (λ raw e. kinds_say cast (kind_named name) fields few w e)

-- addressees are there

kept_pass : (t p : ℕ → Bool) (xs : List ℕ) → list_all t xs ≡ true → list_all t (filter p xs) ≡ true
kept_pass t p [] h = refl
kept_pass t p (x ∷ xs) h =
    let two = and_parts (t x) (list_all t xs) h in by (p x) two.0 (kept_pass t p xs two.1)
  where
    by : (b : Bool) → t x ≡ true → list_all t (filter p xs) ≡ true →
        list_all t (cond b (x ∷ filter p xs) (filter p xs)) ≡ true
    by true one rest = and_from (t x) (list_all t (filter p xs)) one rest
    by false one rest = rest

addressed : (who : Who) (text : List ℕ) (to : List ℕ) → addressees_in who.cast text ≡ Ok to →
    list_all (is_there who) to ≡ true
unfolding addressees_in
addressed who text to h =
    let (named, read, is) = said_from (among who.cast) (each (actor_in who.cast) (slice_split (λ b. b == 44) text))
    to h in
    ap (list_all (is_there who)) (sym is)
    ∙ kept_pass (is_there who) (λ a. list_any (λ m. nat_eq m a) named) (numbers_below (actors_of who.cast))
    (numbers_pass (actors_of who.cast) (actors_of who.cast) (omega arith))

four_hold : (a b c : Bool) {d : Bool} → (a && b) ≡ true → c ≡ true → d ≡ true → (a && b && c && d) ≡ true
four_hold true true true two three last = last
four_hold true true false two three last = absurd (cc)
four_hold true false c two three last = absurd (cc)
four_hold false b c two three last = absurd (cc)

saying_read : (who : Who) (words : List (List ℕ)) (s : Saying) → actors_of who.cast < 2 ^ 64 →
    saying_in who words ≡ Ok s → saying_fits who s ≡ true
unfolding saying_in
saying_read who [] s few h = absurd (cc)
saying_read who (name ∷ []) s few h = absurd (cc)
saying_read who (name ∷ to ∷ fields) s few h =
    let (p, read, is) = said_from saying_of
    (both (intruded_in who name) (both (addressees_in who.cast to) (word_in who.cast fields))) s h in
    let one = both_read (intruded_in who name) (both (addressees_in who.cast to) (word_in who.cast fields)) p read in
    let two = both_read (addressees_in who.cast to) (word_in who.cast fields) p.1 one.1 in
    ap (saying_fits who) (sym is)
    ∙ four_hold (is_there who p.0) (is_intruded who p.0) (list_all (is_there who) p.1.0)
    (intruded_there who name p.0 one.0) (addressed who to p.1.0 two.0)
    (word_says who.cast fields few p.1.1 two.1)

-- a scenario has few actors
few_actors : (c : Contents) → IsScenario c → actors_of (who_of c).cast < 2 ^ 64
few_actors c is =
    let f_small = is.group.at_most_three_intruded in
    let k_small = is.group.at_most_two_away in
    let screens = is.at_most_four_screens in
    let proxies = is.plant.devices in
    omega arith

pub words_fit : (c : Contents) (bytes : List ℕ) (words : List Saying) → IsScenario c →
    words_in (who_of c) bytes ≡ Ok words → list_all (saying_fits (who_of c)) words ≡ true
unfolding words_in
words_fit c bytes words is h =
    file_passes (saying_fits (who_of c)) 1000 (λ number words. saying_in (who_of c) words) bytes words
    (λ number ws s read. saying_read (who_of c) ws s (few_actors c is) read) h
