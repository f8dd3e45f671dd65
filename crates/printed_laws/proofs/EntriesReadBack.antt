-- The words of an entry's line, and what they say.
use Rattle.std.proofs.Common.{◌≡◌, ℕ, ℤ, pos, negsuc, suc, ◌+◌, ◌/◌, ◌<◌, ◌^◌, ◌==◌, Bool, true, false, cond, not}
use Rattle.std.proofs.Common.{◌&&◌, nat_lt, List, [], ◌∷◌, ◌++◌, Option, Some, None, Ok, length, get_or, map, take}
use Rattle.std.proofs.Common.{drop, append-nil, append_assoc, refl, sym, ◌∙◌, ap, arith}
use Rattle.std.specs.Prelude.{codes, decimal, position, FitsSigned}
use Rattle.std.specs.Int.{w64}
use Rattle.std.specs.Fmt.{signed_decimal}
use Rattle.std.specs.List.{list_all, flat_map, slice_split, prefix_len}
use Rattle.std.specs.Str.{bytes_eq}
use Rattle.std.specs.Char.{is_ascii_digit}
use Rattle.std.proofs.lemmas.Bool.{and_parts, and_from, ne_eqb, lt-ltb, ltb-true, le-ltb, false_from_ne_true}
use Rattle.std.proofs.lemmas.List.{length-append}
use Rattle.std.proofs.lemmas.Slice.Eq.{bytes_eq-Decides}
use Rattle.std.proofs.lemmas.Fmt.{decimal_nonempty}
use Rattle.hex.specs.Hex.{encode_with, encode_lower, lower_digits}
use Rattle.point_table.specs.declared.point.Area.{Area}
use Rattle.point_table.specs.declared.point.Area.TheVariants as area
use Rattle.message_types.specs.declared.signed.Signed.{Signed}
use Rattle.message_types.specs.declared.body.Body.{Body}
use Rattle.message_types.specs.declared.updates.Op.{Op}
use Rattle.message_types.specs.declared.updates.Op.TheVariants as op
use Rattle.message_types.specs.Texts.{frame_text}
use Rattle.message_forms.specs.Widths.{IsBytes, Is32, Is64, FitsOp}
use Rattle.message_forms.proofs.Spells.{IsBytes-at}
use Rattle.scenario_file.specs.declared.actors.Cast.{Cast}
use Rattle.scenario_file.specs.Actors.{actors_of, actor_name}
use Rattle.script_grammar.specs.Faults.{or_bad, said, both}
use Rattle.script_grammar.specs.Numbers.{bytes_in}
use Rattle.script_grammar.specs.Kinds.{kind_name}
use Rattle.history_rules.specs.Events.{Event, Took, Tick, Command, Field, Poll, Cry, Skip, Restart, Entry}
use Rattle.run_lines.specs.declared.event_line.EventLine.{EventLine}
use Rattle.run_lines.specs.declared.event_line.EventLine.TheVariants as line
use Rattle.run_lines.specs.Names.{kind_of, area_name}
use Rattle.run_lines.specs.Texts.{hex_text, op_text, event_text, kind_text, said_text, entry_text}
use Rattle.run_lines.specs.Reading.{place_in, op_in, event_in, kinds_in, parted, event_and_kinds_in, if_there, made}
use Rattle.run_lines.specs.Reading.{entry_in}
use Rattle.printed_laws.specs.Lines.{event_line, line_read, IsWritable, IsPrintable}
use Rattle.printed_laws.proofs.NumbersReadBack.{wide_back, narrow_back, short_back, signed_back, bytes_back, first_is_digit}
use Rattle.printed_laws.proofs.WordsCutAgain.{line_of, line_of-more}
use Rattle.printed_laws.proofs.NamesReadBack.{kinds_back, area_back, actor_back}
use Rattle.script_grammar.proofs.Worded.{digits_all, cut_at, uncut, all_at}
use Rattle.plain_lists.proofs.Lists.{all_weaker}

abbrev pub op_words : Op → List (List ℕ)
op_words (op.Reading point value) = codes "reading" ∷ decimal point ∷ signed_decimal value ∷ []
op_words (op.Set point value) = codes "set" ∷ decimal point ∷ signed_decimal value ∷ []
op_words (op.Ack alarm) = codes "ack" ∷ decimal alarm ∷ []

abbrev took_words : Bool → ℕ → ℕ → Signed Body → List (List ℕ)
took_words true stamp place frame = (decimal stamp ++ 46 ∷ decimal place) ∷ []
took_words false stamp place frame = codes "frame" ∷ hex_text (frame_text frame) ∷ []

-- the first word of an event, and the others
abbrev pub event_word : Event → List ℕ
event_word (Took stamp place frame) = codes "took"
event_word Tick = codes "tick"
event_word (Command o) = codes "command"
event_word (Field a place value) = codes "field"
event_word Poll = codes "poll"
event_word (Cry bytes) = codes "cry"
event_word Skip = codes "skip"
event_word Restart = codes "restart"

abbrev pub field_words : Bool → Event → List (List ℕ)
field_words told (Took stamp place frame) = took_words told stamp place frame
field_words told Tick = []
field_words told (Command o) = op_words o
field_words told (Field a place value) = area_name a ∷ decimal place ∷ decimal value ∷ []
field_words told Poll = []
field_words told (Cry bytes) = hex_text bytes ∷ []
field_words told Skip = []
field_words told Restart = []

abbrev pub said_words : List Body → List (List ℕ)
said_words [] = []
said_words (b ∷ bodies) = codes "says" ∷ map (λ x. kind_name (kind_of x)) (b ∷ bodies)

-- the text of an event is the line of its words
op_is : (o : Op) → codes "command " ++ op_text o ≡ line_of (codes "command" ∷ op_words o)
unfolding op_text
op_is (op.Reading point value) = ap (λ (bs : List ℕ). codes "command reading " ++ bs)
    (append_assoc (decimal point) (codes " ") (signed_decimal value))
op_is (op.Set point value) =
    ap (λ (bs : List ℕ). codes "command set " ++ bs) (append_assoc (decimal point) (codes " ") (signed_decimal value))
op_is (op.Ack alarm) = refl

event_is : (told : Bool) (e : Event) → event_text told e ≡ line_of (event_word e ∷ field_words told e)
unfolding event_text
event_is true (Took stamp place frame) =
    ap (λ (bs : List ℕ). codes "took " ++ bs) (append_assoc (decimal stamp) (codes ".") (decimal place))
event_is false (Took stamp place frame) = refl
event_is told Tick = refl
event_is told (Command o) = op_is o
event_is told (Field a place value) =
    let rest : List ℕ = decimal value in
    ap (λ (bs : List ℕ). codes "field " ++ bs)
    (append_assoc ((area_name a ++ codes " ") ++ decimal place) (codes " ") rest
    ∙ append_assoc (area_name a ++ codes " ") (decimal place) (32 ∷ rest)
    ∙ append_assoc (area_name a) (codes " ") (decimal place ++ 32 ∷ rest))
event_is told Poll = refl
event_is told (Cry bytes) = refl
event_is told Skip = refl
event_is told Restart = refl

names_are : (b : Body) (bodies : List Body) → flat_map kind_text (b ∷ bodies) ≡ 32
    ∷ line_of (map (λ x. kind_name (kind_of x)) (b ∷ bodies))
names_are b [] = append-nil (kind_text b)
names_are b (d ∷ bodies) = ap (λ (bs : List ℕ). kind_text b ++ bs) (names_are d bodies)

-- an event's text with the kinds of what was said is the line of their words
with_kinds : (told : Bool) (e : Event) (bodies : List Body) →
    event_text told e ++ said_text bodies ≡ line_of (event_word e ∷ field_words told e ++ said_words bodies)
with_kinds told e [] =
    append-nil (event_text told e) ∙ event_is told e
    ∙ ap (λ (ws : List (List ℕ)). line_of (event_word e ∷ ws)) (sym (append-nil (field_words told e)))
with_kinds told e (b ∷ bodies) =
    (λ i. event_is told e i ++ (codes " says" ++ names_are b bodies i))
    ∙ sym (line_of-more (field_words told e) (codes "says") (map (λ x. kind_name (kind_of x)) (b ∷ bodies))
    (event_word e))

abbrev pub entry_words : Cast → Bool → Entry → List (List ℕ)
entry_words cast told e = actor_name cast e.actor ∷ event_word e.event ∷ field_words told e.event ++ said_words e.said

joined : (a b c d f : List ℕ) → a ++ codes " " ++ b ++ codes " " ++ c ++ d ++ f ≡ (a ++ 32 ∷ (b ++ 32 ∷ (c ++ d))) ++ f
joined a b c d f =
    ap (λ (bs : List ℕ). bs ++ f)
    (append_assoc (a ++ codes " " ++ b ++ codes " ") c d
    ∙ append_assoc (a ++ codes " " ++ b) (codes " ") (c ++ d)
    ∙ append_assoc (a ++ codes " ") b (32 ∷ (c ++ d))
    ∙ append_assoc a (codes " ") (b ++ 32 ∷ (c ++ d)))

pub entry_is : (cast : Cast) (told : Bool) (e : Entry) →
    entry_text cast told e ≡ line_of (decimal e.stamp ∷ entry_words cast told e) ++ codes "\n"
unfolding entry_text
entry_is cast told e =
    joined (decimal e.stamp) (actor_name cast e.actor) (event_text told e.event) (said_text e.said) (codes "\n")
    ∙ ap (λ (bs : List ℕ). (decimal e.stamp ++ 32 ∷ (actor_name cast e.actor ++ 32 ∷ bs)) ++ codes "\n")
    (with_kinds told e.event e.said)

-- what an event's words say

no_dot : (b : ℕ) → is_ascii_digit b ≡ true → not (b == 46) ≡ true
no_dot b is = ap not (ne_eqb b 46 (λ (same : b ≡ 46). grind arith))

place_back : (stamp place : ℕ) → Is64 stamp → Is32 place →
    place_in (slice_split (λ b. b == 46) (decimal stamp ++ 46 ∷ decimal place)) ≡ Ok (line.Said stamp place)
place_back stamp place wide narrow =
    ap place_in (cut_at (λ b. b == 46) (decimal stamp) 46 (decimal place)
    (all_weaker is_ascii_digit (λ b. not (b == 46)) (decimal stamp) no_dot (digits_all stamp wide)) refl
    ∙ ap (λ (rest : List (List ℕ)). decimal stamp ∷ rest)
    (uncut (λ b. b == 46) (decimal place) (all_weaker is_ascii_digit (λ b. not (b == 46)) (decimal place) no_dot
    (digits_all place (omega arith)))))
    ∙ (λ i. said (λ (p : ℕ × ℕ). line.Said p.0 p.1) (both (wide_back stamp wide i) (narrow_back place narrow i)))

hex_back : (bytes : List ℕ) → IsBytes bytes → bytes_in (hex_text bytes) ≡ Ok bytes
hex_back bytes are = bytes_back bytes (λ i. IsBytes-at bytes i are)

op_back : (o : Op) → FitsOp o → op_in (op_words o) ≡ Ok o
op_back (op.Reading point value) fits =
    λ i. said (λ (p : ℕ × ℤ). op.Reading p.0 p.1) (both (narrow_back point fits.0 i) (signed_back value fits.1 i))
op_back (op.Set point value) fits =
    λ i. said (λ (p : ℕ × ℤ). op.Set p.0 p.1) (both (narrow_back point fits.0 i) (signed_back value fits.1 i))
op_back (op.Ack alarm) fits = ap (said op.Ack) (narrow_back alarm fits)

event_back : (told : Bool) (e : Event) → IsWritable told e →
    event_in (event_word e ∷ field_words told e) ≡ Ok (event_line told e)
unfolding event_in
event_back true (Took stamp place frame) can = place_back stamp place can.0 can.1
event_back false (Took stamp place frame) can = ap (said line.Frame) (hex_back (frame_text frame) can)
event_back told Tick can = refl
event_back told (Command o) can = ap (said line.Command) (op_back o can)
event_back told (Field a place value) can =
    λ i. said (λ (p : Area × (ℕ × ℕ)). line.Field p.0 p.1.0 p.1.1)
    (both (or_bad (area_back a i)) (both (short_back place can.0 i) (short_back value can.1 i)))
event_back told Poll can = refl
event_back told (Cry bytes) can = ap (said line.Cry) (hex_back bytes can)
event_back told Skip can = refl
event_back told Restart can = refl

-- no word of an event is `says`

abbrev is_says : List ℕ → Bool
is_says word = bytes_eq word (codes "says")

other_word : (word : List ℕ) → get_or word 0 0 < 115 → not (is_says word) ≡ true
other_word word low =
    ap not (false_from_ne_true (is_says word) (λ yes.
    let head : get_or word 0 0 ≡ 115 =
    ap (λ (bs : List ℕ). get_or bs 0 0) ((bytes_eq-Decides word (codes "says")).0 yes) in
    omega (arith, head, low)))

other_number : (n : ℕ) → n < 2 ^ 64 → not (is_says (decimal n)) ≡ true
other_number n few = let digit = first_is_digit n few in other_word (decimal n) (omega (arith, digit.1))

other_signed : (z : ℤ) → FitsSigned w64 z → not (is_says (signed_decimal z)) ≡ true
other_signed (pos n) fits = let small : n < 2 ^ 63 = omega (arith, fits) in other_number n (omega arith)
other_signed (negsuc n) fits = refl

hex_low : (k : ℕ) → k < 16 → get_or lower_digits k 0 < 103
hex_low k few = ltb-true (get_or lower_digits k 0) 103 (all_at (λ b. nat_lt b 103) lower_digits k refl few)

other_hex : (bytes : List ℕ) → IsBytes bytes → not (is_says (hex_text bytes)) ≡ true
unfolding encode_with
other_hex [] are = refl
other_hex (b ∷ bytes) are =
    other_word (encode_lower (b ∷ bytes)) (omega (arith, hex_low (b / 16) (omega (arith, are.0))))

other_op : (o : Op) → FitsOp o → list_all (λ w. not (is_says w)) (op_words o) ≡ true
other_op (op.Reading point value) fits =
    and_from (not (is_says (decimal point))) (not (is_says (signed_decimal value)) && true)
    (other_number point (omega (arith, fits.0)))
    (and_from (not (is_says (signed_decimal value))) true (other_signed value fits.1) refl)
other_op (op.Set point value) fits =
    and_from (not (is_says (decimal point))) (not (is_says (signed_decimal value)) && true)
    (other_number point (omega (arith, fits.0)))
    (and_from (not (is_says (signed_decimal value))) true (other_signed value fits.1) refl)
other_op (op.Ack alarm) fits =
    and_from (not (is_says (decimal alarm))) true (other_number alarm (omega (arith, fits))) refl

place_first : (ds rest : List ℕ) → 0 < length ds → get_or (ds ++ rest) 0 0 ≡ get_or ds 0 0
place_first [] rest some = absurd (omega arith)
place_first (d ∷ ds) rest some = refl

other_place : (stamp place : ℕ) → Is64 stamp → not (is_says (decimal stamp ++ 46 ∷ decimal place)) ≡ true
other_place stamp place wide =
    let digit = first_is_digit stamp wide in
    let head : get_or (decimal stamp ++ 46 ∷ decimal place) 0 0 ≡ get_or (decimal stamp) 0 0 =
    place_first (decimal stamp) (46 ∷ decimal place) (decimal_nonempty stamp wide) in
    other_word (decimal stamp ++ 46 ∷ decimal place) (omega (arith, head, digit.1))

other_fields : (told : Bool) (e : Event) → IsWritable told e →
    list_all (λ w. not (is_says w)) (field_words told e) ≡ true
other_fields true (Took stamp place frame) can = and_from (not (is_says (decimal stamp ++ 46 ∷ decimal place))) true
    (other_place stamp place can.0) refl
other_fields false (Took stamp place frame) can = and_from (not (is_says (hex_text (frame_text frame)))) true
    (other_hex (frame_text frame) can) refl
other_fields told Tick can = refl
other_fields told (Command o) can = other_op o can
other_fields told (Field a place value) can =
    and_from (not (is_says (area_name a))) (not (is_says (decimal place)) && (not (is_says (decimal value)) && true))
    (other_area a)
    (and_from (not (is_says (decimal place))) (not (is_says (decimal value)) && true)
    (other_number place (omega (arith, can.0)))
    (and_from (not (is_says (decimal value))) true (other_number value (omega (arith, can.1))) refl))
  where
    other_area : (x : Area) → not (is_says (area_name x)) ≡ true
    other_area area.Coil = refl
    other_area area.Discrete = refl
    other_area area.Holding = refl
    other_area area.Input = refl
other_fields told Poll can = refl
other_fields told (Cry bytes) can = and_from (not (is_says (hex_text bytes))) true (other_hex bytes can) refl
other_fields told Skip can = refl
other_fields told Restart can = refl

other_event : (e : Event) → not (is_says (event_word e)) ≡ true
other_event (Took stamp place frame) = refl
other_event Tick = refl
other_event (Command o) = refl
other_event (Field a place value) = refl
other_event Poll = refl
other_event (Cry bytes) = refl
other_event Skip = refl
other_event Restart = refl

-- where `says` stands

abbrev passes : List (List ℕ) → ℕ
passes ws = prefix_len (λ w. not (is_says w)) ws

pass_all : (ws rest : List (List ℕ)) → list_all (λ w. not (is_says w)) ws ≡ true →
    passes (ws ++ rest) ≡ length ws + passes rest
pass_all [] rest all = omega arith
pass_all (w ∷ ws) rest all =
    let parts = and_parts (not (is_says w)) (list_all (λ v. not (is_says v)) ws) all in
    let later : passes (ws ++ rest) ≡ length ws + passes rest = pass_all ws rest parts.1 in
    let here : passes (w ∷ ws ++ rest) ≡ 1 + passes (ws ++ rest) =
    ap (λ b. cond b (1 + passes (ws ++ rest)) 0) parts.0 in
    omega (arith, later, here)

says_nowhere : (ws : List (List ℕ)) → list_all (λ w. not (is_says w)) ws ≡ true → position is_says ws ≡ None
says_nowhere ws all =
    let last : passes (ws ++ []) ≡ length ws + 0 = pass_all ws [] all in
    let end : passes ws ≡ length ws = ap passes (sym (append-nil ws)) ∙ last ∙ omega arith in
    ap (λ (n : ℕ). cond (nat_lt n (length ws)) (Some n) None) end ∙ ap (λ b. cond b (Some (length ws)) None)
    (le-ltb (length ws) (length ws) (omega arith))

says_there : (ws vs : List (List ℕ)) → list_all (λ w. not (is_says w)) ws ≡ true →
    position is_says (ws ++ codes "says" ∷ vs) ≡ Some (length ws)
says_there ws vs all =
    let first : passes (ws ++ codes "says" ∷ vs) ≡ length ws + 0 = pass_all ws (codes "says" ∷ vs) all in
    let end : passes (ws ++ codes "says" ∷ vs) ≡ length ws = first ∙ omega arith in
    let more : length (ws ++ codes "says" ∷ vs) ≡ length ws + suc (length vs) = length-append ws (codes "says" ∷ vs) in
    ap (λ (n : ℕ). cond (nat_lt n (length (ws ++ codes "says" ∷ vs))) (Some n) None) end
    ∙ ap (λ b. cond b (Some (length ws)) None)
    (lt-ltb (length ws) (length (ws ++ codes "says" ∷ vs)) (omega (arith, more)))

front : (ws : List (List ℕ)) (v : List ℕ) (vs : List (List ℕ)) → take (length ws) (ws ++ v ∷ vs) ≡ ws
front [] v vs = refl
front (w ∷ ws) v vs = ap (λ (us : List (List ℕ)). w ∷ us) (front ws v vs)

behind : (ws : List (List ℕ)) (v : List ℕ) (vs : List (List ℕ)) → drop (suc (length ws)) (ws ++ v ∷ vs) ≡ vs
behind [] v vs = refl
behind (w ∷ ws) v vs = behind ws v vs

with_kinds_back : (told : Bool) (e : Event) (bodies : List Body) → IsWritable told e
    → event_and_kinds_in (event_word e ∷ field_words told e ++ said_words bodies) ≡ Ok
    (event_line told e, map kind_of bodies)
unfolding event_and_kinds_in
with_kinds_back told e [] can =
    let words : List (List ℕ) = event_word e ∷ field_words told e in
    let others = and_from (not (is_says (event_word e))) (list_all (λ w. not (is_says w)) (field_words told e))
    (other_event e) (other_fields told e can) in
    ap (λ (ws : List (List ℕ)). parted (position is_says ws) ws) (append-nil words)
    ∙ ap (λ (o : Option ℕ). parted o words) (says_nowhere words others)
    ∙ ap (said (λ (event : EventLine). (event, []))) (event_back told e can)
with_kinds_back told e (b ∷ bodies) can =
    let words : List (List ℕ) = event_word e ∷ field_words told e in
    let names : List (List ℕ) = map (λ x. kind_name (kind_of x)) (b ∷ bodies) in
    let others = and_from (not (is_says (event_word e))) (list_all (λ w. not (is_says w)) (field_words told e))
    (other_event e) (other_fields told e can) in
    ap (λ (o : Option ℕ). parted o (words ++ codes "says" ∷ names)) (says_there words names others)
    ∙ (λ i. both (event_in (front words (codes "says") names i)) (kinds_in (behind words (codes "says") names i)))
    ∙ (λ i. both (event_back told e can i) (kinds_back (b ∷ bodies) i))

pub entry_back : (cast : Cast) (told : Bool) (e : Entry) → actors_of cast < 2 ^ 64 → IsPrintable cast told e
    → entry_in cast (decimal e.stamp ∷ entry_words cast told e) ≡ Ok (line_read told e)
unfolding entry_in
entry_back cast told e few can =
    λ i. said made (both (wide_back e.stamp can.wide i)
    (both (if_there (actor_back cast e.actor can.there few i)) (with_kinds_back told e.event e.said can.event i)))
