-- The words of an entry's line are words: no blank stands in any of them.
use Rattle.std.proofs.Common.{◌≡◌, ℕ, ℤ, pos, negsuc, suc, ◌+◌, ◌-◌, ◌/◌, ◌%◌, ◌<◌, Bool, true, false, cond, ◌&&◌}
use Rattle.std.proofs.Common.{nat_lt, List, [], ◌∷◌, ◌++◌, get_or, map, refl, arith}
use Rattle.std.specs.Prelude.{codes, decimal}
use Rattle.std.specs.Fmt.{signed_decimal}
use Rattle.std.proofs.lemmas.Bool.{and_parts, and_from, lt-ltb, ltb-true}
use Rattle.hex.specs.Hex.{encode_with, lower_digits}
use Rattle.point_table.specs.declared.point.Area.{Area}
use Rattle.point_table.specs.declared.point.Area.TheVariants as area
use Rattle.message_types.specs.declared.body.Body.{Body}
use Rattle.message_types.specs.declared.updates.Op.{Op}
use Rattle.message_types.specs.declared.updates.Op.TheVariants as op
use Rattle.message_types.specs.Texts.{frame_text}
use Rattle.message_forms.specs.Widths.{IsBytes}
use Rattle.scenario_file.specs.declared.actors.Cast.{Cast}
use Rattle.scenario_file.specs.Actors.{actor_name}
use Rattle.script_grammar.specs.declared.kinds.Kind.{Kind}
use Rattle.script_grammar.specs.declared.kinds.Kind.TheVariants as kind
use Rattle.script_grammar.specs.Kinds.{kind_name}
use Rattle.history_rules.specs.Events.{Event, Took, Tick, Command, Field, Poll, Cry, Skip, Restart, Entry}
use Rattle.run_lines.specs.Names.{kind_of, area_name}
use Rattle.run_lines.specs.Texts.{hex_text}
use Rattle.printed_laws.specs.Lines.{IsWritable}
use Rattle.printed_laws.proofs.LinesPassed.{is_digit, numeral_digits}
use Rattle.printed_laws.proofs.EntriesReadBack.{op_words, event_word, field_words, said_words, entry_words}
use Rattle.script_grammar.proofs.Worded.{all_of_both, is_word_byte, is_word, are_words, digit_word}
use Rattle.plain_lists.proofs.Lists.{all_weaker}

digit_in_word : (b : ℕ) → is_digit b ≡ true → is_word_byte b ≡ true
digit_in_word b is =
    let parts = and_parts (nat_lt 47 b) (nat_lt b 58) is in
    let low : 47 < b = ltb-true 47 b parts.0 in
    let high : b < 58 = ltb-true b 58 parts.1 in
    and_from (nat_lt 32 b) (nat_lt b 128) (lt-ltb 32 b (omega arith)) (lt-ltb b 128 (omega arith))

numeral_word : (n : ℕ) → is_word (decimal n) ≡ true
numeral_word n = all_weaker is_digit is_word_byte (decimal n) digit_in_word (numeral_digits n)

joined_word : (v w : List ℕ) → is_word v ≡ true → is_word w ≡ true → is_word (v ++ w) ≡ true
joined_word v w one two = all_of_both is_word_byte v w one two

signed_word : (z : ℤ) → is_word (signed_decimal z) ≡ true
signed_word (pos n) = numeral_word n
signed_word (negsuc n) = joined_word (codes "-") (decimal (suc n)) refl (numeral_word (suc n))

name_word : (cast : Cast) (a : ℕ) → is_word (actor_name cast a) ≡ true
unfolding actor_name
name_word cast a = by (nat_lt a cast.masters) (nat_lt a (cast.masters + cast.proxies))
  where
    by : (m p : Bool) → is_word
        (cond m (codes "m" ++ decimal a)
        (cond p (codes "p" ++ decimal (a - cast.masters)) (codes "s" ++ decimal (a - (cast.masters + cast.proxies)))))
        ≡ true
    by true p = joined_word (codes "m") (decimal a) refl (numeral_word a)
    by false true = joined_word (codes "p") (decimal (a - cast.masters)) refl (numeral_word (a - cast.masters))
    by false false = joined_word (codes "s") (decimal (a - (cast.masters + cast.proxies))) refl
        (numeral_word (a - (cast.masters + cast.proxies)))

encoded_word : (bytes : List ℕ) → IsBytes bytes → is_word (encode_with lower_digits bytes) ≡ true
unfolding encode_with
encoded_word [] are = refl
encoded_word (b ∷ bytes) are =
    and_from (is_word_byte (get_or lower_digits (b / 16) 0)) (is_word_byte (get_or lower_digits (b % 16) 0)
    && is_word (encode_with lower_digits bytes))
    (digit_word (b / 16) (omega (arith, are.0)))
    (and_from (is_word_byte (get_or lower_digits (b % 16) 0)) (is_word (encode_with lower_digits bytes))
    (digit_word (b % 16) (omega arith)) (encoded_word bytes are.1))

hex_word : (bytes : List ℕ) → IsBytes bytes → is_word (hex_text bytes) ≡ true
hex_word [] are = refl
hex_word (b ∷ bytes) are = encoded_word (b ∷ bytes) are

area_word : (a : Area) → is_word (area_name a) ≡ true
area_word area.Coil = refl
area_word area.Discrete = refl
area_word area.Holding = refl
area_word area.Input = refl

kind_word : (k : Kind) → is_word (kind_name k) ≡ true
kind_word kind.Update = refl
kind_word kind.PoRequest = refl
kind_word kind.PoAck = refl
kind_word kind.PoSummary = refl
kind_word kind.PrePrepare = refl
kind_word kind.Prepare = refl
kind_word kind.Commit = refl
kind_word kind.Ping = refl
kind_word kind.Pong = refl
kind_word kind.Rtt = refl
kind_word kind.TatReport = refl
kind_word kind.TatBound = refl
kind_word kind.Suspect = refl
kind_word kind.Report = refl
kind_word kind.NewView = refl
kind_word kind.AskUpdate = refl
kind_word kind.Give = refl
kind_word kind.AskOrder = refl
kind_word kind.GiveOrdered = refl
kind_word kind.Voucher = refl
kind_word kind.Mark = refl

-- a word before words
one_more : (w : List ℕ) (ws : List (List ℕ)) → is_word w ≡ true → are_words ws ≡ true → are_words (w ∷ ws) ≡ true
one_more w ws one rest = and_from (is_word w) (are_words ws) one rest

words_and_words : (vs ws : List (List ℕ)) → are_words vs ≡ true → are_words ws ≡ true → are_words (vs ++ ws) ≡ true
words_and_words [] ws all rest = rest
words_and_words (v ∷ vs) ws all rest =
    let parts = and_parts (is_word v) (are_words vs) all in
    one_more v (vs ++ ws) parts.0 (words_and_words vs ws parts.1 rest)

op_are : (o : Op) → are_words (op_words o) ≡ true
op_are (op.Reading point value) = one_more (codes "reading") (decimal point ∷ signed_decimal value ∷ []) refl
    (one_more (decimal point) (signed_decimal value ∷ []) (numeral_word point)
    (one_more (signed_decimal value) [] (signed_word value) refl))
op_are (op.Set point value) = one_more (codes "set") (decimal point ∷ signed_decimal value ∷ []) refl
    (one_more (decimal point) (signed_decimal value ∷ []) (numeral_word point)
    (one_more (signed_decimal value) [] (signed_word value) refl))
op_are (op.Ack alarm) = one_more (codes "ack") (decimal alarm ∷ []) refl
    (one_more (decimal alarm) [] (numeral_word alarm) refl)

place_word : (stamp place : ℕ) → is_word (decimal stamp ++ 46 ∷ decimal place) ≡ true
place_word stamp place = joined_word (decimal stamp) (46 ∷ decimal place) (numeral_word stamp)
    (and_from (is_word_byte 46) (is_word (decimal place)) refl (numeral_word place))

fields_are : (told : Bool) (e : Event) → IsWritable told e → are_words (field_words told e) ≡ true
fields_are true (Took stamp place frame) can =
    one_more (decimal stamp ++ 46 ∷ decimal place) [] (place_word stamp place) refl
fields_are false (Took stamp place frame) can = one_more (codes "frame") (hex_text (frame_text frame) ∷ []) refl
    (one_more (hex_text (frame_text frame)) [] (hex_word (frame_text frame) can) refl)
fields_are told Tick can = refl
fields_are told (Command o) can = op_are o
fields_are told (Field a place value) can =
    one_more (area_name a) (decimal place ∷ decimal value ∷ []) (area_word a)
    (one_more (decimal place) (decimal value ∷ []) (numeral_word place)
    (one_more (decimal value) [] (numeral_word value) refl))
fields_are told Poll can = refl
fields_are told (Cry bytes) can = one_more (hex_text bytes) [] (hex_word bytes can) refl
fields_are told Skip can = refl
fields_are told Restart can = refl

event_word_is : (e : Event) → is_word (event_word e) ≡ true
event_word_is (Took stamp place frame) = refl
event_word_is Tick = refl
event_word_is (Command o) = refl
event_word_is (Field a place value) = refl
event_word_is Poll = refl
event_word_is (Cry bytes) = refl
event_word_is Skip = refl
event_word_is Restart = refl

kinds_are : (bodies : List Body) → are_words (map (λ x. kind_name (kind_of x)) bodies) ≡ true
kinds_are [] = refl
kinds_are (b ∷ bodies) = one_more (kind_name (kind_of b)) (map (λ x. kind_name (kind_of x)) bodies)
    (kind_word (kind_of b)) (kinds_are bodies)

said_are : (bodies : List Body) → are_words (said_words bodies) ≡ true
said_are [] = refl
said_are (b ∷ bodies) = one_more (codes "says") (map (λ x. kind_name (kind_of x)) (b ∷ bodies))
    refl (kinds_are (b ∷ bodies))

pub entry_words_are : (cast : Cast) (told : Bool) (e : Entry) → IsWritable told e.event →
    are_words (decimal e.stamp ∷ entry_words cast told e) ≡ true
entry_words_are cast told e can =
    one_more (decimal e.stamp) (entry_words cast told e) (numeral_word e.stamp)
    (one_more (actor_name cast e.actor) (event_word e.event ∷ field_words told e.event ++ said_words e.said)
    (name_word cast e.actor)
    (one_more (event_word e.event) (field_words told e.event ++ said_words e.said) (event_word_is e.event)
    (words_and_words (field_words told e.event) (said_words e.said) (fields_are told e.event can) (said_are e.said))))
