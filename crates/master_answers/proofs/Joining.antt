-- Words due by all rules, in one list.
use Rattle.std.proofs.Common.{◌≡◌, List, ◌++◌, sym, ◌∙◌, ap, append_assoc}
use Rattle.message_types.specs.declared.body.Body.{Body}

pub pair : (xs ys ps bs : List Body) → xs ≡ ps → ys ≡ bs → xs ++ ys ≡ ps ++ bs
pair xs ys ps bs e h = ap (λ zs. zs ++ ys) e ∙ ap (λ zs. ps ++ zs) h

and_two : (xs ys ps b c : List Body) → xs ≡ ps → ys ≡ b ++ c → xs ++ ys ≡ ps ++ b ++ c
and_two xs ys ps b c e h = pair xs ys ps (b ++ c) e h ∙ sym (append_assoc ps b c)

and_six : (xs ys ps b c d e f h : List Body) → xs ≡ ps → ys ≡ b ++ c ++ d ++ e ++ f ++ h →
    xs ++ ys ≡ ps ++ b ++ c ++ d ++ e ++ f ++ h
and_six xs ys ps b c d e f h same is =
    pair xs ys ps (b ++ c ++ d ++ e ++ f ++ h) same is
    ∙ sym (append_assoc ps (b ++ c ++ d ++ e ++ f) h)
    ∙ ap (λ zs. zs ++ h) (sym (append_assoc ps (b ++ c ++ d ++ e) f))
    ∙ ap (λ zs. zs ++ f ++ h) (sym (append_assoc ps (b ++ c ++ d) e))
    ∙ ap (λ zs. zs ++ e ++ f ++ h) (sym (append_assoc ps (b ++ c) d))
    ∙ ap (λ zs. zs ++ d ++ e ++ f ++ h) (sym (append_assoc ps b c))

pub all_joined : (a2 a3 a4 a5 a6 a7 a8 a9 a10 a11 a12 a13 a14 a15 a16 a17 a18 a19 a20 a21 requests at_a_tick orders
    measures views updates_asked gives orders_asked given vouchers marks : List Body)
    → requests ≡ a2 ++ a3 → at_a_tick ≡ a4 ++ a5 → orders ≡ a6 ++ a7 → measures ≡ a8 ++ a9 ++ a10 ++ a11
    ++ a12 ++ a13 → views ≡ a14 ++ a15
    → updates_asked ≡ a16 → gives ≡ a17 → orders_asked ≡ a18 → given ≡ a19 → vouchers ≡ a20 → marks ≡ a21
    → requests ++ at_a_tick ++ orders ++ measures ++ views ++ updates_asked ++ gives ++ orders_asked
    ++ given ++ vouchers ++ marks
    ≡ a2 ++ a3 ++ a4 ++ a5 ++ a6 ++ a7 ++ a8 ++ a9 ++ a10 ++ a11 ++ a12 ++ a13 ++ a14 ++ a15 ++ a16
    ++ a17 ++ a18 ++ a19 ++ a20 ++ a21
all_joined a2 a3 a4 a5 a6 a7 a8 a9 a10 a11 a12 a13 a14 a15 a16 a17 a18 a19 a20 a21 requests at_a_tick orders measures
    views updates_asked gives orders_asked given vouchers marks r t o m v u g n d w k =
    pair _ marks _ a21 (pair _ vouchers _ a20
    (pair _ given _ a19 (pair _ orders_asked _ a18 (pair _ gives _ a17 (pair _ updates_asked _ a16
    (and_two _ views _ a14 a15
    (and_six _ measures _ a8 a9 a10 a11 a12 a13 (and_two _ orders _ a6 a7 (and_two _ at_a_tick _ a4 a5 r t) o) m)
    v) u) g) n) d) w) k
