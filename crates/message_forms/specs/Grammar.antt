-- How bytes are taken apart: the pieces that every form is made of, each with its one fault. What stands at the
-- front of the bytes is a value and what is left behind it, or the first fault and its place. The forms themselves
-- stand in `Forms`; that they agree with the texts of `message_types`, both ways, is proved of each.
use Rattle.std.specs.Prelude.{ℕ, zero, suc, ◌+◌, Bool, true, nat_eq, nat_lt, nat_le, if◌then◌else◌, List, [], ◌∷◌}
use Rattle.std.specs.Prelude.{length, take, drop, Option, Some, None, Result, Ok, Err, ℤ}
use Rattle.std.specs.Int.{w64, cast_signed}
use Rattle.byteorder.specs.Endian.{big_number}
use Rattle.wire_parts.specs.View.{View}
use Rattle.message_types.specs.declared.signed.Signed.{Signed}
use Rattle.message_types.specs.declared.limits.TheConstants.{MOST_LISTED, MOST_SIGNATURE_BYTES, MOST_BODY_BYTES}
use Rattle.message_forms.specs.declared.refusal.FormRefusal.{FormRefusal}
use Rattle.message_forms.specs.declared.refusal.FormRefusal.TheVariants as fault

abbrev pub Reading : Type 0 → Type 0
Reading X = Result (X × View) FormRefusal

infixl 10 ◌>>=◌
abbrev pub ◌>>=◌ : {A B : Type 0} → Result A FormRefusal → (A → Result B FormRefusal) → Result B FormRefusal
(Ok x) >>= f = f x
(Err e) >>= f = Err e

abbrev pub at : ℕ → List ℕ → View
at place rest = record { place = place; rest = rest }

-- a field of a fixed number of bytes: it is short, or it has this value
unfoldable pub field_at : {X : Type 0} → (List ℕ → X) → ℕ → View → Reading X
field_at value size v =
    if nat_lt (length v.rest) size then Err (fault.Short v.place)
    else Ok (value v.rest, at (v.place + size) (drop size v.rest))

abbrev pub number_at : ℕ → View → Reading ℕ
number_at size = field_at (big_number size) size

abbrev pub bytes_at : ℕ → View → Reading (List ℕ)
bytes_at size = field_at (take size) size

-- nothing at all
abbrev pub nothing : View → Reading (Unit {0})
nothing v = Ok (tt, v)

-- one behind the other
abbrev pub both : {A B : Type 0} → (View → Reading A) → (View → Reading B) → View → Reading (A × B)
both first second v = first v >>= λ a. second a.1 >>= λ b. Ok ((a.0, b.0), b.1)

-- a value made of what stands there
abbrev pub made : {A X : Type 0} → (A → X) → (View → Reading A) → View → Reading X
made make read v = read v >>= λ a. Ok (make a.0, a.1)

-- in two's complement
abbrev pub signed_number_at : View → Reading ℤ
signed_number_at = made (cast_signed w64) (number_at 8)

-- a number that has to pass a test
unfoldable pub checked_at : ℕ → (ℕ → Bool) → (ℕ → FormRefusal) → View → Reading ℕ
checked_at size test refusal v =
    number_at size v >>= λ found. if test found.0 then Ok found else Err (refusal v.place)

-- a mark that has to stand there
abbrev pub mark_here : ℕ → ℕ → View → Reading ℕ
mark_here size mark = checked_at size (λ n. nat_eq n mark) fault.UnknownKind

-- how many items a list has
abbrev pub count_at : ℕ → View → Reading ℕ
count_at most = checked_at 2 (λ n. nat_le n most) fault.TooMany

-- how many bytes stand behind it
abbrev pub length_at : ℕ → View → Reading ℕ
length_at most = checked_at 4 (λ n. nat_le n most) fault.TooLong

-- the key of an item of an ordered list is above that of the item before it, if there is one
abbrev pub is_above : Option ℕ → Option ℕ → Bool
is_above None key = true
is_above (Some before) None = true
is_above (Some before) (Some key) = nat_lt before key

abbrev pub key_at : ℕ → Option ℕ → View → Reading ℕ
key_at size before = checked_at size (λ n. is_above before (Some n)) fault.BadOrder

-- a mark, and what follows it
abbrev pub marked : {X : Type 0} → ℕ → ℕ → (View → Reading X) → View → Reading X
marked size mark read v = mark_here size mark v >>= λ found. read found.1

-- forms by the number in front of them: what follows the number that stood at a place
abbrev pub Cases : Type 0 → Type 0
Cases X = ℕ → ℕ → View → Reading X

abbrev pub unknown : {X : Type 0} → Cases X
unknown number place v = Err (fault.UnknownKind place)

-- the form of one number, and those of the others
abbrev pub case : {A X : Type 0} → ℕ → (A → X) → (View → Reading A) → Cases X → Cases X
case mark make read others number place v = if nat_eq number mark then made make read v else others number place v

abbrev pub chosen : {X : Type 0} → ℕ → Cases X → View → Reading X
chosen size cases v = number_at size v >>= λ found. cases found.0 v.place found.1

-- so many items, each given the key of the one before it
abbrev pub items_at : {X : Type 0} → (Option ℕ → View → Reading X) → (X → Option ℕ) → ℕ →
    Option ℕ → View → Reading (List X)
items_at item key zero before v = Ok ([], v)
items_at item key (suc n) before v =
    item before v >>= λ x. items_at item key n (key x.0) x.1 >>= λ xs. Ok (x.0 ∷ xs.0, xs.1)

-- a list of at most so many items
unfoldable pub list_at : {X : Type 0} → ℕ → (Option ℕ → View → Reading X) → (X → Option ℕ) → View → Reading (List X)
list_at most item key v = count_at most v >>= λ count. items_at item key count.0 None count.1

-- nothing is left
unfoldable pub end_at : View → Reading (Unit {0})
end_at v = if nat_lt 0 (length v.rest) then Err (fault.Trailing v.place) else Ok (tt, v)

-- the bytes of a body, which fill the length before them, and those of a signature
unfoldable pub enclosed : {B : Type 0} → (View → Reading B) → View → Reading (B × List ℕ)
enclosed body v =
    length_at MOST_BODY_BYTES v >>= λ size. bytes_at size.0 size.1
    >>= λ piece. body (at size.1.place piece.0) >>= λ word.
    end_at word.1 >>= λ done. length_at MOST_SIGNATURE_BYTES piece.1 >>= λ count. bytes_at count.0 count.1 >>= λ sig.
    Ok ((word.0, sig.0), sig.1)

abbrev pub as_signed : {B : Type 0} → ℕ × (B × List ℕ) → Signed B
as_signed parts = record { signer = parts.0; body = parts.1.0; sig = parts.1.1 }

-- a frame, behind one of the signer before it
unfoldable pub signed_at : {B : Type 0} → (View → Reading B) → Option ℕ → View → Reading (Signed B)
signed_at body before v = made as_signed (both (key_at 4 before) (enclosed body)) v

abbrev pub signer_of : {B : Type 0} → Signed B → Option ℕ
signer_of frame = Some frame.signer

-- a list of frames whose signers rise
abbrev pub frames_at : {B : Type 0} → (View → Reading B) → View → Reading (List (Signed B))
frames_at body v = list_at MOST_LISTED (signed_at body) signer_of v

abbrev pub no_key : {X : Type 0} → X → Option ℕ
no_key x = None
