-- What is read of a line byte by byte is that line: what was seen of it has no line feed, and is kept as long as it has room.
use Rattle.std.proofs.Common.{◌≡◌, ◌≢◌, ℕ, ◌+◌, ◌<◌, ◌≤◌, ◌==◌, Bool, true, false, not, ◌&&◌, List, [], ◌∷◌, ◌++◌, nat_lt}
use Rattle.std.proofs.Common.{Option, None, Some, length, refl, sym, ◌∙◌, ap, subst, append-nil, arith}
use Rattle.std.proofs.lemmas.List.{length-append}
use Rattle.std.proofs.lemmas.List.Folds.{list_all-append}
use Rattle.std.proofs.lemmas.Bool.{ne_eqb, lt-ltb, false≢true}
use Rattle.std.specs.declared.vec.Vec.{Vec}
use Rattle.std.specs.declared.alloc.Global.{Global}
use Rattle.std.specs.Io.KnownBytes.{Consumes, Keeps, IsAtEnd}
use Rattle.station_files.specs.WholeLines.{has_no_feed}
use Rattle.std.specs.Prelude.{Ok}
use Rattle.station_files.specs.declared.lines.Came.{Came}
use Rattle.station_files.specs.Input.{IsRead, Comes, ComesOf, GivesByte, at_end, at_feed}

-- nothing of it yet
pub nothing_read : (room : ℕ) → IsRead room [] [] false false
nothing_read room = record {
  one = refl;
  begun = refl;
  fits = omega arith;
  short = λ _. refl;
  long = λ is. absurd (false≢true is);
}

-- one byte more is no line feed either
one_more : (seen : List ℕ) (b : ℕ) → has_no_feed seen ≡ true → b ≢ 10 → has_no_feed (seen ++ b ∷ []) ≡ true
one_more seen b one other =
    list_all-append (λ x. not (x == 10)) seen (b ∷ [])
    ∙ ap (λ t. t && (not (b == 10) && true)) one
    ∙ ap (λ t. not t && true) (ne_eqb b 10 other)

begun_more : (seen : List ℕ) (b : ℕ) → true ≡ nat_lt 0 (length (seen ++ b ∷ []))
begun_more seen b =
    let size = length-append seen (b ∷ []) in sym (lt-ltb 0 (length (seen ++ b ∷ [])) (omega arith))

-- it has no room
pub read_long : (room : ℕ) (seen line : List ℕ) (is_begun is_long : Bool) (b : ℕ) →
    IsRead room seen line is_begun is_long → b ≢ 10 → room ≤ length line →
    IsRead room (seen ++ b ∷ []) line true true
read_long room seen line is_begun is_long b is other full = record {
  one = one_more seen b is.one other;
  begun = begun_more seen b;
  fits = is.fits;
  short = λ e. absurd (false≢true (sym e));
  long = λ _. longer is_long refl;
}
  where
    longer : (long : Bool) → is_long ≡ long → room < length (seen ++ b ∷ [])
    longer true e = let past = is.long e in let size = length-append seen (b ∷ []) in omega arith
    longer false e =
        let same : length line ≡ length seen = ap length (is.short e) in
        let size = length-append seen (b ∷ []) in omega arith

-- it has
pub read_short : (room : ℕ) (seen line longer : List ℕ) (is_begun is_long : Bool) (b : ℕ) →
    IsRead room seen line is_begun is_long → b ≢ 10 → length line < room → longer ≡ line ++ b ∷ [] →
    IsRead room (seen ++ b ∷ []) longer true is_long
read_short room seen line longer is_begun is_long b is other low more = record {
  one = one_more seen b is.one other;
  begun = begun_more seen b;
  fits = let size : length longer ≡ length line + 1 = ap length more ∙ length-append line (b ∷ []) in omega arith;
  short = λ e. more ∙ ap (λ xs. xs ++ b ∷ []) (is.short e);
  long = λ e. let past = is.long e in let size = length-append seen (b ∷ []) in omega arith;
}

-- The input ends, so what was seen is all that waited.
pub came_at_end : (room : ℕ) (before now after : Option (List ℕ)) (seen line : List ℕ) (is_begun is_long : Bool) →
    IsRead room seen line is_begun is_long → Consumes before now seen → IsAtEnd now → IsAtEnd after → Keeps now after →
    ComesOf room before (at_end is_begun) after
came_at_end room None now after seen line is_begun is_long is read ends end keeps = tt
came_at_end room (Some xs) None after seen line is_begun is_long is read ends end keeps = absurd read
came_at_end room (Some xs) (Some ys) None seen line is_begun is_long is read ends end keeps = absurd keeps
came_at_end room (Some xs) (Some ys) (Some zs) seen line is_begun is_long is read ends end keeps =
    by is_begun is.begun
  where
    whole : xs ≡ seen
    whole = read ∙ ap (λ back. seen ++ back) ends ∙ append-nil seen

    by : (b : Bool) → b ≡ nat_lt 0 (length seen) → Comes room xs (at_end b) zs
    by true e = (ap has_no_feed whole ∙ is.one, λ none. absurd (some none e), end)
      where
        some : xs ≡ [] → true ≡ nat_lt 0 (length seen) → ⊥
        some none e =
            let empty : false ≡ nat_lt 0 (length seen) = ap (λ ys. nat_lt 0 (length ys)) (sym none ∙ whole) in
            false≢true (empty ∙ sym e)
    by false e = (whole ∙ none seen e, end)
      where
        none : (ys : List ℕ) → false ≡ nat_lt 0 (length ys) → ys ≡ []
        none [] e = refl
        none (y ∷ ys) e = absurd (false≢true (e ∙ lt-ltb 0 (length (y ∷ ys)) (omega arith)))

-- A line feed ends it.
pub came_at_feed : (room : ℕ) (before now after : Option (List ℕ)) (seen : List ℕ) (line : Vec ℕ Global)
    (is_begun is_long : Bool) → IsRead room seen line.items is_begun is_long → Consumes before now seen →
    Consumes now after (10 ∷ []) → ComesOf room before (at_feed line is_long) after
came_at_feed room None now after seen line is_begun is_long is read feed = tt
came_at_feed room (Some xs) None after seen line is_begun is_long is read feed = absurd read
came_at_feed room (Some xs) (Some ys) None seen line is_begun is_long is read feed = absurd feed
came_at_feed room (Some xs) (Some ys) (Some zs) seen line is_begun is_long is read feed = by is_long refl
  where
    whole : xs ≡ seen ++ 10 ∷ zs
    whole = read ∙ ap (λ back. seen ++ back) feed

    by : (b : Bool) → is_long ≡ b → Comes room xs (at_feed line b) zs
    by true e = (seen, record { whole = whole; one = is.one }, is.long e)
    by false e =
        let same : line.items ≡ seen = is.short e in (
          record {
            whole = whole ∙ ap (λ front. front ++ 10 ∷ zs) (sym same);
            one = ap has_no_feed same ∙ is.one;
          },
          is.fits,
        )

-- The same by what the next byte of the input was: none, a line feed, or another byte.
pub came_in_default : (room : ℕ) (before now after : Option (List ℕ)) (seen line : List ℕ) (is_begun is_long : Bool)
    (byte : Option ℕ) (told : Came) → IsRead room seen line is_begun is_long → Consumes before now seen →
    GivesByte now (Ok byte) after → byte ≡ None → told ≡ at_end is_begun → ComesOf room before told after
came_in_default room before now after seen line is_begun is_long byte told is read gives none same =
    let ends : GivesByte now (Ok None) after = subst (λ (o : Option ℕ). GivesByte now (Ok o) after) none gives in
    subst (λ (x : Came). ComesOf room before x after) (sym same)
    (came_at_end room before now after seen line is_begun is_long is read ends.0 ends.1 ends.2)

pub byte_given : (now after : Option (List ℕ)) (byte : Option ℕ) (b : ℕ) → GivesByte now (Ok byte) after →
    byte ≡ Some b → Consumes now after (b ∷ [])
byte_given now after byte b gives some = subst (λ (o : Option ℕ). GivesByte now (Ok o) after) some gives

pub came_with_feed : (room : ℕ) (before now after : Option (List ℕ)) (seen : List ℕ) (line : Vec ℕ Global)
    (is_begun is_long : Bool) (byte : Option ℕ) (b : ℕ) (told : Came) → IsRead room seen line.items is_begun is_long →
    Consumes before now seen → GivesByte now (Ok byte) after → byte ≡ Some b → b ≡ 10 →
    told ≡ at_feed line is_long → ComesOf room before told after
came_with_feed room before now after seen line is_begun is_long byte b told is read gives some feed same =
    subst (λ (x : Came). ComesOf room before x after) (sym same)
    (came_at_feed room before now after seen line is_begun is_long is read
    (subst (λ (x : ℕ). Consumes now after (x ∷ [])) feed (byte_given now after byte b gives some)))
