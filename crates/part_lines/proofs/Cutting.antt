-- A text of parts cut at its line feeds and read line by line.
use Rattle.std.proofs.Common.{◌≡◌, ◌<◌, ◌+◌, ℕ, List, []}
use Rattle.std.proofs.Common.{◌∷◌, ◌++◌, length, Result, Ok, Err, append_assoc, refl, sym, ◌∙◌, ap, arith}
use Rattle.script_grammar.specs.declared.fault.LineRefusal.{LineRefusal}
use Rattle.script_grammar.specs.declared.fault.LineRefusal.TheVariants as line
use Rattle.script_grammar.specs.Faults.{Answer, Refuses}
use Rattle.run_lines.specs.Runs.{pieces}
use Rattle.parity_parts.specs.declared.part.Part.{Part}
use Rattle.part_lines.specs.declared.fault.RebuildRefusal.{RebuildRefusal}
use Rattle.part_lines.specs.declared.fault.RebuildRefusal.TheVariants as fault
use Rattle.part_lines.specs.Reading.{Reading, bad_line, and_then, from_least, before, each_line, rising, told}
use Rattle.part_lines.specs.Reading.{behind_digest, told_by, told_in, digest_in, part_in}
use Rattle.part_lines.specs.Rebuilding.{RefusesText, fault_at}
use Rattle.run_lines.proofs.Cutting.{pieces_some}

-- what parts give, behind others
abbrev pub behind : List Part → Reading (List Part) → Reading (List Part)
behind front (Ok rest) = Ok (front ++ rest)
behind front (Err refused) = Err refused

one_behind : (front : List Part) (part : Part) (r : Reading (List Part)) →
    behind front (before part r) ≡ behind (front ++ part ∷ []) r
one_behind front part (Ok rest) = ap Ok (sym (append_assoc front (part ∷ []) rest))
one_behind front part (Err e) = refl

pub none_behind : (r : Reading (List Part)) → behind [] r ≡ r
none_behind (Ok rest) = refl
none_behind (Err e) = refl

one_line : {A : Type 0} (read : List ℕ → Answer A) (line : List ℕ) (parts : List (List ℕ)) → 0 < length parts
    → each_line read (line ∷ parts) ≡ read line ∷ each_line read parts
one_line read line [] some = absurd (omega arith)
one_line read line (next ∷ more) some = refl

-- the lines from one on, which is there
pub lines_at : {A : Type 0} (read : List ℕ → Answer A) (text line after : List ℕ) → pieces text ≡ line ∷ pieces after
    → each_line read (pieces text) ≡ read line ∷ each_line read (pieces after)
lines_at read text line after cut = ap (each_line read) cut ∙ one_line read line (pieces after) (pieces_some after)

-- a part is read
pub part_more : (read : List ℕ → Answer Part) (least number : ℕ) (front : List Part) (part : Part)
    (line rest after : List ℕ) (all : Reading (List Part))
    → behind front (rising least number (each_line read (pieces rest))) ≡ all → pieces rest ≡ line ∷ pieces after →
    and_then (from_least least) (read line) ≡ Ok part
    → behind (front ++ part ∷ []) (rising (part.master + 1) (number + 1) (each_line read (pieces after))) ≡ all
part_more read least number front part line rest after all so_far cut this =
    let left : Reading (List Part) = rising (part.master + 1) (number + 1) (each_line read (pieces after)) in
    sym (one_behind front part left)
    ∙ ap (behind front) (sym (ap (rising least number) (lines_at read rest line after cut) ∙ step this))
    ∙ so_far
  where
    by : Answer Part → Reading (List Part)
    by a = elim a [
      | Ok p ↦ before p (rising (p.master + 1) (number + 1) (each_line read (pieces after)))
      | Err e ↦ bad_line number
    ]

    step : and_then (from_least least) (read line) ≡ Ok part
        → rising least number (read line ∷ each_line read (pieces after)) ≡ before part
        (rising (part.master + 1) (number + 1) (each_line read (pieces after)))
    step is = ap by is

-- a line has a fault
pub part_fault : (read : List ℕ → Answer Part) (least number : ℕ) (front : List Part) (e : LineRefusal)
    (line rest after : List ℕ) (all : Reading (List Part))
    → behind front (rising least number (each_line read (pieces rest))) ≡ all → pieces rest ≡ line ∷ pieces after →
    and_then (from_least least) (read line) ≡ Err e
    → all ≡ bad_line number
part_fault read least number front e line rest after all so_far cut this =
    sym so_far ∙ ap (behind front) (ap (rising least number) (lines_at read rest line after cut) ∙ ap by this)
  where
    by : Answer Part → Reading (List Part)
    by a = elim a [
      | Ok p ↦ before p (rising (p.master + 1) (number + 1) (each_line read (pieces after)))
      | Err e ↦ bad_line number
    ]

-- a fault that is right of a line is right of the text
pub fault_of_text : {A B : Type 0} (e : LineRefusal) (right : Result A LineRefusal) (number : ℕ) (all : Reading B) →
    Refuses e right → (right ≡ Err e → all ≡ bad_line number)
    → RefusesText (fault_at number e) all
fault_of_text line.BadLine right number all is follows = follows is
fault_of_text line.NoActor right number all is follows = follows is
fault_of_text line.Want right number all is follows = tt

-- The first line of all.
told_passed : (n f : ℕ) (line : List ℕ) (parts : List (List ℕ)) → 0 < length parts →
    told_by n f (line ∷ parts) ≡ behind_digest n f (digest_in line) parts
told_passed n f line [] some = absurd (omega arith)
told_passed n f line (next ∷ more) some = refl

pub told_by_digest : (n f : ℕ) (text line rest : List ℕ) → pieces text ≡ line ∷ pieces rest
    → told_in n f text ≡ behind_digest n f (digest_in line) (pieces rest)
unfolding told_in
told_by_digest n f text line rest cut = ap (told_by n f) cut ∙ told_passed n f line (pieces rest) (pieces_some rest)

-- its digest and its parts are read
pub told_whole : (n f : ℕ) (text line rest digest : List ℕ) (parts : List Part) → pieces text ≡ line ∷ pieces rest →
    digest_in line ≡ Ok digest
    → rising 0 2 (each_line (part_in n f) (pieces rest)) ≡ Ok parts →
    told_in n f text ≡ Ok (record { digest = digest; parts = parts })
told_whole n f text line rest digest parts cut first others =
    told_by_digest n f text line rest cut
    ∙ ap (λ (a : Answer (List ℕ)). behind_digest n f a (pieces rest)) first
    ∙ ap (told digest) others
