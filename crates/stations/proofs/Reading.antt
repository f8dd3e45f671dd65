-- A text of whole lines that was read as a list is what is kept of the list.
use Rattle.std.proofs.Common.{◌≡◌, ℕ, ◌+◌, ◌<◌, ◌==◌, Bool, true, false, cond, List, [], ◌∷◌, ◌++◌, Option, Some, None}
use Rattle.std.proofs.Common.{Result, Ok, Err, IfSome, length, codes, append_assoc, append-nil, refl, sym, ◌∙◌, ap, subst, arith}
use Rattle.std.specs.List.{onto_first}
use Rattle.std.specs.Str.{bytes_eq}
use Rattle.agreement.proofs.FramesInside.{bytes_same}
use Rattle.agreement.proofs.Places.{tails_same}
use Rattle.run_lines.specs.declared.entry_line.EntryLine.{EntryLine}
use Rattle.run_lines.specs.Reading.{entry_line_in}
use Rattle.run_lines.specs.Runs.{pieces}
use Rattle.run_lines.proofs.Cutting.{pieces_some}
use Rattle.scenario_file.specs.Reading.{Contents, cast_of}
use Rattle.script_grammar.specs.Faults.{Answer}
use Rattle.history_rules.specs.Events.{Entry}
use Rattle.world_rules.specs.Scenarios.{setup_of}
use Rattle.kept_lines.specs.declared.refusal.KeptRefusal.TheVariants as refusal
use Rattle.kept_lines.specs.Lines.{kept_line, kept_from, kept_file}
use Rattle.kept_lines.specs.Reading.{Reading, entry_part, entry_told, kept_so, told_so, line_in, lines_in, kept_in}
use Rattle.outside.specs.declared.files.LoadAnswer.TheVariants as load
use Rattle.station_files.specs.Held.{Held, all_durable, without_torn, RecoverGives}
use Rattle.station_files.specs.WholeLines.{before_lines, whole_lines}
use Rattle.std.specs.declared.alloc.Global.{Global}
use Rattle.std.specs.declared.vec.Vec.{Vec}
use Rattle.stations.specs.Beginning.{HoldsAll}

-- the pieces with line feeds between them
abbrev joined : List (List ℕ) → List ℕ
joined [] = []
joined (part ∷ []) = part
joined (part ∷ next ∷ more) = part ++ 10 ∷ joined (next ∷ more)

-- the last piece
abbrev last_of : List (List ℕ) → List ℕ
last_of [] = []
last_of (part ∷ []) = part
last_of (part ∷ next ∷ more) = last_of (next ∷ more)

join_onto : (x : ℕ) (parts : List (List ℕ)) → joined (onto_first x parts) ≡ x ∷ joined parts
join_onto x [] = refl
join_onto x (part ∷ []) = refl
join_onto x (part ∷ next ∷ more) = refl

join_empty : (parts : List (List ℕ)) → 0 < length parts → joined ([] ∷ parts) ≡ 10 ∷ joined parts
join_empty [] some = absurd (omega arith)
join_empty (part ∷ more) some = refl

join_pieces : (text : List ℕ) → joined (pieces text) ≡ text
join_pieces [] = refl
join_pieces (x ∷ rest) = by (x == 10) refl (join_pieces rest)
  where
    by : (b : Bool) → (x == 10) ≡ b → joined (pieces rest) ≡ rest →
        joined (cond b ([] ∷ pieces rest) (onto_first x (pieces rest))) ≡ x ∷ rest
    by true is same =
        join_empty (pieces rest) (pieces_some rest)
        ∙ (λ i. ten i ∷ same i)
      where
        ten : 10 ≡ x
        ten = grind (arith, is)
    by false is same = join_onto x (pieces rest) ∙ ap (λ (bs : List ℕ). x ∷ bs) same

last_onto : (x : ℕ) (parts : List (List ℕ)) → 1 < length parts → last_of (onto_first x parts) ≡ last_of parts
last_onto x [] some = absurd (omega arith)
last_onto x (part ∷ []) some = absurd (omega arith)
last_onto x (part ∷ next ∷ more) some = refl

last_empty : (parts : List (List ℕ)) → 0 < length parts → last_of ([] ∷ parts) ≡ last_of parts
last_empty [] some = absurd (omega arith)
last_empty (part ∷ more) some = refl

-- where the last piece is empty and the text isn't, there is another
many_pieces : (b : ℕ) (rest : List ℕ) → last_of (pieces (b ∷ rest)) ≡ [] → 1 < length (pieces (b ∷ rest))
many_pieces b rest none = by (pieces (b ∷ rest)) refl
  where
    by : (parts : List (List ℕ)) → parts ≡ pieces (b ∷ rest) → 1 < length parts
    by [] is =
        let some : 0 < length (pieces (b ∷ rest)) = pieces_some (b ∷ rest) in
        let zero : 0 ≡ length (pieces (b ∷ rest)) = ap length is in
        absurd (omega arith)
    by (part ∷ []) is = absurd (no (sym (join_pieces (b ∷ rest)) ∙ sym (ap joined is) ∙ ap last_of is ∙ none))
      where
        no : b ∷ rest ≡ [] → ⊥
        no e = cc
    by (part ∷ next ∷ more) is = omega arith

-- of whole lines the last piece is empty
whole_last : (text : List ℕ) → whole_lines text ≡ text → last_of (pieces text) ≡ []
whole_last [] whole = refl
whole_last (x ∷ rest) whole = by (whole_lines rest) refl (whole_last rest)
  where
    last_so : (b : Bool) → (x == 10) ≡ b → (b ≡ false → 1 < length (pieces rest)) → last_of (pieces rest) ≡ [] →
        last_of (pieces (x ∷ rest)) ≡ []
    last_so true is many its =
        ap (λ (b : Bool). last_of (cond b ([] ∷ pieces rest) (onto_first x (pieces rest)))) is
        ∙ last_empty (pieces rest) (pieces_some rest) ∙ its
    last_so false is many its =
        ap (λ (b : Bool). last_of (cond b ([] ∷ pieces rest) (onto_first x (pieces rest)))) is
        ∙ last_onto x (pieces rest) (many refl) ∙ its

    alone : (b : Bool) → (x == 10) ≡ b → cond b (x ∷ []) [] ≡ x ∷ rest → last_of (pieces (x ∷ rest)) ≡ []
    alone true is same =
        let nothing : rest ≡ [] = sym (tails_same same) in
        ap (λ (b : Bool). last_of (cond b ([] ∷ pieces rest) (onto_first x (pieces rest)))) is
        ∙ last_empty (pieces rest) (pieces_some rest)
        ∙ ap (λ (bs : List ℕ). last_of (pieces bs)) nothing
    alone false is same = absurd (cc)

    by : (lines : List ℕ) → whole_lines rest ≡ lines → (whole_lines rest ≡ rest → last_of (pieces rest) ≡ []) →
        last_of (pieces (x ∷ rest)) ≡ []
    by [] none later = alone (x == 10) refl (sym (ap (before_lines x) none) ∙ whole)
    by (c ∷ more) some later =
        let same : c ∷ more ≡ rest = tails_same (sym (ap (before_lines x) some) ∙ whole) in
        let its : last_of (pieces rest) ≡ [] = later (some ∙ same) in
        last_so (x == 10) refl
        (λ other. subst (λ (bs : List ℕ). 1 < length (pieces bs)) same
        (many_pieces c more (subst (λ (bs : List ℕ). last_of (pieces bs) ≡ []) (sym same) its)))
        its

-- a line that was read is the line that is kept of its entry
line_kept : (c : Contents) (actor : ℕ) (before : List Entry) (line : List ℕ) (e : Entry) →
    line_in c actor before line ≡ Ok e → line ≡ kept_line c before e
unfolding line_in
line_kept c actor before line e is = by (entry_line_in (cast_of c.settings c.plant) (entry_part line)) is
  where
    same : (x : Entry) (b : Bool) → bytes_eq line (kept_line c before x) ≡ b →
        cond b (Ok x) (Err (refusal.OtherWords (length before))) ≡ Ok e → line ≡ kept_line c before e
    same x true told so =
        let its : x ≡ e = cc in
        bytes_same line (kept_line c before x) told ∙ ap (kept_line c before) its
    same x false told so = absurd (cc)

    at : (o : Option Entry) → kept_so c before line o ≡ Ok e → line ≡ kept_line c before e
    at None so = absurd (cc)
    at (Some x) so = same x (bytes_eq line (kept_line c before x)) refl so

    by : (a : Answer EntryLine) → told_so c actor before line a ≡ Ok e → line ≡ kept_line c before e
    by (Ok l) so = at (entry_told (setup_of c) actor before l) so
    by (Err f) so = absurd (cc)

-- what was read of pieces, behind the entries before them
record ReadOn (c : Contents) (before list : List Entry) (parts : List (List ℕ)) : Type 0 where
  rest : List Entry
  all : list ≡ before ++ rest
  kept : joined parts ≡ kept_from c before rest ++ last_of parts

-- the pieces behind one
abbrev after_line : Contents → ℕ → List Entry → List (List ℕ) → Reading Entry → Reading (List Entry)
after_line c actor before parts r =
    elim r [ Err e ↦ Err e | Ok e ↦ lines_in c actor (before ++ e ∷ []) parts ]

read_next : (c : Contents) (actor : ℕ) (before list : List Entry) (line next : List ℕ) (more : List (List ℕ))
    (r : Reading Entry) → line_in c actor before line ≡ r →
    ((e : Entry) → lines_in c actor (before ++ e ∷ []) (next ∷ more) ≡ Ok list →
    ReadOn c (before ++ e ∷ []) list (next ∷ more)) →
    after_line c actor before (next ∷ more) r ≡ Ok list → ReadOn c before list (line ∷ next ∷ more)
read_next c actor before list line next more (Err e) told later so = absurd (cc)
read_next c actor before list line next more (Ok e) told later so =
    let rest = later e so in
    record {
      rest = e ∷ rest.rest;
      all = rest.all ∙ append_assoc before (e ∷ []) rest.rest;
      kept =
          (λ i. line_kept c actor before line e told i ++ 10 ∷ rest.kept i)
          ∙ sym (append_assoc (kept_line c before e) (codes "\n")
          (kept_from c (before ++ e ∷ []) rest.rest ++ last_of (next ∷ more)))
          ∙ sym (append_assoc (kept_line c before e ++ codes "\n") (kept_from c (before ++ e ∷ []) rest.rest)
          (last_of (next ∷ more)));
    }

read_on : (c : Contents) (actor : ℕ) (before list : List Entry) (parts : List (List ℕ)) →
    0 < length parts → lines_in c actor before parts ≡ Ok list → ReadOn c before list parts
read_on c actor before list [] some is = absurd (omega arith)
read_on c actor before list (torn ∷ []) some is =
    let its : before ≡ list = cc in
    record { rest = []; all = sym its ∙ sym (append-nil before); kept = refl }
read_on c actor before list (line ∷ next ∷ more) some is =
    read_next c actor before list line next more (line_in c actor before line) refl
    (λ e so. read_on c actor (before ++ e ∷ []) list (next ∷ more) (omega arith) so) is

-- So the text is what is kept.
pub text_is : (c : Contents) (actor : ℕ) (text : List ℕ) (list : List Entry) → whole_lines text ≡ text →
    kept_in c actor text ≡ Ok list → text ≡ kept_file c list
unfolding kept_in
text_is c actor text list whole is =
    let read = read_on c actor [] list (pieces text) (pieces_some text) is in
    sym (join_pieces text) ∙ read.kept
    ∙ ap (λ (bs : List ℕ). kept_from c [] read.rest ++ bs) (whole_last text whole)
    ∙ append-nil (kept_from c [] read.rest)
    ∙ ap (kept_from c []) (sym read.all)

-- all of a file, durable
abbrev whole_held : List ℕ → Held
whole_held bytes = record { bytes = bytes; durable = length bytes }

-- So the file holds it, and nothing more.
pub held_all : (c : Contents) (list : List Entry) (room : ℕ) (before after : Option Held) (text : Vec ℕ Global) →
    RecoverGives before room (Ok text) after → text.items ≡ kept_file c list → HoldsAll c list before after
held_all c list room None after text gives is = gives
held_all c list room (Some h) None text gives is = absurd (none gives.2)
  where
    none : None ≡ all_durable (Some (without_torn h)) → ⊥
    none e = cc
held_all c list room (Some h) (Some k) text gives is =
    one gives.2 ∙ ap whole_held (sym gives.0 ∙ is)
  where
    one : Some k ≡ all_durable (Some (without_torn h)) →
        k ≡ whole_held (whole_lines h.bytes)
    one e = cc

-- What is known of the text is known of the file's whole lines.
pub of_whole : (room : ℕ) (before after : Option Held) (text : Vec ℕ Global) (P : List ℕ → Type 0) →
    RecoverGives before room (Ok text) after → P text.items → IfSome before (λ h. P (whole_lines h.bytes))
of_whole room None after text P gives p = tt
of_whole room (Some h) after text P gives p = subst P gives.0 p

-- It is too long where it has no room.
pub long_held : (room : ℕ) (before after : Option Held) → RecoverGives before room (Err load.TooLong) after →
    IfSome before (λ h. room < length h.bytes)
long_held room None after gives = tt
long_held room (Some h) after gives = gives.0
