-- How faults are found part by part.
use Rattle.std.proofs.Common.{◌≡◌, ◌≤◌, ◌<◌, ◌+◌, ◌-◌, ℕ, zero, suc, Bool, true, false, ◌&&◌, List, [], ◌∷◌, ◌++◌}
use Rattle.std.proofs.Common.{length, take, drop, get_or, map, IsTrue, Option, Some, None, refl, sym, ap, ◌∙◌, subst, arith}
use Rattle.std.proofs.Common.{nat_lt, ltb-true, inl, inr, if◌then◌else◌}
use Rattle.std.specs.List.{list_all}
use Rattle.std.proofs.lemmas.Bool.{and_from, and_parts, cases_Bool, cond-true, cond-false, true≢false}
use Rattle.std.proofs.lemmas.List.{length-take-le}
use Rattle.plain_lists.specs.Lists.{Each}
use Rattle.plain_lists.proofs.Members.{in_map_from, all_at}
use Rattle.message_types.specs.declared.signed.Signed.{Signed}
use Rattle.message_types.specs.declared.body.Body.{Body}
use Rattle.message_types.specs.Texts.{body_text}
use Rattle.message_types.specs.Spelling.{has_spelling}
use Rattle.message_types.specs.Parts.{parts}
use Rattle.protocol_rules.specs.Group.{Group}
use Rattle.protocol_rules.specs.Places.{in_place}
use Rattle.history_rules.specs.Setup.{Setup}
use Rattle.history_rules.specs.Setup.{stands as history_stands}
use Rattle.checked_frames.specs.declared.refusal.CheckRefusal.{CheckRefusal}
use Rattle.checked_frames.specs.declared.refusal.CheckRefusal.TheVariants as refusal
use Rattle.checked_frames.specs.Signing.{signs}
use Rattle.checked_frames.specs.Standing.{Ring, actors, public_of, is_known, is_signed, part_stands, stands}
use Rattle.checked_frames.specs.Standing.{part_fault, or_else, fault_from, first_fault, IsFault, said_by, IsSaidIn}
use Rattle.checked_frames.specs.Standing.{AllStand, PartsStand}

-- a fault of a part is one of the whole, where it comes first
pub IsFault-within : (e : CheckRefusal) (inner outer : Option CheckRefusal) →
    ((f : CheckRefusal) → inner ≡ Some f → outer ≡ Some f)
    → IsFault e inner → IsFault e outer
IsFault-within refusal.Want inner outer same h = tt
IsFault-within (refusal.SignerUnknown signer) inner outer same h = same (refusal.SignerUnknown signer) h
IsFault-within (refusal.Unsigned number) inner outer same h = same (refusal.Unsigned number) h
IsFault-within (refusal.Misplaced number) inner outer same h = same (refusal.Misplaced number) h

or_else-assoc : (a b c : Option CheckRefusal) → or_else a (or_else b c) ≡ or_else (or_else a b) c
or_else-assoc None b c = refl
or_else-assoc (Some f) b c = refl

fault_from-append : (ring : Ring) (n : ℕ) (xs ys : List (Signed Body))
    → fault_from ring n (xs ++ ys) ≡ or_else (fault_from ring n xs) (fault_from ring (n + length xs) ys)
fault_from-append ring n [] ys = let e : n ≡ n + 0 = omega arith in ap (λ (k : ℕ). fault_from ring k ys) e
fault_from-append ring n (x ∷ xs) ys =
    let e : suc n + length xs ≡ n + length (x ∷ xs) = omega arith in
    ap (or_else (part_fault ring n x)) (fault_from-append ring (suc n) xs ys)
    ∙ or_else-assoc (part_fault ring n x) (fault_from ring (suc n) xs) (fault_from ring (suc n + length xs) ys)
    ∙ ap (λ (k : ℕ). or_else (fault_from ring n (x ∷ xs)) (fault_from ring k ys)) e

-- a list around one of its elements
around : {X : Type 0} (xs : List X) (i : ℕ) (x : X) → i < length xs → x ≡ get_or xs i x
    → (take (i + 1) xs ≡ take i xs ++ x ∷ []) × (xs ≡ take i xs ++ (x ∷ drop (i + 1) xs))
around [] i x inside is = absurd (omega arith)
around (y ∷ xs) zero x inside is = (ap (λ z. z ∷ []) (sym is), ap (λ z. z ∷ xs) (sym is))
around (y ∷ xs) (suc i) x inside is =
    let rest = around xs i x (omega arith) is in
    let e : suc i + 1 ≡ suc (i + 1) = omega arith in (
      ap (λ (k : ℕ). take k (y ∷ xs)) e ∙ ap (λ zs. y ∷ zs) rest.0,
      ap (λ zs. y ∷ zs) rest.1 ∙ ap (λ (k : ℕ). take (suc i) (y ∷ xs) ++ (x ∷ drop k (y ∷ xs))) (sym e),
    )

both_none : (a b : Option CheckRefusal) → a ≡ None → b ≡ None → or_else a b ≡ None
both_none a b e f = ap (λ x. or_else x b) e ∙ f

-- after one part more without a fault
pub one_more_faultless : (ring : Ring) (frames : List (Signed Body)) (i part : ℕ) (frame : Signed Body) →
    part ≡ i + 1 → i < length frames
    → frame ≡ get_or frames i frame → fault_from ring 1 (take i frames) ≡ None → part_fault ring part frame ≡ None
    → fault_from ring 1 (take (i + 1) frames) ≡ None
one_more_faultless ring frames i part frame number inside is before here =
    let len = length-take-le i frames (omega arith) in
    let place : 1 + length (take i frames) ≡ part = omega arith in
    let last : or_else (part_fault ring part frame) None ≡ None =
    both_none (part_fault ring part frame) None here refl in
    ap (fault_from ring 1) (around frames i frame inside is).0
    ∙ fault_from-append ring 1 (take i frames) (frame ∷ [])
    ∙ both_none (fault_from ring 1 (take i frames)) (fault_from ring (1 + length (take i frames)) (frame ∷ [])) before
    (ap (λ (k : ℕ). fault_from ring k (frame ∷ [])) place ∙ last)

-- the fault of the first faulty part is that of all
pub fault_is_first : (ring : Ring) (frames : List (Signed Body)) (i part : ℕ) (frame : Signed Body) →
    part ≡ i + 1 → i < length frames
    → frame ≡ get_or frames i frame → fault_from ring 1 (take i frames) ≡ None
    → (f : CheckRefusal) → part_fault ring part frame ≡ Some f → fault_from ring 1 frames ≡ Some f
fault_is_first ring frames i part frame number inside is before f here =
    let rest = drop (i + 1) frames in
    let len = length-take-le i frames (omega arith) in
    let place : 1 + length (take i frames) ≡ part = omega arith in
    ap (fault_from ring 1) (around frames i frame inside is).1
    ∙ fault_from-append ring 1 (take i frames) (frame ∷ rest)
    ∙ ap (λ x. or_else x (fault_from ring (1 + length (take i frames)) (frame ∷ rest))) before
    ∙ ap (λ (k : ℕ). fault_from ring k (frame ∷ rest)) place
    ∙ ap (λ x. or_else x (fault_from ring (suc part) rest)) here

-- the frame itself is part 0
pub fault_of_frame : (ring : Ring) (frame : Signed Body) (f : CheckRefusal) → part_fault ring 0 frame ≡ Some f →
    first_fault ring frame ≡ Some f
unfolding first_fault
fault_of_frame ring frame f e = ap (λ x. or_else x (fault_from ring 1 (drop 1 (parts frame)))) e

pub fault_inside : (ring : Ring) (frame : Signed Body) (inner : List (Signed Body)) → parts frame ≡ frame ∷ inner →
    part_fault ring 0 frame ≡ None
    → first_fault ring frame ≡ fault_from ring 1 inner
unfolding first_fault
fault_inside ring frame inner e none = ap (fault_from ring 0) e ∙ ap (λ x. or_else x (fault_from ring 1 inner)) none

-- a part has no fault exactly where it passes the three tests
part_none : (a b c : Bool) (x y z : CheckRefusal) →
    (if a then (if b then (if c then None else Some z) else Some y) else Some x) ≡ None → (a && b && c) ≡ true
part_none true true true x y z e = refl
part_none true true false x y z e = cc
part_none true false c x y z e = cc
part_none false b c x y z e = cc

part_passes : (a b c : Bool) (x y z : CheckRefusal) → (a && b && c) ≡ true →
    (if a then (if b then (if c then None else Some z) else Some y) else Some x) ≡ None
part_passes true true true x y z e = refl
part_passes true true false x y z e = cc
part_passes true false c x y z e = cc
part_passes false b c x y z e = cc

none_passes : (ring : Ring) (n : ℕ) (part : Signed Body) → part_fault ring n part ≡ None → part_stands ring part ≡ true
unfolding part_fault
none_passes ring n part e = part_none (is_known ring part) (is_signed ring part) (in_place ring.group part)
    (refusal.SignerUnknown part.signer) (refusal.Unsigned n) (refusal.Misplaced n) e

passes_none : (ring : Ring) (n : ℕ) (part : Signed Body) → part_stands ring part ≡ true → part_fault ring n part ≡ None
unfolding part_fault
passes_none ring n part e = part_passes (is_known ring part) (is_signed ring part) (in_place ring.group part)
    (refusal.SignerUnknown part.signer) (refusal.Unsigned n) (refusal.Misplaced n) e

or_else-none : (a b : Option CheckRefusal) → or_else a b ≡ None → (a ≡ None) × (b ≡ None)
or_else-none None b e = (refl, e)
or_else-none (Some f) b e = absurd (let no : Some f ≡ None = e in cc)

all_pass : (ring : Ring) (n : ℕ) (list : List (Signed Body)) → fault_from ring n list ≡ None →
    list_all (part_stands ring) list ≡ true
all_pass ring n [] e = refl
all_pass ring n (part ∷ rest) e =
    let both = or_else-none (part_fault ring n part) (fault_from ring (suc n) rest) e in
    and_from (part_stands ring part) (list_all (part_stands ring) rest) (none_passes ring n part both.0)
    (all_pass ring (suc n) rest both.1)

all_none : (ring : Ring) (n : ℕ) (list : List (Signed Body)) → list_all (part_stands ring) list ≡ true →
    fault_from ring n list ≡ None
all_none ring n [] e = refl
all_none ring n (part ∷ rest) e =
    let both = and_parts (part_stands ring part) (list_all (part_stands ring) rest) e in
    both_none (part_fault ring n part) (fault_from ring (suc n) rest) (passes_none ring n part both.0)
    (all_none ring (suc n) rest both.1)

-- a spelled frame stands exactly where it has no fault
pub faultless_stands : (ring : Ring) (frame : Signed Body) → has_spelling frame ≡ true →
    first_fault ring frame ≡ None → stands ring frame ≡ true
unfolding stands first_fault
faultless_stands ring frame spelled e = and_from (has_spelling frame) (list_all (part_stands ring) (parts frame))
    spelled (all_pass ring 0 (parts frame) e)

pub stands_faultless : (ring : Ring) (frame : Signed Body) → stands ring frame ≡ true → first_fault ring frame ≡ None
unfolding stands first_fault
stands_faultless ring frame e =
    all_none ring 0 (parts frame) (and_parts (has_spelling frame) (list_all (part_stands ring) (parts frame)) e).1

pub stands_spelled : (ring : Ring) (frame : Signed Body) → stands ring frame ≡ true → has_spelling frame ≡ true
unfolding stands
stands_spelled ring frame e = (and_parts (has_spelling frame) (list_all (part_stands ring) (parts frame)) e).0

-- each part of a frame that stands in a ring does so too, and what it says is said there
pub parts_stand : (ring : Ring) (frame : Signed Body) → PartsStand ring frame
unfolding stands
parts_stand ring frame well part among =
    all_at (part_stands ring) among (and_parts (has_spelling frame) (list_all (part_stands ring) (parts frame)) well).1

said_in : (ring : Ring) (words : List (Signed Body)) → AllStand ring words → Each (IsSaidIn ring) (map said_by words)
said_in ring words stand said among =
    let found = in_map_from said_by words among in
    subst (IsSaidIn ring) (sym found.2) (record { sig = found.0.sig; stands = stand found.0 found.1 })

pub parts_said : (frame : Signed Body) (list : List (ℕ × Body)) → list ≡ map said_by (parts frame)
    → (ring : Ring) → IsTrue (stands ring frame) → Each (IsSaidIn ring) list
parts_said frame list is ring well =
    subst (Each (IsSaidIn ring)) (sym is) (said_in ring (parts frame) (parts_stand ring frame well))

-- in a history whose group and signatures are the ring's, the same frames stand
same_test : (a x y z : Bool) → (a ≡ true → x ≡ y) → (a && x && z) ≡ (a && y && z)
same_test true x y z same = ap (λ b. b && z) (same refl)
same_test false x y z same = refl

same_all : (p q : Signed Body → Bool) (list : List (Signed Body)) → ((f : Signed Body) → p f ≡ q f) →
    list_all p list ≡ list_all q list
same_all p q [] same = refl
same_all p q (f ∷ rest) same = ap (λ b. b && list_all p rest) (same f) ∙ ap (λ b. q f && b) (same_all p q rest same)

pub same_as_in_histories : (w : Setup) (ring : Ring) → w.group ≡ ring.group
    → ((actor : ℕ) (text sig : List ℕ) → actor < actors ring.group →
    w.signs actor text sig ≡ signs (public_of ring actor) text sig)
    → (frame : Signed Body) → history_stands w frame ≡ stands ring frame
unfolding history_stands stands
same_as_in_histories w ring group same frame =
    let test : Group → Signed Body → Bool = λ g p. nat_lt p.signer (g.n + g.clients)
    && w.signs p.signer (body_text p.body) p.sig && in_place g p in
    let at : (p : Signed Body) → test ring.group p ≡ part_stands ring p = λ p.
    same_test (is_known ring p) (w.signs p.signer (body_text p.body) p.sig) (is_signed ring p) (in_place ring.group p)
    (λ known. same p.signer (body_text p.body) p.sig (ltb-true p.signer (actors ring.group) known)) in
    ap (λ g. has_spelling frame && list_all (test g) (parts frame)) group
    ∙ ap (λ b. has_spelling frame && b) (same_all (test ring.group) (part_stands ring) (parts frame) at)
