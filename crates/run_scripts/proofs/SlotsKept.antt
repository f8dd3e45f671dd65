-- Slots of posted frames, frame by frame.
use Rattle.std.proofs.Common.{◌≡◌, ℕ, ◌+◌, ◌-◌, ◌*◌, ◌<◌, ◌≢◌, false, cond, ◌&&◌, List, [], ◌∷◌}
use Rattle.std.proofs.Common.{◌++◌, Option, None, length, map, filter, get_or, set, nat_eq}
use Rattle.std.proofs.Common.{refl, sym, ◌∙◌, ap, subst, arith, inl, inr, ◌⊎◌}
use Rattle.std.specs.Prelude.{slice_get}
use Rattle.std.specs.declared.vec.Vec.{Vec}
use Rattle.std.specs.declared.alloc.Global.{Global}
use Rattle.std.proofs.lemmas.List.Elements.{filter-append}
use Rattle.play_words.specs.declared.words.Ref.{Ref}
use Rattle.std.proofs.lemmas.Bool.{and_left, and_right, cases_eq, eq-eqb, ne_eqb}
use Rattle.std.proofs.lemmas.List.{append-nil, map-append, length-set, get_or-set_same, get_or-set_other}
use Rattle.std.proofs.lemmas.List.{map-set, get_or-map}
use Rattle.run_scripts.specs.declared.mail.Held.{Held}
use Rattle.run_scripts.specs.declared.mail.Post.{Post}
use Rattle.run_scripts.specs.declared.mail.Delivery.{Delivery}
use Rattle.run_scripts.specs.declared.mail.Mail.{Mail}
use Rattle.run_scripts.specs.Mail.{posted_by, post_named}
use Rattle.run_scripts.specs.Playing.{AreSlots, IsMail, slots_of, slot_at}
use Rattle.run_scripts.proofs.Lists.{filter_none, filter_one, one_slot}

posted_join : (actor kind : ℕ) (posts : List Post) (p : Post)
    → posted_by actor kind (posts ++ p ∷ []) ≡ posted_by actor kind posts ++ map (λ (q : Post). q.held)
    (filter (λ (q : Post). nat_eq q.from actor && nat_eq q.kind kind) (p ∷ []))
posted_join actor kind posts p =
    ap (map (λ (q : Post). q.held))
    (filter-append (λ (q : Post). nat_eq q.from actor && nat_eq q.kind kind) posts (p ∷ []))
    ∙ map-append (λ (q : Post). q.held) (filter (λ (q : Post). nat_eq q.from actor && nat_eq q.kind kind) posts)
    (filter (λ (q : Post). nat_eq q.from actor && nat_eq q.kind kind) (p ∷ []))

posted_same : (posts : List Post) (p : Post) →
    posted_by p.from p.kind (posts ++ p ∷ []) ≡ posted_by p.from p.kind posts ++ p.held ∷ []
posted_same posts p =
    posted_join p.from p.kind posts p
    ∙ ap (λ (qs : List Post). posted_by p.from p.kind posts ++ map (λ (q : Post). q.held) qs)
    (filter_one (λ (q : Post). nat_eq q.from p.from && nat_eq q.kind p.kind) p
    (ap (λ b. b && nat_eq p.kind p.kind) (eq-eqb p.from p.from refl) ∙ eq-eqb p.kind p.kind refl))

posted_other : (actor kind : ℕ) (posts : List Post) (p : Post) → (nat_eq p.from actor && nat_eq p.kind kind) ≡ false
    → posted_by actor kind (posts ++ p ∷ []) ≡ posted_by actor kind posts
posted_other actor kind posts p other =
    posted_join actor kind posts p
    ∙ ap (λ (qs : List Post). posted_by actor kind posts ++ map (λ (q : Post). q.held) qs)
    (filter_none (λ (q : Post). nat_eq q.from actor && nat_eq q.kind kind) p other)
    ∙ append-nil (posted_by actor kind posts)

-- a frame is put behind those of its slot
pub slot_put : (actors : ℕ) (posts : List Post) (old new : List (List (Option Held))) (p : Post) → p.kind < 22
    → 22 * p.from + p.kind < length old →
    new ≡ set old (22 * p.from + p.kind) (get_or old (22 * p.from + p.kind) [] ++ p.held ∷ [])
    → AreSlots actors posts old → AreSlots actors (posts ++ p ∷ []) new
slot_put actors posts old new p under there is slots = record {
  all = ap length is ∙ length-set old (22 * p.from + p.kind) (get_or old (22 * p.from + p.kind) [] ++ p.held ∷ [])
      ∙ slots.all;
  each = λ actor kind below narrow. at actor kind below narrow (cases_eq p.from actor) (cases_eq p.kind kind);
}
  where
    longer : List (Option Held)
    longer = get_or old (22 * p.from + p.kind) [] ++ p.held ∷ []

    elsewhere : (actor kind : ℕ) → actor < actors → kind < 22 → (22 * actor + kind ≢ 22 * p.from + p.kind) →
        (nat_eq p.from actor && nat_eq p.kind kind) ≡ false
        → get_or new (22 * actor + kind) [] ≡ posted_by actor kind (posts ++ p ∷ [])
    elsewhere actor kind below narrow apart other =
        ap (λ (s : List (List (Option Held))). get_or s (22 * actor + kind) []) is
        ∙ get_or-set_other old (22 * p.from + p.kind) (22 * actor + kind) longer [] apart
        ∙ slots.each actor kind below narrow ∙ sym (posted_other actor kind posts p other)

    at : (actor kind : ℕ) → actor < actors → kind < 22 → (p.from ≡ actor) ⊎ (p.from ≡ actor → ⊥) →
        (p.kind ≡ kind) ⊎ (p.kind ≡ kind → ⊥)
        → get_or new (22 * actor + kind) [] ≡ posted_by actor kind (posts ++ p ∷ [])
    at actor kind below narrow (inl a) (inl k) =
        subst (λ (n : ℕ). get_or new (22 * n + kind) [] ≡ posted_by n kind (posts ++ p ∷ [])) a
        (subst (λ (n : ℕ). get_or new (22 * p.from + n) [] ≡ posted_by p.from n (posts ++ p ∷ [])) k
        (ap (λ (s : List (List (Option Held))). get_or s (22 * p.from + p.kind) []) is
        ∙ get_or-set_same old (22 * p.from + p.kind) longer [] there
        ∙ ap (λ (hs : List (Option Held)). hs ++ p.held ∷ [])
        (slots.each p.from p.kind (let same : p.from ≡ actor = a in omega arith) under)
        ∙ sym (posted_same posts p)))
    at actor kind below narrow (inl a) (inr apart) =
        elsewhere actor kind below narrow (λ same. apart (sym (one_slot actor p.from kind p.kind narrow under same).1))
        (and_right (nat_eq p.from actor) (nat_eq p.kind kind) (ne_eqb p.kind kind apart))
    at actor kind below narrow (inr apart) k =
        elsewhere actor kind below narrow (λ same. apart (sym (one_slot actor p.from kind p.kind narrow under same).0))
        (and_left (nat_eq p.from actor) (nat_eq p.kind kind) (ne_eqb p.from actor apart))

-- a slot with a frame more at its end
pub slot_written : (old : List (Vec (Option Held) Global)) (i n : ℕ) (was v : Vec (Option Held) Global)
    (h held : Option Held) → i ≡ n → n < length old
    → was ≡ get_or old i was → v.items ≡ was.items ++ h ∷ [] → h ≡ held →
    slots_of (set old i v) ≡ set (slots_of old) n (get_or (slots_of old) n [] ++ held ∷ [])
slot_written old i n was v h held place below at pushed same =
    ap (λ (k : ℕ). slots_of (set old k v)) place
    ∙ map-set (λ (x : Vec (Option Held) Global). x.items) old n v
    ∙ ap (set (slots_of old) n) (pushed
    ∙ ap (λ (hs : List (Option Held)). hs ++ h ∷ [])
    (ap (λ (x : Vec (Option Held) Global). x.items) (at ∙ ap (λ (k : ℕ). get_or old k was) place)
    ∙ sym (get_or-map (λ (x : Vec (Option Held) Global). x.items) old n was [] below))
    ∙ ap (λ (o : Option Held). get_or (slots_of old) n [] ++ o ∷ []) same)

-- the frame that is meant stands in its slot
pub named_there : (actors : ℕ) (posts : List Post) (waiting : List Delivery) (mail : Mail) (which : Ref) (i : ℕ)
    (v : Vec (Option Held) Global) (list : List (Option Held)) (r : Option (Option Held))
    → IsMail actors posts waiting mail → which.actor < actors → which.kind < 22 → (which.number ≡ 0 → ⊥) →
    i ≡ slot_at which.actor which.kind → slot_at which.actor which.kind < length mail.slots.items
    → v ≡ get_or mail.slots.items i v → list ≡ v.items → r ≡ slice_get list (which.number - 1) →
    r ≡ post_named posts which
unfolding post_named
named_there actors posts waiting mail which i v list r is there narrow some place below at items got =
    got
    ∙ ap (λ (hs : List (Option Held)). slice_get hs (which.number - 1))
    (items ∙ ap (λ (x : Vec (Option Held) Global). x.items) (at ∙ ap (λ (k : ℕ). get_or mail.slots.items k v) place)
    ∙ sym (get_or-map (λ (x : Vec (Option Held) Global). x.items) mail.slots.items
    (slot_at which.actor which.kind) v [] below)
    ∙ is.slots.each which.actor which.kind there narrow)
    ∙ sym (ap (λ b. cond b None (slice_get (posted_by which.actor which.kind posts) (which.number - 1)))
    (ne_eqb which.number 0 some))

pub none_named : (posts : List Post) (which : Ref) → which.number ≡ 0 →
    ◌≡◌ {A = Option (Option Held)} None (post_named posts which)
unfolding post_named
none_named posts which none =
    sym (ap (λ b. cond b None (slice_get (posted_by which.actor which.kind posts) (which.number - 1)))
    (eq-eqb which.number 0 none))
