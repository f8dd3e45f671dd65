-- Frames that are posted one after another.
use Rattle.std.proofs.Common.{◌≡◌, ℕ, ◌+◌, ◌<◌, ◌≤◌, Bool, true, false, ◌&&◌, List, [], ◌∷◌, ◌++◌}
use Rattle.std.proofs.Common.{length, take, get_or, nat_lt, refl, sym, ◌∙◌, ap, subst, append_assoc}
use Rattle.std.specs.List.{flat_map}
use Rattle.std.proofs.lemmas.Bool.{and_parts, ltb-true}
use Rattle.std.proofs.lemmas.List.{append-nil, take_more, take_all}
use Rattle.std.proofs.lemmas.List.Concat.{flat_map-append}
use Rattle.run_scripts.specs.declared.mail.Post.{Post}
use Rattle.run_scripts.specs.declared.mail.Delivery.{Delivery}
use Rattle.run_scripts.specs.declared.mail.Mail.{Mail}
use Rattle.run_scripts.specs.Mail.{sent}
use Rattle.run_scripts.specs.Playing.{AreSlots, IsMail, slots_of, has_slot, slot_at, new_posts}

-- what it means to have a slot
pub slot_there : (slots : ℕ) (p : Post) → has_slot slots p ≡ true → (p.from < 26) × (p.kind < 22)
    × (slot_at p.from p.kind < slots)
slot_there slots p has =
    let outer = and_parts (nat_lt p.from 26 && nat_lt p.kind 22) (nat_lt (slot_at p.from p.kind) slots) has in
    let inner = and_parts (nat_lt p.from 26) (nat_lt p.kind 22) outer.0 in
    (ltb-true p.from 26 inner.0, ltb-true p.kind 22 inner.1, ltb-true (slot_at p.from p.kind) slots outer.1)

new_more : (is_new : Bool) (xs : List Post) (i : ℕ) (x : Post) → i < length xs → x ≡ get_or xs i x
    → new_posts is_new (take (i + 1) xs) ≡ new_posts is_new (take i xs) ++ new_posts is_new (x ∷ [])
new_more true xs i x below is = take_more xs i x below ∙ ap (λ (p : Post). take i xs ++ p ∷ []) (sym is)
new_more false xs i x below is = refl

sent_more : (xs : List Post) (i : ℕ) (x : Post) → i < length xs → x ≡ get_or xs i x →
    flat_map sent (take (i + 1) xs) ≡ flat_map sent (take i xs) ++ sent x
sent_more xs i x below is =
    ap (flat_map sent) (take_more xs i x below) ∙ flat_map-append sent (take i xs) (get_or xs i x ∷ [])
    ∙ ap (λ (p : Post). flat_map sent (take i xs) ++ (sent p ++ [])) (sym is)
    ∙ ap (λ (ds : List Delivery). flat_map sent (take i xs) ++ ds) (append-nil (sent x))

pub mail_starts : (is_new : Bool) (xs : List Post) (actors : ℕ) (before : List Post) (waiting : List Delivery)
    (mail : Mail) → IsMail actors before waiting mail
    → IsMail actors (before ++ new_posts is_new (take 0 xs)) (waiting ++ flat_map sent (take 0 xs)) mail
mail_starts true xs actors before waiting mail is =
    record {
      slots = subst (λ (ps : List Post). AreSlots actors ps (slots_of mail.slots.items))
          (sym (append-nil before)) is.slots;
      waiting = is.waiting ∙ sym (append-nil waiting);
    }
mail_starts false xs actors before waiting mail is =
    record {
      slots = subst (λ (ps : List Post). AreSlots actors ps (slots_of mail.slots.items))
          (sym (append-nil before)) is.slots;
      waiting = is.waiting ∙ sym (append-nil waiting);
    }

pub mail_more : (is_new : Bool) (xs : List Post) (i : ℕ) (x : Post) (actors : ℕ) (before : List Post)
    (waiting : List Delivery) (old new : Mail) → i < length xs → x ≡ get_or xs i x
    → ((ps : List Post) → AreSlots actors ps (slots_of old.slots.items) →
    AreSlots actors (ps ++ new_posts is_new (x ∷ [])) (slots_of new.slots.items))
    → new.waiting.items ≡ old.waiting.items ++ sent x
    → IsMail actors (before ++ new_posts is_new (take i xs)) (waiting ++ flat_map sent (take i xs)) old
    → IsMail actors (before ++ new_posts is_new (take (i + 1) xs)) (waiting ++ flat_map sent (take (i + 1) xs)) new
mail_more is_new xs i x actors before waiting old new below is put more was = record {
  slots = subst (λ (ps : List Post). AreSlots actors ps (slots_of new.slots.items))
      (append_assoc before (new_posts is_new (take i xs)) (new_posts is_new (x ∷ []))
      ∙ ap (λ (ps : List Post). before ++ ps) (sym (new_more is_new xs i x below is)))
      (put (before ++ new_posts is_new (take i xs)) was.slots);
  waiting = more ∙ ap (λ (ds : List Delivery). ds ++ sent x) was.waiting
      ∙ append_assoc waiting (flat_map sent (take i xs)) (sent x)
      ∙ ap (λ (ds : List Delivery). waiting ++ ds) (sym (sent_more xs i x below is));
}

pub mail_all : (is_new : Bool) (xs : List Post) (n : ℕ) (actors : ℕ) (before : List Post) (waiting : List Delivery)
    (mail : Mail) → length xs ≤ n
    → IsMail actors (before ++ new_posts is_new (take n xs)) (waiting ++ flat_map sent (take n xs)) mail
    → IsMail actors (before ++ new_posts is_new xs) (waiting ++ flat_map sent xs) mail
mail_all is_new xs n actors before waiting mail past is =
    subst (λ (ps : List Post). IsMail actors (before ++ new_posts is_new ps) (waiting ++ flat_map sent ps) mail)
    (take_all n xs past) is
