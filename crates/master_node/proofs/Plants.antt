-- The plant that a master keeps, as more is executed.
use Rattle.std.proofs.Common.{◌≡◌, ℕ, ◌+◌, ◌<◌, ◌≤◌, Bool, true, List, [], ◌∷◌, ◌++◌, Some, zero, suc, take, drop}
use Rattle.std.proofs.Common.{length, nat_lt, refl, sym, ◌∙◌, ap, subst, arith, length-append, length-drop, ◌-◌}
use Rattle.std.specs.Prelude.{slice_get}
use Rattle.std.specs.List.{list_all, slice_index_or}
use Rattle.std.proofs.lemmas.Bool.{and_parts, lt-ltb, ltb-true}
use Rattle.std.proofs.lemmas.List.{take_all}
use Rattle.std.proofs.lemmas.List.Folds.{list_all-append}
use Rattle.plain_lists.specs.Lists.{IsIn, here, there, Begins}
use Rattle.plain_lists.proofs.Members.{none_some, some_same, all_at}
use Rattle.message_types.specs.declared.signed.Signed.{Signed}
use Rattle.message_types.specs.declared.updates.Update.{Update}
use Rattle.message_types.specs.declared.vouchers.Order.{Order}
use Rattle.message_types.specs.declared.body.Body.{Body}
use Rattle.protocol_rules.specs.Group.{Group}
use Rattle.protocol_rules.specs.Master.{executed}
use Rattle.agreement.proofs.ExecutionsAgree.{executed_from}
use Rattle.words_in_place.proofs.Limits.{all_from}
use Rattle.master_points.specs.Effects.{Site}
use Rattle.master_points.specs.Orders.{Held, fresh, applied, held_after, orders}
use Rattle.master_points.proofs.OrderLaws.{only-appends, holds-orders}
use Rattle.master_knowledge.specs.Whole.{is_whole}
use Rattle.master_knowledge.proofs.Certified.{has_clients}
use Rattle.master_answers.specs.Replica.{HoldsOrders, clients_of}
use Rattle.master_node.specs.Charge.{Charge}
use Rattle.master_node.specs.Running.{HoldsPlant}

drop_first : {X : Type 0} (xs ys : List X) → drop (length xs) (xs ++ ys) ≡ ys
drop_first [] ys = refl
drop_first (x ∷ xs) ys = drop_first xs ys

index_is : (lists : List (List Order)) (n : ℕ) (os : List Order) → slice_get lists n ≡ Some os →
    slice_index_or lists n [] ≡ os
index_is [] n os e = absurd (none_some e)
index_is (x ∷ xs) zero os e = some_same e
index_is (x ∷ xs) (suc n) os e = index_is xs n os e

index_in : {X : Type 0} (xs : List X) (i : ℕ) (d : X) → i < length xs → IsIn (slice_index_or xs i d) xs
index_in [] i d less = absurd (omega arith)
index_in (x ∷ xs) zero d less = here xs
index_in (x ∷ xs) (suc i) d less = there x xs (index_in xs i d (omega arith))

take_index : {X : Type 0} (xs : List X) (i : ℕ) (d : X) → i < length xs →
    take i xs ++ slice_index_or xs i d ∷ [] ≡ take (suc i) xs
take_index [] i d less = absurd (omega arith)
take_index (x ∷ xs) zero d less = refl
take_index {X} (x ∷ xs) (suc i) d less = ap (λ (ys : List X). x ∷ ys) (take_index xs i d (omega arith))

site_kept : (h : Held) (us : List Update) → (held_after h us).site ≡ h.site
site_kept h [] = refl
site_kept h (u ∷ us) = site_kept (applied h u) us

held_more : (h : Held) (us more : List Update) → held_after h (us ++ more) ≡ held_after (held_after h us) more
held_more h [] more = refl
held_more h (u ∷ us) more = held_more (applied h u) us more

-- each update is of a client that the plant has still, after those before it
pub update_there : (start now : Held) (us : List Update) (i : ℕ) (d : Update) → now ≡ held_after start (take i us) →
    list_all (λ u. nat_lt u.client (start.site.devices + start.site.screens)) us ≡ true
    → i < length us → (slice_index_or us i d).client < now.site.devices + now.site.screens
update_there start now us i d e all less =
    let same : now.site ≡ start.site = ap (λ (h : Held). h.site) e ∙ site_kept start (take i us) in
    subst (λ (site : Site). (slice_index_or us i d).client < site.devices + site.screens) (sym same)
    (ltb-true (slice_index_or us i d).client (start.site.devices + start.site.screens)
    (all_at (λ (u : Update). nat_lt u.client (start.site.devices + start.site.screens)) (index_in us i d less) all))

-- one update more
pub update_more : (start now next : Held) (us : List Update) (i : ℕ) (d : Update) →
    now ≡ held_after start (take i us) → next ≡ applied now (slice_index_or us i d) → i < length us →
    next ≡ held_after start (take (i + 1) us)
update_more start now next us i d e step less =
    let one : suc i ≡ i + 1 = omega arith in
    step ∙ ap (λ (h : Held). applied h (slice_index_or us i d)) e
    ∙ sym (held_more start (take i us) (slice_index_or us i d ∷ []))
    ∙ ap (held_after start) (take_index us i d less) ∙ ap (λ n. held_after start (take n us)) one

pub clients_are : (c : Charge) (known : List (Signed Body)) (points : Held) → HoldsPlant c known points →
    clients_of points ≡ c.group.clients
clients_are c known points p = ap clients_of p.held ∙ ap (λ site. site.devices + site.screens)
    (site_kept (fresh p.plant p.screens) (executed c.group known)) ∙ p.clients

pub few_clients : (c : Charge) (known : List (Signed Body)) (points : Held) → HoldsPlant c known points →
    clients_of points ≤ 12
few_clients c known points p =
    let all : clients_of points ≡ c.group.clients = clients_are c known points p in
    let devices : length p.plant.devices ≤ 8 = p.within.devices in
    let screens : p.screens ≤ 4 = p.within.shown in
    let parts : length p.plant.devices + p.screens ≡ c.group.clients = p.clients in
    omega arith

-- the plant's lists are the orders of the executed updates
pub holds_orders : (c : Charge) (known : List (Signed Body)) (points : Held) → HoldsPlant c known points →
    HoldsOrders c.group c.orders known points
holds_orders c known points p = record {
  clients = clients_are c known points p;
  lists = λ n less.
      ap (λ (h : Held). slice_get h.lists n) p.held
      ∙ holds-orders p.plant p.screens (executed c.group known) n (subst (λ m. n < m) (sym p.clients) less)
      ∙ ap (λ (os : List Order). Some os) (sym (p.orders (executed c.group known) n));
}

-- a list's part from a place on
tail_is : {X : Type 0} (xs : List X) (n : ℕ) → take (length xs - n) (drop n xs) ≡ drop n xs
tail_is xs n = take_all (length xs - n) (drop n xs) (let many : length (drop n xs) ≡ length xs - n =
    length-drop n xs in omega arith)

pub tail_passes : (t : Update → Bool) (us : List Update) (n : ℕ) → list_all t (drop n us) ≡ true →
    list_all t (take (length us - n) (drop n us)) ≡ true
tail_passes t us n all = ap (list_all t) (tail_is us n) ∙ all

pub tail_applied : (points now : Held) (us : List Update) (n : ℕ) →
    now ≡ held_after points (take (length us - n) (drop n us)) → now ≡ held_after points (drop n us)
tail_applied points now us n e = e ∙ ap (held_after points) (tail_is us n)

-- what is executed behind the first is the rest
rest_is : {X : Type 0} (first all : List X) (done : ℕ) (b : Begins first all) → length first ≡ done →
    drop done all ≡ b.rest
rest_is {X} first all done b many = ap (λ n. drop n all) (sym many) ∙ ap (λ (xs : List X). drop (length first) xs)
    b.same ∙ drop_first first b.rest

pub some_done : {X : Type 0} (first all : List X) (done : ℕ) → Begins first all →
    length first ≡ done → done ≤ length all
some_done first all done b many =
    let both : length all ≡ length first + length b.rest = ap length b.same ∙ length-append first b.rest in
    omega arith

pub rest_passes : {X : Type 0} (t : X → Bool) (first all : List X) (done : ℕ) → Begins first all →
    length first ≡ done → list_all t all ≡ true → list_all t (drop done all) ≡ true
rest_passes {X} t first all done b many passes =
    ap (list_all t) (rest_is first all done b many)
    ∙ (and_parts (list_all t first) (list_all t b.rest) (sym (list_all-append t first b.rest)
    ∙ ap (list_all t) (sym b.same) ∙ passes)).1

-- the plant once more is executed
pub plant_grows : (c : Charge) (earlier known : List (Signed Body)) (points now : Held) (done : ℕ) →
    HoldsPlant c earlier points → (b : Begins (executed c.group earlier) (executed c.group known))
    → length (executed c.group earlier) ≡ done → now ≡ held_after points (drop done (executed c.group known)) →
    HoldsPlant c known now
plant_grows c earlier known points now done p b many e = record {
  plant = p.plant;
  screens = p.screens;
  within = p.within;
  clients = p.clients;
  orders = p.orders;
  held = e ∙ ap (λ (us : List Update). held_after points us)
      (rest_is (executed c.group earlier) (executed c.group known) done b many)
      ∙ ap (λ (h : Held). held_after h b.rest) p.held
      ∙ sym (held_more (fresh p.plant p.screens) (executed c.group earlier) b.rest)
      ∙ ap (held_after (fresh p.plant p.screens)) (sym b.same);
}

-- a client has no fewer orders then
pub orders_grow : (c : Charge) (earlier known : List (Signed Body)) (points now : Held) (n : ℕ) →
    (p : HoldsPlant c earlier points) → HoldsPlant c known now →
    Begins (executed c.group earlier) (executed c.group known)
    → n < clients_of now → length (slice_index_or points.lists n []) ≤ length (slice_index_or now.lists n [])
orders_grow c earlier known points now n p q b less =
    let all : clients_of now ≡ c.group.clients = clients_are c known now q in
    let here : n < c.group.clients = subst (λ m. n < m) all less in
    let first : slice_index_or points.lists n [] ≡ c.orders (executed c.group earlier) n =
    index_is points.lists n (c.orders (executed c.group earlier) n)
    ((holds_orders c earlier points p).lists n here) in
    let last : slice_index_or now.lists n [] ≡ c.orders (executed c.group known) n =
    index_is now.lists n (c.orders (executed c.group known) n) ((holds_orders c known now q).lists n here) in
    let added = only-appends p.plant p.screens (executed c.group earlier) b.rest n in
    let longer : c.orders (executed c.group known) n ≡ c.orders (executed c.group earlier) n ++ added.0 =
    p.orders (executed c.group known) n ∙ ap (λ (us : List Update). orders p.plant p.screens us n) b.same ∙ added.1
    ∙ ap (λ (os : List Order). os ++ added.0) (sym (p.orders (executed c.group earlier) n)) in
    let long : length (slice_index_or now.lists n []) ≡ length
    (c.orders (executed c.group earlier) n) + length added.0 =
    ap length last ∙ ap length longer ∙ length-append (c.orders (executed c.group earlier) n) added.0 in
    let short : length (slice_index_or points.lists n []) ≡ length (c.orders (executed c.group earlier) n) =
    ap length first in
    omega arith

-- the clients of executed updates are there
pub executed_there : (g : Group) (known : List (Signed Body)) (n : ℕ) → list_all (is_whole g) known ≡ true →
    n ≡ g.clients → list_all (λ u. nat_lt u.client n) (executed g known) ≡ true
executed_there g known n whole same = all_from (λ (u : Update). nat_lt u.client n) (executed g known) (λ u h.
    let from = executed_from g known u h in
    lt-ltb u.client n (subst (λ m. u.client < m) (sym same) (has_clients g known whole from.0.j from.0.k u from.1)))
