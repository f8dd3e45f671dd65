-- Vouchers, client by client.
use Rattle.std.proofs.Common.{◌≡◌, ℕ, ◌+◌, ◌<◌, ◌≤◌, List, [], ◌∷◌, ◌++◌, Some, length, get_or, set, sym, ◌∙◌, ap}
use Rattle.std.proofs.Common.{subst, append_assoc, arith}
use Rattle.std.specs.List.{flat_map, slice_get}
use Rattle.std.proofs.lemmas.List.{append-nil}
use Rattle.std.proofs.lemmas.Option.{get_or_from_slice_get}
use Rattle.std.proofs.lemmas.Grind.{flat_map-append}
use Rattle.message_types.specs.declared.body.Body.{Body}
use Rattle.message_types.specs.declared.vouchers.Order.{Order}
use Rattle.quorum_sets.specs.Masters.{numbers_below}
use Rattle.summary_matrix.proofs.Loops.{told_more, untold}
use Rattle.protocol_rules.specs.Master.{vouchers_from}
use Rattle.leader_proposals.specs.Saying.{AreVouchersOf}
use Rattle.leader_proposals.proofs.Vouching.{clients-apart}
use Rattle.quorum_sets.proofs.Numbered.{below_one_more, below_none_at}

-- the vouchers due for the clients below n
abbrev pub for_clients : List Body → (ℕ → List Order) → ℕ → List Body
for_clients said orders n = flat_map (λ c. vouchers_from said c 1 (orders c)) (numbers_below n)

no_clients : (said : List Body) (orders : ℕ → List Order) → for_clients said orders 0 ≡ []
no_clients said orders = ap (flat_map (λ c. vouchers_from said c 1 (orders c))) below_none_at

pub due_start : (said : List Body) (orders : ℕ → List Order) → [] ≡ for_clients said orders 0
due_start said orders = sym (no_clients said orders)

pub said_start : (counts : List ℕ) (said : List Body) (orders : ℕ → List Order) → AreVouchersOf counts said →
    AreVouchersOf counts (said ++ for_clients said orders 0)
said_start counts said orders are =
    subst (AreVouchersOf counts) (sym (ap (λ xs. said ++ xs) (no_clients said orders) ∙ append-nil said)) are

one_client_more : (said : List Body) (orders : ℕ → List Order) (n : ℕ) →
    for_clients said orders (n + 1) ≡ for_clients said orders n ++ vouchers_from said n 1 (orders n)
one_client_more said orders n =
    ap (flat_map (λ c. vouchers_from said c 1 (orders c))) (below_one_more n)
    ∙ flat_map-append (λ c. vouchers_from said c 1 (orders c)) (numbers_below n) (n ∷ [])
    ∙ ap (λ xs. for_clients said orders n ++ xs) (append-nil (vouchers_from said n 1 (orders n)))

-- the list held for a client is the client's
own_list : (lists : List (List Order)) (n : ℕ) (own theirs : List Order) → slice_get lists n ≡ Some own →
    slice_get lists n ≡ Some theirs → own ≡ theirs
own_list lists n own theirs held is = sym (get_or_from_slice_get lists n own [] held)
    ∙ get_or_from_slice_get lists n theirs [] is

-- what is due after the clients before is what is due by all that was said first
after_others : (said : List Body) (orders : ℕ → List Order) (lists : List (List Order)) (n : ℕ) (own : List Order) →
    slice_get lists n ≡ Some own → slice_get lists n ≡ Some (orders n) →
    vouchers_from (said ++ for_clients said orders n) n 1 own ≡ vouchers_from said n 1 (orders n)
after_others said orders lists n own held is =
    ap (vouchers_from (said ++ for_clients said orders n) n 1) (own_list lists n own (orders n) held is)
    ∙ clients-apart said orders n

pub due_more : (said : List Body) (orders : ℕ → List Order) (lists : List (List Order)) (n : ℕ) (own : List Order)
    (before now : List Body) → slice_get lists n ≡ Some own → slice_get lists n ≡ Some (orders n) →
    before ≡ for_clients said orders n → now ≡ before ++ vouchers_from (said ++ for_clients said orders n) n 1 own →
    now ≡ for_clients said orders (n + 1)
due_more said orders lists n own before now held is had made =
    made ∙ ap (λ xs. xs ++ vouchers_from (said ++ for_clients said orders n) n 1 own) had
    ∙ ap (λ xs. for_clients said orders n ++ xs) (after_others said orders lists n own held is)
    ∙ sym (one_client_more said orders n)

pub said_more : (counts : List ℕ) (said : List Body) (orders : ℕ → List Order) (lists : List (List Order)) (n : ℕ)
    (own : List Order) → slice_get lists n ≡ Some own → slice_get lists n ≡ Some (orders n) →
    AreVouchersOf counts ((said ++ for_clients said orders n) ++ vouchers_from (said ++ for_clients said orders n)
    n 1 own) → AreVouchersOf counts (said ++ for_clients said orders (n + 1))
said_more counts said orders lists n own held is =
    subst (AreVouchersOf counts)
    (append_assoc said (for_clients said orders n) (vouchers_from (said ++ for_clients said orders n) n 1 own)
    ∙ ap (λ xs. said ++ (for_clients said orders n ++ xs)) (after_others said orders lists n own held is)
    ∙ ap (λ xs. said ++ xs) (sym (one_client_more said orders n)))

-- the count of one client more is the length of its list
pub counted_more : (counts now : List ℕ) (lists : List (List Order)) (n : ℕ) (own : List Order) → n < length counts →
    slice_get lists n ≡ Some own → now ≡ set counts n (length own) →
    ((c : ℕ) → c < n → get_or counts c 0 ≡ length (get_or lists c [])) → (c : ℕ) → c < n + 1 →
    get_or now c 0 ≡ length (get_or lists c [])
counted_more counts now lists n own within held made had c lt =
    ap (λ ns. get_or ns c 0) made
    ∙ told_more counts n (length own) (λ d. length (get_or lists d [])) within had
    (sym (ap (λ (xs : List Order). length xs) (get_or_from_slice_get lists n own [] held))) c lt

pub others_stay : (counts now old : List ℕ) (n count : ℕ) → now ≡ set counts n count →
    ((c : ℕ) → n ≤ c → get_or counts c 0 ≡ get_or old c 0) → (c : ℕ) → n + 1 ≤ c → get_or now c 0 ≡ get_or old c 0
others_stay counts now old n count made same c le = ap (λ ns. get_or ns c 0) made ∙ untold counts old n count same c le

-- what was counted at first is within the client's list
pub within_list : (counts old : List ℕ) (lists : List (List Order)) (n : ℕ) (own : List Order) →
    slice_get lists n ≡ Some own → get_or counts n 0 ≡ get_or old n 0 →
    get_or old n 0 ≤ length (get_or lists n []) → get_or counts n 0 ≤ length own
within_list counts old lists n own held same le =
    let here : length (get_or lists n []) ≡ length own =
    ap (λ (xs : List Order). length xs) (get_or_from_slice_get lists n own [] held) in
    omega arith

pub said_all : (counts : List ℕ) (said : List Body) (orders : ℕ → List Order) (n : ℕ) (bodies : List Body) →
    bodies ≡ for_clients said orders n → AreVouchersOf counts (said ++ for_clients said orders n) →
    AreVouchersOf counts (said ++ bodies)
said_all counts said orders n bodies is are = subst (AreVouchersOf counts) (ap (λ xs. said ++ xs) (sym is)) are
