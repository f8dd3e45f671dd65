-- The text of an update, and of rows, tells them whole.
use Rattle.std.proofs.Common.{◌≡◌, ℕ, ℤ, ◌^◌, ◌<◌, List, [], ◌∷◌, ◌++◌, length, refl, sym, ◌∙◌, ap, arith}
use Rattle.std.proofs.Common.{append_assoc}
use Rattle.std.specs.List.{flat_map}
use Rattle.plain_lists.specs.Lists.{here, there, Each}
use Rattle.wire_parts.specs.Fields.{u16_bytes, u32_bytes, u64_bytes, i64_bytes}
use Rattle.wire_parts.specs.FieldLaws.{u16_bytes-inj, u32_bytes-inj, u64_bytes-inj, i64_bytes-inj}
use Rattle.message_types.specs.declared.updates.Update.{Update}
use Rattle.message_types.specs.declared.updates.Op.{Op}
use Rattle.message_types.specs.declared.updates.Op.TheVariants as op
use Rattle.message_types.specs.Texts.{update_text, op_text, rows_text, list_text}
use Rattle.agreement.proofs.LearnedInPlace.{GoodRow, GoodRows, GoodOp}

end_same : (x y : List ℕ) → x ≡ y → x ++ [] ≡ y ++ []
end_same x y e = ap (λ (z : List ℕ). z ++ []) e

-- lists whose items are read back from before whatever follows
items_same : {X : Type 0} (item : X → List ℕ) (Fits : X → Type 0)
    → ((x y : X) (r t : List ℕ) → Fits x → Fits y → item x ++ r ≡ item y ++ t → (x ≡ y) × (r ≡ t))
    → (xs ys : List X) (r t : List ℕ) → length xs ≡ length ys → Each Fits xs → Each Fits ys →
    flat_map item xs ++ r ≡ flat_map item ys ++ t → (xs ≡ ys) × (r ≡ t)
items_same item Fits one [] [] r t len p q e = (refl, e)
items_same item Fits one [] (y ∷ ys) r t len p q e = absurd (omega arith)
items_same item Fits one (x ∷ xs) [] r t len p q e = absurd (omega arith)
items_same {X} item Fits one (x ∷ xs) (y ∷ ys) r t len p q e =
    let apart : item x ++ (flat_map item xs ++ r) ≡ item y ++ (flat_map item ys ++ t) =
    sym (append_assoc (item x) (flat_map item xs) r) ∙ e ∙ append_assoc (item y) (flat_map item ys) t in
    let first = one x y (flat_map item xs ++ r) (flat_map item ys ++ t) (p x (here xs)) (q y (here ys)) apart in
    let rest = items_same item Fits one xs ys r t (omega arith) (λ z k. p z (there x xs k))
    (λ z k. q z (there y ys k)) first.1 in
    (ap (λ (z : X). z ∷ xs) first.0 ∙ ap (λ (zs : List X). y ∷ zs) rest.0, rest.1)

list_same : {X : Type 0} (item : X → List ℕ) (Fits : X → Type 0)
    → ((x y : X) (r t : List ℕ) → Fits x → Fits y → item x ++ r ≡ item y ++ t → (x ≡ y) × (r ≡ t))
    → (xs ys : List X) (r t : List ℕ) → length xs < 65536 → length ys < 65536 → Each Fits xs → Each Fits ys →
    list_text item xs ++ r ≡ list_text item ys ++ t → (xs ≡ ys) × (r ≡ t)
list_same item Fits one xs ys r t few_x few_y p q e =
    let apart : u16_bytes (length xs) ++ (flat_map item xs ++ r) ≡ u16_bytes (length ys) ++ (flat_map item ys ++ t) =
    sym (append_assoc (u16_bytes (length xs)) (flat_map item xs) r) ∙ e
    ∙ append_assoc (u16_bytes (length ys)) (flat_map item ys) t in
    let counts = u16_bytes-inj (length xs) (length ys) (flat_map item xs ++ r)
    (flat_map item ys ++ t) few_x few_y apart in
    items_same item Fits one xs ys r t counts.0 p q counts.1

row_same : (x y : List ℕ) (r t : List ℕ) → GoodRow x → GoodRow y → list_text u64_bytes x ++ r ≡ list_text u64_bytes y
    ++ t → (x ≡ y) × (r ≡ t)
row_same x y r t p q e = list_same u64_bytes (λ n. n < 2 ^ 64)
    (λ a b r t fits_a fits_b same. u64_bytes-inj a b r t fits_a fits_b same) x y r t p.0 q.0 p.1 q.1 e

pub rows_text-same : (a b : List (List ℕ)) → GoodRows a → GoodRows b → rows_text a ≡ rows_text b → a ≡ b
rows_text-same a b p q e =
    let mark = u16_bytes-inj 240 240 (list_text (list_text u64_bytes) a) (list_text (list_text u64_bytes) b)
    (omega arith) (omega arith) e in
    (list_same (list_text u64_bytes) GoodRow row_same a b [] [] p.0 q.0 p.1 q.1 (end_same _ _ mark.1)).0

heads_same : {x y : ℕ} {xs ys : List ℕ} → x ∷ xs ≡ y ∷ ys → x ≡ y
heads_same e = cc

tails_same : {x y : ℕ} {xs ys : List ℕ} → x ∷ xs ≡ y ∷ ys → xs ≡ ys
tails_same e = cc

reading_same : (p q : ℕ) (x y : ℤ) → p < 2 ^ 32 → q < 2 ^ 32 →
    Rattle.std.specs.Prelude.FitsSigned Rattle.std.specs.Int.w64 x →
    Rattle.std.specs.Prelude.FitsSigned Rattle.std.specs.Int.w64 y
    → u32_bytes p ++ i64_bytes x ≡ u32_bytes q ++ i64_bytes y → (p ≡ q) × (x ≡ y)
reading_same p q x y fits_p fits_q fits_x fits_y e =
    let points = u32_bytes-inj p q (i64_bytes x) (i64_bytes y) fits_p fits_q e in
    (points.0, (i64_bytes-inj x y [] [] fits_x fits_y (end_same _ _ points.1)).0)

op_same : (a b : Op) → GoodOp a → GoodOp b → op_text a ≡ op_text b → a ≡ b
op_same (op.Reading p x) (op.Reading q y) good_a good_b e = let same =
    reading_same p q x y good_a.0 good_b.0 good_a.1 good_b.1 (tails_same e) in ap (λ z. op.Reading z x) same.0
    ∙ ap (λ z. op.Reading q z) same.1
op_same (op.Set p x) (op.Set q y) good_a good_b e = let same =
    reading_same p q x y good_a.0 good_b.0 good_a.1 good_b.1 (tails_same e) in ap (λ z. op.Set z x) same.0
    ∙ ap (λ z. op.Set q z) same.1
op_same (op.Ack p) (op.Ack q) good_a good_b e =
    ap (λ z. op.Ack z) (u32_bytes-inj p q [] [] good_a good_b (end_same _ _ (tails_same e))).0
op_same (op.Reading p x) (op.Set q y) good_a good_b e = let h : ◌≡◌ {A = ℕ} 1 2 = heads_same e in absurd (omega arith)
op_same (op.Reading p x) (op.Ack q) good_a good_b e = let h : ◌≡◌ {A = ℕ} 1 3 = heads_same e in absurd (omega arith)
op_same (op.Set p x) (op.Reading q y) good_a good_b e = let h : ◌≡◌ {A = ℕ} 2 1 = heads_same e in absurd (omega arith)
op_same (op.Set p x) (op.Ack q) good_a good_b e = let h : ◌≡◌ {A = ℕ} 2 3 = heads_same e in absurd (omega arith)
op_same (op.Ack p) (op.Reading q y) good_a good_b e = let h : ◌≡◌ {A = ℕ} 3 1 = heads_same e in absurd (omega arith)
op_same (op.Ack p) (op.Set q y) good_a good_b e = let h : ◌≡◌ {A = ℕ} 3 2 = heads_same e in absurd (omega arith)

abbrev pub GoodUpdate : Update → Type 0
GoodUpdate u = (u.client < 2 ^ 32) × (u.t < 2 ^ 64) × GoodOp u.op

update_parts : (u : Update) → update_text u ≡ u16_bytes 1 ++ (u32_bytes u.client ++ (u64_bytes u.t ++ op_text u.op))
update_parts u = append_assoc (u16_bytes 1 ++ u32_bytes u.client) (u64_bytes u.t) (op_text u.op)
    ∙ append_assoc (u16_bytes 1) (u32_bytes u.client) (u64_bytes u.t ++ op_text u.op)

pub update_text-same : (a b : Update) → GoodUpdate a → GoodUpdate b → update_text a ≡ update_text b → a ≡ b
update_text-same a b p q e =
    let whole : u16_bytes 1 ++ (u32_bytes a.client ++ (u64_bytes a.t ++ op_text a.op)) ≡ u16_bytes 1
    ++ (u32_bytes b.client ++ (u64_bytes b.t ++ op_text b.op)) =
    sym (update_parts a) ∙ e ∙ update_parts b in
    let kinds = u16_bytes-inj 1 1 _ _ (omega arith) (omega arith) whole in
    let clients = u32_bytes-inj a.client b.client _ _ p.0 q.0 kinds.1 in
    let times = u64_bytes-inj a.t b.t _ _ p.1 q.1 clients.1 in
    let ops : a.op ≡ b.op = op_same a.op b.op p.2 q.2 times.1 in
    let one : a.client ≡ b.client = clients.0 in
    let two : a.t ≡ b.t = times.0 in
    λ x. record { client = one x; t = two x; op = ops x }
