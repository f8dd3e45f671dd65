-- When a part is in its place: its signer may say such a word, its numbers are within their limits, and the lists
-- in it have the members that its kind calls for. (This project's own limits; that a report shows its marks and
-- certificates, and a new view its reports, is PBFT's.)
use Rattle.std.specs.Prelude.{ℕ, ℤ, pos, negsuc, ◌-◌, ◌^◌, ◌+◌, ◌%◌, Bool, true, false, ◌&&◌, List, length, nat_eq}
use Rattle.std.specs.Prelude.{nat_le, nat_lt, if◌then◌else◌}
use Rattle.std.specs.List.{list_all}
use Rattle.std.specs.Str.{bytes_eq}
use Rattle.message_types.specs.declared.signed.Signed.{Signed}
use Rattle.message_types.specs.declared.ordering.Certificate.{Certificate}
use Rattle.message_types.specs.declared.views.Report.{Report}
use Rattle.message_types.specs.declared.reconciling.Give.{Give}
use Rattle.message_types.specs.declared.body.Body.{Body}
use Rattle.std.specs.Int.Signed.{le_z}
use Rattle.message_types.specs.declared.updates.Op.{Op}
use Rattle.message_types.specs.declared.updates.Op.TheVariants as op
use Rattle.message_types.specs.declared.body.Body.TheVariants as body
use Rattle.message_types.specs.Digests.{digest_of_update, digest_of_rows}
use Rattle.protocol_rules.specs.Group.{Group, most_number, most_view, window, mark_step, leader_of}
use Rattle.protocol_rules.specs.declared.limits.TheConstants.{MOST_TICKS, MOST_BOUND}

abbrev pub is_number : ℕ → Bool
is_number x = nat_le 1 x && nat_le x most_number

abbrev pub is_view : ℕ → Bool
is_view v = nat_le v most_view

-- an empty row, or one number for each master
abbrev pub is_row : Group → List ℕ → Bool
is_row g row = if nat_eq (length row) 0 then true else
    (nat_eq (length row) g.n && list_all (λ x. nat_le x most_number) row)

abbrev pub are_rows : Group → List (List ℕ) → Bool
are_rows g rows = nat_eq (length rows) g.n && list_all (is_row g) rows

-- exactly q prepares for the certificate's view, number and rows
abbrev pub certificate_in_place : Group → ℕ → ℕ → Certificate → Bool
certificate_in_place g base v c =
    nat_lt base c.s && nat_le c.s (base + window) && nat_le c.s most_number && nat_lt c.v v && are_rows g c.rows
    && nat_eq (length c.prepares) g.q
    && list_all (λ p. nat_eq p.body.v c.v && nat_eq p.body.s c.s && bytes_eq p.body.digest (digest_of_rows c.rows))
    c.prepares

-- a report of view v: its base is shown by exactly q marks, or is 0 and shown by none
abbrev pub report_in_place : Group → Report → Bool
report_in_place g b =
    nat_le 1 b.v && is_view b.v && nat_eq (b.base % mark_step) 0 && nat_le b.base most_number
    && nat_eq (length b.marks) (if nat_eq b.base 0 then 0 else g.q)
    && list_all (λ m. nat_eq m.body.s b.base) b.marks
    && list_all (certificate_in_place g b.base b.v) b.certificates

abbrev pub give_in_place : Group → Give → Bool
give_in_place g b =
    nat_eq (length b.acks) g.q
    && list_all (λ a. nat_eq a.body.j b.request.signer && nat_eq a.body.k b.request.body.k
    && bytes_eq a.body.digest (digest_of_update b.request.body.update.body)) b.acks

-- a number that its 32 or 64 bits hold: of Rust's own numbers this is always so
abbrev pub in_32_bits : ℕ → Bool
in_32_bits x = nat_lt x (2 ^ 32)

abbrev pub in_64_bits : ℕ → Bool
in_64_bits x = nat_lt x (2 ^ 64)

abbrev pub in_signed_64_bits : ℤ → Bool
in_signed_64_bits z = le_z (negsuc (2 ^ 63 - 1)) z && le_z z (pos (2 ^ 63 - 1))

abbrev pub op_in_place : Op → Bool
op_in_place (op.Reading point value) = in_32_bits point && in_signed_64_bits value
op_in_place (op.Set point value) = in_32_bits point && in_signed_64_bits value
op_in_place (op.Ack alarm) = in_32_bits alarm

-- what a master's word asks for besides its signer
abbrev pub word_in_place : Group → ℕ → Body → Bool
word_in_place g signer (body.Update b) = false
word_in_place g signer (body.PoRequest b) = is_number b.k
word_in_place g signer (body.PoAck b) = nat_lt b.j g.n && is_number b.k
word_in_place g signer (body.PoSummary b) = nat_eq (length b.numbers) g.n
    && list_all (λ x. nat_le x most_number) b.numbers
word_in_place g signer (body.PrePrepare b) = is_view b.v && is_number b.s && nat_eq signer (leader_of g b.v)
word_in_place g signer (body.Prepare b) = is_view b.v && is_number b.s
word_in_place g signer (body.Commit b) = is_view b.v && is_number b.s
word_in_place g signer (body.Ping b) = true
word_in_place g signer (body.Pong b) = nat_lt b.to g.n
word_in_place g signer (body.Rtt b) = nat_lt b.to g.n && nat_le b.ticks MOST_TICKS
word_in_place g signer (body.TatReport b) = is_view b.v && nat_le b.ticks MOST_TICKS
word_in_place g signer (body.TatBound b) = is_view b.v && nat_le b.ticks MOST_BOUND
word_in_place g signer (body.Suspect b) = nat_lt b.v most_view
word_in_place g signer (body.Report b) = report_in_place g b
word_in_place g signer (body.NewView b) =
    nat_le 1 b.v && is_view b.v && nat_eq signer (leader_of g b.v) && nat_eq (length b.reports) g.q
    && list_all (λ r. nat_eq r.body.v b.v) b.reports
word_in_place g signer (body.AskUpdate b) = nat_lt b.j g.n && is_number b.k
word_in_place g signer (body.Give b) = give_in_place g b
word_in_place g signer (body.AskOrder b) = is_number b.s
word_in_place g signer (body.GiveOrdered b) =
    is_number b.s && is_view b.v && are_rows g b.rows && nat_eq (length b.commits) g.q
    && list_all (λ c. nat_eq c.body.v b.v && nat_eq c.body.s b.s && bytes_eq c.body.digest (digest_of_rows b.rows))
    b.commits
word_in_place g signer (body.Voucher b) = nat_lt b.client g.clients && nat_le 1 b.number
word_in_place g signer (body.Mark b) = is_number b.s && nat_eq (b.s % mark_step) 0

-- an update is its client's, whose actor number is n + client; all other words are masters'
abbrev pub in_place : Group → Signed Body → Bool
in_place g f = elim f.body [
  | body.Update b ↦ nat_lt b.client g.clients && in_32_bits b.client && nat_eq f.signer (g.n + b.client)
      && in_64_bits b.t && op_in_place b.op
  | _ ↦ nat_lt f.signer g.n && word_in_place g f.signer f.body
]
