-- The kinds of messages, their names and numbers. (The messages are those of Prime, the names and numbers this
-- project's own.)
use Rattle.std.specs.Prelude.{ℕ, codes, List, [], ◌∷◌, Option}
use Rattle.std.specs.List.{find}
use Rattle.std.specs.Str.{bytes_eq}
use Rattle.script_grammar.specs.declared.kinds.Kind.{Kind}
use Rattle.script_grammar.specs.declared.kinds.Kind.TheVariants as kind

abbrev pub kind_name : Kind → List ℕ
kind_name kind.Update = codes "update"
kind_name kind.PoRequest = codes "porequest"
kind_name kind.PoAck = codes "poack"
kind_name kind.PoSummary = codes "posummary"
kind_name kind.PrePrepare = codes "preprepare"
kind_name kind.Prepare = codes "prepare"
kind_name kind.Commit = codes "commit"
kind_name kind.Ping = codes "ping"
kind_name kind.Pong = codes "pong"
kind_name kind.Rtt = codes "rtt"
kind_name kind.TatReport = codes "tatreport"
kind_name kind.TatBound = codes "tatbound"
kind_name kind.Suspect = codes "suspect"
kind_name kind.Report = codes "report"
kind_name kind.NewView = codes "newview"
kind_name kind.AskUpdate = codes "askupdate"
kind_name kind.Give = codes "give"
kind_name kind.AskOrder = codes "askorder"
kind_name kind.GiveOrdered = codes "giveordered"
kind_name kind.Voucher = codes "voucher"
kind_name kind.Mark = codes "mark"

abbrev pub kind_number : Kind → ℕ
kind_number kind.Update = 1
kind_number kind.PoRequest = 2
kind_number kind.PoAck = 3
kind_number kind.PoSummary = 4
kind_number kind.PrePrepare = 5
kind_number kind.Prepare = 6
kind_number kind.Commit = 7
kind_number kind.Ping = 8
kind_number kind.Pong = 9
kind_number kind.Rtt = 10
kind_number kind.TatReport = 11
kind_number kind.TatBound = 12
kind_number kind.Suspect = 13
kind_number kind.Report = 14
kind_number kind.NewView = 15
kind_number kind.AskUpdate = 16
kind_number kind.Give = 17
kind_number kind.AskOrder = 18
kind_number kind.GiveOrdered = 19
kind_number kind.Voucher = 20
kind_number kind.Mark = 21

abbrev pub kinds : List Kind
kinds =
    kind.Update ∷ kind.PoRequest ∷ kind.PoAck ∷ kind.PoSummary ∷ kind.PrePrepare ∷ kind.Prepare ∷ kind.Commit
    ∷ kind.Ping ∷ kind.Pong ∷ kind.Rtt ∷ kind.TatReport ∷ kind.TatBound ∷ kind.Suspect ∷ kind.Report
    ∷ kind.NewView ∷ kind.AskUpdate ∷ kind.Give ∷ kind.AskOrder ∷ kind.GiveOrdered ∷ kind.Voucher ∷ kind.Mark ∷ []

-- the kind that has a name
unfoldable pub kind_named : List ℕ → Option Kind
kind_named name = find (λ k. bytes_eq (kind_name k) name) kinds
