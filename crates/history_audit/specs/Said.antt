-- The words that actors said, kept by what tells most of them apart at once.
use Rattle.std.specs.Prelude.{◌≡◌, ℕ, ◌+◌, ◌%◌, ◌^◌, Bool, ◌&&◌, List, [], Option, Some, None, fold, map, nat_eq}
use Rattle.std.specs.Borrow.{Bor}
use Rattle.std.specs.List.{list_any, flat_map}
use Rattle.std.specs.declared.alloc.Global.{Global}
use Rattle.std.specs.declared.vec.Vec.{Vec}
use Rattle.std.specs.HashMap.{HashMap}
use Rattle.std.specs.declared.hash.FoldHasher.{FoldHasher}
use Rattle.std.specs.declared.hash.BuildHasherDefault.{BuildHasherDefault}
use Rattle.indexmap.specs.IndexMap.{get}
use Rattle.message_types.specs.declared.body.Body.{Body}
use Rattle.message_types.specs.declared.body.Body.TheVariants as body
use Rattle.history_rules.specs.Events.{Entry}
use Rattle.history_rules.specs.Sameness.{is_same_body}
use Rattle.protocol_rules.specs.Keys.{Key, same_key}

-- the sum of a list of numbers, in 64 bits
abbrev pub sum_of : List ℕ → ℕ
sum_of numbers = fold (λ sum x. (sum + x) % 2 ^ 64) 0 numbers

-- a body's kind and two of its numbers
abbrev pub mark_of : Body → ℕ × ℕ × ℕ
mark_of (body.Update b) = (1, b.client, b.t)
mark_of (body.PoRequest b) = (2, b.k, 0)
mark_of (body.PoAck b) = (3, b.j, b.k)
mark_of (body.PoSummary b) = (4, sum_of b.numbers, 0)
mark_of (body.PrePrepare b) = (5, b.v, b.s)
mark_of (body.Prepare b) = (6, b.v, b.s)
mark_of (body.Commit b) = (7, b.v, b.s)
mark_of (body.Ping b) = (8, b.number, 0)
mark_of (body.Pong b) = (9, b.to, b.number)
mark_of (body.Rtt b) = (10, b.to, b.number)
mark_of (body.TatReport b) = (11, b.v, b.ticks)
mark_of (body.TatBound b) = (12, b.v, b.ticks)
mark_of (body.Suspect b) = (13, b.v, 0)
mark_of (body.Report b) = (14, b.v, b.base)
mark_of (body.NewView b) = (15, b.v, 0)
mark_of (body.AskUpdate b) = (16, b.j, b.k)
mark_of (body.Give b) = (17, b.request.signer, b.request.body.k)
mark_of (body.AskOrder b) = (18, b.s, 0)
mark_of (body.GiveOrdered b) = (19, b.s, b.v)
mark_of (body.Voucher b) = (20, b.client, b.number)
mark_of (body.Mark b) = (21, b.s, 0)

-- what an actor's word is kept under: words that are the same have the same key
abbrev pub key_of : ℕ → Body → Key
key_of actor b = let mark = mark_of b in (actor, mark.0, mark.1, mark.2)

-- a map from keys to the bodies kept under them
abbrev pub WordMap : Type 0
WordMap = HashMap Key (Vec (Bor Body) Global) (BuildHasherDefault FoldHasher)

abbrev pub lent : Option (Vec (Bor Body) Global) → List Body
lent None = []
lent (Some bodies) = map (λ b. b.now) bodies.items

-- the bodies kept under a key
abbrev pub bodies_at : WordMap → Key → List Body
bodies_at words key = lent (get same_key words key)

-- the words of entries: who said what
abbrev pub words_said : List Entry → List (ℕ × Body)
words_said entries = flat_map (λ e. map (λ b. (e.actor, b)) e.said) entries

-- the actor's body is one of these words
abbrev pub was_said : List (ℕ × Body) → ℕ → Body → Bool
was_said words actor b = list_any (λ w. nat_eq w.0 actor && is_same_body b w.1) words

-- Of these words the map answers whether one was said, by the few bodies under one key.
abbrev pub HasWords : List (ℕ × Body) → WordMap → Type 0
HasWords words kept = (actor : ℕ) (b : Body) →
    list_any (is_same_body b) (bodies_at kept (key_of actor b)) ≡ was_said words actor b
