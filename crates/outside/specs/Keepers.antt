-- Kept entries, and keepers in memory.
use Rattle.std.specs.Prelude.{◌≡◌, ℕ, ◌⊎◌, List, [], ◌∷◌, ◌++◌, map, Option, None, Some, Bool, true, false, Result}
use Rattle.std.specs.Prelude.{Ok, Err, IfSome, nat_eq}
use Rattle.std.specs.List.{list_any}
use Rattle.std.specs.declared.vec.Vec.{Vec}
use Rattle.std.specs.declared.alloc.Global.{Global}
use Rattle.outside.specs.Shelf.{next_call}
use Rattle.outside.specs.declared.keepers.KeepAnswer.{KeepAnswer}
use Rattle.outside.specs.declared.keepers.KeepAnswer.TheVariants as answer

-- A vector of vectors as a list of lists.
abbrev pub lists_of : List (Vec ℕ Global) → List (List ℕ)
lists_of entries = map (λ entry. entry.items) entries

-- The entries kept so far and then this one, where a keeper tells its entries.
abbrev pub with_entry : Option (List (List ℕ)) → List ℕ → Option (List (List ℕ))
with_entry None entry = None
with_entry (Some entries) entry = Some (entries ++ entry ∷ [])

-- What an append does to the entries that a keeper tells: the new one stands at the end after Ok, may stand there after
-- a fault, and isn't there where there was no memory.
abbrev pub AppendGives : Option (List (List ℕ)) → List ℕ → Result (Unit {0}) KeepAnswer →
    Option (List (List ℕ)) → Type 0
AppendGives before entry (Ok _) after = after ≡ with_entry before entry
AppendGives before entry (Err answer.Failed) after = (after ≡ before) ⊎ (after ≡ with_entry before entry)
AppendGives before entry (Err answer.Want) after = after ≡ before

-- A reading gives all entries that a keeper tells, in order.
abbrev pub EntriesGive : Option (List (List ℕ)) → Result (Vec (Vec ℕ Global) Global) KeepAnswer → Type 0
EntriesGive kept (Ok given) = IfSome kept (λ entries. lists_of given.items ≡ entries)
EntriesGive kept (Err _) = Unit {0}

-- The count of faults rises only where a fault is answered.
abbrev pub KeepCounts : {V : Type 0} → Result V KeepAnswer → ℕ → ℕ → Type 0
KeepCounts (Ok _) before after = after ≡ before
KeepCounts (Err answer.Failed) before after = Unit {0}
KeepCounts (Err answer.Want) before after = after ≡ before

-- A keeper in memory: its entries, which of its calls are to fail (appends and readings counted together, from 1), how
-- many calls there were, and how many failed.
pub record Binder : Type 0 where
  pub entries : List (List ℕ)
  pub failing : List ℕ
  pub calls : ℕ
  pub faults : ℕ

-- Whether the next call is to fail.
abbrev pub call_fails : Binder → Bool
call_fails binder = list_any (nat_eq (next_call binder.calls)) binder.failing

-- What every call does to the counts where memory was there: it counts, and a listed one fails.
abbrev pub after_call : Binder → Binder
after_call binder = record binder { calls = next_call binder.calls }

abbrev pub after_fault : Binder → Binder
after_fault binder = record binder { calls = next_call binder.calls; faults = next_call binder.faults }

-- An append fails exactly where its call is listed, and then keeps nothing.
abbrev pub BinderAppends : Binder → List ℕ → Result (Unit {0}) KeepAnswer → Binder → Type 0
BinderAppends before entry (Ok _) after =
    (call_fails before ≡ false) × (after ≡ record (after_call before) { entries = before.entries ++ entry ∷ [] })
BinderAppends before entry (Err answer.Failed) after = (call_fails before ≡ true) × (after ≡ after_fault before)
BinderAppends before entry (Err answer.Want) after = after ≡ before

-- A reading fails exactly where its call is listed. It leaves the entries as they are.
abbrev pub BinderReads : Binder → Result (Vec (Vec ℕ Global) Global) KeepAnswer → Binder → Type 0
BinderReads before (Ok given) after = (call_fails before ≡ false) × (lists_of given.items ≡ before.entries)
    × (after ≡ after_call before)
BinderReads before (Err answer.Failed) after = (call_fails before ≡ true) × (after ≡ after_fault before)
BinderReads before (Err answer.Want) after = after ≡ before
