-- Lists of entries as they grow.
use Rattle.std.proofs.Common.{◌≡◌, ℕ, Bool, true, false, cond, List, [], take, nat_lt, sym}
use Rattle.std.proofs.Common.{subst, inl, inr, ◌⊎◌}
use Rattle.std.proofs.lemmas.Bool.{false≢true, lt-ltb}
use Rattle.std.proofs.Math.Seq.{take-nil}
use Rattle.message_types.specs.declared.body.Body.{Body}
use Rattle.history_rules.specs.Events.{Entry}
use Rattle.history_rules.specs.Setup.{Setup, room}
use Rattle.history_rules.specs.Keeping.{is_halted}
use Rattle.history_rules.specs.Legal.{Stands, says_in, master_says}
use Rattle.history_laws.specs.Own.{IsOwnEntry}
use Rattle.history_laws.proofs.EntryByEntry.{last_or_before, nothing_stands}
use Rattle.history_laws.specs.BenchLists.{AddsEntry}
use Rattle.history_laws.specs.OwnLists.{NoneIsBenchList, OneMoreIsBenchList, OwnHistoryIsBenchList, UnhaltedIsOwnHistory}
use Rattle.history_laws.specs.OwnLists.{IntrudedSayNothing}

pub none_is_bench_list : NoneIsBenchList
none_is_bench_list w actor = record { entries = λ before e s. absurd (nothing_stands s) }

pub one_more_is_bench_list : OneMoreIsBenchList
one_more_is_bench_list w actor list e is adds = record { entries = λ before x s. at before x (last_or_before s) }
  where
    at : (before : List Entry) (x : Entry) → ((before ≡ list) × (x ≡ e)) ⊎ Stands list before x →
        AddsEntry w actor before x
    at before x (inl last) = subst (λ (b : List Entry). AddsEntry w actor b x) (sym last.0)
        (subst (λ (y : Entry). AddsEntry w actor list y) (sym last.1) adds)
    at before x (inr s) = is.entries before x s

adds_of_own : (w : Setup) (actor : ℕ) (before : List Entry) (e : Entry) → IsOwnEntry w actor before e →
    AddsEntry w actor before e
adds_of_own w actor before e may =
    record { by = may.by; later = may.later; role = may.role; taken = may.taken; said = may.said }

own_of_adds : (w : Setup) (actor : ℕ) (before : List Entry) (e : Entry) → AddsEntry w actor before e →
    is_halted w actor before ≡ false → IsOwnEntry w actor before e
own_of_adds w actor before e adds running = record {
  by = adds.by;
  later = adds.later;
  running = running;
  role =
      adds.role;
  taken = adds.taken;
  said = adds.said;
}

pub own_history_is_bench_list : OwnHistoryIsBenchList
own_history_is_bench_list w actor list is =
    record { entries = λ before e s. adds_of_own w actor before e (is.entries before e s) }

pub unhalted_is_own_history : UnhaltedIsOwnHistory
unhalted_is_own_history w actor list is running =
    record { entries = λ before e s. own_of_adds w actor before e (is.entries before e s) (running before e s) }

nothing_of : (r : ℕ) (a x : Bool) (due other : List Body) → a ≡ true → x ≡ true →
    take r (cond a (cond x [] due) other) ≡ []
nothing_of r true true due other in_group intruded = take-nil r
nothing_of r true false due other in_group intruded = absurd (false≢true intruded)
nothing_of r false x due other in_group intruded = absurd (false≢true in_group)

pub intruded_say_nothing : IntrudedSayNothing
unfolding says_in
intruded_say_nothing w actor list event low intruded =
    nothing_of (room w list) (nat_lt actor w.group.n) (w.intruded actor) (master_says w actor list event)
    (w.client_says actor list event) (lt-ltb actor w.group.n low) intruded
