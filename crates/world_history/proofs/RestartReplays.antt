-- What a restart goes by: the actor is what is made anew from the bytes that its keeper has.
use Rattle.std.proofs.Common.{◌≡◌, ℕ, ◌+◌, ◌<◌, ◌^◌, Bool, true, false, List, length, nat_lt, sym, ◌∙◌, ap, subst}
use Rattle.std.proofs.Common.{arith}
use Rattle.std.specs.Prelude.{Option, Some, None, IfSome, is_some}
use Rattle.std.specs.List.{list_all}
use Rattle.std.specs.declared.vec.Vec.{Vec}
use Rattle.std.specs.declared.alloc.Global.{Global}
use Rattle.message_types.specs.declared.signed.Signed.{Signed}
use Rattle.message_types.specs.declared.body.Body.{Body}
use Rattle.outside.specs.Keepers.{Binder, lists_of}
use Rattle.scenario_file.specs.Reading.{Contents}
use Rattle.scenario_file.specs.Valid.{IsScenario}
use Rattle.history_rules.specs.Events.{Event, Restart, Entry}
use Rattle.history_rules.specs.Setup.{stands}
use Rattle.world_rules.specs.Scenarios.{setup_of, group_in}
use Rattle.entry_texts.specs.Texts.{entry_text}
use Rattle.entry_texts.specs.Fits.{FitsEntry}
use Rattle.world_history.specs.State.{BenchState, setup_in, with_entry}
use Rattle.world_history.specs.Lists.{IsKeptList, AreKept, texts_of, replayed, frames_of_last}
use Rattle.world_history.specs.Keeping.{Appended, HasRead}
use Rattle.world_history.specs.KeptState.{HasKeeper}
use Rattle.world_history.proofs.KeeperInStep.{had_of_goes}
use Rattle.world_history.proofs.KeptGrows.{CanCome, IsDone, fits_running, could_not_read, could_not_keep, restarted}

abbrev state : Contents → ℕ → List Entry → ℕ → Bool → BenchState
state c actor list signed spent = record { world = c; actor = actor; list = list; signed = signed; is_spent = spent }

-- What is read is what the actor is.
pub record IsReread (c : Contents) (b : BenchState) (k : Binder) : Type 0 where
  pub valid : IsScenario c
  pub there : b.actor < (group_in c).n + (group_in c).clients
  pub can : IsKeptList c b.actor b.list
  pub whole : b ≡ replayed c b.actor b.list
  pub kept : k.entries ≡ texts_of b.list

kept_list : (b : BenchState) (k : Binder) → HasKeeper b k false → length b.list < 2 ^ 32 →
    IsKeptList b.world b.actor b.list
kept_list b k has short = record {
  entries = has.entries;
  fits = fits_running (setup_in b) b.actor b.list (sym has.agrees) has.fits;
  short = omega arith;
}

pub is_reread : (c : Contents) (b : BenchState) (k : Binder) → HasKeeper b k false → c ≡ b.world →
    length b.list < 2 ^ 32 → IsReread c b k
is_reread c b k has same short = subst (λ (w : Contents). IsReread w b k) (sym same) (record {
  valid = has.scenario;
  there = has.there;
  can = kept_list b k has short;
  whole = ap (λ (n : ℕ). state b.world b.actor b.list n b.is_spent) has.unsigned
      ∙ ap (state b.world b.actor b.list 0) has.works;
  kept = (had_of_goes (setup_in b) b.actor b.list k (sym has.agrees) has.keeper).entries;
})

-- the entry comes to the actor that was made anew as it would have come to the one that it was
pub same_entry_added : (b read new : BenchState) (stamp : ℕ) (event : Event) → read ≡ b →
    new ≡ with_entry read stamp event → new ≡ with_entry b stamp event
same_entry_added b read new stamp event same added = added ∙ ap (λ (x : BenchState). with_entry x stamp event) same

pub restart_can_come : (b : BenchState) (stamp : ℕ) → (setup_in b).fits b.actor Restart ≡ true →
    list_all (λ (e : Entry). nat_lt e.stamp stamp) b.list ≡ true
    → length b.list < 2 ^ 32 → CanCome b stamp Restart
restart_can_come b stamp fits later short = record { fits = fits; later = later; taken = tt; short = short }

pub actor_there : (c : Contents) (actor own : ℕ) → actor ≡ own → own < (group_in c).n + (group_in c).clients →
    actor < (group_in c).n + (group_in c).clients
actor_there c actor own same there = subst (λ (a : ℕ). a < (group_in c).n + (group_in c).clients) (sym same) there

-- the bytes that were read are those of the actor's list
pub are_kept : (c : Contents) (actor : ℕ) (b : BenchState) (k : Binder) (given : List (Vec ℕ Global))
    (kept : List (List ℕ)) → actor ≡ b.actor
    → IsReread c b k → lists_of given ≡ k.entries → kept ≡ lists_of given → AreKept c actor kept
are_kept c actor b k given kept same read all is =
    subst (λ (a : ℕ). AreKept c a kept) (sym same)
    (record { list = b.list; can = read.can; are = is ∙ all ∙ read.kept })

-- the actor that is made anew is the one that was there
pub as_it_was : (c : Contents) (actor : ℕ) (b revived : BenchState) (k : Binder) (given : List (Vec ℕ Global))
    (kept : List (List ℕ)) → actor ≡ b.actor
    → IsReread c b k → lists_of given ≡ k.entries → kept ≡ lists_of given
    → ((list : List Entry) → IsKeptList c actor list → kept ≡ texts_of list → revived ≡ replayed c actor list) →
    revived ≡ b
as_it_was c actor b revived k given kept same read all is did =
    (subst (λ (a : ℕ). (list : List Entry) → IsKeptList c a list → kept ≡ texts_of list →
    revived ≡ replayed c a list) same did)
    b.list read.can (is ∙ all ∙ read.kept)
    ∙ sym read.whole

world_is : (c : Contents) (b : BenchState) (k : Binder) → IsReread c b k → c ≡ b.world
world_is c b k read = sym (ap (λ (x : BenchState). x.world) read.whole)

-- and so are the frames of its last entry
pub frames_as_they_were : (c : Contents) (actor : ℕ) (b : BenchState) (k : Binder) (given : List (Vec ℕ Global))
    (kept : List (List ℕ)) (frames : List (Signed Body))
    → actor ≡ b.actor → IsReread c b k → lists_of given ≡ k.entries → kept ≡ lists_of given
    → ((list : List Entry) → IsKeptList c actor list → kept ≡ texts_of list →
    frames ≡ frames_of_last (setup_of c) actor list)
    → frames ≡ frames_of_last (setup_in b) b.actor b.list
frames_as_they_were c actor b k given kept frames same read all is so =
    (subst (λ (a : ℕ). (list : List Entry) → IsKeptList c a list → kept ≡ texts_of list →
    frames ≡ frames_of_last (setup_of c) a list) same so)
    b.list read.can (is ∙ all ∙ read.kept)
    ∙ ap (λ (w : Contents). frames_of_last (setup_of w) b.actor b.list) (world_is c b k read)

pub stand_as_they_did : (c : Contents) (b : BenchState) (k : Binder) (frames : List (Signed Body)) → IsReread c b k
    → list_all (stands (setup_of c)) frames ≡ true → list_all (stands (setup_in b)) frames ≡ true
stand_as_they_did c b k frames read stand = subst (λ (w : Contents). list_all (stands (setup_of w)) frames ≡ true)
    (world_is c b k read) stand

-- the three ends of a restart

pub ends_unread : (b read new : BenchState) (k after : Binder) (stamp : ℕ)
    (given : Option (Vec (Signed Body) Global)) → HasKeeper b k false
    → CanCome b stamp Restart → read ≡ b → new ≡ with_entry read stamp Restart →
    HasRead k (is_some given) after → given ≡ None
    → IsDone b stamp Restart new after None
ends_unread b read new k after stamp given has can same added was none =
    could_not_read b new k after stamp has can (same_entry_added b read new stamp Restart same added)
    (subst (λ (o : Option (Vec (Signed Body) Global)). HasRead k (is_some o) after) none was)

pub ends_unkept : (b read new : BenchState) (k middle after : Binder) (stamp : ℕ)
    (given said : Option (Vec (Signed Body) Global)) (last : Vec (Signed Body) Global)
    → HasKeeper b k false → CanCome b stamp Restart → read ≡ b → new ≡ with_entry read stamp Restart →
    HasRead k (is_some given) middle → given ≡ Some last
    → Appended middle (entry_text stamp Restart) (is_some said) after → said ≡ None →
    IsDone b stamp Restart new after None
ends_unkept b read new k middle after stamp given said last has can same added was some kept none =
    could_not_keep b new k middle after stamp has can (same_entry_added b read new stamp Restart same added)
    (subst (λ (o : Option (Vec (Signed Body) Global)). HasRead k (is_some o) middle) some was)
    (subst (λ (o : Option (Vec (Signed Body) Global)). Appended middle (entry_text stamp Restart) (is_some o) after)
    none kept)

pub ends_well : (b read new : BenchState) (k middle after : Binder) (stamp : ℕ)
    (given said : Option (Vec (Signed Body) Global)) (last own : Vec (Signed Body) Global)
    → HasKeeper b k false → CanCome b stamp Restart → read ≡ b → new ≡ with_entry read stamp Restart →
    FitsEntry stamp Restart
    → HasRead k (is_some given) middle → given ≡ Some last →
    Appended middle (entry_text stamp Restart) (is_some said) after → said ≡ Some own
    → IfSome given (λ frames. frames.items ≡ frames_of_last (setup_in b) b.actor b.list)
    → IfSome given (λ frames. list_all (stands (setup_in b)) frames.items ≡ true) →
    IsDone b stamp Restart new after (Some last)
ends_well b read new k middle after stamp given said last own has can same added wide was
    some kept kept_some made stand =
    restarted b new k middle after stamp last has can (same_entry_added b read new stamp Restart same added) wide
    (subst (λ (o : Option (Vec (Signed Body) Global)). HasRead k (is_some o) middle) some was)
    (subst (λ (o : Option (Vec (Signed Body) Global)). Appended middle (entry_text stamp Restart) (is_some o) after)
    kept_some kept)
    (subst (λ (o : Option (Vec (Signed Body) Global)). IfSome o
    (λ frames. frames.items ≡ frames_of_last (setup_in b) b.actor b.list)) some made)
    (subst (λ (o : Option (Vec (Signed Body) Global)). IfSome o
    (λ frames. list_all (stands (setup_in b)) frames.items ≡ true)) some stand)
