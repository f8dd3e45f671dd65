-- A station that begins with what its file's lines tell is ready, and just these lines are kept of it.
use Rattle.std.proofs.Common.{◌≡◌, ℕ, ◌<◌, ◌≤◌, ◌^◌, Bool, true, false, List, [], ◌∷◌, Option, Some, None, Result}
use Rattle.std.proofs.Common.{Ok, Err, IfOk, IfSome}
use Rattle.std.proofs.Common.{length, refl, sym, ◌∙◌, ap, subst, arith, inl, inr}
use Rattle.std.proofs.lemmas.Bool.{false≢true}
use Rattle.std.specs.Prelude.{◌==◌, ◌↔◌, if◌then◌else◌, is_some, IsSome}
use Rattle.plain_lists.specs.declared.want.Want.{Want}
use Rattle.outside.specs.declared.files.LoadAnswer.{LoadAnswer}
use Rattle.outside.specs.declared.files.LoadAnswer.TheVariants as load
use Rattle.history_rules.specs.Events.{Entry}
use Rattle.joint_lists.specs.Stations.{IsStation}
use Rattle.kept_lines.specs.Lines.{kept_file}
use Rattle.kept_lines.specs.declared.refusal.KeptRefusal.{KeptRefusal}
use Rattle.kept_lines.specs.declared.refusal.KeptRefusal.TheVariants as kept
use Rattle.kept_lines.specs.Reading.{kept_in, Refuses}
use Rattle.printed_history.proofs.AtHand.{begun_own}
use Rattle.printed_history.specs.declared.reading.SoFar.{SoFar}
use Rattle.printed_history.specs.Reading.{IsBegun, IsSoFar, contents_in, is_among, is_at_hand}
use Rattle.scenario_file.specs.Reading.{Contents}
use Rattle.script_grammar.specs.Names.{is_correct, who_of}
use Rattle.station_files.specs.Held.{Held, RecoverGives, without_torn}
use Rattle.station_files.specs.WholeLines.{before_lines, whole_lines}
use Rattle.world_rules.specs.Scenarios.{HasKey, actors_in}
use Rattle.stations.specs.declared.station.Station.{Station}
use Rattle.std.specs.declared.alloc.Global.{Global}
use Rattle.std.specs.declared.vec.Vec.{Vec}
use Rattle.stations.specs.declared.beginning.BeginRefusal.{BeginRefusal}
use Rattle.stations.specs.declared.beginning.BeginRefusal.TheVariants as refusal
use Rattle.stations.specs.Beginning.{BeginsWith, HasItsLines, HoldsAll, IsHeldWhole, TellsKey, TellsWant, not_loaded}
use Rattle.stations.specs.Beginning.{not_read}
use Rattle.stations.specs.Station.{IsReady, list_of}
use Rattle.stations.specs.Taken.{AreTaken}
use Rattle.stations.proofs.Reading.{text_is}

-- the text is what is kept
pub begun_kept : (c : Contents) (actor : ℕ) (so_far : SoFar) (text bytes : List ℕ) → whole_lines text ≡ text →
    bytes ≡ text → kept_in c actor bytes ≡ Ok so_far.history → text ≡ kept_file c so_far.history
begun_kept c actor so_far text bytes whole same read =
    text_is c actor text so_far.history whole (ap (kept_in c actor) (sym same) ∙ read)

pub begun_ready : (c : Contents) (actor : ℕ) (so_far : SoFar) (text : List ℕ) (s : Station) →
    text ≡ kept_file c so_far.history → length text ≤ 4294967295 → IsSoFar so_far → contents_in so_far ≡ c →
    is_at_hand so_far actor ≡ true → HasKey c actor → IsStation c actor so_far.history → actor < actors_in c →
    is_correct (who_of c) actor ≡ true →
    s.so_far ≡ so_far → s.actor ≡ actor → s.size ≡ length text → AreTaken so_far.history s.taken → IsReady s
begun_ready c actor so_far text s kept room hand same own key station there correct far actor_is size taken = record {
  at_hand = subst IsSoFar (sym far) hand;
  own = (λ i. is_at_hand (far i) (actor_is i)) ∙ own;
  key =
      subst (λ (x : SoFar). HasKey (contents_in x) s.actor) (sym far)
      (subst (λ (k : Contents). HasKey k s.actor) (sym same) (subst (HasKey c) (sym actor_is) key));
  station =
      subst (λ (x : SoFar). IsStation (contents_in x) s.actor x.history) (sym far)
      (subst (λ (a : ℕ). IsStation (contents_in so_far) a so_far.history) (sym actor_is)
      (subst (λ (k : Contents). IsStation k actor so_far.history) (sym same) station));
  there =
      subst (λ (x : SoFar). s.actor < actors_in (contents_in x)) (sym far)
      (subst (λ (k : Contents). s.actor < actors_in k) (sym same)
      (subst (λ (a : ℕ). a < actors_in c) (sym actor_is) there));
  correct =
      (λ i. is_correct (who_of (contents_in (far i))) (actor_is i))
      ∙ ap (λ (k : Contents). is_correct (who_of k) actor) same ∙ correct;
  taken = subst (λ (x : SoFar). AreTaken x.history s.taken) (sym far) taken;
  size =
      size ∙ ap length kept
      ∙ ap (λ (k : Contents). length (kept_file k so_far.history)) (sym same)
      ∙ ap (λ (x : SoFar). length (kept_file (contents_in x) x.history)) (sym far);
  room = omega (arith, size, room);
}

-- what its file holds then is all that is kept of it
holds_whole : (c : Contents) (list : List Entry) (before after : Option Held) → HoldsAll c list before after →
    IsHeldWhole c list after
holds_whole c list before None holds = tt
holds_whole c list None (Some now) holds = absurd (none holds)
  where
    none : Some now ≡ None → ⊥
    none e = cc
holds_whole c list (Some held) (Some now) holds = holds

pub begun_whole : (c : Contents) (so_far : SoFar) (s : Station) (before after : Option Held) →
    HoldsAll c so_far.history before after → contents_in so_far ≡ c → s.so_far ≡ so_far →
    IsHeldWhole (contents_in s.so_far) (list_of s) after
begun_whole c so_far s before after holds same far =
    subst (λ (x : SoFar). IsHeldWhole (contents_in x) x.history after) (sym far)
    (subst (λ (k : Contents). IsHeldWhole k so_far.history after) (sym same)
    (holds_whole c so_far.history before after holds))

-- ---- Before the file.

-- what was begun, where something was
pub begun_so : (c : Contents) (actor : ℕ) (found : Option SoFar) (begun : SoFar) → found ≡ Some begun →
    IfSome found (IsBegun c (Some actor)) → IsBegun c (Some actor) begun
begun_so c actor found begun is all = subst (λ (o : Option SoFar). IfSome o (IsBegun c (Some actor))) is all

-- the actor has its key then, and hasn't where nothing was begun
pub begun_key : (c : Contents) (actor : ℕ) (found : Option SoFar) (begun : SoFar) → found ≡ Some begun →
    IsSome found ↔ HasKey c actor → HasKey c actor
begun_key c actor found begun is told = told.0 (ap is_some is)

pub other_key : (c : Contents) (actor : ℕ) (found : Option SoFar) → found ≡ None → IsSome found ↔ HasKey c actor →
    HasKey c actor → ⊥
other_key c actor found none told has = false≢true (sym (ap is_some none) ∙ told.1 has)

-- something was begun exactly where the actor has its key
abbrev pub HasBegun : Result (Option SoFar) Want → Contents → ℕ → Type 0
HasBegun told c actor = IfOk told (λ found. IsSome found ↔ HasKey c actor)

-- What was read into it, of the scenario as it is known.
pub record IsRead (c : Contents) (actor : ℕ) (bytes : List ℕ) (so_far : SoFar) : Type 0 where
  pub is_so_far : IsSoFar so_far
  pub same : contents_in so_far ≡ c
  pub own : is_at_hand so_far actor ≡ true
  pub list : kept_in c actor bytes ≡ Ok so_far.history
  pub station : IsStation c actor so_far.history

pub read_into : (c : Contents) (actor : ℕ) (bytes : List ℕ) (begun so_far : SoFar) → IsBegun c (Some actor) begun →
    kept_in (contents_in begun) actor bytes ≡ Ok so_far.history →
    IsSoFar so_far × (contents_in so_far ≡ contents_in begun) × (so_far.only ≡ begun.only) →
    IsStation (contents_in begun) actor so_far.history → IsRead c actor bytes so_far
read_into c actor bytes begun so_far first list hand station = record {
  is_so_far = hand.0;
  same = hand.1 ∙ first.same;
  own = ap (λ (only : Option ℕ). is_among only actor) hand.2 ∙ begun_own c actor begun first;
  list = ap (λ (k : Contents). kept_in k actor bytes) (sym first.same) ∙ list;
  station = subst (λ (k : Contents). IsStation k actor so_far.history) first.same station;
}

-- refusals that aren't the file's
pub want_so : (c : Contents) (actor : ℕ) (before : Option Held) →
    IfSome before (λ h. BeginsWith c actor h.bytes (Err refusal.Want))
want_so c actor None = tt
want_so c actor (Some h) = tt

pub other_so : (c : Contents) (actor : ℕ) (before : Option Held) →
    IfSome before (λ h. BeginsWith c actor h.bytes (Err refusal.OtherKey))
other_so c actor None = tt
other_so c actor (Some h) = tt

-- and those that are, of an actor that has its key
pub loaded_key : (c : Contents) (actor : ℕ) (e : LoadAnswer) → HasKey c actor → TellsKey c actor (Err (not_loaded e))
loaded_key c actor load.Want has = tt
loaded_key c actor load.Failed has = has
loaded_key c actor load.TooLong has = has

pub loaded_no_other : (e : LoadAnswer) → not_loaded e ≡ refusal.OtherKey → ⊥
loaded_no_other load.Want is = cc
loaded_no_other load.Failed is = cc
loaded_no_other load.TooLong is = cc

pub read_key : (c : Contents) (actor : ℕ) (e : KeptRefusal) → HasKey c actor → TellsKey c actor (Err (not_read e))
read_key c actor (kept.BadLine line) has = has
read_key c actor (kept.NotLegal stamp) has = has
read_key c actor (kept.OtherWords stamp) has = has
read_key c actor kept.Want has = tt

pub read_no_other : (e : KeptRefusal) → not_read e ≡ refusal.OtherKey → ⊥
read_no_other (kept.BadLine line) is = cc
read_no_other (kept.NotLegal stamp) is = cc
read_no_other (kept.OtherWords stamp) is = cc
read_no_other kept.Want is = cc

pub lines_same : (held : Option Held) → HasItsLines held held
lines_same None = refl
lines_same (Some h) = refl

-- ---- What the file has.

-- its list is what the whole lines tell
pub begun_read : (c : Contents) (actor room : ℕ) (before after : Option Held) (text : Vec ℕ Global) (bytes : List ℕ)
    (list : List Entry) → RecoverGives before room (Ok text) after → bytes ≡ text.items →
    kept_in c actor bytes ≡ Ok list → IfSome before (λ h. BeginsWith c actor h.bytes (Ok list))
begun_read c actor room None after text bytes list gives same read = tt
begun_read c actor room (Some h) after text bytes list gives same read =
    ap (kept_in c actor) (sym (same ∙ gives.0)) ∙ read

-- where the file couldn't be loaded
pub loaded_so : (c : Contents) (actor : ℕ) (before after : Option Held) (e : LoadAnswer) →
    RecoverGives before 4294967295 (Err e) after → IfSome before (λ h. BeginsWith c actor h.bytes (Err (not_loaded e)))
loaded_so c actor None after e gives = tt
loaded_so c actor (Some h) after load.Want gives = tt
loaded_so c actor (Some h) after load.Failed gives = tt
loaded_so c actor (Some h) after load.TooLong gives =
    let long : 2 ^ 32 ≤ length h.bytes = omega (arith, gives.0) in
    long

pub loaded_wants : (e : LoadAnswer) → TellsWant (not_loaded e)
loaded_wants load.Want = tt
loaded_wants load.Failed = tt
loaded_wants load.TooLong = tt

-- where its lines aren't a station's
pub refused_so : (c : Contents) (actor : ℕ) (bytes : List ℕ) (e : KeptRefusal) →
    Refuses e (kept_in c actor (whole_lines bytes)) → BeginsWith c actor bytes (Err (not_read e))
refused_so c actor bytes (kept.BadLine line) refused = refused
refused_so c actor bytes (kept.NotLegal stamp) refused = refused
refused_so c actor bytes (kept.OtherWords stamp) refused = refused
refused_so c actor bytes kept.Want refused = tt

pub refused_whole : (c : Contents) (actor room : ℕ) (before after : Option Held) (text : Vec ℕ Global) (bytes : List ℕ)
    (e : KeptRefusal) → RecoverGives before room (Ok text) after → bytes ≡ text.items →
    Refuses e (kept_in c actor bytes) → IfSome before (λ h. BeginsWith c actor h.bytes (Err (not_read e)))
refused_whole c actor room None after text bytes e gives same refused = tt
refused_whole c actor room (Some h) after text bytes e gives same refused =
    refused_so c actor h.bytes e (subst (λ (bs : List ℕ). Refuses e (kept_in c actor bs)) (same ∙ gives.0) refused)

-- a fault of the file is told as one, and nothing else is
pub same_refusal : (x y : BeginRefusal) (r : Result Station BeginRefusal) → r ≡ Err x → r ≡ Err y → x ≡ y
same_refusal x y r one other = cc

pub loaded_failed : (e : LoadAnswer) → not_loaded e ≡ refusal.NotLoaded load.Failed → e ≡ load.Failed
loaded_failed load.Failed is = refl
loaded_failed load.Want is = absurd (cc)
loaded_failed load.TooLong is = absurd (cc)

pub read_failed : (e : KeptRefusal) → not_read e ≡ refusal.NotLoaded load.Failed → ⊥
read_failed (kept.BadLine line) is = cc
read_failed (kept.NotLegal stamp) is = cc
read_failed (kept.OtherWords stamp) is = cc
read_failed kept.Want is = cc

pub refused_wants : (e : KeptRefusal) → TellsWant (not_read e)
refused_wants (kept.BadLine line) = tt
refused_wants (kept.NotLegal stamp) = tt
refused_wants (kept.OtherWords stamp) = tt
refused_wants kept.Want = tt

-- whole lines have no torn line behind them
lines_of_lines : (b : ℕ) (lines : List ℕ) → whole_lines lines ≡ lines →
    whole_lines (before_lines b lines) ≡ before_lines b lines
lines_of_lines b [] same = by (b == 10) refl
  where
    by : (ends : Bool) → (b == 10) ≡ ends → whole_lines (before_lines b []) ≡ before_lines b []
    by true is =
        subst (λ (t : Bool). whole_lines (if t then b ∷ [] else []) ≡ (if t then b ∷ [] else [])) (sym is)
        (ap (λ (t : Bool). if t then b ∷ [] else []) is)
    by false is =
        subst (λ (t : Bool). whole_lines (if t then b ∷ [] else []) ≡ (if t then b ∷ [] else [])) (sym is) refl
lines_of_lines b (x ∷ more) same = ap (before_lines b) same

lines_stay : (bytes : List ℕ) → whole_lines (whole_lines bytes) ≡ whole_lines bytes
lines_stay [] = refl
lines_stay (b ∷ rest) = lines_of_lines b (whole_lines rest) (lines_stay rest)

-- a file that wasn't recovered has its lines still
pub unloaded_lines : (room : ℕ) (before after : Option Held) (e : LoadAnswer) → RecoverGives before room (Err e) after →
    HasItsLines before after
unloaded_lines room None after e gives = gives
unloaded_lines room (Some h) None load.Want gives = absurd (cc)
unloaded_lines room (Some h) None load.TooLong gives = absurd (cc)
unloaded_lines room (Some h) None load.Failed (inl same) = absurd (cc)
unloaded_lines room (Some h) None load.Failed (inr cut) = absurd (cc)
unloaded_lines room (Some h) (Some now) load.Want gives =
    let its : now ≡ h = cc in
    ap (λ (x : Held). whole_lines x.bytes) its
unloaded_lines room (Some h) (Some now) load.TooLong gives =
    let its : now ≡ h = cc in
    ap (λ (x : Held). whole_lines x.bytes) its
unloaded_lines room (Some h) (Some now) load.Failed (inl same) =
    let its : now ≡ h = cc in
    ap (λ (x : Held). whole_lines x.bytes) its
unloaded_lines room (Some h) (Some now) load.Failed (inr cut) =
    let its : now ≡ without_torn h = cc in
    ap (λ (x : Held). whole_lines x.bytes) its ∙ lines_stay h.bytes

-- and so has one that was
pub loaded_lines : (room : ℕ) (before after : Option Held) (text : Vec ℕ Global) → RecoverGives before room (Ok text) after →
    HasItsLines before after
loaded_lines room None after text gives = gives
loaded_lines room (Some h) None text gives = absurd (cc)
loaded_lines room (Some h) (Some now) text gives =
    let its : now ≡ record { bytes = whole_lines h.bytes; durable = length (whole_lines h.bytes) } = cc in
    ap (λ (x : Held). whole_lines x.bytes) its ∙ lines_stay h.bytes
