-- One actor's next entry behind those joined so far.
use Rattle.std.proofs.Common.{◌≡◌, ℕ, ◌+◌, ◌<◌, ◌≤◌, List, [], ◌∷◌, ◌++◌, length, map, get_or, set, take}
use Rattle.std.proofs.Common.{inl, inr, ◌⊎◌, append-nil, refl, sym, ◌∙◌, ap, subst, arith, get_or-set_same}
use Rattle.std.proofs.Common.{get_or-set_other}
use Rattle.std.proofs.lemmas.Bool.{cases_eq}
use Rattle.std.proofs.lemmas.List.{length-map, length-set, map-append, take_all}
use Rattle.scenario_file.specs.Reading.{Contents}
use Rattle.agreement.proofs.KnownAsItGrows.{own-append, own_first, own_other, own_none}
use Rattle.history_rules.specs.Events.{Entry}
use Rattle.history_rules.specs.Setup.{own}
use Rattle.history_rules.specs.Keeping.{is_halted}
use Rattle.history_rules.specs.Legal.{says, Stands, IsLegalEntry, IsLegal}
use Rattle.history_rules.proofs.Entries.{own_fewer}
use Rattle.intruder_words.proofs.Walks.{take-next}
use Rattle.world_rules.specs.Scenarios.{setup_of}
use Rattle.joint_lists.specs.Plain.{plain, AreTheSame}
use Rattle.joint_lists.specs.Joint.{AreStations, IsJoint, kept_by}
use Rattle.joint_lists.specs.Joining.{placed, joined_entry, HasJoined}
use Rattle.joint_lists.specs.Laws.{GoByTheSame, NextMayJoin}
use Rattle.joint_lists.proofs.Same.{same_entries_go_the_same}
use Rattle.joint_lists.proofs.NextKept.{IsNext, next_kept, stands_at, placed_plain, placed_well}

-- no fewer entries stand before it than before it was kept
long_before : (history : List Entry) (actor : ℕ) (before : List Entry) → AreTheSame (own history actor) before →
    length before ≤ length history
long_before history actor before same =
    let many : length (own history actor) ≡ length before = sym (length-map (own history actor) plain) ∙ ap length same
    ∙ length-map before plain in
    let fewer : length (own history actor) ≤ length history = own_fewer history actor in
    omega arith

pub next_may_join : NextMayJoin
next_may_join c actor history list before e stamp place is s same low =
    let next : IsNext (setup_of c) actor before e = next_kept c actor list before e is s in
    let by : e.actor ≡ actor = next.own_entry.by in
    let go : GoByTheSame c actor (own history actor) before =
    same_entries_go_the_same c actor (own history actor) before same in
    let many : length before ≤ length history = long_before history actor before same in
    let now : e.stamp ≡ length before = next.now in
    record {
      stamp = refl;
      actor = next.there;
      running = ap (λ (a : ℕ). is_halted (setup_of c) a (own history a)) by ∙ go.halted ∙ next.own_entry.running;
      role = ap (λ (a : ℕ). (setup_of c).fits a (placed stamp place e.event)) by
          ∙ go.roles (placed stamp place e.event) e.event (placed_plain stamp place e.event) ∙ next.own_entry.role;
      taken = placed_well (setup_of c) (length history) e.stamp stamp place e.event next.own_entry.taken (omega arith) low;
      said = next.own_entry.said
          ∙ sym (go.words (placed stamp place e.event) e.event (placed_plain stamp place e.event))
          ∙ ap (λ (a : ℕ). says (setup_of c) history a (placed stamp place e.event)) (sym by);
    }

-- the actor's own entries are one more
own_more : (history after : List Entry) (e : Entry) (actor : ℕ) → after ≡ history ++ e ∷ [] → e.actor ≡ actor →
    own after actor ≡ own history actor ++ e ∷ []
own_more history after e actor longer its =
    ap (λ (es : List Entry). own es actor) longer ∙ own-append history (e ∷ []) actor
    ∙ ap (λ (es : List Entry). own history actor ++ es)
    (own_first e [] actor its ∙ ap (λ (es : List Entry). e ∷ es) (own_none actor))

-- those of others stay
own_stays : (history after : List Entry) (e : Entry) (other : ℕ) → after ≡ history ++ e ∷ [] → (e.actor ≡ other → ⊥) →
    own after other ≡ own history other
own_stays history after e other longer apart =
    ap (λ (es : List Entry). own es other) longer ∙ own-append history (e ∷ []) other
    ∙ ap (λ (es : List Entry). own history other ++ es) (own_other e [] other apart ∙ own_none other)
    ∙ append-nil (own history other)

pub joined_more : (kept : List (List Entry)) (next more : List ℕ) (history after : List Entry) (actor n : ℕ) (e x : Entry) →
    HasJoined kept next history → actor < length next → n ≡ get_or next actor 0 → n < length (kept_by kept actor) →
    x ≡ get_or (kept_by kept actor) n x → more ≡ set next actor (n + 1) → after ≡ history ++ e ∷ [] →
    e.actor ≡ actor → plain e ≡ plain x → HasJoined kept more after
joined_more kept next more history after actor n e x joined there is below at grown longer its same = record {
  all = ap length grown ∙ length-set next actor (n + 1) ∙ joined.all;
  each = λ b. by b (cases_eq b actor);
}
  where
    by : (b : ℕ) → (b ≡ actor) ⊎ (b ≡ actor → ⊥) →
        AreTheSame (own after b) (take (get_or more b 0) (kept_by kept b))
    by b (inl one) =
        let list : List Entry = kept_by kept actor in
        let now : get_or more actor 0 ≡ n + 1 =
        ap (λ (ns : List ℕ). get_or ns actor 0) grown ∙ get_or-set_same next actor (n + 1) 0 there in
        let here : AreTheSame (own after actor) (take (get_or more actor 0) list) =
        ap (map plain) (own_more history after e actor longer its)
        ∙ map-append plain (own history actor) (e ∷ [])
        ∙ (λ i. joined.each actor i ++ same i ∷ [])
        ∙ sym (map-append plain (take (get_or next actor 0) list) (x ∷ []))
        ∙ ap (λ (m : ℕ). map plain (take m list ++ x ∷ [])) (sym is)
        ∙ ap (map plain) (sym (take-next list n x below at))
        ∙ ap (λ (m : ℕ). map plain (take m list)) (sym now) in
        subst (λ (a : ℕ). AreTheSame (own after a) (take (get_or more a 0) (kept_by kept a))) (sym one) here
    by b (inr apart) =
        let stays : get_or more b 0 ≡ get_or next b 0 =
        ap (λ (ns : List ℕ). get_or ns b 0) grown ∙ get_or-set_other next actor b (n + 1) 0 apart in
        ap (map plain) (own_stays history after e b longer (λ (so : e.actor ≡ b). apart (sym so ∙ its)))
        ∙ joined.each b
        ∙ ap (λ (m : ℕ). map plain (take m (kept_by kept b))) (sym stays)

-- The entry `x` of an actor comes next behind what was joined.
pub record MayJoin (c : Contents) (history : List Entry) (actor stamp place : ℕ) (x : Entry) : Type 0 where
  pub by : x.actor ≡ actor
  pub legal : IsLegalEntry (setup_of c) history (joined_entry history stamp place x)

pub may_join : (c : Contents) (history : List Entry) (kept : List (List Entry)) (next : List ℕ)
    (actor n stamp place : ℕ) (x : Entry) → AreStations c kept → HasJoined kept next history → n ≡ get_or next actor 0 →
    n < length (kept_by kept actor) → x ≡ get_or (kept_by kept actor) n x →
    (0 < length history → stamp < length history) → MayJoin c history actor stamp place x
may_join c history kept next actor n stamp place x are joined is below at low =
    let list : List Entry = kept_by kept actor in
    let s : Stands list (take n list) x = stands_at list n x below at in
    record {
      by = (next_kept c actor list (take n list) x (are.each actor) s).own_entry.by;
      legal = next_may_join c actor history list (take n list) x stamp place (are.each actor) s
          (joined.each actor ∙ ap (λ (m : ℕ). map plain (take m list)) (sym is)) low;
    }

pub joined_plain : (history : List Entry) (stamp place : ℕ) (x : Entry) →
    plain (joined_entry history stamp place x) ≡ plain x
joined_plain history stamp place x = λ i. record {
  stamp = 0;
  actor = x.actor;
  event = placed_plain stamp place x.event i;
  said = x.said;
}

-- before the first entry nothing was joined
pub none_joined : (kept : List (List Entry)) (next : List ℕ) (history : List Entry) → history ≡ [] →
    length next ≡ length kept → ((actor : ℕ) → get_or next actor 0 ≡ 0) → HasJoined kept next history
none_joined kept next history none all zeros = record {
  all = all;
  each = λ a. ap (λ (es : List Entry). map plain (own es a)) none ∙ ap (map plain) (own_none a)
      ∙ ap (λ (n : ℕ). map plain (take n (kept_by kept a))) (sym (zeros a));
}

-- and where nothing is left the history joins all
pub all_joined : (c : Contents) (kept : List (List Entry)) (next : List ℕ) (history : List Entry) →
    IsLegal (setup_of c) history → HasJoined kept next history →
    ((actor : ℕ) → length (kept_by kept actor) ≤ get_or next actor 0) → IsJoint c kept history
all_joined c kept next history legal joined none = record {
  legal = legal;
  each = λ a. joined.each a ∙ ap (map plain) (take_all (get_or next a 0) (kept_by kept a) (none a));
}
