-- What an intruded master is made to say: the body that a word is, by what its role knows, and the frame of that body,
-- signed with the next leaf of its key.
use Rattle.std.proofs.Common.{◌≡◌, ℕ, ◌+◌, ◌-◌, ◌^◌, ◌<◌, ◌≤◌, Bool, true, false, cond, ◌&&◌, not, nat_lt, List, []}
use Rattle.std.proofs.Common.{◌∷◌, length, map, get_or, slice_index_or, Option, Some, None, refl, sym, ◌∙◌, ap, subst}
use Rattle.std.proofs.Common.{arith}
use Rattle.std.specs.Prelude.{nat_eq}
use Rattle.std.specs.List.{list_all}
use Rattle.std.specs.Option.{option_map}
use Rattle.std.proofs.lemmas.Bool.{and_from, and_parts, false≢true, lt-ltb, eq-eqb, ne_eqb, eqb-false}
use Rattle.std.proofs.lemmas.Option.{none-some}
use Rattle.message_types.specs.declared.signed.Signed.{Signed}
use Rattle.message_types.specs.declared.body.Body.{Body}
use Rattle.message_types.specs.Texts.{body_text, frame_text}
use Rattle.message_types.specs.Spelling.{body_fits, signature_fits, has_spelling}
use Rattle.quorum_sets.specs.Masters.{has_master}
use Rattle.protocol_rules.specs.Group.{Group, group_of}
use Rattle.hash_signatures.specs.Signatures.{all_leaves}
use Rattle.hash_signatures.specs.State.{KeyUse, key_use}
use Rattle.checked_frames.specs.Entries.{group_size, groups_for, entry_signatures}
use Rattle.checked_frames.specs.Signing.{field_fits}
use Rattle.scenario_file.specs.declared.scenario.Scenario.{Scenario}
use Rattle.scenario_file.specs.Reading.{Contents, contents}
use Rattle.scenario_file.specs.Valid.{IsScenario}
use Rattle.history_rules.specs.Events.{Entry}
use Rattle.history_rules.specs.Setup.{is_correct, leaves_used}
use Rattle.play_words.specs.declared.words.Word.{Word}
use Rattle.play_words.specs.declared.words.Word.TheVariants as word
use Rattle.intruder_words.specs.Speaking.{body_of}
use Rattle.world_rules.specs.Frames.{overheard}
use Rattle.world_rules.specs.Scenarios.{setup_of, group_in, key_in, masters_in, proxies_in, shares_leaves}
use Rattle.world_rules.proofs.Fields.{setup_goes_by, group_is, leaves_of_all, key_levels, key_made, key_id}
use Rattle.world_rules.proofs.Signed.{CanBeMade, signed_upto, up_to_all, signature_is}
use Rattle.world_history.specs.Signed.{frames_with}
use Rattle.world_history.proofs.LeavesSuffice.{leaves_are_few, signed_by_signatures}
use Rattle.world_history.specs.declared.role.Role.{Role}
use Rattle.world_history.specs.declared.role.Role.TheVariants as role
use Rattle.world_history.specs.declared.seat.Seat.{Seat}
use Rattle.world_history.specs.Roles.{IsIntruded, IsRole}
use Rattle.world_history.specs.Seats.{IsReplay, IsSeated, world_in, list_in, state_of}
use Rattle.world_history.specs.State.{BenchState, setup_in, is_intruded_master, leaves_left, word_body, word_frame}
use Rattle.world_history.specs.State.{spoken, with_word, after_word}

-- An intruded master isn't correct, and its role is that of an intruded master.
incorrect : (c : Contents) (actor : ℕ) → actor < masters_in c → (setup_of c).intruded actor ≡ true →
    is_correct (setup_of c) actor ≡ false
incorrect c actor low intruded =
    ap (λ (x : Bool). not (x && (setup_of c).intruded actor)) (ap (λ (g : Group). nat_lt actor g.n) (group_is c)
    ∙ lt-ltb actor (masters_in c) low) ∙ ap not intruded

is_intruded_role : (c : Contents) (actor : ℕ) (own : List Entry) (r : Role) → IsRole c actor own r →
    actor < masters_in c → (setup_of c).intruded actor ≡ true
    → (known : List (Signed Body)) × (r ≡ role.Intruded known)
is_intruded_role c actor own (role.Master node) is low intruded =
    absurd (false≢true (sym (ap not intruded)
    ∙ (and_parts (nat_lt actor (setup_of c).group.n) (not ((setup_of c).intruded actor)) is.correct).1))
is_intruded_role c actor own (role.Intruded known) is low intruded = (known, refl)
is_intruded_role c actor own (role.Proxy front) (client, is, below, same) low intruded = absurd (omega arith)
is_intruded_role c actor own (role.Screen desk) (client, is, high, same) low intruded = absurd (omega arith)

pub other_role : (c : Contents) (actor : ℕ) (own : List Entry) (r : Role) {A : Type 0} → IsRole c actor own r →
    actor < masters_in c → (setup_of c).intruded actor ≡ true
    → ((known : List (Signed Body)) → r ≡ role.Intruded known → A) → A
other_role c actor own r is low intruded none = let found = is_intruded_role c actor own r is low intruded in
    none found.0 found.1

-- the frames that it knows are those of its list
knows_all : (c : Contents) (actor : ℕ) (own : List Entry) (r : Role) (known : List (Signed Body)) →
    IsRole c actor own r → r ≡ role.Intruded known → known ≡ overheard own
knows_all c actor own r known is kind =
    let here : IsIntruded (setup_of c) actor own known = subst (λ (x : Role). IsRole c actor own x) kind is in
    here.knows

-- What is left of its key.
pub left_is : (s : Seat) (left : ℕ) → IsSeated s → left ≡ all_leaves s.key.key - s.key.used →
    left ≡ leaves_left (state_of s)
left_is s left is tells =
    tells
    ∙ ap (λ (k : KeyUse). all_leaves k.key - k.used) is.key
    ∙ ap (λ (n : ℕ). n - (leaves_used (setup_of (world_in s)) (list_in s) + s.signed))
    (sym (leaves_of_all (world_in s) s.actor))

-- The body that a word is.
sizes_are : (s : Scenario) → group_of s.sizes (proxies_in (contents s) + s.screens) ≡ group_in (contents s)
sizes_are s = λ i. record {
  n = s.sizes.all i;
  f = s.sizes.f;
  k = s.sizes.k;
  q = s.sizes.quorum i;
  clients =
      proxies_in (contents s) + s.screens;
  rules = s.sizes.rules;
}

abbrev unless : Bool → Option Body → Option Body
unless none made = cond none None made

pub no_leaf : (s : Seat) (w : Word) (left : ℕ) → IsSeated s → left ≡ all_leaves s.key.key - s.key.used → left ≡ 0 →
    None ≡ word_body (state_of s) w
no_leaf s w left is tells none =
    sym (ap (λ (none : Bool). unless none (body_of (setup_in (state_of s)).group (overheard (list_in s)) w))
    (eq-eqb (leaves_left (state_of s)) 0 (sym (left_is s left is tells) ∙ none)))

pub body_is : (s : Seat) (w : Word) (known : List (Signed Body)) (left : ℕ) (made : Option Body) → IsSeated s →
    s.role ≡ role.Intruded known
    → left ≡ all_leaves s.key.key - s.key.used → (left ≡ 0 → ⊥) →
    ((clients : ℕ) → made ≡ body_of (group_of s.scenario.sizes clients) known w)
    → made ≡ word_body (state_of s) w
body_is s w known left made is kind tells some by =
    by (proxies_in (world_in s) + s.scenario.screens)
    ∙ ap (λ (g : Group). body_of g known w) (sizes_are s.scenario ∙ sym (group_is (world_in s)))
    ∙ ap (λ (k : List (Signed Body)). body_of (setup_of (world_in s)).group k w)
    (knows_all (world_in s) s.actor (list_in s) s.role known is.role kind)
    ∙ sym (ap (λ (none : Bool). unless none (body_of (setup_of (world_in s)).group (overheard (list_in s)) w))
    (ne_eqb (leaves_left (state_of s)) 0 (λ none. some (left_is s left is tells ∙ none))))

-- a word that is a body has a leaf to be signed with
pub has_leaf : (b : BenchState) (w : Word) (said : Body) → Some said ≡ word_body b w → 0 < leaves_left b
has_leaf b w said is = by (nat_eq (leaves_left b) 0) refl
  where
    by : (none : Bool) → nat_eq (leaves_left b) 0 ≡ none → 0 < leaves_left b
    by true none =
        absurd (none-some said (sym
        (is ∙ ap (λ (x : Bool). unless x (body_of (setup_in b).group (overheard b.list) w)) none)))
    by false some =
        let other = eqb-false (leaves_left b) 0 some in
        omega arith

-- Its frame.
one_group : (shared : Bool) → groups_for (group_size shared) 1 ≡ 1
one_group true = refl
one_group false = refl

group_of_one : (shared : Bool) (bodies : List Body) (said : Body) → bodies ≡ said ∷ [] →
    groups_for (group_size shared) (length bodies) ≡ 1
group_of_one shared bodies said one = ap (λ (bs : List Body). groups_for (group_size shared) (length bs)) one
    ∙ one_group shared

pub one_fits : (bodies : List Body) (said : Body) → bodies ≡ said ∷ [] → body_fits said ≡ true →
    list_all body_fits bodies ≡ true
one_fits bodies said one fits = ap (list_all body_fits) one ∙ and_from (body_fits said) true fits refl

pub leaf_there : (s : Seat) (bodies : List Body) (said : Body) → IsSeated s → 0 < leaves_left (state_of s) →
    bodies ≡ said ∷ []
    → s.key.used + groups_for (group_size (shares_leaves (world_in s))) (length bodies) ≤ all_leaves s.key.key
leaf_there s bodies said is left one =
    let some : 0 < (setup_of (world_in s)).leaves - (leaves_used (setup_of (world_in s)) (list_in s) + s.signed) =
    left in
    let used : s.key.used ≡ leaves_used (setup_of (world_in s)) (list_in s) + s.signed =
    ap (λ (k : KeyUse). k.used) is.key in
    let all : all_leaves s.key.key ≡ (setup_of (world_in s)).leaves = ap (λ (k : KeyUse). all_leaves k.key) is.key
    ∙ sym (leaves_of_all (world_in s) s.actor) in
    let group : groups_for (group_size (shares_leaves (world_in s))) (length bodies) ≡ 1 =
    group_of_one (shares_leaves (world_in s)) bodies said one in
    omega arith

-- the words signed are fewer than the leaves, so their count doesn't wrap
pub few_words : (s : Seat) → IsSeated s → 0 < leaves_left (state_of s) → s.signed < 2 ^ 30
few_words s is left =
    let some : 0 < (setup_of (world_in s)).leaves - (leaves_used (setup_of (world_in s)) (list_in s) + s.signed) =
    left in
    let all : (setup_of (world_in s)).leaves ≡ all_leaves (key_in (world_in s) s.actor) =
    leaves_of_all (world_in s) s.actor in
    let few : all_leaves (key_in (world_in s) s.actor) ≤ 2 ^ 30 = leaves_are_few (world_in s) s.actor is.scenario in
    omega arith

pub frame_is : (s : Seat) (bodies : List Body) (said : Body) → IsSeated s → bodies ≡ said ∷ []
    → frames_with s.actor bodies
    (entry_signatures s.key.key s.key.used (group_size (shares_leaves (world_in s))) (map body_text bodies))
    ≡ word_frame (state_of s) said ∷ []
frame_is s bodies said is one =
    ap (λ (bs : List Body). frames_with s.actor bs
    (entry_signatures s.key.key s.key.used (group_size (shares_leaves (world_in s))) (map body_text bs))) one
    ∙ ap (λ (k : KeyUse). frames_with s.actor (said ∷ [])
    (entry_signatures k.key k.used (group_size (shares_leaves (world_in s))) (map body_text (said ∷ [])))) is.key
    ∙ sym (signed_by_signatures (world_in s) s.actor (leaves_used (setup_of (world_in s)) (list_in s) + s.signed)
    (said ∷ []) is.scenario)

-- what `frames[0]` is
pub one_frame : (frames : List (Signed Body)) (frame : Signed Body) → frames ≡ frame ∷ [] → length frames ≡ 1
one_frame frames frame one = ap length one

pub first_frame : (frames : List (Signed Body)) (frame got : Signed Body) → frames ≡ frame ∷ [] →
    got ≡ get_or frames 0 got → got ≡ frame
first_frame frames frame got one is = is ∙ ap (λ (fs : List (Signed Body)). get_or fs 0 got) one

pub first_fits : (fields : List (List ℕ)) → list_all field_fits fields ≡ true →
    field_fits (slice_index_or fields 0 []) ≡ true
first_fits [] all = refl
first_fits (field ∷ fields) all = (and_parts (field_fits field) (list_all field_fits fields) all).0

pub signature_short : (c : Contents) (actor used : ℕ) (said : List Body) → IsScenario c →
    field_fits ((setup_of c).signature actor used said 0) ≡ true
signature_short c actor used said is =
    let can : CanBeMade (key_in c actor) =
    record { levels = key_levels c actor is; made = key_made c actor is; id = key_id c actor is } in
    let groups : ℕ = groups_for (group_size (shares_leaves c)) (length (map body_text said)) in
    let so = signed_upto (shares_leaves c) (key_in c actor) used (map body_text said) can groups (up_to_all groups) in
    ap field_fits ((setup_goes_by c).signature actor used said 0 ∙ signature_is c actor used said 0)
    ∙ first_fits (entry_signatures (key_in c actor) used (group_size (shares_leaves c)) (map body_text said)) so.fit

pub frame_spelled : (s : Seat) (said : Body) → IsSeated s → body_fits said ≡ true →
    has_spelling (word_frame (state_of s) said) ≡ true
unfolding has_spelling
frame_spelled s said is fits =
    and_from (body_fits said) (signature_fits (word_frame (state_of s) said)) fits
    (signature_short (world_in s) s.actor (leaves_used (setup_of (world_in s)) (list_in s) + s.signed)
    (said ∷ []) is.scenario)

-- The master with one word more.
key_next : (c : Contents) (actor signed : ℕ) (own : List Entry) (k : KeyUse) (bodies : List Body) (said : Body)
    → k ≡ key_use (key_in c actor) (leaves_used (setup_of c) own + signed) → bodies ≡ said ∷ []
    → key_use k.key (k.used + groups_for (group_size (shares_leaves c)) (length bodies)) ≡ key_use (key_in c actor)
    (leaves_used (setup_of c) own + (signed + 1))
key_next c actor signed own k bodies said is one =
    let group : groups_for (group_size (shares_leaves c)) (length bodies) ≡ 1 =
    group_of_one (shares_leaves c) bodies said one in
    let same : leaves_used (setup_of c) own + signed + groups_for (group_size (shares_leaves c))
    (length bodies) ≡ leaves_used (setup_of c) own + (signed + 1) = omega arith in
    ap (λ (z : KeyUse). key_use z.key (z.used + groups_for (group_size (shares_leaves c)) (length bodies))) is
    ∙ ap (key_use (key_in c actor)) same

pub seated_with_word : (s : Seat) (key : KeyUse) (bodies : List Body) (said : Body) → IsSeated s →
    s.actor < masters_in (world_in s)
    → (setup_of (world_in s)).intruded s.actor ≡ true → bodies ≡ said ∷ []
    → key ≡ key_use s.key.key (s.key.used + groups_for (group_size (shares_leaves (world_in s))) (length bodies))
    → IsReplay (world_in s) s.actor (list_in s) (s.signed + 1) s.role key s.frames.items
seated_with_word s key bodies said is low intruded one made = record {
  scenario = is.scenario;
  there = is.there;
  own = is.own;
  entries = is.entries;
  role = is.role;
  key = made ∙ key_next (world_in s) s.actor s.signed (list_in s) s.key bodies said is.key one;
  signs = λ right. absurd (false≢true (sym (incorrect (world_in s) s.actor low intruded) ∙ right));
  frames = is.frames;
}

-- The bytes of a word, and what it uses.
pub raw_spoken : (b : BenchState) (w : Word) (raw bytes : List ℕ) → w ≡ word.Raw raw →
    bytes ≡ raw → Some bytes ≡ spoken b w
unfolding spoken
raw_spoken b w raw bytes is same = ap (λ (xs : List ℕ). spoken b (word.Raw xs)) same ∙ sym (ap (spoken b) is)

raw_is_no_body : (g : Group) (known : List (Signed Body)) (raw : List ℕ) → body_of g known (word.Raw raw) ≡ None
unfolding body_of
raw_is_no_body g known raw = refl

none_anyway : (b : Bool) (made : Option Body) → made ≡ None → unless b made ≡ None
none_anyway true made none = refl
none_anyway false made none = none

-- a word that is no body uses no leaf
pub uses_none : (b : BenchState) (w : Word) → None ≡ word_body b w → b ≡ after_word b w
uses_none b w none = ap (λ (o : Option Body). elim o [ None ↦ b | Some said ↦ with_word b ]) none

pub raw_uses_none : (b : BenchState) (w : Word) (raw : List ℕ) → w ≡ word.Raw raw → b ≡ after_word b w
raw_uses_none b w raw is =
    uses_none b w (sym (ap (word_body b) is ∙ none_anyway (nat_eq (leaves_left b) 0)
    (body_of (setup_in b).group (overheard b.list) (word.Raw raw))
    (raw_is_no_body (setup_in b).group (overheard b.list) raw)))

pub uses_one : (b : BenchState) (w : Word) (said : Body) → Some said ≡ word_body b w → with_word b ≡ after_word b w
uses_one b w said is = ap (λ (o : Option Body). elim o [ None ↦ b | Some body ↦ with_word b ]) is

spoken_as_body : (b : BenchState) (w : Word) → ((raw : List ℕ) → w ≡ word.Raw raw → ⊥) →
    spoken b w ≡ option_map (λ (said : Body). frame_text (word_frame b said)) (word_body b w)
unfolding spoken
spoken_as_body b (word.Raw raw) other = absurd (other raw refl)
spoken_as_body b _ other = refl

pub none_spoken : (b : BenchState) (w : Word) → ((raw : List ℕ) → w ≡ word.Raw raw → ⊥) →
    None ≡ word_body b w → None ≡ spoken b w
none_spoken b w other none =
    ap (option_map (λ (said : Body). frame_text (word_frame b said))) none ∙ sym (spoken_as_body b w other)

pub body_spoken : (b : BenchState) (w : Word) (said : Body) (text : List ℕ) →
    ((raw : List ℕ) → w ≡ word.Raw raw → ⊥) → Some said ≡ word_body b w
    → text ≡ frame_text (word_frame b said) → Some text ≡ spoken b w
body_spoken b w said text other is told =
    ap (λ (xs : List ℕ). Some xs) told ∙ ap (option_map (λ (body : Body). frame_text (word_frame b body))) is
    ∙ sym (spoken_as_body b w other)

-- what contracts see of a bench with this seat
abbrev seen : Seat → Bool → BenchState
seen s is_spent = record {
  world = world_in s;
  actor = s.actor;
  list = list_in s;
  signed =
      s.signed;
  is_spent = is_spent;
}

pub intruded_told : (s : Seat) (is_spent : Bool) (b : BenchState) (told : Bool) → seen s is_spent ≡ b →
    s.actor < s.scenario.sizes.n
    → told ≡ has_master s.scenario.intruded s.actor → told ≡ is_intruded_master b
intruded_told s is_spent b told is low tells =
    tells
    ∙ sym ((setup_goes_by (world_in s)).intruded s.actor)
    ∙ ap (λ (x : Bool). x && (setup_of (world_in s)).intruded s.actor)
    (sym (ap (nat_lt s.actor) (sym s.scenario.sizes.all) ∙ lt-ltb s.actor s.scenario.sizes.n low))
    ∙ ap is_intruded_master is
