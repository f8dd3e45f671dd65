-- The map of words said: what one word more changes, and what it answers.
use Rattle.std.proofs.Common.{◌≡◌, ℕ, Bool, true, false, cond, ◌&&◌, ◌||◌, List, [], ◌∷◌, ◌++◌, Option, Some, None}
use Rattle.std.proofs.Common.{map, nat_eq, length, take, get_or, ◌<◌, ◌+◌, ◌↔◌, refl, sym, ◌∙◌, ap, eqb-true, eq-eqb}
use Rattle.std.proofs.Common.{true≢false}
use Rattle.std.proofs.lemmas.Bool.{and_parts, and_from}
use Rattle.std.proofs.lemmas.List.Folds.{list_any-append, list_any_at, list_any_more}
use Rattle.std.proofs.lemmas.List.{append-nil}
use Rattle.std.proofs.lemmas.List.Concat.{flat_map-append}
use Rattle.std.proofs.Math.Bool.{or-false}
use Rattle.std.specs.Borrow.{Bor}
use Rattle.std.specs.List.{list_any}
use Rattle.std.specs.declared.alloc.Global.{Global}
use Rattle.std.specs.declared.vec.Vec.{Vec}
use Rattle.indexmap.specs.IndexMap.{get}
use Rattle.message_types.specs.declared.body.Body.{Body}
use Rattle.history_rules.specs.Events.{Entry}
use Rattle.history_rules.specs.Sameness.{is_same_body}
use Rattle.history_rules.specs.Counts.{has_said}
use Rattle.history_laws.proofs.Same.{body_test}
use Rattle.protocol_rules.proofs.Keys.{same_key-same}
use Rattle.protocol_rules.specs.Keys.{Key, same_key}
use Rattle.history_audit.specs.Said.{key_of, WordMap, lent, bodies_at, words_said, was_said, HasWords}
use Rattle.history_audit.proofs.Loops.{any_map, any_and}
use Rattle.plain_lists.proofs.Booleans.{same_truth}

same_key-itself : (x : Key) → same_key x x ≡ true
same_key-itself x =
    and_from ((nat_eq x.0 x.0 && nat_eq x.1 x.1) && nat_eq x.2 x.2) (nat_eq x.3 x.3)
    (and_from (nat_eq x.0 x.0 && nat_eq x.1 x.1) (nat_eq x.2 x.2)
    (and_from (nat_eq x.0 x.0) (nat_eq x.1 x.1) (eq-eqb x.0 x.0 refl) (eq-eqb x.1 x.1 refl)) (eq-eqb x.2 x.2 refl))
    (eq-eqb x.3 x.3 refl)

-- the comparison of two bodies
pub word_tested : (r : Bool) (a b : Body) → (r ≡ true) ↔ (a ≡ b) → r ≡ is_same_body a b
word_tested r a b h = same_truth r (is_same_body a b) (λ t. (body_test a b).1 (h.0 t)) (λ t. h.1 ((body_test a b).0 t))

-- the word tells an actor's body
abbrev tells : ℕ → Body → ℕ × Body → Bool
tells m x w = nat_eq w.0 m && is_same_body x w.1

was_said-push : (words : List (ℕ × Body)) (w : ℕ × Body) (m : ℕ) (x : Body) →
    was_said (words ++ w ∷ []) m x ≡ (was_said words m x || tells m x w)
was_said-push words w m x = list_any-append (tells m x) words (w ∷ []) ∙ ap (λ (b : Bool). was_said words m x || b)
    (or-false (tells m x w))

either_true : (a b : Bool) → (b ≡ true → a ≡ true) → a ≡ (a || b)
either_true true b h = refl
either_true false true h = h refl
either_true false false h = refl

-- a word that was said before changes nothing
pub word_known : (words : List (ℕ × Body)) (kept : WordMap) (actor : ℕ) (b : Body) → was_said words actor b ≡ true →
    HasWords words kept → HasWords (words ++ (actor, b) ∷ []) kept
word_known words kept actor b known has m x =
    has m x ∙ either_true (was_said words m x) (tells m x (actor, b)) again ∙ sym (was_said-push words (actor, b) m x)
  where
    again : tells m x (actor, b) ≡ true → was_said words m x ≡ true
    again e =
        let both = and_parts (nat_eq actor m) (is_same_body x b) e in
        ap (λ (n : ℕ). was_said words n x) (sym (eqb-true actor m both.0))
        ∙ ap (was_said words actor) ((body_test x b).0 both.1) ∙ known

-- a new word goes among the bodies under its key
pub word_new : (words : List (ℕ × Body)) (old mid after : WordMap) (actor : ℕ) (b : Body) (key : Key)
    (bodies : Vec (Bor Body) Global)
    → key ≡ key_of actor b → map (λ r. r.now) bodies.items ≡ bodies_at old key ++ b ∷ []
    → ((q : Key) → same_key key q ≡ false → get same_key mid q ≡ get same_key old q)
    → ((q : Key) → get same_key after q ≡ cond (same_key key q) (Some bodies) (get same_key mid q))
    → HasWords words old → HasWords (words ++ (actor, b) ∷ []) after
word_new words old mid after actor b key bodies is made others put has m x =
    by (same_key key (key_of m x)) refl ∙ sym (was_said-push words (actor, b) m x)
  where
    at : Key
    at = key_of m x

    by : (t : Bool) → same_key key at ≡ t →
        list_any (is_same_body x) (bodies_at after at) ≡ (was_said words m x || tells m x (actor, b))
    by true e =
        let one : key ≡ at = same_key-same key at e in
        let actors : actor ≡ m = ap (λ (k : Key). k.0) (sym is ∙ one) in
        let there : bodies_at after at ≡ bodies_at old at ++ b ∷ [] =
        ap lent (put at) ∙ ap (λ (t : Bool). lent (cond t (Some bodies) (get same_key mid at))) e ∙ made
        ∙ ap (λ (k : Key). bodies_at old k ++ b ∷ []) one in
        ap (list_any (is_same_body x)) there ∙ list_any-append (is_same_body x) (bodies_at old at) (b ∷ [])
        ∙ ap (λ (t : Bool). list_any (is_same_body x) (bodies_at old at) || t) (or-false (is_same_body x b))
        ∙ ap (λ (t : Bool). t || is_same_body x b) (has m x)
        ∙ ap (λ (t : Bool). was_said words m x || (t && is_same_body x b)) (sym (eq-eqb actor m actors))
    by false e =
        ap (λ (o : Option (Vec (Bor Body) Global)). list_any (is_same_body x) (lent o))
        (put at ∙ ap (λ (t : Bool). cond t (Some bodies) (get same_key mid at)) e ∙ others at e)
        ∙ has m x ∙ either_true (was_said words m x) (tells m x (actor, b))
        (λ t. absurd (true≢false (sym (apart t) ∙ e)))
      where
        apart : tells m x (actor, b) ≡ true → same_key key at ≡ true
        apart t =
            let both = and_parts (nat_eq actor m) (is_same_body x b) t in
            let one : key_of actor b ≡ at = ap (λ (n : ℕ). key_of n b) (eqb-true actor m both.0)
            ∙ ap (key_of m) (sym ((body_test x b).0 both.1)) in
            ap (same_key key) (sym (is ∙ one)) ∙ same_key-itself key

-- one of the bodies under a key is the body
pub among_at : (b : Body) (xs : List (Bor Body)) (i : ℕ) (x : Bor Body) → i < length xs → x ≡ get_or xs i x →
    is_same_body b x.now ≡ true → list_any (is_same_body b) (map (λ r. r.now) xs) ≡ true
among_at b xs i x below is same =
    any_map (is_same_body b) (λ (r : Bor Body). r.now) xs
    ∙ list_any_at (λ (r : Bor Body). is_same_body b r.now) xs i x below
    (ap (λ (r : Bor Body). is_same_body b r.now) (sym is) ∙ same)

pub among_more : (b : Body) (xs : List (Bor Body)) (i : ℕ) (x : Bor Body) → i < length xs → x ≡ get_or xs i x →
    is_same_body b x.now ≡ false
    → list_any (is_same_body b) (map (λ r. r.now) (take i xs)) ≡ false →
    list_any (is_same_body b) (map (λ r. r.now) (take (i + 1) xs)) ≡ false
among_more b xs i x below is other none =
    any_map (is_same_body b) (λ (r : Bor Body). r.now) (take (i + 1) xs)
    ∙ list_any_more (λ (r : Bor Body). is_same_body b r.now) xs i x below
    ∙ ap (λ (t : Bool). t || is_same_body b (get_or xs i x).now)
    (sym (any_map (is_same_body b) (λ (r : Bor Body). r.now) (take i xs)) ∙ none)
    ∙ ap (λ (r : Bor Body). is_same_body b r.now) (sym is) ∙ other

-- what the map answers
pub said_some : (words : List (ℕ × Body)) (kept : WordMap) (actor : ℕ) (b : Body) (key : Key)
    (bodies : Vec (Bor Body) Global) (xs : List (Bor Body)) (r : Bool)
    → key ≡ key_of actor b → Some bodies ≡ get same_key kept key → xs ≡ bodies.items →
    r ≡ list_any (is_same_body b) (map (λ z. z.now) xs)
    → HasWords words kept → r ≡ was_said words actor b
said_some words kept actor b key bodies xs r is found all answer has =
    answer ∙ ap (λ (zs : List (Bor Body)). list_any (is_same_body b) (map (λ z. z.now) zs)) all
    ∙ ap (λ (o : Option (Vec (Bor Body) Global)). list_any (is_same_body b) (lent o)) found
    ∙ ap (λ (k : Key). list_any (is_same_body b) (bodies_at kept k)) is ∙ has actor b

pub said_none : (words : List (ℕ × Body)) (kept : WordMap) (actor : ℕ) (b : Body) (key : Key)
    → key ≡ key_of actor b → None ≡ get same_key kept key → HasWords words kept → false ≡ was_said words actor b
said_none words kept actor b key is found has =
    ap (λ (o : Option (Vec (Bor Body) Global)). list_any (is_same_body b) (lent o)) found
    ∙ ap (λ (k : Key). list_any (is_same_body b) (bodies_at kept k)) is ∙ has actor b

-- the words of entries are what was said at them
pub said_before : (before : List Entry) (actor : ℕ) (b : Body) →
    was_said (words_said before) actor b ≡ has_said before actor b
said_before [] actor b = refl
said_before (e ∷ rest) actor b =
    list_any-append (tells actor b) (map (λ x. (e.actor, x)) e.said) (words_said rest)
    ∙ ap (λ (t : Bool). t || was_said (words_said rest) actor b)
    (any_map (tells actor b) (λ (x : Body). (e.actor, x)) e.said
    ∙ any_and (nat_eq e.actor actor) (is_same_body b) e.said)
    ∙ ap (λ (t : Bool). (nat_eq e.actor actor && list_any (is_same_body b) e.said) || t) (said_before rest actor b)

pub words_said-push : (before : List Entry) (e : Entry) →
    words_said before ++ map (λ b. (e.actor, b)) e.said ≡ words_said (before ++ e ∷ [])
words_said-push before e =
    sym (flat_map-append (λ (z : Entry). map (λ b. (z.actor, b)) z.said) before (e ∷ [])
    ∙ ap (λ (ws : List (ℕ × Body)). words_said before ++ ws) (append-nil (map (λ b. (e.actor, b)) e.said)))
