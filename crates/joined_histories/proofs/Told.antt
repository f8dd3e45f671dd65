-- File by file the lists that stand are those that the files tell.
use Rattle.std.proofs.Common.{◌≡◌, ◌≤◌, ◌<◌, ◌+◌, ℕ, zero, suc, Bool, true, false, List, [], ◌∷◌, ◌++◌, Option, Some, None}
use Rattle.std.proofs.Common.{Result, Ok, Err, length, set, refl, sym, ◌∙◌, ap, subst, arith, inl, inr, ◌⊎◌}
use Rattle.std.specs.Prelude.{replicate, slice_get}
use Rattle.std.proofs.lemmas.Bool.{cases_eq, true≢false}
use Rattle.std.proofs.lemmas.List.{length-set, length-replicate}
use Rattle.std.proofs.lemmas.Option.{slice_get_within}
use Rattle.plain_lists.specs.Lists.{IsIn, here, there}
use Rattle.plain_lists.proofs.Members.{some_same, none_some, in_cons_cases, in_right, none_in}
use Rattle.scenario_file.specs.Reading.{Contents}
use Rattle.history_rules.specs.Events.{Entry}
use Rattle.world_rules.specs.Scenarios.{actors_in}
use Rattle.joint_lists.specs.Joint.{kept_by}
use Rattle.kept_lines.specs.Reading.{Reading, kept_in}
use Rattle.joined_histories.specs.Files.{Answered, Given, files_from, files_in, none_given, owner_in, with_file, with_list}
use Rattle.joined_histories.specs.Files.{with_more, with_owner, with_read}
use Rattle.joined_histories.specs.Told.{AreTold, IsFileOf}
use Rattle.joined_histories.specs.Laws.{FilesAreTold}
use Rattle.joined_histories.proofs.Lists.{no_list, set_beside, set_there}

ok_same : {A E : Type 0} {x y : A} → ◌≡◌ {A = Result A E} (Ok x) (Ok y) → x ≡ y
ok_same e = cc

-- ---- What one file changes.

-- a file of an actor that had given none
pub record IsGiven (c : Contents) (old : Given) (bytes : List ℕ) (new : Given) : Type 0 where
  pub actor : ℕ
  pub list : List Entry
  pub owner : IsFileOf c actor bytes
  pub first : slice_get old.gave actor ≡ Some false
  pub read : kept_in c actor bytes ≡ Ok list
  pub now : new ≡ with_list old actor list

-- a file of nobody, or one that is given
abbrev pub Changes : Contents → Given → List ℕ → Given → Type 0
Changes c old bytes new = ((owner_in c bytes ≡ Ok None) × (new ≡ old)) ⊎ IsGiven c old bytes new

changes : (c : Contents) (old new : Given) (file : ℕ) (bytes : List ℕ) → with_file c old file bytes ≡ Ok new →
    Changes c old bytes new
changes c old new file bytes is = by_owner (owner_in c bytes) refl is
  where
    by_list : (actor : ℕ) (r : Reading (List Entry)) → IsFileOf c actor bytes → slice_get old.gave actor ≡ Some false →
        kept_in c actor bytes ≡ r → with_read old file actor r ≡ Ok new → Changes c old bytes new
    by_list actor (Ok list) owner first read so = inr (record {
      actor = actor;
      list = list;
      owner = owner;
      first = first;
      read = read;
      now = sym (ok_same so);
    })
    by_list actor (Err why) owner first read so = absurd (cc)

    by_gave : (actor : ℕ) (o : Option Bool) → IsFileOf c actor bytes → slice_get old.gave actor ≡ o →
        with_more c old file actor bytes o ≡ Ok new → Changes c old bytes new
    by_gave actor (Some false) owner first so = by_list actor (kept_in c actor bytes) owner first refl so
    by_gave actor (Some true) owner first so = absurd (cc)
    by_gave actor None owner first so = absurd (cc)

    by_owner : (o : Reading (Option ℕ)) → owner_in c bytes ≡ o → with_owner c old file bytes o ≡ Ok new →
        Changes c old bytes new
    by_owner (Ok None) owner so = inl (owner, sym (ok_same so))
    by_owner (Ok (Some actor)) owner so = by_gave actor (slice_get old.gave actor) owner refl so
    by_owner (Err why) owner so = absurd (cc)

-- what the first of files changes, and what the rest comes to
pub record HasRead (c : Contents) (old : Given) (file : ℕ) (bytes : List ℕ) (rest : List (List ℕ)) (given : Given) : Type 0 where
  pub mid : Given
  pub change : Changes c old bytes mid
  pub goes_on : files_from c mid (file + 1) rest ≡ Ok given

abbrev on_from : Contents → ℕ → List (List ℕ) → Answered → Answered
on_from c file rest r = elim r [ Err e ↦ Err e | Ok more ↦ files_from c more (file + 1) rest ]

has_read : (c : Contents) (old : Given) (file : ℕ) (bytes : List ℕ) (rest : List (List ℕ)) (given : Given) →
    files_from c old file (bytes ∷ rest) ≡ Ok given → HasRead c old file bytes rest given
has_read c old file bytes rest given is = by (with_file c old file bytes) refl is
  where
    by : (r : Answered) → with_file c old file bytes ≡ r → on_from c file rest r ≡ Ok given →
        HasRead c old file bytes rest given
    by (Err why) read so = absurd (cc)
    by (Ok mid) read so = record { mid = mid; change = changes c old mid file bytes read; goes_on = so }

-- as many lists as marks of who gave one
abbrev pub AreAlike : Given → Type 0
AreAlike given = length given.lists ≡ length given.gave

alike_on : (c : Contents) (old new : Given) (bytes : List ℕ) → Changes c old bytes new → AreAlike old → AreAlike new
alike_on c old new bytes (inl nobody) alike = subst AreAlike (sym nobody.1) alike
alike_on c old new bytes (inr one) alike =
    subst AreAlike (sym one.now)
    (length-set old.lists one.actor one.list ∙ alike ∙ sym (length-set old.gave one.actor true))

mark_beside : (marks : List Bool) (a b : ℕ) → (b ≡ a → ⊥) → slice_get (set marks a true) b ≡ slice_get marks b
mark_beside [] a b apart = refl
mark_beside (m ∷ marks) zero zero apart = absurd (apart refl)
mark_beside (m ∷ marks) zero (suc b) apart = refl
mark_beside (m ∷ marks) (suc a) zero apart = refl
mark_beside (m ∷ marks) (suc a) (suc b) apart = mark_beside marks a b (λ e. apart (ap suc e))

mark_there : (marks : List Bool) (a : ℕ) → a < length marks → slice_get (set marks a true) a ≡ Some true
mark_there [] a within = absurd (omega arith)
mark_there (m ∷ marks) zero within = refl
mark_there (m ∷ marks) (suc a) within = mark_there marks a (omega arith)

-- the mark and the list of an actor that has given one stay
pub record Stays (old new : Given) (a : ℕ) : Type 0 where
  pub mark : slice_get new.gave a ≡ slice_get old.gave a
  pub list : kept_by new.lists a ≡ kept_by old.lists a

stays_beside : (c : Contents) (old new : Given) (bytes : List ℕ) (a : ℕ) → Changes c old bytes new →
    (IsFileOf c a bytes → ⊥) → Stays old new a
stays_beside c old new bytes a (inl nobody) other = record {
  mark = ap (λ (g : Given). slice_get g.gave a) nobody.1;
  list = ap (λ (g : Given). kept_by g.lists a) nobody.1;
}
stays_beside c old new bytes a (inr one) other =
    let apart : a ≡ one.actor → ⊥ = λ same. other (one.owner ∙ ap (λ n. Ok (Some n)) (sym same)) in
    record {
      mark = ap (λ (g : Given). slice_get g.gave a) one.now ∙ mark_beside old.gave one.actor a apart;
      list = ap (λ (g : Given). kept_by g.lists a) one.now ∙ set_beside old.lists one.actor a one.list apart;
    }

-- no other file is of an actor that has given one
not_again : (c : Contents) (old new : Given) (bytes : List ℕ) (a : ℕ) → Changes c old bytes new →
    slice_get old.gave a ≡ Some true → IsFileOf c a bytes → ⊥
not_again c old new bytes a (inl nobody) gave owner =
    let no : None ≡ Some a = ok_same (sym nobody.0 ∙ owner) in
    absurd (none_some no)
not_again c old new bytes a (inr one) gave owner =
    let same : Some one.actor ≡ Some a = ok_same (sym one.owner ∙ owner) in
    let no : Some false ≡ Some true =
    sym one.first ∙ ap (slice_get old.gave) (some_same same) ∙ gave in
    true≢false (sym (some_same no))

-- ---- All files.

-- an actor that has given one: its list stays, and no file to come is its own
pub record HasGiven (c : Contents) (rest : List (List ℕ)) (old given : Given) (a : ℕ) : Type 0 where
  pub list : kept_by given.lists a ≡ kept_by old.lists a
  pub none : (bytes : List ℕ) → IsIn bytes rest → IsFileOf c a bytes → ⊥

has_given : (c : Contents) (rest : List (List ℕ)) (old given : Given) (file a : ℕ) →
    files_from c old file rest ≡ Ok given → slice_get old.gave a ≡ Some true → HasGiven c rest old given a
has_given c [] old given file a is gave = record {
  list = ap (λ (g : Given). kept_by g.lists a) (sym (ok_same is));
  none = λ bytes h. absurd (none_in h);
}
has_given c (bytes ∷ rest) old given file a is gave =
    let r : HasRead c old file bytes rest given = has_read c old file bytes rest given is in
    let not_its : IsFileOf c a bytes → ⊥ = not_again c old r.mid bytes a r.change gave in
    let stays : Stays old r.mid a = stays_beside c old r.mid bytes a r.change not_its in
    let later : HasGiven c rest r.mid given a =
    has_given c rest r.mid given (file + 1) a r.goes_on (stays.mark ∙ gave) in
    record {
      list = later.list ∙ stays.list;
      none = λ other h. by other (in_cons_cases h) later.none not_its;
    }
  where
    by : (other : List ℕ) → (other ≡ bytes) ⊎ IsIn other rest →
        ((b : List ℕ) → IsIn b rest → IsFileOf c a b → ⊥) → (IsFileOf c a bytes → ⊥) → IsFileOf c a other → ⊥
    by other (inl same) later now = λ owner. now (ap (owner_in c) (sym same) ∙ owner)
    by other (inr h) later now = later other h

-- what stands once a file is given
pub record IsNow (c : Contents) (mid : Given) (bytes : List ℕ) (a : ℕ) : Type 0 where
  pub mark : slice_get mid.gave a ≡ Some true
  pub read : kept_in c a bytes ≡ Ok (kept_by mid.lists a)

is_now : (c : Contents) (old mid : Given) (bytes : List ℕ) (a : ℕ) → Changes c old bytes mid → AreAlike old →
    IsFileOf c a bytes → IsNow c mid bytes a
is_now c old mid bytes a (inl nobody) alike owner =
    let no : None ≡ Some a = ok_same (sym nobody.0 ∙ owner) in
    absurd (none_some no)
is_now c old mid bytes a (inr one) alike owner =
    let same : one.actor ≡ a = some_same (ok_same (sym one.owner ∙ owner)) in
    let within : one.actor < length old.gave = slice_get_within old.gave one.actor false one.first in
    subst (IsNow c mid bytes) same (record {
      mark = ap (λ (g : Given). slice_get g.gave one.actor) one.now ∙ mark_there old.gave one.actor within;
      read = one.read ∙ ap (λ l. Ok l) (sym (ap (λ (g : Given). kept_by g.lists one.actor) one.now
          ∙ set_there old.lists one.actor one.list (omega arith)));
    })

one_told : (c : Contents) (rest : List (List ℕ)) (old given : Given) (file a : ℕ) (first bytes : List ℕ) →
    HasRead c old file first rest given → AreAlike old → (bytes ≡ first) ⊎ IsIn bytes rest → IsFileOf c a bytes →
    (IsIn bytes rest → kept_in c a bytes ≡ Ok (kept_by given.lists a)) → kept_in c a bytes ≡ Ok (kept_by given.lists a)
one_told c rest old given file a first bytes r alike (inl same) owner later =
    let its : IsFileOf c a first = ap (owner_in c) (sym same) ∙ owner in
    let now : IsNow c r.mid first a = is_now c old r.mid first a r.change alike its in
    let stays : HasGiven c rest r.mid given a = has_given c rest r.mid given (file + 1) a r.goes_on now.mark in
    ap (kept_in c a) same ∙ now.read ∙ ap (λ l. Ok l) (sym stays.list)
one_told c rest old given file a first bytes r alike (inr h) owner later = later h

each_told : (c : Contents) (rest : List (List ℕ)) (old given : Given) (file a : ℕ) (bytes : List ℕ) →
    files_from c old file rest ≡ Ok given → AreAlike old → IsIn bytes rest → IsFileOf c a bytes →
    kept_in c a bytes ≡ Ok (kept_by given.lists a)
each_told c [] old given file a bytes is alike h owner = absurd (none_in h)
each_told c (first ∷ rest) old given file a bytes is alike h owner =
    let r : HasRead c old file first rest given = has_read c old file first rest given is in
    one_told c rest old given file a first bytes r alike (in_cons_cases h) owner
    (λ later. each_told c rest r.mid given (file + 1) a bytes r.goes_on (alike_on c old r.mid first r.change alike) later
    owner)

only_told : (c : Contents) (rest : List (List ℕ)) (old given : Given) (file a : ℕ) → files_from c old file rest ≡ Ok given →
    ((bytes : List ℕ) → IsIn bytes rest → IsFileOf c a bytes → ⊥) → kept_by given.lists a ≡ kept_by old.lists a
only_told c [] old given file a is none = ap (λ (g : Given). kept_by g.lists a) (sym (ok_same is))
only_told c (bytes ∷ rest) old given file a is none =
    let r : HasRead c old file bytes rest given = has_read c old file bytes rest given is in
    let stays : Stays old r.mid a = stays_beside c old r.mid bytes a r.change (none bytes (here rest)) in
    only_told c rest r.mid given (file + 1) a r.goes_on (λ b h. none b (there bytes rest h)) ∙ stays.list

once_told : (c : Contents) (before between after : List (List ℕ)) (one another : List ℕ) (old given : Given) (file a : ℕ) →
    files_from c old file (before ++ one ∷ (between ++ another ∷ after)) ≡ Ok given → AreAlike old →
    IsFileOf c a one → IsFileOf c a another → ⊥
once_told c [] between after one another old given file a is alike first second =
    let rest : List (List ℕ) = between ++ another ∷ after in
    let r : HasRead c old file one rest given = has_read c old file one rest given is in
    let now : IsNow c r.mid one a = is_now c old r.mid one a r.change alike first in
    (has_given c rest r.mid given (file + 1) a r.goes_on now.mark).none another
    (in_right between (here after)) second
once_told c (x ∷ before) between after one another old given file a is alike first second =
    let rest : List (List ℕ) = before ++ one ∷ (between ++ another ∷ after) in
    let r : HasRead c old file x rest given = has_read c old file x rest given is in
    once_told c before between after one another r.mid given (file + 1) a r.goes_on
    (alike_on c old r.mid x r.change alike) first second

none_alike : (c : Contents) → AreAlike (none_given c)
none_alike c = length-replicate (actors_in c) _ ∙ sym (length-replicate (actors_in c) _)

pub files_are_told : FilesAreTold
unfolding files_in
files_are_told c files given is = record {
  each = λ a bytes h owner. each_told c files (none_given c) given 0 a bytes is (none_alike c) h owner;
  once = λ a before between after one another whole first second.
      once_told c before between after one another (none_given c) given 0 a
      (ap (files_from c (none_given c) 0) (sym whole) ∙ is) (none_alike c) first second;
  only = λ a none. only_told c files (none_given c) given 0 a is none ∙ no_list (actors_in c) a;
}
