-- What each line of a file that was read says, all of them say.
use Rattle.std.proofs.Common.{◌≡◌, ℕ, Bool, true, if◌then◌else◌, nat_lt, List, [], ◌∷◌, refl, sym, ◌∙◌, ap, Result}
use Rattle.std.proofs.Common.{Ok, Err, Option, Some, None}
use Rattle.std.specs.List.{list_all, filter_map, cons_option}
use Rattle.std.specs.Str.{is_utf8}
use Rattle.std.proofs.lemmas.Bool.{and_from}
use Rattle.script_grammar.specs.declared.fault.LineRefusal.{LineRefusal}
use Rattle.script_grammar.specs.declared.fault.ScriptRefusal.{ScriptRefusal}
use Rattle.script_grammar.specs.Faults.{Answer, bad, said}
use Rattle.script_grammar.specs.Lines.{Numbered, numbered, is_silent, words_of, line_in, limited, said_in}
use Rattle.script_grammar.specs.Lines.{first_refusal, unless_refused, file_in}
use Rattle.script_laws.proofs.Answering.{ok, some_same, said_from, chosen}

abbrev read_ok : {A : Type 0} → A → Result A ScriptRefusal
read_ok x = Ok x

abbrev read_or : {A : Type 0} → A → Result A ScriptRefusal → A
read_or d (Ok x) = x
read_or d (Err e) = d

read_same : {A : Type 0} (x y : A) → read_ok x ≡ Ok y → x ≡ y
read_same x y h = ap (read_or x) h

-- a line that says something says it by its words
line_says : {A : Type 0} (says : ℕ → List (List ℕ) → Answer A) (l : Numbered) (x : A) → line_in says l ≡ Ok (Some x) →
    says l.number (words_of l.line) ≡ Ok x
unfolding line_in
line_says {A} says l x h =
    chosen (is_silent l.line) (ok None) (if is_utf8 l.line then said Some (says l.number (words_of l.line)) else bad)
    (Ok (Some x)) h
    (λ b e. absurd (cc))
    (λ b e. chosen (is_utf8 l.line) (said Some (says l.number (words_of l.line))) bad (Ok (Some x)) e
    (λ t k. let (y, made, is) = said_from Some (says l.number (words_of l.line)) (Some x) k in
    made ∙ ap ok (some_same y x is))
    (λ t k. absurd (cc)))

limited_says : {A : Type 0} (most : ℕ) (says : ℕ → List (List ℕ) → Answer A) (l : Numbered) (x : A) →
    limited most says l ≡ Ok (Some x) → says l.number (words_of l.line) ≡ Ok x
unfolding limited
limited_says most says l x h =
    chosen (nat_lt most l.number) bad (line_in says l) (Ok (Some x)) h (λ b e. absurd (cc))
    (λ b e. line_says says l x e)

cons_pass : {A : Type 0} (test : A → Bool) (o : Option A) (rest : List A) → ((x : A) → o ≡ Some x → test x ≡ true) →
    list_all test rest ≡ true
    → list_all test (cons_option o rest) ≡ true
cons_pass test None rest each h = h
cons_pass test (Some x) rest each h = and_from (test x) (list_all test rest) (each x refl) h

said_is : {A : Type 0} (r : Result (Option A) LineRefusal) (x : A) → said_in r ≡ Some x → r ≡ Ok (Some x)
said_is (Ok o) x h = ap ok h
said_is (Err e) x h = absurd (cc)

all_pass : {A : Type 0} (test : A → Bool) (read : Numbered → Result (Option A) LineRefusal) (ls : List Numbered)
    → ((l : Numbered) (x : A) → read l ≡ Ok (Some x) → test x ≡ true) →
    list_all test (filter_map (λ l. said_in (read l)) ls) ≡ true
all_pass test read [] each = refl
all_pass test read (l ∷ ls) each =
    cons_pass test (said_in (read l)) (filter_map (λ k. said_in (read k)) ls) (λ x e. each l x (said_is (read l) x e))
    (all_pass test read ls each)

-- a file that was read says what its lines say
file_says : {A : Type 0} (most : ℕ) (says : ℕ → List (List ℕ) → Answer A) (bytes : List ℕ) (xs : List A) →
    file_in most says bytes ≡ Ok xs
    → filter_map (λ l. said_in (limited most says l)) (numbered bytes) ≡ xs
unfolding file_in
file_says {A} most says bytes xs h = by (first_refusal (limited most says) (numbered bytes)) h
  where
    by : (o : Option ScriptRefusal) →
        unless_refused o (filter_map (λ l. said_in (limited most says l)) (numbered bytes)) ≡ Ok xs
        → filter_map (λ l. said_in (limited most says l)) (numbered bytes) ≡ xs
    by None k = read_same (filter_map (λ l. said_in (limited most says l)) (numbered bytes)) xs k
    by (Some refused) k = absurd (cc)

-- What holds of all that a line can say holds of all that a file says.
pub file_passes : {A : Type 0} (test : A → Bool) (most : ℕ) (says : ℕ → List (List ℕ) → Answer A)
    (bytes : List ℕ) (xs : List A)
    → ((number : ℕ) (words : List (List ℕ)) (x : A) → says number words ≡ Ok x → test x ≡ true) →
    file_in most says bytes ≡ Ok xs → list_all test xs ≡ true
file_passes test most says bytes xs each h =
    ap (list_all test) (sym (file_says most says bytes xs h))
    ∙ all_pass test (limited most says) (numbered bytes)
    (λ l x one. each l.number (words_of l.line) x (limited_says most says l x one))
