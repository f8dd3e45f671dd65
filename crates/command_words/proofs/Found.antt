-- What `clap`'s calls on its matches give, as the values of the rows. A number is read of a text exactly where the text
-- passes the test of 32 bits.
use Rattle.std.proofs.Common.{◌≡◌, ◌≢◌, ℕ, Bool, true, false, refl, ap, sym, ◌∙◌, List, Option}
use Rattle.std.proofs.Common.{Some, None, Result, Ok, Err, arith, option_map}
use Rattle.std.specs.Prelude.{option_and_then, unwrap_or}
use Rattle.std.specs.Box.{box_value}
use Rattle.std.specs.Str.{bytes_eq}
use Rattle.std.proofs.lemmas.Slice.Eq.{bytes_eq-Decides}
use Rattle.std.specs.Str.Parse.{ParsesUnsigned}
use Rattle.clap.specs.Walk.{Row, Text}
use Rattle.clap.specs.Matches.{ReadsOne}
use Rattle.clap.specs.ValueTests.{is_unsigned_in}
use Rattle.clap.specs.declared.builder.value_parser.ValueParser.TheVariants as vp
use Rattle.clap.proofs.ValueTestLemmas.{Accepts-accepts, accepts-Accepts}
use Rattle.clap.specs.Words.{found_of, rows_of, subcommand_rows_of}
use Rattle.clap.specs.declared.parser.matches.ArgMatches.{ArgMatches}
use Rattle.clap.specs.declared.parser.matches.ArgMatches.TheViews.{out-ArgMatches, out-SubCommand}
use Rattle.command_words.specs.Wanted.{Wanted, asked_in, command_in, number_in}

pub number_read : (E : Type 0) (G : Text → Result ℕ E → Type 0) (t : Text) (r : Option ℕ)
    → ((u : Text) (x : Result ℕ E) → G u x → ParsesUnsigned 32 10 u x) → ReadsOne G t r → r ≡ number_in t
number_read E G t (Some v) only read =
    let parsed = only t (Ok v) read in
    let passed : is_unsigned_in 0 4294967295 t ≡ true =
    Accepts-accepts false (vp.Unsigned 0 4294967295) t (parsed.0.0, omega arith, omega arith, omega arith) in
    rw passed (ap Some parsed.1)
number_read E G t None only read = choose (is_unsigned_in 0 4294967295 t) refl
  where
    choose : (b : Bool) → is_unsigned_in 0 4294967295 t ≡ b → None ≡ number_in t
    choose true e =
        let accepted = accepts-Accepts false (vp.Unsigned 0 4294967295) t e in
        absurd (only t (Err read.0) read.1 (accepted.0, omega arith))
    choose false e = rw e refl

-- a text that isn't read as a number, or isn't there
pub number_found : (E : Type 0) (G : Text → Result ℕ E → Type 0) (o : Option Text) (r : Option ℕ)
    → ((u : Text) (x : Result ℕ E) → G u x → ParsesUnsigned 32 10 u x) → (o ≡ None → r ≡ None)
    → ((t : Text) → o ≡ Some t → ReadsOne G t r) → r ≡ option_and_then number_in o
number_found E G None r only none some = none refl
number_found E G (Some t) r only none some = number_read E G t r only (some t refl)

-- ---- The subcommand that `clap` found.

-- what both readings give
abbrev pub named : {B : Type 0} → (B → Text) → (B → List Row) → B → Text × List Row
named name rows b = (name b, rows b)

pub met : {B : Type 0} (name : B → Text) (rows : B → List Row) (o : Option B) (n : Text) (rs : List Row)
    → Some n ≡ option_map name o → Some rs ≡ option_map (λ (p : Text × List Row). p.1) (option_map (named name rows)
    o)
    → option_map (named name rows) o ≡ Some (n, rs)
met name rows None n rs is has = cc
met name rows (Some b) n rs is has =
    let first : name b ≡ n = ap (λ (o : Option Text). unwrap_or o n) (sym is) in
    let second : rows b ≡ rs = ap (λ (o : Option (List Row)). unwrap_or o rs) (sym has) in
    rw (first, second) refl

-- What is asked, where the subcommand has this name and these rows.
pub asked_by : (matches : ArgMatches) (name other : Text) (rows : List Row) (asked : Option Wanted)
    → Some name ≡ option_map (λ b. (out-SubCommand (box_value b)).name.now) (out-ArgMatches matches).subcommand
    → Some rows ≡ option_map (λ (p : Text × List Row). p.1) (subcommand_rows_of matches) → name ≡ other
    → asked ≡ command_in other rows → asked ≡ asked_in (subcommand_rows_of matches)
asked_by matches name other rows asked is has same command =
    command ∙ sym (ap asked_in (met (λ b. (out-SubCommand (box_value b)).name.now)
    (λ b. rows_of (found_of (out-SubCommand (box_value b)).matches)) (out-ArgMatches matches).subcommand name rows
    is has) ∙ ap (λ (n : Text). command_in n rows) same)

pub unmet : (o : Option (Text × List Row)) → None ≡ option_map (λ (p : Text × List Row). p.1) o → o ≡ None
unmet None is = refl
unmet (Some p) is = cc

pub other_name : (n m : Text) → n ≢ m → bytes_eq n m ≡ false
other_name n m differ = choose (bytes_eq n m) refl
  where
    choose : (b : Bool) → bytes_eq n m ≡ b → bytes_eq n m ≡ false
    choose true e = absurd (differ ((bytes_eq-Decides n m).0 e))
    choose false e = e
