-- The command is the literal of the definitions, so that the kit's clauses on `Ok` and `Err` speak of its faults and
-- rows.
use Rattle.std.proofs.Common.{rules, ◌≡◌, ◌≢◌, ◌∙◌, ◌∷◌, ap, sym, [], Some, Option, List, false, true}
use Rattle.std.proofs.Common.{true≢false, inl, inr, map, string_bytes, length, arith, subst, Result, Ok, Err}
use Rattle.std.proofs.Common.{refl}
use Rattle.std.proofs.lemmas.Bool.{ne_eqb}
use Rattle.std.proofs.lemmas.Result.{IfOk-from_err, err_from_is_err_and}
use Rattle.std.specs.Prelude.{unwrap_or}
use Rattle.std.specs.Result.{IfErr, IfOk, MatchResult}
use Rattle.clap.specs.Kinds.{HasKind, Kinds}
use Rattle.clap.specs.Values.{kind_of}
use Rattle.clap.specs.declared.error.kind.ErrorKind.TheVariants.{OutOfMemory}
use Rattle.clap.specs.declared.error.Error.{Error}
use Rattle.clap.specs.Words.{App, Text, app_of, subcommand_rows_of}
use Rattle.clap.specs.Walk.{is_empty}
use Rattle.clap.specs.Simple.{is_simple, subcommand_of}
use Rattle.clap.specs.Faults.{fault_of, is_simple_and_free}
use Rattle.station_words.specs.CommandLine.{station_app}
use Rattle.station_words.specs.Wanted.{Wanted, station_found, is_taken, wanted, wanted_in}
use Rattle.station_words.specs.declared.given.StationWords.{StationWords}
use Rattle.command_words.specs.declared.read.WordsAnswer.{WordsAnswer}
use Rattle.command_words.specs.declared.read.WordsAnswer.TheVariants.{Usage, Want}
use Rattle.station_words.proofs.Plain.{plain_taken, plain_wanted}
use Rattle.station_words.proofs.Plain.{station_is_free, station_is_simple}
use Rattle.station_words.proofs.read.read_station.Goals as goal

-- ---- What the values say, where they were found.

asked_is : (r : Result StationWords WordsAnswer) (found want : Option Wanted) → found ≡ want
    → IfOk r (λ a. found ≡ Some (wanted a)) → IfOk r (λ a. want ≡ Some (wanted a))
asked_is r found want same is = subst (λ o. IfOk r (λ a. o ≡ Some (wanted a))) same is

plain_is : (r : Result StationWords WordsAnswer) (found : Option Wanted) (w : Wanted) → found ≡ Some w
    → IfOk r (λ a. found ≡ Some (wanted a)) → IfErr r (λ answer. answer ≡ Want)
    → MatchResult r (λ a. wanted a ≡ w) (λ answer. answer ≡ Want)
plain_is (Ok a) found w is has want = ap (λ (o : Option Wanted). unwrap_or o w) (sym has ∙ is)
plain_is (Err e) found w is has want = want

no_usage : (r : Result StationWords WordsAnswer) → IfErr r (λ answer. answer ≡ Want) → r ≡ Err Usage → ⊥
no_usage (Ok a) want usage = cc
no_usage (Err e) want usage = cc

-- ---- What an error says.

refused : (ks : Kinds) (e : Error) → kind_of e ≢ OutOfMemory → HasKind ks e → is_empty ks ≡ false
refused ks e other (inl memory) = absurd (other memory)
refused [] e other (inr among) = absurd among
refused (k ∷ ks) e other (inr among) = ne_eqb (length (k ∷ ks)) 0 (λ e. omega arith)

pub returns-in_err-command-clause-taken : goal.returns-in_err-command-clause-taken
returns-in_err-command-clause-taken c = IfOk-from_err _ _ c.from_residual.ensures.0

pub returns-in_err-command-clause-asked : goal.returns-in_err-command-clause-asked
returns-in_err-command-clause-asked c = IfOk-from_err _ _ c.from_residual.ensures.0

pub returns-in_err-command-clause-usage : goal.returns-in_err-command-clause-usage
returns-in_err-command-clause-usage c usage =
    let p = err_from_is_err_and c.from_residual.result c.from_residual.ensures.1 in
    let from : p.0 ≡ Want = p.2 in
    let is : c.from_residual.result ≡ Err p.0 = p.1 in
    cc

pub returns-in_err-command-clause-plain : goal.returns-in_err-command-clause-plain
returns-in_err-command-clause-plain c w plain is =
    let p = err_from_is_err_and c.from_residual.result c.from_residual.ensures.1 in
    rw (p.1, p.2) refl

pub returns-in-Ok-clause-taken : goal.returns-in-Ok-clause-taken
returns-in-Ok-clause-taken c =
    let words : List Text = map string_bytes c.args.words.now in
    let app : app_of c.in_ok-command.command ≡ station_app = c.in_ok-command.ensures in
    let none : fault_of (app_of c.in_ok-command.command) words ≡ [] =
    c.in-Ok.ensures.kinds (ap is_simple_and_free app ∙ station_is_free) in
    let taken : is_taken words ≡ true = ap (λ (a : App). is_empty (fault_of a words)) (sym app) ∙ ap is_empty none
    in
    all c.found_in.result taken
  where
    all : (r : Result StationWords WordsAnswer) → is_taken (map string_bytes c.args.words.now) ≡ true
        → IfOk r (λ asked. is_taken (map string_bytes c.args.words.now) ≡ true)
    all (Ok a) e = e
    all (Err e) h = tt

pub returns-in-Ok-clause-asked : goal.returns-in-Ok-clause-asked
returns-in-Ok-clause-asked c =
    let words : List Text = map string_bytes c.args.words.now in
    let app : app_of c.in_ok-command.command ≡ station_app = c.in_ok-command.ensures in
    let rows : subcommand_rows_of c.in-Ok.matches ≡ subcommand_of (app_of c.in_ok-command.command) words =
    (c.in-Ok.ensures.matches (ap is_simple app ∙ station_is_simple)).1 in
    asked_is c.found_in.result (station_found (subcommand_rows_of c.in-Ok.matches)) (wanted_in words)
    (ap station_found (rows ∙ ap (λ (a : App). subcommand_of a words) app)) c.found_in.ensures.found

pub returns-in-Ok-clause-usage : goal.returns-in-Ok-clause-usage
returns-in-Ok-clause-usage c usage = absurd (no_usage c.found_in.result c.found_in.ensures.want usage)

pub returns-in-Ok-clause-plain : goal.returns-in-Ok-clause-plain
returns-in-Ok-clause-plain c w plain is =
    let words : List Text = map string_bytes c.args.words.now in
    let app : app_of c.in_ok-command.command ≡ station_app = c.in_ok-command.ensures in
    let rows : subcommand_rows_of c.in-Ok.matches ≡ subcommand_of (app_of c.in_ok-command.command) words =
    (c.in-Ok.ensures.matches (ap is_simple app ∙ station_is_simple)).1 in
    plain_is c.found_in.result (station_found (subcommand_rows_of c.in-Ok.matches)) w
    (ap station_found (rows ∙ ap (λ (a : App). subcommand_of a words) app) ∙ ap wanted_in is ∙ plain_wanted w plain)
    c.found_in.ensures.found c.found_in.ensures.want

pub returns-in-Err-clause-usage : goal.returns-in-Err-clause-usage
returns-in-Err-clause-usage c usage = cc

pub returns-in-Err-clause-plain : goal.returns-in-Err-clause-plain
returns-in-Err-clause-plain c w plain is = refl

pub returns-clause-usage : goal.returns-clause-usage
returns-clause-usage c usage =
    let words : List Text = map string_bytes c.args.words.now in
    let app : app_of c.in_ok-command.command ≡ station_app = c.in_ok-command.ensures in
    let other : kind_of c.in-Err-2.field-0 ≢ OutOfMemory = search rules in
    let has : HasKind (fault_of (app_of c.in_ok-command.command) words) c.in-Err-2.field-0 =
    c.in-Err-2.ensures.kinds (ap is_simple_and_free app ∙ station_is_free) in
    ap (λ (a : App). is_empty (fault_of a words)) (sym app) ∙ refused _ c.in-Err-2.field-0 other has

pub returns-clause-plain : goal.returns-clause-plain
returns-clause-plain c w plain is =
    let words : List Text = map string_bytes c.args.words.now in
    let app : app_of c.in_ok-command.command ≡ station_app = c.in_ok-command.ensures in
    let other : kind_of c.in-Err-2.field-0 ≢ OutOfMemory = search rules in
    let has : HasKind (fault_of (app_of c.in_ok-command.command) words) c.in-Err-2.field-0 =
    c.in-Err-2.ensures.kinds (ap is_simple_and_free app ∙ station_is_free) in
    let no : is_taken words ≡ false =
    ap (λ (a : App). is_empty (fault_of a words)) (sym app) ∙ refused _ c.in-Err-2.field-0 other has in
    absurd (true≢false (sym (plain_taken w plain) ∙ sym (ap is_taken is) ∙ no))
