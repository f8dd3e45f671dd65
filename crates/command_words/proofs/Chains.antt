-- A command that is built step by step has the shape that its steps wrote, since each step of the kit adds to the
-- shape.
use Rattle.std.proofs.Common.{◌≡◌, ◌∙◌, ◌||◌, ◌++◌, ◌∷◌, [], Bool, false, true, ap, ap₂, Result, Ok, Err}
use Rattle.std.specs.Result.{IfOk}
use Rattle.clap.specs.Words.{App, Rule, Shape, AddsArg, AddsSubcommand, app_of, rule_of, with_rule, with_subcommand}
use Rattle.clap.specs.declared.builder.arg.Arg.{Arg}
use Rattle.clap.specs.declared.builder.command.Command.{Command}
use Rattle.clap.specs.Simple.{app_of_fields}
use Rattle.clap.specs.declared.builder.command.Command.TheOpen.{Command-F}
use Rattle.clap.specs.declared.builder.command.Command.TheViews.{out-Command}
use Rattle.command_words.specs.CommandLine.{IsCommand}

-- the shape with one argument more
abbrev pub longer : Shape → Rule → Shape
longer s r = record s { rules = s.rules ++ r ∷ [] }

pub added : (s : Shape) (r : Rule) (old : Command) (a : Arg) (new : Command) → IsCommand s old → rule_of a ≡ r
    → a.global ≡ false → AddsArg old a new → IsCommand (longer s r) new
added s r old a new is rule local adds =
    (adds.shape local ∙ ap₂ with_rule is.0 rule, adds.globals ∙ ap₂ (λ (x y : Bool). x || y) is.1 local)

pub added_ok : {E : Type 0} (s : Shape) (r : Rule) (old : Command) (a : Arg) (made : Result Command E) → IsCommand s
    old
    → rule_of a ≡ r → a.global ≡ false → IfOk made (AddsArg old a) → IfOk made (IsCommand (longer s r))
added_ok s r old a (Ok new) is rule local adds = added s r old a new is rule local adds
added_ok s r old a (Err e) is rule local adds = tt

-- one subcommand more
pub joined : (t : App) (s : Shape) (old sub new : Command) → app_of old ≡ t → IsCommand s sub
    → AddsSubcommand old sub new → app_of new ≡ with_subcommand t s
joined t s old sub new e is adds = adds.shape is.1 ∙ ap₂ with_subcommand e (ap (λ (a : App). a.top) is.0)

pub joined_ok : {E : Type 0} (t : App) (s : Shape) (old sub : Command) (made : Result Command E) → app_of old ≡ t
    → IsCommand s sub → IfOk made (AddsSubcommand old sub) → IfOk made (λ new. app_of new ≡ with_subcommand t s)
joined_ok t s old sub (Ok new) e is adds = joined t s old sub new e is adds
joined_ok t s old sub (Err e) is more adds = tt

-- the settings of the top command
abbrev pub no_name : Command-F Command → Command-F Command
no_name fields = record fields { no_binary_name = true }

abbrev pub requiring : Command-F Command → Command-F Command
requiring fields = record fields { subcommand_required = true }

abbrev pub set_up : App → App
set_up app = record { top = record app.top { no_binary_name = true; subcommand_required = true }; subs = app.subs }

pub top_is : (t : App) (old named made : Command) → app_of old ≡ t → out-Command named ≡ no_name (out-Command old)
    → out-Command made ≡ requiring (out-Command named) → app_of made ≡ set_up t
top_is t old named made e first second = ap app_of_fields (second ∙ ap requiring first) ∙ ap set_up e
