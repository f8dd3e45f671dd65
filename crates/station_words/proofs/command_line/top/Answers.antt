-- Each setting changes its field.
use Rattle.std.proofs.Common.{codes}
use Rattle.clap.specs.Words.{new_app}
use Rattle.command_words.proofs.Chains.{top_is}
use Rattle.station_words.proofs.command_line.top.Goals as goal

pub returns : goal.returns
returns c =
    top_is (new_app (codes "spire")) c.new.result c.no_binary_name.result c.subcommand_required.result
    c.new.ensures.app
    c.no_binary_name.ensures c.subcommand_required.ensures
