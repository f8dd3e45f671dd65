-- The subcommands, joined in order, are the literal of the definitions.
use Rattle.command_words.specs.CommandLine.{play_shape, run_shape, replay_shape, make_shape, keys_shape, key_shape}
use Rattle.command_words.specs.CommandLine.{verify_shape, parts_shape, rebuild_shape, blame_shape, trend_shape, delays_shape, page_shape}
use Rattle.command_words.specs.CommandLine.{picture_shape, plot_shape, chart_shape, merge_shape}
use Rattle.command_words.proofs.command_line.command_line.Goals as goal

pub returns : goal.returns
returns c =
    let first = c.joined-commands.ensures _ play_shape c.top.ensures c.play.ensures in
    let second = c.joined-commands-2.ensures _ run_shape first c.run.ensures in
    let third = c.joined-commands-3.ensures _ replay_shape second c.replay.ensures in
    let fourth = c.joined-commands-4.ensures _ make_shape third c.make.ensures in
    let fifth = c.joined-commands-5.ensures _ keys_shape fourth c.keys.ensures in
    let sixth = c.joined-commands-6.ensures _ key_shape fifth c.key.ensures in
    let seventh = c.joined-commands-7.ensures _ verify_shape sixth c.verify.ensures in
    let eighth = c.joined-commands-8.ensures _ parts_shape seventh c.parts.ensures in
    let ninth = c.joined-commands-9.ensures _ rebuild_shape eighth c.rebuild.ensures in
    let tenth = c.joined-commands-10.ensures _ blame_shape ninth c.blame.ensures in
    let eleventh = c.joined-commands-11.ensures _ trend_shape tenth c.trend.ensures in
    let twelfth = c.joined-commands-12.ensures _ delays_shape eleventh c.delays.ensures in
    let thirteenth = c.joined-commands-13.ensures _ page_shape twelfth c.page.ensures in
    let fourteenth = c.joined-commands-14.ensures _ picture_shape thirteenth c.picture.ensures in
    let fifteenth = c.joined-commands-15.ensures _ plot_shape fourteenth c.plot.ensures in
    let sixteenth = c.joined-commands-16.ensures _ chart_shape fifteenth c.chart.ensures in
    c.joined.ensures _ merge_shape sixteenth c.merge.ensures
