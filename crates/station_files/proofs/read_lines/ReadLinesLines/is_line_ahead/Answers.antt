-- A line feed among what was read ahead is one of what waits.
use Rattle.std.proofs.Common.{◌≡◌, ◌∙◌, ap, false, not, subst}
use Rattle.std.specs.Option.{IfSome}
use Rattle.station_files.specs.Input.{Inlet, waiting_of}
use Rattle.station_files.specs.WholeLines.{has_no_feed}
use Rattle.station_files.proofs.Feeds.{feed_among, line_ahead}
use Rattle.station_files.proofs.read_lines.ReadLinesLines.is_line_ahead.Goals as goal

pub returns-clause-exact : goal.returns-clause-exact
returns-clause-exact g c =
    c.contains.ensures.value
    ∙ feed_among c.self.inside.ahead.items c.as_slice.result.now c.self.inside.from c.self.inside.to c.self.invariant.0
    c.as_slice.ensures.value
    ∙ ap (λ (x : Inlet). not (has_no_feed x.ahead)) c.self.view_is

pub returns-clause-waits : goal.returns-clause-waits
returns-clause-waits g c = λ is.
    subst (λ (x : Inlet). IfSome (waiting_of x) (λ bytes. has_no_feed bytes ≡ false)) c.self.view_is
    (line_ahead c.self.inside.ahead.items c.as_slice.result.now c.self.inside.from c.self.inside.to
    (g.R.Read.remaining c.self.inside.reader) c.contains.result c.self.invariant.0 c.as_slice.ensures.value
    c.contains.ensures.value is)
