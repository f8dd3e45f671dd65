-- With its line the last entry is counted, and its words and notes are told behind it.
use Rattle.std.proofs.Common.{◌≡◌, ℕ, ◌+◌, ◌-◌, ◌<◌, ◌^◌, List, [], ◌∷◌, ◌++◌, length, codes, refl, sym, ◌∙◌, ap, arith}
use Rattle.std.proofs.lemmas.List.{length-append}
use Rattle.kept_lines.specs.Lines.{kept_line}
use Rattle.printed_history.specs.Reading.{contents_in}
use Rattle.world_entries.specs.Entries.{entry_of}
use Rattle.stations.specs.Marks.{reached_by}
use Rattle.stations.specs.Station.{IsAhead, list_of}
use Rattle.stations.proofs.Entering.{no_room, counted_ready, enters_so}
use Rattle.stations.proofs.station.Station.keep_last.Goals as goal

pub returns-then-size-gt-MOST_KEPT-clause-full : goal.returns-then-size-gt-MOST_KEPT-clause-full
returns-then-size-gt-MOST_KEPT-clause-full c = λ full.
    no_room c.args.self.now (reached_by c.args.since) c.requires c.put_last.new.bytes.items (c.args.self.now.size + c.len.result)
    (c.in_ok-put_last.ensures c.requires.before c.requires.entry c.requires.whole
    ∙ ap (λ (bs : List ℕ). bs ++ (kept_line (contents_in c.args.self.now.so_far) c.requires.before c.requires.entry
    ++ codes "\n")) c.new-line.ensures.items)
    (omega (arith, c.len.ensures, c.put_last.new.bytes.ok)) c.if-size-gt-MOST_KEPT.true

pub say_at-requires-clause-ready : goal.say_at-requires-clause-ready
say_at-requires-clause-ready c =
    counted_ready c.args.self.now _ (reached_by c.args.since) c.requires c.put_last.new.bytes.items (entry_of c.last.result.now)
    (c.in_ok-put_last.ensures c.requires.before c.requires.entry c.requires.whole
    ∙ ap (λ (bs : List ℕ). bs ++ (kept_line (contents_in c.args.self.now.so_far) c.requires.before c.requires.entry
    ++ codes "\n")) c.new-line.ensures.items)
    refl refl (omega (arith, c.len.ensures, c.put_last.new.bytes.ok)) (omega (arith, c.if-size-gt-MOST_KEPT.false))
    (c.last.ensures c.requires.before c.requires.entry c.requires.whole)
    (c.in_ok-add.ensures c.requires.before c.requires.ready.taken)

pub tell_since-requires : goal.tell_since-requires
tell_since-requires c =
    counted_ready c.args.self.now _ (reached_by c.args.since) c.requires c.put_last.new.bytes.items (entry_of c.last.result.now)
    (c.in_ok-put_last.ensures c.requires.before c.requires.entry c.requires.whole
    ∙ ap (λ (bs : List ℕ). bs ++ (kept_line (contents_in c.args.self.now.so_far) c.requires.before c.requires.entry
    ++ codes "\n")) c.new-line.ensures.items)
    refl refl (omega (arith, c.len.ensures, c.put_last.new.bytes.ok)) (omega (arith, c.if-size-gt-MOST_KEPT.false))
    (c.last.ensures c.requires.before c.requires.entry c.requires.whole)
    (c.in_ok-add.ensures c.requires.before c.requires.ready.taken)

pub returns-clause-entered : goal.returns-clause-entered
returns-clause-entered c = λ ahead.
    let line = c.in_ok-put_last.ensures ahead.before ahead.entry ahead.whole
    ∙ ap (λ (bs : List ℕ). bs ++ (kept_line (contents_in c.args.self.now.so_far) ahead.before ahead.entry
    ++ codes "\n")) c.new-line.ensures.items in
    let long : length (list_of c.args.self.now) ≡ length ahead.before + 1 =
    ap length ahead.whole ∙ length-append ahead.before (ahead.entry ∷ []) in
    enters_so c.args.self.now _ (reached_by c.args.since) ahead c.put_last.new.bytes.items c.args.batch.now
    c.keep.new.self c.say_at.new.batch c.tell_since.new.batch line
    (counted_ready c.args.self.now _ (reached_by c.args.since) ahead c.put_last.new.bytes.items (entry_of c.last.result.now) line refl refl
    (omega (arith, c.len.ensures, c.put_last.new.bytes.ok)) (omega (arith, c.if-size-gt-MOST_KEPT.false))
    (c.last.ensures ahead.before ahead.entry ahead.whole) (c.in_ok-add.ensures ahead.before ahead.ready.taken))
    refl refl
    (c.in_ok-keep.ensures.done
    ∙ ap (λ (bs : List ℕ). record c.args.batch.now { lines = c.args.batch.now.lines ++ bs }) c.as_slice.ensures.value)
    (c.in_ok-say_at.ensures ahead.before [] ahead.entry ahead.whole (omega (arith, c.len-2.ensures, long)))
    c.in_ok-tell_since.ensures
