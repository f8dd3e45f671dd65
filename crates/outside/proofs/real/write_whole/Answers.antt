-- What the writer took so far and the rest are the whole piece. A write that takes nothing ends it with a
-- beginning written, and an empty rest means that all of it is.
use Rattle.std.proofs.Common.{◌≡◌, ◌++◌, take, sym, ap, ◌∙◌, append_assoc}
use Rattle.std.proofs.lemmas.List.{take-append-drop}
use Rattle.std.proofs.KnownBytes.{Appends-trans, Appends-kept}
use Rattle.outside.proofs.Written.{written-beginning, written-more}
use Rattle.outside.proofs.real.write_whole.Goals as goal

pub returns-in-Ok-eq0-clause-beginning : goal.returns-in-Ok-eq0-clause-beginning
returns-in-Ok-eq0-clause-beginning g c =
    let before = c.loop-rest.invariant in
    written-more _ _ _ c.args.piece.now before.done c.loop-rest.rest.now c.in-Ok-eq0.field-0 before.whole
    before.written c.in-Ok-eq0.ensures.bytes

pub loop-rest-preserved : goal.loop-rest-preserved
loop-rest-preserved g c =
    let rest = c.loop-rest.rest.now in
    let taken = c.in-Ok.taken in
    let before = c.loop-rest.invariant in
    let cut : rest ≡ take taken rest ++ c.split_at.result.1.now =
    sym (ap (λ back. take taken rest ++ back) c.split_at.ensures.back ∙ take-append-drop taken rest) in
    record {
      done = before.done ++ take taken rest;
      whole = before.whole ∙ ap (λ more. before.done ++ more) cut
          ∙ sym (append_assoc before.done (take taken rest) c.split_at.result.1.now);
      written = Appends-trans _ _ _ before.done (take taken rest) before.written c.in-Ok.ensures.bytes;
    }

pub returns-in-Err-clause-beginning : goal.returns-in-Err-clause-beginning
returns-in-Err-clause-beginning g c =
    let before = c.loop-rest.invariant in
    written-beginning _ _ c.args.piece.now before.done c.loop-rest.rest.now before.whole
    (Appends-kept _ _ _ before.done before.written c.in-Err.ensures.bytes)

pub returns-clause-beginning : goal.returns-clause-beginning
returns-clause-beginning g c =
    let before = c.loop-rest.invariant in
    written-beginning _ _ c.args.piece.now before.done c.loop-rest.rest.now before.whole
    (Appends-kept _ _ _ before.done before.written c.flush.ensures.bytes)
