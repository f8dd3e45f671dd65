-- What was put so far and the rest make up the text, and no fault has come yet: so a refusal is of the next
-- piece, after what was put whole. A piece is never empty, so the rest gets shorter.
use Rattle.std.proofs.Common.{◌≡◌, ◌++◌, length, sym, ◌∙◌, ap, append_assoc, take, arith}
use Rattle.std.proofs.lemmas.List.{take-append-drop, length-drop}
use Rattle.outside.specs.Piece.{with_piece}
use Rattle.command_ends.specs.Output.{piece_length}
use Rattle.command_ends.proofs.Pieces.{with_piece-more, refused-after, counts-after, is_some-more}
use Rattle.command_ends.proofs.output.put_text.Goals as goal

pub loop-rest-smaller : goal.loop-rest-smaller
loop-rest-smaller g c =
    let rest = c.loop-rest.rest.now in
    let some = is_some-more rest c.loop-rest-test.ensures in
    let left = ap length c.next_piece.ensures.after ∙ length-drop piece_length rest in
    omega arith

pub loop-rest-preserved : goal.loop-rest-preserved
loop-rest-preserved g c =
    let rest = c.loop-rest.rest.now in
    let piece = c.next_piece.result.0.now in
    let after = c.next_piece.result.1.now in
    let before = c.loop-rest.invariant in
    let cut : rest ≡ piece ++ after =
    sym (ap (λ front. front ++ after) c.next_piece.ensures.piece
    ∙ ap (λ back. take piece_length rest ++ back) c.next_piece.ensures.after ∙ take-append-drop piece_length rest) in
    record {
      none = c.in-Ok.ensures.counted ∙ before.none;
      done = before.done ++ piece;
      text = before.text ∙ ap (λ more. before.done ++ more) cut ∙ sym (append_assoc before.done piece after);
      put = c.in-Ok.ensures.bytes ∙ ap (λ told. with_piece told piece) before.put
          ∙ with_piece-more (g.O.Sink.told c.args.out.now) before.done piece;
    }

pub returns-in-Err-clause-counted : goal.returns-in-Err-clause-counted
returns-in-Err-clause-counted g c =
    counts-after _ _ _ c.in-Err.answer c.loop-rest.invariant.none c.in-Err.ensures.counted

pub returns-in-Err-clause-bytes : goal.returns-in-Err-clause-bytes
returns-in-Err-clause-bytes g c =
    let rest = c.loop-rest.rest.now in
    let piece = c.next_piece.result.0.now in
    let after = c.next_piece.result.1.now in
    let before = c.loop-rest.invariant in
    let cut : rest ≡ piece ++ after =
    sym (ap (λ front. front ++ after) c.next_piece.ensures.piece
    ∙ ap (λ back. take piece_length rest ++ back) c.next_piece.ensures.after ∙ take-append-drop piece_length rest) in
    refused-after (g.O.Sink.told c.args.out.now) _ _ before.done piece after c.args.text.now c.in-Err.answer
    before.put (before.text ∙ ap (λ more. before.done ++ more) cut) c.in-Err.ensures.bytes
