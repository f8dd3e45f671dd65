-- Each of the eight words is made of those before it.
use Rattle.std.proofs.Common.{◌≡◌, ◌+◌, ◌∙◌, arith, length, refl, slice_index}
use Rattle.std.proofs.lemmas.List.{length-map}
use Rattle.lane_chains.specs.Lanes.{column}
use Rattle.lane_chains.proofs.RoundsOneByOne.{Scheduled, scheduled_more}
use Rattle.lane_chains.proofs.rounds.put_words.Goals as goal

pub returns : goal.returns
returns c = λ j lt b held.
    let t = c.args.t in
    let low = c.requires.low in
    let high = c.requires.high in
    let r = c.args.room.now in
    let long : length (column j r) ≡ 64 = length-map r (λ v. slice_index v j) ∙ c.told-room in
    let s0 : Scheduled b (column j r) t = record { long = long; words = held } in
    let s1 = scheduled_more b _ _ t (t + 1) s0 (omega arith) (omega arith) refl (c.put_word.ensures j lt) in
    let s2 = scheduled_more b _ _ (t + 1) (t + 2) s1 (omega arith) (omega arith) (omega arith) (c.put_word-2.ensures j lt) in
    let s3 = scheduled_more b _ _ (t + 2) (t + 3) s2 (omega arith) (omega arith) (omega arith) (c.put_word-3.ensures j lt) in
    let s4 = scheduled_more b _ _ (t + 3) (t + 4) s3 (omega arith) (omega arith) (omega arith) (c.put_word-4.ensures j lt) in
    let s5 = scheduled_more b _ _ (t + 4) (t + 5) s4 (omega arith) (omega arith) (omega arith) (c.put_word-5.ensures j lt) in
    let s6 = scheduled_more b _ _ (t + 5) (t + 6) s5 (omega arith) (omega arith) (omega arith) (c.put_word-6.ensures j lt) in
    let s7 = scheduled_more b _ _ (t + 6) (t + 7) s6 (omega arith) (omega arith) (omega arith) (c.put_word-7.ensures j lt) in
    (scheduled_more b _ _ (t + 7) (t + 8) s7 (omega arith) (omega arith) (omega arith) (c.put_word-8.ensures j lt)).words
