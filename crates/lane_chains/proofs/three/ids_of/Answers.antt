use Rattle.std.proofs.Common.{slice_index}
use Rattle.lane_chains.proofs.ThreeKeys.{id_is}
use Rattle.lane_chains.proofs.three.ids_of.Goals as goal

pub returns : goal.returns
returns c j lt =
    rw (
      c.word_of.ensures j lt,
      c.word_of-2.ensures j lt,
      c.word_of-3.ensures j lt,
      c.word_of-4.ensures j lt,
    )
    (id_is c.args.a.now c.args.b.now c.args.c.now c.id_words-x.result c.id_words-y.result c.id_words-z.result
    c.id_words-x.ensures c.id_words-y.ensures c.id_words-z.ensures (slice_index c.args.keys j))
