use Rattle.std.proofs.Common.{sym}
use Rattle.intruder_words.proofs.Fits.{known-spelled, body-of-spelled}
use Rattle.intruder_words.proofs.Whole.{named-from}
use Rattle.intruder_words.proofs.digests.digest_named.Goals as goal

pub digest_in-requires : goal.digest_in-requires
digest_in-requires c =
    let meant = named-from c.args.known.now c.args.which c.in-Some.frame.now (sym c.in-Some.ensures) in
    body-of-spelled c.in-Some.frame.now (known-spelled c.args.known.now c.requires c.in-Some.frame.now meant.0)
