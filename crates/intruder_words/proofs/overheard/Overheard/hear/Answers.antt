use Rattle.std.proofs.Common.{◌++◌, ◌∙◌, ap}
use Rattle.intruder_words.proofs.Fits.{spelled-more}
use Rattle.intruder_words.proofs.overheard.Overheard.hear.Goals as goal

pub invariant_of-self-2 : goal.invariant_of-self-2
invariant_of-self-2 c = spelled-more c.self.inside.known.items c.args.frame.now c.append.new.self.items
    c.self.invariant c.requires
    (c.in_ok-append.ensures.items ∙ ap (λ fs. c.self.inside.known.items ++ fs) c.in_ok-parts.ensures)
