use Rattle.std.proofs.Common.{subst}
use Rattle.std.specs.Prelude.{IfSome}
use Rattle.world_entries.specs.Entries.{event_of}
use Rattle.entry_texts.specs.Fits.{FitsEntry}
use Rattle.entry_texts.proofs.TextLaws.{fits_count}
use Rattle.text_tests.proofs.entries.comes_back.Goals as goal

pub spell_entry-requires : goal.spell_entry-requires
spell_entry-requires c =
    fits_count c.in-Some.stamp (event_of c.in-Some.event)
    (subst (λ r. IfSome r (λ e. FitsEntry e.0 (event_of e.1))) c.in-Some.is c.in_ok-stamp.ensures.fits)
