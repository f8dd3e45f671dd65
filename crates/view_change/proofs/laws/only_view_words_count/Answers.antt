use Rattle.view_change.proofs.Others.{view_words_alone, other_passed}
use Rattle.view_change.proofs.laws.only_view_words_count.Goals as goal

pub returns-clause-views : goal.returns-clause-views
returns-clause-views c = view_words_alone

pub returns-clause-others : goal.returns-clause-others
returns-clause-others c = other_passed
