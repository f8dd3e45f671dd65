use Rattle.view_change.proofs.InPlace.{new_view-spelled}
use Rattle.view_change.proofs.laws.new_views_in_place_can_be_taken.Goals as goal

pub returns : goal.returns
returns c = new_view-spelled
