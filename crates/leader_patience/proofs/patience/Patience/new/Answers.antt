use Rattle.std.proofs.Common.{refl, sym, arith}
use Rattle.std.proofs.lemmas.Bool.{le-ltb}
use Rattle.leader_patience.proofs.Votes.{all_alike}
use Rattle.leader_patience.proofs.patience.Patience.new.Goals as goal

pub returns : goal.returns
returns c = λ clients. record {
  masters = refl;
  intruded = refl;
  away = refl;
  voted = λ master lt. all_alike 14 master 0;
  own = λ v. sym (le-ltb v 0 (omega arith));
}
