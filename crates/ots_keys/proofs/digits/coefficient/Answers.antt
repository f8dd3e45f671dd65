use Rattle.std.proofs.Common.{refl}
use Rattle.ots_keys.specs.Digits.{coef}
use Rattle.ots_keys.proofs.digits.coefficient.Goals as goal

pub returns-clause-value : goal.returns-clause-value
unfolding coef
returns-clause-value c = rw (c.width-width.ensures, c.top_digit.ensures) refl
