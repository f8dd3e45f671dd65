use Rattle.page_text.proofs.EscapedPlain.{escaped_is_plain}
use Rattle.page_text.proofs.laws.escaped_is_plain.Goals as goal

pub returns : goal.returns
returns c = escaped_is_plain
