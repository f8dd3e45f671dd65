-- A cry has the one frame that its bytes spell, or none.
use Rattle.std.proofs.Common.{refl}
use Rattle.std.proofs.lemmas.Result.{on_ok_weaker}
use Rattle.std.specs.Prelude.{codes, string_bytes}
use Rattle.run_page.specs.Details.{word_line}
use Rattle.run_page.proofs.Told.{cried_put, none_cried}
use Rattle.run_page.proofs.said.put_cry.Goals as goal

pub returns-in-Some : goal.returns-in-Some
returns-in-Some c =
    on_ok_weaker c.put_line.result
    (λ made. cried_put (λ frame. word_line c.args.cast c.args.stamp (codes " said ") frame.signer frame.body)
    (string_bytes c.args.text.now) _ c.in-Some.frame _ (rw c.in-Some.is at c.in_ok-found.ensures.found) made)
    c.put_line.ensures

pub returns-in-None : goal.returns-in-None
returns-in-None c =
    none_cried (λ frame. word_line c.args.cast c.args.stamp (codes " said ") frame.signer frame.body)
    (string_bytes c.args.text.now) _ _ (rw c.in-None.is at c.in_ok-found.ensures.found) refl
