-- One field alone of what makes a run asks which requests are certified, each by itself, and there both answer alike.
use Rattle.std.proofs.Common.{◌∙◌}
use Rattle.execution.proofs.laws.only_certificates_count.Goals as goal

pub returns : goal.returns
returns c g m certified other runs same is =
    record {
      group = is.group;
      numbers = is.numbers;
      reached = is.reached;
      requests = is.requests;
      certificates =
          λ r. is.certificates r ∙ same r;
    }
