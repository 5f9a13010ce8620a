-- `calls::link::ask_link` meets its contract: 1 and 2, and then what the reader says.
use Rattle.std.proofs.Common.{ap, sym, ◌∙◌}
use Rattle.refusal.specs.Checks.{said}
use Rattle.refusal.proofs.Checks.{passed-on}
use Rattle.calls.specs.Steps.{link_asked}
use Rattle.calls.proofs.Steps.{begun-refused, begun-passed}
use Rattle.calls.proofs.link.ask_link.Goals as goal

pub returns-in_err-begin : goal.returns-in_err-begin
unfolding link_asked
returns-in_err-begin c = ap said (passed-on _ c.from_residual.ensures.1) ∙ begun-refused _ _ _ (sym c.begin.ensures ∙ c.in_err-begin.was)

pub returns : goal.returns
unfolding link_asked
returns c = c.read_link.ensures ∙ begun-passed _ _ _ (sym c.begin.ensures ∙ c.in_ok-begin.was)
