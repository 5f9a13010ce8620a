-- The theorems, one for each line of `specs/Theorems`. Assumes nothing.
use Rattle.delays.specs.Theorems.{Theorems}
use Rattle.delays.proofs.Sending.{spaced-sends}
use Rattle.delays.proofs.Across.{decides-across, decides-across-steps}
use Rattle.delays.proofs.Window.{window-holds}
use Rattle.delays.proofs.EveryBeginning.{beginnings-keep}
use Rattle.delays.proofs.Delays.{once-each}
use Rattle.delays.proofs.Opened.{once-each-opened}
use Rattle.delays.proofs.Restart.{restarted, restarted-steps}
use Rattle.delays.proofs.StartedAgain.{none-behind-wait, handed-came, none-twice-over-lives, none-twice-in-all-lives, once-each-started-again}
use Rattle.delays.proofs.TwoLives.{once-each-both-lives}
use Rattle.delays.proofs.Outage.{none-for-another}
use Rattle.delays.proofs.FewerTicks.{fewer-ticks, none-twice}
use Rattle.delays.proofs.Promise.{up-at-first-is-once, even-once}
use Rattle.delays.proofs.Least.{least-constants, least-wait}
use Rattle.delays.proofs.ByNumber.{sharp, traffic-sharp, again-sharp}

pub theorems : Theorems
theorems = record {
  delays = λ receive m. record {
    once-each-even = even-once (once-each (decides-across m));
    once-each = once-each (decides-across m);
    once-each-opened = once-each-opened m (once-each (decides-across m));
    once-each-restarted = restarted m (once-each (decides-across m));
    once-each-started-again = once-each-started-again (once-each-opened m (once-each (decides-across m)));
    once-each-both-lives = once-each-both-lives (once-each-opened m (once-each (decides-across m)));
    none-for-another = none-for-another (decides-across m);
    none-twice = none-twice (decides-across m);
    decides-across = decides-across m;
  };
  delays-steps = λ m a. record {
    once-each-even = even-once (once-each (decides-across-steps a));
    once-each = once-each (decides-across-steps a);
    once-each-opened = once-each-opened a.receive (once-each (decides-across-steps a));
    once-each-restarted = restarted-steps a (once-each (decides-across-steps a));
    once-each-started-again = once-each-started-again (once-each-opened a.receive (once-each (decides-across-steps a)));
    once-each-both-lives = once-each-both-lives (once-each-opened a.receive (once-each (decides-across-steps a)));
    none-for-another = none-for-another (decides-across-steps a);
    none-twice = none-twice (decides-across-steps a);
    decides-across = decides-across-steps a;
  };
  window-holds = window-holds;
  fewer-ticks = fewer-ticks;
  up-at-first-is-once = up-at-first-is-once;
  spaced-sends = spaced-sends;
  beginnings-keep = beginnings-keep;
  none-behind-wait = none-behind-wait;
  handed-came = handed-came;
  none-twice-over-lives = none-twice-over-lives;
  none-twice-in-all-lives = none-twice-in-all-lives;
  least-constants = least-constants;
  least-wait = least-wait;
  sharp = sharp;
  traffic-sharp = traffic-sharp;
  again-sharp = again-sharp;
}
