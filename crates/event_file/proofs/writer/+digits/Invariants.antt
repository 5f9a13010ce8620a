-- `digits` calls itself with a ten thousandth of the number. The measure is the number. Assumes nothing.
use Rattle.event_file.proofs.writer.+digits.Given as goal

abbrev pub decreases-digits : goal.decreases-digits
decreases-digits l = l.n
