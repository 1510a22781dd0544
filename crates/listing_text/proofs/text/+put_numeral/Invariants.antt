-- `put_numeral` calls itself with the digits before the last; the measure is the number.
use Rattle.listing_text.proofs.text.+put_numeral.Given as goal

abbrev pub decreases-put_numeral : goal.decreases-put_numeral
decreases-put_numeral l = l.n
