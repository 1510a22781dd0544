-- `listing_text::text::put_numeral` meets its contract: the digits before the last are the numeral of the tenth part.
use Rattle.rules.proofs.Texts.{numeral_one, numeral_more}
use Rattle.listing_text.proofs.Writing.{wrote_both_in}
use Rattle.listing_text.proofs.text.+put_numeral.Goals as goal

pub returns-then-n-lt10 : goal.returns-then-n-lt10
returns-then-n-lt10 t c = rw (numeral_one _ c.if-n-lt10.true) c.put_byte.ensures

pub returns : goal.returns
returns t c = rw (numeral_more _ c.if-n-lt10.false) (wrote_both_in c.put_numeral-last.ensures c.put_byte-2.ensures)
