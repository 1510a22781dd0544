-- `listing::list` meets its contract: there is room for the bound, so the listing is written whole.
use native.Mathlib.Omega.{arith}
use Rattle.rules.proofs.ListingBounds.{listing_whole}
use Rattle.listing.proofs.list.Goals as goal

pub returns : goal.returns
returns c = (listing_whole c.list_table-length.ensures (omega arith)).1
