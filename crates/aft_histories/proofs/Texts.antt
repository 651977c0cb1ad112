-- The definitions of texts, opened together, so that texts of closed values compute.
use Rattle.std.specs.Fmt.{digits}
use Rattle.hex.specs.Hex.{encode_with}
use Rattle.uuid.specs.Text.{by_index}

-- what opens the texts
unfoldable pub texts : Unit {0}
unfolding digits encode_with by_index
texts = tt
