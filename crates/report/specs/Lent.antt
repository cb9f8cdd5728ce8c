-- What a caller lends goes by the log's edition (02, 10/12): edition 1 is for A up to 64, edition 2 for 65 to 128.
use Rattle.std.specs.Prelude.{List, ℕ}
use Rattle.sets.specs.Tests.{when◌then◌else◌}
use Rattle.sets.specs.Members.{width, word}
use Rattle.octets.specs.Editions.{wide_in}

-- how many activities a log may have: 128 in edition 2, else 64
unfoldable pub most_in : List ℕ → ℕ
most_in log = when wide_in log then width else word
