-- The header's numbers, by the layout's fields.
use Rattle.std.specs.Prelude.{ℕ, cond, List, length, leb}
use Rattle.layout.specs.Recording.{header_length}
use Rattle.layout.specs.Opening.{header_count, index_offset, system_offset, user_offset}
use Rattle.header.specs.declared.Header.{Header}

-- the header's four numbers; all 0 where the file is too short to have them
unfoldable pub header_of : List ℕ → Header
header_of f =
    cond (leb header_length (length f))
    (record { count = header_count f; index = index_offset f; system = system_offset f; user = user_offset f })
    (record { count = 0; index = 0; system = 0; user = 0 })
