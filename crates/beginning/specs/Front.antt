-- What this crate writes of a set-up list: the header, the definitions and where the system table stands.
use Rattle.std.specs.Prelude.{ℕ, ◌+◌, ◌≤◌, List, [], ◌∷◌, ◌++◌, length}
use Rattle.number.specs.Number.{bytes_of}
use Rattle.layout.specs.Recording.{Section, file_mark, revision, definitions_end, header_bytes, definition_list_bytes, configurations_bytes}

-- ── To begin ──

-- the header as far as its count
unfoldable pub start_bytes : List ℕ
start_bytes = file_mark ++ (revision ∷ []) ++ bytes_of 4 0

-- the header and the definitions, of so many sections, the first configuration being at `first`
unfoldable pub head_bytes : (system first count : ℕ) → List Section → List ℕ
head_bytes system first count ss = header_bytes 0 0 system 0 ++ bytes_of 1 count ++ definition_list_bytes first ss

-- where the system table stands
unfoldable pub table_start : List Section → ℕ
table_start ss = definitions_end ss + length (configurations_bytes ss)

-- the definitions and the configurations stand within so many bytes
abbrev pub definitions_fit : List Section → (first room : ℕ) → Type 0
definitions_fit ss first room =
    (34 + length (definition_list_bytes first ss) ≤ room) × (first + length (configurations_bytes ss) ≤ room)
