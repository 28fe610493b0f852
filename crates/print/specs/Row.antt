-- A row of bytes that lines are put into.
use Rattle.std.specs.Prelude.{ℕ, List, ◌++◌, length, drop}

-- the row with the line at its start, and as it was after that
abbrev pub starting : List ℕ → List ℕ → List ℕ
starting line row = line ++ drop (length line) row
