-- Laws of rows and of reading them. Each is a statement; a function's contract says that it holds.
use Rattle.std.specs.Prelude.{◌≡◌, ℕ, ◌≤◌, true, List, [], ◌++◌}
use Rattle.papers.specs.Paper.{Paper, well, deep}
use Rattle.papers.specs.Row.{row_of, fits}
use Rattle.papers.specs.Reading.{done, read_row, deepest}

-- a written paper that is read again is the same paper, and nothing is left
abbrev pub RoundTrip : Type 0
RoundTrip = (d : Paper) → well d ≡ true → fits d ≡ true → deep d ≤ deepest → read_row (row_of d) ≡ done d []

-- what is read is a written paper, well made, fitting, and not too deep
abbrev pub OnlyWritten : Type 0
OnlyWritten = (xs : List ℕ) (d : Paper) (rest : List ℕ) → read_row xs ≡ done d rest → (xs ≡ row_of d) × (rest ≡ []) × (well d ≡ true) × (fits d ≡ true) × (deep d ≤ deepest)

-- two papers with the same row are the same
abbrev pub RowInjective : Type 0
RowInjective = (d e : Paper) → row_of d ≡ row_of e → d ≡ e

-- no paper's row is a proper front of another's
abbrev pub PrefixFree : Type 0
PrefixFree = (d e : Paper) (rest : List ℕ) → row_of d ++ rest ≡ row_of e → (d ≡ e) × (rest ≡ [])
