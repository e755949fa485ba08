-- Papers as they come in a stream. Assumes nothing.
use Rattle.std.specs.Prelude.{◌≡◌, ℕ, ◌+◌, ◌*◌, ◌<◌, ◌≤◌, List, [], ◌∷◌, ◌++◌, length, take, drop, Some, None, Ok, Err, Option, Result, slice_index}
use Rattle.programs.specs.Bytes.{four, numbers_in}
use Rattle.take_papers.specs.declared.broken.Broken.{Broken}
use Rattle.take_papers.specs.declared.broken.Broken.TheVariants.{TooLong, InLength, InPaper, Unread}
use Rattle.take_papers.specs.Held.{GoesOn}

-- the number that the first four bytes are
abbrev pub first : List ℕ → ℕ
first bytes = four (slice_index bytes 0) (slice_index bytes 1) (slice_index bytes 2) (slice_index bytes 3)

-- why no paper begins these bytes
abbrev pub Breaks : List ℕ → Broken → Type 0
Breaks bytes (TooLong n) = (4 ≤ length bytes) × (first bytes ≡ n) × (1000 < n)
Breaks bytes InLength = (0 < length bytes) × (length bytes < 4)
Breaks bytes InPaper = (4 ≤ length bytes) × (length bytes < 4 + 4 * first bytes)
Breaks bytes (Unread error) = Unit {0}

-- how many numbers the paper has that begins these bytes
abbrev pub Counted : List ℕ → Result (Option ℕ) Broken → Type 0
Counted bytes (Ok None) = bytes ≡ []
Counted bytes (Ok (Some n)) = (4 ≤ length bytes) × (first bytes ≡ n) × (n ≤ 1000)
Counted bytes (Err broken) = Breaks bytes broken

-- a paper of n numbers: the bytes before and those that came are the bytes used and those after; the bytes used are the
-- paper's length and its numbers, and these are the front of the row
pub record Came (before after old row : List ℕ) (n : ℕ) : Type 0 where
  pub few : n ≤ 1000
  pub came : List ℕ
  pub used : List ℕ
  pub all : before ++ came ≡ used ++ after
  pub size : length used ≡ 4 + 4 * n
  pub numbers : numbers_in used ≡ n ∷ take n row
  pub rest : drop n row ≡ drop n old

-- what the next paper of a stream comes to: the bytes held before and after, and the row before and after
abbrev pub Comes : (before after old row : List ℕ) → Result (Option ℕ) Broken → Type 0
Comes before after old row (Ok None) = (before ≡ []) × (after ≡ []) × (row ≡ old)
Comes before after old row (Ok (Some n)) = Came before after old row n
Comes before after old row (Err broken) = GoesOn before after × Breaks after broken × (row ≡ old)
