-- What a block of bytes holds, and bytes that go on. Assumes nothing.
use Rattle.std.specs.Prelude.{◌≡◌, ℕ, List, ◌++◌}

-- a block as its steps see it: how many bytes stand before those that it holds, and these
pub record Holding : Type 0 where
  pub before : ℕ
  pub bytes : List ℕ

-- the same, and then what came
abbrev pub GoesOn : List ℕ → List ℕ → Type 0
GoesOn before after = (came : List ℕ) × (after ≡ before ++ came)
