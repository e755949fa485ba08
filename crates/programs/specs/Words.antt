-- The words of a command line. Assumes nothing.
use Rattle.std.specs.Prelude.{◌≡◌, ℕ, List, ◌∷◌, string_bytes, codes, String, ◌≢◌}
use Rattle.std.specs.declared.alloc.Global.{Global}
use Rattle.programs.specs.declared.line.Word.{Word}
use Rattle.programs.specs.declared.line.Word.TheVariants.{Help, ExitCode, Unknown, Plain}

-- a word that begins with two dashes is an option
abbrev pub OptionLike : List ℕ → Type 0
OptionLike word = (rest : List ℕ) × (word ≡ 45 ∷ 45 ∷ rest)

-- a word of a command that is no option
abbrev pub NoOption : String Global → Type 0
NoOption word = OptionLike (string_bytes word) → ⊥

-- which word it is
abbrev pub IsWord : Word → List ℕ → Type 0
IsWord Help word = word ≡ codes "--help"
IsWord ExitCode word = word ≡ codes "--exit-code"
IsWord Unknown word = OptionLike word × (word ≢ codes "--help") × (word ≢ codes "--exit-code")
IsWord Plain word = OptionLike word → ⊥
