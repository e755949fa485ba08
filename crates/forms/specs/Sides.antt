-- Of two forms that are refused, the one that is at fault first. Assumes nothing.
use Rattle.std.specs.Prelude.{◌≡◌, ℕ, ◌<◌, ◌≤◌, true, false, ◌⊎◌, List, length, codes}
use Rattle.forms.specs.declared.room.Room.TheVariants.{Plain}
use Rattle.forms.specs.declared.blame.Side.{Side}
use Rattle.forms.specs.declared.blame.Side.TheVariants.{First, Second}
use Rattle.forms.specs.Fits.{form_fits}
use Rattle.forms.specs.Layout.{form_in}

-- The first form is none, or has no kind k; or it is a form, and the second is none, or has no kind j while the first has kind k.
abbrev pub Speaks : Side → List ℕ → List ℕ → ℕ → ℕ → Type 0
Speaks First one two k j = (form_fits Plain one ≡ false) ⊎ (length (form_in Plain one) ≤ k)
Speaks Second one two k j =
    (form_fits Plain one ≡ true)
    × ((form_fits Plain two ≡ false) ⊎ ((k < length (form_in Plain one)) × (length (form_in Plain two) ≤ j)))

-- What is printed of it.
abbrev pub side_name : Side → List ℕ
side_name First = codes "first"
side_name Second = codes "second"
