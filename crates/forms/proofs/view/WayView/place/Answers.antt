use Rattle.std.proofs.Common.{◌≡◌, ◌+◌, ◌*◌, ℕ, List, [], get_or, take, drop, ap, ◌∙◌, sym, subst, arith}
use Rattle.forms.specs.declared.way.Place.{Place}
use Rattle.forms.specs.Fits.{PlaceKeepsTo}
use Rattle.forms.specs.Layout.{place_by, place_in}
use Rattle.forms.proofs.Chunks.{place_cut}
use Rattle.forms.proofs.Views.{way_place}
use Rattle.forms.proofs.view.WayView.place.Goals as goal

-- The place that is read at j, where j is i.
read_at : (p : Place) (way : List ℕ) (places : List (List ℕ)) (j i : ℕ) → p ≡ place_by (get_or places j []) → j ≡ i →
    get_or places i [] ≡ take 3 (drop (4 + 3 * i) way) → p ≡ place_in way 0 i
read_at p way places j i is same cut =
    is ∙ (ap (λ (x : ℕ). place_by (get_or places x [])) same ∙ place_cut way (get_or places i []) i cut)

pub returns : goal.returns
unfolding place_in
returns c =
    let v = c.args.self.now in
    let i = c.args.index in
    let p = way_place v i c.requires in
    let e : c.place_of.result ≡ place_in v.numbers.now 0 i =
    read_at c.place_of.result v.numbers.now c.places.result.now _ i c.place_of.ensures (omega arith) (c.places.ensures.places i p.few) in
    record { is = e ∙ sym p.is; limits = subst (PlaceKeepsTo 16) (sym e) (p.fits.name, p.fits.kind) }
