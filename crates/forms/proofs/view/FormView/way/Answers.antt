use Rattle.std.proofs.Common.{◌≡◌, ℕ, ◌<◌, Bor, List, [], length, get_or, take, drop, ap, sym, subst, ◌∙◌, arith}
use Rattle.forms.specs.declared.room.Room.{Room}
use Rattle.forms.specs.declared.view.FormView.{FormView}
use Rattle.forms.specs.Form.{ways_at}
use Rattle.forms.specs.Fits.{PlaceKeepsTo}
use Rattle.forms.specs.Layout.{place_in, room_kinds, room_ways, way_start}
use Rattle.forms.specs.View.{form_of}
use Rattle.forms.proofs.Same.{WayCut}
use Rattle.forms.proofs.Views.{view_kind, view_way, view_place, view_room, view_cut}
use Rattle.forms.proofs.view.FormView.way.Goals as goal

-- What is cut out of the row at the index that is read.
cut_at : (ways : List (List ℕ)) (cut : ℕ → List ℕ) (i w : ℕ) → i ≡ w → get_or ways w [] ≡ cut w → get_or ways i [] ≡ cut w
cut_at ways cut i w e h = ap (λ (n : ℕ). get_or ways n []) e ∙ h

-- What is cut out of the row, for the way that is asked for.
cut_of : (v : FormView) (row : Bor (List ℕ)) (room : Room) (k w i : ℕ) → k < length (form_of v) → w < length (ways_at (form_of v) k) →
    row ≡ v.row → room ≡ v.room → (ways : List (List ℕ)) → ((j : ℕ) → j < room_ways room → get_or ways j [] ≡ take 16 (drop (way_start room k j) row.now)) →
    i ≡ w → WayCut (length (form_of v)) (get_or ways i []) v.row.now (way_start v.room k w)
cut_of v row room k w i l m e f ways h same =
    let r = view_room v k w l m in
    view_cut v row room k w l m e f (cut_at ways (λ j. take 16 (drop (way_start room k j) row.now)) i w same (h w (omega (arith, ap room_ways f))))

pub room_for_ways-requires : goal.room_for_ways-requires
room_for_ways-requires c =
    let k = view_kind c.args.self.now c.args.kind c.requires.kind_there in
    omega (arith, ap room_kinds c.laid.ensures.room)

pub invariant_of-result : goal.invariant_of-result
invariant_of-result c =
    record { fits = (cut_of c.args.self.now _ _ c.args.kind c.args.way _ c.requires.kind_there c.requires.way_there c.laid.ensures.row c.laid.ensures.room _ c.room_for_ways.ensures.1 (omega arith)).fits }

pub returns-clause-is : goal.returns-clause-is
returns-clause-is c =
    let v = c.args.self.now in
    let t = view_way v c.args.kind c.args.way c.requires.kind_there c.requires.way_there in
    (cut_of v _ _ c.args.kind c.args.way _ c.requires.kind_there c.requires.way_there c.laid.ensures.row c.laid.ensures.room _ c.room_for_ways.ensures.1 (omega arith)).is ∙ sym t.is

pub returns-clause-limits : goal.returns-clause-limits
returns-clause-limits c = (view_way c.args.self.now c.args.kind c.args.way c.requires.kind_there c.requires.way_there).keeps

pub returns-clause-places : goal.returns-clause-places
unfolding place_in
returns-clause-places c = λ i j.
    let v = c.args.self.now in
    let p = view_place v c.args.kind c.args.way i c.requires.kind_there c.requires.way_there j in
    subst (PlaceKeepsTo (length (form_of v))) (sym p.is) (p.fits.name, p.fits.kind)
