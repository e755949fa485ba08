use Rattle.std.proofs.Common.{◌≡◌, ℕ, ◌<◌, ◌≤◌, Bool, false, Bor, Option, None, Some, MatchOption, List, [], length, take, drop, get_or, ap, sym, ◌∙◌, arith, rules, tests}
use Rattle.std.proofs.lemmas.Bool.Decides.{nat_tests}
use Rattle.std.proofs.lemmas.List.{take_all}
use Rattle.std.specs.List.{list_all}
use Rattle.forms.specs.declared.room.Room.{Room}
use Rattle.forms.specs.Fits.{every, kind_fits, way_fits, way_fits_in}
use Rattle.forms.specs.Layout.{room_ways, ways_count, kinds_count, way_start}
use Rattle.forms.proofs.Same.{ways_cut}
use Rattle.forms.proofs.checking.kind_fits.Goals as goal

-- The answer where there is no room for the ways, and where there is.
answered : {Told : Bor (List (List ℕ)) → Type 0} (room : Room) (row : List ℕ) (k kinds : ℕ) (r : Option (Bor (List (List ℕ)))) (b : Bool) → kinds ≡ kinds_count row →
    MatchOption r (room_ways room < ways_count room row k)
    (λ ways. (length ways.now ≡ ways_count room row k) × (length ways.now ≤ room_ways room) × ((w : ℕ) → w < length ways.now → get_or ways.now w [] ≡ take 16 (drop (way_start room k w) row))) →
    MatchOption r (b ≡ false) Told → ((ways : Bor (List (List ℕ))) → Told ways → b ≡ list_all (λ way. way_fits kinds way 0) ways.now) →
    b ≡ kind_fits room row k
unfolding kind_fits
answered room row k kinds None b e w h told = grind (arith, nat_tests)
answered room row k kinds (Some ways) b e w h told =
    let n = ways_count room row k in
    let all : take n ways.now ≡ ways.now = take_all n ways.now (omega arith) in
    let same : b ≡ every (way_fits_in room row k) n =
    told ways h ∙ (ap (list_all (λ way. way_fits kinds way 0)) (sym all) ∙ ways_cut room row k n kinds ways.now (omega arith) e (λ i l. w.2 i (omega arith))) in
    grind (arith, nat_tests)

pub returns : goal.returns
returns c =
    let v = c.args.laid.now in
    answered v.room v.row.now c.args.kind c.kinds-kinds.result c.ways.result c.is_some_and.result c.kinds-kinds.ensures c.ways.ensures c.is_some_and.ensures
    (λ ways h. search (rules, tests))
