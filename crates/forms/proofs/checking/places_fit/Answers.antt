use Rattle.std.proofs.Common.{◌≡◌, ℕ, ◌+◌, ◌-◌, ◌*◌, ◌^◌, ◌<◌, ◌≤◌, Bool, true, false, ◌&&◌, ltb, leb, List, [], length, get_or, take, drop, ap, sym, subst, refl, ◌∙◌, inl, inr, arith, rules, tests}
use Rattle.std.proofs.lemmas.Bool.{cases_order}
use Rattle.std.proofs.lemmas.Bool.Decides.{nat_tests}
use Rattle.std.proofs.lemmas.Iterator.{YieldsList-from_slice}
use Rattle.std.proofs.lemmas.Iterator.Search.{all_from_yields_List}
use Rattle.std.proofs.lemmas.List.{length-take-le, get_or-take}
use Rattle.std.proofs.lemmas.List.Sorted.{answers_always}
use Rattle.std.specs.List.{list_all, IsAllAdjacentAnswer}
use Rattle.forms.specs.Fits.{every, place_fits, place_within, name_above}
use Rattle.forms.specs.Layout.{name_in, kind_in, mark_in}
use Rattle.forms.proofs.Chunks.{place_numbers}
use Rattle.forms.proofs.Every.{every_same, every_and, every_taken, every_from, every_off}
use Rattle.forms.proofs.checking.places_fit.Goals as goal

-- Place i keeps to the limits, its order aside.
abbrev within : ℕ → List ℕ → ℕ → Bool
within n way i = leb (mark_in way 0 i) 1 && (ltb (kind_in way 0 i) n && ltb (name_in way 0 i) (2 ^ 32))

-- Each of the first n places fits where each keeps to the limits, and each name is above the one before it.
parts : (kinds : ℕ) (way : List ℕ) (n : ℕ) → every (place_fits kinds way 0) n ≡ (every (within kinds way) n && every (name_above way 0) n)
unfolding place_fits
parts kinds way n =
    every_same (place_fits kinds way 0) (λ i. within kinds way i && name_above way 0 i) n (λ i l. last (leb (mark_in way 0 i) 1) (ltb (kind_in way 0 i) kinds) (ltb (name_in way 0 i) (2 ^ 32)) (name_above way 0 i))
    ∙ every_and (within kinds way) (name_above way 0) n
  where
    last : (a b c d : Bool) → (a && (b && (c && d))) ≡ ((a && (b && c)) && d)
    last false b c d = refl
    last true false c d = refl
    last true true c d = refl

-- The names of the first n places rise.
rising : (way : List ℕ) (xs : List (List ℕ)) (n : ℕ) (b : Bool) → length xs ≡ n → ((i : ℕ) → i < n → get_or (get_or xs i []) 0 0 ≡ name_in way 0 i) →
    IsAllAdjacentAnswer (λ x y r. r ≡ ltb (get_or x 0 0) (get_or y 0 0)) xs b → b ≡ every (name_above way 0) n
rising way xs n true l at h = sym (every_from (name_above way 0) n go)
  where
    go : (i : ℕ) → i < n → name_above way 0 i ≡ true
    go i m =
        elim (cases_order 0 i) [
          | inl e ↦ grind (arith, nat_tests)
          | inr o ↦
              elim o [
                | inl b ↦
                    let before = at (i - 1) (omega arith) in
                    let here = at i m in
                    let e : i - 1 + 1 ≡ i = omega arith in
                    let t = subst (λ (j : ℕ). true ≡ ltb (get_or (get_or xs (i - 1) []) 0 0) (get_or (get_or xs j []) 0 0)) e (h (i - 1) [] (omega arith)) in
                    grind (arith, nat_tests)
                | inr b ↦ absurd (omega arith)
              ]
        ]
rising way xs n false l at h =
    let k = h.0 in
    let before = at k (omega arith) in
    let here = at (k + 1) (omega arith) in
    let t = h.2 [] in
    let e : k + 1 - 1 ≡ k = omega arith in
    sym (every_off (name_above way 0) n (k + 1) (omega arith) (grind (arith, nat_tests)))

-- Whether each of the first n places keeps to the limits, its order aside.
each : (kinds : ℕ) (way : List ℕ) (xs : List (List ℕ)) (n : ℕ) → n ≤ length xs →
    ((i : ℕ) → i < n → get_or xs i [] ≡ take 3 (drop (4 + 3 * i) way)) →
    list_all (place_within kinds) (take n xs) ≡ every (within kinds way) n
each kinds way xs n l at =
    every_taken (place_within kinds) (within kinds way) xs [] n l λ i m.
    let e = place_numbers way (get_or xs i []) i (at i m) in rw (e.0, e.1, e.2)

pub returns-then-all : goal.returns-then-all
returns-then-all c =
    let way = c.args.way.now in
    let n = c.args.places in
    let kinds = c.args.kinds in
    let xs = c.places.result.now in
    let long : n ≤ length xs = omega arith in
    let all : c.all.result ≡ list_all (place_within kinds) (take n xs) =
    all_from_yields_List (place_within kinds) _ _ _ c.all.ensures.ran (YieldsList-from_slice (take n xs) c.iter.ensures.rest) (λ x b q k. search (rules, tests)) in
    let h = c.is_sorted_by.ensures.cases (λ x y. ltb (get_or x 0 0) (get_or y 0 0)) (answers_always _ _ _ (λ f a r g k. search (rules, tests))) in
    let sorted : c.is_sorted_by.result ≡ every (name_above way 0) n =
    rising way (take n xs) n c.is_sorted_by.result (length-take-le n xs long)
    (λ i m. rw (get_or-take n xs i [] m) (place_numbers way (get_or xs i []) i (c.places.ensures.places i (omega arith))).0) h in
    let within-all : every (within kinds way) n ≡ true = sym (each kinds way xs n long (λ i m. c.places.ensures.places i (omega arith))) ∙ (sym all ∙ c.if-all.true) in
    sym (parts kinds way n ∙ (ap (λ b. b && every (name_above way 0) n) within-all ∙ sym sorted))

pub returns-else-all : goal.returns-else-all
returns-else-all c =
    let way = c.args.way.now in
    let n = c.args.places in
    let kinds = c.args.kinds in
    let xs = c.places.result.now in
    let long : n ≤ length xs = omega arith in
    let all : c.all.result ≡ list_all (place_within kinds) (take n xs) =
    all_from_yields_List (place_within kinds) _ _ _ c.all.ensures.ran (YieldsList-from_slice (take n xs) c.iter.ensures.rest) (λ x b q k. search (rules, tests)) in
    let within-all : every (within kinds way) n ≡ false = sym (each kinds way xs n long (λ i m. c.places.ensures.places i (omega arith))) ∙ (sym all ∙ c.if-all.false) in
    c.if-all.false ∙ sym (parts kinds way n ∙ ap (λ b. b && every (name_above way 0) n) within-all)
