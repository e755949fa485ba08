use Rattle.std.proofs.Common.{◌≡◌, ℕ, ◌<◌, ◌≤◌, true, false, Option, Some, None, MatchOption, arith, rules, tests}
use Rattle.std.proofs.lemmas.Iterator.{first_from_Range}
use Rattle.forms.specs.Fits.{kind_fits}
use Rattle.forms.proofs.checking.first_misfit.Goals as goal

-- What is found from 0 on.
from_zero : (n : ℕ) (r : Option ℕ) (Yes No : ℕ → Type 0) →
    MatchOption r ((k : ℕ) → 0 ≤ k → k < n → No k) (λ i. (0 ≤ i) × (i < n) × Yes i × ((k : ℕ) → 0 ≤ k → k < i → No k)) →
    MatchOption r ((k : ℕ) → k < n → No k) (λ i. (i < n) × Yes i × ((k : ℕ) → k < i → No k))
from_zero n None Yes No h = λ k l. h k (omega arith) l
from_zero n (Some i) Yes No h = (h.1, h.2, λ k l. h.3 k (omega arith) l)

pub returns : goal.returns
returns c =
    let fits = kind_fits c.args.laid.now.room c.args.laid.now.row.now in
    rw (← c.kinds.ensures)
    (from_zero c.kinds.result c.find.result (λ k. fits k ≡ false) (λ k. fits k ≡ true)
    (first_from_Range _ _ _ _ _ _ c.find.ensures.ran (λ x q k. search (rules, tests)) (λ x q k. (search (rules, tests), grind (arith, tests)))))
