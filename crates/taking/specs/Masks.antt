-- Sets of kinds as masks: bit k says whether kind k is in the set. Assumes nothing: these are definitions.
use Rattle.std.specs.Prelude.{ℕ, zero, suc, ◌+◌, ◌*◌, ◌/◌, ◌%◌, ◌^◌, Bool, true, false, ◌||◌, length, ◌==◌}
use Rattle.papers.specs.Paper.{Paper, items, fields, Papers, Fields}
use Rattle.forms.specs.Form.{Form, ways_at}
use Rattle.taking.specs.Takes.{any, list_takes, takes}

abbrev pub bit : Bool → ℕ
bit true = 1
bit false = 0

-- The set of the numbers below n that pass a test.
unfoldable pub mask : (ℕ → Bool) → ℕ → ℕ
mask p zero = 0
mask p (suc n) = bit (p n) * 2 ^ n + mask p n

-- Whether a number is in a set.
abbrev pub test : ℕ → ℕ → Bool
test t k = t / 2 ^ k % 2 == 1

-- Some number below n passes a test.
unfoldable pub some_below : (ℕ → Bool) → ℕ → Bool
some_below p zero = false
some_below p (suc n) = some_below p n || p n

-- The kinds of a form that take a paper, a list of these papers, and a record of these fields.
unfoldable pub kinds_of : Form → Paper → ℕ
kinds_of f d = mask (takes d f) (length f)

abbrev pub list_kinds : Form → Papers → ℕ
list_kinds f ds = kinds_of f (items ds)

abbrev pub record_kinds : Form → Fields → ℕ
record_kinds f fs = kinds_of f (fields fs)

-- The kinds of a form that take a list of n papers, where p says of a kind whether it takes them all.
unfoldable pub list_taken : Form → ℕ → (ℕ → Bool) → ℕ
list_taken f n p = mask (λ k. any (list_takes n p) (ways_at f k)) (length f)
