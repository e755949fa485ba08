-- The kinds of which a listed way sees. Assumes nothing.
use Rattle.std.proofs.Common.{◌≡◌, ℕ, ◌+◌, ◌^◌, ◌<◌, Bool, true, false, ◌&&◌, ◌||◌, eqb, List, length, sym, ap, ◌∙◌}
use mathlib.Core.Bool.{and-true, and-false, or-false}
use lib.Bits.{bit_or}
use Rattle.forms.specs.Form.{Form, Way}
use Rattle.taking.specs.declared.group.WayAt.{WayAt}
use Rattle.taking.specs.Groups.{entry, listed_way, sees_as, kind_sees, kinds_seen}
use Rattle.taking.specs.Masks.{mask, some_below}
use Rattle.taking.proofs.Below.{below_none, below_suc, below_same}
use Rattle.taking.proofs.Masks.{mask_none, mask_or, mask_same}

-- no way yet
pub none_sees : (sees : Way → ℕ → Bool) (f : Form) (ws : List WayAt) → 0 ≡ mask (kind_sees sees f ws 0) (length f)
none_sees sees f ws = mask_none (kind_sees sees f ws 0) (length f) (λ k l. below_none (sees_as sees f ws k))

-- one way more, which sees or does not
module _ (sees : Way → ℕ → Bool) (f : Form) (ws : List WayAt) (i : ℕ) where
  one_more : (b : Bool) → sees (listed_way f ws i) i ≡ b → (k : ℕ) → kind_sees sees f ws (i + 1) k ≡ (kind_sees sees f ws i k || (eqb (entry ws i).kind k && b))
  unfolding sees_as
  one_more b e k = below_suc (sees_as sees f ws k) i ∙ ap (λ x. some_below (sees_as sees f ws k) i || (eqb (entry ws i).kind k && x)) e

  pub way_sees : (entry ws i).kind < length f → sees (listed_way f ws i) i ≡ true →
      bit_or (mask (kind_sees sees f ws i) (length f)) (2 ^ (entry ws i).kind) ≡ mask (kind_sees sees f ws (i + 1)) (length f)
  way_sees l e =
      mask_or (kind_sees sees f ws i) (length f) (entry ws i).kind l
      ∙ mask_same (λ k. kind_sees sees f ws i k || eqb (entry ws i).kind k) (kind_sees sees f ws (i + 1)) (length f)
      (λ k b. ap (λ x. kind_sees sees f ws i k || x) (sym (and-true (eqb (entry ws i).kind k))) ∙ sym (one_more true e k))

  pub way_blind : sees (listed_way f ws i) i ≡ false → mask (kind_sees sees f ws i) (length f) ≡ mask (kind_sees sees f ws (i + 1)) (length f)
  way_blind e =
      mask_same (kind_sees sees f ws i) (kind_sees sees f ws (i + 1)) (length f) (λ k b. sym (one_more false e k ∙ ap (λ x. kind_sees sees f ws i k || x) (and-false (eqb (entry ws i).kind k)) ∙ or-false (kind_sees sees f ws i k)))

-- ways that see the same
pub seen_same : (sees sees' : Way → ℕ → Bool) (f : Form) (ws : List WayAt) → ((i : ℕ) → i < length ws → sees (listed_way f ws i) i ≡ sees' (listed_way f ws i) i) →
    kinds_seen sees f ws ≡ kinds_seen sees' f ws
unfolding kinds_seen sees_as
seen_same sees sees' f ws h =
    mask_same (kind_sees sees f ws (length ws)) (kind_sees sees' f ws (length ws)) (length f)
    (λ k l. below_same (sees_as sees f ws k) (sees_as sees' f ws k) (length ws) (λ i b. ap (λ x. eqb (entry ws i).kind k && x) (h i b)))
