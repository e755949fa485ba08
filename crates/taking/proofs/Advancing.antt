-- All listed ways are taken on by a field, one after the other. Assumes nothing.
use Rattle.std.proofs.Common.{◌≡◌, ℕ, zero, suc, ◌+◌, ◌<◌, ◌≤◌, List, Option, Some, None, length, get_or, set, replicate, sym, refl, ◌∙◌, subst, inl, inr, arith}
use Rattle.std.proofs.lemmas.List.{get_or_default, get_or-set_same, get_or-set_other}
use Rattle.std.proofs.lemmas.Bool.{cases_lt}
use Rattle.forms.specs.Form.{Form}
use Rattle.taking.specs.declared.group.WayAt.{WayAt}
use Rattle.taking.specs.Groups.{listed_places}
use Rattle.taking.specs.Advance.{progress_at, Advances}

-- before the first field
pub all_first : (n i : ℕ) → get_or {A = Option ℕ} (replicate n (Some 0)) i (Some 0) ≡ Some 0
all_first zero i = refl
all_first (suc n) zero = refl
all_first (suc n) (suc i) = all_first n i

-- the ways before j are taken on, and the others are as they were
pub record Advanced (f : Form) (ws : List WayAt) (x m j : ℕ) (old new : List (Option ℕ)) : Type 0 where
  pub done : (i : ℕ) → i < j → Advances x m (listed_places f ws i) (progress_at old i) (progress_at new i)
  pub rest : (i : ℕ) → j ≤ i → progress_at new i ≡ progress_at old i

pub one_advanced : (f : Form) (ws : List WayAt) (x m j : ℕ) (old new : List (Option ℕ)) (q : Option ℕ) → j < length new → Advanced f ws x m j old new →
    Advances x m (listed_places f ws j) (get_or new j None) q → Advanced f ws x m (j + 1) old (set new j q)
one_advanced f ws x m j old new q l h a = record {
  done = λ i b. elim (cases_lt i j) [
    | inl c ↦ subst (Advances x m (listed_places f ws i) (progress_at old i)) (sym (get_or-set_other new j i q (Some 0) (omega arith))) (h.done i c)
    | inr c ↦
        let last : j ≡ i = omega arith in
        subst (λ n. Advances x m (listed_places f ws n) (progress_at old n) (progress_at (set new j q) n)) last
        (subst (Advances x m (listed_places f ws j) (progress_at old j)) (sym (get_or-set_same new j q (Some 0) l))
        (subst (λ p. Advances x m (listed_places f ws j) p q) (get_or_default new j None (Some 0) l ∙ h.rest j (omega arith)) a))
  ];
  rest = λ i b. get_or-set_other new j i q (Some 0) (omega arith) ∙ h.rest i (omega arith);
}
