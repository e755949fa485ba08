-- Tables that grow: what was found stays.
use Rattle.std.proofs.Common.{◌≡◌, ℕ, refl, ◌∙◌, arith}
use Rattle.pairs.specs.declared.table.Table.{Table}
use Rattle.pairs.specs.Searches.{Grown}
use Rattle.pairs.specs.Tables.{HasUnder}

pub grown_none : (T : Table) → Grown T T
grown_none T = record { more = omega arith; kept = λ a t h. h; still = λ e. refl }

pub grown_then : {T U V : Table} → Grown T U → Grown U V → Grown T V
grown_then {T} {U} {V} g h =
    record {
      more = omega (arith, g.more, h.more);
      kept = λ a t m. h.kept a t (g.kept a t m);
      still = λ e.
          let first : T.count ≡ U.count = omega (arith, g.more, h.more) in
          let then : U.count ≡ V.count = omega (arith, g.more, h.more) in
          h.still then ∙ g.still first;
    }

pub under_grown : {T U : Table} → Grown T U → (a t : ℕ) → HasUnder T a t → HasUnder U a t
under_grown g a t h = (h.0, g.kept a h.0 h.1, h.2)
