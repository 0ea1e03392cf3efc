-- docs/RULES.md, "Refusal numbers": where the first number over a limit is, and what it is.
use Rattle.std.specs.Prelude.{cond, List, [], ◌∷◌, ℕ, suc, ltb, Option, Some, None}
use Rattle.check_limits.specs.declared.Over.{Over}

-- the lowest place whose number is over a limit, with that number, where there is one; `place` is the first one's
unfoldable pub lowest_over : ℕ → ℕ → List ℕ → Option Over
lowest_over limit place [] = None
lowest_over limit place (x ∷ xs) = cond (ltb limit x) (Some (record { place = place; found = x })) (lowest_over limit (suc place) xs)
