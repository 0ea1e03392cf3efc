-- How many of some blocks are kept, counted by a test of each.
use mathlib.Core.Path.{◌≡◌, refl, ◌∙◌, ap}
use mathlib.Core.Bool.{Bool, true, false, cond}
use mathlib.Core.List.{List, [], ◌∷◌}
use Prim.Native.Nat.{ℕ, suc}
use lib.ListN.{length, take}
use lib.Seq.{take_all}
use Rattle.std.specs.Prelude.{Result, Ok, Err, is_ok, filter}
use Rattle.check_verdicts.specs.Verdicts.{Verdict, accepted, refused, verdict_by, on_accepted, unless_refused}
use Rattle.block_check.specs.Told.{block_fault}
use Rattle.block_check.specs.declared.check.BlockRefusal.{BlockRefusal}
use Rattle.block_kept.specs.Kept.{kept_verdict}
use Rattle.file_rescued.specs.Rescues.{kept_of}
use Rattle.file_rescued.proofs.Portioned.{AllPortions}

abbrev accepts : Verdict (List ℕ) → Bool
accepts verdict = unless_refused verdict (λ records. true) false

-- the test of a block, which looks at its first 512 bytes
abbrev pub is_kept : List ℕ → Bool
is_kept block = accepts (kept_verdict (take 512 block))

-- it is what the check answers
pub kept_told : (answer : Result ℕ BlockRefusal) (says : List ℕ → ℕ) (verdict : Verdict (List ℕ)) → verdict_by block_fault answer ≡ on_accepted says verdict → is_ok answer ≡ accepts verdict
kept_told (Ok own) says (accepted records) e = refl
kept_told (Ok own) says (refused fault) e = cc
kept_told (Err why) says (accepted records) e = cc
kept_told (Err why) says (refused fault) e = refl

pub kept_counted : (ps : List (List ℕ)) → AllPortions ps → length (filter is_kept ps) ≡ length (kept_of ps)
unfolding kept_of
kept_counted [] all = refl
kept_counted (p ∷ ps) all = ap (λ (q : List ℕ). length (cond (accepts (kept_verdict q)) (p ∷ filter is_kept ps) (filter is_kept ps))) (take_all 512 p all.0.few) ∙ by (kept_counted ps all.1) (kept_verdict p)
  where
    by : length (filter is_kept ps) ≡ length (kept_of ps) → (v : Verdict (List ℕ))
        → length (cond (accepts v) (p ∷ filter is_kept ps) (filter is_kept ps)) ≡ length (unless_refused v (λ records. p ∷ kept_of ps) (kept_of ps))
    by rest (accepted records) = ap suc rest
    by rest (refused fault) = rest
