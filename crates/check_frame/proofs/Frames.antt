-- Laws of a frame that checks 1 to 3 find no fault with: its row is the table's, and the bands lie within its lines.
use mathlib.Core.Path.{◌≡◌, refl, sym, ◌∙◌, ap}
use mathlib.Core.Bool.{Bool, true, false, ◌||◌}
use Prim.Native.Nat.{ℕ, ◌≤◌}
use native.Mathlib.Omega.{arith}
use lib.Dec.{ltb}
use borrow.Author.Tests.{ltb-false}
use Rattle.check_verdicts.specs.Verdicts.{Fault, numbered, Verdict, accepted, refused, no_fault, check}
use Rattle.check_verdicts.proofs.Verdicts.{check_by, settle, not_accepted, refused_by_checks, passed_by_checks}
use Rattle.row_durations.specs.Durations.{duration_of, numbers_of}
use Rattle.row_bands.specs.Bands.{row_of, last_stop}
use Rattle.row_bands.specs.declared.Row.{Row}
use Rattle.row_bands.proofs.Bands.{SoundRow, row_cut, cut_fits}
use Rattle.check_frame.specs.Frames.{frame_checks, frame_of}

-- checks 1 to 3 answer the same whatever follows them
pub frames_settle : {A : Type 0} (duration bandwidth lines : ℕ) (next : Verdict A)
    → frame_checks duration bandwidth lines next ≡ settle (frame_checks duration bandwidth lines no_fault) next
unfolding frame_checks
frames_settle {A} duration bandwidth lines next =
    cases (ltb 1 duration) (ltb 4 bandwidth) (ltb lines (last_stop (row_of (duration_of duration) bandwidth)) || ltb (numbers_of (duration_of duration)).longest lines)
  where
    cases : (a b c : Bool) → check 1 a (check 2 b (check 3 c next)) ≡ settle (check 1 a (check 2 b (check 3 c no_fault))) next
    cases true b c = refl
    cases false true c = refl
    cases false false true = refl
    cases false false false = refl

-- what holds of refusals 1 to 3 and of what follows them holds of what they say
pub frames_by : {A : Type 0} (P : Verdict A → Type 0) (duration bandwidth lines : ℕ) (next : Verdict A)
    → P (refused (numbered 1)) → P (refused (numbered 2)) → P (refused (numbered 3)) → P next → P (frame_checks duration bandwidth lines next)
unfolding frame_checks
frames_by P duration bandwidth lines next stops1 stops2 stops3 goes =
    check_by P 1 (ltb 1 duration) _ stops1 (λ e.
    check_by P 2 (ltb 4 bandwidth) _ stops2 (λ e.
    check_by P 3 (ltb lines (last_stop (row_of (duration_of duration) bandwidth)) || ltb (numbers_of (duration_of duration)).longest lines) next stops3 (λ e. goes)))

-- what a frame that they refuse, and one that they pass, make of a call that goes on from them
module _ {A : Type 0} (duration bandwidth lines : ℕ) (next : Verdict A) where
  checks : Verdict (Unit {0})
  checks = frame_checks duration bandwidth lines no_fault

  own : Row
  own = row_of (duration_of duration) bandwidth

  frame_is : frame_of duration bandwidth lines ≡ settle checks (accepted own)
  unfolding frame_of checks own
  frame_is = frames_settle duration bandwidth lines (accepted (row_of (duration_of duration) bandwidth))

  call_is : frame_checks duration bandwidth lines next ≡ settle checks next
  unfolding checks
  call_is = frames_settle duration bandwidth lines next

  pub refused_frame : (why : Fault) → refused why ≡ frame_of duration bandwidth lines → frame_checks duration bandwidth lines next ≡ refused why
  refused_frame why e = call_is ∙ refused_by_checks checks own why (e ∙ frame_is) next

  pub passed_frame : (row : Row) → accepted row ≡ frame_of duration bandwidth lines
      → (row ≡ row_of (duration_of duration) bandwidth) × (frame_checks duration bandwidth lines next ≡ next)
  unfolding own
  passed_frame row e = let p = passed_by_checks checks own row (e ∙ frame_is) in (p.0, call_is ∙ p.1 next)

-- two results that are the same where the lines are enough for the row are the same after these checks
pub same_result : {A : Type 0} (duration bandwidth lines : ℕ) (a b : A) → (last_stop (row_of (duration_of duration) bandwidth) ≤ lines → a ≡ b)
    → frame_checks duration bandwidth lines (accepted a) ≡ frame_checks duration bandwidth lines (accepted b)
unfolding frame_checks
same_result {A} duration bandwidth lines a b same =
    cases (ltb 1 duration) (ltb 4 bandwidth) (ltb lines (last_stop (row_of (duration_of duration) bandwidth))) refl (ltb (numbers_of (duration_of duration)).longest lines)
  where
    cases : (c d s : Bool) → ltb lines (last_stop (row_of (duration_of duration) bandwidth)) ≡ s → (l : Bool)
        → check 1 c (check 2 d (check 3 (s || l) (accepted a))) ≡ check 1 c (check 2 d (check 3 (s || l) (accepted b)))
    cases true d s e l = refl
    cases false true s e l = refl
    cases false false true e l = refl
    cases false false false e true = refl
    cases false false false e false = ap accepted (same (ltb-false lines _ e))

-- what checks 1 to 3 leave of a frame that they accept
pub record SoundFrame (duration bandwidth lines : ℕ) (row : Row) : Type 0 where
  pub known : duration ≤ 1
  pub narrow : bandwidth ≤ 4
  pub its_row : row ≡ row_of (duration_of duration) bandwidth
  pub enough : last_stop (row_of (duration_of duration) bandwidth) ≤ lines
  pub at_most_longest : lines ≤ (numbers_of (duration_of duration)).longest

pub sound_frame : (duration bandwidth lines : ℕ) (row : Row) → frame_of duration bandwidth lines ≡ accepted row → SoundFrame duration bandwidth lines row
unfolding frame_of frame_checks
sound_frame duration bandwidth lines row =
    cases (ltb 1 duration) refl (ltb 4 bandwidth) refl (ltb lines (last_stop own)) refl (ltb (numbers_of (duration_of duration)).longest lines) refl
  where
    own : Row
    own = row_of (duration_of duration) bandwidth

    cases : (a : Bool) → ltb 1 duration ≡ a → (b : Bool) → ltb 4 bandwidth ≡ b → (s : Bool) → ltb lines (last_stop own) ≡ s
        → (l : Bool) → ltb (numbers_of (duration_of duration)).longest lines ≡ l
        → check 1 a (check 2 b (check 3 (s || l) (accepted own))) ≡ accepted row → SoundFrame duration bandwidth lines row
    cases true ea b eb s es l el e = not_accepted e
    cases false ea true eb s es l el e = not_accepted e
    cases false ea false eb true es l el e = not_accepted e
    cases false ea false eb false es true el e = not_accepted e
    cases false ea false eb false es false el e =
        record {
          known = ltb-false 1 duration ea;
          narrow = ltb-false 4 bandwidth eb;
          its_row = cc;
          enough = ltb-false lines (last_stop own) es;
          at_most_longest = ltb-false (numbers_of (duration_of duration)).longest lines el;
        }

-- its bands lie within its lines
pub sound_row : (duration bandwidth lines : ℕ) (row : Row) → frame_of duration bandwidth lines ≡ accepted row → SoundRow row lines
sound_row duration bandwidth lines row e =
    let s = sound_frame duration bandwidth lines row e in
    let cut = row_cut (duration_of duration) bandwidth in
    rw s.its_row
    (record {
      first_fits = cut_fits _ lines cut.0 (omega (arith, s.enough));
      second_fits = cut_fits _ lines cut.1 (omega (arith, s.enough));
    })

-- so they do of every call that goes on from these checks and is accepted
pub accepted_row : {A : Type 0} (duration bandwidth lines : ℕ) (next : Verdict A) (a : A) → frame_checks duration bandwidth lines next ≡ accepted a
    → SoundRow (row_of (duration_of duration) bandwidth) lines
unfolding frame_of
accepted_row {A} duration bandwidth lines next a e =
    sound_row duration bandwidth lines own
    (frames_settle duration bandwidth lines (accepted own) ∙ cases (frame_checks duration bandwidth lines no_fault) (sym (frames_settle duration bandwidth lines next) ∙ e))
  where
    own : Row
    own = row_of (duration_of duration) bandwidth

    cases : (v : Verdict (Unit {0})) → settle v next ≡ accepted a → settle v (accepted own) ≡ accepted own
    cases (accepted u) e = refl
    cases (refused fault) e = not_accepted e
