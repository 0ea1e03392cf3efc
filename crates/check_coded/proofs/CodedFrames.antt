-- The law over a coded frame's checks, which every decode call makes in the same way: by what `check_frame` and `check_side` answer, what a frame or
-- side data that are refused make of the call, whatever checks follow, and what is known once both are sound. And what a call leaves of a list that
-- was lent to it.
use mathlib.Core.Path.{◌≡◌, refl, sym, ◌∙◌, ap}
use mathlib.Core.List.{List}
use Prim.Native.Nat.{ℕ}
use lib.Ieee.{Float}
use lib.ListN.{length}
use Rattle.std.specs.Prelude.{Result, Ok, Err}
use Rattle.check_verdicts.specs.Verdicts.{Fault, Verdict, accepted, refused, unless_refused, on_accepted, no_fault, verdict_by}
use Rattle.check_refusals.specs.Refusals.{says}
use Rattle.check_side.specs.Sides.{side_checks, SoundSide}
use Rattle.check_refusals.specs.declared.Refusal.{Refusal}
use Rattle.check_side.specs.declared.CheckedSide.{CheckedSide}
use Rattle.check_verdicts.proofs.Verdicts.{settle, not_accepted}
use Rattle.check_side.proofs.Sides.{sides_settle, sound_side}
use Rattle.row_bands.specs.declared.Row.{Row}
use Rattle.row_bands.proofs.Bands.{SoundRow}
use Rattle.check_frame.specs.Frames.{frame_checks, frame_of}
use Rattle.check_frame.proofs.Frames.{frames_settle, refused_frame, passed_frame, sound_row, accepted_row}
use Rattle.check_coded.specs.CodedFrames.{CodedFrame, row_in, checks_of}

-- what a call is given, as one thing
abbrev pub given : ℕ → ℕ → ℕ → List ℕ → List ℕ → List Float → CodedFrame
given duration bandwidth filters orders indices spectrum =
    record { duration = duration; bandwidth = bandwidth; filters = filters; orders = orders; indices = indices; spectrum = spectrum }

-- ---- what a call leaves

-- a refused call leaves what it found, and an accepted one what it makes
pub left_alone : {A B : Type 0} {v : Verdict A} {why : Fault} → refused why ≡ v → (made : A → B) (found : B) → found ≡ unless_refused v made found
left_alone e made found = rw (sym e)

pub written : {B : Type 0} {v : Verdict (Unit {0})} → no_fault ≡ v → (made : Unit {0} → B) (found : B) → made tt ≡ unless_refused v made found
written e made found = rw (sym e)

-- ---- what the checks come to

-- What is known of a coded frame that refusals 1 to 7 find no fault with, and of the row that its checks answer. They leave the answer to what follows.
pub record PassedFrame (f : CodedFrame) (row : Row) : Type 0 where
  pub its_row : row ≡ row_in f
  pub bands : SoundRow row (length f.spectrum)
  pub side_data : SoundSide f.filters f.orders f.indices
  pub goes_on : (next : Verdict (Unit {0})) → checks_of f next ≡ next

-- checks that end without a fault, and what follows them
ends : (v next : Verdict (Unit {0})) → settle v next ≡ no_fault → (v ≡ no_fault) × (next ≡ no_fault)
ends (accepted u) next e = (refl, e)
ends (refused fault) next e = not_accepted e

-- what the answer of `check_side` comes to
abbrev pub checked : Result CheckedSide Refusal → Verdict (Unit {0})
checked answer = on_accepted (λ _. tt) (verdict_by says answer)

module _ (f : CodedFrame) where
  abbrev side_of : Verdict (Unit {0})
  side_of = side_checks f.filters f.orders f.indices no_fault

  abbrev rest : Verdict (Unit {0}) → Verdict (Unit {0})
  rest next = side_checks f.filters f.orders f.indices next

  pub frame_refuses : {answer : Result Row Refusal} {why : Refusal} → answer ≡ Err why → verdict_by says answer ≡ frame_of f.duration f.bandwidth (length f.spectrum)
      → (next : Verdict (Unit {0})) → refused (says why) ≡ checks_of f next
  frame_refuses {answer} {why} e told next =
      sym (refused_frame f.duration f.bandwidth (length f.spectrum) (rest next) (says why) (sym (ap (verdict_by says) e) ∙ told))

  module _ {answer : Result Row Refusal} {row : Row} (e : answer ≡ Ok row) (told : verdict_by says answer ≡ frame_of f.duration f.bandwidth (length f.spectrum)) where
    is_sound : accepted row ≡ frame_of f.duration f.bandwidth (length f.spectrum)
    is_sound = sym (ap (verdict_by says) e) ∙ told

    sides_decide : (next : Verdict (Unit {0})) → checks_of f next ≡ settle side_of next
    sides_decide next =
        (passed_frame f.duration f.bandwidth (length f.spectrum) (rest next) row is_sound).1 ∙ sides_settle f.filters f.orders f.indices next

    pub side_refuses : {side-answer : Result CheckedSide Refusal} {why : Refusal} → side-answer ≡ Err why → checked side-answer ≡ side_of
        → (next : Verdict (Unit {0})) → refused (says why) ≡ checks_of f next
    side_refuses {side-answer} {why} d side-told next =
        ap (λ (v : Verdict (Unit {0})). settle v next) (sym (ap checked d) ∙ side-told) ∙ sym (sides_decide next)

    pub passes : {side-answer : Result CheckedSide Refusal} {side : CheckedSide} → side-answer ≡ Ok side → checked side-answer ≡ side_of → PassedFrame f row
    passes d side-told =
        let no-fault : side_of ≡ no_fault = sym side-told ∙ ap checked d in
        record {
          its_row = (passed_frame f.duration f.bandwidth (length f.spectrum) no_fault row is_sound).0;
          bands = sound_row f.duration f.bandwidth (length f.spectrum) row (sym is_sound);
          side_data = sound_side f.filters f.orders f.indices no-fault;
          goes_on = λ next. sides_decide next ∙ ap (λ (v : Verdict (Unit {0})). settle v next) no-fault;
        }

  -- the same of a frame whose checks, and those that follow, find no fault
  pub passed_checks : (next : Verdict (Unit {0})) → checks_of f next ≡ no_fault → PassedFrame f (row_in f) × (next ≡ no_fault)
  passed_checks next e =
      let own = frame_checks f.duration f.bandwidth (length f.spectrum) no_fault in
      let frames : (after : Verdict (Unit {0})) → checks_of f after ≡ settle own (rest after) =
      λ after. frames_settle f.duration f.bandwidth (length f.spectrum) (rest after)
      in
      let frame-passes = ends own (rest next) (sym (frames next) ∙ e) in
      let side-passes = ends side_of next (sym (sides_settle f.filters f.orders f.indices next) ∙ frame-passes.1) in (
        record {
          its_row = refl;
          bands = accepted_row f.duration f.bandwidth (length f.spectrum) (rest next) tt e;
          side_data = sound_side f.filters f.orders f.indices side-passes.0;
          goes_on = λ after.
              frames after
              ∙ ap (λ (v : Verdict (Unit {0})). settle v (rest after)) frame-passes.0
              ∙ sides_settle f.filters f.orders f.indices after
              ∙ ap (λ (v : Verdict (Unit {0})). settle v after) side-passes.0;
        },
        side-passes.1,
      )
