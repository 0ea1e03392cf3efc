-- What was put of a piece so far, and what the steps over the rest of it make, are what the steps over all of it make. A portion that another follows is a
-- whole block, so that places and bytes go on together; it adds no more than it takes, and a line at most: there is room for one more.
use mathlib.Core.Path.{◌≡◌, refl, sym, ◌∙◌, ap, subst}
use mathlib.Core.List.{List, [], ◌++◌, append_assoc, append-nil}
use Prim.Native.Nat.{ℕ, suc, ◌+◌, ◌*◌, ◌≤◌, ◌<◌, min}
use native.Mathlib.Omega.{arith}
use Rattle.std.proofs.Common.{add-one}
use Rattle.std.proofs.lemmas.List.{nil_from_length}
use lib.ListN.{length, length-append}
use Rattle.law_lists.specs.Portions.{portions}
use Rattle.law_lists.proofs.Portions.{portions_none}
use Rattle.law_lists.proofs.Chunks.{chunk_first}
use Rattle.text_put.specs.Text.{after}
use Rattle.text_put.proofs.Pieces.{all_put}
use Rattle.check_verdicts.specs.Verdicts.{Verdict, accepted, refused, unless_refused}
use Rattle.block_kept.proofs.Kept.{kept_long}
use Rattle.block_rescue.specs.Rescue.{rescue_verdict}
use Rattle.block_rescue.proofs.Rescue.{renumbered_length, rescuable}
use Rattle.file_rescued.specs.Rescues.{Entry, entries_by, Stepped, next_by, step_then, stepped_from}
use Rattle.file_rescued.proofs.Steps.{step_first}
use Rattle.text_report.specs.ReportText.{report_text}
use Rattle.text_report.proofs.Lengths.{text_split, entries_at_most}
use Rattle.io_rescue.specs.RescueSteps.{steps_of, HasRoom, TakesPortion, RescuesPiece}

-- what a step adds to the file that comes out
abbrev pub becomes : Verdict (List ℕ) → List ℕ
becomes verdict = unless_refused verdict (λ block. block) []

-- no more than it takes
adds_few : (number : ℕ) (portion : List ℕ) → length portion ≤ 512 → length (becomes (rescue_verdict number portion)) ≤ length portion
adds_few number portion few = by (rescue_verdict number portion) refl
  where
    by : (v : Verdict (List ℕ)) → rescue_verdict number portion ≡ v → length (becomes v) ≤ length portion
    by (refused fault) e = omega arith
    by (accepted block) e =
        let r = rescuable number portion block e in
        let long = kept_long portion _ r.kept in
        omega (arith, ap length r.its, renumbered_length number portion (omega arith))

-- no more than a block, and that where a number is taken
adds_block : (number : ℕ) (portion : List ℕ) → length portion ≤ 512 → (v : Verdict (List ℕ)) → length (becomes v) ≤ length portion
    → length (becomes v) + 512 * number ≤ 512 * next_by number v
adds_block number portion few (refused fault) h = omega arith
adds_block number portion few (accepted block) h = omega arith

-- a number that is given is one that there is
next_few : (number : ℕ) (portion : List ℕ) → number ≤ 65536 → next_by number (rescue_verdict number portion) ≤ 65536
next_few number portion few = by (rescue_verdict number portion) refl
  where
    by : (v : Verdict (List ℕ)) → rescue_verdict number portion ≡ v → next_by number v ≤ 65536
    by (refused fault) e = few
    by (accepted block) e = omega (arith, (rescuable number portion block e).in_range)

-- of no bytes nothing comes
no_steps : (here next : ℕ) → steps_of here next [] ≡ record { mended = []; report = []; next = next }
unfolding stepped_from
no_steps here next = ap (stepped_from here next) (portions_none 512)

no_text : report_text [] ≡ []
unfolding report_text
no_text = refl

module _ (place number : ℕ) (bytes : List ℕ) where
  -- with these bytes left, the place of the next block
  pub record Near (here : ℕ) (rest : List ℕ) : Type 0 where
    pub places : 0 < length rest → 512 * here + length rest ≤ 512 * place + 61440
    pub near : here ≤ place + 120

  -- and its number, and what was put
  pub record SoFar (mended text : List ℕ) (here next : ℕ) (rest : List ℕ) : Type 0 where
    pub bytes_so_far : mended ++ (steps_of here next rest).mended ≡ (steps_of place number bytes).mended
    pub lines_so_far : text ++ report_text (steps_of here next rest).report ≡ report_text (steps_of place number bytes).report
    pub next_so_far : (steps_of here next rest).next ≡ (steps_of place number bytes).next
    pub in_reach : next ≤ 65536
    pub fits : length mended + length rest ≤ 61440
    pub said : length text + 83 * place ≤ 83 * here
    pub few_bytes : length mended + 512 * number ≤ 512 * next

  module _ (mended text : List ℕ) (here next : ℕ) (rest : List ℕ) where
    -- the next portion, and those after it
    module _ (portion others : List ℕ) (is : rest ≡ portion ++ others) (long : length portion ≡ min 512 (length rest)) (some : 0 < length rest) where
      pub goes_near : Near here rest → Near (here + 1) others
      goes_near at =
          record { places = λ more. omega (arith, at.places some, ap length is, length-append portion others); near = omega (arith, at.places some) }

      abbrev verdict : Verdict (List ℕ)
      verdict = rescue_verdict next portion

      abbrev after_it : Stepped
      after_it = steps_of (suc here) (next_by next verdict) others

      one_more : steps_of here next rest ≡ step_then here next portion verdict after_it
      one_more =
          ap (stepped_from here next) (chunk_first 512 portion others rest is long (omega arith) some)
          ∙ step_first here next portion (portions 512 others) verdict refl

      -- what was put then
      abbrev bytes_then : List ℕ
      bytes_then = mended ++ becomes verdict

      abbrev text_then : List ℕ
      text_then = text ++ report_text (entries_by here next portion verdict)

      short : length portion ≤ 512
      short = omega arith

      room_for_one : Near here rest → SoFar mended text here next rest → (length bytes_then ≤ 61440) × (length text_then ≤ 9960)
      room_for_one at so_far =
          let few = adds_few next portion short in
          let line = entries_at_most here next portion verdict in (
            omega (arith, length-append mended (becomes verdict), few, ap length is, length-append portion others, so_far.fits),
            omega (arith, length-append text (report_text (entries_by here next portion verdict)), line, so_far.said, at.places some),
          )

      on : SoFar mended text here next rest → SoFar bytes_then text_then (suc here) (next_by next verdict) others
      on so_far =
          let both = length-append portion others in
          let few = adds_few next portion short in
          let line = entries_at_most here next portion verdict in
          let said : List Entry = entries_by here next portion verdict in
          record {
            bytes_so_far =
                append_assoc mended (becomes verdict) after_it.mended ∙ ap (λ (s : Stepped). mended ++ s.mended) (sym one_more) ∙ so_far.bytes_so_far;
            lines_so_far =
                append_assoc text (report_text said) (report_text after_it.report)
                ∙ ap (λ (l : List ℕ). text ++ l) (sym (text_split said after_it.report))
                ∙ ap (λ (s : Stepped). text ++ report_text s.report) (sym one_more)
                ∙ so_far.lines_so_far;
            next_so_far = ap (λ (s : Stepped). s.next) (sym one_more) ∙ so_far.next_so_far;
            in_reach = next_few next portion so_far.in_reach;
            fits = omega (arith, length-append mended (becomes verdict), few, ap length is, both, so_far.fits);
            said = omega (arith, length-append text (report_text said), line, so_far.said);
            few_bytes = omega (arith, length-append mended (becomes verdict), adds_block next portion short verdict few, so_far.few_bytes);
          }

      -- a portion that is accepted is put, and of one that is refused nothing is
      put_then : (room : ℕ) (v : Verdict (List ℕ)) → length (mended ++ becomes v) ≤ room → unless_refused v (after room mended) mended ≡ mended ++ becomes v
      put_then room (accepted block) fits = all_put room mended block (omega (arith, length-append mended block))
      put_then room (refused fault) fits = sym (append-nil mended)

      pub goes_on : (room lines : ℕ) → HasRoom place number bytes room lines → (out report : List ℕ) (result : ℕ)
          → TakesPortion here next portion room mended out lines text report result → Near here rest → SoFar mended text here next rest → SoFar out report (here + 1) result others
      goes_on room lines has out report result done at so_far =
          let one = room_for_one at so_far in
          let its_bytes : out ≡ bytes_then = done.bytes ∙ put_then room verdict (omega (arith, one.0, has.blocks)) in
          let said : List ℕ = report_text (entries_by here next portion verdict) in
          let its_text : report ≡ text_then = done.said ∙ all_put lines text said (omega (arith, one.1, length-append text said, has.lines)) in
          subst (λ (b : List ℕ). SoFar b report (here + 1) result others) (sym its_bytes)
          (subst (λ (t : List ℕ). SoFar bytes_then t (here + 1) result others) (sym its_text)
          (subst (λ (h : ℕ). SoFar bytes_then text_then h result others) (sym (add-one here))
          (subst (λ (n : ℕ). SoFar bytes_then text_then (suc here) n others) (sym done.next) (on so_far))))

    -- nothing is left
    pub all_done : length rest ≡ 0 → SoFar mended text here next rest → RescuesPiece place number bytes mended text next
    all_done none so_far =
        let last : steps_of here next rest ≡ record { mended = []; report = []; next = next } = ap (steps_of here next) (nil_from_length rest none) ∙ no_steps here next in
        record {
          mended = sym (append-nil mended) ∙ ap (λ (s : Stepped). mended ++ s.mended) (sym last) ∙ so_far.bytes_so_far;
          report =
              sym (append-nil text)
              ∙ ap (λ (l : List ℕ). text ++ l) (sym no_text)
              ∙ ap (λ (s : Stepped). text ++ report_text s.report) (sym last)
              ∙ so_far.lines_so_far;
          next = ap (λ (s : Stepped). s.next) (sym last) ∙ so_far.next_so_far;
          in_range = so_far.in_reach;
          few_bytes = so_far.few_bytes;
        }
