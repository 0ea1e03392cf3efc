-- What is put of the blocks of a piece so far, and then the outcome of the blocks that are left, is the outcome of all. A block that another follows takes
-- 480 bytes of input at least and adds 512 to the output at most, so that there is room for one more.
use mathlib.Core.Path.{◌≡◌, refl, sym, ◌∙◌, ap}
use mathlib.Core.List.{List, [], ◌∷◌, ◌++◌, append_assoc, append-nil}
use Prim.Native.Nat.{ℕ, suc, ◌+◌, ◌*◌, ◌≤◌, ◌<◌, min}
use native.Mathlib.Omega.{arith}
use lib.ListN.{length, length-append}
use Rattle.std.specs.Prelude.{Ok, Err}
use Rattle.std.proofs.Common.{add-one}
use Rattle.std.proofs.lemmas.List.{nil_from_length}
use Rattle.law_lists.specs.Portions.{portions}
use Rattle.law_lists.proofs.Portions.{portions_none}
use Rattle.law_lists.proofs.Chunks.{chunk_first}
use Rattle.check_verdicts.specs.Verdicts.{Fault, Verdict, accepted, refused}
use Rattle.block_check.specs.Told.{block_fault}
use Rattle.block_check.specs.declared.check.BlockRefusal.{BlockRefusal}
use Rattle.file_narration.specs.Files.{whole, refused_at, Outcome, nothing, before, go_on, outcome_from}
use Rattle.file_narration.proofs.ReadBack.{outcome_none}
use Rattle.text_put.specs.Text.{after}
use Rattle.text_put.proofs.Pieces.{all_put}
use Rattle.io_portion.specs.OnePortion.{IsWay}
use Rattle.io_blocks.specs.PutBlocks.{blocks_of, PutsBlocks}

-- an end at a block is not that nothing is refused
never : {number : ℕ} {fault : Fault} {A : Type 0} → refused_at number fault ≡ whole → A
never e = let z : ◌≡◌ {A = ℕ} 0 1 = cc in absurd (omega arith)

module _ (size : ℕ) (verdict : ℕ → List ℕ → Verdict (List ℕ)) (number : ℕ) (bytes : List ℕ) where
  -- of a piece, with these bytes of it left, the next block's number, and what was put
  pub record SoFar (rest out : List ℕ) (next : ℕ) : Type 0 where
    pub in_reach : next ≤ 65536
    pub few : length rest ≤ 61440
    pub room : 0 < length rest → 480 * length out + 512 * length rest ≤ 512 * 61440
    pub counted : next + length (portions size rest) ≡ number + length (portions size bytes)
    pub outcome : before out (blocks_of size verdict next rest) ≡ blocks_of size verdict number bytes

  pub begun : number ≤ 65536 → length bytes ≤ 61440 → SoFar bytes [] number
  begun reach few =
      record { in_reach = reach; few = few; room = λ some. omega arith; counted = refl; outcome = refl }

  module _ (known : ℕ → ℕ) (way : IsWay size verdict known) (rest out : List ℕ) (next : ℕ) (so_far : SoFar rest out next) where
    -- nothing is left
    pub all_done : length rest ≡ 0 → PutsBlocks size verdict number bytes out (record { next = next; ended = Ok tt })
    all_done none =
        let empty = nil_from_length rest none in
        let last : blocks_of size verdict next rest ≡ nothing =
        ap (blocks_of size verdict next) empty ∙ ap (outcome_from verdict next) (portions_none size) ∙ outcome_none verdict next
        in
        let outcome : record { given = out; end = whole } ≡ blocks_of size verdict number bytes =
        ap (λ (l : List ℕ). record { given = l; end = whole }) (sym (append-nil out)) ∙ ap (before out) (sym last) ∙ so_far.outcome
        in
        let no_more : length (portions size rest) ≡ 0 = ap (λ (b : List ℕ). length (portions size b)) empty ∙ ap length (portions_none {A = ℕ} size) in
        record {
          given = ap (λ (o : Outcome). o.given) outcome;
          end = ap (λ (o : Outcome). o.end) outcome;
          on = λ e. omega (arith, no_more, so_far.counted);
          in_range = so_far.in_reach;
        }

    -- a portion of the way's size, and others after it
    module _ (cuts : ℕ) (by_size : cuts ≡ size) (portion others : List ℕ) (is : rest ≡ portion ++ others) (first : length portion ≡ min cuts (length rest)) (some : 0 < length rest) where
      long : length portion ≡ min size (length rest)
      long = first ∙ ap (λ (n : ℕ). min n (length rest)) by_size

      cut : portions size rest ≡ portion ∷ portions size others
      cut = chunk_first size portion others rest is long (omega (arith, way.enough)) some

      one_more : blocks_of size verdict next rest ≡ go_on next (verdict next portion) (blocks_of size verdict (suc next) others)
      unfolding outcome_from
      one_more = ap (outcome_from verdict next) cut

      -- is a block that is refused
      pub stops : (left : List ℕ) (why : BlockRefusal) → verdict next portion ≡ refused (block_fault why) → left ≡ out
          → PutsBlocks size verdict number bytes left (record { next = next; ended = Err why })
      stops left why e same =
          let after_it = blocks_of size verdict (suc next) others in
          let outcome : record { given = out; end = refused_at next (block_fault why) } ≡ blocks_of size verdict number bytes =
          ap (λ (l : List ℕ). record { given = l; end = refused_at next (block_fault why) }) (sym (append-nil out))
          ∙ ap (before out) (sym (one_more ∙ ap (λ (v : Verdict (List ℕ)). go_on next v after_it) e))
          ∙ so_far.outcome
          in
          record {
            given = same ∙ ap (λ (o : Outcome). o.given) outcome;
            end = ap (λ (o : Outcome). o.end) outcome;
            on = λ e. never (ap (λ (o : Outcome). o.end) outcome ∙ e);
            in_range = so_far.in_reach;
          }

      -- or one that is accepted
      pub goes_on : (room : ℕ) → 66048 ≤ room → (given left : List ℕ) → verdict next portion ≡ accepted given → left ≡ after room out given
          → SoFar others left (next + 1)
      goes_on room enough given left e put =
          let there : 0 < length portion = omega (arith, way.enough) in
          let more = way.few next portion given there e in
          let both = length-append portion others in
          let put_all : left ≡ out ++ given = put ∙ all_put room out given (omega (arith, so_far.room some, so_far.few)) in
          let after_it = blocks_of size verdict (suc next) others in
          let one : next + 1 ≡ suc next = add-one next in
          record {
            in_reach = omega (arith, way.in_range next portion given there e);
            few = omega (arith, ap length is, both, so_far.few);
            room = λ h. omega (arith, ap length is, both, way.enough, so_far.room some, more, ap length put_all, length-append out given);
            counted = omega (arith, ap length cut, so_far.counted);
            outcome =
                ap (λ (n : ℕ). before left (blocks_of size verdict n others)) one
                ∙ ap (λ (b : List ℕ). before b after_it) put_all
                ∙ ap (λ (l : List ℕ). record { given = l; end = after_it.end }) (append_assoc out given after_it.given)
                ∙ ap (before out) (sym (one_more ∙ ap (λ (v : Verdict (List ℕ)). go_on next v after_it) e))
                ∙ so_far.outcome;
          }
