-- Laws of a text that is put after others, piece by piece.
use mathlib.Core.Path.{◌≡◌, refl, sym, ap, ◌∙◌}
use mathlib.Core.List.{List, [], ◌∷◌, ◌++◌, append_assoc, append-nil}
use Prim.Native.Nat.{ℕ, zero, suc, ◌+◌, ◌-◌, ◌≤◌, min}
use native.Mathlib.Omega.{arith}
use native.Mathlib.Decide.{dec_lt}
use lib.ListN.{length, take, length-append}
use lib.Seq.{take_all, take-append-add}
use Rattle.io.specs.Counts.{IsPrefixLen}
use Rattle.text_put.specs.Text.{after}

-- what is taken of a list is no more than it has
take_enough : (n : ℕ) (xs : List ℕ) → take n xs ≡ take (min (length xs) n) xs
take_enough n xs = elim (dec_lt n (length xs)) [
  | yes fewer ↦ let e : min (length xs) n ≡ n = omega arith in rw e
  | no all ↦ take_all n xs (omega arith) ∙ sym (take_all (min (length xs) n) xs (omega arith))
]

-- as much of a text as there is room for
pub put_there : (room count : ℕ) (bytes text : List ℕ) → length bytes ≤ room → count ≡ min (length text) (room - length bytes)
    → bytes ++ take count text ≡ after room bytes text
unfolding after
put_there room count bytes text fits n =
    let whole : length bytes + (room - length bytes) ≡ room = omega arith in
    ap (λ (k : ℕ). bytes ++ take k text) n
    ∙ ap (λ (t : List ℕ). bytes ++ t) (sym (take_enough (room - length bytes) text))
    ∙ sym (take-append-add bytes text (room - length bytes))
    ∙ ap (λ (k : ℕ). take k (bytes ++ text)) whole

-- what is left out of a text is left out of a longer one
take_again : (n : ℕ) (xs ys : List ℕ) → take n (take n xs ++ ys) ≡ take n (xs ++ ys)
take_again zero xs ys = refl
take_again (suc n) [] ys = refl
take_again (suc n) (x ∷ xs) ys = ap (λ (r : List ℕ). x ∷ r) (take_again n xs ys)

-- one text after another is both after what was there
pub after_after : (room : ℕ) (bytes first second : List ℕ) → after room (after room bytes first) second ≡ after room bytes (first ++ second)
unfolding after
after_after room bytes first second = take_again room (bytes ++ first) second ∙ ap (take room) (append_assoc bytes first second)

-- the first n of so many bytes and more are the first n
take_fewer : (n m : ℕ) (xs : List ℕ) → n ≤ m → take n (take m xs) ≡ take n xs
take_fewer zero m xs h = refl
take_fewer (suc n) zero xs h = absurd (omega arith)
take_fewer (suc n) (suc m) [] h = refl
take_fewer (suc n) (suc m) (x ∷ xs) h = ap (λ (r : List ℕ). x ∷ r) (take_fewer n m xs (omega arith))

-- what a list with room for n bytes would hold are the first n of a text with more room: whoever has a list of a length that only the run tells copies
-- them, and has what a text of that room promises
pub in_less_room : (n room : ℕ) (bytes text : List ℕ) → n ≤ room → take n (after room bytes text) ≡ after n (take n bytes) text
unfolding after
in_less_room n room bytes text h = take_fewer n room (bytes ++ text) h ∙ sym (take_again n bytes text)

-- where there is room, all of a text is put
pub all_put : (room : ℕ) (bytes given : List ℕ) → length bytes + length given ≤ room → after room bytes given ≡ bytes ++ given
unfolding after
all_put room bytes given fits = take_all room (bytes ++ given) (omega (arith, length-append bytes given))

-- what a function that puts one piece after another rests on
pub ruleset pieces = (after_after, append_assoc, append-nil)

-- one piece after the other, where the tactics do not find it: a long text in the source is too much for them
pub then : (room : ℕ) (bytes first second : List ℕ) {between next : List ℕ} → between ≡ after room bytes first → next ≡ after room between second
    → next ≡ after room bytes (first ++ second)
then room bytes first second p q = q ∙ ap (λ (b : List ℕ). after room b second) p ∙ after_after room bytes first second

-- and a text with a number behind it
pub then_numbered : (room : ℕ) (bytes first text number : List ℕ) {between next : List ℕ} → between ≡ after room bytes first → next ≡ after room between (text ++ number)
    → next ≡ after room bytes (first ++ text ++ number)
then_numbered room bytes first text number p q =
    then room bytes first (text ++ number) p q ∙ ap (after room bytes) (sym (append_assoc first text number))

-- the first bytes of a list, so many as were put, are as many as what was put
pub counted : (count : ℕ) (out text : List ℕ) → IsPrefixLen count out → take count out ≡ text → count ≡ length text
counted count out text fits e = fits.1 ∙ ap length e
