-- The f32 lattice beside the exact one: what a stage, a line and the lines of a band are off by. One law over the stage number, which holds for
-- every order and for both filters, and one over the lines.
-- Lines of at most 2^(h+23) units of 2^-149, with h = m + 126, are off by at most k·2^k·2^h halves of a unit when k stages are done.
use mathlib.Core.Path.{◌≡◌, refl, sym, ap, ◌∙◌, subst}
use mathlib.Core.Bool.{false}
use mathlib.Core.List.{List, [], ◌∷◌, map}
use Prim.Native.Nat.{ℕ, zero, suc, ◌+◌, ◌-◌, ◌*◌, ◌^◌, ◌≤◌, ◌<◌}
use native.Mathlib.Decide.{ℕ_discrete}
use native.Mathlib.Nat.{le_of_suc-le-suc, not-suc-le-zero, mul-le-mul, mul-le-mul_right}
use native.Mathlib.Omega.{arith}
use Rattle.std.proofs.lemmas.Int.{ints}
use lib.Dec.{T, lit<}
use lib.Pow.{pow-add, pow_mono}
use lib.ListN.{length, get_or, set, length-set, get_or-replicate, get_or-map}
use lib.Seq.{get_or-set_same, get_or-set_other}
use lib.IntN.{ℤ, pos, negsuc, neg_ℤ, nat_abs, ◌+ℤ◌, ◌*ℤ◌, +ℤ_assoc}
use lib.Ieee.{Float, nan, binary32, add, mul, fits, of_bits}
use Rattle.law_rounding.specs.Units.{in_units, power_in_units, AtMost, WithinOf}
use Rattle.law_rounding.proofs.Steps.{Tracks, tracks_wider, grown, onto, plus}
use Rattle.law_rounding.proofs.Values.{enters, leaves}
use Rattle.law_rounding.proofs.Factors.{Factor}
use Rattle.law_rounding.specs.Floats.{f0}
use Rattle.law_lists.specs.Lines.{lines_through, state_through}
use Rattle.lattice_encoder.specs.EncoderLattice.{stage_up, stages_to, entering, line_encoded}
use Rattle.lattice_lines.specs.Lattice.{at_rest, lines_by, states_by}
use Rattle.lattice_exact.specs.Exact.{finer, ExactPassing, ExactPassed, exact_stage, exact_stages_to, exact_entering, line_exact, lines_exact, states_exact, exact_rest}
use Rattle.lattice_exact.specs.Near.{nearness, EachNear, InRange}
use Rattle.lattice_encoder.specs.declared.Passing.{Passing}
use Rattle.lattice_lines.specs.declared.Passed.{Passed}

-- ---- after k stages

-- the units of stage k in one of 2^-149, and twice what a number there may be off by, in them
abbrev fine : ℕ → ℕ
fine k = 2 ^ (26 * k)

abbrev off : ℕ → ℕ → ℕ
off h k = k * (2 ^ k * (2 ^ h * fine k))

-- x stands for the exact number after k stages
abbrev pub At : ℕ → ℕ → Float → ℤ → Type 0
At h k x exact = Tracks (k + (h + 23)) (fine k) (off h k) x exact

fine_next : (k : ℕ) → fine (suc k) ≡ fine k * 2 ^ 26
fine_next k = ap (λ (z : ℕ). 2 ^ z) (more k) ∙ pow-add 2 (26 * k) 26
  where
    more : (k : ℕ) → 26 * suc k ≡ 26 * k + 26
    more k = omega arith

-- two roundings on top of twice what it was
growth : (h k : ℕ) → grown (2 ^ 26) (fine k) (off h k) (k + (h + 23)) ≤ off h (suc k)
growth h k =
    let last : suc (k + (h + 23)) - 24 ≡ k + h = omega arith in
    rw (fine_next k, last)
    (more k (2 ^ k) (2 ^ suc k) (2 ^ h) (fine k) (2 ^ 26) (2 ^ (k + (h + 23) - 24)) (2 ^ (k + h)) (pow_mono (omega arith)) (pow-add 2 k h) (omega arith))
  where
    more : (k p p' w d Q a b : ℕ) → a ≤ b → b ≡ p * w → p' ≡ p * 2 → Q * (k * (p * (w * d)) * 2 + d * (a + b)) ≤ suc k * (p' * (w * (d * Q)))
    more k p p' w d Q a b l e f =
        let l' : a * (d * Q) ≤ b * (d * Q) = mul-le-mul_right (d * Q) l in
        let e' : b * (d * Q) ≡ p * w * (d * Q) = ap (λ (z : ℕ). z * (d * Q)) e in
        rw f (omega (arith, l', e'))

next : (h k : ℕ) (x : Float) (exact : ℤ) → Tracks (suc (k + (h + 23))) (fine k * 2 ^ 26) (grown (2 ^ 26) (fine k) (off h k) (k + (h + 23))) x exact → At h (suc k) x exact
next h k x exact t =
    let size : suc k + (h + 23) ≡ suc (k + (h + 23)) = omega arith in
    rw (size) (subst (λ (d : ℕ). Tracks (suc (k + (h + 23))) d (off h (suc k)) x exact) (sym (fine_next k)) (tracks_wider (suc (k + (h + 23))) (fine k * 2 ^ 26) _ (off h (suc k)) x exact (growth h k) t))

-- ---- the states: state k stands for its exact number after k stages, whatever the order is

pub record Held (h : ℕ) (states : List Float) (exact : List ℤ) : Type 0 where
  pub eight : length states ≡ 8
  pub eight_exact : length exact ≡ 8
  pub each : (k : ℕ) → k < 8 → At h k (get_or states k nan) (get_or exact k (pos 0))

stored : (h k : ℕ) (states : List Float) (exact : List ℤ) (b : Float) (B : ℤ) → k < 8 → Held h states exact → At h k b B → Held h (set states k b) (set exact k B)
stored h k states exact b B low held at =
    record {
      eight = length-set states k b ∙ held.eight;
      eight_exact = length-set exact k B ∙ held.eight_exact;
      each = λ j l. elim (ℕ_discrete j k) [
        | yes e ↦
            rw (e, get_or-set_same states k b nan (omega (arith, held.eight)), get_or-set_same exact k B (pos 0) (omega (arith, held.eight_exact))) at
        | no other ↦ rw (get_or-set_other states k j b nan other, get_or-set_other exact k j B (pos 0) other) (held.each j l)
      ];
    }

zero_at : (h k : ℕ) → At h k f0 (pos 0)
unfolding of_bits
zero_at h k = record { negative = false; size = 0; value = (refl, refl); bound = omega arith; number = record { over = 0; under = 0 }; is = refl; near = (omega arith, omega arith) }

pub at_rest_lem : (h : ℕ) → Held h at_rest exact_rest
at_rest_lem h =
    record { eight = refl; eight_exact = refl; each = λ k l. rw (get_or-replicate 8 k f0 nan l, get_or-replicate 8 k (pos 0) (pos 0) l) (zero_at h k) }

-- ---- one stage

record Going (h k : ℕ) (p : Passing) (exact : ExactPassing) : Type 0 where
  t : At h k p.t exact.t
  b : At h k p.b exact.b
  states : Held h p.states exact.states

module _ (h k : ℕ) (small : h ≤ 245) (low : k < 8) (q : Float) (f : Factor q) (p : Passing) (exact : ExactPassing) (g : Going h k p exact) where
  abbrev old : Float
  old = get_or p.states k nan

  abbrev exact_old : ℤ
  exact_old = get_or exact.states k (pos 0)

  on_t : At h (suc k) (add binary32 p.t (mul binary32 q old)) (finer exact.t +ℤ in_units 26 q *ℤ exact_old)
  on_t =
      next h k _ _
      (rw f.in_parts
      (onto p.t old q exact.t exact_old f.negative f.parts (2 ^ 26) (k + (h + 23)) (fine k) (off h k) (lit< tt) (omega arith) f.value f.most g.t (g.states.each k low)))

  on_b : At h (suc k) (add binary32 (mul binary32 q p.t) old) (in_units 26 q *ℤ exact.t +ℤ finer exact_old)
  on_b =
      next h k _ _
      (rw f.in_parts
      (plus old p.t q exact_old exact.t f.negative f.parts (2 ^ 26) (k + (h + 23)) (fine k) (off h k) (lit< tt) (omega arith) f.value f.most (g.states.each k low) g.t))

  stores_b : Held h (set p.states k p.b) (set exact.states k exact.b)
  stores_b = stored h k p.states exact.states p.b exact.b low g.states g.b

  stage_near : Going h (suc k) (stage_up q k p) (exact_stage (in_units 26 q) k exact)
  unfolding stage_up exact_stage
  stage_near = record { t = on_t; b = on_b; states = stores_b }

-- ---- a filter's coefficients, all eight of them factors

abbrev pub Factors : List Float → Type 0
Factors q = (k : ℕ) → k < 8 → Factor (get_or q k nan)

in_parts_at : (q : List Float) (k : ℕ) → get_or (map (in_units 26) q) k (pos 0) ≡ in_units 26 (get_or q k nan)
in_parts_at q k = get_or-map (in_units 26) q k nan

module _ (h : ℕ) (small : h ≤ 245) (q : List Float) (fs : Factors q) where
  one_more : (k : ℕ) → k < 8 → (p : Passing) (exact : ExactPassing) → Going h k p exact
      → Going h (suc k) (stage_up (get_or q k nan) k p) (exact_stage (get_or (map (in_units 26) q) k (pos 0)) k exact)
  one_more k low p exact g = rw (in_parts_at q k) (stage_near h k small low (get_or q k nan) (fs k low) p exact g)

  stages_near : (n : ℕ) → n ≤ 8 → (p : Passing) (exact : ExactPassing) → Going h 0 p exact → Going h n (stages_to q n p) (exact_stages_to (map (in_units 26) q) n exact)
  unfolding stages_to exact_stages_to
  stages_near zero l p exact g = g
  stages_near (suc k) l p exact g = one_more k (omega arith) _ _ (stages_near k (omega arith) p exact g)

  -- ---- one line

  record LineNear (order : ℕ) (line : Passed) (exact : ExactPassed) : Type 0 where
    t : At h order line.t exact.t
    states : Held h line.states exact.states

  line_near : (order : ℕ) → order ≤ 8 → (states : List Float) (exact : List ℤ) → Held h states exact → (x : Float) (X : ℤ) → At h 0 x X
      → LineNear order (line_encoded q order states x) (line_exact (map (in_units 26) q) order exact X)
  unfolding line_encoded line_exact
  line_near zero l states exact held x X at = record { t = at; states = held }
  line_near (suc k) l states exact held x X at =
      let g = stages_near k (omega arith) (entering x states) (exact_entering X exact) (record { t = at; b = at; states = held }) in
      record {
        t = rw (in_parts_at q k) (on_t h k small (omega arith) (get_or q k nan) (fs k (omega arith)) _ _ g);
        states = stores_b h k small (omega arith) (get_or q k nan) (fs k (omega arith)) _ _ g;
      }

-- ---- the lines of a band

no_lines : (m : ℤ) → EachNear m [] []
no_lines m = record { as_many = refl; each = λ j l. absurd (not-suc-le-zero l) }

one_line_more : (m : ℤ) (y : Float) (ys : List Float) (Y : ℤ) (YS : List ℤ) → WithinOf 357 (nearness m) y Y → EachNear m ys YS → EachNear m (y ∷ ys) (Y ∷ YS)
one_line_more m y ys Y YS w near = record { as_many = ap suc near.as_many; each = at }
  where
    at : (j : ℕ) → j < length (y ∷ ys) → WithinOf 357 (nearness m) (get_or (y ∷ ys) j nan) (get_or (Y ∷ YS) j (pos 0))
    at zero l = w
    at (suc j) l = near.each j (le_of_suc-le-suc l)

-- h expressed by m: 2^m is 2^(h+23) units of 2^-149, and 2^(m-13) is 2^(h+218) of 2^-357
pub record Reading (m : ℤ) : Type 0 where
  pub h : ℕ
  pub small : h ≤ 245
  pub entering : power_in_units 149 m ≡ 2 ^ (h + 23)
  pub leaving : power_in_units 357 (nearness m) ≡ 2 ^ (h + 218)

-- each m of the range has its h
abbrev lowest : ℤ
lowest = neg_ℤ (pos 126)

nearness_shifts : (x y : ℤ) → nearness (x +ℤ y) ≡ x +ℤ nearness y
nearness_shifts x y = +ℤ_assoc x y _

from_lowest : (m : ℤ) (h : ℕ) → m ≡ pos h +ℤ lowest → h ≤ 245 → Reading m
from_lowest m h e small =
    record {
      h = h;
      small = small;
      entering = rw e (ap (λ (z : ℤ). 2 ^ nat_abs z) (+ℤ_assoc (pos h) lowest (pos 149)));
      leaving =
          rw e
          (ap (λ (z : ℤ). power_in_units 357 z) (nearness_shifts (pos h) lowest) ∙ ap (λ (z : ℤ). 2 ^ nat_abs z) (+ℤ_assoc (pos h) (nearness lowest) (pos 357)));
    }

pub reading : (m : ℤ) → InRange m → Reading m
reading (pos a) range = from_lowest (pos a) (a + 126) (omega (arith, ints)) (omega (arith, ints))
reading (negsuc a) range = from_lowest (negsuc a) (125 - a) (omega (arith, ints)) (omega arith)

module _ (m : ℤ) (r : Reading m) where
  abbrev h : ℕ
  h = r.h

  line_enters : (x : Float) → T (fits binary32 x) → AtMost m x → At h 0 x (in_units 149 x)
  line_enters x f a = rw (from_none h, none (2 ^ 0 * (2 ^ h * fine 0))) (enters x m (h + 23) f a r.entering)
    where
      from_none : (h : ℕ) → 0 + (h + 23) ≡ h + 23
      from_none h = omega arith

      none : (z : ℕ) → 0 * z ≡ 0
      none z = omega arith

  line_leaves : (order : ℕ) → order ≤ 8 → (x : Float) (X : ℤ) → At h order x X → WithinOf 357 (nearness m) x (X *ℤ pos (2 ^ (26 * (8 - order))))
  line_leaves k l x X at =
      let rest = 2 ^ (26 * (8 - k)) in
      let units : fine k * rest ≡ 2 ^ 208 = sym (pow-add 2 (26 * k) (26 * (8 - k))) ∙ ap (λ (z : ℕ). 2 ^ z) (all k l) in
      let most : off h k * rest ≤ power_in_units 357 (nearness m) * 2 =
      rw (r.leaving, pow-add 2 h 218) (in_bound k (2 ^ k) (2 ^ h) (fine k) rest (2 ^ 208) (2 ^ 218) units refl (mul-le-mul l (pow_mono l)))
      in
      leaves x X (k + (h + 23)) (fine k) (off h k) rest 357 (nearness m) (omega arith) units most at
    where
      all : (k : ℕ) → k ≤ 8 → 26 * k + 26 * (8 - k) ≡ 208
      all k l = omega arith

      -- 8·2^8 halves are 2^10
      in_bound : (k p w d c u v : ℕ) → d * c ≡ u → v ≡ u * 1024 → k * p ≤ 2048 → k * (p * (w * d)) * c ≤ w * v * 2
      in_bound k p w d c u v e f s =
          let s' : k * p * (w * u) ≤ 2048 * (w * u) = mul-le-mul_right (w * u) s in
          let e' : d * c * (k * p * w) ≡ u * (k * p * w) = ap (λ (z : ℕ). z * (k * p * w)) e in
          rw f (omega (arith, s', e'))

  module _ (q : List Float) (fs : Factors q) (order : ℕ) (most : order ≤ 8) where
    pub record Through (states xs : List Float) (exact : List ℤ) : Type 0 where
      pub lines : EachNear m (lines_by line_encoded q order states xs) (lines_exact (map (in_units 26) q) order exact (map (in_units 149) xs))
      pub after : Held h (states_by line_encoded q order states xs) (states_exact (map (in_units 26) q) order exact (map (in_units 149) xs))

    pub lines_near : (states xs : List Float) (exact : List ℤ) → Held h states exact → ((j : ℕ) → j < length xs → T (fits binary32 (get_or xs j nan)))
        → ((j : ℕ) → j < length xs → AtMost m (get_or xs j nan)) → Through states xs exact
    unfolding lines_by lines_exact states_by states_exact lines_through state_through
    lines_near states [] exact held f a = record { lines = no_lines m; after = held }
    lines_near states (x ∷ xs) exact held f a =
        let line = line_near h r.small q fs order most states exact held x (in_units 149 x) (line_enters x (f 0 (omega arith)) (a 0 (omega arith))) in
        let rest = lines_near (line_encoded q order states x).states xs (line_exact (map (in_units 26) q) order exact (in_units 149 x)).states line.states (λ j l. f (suc j) (omega arith)) (λ j l. a (suc j) (omega arith)) in
        record { lines = one_line_more m _ _ _ _ (line_leaves order most _ _ line.t) rest.lines; after = rest.after }
