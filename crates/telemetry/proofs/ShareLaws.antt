-- The largest of fractions f / g, compared by whole products, the earlier of equals: what is named, one more met at a time. Assumes nothing.
use Rattle.std.proofs.Common.{◌≡◌, ℕ, ◌+◌, ◌*◌, ◌<◌, ◌≤◌, Bool, cond, ltb, List, [], ◌∷◌, ◌++◌, sym, refl, ap, ◌∙◌, mul-le-mul_right, mul_assoc, mul_comm, add-one, arith, ltb-false, ltb-true}
use mathlib.Core.Option.{Option, none, some}
use Rattle.links.specs.Lists.{range, best_from, best}
use Rattle.links.proofs.ListLaws.{split}
use Rattle.links.proofs.RangeLaws.{range_snoc}

best-append : (b : ℕ → ℕ → Bool) (h : Option ℕ) (xs ys : List ℕ) → best_from b h (xs ++ ys) ≡ best_from b (best_from b h xs) ys
best-append b h [] ys = refl
best-append b none (x ∷ xs) ys = best-append b (some x) xs ys
best-append b (some w) (x ∷ xs) ys = best-append b (some (cond (b x w) x w)) xs ys

pub best-more : (b : ℕ → ℕ → Bool) (i w : ℕ) → best b (range 0 i) ≡ some w → best b (range 0 (i + 1)) ≡ some (cond (b i w) i w)
best-more b i w h =
    let e : range 0 (i + 1) ≡ range 0 i ++ (i ∷ []) = rw add-one (range_snoc 0 i i (omega arith)) in
    ap (λ (l : List ℕ). best b l) e ∙ best-append b none (range 0 i) (i ∷ []) ∙ ap (λ (o : Option ℕ). best_from b o (i ∷ [])) h

-- a / b at most c / d, and that less than e / f: a / b is less than e / f
less : (a b c d e f : ℕ) → 1 ≤ b → a * d ≤ c * b → c * f < e * d → a * f < e * b
less a b c d e f p h k = split (ltb (a * f) (e * b))
    (λ q. ltb-true (a * f) (e * b) q)
    (λ q.
    let back : e * b ≤ a * f = ltb-false (a * f) (e * b) q in
    -- e × b × d ≤ a × f × d ≤ c × b × f < e × d × b
    let one : e * b * d ≤ a * f * d = mul-le-mul_right d back in
    let two : a * d * f ≤ c * b * f = mul-le-mul_right f h in
    let three : (c * f + 1) * b ≤ e * d * b = mul-le-mul_right b (omega (arith, k)) in
    let ebd : e * b * d ≡ e * d * b = mul_assoc e b d ∙ ap (λ (x : ℕ). e * x) (mul_comm b d) ∙ sym (mul_assoc e d b) in
    let afd : a * f * d ≡ a * d * f = mul_assoc a f d ∙ ap (λ (x : ℕ). a * x) (mul_comm f d) ∙ sym (mul_assoc a d f) in
    let cbf : c * b * f ≡ c * f * b = mul_assoc c b f ∙ ap (λ (x : ℕ). c * x) (mul_comm b f) ∙ sym (mul_assoc c f b) in
    let cf : (c * f + 1) * b ≡ c * f * b + b = omega arith in
    absurd (omega (arith, one, two, three, ebd, afd, cbf, cf, p)))

module _ (f g : ℕ → ℕ) where
  -- i above j
  abbrev pub higher : ℕ → ℕ → Bool
  higher i j = ltb (f j * g i) (f i * g j)

  -- w is the one of the first i
  pub record Top (i w : ℕ) : Type 0 where
    pub there : w < i
    pub largest : (j : ℕ) → j < i → f j * g w ≤ f w * g j
    pub earlier : (j : ℕ) → j < w → f j * g w < f w * g j

  pub top-first : Top 1 0
  top-first = record { there = omega arith; largest = λ j h. let z : j ≡ 0 = omega arith in rw z (omega arith); earlier = λ j h. absurd (omega arith) }

  -- one more is met
  pub top-more : (i w : ℕ) → ((j : ℕ) → j < i → 1 ≤ g j) → Top i w → Top (i + 1) (cond (higher i w) i w)
  top-more i w pos t = split (higher i w)
      (λ p.
      let above : (j : ℕ) → j < i → f j * g i < f i * g j = λ j h. less (f j) (g j) (f w) (g w) (f i) (g i) (pos j h) (t.largest j h) (ltb-true (f w * g i) (f i * g w) p) in
      rw p (record {
        there = omega arith;
        largest = λ j h. split (ltb j i)
            (λ q. let u = above j (ltb-true j i q) in omega arith)
            (λ q. let z : j ≡ i = omega (arith, ltb-false j i q) in rw z (omega arith));
        earlier = above;
      }))
      (λ p.
      let under = ltb-false (f w * g i) (f i * g w) p in
      rw p (record {
        there = omega (arith, t.there);
        largest = λ j h. split (ltb j i)
            (λ q. t.largest j (ltb-true j i q))
            (λ q. let z : j ≡ i = omega (arith, ltb-false j i q) in rw z under);
        earlier = t.earlier;
      }))
