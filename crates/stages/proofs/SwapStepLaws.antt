-- One swap in the work slice, and swaps made one after the other. Assumes nothing.
use Prim.Native.Nat.{ℕ, ◌+◌, ◌-◌, ◌≤◌, ◌<◌, ◌^◌}
use mathlib.Core.Path.{◌≡◌, refl, sym, ap, ◌∙◌, subst}
use mathlib.Core.Bool.{Bool, true, false, cond}
use mathlib.Core.List.{List, [], ◌∷◌, ◌++◌}
use native.Mathlib.Omega.{arith}
use lib.Dec.{eqb}
use lib.ListN.{length, set, length-set, length-append}
use lib.Seq.{get_or-set_same, get_or-set_other}
use borrow.Author.Tests.{eqb-true, eqb-false}
use Rattle.links.specs.Lists.{at, foldl}
use Rattle.links.specs.Parts.{Kept}
use Rattle.links.specs.Graph.{load}
use Rattle.links.proofs.ListLaws.{split}
use Rattle.links.proofs.PartLaws.{part-set-in, part-set-after, kept_refl, kept_trans, kept-wide, kept_set, kept-part-before}
use Rattle.stages.specs.Level.{rows_at, weights_at, owners_at, balance_in}
use Rattle.stages.specs.Moves.{Step, swap, after}
use Rattle.stages.specs.Swaps.{Proposal, in_balance, keeps_balance, applies, swap_pass}
use Rattle.stages.specs.SwapsCode.{fair_trade, Given, Standing, Marked, changed, traded, Tradable, Swapped, Taken, used_by}
use Rattle.stages.specs.declared.swaps.SwapRoom.{SwapRoom}
use Rattle.stages.proofs.LoadSetLaws.{load-sum, load-holds, load-swap, left-first, left-second}
use Rattle.stages.proofs.StepLaws.{foldl-append}
use Rattle.stages.proofs.LevelLaws.{length-owners, length-weights, owner-place, ready-kept, rows-kept, weights-kept, beneath}
use Rattle.stages.proofs.SwapListLaws.{pass-append, pass-skip, pass-take}

-- ---- loads

-- the second number of two that one store each changes
pub second-load
    : {w : List ℕ} {loads a b x y : ℕ}
    → Tradable w loads a b x y
    → (w₁ : List ℕ)
    → w₁ ≡ set w (loads + a) (at w (loads + a) - x + y)
    → (y ≤ at w₁ (loads + b)) × (at w₁ (loads + b) - y + x < 2 ^ 32)
second-load {w} {loads} {a} {b} {x} {y} t w₁ e = split (eqb a b)
    (λ p.
    let q : loads + b ≡ loads + a = ap (λ (i : ℕ). loads + i) (sym (eqb-true a b p)) in
    let z : at w₁ (loads + b) ≡ at w (loads + a) - x + y =
    ap (λ (l : List ℕ). at l (loads + b)) e ∙ ap (at (set w (loads + a) (at w (loads + a) - x + y))) q
    ∙ get_or-set_same w (loads + a) (at w (loads + a) - x + y) 0 t.first-in in
    (omega (arith, t.gives, t.takes, t.first-light), omega (arith, t.gives, t.takes, t.first-light)))
    (λ p.
    let d = eqb-false a b p in
    let z : at w₁ (loads + b) ≡ at w (loads + b) =
    ap (λ (l : List ℕ). at l (loads + b)) e ∙ get_or-set_other w (loads + a) (loads + b) (at w (loads + a) - x + y) 0 (λ q. d (omega arith)) in
    (omega (arith, t.takes), omega (arith, t.gives, t.takes, t.first-light, t.second-light)))

-- the traded loads
module _ {w : List ℕ} {loads a b x y : ℕ} (t : Tradable w loads a b x y) where
  traded-at
      : (r : ℕ)
      → at (traded w loads a b x y) (loads + r) + cond (eqb a r) x 0 + cond (eqb b r) y 0 ≡ at w (loads + r) + cond (eqb b r) x 0 + cond (eqb a r) y 0
  unfolding traded
  traded-at r =
      let z = at w (loads + a) - x + y in
      let w₁ = set w (loads + a) z in
      let y₁ = second-load t w₁ refl in
      let in₁ : loads + b < length w₁ = simp length-set t.second-in in
      let first : (i : ℕ) → eqb a i ≡ true → at w₁ (loads + i) ≡ at w (loads + i) - x + y =
      λ i p. let q : a ≡ i = eqb-true a i p in rw (← q) (get_or-set_same w (loads + a) z 0 t.first-in) in
      let other : (i : ℕ) → eqb a i ≡ false → at w₁ (loads + i) ≡ at w (loads + i) =
      λ i p. get_or-set_other w (loads + a) (loads + i) z 0 (λ q. eqb-false a i p (omega arith)) in
      split (eqb b r)
      (λ p.
      let e : b ≡ r = eqb-true b r p in
      let s : at (set w₁ (loads + b) (at w₁ (loads + b) - y + x)) (loads + r) ≡ at w₁ (loads + b) - y + x =
      rw (← e) (get_or-set_same w₁ (loads + b) (at w₁ (loads + b) - y + x) 0 in₁) in
      split (eqb a r)
      (λ q.
      let f = first b (rw e q) in
      let g : a ≡ r = eqb-true a r q in
      let m : x ≤ at w (loads + b) = rw (ap (λ (i : ℕ). loads + i) (e ∙ sym g)) t.gives in
      rw (p, q) (omega (arith, s, f, y₁.0, ap (λ (i : ℕ). at w (loads + i)) e)))
      (λ q.
      let f = other b (rw e q) in
      rw (p, q) (omega (arith, s, f, t.takes, ap (λ (i : ℕ). at w (loads + i)) e))))
      (λ p.
      let s : at (set w₁ (loads + b) (at w₁ (loads + b) - y + x)) (loads + r) ≡ at w₁ (loads + r) =
      get_or-set_other w₁ (loads + b) (loads + r) (at w₁ (loads + b) - y + x) 0 (λ q. eqb-false b r p (omega arith)) in
      split (eqb a r)
      (λ q.
      let g : a ≡ r = eqb-true a r q in
      rw (p, q) (omega (arith, s, first r q, t.gives, ap (λ (i : ℕ). at w (loads + i)) g)))
      (λ q. rw (p, q) (omega (arith, s, other r q))))

  traded-kept : (e : ℕ) → loads + a < e → loads + b < e → Kept loads e (traded w loads a b x y) w
  unfolding traded
  traded-kept e h k =
      let z = at w (loads + a) - x + y in
      let w₁ = set w (loads + a) z in
      kept_set loads e w₁ w (loads + b) (at w₁ (loads + b) - y + x)
      (kept_set loads e w w (loads + a) z (kept_refl loads e w) (omega arith) h) (omega arith) k

-- ---- one swap

module _ {w : List ℕ} {s : SwapRoom} (g : Given w s) (u v : ℕ) (h : u < s.level.vertices) (k : v < s.level.vertices) where
  abbrev n : ℕ
  n = s.level.vertices

  abbrev o : ℕ
  o = s.level.owners

  inside : s.used + n ≤ length w
  inside = omega (arith, g.used-in, g.loads-in, g.tallies-in, g.lists-in)

  changed-kept : Kept o (s.used + n) (changed w s u v) w
  unfolding changed
  changed-kept =
      let e = s.used + n in
      let w₁ = set w (o + u) (at w (o + v)) in
      let w₂ = set w₁ (o + v) (at w (o + u)) in
      let w₃ = set w₂ (s.used + u) 1 in
      let below : o + n ≤ s.used = g.ready.laid.owners-in in
      kept_set o e w₃ w (s.used + v) 1
      (kept_set o e w₂ w (s.used + u) 1
      (kept_set o e w₁ w (o + v) (at w (o + u)) (kept_set o e w w (o + u) (at w (o + v)) (kept_refl o e w) (omega arith) (omega arith)) (omega arith) (omega arith))
      (omega arith) (omega arith))
      (omega arith) (omega arith)

  changed-owners : owners_at (changed w s u v) s.level ≡ after (owners_at w s.level) (swap u v)
  unfolding changed after
  changed-owners =
      let w₁ = set w (o + u) (at w (o + v)) in
      let w₂ = set w₁ (o + v) (at w (o + u)) in
      let w₃ = set w₂ (s.used + u) 1 in
      let below : o + n ≤ s.used = g.ready.laid.owners-in in
      let l₁ : length w₁ ≡ length w = length-set w (o + u) (at w (o + v)) in
      part-set-after w₃ o (o + n) (s.used + v) 1 (omega arith)
      ∙ part-set-after w₂ o (o + n) (s.used + u) 1 (omega arith)
      ∙ part-set-in w₁ o (o + n) v (at w (o + u)) (omega arith) (omega (arith, inside)) (omega arith)
      ∙ ap (λ (z : List ℕ). set z v (at w (o + u))) (part-set-in w o (o + n) u (at w (o + v)) (omega arith) (omega (arith, inside)) (omega arith))
      ∙ rw (owner-place g.ready u h, owner-place g.ready v k)

  changed-marks : (used : List ℕ) → Marked w s used → Marked (changed w s u v) s (u ∷ v ∷ used)
  unfolding changed
  changed-marks used m i l =
      let w₁ = set w (o + u) (at w (o + v)) in
      let w₂ = set w₁ (o + v) (at w (o + u)) in
      let w₃ = set w₂ (s.used + u) 1 in
      let w₄ = set w₃ (s.used + v) 1 in
      let below : o + n ≤ s.used = g.ready.laid.owners-in in
      let l₂ : length w₂ ≡ length w = length-set w₁ (o + v) (at w (o + u)) ∙ length-set w (o + u) (at w (o + v)) in
      let l₃ : length w₃ ≡ length w = length-set w₂ (s.used + u) 1 ∙ l₂ in
      split (eqb i u)
      (λ p.
      let e : i ≡ u = eqb-true i u p in
      let z : at w₄ (s.used + i) ≡ 1 = split (eqb i v)
      (λ q. rw (eqb-true i v q) (get_or-set_same w₃ (s.used + v) 1 0 (omega (arith, inside))))
      (λ q.
      get_or-set_other w₃ (s.used + v) (s.used + i) 1 0 (λ x. eqb-false i v q (omega arith))
      ∙ rw e (get_or-set_same w₂ (s.used + u) 1 0 (omega (arith, inside)))) in
      rw (z, p))
      (λ p. split (eqb i v)
      (λ q.
      let z : at w₄ (s.used + i) ≡ 1 = rw (eqb-true i v q) (get_or-set_same w₃ (s.used + v) 1 0 (omega (arith, inside))) in
      rw (z, p, q))
      (λ q.
      let z : at w₄ (s.used + i) ≡ at w (s.used + i) =
      get_or-set_other w₃ (s.used + v) (s.used + i) 1 0 (λ x. eqb-false i v q (omega arith))
      ∙ get_or-set_other w₂ (s.used + u) (s.used + i) 1 0 (λ x. eqb-false i u p (omega arith))
      ∙ get_or-set_other w₁ (o + v) (s.used + i) (at w (o + u)) 0 (λ x. omega arith)
      ∙ get_or-set_other w (o + u) (s.used + i) (at w (o + v)) 0 (λ x. omega arith) in
      rw (z, p, q) (m i l)))

-- every owner stays a rank
after-below
    : (os : List ℕ) (u v i k : ℕ)
    → u < length os
    → v < length os
    → i < length os
    → ((j : ℕ) → j < length os → at os j < k)
    → at (after os (swap u v)) i < k
unfolding after
after-below os u v i k h m l f =
    let os₁ = set os u (at os v) in
    let n₁ : length os₁ ≡ length os = length-set os u (at os v) in
    split (eqb i v)
    (λ p. rw (eqb-true i v p) (rw (get_or-set_same os₁ v (at os u) 0 (omega arith)) (f u h)))
    (λ p.
    let e : at (set os₁ v (at os u)) i ≡ at os₁ i = get_or-set_other os₁ v i (at os u) 0 (eqb-false i v p) in
    split (eqb i u)
    (λ q.
    let z : at os₁ i ≡ at os v = rw (eqb-true i u q) (get_or-set_same os u (at os v) 0 h) in
    rw (e, z) (f v m))
    (λ q.
    let z : at os₁ i ≡ at os i = get_or-set_other os u i (at os v) 0 (eqb-false i u q) in
    rw (e, z) (f i l)))

-- Given and Standing, by what they rest on
pub given-after
    : {w w' : List ℕ} {s : SwapRoom} (a e : ℕ)
    → Given w s
    → Kept a e w' w
    → s.level.owners ≤ a
    → ((v : ℕ) → v < s.level.vertices → at (owners_at w' s.level) v < s.limits.ranks)
    → Given w' s
given-after a e g k h f = record {
  ready = ready-kept g.ready k (beneath g.ready h);
  used-in = g.used-in;
  loads-in = g.loads-in;
  tallies-in = g.tallies-in;
  lists-in = rw k.same_length g.lists-in;
  some-listed = g.some-listed;
  few-listed = g.few-listed;
  few-ranks = g.few-ranks;
  ranked = f;
}

module _ {w : List ℕ} {s : SwapRoom} (t : Standing w s) (u v : ℕ) (h : u < s.level.vertices) (k : v < s.level.vertices)
    (a b x y : ℕ) (ea : a ≡ at (owners_at w s.level) u) (eb : b ≡ at (owners_at w s.level) v) (ex : x ≡ at (weights_at w s.level) u)
    (ey : y ≡ at (weights_at w s.level) v) (w₁ : List ℕ) (e₁ : w₁ ≡ changed w s u v) where
  abbrev os : List ℕ
  os = owners_at w s.level

  abbrev ws : List ℕ
  ws = weights_at w s.level

  few : length os ≡ s.level.vertices
  few = length-owners t.given.ready

  all : length ws ≡ s.level.vertices
  all = length-weights t.given.ready

  kept₁ : Kept s.level.owners (s.used + s.level.vertices) w₁ w
  kept₁ = rw e₁ (changed-kept t.given u v h k)

  ranks-in : (a < s.limits.ranks) × (b < s.limits.ranks)
  ranks-in = (rw ea (t.given.ranked u h), rw eb (t.given.ranked v k))

  -- the loads are still those of before
  load₁ : (r : ℕ) → r < s.limits.ranks → at w₁ (s.loads + r) ≡ load ws os r
  load₁ r m = kept₁.beyond (s.loads + r) (omega (arith, t.given.used-in)) ∙ t.loaded r m

  light : (r : ℕ) → load ws os r < 2 ^ 31
  light r = omega (arith, load-sum ws os r, t.given.ready.light)

  pub tradable : Tradable w₁ s.loads a b x y
  tradable =
      let la = load₁ a ranks-in.0 in
      let lb = load₁ b ranks-in.1 in
      let n₁ = kept₁.same_length in
      let room : s.loads + s.limits.ranks ≤ length w = omega (arith, t.given.loads-in, t.given.tallies-in, t.given.lists-in) in
      record {
        first-in = omega (arith, ranks-in.0);
        second-in = omega (arith, ranks-in.1);
        gives = rw (la, ex, ea) (load-holds ws os u (omega (arith, few)));
        takes = rw (lb, ey, eb) (load-holds ws os v (omega (arith, few)));
        first-light = rw la (light a);
        second-light = rw lb (light b);
      }

  pub swapped : (w₂ : List ℕ) → w₂ ≡ traded w₁ s.loads a b x y → Swapped w w₂ s u v
  swapped w₂ e₂ =
      let l = s.level in
      let g = t.given in
      let room : s.loads + s.limits.ranks ≤ s.tallies = g.loads-in in
      let kept₂ : Kept s.loads s.tallies w₂ w₁ =
      rw e₂ (traded-kept tradable s.tallies (omega (arith, ranks-in.0)) (omega (arith, ranks-in.1))) in
      let below : l.owners + l.vertices ≤ s.used = g.ready.laid.owners-in in
      let kept : Kept l.owners s.tallies w₂ w =
      kept_trans l.owners s.tallies w₂ w₁ w
      (kept-wide s.loads s.tallies l.owners s.tallies w₂ w₁ (omega (arith, g.used-in)) (omega arith) kept₂)
      (kept-wide l.owners (s.used + l.vertices) l.owners s.tallies w₁ w (omega arith) (omega (arith, g.used-in)) kept₁) in
      let owners₁ : owners_at w₁ l ≡ after os (swap u v) = rw e₁ (changed-owners g u v h k) in
      let owners₂ : owners_at w₂ l ≡ after os (swap u v) =
      kept-part-before s.loads s.tallies w₂ w₁ kept₂ l.owners (l.owners + l.vertices) (omega (arith, g.used-in)) ∙ owners₁ in
      record {
        standing = record {
          given = given-after l.owners s.tallies g kept (omega arith)
              (λ i m. rw owners₂ (after-below os u v i s.limits.ranks (omega (arith, few)) (omega (arith, few)) (omega (arith, few)) (λ j q. g.ranked j (omega (arith, few)))));
          loaded = λ r m.
              let i : at w₂ (s.loads + r) ≡ at (traded w₁ s.loads a b x y) (s.loads + r) = ap (λ (z : List ℕ). at z (s.loads + r)) e₂ in
              let j = rw (← ea, ← eb, ← ex, ← ey) at (load-swap ws os u v r (omega (arith, few)) (omega (arith, few)) (omega (arith, few, all))) in
              rw (weights-kept g.ready kept (beneath g.ready (omega arith)), owners₂) (omega (arith, i, j, traded-at tradable r, load₁ r m));
        };
        kept = kept;
        owners-are = owners₂;
        marked = λ used m i q.
            ap (λ (z : ℕ). eqb z 0) (kept₂.below (s.used + i) (omega (arith, g.used-in))) ∙ rw e₁ (changed-marks g u v h k used m i q);
      }

-- ---- the test of the loads

module _ {w : List ℕ} {s : SwapRoom} (t : Standing w s) where
  pub load_at : (v r : ℕ) → v < s.level.vertices → r ≡ at (owners_at w s.level) v
      → at w (s.loads + r) ≡ load (weights_at w s.level) (owners_at w s.level) (at (owners_at w s.level) v)
  load_at v r h e = ap (λ (i : ℕ). at w (s.loads + i)) e ∙ t.loaded (at (owners_at w s.level) v) (t.given.ranked v h)

  pub gives_less : (v r x : ℕ) → v < s.level.vertices → r ≡ at (owners_at w s.level) v → x ≡ at (weights_at w s.level) v → x ≤ at w (s.loads + r)
  gives_less v r x h e f = rw (f, load_at v r h e) (load-holds (weights_at w s.level) (owners_at w s.level) v (omega (arith, length-owners t.given.ready)))

  -- what two vertices' loads are after a trade is what they are after the swap
  module _ (u v : ℕ) (h : u < s.level.vertices) (k : v < s.level.vertices) (d : at (owners_at w s.level) u ≡ at (owners_at w s.level) v → ⊥) where
    abbrev trade : ℕ → ℕ → Bool
    trade x y =
        fair_trade s.limits.floor s.limits.cap
        (load (weights_at w s.level) (owners_at w s.level) (at (owners_at w s.level) x))
        (at (weights_at w s.level) x) (at (weights_at w s.level) y)

    abbrev kept : ℕ → Bool
    kept x =
        keeps_balance (balance_in s.limits) (rows_at w s.level) (weights_at w s.level) (owners_at w s.level) (swap u v) (at (owners_at w s.level) x)

    sized : (v < length (owners_at w s.level)) × (u < length (owners_at w s.level)) × (length (weights_at w s.level) ≡ length (owners_at w s.level))
    sized =
        let n = length-owners t.given.ready in
        let m = length-weights t.given.ready in
        (omega arith, omega arith, omega arith)

    pub first-kept : trade u v ≡ kept u
    unfolding fair_trade keeps_balance in_balance
    first-kept = rw (left-first (weights_at w s.level) (owners_at w s.level) u v sized.1 sized.0 sized.2 d)

    pub second-kept : trade v u ≡ kept v
    unfolding fair_trade keeps_balance in_balance
    second-kept = rw (left-second (weights_at w s.level) (owners_at w s.level) u v sized.1 sized.0 sized.2 d)

-- ---- swaps one after the other

pub taken_none : {w : List ℕ} {s : SwapRoom} → Standing w s → Taken w w s 0 []
unfolding swap_pass
taken_none {w} {s} t = record {
  standing = t;
  kept = kept_refl s.level.owners s.tallies w;
  done = λ used m. record { counted = refl; owners-are = refl; marked = m };
}

module _ {w : List ℕ} {s : SwapRoom} (p : Proposal) where
  -- a proposal that does not apply, and one that does
  pub taken-skip
      : Standing w s
      → ((used : List ℕ) → Marked w s used
      → false ≡ applies (balance_in s.limits) (rows_at w s.level) (weights_at w s.level) used (owners_at w s.level) p.first p.second)
      → Taken w w s 0 (p ∷ [])
  taken-skip t f = record {
    standing = t;
    kept = kept_refl s.level.owners s.tallies w;
    done = λ used m.
        rw (pass-skip (balance_in s.limits) (rows_at w s.level) (weights_at w s.level) p used (owners_at w s.level) (sym (f used m)))
        (record { counted = refl; owners-are = refl; marked = m });
  }

  pub taken-swap
      : (w' : List ℕ)
      → ((used : List ℕ) → Marked w s used
      → true ≡ applies (balance_in s.limits) (rows_at w s.level) (weights_at w s.level) used (owners_at w s.level) p.first p.second)
      → Swapped w w' s p.first p.second
      → Taken w w' s 1 (p ∷ [])
  taken-swap w' f d = record {
    standing = d.standing;
    kept = d.kept;
    done = λ used m.
        rw (pass-take (balance_in s.limits) (rows_at w s.level) (weights_at w s.level) p used (owners_at w s.level) (sym (f used m)))
        (record { counted = refl; owners-are = d.owners-are; marked = d.marked used m });
  }

-- some proposals, and then others
pub taken-then
    : {w w₁ w₂ : List ℕ} {s : SwapRoom} {i j : ℕ} {ps qs : List Proposal}
    → Given w s
    → Taken w w₁ s i ps
    → Taken w₁ w₂ s j qs
    → Taken w w₂ s (i + j) (ps ++ qs)
taken-then {w} {w₁} {w₂} {s} {i} {j} {ps} {qs} g x y =
    let l = s.level in
    let b = balance_in s.limits in
    let below : l.owners ≤ l.owners = omega arith in
    let rows : rows_at w₁ l ≡ rows_at w l = rows-kept g.ready x.kept (beneath g.ready below) in
    let weights : weights_at w₁ l ≡ weights_at w l = weights-kept g.ready x.kept (beneath g.ready below) in
    record {
      standing = y.standing;
      kept = kept_trans l.owners s.tallies w₂ w₁ w y.kept x.kept;
      done = λ used m.
          let d = x.done used m in
          let ss = swap_pass b (rows_at w l) (weights_at w l) ps used (owners_at w l) in
          let used₁ = foldl used_by used ss in
          let e = y.done used₁ d.marked in
          let ts = swap_pass b (rows_at w l) (weights_at w l) qs used₁ (foldl after (owners_at w l) ss) in
          let f : swap_pass b (rows_at w₁ l) (weights_at w₁ l) qs used₁ (owners_at w₁ l) ≡ ts = rw (rows, weights, d.owners-are) in
          let c : j ≡ length ts = e.counted ∙ ap length f in
          let o : owners_at w₂ l ≡ foldl after (foldl after (owners_at w l) ss) ts =
          e.owners-are ∙ ap (foldl after (owners_at w₁ l)) f ∙ ap (λ (z : List ℕ). foldl after z ts) d.owners-are in
          let k : Marked w₂ s (foldl used_by used₁ ts) = subst (λ (z : List Step). Marked w₂ s (foldl used_by used₁ z)) f e.marked in
          rw (pass-append b (rows_at w l) (weights_at w l) ps qs used (owners_at w l))
          (record {
            counted = omega (arith, d.counted, c, length-append ss ts);
            owners-are = o ∙ sym (foldl-append after ss ts (owners_at w l));
            marked = subst (Marked w₂ s) (sym (foldl-append used_by ss ts used)) k;
          });
    }
