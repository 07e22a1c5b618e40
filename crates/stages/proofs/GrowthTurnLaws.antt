-- A rank's turn: what the memory does, against what the definition does; first on lists, then in the work slice. Assumes nothing.
use mathlib.Core.Path.{◌≡◌, refl, sym, ap, ap₂, ◌∙◌, subst}
use mathlib.Core.Logic.{◌≢◌}
use mathlib.Core.Bool.{Bool, true, false}
use mathlib.Core.List.{List, [], ◌∷◌, ◌++◌}
use mathlib.Core.Option.{Option, none, some}
use Prim.Native.Nat.{ℕ, ◌+◌, ◌<◌}
use native.Mathlib.Omega.{arith}
use lib.Dec.{eqb, leb}
use lib.ListN.{length, get_or, set, length-set}
use lib.Seq.{get_or-set_same, get_or-set_other}
use borrow.Author.Tests.{eqb-true, eqb-false}
use Rattle.links.specs.Lists.{at, unassigned, filter, best, range}
use Rattle.links.specs.Graph.{row, load}
use Rattle.links.proofs.ListLaws.{split, and_l, filter-append}
use Rattle.stages.specs.Growth.{Growing, Popped, pop, choice, passes, claims, restarts, turn, chosen, claimed, restart, unowned, fits}
use Rattle.stages.specs.FrontierCode.{opens, higher, Memory, front_of, Stands, kind_of}
use Rattle.stages.specs.declared.growth.TurnKind.{TurnKind}
use Rattle.stages.specs.declared.growth.TurnKind.TheVariants.{Pass, Claim, Restart}
use Rattle.stages.proofs.GrowthLaws.{unowned-in}
use Rattle.stages.proofs.FrontierLaws.{first, rest, filter-sub, same-sub, pop-claim, pop-rest, opens_before, open-facts}

-- open to rank r
abbrev pub open_to : ℕ → List ℕ → List ℕ → ℕ → ℕ → Bool
open_to cap weights owners r = opens cap weights owners (load weights owners r)

-- ---- the definition's turn, by what is open to the rank

module _ (cap : ℕ) (rows : List (List ℕ)) (weights : List ℕ) (s : Growing) (r : ℕ) where
  abbrev pop_now : Popped
  pop_now = pop (unowned s.owners) (fits cap weights s.owners r) (get_or s.frontiers r []) []

  module _ (xs : List ℕ) (e : filter (open_to cap weights s.owners r) (get_or s.frontiers r []) ≡ xs) where
    -- the first open candidate is popped, and the others stay
    first_popped : pop_now.claim ≡ first xs
    unfolding opens fits
    first_popped = pop-claim (unowned s.owners) (fits cap weights s.owners r) (get_or s.frontiers r []) [] ∙ ap first e

    rest-stay : filter (open_to cap weights s.owners r) pop_now.frontier ≡ rest xs
    unfolding opens fits
    rest-stay = pop-rest (unowned s.owners) (fits cap weights s.owners r) (get_or s.frontiers r []) [] refl ∙ ap rest e

  turn-claims
      : (g : ℕ)
      → pop_now.claim ≡ some g
      → ((turn cap rows weights s r).turn.choice ≡ claims g) × ((turn cap rows weights s r).state ≡ claimed cap rows weights s r pop_now.frontier g)
  unfolding turn chosen
  turn-claims g e =
      let c : choice pop_now.claim (restart cap rows weights s.owners r) ≡ claims g =
      ap (λ (o : Option ℕ). choice o (restart cap rows weights s.owners r)) e in
      (c, ap (chosen cap rows weights s r pop_now.frontier) c)

  turn-restarts
      : (g : ℕ)
      → pop_now.claim ≡ none
      → restart cap rows weights s.owners r ≡ some g
      → ((turn cap rows weights s r).turn.choice ≡ restarts g) × ((turn cap rows weights s r).state ≡ claimed cap rows weights s r pop_now.frontier g)
  unfolding turn chosen
  turn-restarts g e f =
      let c : choice pop_now.claim (restart cap rows weights s.owners r) ≡ restarts g = ap₂ choice e f in
      (c, ap (chosen cap rows weights s r pop_now.frontier) c)

  turn-passes
      : pop_now.claim ≡ none
      → restart cap rows weights s.owners r ≡ none
      → ((turn cap rows weights s r).turn.choice ≡ passes)
      × ((turn cap rows weights s r).state ≡ record { owners = s.owners; frontiers = set s.frontiers r pop_now.frontier })
  unfolding turn chosen
  turn-passes e f =
      let c : choice pop_now.claim (restart cap rows weights s.owners r) ≡ passes = ap₂ choice e f in
      (c, ap (chosen cap rows weights s r pop_now.frontier) c)

pub restart-is
    : (cap : ℕ) (rows : List (List ℕ)) (weights owners : List ℕ) (r : ℕ)
    → restart cap rows weights owners r ≡ best (higher rows) (filter (open_to cap weights owners r) (range 0 (length rows)))
unfolding opens fits restart
restart-is cap rows weights owners r = refl

-- ---- what the memory stands for

module _ {cap : ℕ} {rows : List (List ℕ)} {weights : List ℕ} {k : ℕ} {m : Memory} {s : Growing} (r : ℕ) (q : r < k) (t : Stands cap rows weights k m s) where
  -- only the place in the chain has changed
  pub stands-parked
      : (m' : Memory)
      → m'.owners ≡ m.owners
      → filter (open_to cap weights m.owners r) (front_of rows m' r) ≡ filter (open_to cap weights m.owners r) (front_of rows m r)
      → ((d : ℕ) → d < k → (d ≡ r → ⊥) → front_of rows m' d ≡ front_of rows m d)
      → Stands cap rows weights k m' s
  stands-parked m' e h o = record {
    owners-are = e ∙ t.owners-are;
    fronts = λ d l.
        subst (λ (o : List ℕ). filter (open_to cap weights o d) (front_of rows m' d) ≡ filter (open_to cap weights o d) (get_or s.frontiers d [])) (sym e)
        (split (eqb d r)
        (λ p. let w : d ≡ r = eqb-true d r p in rw w (h ∙ t.fronts r q))
        (λ p. ap (filter (open_to cap weights m.owners d)) (o d l (eqb-false d r p)) ∙ t.fronts d l));
    all-ranks = t.all-ranks;
  }

  -- a pass
  stands-pass
      : filter (open_to cap weights m.owners r) (front_of rows m r) ≡ []
      → (f : List ℕ)
      → filter (open_to cap weights s.owners r) f ≡ []
      → Stands cap rows weights k m (record { owners = s.owners; frontiers = set s.frontiers r f })
  stands-pass e f z = record {
    owners-are = t.owners-are;
    fronts = λ d l. split (eqb d r)
        (λ p. let w : d ≡ r = eqb-true d r p in
        rw w (e ∙ sym (ap (filter (open_to cap weights m.owners r)) (get_or-set_same s.frontiers r f [] (rw t.all-ranks q)) ∙ rw t.owners-are z)))
        (λ p. t.fronts d l ∙ sym (ap (filter (open_to cap weights m.owners d)) (get_or-set_other s.frontiers r d f [] (eqb-false d r p))));
    all-ranks = length-set s.frontiers r f ∙ t.all-ranks;
  }

  -- a claim
  module _ (m' : Memory) (g : ℕ) (kn : k < unassigned) (u : at m.owners g ≡ unassigned) (eo : m'.owners ≡ set m.owners g r)
      (here : front_of rows m' r ≡ front_of rows m r ++ row rows g)
      (there : (d : ℕ) → d < k → (d ≡ r → ⊥) → front_of rows m' d ≡ front_of rows m d) where
    rn : r ≢ unassigned
    rn e = omega arith

    abbrev os : List ℕ
    os = set m.owners g r

    less : (d : ℕ) → d < k → (x : ℕ) → open_to cap weights os d x ≡ true → open_to cap weights m.owners d x ≡ true
    less d l = opens_before cap weights m.owners g r d u rn (λ e. omega arith)

    -- the claimed group is no candidate any more
    gone : open_to cap weights os r g ≡ false
    gone = split (open_to cap weights os r g)
        (λ p. absurd (rn (sym (get_or-set_same m.owners g r 0 (unowned-in m.owners g u)) ∙ (open-facts cap weights os (load weights os r) g p).0)))
        (λ p. p)

    module _ (f : List ℕ) (same : filter (open_to cap weights os r) (front_of rows m r) ≡ filter (open_to cap weights os r) f) where
      added : List ℕ
      added = f ++ filter (unowned (set m.owners g r)) (row rows g)

      row_same : filter (open_to cap weights os r) (filter (unowned os) (row rows g)) ≡ filter (open_to cap weights os r) (row rows g)
      unfolding opens
      row_same =
          filter-sub (open_to cap weights os r) (unowned os) (λ x e. and_l (unowned os x) (leb (load weights os r + at weights x) cap) e) (row rows g)

      here-same : filter (open_to cap weights os r) (front_of rows m' r) ≡ filter (open_to cap weights os r) added
      unfolding added
      here-same =
          ap (filter (open_to cap weights os r)) here
          ∙ filter-append (open_to cap weights os r) (front_of rows m r) (row rows g)
          ∙ ap₂ (λ (a b : List ℕ). a ++ b) same (sym row_same)
          ∙ sym (filter-append (open_to cap weights os r) f (filter (unowned os) (row rows g)))

      there-same
          : (d : ℕ)
          → d < k
          → (d ≡ r → ⊥)
          → filter (open_to cap weights os d) (front_of rows m' d) ≡ filter (open_to cap weights os d) (get_or s.frontiers d [])
      there-same d l o =
          ap (filter (open_to cap weights os d)) (there d l o)
          ∙ same-sub (open_to cap weights os d) (open_to cap weights m.owners d) (less d l) (front_of rows m d) (get_or s.frontiers d []) (t.fronts d l)

      fronts-now
          : (d : ℕ)
          → d < k
          → filter (open_to cap weights os d) (front_of rows m' d) ≡ filter (open_to cap weights os d) (get_or (set s.frontiers r added) d [])
      fronts-now d l = split (eqb d r)
          (λ p. let w : d ≡ r = eqb-true d r p in
          rw w (here-same ∙ sym (ap (filter (open_to cap weights os r)) (get_or-set_same s.frontiers r added [] (rw t.all-ranks q)))))
          (λ p. let o = eqb-false d r p in
          there-same d l o ∙ sym (ap (filter (open_to cap weights os d)) (get_or-set_other s.frontiers r d added [] o)))

      stands-claim : Stands cap rows weights k m' (claimed cap rows weights s r f g)
      unfolding claimed added
      stands-claim =
          let so : m.owners ≡ s.owners = t.owners-are in
          let fr : List ℕ → List (List ℕ) = λ o. set s.frontiers r (f ++ filter (unowned (set o g r)) (row rows g)) in
          record {
            owners-are = eo ∙ ap (λ (o : List ℕ). set o g r) so;
            fronts = λ d l.
                subst (λ (o : List ℕ). filter (open_to cap weights o d) (front_of rows m' d) ≡ filter (open_to cap weights o d) (get_or (fr s.owners) d []))
                (sym eo)
                (subst (λ (o : List ℕ). filter (open_to cap weights os d) (front_of rows m' d) ≡ filter (open_to cap weights os d) (get_or (fr o) d [])) so (fronts-now d l));
            all-ranks = length-set s.frontiers r (f ++ filter (unowned (set s.owners g r)) (row rows g)) ∙ t.all-ranks;
          }

    -- the definition's frontier after `pop` agrees with the chain's, once g is owned
    same-popped
        : (xs f : List ℕ)
        → filter (open_to cap weights m.owners r) (front_of rows m r) ≡ g ∷ xs
        → filter (open_to cap weights m.owners r) f ≡ xs
        → filter (open_to cap weights os r) (front_of rows m r) ≡ filter (open_to cap weights os r) f
    same-popped xs f e d =
        let A : ℕ → Bool = open_to cap weights os r in
        let B : ℕ → Bool = open_to cap weights m.owners r in
        let drop-one : filter A (g ∷ xs) ≡ filter A xs = rw gone in
        sym (filter-sub A B (less r q) (front_of rows m r)) ∙ ap (filter A) e ∙ drop-one ∙ sym (ap (filter A) d) ∙ filter-sub A B (less r q) f

    same-none
        : (f : List ℕ)
        → filter (open_to cap weights m.owners r) (front_of rows m r) ≡ []
        → filter (open_to cap weights m.owners r) f ≡ []
        → filter (open_to cap weights os r) (front_of rows m r) ≡ filter (open_to cap weights os r) f
    same-none f e d = same-sub (open_to cap weights os r) (open_to cap weights m.owners r) (less r q) (front_of rows m r) f (e ∙ sym d)

-- ---- whole turns

module _ {cap : ℕ} {rows : List (List ℕ)} {weights : List ℕ} {k : ℕ} {m : Memory} {s : Growing} (r : ℕ) (q : r < k) (t : Stands cap rows weights k m s) where
  abbrev Made : Memory → TurnKind → Type 0
  Made m' x = (x ≡ kind_of (turn cap rows weights s r).turn.choice) × Stands cap rows weights k m' (turn cap rows weights s r).state

  abbrev pf : List ℕ
  pf = (pop (unowned s.owners) (fits cap weights s.owners r) (get_or s.frontiers r []) []).frontier

  -- the definition's open candidates
  theirs
      : (xs : List ℕ)
      → filter (open_to cap weights m.owners r) (front_of rows m r) ≡ xs
      → filter (open_to cap weights s.owners r) (get_or s.frontiers r []) ≡ xs
  theirs xs e =
      subst (λ (o : List ℕ). filter (open_to cap weights o r) (get_or s.frontiers r []) ≡ xs) t.owners-are (sym (t.fronts r q) ∙ e)

  ours : (xs f : List ℕ) → filter (open_to cap weights s.owners r) f ≡ xs → filter (open_to cap weights m.owners r) f ≡ xs
  ours xs f e = subst (λ (o : List ℕ). filter (open_to cap weights o r) f ≡ xs) (sym t.owners-are) e

  restart-theirs : restart cap rows weights s.owners r ≡ restart cap rows weights m.owners r
  restart-theirs = ap (λ (o : List ℕ). restart cap rows weights o r) (sym t.owners-are)

  pub pass-made : filter (open_to cap weights m.owners r) (front_of rows m r) ≡ [] → restart cap rows weights m.owners r ≡ none → Made m Pass
  pass-made e a =
      let p = turn-passes cap rows weights s r (first_popped cap rows weights s r [] (theirs [] e)) (restart-theirs ∙ a) in
      (sym (ap kind_of p.0), subst (Stands cap rows weights k m) (sym p.1) (stands-pass r q t e pf (rest-stay cap rows weights s r [] (theirs [] e))))

  module _ (m' : Memory) (g : ℕ) (kn : k < unassigned) (u : at m.owners g ≡ unassigned) (eo : m'.owners ≡ set m.owners g r)
      (here : front_of rows m' r ≡ front_of rows m r ++ row rows g)
      (there : (d : ℕ) → d < k → (d ≡ r → ⊥) → front_of rows m' d ≡ front_of rows m d) where
    pub claim-made : (xs : List ℕ) → filter (open_to cap weights m.owners r) (front_of rows m r) ≡ g ∷ xs → Made m' Claim
    claim-made xs e =
        let th = theirs (g ∷ xs) e in
        let p = turn-claims cap rows weights s r g (first_popped cap rows weights s r (g ∷ xs) th) in (
          sym (ap kind_of p.0),
          subst (Stands cap rows weights k m') (sym p.1)
              (stands-claim r q t m' g kn u eo here there pf
              (same-popped r q t m' g kn u eo here there xs pf e (ours xs pf (rest-stay cap rows weights s r (g ∷ xs) th)))),
        )

    pub restart-made : filter (open_to cap weights m.owners r) (front_of rows m r) ≡ [] → restart cap rows weights m.owners r ≡ some g → Made m' Restart
    restart-made e a =
        let th = theirs [] e in
        let p = turn-restarts cap rows weights s r g (first_popped cap rows weights s r [] th) (restart-theirs ∙ a) in (
          sym (ap kind_of p.0),
          subst (Stands cap rows weights k m') (sym p.1)
              (stands-claim r q t m' g kn u eo here there pf
              (same-none r q t m' g kn u eo here there pf e (ours [] pf (rest-stay cap rows weights s r [] th)))),
        )
