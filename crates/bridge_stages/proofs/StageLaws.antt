-- Laws of the stages on a lent level: what a stage needs that search does not find alone, and that what it leaves is what is promised. Assumes nothing.
use Rattle.std.proofs.Common.{ℕ, ◌≡◌, refl, sym, List, length, false, arith, Result, ◌∙◌, ◌≤◌, ◌<◌}
use borrow.Author.Tests.{lt-ltb, le-ltb}
use Rattle.links.specs.Graph.{vertex_count}
use Rattle.links.specs.Options.{bad_list_length}
use Rattle.links.specs.Refusals.{number_of}
use Rattle.links.specs.declared.refusal.Refusal.{Refusal}
use Rattle.links.proofs.RowLaws.{length-rows}
use Rattle.links.proofs.OptionLaws.{good-list-length}
use Rattle.stages.specs.Level.{Ready}
use Rattle.stages.specs.SeedsCode.{Seeded}
use Rattle.stages.specs.GrowthCode.{GrownTold, growth_cause, grown_value}
use Rattle.stages.specs.SwapsCode.{Swappable}
use Rattle.bridge_stages.specs.declared.lent.Place.{Place}
use Rattle.bridge_stages.specs.Lent.{Lent, rows_in, place_of, lent_cause, LevelIn, Entered}
use Rattle.bridge_stages.specs.Stages.{SeededHere, GrownHere, growth_cause_of}

module _ (s : Lent) (w w₁ : List ℕ) (e : Entered s w w₁ 0) where
  here : LevelIn s w₁
  here = e.laid refl

  none : lent_cause s (length w) ≡ 0
  none = sym e.cause

  rows-count : length (rows_in s) ≡ vertex_count s.offsets
  rows-count = length-rows s.offsets s.neighbors

  -- the level ends below the stages' own room
  ready-below : Ready w₁ (place_of s).level (place_of s).scratch
  ready-below =
      let r = here.ready in
      record {
        laid =
            record {
              offsets-in = r.laid.offsets-in;
              neighbors-in = r.laid.neighbors-in;
              weights-in = r.laid.weights-in;
              map-in = r.laid.map-in;
              owners-in = omega (arith, r.laid.owners-in);
            };
        inside = omega (arith, here.room);
        lists = r.lists;
        few = r.few;
        short = r.short;
        light = r.light;
      }

  module _ (p : Place) (at_place : p ≡ place_of s) where
    pub too_few : p.level.vertices < s.ranks → SeededHere s w w₁ 7
    too_few h =
        let m : vertex_count s.offsets < s.ranks = rw at_place at h in
        record {
          number_is = rw (none, rows-count, lt-ltb (vertex_count s.offsets) s.ranks m);
          refused = λ f. absurd (f none);
          seeds = λ q. let y : ◌≡◌ {A = ℕ} 7 0 = q in absurd (omega arith);
        }

    pub seeded : (w₂ : List ℕ) → s.ranks ≤ p.level.vertices → Seeded w₁ w₂ p.level p.scratch s.ranks → SeededHere s w w₂ 0
    seeded w₂ h r₀ =
        let m : s.ranks ≤ vertex_count s.offsets = rw at_place at h in
        let r : Seeded w₁ w₂ (place_of s).level (place_of s).scratch s.ranks = rw at_place at r₀ in
        record {
          number_is = rw (none, rows-count, le-ltb (vertex_count s.offsets) s.ranks m);
          refused = λ f. absurd (f none);
          seeds = λ _. rw (here.offsets_are, here.neighbors-are) at r.chosen;
        }

    module _ (cap : ℕ) (w₂ : List ℕ) (a : Result ℕ Refusal) (r₀ : GrownTold w₁ w₂ p.level p.scratch s.ranks cap a) where
      grown-here : GrownTold w₁ w₂ (place_of s).level (place_of s).scratch s.ranks cap a
      grown-here = rw at_place at r₀

      cause-here : growth_cause w₁ (place_of s).level s.ranks cap ≡ growth_cause_of s cap
      unfolding growth_cause
      cause-here = rw (here.offsets_are, here.neighbors-are, here.weights-are)

      -- the answer as its number and value
      pub grown-told : GrownHere s cap w w₂ (grown_value a) (number_of a)
      grown-told =
          record {
            number_is = rw none (grown-here.number ∙ cause-here);
            refused = λ f. absurd (f none);
            restarts-are = rw grown-here.number (rw (here.offsets_are, here.neighbors-are, here.weights-are) at grown-here.value);
            owners = λ _. rw (here.offsets_are, here.neighbors-are, here.weights-are) at grown-here.owners;
          }

    pub swappable : (n : ℕ) → bad_list_length n ≡ false → Swappable w₁ p.level p.scratch p.lists s.ranks n
    swappable n g =
        rw at_place
        (record { ready = ready-below; room = omega arith; lists-in = here.room; some-listed = (good-list-length n g).some; few-listed = (good-list-length n g).few; few = here.limits.few-ranks; ranked = here.ranked })
