-- Request P10: the tests before a comparison, and what it answers. Assumes nothing.
use Rattle.std.specs.Prelude.{ℕ, ◌<◌, ◌≡◌, ◌&&◌, cond, List, length, replicate, eqb, Option, Some, None, Result, Ok, Err}
use Rattle.links.specs.Lists.{at}
use Rattle.links.specs.Graph.{vertex_count, rows_of, site_cause}
use Rattle.links.specs.Owners.{from_owners}
use Rattle.links.specs.Refusals.{number_of}
use Rattle.links.specs.declared.refusal.Refusal.{Refusal}
use Rattle.compare.specs.declared.order.Order.{Order}
use Rattle.compare.specs.declared.order.Order.TheVariants.{Same, First, Second}
use Rattle.compare.specs.declared.division.Comparison.{Comparison}
use Rattle.compare.specs.Order.{order_of, renaming_of}
use Rattle.compare.specs.Ordered.{Renames, Ordered}

-- the first of two causes, 0 if there is none
abbrev pub first_cause : ℕ → ℕ → ℕ
first_cause one other = cond (eqb one 0) other one

-- "18 for a list not n long"
unfoldable pub lengths_cause : ℕ → List ℕ → List ℕ → ℕ
lengths_cause n first second = cond (eqb (length first) n && eqb (length second) n) 0 18

-- "The site passes 3 (n and m only) and 4, then each list, with one k, the `from_owners` tests"; 18 "after both lists' tests"
unfoldable pub comparison_cause : List ℕ → List ℕ → ℕ → List ℕ → List ℕ → ℕ
comparison_cause offsets neighbors k first second =
    first_cause (site_cause offsets neighbors)
    (first_cause (from_owners k first) (first_cause (from_owners k second) (lengths_cause (vertex_count offsets) first second)))

-- ---- the answer: its number, its code, 0 for the same, 1 and 2 for the one that comes first, and its renaming; "a refusal added later returns zeros
-- with its number"

abbrev pub order_code : Option Order → ℕ
order_code (Some Same) = 0
order_code (Some First) = 1
order_code (Some Second) = 2
order_code None = 0

abbrev pub order_told : Result Comparison Refusal → Option Order
order_told (Ok c) = Some c.order
order_told (Err refusal) = None

abbrev pub renaming_told : Result Comparison Refusal → List ℕ
renaming_told (Ok c) = c.renaming
renaming_told (Err refusal) = replicate 256 0

-- the order of two divisions of a site, and none of a refusal
unfoldable pub order_for : List ℕ → List ℕ → ℕ → List ℕ → List ℕ → Option Order
order_for offsets neighbors k first second =
    cond (eqb (comparison_cause offsets neighbors k first second) 0) (Some (order_of (rows_of offsets neighbors) first second)) None

-- the promise: the answer, its number and the renaming are the defined ones;
pub record Compared (offsets neighbors : List ℕ) (k : ℕ) (first second : List ℕ) (r : Result Comparison Refusal) : Type 0 where
  pub answer : order_told r ≡ order_for offsets neighbors k first second
  pub number : number_of r ≡ comparison_cause offsets neighbors k first second
  pub renaming : renaming_told r ≡ renaming_of k first second (order_told r)
  -- the two are "called the same exactly when some renaming of crews turns one into the other, and that renaming is returned": the numbers returned
  -- do; and if any do, they are called the same, and these are the ones returned;
  pub renames : order_told r ≡ Some Same → Renames k (at (renaming_told r)) first second
  pub only
      : number_of r ≡ 0
      → (f : ℕ → ℕ)
      → Renames k f first second
      → (order_told r ≡ Some Same) × ((i : ℕ) → i < k → f i ≡ at (renaming_told r) i)
  -- and the order is what the request says of it, on all divisions of the site
  pub ordered : number_of r ≡ 0 → Ordered (rows_of offsets neighbors) k
