-- What `abtm_multilevel_partition` promises: its answer, its owners and its work at exit are those of the division, and the division has demand 3.
-- Assumes nothing.
use Rattle.std.specs.Prelude.{ℕ, ◌≡◌, List, ◌++◌, cond, length, drop, replicate, eqb, Result, Ok, Err}
use Rattle.links.specs.Options.{zero_stats}
use Rattle.links.specs.Refusals.{refusal_number, number_of}
use Rattle.links.specs.declared.refusal.Refusal.{Refusal}
use Rattle.links.specs.declared.options.AbtmMultilevelStats.{AbtmMultilevelStats}
use Rattle.multilevel.specs.Causes.{Call, need_of, early_cause}
use Rattle.multilevel.specs.Division.{Outcome, refused, divided, division}
use Rattle.multilevel.specs.Demand3.{Demand3}

-- document 01's stats of each answer: "zero stats" with a refusal; its number is number_of
abbrev pub answer_stats : Result AbtmMultilevelStats Refusal → AbtmMultilevelStats
answer_stats (Ok s) = s
answer_stats (Err e) = zero_stats

-- the answer that an outcome asks for: its stats, or the refusal with its number
abbrev pub Answers : Outcome → Result AbtmMultilevelStats Refusal → Type 0
Answers (refused number) r = (e : Refusal) × (r ≡ Err e) × (refusal_number e ≡ number)
Answers (divided owners s) r = r ≡ Ok s

abbrev pub outcome_number : Outcome → ℕ
outcome_number (refused number) = number
outcome_number (divided owners s) = 0

abbrev pub outcome_stats : Outcome → AbtmMultilevelStats
outcome_stats (refused number) = zero_stats
outcome_stats (divided owners s) = s

-- "on success the first n owners are written and the rest untouched"; a refusal leaves them as they were
abbrev pub owners_after : Outcome → List ℕ → List ℕ
owners_after (refused number) owners = owners
owners_after (divided written s) owners = written ++ drop (length written) owners

-- "after any division call past refusal 5 the needed work numbers are zero, those beyond untouched"; refusals 1 to 5, and 13
-- among them, leave "everything lent"
unfoldable pub work_after : Call → List ℕ → List ℕ
work_after c work = cond (eqb (early_cause c) 0) (replicate (need_of c) 0 ++ drop (need_of c) work) work

pub record Partitioned (c : Call) (owners owners' work work' : List ℕ) (answer : Result AbtmMultilevelStats Refusal) : Type 0 where
  -- the answer is the outcome's, and so are its number and stats
  pub answer-is : Answers (division c).outcome answer
  pub number_is : number_of answer ≡ outcome_number (division c).outcome
  pub stats-are : answer_stats answer ≡ outcome_stats (division c).outcome
  -- what is lent, at exit
  pub owners-are : owners' ≡ owners_after (division c).outcome owners
  pub work-is : work' ≡ work_after c work
  -- and demand 3 holds of this division
  pub demand3 : Demand3 c (division c)
