-- The papers' refusals: the cases of src/refusal.rt, each with its number. Assumes nothing.
use Rattle.std.specs.Prelude.{ℕ, Result, Ok, Err}
use Rattle.links.specs.declared.refusal.Refusal.{Refusal}
use Rattle.links.specs.declared.refusal.Refusal.TheVariants as refusal

-- Document 01's table, "causes and numbers", and the numbers that document 02's requests add.
abbrev pub refusal_number : Refusal → ℕ
refusal_number refusal.InvalidOptions = 1
refusal_number refusal.InvalidRankCount = 2
refusal_number refusal.LimitPassed = 3
refusal_number refusal.InvalidLists = 4
refusal_number refusal.SliceTooShort = 5
refusal_number refusal.GroupAboveCap = 6
refusal_number refusal.FewerGroupsThanRanks = 7
refusal_number refusal.GrowthStuck = 8
refusal_number refusal.EmptyRank = 9
refusal_number refusal.MalformedFile = 10
refusal_number refusal.VertexOutOfRange = 11
refusal_number refusal.RankOutOfRange = 12
refusal_number refusal.InvalidWorkloads = 13
refusal_number refusal.LoneVertex = 14
refusal_number refusal.InvalidSwaps = 17
refusal_number refusal.OwnersNotOnePerVertex = 18
refusal_number refusal.InvalidWindows = 19
refusal_number refusal.TooFewDays = 20
refusal_number refusal.InvalidVisits = 21
refusal_number refusal.InvalidSizes = 22

-- an answer's number: 0, or its refusal's
abbrev pub number_of : {T : Type 0} → Result T Refusal → ℕ
number_of (Ok x) = 0
number_of (Err e) = refusal_number e
