-- The invariant: where site j begins, and that no sum wraps. Assumes nothing.
use Rattle.std.proofs.Common.{◌≡◌, ◌*◌, ◌≤◌}
use Rattle.telemetry.specs.Sites.{offsets_to, neighbors_to, owners_to}
use Rattle.telemetry.proofs.sites.place_of.Given as goal

abbrev pub invariant-loop-j : goal.invariant-loop-j
invariant-loop-j l =
    (l.place.offsets ≡ offsets_to l.sizes l.j) × (l.place.neighbors ≡ neighbors_to l.sizes l.j) × (l.place.owners ≡ owners_to l.sizes l.j)
    × (l.place.offsets ≤ 4294967296 * l.j) × (l.place.neighbors ≤ 4294967296 * l.j) × (l.place.owners ≤ 4294967296 * l.j)
