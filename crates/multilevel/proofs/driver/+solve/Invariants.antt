-- By the levels that are left: a level that is not coarsened is grown, else the coarser one is solved and taken over. Assumes nothing.
use Rattle.multilevel.proofs.driver.+solve.Given as goal

abbrev pub decreases-solve : goal.decreases-solve
decreases-solve l = l.left
